use Rattle.std.proofs.Common.{◌≡◌, ◌-◌, ◌∙◌, ℕ, List, ap, arith, replicate, take}
use Rattle.std.proofs.lemmas.List.{take-replicate}
use Rattle.tocmark_write_renderer.proofs.laying.few_feeds.Goals as goal

pub returns-then-count : goal.returns-then-count
returns-then-count c =
    let feeds : List ℕ = replicate 4 10 in
    let count : c.args.count - 0 ≡ c.args.count = omega arith in
    c.range.ensures.value ∙ ap (λ n. take n feeds) count ∙ take-replicate {X = ℕ} c.args.count 4 10 c.if-count.true
