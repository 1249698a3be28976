use Rattle.std.proofs.Common.{◌≡◌, ◌-◌, ◌++◌, ◌∙◌, ℕ, List, ap, arith, replicate, string_bytes, take}
use Rattle.std.proofs.lemmas.List.{take-replicate}
use Rattle.tocmark_write_containers.proofs.prefix.put_spaces.Goals as goal

pub returns-then-count-clause-bytes : goal.returns-then-count-clause-bytes
returns-then-count-clause-bytes c =
    let spaces : List ℕ = replicate 16 32 in
    let count : c.args.count - 0 ≡ c.args.count = omega arith in
    c.put.ensures.bytes
    ∙ ap (λ t. string_bytes c.args.text.now ++ t) (c.range.ensures.value ∙ ap (λ n. take n spaces) count ∙ take-replicate {X = ℕ} c.args.count 16 32 c.if-count.true)
