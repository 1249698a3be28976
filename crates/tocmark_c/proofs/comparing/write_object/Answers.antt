use Rattle.std.proofs.Common.{◌∙◌, ◌++◌, ◌∷◌, [], ap, codes, List, ℕ, string_bytes}
use Rattle.std.proofs.lemmas.Result.{on_ok_weaker}
use Rattle.json.specs.Token.{Token, begin_object, end_object}
use Rattle.tocmark_c.specs.Comparing.{lines_tokens, text_tokens}
use Rattle.tocmark_c.proofs.Listed.{then_adds}
use Rattle.tocmark_c.proofs.comparing.write_object.Goals as goal

pub returns-clause-tokens : goal.returns-clause-tokens
returns-clause-tokens c =
    let o : List Token = c.args.writer.now.tokens in
    let a₀ : List Token = begin_object ∷ [] in
    let b₁ : List Token = text_tokens (codes "kind") c.args.kind.now in
    let b₂ : List Token = text_tokens (codes "what") c.args.it.now.what.now in
    let b₃ : List Token = lines_tokens (codes "old") c.args.it.now.old in
    let b₄ : List Token = lines_tokens (codes "new") c.args.it.now.new in
    let b₅ : List Token = text_tokens (codes "was") (string_bytes c.args.it.now.was) in
    let b₆ : List Token = text_tokens (codes "is") (string_bytes c.args.it.now.is) in
    let b₇ : List Token = text_tokens (codes "message") c.args.message.now in
    let a₁ : List Token = a₀ ++ b₁ in
    let a₂ : List Token = a₁ ++ b₂ in
    let a₃ : List Token = a₂ ++ b₃ in
    let a₄ : List Token = a₃ ++ b₄ in
    let a₅ : List Token = a₄ ++ b₅ in
    let a₆ : List Token = a₅ ++ b₆ in
    let was = c.in_ok-write_text-3.ensures.tokens
    ∙ ap (λ (s : List ℕ). c.write_lines-2.new.writer.tokens ++ text_tokens (codes "was") s) c.as_str.ensures.value in
    let is = c.in_ok-write_text-4.ensures.tokens
    ∙ ap (λ (s : List ℕ). c.write_text-3.new.writer.tokens ++ text_tokens (codes "is") s) c.as_str-2.ensures.value in
    let p₁ = then_adds o a₀ b₁ c.in_ok-begin_object.ensures.ok c.in_ok-write_text.ensures.tokens in
    let p₂ = then_adds o a₁ b₂ p₁ c.in_ok-write_text-2.ensures.tokens in
    let p₃ = then_adds o a₂ b₃ p₂ c.in_ok-write_lines.ensures.tokens in
    let p₄ = then_adds o a₃ b₄ p₃ c.in_ok-write_lines-2.ensures.tokens in
    let p₅ = then_adds o a₄ b₅ p₄ was in
    let p₆ = then_adds o a₅ b₆ p₅ is in
    let p₇ = then_adds o a₆ b₇ p₆ c.in_ok-write_text-5.ensures.tokens in
    on_ok_weaker c.end_object.result (λ last. then_adds o (a₆ ++ b₇) (end_object ∷ []) p₇ last) c.end_object.ensures.ok
