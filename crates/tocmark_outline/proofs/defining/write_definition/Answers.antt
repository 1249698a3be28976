use Rattle.std.proofs.Common.{◌∙◌, ◌++◌, ◌∷◌, [], ap, codes, List, ℕ, string_bytes}
use Rattle.std.proofs.lemmas.Result.{on_ok_weaker}
use Rattle.json.specs.Token.{Token, begin_object, boolean, end_object, key}
use Rattle.tocmark_outline.specs.Defining.{range_tokens, text_tokens}
use Rattle.tocmark_outline.proofs.Tokens.{then_adds}
use Rattle.tocmark_outline.proofs.defining.write_definition.Goals as goal

pub returns-clause-tokens : goal.returns-clause-tokens
returns-clause-tokens c =
    let o : List Token = c.args.writer.now.tokens in
    let d = c.args.it.now.definition in
    let a₀ : List Token = begin_object ∷ [] in
    let b₁ : List Token = text_tokens (codes "label") (string_bytes d.label) in
    let b₂ : List Token = text_tokens (codes "destination") (string_bytes d.destination) in
    let b₃ : List Token = text_tokens (codes "title") (string_bytes d.title) in
    let b₄ : List Token = range_tokens (codes "range") d.place.whole in
    let b₅ : List Token = range_tokens (codes "destination_range") d.place.destination in
    let b₆ : List Token = range_tokens (codes "title_range") d.place.title in
    let b₇ : List Token = key (codes "used") ∷ [] in
    let b₈ : List Token = boolean c.args.it.now.is_used ∷ [] in
    let a₁ : List Token = a₀ ++ b₁ in
    let a₂ : List Token = a₁ ++ b₂ in
    let a₃ : List Token = a₂ ++ b₃ in
    let a₄ : List Token = a₃ ++ b₄ in
    let a₅ : List Token = a₄ ++ b₅ in
    let a₆ : List Token = a₅ ++ b₆ in
    let a₇ : List Token = a₆ ++ b₇ in
    let label = c.in_ok-write_text.ensures.tokens
    ∙ ap (λ (s : List ℕ). c.begin_object.new.self.tokens ++ text_tokens (codes "label") s) c.as_str.ensures.value in
    let destination = c.in_ok-write_text-2.ensures.tokens
    ∙ ap (λ (s : List ℕ). c.write_text.new.writer.tokens ++ text_tokens (codes "destination") s) c.as_str-2.ensures.value in
    let title = c.in_ok-write_text-3.ensures.tokens
    ∙ ap (λ (s : List ℕ). c.write_text-2.new.writer.tokens ++ text_tokens (codes "title") s) c.as_str-3.ensures.value in
    let p₁ = then_adds o a₀ b₁ c.in_ok-begin_object.ensures.ok label in
    let p₂ = then_adds o a₁ b₂ p₁ destination in
    let p₃ = then_adds o a₂ b₃ p₂ title in
    let p₄ = then_adds o a₃ b₄ p₃ c.in_ok-write_range.ensures.tokens in
    let p₅ = then_adds o a₄ b₅ p₄ c.in_ok-write_range-2.ensures.tokens in
    let p₆ = then_adds o a₅ b₆ p₅ c.in_ok-write_range-3.ensures.tokens in
    let p₇ = then_adds o a₆ b₇ p₆ c.in_ok-key.ensures.ok in
    let p₈ = then_adds o a₇ b₈ p₇ c.in_ok-boolean.ensures.ok in
    on_ok_weaker c.end_object.result (λ last. then_adds o (a₇ ++ b₈) (end_object ∷ []) p₈ last) c.end_object.ensures.ok
