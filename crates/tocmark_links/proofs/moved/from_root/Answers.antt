use Rattle.std.proofs.Common.{◌≡◌, ◌∙◌, ◌∷◌, ℕ, Bool, List, Some, rules, string_bytes, subst}
use Rattle.std.proofs.lemmas.Result.{IfOk-weaker}
use Rattle.tocmark_links.specs.Destinations.{IsFollowed}
use Rattle.tocmark_links.specs.Leading.{led_to, NamesItself}
use Rattle.tocmark_links.specs.declared.tree.Kind.{Kind}
use Rattle.tocmark_links.proofs.Moving.{from-root}
use Rattle.tocmark_links.proofs.moved.from_root.Goals as goal

pub returns : goal.returns
returns c =
    let place = c.args.place.now in
    let text = string_bytes c.in_ok-text.text in
    let slashed : string_bytes c.in_ok-path.path ≡ 47 ∷ text = search rules in
    IfOk-weaker c.with_path.result (λ new. IsFollowed c.as_str.result.now (string_bytes new)) (λ new. (is_book : Bool) (kinds : List ℕ → Kind) (from : List ℕ) → NamesItself is_book kinds place → led_to is_book kinds from (string_bytes new) ≡ Some place) (λ new f is_book kinds from names. from-root is_book kinds from text place (string_bytes new) c.in_ok-text.ensures.path c.in_ok-text.ensures.plain c.utf8.place (subst (λ p. IsFollowed p (string_bytes new)) (c.as_str.ensures.value ∙ slashed) f) names) c.with_path.ensures
