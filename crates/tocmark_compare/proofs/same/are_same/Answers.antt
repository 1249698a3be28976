use Rattle.std.proofs.Common.{◌∙◌, refl, sym}
use Rattle.tocmark_event.specs.Merged.{merged}
use Rattle.tocmark_compare.proofs.SameIsEqual.{same-equal}
use Rattle.tocmark_compare.specs.Given.{given_events}
use Rattle.tocmark_compare.proofs.same.are_same.Goals as goal

pub returns-then-are_equal : goal.returns-then-are_equal
returns-then-are_equal g c =
    let equal = same-equal (given_events c.args.found.now) (given_events c.args.given.now) (sym c.are_equal.ensures ∙ c.if-are_equal.true) in
    (λ _ j. merged (equal j), λ _. refl)
