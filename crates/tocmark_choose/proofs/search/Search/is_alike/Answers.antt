use Rattle.std.proofs.Common.{◌∙◌, false, subst, sym}
use Rattle.tocmark_choose.specs.Alike.{AreAlike}
use Rattle.tocmark_choose.specs.declared.alike.Place.TheVariants.{Front}
use Rattle.tocmark_choose.proofs.search.Search.is_alike.Goals as goal

pub returns : goal.returns
returns g c = λ h. (sym c.is_checked.ensures ∙ c.if-is_checked.false, subst (AreAlike false Front) c.events.ensures (c.are_alike.ensures h))
