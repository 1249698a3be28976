use Rattle.std.proofs.Common.{◌∙◌, Bool, List, subst, sym}
use Rattle.tocmark_write_inlines.specs.Named.{AreNamed}
use Rattle.tocmark_write_unit.proofs.Unasked.{named-unasked}
use Rattle.tocmark_write_unit.proofs.findings.named_if.Goals as goal

pub returns-else-has_links : goal.returns-else-has_links
returns-else-has_links g c =
    let a = c.args in
    let reading = g.R.Reader.reading a.reader.now in
    let P : List Bool → Type 0 = AreNamed reading a.flags a.unit.now.events in
    subst P (sym c.new.ensures.items) (named-unasked reading a.flags a.unit.now.events (sym c.requires.links ∙ c.if-has_links.false))
