use Rattle.std.proofs.Common.{◌∙◌, List, subst, sym}
use Rattle.tocmark_event.specs.Options.{options_view}
use Rattle.tocmark_write_blocks.specs.Raw.{AreRaw}
use Rattle.tocmark_write_blocks.specs.declared.raw_facts.RawFacts.{RawFacts}
use Rattle.tocmark_write_unit.proofs.Unasked.{raw-unasked}
use Rattle.tocmark_write_unit.proofs.findings.raw_if.Goals as goal

pub returns-else-has_raw : goal.returns-else-has_raw
returns-else-has_raw c =
    let a = c.args in
    let P : List RawFacts → Type 0 = AreRaw (options_view a.options.now) a.unit.now.events in
    subst P (sym c.new.ensures.items) (raw-unasked (options_view a.options.now) a.unit.now.events (sym c.requires.raw ∙ c.if-has_raw.false))
