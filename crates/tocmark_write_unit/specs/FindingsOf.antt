-- What is found out of a unit's events once.
use Rattle.std.specs.Prelude.{◌≡◌, true, List}
use Rattle.std.specs.List.{list_any}
use Rattle.tocmark_write_pending.specs.BodyFacts.{AreFacts}
use Rattle.tocmark_write_emphasis.specs.ColumnsOf.{AreColumns}
use Rattle.tocmark_event.specs.Options.{OptionsView}
use Rattle.tocmark_event.specs.View.{SourcedEvent}
use Rattle.tocmark_event.specs.declared.event.flags.ParserOptions.{ParserOptions}
use Rattle.tocmark_write_inlines.specs.Named.{AreNamed}
use Rattle.tocmark_write_blocks.specs.Kinds.{opens}
use Rattle.tocmark_write_blocks.specs.Raw.{AreRaw}
use Rattle.tocmark_write_renderer.specs.JobOf.{Reading}
use Rattle.tocmark_write_unit.specs.CensusOf.{asks_body, has_emphasis, IsCensus}
use Rattle.tocmark_write_unit.specs.declared.findings.Findings.{Findings}

-- the findings are those of these events, with this reader, these options and these flags; what bodies are like is found
-- where some opening asks for it, and the columns of emphasis where there is some
pub record AreFindings (reading : Reading) (o : OptionsView) (flags : ParserOptions) (es : List SourcedEvent) (found : Findings) : Type 0 where
  pub census : IsCensus es found.census
  pub facts : list_any (opens asks_body) es ≡ true → AreFacts es found.facts.items
  pub raw : AreRaw o es found.raw.items
  pub named : AreNamed reading flags es found.named.items
  pub emphasis : has_emphasis es ≡ true → AreColumns reading es found.emphasis
