use Rattle.std.proofs.Common.{◌≡◌}
use Rattle.std.specs.List.{fold}
use Rattle.tocmark_event.specs.declared.event.MetadataBlockKind.TheVariants as metadata
use Rattle.tocmark_read_lines.proofs.LineEnds.{lines_at}
use Rattle.tocmark_read_lines.specs.Lines.{lines_of}
use Rattle.tocmark_read_constructs.specs.Metadata.{last_step, last_closing}
use Rattle.tocmark_read_constructs.proofs.metadata.last_closings.Given as goal

abbrev pub invariant-loop-at : goal.invariant-loop-at
invariant-loop-at l =
    record {
      yaml : fold (last_step metadata.YamlStyle l.text) l.yaml (lines_at l.text l.before l.start l.at-iterator) ≡ last_closing metadata.YamlStyle l.text (lines_of l.text);
      pluses : fold (last_step metadata.PlusesStyle l.text) l.pluses (lines_at l.text l.before l.start l.at-iterator) ≡ last_closing metadata.PlusesStyle l.text (lines_of l.text);
    }
