use Rattle.std.proofs.Common.{◌≡◌, length, map, ℕ, List, [], Option, ◌++◌, take, drop, reverse}
use Rattle.std.specs.Prelude.{is_some}
use Rattle.tocmark_event.specs.Options.{OptionsView}
use Rattle.tocmark_event.specs.declared.event.flags.ParserOptions.{ParserOptions}
use Rattle.tocmark_write_pending.specs.Ahead.{disturbers}
use Rattle.tocmark_spelling.specs.Buffered.{buffered_view}
use Rattle.tocmark_spelling.specs.PlanOf.{setting_of}
use Rattle.tocmark_write_emphasis.proofs.preferences.disturbers.Given as goal

abbrev pub invariant-loop-event : goal.invariant-loop-event
invariant-loop-event g l =
    record {
      len : length l.marks.items ≡ l.event-index;
      marks : (o : OptionsView) (flags : ParserOptions) (label : Option (List ℕ)) → l.marks.items ++ disturbers (setting_of o flags (g.R.Reader.reading l.reader) label) (is_some l.by_runs) (reverse (take l.event-index (map buffered_view l.events))) (drop l.event-index (map buffered_view l.events)) ≡ disturbers (setting_of o flags (g.R.Reader.reading l.reader) label) (is_some l.by_runs) [] (map buffered_view l.events);
    }
