use Rattle.std.proofs.Common.{◌≡◌, ◌≤◌, ◌-◌, ◌++◌, ℕ, List, Option, length, map, drop}
use Rattle.tocmark_event.specs.Options.{OptionsView}
use Rattle.tocmark_spelling.specs.Buffered.{buffered_view}
use Rattle.tocmark_spelling.specs.PlanOf.{setting_of}
use Rattle.tocmark_write_inlines.proofs.Names.{names}
use Rattle.tocmark_write_inlines.proofs.named.named.Given as goal

abbrev pub invariant-loop-i : goal.invariant-loop-i
invariant-loop-i g l =
    record {
      within : l.i ≤ length l.events;
      same : (o : OptionsView) (label : Option (List ℕ)) →
          l.found.items ++ names (setting_of o l.flags (g.R.Reader.reading l.reader) label) (drop l.i (map buffered_view l.events))
          ≡ names (setting_of o l.flags (g.R.Reader.reading l.reader) label) (map buffered_view l.events);
    }

abbrev pub decreases-loop-i : goal.decreases-loop-i
decreases-loop-i g l = length l.events - l.i
