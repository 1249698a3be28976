use Rattle.std.proofs.Common.{List, subst, true, false}
use Rattle.tocmark_event.specs.View.{SourcedEvent}
use Rattle.tocmark_spelling.specs.PlanOf.{setting_of}
use Rattle.tocmark_write_pending.specs.Ahead.{AreDisturbed}
use Rattle.tocmark_write_emphasis.proofs.columns.columns_of.Goals as goal

pub returns : goal.returns
returns g c =
    record {
      by_runs = λ o flags label. subst (λ (es : List SourcedEvent). AreDisturbed (setting_of o flags (g.R.Reader.reading c.args.reader.now) label) true es c.in_ok-by_runs.by_runs.items) c.events-events.ensures (c.in_ok-by_runs.ensures o flags label);
      by_neighbours = λ o flags label. subst (λ (es : List SourcedEvent). AreDisturbed (setting_of o flags (g.R.Reader.reading c.args.reader.now) label) false es c.in_ok-by_neighbours.by_neighbours.items) c.events-events.ensures (c.in_ok-by_neighbours.ensures o flags label);
    }
