use Rattle.std.proofs.Common.{sym, map, string_bytes, ◌++◌}
use Rattle.tocmark_event.specs.Merged.{merged}
use Rattle.tocmark_event.specs.Text.{text_of}
use Rattle.tocmark_event.specs.View.{event_view}
use Rattle.tocmark_spelling.specs.Buffered.{event_of}
use Rattle.tocmark_spelling.specs.SameEvents.{same_events}
use Rattle.tocmark_compare.specs.Alike.{alike, cut, expected_view}
use Rattle.tocmark_compare.proofs.Comparisons.{both-passed}
use Rattle.tocmark_compare.proofs.alike.alike.Goals as goal

pub loop-same-preserved : goal.loop-same-preserved
loop-same-preserved c =
    both-passed (λ e. event_view text_of e.0) c.loop-same.left.now c.rest_found-left-in-Both.result.now (expected_view c.loop-same.right) (expected_view c.rest-right-in-Both.result)
    (alike c.loop-same.at.begun (cut c.loop-same.at.found (map (λ e. event_view text_of e.0) c.loop-same.left.now)) (cut c.loop-same.at.expected (expected_view c.loop-same.right)))
    (same_events (merged (map (λ e. event_view text_of e.0) c.args.found.now)) (merged (map event_of c.args.body.now ++ map (event_view string_bytes) c.args.behind.now)))
    c.rest_found-left-in-Both.ensures c.rest-right-in-Both.ensures
    (c.in-Both.ensures.onward (map (λ e. event_view text_of e.0) c.loop-same.left.now) (expected_view c.loop-same.right) (sym c.first_found.ensures) (sym c.first.ensures))
    c.loop-same.invariant
