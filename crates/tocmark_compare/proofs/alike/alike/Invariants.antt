use Rattle.std.proofs.Common.{◌≡◌, ◌++◌, ◌+◌, map, string_bytes, length}
use Rattle.tocmark_event.specs.Merged.{merged}
use Rattle.tocmark_event.specs.Text.{text_of}
use Rattle.tocmark_event.specs.View.{event_view}
use Rattle.tocmark_spelling.specs.Buffered.{event_of}
use Rattle.tocmark_spelling.specs.SameEvents.{same_events}
use Rattle.tocmark_compare.specs.Alike.{alike, cut, expected_view}
use Rattle.tocmark_compare.proofs.alike.alike.Given as goal

abbrev pub invariant-loop-same : goal.invariant-loop-same
invariant-loop-same l =
    alike l.at.begun (cut l.at.found (map (λ e. event_view text_of e.0) l.left)) (cut l.at.expected (expected_view l.right))
    ≡ same_events (merged (map (λ e. event_view text_of e.0) l.found)) (merged (map event_of l.body ++ map (event_view string_bytes) l.behind))

abbrev pub decreases-loop-same : goal.decreases-loop-same
decreases-loop-same l = length l.left + length (expected_view l.right)
