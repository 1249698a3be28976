use Rattle.std.proofs.Common.{◌∙◌, ap, map, string_bytes}
use Rattle.std.specs.Option.{option_map}
use Rattle.std.proofs.lemmas.List.{map-append}
use Rattle.tocmark_event.specs.View.{event_view}
use Rattle.tocmark_event.proofs.Merging.{text_step, other_step, all_merged}
use Rattle.tocmark_event.proofs.event.merge_all.Goals as goal
use Rattle.tocmark_event.proofs.event.merge_all.Goals.{in-Text+in_ok-joined-in-Text, in_default+in_ok-push_text-in_default+in_ok-copied-in_default+in_ok-push-in_default}

pub loop-event-preserved : goal.loop-event-preserved
loop-event-preserved g c =
    let bytes = g.T.Words.bytes in
    let made = event_view g.U.Words.bytes in
    elim c.match-event.branch [
      | in-Text+in_ok-joined-in-Text w ↦
          rw (w.all-is, w.pending-is, w.in_ok-joined-in-Text.ensures, w.words.ensures)
          (text_step bytes (map made c.loop-event.all.items) (option_map string_bytes c.loop-event.pending) c.args.events.now c.loop-event.event-index c.event-item.result c.loop-event-test.true c.event-item.is (bytes w.in-Text.text) (ap (event_view bytes) w.in-Text.is)
          ∙ c.loop-event.invariant)
      | in_default+in_ok-push_text-in_default+in_ok-copied-in_default+in_ok-push-in_default w ↦
          rw (w.all-is, w.pending-is, w.in_ok-push-in_default.ensures.items, map-append made w.push_text.new.events.items, w.in_ok-copied-in_default.ensures, w.in_ok-push_text-in_default.ensures)
          (other_step bytes (map made c.loop-event.all.items) (option_map string_bytes c.loop-event.pending) c.args.events.now c.loop-event.event-index c.event-item.result c.loop-event-test.true c.event-item.is w.in_default.not-Text
          ∙ c.loop-event.invariant)
    ]

pub returns : goal.returns
returns g c =
    c.in_ok-push_text.ensures
    ∙ all_merged g.T.Words.bytes (map (event_view g.U.Words.bytes) c.loop-event.all.items) _ (option_map string_bytes c.loop-event.pending) c.args.events.now c.loop-event.event-index c.loop-event-test.false c.loop-event.invariant
