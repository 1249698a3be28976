use Rattle.std.proofs.Common.{◌∙◌, ap, string_bytes}
use Rattle.std.specs.Option.{option_map}
use Rattle.std.proofs.lemmas.List.{map-append}
use Rattle.tocmark_event.specs.Text.{text_of}
use Rattle.tocmark_event.specs.View.{event_view}
use Rattle.tocmark_event.proofs.Merging.{no_text}
use Rattle.tocmark_compare.specs.Given.{given_events}
use Rattle.tocmark_differences.proofs.Fronts.{view}
use Rattle.tocmark_differences.proofs.Stretches.{text-step, other-step}
use Rattle.tocmark_differences.proofs.merge.merged.Goals as goal
use Rattle.tocmark_differences.proofs.merge.merged.Goals.{in-Text+in_ok-longer-in-Text, in_default+in_ok-push_stretch-in_default+in_ok-to_static-in_default+in_ok-push-in_default}

pub loop-pair-preserved : goal.loop-pair-preserved
loop-pair-preserved c =
    elim c.match-pair.branch [
      | in-Text+in_ok-longer-in-Text w ↦
          rw (w.all-is, w.stretch-is, w.in_ok-longer-in-Text.ensures, w.words.ensures)
          (text-step view (given_events c.loop-pair.all.items) (option_map string_bytes c.loop-pair.stretch) c.args.events.now c.loop-pair.pair-index c.pair-item.result c.loop-pair-test.true c.pair-item.is (text_of w.in-Text.text) (ap (event_view text_of) w.in-Text.is)
          ∙ c.loop-pair.invariant)
      | in_default+in_ok-push_stretch-in_default+in_ok-to_static-in_default+in_ok-push-in_default w ↦
          rw (w.all-is, w.stretch-is, w.in_ok-push-in_default.ensures.items, map-append view w.push_stretch.new.all.items, w.in_ok-to_static-in_default.ensures, w.in_ok-push_stretch-in_default.ensures)
          (other-step view (given_events c.loop-pair.all.items) (option_map string_bytes c.loop-pair.stretch) c.args.events.now c.loop-pair.pair-index c.pair-item.result c.loop-pair-test.true c.pair-item.is (no_text text_of c.pair-item.result.0 w.in_default.not-Text)
          ∙ c.loop-pair.invariant)
    ]
