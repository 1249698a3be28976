use Rattle.std.proofs.Common.{◌≡◌, ◌∙◌, ◌++◌, ◌∷◌, [], ◌+◌, ℕ, ap, sym, List, take}
use Rattle.std.proofs.lemmas.List.{map_more}
use Rattle.tocmark_event.specs.Text.{ParserEvent, text_of}
use Rattle.tocmark_event.specs.View.{EventView, event_view}
use Rattle.tocmark_compare.specs.Given.{given_events}
use Rattle.tocmark_judge.specs.Same.{after, at_front, folded, folded_event}
use Rattle.tocmark_judge.specs.Summaries.{after_all}
use Rattle.tocmark_judge.proofs.Folding.{after-more, folded-more}
use Rattle.tocmark_differences.specs.Spots.{spot_view}
use Rattle.tocmark_differences.proofs.fold.folded.Goals as goal

pub loop-pair-preserved : goal.loop-pair-preserved
loop-pair-preserved c =
    let some : List EventView = given_events (take c.loop-pair.pair-index c.args.events.now) in
    let one : EventView = event_view text_of c.pair-item.result.0 in
    let more : some ++ one ∷ [] ≡ given_events (take (c.loop-pair.pair-index + 1) c.args.events.now) =
    ap (λ (e : ParserEvent × (ℕ × ℕ)). some ++ event_view text_of e.0 ∷ []) c.pair-item.is
    ∙ sym (map_more (λ (e : ParserEvent × (ℕ × ℕ)). event_view text_of e.0) c.args.events.now c.loop-pair.pair-index c.pair-item.result c.loop-pair-test.true) in
    let held = c.loop-pair.invariant in
    record {
      done =
          c.in_ok-add.ensures.events
          ∙ ap (λ es. es ++ folded_event (spot_view c.loop-pair.folding.spot) one) held.done
          ∙ ap (λ s. folded at_front some ++ folded_event s one) held.spot
          ∙ sym (folded-more at_front some one)
          ∙ ap (folded at_front) more;
      spot =
          c.in_ok-add.ensures.spot
          ∙ ap (λ s. after s one) held.spot
          ∙ sym (after-more at_front some one)
          ∙ ap (after_all at_front) more;
    }
