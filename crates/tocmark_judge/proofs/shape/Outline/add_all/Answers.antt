use Rattle.std.proofs.Common.{◌≡◌, ◌∙◌, ◌++◌, ◌∷◌, [], ◌+◌, ℕ, ap, subst, sym, List, append_assoc, take}
use Rattle.std.proofs.lemmas.List.{map_more}
use Rattle.tocmark_event.specs.Text.{ParserEvent, text_of}
use Rattle.tocmark_event.specs.View.{EventView, event_view}
use Rattle.tocmark_compare.specs.Given.{given_events}
use Rattle.tocmark_judge.specs.Shape.{Outlines}
use Rattle.tocmark_judge.proofs.shape.Outline.add_all.Goals as goal

pub loop-pair-preserved : goal.loop-pair-preserved
loop-pair-preserved c = λ before h.
    let some : List EventView = given_events (take c.loop-pair.pair-index c.args.events.now) in
    let one : List EventView = event_view text_of c.pair-item.result.0 ∷ [] in
    let more : some ++ one ≡ given_events (take (c.loop-pair.pair-index + 1) c.args.events.now) =
    ap (λ (e : ParserEvent × (ℕ × ℕ)). some ++ event_view text_of e.0 ∷ []) c.pair-item.is
    ∙ sym (map_more (λ (e : ParserEvent × (ℕ × ℕ)). event_view text_of e.0) c.args.events.now c.loop-pair.pair-index c.pair-item.result c.loop-pair-test.true) in
    subst (λ (es : List EventView). Outlines c.add.new.self es)
    (append_assoc before some one ∙ ap (λ es. before ++ es) more)
    (c.in_ok-add.ensures (before ++ some) (c.loop-pair.invariant before h))
