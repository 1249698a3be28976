use Rattle.std.proofs.Common.{◌≡◌, ◌∷◌, ◌+◌, ◌≤◌, ◌∙◌, List, ap, arith, drop, length, reverse, subst, sym, take}
use Rattle.std.proofs.lemmas.List.{drop_all}
use Rattle.tocmark_event.specs.View.{SourcedEvent}
use Rattle.tocmark_spelling.specs.Buffered.{buffered_view}
use Rattle.tocmark_spelling.specs.Runs.{start_width, run_after}
use Rattle.tocmark_spelling.proofs.Turns.{drop-event, length-events}
use Rattle.tocmark_write_emphasis.proofs.preferences.beyond_starts.Goals as goal

pub returns-then-place-saturating_sub : goal.returns-then-place-saturating_sub
returns-then-place-saturating_sub c =
    let es = c.args.unit.now.events in
    let k = c.args.place + 1 in
    let b = c.index-events-place.result in
    let at : drop k es ≡ buffered_view b ∷ drop (k + 1) es =
    subst (λ (xs : List SourcedEvent). drop k xs ≡ buffered_view b ∷ drop (k + 1) xs) c.events-events.ensures
    (drop-event c.events-events.result.now k b (omega (arith, c.if-place-saturating_sub.true, c.saturating_sub.ensures)) c.index-events-place.is) in
    c.behind_starts.ensures (drop (k + 1) es) at
    ∙ ap (run_after start_width) (sym at)

pub returns-else-place-saturating_sub : goal.returns-else-place-saturating_sub
returns-else-place-saturating_sub c =
    let es = c.args.unit.now.events in
    let k = c.args.place + 1 in
    let past : length es ≤ k = omega (arith, ap length c.events-events.ensures, length-events c.events-events.result.now, c.if-place-saturating_sub.false, c.saturating_sub.ensures) in
    ap (run_after start_width) (sym (drop_all k es past))
