use Rattle.std.proofs.Common.{◌≡◌, ◌∷◌, ◌+◌, ◌-◌, ◌<◌, ◌∙◌, List, ap, arith, drop, length, reverse, subst, sym, take}
use Rattle.tocmark_event.specs.View.{SourcedEvent}
use Rattle.tocmark_spelling.specs.Buffered.{buffered_view}
use Rattle.tocmark_spelling.specs.Runs.{run_before, start_width}
use Rattle.tocmark_spelling.proofs.Turns.{drop-event, length-events}
use Rattle.tocmark_write_pending.proofs.Ahead.{place-before}
use Rattle.tocmark_write_emphasis.proofs.preferences.beyond_before.Goals as goal

pub returns-else-place-eq0 : goal.returns-else-place-eq0
returns-else-place-eq0 c =
    let es = c.args.unit.now.events in
    let k = c.args.place - 1 in
    let b = c.index-events-place.result in
    let more : k + 1 ≡ c.args.place = omega (arith, c.if-place-eq0.false) in
    let inside : k < length c.events-events.result.now = omega (arith, c.requires, c.if-place-eq0.false, ap length c.events-events.ensures, length-events c.events-events.result.now) in
    let at : drop k es ≡ buffered_view b ∷ drop (k + 1) es =
    subst (λ (xs : List SourcedEvent). drop k xs ≡ buffered_view b ∷ drop (k + 1) xs) c.events-events.ensures
    (drop-event c.events-events.result.now k b inside c.index-events-place.is) in
    c.before_starts.ensures (drop (k + 1) es) at
    ∙ ap (run_before start_width) (sym (place-before es (drop (k + 1) es) k (buffered_view b) at) ∙ ap (λ n. reverse (take n es)) more)
