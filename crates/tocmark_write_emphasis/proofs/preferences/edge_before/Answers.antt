use Rattle.std.proofs.Common.{◌≡◌, ◌∙◌, ◌+◌, ◌-◌, sym, ap, map, take, reverse, arith}
use Rattle.tocmark_spelling.specs.Buffered.{buffered_view}
use Rattle.tocmark_spelling.specs.Edges.{edge_before}
use Rattle.tocmark_spelling.specs.Page.{front}
use Rattle.tocmark_spelling.proofs.Turns.{before-event, events-take}
use Rattle.tocmark_write_emphasis.proofs.preferences.edge_before.Goals as goal

pub returns-else-place-eq0 : goal.returns-else-place-eq0
returns-else-place-eq0 c =
    let a = c.args in
    let k = a.place - 1 in
    let q : k + 1 ≡ a.place = omega arith in
    c.last_edge.ensures
    ∙ ap (λ x. edge_before (front x)) (sym (before-event a.events.now k _ (omega arith) c.index-events-place.is))
    ∙ ap (λ n. edge_before (front (reverse (map buffered_view (take n a.events.now))))) q
    ∙ ap (λ x. edge_before (front (reverse x))) (events-take a.events.now a.place)
