use Rattle.std.proofs.Common.{◌∙◌, sym, ap, arith}
use Rattle.tocmark_spelling.specs.Edges.{edge_after}
use Rattle.tocmark_spelling.specs.Page.{front}
use Rattle.tocmark_spelling.proofs.Turns.{drop-event}
use Rattle.tocmark_write_emphasis.proofs.preferences.edge_at.Goals as goal

pub returns-then-place-events : goal.returns-then-place-events
returns-then-place-events c =
    let a = c.args in
    c.first_edge.ensures ∙ ap (λ x. edge_after (front x)) (sym (drop-event a.events.now a.place _ (omega arith) c.index-events-place.is))
