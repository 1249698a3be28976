use Rattle.std.proofs.Common.{◌≡◌, ◌∷◌, ◌+◌, ◌∙◌, Option, ap, arith, drop, reverse, subst, take, List, length}
use Rattle.std.specs.Prelude.{unwrap_or}
use Rattle.tocmark_event.specs.View.{SourcedEvent}
use Rattle.tocmark_spelling.specs.Buffered.{buffered_view, following_view}
use Rattle.tocmark_spelling.specs.Edges.{edge_after}
use Rattle.tocmark_spelling.specs.Marker.{ends_delimiter}
use Rattle.tocmark_spelling.specs.Page.{front}
use Rattle.tocmark_spelling.specs.Runs.{Run}
use Rattle.tocmark_spelling.specs.Words.{or_else}
use Rattle.tocmark_spelling.proofs.Turns.{drop-event, length-events}
use Rattle.tocmark_write_emphasis.specs.NodeOf.{no_run}
use Rattle.tocmark_write_emphasis.proofs.Nodes.{literals-low, node-is}
use Rattle.tocmark_write_emphasis.proofs.node.node_at.Goals as goal

pub returns-clause-node : goal.returns-clause-node
returns-clause-node c = λ reading cols t rest begins.
    let a = c.args in
    let es = a.unit.now.events in
    let i = a.place in
    let end = c.body_end-end.result in
    let b = c.index-events-place.result in
    let same = c.events-events.ensures in
    let event : drop i es ≡ buffered_view b ∷ drop (i + 1) es =
    subst (λ (xs : List SourcedEvent). drop i xs ≡ buffered_view b ∷ drop (i + 1) xs) same
    (drop-event c.events-events.result.now i b (omega (arith, c.requires.within, ap length same, length-events c.events-events.result.now)) c.index-events-place.is) in
    node-is reading es rest i end (buffered_view b) t a.columns.now a.preferred (following_view a.next) _ cols (c.body_end-end.ensures.start es t rest c.ends.ensures begins.at) event begins (record {
      strong = c.starts_strong.ensures;
      follows = c.follows_closing.ensures ∙ ap (λ (xs : List SourcedEvent). ends_delimiter (front (reverse (take i xs)))) same;
      next_is = c.edge_after.ensures ∙ ap edge_after (c.following.ensures ∙ ap (λ (xs : List SourcedEvent). or_else (front (drop (end + 1) xs)) (following_view a.next)) same);
      opening = c.run_or_none.ensures ∙ ap (λ (o : Option Run). unwrap_or o no_run) c.run_at.ensures;
      closing = c.run_or_none-2.ensures ∙ ap (λ (o : Option Run). unwrap_or o no_run) c.run_at-2.ensures;
      width = c.width_at.ensures;
      prefers = c.prefers.ensures;
    })

pub returns-clause-low : goal.returns-clause-low
returns-clause-low c =
    literals-low c.args.unit.now.events c.args.place c.body_end-end.result _
    (c.run_or_none.ensures ∙ ap (λ (o : Option Run). unwrap_or o no_run) c.run_at.ensures)
    (c.run_or_none-2.ensures ∙ ap (λ (o : Option Run). unwrap_or o no_run) c.run_at-2.ensures)
