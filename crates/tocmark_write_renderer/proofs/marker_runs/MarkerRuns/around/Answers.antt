use Rattle.std.proofs.Common.{◌∙◌, ap, length, min, reverse, subst, sym}
use Rattle.tocmark_write_renderer.specs.RunsOf.{AreInOrder, length_round}
use Rattle.tocmark_write_renderer.proofs.Notes.{order-noted, round-noted}
use Rattle.tocmark_write_renderer.proofs.marker_runs.MarkerRuns.around.Goals as goal

pub length_round-requires : goal.length_round-requires
length_round-requires c =
    let limit = length (reverse c.args.text.now) in
    (limit, subst (λ runs. AreInOrder limit (reverse runs)) (sym c.deref.ensures.value) (order-noted c.args.self.now c.args.text.now c.requires))

pub returns-then-is_marker : goal.returns-then-is_marker
returns-then-is_marker c =
    c.length_round.ensures
    ∙ ap (λ place. length_round c.args.byte place (reverse c.deref.result.now)) c.min.ensures
    ∙ ap (λ runs. length_round c.args.byte (min c.args.place (length c.args.text.now)) (reverse runs)) c.deref.ensures.value
    ∙ round-noted c.args.self.now c.args.text.now c.args.byte c.args.place c.requires (sym c.if-is_marker.ensures)
