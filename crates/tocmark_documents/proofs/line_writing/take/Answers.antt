use Rattle.std.proofs.Common.{◌≡◌, [], ◌∷◌, ◌++◌, List, ap, ◌∙◌, refl, subst, string_bytes}
use Rattle.std.specs.Iterator.Adapters.{once_item}
use Rattle.tocmark_event.specs.Text.{text_of}
use Rattle.tocmark_event.specs.View.{event_view}
use Rattle.tocmark_state.specs.Ranges.{Pair}
use Rattle.tocmark_state.specs.WorkView.{ranged_pairs}
use Rattle.tocmark_documents.specs.LineWriting.{HasTaken}
use Rattle.tocmark_documents.proofs.LinesTaken.{more_taken, one_given}
use Rattle.tocmark_documents.proofs.line_writing.take.Goals as goal

pub returns : goal.returns
returns c = λ options flags taken h.
    let source = c.args.source.now in
    let call = c.process_with_source_range in
    let a = c.in_ok-process_with_source_range.ensures.active h.stands.active in
    let given : ranged_pairs a.1 ≡ (event_view text_of c.args.event.now, c.args.range) ∷ [] =
    one_given a.1 (c.args.event, c.args.range) {s = a.0} (ap once_item a.2 ∙ c.once-one.ensures.item) (a.3.0, a.3.1, λ _. a.3.2 refl) in
    let b = a.4 flags taken h.stands in
    subst (λ (ps : List Pair). HasTaken options flags source (taken ++ ps) call.new.self (string_bytes call.new.writer)) given
    (more_taken options flags source c.args.state.now c.args.output.now call.new.writer b.more call.new.self taken (ranged_pairs a.1) h c.in_ok-process_with_source_range.ensures.stands c.in_ok-process_with_source_range.ensures.same b.added b.made.0 b.made.1)
