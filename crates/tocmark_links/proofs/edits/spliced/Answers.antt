use Rattle.std.proofs.Common.{◌∙◌, ap, ◌++◌, arith, string_bytes, refl}
use Rattle.tocmark_links.proofs.Splicing.{splices-more, splices-end, nothing-yet, piece, tail}
use Rattle.tocmark_links.proofs.edits.spliced.Goals as goal

pub loop-edit-init : goal.loop-edit-init
loop-edit-init c = rw c.new-new.ensures.bytes (nothing-yet c.args.text.now c.args.edits.now)

pub loop-edit-preserved : goal.loop-edit-preserved
loop-edit-preserved c =
    let text = c.args.text.now in
    let cut = c.in-Some.ensures.cases in
    splices-more text c.args.edits.now c.loop-edit.edit-index c.loop-edit.at c.edit-item.result (string_bytes c.loop-edit.new) c.in-Some.kept.now (string_bytes c.push_str-in-loop-edit.new.self) c.loop-edit-test.true c.edit-item.is (omega (arith, cut.1)) c.if-edit.false (piece text c.in-Some.kept.now c.loop-edit.at c.edit-item.result.start (omega (arith, cut.1)) cut.0)
    (
    c.in_ok-push_str-2.ensures.bytes
    ∙ ap (λ xs. xs ++ c.as_str.result.now) c.in_ok-push_str.ensures.bytes
    ∙ ap (λ xs. (string_bytes c.loop-edit.new ++ c.in-Some.kept.now) ++ xs) c.as_str.ensures.value
    )
    c.loop-edit.invariant

pub returns : goal.returns
returns c =
    let text = c.args.text.now in
    let cut = c.in-Some-get.ensures.cases in
    let all = splices-end text c.args.edits.now c.loop-edit.edit-index c.loop-edit.at (string_bytes c.loop-edit.new) c.in-Some-get.kept.now (string_bytes c.push_str-2.new.self) c.loop-edit-test.false (omega (arith, cut.1)) (tail text c.in-Some-get.kept.now c.loop-edit.at cut.0) c.in_ok-push_str-3.ensures.bytes c.loop-edit.invariant in
    record { apart = all.0; bytes = all.1 }
