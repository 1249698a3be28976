use Rattle.std.proofs.Common.{◌∙◌, ◌++◌, ◌∷◌, [], ap, map, subst}
use Rattle.tocmark_event.specs.Text.{text_of}
use Rattle.tocmark_event.specs.View.{event_view}
use Rattle.tocmark_compare.specs.Digest.{Adds}
use Rattle.tocmark_compare.specs.declared.digest.Digest.{Digest}
use Rattle.tocmark_compare.proofs.Digests.{mark-put, other-put, text-put}
use Rattle.tocmark_compare.proofs.digest.Digest.put.Goals as goal

pub returns-in-Some : goal.returns-in-Some
returns-in-Some c =
    text-put c.args.self.now c.put_bytes.new.self c.in-Some.bytes.now (event_view text_of c.args.event.now) c.in-Some.ensures
    c.in_ok-put_bytes.ensures.bytes c.put_bytes.ensures.others

pub returns-in-Some-mark_of : goal.returns-in-Some-mark_of
returns-in-Some-mark_of c =
    mark-put c.args.self.now c.put_mark.new.self c.in-Some-mark_of.mark (event_view text_of c.args.event.now)
    c.in-Some-mark_of.ensures c.in_ok-put_mark.ensures.bytes c.put_mark.ensures.others

pub returns : goal.returns
returns c =
    let e = event_view text_of c.args.event.now in
    let adds : Adds c.put_linked.new.self c.put_other.new.self e =
    other-put c.put_linked.new.self c.put_other.new.self e
    (ap (λ bytes. bytes.items) c.put_other.ensures.bytes ∙ c.in_ok-put_mark-2.ensures.bytes)
    (c.in_ok-put_other.ensures.others
    ∙ ap (λ os. map (event_view text_of) os.items ++ e ∷ []) c.put_mark-2.ensures.others) in
    subst (λ (d : Digest). Adds d c.put_other.new.self e)
    (c.in_ok-put_linked.ensures.not_done c.if-branch-3.false
    ∙ c.in_ok-put_table.ensures.not_done c.if-branch-2.false
    ∙ c.in_ok-put_worded.ensures.not_done c.if-branch.false) adds
