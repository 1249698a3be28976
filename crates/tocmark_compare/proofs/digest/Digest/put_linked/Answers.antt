use Rattle.std.proofs.Common.{◌∙◌, ◌++◌, ◌∷◌, [], ap}
use Rattle.tocmark_event.specs.Text.{text_of}
use Rattle.tocmark_event.specs.View.{event_view}
use Rattle.tocmark_compare.proofs.Digests.{link-put}
use Rattle.tocmark_compare.proofs.digest.Digest.put_linked.Goals as goal

pub returns-clause-done : goal.returns-clause-done
returns-clause-done c = λ done.
    let link = c.in-Some.link in
    link-put c.args.self.now c.put_text-2.new.self link.mark link.destination.now link.title.now link.label.now (event_view text_of c.args.event.now)
    (record { first = c.can_stand.ensures c.if-not-can_stand.false; second = c.can_stand-2.ensures c.if-not-can_stand-2.false; third = c.can_stand-3.ensures c.if-not-can_stand-3.false })
    c.in-Some.ensures
    (c.in_ok-put_text-2.ensures.bytes
    ∙ ap (λ xs. (xs ++ c.as_bytes-3.result.now) ++ 255 ∷ []) c.in_ok-put_text.ensures.bytes
    ∙ ap (λ xs. ((((xs ++ c.as_bytes-2.result.now) ++ 255 ∷ [])) ++ c.as_bytes-3.result.now) ++ 255 ∷ []) c.in_ok-put_word.ensures.bytes
    ∙ ap (λ t. ((((((c.args.self.now.bytes.items ++ 255 ∷ link.mark ∷ []) ++ t) ++ 255 ∷ []) ++ c.as_bytes-2.result.now) ++ 255 ∷ []) ++ c.as_bytes-3.result.now) ++ 255 ∷ []) c.as_bytes.ensures.value
    ∙ ap (λ t. ((((((c.args.self.now.bytes.items ++ 255 ∷ link.mark ∷ []) ++ link.destination.now) ++ 255 ∷ []) ++ t) ++ 255 ∷ []) ++ c.as_bytes-3.result.now) ++ 255 ∷ []) c.as_bytes-2.ensures.value
    ∙ ap (λ t. ((((((c.args.self.now.bytes.items ++ 255 ∷ link.mark ∷ []) ++ link.destination.now) ++ 255 ∷ []) ++ link.title.now) ++ 255 ∷ []) ++ t) ++ 255 ∷ []) c.as_bytes-3.ensures.value)
    (c.put_text-2.ensures.others ∙ c.put_text.ensures.others ∙ c.put_word.ensures.others)
