use Rattle.std.proofs.Common.{◌∙◌, ◌++◌, ◌∷◌, [], ◌||◌, false, ap}
use Rattle.tocmark_event.specs.Text.{text_of}
use Rattle.tocmark_event.specs.View.{event_view}
use Rattle.tocmark_compare.proofs.Digests.{word-put}
use Rattle.tocmark_compare.proofs.digest.Digest.put_worded.Goals as goal

pub returns-in-Some-clause-done : goal.returns-in-Some-clause-done
returns-in-Some-clause-done c = λ done.
    word-put c.args.self.now c.put_word.new.self 84 (c.in-Some.number ∷ []) (event_view text_of c.args.event.now)
    (ap (λ b. b || false) c.in-Some.ensures.small) c.in-Some.ensures.event c.in_ok-put_word.ensures.bytes c.put_word.ensures.others

pub returns-clause-done : goal.returns-clause-done
returns-clause-done c = λ done.
    word-put c.args.self.now c.put_word-2.new.self c.in-Some-word_of.mark c.in-Some-word_of.text.now (event_view text_of c.args.event.now)
    (c.can_stand.ensures c.if-not-can_stand.false) c.in-Some-word_of.ensures
    (c.in_ok-put_word-2.ensures.bytes ∙ ap (λ t. ((c.args.self.now.bytes.items ++ 255 ∷ c.in-Some-word_of.mark ∷ []) ++ t) ++ 255 ∷ []) c.as_bytes.ensures.value)
    c.put_word-2.ensures.others
