use Rattle.std.proofs.Common.{◌≡◌, ◌∙◌, ◌++◌, ◌∷◌, [], Some, ap, map, sym}
use Rattle.tocmark_event.specs.Text.{text_of}
use Rattle.tocmark_event.specs.View.{Start, Table, event_view}
use Rattle.tocmark_spelling.specs.SameEvents.{alignment_code}
use Rattle.tocmark_compare.specs.Digest.{spelled}
use Rattle.tocmark_compare.proofs.Digests.{word-put}
use Rattle.tocmark_compare.proofs.Marks.{codes-plain}
use Rattle.tocmark_compare.proofs.SameIsEqual.{alignments-back}
use Rattle.tocmark_compare.proofs.digest.Digest.put_table.Goals as goal

pub returns-clause-done : goal.returns-clause-done
returns-clause-done c = λ done.
    let all = c.in-Some.alignments.now in
    let codes = map alignment_code all in
    let is : spelled 85 (codes ∷ []) ≡ Some (event_view text_of c.args.event.now) =
    ap (λ xs. Some (Start (Table xs))) (alignments-back all) ∙ sym (ap Some c.in-Some.ensures) in
    word-put c.args.self.now c.put_bytes.new.self 85 codes (event_view text_of c.args.event.now) (codes-plain all) is
    (c.in_ok-put_bytes.ensures.bytes
    ∙ ap (λ xs. xs ++ 255 ∷ []) c.in_ok-put_alignments.ensures.bytes
    ∙ ap (λ xs. (xs ++ codes) ++ 255 ∷ []) c.in_ok-put_mark.ensures.bytes)
    (c.put_bytes.ensures.others ∙ c.put_alignments.ensures.others ∙ c.put_mark.ensures.others)
