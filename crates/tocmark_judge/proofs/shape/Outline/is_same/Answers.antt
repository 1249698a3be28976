use Rattle.std.proofs.Common.{◌≡◌, ◌∙◌, ap, sym, true, map, bytes_eq}
use Rattle.std.specs.Cmp.Lexicographic.{same_text}
use Rattle.tocmark_compare.specs.Digest.{marked}
use Rattle.tocmark_judge.specs.Shape.{shape}
use Rattle.tocmark_judge.proofs.Shapes.{same-values}
use Rattle.tocmark_judge.proofs.shape.Outline.is_same.Goals as goal

pub returns : goal.returns
returns c = λ t one two h k.
    let alike : bytes_eq c.as_slice.result.now c.as_slice-2.result.now ≡ true = sym c.eq.ensures ∙ t in
    let marks : c.args.self.now.marks.items ≡ c.args.other.now.marks.items =
    sym c.as_slice.ensures.value ∙ same_text c.as_slice.result.now c.as_slice-2.result.now (sym alike) ∙ c.as_slice-2.ensures.value in
    same-values (shape one) (shape two) (sym h ∙ ap (map marked) marks ∙ k)
