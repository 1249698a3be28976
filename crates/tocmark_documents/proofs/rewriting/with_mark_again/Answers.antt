use Rattle.std.proofs.Common.{◌∙◌, ◌++◌, List, ap, refl, ℕ}
use Rattle.tocmark_judge.specs.Marks.{mark}
use Rattle.tocmark_documents.proofs.rewriting.with_mark_again.Goals as goal

pub returns : goal.returns
returns c after = record {
  text = c.in_ok-text.ensures ∙ ap (λ (t : List ℕ). mark ++ t) c.as_str.ensures.value;
  parts = refl;
  trees = refl;
}
