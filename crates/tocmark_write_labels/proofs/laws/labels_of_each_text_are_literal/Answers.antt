use Rattle.std.proofs.Common.{[]}
use Rattle.tocmark_write_labels.proofs.LiteralLabels.{literal-more}
use Rattle.tocmark_write_labels.proofs.laws.labels_of_each_text_are_literal.Goals as goal

pub returns : goal.returns
returns c = λ reading flags texts text. literal-more reading flags [] texts text
