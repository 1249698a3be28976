use Rattle.std.proofs.Common.{List, subst}
use Rattle.tocmark_event.specs.View.{EventView}
use Rattle.tocmark_rewrite.specs.Edited.{IsWrittenFor}
use Rattle.tocmark_documents.specs.Rewriting.{IsOfBlock, reading_under}
use Rattle.tocmark_documents.proofs.rewriting.rewritten_after_mark.Goals as goal

pub returns-in_ok-with_mark_again-in-Ok-clause-edited : goal.returns-in_ok-with_mark_again-in-Ok-clause-edited
returns-in_ok-with_mark_again-in-Ok-clause-edited c = record {
  rest = c.in-Ok.answer;
  is_written = subst (λ (es : List EventView). IsWrittenFor (reading_under c.args.flags) c.args.rest.now es c.in-Ok.answer) c.in_ok-placed.ensures c.in-Ok.ensures.edited;
  is_marked = c.in_ok-with_mark_again-in-Ok.ensures c.args.rest.now;
}

pub returns-in-Err-clause-block : goal.returns-in-Err-clause-block
returns-in-Err-clause-block c =
    subst (λ (es : List EventView). IsOfBlock (reading_under c.args.flags) c.args.rest.now es c.in-Err.error) c.in_ok-placed.ensures c.in-Err.ensures.block
