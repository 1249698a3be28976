use Rattle.tocmark_write_texts.specs.Leaves.{cell_character}
use Rattle.tocmark_write_texts.proofs.CharacterLemmas.{cell_rule, written_more}
use Rattle.tocmark_write_texts.proofs.text_modifications.in_cell.Goals as goal

pub loop-c-preserved : goal.loop-c-preserved
loop-c-preserved c =
    written_more cell_character cell_rule _ _ _ _ _ c.in-Some.c c.in-Some.ensures.steps.0 c.in_ok-push_in_cell.ensures c.loop-c.invariant
