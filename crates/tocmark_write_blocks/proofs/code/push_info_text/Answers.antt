use Rattle.tocmark_write_texts.proofs.CharacterLemmas.{written_more}
use Rattle.tocmark_spelling.specs.Opening.{info_byte}
use Rattle.tocmark_write_blocks.proofs.Texts.{info_rule}
use Rattle.tocmark_write_blocks.proofs.code.push_info_text.Goals as goal

pub loop-c-preserved : goal.loop-c-preserved
loop-c-preserved c =
    written_more info_byte info_rule _ _ _ _ _ c.in-Some.c c.in-Some.ensures.steps.0 c.in_ok-push_info.ensures c.loop-c.invariant
