use Rattle.std.proofs.Common.{◌∙◌, sym}
use Rattle.tocmark_judge.proofs.Lettering.{from-letter, from-other}
use Rattle.tocmark_judge.proofs.letters.next_letter.Goals as goal

pub returns-then-is_letter : goal.returns-then-is_letter
returns-then-is_letter c =
    sym c.loop-byte.invariant
    ∙ from-letter c.in-Some.byte.now c.in-Some.rest.now c.loop-byte.left.now c.in-Some.ensures.cases.0 (sym c.is_letter.ensures ∙ c.if-is_letter.true)

pub loop-byte-preserved : goal.loop-byte-preserved
loop-byte-preserved c =
    sym (from-other c.in-Some.byte.now c.in-Some.rest.now c.loop-byte.left.now c.in-Some.ensures.cases.0 (sym c.is_letter.ensures ∙ c.if-is_letter.false))
    ∙ c.loop-byte.invariant
