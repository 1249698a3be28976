use Rattle.tocmark_documents.specs.Lines.{AppendsUpTo}
use Rattle.tocmark_documents.proofs.lines.write_bytes.Given as goal

-- what is gone from the rest was appended
abbrev pub invariant-loop-turn : goal.invariant-loop-turn
invariant-loop-turn g l = AppendsUpTo (g.O.Write.contents l.fn.output) (g.O.Write.contents l.output) l.bytes l.rest
