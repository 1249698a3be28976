use Rattle.std.proofs.Common.{rules, sym, ◌∙◌}
use Rattle.tocmark_read_scan.proofs.Whole.{whole_text}
use Rattle.tocmark_read_scan.proofs.content.whole.Goals as goal

-- the lines are one just after the other
pub returns-else-has_byte : goal.returns-else-has_byte
returns-else-has_byte c = whole_text c.args.source.now c.args.lines.now c.in_ok-first.first c.others.result.now c.in_ok-end.end c.bytes_between-text.result.now c.inked.result.now (search rules) c.others.ensures (search rules) c.bytes_between-text.ensures (sym c.has_byte.ensures ∙ c.if-has_byte.false) c.inked.ensures
