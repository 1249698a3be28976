use Rattle.tocmark_read_lines.proofs.Steps.{same_word_by}
use Rattle.tocmark_read_lines.proofs.html.same_word.Goals as goal

pub returns : goal.returns
returns c = same_word_by c.eq_ignore_ascii_case.result c.args.a.now c.args.b.now c.eq_ignore_ascii_case.ensures.test
