use Rattle.tocmark_read_spans.proofs.Marks.{numbered_all}
use Rattle.tocmark_read_spans.proofs.role.Roles.numbers.Goals as goal

pub returns : goal.returns
returns c = numbered_all _ _ _ _ _ c.deref.ensures.value c.in_ok-numbers.ensures c.number_marks.ensures
