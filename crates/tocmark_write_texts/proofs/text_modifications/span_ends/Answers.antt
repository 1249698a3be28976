use Rattle.std.proofs.Common.{arith}
use Rattle.tocmark_write_texts.proofs.SpanLemmas.{longest_run-le}
use Rattle.tocmark_write_texts.proofs.text_modifications.span_ends.Goals as goal

pub overflow_add-ticks : goal.overflow_add-ticks
overflow_add-ticks c =
    let within = longest_run-le 96 c.args.text.now in
    omega (arith, c.longest_ticks-ticks.ensures)
