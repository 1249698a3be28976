use Rattle.std.proofs.Common.{◌≡◌}
use Rattle.std.specs.List.{fold}
use Rattle.tocmark_read_lines.proofs.LineEnds.{lines_at}
use Rattle.tocmark_read_lines.specs.Lines.{lines_of}
use Rattle.tocmark_read_page.specs.Pages.{page}
use Rattle.tocmark_read_blocks.specs.Blocks.{line_taken_in}
use Rattle.tocmark_read_blocks.proofs.block.take_lines.Given as goal

abbrev pub invariant-loop-at : goal.invariant-loop-at
invariant-loop-at l =
    fold (line_taken_in l.source.known l.source.text.now) (page l.so_far) (lines_at l.source.text.now l.before l.start l.at-iterator)
    ≡ fold (line_taken_in l.source.known l.source.text.now) (page l.fn.so_far) (lines_of l.source.text.now)
