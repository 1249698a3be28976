use Rattle.std.proofs.Common.{◌≡◌, take, map}
use Rattle.tocmark_reader.specs.Pages.{content_line}
use Rattle.tocmark_reader.proofs.pieces.content_lines.Given as goal

abbrev pub invariant-loop-line : goal.invariant-loop-line
invariant-loop-line l = l.lines.items ≡ map content_line (take l.line-index l.pieces)
