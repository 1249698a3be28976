use Rattle.std.proofs.Common.{◌≡◌, drop}
use Rattle.tocmark_read_lines.specs.Html.{holds_from}
use Rattle.tocmark_read_lines.proofs.html.holds.Given as goal

abbrev pub invariant-loop-place : goal.invariant-loop-place
invariant-loop-place l = holds_from l.line l.word l.place (drop l.place l.line) ≡ holds_from l.line l.word 0 l.line
