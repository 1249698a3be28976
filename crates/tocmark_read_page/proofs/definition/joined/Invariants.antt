use Rattle.std.proofs.Common.{◌≡◌, take}
use Rattle.tocmark_read_page.specs.Definitions.{joined}
use Rattle.tocmark_read_page.proofs.definition.joined.Given as goal

abbrev pub invariant-loop-line : goal.invariant-loop-line
invariant-loop-line l = l.content.items ≡ joined l.text (take l.line-index l.lines)
