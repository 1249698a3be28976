use Rattle.std.proofs.Common.{◌≡◌, drop}
use Rattle.tocmark_read_lines.specs.Containers.{touched_from}
use Rattle.tocmark_read_lines.proofs.container.touch.Given as goal

abbrev pub invariant-loop-quote : goal.invariant-loop-quote
invariant-loop-quote l = touched_from l.count l.end l.line (drop l.quote-index l.quotes) l.opened.items ≡ touched_from l.count l.end l.line l.quotes l.fn.opened.items
