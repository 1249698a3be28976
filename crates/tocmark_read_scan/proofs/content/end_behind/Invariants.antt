use Rattle.std.proofs.Common.{◌≡◌, drop}
use Rattle.tocmark_read_scan.specs.Content.{end_behind}
use Rattle.tocmark_read_scan.proofs.content.end_behind.Given as goal

abbrev pub invariant-loop-next : goal.invariant-loop-next
invariant-loop-next l = end_behind l.source l.last (drop l.next-index l.others) ≡ end_behind l.source l.fn.line l.others
