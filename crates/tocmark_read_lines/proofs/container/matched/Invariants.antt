use Rattle.std.proofs.Common.{◌≡◌, drop}
use Rattle.tocmark_read_lines.specs.Containers.{matched_from, matched}
use Rattle.tocmark_read_lines.proofs.container.matched.Given as goal

abbrev pub invariant-loop-one : goal.invariant-loop-one
invariant-loop-one l = matched_from l.cells l.opened l.quotes l.count l.cursor (drop l.one-index l.opened) ≡ matched l.cells l.opened l.quotes
