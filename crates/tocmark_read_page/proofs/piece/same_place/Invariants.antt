use Rattle.std.proofs.Common.{◌≡◌, ◌+◌, ◌≤◌}
use Rattle.tocmark_read_page.specs.Pieces.{same_place}
use Rattle.tocmark_read_page.proofs.piece.same_place.Given as goal

abbrev pub invariant-loop-next : goal.invariant-loop-next
invariant-loop-next l = (same_place l.cells l.column l.at ≡ l.count + same_place l.cells l.next l.at) × (l.count ≤ l.next)
