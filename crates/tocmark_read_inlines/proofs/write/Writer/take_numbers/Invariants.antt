use Rattle.std.proofs.Common.{◌≡◌, ◌≤◌, map, take}
use Rattle.std.specs.List.{fold}
use Rattle.tocmark_read_spans.specs.Role.{role_at}
use Rattle.tocmark_read_inlines.specs.Write.{writing, passed, role_step}
use Rattle.tocmark_read_inlines.proofs.write.Writer.take_numbers.Given as goal

abbrev pub invariant-loop-place : goal.invariant-loop-place
invariant-loop-place l =
    (passed l.place (writing l.self) ≡ fold role_step (writing l.fn.self) (map (role_at l.roles.marks.items) (take l.place l.numbers))) × (l.self.place ≤ l.place)
