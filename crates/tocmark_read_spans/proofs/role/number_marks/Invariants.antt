use Rattle.std.proofs.Common.{◌≡◌, map, take}
use Rattle.std.specs.List.{fold}
use Rattle.tocmark_read_spans.specs.Role.{role_at, with_mark}
use Rattle.tocmark_read_spans.proofs.role.number_marks.Given as goal

abbrev pub invariant-loop-at : goal.invariant-loop-at
invariant-loop-at l =
    map (role_at l.marks) l.numbers.items ≡ fold with_mark (map (role_at l.marks) l.fn.numbers.items) (take l.at l.marks)
