use Rattle.std.proofs.Common.{◌≡◌, take, []}
use Rattle.std.specs.List.{fold}
use Rattle.tocmark_read_constructs.specs.Tables.{columns_step, no_marks, behind_bar}
use Rattle.tocmark_read_constructs.proofs.table.alignments.Given as goal

abbrev pub invariant-loop-byte : goal.invariant-loop-byte
invariant-loop-byte l = (l.found.items, l.column) ≡ fold columns_step ([], no_marks) (take l.byte-index (behind_bar l.row))
