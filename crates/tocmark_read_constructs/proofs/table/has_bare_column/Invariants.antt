use Rattle.std.proofs.Common.{◌≡◌, take, false}
use Rattle.std.specs.List.{fold}
use Rattle.tocmark_read_constructs.specs.Tables.{bare_step}
use Rattle.tocmark_read_constructs.proofs.table.has_bare_column.Given as goal

abbrev pub invariant-loop-byte : goal.invariant-loop-byte
invariant-loop-byte l = (l.dash, l.bare) ≡ fold bare_step (false, false) (take l.byte-index l.row)
