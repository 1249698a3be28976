use Rattle.std.proofs.Common.{◌≡◌, drop}
use Rattle.tocmark_read_scan.specs.Basic.{bytes_between}
use Rattle.tocmark_read_constructs.specs.Tables.{next_bar, next_bar_from}
use Rattle.tocmark_read_constructs.proofs.table.next_bar.Given as goal

abbrev pub invariant-loop-byte : goal.invariant-loop-byte
invariant-loop-byte l =
    next_bar_from l.end l.place l.before (drop l.byte-index (bytes_between l.text l.from l.end)) ≡ next_bar l.text l.from l.end
