use Rattle.std.proofs.Common.{◌≡◌, length}
use Rattle.std.specs.List.{fold}
use Rattle.tocmark_read_spans.specs.Definitions.{entry_of}
use Rattle.tocmark_read_inlines.specs.Scan.{scan, ahead_view, with_place, scan_step_in}
use Rattle.tocmark_read_inlines.proofs.scan.Scanner.run_with_extensions.Given as goal

abbrev pub invariant-loop-byte : goal.invariant-loop-byte
invariant-loop-byte l =
    fold (scan_step_in l.text.syntax l.text.bytes.now (ahead_view l.text.ahead.now) (entry_of l.text.definitions.now)) (with_place l.place (scan l.self)) l.left
    ≡ fold (scan_step_in l.text.syntax l.text.bytes.now (ahead_view l.text.ahead.now) (entry_of l.text.definitions.now)) (scan l.fn.self) l.text.bytes.now

abbrev pub decreases-loop-byte : goal.decreases-loop-byte
decreases-loop-byte l = length l.left
