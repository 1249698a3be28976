use Rattle.std.proofs.Common.{◌≡◌, take, map}
use Rattle.std.specs.List.{fold}
use Rattle.tocmark_bare_links.specs.Lines.{scan_step, scan_view, shown, words_start}
use Rattle.tocmark_bare_links.proofs.scan.Scan.add_line.Given as goal

abbrev pub invariant-loop-byte : goal.invariant-loop-byte
invariant-loop-byte l =
    scan_view l.self
    ≡ fold (scan_step l.text l.base) (record { words = words_start l.opens l.fn.self.words.brackets; events = map shown l.fn.self.events.items }) (take l.byte-index l.text)
