use Rattle.std.proofs.Common.{◌≡◌, take}
use Rattle.std.specs.List.{fold}
use Rattle.tocmark_bare_links.specs.Lines.{brackets_step}
use Rattle.tocmark_bare_links.proofs.linker.brackets_in.Given as goal

abbrev pub invariant-loop-byte : goal.invariant-loop-byte
invariant-loop-byte l = l.all ≡ fold brackets_step l.fn.brackets (take l.byte-index l.bytes)
