use Rattle.std.proofs.Common.{◌≡◌, ◌-◌, ◌^◌, min, take}
use Rattle.tocmark_lsp_text.specs.Positions.{units_of}
use Rattle.tocmark_lsp_text.proofs.positions.units_of.Given as goal

abbrev pub invariant-loop-byte : goal.invariant-loop-byte
invariant-loop-byte l = l.count ≡ min (units_of l.encoding (take l.byte-index l.bytes)) (2 ^ 64 - 1)
