use Rattle.std.proofs.Common.{◌≡◌, drop}
use Rattle.tocmark_write_texts.specs.Destination.{is_unbalanced}
use Rattle.tocmark_write_texts.proofs.text_modifications.is_unbalanced.Given as goal

abbrev pub invariant-loop-byte : goal.invariant-loop-byte
invariant-loop-byte l = is_unbalanced l.depth (drop l.byte-index l.byte-items) ≡ is_unbalanced 0 l.fn.destination
