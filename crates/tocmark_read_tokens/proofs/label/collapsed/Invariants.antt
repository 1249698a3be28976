use Rattle.std.proofs.Common.{◌≡◌, take}
use Rattle.std.specs.List.{fold}
use Rattle.tocmark_read_tokens.specs.Label.{collapsing, collapse_step, collapse_start}
use Rattle.tocmark_read_tokens.proofs.label.collapsed.Given as goal

abbrev pub invariant-loop-byte : goal.invariant-loop-byte
invariant-loop-byte l = collapsing l.machine ≡ fold collapse_step collapse_start (take l.byte-index l.label)
