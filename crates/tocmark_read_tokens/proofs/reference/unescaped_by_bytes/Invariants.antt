use Rattle.std.proofs.Common.{◌≡◌, take}
use Rattle.std.specs.List.{fold}
use Rattle.tocmark_read_tokens.specs.Reference.{unescaping, unescape_step_in, unescape_start}
use Rattle.tocmark_read_tokens.proofs.reference.unescaped_by_bytes.Given as goal

abbrev pub invariant-loop-byte : goal.invariant-loop-byte
invariant-loop-byte l = unescaping l.machine ≡ fold (unescape_step_in l.names l.bytes) unescape_start (take l.byte-index l.bytes)
