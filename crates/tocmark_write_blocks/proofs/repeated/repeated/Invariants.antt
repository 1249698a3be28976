use Rattle.std.proofs.Common.{◌≡◌, string_bytes, replicate, encode_utf8}
use Rattle.std.specs.List.{flat_map}
use Rattle.tocmark_write_blocks.proofs.repeated.repeated.Given as goal

abbrev pub invariant-loop-place : goal.invariant-loop-place
invariant-loop-place l = string_bytes l.text ≡ flat_map encode_utf8 (replicate l._place l.character)
