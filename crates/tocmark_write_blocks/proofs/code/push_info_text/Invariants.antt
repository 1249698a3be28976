use Rattle.std.proofs.Common.{◌≡◌, ◌++◌, string_bytes}
use Rattle.std.specs.List.{flat_map}
use Rattle.std.specs.Str.Iter.{chars_rest}
use Rattle.tocmark_spelling.specs.Opening.{info_byte}
use Rattle.tocmark_write_blocks.proofs.code.push_info_text.Given as goal

abbrev pub invariant-loop-c : goal.invariant-loop-c
invariant-loop-c l = string_bytes l.text ++ flat_map info_byte (chars_rest l.c-iterator) ≡ string_bytes l.fn.text ++ flat_map info_byte l.info
