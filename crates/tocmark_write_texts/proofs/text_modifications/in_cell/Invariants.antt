use Rattle.std.proofs.Common.{◌≡◌, ◌++◌, true, string_bytes}
use Rattle.std.specs.List.{flat_map}
use Rattle.std.specs.Str.Iter.{chars_rest}
use Rattle.tocmark_write_texts.specs.Leaves.{cell_character, in_cell}
use Rattle.tocmark_write_texts.proofs.text_modifications.in_cell.Given as goal

abbrev pub invariant-loop-c : goal.invariant-loop-c
invariant-loop-c l = string_bytes l.cell ++ flat_map cell_character (chars_rest l.c-iterator) ≡ in_cell true l.fn.text
