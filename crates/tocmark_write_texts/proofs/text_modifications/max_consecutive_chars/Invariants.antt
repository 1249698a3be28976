use Rattle.std.proofs.Common.{◌≡◌, ◌+◌, ◌≤◌, max, length, chars, IsUtf8}
use Rattle.std.specs.Str.Iter.{chars_rest}
use Rattle.tocmark_write_texts.specs.Leaves.{run_length, longest_run}
use Rattle.tocmark_write_texts.proofs.text_modifications.max_consecutive_chars.Given as goal

abbrev pub invariant-loop-c : goal.invariant-loop-c
invariant-loop-c l = record {
  is_text : IsUtf8 (chars_rest l.c-iterator);
  bounded : l.current + length (chars_rest l.c-iterator) ≤ length l.fn.text;
  seen : l.current ≤ l.longest;
  same : max l.longest (max (l.current + run_length l.search (chars (chars_rest l.c-iterator))) (longest_run l.search (chars (chars_rest l.c-iterator))))
      ≡ longest_run l.search (chars l.fn.text);
}
