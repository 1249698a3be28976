use Rattle.std.proofs.Common.{◌≡◌, ◌++◌, ◌==◌, IsUtf8, chars, encode_utf8_all, length, string_bytes}
use Rattle.std.specs.Str.Iter.{chars_rest}
use Rattle.tocmark_write_labels.specs.Matched.{collapsed}
use Rattle.tocmark_write_labels.proofs.CollapsedLabels.{left}
use Rattle.tocmark_write_labels.proofs.matched.collapsed.Given as goal

abbrev pub invariant-loop-c : goal.invariant-loop-c
invariant-loop-c l = record {
  is_text : IsUtf8 (chars_rest l.c-iterator);
  same : string_bytes l.text ++ encode_utf8_all (left (length (string_bytes l.text) == 0) l.is_after_blank (chars (chars_rest l.c-iterator))) ≡ encode_utf8_all (collapsed (chars l.label));
}
