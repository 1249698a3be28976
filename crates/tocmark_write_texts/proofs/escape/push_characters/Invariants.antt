use Rattle.std.proofs.Common.{◌≡◌, ◌≤◌, ◌++◌, IsUtf8, chars, length, string_bytes, encode_utf8_all}
use Rattle.std.specs.Str.Iter.{chars_rest}
use Rattle.tocmark_write_texts.specs.Escape.{place_of, escaped}
use Rattle.tocmark_write_texts.proofs.EscapeLemmas.{escape_on}
use Rattle.tocmark_write_texts.proofs.escape.push_characters.Given as goal

abbrev pub invariant-loop-character : goal.invariant-loop-character
invariant-loop-character l = record {
  is_text : IsUtf8 (chars_rest l.rest);
  longer : length (string_bytes l.fn.to) ≤ length (string_bytes l.to);
  same : string_bytes l.to ++ encode_utf8_all (escape_on (place_of l.place) l.before l.only_digits (chars (chars_rest l.rest)))
      ≡ string_bytes l.fn.to ++ escaped (place_of l.initial.place) l.initial.text;
}

abbrev pub decreases-loop-character : goal.decreases-loop-character
decreases-loop-character l = length (chars_rest l.rest)
