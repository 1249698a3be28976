use Rattle.std.proofs.Common.{◌≡◌, ◌++◌, IsUtf8, chars, string_bytes}
use Rattle.std.specs.Str.Iter.{chars_rest}
use Rattle.tocmark_judge.specs.Same.{ends_white, folded_text}
use Rattle.tocmark_judge.proofs.summary.push_folded.Given as goal

abbrev pub invariant-loop-character : goal.invariant-loop-character
invariant-loop-character l = record {
  is_text : IsUtf8 (chars_rest l.character-iterator);
  same : string_bytes l.folded ++ folded_text l.white (chars_rest l.character-iterator) ≡ string_bytes l.fn.folded ++ folded_text l.fn.is_behind_white l.fn.text;
  white : ends_white l.white (chars (chars_rest l.character-iterator)) ≡ ends_white l.fn.is_behind_white (chars l.fn.text);
}
