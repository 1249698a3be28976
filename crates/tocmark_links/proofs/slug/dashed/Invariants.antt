use Rattle.std.proofs.Common.{◌≡◌, ◌++◌, IsUtf8, chars, encode_utf8_all, string_bytes, false}
use Rattle.std.specs.Str.Iter.{chars_rest}
use Rattle.tocmark_links.specs.Slug.{dashed}
use Rattle.tocmark_links.proofs.slug.dashed.Given as goal

abbrev pub invariant-loop-c : goal.invariant-loop-c
invariant-loop-c l = record {
  is_text : IsUtf8 (chars_rest l.c-iterator);
  same : string_bytes l.slug ++ encode_utf8_all (dashed l.is_behind (chars (chars_rest l.c-iterator))) ≡ encode_utf8_all (dashed false (chars l.text));
}
