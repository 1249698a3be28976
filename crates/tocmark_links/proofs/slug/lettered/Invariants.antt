use Rattle.std.proofs.Common.{◌≡◌, ◌++◌, IsUtf8, chars, encode_utf8_all, string_bytes}
use Rattle.std.specs.List.{flat_map}
use Rattle.std.specs.Str.Iter.{chars_rest}
use Rattle.tocmark_links.specs.Slug.{letters_of, lettered}
use Rattle.tocmark_links.proofs.slug.lettered.Given as goal

abbrev pub invariant-loop-c : goal.invariant-loop-c
invariant-loop-c l = record {
  is_text : IsUtf8 (chars_rest l.c-iterator);
  same : string_bytes l.kept ++ encode_utf8_all (flat_map (letters_of l.slugs) (chars (chars_rest l.c-iterator))) ≡ lettered l.slugs l.text;
}
