-- An example: a heading and two paragraphs, and the texts that are handed for them.
use Rattle.std.proofs.Common.{◌≡◌, List, [], ◌∷◌, codes, refl}
use Rattle.std.specs.Char.{encode_utf8}
use Rattle.std.specs.Str.{chars}
use Rattle.tocmark_write_texts.specs.Escape.{coded, doubles_backslash, ends_line, escaped, is_marker, is_read_as_marker, needs_backslash, opens_label, reference, with_backslash, written}
use Rattle.tocmark_event.specs.Options.{default_options}
use Rattle.tocmark_event.specs.declared.event.HeadingLevel.TheVariants as level
use Rattle.tocmark_event.specs.declared.event.flags.ParserOptions.{ParserOptions}
use Rattle.tocmark_laws.specs.TextBlocks.{Block, ParagraphKind, HeadingKind, texts_behind}

-- a heading of level 2, and two paragraphs, the first one with two texts
abbrev blocks : List Block
blocks =
    record { kind = HeadingKind level.H2; texts = codes "a# {b}" ∷ [] }
    ∷ record { kind = ParagraphKind; texts = codes "1" ∷ codes ". c" ∷ [] }
    ∷ record { kind = ParagraphKind; texts = codes "# d & e" ∷ [] }
    ∷ []

example : (flags : ParserOptions) → flags.0 ≡ 0 → texts_behind default_options flags 0 blocks ≡ codes "## a\\# {b}" ∷ codes "\n\n1\\. c" ∷ codes "\n\n\\# d &amp; e" ∷ []
unfolding chars coded doubles_backslash encode_utf8 ends_line escaped is_marker is_read_as_marker needs_backslash opens_label reference with_backslash written
example flags e = rw e refl
