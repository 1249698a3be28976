-- Examples: documents, and their layouts.
use Rattle.std.proofs.Common.{◌≡◌, [], ◌∷◌, None, codes, refl}
use Rattle.std.specs.Char.{encode_utf8}
use Rattle.std.specs.Str.{chars}
use Rattle.tocmark_write_texts.specs.Escape.{coded, doubles_backslash, ends_line, escaped, is_marker, is_read_as_marker, needs_backslash, opens_label, reference, with_backslash, written}
use Rattle.tocmark_event.specs.Options.{default_options}
use Rattle.tocmark_event.specs.View.{Start, End, Leaf, Text, SoftBreak, Rule, Paragraph, BlockQuote}
use Rattle.tocmark_event.specs.declared.event.HeadingLevel.TheVariants as level
use Rattle.tocmark_event.specs.declared.event.TagEnd.TheVariants as end
use Rattle.tocmark_event.specs.declared.event.flags.ParserOptions.{ParserOptions}
use Rattle.tocmark_laws.specs.Documents.{PlainHeading, PlainParagraph, PlainRule, PlainCode}
use Rattle.tocmark_document_laws.specs.Blocks.{Blocks, Nothing, PlainThen, QuoteThen, BulletsThen, ItemThen, events_of}
use Rattle.tocmark_document_laws.specs.DocumentLines.{layout}

-- a paragraph, and a quote of a paragraph of two lines, a quote of a heading, and a thematic break
abbrev mixed : Blocks
mixed =
    PlainThen (PlainParagraph (codes "1. a") [])
    (QuoteThen (PlainThen (PlainParagraph (codes "b") (codes "c" ∷ [])) (QuoteThen (PlainThen (PlainHeading level.H2 (codes "d" ∷ [])) Nothing) (PlainThen PlainRule Nothing)))
    (PlainThen PlainRule Nothing))

mixed_laid : (flags : ParserOptions) → layout default_options flags mixed ≡ codes "1\\. a\n\n > \n > b\n > c\n > \n >  > \n >  > ## d\n > \n > ---\n\n---"
unfolding chars coded doubles_backslash encode_utf8 ends_line escaped is_marker is_read_as_marker needs_backslash opens_label reference with_backslash written
mixed_laid flags = refl

-- a quote of code with an empty line
abbrev fenced : Blocks
fenced = QuoteThen (PlainThen (PlainCode (codes "x") (codes "e" ∷ [] ∷ [])) Nothing) Nothing

fenced_laid : (flags : ParserOptions) → layout default_options flags fenced ≡ codes "\n > \n > ````x\n > e\n > \n > ````"
unfolding chars encode_utf8
fenced_laid flags = refl

-- code, and then an empty quote
abbrev emptied : Blocks
emptied = PlainThen (PlainCode [] (codes "e" ∷ [])) (QuoteThen Nothing Nothing)

emptied_laid : (flags : ParserOptions) → layout default_options flags emptied ≡ codes "\n````\ne\n````\n\n > "
unfolding chars encode_utf8
emptied_laid flags = refl

-- the events of a quote with a paragraph of two lines and a quote of a thematic break
events_laid : events_of (QuoteThen (PlainThen (PlainParagraph (codes "b") (codes "c" ∷ [])) (QuoteThen (PlainThen PlainRule Nothing) Nothing)) Nothing)
    ≡ Start (BlockQuote None)
    ∷ Start Paragraph ∷ Leaf (Text (codes "b")) ∷ Leaf SoftBreak ∷ Leaf (Text (codes "c")) ∷ End end.Paragraph
    ∷ Start (BlockQuote None) ∷ Leaf Rule ∷ End (end.BlockQuote None)
    ∷ End (end.BlockQuote None)
    ∷ []
events_laid = refl

-- a list in a quote, whose items have a quote, a list in a list, a thematic break, and nothing
abbrev listed : Blocks
listed =
    QuoteThen (BulletsThen
    (ItemThen (QuoteThen (PlainThen (PlainParagraph (codes "a") []) Nothing) Nothing)
    (ItemThen (BulletsThen (ItemThen (PlainThen PlainRule Nothing) (ItemThen Nothing Nothing)) (PlainThen (PlainParagraph (codes "b") []) Nothing)) Nothing))
    (BulletsThen (ItemThen (PlainThen (PlainParagraph (codes "c") []) (PlainThen (PlainCode [] []) Nothing)) Nothing) Nothing)) Nothing

listed_laid : (flags : ParserOptions) → layout default_options flags listed ≡ codes "\n > \n > * > a\n > \n > * - ***\n >   \n >   - \n >   \n >   b\n > \n > - c\n >   \n >   ````\n >   ````"
unfolding chars coded doubles_backslash encode_utf8 ends_line escaped is_marker is_read_as_marker needs_backslash opens_label reference with_backslash written
listed_laid flags = refl
