-- A document with a list in a quote in an item, and with an empty item, is read back: its layout is computed.
use Rattle.std.proofs.Common.{◌≡◌, ℕ, List, [], ◌∷◌, codes, refl, subst, arith}
use Rattle.std.specs.Char.{encode_utf8}
use Rattle.std.specs.Str.{chars}
use Rattle.tocmark_event.specs.Options.{default_options}
use Rattle.tocmark_event.specs.declared.event.flags.ParserOptions.{ParserOptions}
use Rattle.tocmark_write_texts.specs.Escape.{coded, doubles_backslash, ends_line, escaped, is_marker, is_read_as_marker, needs_backslash, opens_label, reference, with_backslash, written}
use Rattle.tocmark_laws.specs.Documents.{PlainParagraph, PlainCode}
use Rattle.tocmark_document_laws.specs.Blocks.{Blocks, Nothing, PlainThen, QuoteThen, BulletsThen, ItemThen, events_of}
use Rattle.tocmark_document_laws.specs.DocumentLines.{layout}
use Rattle.tocmark_read_back_laws.specs.Documents.{IsReadAsEvents}
use Rattle.tocmark_read_back_laws.proofs.NestedReadings.{nested_layouts_read_back}

-- a list of two items, and a quote after it: the first item has a paragraph and a quote with a list of code, the second one has nothing
abbrev deep : Blocks
deep =
    BulletsThen (ItemThen (PlainThen (PlainParagraph (codes "a") [])
    (QuoteThen (BulletsThen (ItemThen (PlainThen (PlainCode [] (codes "x" ∷ [])) Nothing) Nothing) Nothing) Nothing))
    (ItemThen Nothing Nothing)) (QuoteThen (PlainThen (PlainParagraph (codes "b") []) Nothing) Nothing)

abbrev deep_text : List ℕ
deep_text = codes "* a\n  \n   > \n   > * ````\n   >   x\n   >   ````\n\n* \n\n > \n > b"

deep_layout : (flags : ParserOptions) → layout default_options flags deep ≡ deep_text
unfolding chars coded doubles_backslash encode_utf8 ends_line escaped is_marker is_read_as_marker needs_backslash opens_label reference with_backslash written
deep_layout flags = refl

-- so both readers find its events
deep_read : (flags : ParserOptions) → IsReadAsEvents deep_text (events_of deep)
deep_read flags =
    subst (λ (t : List ℕ). IsReadAsEvents t (events_of deep)) (deep_layout flags)
    (nested_layouts_read_back default_options flags deep (record { emphasis = refl; code = refl }) refl
    (refl, refl, ((refl, ((refl, refl, ((refl, tt), tt), tt), tt)), (tt, tt)), ((refl, tt), tt))
    (((tt, ((((tt, tt), tt), tt), tt)), (tt, tt)), ((tt, tt), tt))
    (((tt, ((((((refl, tt), tt), tt), tt), tt), tt)), (tt, tt)), ((tt, tt), tt))
    (refl, ((refl, (tt, (tt, ((tt, tt), tt), tt), tt)), (tt, tt)), (tt, (tt, tt), tt))
    (rw (deep_layout flags) (omega arith)))
