-- The escapes of a paragraph's lines, joined by line feeds, are read as that paragraph.
use Rattle.std.proofs.Common.{◌≡◌, ℕ, ◌^◌, ◌<◌, true, false, ◌==◌, List, [], ◌∷◌, ◌++◌, length, map, refl, ap, sym, subst, ◌∙◌, arith, append-nil, None}
use Rattle.std.specs.List.{AllByRecursion}
use Rattle.tocmark_event.specs.View.{EventView, Start, End, Leaf, Text, SoftBreak, Paragraph}
use Rattle.tocmark_event.specs.declared.event.TagEnd.TheVariants as end
use Rattle.tocmark_read_scan.proofs.PlainPieces.{feed_joined}
use Rattle.tocmark_read_inlines.proofs.PlainNeighbours.{ArePlainParts}
use Rattle.tocmark_reader.specs.Reading.{core_reading}
use Rattle.tocmark_reader.proofs.PlainReading.{spelled_text, IsPlainLine, IsPlainText, plain_text_is_meant}
use Rattle.tocmark_write_texts.specs.Escape.{Surroundings, escape}
use Rattle.tocmark_laws.proofs.PlainCharacters.{parts_of}
use Rattle.tocmark_laws.proofs.PlainEscapes.{ArePrintable, escape_is, line_parts_plain}
use Rattle.tocmark_laws.proofs.PlainEscapedLines.{line_is_plain, line_means}
use Rattle.tocmark_read_scan.specs.PlainParts.{Part, Feed, spelled, meant, last_byte}
use Rattle.tocmark_reader.specs.PlainTexts.{text_parts, line_events, lines_paragraph, IsReadAs}
use Rattle.tocmark_laws.specs.PlainLines.{IsInParagraph, PlacedLine, texts}

-- such a line isn't empty, has characters from U+0020 to U+007E, and doesn't end with a space
pub record IsLine (l : PlacedLine) : Type 0 where
  pub place : IsInParagraph l.0
  pub some : 0 < length l.1
  pub printable : ArePrintable l.1
  pub last : (last_byte 10 l.1 == 32) ≡ false

-- the escapes of lines, joined by line feeds
abbrev pub escape_lines : PlacedLine → List PlacedLine → List ℕ
escape_lines l ms = feed_joined (escape l.0 l.1) (map (λ m. escape m.0 m.1) ms)

-- the parts of a line
abbrev pub line_parts : PlacedLine → List Part
line_parts l = parts_of l.0 l.1

-- the parts of all lines
abbrev all_parts : PlacedLine → List PlacedLine → List Part
all_parts l ms = text_parts (line_parts l) (map line_parts ms)

pub plain_line : (p : Surroundings) (cs : List ℕ) → IsLine (p, cs) → IsPlainLine (parts_of p cs)
plain_line p [] h = let some : 0 < 0 = h.some in absurd (omega arith)
plain_line p (c ∷ cs) h = line_is_plain p c cs h.place h.printable h.last

pub plain_lines : (ms : List PlacedLine) → AllByRecursion IsLine ms → AllByRecursion IsPlainLine (map line_parts ms)
plain_lines [] h = tt
plain_lines (m ∷ ms) h = (plain_line m.0 m.1 (h.0), plain_lines ms (h.1))

-- each part of the lines means itself by its neighbours
pub plain_parts : (l : PlacedLine) (ms : List PlacedLine) → AllByRecursion IsLine (l ∷ ms) → ArePlainParts 10 (all_parts l ms)
plain_parts l [] h =
    subst (ArePlainParts 10) (append-nil (line_parts l)) (line_parts_plain l.0 None true l.1 10 [] (h.0).place (h.0).printable (λ e. e) refl tt)
plain_parts l (m ∷ ms) h =
    line_parts_plain l.0 None true l.1 10 (Feed ∷ all_parts m ms) (h.0).place (h.0).printable (λ e. e) refl ((plain_line l.0 l.1 (h.0)).last, plain_parts m ms (h.1))

-- the escapes are spelled by these parts
pub escapes_are_parts : (l : PlacedLine) (ms : List PlacedLine) → AllByRecursion IsLine (l ∷ ms) → escape_lines l ms ≡ feed_joined (spelled (line_parts l)) (map spelled (map line_parts ms))
escapes_are_parts l [] h = escape_is l.0 l.1 (h.0).place (h.0).printable
escapes_are_parts l (m ∷ ms) h =
    ap (λ xs. xs ++ 10 ∷ escape_lines m ms) (escape_is l.0 l.1 (h.0).place (h.0).printable)
    ∙ ap (λ xs. spelled (line_parts l) ++ 10 ∷ xs) (escapes_are_parts m ms (h.1))

-- and mean the lines
pub parts_mean_lines : (l : PlacedLine) (ms : List PlacedLine) → line_events (meant (line_parts l)) (map meant (map line_parts ms)) ≡ line_events l.1 (texts ms)
parts_mean_lines l [] = ap (λ t. Leaf (Text t) ∷ []) (line_means l.0 l.1)
parts_mean_lines l (m ∷ ms) =
    ap (λ t. Leaf (Text t) ∷ Leaf SoftBreak ∷ line_events (meant (line_parts m)) (map meant (map line_parts ms))) (line_means l.0 l.1)
    ∙ ap (λ es. Leaf (Text l.1) ∷ Leaf SoftBreak ∷ es) (parts_mean_lines m ms)

-- the escapes of a paragraph's lines are a plain text
pub escapes_are_plain : (l : PlacedLine) (ms : List PlacedLine) → AllByRecursion IsLine (l ∷ ms) → length (escape_lines l ms) < 2 ^ 64 → IsPlainText (line_parts l) (map line_parts ms)
escapes_are_plain l ms h fits = record {
  parts = plain_parts l ms h;
  lines = plain_lines (l ∷ ms) h;
  fits = subst (λ (xs : List ℕ). length xs < 2 ^ 64) (escapes_are_parts l ms h ∙ sym (spelled_text (line_parts l) (map line_parts ms))) fits;
}

-- the escapes of a paragraph's lines, joined by line feeds, are read as that paragraph, with no labels
pub escape_lines_are_read : (l : PlacedLine) (ms : List PlacedLine) → AllByRecursion IsLine (l ∷ ms) → length (escape_lines l ms) < 2 ^ 64 → IsReadAs (core_reading (escape_lines l ms)) (lines_paragraph l.1 (texts ms))
escape_lines_are_read l ms h fits =
    let same : spelled (all_parts l ms) ≡ escape_lines l ms = spelled_text (line_parts l) (map line_parts ms) ∙ sym (escapes_are_parts l ms h) in
    let read = plain_text_is_meant (line_parts l) (map line_parts ms) (escapes_are_plain l ms h fits) in
    subst (λ (es : List EventView). IsReadAs (core_reading (escape_lines l ms)) (Start Paragraph ∷ es ++ End end.Paragraph ∷ [])) (parts_mean_lines l ms)
    (subst (λ (xs : List ℕ). IsReadAs (core_reading xs) (lines_paragraph (meant (line_parts l)) (map meant (map line_parts ms)))) same read)
