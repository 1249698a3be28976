-- The escapes of a paragraph's lines in bytes, joined by line feeds, are read as that paragraph.
use Rattle.std.proofs.Common.{◌≡◌, ℕ, zero, suc, ◌^◌, ◌<◌, List, [], ◌∷◌, ◌++◌, length, encode_utf8_all, IsAscii, ap, sym, subst, ◌∙◌, arith}
use Rattle.std.proofs.lemmas.Str.{chars-IsAscii, encodes-IsAscii}
use Rattle.std.specs.List.{AllByRecursion}
use Rattle.tocmark_reader.specs.Reading.{core_reading}
use Rattle.tocmark_write_texts.specs.Escape.{escape, escaped}
use Rattle.tocmark_reader.specs.PlainTexts.{lines_paragraph, IsReadAs}
use Rattle.tocmark_laws.proofs.PlainCharacters.{parts_of}
use Rattle.tocmark_laws.proofs.PlainEscapes.{ArePrintable, escape_is}
use Rattle.tocmark_laws.proofs.PlainEscapedTexts.{IsLine, plain_line, escape_lines, escape_lines_are_read}
use Rattle.tocmark_read_scan.specs.PlainParts.{spelled}
use Rattle.tocmark_laws.specs.PlainLines.{PlacedLine, escaped_text, texts}

printable_ascii : (xs : List ℕ) → ArePrintable xs → IsAscii xs
printable_ascii [] h i = omega arith
printable_ascii (x ∷ xs) h zero = let high : x < 127 = (h.0).high in omega arith
printable_ascii (x ∷ xs) h (suc i) = printable_ascii xs (h.1) i

-- the escape of such a line in bytes is its escape
pub escaped_is : (l : PlacedLine) → IsLine l → escaped l.0 l.1 ≡ escape l.0 l.1
unfolding escaped
escaped_is l h =
    let same : escape l.0 l.1 ≡ spelled (parts_of l.0 l.1) = escape_is l.0 l.1 h.place h.printable in
    let ascii : IsAscii (escape l.0 l.1) = subst IsAscii (sym same) (printable_ascii (spelled (parts_of l.0 l.1)) ((plain_line l.0 l.1 h).printable)) in
    ap (λ (cs : List ℕ). encode_utf8_all (escape l.0 cs)) (chars-IsAscii l.1 (printable_ascii l.1 h.printable))
    ∙ encodes-IsAscii (escape l.0 l.1) ascii

pub escaped_text_is : (l : PlacedLine) (ms : List PlacedLine) → AllByRecursion IsLine (l ∷ ms) → escaped_text l ms ≡ escape_lines l ms
escaped_text_is l [] h = escaped_is l (h.0)
escaped_text_is l (m ∷ ms) h =
    ap (λ xs. xs ++ 10 ∷ escaped_text m ms) (escaped_is l (h.0))
    ∙ ap (λ xs. escape l.0 l.1 ++ 10 ∷ xs) (escaped_text_is m ms (h.1))

-- the escapes of a paragraph's lines in bytes are read as that paragraph, with no labels
pub escaped_text_is_read : (l : PlacedLine) (ms : List PlacedLine) → AllByRecursion IsLine (l ∷ ms) → length (escaped_text l ms) < 2 ^ 64 → IsReadAs (core_reading (escaped_text l ms)) (lines_paragraph l.1 (texts ms))
escaped_text_is_read l ms h fits =
    let same : escaped_text l ms ≡ escape_lines l ms = escaped_text_is l ms h in
    subst (λ (xs : List ℕ). IsReadAs (core_reading xs) (lines_paragraph l.1 (texts ms))) (sym same)
    (escape_lines_are_read l ms h (subst (λ (xs : List ℕ). length xs < 2 ^ 64) same fits))
