-- A paragraph of lines at the beginning of a document: its spelling is read back.
use Rattle.std.proofs.Common.{◌≡◌, ℕ, ◌^◌, ◌<◌, true, false, not, ◌==◌, codes, map, arith, true≢false, List, [], ◌∷◌, ◌++◌, length, refl, ap, sym, subst, ◌∙◌, Option, Some}
use Rattle.std.specs.Char.{char_set_contains}
use Rattle.std.specs.List.{AllByRecursion, list_all}
use Rattle.std.specs.Option.{option_map}
use Rattle.tocmark_event.specs.View.{Start, End, Paragraph}
use Rattle.tocmark_event.specs.declared.event.TagEnd.TheVariants as end
use Rattle.tocmark_reader.specs.Reading.{core_reading}
use Rattle.tocmark_reader.specs.PlainTexts.{lines_paragraph, IsReadAs}
use Rattle.tocmark_write_texts.specs.Escape.{ends_line}
use Rattle.tocmark_spelling.specs.Stretch.{is_literal, has_entities}
use Rattle.tocmark_laws.proofs.PlainEscapes.{ArePrintable}
use Rattle.tocmark_spelling.specs.Page.{Sheet, Site}
use Rattle.tocmark_spelling.specs.Plan.{Setting, Manner}
use Rattle.tocmark_laws.proofs.PlainEscapedTexts.{IsLine, line_parts, plain_lines, plain_parts, escapes_are_parts, parts_mean_lines}
use Rattle.tocmark_laws.proofs.PlainEscapedBytes.{escaped_text_is, escaped_text_is_read}
use Rattle.tocmark_laws.proofs.PlainSpelling.{placed, all_placed, next_of, lines_text, AreLinesIn}
use Rattle.tocmark_read_scan.specs.PlainParts.{last_byte}
use Rattle.tocmark_reader.specs.PlainTexts.{is_printable}
use Rattle.tocmark_reader.proofs.PlainReading.{IsPrintable, spelled_text}
use Rattle.tocmark_reader.proofs.PlainTests.{printable_from, text_to}
use Rattle.tocmark_read_scan.proofs.PlainTests.{both_true, is_not, all_from}
use Rattle.tocmark_laws.specs.PlainLines.{is_line, IsPlaced, IsPlainOf, escaped_text, texts, PlacedLine}

-- what is written
abbrev sheet_of : Option Site → Option Sheet
sheet_of o = option_map (λ (here : Site). here.page.sheet) o

lines_are : (s : Setting) (m : Manner) (ls : List (List ℕ)) → AreLinesIn s m ls → AllByRecursion IsLine (all_placed s m ls)
lines_are s m [] h = tt
lines_are s m (l ∷ ls) h = (h.0, lines_are s m ls (h.1))

-- and what it is spelled as is read as that paragraph, with no labels
pub paragraph_is_read : (s : Setting) (m : Manner) (l : List ℕ) (ms : List (List ℕ)) → AreLinesIn s m (l ∷ ms) → length (lines_text s m l ms) < 2 ^ 64 → IsReadAs (core_reading (lines_text s m l ms)) (lines_paragraph l (texts (all_placed s m ms)))
paragraph_is_read s m l ms h fits = escaped_text_is_read (placed s m l ms) (all_placed s m ms) (h.0, lines_are s m ms (h.1)) fits

-- a line: not empty, of characters from U+0020 to U+007E, not ending with a space
pub record IsLineText (l : List ℕ) : Type 0 where
  pub some : 0 < length l
  pub printable : ArePrintable l
  pub last : (last_byte 10 l == 32) ≡ false

-- a text that passes the test of lines is one
pub line_from : (l : List ℕ) → is_line l ≡ true → IsLineText l
line_from [] h = absurd (true≢false (sym h))
line_from (c ∷ cs) h =
    let both = both_true (list_all is_printable (c ∷ cs)) (not (last_byte c cs == 32)) h in
    record {
      some = omega arith;
      printable = all_from is_printable IsPrintable (c ∷ cs) printable_from (both.0);
      last = is_not (last_byte c cs == 32) (both.1);
    }

placed_from : (l : PlacedLine) → IsPlaced l → IsLine l
placed_from l h =
    let line = line_from l.1 h.line in
    record { place = h.place; some = line.some; printable = line.printable; last = line.last }

all_placed_from : (ls : List PlacedLine) → AllByRecursion IsPlaced ls → AllByRecursion IsLine ls
all_placed_from [] h = tt
all_placed_from (l ∷ ls) h = (placed_from l (h.0), all_placed_from ls (h.1))

-- the escapes of lines in a paragraph, joined by line feeds, are a plain text that means these lines
pub escapes_are_plain_of : (l : PlacedLine) (ms : List PlacedLine) → AllByRecursion IsPlaced (l ∷ ms) → IsPlainOf (escaped_text l ms) l.1 (texts ms)
escapes_are_plain_of l ms h =
    let lines = all_placed_from (l ∷ ms) h in
    record {
      parts = line_parts l;
      more = map line_parts ms;
      plain = text_to (line_parts l) (map line_parts ms) (plain_parts l ms lines) (plain_lines (l ∷ ms) lines);
      spells = escaped_text_is l ms lines ∙ escapes_are_parts l ms lines ∙ sym (spelled_text (line_parts l) (map line_parts ms));
      means = ap (λ es. Start Paragraph ∷ es ++ End end.Paragraph ∷ []) (parts_mean_lines l ms);
      read = λ fits. escaped_text_is_read l ms lines fits;
    }

-- texts are escaped, with no character as a reference, beside emphasis by `*` or `_`
pub record Escapes (s : Setting) (m : Manner) : Type 0 where
  pub literal : is_literal m.plan.text ≡ false
  pub entities : has_entities m.plan.text ≡ false
  pub token : char_set_contains (codes "*_") s.options.emphasis_token ≡ true

next_ends : (ms : List (List ℕ)) → ends_line (Some (next_of ms)) ≡ true
unfolding ends_line
next_ends [] = refl
next_ends (m ∷ ms) = refl

-- such lines may be at their places
pub lines_stand : (s : Setting) (m : Manner) (ls : List (List ℕ)) → Escapes s m → AllByRecursion IsLineText ls → AreLinesIn s m ls
lines_stand s m [] e h = tt
lines_stand s m (l ∷ ls) e h = (
  record {
    place = record { literal = e.literal; first = rw e.entities refl; last = rw e.entities refl; front = refl; table = refl; token = e.token; line = next_ends ls };
    some = (h.0).some;
    printable = (h.0).printable;
    last = (h.0).last;
  },
  lines_stand s m ls e (h.1),
)

placed_texts : (s : Setting) (m : Manner) (ms : List (List ℕ)) → texts (all_placed s m ms) ≡ ms
placed_texts s m [] = refl
placed_texts s m (n ∷ ms) = ap (λ ls. n ∷ ls) (placed_texts s m ms)

-- what is written for a paragraph of lines is read as that paragraph, with no labels
pub lines_are_read_back : (s : Setting) (m : Manner) (l : List ℕ) (ms : List (List ℕ)) → Escapes s m → AllByRecursion IsLineText (l ∷ ms) → length (lines_text s m l ms) < 2 ^ 64 → IsReadAs (core_reading (lines_text s m l ms)) (lines_paragraph l ms)
lines_are_read_back s m l ms e h fits =
    subst (λ (ls : List (List ℕ)). IsReadAs (core_reading (lines_text s m l ms)) (lines_paragraph l ls)) (placed_texts s m ms)
    (paragraph_is_read s m l ms (lines_stand s m (l ∷ ms) e h) fits)
