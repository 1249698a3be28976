-- Paragraphs of lines, and what is handed for them.
use Rattle.std.specs.Prelude.{◌≡◌, ℕ, ◌^◌, ◌<◌, Bool, true, false, not, ◌==◌, ◌&&◌, List, [], ◌∷◌, ◌++◌, Result, Ok, codes, length, map}
use Rattle.std.specs.Char.{char_set_contains}
use Rattle.std.specs.List.{list_all}
use Rattle.tocmark_event.specs.View.{EventView}
use Rattle.tocmark_event.specs.declared.options.Error.{Error}
use Rattle.tocmark_reader.specs.PlainTexts.{text_parts, is_printable, is_plain_text, lines_paragraph, IsReadAs}
use Rattle.tocmark_reader.specs.Reading.{core_reading}
use Rattle.tocmark_read_scan.specs.PlainParts.{Part, spelled, meant, last_byte}
use Rattle.tocmark_write_texts.specs.Escape.{Surroundings, ends_line, escaped}
use Rattle.tocmark_state.specs.Ranges.{Pair, unranged}
use Rattle.tocmark_state.specs.Walk.{Walk, Done, done}
use Rattle.tocmark_state.specs.Writes.{Makes}

-- a line: at least one character, each from U+0020 to U+007E, the last of them no space
abbrev pub is_line : List ℕ → Bool
is_line [] = false
is_line (c ∷ cs) = list_all is_printable (c ∷ cs) && not (last_byte c cs == 32)

-- a text for each line with a soft break between two, in a paragraph, without ranges
abbrev pub paragraph_of_lines : List ℕ → List (List ℕ) → List Pair
paragraph_of_lines l ms = map unranged (lines_paragraph l ms)

-- exactly one text is handed, and the core reader reads it as these events, with no labels
pub record IsReadBack (walk : Walk Done) (events : List EventView) : Type 0 where
  pub ends_well : walk.outcome ≡ Ok done
  pub text : List ℕ
  pub handed : walk.texts ≡ text ∷ []
  pub read : length text < 2 ^ 64 → IsReadAs (core_reading text) events

-- a call handed exactly one text if it succeeded, and the core reader reads that text as the lines' paragraph, with no labels
abbrev pub HandsLines : {W X : Type 0} → (W → List ℕ → W → Type 0) → (W → List ℕ → W → Type 0) → W → W → Result X Error → List ℕ → List (List ℕ) → Type 0
HandsLines gives refuses w v r l ms =
    (text : List ℕ) × Makes gives refuses w v r done (record { texts = text ∷ []; outcome = Ok done })
    × (length text < 2 ^ 64 → IsReadAs (core_reading text) (lines_paragraph l ms))

-- the place of a line of a paragraph whose text is escaped, beside emphasis by `*` or `_`
pub record IsInParagraph (p : Surroundings) : Type 0 where
  pub literal : p.literal ≡ false
  pub first : p.first_encoded ≡ false
  pub last : p.last_encoded ≡ false
  pub front : p.at_front ≡ true
  pub table : p.in_table ≡ false
  pub token : char_set_contains (codes "*_") p.token ≡ true
  pub line : ends_line p.next ≡ true

-- a text and the place where it is escaped
abbrev pub PlacedLine : Type 0
PlacedLine = Surroundings × List ℕ

-- a line at a place in a paragraph
pub record IsPlaced (l : PlacedLine) : Type 0 where
  pub place : IsInParagraph l.0
  pub line : is_line l.1 ≡ true

-- the escapes of lines, joined by line feeds
abbrev pub escaped_text : PlacedLine → List PlacedLine → List ℕ
escaped_text l [] = escaped l.0 l.1
escaped_text l (m ∷ ms) = escaped l.0 l.1 ++ 10 ∷ escaped_text m ms

-- the lines themselves
abbrev pub texts : List PlacedLine → List (List ℕ)
texts ls = map (λ l. l.1) ls

-- a text is plain and means these lines, so that the core reader reads it as their paragraph
pub record IsPlainOf (text : List ℕ) (l : List ℕ) (ms : List (List ℕ)) : Type 0 where
  pub parts : List Part
  pub more : List (List Part)
  pub plain : is_plain_text parts more ≡ true
  pub spells : text ≡ spelled (text_parts parts more)
  pub means : lines_paragraph (meant parts) (map meant more) ≡ lines_paragraph l ms
  pub read : length text < 2 ^ 64 → IsReadAs (core_reading text) (lines_paragraph l ms)
