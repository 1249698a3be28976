-- Texts whose blocks are those that are declared: their events are the declared ones, with paragraphs and headings.
use Rattle.std.specs.Prelude.{ℕ, ◌+◌, ◌*◌, ◌^◌, ◌<◌, ◌≡◌, true, ◌||◌, List, length, map}
use Rattle.std.specs.Str.{IsUtf8}
use Rattle.tocmark_event.specs.View.{EventView}
use Rattle.tocmark_reader.specs.Reading.{reading_of}
use Rattle.tocmark_commonmark.specs.Events.{events_of}
use Rattle.tocmark_block_laws.specs.Lists.{has_one_line_blocks, has_plain_lists}
use Rattle.tocmark_block_laws.specs.Quotes.{Agrees, IsPlain, is_covered}
use Rattle.tocmark_inline_laws.specs.Said.{commonmark}
use Rattle.tocmark_standard_laws.specs.Lettered.{lettered, as_text}

-- the events that are read of a text, without their ranges
abbrev pub events_read : List ℕ → List EventView
events_read text = map (λ e. e.0) (reading_of commonmark text).events

-- A text of which the law speaks, in fewer than 2 ^ 62 bytes. It has leaf blocks and block quotes, or its blocks have one line each, in
-- lists or not, or it has paragraphs, headings, thematic breaks and lists of any depth.
pub record IsCoveredText (text : List ℕ) : Type 0 where
  pub covered : (is_covered text || (has_one_line_blocks text || has_plain_lists text)) ≡ true
  pub utf8 : IsUtf8 text
  pub small : 4 * length text + 1 < 2 ^ 64

-- such a text is read as the events that are declared, however texts and HTML are cut
abbrev pub CoveredTextsAreReadAsDeclared : Type 0
CoveredTextsAreReadAsDeclared = (text : List ℕ) → IsCoveredText text → lettered (events_read text) ≡ map as_text (lettered (events_of text))

-- A text in fewer than 2 ^ 62 bytes, without tabs, carriage returns and U+0000, of which the reader finds the declared blocks and
-- definitions of links.
pub record IsAgreedText (text : List ℕ) : Type 0 where
  pub plain : IsPlain text
  pub agrees : Agrees text
  pub utf8 : IsUtf8 text
  pub small : 4 * length text + 1 < 2 ^ 64

-- the same of every such text
abbrev pub AgreedTextsAreReadAsDeclared : Type 0
AgreedTextsAreReadAsDeclared = (text : List ℕ) → IsAgreedText text → lettered (events_read text) ≡ map as_text (lettered (events_of text))
