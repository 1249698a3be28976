-- Documents of paragraphs and headings that hold texts alone, and the texts that are handed for them.
use Rattle.std.specs.Prelude.{◌≡◌, ◌≢◌, ℕ, max, Bool, true, false, Some, None, Result, Ok, List, [], ◌∷◌, ◌++◌, chars, codes, flat_map, map, replicate}
use Rattle.std.specs.List.{AllByRecursion, concat}
use Rattle.tocmark_event.specs.Options.{OptionsView, default_options}
use Rattle.tocmark_event.specs.Reading.{ReadingView}
use Rattle.tocmark_event.specs.View.{EventView, Start, End, Leaf, TagView, Paragraph, Heading, Text, end_of}
use Rattle.tocmark_event.specs.declared.event.HeadingLevel.{HeadingLevel}
use Rattle.tocmark_event.specs.declared.event.flags.ParserOptions.{ParserOptions}
use Rattle.tocmark_event.specs.declared.options.Error.{Error}
use Rattle.tocmark_write_texts.specs.Escape.{Surroundings, escaped}
use Rattle.tocmark_spelling.specs.Opening.{level_number}
use Rattle.tocmark_state.specs.Ranges.{Pair, unranged}
use Rattle.tocmark_state.specs.WorkView.{rendering}
use Rattle.tocmark_state.specs.Walk.{Walk, Done, done, nothing_yet, script}
use Rattle.tocmark_state.specs.Writes.{Makes}

-- a paragraph, or a heading with its level from 1 to 6
pub data Kind : Type 0 where
  ParagraphKind : Kind
  HeadingKind : HeadingLevel → Kind

-- a paragraph or heading, and its texts in order
pub record Block : Type 0 where
  pub kind : Kind
  pub texts : List (List ℕ)

-- its tag; a heading has no id, no classes and no attributes
abbrev pub tag_of : Kind → TagView
tag_of ParagraphKind = Paragraph
tag_of (HeadingKind level) = Heading level None [] []

-- its events: the Start, a Text for each text, and the End
abbrev pub block_events : Block → List EventView
block_events b = Start (tag_of b.kind) ∷ map (λ t. Leaf (Text t)) b.texts ++ End (end_of (tag_of b.kind)) ∷ []

-- the events of all blocks in order, without ranges
abbrev pub document_of : List Block → List Pair
document_of bs = flat_map (λ b. map unranged (block_events b)) bs

-- whether it is a heading
abbrev pub is_heading_kind : Kind → Bool
is_heading_kind ParagraphKind = false
is_heading_kind (HeadingKind level) = true

-- where the text of a block is: at its front, in no table, in a heading if it is one, and before its End
abbrev pub place_in : OptionsView → ParserOptions → Kind → Surroundings
place_in o flags kind = record {
  flags = flags;
  token = o.emphasis_token;
  literal = false;
  first_encoded = false;
  last_encoded = false;
  at_front = true;
  in_table = false;
  in_heading = is_heading_kind kind;
  next = Some (End (end_of (tag_of kind)));
}

-- what is before the text: as many `#` as the heading's level, and a space (CommonMark, section 4.2)
abbrev pub mark_of : Kind → List ℕ
mark_of ParagraphKind = []
mark_of (HeadingKind level) = replicate (level_number level) 35 ++ codes " "

-- a block in Markdown: its mark, and the escape of its texts as one
abbrev pub block_text : OptionsView → ParserOptions → Block → List ℕ
block_text o flags b = mark_of b.kind ++ escaped (place_in o flags b.kind) (concat b.texts)

-- how many line feeds are between a block and the next one: at least two after a paragraph, at least one after a heading
abbrev pub feeds_behind : OptionsView → Kind → ℕ
feeds_behind o ParagraphKind = max o.newlines_after_paragraph 2
feeds_behind o (HeadingKind level) = max o.newlines_after_headline 1

-- a text for each block, the first one after so many line feeds
abbrev pub texts_behind : OptionsView → ParserOptions → ℕ → List Block → List (List ℕ)
texts_behind o flags feeds [] = []
texts_behind o flags feeds (b ∷ bs) = (replicate feeds 10 ++ block_text o flags b) ∷ texts_behind o flags (feeds_behind o b.kind) bs

-- some character is in a block
abbrev pub HasText : Block → Type 0
HasText b = chars (concat b.texts) ≢ []

-- the walk that hands exactly a text for each block
abbrev pub blocks_walk : OptionsView → ParserOptions → List Block → Walk Done
blocks_walk o flags bs = record { texts = texts_behind o flags 0 bs; outcome = Ok done }

-- for blocks with text, exactly a text for each is handed and nothing is refused: under all flags, over each reader, and
-- under all options that don't ask that plain blocks be checked
abbrev pub BlocksAreEscapes : Type 0
BlocksAreEscapes =
    (options : OptionsView) (reading : List ℕ → ParserOptions → ReadingView) (flags : ParserOptions) (source : List ℕ) (bs : List Block) →
    options.check_plain_blocks ≡ false → AllByRecursion HasText bs → script (rendering options reading) source (nothing_yet flags) (document_of bs) ≡ blocks_walk options flags bs

-- if the events are those of blocks with text, a call with the default options handed a text for each where it succeeded, and
-- else failed at one or for want of memory, after a front of them
abbrev pub MakesBlocks : {W X : Type 0} → (W → List ℕ → W → Type 0) → (W → List ℕ → W → Type 0) → W → W → Result X Error → ParserOptions → List Pair → Type 0
MakesBlocks gives refuses w v r flags p =
    (bs : List Block) → AllByRecursion HasText bs → p ≡ document_of bs → Makes gives refuses w v r done (blocks_walk default_options flags bs)
