-- Documents of headings, paragraphs of plain lines, thematic breaks and fenced code, and that what is handed for them is read back.
use Rattle.std.specs.Prelude.{◌≡◌, ℕ, ◌^◌, ◌<◌, Bool, true, false, nat_lt, not, ◌==◌, ◌&&◌, ◌||◌, List, [], ◌∷◌, ◌++◌, Result, Ok, codes, flat_map, length, map}
use Rattle.std.specs.Char.{char_set_contains}
use Rattle.std.specs.List.{AllByRecursion, concat, list_all}
use Rattle.tocmark_event.specs.declared.event.HeadingLevel.{HeadingLevel}
use Rattle.tocmark_state.specs.Ranges.{Pair, unranged}
use Rattle.tocmark_event.specs.Merged.{merged}
use Rattle.tocmark_event.specs.Options.{OptionsView}
use Rattle.tocmark_event.specs.Reading.{ReadingView}
use Rattle.tocmark_event.specs.View.{EventView, Start, End, Leaf, Text, Rule, CodeBlock, Fenced}
use Rattle.tocmark_event.specs.declared.event.TagEnd.TheVariants as end
use Rattle.tocmark_event.specs.declared.event.flags.ParserOptions.{ParserOptions}
use Rattle.tocmark_event.specs.declared.options.Error.{Error}
use Rattle.tocmark_reader.specs.PlainTexts.{IsReadAs, lines_paragraph}
use Rattle.tocmark_reader.specs.Reading.{core_reading}
use Rattle.tocmark_laws.specs.PlainLines.{is_line}
use Rattle.tocmark_laws.specs.TextBlocks.{Block, HeadingKind, block_events, document_of}
use Rattle.tocmark_state.specs.Walk.{Walk, Done, done, nothing_yet, script}
use Rattle.tocmark_state.specs.WorkView.{rendering}
use Rattle.tocmark_state.specs.Writes.{Makes}

-- the texts of a paragraph or heading join to one line: at least one character, each from U+0020 to U+007E, the last no space
abbrev pub IsLineBlock : Block → Type 0
IsLineBlock b = is_line (concat b.texts) ≡ true

-- the texts that are handed join to one that the core reader reads as these events, with no labels
pub record AreReadBack (walk : Walk Done) (events : List EventView) : Type 0 where
  pub ends_well : walk.outcome ≡ Ok done
  pub read : length (concat walk.texts) < 2 ^ 64 → IsReadAs (core_reading (concat walk.texts)) events

-- what is handed for such a document is read as its events, merged
abbrev pub DocumentsAreReadBack : Type 0
DocumentsAreReadBack =
    (options : OptionsView) (reading : List ℕ → ParserOptions → ReadingView) (flags : ParserOptions) (source : List ℕ) (b : Block) (bs : List Block) →
    options.check_plain_blocks ≡ false → char_set_contains (codes "*_") options.emphasis_token ≡ true → AllByRecursion IsLineBlock (b ∷ bs) →
    AreReadBack (script (rendering options reading) source (nothing_yet flags) (document_of (b ∷ bs))) (merged (flat_map block_events (b ∷ bs)))

-- a paragraph of lines, a text for each with a soft break between two; a heading whose texts join to one line; a thematic break;
-- or fenced code with an info string and lines, a text for each
pub data PlainBlock : Type 0 where
  PlainParagraph : List ℕ → List (List ℕ) → PlainBlock
  PlainHeading : HeadingLevel → List (List ℕ) → PlainBlock
  PlainRule : PlainBlock
  PlainCode : List ℕ → List (List ℕ) → PlainBlock

-- the heading as a block of texts
abbrev pub heading_block : HeadingLevel → List (List ℕ) → Block
heading_block level ts = record { kind = HeadingKind level; texts = ts }

-- the events of fenced code: a text for each line, with the line feed that ends it
abbrev pub code_block : List ℕ → List (List ℕ) → List EventView
code_block info lines = Start (CodeBlock (Fenced info)) ∷ map (λ l. Leaf (Text (l ++ codes "\n"))) lines ++ End end.CodeBlock ∷ []

-- its events
abbrev pub plain_events : PlainBlock → List EventView
plain_events (PlainParagraph l ms) = lines_paragraph l ms
plain_events (PlainHeading level ts) = block_events (heading_block level ts)
plain_events PlainRule = Leaf Rule ∷ []
plain_events (PlainCode info lines) = code_block info lines

-- the events of all blocks in order, without ranges
abbrev pub plain_document : List PlainBlock → List Pair
plain_document bs = flat_map (λ b. map unranged (plain_events b)) bs

-- a character that means itself in an info string: no `&`, backslash, backtick or `~`
abbrev pub is_info_character : ℕ → Bool
is_info_character c = not ((c == 38) || (c == 92) || (c == 96) || (c == 126))

-- an info string: none, or a plain line of such characters that doesn't begin with a space
abbrev pub is_info : List ℕ → Bool
is_info [] = true
is_info (c ∷ cs) = is_line (c ∷ cs) && not (c == 32) && list_all is_info_character (c ∷ cs)

-- a character of a line of code: any of ASCII but U+0000 and those that end a line
abbrev pub is_code_character : ℕ → Bool
is_code_character c = nat_lt c 128 && not ((c == 0) || (c == 10) || (c == 13))

-- a line of a paragraph or heading has at least one character, each from U+0020 to U+007E, the last no space; code has such an
-- info string, and any lines of ASCII but U+0000
abbrev pub IsPlainBlock : PlainBlock → Type 0
IsPlainBlock (PlainParagraph l ms) = list_all is_line (l ∷ ms) ≡ true
IsPlainBlock (PlainHeading level ts) = is_line (concat ts) ≡ true
IsPlainBlock PlainRule = Unit {0}
IsPlainBlock (PlainCode info lines) = (is_info info && list_all (λ l. list_all is_code_character l) lines) ≡ true

-- the options name a delimiter of emphasis and a fence that Markdown reads
pub record ArePlainTokens (options : OptionsView) : Type 0 where
  pub emphasis : char_set_contains (codes "*_") options.emphasis_token ≡ true
  pub code : char_set_contains (codes "`~") options.code_block_token ≡ true

-- what is handed for such a document is read as its events, merged
abbrev pub PlainDocumentsAreReadBack : Type 0
PlainDocumentsAreReadBack =
    (options : OptionsView) (reading : List ℕ → ParserOptions → ReadingView) (flags : ParserOptions) (source : List ℕ) (b : PlainBlock) (bs : List PlainBlock) →
    options.check_plain_blocks ≡ false → ArePlainTokens options → AllByRecursion IsPlainBlock (b ∷ bs) →
    AreReadBack (script (rendering options reading) source (nothing_yet flags) (plain_document (b ∷ bs))) (merged (flat_map plain_events (b ∷ bs)))

-- if the events are those of such a document, a call that succeeded handed texts that join to one that the core reader reads as
-- these events, merged; else it failed at one of them, or for want of memory after a front of them
abbrev pub MakesDocument : {W X : Type 0} → (W → List ℕ → W → Type 0) → (W → List ℕ → W → Type 0) → W → W → Result X Error → List Pair → Type 0
MakesDocument gives refuses w v r p =
    (b : PlainBlock) (bs : List PlainBlock) → AllByRecursion IsPlainBlock (b ∷ bs) → p ≡ plain_document (b ∷ bs) →
    (texts : List (List ℕ)) × Makes gives refuses w v r done (record { texts = texts; outcome = Ok done })
    × (length (concat texts) < 2 ^ 64 → IsReadAs (core_reading (concat texts)) (merged (flat_map plain_events (b ∷ bs))))
