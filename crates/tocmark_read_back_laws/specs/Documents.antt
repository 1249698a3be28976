-- That whole documents are read back: the events that are read of what is handed are the document's.
use Rattle.std.specs.Prelude.{ℕ, ◌+◌, ◌*◌, ◌^◌, ◌<◌, ◌≤◌, ◌≡◌, Bool, true, false, ◌||◌, Some, None, List, [], ◌∷◌, Ok, codes, length}
use Rattle.std.specs.Char.{char_set_contains}
use Rattle.std.specs.List.{concat}
use Rattle.tocmark_event.specs.Merged.{merged}
use Rattle.tocmark_event.specs.Options.{OptionsView}
use Rattle.tocmark_event.specs.Reading.{ReadingView}
use Rattle.tocmark_event.specs.View.{EventView}
use Rattle.tocmark_event.specs.declared.event.flags.ParserOptions.{ParserOptions}
use Rattle.tocmark_reader.specs.PlainTexts.{IsReadAs}
use Rattle.tocmark_reader.specs.Reading.{core_reading, reading_of}
use Rattle.tocmark_block_laws.specs.Lists.{has_one_line_blocks, has_plain_lists}
use Rattle.tocmark_block_laws.specs.Quotes.{Agrees, is_covered}
use Rattle.tocmark_inline_laws.specs.Said.{commonmark}
use Rattle.tocmark_state.specs.Walk.{Walk, Done, done, nothing_yet, script}
use Rattle.tocmark_state.specs.WorkView.{rendering}
use Rattle.tocmark_laws.specs.Documents.{PlainBlock, PlainParagraph, PlainHeading, PlainRule, PlainCode, ArePlainTokens}
use Rattle.tocmark_document_laws.specs.Blocks.{Blocks, Nothing, PlainThen, QuoteThen, BulletsThen, ItemThen, ArePlain, document, events_of, is_nothing}
use Rattle.tocmark_document_laws.specs.DocumentLines.{How, Beside, Marked, Below, Outside, no_lists, bullet_for, feeds_below, feeds_below_item, feeds_below_list, feeds_below_quote, in_bullets, layout}
use Rattle.tocmark_document_laws.specs.ReadBack.{HasNoList, BlocksTabless}
use Rattle.tocmark_layout_laws.specs.Declared.{HasSafeRules, is_tight}

-- The core reader finds these events in a text, with neighbouring texts joined, and no label that is defined or unresolved.
-- The reader that knows all names of character references finds the same, with the same ranges.
pub record IsReadAsEvents (text : List ℕ) (expected : List EventView) : Type 0 where
  pub read : IsReadAs (core_reading text) (merged expected)
  pub alike : reading_of commonmark text ≡ core_reading text

-- the layout of blocks without lists is read as their events
abbrev pub LayoutsAreReadBack : Type 0
LayoutsAreReadBack =
    (options : OptionsView) (flags : ParserOptions) (f : Blocks) →
    ArePlainTokens options → ArePlain f → HasNoList f → BlocksTabless f → 8 * length (layout options flags f) + 28 < 2 ^ 64 →
    IsReadAsEvents (layout options flags f) (events_of f)

-- nothing is refused, and the texts that are handed join to one that is read as these events
pub record AreHandedAndRead (walk : Walk Done) (events : List EventView) : Type 0 where
  pub ends_well : walk.outcome ≡ Ok done
  pub read : 8 * length (concat walk.texts) + 28 < 2 ^ 64 → IsReadAsEvents (concat walk.texts) events

-- so it is with what is handed for a document of such blocks
abbrev pub WholeDocumentsAreReadBack : Type 0
WholeDocumentsAreReadBack =
    (options : OptionsView) (reading : List ℕ → ParserOptions → ReadingView) (flags : ParserOptions) (source : List ℕ) (f : Blocks) →
    options.check_plain_blocks ≡ false → ArePlainTokens options → char_set_contains (codes "*-+") options.list_token ≡ true →
    ArePlain f → HasNoList f → BlocksTabless f →
    AreHandedAndRead (script (rendering options reading) source (nothing_yet flags) (document f)) (events_of f)

-- a block that isn't a paragraph, or one that isn't directly in an item of a tight list
abbrev pub IsWrapped : Bool → PlainBlock → Type 0
IsWrapped false b = Unit {0}
IsWrapped true (PlainParagraph l ms) = ⊥
IsWrapped true (PlainHeading level ts) = Unit {0}
IsWrapped true PlainRule = Unit {0}
IsWrapped true (PlainCode info lines) = Unit {0}

-- so are all of these blocks, which are directly in items of a tight list or not
abbrev pub AreWrapped : OptionsView → Outside → How → Bool → Blocks → Type 0
AreWrapped o c how tight Nothing = Unit {0}
AreWrapped o c how tight (PlainThen b f) = IsWrapped tight b × AreWrapped o c (Below (feeds_below o b) None) tight f
AreWrapped o c how tight (QuoteThen kids f) = AreWrapped o c Beside false kids × AreWrapped o c (Below (feeds_below_quote o) None) tight f
AreWrapped o c how tight (BulletsThen items f) =
    AreWrapped o (in_bullets (bullet_for o c how) c) Beside (is_tight o (in_bullets (bullet_for o c how) c) items) items
    × AreWrapped o c (Below (feeds_below_list o c.listed items) (Some (bullet_for o c how))) tight f
AreWrapped o c how tight (ItemThen kids f) = AreWrapped o c Marked tight kids × AreWrapped o c (Below (feeds_below_item o kids) None) tight f

-- the same of a document's blocks
abbrev pub HasNoTightParagraph : OptionsView → Blocks → Type 0
HasNoTightParagraph o f = AreWrapped o no_lists Beside false f

-- so it is in each document under options that ask for an empty line after headings and thematic breaks
abbrev pub SpacedParagraphsKeepTheirTags : Type 0
SpacedParagraphsKeepTheirTags =
    (options : OptionsView) (f : Blocks) →
    2 ≤ options.newlines_after_headline → 2 ≤ options.newlines_after_rule → ArePlain f →
    HasNoTightParagraph options f

-- the layout of blocks, with lists or not, is read as their events if the reader finds the blocks that CommonMark declares of it
abbrev pub AgreedLayoutsAreReadBack : Type 0
AgreedLayoutsAreReadBack =
    (options : OptionsView) (flags : ParserOptions) (f : Blocks) →
    ArePlainTokens options → char_set_contains (codes "*-+") options.list_token ≡ true →
    ArePlain f → HasSafeRules options no_lists Beside f → HasNoTightParagraph options f → BlocksTabless f →
    8 * length (layout options flags f) + 28 < 2 ^ 64 → Agrees (layout options flags f) →
    IsReadAsEvents (layout options flags f) (events_of f)

-- a text is of one of three kinds, of which the reader finds the declared blocks
abbrev pub IsOfThreeKinds : List ℕ → Type 0
IsOfThreeKinds text = (is_covered text || (has_one_line_blocks text || has_plain_lists text)) ≡ true

-- nothing of such a document is refused, and what is handed is read as these events if its layout is of one of the three kinds
abbrev pub ListedDocumentsAreReadBack : Type 0
ListedDocumentsAreReadBack =
    (options : OptionsView) (reading : List ℕ → ParserOptions → ReadingView) (flags : ParserOptions) (source : List ℕ) (f : Blocks) →
    options.check_plain_blocks ≡ false → ArePlainTokens options → char_set_contains (codes "*-+") options.list_token ≡ true →
    ArePlain f → HasSafeRules options no_lists Beside f → HasNoTightParagraph options f → BlocksTabless f →
    IsOfThreeKinds (layout options flags f) →
    AreHandedAndRead (script (rendering options reading) source (nothing_yet flags) (document f)) (events_of f)

-- a heading, a thematic break, or a paragraph of one line
abbrev pub IsOneLine : PlainBlock → Type 0
IsOneLine (PlainParagraph l []) = Unit {0}
IsOneLine (PlainParagraph l (m ∷ ms)) = ⊥
IsOneLine (PlainHeading level ts) = Unit {0}
IsOneLine PlainRule = Unit {0}
IsOneLine (PlainCode info lines) = ⊥

-- a heading, or a paragraph of one line
abbrev pub IsTextLine : PlainBlock → Type 0
IsTextLine (PlainParagraph l []) = Unit {0}
IsTextLine (PlainParagraph l (m ∷ ms)) = ⊥
IsTextLine (PlainHeading level ts) = Unit {0}
IsTextLine PlainRule = ⊥
IsTextLine (PlainCode info lines) = ⊥

-- these are one of them alone
abbrev pub IsShortItem : Blocks → Type 0
IsShortItem Nothing = ⊥
IsShortItem (PlainThen b f) = IsTextLine b × (is_nothing f ≡ true)
IsShortItem (QuoteThen kids f) = ⊥
IsShortItem (BulletsThen items f) = ⊥
IsShortItem (ItemThen kids f) = ⊥

-- so are the blocks of each of these items
abbrev pub AreShortItems : Blocks → Type 0
AreShortItems Nothing = Unit {0}
AreShortItems (PlainThen b f) = ⊥
AreShortItems (QuoteThen kids f) = ⊥
AreShortItems (BulletsThen items f) = ⊥
AreShortItems (ItemThen kids f) = IsShortItem kids × AreShortItems f

-- blocks of one line each, and lists of such items
abbrev pub AreShortBlocks : Blocks → Type 0
AreShortBlocks Nothing = Unit {0}
AreShortBlocks (PlainThen b f) = IsOneLine b × AreShortBlocks f
AreShortBlocks (QuoteThen kids f) = ⊥
AreShortBlocks (BulletsThen items f) = AreShortItems items × AreShortBlocks f
AreShortBlocks (ItemThen kids f) = ⊥

-- the layouts of these are of one of the three kinds
abbrev pub ShortDocumentsAreOfThreeKinds : Type 0
ShortDocumentsAreOfThreeKinds =
    (options : OptionsView) (flags : ParserOptions) (f : Blocks) →
    ArePlainTokens options → char_set_contains (codes "*-+") options.list_token ≡ true → ArePlain f → AreShortBlocks f →
    length (layout options flags f) < 2 ^ 64 → IsOfThreeKinds (layout options flags f)
