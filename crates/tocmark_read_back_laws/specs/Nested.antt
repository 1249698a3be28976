-- That documents with lists in lists are read back.
use Rattle.std.specs.Prelude.{ℕ, ◌+◌, ◌*◌, ◌^◌, ◌<◌, ◌≤◌, ◌≡◌, false, true, Some, None, List, Ok, codes, length}
use Rattle.std.specs.Char.{char_set_contains}
use Rattle.std.specs.List.{concat}
use Rattle.tocmark_event.specs.Options.{OptionsView}
use Rattle.tocmark_event.specs.Reading.{ReadingView}
use Rattle.tocmark_event.specs.View.{EventView}
use Rattle.tocmark_event.specs.declared.event.flags.ParserOptions.{ParserOptions}
use Rattle.tocmark_block_laws.specs.Quotes.{Agrees}
use Rattle.tocmark_state.specs.Walk.{Walk, Done, done, nothing_yet, script}
use Rattle.tocmark_state.specs.WorkView.{rendering}
use Rattle.tocmark_laws.specs.Documents.{ArePlainTokens}
use Rattle.tocmark_document_laws.specs.Blocks.{Blocks, Nothing, PlainThen, QuoteThen, BulletsThen, ItemThen, ArePlain, document, events_of, is_nothing}
use Rattle.tocmark_document_laws.specs.DocumentLines.{How, Beside, Marked, Below, Outside, no_lists, bullet_for, feeds_below, feeds_below_item, feeds_below_list, feeds_below_quote, in_bullets, layout, list_gap, new_line, plain_gap}
use Rattle.tocmark_document_laws.specs.ReadBack.{BlocksTabless}
use Rattle.tocmark_layout_laws.specs.Declared.{HasSafeRules, is_gap}
use Rattle.tocmark_read_back_laws.specs.Documents.{IsReadAsEvents}

-- blocks that are there have an empty line before them
abbrev pub AreBelow : OptionsView → Outside → How → Blocks → Type 0
AreBelow o c how Nothing = Unit {0}
AreBelow o c how (PlainThen b f) = is_gap (plain_gap how b) ≡ true
AreBelow o c how (QuoteThen kids f) = is_gap (new_line how) ≡ true
AreBelow o c how (BulletsThen items f) = is_gap (list_gap c how) ≡ true
AreBelow o c how (ItemThen kids f) = Unit {0}

-- so are those after a block that comes right after an item's marker
abbrev pub AreBelowFirst : OptionsView → Outside → How → How → Blocks → Type 0
AreBelowFirst o c Marked next f = AreBelow o c next f
AreBelowFirst o c Beside next f = Unit {0}
AreBelowFirst o c (Below n bullet) next f = Unit {0}

-- an empty line is after the first block of each item, and after each list, if another block follows
abbrev pub AreSpaced : OptionsView → Outside → How → Blocks → Type 0
AreSpaced o c how Nothing = Unit {0}
AreSpaced o c how (PlainThen b f) = AreBelowFirst o c how (Below (feeds_below o b) None) f × AreSpaced o c (Below (feeds_below o b) None) f
AreSpaced o c how (QuoteThen kids f) = AreBelowFirst o c how (Below (feeds_below_quote o) None) f × AreSpaced o c Beside kids × AreSpaced o c (Below (feeds_below_quote o) None) f
AreSpaced o c how (BulletsThen items f) =
    AreBelow o c (Below (feeds_below_list o c.listed items) (Some (bullet_for o c how))) f
    × AreSpaced o (in_bullets (bullet_for o c how) c) Beside items
    × AreSpaced o c (Below (feeds_below_list o c.listed items) (Some (bullet_for o c how))) f
AreSpaced o c how (ItemThen kids f) = AreSpaced o c Marked kids × AreSpaced o c (Below (feeds_below_item o kids) None) f

-- the same of a document's blocks
abbrev pub IsSpaced : OptionsView → Blocks → Type 0
IsSpaced o f = AreSpaced o no_lists Beside f

-- the reader finds in the layout of such blocks what CommonMark declares of it, with lists in items and quotes to any depth
abbrev pub NestedLayoutsAgree : Type 0
NestedLayoutsAgree =
    (options : OptionsView) (flags : ParserOptions) (f : Blocks) →
    ArePlainTokens options → char_set_contains (codes "*-+") options.list_token ≡ true →
    ArePlain f → HasSafeRules options no_lists Beside f → BlocksTabless f → IsSpaced options f →
    32 * length (layout options flags f) + 60 < 2 ^ 64 → Agrees (layout options flags f)

-- so the layout is read as the events of the blocks
abbrev pub NestedLayoutsAreReadBack : Type 0
NestedLayoutsAreReadBack =
    (options : OptionsView) (flags : ParserOptions) (f : Blocks) →
    ArePlainTokens options → char_set_contains (codes "*-+") options.list_token ≡ true →
    ArePlain f → HasSafeRules options no_lists Beside f → BlocksTabless f → IsSpaced options f →
    32 * length (layout options flags f) + 60 < 2 ^ 64 → IsReadAsEvents (layout options flags f) (events_of f)

-- nothing is refused, and the texts that are handed join to one that is read as these events, if it has fewer than 2^59 - 1 bytes
pub record AreHandedAndReadBack (walk : Walk Done) (events : List EventView) : Type 0 where
  pub ends_well : walk.outcome ≡ Ok done
  pub read : 32 * length (concat walk.texts) + 60 < 2 ^ 64 → IsReadAsEvents (concat walk.texts) events

-- so it is with what is handed for a document of such blocks
abbrev pub NestedDocumentsAreReadBack : Type 0
NestedDocumentsAreReadBack =
    (options : OptionsView) (reading : List ℕ → ParserOptions → ReadingView) (flags : ParserOptions) (source : List ℕ) (f : Blocks) →
    options.check_plain_blocks ≡ false → ArePlainTokens options → char_set_contains (codes "*-+") options.list_token ≡ true →
    ArePlain f → HasSafeRules options no_lists Beside f → BlocksTabless f → IsSpaced options f →
    AreHandedAndReadBack (script (rendering options reading) source (nothing_yet flags) (document f)) (events_of f)

-- each item has a block
abbrev pub HasFullItems : Blocks → Type 0
HasFullItems Nothing = Unit {0}
HasFullItems (PlainThen b f) = HasFullItems f
HasFullItems (QuoteThen kids f) = HasFullItems kids × HasFullItems f
HasFullItems (BulletsThen items f) = HasFullItems items × HasFullItems f
HasFullItems (ItemThen kids f) = (is_nothing kids ≡ false) × HasFullItems kids × HasFullItems f

-- under options that ask for an empty line after headings and thematic breaks, as the default options do, such blocks are spaced
abbrev pub SpacedOptionsSpaceBlocks : Type 0
SpacedOptionsSpaceBlocks =
    (options : OptionsView) (f : Blocks) →
    2 ≤ options.newlines_after_headline → 2 ≤ options.newlines_after_rule → HasFullItems f → ArePlain f → IsSpaced options f
