-- Blocks that are in block quotes and items or not, as trees, and their events.
use Rattle.std.specs.Prelude.{◌≡◌, Bool, true, false, ◌&&◌, List, [], ◌∷◌, ◌++◌, None, map}
use Rattle.tocmark_event.specs.View.{EventView, Start, End, BlockQuote, Item, ListOf}
use Rattle.tocmark_event.specs.declared.event.TagEnd.TheVariants as end
use Rattle.tocmark_state.specs.Ranges.{Pair, unranged}
use Rattle.tocmark_laws.specs.Documents.{PlainBlock, PlainParagraph, IsPlainBlock, plain_events}

-- blocks in their order: nothing; a plain block and those after it; a block quote, which has blocks in it, and those after it; a
-- bullet list, which has items in it, and the blocks after it; or an item of a list, which has blocks in it, and the items after it
pub data Blocks : Type 0 where
  Nothing : Blocks
  PlainThen : PlainBlock → Blocks → Blocks
  QuoteThen : Blocks → Blocks → Blocks
  BulletsThen : Blocks → Blocks → Blocks
  ItemThen : Blocks → Blocks → Blocks

-- whether an item comes first
abbrev pub begins_item : Blocks → Bool
begins_item (ItemThen kids f) = true
begins_item f = false

-- whether nothing comes
abbrev pub is_nothing : Blocks → Bool
is_nothing Nothing = true
is_nothing f = false

-- whether these are one paragraph alone
abbrev pub is_paragraph_alone : Blocks → Bool
is_paragraph_alone (PlainThen (PlainParagraph l ms) f) = is_nothing f
is_paragraph_alone f = false

-- whether these are one item with one paragraph alone
abbrev pub is_lone : Blocks → Bool
is_lone (ItemThen kids f) = is_paragraph_alone kids && is_nothing f
is_lone f = false

-- each plain block has plain lines alone; items are directly in lists, and nothing else is; a list has an item, and doesn't have one
-- paragraph alone, since such a list is always tight (CommonMark, section 5.3); the truth value says whether these are in a list
abbrev pub ArePlainIn : Bool → Blocks → Type 0
ArePlainIn items Nothing = Unit {0}
ArePlainIn true (PlainThen b f) = ⊥
ArePlainIn false (PlainThen b f) = IsPlainBlock b × ArePlainIn false f
ArePlainIn true (QuoteThen kids f) = ⊥
ArePlainIn false (QuoteThen kids f) = ArePlainIn false kids × ArePlainIn false f
ArePlainIn true (BulletsThen items f) = ⊥
ArePlainIn false (BulletsThen items f) = (begins_item items ≡ true) × (is_lone items ≡ false) × ArePlainIn true items × ArePlainIn false f
ArePlainIn false (ItemThen kids f) = ⊥
ArePlainIn true (ItemThen kids f) = ArePlainIn false kids × ArePlainIn true f

-- the same of a document's blocks
abbrev pub ArePlain : Blocks → Type 0
ArePlain f = ArePlainIn false f

-- their events in order
abbrev pub events_of : Blocks → List EventView
events_of Nothing = []
events_of (PlainThen b f) = plain_events b ++ events_of f
events_of (QuoteThen kids f) = Start (BlockQuote None) ∷ events_of kids ++ End (end.BlockQuote None) ∷ events_of f
events_of (BulletsThen items f) = Start (ListOf None) ∷ events_of items ++ End (end.List false) ∷ events_of f
events_of (ItemThen kids f) = Start Item ∷ events_of kids ++ End end.Item ∷ events_of f

-- the same without ranges
abbrev pub document : Blocks → List Pair
document f = map unranged (events_of f)
