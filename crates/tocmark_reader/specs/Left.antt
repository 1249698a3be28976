-- What is left of a reading block by block.
use Rattle.std.specs.Prelude.{◌≡◌, ◌≢◌, ℕ, Bool, true, not, ◌==◌, ◌&&◌, ◌||◌, nat_lt, List, [], ◌++◌, ◌-◌, is_none, map, reverse, slice_get, string_bytes, length}
use Rattle.std.specs.List.{fold}
use Rattle.std.specs.Option.{option_map_or}
use Rattle.tocmark_event.specs.Reading.{ReadingView}
use Rattle.tocmark_event.specs.View.{EventView}
use Rattle.tocmark_read_page.specs.declared.page.Block.{Block}
use Rattle.tocmark_read_page.specs.declared.page.BlockKind.{BlockKind}
use Rattle.tocmark_read_page.specs.declared.page.BlockKind.TheVariants as kind
use Rattle.tocmark_read_spans.specs.Definitions.{distinct_labels, entry_of}
use Rattle.tocmark_reader.specs.Emitted.{closed}
use Rattle.tocmark_reader.specs.Pages.{Progress, assembly_view, block_step_by, written_by}
use Rattle.tocmark_reader.specs.declared.block_reading.BlockReading.{BlockReading}

-- a paragraph that holds definitions alone has no events
abbrev pub has_events : BlockKind → Block → Bool
has_events kind.Paragraph b = nat_lt b.first b.last
has_events k b = true

-- the events of a block begin a tree: it is in no container
unfoldable pub begins_tree : Block → Bool
begins_tree b = b.depth == 0 && is_none b.list && has_events b.kind b

-- no events are made that aren't handed out
abbrev pub is_empty : BlockReading → Bool
is_empty r = length r.assembly.emission.events.items == 0

-- the blocks that are left: the next one is the last that is kept
abbrev pub blocks_left : BlockReading → List Block
blocks_left r = reverse r.blocks.items

-- no block is left, or the next one begins a tree
abbrev pub is_at_tree : BlockReading → Bool
is_at_tree r = option_map_or begins_tree (slice_get r.blocks.items (length r.blocks.items - 1)) true

-- the next block belongs to the events that are made and not handed out
abbrev pub goes_on : BlockReading → Bool
goes_on r = not (length r.blocks.items == 0) && (is_empty r || not (is_at_tree r))

-- all blocks that are left, written after what is made and not handed out
abbrev pub all_made : BlockReading → Progress
all_made r =
    written_by r.text
    (λ s. fold (block_step_by r.syntax r.text (entry_of r.definitions) r.loose.items r.pieces.items) s (blocks_left r))
    (assembly_view r.assembly)

-- the reading in which this is all that is made
abbrev pub reading_at_end : List (List ℕ) → Progress → ReadingView
reading_at_end defined made = record {
  events = (closed 0 made.writing).events;
  defined = defined;
  unresolved = distinct_labels made.inlines.texts made.inlines.missed;
}

-- what isn't handed out of a reading: its last events, and the labels of the whole text
abbrev pub reading_left : BlockReading → ReadingView
reading_left r = reading_at_end (map string_bytes r.defined.items) (all_made r)

-- a reading with these events in front of its own
abbrev pub behind : List (EventView × (ℕ × ℕ)) → ReadingView → ReadingView
behind events r = record { events = events ++ r.events; defined = r.defined; unresolved = r.unresolved }

-- a part that was handed out: its events come first of those that were left, it has some, and no labels
pub record IsPart (part old new : ReadingView) : Type 0 where
  pub first : old ≡ behind part.events new
  pub some : part.events ≢ []
  pub defined : part.defined ≡ []
  pub unresolved : part.unresolved ≡ []

-- no events were left, and nothing changed
pub record IsAtEnd (old new : ReadingView) : Type 0 where
  pub events : old.events ≡ []
  pub same : new ≡ old

-- no container is open, and if no events are made none are to come
pub record IsHandable (r : BlockReading) : Type 0 where
  pub closed : r.assembly.emission.stack.items ≡ []
  pub last : is_empty r ≡ true → r.blocks.items ≡ []

-- some events are made, or none are to come
abbrev pub IsReady : BlockReading → Type 0
IsReady r = is_empty r ≡ true → IsHandable r

-- no container is open, and all events that are made are handed out
pub record IsBetweenTrees (r : BlockReading) : Type 0 where
  pub events : r.assembly.emission.events.items ≡ []
  pub stack : r.assembly.emission.stack.items ≡ []

-- memory ran out in an earlier call
abbrev pub HasFailed : BlockReading → Type 0
HasFailed r = r.failed ≡ true
