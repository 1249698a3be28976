-- When a spelling is read back as its unit.
use Rattle.std.specs.Prelude.{◌≡◌, ℕ, Bool, true, not, ◌&&◌, ◌||◌, if◌then◌else◌, List, [], ◌∷◌, ◌++◌, codes}
use Rattle.std.specs.List.{list_any}
use Rattle.tocmark_event.specs.View.{EventView}
use Rattle.tocmark_event.specs.Flags.{metadata_flags, union_of, without}
use Rattle.tocmark_event.specs.Merged.{merged}
use Rattle.tocmark_event.specs.Reading.{ReadingView}
use Rattle.tocmark_event.specs.declared.event.flags.ParserOptions.{ParserOptions}
use Rattle.tocmark_spelling.specs.Plan.{Setting}
use Rattle.tocmark_spelling.specs.SameEvents.{same_events}
use Rattle.tocmark_spelling.specs.ById.{events_of, merged_trees}
use Rattle.tocmark_spelling.specs.Body.{Trees}
use Rattle.tocmark_compare.specs.InParagraph.{in_paragraph}
use Rattle.tocmark_write_labels.specs.Document.{DocumentView, is_among, is_label}

-- the flags under which a unit is read: metadata is only at a document's beginning
abbrev pub flags_at : Setting → DocumentView → ParserOptions
flags_at s d = if d.flushed then without s.flags (union_of metadata_flags) else s.flags

-- what is read: the definitions and a blank line before the text
abbrev pub whole_text : List ℕ → List ℕ → List ℕ
whole_text [] text = text
whole_text (b ∷ defs) text = (b ∷ defs) ++ codes "\n\n" ++ text

-- a reader found just these events, merged, and left no label open that is taken
abbrev pub found_in : (List ℕ → Bool) → List EventView → ReadingView → Bool
found_in is_taken events r = same_events (merged (events_of r)) events && not (list_any is_taken r.unresolved)

-- the events that must be read: the unit's, merged, and inline ones in a Paragraph
abbrev pub expected : Trees → List EventView
expected f = in_paragraph (merged_trees f)

-- the labels that a unit may not leave open: those of earlier units, and the reserved one
abbrev pub is_taken : Setting → DocumentView → List ℕ → Bool
is_taken s d label = is_among d.known label || is_label s.label label

-- a reader found the unit's events, merged, and left no label open that is taken
abbrev pub is_read_back : Setting → DocumentView → Trees → ReadingView → Bool
is_read_back s d f r = found_in (is_taken s d) (expected f) r

-- a text with these definitions is read back as the unit: its events are the unit's, and none of its labels that stay
-- open is the reserved one or one that an earlier unit defines
unfoldable pub reads_back : Setting → DocumentView → Trees → List ℕ → List ℕ → Bool
reads_back s d f defs text = is_read_back s d f (s.reading (whole_text defs text) (flags_at s d))

-- the same as a fact
abbrev pub ReadsBack : Setting → DocumentView → Trees → List ℕ → List ℕ → Type 0
ReadsBack s d f defs text = reads_back s d f defs text ≡ true
