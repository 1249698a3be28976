-- The link reference definitions of a document, and lists of labels.
use Rattle.std.specs.Prelude.{ℕ, Bool, ◌==◌, ◌&&◌, if◌then◌else◌, List, [], ◌∷◌, ◌++◌, length, map, slice_get, string_bytes, Option, Some, None, unwrap_or}
use Rattle.std.specs.HashMap.{get_by_text}
use Rattle.std.specs.Str.Lossy.{utf8_lossy}
use Rattle.tocmark_read_scan.specs.Basic.{byte_at, bytes_between}
use Rattle.tocmark_read_tokens.specs.Label.{collapsed, key_of, distinct_from}
use Rattle.tocmark_read_tokens.specs.Reference.{unescaped_in}
use Rattle.tocmark_read_scan.specs.declared.syntax.Names.{Names}
use Rattle.tocmark_read_spans.specs.Footnotes.{note_key}
use Rattle.tocmark_read_tokens.specs.declared.word.Definition.{Definition}
use Rattle.tocmark_read_spans.specs.declared.definitions.Definitions.{Definitions}
use Rattle.tocmark_read_spans.specs.declared.definitions.Entry.{Entry}
use Rattle.tocmark_read_spans.specs.declared.definitions.Collected.{Collected}
use Rattle.tocmark_read_spans.specs.declared.role.Stretch.{Stretch}

-- the entry at a place, if there is one
abbrev pub entry_at : List Entry → Option ℕ → Option Entry
entry_at entries None = None
entry_at entries (Some place) = slice_get entries place

-- the entry of a footnote, which has neither a destination nor a title
abbrev pub no_entry : Entry
no_entry = record { destination = record { start = 0; end = 0 }; title = record { start = 0; end = 0 } }

-- a key is that of a footnote's name: a bracket is first
abbrev pub is_note_key : List ℕ → Bool
is_note_key key = byte_at key 0 == 91

-- what a label leads to: its first definition, or nothing for a footnote's name if each of these counts as defined
abbrev pub leads_to : Bool → Option Entry → List ℕ → Option Entry
leads_to has_all_notes first key = if has_all_notes && is_note_key key then Some no_entry else first

-- the first definition of the label with a key
abbrev pub entry_of : Definitions → List ℕ → Option Entry
entry_of d key = leads_to d.has_all_notes (entry_at d.entries.items (get_by_text d.places key)) key

-- the definitions found so far: the keys of their labels, labels and entries as stretches of texts
pub record State : Type 0 where
  pub keys : List (List ℕ)
  pub labels : List Stretch
  pub entries : List Entry
  pub texts : List ℕ

-- what is collected as lists
abbrev pub collected_view : Collected → State
collected_view c = record { keys = map string_bytes c.keys.items; labels = c.labels.items; entries = c.entries.items; texts = c.texts.items }

-- nothing is collected yet
abbrev pub collected_none : State
collected_none = record { keys = []; labels = []; entries = []; texts = [] }

-- the texts with one more, and its stretch
abbrev pub kept : List ℕ → List ℕ → List ℕ × Stretch
kept text texts = (texts ++ text, record { start = length texts; end = length (texts ++ text) })

-- one more definition of these texts
abbrev pub defined_as : List ℕ → List ℕ → List ℕ → List ℕ → State → State
defined_as key label destination title s =
    let l = kept label s.texts in
    let d = kept destination (l.0) in
    let t = kept title (d.0) in
    record {
      keys = s.keys ++ key ∷ [];
      labels = s.labels ++ l.1 ∷ [];
      entries = s.entries ++ record { destination = d.1; title = t.1 } ∷ [];
      texts = t.0;
    }

-- one more definition: the label collapsed, destination and title without escapes and references
unfoldable pub defined_with_in : Names → List ℕ → List ℕ → List ℕ → State → State
defined_with_in names label destination title s =
    defined_as (key_of label) (collapsed label) (unescaped_in names destination) (unescaped_in names title) s

-- one more definition, as it was found in a text
unfoldable pub defined_in : Names → List ℕ → Definition → State → State
defined_in names bytes found s =
    defined_with_in names (bytes_between bytes found.label.start found.label.end)
    (bytes_between bytes found.destination.start found.destination.end)
    (bytes_between bytes found.title.start found.title.end) s

-- the key of a label among the texts
abbrev pub label_key : List ℕ → Stretch → List ℕ
label_key texts s = key_of (bytes_between texts s.start s.end)

-- the empty stretch
abbrev pub no_stretch : Stretch
no_stretch = record { start = 0; end = 0 }

-- the text of a stretch
abbrev pub stretch_text : List ℕ → Stretch → List ℕ
stretch_text texts s = utf8_lossy (bytes_between texts s.start s.end)

-- the label at a place of a list
abbrev pub label_at : List ℕ → List Stretch → ℕ → List ℕ
label_at texts labels place = stretch_text texts (unwrap_or (slice_get labels place) no_stretch)

-- the labels at the places where a key stands for the first time
abbrev pub distinct_labels : List ℕ → List Stretch → List (List ℕ)
distinct_labels texts labels =
    let keys = map (label_key texts) labels in
    map (label_at texts labels) (distinct_from 0 keys keys)

-- one more footnote: its name is a key, and none of the labels
unfoldable pub noted_with : List ℕ → State → State
noted_with name s = record s {
  keys = s.keys ++ note_key name ∷ [];
  entries = s.entries ++ no_entry ∷ [];
}
