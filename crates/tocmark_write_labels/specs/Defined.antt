-- The definitions of links that a document has already.
use Rattle.std.specs.Prelude.{ℕ, Bool, true, false, not, ◌&&◌, if◌then◌else◌, Option, Some, None, List, [], ◌∷◌, bytes_eq, chars, encode_utf8_all, filter, map}
use Rattle.tocmark_spelling.specs.Page.{Reference}
use Rattle.tocmark_write_labels.specs.Document.{DocumentView, with_labels}
use Rattle.tocmark_write_labels.specs.Matched.{collapsed, label_key}
use Rattle.tocmark_write_labels.specs.declared.defined.DefinedLabel.{DefinedLabel}

-- a definition as a plain value (CommonMark, section 4.7), whose label has one space between its words
abbrev pub defined_view : DefinedLabel → Reference
defined_view d = record { label = encode_utf8_all (collapsed (chars d.label.now)); destination = d.destination.now; title = d.title.now }

-- the first of these definitions whose label has this key; the others with it don't count (CommonMark, section 4.7)
abbrev pub definition_for : List Reference → List ℕ → Option Reference
definition_for [] key = None
definition_for (d ∷ ds) key = if bytes_eq (label_key d.label) key then Some d else definition_for ds key

-- a definition, if there is one, has the destination and the title of a reference
abbrev pub leads_alike : Option Reference → Reference → Bool
leads_alike None r = false
leads_alike (Some d) r = bytes_eq d.destination r.destination && bytes_eq d.title r.title

-- whether a reference is defined by these: the definition for its label leads where it does
abbrev pub is_defined : List Reference → Reference → Bool
is_defined defined r = leads_alike (definition_for defined (label_key r.label)) r

-- the references that these don't define
abbrev pub undefined : List Reference → List Reference → List Reference
undefined defined rs = filter (λ r. not (is_defined defined r)) rs

-- a document in which these labels are known, unless a unit was flushed
abbrev pub known_unless : Bool → List (List ℕ) → DocumentView → DocumentView
known_unless true labels d = d
known_unless false labels d = record d { known = with_labels d.known labels }

-- the document after which a unit is written: before the first unit the labels of these definitions become known
abbrev pub behind : List Reference → DocumentView → DocumentView
behind defined d = known_unless d.flushed (map (λ r. r.label) defined) d
