-- What a document's fields mean.
use Rattle.std.specs.Prelude.{◌≡◌, ◌≤◌, ◌+◌, ◌++◌, ℕ, true, length, vec_capacity, List, Option, Some, None, Result, Ok, Err, map, string_bytes, String}
use Rattle.std.specs.Global.{Global}
use Rattle.tocmark_event.specs.View.{EventView, event_view}
use Rattle.tocmark_event.specs.declared.event.EventOf.{EventOf}
use Rattle.tocmark_event.specs.declared.event.flags.ParserOptions.{ParserOptions}
use Rattle.tocmark_event.specs.declared.options.Error.{Error}
use Rattle.tocmark_event.specs.declared.options.Error.TheVariants as error
use Rattle.tocmark_spelling.specs.Page.{Page, Site}
use Rattle.tocmark_spelling.specs.Plan.{Setting}
use Rattle.tocmark_spelling.specs.TrailOf.{trail_view}
use Rattle.tocmark_choose.specs.Choice.{Chosen, definitions_of, known_after}
use Rattle.tocmark_choose.specs.TrialOf.{Refuses}
use Rattle.tocmark_write_renderer.specs.WriterOf.{reference_view}
use Rattle.tocmark_write_labels.specs.Document.{DocumentView, bracketed_in}
use Rattle.tocmark_write_labels.specs.LabelsOf.{labels_of}
use Rattle.tocmark_choose.specs.declared.document.Document.{Document}

-- a document's fields as plain values
abbrev pub document_view : Document → DocumentView
document_view d = record {
  trail = trail_view d.trail;
  feeds = d.newlines;
  references = map reference_view d.references.items;
  known = labels_of d.known;
  bracketed = map string_bytes d.bracketed.items;
  flushed = d.flushed;
}

-- the parser's flags that a document is written for
abbrev pub document_flags : Document → ParserOptions
document_flags d = d.flags

-- a document whose trail and line feeds a renderer has
abbrev pub document_at : Document → Site → DocumentView
document_at d here = record (document_view d) { trail = here.page.trail; feeds = here.page.sheet.feeds }

-- a document that noted the labels that a unit with this page defines, and its text
abbrev pub noted : Setting → DocumentView → Page → DocumentView
noted s d p = record d { known = known_after s d (definitions_of p); bracketed = bracketed_in d.bracketed p.sheet.text }

-- a document that went on after a unit with this page
abbrev pub passed : DocumentView → Page → DocumentView
passed d p = record d { trail = p.trail; feeds = p.sheet.feeds; references = d.references ++ p.references; flushed = true }

-- there is room for the definitions that a page needs
abbrev pub HasRoom : Document → Page → Type 0
HasRoom d p = length d.references.items + length p.references ≤ vec_capacity d.references

-- an event that is kept
abbrev pub kept_view : Option (EventOf (String Global)) → Option EventView
kept_view None = None
kept_view (Some e) = Some (event_view string_bytes e)

-- what a call answered, and the document that it left, are what is chosen, unless memory ran out
abbrev pub Spells : DocumentView → Result (String Global) Error → Chosen → Type 0
Spells new (Ok s) choice = choice ≡ Ok (string_bytes s, new)
Spells new (Err e) choice = Refuses e choice

-- a call answered this text, unless memory ran out
abbrev pub Gives : Result (String Global) Error → List ℕ → Type 0
Gives (Ok s) text = string_bytes s ≡ text
Gives (Err error.OutOfMemory) text = Unit {0}
Gives (Err e) text = ⊥
