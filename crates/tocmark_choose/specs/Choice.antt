-- The spelling that is chosen for a unit, and the document that the unit leaves.
use Rattle.std.specs.Prelude.{ℕ, Bool, true, false, ◌&&◌, ◌||◌, ◌==◌, Option, Some, None, Result, Ok, Err, List, [], ◌∷◌, ◌++◌, bytes_eq, codes}
use Rattle.tocmark_event.specs.Options.{OptionsView}
use Rattle.tocmark_event.specs.View.{EventView}
use Rattle.tocmark_event.specs.declared.options.Error.{Error}
use Rattle.tocmark_event.specs.declared.options.Error.TheVariants.{UnexpectedEvent, Unrepresentable}
use Rattle.tocmark_spelling.specs.Plan.{Setting, Manner}
use Rattle.tocmark_spelling.specs.Body.{Trees}
use Rattle.tocmark_spelling.specs.Page.{Page, Site}
use Rattle.tocmark_spelling.specs.Spelling.{spelling, is_misplaced}
use Rattle.tocmark_write_labels.specs.Definitions.{definitions_text}
use Rattle.tocmark_write_labels.specs.Document.{DocumentView, bracketed_in, known_in}
use Rattle.tocmark_choose.specs.Candidates.{candidates, is_checked, preferred_manner}
use Rattle.tocmark_choose.specs.ReadsBack.{reads_back}
use Rattle.tocmark_write_pending.specs.Placeholder.{whole}
use Rattle.tocmark_choose.specs.Validates.{validates}

-- an empty page in a document
abbrev pub page_in : DocumentView → Page
page_in d = record { sheet = record { text = []; feeds = d.feeds }; trail = d.trail; references = []; held = None }

-- the page to which a spelling came; none where it was refused
abbrev pub page_of : Option Site → Option Page
page_of None = None
page_of (Some here) = Some here.page

-- a unit spelled in one manner
unfoldable pub spelled : Setting → DocumentView → Trees → Option EventView → Manner → Option Page
spelled s d f next m = page_of (spelling s m f (whole next) [] (page_in d))

-- the definitions that a page needs
abbrev pub definitions_of : Page → List ℕ
definitions_of p = definitions_text p.references p.sheet.feeds

-- the page, if it reads back
abbrev pub if_read_back : Bool → Page → Option Page
if_read_back true p = Some p
if_read_back false p = None

-- the page to which a spelling came, if it reads back as the unit
abbrev pub page_read_back : Setting → DocumentView → Trees → Option Page → Option Page
page_read_back s d f None = None
page_read_back s d f (Some p) = if_read_back (reads_back s d f (definitions_of p) p.sheet.text) p

-- the first of these spellings that reads back
unfoldable pub first_that_reads_back : Setting → DocumentView → Trees → Option EventView → List Manner → Option Page
first_that_reads_back s d f next [] = None
first_that_reads_back s d f next (m ∷ ms) =
    elim (page_read_back s d f (spelled s d f next m)) as (λ _. Option Page) [ Some p ↦ Some p | None ↦ first_that_reads_back s d f next ms ]

-- the labels that a reader finds defined in the definitions become known
abbrev pub known_after : Setting → DocumentView → List ℕ → List (List ℕ)
known_after s d defs = known_in s.reading s.flags d.known defs

-- the document that a unit with this page leaves
unfoldable pub document_after : Setting → DocumentView → Page → DocumentView
document_after s d p = record {
  trail = p.trail;
  feeds = p.sheet.feeds;
  references = d.references ++ p.references;
  known = known_after s d (definitions_of p);
  bracketed = bracketed_in d.bracketed p.sheet.text;
  flushed = true;
}

-- a unit's text and the document that it leaves
abbrev pub Chosen : Type 0
Chosen = Result (List ℕ × DocumentView) Error

-- a page's text and the document that it leaves
abbrev pub accepted : Setting → DocumentView → Page → Chosen
accepted s d p = Ok (p.sheet.text, document_after s d p)

-- the same for a spelling; one that was refused met an unexpected event
abbrev pub accepted_if : Setting → DocumentView → Option Page → Chosen
accepted_if s d (Some p) = accepted s d p
accepted_if s d None = Err UnexpectedEvent

-- the preferred spelling, which isn't checked
abbrev pub preferred : Setting → DocumentView → Trees → Option EventView → Chosen
preferred s d f next = accepted_if s d (spelled s d f next (preferred_manner s.options))

-- markers that Markdown reads
abbrev pub has_standard_markers : OptionsView → Bool
has_standard_markers o =
    ((o.emphasis_token == 42) || (o.emphasis_token == 95)) && (bytes_eq o.strong_token (codes "**") || bytes_eq o.strong_token (codes "__"))

-- where no spelling reads back: a unit that isn't checked, or options that aren't accepted, still get the preferred one
abbrev pub without_spelling : Setting → DocumentView → Trees → Option EventView → Chosen
without_spelling s d f next =
    elim (is_checked s.options f && validates s.options s.flags) as (λ _. Chosen) [ true ↦ Err Unrepresentable | false ↦ preferred s d f next ]

-- the spelling that was found, or what is done where none reads back
abbrev pub first_or : Setting → DocumentView → Trees → Option EventView → Option Page → Chosen
first_or s d f next (Some p) = accepted s d p
first_or s d f next None = without_spelling s d f next

-- with markers that Markdown reads: the first spelling that reads back
abbrev pub searched : Setting → DocumentView → Trees → Option EventView → Chosen
searched s d f next = first_or s d f next (first_that_reads_back s d f next (candidates s.options f))

-- with other markers nothing is checked
abbrev pub by_markers : Bool → Setting → DocumentView → Trees → Option EventView → Chosen
by_markers true s d f next = searched s d f next
by_markers false s d f next = preferred s d f next

-- a unit with a misplaced node is refused; any other is spelled
abbrev pub unless_misplaced : Bool → Setting → DocumentView → Trees → Option EventView → Chosen
unless_misplaced true s d f next = Err UnexpectedEvent
unless_misplaced false s d f next = by_markers (has_standard_markers s.options) s d f next

-- what is written for a unit, which this event follows: a unit with a misplaced node is refused; with other markers than
-- Markdown's it takes the preferred spelling; else the first candidate that reads back; if none does, a unit that isn't
-- checked takes the preferred spelling, as one does whose options aren't accepted, and any other can't be represented
unfoldable pub choice : Setting → DocumentView → Trees → Option EventView → Chosen
choice s d f next = unless_misplaced (is_misplaced s [] f) s d f next
