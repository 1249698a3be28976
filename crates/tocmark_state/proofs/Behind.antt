-- What is written where a document has definitions already.
use Rattle.std.proofs.Common.{◌≡◌, ◌∙◌, sym, ap, refl, ℕ, Bool, true, false, not, cond, ◌&&◌, ◌||◌, Option, Some, if◌then◌else◌, List, [], ◌∷◌, ◌++◌, bytes_eq, map}
use Rattle.std.specs.List.{All, list_any}
use Rattle.std.proofs.lemmas.Bool.{false≢true}
use Rattle.std.proofs.lemmas.Slice.Eq.{bytes_eq-Decides}
use Rattle.std.proofs.lemmas.List.Elements.{All-nil, All-cons}
use Rattle.tocmark_event.specs.Options.{OptionsView}
use Rattle.tocmark_event.specs.Reading.{ReadingView}
use Rattle.tocmark_event.specs.View.{EventView, SourcedEvent}
use Rattle.tocmark_event.specs.declared.event.flags.ParserOptions.{ParserOptions}
use Rattle.tocmark_spelling.specs.Page as page
use Rattle.tocmark_write_renderer.specs.WriterOf.{reference_view}
use Rattle.tocmark_write_renderer.specs.declared.parts.Reference.{Reference}
use Rattle.tocmark_write_labels.specs.Defined.{definition_for, is_defined, known_unless, leads_alike, undefined}
use Rattle.tocmark_write_labels.specs.Definitions.{definitions_text}
use Rattle.tocmark_write_labels.specs.Document.{DocumentView}
use Rattle.tocmark_write_labels.specs.Matched.{label_key}
use Rattle.tocmark_write_labels.proofs.DefinedLabels.{none-defined}
use Rattle.tocmark_state.specs.Walk.{Kept}
use Rattle.tocmark_state.specs.WorkView.{kept_behind, rendering, rendering_behind}

known-none : (b : Bool) (d : DocumentView) → known_unless b [] d ≡ d
known-none true d = refl
known-none false d = refl

kept-none : (kept : Kept) → kept_behind [] kept ≡ kept
kept-none kept = ap (λ (d : DocumentView). record kept { document = d }) (known-none kept.document.flushed kept.document)

-- after no definitions all is as without them
pub behind-none : (o : OptionsView) (reading : List ℕ → ParserOptions → ReadingView) → rendering_behind [] o reading ≡ rendering o reading
behind-none o reading = λ j. record (rendering o reading) {
  choice = λ kept unit next. (rendering o reading).choice (kept-none kept j) unit next;
  definitions = λ kept. definitions_text (none-defined kept.document.references j) kept.document.feeds;
}

-- the same of a list that is empty
pub behind-empty : (ds : List Reference) (o : OptionsView) (reading : List ℕ → ParserOptions → ReadingView) → ds ≡ [] → rendering_behind (map reference_view ds) o reading ≡ rendering o reading
behind-empty ds o reading h = ap (λ (x : List Reference). rendering_behind (map reference_view x) o reading) h ∙ behind-none o reading

known-flushed : (b : Bool) (labels : List (List ℕ)) (d : DocumentView) → b ≡ true → known_unless b labels d ≡ d
known-flushed true labels d h = refl
known-flushed false labels d h = absurd (false≢true h)

-- from the first unit on the choice is as without the definitions
pub later-alike : (defined : List page.Reference) (o : OptionsView) (reading : List ℕ → ParserOptions → ReadingView) (kept : Kept) → kept.document.flushed ≡ true → (unit : List SourcedEvent) (next : Option EventView) → (rendering_behind defined o reading).choice kept unit next ≡ (rendering o reading).choice kept unit next
later-alike defined o reading kept h unit next =
    ap (λ (d : DocumentView). (rendering o reading).choice (record kept { document = d }) unit next) (known-flushed kept.document.flushed (map (λ r. r.label) defined) kept.document h)

-- no reference that is left is defined
pub left-undefined : (defined rs : List page.Reference) → All (λ r. is_defined defined r ≡ false) (undefined defined rs)
left-undefined defined [] = All-nil (λ r. is_defined defined r ≡ false)
left-undefined defined (r ∷ rs) = by (is_defined defined r) refl (left-undefined defined rs)
  where
    by : (b : Bool) → is_defined defined r ≡ b → All (λ r. is_defined defined r ≡ false) (undefined defined rs) → All (λ r. is_defined defined r ≡ false) (cond (not b) (r ∷ undefined defined rs) (undefined defined rs))
    by true h rest = rest
    by false h rest = All-cons (λ r. is_defined defined r ≡ false) r (undefined defined rs) h rest

same-bytes : (bs : List ℕ) → bytes_eq bs bs ≡ true
same-bytes bs = (bytes_eq-Decides bs bs).1 refl

-- a definition defines itself, where no label in front of it matches its own
pub defines-itself : (front ds : List page.Reference) (d : page.Reference) → list_any (λ e. bytes_eq (label_key e.label) (label_key d.label)) front ≡ false → is_defined (front ++ d ∷ ds) d ≡ true
defines-itself [] ds d h =
    ap (λ b. leads_alike (if b then Some d else definition_for ds (label_key d.label)) d) (same-bytes (label_key d.label))
    ∙ ap (λ b. b && bytes_eq d.title d.title) (same-bytes d.destination) ∙ same-bytes d.title
defines-itself (e ∷ front) ds d h = by (bytes_eq (label_key e.label) (label_key d.label)) refl h (defines-itself front ds d)
  where
    rest : Bool
    rest = list_any (λ e. bytes_eq (label_key e.label) (label_key d.label)) front

    by : (b : Bool) → bytes_eq (label_key e.label) (label_key d.label) ≡ b → (b || rest) ≡ false → (rest ≡ false → is_defined (front ++ d ∷ ds) d ≡ true) → leads_alike (if b then Some e else definition_for (front ++ d ∷ ds) (label_key d.label)) d ≡ true
    by true same k ih = absurd (false≢true (sym k))
    by false same k ih = ih k
