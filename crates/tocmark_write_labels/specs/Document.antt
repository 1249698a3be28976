-- The document so far, as plain values.
use Rattle.std.specs.Prelude.{ℕ, ◌==◌, Bool, false, if◌then◌else◌, Option, Some, None, List, [], ◌∷◌, ◌++◌, bytes_eq, chars, encode_utf8_all}
use Rattle.std.specs.List.{list_any}
use Rattle.caseless.specs.Caseless.{default_case_fold}
use Rattle.tocmark_event.specs.Reading.{ReadingView}
use Rattle.tocmark_event.specs.declared.event.flags.ParserOptions.{ParserOptions}
use Rattle.tocmark_spelling.specs.Page.{Trail, first_trail, Reference}

-- the trail, how many line feeds end what was written, the references so far, the folded labels that are defined by
-- earlier units, the texts of earlier units with a bracket, and whether a unit was flushed
pub record DocumentView : Type 0 where
  pub trail : Trail
  pub feeds : ℕ
  pub references : List Reference
  pub known : List (List ℕ)
  pub bracketed : List (List ℕ)
  pub flushed : Bool

-- nothing is written
abbrev pub first_document : DocumentView
first_document = record { trail = first_trail; feeds = 0; references = []; known = []; bracketed = []; flushed = false }

-- a label as labels are compared (CommonMark, section 4.7): the whole text in Unicode's default case folding
abbrev pub folded : List ℕ → List ℕ
folded label = encode_utf8_all (default_case_fold (chars label))

-- whether a label is among folded labels
abbrev pub is_among : List (List ℕ) → List ℕ → Bool
is_among labels label = list_any (λ l. bytes_eq l (folded label)) labels

-- whether a label is the reserved one, as labels are compared (CommonMark, section 6.3)
abbrev pub is_label : Option (List ℕ) → List ℕ → Bool
is_label None label = false
is_label (Some reserved) label = bytes_eq (folded reserved) (folded label)

-- folded labels, and then this one, folded, if it was not among them
abbrev pub with_label : List (List ℕ) → List ℕ → List (List ℕ)
with_label labels l = if is_among labels l then labels else labels ++ folded l ∷ []

-- folded labels, and then those of a list that were not among them
abbrev pub with_labels : List (List ℕ) → List (List ℕ) → List (List ℕ)
with_labels labels [] = labels
with_labels labels (l ∷ ls) = with_labels (with_label labels l) ls

-- the labels that a reader finds defined in definitions become known
abbrev pub known_in : (List ℕ → ParserOptions → ReadingView) → ParserOptions → List (List ℕ) → List ℕ → List (List ℕ)
known_in reading flags known [] = known
known_in reading flags known (b ∷ defs) = with_labels known (reading (b ∷ defs) flags).defined

-- these texts and one more, if that has a bracket, as each text with a label has
abbrev pub bracketed_in : List (List ℕ) → List ℕ → List (List ℕ)
bracketed_in texts text = if list_any (λ b. b == 91) text then texts ++ text ∷ [] else texts

-- folded labels, and then those that a reader looks up in vain in each of these texts
abbrev pub with_literal : (List ℕ → ParserOptions → ReadingView) → ParserOptions → List (List ℕ) → List (List ℕ) → List (List ℕ)
with_literal reading flags labels [] = labels
with_literal reading flags labels (t ∷ ts) = with_literal reading flags (with_labels labels (reading t flags).unresolved) ts

-- the labels that a reader looks up in vain in texts are literal there
abbrev pub literal_in : (List ℕ → ParserOptions → ReadingView) → ParserOptions → List (List ℕ) → List (List ℕ)
literal_in reading flags texts = with_literal reading flags [] texts
