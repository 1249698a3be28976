-- What reading back and a link's id mean, said with the equality of events.
use Rattle.std.specs.Prelude.{◌≡◌, ℕ, true, false, List, [], ◌∷◌, ◌++◌, codes}
use Rattle.std.specs.List.{list_any}
use Rattle.tocmark_event.specs.View.{TagView, Paragraph, Link, Image, Start, End, end_of}
use Rattle.tocmark_event.specs.Merged.{merged}
use Rattle.tocmark_event.specs.declared.event.TagEnd.TheVariants as end
use Rattle.tocmark_event.specs.Reading.{ReadingView}
use Rattle.tocmark_spelling.specs.Plan.{Setting}
use Rattle.tocmark_spelling.specs.ById.{events_of, goes_by_id, is_same_kind, merged_trees}
use Rattle.tocmark_spelling.specs.Body.{Trees}
use Rattle.tocmark_write_labels.specs.Document.{DocumentView}
use Rattle.tocmark_choose.specs.ReadsBack.{expected, is_taken}

-- the events of a reading are the unit's, merged, and no label that it leaves open is taken
pub record HasUnit (s : Setting) (d : DocumentView) (f : Trees) (r : ReadingView) : Type 0 where
  pub events : merged (events_of r) ≡ expected f
  pub untaken : list_any (is_taken s d) r.unresolved ≡ false

-- the events of a reading, merged, are one Paragraph with one link or image in it, of this tag's kind, round this body
pub record HasOneLink (t : TagView) (body : Trees) (r : ReadingView) : Type 0 where
  pub tag : TagView
  pub kind : is_same_kind t (Start tag) ≡ true
  pub events : merged (events_of r) ≡ Start Paragraph ∷ Start tag ∷ merged_trees body ++ End (end_of t) ∷ End end.Paragraph ∷ []

-- what the reader finds in `[id](cmark-label)`, with such a text in front
abbrev pub reading_of_id : Setting → List ℕ → List ℕ → ReadingView
reading_of_id s mark id = s.reading (mark ++ codes "[" ++ id ++ codes "](cmark-label)") s.flags

-- the tag is of a Collapsed or Shortcut link or image, whose id alone is read as its body
abbrev pub IsSpelledById : Setting → TagView → Trees → Type 0
IsSpelledById s (Link k d t i) body = (goes_by_id k ≡ true) × HasOneLink (Link k d t i) body (reading_of_id s [] i)
IsSpelledById s (Image k d t i) body = (goes_by_id k ≡ true) × HasOneLink (Image k d t i) body (reading_of_id s (codes "!") i)
IsSpelledById s t body = ⊥
