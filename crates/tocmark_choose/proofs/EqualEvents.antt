-- What is the same as the events of a reading is equal to them.
use Rattle.std.proofs.Common.{◌≡◌, ◌∙◌, sym, ap, refl, ℕ, Bool, true, false, ◌&&◌, List, [], ◌∷◌, ◌++◌}
use Rattle.std.specs.Prelude.{codes, not}
use Rattle.std.specs.List.{list_any}
use Rattle.std.proofs.lemmas.Bool.{false≢true}
use Rattle.tocmark_event.specs.View.{TagView, Paragraph, Link, Image, EventView, Start, End, Leaf, end_of}
use Rattle.tocmark_event.specs.Merged.{merged}
use Rattle.tocmark_event.specs.declared.event.TagEnd.TheVariants as end
use Rattle.tocmark_spelling.specs.Plan.{Setting}
use Rattle.tocmark_spelling.specs.Body.{Trees}
use Rattle.tocmark_spelling.specs.ById.{by_id, by_id_of, events_of, goes_by_id, is_one_link, is_same_kind, merged_trees}
use Rattle.tocmark_spelling.specs.SameEvents.{same_events}
use Rattle.tocmark_compare.proofs.SameIsEqual.{same-equal, equal-same}
use Rattle.tocmark_write_labels.specs.Document.{DocumentView}
use Rattle.tocmark_choose.specs.EqualEvents.{HasUnit, HasOneLink, IsSpelledById, reading_of_id}
use Rattle.tocmark_choose.specs.ReadsBack.{ReadsBack, expected, flags_at, is_taken, reads_back, whole_text}

both_true : (a b : Bool) → (a && b) ≡ true → (a ≡ true) × (b ≡ true)
both_true true b h = (refl, h)
both_true false b h = absurd (false≢true h)

not_true : (b : Bool) → not b ≡ true → b ≡ false
not_true true h = absurd (false≢true h)
not_true false h = refl

-- ---- a unit

pub read-back-equal : (s : Setting) (d : DocumentView) (f : Trees) (defs text : List ℕ) → ReadsBack s d f defs text → HasUnit s d f (s.reading (whole_text defs text) (flags_at s d))
unfolding reads_back
read-back-equal s d f defs text h =
    let r = s.reading (whole_text defs text) (flags_at s d) in
    let both = both_true (same_events (merged (events_of r)) (expected f)) (not (list_any (is_taken s d) r.unresolved)) h in
    record { events = same-equal (merged (events_of r)) (expected f) both.0; untaken = not_true (list_any (is_taken s d) r.unresolved) both.1 }

pub read-back-exact : (s : Setting) (d : DocumentView) (f : Trees) (defs text : List ℕ) → HasUnit s d f (s.reading (whole_text defs text) (flags_at s d)) → ReadsBack s d f defs text
unfolding reads_back
read-back-exact s d f defs text h =
    let r = s.reading (whole_text defs text) (flags_at s d) in
    ap (λ b. b && not (list_any (is_taken s d) r.unresolved)) (equal-same (merged (events_of r)) (expected f) h.events) ∙ ap not h.untaken

-- ---- a link

kind-start : (t : TagView) (e : EventView) → is_same_kind t e ≡ true → (tag : TagView) × (e ≡ Start tag)
kind-start t (Start tag) h = (tag, refl)
kind-start (Link k d x i) (End e) h = absurd (false≢true h)
kind-start (Link k d x i) (Leaf l) h = absurd (false≢true h)
kind-start (Image k d x i) (End e) h = absurd (false≢true h)
kind-start (Image k d x i) (Leaf l) h = absurd (false≢true h)
kind-start t e h = absurd (false≢true h)

abbrev IsOneLink : TagView → List EventView → List EventView → Type 0
IsOneLink t body es = (tag : TagView) × (is_same_kind t (Start tag) ≡ true) × (es ≡ Start Paragraph ∷ Start tag ∷ body ++ End (end_of t) ∷ End end.Paragraph ∷ [])

one-link : (t : TagView) (body es : List EventView) → is_one_link t body es ≡ true → IsOneLink t body es
one-link t body (Start Paragraph ∷ e ∷ es) h =
    let both = both_true (is_same_kind t e) (same_events es (body ++ End (end_of t) ∷ End end.Paragraph ∷ [])) h in
    let start = kind-start t e both.0 in
    let rest = same-equal es (body ++ End (end_of t) ∷ End end.Paragraph ∷ []) both.1 in
    (start.0, ap (is_same_kind t) (sym start.1) ∙ both.0, λ j. Start Paragraph ∷ start.1 j ∷ rest j)
one-link t body es h = absurd (false≢true h)

module _ (s : Setting) (mark : List ℕ) (t : TagView) (id : List ℕ) (body : Trees) where
  link-equal : (b : Bool) → by_id_of b s mark t id body ≡ true → (b ≡ true) × HasOneLink t body (reading_of_id s mark id)
  link-equal true h =
      let found = one-link t (merged_trees body) (merged (events_of (reading_of_id s mark id))) h in
      (refl, record { tag = found.0; kind = found.1; events = found.2 })
  link-equal false h = absurd (false≢true h)

  link-exact : (b : Bool) → b ≡ true → HasOneLink t body (reading_of_id s mark id) → by_id_of b s mark t id body ≡ true
  link-exact true e h =
      let behind = merged_trees body ++ End (end_of t) ∷ End end.Paragraph ∷ [] in
      ap (is_one_link t (merged_trees body)) h.events
      ∙ ap (λ b. b && same_events behind behind) h.kind
      ∙ equal-same behind behind refl
  link-exact false e h = absurd (false≢true e)

pub by-id-equal : (s : Setting) (t : TagView) (body : Trees) → by_id s t body ≡ true → IsSpelledById s t body
unfolding by_id
by-id-equal s (Link k d t i) body h = link-equal s [] (Link k d t i) i body (goes_by_id k) h
by-id-equal s (Image k d t i) body h = link-equal s (codes "!") (Image k d t i) i body (goes_by_id k) h
by-id-equal s t body h = absurd (false≢true h)

pub by-id-exact : (s : Setting) (t : TagView) (body : Trees) → IsSpelledById s t body → by_id s t body ≡ true
unfolding by_id
by-id-exact s (Link k d t i) body h = link-exact s [] (Link k d t i) i body (goes_by_id k) h.0 h.1
by-id-exact s (Image k d t i) body h = link-exact s (codes "!") (Image k d t i) i body (goes_by_id k) h.0 h.1
by-id-exact s t body h = absurd h
