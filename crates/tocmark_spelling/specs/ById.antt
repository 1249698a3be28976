-- When the id of a link or image spells its body.
use Rattle.std.specs.Prelude.{ℕ, Bool, true, false, ◌&&◌, List, [], ◌∷◌, ◌++◌, codes, map}
use Rattle.tocmark_event.specs.View.{TagView, Paragraph, Link, Image, EventView, Start, End, end_of, unsourced}
use Rattle.tocmark_event.specs.Forest.{flat}
use Rattle.tocmark_event.specs.Merged.{merged}
use Rattle.tocmark_event.specs.Reading.{ReadingView}
use Rattle.tocmark_event.specs.declared.event.LinkType.{LinkType}
use Rattle.tocmark_event.specs.declared.event.LinkType.TheVariants as link
use Rattle.tocmark_event.specs.declared.event.TagEnd.TheVariants as end
use Rattle.tocmark_spelling.specs.Plan.{Setting}
use Rattle.tocmark_spelling.specs.SameEvents.{same_events}
use Rattle.tocmark_spelling.specs.Body.{Trees}

-- the events of a reading, without their ranges
abbrev pub events_of : ReadingView → List EventView
events_of r = map (λ e. e.0) r.events

-- the events of a forest, without their source texts, each stretch of texts as one
abbrev pub merged_trees : Trees → List EventView
merged_trees f = merged (map unsourced (flat f))

-- whether a link or image with an id may be written by it
abbrev pub goes_by_id : LinkType → Bool
goes_by_id link.Collapsed = true
goes_by_id link.Shortcut = true
goes_by_id k = false

-- whether the event starts a link, or an image, as the tag does
abbrev pub is_same_kind : TagView → EventView → Bool
is_same_kind (Link k d t i) (Start (Link k' d' t' i')) = true
is_same_kind (Image k d t i) (Start (Image k' d' t' i')) = true
is_same_kind t e = false

-- a Paragraph whose only child is a link (an image) round this body
abbrev pub is_one_link : TagView → List EventView → List EventView → Bool
is_one_link t body (Start Paragraph ∷ e ∷ es) = is_same_kind t e && same_events es (body ++ End (end_of t) ∷ End end.Paragraph ∷ [])
is_one_link t body es = false

-- whether the reader finds just this body in `[id](cmark-label)`, with `!` in front for an image
abbrev pub reads_as : Setting → List ℕ → TagView → List ℕ → Trees → Bool
reads_as s mark t id body =
    is_one_link t (merged_trees body) (merged (events_of (s.reading (mark ++ codes "[" ++ id ++ codes "](cmark-label)") s.flags)))

-- whether the id of such a link or image is in place of its body, where its type lets it
abbrev pub by_id_of : Bool → Setting → List ℕ → TagView → List ℕ → Trees → Bool
by_id_of true s mark t id body = reads_as s mark t id body
by_id_of false s mark t id body = false

-- whether a container is a Collapsed or Shortcut link or image whose id is in place of its body
unfoldable pub by_id : Setting → TagView → Trees → Bool
by_id s (Link k d t i) body = by_id_of (goes_by_id k) s [] (Link k d t i) i body
by_id s (Image k d t i) body = by_id_of (goes_by_id k) s (codes "!") (Image k d t i) i body
by_id s t body = false
