-- For which links and images the id is in place of the body.
use Rattle.std.specs.Prelude.{◌≡◌, ℕ, Bool, true, false, Option, List, [], ◌∷◌, ◌&&◌, codes, slice_index_or, drop}
use Rattle.tocmark_event.specs.Options.{OptionsView}
use Rattle.tocmark_event.specs.View.{TagView, Paragraph, Link, Image, SourcedEvent, EventView, Start}
use Rattle.tocmark_event.specs.declared.event.flags.ParserOptions.{ParserOptions}
use Rattle.tocmark_spelling.specs.ById.{goes_by_id, is_same_kind}
use Rattle.tocmark_spelling.specs.Plan.{Setting}
use Rattle.tocmark_spelling.specs.PlanOf.{setting_of}
use Rattle.tocmark_write_pending.specs.Ahead.{body_in, is_named_by_id}
use Rattle.tocmark_write_renderer.specs.JobOf.{Reading}

-- a link or image of a type that lets its id are in place of its body
abbrev pub may_be_named : TagView → Bool
may_be_named (Link k d t i) = goes_by_id k
may_be_named (Image k d t i) = goes_by_id k
may_be_named t = false

-- the Start of one
abbrev pub asks_reader : SourcedEvent → Bool
asks_reader (Start t) = may_be_named t
asks_reader e = false

-- the Start of a Paragraph
abbrev pub starts_paragraph : EventView → Bool
starts_paragraph (Start Paragraph) = true
starts_paragraph e = false

-- the Start of a link
abbrev pub starts_link : EventView → Bool
starts_link (Start (Link k d t i)) = true
starts_link e = false

-- the Start of an image
abbrev pub starts_image : EventView → Bool
starts_image (Start (Image k d t i)) = true
starts_image e = false

-- the Start of a Paragraph, and in it that of a link, or an image, as the tag is
abbrev pub begins_link : TagView → List EventView → Bool
begins_link t (p ∷ e ∷ es) = starts_paragraph p && is_same_kind t e
begins_link t es = false

-- what is before the brackets of an image; nothing for a link
abbrev pub mark_of : TagView → List ℕ
mark_of (Image k d t i) = codes "!"
mark_of t = []

-- whether events begin with the Start of a link or image whose id is in place of its body
abbrev pub is_named : Setting → List SourcedEvent → Bool
is_named s (Start t ∷ rest) = is_named_by_id s t (body_in rest)
is_named s es = false

-- for each event whether it is such a Start, as this reader reads under these flags
pub record AreNamed (reading : Reading) (flags : ParserOptions) (es : List SourcedEvent) (found : List Bool) : Type 0 where
  pub at : (o : OptionsView) (label : Option (List ℕ)) (i : ℕ)
      → slice_index_or found i false ≡ is_named (setting_of o flags reading label) (drop i es)
