-- Which bytes of a page's text new destinations change.
use Rattle.std.specs.Prelude.{ℕ, List, All, Contains, Option, Some, String, length, slice_get, ◌≡◌}
use Rattle.std.specs.Global.{Global}
use Rattle.tocmark_links.specs.Spliced.{AreApart, spliced}
use Rattle.tocmark_links.specs.declared.edits.Edit.{Edit}
use Rattle.tocmark_links.specs.declared.page.Link.{Link}

-- an edit is at the destination of the link with this number
abbrev pub IsAt : List Link → ℕ → Edit → Type 0
IsAt links number edit = (link : Link) × (slice_get links number ≡ Some link) × (link.place ≡ Some (edit.start, edit.end))

-- an edit is at the destination of a link that one of the changes names
abbrev pub IsAsked : List Link → List (ℕ × String Global) → Edit → Type 0
IsAsked links changes edit = (change : ℕ × String Global) × Contains changes change × IsAt links change.0 edit

-- a text is another one in which destinations are replaced: one for each change, by whose link it is
pub record DiffersAtPlaces (links : List Link) (changes : List (ℕ × String Global)) (old new : List ℕ) : Type 0 where
  pub edits : List Edit
  pub are_all : length edits ≡ length changes
  pub are_asked : All (IsAsked links changes) edits
  pub are_apart : AreApart 0 (length old) edits
  pub is_spliced : new ≡ spliced old edits
