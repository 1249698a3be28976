-- The headings that links lead to, before headings get other words and after it.
use Rattle.std.specs.Prelude.{ℕ, suc, ◌==◌, false, List, [], ◌∷◌, length, Option, None, Some, unwrap_or, String, string_bytes, ◌≡◌, if◌then◌else◌}
use Rattle.std.specs.Global.{Global}
use Rattle.std.specs.HashMap.{get_by_text}
use Rattle.std.specs.Option.{option_map_or, option_or}
use Rattle.std.specs.Str.{bytes_eq}
use Rattle.std.specs.StrCase.Lower.{str_to_lowercase}
use Rattle.tocmark_links.specs.Destinations.{anchor_of, decoded}
use Rattle.tocmark_links.specs.Leading.{led_to, new_or}
use Rattle.tocmark_links.specs.Naming.{kind_at}
use Rattle.tocmark_links.specs.declared.anchors.Anchor.{Anchor}
use Rattle.tocmark_links.specs.declared.anchors.AnchorKind.{AnchorKind}
use Rattle.tocmark_links.specs.declared.anchors.AnchorKind.TheVariants.{Heading, Named, Html}
use Rattle.tocmark_links.specs.declared.headings.Renaming.{Renaming}
use Rattle.tocmark_links.specs.declared.tree.Tree.{Tree}

-- what an anchor is, if so many headings are before it: a heading by its number, or an element of HTML
abbrev pub place_of : AnchorKind → ℕ → Option ℕ
place_of Heading number = Some number
place_of Named number = Some number
place_of Html number = None

-- how many headings there are after an anchor
abbrev pub number_after : AnchorKind → ℕ → ℕ
number_after Heading number = suc number
number_after Named number = suc number
number_after Html number = number

-- what the first anchor of a name is, if so many headings are before these anchors
abbrev pub first_from : ℕ → List Anchor → List ℕ → Option (Option ℕ)
first_from number [] name = None
first_from number (a ∷ anchors) name =
    option_or (if bytes_eq (string_bytes a.name) name then Some (place_of a.kind number) else None)
    (first_from (number_after a.kind number) anchors name)

-- the heading that an anchor leads to: the first of this name, or of the name in lower case if no anchor has it as it is; an
-- empty one leads to none
abbrev pub heading_by : (List ℕ → Option (Option ℕ)) → List ℕ → Option ℕ
heading_by find name =
    if length name == 0 then None else unwrap_or (option_or (find name) (find (str_to_lowercase name))) None

-- the heading of a file that a link of a page leads to
abbrev pub heading_to : Tree → List ℕ → (List ℕ → Option (Option ℕ)) → List ℕ → List ℕ → Option ℕ
heading_to tree file find from destination =
    if option_map_or (λ path. bytes_eq path file) (led_to tree.is_book (kind_at tree) from destination) false
    then heading_by find (decoded (anchor_of destination)) else None

-- what is known of a file's anchors is so of these, before and after
pub record IsOf (renaming : Renaming) (file : List ℕ) (old new : List Anchor) : Type 0 where
  pub is_file : string_bytes renaming.file ≡ file
  pub finds_old : (name : List ℕ) → get_by_text renaming.old name ≡ first_from 0 old name
  pub finds_new : (name : List ℕ) → get_by_text renaming.new name ≡ first_from 0 new name

-- a link that led to a heading of the file leads to the one of the same number by its new destination, or by its old one if it has
-- none
abbrev pub KeepsHeading : Tree → Renaming → List ℕ → List ℕ → Option (String Global) → Type 0
KeepsHeading tree renaming from destination new =
    (file : List ℕ) (before after : List Anchor) (number : ℕ) → IsOf renaming file before after
    → heading_to tree file (first_from 0 before) from destination ≡ Some number
    → heading_to tree file (first_from 0 after) from (new_or new destination) ≡ Some number
