-- What the links of a page lead to, before a move and after it.
use Rattle.std.specs.Prelude.{ℕ, ◌==◌, Bool, List, length, Option, None, Some, String, string_bytes, ◌≡◌, if◌then◌else◌}
use Rattle.std.specs.Borrow.{Bor}
use Rattle.std.specs.Global.{Global}
use Rattle.std.specs.Option.{option_and_then, option_map_or}
use Rattle.tocmark_links.specs.Destinations.{decoded, is_local, path_of}
use Rattle.tocmark_links.specs.Naming.{kind_at, kind_after, named, placed}
use Rattle.tocmark_links.specs.Paths.{folder_of, resolved, IsPlace}
use Rattle.tocmark_links.specs.declared.moves.Moves.{Moves}
use Rattle.tocmark_links.specs.declared.tree.Kind.{Kind}
use Rattle.tocmark_links.specs.declared.tree.Tree.{Tree}

-- what a path leads to from a page: an empty one to the page itself
abbrev pub led_by : Bool → (List ℕ → Kind) → List ℕ → List ℕ → Option (List ℕ)
led_by is_book kinds from path =
    if length path == 0 then Some from else option_and_then (named is_book kinds) (resolved (folder_of from) (decoded path))

-- what a destination leads to from a page, whatever its anchor: a file or folder
abbrev pub led_to : Bool → (List ℕ → Kind) → List ℕ → List ℕ → Option (List ℕ)
led_to is_book kinds from destination = if is_local destination then led_by is_book kinds from (path_of destination) else None

-- a place that its own path names: that of a file, or of a folder without a page
abbrev pub NamesItself : Bool → (List ℕ → Kind) → List ℕ → Type 0
NamesItself is_book kinds place = IsPlace place × (named is_book kinds place ≡ Some place)

-- the tree after a move
abbrev pub after : Tree → Moves → List ℕ → Kind
after tree moves = kind_after (kind_at tree) moves

-- after a move, a destination leads from a page to a place
abbrev pub LeadsAfter : Tree → Moves → List ℕ → List ℕ → List ℕ → Type 0
LeadsAfter tree moves from destination place = led_to tree.is_book (after tree moves) from destination ≡ Some place

-- the new destination of a link, or the old one if it has none
abbrev pub new_or : Option (String Global) → List ℕ → List ℕ
new_or new old = option_map_or string_bytes new old

-- after a move, a link of a page leads to the new place of what it led to, if that is named by its own path then
abbrev pub Follows : Tree → Moves → List ℕ → List ℕ → Option (String Global) → Type 0
Follows tree moves from old new =
    (place : List ℕ) → led_to tree.is_book (kind_at tree) from old ≡ Some place → NamesItself tree.is_book (after tree moves) (placed moves place)
    → LeadsAfter tree moves (placed moves from) (new_or new old) (placed moves place)
