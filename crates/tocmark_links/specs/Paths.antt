-- Paths as lists of parts: where a path leads from a folder, and the path from a folder to a place.
use Rattle.std.specs.Prelude.{ℕ, suc, ◌-◌, ◌==◌, Bool, true, false, ◌||◌, List, [], ◌∷◌, ◌++◌, length, take, drop, map, Option, None, Some, unwrap_or, codes, ◌≡◌, if◌then◌else◌}
use Rattle.std.specs.List.{fold}
use Rattle.std.specs.Option.{option_and_then, option_map, option_or}
use Rattle.std.specs.Str.{bytes_eq}

-- a byte in front of the first part
abbrev pub begun : ℕ → List (List ℕ) → List (List ℕ)
begun b [] = (b ∷ []) ∷ []
begun b (part ∷ parts) = (b ∷ part) ∷ parts

-- the parts of a path, between its slashes
abbrev pub parts_of : List ℕ → List (List ℕ)
parts_of [] = [] ∷ []
parts_of (b ∷ bytes) = if b == 47 then [] ∷ parts_of bytes else begun b (parts_of bytes)

-- a part after a path, with a slash between them unless the path is empty
abbrev pub followed : List ℕ → List ℕ → List ℕ
followed [] part = part
followed (b ∷ path) part = (b ∷ path) ++ (47 ∷ part)

-- parts as a path
abbrev pub joined : List (List ℕ) → List ℕ
joined parts = fold followed [] parts

-- a part that leads to the folder above
abbrev pub is_up : List ℕ → Bool
is_up part = bytes_eq part (codes "..")

-- a part that leads nowhere else
abbrev pub is_here : List ℕ → Bool
is_here part = bytes_eq part (codes ".") || bytes_eq part []

-- the place above another one; there is none above the root
abbrev pub above : List (List ℕ) → Option (List (List ℕ))
above [] = None
above (part ∷ parts) = Some (take (length (part ∷ parts) - 1) (part ∷ parts))

-- one more part of a path, from a place: None is out of the root
abbrev pub gone : Option (List (List ℕ)) → List ℕ → Option (List (List ℕ))
gone None part = None
gone (Some place) part =
    if is_up part then above place else (if is_here part then Some place else Some (place ++ (part ∷ [])))

abbrev pub begins_at_root : List ℕ → Bool
begins_at_root [] = false
begins_at_root (b ∷ bytes) = b == 47

-- the place that a path from the root names
abbrev pub led : List ℕ → Option (List (List ℕ))
led path = fold gone (Some []) (parts_of path)

-- where a path begins
abbrev pub start_of : List ℕ → List ℕ → Option (List (List ℕ))
start_of folder path = if begins_at_root path then Some [] else led folder

-- where a path leads from a folder
abbrev pub resolved : List ℕ → List ℕ → Option (List ℕ)
resolved folder path = option_map joined (fold gone (start_of folder path) (parts_of path))

-- the parts of a place
abbrev pub place : List ℕ → List (List ℕ)
place path = unwrap_or (led path) []

-- whether a part is the first of some parts
abbrev pub is_next : List ℕ → List (List ℕ) → Bool
is_next part [] = false
is_next part (other ∷ others) = bytes_eq other part

-- how many parts two places have in common at their front
abbrev pub common : List (List ℕ) → List (List ℕ) → ℕ
common [] others = 0
common (part ∷ parts) others = if is_next part others then suc (common parts (drop 1 others)) else 0

-- the way up, out of each of some parts
abbrev pub climbed : List (List ℕ) → List (List ℕ)
climbed parts = map (λ _. codes "..") parts

-- no parts are the part that leads nowhere else
abbrev pub or_here : List (List ℕ) → List (List ℕ)
or_here [] = codes "." ∷ []
or_here (part ∷ parts) = part ∷ parts

-- up to what two places have in common, and down to the second one
abbrev pub between : List (List ℕ) → List (List ℕ) → List (List ℕ)
between from to = or_here (climbed (drop (common from to) from) ++ drop (common from to) to)

-- the path from a folder to a place
abbrev pub relative : List ℕ → List ℕ → List ℕ
relative folder target = joined (between (place folder) (place target))

-- a path from the root without a slash in front, empty parts, `.` and `..`
abbrev pub IsPlace : List ℕ → Type 0
IsPlace path = resolved [] path ≡ Some path

-- what is in front of the last slash of a path
abbrev pub before_slash : List ℕ → Option (List ℕ)
before_slash [] = None
before_slash (b ∷ path) = option_or (option_map (λ front. b ∷ front) (before_slash path)) (if b == 47 then Some [] else None)

-- the folder that a path is in
abbrev pub folder_of : List ℕ → List ℕ
folder_of path = unwrap_or (before_slash path) []

-- nothing, or a slash and more
abbrev pub is_tail : List ℕ → Bool
is_tail [] = true
is_tail (b ∷ path) = b == 47

-- what is left of a path after a folder; None if the path isn't in the folder
abbrev pub below : List ℕ → List ℕ → Option (List ℕ)
below [] path = if is_tail path then Some path else None
below (a ∷ folder) [] = None
below (a ∷ folder) (b ∷ path) = if a == b then below folder path else None

-- what is in front of an ending of a path
abbrev pub before : List ℕ → List ℕ → Option (List ℕ)
before path ending =
    if bytes_eq (drop (length path - length ending) path) ending then Some (take (length path - length ending) path) else None

-- the folder of a path, by what is in front of its name
abbrev pub folder_front : List ℕ → Option (List ℕ)
folder_front front = if length front == 0 then Some front else before front (codes "/")

-- the folder of a path whose name is this one
abbrev pub folder_before : List ℕ → List ℕ → Option (List ℕ)
folder_before path name = option_and_then folder_front (before path name)
