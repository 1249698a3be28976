-- A slice of a list whose items are changed.
use Rattle.std.proofs.Common.{◌≡◌, ◌∙◌, ◌-◌, ap, ℕ, List, map, slice_range, drop, take}
use Rattle.std.proofs.lemmas.List.{drop-map, take-map}

pub slice-map : {X Y : Type 0} (f : X → Y) (xs : List X) (a b : ℕ) → slice_range (map f xs) a b ≡ map f (slice_range xs a b)
slice-map f xs a b = ap (take (b - a)) (drop-map f a xs) ∙ take-map f (b - a) (drop a xs)
