-- The trees at the top of a list of events, whether its containers are closed or not.
use Rattle.std.specs.Option.{option_map_or}
use Rattle.std.specs.Prelude.{ℕ, suc, ◌-◌, List, [], ◌∷◌, map, if◌then◌else◌, nat_eq, slice_get}
use Rattle.tocmark_event.specs.View.{EventView, Start, End, Leaf}
use Rattle.tocmark_rewrite.specs.declared.trees.Tree.{Tree}

-- the ranges that are beside events
abbrev pub ranges_of : {X : Type 0} → List (X × (ℕ × ℕ)) → List (ℕ × ℕ)
ranges_of = map (λ e. e.1)

-- how many containers are open after an event
abbrev pub depth_behind : ℕ → EventView → ℕ
depth_behind depth (Start t) = suc depth
depth_behind depth (End t) = depth - 1
depth_behind depth (Leaf l) = depth

-- the first event of each tree and the one after it, in the rest of a list: a tree is open since an event, so deep
abbrev pub spans_from : ℕ → ℕ → ℕ → List EventView → List (ℕ × ℕ)
spans_from first at depth [] = if nat_eq depth 0 then [] else (first, at) ∷ []
spans_from first at depth (e ∷ es) =
    if nat_eq (depth_behind depth e) 0 then (first, suc at) ∷ spans_from (suc at) (suc at) 0 es
    else spans_from first (suc at) (depth_behind depth e) es

-- the first event of each tree and the one after it: a tree ends where no container is open, and the last one may have no end
abbrev pub spans_of : List EventView → List (ℕ × ℕ)
spans_of = spans_from 0 0 0

-- the range of an event
abbrev pub range_at : List (ℕ × ℕ) → ℕ → ℕ × ℕ
range_at ranges at = option_map_or (λ r. r) (slice_get ranges at) (0, 0)

-- the tree of these events, which is where its first event is
abbrev pub tree_at : List (ℕ × ℕ) → ℕ × ℕ → Tree
tree_at ranges span = record { first = span.0; past = span.1; begins = (range_at ranges span.0).0; ends = (range_at ranges span.0).1 }

-- the trees at the top
abbrev pub trees_of : List EventView → List (ℕ × ℕ) → List Tree
trees_of events ranges = map (tree_at ranges) (spans_of events)
