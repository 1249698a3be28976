-- The data that a node stands for.
use Rattle.std.specs.Prelude.{◌≡◌, ℕ, List, [], ◌∷◌, codes, map}
use Rattle.std.specs.Cmp.Lexicographic.{slice_cmp}
use Rattle.std.specs.Ordering.{nat_cmp}
use Rattle.std.specs.declared.cmp.Ordering.TheVariants.{Less}
use Rattle.std.specs.Borrow.{Bor}
use Rattle.serde_json.specs.Data.{Num, unsigned, negative, float, Data, null, boolean, number, string, array, object, Items, Members, member, no_members, put}
use Rattle.serde_json.specs.View.{items_of}
use Rattle.tocmark_json.specs.declared.number.Number.{Number}
use Rattle.tocmark_json.specs.declared.number.Number.TheVariants.{Unsigned, Negative, Float}
use Rattle.tocmark_json.specs.declared.node.Node.{Node, fold-Node}
use Rattle.tocmark_json.specs.declared.node.Node.TheOpen.{Node-F}
use Rattle.tocmark_json.specs.declared.parts.Keys.{Keys}
use Rattle.tocmark_json.specs.declared.ranges.Targeted.{Targeted}

abbrev pub number_view : Number → Num
number_view (Unsigned n) = unsigned n
number_view (Negative z) = negative z
number_view (Float x) = float x

-- members put over others one after another: the last value of a key stays
abbrev pub put_all : List (Bor (List ℕ) × Data) → Members → Members
put_all [] found = found
put_all (m ∷ ms) found = put_all ms (put m.0.now m.1 found)

-- one level, with each value inside already seen as its data
abbrev pub view_step : Node-F Data → Data
view_step Node-F.Null = null
view_step (Node-F.Bool b) = boolean b
view_step (Node-F.Number x) = number (number_view x)
view_step (Node-F.String s) = string s.now
view_step (Node-F.Array v) = array (items_of v.items)
view_step (Node-F.Object v) = object (put_all v.items no_members)

abbrev pub view : Node → Data
view = fold-Node Data view_step

abbrev pub items_view : List Node → Items
items_view vs = items_of (map view vs)

abbrev pub members_view : List (Bor (List ℕ) × Node) → Members
members_view ms = put_all (map (λ m. (m.0, view m.1)) ms) no_members

-- the range of a link, with the place of its destination
abbrev pub targeted_view : Targeted → Data
targeted_view t =
    object (member (codes "dest_end") (view t.dest_end.now)
    (member (codes "dest_start") (view t.dest_start.now)
    (member (codes "end") (view t.end.now)
    (member (codes "end_column") (view t.end_column.now)
    (member (codes "end_line") (view t.end_line.now)
    (member (codes "start") (view t.start.now)
    (member (codes "start_column") (view t.start_column.now)
    (member (codes "start_line") (view t.start_line.now) no_members))))))))

-- a name is none of these
abbrev pub IsOther : Keys → List ℕ → Type 0
IsOther keys name =
    (name ≡ keys.first.now → ⊥) × (name ≡ keys.second.now → ⊥) × (name ≡ keys.third.now → ⊥) × (name ≡ keys.fourth.now → ⊥) × (name ≡ keys.fifth.now → ⊥) × (name ≡ keys.sixth.now → ⊥) × (name ≡ keys.seventh.now → ⊥) × (name ≡ keys.eighth.now → ⊥)

-- a text is below all of these
abbrev pub IsBelow : List ℕ → List (List ℕ) → Type 0
IsBelow name [] = Unit {0}
IsBelow name (other ∷ others) = (slice_cmp nat_cmp name other ≡ Less) × IsBelow name others

-- each text is below those after it
abbrev pub AreAscending : List (List ℕ) → Type 0
AreAscending [] = Unit {0}
AreAscending (name ∷ names) = IsBelow name names × AreAscending names
