-- A node, level by level, and what one more member adds.
use Rattle.std.proofs.Common.{◌≡◌, ℕ, List, [], ◌∷◌, ◌++◌, Vec, Global, Bor, ap, map, refl, ◌∙◌, rules}
use Rattle.std.proofs.lemmas.List.{map-append}
use Rattle.serde_json.specs.Data.{Data, Members, array, no_members, object, put}
use Rattle.tocmark_json.specs.Node.{view, items_view, members_view, put_all}
use Rattle.tocmark_json.specs.declared.node.Node.{Node, Array, Object, the_lemmas}

abbrev pub Entry : Type 0
Entry = Bor (List ℕ) × Node

pub view-Array : (v : Vec Node Global) → view (Array v) ≡ array (items_view v.items)
view-Array v = search (rules, the_lemmas)

pub view-Object : (v : Vec Entry Global) → view (Object v) ≡ object (members_view v.items)
view-Object v = search (rules, the_lemmas)

put_all-more : (ms : List (Bor (List ℕ) × Data)) (m : Bor (List ℕ) × Data) (found : Members) → put_all (ms ++ m ∷ []) found ≡ put m.0.now m.1 (put_all ms found)
put_all-more [] m found = refl
put_all-more (n ∷ ms) m found = put_all-more ms m (put n.0.now n.1 found)

abbrev seen : Entry → Bor (List ℕ) × Data
seen e = (e.0, view e.1)

-- one more member after others
pub members_view-more : (es : List Entry) (e : Entry) → members_view (es ++ e ∷ []) ≡ put e.0.now (view e.1) (members_view es)
members_view-more es e = ap (λ ms. put_all ms no_members) (map-append seen es (e ∷ [])) ∙ put_all-more (map seen es) (seen e) no_members
