-- Places of names in a list.
use Rattle.std.proofs.Common.{◌≡◌, refl, sym, ◌∙◌, ap, subst, ℕ, zero, suc, ◌<◌, ◌≤◌, ◌+◌, ◌-◌, Bool, true, false, cond, List, [], ◌∷◌, ◌++◌, length, take, drop, map, get_or, arith, Option, None, Some, unwrap_or, String, bytes_eq, inl, inr, if◌then◌else◌, append_assoc, append-nil}
use Rattle.std.specs.Borrow.{Bor}
use Rattle.std.specs.HashMap.{HashMap, get_by_text}
use Rattle.std.specs.Map.{update}
use Rattle.std.proofs.lemmas.Bool.Decides.{eqb_tells}
use Rattle.std.proofs.lemmas.List.{drop_more, drop_all}
use Rattle.std.proofs.lemmas.Slice.Eq.{bytes_eq-Decides}
use Rattle.tocmark_links.specs.Renamed.{place_from, renamed, KeepsPlaces}

some-same : (x y : ℕ) → Some x ≡ Some y → x ≡ y
some-same x y e = ap (λ o. unwrap_or o x) e

none-some : (x : ℕ) → None ≡ Some x → ⊥
none-some x e = cc

-- a name that has a place is there
pub record IsThere (from n : ℕ) (names : List (List ℕ)) (name : List ℕ) : Type 0 where
  pub past : from ≤ n
  pub within : n < from + length names
  pub is : get_or names (n - from) [] ≡ name

there : (from n : ℕ) (names : List (List ℕ)) (name : List ℕ) → place_from from names name ≡ Some n → IsThere from n names name
there from n [] name e = absurd (none-some n e)
there from n (other ∷ names) name e = by (bytes_eq other name) refl (there (suc from) n names name)
  where
    by : (s : Bool) → bytes_eq other name ≡ s → (place_from (suc from) names name ≡ Some n → IsThere (suc from) n names name) → IsThere from n (other ∷ names) name
    by true is ih =
        let same : from ≡ n = some-same from n (sym (ap (λ b. if b then Some from else place_from (suc from) names name) is) ∙ e) in
        let none : n - from ≡ 0 = omega (arith, same) in
        record {
          past = omega (arith, same);
          within = omega (arith, same);
          is = ap (λ k. get_or (other ∷ names) k []) none ∙ (bytes_eq-Decides other name).0 is;
        }
    by false is ih =
        let more : IsThere (suc from) n names name = ih (sym (ap (λ b. if b then Some from else place_from (suc from) names name) is) ∙ e) in
        let past : suc from ≤ n = more.past in
        let low : n < suc from + length names = more.within in
        let step : n - from ≡ suc (n - suc from) = omega (arith, past) in
        record {
          past = omega (arith, past);
          within = omega (arith, low);
          is = ap (λ k. get_or (other ∷ names) k []) step ∙ more.is;
        }

-- ---- places from the back

pub one-before : (names : List (Bor (List ℕ))) (place : ℕ) (d : Bor (List ℕ)) (q : List ℕ) (old new : Option ℕ) → place < length names → new ≡ cond (bytes_eq ((get_or names place d).now) q) (Some place) old → old ≡ place_from (place + 1) (map (λ n. n.now) (drop (place + 1) names)) q → new ≡ place_from place (map (λ n. n.now) (drop place names)) q
one-before names place d q old new within n h =
    let step : place + 1 ≡ suc place = omega arith in
    let next : old ≡ place_from (suc place) (map (λ n. n.now) (drop (place + 1) names)) q =
    h ∙ ap (λ k. place_from k (map (λ n. n.now) (drop (place + 1) names)) q) step in
    n
    ∙ ap (λ o. cond (bytes_eq ((get_or names place d).now) q) (Some place) o) next
    ∙ sym (ap (λ ps. place_from place (map (λ n. n.now) ps) q) (drop_more names place d within))

-- ---- places that are kept

module _ {Y Z S : Type 0} (changed : HashMap (String Y) (String Z) S) (old new : List (List ℕ)) where
  -- those of the first so many names
  abbrev pub KeepsFirst : ℕ → Type 0
  KeepsFirst i = (k : ℕ) → k < i → place_from 0 old (get_or old k []) ≡ Some k → place_from 0 new (renamed changed (get_or old k [])) ≡ Some k

  pub none-kept : KeepsFirst 0
  none-kept k low e = absurd (omega (arith, low))

  pub one-kept : (i : ℕ) → (place_from 0 old (get_or old i []) ≡ Some i → place_from 0 new (renamed changed (get_or old i [])) ≡ Some i) → KeepsFirst i → KeepsFirst (i + 1)
  one-kept i last h k low e = elim (eqb_tells k i) [
    | inl t ↦
        subst (λ n. place_from 0 new (renamed changed (get_or old n [])) ≡ Some n) (sym t.1) (last (subst (λ n. place_from 0 old (get_or old n []) ≡ Some n) t.1 e))
    | inr f ↦ h k (omega (arith, low, f.1)) e
  ]

  pub all-kept : (i : ℕ) → length old ≤ i → KeepsFirst i → KeepsPlaces changed old new
  all-kept i past h name n e =
      let is : IsThere 0 n old name = there 0 n old name e in
      let low : n < 0 + length old = is.within in
      let same : get_or old n [] ≡ name = ap (λ k. get_or old k []) (omega arith) ∙ is.is in
      subst (λ q. place_from 0 new (renamed changed q) ≡ Some n) same (h n (omega (arith, low, past)) (subst (λ q. place_from 0 old q ≡ Some n) (sym same) e))

name-at : (names : List (Bor (List ℕ))) (i : ℕ) (d : Bor (List ℕ)) → i < length names → get_or (map (λ n. n.now) names) i [] ≡ (get_or names i d).now
name-at [] i d within = absurd (omega (arith, within))
name-at (x ∷ names) zero d within = refl
name-at (x ∷ names) (suc i) d within = name-at names i d (omega (arith, within))

-- one more name whose place is kept, by maps of the places
pub place-kept : {Y Z S : Type 0} (changed : HashMap (String Y) (String Z) S) (names : List (Bor (List ℕ))) (new : List (List ℕ)) (i : ℕ) (d : Bor (List ℕ)) (before after : List ℕ → Option ℕ) → i < length names → ((q : List ℕ) → before q ≡ place_from 0 (map (λ n. n.now) names) q) → ((q : List ℕ) → after q ≡ place_from 0 new q) → (before ((get_or names i d).now) ≡ Some i → after (renamed changed ((get_or names i d).now)) ≡ Some i) → KeepsFirst changed (map (λ n. n.now) names) new i → KeepsFirst changed (map (λ n. n.now) names) new (i + 1)
place-kept changed names new i d before after within b a keeps h =
    let old : List (List ℕ) = map (λ n. n.now) names in
    let name : List ℕ = (get_or names i d).now in
    let same : get_or old i [] ≡ name = name-at names i d within in
    one-kept changed old new i (λ e. subst (λ q. place_from 0 new (renamed changed q) ≡ Some i) (sym same) (sym (a (renamed changed name)) ∙ keeps (b name ∙ subst (λ q. place_from 0 old q ≡ Some i) same e))) h
