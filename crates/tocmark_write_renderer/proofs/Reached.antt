-- The last run that starts by a place is the one that is there, if one is.
use Rattle.std.proofs.Common.{◌≡◌, ◌==◌, ◌≤◌, ◌<◌, ◌+◌, ◌-◌, inl, inr, ℕ, zero, suc, true, false, List, [], ◌∷◌, refl, sym, ap, ◌∙◌, arith, drop, get_or, leb, length, ltb, reverse, subst, take}
use Rattle.std.specs.List.Sorted.{IsPartitionPoint, IsPartitionedBy}
use Rattle.std.proofs.lemmas.Bool.{and_from, and_parts, both_ways, cases_lt, cond-false, cond-true, eq-eqb, eqb-true, false_from_ne_true, leb-true, le-leb, lt-ltb, ltb-true, or_cases, or_left, or_right}
use Rattle.std.proofs.lemmas.List.{get_or-reverse, length-reverse}
use Rattle.tocmark_write_renderer.specs.RunsOf.{AreInOrder, covers, is_reached, length_round}
use Rattle.tocmark_write_renderer.specs.declared.marker_runs.MarkerRun.{MarkerRun}
use Rattle.tocmark_write_renderer.proofs.Backwards.{drop-turned}
use Rattle.tocmark_write_renderer.proofs.Notes.{last-run}
use Rattle.tocmark_write_renderer.proofs.Order.{order-drop}
use Rattle.tocmark_write_renderer.proofs.Rounds.{far}

-- each run starts before the place where they end
starts-below : (n i : ℕ) (rs : List MarkerRun) (d : MarkerRun) → AreInOrder n rs → i < length rs → (get_or rs i d).start < n
starts-below n i [] d h l = absurd (omega (arith, l))
starts-below n zero (r ∷ rs) d h l = omega (arith, h.0, h.1)
starts-below n (suc i) (r ∷ rs) d h l = let below = starts-below r.start i rs d h.2 (omega (arith, l)) in omega (arith, h.0, h.1, below)

starts-fall : (n j i : ℕ) (rs : List MarkerRun) (d : MarkerRun) → AreInOrder n rs → j < i → i < length rs → (get_or rs i d).start < (get_or rs j d).start
starts-fall n j i [] d h le l = absurd (omega (arith, l))
starts-fall n j zero (r ∷ rs) d h le l = absurd (omega (arith, le))
starts-fall n zero (suc i) (r ∷ rs) d h le l = starts-below r.start i rs d h.2 (omega (arith, l))
starts-fall n (suc j) (suc i) (r ∷ rs) d h le l = starts-fall r.start j i rs d h.2 (omega (arith, le)) (omega (arith, l))

reached-start : (c place : ℕ) (r : MarkerRun) → is_reached c place r ≡ true → r.start ≤ place
reached-start c place r h = elim (or_cases (ltb r.start place) _ h) [
  | inl less ↦ omega (arith, ltb-true r.start place less)
  | inr at ↦ omega (arith, eqb-true r.start place (and_parts (r.start == place) (r.marker == c) at).0)
]

-- in the order of the text, what is reached comes first
pub reached-first : (c place limit : ℕ) (runs : List MarkerRun) → AreInOrder limit (reverse runs) → IsPartitionedBy (is_reached c place) runs
reached-first c place limit runs h i j d le l reached = elim (cases_lt i j) [
  | inl less ↦
      let n = length runs in
      let at : (k : ℕ) → k < n → get_or runs k d ≡ get_or (reverse runs) (n - 1 - k) d = λ k in_range.
      let back : n - 1 - (n - 1 - k) ≡ k = omega (arith, in_range) in
      let inside : n - 1 - k < length runs = omega (arith, in_range) in
      sym (get_or-reverse runs (n - 1 - k) d inside ∙ ap (λ m. get_or runs m d) back) in
      let falls = starts-fall limit (n - 1 - j) (n - 1 - i) (reverse runs) d h (omega (arith, less, l)) (omega (arith, less, l, length-reverse runs)) in
      let one = ap (λ (r : MarkerRun). r.start) (at i (omega (arith, less, l))) in
      let other = ap (λ (r : MarkerRun). r.start) (at j l) in
      let by_then = reached-start c place (get_or runs j d) reached in
      or_left (ltb (get_or runs i d).start place) _ (lt-ltb (get_or runs i d).start place (omega (arith, falls, one, other, by_then)))
  | inr over ↦
      let same : i ≡ j = omega (arith, le, over) in
      subst (λ k. is_reached c place (get_or runs k d) ≡ true) (sym same) reached
]

covers-reached : (c place : ℕ) (r : MarkerRun) → covers c place r ≡ true → is_reached c place r ≡ true
covers-reached c place r h =
    let one = and_parts (r.marker == c) _ h in
    let two = and_parts (leb r.start place) _ one.1 in
    elim (cases_lt r.start place) [
      | inl less ↦ or_left (ltb r.start place) _ (lt-ltb r.start place less)
      | inr over ↦
          let at : r.start ≡ place = omega (arith, over, leb-true r.start place two.0) in
          or_right (ltb r.start place) _ (and_from (r.start == place) (r.marker == c) (eq-eqb r.start place at) one.0)
    ]

-- runs that aren't reached
skip : (c place m : ℕ) (rs : List MarkerRun) → ((k : ℕ) (d : MarkerRun) → k < m → k < length rs → is_reached c place (get_or rs k d) ≡ false) → length_round c place rs ≡ length_round c place (drop m rs)
skip c place zero rs h = refl
skip c place (suc m) [] h = refl
skip c place (suc m) (r ∷ rs) h =
    cond-false (covers c place r) r.length (length_round c place rs) (false_from_ne_true (covers c place r) (λ q. both_ways (is_reached c place r) (h 0 r (omega arith) (omega arith)) (covers-reached c place r q)))
    ∙ skip c place m rs (λ k d l in_range. h (suc k) d (omega (arith, l)) (omega (arith, in_range)))

-- the last one that is reached isn't there: none is
passed : (c place limit : ℕ) (r : MarkerRun) (rs : List MarkerRun) → AreInOrder limit (r ∷ rs) → is_reached c place r ≡ true → covers c place r ≡ false → length_round c place rs ≡ 0
passed c place limit r rs h reached free = elim (or_cases (ltb r.start place) _ reached) [
  | inl less ↦ far c r.start place rs h.2 (ltb-true r.start place less)
  | inr at ↦
      let parts = and_parts (r.start == place) (r.marker == c) at in
      let same : r.start ≡ place = eqb-true r.start place parts.0 in
      let near = and_from (leb r.start place) (leb (place - r.start) r.length) (le-leb r.start place (omega (arith, same))) (le-leb (place - r.start) r.length (omega (arith, same))) in
      absurd (both_ways (covers c place r) free (and_from (r.marker == c) _ parts.1 near))
]

module _ (c place limit n : ℕ) (runs : List MarkerRun) (order : AreInOrder limit (reverse runs)) (within : n ≤ length runs)
    (point : IsPartitionPoint (λ r. is_reached c place r ≡ true) (λ r. is_reached c place r ≡ false) runs n) where
  sum : n + (length runs - n) ≡ length runs
  sum = omega (arith, within)

  -- those after aren't reached
  later : (k : ℕ) (d : MarkerRun) → k < length runs - n → k < length (reverse runs) → is_reached c place (get_or (reverse runs) k d) ≡ false
  later k d l in_range =
      let inside : k < length runs = omega (arith, l) in
      subst (λ r. is_reached c place r ≡ false) (sym (get_or-reverse runs k d inside)) (point.1 (length runs - 1 - k) d (omega (arith, l)) (omega (arith, l)))

  reached-only : length_round c place (reverse runs) ≡ length_round c place (reverse (take n runs))
  reached-only = skip c place (length runs - n) (reverse runs) later ∙ ap (length_round c place) (drop-turned runs n (length runs - n) sum)

  -- where none is reached
  pub none-reached : n ≡ 0 → length_round c place (reverse runs) ≡ 0
  none-reached e = reached-only ∙ ap (λ m. length_round c place (reverse (take m runs))) e

  module _ (d : MarkerRun) (some : 0 < n) where
    last-first : reverse (take n runs) ≡ get_or runs (n - 1) d ∷ reverse (take (n - 1) runs)
    last-first = last-run runs n d some within

    by-last : length_round c place (reverse runs) ≡ length_round c place (get_or runs (n - 1) d ∷ reverse (take (n - 1) runs))
    by-last = reached-only ∙ ap (length_round c place) last-first

    -- where the last one that is reached is there
    pub last-covers : covers c place (get_or runs (n - 1) d) ≡ true → length_round c place (reverse runs) ≡ (get_or runs (n - 1) d).length
    last-covers e = by-last ∙ cond-true (covers c place (get_or runs (n - 1) d)) _ _ e

    -- and where it doesn't
    pub last-free : covers c place (get_or runs (n - 1) d) ≡ false → length_round c place (reverse runs) ≡ 0
    last-free e =
        let held = order-drop limit (length runs - n) (reverse runs) order in
        let ordered : AreInOrder limit (get_or runs (n - 1) d ∷ reverse (take (n - 1) runs)) = subst (AreInOrder limit) (drop-turned runs n (length runs - n) sum ∙ last-first) held in
        let reached = point.0 (n - 1) d (omega arith) (omega (arith, some)) in
        by-last
        ∙ cond-false (covers c place (get_or runs (n - 1) d)) _ _ e
        ∙ passed c place limit (get_or runs (n - 1) d) (reverse (take (n - 1) runs)) ordered reached e
