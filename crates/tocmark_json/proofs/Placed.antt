-- Events with their ranges in bytes of marshal, and where they go wrong.
use Rattle.std.proofs.Common.{◌≡◌, ◌∙◌, ◌<◌, ◌≤◌, ◌-◌, ◌*◌, ◌/◌, ◌%◌, ◌==◌, ℕ, zero, suc, List, [], ◌∷◌, Bool, Bor, true, false, None, Option, Some, Result, Ok, Err, IfErr, IsErrAnd, ap, arith, length, map, refl, subst, sym}
use Rattle.std.proofs.lemmas.List.{length-map}
use Rattle.serde_json.specs.Data.{Data}
use Rattle.tocmark_json.specs.Elements.{Pair}
use Rattle.tocmark_json.specs.Json.{event_json}
use Rattle.tocmark_json.specs.Place.{Refuses}
use Rattle.tocmark_json.specs.Unmarshal.{BeginsNone, GoesWrong, IsDumpFault, IsDumped, Lacks, RefusesPlaced, dump_fault, list_length, parse_map, placed, placed_json, range, value, values}
use Rattle.tocmark_json.specs.declared.fault.Fault.{Fault}
use Rattle.tocmark_json.specs.declared.fault.Fault.TheVariants as fault
use Rattle.tocmark_json.specs.declared.fault.JsonError.TheVariants as error
use Rattle.tocmark_json.specs.declared.fault.ReadError.{ReadError}
use Rattle.tocmark_json.specs.declared.fault.ReadError.TheVariants as read_error
use Rattle.tocmark_json.proofs.Unmarshalled.{same_pair}

never : {A : Type 0} (a : A) → None ≡ Some a → ⊥
never a e = absurd cc

-- ---- one event

module _ (bytes : List ℕ) where
  module _ (none : placed bytes ≡ None) where
    pub nothing : BeginsNone bytes
    nothing p rest is = never (placed_json p, rest) (sym none ∙ is)

    pub unplaced : (e : Fault) → RefusesPlaced bytes e
    unplaced (fault.Wanted k w) = nothing
    unplaced fault.OutOfMemory = tt

    pub unplaced_if : {T : Type 0} (r : Result T Fault) → IfErr r (RefusesPlaced bytes)
    unplaced_if (Ok x) = tt
    unplaced_if (Err e) = unplaced e

  pub no_range : range bytes ≡ None → placed bytes ≡ None
  unfolding placed
  no_range none = rw none refl

  module _ (r : Option (ℕ × ℕ)) (rest : List ℕ) (ranged : range bytes ≡ Some (r, rest)) where
    pub no_value : value 127 rest ≡ None → placed bytes ≡ None
    unfolding placed
    no_value none = rw (ranged, none) refl

    part : (e : Fault) → Lacks (value 127 rest) e → RefusesPlaced bytes e
    part (fault.Wanted k w) h = nothing (no_value h)
    part fault.OutOfMemory h = tt

    pub returned_part : {T : Type 0} (t : Result T Fault) (e : Fault) → IsErrAnd t (λ y. y ≡ e) → Lacks (value 127 rest) e → IfErr t (RefusesPlaced bytes)
    returned_part (Ok x) e is h = absurd is
    returned_part (Err y) e is h = subst (λ (f : Fault). RefusesPlaced bytes f) (sym is) (part e h)

    module _ (d : Data) (behind : List ℕ) (valued : value 127 rest ≡ Some (d, behind)) where
      pub placed_read : (p : Pair) → r ≡ p.1 → d ≡ event_json p.0 → placed bytes ≡ Some (placed_json p, behind)
      unfolding placed
      placed_read p same is = rw (ranged, valued) (ap (λ (q : Option (ℕ × ℕ)). Some ((q, d), behind)) same ∙ ap (λ (x : Data). Some ((p.1, x), behind)) is)

      here : placed bytes ≡ Some ((r, d), behind)
      unfolding placed
      here = rw (ranged, valued) refl

      pub no_event : (e : Fault) → Refuses event_json d e → RefusesPlaced bytes e
      no_event (fault.Wanted k w) refused = λ p rest is. refused p.0 (ap (λ q. q.1) (same_pair ((r, d), behind) (placed_json p, rest) (sym here ∙ is)).0)
      no_event fault.OutOfMemory refused = tt

-- ---- the list

pub is_nil : (xs : List ℕ) (b : Bool) → b ≡ (length xs == 0) → b ≡ true → xs ≡ []
is_nil [] b is so = refl
is_nil (x ∷ xs) b is so = let none : length (x ∷ xs) ≡ 0 = grind (arith, is, so) in absurd (omega (arith, none))

pub not_nil : (xs : List ℕ) (b : Bool) → b ≡ (length xs == 0) → b ≡ false → xs ≡ [] → ⊥
not_nil [] b is so nil = absurd cc
not_nil (x ∷ xs) b is so nil = absurd cc

map_twice : {A B C : Type 0} (f : A → B) (g : B → C) (xs : List A) → map (λ x. g (f x)) xs ≡ map g (map f xs)
map_twice f g [] = refl
map_twice f g (x ∷ xs) = ap (λ ys. g (f x) ∷ ys) (map_twice f g xs)

pub no_list : (bytes : List ℕ) → list_length bytes ≡ None → (n : ℕ) (first : List ℕ) → list_length bytes ≡ Some (3 * n, first) → ⊥
no_list bytes none n first is = never (3 * n, first) (sym none ∙ is)

pub no_threes : (bytes : List ℕ) (count : ℕ) (rest : List ℕ) → list_length bytes ≡ Some (count, rest) → (count % 3 ≡ 0 → ⊥) → (n : ℕ) (first : List ℕ) → list_length bytes ≡ Some (3 * n, first) → ⊥
no_threes bytes count rest counted odd n first is =
    let same = same_pair (count, rest) (3 * n, first) (sym counted ∙ is) in
    odd (omega (arith, same.0))

module _ {A : Type 0} (f : A → Pair) (bytes first rest : List ℕ) (number : ℕ) (xs : List A)
    (counted : list_length bytes ≡ Some (number, first)) (threes : number % 3 ≡ 0)
    (e : values placed (length xs) first ≡ Some (map (λ x. placed_json (f x)) xs, rest)) where
  seen : values placed (length xs) first ≡ Some (map placed_json (map f xs), rest)
  seen = e ∙ ap (λ ys. Some (ys, rest)) (map_twice f placed_json xs)

  three : list_length bytes ≡ Some (3 * (number / 3), first)
  three = let is : number ≡ 3 * (number / 3) = omega (arith, threes) in counted ∙ ap (λ n. Some (n, first)) is

  pub list_dumped : length xs ≤ number / 3 → number / 3 ≤ length xs → rest ≡ [] → IsDumped bytes (map f xs)
  list_dumped low high over =
      let count : number / 3 ≡ length (map f xs) = (let same : number / 3 ≡ length xs = omega (arith, low, high) in same ∙ sym (length-map xs f)) in (
        first,
        three ∙ ap (λ n. Some (3 * n, first)) count,
        ap (λ n. values placed n first) (length-map xs f) ∙ seen ∙ ap (λ r. Some (map placed_json (map f xs), r)) over,
      )

  module _ (at : ℕ) (is : at ≡ length xs) where
    wrong : at ≤ number / 3 → GoesWrong (number / 3 - at) rest → (e : Fault) → IsDumpFault bytes (dump_fault at e)
    wrong low goes (fault.Wanted k w) = (number / 3, first, map f xs, rest, three, ap (λ n. values placed n first) is ∙ seen, is ∙ sym (length-map xs f), low, goes)
    wrong low goes fault.OutOfMemory = tt

    pub wrong_event : at < number / 3 → (e : Fault) → RefusesPlaced rest e → IsDumpFault bytes (dump_fault at e)
    wrong_event less (fault.Wanted k w) lacks =
        let due : number / 3 - at ≡ suc (number / 3 - at - 1) = omega (arith, less) in
        wrong (omega (arith, less)) (subst (λ n. GoesWrong n rest) (sym due) lacks) (fault.Wanted k w)
    wrong_event less fault.OutOfMemory lacks = tt

    pub wrong_end : at ≤ number / 3 → number / 3 ≤ at → (rest ≡ [] → ⊥) → (k w : Bor (List ℕ)) (e : ReadError) → e ≡ read_error.NotEvents (error.Event at k w) → IsDumpFault bytes e
    wrong_end low high more k w e same =
        let over : number / 3 - at ≡ 0 = omega (arith, high) in
        subst (λ (x : ReadError). IsDumpFault bytes x) (sym same) (wrong low (subst (λ n. GoesWrong n rest) (sym over) more) (fault.Wanted k w))
