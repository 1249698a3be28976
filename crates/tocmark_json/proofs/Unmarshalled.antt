-- What bytes of marshal begin with, a turn of a loop at a time.
use Rattle.std.proofs.Common.{◌≡◌, ◌∙◌, ◌==◌, ◌⊎◌, ◌<◌, ◌≤◌, ◌-◌, ℕ, zero, suc, List, [], ◌∷◌, ◌++◌, Bool, true, false, None, Option, Some, Result, Ok, Err, IfErr, IsErrAnd, ap, arith, inl, inr, length, map, refl, subst, sym}
use Rattle.std.proofs.lemmas.List.{length-append, map-append}
use Rattle.std.proofs.lemmas.Str.{IsUtf8-from_is_utf8, is_utf8-from_IsUtf8}
use Rattle.std.specs.Str.{IsUtf8, is_utf8}
use Rattle.serde_json.specs.Data.{Data, Members, array, object, put}
use Rattle.serde_json.specs.View.{items_of}
use Rattle.tocmark_json.specs.Unmarshal.{Lacks, Parse, and_then, byte, counted, dict, key, member_by, members, parse_map, plain, size, value, values}
use Rattle.tocmark_json.specs.declared.fault.Fault.{Fault}
use Rattle.tocmark_json.specs.declared.fault.Fault.TheVariants as fault

-- ---- texts

pub text_is_utf8 : (bytes : List ℕ) → IsUtf8 bytes → is_utf8 bytes ≡ true
text_is_utf8 = is_utf8-from_IsUtf8

pub text_is_not_utf8 : (bytes : List ℕ) → (IsUtf8 bytes → ⊥) → is_utf8 bytes ≡ false
text_is_not_utf8 bytes not = elim (is_utf8 bytes) as (λ b. is_utf8 bytes ≡ b → b ≡ false) [ true ↦ λ e. absurd (not (IsUtf8-from_is_utf8 bytes e)) | false ↦ λ e. refl ] refl

-- ---- values one after the other

abbrev pick : {A : Type 0} → A → Option A → A
pick d None = d
pick d (Some a) = a

pub same_pair : {A : Type 0} (x y : A × List ℕ) → Some x ≡ Some y → (x.0 ≡ y.0) × (x.1 ≡ y.1)
same_pair x y e = let same : x ≡ y = ap (pick x) e in (ap (λ q. q.0) same, ap (λ q. q.1) same)

-- the first one and those after it
record Split {A : Type 0} (p : Parse A) (n : ℕ) (o : Option (A × List ℕ)) (xs : List A) (r : List ℕ) : Type 0 where
  y : A
  rest : List ℕ
  ys : List A
  first : o ≡ Some (y, rest)
  more : values p n rest ≡ Some (ys, r)
  is : xs ≡ y ∷ ys

split : {A : Type 0} (p : Parse A) (n : ℕ) (o : Option (A × List ℕ)) (xs : List A) (r : List ℕ) → and_then o (λ y rest. parse_map (λ ys. y ∷ ys) (values p n rest)) ≡ Some (xs, r) → Split p n o xs r
split {A = A} p n None xs r e = absurd cc
split {A = A} p n (Some (y, rest)) xs r e = behind (values p n rest) refl e where
  behind : (o : Option (List A × List ℕ)) → values p n rest ≡ o → parse_map (λ ys. y ∷ ys) o ≡ Some (xs, r) → Split p n (Some (y, rest)) xs r
  behind None is e = absurd cc
  behind (Some (ys, s)) is e =
      let same = same_pair (y ∷ ys, s) (xs, r) e in
      record { y = y; rest = rest; ys = ys; first = refl; more = is ∙ ap (λ q. Some (ys, q)) same.1; is = sym same.0 }

module _ {A : Type 0} (p : Parse A) where
  pub values_more : (n : ℕ) (bytes r s : List ℕ) (xs : List A) (x : A) → values p n bytes ≡ Some (xs, r) → p r ≡ Some (x, s) → values p (suc n) bytes ≡ Some (xs ++ x ∷ [], s)
  unfolding values
  values_more zero bytes r s xs x e next =
      let same = same_pair ([], bytes) (xs, r) e in
      rw (same.1, next) (ap (λ (ys : List A). Some (ys ++ x ∷ [], s)) same.0)
  values_more (suc n) bytes r s xs x e next =
      let cut = split p n (p bytes) xs r e in
      ap (λ o. and_then o (λ y rest. parse_map (λ ys. y ∷ ys) (values p (suc n) rest))) cut.first
      ∙ ap (parse_map (λ zs. cut.y ∷ zs)) (values_more n cut.rest r s cut.ys x cut.more next)
      ∙ ap (λ (ys : List A). Some (ys ++ x ∷ [], s)) (sym cut.is)

  pub values_none : (n count : ℕ) (bytes r : List ℕ) (xs : List A) → n < count → values p n bytes ≡ Some (xs, r) → p r ≡ None → values p count bytes ≡ None
  unfolding values
  values_none n zero bytes r xs less e next = absurd (omega (arith, less))
  values_none zero (suc m) bytes r xs less e next =
      let same = same_pair ([], bytes) (xs, r) e in
      rw (same.1, next) refl
  values_none (suc n) (suc m) bytes r xs less e next =
      let cut = split p n (p bytes) xs r e in
      ap (λ o. and_then o (λ y rest. parse_map (λ ys. y ∷ ys) (values p m rest))) cut.first
      ∙ ap (parse_map (λ zs. cut.y ∷ zs)) (values_none n m cut.rest r cut.ys (omega (arith, less)) cut.more next)

-- what a list of Rust has so far
module _ {A B : Type 0} (f : B → A) (p : Parse A) where
  pub values_begun : (vs : List B) (bytes : List ℕ) → vs ≡ [] → values p (length vs) bytes ≡ Some (map f vs, bytes)
  unfolding values
  values_begun vs bytes none = rw none refl

  pub values_pushed : (vs ws : List B) (v : B) (bytes r s : List ℕ) → ws ≡ vs ++ v ∷ [] → values p (length vs) bytes ≡ Some (map f vs, r) → p r ≡ Some (f v, s) → values p (length ws) bytes ≡ Some (map f ws, s)
  values_pushed vs ws v bytes r s pushed e next =
      let count : length ws ≡ suc (length vs) = ap length pushed ∙ (length-append vs (v ∷ []) ∙ omega arith) in
      let seen : map f ws ≡ map f vs ++ f v ∷ [] = ap (map f) pushed ∙ map-append f vs (v ∷ []) in
      rw (count, seen) (values_more p (length vs) bytes r s (map f vs) (f v) e next)

module _ {A : Type 0} (p : Parse A) (bytes : List ℕ) where
  pub counted_unsized : size bytes ≡ None → counted p bytes ≡ None
  counted_unsized none = rw none refl

  module _ (n k : ℕ) (first r : List ℕ) (xs : List A) (sized : size bytes ≡ Some (n, first)) (e : values p k first ≡ Some (xs, r)) where
    pub counted_read : k ≤ n → n ≤ k → counted p bytes ≡ Some (xs, r)
    counted_read low high = let same : n ≡ k = omega (arith, low, high) in rw (sized, same) e

    pub counted_none : k < n → p r ≡ None → counted p bytes ≡ None
    counted_none less none = rw sized (values_none p k n first r xs less e none)

-- ---- faults

-- the fault of a part is one of the whole
pub lifted : {A B : Type 0} (part : Option A) (whole : Option B) → (part ≡ None → whole ≡ None) → (e : Fault) → Lacks part e → Lacks whole e
lifted part whole step (fault.Wanted k w) h = step h
lifted part whole step fault.OutOfMemory h = tt

pub lacking : {A : Type 0} (whole : Option A) → whole ≡ None → (e : Fault) → Lacks whole e
lacking whole none (fault.Wanted k w) = none
lacking whole none fault.OutOfMemory = tt

-- the same where a `?` returns it
pub returned : {T A B : Type 0} (r : Result T Fault) (e : Fault) → IsErrAnd r (λ y. y ≡ e) → (part : Option A) (whole : Option B) → (part ≡ None → whole ≡ None) → Lacks part e → IfErr r (Lacks whole)
returned (Ok x) e is part whole step h = absurd is
returned (Err y) e is part whole step h = subst (λ (f : Fault). Lacks whole f) (sym is) (lifted part whole step e h)

pub returned_none : {T A : Type 0} (r : Result T Fault) (whole : Option A) → whole ≡ None → IfErr r (Lacks whole)
returned_none (Ok x) whole none = tt
returned_none (Err e) whole none = lacking whole none e

-- ---- values by their letter

module _ (bytes : List ℕ) where
  pub value_unread : (depth : ℕ) → byte bytes ≡ None → value depth bytes ≡ None
  unfolding value
  value_unread zero none = rw none refl
  value_unread (suc depth) none = rw none refl

  module _ (r : List ℕ) where
    pub value_flat : (depth letter : ℕ) → depth ≡ 0 → (letter ≡ 91) ⊎ (letter ≡ 123) → byte bytes ≡ Some (letter, r) → value depth bytes ≡ None
    unfolding value
    value_flat depth letter flat (inl is) first = rw (flat, first, is) refl
    value_flat depth letter flat (inr is) first = rw (flat, first, is) refl

    pub value_list : (depth : ℕ) → 0 < depth → byte bytes ≡ Some (91, r) → value depth bytes ≡ parse_map (λ ds. array (items_of ds)) (counted (value (depth - 1)) r)
    unfolding value
    value_list zero some first = absurd (omega (arith, some))
    value_list (suc depth) some first =
        let before : depth ≡ suc depth - 1 = omega arith in
        rw first (ap (λ n. parse_map (λ ds. array (items_of ds)) (counted (value n) r)) before)

    pub value_dict : (depth : ℕ) → 0 < depth → byte bytes ≡ Some (123, r) → value depth bytes ≡ parse_map object (dict (value (depth - 1)) r)
    unfolding value
    value_dict zero some first = absurd (omega (arith, some))
    value_dict (suc depth) some first =
        let before : depth ≡ suc depth - 1 = omega arith in
        rw first (ap (λ n. parse_map object (dict (value n) r)) before)

    pub value_plain : (depth letter : ℕ) → (letter == 91) ≡ false → (letter == 123) ≡ false → byte bytes ≡ Some (letter, r) → value depth bytes ≡ plain letter r
    unfolding value
    value_plain zero letter a b first = rw (first, a, b) refl
    value_plain (suc depth) letter a b first = rw (first, a, b) refl

-- ---- members

module _ (p : Parse Data) (old : Members) where
  pub member_read : (n : ℕ) (k bytes s r : List ℕ) (d : Data) → 0 < n → key bytes ≡ Some (Some k, s) → p s ≡ Some (d, r) → members p n old bytes ≡ members p (n - 1) (put k d old) r
  unfolding members
  member_read zero k bytes s r d some named next = absurd (omega (arith, some))
  member_read (suc n) k bytes s r d some named next =
      let before : n ≡ suc n - 1 = omega arith in
      rw (named, next) (ap (λ m. members p m (put k d old) r) before)

  pub member_refused : (n : ℕ) (k bytes s : List ℕ) → key bytes ≡ Some (Some k, s) → p s ≡ None → members p n old bytes ≡ None
  unfolding members
  member_refused zero k bytes s named next = refl
  member_refused (suc n) k bytes s named next = rw (named, next) refl

  pub key_refused : (n : ℕ) (bytes : List ℕ) → key bytes ≡ None → members p n old bytes ≡ None
  unfolding members
  key_refused zero bytes none = refl
  key_refused (suc n) bytes none = rw none refl

  pub members_over : (n : ℕ) (bytes r : List ℕ) → 0 < n → key bytes ≡ Some (None, r) → members p n old bytes ≡ Some (old, r)
  unfolding members
  members_over zero bytes r some over = absurd (omega (arith, some))
  members_over (suc n) bytes r some over = rw over refl
