-- Headings get their anchors one after the other.
use Rattle.std.proofs.Common.{◌≡◌, refl, sym, ◌∙◌, ap, subst, ℕ, zero, suc, ◌<◌, ◌≤◌, ◌+◌, ◌==◌, Bool, true, false, ◌||◌, cond, List, [], ◌∷◌, ◌++◌, length, take, map, slice_index_or, slice_set, Option, Some, None, unwrap_or, String, string_bytes, arith, inl, inr, bytes_eq, is_some, if◌then◌else◌, take_all}
use Rattle.std.specs.HashMap.{HashMap, get_by_text}
use Rattle.std.specs.Map.{update, lookup}
use Rattle.std.proofs.lemmas.Bool.{cases_lt}
use Rattle.std.proofs.lemmas.Bool.Decides.{eqb_tells}
use Rattle.std.proofs.lemmas.Cmp.{nat_list_eq_equiv}
use Rattle.std.proofs.lemmas.Slice.Eq.{bytes_eq-Decides}
use Rattle.tocmark_links.specs.Anchors.{numbered, is_taken, reserved, IsFirstFree, HasItsName, names_after, AreNumbered, unnumbered}
use Rattle.tocmark_links.specs.Numbering.{Counts, IsFirstFrom, IsGivenBy}
use Rattle.tocmark_links.specs.Slug.{slug_of}
use Rattle.tocmark_links.specs.declared.anchors.Anchor.{Anchor}
use Rattle.tocmark_links.specs.declared.slug.Slugs.{Slugs}

-- ---- numbers one after the other

pub one-more : (P : ℕ → Bool) (from number : ℕ) → ((n : ℕ) → from ≤ n → n < number → P n ≡ true) → P number ≡ true → (n : ℕ) → from ≤ n → n < number + 1 → P n ≡ true
one-more P from number h last n low high = elim (eqb_tells n number) [
  | inl t ↦ ap P t.1 ∙ last
  | inr f ↦ h n low (omega (arith, high, f.1))
]

-- ---- names that are taken

same-text : (a b : List ℕ) → bytes_eq a b ≡ true → a ≡ b
same-text a b e = (bytes_eq-Decides a b).0 e

itself : (a : List ℕ) → bytes_eq a a ≡ true
itself a = nat_list_eq_equiv.refl a

turned : (a b : List ℕ) → bytes_eq a b ≡ bytes_eq b a
turned a b = nat_list_eq_equiv.symm a b

still : (names : List (List ℕ)) (name q : List ℕ) → is_taken names q ≡ true → is_taken (name ∷ names) q ≡ true
still names name q h = by (bytes_eq q name) (is_taken names q) h
  where
    by : (a b : Bool) → b ≡ true → (a || b) ≡ true
    by true b h = refl
    by false b h = h

newest : (names : List (List ℕ)) (name : List ℕ) → is_taken (name ∷ names) name ≡ true
newest names name = ap (λ b. b || is_taken names name) (itself name)

-- ---- one more key of the map

module _ {Y S : Type 0} (slugs : Slugs) where
  put : (names ns : List (List ℕ)) (key : List ℕ) (value : ℕ) (m n : HashMap (String Y) ℕ S) → ((q : List ℕ) → get_by_text n q ≡ update bytes_eq (get_by_text m) key (Some value) q) → ((q : List ℕ) → is_taken names q ≡ true → is_taken ns q ≡ true) → ((q : List ℕ) → is_taken ns q ≡ (bytes_eq key q || is_taken names q)) → ((i : ℕ) → i ≤ value → is_taken ns (numbered slugs key i) ≡ true) → Counts slugs names m → Counts slugs ns n
  put names ns key value m n new grows just up h = record {
    same = λ q. same-at q (bytes_eq key q) refl;
    tried = λ q last i there low. tried-at q last i (bytes_eq key q) refl (sym (new q) ∙ there) low;
  }
    where
      same-at : (q : List ℕ) (b : Bool) → bytes_eq key q ≡ b → is_some (get_by_text n q) ≡ is_taken ns q
      same-at q true e = ap is_some (new q ∙ ap (λ b. cond b (Some value) (get_by_text m q)) e) ∙ sym (just q ∙ ap (λ b. b || is_taken names q) e)
      same-at q false e = ap is_some (new q ∙ ap (λ b. cond b (Some value) (get_by_text m q)) e) ∙ h.same q ∙ sym (just q ∙ ap (λ b. b || is_taken names q) e)

      tried-at : (q : List ℕ) (last i : ℕ) (b : Bool) → bytes_eq key q ≡ b → update bytes_eq (get_by_text m) key (Some value) q ≡ Some last → i ≤ last → is_taken ns (numbered slugs q i) ≡ true
      tried-at q last i true e there low =
          let is : value ≡ last = ap (λ o. unwrap_or o 0) (sym (ap (λ b. cond b (Some value) (get_by_text m q)) e) ∙ there) in
          subst (λ k. is_taken ns (numbered slugs k i) ≡ true) (same-text key q e) (up i (omega (arith, low, is)))
      tried-at q last i false e there low =
          grows (numbered slugs q i) (h.tried q last i (sym (ap (λ b. cond b (Some value) (get_by_text m q)) e) ∙ there) low)

  pub put-new : (names : List (List ℕ)) (name : List ℕ) (m n : HashMap (String Y) ℕ S) → ((q : List ℕ) → get_by_text n q ≡ update bytes_eq (get_by_text m) name (Some 0) q) → Counts slugs names m → Counts slugs (name ∷ names) n
  put-new names name m n new h =
      put names (name ∷ names) name 0 m n new (λ q. still names name q) (λ q. ap (λ b. b || is_taken names q) (turned q name)) itself-only h
    where
      itself-only : (i : ℕ) → i ≤ 0 → is_taken (name ∷ names) (numbered slugs name i) ≡ true
      itself-only zero low = newest names name
      itself-only (suc i) low = absurd (omega (arith, low))

  pub put-number : (names : List (List ℕ)) (base : List ℕ) (number : ℕ) (m n : HashMap (String Y) ℕ S) → ((q : List ℕ) → get_by_text n q ≡ update bytes_eq (get_by_text m) base (Some number) q) → ((i : ℕ) → i ≤ number → is_taken names (numbered slugs base i) ≡ true) → Counts slugs names m → Counts slugs names n
  put-number names base number m n new up h =
      put names names base number m n new (λ q e. e) (λ q. just q (bytes_eq base q) refl) up h
    where
      just : (q : List ℕ) (b : Bool) → bytes_eq base q ≡ b → is_taken names q ≡ (bytes_eq base q || is_taken names q)
      just q true e = ap (is_taken names) (sym (same-text base q e)) ∙ up 0 (omega arith) ∙ sym (ap (λ b. b || is_taken names q) e)
      just q false e = sym (ap (λ b. b || is_taken names q) e)

  -- a name that was taken before
  pub taken-again : (names : List (List ℕ)) (name : List ℕ) (m : HashMap (String Y) ℕ S) → is_some (get_by_text m name) ≡ true → Counts slugs names m → Counts slugs (name ∷ names) m
  taken-again names name m there h = record {
    same = λ q. h.same q ∙ again q (bytes_eq q name) refl;
    tried = λ q last i is low. still names name (numbered slugs q i) (h.tried q last i is low);
  }
    where
      again : (q : List ℕ) (b : Bool) → bytes_eq q name ≡ b → is_taken names q ≡ is_taken (name ∷ names) q
      again q true e = ap (is_taken names) (same-text q name e) ∙ sym (h.same name) ∙ there ∙ sym (ap (λ b. b || is_taken names q) e)
      again q false e = sym (ap (λ b. b || is_taken names q) e)

  -- the next heading
  pub next-is : (names : List (List ℕ)) (base name : List ℕ) (from number : ℕ) (m between n : HashMap (String Y) ℕ S) → from ≡ unwrap_or (get_by_text m base) 0 → IsFirstFrom slugs m base from number name → ((q : List ℕ) → get_by_text between q ≡ update bytes_eq (get_by_text m) name (Some 0) q) → ((q : List ℕ) → get_by_text n q ≡ update bytes_eq (get_by_text between) base (Some number) q) → Counts slugs names m → IsFirstFree slugs names base name × Counts slugs (name ∷ names) n
  next-is names base name from number m between n begins found one two h = (
    record { number = number; has_number = found.has_number; is_free = sym (h.same name) ∙ found.is_free; is_first = below },
    put-number (name ∷ names) base number between n two up (put-new names name m between one h),
  )
    where
      before : (o : Option ℕ) → get_by_text m base ≡ o → (i : ℕ) → i < unwrap_or o 0 → is_taken names (numbered slugs base i) ≡ true
      before None e i low = absurd (omega (arith, low))
      before (Some last) e i low = h.tried base last i e (omega (arith, low))

      below : (i : ℕ) → i < number → is_taken names (numbered slugs base i) ≡ true
      below i low = elim (cases_lt i from) [
        | inl t ↦ before (get_by_text m base) refl i (omega (arith, t, begins))
        | inr f ↦ sym (h.same (numbered slugs base i)) ∙ found.is_first i f low
      ]

      up : (i : ℕ) → i ≤ number → is_taken (name ∷ names) (numbered slugs base i) ≡ true
      up i low = elim (eqb_tells i number) [
        | inl t ↦ ap (λ k. is_taken (name ∷ names) (numbered slugs base k)) t.1 ∙ ap (is_taken (name ∷ names)) (sym found.has_number) ∙ newest names name
        | inr f ↦ still names name (numbered slugs base i) (below i (omega (arith, low, f.1)))
      ]

-- ---- all anchors of a page

-- the names that are taken after some anchors
abbrev pub names-of : List (List ℕ) → List Anchor → List (List ℕ)
names-of names [] = names
names-of names (a ∷ rest) = names-of (names_after names a.kind (string_bytes a.name)) rest

pub numbered-more : (slugs : Slugs) (names : List (List ℕ)) (xs : List Anchor) (i : ℕ) (new : Anchor) → i < length xs → AreNumbered slugs names (take i xs) → HasItsName slugs (names-of names (take i xs)) new.kind (string_bytes new.words) (string_bytes new.name) → AreNumbered slugs names (take (suc i) (slice_set xs i new))
numbered-more slugs names [] i new l h is = absurd (omega (arith, l))
numbered-more slugs names (x ∷ xs) zero new l h is = (is, tt)
numbered-more slugs names (x ∷ xs) (suc i) new l h is =
    (h.0, numbered-more slugs (names_after names x.kind (string_bytes x.name)) xs i new (omega (arith, l)) h.1 is)

pub names-more : (names : List (List ℕ)) (xs : List Anchor) (i : ℕ) (new : Anchor) → i < length xs → names-of names (take (suc i) (slice_set xs i new)) ≡ names_after (names-of names (take i xs)) new.kind (string_bytes new.name)
names-more names [] i new l = absurd (omega (arith, l))
names-more names (x ∷ xs) zero new l = refl
names-more names (x ∷ xs) (suc i) new l = names-more (names_after names x.kind (string_bytes x.name)) xs i new (omega (arith, l))

pub kept-more : {A B : Type 0} (f : A → B) (xs : List A) (i : ℕ) (d new : A) → i < length xs → f new ≡ f (slice_index_or xs i d) → map f (slice_set xs i new) ≡ map f xs
kept-more f [] i d new l e = absurd (omega (arith, l))
kept-more f (x ∷ xs) zero d new l e = ap (λ y. y ∷ map f xs) e
kept-more f (x ∷ xs) (suc i) d new l e = ap (λ ys. f x ∷ ys) (kept-more f xs i d new (omega (arith, l)) e)

module _ {Y S : Type 0} (slugs : Slugs) where
  pub nothing-taken : (m : HashMap (String Y) ℕ S) → m.entries ≡ [] → Counts slugs [] m
  nothing-taken m e = record {
    same = λ q. ap (λ es. is_some (lookup (λ k. bytes_eq q (string_bytes k)) es)) e;
    tried = λ q last i there low. absurd (none-there (sym (ap (λ es. lookup (λ k. bytes_eq q (string_bytes k)) es) e) ∙ there));
  }
    where
      none-there : {A : Type 0} {x : A} → None ≡ Some x → ⊥
      none-there e = cc

  -- the anchors so far have their names
  pub record Reached (before xs : List Anchor) (i : ℕ) (taken : HashMap (String Y) ℕ S) : Type 0 where
    pub numbered : AreNumbered slugs (reserved slugs) (take i xs)
    pub counts : Counts slugs (names-of (reserved slugs) (take i xs)) taken
    pub kept : map unnumbered xs ≡ map unnumbered before

  pub reached-more : (before xs : List Anchor) (i : ℕ) (d new : Anchor) (m n : HashMap (String Y) ℕ S) → i < length xs → IsGivenBy slugs m n new → unnumbered new ≡ unnumbered (slice_index_or xs i d) → Reached before xs i m → Reached before (slice_set xs i new) (suc i) n
  reached-more before xs i d new m n l given same h =
      let is = given (names-of (reserved slugs) (take i xs)) h.counts in
      record {
        numbered = numbered-more slugs (reserved slugs) xs i new l h.numbered is.0;
        counts = subst (λ names. Counts slugs names n) (sym (names-more (reserved slugs) xs i new l)) is.1;
        kept = kept-more unnumbered xs i d new l same ∙ h.kept;
      }

  pub reached-all : (before xs : List Anchor) (i : ℕ) (m : HashMap (String Y) ℕ S) → length xs ≤ i → Reached before xs i m → AreNumbered slugs (reserved slugs) xs
  reached-all before xs i m l h = subst (AreNumbered slugs (reserved slugs)) (take_all i xs l) h.numbered
