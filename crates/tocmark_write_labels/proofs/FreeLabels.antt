-- The reserved label is the first numbered label that isn't used.
use Rattle.std.proofs.Common.{◌≡◌, ◌∙◌, sym, ap, refl, ℕ, zero, suc, ◌+◌, ◌<◌, ◌≤◌, ◌^◌, Bool, true, false, ◌||◌, List, [], ◌∷◌, All, IsAscii, arith, inl, inr, bytes_eq, drop, encode_utf8_all, length, map}
use Rattle.std.specs.Prelude.{◌⊎◌, decimal}
use Rattle.std.specs.Char.{to_ascii_lowercase}
use Rattle.std.specs.List.{list_any, AllByRecursion, IsDistinct}
use Rattle.std.specs.Set.{is_member}
use Rattle.std.specs.Str.Parse.{AllDigits, digits_value}
use Rattle.std.proofs.lemmas.Bool.{false≢true}
use Rattle.std.proofs.lemmas.Bool.Decides.{eqb_tells}
use Rattle.std.proofs.lemmas.Cmp.{nat_list_eq_equiv}
use Rattle.std.proofs.lemmas.Fmt.{decimal_is_IsNumeral_wide}
use Rattle.std.proofs.lemmas.Map.Made.{length-le_from_is_member}
use Rattle.std.proofs.lemmas.Slice.Eq.{bytes_eq-Decides}
use Rattle.std.proofs.lemmas.Str.{chars-IsAscii, encodes-IsAscii}
use Rattle.std.proofs.lemmas.Str.Ascii.{lowercase_is}
use Rattle.std.proofs.lemmas.Str.Parse.{digit_from_value}
use Rattle.caseless.specs.Caseless.{default_case_fold}
use Rattle.caseless.proofs.CaselessLemmas.{default_case_fold-ascii}
use Rattle.tocmark_event.specs.View.{SourcedEvent}
use Rattle.tocmark_spelling.specs.Plan.{Setting}
use Rattle.tocmark_write_labels.specs.Document.{DocumentView, folded, is_among}
use Rattle.tocmark_write_labels.specs.Reserved.{free_label, numbered_label, reserved_label, used_labels}

-- ---- a numbered label is as it is compared

-- ASCII without capitals
IsSmall : List ℕ → Type 0
IsSmall cs = AllByRecursion (λ c. (c < 128) × (to_ascii_lowercase c ≡ c)) cs

small-digits : (ds : List ℕ) → AllDigits 10 ds → IsSmall ds
unfolding IsSmall
small-digits [] d = tt
small-digits (c ∷ cs) d =
    let range = digit_from_value c d.0 in
    ((omega (arith, range), (lowercase_is c).1 (omega (arith, range))), small-digits cs d.1)

small-label : (n : ℕ) → n < 10 ^ 64 → IsSmall (numbered_label n)
unfolding IsSmall
small-label n h =
    ((omega arith, refl), ((omega arith, refl), ((omega arith, refl), ((omega arith, refl), ((omega arith, refl), ((omega arith, refl), ((omega arith, refl), ((omega arith, refl), ((omega arith, refl), ((omega arith, refl), ((omega arith, refl), ((omega arith, refl), small-digits (decimal n) (decimal_is_IsNumeral_wide n h).0.1))))))))))))

small-ascii : (cs : List ℕ) → IsSmall cs → IsAscii cs
unfolding IsSmall
small-ascii [] s i = omega arith
small-ascii (c ∷ cs) s zero = s.0.0
small-ascii (c ∷ cs) s (suc i) = small-ascii cs s.1 i

small-all : (cs : List ℕ) → IsSmall cs → All (λ c. c < 128) cs
unfolding IsSmall
small-all [] s i d lt = absurd (omega (arith, lt))
small-all (c ∷ cs) s zero d lt = s.0.0
small-all (c ∷ cs) s (suc i) d lt = small-all cs s.1 i d (omega (arith, lt))

small-lower : (cs : List ℕ) → IsSmall cs → map to_ascii_lowercase cs ≡ cs
unfolding IsSmall
small-lower [] s = refl
small-lower (c ∷ cs) s = λ j. s.0.1 j ∷ small-lower cs s.1 j

small-folded : (cs : List ℕ) → IsSmall cs → folded cs ≡ cs
small-folded cs s =
    ap (λ x. encode_utf8_all (default_case_fold x)) (chars-IsAscii cs (small-ascii cs s))
    ∙ ap encode_utf8_all (default_case_fold-ascii cs (small-all cs s) ∙ small-lower cs s)
    ∙ encodes-IsAscii cs (small-ascii cs s)

-- ---- numbered labels are pairwise different

label-number : (m n : ℕ) → m < 10 ^ 64 → n < 10 ^ 64 → numbered_label m ≡ numbered_label n → m ≡ n
label-number m n p q e =
    sym (decimal_is_IsNumeral_wide m p).1 ∙ ap (λ l. digits_value 10 (drop 12 l)) e ∙ (decimal_is_IsNumeral_wide n q).1

labels-differ : (m n : ℕ) → m < 10 ^ 64 → n < 10 ^ 64 → m < n → bytes_eq (numbered_label m) (numbered_label n) ≡ false
labels-differ m n p q lt = by (bytes_eq (numbered_label m) (numbered_label n)) refl
  where
    by : (b : Bool) → bytes_eq (numbered_label m) (numbered_label n) ≡ b → b ≡ false
    by true e = absurd (omega (arith, lt, label-number m n p q ((bytes_eq-Decides (numbered_label m) (numbered_label n)).0 e)))
    by false e = refl

-- so many numbered labels, from a number on
labels_from : ℕ → ℕ → List (List ℕ)
labels_from zero n = []
labels_from (suc k) n = numbered_label n ∷ labels_from k (suc n)

labels-count : (k n : ℕ) → length (labels_from k n) ≡ k
unfolding labels_from
labels-count zero n = refl
labels-count (suc k) n = ap suc (labels-count k (suc n))

labels-apart : (m k n : ℕ) → m < n → n + k ≤ 10 ^ 64 → AllByRecursion (λ y. bytes_eq (numbered_label m) y ≡ false) (labels_from k n)
unfolding labels_from
labels-apart m zero n lt low = tt
labels-apart m (suc k) n lt low =
    (labels-differ m n (omega (arith, lt, low)) (omega (arith, low)) lt, labels-apart m k (suc n) (omega (arith, lt)) (omega (arith, low)))

labels-distinct : (k n : ℕ) → n + k ≤ 10 ^ 64 → IsDistinct bytes_eq (labels_from k n)
unfolding labels_from IsDistinct
labels-distinct zero n low = tt
labels-distinct (suc k) n low = (labels-apart n k (suc n) (omega arith) (omega (arith, low)), labels-distinct k (suc n) (omega (arith, low)))

-- ---- not all of them are used

among-member : (used : List (List ℕ)) (f : List ℕ) → list_any (λ l. bytes_eq l f) used ≡ is_member bytes_eq used f
among-member [] f = refl
among-member (u ∷ us) f =
    ap (λ b. b || list_any (λ l. bytes_eq l f) us) (nat_list_eq_equiv.symm u f) ∙ ap (λ b. bytes_eq f u || b) (among-member us f)

used-member : (used : List (List ℕ)) (n : ℕ) → n < 10 ^ 64 → is_among used (numbered_label n) ≡ is_member bytes_eq used (numbered_label n)
used-member used n h = among-member used (folded (numbered_label n)) ∙ ap (is_member bytes_eq used) (small-folded (numbered_label n) (small-label n h))

-- from a number on, up to one before which so many are, all are used
AllUsed : List (List ℕ) → ℕ → ℕ → Type 0
AllUsed used n k = (m : ℕ) → n ≤ m → m < n + k → is_among used (numbered_label m) ≡ true

all-members : (used : List (List ℕ)) (k n : ℕ) → n + k ≤ 10 ^ 64 → AllUsed used n k → (q : List ℕ) → is_member bytes_eq (labels_from k n) q ≡ true → is_member bytes_eq used q ≡ true
unfolding labels_from AllUsed
all-members used zero n low all q h = absurd (false≢true h)
all-members used (suc k) n low all q h =
    by (all-members used k (suc n) (omega (arith, low)) (λ m from to. all m (omega (arith, from)) (omega (arith, to))) q) (bytes_eq q (numbered_label n)) refl h
  where
    by : (is_member bytes_eq (labels_from k (suc n)) q ≡ true → is_member bytes_eq used q ≡ true) → (b : Bool) → bytes_eq q (numbered_label n) ≡ b → (b || is_member bytes_eq (labels_from k (suc n)) q) ≡ true → is_member bytes_eq used q ≡ true
    by rest true e there =
        ap (is_member bytes_eq used) ((bytes_eq-Decides q (numbered_label n)).0 e) ∙ sym (used-member used n (omega (arith, low))) ∙ all n (omega arith) (omega arith)
    by rest false e there = rest there

-- more than are used can't all be used
not-all-used : (used : List (List ℕ)) → length used < 2 ^ 64 → AllUsed used 1 (length used + 1) → ⊥
not-all-used used small all =
    let few = length-le_from_is_member nat_list_eq_equiv (labels_from (length used + 1) 1) used
    (labels-distinct (length used + 1) 1 (omega (arith, small)))
    (all-members used (length used + 1) 1 (omega (arith, small)) all) in
    omega (arith, few, labels-count (length used + 1) 1)

-- ---- the search

-- one more is used in front of those that are
all-more : (used : List (List ℕ)) (n k : ℕ) → is_among used (numbered_label n) ≡ true → AllUsed used (suc n) k → AllUsed used n (suc k)
unfolding AllUsed
all-more used n k e rest m from to = elim (eqb_tells m n) [
  | inl t ↦ ap (λ x. is_among used (numbered_label x)) t.1 ∙ e
  | inr f ↦ rest m (omega (arith, from, f.1)) (omega (arith, to))
]

record Found (used : List (List ℕ)) (tries n : ℕ) : Type 0 where
  passed : ℕ
  within : passed ≤ tries
  label : free_label tries n used ≡ numbered_label (n + passed)
  all : AllUsed used n passed
  free : (passed ≡ tries) ⊎ (is_among used (numbered_label (n + passed)) ≡ false)

search-finds : (used : List (List ℕ)) (tries n : ℕ) → Found used tries n
unfolding AllUsed
search-finds used zero n = record { passed = 0; within = omega arith; label = ap numbered_label (omega arith); all = λ m from to. absurd (omega (arith, from, to)); free = inl refl }
search-finds used (suc tries) n = by (search-finds used tries (suc n)) (is_among used (numbered_label n)) refl
  where
    search : Bool → List ℕ
    search b = elim b as (λ _. List ℕ) [ true ↦ free_label tries (suc n) used | false ↦ numbered_label n ]

    by : Found used tries (suc n) → (b : Bool) → is_among used (numbered_label n) ≡ b → Found used (suc tries) n
    by more false e = record {
      passed = 0;
      within = omega arith;
      label = ap search e ∙ ap numbered_label (omega arith);
      all = λ m from to. absurd (omega (arith, from, to));
      free = inr (ap (λ k. is_among used (numbered_label k)) (omega arith) ∙ e);
    }
    by more true e =
        let next : suc n + more.passed ≡ n + suc more.passed = omega arith in
        record {
          passed = suc more.passed;
          within = omega (arith, more.within);
          label = ap search e ∙ more.label ∙ ap numbered_label next;
          all = all-more used n more.passed e more.all;
          free = elim more.free [ inl t ↦ inl (ap suc t) | inr f ↦ inr (ap (λ k. is_among used (numbered_label k)) (sym next) ∙ f) ];
        }

-- ---- the reserved label

pub reserved-least : (s : Setting) (d : DocumentView) (pending : List SourcedEvent) → (n : ℕ) × (1 ≤ n) × (reserved_label s d pending ≡ numbered_label n) × ((m : ℕ) → 1 ≤ m → m < n → is_among (used_labels s d pending) (numbered_label m) ≡ true)
unfolding reserved_label AllUsed
reserved-least s d pending =
    let found = search-finds (used_labels s d pending) (length (used_labels s d pending)) 1 in
    (1 + found.passed, omega arith, found.label, found.all)

pub reserved-free : (s : Setting) (d : DocumentView) (pending : List SourcedEvent) → length (used_labels s d pending) < 2 ^ 64 → is_among (used_labels s d pending) (reserved_label s d pending) ≡ false
unfolding reserved_label AllUsed
reserved-free s d pending small = ap (is_among used) found.label ∙ elim found.free [ inl t ↦ last (is_among used (numbered_label (1 + found.passed))) t refl | inr f ↦ f ]
  where
    used : List (List ℕ)
    used = used_labels s d pending

    found : Found used (length used) 1
    found = search-finds used (length used) 1

    last : (b : Bool) → found.passed ≡ length used → is_among used (numbered_label (1 + found.passed)) ≡ b → b ≡ false
    last true t e = absurd (not-all-used used small (λ m from to. elim (eqb_tells m (1 + found.passed)) [
      | inl s ↦ ap (λ x. is_among used (numbered_label x)) s.1 ∙ e
      | inr f ↦ found.all m from (omega (arith, to, t, f.1))
    ]))
    last false t e = refl
