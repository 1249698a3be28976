-- Texts that replace others, one by one.
use Rattle.std.proofs.Common.{◌≡◌, true≢false, Option, None, Some, false, sym, ◌∙◌, ap, ap₂, ℕ, ◌<◌, ◌≤◌, ◌+◌, List, [], ◌∷◌, ◌++◌, length, take, drop, map, get_or, slice_set, String, string_bytes}
use mathlib.Core.List.{map-map}
use Rattle.std.specs.Borrow.{Bor}
use Rattle.std.specs.Global.{Global}
use Rattle.std.proofs.lemmas.List.{drop_more, take_more, map-append, map-set, set_past, length-map}
use Rattle.std.specs.Prelude.{IfNone, is_some}
use Rattle.tocmark_reader.specs.Definitions.{SaidDefinition, said_view}
use Rattle.tocmark_reader.specs.declared.definitions.ReferenceDefinition.{ReferenceDefinition}
use Rattle.tocmark_redefine.specs.Redefined.{replaced}

-- what references point to
abbrev pub texts : List (Bor (List ℕ)) → List (List ℕ)
texts all = map (λ d. d.now) all

-- one more text of two lists
pub same_more : (some others : List (Bor (List ℕ))) (i : ℕ) (d : Bor (List ℕ)) → i < length some → i < length others → (get_or some i d).now ≡ (get_or others i d).now → texts (take i some) ≡ texts (take i others) → texts (take (i + 1) some) ≡ texts (take (i + 1) others)
same_more some others i d a b e h =
    ap texts (take_more some i d a)
    ∙ map-append (λ x. x.now) (take i some) (get_or some i d ∷ [])
    ∙ ap₂ (λ xs x. xs ++ x ∷ []) h e
    ∙ sym (map-append (λ x. x.now) (take i others) (get_or others i d ∷ []))
    ∙ sym (ap texts (take_more others i d b))

-- one more change
module _ (changes : List (ℕ × String Global)) (i : ℕ) (c : ℕ × String Global) (all : List (Bor (List ℕ))) (whole : List (List ℕ)) (a : i < length changes) (is : c ≡ get_or changes i c) (h : replaced (drop i changes) (texts all) ≡ whole) where
  changed : replaced (drop (i + 1) changes) (slice_set (texts all) c.0 (string_bytes c.1)) ≡ whole
  changed =
      let one : drop i changes ≡ c ∷ drop (i + 1) changes = drop_more changes i c a ∙ ap (λ y. y ∷ drop (i + 1) changes) (sym is) in
      sym (ap (λ cs. replaced cs (texts all)) one) ∙ h

  pub one_put : (new : List (Bor (List ℕ))) (x : Bor (List ℕ)) → new ≡ slice_set all c.0 x → x.now ≡ string_bytes c.1 → replaced (drop (i + 1) changes) (texts new) ≡ whole
  one_put new x n e =
      ap (λ ds. replaced (drop (i + 1) changes) ds) (ap texts n ∙ map-set (λ d. d.now) all c.0 x ∙ ap (slice_set (texts all) c.0) e) ∙ changed

  pub one_past : length all ≤ c.0 → replaced (drop (i + 1) changes) (texts all) ≡ whole
  one_past l =
      ap (λ ds. replaced (drop (i + 1) changes) ds) (sym (set_past (texts all) c.0 (string_bytes c.1) (rw length-map l))) ∙ changed

-- a part of definitions, as it is lent
pub lent_part : (part : SaidDefinition → List ℕ) (definitions : List ReferenceDefinition) (all shown : List (Bor (List ℕ))) → shown ≡ all → texts all ≡ map (λ d. part (said_view d)) definitions → map part (map said_view definitions) ≡ texts shown
lent_part part definitions all shown same e = map-map part said_view definitions ∙ sym e ∙ ap texts (sym same)

-- what is none after a test
pub none_of : {A : Type 0} (P : Type 0) (o : Option A) → is_some o ≡ false → IfNone o P → P
none_of P None e h = h
none_of P (Some x) e h = absurd (true≢false e)

pub if_none : {A : Type 0} (P Q : Type 0) (o : Option A) → (P → Q) → IfNone o P → IfNone o Q
if_none P Q None f h = f h
if_none P Q (Some x) f h = h
