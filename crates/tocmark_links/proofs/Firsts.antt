-- The first anchor of each name, and the headings that links lead to by it.
use Rattle.std.proofs.Common.{◌≡◌, ◌≢◌, refl, sym, ◌∙◌, ap, ap₂, ℕ, suc, ◌<◌, ◌+◌, ◌==◌, Bool, true, false, cond, List, [], ◌∷◌, ◌++◌, length, drop, true≢false, get_or, arith, Option, None, Some, unwrap_or, is_some, String, string_bytes, bytes_eq, inl, inr, if◌then◌else◌}
use Rattle.std.specs.Global.{Global}
use Rattle.std.specs.HashMap.{HashMap, get_by_text}
use Rattle.std.specs.Map.{update}
use Rattle.std.specs.Option.{option_map_or, option_or}
use Rattle.std.specs.StrCase.Lower.{str_to_lowercase}
use Rattle.std.proofs.lemmas.Bool.Decides.{eqb_tells}
use Rattle.std.proofs.lemmas.List.{drop_more}
use Rattle.std.proofs.lemmas.Slice.Eq.{bytes_eq-Decides}
use Rattle.tocmark_links.specs.Destinations.{anchor_of, decoded, rest_after}
use Rattle.tocmark_links.specs.Headings.{first_from, heading_to, number_after, place_of, KeepsHeading}
use Rattle.tocmark_links.specs.Leading.{led_to, new_or}
use Rattle.tocmark_links.specs.Naming.{kind_at}
use Rattle.tocmark_links.specs.declared.anchors.Anchor.{Anchor}
use Rattle.tocmark_links.specs.declared.headings.Renaming.{Renaming}
use Rattle.tocmark_links.specs.declared.tree.Tree.{Tree}

-- ---- what is after a mark

same-byte : (a : ℕ) → (a == a) ≡ true
same-byte a = elim (eqb_tells a a) [
  | inl t ↦ t.0
  | inr f ↦ absurd (f.1 refl)
]

pub after-stops : (mark : ℕ) (front rest : List ℕ) → ((i : ℕ) → i < length front → get_or front i 0 ≢ mark) → rest_after mark (front ++ (mark ∷ rest)) ≡ rest
after-stops mark [] rest h = ap (λ b. if b then rest else rest_after mark rest) (same-byte mark)
after-stops mark (b ∷ front) rest h = elim (eqb_tells b mark) [
  | inl t ↦ absurd (h 0 (omega arith) t.1)
  | inr f ↦
      ap (λ s. if s then front ++ (mark ∷ rest) else rest_after mark (front ++ (mark ∷ rest))) f.0
      ∙ after-stops mark front rest (λ i within. h (suc i) (omega (arith, within)))
]

pub after-all : (mark : ℕ) (bytes : List ℕ) → ((i : ℕ) → i < length bytes → get_or bytes i 0 ≢ mark) → rest_after mark bytes ≡ []
after-all mark [] h = refl
after-all mark (b ∷ bytes) h = elim (eqb_tells b mark) [
  | inl t ↦ absurd (h 0 (omega arith) t.1)
  | inr f ↦
      ap (λ s. if s then bytes else rest_after mark bytes) f.0
      ∙ after-all mark bytes (λ i within. h (suc i) (omega (arith, within)))
]

-- ---- the first of each name

or-assoc : {A : Type 0} (a b c : Option A) → option_or (option_or a b) c ≡ option_or a (option_or b c)
or-assoc None b c = refl
or-assoc (Some x) b c = refl

same-text : (name q : List ℕ) → bytes_eq name q ≡ true → name ≡ q
same-text name q e = (bytes_eq-Decides name q).0 e

module _ {Y S : Type 0} (name : List ℕ) (place : Option ℕ) where
  pub first-new : (m n : HashMap (String Y) (Option ℕ) S) → is_some (get_by_text m name) ≡ false → ((q : List ℕ) → get_by_text n q ≡ update bytes_eq (get_by_text m) name (Some place) q) → (q : List ℕ) → get_by_text n q ≡ option_or (get_by_text m q) (if bytes_eq name q then Some place else None)
  first-new m n free new q = new q ∙ by (bytes_eq name q) refl (get_by_text m q) refl
    where
      by : (b : Bool) → bytes_eq name q ≡ b → (o : Option (Option ℕ)) → get_by_text m q ≡ o → cond b (Some place) o ≡ option_or o (if b then Some place else None)
      by false e None h = refl
      by false e (Some x) h = refl
      by true e None h = refl
      by true e (Some x) h =
          absurd (true≢false (sym (ap is_some h) ∙ sym (ap (λ k. is_some (get_by_text m k)) (same-text name q e)) ∙ free))

  pub first-kept : (m : HashMap (String Y) (Option ℕ) S) → is_some (get_by_text m name) ≡ true → (q : List ℕ) → get_by_text m q ≡ option_or (get_by_text m q) (if bytes_eq name q then Some place else None)
  first-kept m there q = by (bytes_eq name q) refl (get_by_text m q) refl
    where
      by : (b : Bool) → bytes_eq name q ≡ b → (o : Option (Option ℕ)) → get_by_text m q ≡ o → o ≡ option_or o (if b then Some place else None)
      by false e None h = refl
      by false e (Some x) h = refl
      by true e (Some x) h = refl
      by true e None h =
          absurd (true≢false (sym there ∙ ap (λ k. is_some (get_by_text m k)) (same-text name q e) ∙ ap is_some h))

-- one more anchor
pub first-more : (old new : List ℕ → Option (Option ℕ)) (anchors : List Anchor) (i : ℕ) (a : Anchor) (n m : ℕ) (q : List ℕ) → i < length anchors → a ≡ get_or anchors i a → new q ≡ option_or (old q) (if bytes_eq (string_bytes a.name) q then Some (place_of a.kind n) else None) → m ≡ number_after a.kind n → option_or (old q) (first_from n (drop i anchors) q) ≡ first_from 0 anchors q → option_or (new q) (first_from m (drop (i + 1) anchors) q) ≡ first_from 0 anchors q
first-more old new anchors i a n m q within is one count h =
    let rest : List Anchor = drop (i + 1) anchors in
    let this : Option (Option ℕ) = if bytes_eq (string_bytes a.name) q then Some (place_of a.kind n) else None in
    let front : drop i anchors ≡ a ∷ rest = drop_more anchors i a within ∙ ap (λ x. x ∷ rest) (sym is) in
    ap (λ o. option_or o (first_from m rest q)) one
    ∙ or-assoc (old q) this (first_from m rest q)
    ∙ ap (λ k. option_or (old q) (option_or this (first_from k rest q))) count
    ∙ sym (ap (λ xs. option_or (old q) (first_from n xs q)) front)
    ∙ h

-- ---- the heading of a link

same-heading : (tree : Tree) (file name : List ℕ) (find other : List ℕ → Option (Option ℕ)) (from destination : List ℕ) → file ≡ name → ((q : List ℕ) → find q ≡ other q) → heading_to tree file find from destination ≡ heading_to tree name other from destination
same-heading tree file name find other from destination same h =
    let anchor : List ℕ = decoded (anchor_of destination) in
    ap (λ f. heading_to tree f find from destination) same
    ∙ ap₂ (λ x y. if option_map_or (λ path. bytes_eq path name) (led_to tree.is_book (kind_at tree) from destination) false then (if length anchor == 0 then None else unwrap_or (option_or x y) None) else None) (h anchor) (h (str_to_lowercase anchor))

none-some : (x : ℕ) → None ≡ Some x → ⊥
none-some x e = cc

module _ (tree : Tree) (renaming : Renaming) (from destination : List ℕ) (new : Option (String Global)) where
  -- a link that leads to no heading
  pub leads-nowhere : None ≡ heading_to tree (string_bytes renaming.file) (get_by_text renaming.old) from destination → KeepsHeading tree renaming from destination new
  leads-nowhere none = λ file before after number is led.
      absurd (none-some number (none ∙ same-heading tree (string_bytes renaming.file) file (get_by_text renaming.old) (first_from 0 before) from destination is.is_file is.finds_old ∙ led))

  -- a link that leads to a heading before and after
  pub leads-there : (found : ℕ) → Some found ≡ heading_to tree (string_bytes renaming.file) (get_by_text renaming.old) from destination → heading_to tree (string_bytes renaming.file) (get_by_text renaming.new) from (new_or new destination) ≡ Some found → KeepsHeading tree renaming from destination new
  leads-there found some there = λ file before after number is led.
      sym (same-heading tree (string_bytes renaming.file) file (get_by_text renaming.new) (first_from 0 after) from (new_or new destination) is.is_file is.finds_new)
      ∙ there
      ∙ some
      ∙ same-heading tree (string_bytes renaming.file) file (get_by_text renaming.old) (first_from 0 before) from destination is.is_file is.finds_old
      ∙ led
