-- Where links lead, link by link.
use Rattle.std.proofs.Common.{◌≡◌, refl, sym, ◌∙◌, ap, ap₂, ℕ, ◌<◌, ◌≤◌, ◌+◌, min, Bool, true, false, List, [], ◌∷◌, ◌++◌, length, take, drop, map, get_or, slice_set, arith, String, string_bytes, append_assoc, append-nil, length-drop, if◌then◌else◌}
use Rattle.std.specs.Borrow.{Bor}
use Rattle.std.specs.Global.{Global}
use Rattle.std.proofs.lemmas.List.{drop_more, take_more, map-append, map-set, set_past, length-map}
use Rattle.tocmark_links.specs.Leads.{is_of_sort, of_sort, redirected}
use Rattle.tocmark_links.specs.declared.page.Link.{Link}

-- what references point to
abbrev pub texts : List (Bor (List ℕ)) → List (List ℕ)
texts all = map (λ d. d.now) all

-- one more text of two lists
pub same-more : (some others : List (Bor (List ℕ))) (i : ℕ) (d : Bor (List ℕ)) → i < length some → i < length others → (get_or some i d).now ≡ (get_or others i d).now → texts (take i some) ≡ texts (take i others) → texts (take (i + 1) some) ≡ texts (take (i + 1) others)
same-more some others i d a b e h =
    ap texts (take_more some i d a)
    ∙ map-append (λ x. x.now) (take i some) (get_or some i d ∷ [])
    ∙ ap₂ (λ xs x. xs ++ x ∷ []) h e
    ∙ sym (map-append (λ x. x.now) (take i others) (get_or others i d ∷ []))
    ∙ sym (ap texts (take_more others i d b))

-- the links from one on, and where they lead
module _ (s : Bool) (links : List Link) (all : List (Bor (List ℕ))) (i : ℕ) (l : Link) (d : Bor (List ℕ)) (made whole : List (List ℕ)) (a : i < length links) (b : i < length all) (is : l ≡ get_or links i l) (h : made ++ of_sort s (drop i links) (texts (drop i all)) ≡ whole) where
  begun : made ++ of_sort s (l ∷ drop (i + 1) links) ((get_or all i d).now ∷ texts (drop (i + 1) all)) ≡ whole
  begun =
      let one : drop i links ≡ l ∷ drop (i + 1) links = drop_more links i l a ∙ ap (λ y. y ∷ drop (i + 1) links) (sym is) in
      sym (ap₂ (λ ls ds. made ++ of_sort s ls (texts ds)) one (drop_more all i d b)) ∙ h

  -- one more link of the sort
  pub one-taken : is_of_sort s l.kind ≡ true → (made ++ (get_or all i d).now ∷ []) ++ of_sort s (drop (i + 1) links) (texts (drop (i + 1) all)) ≡ whole
  one-taken e =
      let rest : List (List ℕ) = of_sort s (drop (i + 1) links) (texts (drop (i + 1) all)) in
      append_assoc made ((get_or all i d).now ∷ []) rest ∙ sym (ap (λ t. made ++ (if t then (get_or all i d).now ∷ rest else rest)) e) ∙ begun

  -- one more of another sort
  pub one-left : is_of_sort s l.kind ≡ false → made ++ of_sort s (drop (i + 1) links) (texts (drop (i + 1) all)) ≡ whole
  one-left e =
      let rest : List (List ℕ) = of_sort s (drop (i + 1) links) (texts (drop (i + 1) all)) in
      sym (ap (λ t. made ++ (if t then (get_or all i d).now ∷ rest else rest)) e) ∙ begun

none-of : (s : Bool) (links : List Link) (ds : List (List ℕ)) → min (length links) (length ds) ≡ 0 → of_sort s links ds ≡ []
none-of s [] ds h = refl
none-of s (l ∷ links) [] h = refl
none-of s (l ∷ links) (d ∷ ds) h = absurd (omega arith)

-- no link is left
pub all-sorted : (s : Bool) (links : List Link) (all : List (Bor (List ℕ))) (i : ℕ) (made whole : List (List ℕ)) → min (length links) (length all) ≤ i → made ++ of_sort s (drop i links) (texts (drop i all)) ≡ whole → made ≡ whole
all-sorted s links all i made whole l h =
    let none : min (length (drop i links)) (length (texts (drop i all))) ≡ 0 = simp (length-map, length-drop) (omega arith) in
    sym (append-nil made) ∙ sym (ap (λ xs. made ++ xs) (none-of s (drop i links) (texts (drop i all)) none)) ∙ h

-- one more change
module _ (changes : List (ℕ × String Global)) (i : ℕ) (c : ℕ × String Global) (all : List (Bor (List ℕ))) (whole : List (List ℕ)) (a : i < length changes) (is : c ≡ get_or changes i c) (h : redirected (drop i changes) (texts all) ≡ whole) where
  changed : redirected (drop (i + 1) changes) (slice_set (texts all) c.0 (string_bytes c.1)) ≡ whole
  changed =
      let one : drop i changes ≡ c ∷ drop (i + 1) changes = drop_more changes i c a ∙ ap (λ y. y ∷ drop (i + 1) changes) (sym is) in
      sym (ap (λ cs. redirected cs (texts all)) one) ∙ h

  pub one-put : (new : List (Bor (List ℕ))) (x : Bor (List ℕ)) → new ≡ slice_set all c.0 x → x.now ≡ string_bytes c.1 → redirected (drop (i + 1) changes) (texts new) ≡ whole
  one-put new x n e =
      ap (λ ds. redirected (drop (i + 1) changes) ds) (ap texts n ∙ map-set (λ d. d.now) all c.0 x ∙ ap (slice_set (texts all) c.0) e) ∙ changed

  pub one-past : length all ≤ c.0 → redirected (drop (i + 1) changes) (texts all) ≡ whole
  one-past l =
      ap (λ ds. redirected (drop (i + 1) changes) ds) (sym (set_past (texts all) c.0 (string_bytes c.1) (rw length-map l))) ∙ changed
