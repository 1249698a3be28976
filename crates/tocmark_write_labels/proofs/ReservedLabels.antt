-- The label that is reserved for lists, as it is sought among sets of labels.
use Rattle.std.proofs.Common.{◌≡◌, ℕ, zero, suc, ◌+◌, ◌-◌, ◌<◌, Bool, true, false, ◌||◌, if◌then◌else◌, List, [], ◌∷◌, ◌++◌, arith, bytes_eq, drop, get_or, length, refl, sym, ap, ◌∙◌}
use Rattle.std.specs.Borrow.{Bor}
use Rattle.std.specs.List.{list_any}
use Rattle.std.proofs.lemmas.List.{drop_more, length-append, length-map}
use Rattle.std.proofs.lemmas.List.Folds.{list_any-append}
use Rattle.std.proofs.lemmas.Slice.Eq.{bytes_eq-Decides}
use Rattle.tocmark_event.specs.View.{SourcedEvent}
use Rattle.tocmark_spelling.specs.Plan.{Setting}
use Rattle.tocmark_write_labels.specs.Document.{DocumentView, folded, is_among, with_label, literal_in}
use Rattle.tocmark_write_labels.specs.LabelsOf.{folded_ids}
use Rattle.tocmark_write_labels.specs.Reserved.{free_label, ids_of, numbered_label, reserved_label}

or-false : (b : Bool) → b || false ≡ b
or-false true = refl
or-false false = refl

or-assoc : (a b c : Bool) → (a || b) || c ≡ a || (b || c)
or-assoc true b c = refl
or-assoc false b c = refl

among-append : (xs ys : List (List ℕ)) (label : List ℕ) → is_among (xs ++ ys) label ≡ is_among xs label || is_among ys label
among-append xs ys label = list_any-append (λ l. bytes_eq l (folded label)) xs ys

-- ---- a set of labels

module _ (labels : List (List ℕ)) (id label : List ℕ) where
  or-again : (b c : Bool) → (c ≡ true → b ≡ true) → b ≡ (b || (c || false))
  or-again true c h = refl
  or-again false true h = h refl
  or-again false false h = refl

  -- a label that is like one which is there is there, too
  like-one : is_among labels id ≡ true → bytes_eq (folded id) (folded label) ≡ true → is_among labels label ≡ true
  like-one there like = ap (λ f. list_any (λ l. bytes_eq l f) labels) (sym ((bytes_eq-Decides (folded id) (folded label)).0 like)) ∙ there

  added-by : (b : Bool) → is_among labels id ≡ b → is_among (if b then labels else labels ++ folded id ∷ []) label ≡ (is_among labels label || (bytes_eq (folded id) (folded label) || false))
  added-by true e = or-again (is_among labels label) (bytes_eq (folded id) (folded label)) (like-one e)
  added-by false e = among-append labels (folded id ∷ []) label

  -- one more label
  pub among-added : (rest : List (List ℕ)) → is_among (with_label labels id ++ rest) label ≡ is_among (labels ++ folded id ∷ rest) label
  among-added rest =
      among-append (with_label labels id) rest label
      ∙ ap (λ b. b || is_among rest label) (added-by (is_among labels id) refl)
      ∙ or-assoc (is_among labels label) (bytes_eq (folded id) (folded label) || false) (is_among rest label)
      ∙ ap (λ b. is_among labels label || (b || is_among rest label)) (or-false (bytes_eq (folded id) (folded label)))
      ∙ sym (among-append labels (folded id ∷ rest) label)

-- one more id
pub ids-more : (ids : List (Bor (List ℕ))) (i : ℕ) (d : Bor (List ℕ)) (id : List ℕ) (old new : List (List ℕ)) (label : List ℕ) (whole : Bool) → i < length ids → id ≡ (get_or ids i d).now → new ≡ with_label old id
    → is_among (old ++ folded_ids (drop i ids)) label ≡ whole → is_among (new ++ folded_ids (drop (i + 1) ids)) label ≡ whole
ids-more ids i d id old new label whole lt is is_new inv =
    ap (λ ls. is_among (ls ++ folded_ids (drop (i + 1) ids)) label) is_new
    ∙ among-added old id label (folded_ids (drop (i + 1) ids))
    ∙ ap (λ t. is_among (old ++ folded t ∷ folded_ids (drop (i + 1) ids)) label) is
    ∙ ap (λ xs. is_among (old ++ folded_ids xs) label) (sym (drop_more ids i d lt))
    ∙ inv

-- a label is among those of three sets
pub among-three : (known literal ids : List (List ℕ)) (label : List ℕ) → is_among (known ++ literal ++ ids) label ≡ (is_among known label || is_among literal label) || is_among ids label
among-three known literal ids label = among-append (known ++ literal) ids label ∙ ap (λ b. b || is_among ids label) (among-append known literal label)

-- ---- the first number that is free

abbrev free_if : Bool → ℕ → List ℕ → List ℕ
free_if used n rest = elim used as (λ _. List ℕ) [ true ↦ rest | false ↦ numbered_label n ]

-- it is sought among labels by asking whether a label is among them
free-same : (tries n : ℕ) (a b : List (List ℕ)) → ((label : List ℕ) → is_among a label ≡ is_among b label) → free_label tries n a ≡ free_label tries n b
free-same zero n a b h = refl
free-same (suc tries) n a b h =
    ap (λ used. free_if used n (free_label tries (suc n) a)) (h (numbered_label n))
    ∙ ap (λ rest. free_if (is_among b (numbered_label n)) n rest) (free-same tries (suc n) a b h)

module _ (count n : ℕ) (used : List (List ℕ)) where
  abbrev sought : ℕ → ℕ → List ℕ
  sought tries from = free_label tries from used

  one-try : n < count → sought (count - n) (n + 1) ≡ free_if (is_among used (numbered_label (n + 1))) (n + 1) (sought (count - (n + 1)) (n + 1 + 1))
  one-try lt =
      let left : count - n ≡ suc (count - (n + 1)) = omega arith in
      let next : suc (n + 1) ≡ n + 1 + 1 = omega arith in
      ap (λ tries. sought tries (n + 1)) left
      ∙ ap (λ m. free_if (is_among used (numbered_label (n + 1))) (n + 1) (sought (count - (n + 1)) m)) next

  pub free-more : n < count → is_among used (numbered_label (n + 1)) ≡ true → sought (count - (n + 1)) (n + 1 + 1) ≡ sought (count - n) (n + 1)
  free-more lt e = sym (one-try lt ∙ ap (λ b. free_if b (n + 1) (sought (count - (n + 1)) (n + 1 + 1))) e)

  pub free-found : n < count → is_among used (numbered_label (n + 1)) ≡ false → numbered_label (n + 1) ≡ sought (count - n) (n + 1)
  free-found lt e = sym (one-try lt ∙ ap (λ b. free_if b (n + 1) (sought (count - (n + 1)) (n + 1 + 1))) e)

  pub free-last : n ≡ count → numbered_label (count + 1) ≡ sought (count - n) (n + 1)
  free-last e =
      let none : count - n ≡ 0 = omega arith in
      ap (λ m. numbered_label (m + 1)) (sym e) ∙ sym (ap (λ tries. sought tries (n + 1)) none)

-- what is sought among the sets is the reserved label
pub reserved-is : (s : Setting) (d : DocumentView) (known literal set : List (List ℕ)) (ids : List (Bor (List ℕ))) (pending : List SourcedEvent) (count : ℕ) → d.known ≡ known → literal_in s.reading s.flags d.bracketed ≡ literal → folded_ids ids ≡ ids_of pending → count ≡ length known + length literal + length ids
    → ((label : List ℕ) → is_among set label ≡ is_among (folded_ids ids) label) → free_label count 1 (known ++ literal ++ set) ≡ reserved_label s d pending
unfolding reserved_label
reserved-is s d known literal set ids pending count k l are is_count same =
    free-same count 1 (known ++ literal ++ set) used (λ label.
    among-append (known ++ literal) set label ∙ ap (λ b. is_among (known ++ literal) label || b) (same label) ∙ sym (among-append (known ++ literal) (folded_ids ids) label))
    ∙ ap (λ n. free_label n 1 used) (is_count ∙ lengths)
    ∙ ap (λ used. free_label (length used) 1 used)
    (ap (λ xs. xs ++ literal ++ folded_ids ids) (sym k) ∙ ap (λ xs. d.known ++ xs ++ folded_ids ids) (sym l) ∙ ap (λ xs. d.known ++ literal_in s.reading s.flags d.bracketed ++ xs) are)
  where
    used : List (List ℕ)
    used = known ++ literal ++ folded_ids ids

    lengths : length known + length literal + length ids ≡ length used
    lengths =
        ap (λ n. length known + length literal + n) (sym (length-map ids (λ (id : Bor (List ℕ)). folded id.now)))
        ∙ sym (length-append (known ++ literal) (folded_ids ids) ∙ ap (λ n. n + length (folded_ids ids)) (length-append known literal))
