-- What is seen of the open containers.
use Rattle.std.proofs.Common.{◌≡◌, ℕ, zero, suc, ◌+◌, ◌-◌, ◌<◌, ◌≤◌, List, [], ◌∷◌, ◌++◌, refl, sym, ap, ◌∙◌, take, drop, length, length-append, map, reverse, get_or, arith, set, Some, None, unwrap_or}
use Rattle.std.specs.Prelude.{is_some}
use Rattle.std.proofs.lemmas.Bool.{false≢true, true≢false}
use Rattle.std.proofs.lemmas.List.{append_assoc, append-nil, length-map, length-reverse, map-append, reverse-append, take_more, take_all, take-append-drop, get_or-append-add}
use Rattle.tocmark_spelling.specs.Page.{OpeningChoice, Level, Path, prefix_of}
use Rattle.tocmark_write_containers.specs.FrameOf.{level_of}
use Rattle.tocmark_write_containers.specs.KeptOf.{outside_at, present, seen}
use Rattle.tocmark_write_containers.specs.Nesting.{changed, changed_level, head_of}
use Rattle.tocmark_write_containers.specs.Outside.{outside_of, outsides}
use Rattle.tocmark_write_containers.specs.PrefixOf.{prefix_bytes}
use Rattle.tocmark_write_containers.specs.declared.frame.Frame.{Frame}
use Rattle.tocmark_write_containers.specs.declared.kept.Kept.{Kept}
use Rattle.tocmark_write_containers.specs.declared.outside.Outside.{Outside}

-- one more container
pub seen-more : {Y : Type 0} (f : Kept → Y) (ks : List Kept) (k : Kept) → seen f (ks ++ k ∷ []) ≡ f k ∷ seen f ks
seen-more f ks k = ap reverse (map-append f ks (k ∷ [])) ∙ reverse-append (map f ks) (f k ∷ [])

-- the innermost one
pub seen-last : {Y : Type 0} (f : Kept → Y) (ks rest : List Kept) (k : Kept) → ks ≡ rest ++ k ∷ [] → seen f ks ≡ f k ∷ seen f rest
seen-last f ks rest k e = ap (λ x. seen f x) e ∙ seen-more f rest k

-- the innermost one, by its place
pub at-last : (ks : List Kept) (n : ℕ) (k : Kept) → 0 < n → n ≡ length ks → k ≡ get_or ks (n - 1) k → ks ≡ take (n - 1) ks ++ k ∷ []
at-last ks n k p e q =
    let all : take (n - 1 + 1) ks ≡ ks = take_all _ ks (omega arith) in
    sym all ∙ take_more ks (n - 1) k (omega arith) ∙ ap (λ x. take (n - 1) ks ++ x ∷ []) (sym q)

-- the same of the first so many
pub at-place : (ks : List Kept) (n : ℕ) (k : Kept) → 0 < n → n ≤ length ks → k ≡ get_or ks (n - 1) k → take n ks ≡ take (n - 1) ks ++ k ∷ []
at-place ks n k p e q =
    let same : n - 1 + 1 ≡ n = omega arith in
    ap (λ m. take m ks) (sym same) ∙ take_more ks (n - 1) k (omega arith) ∙ ap (λ x. take (n - 1) ks ++ x ∷ []) (sym q)

pub seen-at : {Y : Type 0} (f : Kept → Y) (ks : List Kept) (n : ℕ) (k : Kept) → 0 < n → n ≡ length ks → k ≡ get_or ks (n - 1) k → seen f ks ≡ f k ∷ seen f (take (n - 1) ks)
seen-at f ks n k p e q = seen-last f ks (take (n - 1) ks) k (at-last ks n k p e q)

-- the innermost one is at the front of the path
pub head-is : (path : Path) (l : Level) → head_of path ≡ Some l → path ≡ l ∷ drop 1 path
head-is [] l e = absurd (false≢true (ap is_some e))
head-is (x ∷ xs) l e = ap (λ y. y ∷ xs) (ap (λ o. unwrap_or o x) e)

pub no-head : (path : Path) → head_of path ≡ None → path ≡ []
no-head [] e = refl
no-head (x ∷ xs) e = absurd (true≢false (ap is_some e))

pub seen-length : {Y : Type 0} (f : Kept → Y) (ks : List Kept) → length (seen f ks) ≡ length ks
seen-length f ks = length-reverse (map f ks) ∙ length-map ks f

-- the last element, by its place and at the end
pub last-is : (ks rest : List Kept) (n : ℕ) (k d : Kept) → n ≡ length ks → d ≡ get_or ks (n - 1) d → ks ≡ rest ++ k ∷ [] → d ≡ k
last-is ks rest n k d len at e =
    at
    ∙ ap (λ l. get_or l (n - 1) d) e
    ∙ ap (λ m. get_or (rest ++ k ∷ []) m d) (omega (arith, len, ap length e, length-append rest (k ∷ [])))
    ∙ get_or-append-add rest (k ∷ []) 0 d

-- ---- prefixes

-- the joined prefixes, one more container at their end
pub joined-last : (ks rest : List Kept) (k : Kept) → ks ≡ rest ++ k ∷ [] → prefix_of (seen present ks) ≡ prefix_of (seen present rest) ++ (present k).prefix
joined-last ks rest k e = ap prefix_of (seen-last present ks rest k e)

-- the same, told of a frame that looks like the last
pub closed-by : (ks rest : List Kept) (k : Kept) (f : Frame) (px : List ℕ) → ks ≡ rest ++ k ∷ [] → level_of f ≡ present k → px ≡ prefix_of (seen present ks) → px ≡ prefix_of (seen present rest) ++ prefix_bytes f.prefix
closed-by ks rest k f px e same joined = joined ∙ joined-last ks rest k e ∙ ap (λ l. prefix_of (seen present rest) ++ l.prefix) (sym same)

-- the joined prefixes, one more container of a list
pub joined-more : (ks : List Kept) (i : ℕ) (k : Kept) → i < length ks → k ≡ get_or ks i k → prefix_of (seen present (take (i + 1) ks)) ≡ prefix_of (seen present (take i ks)) ++ (present k).prefix
joined-more ks i k less at = joined-last (take (i + 1) ks) (take i ks) k (take_more ks i k less ∙ ap (λ x. take i ks ++ x ∷ []) (sym at))

prefix-append : (xs ys : Path) → prefix_of (xs ++ ys) ≡ prefix_of ys ++ prefix_of xs
prefix-append [] ys = sym (append-nil (prefix_of ys))
prefix-append (x ∷ xs) ys = ap (λ r. r ++ x.prefix) (prefix-append xs ys) ∙ append_assoc (prefix_of ys) (prefix_of xs) x.prefix

-- some of the joined prefixes are no longer than all
pub joined-bound : (ks : List Kept) (n : ℕ) → length (prefix_of (seen present (take n ks))) ≤ length (prefix_of (seen present ks))
joined-bound ks n =
    let inner = reverse (map present (drop n ks)) in
    let outer = reverse (map present (take n ks)) in
    let whole : seen present ks ≡ inner ++ outer =
    ap (λ x. seen present x) (sym (take-append-drop n ks))
    ∙ ap reverse (map-append present (take n ks) (drop n ks))
    ∙ reverse-append (map present (take n ks)) (map present (drop n ks)) in
    omega (arith, ap (λ x. length (prefix_of x)) whole, ap length (prefix-append inner outer), length-append (prefix_of outer) (prefix_of inner))

-- a content that is changed leaves it
pub prefix-changed : (n : ℕ) (f : OpeningChoice → OpeningChoice) (ls : Path) → prefix_of (changed n f ls) ≡ prefix_of ls
prefix-changed n f [] = refl
prefix-changed zero f (l ∷ ls) = refl
prefix-changed (suc n) f (l ∷ ls) = ap (λ r. r ++ l.prefix) (prefix-changed n f ls)

-- ---- what containers say

abbrev first_or : Outside → List Outside → Outside
first_or o [] = o
first_or o (x ∷ xs) = x

abbrev but_first : List Outside → List Outside
but_first [] = []
but_first (x ∷ xs) = xs

module _ (f : Kept → Level) (ks rest : List Kept) (k : Kept) (is : ks ≡ rest ++ k ∷ []) where
  told-end : seen outside_at ks ≡ outsides (seen f ks) → outside_at k ∷ seen outside_at rest ≡ outside_of (f k ∷ seen f rest) ∷ outsides (seen f rest)
  told-end told = sym (seen-last outside_at ks rest k is) ∙ told ∙ ap outsides (seen-last f ks rest k is)

  -- the innermost one says what all say
  pub told-last : seen outside_at ks ≡ outsides (seen f ks) → outside_at k ≡ outside_of (seen f ks)
  told-last told = ap (first_or (outside_at k)) (told-end told) ∙ ap outside_of (sym (seen-last f ks rest k is))

  -- those around it say what theirs say
  pub told-rest : seen outside_at ks ≡ outsides (seen f ks) → seen outside_at rest ≡ outsides (seen f rest)
  told-rest told = ap but_first (told-end told)

  -- one more that says what all say
  pub told-more : outside_at k ≡ outside_of (f k ∷ seen f rest) → seen outside_at rest ≡ outsides (seen f rest) → seen outside_at ks ≡ outsides (seen f ks)
  told-more says told =
      seen-last outside_at ks rest k is
      ∙ ap (λ x. x ∷ seen outside_at rest) says
      ∙ ap (λ x. outside_of (f k ∷ seen f rest) ∷ x) told
      ∙ sym (ap outsides (seen-last f ks rest k is))

-- ---- one of them replaced

changed-end : (f : OpeningChoice → OpeningChoice) (xs : Path) (l : Level) → changed (length xs) f (xs ++ l ∷ []) ≡ xs ++ changed_level f l ∷ []
changed-end f [] l = refl
changed-end f (x ∷ xs) l = ap (λ r. x ∷ r) (changed-end f xs l)

changed-front : (f : OpeningChoice → OpeningChoice) (xs ys : Path) (n : ℕ) → n < length xs → changed n f (xs ++ ys) ≡ changed n f xs ++ ys
changed-front f [] ys n h = absurd (omega arith)
changed-front f (x ∷ xs) ys zero h = refl
changed-front f (x ∷ xs) ys (suc n) h = ap (λ r. x ∷ r) (changed-front f xs ys n (omega arith))

-- the innermost is 0, and it is the last
reverse-changed : (f : OpeningChoice → OpeningChoice) (ls : Path) (i n : ℕ) → i < length ls → n + i + 1 ≡ length ls → reverse (changed i f ls) ≡ changed n f (reverse ls)
reverse-changed f [] i n h e = absurd (omega arith)
reverse-changed f (l ∷ ls) zero n h e =
    let q : n ≡ length (reverse ls) = omega (arith, length-reverse ls, e) in
    reverse-append (changed_level f l ∷ []) ls
    ∙ sym (changed-end f (reverse ls) l)
    ∙ ap (λ k. changed k f (reverse ls ++ l ∷ [])) (sym q)
    ∙ ap (changed n f) (sym (reverse-append (l ∷ []) ls))
reverse-changed f (l ∷ ls) (suc i) n h e =
    reverse-append (l ∷ []) (changed i f ls)
    ∙ ap (λ r. r ++ l ∷ []) (reverse-changed f ls i n (omega arith) (omega (arith, e)))
    ∙ sym (changed-front f (reverse ls) (l ∷ []) n (omega (arith, length-reverse ls, e)))
    ∙ ap (changed n f) (sym (reverse-append (l ∷ []) ls))

change-one : (f : OpeningChoice → OpeningChoice) (ks : List Kept) (i : ℕ) (k d : Kept) → i < length ks → d ≡ get_or ks i d → present k ≡ changed_level f (present d) → map present (set ks i k) ≡ changed i f (map present ks)
change-one f [] i k d less at e = absurd (omega arith)
change-one f (x ∷ xs) zero k d less at e = ap (λ l. l ∷ map present xs) (e ∙ ap (λ y. changed_level f (present y)) at)
change-one f (x ∷ xs) (suc i) k d less at e = ap (λ ls. present x ∷ ls) (change-one f xs i k d (omega arith) at e)

-- one container's content replaced, seen from all of them
pub change-seen : (f : OpeningChoice → OpeningChoice) (ks : List Kept) (i n : ℕ) (k d : Kept) → i < length ks → n + i + 1 ≡ length ks → d ≡ get_or ks i d → present k ≡ changed_level f (present d) → seen present (set ks i k) ≡ changed n f (seen present ks)
change-seen f ks i n k d less sum at e =
    ap reverse (change-one f ks i k d less at e)
    ∙ reverse-changed f (map present ks) i n (omega (arith, length-map ks present)) (omega (arith, sum, length-map ks present))

-- one container replaced by one that a function can't tell from it
pub replace-one : {Y : Type 0} (f : Kept → Y) (ks : List Kept) (i : ℕ) (k d : Kept) → i < length ks → d ≡ get_or ks i d → f k ≡ f d → map f (set ks i k) ≡ map f ks
replace-one f [] i k d less at e = absurd (omega arith)
replace-one f (x ∷ xs) zero k d less at e = ap (λ l. l ∷ map f xs) (e ∙ ap f at)
replace-one f (x ∷ xs) (suc i) k d less at e = ap (λ ls. f x ∷ ls) (replace-one f xs i k d (omega arith) at e)
