-- The lines of a list item are those of the text in it.
use Rattle.std.proofs.Common.{◌≡◌, inl, inr, ℕ, zero, suc, ◌+◌, ◌-◌, ◌*◌, ◌^◌, ◌<◌, ◌≤◌, Bool, true, false, not, ◌==◌, ◌&&◌, ◌||◌, cond, if◌then◌else◌, nat_lt, nat_le, List, [], ◌∷◌, ◌++◌, length, take, drop, refl, ap, sym, subst, ◌∙◌, arith, length-append, length-drop}
use Rattle.std.specs.Prelude.{take_while, replicate}
use Rattle.std.specs.List.{AllByRecursion, list_any}
use Rattle.std.proofs.lemmas.Bool.Decides.{nat_tests}
use Rattle.std.proofs.lemmas.List.{length-replicate}
use Rattle.std.proofs.lemmas.List.Sums.{take_while-cons}
use Rattle.tocmark_read_scan.specs.Basic.{plus, byte_at, bytes_between}
use Rattle.tocmark_read_lines.specs.Lines.{ends_here, line_stop, line, lines_from, lines_of}
use Rattle.tocmark_read_lines.specs.declared.line.Line.{Line}
use Rattle.tocmark_text_laws.specs.Items.{ItemMark, IsItemMark, item_front, is_end, spaces_before, indented, item_text, begins_with_ink, begins_after, first_line}
use Rattle.tocmark_text_laws.specs.Lines.{IsInner, IsEnded, IsLine, ending_of}
use Rattle.tocmark_text_laws.specs.Quoted.{ends_line}
use Rattle.tocmark_text_laws.proofs.QuotedLines.{IsFront, LinesOn, with_fronts, AreFronts, GoodFronts, fronted_lines}
use Rattle.tocmark_text_laws.proofs.ItemMarks.{spaces_of, spaces_ok, item_ok, front_few}
use Rattle.tocmark_text_laws.proofs.ItemTurns.{IsInItem}

-- the bytes in front of a line with so many lines before it, and with this first byte
abbrev fronts_of : List ℕ → ℕ → (ℕ → Bool) → ℕ → ℕ → List ℕ
fronts_of first width bare n b = if n == 0 then first else spaces_before width (bare n) b

fronts_are : (first : List ℕ) (width : ℕ) (bare : ℕ → Bool) (n b : ℕ) → IsInItem first width n (fronts_of first width bare n b) b
fronts_are first width bare n b = by (n == 0) refl (bare n) (is_end b) refl
  where
    by : (k : Bool) → (n == 0) ≡ k → (x y : Bool) → is_end b ≡ y → IsInItem first width n (if k then first else (if x && y then [] else replicate width 32)) b
    by true e x y f = let z : n ≡ 0 = grind (arith, e, nat_tests) in inl (z, refl)
    by false e true true f = let z : 0 < n = grind (arith, e, nat_tests) in inr (z, inr (refl, f))
    by false e true false f = let z : 0 < n = grind (arith, e, nat_tests) in inr (z, inl refl)
    by false e false y f = let z : 0 < n = grind (arith, e, nat_tests) in inr (z, inl refl)

all_fronts : (first : List ℕ) (width : ℕ) (bare : ℕ → Bool) (n : ℕ) (front : Bool) (xs : List ℕ) → AreFronts (IsInItem first width) (fronts_of first width bare) n front xs
all_fronts first width bare n front [] = tt
all_fronts first width bare n true (b ∷ bs) = (fronts_are first width bare n b, all_fronts first width bare (n + 1) (ends_line b bs) bs)
all_fronts first width bare n false (b ∷ bs) = all_fronts first width bare n (ends_line b bs) bs

fronts_good : (first : List ℕ) (width : ℕ) → IsFront first → GoodFronts (IsInItem first width)
fronts_good first width ok n front b (inl (e, f)) = subst IsFront (sym f) ok
fronts_good first width ok n front b (inr (e, inl f)) = subst IsFront (sym f) (spaces_ok width)
fronts_good first width ok n front b (inr (e, inr (f, g))) = subst IsFront (sym f) (record { free = refl; flat = refl })

fronts_later : (first : List ℕ) (width : ℕ) (bare : ℕ → Bool) (n b : ℕ) → 0 < n → fronts_of first width bare n b ≡ spaces_before width (bare n) b
fronts_later first width bare n b h = ap (λ k. if k then first else spaces_before width (bare n) b) (let z : (n == 0) ≡ false = grind (arith, h, nat_tests) in z)

fronts_indent : (first : List ℕ) (width : ℕ) (bare : ℕ → Bool) (n : ℕ) (front : Bool) (xs : List ℕ) → 0 < n → with_fronts (fronts_of first width bare) n front xs ≡ indented width bare n front xs
fronts_indent first width bare n front [] h = refl
fronts_indent first width bare n true (b ∷ bs) h =
    ap (λ ms. ms ++ (b ∷ with_fronts (fronts_of first width bare) (n + 1) (ends_line b bs) bs)) (fronts_later first width bare n b h)
    ∙ ap (λ xs. spaces_before width (bare n) b ++ (b ∷ xs)) (fronts_indent first width bare (n + 1) (ends_line b bs) bs (omega (arith, h)))
fronts_indent first width bare n false (b ∷ bs) h = ap (λ xs. b ∷ xs) (fronts_indent first width bare n (ends_line b bs) bs h)

abbrev item_fronts : ItemMark → (ℕ → Bool) → ℕ → ℕ → List ℕ
item_fronts m bare = fronts_of (item_front m) (length (item_front m)) bare

item_is : (m : ItemMark) (bare : ℕ → Bool) (text : List ℕ) → 0 < length text → with_fronts (item_fronts m bare) 0 true text ≡ item_text m bare text
item_is m bare [] some = absurd (omega (arith, some))
item_is m bare (b ∷ bs) some = ap (λ xs. item_front m ++ (b ∷ xs)) (fronts_indent (item_front m) (length (item_front m)) bare 1 (ends_line b bs) bs (omega arith))

fronts_few : (first : List ℕ) (width : ℕ) (bare : ℕ → Bool) → length first ≤ 17 → width ≤ 17 → (n b : ℕ) → length (fronts_of first width bare n b) ≤ 17
fronts_few first width bare h k n b = by (n == 0) (bare n && is_end b)
  where
    by : (x y : Bool) → length (if x then first else (if y then [] else replicate width 32)) ≤ 17
    by true y = h
    by false true = omega arith
    by false false = omega (arith, k, length-replicate {A = ℕ} width 32)

fronts_length : (fronts : ℕ → ℕ → List ℕ) → ((n b : ℕ) → length (fronts n b) ≤ 17) → (n : ℕ) (front : Bool) (xs : List ℕ) → length (with_fronts fronts n front xs) ≤ 18 * length xs
fronts_length fronts h n front [] = omega arith
fronts_length fronts h n true (b ∷ bs) = omega (arith, h n b, length-append (fronts n b) (b ∷ with_fronts fronts (n + 1) (ends_line b bs) bs), fronts_length fronts h (n + 1) (ends_line b bs) bs)
fronts_length fronts h n false (b ∷ bs) = omega (arith, fronts_length fronts h n (ends_line b bs) bs)

-- the lines of such a text
pub item_lines : (m : ItemMark) (bare : ℕ → Bool) (text : List ℕ) → IsItemMark m → 0 < length text → list_any (λ b. b == 9) text ≡ false → 32 * length text + 30 < 2 ^ 64
    → LinesOn (IsInItem (item_front m) (length (item_front m))) text (item_text m bare text) 0 0 (lines_of (item_text m bare text)) (lines_of text)
item_lines m bare text ok some plain fits =
    subst (λ q. LinesOn (IsInItem first (length first)) text q 0 0 (lines_of q) (lines_of text)) (item_is m bare text some)
    (fronted_lines (IsInItem first (length first)) (fronts_good first (length first) (item_ok m ok)) (item_fronts m bare) text
    (omega (arith, fits, fronts_length (item_fronts m bare) (fronts_few first (length first) bare few few) 0 true text)) (omega (arith, fits)) plain (all_fronts first (length first) bare 0 true text))
  where
    first : List ℕ
    first = item_front m

    few : length first ≤ 17
    few = (front_few m ok).1

-- the first line

-- a line begins at the front of the text, and has a byte
abbrev pub Leads : List Line → Type 0
Leads [] = Unit
Leads (l ∷ ls) = (l.start ≡ 0) × (0 < l.end)

leads_from : (t : List ℕ) (before at : ℕ) (rest : List ℕ) → 0 < at → (byte_at t 0 == 13) ≡ false → Leads (lines_from t before 0 at rest)
unfolding line_stop
leads_from t before at [] some e = by (nat_lt 0 at)
  where
    by : (k : Bool) → Leads (if k then line before 0 at at ∷ [] else [])
    by true = (refl, some)
    by false = tt
leads_from t before at (b ∷ bs) some e = by (ends_here t b at) (leads_from t before (at + 1) bs (omega (arith, some)) e)
  where
    stops : (x y z : Bool) → (byte_at t (at - 1) == 13) ≡ z → 0 < (if x && y && z then at - 1 else at)
    stops true true true g = each (nat_lt 1 at) refl
      where
        each : (k : Bool) → nat_lt 1 at ≡ k → 0 < at - 1
        each true m = let z : 1 < at = grind (arith, m, nat_tests) in omega (arith, z)
        each false m =
            let z : at ≤ 1 = grind (arith, m, nat_tests) in
            let place : at - 1 ≡ 0 = omega (arith, z) in
            let w : true ≡ false = sym g ∙ ap (λ i. byte_at t i == 13) place ∙ e in absurd cc
    stops true true false g = some
    stops true false z g = some
    stops false y z g = some

    by : (k : Bool) → Leads (lines_from t before 0 (at + 1) bs) → Leads (if k then line before 0 (line_stop t 0 b at) (at + 1) ∷ lines_from t (before + 1) (at + 1) (at + 1) bs else lines_from t before 0 (at + 1) bs)
    by true again = (refl, stops (b == 10) (nat_lt 0 at) (byte_at t (at - 1) == 13) refl)
    by false again = again

-- the first byte of a text that has one is no line ending
abbrev pub BeginsLine : List ℕ → Type 0
BeginsLine [] = ⊥
BeginsLine (b ∷ bs) = ((b == 10) ≡ false) × ((b == 13) ≡ false)

pub first_leads : (t : List ℕ) → BeginsLine t → Leads (lines_of t)
unfolding ends_here
first_leads [] h = absurd h
first_leads (b ∷ bs) h =
    subst (λ k. Leads (if k then line 0 0 (line_stop (b ∷ bs) 0 b 0) (0 + 1) ∷ lines_from (b ∷ bs) (0 + 1) (0 + 1) (0 + 1) bs else lines_from (b ∷ bs) 0 0 (0 + 1) bs)) (sym (none (b == 10) (b == 13) (not (byte_at (b ∷ bs) (plus 0 1) == 10)) (h.0) (h.1)))
    (leads_from (b ∷ bs) 0 1 bs (omega arith) (h.1))
  where
    none : (x y z : Bool) → x ≡ false → y ≡ false → (x || (y && z) || (y && nat_le (length (b ∷ bs)) (plus 0 1))) ≡ false
    none x y z e f = rw (e, f) refl

-- bytes that are none, or begin with a line ending
abbrev Stops : List ℕ → Type 0
Stops [] = Unit
Stops (b ∷ bs) = is_end b ≡ true

take_stops : (k : ℕ) (ys : List ℕ) (c : ℕ) (cs : List ℕ) → take k ys ≡ c ∷ cs → is_end c ≡ true → Stops ys
take_stops zero ys c cs e h = absurd cc
take_stops (suc k) [] c cs e h = absurd cc
take_stops (suc k) (y ∷ ys) c cs e h = let z : y ≡ c = cc in ap is_end z ∙ h

between_stops : (xs : List ℕ) (from to c : ℕ) (cs : List ℕ) → bytes_between xs from to ≡ c ∷ cs → is_end c ≡ true → Stops (drop from xs)
between_stops xs from to c cs e h = by (nat_le from to && nat_le to (length xs)) e
  where
    by : (k : Bool) → (if k then take (to - from) (drop from xs) else []) ≡ c ∷ cs → Stops (drop from xs)
    by true g = take_stops (to - from) (drop from xs) c cs g h
    by false g = absurd cc

all_taken : (ys : List ℕ) (n : ℕ) → n ≡ length ys → take n ys ≡ [] → Stops ys
all_taken [] n l e = tt
all_taken (y ∷ ys) zero l e = absurd (omega (arith, l))
all_taken (y ∷ ys) (suc n) l e = absurd cc

line_stops : (t : List ℕ) (l : Line) → l.end ≤ length t → IsLine t l → Stops (drop l.end t)
line_stops t l fits one = by one.ending
  where
    last : ending_of t l ≡ [] → l.next ≡ length t → Stops (drop l.end t)
    last e f = all_taken (drop l.end t) (l.next - l.end) (omega (arith, f, length-drop l.end t)) (sym whole ∙ e)
      where
        order : nat_le l.end l.next ≡ true
        order = let z : l.end ≤ l.next = omega (arith, fits, f) in grind (arith, z, nat_tests)

        inside : nat_le l.next (length t) ≡ true
        inside = let z : l.next ≤ length t = omega (arith, f) in grind (arith, z, nat_tests)

        whole : ending_of t l ≡ take (l.next - l.end) (drop l.end t)
        whole = rw (order, inside) refl

    by : IsEnded t l → Stops (drop l.end t)
    by (inl e) = between_stops t l.end l.next 10 [] e refl
    by (inr (inl e)) = between_stops t l.end l.next 13 (10 ∷ []) e refl
    by (inr (inr (inl (e, f)))) = between_stops t l.end l.next 13 [] e refl
    by (inr (inr (inr (e, f)))) = last e f

words_first : (n : ℕ) (t : List ℕ) → AllByRecursion IsInner (take n t) → Stops (drop n t) → take n t ≡ first_line t
words_first zero [] a s = refl
words_first zero (b ∷ bs) a s = sym (take_while-cons (λ b. not (is_end b)) b bs ∙ ap (λ k. cond (not k) (b ∷ take_while (λ b. not (is_end b)) bs) []) s)
words_first (suc n) [] a s = refl
words_first (suc n) (b ∷ bs) a s =
    ap (λ xs. b ∷ xs) (words_first n bs (a.1) s)
    ∙ sym (take_while-cons (λ b. not (is_end b)) b bs ∙ ap (λ k. cond (not k) (b ∷ take_while (λ b. not (is_end b)) bs) []) inner)
  where
    inner : is_end b ≡ false
    inner = rw (a.0.0, a.0.1) refl

-- the words of the first line
pub first_words : (t : List ℕ) (l : Line) → l.start ≡ 0 → 0 < l.end → length (bytes_between t l.start l.end) ≡ l.end - l.start → IsLine t l → bytes_between t l.start l.end ≡ first_line t
first_words t l start some long one = ap (λ n. bytes_between t n l.end) start ∙ by (nat_le l.end (length t)) refl
  where
    low : nat_le 0 l.end ≡ true
    low = let z : 0 ≤ l.end = omega arith in grind (arith, z, nat_tests)

    here : length (bytes_between t 0 l.end) ≡ l.end
    here = ap (λ n. length (bytes_between t n l.end)) (sym start) ∙ long ∙ (let z : l.end - l.start ≡ l.end = omega (arith, start) in z)

    by : (k : Bool) → nat_le l.end (length t) ≡ k → bytes_between t 0 l.end ≡ first_line t
    by true e = whole ∙ words_first l.end t (subst (AllByRecursion IsInner) (ap (λ n. bytes_between t n l.end) start ∙ whole) one.content) (line_stops t l (grind (arith, e, nat_tests)) one)
      where
        whole : bytes_between t 0 l.end ≡ take l.end t
        whole = rw (low, e) (ap (λ n. take n t) (let z : l.end - 0 ≡ l.end = omega arith in z))
    by false e =
        let none : bytes_between t 0 l.end ≡ [] = rw (low, e) refl in
        absurd (omega (arith, some, here, ap length none))

-- how a text begins

begins_line : (x : Bool) (b : ℕ) (bs : List ℕ) → not (x || is_end b) ≡ true → BeginsLine (b ∷ bs)
begins_line x b bs h = by x (b == 10) (b == 13) refl refl h
  where
    by : (x y z : Bool) → (b == 10) ≡ y → (b == 13) ≡ z → not (x || (y || z)) ≡ true → BeginsLine (b ∷ bs)
    by false false false e f g = (e, f)
    by true y z e f g = absurd cc
    by false true z e f g = absurd cc
    by false false true e f g = absurd cc

pub ink_line : (t : List ℕ) → begins_with_ink t ≡ true → BeginsLine t
ink_line [] h = absurd cc
ink_line (b ∷ bs) h = begins_line (b == 32) b bs h

-- the first line goes on with a byte that isn't one of a line ending
pub line_goes : (b : ℕ) (bs : List ℕ) → is_end b ≡ false → first_line (b ∷ bs) ≡ b ∷ first_line bs
line_goes b bs e = take_while-cons (λ b. not (is_end b)) b bs ∙ ap (λ k. cond (not k) (b ∷ first_line bs) []) e

-- the spaces at the front of the first line, and ink after them
pub ink_front : (t : List ℕ) → begins_with_ink t ≡ true → (spaces_of (first_line t) ≡ 0) × (0 < length (first_line t))
ink_front [] h = absurd cc
ink_front (b ∷ bs) h = by (b == 32) (is_end b) refl refl h
  where
    by : (x y : Bool) → (b == 32) ≡ x → is_end b ≡ y → not (x || y) ≡ true → (spaces_of (first_line (b ∷ bs)) ≡ 0) × (0 < length (first_line (b ∷ bs)))
    by false false e f g = (ap spaces_of (line_goes b bs f) ∙ ap (λ k. cond k (1 + spaces_of (first_line bs)) 0) e, (let z : length (first_line (b ∷ bs)) ≡ suc (length (first_line bs)) = ap length (line_goes b bs f) in omega (arith, z)))
    by true y e f g = absurd cc
    by false true e f g = absurd cc

pub code_line : (t : List ℕ) → begins_after 4 t ≡ true → BeginsLine t
code_line [] h = absurd cc
code_line (b ∷ bs) h = by (b == 32) refl h
  where
    by : (x : Bool) → (b == 32) ≡ x → (if x then begins_after 3 bs else (false && not (is_end b))) ≡ true → BeginsLine (b ∷ bs)
    by true e g = let z : b ≡ 32 = grind (arith, e, nat_tests) in (ap (λ n. n == 10) z, ap (λ n. n == 13) z)
    by false e g = absurd cc

pub code_front : (n : ℕ) (t : List ℕ) → begins_after n t ≡ true → (n ≤ spaces_of (first_line t)) × (spaces_of (first_line t) < length (first_line t))
code_front n [] h = absurd cc
code_front n (b ∷ bs) h = by (b == 32) (n == 0) (is_end b) refl refl refl h (λ g. code_front (n - 1) bs g)
  where
    by : (x y z : Bool) → (b == 32) ≡ x → (n == 0) ≡ y → is_end b ≡ z → (if x then begins_after (n - 1) bs else (y && not z)) ≡ true
        → (begins_after (n - 1) bs ≡ true → (n - 1 ≤ spaces_of (first_line bs)) × (spaces_of (first_line bs) < length (first_line bs)))
        → (n ≤ spaces_of (first_line (b ∷ bs))) × (spaces_of (first_line (b ∷ bs)) < length (first_line (b ∷ bs)))
    by true y z e f g h again =
        let space : b ≡ 32 = grind (arith, e, nat_tests) in
        let goes : first_line (b ∷ bs) ≡ b ∷ first_line bs = line_goes b bs (ap is_end space) in
        let more : spaces_of (first_line (b ∷ bs)) ≡ 1 + spaces_of (first_line bs) = ap spaces_of goes ∙ ap (λ k. cond k (1 + spaces_of (first_line bs)) 0) e in
        let long : length (first_line (b ∷ bs)) ≡ suc (length (first_line bs)) = ap length goes in
        let rest : (n - 1 ≤ spaces_of (first_line bs)) × (spaces_of (first_line bs) < length (first_line bs)) = again h in
        (omega (arith, more, rest.0), omega (arith, more, long, rest.1))
    by false true false e f g h again =
        let none : n ≡ 0 = grind (arith, f, nat_tests) in
        let goes : first_line (b ∷ bs) ≡ b ∷ first_line bs = line_goes b bs g in
        let more : spaces_of (first_line (b ∷ bs)) ≡ 0 = ap spaces_of goes ∙ ap (λ k. cond k (1 + spaces_of (first_line bs)) 0) e in
        let long : length (first_line (b ∷ bs)) ≡ suc (length (first_line bs)) = ap length goes in
        (omega (arith, none), omega (arith, more, long))
    by false true true e f g h again = absurd cc
    by false false z e f g h again = absurd cc
