-- The lines of a text with some bytes in front of each, such as a block quote marker, are those of the text.
use Rattle.std.proofs.Common.{◌≡◌, ◌⊎◌, inl, inr, ℕ, zero, suc, ◌+◌, ◌-◌, ◌*◌, ◌^◌, ◌<◌, ◌≤◌, Bool, true, false, not, ◌==◌, ◌&&◌, ◌||◌, if◌then◌else◌, nat_lt, nat_le, List, [], ◌∷◌, ◌++◌, length, take, drop, append_assoc, append-nil, refl, ap, sym, subst, ◌∙◌, arith, length-append}
use Rattle.std.specs.Prelude.{replicate}
use Rattle.std.specs.List.{list_any}
use Rattle.std.proofs.lemmas.List.{length-replicate}
use Rattle.std.proofs.lemmas.Bool.Decides.{nat_tests}
use Rattle.tocmark_read_scan.specs.Basic.{plus, byte_at, bytes_between}
use Rattle.tocmark_read_scan.proofs.PlainTests.{both_false}
use Rattle.tocmark_read_lines.specs.Lines.{ends_here, line_stop, line, last_line, lines_from, lines_of}
use Rattle.tocmark_read_lines.specs.declared.line.Line.{Line}
use Rattle.tocmark_text_laws.specs.Quoted.{ends_line, Mark, space_if, mark_bytes, marked, quoted, IsMark, AreMarks}
use Rattle.tocmark_text_laws.proofs.QuotedCells.{byte_later, between_later}
use Rattle.tocmark_text_laws.proofs.QuotedPieces.{LineOn}

-- parts of bytes

take_front : (k : ℕ) (xs ys : List ℕ) → k ≤ length xs → take k (xs ++ ys) ≡ take k xs
take_front zero xs ys h = refl
take_front (suc k) [] ys h = absurd (omega (arith, h))
take_front (suc k) (x ∷ xs) ys h = ap (λ zs. x ∷ zs) (take_front k xs ys (omega (arith, h)))

part_front : (a k : ℕ) (xs ys : List ℕ) → a + k ≤ length xs → take k (drop a (xs ++ ys)) ≡ take k (drop a xs)
part_front zero k xs ys h = take_front k xs ys (omega (arith, h))
part_front (suc a) k [] ys h = absurd (omega (arith, h))
part_front (suc a) k (x ∷ xs) ys h = part_front a k xs ys (omega (arith, h))

pub between_front : (xs ys : List ℕ) (from to : ℕ) → to ≤ length xs → bytes_between (xs ++ ys) from to ≡ bytes_between xs from to
between_front xs ys from to h = rw (one, two) (by (nat_le from to) refl)
  where
    one : nat_le to (length (xs ++ ys)) ≡ true
    one = let z : to ≤ length (xs ++ ys) = omega (arith, h, length-append xs ys) in grind (arith, z, nat_tests)

    two : nat_le to (length xs) ≡ true
    two = grind (arith, h, nat_tests)

    by : (k : Bool) → nat_le from to ≡ k → (if k && true then take (to - from) (drop from (xs ++ ys)) else []) ≡ (if k && true then take (to - from) (drop from xs) else [])
    by true e = let z : from ≤ to = grind (arith, e, nat_tests) in part_front from (to - from) xs ys (omega (arith, z, h))
    by false e = refl

take_whole : (xs : List ℕ) → take (length xs) xs ≡ xs
take_whole [] = refl
take_whole (x ∷ xs) = ap (λ ys. x ∷ ys) (take_whole xs)

pub between_whole : (xs : List ℕ) → bytes_between xs 0 (length xs) ≡ xs
between_whole xs = rw (low, same, long) (take_whole xs)
  where
    low : nat_le 0 (length xs) ≡ true
    low = grind (arith, nat_tests)

    same : nat_le (length xs) (length xs) ≡ true
    same = grind (arith, nat_tests)

    long : length xs - 0 ≡ length xs
    long = omega arith

-- these bytes are after others and before others
between_at : (pre xs post : List ℕ) (from to : ℕ) → to ≤ length xs → bytes_between (pre ++ (xs ++ post)) (length pre + from) (length pre + to) ≡ bytes_between xs from to
between_at pre xs post from to h = between_later pre (xs ++ post) from to ∙ between_front xs post from to h

whole_at : (pre xs post : List ℕ) → bytes_between (pre ++ (xs ++ post)) (length pre) (length pre + length xs) ≡ xs
whole_at pre xs post = ap (λ n. bytes_between (pre ++ (xs ++ post)) n (length pre + length xs)) (let z : length pre ≡ length pre + 0 = omega arith in z) ∙ between_at pre xs post 0 (length xs) (omega arith) ∙ between_whole xs

-- bytes in front of a line have no line ending and no tab
pub record IsFront (front : List ℕ) : Type 0 where
  pub free : list_any (λ b. (b == 10) || (b == 13)) front ≡ false
  pub flat : list_any (λ b. b == 9) front ≡ false

-- a line of both texts that has these bytes in front
abbrev LineBy : List ℕ → List ℕ → List ℕ → Line → Line → Type 0
LineBy t q pm l' l = (line : LineOn t q l' l) × (line.front ≡ pm)

-- a line of both texts

line_made : (t q pre pre' ws ending post post' pm : List ℕ) (number start at next start' at' next' : ℕ)
    → t ≡ pre ++ ((ws ++ ending) ++ post) → q ≡ pre' ++ (pm ++ ((ws ++ ending) ++ post'))
    → start ≡ length pre → at ≡ length pre + length ws → next ≡ length pre + length ws + length ending
    → start' ≡ length pre' → at' ≡ length pre' + length (pm) + length ws → next' ≡ length pre' + length (pm) + length ws + length ending
    → length pre ≤ length pre' → length q + 12 < 2 ^ 64 → 8 * length t + 20 < 2 ^ 64 → IsFront pm → number < 2 ^ 64 → list_any (λ b. b == 9) ws ≡ false
    → ((k : ℕ) → k ≤ length ws → byte_at ((ws ++ ending) ++ post') k ≡ byte_at ((ws ++ ending) ++ post) k)
    → LineBy t q pm (record { number = number; start = start'; end = at'; next = next' }) (record { number = number; start = start; end = at; next = next })
line_made t q pre pre' ws ending post post' pm number start at next start' at' next' te qe s a n s' a' n' low fits small ok few plain same = (
  record {
    gap = gap;
    front = pm;
    flat = ok.flat;
    number = refl;
    counted = few;
    starts = omega (arith, s, s', low);
    ends = omega (arith, a, a', s, s', low);
    nexts = omega (arith, n, n', s, s', low);
    order = omega (arith, s, a);
    onto = omega (arith, a, n);
    short = omega (arith, n, s, s', low, fits, q_long);
    near = omega (arith, n, small, t_long);
    long = ap length text ∙ (let z : length ws ≡ at - start = omega (arith, s, a) in z);
    words = front ∙ ap (λ xs. pm ++ xs) (sym text);
    plain = subst (λ xs. list_any (λ b. b == 9) xs ≡ false) (sym text) plain;
    window = window;
    byte = byte;
  },
  refl,
)
  where
    gap : ℕ
    gap = start' + length pm - start

    whole : List ℕ
    whole = ws ++ ending

    long : length whole ≡ length ws + length ending
    long = length-append ws ending

    marks : List ℕ
    marks = pre' ++ pm

    marks_long : length marks ≡ length pre' + length pm
    marks_long = length-append pre' pm

    regrouped : q ≡ marks ++ (whole ++ post')
    regrouped = qe ∙ sym (append_assoc pre' pm (whole ++ post'))

    q_long : length q ≡ length pre' + length pm + (length ws + length ending + length post')
    q_long = ap length regrouped ∙ length-append marks (whole ++ post') ∙ (let z : length marks + length (whole ++ post') ≡ length pre' + length pm + (length ws + length ending + length post') = omega (arith, marks_long, long, length-append whole post') in z)

    t_long : length t ≡ length pre + (length ws + length ending + length post)
    t_long = ap length te ∙ length-append pre (whole ++ post) ∙ (let z : length pre + length (whole ++ post) ≡ length pre + (length ws + length ending + length post) = omega (arith, long, length-append whole post) in z)

    text : bytes_between t start at ≡ ws
    text =
        ap (λ xs. bytes_between xs start at) (te ∙ ap (λ xs. pre ++ xs) (append_assoc ws ending post))
        ∙ ap (λ i. bytes_between (pre ++ (ws ++ (ending ++ post))) i at) s
        ∙ ap (bytes_between (pre ++ (ws ++ (ending ++ post))) (length pre)) a
        ∙ whole_at pre ws (ending ++ post)

    front : bytes_between q start' at' ≡ pm ++ ws
    front =
        ap (λ xs. bytes_between xs start' at') (qe ∙ ap (λ xs. pre' ++ xs) (ap (λ xs. pm ++ xs) (append_assoc ws ending post') ∙ sym (append_assoc pm ws (ending ++ post'))))
        ∙ ap (λ i. bytes_between (pre' ++ ((pm ++ ws) ++ (ending ++ post'))) i at') s'
        ∙ ap (bytes_between (pre' ++ ((pm ++ ws) ++ (ending ++ post'))) (length pre')) (let z : at' ≡ length pre' + length (pm ++ ws) = omega (arith, a', length-append pm ws) in z)
        ∙ whole_at pre' (pm ++ ws) (ending ++ post')

    window : (i j : ℕ) → start ≤ i → j ≤ next → bytes_between q (i + gap) (j + gap) ≡ bytes_between t i j
    window i j from to = by (nat_le i j) refl
      where
        by : (k : Bool) → nat_le i j ≡ k → bytes_between q (i + gap) (j + gap) ≡ bytes_between t i j
        by true e =
            let order : i ≤ j = grind (arith, e, nat_tests) in
            let fit : j - start ≤ length whole = omega (arith, long, to, n, s) in
            let i' : i + gap ≡ length marks + (i - start) = omega (arith, marks_long, from, s, s', low) in
            let j' : j + gap ≡ length marks + (j - start) = omega (arith, marks_long, from, order, s, s', low) in
            let i'' : i ≡ length pre + (i - start) = omega (arith, from, s) in
            let j'' : j ≡ length pre + (j - start) = omega (arith, from, order, s) in
            ap (λ xs. bytes_between xs (i + gap) (j + gap)) regrouped
            ∙ ap (λ m. bytes_between (marks ++ (whole ++ post')) m (j + gap)) i'
            ∙ ap (bytes_between (marks ++ (whole ++ post')) (length marks + (i - start))) j'
            ∙ between_at marks whole post' (i - start) (j - start) fit
            ∙ sym (ap (λ xs. bytes_between xs i j) te ∙ ap (λ m. bytes_between (pre ++ (whole ++ post)) m j) i'' ∙ ap (bytes_between (pre ++ (whole ++ post)) (length pre + (i - start))) j'' ∙ between_at pre whole post (i - start) (j - start) fit)
        by false e =
            let more : nat_le (i + gap) (j + gap) ≡ false = let z : j < i = grind (arith, e, nat_tests) in grind (arith, z, nat_tests) in
            none q (i + gap) (j + gap) more ∙ sym (none t i j e)
          where
            none : (xs : List ℕ) (a b : ℕ) → nat_le a b ≡ false → bytes_between xs a b ≡ []
            none xs a b f = rw f refl

    byte : (i : ℕ) → start ≤ i → i ≤ at → byte_at q (i + gap) ≡ byte_at t i
    byte i from to =
        let i' : i + gap ≡ length marks + (i - start) = omega (arith, marks_long, from, s, s', low) in
        let i'' : i ≡ length pre + (i - start) = omega (arith, from, s) in
        ap (λ xs. byte_at xs (i + gap)) regrouped ∙ ap (byte_at (marks ++ (whole ++ post'))) i' ∙ byte_later marks (whole ++ post') (i - start)
        ∙ same (i - start) (omega (arith, from, to, s, a))
        ∙ sym (ap (λ xs. byte_at xs i) te ∙ ap (byte_at (pre ++ (whole ++ post))) i'' ∙ byte_later pre (whole ++ post) (i - start))

-- what holds of the bytes in front of a line, of how many lines are before it, and of its first byte
abbrev pub FrontTest : Type 1
FrontTest = ℕ → List ℕ → ℕ → Type 0

-- a line of both texts, from a place on, with so many lines before it
pub record Row (P : FrontTest) (t q : List ℕ) (before n : ℕ) (there here : Line) : Type 0 where
  pub low : n ≤ here.start
  pub line : LineOn t q there here
  pub kind : P before line.front (byte_at t here.start)

-- all lines of both texts, from a place on
abbrev pub LinesOn : FrontTest → List ℕ → List ℕ → ℕ → ℕ → List Line → List Line → Type 0
LinesOn P t q before n [] [] = Unit
LinesOn P t q before n [] (l ∷ ls) = ⊥
LinesOn P t q before n (l' ∷ ls') [] = ⊥
LinesOn P t q before n (l' ∷ ls') (l ∷ ls) = Row P t q before n l' l × LinesOn P t q (before + 1) l.next ls' ls

-- bytes with those in front of each line, if so many lines begin before them, and if they begin at the front of a line or not
abbrev pub with_fronts : (ℕ → ℕ → List ℕ) → ℕ → Bool → List ℕ → List ℕ
with_fronts fronts n front [] = []
with_fronts fronts n true (b ∷ bs) = fronts n b ++ (b ∷ with_fronts fronts (n + 1) (ends_line b bs) bs)
with_fronts fronts n false (b ∷ bs) = b ∷ with_fronts fronts n (ends_line b bs) bs

abbrev pub AreFronts : FrontTest → (ℕ → ℕ → List ℕ) → ℕ → Bool → List ℕ → Type 0
AreFronts P fronts n front [] = Unit
AreFronts P fronts n true (b ∷ bs) = P n (fronts n b) b × AreFronts P fronts (n + 1) (ends_line b bs) bs
AreFronts P fronts n false (b ∷ bs) = AreFronts P fronts n (ends_line b bs) bs

-- such bytes have no line ending and no tab
abbrev pub GoodFronts : FrontTest → Type 0
GoodFronts P = (n : ℕ) (front : List ℕ) (b : ℕ) → P n front b → IsFront front

-- where lines end

abbrev is_empty : List ℕ → Bool
is_empty [] = true
is_empty (x ∷ xs) = false

ends_by : (b : ℕ) (bs : List ℕ) (last : Bool) → last ≡ is_empty bs → ((b == 10) || ((b == 13) && not (byte_at bs 0 == 10)) || ((b == 13) && last)) ≡ ends_line b bs
ends_by b [] last e = rw e (by (b == 10) (b == 13))
  where
    by : (x y : Bool) → (x || (y && false) || (y && true)) ≡ (x || y)
    by true y = refl
    by false true = refl
    by false false = refl
ends_by b (c ∷ cs) last e = rw e (by (b == 10) (b == 13) (not (c == 10)))
  where
    by : (x y z : Bool) → (x || (y && z) || (y && false)) ≡ (x || (y && z))
    by true y z = refl
    by false true true = refl
    by false true false = refl
    by false false z = refl

ends_in : (t front : List ℕ) (b : ℕ) (bs : List ℕ) (at : ℕ) → t ≡ front ++ (b ∷ bs) → at ≡ length front → length t + 12 < 2 ^ 64 → ends_here t b at ≡ ends_line b bs
unfolding ends_here
ends_in t front b bs at te a fits = rw next (ends_by b bs (nat_le (length t) (plus at 1)) (past bs long))
  where
    long : length t ≡ length front + suc (length bs)
    long = ap length te ∙ length-append front (b ∷ bs)

    after : plus at 1 ≡ length front + 1
    after = omega (arith, a, long, fits)

    next : byte_at t (plus at 1) ≡ byte_at bs 0
    next = ap (byte_at t) after ∙ ap (λ xs. byte_at xs (length front + 1)) te ∙ byte_later front (b ∷ bs) 1

    past : (cs : List ℕ) → length t ≡ length front + suc (length cs) → nat_le (length t) (plus at 1) ≡ is_empty cs
    past [] l = let z : length t ≤ plus at 1 = omega (arith, after, l) in grind (arith, z, nat_tests)
    past (c ∷ cs) l = let z : plus at 1 < length t = omega (arith, after, l) in grind (arith, z, nat_tests)

-- the bytes in front change no line ending
ends_front : (b c : ℕ) (ms ys : List ℕ) → list_any (λ b. (b == 10) || (b == 13)) ms ≡ false → not (c == 10) ≡ true → ends_line b (ms ++ (c ∷ ys)) ≡ ((b == 10) || ((b == 13) && true))
ends_front b c [] ys h k = ap (λ x. (b == 10) || ((b == 13) && x)) k
ends_front b c (m ∷ ms) ys h k = ap (λ x. (b == 10) || ((b == 13) && not x)) ((both_false (m == 10) (m == 13) ((both_false ((m == 10) || (m == 13)) (list_any (λ b. (b == 10) || (b == 13)) ms) h).0)).0)

ends_feed : (c : ℕ) (ms ys : List ℕ) → ends_line 10 (ms ++ (c ∷ ys)) ≡ true
ends_feed c [] ys = refl
ends_feed c (m ∷ ms) ys = refl

mark_free : (m : Mark) → list_any (λ b. (b == 10) || (b == 13)) (mark_bytes m) ≡ false
mark_free m = spaces m.spaces
  where
    last : (k : Bool) → list_any (λ b. (b == 10) || (b == 13)) (62 ∷ space_if k) ≡ false
    last true = refl
    last false = refl

    spaces : (s : ℕ) → list_any (λ b. (b == 10) || (b == 13)) (replicate s 32 ++ (62 ∷ space_if m.spaced)) ≡ false
    spaces zero = last m.spaced
    spaces (suc s) = spaces s

mark_flat : (m : Mark) → list_any (λ b. b == 9) (mark_bytes m) ≡ false
mark_flat m = spaces m.spaces
  where
    last : (k : Bool) → list_any (λ b. b == 9) (62 ∷ space_if k) ≡ false
    last true = refl
    last false = refl

    spaces : (s : ℕ) → list_any (λ b. b == 9) (replicate s 32 ++ (62 ∷ space_if m.spaced)) ≡ false
    spaces zero = last m.spaced
    spaces (suc s) = spaces s

mark_long : (m : Mark) → m.spaces ≤ 3 → length (mark_bytes m) ≤ 5
mark_long m low = by m.spaced refl
  where
    by : (k : Bool) → m.spaced ≡ k → length (mark_bytes m) ≤ 5
    by true e = omega (arith, low, length-replicate {A = ℕ} m.spaces 32, length-append {A = ℕ} (replicate m.spaces 32) (62 ∷ space_if m.spaced), ap (λ (x : Bool). length (space_if x)) e)
    by false e = omega (arith, low, length-replicate {A = ℕ} m.spaces 32, length-append {A = ℕ} (replicate m.spaces 32) (62 ∷ space_if m.spaced), ap (λ (x : Bool). length (space_if x)) e)

ends_marked : (P : FrontTest) → GoodFronts P → (fronts : ℕ → ℕ → List ℕ) (n b : ℕ) (bs : List ℕ) → AreFronts P fronts n (ends_line b bs) bs → ends_line b (with_fronts fronts n (ends_line b bs) bs) ≡ ends_line b bs
ends_marked P good fronts n b [] are = refl
ends_marked P good fronts n b (c ∷ cs) are = by (ends_line b (c ∷ cs)) refl are
  where
    by : (k : Bool) → ends_line b (c ∷ cs) ≡ k → AreFronts P fronts n k (c ∷ cs) → ends_line b (with_fronts fronts n k (c ∷ cs)) ≡ k
    by true e are = each (b == 10) (b == 13) (not (c == 10)) refl refl refl e
      where
        goes : list_any (λ b. (b == 10) || (b == 13)) (fronts n c) ≡ false
        goes = (good n (fronts n c) c (are.0)).free

        rest : List ℕ
        rest = with_fronts fronts (n + 1) (ends_line c cs) cs

        each : (x y z : Bool) → (b == 10) ≡ x → (b == 13) ≡ y → not (c == 10) ≡ z → (x || (y && z)) ≡ true → ends_line b (fronts n c ++ (c ∷ rest)) ≡ true
        each true y z p q r f = let z : b ≡ 10 = grind (arith, p, nat_tests) in ap (λ k. ends_line k (fronts n c ++ (c ∷ rest))) z ∙ ends_feed c (fronts n c) rest
        each false true true p q r f = ends_front b c (fronts n c) rest goes r ∙ rw (p, q) refl
        each false true false p q r f = absurd cc
        each false false z p q r f = absurd cc
    by false e are = e

marked_length : (marks : ℕ → Mark) (n : ℕ) (front : Bool) (xs : List ℕ) → AreMarks marks n front xs → length (marked marks n front xs) ≤ 6 * length xs
marked_length marks n front [] h = omega arith
marked_length marks n true (x ∷ xs) h = omega (arith, mark_long (marks n) (h.0.0), length-append (mark_bytes (marks n)) (x ∷ marked marks (n + 1) (ends_line x xs) xs), marked_length marks (n + 1) (ends_line x xs) xs (h.1))
marked_length marks n false (x ∷ xs) h = omega (arith, marked_length marks n (ends_line x xs) xs h)

none_at : (xs ys : List ℕ) (i : ℕ) → list_any (λ b. (b == 10) || (b == 13)) xs ≡ false → i < length xs → (byte_at (xs ++ ys) i == 13) ≡ false
none_at [] ys i h l = absurd (omega (arith, l))
none_at (x ∷ xs) ys zero h l = (both_false (x == 10) (x == 13) ((both_false ((x == 10) || (x == 13)) (list_any (λ b. (b == 10) || (b == 13)) xs) h).0)).1
none_at (x ∷ xs) ys (suc i) h l = none_at xs ys i ((both_false ((x == 10) || (x == 13)) (list_any (λ b. (b == 10) || (b == 13)) xs) h).1) (omega (arith, l))

-- a line goes on after bytes without a line ending
goes_past : (q : List ℕ) (before start at : ℕ) (ms rest : List ℕ) → list_any (λ b. (b == 10) || (b == 13)) ms ≡ false → lines_from q before start at (ms ++ rest) ≡ lines_from q before start (at + length ms) rest
unfolding ends_here
goes_past q before start at [] rest h = ap (λ n. lines_from q before start n rest) (let z : at ≡ at + 0 = omega arith in z)
goes_past q before start at (m ∷ ms) rest h =
    let both = both_false ((m == 10) || (m == 13)) (list_any (λ b. (b == 10) || (b == 13)) ms) h in
    let each = both_false (m == 10) (m == 13) (both.0) in
    rw (each.0, each.1) (goes_past q before start (at + 1) ms rest (both.1) ∙ ap (λ n. lines_from q before start n rest) (let z : at + 1 + length ms ≡ at + suc (length ms) = omega arith in z))

any_end : (p : ℕ → Bool) (xs : List ℕ) (b : ℕ) → list_any p xs ≡ false → p b ≡ false → list_any p (xs ++ b ∷ []) ≡ false
any_end p [] b h k = rw k refl
any_end p (x ∷ xs) b h k = let both = both_false (p x) (list_any p xs) h in rw (both.0) (any_end p xs b (both.1) k)

any_front : (p : ℕ → Bool) (xs ys : List ℕ) → list_any p (xs ++ ys) ≡ false → list_any p xs ≡ false
any_front p [] ys h = refl
any_front p (x ∷ xs) ys h = let both = both_false (p x) (list_any p (xs ++ ys)) h in rw (both.0) (any_front p xs ys (both.1))

-- the last byte, if there is one
abbrev LastView : List ℕ → Type 0
LastView ws = (ws ≡ []) ⊎ ((us : List ℕ) × (c : ℕ) × (ws ≡ us ++ c ∷ []))

last_view : (ws : List ℕ) → LastView ws
last_view [] = inl refl
last_view (x ∷ xs) = by (last_view xs)
  where
    by : LastView xs → LastView (x ∷ xs)
    by (inl e) = inr ([], x, ap (λ ys. x ∷ ys) e)
    by (inr (us, c, e)) = inr (x ∷ us, c, ap (λ ys. x ∷ ys) e)

byte_mid : (us post : List ℕ) (c : ℕ) → byte_at ((us ++ c ∷ []) ++ post) (length us) ≡ c
byte_mid [] post c = refl
byte_mid (u ∷ us) post c = byte_mid us post c

pub in_front : (xs ys : List ℕ) (i : ℕ) → i < length xs → byte_at (xs ++ ys) i ≡ byte_at xs i
in_front [] ys i h = absurd (omega (arith, h))
in_front (x ∷ xs) ys zero h = refl
in_front (x ∷ xs) ys (suc i) h = in_front xs ys i (omega (arith, h))

stop_none : (t : List ℕ) (start b at : ℕ) → ((b == 10) && nat_lt start at && (byte_at t (at - 1) == 13)) ≡ false → line_stop t start b at ≡ at
unfolding line_stop
stop_none t start b at h = rw h refl

stop_some : (t : List ℕ) (start b at : ℕ) → ((b == 10) && nat_lt start at && (byte_at t (at - 1) == 13)) ≡ true → line_stop t start b at ≡ at - 1
unfolding line_stop
stop_some t start b at h = rw h refl

-- the lines from the front of a line on
abbrev AtFront : FrontTest → (ℕ → ℕ → List ℕ) → List ℕ → List ℕ → List ℕ → Type 0
AtFront P fronts t q rest = (pre pre' : List ℕ) (before at at' : ℕ) → t ≡ pre ++ rest → q ≡ pre' ++ with_fronts fronts before true rest → at ≡ length pre → at' ≡ length pre' → length pre ≤ length pre' → AreFronts P fronts before true rest → list_any (λ b. b == 9) rest ≡ false
    → LinesOn P t q before at (lines_from q before at' at' (with_fronts fronts before true rest)) (lines_from t before at at rest)

-- the lines from a place in a line on
abbrev WithIn : FrontTest → (ℕ → ℕ → List ℕ) → List ℕ → List ℕ → List ℕ → Type 0
WithIn P fronts t q rest = (pre pre' pm ws : List ℕ) (before start at start' at' : ℕ) → t ≡ pre ++ (ws ++ rest) → q ≡ pre' ++ (pm ++ (ws ++ with_fronts fronts (before + 1) false rest)) → start ≡ length pre → at ≡ length pre + length ws → start' ≡ length pre' → at' ≡ length pre' + length pm + length ws
    → length pre ≤ length pre' → 0 < length ws + length rest → P before pm (byte_at (ws ++ rest) 0) → AreFronts P fronts (before + 1) false rest → list_any (λ b. b == 9) ws ≡ false → list_any (λ b. b == 9) rest ≡ false
    → LinesOn P t q before start (lines_from q before start' at' (with_fronts fronts (before + 1) false rest)) (lines_from t before start at rest)

-- what is known of both texts
record Fit (t q : List ℕ) : Type 0 where
  fits : length q + 12 < 2 ^ 64
  small : 8 * length t + 20 < 2 ^ 64

-- the number of a line is small
few_lines : (before : ℕ) → plus before 1 < 2 ^ 64
few_lines before = omega arith

row : (P : FrontTest) (t q pm rest : List ℕ) (before n : ℕ) (l' l : Line) → n ≡ l.start → byte_at t l.start ≡ byte_at rest 0 → P before pm (byte_at rest 0) → LineBy t q pm l' l → Row P t q before n l' l
row P t q pm rest before n l' l e f k (line, g) = record {
  low = omega (arith, e);
  line = line;
  kind = subst (λ b. P before line.front b) (sym f) (subst (λ xs. P before xs (byte_at rest 0)) (sym g) k);
}

-- the first byte of a line
first_byte : (t pre rest : List ℕ) (start : ℕ) → t ≡ pre ++ rest → start ≡ length pre → byte_at t start ≡ byte_at rest 0
first_byte t pre rest start te s = ap (λ xs. byte_at xs start) te ∙ ap (byte_at (pre ++ rest)) (let z : start ≡ length pre + 0 = omega (arith, s) in z) ∙ byte_later pre rest 0

last_made : (P : FrontTest) → GoodFronts P → (fronts : ℕ → ℕ → List ℕ) (t q : List ℕ) → Fit t q → WithIn P fronts t q []
last_made P good fronts t q f pre pre' pm ws before start at start' at' te qe s a s' a' low some k are plain none = rw (near, far) (row P t q pm (ws ++ []) before start _ _ refl (first_byte t pre (ws ++ []) start te s) k made, tt)
  where
    near : nat_lt start at ≡ true
    near = let z : start < at = omega (arith, s, a, some) in grind (arith, z, nat_tests)

    far : nat_lt start' at' ≡ true
    far = let z : start' < at' = omega (arith, s', a', some) in grind (arith, z, nat_tests)

    made : LineBy t q pm (line before start' at' at') (line before start at at)
    made =
        line_made t q pre pre' ws [] [] [] pm (plus before 1) start at at start' at' at'
        (te ∙ ap (λ xs. pre ++ xs) (sym (append-nil (ws ++ [])))) (qe ∙ ap (λ xs. pre' ++ (pm ++ xs)) (sym (append-nil (ws ++ []))))
        s a (omega (arith, a)) s' a' (omega (arith, a')) low f.fits f.small (good before pm _ k) (few_lines before) plain (λ k m. refl)

-- a line ends with this byte, and maybe a carriage return before it
end_made : (pm : List ℕ) → IsFront pm → (t q : List ℕ) (b : ℕ) (bs m : List ℕ) → Fit t q → (pre pre' ws : List ℕ) (before start at start' at' : ℕ) → t ≡ pre ++ (ws ++ (b ∷ bs)) → q ≡ pre' ++ (pm ++ (ws ++ (b ∷ m))) → start ≡ length pre → at ≡ length pre + length ws → start' ≡ length pre' → at' ≡ length pre' + length pm + length ws
    → length pre ≤ length pre' → list_any (λ b. b == 9) ws ≡ false
    → LineBy t q pm (line before start' (line_stop q start' b at') (at' + 1)) (line before start (line_stop t start b at) (at + 1))
end_made pm ok t q b bs m f pre pre' ws before start at start' at' te qe s a s' a' low plain = by (last_view ws)
  where
    Ends : Type 0
    Ends = LineBy t q pm (line before start' (line_stop q start' b at') (at' + 1)) (line before start (line_stop t start b at) (at + 1))

    test : List ℕ → ℕ → ℕ → Bool
    test xs from to = (b == 10) && nat_lt from to && (byte_at xs (to - 1) == 13)

    -- all of the line ending but its last byte is before it
    plain_end : test t start at ≡ false → test q start' at' ≡ false → Ends
    plain_end e e' =
        rw (stop_none q start' b at' e', stop_none t start b at e)
        (line_made t q pre pre' ws (b ∷ []) bs m pm (plus before 1) start at (at + 1) start' at' (at' + 1)
        (te ∙ ap (λ xs. pre ++ xs) (sym (append_assoc ws (b ∷ []) bs))) (qe ∙ ap (λ xs. pre' ++ (pm ++ xs)) (sym (append_assoc ws (b ∷ []) m)))
        s a (omega (arith, a)) s' a' (omega (arith, a')) low f.fits f.small ok (few_lines before) plain
        (λ k z. let l : k < length (ws ++ b ∷ []) = omega (arith, z, length-append ws (b ∷ [])) in in_front (ws ++ b ∷ []) m k l ∙ sym (in_front (ws ++ b ∷ []) bs k l)))

    return_end : (us : List ℕ) (c : ℕ) → ws ≡ us ++ c ∷ [] → test t start at ≡ true → test q start' at' ≡ true → Ends
    return_end us c e g g' =
        let long : length ws ≡ length us + 1 = ap length e ∙ length-append us (c ∷ []) in
        let pieces : (post : List ℕ) → ws ++ (b ∷ post) ≡ (us ++ c ∷ b ∷ []) ++ post = λ post. ap (λ xs. xs ++ (b ∷ post)) e ∙ append_assoc us (c ∷ []) (b ∷ post) ∙ sym (append_assoc us (c ∷ b ∷ []) post) in
        rw (stop_some q start' b at' g', stop_some t start b at g)
        (line_made t q pre pre' us (c ∷ b ∷ []) bs m pm (plus before 1) start (at - 1) (at + 1) start' (at' - 1) (at' + 1)
        (te ∙ ap (λ xs. pre ++ xs) (pieces bs)) (qe ∙ ap (λ xs. pre' ++ (pm ++ xs)) (pieces m))
        s (omega (arith, a, long)) (omega (arith, a, long)) s' (omega (arith, a', long)) (omega (arith, a', long)) low f.fits f.small ok (few_lines before)
        (any_front (λ x. x == 9) us (c ∷ []) (subst (λ xs. list_any (λ x. x == 9) xs ≡ false) e plain))
        (λ k z. let l : k < length (us ++ c ∷ b ∷ []) = omega (arith, z, length-append us (c ∷ b ∷ [])) in in_front (us ++ c ∷ b ∷ []) m k l ∙ sym (in_front (us ++ c ∷ b ∷ []) bs k l)))

    no : (x y z : Bool) → z ≡ false → (x && y && z) ≡ false
    no true true z e = e
    no true false z e = refl
    no false y z e = refl

    none_between : (x y : Bool) → (x && false && y) ≡ false
    none_between true y = refl
    none_between false y = refl

    empty : ws ≡ [] → Ends
    empty e =
        let none : length ws ≡ 0 = ap length e in
        let here : nat_lt start at ≡ false = let z : at ≤ start = omega (arith, s, a, none) in grind (arith, z, nat_tests) in
        plain_end (rw here (none_between (b == 10) (byte_at t (at - 1) == 13))) (before_end pm refl)
      where
        none : length ws ≡ 0
        none = ap length e

        before_end : (ms : List ℕ) → pm ≡ ms → test q start' at' ≡ false
        before_end [] g =
            let zero_long : length pm ≡ 0 = ap length g in
            let there : nat_lt start' at' ≡ false = let z : at' ≤ start' = omega (arith, s', a', none, zero_long) in grind (arith, z, nat_tests) in
            rw there (none_between (b == 10) (byte_at q (at' - 1) == 13))
        before_end (c ∷ ms) g =
            let long : length pm ≡ suc (length ms) = ap length g in
            let place : at' - 1 ≡ length pre' + (length pm - 1) = omega (arith, a', none, long) in
            let there : (byte_at q (at' - 1) == 13) ≡ false =
            ap (λ i. byte_at q i == 13) place ∙ ap (λ (xs : List ℕ). byte_at xs (length pre' + (length pm - 1)) == 13) qe ∙ ap (λ x. x == 13) (byte_later pre' (pm ++ (ws ++ (b ∷ m))) (length pm - 1))
            ∙ none_at pm (ws ++ (b ∷ m)) (length pm - 1) ok.free (omega (arith, long)) in
            no (b == 10) (nat_lt start' at') (byte_at q (at' - 1) == 13) there

    full : (us : List ℕ) (c : ℕ) → ws ≡ us ++ c ∷ [] → Ends
    full us c e =
        let long : length ws ≡ length us + 1 = ap length e ∙ length-append us (c ∷ []) in
        let here : byte_at t (at - 1) ≡ c =
        ap (λ i. byte_at t i) (let z : at - 1 ≡ length pre + length us = omega (arith, a, long) in z) ∙ ap (λ xs. byte_at xs (length pre + length us)) te
        ∙ byte_later pre (ws ++ (b ∷ bs)) (length us) ∙ ap (λ xs. byte_at (xs ++ (b ∷ bs)) (length us)) e ∙ byte_mid us (b ∷ bs) c in
        let there : byte_at q (at' - 1) ≡ c =
        ap (λ i. byte_at q i) (let z : at' - 1 ≡ length pre' + (length pm + length us) = omega (arith, a', long) in z) ∙ ap (λ xs. byte_at xs (length pre' + (length pm + length us))) qe
        ∙ byte_later pre' (pm ++ (ws ++ (b ∷ m))) (length pm + length us) ∙ byte_later pm (ws ++ (b ∷ m)) (length us) ∙ ap (λ xs. byte_at (xs ++ (b ∷ m)) (length us)) e ∙ byte_mid us (b ∷ m) c in
        let near : nat_lt start at ≡ true = let z : start < at = omega (arith, s, a, long) in grind (arith, z, nat_tests) in
        let far : nat_lt start' at' ≡ true = let z : start' < at' = omega (arith, s', a', long) in grind (arith, z, nat_tests) in
        let same : test t start at ≡ test q start' at' = rw (here, there, near, far) refl in
        each (test t start at) refl same
      where
        each : (k : Bool) → test t start at ≡ k → test t start at ≡ test q start' at' → Ends
        each true g same = return_end us c e g (sym same ∙ g)
        each false g same = plain_end g (sym same ∙ g)

    by : LastView ws → Ends
    by (inl e) = empty e
    by (inr (us, c, e)) = full us c e

-- a byte more
step : (P : FrontTest) → GoodFronts P → (fronts : ℕ → ℕ → List ℕ) (t q : List ℕ) (b : ℕ) (bs : List ℕ) → Fit t q → AtFront P fronts t q bs → WithIn P fronts t q bs → WithIn P fronts t q (b ∷ bs)
step P good fronts t q b bs f at_front goes pre pre' pm ws before start at start' at' te qe s a s' a' low some k are plain none =
    rw (there, here) (by (ends_line b bs) refl)
  where
    both : ((b == 9) ≡ false) × (list_any (λ x. x == 9) bs ≡ false)
    both = both_false (b == 9) (list_any (λ x. x == 9) bs) none

    here : ends_here t b at ≡ ends_line b bs
    here = ends_in t (pre ++ ws) b bs at (te ∙ sym (append_assoc pre ws (b ∷ bs))) (omega (arith, a, length-append pre ws)) (omega (arith, f.small))

    in_fronts : (xs m : List ℕ) → pre' ++ (pm ++ (xs ++ m)) ≡ (pre' ++ (pm ++ xs)) ++ m
    in_fronts xs m = ap (λ ys. pre' ++ ys) (sym (append_assoc pm xs m)) ∙ sym (append_assoc pre' (pm ++ xs) m)

    there : ends_here q b at' ≡ ends_line b bs
    there =
        ends_in q (pre' ++ (pm ++ ws)) b (with_fronts fronts (before + 1) (ends_line b bs) bs) at' (qe ∙ in_fronts ws (b ∷ with_fronts fronts (before + 1) (ends_line b bs) bs)) (omega (arith, a', length-append pre' (pm ++ ws), length-append pm ws)) f.fits
        ∙ ends_marked P good fronts (before + 1) b bs are

    more : List ℕ
    more = ws ++ b ∷ []

    long : length more ≡ length ws + 1
    long = length-append ws (b ∷ [])

    regrouped : t ≡ pre ++ (more ++ bs)
    regrouped = te ∙ ap (λ xs. pre ++ xs) (sym (append_assoc ws (b ∷ []) bs))

    regrouped' : (m : List ℕ) → q ≡ pre' ++ (pm ++ (ws ++ (b ∷ m))) → q ≡ pre' ++ (pm ++ (more ++ m))
    regrouped' m e = e ∙ ap (λ xs. pre' ++ (pm ++ xs)) (sym (append_assoc ws (b ∷ []) m))

    by : (k : Bool) → ends_line b bs ≡ k
        → LinesOn P t q before start (if k then line before start' (line_stop q start' b at') (at' + 1) ∷ lines_from q (before + 1) (at' + 1) (at' + 1) (with_fronts fronts (before + 1) k bs) else lines_from q before start' (at' + 1) (with_fronts fronts (before + 1) k bs))
        (if k then line before start (line_stop t start b at) (at + 1) ∷ lines_from t (before + 1) (at + 1) (at + 1) bs else lines_from t before start (at + 1) bs)
    by true e = (row P t q pm (ws ++ (b ∷ bs)) before start _ _ refl (first_byte t pre (ws ++ (b ∷ bs)) start te s) k (end_made pm (good before pm _ k) t q b bs (with_fronts fronts (before + 1) true bs) f pre pre' ws before start at start' at' te qe' s a s' a' low plain), after)
      where
        qe' : q ≡ pre' ++ (pm ++ (ws ++ (b ∷ with_fronts fronts (before + 1) true bs)))
        qe' = qe ∙ ap (λ k. pre' ++ (pm ++ (ws ++ (b ∷ with_fronts fronts (before + 1) k bs)))) e

        far : length (pre' ++ (pm ++ more)) ≡ length pre' + (length pm + (length ws + 1))
        far = length-append pre' (pm ++ more) ∙ ap (λ n. length pre' + n) (length-append pm more ∙ ap (λ n. length pm + n) long)

        after : LinesOn P t q (before + 1) (at + 1) (lines_from q (before + 1) (at' + 1) (at' + 1) (with_fronts fronts (before + 1) true bs)) (lines_from t (before + 1) (at + 1) (at + 1) bs)
        after =
            at_front (pre ++ more) (pre' ++ (pm ++ more)) (before + 1) (at + 1) (at' + 1) (regrouped ∙ sym (append_assoc pre more bs)) (regrouped' (with_fronts fronts (before + 1) true bs) qe' ∙ in_fronts more (with_fronts fronts (before + 1) true bs))
            (omega (arith, a, long, length-append pre more)) (omega (arith, a', far)) (omega (arith, low, long, length-append pre more, far)) (subst (λ k. AreFronts P fronts (before + 1) k bs) e are) (both.1)
    by false e =
        goes pre pre' pm more before start (at + 1) start' (at' + 1) regrouped (regrouped' (with_fronts fronts (before + 1) false bs) (qe ∙ ap (λ k. pre' ++ (pm ++ (ws ++ (b ∷ with_fronts fronts (before + 1) k bs)))) e))
        s (omega (arith, a, long)) s' (omega (arith, a', long)) low (omega (arith, long))
        (subst (λ (xs : List ℕ). P before pm (byte_at xs 0)) (sym (append_assoc ws (b ∷ []) bs)) k)
        (subst (λ k. AreFronts P fronts (before + 1) k bs) e are) (any_end (λ x. x == 9) ws b plain (both.0)) (both.1)

-- the first byte of a line
begin : (P : FrontTest) → GoodFronts P → (fronts : ℕ → ℕ → List ℕ) (t q : List ℕ) (b : ℕ) (bs : List ℕ) → WithIn P fronts t q (b ∷ bs) → AtFront P fronts t q (b ∷ bs)
begin P good fronts t q b bs goes pre pre' before at at' te qe a a' low are none =
    subst (λ ls. LinesOn P t q before at ls (lines_from t before at at (b ∷ bs))) (sym (goes_past q before at' at' (fronts before b) (with_fronts fronts (before + 1) false (b ∷ bs)) ((good before (fronts before b) b (are.0)).free)))
    (goes pre pre' (fronts before b) [] before at at at' (at' + length (fronts before b)) te qe a (omega (arith, a)) a' (omega (arith, a')) low (omega arith) (are.0) (are.1) refl none)

all_lines : (P : FrontTest) → GoodFronts P → (fronts : ℕ → ℕ → List ℕ) (t q rest : List ℕ) → Fit t q → AtFront P fronts t q rest × WithIn P fronts t q rest
all_lines P good fronts t q [] f = (λ pre pre' before at at' te qe a a' low are none. nothing before at at', last_made P good fronts t q f)
  where
    nothing : (before at at' : ℕ) → LinesOn P t q before at (last_line before at' at') (last_line before at at)
    nothing before at at' = rw (same at, same at') tt
      where
        same : (n : ℕ) → nat_lt n n ≡ false
        same n = grind (arith, nat_tests)
all_lines P good fronts t q (b ∷ bs) f = by (all_lines P good fronts t q bs f)
  where
    by : AtFront P fronts t q bs × WithIn P fronts t q bs → AtFront P fronts t q (b ∷ bs) × WithIn P fronts t q (b ∷ bs)
    by (at_front, goes) = let inside : WithIn P fronts t q (b ∷ bs) = step P good fronts t q b bs f at_front goes in (begin P good fronts t q b bs inside, inside)

-- the lines of a text with such bytes in front of each
pub fronted_lines : (P : FrontTest) → GoodFronts P → (fronts : ℕ → ℕ → List ℕ) (t : List ℕ) → length (with_fronts fronts 0 true t) + 12 < 2 ^ 64 → 8 * length t + 20 < 2 ^ 64 → list_any (λ b. b == 9) t ≡ false → AreFronts P fronts 0 true t
    → LinesOn P t (with_fronts fronts 0 true t) 0 0 (lines_of (with_fronts fronts 0 true t)) (lines_of t)
fronted_lines P good fronts t fits small none are = (all_lines P good fronts t (with_fronts fronts 0 true t) t (record { fits = fits; small = small })).0 [] [] 0 0 0 refl refl refl refl (omega arith) are none

-- markers of block quotes

-- the bytes are a marker before this byte
abbrev pub IsMarked : FrontTest
IsMarked n front b = (m : Mark) × (front ≡ mark_bytes m) × IsMark m b

marked_fronts : (marks : ℕ → Mark) (n : ℕ) (front : Bool) (xs : List ℕ) → marked marks n front xs ≡ with_fronts (λ n b. mark_bytes (marks n)) n front xs
marked_fronts marks n front [] = refl
marked_fronts marks n true (b ∷ bs) = ap (λ xs. mark_bytes (marks n) ++ (b ∷ xs)) (marked_fronts marks (n + 1) (ends_line b bs) bs)
marked_fronts marks n false (b ∷ bs) = ap (λ xs. b ∷ xs) (marked_fronts marks n (ends_line b bs) bs)

marks_are : (marks : ℕ → Mark) (n : ℕ) (front : Bool) (xs : List ℕ) → AreMarks marks n front xs → AreFronts IsMarked (λ n b. mark_bytes (marks n)) n front xs
marks_are marks n front [] h = tt
marks_are marks n true (b ∷ bs) h = ((marks n, refl, h.0), marks_are marks (n + 1) (ends_line b bs) bs (h.1))
marks_are marks n false (b ∷ bs) h = marks_are marks n (ends_line b bs) bs h

marks_good : GoodFronts IsMarked
marks_good n front b (m, e, k) = record { free = ap (list_any (λ b. (b == 10) || (b == 13))) e ∙ mark_free m; flat = ap (list_any (λ b. b == 9)) e ∙ mark_flat m }

pub quoted_lines : (marks : ℕ → Mark) (t : List ℕ) → 8 * length t + 20 < 2 ^ 64 → list_any (λ b. b == 9) t ≡ false → AreMarks marks 0 true t → LinesOn IsMarked t (quoted marks t) 0 0 (lines_of (quoted marks t)) (lines_of t)
quoted_lines marks t fits none are =
    subst (λ q. LinesOn IsMarked t q 0 0 (lines_of q) (lines_of t)) (sym (marked_fronts marks 0 true t))
    (fronted_lines IsMarked marks_good (λ n b. mark_bytes (marks n)) t (omega (arith, fits, marked_length marks 0 true t are, ap length (marked_fronts marks 0 true t))) fits none (marks_are marks 0 true t are))

-- a text that isn't empty has a line

first_some : (e : Bool) (l : Line) (xs ys : List Line) → 0 < length ys → 0 < length (if e then l ∷ xs else ys)
first_some true l xs ys h = omega arith
first_some false l xs ys h = h

last_some : (before start at : ℕ) → start < at → 0 < length (last_line before start at)
last_some before start at h = let e : nat_lt start at ≡ true = grind (arith, h, nat_tests) in rw e (omega arith)

some_from : (t : List ℕ) (before start at b : ℕ) (bs : List ℕ) → start ≤ at → 0 < length (lines_from t before start at (b ∷ bs))
some_from t before start at b [] h = first_some (ends_here t b at) _ _ _ (last_some before start (at + 1) (omega (arith, h)))
some_from t before start at b (c ∷ cs) h = first_some (ends_here t b at) _ _ _ (some_from t before start (at + 1) c cs (omega (arith, h)))

pub some_line : (t : List ℕ) → 0 < length t → 0 < length (lines_of t)
some_line [] h = absurd (omega (arith, h))
some_line (b ∷ bs) h = some_from (b ∷ bs) 0 0 0 b bs (omega arith)
