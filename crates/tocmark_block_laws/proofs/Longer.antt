-- A definition of a link that is found in a content is found in a longer one.
use Rattle.std.proofs.Common.{◌≡◌, ◌⊎◌, inl, inr, ℕ, zero, suc, ◌+◌, ◌-◌, ◌^◌, ◌<◌, ◌≤◌, Bool, true, false, ◌==◌, ◌&&◌, ◌||◌, cond, if◌then◌else◌, min, nat_le, nat_lt, nat_eq, List, [], ◌∷◌, ◌++◌, length, take, drop, refl, ap, sym, subst, ◌∙◌, arith, length-append, length-drop, true≢false}
use Rattle.std.specs.Prelude.{take_while, Option, Some, None}
use Rattle.std.proofs.lemmas.Bool.Decides.{nat_tests}
use Rattle.std.proofs.lemmas.List.{drop-append-le, drop_all, take-append-le}
use Rattle.std.proofs.lemmas.List.Sums.{take_while-cons}
use Rattle.tocmark_read_scan.specs.Basic.{plus, byte_at, bytes_between}
use Rattle.tocmark_read_scan.specs.Class.{is_in, run_end}
use Rattle.tocmark_read_scan.specs.declared.class.Class.{Class}
use Rattle.tocmark_read_scan.specs.declared.class.Class.TheVariants.{White, Blank}
use Rattle.tocmark_read_scan.proofs.PlainContent.{byte_behind}
use Rattle.tocmark_read_scan.proofs.PlainTests.{eq_of}
use Rattle.tocmark_read_tokens.specs.Word.{closing_of, ends_enclosed, escapes, enclosed_end, enclosed, ends_bare, depth_after, bare, word, bare_word, word_to, enclosed_word, destination, enclosure_of, title_in, title, is_label_text, label_to, label_from, label, line_end, with_next, title_ended, title_on_line, untitled, or_untitled, titled, not_empty, defined_destination, before_colon, defined_label, definition_with, definition_to, definition_of, definition_at}
use Rattle.tocmark_read_tokens.specs.declared.word.Word.{Word}
use Rattle.tocmark_read_tokens.specs.declared.word.Definition.{Definition}
use Rattle.tocmark_read_tokens.specs.declared.word.Enclosure.{Enclosure}
use Rattle.tocmark_read_tokens.specs.declared.word.Enclosure.TheVariants.{Angled, DoubleQuoted, SingleQuoted, Parenthesized, Bracketed}

-- bytes with others after them

pub byte_front : (xs ys : List ℕ) (k : ℕ) → k < length xs → byte_at (xs ++ ys) k ≡ byte_at xs k
byte_front [] ys k h = absurd (omega (arith, h))
byte_front (x ∷ xs) ys zero h = refl
byte_front (x ∷ xs) ys (suc k) h = let g : suc k < suc (length xs) = h in byte_front xs ys k (omega (arith, g))

byte_past : (xs : List ℕ) (k : ℕ) → length xs ≤ k → byte_at xs k ≡ 10
byte_past [] k h = refl
byte_past (x ∷ xs) zero h = absurd (omega (arith, h))
byte_past (x ∷ xs) (suc k) h = let g : suc (length xs) ≤ suc k = h in byte_past xs k (omega (arith, g))

byte_drop : (q : ℕ) (xs : List ℕ) (k : ℕ) → byte_at (drop q xs) k ≡ byte_at xs (q + k)
byte_drop zero xs k = ap (byte_at xs) (let e : k ≡ 0 + k = omega arith in e)
byte_drop (suc q) [] k = refl
byte_drop (suc q) (x ∷ xs) k = byte_drop q xs k ∙ ap (byte_at (x ∷ xs)) (let e : suc (q + k) ≡ suc q + k = omega arith in e)

pub between_front : (xs ys : List ℕ) (s e : ℕ) → e ≤ length xs → bytes_between (xs ++ ys) s e ≡ bytes_between xs s e
between_front xs ys s e h =
    let long : nat_le e (length (xs ++ ys)) ≡ true = grind (arith, length-append, nat_tests) in
    let short : nat_le e (length xs) ≡ true = grind (arith, nat_tests) in
    rw (long, short) (by (nat_le s e) refl)
  where
    by : (k : Bool) → nat_le s e ≡ k → (if k && true then take (e - s) (drop s (xs ++ ys)) else []) ≡ (if k && true then take (e - s) (drop s xs) else [])
    by false q = refl
    by true q =
        let order : s ≤ e = grind (arith, q, nat_tests) in
        let room : e - s ≤ length (drop s xs) = omega (arith, length-drop s xs, order, h) in
        ap (take (e - s)) (drop-append-le s xs ys (omega (arith, order, h))) ∙ take-append-le (e - s) (drop s xs) ys room

-- a byte that is no line feed is there
inside : (c : List ℕ) (k b : ℕ) → (byte_at c k == b) ≡ true → (b == 10) ≡ false → k < length c
inside c k b h n = by (nat_lt k (length c)) refl
  where
    by : (t : Bool) → nat_lt k (length c) ≡ t → k < length c
    by true q = grind (arith, q, nat_tests)
    by false q =
        let past : length c ≤ k = grind (arith, q, nat_tests) in
        absurd (true≢false (ap (λ x. x == 10) (sym (byte_past c k past) ∙ eq_of (byte_at c k) b h) ∙ n))

-- the last byte is a line feed
abbrev pub IsFed : List ℕ → Type 0
IsFed c = (k : ℕ) → suc k ≡ length c → byte_at c k ≡ 10

fed_drop : (c : List ℕ) (q : ℕ) → IsFed c → q < length c → IsFed (drop q c)
fed_drop c q h low k e = byte_drop q c k ∙ h (q + k) (omega (arith, length-drop q c, e, low))

-- no other byte is the last one
before_last : (c : List ℕ) (k b : ℕ) → IsFed c → (byte_at c k == b) ≡ true → (b == 10) ≡ false → suc k < length c
before_last c k b fed h n = by (nat_lt (suc k) (length c)) refl
  where
    low : k < length c
    low = inside c k b h n

    by : (t : Bool) → nat_lt (suc k) (length c) ≡ t → suc k < length c
    by true q = grind (arith, q, nat_tests)
    by false q =
        let past : length c ≤ suc k = grind (arith, q, nat_tests) in
        let last : suc k ≡ length c = omega (arith, past, low) in
        absurd (true≢false (ap (λ x. x == 10) (sym (fed k last) ∙ eq_of (byte_at c k) b h) ∙ n))

-- what is enclosed

end_same : (k : Enclosure) (escaped : Bool) (place : ℕ) (xs ys : List ℕ) → place + length xs < 2 ^ 64 → enclosed_end k escaped place xs < place + length xs → enclosed_end k escaped place (xs ++ ys) ≡ enclosed_end k escaped place xs
end_same k escaped place [] ys fits h = absurd (omega (arith, h))
end_same k escaped place (x ∷ xs) ys fits h = by (ends_enclosed k escaped x) h (λ f g. end_same k (escapes escaped x) (plus place 1) xs ys f g)
  where
    more : ℕ
    more = enclosed_end k (escapes escaped x) (plus place 1) xs

    all : place + suc (length xs) < 2 ^ 64
    all = fits

    next : plus place 1 ≡ place + 1
    next = omega (arith, all)

    by : (e : Bool) → (if e then place else more) < place + suc (length xs)
        → (plus place 1 + length xs < 2 ^ 64 → more < plus place 1 + length xs → enclosed_end k (escapes escaped x) (plus place 1) (xs ++ ys) ≡ more)
        → (if e then place else enclosed_end k (escapes escaped x) (plus place 1) (xs ++ ys)) ≡ (if e then place else more)
    by true g again = refl
    by false g again = again (omega (arith, next, all)) (omega (arith, next, g))

-- the byte that closes it is there
record Encloses (c u : List ℕ) (from : ℕ) (k : Enclosure) (e : ℕ) : Type 0 where
  same : enclosed (c ++ u) from k ≡ Some e
  low : e < length c
  byte : (byte_at c e == closing_of k) ≡ true

enclosed_same : (c u : List ℕ) (from : ℕ) (k : Enclosure) (e : ℕ) → length c < 2 ^ 64 → from ≤ length c → (closing_of k == 10) ≡ false → enclosed c from k ≡ Some e → Encloses c u from k e
unfolding enclosed
enclosed_same c u from k e fits order n h = by (byte_at c end == closing_of k) refl h
  where
    end : ℕ
    end = enclosed_end k false from (drop from c)

    found : (byte_at c end == closing_of k) ≡ true → end ≡ e → Encloses c u from k e
    found q same =
        let low : end < length c = inside c end (closing_of k) q n in
        let all : from + length (drop from c) ≡ length c = omega (arith, length-drop from c, order) in
        let there : enclosed_end k false from (drop from (c ++ u)) ≡ end = ap (enclosed_end k false from) (drop-append-le from c u order) ∙ end_same k false from (drop from c) u (omega (arith, all, fits)) (omega (arith, all, low)) in
        record {
          same = ap (λ m. if byte_at (c ++ u) m == closing_of k then Some m else None) there
              ∙ ap (λ x. if x == closing_of k then Some end else None) (byte_front c u end low)
              ∙ ap (λ t. if t then Some end else None) q ∙ ap (λ m. Some m) same;
          low = subst (λ m. m < length c) same low;
          byte = subst (λ m. (byte_at c m == closing_of k) ≡ true) same q;
        }

    by : (b : Bool) → (byte_at c end == closing_of k) ≡ b → (if b then Some end else None) ≡ Some e → Encloses c u from k e
    by false q g = absurd cc
    by true q g = found q (let same : end ≡ e = cc in same)

no_feed : (k : Enclosure) → (closing_of k == 10) ≡ false
unfolding closing_of
no_feed Angled = refl
no_feed DoubleQuoted = refl
no_feed SingleQuoted = refl
no_feed Parenthesized = refl
no_feed Bracketed = refl

-- runs

run_same : (k : Class) (xs : List ℕ) (b : ℕ) (bs : List ℕ) → is_in k b ≡ false → take_while (is_in k) (xs ++ b ∷ bs) ≡ take_while (is_in k) xs
run_same k [] b bs h = take_while-cons (is_in k) b bs ∙ ap (λ t. cond t (b ∷ take_while (is_in k) bs) []) h
run_same k (x ∷ xs) b bs h = take_while-cons (is_in k) x (xs ++ b ∷ bs) ∙ ap (λ r. cond (is_in k x) (x ∷ r) []) (run_same k xs b bs h) ∙ sym (take_while-cons (is_in k) x xs)

end_of_run : (k : Class) (c : List ℕ) (q b : ℕ) (bs : List ℕ) → q ≤ length c → is_in k b ≡ false → run_end (c ++ b ∷ bs) q k ≡ run_end c q k
unfolding run_end
end_of_run k c q b bs low h = ap (λ xs. plus q (length (take_while (is_in k) xs))) (drop-append-le q c (b ∷ bs) low) ∙ ap (λ (xs : List ℕ). plus q (length xs)) (run_same k (drop q c) b bs h)

run_few : (k : Class) (xs : List ℕ) → length (take_while (is_in k) xs) ≤ length xs
run_few k [] = omega arith
run_few k (x ∷ xs) = subst (λ (ys : List ℕ). length ys ≤ suc (length xs)) (sym (take_while-cons (is_in k) x xs)) (by (is_in k x) (run_few k xs))
  where
    by : (t : Bool) → length (take_while (is_in k) xs) ≤ length xs → length (cond t (x ∷ take_while (is_in k) xs) []) ≤ suc (length xs)
    by true again = omega (arith, again)
    by false again = omega arith

run_is : (k : Class) (xs : List ℕ) (i : ℕ) → i < length (take_while (is_in k) xs) → is_in k (byte_at xs i) ≡ true
run_is k [] i h = absurd (omega (arith, h))
run_is k (x ∷ xs) i h = by (is_in k x) refl i (subst (λ (ys : List ℕ). i < length ys) (take_while-cons (is_in k) x xs) h) (λ j g. run_is k xs j g)
  where
    by : (t : Bool) → is_in k x ≡ t → (j : ℕ) → j < length (cond t (x ∷ take_while (is_in k) xs) []) → ((m : ℕ) → m < length (take_while (is_in k) xs) → is_in k (byte_at xs m) ≡ true) → is_in k (byte_at (x ∷ xs) j) ≡ true
    by false e j g again = absurd (omega (arith, g))
    by true e zero g again = e
    by true e (suc j) g again = let m : suc j < suc (length (take_while (is_in k) xs)) = g in again j (omega (arith, m))

-- where a run ends
record RunEnd (k : Class) (c : List ℕ) (q : ℕ) : Type 0 where
  first : q ≤ run_end c q k
  last : run_end c q k ≤ length c
  all : (i : ℕ) → q ≤ i → i < run_end c q k → is_in k (byte_at c i) ≡ true

run_ends : (k : Class) (c : List ℕ) (q : ℕ) → length c < 2 ^ 64 → q ≤ length c → RunEnd k c q
unfolding run_end
run_ends k c q fits low =
    record {
      first = omega (arith, sum);
      last = omega (arith, sum, few, length-drop q c, low);
      all = λ i from to.
          let at : q + (i - q) ≡ i = omega (arith, from) in
          let within : i - q < length (take_while (is_in k) (drop q c)) = omega (arith, from, to, sum) in
          ap (is_in k) (sym (byte_drop q c (i - q) ∙ ap (byte_at c) at)) ∙ run_is k (drop q c) (i - q) within;
    }
  where
    few : length (take_while (is_in k) (drop q c)) ≤ length (drop q c)
    few = run_few k (drop q c)

    sum : plus q (length (take_while (is_in k) (drop q c))) ≡ q + length (take_while (is_in k) (drop q c))
    sum = omega (arith, few, length-drop q c, low, fits)

-- what comes after a content that ends with a line feed
pub record Follows (c : List ℕ) (b : ℕ) : Type 0 where
  pub fits : length c < 2 ^ 64
  pub fed : IsFed c
  pub white : is_in White b ≡ false
  pub blank : is_in Blank b ≡ false
  pub opens : enclosure_of b ≡ None

-- the rest of a line is blank

feed_not_blank : is_in Blank 10 ≡ false
unfolding is_in
feed_not_blank = refl

feed_white : is_in White 10 ≡ true
unfolding is_in
feed_white = refl

-- the blanks before the last line feed end before it
blanks_end : (c : List ℕ) (q : ℕ) → length c < 2 ^ 64 → IsFed c → q < length c → run_end c q Blank < length c
blanks_end c q fits fed low = by (nat_lt (run_end c q Blank) (length c)) refl
  where
    r : RunEnd Blank c q
    r = run_ends Blank c q fits (omega (arith, low))

    last : suc (length c - 1) ≡ length c
    last = omega (arith, low)

    by : (t : Bool) → nat_lt (run_end c q Blank) (length c) ≡ t → run_end c q Blank < length c
    by true e = grind (arith, e, nat_tests)
    by false e =
        let past : length c ≤ run_end c q Blank = grind (arith, e, nat_tests) in
        let blank : is_in Blank (byte_at c (length c - 1)) ≡ true = r.all (length c - 1) (omega (arith, low)) (omega (arith, past, low)) in
        absurd (true≢false (sym blank ∙ ap (is_in Blank) (fed (length c - 1) last) ∙ feed_not_blank))

line_end_same : (c : List ℕ) (b : ℕ) (bs : List ℕ) (q : ℕ) → Follows c b → q < length c → line_end (c ++ b ∷ bs) q ≡ line_end c q
unfolding line_end
line_end_same c b bs q f low =
    ap (λ n. if byte_at (c ++ b ∷ bs) n == 10 then Some (min (plus n 1) (length (c ++ b ∷ bs))) else None) (end_of_run Blank c q b bs (omega (arith, low)) f.blank)
    ∙ ap (λ x. if x == 10 then Some (min (plus end 1) (length (c ++ b ∷ bs))) else None) (byte_front c (b ∷ bs) end before)
    ∙ ap (λ n. if byte_at c end == 10 then Some n else None) (omega (arith, before, length-append c (b ∷ bs), fits))
  where
    end : ℕ
    end = run_end c q Blank

    fits : length c < 2 ^ 64
    fits = f.fits

    before : end < length c
    before = blanks_end c q f.fits f.fed low

-- where a line ends
record LineEnd (c : List ℕ) (q n : ℕ) : Type 0 where
  next : n ≡ suc (run_end c q Blank)
  low : n ≤ length c
  feed : byte_at c (run_end c q Blank) ≡ 10

line_ends : (c : List ℕ) (q n : ℕ) → length c < 2 ^ 64 → IsFed c → q < length c → line_end c q ≡ Some n → LineEnd c q n
unfolding line_end
line_ends c q n fits fed low h = by (byte_at c end == 10) refl h
  where
    end : ℕ
    end = run_end c q Blank

    before : end < length c
    before = blanks_end c q fits fed low

    next : min (plus end 1) (length c) ≡ suc end
    next = omega (arith, before, fits)

    by : (t : Bool) → (byte_at c end == 10) ≡ t → (if t then Some (min (plus end 1) (length c)) else None) ≡ Some n → LineEnd c q n
    by false e g = absurd cc
    by true e g =
        let same : min (plus end 1) (length c) ≡ n = cc in
        let at : n ≡ suc end = sym same ∙ next in
        record { next = at; low = omega (arith, at, before); feed = eq_of (byte_at c end) 10 e }

-- a bare destination ends at the last line feed at the latest

bare_stops : (depth : ℕ) (escaped : Bool) → ends_bare depth escaped 10 ≡ true
unfolding ends_bare
bare_stops depth escaped = refl

abbrev pub Low : ℕ → List ℕ → ℕ × ℕ → Type 0
Low place xs found = found.1 < place + length xs

bare_same : (depth : ℕ) (escaped : Bool) (place x : ℕ) (xs ys : List ℕ) → place + suc (length xs) < 2 ^ 64 → IsFed (x ∷ xs)
    → (bare depth escaped place ((x ∷ xs) ++ ys) ≡ bare depth escaped place (x ∷ xs)) × Low place (x ∷ xs) (bare depth escaped place (x ∷ xs))
bare_same depth escaped place x [] ys fits fed =
    let feed : x ≡ 10 = fed 0 refl in
    let stops : ends_bare depth escaped x ≡ true = ap (ends_bare depth escaped) feed ∙ bare_stops depth escaped in (
      ap (λ t. if t then (depth, place) else bare (depth_after depth escaped x) (escapes escaped x) (plus place 1) ys) stops
          ∙ sym (ap (λ t. if t then (depth, place) else (depth_after depth escaped x, plus place 1)) stops),
      subst (λ t. Low place (x ∷ []) (if t then (depth, place) else (depth_after depth escaped x, plus place 1))) (sym stops) (omega arith),
    )
bare_same depth escaped place x (z ∷ xs) ys fits fed =
    by (ends_bare depth escaped x) (bare_same (depth_after depth escaped x) (escapes escaped x) (plus place 1) z xs ys (omega (arith, next, all)) (λ k e. fed (suc k) (ap suc e)))
  where
    all : place + suc (suc (length xs)) < 2 ^ 64
    all = fits

    next : plus place 1 ≡ place + 1
    next = omega (arith, all)

    more : ℕ × ℕ
    more = bare (depth_after depth escaped x) (escapes escaped x) (plus place 1) (z ∷ xs)

    longer : ℕ × ℕ
    longer = bare (depth_after depth escaped x) (escapes escaped x) (plus place 1) ((z ∷ xs) ++ ys)

    by : (t : Bool) → (longer ≡ more) × Low (plus place 1) (z ∷ xs) more → ((if t then (depth, place) else longer) ≡ (if t then (depth, place) else more)) × Low place (x ∷ z ∷ xs) (if t then (depth, place) else more)
    by true g = (refl, omega arith)
    by false (same, low) = (same, let k : more.1 < plus place 1 + suc (length xs) = low in omega (arith, k, next))

bare_front : (place : ℕ) (xs ys : List ℕ) → place + length xs < 2 ^ 64 → IsFed xs → 0 < length xs → (bare 0 false place (xs ++ ys) ≡ bare 0 false place xs) × Low place xs (bare 0 false place xs)
bare_front place [] ys fits fed some = absurd (omega (arith, some))
bare_front place (x ∷ xs) ys fits fed some = bare_same 0 false place x xs ys fits fed

-- a word that is found, and that ends before the last line feed
record Found (found : Option Word) (w : Word) (size : ℕ) : Type 0 where
  same : found ≡ Some w
  end : w.end ≤ size
  next : w.next < size

angled_same : (c : List ℕ) (b : ℕ) (bs : List ℕ) (start : ℕ) (w : Word) → Follows c b → start < length c → enclosed_word c start Angled ≡ Some w → Found (enclosed_word (c ++ b ∷ bs) start Angled) w (length c)
unfolding enclosed_word closing_of
angled_same c b bs start w f low h = by (enclosed c (plus start 1) Angled) refl h
  where
    fits : length c < 2 ^ 64
    fits = f.fits

    by : (o : Option ℕ) → enclosed c (plus start 1) Angled ≡ o → word_to (plus start 1) o ≡ Some w → Found (word_to (plus start 1) (enclosed (c ++ b ∷ bs) (plus start 1) Angled)) w (length c)
    by None q g = absurd cc
    by (Some e) q g =
        let same : word (plus start 1) e (plus e 1) ≡ w = cc in
        let k : Encloses c (b ∷ bs) (plus start 1) Angled e = enclosed_same c (b ∷ bs) (plus start 1) Angled e f.fits (omega (arith, low, fits)) (no_feed Angled) q in
        let before : e < length c = k.low in
        let after : suc e < length c = before_last c e 62 f.fed k.byte refl in
        record {
          same = ap (word_to (plus start 1)) k.same ∙ ap (λ v. Some v) same;
          end = subst (λ (v : Word). v.end ≤ length c) same (omega (arith, before));
          next = subst (λ (v : Word). v.next < length c) same (omega (arith, after, fits));
        }

plain_same : (c : List ℕ) (b : ℕ) (bs : List ℕ) (start : ℕ) (w : Word) → Follows c b → start < length c → bare_word c start ≡ Some w → Found (bare_word (c ++ b ∷ bs) start) w (length c)
unfolding bare_word
plain_same c b bs start w f low h = by (found.0 == 0) refl h
  where
    fits : length c < 2 ^ 64
    fits = f.fits

    found : ℕ × ℕ
    found = bare 0 false start (drop start c)

    all : start + length (drop start c) ≡ length c
    all = omega (arith, length-drop start c, low)

    both : (bare 0 false start (drop start c ++ b ∷ bs) ≡ found) × Low start (drop start c) found
    both = bare_front start (drop start c) (b ∷ bs) (omega (arith, all, fits)) (fed_drop c start f.fed low) (omega (arith, all, low))

    there : bare 0 false start (drop start (c ++ b ∷ bs)) ≡ found
    there = ap (bare 0 false start) (drop-append-le start c (b ∷ bs) (omega (arith, low))) ∙ both.0

    by : (t : Bool) → (found.0 == 0) ≡ t → (if t then Some (word start (found.1) (found.1)) else None) ≡ Some w → Found (bare_word (c ++ b ∷ bs) start) w (length c)
    by false q g = absurd cc
    by true q g =
        let same : word start (found.1) (found.1) ≡ w = cc in
        let before : found.1 < start + length (drop start c) = both.1 in
        record {
          same = ap (λ (r : ℕ × ℕ). if r.0 == 0 then Some (word start (r.1) (r.1)) else None) there ∙ ap (λ t. if t then Some (word start (found.1) (found.1)) else None) q ∙ ap (λ v. Some v) same;
          end = subst (λ (v : Word). v.end ≤ length c) same (omega (arith, before, all));
          next = subst (λ (v : Word). v.next < length c) same (omega (arith, before, all));
        }

destination_same : (c : List ℕ) (b : ℕ) (bs : List ℕ) (start : ℕ) (w : Word) → Follows c b → start < length c → destination c start ≡ Some w → Found (destination (c ++ b ∷ bs) start) w (length c)
unfolding destination
destination_same c b bs start w f low h = by (byte_at c start == 60) refl h
  where
    first : (t : Bool) → (byte_at c start == 60) ≡ t → (byte_at (c ++ b ∷ bs) start == 60) ≡ t
    first t q = ap (λ x. x == 60) (byte_front c (b ∷ bs) start low) ∙ q

    by : (t : Bool) → (byte_at c start == 60) ≡ t → (if t then enclosed_word c start Angled else bare_word c start) ≡ Some w
        → Found (if byte_at (c ++ b ∷ bs) start == 60 then enclosed_word (c ++ b ∷ bs) start Angled else bare_word (c ++ b ∷ bs) start) w (length c)
    by true q g = subst (λ t. Found (if t then enclosed_word (c ++ b ∷ bs) start Angled else bare_word (c ++ b ∷ bs) start) w (length c)) (sym (first true q)) (angled_same c b bs start w f low g)
    by false q g = subst (λ t. Found (if t then enclosed_word (c ++ b ∷ bs) start Angled else bare_word (c ++ b ∷ bs) start) w (length c)) (sym (first false q)) (plain_same c b bs start w f low g)

-- nothing is a destination at the end
no_destination : (c : List ℕ) (start : ℕ) → length c ≤ start → not_empty start (destination c start) ≡ None
unfolding destination bare_word
no_destination c start past =
    let same : nat_eq start start ≡ true = grind (arith, nat_tests) in
    ap (λ x. not_empty start (if x == 60 then enclosed_word c start Angled else bare_word c start)) (byte_past c start past)
    ∙ ap (λ (xs : List ℕ). not_empty start (of (bare 0 false start xs))) (drop_all start c past)
    ∙ ap (λ t. if t then None else Some (word start start start)) same
  where
    of : ℕ × ℕ → Option Word
    of found = if found.0 == 0 then Some (word start (found.1) (found.1)) else None

defined_destination_same : (c : List ℕ) (b : ℕ) (bs : List ℕ) (q : ℕ) (w : Word) → Follows c b → q ≤ length c → defined_destination c q ≡ Some w → Found (defined_destination (c ++ b ∷ bs) q) w (length c)
unfolding defined_destination
defined_destination_same c b bs q w f low h = by (nat_lt start (length c)) refl
  where
    start : ℕ
    start = run_end c q White

    same_start : run_end (c ++ b ∷ bs) q White ≡ start
    same_start = end_of_run White c q b bs low f.white

    found : (o : Option Word) → ((v : Word) → o ≡ Some v → Found (destination (c ++ b ∷ bs) start) v (length c)) → not_empty start o ≡ Some w → Found (not_empty start (destination (c ++ b ∷ bs) start)) w (length c)
    found None g e = absurd cc
    found (Some v) g e = some (v.next == start) refl e
      where
        some : (t : Bool) → (v.next == start) ≡ t → (if t then None else Some v) ≡ Some w → Found (not_empty start (destination (c ++ b ∷ bs) start)) w (length c)
        some true k e = absurd cc
        some false k e =
            let same : v ≡ w = cc in
            let d : Found (destination (c ++ b ∷ bs) start) v (length c) = g v refl in
            record {
              same = ap (not_empty start) d.same ∙ ap (λ t. if t then None else Some v) k ∙ ap (λ x. Some x) same;
              end = subst (λ (x : Word). x.end ≤ length c) same d.end;
              next = subst (λ (x : Word). x.next < length c) same d.next;
            }

    by : (t : Bool) → nat_lt start (length c) ≡ t → Found (not_empty (run_end (c ++ b ∷ bs) q White) (destination (c ++ b ∷ bs) (run_end (c ++ b ∷ bs) q White))) w (length c)
    by false e =
        let past : length c ≤ start = grind (arith, e, nat_tests) in
        let none : None ≡ Some w = sym (no_destination c start past) ∙ h in absurd cc
    by true e =
        let before : start < length c = grind (arith, e, nat_tests) in
        subst (λ n. Found (not_empty n (destination (c ++ b ∷ bs) n)) w (length c)) (sym same_start)
        (found (destination c start) (λ v g. destination_same c b bs start v f before g) h)

-- titles

-- a title begins that the content doesn't close
record Unclosed (c : List ℕ) (q : ℕ) : Type 0 where
  low : run_end c q White < length c
  opens : (byte_at c (run_end c q White) == 91) ≡ false
  inked : is_in White (byte_at c (run_end c q White)) ≡ false
  none : title_on_line c q ≡ None

not_opener : (x : ℕ) (k : Enclosure) → enclosure_of x ≡ Some k → ((x == 10) ≡ false) × ((x == 91) ≡ false) × (is_in White x ≡ false)
unfolding enclosure_of is_in
not_opener x k h = by (x == 34) (x == 39) (x == 40) refl refl refl h
  where
    at : (y : ℕ) → (x == y) ≡ true → ((y == 10) ≡ false) × ((y == 91) ≡ false) × (is_in White y ≡ false) → ((x == 10) ≡ false) × ((x == 91) ≡ false) × (is_in White x ≡ false)
    at y e g = subst (λ z. ((z == 10) ≡ false) × ((z == 91) ≡ false) × (is_in White z ≡ false)) (sym (eq_of x y e)) g

    by : (a d e : Bool) → (x == 34) ≡ a → (x == 39) ≡ d → (x == 40) ≡ e → (if a then Some DoubleQuoted else (if d then Some SingleQuoted else (if e then Some Parenthesized else None))) ≡ Some k → ((x == 10) ≡ false) × ((x == 91) ≡ false) × (is_in White x ≡ false)
    by true d e p q r g = at 34 p (refl, refl, refl)
    by false true e p q r g = at 39 q (refl, refl, refl)
    by false false true p q r g = at 40 r (refl, refl, refl)
    by false false false p q r g = absurd cc

no_opener : enclosure_of 10 ≡ None
unfolding enclosure_of
no_opener = refl

title_line_same : (c : List ℕ) (b : ℕ) (bs : List ℕ) (q : ℕ) → Follows c b → q < length c → (title_on_line (c ++ b ∷ bs) q ≡ title_on_line c q) ⊎ Unclosed c q
unfolding title_on_line title enclosed_word
title_line_same c b bs q f low = by (start == q) refl
  where
    start : ℕ
    start = run_end c q White

    fits : length c < 2 ^ 64
    fits = f.fits

    r : RunEnd White c q
    r = run_ends White c q fits (omega (arith, low))

    same_start : run_end (c ++ b ∷ bs) q White ≡ start
    same_start = end_of_run White c q b bs (omega (arith, low)) f.white

    -- the byte after the white space opens the same
    first : enclosure_of (byte_at (c ++ b ∷ bs) start) ≡ enclosure_of (byte_at c start)
    first = at (nat_lt start (length c)) refl
      where
        at : (t : Bool) → nat_lt start (length c) ≡ t → enclosure_of (byte_at (c ++ b ∷ bs) start) ≡ enclosure_of (byte_at c start)
        at true e = ap enclosure_of (byte_front c (b ∷ bs) start (grind (arith, e, nat_tests)))
        at false e =
            let past : length c ≤ start = grind (arith, e, nat_tests) in
            let before : start ≤ length c = r.last in
            let there : start ≡ length c = omega (arith, past, before) in
            ap enclosure_of (byte_behind c bs b start there) ∙ f.opens ∙ sym (ap enclosure_of (byte_past c start past) ∙ no_opener)

    closes : (k : Enclosure) (e : ℕ) → start < length c → enclosed c (plus start 1) k ≡ Some e
        → title_ended (c ++ b ∷ bs) (enclosed_word (c ++ b ∷ bs) start k) ≡ title_ended c (enclosed_word c start k)
    closes k e before h =
        let g : Encloses c (b ∷ bs) (plus start 1) k e = enclosed_same c (b ∷ bs) (plus start 1) k e fits (omega (arith, before, fits)) (no_feed k) h in
        let after : suc e < length c = before_last c e (closing_of k) f.fed g.byte (no_feed k) in
        let next : plus e 1 ≡ suc e = omega (arith, after, fits) in
        let w : Word = word (plus start 1) e (plus e 1) in
        ap (λ (o : Option ℕ). title_ended (c ++ b ∷ bs) (word_to (plus start 1) o)) g.same
        ∙ ap (with_next w) (line_end_same c b bs (plus e 1) f (omega (arith, next, after)))
        ∙ sym (ap (λ (o : Option ℕ). title_ended c (word_to (plus start 1) o)) h)

    opened : (t : Option Enclosure) → enclosure_of (byte_at c start) ≡ t → (start == q) ≡ false
        → (title_ended (c ++ b ∷ bs) (title_in (c ++ b ∷ bs) start t) ≡ title_ended c (title_in c start t)) ⊎ Unclosed c q
    opened None e d = inl refl
    opened (Some k) e d = closed (enclosed c (plus start 1) k) refl
      where
        three : ((byte_at c start == 10) ≡ false) × ((byte_at c start == 91) ≡ false) × (is_in White (byte_at c start) ≡ false)
        three = not_opener (byte_at c start) k e

        before : start < length c
        before = inside c start (byte_at c start) (grind (arith, nat_tests)) (three.0)

        closed : (o : Option ℕ) → enclosed c (plus start 1) k ≡ o → (title_ended (c ++ b ∷ bs) (enclosed_word (c ++ b ∷ bs) start k) ≡ title_ended c (enclosed_word c start k)) ⊎ Unclosed c q
        closed (Some x) g = inl (closes k x before g)
        closed None g = inr (record {
          low = before;
          opens = three.1;
          inked = three.2;
          none = ap (λ t. if t then None else title_ended c (title_in c start (enclosure_of (byte_at c start)))) d
              ∙ ap (λ (t : Option Enclosure). title_ended c (title_in c start t)) e ∙ ap (λ (o : Option ℕ). title_ended c (word_to (plus start 1) o)) g;
        })

    after : ℕ → Option (Word × ℕ)
    after n = title_ended (c ++ b ∷ bs) (title_in (c ++ b ∷ bs) n (enclosure_of (byte_at (c ++ b ∷ bs) n)))

    before : Option (Word × ℕ)
    before = title_ended c (title_in c start (enclosure_of (byte_at c start)))

    joined : (start == q) ≡ false → (title_ended (c ++ b ∷ bs) (title_in (c ++ b ∷ bs) start (enclosure_of (byte_at c start))) ≡ before) ⊎ Unclosed c q → (title_on_line (c ++ b ∷ bs) q ≡ title_on_line c q) ⊎ Unclosed c q
    joined e (inr u) = inr u
    joined e (inl g) = inl (
        ap (λ n. if n == q then None else after n) same_start ∙ ap (λ t. if t then None else after start) e
        ∙ ap (λ x. title_ended (c ++ b ∷ bs) (title_in (c ++ b ∷ bs) start x)) first ∙ g ∙ sym (ap (λ t. if t then None else before) e)
        )

    by : (t : Bool) → (start == q) ≡ t → (title_on_line (c ++ b ∷ bs) q ≡ title_on_line c q) ⊎ Unclosed c q
    by true e = inl (ap (λ n. if n == q then None else after n) same_start ∙ ap (λ t. if t then None else after start) e ∙ sym (ap (λ t. if t then None else before) e))
    by false e = joined e (opened (enclosure_of (byte_at c start)) refl e)

-- where the title of a definition ends, its lines do, or the next definition begins
abbrev pub IsNext : List ℕ → ℕ → Type 0
IsNext c n = (n ≡ length c) ⊎ ((byte_at c n == 91) ≡ true)

untitled_same : (c : List ℕ) (b : ℕ) (bs : List ℕ) (q : ℕ) → Follows c b → q < length c → untitled (c ++ b ∷ bs) q ≡ untitled c q
unfolding untitled
untitled_same c b bs q f low = ap (with_next (word q q q)) (line_end_same c b bs q f low)

blank_white : (x : ℕ) → is_in Blank x ≡ true → is_in White x ≡ true
unfolding is_in
blank_white x h = by (x == 32) (x == 9) h
  where
    by : (a d : Bool) → (a || d) ≡ true → (a || d || (x == 10)) ≡ true
    by true d g = refl
    by false true g = refl
    by false false g = absurd (true≢false (sym g))

-- white space goes on after the end of a line
past_line : (c : List ℕ) (q n : ℕ) → length c < 2 ^ 64 → q < length c → is_in White (byte_at c (run_end c q White)) ≡ false → LineEnd c q n → n ≤ run_end c q White
past_line c q n fits low inked e = at (nat_lt (run_end c q Blank) start) refl
  where
    start : ℕ
    start = run_end c q White

    white : RunEnd White c q
    white = run_ends White c q fits (omega (arith, low))

    blank : RunEnd Blank c q
    blank = run_ends Blank c q fits (omega (arith, low))

    never : is_in White (byte_at c start) ≡ true → ⊥
    never g = true≢false (sym g ∙ inked)

    near : (t : Bool) → nat_lt start (run_end c q Blank) ≡ t → start ≤ run_end c q Blank → ⊥
    near true g k = never (blank_white (byte_at c start) (blank.all start white.first (grind (arith, g, nat_tests))))
    near false g k =
        let same : run_end c q Blank ≡ start = grind (arith, g, k, nat_tests) in
        never (ap (is_in White) (ap (byte_at c) (sym same) ∙ e.feed) ∙ feed_white)

    at : (t : Bool) → nat_lt (run_end c q Blank) start ≡ t → n ≤ start
    at true g = let k : run_end c q Blank < start = grind (arith, g, nat_tests) in omega (arith, k, e.next)
    at false g = absurd (near (nat_lt start (run_end c q Blank)) refl (grind (arith, g, nat_tests)))

bracket_not_white : is_in White 91 ≡ false
unfolding is_in
bracket_not_white = refl

-- an unclosed title comes after the line, so no definition begins there
not_next : (c : List ℕ) (q : ℕ) (w : Word) (n : ℕ) → length c < 2 ^ 64 → IsFed c → q < length c → Unclosed c q → titled c q ≡ Some (w, n) → IsNext c n → ⊥
unfolding titled untitled
not_next c q w n fits fed low u h next = by (line_end c q) refl (sym (ap (or_untitled c q) u.none) ∙ h)
  where
    start : ℕ
    start = run_end c q White

    white : RunEnd White c q
    white = run_ends White c q fits (omega (arith, low))

    inked : start < length c
    inked = u.low

    first : q ≤ run_end c q Blank
    first = let r : RunEnd Blank c q = run_ends Blank c q fits (omega (arith, low)) in r.first

    there : q ≤ n → n ≤ start → IsNext c n → ⊥
    there from to (inl e) = omega (arith, to, inked, e)
    there from to (inr e) = at (nat_lt n start) refl
      where
        at : (t : Bool) → nat_lt n start ≡ t → ⊥
        at true g = true≢false (sym (white.all n from (grind (arith, g, nat_tests))) ∙ ap (is_in White) (eq_of (byte_at c n) 91 e) ∙ bracket_not_white)
        at false g = let same : n ≡ start = grind (arith, g, to, nat_tests) in true≢false (sym e ∙ ap (λ x. byte_at c x == 91) same ∙ u.opens)

    passed : LineEnd c q n → ⊥
    passed ends =
        let at : n ≡ suc (run_end c q Blank) = ends.next in
        there (omega (arith, first, at)) (past_line c q n fits low u.inked ends) next

    by : (o : Option ℕ) → line_end c q ≡ o → with_next (word q q q) o ≡ Some (w, n) → ⊥
    by None e g = absurd cc
    by (Some m) e g =
        let pair : (word q q q, m) ≡ (w, n) = cc in
        passed (subst (λ x. LineEnd c q x) (ap (λ (x : Word × ℕ). x.1) pair) (line_ends c q m fits fed low e))

-- a title that is found, and the place after its line
record Titled (found : Option (Word × ℕ)) (w : Word) (n size : ℕ) : Type 0 where
  same : found ≡ Some (w, n)
  end : w.end ≤ size
  next : n ≤ size

with_next_is : (v w : Word) (n size : ℕ) (o : Option ℕ) → v.end ≤ size → ((m : ℕ) → o ≡ Some m → m ≤ size) → with_next v o ≡ Some (w, n) → (w.end ≤ size) × (n ≤ size)
with_next_is v w n size None end low h = absurd cc
with_next_is v w n size (Some m) end low h =
    let pair : (v, m) ≡ (w, n) = cc in
    let same : v ≡ w = ap (λ (x : Word × ℕ). x.0) pair in
    let at : m ≡ n = ap (λ (x : Word × ℕ). x.1) pair in
    (subst (λ (x : Word). x.end ≤ size) same end, subst (λ x. x ≤ size) at (low m refl))

untitled_low : (c : List ℕ) (q : ℕ) (w : Word) (n : ℕ) → length c < 2 ^ 64 → IsFed c → q < length c → untitled c q ≡ Some (w, n) → (w.end ≤ length c) × (n ≤ length c)
unfolding untitled
untitled_low c q w n fits fed low h = with_next_is (word q q q) w n (length c) (line_end c q) (omega (arith, low)) (λ m e. let k : LineEnd c q m = line_ends c q m fits fed low e in k.low) h

on_line_low : (c : List ℕ) (q : ℕ) (w : Word) (n : ℕ) → length c < 2 ^ 64 → IsFed c → title_on_line c q ≡ Some (w, n) → (w.end ≤ length c) × (n ≤ length c)
unfolding title_on_line title enclosed_word
on_line_low c q w n fits fed h = by (start == q) (enclosure_of (byte_at c start)) refl h
  where
    start : ℕ
    start = run_end c q White

    ended : (k : Enclosure) (o : Option ℕ) → enclosure_of (byte_at c start) ≡ Some k → enclosed c (plus start 1) k ≡ o → title_ended c (word_to (plus start 1) o) ≡ Some (w, n) → (w.end ≤ length c) × (n ≤ length c)
    ended k None e g i = absurd cc
    ended k (Some x) e g i =
        let three : ((byte_at c start == 10) ≡ false) × ((byte_at c start == 91) ≡ false) × (is_in White (byte_at c start) ≡ false) = not_opener (byte_at c start) k e in
        let before : start < length c = inside c start (byte_at c start) (grind (arith, nat_tests)) (three.0) in
        let y : Encloses c [] (plus start 1) k x = enclosed_same c [] (plus start 1) k x fits (omega (arith, before, fits)) (no_feed k) g in
        let there : x < length c = y.low in
        let after : suc x < length c = before_last c x (closing_of k) fed y.byte (no_feed k) in
        let next : plus x 1 ≡ suc x = omega (arith, after, fits) in
        with_next_is (word (plus start 1) x (plus x 1)) w n (length c) (line_end c (plus x 1)) (omega (arith, there))
        (λ m d. let l : LineEnd c (plus x 1) m = line_ends c (plus x 1) m fits fed (omega (arith, next, after)) d in l.low) i

    by : (t : Bool) (o : Option Enclosure) → enclosure_of (byte_at c start) ≡ o → (if t then None else title_ended c (title_in c start o)) ≡ Some (w, n) → (w.end ≤ length c) × (n ≤ length c)
    by true o e g = absurd cc
    by false None e g = absurd cc
    by false (Some k) e g = ended k (enclosed c (plus start 1) k) e refl g

titled_same : (c : List ℕ) (b : ℕ) (bs : List ℕ) (q : ℕ) (w : Word) (n : ℕ) → Follows c b → q < length c → titled c q ≡ Some (w, n) → IsNext c n → Titled (titled (c ++ b ∷ bs) q) w n (length c)
unfolding titled
titled_same c b bs q w n f low h next = record { same = same ∙ h; end = both.0; next = both.1 }
  where
    or_same : (o : Option (Word × ℕ)) → or_untitled (c ++ b ∷ bs) q o ≡ or_untitled c q o
    or_same None = untitled_same c b bs q f low
    or_same (Some x) = refl

    found : (title_on_line (c ++ b ∷ bs) q ≡ title_on_line c q) ⊎ Unclosed c q → or_untitled (c ++ b ∷ bs) q (title_on_line (c ++ b ∷ bs) q) ≡ or_untitled c q (title_on_line c q)
    found (inl g) = ap (or_untitled (c ++ b ∷ bs) q) g ∙ or_same (title_on_line c q)
    found (inr u) = absurd (not_next c q w n f.fits f.fed low u h next)

    same : or_untitled (c ++ b ∷ bs) q (title_on_line (c ++ b ∷ bs) q) ≡ or_untitled c q (title_on_line c q)
    same = found (title_line_same c b bs q f low)

    within : (o : Option (Word × ℕ)) → title_on_line c q ≡ o → or_untitled c q o ≡ Some (w, n) → (w.end ≤ length c) × (n ≤ length c)
    within None e g = untitled_low c q w n f.fits f.fed low g
    within (Some x) e g = on_line_low c q w n f.fits f.fed (e ∙ g)

    both : (w.end ≤ length c) × (n ≤ length c)
    both = within (title_on_line c q) refl h

-- labels

label_same : (c : List ℕ) (u : List ℕ) (p : ℕ) (w : Word) → length c < 2 ^ 64 → IsFed c → label c p ≡ Some w → Found (label (c ++ u) p) w (length c)
unfolding label label_from closing_of
label_same c u p w fits fed h = by (byte_at c p == 91) (enclosed c s Bracketed) refl refl h
  where
    s : ℕ
    s = plus p 1

    found : (e : ℕ) (k : Bool) → (byte_at c p == 91) ≡ true → enclosed c s Bracketed ≡ Some e → is_label_text (bytes_between c s e) ≡ k → (if k then Some (word s e (plus e 1)) else None) ≡ Some w → Found (label (c ++ u) p) w (length c)
    found e false q r i g = absurd cc
    found e true q r i g =
        let there : p < length c = inside c p 91 q refl in
        let x : Encloses c u s Bracketed e = enclosed_same c u s Bracketed e fits (omega (arith, there, fits)) (no_feed Bracketed) r in
        let low : e < length c = x.low in
        let after : suc e < length c = before_last c e 93 fed x.byte refl in
        let same : word s e (plus e 1) ≡ w = cc in
        record {
          same = ap (λ y. if y == 91 then label_to (c ++ u) s (enclosed (c ++ u) s Bracketed) else None) (byte_front c u p there)
              ∙ ap (λ t. if t then label_to (c ++ u) s (enclosed (c ++ u) s Bracketed) else None) q
              ∙ ap (label_to (c ++ u) s) x.same
              ∙ ap (λ ys. if is_label_text ys then Some (word s e (plus e 1)) else None) (between_front c u s e (omega (arith, low)))
              ∙ ap (λ t. if t then Some (word s e (plus e 1)) else None) i ∙ ap (λ v. Some v) same;
          end = subst (λ (v : Word). v.end ≤ length c) same (omega (arith, low));
          next = subst (λ (v : Word). v.next < length c) same (omega (arith, after, fits));
        }

    by : (t : Bool) (o : Option ℕ) → (byte_at c p == 91) ≡ t → enclosed c s Bracketed ≡ o → (if t then label_to c s o else None) ≡ Some w → Found (label (c ++ u) p) w (length c)
    by false o q r g = absurd cc
    by true None q r g = absurd cc
    by true (Some e) q r g = found e (is_label_text (bytes_between c s e)) q r refl g

defined_label_same : (c : List ℕ) (u : List ℕ) (p : ℕ) (w : Word) → length c < 2 ^ 64 → IsFed c → defined_label c p ≡ Some w → Found (defined_label (c ++ u) p) w (length c)
unfolding defined_label
defined_label_same c u p w fits fed h = by (label c p) refl h
  where
    colon : (v : Word) (t : Bool) → label c p ≡ Some v → (byte_at c v.next == 58) ≡ t → (if t then Some v else None) ≡ Some w → Found (before_colon (c ++ u) (label (c ++ u) p)) w (length c)
    colon v false e q g = absurd cc
    colon v true e q g =
        let same : v ≡ w = cc in
        let l : Found (label (c ++ u) p) v (length c) = label_same c u p v fits fed e in
        let low : v.next < length c = l.next in
        record {
          same = ap (before_colon (c ++ u)) l.same ∙ ap (λ x. if x == 58 then Some v else None) (byte_front c u v.next low) ∙ ap (λ t. if t then Some v else None) q ∙ ap (λ x. Some x) same;
          end = subst (λ (x : Word). x.end ≤ length c) same l.end;
          next = subst (λ (x : Word). x.next < length c) same low;
        }

    by : (o : Option Word) → label c p ≡ o → before_colon c o ≡ Some w → Found (before_colon (c ++ u) (label (c ++ u) p)) w (length c)
    by None e g = absurd cc
    by (Some v) e g = colon v (byte_at c v.next == 58) e refl g

-- the definition is the same in a longer content, and lies in the shorter one
pub record Stays (c u : List ℕ) (p : ℕ) (d : Definition) : Type 0 where
  pub same : definition_at (c ++ u) p ≡ Some d
  pub label : d.label.end ≤ length c
  pub destination : d.destination.end ≤ length c
  pub title : d.title.end ≤ length c
  pub next : d.next ≤ length c

pub definition_stays : (c : List ℕ) (b : ℕ) (bs : List ℕ) (p : ℕ) (d : Definition) → Follows c b → definition_at c p ≡ Some d → IsNext c d.next → Stays c (b ∷ bs) p d
unfolding definition_at
definition_stays c b bs p d f h next = by (defined_label c p) refl h
  where
    whole : List ℕ
    whole = c ++ b ∷ bs

    fits : length c < 2 ^ 64
    fits = f.fits

    after : (l w : Word) (o : Option (Word × ℕ)) → Found (defined_label whole p) l (length c) → Found (defined_destination whole (plus l.next 1)) w (length c) → titled c w.next ≡ o → definition_with l w o ≡ Some d → Stays c (b ∷ bs) p d
    after l w None g i e j = absurd cc
    after l w (Some (t, n)) g i e j =
        let same : record { label = l; destination = w; title = t; next = n } ≡ d = cc in
        let at : d.next ≡ n = sym (ap (λ (x : Definition). x.next) same) in
        let k : Titled (titled whole w.next) t n (length c) = titled_same c b bs w.next t n f i.next e (subst (λ m. IsNext c m) at next) in
        record {
          same = ap (definition_of whole) g.same ∙ ap (definition_to whole l) i.same ∙ ap (definition_with l w) k.same ∙ ap (λ x. Some x) same;
          label = subst (λ (x : Definition). x.label.end ≤ length c) same g.end;
          destination = subst (λ (x : Definition). x.destination.end ≤ length c) same i.end;
          title = subst (λ (x : Definition). x.title.end ≤ length c) same k.end;
          next = subst (λ (x : Definition). x.next ≤ length c) same k.next;
        }

    to : (l : Word) (o : Option Word) → Found (defined_label whole p) l (length c) → defined_destination c (plus l.next 1) ≡ o → definition_to c l o ≡ Some d → Stays c (b ∷ bs) p d
    to l None g e j = absurd cc
    to l (Some w) g e j =
        let before : l.next < length c = g.next in
        after l w (titled c w.next) g (defined_destination_same c b bs (plus l.next 1) w f (omega (arith, before, fits)) e) refl j

    by : (o : Option Word) → defined_label c p ≡ o → definition_of c o ≡ Some d → Stays c (b ∷ bs) p d
    by None e g = absurd cc
    by (Some l) e g = to l (defined_destination c (plus l.next 1)) (defined_label_same c (b ∷ bs) p l f.fits f.fed e) refl g
