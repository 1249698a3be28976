-- A text of a leaf's content within a line is the text of its range in the source.
use Rattle.std.proofs.Common.{◌≡◌, ℕ, suc, ◌+◌, ◌-◌, ◌^◌, ◌<◌, ◌≤◌, ◌⊎◌, inl, inr, Bool, true, false, ◌==◌, ◌&&◌, ◌||◌, if◌then◌else◌, nat_lt, nat_le, List, [], ◌∷◌, ◌++◌, length, take, fold, flat_map, slice_range, refl, ap, sym, ◌∙◌, subst, arith, append_assoc, append-nil, length-append, length-take, true≢false}
use Rattle.std.specs.Prelude.{min, slice_get, unwrap_or, Option}
use Rattle.std.specs.List.{AllByRecursion, list_any}
use Rattle.std.specs.Str.{IsUtf8, IsCharBoundary}
use Rattle.std.proofs.lemmas.Bool.Decides.{nat_tests}
use Rattle.std.proofs.lemmas.Str.{IsUtf8-between}
use Rattle.tocmark_read_scan.specs.Basic.{plus, byte_at, bytes_between}
use Rattle.tocmark_read_scan.specs.Class.{is_in}
use Rattle.tocmark_read_scan.specs.Content.{State, ranges_of, put, put_line, joined, before_white, content_of}
use Rattle.tocmark_read_scan.specs.Repeat.{iterated}
use Rattle.tocmark_read_scan.specs.declared.class.Class.TheVariants.{White}
use Rattle.tocmark_read_scan.specs.declared.content.ContentLine.{ContentLine}
use Rattle.tocmark_read_scan.proofs.Whole.{bytes_put, range_at}
use Rattle.tocmark_read_scan.proofs.PlainTests.{eq_of}
use Rattle.tocmark_reader.specs.Emitted.{source_text}
use Rattle.tocmark_reader.specs.Range.{snapped}
use Rattle.tocmark_reader.proofs.Zeros.{text_kept, without_zeros, none_between}
use Rattle.tocmark_text_laws.specs.Kept.{line_bytes, IsKept}
use Rattle.tocmark_text_laws.proofs.InPlace.{in_place}
use Rattle.tocmark_text_laws.proofs.KeptLines.{lines_kept}
use Rattle.tocmark_block_laws.proofs.Fronts.{between_in}
use Rattle.tocmark_block_laws.proofs.Texts.{between_is, between_length}
use Rattle.tocmark_inline_laws.proofs.Places.{past_end}
use Rattle.tocmark_standard_laws.specs.Contents.{HasNoZero}
use Rattle.tocmark_standard_laws.proofs.Cuts.{has_bytes, got_take, byte_between, got_front, got_back, byte_front, byte_back, between_front, between_back, before_low, after_low}

-- a place beside a byte of ASCII, or in front of all
abbrev pub Edge : List ℕ → ℕ → Type 0
Edge t x = (x ≡ 0) ⊎ ((byte_at t (x - 1) < 128) ⊎ (byte_at t x < 128))

-- the bytes of a line are a range of characters
abbrev pub IsCutLine : List ℕ → ContentLine → Type 0
IsCutLine text l = 0 < length (bytes_between text l.start l.end) → IsCharBoundary text l.start × IsCharBoundary text l.end

-- where a range begins and ends in the source
abbrev pub start_in : List (ℕ × ℕ) → ℕ → ℕ
start_in places a = (unwrap_or (slice_get places a) (0, 0)).0

abbrev pub end_in : List (ℕ × ℕ) → ℕ → ℕ
end_in places b = (unwrap_or (slice_get places (b - 1)) (0, 0)).1

abbrev IsShown : List ℕ → List ℕ → List (ℕ × ℕ) → ℕ → ℕ → Type 0
IsShown text bytes places a b = source_text text (snapped text (start_in places a) (end_in places b)) ≡ bytes_between bytes a b

-- no line feed is between two places
abbrev pub Feedless : List ℕ → ℕ → ℕ → Type 0
Feedless bytes a b = (k : ℕ) → a ≤ k → k < b → (byte_at bytes k == 10) ≡ false

-- each such text is that of its range
abbrev pub AreShown : List ℕ → List ℕ → List (ℕ × ℕ) → Type 0
AreShown text bytes places = (a b : ℕ) → a < b → b ≤ length bytes → Edge bytes a → Edge bytes b → Feedless bytes a b → IsShown text bytes places a b

-- a source of which ranges are texts
pub record IsSource (text : List ℕ) : Type 0 where
  pub utf8 : IsUtf8 text
  pub zeros : HasNoZero text
  pub small : length text + 3 < 2 ^ 64

-- one line

none_zero : (text : List ℕ) (s e : ℕ) → HasNoZero text → list_any (λ b. b == 0) (bytes_between text s e) ≡ false
none_zero text s e h = by (nat_le s e && nat_le e (length text))
  where
    by : (k : Bool) → list_any (λ b. b == 0) (if k then slice_range text s e else []) ≡ false
    by true = none_between text s e h
    by false = refl

line_shown : (text : List ℕ) (l : ContentLine) (a b : ℕ) → IsSource text → IsCutLine text l → a < b → b ≤ length (bytes_between text l.start l.end) → Edge (bytes_between text l.start l.end) a → Edge (bytes_between text l.start l.end) b
    → source_text text (snapped text (l.start + a) (l.start + b)) ≡ bytes_between (bytes_between text l.start l.end) a b
line_shown text l a b src cuts more within ea eb =
    ap (source_text text) ((in_place text (l.start + a) (l.start + b) (boundary a (omega (arith, more, within)) ea) (boundary b within eb) (omega (arith, more))).kept)
    ∙ text_kept (bytes_between text (l.start + a) (l.start + b)) utf8 (none_zero text (l.start + a) (l.start + b) src.zeros)
    ∙ between_in text l.start l.end a b (around.0) (around.1) (omega (arith, long, within))
  where
    xs : List ℕ
    xs = bytes_between text l.start l.end

    around : (l.start ≤ l.end) × (l.end ≤ length text)
    around = has_bytes text l.start l.end (omega (arith, more, within))

    order : l.start ≤ l.end
    order = around.0

    inner : l.end ≤ length text
    inner = around.1

    long : length (bytes_between text l.start l.end) ≡ l.end - l.start
    long = between_length text l.start l.end order inner

    cut : IsCharBoundary text l.start × IsCharBoundary text l.end
    cut = cuts (omega (arith, more, within))

    boundary : (i : ℕ) → i ≤ length (bytes_between text l.start l.end) → Edge (bytes_between text l.start l.end) i → IsCharBoundary text (l.start + i)
    boundary i m e = last (nat_lt i (length xs)) refl
      where
        same : (j : ℕ) → j < length (bytes_between text l.start l.end) → byte_at (bytes_between text l.start l.end) j ≡ byte_at text (l.start + j)
        same j n = byte_between text l.start l.end j order inner (omega (arith, long, n))

        front : i ≡ 0 → IsCharBoundary text (l.start + i)
        front z = subst (IsCharBoundary text) (let q : l.start ≡ l.start + i = omega (arith, z) in q) (cut.0)

        of : i < length (bytes_between text l.start l.end) → Edge (bytes_between text l.start l.end) i → IsCharBoundary text (l.start + i)
        of n (inl z) = front z
        of n (inr (inl low)) = first (i == 0) refl
          where
            first : (k : Bool) → (i == 0) ≡ k → IsCharBoundary text (l.start + i)
            first true z = front (eq_of i 0 z)
            first false z =
                let some : 0 < i = grind (arith, nat_tests, z) in
                let s : byte_at (bytes_between text l.start l.end) (i - 1) ≡ byte_at text (l.start + (i - 1)) = same (i - 1) (omega (arith, n, some)) in
                subst (IsCharBoundary text) (let q : suc (l.start + (i - 1)) ≡ l.start + i = omega (arith, some) in q) (after_low text (l.start + (i - 1)) src.utf8 (omega (arith, n, some, long, order, inner)) (omega (arith, s, low)))
        of n (inr (inr low)) = let s : byte_at (bytes_between text l.start l.end) i ≡ byte_at text (l.start + i) = same i n in before_low text (l.start + i) (omega (arith, n, long, order, inner)) (omega (arith, s, low))

        last : (k : Bool) → nat_lt i (length (bytes_between text l.start l.end)) ≡ k → IsCharBoundary text (l.start + i)
        last true n = of (grind (arith, nat_tests, n)) e
        last false n = let o : length (bytes_between text l.start l.end) ≤ i = grind (arith, nat_tests, n) in subst (IsCharBoundary text) (let q : l.end ≡ l.start + i = omega (arith, o, m, long, order) in q) (cut.1)

    utf8 : IsUtf8 (bytes_between text (l.start + a) (l.start + b))
    utf8 = subst IsUtf8 (sym (between_is text (l.start + a) (l.start + b) (omega (arith, more)) (omega (arith, long, within, order, inner)))) (IsUtf8-between text (l.start + a) (l.start + b) src.utf8 (omega (arith, more)) (boundary a (omega (arith, more, within)) ea) (boundary b within eb))

-- lines one after the other

abbrev bytes_of : List ℕ → ContentLine → List ℕ
bytes_of text l = bytes_between text l.start l.end ++ 10 ∷ []

abbrev places_of : List ℕ → ContentLine → List (ℕ × ℕ)
places_of text l = ranges_of l.start (bytes_between text l.start l.end) ++ (l.end, l.next) ∷ []

line_is : (text : List ℕ) (s : State) (l : ContentLine) → HasNoZero text → put_line text s l ≡ record { bytes = s.bytes ++ bytes_of text l; places = s.places ++ places_of text l }
unfolding put_line put
line_is text s l h =
    ap (λ (u : State). put 10 l.end l.next u) (bytes_put l.start s (bytes_between text l.start l.end) (none_zero text l.start l.end h))
    ∙ rw (append_assoc s.bytes (bytes_between text l.start l.end) (10 ∷ []), append_assoc s.places (ranges_of l.start (bytes_between text l.start l.end)) ((l.end, l.next) ∷ [])) refl

lines_are : (text : List ℕ) (ls : List ContentLine) (s : State) → HasNoZero text → fold (put_line text) s ls ≡ record { bytes = s.bytes ++ flat_map (bytes_of text) ls; places = s.places ++ flat_map (places_of text) ls }
lines_are text [] s h = rw (append-nil s.bytes, append-nil s.places) refl
lines_are text (l ∷ ls) s h =
    ap (λ (u : State). fold (put_line text) u ls) (line_is text s l h)
    ∙ lines_are text ls (record { bytes = s.bytes ++ bytes_of text l; places = s.places ++ places_of text l }) h
    ∙ rw (append_assoc s.bytes (bytes_of text l) (flat_map (bytes_of text) ls), append_assoc s.places (places_of text l) (flat_map (places_of text) ls)) refl

ranges_long : (start : ℕ) (xs : List ℕ) → length (ranges_of start xs) ≡ length xs
ranges_long start [] = refl
ranges_long start (x ∷ xs) = ap suc (ranges_long (plus start 1) xs)

lines_shown : (text : List ℕ) (ls : List ContentLine) → IsSource text → AllByRecursion (IsCutLine text) ls → AreShown text (flat_map (bytes_of text) ls) (flat_map (places_of text) ls)
lines_shown text [] src cuts a b more within ea eb feedless = absurd (omega arith)
lines_shown text (l ∷ ls) src cuts a b more within ea eb feedless = by (nat_le b (length xs)) refl (lines_shown text ls src (cuts.1))
  where
    xs : List ℕ
    xs = bytes_between text l.start l.end

    rest : List ℕ
    rest = flat_map (bytes_of text) ls

    places : List (ℕ × ℕ)
    places = flat_map (places_of text) ls

    ranges : List (ℕ × ℕ)
    ranges = ranges_of l.start xs

    one_long : length (bytes_of text l) ≡ length xs + 1
    one_long = length-append xs (10 ∷ [])

    places_long : length (places_of text l) ≡ length xs + 1
    places_long = length-append ranges ((l.end, l.next) ∷ []) ∙ ap (λ n. n + 1) (ranges_long l.start xs)

    all_long : length (bytes_of text l ++ rest) ≡ length (bytes_of text l) + length rest
    all_long = length-append (bytes_of text l) rest

    Later : Type 0
    Later = AreShown text rest places

    -- in this line
    front_byte : (i : ℕ) → i < length xs → byte_at (bytes_of text l ++ rest) i ≡ byte_at xs i
    front_byte i m = byte_front (bytes_of text l) rest i (omega (arith, m, one_long)) ∙ byte_front xs (10 ∷ []) i m

    front_edge : (i : ℕ) → i ≤ length xs → Edge (bytes_of text l ++ rest) i → Edge xs i
    front_edge i m (inl z) = inl z
    front_edge i m (inr (inl low)) = near (i == 0) refl
      where
        near : (k : Bool) → (i == 0) ≡ k → Edge xs i
        near true z = inl (eq_of i 0 z)
        near false z = let some : 0 < i = grind (arith, nat_tests, z) in let s : byte_at (bytes_of text l ++ rest) (i - 1) ≡ byte_at xs (i - 1) = front_byte (i - 1) (omega (arith, m, some)) in inr (inl (omega (arith, s, low)))
    front_edge i m (inr (inr low)) = near (nat_lt i (length xs)) refl
      where
        near : (k : Bool) → nat_lt i (length xs) ≡ k → Edge xs i
        near true n = let s : byte_at (bytes_of text l ++ rest) i ≡ byte_at xs i = front_byte i (grind (arith, nat_tests, n)) in inr (inr (omega (arith, s, low)))
        near false n = let o : length xs ≤ i = grind (arith, nat_tests, n) in let s : byte_at xs i ≡ 10 = past_end xs i o in inr (inr (omega (arith, s)))

    front_range : (i : ℕ) → i < length xs → unwrap_or (slice_get (places_of text l ++ places) i) (0, 0) ≡ (plus l.start i, plus (plus l.start i) 1)
    front_range i m =
        ap (λ o. unwrap_or o (0, 0)) (got_front (places_of text l) places i (omega (arith, m, places_long)) ∙ got_front ranges ((l.end, l.next) ∷ []) i (let q : length ranges ≡ length xs = ranges_long l.start xs in omega (arith, q, m)))
        ∙ sym (range_at xs l.start i (let o : l.start ≤ l.end = (has_bytes text l.start l.end (omega (arith, m))).0 in let w : l.end ≤ length text = (has_bytes text l.start l.end (omega (arith, m))).1 in let s : length text + 3 < 2 ^ 64 = src.small in omega (arith, o, w, s)) m)

    here : b ≤ length xs → IsShown text (bytes_of text l ++ rest) (places_of text l ++ places) a b
    here m =
        ap (λ n. source_text text (snapped text n (end_in (places_of text l ++ places) b))) (ap (λ (r : ℕ × ℕ). r.0) (front_range a (omega (arith, m, more))) ∙ first)
        ∙ ap (λ n. source_text text (snapped text (l.start + a) n)) (ap (λ (r : ℕ × ℕ). r.1) (front_range (b - 1) (omega (arith, m, more))) ∙ last)
        ∙ line_shown text l a b src (cuts.0) more m (front_edge a (omega (arith, m, more)) ea) (front_edge b m eb)
        ∙ sym (between_front (bytes_of text l) rest a b (omega (arith, more)) (omega (arith, m, one_long)) ∙ between_front xs (10 ∷ []) a b (omega (arith, more)) m)
      where
        order : l.start ≤ l.end
        order = (has_bytes text l.start l.end (omega (arith, m, more))).0

        inner : l.end ≤ length text
        inner = (has_bytes text l.start l.end (omega (arith, m, more))).1

        long : length xs ≡ l.end - l.start
        long = between_length text l.start l.end order inner

        small : length text + 3 < 2 ^ 64
        small = src.small

        first : plus l.start a ≡ l.start + a
        first = omega (arith, m, more, order, inner, long, small)

        last : plus (plus l.start (b - 1)) 1 ≡ l.start + b
        last = omega (arith, m, more, order, inner, long, small)

    -- after it
    there : length xs < b → Later → IsShown text (bytes_of text l ++ rest) (places_of text l ++ places) a b
    there m later = by_front (nat_le a (length xs)) refl
      where
        feed : byte_at (bytes_of text l ++ rest) (length xs) ≡ 10
        feed = byte_front (bytes_of text l) rest (length xs) (omega (arith, one_long)) ∙ ap (byte_at (bytes_of text l)) (let q : length xs ≡ length xs + 0 = omega arith in q) ∙ byte_back xs (10 ∷ []) 0

        n : ℕ
        n = length (bytes_of text l)

        back_edge : (i : ℕ) → Edge (bytes_of text l ++ rest) (length (bytes_of text l) + i) → Edge rest i
        back_edge i (inl z) = absurd (omega (arith, z, one_long))
        back_edge i (inr (inl low)) = near (i == 0) refl
          where
            near : (k : Bool) → (i == 0) ≡ k → Edge rest i
            near true z = inl (eq_of i 0 z)
            near false z =
                let some : 0 < i = grind (arith, nat_tests, z) in
                let s : byte_at (bytes_of text l ++ rest) (length (bytes_of text l) + i - 1) ≡ byte_at rest (i - 1) = ap (byte_at (bytes_of text l ++ rest)) (let q : length (bytes_of text l) + i - 1 ≡ length (bytes_of text l) + (i - 1) = omega (arith, some) in q) ∙ byte_back (bytes_of text l) rest (i - 1) in
                inr (inl (omega (arith, s, low)))
        back_edge i (inr (inr low)) = let s : byte_at (bytes_of text l ++ rest) (length (bytes_of text l) + i) ≡ byte_at rest i = byte_back (bytes_of text l) rest i in inr (inr (omega (arith, s, low)))

        back_got : (i : ℕ) → slice_get (places_of text l ++ places) (length (bytes_of text l) + i) ≡ slice_get places i
        back_got i = ap (λ m. slice_get (places_of text l ++ places) (m + i)) (one_long ∙ sym places_long) ∙ got_back (places_of text l) places i

        by_front : (k : Bool) → nat_le a (length xs) ≡ k → IsShown text (bytes_of text l ++ rest) (places_of text l ++ places) a b
        by_front true q = absurd (true≢false (ap (λ c. c == 10) (sym feed) ∙ feedless (length xs) (grind (arith, nat_tests, q)) m))
        by_front false q = subst (λ c. IsShown text (bytes_of text l ++ rest) (places_of text l ++ places) c b) (sym first) (subst (λ c. IsShown text (bytes_of text l ++ rest) (places_of text l ++ places) (n + i) c) (sym second) shown)
          where
            past : length xs < a
            past = grind (arith, nat_tests, q)

            i : ℕ
            i = a - length (bytes_of text l)

            j : ℕ
            j = b - length (bytes_of text l)

            first : a ≡ length (bytes_of text l) + (a - length (bytes_of text l))
            first = omega (arith, past, one_long)

            second : b ≡ length (bytes_of text l) + (b - length (bytes_of text l))
            second = omega (arith, past, more, one_long)

            shown : IsShown text (bytes_of text l ++ rest) (places_of text l ++ places) (length (bytes_of text l) + (a - length (bytes_of text l))) (length (bytes_of text l) + (b - length (bytes_of text l)))
            shown =
                ap (λ (o : Option (ℕ × ℕ)). source_text text (snapped text ((unwrap_or o (0, 0)).0) (end_in (places_of text l ++ places) (length (bytes_of text l) + (b - length (bytes_of text l)))))) (back_got i)
                ∙ ap (λ (o : Option (ℕ × ℕ)). source_text text (snapped text (start_in places i) ((unwrap_or o (0, 0)).1))) (ap (slice_get (places_of text l ++ places)) (let z : length (bytes_of text l) + (b - length (bytes_of text l)) - 1 ≡ length (bytes_of text l) + (b - length (bytes_of text l) - 1) = omega (arith, past, more, one_long) in z) ∙ back_got (j - 1))
                ∙ later i j (omega (arith, past, more, one_long)) (omega (arith, within, all_long)) (back_edge i (subst (Edge (bytes_of text l ++ rest)) first ea)) (back_edge j (subst (Edge (bytes_of text l ++ rest)) second eb))
                (λ k u v. sym (ap (λ c. c == 10) (byte_back (bytes_of text l) rest k)) ∙ feedless (length (bytes_of text l) + k) (omega (arith, u, first)) (omega (arith, v, second)))
                ∙ sym (between_back (bytes_of text l) rest i j (omega (arith, past, more, one_long)) (omega (arith, within, all_long)))

    by : (k : Bool) → nat_le b (length xs) ≡ k → Later → IsShown text (bytes_of text l ++ rest) (places_of text l ++ places) a b
    by true m later = here (grind (arith, nat_tests, m))
    by false m later = there (grind (arith, nat_tests, m)) later

-- without the white space at the end

white_low : (b : ℕ) → is_in White b ≡ true → b < 128
unfolding is_in
white_low b h = by (b == 32) (b == 9) (b == 10) refl refl refl h
  where
    by : (x y z : Bool) → (b == 32) ≡ x → (b == 9) ≡ y → (b == 10) ≡ z → (x || y || z) ≡ true → b < 128
    by true y z p q r k = let e : b ≡ 32 = eq_of b 32 p in omega (arith, e)
    by false true z p q r k = let e : b ≡ 9 = eq_of b 9 q in omega (arith, e)
    by false false true p q r k = let e : b ≡ 10 = eq_of b 10 r in omega (arith, e)
    by false false false p q r k = absurd (true≢false (sym k))

first_low : (ws : List ℕ) → AllByRecursion (λ b. is_in White b ≡ true) ws → byte_at ws 0 < 128
first_low [] h = omega arith
first_low (w ∷ ws) h = white_low w (h.0)

lines_same : (text : List ℕ) (ls : List ContentLine) → HasNoZero text → flat_map (line_bytes text) ls ≡ flat_map (bytes_of text) ls
lines_same text [] h = refl
lines_same text (l ∷ ls) h = ap (λ xs. (xs ++ 10 ∷ []) ++ flat_map (line_bytes text) ls) (without_zeros (bytes_between text l.start l.end) (none_zero text l.start l.end h)) ∙ ap (λ xs. bytes_of text l ++ xs) (lines_same text ls h)

-- texts of a content within a line
pub content_shown : (text : List ℕ) (ls : List ContentLine) → IsSource text → AllByRecursion (IsCutLine text) ls → AreShown text (content_of text ls).bytes (content_of text ls).places
unfolding content_of
content_shown text ls src cuts a b more within ea eb feedless =
    ap (λ (o : Option (ℕ × ℕ)). source_text text (snapped text ((unwrap_or o (0, 0)).0) (end_in (take e (joined text ls).places) b))) (got_take e (joined text ls).places a (omega (arith, more, within, long)) ∙ ap (λ ps. slice_get ps a) places)
    ∙ ap (λ (o : Option (ℕ × ℕ)). source_text text (snapped text (start_in (flat_map (places_of text) ls) a) ((unwrap_or o (0, 0)).1))) (got_take e (joined text ls).places (b - 1) (omega (arith, more, within, long)) ∙ ap (λ ps. slice_get ps (b - 1)) places)
    ∙ lines_shown text ls src cuts a b more (omega (arith, within, all_long)) (edge a (omega (arith, more, within)) ea) (edge b within eb) (λ k u v. ap (λ c. c == 10) (same k (omega (arith, v, within))) ∙ feedless k u v)
    ∙ ap (λ xs. bytes_between xs a b) cut
    ∙ between_front (take e (joined text ls).bytes) kept.white a b (omega (arith, more)) within
  where
    e : ℕ
    e = iterated (before_white (joined text ls).bytes) (length (joined text ls).bytes) (length (joined text ls).bytes)

    whole : joined text ls ≡ record { bytes = flat_map (bytes_of text) ls; places = flat_map (places_of text) ls }
    whole = lines_are text ls (record { bytes = []; places = [] }) src.zeros

    places : (joined text ls).places ≡ flat_map (places_of text) ls
    places = ap (λ (s : State). s.places) whole

    kept : IsKept text ls
    kept = lines_kept text ls

    cut : flat_map (bytes_of text) ls ≡ take e (joined text ls).bytes ++ kept.white
    cut = sym (lines_same text ls src.zeros) ∙ kept.whole

    all_long : length (flat_map (bytes_of text) ls) ≡ length (take e (joined text ls).bytes) + length kept.white
    all_long = ap length cut ∙ length-append (take e (joined text ls).bytes) kept.white

    long : length (take e (joined text ls).bytes) ≡ min e (length (joined text ls).bytes)
    long = length-take e (joined text ls).bytes

    same : (i : ℕ) → i < length (take e (joined text ls).bytes) → byte_at (flat_map (bytes_of text) ls) i ≡ byte_at (take e (joined text ls).bytes) i
    same i m = ap (λ xs. byte_at xs i) cut ∙ byte_front (take e (joined text ls).bytes) kept.white i m

    edge : (i : ℕ) → i ≤ length (take e (joined text ls).bytes) → Edge (take e (joined text ls).bytes) i → Edge (flat_map (bytes_of text) ls) i
    edge i m (inl z) = inl z
    edge i m (inr (inl low)) = near (i == 0) refl
      where
        near : (k : Bool) → (i == 0) ≡ k → Edge (flat_map (bytes_of text) ls) i
        near true z = inl (eq_of i 0 z)
        near false z = let some : 0 < i = grind (arith, nat_tests, z) in let s : byte_at (flat_map (bytes_of text) ls) (i - 1) ≡ byte_at (take e (joined text ls).bytes) (i - 1) = same (i - 1) (omega (arith, m, some)) in inr (inl (omega (arith, s, low)))
    edge i m (inr (inr low)) = near (nat_lt i (length (take e (joined text ls).bytes))) refl
      where
        near : (k : Bool) → nat_lt i (length (take e (joined text ls).bytes)) ≡ k → Edge (flat_map (bytes_of text) ls) i
        near true n = let s : byte_at (flat_map (bytes_of text) ls) i ≡ byte_at (take e (joined text ls).bytes) i = same i (grind (arith, nat_tests, n)) in inr (inr (omega (arith, s, low)))
        near false n =
            let o : length (take e (joined text ls).bytes) ≤ i = grind (arith, nat_tests, n) in
            let at : i ≡ length (take e (joined text ls).bytes) + 0 = omega (arith, o, m) in
            let s : byte_at (flat_map (bytes_of text) ls) i ≡ byte_at kept.white 0 = ap (λ xs. byte_at xs i) cut ∙ ap (byte_at (take e (joined text ls).bytes ++ kept.white)) at ∙ byte_back (take e (joined text ls).bytes) kept.white 0 in
            let w : byte_at kept.white 0 < 128 = first_low kept.white kept.all_white in
            inr (inr (omega (arith, s, w)))
