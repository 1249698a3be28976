-- The text of lines that are in the source one just after the other is a piece of it.
use Rattle.std.proofs.Common.{◌≡◌, ℕ, zero, suc, ◌+◌, ◌-◌, ◌^◌, ◌<◌, ◌≤◌, Bool, true, false, ◌==◌, ◌&&◌, ◌||◌, if◌then◌else◌, nat_lt, nat_le, List, [], ◌∷◌, ◌++◌, length, take, drop, slice_get, unwrap_or, refl, ap, sym, ◌∙◌, arith, append_assoc, append-nil, length-append, Option, Some, None}
use native.Mathlib.Numerals.{unary_clauses}
use Rattle.std.proofs.lemmas.Bool.Decides.{nat_tests}
use Rattle.std.proofs.lemmas.Bool.{false≢true}
use Rattle.std.proofs.lemmas.Option.{none-some}
use Rattle.std.specs.List.{fold, list_any}
use Rattle.std.proofs.lemmas.List.{take-append-le, drop_more, drop-drop, length-drop, length-take}
use Rattle.std.proofs.lemmas.List.Folds.{list_any-append}
use Rattle.tocmark_read_scan.specs.Basic.{plus, byte_at, bytes_between}
use Rattle.tocmark_read_scan.specs.Class.{is_in}
use Rattle.tocmark_read_scan.specs.Content.{State, ranges_of, put, put_byte, put_bytes, put_line, before_white, inked, is_behind, end_within, end_behind, trimmed, content_of}
use Rattle.tocmark_read_scan.specs.Repeat.{iterated, going_on}
use Rattle.tocmark_read_scan.specs.declared.class.Class.TheVariants.{White}
use Rattle.tocmark_read_scan.specs.declared.content.ContentLine.{ContentLine}
use Rattle.tocmark_read_scan.proofs.PlainContent.{byte_behind, white_before, white_feed}
use Rattle.tocmark_read_scan.proofs.Repeats.{iterated_more}

-- no byte is U+0000
abbrev HasNoZero : List ℕ → Type 0
HasNoZero xs = list_any (λ b. b == 0) xs ≡ false

-- the range of a byte
pub range_at : (xs : List ℕ) (start place : ℕ) → start < 2 ^ 64 → place < length xs → (plus start place, plus (plus start place) 1) ≡ unwrap_or (slice_get (ranges_of start xs) place) (0, 0)
range_at [] start place fits h = absurd (omega arith)
range_at (x ∷ xs) start zero fits h =
    let same : plus start 0 ≡ start = omega arith in
    ap (λ n. (n, plus n 1)) same
range_at (x ∷ xs) start (suc k) fits h =
    let same : plus start (suc k) ≡ plus (plus start 1) k = omega arith in
    ap (λ n. (n, plus n 1)) same ∙ range_at xs (plus start 1) k (omega arith) (omega arith)

-- there is none past the end
pub range_past : (xs : List ℕ) (start place : ℕ) → length xs ≤ place → (0, 0) ≡ unwrap_or (slice_get (ranges_of start xs) place) (0, 0)
range_past [] start place h = refl
range_past (x ∷ xs) start zero h = absurd (omega arith)
range_past (x ∷ xs) start (suc k) h = range_past xs (plus start 1) k (omega arith)

ranges_append : (start : ℕ) (xs ys : List ℕ) → start < 2 ^ 64 → ranges_of start (xs ++ ys) ≡ ranges_of start xs ++ ranges_of (plus start (length xs)) ys
ranges_append start [] ys fits = ap (λ n. ranges_of n ys) (let q : start ≡ plus start 0 = omega arith in q)
ranges_append start (x ∷ xs) ys fits =
    let same : plus (plus start 1) (length xs) ≡ plus start (suc (length xs)) = omega arith in
    ap (λ ps. (start, plus start 1) ∷ ps) (ranges_append (plus start 1) xs ys (omega arith) ∙ ap (λ n. ranges_of (plus start 1) xs ++ ranges_of n ys) same)

-- one more range, and those of the bytes that are left
pub ranges_more : (ps qs : List (ℕ × ℕ)) (place next i : ℕ) (xs : List ℕ) (whole : List (ℕ × ℕ)) → i < length xs → next ≡ plus place 1 → qs ≡ ps ++ (place, next) ∷ [] → ps ++ ranges_of place (drop i xs) ≡ whole → qs ++ ranges_of next (drop (i + 1) xs) ≡ whole
ranges_more ps qs place next i xs whole h e q w =
    let rest : List ℕ = drop (i + 1) xs in
    ap (λ (l : List (ℕ × ℕ)). l ++ ranges_of next rest) q
    ∙ append_assoc ps ((place, next) ∷ []) (ranges_of next rest)
    ∙ ap (λ n. ps ++ (place, n) ∷ ranges_of n rest) e
    ∙ ap (λ (l : List ℕ). ps ++ ranges_of place l) (sym (drop_more xs i 0 h))
    ∙ w

take_ranges : (start n : ℕ) (xs : List ℕ) → take n (ranges_of start xs) ≡ ranges_of start (take n xs)
take_ranges start zero xs = refl
take_ranges start (suc n) [] = refl
take_ranges start (suc n) (x ∷ xs) = ap (λ ps. (start, plus start 1) ∷ ps) (take_ranges (plus start 1) n xs)

length_ranges : (start : ℕ) (xs : List ℕ) → length (ranges_of start xs) ≡ length xs
length_ranges start [] = refl
length_ranges start (x ∷ xs) = ap suc (length_ranges (plus start 1) xs)

-- what a test of two says
both : (a b : Bool) → (a && b) ≡ true → (a ≡ true) × (b ≡ true)
both true b h = (refl, h)
both false b h = absurd (false≢true h)

pub or_none : (a b : Bool) → (a || b) ≡ false → (a ≡ false) × (b ≡ false)
or_none false b h = (refl, h)
or_none true b h = absurd (false≢true (sym h))

-- bytes without a zero are put as they are
pub bytes_put : (start : ℕ) (s : State) (xs : List ℕ) → HasNoZero xs → put_bytes start s xs ≡ record { bytes = s.bytes ++ xs; places = s.places ++ ranges_of start xs }
unfolding put_byte put
bytes_put start s [] h = rw (append-nil s.bytes, append-nil s.places) refl
bytes_put start s (x ∷ xs) h =
    let z = or_none (x == 0) (list_any (λ b. b == 0) xs) h in
    let one : State = record { bytes = s.bytes ++ x ∷ []; places = s.places ++ (start, plus start 1) ∷ [] } in
    let putted : put_byte x start s ≡ one = rw (z.0) refl in
    ap (λ (u : State). put_bytes (plus start 1) u xs) putted
    ∙ bytes_put (plus start 1) one xs (z.1)
    ∙ rw (append_assoc s.bytes (x ∷ []) xs, append_assoc s.places ((start, plus start 1) ∷ []) (ranges_of (plus start 1) xs)) refl

-- what is known of a line with another after it
record IsFed (source : List ℕ) (line next : ContentLine) : Type 0 where
  feed : byte_at source line.end ≡ 10
  forth : line.start ≤ line.end
  after : line.next ≡ line.end + 1
  fits : line.end + 1 < 2 ^ 64
  joins : next.start ≡ line.next

same_from : (a b : ℕ) → (a == b) ≡ true → a ≡ b
same_from a b h = grind (arith, nat_tests)

below_from : (a b : ℕ) → nat_lt a b ≡ true → a < b
below_from a b h = grind (arith, nat_tests)

most_from : (a b : ℕ) → nat_le a b ≡ true → a ≤ b
most_from a b h = grind (arith, nat_tests)

fed : (source : List ℕ) (line next : ContentLine) → is_behind source line next ≡ true → IsFed source line next
unfolding is_behind
fed source line next h =
    let above : Bool = nat_lt line.end line.next in
    let one : Bool = line.next == plus line.end 1 in
    let feed : Bool = byte_at source line.end == 10 in
    let forth : Bool = nat_le line.start line.end in
    let joins : Bool = next.start == line.next in
    let p : ((((above && one) && feed) && forth) ≡ true) × (joins ≡ true) = both (((above && one) && feed) && forth) joins h in
    let q : (((above && one) && feed) ≡ true) × (forth ≡ true) = both ((above && one) && feed) forth (p.0) in
    let r : ((above && one) ≡ true) × (feed ≡ true) = both (above && one) feed (q.0) in
    let s : (above ≡ true) × (one ≡ true) = both above one (r.0) in
    let is_above : line.end < line.next = below_from line.end line.next (s.0) in
    let is_one : line.next ≡ plus line.end 1 = same_from line.next (plus line.end 1) (s.1) in
    record {
      feed = same_from (byte_at source line.end) 10 (r.1);
      forth = most_from line.start line.end (q.1);
      after = omega (arith, is_above, is_one);
      fits = omega (arith, is_above, is_one);
      joins = same_from next.start line.next (p.1);
    }

-- what the place where lines end says of their range
record IsRange (source : List ℕ) (start end : ℕ) : Type 0 where
  forth : start ≤ end
  within : end ≤ length source

range_of : (source : List ℕ) (line : ContentLine) (others : List ContentLine) (end : ℕ) → end_behind source line others ≡ Some end → IsRange source line.start end
unfolding end_within
range_of source line [] end h = by_test (nat_le line.start line.end && nat_le line.end (length source)) refl h
  where
    by_test : (t : Bool) → (nat_le line.start line.end && nat_le line.end (length source)) ≡ t → (if t then Some line.end else None) ≡ Some end → IsRange source line.start end
    by_test false e k = absurd (none-some _ k)
    by_test true e k =
        let tests = both (nat_le line.start line.end) (nat_le line.end (length source)) e in
        let forth : line.start ≤ line.end = most_from line.start line.end (tests.0) in
        let within : line.end ≤ length source = most_from line.end (length source) (tests.1) in
        let same : line.end ≡ end = ap (λ o. unwrap_or o 0) k in
        record { forth = omega (arith, forth, same); within = omega (arith, within, same) }
range_of source line (next ∷ others) end h = by_test (is_behind source line next) refl h (range_of source next others end)
  where
    by_test : (t : Bool) → is_behind source line next ≡ t → (if t then end_behind source next others else None) ≡ Some end → (end_behind source next others ≡ Some end → IsRange source next.start end) → IsRange source line.start end
    by_test false e k more = absurd (none-some _ k)
    by_test true e k more =
        let f = fed source line next e in
        let r = more k in
        let forth = f.forth in
        let after = f.after in
        let joins = f.joins in
        let later = r.forth in
        record { forth = omega arith; within = r.within }

-- the byte at a place between two pieces
got_behind : (xs : List ℕ) (a n : ℕ) → slice_get (drop a xs) n ≡ slice_get xs (n + a)
got_behind [] zero n = refl
got_behind [] (suc a) n = refl
got_behind (x ∷ xs) zero n = simp unary_clauses refl
got_behind (x ∷ xs) (suc a) n = simp unary_clauses (got_behind xs a n)

cut : (xs : List ℕ) (n k : ℕ) → n < length xs → take (suc (k + n)) xs ≡ take n xs ++ byte_at xs n ∷ take k (drop (suc n) xs)
cut [] n k h = absurd (omega arith)
cut (x ∷ xs) zero k h = simp unary_clauses refl
cut (x ∷ xs) (suc n) k h = simp unary_clauses (ap (λ l. x ∷ l) (cut xs n k (omega arith)))

-- a piece is a slice
piece_slice : (source : List ℕ) (start end : ℕ) → start ≤ end → end ≤ length source → bytes_between source start end ≡ take (end - start) (drop start source)
piece_slice source start end h k =
    let forth : nat_le start end ≡ true = grind (arith, nat_tests) in
    let within : nat_le end (length source) ≡ true = grind (arith, nat_tests) in
    rw (forth, within) refl

piece_cut : (source : List ℕ) (start at end : ℕ) → start ≤ at → at < end → end ≤ length source → bytes_between source start end ≡ bytes_between source start at ++ byte_at source at ∷ bytes_between source (at + 1) end
piece_cut source start at end h k w =
    let n : ℕ = at - start in
    let m : ℕ = end - (at + 1) in
    let all : end - start ≡ suc (m + n) = omega arith in
    let there : n + start ≡ at = omega arith in
    let behind : start + suc n ≡ at + 1 = omega arith in
    let room : n < length (drop start source) = grind (arith, length-drop) in
    piece_slice source start end (omega arith) w
    ∙ ap (λ i. take i (drop start source)) all
    ∙ cut (drop start source) n m room
    ∙ ap (λ (o : Option ℕ). take n (drop start source) ++ unwrap_or o 10 ∷ take m (drop (suc n) (drop start source))) (got_behind source start n ∙ ap (slice_get source) there)
    ∙ ap (λ (l : List ℕ). take n (drop start source) ++ byte_at source at ∷ take m l) (drop-drop (suc n) start source ∙ ap (λ i. drop i source) behind)
    ∙ ap (λ (l : List ℕ). l ++ byte_at source at ∷ take m (drop (at + 1) source)) (sym (piece_slice source start at h (omega arith)))
    ∙ ap (λ (l : List ℕ). bytes_between source start at ++ byte_at source at ∷ l) (sym (piece_slice source (at + 1) end (omega arith) w))

length_piece : (source : List ℕ) (start end : ℕ) → start ≤ end → end ≤ length source → length (bytes_between source start end) ≡ end - start
length_piece source start end h w = ap length (piece_slice source start end h w) ∙ (let q : length (take (end - start) (drop start source)) ≡ end - start = grind (arith, length-take, length-drop) in q)

-- bytes, a line feed after them, and the range that it stands for
abbrev with_feed : State → ℕ → List ℕ → ℕ × ℕ → State
with_feed s start xs range = record { bytes = s.bytes ++ (xs ++ 10 ∷ []); places = s.places ++ (ranges_of start xs ++ range ∷ []) }

-- the range that the last line feed stands for
abbrev last_feed : ContentLine → List ContentLine → ℕ × ℕ
last_feed line [] = (line.end, line.next)
last_feed line (next ∷ others) = last_feed next others

line_put : (source : List ℕ) (line : ContentLine) (s : State) → HasNoZero (bytes_between source line.start line.end) → put_line source s line ≡ with_feed s line.start (bytes_between source line.start line.end) (line.end, line.next)
unfolding put_line put
line_put source line s h =
    let xs : List ℕ = bytes_between source line.start line.end in
    ap (λ (t : State). put 10 line.end line.next t) (bytes_put line.start s xs h)
    ∙ rw (append_assoc s.bytes xs (10 ∷ []), append_assoc s.places (ranges_of line.start xs) ((line.end, line.next) ∷ [])) refl

-- two texts with a line feed between them
with_two : (s : State) (start end next : ℕ) (xs ys : List ℕ) (range : ℕ × ℕ) → start + length xs ≡ end → next ≡ end + 1 → next < 2 ^ 64 → with_feed (with_feed s start xs (end, next)) next ys range ≡ with_feed s start (xs ++ 10 ∷ ys) range
with_two s start end next xs ys range e n fits =
    let same : plus start (length xs) ≡ end = omega arith in
    let after : plus end 1 ≡ next = omega arith in
    let ranges : ranges_of start (xs ++ 10 ∷ ys) ≡ ranges_of start xs ++ (end, next) ∷ ranges_of next ys =
    ranges_append start xs (10 ∷ ys) (omega arith)
    ∙ ap (λ i. ranges_of start xs ++ (i, plus i 1) ∷ ranges_of (plus i 1) ys) same
    ∙ ap (λ i. ranges_of start xs ++ (end, i) ∷ ranges_of i ys) after
    in
    rw (
      append_assoc s.bytes (xs ++ 10 ∷ []) (ys ++ 10 ∷ []),
      append_assoc xs (10 ∷ []) (ys ++ 10 ∷ []),
      append_assoc xs (10 ∷ ys) (10 ∷ []),
      append_assoc s.places (ranges_of start xs ++ (end, next) ∷ []) (ranges_of next ys ++ range ∷ []),
      append_assoc (ranges_of start xs) ((end, next) ∷ []) (ranges_of next ys ++ range ∷ []),
      ranges,
      append_assoc (ranges_of start xs) ((end, next) ∷ ranges_of next ys) (range ∷ []),
    ) refl

-- lines one just after the other are put as the piece that they are
lines_put : (source : List ℕ) (line : ContentLine) (others : List ContentLine) (end : ℕ) (s : State) → end_behind source line others ≡ Some end → HasNoZero (bytes_between source line.start end) → fold (put_line source) s (line ∷ others) ≡ with_feed s line.start (bytes_between source line.start end) (last_feed line others)
unfolding end_within
lines_put source line [] end s h z = by_test (nat_le line.start line.end && nat_le line.end (length source)) refl h
  where
    by_test : (t : Bool) → (nat_le line.start line.end && nat_le line.end (length source)) ≡ t → (if t then Some line.end else None) ≡ Some end → put_line source s line ≡ with_feed s line.start (bytes_between source line.start end) (line.end, line.next)
    by_test false e k = absurd (none-some _ k)
    by_test true e k =
        let same : line.end ≡ end = ap (λ o. unwrap_or o 0) k in
        line_put source line s (ap (λ i. list_any (λ b. b == 0) (bytes_between source line.start i)) same ∙ z)
        ∙ ap (λ i. with_feed s line.start (bytes_between source line.start i) (line.end, line.next)) same
lines_put source line (next ∷ others) end s h z = by_test (is_behind source line next) refl h (λ u k y. lines_put source next others end u k y)
  where
    by_test : (t : Bool) → is_behind source line next ≡ t → (if t then end_behind source next others else None) ≡ Some end → ((u : State) → end_behind source next others ≡ Some end → HasNoZero (bytes_between source next.start end) → fold (put_line source) u (next ∷ others) ≡ with_feed u next.start (bytes_between source next.start end) (last_feed next others)) → fold (put_line source) (put_line source s line) (next ∷ others) ≡ with_feed s line.start (bytes_between source line.start end) (last_feed next others)
    by_test false e k more = absurd (none-some _ k)
    by_test true e k more =
        let f = fed source line next e in
        let r = range_of source next others end k in
        let forth : line.start ≤ line.end = f.forth in
        let after : line.next ≡ line.end + 1 = f.after in
        let fits : line.end + 1 < 2 ^ 64 = f.fits in
        let joins : next.start ≡ line.next = f.joins in
        let later : next.start ≤ end = r.forth in
        let within : end ≤ length source = r.within in
        let xs : List ℕ = bytes_between source line.start line.end in
        let ys : List ℕ = bytes_between source next.start end in
        let begins : line.end + 1 ≡ next.start = omega arith in
        let all : bytes_between source line.start end ≡ xs ++ 10 ∷ ys =
        piece_cut source line.start line.end end forth (omega arith) within
        ∙ ap (λ b. xs ++ b ∷ bytes_between source (line.end + 1) end) f.feed
        ∙ ap (λ i. xs ++ 10 ∷ bytes_between source i end) begins
        in
        let zeros = or_none (list_any (λ b. b == 0) xs) (list_any (λ b. b == 0) ys) (sym (list_any-append (λ b. b == 0) xs (10 ∷ ys)) ∙ ap (list_any (λ b. b == 0)) (sym all) ∙ z) in
        let wide : line.start + length xs ≡ line.end = let n : length xs ≡ line.end - line.start = length_piece source line.start line.end forth (omega arith) in omega arith in
        ap (λ (t : State). fold (put_line source) t (next ∷ others)) (line_put source line s (zeros.0))
        ∙ more (with_feed s line.start xs (line.end, line.next)) k (zeros.1)
        ∙ ap (λ i. with_feed (with_feed s line.start xs (line.end, line.next)) i ys (last_feed next others)) joins
        ∙ with_two s line.start line.end line.next xs ys (last_feed next others) wide after (omega arith)
        ∙ ap (λ (l : List ℕ). with_feed s line.start l (last_feed next others)) (sym all)

-- where the white space at the end of a text begins doesn't depend on what is after the text
got_before : (xs ys : List ℕ) (n : ℕ) → n < length xs → slice_get (xs ++ ys) n ≡ slice_get xs n
got_before [] ys n h = absurd (omega arith)
got_before (x ∷ xs) ys zero h = refl
got_before (x ∷ xs) ys (suc n) h = got_before xs ys n (omega arith)

white_same : (xs ys : List ℕ) (n : ℕ) → n ≤ length xs → before_white (xs ++ ys) n ≡ before_white xs n
unfolding before_white
white_same xs ys zero h = refl
white_same xs ys (suc n) h =
    let same : suc n - 1 ≡ n = omega arith in
    let got : byte_at (xs ++ ys) (suc n - 1) ≡ byte_at xs (suc n - 1) = ap (λ i. byte_at (xs ++ ys) i) same ∙ ap (λ (o : Option ℕ). unwrap_or o 10) (got_before xs ys n (omega arith)) ∙ ap (λ i. byte_at xs i) (sym same) in
    ap (λ b. if nat_lt 0 (suc n) && is_in White b then Some (suc n - 1) else None) got

-- a step back is at most as far
record IsBack (n : ℕ) (o : Option ℕ) : Type 0 where
  back : (m : ℕ) → o ≡ Some m → m ≤ n

white_back : (xs : List ℕ) (n : ℕ) → IsBack n (before_white xs n)
unfolding before_white
white_back xs n = by_test (nat_lt 0 n && is_in White (byte_at xs (n - 1)))
  where
    by_test : (t : Bool) → IsBack n (if t then Some (n - 1) else None)
    by_test true = record { back = λ m e. let same : n - 1 ≡ m = ap (λ o. unwrap_or o 0) e in omega arith }
    by_test false = record { back = λ m e. absurd (none-some _ e) }

ink_same : (xs ys : List ℕ) (k n : ℕ) → n ≤ length xs → (iterated (before_white (xs ++ ys)) k n ≡ iterated (before_white xs) k n) × (iterated (before_white xs) k n ≤ n)
unfolding iterated
ink_same xs ys zero n h = (refl, omega arith)
ink_same xs ys (suc k) n h =
    let step = by_step (before_white xs n) refl (λ m l. ink_same xs ys k m l) in
    (ap (λ o. going_on (λ d. iterated (before_white (xs ++ ys)) k d) n o) (white_same xs ys n h) ∙ step.0, step.1)
  where
    by_step : (o : Option ℕ) → before_white xs n ≡ o → ((m : ℕ) → m ≤ length xs → (iterated (before_white (xs ++ ys)) k m ≡ iterated (before_white xs) k m) × (iterated (before_white xs) k m ≤ m)) → (going_on (λ d. iterated (before_white (xs ++ ys)) k d) n o ≡ going_on (λ d. iterated (before_white xs) k d) n o) × (going_on (λ d. iterated (before_white xs) k d) n o ≤ n)
    by_step None e again = (refl, omega arith)
    by_step (Some m) e again =
        let less : m ≤ n = (white_back xs n).back m e in
        let more = again m (omega arith) in
        (more.0, let q = more.1 in omega arith)

ink_fed : (text : List ℕ) → let bytes = text ++ 10 ∷ [] in iterated (before_white bytes) (length bytes) (length bytes) ≡ iterated (before_white text) (length text) (length text)
ink_fed text =
    let bytes : List ℕ = text ++ 10 ∷ [] in
    let shorter : length bytes - 1 ≡ length text = grind (arith, length-append) in
    let long : 0 < length bytes = grind (arith, length-append) in
    let last : byte_at bytes (length bytes - 1) ≡ 10 = byte_behind text [] 10 (length bytes - 1) shorter in
    iterated_more (before_white bytes) (length bytes) (length bytes) (length bytes - 1) long (white_before bytes (length bytes) long (ap (is_in White) last ∙ white_feed))
    ∙ ap (λ i. iterated (before_white bytes) i i) shorter
    ∙ (ink_same text (10 ∷ []) (length text) (length text) (omega arith)).0

-- without the line feed and the white space before it
trimmed_whole : (text : List ℕ) (start : ℕ) (range : ℕ × ℕ) → trimmed (record { bytes = text ++ 10 ∷ []; places = ranges_of start text ++ range ∷ [] }) ≡ record { bytes = inked text; places = ranges_of start (inked text) }
trimmed_whole text start range =
    let end : ℕ = iterated (before_white text) (length text) (length text) in
    let within : end ≤ length text = (ink_same text [] (length text) (length text) (omega arith)).1 in
    let long : end ≤ length (ranges_of start text) = let n = length_ranges start text in omega arith in
    let whole : end - 0 ≡ end = omega arith in
    let front : inked text ≡ take end text = piece_slice text 0 end (omega arith) within ∙ ap (λ i. take i text) whole in
    ap (λ n. (let s : State = record { bytes = take n (text ++ 10 ∷ []); places = take n (ranges_of start text ++ range ∷ []) } in s)) (ink_fed text)
    ∙ rw (take-append-le end text (10 ∷ []) within, take-append-le end (ranges_of start text) (range ∷ []) long, take_ranges start end text) refl
    ∙ ap (λ (l : List ℕ). (let s : State = record { bytes = l; places = ranges_of start l } in s)) (sym front)

-- the content of lines that are in the source one just after the other
pub whole_content : (source : List ℕ) (line : ContentLine) (others : List ContentLine) (end : ℕ) → end_behind source line others ≡ Some end → HasNoZero (bytes_between source line.start end) → content_of source (line ∷ others) ≡ record { bytes = inked (bytes_between source line.start end); places = ranges_of line.start (inked (bytes_between source line.start end)) }
unfolding content_of
whole_content source line others end h z =
    let text : List ℕ = bytes_between source line.start end in
    ap trimmed (lines_put source line others end (record { bytes = []; places = [] }) h z)
    ∙ trimmed_whole text line.start (last_feed line others)

-- the same of a list of lines whose first is known
pub whole_text : (source : List ℕ) (lines : List ContentLine) (first : ContentLine) (others : List ContentLine) (end : ℕ) (text ink : List ℕ) → slice_get lines 0 ≡ Some first → others ≡ drop 1 lines → end_behind source first others ≡ Some end → text ≡ bytes_between source first.start end → HasNoZero text → ink ≡ inked text → record { bytes = ink; places = ranges_of first.start ink } ≡ content_of source lines
whole_text source [] first others end text ink f o h e z i = absurd (none-some _ f)
whole_text source (line ∷ lines) first others end text ink f o h e z i =
    let same : line ≡ first = ap (λ (x : Option ContentLine). unwrap_or x line) f in
    let there : end_behind source first lines ≡ Some end = ap (λ (ls : List ContentLine). end_behind source first ls) (sym o) ∙ h in
    let clean : HasNoZero (bytes_between source first.start end) = ap (list_any (λ b. b == 0)) (sym e) ∙ z in
    ap (λ (l : List ℕ). (let s : State = record { bytes = l; places = ranges_of first.start l } in s)) (i ∙ ap inked e)
    ∙ sym (whole_content source first lines end there clean)
    ∙ ap (λ (l : ContentLine). content_of source (l ∷ lines)) (sym same)
