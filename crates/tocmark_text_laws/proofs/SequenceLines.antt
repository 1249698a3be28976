-- The lines of two texts in a row.
use Rattle.std.proofs.Common.{◌≡◌, ℕ, zero, suc, ◌+◌, ◌-◌, ◌*◌, ◌^◌, ◌<◌, ◌≤◌, Bool, true, false, ◌==◌, ◌&&◌, if◌then◌else◌, nat_lt, nat_le, List, [], ◌∷◌, ◌++◌, length, take, drop, refl, ap, sym, subst, ◌∙◌, arith, length-append}
use Rattle.std.specs.Prelude.{filter, replicate, slice_get, slice_range, Some}
use Rattle.std.specs.List.{AllByRecursion, fold}
use Rattle.std.proofs.lemmas.Bool.Decides.{nat_tests}
use Rattle.tocmark_read_scan.specs.Basic.{plus, byte_at, bytes_between}
use Rattle.tocmark_read_lines.specs.Cells.{cell_place, cells_of, first_cursor}
use Rattle.tocmark_read_lines.specs.Lines.{ends_here, line_stop, line, last_line, lines_from, lines_of}
use Rattle.tocmark_read_lines.specs.declared.cell.Cell.{Cell}
use Rattle.tocmark_read_lines.specs.declared.line.Line.{Line}
use Rattle.tocmark_read_page.specs.Pages.{first_page, leaf_closed, times, closed_to}
use Rattle.tocmark_read_blocks.specs.Blocks.{core_known, turn_of, turn_in, touched, passed_in, cells_taken_in, line_taken_in}
use Rattle.tocmark_read_blocks.specs.Leaves.{leaf_turn}
use Rattle.tocmark_read_blocks.proofs.Steps.{blank_started}
use Rattle.tocmark_text_laws.specs.Lines.{IsInner, IsLine}
use Rattle.tocmark_text_laws.proofs.Pairs.{Pairs}
use Rattle.tocmark_text_laws.proofs.Low.{LowLine, stop_low}
use Rattle.tocmark_text_laws.proofs.Grounds.{Grounded}
use Rattle.tocmark_text_laws.proofs.Ranged.{Bounds, LineIn, Ascend, cells_head, grounded, between_range}
use Rattle.tocmark_text_laws.proofs.QuotedCells.{byte_later, between_later}
use Rattle.tocmark_text_laws.proofs.QuotedLines.{between_front, in_front}
use Rattle.tocmark_text_laws.proofs.SequencePieces.{feeds, LineOn}
use Rattle.tocmark_text_laws.proofs.SequencePages.{numbered}

-- a line has no line feed

flat_inner : (xs : List ℕ) → AllByRecursion IsInner xs → feeds xs ≡ 0
flat_inner [] h = refl
flat_inner (x ∷ xs) h = ap (λ k. length (if k then x ∷ filter (λ b. b == 10) xs else filter (λ b. b == 10) xs)) ((h.0).0) ∙ flat_inner xs (h.1)

part_all : (P : ℕ → Type 0) (a c m : ℕ) (xs : List ℕ) → a + c ≤ m → AllByRecursion P (take m xs) → AllByRecursion P (take c (drop a xs))
part_all P a zero m xs h k = tt
part_all P zero (suc c) m [] h k = tt
part_all P zero (suc c) zero (x ∷ xs) h k = absurd (omega (arith, h))
part_all P zero (suc c) (suc m) (x ∷ xs) h k = (k.0, part_all P zero c m xs (omega (arith, h)) (k.1))
part_all P (suc a) (suc c) m [] h k = tt
part_all P (suc a) (suc c) zero (x ∷ xs) h k = absurd (omega (arith, h))
part_all P (suc a) (suc c) (suc m) (x ∷ xs) h k = part_all P a (suc c) m xs (omega (arith, h)) (k.1)

none_dropped : (k : ℕ) → drop {A = ℕ} k [] ≡ []
none_dropped zero = refl
none_dropped (suc k) = refl

drop_at : (s i : ℕ) (xs : List ℕ) → s ≤ i → drop i xs ≡ drop (i - s) (drop s xs)
drop_at zero i xs h = ap (λ k. drop k xs) (let z : i ≡ i - 0 = omega arith in z)
drop_at (suc s) zero xs h = absurd (omega (arith, h))
drop_at (suc s) (suc i) [] h = sym (none_dropped (suc i - suc s))
drop_at (suc s) (suc i) (x ∷ xs) h = drop_at s i xs (omega (arith, h)) ∙ ap (λ k. drop k (drop s xs)) (let z : i - s ≡ suc i - suc s = omega arith in z)

line_flat : (t : List ℕ) (l : Line) → l.start ≤ l.end → l.end ≤ length t → AllByRecursion IsInner (bytes_between t l.start l.end) → (i j : ℕ) → l.start ≤ i → j ≤ l.end → feeds (bytes_between t i j) ≡ 0
line_flat t l order low inner i j from to = by (nat_le i j) refl
  where
    by : (k : Bool) → nat_le i j ≡ k → feeds (bytes_between t i j) ≡ 0
    by true e =
        let less : i ≤ j = grind (arith, e, nat_tests) in
        ap feeds (between_range t i j less (omega (arith, to, low)) ∙ ap (take (j - i)) (drop_at l.start i t from))
        ∙ flat_inner (take (j - i) (drop (i - l.start) (drop l.start t)))
        (part_all IsInner (i - l.start) (j - i) (l.end - l.start) (drop l.start t) (omega (arith, less, from, to)) (subst (λ xs. AllByRecursion IsInner xs) (between_range t l.start l.end order low) inner))
    by false e = rw e refl

-- what is known of a line of a text that is in another text, too

abbrev pub Inside : List ℕ → ℕ → Type 0
Inside t x = x ≤ length t

got_less : (t : List ℕ) (i b : ℕ) → slice_get t i ≡ Some b → i < length t
got_less [] i b e = absurd cc
got_less (x ∷ xs) zero b e = omega arith
got_less (x ∷ xs) (suc i) b e = omega (arith, got_less xs i b e)

pub inside : (t : List ℕ) → Bounds (Inside t) t
inside t = record { front = omega arith; end = omega arith; around = λ i b e k. (omega (arith, got_less t i b e), omega (arith, got_less t i b e)) }

-- another text has the same bytes from a place on, up to a place
pub record Agrees (t q : List ℕ) (from to : ℕ) : Type 0 where
  pub window : (i j : ℕ) → from ≤ i → j ≤ length t → bytes_between q i j ≡ bytes_between t i j
  pub byte : (i : ℕ) → from ≤ i → i ≤ to → byte_at q i ≡ byte_at t i

pub shared_line : (t q : List ℕ) (from to n : ℕ) (l : Line) → 4 * length t < 2 ^ 64 - 1 → from ≤ n → l.end ≤ to → Agrees t q from to → LineIn (Inside t) t n l → IsLine t l → LowLine l → LineOn t q l (cells_of [] l.start (bytes_between t l.start l.end))
shared_line t q from to n l small low last agrees h ends few = record {
  order = h.ordered;
  onto = h.onto;
  few = few.few;
  low = g.low;
  begins = λ c. omega (arith, first, g.rising 0 c (omega arith));
  stops = λ c. g.within c;
  tabs = λ c k e. (g.tabs c k e).1;
  window = λ i j a b. agrees.window i j (omega (arith, a, low, h.after)) (omega (arith, b, h.next));
  byte = λ i a b. agrees.byte i (omega (arith, a, low, h.after)) (omega (arith, b, last));
  flat = line_flat t l h.ordered h.within ends.content;
}
  where
    cs : List Cell
    cs = cells_of [] l.start (bytes_between t l.start l.end)

    g : Grounded (Inside t) cs l
    g = grounded (Inside t) t n l small (inside t) h

    first : l.start ≤ cell_place cs 0 l.end
    first = cells_head (λ x. l.start ≤ x) l.start l.end (bytes_between t l.start l.end) (omega arith) h.ordered

abbrev pub Shares : List ℕ → List ℕ → Line → Type 0
Shares t q l = LineOn t q l (cells_of [] l.start (bytes_between t l.start l.end))

pub shared_lines : (t q : List ℕ) (from to n : ℕ) (ls : List Line) → 4 * length t < 2 ^ 64 - 1 → from ≤ n → AllByRecursion (λ (l : Line). l.end ≤ to) ls → Agrees t q from to → Ascend (Inside t) t n ls → AllByRecursion (IsLine t) ls → AllByRecursion LowLine ls → AllByRecursion (Shares t q) ls
shared_lines t q from to n [] small low last agrees h ends few = tt
shared_lines t q from to n (l ∷ ls) small low last agrees h ends few =
    (shared_line t q from to n l small low (last.0) agrees (h.0) (ends.0) (few.0), shared_lines t q from to l.end ls small (omega (arith, low, (h.0).after, (h.0).ordered)) (last.1) agrees (h.1) (ends.1) (few.1))

pub agrees_front : (t u : List ℕ) → 0 < length t → Agrees t (t ++ u) 0 (length t - 1)
agrees_front t u some = record {
  window = λ i j a b. between_front t u i j b;
  byte = λ i a b. in_front t u i (omega (arith, some, b));
}

pub agrees_later : (t p u : List ℕ) → length p ≡ length t → Agrees (p ++ u) (t ++ u) (length t) (length (p ++ u))
agrees_later t p u e = record { window = windows; byte = bytes }
  where
    bytes : (i : ℕ) → length t ≤ i → i ≤ length (p ++ u) → byte_at (t ++ u) i ≡ byte_at (p ++ u) i
    bytes i a b =
        ap (byte_at (t ++ u)) (let z : i ≡ length t + (i - length t) = omega (arith, a) in z) ∙ byte_later t u (i - length t)
        ∙ sym (ap (byte_at (p ++ u)) (let z : i ≡ length p + (i - length t) = omega (arith, a, e) in z) ∙ byte_later p u (i - length t))

    windows : (i j : ℕ) → length t ≤ i → j ≤ length (p ++ u) → bytes_between (t ++ u) i j ≡ bytes_between (p ++ u) i j
    windows i j a b = by (nat_le i j) refl
      where
        by : (k : Bool) → nat_le i j ≡ k → bytes_between (t ++ u) i j ≡ bytes_between (p ++ u) i j
        by true r =
            let less : i ≤ j = grind (arith, r, nat_tests) in
            let i' : i ≡ length t + (i - length t) = omega (arith, a) in
            let j' : j ≡ length t + (j - length t) = omega (arith, a, less) in
            let i'' : i ≡ length p + (i - length t) = omega (arith, a, e) in
            let j'' : j ≡ length p + (j - length t) = omega (arith, a, less, e) in
            ap (λ x. bytes_between (t ++ u) x j) i' ∙ ap (bytes_between (t ++ u) (length t + (i - length t))) j' ∙ between_later t u (i - length t) (j - length t)
            ∙ sym (ap (λ x. bytes_between (p ++ u) x j) i'' ∙ ap (bytes_between (p ++ u) (length p + (i - length t))) j'' ∙ between_later p u (i - length t) (j - length t))
        by false r = rw r refl

-- the lines of the first text are the first lines of both

-- bytes of which the last one is a line feed
abbrev pub Feed : List ℕ → Type 0
Feed [] = ⊥
Feed (b ∷ []) = b ≡ 10
Feed (b ∷ c ∷ cs) = Feed (c ∷ cs)

pub record Splits (t u : List ℕ) (most : ℕ) (there here : List Line) : Type 0 where
  pub count : ℕ
  pub few : count ≤ most
  pub lines : there ≡ here ++ lines_from (t ++ u) count (length t) (length t) u
  pub low : AllByRecursion (λ (l : Line). l.end ≤ length t - 1) here

same_stop : (t u : List ℕ) (start b at : ℕ) → at < length t → line_stop (t ++ u) start b at ≡ line_stop t start b at
unfolding line_stop
same_stop t u start b at low = rw (in_front t u (at - 1) (omega (arith, low))) refl

same_end : (t u : List ℕ) (b at : ℕ) → at + 1 < length t → length t < 2 ^ 64 - 1 → ends_here (t ++ u) b at ≡ ends_here t b at
unfolding ends_here
same_end t u b at low small = rw (in_front t u (plus at 1) (omega (arith, low, small)), there, here) refl
  where
    there : nat_le (length (t ++ u)) (plus at 1) ≡ false
    there = let z : plus at 1 < length (t ++ u) = omega (arith, low, small, length-append t u) in grind (arith, z, nat_tests)

    here : nat_le (length t) (plus at 1) ≡ false
    here = let z : plus at 1 < length t = omega (arith, low, small) in grind (arith, z, nat_tests)

pub feed_ends : (t : List ℕ) (b at : ℕ) → b ≡ 10 → ends_here t b at ≡ true
unfolding ends_here
feed_ends t b at e = rw e refl

pub nothing_left : (before n : ℕ) → last_line before n n ≡ []
nothing_left before n = let e : nat_lt n n ≡ false = grind (arith, nat_tests) in rw e refl

split_from : (t u : List ℕ) (before start at : ℕ) (rest : List ℕ) → length t < 2 ^ 64 - 1 → at + length rest ≡ length t → Feed rest → Splits t u (before + length rest) (lines_from (t ++ u) before start at (rest ++ u)) (lines_from t before start at rest)
split_from t u before start at [] small e f = absurd f
split_from t u before start at (b ∷ []) small e f = rw (feed_ends (t ++ u) b at f, feed_ends t b at f, same_stop t u start b at (omega (arith, e)), nothing_left (before + 1) (at + 1)) (record {
  count = before + 1;
  few = omega arith;
  lines = ap (λ n. line before start (line_stop t start b at) (at + 1) ∷ lines_from (t ++ u) (before + 1) n n u) (let z : at + 1 ≡ length t = omega (arith, e) in z);
  low = (omega (arith, stop_low t start b at, e), tt);
})
split_from t u before start at (b ∷ c ∷ cs) small e f =
    rw (same_end t u b at (omega (arith, e)) small, same_stop t u start b at (omega (arith, e)))
    (by (ends_here t b at) (split_from t u (before + 1) (at + 1) (at + 1) (c ∷ cs) small (omega (arith, e)) f) (split_from t u before start (at + 1) (c ∷ cs) small (omega (arith, e)) f))
  where
    first : Line
    first = line before start (line_stop t start b at) (at + 1)

    by : (k : Bool)
        → Splits t u (before + 1 + length (c ∷ cs)) (lines_from (t ++ u) (before + 1) (at + 1) (at + 1) ((c ∷ cs) ++ u)) (lines_from t (before + 1) (at + 1) (at + 1) (c ∷ cs))
        → Splits t u (before + length (c ∷ cs)) (lines_from (t ++ u) before start (at + 1) ((c ∷ cs) ++ u)) (lines_from t before start (at + 1) (c ∷ cs))
        → Splits t u (before + length (b ∷ c ∷ cs)) (if k then first ∷ lines_from (t ++ u) (before + 1) (at + 1) (at + 1) ((c ∷ cs) ++ u) else lines_from (t ++ u) before start (at + 1) ((c ∷ cs) ++ u)) (if k then first ∷ lines_from t (before + 1) (at + 1) (at + 1) (c ∷ cs) else lines_from t before start (at + 1) (c ∷ cs))
    by true next more = record { count = next.count; few = omega (arith, next.few); lines = ap (λ ls. first ∷ ls) next.lines; low = (omega (arith, stop_low t start b at, e), next.low) }
    by false next more = record { count = more.count; few = omega (arith, more.few); lines = more.lines; low = more.low }

pub split_lines : (t u : List ℕ) → length t < 2 ^ 64 - 1 → Feed t → Splits t u (length t) (lines_of (t ++ u)) (lines_of t)
split_lines t u small f = let s : Splits t u (0 + length t) (lines_of (t ++ u)) (lines_of t) = split_from t u 0 0 0 t small (omega arith) f in record { count = s.count; few = omega (arith, s.few); lines = s.lines; low = s.low }

-- the other lines differ by their numbers alone

abbrev pub Follows : ℕ → Line → Line → Type 0
Follows d there here = (there ≡ numbered there.number here) × (there.number + d ≡ here.number)

both_follow : (d a b start stop next : ℕ) → a + d ≡ b → b + 1 < 2 ^ 64 - 1 → Follows d (line a start stop next) (line b start stop next)
both_follow d a b start stop next e few = (refl, omega (arith, e, few))

later_end : (t p u : List ℕ) (b at : ℕ) → length p ≡ length t → length t ≤ at → at < length (p ++ u) → length (p ++ u) < 2 ^ 64 - 1 → ends_here (t ++ u) b at ≡ ends_here (p ++ u) b at
unfolding ends_here
later_end t p u b at e low high small = rw ((agrees_later t p u e).byte (plus at 1) (omega (arith, low, high, small)) (omega (arith, high, small)), same) refl
  where
    same : length (t ++ u) ≡ length (p ++ u)
    same = omega (arith, length-append t u, length-append p u, e)

later_stop : (t p u : List ℕ) (start b at : ℕ) → length p ≡ length t → length t ≤ start → at < length (p ++ u) → line_stop (t ++ u) start b at ≡ line_stop (p ++ u) start b at
unfolding line_stop
later_stop t p u start b at e low high = by (b == 10) (nat_lt start at) refl
  where
    by : (x k : Bool) → nat_lt start at ≡ k → (if x && k && (byte_at (t ++ u) (at - 1) == 13) then at - 1 else at) ≡ (if x && k && (byte_at (p ++ u) (at - 1) == 13) then at - 1 else at)
    by false k r = refl
    by true false r = refl
    by true true r = let less : start < at = grind (arith, r, nat_tests) in rw ((agrees_later t p u e).byte (at - 1) (omega (arith, less, low)) (omega (arith, high))) refl

pub follow_from : (t p u : List ℕ) (d a b start at : ℕ) (rest : List ℕ) → length p ≡ length t → a + d ≡ b → b + length rest + 1 < 2 ^ 64 - 1 → length (p ++ u) < 2 ^ 64 - 1 → length t ≤ start → start ≤ at → at + length rest ≡ length (p ++ u)
    → Pairs (Follows d) (lines_from (t ++ u) a start at rest) (lines_from (p ++ u) b start at rest)
follow_from t p u d a b start at [] e k few small low order long = by (nat_lt start at)
  where
    by : (x : Bool) → Pairs (Follows d) (if x then line a start at at ∷ [] else []) (if x then line b start at at ∷ [] else [])
    by true = (both_follow d a b start at at k (omega (arith, few)), tt)
    by false = tt
follow_from t p u d a b start at (c ∷ cs) e k few small low order long =
    rw (later_end t p u c at e (omega (arith, low, order)) (omega (arith, long)) small, later_stop t p u start c at e low (omega (arith, long)))
    (by (ends_here (p ++ u) c at) (follow_from t p u d (a + 1) (b + 1) (at + 1) (at + 1) cs e (omega (arith, k)) (omega (arith, few)) small (omega (arith, low, order)) (omega arith) (omega (arith, long))) (follow_from t p u d a b start (at + 1) cs e k (omega (arith, few)) small low (omega (arith, order)) (omega (arith, long))))
  where
    stop : ℕ
    stop = line_stop (p ++ u) start c at

    by : (x : Bool) → Pairs (Follows d) (lines_from (t ++ u) (a + 1) (at + 1) (at + 1) cs) (lines_from (p ++ u) (b + 1) (at + 1) (at + 1) cs) → Pairs (Follows d) (lines_from (t ++ u) a start (at + 1) cs) (lines_from (p ++ u) b start (at + 1) cs)
        → Pairs (Follows d) (if x then line a start stop (at + 1) ∷ lines_from (t ++ u) (a + 1) (at + 1) (at + 1) cs else lines_from (t ++ u) a start (at + 1) cs) (if x then line b start stop (at + 1) ∷ lines_from (p ++ u) (b + 1) (at + 1) (at + 1) cs else lines_from (p ++ u) b start (at + 1) cs)
    by true next more = (both_follow d a b start stop (at + 1) k (omega (arith, few)), next)
    by false next more = more

-- empty lines in front

abbrev pub blanks : ℕ → ℕ → List Line
blanks b zero = []
blanks b (suc j) = line b b b (b + 1) ∷ blanks (b + 1) j

pub feed_stop : (v : List ℕ) (b : ℕ) → line_stop v b 10 b ≡ b
unfolding line_stop
feed_stop v b = let e : nat_lt b b ≡ false = grind (arith, nat_tests) in rw e refl

pub blank_lines : (v u : List ℕ) (b j : ℕ) → lines_from v b b b (replicate j 10 ++ u) ≡ blanks b j ++ lines_from v (b + j) (b + j) (b + j) u
blank_lines v u b zero = ap (λ n. lines_from v n n n u) (let z : b ≡ b + 0 = omega arith in z)
blank_lines v u b (suc j) =
    ap (λ k. if k then line b b (line_stop v b 10 b) (b + 1) ∷ lines_from v (b + 1) (b + 1) (b + 1) (replicate j 10 ++ u) else lines_from v b b (b + 1) (replicate j 10 ++ u)) (feed_ends v 10 b refl)
    ∙ ap (λ n. line b b n (b + 1) ∷ lines_from v (b + 1) (b + 1) (b + 1) (replicate j 10 ++ u)) (feed_stop v b)
    ∙ ap (λ ls. line b b b (b + 1) ∷ ls) (blank_lines v u (b + 1) j ∙ ap (λ n. blanks (b + 1) j ++ lines_from v n n n u) (let z : b + 1 + j ≡ b + suc j = omega arith in z))

pub none_between : (v : List ℕ) (b : ℕ) → bytes_between v b b ≡ []
none_between v b = by (nat_le b b && nat_le b (length v))
  where
    by : (k : Bool) → (if k then slice_range v b b else []) ≡ []
    by true = ap (λ n. take n (drop b v)) (let z : b - b ≡ 0 = omega arith in z)
    by false = refl

nothing_closed : (v : List ℕ) → closed_to v 0 first_page ≡ first_page
unfolding closed_to leaf_closed times
nothing_closed v = refl

blank_taken : (v : List ℕ) (b : ℕ) → line_taken_in core_known v first_page (line b b b (b + 1)) ≡ first_page
unfolding line_taken_in cells_taken_in touched turn_in turn_of leaf_turn passed_in first_cursor
blank_taken v b =
    ap (λ bs. cells_taken_in core_known v (cells_of [] b bs) (line b b b (b + 1)) first_page) (none_between v b)
    ∙ blank_started core_known v [] (line b b b (b + 1)) (record { cursor = first_cursor []; depth = 0 }) first_page refl
    ∙ nothing_closed v

pub blanks_taken : (v : List ℕ) (b j : ℕ) (ls : List Line) → fold (line_taken_in core_known v) first_page (blanks b j ++ ls) ≡ fold (line_taken_in core_known v) first_page ls
blanks_taken v b zero ls = refl
blanks_taken v b (suc j) ls = ap (λ s. fold (line_taken_in core_known v) s (blanks (b + 1) j ++ ls)) (blank_taken v b) ∙ blanks_taken v (b + 1) j ls
