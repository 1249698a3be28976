-- The lines of a text, and their columns: each begins and ends at a boundary of characters, and so does what is beside a byte of ASCII.
use Rattle.std.proofs.Common.{◌≡◌, ℕ, zero, suc, ◌+◌, ◌-◌, ◌*◌, ◌^◌, ◌<◌, ◌≤◌, Bool, true, false, not, ◌==◌, ◌&&◌, ◌||◌, if◌then◌else◌, nat_lt, nat_le, List, [], ◌∷◌, ◌++◌, length, take, drop, refl, ap, sym, ◌∙◌, subst, arith, true≢false, length-append, length-take}
use Rattle.std.specs.Prelude.{slice_get, slice_range, replicate, ◌%◌, min, unwrap_or, Option, Some, None}
use Rattle.std.proofs.lemmas.Bool.Decides.{nat_tests}
use Rattle.std.proofs.lemmas.List.{length-drop, length-replicate}
use Rattle.tocmark_read_scan.specs.Basic.{plus, byte_at, bytes_between}
use Rattle.tocmark_read_lines.specs.Cells.{cell, cells_of, cell_place, filled}
use Rattle.tocmark_read_lines.specs.Lines.{ends_here, line_stop, line, last_line, lines_from, lines_of}
use Rattle.tocmark_read_lines.specs.declared.cell.Cell.{Cell}
use Rattle.tocmark_read_lines.specs.declared.line.Line.{Line}
use Rattle.tocmark_text_laws.proofs.Grounds.{Grounded, get_drop}

-- places of a text: its ends, and those beside a byte of ASCII
pub record Bounds (P : ℕ → Type 0) (t : List ℕ) : Type 0 where
  pub front : P 0
  pub end : P (length t)
  pub around : (i b : ℕ) → slice_get t i ≡ Some b → b < 128 → P i × P (i + 1)

-- a column, those after it, and the place after the last one
record Link (P : ℕ → Type 0) (n : ℕ) (x : Cell) (xs : List Cell) : Type 0 where
  low : x.at < n
  ascii : x.byte < 128 → P (cell_place xs 0 n)
  tab : x.at ≡ cell_place xs 0 n → P (x.at + 1)
  before : x.byte < 128 → P x.at
  rise : x.at ≤ cell_place xs 0 n

abbrev Chain : (ℕ → Type 0) → ℕ → List Cell → Type 0
Chain P n [] = Unit
Chain P n (x ∷ xs) = Link P n x xs × Chain P n xs

head_both : (xs ys : List Cell) (n : ℕ) → cell_place (xs ++ ys) 0 n ≡ cell_place xs 0 (cell_place ys 0 n)
head_both [] ys n = refl
head_both (x ∷ xs) ys n = refl

chain_both : (P : ℕ → Type 0) (n : ℕ) (xs ys : List Cell) → cell_place ys 0 n ≤ n → Chain P (cell_place ys 0 n) xs → Chain P n ys → Chain P n (xs ++ ys)
chain_both P n [] ys l h k = k
chain_both P n (x ∷ xs) ys l h k = (
  record {
    low = let w : x.at < cell_place ys 0 n = (h.0).low in omega arith;
    ascii = λ a. subst P (sym (head_both xs ys n)) ((h.0).ascii a);
    tab = λ e. (h.0).tab (e ∙ head_both xs ys n);
    before = (h.0).before;
    rise = subst (λ m. x.at ≤ m) (sym (head_both xs ys n)) ((h.0).rise);
  },
  chain_both P n xs ys l (h.1) k,
)

copies_head : (k at : ℕ) → 1 ≤ k → cell_place (replicate k (cell 32 at)) 0 (at + 1) ≡ at
copies_head zero at h = absurd (omega arith)
copies_head (suc k) at h = refl

copies_good : (P : ℕ → Type 0) (k at : ℕ) → P at → P (at + 1) → P (cell_place (replicate k (cell 32 at)) 0 (at + 1))
copies_good P zero at p q = q
copies_good P (suc k) at p q = p

copies_rise : (k at : ℕ) → at ≤ cell_place (replicate k (cell 32 at)) 0 (at + 1)
copies_rise zero at = omega arith
copies_rise (suc k) at = omega arith

copies_chain : (P : ℕ → Type 0) (k at : ℕ) → P at → P (at + 1) → Chain P (at + 1) (replicate k (cell 32 at))
copies_chain P zero at p q = tt
copies_chain P (suc k) at p q = (record { low = omega arith; ascii = λ a. copies_good P k at p q; tab = λ e. q; before = λ a. p; rise = copies_rise k at }, copies_chain P k at p q)

filled_chain : (P : ℕ → Type 0) (cs : List Cell) (b at : ℕ) → (b < 128 → P at × P (at + 1)) → Chain P at cs → Chain P (at + 1) (filled cs b at)
unfolding filled
filled_chain P cs b at f h = by (b == 9) refl
  where
    tabbed : (k : ℕ) → 1 ≤ k → P at × P (at + 1) → Chain P (at + 1) (cs ++ replicate k (cell 32 at))
    tabbed k s w = let e : cell_place (replicate k (cell 32 at)) 0 (at + 1) ≡ at = copies_head k at s in chain_both P (at + 1) cs (replicate k (cell 32 at)) (omega arith) (subst (λ n. Chain P n cs) (sym e) h) (copies_chain P k at (w.0) (w.1))

    by : (x : Bool) → (b == 9) ≡ x → Chain P (at + 1) (if x then cs ++ replicate (4 - length cs % 4) (cell 32 at) else cs ++ cell b at ∷ [])
    by true e = let w : b ≡ 9 = grind (arith, nat_tests) in tabbed (4 - length cs % 4) (omega arith) (f (omega arith))
    by false e = chain_both P (at + 1) cs (cell b at ∷ []) (omega arith) h (record { low = omega arith; ascii = λ a. (f a).1; tab = λ q. absurd (omega arith); before = λ a. (f a).0; rise = omega arith }, tt)

-- what is beside a byte of ASCII among bytes from a place on
abbrev pub Around : (ℕ → Type 0) → ℕ → List ℕ → Type 0
Around P at bs = (i b : ℕ) → slice_get bs i ≡ Some b → b < 128 → P (at + i) × P (at + i + 1)

later : (P : ℕ → Type 0) (at b : ℕ) (bs : List ℕ) → Around P at (b ∷ bs) → Around P (at + 1) bs
later P at b bs f i c e k = let q : at + suc i ≡ at + 1 + i = omega arith in subst (λ n. P n × P (n + 1)) q (f (suc i) c e k)

now : (P : ℕ → Type 0) (at b : ℕ) (bs : List ℕ) → Around P at (b ∷ bs) → b < 128 → P at × P (at + 1)
now P at b bs f k = let q : at + 0 ≡ at = omega arith in subst (λ n. P n × P (n + 1)) q (f 0 b refl k)

cells_chain : (P : ℕ → Type 0) (cs : List Cell) (at : ℕ) (bs : List ℕ) → at + length bs < 2 ^ 64 - 1 → Around P at bs → Chain P at cs → Chain P (at + length bs) (cells_of cs at bs)
cells_chain P cs at [] h f c = let e : at ≡ at + 0 = omega arith in subst (λ n. Chain P n cs) e c
cells_chain P cs at (b ∷ bs) h f c =
    let e : at + 1 ≡ plus at 1 = omega arith in
    let q : at + 1 + length bs ≡ at + suc (length bs) = omega arith in
    subst (λ n. Chain P n (cells_of (filled cs b at) (plus at 1) bs)) q
    (subst (λ n. Chain P (at + 1 + length bs) (cells_of (filled cs b at) n bs)) e (cells_chain P (filled cs b at) (at + 1) bs (omega arith) (later P at b bs f) (filled_chain P cs b at (now P at b bs f) c)))

-- the first column is at the place where the line begins
filled_some : (P : ℕ → Type 0) (c : Cell) (cs : List Cell) (b at n : ℕ) → P c.at → P (cell_place (filled (c ∷ cs) b at) 0 n)
unfolding filled
filled_some P c cs b at n h = by (b == 9)
  where
    by : (x : Bool) → P (cell_place (if x then (c ∷ cs) ++ replicate (4 - length (c ∷ cs) % 4) (cell 32 at) else (c ∷ cs) ++ cell b at ∷ []) 0 n)
    by true = h
    by false = h

filled_head : (P : ℕ → Type 0) (b at n : ℕ) → P at → P (cell_place (filled [] b at) 0 n)
unfolding filled
filled_head P b at n p = by (b == 9)
  where
    by : (x : Bool) → P (cell_place (if x then [] ++ replicate (4 - length {A = Cell} [] % 4) (cell 32 at) else [] ++ cell b at ∷ []) 0 n)
    by true = p
    by false = p

filled_length : (cs : List Cell) (b at : ℕ) → (length (filled cs b at) ≤ length cs + 4) × (1 ≤ length (filled cs b at))
unfolding filled
filled_length cs b at = by (b == 9)
  where
    by : (x : Bool) → (length (if x then cs ++ replicate (4 - length cs % 4) (cell 32 at) else cs ++ cell b at ∷ []) ≤ length cs + 4) × (1 ≤ length (if x then cs ++ replicate (4 - length cs % 4) (cell 32 at) else cs ++ cell b at ∷ []))
    by true =
        let w : length (cs ++ replicate (4 - length cs % 4) (cell 32 at)) ≡ length cs + length (replicate (4 - length cs % 4) (cell 32 at)) = length-append cs (replicate (4 - length cs % 4) (cell 32 at)) in
        let q : length (replicate (4 - length cs % 4) (cell 32 at)) ≡ 4 - length cs % 4 = length-replicate (4 - length cs % 4) (cell 32 at) in
        (omega arith, omega arith)
    by false = let w : length (cs ++ cell b at ∷ []) ≡ length cs + 1 = length-append cs (cell b at ∷ []) in (omega arith, omega arith)

pub cells_few : (cs : List Cell) (at : ℕ) (bs : List ℕ) → length (cells_of cs at bs) ≤ length cs + 4 * length bs
cells_few cs at [] = omega arith
cells_few cs at (b ∷ bs) =
    let w : length (cells_of (filled cs b at) (plus at 1) bs) ≤ length (filled cs b at) + 4 * length bs = cells_few (filled cs b at) (plus at 1) bs in
    let q : length (filled cs b at) ≤ length cs + 4 = (filled_length cs b at).0 in
    omega arith

kept_head : (P : ℕ → Type 0) (cs : List Cell) (at n : ℕ) (bs : List ℕ) → 1 ≤ length cs → P (cell_place cs 0 n) → P (cell_place (cells_of cs at bs) 0 n)
kept_head P cs at n [] l h = h
kept_head P [] at n (b ∷ bs) l h = absurd (omega arith)
kept_head P (c ∷ cs) at n (b ∷ bs) l h = kept_head P (filled (c ∷ cs) b at) (plus at 1) n bs ((filled_length (c ∷ cs) b at).1) (filled_some P c cs b at n h)

pub cells_head : (P : ℕ → Type 0) (at n : ℕ) (bs : List ℕ) → P at → P n → P (cell_place (cells_of [] at bs) 0 n)
cells_head P at n [] p q = q
cells_head P at n (b ∷ bs) p q = kept_head P (filled [] b at) (plus at 1) n bs ((filled_length [] b at).1) (filled_head P b at n p)

chain_within : (P : ℕ → Type 0) (n : ℕ) (cs : List Cell) (c : ℕ) → Chain P n cs → cell_place cs c n ≤ n
chain_within P n [] c h = omega arith
chain_within P n (x ∷ xs) zero h = let w : x.at < n = (h.0).low in omega arith
chain_within P n (x ∷ xs) (suc c) h = chain_within P n xs c (h.1)

chain_ascii : (P : ℕ → Type 0) (n : ℕ) (cs : List Cell) (c : ℕ) (x : Cell) → Chain P n cs → slice_get cs c ≡ Some x → x.byte < 128 → P (cell_place cs (suc c) n)
chain_ascii P n [] c x h e k = absurd cc
chain_ascii P n (y ∷ ys) zero x h e k = let q : x ≡ y = cc in (h.0).ascii (subst (λ (z : Cell). z.byte < 128) q k)
chain_ascii P n (y ∷ ys) (suc c) x h e k = chain_ascii P n ys c x (h.1) e k

chain_before : (P : ℕ → Type 0) (n : ℕ) (cs : List Cell) (c : ℕ) (x : Cell) → Chain P n cs → slice_get cs c ≡ Some x → x.byte < 128 → P (cell_place cs c n)
chain_before P n [] c x h e k = absurd cc
chain_before P n (y ∷ ys) zero x h e k = let q : x ≡ y = cc in (h.0).before (subst (λ (z : Cell). z.byte < 128) q k)
chain_before P n (y ∷ ys) (suc c) x h e k = chain_before P n ys c x (h.1) e k

chain_rising : (P : ℕ → Type 0) (n : ℕ) (cs : List Cell) (c d : ℕ) → Chain P n cs → c ≤ d → cell_place cs c n ≤ cell_place cs d n
chain_rising P n [] c d h l = omega arith
chain_rising P n (x ∷ xs) zero zero h l = omega arith
chain_rising P n (x ∷ xs) zero (suc d) h l = let a : x.at ≤ cell_place xs 0 n = (h.0).rise in let b : cell_place xs 0 n ≤ cell_place xs d n = chain_rising P n xs 0 d (h.1) (omega arith) in omega arith
chain_rising P n (x ∷ xs) (suc c) zero h l = absurd (omega arith)
chain_rising P n (x ∷ xs) (suc c) (suc d) h l = chain_rising P n xs c d (h.1) (omega arith)

chain_tabs : (P : ℕ → Type 0) (n : ℕ) (cs : List Cell) (c : ℕ) → Chain P n cs → suc c < length cs → cell_place cs c 0 ≡ cell_place cs (suc c) 0 → P (cell_place cs (suc c) n + 1) × (cell_place cs (suc c) n + 1 ≤ n)
chain_tabs P n [] c h l e = absurd (omega arith)
chain_tabs P n (x ∷ []) zero h l e = absurd (omega arith)
chain_tabs P n (x ∷ y ∷ ys) zero h l e = let w : y.at < n = ((h.1).0).low in (subst (λ m. P (m + 1)) e ((h.0).tab e), omega arith)
chain_tabs P n (x ∷ xs) (suc c) h l e = chain_tabs P n xs c (h.1) (omega arith) e

got_take : (k : ℕ) (xs : List ℕ) (i b : ℕ) → slice_get (take k xs) i ≡ Some b → slice_get xs i ≡ Some b
got_take zero xs i b e = absurd cc
got_take (suc k) [] i b e = e
got_take (suc k) (x ∷ xs) zero b e = e
got_take (suc k) (x ∷ xs) (suc i) b e = got_take k xs i b e

pub between_range : (t : List ℕ) (s e : ℕ) → s ≤ e → e ≤ length t → bytes_between t s e ≡ take (e - s) (drop s t)
between_range t s e h k = by (nat_le s e) (nat_le e (length t)) (grind (arith, nat_tests)) (grind (arith, nat_tests))
  where
    by : (x y : Bool) → x ≡ true → y ≡ true → (if x && y then slice_range t s e else []) ≡ take (e - s) (drop s t)
    by true true p q = refl
    by true false p q = absurd (true≢false (sym q))
    by false y p q = absurd (true≢false (sym p))

between_length : (t : List ℕ) (s e : ℕ) → s ≤ e → e ≤ length t → s + length (bytes_between t s e) ≡ e
between_length t s e h k =
    let w : length (bytes_between t s e) ≡ length (take (e - s) (drop s t)) = ap (λ (xs : List ℕ). length xs) (between_range t s e h k) in
    let q : length (take (e - s) (drop s t)) ≡ min (e - s) (length (drop s t)) = length-take (e - s) (drop s t) in
    let r : length (drop s t) ≡ length t - s = length-drop s t in
    omega arith

-- a line of a text that ends not before a place
pub record LineIn (P : ℕ → Type 0) (t : List ℕ) (n : ℕ) (l : Line) : Type 0 where
  pub after : n ≤ l.start
  pub ordered : l.start ≤ l.end
  pub within : l.end ≤ length t
  pub begins : P l.start
  pub stops : P l.end
  pub next : P l.next
  pub onto : l.end ≤ l.next

line_around : (P : ℕ → Type 0) (t : List ℕ) (n : ℕ) (l : Line) → Bounds P t → LineIn P t n l → Around P l.start (bytes_between t l.start l.end)
line_around P t n l g h i b e k = g.around (l.start + i) b (sym (get_drop l.start t i) ∙ got_take (l.end - l.start) (drop l.start t) i b (ap (λ (xs : List ℕ). slice_get xs i) (sym (between_range t l.start l.end h.ordered h.within)) ∙ e)) k

-- its columns
pub grounded : (P : ℕ → Type 0) (t : List ℕ) (n : ℕ) (l : Line) → 4 * length t < 2 ^ 64 - 1 → Bounds P t → LineIn P t n l → Grounded P (cells_of [] l.start (bytes_between t l.start l.end)) l
grounded P t n l small g h = record {
  few = let w : length (cells_of [] l.start bytes) ≤ 0 + 4 * length bytes = cells_few [] l.start bytes in let a : l.end ≤ length t = h.within in let q : l.start + length bytes ≡ l.end = ends in omega arith;
  low = let a : l.end ≤ length t = h.within in omega arith;
  stops = h.stops;
  next = h.next;
  onto = h.onto;
  before = λ c x e k. chain_before P l.end (cells_of [] l.start bytes) c x chain e k;
  rising = λ c d k. chain_rising P l.end (cells_of [] l.start bytes) c d chain k;
  within = λ c. chain_within P l.end (cells_of [] l.start bytes) c chain;
  front = cells_head P l.start l.end bytes h.begins h.stops;
  ascii = λ c x e k. chain_ascii P l.end (cells_of [] l.start bytes) c x chain e k;
  tabs = λ c k e. chain_tabs P l.end (cells_of [] l.start bytes) c chain k e;
}
  where
    bytes : List ℕ
    bytes = bytes_between t l.start l.end

    ends : l.start + length bytes ≡ l.end
    ends = between_length t l.start l.end h.ordered h.within

    chain : Chain P l.end (cells_of [] l.start bytes)
    chain = subst (λ m. Chain P m (cells_of [] l.start bytes)) ends (cells_chain P [] l.start bytes (let a : l.end ≤ length t = h.within in let q : l.start + length bytes ≡ l.end = ends in omega arith) (line_around P t n l g h) tt)

-- lines one after the other, of which the first begins at a place or after it
abbrev pub Ascend : (ℕ → Type 0) → List ℕ → ℕ → List Line → Type 0
Ascend P t n [] = Unit
Ascend P t n (l ∷ ls) = LineIn P t n l × Ascend P t l.end ls

-- a line ends with a byte of ASCII
ends_ascii : (t : List ℕ) (b at : ℕ) → ends_here t b at ≡ true → b < 128
unfolding ends_here
ends_ascii t b at h = by (b == 10) (b == 13) refl refl h
  where
    by : (x y : Bool) → (b == 10) ≡ x → (b == 13) ≡ y → (x || (y && not (byte_at t (plus at 1) == 10)) || (y && nat_le (length t) (plus at 1))) ≡ true → b < 128
    by true y e k q = let w : b ≡ 10 = grind (arith, nat_tests) in omega arith
    by false true e k q = let w : b ≡ 13 = grind (arith, nat_tests) in omega arith
    by false false e k q = absurd (true≢false (sym q))

-- the bytes from a place on
abbrev pub Rest : List ℕ → ℕ → List ℕ → Type 0
Rest t at rest = (at + length rest ≡ length t) × ((j : ℕ) → slice_get rest j ≡ slice_get t (at + j))

rest_later : (t : List ℕ) (at b : ℕ) (bs : List ℕ) → Rest t at (b ∷ bs) → Rest t (at + 1) bs
rest_later t at b bs r = (let w : at + suc (length bs) ≡ length t = r.0 in omega arith, λ j. let q : at + suc j ≡ at + 1 + j = omega arith in (r.1) (suc j) ∙ ap (slice_get t) q)

rest_now : (t : List ℕ) (at b : ℕ) (bs : List ℕ) → Rest t at (b ∷ bs) → slice_get t at ≡ Some b
rest_now t at b bs r = let q : at ≡ at + 0 = omega arith in ap (slice_get t) q ∙ sym ((r.1) 0)

got_byte : (t : List ℕ) (i b : ℕ) → byte_at t i ≡ b → b ≡ 13 → slice_get t i ≡ Some 13
got_byte t i b e k = by (slice_get t i) refl e
  where
    by : (o : Option ℕ) → slice_get t i ≡ o → unwrap_or o 10 ≡ b → slice_get t i ≡ Some 13
    by None q h = absurd (omega arith)
    by (Some x) q h = q ∙ ap (λ n. Some n) (h ∙ k)

-- where a line ends
record Stops (P : ℕ → Type 0) (start at stop : ℕ) : Type 0 where
  good : P stop
  after : start ≤ stop
  before : stop ≤ at

stop_good : (P : ℕ → Type 0) (t : List ℕ) (start b at : ℕ) → Bounds P t → P at → start ≤ at → Stops P start at (line_stop t start b at)
unfolding line_stop
stop_good P t start b at g p l = by (b == 10) (nat_lt start at) (byte_at t (at - 1) == 13) refl refl refl
  where
    whole : Stops P start at at
    whole = record { good = p; after = l; before = omega arith }

    by : (x y z : Bool) → (b == 10) ≡ x → nat_lt start at ≡ y → (byte_at t (at - 1) == 13) ≡ z → Stops P start at (if x && y && z then at - 1 else at)
    by false y z e h k = whole
    by true false z e h k = whole
    by true true false e h k = whole
    by true true true e h k =
        let a : start < at = grind (arith, nat_tests) in
        let c : byte_at t (at - 1) ≡ 13 = grind (arith, nat_tests) in
        record { good = (g.around (at - 1) 13 (got_byte t (at - 1) 13 c refl) (omega arith)).0; after = omega arith; before = omega arith }

left_ascends : (P : ℕ → Type 0) (t : List ℕ) (n before start at : ℕ) → n ≤ start → at ≡ length t → P start → P at → Ascend P t n (last_line before start at)
left_ascends P t n before start at h e p q = by (nat_lt start at) refl
  where
    by : (x : Bool) → nat_lt start at ≡ x → Ascend P t n (if x then line before start at at ∷ [] else [])
    by true k = let w : start < at = grind (arith, nat_tests) in (record { after = h; ordered = omega arith; within = omega arith; begins = p; stops = q; next = q; onto = omega arith }, tt)
    by false k = tt

pub from_ascends : (P : ℕ → Type 0) (t : List ℕ) (n before start at : ℕ) (rest : List ℕ) → Bounds P t → Rest t at rest → n ≤ start → start ≤ at → P start → Ascend P t n (lines_from t before start at rest)
from_ascends P t n before start at [] g r h l p = let e : at ≡ length t = (let w : at + 0 ≡ length t = r.0 in omega arith) in left_ascends P t n before start at h e p (subst P (sym e) g.end)
from_ascends P t n before start at (b ∷ bs) g r h l p =
    by (ends_here t b at) refl
    (λ stop k q. from_ascends P t stop (before + 1) (at + 1) (at + 1) bs g (rest_later t at b bs r) (omega arith) (omega arith) q)
    (from_ascends P t n before start (at + 1) bs g (rest_later t at b bs r) h (omega arith) p)
  where
    ended : (stop : ℕ) → P (at + 1) → Stops P start at stop → LineIn P t n (line before start stop (at + 1))
    ended stop k s = record {
      after = h;
      ordered = s.after;
      within = let w : at + suc (length bs) ≡ length t = r.0 in let q : stop ≤ at = s.before in omega arith;
      begins = p;
      stops = s.good;
      next = k;
      onto = let q : stop ≤ at = s.before in omega arith;
    }

    by : (x : Bool) → ends_here t b at ≡ x
        → ((stop : ℕ) → stop ≤ at → P (at + 1) → Ascend P t stop (lines_from t (before + 1) (at + 1) (at + 1) bs)) → Ascend P t n (lines_from t before start (at + 1) bs)
        → Ascend P t n (if x then line before start (line_stop t start b at) (at + 1) ∷ lines_from t (before + 1) (at + 1) (at + 1) bs else lines_from t before start (at + 1) bs)
    by true e next more =
        let k : b < 128 = ends_ascii t b at e in
        let q : P at × P (at + 1) = g.around at b (rest_now t at b bs r) k in
        let s : Stops P start at (line_stop t start b at) = stop_good P t start b at g (q.0) l in
        (ended (line_stop t start b at) (q.1) s, next (line_stop t start b at) s.before (q.1))
    by false e next more = more

pub lines_ascend : (P : ℕ → Type 0) (t : List ℕ) → Bounds P t → Ascend P t 0 (lines_of t)
lines_ascend P t g = from_ascends P t 0 0 0 0 t g (omega arith, λ j. let q : j ≡ 0 + j = omega arith in ap (slice_get t) q) (omega arith) (omega arith) g.front
