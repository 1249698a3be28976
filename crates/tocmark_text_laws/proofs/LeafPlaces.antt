-- Where the bytes of a leaf's text are in the source: in order, and on boundaries of characters where characters begin and end.
use Rattle.std.proofs.Common.{◌≡◌, ℕ, zero, suc, ◌+◌, ◌-◌, ◌^◌, ◌<◌, ◌≤◌, ◌⊎◌, inl, inr, Bool, true, false, ◌==◌, ◌||◌, ◌&&◌, if◌then◌else◌, nat_lt, nat_le, List, [], ◌∷◌, ◌++◌, length, take, drop, refl, ap, sym, ◌∙◌, subst, arith, true≢false, min, length-append, length-take}
use Rattle.std.specs.Prelude.{slice_get, slice_index, slice_range, Some, None}
use Rattle.std.specs.List.{fold}
use Rattle.std.specs.Str.{IsUtf8, IsCharBoundary}
use Rattle.std.proofs.lemmas.Bool.Decides.{nat_tests}
use Rattle.std.proofs.lemmas.List.{length-drop}
use Rattle.std.proofs.lemmas.Option.{get_or_from_slice_get, slice_get_within}
use Rattle.std.proofs.lemmas.Str.{IsCharBoundary-start, IsCharBoundary-after_ascii}
use Rattle.tocmark_read_scan.specs.Basic.{plus, byte_at, bytes_between}
use Rattle.tocmark_read_scan.specs.Class.{is_in}
use Rattle.tocmark_read_scan.specs.Content.{State, put, put_byte, put_bytes, put_line, joined, before_white, content_of}
use Rattle.tocmark_read_scan.specs.Repeat.{going_on, iterated}
use Rattle.tocmark_read_scan.specs.declared.class.Class.TheVariants.{White}
use Rattle.tocmark_read_scan.specs.declared.content.ContentLine.{ContentLine}
use Rattle.tocmark_text_laws.proofs.Alls.{got_front}
use Rattle.tocmark_text_laws.proofs.KeptLines.{AllWhite, back_white, none_left}
use Rattle.tocmark_text_laws.proofs.Tokens.{got_dropped}

-- a boundary of characters
abbrev At : List ℕ → ℕ → Type 0
At t n = IsCharBoundary t n

-- a byte that a character begins with
abbrev pub Leads : ℕ → Type 0
Leads b = 128 ≤ b → 192 ≤ b

-- a byte and its range
record Lies (t : List ℕ) (b : ℕ) (p : ℕ × ℕ) : Type 0 where
  ordered : p.0 ≤ p.1
  begins : Leads b → At t p.0

-- a byte and its range, and those of the next byte
record Follows (t : List ℕ) (b : ℕ) (p : ℕ × ℕ) (c : ℕ) (q : ℕ × ℕ) : Type 0 where
  starts : p.0 ≤ q.0
  stops : p.1 ≤ q.1
  apart : Leads c → p.1 ≤ q.0
  ends : Leads c → At t p.1
  ascii : b < 128 → Leads c

-- the last byte, after which one is put that is at a place
record Last (t : List ℕ) (to : ℕ) (b : ℕ) (p : ℕ × ℕ) : Type 0 where
  starts : p.0 ≤ to
  stops : p.1 ≤ to
  meets : (p.1 ≡ to) ⊎ (At t p.1 × At t to)
  ascii : b < 128 → At t p.1

abbrev Next : List ℕ → ℕ → ℕ → ℕ × ℕ → List ℕ → List (ℕ × ℕ) → Type 0
Next t to b p [] [] = Last t to b p
Next t to b p [] (q ∷ ps) = ⊥
Next t to b p (c ∷ bs) [] = ⊥
Next t to b p (c ∷ bs) (q ∷ ps) = Follows t b p c q

-- bytes with their ranges
abbrev Spread : List ℕ → ℕ → List ℕ → List (ℕ × ℕ) → Type 0
Spread t to [] [] = Unit
Spread t to [] (p ∷ ps) = ⊥
Spread t to (b ∷ bs) [] = ⊥
Spread t to (b ∷ bs) (p ∷ ps) = Lies t b p × Next t to b p bs ps × Spread t to bs ps

-- one more byte
spread_put : (t : List ℕ) (to next : ℕ) (bs : List ℕ) (ps : List (ℕ × ℕ)) (c : ℕ) (q : ℕ × ℕ) → ((b : ℕ) (p : ℕ × ℕ) → Last t to b p → Follows t b p c q) → Lies t c q → Last t next c q → Spread t to bs ps → Spread t next (bs ++ c ∷ []) (ps ++ q ∷ [])
spread_put t to next [] [] c q f l k h = (l, k, tt)
spread_put t to next [] (p ∷ ps) c q f l k h = absurd h
spread_put t to next (b ∷ bs) [] c q f l k h = absurd h
spread_put t to next (b ∷ []) (p ∷ []) c q f l k (x, y, z) = (x, f b p y, (l, k, tt))
spread_put t to next (b ∷ []) (p ∷ d ∷ ps) c q f l k (x, y, z) = absurd y
spread_put t to next (b ∷ d ∷ bs) (p ∷ []) c q f l k (x, y, z) = absurd y
spread_put t to next (b ∷ d ∷ bs) (p ∷ e ∷ ps) c q f l k (x, y, z) = (x, y, spread_put t to next (d ∷ bs) (e ∷ ps) c q f l k z)

-- the next byte is put at a later place
spread_more : (t : List ℕ) (to next : ℕ) (bs : List ℕ) (ps : List (ℕ × ℕ)) → to ≤ next → At t to → At t next → Spread t to bs ps → Spread t next bs ps
spread_more t to next [] [] l a b h = tt
spread_more t to next [] (p ∷ ps) l a b h = absurd h
spread_more t to next (c ∷ bs) [] l a b h = absurd h
spread_more t to next (c ∷ []) (p ∷ []) l a b (x, y, z) = (x, record { starts = let s : p.0 ≤ to = y.starts in omega arith; stops = let s : p.1 ≤ to = y.stops in omega arith; meets = inr (met y.meets, b); ascii = y.ascii }, tt)
  where
    met : (p.1 ≡ to) ⊎ (At t p.1 × At t to) → At t p.1
    met (inl e) = subst (At t) (sym e) a
    met (inr m) = m.0
spread_more t to next (c ∷ []) (p ∷ q ∷ ps) l a b (x, y, z) = absurd y
spread_more t to next (c ∷ d ∷ bs) (p ∷ []) l a b (x, y, z) = absurd y
spread_more t to next (c ∷ d ∷ bs) (p ∷ q ∷ ps) l a b (x, y, z) = (x, y, spread_more t to next (d ∷ bs) (q ∷ ps) l a b z)

abbrev Stands : List ℕ → ℕ → State → Type 0
Stands t to s = Spread t to s.bytes s.places

leads_at : (t : List ℕ) (i b : ℕ) → slice_get t i ≡ Some b → Leads b → At t i
leads_at t i b e h =
    let w : i < length t = slice_get_within t i b e in
    let q : slice_index t i ≡ b = get_or_from_slice_get t i b 0 e in
    (omega arith, λ l k. subst (λ x. 192 ≤ x) (sym q) (h (omega arith)))

at_leads : (t : List ℕ) (i b : ℕ) → slice_get t i ≡ Some b → At t i → Leads b
at_leads t i b e h k =
    let w : i < length t = slice_get_within t i b e in
    let q : slice_index t i ≡ b = get_or_from_slice_get t i b 0 e in
    subst (λ x. 192 ≤ x) q ((h.1) w (omega arith))

ascii_leads : (b : ℕ) → b < 128 → Leads b
ascii_leads b l k = absurd (omega arith)

after_ascii : (t : List ℕ) (i b : ℕ) → IsUtf8 t → slice_get t i ≡ Some b → b < 128 → At t (i + 1)
after_ascii t i b u e l =
    let w : i < length t = slice_get_within t i b e in
    let q : slice_index t i ≡ b = get_or_from_slice_get t i b 0 e in
    let s : slice_index t i < 128 = omega arith in
    IsCharBoundary-after_ascii t i u w s

-- a byte that is put where the source has it
put_follows : (t : List ℕ) (at c : ℕ) → slice_get t at ≡ Some c → (b : ℕ) (p : ℕ × ℕ) → Last t at b p → Follows t b p c (at, at + 1)
put_follows t at c e b p h = record {
  starts = h.starts;
  stops = let s : p.1 ≤ at = h.stops in omega arith;
  apart = λ k. h.stops;
  ends = λ k. ends h.meets k;
  ascii = λ k. ascii h.meets k;
}
  where
    ends : (p.1 ≡ at) ⊎ (At t p.1 × At t at) → Leads c → At t p.1
    ends (inl q) k = subst (At t) (sym q) (leads_at t at c e k)
    ends (inr m) k = m.0

    ascii : (p.1 ≡ at) ⊎ (At t p.1 × At t at) → b < 128 → Leads c
    ascii (inl q) k = at_leads t at c e (subst (At t) q (h.ascii k))
    ascii (inr m) k = at_leads t at c e (m.1)

-- U+FFFD that is put for U+0000
zero_follows : (t : List ℕ) (at : ℕ) → slice_get t at ≡ Some 0 → (b : ℕ) (p : ℕ × ℕ) → Last t at b p → Follows t b p 0xEF (at, at + 1)
zero_follows t at e b p h = record {
  starts = h.starts;
  stops = let s : p.1 ≤ at = h.stops in omega arith;
  apart = λ k. h.stops;
  ends = λ k. ends h.meets;
  ascii = λ l k. omega arith;
}
  where
    ends : (p.1 ≡ at) ⊎ (At t p.1 × At t at) → At t p.1
    ends (inl q) = subst (At t) (sym q) (leads_at t at 0 e (ascii_leads 0 (omega arith)))
    ends (inr m) = m.0

-- the second and the third byte of U+FFFD
zero_goes_on : (t : List ℕ) (at c : ℕ) → (Leads c → ⊥) → (bs : List ℕ) (ps : List (ℕ × ℕ)) (b : ℕ) → 128 ≤ b → Lies t b (at, at + 1) → (At t (at + 1)) → Spread t (at + 1) (bs ++ b ∷ []) (ps ++ (at, at + 1) ∷ []) → Spread t (at + 1) ((bs ++ b ∷ []) ++ c ∷ []) ((ps ++ (at, at + 1) ∷ []) ++ (at, at + 1) ∷ [])
zero_goes_on t at c n [] [] b w l a h = (l, record { starts = omega arith; stops = omega arith; apart = λ k. absurd (n k); ends = λ k. absurd (n k); ascii = λ k. absurd (omega arith) }, (record { ordered = omega arith; begins = λ k. absurd (n k) }, record { starts = omega arith; stops = omega arith; meets = inl refl; ascii = λ k. a }, tt))
zero_goes_on t at c n [] (p ∷ []) b w l a (x, y, z) = absurd y
zero_goes_on t at c n [] (p ∷ q ∷ ps) b w l a (x, y, z) = absurd y
zero_goes_on t at c n (d ∷ []) [] b w l a (x, y, z) = absurd y
zero_goes_on t at c n (d ∷ e ∷ bs) [] b w l a (x, y, z) = absurd y
zero_goes_on t at c n (d ∷ []) (p ∷ []) b w l a (x, y, z) = (x, y, zero_goes_on t at c n [] [] b w l a z)
zero_goes_on t at c n (d ∷ []) (p ∷ q ∷ ps) b w l a (x, y, z) = (x, y, zero_goes_on t at c n [] (q ∷ ps) b w l a z)
zero_goes_on t at c n (d ∷ e ∷ bs) (p ∷ []) b w l a (x, y, z) = (x, y, zero_goes_on t at c n (e ∷ bs) [] b w l a z)
zero_goes_on t at c n (d ∷ e ∷ bs) (p ∷ q ∷ ps) b w l a (x, y, z) = (x, y, zero_goes_on t at c n (e ∷ bs) (q ∷ ps) b w l a z)

-- one more byte of the source
byte_stands : (t : List ℕ) (at b : ℕ) (s : State) → IsUtf8 t → slice_get t at ≡ Some b → at + 1 < 2 ^ 64 → Stands t at s → Stands t (at + 1) (put_byte b at s)
unfolding put_byte put
byte_stands t at b s u e short h = by (b == 0) refl
  where
    one : at + 1 ≡ plus at 1
    one = omega arith

    three : ℕ → State
    three n = put 0xBD at n (put 0xBF at n (put 0xEF at n s))

    zero_put : b ≡ 0 → Stands t (at + 1) (three (at + 1))
    zero_put z =
        let got : slice_get t at ≡ Some 0 = e ∙ ap (λ x. Some x) z in
        let next : At t (at + 1) = after_ascii t at 0 u got (omega arith) in
        let here : At t at = leads_at t at 0 got (ascii_leads 0 (omega arith)) in
        let first : Spread t (at + 1) (s.bytes ++ 0xEF ∷ []) (s.places ++ (at, at + 1) ∷ []) = spread_put t at (at + 1) s.bytes s.places 0xEF (at, at + 1) (zero_follows t at got) (record { ordered = omega arith; begins = λ k. here }) (record { starts = omega arith; stops = omega arith; meets = inl refl; ascii = λ k. next }) h in
        let second : Spread t (at + 1) ((s.bytes ++ 0xEF ∷ []) ++ 0xBF ∷ []) ((s.places ++ (at, at + 1) ∷ []) ++ (at, at + 1) ∷ []) = zero_goes_on t at 0xBF (λ k. absurd (let w : 192 ≤ 0xBF = k (omega arith) in omega arith)) s.bytes s.places 0xEF (omega arith) (record { ordered = omega arith; begins = λ k. here }) next first in
        zero_goes_on t at 0xBD (λ k. absurd (let w : 192 ≤ 0xBD = k (omega arith) in omega arith)) (s.bytes ++ 0xEF ∷ []) (s.places ++ (at, at + 1) ∷ []) 0xBF (omega arith) (record { ordered = omega arith; begins = λ k. here }) next second

    other_put : Stands t (at + 1) (put b at (at + 1) s)
    other_put = spread_put t at (at + 1) s.bytes s.places b (at, at + 1) (put_follows t at b e) (record { ordered = omega arith; begins = λ k. leads_at t at b e k }) (record { starts = omega arith; stops = omega arith; meets = inl refl; ascii = λ k. after_ascii t at b u e k }) h

    by : (x : Bool) → (b == 0) ≡ x → Stands t (at + 1) (if x then three (plus at 1) else put b at (plus at 1) s)
    by true k = let z : b ≡ 0 = grind (arith, nat_tests) in subst (λ n. Stands t (at + 1) (three n)) one (zero_put z)
    by false k = subst (λ n. Stands t (at + 1) (put b at n s)) one other_put

-- bytes that the source has from a place on
abbrev Here : List ℕ → ℕ → List ℕ → Type 0
Here t at bs = (i b : ℕ) → slice_get bs i ≡ Some b → slice_get t (at + i) ≡ Some b

bytes_stand : (t : List ℕ) (at : ℕ) (s : State) (bs : List ℕ) → IsUtf8 t → Here t at bs → at + length bs < 2 ^ 64 → Stands t at s → Stands t (at + length bs) (put_bytes at s bs)
bytes_stand t at s [] u f short h = let q : at ≡ at + 0 = omega arith in subst (λ n. Stands t n s) q h
bytes_stand t at s (b ∷ bs) u f short h =
    let one : at + 1 ≡ plus at 1 = omega arith in
    let all : at + 1 + length bs ≡ at + suc (length bs) = omega arith in
    let got : slice_get t at ≡ Some b = (let q : at ≡ at + 0 = omega arith in ap (slice_get t) q ∙ f 0 b refl) in
    subst (λ n. Stands t n (put_bytes (plus at 1) (put_byte b at s) bs)) all
    (subst (λ n. Stands t (at + 1 + length bs) (put_bytes n (put_byte b at s) bs)) one
    (bytes_stand t (at + 1) (put_byte b at s) bs u (λ i c e. let q : at + 1 + i ≡ at + suc i = omega arith in ap (slice_get t) q ∙ f (suc i) c e) (omega arith) (byte_stands t at b s u got (omega arith) h)))

-- a line of a leaf whose places are in order and on boundaries of characters
pub record Placed (t : List ℕ) (l : ContentLine) : Type 0 where
  pub begins : At t l.start
  pub stops : At t l.end
  pub next : At t l.next
  pub ordered : l.start ≤ l.end
  pub onto : l.end ≤ l.next

-- lines one after the other
abbrev pub Rising : List ℕ → ℕ → List ContentLine → Type 0
Rising t to [] = Unit
Rising t to (l ∷ ls) = (to ≤ l.start) × Placed t l × Rising t l.next ls

got_taken : {A : Type 0} (k : ℕ) (xs : List A) (i : ℕ) (x : A) → slice_get (take k xs) i ≡ Some x → slice_get xs i ≡ Some x
got_taken zero xs i x e = absurd cc
got_taken (suc k) [] i x e = e
got_taken (suc k) (y ∷ ys) zero x e = e
got_taken (suc k) (y ∷ ys) (suc i) x e = got_taken k ys i x e

got_few : {A : Type 0} (k : ℕ) (xs : List A) (i : ℕ) (x : A) → slice_get (take k xs) i ≡ Some x → i < k
got_few zero xs i x e = absurd cc
got_few (suc k) [] i x e = absurd cc
got_few (suc k) (y ∷ ys) zero x e = omega arith
got_few (suc k) (y ∷ ys) (suc i) x e = let l : i < k = got_few k ys i x e in omega arith

taken_got : {A : Type 0} (k : ℕ) (xs : List A) (i : ℕ) (x : A) → i < k → slice_get xs i ≡ Some x → slice_get (take k xs) i ≡ Some x
taken_got zero xs i x l e = absurd (omega arith)
taken_got (suc k) [] i x l e = e
taken_got (suc k) (y ∷ ys) zero x l e = e
taken_got (suc k) (y ∷ ys) (suc i) x l e = taken_got k ys i x (omega arith) e

dropped_white : (bs : List ℕ) (n c : ℕ) → AllWhite (drop n bs) → slice_get bs n ≡ Some c → is_in White c ≡ true
dropped_white [] n c h e = absurd cc
dropped_white (b ∷ bs) zero c h e = let q : b ≡ c = cc in subst (λ x. is_in White x ≡ true) q (h.0)
dropped_white (b ∷ bs) (suc n) c h e = dropped_white bs n c h e

white_leads : (c : ℕ) → is_in White c ≡ true → Leads c
unfolding is_in
white_leads c e = by (c == 32) (c == 9) (c == 10) refl refl refl e
  where
    by : (x y z : Bool) → (c == 32) ≡ x → (c == 9) ≡ y → (c == 10) ≡ z → x || y || z ≡ true → Leads c
    by true y z p q r e = let w : c ≡ 32 = grind (arith, nat_tests) in ascii_leads c (omega arith)
    by false true z p q r e = let w : c ≡ 9 = grind (arith, nat_tests) in ascii_leads c (omega arith)
    by false false true p q r e = let w : c ≡ 10 = grind (arith, nat_tests) in ascii_leads c (omega arith)
    by false false false p q r e = absurd (true≢false (sym e))

-- the bytes of a line
between_here : (t : List ℕ) (a b : ℕ) → a ≤ b → b ≤ length t → Here t a (bytes_between t a b) × (a + length (bytes_between t a b) ≡ b)
between_here t a b l m = by (nat_le a b) (nat_le b (length t)) refl refl
  where
    got : Here t a (slice_range t a b)
    got i c e = sym (got_dropped a t i) ∙ got_taken (b - a) (drop a t) i c e

    size : a + length (slice_range t a b) ≡ b
    size = let w : length (slice_range t a b) ≡ min (b - a) (length (drop a t)) = length-take (b - a) (drop a t) in let v : length (drop a t) ≡ length t - a = length-drop a t in omega arith

    by : (x y : Bool) → nat_le a b ≡ x → nat_le b (length t) ≡ y → Here t a (if x && y then slice_range t a b else []) × (a + length (if x && y then slice_range t a b else []) ≡ b)
    by true true p q = (got, size)
    by true false p q = absurd (let w : length t < b = grind (arith, nat_tests) in omega arith)
    by false y p q = absurd (let w : b < a = grind (arith, nat_tests) in omega arith)

-- the bytes of a line, without its ending
abbrev words : List ℕ → State → ContentLine → State
words t s l = put_bytes l.start s (bytes_between t l.start l.end)

words_stand : (t : List ℕ) (to : ℕ) (l : ContentLine) (s : State) → IsUtf8 t → length t + 1 < 2 ^ 64 → to ≤ l.start → At t to → Placed t l → Stands t to s → Stands t l.end (words t s l)
words_stand t to l s u short o a p h = subst (λ n. Stands t n (words t s l)) (there.1) (bytes_stand t l.start s (bytes_between t l.start l.end) u (there.0) (omega (arith, within, there.1)) (spread_more t to l.start s.bytes s.places o a p.begins h))
  where
    within : l.end ≤ length t
    within = (p.stops).0

    there : Here t l.start (bytes_between t l.start l.end) × (l.start + length (bytes_between t l.start l.end) ≡ l.end)
    there = between_here t l.start l.end p.ordered within

line_stands : (t : List ℕ) (to : ℕ) (l : ContentLine) (s : State) → IsUtf8 t → length t + 1 < 2 ^ 64 → to ≤ l.start → At t to → Placed t l → Stands t to s → Stands t l.next (put_line t s l)
unfolding put_line put
line_stands t to l s u short o a p h = spread_put t l.end l.next w.bytes w.places 10 (l.end, l.next) follows (record { ordered = p.onto; begins = λ k. p.stops }) (record { starts = p.onto; stops = omega arith; meets = inl refl; ascii = λ k. p.next }) (words_stand t to l s u short o a p h)
  where
    w : State
    w = words t s l

    follows : (b : ℕ) (q : ℕ × ℕ) → Last t l.end b q → Follows t b q 10 (l.end, l.next)
    follows b q m = record {
      starts = m.starts;
      stops = let x : q.1 ≤ l.end = m.stops in let y : l.end ≤ l.next = p.onto in omega arith;
      apart = λ k. m.stops;
      ends = λ k. ends m.meets;
      ascii = λ k. ascii_leads 10 (omega arith);
    }
      where
        ends : (q.1 ≡ l.end) ⊎ (At t q.1 × At t l.end) → At t q.1
        ends (inl e) = subst (At t) (sym e) p.stops
        ends (inr x) = x.0

-- all lines end at a boundary of characters
abbrev Ended : List ℕ → State → Type 0
Ended t s = (to : ℕ) × At t to × Stands t to s

lines_stand : (t : List ℕ) (to : ℕ) (ls : List ContentLine) (s : State) → IsUtf8 t → length t + 1 < 2 ^ 64 → At t to → Rising t to ls → Stands t to s → Ended t (fold (put_line t) s ls)
lines_stand t to [] s u short a r h = (to, a, h)
lines_stand t to (l ∷ ls) s u short a (o, p, r) h = lines_stand t l.next ls (put_line t s l) u short p.next r (line_stands t to l s u short o a p h)

-- what holds of bytes and ranges by their numbers

lies_at : (t : List ℕ) (to : ℕ) (bs : List ℕ) (ps : List (ℕ × ℕ)) (i b : ℕ) (p : ℕ × ℕ) → Spread t to bs ps → slice_get bs i ≡ Some b → slice_get ps i ≡ Some p → Lies t b p
lies_at t to [] ps i b p h e f = absurd cc
lies_at t to (c ∷ bs) [] i b p h e f = absurd cc
lies_at t to (c ∷ bs) (q ∷ ps) zero b p h e f = let x : c ≡ b = cc in let y : q ≡ p = cc in subst (λ z. Lies t z p) x (subst (λ z. Lies t c z) y (h.0))
lies_at t to (c ∷ bs) (q ∷ ps) (suc i) b p h e f = lies_at t to bs ps i b p (h.2) e f

spread_got : (t : List ℕ) (to : ℕ) (bs : List ℕ) (ps : List (ℕ × ℕ)) (i : ℕ) (p : ℕ × ℕ) → Spread t to bs ps → slice_get ps i ≡ Some p → (b : ℕ) × (slice_get bs i ≡ Some b)
spread_got t to [] [] i p h e = absurd cc
spread_got t to [] (q ∷ ps) i p h e = absurd h
spread_got t to (c ∷ bs) [] i p h e = absurd h
spread_got t to (c ∷ bs) (q ∷ ps) zero p h e = (c, refl)
spread_got t to (c ∷ bs) (q ∷ ps) (suc i) p h e = spread_got t to bs ps i p (h.2) e

-- from the first byte on, ranges rise
rise_first : (t : List ℕ) (to c : ℕ) (bs : List ℕ) (p : ℕ × ℕ) (ps : List (ℕ × ℕ)) (j : ℕ) (q : ℕ × ℕ) → Spread t to (c ∷ bs) (p ∷ ps) → slice_get (p ∷ ps) j ≡ Some q → (p.0 ≤ q.0) × (p.1 ≤ q.1)
rise_first t to c bs p ps zero q h f = let y : p ≡ q = cc in subst (λ z. (p.0 ≤ z.0) × (p.1 ≤ z.1)) y (omega arith, omega arith)
rise_first t to c bs p [] (suc j) q h f = absurd cc
rise_first t to c [] p (r ∷ ps) (suc j) q (x, y, z) f = absurd y
rise_first t to c (d ∷ bs) p (r ∷ ps) (suc j) q (x, y, z) f =
    let k : (r.0 ≤ q.0) × (r.1 ≤ q.1) = rise_first t to d bs r ps j q z f in
    let m : p.0 ≤ r.0 = y.starts in
    let n : p.1 ≤ r.1 = y.stops in
    (omega (arith, k.0), omega (arith, k.1))

rise_at : (t : List ℕ) (to : ℕ) (bs : List ℕ) (ps : List (ℕ × ℕ)) (i j : ℕ) (p q : ℕ × ℕ) → Spread t to bs ps → i ≤ j → slice_get ps i ≡ Some p → slice_get ps j ≡ Some q → (p.0 ≤ q.0) × (p.1 ≤ q.1)
rise_at t to bs [] i j p q h l e f = absurd cc
rise_at t to [] (r ∷ ps) i j p q h l e f = absurd h
rise_at t to (c ∷ bs) (r ∷ ps) zero j p q h l e f = let y : r ≡ p = cc in subst (λ z. (z.0 ≤ q.0) × (z.1 ≤ q.1)) y (rise_first t to c bs r ps j q h f)
rise_at t to (c ∷ bs) (r ∷ ps) (suc i) zero p q h l e f = absurd (omega arith)
rise_at t to (c ∷ bs) (r ∷ ps) (suc i) (suc j) p q h l e f = rise_at t to bs ps i j p q (h.2) (omega arith) e f

-- a character after the first byte begins where that ends, or after it
apart_first : (t : List ℕ) (to c : ℕ) (bs : List ℕ) (p : ℕ × ℕ) (ps : List (ℕ × ℕ)) (j b : ℕ) (q : ℕ × ℕ) → Spread t to (c ∷ bs) (p ∷ ps) → slice_get bs j ≡ Some b → slice_get ps j ≡ Some q → Leads b → p.1 ≤ q.0
apart_first t to c [] p ps j b q h e f k = absurd cc
apart_first t to c (d ∷ bs) p [] j b q h e f k = absurd cc
apart_first t to c (d ∷ bs) p (r ∷ ps) zero b q (x, y, z) e f k = let v : d ≡ b = cc in let w : r ≡ q = cc in subst (λ s. p.1 ≤ s.0) w (y.apart (subst Leads (sym v) k))
apart_first t to c (d ∷ bs) p (r ∷ ps) (suc j) b q (x, y, z) e f k = let m : r.1 ≤ q.0 = apart_first t to d bs r ps j b q z e f k in let n : p.1 ≤ r.1 = y.stops in omega arith

apart_at : (t : List ℕ) (to : ℕ) (bs : List ℕ) (ps : List (ℕ × ℕ)) (i j b : ℕ) (p q : ℕ × ℕ) → Spread t to bs ps → i < j → slice_get ps i ≡ Some p → slice_get bs j ≡ Some b → slice_get ps j ≡ Some q → Leads b → p.1 ≤ q.0
apart_at t to bs [] i j b p q h l e f g k = absurd cc
apart_at t to [] (r ∷ ps) i j b p q h l e f g k = absurd h
apart_at t to (c ∷ bs) (r ∷ ps) i zero b p q h l e f g k = absurd (omega arith)
apart_at t to (c ∷ bs) (r ∷ ps) zero (suc j) b p q h l e f g k = let y : r ≡ p = cc in subst (λ z. z.1 ≤ q.0) y (apart_first t to c bs r ps j b q h f g k)
apart_at t to (c ∷ bs) (r ∷ ps) (suc i) (suc j) b p q h l e f g k = apart_at t to bs ps i j b p q (h.2) (omega arith) e f g k

-- a byte before a character, or the last one, ends at a boundary
ends_at : (t : List ℕ) (to : ℕ) (bs : List ℕ) (ps : List (ℕ × ℕ)) (i : ℕ) (p : ℕ × ℕ) → Spread t to bs ps → At t to → slice_get ps i ≡ Some p → ((c : ℕ) → slice_get bs (suc i) ≡ Some c → Leads c) → At t p.1
ends_at t to bs [] i p h a e k = absurd cc
ends_at t to [] (r ∷ ps) i p h a e k = absurd h
ends_at t to (c ∷ []) (r ∷ []) zero p (x, y, z) a e k = let w : r ≡ p = cc in subst (λ s. At t s.1) w (met y.meets)
  where
    met : (r.1 ≡ to) ⊎ (At t r.1 × At t to) → At t r.1
    met (inl q) = subst (At t) (sym q) a
    met (inr m) = m.0
ends_at t to (c ∷ []) (r ∷ q ∷ ps) zero p (x, y, z) a e k = absurd y
ends_at t to (c ∷ d ∷ bs) (r ∷ []) zero p (x, y, z) a e k = absurd y
ends_at t to (c ∷ d ∷ bs) (r ∷ q ∷ ps) zero p (x, y, z) a e k = let w : r ≡ p = cc in subst (λ s. At t s.1) w (y.ends (k d refl))
ends_at t to (c ∷ bs) (r ∷ ps) (suc i) p h a e k = ends_at t to bs ps i p (h.2) a e (λ d f. k d f)

-- after a byte of ASCII a character begins
ascii_at : (t : List ℕ) (to : ℕ) (bs : List ℕ) (ps : List (ℕ × ℕ)) (i b c : ℕ) → Spread t to bs ps → slice_get bs i ≡ Some b → b < 128 → slice_get bs (suc i) ≡ Some c → Leads c
ascii_at t to [] ps i b c h e l f = absurd cc
ascii_at t to (x ∷ bs) [] i b c h e l f = absurd h
ascii_at t to (x ∷ []) (r ∷ ps) zero b c h e l f = absurd cc
ascii_at t to (x ∷ y ∷ bs) (r ∷ []) zero b c (u, v, w) e l f = absurd v
ascii_at t to (x ∷ y ∷ bs) (r ∷ q ∷ ps) zero b c (u, v, w) e l f = let m : x ≡ b = cc in let n : y ≡ c = cc in subst Leads n (v.ascii (omega arith))
ascii_at t to (x ∷ bs) (r ∷ ps) (suc i) b c h e l f = ascii_at t to bs ps i b c (h.2) e l f

-- where the bytes of a leaf's text are
pub record IsMapped (t : List ℕ) (bytes : List ℕ) (places : List (ℕ × ℕ)) : Type 0 where
  pub ordered : (i : ℕ) (p : ℕ × ℕ) → slice_get places i ≡ Some p → p.0 ≤ p.1
  pub rises : (i j : ℕ) (p q : ℕ × ℕ) → i ≤ j → slice_get places i ≡ Some p → slice_get places j ≡ Some q → (p.0 ≤ q.0) × (p.1 ≤ q.1)
  pub apart : (i j b : ℕ) (p q : ℕ × ℕ) → i < j → slice_get places i ≡ Some p → slice_get bytes j ≡ Some b → slice_get places j ≡ Some q → Leads b → p.1 ≤ q.0
  pub begins : (i b : ℕ) (p : ℕ × ℕ) → slice_get bytes i ≡ Some b → slice_get places i ≡ Some p → Leads b → At t p.0
  pub ends : (i : ℕ) (p : ℕ × ℕ) → slice_get places i ≡ Some p → ((c : ℕ) → slice_get bytes (suc i) ≡ Some c → Leads c) → At t p.1
  pub ascii : (i b c : ℕ) → slice_get bytes i ≡ Some b → b < 128 → slice_get bytes (suc i) ≡ Some c → Leads c
  pub first : (p : ℕ × ℕ) → slice_get places 0 ≡ Some p → At t p.0

-- the first range begins at a place of a set
abbrev Begun : (ℕ → Type 0) → State → Type 0
Begun P s = (p : ℕ × ℕ) × (slice_get s.places 0 ≡ Some p) × P p.0

put_begun : (P : ℕ → Type 0) (b start end : ℕ) (s : State) → Begun P s → Begun P (put b start end s)
unfolding put
put_begun P b start end s (p, e, a) = (p, got_front s.places ((start, end) ∷ []) 0 p e, a)

byte_begun : (P : ℕ → Type 0) (b at : ℕ) (s : State) → Begun P s → Begun P (put_byte b at s)
unfolding put_byte
byte_begun P b at s h = by (b == 0)
  where
    next : ℕ
    next = plus at 1

    by : (x : Bool) → Begun P (if x then put 0xBD at next (put 0xBF at next (put 0xEF at next s)) else put b at next s)
    by true = put_begun P 0xBD at next (put 0xBF at next (put 0xEF at next s)) (put_begun P 0xBF at next (put 0xEF at next s) (put_begun P 0xEF at next s h))
    by false = put_begun P b at next s h

bytes_begun : (P : ℕ → Type 0) (at : ℕ) (s : State) (bs : List ℕ) → Begun P s → Begun P (put_bytes at s bs)
bytes_begun P at s [] h = h
bytes_begun P at s (b ∷ bs) h = bytes_begun P (plus at 1) (put_byte b at s) bs (byte_begun P b at s h)

lines_begun : (P : ℕ → Type 0) (t : List ℕ) (s : State) (ls : List ContentLine) → Begun P s → Begun P (fold (put_line t) s ls)
unfolding put_line
lines_begun P t s [] h = h
lines_begun P t s (l ∷ ls) h = lines_begun P t (put_line t s l) ls (put_begun P 10 l.end l.next (put_bytes l.start s (bytes_between t l.start l.end)) (bytes_begun P l.start s (bytes_between t l.start l.end) h))

-- no byte yet
abbrev nothing : State
nothing = record { bytes = []; places = [] }

first_begun : (P : ℕ → Type 0) (b at : ℕ) → P at → Begun P (put_byte b at nothing)
unfolding put_byte put
first_begun P b at a = by (b == 0)
  where
    next : ℕ
    next = plus at 1

    by : (x : Bool) → Begun P (if x then put 0xBD at next (put 0xBF at next (put 0xEF at next nothing)) else put b at next nothing)
    by true = ((at, next), refl, a)
    by false = ((at, next), refl, a)

line_begun : (P : ℕ → Type 0) (t : List ℕ) (l : ContentLine) → P l.start → P l.end → Begun P (put_line t nothing l)
unfolding put_line put
line_begun P t l a e = by (bytes_between t l.start l.end)
  where
    by : (bs : List ℕ) → Begun P (put 10 l.end l.next (put_bytes l.start nothing bs))
    by [] = ((l.end, l.next), refl, e)
    by (b ∷ bs) = put_begun P 10 l.end l.next (put_bytes (plus l.start 1) (put_byte b l.start nothing) bs) (bytes_begun P (plus l.start 1) (put_byte b l.start nothing) bs (first_begun P b l.start a))

-- the text of lines without white space at the end
pub leaf_mapped : (t : List ℕ) (ls : List ContentLine) → IsUtf8 t → length t + 1 < 2 ^ 64 → Rising t 0 ls → IsMapped t (content_of t ls).bytes (content_of t ls).places
unfolding content_of
leaf_mapped t ls u short r = by (lines_stand t 0 ls nothing u short (IsCharBoundary-start t u) r tt)
  where
    all : State
    all = joined t ls

    end : ℕ
    end = iterated (before_white all.bytes) (length all.bytes) (length all.bytes)

    white : AllWhite (drop end all.bytes)
    white = back_white all.bytes (length all.bytes) (length all.bytes) (omega arith) (none_left all.bytes)

    first : (p : ℕ × ℕ) → slice_get all.places 0 ≡ Some p → At t p.0
    first p e = lines ls r e
      where
        same : (s : State) → Begun (At t) s → slice_get s.places 0 ≡ Some p → At t p.0
        same s (q, f, a) g = let w : Some q ≡ Some p = sym f ∙ g in let v : q ≡ p = cc in subst (λ (x : ℕ × ℕ). At t x.0) v a

        lines : (ms : List ContentLine) → Rising t 0 ms → slice_get (fold (put_line t) nothing ms).places 0 ≡ Some p → At t p.0
        lines [] r g = absurd cc
        lines (m ∷ ms) (o, q, r) g = same (fold (put_line t) (put_line t nothing m) ms) (lines_begun (At t) t (put_line t nothing m) ms (line_begun (At t) t m q.begins q.stops)) g

    by : Ended t all → IsMapped t (take end all.bytes) (take end all.places)
    by (to, a, h) = record {
      ordered = λ i p e. ordered i p (got_taken end all.places i p e);
      rises = λ i j p q l e f. rise_at t to all.bytes all.places i j p q h l (got_taken end all.places i p e) (got_taken end all.places j q f);
      apart = λ i j b p q l e f g. apart_at t to all.bytes all.places i j b p q h l (got_taken end all.places i p e) (got_taken end all.bytes j b f) (got_taken end all.places j q g);
      begins = λ i b p e f k. (lies_at t to all.bytes all.places i b p h (got_taken end all.bytes i b e) (got_taken end all.places i p f)).begins k;
      ends = λ i p e k. ends_at t to all.bytes all.places i p h a (got_taken end all.places i p e) (λ c f. next i c (got_few end all.places i p e) f k);
      ascii = λ i b c e l f. ascii_at t to all.bytes all.places i b c h (got_taken end all.bytes i b e) l (got_taken end all.bytes (suc i) c f);
      first = λ p e. first p (got_taken end all.places 0 p e);
    }
      where
        ordered : (i : ℕ) (p : ℕ × ℕ) → slice_get all.places i ≡ Some p → p.0 ≤ p.1
        ordered i p e = byte (spread_got t to all.bytes all.places i p h e)
          where
            byte : (b : ℕ) × (slice_get all.bytes i ≡ Some b) → p.0 ≤ p.1
            byte (b, f) = (lies_at t to all.bytes all.places i b p h f e).ordered

        next : (i c : ℕ) → i < end → slice_get all.bytes (suc i) ≡ Some c → ((c : ℕ) → slice_get (take end all.bytes) (suc i) ≡ Some c → Leads c) → Leads c
        next i c l f k = cases (nat_lt (suc i) end) refl
          where
            cases : (x : Bool) → nat_lt (suc i) end ≡ x → Leads c
            cases true e = let w : suc i < end = grind (arith, nat_tests) in k c (taken_got end all.bytes (suc i) c w f)
            cases false e = let w : end ≤ suc i = grind (arith, nat_tests) in let q : end ≡ suc i = omega arith in white_leads c (dropped_white all.bytes end c white (ap (slice_get all.bytes) q ∙ f))

-- all ranges end before the next byte's place
spread_low : (t : List ℕ) (to : ℕ) (bs : List ℕ) (ps : List (ℕ × ℕ)) (i : ℕ) (p : ℕ × ℕ) → Spread t to bs ps → slice_get ps i ≡ Some p → p.1 ≤ to
spread_low t to bs [] i p h e = absurd cc
spread_low t to [] (q ∷ ps) i p h e = absurd h
spread_low t to (b ∷ []) (q ∷ []) zero p (x, y, z) e = let w : q ≡ p = cc in subst (λ (r : ℕ × ℕ). r.1 ≤ to) w y.stops
spread_low t to (b ∷ []) (q ∷ r ∷ ps) zero p (x, y, z) e = absurd y
spread_low t to (b ∷ c ∷ bs) (q ∷ []) zero p (x, y, z) e = absurd y
spread_low t to (b ∷ c ∷ bs) (q ∷ r ∷ ps) zero p (x, y, z) e = let w : q ≡ p = cc in let k : r.1 ≤ to = spread_low t to (c ∷ bs) (r ∷ ps) 0 r z refl in let m : q.1 ≤ r.1 = y.stops in subst (λ (s : ℕ × ℕ). s.1 ≤ to) w (omega arith)
spread_low t to (b ∷ bs) (q ∷ ps) (suc i) p h e = spread_low t to bs ps i p (h.2) e

got_before : {A : Type 0} (xs : List A) (y : A) (i : ℕ) (x : A) → i < length xs → slice_get (xs ++ y ∷ []) i ≡ Some x → slice_get xs i ≡ Some x
got_before [] y i x l e = absurd (omega arith)
got_before (z ∷ zs) y zero x l e = e
got_before (z ∷ zs) y (suc i) x l e = got_before zs y i x (omega arith) e

got_end : (xs : List ℕ) (y : ℕ) → byte_at (xs ++ y ∷ []) (length xs) ≡ y
got_end [] y = refl
got_end (x ∷ xs) y = got_end xs y

-- the last of lines
abbrev pub last_line : ContentLine → List ContentLine → ContentLine
last_line l [] = l
last_line l (m ∷ ms) = last_line m ms

-- lines that are joined end with a line feed, before which no range ends after the last line
record Closes (stop : ℕ) (s : State) : Type 0 where
  before : (i : ℕ) (p : ℕ × ℕ) → suc i < length s.places → slice_get s.places i ≡ Some p → p.1 ≤ stop
  some : 0 < length s.bytes
  feed : byte_at s.bytes (length s.bytes - 1) ≡ 10

lines_close : (t : List ℕ) (to : ℕ) (l : ContentLine) (ls : List ContentLine) (s : State) → IsUtf8 t → length t + 1 < 2 ^ 64 → At t to → Rising t to (l ∷ ls) → Stands t to s → Closes (last_line l ls).end (fold (put_line t) s (l ∷ ls))
unfolding put_line put
lines_close t to l [] s u short a (o, p, r) h = record {
  before = λ i q k e. spread_low t l.end w.bytes w.places i q (words_stand t to l s u short o a p h) (got_before w.places (l.end, l.next) i q (let z : length (w.places ++ (l.end, l.next) ∷ []) ≡ length w.places + 1 = length-append w.places ((l.end, l.next) ∷ []) in omega arith) e);
  some = let z : length (w.bytes ++ 10 ∷ []) ≡ length w.bytes + 1 = length-append w.bytes (10 ∷ []) in omega arith;
  feed = let z : length (w.bytes ++ 10 ∷ []) ≡ length w.bytes + 1 = length-append w.bytes (10 ∷ []) in let y : length w.bytes ≡ length (w.bytes ++ 10 ∷ []) - 1 = omega arith in subst (λ n. byte_at (w.bytes ++ 10 ∷ []) n ≡ 10) y (got_end w.bytes 10);
}
  where
    w : State
    w = words t s l
lines_close t to l (m ∷ ms) s u short a (o, p, r) h = lines_close t l.next m ms (put_line t s l) u short p.next r (line_stands t to l s u short o a p h)

back_low : (bs : List ℕ) (n c : ℕ) → iterated (before_white bs) n c ≤ c
unfolding iterated before_white
back_low bs zero c = omega arith
back_low bs (suc n) c = by (nat_lt 0 c && is_in White (byte_at bs (c - 1))) (back_low bs n (c - 1))
  where
    by : (x : Bool) → iterated (before_white bs) n (c - 1) ≤ c - 1 → going_on (λ d. iterated (before_white bs) n d) c (if x then Some (c - 1) else None) ≤ c
    by true k = omega arith
    by false k = omega arith

feed_white : is_in White 10 ≡ true
unfolding is_in
feed_white = refl

-- the line feed at the end is none of a leaf's text
step_low : (bs : List ℕ) (n : ℕ) → byte_at bs (suc n - 1) ≡ 10 → suc (iterated (before_white bs) (suc n) (suc n)) ≤ suc n
unfolding iterated before_white
step_low bs n f = by (nat_lt 0 (suc n)) (is_in White (byte_at bs (suc n - 1))) (let z : nat_lt 0 (suc n) ≡ true = grind (arith, nat_tests) in z) (ap (is_in White) f ∙ feed_white) (back_low bs n (suc n - 1))
  where
    by : (x y : Bool) → x ≡ true → y ≡ true → iterated (before_white bs) n (suc n - 1) ≤ suc n - 1 → suc (going_on (λ d. iterated (before_white bs) n d) (suc n) (if x && y then Some (suc n - 1) else None)) ≤ suc n
    by true true p q k = omega arith
    by true false p q k = absurd (true≢false (sym q))
    by false y p q k = absurd (true≢false (sym p))

end_low : (bs : List ℕ) → 0 < length bs → byte_at bs (length bs - 1) ≡ 10 → suc (iterated (before_white bs) (length bs) (length bs)) ≤ length bs
end_low bs some feed = by (length bs) refl
  where
    by : (n : ℕ) → length bs ≡ n → suc (iterated (before_white bs) n n) ≤ n
    by zero e = absurd (omega arith)
    by (suc n) e = step_low bs n (let q : suc n - 1 ≡ length bs - 1 = omega arith in ap (byte_at bs) q ∙ feed)

-- the bytes of a leaf's text are between where its first line begins and where its last one ends
pub leaf_between : (t : List ℕ) (l : ContentLine) (ls : List ContentLine) (i : ℕ) (p : ℕ × ℕ) → IsUtf8 t → length t + 1 < 2 ^ 64 → Rising t 0 (l ∷ ls) → length (joined t (l ∷ ls)).bytes ≡ length (joined t (l ∷ ls)).places → slice_get (content_of t (l ∷ ls)).places i ≡ Some p → (l.start ≤ p.0) × (p.1 ≤ (last_line l ls).end)
unfolding content_of
leaf_between t l ls i p u short r same e = (low (lines_begun (λ x. l.start ≤ x) t (put_line t nothing l) ls (line_begun (λ x. l.start ≤ x) t l (omega arith) ((r.1).ordered))), closes.before i p (omega (arith, few, ends, same)) got)
  where
    all : State
    all = joined t (l ∷ ls)

    end : ℕ
    end = iterated (before_white all.bytes) (length all.bytes) (length all.bytes)

    got : slice_get all.places i ≡ Some p
    got = got_taken end all.places i p e

    few : i < end
    few = got_few end all.places i p e

    closes : Closes (last_line l ls).end all
    closes = lines_close t 0 l ls nothing u short (IsCharBoundary-start t u) r tt

    ends : suc end ≤ length all.bytes
    ends = end_low all.bytes closes.some closes.feed

    low : Begun (λ x. l.start ≤ x) all → l.start ≤ p.0
    low (q, f, a) = by (lines_stand t 0 (l ∷ ls) nothing u short (IsCharBoundary-start t u) r tt)
      where
        by : Ended t all → l.start ≤ p.0
        by (to, b, h) = let w : q.0 ≤ p.0 = (rise_at t to all.bytes all.places 0 i q p h (omega arith) f got).0 in omega arith
