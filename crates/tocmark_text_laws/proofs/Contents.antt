-- The content of a leaf whose lines are one further: the same bytes, places one further.
use Rattle.std.proofs.Common.{◌≡◌, ℕ, suc, ◌+◌, ◌-◌, ◌^◌, ◌<◌, ◌≤◌, Bool, true, false, ◌==◌, ◌&&◌, if◌then◌else◌, nat_le, List, [], ◌∷◌, length, map, drop, refl, ap, sym, ◌∙◌, arith, length-append, length-take, min, ◌⊎◌, inl, inr}
use Rattle.std.specs.Prelude.{slice_range}
use Rattle.std.specs.List.{fold}
use Rattle.std.proofs.lemmas.Bool.Decides.{nat_tests}
use Rattle.std.proofs.lemmas.List.{map-append, take-map}
use Rattle.tocmark_read_scan.specs.Basic.{plus, bytes_between}
use Rattle.tocmark_read_scan.specs.Content.{State, put, put_byte, put_bytes, put_line, joined, before_white, trimmed, content_of}
use Rattle.tocmark_read_scan.specs.Repeat.{iterated}
use Rattle.tocmark_read_scan.specs.declared.content.ContentLine.{ContentLine}
use Rattle.tocmark_read_page.specs.declared.piece.Piece.{Piece}
use Rattle.tocmark_reader.specs.Pages.{content_line}
use Rattle.tocmark_text_laws.specs.Further.{piece_on}
use Rattle.tocmark_text_laws.proofs.LinesFurther.{plus_on, between_on}

abbrev pub pair_on : ℕ × ℕ → ℕ × ℕ
pair_on p = (suc (p.0), suc (p.1))

abbrev pub content_on : State → State
content_on s = record { bytes = s.bytes; places = map pair_on s.places }

abbrev pub content_line_on : ContentLine → ContentLine
content_line_on l = record { start = suc l.start; end = suc l.end; next = suc l.next }

put_on : (b start end : ℕ) (s : State) → put b (suc start) (suc end) (content_on s) ≡ content_on (put b start end s)
unfolding put
put_on b start end s = rw (map-append pair_on s.places ((start, end) ∷ [])) refl

put_byte_on : (b at : ℕ) (s : State) → at + 1 < 2 ^ 64 - 1 → put_byte b (suc at) (content_on s) ≡ content_on (put_byte b at s)
unfolding put_byte
put_byte_on b at s h = rw (plus_on at h) (by (b == 0))
  where
    e : ℕ
    e = plus at 1

    by : (k : Bool) → (if k then put 0xBD (suc at) (suc e) (put 0xBF (suc at) (suc e) (put 0xEF (suc at) (suc e) (content_on s))) else put b (suc at) (suc e) (content_on s))
        ≡ content_on (if k then put 0xBD at e (put 0xBF at e (put 0xEF at e s)) else put b at e s)
    by true = ap (λ u. put 0xBD (suc at) (suc e) (put 0xBF (suc at) (suc e) u)) (put_on 0xEF at e s) ∙ ap (put 0xBD (suc at) (suc e)) (put_on 0xBF at e (put 0xEF at e s)) ∙ put_on 0xBD at e (put 0xBF at e (put 0xEF at e s))
    by false = put_on b at e s

put_bytes_on : (at : ℕ) (s : State) (bs : List ℕ) → at + length bs < 2 ^ 64 - 1 → put_bytes (suc at) (content_on s) bs ≡ content_on (put_bytes at s bs)
put_bytes_on at s [] h = refl
put_bytes_on at s (b ∷ bs) h =
    ap (λ n. put_bytes n (put_byte b (suc at) (content_on s)) bs) (plus_on at small)
    ∙ ap (λ u. put_bytes (suc (plus at 1)) u bs) (put_byte_on b at s small)
    ∙ put_bytes_on (plus at 1) (put_byte b at s) bs (omega arith)
  where
    small : at + 1 < 2 ^ 64 - 1
    small = omega arith

-- bytes that are read lie within the text
between_within : (t : List ℕ) (a b : ℕ) → length t + 3 < 2 ^ 64 → (bytes_between t a b ≡ []) ⊎ (a + length (bytes_between t a b) < 2 ^ 64 - 1)
between_within t a b h = by (nat_le a b) (nat_le b (length t)) refl refl
  where
    by : (x y : Bool) → nat_le a b ≡ x → nat_le b (length t) ≡ y → ((if x && y then slice_range t a b else []) ≡ []) ⊎ (a + length (if x && y then slice_range t a b else []) < 2 ^ 64 - 1)
    by false y p q = inl refl
    by true false p q = inl refl
    by true true p q =
        let w : length (slice_range t a b) ≡ min (b - a) (length (drop a t)) = length-take (b - a) (drop a t) in
        let o : a ≤ b = grind (arith, nat_tests) in
        let k : b ≤ length t = grind (arith, nat_tests) in
        inr (omega arith)

put_between_on : (t : List ℕ) (a b : ℕ) (s : State) → length t + 3 < 2 ^ 64 → put_bytes (suc a) (content_on s) (bytes_between t a b) ≡ content_on (put_bytes a s (bytes_between t a b))
put_between_on t a b s h = by (between_within t a b h)
  where
    none : (bs : List ℕ) → bs ≡ [] → put_bytes (suc a) (content_on s) bs ≡ content_on (put_bytes a s bs)
    none bs e = rw e refl

    by : (bytes_between t a b ≡ []) ⊎ (a + length (bytes_between t a b) < 2 ^ 64 - 1) → put_bytes (suc a) (content_on s) (bytes_between t a b) ≡ content_on (put_bytes a s (bytes_between t a b))
    by (inl e) = none (bytes_between t a b) e
    by (inr k) = put_bytes_on a s (bytes_between t a b) k

put_line_on : (t : List ℕ) (c : ℕ) (s : State) (l : ContentLine) → length t + 3 < 2 ^ 64 → put_line (c ∷ t) (content_on s) (content_line_on l) ≡ content_on (put_line t s l)
unfolding put_line
put_line_on t c s l h =
    ap (λ bs. put 10 (suc l.end) (suc l.next) (put_bytes (suc l.start) (content_on s) bs)) (between_on t c l.start l.end)
    ∙ ap (put 10 (suc l.end) (suc l.next)) (put_between_on t l.start l.end s h)
    ∙ put_on 10 l.end l.next (put_bytes l.start s (bytes_between t l.start l.end))

lines_put_on : (t : List ℕ) (c : ℕ) (s : State) (ls : List ContentLine) → length t + 3 < 2 ^ 64 → fold (put_line (c ∷ t)) (content_on s) (map content_line_on ls) ≡ content_on (fold (put_line t) s ls)
lines_put_on t c s [] h = refl
lines_put_on t c s (l ∷ ls) h = ap (λ u. fold (put_line (c ∷ t)) u (map content_line_on ls)) (put_line_on t c s l h) ∙ lines_put_on t c (put_line t s l) ls h

trimmed_on : (s : State) → trimmed (content_on s) ≡ content_on (trimmed s)
trimmed_on s = rw (take-map pair_on (iterated (before_white s.bytes) (length s.bytes) (length s.bytes)) s.places) refl

pub content_of_on : (t : List ℕ) (c : ℕ) (ls : List ContentLine) → length t + 3 < 2 ^ 64 → content_of (c ∷ t) (map content_line_on ls) ≡ content_on (content_of t ls)
unfolding content_of
content_of_on t c ls h = ap trimmed (lines_put_on t c (record { bytes = []; places = [] }) ls h) ∙ trimmed_on (fold (put_line t) (record { bytes = []; places = [] }) ls)

-- the lines of a leaf
content_lines_on : (ps : List Piece) → map content_line (map piece_on ps) ≡ map content_line_on (map content_line ps)
unfolding content_line
content_lines_on [] = refl
content_lines_on (p ∷ ps) = ap (λ ls. content_line_on (content_line p) ∷ ls) (content_lines_on ps)

-- the bytes of a leaf are the same, and their places are one further
pub leaf_content_on : (t : List ℕ) (c : ℕ) (ps : List Piece) → length t + 3 < 2 ^ 64 → content_of (c ∷ t) (map content_line (map piece_on ps)) ≡ content_on (content_of t (map content_line ps))
leaf_content_on t c ps h = ap (content_of (c ∷ t)) (content_lines_on ps) ∙ content_of_on t c (map content_line ps) h

-- a leaf has a place for each byte
abbrev Even : State → Type 0
Even s = length s.bytes ≡ length s.places

put_even : (b start end : ℕ) (s : State) → Even s → Even (put b start end s)
unfolding put
put_even b start end s h = length-append s.bytes (b ∷ []) ∙ ap (λ n. n + 1) h ∙ sym (length-append s.places ((start, end) ∷ []))

byte_even : (b at : ℕ) (s : State) → Even s → Even (put_byte b at s)
unfolding put_byte
byte_even b at s h = by (b == 0)
  where
    end : ℕ
    end = plus at 1

    by : (k : Bool) → Even (if k then put 0xBD at end (put 0xBF at end (put 0xEF at end s)) else put b at end s)
    by true = put_even 0xBD at end (put 0xBF at end (put 0xEF at end s)) (put_even 0xBF at end (put 0xEF at end s) (put_even 0xEF at end s h))
    by false = put_even b at end s h

bytes_even : (at : ℕ) (s : State) (bs : List ℕ) → Even s → Even (put_bytes at s bs)
bytes_even at s [] h = h
bytes_even at s (b ∷ bs) h = bytes_even (plus at 1) (put_byte b at s) bs (byte_even b at s h)

pub lines_even : (t : List ℕ) (s : State) (ls : List ContentLine) → Even s → Even (fold (put_line t) s ls)
unfolding put_line
lines_even t s [] h = h
lines_even t s (l ∷ ls) h = lines_even t (put_line t s l) ls (put_even 10 l.end l.next (put_bytes l.start s (bytes_between t l.start l.end)) (bytes_even l.start s (bytes_between t l.start l.end) h))

pub places_count : (t : List ℕ) (ls : List ContentLine) → length (content_of t ls).bytes ≡ length (content_of t ls).places
unfolding content_of
places_count t ls = length-take end s.bytes ∙ ap (min end) (lines_even t (record { bytes = []; places = [] }) ls refl) ∙ sym (length-take end s.places)
  where
    s : State
    s = joined t ls

    end : ℕ
    end = iterated (before_white s.bytes) (length s.bytes) (length s.bytes)
