-- The text of lines is all of their bytes but white space at the end.
use Rattle.std.proofs.Common.{◌≡◌, ℕ, zero, suc, ◌-◌, ◌<◌, ◌≤◌, Bool, true, false, ◌==◌, ◌&&◌, if◌then◌else◌, nat_lt, List, [], ◌∷◌, ◌++◌, length, drop, fold, flat_map, refl, ap, sym, ◌∙◌, subst, arith, append_assoc, append-nil}
use Rattle.std.specs.Prelude.{Some, None}
use Rattle.std.specs.List.{AllByRecursion}
use Rattle.std.proofs.lemmas.Bool.Decides.{nat_tests}
use Rattle.std.proofs.lemmas.List.{take-append-drop}
use Rattle.tocmark_read_scan.specs.Basic.{plus, byte_at, bytes_between}
use Rattle.tocmark_read_scan.specs.Class.{is_in}
use Rattle.tocmark_read_scan.specs.Content.{State, put, put_byte, put_bytes, put_line, joined, before_white, content_of}
use Rattle.tocmark_read_scan.specs.Repeat.{going_on, iterated}
use Rattle.tocmark_read_scan.specs.declared.class.Class.TheVariants.{White}
use Rattle.tocmark_read_scan.specs.declared.content.ContentLine.{ContentLine}
use Rattle.tocmark_read_page.specs.Definitions.{replaced}
use Rattle.tocmark_text_laws.specs.Kept.{line_bytes, LinesAreKept}

put_replaced : (b start : ℕ) (s : State) → (put_byte b start s).bytes ≡ s.bytes ++ replaced b
unfolding put_byte put replaced
put_replaced b start s = by (b == 0)
  where
    by : (x : Bool) → (if x then put 0xBD start (plus start 1) (put 0xBF start (plus start 1) (put 0xEF start (plus start 1) s)) else put b start (plus start 1) s).bytes ≡ s.bytes ++ (if x then 0xef ∷ 0xbf ∷ 0xbd ∷ [] else b ∷ [])
    by true = ap (λ xs. xs ++ 0xBD ∷ []) (append_assoc s.bytes (0xEF ∷ []) (0xBF ∷ [])) ∙ append_assoc s.bytes (0xEF ∷ 0xBF ∷ []) (0xBD ∷ [])
    by false = refl

put_all : (start : ℕ) (s : State) (bs : List ℕ) → (put_bytes start s bs).bytes ≡ s.bytes ++ flat_map replaced bs
put_all start s [] = sym (append-nil s.bytes)
put_all start s (b ∷ bs) = put_all (plus start 1) (put_byte b start s) bs ∙ ap (λ xs. xs ++ flat_map replaced bs) (put_replaced b start s) ∙ append_assoc s.bytes (replaced b) (flat_map replaced bs)

line_put : (text : List ℕ) (s : State) (l : ContentLine) → (put_line text s l).bytes ≡ s.bytes ++ line_bytes text l
unfolding put_line put
line_put text s l = ap (λ xs. xs ++ 10 ∷ []) (put_all l.start s (bytes_between text l.start l.end)) ∙ append_assoc s.bytes (flat_map replaced (bytes_between text l.start l.end)) (10 ∷ [])

lines_put : (text : List ℕ) (s : State) (ls : List ContentLine) → (fold (put_line text) s ls).bytes ≡ s.bytes ++ flat_map (line_bytes text) ls
lines_put text s [] = sym (append-nil s.bytes)
lines_put text s (l ∷ ls) = lines_put text (put_line text s l) ls ∙ ap (λ xs. xs ++ flat_map (line_bytes text) ls) (line_put text s l) ∙ append_assoc s.bytes (line_bytes text l) (flat_map (line_bytes text) ls)

abbrev pub AllWhite : List ℕ → Type 0
AllWhite bs = AllByRecursion (λ b. is_in White b ≡ true) bs

-- one more byte of the rest
one_white : (bs : List ℕ) (c : ℕ) → c < length bs → is_in White (byte_at bs c) ≡ true → AllWhite (drop (suc c) bs) → AllWhite (drop c bs)
one_white [] c l w h = absurd (omega arith)
one_white (b ∷ bs) zero l w h = (w, h)
one_white (b ∷ bs) (suc c) l w h = one_white bs c (omega arith) w h

pub back_white : (bs : List ℕ) (n c : ℕ) → c ≤ length bs → AllWhite (drop c bs) → AllWhite (drop (iterated (before_white bs) n c) bs)
unfolding iterated before_white
back_white bs zero c l h = h
back_white bs (suc n) c l h = by (nat_lt 0 c) (is_in White (byte_at bs (c - 1))) refl refl (λ d m k. back_white bs n d m k)
  where
    by : (x y : Bool) → nat_lt 0 c ≡ x → is_in White (byte_at bs (c - 1)) ≡ y → ((d : ℕ) → d ≤ length bs → AllWhite (drop d bs) → AllWhite (drop (iterated (before_white bs) n d) bs))
        → AllWhite (drop (going_on (λ d. iterated (before_white bs) n d) c (if x && y then Some (c - 1) else None)) bs)
    by false y e q f = h
    by true false e q f = h
    by true true e q f =
        let p : 0 < c = grind (arith, nat_tests) in
        let m : suc (c - 1) ≡ c = omega arith in
        f (c - 1) (omega arith) (one_white bs (c - 1) (omega arith) q (subst (λ n. AllWhite (drop n bs)) (sym m) h))

pub none_left : (bs : List ℕ) → AllWhite (drop (length bs) bs)
none_left [] = tt
none_left (b ∷ bs) = none_left bs

pub lines_kept : LinesAreKept
unfolding content_of
lines_kept text lines = record {
  white = drop (iterated (before_white bytes) (length bytes) (length bytes)) bytes;
  all_white = back_white bytes (length bytes) (length bytes) (omega arith) (none_left bytes);
  whole = sym (lines_put text (record { bytes = []; places = [] }) lines) ∙ sym (take-append-drop (iterated (before_white bytes) (length bytes) (length bytes)) bytes);
}
  where
    bytes : List ℕ
    bytes = (joined text lines).bytes
