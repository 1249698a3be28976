-- The content of lines that hold no U+0000 and don't end in white space.
use Rattle.std.proofs.Common.{◌≡◌, ℕ, suc, ◌+◌, ◌-◌, ◌^◌, ◌<◌, Bool, true, false, ◌==◌, ◌&&◌, if◌then◌else◌, nat_lt, List, [], ◌∷◌, ◌++◌, length, take, slice_get, unwrap_or, refl, ap, sym, ◌∙◌, arith, append_assoc, append-nil, length-append, Some, None}
use native.Mathlib.Numerals.{unary_clauses}
use Rattle.std.proofs.lemmas.Bool.Decides.{nat_tests}
use Rattle.std.specs.List.{AllByRecursion}
use Rattle.tocmark_read_scan.specs.Basic.{plus, byte_at}
use Rattle.tocmark_read_scan.specs.Class.{is_in}
use Rattle.tocmark_read_scan.specs.Content.{State, put, put_byte, put_bytes, before_white, trimmed}
use Rattle.tocmark_read_scan.specs.Repeat.{iterated}
use Rattle.tocmark_read_scan.specs.declared.class.Class.TheVariants.{White}
use Rattle.tocmark_read_scan.proofs.Repeats.{iterated_more, iterated_stop}

-- the ranges of bytes from a place on
abbrev pub places_of : ℕ → List ℕ → List (ℕ × ℕ)
places_of start [] = []
places_of start (b ∷ bs) = (start, start + 1) ∷ places_of (start + 1) bs

-- such bytes are put as they are
pub put_bytes_plain : (start : ℕ) (s : State) (xs : List ℕ) → AllByRecursion (λ b. (b == 0) ≡ false) xs → start + length xs < 2 ^ 64 → put_bytes start s xs ≡ record { bytes = s.bytes ++ xs; places = s.places ++ places_of start xs }
unfolding put_byte put
put_bytes_plain start s [] h fits = rw (append-nil s.bytes, append-nil s.places) refl
put_bytes_plain start s (x ∷ xs) h fits =
    let next : plus start 1 ≡ start + 1 = omega arith in
    let one : State = record { bytes = s.bytes ++ x ∷ []; places = s.places ++ (start, start + 1) ∷ [] } in
    let putted : put_byte x start s ≡ one = rw (h.0, next) refl in
    ap (λ (u : State). put_bytes (plus start 1) u xs) putted
    ∙ ap (λ p. put_bytes p one xs) next
    ∙ put_bytes_plain (start + 1) one xs (h.1) (omega arith)
    ∙ rw (append_assoc s.bytes (x ∷ []) xs, append_assoc s.places ((start, start + 1) ∷ []) (places_of (start + 1) xs)) refl

pub get_behind : {A : Type 0} (xs ys : List A) (y : A) → slice_get (xs ++ y ∷ ys) (length xs) ≡ Some y
get_behind [] ys y = refl
get_behind (x ∷ xs) ys y = get_behind xs ys y

pub take_front : {A : Type 0} (xs ys : List A) → take (length xs) (xs ++ ys) ≡ xs
take_front [] ys = refl
take_front (x ∷ xs) ys = ap (λ l. x ∷ l) (take_front xs ys)

pub byte_behind : (xs ys : List ℕ) (y n : ℕ) → n ≡ length xs → byte_at (xs ++ y ∷ ys) n ≡ y
byte_behind xs ys y n e = ap (λ k. byte_at (xs ++ y ∷ ys) k) e ∙ ap (λ o. unwrap_or o 10) (get_behind xs ys y)

pub white_before : (bytes : List ℕ) (n : ℕ) → 0 < n → is_in White (byte_at bytes (n - 1)) ≡ true → Some (n - 1) ≡ before_white bytes n
unfolding before_white
white_before bytes n h k =
    let some : nat_lt 0 n ≡ true = grind (arith, nat_tests) in
    rw (some, k) refl

ink_before : (bytes : List ℕ) (n : ℕ) → is_in White (byte_at bytes (n - 1)) ≡ false → None ≡ before_white bytes n
unfolding before_white
ink_before bytes n k = by_ink (nat_lt 0 n)
  where
    by_ink : (c : Bool) → None ≡ (if c && is_in White (byte_at bytes (n - 1)) then Some (n - 1) else None)
    by_ink true = rw k refl
    by_ink false = refl

pub white_feed : is_in White 10 ≡ true
unfolding is_in
white_feed = refl

-- where such a text ends
feed_end : (body : List ℕ) (y : ℕ) → is_in White y ≡ false → let bytes = (body ++ y ∷ []) ++ 10 ∷ [] in iterated (before_white bytes) (length bytes) (length bytes) ≡ length (body ++ y ∷ [])
feed_end body y h =
    let bytes : List ℕ = (body ++ y ∷ []) ++ 10 ∷ [] in
    let shorter : length bytes - 1 ≡ length (body ++ y ∷ []) = grind (arith, length-append) in
    let before : length bytes - 1 - 1 ≡ length body = grind (arith, length-append) in
    let last : byte_at bytes (length bytes - 1) ≡ 10 = byte_behind (body ++ y ∷ []) [] 10 (length bytes - 1) shorter in
    let same : bytes ≡ body ++ y ∷ 10 ∷ [] = append_assoc body (y ∷ []) (10 ∷ []) in
    let ink : byte_at bytes (length bytes - 1 - 1) ≡ y = ap (λ (l : List ℕ). byte_at l (length bytes - 1 - 1)) same ∙ byte_behind body (10 ∷ []) y (length bytes - 1 - 1) before in
    let long : 0 < length bytes = grind (arith, length-append) in
    let longer : 0 < length bytes - 1 = grind (arith, length-append) in
    iterated_more (before_white bytes) (length bytes) (length bytes) (length bytes - 1) long (white_before bytes (length bytes) long (ap (is_in White) last ∙ white_feed))
    ∙ iterated_stop (before_white bytes) (length bytes - 1) (length bytes - 1) longer (ink_before bytes (length bytes - 1) (ap (is_in White) ink ∙ h))
    ∙ shorter

-- without the line feed at the end, if no white space is before it
pub trimmed_feed : (body : List ℕ) (y : ℕ) (ps : List (ℕ × ℕ)) (q : ℕ × ℕ) → length ps ≡ length (body ++ y ∷ []) → is_in White y ≡ false → trimmed (record { bytes = (body ++ y ∷ []) ++ 10 ∷ []; places = ps ++ q ∷ [] }) ≡ record { bytes = body ++ y ∷ []; places = ps }
trimmed_feed body y ps q e h =
    let bytes : List ℕ = (body ++ y ∷ []) ++ 10 ∷ [] in
    let cut : ℕ → State = λ n. record { bytes = take n bytes; places = take n (ps ++ q ∷ []) } in
    let places : take (length (body ++ y ∷ [])) (ps ++ q ∷ []) ≡ ps = ap (λ n. take n (ps ++ q ∷ [])) (sym e) ∙ take_front ps (q ∷ []) in
    ap cut (feed_end body y h) ∙ rw (take_front (body ++ y ∷ []) (10 ∷ []), places) refl

pub length_places : (start : ℕ) (xs : List ℕ) → length (places_of start xs) ≡ length xs
length_places start [] = refl
length_places start (x ∷ xs) = ap suc (length_places (start + 1) xs)
