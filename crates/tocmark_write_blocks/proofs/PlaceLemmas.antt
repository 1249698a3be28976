-- A piece is in the front of a text just where its first place in all of it leaves enough bytes.
use Rattle.std.proofs.Common.{◌≡◌, ℕ, suc, ◌+◌, ◌-◌, ◌<◌, ◌≤◌, Bool, true, false, cond, List, [], ◌∷◌, ◌++◌, refl, sym, ap, ◌∙◌, drop, length, length-append, get_or, arith, nat_eq}
use Rattle.std.specs.Prelude.{◌||◌, ◌&&◌, ◌==◌, codes, if◌then◌else◌, nat_le, slice_get, unwrap_or}
use Rattle.std.specs.Str.{str_to_ascii_lowercase}
use Rattle.std.specs.Char.{to_ascii_lowercase}
use Rattle.std.proofs.Math.Dec.{leb-zero, leb-suc-zero, leb-suc-suc}
use Rattle.std.proofs.lemmas.Bool.{false≢true, le-leb, lt-leb, leb-true, leb-false}
use Rattle.std.proofs.lemmas.Bool.Decides.{nat_tests}
use Rattle.std.proofs.lemmas.List.{drop_more, drop-map, length-map}
use Rattle.tocmark_spelling.specs.Words.{begins_with, holds}
use Rattle.tocmark_write_blocks.specs.BlockEnds.{left_from, last_of, ends_in, ends_with, may_begin, stands_before}
use Rattle.tocmark_write_blocks.specs.declared.block_ends.BlockEnds.{BlockEnds}

-- ---- one byte more in front

last-more : (text : List ℕ) (n : ℕ) → n < length text → last_of (n + 1) text ≡ get_or text (length text - (n + 1)) 0 ∷ last_of n text
last-more text n lt =
    let i = length text - (n + 1) in
    let within : i < length text = omega arith in
    let next : i + 1 ≡ length text - n = omega arith in
    drop_more text i 0 within ∙ ap (λ k. get_or text i 0 ∷ drop k text) next

lower-last : (text : List ℕ) (n : ℕ) → last_of n (str_to_ascii_lowercase text) ≡ str_to_ascii_lowercase (last_of n text)
lower-last text n =
    ap (λ k. drop (k - n) (str_to_ascii_lowercase text)) (length-map text to_ascii_lowercase)
    ∙ drop-map to_ascii_lowercase (length text - n) text

ends-one : (b : ℕ) (bs : List ℕ) → ends_with (b ∷ bs) (str_to_ascii_lowercase (b ∷ bs)) (ends_in bs) ≡ ends_in (b ∷ bs)
ends-one b bs = refl

pub ends-more : (text lower : List ℕ) (n : ℕ) (ends new : BlockEnds) (here here_lower : List ℕ) → lower ≡ str_to_ascii_lowercase text → n < length text
    → ends ≡ ends_in (last_of n text) → here ≡ last_of (n + 1) text → here_lower ≡ last_of (n + 1) lower → new ≡ ends_with here here_lower ends
    → new ≡ ends_in (last_of (n + 1) text)
ends-more text lower n ends new here here_lower low lt e h l is =
    let b = get_or text (length text - (n + 1)) 0 in
    let bs = last_of n text in
    let more = last-more text n lt in
    let lowered : here_lower ≡ str_to_ascii_lowercase (b ∷ bs) = l ∙ ap (last_of (n + 1)) low ∙ lower-last text (n + 1) ∙ ap str_to_ascii_lowercase more in
    is ∙ ap (λ x. ends_with x here_lower ends) (h ∙ more) ∙ ap (λ x. ends_with (b ∷ bs) x ends) lowered
    ∙ ap (ends_with (b ∷ bs) (str_to_ascii_lowercase (b ∷ bs))) e ∙ ends-one b bs ∙ ap ends_in (sym more)

-- ---- no end begins in front

either-false : (a b : Bool) → (a || b) ≡ false → (a ≡ false) × (b ≡ false)
either-false false b h = (refl, h)
either-false true b h = absurd (false≢true (sym h))

other-byte : (b q : ℕ) → (b == q) ≡ false → nat_eq q b ≡ false
other-byte b q h = grind (arith, nat_tests)

-- a piece isn't where its first byte doesn't
none-begins : (q : ℕ) (ps text : List ℕ) → (unwrap_or (slice_get text 0) 0 == q) ≡ false → begins_with text (q ∷ ps) ≡ false
none-begins q ps [] h = refl
none-begins q ps (b ∷ bs) h = ap (λ c. c && begins_with bs ps) (other-byte b q h)

-- with no end in front, all ends stay
all-stay : (n m : ℕ) (v : BlockEnds) (a b c d e f g h : Bool) → a ≡ false → b ≡ false → c ≡ false → d ≡ false → e ≡ false → f ≡ false → g ≡ false → h ≡ false
    → v ≡ record {
      comment = if a then n else v.comment;
      instruction = if b then n else v.instruction;
      character_data = if c then n else v.character_data;
      declaration = if d then n else v.declaration;
      pre = if e then m else v.pre;
      script = if f then m else v.script;
      style = if g then m else v.style;
      textarea = if h then m else v.textarea;
    }
all-stay n m v a b c d e f g h i j k l o p q r = rw (i, j, k, l, o, p, q, r) refl

pub no_end : (text lower : List ℕ) (v : BlockEnds) → may_begin text lower ≡ false → v ≡ ends_with text lower v
no_end text lower v h =
    let first : ℕ = unwrap_or (slice_get text 0) 0 in
    let four = either-false ((first == 62) || (first == 45) || (first == 63) || (first == 93)) (unwrap_or (slice_get lower 0) 0 == 60) h in
    let three = either-false ((first == 62) || (first == 45) || (first == 63)) (first == 93) (four.0) in
    let two = either-false ((first == 62) || (first == 45)) (first == 63) (three.0) in
    let one = either-false (first == 62) (first == 45) (two.0) in
    all-stay (length text) (length lower) v _ _ _ _ _ _ _ _
    (none-begins 45 (codes "->") text (one.1)) (none-begins 63 (codes ">") text (two.1)) (none-begins 93 (codes "]>") text (three.1)) (none-begins 62 [] text (one.0))
    (none-begins 60 (codes "/pre>") lower (four.1)) (none-begins 60 (codes "/script>") lower (four.1))
    (none-begins 60 (codes "/style>") lower (four.1)) (none-begins 60 (codes "/textarea>") lower (four.1))

-- ---- a piece at the front

and-false : (a : Bool) → (a && false) ≡ false
and-false true = refl
and-false false = refl

and-three : (a b c d : Bool) → b ≡ (c && d) → (a && b) ≡ ((a && c) && d)
and-three true b c d h = h
and-three false b c d h = refl

prefix-front : (xs ys p : List ℕ) → begins_with xs p ≡ (begins_with (xs ++ ys) p && nat_le (length p) (length xs))
prefix-front xs ys [] = sym (leb-zero (length xs))
prefix-front [] ys (q ∷ ps) = sym (ap (λ z. begins_with ys (q ∷ ps) && z) (leb-suc-zero (length ps)) ∙ and-false (begins_with ys (q ∷ ps)))
prefix-front (x ∷ xs) ys (q ∷ ps) =
    and-three (nat_eq q x) (begins_with xs ps) (begins_with (xs ++ ys) ps) (nat_le (length ps) (length xs)) (prefix-front xs ys ps)
    ∙ ap (λ z. (nat_eq q x && begins_with (xs ++ ys) ps) && z) (sym (leb-suc-suc (length ps) (length xs)))

cond-le : (b : Bool) (n m k : ℕ) → n ≤ k → m ≤ k → cond b n m ≤ k
cond-le true n m k x y = x
cond-le false n m k x y = y

left-small : (p text : List ℕ) → left_from p text ≤ length text
left-small p [] = omega arith
left-small p (b ∷ bs) =
    let h = left-small p bs in
    cond-le (begins_with (b ∷ bs) p) (suc (length bs)) (left_from p bs) (suc (length bs)) (omega arith) (omega (arith, h))

-- ---- a piece anywhere

here-or-later : (c : Bool) (la lp lbs whole left : ℕ) → (c ≡ true → lp ≤ suc lbs) → (c ≡ false → suc lbs < lp) → whole ≡ lbs + la → left ≤ whole
    → (c || nat_le (la + lp) left) ≡ nat_le (la + lp) (suc whole)
here-or-later true la lp lbs whole left y n e l = let h = y refl in sym (le-leb (la + lp) (suc whole) (omega (arith, h, e)))
here-or-later false la lp lbs whole left y n e l =
    let h = n refl in lt-leb (la + lp) left (omega (arith, h, e, l)) ∙ sym (lt-leb (la + lp) (suc whole) (omega (arith, h, e)))

one-more : (a : Bool) (la lp lbs whole left : ℕ) → whole ≡ lbs + la → left ≤ whole
    → ((a && nat_le lp (suc lbs)) || nat_le (la + lp) left) ≡ nat_le (la + lp) (cond a (suc whole) left)
one-more false la lp lbs whole left e l = refl
one-more true la lp lbs whole left e l =
    here-or-later (nat_le lp (suc lbs)) la lp lbs whole left (leb-true lp (suc lbs)) (leb-false lp (suc lbs)) e l

pub holds-left : (q : ℕ) (ps body after : List ℕ)
    → holds body (q ∷ ps) ≡ stands_before (length after) (length (q ∷ ps)) (left_from (q ∷ ps) (body ++ after))
holds-left q ps [] after =
    let h = left-small (q ∷ ps) after in sym (lt-leb (length after + suc (length ps)) (left_from (q ∷ ps) after) (omega (arith, h)))
holds-left q ps (b ∷ bs) after =
    let p : List ℕ = q ∷ ps in
    ap (λ z. z || holds bs p) (prefix-front (b ∷ bs) after p)
    ∙ ap (λ z. (begins_with (b ∷ (bs ++ after)) p && nat_le (length p) (length (b ∷ bs))) || z) (holds-left q ps bs after)
    ∙ one-more (begins_with (b ∷ (bs ++ after)) p) (length after) (length p) (length bs) (length (bs ++ after)) (left_from p (bs ++ after))
    (length-append bs after) (left-small p (bs ++ after))
