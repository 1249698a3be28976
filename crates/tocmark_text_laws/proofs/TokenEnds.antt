-- Character references, code spans and raw HTML end within the leaf's text, after a byte of ASCII.
use Rattle.std.proofs.Common.{◌≡◌, ℕ, zero, suc, ◌+◌, ◌-◌, ◌^◌, ◌<◌, ◌≤◌, Bool, true, false, not, ◌==◌, ◌&&◌, ◌||◌, nat_lt, nat_le, if◌then◌else◌, List, [], ◌∷◌, length, drop, codes, refl, ap, sym, subst, ◌∙◌, arith, true≢false}
use Rattle.std.specs.Prelude.{nat_eq, slice_get, unwrap_or, Option, Some, None}
use Rattle.std.specs.Char.{is_ascii_alphabetic}
use Rattle.std.specs.List.{starts_with, list_any}
use Rattle.std.proofs.lemmas.Bool.Decides.{nat_tests}
use Rattle.tocmark_read_scan.specs.Basic.{plus, byte_at, bytes_between, starts_at}
use Rattle.tocmark_read_scan.specs.Class.{is_in, run_end}
use Rattle.tocmark_read_scan.specs.Repeat.{going_on, iterated}
use Rattle.tocmark_read_scan.specs.declared.class.Class.TheVariants as class
use Rattle.tocmark_read_tokens.specs.Html.{name_end, closing_tag_from, closing_tag, quoted_end, value, value_end, attribute, tag_close, open_tag_from, open_tag, further, nearer, last_of, last_ends, found_within, comment, declaration, raw_html}
use Rattle.tocmark_read_tokens.specs.Reference.{character, number, closed_number, numeric, referred, named, reference_at}
use Rattle.tocmark_read_tokens.specs.declared.reference.Reference.{Reference}
use Rattle.tocmark_read_inlines.specs.Scan.{ends_of}
use Rattle.tocmark_text_laws.proofs.LinkEnds.{Ended, ended_at, Climbs, climbed, to_run, to_next}
use Rattle.tocmark_text_laws.proofs.Tokens.{byte_within, got_dropped}

-- a token that is there, if one is
abbrev pub MayEnd : List ℕ → ℕ → Option ℕ → Type 0
MayEnd t p None = Unit
MayEnd t p (Some end) = Ended t p end

-- bytes of a word that is at a place

both : (x y : Bool) → x && y ≡ true → (x ≡ true) × (y ≡ true)
both true true e = (refl, refl)
both true false e = absurd cc
both false y e = absurd cc

first_byte : (word xs : List ℕ) (k b : ℕ) → starts_with nat_eq xs word ≡ true → slice_get word k ≡ Some b → slice_get xs k ≡ Some b
first_byte [] xs k b h e = absurd cc
first_byte (w ∷ word) [] k b h e = absurd (true≢false (sym h))
first_byte (w ∷ word) (x ∷ xs) zero b h e = let q : (w == x) ≡ true = (both (w == x) (starts_with nat_eq xs word) h).0 in let r : w ≡ x = grind (arith, nat_tests) in ap (λ y. Some y) (sym r) ∙ e
first_byte (w ∷ word) (x ∷ xs) (suc k) b h e = first_byte word xs k b ((both (w == x) (starts_with nat_eq xs word) h).1) e

-- the byte with a number in it
pub word_got : (t word : List ℕ) (p k b : ℕ) → starts_at t p word ≡ true → slice_get word k ≡ Some b → slice_get t (p + k) ≡ Some b
unfolding starts_at
word_got t word p k b h e = sym (got_dropped p t k) ∙ first_byte word (drop p t) k b h e

pub word_byte : (t word : List ℕ) (p k b : ℕ) → starts_at t p word ≡ true → slice_get word k ≡ Some b → byte_at t (p + k) ≡ b
word_byte t word p k b h e = ap (λ o. unwrap_or o 10) (word_got t word p k b h e)

-- a word that ends with a byte of ASCII that is no line feed
word_ends : (t word : List ℕ) (p q k b : ℕ) → length t < 2 ^ 64 - 1 → starts_at t q word ≡ true → slice_get word k ≡ Some b → (b == 10) ≡ false → b < 128 → p ≤ q + k → Ended t p (plus q (suc k))
word_ends t word p q k b short h e n l m =
    let c : byte_at t (q + k) ≡ b = word_byte t word q k b h e in
    let w : q + k < length t = byte_within t (q + k) b c n in
    let z : plus (q + k) 1 ≡ plus q (suc k) = omega arith in
    subst (Ended t p) z (ended_at t p (q + k) b short c n l m)

-- character references

abbrev pub MayRefer : List ℕ → ℕ → Option Reference → Type 0
MayRefer t p None = Unit
MayRefer t p (Some r) = Ended t p r.next

closed_ends : (t : List ℕ) (p start end base most : ℕ) → length t < 2 ^ 64 - 1 → p ≤ start → MayRefer t p (closed_number t start end base most)
unfolding closed_number
closed_ends t p start end base most short l = by (nat_lt start end) (nat_le end (plus start most)) (byte_at t end == 59) refl refl
  where
    by : (x y z : Bool) → nat_lt start end ≡ x → (byte_at t end == 59) ≡ z → MayRefer t p (if x && y && z then Some (record { character = character (number base (bytes_between t start end)); next = plus end 1 }) else None)
    by true true true e f = let a : start < end = grind (arith, nat_tests) in let b : byte_at t end ≡ 59 = grind (arith, nat_tests) in ended_at t p end 59 short b refl (omega arith) (omega arith)
    by true true false e f = tt
    by true false z e f = tt
    by false y z e f = tt

numeric_ends : (t : List ℕ) (p : ℕ) → length t < 2 ^ 64 - 1 → p < length t → MayRefer t p (numeric t p)
unfolding numeric
numeric_ends t p short w = by ((byte_at t (plus p 2) == 120) || (byte_at t (plus p 2) == 88))
  where
    by : (x : Bool) → MayRefer t p (if x then closed_number t (plus (plus p 2) 1) (run_end t (plus (plus p 2) 1) class.HexDigit) 16 6 else closed_number t (plus p 2) (run_end t (plus p 2) class.Digit) 10 7)
    by true = closed_ends t p (plus (plus p 2) 1) (run_end t (plus (plus p 2) 1) class.HexDigit) 16 6 short (omega arith)
    by false = closed_ends t p (plus p 2) (run_end t (plus p 2) class.Digit) 10 7 short (omega arith)

named_ends : (t : List ℕ) (p : ℕ) → length t < 2 ^ 64 - 1 → MayRefer t p (named t p)
unfolding named referred
named_ends t p short = by (starts_at t p (codes "&amp;")) (starts_at t p (codes "&lt;")) (starts_at t p (codes "&gt;")) (starts_at t p (codes "&quot;")) refl refl refl refl
  where
    by : (a b c d : Bool) → starts_at t p (codes "&amp;") ≡ a → starts_at t p (codes "&lt;") ≡ b → starts_at t p (codes "&gt;") ≡ c → starts_at t p (codes "&quot;") ≡ d
        → MayRefer t p (if a then Some (record { character = 38; next = plus p 5 }) else (if b then Some (record { character = 60; next = plus p 4 }) else (if c then Some (record { character = 62; next = plus p 4 }) else (if d then Some (record { character = 34; next = plus p 6 }) else None))))
    by true b c d e f g h = word_ends t (codes "&amp;") p p 4 59 short e refl refl (omega arith) (omega arith)
    by false true c d e f g h = word_ends t (codes "&lt;") p p 3 59 short f refl refl (omega arith) (omega arith)
    by false false true d e f g h = word_ends t (codes "&gt;") p p 3 59 short g refl refl (omega arith) (omega arith)
    by false false false true e f g h = word_ends t (codes "&quot;") p p 5 59 short h refl refl (omega arith) (omega arith)
    by false false false false e f g h = tt

pub reference_ends : (t : List ℕ) (p : ℕ) → length t < 2 ^ 64 - 1 → p < length t → MayRefer t p (reference_at t p)
unfolding reference_at
reference_ends t p short w = by (starts_at t p (codes "&#"))
  where
    by : (x : Bool) → MayRefer t p (if x then numeric t p else named t p)
    by true = numeric_ends t p short w
    by false = named_ends t p short

-- raw HTML: the first word from a place on

search : (t word : List ℕ) (far fuel from : ℕ) → length t < 2 ^ 64 - 1 → starts_at t far word ≡ true → far < length t → from ≤ far → length t ≤ from + fuel → (starts_at t (iterated (further t word) fuel from) word ≡ true) × (from ≤ iterated (further t word) fuel from)
unfolding iterated further
search t word far zero from short h w l m = absurd (omega arith)
search t word far (suc fuel) from short h w l m = by (nat_lt from (length t)) (starts_at t from word) refl refl (λ k. search t word far fuel (plus from 1) short h w k (omega arith))
  where
    by : (x y : Bool) → nat_lt from (length t) ≡ x → starts_at t from word ≡ y
        → (plus from 1 ≤ far → (starts_at t (iterated (further t word) fuel (plus from 1)) word ≡ true) × (plus from 1 ≤ iterated (further t word) fuel (plus from 1)))
        → (starts_at t (going_on (λ d. iterated (further t word) fuel d) from (if x && not y then Some (plus from 1) else None)) word ≡ true) × (from ≤ going_on (λ d. iterated (further t word) fuel d) from (if x && not y then Some (plus from 1) else None))
    by false y e f g = absurd (let z : length t ≤ from = grind (arith, nat_tests) in omega arith)
    by true true e f g = (f, omega arith)
    by true false e f g = cases (nat_lt from far) refl
      where
        cases : (x : Bool) → nat_lt from far ≡ x → (starts_at t (iterated (further t word) fuel (plus from 1)) word ≡ true) × (from ≤ iterated (further t word) fuel (plus from 1))
        cases true q = let z : from < far = grind (arith, nat_tests) in let r : (starts_at t (iterated (further t word) fuel (plus from 1)) word ≡ true) × (plus from 1 ≤ iterated (further t word) fuel (plus from 1)) = g (omega arith) in (r.0, omega (arith, r.1))
        cases false q = let z : far ≤ from = grind (arith, nat_tests) in let s : far ≡ from = omega arith in absurd (true≢false (sym h ∙ ap (λ n. starts_at t n word) s ∙ f))

found_ends : (t word : List ℕ) (p from k b : ℕ) → length t < 2 ^ 64 - 1 → length word ≡ suc k → slice_get word k ≡ Some b → (b == 10) ≡ false → b < 128 → p ≤ from → MayEnd t p (found_within t from word (last_of t word))
unfolding found_within last_of
found_ends t word p from k b short size e n l m = by (starts_at t far word) refl
  where
    far : ℕ
    far = iterated (nearer t word) (length t) (length t)

    to : ℕ
    to = iterated (further t word) (length t) from

    there : starts_at t far word ≡ true → far < length t
    there h = let w : far + k < length t = byte_within t (far + k) b (word_byte t word far k b h e) n in omega arith

    ends : (x : Bool) → starts_at t far word ≡ true → nat_lt from (plus far 1) ≡ x → MayEnd t p (if x then Some (plus to (length word)) else None)
    ends true h q =
        let w : far < length t = there h in
        let z : from < plus far 1 = grind (arith, nat_tests) in
        let r : (starts_at t to word ≡ true) × (from ≤ to) = search t word far (length t) from short h w (omega arith) (omega arith) in
        subst (λ c. Ended t p (plus to c)) (sym size) (word_ends t word p to k b short (r.0) e n l (omega (arith, r.1)))
    ends false h q = tt

    by : (x : Bool) → starts_at t far word ≡ x → MayEnd t p (if nat_lt from (if x then plus far 1 else 0) then Some (plus to (length word)) else None)
    by true h = ends (nat_lt from (plus far 1)) h refl
    by false h = let q : nat_lt from 0 ≡ false = grind (arith, nat_tests) in subst (λ x. MayEnd t p (if x then Some (plus to (length word)) else None)) (sym q) tt

-- raw HTML: tags

abbrev MayClimb : ℕ → Option ℕ → Type 0
MayClimb q None = Unit
MayClimb q (Some r) = Climbs q r

may_later : (q r : ℕ) (o : Option ℕ) → Climbs q r → MayClimb r o → MayClimb q o
may_later q r None c h = tt
may_later q r (Some s) c h = climbed q r s c h

quoted_climbs : (t : List ℕ) (q quote : ℕ) → q < 2 ^ 64 → MayClimb q (quoted_end t q quote)
unfolding quoted_end
quoted_climbs t q quote h = by (byte_at t end == quote)
  where
    end : ℕ
    end = run_end t (plus q 1) (class.Except quote)

    there : Climbs q end
    there = climbed q (plus q 1) end (to_next q h) (to_run t (plus q 1) (class.Except quote) (omega arith))

    by : (z : Bool) → MayClimb q (if z then Some (plus end 1) else None)
    by true = climbed q end (plus end 1) there (to_next end there.low)
    by false = tt

value_climbs : (t : List ℕ) (q : ℕ) → q < 2 ^ 64 → MayClimb q (value t q)
unfolding value
value_climbs t q h = by (byte_at t q == 34) (byte_at t q == 39) (run_end t q class.Unquoted == q)
  where
    by : (x y z : Bool) → MayClimb q (if x then quoted_end t q 34 else (if y then quoted_end t q 39 else (if z then None else Some (run_end t q class.Unquoted))))
    by true y z = quoted_climbs t q 34 h
    by false true z = quoted_climbs t q 39 h
    by false false true = tt
    by false false false = to_run t q class.Unquoted h

value_end_climbs : (t : List ℕ) (q : ℕ) → q < 2 ^ 64 → MayClimb q (value_end t q)
unfolding value_end
value_end_climbs t q h = by (byte_at t sign == 61)
  where
    sign : ℕ
    sign = run_end t q class.White

    to : ℕ
    to = run_end t (plus sign 1) class.White

    first : Climbs q sign
    first = to_run t q class.White h

    second : Climbs q to
    second = climbed q (plus sign 1) to (climbed q sign (plus sign 1) first (to_next sign first.low)) (to_run t (plus sign 1) class.White (omega arith))

    by : (z : Bool) → MayClimb q (if z then value t to else Some q)
    by true = may_later q to (value t to) second (value_climbs t to second.low)
    by false = record { up = omega arith; low = h }

attribute_climbs : (t : List ℕ) (q : ℕ) → q < 2 ^ 64 → MayClimb q (attribute t q)
unfolding attribute
attribute_climbs t q h = by (not (at == q) && is_in class.AttributeStart (byte_at t at))
  where
    at : ℕ
    at = run_end t q class.White

    to : ℕ
    to = run_end t at class.AttributeName

    first : Climbs q at
    first = to_run t q class.White h

    second : Climbs q to
    second = climbed q at to first (to_run t at class.AttributeName first.low)

    by : (z : Bool) → MayClimb q (if z then value_end t to else None)
    by true = may_later q to (value_end t to) second (value_end_climbs t to second.low)
    by false = tt

attributes_climb : (t : List ℕ) (fuel q : ℕ) → q < 2 ^ 64 → Climbs q (iterated (attribute t) fuel q)
unfolding iterated
attributes_climb t zero q h = record { up = omega arith; low = h }
attributes_climb t (suc fuel) q h = by (attribute t q) (attribute_climbs t q h) (λ r k. attributes_climb t fuel r k)
  where
    by : (o : Option ℕ) → MayClimb q o → ((r : ℕ) → r < 2 ^ 64 → Climbs r (iterated (attribute t) fuel r)) → Climbs q (going_on (λ d. iterated (attribute t) fuel d) q o)
    by None c f = record { up = omega arith; low = h }
    by (Some r) c f = climbed q r (iterated (attribute t) fuel r) c (f r c.low)

name_climbs : (t : List ℕ) (q : ℕ) → q < 2 ^ 64 → MayClimb q (name_end t q)
unfolding name_end
name_climbs t q h = by (is_ascii_alphabetic (byte_at t q))
  where
    by : (z : Bool) → MayClimb q (if z then Some (run_end t q class.TagName) else None)
    by true = to_run t q class.TagName h
    by false = tt

closing_ends : (t : List ℕ) (p : ℕ) → length t < 2 ^ 64 - 1 → p < length t → MayEnd t p (closing_tag t p)
unfolding closing_tag
closing_ends t p short w = by (name_end t (plus p 2)) (name_climbs t (plus p 2) (omega arith))
  where
    by : (o : Option ℕ) → MayClimb (plus p 2) o → MayEnd t p (closing_tag_from t o)
    by None c = tt
    by (Some name) c = of (byte_at t end == 62) refl
      where
        end : ℕ
        end = run_end t name class.White

        late : Climbs (plus p 2) end
        late = climbed (plus p 2) name end c (to_run t name class.White c.low)

        of : (z : Bool) → (byte_at t end == 62) ≡ z → MayEnd t p (if z then Some (plus end 1) else None)
        of true e = let b : byte_at t end ≡ 62 = grind (arith, nat_tests) in ended_at t p end 62 short b refl (omega arith) (let l : plus p 2 ≤ end = late.up in omega arith)
        of false e = tt

open_ends : (t : List ℕ) (p : ℕ) → length t < 2 ^ 64 - 1 → p < length t → MayEnd t p (open_tag t p)
unfolding open_tag tag_close
open_ends t p short w = by (name_end t (plus p 1)) (name_climbs t (plus p 1) (omega arith))
  where
    by : (o : Option ℕ) → MayClimb (plus p 1) o → MayEnd t p (open_tag_from t o)
    by None c = tt
    by (Some name) c = of (byte_at t at == 62) (starts_at t at (codes "/>")) refl refl
      where
        last : ℕ
        last = iterated (attribute t) (length t) name

        at : ℕ
        at = run_end t last class.White

        d : Climbs name last
        d = attributes_climb t (length t) name c.low

        late : Climbs (plus p 1) at
        late = climbed (plus p 1) name at c (climbed name last at d (to_run t last class.White d.low))

        behind : p ≤ at
        behind = let l : plus p 1 ≤ at = late.up in omega arith

        of : (y z : Bool) → (byte_at t at == 62) ≡ y → starts_at t at (codes "/>") ≡ z → MayEnd t p (if y then Some (plus at 1) else (if z then Some (plus at 2) else None))
        of true z e f = let b : byte_at t at ≡ 62 = grind (arith, nat_tests) in ended_at t p at 62 short b refl (omega arith) behind
        of false true e f = word_ends t (codes "/>") p at 1 62 short f refl refl (omega arith) (omega (arith, behind))
        of false false e f = tt

pub html_ends : (t : List ℕ) (p : ℕ) → length t < 2 ^ 64 - 1 → p < length t → MayEnd t p (raw_html t p (last_ends t))
unfolding raw_html last_ends comment declaration
html_ends t p short w = by (starts_at t p (codes "</")) (starts_at t p (codes "<?")) (starts_at t p (codes "<!--")) (starts_at t p (codes "<![CDATA[")) (starts_at t p (codes "<!"))
  where
    comments : (x y : Bool) → starts_at t p (codes "<!-->") ≡ x → starts_at t p (codes "<!--->") ≡ y → MayEnd t p (if x then Some (plus p 5) else (if y then Some (plus p 6) else found_within t (plus p 4) (codes "-->") (last_of t (codes "-->"))))
    comments true y e f = word_ends t (codes "<!-->") p p 4 62 short e refl refl (omega arith) (omega arith)
    comments false true e f = word_ends t (codes "<!--->") p p 5 62 short f refl refl (omega arith) (omega arith)
    comments false false e f = found_ends t (codes "-->") p (plus p 4) 2 62 short refl refl refl (omega arith) (omega arith)

    declares : (z : Bool) → MayEnd t p (if z then found_within t (plus p 3) (codes ">") (last_of t (codes ">")) else None)
    declares true = found_ends t (codes ">") p (plus p 3) 0 62 short refl refl refl (omega arith) (omega arith)
    declares false = tt

    by : (a b c d f : Bool) → MayEnd t p (if a then closing_tag t p else (if b then found_within t (plus p 2) (codes "?>") (last_of t (codes "?>")) else (if c then (if starts_at t p (codes "<!-->") then Some (plus p 5) else (if starts_at t p (codes "<!--->") then Some (plus p 6) else found_within t (plus p 4) (codes "-->") (last_of t (codes "-->")))) else (if d then found_within t (plus p 9) (codes "]]>") (last_of t (codes "]]>")) else (if f then (if is_ascii_alphabetic (byte_at t (plus p 2)) then found_within t (plus p 3) (codes ">") (last_of t (codes ">")) else None) else open_tag t p)))))
    by true b c d f = closing_ends t p short w
    by false true c d f = found_ends t (codes "?>") p (plus p 2) 1 62 short refl refl refl (omega arith) (omega arith)
    by false false true d f = comments (starts_at t p (codes "<!-->")) (starts_at t p (codes "<!--->")) refl refl
    by false false false true f = found_ends t (codes "]]>") p (plus p 9) 2 62 short refl refl refl (omega arith) (omega arith)
    by false false false false true = declares (is_ascii_alphabetic (byte_at t (plus p 2)))
    by false false false false false = open_ends t p short w

-- where an angle bracket is, the last ends are known
pub any_byte : (b : ℕ) (t : List ℕ) (p : ℕ) → p < length t → byte_at t p ≡ b → list_any (λ x. x == b) t ≡ true
any_byte b [] p w e = absurd (omega arith)
any_byte b (x ∷ xs) zero w e = let q : (x == b) ≡ true = grind (arith, nat_tests) in first (x == b) (list_any (λ y. y == b) xs) q
  where
    first : (y z : Bool) → y ≡ true → y || z ≡ true
    first true z q = refl
    first false z q = absurd (true≢false (sym q))
any_byte b (x ∷ xs) (suc p) w e = second (x == b) (list_any (λ y. y == b) xs) (any_byte b xs p (omega arith) e)
  where
    second : (y z : Bool) → z ≡ true → y || z ≡ true
    second true z q = refl
    second false z q = q

pub ends_known : (t : List ℕ) (p : ℕ) → p < length t → byte_at t p ≡ 60 → last_ends t ≡ ends_of t
unfolding ends_of
ends_known t p w e = by (list_any (λ x. x == 60) t) (any_byte 60 t p w e)
  where
    by : (x : Bool) → x ≡ true → last_ends t ≡ (if x then last_ends t else record { comment = 0; instruction = 0; cdata = 0; declaration = 0 })
    by true q = refl
    by false q = absurd (true≢false (sym q))
