-- Where autolinks and raw HTML end: after a closing angle bracket.
use Rattle.std.proofs.Common.{◌≡◌, ℕ, zero, suc, ◌+◌, ◌^◌, ◌<◌, ◌≤◌, Bool, true, false, not, ◌==◌, ◌&&◌, nat_lt, if◌then◌else◌, List, [], ◌∷◌, ◌++◌, length, codes, refl, ap, sym, subst, ◌∙◌, arith, append_assoc, length-append, true≢false}
use Rattle.std.proofs.lemmas.Bool.Decides.{nat_tests}
use Rattle.std.specs.Char.{is_ascii_alphabetic}
use Rattle.std.specs.Prelude.{Option, Some, None}
use Rattle.tocmark_read_scan.specs.Basic.{plus, byte_at, bytes_between, starts_at}
use Rattle.tocmark_read_scan.specs.Class.{is_in, run_end}
use Rattle.tocmark_read_scan.specs.Repeat.{iterated, going_on}
use Rattle.tocmark_read_scan.specs.declared.class.Class.{Class}
use Rattle.tocmark_read_scan.specs.declared.class.Class.TheVariants as class
use Rattle.tocmark_read_scan.proofs.PlainPlaces.{byte_dropped}
use Rattle.tocmark_read_scan.proofs.PlainTests.{eq_of}
use Rattle.tocmark_read_tokens.specs.Autolink.{closed_at, is_scheme, uri_end, is_domain, domain_end, mail_end}
use Rattle.tocmark_read_tokens.specs.Html.{name_end, closing_tag_from, closing_tag, quoted_end, value, value_end, attribute, tag_close, open_tag_from, open_tag, further, last_of, last_ends, found_within, comment, declaration, raw_html}
use Rattle.tocmark_commonmark.specs.Tokens.{after_word, comment_end, declaration_end, html_end}
use Rattle.tocmark_inline_laws.proofs.Ampersands.{Here, starts_here}
use Rattle.tocmark_inline_laws.proofs.Places.{past_end}
use Rattle.tocmark_inline_laws.proofs.Plains.{drop_past}
use Rattle.tocmark_inline_laws.proofs.WordEnds.{First, first, word_within, found_is}

-- an end just after a closing angle bracket
pub record Angled (bytes : List ℕ) (p end : ℕ) : Type 0 where
  pub at : ℕ
  pub bracket : byte_at bytes at ≡ 62
  pub end_is : end ≡ plus at 1
  pub behind : p < at

some_none : {A : Type 0} (x : A) → None ≡ Some x → ⊥
some_none x e = let k : None ≡ Some x = e in cc

same_some : (x y : ℕ) → Some x ≡ Some y → y ≡ x
same_some x y e = let k : Some x ≡ Some y = e in cc

-- a run ends where it begins or later
run_up : (bytes : List ℕ) (q : ℕ) (c : Class) → q < 2 ^ 64 → q ≤ run_end bytes q c
unfolding run_end
run_up bytes q c h = omega arith

run_low : (bytes : List ℕ) (q : ℕ) (c : Class) → run_end bytes q c < 2 ^ 64
unfolding run_end
run_low bytes q c = omega arith

closed_angled : (bytes : List ℕ) (p q end : ℕ) → p < q → closed_at bytes q ≡ Some end → Angled bytes p end
unfolding closed_at
closed_angled bytes p q end h e = by (byte_at bytes q == 62) refl e
  where
    by : (z : Bool) → (byte_at bytes q == 62) ≡ z → (if z then Some (plus q 1) else None) ≡ Some end → Angled bytes p end
    by true k f = record { at = q; bracket = eq_of (byte_at bytes q) 62 k; end_is = same_some (plus q 1) end f; behind = h }
    by false k f = absurd (some_none end f)

-- 6.5: an absolute URI
pub uri_angled : (bytes : List ℕ) (p end : ℕ) → p + 2 < 2 ^ 64 → uri_end bytes p ≡ Some end → Angled bytes p end
unfolding uri_end
uri_angled bytes p end fits e = by (is_scheme bytes (plus p 1) (run_end bytes (plus p 1) class.Scheme)) e
  where
    late : p < run_end bytes (run_end bytes (plus p 1) class.Scheme) class.Address
    late =
        let a : plus p 1 ≤ run_end bytes (plus p 1) class.Scheme = run_up bytes (plus p 1) class.Scheme (omega arith) in
        let b : run_end bytes (plus p 1) class.Scheme ≤ run_end bytes (run_end bytes (plus p 1) class.Scheme) class.Address = run_up bytes (run_end bytes (plus p 1) class.Scheme) class.Address (run_low bytes (plus p 1) class.Scheme) in
        omega arith

    by : (z : Bool) → (if z then closed_at bytes (run_end bytes (run_end bytes (plus p 1) class.Scheme) class.Address) else None) ≡ Some end → Angled bytes p end
    by true k = closed_angled bytes p (run_end bytes (run_end bytes (plus p 1) class.Scheme) class.Address) end late k
    by false k = absurd (some_none end k)

-- 6.5: an email address
pub mail_angled : (bytes : List ℕ) (p end : ℕ) → p + 2 < 2 ^ 64 → length bytes + 2 < 2 ^ 64 → mail_end bytes p ≡ Some end → Angled bytes p end
unfolding mail_end domain_end
mail_angled bytes p end fits wide e = by (not (run_end bytes (plus p 1) class.Mailbox == plus p 1) && (byte_at bytes (run_end bytes (plus p 1) class.Mailbox) == 64)) e
  where
    front : plus p 1 ≤ run_end bytes (plus p 1) class.Mailbox
    front = run_up bytes (plus p 1) class.Mailbox (omega arith)

    late : p < run_end bytes (plus (run_end bytes (plus p 1) class.Mailbox) 1) class.Domain
    late =
        let b : plus (run_end bytes (plus p 1) class.Mailbox) 1 ≤ run_end bytes (plus (run_end bytes (plus p 1) class.Mailbox) 1) class.Domain = run_up bytes (plus (run_end bytes (plus p 1) class.Mailbox) 1) class.Domain (omega arith) in
        omega (arith, front)

    domain : (z : Bool) → (if z then closed_at bytes (run_end bytes (plus (run_end bytes (plus p 1) class.Mailbox) 1) class.Domain) else None) ≡ Some end → Angled bytes p end
    domain true k = closed_angled bytes p (run_end bytes (plus (run_end bytes (plus p 1) class.Mailbox) 1) class.Domain) end late k
    domain false k = absurd (some_none end k)

    by : (z : Bool) → (if z then (if is_domain (bytes_between bytes (plus (run_end bytes (plus p 1) class.Mailbox) 1) (run_end bytes (plus (run_end bytes (plus p 1) class.Mailbox) 1) class.Domain)) then closed_at bytes (run_end bytes (plus (run_end bytes (plus p 1) class.Mailbox) 1) class.Domain) else None) else None) ≡ Some end → Angled bytes p end
    by true k = domain (is_domain (bytes_between bytes (plus (run_end bytes (plus p 1) class.Mailbox) 1) (run_end bytes (plus (run_end bytes (plus p 1) class.Mailbox) 1) class.Domain))) k
    by false k = absurd (some_none end k)

-- a word that ends with a bracket
word_closed : (bytes pre : List ℕ) (p : ℕ) → starts_at bytes p (pre ++ 62 ∷ []) ≡ true → byte_at bytes (p + length pre) ≡ 62
word_closed bytes pre p h =
    let w : Here bytes p (pre ++ 62 ∷ []) = starts_here bytes p (pre ++ 62 ∷ []) h in
    byte_dropped bytes (p + length pre) 62 w.rest (drop_past bytes pre (62 ∷ w.rest) p (w.here ∙ append_assoc pre (62 ∷ []) w.rest))

-- after the first such word from a place on
after_angled : (bytes pre : List ℕ) (p from end : ℕ) → length bytes + 2 < 2 ^ 64 → p < from → from ≤ length bytes → after_word bytes (pre ++ 62 ∷ []) from ≡ Some end → Angled bytes p end
after_angled bytes pre p from end wide late l e = by (starts_at bytes place (pre ++ 62 ∷ [])) refl e
  where
    place : ℕ
    place = iterated (further bytes (pre ++ 62 ∷ [])) (length bytes) from

    f : First bytes (pre ++ 62 ∷ []) from place
    f = first bytes (pre ++ 62 ∷ []) (length bytes) from (omega arith) l (omega arith)

    by : (z : Bool) → starts_at bytes place (pre ++ 62 ∷ []) ≡ z → (if z then Some (place + length (pre ++ 62 ∷ [])) else None) ≡ Some end → Angled bytes p end
    by true h k =
        let room : place + length (pre ++ 62 ∷ []) ≤ length bytes = word_within bytes (pre ++ 62 ∷ []) place f.within h in
        let size : length (pre ++ 62 ∷ []) ≡ length pre + 1 = length-append pre (62 ∷ []) in
        let is : end ≡ place + length (pre ++ 62 ∷ []) = same_some (place + length (pre ++ 62 ∷ [])) end k in
        let begun : from ≤ place = f.begun in
        record { at = place + length pre; bracket = word_closed bytes pre place h; end_is = omega arith; behind = omega arith }
    by false h k = absurd (some_none end k)

-- a place that is no earlier
pub record Climbs (q r : ℕ) : Type 0 where
  pub up : q ≤ r
  pub low : r < 2 ^ 64

pub climbed : (q r s : ℕ) → Climbs q r → Climbs r s → Climbs q s
climbed q r s a b = record { up = (let x : q ≤ r = a.up in let y : r ≤ s = b.up in omega arith); low = b.low }

pub run_climbs : (bytes : List ℕ) (q : ℕ) (c : Class) → q < 2 ^ 64 → Climbs q (run_end bytes q c)
run_climbs bytes q c h = record { up = run_up bytes q c h; low = run_low bytes q c }

pub one_climbs : (q : ℕ) → q < 2 ^ 64 → Climbs q (plus q 1)
one_climbs q h = record { up = omega arith; low = omega arith }

some_climbs : (q x r : ℕ) → Climbs q x → Some x ≡ Some r → Climbs q r
some_climbs q x r c e = subst (λ n. Climbs q n) (sym (same_some x r e)) c

quoted_climbs : (bytes : List ℕ) (q quote r : ℕ) → q < 2 ^ 64 → quoted_end bytes q quote ≡ Some r → Climbs q r
unfolding quoted_end
quoted_climbs bytes q quote r h e = by (byte_at bytes (run_end bytes (plus q 1) (class.Except quote)) == quote) e
  where
    there : Climbs q (run_end bytes (plus q 1) (class.Except quote))
    there = climbed q (plus q 1) (run_end bytes (plus q 1) (class.Except quote)) (one_climbs q h) (run_climbs bytes (plus q 1) (class.Except quote) (omega arith))

    by : (z : Bool) → (if z then Some (plus (run_end bytes (plus q 1) (class.Except quote)) 1) else None) ≡ Some r → Climbs q r
    by true k = some_climbs q (plus (run_end bytes (plus q 1) (class.Except quote)) 1) r (climbed q (run_end bytes (plus q 1) (class.Except quote)) (plus (run_end bytes (plus q 1) (class.Except quote)) 1) there (one_climbs (run_end bytes (plus q 1) (class.Except quote)) there.low)) k
    by false k = absurd (some_none r k)

value_climbs : (bytes : List ℕ) (q r : ℕ) → q < 2 ^ 64 → value bytes q ≡ Some r → Climbs q r
unfolding value
value_climbs bytes q r h e = by (byte_at bytes q == 34) (byte_at bytes q == 39) (run_end bytes q class.Unquoted == q) e
  where
    by : (x y z : Bool) → (if x then quoted_end bytes q 34 else (if y then quoted_end bytes q 39 else (if z then None else Some (run_end bytes q class.Unquoted)))) ≡ Some r → Climbs q r
    by true y z k = quoted_climbs bytes q 34 r h k
    by false true z k = quoted_climbs bytes q 39 r h k
    by false false true k = absurd (some_none r k)
    by false false false k = some_climbs q (run_end bytes q class.Unquoted) r (run_climbs bytes q class.Unquoted h) k

value_end_climbs : (bytes : List ℕ) (q r : ℕ) → q < 2 ^ 64 → value_end bytes q ≡ Some r → Climbs q r
unfolding value_end
value_end_climbs bytes q r h e = by (byte_at bytes (run_end bytes q class.White) == 61) e
  where
    first_run : Climbs q (run_end bytes q class.White)
    first_run = run_climbs bytes q class.White h

    sign : Climbs (run_end bytes q class.White) (plus (run_end bytes q class.White) 1)
    sign = one_climbs (run_end bytes q class.White) first_run.low

    second_run : Climbs (plus (run_end bytes q class.White) 1) (run_end bytes (plus (run_end bytes q class.White) 1) class.White)
    second_run = run_climbs bytes (plus (run_end bytes q class.White) 1) class.White sign.low

    by : (z : Bool) → (if z then value bytes (run_end bytes (plus (run_end bytes q class.White) 1) class.White) else Some q) ≡ Some r → Climbs q r
    by true k = climbed q (run_end bytes q class.White) r first_run (climbed (run_end bytes q class.White) (plus (run_end bytes q class.White) 1) r sign (climbed (plus (run_end bytes q class.White) 1) (run_end bytes (plus (run_end bytes q class.White) 1) class.White) r second_run (value_climbs bytes (run_end bytes (plus (run_end bytes q class.White) 1) class.White) r second_run.low k)))
    by false k = some_climbs q q r (record { up = omega arith; low = h }) k

attribute_climbs : (bytes : List ℕ) (q r : ℕ) → q < 2 ^ 64 → attribute bytes q ≡ Some r → Climbs q r
unfolding attribute
attribute_climbs bytes q r h e = by (not (run_end bytes q class.White == q) && is_in class.AttributeStart (byte_at bytes (run_end bytes q class.White))) e
  where
    white : Climbs q (run_end bytes q class.White)
    white = run_climbs bytes q class.White h

    named : Climbs (run_end bytes q class.White) (run_end bytes (run_end bytes q class.White) class.AttributeName)
    named = run_climbs bytes (run_end bytes q class.White) class.AttributeName white.low

    by : (z : Bool) → (if z then value_end bytes (run_end bytes (run_end bytes q class.White) class.AttributeName) else None) ≡ Some r → Climbs q r
    by true k = climbed q (run_end bytes q class.White) r white (climbed (run_end bytes q class.White) (run_end bytes (run_end bytes q class.White) class.AttributeName) r named (value_end_climbs bytes (run_end bytes (run_end bytes q class.White) class.AttributeName) r named.low k))
    by false k = absurd (some_none r k)

attributes_climb : (bytes : List ℕ) (fuel q : ℕ) → q < 2 ^ 64 → Climbs q (iterated (attribute bytes) fuel q)
unfolding iterated
attributes_climb bytes zero q h = record { up = omega arith; low = h }
attributes_climb bytes (suc fuel) q h = by (attributes_climb bytes fuel) (attribute bytes q) refl
  where
    by : ((r : ℕ) → r < 2 ^ 64 → Climbs r (iterated (attribute bytes) fuel r)) → (o : Option ℕ) → attribute bytes q ≡ o → Climbs q (going_on (λ d. iterated (attribute bytes) fuel d) q o)
    by later None e = record { up = omega arith; low = h }
    by later (Some r) e =
        let c : Climbs q r = attribute_climbs bytes q r h e in
        climbed q r (iterated (attribute bytes) fuel r) c (later r c.low)

named_climbs : (bytes : List ℕ) (q name : ℕ) → q < 2 ^ 64 → name_end bytes q ≡ Some name → Climbs q name
unfolding name_end
named_climbs bytes q name h e = by (is_ascii_alphabetic (byte_at bytes q)) e
  where
    by : (z : Bool) → (if z then Some (run_end bytes q class.TagName) else None) ≡ Some name → Climbs q name
    by true k = some_climbs q (run_end bytes q class.TagName) name (run_climbs bytes q class.TagName h) k
    by false k = absurd (some_none name k)

closing_angled : (bytes : List ℕ) (p end : ℕ) → p + 3 < 2 ^ 64 → closing_tag bytes p ≡ Some end → Angled bytes p end
unfolding closing_tag
closing_angled bytes p end fits e = by (name_end bytes (plus p 2)) refl e
  where
    by : (o : Option ℕ) → name_end bytes (plus p 2) ≡ o → closing_tag_from bytes o ≡ Some end → Angled bytes p end
    by None h k = absurd (some_none end k)
    by (Some name) h k = of (byte_at bytes (run_end bytes name class.White) == 62) refl k
      where
        c : Climbs (plus p 2) name
        c = named_climbs bytes (plus p 2) name (omega arith) h

        w : Climbs name (run_end bytes name class.White)
        w = run_climbs bytes name class.White c.low

        of : (z : Bool) → (byte_at bytes (run_end bytes name class.White) == 62) ≡ z → (if z then Some (plus (run_end bytes name class.White) 1) else None) ≡ Some end → Angled bytes p end
        of true x y = record { at = run_end bytes name class.White; bracket = eq_of (byte_at bytes (run_end bytes name class.White)) 62 x; end_is = same_some (plus (run_end bytes name class.White) 1) end y; behind = (let u : plus p 2 ≤ name = c.up in let v : name ≤ run_end bytes name class.White = w.up in omega arith) }
        of false x y = absurd (some_none end y)

open_angled : (bytes : List ℕ) (p end : ℕ) → p + 3 < 2 ^ 64 → open_tag bytes p ≡ Some end → Angled bytes p end
unfolding open_tag tag_close
open_angled bytes p end fits e = by (name_end bytes (plus p 1)) refl e
  where
    by : (o : Option ℕ) → name_end bytes (plus p 1) ≡ o → open_tag_from bytes o ≡ Some end → Angled bytes p end
    by None h k = absurd (some_none end k)
    by (Some name) h k = of (byte_at bytes last == 62) (starts_at bytes last (codes "/>")) refl refl k
      where
        last : ℕ
        last = run_end bytes (iterated (attribute bytes) (length bytes) name) class.White

        c : Climbs (plus p 1) name
        c = named_climbs bytes (plus p 1) name (omega arith) h

        d : Climbs name (iterated (attribute bytes) (length bytes) name)
        d = attributes_climb bytes (length bytes) name c.low

        w : Climbs (iterated (attribute bytes) (length bytes) name) (run_end bytes (iterated (attribute bytes) (length bytes) name) class.White)
        w = run_climbs bytes (iterated (attribute bytes) (length bytes) name) class.White d.low

        late : p < last
        late = let x : plus p 1 ≤ name = c.up in let y : name ≤ iterated (attribute bytes) (length bytes) name = d.up in let z : iterated (attribute bytes) (length bytes) name ≤ run_end bytes (iterated (attribute bytes) (length bytes) name) class.White = w.up in omega arith

        of : (x y : Bool) → (byte_at bytes last == 62) ≡ x → starts_at bytes last (codes "/>") ≡ y → (if x then Some (plus last 1) else (if y then Some (plus last 2) else None)) ≡ Some end → Angled bytes p end
        of true y f g k2 = record { at = last; bracket = eq_of (byte_at bytes last) 62 f; end_is = same_some (plus last 1) end k2; behind = late }
        of false true f g k2 = record { at = last + 1; bracket = word_closed bytes (47 ∷ []) last g; end_is = (let i : end ≡ plus last 2 = same_some (plus last 2) end k2 in omega arith); behind = omega (arith, late) }
        of false false f g k2 = absurd (some_none end k2)

-- 6.6: raw HTML
pub html_angled : (bytes : List ℕ) (p end : ℕ) → p < length bytes → length bytes + 2 < 2 ^ 64 → html_end bytes p ≡ Some end → Angled bytes p end
html_angled bytes p end inner wide e = by (starts_at bytes p (codes "</")) (starts_at bytes p (codes "<?")) (starts_at bytes p (codes "<!--")) (starts_at bytes p (codes "<![CDATA[")) (starts_at bytes p (codes "<!")) refl refl refl refl e
  where
    comments : (x y : Bool) → starts_at bytes p (codes "<!--") ≡ true → starts_at bytes p (codes "<!-->") ≡ x → starts_at bytes p (codes "<!--->") ≡ y → (if x then Some (p + 5) else (if y then Some (p + 6) else after_word bytes (codes "-->") (p + 4))) ≡ Some end → Angled bytes p end
    comments true y h f g k =
        let room : p + 5 ≤ length bytes = word_within bytes (codes "<!-->") p (omega arith) f in
        let i : end ≡ p + 5 = same_some (p + 5) end k in
        record { at = p + 4; bracket = word_closed bytes (codes "<!--") p f; end_is = omega arith; behind = omega arith }
    comments false true h f g k =
        let room : p + 6 ≤ length bytes = word_within bytes (codes "<!--->") p (omega arith) g in
        let i : end ≡ p + 6 = same_some (p + 6) end k in
        record { at = p + 5; bracket = word_closed bytes (codes "<!---") p g; end_is = omega arith; behind = omega arith }
    comments false false h f g k = after_angled bytes (codes "--") p (p + 4) end (omega arith) (omega arith) (word_within bytes (codes "<!--") p (omega arith) h) k

    letter : (z : Bool) → is_ascii_alphabetic (byte_at bytes (p + 2)) ≡ z → (if z then after_word bytes (codes ">") (p + 3) else None) ≡ Some end → Angled bytes p end
    letter true h k = after_angled bytes [] p (p + 3) end (omega arith) (omega arith) (there (nat_lt (p + 2) (length bytes)) refl) k
      where
        there : (z : Bool) → nat_lt (p + 2) (length bytes) ≡ z → p + 3 ≤ length bytes
        there true x = let y : p + 2 < length bytes = grind (arith, nat_tests, x) in omega arith
        there false x = absurd (true≢false (sym h ∙ ap (λ c. is_ascii_alphabetic c) (past_end bytes (p + 2) (let y : length bytes ≤ p + 2 = grind (arith, nat_tests, x) in y))))
    letter false h k = absurd (some_none end k)

    by : (a b c d f : Bool) → starts_at bytes p (codes "</") ≡ a → starts_at bytes p (codes "<?") ≡ b → starts_at bytes p (codes "<!--") ≡ c → starts_at bytes p (codes "<![CDATA[") ≡ d → (if a then closing_tag bytes p else (if b then after_word bytes (codes "?>") (p + 2) else (if c then comment_end bytes p else (if d then after_word bytes (codes "]]>") (p + 9) else (if f then declaration_end bytes p else open_tag bytes p))))) ≡ Some end → Angled bytes p end
    by true b c d f ea eb ec ed k = closing_angled bytes p end (omega arith) k
    by false true c d f ea eb ec ed k = after_angled bytes (63 ∷ []) p (p + 2) end (omega arith) (omega arith) (word_within bytes (codes "<?") p (omega arith) eb) k
    by false false true d f ea eb ec ed k = comments (starts_at bytes p (codes "<!-->")) (starts_at bytes p (codes "<!--->")) ec refl refl k
    by false false false true f ea eb ec ed k = after_angled bytes (codes "]]") p (p + 9) end (omega arith) (omega arith) (word_within bytes (codes "<![CDATA[") p (omega arith) ed) k
    by false false false false true ea eb ec ed k = letter (is_ascii_alphabetic (byte_at bytes (p + 2))) refl k
    by false false false false false ea eb ec ed k = open_angled bytes p end (omega arith) k

-- what the reader knows of the last ends changes nothing
pub raw_so : (bytes : List ℕ) (p : ℕ) → p < length bytes → length bytes + 2 < 2 ^ 64 → raw_html bytes p (last_ends bytes) ≡ html_end bytes p
unfolding raw_html last_ends comment declaration
raw_so bytes p inner wide = by (starts_at bytes p (codes "</")) (starts_at bytes p (codes "<?")) (starts_at bytes p (codes "<!--")) (starts_at bytes p (codes "<![CDATA[")) (starts_at bytes p (codes "<!")) refl refl refl refl
  where
    found : (word : List ℕ) (k : ℕ) → 0 < length word → p + k ≤ length bytes → found_within bytes (plus p k) word (last_of bytes word) ≡ after_word bytes word (p + k)
    found word k some room = ap (λ q. found_within bytes q word (last_of bytes word)) (let e : plus p k ≡ p + k = omega arith in e) ∙ found_is bytes word (p + k) (omega arith) room some

    comments : (x y : Bool) → starts_at bytes p (codes "<!--") ≡ true → starts_at bytes p (codes "<!-->") ≡ x → starts_at bytes p (codes "<!--->") ≡ y → (if x then Some (plus p 5) else (if y then Some (plus p 6) else found_within bytes (plus p 4) (codes "-->") (last_of bytes (codes "-->")))) ≡ (if x then Some (p + 5) else (if y then Some (p + 6) else after_word bytes (codes "-->") (p + 4)))
    comments true y h f g = ap (λ n. Some n) (let room : p + 5 ≤ length bytes = word_within bytes (codes "<!-->") p (omega arith) f in let e : plus p 5 ≡ p + 5 = omega arith in e)
    comments false true h f g = ap (λ n. Some n) (let room : p + 6 ≤ length bytes = word_within bytes (codes "<!--->") p (omega arith) g in let e : plus p 6 ≡ p + 6 = omega arith in e)
    comments false false h f g = found (codes "-->") 4 (omega arith) (word_within bytes (codes "<!--") p (omega arith) h)

    two : starts_at bytes p (codes "<!") ≡ true → plus p 2 ≡ p + 2
    two h = let room : p + 2 ≤ length bytes = word_within bytes (codes "<!") p (omega arith) h in let e : plus p 2 ≡ p + 2 = omega arith in e

    letter : (z : Bool) → is_ascii_alphabetic (byte_at bytes (p + 2)) ≡ z → (if z then found_within bytes (plus p 3) (codes ">") (last_of bytes (codes ">")) else None) ≡ (if z then after_word bytes (codes ">") (p + 3) else None)
    letter true h = found (codes ">") 3 (omega arith) (there (nat_lt (p + 2) (length bytes)) refl)
      where
        there : (z : Bool) → nat_lt (p + 2) (length bytes) ≡ z → p + 3 ≤ length bytes
        there true x = let y : p + 2 < length bytes = grind (arith, nat_tests, x) in omega arith
        there false x = absurd (true≢false (sym h ∙ ap (λ c. is_ascii_alphabetic c) (past_end bytes (p + 2) (let y : length bytes ≤ p + 2 = grind (arith, nat_tests, x) in y))))
    letter false h = refl

    by : (a b c d f : Bool) → starts_at bytes p (codes "<?") ≡ b → starts_at bytes p (codes "<!--") ≡ c → starts_at bytes p (codes "<![CDATA[") ≡ d → starts_at bytes p (codes "<!") ≡ f → (if a then closing_tag bytes p else (if b then found_within bytes (plus p 2) (codes "?>") (last_of bytes (codes "?>")) else (if c then comment bytes p (last_of bytes (codes "-->")) else (if d then found_within bytes (plus p 9) (codes "]]>") (last_of bytes (codes "]]>")) else (if f then declaration bytes p (last_of bytes (codes ">")) else open_tag bytes p))))) ≡ (if a then closing_tag bytes p else (if b then after_word bytes (codes "?>") (p + 2) else (if c then comment_end bytes p else (if d then after_word bytes (codes "]]>") (p + 9) else (if f then declaration_end bytes p else open_tag bytes p)))))
    by true b c d f eb ec ed ef = refl
    by false true c d f eb ec ed ef = found (codes "?>") 2 (omega arith) (word_within bytes (codes "<?") p (omega arith) eb)
    by false false true d f eb ec ed ef = comments (starts_at bytes p (codes "<!-->")) (starts_at bytes p (codes "<!--->")) ec refl refl
    by false false false true f eb ec ed ef = found (codes "]]>") 9 (omega arith) (word_within bytes (codes "<![CDATA[") p (omega arith) ed)
    by false false false false true eb ec ed ef = ap (λ q. if is_ascii_alphabetic (byte_at bytes q) then found_within bytes (plus p 3) (codes ">") (last_of bytes (codes ">")) else None) (two ef) ∙ letter (is_ascii_alphabetic (byte_at bytes (p + 2))) refl
    by false false false false false eb ec ed ef = refl
