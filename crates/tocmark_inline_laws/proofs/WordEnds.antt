-- Words in a content: the first one from a place on, and the last one.
use Rattle.std.proofs.Common.{◌≡◌, ℕ, zero, suc, ◌+◌, ◌-◌, ◌^◌, ◌<◌, ◌≤◌, Bool, true, false, not, ◌&&◌, nat_lt, if◌then◌else◌, List, length, refl, ap, sym, subst, ◌∙◌, arith, true≢false}
use Rattle.std.proofs.lemmas.Bool.Decides.{nat_tests}
use Rattle.std.specs.Prelude.{Some, None}
use Rattle.tocmark_read_scan.specs.Basic.{plus, starts_at}
use Rattle.tocmark_read_scan.specs.Repeat.{iterated, going_on}
use Rattle.tocmark_read_tokens.specs.Html.{further, nearer, last_of, found_within}
use Rattle.tocmark_commonmark.specs.Tokens.{after_word}
use Rattle.tocmark_inline_laws.proofs.Ampersands.{Here, starts_here}
use Rattle.tocmark_inline_laws.proofs.Plains.{past_within}

-- where the search for a word from a place on ends
pub record First (bytes word : List ℕ) (from end : ℕ) : Type 0 where
  pub begun : from ≤ end
  pub within : end ≤ length bytes
  pub none : (q : ℕ) → from ≤ q → q < end → starts_at bytes q word ≡ false
  pub here : end < length bytes → starts_at bytes end word ≡ true

pub first : (bytes word : List ℕ) (fuel from : ℕ) → length bytes + 1 < 2 ^ 64 → from ≤ length bytes → length bytes ≤ from + fuel → First bytes word from (iterated (further bytes word) fuel from)
unfolding iterated further
first bytes word zero from fits l m = record { begun = omega arith; within = l; none = λ q a b. absurd (omega (arith, a, b)); here = λ b. absurd (omega (arith, b)) }
first bytes word (suc fuel) from fits l m = by (first bytes word fuel) (nat_lt from (length bytes)) (starts_at bytes from word) refl refl
  where
    Later : Type 0
    Later = (q : ℕ) → length bytes + 1 < 2 ^ 64 → q ≤ length bytes → length bytes ≤ q + fuel → First bytes word q (iterated (further bytes word) fuel q)

    by : Later → (x y : Bool) → nat_lt from (length bytes) ≡ x → starts_at bytes from word ≡ y → First bytes word from (going_on (λ d. iterated (further bytes word) fuel d) from (if x && not y then Some (plus from 1) else None))
    by later false y e f = record { begun = omega arith; within = l; none = λ q a b. absurd (omega (arith, a, b)); here = λ b. absurd (let k : length bytes ≤ from = grind (arith, nat_tests, e) in omega (arith, b)) }
    by later true true e f = record { begun = omega arith; within = l; none = λ q a b. absurd (omega (arith, a, b)); here = λ b. f }
    by later true false e f = subst (λ n. First bytes word from (iterated (further bytes word) fuel n)) (sym one) (more (later (suc from) fits inner (omega arith)))
      where
        inner : from < length bytes
        inner = grind (arith, nat_tests, e)

        one : plus from 1 ≡ suc from
        one = omega (arith, inner)

        more : First bytes word (suc from) (iterated (further bytes word) fuel (suc from)) → First bytes word from (iterated (further bytes word) fuel (suc from))
        more n = record {
          begun = (let b : suc from ≤ iterated (further bytes word) fuel (suc from) = n.begun in omega arith);
          within = n.within;
          none = λ q a b. one_of q (nat_lt from q) refl a b;
          here = n.here;
        }
          where
            one_of : (q : ℕ) (z : Bool) → nat_lt from q ≡ z → from ≤ q → q < iterated (further bytes word) fuel (suc from) → starts_at bytes q word ≡ false
            one_of q true g a b = n.none q (grind (arith, nat_tests, g)) b
            one_of q false g a b = ap (λ r. starts_at bytes r word) (let k : q ≤ from = grind (arith, nat_tests, g) in let same : q ≡ from = omega arith in same) ∙ f

-- where the search for the last word ends
record Last (bytes word : List ℕ) (from end : ℕ) : Type 0 where
  before : end ≤ from
  none : (q : ℕ) → end < q → q ≤ from → starts_at bytes q word ≡ false
  here : 0 < end → starts_at bytes end word ≡ true

last : (bytes word : List ℕ) (fuel from : ℕ) → from ≤ fuel → Last bytes word from (iterated (nearer bytes word) fuel from)
unfolding iterated nearer
last bytes word zero from m = record { before = omega arith; none = λ q a b. absurd (omega (arith, a, b)); here = λ b. absurd (omega (arith, b)) }
last bytes word (suc fuel) from m = by (last bytes word fuel) (nat_lt 0 from) (starts_at bytes from word) refl refl
  where
    Later : Type 0
    Later = (q : ℕ) → q ≤ fuel → Last bytes word q (iterated (nearer bytes word) fuel q)

    by : Later → (x y : Bool) → nat_lt 0 from ≡ x → starts_at bytes from word ≡ y → Last bytes word from (going_on (λ d. iterated (nearer bytes word) fuel d) from (if x && not y then Some (from - 1) else None))
    by later false y e f = record { before = omega arith; none = λ q a b. absurd (omega (arith, a, b)); here = λ b. absurd (let k : from ≤ 0 = grind (arith, nat_tests, e) in omega (arith, b)) }
    by later true true e f = record { before = omega arith; none = λ q a b. absurd (omega (arith, a, b)); here = λ b. f }
    by later true false e f = more (later (from - 1) (omega arith))
      where
        some : 0 < from
        some = grind (arith, nat_tests, e)

        more : Last bytes word (from - 1) (iterated (nearer bytes word) fuel (from - 1)) → Last bytes word from (iterated (nearer bytes word) fuel (from - 1))
        more n = record {
          before = (let b : iterated (nearer bytes word) fuel (from - 1) ≤ from - 1 = n.before in omega arith);
          none = λ q a b. one_of q (nat_lt q from) refl a b;
          here = n.here;
        }
          where
            one_of : (q : ℕ) (z : Bool) → nat_lt q from ≡ z → iterated (nearer bytes word) fuel (from - 1) < q → q ≤ from → starts_at bytes q word ≡ false
            one_of q true g a b = n.none q a (let k : q < from = grind (arith, nat_tests, g) in omega arith)
            one_of q false g a b = ap (λ r. starts_at bytes r word) (let k : from ≤ q = grind (arith, nat_tests, g) in let same : q ≡ from = omega arith in same) ∙ f

-- a word that is here ends within the content
pub word_within : (bytes word : List ℕ) (p : ℕ) → p ≤ length bytes → starts_at bytes p word ≡ true → p + length word ≤ length bytes
word_within bytes word p l h =
    let w : Here bytes p word = starts_here bytes p word h in
    let m : p + length word + length w.rest ≡ length bytes = past_within bytes word w.rest p l w.here in
    omega arith

-- the first word from a place on, if the last one begins there or later
pub found_is : (bytes word : List ℕ) (from : ℕ) → length bytes + 1 < 2 ^ 64 → from ≤ length bytes → 0 < length word → found_within bytes from word (last_of bytes word) ≡ after_word bytes word from
unfolding found_within last_of
found_is bytes word from fits l some = by (starts_at bytes end word) refl
  where
    end : ℕ
    end = iterated (further bytes word) (length bytes) from

    far : ℕ
    far = iterated (nearer bytes word) (length bytes) (length bytes)

    f : First bytes word from (iterated (further bytes word) (length bytes) from)
    f = first bytes word (length bytes) from fits l (omega arith)

    g : Last bytes word (length bytes) (iterated (nearer bytes word) (length bytes) (length bytes))
    g = last bytes word (length bytes) (length bytes) (omega arith)

    least : (if starts_at bytes far word then plus far 1 else 0) ≤ plus far 1
    least = one_of (starts_at bytes far word)
      where
        one_of : (z : Bool) → (if z then plus far 1 else 0) ≤ plus far 1
        one_of true = omega arith
        one_of false = omega arith

    by : (z : Bool) → starts_at bytes end word ≡ z → (if nat_lt from (if starts_at bytes far word then plus far 1 else 0) then Some (plus end (length word)) else None) ≡ (if z then Some (end + length word) else None)
    by true h =
        ap (λ (z : Bool). if nat_lt from (if z then plus far 1 else 0) then Some (plus end (length word)) else None) there
        ∙ ap (λ (z : Bool). if z then Some (plus end (length word)) else None) sooner
        ∙ ap (λ n. Some n) (let k : end + length word ≤ length bytes = word_within bytes word end f.within h in let e : plus end (length word) ≡ end + length word = omega arith in e)
      where
        later : end ≤ far
        later = one_of (nat_lt far end) refl
          where
            one_of : (z : Bool) → nat_lt far end ≡ z → end ≤ far
            one_of true e = absurd (true≢false (sym h ∙ g.none end (grind (arith, nat_tests, e)) f.within))
            one_of false e = grind (arith, nat_tests, e)

        there : starts_at bytes far word ≡ true
        there = one_of (nat_lt 0 far) refl
          where
            one_of : (z : Bool) → nat_lt 0 far ≡ z → starts_at bytes far word ≡ true
            one_of true e = g.here (grind (arith, nat_tests, e))
            one_of false e = ap (λ n. starts_at bytes n word) (let k : far ≤ 0 = grind (arith, nat_tests, e) in let same : far ≡ end = omega (arith, later) in same) ∙ h

        sooner : nat_lt from (plus far 1) ≡ true
        sooner =
            let b : from ≤ end = f.begun in
            let c : far ≤ length bytes = g.before in
            let d : from < plus far 1 = omega (arith, later) in
            grind (arith, nat_tests)
    by false h = ap (λ (z : Bool). if z then Some (plus end (length word)) else None) later
      where
        at_end : end ≡ length bytes
        at_end = one_of (nat_lt end (length bytes)) refl
          where
            one_of : (z : Bool) → nat_lt end (length bytes) ≡ z → end ≡ length bytes
            one_of true e = absurd (true≢false (sym (f.here (grind (arith, nat_tests, e))) ∙ h))
            one_of false e = let k : length bytes ≤ end = grind (arith, nat_tests, e) in let w : end ≤ length bytes = f.within in omega arith

        nowhere : (q : ℕ) → from ≤ q → q ≤ length bytes → starts_at bytes q word ≡ false
        nowhere q a b = one_of (nat_lt q end) refl
          where
            one_of : (z : Bool) → nat_lt q end ≡ z → starts_at bytes q word ≡ false
            one_of true e = f.none q a (grind (arith, nat_tests, e))
            one_of false e = ap (λ n. starts_at bytes n word) (let k : end ≤ q = grind (arith, nat_tests, e) in let same : q ≡ end = omega (arith, at_end) in same) ∙ h

        later : nat_lt from (if starts_at bytes far word then plus far 1 else 0) ≡ false
        later = one_of (starts_at bytes far word) refl
          where
            one_of : (z : Bool) → starts_at bytes far word ≡ z → nat_lt from (if z then plus far 1 else 0) ≡ false
            one_of false e = (let k : nat_lt from 0 ≡ false = grind (arith, nat_tests) in k)
            one_of true e = near (nat_lt from (plus far 1)) refl
              where
                near : (z : Bool) → nat_lt from (plus far 1) ≡ z → z ≡ false
                near false x = refl
                near true x =
                    let k : from < plus far 1 = grind (arith, nat_tests, x) in
                    let c : far ≤ length bytes = g.before in
                    absurd (true≢false (sym e ∙ nowhere far (omega arith) c))
