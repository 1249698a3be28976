-- The escape of a block's text isn't empty, and no byte of it is a line feed.
use Rattle.std.proofs.Common.{◌≡◌, ℕ, ◌+◌, ◌/◌, ◌%◌, ◌<◌, Bool, true, false, not, ◌==◌, ◌&&◌, ◌||◌, if◌then◌else◌, cond, nat_lt, Some, None, List, [], ◌∷◌, ◌++◌, chars, codes, encode_utf8_all, length, length-append, unwrap_or, refl, arith}
use Rattle.std.proofs.lemmas.Bool.Decides.{nat_tests}
use Rattle.std.specs.Prelude.{◌≢◌, slice_get, is_none}
use Rattle.std.specs.Char.{encode_utf8}
use Rattle.tocmark_event.specs.Options.{OptionsView}
use Rattle.tocmark_event.specs.declared.event.flags.ParserOptions.{ParserOptions}
use Rattle.tocmark_write_texts.specs.Escape.{Surroundings, spot, is_encoded, is_last, escape_after, escaped, needs_backslash, reference, with_backslash, written}
use Rattle.tocmark_write_renderer.specs.WriterOf.{HasNoFeed}
use Rattle.tocmark_laws.specs.TextBlocks.{Kind, place_in}

-- whether no byte is a line feed
abbrev is_feedless : List ℕ → Bool
is_feedless [] = true
is_feedless (b ∷ bs) = not (b == 10) && is_feedless bs

-- a text that isn't empty, without a line feed
pub record IsFilled (bs : List ℕ) : Type 0 where
  pub some : 0 < length bs
  pub feedless : is_feedless bs ≡ true

pub no_feed : (bs : List ℕ) → is_feedless bs ≡ true → HasNoFeed bs
no_feed [] h = tt
no_feed (b ∷ bs) h = by_test (b == 10) refl h (λ k. no_feed bs k)
  where
    by_test : (x : Bool) → (b == 10) ≡ x → (not x && is_feedless bs) ≡ true → (is_feedless bs ≡ true → HasNoFeed bs) → HasNoFeed (b ∷ bs)
    by_test true e h rest = absurd (cc)
    by_test false e h rest = (e, rest h)

feedless-append : (xs ys : List ℕ) → is_feedless xs ≡ true → is_feedless ys ≡ true → is_feedless (xs ++ ys) ≡ true
feedless-append [] ys h k = k
feedless-append (x ∷ xs) ys h k = by_test (x == 10) h (λ l. feedless-append xs ys l k)
  where
    by_test : (b : Bool) → (not b && is_feedless xs) ≡ true → (is_feedless xs ≡ true → is_feedless (xs ++ ys) ≡ true) → (not b && is_feedless (xs ++ ys)) ≡ true
    by_test true h rest = absurd (cc)
    by_test false h rest = rest h

filled-append : (xs ys : List ℕ) → IsFilled xs → is_feedless ys ≡ true → IsFilled (xs ++ ys)
filled-append xs ys h k = record {
  some = omega (arith, length-append xs ys, h.some);
  feedless = feedless-append xs ys h.feedless k;
}

-- the bytes of a character
encoded_filled : (c : ℕ) → (c == 10) ≡ false → IsFilled (encode_utf8 c)
unfolding encode_utf8
encoded_filled c e = by_size (nat_lt c 128) (nat_lt c 2048) (nat_lt c 65536)
  where
    high : (n : ℕ) → ((128 + n) == 10) ≡ false
    high n = grind (arith, nat_tests)

    two : (n : ℕ) → ((192 + n) == 10) ≡ false
    two n = grind (arith, nat_tests)

    three : (n : ℕ) → ((224 + n) == 10) ≡ false
    three n = grind (arith, nat_tests)

    four : (n : ℕ) → ((240 + n) == 10) ≡ false
    four n = grind (arith, nat_tests)

    by_size : (x y z : Bool) → IsFilled (cond x (c ∷ []) (cond y ((192 + c / 64) ∷ (128 + c % 64) ∷ []) (cond z ((224 + c / 4096) ∷ (128 + (c / 64) % 64) ∷ (128 + c % 64) ∷ []) ((240 + c / 262144) ∷ (128 + (c / 4096) % 64) ∷ (128 + (c / 64) % 64) ∷ (128 + c % 64) ∷ []))))
    by_size true y z = record { some = omega arith; feedless = rw e refl }
    by_size false true z = record { some = omega arith; feedless = rw (two (c / 64), high (c % 64)) refl }
    by_size false false true = record { some = omega arith; feedless = rw (three (c / 4096), high ((c / 64) % 64), high (c % 64)) refl }
    by_size false false false = record { some = omega arith; feedless = rw (four (c / 262144), high ((c / 4096) % 64), high ((c / 64) % 64), high (c % 64)) refl }

-- the bytes of characters none of which is a line feed
encoded_feedless : (cs : List ℕ) → is_feedless cs ≡ true → is_feedless (encode_utf8_all cs) ≡ true
encoded_feedless [] h = refl
encoded_feedless (c ∷ cs) h = by_test (c == 10) refl h (λ k. encoded_feedless cs k)
  where
    by_test : (x : Bool) → (c == 10) ≡ x → (not x && is_feedless cs) ≡ true → (is_feedless cs ≡ true → is_feedless (encode_utf8_all cs) ≡ true) → is_feedless (encode_utf8 c ++ encode_utf8_all cs) ≡ true
    by_test true e h rest = absurd (cc)
    by_test false e h rest = feedless-append (encode_utf8 c) (encode_utf8_all cs) (encoded_filled c e).feedless (rest h)

all_encoded : (cs : List ℕ) → IsFilled cs → IsFilled (encode_utf8_all cs)
all_encoded [] h = absurd (omega (arith, h.some))
all_encoded (c ∷ cs) h = by_test (c == 10) refl h.feedless
  where
    by_test : (x : Bool) → (c == 10) ≡ x → (not x && is_feedless cs) ≡ true → IsFilled (encode_utf8 c ++ encode_utf8_all cs)
    by_test true e h = absurd (cc)
    by_test false e h = filled-append (encode_utf8 c) (encode_utf8_all cs) (encoded_filled c e) (encoded_feedless cs h)

-- a character, as a reference, after a backslash or as it is
one_filled : (c : ℕ) (feed return ampersand blank tab back : Bool) → (c == 10) ≡ feed → IsFilled (unwrap_or (if feed then Some (codes "&#10;") else (if return then Some (codes "&#13;") else (if ampersand then Some (codes "&amp;") else (if blank then Some (codes "&#32;") else (if tab then Some (codes "&#9;") else None))))) (if back then 92 ∷ c ∷ [] else c ∷ []))
one_filled c true r a b t k e = record { some = omega arith; feedless = refl }
one_filled c false true a b t k e = record { some = omega arith; feedless = refl }
one_filled c false false true b t k e = record { some = omega arith; feedless = refl }
one_filled c false false false true t k e = record { some = omega arith; feedless = refl }
one_filled c false false false false true k e = record { some = omega arith; feedless = refl }
one_filled c false false false false false true e = record { some = omega arith; feedless = rw e refl }
one_filled c false false false false false false e = record { some = omega arith; feedless = rw e refl }

no_code : (a b c : Bool) → (((a && false) || (b && false)) && c) ≡ false
no_code true true c = refl
no_code true false c = refl
no_code false true c = refl
no_code false false c = refl

module _ (o : OptionsView) (flags : ParserOptions) (kind : Kind) where
  abbrev place : Surroundings
  place = place_in o flags kind

  written_filled : (before : List ℕ) (c : ℕ) (cs : List ℕ) → IsFilled (written place (spot before c cs))
  unfolding written reference with_backslash
  written_filled before c cs =
      let encoded : is_encoded place (spot before c cs) ≡ false = no_code (is_none (slice_get before 0)) (is_last (spot before c cs)) _ in
      rw encoded (one_filled c (c == 10) (c == 13) (c == 38) _ _ (needs_backslash place (spot before c cs)) refl)

  after_feedless : (before cs : List ℕ) → is_feedless (escape_after place before cs) ≡ true
  after_feedless before [] = refl
  after_feedless before (c ∷ cs) =
      feedless-append (written place (spot before c cs)) (escape_after place (c ∷ before) cs) (written_filled before c cs).feedless (after_feedless (c ∷ before) cs)

  escape_filled : (cs : List ℕ) → cs ≢ [] → IsFilled (escape_after place [] cs)
  escape_filled [] h = absurd (h refl)
  escape_filled (c ∷ cs) h =
      filled-append (written place (spot [] c cs)) (escape_after place (c ∷ []) cs) (written_filled [] c cs) (after_feedless (c ∷ []) cs)

  -- the escape of a text with some character
  pub escaped_filled : (text : List ℕ) → chars text ≢ [] → IsFilled (escaped place text)
  unfolding escaped
  escaped_filled text h = all_encoded (escape_after place [] (chars text)) (escape_filled (chars text) h)
