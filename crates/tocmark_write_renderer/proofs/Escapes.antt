-- What an escape is like: no line feed is in it, and it is empty where its text is.
use Rattle.std.proofs.Common.{◌≡◌, ℕ, suc, ◌<◌, ◌≤◌, Bool, true, false, List, [], ◌∷◌, ◌++◌, codes, chars, decimal, encode_utf8, encode_utf8_all, get_or, length, length-append, IsUtf8, refl, sym, ap, ◌∙◌, subst, inl, inr, arith, ne_eqb}
use Rattle.std.specs.Prelude.{◌==◌, ◌&&◌, not}
use Rattle.std.specs.Char.{char_set_contains}
use Rattle.std.specs.List.{list_all}
use Rattle.std.specs.Str.{all_scalars}
use Rattle.std.specs.Str.Parse.{AllDigits}
use Rattle.std.proofs.lemmas.Bool.{and_parts, cases_lt, not-true, true≢false}
use Rattle.std.proofs.lemmas.Fmt.{decimal_is_IsNumeral}
use Rattle.std.proofs.lemmas.Str.{chars-nil, encode_ascii, encodes-chars, length-le-encodes, scalars-chars}
use lib.Utf8.{scalar, scalar_fits}
use Rattle.tocmark_write_texts.specs.Escape.{Surroundings, is_literal, is_encoded, is_first, needs_backslash, coded, reference, with_backslash, written, spot, escape_after, escaped}
use Rattle.tocmark_write_texts.proofs.CharacterLemmas.{bytes_past_ascii}
use Rattle.tocmark_write_texts.proofs.ReadBack.{pick, pick_some}
use Rattle.tocmark_spelling.specs.Page.{Site, laid}
use Rattle.tocmark_write_renderer.specs.Changes.{on_sheet}
use Rattle.tocmark_write_renderer.specs.WriterOf.{HasNoFeed}
use Rattle.tocmark_write_renderer.proofs.Laid.{laid-nothing}

both : (a b : List ℕ) → HasNoFeed a → HasNoFeed b → HasNoFeed (a ++ b)
both [] b h k = k
both (x ∷ a) b h k = (h.0, both a b h.1 k)

abbrev is_other : ℕ → Bool
is_other c = not (c == 10)

free : (cs : List ℕ) → list_all is_other cs ≡ true → HasNoFeed cs
free [] h = tt
free (c ∷ cs) h =
    let parts = and_parts (is_other c) (list_all is_other cs) h in
    (not-true (c == 10) parts.0, free cs parts.1)

-- bytes past ASCII
past : (bs : List ℕ) → ((k : ℕ) → k < length bs → 128 ≤ get_or bs k 0) → HasNoFeed bs
past [] all = tt
past (b ∷ bs) all =
    let here : 128 ≤ b = all 0 (omega arith) in
    let tail : (k : ℕ) → k < length bs → 128 ≤ get_or bs k 0 = λ k l. all (suc k) (omega arith) in
    (ne_eqb b 10 (λ e. omega arith), past bs tail)

one : (c : ℕ) → (c == 10) ≡ false → HasNoFeed (encode_utf8 c)
one c h =
    elim (cases_lt c 128) [
      | inl low ↦ subst HasNoFeed (sym (encode_ascii c low)) (h, tt)
      | inr high ↦ past (encode_utf8 c) (bytes_past_ascii c high)
    ]

encoded : (cs : List ℕ) → HasNoFeed cs → HasNoFeed (encode_utf8_all cs)
encoded [] h = tt
encoded (c ∷ cs) h = both (encode_utf8 c) (encode_utf8_all cs) (one c h.0) (encoded cs h.1)

digits_free : (ds : List ℕ) → AllDigits 10 ds → HasNoFeed ds
digits_free [] all = tt
digits_free (d ∷ ds) all = (ne_eqb d 10 (λ e. let low = rw e at all.0 in omega arith), digits_free ds all.1)

coded_free : (c : ℕ) → scalar c ≡ true → HasNoFeed (coded c)
unfolding coded
coded_free c v =
    let small = scalar_fits c v in
    let digits = decimal_is_IsNumeral c (omega arith) in
    (refl, (refl, both (decimal c) (59 ∷ []) (digits_free (decimal c) digits.0.1) (refl, tt)))

marker_free : (c : ℕ) → char_set_contains (codes "*_~^$") c ≡ true → (c == 10) ≡ false
marker_free c h = ne_eqb c 10 (λ e. true≢false (sym h ∙ ap (char_set_contains (codes "*_~^$")) e))

-- each rule writes no line feed
written_free : (p : Surroundings) (before : List ℕ) (c : ℕ) (cs : List ℕ) → scalar c ≡ true → HasNoFeed (written p (spot before c cs))
unfolding written reference with_backslash
written_free p before c cs v =
    let s = spot before c cs in
    let P : List ℕ → Type 0 = HasNoFeed in
    pick P (is_literal p c) (c ∷ []) _ (λ h. let parts = and_parts p.literal (char_set_contains (codes "*_~^$") c) h in (marker_free c parts.1, tt))
    (λ _. pick P (is_encoded p s) (coded c) _ (λ _. coded_free c v)
    (λ _. pick_some P (c == 10) (codes "&#10;") _ _ (λ _. free (codes "&#10;") refl)
    (λ other. pick_some P (c == 13) (codes "&#13;") _ _ (λ _. free (codes "&#13;") refl)
    (λ _. pick_some P (c == 38) (codes "&amp;") _ _ (λ _. free (codes "&amp;") refl)
    (λ _. pick_some P (c == 32 && is_first s && p.at_front) (codes "&#32;") _ _ (λ _. free (codes "&#32;") refl)
    (λ _. pick_some P (c == 9 && is_first s && p.at_front) (codes "&#9;") _ _ (λ _. free (codes "&#9;") refl)
    (λ _. pick P (needs_backslash p s) (92 ∷ c ∷ []) (c ∷ []) (λ _. (refl, (other, tt))) (λ _. (other, tt)))))))))

escape_free : (p : Surroundings) (before cs : List ℕ) → all_scalars cs ≡ true → HasNoFeed (escape_after p before cs)
escape_free p before [] a = tt
escape_free p before (c ∷ cs) a =
    let parts = and_parts (scalar c) (all_scalars cs) a in
    both (written p (spot before c cs)) (escape_after p (c ∷ before) cs) (written_free p before c cs parts.0)
    (escape_free p (c ∷ before) cs parts.1)

pub escaped-free : (p : Surroundings) (text : List ℕ) → IsUtf8 text → HasNoFeed (escaped p text)
unfolding escaped
escaped-free p text u = encoded (escape_after p [] (chars text)) (escape_free p [] (chars text) (scalars-chars text u))

abbrev HasSome : List ℕ → Type 0
HasSome r = length r ≡ 0 → ⊥

some : (c : ℕ) (cs : List ℕ) → HasSome (c ∷ cs)
some c cs = λ e. omega arith

coded_some : (c : ℕ) → HasSome (coded c)
unfolding coded
coded_some c = some 38 (35 ∷ (decimal c ++ 59 ∷ []))

-- each rule writes something
written_some : (p : Surroundings) (before : List ℕ) (c : ℕ) (cs : List ℕ) → HasSome (written p (spot before c cs))
unfolding written reference with_backslash
written_some p before c cs =
    let s = spot before c cs in
    let P : List ℕ → Type 0 = HasSome in
    pick P (is_literal p c) (c ∷ []) _ (λ _. some c [])
    (λ _. pick P (is_encoded p s) (coded c) _ (λ _. coded_some c)
    (λ _. pick_some P (c == 10) (codes "&#10;") _ _ (λ _. some 38 (codes "#10;"))
    (λ _. pick_some P (c == 13) (codes "&#13;") _ _ (λ _. some 38 (codes "#13;"))
    (λ _. pick_some P (c == 38) (codes "&amp;") _ _ (λ _. some 38 (codes "amp;"))
    (λ _. pick_some P (c == 32 && is_first s && p.at_front) (codes "&#32;") _ _ (λ _. some 38 (codes "#32;"))
    (λ _. pick_some P (c == 9 && is_first s && p.at_front) (codes "&#9;") _ _ (λ _. some 38 (codes "#9;"))
    (λ _. pick P (needs_backslash p s) (92 ∷ c ∷ []) (c ∷ []) (λ _. some 92 (c ∷ [])) (λ _. some c []))))))))

front_some : (a b : List ℕ) → HasSome a → HasSome (encode_utf8_all (a ++ b))
front_some a b h = λ none.
    let long = length-le-encodes (a ++ b) in
    h (omega (arith, long, none, length-append a b))

pub escaped-some : (p : Surroundings) (text : List ℕ) → IsUtf8 text → HasSome text → HasSome (escaped p text)
unfolding escaped
escaped-some p text u has = by (chars text) (encodes-chars text u)
  where
    by : (cs : List ℕ) → encode_utf8_all cs ≡ text → HasSome (encode_utf8_all (escape_after p [] cs))
    by [] e = λ none. has (ap length (sym e))
    by (c ∷ cs) e = front_some (written p (spot [] c cs)) (escape_after p (c ∷ []) cs) (written_some p [] c cs)

escaped_none : (p : Surroundings) (text : List ℕ) → length text ≡ 0 → escaped p text ≡ []
unfolding escaped
escaped_none p [] e = ap (λ cs. encode_utf8_all (escape_after p [] cs)) chars-nil
escaped_none p (b ∷ bs) e = absurd (omega arith)

-- the escape of no text was laid
pub nothing-laid : (prefix : List ℕ) (p : Surroundings) (text : List ℕ) (here : Site) → length text ≡ 0 → here ≡ on_sheet (laid prefix (escaped p text)) here
nothing-laid prefix p text here e = laid-nothing prefix (escaped p text) here (ap length (escaped_none p text e))
