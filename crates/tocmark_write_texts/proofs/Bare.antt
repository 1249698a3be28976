-- A character that stands for itself is written as it is.
use Rattle.std.proofs.Common.{◌≡◌, ◌==◌, ℕ, Bool, true, false, ◌&&◌, ◌||◌, if◌then◌else◌, codes, None, List, [], ◌∷◌, refl, sym, ap, ◌∙◌}
use Rattle.std.specs.Prelude.{not, is_none, unwrap_or}
use Rattle.std.specs.Char.{char_set_contains}
use Rattle.std.specs.List.{list_all}
use Rattle.std.proofs.lemmas.Bool.{and_left, and_parts, and_right, ne_eqb, not-true, or_from, true≢false}
use Rattle.tocmark_write_texts.specs.Characters.{is_white_space}
use Rattle.tocmark_write_texts.specs.Bare.{is_bare, is_mark}
use Rattle.tocmark_write_texts.specs.Escape.{Surroundings, begins_block, has, is_alone, is_encoded, is_first, is_last, is_literal, is_marker, is_own_token, is_read_as_marker, needs_backslash, reference, with_backslash, written}
use Rattle.tocmark_write_texts.specs.declared.escape.Spot.{Spot}

-- what fails a test is nothing that passes it
pub differs : (test : ℕ → Bool) (c k : ℕ) → test c ≡ false → test k ≡ true → (c == k) ≡ false
differs test c k h n = ne_eqb c k (λ e. true≢false (sym n ∙ ap test (sym e) ∙ h))

-- nor one of several that do
pub is_none_of : (test : ℕ → Bool) (cs : List ℕ) (c : ℕ) → test c ≡ false → list_all test cs ≡ true → char_set_contains cs c ≡ false
is_none_of test [] c h all = refl
is_none_of test (k ∷ cs) c h all =
    let parts = and_parts (test k) (list_all test cs) all in
    or_from (k == c) (char_set_contains cs c)
    (ne_eqb k c (λ e. true≢false (sym parts.0 ∙ ap test e ∙ h))) (is_none_of test cs c h parts.1)

-- a test that fails
skip : {A : Type 0} (b : Bool) (x y z : A) → b ≡ false → y ≡ z → (if b then x else y) ≡ z
skip b x y z e f = ap (λ t. if t then x else y) e ∙ f

-- one that leads to the same either way
either : {A : Type 0} (b : Bool) (x y z : A) → x ≡ z → y ≡ z → (if b then x else y) ≡ z
either true x y z e f = e
either false x y z e f = f

-- no block begins after another character
no_block : (p : Surroundings) (s : Spot) → is_none s.before ≡ false → is_marker p s ≡ false
unfolding is_marker
no_block p s b =
    and_left (begins_block p s) (is_alone p s) (and_left (is_first s && p.at_front) (not p.in_table) (and_left (is_first s) p.at_front b))

no_marker : (p : Surroundings) (s : Spot) → is_mark s.character ≡ false → is_none s.before ≡ false → s.after_digits ≡ false → is_read_as_marker p s ≡ false
unfolding is_read_as_marker
no_marker p s h b d =
    let c = s.character in
    skip (char_set_contains (codes "*[]<~`") c) _ _ _ (is_none_of is_mark (codes "*[]<~`") c h refl)
    (skip (c == 92) _ _ _ (differs is_mark c 92 h refl)
    (either (c == 62) _ _ _ (and_left (is_first s) (not p.in_table) b)
    (skip (c == 94) _ _ _ (differs is_mark c 94 h refl)
    (skip (c == 36) _ _ _ (differs is_mark c 36 h refl)
    (either (c == 58) _ _ _ (and_left (is_marker p s) (has p 0x1000) (no_block p s b))
    (skip (c == 123) _ _ _ (differs is_mark c 123 h refl)
    (skip (c == 95) _ _ _ (differs is_mark c 95 h refl)
    (skip (c == 124) _ _ _ (differs is_mark c 124 h refl)
    (skip (c == 35) _ _ _ (differs is_mark c 35 h refl)
    (either (char_set_contains (codes "-+=") c) _ _ _ (no_block p s b)
    (either (char_set_contains (codes ".)") c) _ _ _ (and_right (not p.in_table) s.after_digits d)
    (skip (c == 33) _ _ _ (differs is_mark c 33 h refl) refl))))))))))))

no_backslash : (p : Surroundings) (s : Spot) → is_mark s.character ≡ false → (s.character == p.token) ≡ false → is_none s.before ≡ false → s.after_digits ≡ false
    → with_backslash p s ≡ s.character ∷ []
unfolding with_backslash needs_backslash
no_backslash p s h t b d =
    skip (is_read_as_marker p s || is_own_token p s.character) _ _ _
    (or_from (is_read_as_marker p s) (is_own_token p s.character) (no_marker p s h b d)
    (and_left (s.character == p.token) (not (char_set_contains (codes "*_") s.character)) t)) refl

no_reference : (p : Surroundings) (s : Spot) → is_mark s.character ≡ false → is_none s.before ≡ false → reference p s ≡ None
unfolding reference
no_reference p s h b =
    let c = s.character in
    skip (c == 10) _ _ _ (differs is_mark c 10 h refl)
    (skip (c == 13) _ _ _ (differs is_mark c 13 h refl)
    (skip (c == 38) _ _ _ (differs is_mark c 38 h refl)
    (skip (c == 32 && is_first s && p.at_front) _ _ _ (and_left (c == 32 && is_first s) p.at_front (and_right (c == 32) (is_first s) b))
    (skip (c == 9 && is_first s && p.at_front) _ _ _ (and_left (c == 9 && is_first s) p.at_front (and_right (c == 9) (is_first s) b)) refl))))

not_encoded : (p : Surroundings) (s : Spot) → is_none s.before ≡ false → p.last_encoded ≡ false → is_encoded p s ≡ false
not_encoded p s b l =
    and_left ((is_first s && p.first_encoded) || (is_last s && p.last_encoded)) (not (is_white_space s.character))
    (or_from (is_first s && p.first_encoded) (is_last s && p.last_encoded) (and_left (is_first s) p.first_encoded b) (and_right (is_last s) p.last_encoded l))

-- after another character, and not after digits alone
pub itself : (p : Surroundings) (s : Spot) → is_bare s.character ≡ true → is_mark p.token ≡ true → is_none s.before ≡ false → s.after_digits ≡ false → p.last_encoded ≡ false
    → written p s ≡ s.character ∷ []
unfolding written
itself p s h t b d l =
    let mark = not-true (is_mark s.character) h in
    either (is_literal p s.character) (s.character ∷ []) _ _ refl
    (skip (is_encoded p s) _ _ _ (not_encoded p s b l)
    (ap (λ r. unwrap_or r (with_backslash p s)) (no_reference p s mark b)
    ∙ no_backslash p s mark (differs is_mark s.character p.token mark t) b d))
