-- A rule for characters that changes ASCII alone is one for the bytes of a text.
use Rattle.std.proofs.Common.{◌≡◌, ℕ, suc, ◌<◌, ◌≤◌, Bool, true, false, cond, codes, List, [], ◌∷◌, ◌++◌, length, get_or, encode_utf8, encode_utf8_all, append-nil, append_assoc, refl, sym, ap, ◌∙◌, inl, inr, lit<, arith, rules}
use Rattle.std.specs.Prelude.{◌==◌, ◌||◌}
use Rattle.std.specs.Str.{IsAscii}
use Rattle.std.proofs.lemmas.Bool.Decides.{nat_tests}
use Rattle.std.specs.List.{flat_map, list_any}
use Rattle.std.proofs.lemmas.Bool.{cases_lt, or_parts}
use Rattle.std.proofs.lemmas.Str.{encode_ascii, encodes-IsAscii, inside_one}
use Rattle.std.proofs.lemmas.List.Concat.{flat_map-append}
use Rattle.tocmark_write_texts.specs.Destination.{destination_character, destination_text, is_escaped_in_destination, is_escaped_in_title, title_character, title_text}
use Rattle.tocmark_write_texts.specs.Leaves.{cell_character}

-- the rule keeps characters past ASCII, and gives ASCII for ASCII
pub record IsAsciiRule (f : ℕ → List ℕ) : Type 0 where
  pub kept : (c : ℕ) → 128 ≤ c → f c ≡ c ∷ []
  pub ascii : (c : ℕ) → c < 128 → encode_utf8_all (f c) ≡ f c

kept_all : (f : ℕ → List ℕ) → IsAsciiRule f → (xs : List ℕ) → ((k : ℕ) → k < length xs → 128 ≤ get_or xs k 0) → flat_map f xs ≡ xs
kept_all f h [] all = refl
kept_all f h (x ∷ xs) all =
    let tail : (k : ℕ) → k < length xs → 128 ≤ get_or xs k 0 = λ k l. all (suc k) (omega arith) in
    rw (h.kept x (all 0 (omega arith)), kept_all f h xs tail) refl

pub bytes_past_ascii : (c : ℕ) → 128 ≤ c → (k : ℕ) → k < length (encode_utf8 c) → 128 ≤ get_or (encode_utf8 c) k 0
bytes_past_ascii c past k l =
    elim (cases_lt (get_or (encode_utf8 c) k 0) 128) [
      | inl low ↦ let same : c ≡ get_or (encode_utf8 c) k 0 = inside_one c [] (encode_utf8 c) k (sym (append-nil (encode_utf8 c))) l low in omega arith
      | inr high ↦ high
    ]

pub flat_map-encode : (f : ℕ → List ℕ) → IsAsciiRule f → (c : ℕ) → flat_map f (encode_utf8 c) ≡ encode_utf8_all (f c)
flat_map-encode f h c =
    elim (cases_lt c 128) [
      | inl low ↦ ap (flat_map f) (encode_ascii c low) ∙ append-nil (f c) ∙ sym (h.ascii c low)
      | inr high ↦ kept_all f h (encode_utf8 c) (bytes_past_ascii c high) ∙ sym (append-nil (encode_utf8 c)) ∙ sym (ap encode_utf8_all (h.kept c high))
    ]

-- one more character of a text
pub flat_map-character : (f : ℕ → List ℕ) → IsAsciiRule f → (bs rest : List ℕ) (c : ℕ) → bs ≡ encode_utf8 c ++ rest
    → flat_map f bs ≡ encode_utf8_all (f c) ++ flat_map f rest
flat_map-character f h bs rest c e =
    ap (flat_map f) e ∙ flat_map-append f (encode_utf8 c) rest ∙ ap (λ x. x ++ flat_map f rest) (flat_map-encode f h c)

either : (P : List ℕ → Type 0) (b : Bool) (x y : List ℕ) → P x → P y → P (cond b x y)
either P true x y p q = p
either P false x y p q = q

abbrev IsFixed : List ℕ → Type 0
IsFixed r = encode_utf8_all r ≡ r

one_fixed : (c : ℕ) → c < 128 → IsFixed (c ∷ [])
one_fixed c low = append-nil (encode_utf8 c) ∙ encode_ascii c low

two_fixed : (b c : ℕ) → b < 128 → c < 128 → IsFixed (b ∷ c ∷ [])
two_fixed b c small low = ap (λ x. encode_utf8 b ++ x) (one_fixed c low) ∙ ap (λ x. x ++ c ∷ []) (encode_ascii b small)

abbrev text_fixed : (r : List ℕ) → IsAscii r → IsFixed r
text_fixed r a = encodes-IsAscii r a

pub destination_rule : IsAsciiRule destination_character
destination_rule = record {
  kept = λ c past. grind (arith, nat_tests);
  ascii = λ c low.
      either IsFixed (c == 38) _ _ (text_fixed (codes "&amp;") (search rules))
      (either IsFixed (c == 10) _ _ (text_fixed (codes "&#10;") (search rules))
      (either IsFixed (c == 13) _ _ (text_fixed (codes "&#13;") (search rules))
      (either IsFixed (c == 92 || c == 60 || c == 62) _ _ (two_fixed 92 c (lit< tt) low) (one_fixed c low))));
}

pub title_rule : IsAsciiRule title_character
title_rule = record {
  kept = λ c past. grind (arith, nat_tests);
  ascii = λ c low.
      either IsFixed (c == 38) _ _ (text_fixed (codes "&amp;") (search rules))
      (either IsFixed (c == 34 || c == 92) _ _ (two_fixed 92 c (lit< tt) low) (one_fixed c low));
}

pub cell_rule : IsAsciiRule cell_character
cell_rule = record {
  kept = λ c past. grind (arith, nat_tests);
  ascii = λ c low. either IsFixed (c == 124) _ _ (two_fixed 92 124 (lit< tt) (lit< tt)) (one_fixed c low);
}

-- a turn of a loop that writes a text by the rule
pub written_more : (f : ℕ → List ℕ) → IsAsciiRule f → (bs rest old new whole : List ℕ) (c : ℕ) → bs ≡ encode_utf8 c ++ rest
    → new ≡ old ++ encode_utf8_all (f c) → old ++ flat_map f bs ≡ whole → new ++ flat_map f rest ≡ whole
written_more f h bs rest old new whole c e w s = rw (w, append_assoc) (rw (flat_map-character f h bs rest c e) at s)

pub nothing_left : (f : ℕ → List ℕ) (bs done whole : List ℕ) → length bs ≡ 0 → done ++ flat_map f bs ≡ whole → done ≡ whole
nothing_left f [] done whole e h = sym (append-nil done) ∙ h
nothing_left f (b ∷ bs) done whole e h = absurd (omega arith)

-- where each of a text's characters is one that the rule keeps, the text stays
stays_by : (f : ℕ → List ℕ) (test : ℕ → Bool) → ((c : ℕ) → test c ≡ false → f c ≡ c ∷ []) → (bs : List ℕ) → list_any test bs ≡ false → flat_map f bs ≡ bs
stays_by f test keeps [] e = refl
stays_by f test keeps (b ∷ bs) e =
    let parts = or_parts (test b) (list_any test bs) e in
    rw (keeps b parts.0, stays_by f test keeps bs parts.1) refl

pub destination-stays : (bs : List ℕ) → list_any is_escaped_in_destination bs ≡ false → destination_text bs ≡ bs
destination-stays = stays_by destination_character is_escaped_in_destination (λ c e. grind (arith, nat_tests))

pub title-stays : (bs : List ℕ) → list_any is_escaped_in_title bs ≡ false → title_text bs ≡ bs
title-stays = stays_by title_character is_escaped_in_title (λ c e. grind (arith, nat_tests))
