-- Slugs character by character.
use Rattle.std.proofs.Common.{◌≡◌, ◌∙◌, sym, ap, ℕ, Bool, List, [], ◌∷◌, ◌++◌, append-nil, append_assoc, chars, encode_utf8, encode_utf8_all, IsUtf8, length, arith}
use Rattle.std.specs.List.{flat_map}
use Rattle.std.proofs.lemmas.Str.{chars_past_char, chars-nil, encodes-append}
use Rattle.tocmark_links.specs.Slug.{joins, dash_of, dashed}

no-chars : (bs : List ℕ) → length bs ≡ 0 → chars bs ≡ []
no-chars [] e = chars-nil
no-chars (b ∷ bs) e = absurd (omega (arith, e))

-- one more character
pub more : (of : ℕ → List ℕ) (done new bs rest whole : List ℕ) (c : ℕ) → new ≡ done ++ encode_utf8_all (of c) → IsUtf8 bs → bs ≡ encode_utf8 c ++ rest → done ++ encode_utf8_all (flat_map of (chars bs)) ≡ whole → new ++ encode_utf8_all (flat_map of (chars rest)) ≡ whole
more of done new bs rest whole c p u e h =
    ap (λ x. x ++ encode_utf8_all (flat_map of (chars rest))) p
    ∙ append_assoc done (encode_utf8_all (of c)) (encode_utf8_all (flat_map of (chars rest)))
    ∙ ap (λ x. done ++ x) (sym (encodes-append (of c) (flat_map of (chars rest))))
    ∙ ap (λ cs. done ++ encode_utf8_all (flat_map of cs)) (sym (chars_past_char bs rest c u e))
    ∙ h

-- and none
pub none : (of : ℕ → List ℕ) (done bs whole : List ℕ) → length bs ≡ 0 → done ++ encode_utf8_all (flat_map of (chars bs)) ≡ whole → done ≡ whole
none of done bs whole e h =
    sym (append-nil done) ∙ ap (λ cs. done ++ encode_utf8_all (flat_map of cs)) (sym (no-chars bs e)) ∙ h

pub dash-more : (done new bs rest whole : List ℕ) (behind now : Bool) (c : ℕ) → new ≡ done ++ encode_utf8_all (dash_of behind c) → now ≡ joins c → IsUtf8 bs → bs ≡ encode_utf8 c ++ rest → done ++ encode_utf8_all (dashed behind (chars bs)) ≡ whole → new ++ encode_utf8_all (dashed now (chars rest)) ≡ whole
dash-more done new bs rest whole behind now c p q u e h =
    ap (λ x. x ++ encode_utf8_all (dashed now (chars rest))) p
    ∙ ap (λ b. (done ++ encode_utf8_all (dash_of behind c)) ++ encode_utf8_all (dashed b (chars rest))) q
    ∙ append_assoc done (encode_utf8_all (dash_of behind c)) (encode_utf8_all (dashed (joins c) (chars rest)))
    ∙ ap (λ x. done ++ x) (sym (encodes-append (dash_of behind c) (dashed (joins c) (chars rest))))
    ∙ ap (λ cs. done ++ encode_utf8_all (dashed behind cs)) (sym (chars_past_char bs rest c u e))
    ∙ h

pub dash-none : (done bs whole : List ℕ) (behind : Bool) → length bs ≡ 0 → done ++ encode_utf8_all (dashed behind (chars bs)) ≡ whole → done ≡ whole
dash-none done bs whole behind e h =
    sym (append-nil done) ∙ ap (λ cs. done ++ encode_utf8_all (dashed behind cs)) (sym (no-chars bs e)) ∙ h
