-- Whether the end of an HTML block is in it, by where the ends are in all HTML from its beginning on.
use Rattle.std.proofs.Common.{◌≡◌, ℕ, ◌<◌, Bool, true, false, cond, codes, List, [], ◌∷◌, ◌++◌, refl, sym, ap, ◌∙◌, length, arith, append_assoc, IsUtf8}
use Rattle.std.specs.Prelude.{◌||◌}
use Rattle.std.specs.Char.{is_whitespace, to_ascii_lowercase}
use Rattle.std.specs.Str.{trim_start, str_to_ascii_lowercase}
use Rattle.std.proofs.lemmas.List.{map-append, length-map}
use Rattle.tocmark_spelling.specs.Html.{is_html_closed, holds_end_tag}
use Rattle.tocmark_spelling.specs.Words.{begins_with, holds}
use Rattle.tocmark_write_blocks.specs.BlockEnds.{left_from, ends_in, stands_before, tag_stands, closed_by}
use Rattle.tocmark_write_blocks.proofs.PlaceLemmas.{holds-left}
use Rattle.tocmark_write_blocks.proofs.TrimLemmas.{white_of, trim-split, none-white, none-lower, skip-bytes}

whole-is : (body after : List ℕ) → IsUtf8 body → white_of body ++ (trim_start body ++ after) ≡ body ++ after
whole-is body after u = sym (append_assoc (white_of body) (trim_start body) after) ∙ ap (λ x. x ++ after) (sym (trim-split body u))

held : (q : ℕ) (ps body after : List ℕ) → q < 128 → is_whitespace q ≡ false → IsUtf8 body
    → stands_before (length after) (length (q ∷ ps)) (left_from (q ∷ ps) (body ++ after)) ≡ holds (trim_start body) (q ∷ ps)
held q ps body after low plain u =
    let p : List ℕ = q ∷ ps in
    ap (λ x. stands_before (length after) (length p) (left_from p x)) (sym (whole-is body after u))
    ∙ ap (stands_before (length after) (length p)) (skip-bytes q ps (white_of body) (trim_start body ++ after) (none-white q body low plain))
    ∙ sym (holds-left q ps (trim_start body) after)

abbrev lower : List ℕ → List ℕ
lower text = str_to_ascii_lowercase text

whole-lower : (body after : List ℕ) → IsUtf8 body → lower (white_of body) ++ (lower (trim_start body) ++ lower after) ≡ lower (body ++ after)
whole-lower body after u =
    ap (λ x. lower (white_of body) ++ x) (sym (map-append to_ascii_lowercase (trim_start body) after))
    ∙ sym (map-append to_ascii_lowercase (white_of body) (trim_start body ++ after))
    ∙ ap lower (whole-is body after u)

-- 60 is `<`
held-tag : (ps body after : List ℕ) → IsUtf8 body
    → stands_before (length after) (length (60 ∷ ps)) (left_from (60 ∷ ps) (lower (body ++ after))) ≡ holds (lower (trim_start body)) (60 ∷ ps)
held-tag ps body after u =
    let p : List ℕ = 60 ∷ ps in
    ap (λ x. stands_before (length after) (length p) (left_from p x)) (sym (whole-lower body after u))
    ∙ ap (stands_before (length after) (length p)) (skip-bytes 60 ps (lower (white_of body)) (lower (trim_start body) ++ lower after) (none-lower body))
    ∙ ap (λ n. stands_before n (length p) (left_from p (lower (trim_start body) ++ lower after))) (sym (length-map after to_ascii_lowercase))
    ∙ sym (holds-left 60 ps (lower (trim_start body)) (lower after))

or-false : (d : Bool) → d ≡ (d || false)
or-false true = refl
or-false false = refl

or-assoc : (a b c : Bool) → (a || b || c) ≡ (a || (b || c))
or-assoc true b c = refl
or-assoc false b c = refl

or-four : (a b c d a' b' c' d' : Bool) → a ≡ a' → b ≡ b' → c ≡ c' → d ≡ d' → (a || b || c || d) ≡ (a' || (b' || (c' || (d' || false))))
or-four a b c d a' b' c' d' p q r s =
    ap (λ x. x || b || c || d) p ∙ ap (λ x. a' || x || c || d) q ∙ ap (λ x. a' || b' || x || d) r ∙ ap (λ x. a' || b' || c' || x) s
    ∙ or-assoc (a' || b') c' d' ∙ or-assoc a' b' (c' || d') ∙ ap (λ x. a' || (b' || (c' || x))) (or-false d')

tag-held : (body after : List ℕ) → IsUtf8 body → tag_stands (length after) (ends_in (body ++ after)) ≡ holds_end_tag (trim_start body)
tag-held body after u =
    let n = length after in
    let text = lower (body ++ after) in
    let h : List ℕ = lower (trim_start body) in
    or-four (stands_before n 6 (left_from (codes "</pre>") text)) (stands_before n 9 (left_from (codes "</script>") text))
    (stands_before n 8 (left_from (codes "</style>") text)) (stands_before n 11 (left_from (codes "</textarea>") text))
    (holds h (codes "</pre>")) (holds h (codes "</script>")) (holds h (codes "</style>")) (holds h (codes "</textarea>"))
    (held-tag (codes "/pre>") body after u) (held-tag (codes "/script>") body after u)
    (held-tag (codes "/style>") body after u) (held-tag (codes "/textarea>") body after u)

five : (k l m n : Bool) (a b c d e a' b' c' d' e' : Bool) → a ≡ a' → b ≡ b' → c ≡ c' → d ≡ d' → e ≡ e'
    → cond k a (cond l b (cond m c (cond n d e))) ≡ cond k a' (cond l b' (cond m c' (cond n d' e')))
five true l m n a b c d e a' b' c' d' e' p q r s t = p
five false true m n a b c d e a' b' c' d' e' p q r s t = q
five false false true n a b c d e a' b' c' d' e' p q r s t = r
five false false false true a b c d e a' b' c' d' e' p q r s t = s
five false false false false a b c d e a' b' c' d' e' p q r s t = t

pub closed-is : (body after : List ℕ) → IsUtf8 body → closed_by (trim_start body) (length after) (ends_in (body ++ after)) ≡ is_html_closed body
closed-is body after u =
    let n = length after in
    let text = body ++ after in
    let h : List ℕ = trim_start body in
    five (begins_with h (codes "<!--")) (begins_with h (codes "<?")) (begins_with h (codes "<![CDATA[")) (begins_with h (codes "<!"))
    (stands_before n 3 (left_from (codes "-->") text)) (stands_before n 2 (left_from (codes "?>") text))
    (stands_before n 3 (left_from (codes "]]>") text)) (stands_before n 1 (left_from (codes ">") text)) (tag_stands n (ends_in text))
    (holds h (codes "-->")) (holds h (codes "?>")) (holds h (codes "]]>")) (holds h (codes ">")) (holds_end_tag h)
    (held 45 (codes "->") body after (omega arith) refl u) (held 63 (codes ">") body after (omega arith) refl u)
    (held 93 (codes "]>") body after (omega arith) refl u) (held 62 [] body after (omega arith) refl u) (tag-held body after u)
