-- A line ends an HTML block with spaces in front as without them.
use Rattle.std.proofs.Common.{◌≡◌, ℕ, zero, suc, ◌+◌, ◌-◌, ◌^◌, ◌<◌, ◌≤◌, Bool, true, false, ◌==◌, ◌&&◌, ◌||◌, if◌then◌else◌, nat_le, List, [], ◌∷◌, length, take, drop, refl, ap, sym, ◌∙◌, arith}
use Rattle.std.specs.Prelude.{codes}
use Rattle.std.proofs.lemmas.Bool.Decides.{nat_tests}
use Rattle.tocmark_read_scan.specs.Basic.{plus, bytes_between}
use Rattle.tocmark_read_scan.proofs.PlainTests.{eq_of}
use Rattle.tocmark_read_lines.specs.Html.{same_word, holds_from, holds, holds_raw_end, html_ends}
use Rattle.tocmark_read_lines.specs.declared.html.HtmlKind.{HtmlKind}
use Rattle.tocmark_read_lines.specs.declared.html.HtmlKind.TheVariants as html
use Rattle.tocmark_block_laws.specs.Quotes.{IsPlain}
use Rattle.tocmark_block_laws.proofs.TextLines.{Plain, plain_head}
use Rattle.tocmark_block_laws.proofs.Fronts.{spaces_of, spaces_next, spaces_none}
use Rattle.tocmark_block_laws.proofs.Columns.{between_later}

-- a word that begins with no space
record Inked (w : List ℕ) : Type 0 where
  pub empty : same_word [] w ≡ false
  pub after_space : (zs : List ℕ) → same_word (32 ∷ zs) w ≡ false

between_past : (xs : List ℕ) (from to : ℕ) → nat_le to (length xs) ≡ false → bytes_between xs from to ≡ []
between_past xs from to h = by (nat_le from to)
  where
    by : (k : Bool) → (if k && nat_le to (length xs) then take (to - from) (drop from xs) else []) ≡ []
    by true = ap (λ t. if t then take (to - from) (drop from xs) else []) h
    by false = refl

-- a space
abbrev space : List ℕ
space = 32 ∷ []

-- where the word is looked for, one byte further
further : (ys : List ℕ) (p m : ℕ) → length ys + 4 < 2 ^ 64 → bytes_between (32 ∷ ys) (p + 1) (plus (p + 1) m) ≡ bytes_between ys p (plus p m)
further ys p m fits = by (nat_le (p + m) (length ys)) refl
  where
    by : (k : Bool) → nat_le (p + m) (length ys) ≡ k → bytes_between (32 ∷ ys) (p + 1) (plus (p + 1) m) ≡ bytes_between ys p (plus p m)
    by true e =
        let low : p + m ≤ length ys = grind (arith, e, nat_tests) in
        let one : p + 1 ≡ length space + p = omega arith in
        let two : plus (p + 1) m ≡ length space + plus p m = omega (arith, low, fits) in
        ap (λ k. bytes_between (32 ∷ ys) k (plus (p + 1) m)) one ∙ ap (bytes_between (32 ∷ ys) (length space + p)) two ∙ between_later space ys p (plus p m)
    by false e =
        let high : length ys < p + m = grind (arith, e, nat_tests) in
        let there : nat_le (plus (p + 1) m) (length (32 ∷ ys)) ≡ false = (let q : length (32 ∷ ys) < plus (p + 1) m = omega (arith, high, fits) in grind (arith, q, nat_tests)) in
        let here : nat_le (plus p m) (length ys) ≡ false = (let q : length ys < plus p m = omega (arith, high, fits) in grind (arith, q, nat_tests)) in
        between_past (32 ∷ ys) (p + 1) (plus (p + 1) m) there ∙ sym (between_past ys p (plus p m) here)

holds_later : (w ys bs : List ℕ) (p : ℕ) → length ys + 4 < 2 ^ 64 → holds_from (32 ∷ ys) w (p + 1) bs ≡ holds_from ys w p bs
holds_later w ys [] p fits = refl
holds_later w ys (b ∷ bs) p fits =
    ap (λ zs. if same_word zs w then true else holds_from (32 ∷ ys) w (p + 1 + 1) bs) (further ys p (length w) fits)
    ∙ ap (λ k. if same_word (bytes_between ys p (plus p (length w))) w then true else k) (holds_later w ys bs (p + 1) fits)

-- a word isn't where the space is
first_none : (w ys : List ℕ) (to : ℕ) → Inked w → same_word (bytes_between (32 ∷ ys) 0 to) w ≡ false
first_none w ys to h = by (nat_le 0 to && nat_le to (length (32 ∷ ys))) (to - 0)
  where
    by : (k : Bool) (n : ℕ) → same_word (if k then take n (32 ∷ ys) else []) w ≡ false
    by true zero = h.empty
    by true (suc n) = h.after_space (take n ys)
    by false n = h.empty

holds_space : (w ys : List ℕ) → Inked w → length ys + 4 < 2 ^ 64 → holds (32 ∷ ys) w ≡ holds ys w
holds_space w ys h fits = ap (λ k. if k then true else holds_from (32 ∷ ys) w (0 + 1) ys) (first_none w ys (plus 0 (length w)) h) ∙ holds_later w ys ys 0 fits

four_same : (a b c d e f g h : Bool) → a ≡ e → b ≡ f → c ≡ g → d ≡ h → (a || (b || (c || (d || false)))) ≡ (e || (f || (g || (h || false))))
four_same a b c d e f g h p q r s =
    ap (λ x. x || (b || (c || (d || false)))) p ∙ ap (λ x. e || (x || (c || (d || false)))) q ∙ ap (λ x. e || (f || (x || (d || false)))) r ∙ ap (λ x. e || (f || (g || (x || false)))) s

-- `</script>`, `</pre>`, `</style>` and `</textarea>`
raw_same : (u v w x ys : List ℕ) → Inked u → Inked v → Inked w → Inked x → length ys + 4 < 2 ^ 64
    → (holds (32 ∷ ys) u || (holds (32 ∷ ys) v || (holds (32 ∷ ys) w || (holds (32 ∷ ys) x || false)))) ≡ (holds ys u || (holds ys v || (holds ys w || (holds ys x || false))))
raw_same u v w x ys h i j k fits =
    four_same (holds (32 ∷ ys) u) (holds (32 ∷ ys) v) (holds (32 ∷ ys) w) (holds (32 ∷ ys) x) (holds ys u) (holds ys v) (holds ys w) (holds ys x)
    (holds_space u ys h fits) (holds_space v ys i fits) (holds_space w ys j fits) (holds_space x ys k fits)

ends_space : (k : HtmlKind) (ys : List ℕ) → length ys + 4 < 2 ^ 64 → html_ends k (32 ∷ ys) ≡ html_ends k ys
unfolding same_word holds_raw_end html_ends lib.Utf8.encode
ends_space html.Raw ys fits =
    raw_same (codes "</script>") (codes "</pre>") (codes "</style>") (codes "</textarea>") ys
    (record { empty = refl; after_space = λ zs. refl }) (record { empty = refl; after_space = λ zs. refl }) (record { empty = refl; after_space = λ zs. refl }) (record { empty = refl; after_space = λ zs. refl }) fits
ends_space html.Comment ys fits = holds_space (codes "-->") ys (record { empty = refl; after_space = λ zs. refl }) fits
ends_space html.Instruction ys fits = holds_space (codes "?>") ys (record { empty = refl; after_space = λ zs. refl }) fits
ends_space html.Declaration ys fits = holds_space (codes ">") ys (record { empty = refl; after_space = λ zs. refl }) fits
ends_space html.CharacterData ys fits = holds_space (codes "]]>") ys (record { empty = refl; after_space = λ zs. refl }) fits
ends_space html.Named ys fits = refl
ends_space html.Alone ys fits = refl

-- the spaces in front don't count
pub ends_ink : (k : HtmlKind) (n : ℕ) (xs : List ℕ) → IsPlain xs → n ≤ spaces_of xs → length xs + 3 < 2 ^ 64 → html_ends k xs ≡ html_ends k (drop n xs)
ends_ink k zero xs h low fits = refl
ends_ink k (suc n) [] h low fits = absurd (omega (arith, low))
ends_ink k (suc n) (b ∷ bs) h low fits = by (b == 32) refl (λ m. ends_ink k n bs p.more m (omega (arith, fits)))
  where
    p : Plain b bs
    p = plain_head b bs h

    by : (t : Bool) → (b == 32) ≡ t → (n ≤ spaces_of bs → html_ends k bs ≡ html_ends k (drop n bs)) → html_ends k (b ∷ bs) ≡ html_ends k (drop n bs)
    by true e again =
        let next : spaces_of (b ∷ bs) ≡ suc (spaces_of bs) = spaces_next b bs e in
        ap (λ c. html_ends k (c ∷ bs)) (eq_of b 32 e) ∙ ends_space k bs (omega (arith, fits)) ∙ again (omega (arith, low, next))
    by false e again =
        let none : spaces_of (b ∷ bs) ≡ 0 = spaces_none b bs e p.tab in
        absurd (omega (arith, none, low))
