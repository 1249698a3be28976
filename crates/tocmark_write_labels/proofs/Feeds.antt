-- The line feeds with which a text begins are those that are cut off its front.
use Rattle.std.proofs.Common.{◌≡◌, ◌≢◌, ℕ, suc, ◌+◌, ◌-◌, Bool, true, false, ◌==◌, arith, Some, None, List, [], ◌∷◌, cond, drop, length, refl, sym, ap, subst, ◌∙◌}
use Rattle.std.specs.Str.{IsCharBoundary, IsUtf8}
use Rattle.std.specs.Str.Pattern.{CutsPrefixes, FindsCharPrefix, IsFullyTrimmed, IsTrimStartMatches}
use Rattle.std.proofs.lemmas.Bool.{eqb-true}
use Rattle.std.proofs.lemmas.List.Sums.{prefix_len-le-length}
use Rattle.std.proofs.lemmas.List.{length-drop}
use Rattle.std.proofs.lemmas.Str.{IsCharBoundary-from_drop}
use Rattle.tocmark_write_labels.specs.Ending.{leading_feeds}

-- a text without them
abbrev pub bare : List ℕ → List ℕ
bare text = drop (leading_feeds text) text

bare-feed : (rest : List ℕ) → bare (10 ∷ rest) ≡ bare rest
bare-feed rest =
    let one : 1 + leading_feeds rest ≡ suc (leading_feeds rest) = omega arith in
    ap (λ n. drop n (10 ∷ rest)) one

cut : (m r : List ℕ) (n : ℕ) → FindsCharPrefix 10 m (Some n) → r ≡ drop n m → bare m ≡ bare r
unfolding lib.Utf8.encode
cut m r n found is = ap bare (found.split ∙ ap (λ rest. 10 ∷ rest) (sym is)) ∙ bare-feed r

cuts : (s : List ℕ) (ns : List ℕ) (r : List ℕ) → CutsPrefixes (FindsCharPrefix 10) s ns r → bare s ≡ bare r
cuts s [] r h = sym (ap bare h)
cuts s (n ∷ ns) r (m, before, found, is) = cuts s ns m before ∙ cut m r n found is

unbegun : (b : ℕ) (bs : List ℕ) (is : Bool) → (b == 10) ≡ is → ((rest : List ℕ) → (b ∷ bs) ≢ 10 ∷ rest) → bare (b ∷ bs) ≡ b ∷ bs
unbegun b bs true e h = absurd (h bs (ap (λ c. c ∷ bs) (eqb-true b 10 e)))
unbegun b bs false e h = ap (λ t. drop (cond t (1 + leading_feeds bs) 0) (b ∷ bs)) e

none-cut : (r : List ℕ) → ((rest : List ℕ) → r ≢ 10 ∷ rest) → bare r ≡ r
none-cut [] h = refl
none-cut (b ∷ bs) h = unbegun b bs (b == 10) refl h

trimmed : (r : List ℕ) → IsFullyTrimmed (FindsCharPrefix 10) r → bare r ≡ r
unfolding lib.Utf8.encode
trimmed r (None, found, none) = none-cut r found
trimmed r (Some n, found, none) = absurd (one-zero n found.ends none)
  where
    one-zero : (n : ℕ) → n ≡ 1 → n ≡ 0 → ⊥
    one-zero n one none = cc

-- what is left of a text
pub trimmed-is : (s r : List ℕ) → IsTrimStartMatches (FindsCharPrefix 10) s r → r ≡ bare s
trimmed-is s r h = sym (cuts s h.0.0 r h.0.1 ∙ trimmed r h.1)

-- a text may be cut after them
pub feeds-boundary : (text rest : List ℕ) → rest ≡ bare text → IsUtf8 rest → IsCharBoundary text (length text - length rest)
feeds-boundary text rest is utf8 =
    let fits = prefix_len-le-length (λ b. b == 10) text in
    let long : length rest ≡ length text - leading_feeds text = ap length is ∙ length-drop (leading_feeds text) text in
    let cut_at : leading_feeds text ≡ length text - length rest = omega arith in
    subst (IsCharBoundary text) cut_at (IsCharBoundary-from_drop text (leading_feeds text) fits (subst IsUtf8 is utf8))
