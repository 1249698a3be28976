-- From the last sign back: which `$` belongs to which.
use Rattle.std.proofs.Common.{◌≡◌, ℕ, zero, suc, ◌+◌, ◌<◌, Option, Some, None, List, [], ◌∷◌, ◌++◌, refl, sym, ap, ◌∙◌, drop, length, get_or, reverse, subst, arith, MatchOption, option_to_list}
use Rattle.std.specs.Option.{option_flatten}
use Rattle.std.proofs.lemmas.List.{reverse-append, nil_from_length, append-nil}
use Rattle.std.proofs.lemmas.Option.{unwrap_or-slice_get}
use Rattle.std.proofs.Math.Seq.{drop-cons}
use Rattle.tocmark_read_spans.specs.Math.{sign_at, partner, partner_behind, partners_from, but_first, levels_before, level, partner_of}
use Rattle.tocmark_read_spans.specs.declared.math.Sign.{Sign}
use Rattle.tocmark_read_spans.specs.declared.math.Sign.TheVariants.{Dollar, OpeningBrace, ClosingBrace, Other}

level-but_first : (levels : List (Option ℕ)) (n : ℕ) → level (but_first levels) n ≡ level levels (suc n)
level-but_first [] n = refl
level-but_first (x ∷ levels) n = refl

-- one sign more in front
levels-step : (s : Sign) (rest : List Sign) (levels : List (Option ℕ)) (place : ℕ) → ((n : ℕ) → level levels n ≡ partner n (place + 1) rest) → (n : ℕ) → level (levels_before s place levels) n ≡ partner n place (s ∷ rest)
levels-step Dollar rest levels place h zero = refl
levels-step Dollar rest levels place h (suc n) = level-but_first levels n ∙ h (suc n)
levels-step OpeningBrace rest levels place h zero = level-but_first levels 0 ∙ h 1
levels-step OpeningBrace rest levels place h (suc n) = level-but_first levels (suc n) ∙ h (suc (suc n))
levels-step ClosingBrace rest levels place h zero = refl
levels-step ClosingBrace rest levels place h (suc n) = h n
levels-step Other rest levels place h zero = h 0
levels-step Other rest levels place h (suc n) = h (suc n)

partner-step : (s : Sign) (rest : List Sign) (levels : List (Option ℕ)) (place : ℕ) → level levels 0 ≡ partner 0 place rest → partner_of s levels ≡ partner_behind s place rest
partner-step Dollar rest levels place h = h
partner-step OpeningBrace rest levels place h = refl
partner-step ClosingBrace rest levels place h = refl
partner-step Other rest levels place h = refl

-- the levels hold from a place on
abbrev pub HoldFrom : List Sign → List (Option ℕ) → ℕ → Type 0
HoldFrom signs levels i = (n : ℕ) → level levels n ≡ partner n i (drop i signs)

pub levels-turn : (s : Sign) (signs : List Sign) (levels more : List (Option ℕ)) (i k : ℕ) → i ≡ k + 1 → drop k signs ≡ s ∷ drop (k + 1) signs → more ≡ levels_before s k levels → HoldFrom signs levels i → HoldFrom signs more k
levels-turn s signs levels more i k q at add h n =
    let held : HoldFrom signs levels (k + 1) = subst (HoldFrom signs levels) q h in
    ap (λ m. level m n) add ∙ levels-step s (drop (k + 1) signs) levels k held n ∙ ap (partner n k) (sym at)

pub found-turn : (s : Sign) (signs : List Sign) (levels found more : List (Option ℕ)) (v : Option ℕ) (i k : ℕ) → i ≡ k + 1 → drop k signs ≡ s ∷ drop (k + 1) signs → v ≡ partner_of s levels → HoldFrom signs levels i
    → more ≡ found ++ v ∷ [] → reverse found ≡ partners_from i (drop i signs) → reverse more ≡ partners_from k (drop k signs)
found-turn s signs levels found more v i k q at is h add before =
    let P : ℕ → Type 0 = λ i. reverse found ≡ partners_from i (drop i signs) in
    let held : HoldFrom signs levels (k + 1) = subst (HoldFrom signs levels) q h in
    let here : v ≡ partner_behind s (k + 1) (drop (k + 1) signs) = is ∙ partner-step s (drop (k + 1) signs) levels (k + 1) (held 0) in
    let behind : reverse found ≡ partners_from (k + 1) (drop (k + 1) signs) = subst P q before in
    ap reverse add ∙ reverse-append found (v ∷ [])
    ∙ ap (λ w. w ∷ reverse found) here
    ∙ ap (λ l. partner_behind s (k + 1) (drop (k + 1) signs) ∷ l) behind
    ∙ ap (partners_from k) (sym at)

-- after the last sign
pub levels-none : (signs : List Sign) (levels : List (Option ℕ)) (len : ℕ) → levels ≡ [] → drop len signs ≡ [] → HoldFrom signs (reverse levels) len
levels-none signs levels len e f n = ap (λ l. level (reverse l) n) e ∙ no n ∙ ap (partner n len) (sym f)
  where
    no : (n : ℕ) → level (reverse []) n ≡ partner n len []
    no zero = refl
    no (suc n) = refl

pub found-none : (signs : List Sign) (found : List (Option ℕ)) (len : ℕ) → found ≡ [] → drop len signs ≡ [] → reverse found ≡ partners_from len (drop len signs)
found-none signs found len e f = ap reverse e ∙ ap (partners_from len) (sym f)

-- what was the last of a list is the first of it in reverse
pub popped-rest : (old new : List (Option ℕ)) (r : Option (Option ℕ)) (n m : ℕ) → old ≡ new ++ option_to_list r → n ≡ length old → MatchOption r ((n ≡ 0) × (m ≡ 0)) (λ x. m + 1 ≡ n) → reverse new ≡ but_first (reverse old)
popped-rest old new (Some x) n m e len h = sym (ap (λ l. but_first (reverse l)) e ∙ ap but_first (reverse-append new (x ∷ [])))
popped-rest old new None n m e len h =
    let empty : old ≡ [] = nil_from_length old (sym len ∙ h.0) in
    let same : new ≡ [] = sym (append-nil new) ∙ sym e ∙ empty in
    ap reverse same ∙ sym (ap (λ l. but_first (reverse l)) empty)

pub popped-first : (old new : List (Option ℕ)) (r : Option (Option ℕ)) (n m : ℕ) → old ≡ new ++ option_to_list r → n ≡ length old → MatchOption r ((n ≡ 0) × (m ≡ 0)) (λ x. m + 1 ≡ n) → option_flatten r ≡ level (reverse old) 0
popped-first old new (Some x) n m e len h = sym (ap (λ l. level (reverse l) 0) e ∙ ap (λ l. level l 0) (reverse-append new (x ∷ [])))
popped-first old new None n m e len h = ap (λ l. level (reverse l) 0) (sym (nil_from_length old (sym len ∙ h.0)))

-- a sign and those after it
pub at-sign : (signs : List Sign) (k : ℕ) (s : Sign) → k < length signs → s ≡ sign_at signs k → drop k signs ≡ s ∷ drop (k + 1) signs
unfolding sign_at
at-sign signs k s h e =
    let next : suc k ≡ k + 1 = omega arith in
    let is : s ≡ get_or signs k Other = e ∙ unwrap_or-slice_get signs k Other in
    drop-cons signs k Other h ∙ ap (λ x. x ∷ drop (suc k) signs) (sym is) ∙ ap (λ n. s ∷ drop n signs) next
