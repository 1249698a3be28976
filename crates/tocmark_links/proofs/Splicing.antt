-- A text is written from its front, place by place.
use Rattle.std.proofs.Common.{◌≡◌, refl, sym, ◌∙◌, ap, subst, ℕ, suc, ◌<◌, ◌≤◌, ◌+◌, ◌-◌, List, [], ◌∷◌, ◌++◌, length, take, drop, get_or, string_bytes, arith, append_assoc, take-take, length-drop}
use Rattle.std.proofs.lemmas.List.{length-take, length-take-le, take-append-le, drop-append-le, drop-take, drop_more, drop_all, take_rest}
use Rattle.tocmark_links.specs.Spliced.{AreApart, spliced}
use Rattle.tocmark_links.specs.declared.edits.Edit.{Edit}

up-to : (edits : List Edit) (from to : ℕ) → AreApart from to edits → from ≤ to
up-to [] from to h = h
up-to (e ∷ edits) from to h =
    let low : from ≤ e.start = h.0 in
    let mid : e.start ≤ e.end = h.1 in
    let high : e.end ≤ to = up-to edits e.end to h.2 in
    omega (arith, low, mid, high)

-- what is in front of all places stays
front-stays : (text : List ℕ) (edits : List Edit) (from : ℕ) → AreApart from (length text) edits → take from (spliced text edits) ≡ take from text
front-stays text [] from h = refl
front-stays text (e ∷ edits) from h =
    let low : from ≤ e.start = h.0 in
    let mid : e.start ≤ e.end = h.1 in
    let high : e.end ≤ length text = up-to edits e.end (length text) h.2 in
    let rest : List ℕ = spliced text edits in
    let same : take e.end rest ≡ take e.end text = front-stays text edits e.end h.2 in
    let one : length (take e.end text) ≡ e.end = length-take-le e.end text high in
    let two : length (take e.end rest) ≡ length (take e.end text) = ap length same in
    let long : e.end ≤ length rest = omega (arith, one, two, length-take e.end rest) in
    let fits : length (take e.start rest) ≡ e.start = length-take-le e.start rest (omega (arith, mid, long)) in
    ap (take from) (append_assoc (take e.start rest) (string_bytes e.words) (drop e.end rest))
    ∙ take-append-le from (take e.start rest) (string_bytes e.words ++ drop e.end rest) (omega (arith, low, fits))
    ∙ take-take from e.start rest low
    ∙ sym (take-take from e.end rest (omega (arith, low, mid)))
    ∙ ap (take from) same
    ∙ take-take from e.end text (omega (arith, low, mid))

-- one more place
one-place : (text made kept : List ℕ) (at : ℕ) (e : Edit) (edits : List Edit) → at ≤ e.start → e.start ≤ e.end → kept ≡ drop at (take e.start text) → AreApart e.end (length text) edits → ((made ++ kept) ++ string_bytes e.words) ++ drop e.end (spliced text edits) ≡ made ++ drop at (spliced text (e ∷ edits))
one-place text made kept at e edits low mid k h =
    let high : e.end ≤ length text = up-to edits e.end (length text) h in
    let rest : List ℕ = spliced text edits in
    let same : take e.end rest ≡ take e.end text = front-stays text edits e.end h in
    let one : length (take e.end text) ≡ e.end = length-take-le e.end text high in
    let two : length (take e.end rest) ≡ length (take e.end text) = ap length same in
    let long : e.end ≤ length rest = omega (arith, one, two, length-take e.end rest) in
    let fits : length (take e.start rest) ≡ e.start = length-take-le e.start rest (omega (arith, mid, long)) in
    let begins : take e.start rest ≡ take e.start text =
    sym (take-take e.start e.end rest mid) ∙ ap (take e.start) same ∙ take-take e.start e.end text mid in
    let tail : List ℕ = string_bytes e.words ++ drop e.end rest in
    append_assoc (made ++ kept) (string_bytes e.words) (drop e.end rest)
    ∙ append_assoc made kept tail
    ∙ ap (λ xs. made ++ (xs ++ tail)) (k ∙ ap (drop at) (sym begins))
    ∙ ap (λ xs. made ++ xs) (sym (drop-append-le at (take e.start rest) tail (omega (arith, low, fits))))
    ∙ ap (λ xs. made ++ drop at xs) (sym (append_assoc (take e.start rest) (string_bytes e.words) (drop e.end rest)))

-- the text so far, and the places that are left
pub record Splices (text : List ℕ) (edits rest : List Edit) (at : ℕ) (made : List ℕ) : Type 0 where
  pub apart : AreApart at (length text) rest → AreApart 0 (length text) edits
  pub same : AreApart at (length text) rest → made ++ drop at (spliced text rest) ≡ spliced text edits

pub nothing-yet : (text : List ℕ) (edits : List Edit) → Splices text edits edits 0 []
nothing-yet text edits = record { apart = λ h. h; same = λ h. refl }

pub splices-more : (text : List ℕ) (edits : List Edit) (i at : ℕ) (e : Edit) (made kept new : List ℕ) → i < length edits → e ≡ get_or edits i e → at ≤ e.start → e.start ≤ e.end → kept ≡ drop at (take e.start text) → new ≡ (made ++ kept) ++ string_bytes e.words → Splices text edits (drop i edits) at made → Splices text edits (drop (i + 1) edits) e.end new
splices-more text edits i at e made kept new within is low mid k n h =
    let split : drop i edits ≡ e ∷ drop (i + 1) edits = drop_more edits i e within ∙ ap (λ x. x ∷ drop (i + 1) edits) (sym is) in
    let here : Splices text edits (e ∷ drop (i + 1) edits) at made = subst (λ rest. Splices text edits rest at made) split h in
    record {
      apart = λ a. here.apart (low, mid, a);
      same = λ a. ap (λ xs. xs ++ drop e.end (spliced text (drop (i + 1) edits))) n ∙ one-place text made kept at e (drop (i + 1) edits) low mid k a ∙ here.same (low, mid, a);
    }

-- bytes between two places
pub piece : (text kept : List ℕ) (at to : ℕ) → at ≤ to → kept ≡ take (to - at) (drop at text) → kept ≡ drop at (take to text)
piece text kept at to low e = e ∙ sym (drop-take at (to - at) text) ∙ ap (λ n. drop at (take n text)) (omega (arith, low))

pub tail : (text kept : List ℕ) (at : ℕ) → kept ≡ take (length text - at) (drop at text) → kept ≡ drop at text
tail text kept at e = e ∙ take_rest text at

-- and what is after the last place
pub splices-end : (text : List ℕ) (edits : List Edit) (i at : ℕ) (made kept new : List ℕ) → length edits ≤ i → at ≤ length text → kept ≡ drop at text → new ≡ made ++ kept → Splices text edits (drop i edits) at made → AreApart 0 (length text) edits × (new ≡ spliced text edits)
splices-end text edits i at made kept new l within k n h =
    let all : Splices text edits [] at made = subst (λ rest. Splices text edits rest at made) (drop_all i edits l) h in
    (all.apart within, n ∙ ap (λ xs. made ++ xs) k ∙ all.same within)
