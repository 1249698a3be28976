-- Places of a text, one after the other.
use Rattle.std.proofs.Common.{◌≡◌, ◌∙◌, ◌+◌, ◌-◌, ◌<◌, ◌≤◌, ℕ, zero, suc, List, [], ◌∷◌, ◌++◌, ap, arith, drop, length, min, refl, subst, sym}
use Rattle.std.specs.List.{All}
use Rattle.std.proofs.lemmas.List.{drop-drop}
use Rattle.std.proofs.lemmas.List.Elements.{All-append, All-cons, All-nil}
use Rattle.tocmark_json.specs.Positions.{IsMark, behind, passed, position_of, start}
use Rattle.tocmark_json.specs.declared.positions.Mark.{Mark}
use Rattle.tocmark_json.specs.declared.positions.Position.{Position}

-- a walk to a place goes on from one byte to the next
one_behind : (p : Position) (bs : List ℕ) (at to : ℕ) → at < to → passed p (drop at bs) (to - at) ≡ passed (behind (drop at bs) p) (drop (at + 1) bs) (to - (at + 1))
one_behind p bs at to lt =
    let is : to - at ≡ suc (to - (at + 1)) = omega arith in
    ap (λ n. passed p (drop at bs) n) is
    ∙ ap (λ l. passed (behind (drop at bs) p) l (to - (at + 1))) (drop-drop 1 at bs)

pub goes_on : (p q first : Position) (bs : List ℕ) (at to : ℕ) → at < to → q ≡ behind (drop at bs) p → passed p (drop at bs) (to - at) ≡ first → passed q (drop (at + 1) bs) (to - (at + 1)) ≡ first
goes_on p q first bs at to lt is so_far =
    ap (λ r. passed r (drop (at + 1) bs) (to - (at + 1))) is ∙ sym (one_behind p bs at to lt) ∙ so_far

-- and ends there
pub ended : (p first : Position) (bs : List ℕ) (at to : ℕ) → to ≤ at → passed p (drop at bs) (to - at) ≡ first → p ≡ first
ended p first bs at to past so_far =
    let none : 0 ≡ to - at = omega arith in
    ap (λ n. passed p (drop at bs) n) none ∙ so_far

one_more : (n : ℕ) → n + 1 ≡ suc n
one_more n = omega arith

one_before : (n : ℕ) → 1 + n ≡ suc n
one_before n = omega arith

suc_add : (m n : ℕ) → (m + n) + 1 ≡ m + suc n
suc_add m n = omega arith

none_more : (n : ℕ) → n ≡ n + 0
none_more n = omega arith

-- the place of the next byte
further : (p : Position) (bs : List ℕ) (n : ℕ) → passed p bs (suc n) ≡ behind (drop n bs) (passed p bs n)
further p bs zero = refl
further p bs (suc n) =
    further (behind bs p) (drop 1 bs) n
    ∙ ap (λ l. behind l (passed (behind bs p) (drop 1 bs) n)) (drop-drop n 1 bs ∙ ap (λ k. drop k bs) (one_before n))

pub next_place : (bs : List ℕ) (n : ℕ) (p q : Position) → p ≡ position_of bs n → q ≡ behind (drop n bs) p → q ≡ position_of bs (n + 1)
next_place bs n p q here is =
    is ∙ ap (λ r. behind (drop n bs) r) here ∙ sym (further start bs n) ∙ ap (λ k. passed start bs k) (sym (one_more n))

-- two walks, one after the other
joined : (p : Position) (bs : List ℕ) (m n : ℕ) → passed (passed p bs m) (drop m bs) n ≡ passed p bs (m + n)
joined p bs m zero = ap (λ k. passed p bs k) (none_more m)
joined p bs m (suc n) =
    further (passed p bs m) (drop m bs) n
    ∙ ap (λ r. behind (drop n (drop m bs)) r) (joined p bs m n)
    ∙ ap (λ l. behind l (passed p bs (m + n))) (drop-drop n m bs)
    ∙ sym (further p bs (m + n))
    ∙ ap (λ k. passed p bs k) (sym (one_more (m + n)) ∙ suc_add m n)

-- past the end nothing moves
moves_not : (p : Position) → behind [] p ≡ p
unfolding behind
moves_not p = refl

unmoved : (p : Position) (n : ℕ) → passed p [] n ≡ p
unmoved p zero = refl
unmoved p (suc n) = ap (λ r. passed r [] n) (moves_not p) ∙ unmoved p n

min_none : (n : ℕ) → min n 0 ≡ 0
min_none n = omega arith

none_min : (n : ℕ) → min 0 n ≡ 0
none_min n = omega arith

min_suc : (m n : ℕ) → min (suc m) (suc n) ≡ suc (min m n)
min_suc m n = omega arith

within : (p : Position) (bs : List ℕ) (n : ℕ) → passed p bs (min n (length bs)) ≡ passed p bs n
within p [] n = ap (λ k. passed p [] k) (min_none n) ∙ sym (unmoved p n)
within p (b ∷ bs) zero = ap (λ k. passed p (b ∷ bs) k) (none_min (length (b ∷ bs)))
within p (b ∷ bs) (suc n) = ap (λ k. passed p (b ∷ bs) k) (min_suc n (length bs)) ∙ within (behind (b ∷ bs) p) bs n

-- from a mark to a place within the text, or to its end
pub marked : (bs : List ℕ) (mark : Mark) (offset : ℕ) (q : Position) → IsMark bs mark → mark.offset ≤ min offset (length bs) → q ≡ passed mark.position (drop mark.offset bs) (min offset (length bs) - mark.offset) → q ≡ position_of bs offset
marked bs mark offset q is before walked =
    let to = min offset (length bs) in
    let all : mark.offset + (to - mark.offset) ≡ to = omega arith in
    walked
    ∙ ap (λ r. passed r (drop mark.offset bs) (to - mark.offset)) is
    ∙ joined start bs mark.offset (to - mark.offset)
    ∙ ap (λ k. passed start bs k) all
    ∙ within start bs offset

-- one more mark
pub marked_more : (bs : List ℕ) (marks more : List Mark) (mark : Mark) → All (IsMark bs) marks → more ≡ marks ++ mark ∷ [] → IsMark bs mark → All (IsMark bs) more
marked_more bs marks more mark all pushed is =
    subst (λ (ms : List Mark). All (IsMark bs) ms) (sym pushed) (All-append (IsMark bs) marks (mark ∷ []) all (All-cons (IsMark bs) mark [] is (All-nil (IsMark bs))))
