-- From the last place back: the nearest place that is marked.
use Rattle.std.proofs.Common.{◌≡◌, ℕ, zero, suc, ◌+◌, ◌-◌, ◌<◌, ◌≤◌, Bool, true, false, Option, Some, None, List, [], ◌∷◌, refl, sym, ap, ◌∙◌, take, drop, length, get_or, arith, subst, ⊎_elim, ◌≢◌, get_or-set_other, get_or-set_same, if◌then◌else◌}
use Rattle.std.specs.List.{list_any}
use Rattle.std.proofs.lemmas.Bool.{cases_lt, lt-ltb, le-ltb}
use Rattle.std.specs.Prelude.{unwrap_or}
use Rattle.std.proofs.lemmas.List.{drop_more, drop_all, length-drop}
use Rattle.std.proofs.Math.ListN.{set}
use Rattle.tocmark_write_pending.specs.Ahead.{first_mark, comes_before}

-- so many places from i on are left before the end
mark-before : (ms : List Bool) (i e n : ℕ) → n ≡ e - i → comes_before (first_mark i ms) (Some e) ≡ list_any (λ b. b) (take n ms)
mark-before [] i e zero q = refl
mark-before [] i e (suc n) q = refl
mark-before (true ∷ ms) i e zero q = le-ltb i e (omega arith)
mark-before (true ∷ ms) i e (suc n) q = lt-ltb i e (omega arith)
mark-before (false ∷ ms) i e zero q = mark-before ms (i + 1) e zero (omega arith)
mark-before (false ∷ ms) i e (suc n) q = mark-before ms (i + 1) e n (omega arith)

-- no end is after them
mark-behind : (ms : List Bool) (i n : ℕ) → length ms ≤ n → comes_before (first_mark i ms) None ≡ list_any (λ b. b) (take n ms)
mark-behind [] i zero h = refl
mark-behind [] i (suc n) h = refl
mark-behind (b ∷ ms) i zero h = absurd (omega (arith, h))
mark-behind (true ∷ ms) i (suc n) h = refl
mark-behind (false ∷ ms) i (suc n) h = mark-behind ms (i + 1) n (omega (arith, h))

marked-by : (ms : List Bool) (i len : ℕ) (end : Option ℕ) → length ms ≤ len - i → comes_before (first_mark i ms) end ≡ list_any (λ b. b) (take (unwrap_or end len - i) ms)
marked-by ms i len (Some e) h = mark-before ms i e (e - i) refl
marked-by ms i len None h = mark-behind ms i (len - i) h

-- one place back
pub nearest-step : (marks : List Bool) (nearest next : Option ℕ) (i k : ℕ) (d : Bool) → i ≡ k + 1 → k < length marks → nearest ≡ first_mark i (drop i marks)
    → next ≡ (if get_or marks k d then Some k else nearest) → next ≡ first_mark k (drop k marks)
nearest-step marks nearest next i k d q lt h e =
    let P : ℕ → Type 0 = λ i. nearest ≡ first_mark i (drop i marks) in
    e ∙ ap (λ x. if get_or marks k d then Some k else x) (subst P q h) ∙ ap (first_mark k) (sym (drop_more marks k d lt))

-- no place is left
pub nearest-none : (marks : List Bool) (len : ℕ) → length marks ≤ len → None ≡ first_mark len (drop len marks)
nearest-none marks len h = ap (first_mark len) (sym (drop_all len marks h))

-- what is found of the place before
pub found-at : (marks : List Bool) (ends : List (Option ℕ)) (nearest : Option ℕ) (v : Bool) (i k : ℕ) → i ≡ k + 1 → nearest ≡ first_mark i (drop i marks) → v ≡ comes_before nearest (get_or ends k None)
    → v ≡ list_any (λ b. b) (take (unwrap_or (get_or ends k None) (length marks) - (k + 1)) (drop (k + 1) marks))
found-at marks ends nearest v i k q h e =
    let P : ℕ → Type 0 = λ i. nearest ≡ first_mark i (drop i marks) in
    e ∙ ap (λ x. comes_before x (get_or ends k None)) (subst P q h) ∙ marked-by (drop (k + 1) marks) (k + 1) (length marks) (get_or ends k None) (omega (arith, length-drop (k + 1) marks))

pub found-step : (found : List Bool) (marks : List Bool) (ends : List (Option ℕ)) (k : ℕ) (v : Bool) → k < length found → v ≡ list_any (λ b. b) (take (unwrap_or (get_or ends k None) (length marks) - (k + 1)) (drop (k + 1) marks))
    → ((j : ℕ) → k + 1 ≤ j → j < length marks → get_or found j false ≡ list_any (λ b. b) (take (unwrap_or (get_or ends j None) (length marks) - (j + 1)) (drop (j + 1) marks)))
    → (j : ℕ) → k ≤ j → j < length marks → get_or (set found k v) j false ≡ list_any (λ b. b) (take (unwrap_or (get_or ends j None) (length marks) - (j + 1)) (drop (j + 1) marks))
found-step found marks ends k v h e below j le lt =
    ⊎_elim
    (λ (more : k < j). let ne : j ≢ k = omega arith in let p : k + 1 ≤ j = omega arith in rw get_or-set_other (below j p lt))
    (λ (least : j ≤ k).
    let same : k ≡ j = omega arith in
    let P : ℕ → Type 0 = λ j. get_or (set found k v) j false ≡ list_any (λ b. b) (take (unwrap_or (get_or ends j None) (length marks) - (j + 1)) (drop (j + 1) marks)) in
    subst P same (rw get_or-set_same e))
    (cases_lt k j)
