-- Bytes that stand for themselves in a string of JSON.
use Rattle.std.proofs.Common.{◌≡◌, ℕ, zero, suc, ◌+◌, ◌≤◌, Bool, true, cond, List, length, drop, ap, ◌∙◌, arith, subst}
use Rattle.std.proofs.lemmas.List.{drop_more}
use Rattle.std.specs.Bool.{OnTrue}
use Rattle.std.specs.List.{prefix_len}
use Rattle.json.specs.Run.{is_plain}
use Rattle.json.specs.Written.{PlainBetween}

-- a run goes on through bytes that do
runs_on : (d : List ℕ) (i n : ℕ) → i + n ≤ length d → PlainBetween d i (i + n) → prefix_len is_plain (drop i d) ≡ n + prefix_len is_plain (drop (i + n) d)
runs_on d i zero room plain =
    let same : i ≡ i + 0 = omega arith in
    let moved = ap (λ k. prefix_len is_plain (drop k d)) same in
    omega (arith, moved)
runs_on d i (suc n) room plain =
    let here = ap (prefix_len is_plain) (drop_more d i 0 (omega arith)) ∙ ap (λ b. cond b (1 + prefix_len is_plain (drop (i + 1) d)) 0) (plain i (omega arith) (omega arith)) in
    let rest = runs_on d (i + 1) n (omega arith) (λ k p q. plain k (omega arith) (omega arith)) in
    let same : i + 1 + n ≡ i + suc n = omega arith in
    let moved = rest ∙ ap (λ k. n + prefix_len is_plain (drop k d)) same in
    omega (arith, here, moved)

pub run_through : (d : List ℕ) (i n : ℕ) → i + n ≤ length d → (b : Bool) → b ≡ true → OnTrue b (PlainBetween d i (i + n)) → prefix_len is_plain (drop i d) ≡ n + prefix_len is_plain (drop (i + n) d)
run_through d i n room b told plain = runs_on d i n room (subst (λ c. OnTrue c (PlainBetween d i (i + n))) told plain)
