-- A list of ticks that has room for so many, and one that is filled up.
use Rattle.std.proofs.Common.{◌≡◌, ℕ, ◌-◌, ◌≤◌, List, ◌++◌, length, ap, arith, append-nil}
use Rattle.std.specs.Prelude.{replicate, take}
use Rattle.std.proofs.lemmas.List.{take_all}

pub enough : (count : ℕ) (last : List ℕ) → count ≤ length last → last ++ replicate (count - length last) 0 ≡ last
enough count last h =
    let none : count - length last ≡ 0 = omega arith in
    rw none (append-nil last)

pub filled_up : (count : ℕ) (last : List ℕ) → length last ≤ count → take count last ++ replicate (count - length last) 0 ≡ last ++ replicate (count - length last) 0
filled_up count last h = ap (λ (x : List ℕ). x ++ replicate (count - length last) 0) (take_all count last h)
