-- Runs after so many are matched, and those before them stay.
use Rattle.std.proofs.Common.{◌≡◌, ℕ, ◌≤◌, List, ◌++◌, length, take, refl, ◌∙◌, arith}
use Rattle.std.proofs.lemmas.List.{drop_all, take_all, length-take-le, take-append-le, take-take}
use Rattle.tocmark_read_spans.specs.Emphasis.{emphasized}
use Rattle.tocmark_read_spans.specs.declared.run.Run.{Run}
use Rattle.tocmark_read_inlines.specs.Scan.{State, settled}

-- no run is after so many
pub none_behind : (count : ℕ) (s : State) → length s.runs ≤ count → s ≡ settled count s
unfolding settled emphasized
none_behind count s few = rw (drop_all count s.runs few, take_all count s.runs few) refl

-- what is written after so many runs leaves those before them
pub front_kept : (count : ℕ) (runs behind : List Run) → count ≤ length runs → take count (take count runs ++ behind) ≡ take count runs
front_kept count runs behind h =
    let size : length (take count runs) ≡ count = length-take-le count runs h in
    take-append-le count (take count runs) behind (omega (arith, size)) ∙ take-take count count runs (omega arith)
