-- What is kept of each event up to the last delimiter: its run, and how many markers a container opens with.
use Rattle.std.specs.Prelude.{◌≡◌, ◌≤◌, ◌-◌, ◌++◌, ℕ, suc, true, false, List, drop, length, map, replicate, reverse, slice_index_or, take}
use Rattle.tocmark_event.specs.View.{SourcedEvent}
use Rattle.tocmark_write_pending.specs.RunColumn.{begins_in_run, runs_begun}
use Rattle.tocmark_write_pending.specs.declared.delimiters.Delimiter.{Delimiter}

-- the numbers of the runs
abbrev pub numbers_of : List Delimiter → List ℕ
numbers_of ds = map (λ (d : Delimiter). d.run) ds

-- the widths
abbrev pub widths_of : List Delimiter → List ℕ
widths_of ds = map (λ (d : Delimiter). d.width) ds

-- what is kept of the events up to a place, where the delimiter is of which the run with this number is known
abbrev pub noted : ℕ → ℕ → List Delimiter → List Delimiter
noted place number ds = ds ++ replicate (suc place - length ds) (record { run = number; width = 0 })

-- a number for each of these events up to the last delimiter; a delimiter's is how many runs begin up to it
pub record AreNumbered (es : List SourcedEvent) (numbers : List ℕ) : Type 0 where
  pub len : length numbers ≤ length es
  pub at : (i : ℕ) → begins_in_run (drop i es) ≡ true → slice_index_or numbers i 0 ≡ runs_begun (reverse (take (suc i) es))
  pub beyond : (i : ℕ) → length numbers ≤ i → begins_in_run (drop i es) ≡ false
