-- How the notes of runs of backticks unfold.
use Rattle.std.proofs.Common.{◌≡◌, ℕ, ◌-◌, ◌<◌, List, Some, None, sym, ap, ◌∙◌}
use Rattle.tocmark_read_scan.specs.Repeat.{iterated}
use Rattle.tocmark_read_scan.proofs.Repeats.{iterated_stop, iterated_more}
use Rattle.tocmark_read_spans.specs.Tick.{State, noted, run_from, noted_run, run_noted}

pub runs_stop : (bytes : List ℕ) (k : ℕ) (s : State) → 0 < k → run_from bytes s.place ≡ None → iterated (run_noted bytes) k s ≡ s
runs_stop bytes k s h e = iterated_stop (run_noted bytes) k s h (sym (ap (noted_run s) e))

pub runs_more : (bytes : List ℕ) (k start end : ℕ) (s t : State) → 0 < k → run_from bytes s.place ≡ Some (start, end) → t ≡ noted start end s → iterated (run_noted bytes) k s ≡ iterated (run_noted bytes) (k - 1) t
runs_more bytes k start end s t h e n = iterated_more (run_noted bytes) k s t h (ap (λ (u : State). Some u) n ∙ sym (ap (noted_run s) e))
