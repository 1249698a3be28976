use Rattle.std.proofs.Common.{◌≡◌, ◌+◌, length, map, ℕ, ◌≤◌, drop, reverse, slice_index_or}
use Rattle.tocmark_write_blocks.specs.TokenRuns.{no_runs, runs_of, runs_within, RunsIn}
use Rattle.tocmark_write_blocks.proofs.RunLayers.{AreTexts}
use Rattle.tocmark_spelling.specs.Buffered.{buffered_view}
use Rattle.tocmark_spelling.specs.Machine.{layers, kids_of}
use Rattle.tocmark_write_blocks.proofs.token_runs.token_runs.Given as goal

abbrev pub invariant-loop-i : goal.invariant-loop-i
invariant-loop-i l =
    let now : RunsIn = record { inner = l.inner; outer = reverse l.outer.items } in
    record {
      within : l.i ≤ length l.events;
      len : length l.runs.items ≡ length l.events;
      texts : AreTexts (drop l.i (map buffered_view l.events));
      layer : now ≡ runs_within l.token (layers (drop l.i (map buffered_view l.events)));
      found : (j : ℕ) → l.i ≤ j → slice_index_or l.runs.items j no_runs ≡ runs_of l.token (kids_of (drop (j + 1) (map buffered_view l.events)));
    }

abbrev pub decreases-loop-i : goal.decreases-loop-i
decreases-loop-i l = l.i
