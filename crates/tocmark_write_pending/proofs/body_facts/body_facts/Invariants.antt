use Rattle.std.proofs.Common.{◌≡◌, ◌+◌, length, map, ℕ, ◌≤◌, drop, reverse, slice_index_or}
use Rattle.tocmark_write_pending.specs.BodyFacts.{no_facts, facts_of, facts_in, FactLayers}
use Rattle.tocmark_spelling.specs.Buffered.{buffered_view}
use Rattle.tocmark_spelling.specs.Machine.{layers, kids_of}
use Rattle.tocmark_write_pending.proofs.body_facts.body_facts.Given as goal

abbrev pub invariant-loop-i : goal.invariant-loop-i
invariant-loop-i l =
    let now : FactLayers = record { inner = l.inner; outer = reverse l.outer.items } in
    record {
      within : l.i ≤ length l.events;
      len : length l.facts.items ≡ length l.events;
      layer : now ≡ facts_in (layers (drop l.i (map buffered_view l.events)));
      found : (j : ℕ) → l.i ≤ j → slice_index_or l.facts.items j no_facts ≡ facts_of (kids_of (drop (j + 1) (map buffered_view l.events)));
    }

abbrev pub decreases-loop-i : goal.decreases-loop-i
decreases-loop-i l = l.i
