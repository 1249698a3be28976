use Rattle.std.proofs.Common.{ℕ, flat_map, map, drop}
use Rattle.tocmark_event.specs.View.{EventView}
use Rattle.tocmark_json.specs.Marshal.{size_bytes, pair_in}
use Rattle.tocmark_json.proofs.Marshalled.{Comes}
use Rattle.tocmark_json.proofs.marshalling.push_starts.Given as goal

abbrev pub invariant-loop-pair : goal.invariant-loop-pair
invariant-loop-pair g l = Comes l.initial.out.items (flat_map size_bytes (map (λ (p : EventView × (ℕ × ℕ)). p.1.0) (map (pair_in g.T.Words.bytes) l.pairs))) l.out.items (flat_map size_bytes (map (λ (p : EventView × (ℕ × ℕ)). p.1.0) (map (pair_in g.T.Words.bytes) (drop l.pair-index l.pairs))))
