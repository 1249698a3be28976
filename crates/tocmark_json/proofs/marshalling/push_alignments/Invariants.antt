use Rattle.std.proofs.Common.{flat_map, drop}
use Rattle.tocmark_json.specs.Marshal.{alignment_bytes}
use Rattle.tocmark_json.proofs.Marshalled.{Comes}
use Rattle.tocmark_json.proofs.marshalling.push_alignments.Given as goal

abbrev pub invariant-loop-alignment : goal.invariant-loop-alignment
invariant-loop-alignment l = Comes l.initial.out.items (flat_map alignment_bytes l.alignments) l.out.items (flat_map alignment_bytes (drop l.alignment-index l.alignments))
