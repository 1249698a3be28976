use Rattle.std.proofs.Common.{flat_map, map, drop}
use Rattle.tocmark_json.specs.Marshal.{text_bytes}
use Rattle.tocmark_json.proofs.Marshalled.{Comes}
use Rattle.tocmark_json.proofs.marshalling.push_classes.Given as goal

abbrev pub invariant-loop-class : goal.invariant-loop-class
invariant-loop-class g l = Comes l.initial.out.items (flat_map text_bytes (map g.T.Words.bytes l.classes)) l.out.items (flat_map text_bytes (map g.T.Words.bytes (drop l.class-index l.classes)))
