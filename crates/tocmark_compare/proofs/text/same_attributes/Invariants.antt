use Rattle.std.proofs.Common.{◌≡◌, length, map, flat_map, drop, bytes_eq}
use Rattle.std.specs.Cmp.Lexicographic.{pointwise}
use Rattle.tocmark_event.specs.View.{attribute_view}
use Rattle.tocmark_spelling.specs.SameEvents.{attribute_key}
use Rattle.tocmark_compare.proofs.text.same_attributes.Given as goal

abbrev pub invariant-loop-i : goal.invariant-loop-i
invariant-loop-i g l =
    record {
      long : length l.a ≡ length l.b;
      rest : pointwise bytes_eq (flat_map attribute_key (map (attribute_view g.T.Words.bytes) (drop l.i l.a))) (flat_map attribute_key (map (attribute_view g.U.Words.bytes) (drop l.i l.b))) ≡ pointwise bytes_eq (flat_map attribute_key (map (attribute_view g.T.Words.bytes) l.a)) (flat_map attribute_key (map (attribute_view g.U.Words.bytes) l.b));
    }
