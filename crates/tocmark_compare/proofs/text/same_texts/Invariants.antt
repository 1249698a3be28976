use Rattle.std.proofs.Common.{◌≡◌, length, map, drop, bytes_eq}
use Rattle.std.specs.Cmp.Lexicographic.{pointwise}
use Rattle.tocmark_compare.proofs.text.same_texts.Given as goal

abbrev pub invariant-loop-i : goal.invariant-loop-i
invariant-loop-i g l =
    record {
      long : length l.a ≡ length l.b;
      rest : pointwise bytes_eq (map g.T.Words.bytes (drop l.i l.a)) (map g.U.Words.bytes (drop l.i l.b)) ≡ pointwise bytes_eq (map g.T.Words.bytes l.a) (map g.U.Words.bytes l.b);
    }
