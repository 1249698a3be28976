use Rattle.std.proofs.Common.{◌≡◌, length, map, take, drop, vec_capacity}
use Rattle.tocmark_write_containers.specs.KeptOf.{original, outside_at, present}
use Rattle.tocmark_write_containers.proofs.kept.forget_all.Given as goal

abbrev pub invariant-loop-i : goal.invariant-loop-i
invariant-loop-i l =
    record {
      now_is : map present (take l.i l.frames.items) ≡ map present (take l.i l.initial.frames.items);
      then_is : map original (take l.i l.frames.items) ≡ map present (take l.i l.initial.frames.items);
      told : map outside_at (take l.i l.frames.items) ≡ map outside_at (take l.i l.initial.frames.items);
      rest : drop l.i l.frames.items ≡ drop l.i l.initial.frames.items;
      len : length l.frames.items ≡ length l.initial.frames.items;
      capacity : vec_capacity l.frames ≡ vec_capacity l.initial.frames;
    }
