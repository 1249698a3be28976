use Rattle.std.proofs.Common.{◌≡◌, ◌≤◌, ◌+◌, ◌++◌, length, replicate, string_bytes, string_capacity}
use Rattle.tocmark_write_containers.proofs.prefix.put_each.Given as goal

abbrev pub invariant-loop-place : goal.invariant-loop-place
invariant-loop-place l =
    record {
      done : string_bytes l.text ≡ string_bytes l.fn.text ++ replicate l._place 32;
      room : length (string_bytes l.fn.text) + l.count ≤ string_capacity l.text;
      capacity : string_capacity l.fn.text ≤ string_capacity l.text;
    }
