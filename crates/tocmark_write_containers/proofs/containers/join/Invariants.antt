use Rattle.std.proofs.Common.{◌≡◌, ◌≤◌, take, length, string_bytes, string_capacity}
use Rattle.tocmark_write_containers.specs.KeptOf.{present, seen}
use Rattle.tocmark_spelling.specs.Page.{prefix_of}
use Rattle.tocmark_write_containers.proofs.containers.join.Given as goal

abbrev pub invariant-loop-kept : goal.invariant-loop-kept
invariant-loop-kept l =
    record {
      done : string_bytes l.prefix ≡ prefix_of (seen present (take l.kept-index l.frames));
      room : length (prefix_of (seen present l.frames)) ≤ string_capacity l.prefix;
    }
