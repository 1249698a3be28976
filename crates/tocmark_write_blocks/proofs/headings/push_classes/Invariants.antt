use Rattle.std.proofs.Common.{◌≡◌, ◌++◌, codes, map, drop, string_bytes}
use Rattle.std.specs.List.{flat_map}
use Rattle.tocmark_write_blocks.proofs.headings.push_classes.Given as goal

abbrev pub invariant-loop-class : goal.invariant-loop-class
invariant-loop-class l =
    string_bytes l.text ++ flat_map (λ c. codes " ." ++ c) (map string_bytes (drop l.class-index l.classes))
    ≡ string_bytes l.initial.text ++ flat_map (λ c. codes " ." ++ c) (map string_bytes l.classes)
