use Rattle.std.proofs.Common.{◌≡◌, length}
use Rattle.tocmark_read_scan.specs.Repeat.{iterated}
use Rattle.tocmark_read_tokens.specs.CharacterNames.{next_line}
use Rattle.tocmark_read_tokens.proofs.character_names.entry_place.Given as goal

abbrev pub invariant-loop-steps_left : goal.invariant-loop-steps_left
invariant-loop-steps_left l =
    iterated (next_line l.entries l.name) l._steps_left l.place ≡ iterated (next_line l.entries l.name) (length l.entries) 0
