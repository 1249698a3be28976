use Rattle.std.proofs.Common.{◌≡◌, take}
use Rattle.std.specs.List.{fold}
use Rattle.tocmark_reader.specs.Emitted.{emission_view, step}
use Rattle.tocmark_reader.specs.Pages.{lines_nodes}
use Rattle.tocmark_reader.proofs.code_lines.write_lines.Given as goal

abbrev pub invariant-loop-line : goal.invariant-loop-line
invariant-loop-line l =
    emission_view l.out ≡ fold (step l.text) (emission_view l.fn.out) (lines_nodes l.text l.html l.depth (take l.line-index l.lines))
