use Rattle.std.proofs.Common.{◌≡◌, drop}
use Rattle.std.specs.List.{fold}
use Rattle.tocmark_reader.specs.Emitted.{emission_view, step}
use Rattle.tocmark_reader.specs.QuietLines.{all_further}
use Rattle.tocmark_reader.proofs.quiet.write_further_lines.Given as goal

abbrev pub invariant-loop-line : goal.invariant-loop-line
invariant-loop-line l =
    fold (step l.text) (emission_view l.out) (all_further l.depth l.last (drop l.line-index l.lines))
    ≡ fold (step l.text) (emission_view l.fn.out) (all_further l.depth l.fn.first l.lines)
