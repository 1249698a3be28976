use Rattle.std.proofs.Common.{◌≡◌, [], take}
use Rattle.std.specs.List.{fold}
use Rattle.tocmark_read_scan.specs.Content.{State, pasted_view, put_line}
use Rattle.tocmark_read_scan.proofs.content.joined.Given as goal

abbrev pub invariant-loop-line : goal.invariant-loop-line
invariant-loop-line l =
    let start : State = record { bytes = []; places = [] } in
    pasted_view l.content ≡ fold (put_line l.source) start (take l.line-index l.lines)
