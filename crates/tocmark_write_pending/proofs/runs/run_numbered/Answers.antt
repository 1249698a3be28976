use Rattle.std.proofs.Common.{◌≡◌, ◌-◌, ◌∙◌, ap, arith, map, reverse}
use Rattle.std.specs.Prelude.{option_map}
use Rattle.tocmark_write_pending.specs.RunColumn.{run_numbered, run_view}
use Rattle.tocmark_write_pending.proofs.RunPlaces.{numbered-at, numbered-zero}
use Rattle.tocmark_write_pending.proofs.runs.run_numbered.Goals as goal

pub returns-then-number-eq0 : goal.returns-then-number-eq0
returns-then-number-eq0 c =
    let zero : 0 ≡ c.args.number = omega arith in
    numbered-zero (reverse (map run_view c.args.runs.now)) ∙ ap (λ n. run_numbered n (reverse (map run_view c.args.runs.now))) zero

pub returns-else-number-eq0 : goal.returns-else-number-eq0
returns-else-number-eq0 c =
    ap (option_map run_view) c.run_in.ensures ∙ numbered-at c.args.runs.now c.args.number (c.args.number - 1) (omega arith)
