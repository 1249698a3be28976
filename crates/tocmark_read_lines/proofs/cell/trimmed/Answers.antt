use Rattle.std.proofs.Common.{ℕ, ◌-◌, ◌==◌, List, length, reverse, take_while, ap, sym, ◌∙◌}
use Rattle.tocmark_read_scan.specs.Basic.{bytes_between}
use Rattle.tocmark_read_lines.specs.Cells.{trimmed}
use Rattle.tocmark_read_lines.proofs.Columns.{part_trailing}
use Rattle.tocmark_read_lines.proofs.cell.trimmed.Goals as goal

pub returns : goal.returns
unfolding trimmed
returns c =
    c.saturating_sub.ensures
    ∙ ap (λ (n : ℕ). c.args.to - n)
    (c.trailing_in.ensures
    ∙ ap (λ (xs : List ℕ). length (take_while (λ b. b == c.args.byte) (reverse xs))) (c.bytes_between.ensures ∙ ap (λ (xs : List ℕ). bytes_between xs c.args.from c.args.to) c.bytes.ensures)
    ∙ sym (part_trailing c.args.cells.now c.args.from c.args.to c.args.byte))
