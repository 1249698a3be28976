use Rattle.std.proofs.Common.{rules, arith, ◌≡◌, ◌^◌, ◌<◌, ℕ, List, length, true, false, ap, sym, subst, ◌∙◌}
use Rattle.std.specs.Prelude.{◌==◌}
use Rattle.std.proofs.lemmas.Bool.{eqb-true}
use Rattle.std.proofs.lemmas.List.{nil_from_length}
use Rattle.std.proofs.lemmas.Result.{on_ok_weaker}
use Rattle.tocmark_read_inlines.specs.declared.write.Node.{Node}
use Rattle.tocmark_read_page.specs.declared.piece.Piece.{Piece}
use Rattle.tocmark_read_spans.specs.Definitions.{entry_of}
use Rattle.tocmark_reader.specs.Emitted.{emission_view}
use Rattle.tocmark_reader.specs.Formulas.{keeps_blanks}
use Rattle.tocmark_reader.specs.Pages.{assembly_view}
use Rattle.tocmark_reader.specs.QuietLines.{are_quiet_lines}
use Rattle.tocmark_reader.proofs.QuietLeaf.{quiet_written}
use Rattle.tocmark_reader.proofs.block_events.Assembly.read_leaf.Goals as goal

pub returns-then-are_quiet_lines : goal.returns-then-are_quiet_lines
returns-then-are_quiet_lines c =
    let text : List ℕ = c.args.document.now.text.now in
    let pieces : List Piece = c.args.pieces.now in
    let nodes : List Node = c.args.self.now.inlines.nodes.items in
    let same : c.as_bytes.result.now ≡ text = c.as_bytes.ensures.value ∙ c.as_str.ensures in
    let quiet : are_quiet_lines text pieces ≡ true = ap (λ bytes. are_quiet_lines bytes pieces) (sym same) ∙ sym c.if-are_quiet_lines.ensures in
    let plain : keeps_blanks c.args.document.now.syntax pieces ≡ false = search rules in
    let none : (length nodes == 0) ≡ true = search rules in
    let long : length c.as_bytes.result.now < 2 ^ 64 = omega arith in
    let fits : length text < 2 ^ 64 = subst (λ (xs : List ℕ). length xs < 2 ^ 64) same long in
    on_ok_weaker c.write_quiet_lines.result
    (λ wrote.
    quiet_written c.args.document.now.syntax text (entry_of c.args.document.now.definitions.now) pieces c.args.depth (assembly_view c.args.self.now) (emission_view c.write_quiet_lines.new.out) plain quiet (nil_from_length nodes (eqb-true (length nodes) 0 none)) fits wrote)
    c.write_quiet_lines.ensures
