use Rattle.std.proofs.Common.{◌≡◌, ◌∙◌, ap, arith, length, map}
use Rattle.std.specs.Prelude.{not}
use Rattle.std.proofs.lemmas.Bool.Decides.{nat_tests}
use Rattle.std.proofs.lemmas.List.{length-map}
use Rattle.tocmark_spelling.specs.Buffered.{buffered_view}
use Rattle.tocmark_write_pending.specs.DelimiterColumn.{numbers_of}
use Rattle.tocmark_write_pending.specs.declared.delimiters.Delimiter.{Delimiter}
use Rattle.tocmark_write_pending.proofs.DelimiterColumn.{none-runs}
use Rattle.tocmark_write_pending.proofs.runs.ends_known_run.Goals as goal

pub returns-else-not-is_empty : goal.returns-else-not-is_empty
returns-else-not-is_empty c =
    let ds = c.args.delimiters.now in
    let none : length ds ≡ 0 = grind (arith, nat_tests, c.if-not-is_empty.ensures) in
    ap not c.if-not-is_empty.false
    ∙ none-runs (map buffered_view c.args.events.now) (numbers_of ds) c.requires (length-map ds (λ (d : Delimiter). d.run) ∙ none)
