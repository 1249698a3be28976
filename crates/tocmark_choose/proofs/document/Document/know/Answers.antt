use Rattle.std.proofs.Common.{◌∙◌, ap, length, sym}
use Rattle.std.specs.Prelude.{◌==◌}
use Rattle.std.proofs.lemmas.Bool.{false≢true}
use Rattle.tocmark_choose.specs.DocumentOf.{document_view}
use Rattle.tocmark_choose.proofs.Documents.{behind-empty}
use Rattle.tocmark_choose.proofs.document.Document.know.Goals as goal

pub returns-then-is_empty-clause-known : goal.returns-then-is_empty-clause-known
returns-then-is_empty-clause-known c = sym (behind-empty c.args.defined.now (document_view c.args.self.now) (sym c.is_empty.ensures ∙ c.if-is_empty.true))

pub returns-clause-stays : goal.returns-clause-stays
returns-clause-stays c h = absurd (false≢true (sym c.if-is_empty.false ∙ c.is_empty.ensures ∙ ap (λ ds. length ds == 0) h))
