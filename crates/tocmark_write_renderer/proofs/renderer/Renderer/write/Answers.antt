use Rattle.std.proofs.Common.{sym}
use Rattle.std.proofs.lemmas.Bool.{eqb-true}
use Rattle.std.proofs.lemmas.Result.{on_ok_weaker}
use Rattle.tocmark_spelling.specs.Page.{prefix_of}
use Rattle.tocmark_write_renderer.proofs.Laid.{unprefixed}
use Rattle.tocmark_write_renderer.specs.WriterOf.{levels_of, page_of}
use Rattle.tocmark_write_renderer.proofs.renderer.Renderer.write.Goals as goal

pub returns-then-is_empty-clause-written : goal.returns-then-is_empty-clause-written
returns-then-is_empty-clause-written c =
    on_ok_weaker
    c.write_alone.result
    (λ h. unprefixed (prefix_of (levels_of c.args.self.now)) c.prefix.result.now c.args.text.now c.write_alone.new.self (levels_of c.args.self.now) (page_of c.args.self.now) c.prefix.ensures (eqb-true _ 0 (sym c.if-is_empty.ensures)) h)
    c.write_alone.ensures.written
