use Rattle.std.proofs.Common.{sym}
use Rattle.std.proofs.lemmas.Bool.{eqb-false}
use Rattle.tocmark_write_renderer.proofs.Laid.{part-laid}
use Rattle.tocmark_spelling.specs.Page.{prefix_of}
use Rattle.tocmark_write_renderer.specs.WriterOf.{levels_of, site_of}
use Rattle.tocmark_write_renderer.proofs.renderer.Renderer.write_part.Goals as goal

pub returns-clause-site : goal.returns-clause-site
returns-clause-site c =
    part-laid (prefix_of (levels_of c.args.self.now)) (site_of c.args.self.now) (site_of c.begin_line.new.self) (site_of c.put_text.new.self) (site_of c.set_newlines.new.self) c.in_ok-begin_line.ensures.site c.args.part.now c.requires (eqb-false _ 0 (sym c.if-is_empty.ensures)) c.in_ok-put_text.ensures.site c.set_newlines.ensures.site
