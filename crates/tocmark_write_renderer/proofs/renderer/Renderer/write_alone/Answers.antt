use Rattle.std.proofs.Common.{◌∙◌, [], ap}
use Rattle.tocmark_spelling.specs.Page.{laid}
use Rattle.tocmark_write_renderer.proofs.Laid.{bare-laid, stands-as}
use Rattle.tocmark_write_renderer.specs.Changes.{on_sheet}
use Rattle.tocmark_write_renderer.specs.FeedsOf.{feeds_behind}
use Rattle.tocmark_write_renderer.specs.WriterOf.{site_of}
use Rattle.tocmark_write_renderer.proofs.renderer.Renderer.write_alone.Goals as goal

pub returns-clause-written : goal.returns-clause-written
returns-clause-written c =
    stands-as c.set_newlines.new.self (on_sheet (laid [] c.args.text.now) (site_of c.args.self.now))
    (bare-laid c.args.text.now c.in_ok-newlines.newlines (site_of c.args.self.now) (site_of c.put_text.new.self) (site_of c.set_newlines.new.self) (c.in_ok-newlines.ensures ∙ ap (feeds_behind c.args.text.now) c.newlines.ensures) c.in_ok-put_text.ensures.site c.set_newlines.ensures.site)
