use Rattle.std.proofs.Common.{◌∙◌, ap}
use Rattle.tocmark_spelling.specs.Page.{Site, prefix_of}
use Rattle.tocmark_write_renderer.specs.WriterOf.{levels_of, site_of}
use Rattle.tocmark_write_renderer.proofs.Laid.{feeds-laid}
use Rattle.tocmark_write_renderer.proofs.renderer.Renderer.lay_feed_lines.Goals as goal

pub loop-line-preserved : goal.loop-line-preserved
loop-line-preserved c =
    record {
      mark = c.in_ok-write_feed.ensures.mark ∙ c.loop-line.invariant.mark;
      written = feeds-laid (prefix_of (levels_of c.args.self.now)) (prefix_of (levels_of c.loop-line.self)) c.loop-line._line (site_of c.args.self.now) (site_of c.loop-line.self) (site_of c.write_feed.new.self) (ap (λ (x : Site). prefix_of x.path) c.loop-line.invariant.written) c.loop-line.invariant.written c.in_ok-write_feed.ensures.site;
    }
