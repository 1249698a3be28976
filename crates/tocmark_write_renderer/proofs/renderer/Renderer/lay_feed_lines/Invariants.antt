use Rattle.std.proofs.Common.{◌≡◌, replicate}
use Rattle.tocmark_spelling.specs.Page.{laid, prefix_of}
use Rattle.tocmark_write_renderer.specs.Changes.{on_sheet}
use Rattle.tocmark_write_renderer.specs.WriterOf.{levels_of, site_of}
use Rattle.tocmark_write_renderer.proofs.renderer.Renderer.lay_feed_lines.Given as goal

abbrev pub invariant-loop-line : goal.invariant-loop-line
invariant-loop-line l =
    record {
      mark : l.self.at_mark ≡ l.fn.self.at_mark;
      written : site_of l.self ≡ on_sheet (laid (prefix_of (levels_of l.fn.self)) (replicate l._line 10)) (site_of l.fn.self);
    }
