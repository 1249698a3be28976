use Rattle.std.proofs.Common.{◌≡◌, length}
use denote.Text.{Utf8}
use denote.Shadow.{shadow}
use Rattle.tocmark_spelling.specs.Page.{laid, prefix_of}
use Rattle.tocmark_write_renderer.specs.Changes.{on_sheet}
use Rattle.tocmark_write_renderer.specs.WriterOf.{levels_of, site_of}
use Rattle.tocmark_write_renderer.proofs.renderer.Renderer.lay_lines.Given as goal

abbrev pub invariant-loop-line : goal.invariant-loop-line
invariant-loop-line l =
    record {
      text : shadow (Utf8 l.rest);
      path : levels_of l.self ≡ levels_of l.initial.self;
      mark : l.self.at_mark ≡ l.initial.self.at_mark;
      written :
          on_sheet (laid (prefix_of (levels_of l.initial.self)) l.rest) (site_of l.self)
          ≡ on_sheet (laid (prefix_of (levels_of l.initial.self)) l.text) (site_of l.initial.self);
    }

abbrev pub decreases-loop-line : goal.decreases-loop-line
decreases-loop-line l = length l.rest
