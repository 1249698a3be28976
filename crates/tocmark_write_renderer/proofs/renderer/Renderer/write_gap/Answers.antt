use Rattle.std.proofs.Common.{◌∙◌, ap, string_bytes, sym}
use Rattle.tocmark_event.specs.View.{event_view}
use Rattle.tocmark_spelling.specs.Page.{Site}
use Rattle.tocmark_write_renderer.proofs.NoGaps.{gap-in-line}
use Rattle.tocmark_write_renderer.specs.WriterOf.{levels_of, page_of}
use Rattle.tocmark_write_renderer.proofs.renderer.Renderer.write_gap.Goals as goal

pub returns-then-owes_nothing-clause-stands : goal.returns-then-owes_nothing-clause-stands
returns-then-owes_nothing-clause-stands c =
    record {
      path_is = ap (λ (x : Site). x.path) c.go_on.ensures.site;
      page_is = ap (λ (x : Site). x.page) c.go_on.ensures.site ∙ sym (gap-in-line (event_view string_bytes c.args.event.now) (levels_of c.args.self.now) (page_of c.args.self.now) (sym c.is_in_line.ensures ∙ c.if-is_in_line.true) (sym c.owes_nothing.ensures ∙ c.if-owes_nothing.true));
    }
