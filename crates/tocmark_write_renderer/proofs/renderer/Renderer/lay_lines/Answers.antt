use Rattle.std.proofs.Common.{◌∙◌, sym, ap, subst, lit<}
use Rattle.std.specs.Str.{IsUtf8}
use Rattle.tocmark_write_renderer.specs.WriterOf.{levels_of, site_of, HasNoFeed}
use Rattle.tocmark_spelling.specs.Page.{Site, prefix_of}
use Rattle.tocmark_write_renderer.proofs.Laid.{before-feed, no-feed, line-laid, after-text}
use Rattle.tocmark_write_renderer.proofs.renderer.Renderer.lay_lines.Goals as goal

pub write_part-requires : goal.write_part-requires
write_part-requires c =
    let parts = (c.in-Some.ensures.byte (lit< tt) (λ w o h. h)) in
    subst HasNoFeed (sym parts.0) (before-feed c.loop-line.rest.now)

pub write_part-requires-2 : goal.write_part-requires-2
write_part-requires-2 c = no-feed c.loop-line.rest.now (c.in_default.ensures.byte (lit< tt) (λ w o h. h))

pub loop-line-preserved : goal.loop-line-preserved
loop-line-preserved c =
    let parts = (c.in-Some.ensures.byte (lit< tt) (λ w o h. h)) in
    let start = c.loop-line.invariant.path in
    let part = ap (λ (x : Site). x.path) c.in_ok-write_part.ensures.site ∙ start in
    record {
      text = subst IsUtf8 (sym parts.1) (after-text c.loop-line.rest.now c.loop-line.invariant.text parts.2);
      path = ap (λ (x : Site). x.path) c.in_ok-write_feed.ensures.site ∙ part;
      mark = c.in_ok-write_feed.ensures.mark ∙ c.in_ok-write_part.ensures.mark ∙ c.loop-line.invariant.mark;
      written =
          line-laid (prefix_of (levels_of c.args.self.now)) c.loop-line.rest.now c.in-Some.line.now c.in-Some.more.now (prefix_of (levels_of c.loop-line.self)) (prefix_of (levels_of c.write_part.new.self)) (site_of c.loop-line.self) (site_of c.write_part.new.self) (site_of c.write_feed.new.self) (ap (λ x. prefix_of x) start) (ap (λ x. prefix_of x) part) parts.2 parts.0 parts.1 c.in_ok-write_part.ensures.site c.in_ok-write_feed.ensures.site
          ∙ c.loop-line.invariant.written;
    }
