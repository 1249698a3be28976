use Rattle.std.proofs.Common.{◌∙◌, refl, string_bytes, subst, sym}
use Rattle.std.proofs.lemmas.Bool.{eqb-false, eqb-true}
use Rattle.tocmark_write_texts.specs.Escape.{escaped, place_of}
use Rattle.tocmark_write_texts.proofs.Fronts.{escaped-utf8}
use Rattle.tocmark_spelling.specs.Page.{Site, laid, prefix_of}
use Rattle.tocmark_write_renderer.proofs.Escapes.{escaped-free, escaped-some, nothing-laid}
use Rattle.tocmark_write_renderer.proofs.Laid.{part-laid, stands-as}
use Rattle.tocmark_write_renderer.proofs.Marks.{line-grows, line-stands, with_text}
use Rattle.tocmark_write_renderer.proofs.Notes.{grown-noted}
use Rattle.tocmark_write_renderer.proofs.Starts.{starts-grow}
use Rattle.tocmark_write_renderer.specs.Changes.{on_sheet, with_feeds, with_more}
use Rattle.tocmark_write_renderer.specs.RendererOf.{AreCut, rendering_of}
use Rattle.tocmark_write_renderer.specs.RunsOf.{AreNoted}
use Rattle.tocmark_write_renderer.specs.WriterOf.{levels_of, site_of}
use Rattle.tocmark_write_renderer.proofs.renderer.Renderer.write_escaped.Goals as goal

pub returns-then-is_empty-clause-written : goal.returns-then-is_empty-clause-written
returns-then-is_empty-clause-written c =
    let here = site_of c.args.self.now in
    let prefix = prefix_of (levels_of c.args.self.now) in
    let place = place_of c.args.place.now in
    stands-as c.args.self.now (on_sheet (laid prefix (escaped place c.args.text.now)) here) (nothing-laid prefix place c.args.text.now here (eqb-true _ 0 (sym c.if-is_empty.ensures)))

pub invariant_of-self-2 : goal.invariant_of-self-2
invariant_of-self-2 c =
    let more = escaped (place_of c.args.place.now) c.args.text.now in
    let utf8 = escaped-utf8 (place_of c.args.place.now) c.args.text.now c.utf8.text in
    let bytes = c.in_ok-push_escaped.ensures.bytes in
    record {
      both = c.self.invariant.both;
      fits = line-grows c.self.inside c.push_escaped.new.to more utf8 bytes c.self.invariant.fits;
      starts = subst (λ t. AreCut t c.self.inside.containers.path) (sym bytes) (starts-grow (string_bytes c.self.inside.text) more c.self.inside.containers.path utf8 c.self.invariant.starts);
      runs = subst (AreNoted c.self.inside.runs) (sym bytes) (grown-noted c.self.inside.runs (string_bytes c.self.inside.text) more c.self.invariant.runs);
    }

pub returns-clause-written : goal.returns-clause-written
returns-clause-written c =
    let here = site_of c.args.self.now in
    let prefix = prefix_of (levels_of c.args.self.now) in
    let place = place_of c.args.place.now in
    let text = c.args.text.now in
    let more = escaped place text in
    let two : Site = on_sheet (with_more more) (site_of c.begin_line.new.self) in
    let laid_is = part-laid prefix here (site_of c.begin_line.new.self) two (on_sheet (with_feeds 0) two) c.in_ok-begin_line.ensures.site more (escaped-free place text c.utf8.text) (escaped-some place text c.utf8.text (eqb-false _ 0 (sym c.if-is_empty.ensures))) refl refl in
    stands-as (rendering_of (with_text c.self.inside c.push_escaped.new.to)) (on_sheet (laid prefix more) here)
    (line-stands c.self.inside c.push_escaped.new.to more c.begin_line.new.self c.in_ok-push_escaped.ensures.bytes c.self.view_is ∙ laid_is)
