use Rattle.std.proofs.Common.{string_bytes, subst, sym}
use Rattle.tocmark_write_renderer.specs.RunsOf.{AreNoted}
use Rattle.tocmark_write_renderer.proofs.Notes.{grown-noted}
use Rattle.tocmark_write_renderer.specs.RendererOf.{AreCut}
use Rattle.tocmark_write_renderer.proofs.Marks.{text-grows}
use Rattle.tocmark_write_renderer.proofs.Starts.{starts-grow}
use Rattle.tocmark_write_renderer.proofs.renderer.Renderer.begin_line.Goals as goal

pub invariant_of-self : goal.invariant_of-self
invariant_of-self c = record {
  both = c.self.invariant.both;
  fits = text-grows c.self.inside c.push_str.new.self c.prefix.result.now c.self.inside.mark c.prefix.utf8 c.in_ok-push_str.ensures.bytes c.self.invariant.fits;
  starts = subst (λ t. AreCut t c.self.inside.containers.path) (sym c.in_ok-push_str.ensures.bytes) (starts-grow (string_bytes c.self.inside.text) c.prefix.result.now c.self.inside.containers.path c.prefix.utf8 c.self.invariant.starts);
  runs = subst (AreNoted c.self.inside.runs) (sym c.in_ok-push_str.ensures.bytes) (grown-noted c.self.inside.runs (string_bytes c.self.inside.text) c.prefix.result.now c.self.invariant.runs);
}
