use Rattle.std.proofs.Common.{string_bytes, subst, sym}
use Rattle.tocmark_write_renderer.specs.RunsOf.{AreNoted}
use Rattle.tocmark_write_renderer.proofs.Notes.{grown-noted}
use Rattle.tocmark_write_renderer.specs.RendererOf.{AreCut}
use Rattle.tocmark_write_renderer.proofs.Marks.{text-grows}
use Rattle.tocmark_write_renderer.proofs.Starts.{starts-grow}
use Rattle.tocmark_write_renderer.proofs.renderer.Renderer.put_text.Goals as goal

pub invariant_of-self-2 : goal.invariant_of-self-2
invariant_of-self-2 c = record {
  both = c.self.invariant.both;
  fits = text-grows c.self.inside c.push_str.new.self c.args.text.now c.self.inside.mark c.utf8.text c.in_ok-push_str.ensures.bytes c.self.invariant.fits;
  starts = subst (λ t. AreCut t c.self.inside.containers.path) (sym c.in_ok-push_str.ensures.bytes) (starts-grow (string_bytes c.self.inside.text) c.args.text.now c.self.inside.containers.path c.utf8.text c.self.invariant.starts);
  runs = subst (AreNoted c.self.inside.runs) (sym c.in_ok-push_str.ensures.bytes) (grown-noted c.self.inside.runs (string_bytes c.self.inside.text) c.args.text.now c.self.invariant.runs);
}
