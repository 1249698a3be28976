use Rattle.std.proofs.Common.{◌∙◌, ap, is_some, string_bytes, sym}
use Rattle.tocmark_spelling.specs.Places.{widened}
use Rattle.tocmark_write_renderer.proofs.Starts.{refits, starts-changed, starts-widened}
use Rattle.tocmark_write_renderer.proofs.renderer.Renderer.widen.Goals as goal

pub invariant_of-self : goal.invariant_of-self
invariant_of-self c = record {
  both = c.self.invariant.both ∙ ap is_some (sym c.widen.ensures.mark);
  fits = refits c.self.inside c.widen.new.self c.widen.ensures.mark c.self.invariant.fits;
  starts =
      starts-changed c.widen.result (string_bytes c.self.inside.text) c.self.inside.containers.path c.widen.new.self.path (widened c.args.characters c.self.inside.containers.path)
      c.widen.ensures.path c.widen.ensures.stays
      (starts-widened (string_bytes c.self.inside.text) c.args.characters c.self.inside.containers.path c.self.invariant.starts) c.self.invariant.starts;
  runs = c.self.invariant.runs;
}
