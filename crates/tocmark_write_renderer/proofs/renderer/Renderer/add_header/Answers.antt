use Rattle.std.proofs.Common.{◌∙◌, ap, is_some, string_bytes, sym}
use Rattle.tocmark_spelling.specs.Places.{with_header}
use Rattle.tocmark_write_renderer.proofs.Starts.{refits, starts-changed, starts-header}
use Rattle.tocmark_write_renderer.proofs.renderer.Renderer.add_header.Goals as goal

pub invariant_of-self : goal.invariant_of-self
invariant_of-self c = record {
  both = c.self.invariant.both ∙ ap is_some (sym c.add_header.ensures.mark);
  fits = refits c.self.inside c.add_header.new.self c.add_header.ensures.mark c.self.invariant.fits;
  starts =
      starts-changed c.add_header.result (string_bytes c.self.inside.text) c.self.inside.containers.path c.add_header.new.self.path (with_header c.args.width c.self.inside.containers.path)
      c.add_header.ensures.path c.add_header.ensures.stays
      (starts-header (string_bytes c.self.inside.text) c.args.width c.self.inside.containers.path c.self.invariant.starts) c.self.invariant.starts;
  runs = c.self.invariant.runs;
}
