use Rattle.std.proofs.Common.{◌∙◌, ap, chars, length, refl, sym}
use Rattle.tocmark_write_containers.proofs.Says.{no-cell}
use Rattle.tocmark_write_containers.specs.declared.outside.Outside.{Outside}
use Rattle.tocmark_write_inlines.proofs.inline_leaf.widen_by_text.Goals as goal

pub returns-in-None-clause-stands : goal.returns-in-None-clause-stands
returns-in-None-clause-stands c = record {
  path_is = no-cell (length (chars c.args.text.now)) c.args.renderer.now.site.path (sym (ap (λ (o : Outside). o.cell) c.outside.ensures) ∙ c.in-None.is);
  page_is = refl;
}
