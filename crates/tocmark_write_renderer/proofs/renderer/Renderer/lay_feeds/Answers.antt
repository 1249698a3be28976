use Rattle.std.proofs.Common.{◌∙◌, sym}
use Rattle.std.proofs.lemmas.Bool.{eqb-true}
use Rattle.tocmark_write_renderer.proofs.Laid.{nothing}
use Rattle.tocmark_write_renderer.proofs.renderer.Renderer.lay_feeds.Goals as goal

pub lay_bare_feeds-requires : goal.lay_bare_feeds-requires
lay_bare_feeds-requires c = sym c.prefix.ensures ∙ nothing c.prefix.result.now (eqb-true _ 0 (sym c.if-is_empty.ensures))
