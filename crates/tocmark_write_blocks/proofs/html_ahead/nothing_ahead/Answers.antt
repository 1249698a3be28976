use Rattle.std.proofs.Common.{◌∙◌, false, [], sym, ap, length}
use Rattle.tocmark_write_blocks.specs.BlockEnds.{ends_in}
use Rattle.tocmark_write_blocks.specs.declared.block_ends.BlockEnds.{BlockEnds}
use Rattle.tocmark_write_blocks.proofs.TrimLemmas.{trim-nil}
use Rattle.tocmark_write_blocks.proofs.html_ahead.nothing_ahead.Goals as goal

pub returns : goal.returns
returns c =
    ap (λ (e : BlockEnds). record { left = 0; visible = 0; ends = e; events = 0; blank = false }) c.no_ends.ensures
    ∙ ap (λ v. record { left = 0; visible = v; ends = ends_in []; events = 0; blank = false }) (ap length (sym trim-nil))
