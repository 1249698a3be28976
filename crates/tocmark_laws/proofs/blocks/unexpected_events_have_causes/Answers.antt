use Rattle.tocmark_state.specs.Walk.{nothing_yet}
use Rattle.tocmark_state.specs.WorkView.{rendering, rendering_behind}
use Rattle.tocmark_write_pending.proofs.Balanced.{reading-nothing}
use Rattle.tocmark_laws.proofs.Unexpected.{rendering-misplaced}
use Rattle.tocmark_laws.proofs.UnexpectedCauses.{told-misplaces, unexpected-cause}
use Rattle.tocmark_laws.proofs.blocks.unexpected_events_have_causes.Goals as goal

pub returns-clause-new : goal.returns-clause-new
returns-clause-new c = λ options reading flags source p h. unexpected-cause (rendering options reading) options reading source (nothing_yet flags) reading-nothing (rendering-misplaced options reading) p h

pub returns-clause-told : goal.returns-clause-told
returns-clause-told c = λ defined options reading source from begun p h.
    unexpected-cause (rendering_behind defined options reading) options reading source from begun (told-misplaces defined options reading) p h
