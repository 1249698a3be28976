use Rattle.tocmark_state.specs.Walk.{nothing_yet}
use Rattle.tocmark_state.specs.WorkView.{rendering, rendering_behind}
use Rattle.tocmark_write_labels.specs.Defined.{behind}
use Rattle.tocmark_write_pending.proofs.Balanced.{reading-nothing}
use Rattle.tocmark_laws.proofs.Unexpected.{rendering-unrepresentable}
use Rattle.tocmark_laws.proofs.UnexpectedCauses.{told-represents, unrepresentable-cause}
use Rattle.tocmark_laws.proofs.blocks.unrepresentable_lists_have_causes.Goals as goal

pub returns-clause-new : goal.returns-clause-new
returns-clause-new c = λ options reading flags source p h. unrepresentable-cause (rendering options reading) options reading source (nothing_yet flags) reading-nothing (λ d. d) (rendering-unrepresentable options reading) p h

pub returns-clause-told : goal.returns-clause-told
returns-clause-told c = λ defined options reading source from begun p h.
    unrepresentable-cause (rendering_behind defined options reading) options reading source from begun (behind defined) (told-represents defined options reading) p h
