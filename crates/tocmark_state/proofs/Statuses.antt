-- A state has one status.
use Rattle.std.proofs.Common.{◌≡◌}
use Rattle.tocmark_state.specs.declared.state.Status.{Status}
use Rattle.tocmark_state.specs.declared.state.Status.TheVariants.{Active, Finished, Failed}

pub not_finished : {A : Type 0} (s : Status) → s ≡ Active → s ≡ Finished → A
not_finished s h k = absurd (cc)

pub not_failed : {A : Type 0} (s : Status) → s ≡ Active → s ≡ Failed → A
not_failed s h k = absurd (cc)
