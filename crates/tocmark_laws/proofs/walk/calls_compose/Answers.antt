use Rattle.std.proofs.Common.{[], refl}
use Rattle.tocmark_state.specs.Walk.{nothing_yet}
use Rattle.tocmark_laws.proofs.Calls.{calls_make}
use Rattle.tocmark_laws.proofs.walk.calls_compose.Goals as goal

pub returns : goal.returns
returns g c how flags source calls w v counts r h =
    calls_make g.W.Taker.takes g.W.Taker.refuses how flags source calls [] (nothing_yet flags) w w v counts r refl refl h
