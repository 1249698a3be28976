use Rattle.std.proofs.Common.{refl}
use Rattle.serde_json.specs.Data.{member, no_members}
use Rattle.tocmark_json.specs.Node.{view}
use Rattle.tocmark_json.specs.Json.{tagged}
use Rattle.tocmark_json.specs.Place.{IsNoneOf}
use Rattle.tocmark_json.proofs.Refusals.{none_given}
use Rattle.tocmark_json.proofs.parts.one_named.Goals as goal

pub returns-in_err-found-clause-none : goal.returns-in_err-found-clause-none
returns-in_err-found-clause-none c =
    none_given c.from_residual.result (IsNoneOf (tagged c.args.name.now) (view c.args.value.now)) (λ d h. c.in_err-found.ensures.none (member c.args.name.now d no_members) h refl)
