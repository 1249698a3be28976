use Rattle.std.proofs.Common.{◌∙◌, All, ap, map, subst, List, ℕ, Option}
use Rattle.std.specs.Prelude.{IfNone}
use Rattle.tocmark_reader.specs.Definitions.{SaidDefinition, said_view}
use Rattle.tocmark_redefine.specs.Defined.{IsOfGiven, IsSaid}
use Rattle.tocmark_redefine.specs.Followed.{definitions_under}
use Rattle.tocmark_redefine.proofs.defining.with_definitions.Goals as goal

pub returns-in-None-clause-defined : goal.returns-in-None-clause-defined
returns-in-None-clause-defined c =
    let all = c.args.all.now in
    let given : All (IsSaid (map said_view c.deref-4.result.now) (map said_view c.deref-5.result.now)) all =
    subst (λ (o : Option ℕ). IfNone o (All (IsSaid (map said_view c.deref-4.result.now) (map said_view c.deref-5.result.now)) all)) c.in-None.is c.first_unsaid.ensures in
    record {
      changes = record { destinations = c.in_ok-destinations.destinations; titles = c.in_ok-titles.titles };
      is_redefined = c.in_ok-new.ensures.redefined;
      destinations =
          subst (λ (ds : List SaidDefinition). All (IsOfGiven ds all) c.in_ok-destinations.destinations.items) (ap (map said_view) c.deref-2.ensures.value ∙ c.in_ok-olds.ensures.exact) c.in_ok-destinations.ensures;
      titles =
          subst (λ (ds : List SaidDefinition). All (IsOfGiven ds all) c.in_ok-titles.titles.items) (ap (map said_view) c.deref-3.ensures.value ∙ c.in_ok-olds.ensures.exact) c.in_ok-titles.ensures;
      are_said =
          subst (λ (ds : List SaidDefinition). All (IsSaid (definitions_under c.args.flags c.args.source.now) ds) all) (ap (map said_view) c.deref-5.ensures.value ∙ c.in_ok-new.ensures.news)
          (subst (λ (ds : List SaidDefinition). All (IsSaid ds (map said_view c.deref-5.result.now)) all) (ap (map said_view) c.deref-4.ensures.value ∙ c.in_ok-new.ensures.olds) given);
    }
