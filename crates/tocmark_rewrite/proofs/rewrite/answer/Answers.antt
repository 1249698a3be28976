use Rattle.std.proofs.Common.{sym, subst}
use Rattle.std.specs.List.{All}
use Rattle.std.specs.Prelude.{List}
use Rattle.tocmark_rewrite.specs.Kept.{AreCopied, IsTold}
use Rattle.tocmark_rewrite.specs.declared.output.Part.{Part}
use Rattle.tocmark_rewrite.proofs.rewrite.answer.Goals as goal

pub returns-clause-told : goal.returns-clause-told
returns-clause-told c = λ r given h.
    subst (λ (parts : List Part). All (IsTold r given parts) c.in_ok-trees.trees.items) c.deref.ensures.value
    (c.in_ok-trees.ensures.told r given h)

pub returns-clause-all : goal.returns-clause-all
returns-clause-all c = λ h.
    c.in_ok-trees.ensures.all (subst (λ (parts : List Part). AreCopied parts c.args.work.now.plans.now) (sym c.deref.ensures.value) h)
