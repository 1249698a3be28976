use Rattle.std.proofs.Common.{◌≡◌, ◌∙◌, List, ap, subst}
use Rattle.tocmark_event.specs.View.{EventView}
use Rattle.tocmark_compare.specs.Given.{given_events}
use Rattle.tocmark_rewrite.specs.Edited.{HasItsCause, IsWrittenFor}
use Rattle.tocmark_documents.specs.Rewriting.{reading_under}
use Rattle.tocmark_documents.proofs.rewriting.rewritten_pairs.Goals as goal

pub returns-in-Ok-clause-edited : goal.returns-in-Ok-clause-edited
returns-in-Ok-clause-edited c =
    let same : given_events c.lent.result.now ≡ given_events c.args.pairs.items = ap given_events (c.lent.ensures ∙ c.deref.ensures.value) ∙ c.in_ok-events.ensures ∙ c.in_ok-placed.ensures in
    subst (λ (es : List EventView). IsWrittenFor (reading_under c.args.flags) c.args.source.now es c.in-Ok.answer) same
    (record { same = c.in-Ok.ensures.same; labels = c.in-Ok.ensures.labels; trees = c.in-Ok.ensures.trees; unchanged = c.in-Ok.ensures.unchanged; kept = c.in-Ok.ensures.kept })

pub returns-clause-block : goal.returns-clause-block
returns-clause-block c =
    let same : given_events c.lent.result.now ≡ given_events c.args.pairs.items = ap given_events (c.lent.ensures ∙ c.deref.ensures.value) ∙ c.in_ok-events.ensures ∙ c.in_ok-placed.ensures in
    c.refusal_of.ensures (reading_under c.args.flags) (given_events c.args.pairs.items)
    (subst (λ (es : List EventView). HasItsCause (reading_under c.args.flags) c.args.source.now es c.in-Err.fault) same c.in-Err.ensures.refused)
