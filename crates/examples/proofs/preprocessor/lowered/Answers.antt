use Rattle.std.proofs.Common.{◌∙◌, ap}
use Rattle.tocmark_event.specs.Merged.{merged}
use Rattle.tocmark_compare.specs.Given.{given_events}
use Rattle.examples.proofs.preprocessor.lowered.Goals as goal

pub returns-clause-same : goal.returns-clause-same
returns-clause-same g c =
    c.in_ok-answer.ensures.same ∙ ap merged (ap given_events c.deref.ensures.value ∙ c.in_ok-reading.ensures)
