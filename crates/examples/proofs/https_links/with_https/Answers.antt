use Rattle.std.proofs.Common.{◌∙◌, ℕ, List, ap, subst}
use Rattle.std.specs.List.{All}
use Rattle.tocmark_event.specs.Merged.{merged}
use Rattle.tocmark_event.specs.View.{EventView}
use Rattle.tocmark_compare.specs.Given.{given_events}
use Rattle.tocmark_rewrite.specs.Edited.{read_source}
use Rattle.tocmark_rewrite.specs.Kept.{IsTold}
use Rattle.examples.proofs.https_links.with_https.Goals as goal

pub returns-clause-same : goal.returns-clause-same
returns-clause-same g c =
    c.in_ok-answer.ensures.same ∙ ap merged (ap given_events c.deref.ensures.value ∙ c.in_ok-reading.ensures)

pub returns-clause-kept : goal.returns-clause-kept
returns-clause-kept g c =
    subst (λ (given : List EventView). All (IsTold (read_source (λ (text : List ℕ). g.R.Reader.reading c.args.reader.now text c.args.flags) c.args.text.now) given c.in_ok-answer.answer.parts.items) c.in_ok-answer.answer.trees.items)
    (ap given_events c.deref.ensures.value ∙ c.in_ok-reading.ensures)
    c.in_ok-answer.ensures.kept
