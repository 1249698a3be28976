use Rattle.std.proofs.Common.{◌∙◌, sym, map}
use Rattle.std.proofs.lemmas.Result.{IfOk-weaker}
use Rattle.tocmark_event.specs.Options.{options_view}
use Rattle.tocmark_spelling.specs.Buffered.{buffered_view}
use Rattle.tocmark_write_blocks.proofs.RawLemmas.{no-other, other-runs}
use Rattle.tocmark_write_blocks.proofs.raw_facts.other_runs.Goals as goal

pub returns-then-has_other_fences : goal.returns-then-has_other_fences
returns-then-has_other_fences c =
    IfOk-weaker c.token_runs.result _ _ (λ runs h. other-runs (options_view c.args.options.now) (map buffered_view c.args.events.now) runs.items h)
    c.token_runs.ensures

pub returns-else-has_other_fences : goal.returns-else-has_other_fences
returns-else-has_other_fences c =
    no-other (options_view c.args.options.now) (map buffered_view c.args.events.now) c.new.result.items
    (sym c.has_other_fences.ensures ∙ c.if-has_other_fences.false)
