use Rattle.std.proofs.Common.{◌∙◌, [], map, subst, sym}
use Rattle.std.proofs.lemmas.Result.{IfOk-weaker}
use Rattle.tocmark_spelling.specs.Buffered.{buffered_view}
use Rattle.tocmark_write_blocks.specs.Raw.{AreFenceRuns}
use Rattle.tocmark_write_blocks.proofs.RawLemmas.{all-runs, no-fence}
use Rattle.tocmark_write_blocks.proofs.raw_facts.fence_runs.Goals as goal

pub returns-then-not-fenced : goal.returns-then-not-fenced
returns-then-not-fenced c =
    no-fence c.args.token (map buffered_view c.args.events.now) c.new.result.items (sym c.requires.fenced ∙ c.if-not-fenced.true)

pub returns-then-has_no_runs : goal.returns-then-has_no_runs
returns-then-has_no_runs c =
    let events = map buffered_view c.args.events.now in
    subst (AreFenceRuns c.args.token events) (sym c.new-then-has_no_runs.ensures.items) (all-runs c.args.token events [] (c.has_no_runs.ensures c.if-has_no_runs.true))

pub returns : goal.returns
returns c =
    IfOk-weaker c.token_runs.result _ _ (λ runs h. all-runs c.args.token (map buffered_view c.args.events.now) runs.items h) c.token_runs.ensures
