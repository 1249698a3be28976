use Rattle.std.proofs.Common.{◌∙◌, refl, sym, ap, arith, slice_index}
use Rattle.tocmark_write_blocks.specs.TokenRuns.{joined_runs}
use Rattle.tocmark_write_blocks.specs.declared.token_runs.TokenRuns.{TokenRuns}
use Rattle.tocmark_write_blocks.proofs.RunLemmas.{runs, runs-more, without}
use Rattle.tocmark_write_blocks.proofs.token_runs.byte_runs.Goals as goal

pub returns-then-not-contains : goal.returns-then-not-contains
returns-then-not-contains c =
    ap (λ (x : TokenRuns). runs x.front x.back x.longest c.is_empty.result) c.no_runs.ensures
    ∙ ap (runs 0 0 0) c.is_empty.ensures
    ∙ without c.args.byte c.args.bytes.now (sym c.contains.ensures.value ∙ c.if-not-contains.true)

pub loop-other-preserved : goal.loop-other-preserved
loop-other-preserved c =
    runs-more c.args.byte c.args.bytes.now c.loop-other.other-index (slice_index c.args.bytes.now c.loop-other.other-index) c.loop-other.runs c.in_ok-runs.runs
    (omega arith) refl c.loop-other.invariant (c.in_ok-runs.ensures ∙ ap (joined_runs c.loop-other.runs) c.one_run.ensures)
