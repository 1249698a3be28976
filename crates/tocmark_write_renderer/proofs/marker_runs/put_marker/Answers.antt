use Rattle.std.proofs.Common.{◌≡◌, arith, length, sym}
use Rattle.tocmark_write_renderer.proofs.Notes.{last-longer}
use Rattle.tocmark_write_renderer.proofs.marker_runs.put_marker.Goals as goal

pub returns-then-ends_at-clause-more : goal.returns-then-ends_at-clause-more
returns-then-ends_at-clause-more c =
    let count : c.len-count.result ≡ length c.args.runs.now.items = omega (arith, c.len-count.ensures) in
    last-longer c.args.runs.now.items c.len-count.result c.args.marker c.args.place c.index_mut.result.now c.index.result.now c.if-count-gt0.true count c.index_mut.ensures.value c.index.ensures (sym c.if-ends_at.ensures)
