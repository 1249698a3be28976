use Rattle.std.proofs.Common.{rules, sym, arith}
use Rattle.std.proofs.lemmas.List.Sorted.{IsPartitionPoint-from_clause}
use Rattle.tocmark_write_renderer.specs.RunsOf.{is_reached}
use Rattle.tocmark_write_renderer.proofs.Reached.{last-covers, last-free, none-reached, reached-first}
use Rattle.tocmark_write_renderer.proofs.marker_runs.length_round.Goals as goal
use Rattle.tocmark_write_renderer.proofs.marker_runs.length_round.Goals.{else-count-gt0-via-then-count-gt0+else-covers, else-count-gt0-via-else-count-gt0}

pub returns-then-covers : goal.returns-then-covers
returns-then-covers c =
    let point = IsPartitionPoint-from_clause (is_reached c.args.marker c.args.place) _ _ c.partition_point-count.ensures.partitioned (reached-first c.args.marker c.args.place c.requires.0 c.args.runs.now c.requires.1) (λ a r q k. search rules) in
    sym (last-covers c.args.marker c.args.place c.requires.0 c.partition_point-count.result c.args.runs.now c.requires.1 c.partition_point-count.ensures.bound point (record { marker = 0; start = 0; length = 0 }) c.if-count-gt0.true (sym c.if-covers.ensures))

pub returns-else-count-gt0 : goal.returns-else-count-gt0
returns-else-count-gt0 c =
    let point = IsPartitionPoint-from_clause (is_reached c.args.marker c.args.place) _ _ c.partition_point-count.ensures.partitioned (reached-first c.args.marker c.args.place c.requires.0 c.args.runs.now c.requires.1) (λ a r q k. search rules) in
    elim c.else-count-gt0.branch [
      | else-count-gt0-via-then-count-gt0+else-covers w ↦
          sym (last-free c.args.marker c.args.place c.requires.0 c.partition_point-count.result c.args.runs.now c.requires.1 c.partition_point-count.ensures.bound point (record { marker = 0; start = 0; length = 0 }) w.if-count-gt0.true (sym w.if-covers.ensures))
      | else-count-gt0-via-else-count-gt0 w ↦
          sym (none-reached c.args.marker c.args.place c.requires.0 c.partition_point-count.result c.args.runs.now c.requires.1 c.partition_point-count.ensures.bound point (omega (arith, w.if-count-gt0.false)))
    ]
