use Rattle.std.proofs.Common.{◌≡◌, ◌-◌, length, map}
use Rattle.tocmark_write_emphasis.specs.Low.{OpensLow}
use Rattle.tocmark_event.specs.Forest.{flat}
use Rattle.tocmark_write_renderer.specs.JobOf.{manner_view, setting_in}
use Rattle.tocmark_write_renderer.specs.WriterOf.{levels_of, site_of}
use Rattle.tocmark_spelling.specs.Body.{Trees}
use Rattle.tocmark_spelling.specs.Buffered.{buffered_view, following_view}
use Rattle.tocmark_write_unit.proofs.Rest.{rest_from}
use Rattle.tocmark_write_unit.proofs.block.write_unit.Given as goal

abbrev pub invariant-loop-place : goal.invariant-loop-place
invariant-loop-place g l =
    let reading = g.R.Reader.reading l.task.reader.now in
    let s = setting_in l.task.job reading in
    let m = manner_view l.task.manner in
    let next = following_view l.fn.unit.next in
    let es = map buffered_view l.events in
    record {
      mark : l.renderer.at_mark ≡ l.fn.renderer.at_mark;
      low : (f : Trees) → flat f ≡ es → OpensLow l.task.manner.delimiters (levels_of l.fn.renderer) → OpensLow l.task.manner.delimiters (levels_of l.renderer);
      same : (f : Trees) → flat f ≡ es → OpensLow l.task.manner.delimiters (levels_of l.fn.renderer) →
          rest_from s m next es l.place (site_of l.renderer) ≡ rest_from s m next es 0 (site_of l.fn.renderer);
    }

abbrev pub decreases-loop-place : goal.decreases-loop-place
decreases-loop-place g l = length l.events - l.place
