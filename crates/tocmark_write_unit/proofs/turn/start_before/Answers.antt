use Rattle.std.proofs.Common.{◌≡◌, ◌<◌, ◌∙◌, sym, length, arith, string_bytes}
use Rattle.std.proofs.lemmas.Result.{err_from_is_err_and}
use Rattle.tocmark_write_pending.proofs.Closers.{end-missing, end-place}
use Rattle.tocmark_event.specs.View.{tag_view}
use Rattle.tocmark_write_renderer.specs.JobOf.{label_in, manner_view, options_in, setting_in}
use Rattle.tocmark_write_renderer.specs.WriterOf.{site_of}
use Rattle.tocmark_spelling.specs.Scans.{span}
use Rattle.tocmark_write_unit.proofs.Events.{by-id-found}
use Rattle.tocmark_write_unit.proofs.Steps.{start-fails, start-moves, start-passes, start-refused}
use Rattle.tocmark_write_unit.specs.NeighboursOf.{before_in, next_in, rest_in, unit_in}
use Rattle.tocmark_write_unit.proofs.turn.start_before.Goals as goal

pub returns-in-None-clause-moves : goal.returns-in-None-clause-moves
returns-in-None-clause-moves g c = λ f forest opens.
    let a = c.args in
    let n = a.around in
    let is = c.requires.around in
    let rest = rest_in n in
    let t = tag_view string_bytes a.tag.now in
    let missing = end-missing (unit_in n) rest n.place t c.end_of.result is.at (c.end_of.ensures is.ends) c.in-None.is in
    start-refused (setting_in a.task.now.job (g.R.Reader.reading a.task.now.reader.now)) (manner_view a.task.now.manner) (next_in n) t rest (before_in n) (site_of a.renderer.now) missing

pub returns-in_err-start-clause-moves : goal.returns-in_err-start-clause-moves
returns-in_err-start-clause-moves g c = λ f forest opens.
    let a = c.args in
    let n = a.around in
    let is = c.requires.around in
    let rest = rest_in n in
    let ended = end-place (unit_in n) rest n.place (tag_view string_bytes a.tag.now) c.end_of.result is.at (c.end_of.ensures is.ends) c.in-Some.end c.in-Some.is in
    let lt : span 0 rest < length rest = ended.1 in
    let p = err_from_is_err_and c.from_residual.result c.from_residual.ensures.1 in
    rw (p.1, p.2) (start-fails (setting_in a.task.now.job (g.R.Reader.reading a.task.now.reader.now)) (manner_view a.task.now.manner) (next_in n) (tag_view string_bytes a.tag.now) rest (before_in n) (site_of a.renderer.now) lt c.in_err-start.field-0.0 (c.in_err-start.ensures.comes f forest opens))

pub returns-in_ok-write_id-clause-moves : goal.returns-in_ok-write_id-clause-moves
returns-in_ok-write_id-clause-moves g c = λ f forest opens.
    let a = c.args in
    let n = a.around in
    let is = c.requires.around in
    let rest = rest_in n in
    let reading = g.R.Reader.reading a.task.now.reader.now in
    let t = tag_view string_bytes a.tag.now in
    let s = setting_in a.task.now.job reading in
    let m = manner_view a.task.now.manner in
    let ended = end-place (unit_in n) rest n.place t c.end_of.result is.at (c.end_of.ensures is.ends) c.in-Some.end c.in-Some.is in
    let lt : span 0 rest < length rest = ended.1 in
    let width : c.width_before.result ≡ span 0 rest = omega (arith, c.width_before.ensures, ended.0) in
    let named = c.is_named.ensures ∙ (by-id-found m (options_in a.task.now.job) a.task.now.job.flags (label_in a.task.now.job) reading (next_in n) f (unit_in n) n.found.now.named.items forest is.found.named).at n.place t rest is.at in
    start-passes s m (next_in n) t rest (before_in n) (site_of a.renderer.now) lt c.start.new.renderer (c.in_ok-start.ensures.comes f forest opens) c.write_id.new.renderer c.width_before.result width (sym c.if-is_named.true ∙ named) c.in_ok-write_id.ensures.stands

pub returns-else-is_named-clause-moves : goal.returns-else-is_named-clause-moves
returns-else-is_named-clause-moves g c = λ f forest opens.
    let a = c.args in
    let n = a.around in
    let is = c.requires.around in
    let rest = rest_in n in
    let reading = g.R.Reader.reading a.task.now.reader.now in
    let t = tag_view string_bytes a.tag.now in
    let s = setting_in a.task.now.job reading in
    let m = manner_view a.task.now.manner in
    let ended = end-place (unit_in n) rest n.place t c.end_of.result is.at (c.end_of.ensures is.ends) c.in-Some.end c.in-Some.is in
    let lt : span 0 rest < length rest = ended.1 in
    let named = c.is_named.ensures ∙ (by-id-found m (options_in a.task.now.job) a.task.now.job.flags (label_in a.task.now.job) reading (next_in n) f (unit_in n) n.found.now.named.items forest is.found.named).at n.place t rest is.at in
    start-moves s m (next_in n) t rest (before_in n) (site_of a.renderer.now) lt c.start.new.renderer (c.in_ok-start.ensures.comes f forest opens) (sym c.if-is_named.false ∙ named)
