use Rattle.std.proofs.Common.{sym, ◌∙◌, string_bytes}
use Rattle.tocmark_event.specs.View.{tag_view}
use Rattle.tocmark_write_renderer.specs.JobOf.{label_in, manner_view, options_in, setting_in}
use Rattle.tocmark_write_unit.proofs.Events.{by-id-found}
use Rattle.tocmark_write_unit.specs.NeighboursOf.{look_in, next_in, rest_in, unit_in}
use Rattle.tocmark_write_unit.proofs.turn.open_container.Goals as goal

pub returns-in_ok-start_named-in-Link-clause-comes : goal.returns-in_ok-start_named-in-Link-clause-comes
returns-in_ok-start_named-in-Link-clause-comes g c = λ f forest opens.
    let a = c.args in
    let n = a.around in
    let is = c.requires.around in
    let t = tag_view string_bytes a.tag.now in
    let reading = g.R.Reader.reading a.task.now.reader.now in
    let s = setting_in a.task.now.job reading in
    let m = manner_view a.task.now.manner in
    let named = c.is_named.ensures ∙ (by-id-found m (options_in a.task.now.job) a.task.now.job.flags (label_in a.task.now.job) reading (next_in n) f (unit_in n) n.found.now.named.items forest is.found.named).at n.place t (rest_in n) is.at in
    c.in_ok-start_named-in-Link.ensures.stands s m (look_in s m t n) (sym named)

pub returns-in_ok-start_named-in-Image-clause-comes : goal.returns-in_ok-start_named-in-Image-clause-comes
returns-in_ok-start_named-in-Image-clause-comes g c = λ f forest opens.
    let a = c.args in
    let n = a.around in
    let is = c.requires.around in
    let t = tag_view string_bytes a.tag.now in
    let reading = g.R.Reader.reading a.task.now.reader.now in
    let s = setting_in a.task.now.job reading in
    let m = manner_view a.task.now.manner in
    let named = c.is_named-in-Image.ensures ∙ (by-id-found m (options_in a.task.now.job) a.task.now.job.flags (label_in a.task.now.job) reading (next_in n) f (unit_in n) n.found.now.named.items forest is.found.named).at n.place t (rest_in n) is.at in
    c.in_ok-start_named-in-Image.ensures.stands s m (look_in s m t n) (sym named)
