use Rattle.std.proofs.Common.{sym, subst, string_bytes}
use Rattle.tocmark_write_emphasis.specs.Low.{OpensLow}
use Rattle.tocmark_event.specs.View.{EventView, tag_view}
use Rattle.tocmark_write_renderer.specs.JobOf.{manner_view, setting_in}
use Rattle.tocmark_write_renderer.specs.WriterOf.{levels_of, page_of, Stands}
use Rattle.tocmark_spelling.specs.Gap.{gap}
use Rattle.tocmark_spelling.specs.Opening.{opening}
use Rattle.tocmark_spelling.specs.Page.{Path}
use Rattle.tocmark_write_unit.proofs.Steps.{comes-at}
use Rattle.tocmark_write_unit.specs.NeighboursOf.{look_in}
use Rattle.tocmark_write_unit.proofs.turn.start.Goals as goal

pub returns-clause-comes : goal.returns-clause-comes
returns-clause-comes g c = λ f forest opens.
    let a = c.args in
    let path = levels_of a.renderer.now in
    let page = page_of a.renderer.now in
    let t = tag_view string_bytes a.tag.now in
    let s = setting_in a.task.now.job (g.R.Reader.reading a.task.now.reader.now) in
    let m = manner_view a.task.now.manner in
    let mid = c.write_gap.new.self in
    let At : EventView → Type 0 = λ e. Stands mid path (gap e path page) in
    let stands = subst At c.requires.start c.in_ok-write_gap.ensures.stands in
    let Low : Path → Type 0 = OpensLow a.task.now.manner.delimiters in
    comes-at c.open_container.result c.open_container.new.renderer mid (λ path page. opening s m t (look_in s m t a.around) path page) path _ stands (c.open_container.ensures.comes f forest (subst Low (sym stands.path_is) opens))
