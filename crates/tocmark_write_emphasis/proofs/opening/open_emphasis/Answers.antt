use Rattle.std.proofs.Common.{List, ℕ, ◌∙◌, ap, sym, subst, string_bytes, OnOk}
use Rattle.tocmark_event.specs.View.{tag_view}
use Rattle.tocmark_write_renderer.specs.JobOf.{label_in, manner_view, options_in, setting_in}
use Rattle.tocmark_write_renderer.specs.WriterOf.{levels_of, page_of, Arrives}
use Rattle.tocmark_spelling.specs.Marker.{marker}
use Rattle.tocmark_spelling.specs.Opening.{open_delimited}
use Rattle.tocmark_spelling.specs.Page.{Site}
use Rattle.tocmark_write_emphasis.proofs.opening.open_emphasis.Goals as goal

pub returns-clause-stands : goal.returns-clause-stands
returns-clause-stands g c = λ l asked opens literals tag node next.
    let a = c.args in
    let job = a.task.now.job in
    let path = levels_of a.renderer.now in
    let p = page_of a.renderer.now in
    let s = setting_in job (g.R.Reader.reading a.task.now.reader.now) in
    let m = manner_view a.task.now.manner in
    let t = tag_view string_bytes a.tag.now in
    let marked = marker s m t l path p in
    let token = c.in_ok-text.ensures.marker a.task.now.manner.source l asked opens literals node next (options_in job) job.flags (label_in job) ∙ ap (λ x. marker s m x l path p) (sym tag) in
    let P : List ℕ → Type 0 = λ x. OnOk c.open_between.result (Arrives c.open_between.new.renderer (open_delimited t x c.as_str-2.result.now path p)) in
    let here : Site → Type 0 = λ x. OnOk c.open_between.result (Arrives c.open_between.new.renderer (open_delimited t c.as_str.result.now c.as_str-2.result.now x.path x.page)) in
    let Q : List ℕ → Type 0 = λ x. OnOk c.open_between.result (Arrives c.open_between.new.renderer (open_delimited t marked x path p)) in
    subst Q (c.as_str-2.ensures.value ∙ token) (subst P (c.as_str.ensures.value ∙ token) (subst here c.in_ok-text.ensures.site c.open_between.ensures.stands))
