use Rattle.std.proofs.Common.{ap, string_bytes}
use Rattle.std.specs.Option.{option_map}
use Rattle.tocmark_event.specs.View.{event_view}
use Rattle.tocmark_spelling.specs.Buffered.{following_view}
use Rattle.tocmark_spelling.specs.Page.{Site}
use Rattle.tocmark_write_renderer.specs.JobOf.{options_in, text_in}
use Rattle.tocmark_write_renderer.specs.WriterOf.{held_after, held_view, levels_of, page_of}
use Rattle.tocmark_write_inlines.specs.StretchOf.{stretch_view}
use Rattle.tocmark_write_inlines.proofs.Texts.{held-at, joined-on, shown-at, shown-wide}
use Rattle.tocmark_write_inlines.proofs.stretch.add_text.Goals as goal

pub returns-then-beside-clause-stands : goal.returns-then-beside-clause-stands
returns-then-beside-clause-stands c =
    let a = c.args in
    let taken = c.in_ok-held.ensures in
    let page = page_of a.renderer.now in
    let source = option_map string_bytes a.event.now.source in
    let previous = following_view a.beside.previous in
    let same = joined-on page (option_map held_view c.in_ok-held.held) (option_map held_view c.in_ok-whole.whole) (held_view c.in_ok-kept.kept) a.text.now source previous taken.held c.in_ok-whole.ensures c.in_ok-kept.ensures in
    held-at c.hold.new.self c.take_held.new.self a.renderer.now (options_in a.job) a.job.flags (text_in a.manner) a.manner.source (event_view string_bytes a.event.now.event) (following_view a.beside.next) a.beside.text_follows (held_view c.in_ok-kept.kept) (held_after page.held a.text.now source previous) c.if-beside.true same taken.site c.hold.ensures.site

pub returns-clause-stands : goal.returns-clause-stands
returns-clause-stands c =
    let a = c.args in
    let taken = c.in_ok-held.ensures in
    let mid = c.take_held.new.self in
    let w = c.widen_by_text.new.renderer in
    let o = options_in a.job in
    let text = text_in a.manner in
    let e = event_view string_bytes a.event.now.event in
    let next = following_view a.beside.next in
    let page = page_of a.renderer.now in
    let source = option_map string_bytes a.event.now.source in
    let previous = following_view a.beside.previous in
    let h = stretch_view c.stretch_of-stretch.result in
    let same = joined-on page (option_map held_view c.in_ok-held.held) (option_map held_view c.in_ok-whole.whole) h a.text.now source previous taken.held c.in_ok-whole.ensures c.stretch_of-stretch.ensures in
    let written = shown-wide c.widen_by_text.result w mid o a.job.flags text a.manner.source e next c.write_gap.new.self c.write_stretch.new.renderer h c.in_ok-write_gap.ensures.stands c.in_ok-write_stretch.ensures.stands c.widen_by_text.ensures.stands in
    shown-at c.widen_by_text.result w mid o a.job.flags text a.manner.source e next a.beside.text_follows h (held_after page.held a.text.now source previous) (levels_of a.renderer.now) page c.if-beside.false same (record {
      path_is = ap (λ (s : Site). s.path) taken.site;
      page_is = ap (λ (s : Site). s.page) taken.site;
    }) written
