use Rattle.std.proofs.Common.{codes, ap, refl, string_bytes, subst, OnOk, List, ℕ}
use Rattle.std.specs.Option.{option_map}
use Rattle.tocmark_write_texts.specs.Leaves.{display_math, footnote_reference, inline_math, task_marker}
use Rattle.tocmark_event.specs.View.{Code, DisplayMath, EventView, FootnoteReference, HardBreak, Html, InlineHtml, InlineMath, Leaf, Rule, SoftBreak, TaskListMarker, Text, event_view}
use Rattle.tocmark_spelling.specs.Buffered.{following_view}
use Rattle.tocmark_spelling.specs.Kinds.{is_table}
use Rattle.tocmark_spelling.specs.Machine.{around}
use Rattle.tocmark_spelling.specs.Page.{Site}
use Rattle.tocmark_spelling.specs.Places.{is_in}
use Rattle.tocmark_spelling.specs.Stretch.{html_on}
use Rattle.tocmark_write_renderer.specs.JobOf.{manner_view, options_in, setting_in, text_in}
use Rattle.tocmark_write_renderer.specs.WriterOf.{held_after, levels_of, page_of}
use Rattle.tocmark_write_inlines.specs.Led.{StandsAt, code_led, held_or_shown, rule_led}
use Rattle.tocmark_write_inlines.proofs.Reached.{leaf-reached, spelled-reached, text-row}
use Rattle.tocmark_write_inlines.proofs.leaf.write_leaf.Goals as goal

pub returns-in-InlineMath-clause-stands : goal.returns-in-InlineMath-clause-stands
returns-in-InlineMath-clause-stands c =
    let e = event_view string_bytes c.args.event.now.event in
    let source = option_map string_bytes c.args.event.now.source in
    let path = levels_of c.args.renderer.now in
    let page = page_of c.args.renderer.now in
    λ l reading before rest next is beside.
    spelled-reached c.write_inline_math.result c.write_inline_math.new.renderer (setting_in c.args.job reading) (manner_view c.args.manner) (around before rest next) path page e (InlineMath (string_bytes c.in-InlineMath.text)) (inline_math (is_in is_table path) c.as_str-in-InlineMath.result.now) (inline_math (is_in is_table path) (string_bytes c.in-InlineMath.text)) source l (ap (event_view string_bytes) c.in-InlineMath.is) (ap (inline_math (is_in is_table path)) c.as_str-in-InlineMath.ensures.value) is refl c.write_inline_math.ensures.stands

pub returns-in-DisplayMath-clause-stands : goal.returns-in-DisplayMath-clause-stands
returns-in-DisplayMath-clause-stands c =
    let e = event_view string_bytes c.args.event.now.event in
    let source = option_map string_bytes c.args.event.now.source in
    let path = levels_of c.args.renderer.now in
    let page = page_of c.args.renderer.now in
    λ l reading before rest next is beside.
    spelled-reached c.write_display_math.result c.write_display_math.new.renderer (setting_in c.args.job reading) (manner_view c.args.manner) (around before rest next) path page e (DisplayMath (string_bytes c.in-DisplayMath.text)) (display_math (is_in is_table path) c.as_str-in-DisplayMath.result.now) (display_math (is_in is_table path) (string_bytes c.in-DisplayMath.text)) source l (ap (event_view string_bytes) c.in-DisplayMath.is) (ap (display_math (is_in is_table path)) c.as_str-in-DisplayMath.ensures.value) is refl c.write_display_math.ensures.stands

pub returns-in-FootnoteReference-clause-stands : goal.returns-in-FootnoteReference-clause-stands
returns-in-FootnoteReference-clause-stands c =
    let e = event_view string_bytes c.args.event.now.event in
    let source = option_map string_bytes c.args.event.now.source in
    let path = levels_of c.args.renderer.now in
    let page = page_of c.args.renderer.now in
    λ l reading before rest next is beside.
    spelled-reached c.write_footnote_reference.result c.write_footnote_reference.new.renderer (setting_in c.args.job reading) (manner_view c.args.manner) (around before rest next) path page e (FootnoteReference (string_bytes c.in-FootnoteReference.label)) (footnote_reference c.as_str-in-FootnoteReference.result.now) (footnote_reference (string_bytes c.in-FootnoteReference.label)) source l (ap (event_view string_bytes) c.in-FootnoteReference.is) (ap (footnote_reference) c.as_str-in-FootnoteReference.ensures.value) is refl c.write_footnote_reference.ensures.stands

pub returns-in-InlineHtml-clause-stands : goal.returns-in-InlineHtml-clause-stands
returns-in-InlineHtml-clause-stands c =
    let e = event_view string_bytes c.args.event.now.event in
    let source = option_map string_bytes c.args.event.now.source in
    let path = levels_of c.args.renderer.now in
    let page = page_of c.args.renderer.now in
    λ l reading before rest next is beside.
    spelled-reached c.write_spelled.result c.write_spelled.new.renderer (setting_in c.args.job reading) (manner_view c.args.manner) (around before rest next) path page e (InlineHtml (string_bytes c.in-InlineHtml.text)) c.as_str-in-InlineHtml.result.now (string_bytes c.in-InlineHtml.text) source l (ap (event_view string_bytes) c.in-InlineHtml.is) c.as_str-in-InlineHtml.ensures.value is refl c.write_spelled.ensures.stands

pub returns-in-SoftBreak-clause-stands : goal.returns-in-SoftBreak-clause-stands
returns-in-SoftBreak-clause-stands c =
    let e = event_view string_bytes c.args.event.now.event in
    let source = option_map string_bytes c.args.event.now.source in
    let path = levels_of c.args.renderer.now in
    let page = page_of c.args.renderer.now in
    λ l reading before rest next is beside.
    spelled-reached c.write_spelled-in-SoftBreak.result c.write_spelled-in-SoftBreak.new.renderer (setting_in c.args.job reading) (manner_view c.args.manner) (around before rest next) path page e (SoftBreak) (codes "\n") (codes "\n") source l (ap (event_view string_bytes) c.in-SoftBreak.is) refl is refl c.write_spelled-in-SoftBreak.ensures.stands

pub returns-in-HardBreak-clause-stands : goal.returns-in-HardBreak-clause-stands
returns-in-HardBreak-clause-stands c =
    let e = event_view string_bytes c.args.event.now.event in
    let source = option_map string_bytes c.args.event.now.source in
    let path = levels_of c.args.renderer.now in
    let page = page_of c.args.renderer.now in
    λ l reading before rest next is beside.
    spelled-reached c.write_spelled-in-HardBreak.result c.write_spelled-in-HardBreak.new.renderer (setting_in c.args.job reading) (manner_view c.args.manner) (around before rest next) path page e (HardBreak) (codes "  \n") (codes "  \n") source l (ap (event_view string_bytes) c.in-HardBreak.is) refl is refl c.write_spelled-in-HardBreak.ensures.stands

pub returns-in-TaskListMarker-clause-stands : goal.returns-in-TaskListMarker-clause-stands
returns-in-TaskListMarker-clause-stands c =
    let e = event_view string_bytes c.args.event.now.event in
    let source = option_map string_bytes c.args.event.now.source in
    let path = levels_of c.args.renderer.now in
    let page = page_of c.args.renderer.now in
    λ l reading before rest next is beside.
    spelled-reached c.write_task_marker.result c.write_task_marker.new.renderer (setting_in c.args.job reading) (manner_view c.args.manner) (around before rest next) path page e (TaskListMarker c.in-TaskListMarker.checked) (task_marker c.in-TaskListMarker.checked) (task_marker c.in-TaskListMarker.checked) source l (ap (event_view string_bytes) c.in-TaskListMarker.is) refl is refl c.write_task_marker.ensures.stands

pub returns-in-Html-clause-stands : goal.returns-in-Html-clause-stands
returns-in-Html-clause-stands c =
    let e = event_view string_bytes c.args.event.now.event in
    let view = ap (event_view string_bytes) c.in-Html.is in
    let source = option_map string_bytes c.args.event.now.source in
    let path = levels_of c.args.renderer.now in
    let page = page_of c.args.renderer.now in
    let At : Site → Type 0 = λ here. OnOk c.write_html.result (StandsAt c.write_html.new.renderer here) in
    λ l reading before rest next is beside.
    leaf-reached c.write_html.result c.write_html.new.renderer (setting_in c.args.job reading) (manner_view c.args.manner) (around before rest next) path page e (Html (string_bytes c.in-Html.text)) source l view is (subst (λ t. At (html_on t path page)) c.as_str-in-Html.ensures.value c.write_html.ensures.stands)

pub returns-in-Rule-clause-stands : goal.returns-in-Rule-clause-stands
returns-in-Rule-clause-stands c =
    let e = event_view string_bytes c.args.event.now.event in
    let view = ap (event_view string_bytes) c.in-Rule.is in
    let source = option_map string_bytes c.args.event.now.source in
    let path = levels_of c.args.renderer.now in
    let page = page_of c.args.renderer.now in
    let At : Site → Type 0 = λ here. OnOk c.write_rule.result (StandsAt c.write_rule.new.renderer here) in
    λ l reading before rest next is beside.
    leaf-reached c.write_rule.result c.write_rule.new.renderer (setting_in c.args.job reading) (manner_view c.args.manner) (around before rest next) path page e (Rule) source l view is (subst (λ e. At (rule_led (options_in c.args.job) e path page)) view c.write_rule.ensures.stands)

pub returns-in-Code-clause-stands : goal.returns-in-Code-clause-stands
returns-in-Code-clause-stands c =
    let e = event_view string_bytes c.args.event.now.event in
    let view = ap (event_view string_bytes) c.in-Code.is in
    let source = option_map string_bytes c.args.event.now.source in
    let path = levels_of c.args.renderer.now in
    let page = page_of c.args.renderer.now in
    let At : Site → Type 0 = λ here. OnOk c.write_code.result (StandsAt c.write_code.new.renderer here) in
    λ l reading before rest next is beside.
    leaf-reached c.write_code.result c.write_code.new.renderer (setting_in c.args.job reading) (manner_view c.args.manner) (around before rest next) path page e (Code (string_bytes c.in-Code.text)) source l view is (
    subst (λ t. At (code_led (Leaf (Code (string_bytes c.in-Code.text))) t path page)) c.as_str-in-Code.ensures.value
    (subst (λ e. At (code_led e c.as_str-in-Code.result.now path page)) view c.write_code.ensures.stands)
    )

pub returns-in-Text-clause-stands : goal.returns-in-Text-clause-stands
returns-in-Text-clause-stands c =
    let e = event_view string_bytes c.args.event.now.event in
    let view = ap (event_view string_bytes) c.in-Text.is in
    let text = string_bytes c.in-Text.text in
    let source = option_map string_bytes c.args.event.now.source in
    let path = levels_of c.args.renderer.now in
    let page = page_of c.args.renderer.now in
    let previous = following_view c.args.beside.previous in
    let next = following_view c.args.beside.next in
    let more = c.args.beside.text_follows in
    let At : Site → Type 0 = λ here. OnOk c.add_text.result (StandsAt c.add_text.new.renderer here) in
    let Led : List ℕ → EventView → Site = λ t e. held_or_shown more (options_in c.args.job) c.args.job.flags (text_in c.args.manner) c.args.manner.source (held_after page.held t source previous) e next path page in
    λ l reading before rest after is beside.
    let s = setting_in c.args.job reading in
    let m = manner_view c.args.manner in
    leaf-reached c.add_text.result c.add_text.new.renderer s m (around before rest after) path page e (Text text) source l view is (
    subst At (text-row s m before rest after path page text source previous next more beside.previous_is beside.text_is beside.next_is) (
    subst (λ t. At (Led t (Leaf (Text text)))) c.as_str.ensures.value (subst (λ e. At (Led c.as_str.result.now e)) view c.add_text.ensures.stands)
    )
    )
