use Rattle.std.proofs.Common.{◌≡◌, ◌∷◌, ◌∙◌, ap, sym, map, string_bytes}
use Rattle.std.specs.Option.{option_map}
use Rattle.tocmark_write_pending.specs.Ahead.{is_named_by_id}
use Rattle.tocmark_event.specs.View.{TagView, Start, event_view, tag_view}
use Rattle.tocmark_spelling.specs.Buffered.{buffered_view, sourced}
use Rattle.tocmark_spelling.specs.Plan.{Setting}
use Rattle.tocmark_spelling.specs.PlanOf.{setting_of}
use Rattle.tocmark_write_inlines.specs.Named.{is_named}
use Rattle.tocmark_write_inlines.proofs.Names.{if-ok}
use Rattle.tocmark_write_inlines.proofs.named.is_named.Goals as goal

pub returns-in-Start : goal.returns-in-Start
returns-in-Start g c = λ o label rest h.
    let a = c.args in
    let s : Setting = setting_of o a.flags (g.R.Reader.reading a.reader.now) label in
    let t : TagView = tag_view string_bytes c.in-Start.tag in
    let start : buffered_view a.event.now ≡ Start t = ap (λ x. sourced (event_view string_bytes x) (option_map string_bytes a.event.now.source)) c.in-Start.is in
    if-ok c.is_named_by_id.result (is_named_by_id s t (map buffered_view a.body.now)) (is_named s (buffered_view a.event.now ∷ rest))
    (ap (is_named_by_id s t) (h t start) ∙ ap (λ e. is_named s (e ∷ rest)) (sym start))
    (c.is_named_by_id.ensures o label)
