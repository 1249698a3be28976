use Rattle.std.proofs.Common.{◌∙◌, ap, string_bytes}
use Rattle.tocmark_event.specs.View.{event_view}
use Rattle.tocmark_spelling.specs.Gap.{after_html, raised_after_list, raised_before}
use Rattle.tocmark_spelling.specs.TrailOf.{Becomes, raised_in_loose_list, raised_to_least, trail_of}
use Rattle.tocmark_write_renderer.specs.WriterOf.{levels_of}
use Rattle.tocmark_write_renderer.proofs.Carries.{carries}
use Rattle.tocmark_write_renderer.proofs.renderer.Renderer.raise.Goals as goal

pub returns-clause-stands : goal.returns-clause-stands
returns-clause-stands c =
    let e = event_view string_bytes c.args.event.now in
    let path = levels_of c.args.self.now in
    let becomes : Becomes c.carried.result c.past_html-carried.result (raised_before e path) = λ line.
    let first = raised_after_list e (raised_to_least e (trail_of c.carried.result line)) in
    c.past_html-carried.ensures line
    ∙ ap after_html (
    c.raised_for_item.ensures line
    ∙ ap (raised_in_loose_list e c.is_in_loose_list-in_loose_list.result) (c.raised_after_list.ensures line ∙ ap (raised_after_list e) (c.raised_to_least.ensures line))
    ∙ ap (λ loose. raised_in_loose_list e loose first) c.is_in_loose_list-in_loose_list.ensures
    ) in
    carries c.carried.result c.past_html-carried.result (raised_before e path) c.args.self.now c.set_carried.new.self c.carried.ensures becomes c.set_carried.ensures.site
