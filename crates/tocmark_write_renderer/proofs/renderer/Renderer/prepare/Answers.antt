use Rattle.std.proofs.Common.{◌∙◌, ap, string_bytes}
use Rattle.tocmark_event.specs.View.{event_view}
use Rattle.tocmark_write_containers.specs.declared.outside.Outside.{Outside}
use Rattle.tocmark_spelling.specs.Gap.{raised_for_block, raised_for_list, raised_for_title, resumed}
use Rattle.tocmark_spelling.specs.TrailOf.{Becomes, raised_in_list, trail_of}
use Rattle.tocmark_write_renderer.specs.WriterOf.{levels_of}
use Rattle.tocmark_write_renderer.proofs.Carries.{carries}
use Rattle.tocmark_write_renderer.proofs.renderer.Renderer.prepare.Goals as goal

pub returns-clause-stands : goal.returns-clause-stands
returns-clause-stands c =
    let e = event_view string_bytes c.args.event.now in
    let path = levels_of c.args.self.now in
    let becomes : Becomes c.carried.result c.raised_for_block-carried.result (λ t. raised_for_block e (raised_for_title e (raised_for_list e path (resumed e t)))) = λ line.
    let first = resumed e (trail_of c.carried.result line) in
    c.raised_for_block-carried.ensures line
    ∙ ap (raised_for_block e) (
    c.raised_for_title.ensures line
    ∙ ap (raised_for_title e) (
    c.raised_for_list.ensures line
    ∙ ap (raised_in_list e c.outside-in_list.result.in_list) (c.resumed.ensures line)
    ∙ ap (λ (o : Outside). raised_in_list e o.in_list first) c.outside-in_list.ensures
    )
    ) in
    carries c.carried.result c.raised_for_block-carried.result (λ t. raised_for_block e (raised_for_title e (raised_for_list e path (resumed e t)))) c.args.self.now c.set_carried.new.self c.carried.ensures becomes c.set_carried.ensures.site
