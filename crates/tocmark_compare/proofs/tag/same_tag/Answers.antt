use Rattle.std.proofs.Common.{map, sym, ap, ◌∙◌}
use Rattle.std.specs.Option.{option_map}
use Rattle.tocmark_event.specs.View.{Start, Heading, attribute_view, tag_view}
use Rattle.tocmark_spelling.specs.SameEvents.{same_event}
use Rattle.tocmark_compare.proofs.tag.same_tag.Goals as goal

pub returns-in-Heading : goal.returns-in-Heading
returns-in-Heading g c =
    let texts = g.T.Words.bytes in
    let other = Start (tag_view g.U.Words.bytes c.args.b.now) in
    c.is_heading.ensures
    ∙ (λ i. same_event (Start (Heading c.in-Heading.level (option_map texts c.in-Heading.id) (map texts (c.deref.ensures.value i)) (map (attribute_view texts) (c.deref-in-Heading.ensures.value i)))) other)
    ∙ ap (λ t. same_event (Start (tag_view texts t)) other) (sym c.in-Heading.is)
