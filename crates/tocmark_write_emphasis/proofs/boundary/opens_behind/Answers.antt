use Rattle.std.proofs.Common.{◌≡◌, ◌∙◌, ◌++◌, ap, encode_utf8, codes}
use Rattle.std.specs.List.{list_any}
use Rattle.tocmark_event.specs.Text.{text_of}
use Rattle.tocmark_event.specs.View.{event_view}
use Rattle.tocmark_spelling.specs.ById.{events_of}
use Rattle.tocmark_spelling.specs.Edges.{no_flags}
use Rattle.tocmark_spelling.specs.Kinds.{starts, is_emphasis}
use Rattle.tocmark_write_emphasis.proofs.Boundaries.{any-events}
use Rattle.tocmark_write_emphasis.proofs.boundary.opens_behind.Goals as goal

pub returns : goal.returns
returns g c = λ o flags label.
    let text : c.as_str.result.now ≡ encode_utf8 c.args.character ++ codes "_x_" =
    c.as_str.ensures.value ∙ c.in_ok-push_str.ensures.bytes
    ∙ ap (λ b. b ++ codes "_x_") (c.in_ok-push.ensures.bytes ∙ ap (λ b. b ++ encode_utf8 c.args.character) c.new-text.ensures.bytes) in
    c.finds_emphasis.ensures
    ∙ ap (list_any (λ e. starts is_emphasis (event_view text_of e.0))) c.deref.ensures.value
    ∙ any-events c.in_ok-found.found.events.items
    ∙ ap (λ r. list_any (λ e. starts is_emphasis e) (events_of r)) (c.in_ok-found.ensures ∙ ap (λ t. g.R.Reader.reading c.args.reader.now t no_flags) text)
