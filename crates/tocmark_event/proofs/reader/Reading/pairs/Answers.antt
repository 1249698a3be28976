use Rattle.std.proofs.Common.{ap, map, Some, sym, ◌∙◌}
use mathlib.Core.List.{map-map}
use Rattle.tocmark_event.specs.Text.{text_of}
use Rattle.tocmark_event.specs.View.{event_view}
use Rattle.tocmark_event.proofs.reader.Reading.pairs.Goals as goal

pub returns : goal.returns
returns c =
    ap (map (λ e. (event_view text_of e.0, Some e.1))) (c.iter.ensures.rest ∙ c.lent.ensures)
    ∙ sym (map-map (λ e. (e.0, Some e.1)) (λ e. (event_view text_of e.0, e.1)) c.args.self.now.events.items)
