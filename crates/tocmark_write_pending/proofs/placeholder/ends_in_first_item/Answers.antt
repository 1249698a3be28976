use Rattle.std.proofs.Common.{◌≡◌, ◌-◌, ◌∙◌, List, ap, arith, drop, length, map, sym}
use Rattle.std.proofs.lemmas.List.{length-map}
use Rattle.tocmark_spelling.specs.Buffered.{buffered_view}
use Rattle.tocmark_spelling.specs.declared.buffered.BufferedEvent.{BufferedEvent}
use Rattle.tocmark_spelling.proofs.Turns.{events-drop}
use Rattle.tocmark_write_pending.specs.EndedLists.{begins_first_item}
use Rattle.tocmark_write_pending.proofs.EndedLists.{first-item-last}
use Rattle.tocmark_write_pending.proofs.placeholder.ends_in_first_item.Goals as goal

pub returns : goal.returns
returns c =
    let events = c.args.events.now in
    let es = map buffered_view events in
    let count : c.saturating_sub.result ≡ length es - 3 = omega (arith, c.saturating_sub.ensures, length-map events buffered_view) in
    c.begins_first_item.ensures
    ∙ ap (λ (xs : List BufferedEvent). begins_first_item (map buffered_view xs)) c.rest_of.ensures
    ∙ ap begins_first_item (events-drop events c.saturating_sub.result)
    ∙ ap (λ n. begins_first_item (drop n es)) count
    ∙ sym (first-item-last es)
