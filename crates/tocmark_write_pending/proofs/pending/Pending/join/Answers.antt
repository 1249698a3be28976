use Rattle.std.proofs.Common.{◌≡◌, ◌++◌, ◌∷◌, ◌∙◌, [], List, Ok, ap, arith, false, length, map, reverse, string_bytes, subst, sym}
use Rattle.std.proofs.lemmas.List.{length-map}
use Rattle.tocmark_event.specs.View.{EventView, SourcedEvent, event_view}
use Rattle.tocmark_spelling.specs.Buffered.{buffered_view, sourced}
use Rattle.tocmark_spelling.specs.declared.buffered.BufferedEvent.{BufferedEvent}
use Rattle.tocmark_write_pending.specs.DelimiterColumn.{AreNumbered, numbers_of}
use Rattle.tocmark_write_pending.specs.OpenContainers.{EndsAt, ended_by, ends_with, opened}
use Rattle.tocmark_write_pending.specs.Pending.{PendingView, nested, one_more, text_now}
use Rattle.tocmark_write_pending.specs.PendingOf.{ends_awaited, pending_of, places_of}
use Rattle.tocmark_write_pending.specs.Waiting.{has_ambiguous_list}
use Rattle.tocmark_write_pending.specs.RunColumn.{HoldRuns, run_view}
use Rattle.tocmark_write_pending.specs.WidthColumn.{width_ended}
use Rattle.tocmark_write_pending.specs.declared.nesting.OpenContainer.{OpenContainer}
use Rattle.tocmark_write_pending.proofs.Joined.{delimiters-joined, ended-inside, event-joined, events-more, index-joined, put-there, same-count}
use Rattle.tocmark_write_pending.proofs.pending.Pending.join.Goals as goal

pub note_end-requires-clause-inside : goal.note_end-requires-clause-inside
note_end-requires-clause-inside g c = λ p is.
    let old = c.self.inside in
    let event = g.E.Incoming.event c.args.event in
    let by = c.ended_by-ended.ensures ∙ ap (λ (e : EventView). ended_by e (places_of c.deref-2.result.now)) c.lent-2.ensures ∙ ap (λ (cs : List OpenContainer). ended_by event (places_of cs)) c.deref-2.ensures.value in
    let inside = ended-inside (map buffered_view old.events.items) (ends_awaited old.containers.items) (places_of old.containers.items) old.ends.items old.is_ambiguous event c.ended_by-ended.result p c.self.invariant.0 by is in
    omega (arith, inside, ap length c.in_ok-make_room-2.ensures.items)

pub invariant_of-self-2 : goal.invariant_of-self-2
invariant_of-self-2 g c =
    let old = c.self.inside in
    let event = g.E.Incoming.event c.args.event in
    let source = text_now c.args.source in
    let es = map buffered_view old.events.items in
    let cs = old.containers.items in
    let ended = c.ended_by-ended.result in
    let added = c.in_ok-add.ensures.put in
    let put : c.add.new.events.items ≡ old.events.items ++ added.0 ∷ [] = added.1 ∙ ap (λ (xs : List BufferedEvent). xs ++ added.0 ∷ []) c.in_ok-make_room-3.ensures.items in
    let b = c.is_ambiguous_behind-is_ambiguous.result in
    let by = c.ended_by-ended.ensures ∙ ap (λ (e : EventView). ended_by e (places_of c.deref-2.result.now)) c.lent-2.ensures ∙ ap (λ (xs : List OpenContainer). ended_by event (places_of xs)) c.deref-2.ensures.value in
    let there : c.index.result.now ≡ added.0 = put-there old.events.items c.add.new.events.items added.0 c.index.result.now c.len-place.result put (omega (arith, c.len-place.ensures, old.events.ok.0)) c.index.ensures in
    let nests = ap (λ (xs : List OpenContainer). nested (ends_awaited xs) event) (sym c.in_ok-make_room.ensures.items) ∙ ap (λ (e : EventView). nested (ends_awaited c.make_room.new.items.items) e) (sym (ap (λ (x : BufferedEvent). event_view string_bytes x.event) there ∙ added.2)) ∙ c.nest.ensures.ends in
    let waiting = c.in_ok-make_room-3.ensures.items in
    let place : c.len-place.result ≡ length es = omega (arith, c.len-place.ensures, old.events.ok.0, length-map old.events.items buffered_view) in (
      index-joined es (map buffered_view c.add.new.events.items) (ends_awaited cs) (ends_awaited c.nest.new.containers.items) (places_of cs) (places_of c.nest.new.containers.items) old.ends.items c.note_end.new.ends.items old.is_ambiguous b event source ended c.self.invariant.0
          (same-count cs)
          by
          (events-more old.events.items c.add.new.events.items added.0 (sourced event source) put added.3)
          nests
          (c.nest.ensures.places ∙ ap (λ (e : EventView). opened e c.len-place.result (places_of c.make_room.new.items.items)) (ap (λ (x : BufferedEvent). event_view string_bytes x.event) there ∙ added.2) ∙ (λ j. opened event (place j) (places_of (c.in_ok-make_room.ensures.items j))))
          (c.note_end.ensures ∙ ap (ends_with ended) c.in_ok-make_room-2.ensures.items)
          (subst (λ (xs : List BufferedEvent). (e : SourcedEvent) → EndsAt (map buffered_view xs) e ended → b ≡ has_ambiguous_list false (map buffered_view xs ++ e ∷ [])) c.deref-3.ensures.value c.is_ambiguous_behind-is_ambiguous.ensures),
      delimiters-joined old.events.items c.add.new.events.items added.0 (ends_awaited cs) (ends_awaited c.nest.new.containers.items) (places_of cs) event source ended old.runs.items c.add.new.runs.items old.delimiters.items c.add.new.delimiters.items c.note_width.new.delimiters.items c.in_ok-width.width
          c.self.invariant.0.places_open
          c.self.invariant.1
          (same-count cs)
          by
          nests
          put
          added.3
          (subst (λ (xs : List BufferedEvent). HoldRuns (buffered_view added.0 ∷ reverse (map buffered_view xs)) (reverse (map run_view c.add.new.runs.items))) waiting added.4)
          (subst (λ (xs : List BufferedEvent). AreNumbered (map buffered_view xs ++ buffered_view added.0 ∷ []) (numbers_of c.add.new.delimiters.items)) waiting added.5)
          c.in_ok-add.ensures.widths
          (subst (λ (xs : List BufferedEvent). (e : SourcedEvent) → EndsAt (map buffered_view xs) e ended → c.in_ok-width.width ≡ width_ended (map buffered_view xs) ended) c.deref-5.ensures.value c.in_ok-width.ensures)
          c.note_width.ensures.numbers
          c.note_width.ensures.same
          c.note_width.ensures.widths,
    )

pub returns : goal.returns
returns g c =
    let old = c.self.inside in
    let event = g.E.Incoming.event c.args.event in
    let source = text_now c.args.source in
    let opened = ends_awaited c.nest.new.containers.items in
    let added = c.in_ok-add.ensures.put in
    let put : c.add.new.events.items ≡ old.events.items ++ added.0 ∷ [] = added.1 ∙ ap (λ (xs : List BufferedEvent). xs ++ added.0 ∷ []) c.in_ok-make_room-3.ensures.items in
    let new : PendingView = record { events = map buffered_view c.add.new.events.items; open_tags = opened } in
    let there : c.index.result.now ≡ added.0 = put-there old.events.items c.add.new.events.items added.0 c.index.result.now c.len-place.result put (omega (arith, c.len-place.ensures, old.events.ok.0)) c.index.ensures in
    let nests = ap (λ (xs : List OpenContainer). nested (ends_awaited xs) event) (sym c.in_ok-make_room.ensures.items) ∙ ap (λ (e : EventView). nested (ends_awaited c.make_room.new.items.items) e) (sym (ap (λ (x : BufferedEvent). event_view string_bytes x.event) there ∙ added.2)) ∙ c.nest.ensures.ends in
    subst (λ (p : PendingView). one_more p (sourced event source) ≡ Ok new) c.self.view_is
    (event-joined (pending_of old) event source opened nests
    ∙ ap (λ (es : List SourcedEvent). Ok (record { events = es; open_tags = opened })) (sym (events-more old.events.items c.add.new.events.items added.0 (sourced event source) put added.3)))
