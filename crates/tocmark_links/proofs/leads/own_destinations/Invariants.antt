use Rattle.std.proofs.Common.{◌≡◌, ◌++◌, drop, map}
use Rattle.std.specs.List.{filter_map}
use Rattle.tocmark_compare.specs.Given.{given_events}
use Rattle.tocmark_links.specs.Leads.{own_destination}
use Rattle.tocmark_links.proofs.leads.own_destinations.Given as goal

abbrev pub invariant-loop-event : goal.invariant-loop-event
invariant-loop-event l =
    map (λ d. d.now) l.all.items ++ filter_map own_destination (given_events (drop l.event-index l.events))
    ≡ filter_map own_destination (given_events l.events)
