use Rattle.std.proofs.Common.{◌≡◌, ◌++◌, map, take}
use Rattle.tocmark_compare.specs.Given.{given_events}
use Rattle.tocmark_judge.specs.LinkDefinitions.{link_defined}
use Rattle.tocmark_differences.specs.Said.{definition_event}
use Rattle.tocmark_differences.proofs.compare.add_definitions.Given as goal

abbrev pub invariant-loop-definition : goal.invariant-loop-definition
invariant-loop-definition l =
    given_events l.events.items
    ≡ given_events l.fn.events.items ++ map definition_event (map link_defined (take l.definition-index l.definitions))
