use Rattle.std.proofs.Common.{◌≡◌, ◌++◌, drop, string_bytes}
use Rattle.std.specs.Option.{option_map}
use Rattle.tocmark_event.specs.Merged.{merged, with_text}
use Rattle.tocmark_compare.specs.Given.{given_events}
use Rattle.tocmark_differences.proofs.merge.merged.Given as goal

abbrev pub invariant-loop-pair : goal.invariant-loop-pair
invariant-loop-pair l =
    given_events l.all.items ++ with_text (option_map string_bytes l.stretch) (merged (given_events (drop l.pair-index l.events)))
    ≡ merged (given_events l.events)
