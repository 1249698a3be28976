use Rattle.std.proofs.Common.{◌≡◌, length, take}
use Rattle.tocmark_json.specs.Destinations.{ends_of_text, first_some, place_after}
use Rattle.tocmark_json.proofs.destinations.place_in.Given as goal

-- the places before this one, of which so many are tried, have the answer of all
abbrev pub invariant-loop-at : goal.invariant-loop-at
invariant-loop-at l =
    first_some (place_after l.link l.destination l.title) (take l.tries (ends_of_text l.link l.at))
    ≡ first_some (place_after l.link l.destination l.title) (take 32 (ends_of_text l.link (length l.link)))
