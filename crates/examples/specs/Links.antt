-- Where links and images lead by `https:`.
use Rattle.std.specs.Prelude.{ℕ, List, ◌++◌, bytes_eq, codes, drop, if◌then◌else◌, map, take, Option, None, Some}
use Rattle.tocmark_event.specs.View.{EventView, Start, Link, Image}
use Rattle.tocmark_event.specs.Reading.{ReadingView}
use Rattle.tocmark_rewrite.specs.Edits.{with_destination}
use Rattle.tocmark_compare.specs.Given.{found_events}

-- a destination; one that begins with `http:` begins with `https:`, and goes on as before
abbrev pub by_https : List ℕ → List ℕ
by_https url = if bytes_eq (take 5 url) (codes "http:") then codes "https:" ++ drop 5 url else url

-- where an event leads, if it begins a link or an image
abbrev pub destination : EventView → Option (List ℕ)
destination (Start (Link k url title id)) = Some url
destination (Start (Image k url title id)) = Some url
destination e = None

-- an event that leads by `https:` to where it leads
abbrev pub secured_from : Option (List ℕ) → EventView → EventView
secured_from None e = e
secured_from (Some url) e = with_destination (by_https url) e

-- a link or an image that leads by `https:`; any other event stays
abbrev pub secured : EventView → EventView
secured e = secured_from (destination e) e

-- the events of a reading, with each link and image leading by `https:`
abbrev pub secured_events : ReadingView → List EventView
secured_events r = map secured (found_events r)
