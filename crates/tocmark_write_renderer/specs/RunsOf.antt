-- The runs of `*` and of `_` in a text, and when those that are noted are the ones of its front.
use Rattle.std.specs.Prelude.{◌≡◌, ◌<◌, ◌≤◌, ℕ, ◌+◌, ◌-◌, ◌==◌, ◌&&◌, ◌||◌, Bool, List, [], ◌∷◌, if◌then◌else◌, length, min, nat_le, nat_lt, reverse, take}
use Rattle.tocmark_spelling.specs.Runs.{is_marker}
use Rattle.tocmark_write_renderer.specs.declared.marker_runs.MarkerRun.{MarkerRun}
use Rattle.tocmark_write_renderer.specs.declared.marker_runs.MarkerRuns.{MarkerRuns}

-- whether a run of this marker ends at this place
abbrev pub ends_at : ℕ → ℕ → MarkerRun → Bool
ends_at marker place r = (r.marker == marker) && (r.start + r.length == place)

-- a run with one more marker
abbrev pub longer : MarkerRun → MarkerRun
longer r = record r { length = r.length + 1 }

-- the first marker of a run
abbrev pub begun : ℕ → ℕ → MarkerRun
begun marker place = record { marker = marker; start = place; length = 1 }

-- the runs before a place, the last one first, and a marker that is there
abbrev pub with_marker : ℕ → ℕ → List MarkerRun → List MarkerRun
with_marker marker place [] = begun marker place ∷ []
with_marker marker place (r ∷ rs) = if ends_at marker place r then longer r ∷ rs else begun marker place ∷ r ∷ rs

-- the longest runs of one marker in a text that is given backwards, the last one first
abbrev pub runs_of : List ℕ → List MarkerRun
runs_of [] = []
runs_of (b ∷ bs) = if is_marker b then with_marker b (length bs) (runs_of bs) else runs_of bs

-- the part of a run that is before a place
abbrev pub part_before : ℕ → MarkerRun → MarkerRun
part_before place r = record r { length = min r.length (place - r.start) }

-- what is of runs before a place; the last one comes first
abbrev pub cut_at : ℕ → List MarkerRun → List MarkerRun
cut_at place [] = []
cut_at place (r ∷ rs) = if nat_lt r.start place then part_before place r ∷ rs else cut_at place rs

-- whether a run of this marker is round a place, or ends or starts there
abbrev pub covers : ℕ → ℕ → MarkerRun → Bool
covers marker place r = (r.marker == marker) && (nat_le r.start place && nat_le (place - r.start) r.length)

-- how long the run of this marker is that does; the last one comes first
abbrev pub length_round : ℕ → ℕ → List MarkerRun → ℕ
length_round marker place [] = 0
length_round marker place (r ∷ rs) = if covers marker place r then r.length else length_round marker place rs

-- whether a run starts before a place, or there with this marker
abbrev pub is_reached : ℕ → ℕ → MarkerRun → Bool
is_reached marker place r = nat_lt r.start place || ((r.start == place) && (r.marker == marker))

-- no run is empty, and each ends where the one after it starts, or before, and the last one ends by this place; the last
-- one comes first
abbrev pub AreInOrder : ℕ → List MarkerRun → Type 0
AreInOrder place [] = Unit {0}
AreInOrder place (r ∷ rs) = (0 < r.length) × (r.start + r.length ≤ place) × AreInOrder r.start rs

-- the runs that are noted are those of a text's front, as far as it was read
pub record AreNoted (m : MarkerRuns) (text : List ℕ) : Type 0 where
  pub within : m.read ≤ length text
  pub runs : reverse m.runs.items ≡ runs_of (reverse (take m.read text))

-- the runs that are noted are those of the whole text
pub record AreWhole (m : MarkerRuns) (text : List ℕ) : Type 0 where
  pub noted : AreNoted m text
  pub whole : m.read ≡ length text
