-- Code spans (CommonMark 6.1).
use Rattle.std.specs.Prelude.{ℕ, Bool, not, ◌-◌, ◌==◌, ◌&&◌, ◌||◌, nat_lt, if◌then◌else◌, List, [], ◌∷◌, ◌++◌, length, replicate, slice_get, slice_set, Option, Some, None, unwrap_or}
use Rattle.std.specs.List.{list_any}
use Rattle.tocmark_read_scan.specs.Basic.{plus, byte_at, bytes_between}
use Rattle.tocmark_read_scan.specs.Class.{run_end}
use Rattle.tocmark_read_scan.specs.Repeat.{iterated}
use Rattle.tocmark_read_scan.specs.declared.class.Class.TheVariants.{Only, Except}
use Rattle.tocmark_read_spans.specs.declared.tick.Ticks.{Ticks}

-- for each number of backticks after where the last such run before a place begins
pub record State : Type 0 where
  pub last : List ℕ
  pub place : ℕ

-- the machine as its list and place
abbrev pub ticks_view : Ticks → State
ticks_view t = record { last = t.last.items; place = t.place }

-- room for so many entries
abbrev pub padded : ℕ → List ℕ → List ℕ
padded count last = last ++ replicate (count - length last) 0

-- the run between two places is noted
unfoldable pub noted : ℕ → ℕ → State → State
noted start end s = record {
  last = slice_set (padded (plus (end - start) 1) s.last) (end - start) (plus start 1);
  place = end;
}

-- the first run of backticks from a place on
unfoldable pub run_from : List ℕ → ℕ → Option (ℕ × ℕ)
run_from bytes place =
    let start = run_end bytes place (Except 96) in
    let end = run_end bytes start (Only 96) in
    if start == end then None else Some (start, end)

-- the run, if there is one, is noted
abbrev pub noted_run : State → Option (ℕ × ℕ) → Option State
noted_run s None = None
noted_run s (Some (start, end)) = Some (noted start end s)

-- the next run is noted
abbrev pub run_noted : List ℕ → State → Option State
run_noted bytes s = noted_run s (run_from bytes s.place)

-- nothing is noted yet
abbrev pub ticks_start : State
ticks_start = record { last = []; place = 0 }

-- for each number of backticks after where the last run of so many begins; 0 or no entry where there is none
unfoldable pub last_ticks : List ℕ → List ℕ
last_ticks bytes = (iterated (run_noted bytes) (length bytes) ticks_start).last

-- the next run of backticks, unless this one has so many or the text ends
unfoldable pub next_run : List ℕ → ℕ → ℕ → Option ℕ
next_run bytes count place =
    let end = run_end bytes place (Only 96) in
    if (end - place == count) || (end == place) then None else Some (run_end bytes end (Except 96))

-- where the backticks are that close a code span
unfoldable pub tick_end : List ℕ → ℕ → ℕ → List ℕ → Option ℕ
tick_end bytes from count last =
    if nat_lt from (unwrap_or (slice_get last count) 0)
    then Some (iterated (next_run bytes count) (length bytes) (run_end bytes from (Except 96))) else None

-- a space for a line feed
unfoldable pub shown : ℕ → ℕ
shown b = if b == 10 then 32 else b

-- not all is spaces
abbrev pub has_ink : List ℕ → Bool
has_ink text = list_any (λ b. not (shown b == 32)) text

-- without one space at each end, where both ends are spaces and not all is
unfoldable pub stripped : List ℕ → List ℕ
stripped text =
    let end = length text - 1 in
    if (shown (byte_at text 0) == 32) && (shown (byte_at text end) == 32) && has_ink text then bytes_between text 1 end else text

-- bytes written after others, as they are shown
abbrev pub push_shown : List ℕ → List ℕ → List ℕ
push_shown out [] = out
push_shown out (b ∷ bs) = push_shown (out ++ shown b ∷ []) bs
