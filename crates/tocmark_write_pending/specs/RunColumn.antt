-- The runs of delimiters among events that come one after the other.
use Rattle.std.specs.Prelude.{◌≡◌, ℕ, suc, ◌+◌, ◌==◌, Bool, true, false, not, ◌&&◌, ◌||◌, if◌then◌else◌, Option, Some, None, List, [], ◌∷◌, length}
use Rattle.tocmark_event.specs.View.{SourcedEvent, Start, End, Leaf, unsourced}
use Rattle.tocmark_spelling.specs.Edges.{edge_before, edge_after}
use Rattle.tocmark_spelling.specs.Page.{front}
use Rattle.tocmark_spelling.specs.Runs.{Run, close_width, end_width, marker_only, run_at, start_width, tag_width, text_only}
use Rattle.tocmark_write_pending.specs.declared.runs.Run as declared

-- which events make up a run: Starts, or Ends
pub data Counted : Type 0 where
  Starts : Counted
  Ends : Counted

-- the width of the delimiter that an event opens, or that it closes
abbrev pub width_of : Counted → SourcedEvent → ℕ
width_of Starts = start_width
width_of Ends = close_width

-- a run that is kept, as a plain value
abbrev pub run_view : declared.Run → Run
run_view r = record {
  before = r.before;
  after = r.after;
  literal_before = r.literal_before;
  literal_after = r.literal_after;
  width = r.width;
}

-- whether an event is one of those that make up such a run
abbrev pub is_counted : Counted → SourcedEvent → Bool
is_counted c e = not (width_of c e == 0)

-- whether some events, the last one first, end with one of these
abbrev pub ends_counted : Counted → List SourcedEvent → Bool
ends_counted c [] = false
ends_counted c (e ∷ back) = is_counted c e

-- whether an event is a part of some run
abbrev pub in_run : SourcedEvent → Bool
in_run e = is_counted Starts e || is_counted Ends e

-- whether some events, the last one first, end with a run
abbrev pub ends_run : List SourcedEvent → Bool
ends_run back = ends_counted Starts back || ends_counted Ends back

-- whether an event goes on with the run that some events, the last one first, end with
abbrev pub goes_on : SourcedEvent → List SourcedEvent → Bool
goes_on e back = (ends_counted Starts back && is_counted Starts e) || (ends_counted Ends back && is_counted Ends e)

-- how many runs begin among events, the last one first
abbrev pub runs_begun : List SourcedEvent → ℕ
runs_begun [] = 0
runs_begun (e ∷ back) = if in_run e && not (goes_on e back) then suc (runs_begun back) else runs_begun back

-- the run with this number, counted from 1, among runs of which the last one comes first
abbrev pub run_numbered : ℕ → List Run → Option Run
run_numbered n [] = None
run_numbered n (r ∷ rs) = if n == suc (length rs) then Some r else run_numbered n rs

-- the run in which a delimiter is, is the one whose number is how many runs begin up to it
pub record IsRunAt (runs : List Run) (e : SourcedEvent) (back after : List SourcedEvent) : Type 0 where
  pub run : (c : Counted) → is_counted c e ≡ true → run_numbered (runs_begun (e ∷ back)) runs ≡ Some (run_at (width_of c) (width_of c e) back after)

-- so it is of each of these events, the last one first, after which others come
abbrev pub AreRuns : List Run → List SourcedEvent → List SourcedEvent → Type 0
AreRuns runs [] after = Unit {0}
AreRuns runs (e ∷ back) after = IsRunAt runs e back after × AreRuns runs back (e ∷ after)

-- how many markers an event adds to a run
abbrev pub own_width : SourcedEvent → ℕ
own_width e = start_width e + close_width e

-- a run that goes on with so many markers
abbrev pub wider : ℕ → Run → Run
wider w r = record r { width = r.width + w }

-- a run after which an event is
abbrev pub bordered : SourcedEvent → Run → Run
bordered e r = record r {
  after = edge_after (Some (unsourced e));
  literal_after = marker_only (edge_after (text_only (Some (unsourced e))));
}

-- the run that begins with an event after these, the last one first
abbrev pub begun_by : SourcedEvent → List SourcedEvent → Run
begun_by e back = record {
  before = edge_before (front back);
  after = None;
  literal_before = marker_only (edge_before (text_only (front back)));
  literal_after = None;
  width = own_width e;
}

-- the runs among these events, the last one first
pub record HoldRuns (back : List SourcedEvent) (runs : List Run) : Type 0 where
  pub count : length runs ≡ runs_begun back
  pub are : AreRuns runs back []

-- whether the first of some events is a part of some run
abbrev pub begins_in_run : List SourcedEvent → Bool
begins_in_run [] = false
begins_in_run (e ∷ es) = in_run e

-- the run in which the first of some events is, after these, the last one first; none where it is in none
abbrev pub run_here : List SourcedEvent → List SourcedEvent → Option Run
run_here back [] = None
run_here back (Start t ∷ after) = if is_counted Starts (Start t) then Some (run_at start_width (tag_width t) back after) else None
run_here back (End k ∷ after) = if is_counted Ends (End k) then Some (run_at close_width (end_width k) back after) else None
run_here back (Leaf l ∷ after) = None
