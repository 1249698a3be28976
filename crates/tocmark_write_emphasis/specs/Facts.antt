-- What a marker is told, and when that is so.
use Rattle.std.specs.Prelude.{◌≡◌, ◌<◌, ℕ, Bool, true, false, Option, Some, None, List, Result, String, string_bytes, IfOk, IfSome, unwrap_or}
use Rattle.std.specs.Global.{Global}
use Rattle.std.specs.declared.alloc.AllocError.{AllocError}
use Rattle.tocmark_event.specs.Options.{OptionsView}
use Rattle.tocmark_event.specs.Reading.{ReadingView}
use Rattle.tocmark_event.specs.declared.event.flags.ParserOptions.{ParserOptions}
use Rattle.tocmark_event.specs.View.{TagView, Emphasis, Strong}
use Rattle.tocmark_spelling.specs.Edges.{edge_after}
use Rattle.tocmark_spelling.specs.Kinds.{is_emphasis, is_emphasis_or_strong}
use Rattle.tocmark_spelling.specs.Look.{Look}
use Rattle.tocmark_spelling.specs.Marker.{token_of, is_token, ends_delimiter, same_start, same_finish, marker_of, asked_marker, in_width, literal_marker, marker_by_sharing}
use Rattle.tocmark_spelling.specs.Page.{Level, Path, Page}
use Rattle.tocmark_spelling.specs.Plan.{Markers, Setting, Manner}
use Rattle.tocmark_spelling.specs.declared.plan.Layout.{Layout}
use Rattle.tocmark_spelling.specs.declared.plan.Layout.TheVariants.{Preferred, Uniform, RuleThree}
use Rattle.tocmark_spelling.specs.declared.plan.Delimiters.{Delimiters}
use Rattle.tocmark_spelling.specs.PlanOf.{setting_of}
use Rattle.tocmark_spelling.specs.Places.{nearest}
use Rattle.tocmark_spelling.specs.Runs.{run_around, last_run}
use Rattle.tocmark_spelling.specs.Words.{last_character, last_byte}
use Rattle.tocmark_write_pending.specs.RunColumn.{run_view}
use Rattle.tocmark_write_emphasis.specs.declared.facts.EmphasisEvents.{EmphasisEvents}
use Rattle.tocmark_write_emphasis.specs.declared.facts.Parent.{Parent}
use Rattle.tocmark_write_emphasis.specs.declared.facts.NodeSurroundings.{NodeSurroundings}

-- the tag of strong emphasis, or of emphasis
abbrev pub tag_of : Bool → TagView
tag_of true = Strong
tag_of false = Emphasis

-- the tag of a node
abbrev pub tag_at : EmphasisEvents → TagView
tag_at node = tag_of node.strong

-- the markers that are asked for
abbrev pub markers_of : Delimiters → Markers
markers_of d = record { emphasis = d.emphasis; strong = d.strong.now }

-- the marker that is asked for, by its first byte if it has several
abbrev pub asked_by : Delimiters → Bool → ℕ
asked_by d strong = asked_marker (markers_of d) (tag_of strong)

-- what is told of a node is what its opening is told of the unit's events
pub record IsNode (node : EmphasisEvents) (l : Look) : Type 0 where
  -- whether the event before it is an End of Emphasis or Strong
  pub follows_closing : ends_delimiter l.previous ≡ node.follows_closing
  -- the first character of the event after it
  pub next : edge_after l.next ≡ node.next
  -- its two runs
  pub opening : l.opening ≡ run_view node.opening
  pub closing : l.closing ≡ run_view node.closing
  -- how many markers it opens with, and whether it prefers the underscore
  pub width : l.width ≡ node.width
  pub prefers : l.prefers ≡ node.prefers

-- whether a layout asks how long the runs of markers in the text are (the rule of three of CommonMark, section 6.2)
abbrev pub asks_runs : Layout → Bool
asks_runs RuleThree = true
asks_runs layout = false

-- what is told of an open container is so, beside this node and on this page, as far as the layout asks
pub record IsParent (layout : Layout) (f : Parent) (parent : Level) (l : Look) (p : Page) : Type 0 where
  -- the first byte of what it opened with
  pub marker : marker_of parent ≡ f.marker
  -- whether nothing was written since its opening, and whether its End is the event after the node
  pub same_start : same_start parent p ≡ f.same_start
  pub same_finish : same_finish parent l ≡ f.same_finish
  -- where runs are asked, that of its marker round the end of its opening
  pub run : asks_runs layout ≡ true → run_around (marker_of parent) parent.start p.sheet.text ≡ f.run

-- there is such a container, and what is told of it is so; or there is none
abbrev pub IsNearest : Layout → Option Parent → Option Level → Look → Page → Type 0
IsNearest layout None None l p = Unit {0}
IsNearest layout None (Some parent) l p = ⊥
IsNearest layout (Some f) None l p = ⊥
IsNearest layout (Some f) (Some parent) l p = IsParent layout f parent l p

-- what is told of a place is what the open containers and the page say, as far as the layout asks; the token is the
-- marker of Emphasis that is asked for
pub record IsPlace (layout : Layout) (place : NodeSurroundings) (token : List ℕ) (l : Look) (path : Path) (p : Page) : Type 0 where
  -- what the text ends with: its last character, its last byte, where runs are asked its last run of markers
  pub last_character : last_character p.sheet.text ≡ place.last_character
  pub last_byte : last_byte p.sheet.text ≡ place.last_byte
  pub last_run : asks_runs layout ≡ true → last_run p.sheet.text ≡ place.last_run
  -- whether the nearest open Emphasis opened with this token
  pub in_same : is_token (token_of (nearest is_emphasis path)) token ≡ place.in_same
  -- the nearest open Emphasis or Strong
  pub parent : IsNearest layout place.parent (nearest is_emphasis_or_strong path) l p

-- the markers that may be chosen are ASCII: the one asked for, the parent's, and those that are beside the node in
-- Texts
pub record AreLow (asked : ℕ) (node : EmphasisEvents) (place : NodeSurroundings) : Type 0 where
  pub asked_is : asked < 128
  pub parent : IfSome place.parent (λ f. f.marker < 128)
  pub before : IfSome node.opening.literal_before (λ c. c < 128)
  pub after : IfSome node.closing.literal_after (λ c. c < 128)

-- the same where the layout chooses among single bytes
abbrev pub HasLow : Layout → ℕ → EmphasisEvents → NodeSurroundings → Type 0
HasLow Preferred asked node place = Unit {0}
HasLow Uniform asked node place = Unit {0}
HasLow layout asked node place = AreLow asked node place

-- what a reader finds in each text under each set of flags
abbrev pub Readings : Type 0
Readings = List ℕ → ParserOptions → ReadingView

-- an Ok answer is this function of the setting, whatever its options, flags and label
abbrev pub Gives : {X : Type 0} → Readings → Result X AllocError → (Setting → X) → Type 0
Gives reading result f =
    (o : OptionsView) (flags : ParserOptions) (label : Option (List ℕ))
    → IfOk result (λ x. x ≡ f (setting_of o flags reading label))

-- the same of a text
abbrev pub GivesText : Readings → Result (String Global) AllocError → (Setting → List ℕ) → Type 0
GivesText reading result f =
    (o : OptionsView) (flags : ParserOptions) (label : Option (List ℕ))
    → IfOk result (λ text. string_bytes text ≡ f (setting_of o flags reading label))

-- the token by shared runs or the rule of three, in the manner's own layout
abbrev pub shared_token : Setting → Manner → TagView → Look → Path → Page → List ℕ
shared_token s m t l path p =
    in_width t (unwrap_or (literal_marker m.plan.text l)
    (marker_by_sharing s m.plan.layout (asked_marker m.markers t) t l path p))
