-- Runs of delimiters: longest stretches of neighbouring Starts, or of neighbouring Ends, of Emphasis and Strong.
use Rattle.std.specs.Prelude.{ℕ, suc, ◌+◌, Bool, true, false, not, ◌&&◌, ◌||◌, ◌==◌, if◌then◌else◌, Option, Some, None, List, [], ◌∷◌, drop, take, reverse}
use Rattle.std.specs.List.{prefix_len}
use Rattle.tocmark_event.specs.View.{TagView, Emphasis, Strong, SourcedEvent, EventView, Start, End, Leaf, Text, end_of}
use Rattle.tocmark_event.specs.Forest.{empty, leaf, node, flat_onto}
use Rattle.tocmark_event.specs.declared.event.TagEnd.{TagEnd}
use Rattle.tocmark_event.specs.declared.event.TagEnd.TheVariants as end
use Rattle.tocmark_write_texts.specs.Characters.{is_white_space, underscore}
use Rattle.tocmark_spelling.specs.Words.{asterisk}
use Rattle.tocmark_spelling.specs.Plan.{Setting}
use Rattle.tocmark_spelling.specs.Kinds.{is_emphasis, is_emphasis_or_strong}
use Rattle.tocmark_spelling.specs.Body.{Trees, back_onto}
use Rattle.tocmark_spelling.specs.Edges.{edge_before, edge_after, is_boundary}
use Rattle.tocmark_spelling.specs.Page.{Around, front}

-- the width of a delimiter: one for Emphasis, two for Strong
abbrev pub tag_width : TagView → ℕ
tag_width Emphasis = 1
tag_width Strong = 2
tag_width t = 0

-- the width of the delimiter that such an End closes: one for Emphasis, two for Strong (CommonMark, section 6.2)
abbrev pub end_width : TagEnd → ℕ
end_width end.Emphasis = 1
end_width end.Strong = 2
end_width k = 0

-- the width of the delimiter that an event opens; zero unless it is a Start of Emphasis or Strong
abbrev pub start_width : SourcedEvent → ℕ
start_width (Start t) = tag_width t
start_width e = 0

-- the width of the delimiter that an event closes; zero unless it is an End of Emphasis or Strong
abbrev pub close_width : SourcedEvent → ℕ
close_width (End k) = end_width k
close_width e = 0

-- how wide the run is that a list begins with, by the width of each event, and what is after it
abbrev pub width_ahead : (SourcedEvent → ℕ) → List SourcedEvent → ℕ
width_ahead width [] = 0
width_ahead width (e ∷ es) = if width e == 0 then 0 else width e + width_ahead width es

-- the events after the run that a list begins with
abbrev pub behind_run : (SourcedEvent → ℕ) → List SourcedEvent → List SourcedEvent
behind_run width [] = []
behind_run width (e ∷ es) = if width e == 0 then e ∷ es else behind_run width es

-- the character before a run, and the one after it, from any place in it
abbrev pub run_before : (SourcedEvent → ℕ) → List SourcedEvent → Option ℕ
run_before width before = edge_before (front (behind_run width before))

-- the character after a run, from any place in it
abbrev pub run_after : (SourcedEvent → ℕ) → List SourcedEvent → Option ℕ
run_after width after = edge_after (front (behind_run width after))

-- whether a character is one of the markers of emphasis, `*` or `_` (CommonMark, section 6.2)
abbrev pub is_marker : ℕ → Bool
is_marker c = c == asterisk || c == underscore

-- the character if it is `*` or `_`, else none
abbrev pub marker_only : Option ℕ → Option ℕ
marker_only None = None
marker_only (Some c) = if is_marker c then Some c else None

-- the event if it is a Text, else none
abbrev pub text_only : Option EventView → Option EventView
text_only (Some (Leaf (Text t))) = Some (Leaf (Text t))
text_only e = None

-- a `*` or `_` that ends the Text before a run, or begins the one after it
abbrev pub literal_before : (SourcedEvent → ℕ) → List SourcedEvent → Option ℕ
literal_before width before = marker_only (edge_before (text_only (front (behind_run width before))))

-- a `*` or `_` that begins the Text after a run
abbrev pub literal_after : (SourcedEvent → ℕ) → List SourcedEvent → Option ℕ
literal_after width after = marker_only (edge_after (text_only (front (behind_run width after))))

-- the width of the run round a delimiter of this width
abbrev pub run_width : (SourcedEvent → ℕ) → ℕ → List SourcedEvent → List SourcedEvent → ℕ
run_width width own before after = width_ahead width before + own + width_ahead width after

-- a run of delimiters
pub record Run : Type 0 where
  pub before : Option ℕ
  pub after : Option ℕ
  pub literal_before : Option ℕ
  pub literal_after : Option ℕ
  pub width : ℕ

-- the run round a delimiter of this width, with all that is asked of it
abbrev pub run_at : (SourcedEvent → ℕ) → ℕ → List SourcedEvent → List SourcedEvent → Run
run_at width own before after = record {
  before = run_before width before;
  after = run_after width after;
  literal_before = literal_before width before;
  literal_after = literal_after width after;
  width = run_width width own before after;
}

-- the events after a container's Start, and those before its End, the last one first
abbrev pub behind_start : TagView → Trees → Around → List SourcedEvent
behind_start t kids a = flat_onto kids (End (end_of t) ∷ a.after)

-- the events before a container's End, the last one first
abbrev pub before_end : TagView → Trees → Around → List SourcedEvent
before_end t kids a = back_onto kids (Start t ∷ a.before)

-- the run in which a container's Start is, and the one in which its End is
abbrev pub opening_run : TagView → Trees → Around → Run
opening_run t kids a = run_at start_width (tag_width t) a.before (behind_start t kids a)

-- the run in which a container's End is
abbrev pub closing_run : TagView → Trees → Around → Run
closing_run t kids a = run_at close_width (tag_width t) (before_end t kids a) a.after

-- the width that a first child adds: none if it is an only child and Emphasis
abbrev pub added_width : TagView → Trees → ℕ → ℕ
added_width t empty width = if is_emphasis t then 0 else width
added_width t f width = width

-- the width of a body's first Start and what it opens with
abbrev pub width_within : Trees → ℕ
width_within (node t kids f) = added_width t f (tag_width t + (if is_emphasis_or_strong t then width_within kids else 0))
width_within f = 0

-- how many markers a node opens with: its own, and those of a first child that is Emphasis or Strong
abbrev pub opening_width : TagView → Trees → ℕ
opening_width t kids = tag_width t + width_within kids

-- where the children of a container are, and where its right neighbours do
abbrev pub inside : TagView → Around → Around
inside t a = record { before = Start t ∷ a.before; after = End (end_of t) ∷ a.after; next = a.next }

-- where the right neighbours of a container are
abbrev pub beyond : TagView → Trees → Around → Around
beyond t kids a = record a { before = End (end_of t) ∷ before_end t kids a }

-- where a tree is that has these right neighbours
abbrev pub ahead_of : Trees → Around → Around
ahead_of f a = record a { after = flat_onto f a.after }

-- the place just after this event
abbrev pub past : SourcedEvent → Around → Around
past e a = record a { before = e ∷ a.before }

-- `_` couldn't be beside these characters, so an asterisk is needed
abbrev pub needs_asterisk : Setting → Option ℕ → Option ℕ → Bool
needs_asterisk s before after = not (is_boundary s before) || not (is_boundary s after)

-- an asterisk between these characters could close emphasis
abbrev pub can_close : Setting → Option ℕ → Option ℕ → Bool
can_close s None first = false
can_close s (Some c) first = not (is_white_space c) && (not (is_boundary s (Some c)) || is_boundary s first)

-- between these characters a node needs asterisks, and its first could close emphasis (CommonMark, section 6.2)
abbrev pub disturbs_at : Setting → Option ℕ → Option ℕ → Option ℕ → Bool
disturbs_at s before first after = needs_asterisk s before after && can_close s before first

-- a node whose markers would have to be asterisks that could close the ones around it; by its runs, or by its neighbours alone
abbrev pub disturbs : Setting → Bool → TagView → Trees → Around → Bool
disturbs s true t kids a =
    disturbs_at s (run_before start_width a.before) (run_after start_width (behind_start t kids a)) (run_after close_width a.after)
disturbs s false t kids a = disturbs_at s (edge_before (front a.before)) (edge_after (front (behind_start t kids a))) (edge_after (front a.after))

-- by runs Emphasis and Strong count, else Emphasis alone
abbrev pub counts : Bool → TagView → Bool
counts true t = is_emphasis_or_strong t
counts false t = is_emphasis t

-- whether a node both counts and disturbs
abbrev pub and_disturbs : Bool → Setting → Bool → TagView → Trees → Around → Bool
and_disturbs true s runs t kids a = disturbs s runs t kids a
and_disturbs false s runs t kids a = false

-- whether a node with this body prefers the underscore: some node below it disturbs
unfoldable pub prefers_underscore : Setting → Bool → Trees → Around → Bool
prefers_underscore s runs empty a = false
prefers_underscore s runs (leaf l f) a = prefers_underscore s runs f (past (Leaf l) a)
prefers_underscore s runs (node t kids f) a =
    and_disturbs (counts runs t) s runs t kids (ahead_of f a)
    || prefers_underscore s runs kids (inside t (ahead_of f a))
    || prefers_underscore s runs f (beyond t kids a)

-- how long the run of this marker is round a place in a text
abbrev pub run_around : ℕ → ℕ → List ℕ → ℕ
run_around c place text = prefix_len (λ b. b == c) (reverse (take place text)) + prefix_len (λ b. b == c) (drop place text)

-- the length of the last run of a marker in a text that is given backwards
abbrev pub last_run_of : List ℕ → ℕ
last_run_of [] = 0
last_run_of (b ∷ bs) = if is_marker b then suc (prefix_len (λ c. c == b) bs) else last_run_of bs

-- the length of the last run of a marker in a text
abbrev pub last_run : List ℕ → ℕ
last_run text = last_run_of (reverse text)
