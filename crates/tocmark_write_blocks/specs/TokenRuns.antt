-- The runs of a token in a text, put together from those of its parts, and in the joined texts of bodies.
use Rattle.std.specs.Prelude.{◌≡◌, ℕ, ◌+◌, Bool, true, false, ◌&&◌, ◌==◌, if◌then◌else◌, List, [], ◌∷◌, map, max, drop, chars, slice_index_or}
use Rattle.std.specs.Str.{IsUtf8}
use Rattle.tocmark_event.specs.View.{LeafView, Text, SourcedEvent, Start, End, Leaf}
use Rattle.tocmark_event.specs.Forest.{empty, leaf, node}
use Rattle.tocmark_write_texts.specs.Leaves.{longest_run}
use Rattle.tocmark_spelling.specs.Body.{Trees, joined_by, text_of_leaf}
use Rattle.tocmark_spelling.specs.Machine.{Layers, kids_of}
use Rattle.tocmark_write_blocks.specs.declared.token_runs.TokenRuns.{TokenRuns}

-- the runs in the empty text
abbrev pub no_runs : TokenRuns
no_runs = record { front = 0; back = 0; longest = 0; whole = true }

-- the runs in one character, which is the token or not
abbrev pub one_run : Bool → TokenRuns
one_run true = record { front = 1; back = 1; longest = 1; whole = true }
one_run false = record { front = 0; back = 0; longest = 0; whole = false }

-- the runs in two texts that are joined
abbrev pub joined_runs : TokenRuns → TokenRuns → TokenRuns
joined_runs left right = record {
  front = if left.whole then left.back + right.front else left.front;
  back = if right.whole then left.back + right.front else right.back;
  longest = max (max left.longest right.longest) (left.back + right.front);
  whole = left.whole && right.whole;
}

-- the runs of a token in a text, given as its characters
abbrev pub runs_in : ℕ → List ℕ → TokenRuns
runs_in token [] = no_runs
runs_in token (c ∷ cs) = joined_runs (one_run (c == token)) (runs_in token cs)

-- the runs in a leaf's text; none where it is no Text
abbrev pub leaf_runs : ℕ → LeafView → TokenRuns
leaf_runs token (Text t) = runs_in token (chars t)
leaf_runs token l = no_runs

-- the same of an event
abbrev pub event_runs : ℕ → SourcedEvent → TokenRuns
event_runs token (Leaf l) = leaf_runs token l.leaf
event_runs token e = no_runs

-- the runs in the joined texts of a forest
abbrev pub runs_of : ℕ → Trees → TokenRuns
runs_of token empty = no_runs
runs_of token (leaf l f) = joined_runs (leaf_runs token l.leaf) (runs_of token f)
runs_of token (node t kids f) = joined_runs (runs_of token kids) (runs_of token f)

-- the runs in the innermost layer, and in those outside
pub record RunsIn : Type 0 where
  pub inner : TokenRuns
  pub outer : List TokenRuns

-- the runs in layers
abbrev pub runs_within : ℕ → Layers → RunsIn
runs_within token l = record { inner = runs_of token l.inner; outer = map (runs_of token) l.outer }

-- the same with a container in front, whose body is the innermost layer
abbrev pub past_start : TokenRuns → List TokenRuns → RunsIn
past_start kids [] = record { inner = joined_runs kids no_runs; outer = [] }
past_start kids (right ∷ rest) = record { inner = joined_runs kids right; outer = rest }

-- the same with one event in front
abbrev pub runs_with : ℕ → SourcedEvent → RunsIn → RunsIn
runs_with token (Leaf l) x = record { inner = joined_runs (leaf_runs token l.leaf) x.inner; outer = x.outer }
runs_with token (Start t) x = past_start x.inner x.outer
runs_with token (End k) x = record { inner = no_runs; outer = x.inner ∷ x.outer }

-- a Text is UTF-8
abbrev pub IsLeafText : LeafView → Type 0
IsLeafText (Text t) = IsUtf8 t
IsLeafText l = Unit {0}

-- the same of an event
abbrev pub IsText : SourcedEvent → Type 0
IsText (Leaf l) = IsLeafText l.leaf
IsText e = Unit {0}

-- for each event the longest run of a token in the joined texts of the trees after it; at a Start in its body's
pub record AreRuns (token : ℕ) (es : List SourcedEvent) (runs : List TokenRuns) : Type 0 where
  pub at : (i : ℕ)
      → (slice_index_or runs i no_runs).longest ≡ longest_run token (chars (joined_by text_of_leaf (kids_of (drop (i + 1) es))))
