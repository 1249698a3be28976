-- A node of emphasis or strong emphasis among a unit's events.
use Rattle.std.specs.Prelude.{◌≡◌, ℕ, true, Bool, Option, None, List, ◌∷◌, drop, take, reverse}
use Rattle.tocmark_event.specs.Options.{OptionsView}
use Rattle.tocmark_event.specs.View.{TagView, EventView, SourcedEvent, Start}
use Rattle.tocmark_event.specs.declared.event.flags.ParserOptions.{ParserOptions}
use Rattle.tocmark_spelling.specs.Kinds.{is_emphasis_or_strong}
use Rattle.tocmark_spelling.specs.Look.{Look, look, is_preferred}
use Rattle.tocmark_spelling.specs.Machine.{kids_of, around}
use Rattle.tocmark_spelling.specs.Plan.{Setting, Manner}
use Rattle.tocmark_spelling.specs.PlanOf.{setting_of}
use Rattle.tocmark_spelling.specs.Runs.{Run}
use Rattle.tocmark_write_pending.specs.Ahead.{behind_body, IsNested}
use Rattle.tocmark_write_emphasis.specs.Facts.{IsNode, Readings, tag_at}
use Rattle.tocmark_write_emphasis.specs.declared.facts.EmphasisEvents.{EmphasisEvents}

-- a run without markers, beside which nothing is
abbrev pub no_run : Run
no_run = record { before = None; after = None; literal_before = None; literal_after = None; width = 0 }

-- at this place starts a container of emphasis or strong emphasis, after whose Start these events are
pub record Begins (es : List SourcedEvent) (i : ℕ) (t : TagView) (rest : List SourcedEvent) : Type 0 where
  pub at : drop i es ≡ Start t ∷ rest
  pub delimits : is_emphasis_or_strong t ≡ true
  pub nested : IsNested t rest

-- what the opening of a container that starts at a place is told
abbrev pub look_at : Setting → Manner → List SourcedEvent → ℕ → TagView → List SourcedEvent → Option EventView → Look
look_at s m es i t rest next = look s m t (kids_of rest) (around (reverse (take i es)) (behind_body rest) next)

-- what is told of a node is what its opening is told there, with this reader and whatever the options, flags and label
-- are; it is said whether the layout is the preferred one
abbrev pub IsTold : Readings → List SourcedEvent → ℕ → Bool → TagView → List SourcedEvent → Option EventView → EmphasisEvents → Type 0
IsTold reading es i preferred t rest next node =
    (o : OptionsView) (flags : ParserOptions) (label : Option (List ℕ)) (m : Manner)
    → is_preferred m.plan.layout ≡ preferred
    → IsNode node (look_at (setting_of o flags reading label) m es i t rest next)

-- a node with this tag, and what is told of it
pub record IsNodeOf (reading : Readings) (es : List SourcedEvent) (i : ℕ) (preferred : Bool) (t : TagView) (rest : List SourcedEvent) (next : Option EventView) (node : EmphasisEvents) : Type 0 where
  pub tag : tag_at node ≡ t
  pub told : IsTold reading es i preferred t rest next node

-- if a container of emphasis or strong emphasis starts at this place, it is this node
abbrev pub IsNodeAt : Readings → List SourcedEvent → ℕ → Bool → Option EventView → EmphasisEvents → Type 0
IsNodeAt reading es i preferred next node =
    (t : TagView) (rest : List SourcedEvent) → Begins es i t rest → IsNodeOf reading es i preferred t rest next node
