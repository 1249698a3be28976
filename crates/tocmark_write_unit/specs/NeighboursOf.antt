-- What is around an event, as plain values.
use Rattle.std.specs.Prelude.{◌≡◌, ◌<◌, ◌+◌, ℕ, suc, Bool, true, false, ◌∷◌, drop, length, reverse, slice_index_or, take, List, Option, map}
use Rattle.tocmark_write_emphasis.specs.NodeOf.{look_at}
use Rattle.tocmark_event.specs.Forest.{flat}
use Rattle.tocmark_event.specs.Options.{OptionsView}
use Rattle.tocmark_event.specs.View.{TagView, EventView, SourcedEvent, Start, Leaf}
use Rattle.tocmark_event.specs.declared.event.flags.ParserOptions.{ParserOptions}
use Rattle.tocmark_write_renderer.specs.JobOf.{Reading}
use Rattle.tocmark_spelling.specs.Body.{Trees}
use Rattle.tocmark_spelling.specs.Buffered.{buffered_view, following_view}
use Rattle.tocmark_spelling.specs.ById.{by_id}
use Rattle.tocmark_spelling.specs.Gap.{gap}
use Rattle.tocmark_spelling.specs.Look.{Look, look}
use Rattle.tocmark_spelling.specs.Machine.{around, kids_of}
use Rattle.tocmark_spelling.specs.Opening.{opening}
use Rattle.tocmark_spelling.specs.Page.{Site}
use Rattle.tocmark_spelling.specs.Plan.{Setting, Manner}
use Rattle.tocmark_spelling.specs.Scans.{span, AreEnds}
use Rattle.tocmark_write_unit.specs.FindingsOf.{AreFindings}
use Rattle.tocmark_write_unit.specs.declared.turn.Neighbours.{Neighbours}

-- the unit's events
abbrev pub unit_in : Neighbours → List SourcedEvent
unit_in n = map buffered_view n.unit.now

-- those after this one
abbrev pub rest_in : Neighbours → List SourcedEvent
rest_in n = drop (n.place + 1) (unit_in n)

-- those before it, the last one first
abbrev pub before_in : Neighbours → List SourcedEvent
before_in n = reverse (take n.place (unit_in n))

-- what follows the unit
abbrev pub next_in : Neighbours → Option EventView
next_in n = following_view n.next

-- the unit's events are those of a forest
abbrev pub IsForest : Trees → Neighbours → Type 0
IsForest f n = flat f ≡ unit_in n

-- what the opening of a container that begins here is told
abbrev pub look_in : Setting → Manner → TagView → Neighbours → Look
look_in s m t n = look_at s m (unit_in n) n.place t (rest_in n) (next_in n)

-- where the opening of a container leads that begins here, before these events and after those, the last one first
abbrev pub opening_at : Setting → Manner → Option EventView → TagView → List SourcedEvent → List SourcedEvent → Site → Option Site
opening_at s m next t rest before here =
    opening s m t (look s m t (kids_of rest) (around before (drop (suc (span 0 rest)) rest) next)) here.path
    (gap (Start t) here.path here.page)

-- the same of an event and what is around it
abbrev pub opening_in : Setting → Manner → TagView → Neighbours → Site → Option Site
opening_in s m t n here = opening_at s m (next_in n) t (rest_in n) (before_in n) here

-- whether an event is a leaf
abbrev pub is_leaf_event : SourcedEvent → Bool
is_leaf_event (Leaf l) = true
is_leaf_event e = false

-- for each Start whether the id of its container is in place of its body
pub record AreById (s : Setting) (es : List SourcedEvent) (named : List Bool) : Type 0 where
  pub at : (i : ℕ) (t : TagView) (rest : List SourcedEvent) → drop i es ≡ Start t ∷ rest
      → slice_index_or named i false ≡ by_id s t (kids_of rest)

-- this event is at the place, the containers end there, and what is found out of the unit's events is so of them
pub record AreFound (reading : Reading) (o : OptionsView) (flags : ParserOptions) (e : SourcedEvent) (n : Neighbours) : Type 0 where
  pub within : n.place < length n.unit.now
  pub at : drop n.place (unit_in n) ≡ e ∷ rest_in n
  pub ends : AreEnds (unit_in n) n.ends.now
  pub pending : n.pending.now.events ≡ unit_in n
  pub found : AreFindings reading o flags (unit_in n) n.found.now
