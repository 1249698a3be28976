-- The events of the links or of the headings of a text.
use Rattle.std.specs.Prelude.{ℕ, List, [], ◌∷◌, ◌++◌, Bool, true, false, ◌||◌, if◌then◌else◌, ◌-◌, nat_lt, map, Some}
use Rattle.std.specs.List.{fold}
use Rattle.serde_json.specs.Data.{Data}
use Rattle.tocmark_event.specs.Text.{ParserEvent, text_of}
use Rattle.tocmark_event.specs.View.{EventView, Start, End, Leaf, TagView, Heading, Link, Image, event_view}
use Rattle.tocmark_event.specs.declared.event.flags.ParserOptions.{ParserOptions}
use Rattle.tocmark_json.specs.Json.{pairs_json}
use Rattle.tocmark_read_scan.specs.Basic.{plus}
use Rattle.tocmark_marked.specs.Marked.{marked_reading}
use Rattle.tocmark_outline.specs.declared.selecting.Selection.{Selection}
use Rattle.tocmark_outline.specs.declared.selecting.Wanted.{Wanted}
use Rattle.tocmark_outline.specs.declared.selecting.Wanted.TheVariants as wanted

-- a link or an image
abbrev pub is_target : TagView → Bool
is_target (Link k d t i) = true
is_target (Image k d t i) = true
is_target t = false

abbrev pub is_heading : TagView → Bool
is_heading (Heading l i c a) = true
is_heading t = false

-- whether a container is wanted
abbrev pub is_wanted : Wanted → TagView → Bool
is_wanted wanted.Links t = is_target t
is_wanted wanted.Headings t = is_heading t

-- how many containers are open after an event, counted from a wanted one
abbrev pub depth_after : Wanted → ℕ → EventView → ℕ
depth_after w n (Start t) = if nat_lt 0 n || is_wanted w t then plus n 1 else 0
depth_after w n (End k) = n - 1
depth_after w n (Leaf l) = n

-- an event with its range
abbrev pub Placed : Type 0
Placed = EventView × (ℕ × ℕ)

abbrev pub placed : ParserEvent × (ℕ × ℕ) → Placed
placed e = (event_view text_of e.0, e.1)

-- the events that are kept so far, and how many containers are open
abbrev pub selection_view : Selection → List Placed × ℕ
selection_view s = (map placed s.kept.items, s.depth)

-- an event is kept if a wanted container is open before it or after it
unfoldable pub select : Wanted → List Placed × ℕ → Placed → List Placed × ℕ
select w s e =
    (if nat_lt 0 s.1 || nat_lt 0 (depth_after w s.1 e.0) then s.0 ++ e ∷ [] else s.0, depth_after w s.1 e.0)

-- the events of the outermost wanted containers
abbrev pub selected : Wanted → List Placed → List Placed
selected w es = (fold (select w) ([], 0) es).0

-- their JSON, with their ranges
abbrev pub listed : Wanted → ParserOptions → List ℕ → Data
listed w flags text =
    pairs_json (map (λ e. (e.0, Some e.1)) (selected w (marked_reading flags text).events))
