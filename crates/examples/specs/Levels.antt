-- Headings that skip no level.
use Rattle.std.specs.Prelude.{List, [], ◌∷◌, if◌then◌else◌, nat_lt}
use Rattle.tocmark_event.specs.View.{EventView, Start, End, Heading}
use Rattle.tocmark_event.specs.declared.event.HeadingLevel.{HeadingLevel}
use Rattle.tocmark_event.specs.declared.event.HeadingLevel.TheVariants.{H1, H2, H3, H4, H5, H6}
use Rattle.tocmark_event.specs.declared.event.TagEnd.TheVariants as end
use Rattle.tocmark_rewrite.specs.Edits.{number_of, shifted}
use Rattle.tocmark_rewrite.specs.declared.edits.Shift.TheVariants.{Down}

-- the headings before a place, the last one first: the level that each has, and the one that it gets
abbrev pub Before : Type 0
Before = List (HeadingLevel × HeadingLevel)

-- the level that a heading gets: the next one to that of the last heading before it which has fewer `#`; its own if there is none
abbrev pub level_behind : Before → HeadingLevel → HeadingLevel
level_behind [] level = level
level_behind (h ∷ before) level =
    if nat_lt (number_of h.0) (number_of level) then shifted (Down 1) h.1 else level_behind before level

-- the headings with one more, if it begins here
abbrev pub with_heading : Before → EventView → Before
with_heading before (Start (Heading level id classes attrs)) = (level, level_behind before level) ∷ before
with_heading before e = before

-- an event with the level that its heading gets; its end is after the heading itself, which has no fewer `#`
abbrev pub mended_event : Before → EventView → EventView
mended_event before (Start (Heading level id classes attrs)) = Start (Heading (level_behind before level) id classes attrs)
mended_event before (End (end.Heading level)) = End (end.Heading (level_behind before level))
mended_event before e = e

-- all events, each heading with the level that it gets
abbrev pub mended : Before → List EventView → List EventView
mended before [] = []
mended before (e ∷ es) = mended_event before e ∷ mended (with_heading before e) es

-- the six levels, as headings get them here
abbrev pub levels_behind : Before → List HeadingLevel
levels_behind before =
    level_behind before H1 ∷ level_behind before H2 ∷ level_behind before H3
    ∷ level_behind before H4 ∷ level_behind before H5 ∷ level_behind before H6 ∷ []
