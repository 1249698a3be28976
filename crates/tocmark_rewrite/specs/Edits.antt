-- What edits make of an event.
use Rattle.std.specs.Prelude.{ℕ, ◌+◌, ◌-◌, ◌∷◌, [], Bool, false, not, List, bytes_eq, if◌then◌else◌, nat_le}
use Rattle.tocmark_event.specs.View.{EventView, TagView, Start, End, Leaf, Heading, Link, Image, Text, Code, SoftBreak, HardBreak}
use Rattle.tocmark_event.specs.declared.event.HeadingLevel.{HeadingLevel}
use Rattle.tocmark_event.specs.declared.event.HeadingLevel.TheVariants.{H1, H2, H3, H4, H5, H6}
use Rattle.tocmark_event.specs.declared.event.LinkType.{LinkType}
use Rattle.tocmark_event.specs.declared.event.LinkType.TheVariants as link
use Rattle.tocmark_event.specs.declared.event.TagEnd.TheVariants as end
use Rattle.tocmark_rewrite.specs.declared.edits.Shift.{Shift}
use Rattle.tocmark_rewrite.specs.declared.edits.Shift.TheVariants.{Down, Up}

-- the type of a link whose destination isn't the one that it has as an address
abbrev pub without_address : LinkType → LinkType
without_address link.Autolink = link.Inline
without_address link.Email = link.Inline
without_address k = k

-- whether a tag is a link to somewhere else
abbrev pub leads_elsewhere : List ℕ → TagView → Bool
leads_elsewhere d (Link k old title id) = not (bytes_eq old d)
leads_elsewhere d t = false

-- an autolink or an e-mail link as an inline link
abbrev pub with_own_text : TagView → TagView
with_own_text (Link k d title id) = Link (without_address k) d title id
with_own_text t = t

-- the tag of a link or an image with another destination
abbrev pub leading_to : List ℕ → TagView → TagView
leading_to d (Link k old title id) = Link k d title id
leading_to d (Image k old title id) = Image k d title id
leading_to d t = t

-- the same, where a link to somewhere else than its address is none by that address
abbrev pub tag_with_destination : List ℕ → TagView → TagView
tag_with_destination d t = leading_to d (if leads_elsewhere d t then with_own_text t else t)

-- a link or an image with another destination; any other event stays
abbrev pub with_destination : List ℕ → EventView → EventView
with_destination d (Start t) = Start (tag_with_destination d t)
with_destination d e = e

-- a text or a code span with another text; any other event stays
abbrev pub with_text : List ℕ → EventView → EventView
with_text t (Leaf (Text old)) = Leaf (Text t)
with_text t (Leaf (Code old)) = Leaf (Code t)
with_text t e = e

-- how many `#` a heading of this level has
abbrev pub number_of : HeadingLevel → ℕ
number_of H1 = 1
number_of H2 = 2
number_of H3 = 3
number_of H4 = 4
number_of H5 = 5
number_of H6 = 6

-- the level with so many `#`, or the next one that there is
abbrev pub level_of : ℕ → HeadingLevel
level_of n =
    if nat_le n 1 then H1 else if nat_le n 2 then H2 else if nat_le n 3 then H3
    else if nat_le n 4 then H4 else if nat_le n 5 then H5 else H6

-- a level that is moved
abbrev pub shifted : Shift → HeadingLevel → HeadingLevel
shifted (Down n) level = level_of (number_of level + n)
shifted (Up n) level = level_of (number_of level - n)

-- an event, moved if it begins or ends a heading
abbrev pub with_level : Shift → EventView → EventView
with_level s (Start (Heading level id classes attrs)) = Start (Heading (shifted s level) id classes attrs)
with_level s (End (end.Heading level)) = End (end.Heading (shifted s level))
with_level s e = e

-- whether a heading of this level is on one line
abbrev pub is_on_one_line : HeadingLevel → Bool
is_on_one_line level = not (nat_le (number_of level) 2)

-- whether a heading on one line is open after an event, by whether one is before it
abbrev pub is_open_behind : Bool → EventView → Bool
is_open_behind is_open (Start (Heading level id classes attrs)) = is_on_one_line level
is_open_behind is_open (End (end.Heading level)) = false
is_open_behind is_open e = is_open

-- a line break as a space; any other event stays
abbrev pub joined_line : EventView → EventView
joined_line (Leaf SoftBreak) = Leaf (Text (32 ∷ []))
joined_line (Leaf HardBreak) = Leaf (Text (32 ∷ []))
joined_line e = e

-- an event, joined if a heading on one line is open before it
abbrev pub joined_event : Bool → EventView → EventView
joined_event is_open e = if is_open then joined_line e else e

-- the events with a space in place of each line break in a heading on one line, which is open before them or not
abbrev pub joined_lines : Bool → List EventView → List EventView
joined_lines is_open [] = []
joined_lines is_open (e ∷ es) = joined_event is_open e ∷ joined_lines (is_open_behind is_open e) es
