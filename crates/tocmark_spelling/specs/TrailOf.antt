-- What the fields of a trail mean.
use Rattle.std.specs.Prelude.{◌≡◌, ℕ, Bool, ◌&&◌, not, if◌then◌else◌, Option, List, string_bytes}
use Rattle.std.specs.Option.{option_map}
use Rattle.tocmark_event.specs.View.{EventView}
use Rattle.tocmark_spelling.specs.Gap.{is_item_opening, is_item_end, least}
use Rattle.tocmark_spelling.specs.Kinds.{is_item, is_list, starts}
use Rattle.tocmark_spelling.specs.Page as page
use Rattle.tocmark_spelling.specs.Page.{raised}
use Rattle.tocmark_spelling.specs.declared.trail.Carried.{Carried}
use Rattle.tocmark_spelling.specs.declared.trail.Trail.{Trail}

-- what is carried along, and the line that goes on with a quote, as a plain value
abbrev pub trail_of : Carried → Option (List ℕ) → page.Trail
trail_of c line = record {
  owed = c.owed;
  last = c.last;
  last_list = c.last_list;
  quote_line = line;
  raw_end = c.raw_end;
  open_html = c.open_html;
}

-- what was left to the right neighbour, as a plain value
abbrev pub trail_view : Trail → page.Trail
trail_view t = trail_of t.carried (option_map string_bytes t.quote_line)

-- whatever line goes on with a quote, the trail is changed so
abbrev pub Becomes : Carried → Carried → (page.Trail → page.Trail) → Type 0
Becomes old new change = (line : Option (List ℕ)) → trail_of new line ≡ change (trail_of old line)

-- a list begins on a new line inside a list, but not right after its item's marker
abbrev pub raised_in_list : EventView → Bool → page.Trail → page.Trail
raised_in_list e in_list t = if starts is_list e && in_list && not (is_item_opening t.last) then raised 1 t else t

-- what the block that ended last needs after it
abbrev pub raised_to_least : EventView → page.Trail → page.Trail
raised_to_least e t = raised (least e t.last) t

-- blank lines are between the items of a list, if it isn't tight
abbrev pub raised_in_loose_list : EventView → Bool → page.Trail → page.Trail
raised_in_loose_list e loose t = if starts is_item e && loose && is_item_end t.last then raised 2 t else t
