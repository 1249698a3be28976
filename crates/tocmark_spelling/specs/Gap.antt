-- The gap before an event.
use Rattle.std.specs.Prelude.{ℕ, Bool, true, false, not, ◌&&◌, ◌||◌, ◌==◌, if◌then◌else◌, Option, Some, None, List, [], min}
use Rattle.tocmark_event.specs.View.{EventView}
use Rattle.tocmark_event.specs.declared.event.TagEnd.{TagEnd}
use Rattle.tocmark_event.specs.declared.event.TagEnd.TheVariants as end
use Rattle.tocmark_spelling.specs.Kinds.{is_paragraph, is_quote, is_indented_code, is_list, is_item, is_definition_list, is_definition_title, is_table, starts, is_break, begins_block}
use Rattle.tocmark_spelling.specs.Page.{Trail, Path, Page, laid_on, filled_to, with_trail, raised}
use Rattle.tocmark_spelling.specs.Places.{is_in, is_close, is_in_loose_list}
use Rattle.tocmark_spelling.specs.declared.trail.Last.{Last}
use Rattle.tocmark_spelling.specs.declared.trail.Last.TheVariants.{Inline, ItemStart, ItemEnd, ListEnd, DefinitionEnd, BlockEnd}
use Rattle.tocmark_spelling.specs.declared.trail.LastChild.{LastChild}
use Rattle.tocmark_spelling.specs.declared.trail.LastChild.TheVariants as tail

-- whether inline content was written last
abbrev pub is_inline : Last → Bool
is_inline Inline = true
is_inline l = false

-- whether an item's marker was written last
abbrev pub is_item_opening : Last → Bool
is_item_opening ItemStart = true
is_item_opening l = false

-- whether an item ended last
abbrev pub is_item_end : Last → Bool
is_item_end (ItemEnd t) = true
is_item_end l = false

-- whether a definition of a definition list ended last
abbrev pub is_definition_end : Last → Bool
is_definition_end DefinitionEnd = true
is_definition_end l = false

-- a new event ends raw text, and another than a list forgets the last list
abbrev pub resumed : EventView → Trail → Trail
resumed e t = record t { last_list = if starts is_list e then t.last_list else None; raw_end = false }

-- a list inside a list begins on a new line, but not right after its item's marker
abbrev pub raised_for_list : EventView → Path → Trail → Trail
raised_for_list e path t = if starts is_list e && is_in is_list path && not (is_item_opening t.last) then raised 1 t else t

-- a blank line is between a definition and the next title
abbrev pub raised_for_title : EventView → Trail → Trail
raised_for_title e t = if is_definition_end t.last && starts is_definition_title e then raised 2 t else t

-- a block begins on a new line after inline content
abbrev pub raised_for_block : EventView → Trail → Trail
raised_for_block e t = if is_inline t.last && begins_block e then raised 1 t else t

-- what could go on with a definition list, a footnote or a table
abbrev pub could_continue : EventView → Bool
could_continue e =
    not (begins_block e) || starts is_paragraph e || starts is_definition_list e || starts is_table e || starts is_indented_code e

-- the line feeds that keep the event apart from such a block (CommonMark, sections 4.6 and 5.1; GFM, section 4.10)
abbrev pub least_after : TagEnd → EventView → ℕ
least_after end.HtmlBlock e = 2
least_after end.DefinitionList e = if could_continue e then 2 else 0
least_after end.FootnoteDefinition e = if could_continue e then 2 else 0
least_after end.Table e = if could_continue e then 2 else 0
least_after (end.BlockQuote k) e = if starts is_quote e then 2 else 0
least_after k e = 0

-- the line feeds without which the event would be read as part of the block that ended last
abbrev pub least : EventView → Last → ℕ
least e (BlockEnd k) = least_after k e
least e l = 0

-- the line that goes on with a quote, on a line of its own; it is its own prefix
abbrev pub with_quote_line : Option (List ℕ) → Path → Page → Page
with_quote_line None path p = p
with_quote_line (Some line) path p = laid_on [] line (filled_to 1 path p)

-- what is owed once a quote's line is written: one line feed; without such a line, as many as before
abbrev pub owed_after_line : Option (List ℕ) → ℕ → ℕ
owed_after_line None owed = owed
owed_after_line (Some line) owed = 1

-- the line with which a quote goes on before the event, unless a blank line is needed or an item begins
abbrev pub quote_line_for : EventView → Trail → Option (List ℕ)
quote_line_for e t = if (least e t.last == 0) && not (starts is_item e) then t.quote_line else None

-- the page on which no quote has to go on
abbrev pub forget_quote : Page → Page
forget_quote p = with_trail (record p.trail { quote_line = None }) p

-- between close children at most one line feed is owed, and a quote that has to go on is written out
abbrev pub close_up : EventView → Path → Page → Page
close_up e path p =
    let line = quote_line_for e p.trail in
    let shown = with_quote_line line path p in
    with_trail (record p.trail { owed = owed_after_line line (min p.trail.owed 1); quote_line = None }) shown

-- the page with close children closed up; where they aren't close, or HTML is open, no quote goes on
abbrev pub closed_up : EventView → Path → Page → Page
closed_up e path p = if not p.trail.open_html && is_close path then close_up e path p else forget_quote p

-- whether the item ended with inline content, which is read as a paragraph
abbrev pub is_paragraph_tail : LastChild → Bool
is_paragraph_tail tail.Paragraph = true
is_paragraph_tail t = false

-- whether the item ended with a block
abbrev pub is_block_tail : LastChild → Bool
is_block_tail tail.Block = true
is_block_tail t = false

-- what could go on with the last item of an inner list
abbrev pub could_join : EventView → LastChild → Bool
could_join e t =
    starts is_paragraph e || starts is_definition_list e || (starts is_table e && is_paragraph_tail t)
    || (starts is_indented_code e && not (is_block_tail t))

-- whether an inner list ended last and the event could go on with its last item (CommonMark, section 5.2)
abbrev pub joins_list : EventView → Last → Bool
joins_list e (ListEnd t) = could_join e t
joins_list e l = false

-- a blank line is between an inner list and what could go on with its last item
abbrev pub raised_after_list : EventView → Trail → Trail
raised_after_list e t = if joins_list e t.last then raised 2 t else t

-- blank lines are between the items of a list that isn't tight
abbrev pub raised_for_item : EventView → Path → Trail → Trail
raised_for_item e path t = if starts is_item e && is_in_loose_list path && is_item_end t.last then raised 2 t else t

-- open HTML goes on until a line ends it, so that no blank line is written
abbrev pub after_html : Trail → Trail
after_html t = if t.open_html then record t { owed = 1; open_html = false } else t

-- the line feeds that are owed; a break writes none
abbrev pub separated : EventView → Path → Page → Page
separated e path p = if is_break e then p else with_trail (record p.trail { owed = 0 }) (filled_to p.trail.owed path p)

-- what is owed before the event, and the line of a quote that goes on
abbrev pub before_event : EventView → Path → Page → Page
before_event e path p =
    closed_up e path (with_trail (raised_for_block e (raised_for_title e (raised_for_list e path (resumed e p.trail)))) p)

-- what is owed, raised by all that wants a blank line before the event, unless HTML is open
abbrev pub raised_before : EventView → Path → Trail → Trail
raised_before e path t = after_html (raised_for_item e path (raised_after_list e (raised (least e t.last) t)))

-- the gap before an event that is neither an End nor Html
abbrev pub gap : EventView → Path → Page → Page
gap e path p =
    let here = before_event e path p in
    separated e path (with_trail (raised_before e path here.trail) here)
