-- Where inline content goes on inside a line.
use Rattle.std.specs.Prelude.{Bool, true, false, not, ◌&&◌, ◌==◌, None, is_none}
use Rattle.tocmark_event.specs.View.{EventView, Leaf, Text, Code, InlineHtml, SoftBreak}
use Rattle.tocmark_spelling.specs.Page.{Page, Trail, with_trail}
use Rattle.tocmark_spelling.specs.declared.trail.Last.{Last}
use Rattle.tocmark_spelling.specs.declared.trail.Last.TheVariants.{Inline, Other}

-- the leaves that lines are mostly made of
abbrev pub is_in_line : EventView → Bool
is_in_line (Leaf (Text t)) = true
is_in_line (Leaf (Code t)) = true
is_in_line (Leaf (InlineHtml t)) = true
is_in_line (Leaf SoftBreak) = true
is_in_line e = false

-- no block, item or list ended last
abbrev pub is_within : Last → Bool
is_within Inline = true
is_within Other = true
is_within l = false

-- nothing is owed before such a leaf
abbrev pub owes_nothing : Trail → Bool
owes_nothing t = is_within t.last && (t.owed == 0) && not t.open_html && is_none t.quote_line

-- the page on which inline content goes on: raw text has ended, and no list is the last one
abbrev pub going_on : Page → Page
going_on p = with_trail (record p.trail { last_list = None; raw_end = false }) p
