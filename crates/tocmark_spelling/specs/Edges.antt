-- The characters beside delimiters, and what a run of delimiters may border on.
use Rattle.std.specs.Prelude.{ℕ, Bool, true, false, not, ◌&&◌, ◌||◌, if◌then◌else◌, nat_lt, Option, Some, None, List, ◌++◌, codes, encode_utf8}
use Rattle.std.specs.List.{list_any}
use Rattle.tocmark_event.specs.View.{LeafView, Text, InlineHtml, SoftBreak, HardBreak, EventView, Start, End, Leaf}
use Rattle.tocmark_event.specs.declared.event.flags.ParserOptions.{ParserOptions}
use Rattle.tocmark_spelling.specs.Plan.{Setting}
use Rattle.tocmark_write_texts.specs.Characters.{is_ascii_white_space, is_ascii_punctuation, is_white_space, line_feed}
use Rattle.tocmark_spelling.specs.Words.{first_character, last_character, asterisk}
use Rattle.tocmark_spelling.specs.Kinds.{is_inline_tag, is_inline_end, is_emphasis, starts}
use Rattle.tocmark_spelling.specs.ById.{events_of}

-- the first or last character of a leaf, as its neighbours see it
abbrev pub leaf_edge : (List ℕ → Option ℕ) → LeafView → Option ℕ
leaf_edge pick (Text t) = pick t
leaf_edge pick (InlineHtml t) = pick t
leaf_edge pick SoftBreak = Some line_feed
leaf_edge pick HardBreak = Some line_feed
leaf_edge pick l = Some asterisk

-- the first or last character of an event, as its neighbours see it; none at the border of a block
abbrev pub event_edge : (List ℕ → Option ℕ) → EventView → Option ℕ
event_edge pick (Start t) = if is_inline_tag t then Some asterisk else None
event_edge pick (End k) = if is_inline_end k then Some asterisk else None
event_edge pick (Leaf l) = leaf_edge pick l

-- an event's first or last character, as its neighbours see it; none at the border of a block
abbrev pub edge : (List ℕ → Option ℕ) → Option EventView → Option ℕ
edge pick None = None
edge pick (Some e) = event_edge pick e

-- the last character of the event before, and the first of the event after
abbrev pub edge_before : Option EventView → Option ℕ
edge_before e = edge last_character e

-- the first character of the event after
abbrev pub edge_after : Option EventView → Option ℕ
edge_after e = edge first_character e

-- the flags for plain Markdown: no extension is switched on
abbrev pub no_flags : ParserOptions
no_flags = record { 0 = 0 }

-- whether the reader opens emphasis after a character
abbrev pub opens_behind : Setting → ℕ → Bool
opens_behind s c = list_any (λ e. starts is_emphasis e) (events_of (s.reading (encode_utf8 c ++ codes "_x_") no_flags))

-- whether `_` may open or close emphasis beside a character, in ASCII or past it (CommonMark, section 6.2)
abbrev pub is_boundary_character : Bool → Setting → ℕ → Bool
is_boundary_character true s c = is_ascii_white_space c || is_ascii_punctuation c
is_boundary_character false s c = opens_behind s c

-- whether `_` may open or close emphasis beside a character: no character, ASCII white space or punctuation, and past
-- ASCII what the reader says (CommonMark, section 6.2)
unfoldable pub is_boundary : Setting → Option ℕ → Bool
is_boundary s None = true
is_boundary s (Some c) = is_boundary_character (nat_lt c 128) s c

-- a character that is there, no white space, and a boundary: punctuation
abbrev pub is_punctuation : Setting → Option ℕ → Bool
is_punctuation s None = false
is_punctuation s (Some c) = not (is_white_space c) && is_boundary s (Some c)
