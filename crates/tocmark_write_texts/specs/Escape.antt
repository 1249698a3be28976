-- How a stretch of text is written, so that it is read back as that text.
use Rattle.std.specs.Prelude.{ℕ, Bool, true, false, not, ◌&&◌, ◌||◌, ◌==◌, if◌then◌else◌, Option, Some, None, is_none, is_some, List, [], ◌∷◌, ◌++◌, codes, chars, encode_utf8_all, string_bytes, bit_and, decimal, option_map, unwrap_or, slice_get}
use Rattle.std.specs.Char.{char_set_contains, is_ascii_digit}
use Rattle.std.specs.List.{list_all}
use Rattle.std.specs.Option.{option_map_or}
use Rattle.tocmark_event.specs.View.{EventView, event_view, Start, End, Leaf, Link, Image, FootnoteReference, SoftBreak, HardBreak}
use Rattle.tocmark_event.specs.declared.event.flags.ParserOptions.{ParserOptions}
use Rattle.tocmark_write_texts.specs.Characters.{is_alphanumeric, is_white_space, is_ascii_white_space, is_ascii_punctuation, tab, line_feed, carriage_return, space, exclamation_mark, hash, dollar, ampersand, colon, greater_than, backslash, caret, underscore, opening_brace, vertical_bar}
use Rattle.tocmark_write_texts.specs.declared.escape.EscapeSurroundings.{EscapeSurroundings}
use Rattle.tocmark_write_texts.specs.declared.escape.Spot.{Spot}

-- where a stretch of text is
pub record Surroundings : Type 0 where
  pub flags : ParserOptions
  -- the marker of emphasis
  pub token : ℕ
  -- whether markers stay as they are
  pub literal : Bool
  -- whether the first and the last character are written as references
  pub first_encoded : Bool
  pub last_encoded : Bool
  -- whether it is at the front of a line or of a container
  pub at_front : Bool
  pub in_table : Bool
  pub in_heading : Bool
  -- the event after it
  pub next : Option EventView

-- the writer's place of a stretch, as a plain value
abbrev pub place_of : EscapeSurroundings → Surroundings
place_of e = record {
  flags = e.flags;
  token = e.token;
  literal = e.literal;
  first_encoded = e.first_encoded;
  last_encoded = e.last_encoded;
  at_front = e.at_front;
  in_table = e.in_table;
  in_heading = e.in_heading;
  next = option_map (λ r. event_view string_bytes r.now) e.next;
}

-- a character with the one just before it, whether all before it are digits, and those after it
abbrev pub spot_from : Option ℕ → Bool → ℕ → List ℕ → Spot
spot_from before only_digits c after = record {
  character = c;
  before = before;
  after_digits = is_some before && only_digits;
  after = slice_get after 0;
  before_last = is_none (slice_get after 1);
}

-- a character of a stretch, with those before it, nearest first, and those after it
abbrev pub spot : List ℕ → ℕ → List ℕ → Spot
spot before c after = spot_from (slice_get before 0) (list_all is_ascii_digit before) c after

-- whether the flag with these bits is set
abbrev pub has : Surroundings → ℕ → Bool
has p flag = bit_and p.flags.0 flag == flag

-- whether a character is the first one of its stretch
abbrev pub is_first : Spot → Bool
is_first s = is_none s.before

-- whether a character is the last one of its stretch
abbrev pub is_last : Spot → Bool
is_last s = is_none s.after

-- whether a marker stays as it is
abbrev pub is_literal : Surroundings → ℕ → Bool
is_literal p c = p.literal && char_set_contains (codes "*_~^$") c

-- whether a character is written by its code
abbrev pub is_encoded : Surroundings → Spot → Bool
is_encoded p s = ((is_first s && p.first_encoded) || (is_last s && p.last_encoded)) && not (is_white_space s.character)

-- `&#d;` with the decimal code
unfoldable pub coded : ℕ → List ℕ
coded c = codes "&#" ++ decimal c ++ codes ";"

-- the reference that stands for a line ending, an ampersand, or a blank at the front
unfoldable pub reference : Surroundings → Spot → Option (List ℕ)
reference p s =
    if s.character == line_feed then Some (codes "&#10;")
    else if s.character == carriage_return then Some (codes "&#13;")
    else if s.character == ampersand then Some (codes "&amp;")
    else if s.character == space && is_first s && p.at_front then Some (codes "&#32;")
    else if s.character == tab && is_first s && p.at_front then Some (codes "&#9;")
    else None

-- whether a block could begin at the first character: at a front outside tables
abbrev pub begins_block : Surroundings → Spot → Bool
begins_block p s = is_first s && p.at_front && not p.in_table

-- whether nothing of this paragraph's line follows the stretch
unfoldable pub ends_line : Option EventView → Bool
ends_line None = true
ends_line (Some (End k)) = true
ends_line (Some (Leaf SoftBreak)) = true
ends_line (Some (Leaf HardBreak)) = true
ends_line (Some e) = false

-- whether a character may be after the marker of a block
abbrev pub goes_on_marker : ℕ → Bool
goes_on_marker c = is_ascii_white_space c || char_set_contains (codes "-+=") c

-- whether the first character could be the whole marker of a block
abbrev pub is_alone : Surroundings → Spot → Bool
is_alone p s = option_map_or goes_on_marker s.after (ends_line p.next)

-- whether the marker of a block could be read here
unfoldable pub is_marker : Surroundings → Spot → Bool
is_marker p s = begins_block p s && is_alone p s

-- a backslash: last, or before what it would escape or a line ending, as they are written
unfoldable pub doubles_backslash : Surroundings → Spot → Bool
doubles_backslash p s =
    option_map_or (λ c. is_ascii_punctuation c || c == line_feed || c == carriage_return
    || (s.before_last && p.last_encoded && not (is_white_space c))) s.after true

-- `>`: the marker of a quote
abbrev pub opens_quote : Surroundings → Spot → Bool
opens_quote p s = is_first s && not p.in_table

-- `^`: a superscript, or the mark of a footnote's label
abbrev pub opens_superscript : Surroundings → Spot → Bool
opens_superscript p s = has p 0x2000 || not (option_map_or is_alphanumeric s.before false)

-- `$`: mathematics
abbrev pub opens_math : Surroundings → Bool
opens_math p = has p 0x400

-- `:`: the marker of a definition
abbrev pub opens_definition : Surroundings → Spot → Bool
opens_definition p s = is_marker p s && has p 0x1000

-- `{`: the attributes of a heading
abbrev pub opens_attributes : Surroundings → Bool
opens_attributes p = p.in_heading && has p 0x40

-- `_`: emphasis, but not between letters or digits
abbrev pub opens_emphasis : Spot → Bool
opens_emphasis s = not (option_map_or is_alphanumeric s.before false && option_map_or is_alphanumeric s.after false)

-- a vertical bar: the border of a table's cell
abbrev pub opens_cell : Surroundings → Spot → Bool
opens_cell p s = is_first s || p.in_table || has p 0x2

-- `#`: the marker of a heading, or what may close one
abbrev pub opens_heading : Surroundings → Spot → Bool
opens_heading p s = (is_first s && not p.in_table) || p.in_heading

-- `.` and `)`: after the number of a list
abbrev pub ends_number : Surroundings → Spot → Bool
ends_number p s = not p.in_table && s.after_digits

-- whether a link, an image or a reference to a footnote follows
unfoldable pub opens_label : Option EventView → Bool
opens_label (Some (Start (Link k d t i))) = true
opens_label (Some (Start (Image k d t i))) = true
opens_label (Some (Leaf (FootnoteReference t))) = true
opens_label e = false

-- `!`: the marker of an image
abbrev pub opens_image : Surroundings → Spot → Bool
opens_image p s = is_last s && opens_label p.next

-- whether Markdown could read the character as a marker
unfoldable pub is_read_as_marker : Surroundings → Spot → Bool
is_read_as_marker p s =
    let c = s.character in
    if char_set_contains (codes "*[]<~`") c then true
    else if c == backslash then doubles_backslash p s
    else if c == greater_than then opens_quote p s
    else if c == caret then opens_superscript p s
    else if c == dollar then opens_math p
    else if c == colon then opens_definition p s
    else if c == opening_brace then opens_attributes p
    else if c == underscore then opens_emphasis s
    else if c == vertical_bar then opens_cell p s
    else if c == hash then opens_heading p s
    else if char_set_contains (codes "-+=") c then is_marker p s
    else if char_set_contains (codes ".)") c then ends_number p s
    else if c == exclamation_mark then opens_image p s
    else false

-- whether the character is a marker of emphasis that is neither `*` nor `_`
abbrev pub is_own_token : Surroundings → ℕ → Bool
is_own_token p c = c == p.token && not (char_set_contains (codes "*_") c)

-- whether a character has a backslash before it
unfoldable pub needs_backslash : Surroundings → Spot → Bool
needs_backslash p s = is_read_as_marker p s || is_own_token p s.character

-- a character as it is, with a backslash before it where it needs one
unfoldable pub with_backslash : Surroundings → Spot → List ℕ
with_backslash p s = if needs_backslash p s then backslash ∷ s.character ∷ [] else s.character ∷ []

-- how a character is written: the first rule that applies
unfoldable pub written : Surroundings → Spot → List ℕ
written p s =
    if is_literal p s.character then s.character ∷ []
    else if is_encoded p s then coded s.character
    else unwrap_or (reference p s) (with_backslash p s)

-- how characters are written, with those before them, nearest first
abbrev pub escape_after : Surroundings → List ℕ → List ℕ → List ℕ
escape_after p before [] = []
escape_after p before (c ∷ cs) = written p (spot before c cs) ++ escape_after p (c ∷ before) cs

-- how the characters of a stretch are written
abbrev pub escape : Surroundings → List ℕ → List ℕ
escape p cs = escape_after p [] cs

-- how a stretch is written, in bytes
unfoldable pub escaped : Surroundings → List ℕ → List ℕ
escaped p text = encode_utf8_all (escape p (chars text))
