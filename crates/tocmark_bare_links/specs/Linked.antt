-- Events in which bare addresses are links, as they are between angle brackets.
use Rattle.std.specs.Prelude.{ℕ, Bool, true, false, not, ◌-◌, ◌==◌, ◌&&◌, ◌||◌, min, nat_le, if◌then◌else◌, List, [], ◌∷◌, ◌++◌, drop, length, string_bytes, take_while}
use Rattle.std.specs.Char.{is_ascii_alphabetic}
use Rattle.std.specs.List.{fold}
use Rattle.tocmark_event.specs.Reading.{ReadingView}
use Rattle.tocmark_event.specs.View.{EventView, Start, End, Leaf, Text, SoftBreak, HardBreak, Rule, TaskListMarker, TagView, Link, Image, CodeBlock, HtmlBlock, MetadataBlock}
use Rattle.tocmark_event.specs.declared.event.TagEnd.{TagEnd}
use Rattle.tocmark_event.specs.declared.event.TagEnd.TheVariants as end
use Rattle.tocmark_spelling.specs.Kinds.{is_inline_tag, is_inline_end}
use Rattle.tocmark_read_scan.specs.Basic.{plus, byte_at, bytes_between, starts_at}
use Rattle.tocmark_bare_links.specs.Addresses.{kept_length}
use Rattle.tocmark_bare_links.specs.Lines.{ScanView, bracket, brackets_step, is_separator, line_added, part, scan_view, text_events, words_start}
use Rattle.tocmark_bare_links.specs.Signs.{sign_of, sign_start, sign_step}
use Rattle.tocmark_bare_links.specs.declared.border.Border.{Border}
use Rattle.tocmark_bare_links.specs.declared.border.Border.TheVariants as border
use Rattle.tocmark_bare_links.specs.declared.linker.Linker.{Linker}
use Rattle.tocmark_bare_links.specs.declared.sign.Sign.{Sign}
use Rattle.tocmark_bare_links.specs.declared.words.Brackets.{Brackets}

-- ---- what is between texts

-- links, and what has no links in its text
abbrev pub is_closed : TagView → Bool
is_closed (Link k d t i) = true
is_closed (Image k d t i) = true
is_closed (CodeBlock k) = true
is_closed HtmlBlock = true
is_closed (MetadataBlock k) = true
is_closed t = false

abbrev pub is_closed_end : TagEnd → Bool
is_closed_end end.Link = true
is_closed_end end.Image = true
is_closed_end end.CodeBlock = true
is_closed_end end.HtmlBlock = true
is_closed_end (end.MetadataBlock k) = true
is_closed_end k = false

abbrev pub block_unless : Bool → Border
block_unless is_inline = if is_inline then border.Inline else border.Block

-- what an event is between texts
abbrev pub border_of : EventView → Border
border_of (Start t) = block_unless (is_inline_tag t)
border_of (End k) = block_unless (is_inline_end k)
border_of (Leaf SoftBreak) = border.Line
border_of (Leaf HardBreak) = border.Line
border_of (Leaf (TaskListMarker b)) = border.Line
border_of (Leaf Rule) = border.Block
border_of (Leaf l) = border.Inline

-- how many containers without links are open after an event
abbrev pub closed_after : ℕ → EventView → ℕ
closed_after n (Start t) = if is_closed t then plus n 1 else n
closed_after n (End k) = if is_closed_end k then n - 1 else n
closed_after n (Leaf l) = n

-- the end of a cell
abbrev pub is_cell_end : EventView → Bool
is_cell_end (End end.TableCell) = true
is_cell_end e = false

-- a line begins after such an event
abbrev pub begins_line : Border → Bool
begins_line border.Inline = false
begins_line border.Line = true
begins_line border.Block = true

-- brackets are open until their block ends
abbrev pub brackets_after : Border → ℕ → ℕ
brackets_after border.Inline n = n
brackets_after border.Line n = n
brackets_after border.Block n = 0

-- ---- a stretch of texts

-- the events so far, the stretch of texts that is begun with its range, how many containers without links are open, whether the
-- stretch begins a line, up to where the words of addresses are told, whether each text of the stretch is its source, one after the
-- other, and what the texts since the last other event have of `://` and `www.` (`any`: what the stretch has)
pub record LinkingView : Type 0 where
  pub scan : ScanView
  pub stretch : List ℕ
  pub begun : Bool
  pub range : ℕ × ℕ
  pub closed : ℕ
  pub edge : Bool
  pub told : ℕ
  pub plain : Bool
  pub sign : Sign

abbrev pub linking_view : Linker → LinkingView
linking_view l = record {
  scan = scan_view l.scan;
  stretch = string_bytes l.stretch;
  begun = l.begun;
  range = l.range;
  closed = l.closed;
  edge = l.edge;
  told = l.told;
  plain = l.plain;
  sign = l.sign;
}

-- before the first event
abbrev pub linking_start : LinkingView
linking_start = record {
  scan = record { words = words_start false (record { opened = 0; escaped = false }); events = [] };
  stretch = [];
  begun = false;
  range = (0, 0);
  closed = 0;
  edge = true;
  told = 0;
  plain = true;
  sign = sign_start;
}

-- a text is its source byte for byte, without escapes and references
unfoldable pub is_plain : List ℕ → List ℕ → ℕ × ℕ → Bool
is_plain source text range = starts_at source range.0 text && (range.1 == plus range.0 (length text))

-- one of * _ ~, after which an address may begin
unfoldable pub is_delimiter : ℕ → Bool
is_delimiter b = (b == 42) || (b == 95) || (b == 126)

-- an address may begin where the stretch does
unfoldable pub may_open : List ℕ → ℕ → Bool → Bool
may_open source place edge = edge || is_delimiter (byte_at source (place - 1))

-- no address goes on where the stretch ends
unfoldable pub may_end : List ℕ → ℕ → Bool → Bool
may_end source place is_cell = is_separator (byte_at source place) || (is_cell && (byte_at source place == 124))

-- a byte that doesn't end a word
unfoldable pub goes_on : ℕ → Bool
goes_on b = not (is_separator b)

-- the length of the word that bytes begin with
unfoldable pub word_length : List ℕ → ℕ
word_length bytes = length (take_while goes_on bytes)

-- where the word ends that is at a place of the source
unfoldable pub word_end : List ℕ → ℕ → ℕ
word_end source place = plus place (word_length (drop place source))

-- the bytes of a range
abbrev pub bytes_of : List ℕ → ℕ × ℕ → List ℕ
bytes_of source range = bytes_between source range.0 range.1

-- the source of a text with the backslash before it, after a mark if a bracket is open before it
unfoldable pub spelled : List ℕ → ℕ × ℕ → Brackets → List ℕ
spelled source range brackets = (if brackets.opened == 0 then [] else bracket) ++ part source (if brackets.escaped then range.0 - 1 else range.0) range.1

-- a text that isn't plain: where programs look for an address, they see its escapes
unfoldable pub other_text : List ℕ → List ℕ → Bool → ℕ × ℕ → Brackets → List ℕ
other_text source text any range brackets = if any then spelled source range brackets else text

-- it is no link
unfoldable pub other_added : List ℕ → List ℕ → Bool → ℕ × ℕ → ScanView → ScanView
other_added source text any range s = record {
  words = record s.words { brackets = fold brackets_step s.words.brackets (bytes_of source range) };
  events = s.events ++ (Leaf (Text (other_text source text any range s.words.brackets)), range) ∷ [];
}

-- where the last word of a range begins
unfoldable pub word_start : List ℕ → ℕ × ℕ → ℕ
word_start source range = plus range.0 (sign_of (bytes_of source range)).start

-- where that word, with what goes on in it after the range, ends without punctuation
unfoldable pub tail_end : List ℕ → ℕ × ℕ → ℕ
tail_end source range =
    let start = word_start source range in plus start (kept_length (bytes_between source start (word_end source range.1)))

-- programs look for an address in the last word of the stretch; a word is looked at once
unfoldable pub is_looked_at : List ℕ → LinkingView → Bool
is_looked_at source l = (sign_of (bytes_of source l.range)).word && nat_le l.told l.range.1

-- an address ends in the stretch: what follows in its word is punctuation
unfoldable pub is_ended : List ℕ → LinkingView → Bool
is_ended source l = is_looked_at source l && nat_le (tail_end source l.range) l.range.1

-- the stretch is added, with links if it is plain
unfoldable pub stretch_added : List ℕ → Bool → LinkingView → ScanView
stretch_added source is_cell l =
    if l.plain then
    line_added l.stretch l.range.0 (may_open source l.range.0 l.edge)
    (may_end source l.range.1 is_cell || is_ended source l) l.scan
    else other_added source l.stretch l.sign.any l.range l.scan

-- what goes on in the last word of the stretch with its marks, as it is in the source
abbrev pub with_tail : List ℕ → LinkingView → LinkingView
with_tail source l = record {
  scan = record {
    words = l.scan.words;
    events = l.scan.events ++ text_events source 0 l.range.1 (tail_end source l.range);
  };
  stretch = l.stretch;
  begun = l.begun;
  range = l.range;
  closed = l.closed;
  edge = l.edge;
  told = word_end source l.range.1;
  plain = l.plain;
  sign = l.sign;
}

-- it is added if an address may go on there
unfoldable pub tail_added : List ℕ → Bool → LinkingView → LinkingView
tail_added source is_cell l =
    if not (may_end source l.range.1 is_cell) && is_looked_at source l then with_tail source l else l

-- the stretch is added, and what its last address goes on with
abbrev pub with_stretch : List ℕ → Bool → LinkingView → LinkingView
with_stretch source is_cell l = tail_added source is_cell (record l { scan = stretch_added source is_cell l })

-- the stretch is ended, if one is begun
unfoldable pub stretch_ended : List ℕ → Bool → LinkingView → LinkingView
stretch_ended source is_cell l =
    if l.begun then record (with_stretch source is_cell l) { stretch = []; begun = false } else l

-- ---- a text more

-- a text goes on with the stretch byte for byte
unfoldable pub is_next : List ℕ → LinkingView → List ℕ → ℕ × ℕ → Bool
is_next source l text range = l.plain && (range.0 == l.range.1) && is_plain source text range

-- how many letters bytes begin with
unfoldable pub letter_count : List ℕ → ℕ
letter_count bytes = length (take_while is_ascii_alphabetic bytes)

-- the word that bytes begin with, or so many bytes of it
unfoldable pub word_front : List ℕ → ℕ → List ℕ
word_front bytes most =
    let front = bytes_between bytes 0 (min most (length bytes)) in
    bytes_between front 0 (word_length front)

-- the letters at a place, and at most three bytes more of their word: a scheme or `www.` that begins there is seen by its end
unfoldable pub ahead : List ℕ → ℕ → List ℕ
ahead source place = let bytes = drop place source in word_front bytes (plus (letter_count bytes) 3)

-- programs look for an address before a place in its word, or at the place
unfoldable pub is_in_address : List ℕ → LinkingView → ℕ → Bool
is_in_address source l place = l.sign.word || (fold sign_step l.sign (ahead source place)).word

-- between two stretches of a line
abbrev pub parted : LinkingView → LinkingView
parted l = record l { edge = false; sign = record l.sign { any = false } }

-- the stretch ends before a text after an escape or a reference that is in no address
unfoldable pub divided : List ℕ → LinkingView → List ℕ → ℕ × ℕ → LinkingView
divided source l text range =
    if l.begun && not (is_next source l text range || is_in_address source l range.0) then parted (stretch_ended source false l) else l

-- a backslash escapes what is at a place where a stretch begins
unfoldable pub is_escaped : List ℕ → ℕ → Bool
is_escaped source place = byte_at source (place - 1) == 92

-- a stretch without a text
abbrev pub with_start : List ℕ → ℕ → LinkingView → LinkingView
with_start source place l = record {
  scan = record {
    words = record l.scan.words { brackets = record l.scan.words.brackets { escaped = is_escaped source place } };
    events = l.scan.events;
  };
  stretch = l.stretch;
  begun = true;
  range = (place, place);
  closed = l.closed;
  edge = l.edge;
  told = l.told;
  plain = true;
  sign = l.sign;
}

-- a stretch is begun
unfoldable pub begun_at : List ℕ → ℕ → LinkingView → LinkingView
begun_at source place l = if l.begun then l else with_start source place l

-- the stretch has one text more
abbrev pub with_text : List ℕ → LinkingView → List ℕ → ℕ × ℕ → LinkingView
with_text source l text range = record {
  scan = l.scan;
  stretch = l.stretch ++ text;
  begun = l.begun;
  range = (l.range.0, range.1);
  closed = l.closed;
  edge = l.edge;
  told = l.told;
  plain = is_next source l text range;
  sign = fold sign_step l.sign text;
}

-- a text outside of links
abbrev pub text_added : List ℕ → LinkingView → List ℕ → ℕ × ℕ → LinkingView
text_added source l text range = with_text source (begun_at source range.0 (divided source l text range)) text range

-- ---- all events

-- an event that is no text of a stretch
abbrev pub with_event : LinkingView → EventView → ℕ × ℕ → LinkingView
with_event l event range = record {
  scan = record {
    words = record l.scan.words {
      brackets = record l.scan.words.brackets { opened = brackets_after (border_of event) l.scan.words.brackets.opened };
    };
    events = l.scan.events ++ (event, range) ∷ [];
  };
  stretch = l.stretch;
  begun = l.begun;
  range = l.range;
  closed = closed_after l.closed event;
  edge = begins_line (border_of event);
  told = l.told;
  plain = l.plain;
  sign = sign_start;
}

-- it ends the stretch
unfoldable pub passed : List ℕ → LinkingView → EventView → ℕ × ℕ → LinkingView
passed source l event range = with_event (stretch_ended source (is_cell_end event) l) event range

-- one event more
abbrev pub added : List ℕ → LinkingView → EventView → ℕ × ℕ → LinkingView
added source l (Leaf (Text t)) range = if l.closed == 0 then text_added source l t range else passed source l (Leaf (Text t)) range
added source l event range = passed source l event range

abbrev pub link_step : List ℕ → LinkingView → EventView × (ℕ × ℕ) → LinkingView
link_step source l e = added source l e.0 e.1

-- events of a source with bare addresses as links
unfoldable pub linked : List ℕ → List (EventView × (ℕ × ℕ)) → List (EventView × (ℕ × ℕ))
linked source events = (stretch_ended source false (fold (link_step source) linking_start events)).scan.events

-- what is found in a source, with bare addresses as links
abbrev pub linked_reading : List ℕ → ReadingView → ReadingView
linked_reading source r = record { events = linked source r.events; defined = r.defined; unresolved = r.unresolved }
