-- The addresses of a line, and the events that show them as links.
use Rattle.std.specs.Prelude.{ℕ, Bool, not, is_none, ◌-◌, ◌==◌, ◌&&◌, ◌||◌, nat_lt, nat_le, if◌then◌else◌, List, [], ◌∷◌, ◌++◌, length, drop, map, take_while, Option, Some, None}
use Rattle.std.specs.List.{fold}
use Rattle.std.specs.Str.Lossy.{utf8_lossy}
use Rattle.tocmark_event.specs.Text.{ParserEvent, text_of}
use Rattle.tocmark_event.specs.View.{EventView, Start, End, Leaf, Text, TagView, Link, event_view}
use Rattle.tocmark_event.specs.declared.event.LinkType.{LinkType}
use Rattle.tocmark_event.specs.declared.event.LinkType.TheVariants as link
use Rattle.tocmark_event.specs.declared.event.TagEnd.TheVariants as end
use Rattle.tocmark_read_scan.specs.Basic.{plus, bytes_between}
use Rattle.tocmark_bare_links.specs.Addresses.{has_scheme, is_sign, mail_address, web_address}
use Rattle.tocmark_bare_links.specs.declared.address.Kind.{Kind}
use Rattle.tocmark_bare_links.specs.declared.address.Kind.TheVariants.{Web, Named, Mail}
use Rattle.tocmark_bare_links.specs.declared.address.Address.{Address}
use Rattle.tocmark_bare_links.specs.declared.words.Brackets.{Brackets}
use Rattle.tocmark_bare_links.specs.declared.words.Words.{Words}
use Rattle.tocmark_bare_links.specs.declared.words.Spot.{Spot}
use Rattle.tocmark_bare_links.specs.declared.scan.Scan.{Scan}

-- ---- the words of a line

-- white space, or `<`: no byte of an address
unfoldable pub is_separator : ℕ → Bool
is_separator b = (b == 32) || (b == 60) || (nat_le 9 b && nat_le b 13)

-- one of ( * ~, which may come before an address in a word
unfoldable pub is_lead : ℕ → Bool
is_lead b = (b == 40) || (b == 42) || (b == 126)

-- how many of them a word begins with
unfoldable pub lead_length : List ℕ → ℕ
lead_length word = length (take_while is_lead word)

-- how many `[` are open after one byte more; an escaped bracket doesn't count
unfoldable pub brackets_step : Brackets → ℕ → Brackets
brackets_step s b = record {
  opened = if s.escaped then s.opened else if b == 91 then plus s.opened 1 else if b == 93 then s.opened - 1 else s.opened;
  escaped = not s.escaped && (b == 92);
}

-- before the first byte of a line: whether an address may begin there, and which brackets are open
abbrev pub words_start : Bool → Brackets → Words
words_start opens brackets = record { place = 0; start = 0; opens = opens; leads = opens; brackets = brackets; found = None; linked = 0 }

-- the first web address of the last word may be at the end of the front: it may begin there, no bracket is open, and a scheme follows
unfoldable pub may_begin : List ℕ → Words → Bool
may_begin text w = is_none w.found && w.leads && (w.brackets.opened == 0) && has_scheme text w.place

-- programs look for an address at the end of the front, and make no link of it, because a bracket is open
unfoldable pub is_within_brackets : List ℕ → Words → Bool
is_within_brackets text w = not (w.brackets.opened == 0) && is_none w.found && is_sign text w.place

-- one byte further: an address may begin after white space, and after one of ( * ~
unfoldable pub words_step : List ℕ → Words → ℕ → Words
words_step text w b =
    if is_separator b then record {
      place = plus w.place 1;
      start = plus w.place 1;
      opens = not (b == 60);
      leads = not (b == 60);
      brackets = brackets_step w.brackets b;
      found = None;
      linked = w.linked;
    }
    else record {
      place = plus w.place 1;
      start = w.start;
      opens = w.opens;
      leads = is_lead b;
      brackets = brackets_step w.brackets b;
      found = if may_begin text w then Some w.place else w.found;
      linked = w.linked;
    }

-- where an address is, if there is one
abbrev pub spot_from : ℕ → Option Address → Option Spot
spot_from start None = None
spot_from start (Some a) = Some (record { kind = a.kind; start = start; end = plus start a.length })

-- where the mail address of a word is: at its front
unfoldable pub mail_spot : Bool → ℕ → List ℕ → Option Spot
mail_spot opens start word = if opens then spot_from (plus start (lead_length word)) (mail_address (drop (lead_length word) word)) else None

-- where the address of the last word is whose first web address may be at a place
abbrev pub spot_from_lead : List ℕ → Words → Option ℕ → Option Spot
spot_from_lead text w None = mail_spot w.opens w.start (bytes_between text w.start w.place)
spot_from_lead text w (Some lead) = spot_from lead (web_address (bytes_between text lead w.place))

-- where the address of the last word is
unfoldable pub spot_of : List ℕ → Words → Option Spot
spot_of text w = spot_from_lead text w w.found

-- ---- events

-- an event with its range
abbrev pub shown : ParserEvent × (ℕ × ℕ) → EventView × (ℕ × ℕ)
shown e = (event_view text_of e.0, e.1)

-- a part of a text; no part is cut within a character
unfoldable pub part : List ℕ → ℕ → ℕ → List ℕ
part text start end = utf8_lossy (bytes_between text start end)

-- how the link of an address is spelled between angle brackets
abbrev pub link_type : Kind → LinkType
link_type Web = link.Autolink
link_type Named = link.Autolink
link_type Mail = link.Email

-- "http://", which `www.` leaves out
abbrev pub scheme : Kind → List ℕ
scheme Named = 104 ∷ 116 ∷ 116 ∷ 112 ∷ 58 ∷ 47 ∷ 47 ∷ []
scheme k = []

-- the start of a link to an address
abbrev pub link_tag : Kind → List ℕ → TagView
link_tag kind address = Link (link_type kind) (scheme kind ++ address) [] []

-- the range of a part of a text that is at a place
abbrev pub range_at : ℕ → ℕ → ℕ → ℕ × ℕ
range_at base start end = (plus base start, plus base end)

-- a part of a text as an event, if there is one
unfoldable pub text_events : List ℕ → ℕ → ℕ → ℕ → List (EventView × (ℕ × ℕ))
text_events text base start end =
    if nat_lt start end then (Leaf (Text (part text start end)), range_at base start end) ∷ [] else []

-- an address as a link
unfoldable pub link_events : List ℕ → ℕ → Spot → List (EventView × (ℕ × ℕ))
link_events text base s =
    let range = range_at base s.start s.end in
    let address = part text s.start s.end in
    (Start (link_tag s.kind address), range) ∷ (Leaf (Text address), range) ∷ (End end.Link, range) ∷ []

-- the words of a line so far, and the events so far
pub record ScanView : Type 0 where
  pub words : Words
  pub events : List (EventView × (ℕ × ℕ))

abbrev pub scan_view : Scan → ScanView
scan_view s = record { words = s.words; events = map shown s.events.items }

-- the text up to an address, and its link
abbrev pub with_link : List ℕ → ℕ → ScanView → Option Spot → ScanView
with_link text base s None = s
with_link text base s (Some spot) = record {
  words = record s.words { linked = spot.end };
  events = s.events ++ text_events text base s.words.linked spot.start ++ link_events text base spot;
}

-- a word has ended
unfoldable pub word_ended : List ℕ → ℕ → ScanView → ScanView
word_ended text base s = with_link text base s (spot_of text s.words)

-- "[", which tells that an address is within brackets
abbrev pub bracket : List ℕ
bracket = 91 ∷ []

-- the text up to here, and a mark
unfoldable pub bracket_told : List ℕ → ℕ → ScanView → ScanView
bracket_told text base s = record {
  words = record s.words { linked = s.words.place };
  events = s.events ++ text_events text base s.words.linked s.words.place ++ (Leaf (Text bracket), range_at base s.words.place s.words.place) ∷ [];
}

-- the words are one byte further
abbrev pub with_words : List ℕ → ScanView → ℕ → ScanView
with_words text s b = record { words = words_step text s.words b; events = s.events }

-- before a byte: a word ends, or an address is within brackets
unfoldable pub scan_before : List ℕ → ℕ → ScanView → ℕ → ScanView
scan_before text base s b =
    if is_separator b then word_ended text base s else if is_within_brackets text s.words then bracket_told text base s else s

-- one byte further
unfoldable pub scan_step : List ℕ → ℕ → ScanView → ℕ → ScanView
scan_step text base s b = with_words text (scan_before text base s b) b

-- what is left of a line is text; its last word is ended if nothing may follow that goes on in it
unfoldable pub line_ended : List ℕ → ℕ → Bool → ScanView → ScanView
line_ended text base ends s =
    let e = if ends then word_ended text base s else s in
    record { words = e.words; events = e.events ++ text_events text base e.words.linked (length text) }

-- a line whose text is at a place
unfoldable pub line_added : List ℕ → ℕ → Bool → Bool → ScanView → ScanView
line_added text base opens ends s =
    line_ended text base ends
    (fold (scan_step text base) (record { words = words_start opens s.words.brackets; events = s.events }) text)
