-- What is of a unit's HTML from an event on.
use Rattle.std.specs.Prelude.{ℕ, suc, ◌+◌, ◌-◌, Bool, ◌&&◌, ◌==◌, if◌then◌else◌, nat_lt, Option, Some, None, List, [], ◌∷◌, length, take}
use Rattle.std.specs.Str.{IsUtf8, trim_start}
use Rattle.tocmark_write_pending.specs.Ahead.{texts_of, first_of}
use Rattle.tocmark_event.specs.View.{LeafView, Html, SourcedEvent, Leaf}
use Rattle.tocmark_spelling.specs.Body.{html_in, html_of_leaf}
use Rattle.tocmark_spelling.specs.Html.{is_blank_terminated}
use Rattle.tocmark_write_blocks.specs.BlockEnds.{last_of, ends_in}
use Rattle.tocmark_write_blocks.specs.declared.html_ahead.HtmlAhead.{HtmlAhead}

-- the joined HTML of these events
abbrev pub all_html : List SourcedEvent → List ℕ
all_html es = texts_of html_of_leaf es

-- the HTML of an event; empty where it has none
abbrev pub event_text : SourcedEvent → List ℕ
event_text (Leaf l) = html_of_leaf l.leaf
event_text e = []

-- the HTML of an event, if it is HTML
abbrev pub html_here : SourcedEvent → Option (List ℕ)
html_here (Leaf l) = html_in l.leaf
html_here e = None

-- the first number where there is such a text, else the second
abbrev pub left_if : Option (List ℕ) → ℕ → ℕ → ℕ
left_if (Some html) here behind = here
left_if None here behind = behind

-- how many events are left from the first HTML on; 0 where there is none
abbrev pub events_left : List SourcedEvent → ℕ
events_left [] = 0
events_left (Leaf l ∷ es) = left_if (html_in l.leaf) (suc (length es)) (events_left es)
events_left (e ∷ es) = events_left es

-- all that is known of the HTML of these events
abbrev pub ahead_of : List SourcedEvent → HtmlAhead
ahead_of es = record {
  left = length (all_html es);
  visible = length (trim_start (all_html es));
  ends = ends_in (all_html es);
  events = events_left es;
  blank = is_blank_terminated (first_of html_in es);
}

-- how many bytes are left from the first that is no white space on, with a text in front
abbrev pub visible_with : List ℕ → ℕ → ℕ → ℕ
visible_with html left visible = if length (trim_start html) == 0 then visible else left + length (trim_start html)

-- the same of all that is known, where so many events are left with this one, in the joined HTML of a unit
abbrev pub ahead_with : List ℕ → ℕ → List ℕ → HtmlAhead → HtmlAhead
ahead_with html events text behind = record {
  left = behind.left + length html;
  visible = visible_with html behind.left behind.visible;
  ends = ends_in (last_of (behind.left + length html) text);
  events = events;
  blank = is_blank_terminated (Some html);
}

-- the same with an event in front, whose HTML this is if it has one
abbrev pub ahead_at : Option (List ℕ) → ℕ → List ℕ → HtmlAhead → HtmlAhead
ahead_at (Some html) events text behind = ahead_with html events text behind
ahead_at None events text behind = behind

-- whether a blank line ends the block after whose end so many events are left
abbrev pub blank_by : ℕ → HtmlAhead → Bool
blank_by events ahead = nat_lt events ahead.events && ahead.blank

-- the HTML of a body without white space at its front, where so many bytes are left behind it, in the joined HTML of a unit
abbrev pub opening_in : List ℕ → ℕ → HtmlAhead → List ℕ
opening_in text after ahead = take (ahead.visible - after) (last_of ahead.visible text)

-- a text of HTML is UTF-8
abbrev pub IsHtmlText : LeafView → Type 0
IsHtmlText (Html t) = IsUtf8 t
IsHtmlText l = Unit {0}

-- the same of an event
abbrev pub IsHtml : SourcedEvent → Type 0
IsHtml (Leaf l) = IsHtmlText l.leaf
IsHtml e = Unit {0}

-- each text of HTML in a list is UTF-8
abbrev pub AreHtmlTexts : List SourcedEvent → Type 0
AreHtmlTexts [] = Unit {0}
AreHtmlTexts (e ∷ es) = IsHtml e × AreHtmlTexts es
