-- What an example of the standard is: a text, and its events as far as the standard's HTML shows them.
use Rattle.std.specs.Prelude.{◌≡◌, ℕ, List, [], ◌∷◌, ◌++◌, map, codes}
use Rattle.tocmark_event.specs.declared.event.LinkType.{LinkType}
use Rattle.tocmark_event.specs.declared.event.LinkType.TheVariants.{Inline, Email}
use Rattle.tocmark_event.specs.View.{TagView, CodeBlock, Indented, Fenced, Link, Image, EventView, Start}
use Rattle.tocmark_commonmark.specs.Events.{events_of}

-- a link leads to an email address by `mailto:`
abbrev pub shown_destination : LinkType → List ℕ → List ℕ
shown_destination Email address = codes "mailto:" ++ address
shown_destination k destination = destination

-- HTML shows no type and no label of a link, and not whether code without an info string has fences
abbrev pub shown_tag : TagView → TagView
shown_tag (Link k d t l) = Link Inline (shown_destination k d) t []
shown_tag (Image k d t l) = Image Inline d t []
shown_tag (CodeBlock Indented) = CodeBlock (Fenced [])
shown_tag t = t

-- an event as HTML shows it
abbrev pub shown : EventView → EventView
shown (Start t) = Start (shown_tag t)
shown e = e

-- a row: a text and its events
pub record EventRow : Type 0 where
  pub text : List ℕ
  pub events : List EventView

-- a row of these
abbrev pub event_row : List ℕ → List EventView → EventRow
event_row text events = record { text = text; events = events }

-- a row has the events of its text
abbrev pub HasEvents : EventRow → Type 0
HasEvents r = map shown (events_of r.text) ≡ r.events

-- each row has
unfoldable pub HaveEvents : List EventRow → Type 0
HaveEvents [] = Unit {0}
HaveEvents (r ∷ rs) = HasEvents r × HaveEvents rs
