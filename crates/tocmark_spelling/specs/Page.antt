-- The text so far, the open containers, and what a finished container leaves to its right neighbour.
use Rattle.std.specs.Prelude.{ℕ, ◌+◌, ◌-◌, Bool, false, Option, Some, None, List, [], ◌∷◌, ◌++◌, nat_lt, max, replicate, if◌then◌else◌, ◌==◌}
use Rattle.tocmark_event.specs.View.{TagView, SourcedEvent, EventView, unsourced}
use Rattle.tocmark_spelling.specs.Words.{or_else}
use Rattle.tocmark_spelling.specs.declared.trail.Last.{Last}
use Rattle.tocmark_spelling.specs.declared.trail.Last.TheVariants.{Other}
use Rattle.tocmark_spelling.specs.declared.trail.LastList.{LastList}
use Rattle.tocmark_spelling.specs.declared.list_choice.ListChoice.{ListChoice}

-- what a finished tree leaves to its right neighbour: line feeds that must be before it, what was written last, the last list,
-- the line that goes on with a quote, whether raw text ended without a line feed, and whether HTML is open
pub record Trail : Type 0 where
  pub owed : ℕ
  pub last : Last
  pub last_list : Option LastList
  pub quote_line : Option (List ℕ)
  pub raw_end : Bool
  pub open_html : Bool

-- the trail at the beginning of a document
abbrev pub first_trail : Trail
first_trail = record { owed = 0; last = Other; last_list = None; quote_line = None; raw_end = false; open_html = false }

-- what the opening of a container chose, and what its children changed since
pub data OpeningChoice : Type 0 where
  Plain : OpeningChoice
  -- a heading: whether it is underlined
  Underlined : Bool → OpeningChoice
  -- a fenced code block: its fence
  Fence : List ℕ → OpeningChoice
  -- an HTML block: whether a blank line ends it, and whether its end is in it
  HtmlEnds : Bool → Bool → OpeningChoice
  -- a list
  Listed : ListChoice → OpeningChoice
  -- a definition: whether a Paragraph is among its children
  Defined : Bool → OpeningChoice
  -- a table: the widths of its cells that ended, in characters, in order
  Headers : List ℕ → OpeningChoice
  -- a cell: its width so far, in characters
  Width : ℕ → OpeningChoice
  -- emphasis and its like: what is before and after the body
  Delimited : List ℕ → List ℕ → OpeningChoice
  -- a link or image: whether its id is in place of its body
  Named : Bool → OpeningChoice

-- an open container: its prefix, and the place in the unit's text where its opening ended
pub record Level : Type 0 where
  pub tag : TagView
  pub prefix : List ℕ
  pub start : ℕ
  pub content : OpeningChoice

-- the open containers, innermost first
abbrev pub Path : Type 0
Path = List Level

-- the unit's text, and how many line feeds end all that the document has written, prefixes not counted
pub record Sheet : Type 0 where
  pub text : List ℕ
  pub feeds : ℕ

-- a definition of a link that is still to be written
pub record Reference : Type 0 where
  pub label : List ℕ
  pub destination : List ℕ
  pub title : List ℕ

-- a stretch of texts that has not ended: the joined texts, their joined sources where each is known,
-- and whether an End of Emphasis or Strong is before them
pub record Held : Type 0 where
  pub text : List ℕ
  pub source : Option (List ℕ)
  pub after_close : Bool

-- what is written, the trail, the references in the order of their closings, and the stretch that has not ended
pub record Page : Type 0 where
  pub sheet : Sheet
  pub trail : Trail
  pub references : List Reference
  pub held : Option Held

-- where the spelling is: the open containers and the page
pub record Site : Type 0 where
  pub path : Path
  pub page : Page

-- where a tree or forest is in its unit: the events before it, the last one first, the events after it,
-- and the event at whose coming the unit is flushed
pub record Around : Type 0 where
  pub before : List SourcedEvent
  pub after : List SourcedEvent
  pub next : Option EventView

-- the first event of a list
abbrev pub front : List SourcedEvent → Option EventView
front [] = None
front (e ∷ es) = Some (unsourced e)

-- the event that follows, beyond the unit's end too
abbrev pub following : Around → Option EventView
following a = or_else (front a.after) a.next

-- what is before a byte that is written after so many line feeds: the prefix at a line's beginning
abbrev pub lead : List ℕ → ℕ → List ℕ
lead prefix feeds = if nat_lt 0 feeds then prefix else []

-- the count of line feeds at the end, after one more byte (10 is a line feed)
abbrev pub feeds_after : ℕ → ℕ → ℕ
feeds_after b feeds = if b == 10 then feeds + 1 else 0

-- the sheet with one byte more, and the prefix before it where a line begins
abbrev pub put_byte : List ℕ → ℕ → Sheet → Sheet
put_byte prefix b s = record { text = s.text ++ lead prefix s.feeds ++ b ∷ []; feeds = feeds_after b s.feeds }

-- text laid on lines: each line that is begun, a blank one too, has the prefix before it
abbrev pub laid : List ℕ → List ℕ → Sheet → Sheet
laid prefix [] s = s
laid prefix (b ∷ bs) s = laid prefix bs (put_byte prefix b s)

-- line feeds until so many of them are
abbrev pub filled : List ℕ → ℕ → Sheet → Sheet
filled prefix lines s = laid prefix (replicate (lines - s.feeds) 10) s

-- the prefixes of the open containers joined, the outermost first
abbrev pub prefix_of : Path → List ℕ
prefix_of [] = []
prefix_of (l ∷ path) = prefix_of path ++ l.prefix

-- text laid on the page with a prefix
abbrev pub laid_on : List ℕ → List ℕ → Page → Page
laid_on prefix text p = record p { sheet = laid prefix text p.sheet }

-- text written inside the open containers
abbrev pub written : Path → List ℕ → Page → Page
written path text p = laid_on (prefix_of path) text p

-- line feeds inside the open containers until so many of them are
abbrev pub filled_to : ℕ → Path → Page → Page
filled_to lines path p = record p { sheet = filled (prefix_of path) lines p.sheet }

-- the page with this trail
abbrev pub with_trail : Trail → Page → Page
with_trail t p = record p { trail = t }

-- the page on which this was written last
abbrev pub with_last : Last → Page → Page
with_last l p = record p { trail = record p.trail { last = l } }

-- the page on which so many line feeds are owed
abbrev pub with_owed : ℕ → Page → Page
with_owed n p = record p { trail = record p.trail { owed = n } }

-- the trail on which at least so many line feeds are owed
abbrev pub raised : ℕ → Trail → Trail
raised n t = record t { owed = max t.owed n }
