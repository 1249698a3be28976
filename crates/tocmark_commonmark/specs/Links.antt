-- Links and images (CommonMark 0.31.2, 6.3 and 6.4), and the definitions that labels lead to (4.7). Destinations, titles and labels
-- are the reader's definitions, because each of these already states a rule of the standard.
use Rattle.std.specs.Prelude.{ℕ, ◌+◌, Bool, true, false, ◌||◌, List, [], ◌∷◌, map, bytes_eq, Option, Some, None}
use Rattle.tocmark_event.specs.declared.event.LinkType.{LinkType}
use Rattle.tocmark_event.specs.declared.event.LinkType.TheVariants.{Inline, Reference}
use Rattle.tocmark_read_scan.specs.Basic.{bytes_between}
use Rattle.tocmark_read_tokens.specs.Label.{key_of}
use Rattle.tocmark_read_tokens.specs.Word.{label, label_from}
use Rattle.tocmark_read_tokens.specs.declared.word.Word.{Word}
use Rattle.tocmark_read_page.specs.Definitions.{DefinitionView}
use Rattle.tocmark_read_spans.specs.Link.{inline_target, ending_at, own_from}
use Rattle.tocmark_read_spans.specs.declared.link.InlineTarget.{InlineTarget}
use Rattle.tocmark_read_spans.specs.declared.link.Asked.{Asked}
use Rattle.tocmark_commonmark.specs.InlineTree.{Bracket}
use Rattle.tocmark_commonmark.specs.Tokens.{resolved}

-- What a label leads to: the label as it is matched, the destination and the title.
pub record Destination : Type 0 where
  pub key : List ℕ
  pub destination : List ℕ
  pub title : List ℕ

-- 4.7: what a definition says
abbrev pub destination_of : DefinitionView → Destination
destination_of d = record { key = key_of d.label; destination = resolved d.destination; title = resolved d.title }

-- 4.7: what definitions say, in the same order
abbrev pub destinations : List DefinitionView → List Destination
destinations ds = map destination_of ds

-- this one, or what follows
abbrev pub this_or : Bool → Destination → Option Destination → Option Destination
this_or true d rest = Some d
this_or false d rest = rest

-- 4.7: if there are several matching definitions, the first one takes precedence
abbrev pub first_of : List Destination → List ℕ → Option Destination
first_of [] key = None
first_of (d ∷ ds) key = this_or (bytes_eq d.key key) d (first_of ds key)

-- What a link or an image is, and the place after it.
pub record Target : Type 0 where
  pub link_type : LinkType
  pub destination : List ℕ
  pub title : List ℕ
  pub label : List ℕ
  pub end : ℕ

-- the bytes of a word
abbrev pub word_text : List ℕ → Word → List ℕ
word_text bytes w = bytes_between bytes w.start w.end

-- 6.3: an inline link
abbrev pub inline_link : List ℕ → InlineTarget → Target
inline_link bytes t = record {
  link_type = Inline;
  destination = resolved (word_text bytes t.destination);
  title = resolved (word_text bytes t.title);
  label = [];
  end = t.end;
}

-- 6.3: a reference link whose label matches a definition
abbrev pub reference_link : Asked → List ℕ → Option Destination → Option Target
reference_link a text None = None
reference_link a text (Some d) = Some (record { link_type = a.link_type; destination = d.destination; title = d.title; label = text; end = a.end })

-- 6.3: a label is looked up
abbrev pub looked_up : List ℕ → List Destination → Option Asked → Option Target
looked_up bytes labels None = None
looked_up bytes labels (Some a) = reference_link a (word_text bytes a.label) (first_of labels (key_of (word_text bytes a.label)))

-- 6.3: a full reference link has its label after the closing bracket; without one the bracket's own text is the label
abbrev pub asked : List ℕ → Bracket → ℕ → Option Word → Option Asked
asked bytes b place None = own_from bytes place (ending_at place (label_from bytes b.inner))
asked bytes b place (Some l) = Some (record { link_type = Reference; label = l; end = l.next })

-- 6.3: an inline link, else a reference link
abbrev pub target_or : List ℕ → List Destination → Bracket → ℕ → Option InlineTarget → Option Target
target_or bytes labels b place None = looked_up bytes labels (asked bytes b place (label bytes (place + 1)))
target_or bytes labels b place (Some t) = Some (inline_link bytes t)

-- 6.3: what an opening bracket and the closing bracket at a place are, if it may begin a link or an image
abbrev pub target_if : Bool → List ℕ → List Destination → Bracket → ℕ → Option Target
target_if false bytes labels b place = None
target_if true bytes labels b place = target_or bytes labels b place (inline_target bytes (place + 1))

-- 6.3: the same
abbrev pub target : List ℕ → List Destination → Bracket → ℕ → Option Target
target bytes labels b place = target_if (b.is_image || b.is_active) bytes labels b place
