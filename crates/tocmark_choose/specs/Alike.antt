-- Units whose texts are spelled alike in the source and escaped.
use Rattle.std.specs.Prelude.{◌≡◌, ℕ, Bool, true, false, not, ◌&&◌, ◌||◌, ◌==◌, if◌then◌else◌, Option, Some, None, List, [], ◌∷◌, codes}
use Rattle.std.specs.Char.{char_set_contains, is_ascii_digit}
use Rattle.std.specs.List.{list_all}
use Rattle.std.specs.Str.{IsUtf8}
use Rattle.tocmark_event.specs.View.{TagView, Link, Image, LeafView, Text, Code, InlineHtml, FootnoteReference, SourcedEvent, Start, End, Leaf}
use Rattle.tocmark_event.specs.declared.event.TagEnd.{TagEnd}
use Rattle.tocmark_event.specs.declared.event.TagEnd.TheVariants as end
use Rattle.tocmark_spelling.specs.Places.{is_raw_tag}
use Rattle.tocmark_write_texts.specs.Bare.{is_bare}
use Rattle.tocmark_write_texts.specs.Characters.{greater_than, tab}
use Rattle.tocmark_write_texts.specs.Leaves.{last_is}
use Rattle.tocmark_choose.specs.declared.alike.Place.{Place}
use Rattle.tocmark_choose.specs.declared.alike.Place.TheVariants.{Front, Settled, Within}

-- whether a character at a text's front could be a marker wherever the text is: a quote's, or a digit of a number
abbrev pub is_front_mark : ℕ → Bool
is_front_mark c = is_ascii_digit c || c == greater_than

-- whether a character could begin a block at the front of a line or a container, or is written as a reference there
abbrev pub is_line_mark : ℕ → Bool
is_line_mark c = char_set_contains (tab ∷ codes " -+=:") c

-- whether a text begins with no such character; inside a line the second kind is none
abbrev pub has_bare_front : Bool → List ℕ → Bool
has_bare_front within [] = true
has_bare_front within (b ∷ bs) = not (is_front_mark b) && (within || not (is_line_mark b))

-- whether a text is escaped as it is, inside a line or wherever it is
abbrev pub is_plain : Bool → List ℕ → Bool
is_plain within text = has_bare_front within text && list_all is_bare text

-- a text that is spelled alike in its source and escaped; one without a source is escaped either way
abbrev pub IsAlike : Bool → List ℕ → Option (List ℕ) → Type 0
IsAlike within text None = Unit {0}
IsAlike within text (Some source) = (source ≡ text) × IsUtf8 text × (is_plain within text ≡ true)

-- the same of a leaf; only a Text is escaped
abbrev pub IsLeafAlike : Bool → LeafView → Option (List ℕ) → Type 0
IsLeafAlike within (Text t) source = IsAlike within t source
IsLeafAlike within l source = Unit {0}

-- the same of an event; texts in code, HTML, metadata and autolinks are written as they are
abbrev pub IsEventAlike : Bool → Bool → SourcedEvent → Type 0
IsEventAlike false within (Leaf l) = IsLeafAlike within l.leaf l.source
IsEventAlike raw within e = Unit {0}

-- whether the texts after an event are written as they are
abbrev pub raw_after : Bool → SourcedEvent → Bool
raw_after raw (Start t) = is_raw_tag t
raw_after raw (End k) = false
raw_after raw (Leaf l) = raw

-- a link or an image
abbrev pub is_link : TagView → Bool
is_link (Link kind dest title id) = true
is_link (Image kind dest title id) = true
is_link t = false

-- its end
abbrev pub is_link_end : TagEnd → Bool
is_link_end end.Link = true
is_link_end end.Image = true
is_link_end k = false

-- whether the next event is inside a line
abbrev pub is_within : Place → Bool
is_within Within = true
is_within p = false

-- where the next event is after the end of a link: inside its line, if nothing was owed before that
abbrev pub closed_at : Place → Place
closed_at Front = Front
closed_at p = Within

-- where the next event is after a leaf: inside a line after code, HTML and a footnote's label, and nothing is owed after a text
abbrev pub place_after_leaf : LeafView → Place
place_after_leaf (Text t) = Settled
place_after_leaf (Code t) = Within
place_after_leaf (FootnoteReference label) = Within
place_after_leaf (InlineHtml t) = if last_is greater_than t then Within else Front
place_after_leaf l = Front

-- where the next event is after an event
abbrev pub place_after : Place → SourcedEvent → Place
place_after p (Start t) = if is_link t then Settled else Front
place_after p (End k) = if is_link_end k then closed_at p else Front
place_after p (Leaf l) = place_after_leaf l.leaf

-- events whose texts are spelled alike in the source and escaped
abbrev pub AreAlike : Bool → Place → List SourcedEvent → Type 0
AreAlike raw p [] = Unit {0}
AreAlike raw p (e ∷ es) = IsEventAlike raw (is_within p) e × AreAlike (raw_after raw e) (place_after p e) es
