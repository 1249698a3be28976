-- The attributes of a heading.
use Rattle.std.specs.Prelude.{ℕ, Bool, not, ◌==◌, ◌||◌, nat_lt, if◌then◌else◌, List, [], ◌∷◌, ◌++◌, length, map, take_while, Option, Some, None}
use Rattle.std.specs.List.{flat_map, fold}
use Rattle.std.specs.Option.{option_map}
use Rattle.std.specs.Str.Lossy.{utf8_lossy}
use Rattle.tocmark_event.specs.Text.{text_of}
use Rattle.tocmark_event.specs.View as view
use Rattle.tocmark_event.specs.declared.event.HeadingLevel.{HeadingLevel}
use Rattle.tocmark_read_scan.specs.Basic.{plus, byte_at, bytes_between}
use Rattle.tocmark_read_page.specs.declared.page.Braces.{Braces}
use Rattle.tocmark_read_page.specs.Definitions.{replaced}
use Rattle.tocmark_reader.specs.declared.attributes.Attributes.{Attributes}

-- the attributes so far, and the word that goes on
pub record State : Type 0 where
  pub word : List ℕ
  pub id : Option (List ℕ)
  pub classes : List (List ℕ)
  pub attrs : List (List ℕ × Option (List ℕ))

-- the same as plain values
abbrev pub attributes_view : Attributes → State
attributes_view a = record {
  word = a.word.items;
  id = option_map text_of a.id;
  classes = map text_of a.classes.items;
  attrs = map (view.attribute_view text_of) a.attrs.items;
}

-- a space, tab or form feed
unfoldable pub parts_words : ℕ → Bool
parts_words b = (b == 32) || (b == 9) || (b == 12)

-- what is after the equals sign of an attribute, whose name has so many bytes
unfoldable pub value_of : List ℕ → ℕ → Option (List ℕ)
value_of word name = if nat_lt name (length word) then Some (utf8_lossy (bytes_between word (plus name 1) (length word))) else None

-- the bytes before the first equals sign
abbrev pub name_length : List ℕ → ℕ
name_length word = length (take_while (λ b. not (b == 61)) word)

-- an attribute with its value, if it has one
unfoldable pub attribute_of : List ℕ → List ℕ × Option (List ℕ)
attribute_of word = (utf8_lossy (bytes_between word 0 (name_length word)), value_of word (name_length word))

-- the text of a word without its first byte
abbrev pub behind_mark : List ℕ → List ℕ
behind_mark word = utf8_lossy (bytes_between word 1 (length word))

-- `#` names the heading, `.` a class, and any other word is an attribute; words of one byte say nothing
unfoldable pub with_word : State → State
with_word s =
    if nat_lt (length s.word) 2 then s
    else (if byte_at s.word 0 == 35 then record s { id = Some (behind_mark s.word) }
    else (if byte_at s.word 0 == 46 then record s { classes = s.classes ++ behind_mark s.word ∷ [] }
    else record s { attrs = s.attrs ++ attribute_of s.word ∷ [] }))

-- a word ends
unfoldable pub word_ended : State → State
word_ended s = record (with_word s) { word = [] }

-- one more byte
unfoldable pub byte_taken : State → ℕ → State
byte_taken s b = if parts_words b then word_ended s else record s { word = s.word ++ b ∷ [] }

-- no word yet
abbrev pub no_attributes : State
no_attributes = record { word = []; id = None; classes = []; attrs = [] }

-- the attributes that words name
unfoldable pub attributes_of : List ℕ → State
attributes_of words = word_ended (fold byte_taken no_attributes words)

-- a heading with these attributes
abbrev pub attributed : HeadingLevel → State → view.TagView
attributed level s = view.Heading level s.id s.classes s.attrs

-- a heading with the words between its braces
abbrev pub heading_tag : List ℕ → HeadingLevel → Option Braces → view.TagView
heading_tag text level None = view.Heading level None [] []
heading_tag text level (Some b) = attributed level (attributes_of (flat_map replaced (bytes_between text (plus b.from 1) b.to)))
