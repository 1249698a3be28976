-- When two texts say the same: a reader finds the same events in both, each longest stretch of texts as one. If white space is
-- folded, a soft break is a blank, and so is each run of white space in a text.
use Rattle.std.specs.Prelude.{ℕ, Bool, true, false, if◌then◌else◌, ◌==◌, ◌||◌, ◌≡◌, List, [], ◌∷◌, ◌++◌, encode_utf8_all}
use Rattle.std.specs.Str.{chars}
use Rattle.tocmark_event.specs.Merged.{merged}
use Rattle.tocmark_event.specs.Reading.{ReadingView}
use Rattle.tocmark_event.specs.View.{TagView, CodeBlock, HtmlBlock, MetadataBlock, Link, Image, SoftBreak, Text, EventView, Start, End, Leaf}
use Rattle.tocmark_compare.specs.Given.{found_events}

-- blanks, tabs and line feeds
abbrev pub is_white : ℕ → Bool
is_white c = c == 32 || c == 9 || c == 10

-- a character, or a blank for white space; nothing for white space after white space
abbrev pub folded_character : Bool → ℕ → List ℕ
folded_character behind c = if is_white c then (if behind then [] else 32 ∷ []) else c ∷ []

-- characters with one blank for each run of white space
abbrev pub folded_characters : Bool → List ℕ → List ℕ
folded_characters behind [] = []
folded_characters behind (c ∷ cs) = folded_character behind c ++ folded_characters (is_white c) cs

-- whether white space is after characters
abbrev pub ends_white : Bool → List ℕ → Bool
ends_white behind [] = behind
ends_white behind (c ∷ cs) = ends_white (is_white c) cs

-- a text with one blank for each run of white space
abbrev pub folded_text : Bool → List ℕ → List ℕ
folded_text behind t = encode_utf8_all (folded_characters behind (chars t))

-- a link or an image with a folded label
abbrev pub folded_tag : TagView → TagView
folded_tag (Link k d t i) = Link k d t (folded_text false i)
folded_tag (Image k d t i) = Image k d t (folded_text false i)
folded_tag t = t

-- the text of a code block, of HTML and of metadata keeps its lines
abbrev pub keeps_lines : TagView → Bool
keeps_lines (CodeBlock k) = true
keeps_lines HtmlBlock = true
keeps_lines (MetadataBlock k) = true
keeps_lines t = false

-- where an event is: in a block that keeps its lines, and after white space of a text
pub record SpotView : Type 0 where
  pub raw : Bool
  pub behind : Bool

abbrev pub at_front : SpotView
at_front = record { raw = false; behind = false }

-- whether white space is after a text; after one that keeps its lines that doesn't matter
abbrev pub is_behind_white : Bool → Bool → List ℕ → Bool
is_behind_white true behind t = false
is_behind_white false behind t = ends_white behind (chars t)

-- where the event after this one is
abbrev pub after : SpotView → EventView → SpotView
after s (Start t) = record { raw = keeps_lines t; behind = false }
after s (End k) = record { raw = false; behind = false }
after s (Leaf (Text t)) = record { raw = s.raw; behind = is_behind_white s.raw s.behind t }
after s (Leaf SoftBreak) = record { raw = s.raw; behind = true }
after s (Leaf l) = record { raw = s.raw; behind = false }

-- a text as an event; none if it is empty
abbrev pub text_event : List ℕ → List EventView
text_event [] = []
text_event (b ∷ t) = Leaf (Text (b ∷ t)) ∷ []

-- a text as it counts
abbrev pub folded_text_event : Bool → Bool → List ℕ → List EventView
folded_text_event true behind t = Leaf (Text t) ∷ []
folded_text_event false behind t = text_event (folded_text behind t)

-- a soft break as it counts
abbrev pub folded_break : Bool → List EventView
folded_break true = []
folded_break false = Leaf (Text (32 ∷ [])) ∷ []

-- an event as it counts if white space is folded
abbrev pub folded_event : SpotView → EventView → List EventView
folded_event s (Start t) = Start (folded_tag t) ∷ []
folded_event s (Leaf (Text t)) = folded_text_event s.raw s.behind t
folded_event s (Leaf SoftBreak) = folded_break s.behind
folded_event s e = e ∷ []

abbrev pub folded : SpotView → List EventView → List EventView
folded s [] = []
folded s (e ∷ es) = folded_event s e ++ folded (after s e) es

-- events as they count: as they are, or with folded white space
abbrev pub counted : Bool → List EventView → List EventView
counted false es = es
counted true es = folded at_front es

-- two readings say the same, exactly or but for white space
abbrev pub SaySame : Bool → ReadingView → ReadingView → Type 0
SaySame folds one other = merged (counted folds (found_events one)) ≡ merged (counted folds (found_events other))
