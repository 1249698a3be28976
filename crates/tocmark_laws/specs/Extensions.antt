-- Texts of one kind with a construct of an extension, and the events that they are read as.
use Rattle.std.specs.Prelude.{◌≡◌, ℕ, ◌^◌, ◌<◌, Bool, true, false, not, ◌==◌, ◌&&◌, List, [], ◌∷◌, ◌++◌, codes, length, None, Some}
use Rattle.std.specs.Char.{char_set_contains, is_ascii_alphabetic, is_ascii_alphanumeric}
use Rattle.std.specs.List.{list_all}
use Rattle.tocmark_event.specs.View.{EventView, Start, End, Leaf, Heading, Item, ListOf, MetadataBlock, Paragraph, Strikethrough, Subscript, Superscript, TaskListMarker, Text, InlineMath}
use Rattle.tocmark_event.specs.declared.event.HeadingLevel.TheVariants.{H1}
use Rattle.tocmark_event.specs.declared.event.MetadataBlockKind.{MetadataBlockKind}
use Rattle.tocmark_event.specs.declared.event.MetadataBlockKind.TheVariants.{YamlStyle, PlusesStyle}
use Rattle.tocmark_event.specs.declared.event.TagEnd.TheVariants as end
use Rattle.tocmark_read_scan.specs.PlainParts.{last_byte}
use Rattle.tocmark_read_scan.specs.declared.syntax.Syntax.{Syntax}
use Rattle.tocmark_reader.specs.PlainTexts.{is_printable, lines_paragraph, IsReadAs}
use Rattle.tocmark_reader.specs.Reading.{core_reading, reading_of}

-- a line and further lines, with a line feed between two
abbrev pub lined : List ℕ → List (List ℕ) → List ℕ
lined l [] = l
lined l (m ∷ ms) = l ++ 10 ∷ lined m ms

-- ---- words

-- a character from U+0020 to U+007E that marks up nothing, whatever the syntax
abbrev pub is_word_byte : ℕ → Bool
is_word_byte b = is_printable b && not (char_set_contains (codes "!$&*<[\\]^_`~") b)

-- a line of them that begins with a letter and doesn't end with a space
abbrev pub is_word_line : List ℕ → Bool
is_word_line [] = false
is_word_line (b ∷ bs) = is_ascii_alphabetic b && list_all is_word_byte (b ∷ bs) && not (last_byte b bs == 32)

-- under every syntax such lines are a paragraph with a text each, as they are without extensions
abbrev pub WordsAreRead : Type 0
WordsAreRead =
    (syntax : Syntax) (l : List ℕ) (ms : List (List ℕ)) → list_all is_word_line (l ∷ ms) ≡ true → length (lined l ms) < 2 ^ 64 →
    (reading_of syntax (lined l ms) ≡ core_reading (lined l ms)) × IsReadAs (reading_of syntax (lined l ms)) (lines_paragraph l ms)

-- ---- front matter

-- the line in front of metadata and after it
abbrev pub fence_of : MetadataBlockKind → List ℕ
fence_of YamlStyle = codes "---"
fence_of PlusesStyle = codes "+++"

-- a syntax has metadata of this kind
abbrev pub has_metadata : MetadataBlockKind → Syntax → Bool
has_metadata YamlStyle syntax = syntax.yaml_metadata
has_metadata PlusesStyle syntax = syntax.pluses_metadata

-- characters from U+0020 to U+007E, of which the first is none of ` `, `-`, `+` and `.`
abbrev pub is_field : List ℕ → Bool
is_field [] = false
is_field (b ∷ bs) = not (char_set_contains (codes " -+.") b) && list_all is_printable (b ∷ bs)

-- a text of such lines between two fences
abbrev pub front_matter : MetadataBlockKind → List ℕ → List (List ℕ) → List ℕ
front_matter k l ms = fence_of k ++ 10 ∷ (lined l ms ++ 10 ∷ fence_of k)

-- metadata with this text
abbrev pub metadata_events : MetadataBlockKind → List ℕ → List EventView
metadata_events k text = Start (MetadataBlock k) ∷ Leaf (Text text) ∷ End (end.MetadataBlock k) ∷ []

-- where a syntax has metadata, such a text is metadata with its lines
abbrev pub FrontMatterIsRead : Type 0
FrontMatterIsRead =
    (syntax : Syntax) (k : MetadataBlockKind) (l : List ℕ) (ms : List (List ℕ)) →
    has_metadata k syntax ≡ true → list_all is_field (l ∷ ms) ≡ true → length (front_matter k l ms) < 2 ^ 64 →
    IsReadAs (reading_of syntax (front_matter k l ms)) (metadata_events k (lined l ms ++ 10 ∷ []))

-- ---- mathematics

-- a character from U+0020 to U+007E that neither ends a formula nor is a brace
abbrev pub is_formula_byte : ℕ → Bool
is_formula_byte b = is_printable b && not (char_set_contains (codes "$\\{}") b)

-- some of them, with no space at either end
abbrev pub is_formula : List ℕ → Bool
is_formula [] = false
is_formula (b ∷ bs) = list_all is_formula_byte (b ∷ bs) && not (b == 32) && not (last_byte b bs == 32)

-- a formula between dollar signs
abbrev pub in_dollars : List ℕ → List ℕ
in_dollars formula = 36 ∷ (formula ++ 36 ∷ [])

-- a paragraph of a formula
abbrev pub formula_paragraph : List ℕ → List EventView
formula_paragraph formula = Start Paragraph ∷ Leaf (InlineMath formula) ∷ End end.Paragraph ∷ []

-- where a syntax has mathematics, a formula between dollar signs is one
abbrev pub FormulasAreRead : Type 0
FormulasAreRead =
    (syntax : Syntax) (formula : List ℕ) → syntax.math ≡ true → is_formula formula ≡ true → length (in_dollars formula) < 2 ^ 64 →
    IsReadAs (reading_of syntax (in_dollars formula)) (formula_paragraph formula)

-- ---- strikethrough

-- characters that mark up nothing, with a letter or a digit at either end
abbrev pub is_phrase : List ℕ → Bool
is_phrase [] = false
is_phrase (b ∷ bs) = list_all is_word_byte (b ∷ bs) && is_ascii_alphanumeric b && is_ascii_alphanumeric (last_byte b bs)

-- a phrase between two tildes on either side
abbrev pub in_tildes : List ℕ → List ℕ
in_tildes phrase = 126 ∷ 126 ∷ (phrase ++ 126 ∷ 126 ∷ [])

-- a paragraph of a phrase that is struck through
abbrev pub struck_paragraph : List ℕ → List EventView
struck_paragraph phrase = Start Paragraph ∷ Start Strikethrough ∷ Leaf (Text phrase) ∷ End end.Strikethrough ∷ End end.Paragraph ∷ []

-- where a syntax has strikethrough, a phrase between tildes is struck through
abbrev pub StruckPhrasesAreRead : Type 0
StruckPhrasesAreRead =
    (syntax : Syntax) (phrase : List ℕ) → syntax.strikethrough ≡ true → is_phrase phrase ≡ true → length (in_tildes phrase) < 2 ^ 64 →
    IsReadAs (reading_of syntax (in_tildes phrase)) (struck_paragraph phrase)

-- ---- subscripts and superscripts

-- the mark of a subscript, or of a superscript
abbrev pub script_byte : Bool → ℕ
script_byte true = 126
script_byte false = 94

-- a syntax has subscripts, or superscripts
abbrev pub has_script : Bool → Syntax → Bool
has_script true syntax = syntax.subscript
has_script false syntax = syntax.superscript

-- a phrase between two such marks
abbrev pub in_marks : Bool → List ℕ → List ℕ
in_marks low phrase = script_byte low ∷ (phrase ++ script_byte low ∷ [])

-- a paragraph of a phrase below the line, or above it
abbrev pub script_paragraph : Bool → List ℕ → List EventView
script_paragraph true phrase = Start Paragraph ∷ Start Subscript ∷ Leaf (Text phrase) ∷ End end.Subscript ∷ End end.Paragraph ∷ []
script_paragraph false phrase = Start Paragraph ∷ Start Superscript ∷ Leaf (Text phrase) ∷ End end.Superscript ∷ End end.Paragraph ∷ []

-- where a syntax has subscripts, a phrase between tildes is one; likewise for superscripts and carets
abbrev pub ScriptsAreRead : Type 0
ScriptsAreRead =
    (syntax : Syntax) (low : Bool) (phrase : List ℕ) → has_script low syntax ≡ true → is_phrase phrase ≡ true → length (in_marks low phrase) < 2 ^ 64 →
    IsReadAs (reading_of syntax (in_marks low phrase)) (script_paragraph low phrase)

-- ---- attributes of headings

-- some letters and digits
abbrev pub is_name : List ℕ → Bool
is_name [] = false
is_name (b ∷ bs) = list_all is_ascii_alphanumeric (b ∷ bs)

-- a heading of level 1 with an id between braces
abbrev pub attributed_line : List ℕ → List ℕ → List ℕ
attributed_line phrase id = 35 ∷ 32 ∷ (phrase ++ 32 ∷ 123 ∷ 35 ∷ (id ++ 125 ∷ []))

-- a heading of level 1 with an id, and no classes and attributes
abbrev pub attributed_heading : List ℕ → List ℕ → List EventView
attributed_heading phrase id = Start (Heading H1 (Some id) [] []) ∷ Leaf (Text phrase) ∷ End (end.Heading H1) ∷ []

-- where a syntax has attributes of headings, the name between braces is the heading's id
abbrev pub AttributesAreRead : Type 0
AttributesAreRead =
    (syntax : Syntax) (phrase id : List ℕ) →
    syntax.heading_attributes ≡ true → is_phrase phrase ≡ true → is_name id ≡ true → length (attributed_line phrase id) < 2 ^ 64 →
    IsReadAs (reading_of syntax (attributed_line phrase id)) (attributed_heading phrase id)

-- ---- task lists

-- what is in a box, checked or not
abbrev pub box_byte : Bool → ℕ
box_byte true = 120
box_byte false = 32

-- an item of a phrase after a box
abbrev pub task_line : Bool → List ℕ → List ℕ
task_line done phrase = 45 ∷ 32 ∷ 91 ∷ box_byte done ∷ 93 ∷ 32 ∷ phrase

-- a list of one task
abbrev pub task_events : Bool → List ℕ → List EventView
task_events done phrase =
    Start (ListOf None) ∷ Start Item ∷ Leaf (TaskListMarker done) ∷ Leaf (Text phrase) ∷ End end.Item ∷ End (end.List false) ∷ []

-- where a syntax has task lists, a box in front of an item's text is its task
abbrev pub TasksAreRead : Type 0
TasksAreRead =
    (syntax : Syntax) (done : Bool) (phrase : List ℕ) → syntax.task_lists ≡ true → is_phrase phrase ≡ true → length (task_line done phrase) < 2 ^ 64 →
    IsReadAs (reading_of syntax (task_line done phrase)) (task_events done phrase)
