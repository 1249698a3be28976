-- The texts of inline leaves, in bytes, and how a code span is read.
use Rattle.std.specs.Prelude.{ℕ, ◌+◌, ◌-◌, Bool, true, false, not, ◌&&◌, ◌||◌, ◌==◌, nat_le, max, if◌then◌else◌, Option, Some, None, List, [], ◌∷◌, ◌++◌, codes, length, take, drop, replicate, flat_map}
use Rattle.std.specs.List.{list_all, prefix_len}
use Rattle.tocmark_write_texts.specs.Characters.{space, backslash, backtick, vertical_bar}

-- how often a text begins with a character
abbrev pub run_length : ℕ → List ℕ → ℕ
run_length c text = prefix_len (λ d. d == c) text

-- the length of the longest run of a character
abbrev pub longest_run : ℕ → List ℕ → ℕ
longest_run c [] = 0
longest_run c (d ∷ ds) = max (run_length c (d ∷ ds)) (longest_run c ds)

-- whether a text begins with this character
abbrev pub first_is : ℕ → List ℕ → Bool
first_is c [] = false
first_is c (d ∷ ds) = d == c

-- whether a text ends with this character
abbrev pub last_is : ℕ → List ℕ → Bool
last_is c [] = false
last_is c (d ∷ []) = d == c
last_is c (d ∷ e ∷ es) = last_is c (e ∷ es)

-- a character in the cell of a table: a vertical bar has a backslash before it (GFM, section 4.10)
abbrev pub cell_character : ℕ → List ℕ
cell_character c = if c == vertical_bar then backslash ∷ vertical_bar ∷ [] else c ∷ []

-- in a table a vertical bar has a backslash before it
abbrev pub in_cell : Bool → List ℕ → List ℕ
in_cell true text = flat_map cell_character text
in_cell false text = text

-- whether a text is nothing but spaces, or empty
abbrev pub is_blank : List ℕ → Bool
is_blank text = list_all (λ c. c == space) text

-- whether the spaces that a reader takes away have to be added
abbrev pub needs_spaces : List ℕ → Bool
needs_spaces text = first_is backtick text || last_is backtick text || (first_is space text && last_is space text)

-- the space that is added at each end
unfoldable pub padding : List ℕ → List ℕ
padding text = if needs_spaces text then codes " " else []

-- the backticks round a text: one more than the longest run in it
abbrev pub ticks : List ℕ → List ℕ
ticks text = replicate (longest_run backtick text + 1) backtick

-- a text between two runs of backticks, with a space or nothing inside of each
abbrev pub enclosed : List ℕ → List ℕ → List ℕ → List ℕ
enclosed run space_of text = run ++ (space_of ++ (text ++ (space_of ++ run)))

-- spaces alone are between single backticks, anything else between runs one longer than the longest inside
unfoldable pub span : List ℕ → List ℕ
span text =
    if is_blank text then codes "`" ++ (text ++ codes "`")
    else enclosed (ticks text) (padding text) text

-- a code span, in a table or not (CommonMark, section 6.1)
unfoldable pub code_span : Bool → List ℕ → List ℕ
code_span in_table text = span (in_cell in_table text)

-- whether some longest stretch of backticks has this length; at first whether one goes on from before
abbrev pub has_run : Bool → ℕ → List ℕ → Bool
has_run inside n [] = false
has_run inside n (c ∷ cs) = (not inside && run_length backtick (c ∷ cs) == n) || has_run (c == backtick) n cs

-- one space less at each end, if both ends have one and not all is spaces
abbrev pub without_spaces : List ℕ → List ℕ
without_spaces text =
    if first_is space text && last_is space text && not (is_blank text) then take (length text - 2) (drop 1 text) else text

-- what is between a text's first n and last n characters
abbrev pub between_ends : ℕ → List ℕ → List ℕ
between_ends n text = take (length text - n - n) (drop n text)

-- whether a text's last n characters are backticks
abbrev pub ends_with_run : ℕ → List ℕ → Bool
ends_with_run n text = list_all (λ c. c == backtick) (drop (length text - n) text)

-- what a code span without line endings is read as, if the text is one (CommonMark, section 6.1): between two
-- runs of backticks of one length is no such run
abbrev pub unspan : List ℕ → Option (List ℕ)
unspan text =
    let n = run_length backtick text in
    let inside = between_ends n text in
    if nat_le 1 n && nat_le (n + n + 1) (length text) && ends_with_run n text && not (last_is backtick inside) && not (has_run false n inside)
    then Some (without_spaces inside) else None

-- mathematics between these delimiters, in a table or not
abbrev pub math_text : List ℕ → Bool → List ℕ → List ℕ
math_text delimiter in_table text = delimiter ++ (in_cell in_table text ++ delimiter)

-- mathematics within a line, between single dollar signs
abbrev pub inline_math : Bool → List ℕ → List ℕ
inline_math in_table text = math_text (codes "$") in_table text

-- mathematics that is shown on its own, between double dollar signs
abbrev pub display_math : Bool → List ℕ → List ℕ
display_math in_table text = math_text (codes "$$") in_table text

-- the box of a task list, checked or not
abbrev pub task_marker : Bool → List ℕ
task_marker true = codes "[x] "
task_marker false = codes "[ ] "

-- a reference to the footnote with this label
abbrev pub footnote_reference : List ℕ → List ℕ
footnote_reference label = codes "[^" ++ label ++ codes "]"
