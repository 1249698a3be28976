-- How many tokens the fence of a code block needs.
use Rattle.std.specs.Prelude.{ℕ, ◌+◌, Bool, true, false, nat_lt, if◌then◌else◌, max, List, [], ◌∷◌, ◌++◌, Option, Some, None}
use Rattle.tocmark_event.specs.View.{EventView, Start, End, Leaf, CodeBlock, Text}
use Rattle.tocmark_event.specs.declared.event.TagEnd.TheVariants as end
use Rattle.tocmark_write_texts.specs.Leaves.{longest_run}
use Rattle.tocmark_state.specs.WorkView.{at_most}

-- a text in an open code block as it is; any other text ends a run, as a line feed does
abbrev pub text_in : Bool → List ℕ → List ℕ
text_in true t = t
text_in false t = 10 ∷ []

-- the texts of code blocks, joined, with a line feed for each event that ends a run: all but those texts and the Start
-- of a code block; the truth value says whether a code block is open
abbrev pub code_in : Bool → List EventView → List ℕ
code_in inside [] = []
code_in inside (Start (CodeBlock k) ∷ es) = code_in true es
code_in inside (End end.CodeBlock ∷ es) = 10 ∷ code_in false es
code_in inside (Leaf (Text t) ∷ es) = text_in inside t ++ code_in inside es
code_in inside (e ∷ es) = 10 ∷ code_in inside es

-- the longest run of backticks or of `~` in a text
abbrev pub longest_token_run : List ℕ → ℕ
longest_token_run text = max (longest_run 96 text) (longest_run 126 text)

-- one more than the longest run, where that is three at least
abbrev pub count_beyond : ℕ → Option ℕ
count_beyond run = if nat_lt run 3 then None else Some (at_most (run + 1))

-- the count that the code blocks of these events need, where it is more than the default
abbrev pub token_count : List EventView → Option ℕ
token_count es = count_beyond (longest_token_run (code_in false es))
