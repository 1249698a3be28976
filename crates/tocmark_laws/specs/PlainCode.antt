-- Fenced code: its text, and the events that it is read as.
use Rattle.std.specs.Prelude.{◌≡◌, ℕ, ◌^◌, ◌<◌, Bool, true, false, not, ◌==◌, ◌&&◌, ◌||◌, nat_eq, nat_le, nat_lt, List, [], ◌∷◌, ◌++◌, flat_map, length, replicate}
use Rattle.std.specs.Char.{is_ascii_alphanumeric}
use Rattle.std.specs.List.{list_all, starts_with}
use Rattle.tocmark_event.specs.View.{EventView, Start, End, Leaf, CodeBlock, Fenced, Text}
use Rattle.tocmark_event.specs.declared.event.TagEnd.TheVariants as end
use Rattle.tocmark_read_scan.specs.declared.syntax.Syntax.{Syntax}
use Rattle.tocmark_reader.specs.PlainTexts.{IsReadAs}
use Rattle.tocmark_reader.specs.Reading.{reading_of}
use Rattle.tocmark_laws.specs.Extensions.{lined}

-- a fence of so many backticks or tildes, an info string, and lines
pub record FencedCode : Type 0 where
  pub token : ℕ
  pub count : ℕ
  pub info : List ℕ
  pub lines : List (List ℕ)

-- a byte is so many times in a row somewhere in a line
abbrev pub has_run : ℕ → ℕ → List ℕ → Bool
has_run count token [] = false
has_run count token (b ∷ bs) = starts_with nat_eq (b ∷ bs) (replicate count token) || has_run count token bs

-- a character of a line: any of ASCII but U+0000 and those that end a line
abbrev pub is_line_byte : ℕ → Bool
is_line_byte b = nat_lt b 128 && not ((b == 0) || (b == 10) || (b == 13))

-- a line of them in which no fence is
abbrev pub is_code_line : ℕ → ℕ → List ℕ → Bool
is_code_line count token line = list_all is_line_byte line && not (has_run count token line)

-- at least three backticks or tildes, letters and digits after them, and such lines
abbrev pub is_fenced_code : FencedCode → Bool
is_fenced_code c =
    ((c.token == 96) || (c.token == 126)) && nat_le 3 c.count && list_all is_ascii_alphanumeric c.info
    && list_all (is_code_line c.count c.token) c.lines

-- the lines between two fences
abbrev pub fenced_text : FencedCode → List ℕ
fenced_text c = lined (replicate c.count c.token ++ c.info) (c.lines ++ replicate c.count c.token ∷ [])

-- a text of all lines, each with a line feed; none if there are no lines
abbrev pub code_leaf : List (List ℕ) → List EventView
code_leaf [] = []
code_leaf (l ∷ ls) = Leaf (Text (flat_map (λ x. x ++ 10 ∷ []) (l ∷ ls))) ∷ []

-- a code block with this info string and these lines
abbrev pub code_events : FencedCode → List EventView
code_events c = Start (CodeBlock (Fenced c.info)) ∷ code_leaf c.lines ++ End end.CodeBlock ∷ []

-- under every syntax, such lines between fences are a code block
abbrev pub FencedCodeIsRead : Type 0
FencedCodeIsRead =
    (syntax : Syntax) (c : FencedCode) → is_fenced_code c ≡ true → length (fenced_text c) < 2 ^ 64 →
    IsReadAs (reading_of syntax (fenced_text c)) (code_events c)
