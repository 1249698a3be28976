-- The lines of a text (CommonMark 2.1).
use Rattle.std.specs.Prelude.{ℕ, ◌+◌, ◌-◌, Bool, not, ◌==◌, ◌&&◌, ◌||◌, nat_lt, nat_le, if◌then◌else◌, List, [], ◌∷◌, length, Option, Some, None}
use Rattle.tocmark_read_scan.specs.Basic.{plus, byte_at}
use Rattle.tocmark_read_lines.specs.declared.line.Line.{Line}

-- a line ends with a line feed, and with a carriage return that has none after it
unfoldable pub ends_here : List ℕ → ℕ → ℕ → Bool
ends_here text b at =
    (b == 10) || ((b == 13) && not (byte_at text (plus at 1) == 10)) || ((b == 13) && nat_le (length text) (plus at 1))

-- where the line ending begins whose last byte this is
unfoldable pub line_stop : List ℕ → ℕ → ℕ → ℕ → ℕ
line_stop text start b at = if (b == 10) && nat_lt start at && (byte_at text (at - 1) == 13) then at - 1 else at

-- a line with so many lines before it
abbrev pub line : ℕ → ℕ → ℕ → ℕ → Line
line before start end next = record { number = plus before 1; start = start; end = end; next = next }

-- the line that ends with the byte at a place, if one does
unfoldable pub line_ended : List ℕ → ℕ → ℕ → ℕ → Option Line
line_ended text before start at =
    if ends_here text (byte_at text at) at then Some (line before start (line_stop text start (byte_at text at) at) (plus at 1)) else None

-- what is after the last line ending is a line if it is not empty
abbrev pub last_line : ℕ → ℕ → ℕ → List Line
last_line before start end = if nat_lt start end then line before start end end ∷ [] else []

-- the line that is left at the end of a text, unless it is empty
unfoldable pub line_left : ℕ → ℕ → ℕ → Option Line
line_left before start end = if nat_lt start end then Some (line before start end end) else None

-- the lines of the rest of a text, of which the first began at `start` and has come to `at`
abbrev pub lines_from : List ℕ → ℕ → ℕ → ℕ → List ℕ → List Line
lines_from text before start at [] = last_line before start at
lines_from text before start at (b ∷ bs) =
    if ends_here text b at
    then line before start (line_stop text start b at) (at + 1) ∷ lines_from text (before + 1) (at + 1) (at + 1) bs
    else lines_from text before start (at + 1) bs

-- the lines of a text
abbrev pub lines_of : List ℕ → List Line
lines_of text = lines_from text 0 0 0 text
