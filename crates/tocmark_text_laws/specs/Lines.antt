-- The lines of a text, each with its ending.
use Rattle.std.specs.Prelude.{◌≡◌, ℕ, ◌+◌, ◌^◌, ◌<◌, ◌==◌, ◌⊎◌, false, List, [], ◌∷◌, flat_map, length, slice_get}
use Rattle.std.specs.List.{AllByRecursion}
use Rattle.std.specs.Option.{option_map_or}
use Rattle.tocmark_read_scan.specs.Basic.{bytes_between}
use Rattle.tocmark_read_lines.specs.Lines.{lines_of}
use Rattle.tocmark_read_lines.specs.declared.line.Line.{Line}

-- a line with its ending
abbrev pub whole_line : List ℕ → Line → List ℕ
whole_line text l = bytes_between text l.start l.next

-- the lines of each text, with their endings, are the text
abbrev pub LinesCoverTheText : Type 0
LinesCoverTheText = (text : List ℕ) → flat_map (whole_line text) (lines_of text) ≡ text

-- neither a line feed nor a carriage return
abbrev pub IsInner : ℕ → Type 0
IsInner b = ((b == 10) ≡ false) × ((b == 13) ≡ false)

-- the ending of a line
abbrev pub ending_of : List ℕ → Line → List ℕ
ending_of text l = bytes_between text l.end l.next

-- a line feed, a carriage return with a line feed, a carriage return without one after it, or nothing where the text ends
abbrev pub IsEnded : List ℕ → Line → Type 0
IsEnded text l =
    (ending_of text l ≡ 10 ∷ [])
    ⊎ ((ending_of text l ≡ 13 ∷ 10 ∷ [])
    ⊎ (((ending_of text l ≡ 13 ∷ []) × (option_map_or (λ b. b == 10) (slice_get text l.next) false ≡ false))
    ⊎ ((ending_of text l ≡ []) × (l.next ≡ length text))))

-- a line as the standard has it (CommonMark 2.1): characters other than line feeds and carriage returns, and a line ending or the end of the text
pub record IsLine (text : List ℕ) (l : Line) : Type 0 where
  pub content : AllByRecursion IsInner (bytes_between text l.start l.end)
  pub ending : IsEnded text l

-- each line of a text is one
abbrev pub LinesEndOnce : Type 0
LinesEndOnce = (text : List ℕ) → length text + 1 < 2 ^ 64 → AllByRecursion (IsLine text) (lines_of text)
