-- The lines and columns of a text.
use Rattle.std.specs.Prelude.{◌≡◌, ◌==◌, ◌||◌, ◌&&◌, ◌+◌, ◌-◌, ◌^◌, if◌then◌else◌, ℕ, suc, zero, List, [], ◌∷◌, Bool, true, false, not, leb, min, drop}
use Rattle.std.specs.List.{All}
use Rattle.tocmark_json.specs.declared.positions.Mark.{Mark}
use Rattle.tocmark_json.specs.declared.positions.Position.{Position}
use Rattle.tocmark_json.specs.declared.positions.Positions.{Positions}
use Rattle.tocmark_json.specs.declared.positions.Span.{Span}

-- the number after this one; a count stops at the greatest number of its type
abbrev pub next : ℕ → ℕ
next n = min (n + 1) (2 ^ 64 - 1)

-- whether the first byte ends a line: a line feed, or a carriage return that no line feed follows
abbrev pub ends_line : List ℕ → Bool
ends_line [] = false
ends_line (b ∷ []) = b == 10 || b == 13
ends_line (b ∷ c ∷ bs) = b == 10 || b == 13 && not (c == 10)

-- whether the first byte begins no character: it goes on in one, or is none
abbrev pub begins_none : List ℕ → Bool
begins_none [] = true
begins_none (b ∷ bs) = leb 128 b && leb b 191

-- the place after the first byte of what is left of a text
unfoldable pub behind : List ℕ → Position → Position
behind bs p =
    if ends_line bs then record { line = next p.line; column = 1 }
    else if begins_none bs then p
    else record { line = p.line; column = next p.column }

-- the place so many bytes after another one
abbrev pub passed : Position → List ℕ → ℕ → Position
passed p bs zero = p
passed p bs (suc n) = passed (behind bs p) (drop 1 bs) n

-- where a text begins
abbrev pub start : Position
start = record { line = 1; column = 1 }

-- the place of a byte: lines are counted by their endings, and columns by the characters since the line began
abbrev pub position_of : List ℕ → ℕ → Position
position_of text n = passed start text n

-- the places of a range's ends
abbrev pub span_of : List ℕ → ℕ × ℕ → Span
span_of text r = record { start = position_of text r.0; end = position_of text r.1 }

-- a mark of a text says where a byte is
abbrev pub IsMark : List ℕ → Mark → Type 0
IsMark text mark = mark.position ≡ position_of text mark.offset

-- an index of places: all its marks are those of its text
abbrev pub IsIndex : Positions → Type 0
IsIndex positions = All (IsMark positions.bytes.now) positions.marks.items
