-- The text of a paragraph or a heading, with the places in the source that it stands for.
use Rattle.std.specs.Prelude.{ℕ, ◌-◌, Bool, ◌==◌, ◌&&◌, nat_lt, nat_le, if◌then◌else◌, List, [], ◌∷◌, ◌++◌, length, take, fold, Option, Some, None}
use Rattle.tocmark_read_scan.specs.Basic.{plus, byte_at, bytes_between}
use Rattle.tocmark_read_scan.specs.Repeat.{iterated}
use Rattle.tocmark_read_scan.specs.Class.{is_in}
use Rattle.tocmark_read_scan.specs.declared.class.Class.TheVariants.{White}
use Rattle.tocmark_read_scan.specs.declared.content.Content.{Content}
use Rattle.tocmark_read_scan.specs.declared.content.Content.TheVariants as kind
use Rattle.tocmark_read_scan.specs.declared.content.Pasted.{Pasted}
use Rattle.tocmark_read_scan.specs.declared.content.ContentLine.{ContentLine}

-- the bytes, and for each the range of the source that it stands for
pub record State : Type 0 where
  pub bytes : List ℕ
  pub places : List (ℕ × ℕ)

-- joined lines as lists
abbrev pub pasted_view : Pasted → State
pasted_view j = record { bytes = j.bytes.items; places = j.places.items }

-- the ranges of bytes that are in the source from a place on
abbrev pub ranges_of : ℕ → List ℕ → List (ℕ × ℕ)
ranges_of start [] = []
ranges_of start (b ∷ bs) = (start, plus start 1) ∷ ranges_of (plus start 1) bs

-- a content as its lists
abbrev pub content_view : Content → State
content_view (kind.Whole text start) = record { bytes = text.now; places = ranges_of start text.now }
content_view (kind.Pasted j) = pasted_view j

-- one more byte, with the range that it stands for
unfoldable pub put : ℕ → ℕ → ℕ → State → State
put b start end s = record { bytes = s.bytes ++ b ∷ []; places = s.places ++ (start, end) ∷ [] }

-- a byte of the source: U+FFFD for a zero (CommonMark 2.3)
unfoldable pub put_byte : ℕ → ℕ → State → State
put_byte b start s =
    let end = plus start 1 in
    if b == 0 then put 0xBD start end (put 0xBF start end (put 0xEF start end s)) else put b start end s

-- bytes of the source from a place on
abbrev pub put_bytes : ℕ → State → List ℕ → State
put_bytes start s [] = s
put_bytes start s (b ∷ bs) = put_bytes (plus start 1) (put_byte b start s) bs

-- a line, with a line feed for its line ending
unfoldable pub put_line : List ℕ → State → ContentLine → State
put_line source s line = put 10 line.end line.next (put_bytes line.start s (bytes_between source line.start line.end))

-- the bytes of lines and a line feed for each
abbrev pub room_of : List ContentLine → ℕ
room_of lines = fold (λ room (l : ContentLine). plus room (plus (l.end - l.start) 1)) 0 lines

-- the lines one after the other
abbrev pub joined : List ℕ → List ContentLine → State
joined source lines = fold (put_line source) (record { bytes = []; places = [] }) lines

-- the place before, if white space is there
unfoldable pub before_white : List ℕ → ℕ → Option ℕ
before_white bytes place = if nat_lt 0 place && is_in White (byte_at bytes (place - 1)) then Some (place - 1) else None

-- the bytes without the white space at their end
abbrev pub inked : List ℕ → List ℕ
inked bytes = bytes_between bytes 0 (iterated (before_white bytes) (length bytes) (length bytes))

-- a line begins just after another, which ends with one line feed
unfoldable pub is_behind : List ℕ → ContentLine → ContentLine → Bool
is_behind source line next =
    (nat_lt line.end line.next && (line.next == plus line.end 1))
    && (byte_at source line.end == 10) && nat_le line.start line.end && (next.start == line.next)

-- where a line ends that is a range of the source
unfoldable pub end_within : List ℕ → ContentLine → Option ℕ
end_within source line = if nat_le line.start line.end && nat_le line.end (length source) then Some line.end else None

-- where lines end that begin one just after the other
abbrev pub end_behind : List ℕ → ContentLine → List ContentLine → Option ℕ
end_behind source line [] = end_within source line
end_behind source line (next ∷ others) = if is_behind source line next then end_behind source next others else None

-- without the white space at the end
abbrev pub trimmed : State → State
trimmed s =
    let end = iterated (before_white s.bytes) (length s.bytes) (length s.bytes) in
    record { bytes = take end s.bytes; places = take end s.places }

-- the lines joined by line feeds, without white space at the end
unfoldable pub content_of : List ℕ → List ContentLine → State
content_of source lines = trimmed (joined source lines)
