-- Plain texts: lines that are read as a paragraph of their characters.
use Rattle.std.specs.Prelude.{◌≡◌, ℕ, zero, suc, Bool, true, not, ◌==◌, ◌&&◌, if◌then◌else◌, nat_lt, nat_le, List, [], ◌∷◌, ◌++◌, bytes_eq, codes, length, map, take, drop, Option, Some, None}
use Rattle.std.specs.Char.{is_ascii_punctuation}
use Rattle.std.specs.List.{AllByRecursion, list_all}
use Rattle.tocmark_event.specs.Merged.{merged}
use Rattle.tocmark_event.specs.Reading.{ReadingView}
use Rattle.tocmark_event.specs.View.{EventView, Start, End, Leaf, Paragraph, SoftBreak, Text}
use Rattle.tocmark_event.specs.declared.event.TagEnd.TheVariants as end
use Rattle.tocmark_read_scan.specs.Basic.{byte_at}
use Rattle.tocmark_reader.specs.Emitted.{NodeView}
use Rattle.tocmark_reader.specs.Range.{snapped}
use Rattle.tocmark_read_scan.specs.PlainParts.{Part, Bare, Escaped, Referred, Feed, spelled, spelled_part, is_plain_part, last_byte, are_plain_parts, begins_plainly}

-- the parts of a line and of further lines, with a line feed between two
abbrev pub text_parts : List Part → List (List Part) → List Part
text_parts l [] = l
text_parts l (m ∷ ms) = l ++ Feed ∷ text_parts m ms

-- a character from U+0020 to U+007E
abbrev pub is_printable : ℕ → Bool
is_printable b = nat_le 32 b && nat_lt b 127

-- the bytes of a line of such characters that begins no block and doesn't end with a space
abbrev pub has_plain_bytes : List ℕ → Bool
has_plain_bytes bytes = list_all is_printable bytes && begins_plainly bytes && not (last_byte 10 bytes == 32)

-- the parts of such a line
abbrev pub is_plain_line : List Part → Bool
is_plain_line l = has_plain_bytes (spelled l)

-- lines of this kind whose parts mean what they are for
abbrev pub is_plain_text : List Part → List (List Part) → Bool
is_plain_text l ms = are_plain_parts 10 (text_parts l ms) && list_all is_plain_line (l ∷ ms)

-- a text for each line, and a soft break between two
abbrev pub line_events : List ℕ → List (List ℕ) → List EventView
line_events l [] = Leaf (Text l) ∷ []
line_events l (m ∷ ms) = Leaf (Text l) ∷ Leaf SoftBreak ∷ line_events m ms

-- a paragraph of lines
abbrev pub lines_paragraph : List ℕ → List (List ℕ) → List EventView
lines_paragraph l ms = Start Paragraph ∷ line_events l ms ++ End end.Paragraph ∷ []

-- a reading is, merged, these events, and has no labels
pub record IsReadAs (r : ReadingView) (expected : List EventView) : Type 0 where
  pub events : merged (map (λ e. e.0) r.events) ≡ expected
  pub defined : r.defined ≡ []
  pub unresolved : r.unresolved ≡ []

-- the part that a byte begins, with these bytes after it: a backslash with punctuation after it, `&amp;`, `&#32;`, a line feed,
-- and any other byte alone
abbrev pub part_at : ℕ → List ℕ → Part
part_at b bs =
    if (b == 92) && is_ascii_punctuation (byte_at bs 0) then Escaped (byte_at bs 0)
    else (if (b == 38) && bytes_eq (take 4 bs) (codes "amp;") then Referred 38 (codes "amp;")
    else (if (b == 38) && bytes_eq (take 4 bs) (codes "#32;") then Referred 32 (codes "#32;")
    else (if b == 10 then Feed else Bare b)))

-- how many bytes of a part are after its first one
abbrev pub bytes_behind : Part → ℕ
bytes_behind (Bare b) = 0
bytes_behind (Escaped b) = 1
bytes_behind (Referred c bs) = length bs
bytes_behind Feed = 0

-- the last byte of the part that a byte begins, and how many bytes of it are after that one, if it means what it is for
abbrev pub plain_front : ℕ → ℕ → List ℕ → Option (ℕ × ℕ)
plain_front before b bs =
    let a = part_at b bs in
    if is_plain_part before a (byte_at (drop (bytes_behind a) bs) 0) then Some (last_byte before (spelled_part a), bytes_behind a) else None

-- the parts of a text from a place on
abbrev pub parts_from : ℕ → List ℕ → List Part
parts_from skip [] = []
parts_from zero (b ∷ bs) = part_at b bs ∷ parts_from (bytes_behind (part_at b bs)) bs
parts_from (suc skip) (b ∷ bs) = parts_from skip bs

-- the parts before the first line feed
abbrev pub first_line : List Part → List Part
first_line [] = []
first_line (Feed ∷ parts) = []
first_line (a ∷ parts) = a ∷ first_line parts

-- the lines of parts after each line feed
abbrev pub further_lines : List Part → List (List Part)
further_lines [] = []
further_lines (Feed ∷ parts) = first_line parts ∷ further_lines parts
further_lines (a ∷ parts) = further_lines parts

-- a text whose parts are lines of a plain text
abbrev pub is_plain : List ℕ → Bool
is_plain text = let parts = parts_from 0 text in is_plain_text (first_line parts) (further_lines parts)

-- a text is that of some lines of parts that are a plain text
abbrev pub IsPlain : List ℕ → Type 0
IsPlain text = (l : List Part) × (ms : List (List Part)) × (is_plain_text l ms ≡ true) × (text ≡ spelled (text_parts l ms))

-- each node has a range that its event keeps
abbrev pub AreKept : List ℕ → List NodeView → Type 0
AreKept text nodes = AllByRecursion (λ n. snapped text n.start n.end ≡ (n.start, n.end)) nodes
