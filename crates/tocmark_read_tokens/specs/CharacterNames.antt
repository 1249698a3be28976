-- The names of character references (CommonMark 2.5).
use Rattle.std.specs.Prelude.{ℕ, not, Bool, ◌==◌, ◌&&◌, nat_lt, if◌then◌else◌, List, length, Option, Some, None}
use Rattle.std.specs.Option.{option_map}
use Rattle.std.specs.Borrow.{Bor}
use Rattle.tocmark_read_scan.specs.Basic.{plus, byte_at, bytes_between, starts_at}
use Rattle.tocmark_read_scan.specs.Repeat.{iterated}
use Rattle.tocmark_read_scan.specs.Class.{run_end}
use Rattle.tocmark_read_scan.specs.declared.class.Class.TheVariants.{Except, TagName}
use Rattle.tocmark_read_tokens.specs.Entries.{entries_of}

-- the entry of a name begins at a place: the name, and a semicolon after it
unfoldable pub is_entry : List ℕ → List ℕ → ℕ → Bool
is_entry entries name place = starts_at entries place name && (byte_at entries (plus place (length name)) == 59)

-- the next line, unless the entry of the name begins here or the text ends
unfoldable pub next_line : List ℕ → List ℕ → ℕ → Option ℕ
next_line entries name place =
    if nat_lt place (length entries) && not (is_entry entries name place) then Some (plus (run_end entries place (Except 10)) 1)
    else None

-- the characters of an entry: one byte after its semicolon, which may be a line feed, and what is before the next one
unfoldable pub entry_characters : List ℕ → ℕ → List ℕ
entry_characters entries start = bytes_between entries start (run_end entries (plus start 1) (Except 10))

-- the characters of the first entry of a name
unfoldable pub characters_in : List ℕ → List ℕ → Option (List ℕ)
characters_in entries name =
    let place = iterated (next_line entries name) (length entries) 0 in
    if is_entry entries name place then Some (entry_characters entries (plus (plus place (length name)) 1)) else None

-- a name has letters, digits and hyphens alone: a run of them from its front ends where it ends
unfoldable pub is_name : List ℕ → Bool
is_name name = run_end name 0 TagName == length name

-- what a name stands for: looked up among the names with its first letter
unfoldable pub characters_of : List ℕ → Option (List ℕ)
characters_of name = if is_name name then characters_in (entries_of (byte_at name 0)) name else None

-- bytes that were found
abbrev pub found : Option (Bor (List ℕ)) → Option (List ℕ)
found bytes = option_map (λ b. b.now) bytes
