-- The content of a table's cell.
use Rattle.std.specs.Prelude.{ℕ, ◌-◌, Bool, ◌==◌, ◌&&◌, ◌||◌, if◌then◌else◌, List, [], length, reverse, take_while}
use Rattle.std.specs.List.{fold}
use Rattle.tocmark_read_scan.specs.Basic.{plus, byte_at, bytes_between}
use Rattle.tocmark_read_scan.specs.Class.{run_end}
use Rattle.tocmark_read_scan.specs.Content.{State, put_byte}
use Rattle.tocmark_read_scan.specs.declared.class.Class.TheVariants.{Blank}

-- a backslash just before a bar
unfoldable pub is_left_out : List ℕ → ℕ → ℕ → Bool
is_left_out source place b = (b == 92) && (byte_at source (plus place 1) == 124)

-- one more byte of a cell, and the next place
unfoldable pub cell_step : List ℕ → ℕ × State → ℕ → ℕ × State
cell_step source (place, s) b = (plus place 1, if is_left_out source place b then s else put_byte b place s)

-- the end of a cell without the blanks before it
abbrev pub cell_to : List ℕ → ℕ → ℕ → ℕ
cell_to source from end = end - length (take_while (λ b. (b == 32) || (b == 9)) (reverse (bytes_between source from end)))

-- the bytes between two places, without each backslash just before a bar
abbrev pub cell_bytes : List ℕ → ℕ → ℕ → State
cell_bytes source from to = (fold (cell_step source) (from, record { bytes = []; places = [] }) (bytes_between source from to)).1

-- the bytes of a cell without blanks round them, and without each backslash just before a bar
unfoldable pub cell_content : List ℕ → ℕ → ℕ → State
cell_content source start end = let from = run_end source start Blank in cell_bytes source from (cell_to source from end)
