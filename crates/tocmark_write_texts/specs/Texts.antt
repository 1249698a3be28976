-- Texts that grow, and the longest run in one.
use Rattle.std.specs.Prelude.{◌≡◌, ◌++◌, ℕ, if◌then◌else◌, is_ok, length, take, List, Result, String, string_bytes, chars, OnOk}
use Rattle.std.specs.String.Boundary.{IsSplitPoint}
use Rattle.std.specs.Global.{Global}
use Rattle.std.specs.declared.alloc.AllocError.{AllocError}
use Rattle.tocmark_write_texts.specs.Leaves.{longest_run}

-- on Ok the new text is the old one and this piece after it
abbrev pub Grows : Result (Unit {0}) AllocError → String Global → String Global → List ℕ → Type 0
Grows result old new piece = OnOk result (string_bytes new ≡ string_bytes old ++ piece)

-- the new bytes are the old ones, on Ok with this piece after them
abbrev pub Pushes : Result (Unit {0}) AllocError → List ℕ → List ℕ → List ℕ → Type 0
Pushes result old piece new = new ≡ (if is_ok result then old ++ piece else old)

-- a text begins with this one, and may be cut after it
abbrev pub Begins : List ℕ → List ℕ → Type 0
Begins front text = IsSplitPoint text (length front) × (take (length front) text ≡ front)

-- the longest run of a token in this text has this length
abbrev pub IsLongest : ℕ → ℕ → List ℕ → Type 0
IsLongest longest token text = longest ≡ longest_run token (chars text)
