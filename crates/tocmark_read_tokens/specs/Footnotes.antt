-- The labels of footnotes.
use Rattle.std.specs.Prelude.{ℕ, ◌==◌, if◌then◌else◌, List, codes, Option, Some, None}
use Rattle.std.specs.List.{list_any}
use Rattle.tocmark_read_scan.specs.Basic.{plus, bytes_between, starts_at}
use Rattle.tocmark_read_tokens.specs.Word.{label_from}
use Rattle.tocmark_read_tokens.specs.declared.word.Word.{Word}

-- a word, if it is on one line
unfoldable pub on_one_line : List ℕ → Word → Option Word
on_one_line bytes w = if list_any (λ b. b == 10) (bytes_between bytes w.start w.end) then None else Some w

-- a footnote's name is a label on one line
abbrev pub noted : List ℕ → Option Word → Option Word
noted bytes None = None
noted bytes (Some w) = on_one_line bytes w

-- the label of a footnote: a bracket, a caret, and its name
unfoldable pub note_label : List ℕ → ℕ → Option Word
note_label bytes place = if starts_at bytes place (codes "[^") then noted bytes (label_from bytes (plus place 2)) else None
