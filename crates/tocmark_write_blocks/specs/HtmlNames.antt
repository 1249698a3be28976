-- The names of tags in HTML.
use Rattle.std.specs.Prelude.{ℕ, Bool, not, ◌||◌, ◌==◌}
use Rattle.tocmark_write_texts.specs.Characters.{is_ascii_white_space, greater_than}

-- whether a byte belongs to the name of a tag: neither white space nor `>` (CommonMark, section 4.6)
abbrev pub is_in_name : ℕ → Bool
is_in_name b = not (is_ascii_white_space b || b == greater_than)
