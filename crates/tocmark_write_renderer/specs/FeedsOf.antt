-- The line feeds at the end of what is laid.
use Rattle.std.specs.Prelude.{ℕ, ◌+◌, ◌==◌, List, if◌then◌else◌, length}
use Rattle.std.specs.List.{suffix_len}

-- how many line feeds end a text (10 is a line feed)
abbrev pub ending_feeds : List ℕ → ℕ
ending_feeds text = suffix_len (λ b. b == 10) text

-- how many line feeds are at the end of a text after so many of them
abbrev pub feeds_behind : List ℕ → ℕ → ℕ
feeds_behind text feeds = if ending_feeds text == length text then feeds + ending_feeds text else ending_feeds text
