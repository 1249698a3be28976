-- What tells definitions apart.
use Rattle.std.specs.Prelude.{ℕ, ◌-◌, Bool, ◌&&◌, List, [], ◌∷◌, ◌++◌, bytes_eq, replicate}
use Rattle.tocmark_spelling.specs.Page.{Reference}
use Rattle.tocmark_write_labels.specs.Definitions.{lines_of}
use Rattle.tocmark_write_labels.specs.declared.definitions.Key.{Key}

-- the definition that a key stands for (CommonMark, section 4.7)
abbrev pub key_view : Key → Reference
key_view k = record { label = k.label.now; destination = k.destination.now; title = k.title.now }

-- keys are equal
abbrev pub same_key : Key → Key → Bool
same_key a b = bytes_eq a.label.now b.label.now && (bytes_eq a.destination.now b.destination.now && bytes_eq a.title.now b.title.now)

-- definitions, one a line, after line feeds of which two are; nothing for none
abbrev pub lines_behind : List Reference → ℕ → List ℕ
lines_behind [] feeds = []
lines_behind (r ∷ rs) feeds = replicate (2 - feeds) 10 ++ lines_of (r ∷ rs)
