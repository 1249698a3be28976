-- The definitions of the links that are written by labels.
use Rattle.std.specs.Prelude.{ℕ, ◌-◌, Bool, ◌&&◌, if◌then◌else◌, List, [], ◌∷◌, ◌++◌, bytes_eq, codes, replicate}
use Rattle.std.specs.List.{list_any}
use Rattle.tocmark_spelling.specs.Page.{Reference}
use Rattle.tocmark_write_texts.specs.Destination.{definition_closing}

-- two definitions of links have the same label, destination and title
abbrev pub same_reference : Reference → Reference → Bool
same_reference a b = bytes_eq a.label b.label && bytes_eq a.destination b.destination && bytes_eq a.title b.title

-- the references without those that are among the earlier ones or come again
abbrev pub distinct_after : List Reference → List Reference → List Reference
distinct_after earlier [] = []
distinct_after earlier (r ∷ rs) =
    if list_any (same_reference r) earlier then distinct_after earlier rs else r ∷ distinct_after (r ∷ earlier) rs

-- each reference once, in order of first use
abbrev pub distinct : List Reference → List Reference
distinct rs = distinct_after [] rs

-- `[label]: destination "title"` (CommonMark, section 4.7)
abbrev pub definition : Reference → List ℕ
definition r = codes "[" ++ r.label ++ definition_closing r.destination r.title

-- one a line
abbrev pub lines_of : List Reference → List ℕ
lines_of [] = []
lines_of (r ∷ []) = definition r
lines_of (r ∷ q ∷ rs) = definition r ++ codes "\n" ++ lines_of (q ∷ rs)

-- the definitions of references, after line feeds of which two are; nothing for no references
unfoldable pub definitions_text : List Reference → ℕ → List ℕ
definitions_text [] feeds = []
definitions_text (r ∷ rs) feeds = replicate (2 - feeds) 10 ++ lines_of (distinct (r ∷ rs))
