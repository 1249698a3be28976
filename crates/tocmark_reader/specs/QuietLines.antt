-- Leaves whose lines have no mark in any reading: each line is a text.
use Rattle.std.specs.Prelude.{ℕ, Bool, false, not, ◌==◌, ◌&&◌, nat_lt, List, [], ◌∷◌, ◌++◌}
use Rattle.std.specs.List.{list_all}
use Rattle.tocmark_event.specs.View.{SoftBreak}
use Rattle.tocmark_read_scan.specs.Basic.{bytes_between}
use Rattle.tocmark_read_scan.specs.Class.{is_in}
use Rattle.tocmark_read_scan.specs.PlainParts.{last_byte}
use Rattle.tocmark_read_scan.specs.declared.class.Class.TheVariants.{White}
use Rattle.tocmark_read_page.specs.declared.piece.Piece.{Piece}
use Rattle.tocmark_read_inlines.specs.Scan.{is_quiet}
use Rattle.tocmark_reader.specs.Emitted.{NodeView, Given, Source}
use Rattle.tocmark_reader.specs.Pages.{node}

-- a byte that is one of a text in each reading, and not U+0000
unfoldable pub is_text_byte : ℕ → Bool
is_text_byte b = is_quiet b && not (b == 0)

-- a line of such bytes that doesn't end in white space
unfoldable pub is_quiet_line : List ℕ → Piece → Bool
is_quiet_line text l =
    let bytes = bytes_between text l.start l.end in list_all is_text_byte bytes && not (is_in White (last_byte 10 bytes))

-- a line of this kind and others, each after the one before
abbrev pub are_quiet_from : List ℕ → Piece → List Piece → Bool
are_quiet_from text l [] = is_quiet_line text l
are_quiet_from text l (n ∷ ns) = (is_quiet_line text l && nat_lt l.end n.start) && are_quiet_from text n ns

-- some lines of this kind, each after the one before
abbrev pub are_quiet_lines : List ℕ → List Piece → Bool
are_quiet_lines text [] = false
are_quiet_lines text (l ∷ ls) = are_quiet_from text l ls

-- a line after another: the end of that line, and the text of this one
abbrev pub further_nodes : ℕ → Piece → Piece → List NodeView
further_nodes depth l n = node depth (Given SoftBreak) l.end l.next ∷ node depth Source n.start n.end ∷ []

-- lines after another
abbrev pub all_further : ℕ → Piece → List Piece → List NodeView
all_further depth l [] = []
all_further depth l (n ∷ ns) = further_nodes depth l n ++ all_further depth n ns

-- a text for each line, and a soft break between two
abbrev pub quiet_nodes : ℕ → List Piece → List NodeView
quiet_nodes depth [] = []
quiet_nodes depth (l ∷ ls) = node depth Source l.start l.end ∷ all_further depth l ls
