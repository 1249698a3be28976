-- A text with other bytes in some places.
use Rattle.std.specs.Prelude.{ℕ, ◌≤◌, List, [], ◌∷◌, ◌++◌, take, drop, string_bytes}
use Rattle.tocmark_links.specs.declared.edits.Edit.{Edit}

-- a text with other bytes in one place
abbrev pub replaced : List ℕ → Edit → List ℕ
replaced text edit = take edit.start text ++ string_bytes edit.words ++ drop edit.end text

-- a text with other bytes in some places: the last one is replaced first, so that the others stay where they are
abbrev pub spliced : List ℕ → List Edit → List ℕ
spliced text [] = text
spliced text (edit ∷ edits) = replaced (spliced text edits) edit

-- places that lie one after the other, from one byte on up to another one
abbrev pub AreApart : ℕ → ℕ → List Edit → Type 0
AreApart from to [] = from ≤ to
AreApart from to (edit ∷ edits) = (from ≤ edit.start) × (edit.start ≤ edit.end) × AreApart edit.end to edits
