-- Where no line after the first is indented, formulas have no blanks to keep.
use Rattle.std.proofs.Common.{◌≡◌, ℕ, Bool, true, false, ◌&&◌, List, [], ◌∷◌, refl, ap, ◌∙◌}
use Rattle.std.specs.List.{list_any}
use Rattle.tocmark_read_scan.specs.declared.syntax.Syntax.{Syntax}
use Rattle.tocmark_read_page.specs.declared.piece.Piece.{Piece}
use Rattle.tocmark_read_inlines.specs.Inlines as inlines
use Rattle.tocmark_reader.specs.Formulas.{is_indented, keeps_blanks}
use Rattle.tocmark_reader.specs.Pages.{State, with_lines_of, with_inlines}

and_none : (t : Bool) → (t && false) ≡ false
and_none true = refl
and_none false = refl

-- one line
pub one_line : (syntax : Syntax) (p : Piece) → keeps_blanks syntax (p ∷ []) ≡ false
unfolding keeps_blanks
one_line syntax p = and_none syntax.math

-- lines of which the further ones begin where their containers' prefixes end
pub bare_lines : (syntax : Syntax) (p : Piece) (ps : List Piece) → list_any is_indented ps ≡ false → keeps_blanks syntax (p ∷ ps) ≡ false
unfolding keeps_blanks
bare_lines syntax p ps h = ap (λ t. syntax.math && t) h ∙ and_none syntax.math

-- the inlines of such lines are written as they are found
pub found_plainly : (syntax : Syntax) (text : List ℕ) (lines : List Piece) (found : inlines.State) (s : State) → keeps_blanks syntax lines ≡ false → with_lines_of syntax text lines found s ≡ with_inlines found s
unfolding with_lines_of
found_plainly syntax text lines found s h = rw h refl
