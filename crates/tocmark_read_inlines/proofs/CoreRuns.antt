-- Where no extension has a say in the inlines of a leaf, the first pass over it is that of CommonMark.
use Rattle.std.proofs.Common.{◌≡◌, ℕ, Bool, true, false, ◌||◌, List, [], ◌∷◌, Option, refl, ap, ◌∙◌, true≢false}
use Rattle.std.specs.List.{fold}
use Rattle.tocmark_read_scan.specs.declared.syntax.Syntax.{Syntax}
use Rattle.tocmark_read_scan.specs.declared.syntax.Names.{Names}
use Rattle.tocmark_read_scan.specs.declared.syntax.Names.TheVariants.{Four, All}
use Rattle.tocmark_read_inlines.specs.Scan as s
use Rattle.tocmark_read_spans.specs.declared.definitions.Entry.{Entry}

-- of a sum that is false both parts are
first_false : (a b : Bool) → a || b ≡ false → a ≡ false
first_false false b h = refl
first_false true b h = h

second_false : (a b : Bool) → a || b ≡ false → b ≡ false
second_false false b h = h
second_false true b h = absurd (true≢false h)

-- where not all names are known there are four
four_names : (names : Names) → s.knows_all names ≡ false → names ≡ Four
four_names Four h = refl
four_names All h = absurd (true≢false h)

-- one byte further
step_as_core : (syntax : Syntax) (bytes : List ℕ) (ahead : s.Known) (defs : List ℕ → Option Entry) (t : s.State) (b : ℕ) → s.extends_inlines syntax ≡ false → s.scan_step bytes ahead defs t b ≡ s.scan_step_in syntax bytes ahead defs t b
unfolding s.scan_step_in s.looked_in s.is_mark_in s.is_tilde_in s.is_caret_in s.is_dollar_in s.is_note_end_in s.extends_inlines
step_as_core syntax bytes ahead defs t b h =
    let six : syntax.strikethrough || syntax.subscript || syntax.superscript || syntax.math || syntax.footnotes || syntax.tables ≡ false = first_false (syntax.strikethrough || syntax.subscript || syntax.superscript || syntax.math || syntax.footnotes || syntax.tables) (s.knows_all syntax.names) h in
    let names : syntax.names ≡ Four = four_names syntax.names (second_false (syntax.strikethrough || syntax.subscript || syntax.superscript || syntax.math || syntax.footnotes || syntax.tables) (s.knows_all syntax.names) h) in
    let tables : syntax.tables ≡ false = second_false (syntax.strikethrough || syntax.subscript || syntax.superscript || syntax.math || syntax.footnotes) syntax.tables six in
    let five : syntax.strikethrough || syntax.subscript || syntax.superscript || syntax.math || syntax.footnotes ≡ false = first_false (syntax.strikethrough || syntax.subscript || syntax.superscript || syntax.math || syntax.footnotes) syntax.tables six in
    let notes : syntax.footnotes ≡ false = second_false (syntax.strikethrough || syntax.subscript || syntax.superscript || syntax.math) syntax.footnotes five in
    let four : syntax.strikethrough || syntax.subscript || syntax.superscript || syntax.math ≡ false = first_false (syntax.strikethrough || syntax.subscript || syntax.superscript || syntax.math) syntax.footnotes five in
    let math : syntax.math ≡ false = second_false (syntax.strikethrough || syntax.subscript || syntax.superscript) syntax.math four in
    let three : syntax.strikethrough || syntax.subscript || syntax.superscript ≡ false = first_false (syntax.strikethrough || syntax.subscript || syntax.superscript) syntax.math four in
    let two : syntax.strikethrough || syntax.subscript ≡ false = first_false (syntax.strikethrough || syntax.subscript) syntax.superscript three in
    let struck : syntax.strikethrough ≡ false = first_false syntax.strikethrough syntax.subscript two in
    let below : syntax.subscript ≡ false = second_false syntax.strikethrough syntax.subscript two in
    let above : syntax.superscript ≡ false = second_false (syntax.strikethrough || syntax.subscript) syntax.superscript three in
    rw (struck, below, above, math, notes, tables, names) refl

folds_as_core : (syntax : Syntax) (bytes all : List ℕ) (ahead : s.Known) (defs : List ℕ → Option Entry) (t : s.State) → s.extends_inlines syntax ≡ false → fold (s.scan_step all ahead defs) t bytes ≡ fold (s.scan_step_in syntax all ahead defs) t bytes
folds_as_core syntax [] all ahead defs t h = refl
folds_as_core syntax (b ∷ bytes) all ahead defs t h =
    ap (λ (u : s.State). fold (s.scan_step all ahead defs) u bytes) (step_as_core syntax all ahead defs t b h)
    ∙ folds_as_core syntax bytes all ahead defs (s.scan_step_in syntax all ahead defs t b) h

-- all bytes
pub ran_as_core : (syntax : Syntax) (bytes : List ℕ) (ahead : s.Known) (defs : List ℕ → Option Entry) (t : s.State) → s.extends_inlines syntax ≡ false → s.ran bytes ahead defs t ≡ s.ran_in syntax bytes ahead defs t
ran_as_core syntax bytes ahead defs t h = folds_as_core syntax bytes bytes ahead defs t h
