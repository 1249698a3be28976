-- The bytes of a cell without a backslash and without U+0000 are a piece of the source.
use Rattle.std.proofs.Common.{◌≡◌, ℕ, false, ◌==◌, List, [], ◌∷◌, refl, ap, sym, ◌∙◌}
use Rattle.std.specs.List.{fold, list_any}
use Rattle.tocmark_read_scan.specs.Basic.{plus, bytes_between}
use Rattle.tocmark_read_scan.specs.Content.{State, ranges_of, put_byte, put_bytes}
use Rattle.tocmark_read_scan.specs.TableCell.{is_left_out, cell_step, cell_bytes}
use Rattle.tocmark_read_scan.proofs.Whole.{or_none, bytes_put}

-- without a backslash all bytes are put
all_put : (source : List ℕ) (place : ℕ) (s : State) (xs : List ℕ) → list_any (λ b. b == 92) xs ≡ false → (fold (cell_step source) (place, s) xs).1 ≡ put_bytes place s xs
unfolding cell_step is_left_out
all_put source place s [] h = refl
all_put source place s (x ∷ xs) h =
    let out = or_none (x == 92) (list_any (λ b. b == 92) xs) h in
    let one : cell_step source (place, s) x ≡ (plus place 1, put_byte x place s) = rw (out.0) refl in
    ap (λ (t : ℕ × State). (fold (cell_step source) t xs).1) one ∙ all_put source (plus place 1) (put_byte x place s) xs (out.1)

-- the bytes of such a cell, and the ranges that they stand for
pub whole_bytes : (source : List ℕ) (from to : ℕ) (xs : List ℕ) → xs ≡ bytes_between source from to → list_any (λ b. b == 0) xs ≡ false → list_any (λ b. b == 92) xs ≡ false → record { bytes = xs; places = ranges_of from xs } ≡ cell_bytes source from to
whole_bytes source from to xs e zero slash =
    let none : State = record { bytes = []; places = [] } in
    sym (ap (λ (l : List ℕ). (fold (cell_step source) (from, none) l).1) (sym e) ∙ all_put source from none xs slash ∙ bytes_put from none xs zero)
