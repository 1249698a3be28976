-- The lines of a text, each with its ending, are the text.
use Rattle.std.proofs.Common.{◌≡◌, ℕ, ◌+◌, Bool, true, false, if◌then◌else◌, nat_lt, List, [], ◌∷◌, ◌++◌, length, flat_map, refl, ap, sym, ◌∙◌, arith, append_assoc, length-append}
use Rattle.std.proofs.lemmas.Bool.Decides.{nat_tests}
use Rattle.tocmark_read_scan.proofs.PlainPieces.{piece_between}
use Rattle.tocmark_read_lines.specs.Lines.{ends_here, line_stop, line, last_line, lines_from}
use Rattle.tocmark_text_laws.specs.Lines.{LinesCoverTheText, whole_line}

none_held : (held : List ℕ) → length held ≡ 0 → [] ≡ held ++ []
none_held [] h = refl
none_held (b ∷ bs) h = absurd (grind (arith))

-- what is held of the last line is that line
last_covers : (text pre held : List ℕ) (before start at : ℕ) → text ≡ pre ++ (held ++ []) → start ≡ length pre → at ≡ length pre + length held
    → flat_map (whole_line text) (last_line before start at) ≡ held ++ []
last_covers text pre held before start at e s a = by (nat_lt start at) refl
  where
    by : (c : Bool) → nat_lt start at ≡ c → flat_map (whole_line text) (if c then line before start at at ∷ [] else []) ≡ held ++ []
    by true h = ap (λ x. x ++ []) (piece_between text pre held [] start at e s a)
    by false h = none_held held (grind (arith, nat_tests))

pub covers : (text pre held rest : List ℕ) (before start at : ℕ) → text ≡ pre ++ (held ++ rest) → start ≡ length pre → at ≡ length pre + length held
    → flat_map (whole_line text) (lines_from text before start at rest) ≡ held ++ rest
covers text pre held [] before start at e s a = last_covers text pre held before start at e s a
covers text pre held (b ∷ bs) before start at e s a =
    by (ends_here text b at)
    (covers text (pre ++ (held ++ b ∷ [])) [] bs (before + 1) (at + 1) (at + 1) parted begins ends)
    (covers text pre (held ++ b ∷ []) bs before start (at + 1) split s behind)
  where
    longer : held ++ b ∷ bs ≡ (held ++ b ∷ []) ++ bs
    longer = sym (append_assoc held (b ∷ []) bs)

    split : text ≡ pre ++ ((held ++ b ∷ []) ++ bs)
    split = e ∙ ap (λ x. pre ++ x) longer

    behind : at + 1 ≡ length pre + length (held ++ b ∷ [])
    behind = let w : length (held ++ b ∷ []) ≡ length held + 1 = length-append held (b ∷ []) in omega arith

    parted : text ≡ (pre ++ (held ++ b ∷ [])) ++ ([] ++ bs)
    parted = split ∙ sym (append_assoc pre (held ++ b ∷ []) bs)

    begins : at + 1 ≡ length (pre ++ (held ++ b ∷ []))
    begins = behind ∙ sym (length-append pre (held ++ b ∷ []))

    ends : at + 1 ≡ length (pre ++ (held ++ b ∷ [])) + 0
    ends = let w : at + 1 ≡ length (pre ++ (held ++ b ∷ [])) = begins in omega arith

    by : (c : Bool)
        → flat_map (whole_line text) (lines_from text (before + 1) (at + 1) (at + 1) bs) ≡ bs
        → flat_map (whole_line text) (lines_from text before start (at + 1) bs) ≡ (held ++ b ∷ []) ++ bs
        → flat_map (whole_line text) (if c then line before start (line_stop text start b at) (at + 1) ∷ lines_from text (before + 1) (at + 1) (at + 1) bs else lines_from text before start (at + 1) bs)
        ≡ held ++ b ∷ bs
    by true next more =
        ap (λ x. x ++ flat_map (whole_line text) (lines_from text (before + 1) (at + 1) (at + 1) bs)) (piece_between text pre (held ++ b ∷ []) bs start (at + 1) split s behind)
        ∙ ap (λ x. (held ++ b ∷ []) ++ x) next
        ∙ sym longer
    by false next more = more ∙ sym longer

pub lines-cover : LinesCoverTheText
lines-cover text = covers text [] [] text 0 0 0 refl refl refl
