-- The first pass where all names are known: bytes that are passed over, and one that is read.
use Rattle.std.proofs.Common.{◌≡◌, ℕ, suc, ◌+◌, ◌^◌, ◌<◌, ◌≤◌, Bool, true, false, ◌&&◌, nat_le, List, [], ◌∷◌, ◌++◌, length, refl, ap, ◌∙◌, arith}
use Rattle.std.proofs.lemmas.Bool.Decides.{nat_tests}
use Rattle.std.specs.Prelude.{Option}
use Rattle.std.specs.List.{fold, AllByRecursion}
use Rattle.tocmark_read_scan.specs.Basic.{plus}
use Rattle.tocmark_read_inlines.specs.Scan.{State, Known, is_mark, is_tilde_in, is_caret_in, is_dollar_in, is_note_end_in, is_mark_in, looked_in, looked_all, next_place, with_place, scan_step_in}
use Rattle.tocmark_read_spans.specs.declared.definitions.Entry.{Entry}
use Rattle.tocmark_inline_laws.specs.Said.{commonmark}

-- one byte further
abbrev pub step : List ℕ → Known → (List ℕ → Option Entry) → State → ℕ → State
step bytes ahead defs = scan_step_in commonmark bytes ahead defs

-- a byte that is no mark
pub step_over : (bytes : List ℕ) (ahead : Known) (defs : List ℕ → Option Entry) (s : State) (b : ℕ) → is_mark b ≡ false → step bytes ahead defs s b ≡ next_place s
unfolding scan_step_in is_mark_in is_tilde_in is_caret_in is_dollar_in
step_over bytes ahead defs s b h = rw h refl

and_no : (a : Bool) → (a && false) ≡ false
and_no true = refl
and_no false = refl

-- a byte of what is read already
pub step_skip : (bytes : List ℕ) (ahead : Known) (defs : List ℕ → Option Entry) (s : State) (b : ℕ) → s.place < s.resume → step bytes ahead defs s b ≡ next_place s
unfolding scan_step_in
step_skip bytes ahead defs s b h =
    let no : nat_le s.resume s.place ≡ false = grind (arith, nat_tests) in
    rw (no, and_no (is_mark_in commonmark b)) refl

-- a mark
pub step_look : (bytes : List ℕ) (ahead : Known) (defs : List ℕ → Option Entry) (s : State) (b : ℕ) → is_mark b ≡ true → s.resume ≤ s.place → step bytes ahead defs s b ≡ next_place (looked_all bytes ahead defs b s)
unfolding scan_step_in is_mark_in is_tilde_in is_caret_in is_dollar_in looked_in is_note_end_in
step_look bytes ahead defs s b mark h =
    let yes : nat_le s.resume s.place ≡ true = grind (arith, nat_tests) in
    rw (mark, yes) refl

-- bytes that are no marks
pub passed_over : (bytes : List ℕ) (ahead : Known) (defs : List ℕ → Option Entry) (xs rest : List ℕ) (s : State) → AllByRecursion (λ b. is_mark b ≡ false) xs → s.place + length xs < 2 ^ 64 → fold (step bytes ahead defs) s (xs ++ rest) ≡ fold (step bytes ahead defs) (with_place (s.place + length xs) s) rest
passed_over bytes ahead defs [] rest s h fits = ap (λ p. fold (step bytes ahead defs) (with_place p s) rest) (let q : s.place ≡ s.place + 0 = omega arith in q)
passed_over bytes ahead defs (x ∷ xs) rest s h fits =
    ap (λ (t : State). fold (step bytes ahead defs) t (xs ++ rest)) (step_over bytes ahead defs s x (h.0))
    ∙ passed_over bytes ahead defs xs rest (next_place s) (h.1) (omega arith)
    ∙ ap (λ p. fold (step bytes ahead defs) (with_place p s) rest) (let q : plus s.place 1 + length xs ≡ s.place + suc (length xs) = omega arith in q)

-- bytes of what is read already
pub passed_by : (bytes : List ℕ) (ahead : Known) (defs : List ℕ → Option Entry) (xs rest : List ℕ) (s : State) → s.place + length xs ≤ s.resume → s.place + length xs < 2 ^ 64 → fold (step bytes ahead defs) s (xs ++ rest) ≡ fold (step bytes ahead defs) (with_place (s.place + length xs) s) rest
passed_by bytes ahead defs [] rest s h fits = ap (λ p. fold (step bytes ahead defs) (with_place p s) rest) (let q : s.place ≡ s.place + 0 = omega arith in q)
passed_by bytes ahead defs (x ∷ xs) rest s h fits =
    ap (λ (t : State). fold (step bytes ahead defs) t (xs ++ rest)) (step_skip bytes ahead defs s x (omega arith))
    ∙ passed_by bytes ahead defs xs rest (next_place s) (let q : plus s.place 1 + length xs ≡ s.place + suc (length xs) = omega arith in omega arith) (omega arith)
    ∙ ap (λ p. fold (step bytes ahead defs) (with_place p s) rest) (let q : plus s.place 1 + length xs ≡ s.place + suc (length xs) = omega arith in q)
