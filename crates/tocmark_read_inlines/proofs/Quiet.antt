-- The first pass goes over bytes that are one of a text in each reading in one jump.
use Rattle.std.proofs.Common.{◌≡◌, ℕ, suc, ◌+◌, ◌^◌, ◌<◌, Bool, true, false, ◌==◌, ◌&&◌, ◌||◌, List, [], ◌∷◌, drop, Option, refl, ap, sym, ◌∙◌, arith}
use Rattle.std.specs.List.{fold, prefix_len}
use Rattle.tocmark_read_scan.proofs.PlainTests.{both_false, is_not}
use Rattle.tocmark_read_scan.specs.Basic.{plus}
use Rattle.tocmark_read_scan.specs.declared.syntax.Syntax.{Syntax}
use Rattle.tocmark_read_inlines.specs.Scan.{State, Known, is_mark, is_any_mark, is_quiet, is_tilde_in, is_caret_in, is_dollar_in, is_mark_in, with_place, scan_step_in}
use Rattle.tocmark_read_spans.specs.declared.definitions.Entry.{Entry}

and_no : (a : Bool) → (a && false) ≡ false
and_no true = refl
and_no false = refl

-- such a byte is a mark in no reading
no_mark : (syntax : Syntax) (b : ℕ) → is_quiet b ≡ true → is_mark_in syntax b ≡ false
unfolding is_any_mark is_mark_in is_tilde_in is_caret_in is_dollar_in
no_mark syntax b h =
    let three = both_false (is_mark b || (b == 126) || (b == 94)) (b == 36) (is_not (is_any_mark b) h) in
    let two = both_false (is_mark b || (b == 126)) (b == 94) (three.0) in
    let one = both_false (is_mark b) (b == 126) (two.0) in
    rw (one.1, two.1, three.1, and_no (syntax.strikethrough || syntax.subscript), and_no syntax.superscript, and_no syntax.math) (one.0)

-- it is passed
quiet_step : (syntax : Syntax) (all : List ℕ) (ahead : Known) (defs : List ℕ → Option Entry) (s : State) (b : ℕ) → is_quiet b ≡ true → scan_step_in syntax all ahead defs s b ≡ with_place (plus s.place 1) s
unfolding scan_step_in
quiet_step syntax all ahead defs s b h = rw (no_mark syntax b h) refl

here : (s : State) → s.place < 2 ^ 64 → with_place (plus s.place 0) s ≡ s
here s fits = ap (λ p. with_place p s) (let q : plus s.place 0 ≡ s.place = omega (arith, fits) in q)

-- the pass from after such bytes is that from their front
pub skipped : (syntax : Syntax) (all : List ℕ) (ahead : Known) (defs : List ℕ → Option Entry) (bytes : List ℕ) (s : State) → s.place < 2 ^ 64 → fold (scan_step_in syntax all ahead defs) (with_place (plus s.place (prefix_len is_quiet bytes)) s) (drop (prefix_len is_quiet bytes) bytes) ≡ fold (scan_step_in syntax all ahead defs) s bytes
skipped syntax all ahead defs [] s fits = here s fits
skipped syntax all ahead defs (b ∷ bs) s fits = by_test (skipped syntax all ahead defs bs) (is_quiet b) refl
  where
    step : State → ℕ → State
    step = scan_step_in syntax all ahead defs

    next : State
    next = with_place (plus s.place 1) s

    by_test : ((u : State) → u.place < 2 ^ 64 → fold step (with_place (plus u.place (prefix_len is_quiet bs)) u) (drop (prefix_len is_quiet bs) bs) ≡ fold step u bs) → (t : Bool) → is_quiet b ≡ t → fold step (with_place (plus s.place (prefix_len is_quiet (b ∷ bs))) s) (drop (prefix_len is_quiet (b ∷ bs)) (b ∷ bs)) ≡ fold step s (b ∷ bs)
    by_test later false e = rw e (ap (λ (u : State). fold step u (b ∷ bs)) (here s fits))
    by_test later true e =
        let one : 1 + prefix_len is_quiet bs ≡ suc (prefix_len is_quiet bs) = omega arith in
        let far : plus s.place (suc (prefix_len is_quiet bs)) ≡ plus (plus s.place 1) (prefix_len is_quiet bs) = omega arith in
        rw (e, one) (ap (λ p. fold step (with_place p s) (drop (prefix_len is_quiet bs) bs)) far
        ∙ later next (omega arith)
        ∙ ap (λ (u : State). fold step u bs) (sym (quiet_step syntax all ahead defs s b e)))

-- the same after a byte that is read
pub jumped : (syntax : Syntax) (all : List ℕ) (ahead : Known) (defs : List ℕ → Option Entry) (s t : State) (left behind later : List ℕ) (b place next further : ℕ) → left ≡ b ∷ behind → with_place next t ≡ scan_step_in syntax all ahead defs (with_place place s) b → further ≡ plus next (prefix_len is_quiet behind) → later ≡ drop (prefix_len is_quiet behind) behind → next < 2 ^ 64 → fold (scan_step_in syntax all ahead defs) (with_place further t) later ≡ fold (scan_step_in syntax all ahead defs) (with_place place s) left
jumped syntax all ahead defs s t left behind later b place next further e h at on fits =
    ap (λ p. fold (scan_step_in syntax all ahead defs) (with_place p t) later) at
    ∙ ap (fold (scan_step_in syntax all ahead defs) (with_place (plus next (prefix_len is_quiet behind)) t)) on
    ∙ skipped syntax all ahead defs behind (with_place next t) fits
    ∙ ap (λ (u : State). fold (scan_step_in syntax all ahead defs) u behind) h
    ∙ ap (fold (scan_step_in syntax all ahead defs) (with_place place s)) (sym e)

-- the same at the front of a text
pub begun : (syntax : Syntax) (all : List ℕ) (ahead : Known) (defs : List ℕ → Option Entry) (s : State) (bytes later : List ℕ) (further : ℕ) → further ≡ plus s.place (prefix_len is_quiet bytes) → later ≡ drop (prefix_len is_quiet bytes) bytes → s.place < 2 ^ 64 → fold (scan_step_in syntax all ahead defs) (with_place further s) later ≡ fold (scan_step_in syntax all ahead defs) s bytes
begun syntax all ahead defs s bytes later further at on fits =
    ap (λ p. fold (scan_step_in syntax all ahead defs) (with_place p s) later) at
    ∙ ap (fold (scan_step_in syntax all ahead defs) (with_place (plus s.place (prefix_len is_quiet bytes)) s)) on
    ∙ skipped syntax all ahead defs bytes s fits
