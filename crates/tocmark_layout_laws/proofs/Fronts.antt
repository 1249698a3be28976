-- What a line begins that begins with no space and no tab.
use Rattle.std.proofs.Common.{◌≡◌, inl, inr, ℕ, ◌+◌, ◌-◌, ◌^◌, ◌<◌, false, ◌==◌, cond, if◌then◌else◌, nat_le, List, [], ◌∷◌, ◌++◌, length, drop, reverse, refl, ap, sym, ◌∙◌, arith, true≢false}
use Rattle.std.specs.Prelude.{Option, None, take_while}
use Rattle.std.specs.Char.{is_ascii_digit}
use Rattle.std.specs.List.{AllByRecursion, fold}
use Rattle.std.proofs.lemmas.Bool.Decides.{nat_tests}
use Rattle.std.proofs.lemmas.List.{reverse-append, reverse-reverse}
use Rattle.std.proofs.lemmas.List.Sums.{take_while-cons}
use Rattle.tocmark_event.specs.declared.event.HeadingLevel.{HeadingLevel}
use Rattle.tocmark_read_scan.proofs.PlainTests.{not_char}
use Rattle.tocmark_read_lines.specs.Cells.{first_cursor}
use Rattle.tocmark_read_lines.specs.Marks.{heading_at, fence_at, tail_of, is_rule, marker_at, underline_at}
use Rattle.tocmark_read_lines.specs.declared.cell.Cell.{Cell}
use Rattle.tocmark_read_blocks.proofs.PlainFronts.{BeginsPlainly, plainly_begins_nothing}
use Rattle.tocmark_read_blocks.proofs.PlainLines.{IsWithin, cells_within, numbered}
use Rattle.tocmark_read_blocks.proofs.PlainSteps.{BeginsNothing}
use Rattle.tocmark_commonmark.specs.Beginnings.{TextLine, first_of_these, html_if, begins_with, near_beginning, beginning_of, beginning, interrupts}
use Rattle.tocmark_commonmark.specs.Leaves.{GoesOn, underlined, underline, turn_of, turn}
use Rattle.tocmark_commonmark.specs.Lines.{Part, is_blank_byte, is_blank, without_first_blanks, without_last_blanks, column_after, indent, ink, line_ink, cells}
use Rattle.tocmark_layout_laws.proofs.Starts.{part_at, line_at}

-- no space and no tab is in front of bytes
pub record Inky (x : List ℕ) : Type 0 where
  pub front : take_while is_blank_byte x ≡ []
  pub some : 0 < length x

no_blank : (b : ℕ) (bs : List ℕ) → is_blank_byte b ≡ false → take_while is_blank_byte (b ∷ bs) ≡ []
no_blank b bs h = take_while-cons is_blank_byte b bs ∙ ap (λ k. cond k (b ∷ take_while is_blank_byte bs) []) h

pub inky : (b : ℕ) (bs : List ℕ) → is_blank_byte b ≡ false → Inky (b ∷ bs)
inky b bs h = record { front = no_blank b bs h; some = omega arith }

drop_none : (x : List ℕ) → drop 0 x ≡ x
drop_none [] = refl
drop_none (b ∷ bs) = refl

pub whole_ink : (k : ℕ) (x : List ℕ) → Inky x → ink (part_at k x) ≡ x
whole_ink k x h = ap (λ (xs : List ℕ). drop (length xs) x) h.front ∙ drop_none x

pub inky_filled : (x : List ℕ) → Inky x → is_blank x ≡ false
inky_filled x h = ap (λ (xs : List ℕ). length xs == length x) h.front ∙ (let some : 0 < length x = h.some in let q : (0 == length x) ≡ false = grind (arith, nat_tests) in q)

pub flush : (k : ℕ) (x : List ℕ) → Inky x → indent (part_at k x) ≡ 0
flush k x h = ap (λ (xs : List ℕ). 0 + (fold column_after k xs - k)) h.front ∙ (let q : 0 + (k - k) ≡ 0 = omega arith in q)

-- what a line with these columns begins
pub near : (k : ℕ) (x : List ℕ) (c : List Cell) → Inky x → cells x ≡ c
    → beginning (line_at k x) ≡ first_of_these (part_at k x) (begins_with 62 x) (heading_at c 0) (fence_at c (first_cursor c)) (html_if (begins_with 60 x) x) (is_rule c (tail_of c) 0) (marker_at c 0)
unfolding beginning
near k x c h e =
    let p : Part = part_at k x in
    ap (λ b. beginning_of p b (nat_le 4 (indent p))) (inky_filled x h)
    ∙ ap (λ n. beginning_of p false (nat_le 4 n)) (flush k x h)
    ∙ ap (λ (xs : List ℕ). near_beginning p xs (cells xs)) (whole_ink k x h)
    ∙ ap (λ (cs : List Cell). near_beginning p x cs) e

-- lines of text

-- a line that begins nothing, and continues a paragraph
pub record IsText (x : List ℕ) : Type 0 where
  pub begins : (k : ℕ) → beginning (line_at k x) ≡ TextLine
  pub goes : (texts : List (List ℕ)) (k : ℕ) → turn texts (line_at k x) ≡ GoesOn
  pub ink : (k : ℕ) → line_ink (line_at k x) ≡ x

abbrev under : List (List ℕ) → ℕ → List ℕ → Option HeadingLevel
under texts n xs = if nat_le 4 n then None else underlined texts (underline_at (cells xs) 0)

begins_text : (k : ℕ) (b : ℕ) (bs : List ℕ) → Inky (b ∷ bs) → cells (b ∷ bs) ≡ numbered 0 (b ∷ bs) → BeginsNothing (b ∷ bs) (numbered 0 (b ∷ bs)) → beginning (line_at k (b ∷ bs)) ≡ TextLine
begins_text k b bs i e h =
    let x : List ℕ = b ∷ bs in
    let c : List Cell = numbered 0 x in
    let p : Part = part_at k x in
    let quote : (b == 62) ≡ false = h.quote in
    let html : (b == 60) ≡ false = h.html in
    near k x c i e
    ∙ ap (λ z. first_of_these p z (heading_at c 0) (fence_at c (first_cursor c)) (html_if (b == 60) x) (is_rule c (tail_of c) 0) (marker_at c 0)) quote
    ∙ ap (λ z. first_of_these p false z (fence_at c (first_cursor c)) (html_if (b == 60) x) (is_rule c (tail_of c) 0) (marker_at c 0)) h.heading
    ∙ ap (λ z. first_of_these p false None (fence_at c z) (html_if (b == 60) x) (is_rule c (tail_of c) 0) (marker_at c 0)) h.ink
    ∙ ap (λ z. first_of_these p false None z (html_if (b == 60) x) (is_rule c (tail_of c) 0) (marker_at c 0)) h.fence
    ∙ ap (λ z. first_of_these p false None None (html_if z x) (is_rule c (tail_of c) 0) (marker_at c 0)) html
    ∙ ap (λ z. first_of_these p false None None None z (marker_at c 0)) h.rule
    ∙ ap (λ z. first_of_these p false None None None false z) h.marker

underlines_none : (texts : List (List ℕ)) (k : ℕ) (x : List ℕ) → Inky x → cells x ≡ numbered 0 x → BeginsNothing x (numbered 0 x) → underline texts (line_at k x) ≡ None
underlines_none texts k x i e h =
    ap (λ n. under texts n (ink (part_at k x))) (flush k x i)
    ∙ ap (under texts 0) (whole_ink k x i)
    ∙ ap (λ (cs : List Cell). underlined texts (underline_at cs 0)) e
    ∙ ap (underlined texts) h.underline

goes_text : (texts : List (List ℕ)) (k : ℕ) (b : ℕ) (bs : List ℕ) → Inky (b ∷ bs) → cells (b ∷ bs) ≡ numbered 0 (b ∷ bs) → BeginsNothing (b ∷ bs) (numbered 0 (b ∷ bs)) → turn texts (line_at k (b ∷ bs)) ≡ GoesOn
unfolding interrupts
goes_text texts k b bs i e h =
    ap (λ z. turn_of z (underline texts (line_at k (b ∷ bs)))) (begins_text k b bs i e h)
    ∙ ap (turn_of TextLine) (underlines_none texts k (b ∷ bs) i e h)

pub begins_no_space : (b : ℕ) (bs : List ℕ) → BeginsPlainly (b ∷ bs) → (b == 32) ≡ false
begins_no_space b bs (inl h) = h.space
begins_no_space b bs (inr (inl h)) = not_char b 32 (λ e. true≢false (sym (h.0) ∙ ap is_ascii_digit e))
begins_no_space b bs (inr (inr (inl e, k))) = rw e refl
begins_no_space b bs (inr (inr (inr (inl e), k))) = rw e refl
begins_no_space b bs (inr (inr (inr (inr e), k))) = rw e refl

pub not_blank : (b : ℕ) → (b == 32) ≡ false → IsWithin b → is_blank_byte b ≡ false
not_blank b s h = rw (s, h.tab) refl

pub text_inky : (x : List ℕ) → BeginsPlainly x → AllByRecursion IsWithin x → Inky x
text_inky [] h within = absurd h
text_inky (b ∷ bs) h within = inky b bs (not_blank b (begins_no_space b bs h) (within.0))

pub text_line : (x : List ℕ) → BeginsPlainly x → AllByRecursion IsWithin x → length x < 2 ^ 64 → IsText x
text_line [] h within fits = absurd h
text_line (b ∷ bs) h within fits =
    let i : Inky (b ∷ bs) = inky b bs (not_blank b (begins_no_space b bs h) (within.0)) in
    let e : cells (b ∷ bs) ≡ numbered 0 (b ∷ bs) = cells_within 0 (b ∷ bs) within (omega (arith, fits)) in
    let none : BeginsNothing (b ∷ bs) (numbered 0 (b ∷ bs)) = plainly_begins_nothing 0 (b ∷ bs) fits h in
    record {
      begins = λ k. begins_text k b bs i e none;
      goes = λ texts k. goes_text texts k b bs i e none;
      ink = λ k. whole_ink k (b ∷ bs) i;
    }

-- bytes that end with no space and no tab
pub record EndsInk (x : List ℕ) : Type 0 where
  pub body : List ℕ
  pub last : ℕ
  pub split : x ≡ body ++ last ∷ []
  pub ink : is_blank_byte last ≡ false

pub end_kept : (x : List ℕ) → EndsInk x → without_last_blanks x ≡ x
end_kept x h =
    let turned : reverse x ≡ h.last ∷ reverse h.body = ap reverse h.split ∙ reverse-append h.body (h.last ∷ []) in
    ap (λ (xs : List ℕ). reverse (without_first_blanks xs)) turned
    ∙ ap (λ (xs : List ℕ). reverse (drop (length xs) (h.last ∷ reverse h.body))) (no_blank h.last (reverse h.body) h.ink)
    ∙ ap reverse (sym turned)
    ∙ reverse-reverse x
