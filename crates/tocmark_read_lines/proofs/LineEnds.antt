-- The lines of a text come from the places of its line feeds and carriage returns alone.
use Rattle.std.proofs.Common.{◌≡◌, ℕ, zero, suc, ◌+◌, ◌-◌, ◌^◌, ◌<◌, ◌≤◌, Bool, true, false, ◌==◌, if◌then◌else◌, List, [], ◌∷◌, length, drop, slice_index, refl, ap, sym, ◌∙◌, arith}
use Rattle.std.proofs.lemmas.Grind.{get_or_default_zero}
use Rattle.std.proofs.lemmas.List.{drop_all, drop_more}
use Rattle.std.proofs.lemmas.Option.{unwrap_or-slice_get}
use Rattle.std.specs.Prelude.{nat_lt, Option, Some, None}
use Rattle.memchr.specs.Find.{is_byte2, places_from, places}
use Rattle.tocmark_read_scan.proofs.PlainTests.{both_false}
use Rattle.tocmark_read_scan.specs.Basic.{plus, byte_at}
use Rattle.tocmark_read_lines.specs.Lines.{ends_here, line_stop, line, line_ended, line_left, last_line, lines_from, lines_of}
use Rattle.tocmark_read_lines.specs.declared.line.Line.{Line}

-- a line, if there is one, and what follows it; else other lines
abbrev pub lines_with : Option Line → (Line → List Line) → List Line → List Line
lines_with None behind others = others
lines_with (Some l) behind others = l ∷ behind l

-- the lines that end at some of these places, with what is after the last of them
abbrev pub lines_at : List ℕ → ℕ → ℕ → List ℕ → List Line
lines_at text before start [] = lines_with (line_left before start (length text)) (λ l. []) []
lines_at text before start (at ∷ ats) =
    lines_with (line_ended text before start at) (λ l. lines_at text l.number l.next ats) (lines_at text before start ats)

-- what is left of a text is its last line
left_is_last : (before start end : ℕ) → lines_with (line_left before start end) (λ l. []) [] ≡ last_line before start end
unfolding line_left
left_is_last before start end = by_test (nat_lt start end)
  where
    by_test : (t : Bool) → lines_with (if t then Some (line before start end end) else None) (λ l. []) [] ≡ (if t then line before start end end ∷ [] else [])
    by_test true = refl
    by_test false = refl

-- another byte ends no line
no_end : (text : List ℕ) (b at : ℕ) → is_byte2 10 13 b ≡ false → ends_here text b at ≡ false
unfolding ends_here
no_end text b at h = let both = both_false (b == 10) (b == 13) h in rw (both.0, both.1) refl

from_places : (text : List ℕ) (n i before start : ℕ) → length text < 2 ^ 64 → i + n ≡ length text → before ≤ i → lines_at text before start (places_from (is_byte2 10 13) text i n) ≡ lines_from text before start i (drop i text)
unfolding places_from line_ended
from_places text zero i before start fits e few =
    let end : length text ≡ i = omega (arith, e) in
    left_is_last before start (length text)
    ∙ ap (last_line before start) end
    ∙ sym (ap (lines_from text before start i) (drop_all i text (omega (arith, e))))
from_places text (suc n) i before start fits e few =
    by_test (λ b s l. from_places text n (i + 1) b s fits (omega (arith, e)) l) (is_byte2 10 13 (slice_index text i)) refl ∙ ap (lines_from text before start i) (sym (drop_more text i 0 (omega (arith, e))))
  where
    b : ℕ
    b = slice_index text i

    later : List ℕ
    later = places_from (is_byte2 10 13) text (i + 1) n

    behind : List ℕ
    behind = drop (i + 1) text

    More : Type 0
    More = (b s : ℕ) → b ≤ i + 1 → lines_at text b s later ≡ lines_from text b s (i + 1) behind

    read : byte_at text i ≡ b
    read = unwrap_or-slice_get text i 10 ∙ get_or_default_zero text i 10 (omega (arith, e))

    next : plus i 1 ≡ i + 1
    next = omega (arith, e, fits)

    number : plus before 1 ≡ before + 1
    number = omega (arith, e, fits, few)

    by_end : More → (t : Bool) → lines_with (if t then Some (line before start (line_stop text start b i) (plus i 1)) else None) (λ l. lines_at text l.number l.next later) (lines_at text before start later) ≡ (if t then line before start (line_stop text start b i) (i + 1) ∷ lines_from text (before + 1) (i + 1) (i + 1) behind else lines_from text before start (i + 1) behind)
    by_end more true =
        ap (λ k. line before start (line_stop text start b i) k ∷ lines_at text (plus before 1) k later) next
        ∙ ap (λ n. line before start (line_stop text start b i) (i + 1) ∷ lines_at text n (i + 1) later) number
        ∙ ap (λ (ls : List Line). line before start (line_stop text start b i) (i + 1) ∷ ls) (more (before + 1) (i + 1) (omega (arith, few)))
    by_end more false = more before start (omega (arith, few))

    by_test : More → (t : Bool) → is_byte2 10 13 b ≡ t → lines_at text before start (if t then i ∷ later else later) ≡ lines_from text before start i (b ∷ behind)
    by_test more false h = rw (no_end text b i h) (more before start (omega (arith, few)))
    by_test more true h =
        ap (λ c. lines_with (if ends_here text c i then Some (line before start (line_stop text start c i) (plus i 1)) else None) (λ l. lines_at text l.number l.next later) (lines_at text before start later)) read
        ∙ by_end more (ends_here text b i)

pub lines_by_places : (text : List ℕ) → length text < 2 ^ 64 → lines_at text 0 0 (places (is_byte2 10 13) text) ≡ lines_of text
lines_by_places text fits = from_places text (length text - 0) 0 0 0 fits (omega arith) (omega arith)
