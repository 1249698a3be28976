-- The lines of a text without carriage returns and U+0000: those of the reader are those that are declared.
use Rattle.std.proofs.Common.{◌≡◌, ℕ, zero, suc, ◌+◌, ◌-◌, ◌≤◌, Bool, true, false, not, ◌==◌, ◌&&◌, ◌||◌, if◌then◌else◌, nat_lt, nat_le, List, [], ◌∷◌, ◌++◌, length, map, take, drop, refl, ap, sym, ◌∙◌, arith, append_assoc, length-append, true≢false}
use Rattle.std.specs.List.{AllByRecursion, list_any}
use Rattle.std.proofs.lemmas.Bool.Decides.{nat_tests}
use Rattle.tocmark_read_scan.specs.Basic.{plus, byte_at, bytes_between}
use Rattle.tocmark_read_scan.proofs.PlainPieces.{piece_between}
use Rattle.tocmark_read_scan.proofs.PlainTests.{both_false}
use Rattle.tocmark_read_lines.specs.Lines.{ends_here, line_stop, line, lines_from, lines_of}
use Rattle.tocmark_read_lines.specs.declared.line.Line.{Line}
use Rattle.tocmark_read_blocks.proofs.Steps.{never}
use Rattle.tocmark_commonmark.specs.Lines.{Line as DeclaredLine, document_line, plain_bytes, line_ended, lines_after, lines_of as declared_lines}
use Rattle.tocmark_block_laws.specs.Quotes.{is_special, IsPlain}

none_of : (a b c : Bool) → (a || b || c) ≡ false → (a ≡ false) × (b ≡ false) × (c ≡ false)
none_of true b c h = absurd (true≢false h)
none_of false true c h = absurd (true≢false h)
none_of false false true h = absurd (true≢false h)
none_of false false false h = (refl, refl, refl)

-- what is known of the first byte, and of those after it
pub record Plain (b : ℕ) (bs : List ℕ) : Type 0 where
  pub tab : (b == 9) ≡ false
  pub return : (b == 13) ≡ false
  pub zero_byte : (b == 0) ≡ false
  pub more : IsPlain bs

pub plain_head : (b : ℕ) (bs : List ℕ) → IsPlain (b ∷ bs) → Plain b bs
plain_head b bs h =
    let both = both_false (is_special b) (list_any is_special bs) h in
    let three = none_of (b == 9) (b == 13) (b == 0) (both.0) in
    record { tab = three.0; return = three.1; zero_byte = three.2; more = both.1 }

pub no_tab : (xs : List ℕ) → IsPlain xs → list_any (λ b. b == 9) xs ≡ false
no_tab [] h = refl
no_tab (b ∷ bs) h = let c : Plain b bs = plain_head b bs h in rw c.tab (no_tab bs c.more)

no_return : (xs : List ℕ) (k : ℕ) → IsPlain xs → (byte_at xs k == 13) ≡ false
no_return [] k h = refl
no_return (b ∷ bs) zero h = (plain_head b bs h).return
no_return (b ∷ bs) (suc k) h = no_return bs k (plain_head b bs h).more

plain_same : (xs : List ℕ) → IsPlain xs → plain_bytes false xs ≡ xs
plain_same [] h = refl
plain_same (b ∷ bs) h = let c : Plain b bs = plain_head b bs h in rw (c.return, never (b == 10), c.zero_byte) (ap (λ (ys : List ℕ). b ∷ ys) (plain_same bs c.more))

pub stop_same : (text : List ℕ) (start b at : ℕ) → IsPlain text → line_stop text start b at ≡ at
unfolding line_stop
stop_same text start b at h = by (b == 10) (nat_lt start at)
  where
    by : (k m : Bool) → (if k && m && (byte_at text (at - 1) == 13) then at - 1 else at) ≡ at
    by true true = rw (no_return text (at - 1) h) refl
    by true false = refl
    by false m = refl

pub ends_same : (text : List ℕ) (b at : ℕ) → (b == 13) ≡ false → ends_here text b at ≡ (b == 10)
unfolding ends_here
ends_same text b at h = rw h (by (b == 10))
  where
    by : (k : Bool) → (k || (false && not (byte_at text (plus at 1) == 10)) || (false && nat_le (length text) (plus at 1))) ≡ k
    by true = refl
    by false = refl

-- a line as it is declared
abbrev pub declared : List ℕ → Line → DeclaredLine
declared text l = document_line (bytes_between text l.start l.end)

from_same : (text done part bs : List ℕ) (before start at : ℕ) → IsPlain text → IsPlain bs → text ≡ done ++ (part ++ bs) → start ≡ length done → at ≡ length done + length part
    → map (declared text) (lines_from text before start at bs) ≡ lines_after part bs
from_same text done [] [] before start at clean more e s t =
    let none : nat_lt start at ≡ false = grind (arith, nat_tests) in
    rw none refl
from_same text done (x ∷ xs) [] before start at clean more e s t =
    let some : nat_lt start at ≡ true = grind (arith, nat_tests) in
    rw some (ap (λ (ys : List ℕ). document_line ys ∷ []) (piece_between text done (x ∷ xs) [] start at e s t))
from_same text done part (b ∷ bs) before start at clean more e s t =
    rw (ends_same text b at m.return)
    (by (b == 10)
    (from_same text (done ++ (part ++ b ∷ [])) [] bs (before + 1) (at + 1) (at + 1) clean m.more there longer ended)
    (from_same text done (part ++ b ∷ []) bs before start (at + 1) clean m.more same s further))
  where
    m : Plain b bs
    m = plain_head b bs more

    same : text ≡ done ++ ((part ++ b ∷ []) ++ bs)
    same = e ∙ ap (λ (ys : List ℕ). done ++ ys) (sym (append_assoc part (b ∷ []) bs))

    there : text ≡ (done ++ (part ++ b ∷ [])) ++ ([] ++ bs)
    there = same ∙ sym (append_assoc done (part ++ b ∷ []) bs)

    wide : length (part ++ b ∷ []) ≡ length part + 1
    wide = length-append part (b ∷ [])

    whole : length (done ++ (part ++ b ∷ [])) ≡ length done + length (part ++ b ∷ [])
    whole = length-append done (part ++ b ∷ [])

    longer : at + 1 ≡ length (done ++ (part ++ b ∷ []))
    longer = omega (arith, wide, whole, t)

    ended : at + 1 ≡ length (done ++ (part ++ b ∷ [])) + 0
    ended = omega (arith, longer)

    further : at + 1 ≡ length done + length (part ++ b ∷ [])
    further = omega (arith, wide, t)

    by : (k : Bool) → map (declared text) (lines_from text (before + 1) (at + 1) (at + 1) bs) ≡ lines_after [] bs → map (declared text) (lines_from text before start (at + 1) bs) ≡ lines_after (part ++ b ∷ []) bs
        → map (declared text) (if k then line before start (line_stop text start b at) (at + 1) ∷ lines_from text (before + 1) (at + 1) (at + 1) bs else lines_from text before start (at + 1) bs)
        ≡ line_ended (λ l. lines_after l bs) part b k
    by true next cont =
        ap (λ p. document_line (bytes_between text start p) ∷ map (declared text) (lines_from text (before + 1) (at + 1) (at + 1) bs)) (stop_same text start b at clean)
        ∙ ap (λ (ys : List ℕ). document_line ys ∷ map (declared text) (lines_from text (before + 1) (at + 1) (at + 1) bs)) (piece_between text done part (b ∷ bs) start at e s t)
        ∙ ap (λ (ls : List DeclaredLine). document_line part ∷ ls) next
    by false next cont = cont

pub lines_same : (text : List ℕ) → IsPlain text → map (declared text) (lines_of text) ≡ declared_lines text
lines_same text h = from_same text [] [] text 0 0 0 h h refl refl refl ∙ sym (ap (lines_after []) (plain_same text h))

-- a line lies in its text
pub record Sound (text : List ℕ) (l : Line) : Type 0 where
  pub order : l.start ≤ l.end
  pub next : l.end ≤ l.next
  pub within : l.end ≤ length text

sound_from : (text bs : List ℕ) (before start at : ℕ) → IsPlain text → IsPlain bs → start ≤ at → at + length bs ≡ length text → AllByRecursion (Sound text) (lines_from text before start at bs)
sound_from text [] before start at clean more o e = by (nat_lt start at)
  where
    by : (k : Bool) → AllByRecursion (Sound text) (if k then line before start at at ∷ [] else [])
    by true = (record { order = o; next = omega arith; within = omega (arith, e) }, tt)
    by false = tt
sound_from text (b ∷ bs) before start at clean more o e =
    rw (ends_same text b at m.return, stop_same text start b at clean)
    (by (b == 10)
    (sound_from text bs (before + 1) (at + 1) (at + 1) clean m.more (omega arith) (omega (arith, e)))
    (sound_from text bs before start (at + 1) clean m.more (omega (arith, o)) (omega (arith, e))))
  where
    m : Plain b bs
    m = plain_head b bs more

    by : (k : Bool) → AllByRecursion (Sound text) (lines_from text (before + 1) (at + 1) (at + 1) bs) → AllByRecursion (Sound text) (lines_from text before start (at + 1) bs)
        → AllByRecursion (Sound text) (if k then line before start at (at + 1) ∷ lines_from text (before + 1) (at + 1) (at + 1) bs else lines_from text before start (at + 1) bs)
    by true next cont = (record { order = o; next = omega arith; within = omega (arith, e) }, next)
    by false next cont = cont

pub lines_sound : (text : List ℕ) → IsPlain text → AllByRecursion (Sound text) (lines_of text)
lines_sound text h = sound_from text text 0 0 0 h h (omega arith) (omega arith)

few_from : (text bs : List ℕ) (before start at : ℕ) → length (lines_from text before start at bs) ≤ length bs + 1
few_from text [] before start at = by (nat_lt start at)
  where
    by : (k : Bool) → length (if k then line before start at at ∷ [] else []) ≤ 0 + 1
    by true = omega arith
    by false = omega arith
few_from text (b ∷ bs) before start at = by (ends_here text b at) (few_from text bs (before + 1) (at + 1) (at + 1)) (few_from text bs before start (at + 1))
  where
    by : (k : Bool) → length (lines_from text (before + 1) (at + 1) (at + 1) bs) ≤ length bs + 1 → length (lines_from text before start (at + 1) bs) ≤ length bs + 1
        → length (if k then line before start (line_stop text start b at) (at + 1) ∷ lines_from text (before + 1) (at + 1) (at + 1) bs else lines_from text before start (at + 1) bs) ≤ suc (length bs) + 1
    by true next cont = omega (arith, next)
    by false next cont = omega (arith, cont)

-- a text has few lines
pub lines_few : (text : List ℕ) → length (lines_of text) ≤ length text + 1
lines_few text = few_from text text 0 0 0

take_plain : (n : ℕ) (xs : List ℕ) → IsPlain xs → IsPlain (take n xs)
take_plain zero xs h = refl
take_plain (suc n) [] h = refl
take_plain (suc n) (b ∷ bs) h =
    let both = both_false (is_special b) (list_any is_special bs) h in
    rw (both.0) (take_plain n bs (both.1))

pub drop_plain : (n : ℕ) (xs : List ℕ) → IsPlain xs → IsPlain (drop n xs)
drop_plain zero xs h = h
drop_plain (suc n) [] h = refl
drop_plain (suc n) (b ∷ bs) h = drop_plain n bs ((both_false (is_special b) (list_any is_special bs) h).1)

-- the bytes of a line have none of these either
pub between_plain : (text : List ℕ) (start end : ℕ) → IsPlain text → IsPlain (bytes_between text start end)
between_plain text start end h = by (nat_le start end && nat_le end (length text))
  where
    by : (k : Bool) → IsPlain (if k then take (end - start) (drop start text) else [])
    by true = take_plain (end - start) (drop start text) (drop_plain start text h)
    by false = refl

pub front_plain : (n : ℕ) (xs : List ℕ) → IsPlain xs → IsPlain (take n xs)
front_plain n xs h = take_plain n xs h
