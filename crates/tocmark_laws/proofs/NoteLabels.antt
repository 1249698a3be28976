-- The label of a footnote in brackets.
use Rattle.std.proofs.Common.{◌≡◌, ℕ, suc, ◌+◌, ◌^◌, ◌<◌, ◌≤◌, true, false, ◌==◌, nat_le, List, [], ◌∷◌, ◌++◌, length, drop, refl, ap, sym, ◌∙◌, arith, append_assoc, length-append, append-nil, Some}
use Rattle.std.proofs.lemmas.Bool.Decides.{nat_tests}
use Rattle.std.specs.Char.{char_set_contains}
use Rattle.std.specs.List.{AllByRecursion, fold, list_any}
use Rattle.tocmark_read_scan.specs.Basic.{plus, byte_at, bytes_between, starts_at}
use Rattle.tocmark_read_scan.specs.Class.{is_in}
use Rattle.tocmark_read_scan.specs.declared.class.Class.TheVariants.{White}
use Rattle.tocmark_read_scan.proofs.PlainContent.{byte_behind}
use Rattle.tocmark_read_scan.proofs.PlainPieces.{drop_behind, piece_between}
use Rattle.tocmark_read_scan.proofs.PlainTests.{both_true, is_not, differs}
use Rattle.tocmark_read_tokens.specs.Label.{State, collapsed, collapse_step, collapse_start}
use Rattle.tocmark_read_tokens.specs.Footnotes.{note_label, on_one_line}
use Rattle.tocmark_read_tokens.specs.Word.{word, ends_enclosed, stops, escapes, closing_of, enclosed, enclosed_end, character_count, is_label_text, label_from}
use Rattle.tocmark_read_tokens.specs.declared.word.Enclosure.TheVariants.{Bracketed}
use Rattle.tocmark_reader.proofs.PlainReading.{IsPrintable}
use Rattle.tocmark_laws.specs.Footnotes.{is_label_byte}
use Rattle.tocmark_laws.proofs.WordsReading.{IsWordByte, word_byte, marks}

-- a byte of a label
pub record IsLabelByte (b : ℕ) : Type 0 where
  pub word : IsWordByte b
  pub space : (b == 32) ≡ false

pub label_byte : (b : ℕ) → is_label_byte b ≡ true → IsLabelByte b
label_byte b h = let both = both_true _ _ h in record { word = word_byte b (both.0); space = is_not (b == 32) (both.1) }

-- a byte in brackets that neither ends them nor is white
pub record IsInside (b : ℕ) : Type 0 where
  pub printable : IsPrintable b
  pub space : (b == 32) ≡ false
  pub opening : (b == 91) ≡ false
  pub closing : (b == 93) ≡ false
  pub backslash : (b == 92) ≡ false

pub inside_label : (b : ℕ) → IsLabelByte b → IsInside b
inside_label b h = record {
  printable = h.word.printable;
  space = h.space;
  opening = differs (char_set_contains marks) b 91 refl h.word.out;
  closing = differs (char_set_contains marks) b 93 refl h.word.out;
  backslash = differs (char_set_contains marks) b 92 refl h.word.out;
}

pub inside_caret : IsInside 94
inside_caret = record { printable = record { low = omega arith; high = omega arith }; space = refl; opening = refl; closing = refl; backslash = refl }

ink_inside : (b : ℕ) → IsInside b → is_in White b ≡ false
unfolding is_in
ink_inside b h =
    let low : 32 ≤ b = h.printable.low in
    let tab : (b == 9) ≡ false = grind (arith, nat_tests) in
    let feed : (b == 10) ≡ false = grind (arith, nat_tests) in
    rw (h.space, tab, feed) refl

-- ---- where brackets end

ends : (place : ℕ) (xs rest : List ℕ) → AllByRecursion IsInside xs → place + length xs < 2 ^ 64 → enclosed_end Bracketed false place (xs ++ 93 ∷ rest) ≡ place + length xs
unfolding ends_enclosed stops escapes
ends place [] rest h fits = let q : place ≡ place + 0 = omega arith in q
ends place (x ∷ xs) rest h fits =
    let next : plus place 1 ≡ place + 1 = omega arith in
    let far : place + 1 + length xs ≡ place + suc (length xs) = omega arith in
    rw ((h.0).opening, (h.0).closing, (h.0).backslash, next) (ends (place + 1) xs rest (h.1) (omega arith) ∙ far)

counted : (xs : List ℕ) → AllByRecursion IsInside xs → character_count xs ≡ length xs
counted [] h = refl
counted (x ∷ xs) h =
    let high : x < 127 = (h.0).printable.high in
    let ascii : nat_le 128 x ≡ false = grind (arith, nat_tests) in
    rw ascii (ap suc (counted xs (h.1)))

is_text : (x : ℕ) (xs : List ℕ) → AllByRecursion IsInside (x ∷ xs) → length (x ∷ xs) < 1000 → is_label_text (x ∷ xs) ≡ true
unfolding is_label_text
is_text x xs h short =
    let few : nat_le (length (x ∷ xs)) 999 ≡ true = grind (arith, nat_tests) in
    rw (counted (x ∷ xs) h, few, ink_inside x (h.0)) refl

-- what is in brackets is a label
pub label_here : (bytes pre : List ℕ) (x : ℕ) (xs rest : List ℕ) (from : ℕ) → bytes ≡ pre ++ ((x ∷ xs) ++ 93 ∷ rest) → from ≡ length pre → AllByRecursion IsInside (x ∷ xs) → length (x ∷ xs) < 1000 → length bytes < 2 ^ 64 → label_from bytes from ≡ Some (word from (from + length (x ∷ xs)) (from + length (x ∷ xs) + 1))
unfolding label_from enclosed closing_of
label_here bytes pre x xs rest from e at h short fits =
    let name : List ℕ = x ∷ xs in
    let stop : ℕ = from + length name in
    let all : length bytes ≡ length pre + (length name + suc (length rest)) = ap length e ∙ length-append pre (name ++ 93 ∷ rest) ∙ ap (λ n. length pre + n) (length-append name (93 ∷ rest)) in
    let there : drop from bytes ≡ name ++ 93 ∷ rest = ap (λ n. drop n bytes) at ∙ ap (drop (length pre)) e ∙ drop_behind pre (name ++ 93 ∷ rest) in
    let end : enclosed_end Bracketed false from (drop from bytes) ≡ stop = ap (enclosed_end Bracketed false from) there ∙ ends from name rest h (omega (arith, all, at, fits)) in
    let behind : stop ≡ length (pre ++ name) = ap (λ n. n + length name) at ∙ sym (length-append pre name) in
    let closes : byte_at bytes stop ≡ 93 = ap (λ (l : List ℕ). byte_at l stop) (e ∙ sym (append_assoc pre name (93 ∷ rest))) ∙ byte_behind (pre ++ name) rest 93 stop behind in
    let stands : bytes_between bytes from stop ≡ name = piece_between bytes pre name (93 ∷ rest) from stop e at (ap (λ n. n + length name) at) in
    let next : plus stop 1 ≡ stop + 1 = omega (arith, all, at, fits) in
    rw (end, closes, stands, is_text x xs h short, next) refl

no_feed : (xs : List ℕ) → AllByRecursion IsInside xs → list_any (λ b. b == 10) xs ≡ false
no_feed [] h = refl
no_feed (x ∷ xs) h =
    let low : 32 ≤ x = (h.0).printable.low in
    let other : (x == 10) ≡ false = grind (arith, nat_tests) in
    rw other (no_feed xs (h.1))

-- after a bracket and a caret it is one of a footnote
pub note_here : (bytes pre : List ℕ) (x : ℕ) (xs rest : List ℕ) (at : ℕ) → bytes ≡ pre ++ 91 ∷ 94 ∷ ((x ∷ xs) ++ 93 ∷ rest) → at ≡ length pre → AllByRecursion IsInside (x ∷ xs) → length (x ∷ xs) < 1000 → length bytes < 2 ^ 64 → note_label bytes at ≡ Some (word (at + 2) (at + 2 + length (x ∷ xs)) (at + 2 + length (x ∷ xs) + 1))
unfolding note_label starts_at on_one_line
note_here bytes pre x xs rest at e place h short fits =
    let name : List ℕ = x ∷ xs in
    let front : List ℕ = pre ++ 91 ∷ 94 ∷ [] in
    let from : ℕ = at + 2 in
    let split : bytes ≡ front ++ (name ++ 93 ∷ rest) = e ∙ sym (append_assoc pre (91 ∷ 94 ∷ []) (name ++ 93 ∷ rest)) in
    let wide : length front ≡ length pre + 2 = length-append pre (91 ∷ 94 ∷ []) in
    let behind : from ≡ length front = omega (arith, wide, place) in
    let all : length bytes ≡ length front + length (name ++ 93 ∷ rest) = ap length split ∙ length-append front (name ++ 93 ∷ rest) in
    let there : drop at bytes ≡ 91 ∷ 94 ∷ (name ++ 93 ∷ rest) = ap (λ n. drop n bytes) place ∙ ap (drop (length pre)) e ∙ drop_behind pre (91 ∷ 94 ∷ (name ++ 93 ∷ rest)) in
    let next : plus at 2 ≡ from = omega (arith, all, behind, fits) in
    let stands : bytes_between bytes from (from + length name) ≡ name = piece_between bytes front name (93 ∷ rest) from (from + length name) split behind (ap (λ n. n + length name) behind) in
    rw (there, next, label_here bytes front x xs rest from split behind h short fits, stands, no_feed name h) refl

-- ---- the name that it means

collapses : (xs : List ℕ) (t : State) → t.blank ≡ false → AllByRecursion IsInside xs → (fold collapse_step t xs).out ≡ t.out ++ xs
unfolding collapse_step
collapses [] t h k = sym (append-nil t.out)
collapses (x ∷ xs) t h k =
    let one : collapse_step t x ≡ record { out = t.out ++ x ∷ []; blank = false } = rw (ink_inside x (k.0), h) refl in
    ap (λ (u : State). (fold collapse_step u xs).out) one
    ∙ collapses xs (record { out = t.out ++ x ∷ []; blank = false }) refl (k.1)
    ∙ append_assoc t.out (x ∷ []) xs

pub name_kept : (xs : List ℕ) → AllByRecursion IsInside xs → collapsed xs ≡ xs
unfolding collapsed
name_kept xs h = collapses xs collapse_start refl h
