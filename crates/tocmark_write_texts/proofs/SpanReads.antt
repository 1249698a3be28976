-- A code span is read as its text.
use Rattle.std.proofs.Common.{◌≡◌, ℕ, zero, suc, ◌+◌, ◌-◌, ◌<◌, ◌≤◌, Bool, true, false, not, ◌&&◌, ◌||◌, Some, List, [], ◌∷◌, ◌++◌, length, take, drop, replicate, append_assoc, length-append, ne_eqb, refl, sym, ap, ◌∙◌, inl, inr, lit≤, arith}
use Rattle.std.specs.Prelude.{◌==◌}
use Rattle.std.specs.List.{list_all}
use Rattle.std.proofs.lemmas.Bool.{cases_Bool, and_parts, and_right, eqb-true, le-leb}
use Rattle.tocmark_write_texts.specs.Leaves.{padding, run_length, longest_run, first_is, last_is, is_blank, needs_spaces, ticks, span, code_span, has_run, without_spaces, between_ends, ends_with_run, unspan}

or_parts_false : (x y : Bool) → (x || y) ≡ false → (x ≡ false) × (y ≡ false)
or_parts_false true y e = cc
or_parts_false false y e = (refl, e)

run_front : (n : ℕ) (xs : List ℕ) → first_is 96 xs ≡ false → run_length 96 (replicate n 96 ++ xs) ≡ n
run_front zero [] e = refl
run_front zero (x ∷ xs) e = rw e refl
run_front (suc n) xs e = rw (run_front n xs e) (omega arith)

first_is-append : (xs ys : List ℕ) → 0 < length xs → first_is 96 (xs ++ ys) ≡ first_is 96 xs
first_is-append [] ys some = absurd (omega arith)
first_is-append (x ∷ xs) ys some = refl

ticks-length : (n : ℕ) → length {A = ℕ} (replicate n 96) ≡ n
ticks-length zero = refl
ticks-length (suc n) = ap suc (ticks-length n)

take-front : (xs ys : List ℕ) → take (length xs) (xs ++ ys) ≡ xs
take-front [] ys = refl
take-front (x ∷ xs) ys = ap (λ z. x ∷ z) (take-front xs ys)

drop-front : (xs ys : List ℕ) → drop (length xs) (xs ++ ys) ≡ ys
drop-front [] ys = refl
drop-front (x ∷ xs) ys = drop-front xs ys

all-replicate : (n : ℕ) → list_all (λ c. c == 96) (replicate n 96) ≡ true
all-replicate zero = refl
all-replicate (suc n) = all-replicate n

module _ (n : ℕ) (inside : List ℕ) where
  whole : List ℕ
  whole = replicate n 96 ++ (inside ++ replicate n 96)

  length-whole : length whole ≡ n + (length inside + n)
  unfolding whole
  length-whole =
      length-append (replicate n 96) (inside ++ replicate n 96)
      ∙ rw (length-append inside (replicate n 96), ticks-length n) refl

  between : between_ends n whole ≡ inside
  unfolding whole
  between =
      let long : length whole - n - n ≡ length inside = omega (arith, length-whole) in
      let start : drop n whole ≡ inside ++ replicate n 96 =
      ap (λ k. drop k whole) (sym (ticks-length n)) ∙ drop-front (replicate n 96) (inside ++ replicate n 96) in
      rw (long, start) (take-front inside (replicate n 96))

  ended : ends_with_run n whole ≡ true
  unfolding whole
  ended =
      let front = replicate n 96 ++ inside in
      let at : length whole - n ≡ length front = omega (arith, length-whole, length-append (replicate n 96) inside, ticks-length n) in
      let split : whole ≡ front ++ replicate n 96 = sym (append_assoc (replicate n 96) inside (replicate n 96)) in
      let end : drop (length whole - n) whole ≡ replicate n 96 =
      ap (λ k. drop k whole) at ∙ ap (drop (length front)) split ∙ drop-front front (replicate n 96) in
      rw end (all-replicate n)

-- a text without so long a run has no run of that length
no_run : (before : Bool) (n : ℕ) (text : List ℕ) → longest_run 96 text < n → has_run before n text ≡ false
no_run before n [] short = refl
no_run before n (c ∷ cs) short =
    let differs : run_length 96 (c ∷ cs) ≡ n → ⊥ = λ e. omega arith in
    rw (ne_eqb (run_length 96 (c ∷ cs)) n differs, and_right (not before) false refl) (no_run (c == 96) n cs (omega arith))

-- backticks that end neither in nor before the text between them are a span of it
unspan-whole : (n : ℕ) (inside : List ℕ) → 1 ≤ n → 0 < length inside → first_is 96 inside ≡ false → last_is 96 inside ≡ false → longest_run 96 inside < n
    → unspan (replicate n 96 ++ (inside ++ replicate n 96)) ≡ Some (without_spaces inside)
unfolding whole
unspan-whole n inside one some first last short =
    let run : run_length 96 (whole n inside) ≡ n = run_front n (inside ++ replicate n 96) (first_is-append inside (replicate n 96) some ∙ first) in
    let long : n + n + 1 ≤ length (whole n inside) = omega (arith, length-whole n inside) in
    rw (run, between n inside, ended n inside, le-leb 1 n one, le-leb (n + n + 1) (length (whole n inside)) long, last, no_run false n inside short) refl

-- spaces alone
blank_run : (text : List ℕ) → is_blank text ≡ true → longest_run 96 text ≡ 0
blank_run [] e = refl
blank_run (c ∷ cs) e =
    let parts = and_parts (c == 32) (is_blank cs) e in
    rw (eqb-true c 32 parts.0, blank_run cs parts.1) refl

blank_first : (text : List ℕ) → is_blank text ≡ true → first_is 96 text ≡ false
blank_first [] e = refl
blank_first (c ∷ cs) e = rw (eqb-true c 32 (and_parts (c == 32) (is_blank cs) e).0) refl

blank_last : (text : List ℕ) → is_blank text ≡ true → last_is 96 text ≡ false
blank_last [] e = refl
blank_last (c ∷ []) e = rw (eqb-true c 32 (and_parts (c == 32) true e).0) refl
blank_last (c ∷ d ∷ ds) e = blank_last (d ∷ ds) (and_parts (c == 32) (is_blank (d ∷ ds)) e).1

blank_kept : (text : List ℕ) → is_blank text ≡ true → without_spaces text ≡ text
blank_kept text e = rw (e, and_right (first_is 32 text && last_is 32 text) false refl) refl

-- a space more at the end
last_is-push : (c d : ℕ) (xs : List ℕ) → last_is c (xs ++ d ∷ []) ≡ (d == c)
last_is-push c d [] = refl
last_is-push c d (x ∷ []) = refl
last_is-push c d (x ∷ y ∷ ys) = last_is-push c d (y ∷ ys)

run_length-push : (xs : List ℕ) → run_length 96 (xs ++ 32 ∷ []) ≡ run_length 96 xs
run_length-push [] = refl
run_length-push (x ∷ xs) = rw (run_length-push xs) refl

longest_run-push : (xs : List ℕ) → longest_run 96 (xs ++ 32 ∷ []) ≡ longest_run 96 xs
longest_run-push [] = refl
longest_run-push (x ∷ xs) = rw (run_length-push xs, longest_run-push xs) refl

blank-push : (xs : List ℕ) → is_blank (xs ++ 32 ∷ []) ≡ is_blank xs
blank-push [] = refl
blank-push (x ∷ xs) = ap (λ b. (x == 32) && b) (blank-push xs)

-- with a space at each end
spaced : List ℕ → List ℕ
spaced text = 32 ∷ (text ++ 32 ∷ [])

spaced_kept : (text : List ℕ) → is_blank text ≡ false → without_spaces (spaced text) ≡ text
unfolding spaced
spaced_kept text e =
    let last : last_is 32 (32 ∷ (text ++ 32 ∷ [])) ≡ true = last_is-push 32 32 (32 ∷ text) in
    let blank : is_blank (32 ∷ (text ++ 32 ∷ [])) ≡ false = blank-push text ∙ e in
    let long : length (32 ∷ (text ++ 32 ∷ [])) - 2 ≡ length text = omega (arith, length-append text (32 ∷ [])) in
    rw (last, blank, long) (take-front text (32 ∷ []))

spaced_span : (text : List ℕ) → is_blank text ≡ false → needs_spaces text ≡ true → span text ≡ ticks text ++ (spaced text ++ ticks text)
unfolding spaced span padding
spaced_span text full needs =
    rw (full, needs) (ap (λ (x : List ℕ). ticks text ++ 32 ∷ x) (sym (append_assoc text (32 ∷ []) (ticks text))))

bare_span : (text : List ℕ) → is_blank text ≡ false → needs_spaces text ≡ false → span text ≡ ticks text ++ (text ++ ticks text)
unfolding span padding
bare_span text full needs = rw (full, needs) refl

read_spaced_whole : (text : List ℕ) → unspan (ticks text ++ (spaced text ++ ticks text)) ≡ Some (without_spaces (spaced text))
unfolding spaced
read_spaced_whole text =
    let short : longest_run 96 (32 ∷ (text ++ 32 ∷ [])) < longest_run 96 text + 1 = omega (arith, longest_run-push text) in
    unspan-whole (longest_run 96 text + 1) (32 ∷ (text ++ 32 ∷ [])) (omega arith) (omega arith) refl (last_is-push 96 32 (32 ∷ text)) short

read_spaced : (text : List ℕ) → is_blank text ≡ false → needs_spaces text ≡ true → unspan (span text) ≡ Some text
read_spaced text full needs =
    ap unspan (spaced_span text full needs)
    ∙ read_spaced_whole text
    ∙ ap Some (spaced_kept text full)

bare_kept : (text : List ℕ) → (first_is 32 text && last_is 32 text) ≡ false → without_spaces text ≡ text
bare_kept text e = rw e refl

read_bare_span : (text : List ℕ) → 0 < length text → is_blank text ≡ false → needs_spaces text ≡ false → unspan (span text) ≡ Some text
read_bare_span text some full needs =
    let ends = or_parts_false (first_is 96 text || last_is 96 text) (first_is 32 text && last_is 32 text) needs in
    let marks = or_parts_false (first_is 96 text) (last_is 96 text) ends.0 in
    ap unspan (bare_span text full needs)
    ∙ unspan-whole (longest_run 96 text + 1) text (omega arith) some marks.0 marks.1 (omega arith)
    ∙ ap Some (bare_kept text ends.1)

read_blank : (text : List ℕ) → 0 < length text → is_blank text ≡ true → unspan (span text) ≡ Some text
unfolding span
read_blank text some blank =
    let shown : span text ≡ replicate 1 96 ++ (text ++ replicate 1 96) = rw blank refl in
    ap unspan shown
    ∙ unspan-whole 1 text (lit≤ tt) some (blank_first text blank) (blank_last text blank) (omega (arith, blank_run text blank))
    ∙ ap Some (blank_kept text blank)

pub code_span-read : (text : List ℕ) → 0 < length text → unspan (code_span false text) ≡ Some text
unfolding code_span
code_span-read text some =
    elim (cases_Bool (is_blank text)) [
      | inl blank ↦ read_blank text some blank
      | inr full ↦
          elim (cases_Bool (needs_spaces text)) [
            | inl needs ↦ read_spaced text full needs
            | inr none ↦ read_bare_span text some full none
          ]
    ]
