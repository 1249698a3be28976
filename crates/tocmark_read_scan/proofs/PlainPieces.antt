-- Lines joined by line feeds: their pieces, and their content.
use Rattle.std.proofs.Common.{◌≡◌, ℕ, suc, ◌+◌, ◌-◌, ◌^◌, ◌<◌, true, false, ◌==◌, nat_le, List, [], ◌∷◌, ◌++◌, length, drop, refl, ap, sym, ◌∙◌, arith, append_assoc, append-nil, length-append}
use Rattle.std.proofs.lemmas.Bool.Decides.{nat_tests}
use Rattle.std.specs.List.{AllByRecursion, fold}
use Rattle.tocmark_read_scan.specs.Basic.{bytes_between}
use Rattle.tocmark_read_scan.specs.Class.{is_in}
use Rattle.tocmark_read_scan.specs.Content.{State, put, put_bytes, put_line, trimmed, content_of}
use Rattle.tocmark_read_scan.specs.declared.class.Class.TheVariants.{White}
use Rattle.tocmark_read_scan.specs.declared.content.ContentLine.{ContentLine}
use Rattle.tocmark_read_scan.proofs.PlainContent.{places_of, put_bytes_plain, take_front, trimmed_feed, length_places}

-- a line and further lines, with a line feed between two
abbrev pub feed_joined : List ℕ → List (List ℕ) → List ℕ
feed_joined l [] = l
feed_joined l (m ∷ ms) = l ++ 10 ∷ feed_joined m ms

pub drop_behind : {A : Type 0} (xs ys : List A) → drop (length xs) (xs ++ ys) ≡ ys
drop_behind [] ys = refl
drop_behind (x ∷ xs) ys = drop_behind xs ys

-- the piece of a text that is between two others
pub piece_between : (text pre l rest : List ℕ) (start end : ℕ) → text ≡ pre ++ (l ++ rest) → start ≡ length pre → end ≡ length pre + length l → bytes_between text start end ≡ l
piece_between text pre l rest start end e s t =
    let all : length text ≡ length pre + (length l + length rest) = ap length e ∙ length-append pre (l ++ rest) ∙ ap (λ n. length pre + n) (length-append l rest) in
    let order : nat_le start end ≡ true = grind (arith, nat_tests) in
    let fits : nat_le end (length text) ≡ true = grind (arith, nat_tests) in
    let width : end - start ≡ length l = omega arith in
    let behind : drop start text ≡ l ++ rest = ap (λ n. drop n text) s ∙ ap (drop (length pre)) e ∙ drop_behind pre (l ++ rest) in
    rw (order, fits, width, behind) (take_front l rest)

-- where each line is, and where the next begins
abbrev pub line_places : ℕ → List ℕ → List (List ℕ) → List ContentLine
line_places start l [] = record { start = start; end = start + length l; next = start + length l } ∷ []
line_places start l (m ∷ ms) = record { start = start; end = start + length l; next = start + length l + 1 } ∷ line_places (start + length l + 1) m ms

-- no byte is U+0000
abbrev pub AreNoZeros : List ℕ → Type 0
AreNoZeros xs = AllByRecursion (λ b. (b == 0) ≡ false) xs

pub places_append : (start : ℕ) (xs ys : List ℕ) → places_of start (xs ++ ys) ≡ places_of start xs ++ places_of (start + length xs) ys
places_append start [] ys = ap (λ n. places_of n ys) (let q : start ≡ start + 0 = omega arith in q)
places_append start (x ∷ xs) ys =
    let same : start + 1 + length xs ≡ start + suc (length xs) = omega arith in
    ap (λ ps. (start, start + 1) ∷ ps) (places_append (start + 1) xs ys ∙ ap (λ n. places_of (start + 1) xs ++ places_of n ys) same)

-- a line that is there is put as it is, and a line feed after it
line_put : (text l : List ℕ) (start next : ℕ) (s : State) → bytes_between text start (start + length l) ≡ l → AreNoZeros l → start + length l < 2 ^ 64 → put_line text s (record { start = start; end = start + length l; next = next }) ≡ record { bytes = s.bytes ++ (l ++ 10 ∷ []); places = s.places ++ (places_of start l ++ (start + length l, next) ∷ []) }
unfolding put_line put
line_put text l start next s e h fits =
    ap (λ (xs : List ℕ). put 10 (start + length l) next (put_bytes start s xs)) e
    ∙ ap (λ (t : State). put 10 (start + length l) next t) (put_bytes_plain start s l h fits)
    ∙ rw (append_assoc s.bytes l (10 ∷ []), append_assoc s.places (places_of start l) ((start + length l, next) ∷ [])) refl

-- lines that are in a text one after the other are put as they are
pub lines_put : (text pre : List ℕ) (start : ℕ) (l : List ℕ) (ms : List (List ℕ)) (s : State) → text ≡ pre ++ feed_joined l ms → start ≡ length pre → AllByRecursion AreNoZeros (l ∷ ms) → length text < 2 ^ 64 → fold (put_line text) s (line_places start l ms) ≡ record { bytes = s.bytes ++ (feed_joined l ms ++ 10 ∷ []); places = s.places ++ (places_of start (feed_joined l ms) ++ (length text, length text) ∷ []) }
lines_put text pre start l [] s e at h fits =
    let here : text ≡ pre ++ (l ++ []) = e ∙ ap (λ (xs : List ℕ). pre ++ xs) (sym (append-nil l)) in
    let all : length text ≡ start + length l = ap length e ∙ length-append pre l ∙ ap (λ n. n + length l) (sym at) in
    line_put text l start (start + length l) s (piece_between text pre l [] start (start + length l) here at (ap (λ n. n + length l) at)) (h.0) (let q : start + length l < 2 ^ 64 = omega (arith, all, fits) in q)
    ∙ ap (λ n. record { bytes = s.bytes ++ (l ++ 10 ∷ []); places = s.places ++ (places_of start l ++ (n, n) ∷ []) }) (sym all)
lines_put text pre start l (m ∷ ms) s e at h fits =
    let more : List ℕ = feed_joined m ms in
    let next : ℕ = start + length l + 1 in
    let all : length text ≡ start + (length l + suc (length more)) = ap length e ∙ length-append pre (l ++ 10 ∷ more) ∙ ap (λ n. length pre + n) (length-append l (10 ∷ more)) ∙ ap (λ n. n + (length l + suc (length more))) (sym at) in
    let one : State = record { bytes = s.bytes ++ (l ++ 10 ∷ []); places = s.places ++ (places_of start l ++ (start + length l, next) ∷ []) } in
    let there : text ≡ (pre ++ (l ++ 10 ∷ [])) ++ more = e ∙ ap (λ (xs : List ℕ). pre ++ xs) (sym (append_assoc l (10 ∷ []) more)) ∙ sym (append_assoc pre (l ++ 10 ∷ []) more) in
    let longer : next ≡ length (pre ++ (l ++ 10 ∷ [])) = ap (λ n. n + length l + 1) at ∙ (let q : length pre + length l + 1 ≡ length (pre ++ (l ++ 10 ∷ [])) = grind (arith, length-append) in q) in
    ap (λ (t : State). fold (put_line text) t (line_places next m ms)) (line_put text l start next s (piece_between text pre l (10 ∷ more) start (start + length l) e at (ap (λ n. n + length l) at)) (h.0) (let q : start + length l < 2 ^ 64 = omega (arith, all, fits) in q))
    ∙ lines_put text (pre ++ (l ++ 10 ∷ [])) next m ms one there longer (h.1) fits
    ∙ rw (
      append_assoc s.bytes (l ++ 10 ∷ []) (more ++ 10 ∷ []),
      append_assoc l (10 ∷ []) (more ++ 10 ∷ []),
      append_assoc l (10 ∷ more) (10 ∷ []),
      append_assoc s.places (places_of start l ++ (start + length l, next) ∷ []) (places_of next more ++ (length text, length text) ∷ []),
      append_assoc (places_of start l) ((start + length l, next) ∷ []) (places_of next more ++ (length text, length text) ∷ []),
      places_append start l (10 ∷ more),
      append_assoc (places_of start l) ((start + length l, next) ∷ places_of next more) ((length text, length text) ∷ []),
    ) refl

-- the content of lines that fill a text is the text
pub content_of_lines : (l : List ℕ) (ms : List (List ℕ)) (body : List ℕ) (y : ℕ) → feed_joined l ms ≡ body ++ y ∷ [] → is_in White y ≡ false → AllByRecursion AreNoZeros (l ∷ ms) → length (feed_joined l ms) < 2 ^ 64 → content_of (feed_joined l ms) (line_places 0 l ms) ≡ record { bytes = feed_joined l ms; places = places_of 0 (feed_joined l ms) }
unfolding content_of
content_of_lines l ms body y e w h fits =
    let text : List ℕ = feed_joined l ms in
    let n : ℕ = length text in
    ap trimmed (lines_put text [] 0 l ms (record { bytes = []; places = [] }) refl refl h fits)
    ∙ ap (λ (xs : List ℕ). trimmed (record { bytes = xs ++ 10 ∷ []; places = places_of 0 text ++ (n, n) ∷ [] })) e
    ∙ trimmed_feed body y (places_of 0 text) (n, n) (length_places 0 text ∙ ap length e) w
    ∙ ap (λ (xs : List ℕ). (let f : State = record { bytes = xs; places = places_of 0 text } in f)) (sym e)
