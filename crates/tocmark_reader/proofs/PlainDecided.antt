-- The test of plain texts finds their parts, and no others.
use Rattle.std.proofs.Common.{◌≡◌, ℕ, zero, suc, Bool, true, false, ◌==◌, ◌&&◌, if◌then◌else◌, List, [], ◌∷◌, ◌++◌, bytes_eq, codes, length, take, drop, refl, ap, sym, ◌∙◌, inl, inr, true≢false}
use Rattle.std.proofs.lemmas.List.{take-append-drop}
use Rattle.std.proofs.lemmas.Slice.Eq.{bytes_eq-Decides}
use Rattle.std.specs.Bool.{Decides}
use Rattle.std.specs.Char.{is_ascii_punctuation}
use Rattle.std.specs.List.{AllByRecursion, list_all}
use Rattle.tocmark_read_scan.specs.Basic.{byte_at}
use Rattle.tocmark_read_scan.specs.PlainParts.{Part, Bare, Escaped, Referred, Feed, spelled, spelled_part, last_byte, are_plain_parts}
use Rattle.tocmark_read_scan.proofs.PlainTests.{eq_of, both_true, all_from}
use Rattle.tocmark_read_inlines.proofs.PlainNeighbours.{IsPlainPart, ArePlainParts}
use Rattle.tocmark_reader.specs.PlainTexts.{text_parts, part_at, bytes_behind, parts_from, first_line, further_lines, is_plain_line, is_plain_text, is_plain, IsPlain}
use Rattle.tocmark_reader.proofs.PlainReading.{AreNoFeeds, no_feeds}
use Rattle.tocmark_reader.proofs.PlainTests.{line_from, parts_tested}

-- what is left behind the first bytes of such a reference
whole_front : (bs word : List ℕ) → take 4 bs ≡ word → word ++ drop 4 bs ≡ bs
whole_front bs word e = ap (λ (xs : List ℕ). xs ++ drop 4 bs) (sym e) ∙ take-append-drop 4 bs

-- the bytes of a part and what is after them
abbrev rebuilt : Part → List ℕ → List ℕ
rebuilt a bs = spelled_part a ++ drop (bytes_behind a) bs

escaped_rebuilt : (b : ℕ) (bs : List ℕ) → (b == 92) ≡ true → is_ascii_punctuation (byte_at bs 0) ≡ true → rebuilt (Escaped (byte_at bs 0)) bs ≡ b ∷ bs
escaped_rebuilt b [] e p = absurd (true≢false (sym p))
escaped_rebuilt b (c ∷ cs) e p = ap (λ x. x ∷ c ∷ cs) (sym (eq_of b 92 e))

reference_rebuilt : (b c : ℕ) (bs word : List ℕ) → length word ≡ 4 → (b == 38) ≡ true → bytes_eq (take 4 bs) word ≡ true → rebuilt (Referred c word) bs ≡ b ∷ bs
reference_rebuilt b c bs word w e h =
    ap (λ n. 38 ∷ (word ++ drop n bs)) w
    ∙ ap (λ (xs : List ℕ). 38 ∷ xs) (whole_front bs word ((bytes_eq-Decides (take 4 bs) word).0 h))
    ∙ ap (λ x. x ∷ bs) (sym (eq_of b 38 e))

-- the part that a byte begins is spelled by it and the bytes after it
part_rebuilt : (b : ℕ) (bs : List ℕ) → rebuilt (part_at b bs) bs ≡ b ∷ bs
part_rebuilt b bs =
    by_tests (b == 92) (is_ascii_punctuation (byte_at bs 0)) (b == 38) (bytes_eq (take 4 bs) (codes "amp;")) (bytes_eq (take 4 bs) (codes "#32;")) (b == 10) refl refl refl refl refl refl
  where
    by_tests : (i p j m n k : Bool) → (b == 92) ≡ i → is_ascii_punctuation (byte_at bs 0) ≡ p → (b == 38) ≡ j → bytes_eq (take 4 bs) (codes "amp;") ≡ m → bytes_eq (take 4 bs) (codes "#32;") ≡ n → (b == 10) ≡ k → rebuilt (if i && p then Escaped (byte_at bs 0) else (if j && m then Referred 38 (codes "amp;") else (if j && n then Referred 32 (codes "#32;") else (if k then Feed else Bare b)))) bs ≡ b ∷ bs
    by_tests true true j m n k ei ep ej em en ek = escaped_rebuilt b bs ei ep
    by_tests true false true true n k ei ep ej em en ek = reference_rebuilt b 38 bs (codes "amp;") refl ej em
    by_tests true false true false true k ei ep ej em en ek = reference_rebuilt b 32 bs (codes "#32;") refl ej en
    by_tests true false true false false true ei ep ej em en ek = ap (λ x. x ∷ bs) (sym (eq_of b 10 ek))
    by_tests true false true false false false ei ep ej em en ek = refl
    by_tests true false false m n true ei ep ej em en ek = ap (λ x. x ∷ bs) (sym (eq_of b 10 ek))
    by_tests true false false m n false ei ep ej em en ek = refl
    by_tests false p true true n k ei ep ej em en ek = reference_rebuilt b 38 bs (codes "amp;") refl ej em
    by_tests false p true false true k ei ep ej em en ek = reference_rebuilt b 32 bs (codes "#32;") refl ej en
    by_tests false p true false false true ei ep ej em en ek = ap (λ x. x ∷ bs) (sym (eq_of b 10 ek))
    by_tests false p true false false false ei ep ej em en ek = refl
    by_tests false p false m n true ei ep ej em en ek = ap (λ x. x ∷ bs) (sym (eq_of b 10 ek))
    by_tests false p false m n false ei ep ej em en ek = refl

-- the parts of a text spell it
pub parts_spell : (skip : ℕ) (bs : List ℕ) → spelled (parts_from skip bs) ≡ drop skip bs
parts_spell zero [] = refl
parts_spell (suc skip) [] = refl
parts_spell zero (b ∷ bs) =
    ap (λ (xs : List ℕ). spelled_part (part_at b bs) ++ xs) (parts_spell (bytes_behind (part_at b bs)) bs) ∙ part_rebuilt b bs
parts_spell (suc skip) (b ∷ bs) = parts_spell skip bs

one_more : (a : Part) (l : List Part) (ms : List (List Part)) → text_parts (a ∷ l) ms ≡ a ∷ text_parts l ms
one_more a l [] = refl
one_more a l (m ∷ ms) = refl

-- lines of parts are the parts
pub lines_join : (parts : List Part) → text_parts (first_line parts) (further_lines parts) ≡ parts
lines_join [] = refl
lines_join (Feed ∷ parts) = ap (λ (l : List Part). Feed ∷ l) (lines_join parts)
lines_join (Bare b ∷ parts) = one_more (Bare b) (first_line parts) (further_lines parts) ∙ ap (λ (l : List Part). Bare b ∷ l) (lines_join parts)
lines_join (Escaped b ∷ parts) = one_more (Escaped b) (first_line parts) (further_lines parts) ∙ ap (λ (l : List Part). Escaped b ∷ l) (lines_join parts)
lines_join (Referred c bs ∷ parts) = one_more (Referred c bs) (first_line parts) (further_lines parts) ∙ ap (λ (l : List Part). Referred c bs ∷ l) (lines_join parts)

-- the bytes of a part are passed over
passed : (xs rest : List ℕ) → parts_from (length xs) (xs ++ rest) ≡ parts_from 0 rest
passed [] rest = refl
passed (x ∷ xs) rest = passed xs rest

-- a plain part is the one that its first byte begins
bare_found : (x b : ℕ) (rest : List ℕ) → IsPlainPart x (Bare b) (byte_at rest 0) → part_at b rest ≡ Bare b
bare_found x b rest (inl h) = rw (h.backslash, h.ampersand, h.feed) refl
bare_found x b rest (inr (inl h)) = let e : b ≡ 33 = h.0 in rw e refl
bare_found x b rest (inr (inr (inl h))) = let e : b ≡ 92 = h.0 in let p : is_ascii_punctuation (byte_at rest 0) ≡ false = h.1 in rw (e, p) refl
bare_found x b rest (inr (inr (inr h))) = let e : b ≡ 95 = h.0 in rw e refl

-- a reference is found
reference_found : (d c : ℕ) (bs : List ℕ) (parts : List Part) (word : List ℕ) → part_at 38 (word ++ spelled parts) ≡ Referred d word → c ≡ d → bs ≡ word → parts_from 0 (spelled parts) ≡ parts → parts_from 0 (38 ∷ (bs ++ spelled parts)) ≡ Referred c bs ∷ parts
reference_found d c bs parts word found e k more =
    ap (λ (xs : List ℕ). parts_from 0 (38 ∷ (xs ++ spelled parts))) k
    ∙ ap (λ a. a ∷ parts_from (bytes_behind a) (word ++ spelled parts)) found
    ∙ ap (λ (l : List Part). Referred d word ∷ l) (passed word (spelled parts) ∙ more)
    ∙ ap (λ x. Referred x word ∷ parts) (sym e)
    ∙ ap (λ (xs : List ℕ). Referred c xs ∷ parts) (sym k)

-- plain parts are found in their text
parts_found : (x : ℕ) (parts : List Part) → ArePlainParts x parts → parts_from 0 (spelled parts) ≡ parts
parts_found x [] h = refl
parts_found x (Bare b ∷ parts) h =
    ap (λ a. a ∷ parts_from (bytes_behind a) (spelled parts)) (bare_found x b (spelled parts) (h.0))
    ∙ ap (λ (l : List Part). Bare b ∷ l) (parts_found b parts (h.1))
parts_found x (Escaped b ∷ parts) h =
    let p : is_ascii_punctuation b ≡ true = h.0 in
    ap (λ a. a ∷ parts_from (bytes_behind a) (b ∷ spelled parts)) (let e : part_at 92 (b ∷ spelled parts) ≡ Escaped b = rw p refl in e)
    ∙ ap (λ (l : List Part). Escaped b ∷ l) (parts_found b parts (h.1))
parts_found x (Referred c bs ∷ parts) (inl k, h) = reference_found 38 c bs parts (codes "amp;") refl (k.0) (k.1) (parts_found (last_byte 38 bs) parts h)
parts_found x (Referred c bs ∷ parts) (inr k, h) = reference_found 32 c bs parts (codes "#32;") refl (k.0) (k.1) (parts_found (last_byte 38 bs) parts h)
parts_found x (Feed ∷ parts) h = ap (λ (l : List Part). Feed ∷ l) (parts_found 10 parts (h.1))

-- the first line and further lines of lines without line feeds
first_alone : (l : List Part) → AreNoFeeds l → first_line l ≡ l
first_alone [] h = refl
first_alone (Bare b ∷ l) h = ap (λ (k : List Part). Bare b ∷ k) (first_alone l h)
first_alone (Escaped b ∷ l) h = ap (λ (k : List Part). Escaped b ∷ k) (first_alone l h)
first_alone (Referred c bs ∷ l) h = ap (λ (k : List Part). Referred c bs ∷ k) (first_alone l h)
first_alone (Feed ∷ l) h = absurd h

further_alone : (l : List Part) → AreNoFeeds l → further_lines l ≡ []
further_alone [] h = refl
further_alone (Bare b ∷ l) h = further_alone l h
further_alone (Escaped b ∷ l) h = further_alone l h
further_alone (Referred c bs ∷ l) h = further_alone l h
further_alone (Feed ∷ l) h = absurd h

first_before : (l more : List Part) → AreNoFeeds l → first_line (l ++ Feed ∷ more) ≡ l
first_before [] more h = refl
first_before (Bare b ∷ l) more h = ap (λ (k : List Part). Bare b ∷ k) (first_before l more h)
first_before (Escaped b ∷ l) more h = ap (λ (k : List Part). Escaped b ∷ k) (first_before l more h)
first_before (Referred c bs ∷ l) more h = ap (λ (k : List Part). Referred c bs ∷ k) (first_before l more h)
first_before (Feed ∷ l) more h = absurd h

further_before : (l more : List Part) → AreNoFeeds l → further_lines (l ++ Feed ∷ more) ≡ first_line more ∷ further_lines more
further_before [] more h = refl
further_before (Bare b ∷ l) more h = further_before l more h
further_before (Escaped b ∷ l) more h = further_before l more h
further_before (Referred c bs ∷ l) more h = further_before l more h
further_before (Feed ∷ l) more h = absurd h

-- each line of a plain text is found
first_found : (l : List Part) (ms : List (List Part)) → AllByRecursion AreNoFeeds (l ∷ ms) → first_line (text_parts l ms) ≡ l
first_found l [] h = first_alone l (h.0)
first_found l (m ∷ ms) h = first_before l (text_parts m ms) (h.0)

further_found : (l : List Part) (ms : List (List Part)) → AllByRecursion AreNoFeeds (l ∷ ms) → further_lines (text_parts l ms) ≡ ms
further_found l [] h = further_alone l (h.0)
further_found l (m ∷ ms) h =
    further_before l (text_parts m ms) (h.0)
    ∙ ap (λ k. k ∷ further_lines (text_parts m ms)) (first_found m ms (h.1))
    ∙ ap (λ (ks : List (List Part)). m ∷ ks) (further_found m ms (h.1))

line_no_feeds : (l : List Part) → is_plain_line l ≡ true → AreNoFeeds l
line_no_feeds l h = no_feeds l ((line_from l h).printable)

-- a plain text passes the test
is_found : (text : List ℕ) (l : List Part) (ms : List (List Part)) → is_plain_text l ms ≡ true → text ≡ spelled (text_parts l ms) → is_plain text ≡ true
is_found text l ms h e =
    let both = both_true (are_plain_parts 10 (text_parts l ms)) (list_all is_plain_line (l ∷ ms)) h in
    let lines : AllByRecursion AreNoFeeds (l ∷ ms) = all_from is_plain_line AreNoFeeds (l ∷ ms) line_no_feeds (both.1) in
    let parts : parts_from 0 text ≡ text_parts l ms = ap (parts_from 0) e ∙ parts_found 10 (text_parts l ms) (parts_tested 10 (text_parts l ms) (both.0)) in
    ap (λ (ps : List Part). is_plain_text (first_line ps) (further_lines ps)) parts
    ∙ ap (λ (k : List Part). is_plain_text k (further_lines (text_parts l ms))) (first_found l ms lines)
    ∙ ap (is_plain_text l) (further_found l ms lines)
    ∙ h

-- the test decides which texts are plain
pub plain_decided : (text : List ℕ) → Decides (is_plain text) (IsPlain text)
plain_decided text = (
  λ h. (first_line (parts_from 0 text), further_lines (parts_from 0 text), h, sym (ap spelled (lines_join (parts_from 0 text)) ∙ parts_spell 0 text)),
  λ p. is_found text (p.0) (p.1) (p.2) (p.3),
)
