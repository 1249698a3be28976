-- The search for parts that aren't plain, and the lines of a text: what the test of plain texts goes by.
use Rattle.std.proofs.Common.{◌≡◌, ℕ, zero, suc, ◌-◌, Bool, true, false, ◌==◌, ◌&&◌, if◌then◌else◌, List, [], ◌∷◌, ◌++◌, bytes_eq, codes, length, get_or, map, take, drop, arith, refl, ap, sym, subst, ◌∙◌, Option, Some, None, true≢false}
use Rattle.std.proofs.lemmas.List.Splits.{slice_split-cons_yes, slice_split-cons_no}
use Rattle.std.proofs.lemmas.Option.{unwrap_or-slice_get}
use Rattle.std.specs.Bool.{⊤, Decides}
use Rattle.std.specs.Char.{is_ascii_punctuation}
use Rattle.std.specs.List.{AllByRecursion, list_all, onto_first, slice_get, slice_split}
use Rattle.std.specs.Option.{unwrap_or}
use Rattle.tocmark_read_scan.specs.Basic.{byte_at}
use Rattle.tocmark_read_scan.specs.PlainParts.{Part, Bare, Escaped, Referred, Feed, spelled, spelled_part, is_plain_part, last_byte, are_plain_parts}
use Rattle.tocmark_read_scan.proofs.PlainTests.{not_char}
use Rattle.tocmark_reader.specs.PlainTexts.{part_at, bytes_behind, parts_from, plain_front, first_line, further_lines, has_plain_bytes, is_plain_line, is_plain, IsPlain}
use Rattle.tocmark_reader.proofs.PlainDecided.{parts_spell, lines_join, plain_decided}

-- bytes of a part that are passed over are left out
parts_behind : (k : ℕ) (bs : List ℕ) → parts_from k bs ≡ parts_from 0 (drop k bs)
parts_behind zero bs = refl
parts_behind (suc k) [] = refl
parts_behind (suc k) (b ∷ bs) = parts_behind k bs

-- whether the parts of a text are plain, by the first of them
abbrev by_front : ℕ → Part → List ℕ → Bool
by_front before a bs = is_plain_part before a (byte_at (drop (bytes_behind a) bs) 0) && are_plain_parts (last_byte before (spelled_part a)) (parts_from 0 (drop (bytes_behind a) bs))

front_taken : (before b : ℕ) (bs : List ℕ) → are_plain_parts before (parts_from 0 (b ∷ bs)) ≡ by_front before (part_at b bs) bs
front_taken before b bs =
    let a : Part = part_at b bs in
    let last : ℕ = last_byte before (spelled_part a) in
    let behind : List ℕ = drop (bytes_behind a) bs in
    ap (λ (ps : List Part). is_plain_part before a (byte_at (spelled ps) 0) && are_plain_parts last ps) (parts_behind (bytes_behind a) bs)
    ∙ ap (λ (xs : List ℕ). is_plain_part before a (byte_at xs 0) && are_plain_parts last (parts_from 0 behind)) (parts_spell 0 behind)

abbrev passing : ℕ → ℕ → Option (ℕ × ℕ)
passing last k = Some (last, k)

if_passing : (t : Bool) (x y last k : ℕ) (rest : ℕ → ℕ → Bool) → (if t then passing x y else None) ≡ passing last k → (t && rest x y) ≡ rest last k
if_passing true x y last k rest h = ap (λ (o : Option (ℕ × ℕ)). rest ((unwrap_or o (0, 0)).0) ((unwrap_or o (0, 0)).1)) h
if_passing false x y last k rest h = cc

if_refused : (t more : Bool) (x y : ℕ) → (if t then passing x y else None) ≡ None → (t && more) ≡ false
if_refused true more x y h = cc
if_refused false more x y h = refl

-- a plain part is passed
pub front_passed : (before b : ℕ) (bs : List ℕ) (last k : ℕ) → plain_front before b bs ≡ Some (last, k) → are_plain_parts before (parts_from 0 (b ∷ bs)) ≡ are_plain_parts last (parts_from 0 (drop k bs))
front_passed before b bs last k h =
    let a : Part = part_at b bs in
    front_taken before b bs
    ∙ if_passing (is_plain_part before a (byte_at (drop (bytes_behind a) bs) 0)) (last_byte before (spelled_part a)) (bytes_behind a) last k (λ x n. are_plain_parts x (parts_from 0 (drop n bs))) h

-- any other part is found
pub front_refused : (before b : ℕ) (bs : List ℕ) → plain_front before b bs ≡ None → are_plain_parts before (parts_from 0 (b ∷ bs)) ≡ false
front_refused before b bs h =
    let a : Part = part_at b bs in
    front_taken before b bs
    ∙ if_refused (is_plain_part before a (byte_at (drop (bytes_behind a) bs) 0)) (are_plain_parts (last_byte before (spelled_part a)) (parts_from 0 (drop (bytes_behind a) bs))) (last_byte before (spelled_part a)) (bytes_behind a) h

abbrev pub is_feed : ℕ → Bool
is_feed b = b == 10

-- a byte that ends no line
abbrev IsInLine : ℕ → Type 0
IsInLine b = (b == 10) ≡ false

-- bytes in front of the first line
line_grows : (xs text l : List ℕ) (ls : List (List ℕ)) → AllByRecursion IsInLine xs → slice_split is_feed text ≡ l ∷ ls → slice_split is_feed (xs ++ text) ≡ (xs ++ l) ∷ ls
line_grows [] text l ls h e = e
line_grows (x ∷ xs) text l ls h e = slice_split-cons_no is_feed x (xs ++ text) (h.0) ∙ ap (onto_first x) (line_grows xs text l ls (h.1) e)

-- a line feed, or a part within a line
abbrev IsInLines : Part → Type 0
IsInLines (Bare b) = AllByRecursion IsInLine (b ∷ [])
IsInLines (Escaped b) = AllByRecursion IsInLine (92 ∷ b ∷ [])
IsInLines (Referred c bs) = AllByRecursion IsInLine (38 ∷ bs)
IsInLines Feed = ⊤

-- each part that is found is one
part_in_lines : (b : ℕ) (bs : List ℕ) → IsInLines (part_at b bs)
part_in_lines b bs = by_tests (b == 92) (is_ascii_punctuation (byte_at bs 0)) (b == 38) (bytes_eq (take 4 bs) (codes "amp;")) (bytes_eq (take 4 bs) (codes "#32;")) (b == 10) refl refl
  where
    by_tests : (i p j m n k : Bool) → is_ascii_punctuation (byte_at bs 0) ≡ p → (b == 10) ≡ k → IsInLines (if i && p then Escaped (byte_at bs 0) else (if j && m then Referred 38 (codes "amp;") else (if j && n then Referred 32 (codes "#32;") else (if k then Feed else Bare b))))
    by_tests true true j m n k ep ek = (refl, (not_char (byte_at bs 0) 10 (λ e. true≢false (sym ep ∙ ap is_ascii_punctuation e)), tt))
    by_tests true false true true n k ep ek = (refl, (refl, (refl, (refl, (refl, tt)))))
    by_tests true false true false true k ep ek = (refl, (refl, (refl, (refl, (refl, tt)))))
    by_tests true false true false false true ep ek = tt
    by_tests true false true false false false ep ek = (ek, tt)
    by_tests true false false m n true ep ek = tt
    by_tests true false false m n false ep ek = (ek, tt)
    by_tests false p true true n k ep ek = (refl, (refl, (refl, (refl, (refl, tt)))))
    by_tests false p true false true k ep ek = (refl, (refl, (refl, (refl, (refl, tt)))))
    by_tests false p true false false true ep ek = tt
    by_tests false p true false false false ep ek = (ek, tt)
    by_tests false p false m n true ep ek = tt
    by_tests false p false m n false ep ek = (ek, tt)

-- the lines of parts, in bytes
abbrev lines_of : List Part → List (List ℕ)
lines_of parts = map spelled (first_line parts ∷ further_lines parts)

-- one part more
part_more : (a : Part) (parts : List Part) → IsInLines a → slice_split is_feed (spelled parts) ≡ lines_of parts → slice_split is_feed (spelled (a ∷ parts)) ≡ lines_of (a ∷ parts)
part_more (Bare b) parts h e = line_grows (b ∷ []) (spelled parts) (spelled (first_line parts)) (map spelled (further_lines parts)) h e
part_more (Escaped b) parts h e = line_grows (92 ∷ b ∷ []) (spelled parts) (spelled (first_line parts)) (map spelled (further_lines parts)) h e
part_more (Referred c bs) parts h e = line_grows (38 ∷ bs) (spelled parts) (spelled (first_line parts)) (map spelled (further_lines parts)) h e
part_more Feed parts h e = slice_split-cons_yes is_feed 10 (spelled parts) refl ∙ ap (λ (ls : List (List ℕ)). [] ∷ ls) e

-- the lines of a text are those of its parts
parts_split : (k : ℕ) (bs : List ℕ) → slice_split is_feed (spelled (parts_from k bs)) ≡ lines_of (parts_from k bs)
parts_split zero [] = refl
parts_split (suc k) [] = refl
parts_split zero (b ∷ bs) = part_more (part_at b bs) (parts_from (bytes_behind (part_at b bs)) bs) (part_in_lines b bs) (parts_split (bytes_behind (part_at b bs)) bs)
parts_split (suc k) (b ∷ bs) = parts_split k bs

lines_tested : (ls : List (List Part)) → list_all is_plain_line ls ≡ list_all has_plain_bytes (map spelled ls)
lines_tested [] = refl
lines_tested (l ∷ ls) = ap (λ (k : Bool). is_plain_line l && k) (lines_tested ls)

-- a text is plain where its parts are and where its lines are
pub plain_by_lines : (text : List ℕ) → (are_plain_parts 10 (parts_from 0 text) && list_all has_plain_bytes (slice_split is_feed text)) ≡ is_plain text
plain_by_lines text =
    let parts : List Part = parts_from 0 text in
    let lines : slice_split is_feed text ≡ lines_of parts = ap (slice_split is_feed) (sym (parts_spell 0 text)) ∙ parts_split 0 text in
    ap (λ (ls : List (List ℕ)). are_plain_parts 10 parts && list_all has_plain_bytes ls) lines
    ∙ ap (λ (k : Bool). are_plain_parts 10 parts && k) (sym (lines_tested (first_line parts ∷ further_lines parts)))
    ∙ ap (λ (ps : List Part). are_plain_parts 10 ps && list_all is_plain_line (first_line parts ∷ further_lines parts)) (sym (lines_join parts))

-- the last byte of a line
last_got : (before : ℕ) (bs : List ℕ) → get_or bs (length bs - 1) before ≡ last_byte before bs
last_got before [] = refl
last_got before (b ∷ []) = refl
last_got before (b ∷ c ∷ cs) = let e : length (b ∷ c ∷ cs) - 1 ≡ suc (length (c ∷ cs) - 1) = omega arith in rw e (last_got before (c ∷ cs))

pub last_found : (before : ℕ) (bs : List ℕ) → unwrap_or (slice_get bs (length bs - 1)) before ≡ last_byte before bs
last_found before bs = unwrap_or-slice_get bs (length bs - 1) before ∙ last_got before bs

by_parts : (text : List ℕ) (k : Bool) → are_plain_parts 10 (parts_from 0 text) ≡ k → (k && list_all has_plain_bytes (slice_split is_feed text)) ≡ is_plain text
by_parts text k h = ap (λ (x : Bool). x && list_all has_plain_bytes (slice_split is_feed text)) (sym h) ∙ plain_by_lines text

-- the answer of the two tests, one after the other
pub tested_both : (bytes text : List ℕ) (p l : Bool) → bytes ≡ text → p ≡ are_plain_parts 10 (parts_from 0 bytes) → p ≡ true → l ≡ list_all has_plain_bytes (slice_split is_feed bytes) → l ≡ is_plain text
tested_both bytes text p l same parts holds lines = lines ∙ by_parts bytes true (sym parts ∙ holds) ∙ ap is_plain same

pub tested_one : (bytes text : List ℕ) (p : Bool) → bytes ≡ text → p ≡ are_plain_parts 10 (parts_from 0 bytes) → p ≡ false → p ≡ is_plain text
tested_one bytes text p same parts fails = fails ∙ by_parts bytes false (sym parts ∙ fails) ∙ ap is_plain same

pub plain_told : (text : List ℕ) (r : Bool) → r ≡ is_plain text → Decides r (IsPlain text)
plain_told text r h = subst (λ (k : Bool). Decides k (IsPlain text)) (sym h) (plain_decided text)
