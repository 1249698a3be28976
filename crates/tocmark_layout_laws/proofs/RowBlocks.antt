-- What is declared of the lines of paragraphs, headings and fenced code that are spelled by parts.
use Rattle.std.proofs.Common.{◌≡◌, inl, inr, ℕ, zero, suc, ◌^◌, ◌<◌, ◌≤◌, false, ◌==◌, List, [], ◌∷◌, ◌++◌, length, map, replicate, refl, ap, sym, ◌∙◌, arith}
use Rattle.std.specs.List.{AllByRecursion}
use Rattle.std.proofs.lemmas.Bool.Decides.{nat_tests}
use Rattle.tocmark_event.specs.declared.event.HeadingLevel.{HeadingLevel}
use Rattle.tocmark_read_lines.specs.declared.beginnings.Heading.{Heading as HeadingMark}
use Rattle.tocmark_read_scan.specs.Basic.{byte_at}
use Rattle.tocmark_read_scan.specs.PlainParts.{Part, Bare, Escaped, Referred, Feed, spelled, last_byte}
use Rattle.tocmark_read_scan.proofs.PlainPieces.{feed_joined}
use Rattle.tocmark_read_blocks.proofs.PlainFronts.{BeginsPlainly}
use Rattle.tocmark_read_blocks.proofs.PlainLines.{IsWithin}
use Rattle.tocmark_read_inlines.proofs.PlainNeighbours.{ArePlainParts}
use Rattle.tocmark_reader.specs.PlainTexts.{text_parts}
use Rattle.tocmark_reader.proofs.PlainReading.{IsPrintable, IsPlainLine, spelled_text}
use Rattle.tocmark_spelling.specs.Opening.{level_number}
use Rattle.tocmark_commonmark.specs.Beginnings.{FenceLine, HeadingLine, begins_with, beginning}
use Rattle.tocmark_commonmark.specs.Blocks.{first_block}
use Rattle.tocmark_commonmark.specs.Lines.{Line}
use Rattle.tocmark_commonmark.specs.Tree.{Found, taken}
use Rattle.tocmark_laws.specs.TextBlocks.{ParagraphKind, HeadingKind}
use Rattle.tocmark_laws.proofs.DocumentCode.{opener, closer, fence_of}
use Rattle.tocmark_laws.proofs.DocumentHeadings.{EndsHeading}
use Rattle.tocmark_laws.proofs.DocumentRows.{ArePrintable, AreCode, IsFilled, IsCode, closer_printable, opener_printable, printable_within, some_front}
use Rattle.tocmark_layout_laws.proofs.Starts.{line_at, lines_at, Stops}
use Rattle.tocmark_layout_laws.proofs.Texts.{IsBare, AreBare, LinesBare, Ends, ends_behind, AreShort, all_both, all_behind}
use Rattle.tocmark_layout_laws.proofs.Fronts.{IsText, EndsInk, text_line, begins_no_space}
use Rattle.tocmark_layout_laws.proofs.Paragraphs.{paragraph_found, paragraph_takes, hashes, heading_found, heading_begins, heading_takes}
use Rattle.tocmark_layout_laws.proofs.Codes.{ends_ink, opener_begins, code_found, code_takes}

-- bytes

bare_byte : (b : ℕ) → IsPrintable b → IsBare b
bare_byte b h = let low : 32 ≤ b = h.low in record { feed = grind (arith, low, nat_tests); return = grind (arith, low, nat_tests); zero_byte = grind (arith, low, nat_tests) }

printable_bare : (xs : List ℕ) → ArePrintable xs → AreBare xs
printable_bare [] h = tt
printable_bare (b ∷ bs) h = (bare_byte b (h.0), printable_bare bs (h.1))

code_bare : (xs : List ℕ) → AreCode xs → AreBare xs
code_bare [] h = tt
code_bare (b ∷ bs) h = (record { feed = (h.0).feed; return = ((h.0).clean).return; zero_byte = ((h.0).clean).some }, code_bare bs (h.1))

codes_bare : (ls : List (List ℕ)) → AllByRecursion AreCode ls → LinesBare ls
codes_bare [] h = tt
codes_bare (l ∷ ls) h = (code_bare l (h.0), codes_bare ls (h.1))

-- paragraphs

pub parts_bare : (ms : List (List Part)) → AllByRecursion IsPlainLine ms → LinesBare (map spelled ms)
parts_bare [] h = tt
parts_bare (m ∷ ms) h = (printable_bare (spelled m) (h.0).printable, parts_bare ms (h.1))

pub parts_end : (l : List Part) (ms : List (List Part)) → AllByRecursion IsPlainLine (l ∷ ms) → Ends (spelled l ∷ map spelled ms)
parts_end l [] h = some_front (spelled l) (h.0).begins
parts_end l (m ∷ ms) h = parts_end m ms (h.1)

pub parts_text : (ms : List (List Part)) → AllByRecursion IsPlainLine ms → AreShort (2 ^ 64) (map spelled ms) → AllByRecursion IsText (map spelled ms)
parts_text [] h s = tt
parts_text (m ∷ ms) h s = (text_line (spelled m) (h.0).begins (printable_within (spelled m) (h.0).printable) (s.0), parts_text ms (h.1) (s.1))

line_end : (x : List ℕ) → BeginsPlainly x → AllByRecursion IsWithin x → (last_byte 10 x == 32) ≡ false → EndsInk x
line_end [] h within last = absurd h
line_end (b ∷ bs) h within last = ends_ink b bs within last

parts_ink : (ms : List (List Part)) → AllByRecursion IsPlainLine ms → AllByRecursion EndsInk (map spelled ms)
parts_ink [] h = tt
parts_ink (m ∷ ms) h = (line_end (spelled m) (h.0).begins (printable_within (spelled m) (h.0).printable) (h.0).last, parts_ink ms (h.1))

-- an opening bracket is escaped
no_bracket : (before : ℕ) (parts : List Part) → ArePlainParts before parts → (byte_at (spelled parts) 0 == 91) ≡ false
no_bracket before [] h = refl
no_bracket before (Bare b ∷ parts) (inl h, more) = h.bracket
no_bracket before (Bare b ∷ parts) (inr (inl h), more) = let e : b ≡ 33 = h.0 in rw e refl
no_bracket before (Bare b ∷ parts) (inr (inr (inl h)), more) = let e : b ≡ 92 = h.0 in rw e refl
no_bracket before (Bare b ∷ parts) (inr (inr (inr h)), more) = let e : b ≡ 95 = h.0 in rw e refl
no_bracket before (Escaped b ∷ parts) h = refl
no_bracket before (Referred c bs ∷ parts) h = refl
no_bracket before (Feed ∷ parts) h = refl

first_byte : (x rest : List ℕ) → 0 < length x → begins_with 91 x ≡ (byte_at (x ++ rest) 0 == 91)
first_byte [] rest h = absurd (omega (arith, h))
first_byte (b ∷ bs) rest h = refl

first_joined : (x : List ℕ) (ys : List (List ℕ)) → 0 < length x → begins_with 91 x ≡ (byte_at (feed_joined x ys) 0 == 91)
first_joined [] ys h = absurd (omega (arith, h))
first_joined (b ∷ bs) [] h = refl
first_joined (b ∷ bs) (y ∷ ys) h = first_byte (b ∷ bs) (10 ∷ feed_joined y ys) h

unbracketed : (l : List Part) (ms : List (List Part)) → IsFilled ParagraphKind l ms → begins_with 91 (spelled l) ≡ false
unbracketed l ms h =
    first_joined (spelled l) (map spelled ms) (some_front (spelled l) (h.lines.0).begins)
    ∙ ap (λ (xs : List ℕ). byte_at xs 0 == 91) (sym (spelled_text l ms))
    ∙ no_bracket 10 (text_parts l ms) h.plain

pub paragraph_row : (l : List Part) (ms : List (List Part)) → IsFilled ParagraphKind l ms → AreShort (2 ^ 64) (spelled l ∷ map spelled ms) → (bs : List Line → List Found) (at j k : ℕ) (rest : List Line) → Stops rest
    → first_block bs at (line_at j (spelled l)) (lines_at k (map spelled ms) ++ rest) (beginning (line_at j (spelled l))) ≡ taken (paragraph_found (spelled l) (map spelled ms) at) (suc (length (lines_at k (map spelled ms))))
paragraph_row l ms h small bs at j k rest s =
    paragraph_takes (spelled l) (map spelled ms) (parts_text (l ∷ ms) h.lines small) (some_front (spelled l) (h.lines.0).begins) (unbracketed l ms h) (parts_ink (l ∷ ms) h.lines) bs at j k rest s

-- headings

repeated_all : (P : ℕ → Type 0) (n b : ℕ) → P b → AllByRecursion P (replicate n b)
repeated_all P zero b h = tt
repeated_all P (suc n) b h = (h, repeated_all P n b h)

hashes_all : (P : ℕ → Type 0) (l : HeadingLevel) (x : List ℕ) → P 35 → P 32 → AllByRecursion P x → AllByRecursion P (hashes l ++ x)
hashes_all P l x h s all = all_both P (hashes l) x (all_both P (replicate (level_number l) 35) (32 ∷ []) (repeated_all P (level_number l) 35 h) (s, tt)) all

pub heading_bare : (n : HeadingLevel) (l : List Part) → IsFilled (HeadingKind n) l [] → AreBare (hashes n ++ spelled l)
heading_bare n l h =
    hashes_all IsBare n (spelled l) (record { feed = refl; return = refl; zero_byte = refl }) (record { feed = refl; return = refl; zero_byte = refl }) (printable_bare (spelled l) (h.lines.0).printable)

heading_of : (n : HeadingLevel) (x : List ℕ) → BeginsPlainly x → AllByRecursion IsWithin (hashes n ++ x) → AllByRecursion IsWithin x → EndsHeading x → length (hashes n ++ x) < 2 ^ 64 → (bs : List Line → List Found) (at k : ℕ) (rest : List Line)
    → first_block bs at (line_at k (hashes n ++ x)) rest (beginning (line_at k (hashes n ++ x))) ≡ taken (heading_found n x at) 1
heading_of n [] h within inner ends fits bs at k rest = absurd h
heading_of n (b ∷ ys) h within inner ends fits bs at k rest = heading_takes n b ys within (begins_no_space b ys h) ends fits bs at k rest

pub heading_within : (n : HeadingLevel) (l : List Part) → IsFilled (HeadingKind n) l [] → AllByRecursion IsWithin (hashes n ++ spelled l)
heading_within n l h =
    hashes_all IsWithin n (spelled l) (record { feed = refl; return = refl; tab = refl }) (record { feed = refl; return = refl; tab = refl }) (printable_within (spelled l) (h.lines.0).printable)

pub heading_row : (n : HeadingLevel) (l : List Part) → IsFilled (HeadingKind n) l [] → length (hashes n ++ spelled l) < 2 ^ 64 → (bs : List Line → List Found) (at k : ℕ) (rest : List Line)
    → first_block bs at (line_at k (hashes n ++ spelled l)) rest (beginning (line_at k (hashes n ++ spelled l))) ≡ taken (heading_found n (spelled l) at) 1
heading_row n l h fits bs at k rest =
    let inner : AllByRecursion IsWithin (spelled l) = printable_within (spelled l) (h.lines.0).printable in
    heading_of n (spelled l) (h.lines.0).begins
    (hashes_all IsWithin n (spelled l) (record { feed = refl; return = refl; tab = refl }) (record { feed = refl; return = refl; tab = refl }) inner)
    inner h.ends fits bs at k rest

-- what a line of a heading begins
pub heading_row_begins : (n : HeadingLevel) (l : List Part) → IsFilled (HeadingKind n) l [] → length (hashes n ++ spelled l) < 2 ^ 64 → (k : ℕ) → (h : HeadingMark) × (beginning (line_at k (hashes n ++ spelled l)) ≡ HeadingLine h)
heading_row_begins n l h fits k = by (spelled l) (h.lines.0).begins (heading_within n l h) (printable_within (spelled l) (h.lines.0).printable) h.ends fits
  where
    by : (x : List ℕ) → BeginsPlainly x → AllByRecursion IsWithin (hashes n ++ x) → AllByRecursion IsWithin x → EndsHeading x → length (hashes n ++ x) < 2 ^ 64 → (h : HeadingMark) × (beginning (line_at k (hashes n ++ x)) ≡ HeadingLine h)
    by [] plain within inner ends fits = absurd plain
    by (b ∷ ys) plain within inner ends fits = (_, heading_begins n b ys within (begins_no_space b ys plain) ends fits k)

-- fenced code

pub code_row_bare : (token m : ℕ) (info : List ℕ) (ls : List (List ℕ)) → IsCode token m info ls → LinesBare (opener token m info ∷ (ls ++ closer token m ∷ []))
code_row_bare token m info ls h =
    (printable_bare (opener token m info) (opener_printable token m info ls h), all_both AreBare ls (closer token m ∷ []) (codes_bare ls h.lines) (printable_bare (closer token m) (closer_printable token m h.token_is), tt))

pub code_row_ends : (token m : ℕ) (info : List ℕ) (ls : List (List ℕ)) → Ends (opener token m info ∷ (ls ++ closer token m ∷ []))
code_row_ends token m info ls = ends_behind (opener token m info ∷ ls) (closer token m ∷ []) (omega arith)

pub code_row : (token m : ℕ) (info : List ℕ) (ls : List (List ℕ)) → IsCode token m info ls → AreShort (2 ^ 64) (opener token m info ∷ (ls ++ closer token m ∷ []))
    → (bs : List Line → List Found) (at j k : ℕ) (rest : List Line)
    → first_block bs at (line_at j (opener token m info)) (lines_at k (ls ++ closer token m ∷ []) ++ rest) (beginning (line_at j (opener token m info)))
    ≡ taken (code_found info ls at) (suc (length (lines_at k (ls ++ closer token m ∷ []))))
code_row token m info ls h small bs at j k rest =
    code_takes token m info ls h.token_is h.least h.info_is h.flush
    (printable_within (opener token m info) (opener_printable token m info ls h)) (printable_within info h.info_printable) (printable_within (closer token m) (closer_printable token m h.token_is))
    h.short (small.0) ((all_behind (λ (l : List ℕ). length l < 2 ^ 64) ls (closer token m ∷ []) (small.1)).0) bs at j k rest

-- what the first line of code begins
pub code_row_begins : (token m : ℕ) (info : List ℕ) (ls : List (List ℕ)) → IsCode token m info ls → length (opener token m info) < 2 ^ 64 → (k : ℕ) → beginning (line_at k (opener token m info)) ≡ FenceLine (fence_of token m)
code_row_begins token m info ls h fits k = opener_begins token m k info (printable_within (opener token m info) (opener_printable token m info ls h)) h.token_is h.least h.info_is h.flush fits
