-- The blocks of a text of rows: paragraphs, headings of one line, thematic breaks, fenced code, and blank lines.
use Rattle.std.proofs.Common.{◌≡◌, ℕ, zero, suc, ◌+◌, ◌-◌, ◌^◌, ◌<◌, ◌≤◌, Bool, true, false, ◌==◌, ◌&&◌, if◌then◌else◌, nat_lt, List, [], ◌∷◌, ◌++◌, length, map, replicate, refl, ap, sym, subst, ◌∙◌, arith, append_assoc, append-nil, length-append, None, inl, inr, true≢false}
use Rattle.std.proofs.lemmas.Bool.Decides.{nat_tests}
use Rattle.std.specs.Char.{is_ascii_digit}
use Rattle.std.specs.List.{AllByRecursion, fold}
use Rattle.tocmark_event.specs.declared.event.HeadingLevel.{HeadingLevel}
use Rattle.tocmark_event.specs.declared.event.HeadingLevel.TheVariants as level
use Rattle.tocmark_read_scan.specs.Basic.{plus, byte_at, bytes_between}
use Rattle.tocmark_read_scan.specs.PlainParts.{Part, Bare, Escaped, Referred, Feed, spelled}
use Rattle.tocmark_read_scan.proofs.PlainPieces.{feed_joined, piece_between}
use Rattle.tocmark_read_scan.proofs.PlainTests.{not_char}
use Rattle.tocmark_read_lines.specs.Lines.{ends_here, line_stop, line, lines_from, lines_of}
use Rattle.tocmark_read_lines.specs.Cells.{cells_of, cell_place}
use Rattle.tocmark_read_lines.specs.declared.line.Line.{Line}
use Rattle.tocmark_read_page.specs.Pieces.{piece_of}
use Rattle.tocmark_read_constructs.specs.Metadata.{known_of}
use Rattle.tocmark_read_page.specs.declared.piece.Piece.{Piece}
use Rattle.tocmark_read_page.specs.Pages.{State, first_page, closed_to}
use Rattle.tocmark_read_page.specs.declared.page.Block.{Block}
use Rattle.tocmark_read_page.specs.declared.page.BlockKind.{BlockKind}
use Rattle.tocmark_read_page.specs.declared.page.BlockKind.TheVariants as kind
use Rattle.tocmark_read_blocks.specs.Blocks.{BlocksView, line_taken, page_in, blocks_in, blocks_of}
use Rattle.tocmark_read_blocks.proofs.PlainFronts.{BeginsPlainly, plainly_begins_nothing}
use Rattle.tocmark_read_blocks.proofs.PlainLines.{IsWithin, cells_within, numbered}
use Rattle.tocmark_read_blocks.proofs.PlainSteps.{IsPlainLine as IsPlainBlockLine, BeginsNothing}
use Rattle.tocmark_read_blocks.proofs.PlainTexts.{line_list, AreNoReturns}
use Rattle.tocmark_read_inlines.proofs.PlainNeighbours.{ArePlainParts}
use Rattle.tocmark_reader.specs.PlainTexts.{text_parts}
use Rattle.tocmark_reader.proofs.PlainReading.{IsPrintable, IsPlainLine, clean_lines, spelled_text}
use Rattle.tocmark_reader.proofs.PlainSources.{IsClean, AreClean, all_implied}
use Rattle.tocmark_laws.specs.TextBlocks.{Kind, ParagraphKind, HeadingKind, mark_of}
use Rattle.tocmark_laws.proofs.DocumentBlocks.{block, closed, line_begins, nothing_ends, blank_passes, line_heads, hyphens, line_rules}
use Rattle.tocmark_laws.proofs.DocumentCode.{IsToken, IsInfo, IsFlush, IsShort, opener, closer, fence_of, code_kind, coding, line_opens, line_coded, line_closes}
use Rattle.tocmark_laws.proofs.DocumentParagraphs.{open_lines, line_pieces, lines_behind, count_behind, last_number, ArePlainAt, joined_length, lines_go_on, lines_end, blank_ends, first_of, behind_line, line_length}
use Rattle.tocmark_laws.proofs.DocumentHeadings.{EndsHeading, heading_line}

-- a blank line, a thematic break, code between fences of so many tokens and one more, or a paragraph or heading whose lines
-- are spelled by parts
pub data Row : Type 0 where
  Blank : Row
  Break : Row
  Code : ℕ → ℕ → List ℕ → List (List ℕ) → Row
  Filled : Kind → List Part → List (List Part) → Row

abbrev pub row_bytes : Row → List ℕ
row_bytes Blank = []
row_bytes Break = hyphens
row_bytes (Code token m info ls) = feed_joined (opener token m info) (ls ++ closer token m ∷ [])
row_bytes (Filled k l ms) = mark_of k ++ spelled (text_parts l ms)

-- a text that is rows
abbrev pub rows_text : Row → List Row → List ℕ
rows_text r rs = feed_joined (row_bytes r) (map row_bytes rs)

-- a heading has one line
abbrev pub EndsIf : Kind → List Part → List (List Part) → Type 0
EndsIf ParagraphKind l ms = Unit {0}
EndsIf (HeadingKind level) l [] = EndsHeading (spelled l)
EndsIf (HeadingKind level) l (m ∷ ms) = ⊥

pub record IsFilled (k : Kind) (l : List Part) (ms : List (List Part)) : Type 0 where
  pub lines : AllByRecursion IsPlainLine (l ∷ ms)
  pub plain : ArePlainParts 10 (text_parts l ms)
  pub ends : EndsIf k l ms

abbrev pub ArePrintable : List ℕ → Type 0
ArePrintable xs = AllByRecursion IsPrintable xs

-- a byte of ASCII that ends no line and isn't U+0000
pub record IsCodeByte (b : ℕ) : Type 0 where
  pub clean : IsClean b
  pub feed : (b == 10) ≡ false

abbrev pub AreCode : List ℕ → Type 0
AreCode xs = AllByRecursion IsCodeByte xs

pub record IsCode (token m : ℕ) (info : List ℕ) (ls : List (List ℕ)) : Type 0 where
  pub token_is : IsToken token
  pub least : 2 ≤ m
  pub info_is : AllByRecursion (IsInfo token) info
  pub flush : IsFlush info
  pub info_printable : ArePrintable info
  pub lines : AllByRecursion AreCode ls
  pub short : AllByRecursion (IsShort token m) ls

-- after each paragraph is a blank line, and the last row is none
abbrev pub AreRows : List Row → Type 0
AreRows [] = Unit {0}
AreRows (Blank ∷ []) = ⊥
AreRows (Blank ∷ r ∷ rs) = AreRows (r ∷ rs)
AreRows (Break ∷ rs) = AreRows rs
AreRows (Code token m info ls ∷ rs) = IsCode token m info ls × AreRows rs
AreRows (Filled ParagraphKind l ms ∷ []) = IsFilled ParagraphKind l ms
AreRows (Filled ParagraphKind l ms ∷ Blank ∷ rs) = IsFilled ParagraphKind l ms × AreRows (Blank ∷ rs)
AreRows (Filled ParagraphKind l ms ∷ Break ∷ rs) = ⊥
AreRows (Filled ParagraphKind l ms ∷ Code token m info ls ∷ rs) = ⊥
AreRows (Filled ParagraphKind l ms ∷ Filled k m ns ∷ rs) = ⊥
AreRows (Filled (HeadingKind level) l ms ∷ rs) = IsFilled (HeadingKind level) l ms × AreRows rs

abbrev pub IsRow : Row → Type 0
IsRow Blank = Unit {0}
IsRow Break = Unit {0}
IsRow (Code token m info ls) = IsCode token m info ls
IsRow (Filled k l ms) = IsFilled k l ms

pub all_rows : (rs : List Row) → AreRows rs → AllByRecursion IsRow rs
all_rows [] h = tt
all_rows (Blank ∷ []) h = absurd h
all_rows (Blank ∷ r ∷ rs) h = (tt, all_rows (r ∷ rs) h)
all_rows (Break ∷ rs) h = (tt, all_rows rs h)
all_rows (Code token m info ls ∷ rs) h = (h.0, all_rows rs (h.1))
all_rows (Filled ParagraphKind l ms ∷ []) h = (h, tt)
all_rows (Filled ParagraphKind l ms ∷ Blank ∷ rs) h = (h.0, all_rows (Blank ∷ rs) (h.1))
all_rows (Filled ParagraphKind l ms ∷ Break ∷ rs) h = absurd h
all_rows (Filled ParagraphKind l ms ∷ Code token m info ls ∷ rs) h = absurd h
all_rows (Filled ParagraphKind l ms ∷ Filled k m ns ∷ rs) h = absurd h
all_rows (Filled (HeadingKind level) l ms ∷ rs) h = (h.0, all_rows rs (h.1))

abbrev pub block_kind : Kind → BlockKind
block_kind ParagraphKind = kind.Paragraph
block_kind (HeadingKind l) = kind.Heading l None

abbrev pub content_start : Kind → ℕ → ℕ
content_start ParagraphKind start = start
content_start (HeadingKind l) start = start + length (mark_of (HeadingKind l))

abbrev pub row_end : ℕ → Kind → List Part → List (List Part) → ℕ
row_end start k l ms = start + length (mark_of k ++ spelled (text_parts l ms))

-- the lines of rows
abbrev row_first : Row → List ℕ
row_first Blank = []
row_first Break = hyphens
row_first (Code token m info ls) = opener token m info
row_first (Filled k l ms) = mark_of k ++ spelled l

abbrev row_more : Row → List (List ℕ)
row_more Blank = []
row_more Break = []
row_more (Code token m info ls) = ls ++ closer token m ∷ []
row_more (Filled k l ms) = map spelled ms

abbrev pub behind : List Row → List (List ℕ)
behind [] = []
behind (r ∷ rs) = row_first r ∷ (row_more r ++ behind rs)

abbrev pub filled_pieces : ℕ → Kind → List Part → List (List Part) → List Row → List Piece
filled_pieces start ParagraphKind l ms rs = line_pieces start (spelled l) (map spelled ms) (behind rs)
filled_pieces start (HeadingKind level) l ms rs = piece_of 0 (content_start (HeadingKind level) start) (row_end start (HeadingKind level) l ms) (row_end start (HeadingKind level) l ms) ∷ []

-- where code ends, and the pieces of its lines
abbrev pub code_end : ℕ → ℕ → ℕ → List ℕ → List (List ℕ) → ℕ
code_end start token m info ls = start + length (row_bytes (Code token m info ls))

abbrev pub code_body : ℕ → ℕ → ℕ → List ℕ → ℕ
code_body start token m info = start + length (opener token m info) + 1

abbrev pub code_pieces : ℕ → List (List ℕ) → List Piece
code_pieces at [] = []
code_pieces at (l ∷ ls) = piece_of 0 at (at + length l) (at + length l + 1) ∷ code_pieces (at + length l + 1) ls

-- the blocks of rows, after so many pieces
abbrev pub row_blocks : ℕ → ℕ → List Row → List Block
row_blocks n start [] = []
row_blocks n start (Blank ∷ rs) = row_blocks n (start + 0 + 1) rs
row_blocks n start (Code token m info ls ∷ rs) = block (code_kind start token m info) start (code_end start token m info ls) n (n + length ls) ∷ row_blocks (n + length ls) (code_end start token m info ls + 1) rs
row_blocks n start (Break ∷ rs) = block kind.Rule start (start + 3) n n ∷ row_blocks n (start + 3 + 1) rs
row_blocks n start (Filled k l ms ∷ rs) = block (block_kind k) start (row_end start k l ms) n (n + suc (length ms)) ∷ row_blocks (n + suc (length ms)) (row_end start k l ms + 1) rs

abbrev pub row_pieces : ℕ → List Row → List Piece
row_pieces start [] = []
row_pieces start (Blank ∷ rs) = row_pieces (start + 0 + 1) rs
row_pieces start (Code token m info ls ∷ rs) = code_pieces (code_body start token m info) ls ++ row_pieces (code_end start token m info ls + 1) rs
row_pieces start (Break ∷ rs) = row_pieces (start + 3 + 1) rs
row_pieces start (Filled k l ms ∷ rs) = filled_pieces start k l ms rs ++ row_pieces (row_end start k l ms + 1) rs

-- lines

feed_ends : (text : List ℕ) (at : ℕ) → ends_here text 10 at ≡ true
unfolding ends_here
feed_ends text at = refl

no_return_at : (text : List ℕ) (k : ℕ) → AreNoReturns text → (byte_at text k == 13) ≡ false
no_return_at [] k h = refl
no_return_at (b ∷ bs) zero h = h.0
no_return_at (b ∷ bs) (suc k) h = no_return_at bs k (h.1)

feed_stop : (text : List ℕ) (start at : ℕ) → AreNoReturns text → line_stop text start 10 at ≡ at
unfolding line_stop
feed_stop text start at h = by_start (nat_lt start at)
  where
    by_start : (c : Bool) → (if c && (byte_at text (at - 1) == 13) then at - 1 else at) ≡ at
    by_start true = rw (no_return_at text (at - 1) h) refl
    by_start false = refl

-- the last of these lines isn't empty
abbrev pub EndsFull : List ℕ → List (List ℕ) → Type 0
EndsFull l [] = 0 < length l
EndsFull l (m ∷ ms) = EndsFull m ms

-- a byte that ends no line
pub record IsUnbroken (b : ℕ) : Type 0 where
  pub feed : (b == 10) ≡ false
  pub return : (b == 13) ≡ false

unbroken_ends_not : (text : List ℕ) (b at : ℕ) → IsUnbroken b → ends_here text b at ≡ false
unfolding ends_here
unbroken_ends_not text b at h = rw (h.feed, h.return) refl

-- such bytes lengthen the line that is open
line_within : (text : List ℕ) (before start at : ℕ) (xs rest : List ℕ) → AllByRecursion IsUnbroken xs → lines_from text before start at (xs ++ rest) ≡ lines_from text before start (at + length xs) rest
line_within text before start at [] rest h = ap (λ p. lines_from text before start p rest) (let q : at ≡ at + 0 = omega arith in q)
line_within text before start at (x ∷ xs) rest h =
    let same : at + 1 + length xs ≡ at + suc (length xs) = omega arith in
    rw (unbroken_ends_not text x at (h.0)) (line_within text before start (at + 1) xs rest (h.1) ∙ ap (λ p. lines_from text before start p rest) same)

pub lines_are : (text : List ℕ) → AreNoReturns text → (before start : ℕ) (l : List ℕ) (ms : List (List ℕ)) → AllByRecursion (λ x. AllByRecursion IsUnbroken x) (l ∷ ms) → EndsFull l ms → lines_from text before start start (feed_joined l ms) ≡ line_list before start l ms
lines_are text none before start l [] h full =
    let some : nat_lt start (start + length l) ≡ true = let long : 0 < length l = full in grind (arith, nat_tests) in
    ap (λ (xs : List ℕ). lines_from text before start start xs) (sym (append-nil l))
    ∙ line_within text before start start l [] (h.0)
    ∙ rw some refl
lines_are text none before start l (m ∷ ms) h full =
    let at : ℕ = start + length l in
    line_within text before start start l (10 ∷ feed_joined m ms) (h.0)
    ∙ rw (feed_ends text at, feed_stop text start at none) refl
    ∙ ap (λ ls. line before start at (at + 1) ∷ ls) (lines_are text none (before + 1) (at + 1) m ms (h.1) full)

-- bytes of rows

pub within_printable : (b : ℕ) → IsPrintable b → IsWithin b
within_printable b h = let low : 32 ≤ b = h.low in record { feed = grind (arith, nat_tests); return = grind (arith, nat_tests); tab = grind (arith, nat_tests) }

pub clean_printable : (b : ℕ) → IsPrintable b → IsClean b
clean_printable b h = let low : 32 ≤ b = h.low in let high : b < 127 = h.high in record { ascii = omega arith; some = grind (arith, nat_tests); return = grind (arith, nat_tests) }

pub all_append : (P : ℕ → Type 0) (xs ys : List ℕ) → AllByRecursion P xs → AllByRecursion P ys → AllByRecursion P (xs ++ ys)
all_append P [] ys h k = k
all_append P (x ∷ xs) ys h k = (h.0, all_append P xs ys (h.1) k)

hyphen : IsPrintable 45
hyphen = record { low = omega arith; high = omega arith }

pub hyphens_printable : AllByRecursion IsPrintable hyphens
hyphens_printable = (hyphen, (hyphen, (hyphen, tt)))

token_printable : (token : ℕ) → IsToken token → IsPrintable token
token_printable token (inl e) = record { low = omega (arith, e); high = omega (arith, e) }
token_printable token (inr e) = record { low = omega (arith, e); high = omega (arith, e) }

tokens_printable : (token n : ℕ) → IsPrintable token → ArePrintable (replicate n token)
tokens_printable token zero h = tt
tokens_printable token (suc n) h = (h, tokens_printable token n h)

pub closer_printable : (token m : ℕ) → IsToken token → ArePrintable (closer token m)
closer_printable token m is = tokens_printable token (suc m) (token_printable token is)

hash : IsPrintable 35
hash = record { low = omega arith; high = omega arith }

gap : AllByRecursion IsPrintable (32 ∷ [])
gap = (record { low = omega arith; high = omega arith }, tt)

mark_printable : (k : Kind) → AllByRecursion IsPrintable (mark_of k)
mark_printable ParagraphKind = tt
mark_printable (HeadingKind level.H1) = (hash, gap)
mark_printable (HeadingKind level.H2) = (hash, (hash, gap))
mark_printable (HeadingKind level.H3) = (hash, (hash, (hash, gap)))
mark_printable (HeadingKind level.H4) = (hash, (hash, (hash, (hash, gap))))
mark_printable (HeadingKind level.H5) = (hash, (hash, (hash, (hash, (hash, gap)))))
mark_printable (HeadingKind level.H6) = (hash, (hash, (hash, (hash, (hash, (hash, gap))))))

unbroken : (b : ℕ) → IsWithin b → IsUnbroken b
unbroken b h = record { feed = h.feed; return = h.return }

unbroken_printable : (b : ℕ) → IsPrintable b → IsUnbroken b
unbroken_printable b h = unbroken b (within_printable b h)

unbroken_code : (b : ℕ) → IsCodeByte b → IsUnbroken b
unbroken_code b h = record { feed = h.feed; return = (h.clean).return }

abbrev pub AllWithin : List (List ℕ) → Type 0
AllWithin xs = AllByRecursion (λ x. AllByRecursion IsUnbroken x) xs

within_append : (xs ys : List (List ℕ)) → AllWithin xs → AllWithin ys → AllWithin (xs ++ ys)
within_append [] ys h k = k
within_append (x ∷ xs) ys h k = (h.0, within_append xs ys (h.1) k)

lines_within : (ms : List (List Part)) → AllByRecursion IsPlainLine ms → AllWithin (map spelled ms)
lines_within [] h = tt
lines_within (m ∷ ms) h = (all_implied IsPrintable IsUnbroken (spelled m) unbroken_printable ((h.0).printable), lines_within ms (h.1))

first_within : (k : Kind) (l : List Part) (ms : List (List Part)) → IsFilled k l ms → AllByRecursion IsWithin (mark_of k ++ spelled l)
first_within k l ms h = all_implied IsPrintable IsWithin (mark_of k ++ spelled l) within_printable (all_append IsPrintable (mark_of k) (spelled l) (mark_printable k) ((h.lines.0).printable))

pub opener_printable : (token m : ℕ) (info : List ℕ) (ls : List (List ℕ)) → IsCode token m info ls → ArePrintable (opener token m info)
opener_printable token m info ls h = all_append IsPrintable (closer token m) info (closer_printable token m h.token_is) h.info_printable

pub printable_within : (xs : List ℕ) → ArePrintable xs → AllByRecursion IsWithin xs
printable_within xs h = all_implied IsPrintable IsWithin xs within_printable h

texts_within : (ls : List (List ℕ)) → AllByRecursion AreCode ls → AllWithin ls
texts_within [] h = tt
texts_within (l ∷ ls) h = (all_implied IsCodeByte IsUnbroken l unbroken_code (h.0), texts_within ls (h.1))

pub row_within : (r : Row) → IsRow r → AllWithin (row_first r ∷ row_more r)
row_within Blank h = (tt, tt)
row_within (Code token m info ls) h =
    within_append (opener token m info ∷ ls) (closer token m ∷ [])
    (all_implied IsPrintable IsUnbroken (opener token m info) unbroken_printable (opener_printable token m info ls h), texts_within ls h.lines)
    (all_implied IsPrintable IsUnbroken (closer token m) unbroken_printable (closer_printable token m h.token_is), tt)
row_within Break h = (all_implied IsPrintable IsUnbroken hyphens unbroken_printable hyphens_printable, tt)
row_within (Filled k l ms) h = (all_implied IsWithin IsUnbroken (mark_of k ++ spelled l) unbroken (first_within k l ms h), lines_within ms (h.lines.1))

rows_within : (rs : List Row) → AllByRecursion IsRow rs → AllWithin (behind rs)
rows_within [] h = tt
rows_within (r ∷ rs) h = within_append (row_first r ∷ row_more r) (behind rs) (row_within r (h.0)) (rows_within rs (h.1))

pub clean_feed : IsClean 10
clean_feed = record { ascii = omega arith; some = refl; return = refl }

joined_clean : (l : List ℕ) (ms : List (List ℕ)) → AllByRecursion AreClean (l ∷ ms) → AreClean (feed_joined l ms)
joined_clean l [] h = h.0
joined_clean l (m ∷ ms) h = all_append IsClean l (10 ∷ feed_joined m ms) (h.0) (clean_feed, joined_clean m ms (h.1))

texts_clean : (ls : List (List ℕ)) (c : List ℕ) → AllByRecursion AreCode ls → AreClean c → AllByRecursion AreClean (ls ++ c ∷ [])
texts_clean [] c h k = (k, tt)
texts_clean (l ∷ ls) c h k = (all_implied IsCodeByte IsClean l (λ b h. h.clean) (h.0), texts_clean ls c (h.1) k)

row_clean : (r : Row) → IsRow r → AreClean (row_bytes r)
row_clean Blank h = tt
row_clean (Code token m info ls) h =
    joined_clean (opener token m info) (ls ++ closer token m ∷ []) (
      all_implied IsPrintable IsClean (opener token m info) clean_printable (opener_printable token m info ls h),
      texts_clean ls (closer token m) h.lines (all_implied IsPrintable IsClean (closer token m) clean_printable (closer_printable token m h.token_is)),
    )
row_clean Break h = all_implied IsPrintable IsClean hyphens clean_printable hyphens_printable
row_clean (Filled k l ms) h =
    all_append IsClean (mark_of k) (spelled (text_parts l ms)) (all_implied IsPrintable IsClean (mark_of k) clean_printable (mark_printable k)) (subst AreClean (sym (spelled_text l ms)) (clean_lines l ms h.lines))

pub rows_clean : (r : Row) (rs : List Row) → AllByRecursion IsRow (r ∷ rs) → AreClean (rows_text r rs)
rows_clean r [] h = row_clean r (h.0)
rows_clean r (s ∷ rs) h = all_append IsClean (row_bytes r) (10 ∷ rows_text s rs) (row_clean r (h.0)) (clean_feed, rows_clean s rs (h.1))

pub some_front : (l : List ℕ) → BeginsPlainly l → 0 < length l
some_front [] h = absurd h
some_front (b ∷ bs) h = omega arith

full_append : (l m : List ℕ) (ms ns : List (List ℕ)) → EndsFull m ns → EndsFull l (ms ++ m ∷ ns)
full_append l m [] ns h = h
full_append l m (n ∷ ms) ns h = full_append n m ms ns h

lines_full : (mark : List ℕ) (l : List Part) (ms : List (List Part)) → AllByRecursion IsPlainLine (l ∷ ms) → EndsFull (mark ++ spelled l) (map spelled ms ++ [])
lines_full mark l [] h = let some : 0 < length (spelled l) = some_front (spelled l) ((h.0).begins) in let q : 0 < length (mark ++ spelled l) = omega (arith, some, length-append mark (spelled l)) in q
lines_full mark l (m ∷ ms) h = lines_full [] m ms (h.1)

pub rows_full : (r : Row) (rs : List Row) → AreRows (r ∷ rs) → EndsFull (row_first r) (row_more r ++ behind rs)
rows_full Blank [] h = absurd h
rows_full Blank (r ∷ rs) h = rows_full r rs h
rows_full (Code token m info ls) [] h =
    subst (EndsFull (opener token m info)) (sym (append-nil (ls ++ closer token m ∷ []))) (full_append (opener token m info) (closer token m) ls [] (let q : 0 < suc (length (replicate m token)) = omega arith in q))
rows_full (Code token m info ls) (r ∷ rs) h =
    full_append (opener token m info) (row_first r) (ls ++ closer token m ∷ []) (row_more r ++ behind rs) (rows_full r rs (h.1))
rows_full Break [] h = (let q : 0 < 3 = omega arith in q)
rows_full Break (r ∷ rs) h = full_append hyphens (row_first r) [] (row_more r ++ behind rs) (rows_full r rs h)
rows_full (Filled ParagraphKind l ms) [] h = lines_full [] l ms h.lines
rows_full (Filled ParagraphKind l ms) (Blank ∷ rs) h = full_append (spelled l) [] (map spelled ms) (behind rs) (rows_full Blank rs (h.1))
rows_full (Filled ParagraphKind l ms) (Break ∷ rs) h = absurd h
rows_full (Filled ParagraphKind l ms) (Code token m info ls ∷ rs) h = absurd h
rows_full (Filled ParagraphKind l ms) (Filled k m ns ∷ rs) h = absurd h
rows_full (Filled (HeadingKind level) l ms) [] h = lines_full (mark_of (HeadingKind level)) l ms ((h.0).lines)
rows_full (Filled (HeadingKind level) l ms) (r ∷ rs) h = full_append (mark_of (HeadingKind level) ++ spelled l) (row_first r) (map spelled ms) (row_more r ++ behind rs) (rows_full r rs (h.1))

-- rows as lines

joined_then : (l n : List ℕ) (ms ns : List (List ℕ)) → feed_joined l (ms ++ n ∷ ns) ≡ feed_joined l ms ++ 10 ∷ feed_joined n ns
joined_then l n [] ns = refl
joined_then l n (m ∷ ms) ns = ap (λ (xs : List ℕ). l ++ 10 ∷ xs) (joined_then m n ms ns) ∙ sym (append_assoc l (10 ∷ feed_joined m ms) (10 ∷ feed_joined n ns))

marked_joined : (mark l : List ℕ) (ms : List (List ℕ)) → mark ++ feed_joined l ms ≡ feed_joined (mark ++ l) ms
marked_joined mark l [] = refl
marked_joined mark l (m ∷ ms) = sym (append_assoc mark l (10 ∷ feed_joined m ms))

row_joined : (r : Row) → row_bytes r ≡ feed_joined (row_first r) (row_more r)
row_joined Blank = refl
row_joined Break = refl
row_joined (Code token m info ls) = refl
row_joined (Filled k l ms) = ap (λ (xs : List ℕ). mark_of k ++ xs) (spelled_text l ms) ∙ marked_joined (mark_of k) (spelled l) (map spelled ms)

flat_text : (r : Row) (rs : List Row) → rows_text r rs ≡ feed_joined (row_first r) (row_more r ++ behind rs)
flat_text r [] = row_joined r ∙ ap (feed_joined (row_first r)) (sym (append-nil (row_more r)))
flat_text r (s ∷ rs) =
    ap (λ (xs : List ℕ). xs ++ 10 ∷ rows_text s rs) (row_joined r)
    ∙ ap (λ (xs : List ℕ). feed_joined (row_first r) (row_more r) ++ 10 ∷ xs) (flat_text s rs)
    ∙ sym (joined_then (row_first r) (row_first s) (row_more r) (row_more s ++ behind rs))

-- fronts of rows

no_bracket : (before : ℕ) (parts : List Part) → ArePlainParts before parts → (byte_at (spelled parts) 0 == 91) ≡ false
no_bracket before [] h = refl
no_bracket before (Bare b ∷ parts) (inl h, more) = h.bracket
no_bracket before (Bare b ∷ parts) (inr (inl h), more) = let e : b ≡ 33 = h.0 in rw e refl
no_bracket before (Bare b ∷ parts) (inr (inr (inl h)), more) = let e : b ≡ 92 = h.0 in rw e refl
no_bracket before (Bare b ∷ parts) (inr (inr (inr h)), more) = let e : b ≡ 95 = h.0 in rw e refl
no_bracket before (Escaped b ∷ parts) h = refl
no_bracket before (Referred c bs ∷ parts) h = refl
no_bracket before (Feed ∷ parts) h = refl

front_at : (text pre l rest : List ℕ) (start : ℕ) → text ≡ pre ++ (l ++ rest) → start ≡ length pre → 0 < length l → byte_at text start ≡ byte_at l 0
front_at text pre l rest start e at some = ap (λ (xs : List ℕ). byte_at xs start) e ∙ ap (byte_at (pre ++ (l ++ rest))) at ∙ behind pre l rest some
  where
    behind : (pre l rest : List ℕ) → 0 < length l → byte_at (pre ++ (l ++ rest)) (length pre) ≡ byte_at l 0
    behind [] [] rest some = absurd (omega arith)
    behind [] (b ∷ bs) rest some = refl
    behind (p ∷ pre) l rest some = behind pre l rest some

digit_no_space : (b : ℕ) → is_ascii_digit b ≡ true → (b == 32) ≡ false
digit_no_space b h = not_char b 32 (λ e. true≢false (sym h ∙ ap is_ascii_digit e))

begins_no_space : (b : ℕ) (bs : List ℕ) → BeginsPlainly (b ∷ bs) → (b == 32) ≡ false
begins_no_space b bs (inl h) = h.space
begins_no_space b bs (inr (inl h)) = digit_no_space b (h.0)
begins_no_space b bs (inr (inr (inl e, k))) = rw e refl
begins_no_space b bs (inr (inr (inr (inl e), k))) = rw e refl
begins_no_space b bs (inr (inr (inr (inr e), k))) = rw e refl

-- one row

first_place_of : (l : List ℕ) (start end : ℕ) → 0 < length l → cell_place (numbered start l) 0 end ≡ start
first_place_of [] start end h = absurd (omega arith)
first_place_of (b ∷ bs) start end h = refl

paragraph_line : (text l : List ℕ) (start next number : ℕ) → bytes_between text start (start + length l) ≡ l → BeginsPlainly l → AllByRecursion IsWithin l → start + length l < 2 ^ 64 → start < next → IsPlainBlockLine text (numbered start l) (record { number = number; start = start; end = start + length l; next = next })
paragraph_line text l start next number e h within fits order =
    let some : 0 < length l = some_front l h in
    record {
      columns = ap (cells_of [] start) e ∙ cells_within start l within fits;
      place = first_place_of l start (start + length l) some;
      order = grind (arith, nat_tests);
      begins = subst (λ (xs : List ℕ). BeginsNothing xs (numbered start l)) (sym e) (plainly_begins_nothing start l (omega (arith, fits)) h);
    }

heading_taken : (text xs : List ℕ) (l : HeadingLevel) (start next number : ℕ) (bs : List Block) (ps : List Piece) (end0 number0 : ℕ) → let bytes = mark_of (HeadingKind l) ++ xs in let end = start + length bytes in let p = piece_of 0 (start + length (mark_of (HeadingKind l))) end end in
    bytes_between text start end ≡ bytes → AllByRecursion IsWithin bytes → BeginsPlainly xs → EndsHeading xs → end < 2 ^ 64 →
    line_taken text (closed bs ps end0 number0) (record { number = number; start = start; end = end; next = next }) ≡ closed (bs ++ block (kind.Heading l None) start end (length ps) (length (ps ++ p ∷ [])) ∷ []) (ps ++ p ∷ []) end number
heading_taken text [] l start next number bs ps end0 number0 e within h ends fits = absurd h
heading_taken text (x ∷ xs) l start next number bs ps end0 number0 e within h ends fits =
    line_heads text _ _ _ _ _ bs ps end0 number0 (heading_line text l x xs start next number e within (begins_no_space x xs h) ends fits)

-- a paragraph

abbrev IsPara : List ℕ → Type 0
IsPara x = BeginsPlainly x × AllByRecursion IsWithin x

are_para : (ms : List (List Part)) → AllByRecursion IsPlainLine ms → AllByRecursion IsPara (map spelled ms)
are_para [] h = tt
are_para (m ∷ ms) h = (((h.0).begins, all_implied IsPrintable IsWithin (spelled m) within_printable ((h.0).printable)), are_para ms (h.1))

pub inside : (text pre l rest : List ℕ) (start : ℕ) → text ≡ pre ++ (l ++ rest) → start ≡ length pre → length text < 2 ^ 64 → start + length l < 2 ^ 64
inside text pre l rest start e at fits =
    let all : length text ≡ length pre + (length l + length rest) = ap length e ∙ length-append pre (l ++ rest) ∙ ap (λ n. length pre + n) (length-append l rest) in
    omega (arith, all, at, fits)

plain_at : (text pre rest : List ℕ) (start : ℕ) (l : List ℕ) (ms : List (List ℕ)) → text ≡ pre ++ (feed_joined l ms ++ rest) → start ≡ length pre → length text < 2 ^ 64 → AllByRecursion IsPara (l ∷ ms) → ArePlainAt text start l ms
plain_at text pre rest start l [] e at fits h =
    (λ next number order. paragraph_line text l start next number (piece_between text pre l rest start (start + length l) e at (ap (λ n. n + length l) at)) (h.0.0) (h.0.1) (inside text pre l rest start e at fits) order, some_front l (h.0.0))
plain_at text pre rest start l (m ∷ ms) e at fits h =
    let more : List ℕ = feed_joined m ms ++ rest in
    let here : text ≡ pre ++ (l ++ 10 ∷ more) = first_of text pre l m ms rest e in
    (λ next number order. paragraph_line text l start next number (piece_between text pre l (10 ∷ more) start (start + length l) here at (ap (λ n. n + length l) at)) (h.0.0) (h.0.1) (inside text pre l (10 ∷ more) start here at fits) order, plain_at text (pre ++ (l ++ 10 ∷ [])) rest (start + length l + 1) m ms (behind_line text pre l more here) (line_length pre l start at) fits (h.1))

-- all lines of a paragraph, whatever is after them
paragraph_lines : (text : List ℕ) (before start : ℕ) (l : List ℕ) (ms tail : List (List ℕ)) (bs : List Block) (ps : List Piece) (end number : ℕ) → ArePlainAt text start l ms → fold (line_taken text) (closed bs ps end number) (line_list before start l (ms ++ tail)) ≡ fold (line_taken text) (open_lines bs ps (line_pieces start l ms tail) start (start + length (feed_joined l ms)) (last_number before ms)) (lines_behind (count_behind before ms) (start + length (feed_joined l ms) + 1) tail)
paragraph_lines text before start l [] [] bs ps end number h =
    line_begins text (numbered start l) (line before start (start + length l) (start + length l)) bs ps end number (h.0 (start + length l) (plus before 1) (let some : 0 < length l = h.1 in omega (arith, some)))
paragraph_lines text before start l [] (t ∷ ts) bs ps end number h =
    ap (λ s. fold (line_taken text) s (line_list (before + 1) (start + length l + 1) t ts))
    (line_begins text (numbered start l) (line before start (start + length l) (start + length l + 1)) bs ps end number (h.0 (start + length l + 1) (plus before 1) (omega arith)))
paragraph_lines text before start l (m ∷ ms) tail bs ps end number h =
    let next : ℕ = start + length l + 1 in
    let x : Piece = piece_of 0 start (start + length l) next in
    ap (λ s. fold (line_taken text) s (line_list (before + 1) next m (ms ++ tail)))
    (line_begins text (numbered start l) (line before start (start + length l) next) bs ps end number (h.0 next (plus before 1) (omega arith)))
    ∙ lines_go_on text (before + 1) next m ms tail bs ps [] x start (start + length l) (plus before 1) (h.1)
    ∙ ap (λ n. fold (line_taken text) (open_lines bs ps (x ∷ line_pieces next m ms tail) start n (last_number (before + 1) ms)) (lines_behind (count_behind (before + 1) ms) (n + 1) tail)) (joined_length start l m ms)

-- the first piece of lines
record PiecesOf (start : ℕ) (l : List ℕ) (ps : List Piece) : Type 0 where
  next : ℕ
  more : List Piece
  split : ps ≡ piece_of 0 start (start + length l) next ∷ more

pieces_of : (start : ℕ) (l : List ℕ) (ms tail : List (List ℕ)) → PiecesOf start l (line_pieces start l ms tail)
pieces_of start l [] [] = record { next = start + length l; more = []; split = refl }
pieces_of start l [] (t ∷ ts) = record { next = start + length l + 1; more = []; split = refl }
pieces_of start l (m ∷ ms) tail = record { next = start + length l + 1; more = line_pieces (start + length l + 1) m ms tail; split = refl }

pieces_count : (start : ℕ) (l : List ℕ) (ms tail : List (List ℕ)) → length (line_pieces start l ms tail) ≡ suc (length ms)
pieces_count start l [] [] = refl
pieces_count start l [] (t ∷ ts) = refl
pieces_count start l (m ∷ ms) tail = ap suc (pieces_count (start + length l + 1) m ms tail)

lines_many : (l : List ℕ) (ms : List (List ℕ)) → length ms ≤ length (feed_joined l ms)
lines_many l [] = omega arith
lines_many l (m ∷ ms) = omega (arith, lines_many m ms, length-append l (10 ∷ feed_joined m ms))

map_length : (ms : List (List Part)) → length (map spelled ms) ≡ length ms
map_length [] = refl
map_length (m ∷ ms) = ap suc (map_length ms)

-- all rows

abbrev result : List Block → List Piece → BlocksView
result bs ps = record { blocks = bs; pieces = ps; definitions = [] }

abbrev ended : List ℕ → State → BlocksView
ended text s = let t = closed_to text 0 s in record { blocks = t.blocks; pieces = t.pieces; definitions = t.definitions }

grown : (bs : List Block) (ps new : List Piece) (k : BlockKind) (start end c next : ℕ) (rs : List Row) → length new ≡ suc c → result ((bs ++ block k start end (length ps) (length (ps ++ new)) ∷ []) ++ row_blocks (length (ps ++ new)) next rs) ((ps ++ new) ++ row_pieces next rs) ≡ result (bs ++ block k start end (length ps) (length ps + suc c) ∷ row_blocks (length ps + suc c) next rs) (ps ++ (new ++ row_pieces next rs))
grown bs ps new k start end c next rs e =
    ap (λ m. result ((bs ++ block k start end (length ps) m ∷ []) ++ row_blocks m next rs) ((ps ++ new) ++ row_pieces next rs)) (length-append ps new ∙ ap (λ n. length ps + n) e)
    ∙ ap (λ xs. result xs ((ps ++ new) ++ row_pieces next rs)) (append_assoc bs (block k start end (length ps) (length ps + suc c) ∷ []) (row_blocks (length ps + suc c) next rs))
    ∙ ap (λ xs. result (bs ++ block k start end (length ps) (length ps + suc c) ∷ row_blocks (length ps + suc c) next rs) xs) (append_assoc ps new (row_pieces next rs))

grown_last : (bs : List Block) (ps new : List Piece) (k : BlockKind) (start end c : ℕ) → length new ≡ suc c → result (bs ++ block k start end (length ps) (length (ps ++ new)) ∷ []) (ps ++ new) ≡ result (bs ++ block k start end (length ps) (length ps + suc c) ∷ []) (ps ++ (new ++ []))
grown_last bs ps new k start end c e =
    ap (λ m. result (bs ++ block k start end (length ps) m ∷ []) (ps ++ new)) (length-append ps new ∙ ap (λ n. length ps + n) e)
    ∙ ap (λ xs. result (bs ++ block k start end (length ps) (length ps + suc c) ∷ []) (ps ++ xs)) (sym (append-nil new))

-- an open paragraph ends, or ends with a blank line
open_ends : (text : List ℕ) (bs : List Block) (ps new : List Piece) (start : ℕ) (l : List ℕ) (end number : ℕ) → PiecesOf start l new → (byte_at text start == 91) ≡ false → length ps < 2 ^ 64 → closed_to text 0 (open_lines bs ps new start end number) ≡ closed (bs ++ block kind.Paragraph start end (length ps) (length (ps ++ new)) ∷ []) (ps ++ new) end number
open_ends text bs ps new start l end number h k fits =
    subst (λ (xs : List Piece). closed_to text 0 (open_lines bs ps xs start end number) ≡ closed (bs ++ block kind.Paragraph start end (length ps) (length (ps ++ xs)) ∷ []) (ps ++ xs) end number) (sym h.split)
    (lines_end text bs ps h.more (piece_of 0 start (start + length l) h.next) end number k fits)

open_ends_blank : (text : List ℕ) (b : Line) (bs : List Block) (ps new : List Piece) (start : ℕ) (l : List ℕ) (end number : ℕ) → PiecesOf start l new → bytes_between text b.start b.end ≡ [] → (byte_at text start == 91) ≡ false → length ps < 2 ^ 64 → line_taken text (open_lines bs ps new start end number) b ≡ closed (bs ++ block kind.Paragraph start end (length ps) (length (ps ++ new)) ∷ []) (ps ++ new) end number
open_ends_blank text b bs ps new start l end number h e k fits =
    subst (λ (xs : List Piece). line_taken text (open_lines bs ps xs start end number) b ≡ closed (bs ++ block kind.Paragraph start end (length ps) (length (ps ++ xs)) ∷ []) (ps ++ xs) end number) (sym h.split)
    (blank_ends text b bs ps h.more (piece_of 0 start (start + length l) h.next) end number e k fits)

-- a paragraph's lines, by its parts
paragraph_taken : (text pre rest : List ℕ) (before start : ℕ) (l : List Part) (ms : List (List Part)) (tail : List (List ℕ)) (bs : List Block) (ps : List Piece) (end number : ℕ) → text ≡ pre ++ (spelled (text_parts l ms) ++ rest) → start ≡ length pre → length text < 2 ^ 64 → AllByRecursion IsPlainLine (l ∷ ms) → let stop = start + length (spelled (text_parts l ms)) in
    fold (line_taken text) (closed bs ps end number) (line_list before start (spelled l) (map spelled ms ++ tail)) ≡ fold (line_taken text) (open_lines bs ps (line_pieces start (spelled l) (map spelled ms) tail) start stop (last_number before (map spelled ms))) (lines_behind (count_behind before (map spelled ms)) (stop + 1) tail)
paragraph_taken text pre rest before start l ms tail bs ps end number e at fits h =
    let xs : List ℕ = spelled l in
    let ys : List (List ℕ) = map spelled ms in
    let there : text ≡ pre ++ (feed_joined xs ys ++ rest) = e ∙ ap (λ (zs : List ℕ). pre ++ (zs ++ rest)) (spelled_text l ms) in
    paragraph_lines text before start xs ys tail bs ps end number (plain_at text pre rest start xs ys there at fits (are_para (l ∷ ms) h))
    ∙ ap (λ (zs : List ℕ). fold (line_taken text) (open_lines bs ps (line_pieces start xs ys tail) start (start + length zs) (last_number before ys)) (lines_behind (count_behind before ys) (start + length zs + 1) tail)) (sym (spelled_text l ms))

some_text : (l : List Part) (ms : List (List Part)) → AllByRecursion IsPlainLine (l ∷ ms) → 0 < length (spelled (text_parts l ms))
some_text l [] h = some_front (spelled l) ((h.0).begins)
some_text l (m ∷ ms) h =
    let some : 0 < length (spelled l) = some_front (spelled l) ((h.0).begins) in
    let width : length (spelled (text_parts l (m ∷ ms))) ≡ length (spelled l) + length (10 ∷ feed_joined (spelled m) (map spelled ms)) = ap length (spelled_text l (m ∷ ms)) ∙ length-append (spelled l) (10 ∷ feed_joined (spelled m) (map spelled ms)) in
    omega (arith, some, width)

few_pieces : (ps new : List Piece) (start : ℕ) (l : List Part) (ms : List (List Part)) → length ps ≤ start → length new ≡ suc (length ms) → length (ps ++ new) ≤ start + length (spelled (text_parts l ms)) + 1 + 0 + 1
few_pieces ps new start l ms few e =
    let many : length (map spelled ms) ≤ length (feed_joined (spelled l) (map spelled ms)) = lines_many (spelled l) (map spelled ms) in
    let same : length (spelled (text_parts l ms)) ≡ length (feed_joined (spelled l) (map spelled ms)) = ap length (spelled_text l ms) in
    omega (arith, few, e, many, same, map_length ms, length-append ps new)

pub counted : (start : ℕ) (l : List Part) (ms : List (List Part)) (tail : List (List ℕ)) → length (line_pieces start (spelled l) (map spelled ms) tail) ≡ suc (length ms)
counted start l ms tail = pieces_count start (spelled l) (map spelled ms) tail ∙ ap suc (map_length ms)

-- code

-- the lines below the opening one
abbrev pub code_rest : ℕ → ℕ → List (List ℕ) → List ℕ
code_rest token m [] = closer token m
code_rest token m (l ∷ ls) = l ++ 10 ∷ code_rest token m ls

pub code_joined : (token m : ℕ) (l : List ℕ) (ls : List (List ℕ)) → feed_joined l (ls ++ closer token m ∷ []) ≡ l ++ 10 ∷ code_rest token m ls
code_joined token m l [] = refl
code_joined token m l (n ∷ ls) = ap (λ (xs : List ℕ). l ++ 10 ∷ xs) (code_joined token m n ls)

pub line_front : (before at : ℕ) (l c : List ℕ) (ls tail : List (List ℕ)) → line_list before at l (ls ++ c ∷ tail) ≡ line before at (at + length l) (at + length l + 1) ∷ lines_behind (before + 1) (at + length l + 1) (ls ++ c ∷ tail)
line_front before at l c [] tail = refl
line_front before at l c (n ∷ ls) tail = refl

pub code_count : (at : ℕ) (ls : List (List ℕ)) → length (code_pieces at ls) ≡ length ls
code_count at [] = refl
code_count at (l ∷ ls) = ap suc (code_count (at + length l + 1) ls)

fold_line : (text : List ℕ) (s : State) (l : Line) (ls : List Line) → fold (line_taken text) s (l ∷ ls) ≡ fold (line_taken text) (line_taken text s l) ls
fold_line text s l ls = refl

module _ (text : List ℕ) (fits : length text < 2 ^ 64) (token m : ℕ) (is : IsToken token) (bs : List Block) (n : ℕ) (k : BlockKind) (from : ℕ) where
  abbrev coded : List Piece → ℕ → ℕ → State
  coded qs end number = coding bs n qs (fence_of token m) k from end number

  abbrev ended_code : List Piece → ℕ → ℕ → State
  ended_code qs end number = closed (bs ++ block k from end n (length qs) ∷ []) qs end number

  closer_taken : (pre rest : List ℕ) (before at next : ℕ) (qs : List Piece) (end number : ℕ) → text ≡ pre ++ (closer token m ++ rest) → at ≡ length pre →
      line_taken text (coded qs end number) (line before at (at + length (closer token m)) next) ≡ ended_code (qs ++ []) (at + length (closer token m)) (plus before 1)
  closer_taken pre rest before at next qs end number e front =
      let l : List ℕ = closer token m in
      line_closes text token m at next (plus before 1) bs n qs k from end number (piece_between text pre l rest at (at + length l) e front (ap (λ i. i + length l) front)) (printable_within l (closer_printable token m is)) (inside text pre l rest at e front fits) is
      ∙ ap (λ (xs : List Piece). ended_code xs (at + length l) (plus before 1)) (sym (append-nil qs))

  code_lines : (pre rest : List ℕ) (before at : ℕ) (ls tail : List (List ℕ)) (qs : List Piece) (end number : ℕ) → text ≡ pre ++ (code_rest token m ls ++ rest) → at ≡ length pre → AllByRecursion (IsShort token m) ls →
      fold (line_taken text) (coded qs end number) (lines_behind before at (ls ++ closer token m ∷ tail)) ≡ fold (line_taken text) (ended_code (qs ++ code_pieces at ls) (at + length (code_rest token m ls)) (last_number before ls)) (lines_behind (count_behind before ls) (at + length (code_rest token m ls) + 1) tail)
  code_lines pre rest before at [] [] qs end number e front short = closer_taken pre rest before at (at + length (closer token m)) qs end number e front
  code_lines pre rest before at [] (t ∷ ts) qs end number e front short =
      ap (λ s. fold (line_taken text) s (line_list (before + 1) (at + length (closer token m) + 1) t ts)) (closer_taken pre rest before at (at + length (closer token m) + 1) qs end number e front)
  code_lines pre rest before at (l ∷ ls) tail qs end number e front short =
      let next : ℕ = at + length l + 1 in
      let more : List ℕ = code_rest token m ls in
      let p : Piece = piece_of 0 at (at + length l) next in
      let here : text ≡ pre ++ (l ++ 10 ∷ (more ++ rest)) = e ∙ ap (λ (xs : List ℕ). pre ++ xs) (append_assoc l (10 ∷ more) rest) in
      let order : nat_lt at next ≡ true = grind (arith, nat_tests) in
      let width : length (l ++ 10 ∷ more) ≡ length l + suc (length more) = length-append l (10 ∷ more) in
      let stop : next + length more ≡ at + length (l ++ 10 ∷ more) = omega (arith, width) in
      ap (fold (line_taken text) (coded qs end number)) (line_front before at l (closer token m) ls tail)
      ∙ ap (λ s. fold (line_taken text) s (lines_behind (before + 1) next (ls ++ closer token m ∷ tail)))
      (line_coded text token m l at next (plus before 1) bs n qs k from end number (piece_between text pre l (10 ∷ (more ++ rest)) at (at + length l) here front (ap (λ i. i + length l) front)) order is (short.0))
      ∙ code_lines (pre ++ (l ++ 10 ∷ [])) rest (before + 1) next ls tail (qs ++ p ∷ []) (at + length l) (plus before 1) (behind_line text pre l (more ++ rest) here) (line_length pre l at front) (short.1)
      ∙ ap (λ (xs : List Piece). fold (line_taken text) (ended_code xs (next + length more) (last_number (before + 1) ls)) (lines_behind (count_behind (before + 1) ls) (next + length more + 1) tail)) (append_assoc qs (p ∷ []) (code_pieces next ls))
      ∙ ap (λ i. fold (line_taken text) (ended_code (qs ++ p ∷ code_pieces next ls) i (last_number (before + 1) ls)) (lines_behind (count_behind (before + 1) ls) (i + 1) tail)) stop

-- all lines of code, whatever is after them
code_taken : (text pre rest : List ℕ) (before start token m : ℕ) (info : List ℕ) (ls tail : List (List ℕ)) (bs : List Block) (ps : List Piece) (end number : ℕ) → text ≡ pre ++ (row_bytes (Code token m info ls) ++ rest) → start ≡ length pre → length text < 2 ^ 64 → IsCode token m info ls → let stop = code_end start token m info ls in let new = code_pieces (code_body start token m info) ls in
    fold (line_taken text) (closed bs ps end number) (line_list before start (opener token m info) ((ls ++ closer token m ∷ []) ++ tail)) ≡ fold (line_taken text) (closed (bs ++ block (code_kind start token m info) start stop (length ps) (length ps + length ls) ∷ []) (ps ++ new) stop (last_number (before + 1) ls)) (lines_behind (count_behind (before + 1) ls) (stop + 1) tail)
code_taken text pre rest before start token m info ls tail bs ps end number e front fits h =
    let first : List ℕ = opener token m info in
    let last : List ℕ = closer token m in
    let body : ℕ = code_body start token m info in
    let more : List ℕ = code_rest token m ls in
    let new : List Piece = code_pieces body ls in
    let k : BlockKind = code_kind start token m info in
    let bytes : row_bytes (Code token m info ls) ≡ first ++ 10 ∷ more = code_joined token m first ls in
    let here : text ≡ pre ++ (first ++ 10 ∷ (more ++ rest)) = e ∙ ap (λ (xs : List ℕ). pre ++ (xs ++ rest)) bytes ∙ ap (λ (xs : List ℕ). pre ++ xs) (append_assoc first (10 ∷ more) rest) in
    let width : length (row_bytes (Code token m info ls)) ≡ length first + suc (length more) = ap length bytes ∙ length-append first (10 ∷ more) in
    let stop : body + length more ≡ code_end start token m info ls = omega (arith, width) in
    let count : length (ps ++ new) ≡ length ps + length ls = length-append ps new ∙ ap (λ i. length ps + i) (code_count body ls) in
    let after : ℕ → ℕ → State = λ i j. fold (line_taken text) (closed (bs ++ block k start i (length ps) j ∷ []) (ps ++ new) i (last_number (before + 1) ls)) (lines_behind (count_behind (before + 1) ls) (i + 1) tail) in
    ap (λ xs. fold (line_taken text) (closed bs ps end number) (line_list before start first xs)) (append_assoc ls (last ∷ []) tail)
    ∙ ap (fold (line_taken text) (closed bs ps end number)) (line_front before start first last ls tail)
    ∙ ap (λ s. fold (line_taken text) s (lines_behind (before + 1) body (ls ++ last ∷ tail)))
    (line_opens text token m info start body (plus before 1) bs ps end number (piece_between text pre first (10 ∷ (more ++ rest)) start (start + length first) here front (ap (λ i. i + length first) front)) (printable_within first (opener_printable token m info ls h)) h.token_is h.least h.info_is h.flush (inside text pre first (10 ∷ (more ++ rest)) start here front fits))
    ∙ code_lines text fits token m h.token_is bs (length ps) k start (pre ++ (first ++ 10 ∷ [])) rest (before + 1) body ls tail ps (start + length first) (plus before 1) (behind_line text pre first (more ++ rest) here) (line_length pre first start front) h.short
    ∙ ap (λ i. after i (length (ps ++ new))) stop
    ∙ ap (after (code_end start token m info ls)) count

texts_many : (l : List ℕ) (ls : List (List ℕ)) (c : List ℕ) → length ls ≤ length (feed_joined l (ls ++ c ∷ []))
texts_many l [] c = omega arith
texts_many l (n ∷ ls) c = omega (arith, texts_many n ls c, length-append l (10 ∷ feed_joined n (ls ++ c ∷ [])))

pub rows_taken : (text pre : List ℕ) (before start : ℕ) (r : Row) (rs : List Row) (bs : List Block) (ps : List Piece) (end number : ℕ) → text ≡ pre ++ rows_text r rs → start ≡ length pre → length ps ≤ start → length text < 2 ^ 64 → AreRows (r ∷ rs) → ended text (fold (line_taken text) (closed bs ps end number) (line_list before start (row_first r) (row_more r ++ behind rs))) ≡ result (bs ++ row_blocks (length ps) start (r ∷ rs)) (ps ++ row_pieces start (r ∷ rs))
rows_taken text pre before start Blank [] bs ps end number e at few fits h = absurd h
rows_taken text pre before start Blank (r ∷ rs) bs ps end number e at few fits h =
    let more : List ℕ = rows_text r rs in
    let l : Line = line before start (start + 0) (start + 0 + 1) in
    let blank : bytes_between text start (start + 0) ≡ [] = piece_between text pre [] (10 ∷ more) start (start + 0) e at (ap (λ n. n + 0) at) in
    ap (λ s. ended text (fold (line_taken text) s (line_list (before + 1) (start + 0 + 1) (row_first r) (row_more r ++ behind rs)))) (blank_passes text l bs ps end number blank)
    ∙ rows_taken text (pre ++ ([] ++ 10 ∷ [])) (before + 1) (start + 0 + 1) r rs bs ps end number (behind_line text pre [] more e) (line_length pre [] start at) (omega (arith, few)) fits h
rows_taken text pre before start (Code token m info ls) [] bs ps end number e at few fits h =
    let bytes : List ℕ = row_bytes (Code token m info ls) in
    let stop : ℕ = code_end start token m info ls in
    let here : text ≡ pre ++ (bytes ++ []) = e ∙ ap (λ (ys : List ℕ). pre ++ ys) (sym (append-nil bytes)) in
    let new : List Piece = code_pieces (code_body start token m info) ls in
    let b : Block = block (code_kind start token m info) start stop (length ps) (length ps + length ls) in
    ap (λ s. ended text s) (code_taken text pre [] before start token m info ls [] bs ps end number here at fits (h.0))
    ∙ ap (let g : State → BlocksView = λ t. record { blocks = t.blocks; pieces = t.pieces; definitions = t.definitions } in g) (nothing_ends text (bs ++ b ∷ []) (ps ++ new) stop (last_number (before + 1) ls))
    ∙ ap (λ (xs : List Piece). result (bs ++ b ∷ []) (ps ++ xs)) (sym (append-nil new))
rows_taken text pre before start (Code token m info ls) (r ∷ rs) bs ps end number e at few fits h =
    let bytes : List ℕ = row_bytes (Code token m info ls) in
    let stop : ℕ = code_end start token m info ls in
    let more : List ℕ = rows_text r rs in
    let body : ℕ = code_body start token m info in
    let new : List Piece = code_pieces body ls in
    let b : Block = block (code_kind start token m info) start stop (length ps) (length ps + length ls) in
    let count : length (ps ++ new) ≡ length ps + length ls = length-append ps new ∙ ap (λ i. length ps + i) (code_count body ls) in
    let few2 : length (ps ++ new) ≤ stop + 1 = omega (arith, few, count, texts_many (opener token m info) ls (closer token m)) in
    let later : ℕ → BlocksView = λ i. result ((bs ++ b ∷ []) ++ row_blocks i (stop + 1) (r ∷ rs)) ((ps ++ new) ++ row_pieces (stop + 1) (r ∷ rs)) in
    ap (λ s. ended text s) (code_taken text pre (10 ∷ more) before start token m info ls (behind (r ∷ rs)) bs ps end number e at fits (h.0))
    ∙ rows_taken text (pre ++ (bytes ++ 10 ∷ [])) (count_behind (before + 1) ls) (stop + 1) r rs (bs ++ b ∷ []) (ps ++ new) stop (last_number (before + 1) ls) (behind_line text pre bytes more e) (line_length pre bytes start at) few2 fits (h.1)
    ∙ ap later count
    ∙ ap (λ xs. result xs ((ps ++ new) ++ row_pieces (stop + 1) (r ∷ rs))) (append_assoc bs (b ∷ []) (row_blocks (length ps + length ls) (stop + 1) (r ∷ rs)))
    ∙ ap (λ xs. result (bs ++ b ∷ row_blocks (length ps + length ls) (stop + 1) (r ∷ rs)) xs) (append_assoc ps new (row_pieces (stop + 1) (r ∷ rs)))
rows_taken text pre before start Break [] bs ps end number e at few fits h =
    let stop : ℕ = start + 3 in
    let here : text ≡ pre ++ (hyphens ++ []) = e in
    let width : stop < 2 ^ 64 = inside text pre hyphens [] start here at fits in
    let b : Block = block kind.Rule start stop (length ps) (length ps) in
    ap (λ s. ended text s) (line_rules text start stop (plus before 1) bs ps end number (piece_between text pre hyphens [] start stop here at (ap (λ n. n + 3) at)) width)
    ∙ ap (let g : State → BlocksView = λ t. record { blocks = t.blocks; pieces = t.pieces; definitions = t.definitions } in g) (nothing_ends text (bs ++ b ∷ []) ps stop (plus before 1))
    ∙ ap (λ xs. result (bs ++ b ∷ []) xs) (sym (append-nil ps))
rows_taken text pre before start Break (r ∷ rs) bs ps end number e at few fits h =
    let stop : ℕ = start + 3 in
    let more : List ℕ = rows_text r rs in
    let width : stop < 2 ^ 64 = inside text pre hyphens (10 ∷ more) start e at fits in
    let b : Block = block kind.Rule start stop (length ps) (length ps) in
    ap (λ s. ended text (fold (line_taken text) s (line_list (before + 1) (stop + 1) (row_first r) (row_more r ++ behind rs)))) (line_rules text start (stop + 1) (plus before 1) bs ps end number (piece_between text pre hyphens (10 ∷ more) start stop e at (ap (λ n. n + 3) at)) width)
    ∙ rows_taken text (pre ++ (hyphens ++ 10 ∷ [])) (before + 1) (stop + 1) r rs (bs ++ b ∷ []) ps stop (plus before 1) (behind_line text pre hyphens more e) (line_length pre hyphens start at) (omega (arith, few)) fits h
    ∙ ap (λ xs. result xs (ps ++ row_pieces (stop + 1) (r ∷ rs))) (append_assoc bs (b ∷ []) (row_blocks (length ps) (stop + 1) (r ∷ rs)))
rows_taken text pre before start (Filled ParagraphKind l ms) [] bs ps end number e at few fits h =
    let xs : List ℕ = spelled (text_parts l ms) in
    let stop : ℕ = start + length xs in
    let here : text ≡ pre ++ (xs ++ []) = e ∙ ap (λ (ys : List ℕ). pre ++ ys) (sym (append-nil xs)) in
    let some : 0 < length xs = some_text l ms h.lines in
    let width : stop < 2 ^ 64 = inside text pre xs [] start here at fits in
    let new : List Piece = line_pieces start (spelled l) (map spelled ms) [] in
    let bracket : (byte_at text start == 91) ≡ false = ap (λ b. b == 91) (front_at text pre xs [] start here at some) ∙ no_bracket 10 (text_parts l ms) h.plain in
    ap (λ s. ended text s) (paragraph_taken text pre [] before start l ms [] bs ps end number here at fits h.lines)
    ∙ ap (let g : State → BlocksView = λ t. record { blocks = t.blocks; pieces = t.pieces; definitions = t.definitions } in g) (open_ends text bs ps new start (spelled l) stop (last_number before (map spelled ms)) (pieces_of start (spelled l) (map spelled ms) []) bracket (omega (arith, few, width)))
    ∙ grown_last bs ps new kind.Paragraph start stop (length ms) (counted start l ms [])
rows_taken text pre before start (Filled ParagraphKind l ms) (Blank ∷ []) bs ps end number e at few fits h = absurd (h.1)
rows_taken text pre before start (Filled ParagraphKind l ms) (Blank ∷ r ∷ rs) bs ps end number e at few fits h =
    let xs : List ℕ = spelled (text_parts l ms) in
    let ys : List (List ℕ) = map spelled ms in
    let stop : ℕ = start + length xs in
    let good = h.0 in
    let later : List ℕ = rows_text r rs in
    let more : List ℕ = 10 ∷ later in
    let some : 0 < length xs = some_text l ms good.lines in
    let width : stop < 2 ^ 64 = inside text pre xs (10 ∷ more) start e at fits in
    let tail : List (List ℕ) = behind (Blank ∷ r ∷ rs) in
    let new : List Piece = line_pieces start (spelled l) ys tail in
    let bracket : (byte_at text start == 91) ≡ false = ap (λ b. b == 91) (front_at text pre xs (10 ∷ more) start e at some) ∙ no_bracket 10 (text_parts l ms) good.plain in
    let pre2 : List ℕ = pre ++ (xs ++ 10 ∷ []) in
    let e2 : text ≡ pre2 ++ ([] ++ 10 ∷ later) = behind_line text pre xs more e in
    let at2 : stop + 1 ≡ length pre2 = line_length pre xs start at in
    let count : ℕ = count_behind before ys in
    let last : ℕ = last_number before ys in
    let b : Line = line count (stop + 1) (stop + 1 + 0) (stop + 1 + 0 + 1) in
    let blank : bytes_between text (stop + 1) (stop + 1 + 0) ≡ [] = piece_between text pre2 [] (10 ∷ later) (stop + 1) (stop + 1 + 0) e2 at2 (ap (λ n. n + 0) at2) in
    let rest : List Line = line_list (count + 1) (stop + 1 + 0 + 1) (row_first r) (row_more r ++ behind rs) in
    ap (λ s. ended text s) (paragraph_taken text pre (10 ∷ more) before start l ms tail bs ps end number e at fits good.lines)
    ∙ ap (λ s. ended text (fold (line_taken text) s rest)) (open_ends_blank text b bs ps new start (spelled l) stop last (pieces_of start (spelled l) ys tail) blank bracket (omega (arith, few, width)))
    ∙ rows_taken text (pre2 ++ ([] ++ 10 ∷ [])) (count + 1) (stop + 1 + 0 + 1) r rs (bs ++ block kind.Paragraph start stop (length ps) (length (ps ++ new)) ∷ []) (ps ++ new) stop last (behind_line text pre2 [] later e2) (line_length pre2 [] (stop + 1) at2) (few_pieces ps new start l ms few (counted start l ms tail)) fits (h.1)
    ∙ grown bs ps new kind.Paragraph start stop (length ms) (stop + 1 + 0 + 1) (r ∷ rs) (counted start l ms tail)
rows_taken text pre before start (Filled ParagraphKind l ms) (Break ∷ rs) bs ps end number e at few fits h = absurd h
rows_taken text pre before start (Filled ParagraphKind l ms) (Code token m info ls ∷ rs) bs ps end number e at few fits h = absurd h
rows_taken text pre before start (Filled ParagraphKind l ms) (Filled k m ns ∷ rs) bs ps end number e at few fits h = absurd h
rows_taken text pre before start (Filled (HeadingKind level) l (m ∷ ms)) rs bs ps end number e at few fits h = absurd ((h.0).ends)
rows_taken text pre before start (Filled (HeadingKind level) parts []) [] bs ps end number e at few fits h =
    let good = h.0 in
    let bytes : List ℕ = mark_of (HeadingKind level) ++ spelled parts in
    let stop : ℕ = start + length bytes in
    let here : text ≡ pre ++ (bytes ++ []) = e ∙ ap (λ (ys : List ℕ). pre ++ ys) (sym (append-nil bytes)) in
    let width : stop < 2 ^ 64 = inside text pre bytes [] start here at fits in
    let p : Piece = piece_of 0 (start + length (mark_of (HeadingKind level))) stop stop in
    ap (λ s. ended text s) (heading_taken text (spelled parts) level start stop (plus before 1) bs ps end number (piece_between text pre bytes [] start stop here at (ap (λ n. n + length bytes) at)) (first_within (HeadingKind level) parts [] good) ((good.lines.0).begins) good.ends width)
    ∙ ap (let g : State → BlocksView = λ t. record { blocks = t.blocks; pieces = t.pieces; definitions = t.definitions } in g) (nothing_ends text (bs ++ block (kind.Heading level None) start stop (length ps) (length (ps ++ p ∷ [])) ∷ []) (ps ++ p ∷ []) stop (plus before 1))
    ∙ grown_last bs ps (p ∷ []) (kind.Heading level None) start stop 0 refl
rows_taken text pre before start (Filled (HeadingKind level) parts []) (r ∷ rs) bs ps end number e at few fits h =
    let good = h.0 in
    let bytes : List ℕ = mark_of (HeadingKind level) ++ spelled parts in
    let stop : ℕ = start + length bytes in
    let more : List ℕ = rows_text r rs in
    let width : stop < 2 ^ 64 = inside text pre bytes (10 ∷ more) start e at fits in
    let p : Piece = piece_of 0 (start + length (mark_of (HeadingKind level))) stop stop in
    let few2 : length (ps ++ p ∷ []) ≤ stop + 1 = omega (arith, few, length-append ps (p ∷ [])) in
    ap (λ s. ended text (fold (line_taken text) s (line_list (before + 1) (stop + 1) (row_first r) (row_more r ++ behind rs)))) (heading_taken text (spelled parts) level start (stop + 1) (plus before 1) bs ps end number (piece_between text pre bytes (10 ∷ more) start stop e at (ap (λ n. n + length bytes) at)) (first_within (HeadingKind level) parts [] good) ((good.lines.0).begins) good.ends width)
    ∙ rows_taken text (pre ++ (bytes ++ 10 ∷ [])) (before + 1) (stop + 1) r rs (bs ++ block (kind.Heading level None) start stop (length ps) (length (ps ++ p ∷ [])) ∷ []) (ps ++ p ∷ []) stop (plus before 1) (behind_line text pre bytes more e) (line_length pre bytes start at) few2 fits (h.1)
    ∙ grown bs ps (p ∷ []) (kind.Heading level None) start stop 0 (stop + 1) (r ∷ rs) refl

-- the blocks of rows
pub rows_blocks : (r : Row) (rs : List Row) → AreRows (r ∷ rs) → length (rows_text r rs) < 2 ^ 64 → blocks_of (rows_text r rs) ≡ result (row_blocks 0 0 (r ∷ rs)) (row_pieces 0 (r ∷ rs))
unfolding blocks_in page_in known_of
rows_blocks r rs h fits =
    let text : List ℕ = rows_text r rs in
    let all = all_rows (r ∷ rs) h in
    let none : AreNoReturns text = all_implied IsClean (λ b. (b == 13) ≡ false) text (λ b c. c.return) (rows_clean r rs all) in
    let lines : lines_of text ≡ line_list 0 0 (row_first r) (row_more r ++ behind rs) =
    ap (λ (xs : List ℕ). lines_from text 0 0 0 xs) (flat_text r rs) ∙ lines_are text none 0 0 (row_first r) (row_more r ++ behind rs) (rows_within (r ∷ rs) all) (rows_full r rs h)
    in
    ap (λ lines. ended text (fold (line_taken text) first_page lines)) lines
    ∙ rows_taken text [] 0 0 r rs [] [] 0 0 refl refl (omega arith) fits h
