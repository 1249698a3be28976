-- What is read of the lines of one plain block, with a line feed after the last one or without.
use Rattle.std.proofs.Common.{◌≡◌, ℕ, zero, suc, ◌+◌, ◌-◌, ◌^◌, ◌<◌, Bool, true, false, ◌==◌, ◌&&◌, if◌then◌else◌, nat_lt, List, [], ◌∷◌, ◌++◌, length, map, take, refl, ap, sym, subst, ◌∙◌, arith, append_assoc, append-nil, length-append, true≢false, None, inl, inr}
use Rattle.std.proofs.Math.Seq.{take-length}
use Rattle.std.proofs.lemmas.Bool.Decides.{nat_tests}
use Rattle.std.proofs.lemmas.List.{length-replicate}
use Rattle.std.specs.Char.{is_ascii_digit}
use Rattle.std.specs.List.{AllByRecursion, fold}
use Rattle.tocmark_read_scan.proofs.PlainTests.{not_char}
use Rattle.tocmark_event.specs.declared.event.HeadingLevel.{HeadingLevel}
use Rattle.tocmark_event.specs.declared.event.HeadingLevel.TheVariants as level
use Rattle.tocmark_read_scan.specs.Basic.{plus, byte_at, bytes_between}
use Rattle.tocmark_read_scan.specs.PlainParts.{Part, Bare, Escaped, Referred, Feed, spelled}
use Rattle.tocmark_read_scan.proofs.PlainPieces.{feed_joined, piece_between}
use Rattle.tocmark_read_lines.specs.Lines.{ends_here, line_stop, line, lines_from, lines_of}
use Rattle.tocmark_read_lines.specs.declared.line.Line.{Line}
use Rattle.tocmark_read_page.specs.Pieces.{piece_of}
use Rattle.tocmark_read_constructs.specs.Metadata.{known_of}
use Rattle.tocmark_read_page.specs.declared.piece.Piece.{Piece}
use Rattle.tocmark_read_page.specs.Pages.{State, first_page, closed_to}
use Rattle.tocmark_read_page.specs.declared.page.Block.{Block}
use Rattle.tocmark_read_page.specs.declared.page.BlockKind.{BlockKind}
use Rattle.tocmark_read_page.specs.declared.page.BlockKind.TheVariants as kind
use Rattle.tocmark_read_blocks.specs.Blocks.{line_taken, page_in, blocks_in}
use Rattle.tocmark_read_blocks.proofs.PlainFronts.{BeginsPlainly, plainly_begins_nothing}
use Rattle.tocmark_read_blocks.proofs.PlainLines.{IsWithin, lines_within, cells_within, numbered}
use Rattle.tocmark_read_blocks.proofs.PlainSteps.{IsPlainLine as IsPlainBlockLine, BeginsNothing}
use Rattle.tocmark_read_blocks.proofs.PlainTexts.{AreNoReturns}
use Rattle.tocmark_read_inlines.proofs.PlainNeighbours.{ArePlainParts}
use Rattle.tocmark_reader.specs.PlainTexts.{text_parts}
use Rattle.tocmark_reader.proofs.PlainReading.{IsPlainLine, spelled_text}
use Rattle.tocmark_read_lines.specs.Cells.{cells_of, cell_place}
use Rattle.tocmark_text_laws.specs.Quoted.{Sort, LineTold, line_told, Told, told}
use Rattle.tocmark_text_laws.specs.Quoted as sort
use Rattle.tocmark_text_laws.specs.Sequence.{after_lines, ends_all, IsClosed, IsQuiet}
use Rattle.tocmark_text_laws.proofs.SequenceRun.{tell}
use Rattle.tocmark_laws.specs.TextBlocks.{Kind, ParagraphKind, HeadingKind, mark_of}
use Rattle.tocmark_laws.proofs.DocumentBlocks.{block, closed, line_begins, nothing_ends, line_heads, hyphens, line_rules}
use Rattle.tocmark_laws.proofs.DocumentCode.{IsToken, IsShort, opener, closer, fence_of, code_kind, coding, line_opens, line_coded, line_closes}
use Rattle.tocmark_laws.proofs.DocumentParagraphs.{open_lines, line_goes_on, lines_end, behind_line, line_length}
use Rattle.tocmark_laws.proofs.DocumentHeadings.{EndsHeading, heading_line}
use Rattle.tocmark_laws.proofs.DocumentRows.{Row, Blank, Break, Code, Filled, IsFilled, IsCode, IsRow, AreCode, code_pieces, all_append, printable_within, closer_printable, opener_printable, some_front, inside}
use Rattle.tocmark_document_laws.specs.ReadBack.{feed_if, line_read, lines_read, AreTabless}
use Rattle.tocmark_document_laws.proofs.ReadBackTexts.{ended, fed_front, AreWithin, LinesWithin, EndsWell, Reads}

-- the lines of a row
abbrev pub row_lines : Row → List (List ℕ)
row_lines Blank = [] ∷ []
row_lines Break = hyphens ∷ []
row_lines (Code token m info ls) = opener token m info ∷ (ls ++ closer token m ∷ [])
row_lines (Filled k l ms) = (mark_of k ++ spelled l) ∷ map spelled ms

-- a block that is in no container
abbrev pub leaf_told : Sort → List LineTold → Told
leaf_told s ls = record { depth = 0; sort = s; loose = false; list = None; lines = ls }

-- what is read of a row
abbrev pub row_told : Bool → Row → List Told
row_told e Blank = []
row_told e Break = leaf_told sort.Rule [] ∷ []
row_told e (Code token m info ls) = leaf_told (sort.Fenced info) (map (λ l. line_read l (10 ∷ [])) ls) ∷ []
row_told e (Filled ParagraphKind l ms) = leaf_told sort.Paragraph (lines_read e (spelled l ∷ map spelled ms)) ∷ []
row_told e (Filled (HeadingKind n) l ms) = leaf_told (sort.Heading n) (line_read (spelled l) [] ∷ []) ∷ []

-- bytes of rows

-- no line of code has a tab
abbrev pub IsTablessRow : Row → Type 0
IsTablessRow Blank = Unit {0}
IsTablessRow Break = Unit {0}
IsTablessRow (Code token m info ls) = AllByRecursion AreTabless ls
IsTablessRow (Filled k l ms) = Unit {0}

hash_within : IsWithin 35
hash_within = record { feed = refl; return = refl; tab = refl }

space_within : IsWithin 32
space_within = record { feed = refl; return = refl; tab = refl }

hyphen_within : IsWithin 45
hyphen_within = record { feed = refl; return = refl; tab = refl }

mark_within : (k : Kind) → AreWithin (mark_of k)
mark_within ParagraphKind = tt
mark_within (HeadingKind level.H1) = (hash_within, (space_within, tt))
mark_within (HeadingKind level.H2) = (hash_within, (hash_within, (space_within, tt)))
mark_within (HeadingKind level.H3) = (hash_within, (hash_within, (hash_within, (space_within, tt))))
mark_within (HeadingKind level.H4) = (hash_within, (hash_within, (hash_within, (hash_within, (space_within, tt)))))
mark_within (HeadingKind level.H5) = (hash_within, (hash_within, (hash_within, (hash_within, (hash_within, (space_within, tt))))))
mark_within (HeadingKind level.H6) = (hash_within, (hash_within, (hash_within, (hash_within, (hash_within, (hash_within, (space_within, tt)))))))

code_within : (l : List ℕ) → AreCode l → AreTabless l → AreWithin l
code_within [] h t = tt
code_within (b ∷ bs) h t = (record { feed = (h.0).feed; return = ((h.0).clean).return; tab = t.0 }, code_within bs (h.1) (t.1))

code_lines_within : (ls : List (List ℕ)) (c : List ℕ) → AllByRecursion AreCode ls → AllByRecursion AreTabless ls → AreWithin c → LinesWithin (ls ++ c ∷ [])
code_lines_within [] c h t k = (k, tt)
code_lines_within (l ∷ ls) c h t k = (code_within l (h.0) (t.0), code_lines_within ls c (h.1) (t.1) k)

parts_within : (ms : List (List Part)) → AllByRecursion IsPlainLine ms → LinesWithin (map spelled ms)
parts_within [] h = tt
parts_within (m ∷ ms) h = (printable_within (spelled m) ((h.0).printable), parts_within ms (h.1))

pub row_within : (r : Row) → IsRow r → IsTablessRow r → LinesWithin (row_lines r)
row_within Blank h t = (tt, tt)
row_within Break h t = ((hyphen_within, (hyphen_within, (hyphen_within, tt))), tt)
row_within (Code token m info ls) h t =
    (printable_within (opener token m info) (opener_printable token m info ls h), code_lines_within ls (closer token m) h.lines t (printable_within (closer token m) (closer_printable token m h.token_is)))
row_within (Filled k l ms) h t =
    (all_append IsWithin (mark_of k) (spelled l) (mark_within k) (printable_within (spelled l) ((h.lines.0).printable)), parts_within ms (h.lines.1))

-- the last line of a row isn't empty

code_ends : (e : Bool) (l : List ℕ) (ls : List (List ℕ)) (c : List ℕ) → 0 < length c → EndsWell e (l ∷ (ls ++ c ∷ []))
code_ends true l ls c h = tt
code_ends false l [] c h = h
code_ends false l (m ∷ ls) c h = code_ends false m ls c h

parts_end : (e : Bool) (mark : List ℕ) (l : List Part) (ms : List (List Part)) → AllByRecursion IsPlainLine (l ∷ ms) → EndsWell e ((mark ++ spelled l) ∷ map spelled ms)
parts_end true mark l ms h = tt
parts_end false mark l [] h = let some : 0 < length (spelled l) = some_front (spelled l) ((h.0).begins) in let q : 0 < length (mark ++ spelled l) = omega (arith, some, length-append mark (spelled l)) in q
parts_end false mark l (m ∷ ms) h = parts_end false [] m ms (h.1)

break_ends : (e : Bool) → EndsWell e (hyphens ∷ [])
break_ends true = tt
break_ends false = (let q : 0 < 3 = omega arith in q)

-- a row that has a block
abbrev pub IsFull : Row → Type 0
IsFull Blank = ⊥
IsFull r = Unit {0}

pub row_ends : (e : Bool) (r : Row) → IsRow r → IsFull r → EndsWell e (row_lines r)
row_ends e Blank h f = absurd f
row_ends e Break h f = break_ends e
row_ends e (Code token m info ls) h f = code_ends e (opener token m info) ls (closer token m) (omega arith)
row_ends e (Filled k l ms) h f = parts_end e (mark_of k) l ms h.lines

-- lines of a text

abbrev gap_of : Bool → ℕ
gap_of true = 1
gap_of false = 0

abbrev lines_at : Bool → ℕ → ℕ → List (List ℕ) → List Line
lines_at e before start [] = []
lines_at e before start (l ∷ []) = line before start (start + length l) (start + length l + gap_of e) ∷ []
lines_at e before start (l ∷ m ∷ ms) = line before start (start + length l) (start + length l + 1) ∷ lines_at e (before + 1) (start + length l + 1) (m ∷ ms)

no_return_at : (text : List ℕ) (k : ℕ) → AreNoReturns text → (byte_at text k == 13) ≡ false
no_return_at [] k h = refl
no_return_at (b ∷ bs) zero h = h.0
no_return_at (b ∷ bs) (suc k) h = no_return_at bs k (h.1)

feed_ends : (text : List ℕ) (at : ℕ) → ends_here text 10 at ≡ true
unfolding ends_here
feed_ends text at = refl

feed_stop : (text : List ℕ) (start at : ℕ) → AreNoReturns text → line_stop text start 10 at ≡ at
unfolding line_stop
feed_stop text start at h = by_start (nat_lt start at)
  where
    by_start : (c : Bool) → (if c && (byte_at text (at - 1) == 13) then at - 1 else at) ≡ at
    by_start true = rw (no_return_at text (at - 1) h) refl
    by_start false = refl

no_line : (text : List ℕ) (before at : ℕ) → lines_from text before at at [] ≡ []
no_line text before at = let none : nat_lt at at ≡ false = grind (arith, nat_tests) in rw none refl

lines_split : (text : List ℕ) → AreNoReturns text → (e : Bool) (before start : ℕ) (ls : List (List ℕ)) → LinesWithin ls → EndsWell e ls → lines_from text before start start (ended e ls) ≡ lines_at e before start ls
lines_split text none e before start [] h w = no_line text before start
lines_split text none false before start (l ∷ []) h w =
    let some : nat_lt start (start + length l) ≡ true = let long : 0 < length l = w in grind (arith, nat_tests) in
    lines_within text before start start l [] (h.0)
    ∙ rw some refl
    ∙ ap (λ n. line before start (start + length l) n ∷ []) (let q : start + length l ≡ start + length l + 0 = omega arith in q)
lines_split text none true before start (l ∷ []) h w =
    let at : ℕ = start + length l in
    lines_within text before start start l (10 ∷ []) (h.0)
    ∙ rw (feed_ends text at, feed_stop text start at none) refl
    ∙ ap (λ ls. line before start at (at + 1) ∷ ls) (no_line text (before + 1) (at + 1))
lines_split text none true before start (l ∷ m ∷ ms) h w =
    let at : ℕ = start + length l in
    lines_within text before start start l (10 ∷ ended true (m ∷ ms)) (h.0)
    ∙ rw (feed_ends text at, feed_stop text start at none) refl
    ∙ ap (λ ls. line before start at (at + 1) ∷ ls) (lines_split text none true (before + 1) (at + 1) (m ∷ ms) (h.1) tt)
lines_split text none false before start (l ∷ m ∷ ms) h w =
    let at : ℕ = start + length l in
    lines_within text before start start l (10 ∷ ended false (m ∷ ms)) (h.0)
    ∙ rw (feed_ends text at, feed_stop text start at none) refl
    ∙ ap (λ ls. line before start at (at + 1) ∷ ls) (lines_split text none false (before + 1) (at + 1) (m ∷ ms) (h.1) w)

line_returnless : (l : List ℕ) → AreWithin l → AreNoReturns l
line_returnless [] h = tt
line_returnless (b ∷ bs) h = ((h.0).return, line_returnless bs (h.1))

lines_returnless : (e : Bool) (ls : List (List ℕ)) → LinesWithin ls → AreNoReturns (ended e ls)
lines_returnless e [] h = tt
lines_returnless true (l ∷ []) h = all_append (λ b. (b == 13) ≡ false) l (10 ∷ []) (line_returnless l (h.0)) (refl, tt)
lines_returnless false (l ∷ []) h = all_append (λ b. (b == 13) ≡ false) l [] (line_returnless l (h.0)) tt
lines_returnless e (l ∷ m ∷ ms) h = all_append (λ b. (b == 13) ≡ false) l (10 ∷ ended e (m ∷ ms)) (line_returnless l (h.0)) (refl, lines_returnless e (m ∷ ms) (h.1))

pub text_lines : (e : Bool) (ls : List (List ℕ)) → LinesWithin ls → EndsWell e ls → lines_of (ended e ls) ≡ lines_at e 0 0 ls
text_lines e ls h w = lines_split (ended e ls) (lines_returnless e ls h) e 0 0 ls h w

-- one line

first_place_of : (l : List ℕ) (start end : ℕ) → 0 < length l → cell_place (numbered start l) 0 end ≡ start
first_place_of [] start end h = absurd (omega arith)
first_place_of (b ∷ bs) start end h = refl

paragraph_line : (text l : List ℕ) (start next number : ℕ) → bytes_between text start (start + length l) ≡ l → BeginsPlainly l → AreWithin l → start + length l < 2 ^ 64 → start < next → IsPlainBlockLine text (numbered start l) (record { number = number; start = start; end = start + length l; next = next })
paragraph_line text l start next number e h within fits order =
    let some : 0 < length l = some_front l h in
    record {
      columns = ap (cells_of [] start) e ∙ cells_within start l within fits;
      place = first_place_of l start (start + length l) some;
      order = grind (arith, nat_tests);
      begins = subst (λ (xs : List ℕ). BeginsNothing xs (numbered start l)) (sym e) (plainly_begins_nothing start l (omega (arith, fits)) h);
    }

-- lines before a last one

first_ended : (e : Bool) (l : List ℕ) (ls : List (List ℕ)) (c : List ℕ) → ended e (l ∷ (ls ++ c ∷ [])) ≡ l ++ 10 ∷ ended e (ls ++ c ∷ [])
first_ended e l [] c = refl
first_ended e l (m ∷ ls) c = refl

first_line_at : (e : Bool) (before at : ℕ) (l : List ℕ) (ls : List (List ℕ)) (c : List ℕ) → lines_at e before at (l ∷ (ls ++ c ∷ [])) ≡ line before at (at + length l) (at + length l + 1) ∷ lines_at e (before + 1) (at + length l + 1) (ls ++ c ∷ [])
first_line_at e before at l [] c = refl
first_line_at e before at l (m ∷ ls) c = refl

abbrev IsPara : List ℕ → Type 0
IsPara x = BeginsPlainly x × AreWithin x

abbrev pieces_at : Bool → ℕ → List (List ℕ) → List Piece
pieces_at e start [] = []
pieces_at e start (l ∷ []) = piece_of 0 start (start + length l) (start + length l + gap_of e) ∷ []
pieces_at e start (l ∷ m ∷ ms) = piece_of 0 start (start + length l) (start + length l + 1) ∷ pieces_at e (start + length l + 1) (m ∷ ms)

-- a page with an open paragraph of these pieces
record Goes (s : State) (ps : List Piece) : Type 0 where
  end : ℕ
  number : ℕ
  is : s ≡ open_lines [] [] ps 0 end number

-- the first of the pieces
record HasFirst (ps : List Piece) : Type 0 where
  first : Piece
  more : List Piece
  split : ps ≡ first ∷ more
  start : first.start ≡ 0

has_first : (e : Bool) (l : List ℕ) (ms : List (List ℕ)) → HasFirst (pieces_at e 0 (l ∷ ms))
has_first e l [] = record { first = piece_of 0 0 (0 + length l) (0 + length l + gap_of e); more = []; split = refl; start = refl }
has_first e l (m ∷ ms) = record { first = piece_of 0 0 (0 + length l) (0 + length l + 1); more = pieces_at e (0 + length l + 1) (m ∷ ms); split = refl; start = refl }

-- a page after code
record Coded (s : State) (k : BlockKind) (ps : List Piece) : Type 0 where
  end : ℕ
  number : ℕ
  is : s ≡ closed (block k 0 end 0 (length ps) ∷ []) ps end number

coded_as : (s : State) (k : BlockKind) (ps qs : List Piece) → ps ≡ qs → Coded s k ps → Coded s k qs
coded_as s k ps qs h c = subst (λ xs. Coded s k xs) h c

abbrev line_of : List ℕ → List ℕ → LineTold
line_of w x = record { spaces = 0; words = w; whole = x }

feed_long : (b : Bool) → gap_of b ≡ length (feed_if b)
feed_long true = refl
feed_long false = refl

module _ (e : Bool) (text : List ℕ) (fits : length text < 2 ^ 64) where
  -- paragraphs

  -- a line that isn't the last one, or is
  line_good : (pre l rest : List ℕ) (start next number : ℕ) → text ≡ pre ++ (l ++ rest) → start ≡ length pre → IsPara l → start < next → IsPlainBlockLine text (numbered start l) (record { number = number; start = start; end = start + length l; next = next })
  line_good pre l rest start next number t at h order =
      paragraph_line text l start next number (piece_between text pre l rest start (start + length l) t at (ap (λ n. n + length l) at)) (h.0) (h.1) (inside text pre l rest start t at fits) order

  paragraph_more : (pre : List ℕ) (before start : ℕ) (ls : List (List ℕ)) (p : Piece) (new : List Piece) (end number : ℕ) → text ≡ pre ++ ended e ls → start ≡ length pre → AllByRecursion IsPara ls
      → Goes (fold (line_taken text) (open_lines [] [] (p ∷ new) 0 end number) (lines_at e before start ls)) ((p ∷ new) ++ pieces_at e start ls)
  paragraph_more pre before start [] p new end number t at h = record { end = end; number = number; is = ap (λ (xs : List Piece). open_lines [] [] xs 0 end number) (sym (append-nil (p ∷ new))) }
  paragraph_more pre before start (l ∷ []) p new end number t at h =
      let some : 0 < length l = some_front l (h.0.0) in
      record {
        end = start + length l;
        number = plus before 1;
        is = line_goes_on text (numbered start l) (line before start (start + length l) (start + length l + gap_of e)) [] [] new p 0 end number (line_good pre l (feed_if e) start (start + length l + gap_of e) (plus before 1) t at (h.0) (omega (arith, some)));
      }
  paragraph_more pre before start (l ∷ m ∷ ms) p new end number t at h =
      let next : ℕ = start + length l + 1 in
      let x : Piece = piece_of 0 start (start + length l) next in
      let rest = paragraph_more (pre ++ (l ++ 10 ∷ [])) (before + 1) next (m ∷ ms) p (new ++ x ∷ []) (start + length l) (plus before 1) (behind_line text pre l (ended e (m ∷ ms)) t) (line_length pre l start at) (h.1) in
      record {
        end = rest.end;
        number = rest.number;
        is =
            ap (λ s. fold (line_taken text) s (lines_at e (before + 1) next (m ∷ ms)))
            (line_goes_on text (numbered start l) (line before start (start + length l) next) [] [] new p 0 end number (line_good pre l (10 ∷ ended e (m ∷ ms)) start next (plus before 1) t at (h.0) (omega arith)))
            ∙ rest.is
            ∙ ap (λ (xs : List Piece). open_lines [] [] (p ∷ xs) 0 rest.end rest.number) (append_assoc new (x ∷ []) (pieces_at e next (m ∷ ms)));
      }

  paragraph_all : (l : List ℕ) (ms : List (List ℕ)) → text ≡ ended e (l ∷ ms) → AllByRecursion IsPara (l ∷ ms) → Goes (fold (line_taken text) first_page (lines_at e 0 0 (l ∷ ms))) (pieces_at e 0 (l ∷ ms))
  paragraph_all l [] t h =
      let some : 0 < length l = some_front l (h.0.0) in
      record {
        end = 0 + length l;
        number = plus 0 1;
        is = line_begins text (numbered 0 l) (line 0 0 (0 + length l) (0 + length l + gap_of e)) [] [] 0 0 (line_good [] l (feed_if e) 0 (0 + length l + gap_of e) (plus 0 1) t refl (h.0) (omega (arith, some)));
      }
  paragraph_all l (m ∷ ms) t h =
      let next : ℕ = 0 + length l + 1 in
      let x : Piece = piece_of 0 0 (0 + length l) next in
      let rest = paragraph_more ([] ++ (l ++ 10 ∷ [])) (0 + 1) next (m ∷ ms) x [] (0 + length l) (plus 0 1) (behind_line text [] l (ended e (m ∷ ms)) t) (line_length [] l 0 refl) (h.1) in
      record {
        end = rest.end;
        number = rest.number;
        is =
            ap (λ s. fold (line_taken text) s (lines_at e (0 + 1) next (m ∷ ms)))
            (line_begins text (numbered 0 l) (line 0 0 (0 + length l) next) [] [] 0 0 (line_good [] l (10 ∷ ended e (m ∷ ms)) 0 next (plus 0 1) t refl (h.0) (omega arith)))
            ∙ rest.is;
      }

  paragraph_closed : (ps : List Piece) (end number : ℕ) → HasFirst ps → (byte_at text 0 == 91) ≡ false → closed_to text 0 (open_lines [] [] ps 0 end number) ≡ closed (block kind.Paragraph 0 end 0 (length ps) ∷ []) ps end number
  paragraph_closed ps end number h k =
      subst (λ (xs : List Piece). closed_to text 0 (open_lines [] [] xs 0 end number) ≡ closed (block kind.Paragraph 0 end 0 (length xs) ∷ []) xs end number) (sym h.split)
      (subst (λ n. closed_to text 0 (open_lines [] [] (h.first ∷ h.more) n end number) ≡ closed (block kind.Paragraph n end 0 (length (h.first ∷ h.more)) ∷ []) (h.first ∷ h.more) end number) h.start
      (lines_end text [] [] h.more h.first end number (ap (λ n. byte_at text n == 91) h.start ∙ k) (omega arith)))

  line_is : (pre l rest f : List ℕ) (start next : ℕ) → text ≡ pre ++ (l ++ (f ++ rest)) → start ≡ length pre → next ≡ start + length l + length f → line_told text (piece_of 0 start (start + length l) next) ≡ line_read l f
  line_is pre l rest f start next t at to =
      let made : List ℕ → List ℕ → LineTold = λ w x. record { spaces = 0; words = w; whole = x } in
      let wide : length (l ++ f) ≡ length l + length f = length-append l f in
      ap (λ w. made w (bytes_between text start next)) (piece_between text pre l (f ++ rest) start (start + length l) t at (ap (λ n. n + length l) at))
      ∙ ap (made l) (piece_between text pre (l ++ f) rest start next (t ∙ ap (λ (xs : List ℕ). pre ++ xs) (sym (append_assoc l f rest))) at (omega (arith, to, at, wide)))

  paragraph_lines_are : (pre : List ℕ) (start : ℕ) (ls : List (List ℕ)) → text ≡ pre ++ ended e ls → start ≡ length pre → map (line_told text) (pieces_at e start ls) ≡ lines_read e ls
  paragraph_lines_are pre start [] t at = refl
  paragraph_lines_are pre start (l ∷ []) t at =
      ap (λ x. x ∷ []) (line_is pre l [] (feed_if e) start (start + length l + gap_of e) (t ∙ ap (λ (xs : List ℕ). pre ++ (l ++ xs)) (sym (append-nil (feed_if e)))) at (ap (λ n. start + length l + n) (feed_long e)))
  paragraph_lines_are pre start (l ∷ m ∷ ms) t at =
      ap (λ x. x ∷ map (line_told text) (pieces_at e (start + length l + 1) (m ∷ ms))) (line_is pre l (ended e (m ∷ ms)) (10 ∷ []) start (start + length l + 1) t at refl)
      ∙ ap (λ xs. line_read l (10 ∷ []) ∷ xs) (paragraph_lines_are (pre ++ (l ++ 10 ∷ [])) (start + length l + 1) (m ∷ ms) (behind_line text pre l (ended e (m ∷ ms)) t) (line_length pre l start at))

  -- code

  code_more : (token m : ℕ) (k : BlockKind) → IsToken token → AreWithin (closer token m) → (pre : List ℕ) (before at : ℕ) (ls : List (List ℕ)) (qs : List Piece) (end number : ℕ) → text ≡ pre ++ ended e (ls ++ closer token m ∷ []) → at ≡ length pre → AllByRecursion (IsShort token m) ls
      → Coded (fold (line_taken text) (coding [] 0 qs (fence_of token m) k 0 end number) (lines_at e before at (ls ++ closer token m ∷ []))) k (qs ++ code_pieces at ls)
  code_more token m k is within pre before at [] qs end number t front short =
      let l : List ℕ = closer token m in
      coded_as _ k qs (qs ++ []) (sym (append-nil qs)) (record {
        end = at + length l;
        number = plus before 1;
        is = line_closes text token m at (at + length l + gap_of e) (plus before 1) [] 0 qs k 0 end number (piece_between text pre l (feed_if e) at (at + length l) t front (ap (λ i. i + length l) front)) within (inside text pre l (feed_if e) at t front fits) is;
      })
  code_more token m k is within pre before at (l ∷ ls) qs end number t front short =
      let next : ℕ = at + length l + 1 in
      let p : Piece = piece_of 0 at (at + length l) next in
      let order : nat_lt at next ≡ true = grind (arith, nat_tests) in
      let here : text ≡ pre ++ (l ++ 10 ∷ ended e (ls ++ closer token m ∷ [])) = t ∙ ap (λ (xs : List ℕ). pre ++ xs) (first_ended e l ls (closer token m)) in
      let rest = code_more token m k is within (pre ++ (l ++ 10 ∷ [])) (before + 1) next ls (qs ++ p ∷ []) (at + length l) (plus before 1) (behind_line text pre l (ended e (ls ++ closer token m ∷ [])) here) (line_length pre l at front) (short.1) in
      coded_as _ k ((qs ++ p ∷ []) ++ code_pieces next ls) (qs ++ p ∷ code_pieces next ls) (append_assoc qs (p ∷ []) (code_pieces next ls)) (record {
        end = rest.end;
        number = rest.number;
        is =
            ap (fold (line_taken text) (coding [] 0 qs (fence_of token m) k 0 end number)) (first_line_at e before at l ls (closer token m))
            ∙ ap (λ s. fold (line_taken text) s (lines_at e (before + 1) next (ls ++ closer token m ∷ [])))
            (line_coded text token m l at next (plus before 1) [] 0 qs k 0 end number (piece_between text pre l (10 ∷ ended e (ls ++ closer token m ∷ [])) at (at + length l) here front (ap (λ i. i + length l) front)) order is (short.0))
            ∙ rest.is;
      })

  code_told : (pre : List ℕ) (at : ℕ) (ls : List (List ℕ)) (c : List ℕ) → text ≡ pre ++ ended e (ls ++ c ∷ []) → at ≡ length pre → map (line_told text) (code_pieces at ls) ≡ map (λ l. line_read l (10 ∷ [])) ls
  code_told pre at [] c t front = refl
  code_told pre at (l ∷ ls) c t front =
      let next : ℕ = at + length l + 1 in
      let here : text ≡ pre ++ (l ++ 10 ∷ ended e (ls ++ c ∷ [])) = t ∙ ap (λ (xs : List ℕ). pre ++ xs) (first_ended e l ls c) in
      ap (λ x. x ∷ map (line_told text) (code_pieces next ls)) (line_is pre l (ended e (ls ++ c ∷ [])) (10 ∷ []) at next here front refl)
      ∙ ap (λ xs. line_read l (10 ∷ []) ∷ xs) (code_told (pre ++ (l ++ 10 ∷ [])) next ls c (behind_line text pre l (ended e (ls ++ c ∷ [])) here) (line_length pre l at front))

-- how the page is after the lines of a row

lines_in : (e : Bool) (ls : List (List ℕ)) → LinesWithin ls → EndsWell e ls → after_lines (ended e ls) ≡ fold (line_taken (ended e ls)) first_page (lines_at e 0 0 ls)
lines_in e ls h w = ap (fold (line_taken (ended e ls)) first_page) (text_lines e ls h w)

break_after : (e : Bool) → length (ended e (hyphens ∷ [])) < 2 ^ 64 → after_lines (ended e (hyphens ∷ [])) ≡ closed (block kind.Rule 0 3 0 0 ∷ []) [] 3 (plus 0 1)
break_after e fits =
    let text : List ℕ = ended e (hyphens ∷ []) in
    lines_in e (hyphens ∷ []) (row_within Break tt tt) (break_ends e)
    ∙ line_rules text 0 (0 + 3 + gap_of e) (plus 0 1) [] [] 0 0 (piece_between text [] hyphens (feed_if e) 0 3 refl refl refl) (inside text [] hyphens (feed_if e) 0 refl refl fits)

-- headings

begins_no_space : (b : ℕ) (bs : List ℕ) → BeginsPlainly (b ∷ bs) → (b == 32) ≡ false
begins_no_space b bs (inl h) = h.space
begins_no_space b bs (inr (inl h)) = not_char b 32 (λ e. true≢false (sym (h.0) ∙ ap is_ascii_digit e))
begins_no_space b bs (inr (inr (inl e, k))) = rw e refl
begins_no_space b bs (inr (inr (inr (inl e), k))) = rw e refl
begins_no_space b bs (inr (inr (inr (inr e), k))) = rw e refl

abbrev heading_page : HeadingLevel → ℕ → ℕ → ℕ → State
heading_page n from to number = closed (block (kind.Heading n None) 0 to 0 1 ∷ []) (piece_of 0 from to to ∷ []) to number

heading_taken : (text xs : List ℕ) (n : HeadingLevel) (next number : ℕ) → let bytes = mark_of (HeadingKind n) ++ xs in let end = 0 + length bytes in
    bytes_between text 0 end ≡ bytes → AreWithin bytes → BeginsPlainly xs → EndsHeading xs → end < 2 ^ 64 →
    line_taken text (closed [] [] 0 0) (record { number = number; start = 0; end = end; next = next }) ≡ heading_page n (0 + length (mark_of (HeadingKind n))) end number
heading_taken text [] n next number e within h ends fits = absurd h
heading_taken text (x ∷ xs) n next number e within h ends fits =
    line_heads text _ _ _ _ _ [] [] 0 0 (heading_line text n x xs 0 next number e within (begins_no_space x xs h) ends fits)

abbrev heading_lines : HeadingLevel → List Part → List (List ℕ)
heading_lines n l = (mark_of (HeadingKind n) ++ spelled l) ∷ []

heading_after : (e : Bool) (n : HeadingLevel) (l : List Part) → IsFilled (HeadingKind n) l [] → length (ended e (heading_lines n l)) < 2 ^ 64
    → after_lines (ended e (heading_lines n l)) ≡ heading_page n (0 + length (mark_of (HeadingKind n))) (0 + length (mark_of (HeadingKind n) ++ spelled l)) (plus 0 1)
heading_after e n l h fits =
    let text : List ℕ = ended e (heading_lines n l) in
    let bytes : List ℕ = mark_of (HeadingKind n) ++ spelled l in
    let within : LinesWithin (heading_lines n l) = row_within (Filled (HeadingKind n) l []) h tt in
    lines_in e (heading_lines n l) within (parts_end e (mark_of (HeadingKind n)) l [] h.lines)
    ∙ heading_taken text (spelled l) n (0 + length bytes + gap_of e) (plus 0 1) (piece_between text [] bytes (feed_if e) 0 (0 + length bytes) refl refl refl) (within.0) ((h.lines.0).begins) h.ends (inside text [] bytes (feed_if e) 0 refl refl fits)

-- paragraphs

abbrev paragraph_texts : List Part → List (List Part) → List (List ℕ)
paragraph_texts l ms = spelled l ∷ map spelled ms

are_para : (ms : List (List Part)) → AllByRecursion IsPlainLine ms → AllByRecursion IsPara (map spelled ms)
are_para [] h = tt
are_para (m ∷ ms) h = (((h.0).begins, printable_within (spelled m) ((h.0).printable)), are_para ms (h.1))

paragraph_after : (e : Bool) (l : List Part) (ms : List (List Part)) → IsFilled ParagraphKind l ms → length (ended e (paragraph_texts l ms)) < 2 ^ 64
    → Goes (after_lines (ended e (paragraph_texts l ms))) (pieces_at e 0 (paragraph_texts l ms))
paragraph_after e l ms h fits =
    let text : List ℕ = ended e (paragraph_texts l ms) in
    let goes = paragraph_all e text fits (spelled l) (map spelled ms) refl (are_para (l ∷ ms) h.lines) in
    record {
      end = goes.end;
      number = goes.number;
      is = lines_in e (paragraph_texts l ms) (row_within (Filled ParagraphKind l ms) h tt) (parts_end e [] l ms h.lines) ∙ goes.is;
    }

no_bracket : (before : ℕ) (parts : List Part) → ArePlainParts before parts → (byte_at (spelled parts) 0 == 91) ≡ false
no_bracket before [] h = refl
no_bracket before (Bare b ∷ parts) (inl h, more) = h.bracket
no_bracket before (Bare b ∷ parts) (inr (inl h), more) = let e : b ≡ 33 = h.0 in rw e refl
no_bracket before (Bare b ∷ parts) (inr (inr (inl h)), more) = let e : b ≡ 92 = h.0 in rw e refl
no_bracket before (Bare b ∷ parts) (inr (inr (inr h)), more) = let e : b ≡ 95 = h.0 in rw e refl
no_bracket before (Escaped b ∷ parts) h = refl
no_bracket before (Referred c bs ∷ parts) h = refl
no_bracket before (Feed ∷ parts) h = refl

front_byte : (xs rest : List ℕ) → 0 < length xs → byte_at (xs ++ rest) 0 ≡ byte_at xs 0
front_byte [] rest h = absurd (omega arith)
front_byte (x ∷ xs) rest h = refl

unbracketed : (e : Bool) (l : List Part) (ms : List (List Part)) → IsFilled ParagraphKind l ms → (byte_at (ended e (paragraph_texts l ms)) 0 == 91) ≡ false
unbracketed e l ms h = ap (λ b. b == 91) (by ms) ∙ ap (λ (xs : List ℕ). byte_at xs 0 == 91) (sym (spelled_text l ms)) ∙ no_bracket 10 (text_parts l ms) h.plain
  where
    some : 0 < length (spelled l)
    some = some_front (spelled l) ((h.lines.0).begins)

    by : (ms : List (List Part)) → byte_at (ended e (paragraph_texts l ms)) 0 ≡ byte_at (feed_joined (spelled l) (map spelled ms)) 0
    by [] = front_byte (spelled l) (feed_if e) some
    by (m ∷ ms) = front_byte (spelled l) (10 ∷ ended e (paragraph_texts m ms)) some ∙ sym (front_byte (spelled l) (10 ∷ feed_joined (spelled m) (map spelled ms)) some)

-- code

abbrev code_texts : ℕ → ℕ → List ℕ → List (List ℕ) → List (List ℕ)
code_texts token m info ls = opener token m info ∷ (ls ++ closer token m ∷ [])

code_after : (e : Bool) (token m : ℕ) (info : List ℕ) (ls : List (List ℕ)) → IsCode token m info ls → AllByRecursion AreTabless ls → length (ended e (code_texts token m info ls)) < 2 ^ 64
    → Coded (after_lines (ended e (code_texts token m info ls))) (code_kind 0 token m info) (code_pieces (0 + length (opener token m info) + 1) ls)
code_after e token m info ls h t fits =
    let text : List ℕ = ended e (code_texts token m info ls) in
    let first : List ℕ = opener token m info in
    let c : List ℕ = closer token m in
    let k : BlockKind = code_kind 0 token m info in
    let next : ℕ = 0 + length first + 1 in
    let here : text ≡ [] ++ (first ++ 10 ∷ ended e (ls ++ c ∷ [])) = first_ended e first ls c in
    let within : AreWithin first = printable_within first (opener_printable token m info ls h) in
    let code = code_more e text fits token m k h.token_is (printable_within c (closer_printable token m h.token_is)) ([] ++ (first ++ 10 ∷ [])) (0 + 1) next ls [] (0 + length first) (plus 0 1) (behind_line text [] first (ended e (ls ++ c ∷ [])) here) (line_length [] first 0 refl) h.short in
    record {
      end = code.end;
      number = code.number;
      is =
          lines_in e (code_texts token m info ls) (row_within (Code token m info ls) h t) (code_ends e first ls c (omega arith))
          ∙ ap (fold (line_taken text) first_page) (first_line_at e 0 0 first ls c)
          ∙ ap (λ s. fold (line_taken text) s (lines_at e (0 + 1) next (ls ++ c ∷ [])))
          (line_opens text token m info 0 next (plus 0 1) [] [] 0 0 (piece_between text [] first (10 ∷ ended e (ls ++ c ∷ [])) 0 (0 + length first) here refl refl) within h.token_is h.least h.info_is h.flush (inside text [] first (10 ∷ ended e (ls ++ c ∷ [])) 0 here refl fits))
          ∙ code.is;
    }

-- what is read of a row

page_reads : (text : List ℕ) (bs : List Block) (ps : List Piece) (end number : ℕ) (xs : List Told) → closed_to text 0 (after_lines text) ≡ closed bs ps end number → map (told text ps) bs ≡ xs → AllByRecursion (λ (b : Told). b.list ≡ None) xs → Reads text xs
unfolding blocks_in page_in known_of
page_reads text bs ps end number xs page is none = record { blocks = ap (tell text) page ∙ is; definitions = ap (λ (s : State). s.definitions) page; listless = none }

pub row_reads : (e : Bool) (r : Row) → IsRow r → IsTablessRow r → IsFull r → length (ended e (row_lines r)) < 2 ^ 64 → Reads (ended e (row_lines r)) (row_told e r)
row_reads e Blank h t f fits = absurd f
row_reads e Break h t f fits =
    let text : List ℕ = ended e (hyphens ∷ []) in
    let b : Block = block kind.Rule 0 3 0 0 in
    page_reads text (b ∷ []) [] 3 (plus 0 1) (row_told e Break) (ap (closed_to text 0) (break_after e fits) ∙ nothing_ends text (b ∷ []) [] 3 (plus 0 1)) refl (refl, tt)
row_reads e (Code token m info ls) h t f fits =
    let text : List ℕ = ended e (code_texts token m info ls) in
    let first : List ℕ = opener token m info in
    let c : List ℕ = closer token m in
    let k : BlockKind = code_kind 0 token m info in
    let at : ℕ = 0 + length first + 1 in
    let ps : List Piece = code_pieces at ls in
    let code = code_after e token m info ls h t fits in
    let b : Block = block k 0 code.end 0 (length ps) in
    let here : text ≡ [] ++ (first ++ 10 ∷ ended e (ls ++ c ∷ [])) = first_ended e first ls c in
    let tokens : length c ≡ suc m = length-replicate (suc m) token in
    let front : text ≡ c ++ (info ++ 10 ∷ ended e (ls ++ c ∷ [])) = here ∙ append_assoc c info (10 ∷ ended e (ls ++ c ∷ [])) in
    let wide : length first ≡ length c + length info = length-append c info in
    let word : bytes_between text (0 + suc m) (0 + length first) ≡ info = piece_between text c info (10 ∷ ended e (ls ++ c ∷ [])) (0 + suc m) (0 + length first) front (omega (arith, tokens)) (omega (arith, wide)) in
    page_reads text (b ∷ []) ps code.end code.number (row_told e (Code token m info ls)) (ap (closed_to text 0) code.is ∙ nothing_ends text (b ∷ []) ps code.end code.number)
    (ap (λ i. leaf_told (sort.Fenced i) (map (line_told text) (take (length ps) ps)) ∷ []) word
    ∙ ap (λ (xs : List Piece). leaf_told (sort.Fenced info) (map (line_told text) xs) ∷ []) (take-length ps)
    ∙ ap (λ xs. leaf_told (sort.Fenced info) xs ∷ []) (code_told e text fits ([] ++ (first ++ 10 ∷ [])) at ls c (behind_line text [] first (ended e (ls ++ c ∷ [])) here) (line_length [] first 0 refl)))
    (refl, tt)
row_reads e (Filled (HeadingKind n) l (m ∷ ms)) h t f fits = absurd h.ends
row_reads e (Filled (HeadingKind n) l []) h t f fits =
    let text : List ℕ = ended e (heading_lines n l) in
    let mark : List ℕ = mark_of (HeadingKind n) in
    let from : ℕ = 0 + length mark in
    let to : ℕ = 0 + length (mark ++ spelled l) in
    let b : Block = block (kind.Heading n None) 0 to 0 1 in
    let p : Piece = piece_of 0 from to to in
    let wide : length (mark ++ spelled l) ≡ length mark + length (spelled l) = length-append mark (spelled l) in
    let word : bytes_between text from to ≡ spelled l = piece_between text mark (spelled l) (feed_if e) from to (append_assoc mark (spelled l) (feed_if e)) (omega arith) (omega (arith, wide)) in
    page_reads text (b ∷ []) (p ∷ []) to (plus 0 1) (row_told e (Filled (HeadingKind n) l [])) (ap (closed_to text 0) (heading_after e n l h fits) ∙ nothing_ends text (b ∷ []) (p ∷ []) to (plus 0 1))
    (ap (λ w. leaf_told (sort.Heading n) (line_of w w ∷ []) ∷ []) word ∙ ap (λ w. leaf_told (sort.Heading n) (line_of (spelled l) w ∷ []) ∷ []) (sym (append-nil (spelled l))))
    (refl, tt)
row_reads e (Filled ParagraphKind l ms) h t f fits =
    let text : List ℕ = ended e (paragraph_texts l ms) in
    let goes = paragraph_after e l ms h fits in
    let ps : List Piece = pieces_at e 0 (paragraph_texts l ms) in
    let b : Block = block kind.Paragraph 0 goes.end 0 (length ps) in
    page_reads text (b ∷ []) ps goes.end goes.number (row_told e (Filled ParagraphKind l ms)) (ap (closed_to text 0) goes.is ∙ paragraph_closed e text fits ps goes.end goes.number (has_first e (spelled l) (map spelled ms)) (unbracketed e l ms h))
    (ap (λ (xs : List Piece). leaf_told sort.Paragraph (map (line_told text) xs) ∷ []) (take-length ps)
    ∙ ap (λ xs. leaf_told sort.Paragraph xs ∷ []) (paragraph_lines_are e text fits [] 0 (paragraph_texts l ms) refl refl))
    (refl, tt)

-- what a row leaves open

-- a row that is no paragraph
abbrev pub IsShutRow : Row → Type 0
IsShutRow (Filled ParagraphKind l ms) = ⊥
IsShutRow r = IsFull r

shut : (text : List ℕ) (bs : List Block) (ps : List Piece) (end number : ℕ) → after_lines text ≡ closed bs ps end number → ((front : List ℕ) × (text ≡ front ++ 10 ∷ [])) → IsClosed text
shut text bs ps end number h f = record { line = f; leaf = ap (λ (s : State). s.leaf) h; opened = ap (λ (s : State). s.opened) h }

pub row_shut : (r : Row) → IsRow r → IsTablessRow r → IsShutRow r → length (ended true (row_lines r)) < 2 ^ 64 → IsClosed (ended true (row_lines r))
row_shut Blank h t f fits = absurd f
row_shut Break h t f fits = shut _ _ _ _ _ (break_after true fits) (fed_front hyphens [])
row_shut (Code token m info ls) h t f fits =
    let code = code_after true token m info ls h t fits in
    shut _ _ _ _ _ code.is (fed_front (opener token m info) (ls ++ closer token m ∷ []))
row_shut (Filled (HeadingKind n) l (m ∷ ms)) h t f fits = absurd h.ends
row_shut (Filled (HeadingKind n) l []) h t f fits = shut _ _ _ _ _ (heading_after true n l h fits) (fed_front (mark_of (HeadingKind n) ++ spelled l) [])
row_shut (Filled ParagraphKind l ms) h t f fits = absurd f

pub paragraph_quiet : (l : List Part) (ms : List (List Part)) → IsFilled ParagraphKind l ms → length (ended true (paragraph_texts l ms)) < 2 ^ 64 → IsQuiet (ended true (paragraph_texts l ms))
paragraph_quiet l ms h fits =
    let goes = paragraph_after true l ms h fits in
    record { line = fed_front (spelled l) (map spelled ms); ends = ap (λ (s : State). ends_all s.opened s.leaf) goes.is }
