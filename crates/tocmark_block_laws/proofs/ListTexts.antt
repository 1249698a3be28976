-- The lines of a text that is a list, and what is read of it.
use Rattle.std.proofs.Common.{◌≡◌, ℕ, suc, ◌+◌, ◌-◌, ◌^◌, ◌<◌, ◌≤◌, Bool, true, false, not, ◌&&◌, ◌||◌, if◌then◌else◌, nat_lt, nat_le, List, [], ◌∷◌, ◌++◌, length, map, drop, refl, ap, sym, subst, ◌∙◌, arith, append-nil, length-append, true≢false}
use Rattle.std.specs.List.{AllByRecursion, fold, list_any}
use Rattle.std.proofs.lemmas.Bool.Decides.{nat_tests}
use Rattle.std.proofs.lemmas.List.{length-map}
use Rattle.tocmark_read_scan.specs.Basic.{plus, bytes_between}
use Rattle.tocmark_read_lines.specs.Lines.{ends_here, line_stop, line, lines_from, lines_of}
use Rattle.tocmark_read_lines.specs.declared.line.Line.{Line}
use Rattle.tocmark_read_page.specs.Definitions.{DefinitionView}
use Rattle.tocmark_read_page.specs.Pages.{State, closed_to}
use Rattle.tocmark_read_page.specs.declared.leaf.Leaf.TheVariants as leaf
use Rattle.tocmark_read_constructs.specs.Metadata.{known_of}
use Rattle.tocmark_read_blocks.specs.Blocks.{line_taken, page_in, blocks_in}
use Rattle.tocmark_commonmark.specs.Lines.{Line as DeclaredLine, Part, Written, is_blank, is_blank_line, indent, line_bytes, line_ink, lines_of as declared_lines}
use Rattle.tocmark_commonmark.specs.Tree.{Blocks, none}
use Rattle.tocmark_commonmark.specs.Beginnings.{ItemMark, Beginning, BlankLine, CodeLine, QuoteLine, HeadingLine, FenceLine, HtmlLine, RuleLine, ItemLine, TextLine, LazyLine, beginning_of, beginning}
use Rattle.tocmark_commonmark.specs.Blocks.{blocks_from, size, blocks, blocks_of}
use Rattle.tocmark_block_laws.specs.Trees.{tree_of, placed_in}
use Rattle.tocmark_block_laws.specs.Quotes.{is_special, IsPlain, ends_with_feed}
use Rattle.tocmark_block_laws.specs.Lists.{is_one_line, pauses, is_short_line, are_short_lines, has_one_line_blocks, ListsAreDeclared}
use Rattle.tocmark_block_laws.proofs.TextLines.{declared, lines_same, Sound, lines_sound, lines_few, between_plain}
use Rattle.tocmark_block_laws.proofs.Feeds.{has_feed, feed_drop, IsFeedless, feedless_lines}
use Rattle.tocmark_block_laws.proofs.Fronts.{spaces_of, part_at, indent_same}
use Rattle.tocmark_block_laws.proofs.Codes.{Fed, lines_fed}
use Rattle.tocmark_block_laws.proofs.LinkDefinitions.{count_low}
use Rattle.tocmark_block_laws.proofs.Starts.{is_blank_kind}
use Rattle.tocmark_block_laws.proofs.Seen.{at_line}
use Rattle.tocmark_block_laws.proofs.Markers.{ItemFacts, item_of}
use Rattle.tocmark_block_laws.proofs.Apart.{after_these}
use Rattle.tocmark_block_laws.proofs.ListPages.{stack_page, top_stays}
use Rattle.tocmark_block_laws.proofs.BlankLines.{BlankRow, blank_bytes, blank_at_top}
use Rattle.tocmark_block_laws.proofs.NestedLines.{blank_part}
use Rattle.tocmark_block_laws.proofs.Within.{Known}
use Rattle.tocmark_block_laws.proofs.Told.{holds_read}
use Rattle.tocmark_block_laws.proofs.ReadCodes.{Pass}
use Rattle.tocmark_block_laws.proofs.Read.{both_true}
use Rattle.tocmark_block_laws.proofs.DeclaredLists.{Single, Entry, entry_part, entry_blanks, entry_ink, written, all_shown, span, is_text_kind, closes_line, Follow, written_blank, blanks_none, blanks_skipped, docs_told, all_defined, AreTold, text_declared}
use Rattle.tocmark_block_laws.proofs.ReadLists.{Row, LeafRow, RowEntry, ItemRow, SingleRow, top, Final, fold_stays, Runs, row_entry, row_pauses, row_entries, blank_lines_of, row_lines, row_count, text_read}

-- lines are numbered

abbrev pub Numbered : ℕ → List Line → Type 0
Numbered n [] = Unit {0}
Numbered n (l ∷ ls) = (l.number ≡ suc n) × Numbered (suc n) ls

pub numbered_from : (text bs : List ℕ) (before start at : ℕ) → before + length bs + 2 < 2 ^ 64 → Numbered before (lines_from text before start at bs)
numbered_from text [] before start at fits = by (nat_lt start at)
  where
    by : (k : Bool) → Numbered before (if k then line before start at at ∷ [] else [])
    by true = (omega (arith, fits), tt)
    by false = tt
numbered_from text (b ∷ bs) before start at fits =
    by (ends_here text b at)
    (subst (λ n. Numbered n (lines_from text (before + 1) (at + 1) (at + 1) bs)) (let q : before + 1 ≡ suc before = omega arith in q) (numbered_from text bs (before + 1) (at + 1) (at + 1) (omega (arith, fits))))
    (numbered_from text bs before start (at + 1) (omega (arith, fits)))
  where
    by : (k : Bool) → Numbered (suc before) (lines_from text (before + 1) (at + 1) (at + 1) bs) → Numbered before (lines_from text before start (at + 1) bs)
        → Numbered before (if k then line before start (line_stop text start b at) (at + 1) ∷ lines_from text (before + 1) (at + 1) (at + 1) bs else lines_from text before start (at + 1) bs)
    by true next same = ((let q : plus before 1 ≡ suc before = omega (arith, fits) in q), next)
    by false next same = same

-- what the test says of a line

all_three : (a b c : Bool) → (a && b && c) ≡ true → (a ≡ true) × (b ≡ true) × (c ≡ true)
all_three false b c e = absurd (true≢false (sym e))
all_three true false c e = absurd (true≢false (sym e))
all_three true true false e = absurd (true≢false (sym e))
all_three true true true e = (refl, refl, refl)

-- a line that begins something isn't blank
part_ink : (p : Part) → is_blank_kind (beginning (Written p)) ≡ false → is_blank p.bytes ≡ false
unfolding beginning
part_ink p e = by (is_blank p.bytes) e
  where
    by : (k : Bool) → is_blank_kind (beginning_of p k (nat_le 4 (indent p))) ≡ false → k ≡ false
    by true q = absurd (true≢false q)
    by false q = refl

two_true : (a b : Bool) → (a && b) ≡ true → (a ≡ true) × (b ≡ true)
two_true false b e = absurd (true≢false (sym e))
two_true true b e = (refl, e)

all_four : (a b c d : Bool) → (a && b && c && d) ≡ true → (a ≡ true) × (b ≡ true) × (c ≡ true) × (d ≡ true)
all_four false b c d e = absurd (true≢false (sym e))
all_four true false c d e = absurd (true≢false (sym e))
all_four true true false d e = absurd (true≢false (sym e))
all_four true true true false e = absurd (true≢false (sym e))
all_four true true true true e = (refl, refl, refl, refl)

-- the lines of a text

-- a blank line as it is declared
abbrev blank_shown : (text : List ℕ) → List (BlankRow text) → List Part
blank_shown text bl = map (λ (b : BlankRow text). part_at 0 (blank_bytes text b)) bl

blank_pass : (text : List ℕ) (bl : List (BlankRow text)) → Pass (λ (p : Part). is_blank p.bytes) (blank_shown text bl)
blank_pass text [] = tt
blank_pass text (b ∷ bl) = (b.blank, blank_pass text bl)

-- blank lines, and then others
record Rows (text : List ℕ) (width : ℕ) (quiet : Bool) (number : ℕ) (ls : List Line) : Type 0 where
  lead : List (BlankRow text)
  rows : List (RowEntry text)
  lines : blank_lines_of text lead ++ row_lines text rows ≡ ls
  shows : written (blank_shown text lead) ++ all_shown (row_entries text rows) ≡ map (declared text) ls
  runs : Runs text width (quiet || nat_lt 0 (length lead)) (number + length lead) rows
  follow : Follow width (quiet || nat_lt 0 (length lead)) (row_entries text rows)

row_of : (text : List ℕ) (l : Line) → Known text l → (m : ItemMark) → beginning (declared text l) ≡ ItemLine m → is_one_line (beginning (Written m.first)) ≡ true → List (BlankRow text) → Row text
row_of text l k m begins one pauses = record {
  line = l;
  item = record { part = part_at 0 xs; mark = m; blanks = blank_shown text pauses; begins = begins; one = one; short = count_low (line_ink (Written m.first) ∷ []) (no_feed, tt); blank = blank_pass text pauses };
  shown = refl;
  pauses = pauses;
  paused = sym (length-map pauses (λ (b : BlankRow text). part_at 0 (blank_bytes text b)));
  plain = k.plain;
  fits = k.fits;
  sound = k.sound;
  feedless = k.feedless;
  fed = k.fed;
}
  where
    xs : List ℕ
    xs = bytes_between text l.start l.end

    f : ItemFacts l 0 xs xs m
    f = item_of text l 0 xs xs m (at_line text l 0 k.plain k.fits k.sound k.feedless k.fed (omega arith)) begins

    no_feed : has_feed (line_ink (Written m.first)) ≡ false
    no_feed = ap (λ p. has_feed (line_ink (Written p))) f.first ∙ feed_drop (spaces_of (drop f.to xs)) (drop f.to xs) (feed_drop f.to xs k.feedless)

leaf_of : (text : List ℕ) (l : Line) → Known text l → (k : Beginning) → beginning (declared text l) ≡ k → is_one_line k ≡ true → is_blank_kind k ≡ false → List (BlankRow text) → LeafRow text
leaf_of text l f k begins one some pauses = record {
  line = l;
  single = record { part = part_at 0 xs; kind = k; blanks = blank_shown text pauses; begins = begins; one = one; some = some; ink = part_ink (part_at 0 xs) (ap is_blank_kind begins ∙ some); short = count_low (line_ink (Written (part_at 0 xs)) ∷ []) (feed_drop (spaces_of xs) xs f.feedless, tt); blank = blank_pass text pauses };
  shown = refl;
  pauses = pauses;
  paused = sym (length-map pauses (λ (b : BlankRow text). part_at 0 (blank_bytes text b)));
  plain = f.plain;
  fits = f.fits;
  sound = f.sound;
  feedless = f.feedless;
  fed = f.fed;
}
  where
    xs : List ℕ
    xs = bytes_between text l.start l.end

or_true : (a : Bool) → (a || true) ≡ true
or_true true = refl
or_true false = refl

some_lines : (n : ℕ) → nat_lt 0 (suc n) ≡ true
some_lines n = grind (arith, nat_tests)

-- a paragraph ends with its line if a blank line follows, or none
closes_of : (text : List ℕ) (width number : ℕ) (quiet : Bool) (u : Single) (ls : List Line) (r : Rows text width quiet number ls) → u.blanks ≡ blank_shown text r.lead → (not (is_text_kind u.kind) || pauses (map (declared text) ls)) ≡ true → closes_line u (row_entries text r.rows) ≡ true
closes_of text width number quiet u ls r blanks e = by r.rows r.lead ls blanks r.shows (is_text_kind u.kind) refl e
  where
    by : (rows : List (RowEntry text)) (lead : List (BlankRow text)) (ms : List Line) → u.blanks ≡ blank_shown text lead → written (blank_shown text lead) ++ all_shown (row_entries text rows) ≡ map (declared text) ms → (k : Bool) → is_text_kind u.kind ≡ k → (not (is_text_kind u.kind) || pauses (map (declared text) ms)) ≡ true → closes_line u (row_entries text rows) ≡ true
    by [] lead ms b h k q p = refl
    by (x ∷ rows) lead ms b h false q p = ap (λ z. not z || nat_lt 0 (length u.blanks)) q
    by (x ∷ rows) (w ∷ lead) ms b h true q p = ap (λ (z : List Part). not (is_text_kind u.kind) || nat_lt 0 (length z)) b ∙ ap (λ z. not (is_text_kind u.kind) || z) (some_lines (length (blank_shown text lead))) ∙ or_true (not (is_text_kind u.kind))
    by (x ∷ rows) [] [] b h true q p = absurd cc
    by (x ∷ rows) [] (m ∷ ms) b h true q p =
        let first : Written (entry_part (row_entry text x)) ≡ declared text m = cc in
        let blank : is_blank_line (declared text m) ≡ true = sym (ap (λ z. not z || is_blank_line (declared text m)) q) ∙ p in
        absurd (true≢false (sym blank ∙ ap is_blank_line (sym first) ∙ entry_ink (row_entry text x)))

rows_of : (text : List ℕ) (ls : List Line) (width : ℕ) (quiet : Bool) (number : ℕ) → are_short_lines width quiet (map (declared text) ls) ≡ true → AllByRecursion (Known text) ls → Numbered number ls → Rows text width quiet number ls
unfolding row_of leaf_of
rows_of text [] width quiet number short facts numbered = record { lead = []; rows = []; lines = refl; shows = refl; runs = tt; follow = tt }
rows_of text (l ∷ ls) width quiet number short facts numbered =
    by (beginning (declared text l)) refl short (λ w q e. rows_of text ls w q l.number e (facts.1) (subst (λ n. Numbered n ls) (sym (numbered.0)) (numbered.1)))
  where
    xs : List ℕ
    xs = bytes_between text l.start l.end

    f : Known text l
    f = facts.0

    next : l.number ≡ suc number
    next = numbered.0

    later : List DeclaredLine
    later = map (declared text) ls

    Again : Type 0
    Again = (w : ℕ) (q : Bool) → are_short_lines w q later ≡ true → Rows text w q l.number ls

    near : nat_lt (indent (part_at 0 xs)) width ≡ true → (indent (part_at 0 xs) < width) × (spaces_of xs < width)
    near low =
        let inside : indent (part_at 0 xs) < width = grind (arith, low, nat_tests) in
        let same : indent (part_at 0 xs) ≡ spaces_of xs = indent_same 0 xs (between_plain text l.start l.end f.plain) in
        (inside, omega (arith, inside, same))

    blank_row : beginning (declared text l) ≡ BlankLine → BlankRow text
    blank_row e = record { line = l; plain = f.plain; fits = f.fits; sound = f.sound; blank = blank_part (part_at 0 xs) e }

    with_blank : beginning (declared text l) ≡ BlankLine → Rows text width true l.number ls → Rows text width quiet number (l ∷ ls)
    with_blank e rest = record {
      lead = blank_row e ∷ rest.lead;
      rows = rest.rows;
      lines = ap (λ zs. l ∷ zs) rest.lines;
      shows = ap (λ zs. declared text l ∷ zs) rest.shows;
      runs = subst (λ q. Runs text width q (number + suc (length rest.lead)) rest.rows) (sym quiet_now) (subst (λ n. Runs text width true n rest.rows) (let q : l.number + length rest.lead ≡ number + suc (length rest.lead) = omega (arith, next) in q) rest.runs);
      follow = subst (λ q. Follow width q (row_entries text rest.rows)) (sym quiet_now) rest.follow;
    }
      where
        quiet_now : (quiet || nat_lt 0 (suc (length rest.lead))) ≡ true
        quiet_now = ap (λ k. quiet || k) (some_lines (length rest.lead)) ∙ or_true quiet

    with_item : (m : ItemMark) (begins : beginning (declared text l) ≡ ItemLine m) → nat_lt (indent (part_at 0 xs)) width ≡ true → (one : is_one_line (beginning (Written m.first)) ≡ true) → Rows text m.width false l.number ls → Rows text width quiet number (l ∷ ls)
    with_item m begins low one rest = record {
      lead = [];
      rows = ItemRow (row_of text l f m begins one rest.lead) ∷ rest.rows;
      lines = ap (λ zs. l ∷ zs) rest.lines;
      shows = ap (λ zs. declared text l ∷ zs) rest.shows;
      runs = ((near low).1, (let q : l.number ≡ suc (number + 0) = omega (arith, next) in q), subst (λ q. Runs text m.width q (l.number + length rest.lead) rest.rows) blanks rest.runs);
      follow = ((near low).0, subst (λ q. Follow m.width q (row_entries text rest.rows)) blanks rest.follow);
    }
      where
        blanks : nat_lt 0 (length rest.lead) ≡ nat_lt 0 (length (blank_shown text rest.lead))
        blanks = ap (λ n. nat_lt 0 n) (sym (length-map rest.lead (λ (b : BlankRow text). part_at 0 (blank_bytes text b))))

    with_leaf : (k : Beginning) → beginning (declared text l) ≡ k → is_one_line k ≡ true → is_blank_kind k ≡ false → nat_lt (indent (part_at 0 xs)) width ≡ true → (is_text_kind k && not (quiet || false)) ≡ false → (not (is_text_kind k) || pauses later) ≡ true → Rows text 4 true l.number ls → Rows text width quiet number (l ∷ ls)
    with_leaf k begins one some low calm stops rest = record {
      lead = [];
      rows = SingleRow u ∷ rest.rows;
      lines = ap (λ zs. l ∷ zs) rest.lines;
      shows = ap (λ zs. declared text l ∷ zs) rest.shows;
      runs = ((near low).1, (let q : l.number ≡ suc (number + 0) = omega (arith, next) in q), calm, closes, rest.runs);
      follow = ((near low).0, calm, closes, rest.follow);
    }
      where
        u : LeafRow text
        u = leaf_of text l f k begins one some rest.lead

        closes : closes_line u.single (row_entries text rest.rows) ≡ true
        closes = closes_of text 4 l.number true u.single ls rest refl stops

    by : (k : Beginning) → beginning (declared text l) ≡ k → is_short_line (λ w q. are_short_lines w q later) width quiet (declared text l) later k ≡ true → Again → Rows text width quiet number (l ∷ ls)
    by BlankLine e t again = with_blank e (again width true t)
    by CodeLine e t again = absurd (true≢false (sym t))
    by QuoteLine e t again = absurd (true≢false (sym t))
    by (HeadingLine h) e t again =
        let tests = two_true (nat_lt (indent (part_at 0 xs)) width) (are_short_lines 4 true later) t in
        with_leaf (HeadingLine h) e refl refl (tests.0) refl refl (again 4 true (tests.1))
    by (FenceLine x) e t again = absurd (true≢false (sym t))
    by (HtmlLine x) e t again = absurd (true≢false (sym t))
    by RuleLine e t again =
        let tests = two_true (nat_lt (indent (part_at 0 xs)) width) (are_short_lines 4 true later) t in
        with_leaf RuleLine e refl refl (tests.0) refl refl (again 4 true (tests.1))
    by (ItemLine m) e t again =
        let tests = all_three (nat_lt (indent (part_at 0 xs)) width) (is_one_line (beginning (Written m.first))) (are_short_lines m.width false later) t in
        with_item m e (tests.0) (tests.1) (again m.width false (tests.2))
    by TextLine e t again =
        let tests = all_four (nat_lt (indent (part_at 0 xs)) width) quiet (pauses later) (are_short_lines 4 true later) t in
        with_leaf TextLine e refl refl (tests.0) (ap (λ k. true && not (k || false)) (tests.1)) (tests.2) (again 4 true (tests.3))
    by LazyLine e t again = absurd (true≢false (sym t))

-- the fuel of the declaration is more than its lines

size_low : (n : ℕ) (ls : List DeclaredLine) → n + length ls ≤ fold (λ (m : ℕ) (l : DeclaredLine). m + length (line_bytes l) + 1) n ls
size_low n [] = omega arith
size_low n (l ∷ ls) =
    let later : n + length (line_bytes l) + 1 + length ls ≤ fold (λ (m : ℕ) (x : DeclaredLine). m + length (line_bytes x) + 1) (n + length (line_bytes l) + 1) ls = size_low (n + length (line_bytes l) + 1) ls in
    omega (arith, later)

some_bytes : (xs : List ℕ) → is_blank xs ≡ false → 0 < length xs
some_bytes [] e = absurd (true≢false e)
some_bytes (x ∷ xs) e = omega arith

-- so it is after blank lines
size_more : (n : ℕ) (ps : List Part) (l : DeclaredLine) (ls : List DeclaredLine) → 0 < length (line_bytes l) → n + length ps + 2 + length ls ≤ fold (λ (m : ℕ) (x : DeclaredLine). m + length (line_bytes x) + 1) n (written ps ++ l ∷ ls)
size_more n [] l ls some =
    let later : n + length (line_bytes l) + 1 + length ls ≤ fold (λ (m : ℕ) (x : DeclaredLine). m + length (line_bytes x) + 1) (n + length (line_bytes l) + 1) ls = size_low (n + length (line_bytes l) + 1) ls in
    omega (arith, later, some)
size_more n (p ∷ ps) l ls some =
    let later : n + length p.bytes + 1 + length ps + 2 + length ls ≤ fold (λ (m : ℕ) (x : DeclaredLine). m + length (line_bytes x) + 1) (n + length p.bytes + 1) (written ps ++ l ∷ ls) = size_more (n + length p.bytes + 1) ps l ls some in
    omega (arith, later)

span_lines : (es : List Entry) → length (all_shown es) ≡ span es
span_lines [] = refl
span_lines (e ∷ es) =
    let all : length (written (entry_blanks e) ++ all_shown es) ≡ length (written (entry_blanks e)) + length (all_shown es) = length-append (written (entry_blanks e)) (all_shown es) in
    let blanks : length (written (entry_blanks e)) ≡ length (entry_blanks e) = length-map (entry_blanks e) (λ (p : Part). Written p) in
    let later : length (all_shown es) ≡ span es = span_lines es in
    omega (arith, all, blanks, later)

row_span : (text : List ℕ) (es : List (RowEntry text)) → row_count text es ≡ length (row_lines text es)
row_span text [] = refl
row_span text (e ∷ es) =
    let all : length (blank_lines_of text (row_pauses text e) ++ row_lines text es) ≡ length (blank_lines_of text (row_pauses text e)) + length (row_lines text es) = length-append (blank_lines_of text (row_pauses text e)) (row_lines text es) in
    let blanks : length (blank_lines_of text (row_pauses text e)) ≡ length (row_pauses text e) = length-map (row_pauses text e) (λ (b : BlankRow text). b.line) in
    let later : row_count text es ≡ length (row_lines text es) = row_span text es in
    omega (arith, all, blanks, later)

-- what is read of a text, and what is declared of it
record Both (text : List ℕ) (ls : List DeclaredLine) (s : State) : Type 0 where
  found : Blocks
  ds : List DefinitionView
  read : Final text s found ds
  declares : AreTold (blocks_from (size ls) 0 ls) found ds

abbrev start_page : State
start_page = stack_page [] leaf.Nothing [] [] 0 0 0

lead_read : (text : List ℕ) (lead : List (BlankRow text)) (ls : List Line) → fold (line_taken text) start_page (blank_lines_of text lead ++ ls) ≡ fold (line_taken text) start_page ls
lead_read text lead ls = fold_stays text start_page lead ls (λ b. blank_at_top text b leaf.Nothing [] [] 0 0 0 refl ∙ top_stays text [] [] 0 0 0)

enough_fuel : (ps : List Part) (es : List Entry) → 0 < length es → length ps + 1 + span es ≤ size (written ps ++ all_shown es)
enough_fuel ps [] some = absurd (omega (arith, some))
enough_fuel ps (e ∷ es) some =
    let later : List DeclaredLine = written (entry_blanks e) ++ all_shown es in
    let low : 0 + length ps + 2 + length later ≤ size (written ps ++ Written (entry_part e) ∷ later) = size_more 0 ps (Written (entry_part e)) later (some_bytes (entry_part e).bytes (entry_ink e)) in
    let all : length (all_shown (e ∷ es)) ≡ span (e ∷ es) = span_lines (e ∷ es) in
    omega (arith, low, all)

-- what is declared after blank lines
lead_declared : (text : List ℕ) (lead : List (BlankRow text)) (es : List Entry) (quiet : Bool) → Follow 4 true es → AreTold (blocks_from (size (written (blank_shown text lead) ++ all_shown es)) 0 (written (blank_shown text lead) ++ all_shown es)) (docs_told es) (all_defined es)
lead_declared text lead [] quiet follow =
    subst (λ fs. AreTold fs none []) (sym (ap (λ ls. blocks_from (size ls) 0 ls) (append-nil (written (blank_shown text lead))) ∙ blanks_none (size (written (blank_shown text lead))) 0 (written (blank_shown text lead)) (written_blank (blank_shown text lead) (blank_pass text lead)))) (record { blocks = refl; definitions = refl })
lead_declared text lead (e ∷ es) quiet follow =
    subst (λ fs. AreTold fs (docs_told (e ∷ es)) (all_defined (e ∷ es))) (sym skips) (text_declared (e ∷ es) fuel (0 + length blanks) 4 follow (omega (arith, enough)))
  where
    blanks : List Part
    blanks = blank_shown text lead

    whole : List DeclaredLine
    whole = written blanks ++ all_shown (e ∷ es)

    fuel : ℕ
    fuel = size whole - length blanks

    enough : length blanks + 1 + span (e ∷ es) ≤ size whole
    enough = enough_fuel blanks (e ∷ es) (omega arith)

    skips : blocks_from (size whole) 0 whole ≡ blocks_from fuel (0 + length blanks) (all_shown (e ∷ es))
    skips =
        ap (λ n. blocks_from n 0 whole) (let q : size whole ≡ length blanks + fuel = omega (arith, enough) in q)
        ∙ blanks_skipped fuel 0 blanks (all_shown (e ∷ es)) (blank_pass text lead)

both_of : (text : List ℕ) (lead : List (BlankRow text)) (es : List (RowEntry text)) → Runs text 4 true (0 + length lead) es → Follow 4 true (row_entries text es) → length lead + row_count text es + 1 < 2 ^ 64
    → Both text (written (blank_shown text lead) ++ all_shown (row_entries text es)) (fold (line_taken text) start_page (blank_lines_of text lead ++ row_lines text es))
both_of text lead es runs follow small = record {
  found = docs_told (row_entries text es);
  ds = all_defined (row_entries text es);
  read = subst (λ s. Final text s (docs_told (row_entries text es)) (all_defined (row_entries text es))) (sym (lead_read text lead (row_lines text es))) (text_read text es (0 + length lead) runs (omega (arith, small)));
  declares = lead_declared text lead (row_entries text es) true follow;
}

-- what is known of all lines
pub facts_of : (text : List ℕ) (ls : List Line) → IsPlain text → length text + 3 < 2 ^ 64 → AllByRecursion (Sound text) ls → AllByRecursion IsFeedless (map (declared text) ls) → (ends_with_feed text ≡ true → AllByRecursion (Fed text) ls) → AllByRecursion (Known text) ls
facts_of text [] plain fits sound feedless fed = tt
facts_of text (l ∷ ls) plain fits sound feedless fed = (record { plain = plain; fits = fits; sound = sound.0; feedless = feedless.0; fed = λ q. (fed q).0 }, facts_of text ls plain fits (sound.1) (feedless.1) (λ q. (fed q).1))

pub lists-declared : ListsAreDeclared
unfolding blocks_in page_in known_of blocks blocks_of has_one_line_blocks
lists-declared text fits holds = record {
  blocks = ap (λ (s : State). tree_of (placed_in text s.pieces s.blocks)) page_is ∙ holds_read text top k.blocks k.pieces both.found refl k.holds ∙ sym (t.blocks);
  definitions = ap (λ (s : State). s.definitions) page_is ∙ append-nil both.ds ∙ sym (t.definitions);
}
  where
    ds : List DeclaredLine
    ds = declared_lines text

    covered : (list_any is_special text ≡ false) × (are_short_lines 4 true ds ≡ true)
    covered = both_true (list_any is_special text) (are_short_lines 4 true ds) holds

    plain : IsPlain text
    plain = covered.0

    same : map (declared text) (lines_of text) ≡ ds
    same = lines_same text plain

    all : Rows text 4 true 0 (lines_of text)
    all = rows_of text (lines_of text) 4 true 0 (subst (λ (ls : List DeclaredLine). are_short_lines 4 true ls ≡ true) (sym same) (covered.1))
        (facts_of text (lines_of text) plain fits (lines_sound text plain) (subst (λ (ls : List DeclaredLine). AllByRecursion IsFeedless ls) (sym same) (feedless_lines text)) (λ e. lines_fed text plain e)) (numbered_from text text 0 0 0 (omega (arith, fits)))

    count : length all.lead + row_count text all.rows ≡ length (lines_of text)
    count =
        let one : length (blank_lines_of text all.lead ++ row_lines text all.rows) ≡ length (blank_lines_of text all.lead) + length (row_lines text all.rows) = length-append (blank_lines_of text all.lead) (row_lines text all.rows) in
        let two : length (blank_lines_of text all.lead) ≡ length all.lead = length-map all.lead (λ (b : BlankRow text). b.line) in
        let three : length (blank_lines_of text all.lead ++ row_lines text all.rows) ≡ length (lines_of text) = ap length all.lines in
        omega (arith, one, two, three, row_span text all.rows)

    last_page : State
    last_page = fold (line_taken text) start_page (lines_of text)

    both : Both text ds last_page
    both =
        subst (λ (s : State). Both text ds s) (ap (fold (line_taken text) start_page) all.lines)
        (subst (λ (ls : List DeclaredLine). Both text ls (fold (line_taken text) start_page (blank_lines_of text all.lead ++ row_lines text all.rows))) (all.shows ∙ same)
        (both_of text all.lead all.rows all.runs all.follow (omega (arith, count, lines_few text, fits))))

    k : Final text last_page both.found both.ds
    k = both.read

    t : AreTold (blocks_from (size ds) 0 ds) both.found both.ds
    t = both.declares

    page_is : closed_to text 0 last_page ≡ after_these both.ds (stack_page [] leaf.Nothing k.blocks k.pieces k.end k.number k.kept)
    page_is = k.is
