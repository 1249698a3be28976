-- Texts of lines: they are quoted line by line, and a text of quoted lines ends before an empty line.
use Rattle.std.proofs.Common.{◌≡◌, ℕ, zero, suc, ◌+◌, ◌-◌, ◌*◌, ◌^◌, ◌<◌, Bool, true, false, ◌==◌, ◌||◌, nat_lt, List, [], ◌∷◌, ◌++◌, length, map, codes, replicate, refl, ap, sym, subst, ◌∙◌, arith, append_assoc, append-nil, length-append, true≢false}
use Rattle.std.specs.Prelude.{None}
use Rattle.std.specs.List.{AllByRecursion, fold, list_any}
use Rattle.tocmark_read_scan.specs.declared.syntax.TheConstants.{CORE}
use Rattle.std.proofs.lemmas.Bool.Decides.{nat_tests}
use Rattle.tocmark_read_lines.specs.Lines.{lines_from, lines_of}
use Rattle.tocmark_read_lines.specs.declared.container.Opened.{Opened}
use Rattle.tocmark_read_lines.specs.declared.line.Line.{Line}
use Rattle.tocmark_read_page.specs.Pages.{State, first_page, is_quote, closed_to}
use Rattle.tocmark_read_constructs.specs.Metadata.{known_of}
use Rattle.tocmark_read_page.specs.declared.leaf.Leaf.{Leaf}
use Rattle.tocmark_read_page.specs.Definitions.{DefinitionView}
use Rattle.tocmark_read_blocks.specs.Blocks.{core_known, line_taken_in, page_in, blocks_in}
use Rattle.tocmark_read_blocks.proofs.PlainLines.{IsWithin}
use Rattle.tocmark_text_laws.specs.Quoted.{Mark, marked, quoted, ends_line, AreMarks, Told, blocks_told, outer_quote, deeper}
use Rattle.tocmark_text_laws.specs.Sequence.{after_lines, IsClosed, IsQuiet, IsSequence, later, ends_all}
use Rattle.tocmark_text_laws.proofs.QuotedContainers.{OpenedOn, IsOuter}
use Rattle.tocmark_text_laws.proofs.QuotedPages.{Inside, inside_more}
use Rattle.tocmark_text_laws.proofs.QuotedLines.{LinesOn, IsMarked, quoted_lines, some_line}
use Rattle.tocmark_text_laws.proofs.QuotedRun.{quoted_blocks}
use Rattle.tocmark_text_laws.proofs.QuotedTurns.{line_two, first_two}
use Rattle.tocmark_text_laws.proofs.Pairs.{After}
use Rattle.tocmark_text_laws.proofs.SequenceBlank.{blank_between}
use Rattle.tocmark_text_laws.proofs.SequenceLines.{blanks, blank_lines, blanks_taken}
use Rattle.tocmark_text_laws.proofs.SequenceRun.{closed_already, tell, whole_page, texts_row}
use Rattle.tocmark_document_laws.specs.ReadBack.{feed_if}

-- lines, each with the line feed that ends it
abbrev pub fed : List (List ℕ) → List ℕ
fed [] = []
fed (l ∷ ls) = l ++ 10 ∷ fed ls

-- lines with a line feed between two, and after the last one or not
abbrev pub ended : Bool → List (List ℕ) → List ℕ
ended e [] = []
ended e (l ∷ []) = l ++ feed_if e
ended e (l ∷ m ∷ ms) = l ++ 10 ∷ ended e (m ∷ ms)

pub ended_fed : (ls : List (List ℕ)) → ended true ls ≡ fed ls
ended_fed [] = refl
ended_fed (l ∷ []) = refl
ended_fed (l ∷ m ∷ ms) = ap (λ (t : List ℕ). l ++ 10 ∷ t) (ended_fed (m ∷ ms))

pub ended_after : (e : Bool) (xs : List (List ℕ)) (y : List ℕ) (ys : List (List ℕ)) → ended e (xs ++ y ∷ ys) ≡ fed xs ++ ended e (y ∷ ys)
ended_after e [] y ys = refl
ended_after e (x ∷ []) y ys = sym (append_assoc x (10 ∷ []) (ended e (y ∷ ys)))
ended_after e (x ∷ z ∷ zs) y ys = ap (λ (t : List ℕ). x ++ 10 ∷ t) (ended_after e (z ∷ zs) y ys) ∙ sym (append_assoc x (10 ∷ fed (z ∷ zs)) (ended e (y ∷ ys)))

pub fed_empty : (n : ℕ) → fed (replicate n []) ≡ replicate n 10
fed_empty zero = refl
fed_empty (suc n) = ap (λ (t : List ℕ). 10 ∷ t) (fed_empty n)

-- bytes that end no line, and are no tabs
abbrev pub AreWithin : List ℕ → Type 0
AreWithin l = AllByRecursion IsWithin l

abbrev pub LinesWithin : List (List ℕ) → Type 0
LinesWithin ls = AllByRecursion AreWithin ls

-- the last line isn't empty, or has a line feed
abbrev pub EndsWell : Bool → List (List ℕ) → Type 0
EndsWell true ls = Unit {0}
EndsWell false [] = Unit {0}
EndsWell false (l ∷ []) = 0 < length l
EndsWell false (l ∷ m ∷ ms) = EndsWell false (m ∷ ms)

-- quoted lines

-- the marker of the writer: a space, `>`, and a space
abbrev pub mark : ℕ → Mark
mark n = record { spaces = 1; spaced = true }

abbrev pub with_mark : List ℕ → List ℕ
with_mark l = codes " > " ++ l

not_end : (b : ℕ) (bs : List ℕ) → IsWithin b → ends_line b bs ≡ false
not_end b [] h = rw (h.feed, h.return) refl
not_end b (c ∷ cs) h = rw (h.feed, h.return) refl

feed_end : (bs : List ℕ) → ends_line 10 bs ≡ true
feed_end [] = refl
feed_end (c ∷ cs) = refl

inner_marked : (n : ℕ) (l rest : List ℕ) → AreWithin l → marked mark n false (l ++ rest) ≡ l ++ marked mark n false rest
inner_marked n [] rest h = refl
inner_marked n (b ∷ bs) rest h = ap (λ k. b ∷ marked mark n k (bs ++ rest)) (not_end b (bs ++ rest) (h.0)) ∙ ap (λ (t : List ℕ). b ∷ t) (inner_marked n bs rest (h.1))

line_marked : (n : ℕ) (l rest : List ℕ) → AreWithin l → marked mark n true (l ++ 10 ∷ rest) ≡ with_mark l ++ 10 ∷ marked mark (n + 1) true rest
line_marked n [] rest h = ap (λ k. codes " > " ++ 10 ∷ marked mark (n + 1) k rest) (feed_end rest)
line_marked n (b ∷ bs) rest h =
    ap (λ k. codes " > " ++ b ∷ marked mark (n + 1) k (bs ++ 10 ∷ rest)) (not_end b (bs ++ 10 ∷ rest) (h.0))
    ∙ ap (λ (t : List ℕ). codes " > " ++ b ∷ t) (inner_marked (n + 1) bs (10 ∷ rest) (h.1))
    ∙ ap (λ k. codes " > " ++ b ∷ (bs ++ 10 ∷ marked mark (n + 1) k rest)) (feed_end rest)

last_marked : (n : ℕ) (l : List ℕ) → AreWithin l → 0 < length l → marked mark n true l ≡ with_mark l
last_marked n [] h some = absurd (omega (arith, some))
last_marked n (b ∷ bs) h some =
    ap (λ k. codes " > " ++ b ∷ marked mark (n + 1) k bs) (not_end b bs (h.0))
    ∙ ap (λ (t : List ℕ). codes " > " ++ b ∷ marked mark (n + 1) false t) (sym (append-nil bs))
    ∙ ap (λ (t : List ℕ). codes " > " ++ b ∷ t) (inner_marked (n + 1) bs [] (h.1) ∙ append-nil bs)

lines_marked : (e : Bool) (n : ℕ) (ls : List (List ℕ)) → LinesWithin ls → EndsWell e ls → marked mark n true (ended e ls) ≡ ended e (map with_mark ls)
lines_marked e n [] h w = refl
lines_marked true n (l ∷ []) h w = line_marked n l [] (h.0)
lines_marked false n (l ∷ []) h w =
    ap (marked mark n true) (append-nil l) ∙ last_marked n l (h.0) w ∙ sym (append-nil (with_mark l))
lines_marked true n (l ∷ m ∷ ms) h w = line_marked n l (ended true (m ∷ ms)) (h.0) ∙ ap (λ (t : List ℕ). with_mark l ++ 10 ∷ t) (lines_marked true (n + 1) (m ∷ ms) (h.1) tt)
lines_marked false n (l ∷ m ∷ ms) h w = line_marked n l (ended false (m ∷ ms)) (h.0) ∙ ap (λ (t : List ℕ). with_mark l ++ 10 ∷ t) (lines_marked false (n + 1) (m ∷ ms) (h.1) w)

pub are_quoted : (e : Bool) (ls : List (List ℕ)) → LinesWithin ls → EndsWell e ls → quoted mark (ended e ls) ≡ ended e (map with_mark ls)
are_quoted e ls h w = lines_marked e 0 ls h w

pub are_marks : (n : ℕ) (front : Bool) (bs : List ℕ) → AreMarks mark n front bs
are_marks n front [] = tt
are_marks n true (b ∷ bs) = ((omega arith, refl), are_marks (n + 1) (ends_line b bs) bs)
are_marks n false (b ∷ bs) = are_marks n (ends_line b bs) bs

-- no tab is in such lines

any_both : (xs ys : List ℕ) → list_any (λ b. b == 9) xs ≡ false → list_any (λ b. b == 9) ys ≡ false → list_any (λ b. b == 9) (xs ++ ys) ≡ false
any_both [] ys h k = k
any_both (x ∷ xs) ys h k = by (x == 9) refl h (λ u. any_both xs ys u k)
  where
    by : (c : Bool) → (x == 9) ≡ c → ((x == 9) || list_any (λ b. b == 9) xs) ≡ false → (list_any (λ b. b == 9) xs ≡ false → list_any (λ b. b == 9) (xs ++ ys) ≡ false) → ((x == 9) || list_any (λ b. b == 9) (xs ++ ys)) ≡ false
    by true e u f = absurd (true≢false (sym (ap (λ c. c || list_any (λ b. b == 9) xs) e) ∙ u))
    by false e u f = ap (λ c. c || list_any (λ b. b == 9) (xs ++ ys)) e ∙ f (sym (ap (λ c. c || list_any (λ b. b == 9) xs) e) ∙ u)

line_tabless : (l : List ℕ) → AreWithin l → list_any (λ b. b == 9) l ≡ false
line_tabless [] h = refl
line_tabless (b ∷ bs) h = rw (h.0).tab (line_tabless bs (h.1))

pub tabless : (e : Bool) (ls : List (List ℕ)) → LinesWithin ls → list_any (λ b. b == 9) (ended e ls) ≡ false
tabless e [] h = refl
tabless true (l ∷ []) h = any_both l (10 ∷ []) (line_tabless l (h.0)) refl
tabless false (l ∷ []) h = any_both l [] (line_tabless l (h.0)) refl
tabless e (l ∷ m ∷ ms) h = any_both l (10 ∷ ended e (m ∷ ms)) (line_tabless l (h.0)) (tabless e (m ∷ ms) (h.1))

-- the page after quoted lines has an open quote

abbrev Reaches : List ℕ → List ℕ → State → State → Type 0
Reaches t q there here = (n : ℕ) × Inside t q n there here

run_two : (t q : List ℕ) (n before : ℕ) (ls' ls : List Line) (there here : State) → LinesOn IsMarked t q before n ls' ls → 2 * n + 9 < 2 ^ 64 → Inside t q (2 * n) there here
    → Reaches t q (fold (line_taken_in core_known q) there ls') (fold (line_taken_in core_known t) here ls)
run_two t q n before [] [] there here h few g = (2 * n, g)
run_two t q n before [] (l ∷ ls) there here h few g = absurd h
run_two t q n before (l' ∷ ls') [] there here h few g = absurd h
run_two t q n before (l' ∷ ls') (l ∷ ls) there here (row, rest) few g =
    run_two t q l.next (before + 1) ls' ls (line_taken_in core_known q there l') (line_taken_in core_known t here l) rest row.line.near
    (inside_more t q (2 * n + 2 * (l.end - l.start)) (2 * l.next) (line_taken_in core_known q there l') (line_taken_in core_known t here l) (omega (arith, row.low, row.line.order, row.line.onto)) (line_two t q (2 * n) before n l' l there here row few g))

run_first : (t q : List ℕ) (ls' ls : List Line) → LinesOn IsMarked t q 0 0 ls' ls → 0 < length ls → Reaches t q (fold (line_taken_in core_known q) first_page ls') (fold (line_taken_in core_known t) first_page ls)
run_first t q [] [] h some = absurd (omega (arith, some))
run_first t q [] (l ∷ ls) h some = absurd h
run_first t q (l' ∷ ls') [] h some = absurd h
run_first t q (l' ∷ ls') (l ∷ ls) (row, rest) some =
    run_two t q l.next 1 ls' ls (line_taken_in core_known q first_page l') (line_taken_in core_known t first_page l) rest row.line.near
    (inside_more t q (2 * (l.end - l.start)) (2 * l.next) (line_taken_in core_known q first_page l') (line_taken_in core_known t first_page l) (omega (arith, row.line.order, row.line.onto)) (first_two t q 0 0 l' l row))

outer_first : (k : Leaf) (there here : List Opened) → After IsOuter OpenedOn there here → ends_all there k ≡ true
unfolding is_quote
outer_first k [] here h = absurd h
outer_first k (o ∷ os) here h = ap is_quote (h.0).quote

pub quote_quiet : (marks : ℕ → Mark) (t : List ℕ) → 0 < length t → 8 * length t + 20 < 2 ^ 64 → list_any (λ b. b == 9) t ≡ false → AreMarks marks 0 true t → ends_all (after_lines (quoted marks t)).opened (after_lines (quoted marks t)).leaf ≡ true
quote_quiet marks t some fits plain are = by (run_first t (quoted marks t) (lines_of (quoted marks t)) (lines_of t) (quoted_lines marks t fits plain are) (some_line t some))
  where
    by : Reaches t (quoted marks t) (after_lines (quoted marks t)) (after_lines t) → ends_all (after_lines (quoted marks t)).opened (after_lines (quoted marks t)).leaf ≡ true
    by (n, h) = outer_first (after_lines (quoted marks t)).leaf (after_lines (quoted marks t)).opened (after_lines t).opened h.opened.after

-- what is read of a text: these blocks, none of which is in a list, and no definitions
pub record Reads (text : List ℕ) (tolds : List Told) : Type 0 where
  pub blocks : blocks_told text (blocks_in CORE text) ≡ tolds
  pub definitions : (blocks_in CORE text).definitions ≡ []
  pub listless : AllByRecursion (λ (b : Told). b.list ≡ None) tolds

pub later_same : (n : ℕ) (bs : List Told) → AllByRecursion (λ (b : Told). b.list ≡ None) bs → map (later n) bs ≡ bs
later_same n [] h = refl
later_same n (b ∷ bs) h = ap (λ (z : Told). z ∷ map (later n) bs) one ∙ ap (λ (zs : List Told). b ∷ zs) (later_same n bs (h.1))
  where
    one : later n b ≡ b
    one = rw (h.0) refl

deep_listless : (bs : List Told) → AllByRecursion (λ (b : Told). b.list ≡ None) bs → AllByRecursion (λ (b : Told). b.list ≡ None) (map deeper bs)
deep_listless [] h = tt
deep_listless (b ∷ bs) h = (rw (h.0) refl, deep_listless bs (h.1))

both_listless : (xs ys : List Told) → AllByRecursion (λ (b : Told). b.list ≡ None) xs → AllByRecursion (λ (b : Told). b.list ≡ None) ys → AllByRecursion (λ (b : Told). b.list ≡ None) (xs ++ ys)
both_listless [] ys h k = k
both_listless (x ∷ xs) ys h k = (h.0, both_listless xs ys (h.1) k)

-- texts in a row

sequence : (whole t u : List ℕ) (xs ys : List Told) → IsSequence whole t u → Reads t xs → Reads u ys → Reads whole (xs ++ ys)
sequence whole t u xs ys s h k = record {
  blocks = s.blocks ∙ ap (λ (zs : List Told). zs ++ map (later count) (blocks_told u (blocks_in CORE u))) h.blocks ∙ ap (λ (zs : List Told). xs ++ map (later count) zs) k.blocks ∙ ap (λ (zs : List Told). xs ++ zs) (later_same count ys k.listless);
  definitions = s.definitions ∙ ap (λ (ds : List DefinitionView). ds ++ (blocks_in CORE u).definitions) h.definitions ∙ k.definitions;
  listless = both_listless xs ys h.listless k.listless;
}
  where
    count : ℕ
    count = length (blocks_in CORE t).blocks

pub in_a_row : (t u : List ℕ) (xs ys : List Told) → IsClosed t → 4 * (length t + length u) + 20 < 2 ^ 64 → Reads t xs → Reads u ys → Reads (t ++ u) (xs ++ ys)
in_a_row t u xs ys c small h k = sequence (t ++ u) t u xs ys (texts_row t u c small) h k

pub with_blank : (t u : List ℕ) (xs ys : List Told) → IsQuiet t → 4 * (length t + length u) + 28 < 2 ^ 64 → Reads t xs → Reads u ys → Reads (t ++ 10 ∷ u) (xs ++ ys)
with_blank t u xs ys c small h k = sequence (t ++ 10 ∷ u) t u xs ys (blank_between t u c small) h k

-- an empty line is closed, and says nothing
no_line : (text : List ℕ) (before at : ℕ) → lines_from text before at at [] ≡ []
no_line text before at = let none : nat_lt at at ≡ false = grind (arith, nat_tests) in rw none refl

feed_after : after_lines (10 ∷ []) ≡ first_page
feed_after =
    ap (fold (line_taken_in core_known (10 ∷ [])) first_page) (blank_lines (10 ∷ []) [] 0 1 ∙ ap (λ ls. blanks 0 1 ++ ls) (no_line (10 ∷ []) (0 + 1) (0 + 1)))
    ∙ blanks_taken (10 ∷ []) 0 1 []

feed_closed : IsClosed (10 ∷ [])
feed_closed = record { line = ([], refl); leaf = ap (λ (s : State). s.leaf) feed_after; opened = ap (λ (s : State). s.opened) feed_after }

-- a text after whose lines the page is the first one
none_read : (t : List ℕ) → after_lines t ≡ first_page → Reads t []
unfolding blocks_in page_in known_of
none_read t h = record { blocks = ap (tell t) page; definitions = ap (λ (s : State). s.definitions) page; listless = tt }
  where
    page : whole_page t ≡ first_page
    page = ap (closed_to t 0) h ∙ closed_already t first_page refl refl

pub feed_reads : Reads (10 ∷ []) []
feed_reads = none_read (10 ∷ []) feed_after

pub nothing_reads : Reads [] []
nothing_reads = none_read [] refl

pub behind_feeds : (n : ℕ) (u : List ℕ) (ys : List Told) → 4 * (n + length u) + 20 < 2 ^ 64 → Reads u ys → Reads (replicate n 10 ++ u) ys
behind_feeds zero u ys small h = h
behind_feeds (suc n) u ys small h =
    in_a_row (10 ∷ []) (replicate n 10 ++ u) [] ys feed_closed (omega (arith, small, length-append (replicate n 10) u, long n)) feed_reads (behind_feeds n u ys (omega (arith, small)) h)
  where
    long : (n : ℕ) → length {A = ℕ} (replicate n 10) ≡ n
    long zero = refl
    long (suc n) = ap suc (long n)

-- quoted lines

pub record Quiet (text : List ℕ) : Type 0 where
  pub ends : ends_all (after_lines text).opened (after_lines text).leaf ≡ true

pub quote_reads : (e : Bool) (ls : List (List ℕ)) (xs : List Told) → LinesWithin ls → EndsWell e ls → 0 < length (ended e ls) → 8 * length (ended e ls) + 20 < 2 ^ 64 → Reads (ended e ls) xs
    → Reads (ended e (map with_mark ls)) (outer_quote ∷ map deeper xs)
quote_reads e ls xs h w some fits k = subst (λ (t : List ℕ). Reads t (outer_quote ∷ map deeper xs)) (are_quoted e ls h w) read
  where
    t : List ℕ
    t = ended e ls

    read : Reads (quoted mark t) (outer_quote ∷ map deeper xs)
    read =
        let q = quoted_blocks mark t some fits (tabless e ls h) (are_marks 0 true t) in
        record {
          blocks = q.blocks ∙ ap (λ (bs : List Told). outer_quote ∷ map deeper bs) k.blocks;
          definitions = q.definitions ∙ k.definitions;
          listless = (refl, deep_listless xs k.listless);
        }

pub quote_ends : (ls : List (List ℕ)) → LinesWithin ls → 0 < length (ended true ls) → 8 * length (ended true ls) + 20 < 2 ^ 64 → Quiet (ended true (map with_mark ls))
quote_ends ls h some fits =
    subst Quiet (are_quoted true ls h tt) (record { ends = quote_quiet mark (ended true ls) some fits (tabless true ls h) (are_marks 0 true (ended true ls)) })

-- lines with a line feed at the end are some bytes and that
pub fed_front : (l : List ℕ) (ls : List (List ℕ)) → (front : List ℕ) × (ended true (l ∷ ls) ≡ front ++ 10 ∷ [])
fed_front l [] = (l, refl)
fed_front l (m ∷ ms) = let more = fed_front m ms in (l ++ 10 ∷ more.0, ap (λ (xs : List ℕ). l ++ 10 ∷ xs) (more.1) ∙ sym (append_assoc l (10 ∷ more.0) (10 ∷ [])))
