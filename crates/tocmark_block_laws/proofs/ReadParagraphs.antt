-- Of a paragraph the reader keeps the lines that are declared, lazy ones, too, and finds the definitions of links at its front.
use Rattle.std.proofs.Common.{◌≡◌, ℕ, zero, suc, ◌+◌, ◌-◌, ◌^◌, ◌<◌, ◌≤◌, Bool, true, false, ◌==◌, ◌&&◌, not, if◌then◌else◌, nat_lt, nat_le, List, [], ◌∷◌, ◌++◌, length, map, drop, refl, ap, sym, subst, ◌∙◌, arith, append_assoc, append-nil, length-append, length-drop, true≢false}
use Rattle.std.specs.Prelude.{Option, Some, None}
use Rattle.std.specs.List.{AllByRecursion, fold}
use Rattle.std.proofs.lemmas.Bool.Decides.{nat_tests}
use Rattle.std.proofs.lemmas.List.{drop-drop, length-map, map-append}
use Rattle.tocmark_event.specs.declared.event.HeadingLevel.{HeadingLevel}
use Rattle.tocmark_event.specs.declared.event.HeadingLevel.TheVariants as level
use Rattle.tocmark_read_scan.specs.Basic.{plus, byte_at, bytes_between}
use Rattle.tocmark_read_scan.proofs.PlainPieces.{drop_behind}
use Rattle.tocmark_read_scan.proofs.Repeats.{repeated_zero}
use Rattle.tocmark_read_lines.specs.Cells.{cell_byte, cell_place, cells_at, ink_from, run_of}
use Rattle.tocmark_read_lines.proofs.Columns.{byte_asked, bytes_kept, plain_cells}
use Rattle.tocmark_read_lines.specs.Marks.{is_underline_byte, tail_of, underline_at}
use Rattle.tocmark_read_lines.specs.declared.cell.Cursor.{Cursor}
use Rattle.tocmark_read_lines.specs.declared.html.HtmlKind.TheVariants as html
use Rattle.tocmark_read_lines.specs.declared.line.Line.{Line}
use Rattle.tocmark_read_page.specs.Definitions.{DefinitionView, define_once, definitions_from}
use Rattle.tocmark_read_page.specs.Leaves.{is_paragraph}
use Rattle.tocmark_read_page.specs.Pages.{State}
use Rattle.tocmark_read_page.specs.declared.page.Block.{Block as ReadBlock}
use Rattle.tocmark_read_page.specs.declared.piece.Piece.{Piece}
use Rattle.tocmark_read_blocks.specs.Blocks.{line_taken, started}
use Rattle.tocmark_read_blocks.specs.Leaves.{leaf_turn}
use Rattle.tocmark_read_blocks.specs.declared.leaf.LeafStart.{LeafStart}
use Rattle.tocmark_read_blocks.specs.declared.leaf.LeafStart.TheVariants as start
use Rattle.tocmark_commonmark.specs.Lines.{Line as DeclaredLine, Part, indent, ink, line_ink, cells}
use Rattle.tocmark_commonmark.specs.Tree.{Blocks, none, more, Heading, Found, ended, ends_open, tree, defined}
use Rattle.tocmark_commonmark.specs.Beginnings.{Beginning, BlankLine, CodeLine, QuoteLine, HeadingLine, FenceLine, HtmlLine, RuleLine, ItemLine, TextLine, LazyLine, beginning, interrupts, may_be_lazy}
use Rattle.tocmark_commonmark.specs.Leaves.{counted, definitions, text_of, underline, underlined, Turn, Stops, GoesOn, Underlines, turn_of, turn, turned, paragraph_lines, paragraph_left, definitions_found, paragraph_with, paragraph_of}
use Rattle.tocmark_commonmark.specs.Blocks.{blocks_from}
use Rattle.tocmark_block_laws.specs.Trees.{told, line_text, more_if}
use Rattle.tocmark_block_laws.specs.Quotes.{IsPlain, ends_with_feed, is_leaf}
use Rattle.tocmark_block_laws.proofs.Marks.{heading_later}
use Rattle.tocmark_block_laws.proofs.Open.{all_append, Open, touch, raise}
use Rattle.tocmark_block_laws.proofs.Starts.{start_as, is_blank_kind, is_quote_kind, may_underline, left_at}
use Rattle.tocmark_block_laws.proofs.Seen.{Seen, FactsOf, facts}
use Rattle.tocmark_block_laws.proofs.Pages.{here, begin, piece_in, line_passes, line_stops, plain_begins, open_begins, below_begins, closes_first, same_start, quote_start}
use Rattle.tocmark_block_laws.proofs.Told.{also, left_as, left_told, heading_left_told, Run, Holds, holds_if, holds_later}
use Rattle.tocmark_block_laws.proofs.Ends.{Fewer, Coming, Plainly, Lazily, shown, bytes_in, weigh, taken, In, Lines, said, Shuts, Ends, Reads, shuts_leaf, shuts_after, taken_after, legit_after, ends_cons, ends_defined, ends_left, no_blocks, Again, goal_of, from_there}
use Rattle.tocmark_block_laws.proofs.Apart.{after_these, leaf_started_after, line_after, started_after, join_after}
use Rattle.tocmark_block_laws.proofs.Feeds.{has_feed}
use Rattle.tocmark_block_laws.proofs.Fronts.{part_at}
use Rattle.tocmark_block_laws.proofs.LinkDefinitions.{AreFeedless, HasMark, brackets_none, count_low, definitions_longer, mark_none, none_counted, reads_same}
use Rattle.tocmark_block_laws.proofs.Paragraphs.{Draft, open_page, text_first, text_goes_on, left_block, heading_block, shut, headed, paragraph_closed, paragraph_shuts, is_plain_start, underline_heads, underline_passes, rule_seen}
use Rattle.tocmark_block_laws.proofs.TextLines.{no_tab, drop_plain, between_plain}

-- what a line is to the paragraph above it

turn_blank : (k : Beginning) → is_blank_kind k ≡ true → (u v : Option HeadingLevel) → turn_of k u ≡ turn_of k v
turn_blank BlankLine e u v = refl
turn_blank CodeLine e u v = absurd (true≢false (sym e))
turn_blank QuoteLine e u v = absurd (true≢false (sym e))
turn_blank (HeadingLine h) e u v = absurd (true≢false (sym e))
turn_blank (FenceLine f) e u v = absurd (true≢false (sym e))
turn_blank (HtmlLine k) e u v = absurd (true≢false (sym e))
turn_blank RuleLine e u v = absurd (true≢false (sym e))
turn_blank (ItemLine m) e u v = absurd (true≢false (sym e))
turn_blank TextLine e u v = absurd (true≢false (sym e))
turn_blank LazyLine e u v = absurd (true≢false (sym e))

-- definitions and the number of their lines, after these of lines that are all definitions
abbrev found_before : List (List ℕ) → List DefinitionView → List DefinitionView × ℕ → List DefinitionView × ℕ
found_before done ds d = (ds ++ d.0, length done + d.1)

-- such lines, and others after them
abbrev Defines : List (List ℕ) → List DefinitionView → List (List ℕ) → Type 0
Defines done ds texts = definitions (done ++ texts) ≡ found_before done ds (definitions texts)

-- whatever lines come after those
abbrev pub IsLater : List (List ℕ) → List DefinitionView → List (List ℕ) → Type 0
IsLater done ds texts = (later : List (List ℕ)) → Defines done ds (texts ++ later)

underlined_same : (done : List (List ℕ)) (ds : List DefinitionView) (texts : List (List ℕ)) → Defines done ds texts → (u : Option HeadingLevel) → underlined (done ++ texts) u ≡ underlined texts u
underlined_same done ds texts d None = refl
underlined_same done ds texts d (Some v) =
    let long : length (done ++ texts) ≡ length done + length texts = length-append done texts in
    let same : nat_lt (length done + (definitions texts).1) (length (done ++ texts)) ≡ nat_lt ((definitions texts).1) (length texts) = grind (arith, long, nat_tests) in
    ap (λ (x : List DefinitionView × ℕ). if nat_lt (x.1) (length (done ++ texts)) then Some v else None) d ∙ ap (λ k. if k then Some v else None) same

turn_same : (text : List ℕ) (r : Run) (v : In text r) (f : FactsOf text (length r.outer) v) (done : List (List ℕ)) (ds : List DefinitionView) (texts : List (List ℕ)) → Defines done ds texts → turn (done ++ texts) (left_at v.place v.bytes) ≡ turn_of f.kind (underlined texts f.level)
turn_same text r v f done ds texts d = ap (λ k. turn_of k (underline (done ++ texts) (left_at v.place v.bytes))) f.begins ∙ by (is_blank_kind f.kind) refl
  where
    by : (b : Bool) → is_blank_kind f.kind ≡ b → turn_of f.kind (underline (done ++ texts) (left_at v.place v.bytes)) ≡ turn_of f.kind (underlined texts f.level)
    by true e = turn_blank f.kind e (underline (done ++ texts) (left_at v.place v.bytes)) (underlined texts f.level)
    by false e = ap (turn_of f.kind) (f.under e (done ++ texts) ∙ underlined_same done ds texts d f.level)

-- an underline has a mark in front

marked : (xs : List ℕ) (v : HeadingLevel) → IsPlain xs → underline_at (cells xs) 0 ≡ Some v → HasMark xs
unfolding underline_at is_underline_byte
marked xs v plain h = by (is_underline_byte b) refl h
  where
    b : ℕ
    b = cell_byte (cells xs) 0

    first : b ≡ byte_at xs 0
    first = ap (λ cs. cell_byte cs 0) (plain_cells 0 xs (no_tab xs plain)) ∙ byte_asked (cells_at 0 [] xs) 0 ∙ ap (λ ys. byte_at ys 0) (bytes_kept 0 [] xs)

    of : (ys : List ℕ) → is_underline_byte (byte_at ys 0) ≡ true → HasMark ys
    of [] e = absurd (true≢false (sym e))
    of (y ∷ ys) e = record { mark = y; rest = ys; is = refl; kind = e }

    some : (w : Bool) → (if not (false && w) then None else (if b == 61 then Some level.H1 else Some level.H2)) ≡ Some v → HasMark xs
    some w e = absurd cc

    by : (k : Bool) → is_underline_byte b ≡ k → (if not (k && nat_le (length (cells xs)) (ink_from (cells xs) (plus 0 (run_of (cells xs) 0 b)))) then None else (if b == 61 then Some level.H1 else Some level.H2)) ≡ Some v → HasMark xs
    by true q e = of xs (sym (ap is_underline_byte first) ∙ q)
    by false q e = some (nat_le (length (cells xs)) (ink_from (cells xs) (plus 0 (run_of (cells xs) 0 b)))) e

-- a paragraph that an underline would make a heading
abbrev one_line : List (List ℕ)
one_line = (97 ∷ []) ∷ []

line_marked : (text : List ℕ) (d : ℕ) (v : Seen text d) (f : FactsOf text d v) (u : HeadingLevel) → is_blank_kind f.kind ≡ false → f.level ≡ Some u → HasMark (line_ink (left_at v.place v.bytes))
line_marked text d v f u e g = by (nat_le 4 (indent p)) (underline_at (cells xs) 0) refl (f.under e one_line ∙ ap (underlined one_line) g ∙ some)
  where
    p : Part
    p = part_at v.place.column v.bytes

    xs : List ℕ
    xs = ink p

    plain : IsPlain xs
    plain = drop_plain _ v.bytes (subst (λ ys. IsPlain ys) (sym v.bytes_are) (drop_plain v.place.column (bytes_between text v.line.start v.line.end) (between_plain text v.line.start v.line.end f.plain)))

    some : underlined one_line (Some u) ≡ Some u
    some = ap (λ (x : List DefinitionView × ℕ). if nat_lt (x.1) 1 then Some u else None) (brackets_none (97 ∷ []) [] refl)

    by : (far : Bool) (o : Option HeadingLevel) → underline_at (cells xs) 0 ≡ o → (if far then None else underlined one_line o) ≡ Some u → HasMark xs
    by true o i h = absurd cc
    by false None i h = absurd cc
    by false (Some w) i h = marked xs w plain i

-- what is known of an open paragraph: definitions that were taken from it, with their lines, and the lines after those
pub record Opened (text : List ℕ) (r : Run) (fuel at : ℕ) (whole : List DeclaredLine) (cs : Lines text r) (ps qs : List Piece) (done : List (List ℕ)) (ds : List DefinitionView) (texts : List (List ℕ)) : Type 0 where
  pub lines : map (line_text text) qs ≡ texts
  pub plain : IsPlain text
  pub feedless : AreFeedless (done ++ texts)
  pub some : 0 < length (done ++ texts)
  pub defines : Defines done ds texts
  pub rest : drop (length (done ++ texts)) whole ≡ said text r cs
  pub room : length ps + length qs + length cs + 1 < r.limit
  pub few : weigh text (length r.outer) cs ≤ fuel
  pub count : at + length (done ++ texts) + length cs ≡ r.count

all_behind : {A : Type 0} (P : A → Type 0) (xs ys : List A) → AllByRecursion P (xs ++ ys) → AllByRecursion P ys
all_behind P [] ys h = h
all_behind P (x ∷ xs) ys h = all_behind P xs ys (h.1)

pub drop_next : (n : ℕ) (xs : List DeclaredLine) (y : DeclaredLine) (ys : List DeclaredLine) → drop n xs ≡ y ∷ ys → drop (suc n) xs ≡ ys
drop_next zero [] y ys e = absurd cc
drop_next zero (x ∷ xs) y ys e = let q : xs ≡ ys = cc in q
drop_next (suc n) [] y ys e = absurd cc
drop_next (suc n) (x ∷ xs) y ys e = drop_next n xs y ys e

drop_rest : (done : List (List ℕ)) (texts : List (List ℕ)) (n : ℕ) → drop (length done + n) (done ++ texts) ≡ drop n texts
drop_rest done texts n = sym (drop-drop n (length done) (done ++ texts)) ∙ ap (drop n) (drop_behind done texts)

-- what follows at once
record Follows (text : List ℕ) (ps qs : List Piece) (texts : List (List ℕ)) : Type 0 where
  reads : definitions_from text qs [] ≡ definitions texts
  count : length qs ≡ length texts
  low : (definitions texts).1 ≤ length texts
  fits : length ps + (definitions texts).1 < 2 ^ 64

opened_follows : (text : List ℕ) (r : Run) (fuel at : ℕ) (whole : List DeclaredLine) (cs : Lines text r) (ps qs : List Piece) (done : List (List ℕ)) (ds : List DefinitionView) (texts : List (List ℕ)) → Opened text r fuel at whole cs ps qs done ds texts → Follows text ps qs texts
opened_follows text r fuel at whole cs ps qs done ds texts o = record {
  reads = reads_same text qs o.plain ∙ ap definitions o.lines;
  count = count;
  low = low;
  fits = let all : length ps + length qs + length cs + 1 < r.limit = o.room in let most : r.limit ≤ 2 ^ 64 = r.fits in omega (arith, all, most, count, low);
}
  where
    count : length qs ≡ length texts
    count = sym (length-map qs (line_text text)) ∙ ap (λ (xs : List (List ℕ)). length xs) o.lines

    low : (definitions texts).1 ≤ length texts
    low = count_low texts (all_behind (λ t. has_feed t ≡ false) done texts o.feedless)

-- what is declared of a paragraph that ends

stops_as : (fuel at : ℕ) (whole rest : List DeclaredLine) (done : List (List ℕ)) (ds : List DefinitionView) (texts : List (List ℕ)) → Defines done ds texts → drop (length (done ++ texts)) whole ≡ rest
    → from_there fuel at whole (paragraph_of at (done ++ texts, None))
    ≡ definitions_found at (ds ++ (definitions texts).0) (length done + (definitions texts).1) ++ (paragraph_left (at + (length done + (definitions texts).1)) (drop ((definitions texts).1) texts) ++ blocks_from fuel (at + length (done ++ texts)) rest)
stops_as fuel at whole rest done ds texts d e =
    ap (λ (x : List DefinitionView × ℕ). from_there fuel at whole (paragraph_with at (done ++ texts) None x)) d
    ∙ ap (λ us. (fs ++ paragraph_left (at + count) us) ++ blocks_from fuel (at + length (done ++ texts)) (drop (length (done ++ texts)) whole)) (drop_rest done texts ((definitions texts).1))
    ∙ ap (λ ls. (fs ++ left) ++ blocks_from fuel (at + length (done ++ texts)) ls) e
    ∙ append_assoc fs left (blocks_from fuel (at + length (done ++ texts)) rest)
  where
    count : ℕ
    count = length done + (definitions texts).1

    fs : List Found
    fs = definitions_found at (ds ++ (definitions texts).0) count

    left : List Found
    left = paragraph_left (at + count) (drop ((definitions texts).1) texts)

abbrev heading_of : ℕ → HeadingLevel → List (List ℕ) → List (List ℕ) → Found
heading_of at v done texts = ended (Heading v (text_of (drop ((definitions texts).1) texts))) (at + (length done + (definitions texts).1)) (at + length (done ++ texts))

heads_as : (fuel at : ℕ) (whole rest : List DeclaredLine) (done : List (List ℕ)) (ds : List DefinitionView) (texts : List (List ℕ)) (v : HeadingLevel) → Defines done ds texts → drop (length (done ++ texts) + 1) whole ≡ rest
    → from_there fuel at whole (paragraph_of at (done ++ texts, Some v))
    ≡ definitions_found at (ds ++ (definitions texts).0) (length done + (definitions texts).1) ++ (heading_of at v done texts ∷ blocks_from fuel (at + (length (done ++ texts) + 1)) rest)
heads_as fuel at whole rest done ds texts v d e =
    ap (λ (x : List DefinitionView × ℕ). from_there fuel at whole (paragraph_with at (done ++ texts) (Some v) x)) d
    ∙ ap (λ us. (fs ++ ended (Heading v (text_of us)) (at + count) (at + length (done ++ texts)) ∷ []) ++ blocks_from fuel (at + (length (done ++ texts) + 1)) (drop (length (done ++ texts) + 1) whole)) (drop_rest done texts ((definitions texts).1))
    ∙ ap (λ ls. (fs ++ heading_of at v done texts ∷ []) ++ blocks_from fuel (at + (length (done ++ texts) + 1)) ls) e
    ∙ append_assoc fs (heading_of at v done texts ∷ []) (blocks_from fuel (at + (length (done ++ texts) + 1)) rest)
  where
    count : ℕ
    count = length done + (definitions texts).1

    fs : List Found
    fs = definitions_found at (ds ++ (definitions texts).0) count

-- the paragraph is what is declared, if what comes after it is
paragraph_over : (text : List ℕ) (r : Run) (fuel at : ℕ) (whole rest : List DeclaredLine) (s : State) (found : Blocks) (done : List (List ℕ)) (ds : List DefinitionView) (texts : List (List ℕ)) → Defines done ds texts → drop (length (done ++ texts)) whole ≡ rest
    → (definitions texts).1 ≤ length texts → 0 < length (done ++ texts) → at + length (done ++ texts) < r.count
    → Ends text r s (also found (more_if (left_as (drop ((definitions texts).1) texts)) none)) (blocks_from fuel (at + length (done ++ texts)) rest)
    → Ends text r (after_these (ds ++ (definitions texts).0) s) found (from_there fuel at whole (paragraph_of at (done ++ texts, None)))
paragraph_over text r fuel at whole rest s found done ds texts d e low some before given =
    let n : ℕ = length done + (definitions texts).1 in
    let later : List Found = blocks_from fuel (at + length (done ++ texts)) rest in
    let us : List (List ℕ) = drop ((definitions texts).1) texts in
    let all : length (done ++ texts) ≡ length done + length texts = length-append done texts in
    let left : length us ≡ length texts - (definitions texts).1 = length-drop ((definitions texts).1) texts in
    let first : (at + n - 1 + 1 == r.count) ≡ false = grind (arith, all, low, some, before, nat_tests) in
    let second : (at + n + length us == r.count) ≡ false = grind (arith, all, left, low, before, nat_tests) in
    subst (λ (fs : List Found). Ends text r (after_these (ds ++ (definitions texts).0) s) found fs) (sym (stops_as fuel at whole rest done ds texts d e))
    (ends_defined text r s found (ds ++ (definitions texts).0) at n (paragraph_left (at + n) us ++ later) first
    (ends_left text r s found (at + n) us later second given))

paragraph_holds : (text : List ℕ) (r : Run) (fuel at : ℕ) (whole : List DeclaredLine) (cs : Lines text r) (bs : List ReadBlock) (ps qs : List Piece) (m : Draft) (found : Blocks) (done : List (List ℕ)) (ds : List DefinitionView) (texts : List (List ℕ)) → Holds text r bs ps found → Opened text r fuel at whole cs ps qs done ds texts
    → Holds text r (bs ++ left_block (length r.outer) ps qs ((definitions texts).1) m ∷ []) (ps ++ qs) (also found (more_if (left_as (drop ((definitions texts).1) texts)) none))
paragraph_holds text r fuel at whole cs bs ps qs m found done ds texts h o =
    holds_if text r bs ps found (left_block (length r.outer) ps qs ((definitions texts).1) m) (left_as (drop ((definitions texts).1) texts)) qs h refl
    (λ later. left_told text (length r.outer) ps qs ((definitions texts).1) (left_block (length r.outer) ps qs ((definitions texts).1) m).start m.end later ∙ ap (λ ts. left_as (drop ((definitions texts).1) ts)) o.lines)

-- a paragraph at the end

-- the blocks and definitions of what is declared there
pub told_last : (ds : List DefinitionView) (at n : ℕ) (us : List (List ℕ)) → told (tree (definitions_found at ds n ++ (paragraph_left (at + n) us ++ []))) ≡ more_if (left_as us) none
told_last [] at n [] = refl
told_last [] at n (u ∷ us) = refl
told_last (d ∷ ds) at n [] = refl
told_last (d ∷ ds) at n (u ∷ us) = refl

pub defined_last : (ds : List DefinitionView) (at n : ℕ) (us : List (List ℕ)) → defined (tree (definitions_found at ds n ++ (paragraph_left (at + n) us ++ []))) ≡ ds
defined_last [] at n [] = refl
defined_last [] at n (u ∷ us) = refl
defined_last (d ∷ ds) at n [] = append-nil (d ∷ ds)
defined_last (d ∷ ds) at n (u ∷ us) = append-nil (d ∷ ds)

open_last : (ds : List DefinitionView) (at n count : ℕ) (us : List (List ℕ)) → at + n + length us ≡ count → (length us ≡ 0 → 0 < n) → (length us ≡ 0 → ds ≡ [] → ⊥) → ends_open count (definitions_found at ds n ++ (paragraph_left (at + n) us ++ [])) ≡ true
open_last [] at n count [] e some full = absurd (full refl refl)
open_last [] at n count (u ∷ us) e some full = let q : at + n + suc (length us) ≡ count = e in let k : (at + n + length us + 1 == count) ≡ true = grind (arith, q, nat_tests) in k
open_last (d ∷ ds) at n count [] e some full = let q : at + n + 0 ≡ count = e in let w : 0 < n = some refl in let k : (at + n - 1 + 1 == count) ≡ true = grind (arith, q, w, nat_tests) in k
open_last (d ∷ ds) at n count (u ∷ us) e some full = let q : at + n + suc (length us) ≡ count = e in let k : (at + n + length us + 1 == count) ≡ true = grind (arith, q, nat_tests) in k

append_none : {A : Type 0} (xs ys : List A) → xs ++ ys ≡ [] → ys ≡ []
append_none [] ys e = e
append_none (x ∷ xs) ys e = absurd cc

paragraph_last : (text : List ℕ) (r : Run) (fuel at : ℕ) (w : Open r.outer) (whole : List DeclaredLine) (bs : List ReadBlock) (ps : List Piece) (q : Piece) (qs : List Piece) (m : Draft) (found : Blocks) (done : List (List ℕ)) (ds : List DefinitionView) (texts : List (List ℕ)) → Holds text r bs ps found → Opened text r fuel at whole [] ps (q ∷ qs) done ds texts
    → Ends text r (after_these ds (open_page w bs ps (q ∷ qs) m)) found (from_there fuel at whole (paragraph_of at (done ++ texts, None)))
unfolding is_paragraph
paragraph_last text r fuel at w whole bs ps q qs m found done ds texts h o =
    subst (λ (fs : List Found). Ends text r (after_these ds (open_page w bs ps (q ∷ qs) m)) found fs) (sym is)
    (record {
      all = r.outer;
      long = omega arith;
      now = w;
      opened = refl;
      shuts = λ y.
          subst (λ xs. Shuts text r (after_these ds (open_page y bs ps (q ∷ qs) m)) (also found (told (tree last))) xs) (sym (defined_last all at n us))
          (subst (λ z. Shuts text r (after_these ds (open_page y bs ps (q ∷ qs) m)) (also found z) all) (sym (told_last all at n us))
          (shuts_after text r (open_page y bs ps (q ∷ qs) m) (also found (more_if (left_as us) none)) ds (d.0)
          (shuts_leaf text r (open_page y bs ps (q ∷ qs) m) (raise m.end m.number y) (bs ++ left_block (length r.outer) ps (q ∷ qs) (d.1) m ∷ []) (ps ++ q ∷ qs) m.end m.number (length (ps ++ q ∷ qs)) (also found (more_if (left_as us) none)) (d.0)
          (paragraph_closed text r.outer y bs ps (q ∷ qs) m (d.0) (d.1) f.reads f.fits) (paragraph_holds text r fuel at whole [] bs ps (q ∷ qs) m found done ds texts h o) room)));
      opens = sym (open_last all at n r.count us (omega (arith, wide, left, f.low, count)) (λ e. omega (arith, e, left, f.low, some)) (λ e g. full e (append_none ds (d.0) g)));
    })
  where
    d : List DefinitionView × ℕ
    d = definitions texts

    n : ℕ
    n = length done + d.1

    us : List (List ℕ)
    us = drop (d.1) texts

    all : List DefinitionView
    all = ds ++ d.0

    last : List Found
    last = definitions_found at all n ++ (paragraph_left (at + n) us ++ [])

    f : Follows text ps (q ∷ qs) texts
    f = opened_follows text r fuel at whole [] ps (q ∷ qs) done ds texts o

    wide : length (done ++ texts) ≡ length done + length texts
    wide = length-append done texts

    left : length us ≡ length texts - d.1
    left = length-drop (d.1) texts

    count : at + length (done ++ texts) + 0 ≡ r.count
    count = o.count

    some : 0 < length texts
    some = let k : suc (length qs) ≡ length texts = f.count in omega (arith, k)

    room : length (ps ++ q ∷ qs) + 1 < r.limit
    room = let k : length ps + suc (length qs) + 0 + 1 < r.limit = o.room in omega (arith, length-append ps (q ∷ qs), k)

    -- if nothing is left, there are definitions
    full : length us ≡ 0 → d.0 ≡ [] → ⊥
    full e g = let none : d.1 ≡ 0 = none_counted texts g in omega (arith, none, left, e, some)

    is : from_there fuel at whole (paragraph_of at (done ++ texts, None)) ≡ last
    is = stops_as fuel at whole [] done ds texts o.defines o.rest ∙ ap (λ fs. definitions_found at all n ++ (paragraph_left (at + n) us ++ fs)) (no_blocks fuel (at + length (done ++ texts)))

-- the paragraph ends before a line, which does what it does where nothing is open
paragraph_stops : (text : List ℕ) (r : Run) (fuel at : ℕ) → Again text r fuel → (w : Open r.outer) (whole : List DeclaredLine) (v : In text r) (cs : Lines text r) (bs : List ReadBlock) (ps qs : List Piece) (m : Draft) (found : Blocks) (done : List (List ℕ)) (ds : List DefinitionView) (texts : List (List ℕ)) (s : State)
    → Holds text r bs ps found → Opened text r fuel at whole (Plainly v ∷ cs) ps qs done ds texts
    → s ≡ after_these ((definitions texts).0) (begin text v.columns v.line (length r.outer) v.place (shut w bs ps qs ((definitions texts).1) m))
    → Reads text r (after_these ds s) cs found (from_there fuel at whole (paragraph_of at (done ++ texts, None)))
paragraph_stops text r fuel at again w whole v cs bs ps qs m found done ds texts s h o same =
    subst (λ (u : State). Reads text r u cs found (from_there fuel at whole (paragraph_of at (done ++ texts, None)))) (sym (ap (after_these ds) same ∙ join_after ds (d.0) after))
    (λ legit. subst (λ (u : State). Ends text r u found (from_there fuel at whole (paragraph_of at (done ++ texts, None)))) (sym (taken_after text (length r.outer) (ds ++ d.0) after cs))
    (paragraph_over text r fuel at whole (said text r (Plainly v ∷ cs)) (fold (taken text (length r.outer)) after cs) found done ds texts o.defines o.rest f.low o.some (omega (arith, count))
    (again fuel (omega arith) (at + length (done ++ texts)) v cs (raise m.end m.number w) (bs ++ left_block (length r.outer) ps qs (d.1) m ∷ []) (ps ++ qs) m.end m.number (length (ps ++ qs)) (also found (more_if (left_as (drop (d.1) texts)) none))
    (paragraph_holds text r fuel at whole (Plainly v ∷ cs) bs ps qs m found done ds texts h o)
    (let room : length ps + length qs + suc (length cs) + 1 < r.limit = o.room in omega (arith, length-append ps qs, room)) o.few (omega (arith, count))
    (legit_after text (length r.outer) (ds ++ d.0) after cs legit))))
  where
    d : List DefinitionView × ℕ
    d = definitions texts

    f : Follows text ps qs texts
    f = opened_follows text r fuel at whole (Plainly v ∷ cs) ps qs done ds texts o

    after : State
    after = begin text v.columns v.line (length r.outer) v.place (shut w bs ps qs (d.1) m)

    count : at + length (done ++ texts) + suc (length cs) ≡ r.count
    count = o.count

-- an underline makes a heading of what is left of the paragraph
paragraph_heads : (text : List ℕ) (r : Run) (fuel at : ℕ) → Again text r fuel → (w : Open r.outer) (whole : List DeclaredLine) (v : In text r) (cs : Lines text r) (bs : List ReadBlock) (ps qs : List Piece) (m : Draft) (found : Blocks) (done : List (List ℕ)) (ds : List DefinitionView) (texts : List (List ℕ)) (u : HeadingLevel)
    → Holds text r bs ps found → Opened text r fuel at whole (Plainly v ∷ cs) ps qs done ds texts → nat_lt ((definitions texts).1) (length texts) ≡ true
    → Reads text r (after_these ds (started (start.Underline u) text v.columns v.line (tail_of v.columns) (here (length r.outer) v.place) (open_page w bs ps qs m))) cs found (from_there fuel at whole (paragraph_of at (done ++ texts, Some u)))
paragraph_heads text r fuel at again w whole v cs bs ps qs m found done ds texts u h o some =
    subst (λ (s : State). Reads text r s cs found (from_there fuel at whole (paragraph_of at (done ++ texts, Some u))))
    (sym (ap (after_these ds) (underline_heads text r.outer w v.columns l v.place u bs ps qs m (d.0) n f.reads f.fits (ap (nat_lt n) f.count ∙ some)) ∙ join_after ds (d.0) after))
    (λ legit. subst (λ (s : State). Ends text r s found (from_there fuel at whole (paragraph_of at (done ++ texts, Some u)))) (sym (taken_after text (length r.outer) (ds ++ d.0) after cs))
    (subst (λ (fs : List Found). Ends text r (after_these (ds ++ d.0) (fold (taken text (length r.outer)) after cs)) found fs) (sym (heads_as fuel at whole (said text r cs) done ds texts u o.defines passed))
    (ends_defined text r (fold (taken text (length r.outer)) after cs) found (ds ++ d.0) at (length done + n) (heading_of at u done texts ∷ later) (grind (arith, wide, f.low, o.some, count, nat_tests))
    (ends_cons text r (fold (taken text (length r.outer)) after cs) found (heading_of at u done texts) (Heading u (text_of (drop n texts))) later (λ y. refl) refl refl
    (goal_of text r fuel (again fuel (omega arith)) (at + (length (done ++ texts) + 1)) cs (raise l.end l.number w) (bs ++ b ∷ []) (ps ++ qs) l.end l.number (length (ps ++ qs)) (also found (more (Heading u (text_of (drop n texts))) none)) holds
    (let room : length ps + length qs + suc (length cs) + 1 < r.limit = o.room in omega (arith, length-append ps qs, room))
    (let few : suc (length v.bytes) + weigh text (length r.outer) cs ≤ fuel = o.few in omega (arith, few))
    (omega (arith, count)) (legit_after text (length r.outer) (ds ++ d.0) after cs legit))))))
  where
    d : List DefinitionView × ℕ
    d = definitions texts

    n : ℕ
    n = d.1

    l : Line
    l = v.line

    f : Follows text ps qs texts
    f = opened_follows text r fuel at whole (Plainly v ∷ cs) ps qs done ds texts o

    b : ReadBlock
    b = heading_block (length r.outer) u ps qs n m l

    after : State
    after = headed w u bs ps qs n m l

    later : List Found
    later = blocks_from fuel (at + (length (done ++ texts) + 1)) (said text r cs)

    wide : length (done ++ texts) ≡ length done + length texts
    wide = length-append done texts

    count : at + length (done ++ texts) + suc (length cs) ≡ r.count
    count = o.count

    passed : drop (length (done ++ texts) + 1) whole ≡ said text r cs
    passed = ap (λ i. drop i whole) (let k : length (done ++ texts) + 1 ≡ suc (length (done ++ texts)) = omega arith in k) ∙ drop_next (length (done ++ texts)) whole (left_at v.place v.bytes) (said text r cs) o.rest

    holds : Holds text r (bs ++ b ∷ []) (ps ++ qs) (also found (more (Heading u (text_of (drop n texts))) none))
    holds = holds_if text r bs ps found b (Some (Heading u (text_of (drop n texts)))) qs h refl
        (λ more_pieces. heading_left_told text (length r.outer) u ps qs n b.start l.end more_pieces ∙ ap (λ ts. Some (Heading u (text_of (drop n ts)))) o.lines)

-- one more line

more_count : (xs : List (List ℕ)) (x : List ℕ) → length (xs ++ x ∷ []) ≡ suc (length xs)
more_count xs x = omega (arith, length-append xs (x ∷ []))

-- the lines after one more
rest_more : (text : List ℕ) (r : Run) (whole : List DeclaredLine) (c : Coming text (length r.outer)) (cs : Lines text r) (done : List (List ℕ)) (x : List ℕ) → drop (length done) whole ≡ said text r (c ∷ cs) → drop (length (done ++ x ∷ [])) whole ≡ said text r cs
rest_more text r whole c cs done x e = ap (λ n. drop n whole) (more_count done x) ∙ drop_next (length done) whole (shown text (length r.outer) c) (said text r cs) e

opened_more : (text : List ℕ) (r : Run) (fuel at : ℕ) (whole : List DeclaredLine) (c : Coming text (length r.outer)) (cs : Lines text r) (ps qs : List Piece) (done : List (List ℕ)) (ds : List DefinitionView) (texts : List (List ℕ)) (p : Piece) (x : List ℕ) → line_text text p ≡ x → has_feed x ≡ false
    → Opened text r fuel at whole (c ∷ cs) ps qs done ds texts → IsLater done ds texts → Opened text r fuel at whole cs ps (qs ++ p ∷ []) done ds (texts ++ x ∷ [])
opened_more text r fuel at whole c cs ps qs done ds texts p x inked feedless o z =
    record {
      lines = map-append (line_text text) qs (p ∷ []) ∙ ap (λ (xs : List (List ℕ)). xs ++ line_text text p ∷ []) o.lines ∙ ap (λ (y : List ℕ). texts ++ y ∷ []) inked;
      plain = o.plain;
      feedless = subst AreFeedless joins (all_append (λ t. has_feed t ≡ false) (done ++ texts) (x ∷ []) o.feedless (feedless, tt));
      some = let k : 0 < length (done ++ texts) = o.some in omega (arith, longer, k);
      defines = z (x ∷ []);
      rest = ap (λ (xs : List (List ℕ)). drop (length xs) whole) (sym joins) ∙ rest_more text r whole c cs (done ++ texts) x o.rest;
      room = let all : length ps + length qs + suc (length cs) + 1 < r.limit = o.room in omega (arith, length-append qs (p ∷ []), all);
      few = let k : suc (length (bytes_in text (length r.outer) c)) + weigh text (length r.outer) cs ≤ fuel = o.few in omega (arith, k);
      count = let k : at + length (done ++ texts) + suc (length cs) ≡ r.count = o.count in omega (arith, longer, k);
    }
  where
    joins : (done ++ texts) ++ x ∷ [] ≡ done ++ (texts ++ x ∷ [])
    joins = append_assoc done texts (x ∷ [])

    longer : length (done ++ (texts ++ x ∷ [])) ≡ suc (length (done ++ texts))
    longer = sym (ap (λ (xs : List (List ℕ)). length xs) joins) ∙ more_count (done ++ texts) x

later_more : (done : List (List ℕ)) (ds : List DefinitionView) (texts : List (List ℕ)) (x : List ℕ) → IsLater done ds texts → IsLater done ds (texts ++ x ∷ [])
later_more done ds texts x z later = subst (λ (xs : List (List ℕ)). Defines done ds xs) (sym (append_assoc texts (x ∷ []) later)) (z (x ∷ later))

-- lines that are all definitions

none_defined : definitions [] ≡ ([], 0)
none_defined = ap (counted []) (repeated_zero (define_once []) 0 0 [] refl)

all_defined : (done : List (List ℕ)) (ds : List DefinitionView) (texts : List (List ℕ)) → Defines done ds texts → (definitions texts).1 ≡ length texts → definitions (done ++ texts) ≡ (ds ++ (definitions texts).0, length (done ++ texts))
all_defined done ds texts d e = d ∙ ap (λ n. (ds ++ (definitions texts).0, length done + n)) e ∙ ap (λ n. (ds ++ (definitions texts).0, n)) (sym (length-append done texts))

-- no definition is found in lines after them
found_none : (done : List (List ℕ)) (ds : List DefinitionView) → found_before done ds ([], 0) ≡ (ds, length done)
found_none done ds = ap (λ (xs : List DefinitionView). (xs, length done + 0)) (append-nil ds) ∙ ap (λ n. (ds, n)) (let k : length done + 0 ≡ length done = omega arith in k)

-- the paragraph goes on after them, with no line yet
opened_spent : (text : List ℕ) (r : Run) (fuel at : ℕ) (whole : List DeclaredLine) (cs : Lines text r) (ps qs : List Piece) (done : List (List ℕ)) (ds : List DefinitionView) (texts : List (List ℕ)) → Opened text r fuel at whole cs ps qs done ds texts → (definitions texts).1 ≡ length texts
    → Opened text r fuel at whole cs (ps ++ qs) [] (done ++ texts) (ds ++ (definitions texts).0) []
opened_spent text r fuel at whole cs ps qs done ds texts o e =
    record {
      lines = refl;
      plain = o.plain;
      feedless = subst AreFeedless (sym same) o.feedless;
      some = subst (λ (xs : List (List ℕ)). 0 < length xs) (sym same) o.some;
      defines = ap definitions same ∙ all_defined done ds texts o.defines e
          ∙ sym (ap (found_before (done ++ texts) all) none_defined ∙ found_none (done ++ texts) all);
      rest = ap (λ (xs : List (List ℕ)). drop (length xs) whole) same ∙ o.rest;
      room = let k : length ps + length qs + length cs + 1 < r.limit = o.room in omega (arith, length-append ps qs, k);
      few = o.few;
      count = ap (λ (xs : List (List ℕ)). at + length xs + length cs) same ∙ o.count;
    }
  where
    all : List DefinitionView
    all = ds ++ (definitions texts).0

    same : (done ++ texts) ++ [] ≡ done ++ texts
    same = append-nil (done ++ texts)

-- an underline after them goes on with the paragraph, and no line after it changes them
later_spent : (done : List (List ℕ)) (ds : List DefinitionView) (texts : List (List ℕ)) (x : List ℕ) → AreFeedless (done ++ texts) → HasMark x → Defines done ds texts → (definitions texts).1 ≡ length texts → IsLater (done ++ texts) (ds ++ (definitions texts).0) (x ∷ [])
later_spent done ds texts x feedless m d e later =
    definitions_longer (done ++ texts) x later feedless m (ap (λ (r : List DefinitionView × ℕ). r.1) same)
    ∙ same
    ∙ sym (ap (found_before (done ++ texts) all) (mark_none x later m) ∙ found_none (done ++ texts) all)
  where
    all : List DefinitionView
    all = ds ++ (definitions texts).0

    same : definitions (done ++ texts) ≡ (all, length (done ++ texts))
    same = all_defined done ds texts d e

opened_first : (text : List ℕ) (r : Run) (fuel at : ℕ) (whole : List DeclaredLine) (c : Coming text (length r.outer)) (cs : Lines text r) (ps : List Piece) (done : List (List ℕ)) (ds : List DefinitionView) (p : Piece) (x : List ℕ) → line_text text p ≡ x → has_feed x ≡ false
    → Opened text r fuel at whole (c ∷ cs) ps [] done ds [] → IsLater done ds (x ∷ []) → Opened text r fuel at whole cs ps (p ∷ []) done ds (x ∷ [])
opened_first text r fuel at whole c cs ps done ds p x inked feedless o z =
    record {
      lines = ap (λ (y : List ℕ). y ∷ []) inked;
      plain = o.plain;
      feedless = all_append (λ t. has_feed t ≡ false) done (x ∷ []) (subst AreFeedless (append-nil done) o.feedless) (feedless, tt);
      some = omega (arith, more_count done x);
      defines = z [];
      rest = rest_more text r whole c cs done x (ap (λ (xs : List (List ℕ)). drop (length xs) whole) (sym (append-nil done)) ∙ o.rest);
      room = let k : length ps + 0 + suc (length cs) + 1 < r.limit = o.room in omega (arith, k);
      few = let k : suc (length (bytes_in text (length r.outer) c)) + weigh text (length r.outer) cs ≤ fuel = o.few in omega (arith, k);
      count = let k : at + length (done ++ []) + suc (length cs) ≡ r.count = o.count in let none : length (done ++ []) ≡ length done = ap (λ (xs : List (List ℕ)). length xs) (append-nil done) in omega (arith, more_count done x, none, k);
    }

-- what is read of an open paragraph with a line and of these lines
abbrev pub Goes : (text : List ℕ) (r : Run) (fuel at : ℕ) → List DeclaredLine → Lines text r → List ReadBlock → Blocks → Type 0
Goes text r fuel at whole cs bs found =
    (w : Open r.outer) (ps : List Piece) (q : Piece) (qs : List Piece) (m : Draft) (done : List (List ℕ)) (ds : List DefinitionView) (texts : List (List ℕ)) → Holds text r bs ps found → Opened text r fuel at whole cs ps (q ∷ qs) done ds texts → IsLater done ds texts
    → Reads text r (after_these ds (open_page w bs ps (q ∷ qs) m)) cs found (from_there fuel at whole (paragraph_of at (paragraph_lines (done ++ texts) (said text r cs))))

-- a line that is lazy in a paragraph, whatever else it is
lazy_text : (place : Cursor) (u : Option HeadingLevel) (fed : Bool) (k : Beginning) → is_leaf fed k ≡ true → may_be_lazy k ≡ true → start_as place true false u k ≡ start.Text
unfolding may_be_lazy interrupts
lazy_text place u fed BlankLine e m = absurd (true≢false (sym m))
lazy_text place u fed CodeLine e m = refl
lazy_text place u fed QuoteLine e m = absurd (true≢false (sym m))
lazy_text place u fed (HeadingLine h) e m = absurd (true≢false (sym m))
lazy_text place u fed (FenceLine f) e m = absurd (true≢false (sym m))
lazy_text place u fed (HtmlLine html.Raw) e m = absurd (true≢false (sym m))
lazy_text place u fed (HtmlLine html.Comment) e m = absurd (true≢false (sym m))
lazy_text place u fed (HtmlLine html.Instruction) e m = absurd (true≢false (sym m))
lazy_text place u fed (HtmlLine html.Declaration) e m = absurd (true≢false (sym m))
lazy_text place u fed (HtmlLine html.CharacterData) e m = absurd (true≢false (sym m))
lazy_text place u fed (HtmlLine html.Named) e m = absurd (true≢false (sym m))
lazy_text place u fed (HtmlLine html.Alone) e m = refl
lazy_text place u fed RuleLine e m = absurd (true≢false (sym m))
lazy_text place u fed (ItemLine i) e m = absurd (true≢false (sym m))
lazy_text place u fed TextLine e m = refl
lazy_text place u fed LazyLine e m = refl

lazy_inked : (k : Beginning) → may_be_lazy k ≡ true → is_blank_kind k ≡ false
unfolding may_be_lazy
lazy_inked BlankLine m = absurd (true≢false (sym m))
lazy_inked CodeLine m = refl
lazy_inked QuoteLine m = refl
lazy_inked (HeadingLine h) m = refl
lazy_inked (FenceLine f) m = refl
lazy_inked (HtmlLine k) m = refl
lazy_inked RuleLine m = refl
lazy_inked (ItemLine i) m = refl
lazy_inked TextLine m = refl
lazy_inked LazyLine m = refl

-- the paragraph and a lazy line after it
paragraph_lazy : (text : List ℕ) (r : Run) (fuel at : ℕ) (w : Open r.outer) (whole : List DeclaredLine) (z : Fewer text (length r.outer)) (cs : Lines text r) (bs : List ReadBlock) (ps : List Piece) (q : Piece) (qs : List Piece) (m : Draft) (found : Blocks) (done : List (List ℕ)) (ds : List DefinitionView) (texts : List (List ℕ))
    → Holds text r bs ps found → Opened text r fuel at whole (Lazily z ∷ cs) ps (q ∷ qs) done ds texts → IsLater done ds texts → Goes text r fuel at whole cs bs found
    → Reads text r (line_taken text (after_these ds (open_page w bs ps (q ∷ qs) m)) z.seen.line) cs found (from_there fuel at whole (paragraph_of at (paragraph_lines (done ++ texts) (said text r (Lazily z ∷ cs)))))
unfolding is_paragraph beginning interrupts
paragraph_lazy text r fuel at w whole z cs bs ps q qs m found done ds texts h o k goes =
    subst (λ (ts : List (List ℕ)). Reads text r (line_taken text (after_these ds (page w)) l) cs found (from_there fuel at whole (paragraph_of at (paragraph_lines ts (said text r cs))))) (sym (append_assoc done texts (x ∷ [])))
    (subst (λ (s : State). Reads text r s cs found (from_there fuel at whole (paragraph_of at (paragraph_lines (done ++ (texts ++ x ∷ [])) (said text r cs))))) (sym (line_after text ds (page w) l ∙ ap (after_these ds) same))
    (goes u ps q (qs ++ p ∷ []) (record m { end = l.end; number = l.number }) done ds (texts ++ x ∷ []) h
    (opened_more text r fuel at whole (Lazily z) cs ps (q ∷ qs) done ds texts p x (f.ink inked) f.feedless o k) (later_more done ds texts x k)))
  where
    l : Line
    l = z.seen.line

    f : FactsOf text z.depth z.seen
    f = facts text z.depth z.seen

    x : List ℕ
    x = line_ink (left_at z.seen.place z.seen.bytes)

    u : Open r.outer
    u = touch l z.depth w

    p : Piece
    p = piece_in z.seen.columns z.seen.place l

    inked : is_blank_kind f.kind ≡ false
    inked = lazy_inked f.kind z.lazy

    page : Open r.outer → State
    page y = open_page y bs ps (q ∷ qs) m

    same : line_taken text (page w) l ≡ open_page u bs ps (q ∷ (qs ++ p ∷ [])) (record m { end = l.end; number = l.number })
    same =
        line_stops text z.depth z.seen f z.no_quote r.outer w (page w) z.low
        ∙ below_begins text z.depth z.seen f z.no_quote r.outer u (page u) z.low refl
        ∙ ap (λ b. started b text z.seen.columns l (tail_of z.seen.columns) (here z.depth z.seen.place) (page u)) (lazy_text z.seen.place f.level (ends_with_feed text) f.kind (f.leaf z.no_quote) z.lazy)
        ∙ text_goes_on text r.outer u z.seen.columns l z.depth z.seen.place bs ps q qs m (f.some inked)

-- what begins on its page where all else ends first begins where it has ended
begins_as : (text : List ℕ) (r : Run) (w : Open r.outer) (v : In text r) (f : FactsOf text (length r.outer) v) → is_quote_kind f.kind ≡ false → (bs : List ReadBlock) (ps qs : List Piece) (m : Draft) (texts : List (List ℕ)) (b : LeafStart) → Follows text ps qs texts
    → start_as v.place false false f.level f.kind ≡ b → closes_first b ≡ true
    → started b text v.columns v.line (tail_of v.columns) (here (length r.outer) v.place) (open_page w bs ps qs m) ≡ after_these ((definitions texts).0) (begin text v.columns v.line (length r.outer) v.place (shut w bs ps qs ((definitions texts).1) m))
unfolding is_paragraph
begins_as text r w v f no_quote bs ps qs m texts b o e first =
    same_start text v.columns v.line (length r.outer) v.place b (open_page w bs ps qs m) (after_these (d.0) page) first (paragraph_shuts text r.outer w bs ps qs m (d.0) (d.1) o.reads o.fits)
    ∙ started_after b text v.columns v.line (tail_of v.columns) (here (length r.outer) v.place) (d.0) page
    ∙ ap (after_these (d.0)) (sym (plain_begins text (length r.outer) v f no_quote page refl ∙ ap (λ x. started x text v.columns v.line (tail_of v.columns) (here (length r.outer) v.place) page) e))
  where
    d : List DefinitionView × ℕ
    d = definitions texts

    page : State
    page = shut w bs ps qs (d.1) m

-- an underline below definitions alone
paragraph_spent : (text : List ℕ) (r : Run) (fuel at : ℕ) → Again text r fuel → (w : Open r.outer) (whole : List DeclaredLine) (v : In text r) (f : FactsOf text (length r.outer) v) → is_quote_kind f.kind ≡ false → (cs : Lines text r) (bs : List ReadBlock) (ps : List Piece) (q : Piece) (qs : List Piece) (m : Draft) (found : Blocks) (done : List (List ℕ)) (ds : List DefinitionView) (texts : List (List ℕ)) (u : HeadingLevel) (k : Beginning)
    → Holds text r bs ps found → Opened text r fuel at whole (Plainly v ∷ cs) ps (q ∷ qs) done ds texts → Goes text r fuel at whole cs bs found → f.kind ≡ k → f.level ≡ Some u → may_underline k ≡ true → (definitions texts).1 ≡ length texts
    → Reads text r (after_these ds (started (start.Underline u) text v.columns v.line (tail_of v.columns) (here (length r.outer) v.place) (open_page w bs ps (q ∷ qs) m))) cs found
    (from_there fuel at whole (paragraph_of at (turned (λ x. paragraph_lines x (said text r cs)) (done ++ texts) (line_ink (left_at v.place v.bytes)) (turn_of k None))))
unfolding interrupts
paragraph_spent text r fuel at again w whole v f no_quote cs bs ps q qs m found done ds texts u k h o goes e d may all = by k e may
  where
    found_all : List DefinitionView
    found_all = ds ++ (definitions texts).0

    ink : List ℕ
    ink = line_ink (left_at v.place v.bytes)

    next : List (List ℕ) → List (List ℕ) × Option HeadingLevel
    next = λ x. paragraph_lines x (said text r cs)

    o' : Follows text ps (q ∷ qs) texts
    o' = opened_follows text r fuel at whole (Plainly v ∷ cs) ps (q ∷ qs) done ds texts o

    spent : Opened text r fuel at whole (Plainly v ∷ cs) (ps ++ q ∷ qs) [] (done ++ texts) found_all []
    spent = opened_spent text r fuel at whole (Plainly v ∷ cs) ps (q ∷ qs) done ds texts o all

    held : Holds text r bs (ps ++ q ∷ qs) found
    held = holds_later text r bs ps found (q ∷ qs) h

    reads : definitions_from text (q ∷ qs) [] ≡ ((definitions texts).0, length (q ∷ qs))
    reads = o'.reads ∙ ap (λ n. ((definitions texts).0, n)) (all ∙ sym o'.count)

    fits : length ps + length (q ∷ qs) < 2 ^ 64
    fits = let i : length ps + suc (length qs) + suc (length cs) + 1 < r.limit = o.room in let most : r.limit ≤ 2 ^ 64 = r.fits in omega (arith, i, most)

    page : State
    page = open_page w bs (ps ++ q ∷ qs) [] m

    begun : LeafStart → State → State
    begun b s = started b text v.columns v.line (tail_of v.columns) (here (length r.outer) v.place) s

    passes : (b : LeafStart) → start_as v.place false false f.level f.kind ≡ b → is_plain_start b ≡ true → after_these ds (begun (start.Underline u) (open_page w bs ps (q ∷ qs) m)) ≡ after_these found_all (begun b page)
    passes b g plain =
        ap (after_these ds) (underline_passes text r.outer w v.columns v.line v.place u bs ps (q ∷ qs) m ((definitions texts).0) b reads fits
        (rule_seen v.columns (bytes_between text (cell_place v.columns v.place.ink v.line.end) v.line.end) (tail_of v.columns) v.place b (f.starts no_quote false false ∙ g) plain) plain)
        ∙ join_after ds ((definitions texts).0) (begun b page)

    Result : List (List ℕ) × Option HeadingLevel → Type 0
    Result x = Reads text r (after_these ds (begun (start.Underline u) (open_page w bs ps (q ∷ qs) m))) cs found (from_there fuel at whole (paragraph_of at x))

    ruled : f.kind ≡ RuleLine → Result (done ++ texts, None)
    ruled g =
        let b : start_as v.place false false f.level f.kind ≡ start.Rule = ap (start_as v.place false false f.level) g in
        subst (λ (s : State). Reads text r s cs found (from_there fuel at whole (paragraph_of at (done ++ texts, None)))) (sym (passes start.Rule b refl))
        (subst (λ (xs : List (List ℕ)). Reads text r (after_these found_all (begun start.Rule page)) cs found (from_there fuel at whole (paragraph_of at (xs, None)))) (append-nil (done ++ texts))
        (paragraph_stops text r fuel at again w whole v cs bs (ps ++ q ∷ qs) [] m found (done ++ texts) found_all [] (begun start.Rule page) held spent
        (begins_as text r w v f no_quote bs (ps ++ q ∷ qs) [] m [] start.Rule (opened_follows text r fuel at whole (Plainly v ∷ cs) (ps ++ q ∷ qs) [] (done ++ texts) found_all [] spent) b refl)))

    worded : f.kind ≡ TextLine → Result (next ((done ++ texts) ++ ink ∷ []))
    worded g =
        let b : start_as v.place false false f.level f.kind ≡ start.Text = ap (start_as v.place false false f.level) g in
        let inked : is_blank_kind f.kind ≡ false = ap is_blank_kind g in
        let later : IsLater (done ++ texts) found_all (ink ∷ []) = later_spent done ds texts ink o.feedless (line_marked text (length r.outer) v f u inked d) o.defines all in
        subst (λ (s : State). Reads text r s cs found (from_there fuel at whole (paragraph_of at (next ((done ++ texts) ++ ink ∷ []))))) (sym (passes start.Text b refl ∙ ap (after_these found_all) (text_first text r.outer w v.columns v.line (length r.outer) v.place bs (ps ++ q ∷ qs) m (f.some inked))))
        (goes w (ps ++ q ∷ qs) (piece_in v.columns v.place v.line) [] (record m { start = cell_place v.columns v.place.ink v.line.end; end = v.line.end; number = v.line.number }) (done ++ texts) found_all (ink ∷ []) held
        (opened_first text r fuel at whole (Plainly v) cs (ps ++ q ∷ qs) (done ++ texts) found_all (piece_in v.columns v.place v.line) ink (f.ink inked) f.feedless spent later) later)

    by : (j : Beginning) → f.kind ≡ j → may_underline j ≡ true → Result (turned next (done ++ texts) ink (turn_of j None))
    by RuleLine g i = ruled g
    by TextLine g i = worded g
    by BlankLine g i = absurd (true≢false (sym i))
    by CodeLine g i = absurd (true≢false (sym i))
    by QuoteLine g i = absurd (true≢false (sym i))
    by (HeadingLine x) g i = absurd (true≢false (sym i))
    by (FenceLine x) g i = absurd (true≢false (sym i))
    by (HtmlLine x) g i = absurd (true≢false (sym i))
    by (ItemLine x) g i = absurd (true≢false (sym i))
    by LazyLine g i = absurd (true≢false (sym i))

-- the paragraph and a line after it
paragraph_line : (text : List ℕ) (r : Run) (fuel at : ℕ) → Again text r fuel → (w : Open r.outer) (whole : List DeclaredLine) (v : In text r) (cs : Lines text r) (bs : List ReadBlock) (ps : List Piece) (q : Piece) (qs : List Piece) (m : Draft) (found : Blocks) (done : List (List ℕ)) (ds : List DefinitionView) (texts : List (List ℕ))
    → Holds text r bs ps found → Opened text r fuel at whole (Plainly v ∷ cs) ps (q ∷ qs) done ds texts → IsLater done ds texts → Goes text r fuel at whole cs bs found
    → Reads text r (line_taken text (after_these ds (open_page w bs ps (q ∷ qs) m)) v.line) cs found (from_there fuel at whole (paragraph_of at (paragraph_lines (done ++ texts) (said text r (Plainly v ∷ cs)))))
unfolding interrupts leaf_turn is_paragraph
paragraph_line text r fuel at again w whole v cs bs ps q qs m found done ds texts h o z goes =
    subst (λ (s : State). Reads text r s cs found (from_there fuel at whole (paragraph_of at (turned next (done ++ texts) ink (turn (done ++ texts) (left_at v.place v.bytes))))))
    (sym (line_after text ds (page w) l ∙ ap (after_these ds) (line_passes text r.outer v f w (page w) refl)))
    (subst (λ (y : Turn). Done (begin text v.columns l (length r.outer) v.place (page u)) y)
    (sym (turn_same text r v f done ds texts o.defines))
    (with_mark (is_quote_kind f.kind) refl))
  where
    l : Line
    l = v.line

    f : FactsOf text (length r.outer) v
    f = facts text (length r.outer) v

    ink : List ℕ
    ink = line_ink (left_at v.place v.bytes)

    u : Open r.outer
    u = touch l (length r.outer) w

    p : Piece
    p = piece_in v.columns v.place l

    page : Open r.outer → State
    page x = open_page x bs ps (q ∷ qs) m

    next : List (List ℕ) → List (List ℕ) × Option HeadingLevel
    next = λ x. paragraph_lines x (said text r cs)

    begun : LeafStart → State → State
    begun b s = started b text v.columns l (tail_of v.columns) (here (length r.outer) v.place) s

    Done : State → Turn → Type 0
    Done s x = Reads text r (after_these ds s) cs found (from_there fuel at whole (paragraph_of at (turned next (done ++ texts) ink x)))

    y : Follows text ps (q ∷ qs) texts
    y = opened_follows text r fuel at whole (Plainly v ∷ cs) ps (q ∷ qs) done ds texts o

    level_some : (x : Option HeadingLevel) (level : HeadingLevel) → x ≡ None → x ≡ Some level → ⊥
    level_some x level e d = let c : None ≡ Some level = sym e ∙ d in absurd cc

    stops : is_quote_kind f.kind ≡ false → (k : Beginning) (b : LeafStart) → f.kind ≡ k → start_as v.place false false f.level k ≡ b → closes_first b ≡ true → Done (begun b (page u)) Stops
    stops no_quote k b e i first =
        paragraph_stops text r fuel at again u whole v cs bs ps (q ∷ qs) m found done ds texts (begun b (page u)) h o
        (begins_as text r u v f no_quote bs ps (q ∷ qs) m texts b y (ap (start_as v.place false false f.level) e ∙ i) first)

    goes_on : (k : Beginning) → f.kind ≡ k → is_blank_kind k ≡ false → Done (begun start.Text (page u)) GoesOn
    goes_on k e b =
        let inked : is_blank_kind f.kind ≡ false = ap is_blank_kind e ∙ b in
        subst (λ (ts : List (List ℕ)). Reads text r (after_these ds (begun start.Text (page u))) cs found (from_there fuel at whole (paragraph_of at (next ts)))) (sym (append_assoc done texts (ink ∷ [])))
        (subst (λ (s : State). Reads text r (after_these ds s) cs found (from_there fuel at whole (paragraph_of at (next (done ++ (texts ++ ink ∷ []))))))
        (sym (text_goes_on text r.outer u v.columns l (length r.outer) v.place bs ps q qs m (f.some inked)))
        (goes u ps q (qs ++ p ∷ []) (record m { end = l.end; number = l.number }) done ds (texts ++ ink ∷ []) h
        (opened_more text r fuel at whole (Plainly v) cs ps (q ∷ qs) done ds texts p ink (f.ink inked) f.feedless o z) (later_more done ds texts ink z)))

    -- an underline, if there is text that it can underline
    underlines : is_quote_kind f.kind ≡ false → (k : Beginning) (level : HeadingLevel) → f.kind ≡ k → f.level ≡ Some level → may_underline k ≡ true → turn_of k (Some level) ≡ Underlines level → Done (begun (start.Underline level) (page u)) (turn_of k (underlined texts (Some level)))
    underlines no_quote k level e d may i = at_text (nat_lt ((definitions texts).1) (length texts)) refl
      where
        at_text : (t : Bool) → nat_lt ((definitions texts).1) (length texts) ≡ t → Done (begun (start.Underline level) (page u)) (turn_of k (if t then Some level else None))
        at_text true g = subst (Done (begun (start.Underline level) (page u))) (sym i) (paragraph_heads text r fuel at again u whole v cs bs ps (q ∷ qs) m found done ds texts level h o g)
        at_text false g = paragraph_spent text r fuel at again u whole v f no_quote cs bs ps q qs m found done ds texts level k h o goes e d may (grind (arith, g, y.low, nat_tests))

    by : is_quote_kind f.kind ≡ false → (k : Beginning) (x : Option HeadingLevel) → f.kind ≡ k → f.level ≡ x → is_leaf (ends_with_feed text) k ≡ true → (may_underline k ≡ false → f.level ≡ None) → Done (begun (start_as v.place true true x k) (page u)) (turn_of k (underlined texts x))
    by n BlankLine x e d leaf g = stops n BlankLine start.Blank e refl refl
    by n CodeLine (Some level) e d leaf g = absurd (level_some f.level level (g refl) d)
    by n CodeLine None e d leaf g = goes_on CodeLine e refl
    by n QuoteLine x e d leaf g = absurd (true≢false (sym leaf))
    by n (HeadingLine i) (Some level) e d leaf g = absurd (level_some f.level level (g refl) d)
    by n (HeadingLine i) None e d leaf g = stops n (HeadingLine i) (start.Heading (heading_later v.place.ink i)) e refl refl
    by n (FenceLine i) (Some level) e d leaf g = absurd (level_some f.level level (g refl) d)
    by n (FenceLine i) None e d leaf g = stops n (FenceLine i) (start.Fence i) e refl refl
    by n (HtmlLine i) (Some level) e d leaf g = absurd (level_some f.level level (g refl) d)
    by n (HtmlLine html.Raw) None e d leaf g = stops n (HtmlLine html.Raw) (start.Html html.Raw) e refl refl
    by n (HtmlLine html.Comment) None e d leaf g = stops n (HtmlLine html.Comment) (start.Html html.Comment) e refl refl
    by n (HtmlLine html.Instruction) None e d leaf g = stops n (HtmlLine html.Instruction) (start.Html html.Instruction) e refl refl
    by n (HtmlLine html.Declaration) None e d leaf g = stops n (HtmlLine html.Declaration) (start.Html html.Declaration) e refl refl
    by n (HtmlLine html.CharacterData) None e d leaf g = stops n (HtmlLine html.CharacterData) (start.Html html.CharacterData) e refl refl
    by n (HtmlLine html.Named) None e d leaf g = stops n (HtmlLine html.Named) (start.Html html.Named) e refl refl
    by n (HtmlLine html.Alone) None e d leaf g = goes_on (HtmlLine html.Alone) e refl
    by n RuleLine (Some level) e d leaf g = underlines n RuleLine level e d refl refl
    by n RuleLine None e d leaf g = stops n RuleLine start.Rule e refl refl
    by n (ItemLine i) x e d leaf g = absurd (true≢false (sym leaf))
    by n TextLine (Some level) e d leaf g = underlines n TextLine level e d refl refl
    by n TextLine None e d leaf g = goes_on TextLine e refl
    by n LazyLine x e d leaf g = absurd (true≢false (sym leaf))

    -- a line that begins a quote ends the paragraph
    quote_stops : (k : Beginning) (x : Option HeadingLevel) → f.kind ≡ k → f.level ≡ x → is_quote_kind k ≡ true → Done (begin text v.columns l (length r.outer) v.place (page u)) (turn_of k (underlined texts x))
    quote_stops QuoteLine (Some level) e d g = absurd (level_some f.level level (f.marked (ap may_underline e)) d)
    quote_stops QuoteLine None e d g =
        let ds' : List DefinitionView = (definitions texts).0 in
        let shut_page : State = shut u bs ps (q ∷ qs) ((definitions texts).1) m in
        paragraph_stops text r fuel at again u whole v cs bs ps (q ∷ qs) m found done ds texts (begin text v.columns l (length r.outer) v.place (page u)) h o
        (quote_start text (length r.outer) v f (ap is_quote_kind e) (page u) (after_these ds' shut_page) (paragraph_shuts text r.outer u bs ps (q ∷ qs) m ds' ((definitions texts).1) y.reads y.fits)
        ∙ leaf_started_after text v.columns l (here (length r.outer) v.place) ds' shut_page)
    quote_stops BlankLine x e d g = absurd (true≢false (sym g))
    quote_stops CodeLine x e d g = absurd (true≢false (sym g))
    quote_stops (HeadingLine i) x e d g = absurd (true≢false (sym g))
    quote_stops (FenceLine i) x e d g = absurd (true≢false (sym g))
    quote_stops (HtmlLine i) x e d g = absurd (true≢false (sym g))
    quote_stops RuleLine x e d g = absurd (true≢false (sym g))
    quote_stops (ItemLine i) x e d g = absurd (true≢false (sym g))
    quote_stops TextLine x e d g = absurd (true≢false (sym g))
    quote_stops LazyLine x e d g = absurd (true≢false (sym g))

    with_mark : (k : Bool) → is_quote_kind f.kind ≡ k → Done (begin text v.columns l (length r.outer) v.place (page u)) (turn_of f.kind (underlined texts f.level))
    with_mark true e = quote_stops f.kind f.level refl refl e
    with_mark false e =
        subst (λ (s : State). Done s (turn_of f.kind (underlined texts f.level))) (sym (open_begins text r.outer v f e u (page u) refl))
        (by e f.kind f.level refl refl (f.leaf e) f.marked)

pub paragraph_read : (text : List ℕ) (r : Run) (fuel at : ℕ) → Again text r fuel → (whole : List DeclaredLine) (cs : Lines text r) (bs : List ReadBlock) (found : Blocks) → Goes text r fuel at whole cs bs found
paragraph_read text r fuel at again whole [] bs found w ps q qs m done ds texts h o z legit = paragraph_last text r fuel at w whole bs ps q qs m found done ds texts h o
paragraph_read text r fuel at again whole (Lazily y ∷ cs) bs found w ps q qs m done ds texts h o z legit =
    paragraph_lazy text r fuel at w whole y cs bs ps q qs m found done ds texts h o z (paragraph_read text r fuel at again whole cs bs found) (legit.1)
paragraph_read text r fuel at again whole (Plainly v ∷ cs) bs found w ps q qs m done ds texts h o z legit =
    paragraph_line text r fuel at again w whole v cs bs ps q qs m found done ds texts h o z (paragraph_read text r fuel at again whole cs bs found) (legit.1)

-- the paragraph that a line begins
pub paragraph_first : (text : List ℕ) (r : Run) (fuel at : ℕ) (whole : List DeclaredLine) (cs : Lines text r) (ps : List Piece) (p : Piece) (d : DeclaredLine) (x : List ℕ) → line_text text p ≡ x → has_feed x ≡ false → IsPlain text → whole ≡ d ∷ said text r cs
    → length ps + suc (length cs) + 1 < r.limit → weigh text (length r.outer) cs ≤ fuel → at + suc (length cs) ≡ r.count
    → Opened text r fuel at whole cs ps (p ∷ []) [] [] (x ∷ []) × IsLater [] [] (x ∷ [])
paragraph_first text r fuel at whole cs ps p d x inked feedless plain is room few count = (
  record {
    lines = ap (λ (y : List ℕ). y ∷ []) inked;
    plain = plain;
    feedless = (feedless, tt);
    some = omega arith;
    defines = front (x ∷ []);
    rest = ap (drop 1) is;
    room = omega (arith, room);
    few = few;
    count = omega (arith, count);
  },
  λ later. front (x ∷ later),
)
  where
    front : (texts : List (List ℕ)) → Defines [] [] texts
    front texts = ap (λ n. ((definitions texts).0, n)) (let k : (definitions texts).1 ≡ 0 + (definitions texts).1 = omega arith in k)
