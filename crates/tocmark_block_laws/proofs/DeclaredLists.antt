-- What is declared of lines that begin an item each.
use Rattle.std.proofs.Common.{◌≡◌, ◌⊎◌, inl, inr, ℕ, zero, suc, ◌+◌, ◌-◌, ◌<◌, ◌≤◌, Bool, true, false, not, ◌==◌, ◌&&◌, ◌||◌, cond, if◌then◌else◌, nat_lt, nat_le, List, [], ◌∷◌, ◌++◌, length, map, max, drop, refl, ap, sym, subst, ◌∙◌, arith, append_assoc, append-nil, length-append, true≢false}
use Rattle.std.specs.Prelude.{take_while, Option, Some, None}
use Rattle.std.specs.List.{AllByRecursion, fold, list_any}
use Rattle.std.proofs.lemmas.Bool.Decides.{nat_tests}
use Rattle.std.proofs.lemmas.List.{length-map, drop-drop}
use Rattle.std.proofs.lemmas.List.Sums.{take_while-cons}
use Rattle.tocmark_read_scan.proofs.PlainPieces.{drop_behind}
use Rattle.tocmark_read_page.specs.Definitions.{DefinitionView}
use Rattle.tocmark_commonmark.specs.Lines.{Line, Part, Written, Lazy, is_blank_byte, is_blank, is_blank_line, tab_width, indent, ink, line_ink, without_blank, without_byte, without_column, without_columns}
use Rattle.tocmark_commonmark.specs.Tree.{Block, Blocks, none, more, BulletList, OrderedList, Item, defined, defined_in, Found, ends_open, last_of, tree, Taken}
use Rattle.tocmark_commonmark.specs.Beginnings.{ItemMark, Beginning, BlankLine, CodeLine, QuoteLine, HeadingLine, FenceLine, HtmlLine, RuleLine, ItemLine, TextLine, LazyLine, beginning_of, beginning, interrupts, may_be_lazy}
use Rattle.tocmark_commonmark.specs.Containers.{goes_on, front, lazily, in_item_as, in_item, item_lines}
use Rattle.tocmark_commonmark.specs.Leaves.{definitions, underline, turn_of, turned, paragraph_lines, paragraph_left, definitions_found, paragraph_of}
use Rattle.tocmark_commonmark.specs.Lists.{ItemFound, item_block, same_sort, sibling, and_siblings, blank_count, items_after, items_with, items, gap_after, has_gap, is_tight, list_block, items_end, last_is_open, list_with}
use Rattle.tocmark_commonmark.specs.Blocks.{first_block, and_rest, blocks_from}
use Rattle.tocmark_block_laws.specs.Trees.{told, told_before}
use Rattle.tocmark_block_laws.specs.Lists.{is_one_line}
use Rattle.tocmark_block_laws.proofs.Columns.{front_low}
use Rattle.tocmark_block_laws.proofs.Starts.{is_blank_kind}
use Rattle.tocmark_block_laws.proofs.Told.{also}
use Rattle.tocmark_block_laws.proofs.Ends.{no_blocks, from_there}
use Rattle.tocmark_block_laws.proofs.ReadCodes.{Pass, while_whole, while_front}

-- a line that begins an item, whose content is one line, and the blank lines after it
pub record Marked : Type 0 where
  pub part : Part
  pub mark : ItemMark
  pub blanks : List Part
  pub begins : beginning (Written part) ≡ ItemLine mark
  pub one : is_one_line (beginning (Written mark.first)) ≡ true
  pub short : (definitions (line_ink (Written mark.first) ∷ [])).1 ≤ 1
  pub blank : Pass (λ (p : Part). is_blank p.bytes) blanks

-- a line that begins a leaf of one line, which is in no list, and the blank lines after it
pub record Single : Type 0 where
  pub part : Part
  pub kind : Beginning
  pub blanks : List Part
  pub begins : beginning (Written part) ≡ kind
  pub one : is_one_line kind ≡ true
  pub some : is_blank_kind kind ≡ false
  pub ink : is_blank part.bytes ≡ false
  pub short : (definitions (line_ink (Written part) ∷ [])).1 ≤ 1
  pub blank : Pass (λ (p : Part). is_blank p.bytes) blanks

pub data Entry : Type 0 where
  ItemEntry : Marked → Entry
  LeafEntry : Single → Entry

abbrev pub entry_part : Entry → Part
entry_part (ItemEntry v) = v.part
entry_part (LeafEntry u) = u.part

abbrev pub entry_blanks : Entry → List Part
entry_blanks (ItemEntry v) = v.blanks
entry_blanks (LeafEntry u) = u.blanks

abbrev pub written : List Part → List Line
written ps = map (λ (p : Part). Written p) ps

-- all their lines
abbrev pub all_shown : List Entry → List Line
all_shown [] = []
all_shown (e ∷ es) = Written (entry_part e) ∷ (written (entry_blanks e) ++ all_shown es)

-- how many lines these are
abbrev pub span : List Entry → ℕ
span [] = 0
span (e ∷ es) = suc (length (entry_blanks e)) + span es

abbrev item_span : List Marked → ℕ
item_span [] = 0
item_span (v ∷ vs) = suc (length v.blanks) + item_span vs

-- blank lines are after an item
abbrev pub has_blanks : Marked → Bool
has_blanks v = nat_lt 0 (length v.blanks)

abbrev pub is_text_kind : Beginning → Bool
is_text_kind TextLine = true
is_text_kind k = false

-- a paragraph ends with its line
abbrev pub closes_line : Single → List Entry → Bool
closes_line u [] = true
closes_line u (e ∷ es) = not (is_text_kind u.kind) || nat_lt 0 (length u.blanks)

-- each line is outside the item above it, and continues no paragraph
abbrev pub Follow : ℕ → Bool → List Entry → Type 0
Follow width quiet [] = Unit {0}
Follow width quiet (ItemEntry v ∷ es) = (indent v.part < width) × Follow v.mark.width (has_blanks v) es
Follow width quiet (LeafEntry u ∷ es) = (indent u.part < width) × ((is_text_kind u.kind && not quiet) ≡ false) × (closes_line u es ≡ true) × Follow 4 true es

-- the blocks of an item
abbrev pub content_blocks : Marked → List Found
content_blocks v = blocks_from 1 0 (Written v.mark.first ∷ [])

-- blank lines

abbrev AreBlank : List Line → Type 0
AreBlank ls = AllByRecursion (λ l. beginning l ≡ BlankLine) ls

begins_blank : (p : Part) → is_blank p.bytes ≡ true → beginning (Written p) ≡ BlankLine
unfolding beginning
begins_blank p e = ap (λ k. beginning_of p k (nat_le 4 (indent p))) e

pub written_blank : (ps : List Part) → Pass (λ (p : Part). is_blank p.bytes) ps → AreBlank (written ps)
written_blank [] h = tt
written_blank (p ∷ ps) h = (begins_blank p (h.0), written_blank ps (h.1))

-- they make no block
pub blanks_none : (fuel at : ℕ) (ls : List Line) → AreBlank ls → blocks_from fuel at ls ≡ []
unfolding blocks_from
blanks_none zero at ls h = refl
blanks_none (suc fuel) at [] h = refl
blanks_none (suc fuel) at (l ∷ ls) h =
    ap (λ k. and_rest (λ n x. blocks_from fuel n x) at (l ∷ ls) (first_block (λ x. blocks_from fuel 0 x) at l ls k)) (h.0) ∙ blanks_none fuel (at + 1) ls (h.1)

-- blocks after blank lines
pub blanks_skipped : (fuel at : ℕ) (ps : List Part) (ls : List Line) → Pass (λ (p : Part). is_blank p.bytes) ps → blocks_from (length ps + fuel) at (written ps ++ ls) ≡ blocks_from fuel (at + length ps) ls
unfolding blocks_from
blanks_skipped fuel at [] ls h = ap (λ n. blocks_from n at ls) (let q : 0 + fuel ≡ fuel = omega arith in q) ∙ ap (λ n. blocks_from fuel n ls) (let q : at ≡ at + 0 = omega arith in q)
blanks_skipped fuel at (p ∷ ps) ls h =
    ap (λ n. blocks_from n at (written (p ∷ ps) ++ ls)) (let q : suc (length ps) + fuel ≡ suc (length ps + fuel) = omega arith in q)
    ∙ ap (λ k. and_rest (λ n x. blocks_from (length ps + fuel) n x) at (written (p ∷ ps) ++ ls) (first_block (λ x. blocks_from (length ps + fuel) 0 x) at (Written p) (written ps ++ ls) k)) (begins_blank p (h.0))
    ∙ blanks_skipped fuel (at + 1) ps ls (h.1)
    ∙ ap (λ n. blocks_from fuel n ls) (let q : at + 1 + length ps ≡ at + suc (length ps) = omega arith in q)

blank_tail : (b : ℕ) (bs : List ℕ) → is_blank (b ∷ bs) ≡ true → is_blank bs ≡ true
blank_tail b bs e = by (is_blank_byte b) refl
  where
    low : length (take_while is_blank_byte bs) ≤ length bs
    low = front_low is_blank_byte bs

    by : (k : Bool) → is_blank_byte b ≡ k → is_blank bs ≡ true
    by true q =
        let count : length (take_while is_blank_byte (b ∷ bs)) ≡ suc (length (take_while is_blank_byte bs)) = ap (λ (xs : List ℕ). length xs) (take_while-cons is_blank_byte b bs) ∙ ap (λ k. length (cond k (b ∷ take_while is_blank_byte bs) [])) q in
        let whole : (suc (length (take_while is_blank_byte bs)) == suc (length bs)) ≡ true = sym (ap (λ n. n == suc (length bs)) count) ∙ e in
        grind (arith, whole, nat_tests)
    by false q =
        let none : length (take_while is_blank_byte (b ∷ bs)) ≡ 0 = ap (λ (xs : List ℕ). length xs) (take_while-cons is_blank_byte b bs) ∙ ap (λ k. length (cond k (b ∷ take_while is_blank_byte bs) [])) q in
        let whole : (0 == suc (length bs)) ≡ true = sym (ap (λ n. n == suc (length bs)) none) ∙ e in
        absurd (let no : (0 == suc (length bs)) ≡ false = grind (arith, nat_tests) in true≢false (sym whole ∙ no))

-- a blank line stays blank without columns in front
blank_byte_less : (p : Part) (b : ℕ) (bs : List ℕ) → is_blank p.bytes ≡ true → is_blank bs ≡ true → is_blank (without_blank p b bs).bytes ≡ true
blank_byte_less p b bs e f = by (b == 32) (b == 9)
  where
    spaced : Part
    spaced = record { column = p.column + 1; spaces = 0; bytes = bs }

    tabbed : Part
    tabbed = record { column = p.column + tab_width p.column; spaces = tab_width p.column - 1; bytes = bs }

    by : (k m : Bool) → is_blank (if k then spaced else (if m then tabbed else p)).bytes ≡ true
    by true m = f
    by false true = f
    by false false = e

blank_less : (p : Part) (spaces : ℕ) → is_blank p.bytes ≡ true → is_blank (without_column p spaces).bytes ≡ true
blank_less p zero e = by p.bytes refl
  where
    by : (xs : List ℕ) → p.bytes ≡ xs → is_blank (without_byte p xs).bytes ≡ true
    by [] q = e
    by (b ∷ bs) q = blank_byte_less p b bs e (blank_tail b bs (ap is_blank (sym q) ∙ e))
blank_less p (suc n) e = e

blank_without : (width : ℕ) (p : Part) → is_blank p.bytes ≡ true → is_blank (without_columns width p).bytes ≡ true
blank_without zero p e = e
blank_without (suc width) p e = blank_without width (without_column p p.spaces) (blank_less p p.spaces e)

-- the content of an item

-- it has one line
one_count : (inner : List Line → List Found) (l : Line) (ls : List Line) (k : Beginning) → AreBlank ls → is_one_line k ≡ true → (first_block inner 0 l ls k).count ≡ 1
one_count inner l ls BlankLine h e = refl
one_count inner l ls CodeLine h e = absurd (true≢false (sym e))
one_count inner l ls QuoteLine h e = absurd (true≢false (sym e))
one_count inner l ls (HeadingLine x) h e = refl
one_count inner l ls (FenceLine f) h e = absurd (true≢false (sym e))
one_count inner l ls (HtmlLine k) h e = absurd (true≢false (sym e))
one_count inner l ls RuleLine h e = refl
one_count inner l ls (ItemLine m) h e = absurd (true≢false (sym e))
one_count inner l [] TextLine h e = refl
one_count inner l (b ∷ ls) TextLine h e = ap (λ k. (paragraph_of 0 (turned (λ ts. paragraph_lines ts ls) (line_ink l ∷ []) (line_ink b) (turn_of k (underline (line_ink l ∷ []) b)))).count) (h.0)
one_count inner l ls LazyLine h e = absurd (true≢false (sym e))

-- what a line begins if it is alone
abbrev pub alone : Line → Beginning → List Found
alone l k = (first_block (λ x. []) 0 l [] k).found ++ []

same_found : (inner : List Line → List Found) (l : Line) (ls : List Line) (k : Beginning) → AreBlank ls → is_one_line k ≡ true → (first_block inner 0 l ls k).found ≡ (first_block (λ x. []) 0 l [] k).found
same_found inner l ls BlankLine h e = refl
same_found inner l ls CodeLine h e = absurd (true≢false (sym e))
same_found inner l ls QuoteLine h e = absurd (true≢false (sym e))
same_found inner l ls (HeadingLine x) h e = refl
same_found inner l ls (FenceLine f) h e = absurd (true≢false (sym e))
same_found inner l ls (HtmlLine k) h e = absurd (true≢false (sym e))
same_found inner l ls RuleLine h e = refl
same_found inner l ls (ItemLine m) h e = absurd (true≢false (sym e))
same_found inner l [] TextLine h e = refl
same_found inner l (b ∷ ls) TextLine h e = ap (λ k. (paragraph_of 0 (turned (λ ts. paragraph_lines ts ls) (line_ink l ∷ []) (line_ink b) (turn_of k (underline (line_ink l ∷ []) b)))).found) (h.0)
same_found inner l ls LazyLine h e = absurd (true≢false (sym e))

rest_none : (fuel : ℕ) (l : Line) (ls : List Line) (t : Taken) → AreBlank ls → t.count ≡ 1 → and_rest (λ n x. blocks_from fuel n x) 0 (l ∷ ls) t ≡ t.found ++ []
rest_none fuel l ls t h e = ap (λ n. t.found ++ blocks_from fuel (0 + n) (drop n (l ∷ ls))) e ∙ ap (λ fs. t.found ++ fs) (blanks_none fuel 1 ls h)

found_alone : (fuel : ℕ) (l : Line) (ls : List Line) → AreBlank ls → is_one_line (beginning l) ≡ true → blocks_from (suc fuel) 0 (l ∷ ls) ≡ alone l (beginning l)
unfolding blocks_from
found_alone fuel l ls h e =
    rest_none fuel l ls (first_block (λ x. blocks_from fuel 0 x) 0 l ls (beginning l)) h (one_count (λ x. blocks_from fuel 0 x) l ls (beginning l) h e)
    ∙ ap (λ fs. fs ++ []) (same_found (λ x. blocks_from fuel 0 x) l ls (beginning l) h e)

pub content_alone : (v : Marked) → content_blocks v ≡ alone (Written v.mark.first) (beginning (Written v.mark.first))
content_alone v = found_alone 0 (Written v.mark.first) [] tt v.one

-- the lines of an item in it: blank lines after the first one only if that isn't blank
abbrev kept_blanks : Bool → ℕ → List Part → List Line
kept_blanks true width ps = map (λ (p : Part). Written (without_columns width p)) ps
kept_blanks false width ps = []

abbrev pub has_ink : Marked → Bool
has_ink v = not (is_blank v.mark.first.bytes)

abbrev inside_item : Marked → List Line
inside_item v = Written v.mark.first ∷ kept_blanks (has_ink v) v.mark.width v.blanks

kept_blank : (k : Bool) (width : ℕ) (ps : List Part) → Pass (λ (p : Part). is_blank p.bytes) ps → AreBlank (kept_blanks k width ps)
kept_blank true width [] h = tt
kept_blank true width (p ∷ ps) h = (begins_blank (without_columns width p) (blank_without width p (h.0)), kept_blank true width ps (h.1))
kept_blank false width ps h = tt

content_same : (fuel : ℕ) (v : Marked) → blocks_from (suc fuel) 0 (inside_item v) ≡ content_blocks v
content_same fuel v = found_alone fuel (Written v.mark.first) (kept_blanks (has_ink v) v.mark.width v.blanks) (kept_blank (has_ink v) v.mark.width v.blanks v.blank) v.one ∙ sym (content_alone v)

-- no blank line is between its blocks, and they end with its line
abbrev IsTight : List Found → Type 0
IsTight fs = (last_of fs ≡ 0) × (has_gap fs ≡ false)

paragraph_tight : (t : List ℕ) (ds : List DefinitionView) (n : ℕ) → n ≤ 1 → IsTight ((definitions_found 0 ds n ++ paragraph_left (0 + n) (drop n (t ∷ []))) ++ [])
paragraph_tight t [] zero low = (refl, refl)
paragraph_tight t (d ∷ ds) zero low = (refl, refl)
paragraph_tight t [] (suc zero) low = (refl, refl)
paragraph_tight t (d ∷ ds) (suc zero) low = (refl, refl)
paragraph_tight t ds (suc (suc n)) low = absurd (omega (arith, low))

alone_tight : (l : Line) (k : Beginning) → is_one_line k ≡ true → (definitions (line_ink l ∷ [])).1 ≤ 1 → IsTight (alone l k)
alone_tight l BlankLine e low = (refl, refl)
alone_tight l CodeLine e low = absurd (true≢false (sym e))
alone_tight l QuoteLine e low = absurd (true≢false (sym e))
alone_tight l (HeadingLine h) e low = (refl, refl)
alone_tight l (FenceLine f) e low = absurd (true≢false (sym e))
alone_tight l (HtmlLine k) e low = absurd (true≢false (sym e))
alone_tight l RuleLine e low = (refl, refl)
alone_tight l (ItemLine m) e low = absurd (true≢false (sym e))
alone_tight l TextLine e low = paragraph_tight (line_ink l) ((definitions (line_ink l ∷ [])).0) ((definitions (line_ink l ∷ [])).1) low
alone_tight l LazyLine e low = absurd (true≢false (sym e))

content_tight : (v : Marked) → IsTight (content_blocks v)
content_tight v = subst (λ fs. IsTight fs) (sym (content_alone v)) (alone_tight (Written v.mark.first) (beginning (Written v.mark.first)) v.one v.short)

-- the items

abbrev item_at : ℕ → Marked → ItemFound
item_at n v = record { found = content_blocks v; first = n; count = length (inside_item v) }

abbrev items_of : ℕ → List Marked → List ItemFound
items_of n [] = []
items_of n (v ∷ vs) = item_at n v ∷ items_of (n + suc (length v.blanks)) vs

items_more : (n : ℕ) (us : List Marked) (v : Marked) → items_of n (us ++ v ∷ []) ≡ items_of n us ++ item_at (n + item_span us) v ∷ []
items_more n [] v = ap (λ k. item_at k v ∷ []) (let q : n ≡ n + 0 = omega arith in q)
items_more n (u ∷ us) v =
    ap (λ is. item_at n u ∷ is) (items_more (n + suc (length u.blanks)) us v
    ∙ ap (λ k. items_of (n + suc (length u.blanks)) us ++ item_at k v ∷ []) (let q : n + suc (length u.blanks) + item_span us ≡ n + (suc (length u.blanks) + item_span us) = omega arith in q))

span_more : (us : List Marked) (v : Marked) → item_span (us ++ v ∷ []) ≡ item_span us + suc (length v.blanks)
span_more [] v = omega arith
span_more (u ∷ us) v = let q : item_span (us ++ v ∷ []) ≡ item_span us + suc (length v.blanks) = span_more us v in omega (arith, q)

-- blank lines are between two items
abbrev gaps_after : Marked → List Marked → Bool
gaps_after u [] = false
gaps_after u (v ∷ vs) = has_blanks u || gaps_after v vs

abbrev gaps : List Marked → Bool
gaps [] = false
gaps (v ∷ vs) = gaps_after v vs

or_assoc : (a b c : Bool) → (a || (b || c)) ≡ ((a || b) || c)
or_assoc true b c = refl
or_assoc false b c = refl

or_false : (a : Bool) → (a || false) ≡ a
or_false true = refl
or_false false = refl

gaps_after_more : (u : Marked) (us : List Marked) (w v : Marked) → gaps_after u (us ++ w ∷ v ∷ []) ≡ (gaps_after u (us ++ w ∷ []) || has_blanks w)
gaps_after_more u [] w v = ap (λ k. has_blanks u || k) (or_false (has_blanks w)) ∙ ap (λ k. k || has_blanks w) (sym (or_false (has_blanks u)))
gaps_after_more u (x ∷ us) w v = ap (λ k. has_blanks u || k) (gaps_after_more x us w v) ∙ or_assoc (has_blanks u) (gaps_after x (us ++ w ∷ [])) (has_blanks w)

gaps_more : (us : List Marked) (w v : Marked) → gaps (us ++ w ∷ v ∷ []) ≡ (gaps (us ++ w ∷ []) || has_blanks w)
gaps_more [] w v = or_false (has_blanks w)
gaps_more (u ∷ us) w v = gaps_after_more u us w v

gap_found : (n last : ℕ) (u : Marked) (vs : List Marked) → last ≡ n → gap_after last (map item_block (items_of (n + suc (length u.blanks)) vs)) ≡ gaps_after u vs
gap_found n last u [] e = refl
gap_found n last u (v ∷ vs) e =
    let next : ℕ = n + suc (length u.blanks) in
    let tight : IsTight (content_blocks v) = content_tight v in
    let ends : last_of (content_blocks v) ≡ 0 = tight.0 in
    let near : nat_lt (last + 1) next ≡ has_blanks u = grind (arith, e, nat_tests) in
    ap (λ k. k || gap_after (next + last_of (content_blocks v)) (map item_block (items_of (next + suc (length v.blanks)) vs))) near
    ∙ ap (λ k. has_blanks u || k) (gap_found next (next + last_of (content_blocks v)) v vs (omega (arith, ends)))

gaps_found : (n : ℕ) (us : List Marked) → has_gap (map item_block (items_of n us)) ≡ gaps us
gaps_found n [] = refl
gaps_found n (u ∷ us) =
    let tight : IsTight (content_blocks u) = content_tight u in
    let ends : last_of (content_blocks u) ≡ 0 = tight.0 in
    gap_found n (n + last_of (content_blocks u)) u us (omega (arith, ends))

none_inside : (n : ℕ) (us : List Marked) → list_any (λ (i : ItemFound). has_gap i.found) (items_of n us) ≡ false
none_inside n [] = refl
none_inside n (u ∷ us) = let tight : IsTight (content_blocks u) = content_tight u in rw (tight.1) (none_inside (n + suc (length u.blanks)) us)

tight_found : (n : ℕ) (us : List Marked) → is_tight (items_of n us) ≡ not (gaps us)
tight_found n us = ap (λ k. not (has_gap (map item_block (items_of n us)) || k)) (none_inside n us) ∙ ap not (or_false (has_gap (map item_block (items_of n us))) ∙ gaps_found n us)

-- the lines of an item

pub ink_in : (v : Marked) → is_blank v.part.bytes ≡ false
unfolding beginning
ink_in v = by (is_blank v.part.bytes) v.begins
  where
    by : (k : Bool) → beginning_of v.part k (nat_le 4 (indent v.part)) ≡ ItemLine v.mark → k ≡ false
    by true e = absurd cc
    by false e = refl

outside : (blocks : List Line → List Found) (width : ℕ) (inside : List Line) (v : Marked) → indent v.part < width → in_item blocks width inside (Written v.part) ≡ None
unfolding may_be_lazy
outside blocks width inside v low =
    ap (λ k. in_item_as blocks width inside v.part k (nat_le width (indent v.part))) (ink_in v)
    ∙ ap (in_item_as blocks width inside v.part false) (let q : nat_le width (indent v.part) ≡ false = grind (arith, low, nat_tests) in q)
    ∙ ap (λ k. lazily blocks inside (ink v.part) (may_be_lazy k)) v.begins

-- the lines so far end with no open paragraph, if that is asked
abbrev IsQuiet : (List Line → List Found) → List Line → Bool → Type 0
IsQuiet blocks inside quiet = quiet ≡ true → ends_open (length inside) (blocks inside) ≡ false

-- a leaf continues no paragraph
lazily_none : (blocks : List Line → List Found) (inside : List Line) (bytes : List ℕ) (k : Beginning) (quiet : Bool) → is_one_line k ≡ true → (is_text_kind k && not quiet) ≡ false → IsQuiet blocks inside quiet → lazily blocks inside bytes (may_be_lazy k) ≡ None
unfolding may_be_lazy interrupts
lazily_none blocks inside bytes BlankLine quiet e q h = refl
lazily_none blocks inside bytes CodeLine quiet e q h = absurd (true≢false (sym e))
lazily_none blocks inside bytes QuoteLine quiet e q h = absurd (true≢false (sym e))
lazily_none blocks inside bytes (HeadingLine x) quiet e q h = refl
lazily_none blocks inside bytes (FenceLine f) quiet e q h = absurd (true≢false (sym e))
lazily_none blocks inside bytes (HtmlLine k) quiet e q h = absurd (true≢false (sym e))
lazily_none blocks inside bytes RuleLine quiet e q h = refl
lazily_none blocks inside bytes (ItemLine m) quiet e q h = absurd (true≢false (sym e))
lazily_none blocks inside bytes TextLine true e q h = ap (λ k. if k then Some (Lazy bytes) else None) (h refl)
lazily_none blocks inside bytes TextLine false e q h = absurd (true≢false q)
lazily_none blocks inside bytes LazyLine quiet e q h = absurd (true≢false (sym e))

outside_leaf : (blocks : List Line → List Found) (width : ℕ) (inside : List Line) (u : Single) (quiet : Bool) → indent u.part < width → (is_text_kind u.kind && not quiet) ≡ false → IsQuiet blocks inside quiet → in_item blocks width inside (Written u.part) ≡ None
outside_leaf blocks width inside u quiet low q h =
    ap (λ k. in_item_as blocks width inside u.part k (nat_le width (indent u.part))) u.ink
    ∙ ap (in_item_as blocks width inside u.part false) (let r : nat_le width (indent u.part) ≡ false = grind (arith, low, nat_tests) in r)
    ∙ ap (λ k. lazily blocks inside (ink u.part) (may_be_lazy k)) u.begins
    ∙ lazily_none blocks inside (ink u.part) u.kind quiet u.one q h

-- no line after this one goes on in it
front_ends : (blocks : List Line → List Found) (width : ℕ) (quiet : Bool) (inside : List Line) (es : List Entry) → Follow width quiet es → IsQuiet blocks inside quiet → front (in_item blocks width) inside (all_shown es) ≡ inside
front_ends blocks width quiet inside [] h q = refl
front_ends blocks width quiet inside (ItemEntry v ∷ es) h q =
    ap (goes_on (λ x. front (in_item blocks width) (inside ++ x ∷ []) (written v.blanks ++ all_shown es)) inside) (outside blocks width inside v (h.0))
front_ends blocks width quiet inside (LeafEntry u ∷ es) h q =
    ap (goes_on (λ x. front (in_item blocks width) (inside ++ x ∷ []) (written u.blanks ++ all_shown es)) inside) (outside_leaf blocks width inside u quiet (h.0) (h.1) q)

abbrev some_ink : List Line → Bool
some_ink inside = list_any (λ l. not (is_blank_line l)) inside

some_more : (xs ys : List Line) → some_ink xs ≡ true → some_ink (xs ++ ys) ≡ true
some_more [] ys e = absurd (true≢false (sym e))
some_more (x ∷ xs) ys e = by (not (is_blank_line x)) refl e (λ q. some_more xs ys q)
  where
    by : (k : Bool) → not (is_blank_line x) ≡ k → (k || some_ink xs) ≡ true → (some_ink xs ≡ true → some_ink (xs ++ ys) ≡ true) → some_ink (x ∷ (xs ++ ys)) ≡ true
    by true p q again = ap (λ k. k || some_ink (xs ++ ys)) p
    by false p q again = ap (λ k. k || some_ink (xs ++ ys)) p ∙ again q

-- blank lines go on in an item with ink
front_blanks : (blocks : List Line → List Found) (width : ℕ) (inside : List Line) (ps : List Part) (ls : List Line) → Pass (λ (p : Part). is_blank p.bytes) ps → some_ink inside ≡ true
    → front (in_item blocks width) inside (written ps ++ ls) ≡ front (in_item blocks width) (inside ++ kept_blanks true width ps) ls
front_blanks blocks width inside [] ls h e = ap (λ xs. front (in_item blocks width) xs ls) (sym (append-nil inside))
front_blanks blocks width inside (p ∷ ps) ls h e =
    ap (λ k. goes_on (λ x. front (in_item blocks width) (inside ++ x ∷ []) (written ps ++ ls)) inside (in_item_as blocks width inside p k (nat_le width (indent p)))) (h.0)
    ∙ ap (λ k. goes_on (λ x. front (in_item blocks width) (inside ++ x ∷ []) (written ps ++ ls)) inside (if k then Some (Written (without_columns width p)) else None)) e
    ∙ front_blanks blocks width (inside ++ Written (without_columns width p) ∷ []) ps ls (h.1) (some_more inside (Written (without_columns width p) ∷ []) e)
    ∙ ap (λ xs. front (in_item blocks width) xs ls) (append_assoc inside (Written (without_columns width p) ∷ []) (kept_blanks true width ps))

-- they don't in one without
front_stops : (blocks : List Line → List Found) (width : ℕ) (l : Line) (ps : List Part) (es : List Entry) → Pass (λ (p : Part). is_blank p.bytes) ps → is_blank_line l ≡ true → Follow width (nat_lt 0 (length ps)) es
    → front (in_item blocks width) (l ∷ []) (written ps ++ all_shown es) ≡ l ∷ []
front_stops blocks width l [] es h e follow = front_ends blocks width false (l ∷ []) es follow (λ q. absurd (true≢false (sym q)))
front_stops blocks width l (p ∷ ps) es h e follow =
    ap (λ k. goes_on (λ x. front (in_item blocks width) ((l ∷ []) ++ x ∷ []) (written ps ++ all_shown es)) (l ∷ []) (in_item_as blocks width (l ∷ []) p k (nat_le width (indent p)))) (h.0)
    ∙ ap (λ k. goes_on (λ x. front (in_item blocks width) ((l ∷ []) ++ x ∷ []) (written ps ++ all_shown es)) (l ∷ []) (if not k || false then Some (Written (without_columns width p)) else None)) e

item_alone : (blocks : List Line → List Found) (v : Marked) (es : List Entry) → Follow v.mark.width (has_blanks v) es → IsQuiet blocks (inside_item v) (has_blanks v) → item_lines blocks v.mark (written v.blanks ++ all_shown es) ≡ inside_item v
item_alone blocks v es h quiet = by (is_blank v.mark.first.bytes) refl
  where
    by : (k : Bool) → is_blank v.mark.first.bytes ≡ k → item_lines blocks v.mark (written v.blanks ++ all_shown es) ≡ Written v.mark.first ∷ kept_blanks (not k) v.mark.width v.blanks
    by true e = front_stops blocks v.mark.width (Written v.mark.first) v.blanks es v.blank e h
    by false e =
        front_blanks blocks v.mark.width (Written v.mark.first ∷ []) v.blanks (all_shown es) v.blank (ap (λ k. not k || false) e)
        ∙ front_ends blocks v.mark.width (has_blanks v) (Written v.mark.first ∷ kept_blanks true v.mark.width v.blanks) es h
        (λ q. ap (λ k. ends_open (length (Written v.mark.first ∷ kept_blanks (not k) v.mark.width v.blanks)) (blocks (Written v.mark.first ∷ kept_blanks (not k) v.mark.width v.blanks))) (sym e) ∙ quiet q)

-- an item before blank lines ends with no open paragraph

last_grows : (fs : List Found) (m : ℕ) → m ≤ fold (λ (n : ℕ) (f : Found). max n f.last) m fs
last_grows [] m = omega arith
last_grows (f ∷ fs) m = let low : max m f.last ≤ fold (λ (n : ℕ) (g : Found). max n g.last) (max m f.last) fs = last_grows fs (max m f.last) in omega (arith, low)

and_false : (a b : Bool) → b ≡ false → (a && b) ≡ false
and_false true b e = e
and_false false b e = refl

ends_none : (count : ℕ) (fs : List Found) (m : ℕ) (was : Bool) → fold (λ (n : ℕ) (f : Found). max n f.last) m fs ≡ 0 → 1 < count → was ≡ false → fold (λ (k : Bool) (f : Found). f.is_open && (f.last + 1 == count)) was fs ≡ false
ends_none count [] m was e many shut = shut
ends_none count (f ∷ fs) m was e many shut =
    let low : max m f.last ≤ fold (λ (n : ℕ) (g : Found). max n g.last) (max m f.last) fs = last_grows fs (max m f.last) in
    let first : f.last ≡ 0 = omega (arith, low, e) in
    ends_none count fs (max m f.last) (f.is_open && (f.last + 1 == count)) e many (and_false f.is_open (f.last + 1 == count) (grind (arith, first, many, nat_tests)))

empty_content : (v : Marked) → is_blank v.mark.first.bytes ≡ true → content_blocks v ≡ []
empty_content v e = content_alone v ∙ ap (alone (Written v.mark.first)) (begins_blank v.mark.first e)

item_quiet : (fuel : ℕ) (v : Marked) → IsQuiet (λ x. blocks_from (suc fuel) 0 x) (inside_item v) (has_blanks v)
item_quiet fuel v some = ap (ends_open (length (inside_item v))) (content_same fuel v) ∙ by (is_blank v.mark.first.bytes) refl
  where
    tight : IsTight (content_blocks v)
    tight = content_tight v

    by : (k : Bool) → is_blank v.mark.first.bytes ≡ k → ends_open (length (Written v.mark.first ∷ kept_blanks (not k) v.mark.width v.blanks)) (content_blocks v) ≡ false
    by true e = ap (ends_open 1) (empty_content v e)
    by false e =
        let count : length (kept_blanks true v.mark.width v.blanks) ≡ length v.blanks = length-map v.blanks (λ (p : Part). Written (without_columns v.mark.width p)) in
        let lines : 0 < length v.blanks = grind (arith, some, nat_tests) in
        ends_none (suc (length (kept_blanks true v.mark.width v.blanks))) (content_blocks v) 0 false (tight.0) (omega (arith, count, lines)) refl

-- the blank lines before an item
blank_lines : (ps : List Part) → Pass (λ (p : Part). is_blank p.bytes) ps → Pass is_blank_line (written ps)
blank_lines [] h = tt
blank_lines (p ∷ ps) h = (h.0, blank_lines ps (h.1))

pub entry_ink : (e : Entry) → is_blank (entry_part e).bytes ≡ false
entry_ink (ItemEntry v) = ink_in v
entry_ink (LeafEntry u) = u.ink

blanks_counted : (ps : List Part) (es : List Entry) → Pass (λ (p : Part). is_blank p.bytes) ps → blank_count (written ps ++ all_shown es) ≡ length ps
blanks_counted ps [] h = ap (λ (ls : List Line). length ls) (while_whole is_blank_line (written ps) (blank_lines ps h)) ∙ length-map ps (λ (p : Part). Written p)
blanks_counted ps (e ∷ es) h =
    ap (λ (ls : List Line). length ls) (while_front is_blank_line (written ps) (Written (entry_part e)) (written (entry_blanks e) ++ all_shown es) (blank_lines ps h) (entry_ink e)) ∙ length-map ps (λ (p : Part). Written p)

drop_written : (ps : List Part) (ls : List Line) → drop (length ps) (written ps ++ ls) ≡ ls
drop_written ps ls = ap (λ n. drop n (written ps ++ ls)) (sym (length-map ps (λ (p : Part). Written p))) ∙ drop_behind (written ps) ls

-- the items after one
abbrev items_next : (List Line → List Found) → ℕ → ℕ → ℕ → List Entry → List ItemFound
items_next blocks k n sort es = and_siblings (λ s. items blocks k n s) (sibling sort (all_shown es))

items_step : (fuel k n : ℕ) (v : Marked) (vs : List Entry) → Follow v.mark.width (has_blanks v) vs
    → items (λ x. blocks_from (suc fuel) 0 x) (suc k) n (v.mark, written v.blanks ++ all_shown vs) ≡ item_at n v ∷ items_next (λ x. blocks_from (suc fuel) 0 x) k (n + suc (length v.blanks)) v.mark.sort vs
items_step fuel k n v vs h =
    ap (items_with (λ m s. items inner k m s) inner n v.mark ls) (item_alone inner v vs h (item_quiet fuel v))
    ∙ ap (λ fs. record { found = fs; first = n; count = length (inside_item v) } ∷ next (n + length (lines (has_ink v))) (drop (length (lines (has_ink v)) - 1) ls) (blank_count (drop (length (lines (has_ink v)) - 1) ls))) (content_same fuel v)
    ∙ ap (λ is. item_at n v ∷ is) (by (has_ink v))
  where
    inner : List Line → List Found
    inner = λ x. blocks_from (suc fuel) 0 x

    ls : List Line
    ls = written v.blanks ++ all_shown vs

    lines : Bool → List Line
    lines k = Written v.mark.first ∷ kept_blanks k v.mark.width v.blanks

    next : ℕ → List Line → ℕ → List ItemFound
    next at rest blanks = items_after (λ m s. items inner k m s) at v.mark rest blanks

    by : (q : Bool) → next (n + length (lines q)) (drop (length (lines q) - 1) ls) (blank_count (drop (length (lines q) - 1) ls)) ≡ items_next inner k (n + suc (length v.blanks)) v.mark.sort vs
    by true =
        let count : length (kept_blanks true v.mark.width v.blanks) ≡ length v.blanks = length-map v.blanks (λ (p : Part). Written (without_columns v.mark.width p)) in
        let less : suc (length (kept_blanks true v.mark.width v.blanks)) - 1 ≡ length v.blanks = omega (arith, count) in
        ap (λ m. next (n + suc (length (kept_blanks true v.mark.width v.blanks))) (drop m ls) (blank_count (drop m ls))) less
        ∙ ap (λ xs. next (n + suc (length (kept_blanks true v.mark.width v.blanks))) xs (blank_count xs)) (drop_written v.blanks (all_shown vs))
        ∙ ap (next (n + suc (length (kept_blanks true v.mark.width v.blanks))) (all_shown vs)) (blanks_counted [] vs tt)
        ∙ ap (λ m. items_next inner k m v.mark.sort vs) (let q : n + suc (length (kept_blanks true v.mark.width v.blanks)) + 0 ≡ n + suc (length v.blanks) = omega (arith, count) in q)
    by false =
        ap (next (n + 1) ls) (blanks_counted v.blanks vs v.blank)
        ∙ ap (λ xs. and_siblings (λ s. items inner k (n + 1 + length v.blanks) s) (sibling v.mark.sort xs)) (drop_written v.blanks (all_shown vs))
        ∙ ap (λ m. items_next inner k m v.mark.sort vs) (let q : n + 1 + length v.blanks ≡ n + suc (length v.blanks) = omega arith in q)

-- the lists of lines

-- a list as it is told
abbrev pub list_told : Bool → Option ℕ → Blocks → Block
list_told tight None is = BulletList 0 tight is
list_told tight (Some n) is = OrderedList 0 n tight is

abbrev pub item_told : Marked → Blocks
item_told v = more (Item (told (tree (content_blocks v)))) none

-- a leaf outside lists
abbrev pub leaf_told : Single → Blocks
leaf_told u = told (tree (alone (Written u.part) u.kind))

abbrev mutual
  -- leaves and lists
  pub docs_told : List Entry → Blocks
  docs_told [] = none
  docs_told (LeafEntry u ∷ es) = also (leaf_told u) (docs_told es)
  docs_told (ItemEntry v ∷ es) = lists_told v.mark.number v.mark.sort (item_told v) true (has_blanks v) es

  -- a list with these items so far, and all that comes after them; blank lines may be after the last of them
  pub lists_told : Option ℕ → ℕ → Blocks → Bool → Bool → List Entry → Blocks
  lists_told number sort is tight blank [] = more (list_told tight number is) none
  lists_told number sort is tight blank (LeafEntry u ∷ es) = more (list_told tight number is) (also (leaf_told u) (docs_told es))
  lists_told number sort is tight blank (ItemEntry v ∷ es) =
      if v.mark.sort == sort then lists_told number v.mark.sort (also is (item_told v)) (tight && not blank) (has_blanks v) es
      else more (list_told tight number is) (lists_told v.mark.number v.mark.sort (item_told v) true (has_blanks v) es)

-- the definitions in them
abbrev pub entry_defined : Entry → List DefinitionView
entry_defined (ItemEntry v) = defined (tree (content_blocks v))
entry_defined (LeafEntry u) = defined (tree (alone (Written u.part) u.kind))

abbrev pub all_defined : List Entry → List DefinitionView
all_defined [] = []
all_defined (e ∷ es) = entry_defined e ++ all_defined es

abbrev items_defined : List Marked → List DefinitionView
items_defined [] = []
items_defined (v ∷ vs) = defined (tree (content_blocks v)) ++ items_defined vs

-- these blocks are told so, and have these definitions
pub record AreTold (fs : List Found) (bs : Blocks) (ds : List DefinitionView) : Type 0 where
  pub blocks : told (tree fs) ≡ bs
  pub definitions : defined (tree fs) ≡ ds

-- items as they are told
abbrev told_items : List Marked → Blocks
told_items [] = none
told_items (v ∷ vs) = more (Item (told (tree (content_blocks v)))) (told_items vs)

tree_items : (n : ℕ) (us : List Marked) → told (tree (map item_block (items_of n us))) ≡ told_items us
tree_items n [] = refl
tree_items n (u ∷ us) = ap (λ y. more (Item (told (tree (content_blocks u)))) y) (tree_items (n + suc (length u.blanks)) us)

told_more : (us : List Marked) (v : Marked) → told_items (us ++ v ∷ []) ≡ also (told_items us) (item_told v)
told_more [] v = refl
told_more (u ∷ us) v = ap (λ y. more (Item (told (tree (content_blocks u)))) y) (told_more us v)

defined_items : (n : ℕ) (us : List Marked) → defined (tree (map item_block (items_of n us))) ≡ items_defined us
defined_items n [] = refl
defined_items n (u ∷ us) = ap (λ ds. defined (tree (content_blocks u)) ++ ds) (defined_items (n + suc (length u.blanks)) us)

defined_more : (us : List Marked) (v : Marked) → items_defined (us ++ v ∷ []) ≡ items_defined us ++ defined (tree (content_blocks v))
defined_more [] v = append-nil (defined (tree (content_blocks v)))
defined_more (u ∷ us) v = ap (λ ds. defined (tree (content_blocks u)) ++ ds) (defined_more us v) ∙ sym (append_assoc (defined (tree (content_blocks u))) (items_defined us) (defined (tree (content_blocks v))))

told_list : (m : ItemMark) (n : Option ℕ) (tight : Bool) (is y : Blocks) → told_before (list_block m n tight is) y ≡ more (list_told tight n (told is)) y
told_list m None tight is y = refl
told_list m (Some n) tight is y = refl

defined_list : (m : ItemMark) (n : Option ℕ) (tight : Bool) (is : Blocks) → defined_in (list_block m n tight is) ≡ defined is
defined_list m None tight is = refl
defined_list m (Some n) tight is = refl

-- the list ends

-- the lines of its last item in it
abbrev last_lines : Marked → ℕ
last_lines v = length (inside_item v)

end_from : (n m : ℕ) (us : List Marked) (v : Marked) → fold (λ (k : ℕ) (i : ItemFound). i.first + i.count) m (items_of n (us ++ v ∷ [])) ≡ n + item_span us + last_lines v
end_from n m [] v = omega arith
end_from n m (u ∷ us) v = end_from (n + suc (length u.blanks)) (n + last_lines u) us v ∙ (let q : n + suc (length u.blanks) + item_span us + last_lines v ≡ n + (suc (length u.blanks) + item_span us) + last_lines v = omega arith in q)

-- the lines after it
abbrev left_lines : Marked → List Line → List Line
left_lines v ls = if has_ink v then ls else written v.blanks ++ ls

drop_more : (n k : ℕ) (xs : List Line) → drop (n + k) xs ≡ drop k (drop n xs)
drop_more n k xs = sym (drop-drop k n xs)

lines_left : (n : ℕ) (whole : List Line) (v : Marked) (ls : List Line) → drop n whole ≡ Written v.part ∷ (written v.blanks ++ ls) → drop (n + last_lines v) whole ≡ left_lines v ls
lines_left n whole v ls e = drop_more n (last_lines v) whole ∙ ap (drop (last_lines v)) e ∙ by (has_ink v)
  where
    by : (k : Bool) → drop (length (Written v.mark.first ∷ kept_blanks k v.mark.width v.blanks)) (Written v.part ∷ (written v.blanks ++ ls)) ≡ (if k then ls else written v.blanks ++ ls)
    by true = ap (λ m. drop (suc m) (Written v.part ∷ (written v.blanks ++ ls))) (length-map v.blanks (λ (p : Part). Written (without_columns v.mark.width p))) ∙ drop_written v.blanks ls
    by false = refl

abbrev list_found : ItemMark → ℕ → List ItemFound → Found
list_found m n is = record { block = list_block m m.number (is_tight is) (tree (map item_block is)); first = n; last = last_of (map item_block is); is_open = last_is_open (map item_block is) }

-- blocks from there on are told so, whatever their number
abbrev ToldFrom : ℕ → List Line → Blocks → List DefinitionView → Type 0
ToldFrom fuel ls bs ds = (at : ℕ) → AreTold (blocks_from fuel at ls) bs ds

list_ends : (fuel n : ℕ) (whole rest : List Line) (m : ItemMark) (us : List Marked) (v : Marked) (bs : Blocks) (ds : List DefinitionView) → drop (item_span us + last_lines v) whole ≡ rest → ToldFrom fuel rest bs ds
    → AreTold (from_there fuel n whole (list_with m n (items_of n (us ++ v ∷ [])))) (more (list_told (not (gaps (us ++ v ∷ []))) m.number (told_items (us ++ v ∷ []))) bs) (items_defined (us ++ v ∷ []) ++ ds)
list_ends fuel n whole rest m us v bs ds e t =
    subst (λ fs. AreTold fs (more (list_told (not (gaps all)) m.number (told_items all)) bs) (items_defined all ++ ds)) (sym ends)
    (record {
      blocks = told_list m m.number (is_tight is) (tree (map item_block is)) (told (tree rest_found))
          ∙ ap (λ k. more (list_told k m.number (told (tree (map item_block is)))) (told (tree rest_found))) (tight_found n all)
          ∙ ap (λ x. more (list_told (not (gaps all)) m.number x) (told (tree rest_found))) (tree_items n all)
          ∙ ap (more (list_told (not (gaps all)) m.number (told_items all))) (t at).blocks;
      definitions = ap (λ xs. xs ++ defined (tree rest_found)) (defined_list m m.number (is_tight is) (tree (map item_block is)) ∙ defined_items n all)
          ∙ ap (λ xs. items_defined all ++ xs) (t at).definitions;
    })
  where
    all : List Marked
    all = us ++ v ∷ []

    is : List ItemFound
    is = items_of n all

    at : ℕ
    at = n + (item_span us + last_lines v)

    rest_found : List Found
    rest_found = blocks_from fuel at rest

    count : items_end is - n ≡ item_span us + last_lines v
    count = let q : items_end is ≡ n + item_span us + last_lines v = end_from n 0 us v in omega (arith, q)

    ends : from_there fuel n whole (list_with m n is) ≡ list_found m n is ∷ rest_found
    ends = ap (λ k. list_found m n is ∷ blocks_from fuel (n + k) (drop k whole)) count ∙ ap (λ ls. list_found m n is ∷ blocks_from fuel at ls) e

-- blank lines before others change nothing
told_left : (fuel : ℕ) (v : Marked) (ls : List Line) (bs : Blocks) (ds : List DefinitionView) → ((more_fuel : ℕ) → ToldFrom (more_fuel + fuel) ls bs ds) → ToldFrom (length v.blanks + fuel) (left_lines v ls) bs ds
told_left fuel v ls bs ds h at = by (has_ink v)
  where
    by : (k : Bool) → AreTold (blocks_from (length v.blanks + fuel) at (if k then ls else written v.blanks ++ ls)) bs ds
    by true = h (length v.blanks) at
    by false = subst (λ fs. AreTold fs bs ds) (sym (blanks_skipped fuel at v.blanks ls v.blank)) (subst (λ n. AreTold (blocks_from n (at + length v.blanks) ls) bs ds) (let q : 0 + fuel ≡ fuel = omega arith in q) (h 0 (at + length v.blanks)))

-- there are at least as many lines as entries
rows_low : (ps : List Part) (es : List Entry) → length es ≤ length (written ps ++ all_shown es)
rows_low ps [] = omega arith
rows_low ps (e ∷ es) =
    let low : length es ≤ length (written (entry_blanks e) ++ all_shown es) = rows_low (entry_blanks e) es in
    let all : length (written ps ++ all_shown (e ∷ es)) ≡ length (written ps) + length (all_shown (e ∷ es)) = length-append (written ps) (all_shown (e ∷ es)) in
    omega (arith, low, all)

-- what is declared of lines, after some items of a list
abbrev Declares : List Entry → Type 0
Declares es = (fuel n k sort : ℕ) (m : ItemMark) (us : List Marked) (v : Marked) (whole : List Line) → drop (item_span us) whole ≡ Written v.part ∷ (written v.blanks ++ all_shown es) → Follow v.mark.width (has_blanks v) es → length es ≤ k → length v.blanks + span es < fuel
    → AreTold (from_there fuel n whole (list_with m n (items_of n (us ++ v ∷ []) ++ items_next (λ x. blocks_from fuel 0 x) k (n + item_span (us ++ v ∷ [])) sort es)))
    (lists_told m.number sort (told_items (us ++ v ∷ [])) (not (gaps (us ++ v ∷ []))) (has_blanks v) es) (items_defined (us ++ v ∷ []) ++ all_defined es)

-- and where no list is open
abbrev Tops : List Entry → Type 0
Tops es = (fuel at width : ℕ) → Follow width true es → span es < fuel → AreTold (blocks_from fuel at (all_shown es)) (docs_told es) (all_defined es)

-- a list begins
list_starts : (v : Marked) (es : List Entry) → Declares es → (fuel n : ℕ) → Follow v.mark.width (has_blanks v) es → suc (length v.blanks + span es) < suc fuel
    → AreTold (blocks_from (suc fuel) n (all_shown (ItemEntry v ∷ es))) (lists_told v.mark.number v.mark.sort (item_told v) true (has_blanks v) es) (all_defined (ItemEntry v ∷ es))
unfolding blocks_from
list_starts v es again zero n follow few = absurd (omega (arith, few))
list_starts v es again (suc f) n follow few =
    subst (λ fs. AreTold fs (lists_told v.mark.number v.mark.sort (item_told v) true (has_blanks v) es) (all_defined (ItemEntry v ∷ es))) (sym starts)
    (subst (λ ds. AreTold (from_there (suc f) n whole (list_with v.mark n (item_at n v ∷ items_next inner (length ls) (n + item_span (v ∷ [])) v.mark.sort es))) (lists_told v.mark.number v.mark.sort (item_told v) true (has_blanks v) es) (ds ++ all_defined es)) (append-nil (defined (tree (content_blocks v))))
    (again (suc f) n (length ls) v.mark.sort v.mark [] v whole refl follow (rows_low v.blanks es) (omega (arith, few))))
  where
    ls : List Line
    ls = written v.blanks ++ all_shown es

    whole : List Line
    whole = Written v.part ∷ ls

    inner : List Line → List Found
    inner = λ x. blocks_from (suc f) 0 x

    starts : from_there (suc f) n whole (first_block inner n (Written v.part) ls (beginning (Written v.part)))
        ≡ from_there (suc f) n whole (list_with v.mark n (item_at n v ∷ items_next inner (length ls) (n + item_span (v ∷ [])) v.mark.sort es))
    starts =
        ap (λ k. from_there (suc f) n whole (first_block inner n (Written v.part) ls k)) v.begins
        ∙ ap (λ k. from_there (suc f) n whole (list_with v.mark n (items inner k n (v.mark, ls)))) (let q : length ls + 1 ≡ suc (length ls) = omega arith in q)
        ∙ ap (λ is. from_there (suc f) n whole (list_with v.mark n is)) (items_step f (length ls) n v es follow)
        ∙ ap (λ k. from_there (suc f) n whole (list_with v.mark n (item_at n v ∷ items_next inner (length ls) k v.mark.sort es))) (let q : n + suc (length v.blanks) ≡ n + item_span (v ∷ []) = omega arith in q)

-- a leaf outside lists

-- a block with its line, and what comes after it
record LeafTaken (u : Single) (t : Taken) : Type 0 where
  count : t.count ≡ 1
  blocks : (fs : List Found) → told (tree (t.found ++ fs)) ≡ also (leaf_told u) (told (tree fs))
  definitions : (fs : List Found) → defined (tree (t.found ++ fs)) ≡ defined (tree (alone (Written u.part) u.kind)) ++ defined (tree fs)

-- a paragraph of one line, wherever it is
paragraph_told : (t : List ℕ) (ds : List DefinitionView) (at n : ℕ) (fs : List Found) → n ≤ 1
    → (told (tree ((definitions_found at ds n ++ paragraph_left (at + n) (drop n (t ∷ []))) ++ fs)) ≡ also (told (tree ((definitions_found 0 ds n ++ paragraph_left (0 + n) (drop n (t ∷ []))) ++ []))) (told (tree fs)))
    × (defined (tree ((definitions_found at ds n ++ paragraph_left (at + n) (drop n (t ∷ []))) ++ fs)) ≡ defined (tree ((definitions_found 0 ds n ++ paragraph_left (0 + n) (drop n (t ∷ []))) ++ [])) ++ defined (tree fs))
paragraph_told t [] at zero fs low = (refl, refl)
paragraph_told t (d ∷ ds) at zero fs low = (refl, ap (λ es. es ++ defined (tree fs)) (sym (append-nil (d ∷ ds))))
paragraph_told t [] at (suc zero) fs low = (refl, refl)
paragraph_told t (d ∷ ds) at (suc zero) fs low = (refl, ap (λ es. es ++ defined (tree fs)) (sym (append-nil (d ∷ ds))))
paragraph_told t ds at (suc (suc n)) fs low = absurd (omega (arith, low))

-- the lines of a paragraph before a blank line, or at the end
paragraph_alone : (l : Line) (ps : List Part) (es : List Entry) → Pass (λ (p : Part). is_blank p.bytes) ps → (es ≡ []) ⊎ (nat_lt 0 (length ps) ≡ true) → paragraph_lines (line_ink l ∷ []) (written ps ++ all_shown es) ≡ (line_ink l ∷ [], None)
paragraph_alone l (p ∷ ps) es h q = ap (λ k. turned (λ ts. paragraph_lines ts (written ps ++ all_shown es)) (line_ink l ∷ []) (line_ink (Written p)) (turn_of k (underline (line_ink l ∷ []) (Written p)))) (begins_blank p (h.0))
paragraph_alone l [] es h (inl e) = ap (λ xs. paragraph_lines (line_ink l ∷ []) (all_shown xs)) e
paragraph_alone l [] es h (inr e) = absurd (true≢false (sym e))

text_closes : (u : Single) (es : List Entry) → u.kind ≡ TextLine → closes_line u es ≡ true → (es ≡ []) ⊎ (nat_lt 0 (length u.blanks) ≡ true)
text_closes u [] k e = inl refl
text_closes u (x ∷ es) k e = inr (sym (ap (λ y. not (is_text_kind y) || nat_lt 0 (length u.blanks)) k) ∙ e)

leaf_taken : (u : Single) (es : List Entry) (inner : List Line → List Found) (at : ℕ) → closes_line u es ≡ true → LeafTaken u (first_block inner at (Written u.part) (written u.blanks ++ all_shown es) u.kind)
leaf_taken u es inner at closes = by u.kind refl u.one
  where
    l : Line
    l = Written u.part

    ls : List Line
    ls = written u.blanks ++ all_shown es

    Part_of : Beginning → Type 0
    Part_of k = (t : Taken) × (first_block inner at l ls k ≡ t) × (t.count ≡ 1)
        × ((fs : List Found) → (told (tree (t.found ++ fs)) ≡ also (told (tree (alone l k))) (told (tree fs))) × (defined (tree (t.found ++ fs)) ≡ defined (tree (alone l k)) ++ defined (tree fs)))

    taken_of : (k : Beginning) → u.kind ≡ k → Part_of k → LeafTaken u (first_block inner at l ls u.kind)
    taken_of k e (t, is, count, tells) =
        subst (λ y. LeafTaken u y) (sym (ap (first_block inner at l ls) e ∙ is))
        (record {
          count = count;
          blocks = λ fs. (tells fs).0 ∙ ap (λ y. also (told (tree (alone l y))) (told (tree fs))) (sym e);
          definitions = λ fs. (tells fs).1 ∙ ap (λ y. defined (tree (alone l y)) ++ defined (tree fs)) (sym e);
        })

    texted : u.kind ≡ TextLine → Part_of TextLine
    texted e = (
      paragraph_of at (line_ink l ∷ [], None),
      ap (paragraph_of at) (paragraph_alone l u.blanks es u.blank (text_closes u es e closes)),
      refl,
      (λ fs. paragraph_told (line_ink l) ((definitions (line_ink l ∷ [])).0) at ((definitions (line_ink l ∷ [])).1) fs u.short),
    )

    by : (k : Beginning) → u.kind ≡ k → is_one_line k ≡ true → LeafTaken u (first_block inner at l ls u.kind)
    by BlankLine e o = taken_of BlankLine e (first_block inner at l ls BlankLine, refl, refl, (λ fs. (refl, refl)))
    by CodeLine e o = absurd (true≢false (sym o))
    by QuoteLine e o = absurd (true≢false (sym o))
    by (HeadingLine h) e o = taken_of (HeadingLine h) e (first_block inner at l ls (HeadingLine h), refl, refl, (λ fs. (refl, refl)))
    by (FenceLine f) e o = absurd (true≢false (sym o))
    by (HtmlLine k) e o = absurd (true≢false (sym o))
    by RuleLine e o = taken_of RuleLine e (first_block inner at l ls RuleLine, refl, refl, (λ fs. (refl, refl)))
    by (ItemLine m) e o = absurd (true≢false (sym o))
    by TextLine e o = taken_of TextLine e (texted e)
    by LazyLine e o = absurd (true≢false (sym o))

leaf_starts : (u : Single) (es : List Entry) → Tops es → (fuel at : ℕ) → closes_line u es ≡ true → Follow 4 true es → length u.blanks + span es < fuel
    → AreTold (blocks_from (suc fuel) at (all_shown (LeafEntry u ∷ es))) (docs_told (LeafEntry u ∷ es)) (all_defined (LeafEntry u ∷ es))
unfolding blocks_from
leaf_starts u es again fuel at closes follow few =
    subst (λ fs. AreTold fs (docs_told (LeafEntry u ∷ es)) (all_defined (LeafEntry u ∷ es))) (sym starts)
    (record {
      blocks = t.blocks rest ∙ ap (also (leaf_told u)) r.blocks;
      definitions = t.definitions rest ∙ ap (λ ds. defined (tree (alone (Written u.part) u.kind)) ++ ds) r.definitions;
    })
  where
    l : Line
    l = Written u.part

    ls : List Line
    ls = written u.blanks ++ all_shown es

    inner : List Line → List Found
    inner = λ x. blocks_from fuel 0 x

    first : Taken
    first = first_block inner at l ls u.kind

    t : LeafTaken u first
    t = leaf_taken u es inner at closes

    left : ℕ
    left = fuel - length u.blanks

    rest : List Found
    rest = blocks_from left (at + 1 + length u.blanks) (all_shown es)

    r : AreTold rest (docs_told es) (all_defined es)
    r = again left (at + 1 + length u.blanks) 4 follow (omega (arith, few))

    starts : and_rest (λ n x. blocks_from fuel n x) at (l ∷ ls) (first_block inner at l ls (beginning l)) ≡ first.found ++ rest
    starts =
        ap (λ k. and_rest (λ n x. blocks_from fuel n x) at (l ∷ ls) (first_block inner at l ls k)) u.begins
        ∙ ap (λ n. first.found ++ blocks_from fuel (at + n) (drop n (l ∷ ls))) t.count
        ∙ ap (λ n. first.found ++ blocks_from n (at + 1) ls) (let q : fuel ≡ length u.blanks + left = omega (arith, few) in q)
        ∙ ap (λ fs. first.found ++ fs) (blanks_skipped left (at + 1) u.blanks (all_shown es) u.blank)

tops_more : (e : Entry) (es : List Entry) → Declares es → Tops es → Tops (e ∷ es)
tops_more e es h t zero at width follow few = absurd (omega (arith, few))
tops_more (ItemEntry v) es h t (suc f) at width follow few = list_starts v es h f at (follow.1) (omega (arith, few))
tops_more (LeafEntry u) es h t (suc f) at width follow few = leaf_starts u es t f at (follow.2) (follow.3) (omega (arith, few))

-- the list ends before a line
list_stops : (e : Entry) (es : List Entry) → Tops (e ∷ es) → (f n k sort : ℕ) (m : ItemMark) (us : List Marked) (v : Marked) (whole : List Line) → drop (item_span us) whole ≡ Written v.part ∷ (written v.blanks ++ all_shown (e ∷ es)) → Follow 4 true (e ∷ es) → length v.blanks + span (e ∷ es) < suc f
    → items_next (λ x. blocks_from (suc f) 0 x) k (n + item_span (us ++ v ∷ [])) sort (e ∷ es) ≡ []
    → AreTold (from_there (suc f) n whole (list_with m n (items_of n (us ++ v ∷ []) ++ items_next (λ x. blocks_from (suc f) 0 x) k (n + item_span (us ++ v ∷ [])) sort (e ∷ es))))
    (more (list_told (not (gaps (us ++ v ∷ []))) m.number (told_items (us ++ v ∷ []))) (docs_told (e ∷ es))) (items_defined (us ++ v ∷ []) ++ all_defined (e ∷ es))
list_stops e es tops f n k sort m us v whole rest follow few stops =
    subst (λ js. AreTold (from_there (suc f) n whole (list_with m n js)) result (items_defined all ++ all_defined (e ∷ es))) (sym (ap (λ js. items_of n all ++ js) stops ∙ append-nil (items_of n all)))
    (list_ends (suc f) n whole (left_lines v (all_shown (e ∷ es))) m us v (docs_told (e ∷ es)) (all_defined (e ∷ es)) (lines_left (item_span us) whole v (all_shown (e ∷ es)) rest)
    (subst (λ p. ToldFrom p (left_lines v (all_shown (e ∷ es))) (docs_told (e ∷ es)) (all_defined (e ∷ es))) (let q : length v.blanks + (suc f - length v.blanks) ≡ suc f = omega (arith, few) in q)
    (told_left (suc f - length v.blanks) v (all_shown (e ∷ es)) (docs_told (e ∷ es)) (all_defined (e ∷ es))
    (λ more_fuel at. tops (more_fuel + (suc f - length v.blanks)) at 4 follow (omega (arith, few))))))
  where
    all : List Marked
    all = us ++ v ∷ []

    result : Blocks
    result = more (list_told (not (gaps all)) m.number (told_items all)) (docs_told (e ∷ es))

-- a line that begins no item is none of the list
same_none : (sort : ℕ) (ls : List Line) (k : Beginning) → is_one_line k ≡ true → same_sort sort ls k ≡ None
same_none sort ls BlankLine e = refl
same_none sort ls CodeLine e = refl
same_none sort ls QuoteLine e = refl
same_none sort ls (HeadingLine h) e = refl
same_none sort ls (FenceLine f) e = refl
same_none sort ls (HtmlLine k) e = refl
same_none sort ls RuleLine e = refl
same_none sort ls (ItemLine m) e = absurd (true≢false (sym e))
same_none sort ls TextLine e = refl
same_none sort ls LazyLine e = refl

not_or : (a b : Bool) → not (a || b) ≡ (not a && not b)
not_or true b = refl
not_or false b = refl

-- an item after these
item_more : (w : Marked) (es : List Entry) → Declares es → Tops (ItemEntry w ∷ es) → (f n k sort : ℕ) (m : ItemMark) (us : List Marked) (v : Marked) (whole : List Line) → drop (item_span us) whole ≡ Written v.part ∷ (written v.blanks ++ all_shown (ItemEntry w ∷ es)) → Follow w.mark.width (has_blanks w) es → length es ≤ k → length v.blanks + span (ItemEntry w ∷ es) < suc f → indent w.part < 4
    → AreTold (from_there (suc f) n whole (list_with m n (items_of n (us ++ v ∷ []) ++ items_next (λ x. blocks_from (suc f) 0 x) (suc k) (n + item_span (us ++ v ∷ [])) sort (ItemEntry w ∷ es))))
    (lists_told m.number sort (told_items (us ++ v ∷ [])) (not (gaps (us ++ v ∷ []))) (has_blanks v) (ItemEntry w ∷ es)) (items_defined (us ++ v ∷ []) ++ all_defined (ItemEntry w ∷ es))
item_more w es again tops f n k sort m us v whole rest follow low few near = by (w.mark.sort == sort) refl
  where
    ls : List Line
    ls = written w.blanks ++ all_shown es

    inner : List Line → List Found
    inner = λ x. blocks_from (suc f) 0 x

    all : List Marked
    all = us ++ v ∷ []

    is : List ItemFound
    is = items_of n all

    place : ℕ
    place = n + item_span all

    tight : Bool
    tight = not (gaps all)

    next_is : (q : Bool) → (w.mark.sort == sort) ≡ q → items_next inner (suc k) place sort (ItemEntry w ∷ es) ≡ and_siblings (λ s. items inner (suc k) place s) (if q then Some (w.mark, ls) else None)
    next_is q e = ap (λ b. and_siblings (λ s. items inner (suc k) place s) (same_sort sort ls b)) w.begins ∙ ap (λ b. and_siblings (λ s. items inner (suc k) place s) (if b then Some (w.mark, ls) else None)) e

    longer : List Marked
    longer = all ++ w ∷ []

    gaps_are : not (gaps longer) ≡ (tight && not (has_blanks v))
    gaps_are = ap (λ xs. not (gaps xs)) (append_assoc us (v ∷ []) (w ∷ [])) ∙ ap not (gaps_more us v w) ∙ not_or (gaps all) (has_blanks v)

    by : (q : Bool) → (w.mark.sort == sort) ≡ q
        → AreTold (from_there (suc f) n whole (list_with m n (is ++ items_next inner (suc k) place sort (ItemEntry w ∷ es))))
        (if q then lists_told m.number w.mark.sort (also (told_items all) (item_told w)) (tight && not (has_blanks v)) (has_blanks w) es else more (list_told tight m.number (told_items all)) (docs_told (ItemEntry w ∷ es))) (items_defined all ++ all_defined (ItemEntry w ∷ es))
    by true e =
        subst (λ js. AreTold (from_there (suc f) n whole (list_with m n js)) (lists_told m.number w.mark.sort (also (told_items all) (item_told w)) (tight && not (has_blanks v)) (has_blanks w) es) (items_defined all ++ all_defined (ItemEntry w ∷ es))) (sym joined_items)
        (subst (λ ds. AreTold found (lists_told m.number w.mark.sort (also (told_items all) (item_told w)) (tight && not (has_blanks v)) (has_blanks w) es) ds)
        (ap (λ ds. ds ++ all_defined es) (defined_more all w) ∙ append_assoc (items_defined all) (defined (tree (content_blocks w))) (all_defined es))
        (subst (λ bs. AreTold found (lists_told m.number w.mark.sort bs (tight && not (has_blanks v)) (has_blanks w) es) (items_defined longer ++ all_defined es)) (told_more all w)
        (subst (λ t. AreTold found (lists_told m.number w.mark.sort (told_items longer) t (has_blanks w) es) (items_defined longer ++ all_defined es)) gaps_are
        (again (suc f) n k w.mark.sort m all w whole dropped follow low (omega (arith, few))))))
      where
        found : List Found
        found = from_there (suc f) n whole (list_with m n (items_of n longer ++ items_next inner k (n + item_span longer) w.mark.sort es))

        joined_items : is ++ items_next inner (suc k) place sort (ItemEntry w ∷ es) ≡ items_of n longer ++ items_next inner k (n + item_span longer) w.mark.sort es
        joined_items =
            ap (λ js. is ++ js) (next_is true e ∙ items_step f k place w es follow)
            ∙ ap (λ p. is ++ (item_at place w ∷ items_next inner k p w.mark.sort es)) (let s : item_span longer ≡ item_span all + suc (length w.blanks) = span_more all w in let q : n + item_span all + suc (length w.blanks) ≡ n + item_span longer = omega (arith, s) in q)
            ∙ sym (append_assoc is (item_at place w ∷ []) (items_next inner k (n + item_span longer) w.mark.sort es))
            ∙ ap (λ js. js ++ items_next inner k (n + item_span longer) w.mark.sort es) (sym (items_more n all w))

        dropped : drop (item_span all) whole ≡ Written w.part ∷ ls
        dropped =
            ap (λ p. drop p whole) (span_more us v) ∙ drop_more (item_span us) (suc (length v.blanks)) whole ∙ ap (drop (suc (length v.blanks))) rest
            ∙ drop_written v.blanks (all_shown (ItemEntry w ∷ es))
    by false e = list_stops (ItemEntry w) es tops f n (suc k) sort m us v whole rest (near, follow) few (next_is false e)

-- an item is indented by less than four columns
item_near : (v : Marked) → indent v.part < 4
unfolding beginning
item_near v = by (is_blank v.part.bytes) (nat_le 4 (indent v.part)) refl v.begins
  where
    by : (k far : Bool) → nat_le 4 (indent v.part) ≡ far → beginning_of v.part k far ≡ ItemLine v.mark → indent v.part < 4
    by true far q e = absurd cc
    by false true q e = absurd cc
    by false false q e = grind (arith, q, nat_tests)

leaf_near : (u : Single) → indent u.part < 4
unfolding beginning
leaf_near u = by (is_blank u.part.bytes) (nat_le 4 (indent u.part)) refl (ap is_one_line u.begins ∙ u.one) u.ink
  where
    by : (k far : Bool) → nat_le 4 (indent u.part) ≡ far → is_one_line (beginning_of u.part k far) ≡ true → k ≡ false → indent u.part < 4
    by true far q e b = absurd (true≢false b)
    by false true q e b = absurd (true≢false (sym e))
    by false false q e b = grind (arith, q, nat_tests)

declares_more : (e : Entry) (es : List Entry) → Declares es → Tops (e ∷ es) → Declares (e ∷ es)
declares_more e es h tops zero n k sort m us v whole rest follow low few = absurd (omega (arith, few))
declares_more (ItemEntry w) es h tops (suc f) n zero sort m us v whole rest follow low few = absurd (omega (arith, low))
declares_more (ItemEntry w) es h tops (suc f) n (suc k) sort m us v whole rest follow low few = item_more w es h tops f n k sort m us v whole rest (follow.1) (omega (arith, low)) few (item_near w)
declares_more (LeafEntry u) es h tops (suc f) n k sort m us v whole rest follow low few =
    list_stops (LeafEntry u) es tops f n k sort m us v whole rest (leaf_near u, and_false (is_text_kind u.kind) false refl, follow.2, follow.3) few
    (ap (λ b. and_siblings (λ s. items (λ x. blocks_from (suc f) 0 x) k (n + item_span (us ++ v ∷ [])) s) (same_sort sort (written u.blanks ++ all_shown es) b)) u.begins
    ∙ ap (and_siblings (λ s. items (λ x. blocks_from (suc f) 0 x) k (n + item_span (us ++ v ∷ [])) s)) (same_none sort (written u.blanks ++ all_shown es) u.kind u.one))

declares_none : Declares []
declares_none fuel n k sort m us v whole rest follow low few =
    subst (λ js. AreTold (from_there fuel n whole (list_with m n js)) (more (list_told (not (gaps (us ++ v ∷ []))) m.number (told_items (us ++ v ∷ []))) none) (items_defined (us ++ v ∷ []) ++ [])) (sym (append-nil (items_of n (us ++ v ∷ []))))
    (list_ends fuel n whole (left_lines v []) m us v none [] (lines_left (item_span us) whole v [] rest) (λ at. by at (has_ink v)))
  where
    by : (at : ℕ) (q : Bool) → AreTold (blocks_from fuel at (if q then [] else written v.blanks ++ [])) none []
    by at true = subst (λ fs. AreTold fs none []) (sym (no_blocks fuel at)) (record { blocks = refl; definitions = refl })
    by at false = subst (λ ls. AreTold (blocks_from fuel at ls) none []) (sym (append-nil (written v.blanks))) (subst (λ fs. AreTold fs none []) (sym (blanks_none fuel at (written v.blanks) (written_blank v.blanks v.blank))) (record { blocks = refl; definitions = refl }))

tops_none : Tops []
tops_none fuel at width follow few = subst (λ fs. AreTold fs none []) (sym (no_blocks fuel at)) (record { blocks = refl; definitions = refl })

all_declared : (es : List Entry) → Declares es × Tops es
all_declared [] = (declares_none, tops_none)
all_declared (e ∷ es) = let h : Declares es × Tops es = all_declared es in let t : Tops (e ∷ es) = tops_more e es (h.0) (h.1) in (declares_more e es (h.0) t, t)

-- of such lines these leaves and lists are declared
pub text_declared : (es : List Entry) (fuel at width : ℕ) → Follow width true es → span es < fuel → AreTold (blocks_from fuel at (all_shown es)) (docs_told es) (all_defined es)
text_declared es = (all_declared es).1
