-- Of lines with lists in each other the reader finds the blocks that are declared.
use Rattle.std.proofs.Common.{◌≡◌, ◌⊎◌, inr, ℕ, zero, suc, ◌+◌, ◌^◌, ◌<◌, ◌≤◌, Bool, true, false, ◌==◌, ◌&&◌, ◌||◌, max, nat_lt, List, [], ◌∷◌, ◌++◌, length, map, refl, ap, sym, subst, ◌∙◌, arith, append_assoc, append-nil, Some}
use Rattle.std.specs.List.{fold}
use Rattle.std.proofs.lemmas.Bool.Decides.{nat_tests}
use Rattle.std.proofs.lemmas.List.{length-map, map-append}
use Rattle.tocmark_read_scan.specs.Basic.{plus}
use Rattle.tocmark_read_lines.specs.declared.container.Container.{Container}
use Rattle.tocmark_read_lines.specs.declared.container.Container.TheVariants as container
use Rattle.tocmark_read_lines.specs.declared.container.Opened.{Opened}
use Rattle.tocmark_read_lines.specs.declared.line.Line.{Line}
use Rattle.tocmark_read_page.specs.Leaves.{is_paragraph}
use Rattle.tocmark_read_page.specs.Pages.{State, leaf_closed, loosened, closed_to}
use Rattle.tocmark_read_page.specs.declared.leaf.Leaf.{Leaf}
use Rattle.tocmark_read_page.specs.declared.leaf.Leaf.TheVariants as leaf
use Rattle.tocmark_read_page.specs.declared.page.Block.{Block as ReadBlock}
use Rattle.tocmark_read_page.specs.declared.piece.Piece.{Piece}
use Rattle.tocmark_read_blocks.specs.Blocks.{line_taken}
use Rattle.tocmark_commonmark.specs.Lines.{Line as DeclaredLine, Part, Written, is_blank, is_blank_line}
use Rattle.tocmark_commonmark.specs.Tree.{Block, Blocks, none, more, defined, defined_in, Found, ends_open, tree}
use Rattle.tocmark_commonmark.specs.Beginnings.{BlankLine, beginning}
use Rattle.tocmark_commonmark.specs.Lists.{gap_after, has_gap}
use Rattle.tocmark_commonmark.specs.Blocks.{first_block, and_rest, blocks_from}
use Rattle.tocmark_block_laws.specs.Trees.{told, told_before}
use Rattle.tocmark_block_laws.specs.Lists.{ends_blank, is_short_leaf, is_nested_line, are_nested}
use Rattle.tocmark_block_laws.proofs.Pages.{begin}
use Rattle.tocmark_block_laws.proofs.Told.{also, also_none, also_also, Run, Holds}
use Rattle.tocmark_block_laws.proofs.Ends.{no_blocks}
use Rattle.tocmark_block_laws.proofs.ListPages.{list_box, item_box, stack_page}
use Rattle.tocmark_block_laws.proofs.BlankLines.{BlankRow}
use Rattle.tocmark_block_laws.proofs.Nests.{Home, AtTop, InItem, boxes, depth, list_in, home_page, box_count, stack_stays, home_stays, loose_blocks}
use Rattle.tocmark_block_laws.proofs.Within.{Known, bytes_in, columns_of, left_from, place_from, part_from, Come, come_part, come_shown, comes_home, Steady, boxes_go, blank_home, full_depth, blank_row}
use Rattle.tocmark_block_laws.proofs.NestedLines.{comes, all_shown, Counted, weigh, item_kinds}
use Rattle.tocmark_block_laws.proofs.Loosened.{Listed, loosened_not, loosened_none, loosened_twice, listed_loosened, loose_run, holds_moved}

-- where lines come in

abbrev pub containers : Home → List Container
containers AtTop = []
containers (InItem outer sort b le ln width ib) = item_kinds (map (λ (o : Opened). o.container) outer) sort width

pub containers_are : (p : Home) (e n : ℕ) (had : Bool) → map (λ (o : Opened). o.container) (boxes p e n had) ≡ containers p
containers_are AtTop e n had = refl
containers_are (InItem outer sort b le ln width ib) e n had =
    map-append (λ (o : Opened). o.container) (outer ++ list_box sort b le ln true ∷ []) (item_box width ib e n had ∷ [])
    ∙ ap (λ ks. ks ++ container.Item width ∷ []) (map-append (λ (o : Opened). o.container) outer (list_box sort b le ln true ∷ []))
    ∙ append_assoc (map (λ (o : Opened). o.container) outer) (container.List sort ∷ []) (container.Item width ∷ [])

-- a run there: the number of its first line, and how many lines it has
pub record Frame (p : Home) (r : Run) (ks : List Container) (origin count : ℕ) : Type 0 where
  pub kinds : containers p ≡ ks
  pub outer : length r.outer ≡ depth p
  pub listed : Listed (list_in p) r.base
  pub steady : Steady p
  pub shallow : depth p + 2 < 2 ^ 64
  pub small : origin + count + 1 < 2 ^ 64

-- what is declared

-- a blank line is before one of these blocks, the first of which comes after a block that ends in this line, if one is there
abbrev pub gap : Bool → ℕ → List Found → Bool
gap had last [] = false
gap had last (f ∷ fs) = (had && nat_lt (last + 1) f.first) || gap_after f.last fs

-- the last line of these blocks
abbrev pub lasts : ℕ → List Found → ℕ
lasts last fs = fold (λ (n : ℕ) (f : Found). max n f.last) last fs

pub gap_true : (last : ℕ) (fs : List Found) → gap true last fs ≡ gap_after last fs
gap_true last [] = refl
gap_true last (f ∷ fs) = refl

pub gap_false : (last : ℕ) (fs : List Found) → gap false last fs ≡ has_gap fs
gap_false last [] = refl
gap_false last (f ∷ fs) = refl

-- what the page is when lines have come in

pub record Ends (text : List ℕ) (p : Home) (r : Run) (origin count : ℕ) (s : State) (found : Blocks) (had : Bool) (last : ℕ) (lines : List DeclaredLine) (declared : List Found) : Type 0 where
  pub e : ℕ
  pub n : ℕ
  pub some : Bool
  pub deeper : List Opened
  pub lf : Leaf
  pub opened_blocks : List ReadBlock
  pub opened_pieces : List Piece
  pub opened_end : ℕ
  pub opened_line : ℕ
  pub opened_kept : ℕ
  pub is : s ≡ stack_page (boxes p e n some ++ deeper) lf opened_blocks opened_pieces opened_end opened_line opened_kept
  pub closed_end : ℕ
  pub closed_line : ℕ
  pub closed_some : Bool
  pub blocks : List ReadBlock
  pub pieces : List Piece
  pub end : ℕ
  pub number : ℕ
  pub kept : ℕ
  pub closes : closed_to text (depth p) s ≡ home_page p closed_end closed_line closed_some leaf.Nothing blocks pieces end number kept
  pub deep : depth p ≤ length (leaf_closed text s).opened
  pub near : closed_line ≡ origin + lasts last declared
  pub holds : Holds text (loose_run r (list_in p) (gap had last declared)) blocks pieces (also found (told (tree declared)))
  pub quiet : ends_blank lines ≡ true → is_paragraph s.leaf ≡ false
  pub shut : ends_blank lines ≡ true → ends_open count declared ≡ false
  pub few : length pieces < origin + count
  pub bound : lasts last declared < max count 1
  pub nothing : defined (tree declared) ≡ []

-- the page on which no line came
pub ends_home : (text : List ℕ) (p : Home) (r : Run) (origin count : ℕ) (e n last : ℕ) (had some : Bool) (bs : List ReadBlock) (ps : List Piece) (end number kept : ℕ) (found : Blocks) (lines : List DeclaredLine) → Holds text r bs ps found → n ≡ origin + last → last < max count 1 → length ps < origin + count
    → Ends text p r origin count (home_page p e n some leaf.Nothing bs ps end number kept) found had last lines []
unfolding leaf_closed is_paragraph
ends_home text p r origin count e n last had some bs ps end number kept found lines h near low few = record {
  e = e;
  n = n;
  some = some;
  deeper = [];
  lf = leaf.Nothing;
  opened_blocks = bs;
  opened_pieces = ps;
  opened_end = end;
  opened_line = number;
  opened_kept = kept;
  is = ap (λ os. stack_page os leaf.Nothing bs ps end number kept) (sym (append-nil (boxes p e n some)));
  closed_end = e;
  closed_line = n;
  closed_some = some;
  blocks = bs;
  pieces = ps;
  end = end;
  number = number;
  kept = kept;
  closes = home_stays text p e n some bs ps end number kept;
  deep = omega (arith, box_count p e n some);
  near = near;
  holds = subst (λ b. Holds text (loose_run r (list_in p) false) bs ps b) (sym (also_none found)) (holds_moved text r (loose_run r (list_in p) false) bs bs ps found refl (sym (loosened_not (list_in p) r.base)) refl refl h);
  quiet = λ q. refl;
  shut = λ q. refl;
  few = few;
  bound = low;
  nothing = refl;
}

-- a block, and those after it
pub ends_one : (text : List ℕ) (p : Home) (r : Run) (origin count : ℕ) (s : State) (found : Blocks) (had : Bool) (last : ℕ) (lines more_lines : List DeclaredLine) (f : Found) (b : Block) (fs : List Found)
    → ((y : Blocks) → told_before f.block y ≡ more b y) → defined_in f.block ≡ [] → (f.is_open && (f.last + 1 == count)) ≡ false → last ≤ f.last → ends_blank more_lines ≡ ends_blank lines
    → Ends text p (loose_run r (list_in p) (had && nat_lt (last + 1) f.first)) origin count s (also found (more b none)) true f.last lines fs
    → Ends text p r origin count s found had last more_lines (f ∷ fs)
ends_one text p r origin count s found had last lines more_lines f b fs plain defines shut later same e = record {
  e = e.e;
  n = e.n;
  some = e.some;
  deeper = e.deeper;
  lf = e.lf;
  opened_blocks = e.opened_blocks;
  opened_pieces = e.opened_pieces;
  opened_end = e.opened_end;
  opened_line = e.opened_line;
  opened_kept = e.opened_kept;
  is = e.is;
  closed_end = e.closed_end;
  closed_line = e.closed_line;
  closed_some = e.closed_some;
  blocks = e.blocks;
  pieces = e.pieces;
  end = e.end;
  number = e.number;
  kept = e.kept;
  closes = e.closes;
  deep = e.deep;
  near = e.near ∙ ap (λ m. origin + lasts m fs) later_is;
  holds = subst (λ x. Holds text (loose_run r (list_in p) (gap had last (f ∷ fs))) e.blocks e.pieces x) told_is
      (holds_moved text (loose_run (loose_run r (list_in p) a) (list_in p) (gap true f.last fs)) (loose_run r (list_in p) (gap had last (f ∷ fs))) e.blocks e.blocks e.pieces (also (also found (more b none)) (told (tree fs))) refl
      (loosened_twice (list_in p) a (gap true f.last fs) r.base ∙ ap (λ k. loosened (list_in p) (a || k) r.base) (gap_true f.last fs)) refl refl e.holds);
  quiet = λ q. e.quiet (sym same ∙ q);
  shut = λ q. ap (λ was. fold (λ (k : Bool) (g : Found). g.is_open && (g.last + 1 == count)) was fs) shut ∙ e.shut (sym same ∙ q);
  few = e.few;
  bound = subst (λ m. lasts m fs < max count 1) later_is e.bound;
  nothing = ap (λ ds. ds ++ defined (tree fs)) defines ∙ e.nothing;
}
  where
    a : Bool
    a = had && nat_lt (last + 1) f.first

    later_is : f.last ≡ max last f.last
    later_is = omega (arith, later)

    told_is : also (also found (more b none)) (told (tree fs)) ≡ also found (told (tree (f ∷ fs)))
    told_is = also_also found (more b none) (told (tree fs)) ∙ ap (also found) (sym (plain (told (tree fs))))

-- the same after other lines
pub ends_after : (text : List ℕ) (p : Home) (r : Run) (origin count : ℕ) (s : State) (found : Blocks) (had : Bool) (last : ℕ) (lines others : List DeclaredLine) (declared : List Found)
    → (ends_blank others ≡ true → is_paragraph s.leaf ≡ false) → (ends_blank others ≡ true → ends_open count declared ≡ false) → Ends text p r origin count s found had last lines declared → Ends text p r origin count s found had last others declared
ends_after text p r origin count s found had last lines others declared quiet shut e = record {
  e = e.e;
  n = e.n;
  some = e.some;
  deeper = e.deeper;
  lf = e.lf;
  opened_blocks = e.opened_blocks;
  opened_pieces = e.opened_pieces;
  opened_end = e.opened_end;
  opened_line = e.opened_line;
  opened_kept = e.opened_kept;
  is = e.is;
  closed_end = e.closed_end;
  closed_line = e.closed_line;
  closed_some = e.closed_some;
  blocks = e.blocks;
  pieces = e.pieces;
  end = e.end;
  number = e.number;
  kept = e.kept;
  closes = e.closes;
  deep = e.deep;
  near = e.near;
  holds = e.holds;
  quiet = quiet;
  shut = shut;
  few = e.few;
  bound = e.bound;
  nothing = e.nothing;
}

-- with a blank line before these
pub ends_blank_first : (text : List ℕ) (p : Home) (r : Run) (origin count : ℕ) (s : State) (found : Blocks) (had : Bool) (last : ℕ) (x : DeclaredLine) (lines : List DeclaredLine) (declared : List Found)
    → (lines ≡ [] → (is_paragraph s.leaf ≡ false) × (ends_open count declared ≡ false)) → Ends text p r origin count s found had last lines declared → Ends text p r origin count s found had last (x ∷ lines) declared
ends_blank_first text p r origin count s found had last x [] declared alone e = ends_after text p r origin count s found had last [] (x ∷ []) declared (λ q. (alone refl).0) (λ q. (alone refl).1) e
ends_blank_first text p r origin count s found had last x (l ∷ lines) declared alone e = ends_after text p r origin count s found had last (l ∷ lines) (x ∷ l ∷ lines) declared e.quiet e.shut e

-- what is read of lines, after the blocks so far

abbrev pub Goal : List ℕ → ℕ → Type 0
Goal text g = (p : Home) (r : Run) (ks : List Container) (origin count : ℕ) → Frame p r ks origin count → (at f : ℕ) (cs : List (Come text ks)) (e n last : ℕ) (bs : List ReadBlock) (ps : List Piece) (end number kept : ℕ) (found : Blocks) → Holds text r bs ps found
    → n ≡ origin + last → last < max at 1 → length ps < origin + at → are_nested g (all_shown text ks cs) ≡ true → weigh (all_shown text ks cs) ≤ f → Counted text ks (origin + at) cs → at + length cs ≡ count
    → Ends text p r origin count (fold (comes text ks) (home_page p e n true leaf.Nothing bs ps end number kept) cs) found true last (all_shown text ks cs) (blocks_from f at (all_shown text ks cs))

-- the same of lines of which the first is begun, from this column on
abbrev pub Begun : List ℕ → ℕ → Type 0
Begun text g = (p : Home) (r : Run) (ks : List Container) (origin count : ℕ) → Frame p r ks origin count → (at f : ℕ) (l : Line) (known : Known text l) (c : ℕ) (inside : c ≤ length (bytes_in text l)) (cs : List (Come text ks)) (e n last : ℕ) (had : Bool) (bs : List ReadBlock) (ps : List Piece) (end number kept : ℕ) (found : Blocks) → Holds text r bs ps found
    → n ≡ origin + last → last < max at 1 → length ps < origin + at → (is_short_leaf (beginning (Written (part_from text l c))) ≡ true) ⊎ (depth p ≤ c) → is_blank (left_from text l c) ≡ false → l.number ≡ origin + at
    → are_nested g (Written (part_from text l c) ∷ all_shown text ks cs) ≡ true → weigh (Written (part_from text l c) ∷ all_shown text ks cs) ≤ f → Counted text ks (origin + suc at) cs → at + suc (length cs) ≡ count
    → Ends text p r origin count (fold (comes text ks) (begin text (columns_of text l) l (depth p) (place_from text l c) (home_page p e n had leaf.Nothing bs ps end number kept)) cs) found had last (Written (part_from text l c) ∷ all_shown text ks cs) (blocks_from f at (Written (part_from text l c) ∷ all_shown text ks cs))

-- a blank line at the front of lines
blocks_after_blank : (f at : ℕ) (x : DeclaredLine) (ls : List DeclaredLine) → beginning x ≡ BlankLine → blocks_from (suc f) at (x ∷ ls) ≡ blocks_from f (at + 1) ls
unfolding blocks_from
blocks_after_blank f at x ls e = ap (λ k. and_rest (λ n y. blocks_from f n y) at (x ∷ ls) (first_block (λ y. blocks_from f 0 y) at x ls k)) e

nested_blank : (g : ℕ) (x : DeclaredLine) (ls : List DeclaredLine) → beginning x ≡ BlankLine → are_nested (suc g) (x ∷ ls) ≡ true → are_nested g ls ≡ true
nested_blank g x ls e h = sym (ap (is_nested_line (λ xs. are_nested g xs) x ls) e) ∙ h

pub begins_blank : (q : Part) → is_blank q.bytes ≡ true → beginning (Written q) ≡ BlankLine
unfolding beginning
begins_blank q e = rw e refl

-- a blank line leaves a page as it is
pub blank_stays : (text : List ℕ) (p : Home) (r : Run) (ks : List Container) (origin count : ℕ) → Frame p r ks origin count → (b : BlankRow text) (e n : ℕ) (bs : List ReadBlock) (ps : List Piece) (end number kept : ℕ)
    → line_taken text (home_page p e n true leaf.Nothing bs ps end number kept) b.line ≡ home_page p e n true leaf.Nothing bs ps end number kept
blank_stays text p r ks origin count fr b e n bs ps end number kept =
    blank_home text b (boxes p e n true) leaf.Nothing bs ps end number kept (boxes_go p e n fr.steady) (full_depth p e n) refl (let d : depth p + 2 < 2 ^ 64 = fr.shallow in omega (arith, box_count p e n true, d))
    ∙ stack_stays text (boxes p e n true) (length (boxes p e n true)) bs ps end number kept refl

pub goal_of : (text : List ℕ) (g : ℕ) → Goal text g → Begun text (suc g) → Goal text (suc g)
unfolding is_paragraph
goal_of text g goal begun p r ks origin count fr at f [] e n last bs ps end number kept found h near low few nested weight counted total =
    subst (λ fs. Ends text p r origin count (home_page p e n true leaf.Nothing bs ps end number kept) found true last [] fs) (sym (no_blocks f at))
    (ends_home text p r origin count e n last true true bs ps end number kept found [] h near (omega (arith, low, total)) (omega (arith, few, total)))
goal_of text g goal begun p r ks origin count fr at zero (v ∷ cs) e n last bs ps end number kept found h near low few nested weight counted total = absurd (omega (arith, weight))
goal_of text g goal begun p r ks origin count fr at (suc f) (v ∷ cs) e n last bs ps end number kept found h near low few nested weight counted total = by (is_blank (bytes_in text v.line)) refl
  where
    page : State
    page = home_page p e n true leaf.Nothing bs ps end number kept

    x : DeclaredLine
    x = come_shown text ks v

    ls : List DeclaredLine
    ls = all_shown text ks cs

    Result : State → List Found → Type 0
    Result s fs = Ends text p r origin count (fold (comes text ks) s cs) found true last (x ∷ ls) fs

    blanked : is_blank (bytes_in text v.line) ≡ true → Result (line_taken text page v.line) (blocks_from (suc f) at (x ∷ ls))
    blanked blank =
        let kind_is : beginning x ≡ BlankLine = begins_blank (come_part text ks v) (v.same ∙ blank) in
        subst (λ s. Result s (blocks_from (suc f) at (x ∷ ls))) (sym (blank_stays text p r ks origin count fr (blank_row text ks v blank) e n bs ps end number kept))
        (subst (λ fs. Result page fs) (sym (blocks_after_blank f at x ls kind_is))
        (ends_blank_first text p r origin count (fold (comes text ks) page cs) found true last x ls (blocks_from f (at + 1) ls) (λ q. alone cs q)
        (goal p r ks origin count fr (at + 1) f cs e n last bs ps end number kept found h near (omega (arith, low)) (omega (arith, few)) (nested_blank g x ls kind_is nested) (omega (arith, weight))
        (subst (λ m. Counted text ks m cs) (let q : suc (origin + at) ≡ origin + (at + 1) = omega arith in q) (counted.1)) (omega (arith, total)))))
      where
        alone : (ds : List (Come text ks)) → all_shown text ks ds ≡ [] → (is_paragraph (fold (comes text ks) page ds).leaf ≡ false) × (ends_open count (blocks_from f (at + 1) (all_shown text ks ds)) ≡ false)
        alone [] q = (refl, ap (ends_open count) (no_blocks f (at + 1)))
        alone (d ∷ ds) q = absurd cc

    inked : is_blank (bytes_in text v.line) ≡ false → Result (line_taken text page v.line) (blocks_from (suc f) at (x ∷ ls))
    inked ink =
        subst (λ s. Result s (blocks_from (suc f) at (x ∷ ls))) (sym (comes_home text (boxes p e n true) ks (containers_are p e n true ∙ fr.kinds) v ink leaf.Nothing bs ps end number kept refl shallow ∙ ap (λ d. begin text (columns_of text v.line) v.line d (place_from text v.line v.column) page) (box_count p e n true)))
        (begun p r ks origin count fr at (suc f) v.line v.known v.column v.inside cs e n last true bs ps end number kept found h near low few (inr (subst (λ d. d ≤ v.column) (sym deep_is) (v.deep ink))) (v.same ∙ ink) (counted.0) nested weight (subst (λ m. Counted text ks m cs) (let q : suc (origin + at) ≡ origin + suc at = omega arith in q) (counted.1)) total)
      where
        shallow : length (boxes p e n true) + 2 < 2 ^ 64
        shallow = let d : depth p + 2 < 2 ^ 64 = fr.shallow in omega (arith, box_count p e n true, d)

        deep_is : depth p ≡ length ks
        deep_is = sym (box_count p e n true) ∙ sym (length-map (boxes p e n true) (λ (o : Opened). o.container)) ∙ ap (λ (xs : List Container). length xs) (containers_are p e n true ∙ fr.kinds)

    by : (k : Bool) → is_blank (bytes_in text v.line) ≡ k → Result (line_taken text page v.line) (blocks_from (suc f) at (x ∷ ls))
    by true q = blanked q
    by false q = inked q

-- leaves

-- the frame when the list became loose
pub loose_frame : (p : Home) (r : Run) (ks : List Container) (origin count : ℕ) (k : Bool) → Frame p r ks origin count → Frame p (loose_run r (list_in p) k) ks origin count
loose_frame p r ks origin count k fr = record { kinds = fr.kinds; outer = fr.outer; listed = listed_loosened (list_in p) k r.base fr.listed; steady = fr.steady; shallow = fr.shallow; small = fr.small }

-- blocks become loose as declared
pub loose_same : (p : Home) (n origin at last : ℕ) (had : Bool) (number : ℕ) (bs : List ReadBlock) → n ≡ origin + last → number ≡ origin + at → last < max at 1 → origin + at + 1 < 2 ^ 64
    → loose_blocks p n had number bs ≡ loosened (list_in p) (had && nat_lt (last + 1) at) bs
loose_same AtTop n origin at last had number bs near now low small = loosened_none (false) bs ∙ sym (loosened_none (had && nat_lt (last + 1) at) bs)
loose_same (InItem outer sort b le ln width ib) n origin at last had number bs near now low small =
    ap (λ k. loosened (Some b) (had && k) bs) (let q : nat_lt (plus n 1) number ≡ nat_lt (last + 1) at = grind (arith, near, now, low, small, nat_tests) in q)

-- a leaf that ends with its line, and the lines after it
pub leaf_done : (text : List ℕ) (g : ℕ) → Goal text g → (p : Home) (r : Run) (ks : List Container) (origin count : ℕ) → Frame p r ks origin count → (at f : ℕ) (x : DeclaredLine) (cs : List (Come text ks)) (s : State) (e n last : ℕ) (had : Bool) (bs : List ReadBlock) (ps : List Piece) (end number kept : ℕ) (found : Blocks) (b : Block) (fd : Found)
    → fold (comes text ks) s cs ≡ fold (comes text ks) (home_page p e n true leaf.Nothing bs ps end number kept) cs
    → fd.first ≡ at → fd.last ≡ at → ((y : Blocks) → told_before fd.block y ≡ more b y) → defined_in fd.block ≡ [] → (fd.is_open && (fd.last + 1 == count)) ≡ false
    → Holds text (loose_run r (list_in p) (had && nat_lt (last + 1) at)) bs ps (also found (more b none)) → n ≡ origin + at → last < max at 1 → length ps < origin + (at + 1)
    → is_blank_line x ≡ false → are_nested g (all_shown text ks cs) ≡ true → weigh (all_shown text ks cs) ≤ f → Counted text ks (origin + suc at) cs → at + suc (length cs) ≡ count
    → Ends text p r origin count (fold (comes text ks) s cs) found had last (x ∷ all_shown text ks cs) (fd ∷ blocks_from f (at + 1) (all_shown text ks cs))
leaf_done text g goal p r ks origin count fr at f x cs s e n last had bs ps end number kept found b fd goes first last_is plain defines shut h near low few ink nested weight counted total =
    subst (λ t. Ends text p r origin count t found had last (x ∷ ls) (fd ∷ blocks_from f (at + 1) ls)) (sym goes)
    (ends_one text p r origin count (fold (comes text ks) page cs) found had last ls (x ∷ ls) fd b (blocks_from f (at + 1) ls) plain defines shut (omega (arith, last_is, low)) (ap (λ k. fold (λ (was : Bool) (l : DeclaredLine). is_blank_line l) k ls) ink)
    (subst (λ k. Ends text p (loose_run r (list_in p) (had && nat_lt (last + 1) k)) origin count (fold (comes text ks) page cs) (also found (more b none)) true fd.last ls (blocks_from f (at + 1) ls)) (sym first)
    (subst (λ k. Ends text p (loose_run r (list_in p) a) origin count (fold (comes text ks) page cs) (also found (more b none)) true k ls (blocks_from f (at + 1) ls)) (sym last_is)
    (goal p (loose_run r (list_in p) a) ks origin count (loose_frame p r ks origin count a fr) (at + 1) f cs e n at bs ps end number kept (also found (more b none)) h near (omega arith) few nested weight
    (subst (λ m. Counted text ks m cs) (let q : origin + suc at ≡ origin + (at + 1) = omega arith in q) counted) (omega (arith, total))))))
  where
    ls : List DeclaredLine
    ls = all_shown text ks cs

    a : Bool
    a = had && nat_lt (last + 1) at

    page : State
    page = home_page p e n true leaf.Nothing bs ps end number kept
