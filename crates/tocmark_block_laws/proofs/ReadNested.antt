-- Of lines with lists in each other the reader finds the blocks that are declared.
use Rattle.std.proofs.Common.{◌≡◌, ◌⊎◌, inl, inr, ℕ, zero, suc, ◌+◌, ◌-◌, ◌^◌, ◌<◌, ◌≤◌, Bool, true, false, not, ◌==◌, cond, ◌&&◌, ◌||◌, if◌then◌else◌, max, nat_lt, nat_le, List, [], ◌∷◌, ◌++◌, length, map, drop, refl, ap, sym, subst, ◌∙◌, arith, append_assoc, append-nil, length-append, length-drop, true≢false, Option, Some, None}
use Rattle.std.specs.Prelude.{take_while}
use Rattle.std.specs.List.{fold, list_any}
use Rattle.std.proofs.lemmas.Bool.Decides.{nat_tests}
use Rattle.std.proofs.lemmas.List.{length-map, map-append, drop-drop}
use Rattle.std.proofs.lemmas.List.Sums.{take_while-cons}
use Rattle.tocmark_read_scan.specs.Basic.{plus}
use Rattle.tocmark_read_scan.proofs.PlainTests.{eq_of}
use Rattle.tocmark_read_scan.proofs.PlainPieces.{drop_behind}
use Rattle.tocmark_read_lines.specs.declared.container.Container.{Container}
use Rattle.tocmark_read_lines.specs.declared.container.Opened.{Opened}
use Rattle.tocmark_read_lines.specs.declared.line.Line.{Line}
use Rattle.tocmark_read_page.specs.Definitions.{DefinitionView}
use Rattle.tocmark_read_page.specs.Leaves.{is_paragraph}
use Rattle.tocmark_read_page.specs.Pages.{State, ended, leaf_closed, loosened, closed_to, times, one_closed}
use Rattle.tocmark_read_page.specs.declared.leaf.Leaf.{Leaf}
use Rattle.tocmark_read_page.specs.declared.leaf.Leaf.TheVariants as leaf
use Rattle.tocmark_read_page.specs.declared.page.Block.{Block as ReadBlock}
use Rattle.tocmark_read_page.specs.declared.page.BlockKind.TheVariants as kind
use Rattle.tocmark_read_page.specs.declared.piece.Piece.{Piece}
use Rattle.tocmark_read_blocks.specs.Blocks.{line_taken}
use Rattle.tocmark_read_blocks.specs.Containers.{goes_directly, list_started}
use Rattle.tocmark_commonmark.specs.Lines.{Line as DeclaredLine, Part, Written, is_blank, is_blank_line, indent}
use Rattle.tocmark_commonmark.specs.Tree.{Block, Blocks, none, more, Rule, Heading as HeadingBlock, IndentedCode, FencedCode, Html, Definitions, Paragraph, Quote, BulletList, OrderedList, Item, defined, defined_in, Found, ended as ended_found, ends_open, last_of, tree}
use Rattle.tocmark_commonmark.specs.Beginnings.{ItemMark, Beginning, BlankLine, CodeLine, QuoteLine, HeadingLine, FenceLine, HtmlLine, RuleLine, ItemLine, TextLine, LazyLine, beginning}
use Rattle.tocmark_commonmark.specs.Containers.{item_lines}
use Rattle.tocmark_commonmark.specs.Lists.{ItemFound, item_block, same_sort, sibling, and_siblings, blank_count, items_after, items_with, items, gap_after, has_gap, is_tight, list_block, items_end, last_is_open, list_with}
use Rattle.tocmark_commonmark.specs.Blocks.{first_block, blocks_from}
use Rattle.tocmark_block_laws.specs.Trees.{told, told_before}
use Rattle.tocmark_block_laws.specs.Lists.{inner_line, item_rest, ends_blank, is_text, starts_text, is_short_leaf, is_nested_item, is_nested_line, are_nested}
use Rattle.tocmark_block_laws.proofs.Fronts.{spaces_of}
use Rattle.tocmark_block_laws.proofs.Markers.{item_start}
use Rattle.tocmark_block_laws.proofs.Pages.{begin, times_last}
use Rattle.tocmark_block_laws.proofs.Told.{also, Run, Holds, holds_none, inner_run, holds_box}
use Rattle.tocmark_block_laws.proofs.Ends.{no_blocks, from_there}
use Rattle.tocmark_block_laws.proofs.ListPages.{list_box, item_box, stack_page}
use Rattle.tocmark_block_laws.proofs.Nests.{Home, InItem, boxes, depth, list_in, block_in, home_page, box_count, stack_stays, home_stays, list_closed, item_closed, list_opens, list_goes_on}
use Rattle.tocmark_block_laws.proofs.Within.{Known, bytes_in, columns_of, left_from, place_from, part_from, at_column, Come, come_part, come_shown, comes_home, comes_after, boxes_go}
use Rattle.tocmark_block_laws.proofs.NestedLines.{comes, all_shown, Counted, weigh, item_kinds, Outside, Parted, parted, ends_append, ends_inner, Stops, item_is, is_nested_kind, nested_kind, not_in, blank_part}
use Rattle.tocmark_block_laws.proofs.Loosened.{none_fits, loosened_not, loosened_front, loosened_long, loose_run, holds_moved, holds_loosened, OpenList, list_told, list_box_told, list_run, loosen, holds_loose, list_listed}
use Rattle.tocmark_block_laws.proofs.NestedStarts.{Clear, item_facts, MarkFacts, mark_place, begins_same, item_block as read_item, item_comes, begins_after_list}
use Rattle.tocmark_block_laws.proofs.NestedEnds.{containers_are, Frame, gap, gap_false, Ends, ends_one, ends_after, Goal, Begun, begins_blank, goal_of, loose_frame, loose_same}
use Rattle.tocmark_block_laws.proofs.NestedLeaves.{leaf_read}

-- the innermost container ends
closes_more : (text : List ℕ) (d : ℕ) (s t : State) → closed_to text (suc d) s ≡ t → suc d ≤ length (leaf_closed text s).opened → closed_to text d s ≡ one_closed t
unfolding closed_to
closes_more text d s t h deep =
    let u : State = leaf_closed text s in
    ap (λ m. times one_closed m u) (let q : length u.opened - d ≡ suc (length u.opened - suc d) = omega (arith, deep) in q) ∙ times_last one_closed (length u.opened - suc d) u ∙ ap one_closed h

-- items

-- an item in an open list: its line has come, and its content begins
pub record Slot (text : List ℕ) (p : Home) (r : Run) : Type 0 where
  pub list : OpenList text r
  pub e : ℕ
  pub n : ℕ
  pub le : ℕ
  pub ln : ℕ
  pub line : Line
  pub start : ℕ
  pub mark : ItemMark
  pub blocks : List ReadBlock
  pub pieces : List Piece
  pub is : Blocks
  pub end : ℕ
  pub number : ℕ
  pub kept : ℕ
  pub holds : Holds text (list_run text r list) blocks pieces is

abbrev slot_home : (text : List ℕ) (p : Home) (r : Run) → Slot text p r → Home
slot_home text p r t = InItem (boxes p t.e t.n true) t.list.sort (length t.list.before) t.le t.ln t.mark.width (length t.blocks)

abbrev slot_block : (text : List ℕ) (p : Home) (r : Run) → Slot text p r → ReadBlock
slot_block text p r t = read_item (length (boxes p t.e t.n true)) (length t.list.before) t.start t.pieces

abbrev slot_page : (text : List ℕ) (p : Home) (r : Run) → Slot text p r → State
slot_page text p r t = home_page (slot_home text p r t) t.line.end t.line.number false leaf.Nothing (t.blocks ++ slot_block text p r t ∷ []) t.pieces t.end t.number t.kept

abbrev slot_run : (text : List ℕ) (p : Home) (r : Run) → Slot text p r → Run
slot_run text p r t = inner_run (list_run text r t.list) t.blocks t.pieces (slot_block text p r t) 0 0 none_fits

-- what is declared of the items of a list

-- a blank line is before one of these blocks, or before this line
abbrev gap_to : List Found → ℕ → Bool
gap_to fs a = has_gap (fs ++ ended_found Rule a a ∷ [])

or_same : (a b c : Bool) → (a || (b || c)) ≡ ((a || b) || c)
or_same true b c = refl
or_same false b c = refl

or_not : (a : Bool) → (a || false) ≡ a
or_not true = refl
or_not false = refl

and_not : (a b : Bool) → b ≡ false → (a && b) ≡ false
and_not true b e = e
and_not false b e = refl

gap_after_same : (last : ℕ) (fs : List Found) (f g : Found) → f.first ≡ g.first → gap_after last (fs ++ f ∷ []) ≡ gap_after last (fs ++ g ∷ [])
gap_after_same last [] f g e = ap (λ n. nat_lt (last + 1) n || false) e
gap_after_same last (h ∷ fs) f g e = ap (λ k. nat_lt (last + 1) h.first || k) (gap_after_same h.last fs f g e)

gap_same : (fs : List Found) (f g : Found) → f.first ≡ g.first → has_gap (fs ++ f ∷ []) ≡ has_gap (fs ++ g ∷ [])
gap_same [] f g e = refl
gap_same (h ∷ fs) f g e = gap_after_same h.last fs f g e

gap_after_two : (last : ℕ) (fs : List Found) (f g : Found) → gap_after last (fs ++ f ∷ g ∷ []) ≡ (gap_after last (fs ++ f ∷ []) || nat_lt (f.last + 1) g.first)
gap_after_two last [] f g = ap (λ k. nat_lt (last + 1) f.first || k) (or_not (nat_lt (f.last + 1) g.first)) ∙ ap (λ k. k || nat_lt (f.last + 1) g.first) (sym (or_not (nat_lt (last + 1) f.first)))
gap_after_two last (h ∷ fs) f g = ap (λ k. nat_lt (last + 1) h.first || k) (gap_after_two h.last fs f g) ∙ or_same (nat_lt (last + 1) h.first) (gap_after h.last (fs ++ f ∷ [])) (nat_lt (f.last + 1) g.first)

gap_two : (fs : List Found) (f g : Found) → has_gap (fs ++ f ∷ g ∷ []) ≡ (has_gap (fs ++ f ∷ []) || nat_lt (f.last + 1) g.first)
gap_two [] f g = or_not (nat_lt (f.last + 1) g.first)
gap_two (h ∷ fs) f g = gap_after_two h.last fs f g

gap_more : (fs : List Found) (f : Found) (a : ℕ) → gap_to (fs ++ f ∷ []) a ≡ (has_gap (fs ++ f ∷ []) || nat_lt (f.last + 1) a)
gap_more fs f a = ap has_gap (append_assoc fs (f ∷ []) (ended_found Rule a a ∷ [])) ∙ gap_two fs f (ended_found Rule a a)

any_more : (is : List ItemFound) (i : ItemFound) → list_any (λ (j : ItemFound). has_gap j.found) (is ++ i ∷ []) ≡ (list_any (λ (j : ItemFound). has_gap j.found) is || has_gap i.found)
any_more [] i = or_not (has_gap i.found)
any_more (j ∷ is) i = ap (λ k. has_gap j.found || k) (any_more is i) ∙ or_same (has_gap j.found) (list_any (λ (h : ItemFound). has_gap h.found) is) (has_gap i.found)

last_more : (n : ℕ) (fs : List Found) (f : Found) → fold (λ (m : ℕ) (g : Found). max m g.last) n (fs ++ f ∷ []) ≡ max (fold (λ (m : ℕ) (g : Found). max m g.last) n fs) f.last
last_more n [] f = refl
last_more n (g ∷ fs) f = last_more (max n g.last) fs f

end_more : (n : ℕ) (is : List ItemFound) (i : ItemFound) → fold (λ (m : ℕ) (j : ItemFound). j.first + j.count) n (is ++ i ∷ []) ≡ i.first + i.count
end_more n [] i = refl
end_more n (j ∷ is) i = end_more (j.first + j.count) is i

open_more : (was : Bool) (fs : List Found) (f : Found) → fold (λ (k : Bool) (g : Found). g.is_open) was (fs ++ f ∷ []) ≡ f.is_open
open_more was [] f = refl
open_more was (g ∷ fs) f = open_more g.is_open fs f

tree_more : (fs : List Found) (f : Found) (x : Block) → ((y : Blocks) → told_before f.block y ≡ more x y) → told (tree (fs ++ f ∷ [])) ≡ also (told (tree fs)) (more x none)
tree_more [] f x h = h none
tree_more (g ∷ fs) f x h = ap (told_before g.block) (tree_more fs f x h) ∙ before_also g.block (told (tree fs)) (more x none)
  where
    before_also : (b : Block) (y z : Blocks) → told_before b (also y z) ≡ also (told_before b y) z
    before_also Rule y z = refl
    before_also (HeadingBlock level t) y z = refl
    before_also (IndentedCode t) y z = refl
    before_also (FencedCode i t) y z = refl
    before_also (Html t) y z = refl
    before_also (Definitions d) y z = refl
    before_also (Paragraph t) y z = refl
    before_also (Quote q) y z = refl
    before_also (BulletList s t is) y z = refl
    before_also (OrderedList s n t is) y z = refl
    before_also (Item i) y z = refl

defined_more : (fs : List Found) (f : Found) → defined (tree fs) ≡ [] → defined_in f.block ≡ [] → defined (tree (fs ++ f ∷ [])) ≡ []
defined_more [] f h k = ap (λ ds. ds ++ []) k
defined_more (g ∷ fs) f h k = both (defined_in g.block) (defined (tree fs)) h (λ e. defined_more fs f e k)
  where
    both : (xs ys : List DefinitionView) → (xs ++ ys) ≡ [] → (ys ≡ [] → defined (tree (fs ++ f ∷ [])) ≡ []) → (xs ++ defined (tree (fs ++ f ∷ []))) ≡ []
    both [] ys q again = again q
    both (x ∷ xs) ys q again = absurd cc

pub told_list : (m : ItemMark) (n : Option ℕ) (tight : Bool) (is y : Blocks) → told_before (list_block m n tight is) y ≡ more (list_told tight n (told is)) y
told_list m None tight is y = refl
told_list m (Some n) tight is y = refl

defined_list : (m : ItemMark) (n : Option ℕ) (tight : Bool) (is : Blocks) → defined_in (list_block m n tight is) ≡ defined is
defined_list m None tight is = refl
defined_list m (Some n) tight is = refl

-- the list of these items
abbrev list_found : ItemMark → ℕ → List ItemFound → Found
list_found m at is = record { block = list_block m m.number (is_tight is) (tree (map item_block is)); first = at; last = last_of (map item_block is); is_open = last_is_open (map item_block is) }

-- what is known of the items before one that begins in this line
record Past (text : List ℕ) (p : Home) (r : Run) (origin : ℕ) (t : Slot text p r) (at a : ℕ) (us : List ItemFound) : Type 0 where
  last : ℕ
  near : t.ln ≡ origin + last
  top : max at (last_of (map item_block us)) ≡ last
  first : at ≤ a
  below : last ≤ a
  tight : t.list.tight ≡ not (gap_to (map item_block us) a || list_any (λ (i : ItemFound). has_gap i.found) us)
  told_is : t.is ≡ told (tree (map item_block us))
  none_there : defined (tree (map item_block us)) ≡ []

-- what is read of the lines after the first one of an item
abbrev Loop : List ℕ → ℕ → Type 0
Loop text g = (p : Home) (r : Run) (ks : List Container) (origin count : ℕ) → Frame p r ks origin count → (had : Bool) (last at : ℕ) (t : Slot text p (loose_run r (list_in p) (had && nat_lt (last + 1) at))) (m : ItemMark) (a f k : ℕ) (us : List ItemFound) (known : Known text t.line) (to : ℕ) (inside : to ≤ length (bytes_in text t.line)) (cs : List (Come text ks)) (x : DeclaredLine) (whole : List DeclaredLine)
    → t.list.number ≡ m.number → t.mark.sort ≡ t.list.sort → t.mark.first ≡ part_from text t.line to → 2 ≤ t.mark.width → depth p + 4 < 2 ^ 64 → t.line.number ≡ origin + a → t.n ≡ origin + last → last ≤ at
    → Past text p (loose_run r (list_in p) (had && nat_lt (last + 1) at)) origin t at a us → length t.pieces < origin + a
    → is_nested_item (λ xs. are_nested g xs) (item_rest t.mark (all_shown text ks cs)) (all_shown text ks cs) t.mark ≡ true
    → weigh (Written (part_from text t.line to) ∷ all_shown text ks cs) ≤ f → length cs ≤ k → Counted text ks (origin + suc a) cs → a + suc (length cs) ≡ count
    → drop (a - at) whole ≡ x ∷ all_shown text ks cs → is_blank_line x ≡ false
    → Ends text p r origin count (fold (comes text ks) (begin text (columns_of text t.line) t.line (suc (suc (length (boxes p t.e t.n true)))) (place_from text t.line to) (slot_page text p (loose_run r (list_in p) (had && nat_lt (last + 1) at)) t)) cs) t.list.found had last (x ∷ all_shown text ks cs)
    (from_there f at whole (list_with m at (us ++ items (λ y. blocks_from f 0 y) (suc k) a (t.mark, all_shown text ks cs))))

all_four : (a b c d : Bool) → (a && b && c && d) ≡ true → (a ≡ true) × (b ≡ true) × (c ≡ true) × (d ≡ true)
all_four false b c d e = absurd (true≢false (sym e))
all_four true false c d e = absurd (true≢false (sym e))
all_four true true false d e = absurd (true≢false (sym e))
all_four true true true false e = absurd (true≢false (sym e))
all_four true true true true e = (refl, refl, refl, refl)

first_ink : (q : Part) → is_short_leaf (beginning (Written q)) ≡ true → is_blank q.bytes ≡ false
first_ink q short = by (is_blank q.bytes) refl
  where
    by : (k : Bool) → is_blank q.bytes ≡ k → is_blank q.bytes ≡ false
    by true e = absurd (true≢false (sym short ∙ ap is_short_leaf (begins_blank q e)))
    by false e = e

-- no blank line is in front of lines outside an item
no_blanks : (text : List ℕ) (ks : List Container) (width : ℕ) (cs : List (Come text ks)) → Outside text ks width cs → blank_count (all_shown text ks cs) ≡ 0
no_blanks text ks width [] h = refl
no_blanks text ks width (v ∷ cs) h =
    ap (λ (zs : List DeclaredLine). length zs) (take_while-cons is_blank_line (come_shown text ks v) (all_shown text ks cs) ∙ ap (λ k. cond k (come_shown text ks v ∷ take_while is_blank_line (all_shown text ks cs)) []) (first_false (is_blank_line (come_shown text ks v)) (nat_le width (indent (come_part text ks v))) h))
  where
    first_false : (a b : Bool) → (a || b) ≡ false → a ≡ false
    first_false true b e = absurd (true≢false e)
    first_false false b e = refl

-- a line that begins no item of the list
not_sibling : (sort : ℕ) (ls : List DeclaredLine) (k : Beginning) → (is_short_leaf k ≡ true) ⊎ ((m : ItemMark) × (k ≡ ItemLine m) × ((m.sort == sort) ≡ false)) → same_sort sort ls k ≡ None
not_sibling sort ls k (inr (m, e, o)) = ap (same_sort sort ls) e ∙ ap (λ b. if b then Some (m, ls) else None) o
not_sibling sort ls BlankLine (inl e) = refl
not_sibling sort ls CodeLine (inl e) = refl
not_sibling sort ls QuoteLine (inl e) = refl
not_sibling sort ls (HeadingLine h) (inl e) = refl
not_sibling sort ls (FenceLine f) (inl e) = refl
not_sibling sort ls (HtmlLine h) (inl e) = refl
not_sibling sort ls RuleLine (inl e) = refl
not_sibling sort ls (ItemLine m) (inl e) = absurd (true≢false (sym e))
not_sibling sort ls TextLine (inl e) = refl
not_sibling sort ls LazyLine (inl e) = refl

tight_more : (a b c : Bool) → (not (a || b) && not c) ≡ not (a || (b || c))
tight_more true b c = refl
tight_more false true c = refl
tight_more false false c = refl

or_left : (a b : Bool) → (a || not b) ≡ true → b ≡ true → a ≡ true
or_left true b e q = refl
or_left false true e q = absurd (true≢false (sym e))
or_left false false e q = absurd (true≢false (sym q))

both_false : (a b : Bool) → (a || b) ≡ false → (a ≡ false) × (b ≡ false)
both_false true b e = absurd (true≢false e)
both_false false b e = (refl, e)

indirect : (d : ℕ) (os : List Opened) (lf : Leaf) (bs : List ReadBlock) (ps : List Piece) (end number kept : ℕ) → nat_le (length os) d ≡ false → goes_directly d (stack_page os lf bs ps end number kept) ≡ false
unfolding goes_directly
indirect d os lf bs ps end number kept e = ap (λ k. is_paragraph lf && k) e ∙ and_not (is_paragraph lf) false refl

apart_same : (ln number origin a k c : ℕ) → ln ≡ origin + (a + k) → number ≡ origin + (a + c) → k < c → origin + a + c + 1 < 2 ^ 64 → nat_lt (plus ln 1) number ≡ nat_lt (a + k + 1) (a + c)
apart_same ln number origin a k c near now low small = grind (arith, near, now, low, small, nat_tests)

-- the frame of the lines in an item
slot_frame : (text : List ℕ) (p : Home) (r : Run) (ks : List Container) (origin count : ℕ) → Frame p r ks origin count → (t : Slot text p r) (first lines : ℕ) → depth p + 4 < 2 ^ 64 → first + lines + 1 < 2 ^ 64 → Frame (slot_home text p r t) (slot_run text p r t) (item_kinds ks t.list.sort t.mark.width) first lines
slot_frame text p r ks origin count fr t first lines room fits = record {
  kinds = ap (λ zs. item_kinds zs t.list.sort t.mark.width) (containers_are p t.e t.n true ∙ fr.kinds);
  outer = ap (λ n. suc (suc n)) (fr.outer ∙ sym (box_count p t.e t.n true));
  listed = (let low : length t.list.before < length t.blocks = list_listed text r t.list t.blocks t.pieces t.is t.holds in let all : length (t.blocks ++ slot_block text p r t ∷ []) ≡ length t.blocks + 1 = length-append t.blocks (slot_block text p r t ∷ []) in let q : length t.list.before < length (t.blocks ++ slot_block text p r t ∷ []) = omega (arith, low, all) in q);
  steady = boxes_go p t.e t.n fr.steady;
  shallow = (let q : suc (suc (length (boxes p t.e t.n true))) + 2 < 2 ^ 64 = omega (arith, room, box_count p t.e t.n true) in q);
  small = fits;
}

loop_step : (text : List ℕ) (g : ℕ) → Goal text (suc g) → Begun text (suc g) → Loop text g → Loop text (suc g)
unfolding is_paragraph
loop_step text g goal begun loop p r0 ks origin count fr had last at t m a f k us known to inside cs x whole number_is sort_is first_is wide room now near0 later past few nested weight enough counted total rest ink =
    subst (λ fs. Ends text p r0 origin count (fold (comes text ks) start_state cs) t.list.found had last (x ∷ lsx) fs) (sym (ap (λ is. from_there f at whole (list_with m at (us ++ is))) items_is))
    (subst (λ z. Ends text p r0 origin count z t.list.found had last (x ∷ lsx) (from_there f at whole (list_with m at (us ++ (item ∷ siblings w.outs))))) (sym (w.reads start_state)) (finish w.outs refl))
  where
    r : Run
    r = loose_run r0 (list_in p) (had && nat_lt (last + 1) at)

    fr1 : Frame p r ks origin count
    fr1 = loose_frame p r0 ks origin count (had && nat_lt (last + 1) at) fr

    outer : List Opened
    outer = boxes p t.e t.n true

    outer_count : length outer ≡ depth p
    outer_count = box_count p t.e t.n true

    lsx : List DeclaredLine
    lsx = all_shown text ks cs

    ls : List DeclaredLine
    ls = item_rest t.mark lsx

    sort : ℕ
    sort = t.list.sort

    width : ℕ
    width = t.mark.width

    b : ℕ
    b = length t.list.before

    kin : List Container
    kin = item_kinds ks sort width

    w : Parted text ks sort width cs ls
    w = parted text ks sort width wide cs

    len : ℕ
    len = length w.ins

    many : length cs ≡ len + length w.outs
    many = w.count

    tests : (is_short_leaf (beginning (Written t.mark.first)) ≡ true) × (are_nested (suc g) (Written t.mark.first ∷ map (inner_line width) ls) ≡ true) × (are_nested (suc g) (drop (length ls) lsx) ≡ true) × ((ends_blank (Written t.mark.first ∷ ls) || not (starts_text (drop (length ls) lsx))) ≡ true)
    tests = all_four (is_short_leaf (beginning (Written t.mark.first))) (are_nested (suc g) (Written t.mark.first ∷ map (inner_line width) ls)) (are_nested (suc g) (drop (length ls) lsx)) (ends_blank (Written t.mark.first ∷ ls) || not (starts_text (drop (length ls) lsx))) nested

    left_is : drop (length ls) lsx ≡ all_shown text ks w.outs
    left_is = ap (drop (length ls)) w.whole ∙ drop_behind ls (all_shown text ks w.outs)

    inside_shown : List DeclaredLine
    inside_shown = Written (part_from text t.line to) ∷ all_shown text kin w.ins

    inside_is : (Written t.mark.first ∷ map (inner_line width) ls) ≡ inside_shown
    inside_is = ap (λ q. Written q ∷ map (inner_line width) ls) first_is ∙ ap (λ zs. Written (part_from text t.line to) ∷ zs) (sym w.shown)

    inside_long : length inside_shown ≡ suc len
    inside_long = ap suc (length-map w.ins (come_shown text kin))

    home : Home
    home = slot_home text p r t

    run : Run
    run = slot_run text p r t

    start_state : State
    start_state = begin text (columns_of text t.line) t.line (suc (suc (length outer))) (place_from text t.line to) (slot_page text p r t)

    s : State
    s = fold (comes text kin) start_state w.ins

    bf : List DeclaredLine → List Found
    bf = λ y. blocks_from f 0 y

    inner : List Found
    inner = blocks_from f 0 inside_shown

    short : is_short_leaf (beginning (Written (part_from text t.line to))) ≡ true
    short = ap (λ q. is_short_leaf (beginning (Written q))) (sym first_is) ∙ tests.0

    small : origin + count + 1 < 2 ^ 64
    small = fr.small

    e : Ends text home run (origin + a) (suc len) s none false 0 inside_shown inner
    e = begun home run kin (origin + a) (suc len) (slot_frame text p r ks origin count fr1 t (origin + a) (suc len) room (omega (arith, small, total, many))) 0 f t.line known to inside w.ins t.line.end t.line.number 0 false (t.blocks ++ slot_block text p r t ∷ []) t.pieces t.end t.number t.kept none (holds_none text run)
        (omega (arith, now)) (omega arith) (omega (arith, few)) (inl short) (first_ink (part_from text t.line to) short) (omega (arith, now)) (subst (λ zs. are_nested (suc g) zs ≡ true) inside_is (tests.1))
        (let low : weigh (all_shown text kin w.ins) + weigh (all_shown text ks w.outs) ≤ weigh lsx = w.weighs in omega (arith, weight, low))
        (subst (λ n. Counted text kin n w.ins) (let q : origin + suc a ≡ origin + a + suc 0 = omega arith in q) ((w.numbers (origin + suc a) counted).0)) (let q : 0 + suc len ≡ suc len = omega arith in q)

    -- what is declared of the item

    inside_blank : ends_blank inside_shown ≡ ends_blank (Written t.mark.first ∷ ls)
    inside_blank = ap ends_blank (sym inside_is) ∙ ends_inner width (is_blank_line (Written t.mark.first)) ls w.keeps

    text_blank : starts_text (all_shown text ks w.outs) ≡ true → ends_blank inside_shown ≡ true
    text_blank q = inside_blank ∙ or_left (ends_blank (Written t.mark.first ∷ ls)) (starts_text (drop (length ls) lsx)) (tests.3) (ap starts_text left_is ∙ q)

    out_nested : are_nested (suc g) (all_shown text ks w.outs) ≡ true
    out_nested = subst (λ zs. are_nested (suc g) zs ≡ true) left_is (tests.2)

    stop_of : (outs : List (Come text ks)) → Outside text ks width outs → are_nested (suc g) (all_shown text ks outs) ≡ true → (starts_text (all_shown text ks outs) ≡ true → ends_blank inside_shown ≡ true) → Stops bf width (Written t.mark.first ∷ map (inner_line width) ls) (all_shown text ks outs)
    stop_of [] out n q = tt
    stop_of (v ∷ vs) out n q =
        not_in bf width (Written t.mark.first ∷ map (inner_line width) ls) (come_shown text ks v) out (nested_kind (λ xs. are_nested g xs) (come_shown text ks v) (all_shown text ks vs) (beginning (come_shown text ks v)) n)
        (λ is. subst (λ zs. ends_open (length zs) (bf zs) ≡ false) (sym inside_is) (ap (λ n'. ends_open n' inner) inside_long ∙ e.shut (q is)))

    lines_is : item_lines bf t.mark lsx ≡ inside_shown
    lines_is = ap (item_lines bf t.mark) w.whole ∙ item_is bf t.mark ls (all_shown text ks w.outs) w.keeps (first_ink t.mark.first (tests.0)) (stop_of w.outs w.ends out_nested text_blank) ∙ inside_is

    item : ItemFound
    item = record { found = inner; first = a; count = suc len }

    siblings : List (Come text ks) → List ItemFound
    siblings outs = and_siblings (λ z. items bf k (a + suc len) z) (sibling t.mark.sort (all_shown text ks outs))

    after_of : ℕ → List DeclaredLine → ℕ → List ItemFound
    after_of n zs blanks = record { found = inner; first = a; count = n } ∷ items_after (λ n' z. items bf k n' z) (a + n) t.mark zs blanks

    dropped : drop (suc len - 1) lsx ≡ all_shown text ks w.outs
    dropped = ap (λ n. drop n lsx) (let long : len ≡ length ls = w.long in let q : suc len - 1 ≡ length ls = omega (arith, long) in q) ∙ left_is

    items_is : items bf (suc k) a (t.mark, lsx) ≡ item ∷ siblings w.outs
    items_is =
        ap (items_with (λ n z. items bf k n z) bf a t.mark lsx) lines_is
        ∙ ap (λ n. after_of n (drop (n - 1) lsx) (blank_count (drop (n - 1) lsx))) inside_long
        ∙ ap (λ zs. after_of (suc len) zs (blank_count zs)) dropped
        ∙ ap (after_of (suc len) (all_shown text ks w.outs)) (no_blanks text ks width w.outs w.ends)
        ∙ ap (λ n. item ∷ and_siblings (λ z. items bf k n z) (sibling t.mark.sort (all_shown text ks w.outs))) (let q : a + suc len + 0 ≡ a + suc len = omega arith in q)

    -- the item ends

    le : ℕ
    le = max t.le e.closed_end

    ln : ℕ
    ln = max t.ln e.closed_line

    ab : List ReadBlock
    ab = ended e.blocks (length t.blocks) e.closed_end

    list_page : State
    list_page = stack_page (outer ++ list_box sort b le ln true ∷ []) leaf.Nothing ab e.pieces e.end e.number e.kept

    closes_item : closed_to text (suc (length outer)) s ≡ list_page
    closes_item =
        closes_more text (suc (length outer)) s (home_page home e.closed_end e.closed_line e.closed_some leaf.Nothing e.blocks e.pieces e.end e.number e.kept) e.closes e.deep
        ∙ item_closed outer sort b t.le t.ln width (length t.blocks) e.closed_end e.closed_line e.closed_some e.blocks e.pieces e.end e.number e.kept

    rest_page : State
    rest_page = home_page p (max t.e le) (max t.n ln) true leaf.Nothing (ended ab b le) e.pieces e.end e.number e.kept

    closes_all : closed_to text (depth p) s ≡ rest_page
    closes_all =
        ap (λ d. closed_to text d s) (sym outer_count)
        ∙ closes_more text (length outer) s list_page closes_item (let deep : suc (suc (length outer)) ≤ length (leaf_closed text s).opened = e.deep in let q : suc (length outer) ≤ length (leaf_closed text s).opened = omega (arith, deep) in q)
        ∙ list_closed p t.e t.n sort b le ln true ab e.pieces e.end e.number e.kept

    hg : Bool
    hg = gap false 0 inner

    g2 : OpenList text r
    g2 = loosen text r t.list hg

    is2 : Blocks
    is2 = also t.is (more (Item (told (tree inner))) none)

    tb : List ReadBlock
    tb = loosened (Some b) hg t.blocks

    item_run : Run
    item_run = inner_run (list_run text r g2) tb t.pieces (slot_block text p r t) 0 0 none_fits

    holds_item : Holds text item_run e.blocks e.pieces (told (tree inner))
    holds_item = holds_moved text (loose_run run (Some b) hg) item_run e.blocks e.blocks e.pieces (told (tree inner)) refl (loosened_front (Some b) hg t.blocks (slot_block text p r t ∷ []) (list_listed text r t.list t.blocks t.pieces t.is t.holds)) refl refl e.holds

    holds_list : Holds text (list_run text r g2) ab e.pieces is2
    holds_list =
        subst (λ n. Holds text (list_run text r g2) (ended e.blocks n e.closed_end) e.pieces is2) (loosened_long (Some b) hg t.blocks)
        (holds_box text (list_run text r g2) tb t.pieces t.is (slot_block text p r t) 0 0 none_fits e.blocks e.pieces (told (tree inner)) (Item (told (tree inner))) e.closed_end (holds_loose text r t.list hg t.blocks t.pieces t.is t.holds) (ap suc (outer_count ∙ sym fr.outer)) (λ pieces. refl) holds_item)

    list_b : Block
    list_b = list_told g2.tight g2.number is2

    holds_all : Holds text r (ended ab b le) e.pieces (also t.list.found (more list_b none))
    holds_all = holds_box text r t.list.before t.list.old t.list.found g2.block 0 0 none_fits ab e.pieces is2 list_b le t.list.holds g2.depth (list_box_told text r g2 is2) holds_list

    opened : s ≡ stack_page (outer ++ list_box sort b t.le t.ln true ∷ item_box width (length t.blocks) e.e e.n e.some ∷ e.deeper) e.lf e.opened_blocks e.opened_pieces e.opened_end e.opened_line e.opened_kept
    opened = e.is ∙ ap (λ os. stack_page os e.lf e.opened_blocks e.opened_pieces e.opened_end e.opened_line e.opened_kept)
        (append_assoc (outer ++ list_box sort b t.le t.ln true ∷ []) (item_box width (length t.blocks) e.e e.n e.some ∷ []) e.deeper ∙ append_assoc outer (list_box sort b t.le t.ln true ∷ []) (item_box width (length t.blocks) e.e e.n e.some ∷ e.deeper))

    -- what is declared of the list so far

    all : List ItemFound
    all = us ++ item ∷ []

    all_blocks : map item_block all ≡ map item_block us ++ item_block item ∷ []
    all_blocks = map-append item_block us (item ∷ [])

    fd : Found
    fd = list_found m at all

    past_low : past.last ≤ a
    past_low = past.below

    past_first : at ≤ a
    past_first = past.first

    inner_low : last_of inner < max (suc len) 1
    inner_low = e.bound

    fd_last : fd.last ≡ a + last_of inner
    fd_last = ap last_of all_blocks ∙ last_more 0 (map item_block us) (item_block item) ∙ (let top : max at (last_of (map item_block us)) ≡ past.last = past.top in let q : max (last_of (map item_block us)) (a + last_of inner) ≡ a + last_of inner = omega (arith, top, past_low) in q)

    line_near : ln ≡ origin + (a + last_of inner)
    line_near = let one : t.ln ≡ origin + past.last = past.near in let two : e.closed_line ≡ origin + a + last_of inner = e.near in omega (arith, one, two, past_low)

    rest_near : max t.n ln ≡ origin + fd.last
    rest_near = omega (arith, near0, later, past_first, fd_last, line_near)

    tight_is : g2.tight ≡ is_tight all
    tight_is =
        ap (λ z. z && not hg) past.tight ∙ ap (λ z. not (gap_to (map item_block us) a || list_any (λ (i : ItemFound). has_gap i.found) us) && not z) (gap_false 0 inner)
        ∙ tight_more (gap_to (map item_block us) a) (list_any (λ (i : ItemFound). has_gap i.found) us) (has_gap inner)
        ∙ ap (λ z. not (gap_to (map item_block us) a || z)) (sym (any_more us item))
        ∙ ap (λ z. not (z || list_any (λ (i : ItemFound). has_gap i.found) all)) (gap_same (map item_block us) (ended_found Rule a a) (item_block item) refl ∙ ap has_gap (sym all_blocks))

    told_all : told (tree (map item_block all)) ≡ is2
    told_all = ap (λ fs. told (tree fs)) all_blocks ∙ tree_more (map item_block us) (item_block item) (Item (told (tree inner))) (λ y. refl) ∙ ap (λ z. also z (more (Item (told (tree inner))) none)) (sym past.told_is)

    none_all : defined (tree (map item_block all)) ≡ []
    none_all = ap (λ fs. defined (tree fs)) all_blocks ∙ defined_more (map item_block us) (item_block item) past.none_there e.nothing

    plain : (y : Blocks) → told_before fd.block y ≡ more list_b y
    plain y =
        told_list m m.number (is_tight all) (tree (map item_block all)) y
        ∙ ap (λ z. more (list_told z m.number (told (tree (map item_block all)))) y) (sym tight_is)
        ∙ ap (λ z. more (list_told g2.tight m.number z) y) told_all
        ∙ ap (λ z. more (list_told g2.tight z is2) y) (sym number_is)

    nothing : defined_in fd.block ≡ []
    nothing = defined_list m m.number (is_tight all) (tree (map item_block all)) ∙ none_all

    left_whole : drop ((a - at) + suc len) whole ≡ all_shown text ks w.outs
    left_whole = sym (drop-drop (suc len) (a - at) whole) ∙ ap (drop (suc len)) rest ∙ ap (λ n. drop n lsx) w.long ∙ left_is

    after_list : from_there f at whole (list_with m at all) ≡ fd ∷ blocks_from f (a + suc len) (all_shown text ks w.outs)
    after_list =
        ap (λ n. fd ∷ blocks_from f (at + n) (drop n whole)) (let ends : items_end all ≡ a + suc len = end_more 0 us item in let q : items_end all - at ≡ (a - at) + suc len = omega (arith, ends, past_first) in q)
        ∙ ap (λ n. fd ∷ blocks_from f n (drop ((a - at) + suc len) whole)) (let q : at + ((a - at) + suc len) ≡ a + suc len = omega (arith, past_first) in q)
        ∙ ap (λ zs. fd ∷ blocks_from f (a + suc len) zs) left_whole

    Result : List (Come text ks) → List Found → Type 0
    Result outs fs = Ends text p r0 origin count (fold (comes text ks) s outs) t.list.found had last (x ∷ lsx) fs

    -- no line comes any more

    finish_last : w.outs ≡ [] → Result [] (fd ∷ [])
    finish_last q = record {
      e = t.e;
      n = t.n;
      some = true;
      deeper = list_box sort b t.le t.ln true ∷ item_box width (length t.blocks) e.e e.n e.some ∷ e.deeper;
      lf = e.lf;
      opened_blocks = e.opened_blocks;
      opened_pieces = e.opened_pieces;
      opened_end = e.opened_end;
      opened_line = e.opened_line;
      opened_kept = e.opened_kept;
      is = opened;
      closed_end = max t.e le;
      closed_line = max t.n ln;
      closed_some = true;
      blocks = ended ab b le;
      pieces = e.pieces;
      end = e.end;
      number = e.number;
      kept = e.kept;
      closes = closes_all;
      deep = (let deep : suc (suc (length outer)) ≤ length (leaf_closed text s).opened = e.deep in omega (arith, deep, outer_count));
      near = omega (arith, rest_near, fd_last, later, past_first);
      holds = subst (λ z. Holds text (loose_run r0 (list_in p) (gap had last (fd ∷ []))) (ended ab b le) e.pieces (also t.list.found z)) (sym (plain none))
          (holds_moved text r (loose_run r0 (list_in p) (gap had last (fd ∷ []))) (ended ab b le) (ended ab b le) e.pieces (also t.list.found (more list_b none)) refl (ap (λ z. loosened (list_in p) z r0.base) (sym (or_not (had && nat_lt (last + 1) at)))) refl refl holds_all);
      quiet = λ z. e.quiet (lines_same z);
      shut = λ z. and_not_left (last_is_open (map item_block all)) (fd.last + 1 == count) (ap last_is_open all_blocks ∙ open_more false (map item_block us) (item_block item) ∙ e.shut (lines_same z));
      few = (let low : length e.pieces < origin + a + suc len = e.few in omega (arith, low, total, many));
      bound = (let q' : length w.outs ≡ 0 = ap (λ (zs : List (Come text ks)). length zs) q in omega (arith, later, past_first, fd_last, inner_low, total, many, q'));
      nothing = ap (λ ds. ds ++ []) nothing;
    }
      where
        and_not_left : (y z : Bool) → y ≡ false → (y && z) ≡ false
        and_not_left true z o = absurd (true≢false o)
        and_not_left false z o = refl

        lines_same : ends_blank (x ∷ lsx) ≡ true → ends_blank inside_shown ≡ true
        lines_same z =
            inside_blank
            ∙ ap (λ o. fold (λ (was : Bool) (l : DeclaredLine). is_blank_line l) o ls) (first_ink t.mark.first (tests.0) ∙ sym ink)
            ∙ ap (fold (λ (was : Bool) (l : DeclaredLine). is_blank_line l) (is_blank_line x)) (sym (w.whole ∙ ap (λ zs. ls ++ all_shown text ks zs) q ∙ append-nil ls))
            ∙ z

    -- a line comes

    shallow : (ae an : ℕ) → length (boxes p ae an true) + 2 < 2 ^ 64
    shallow ae an = omega (arith, box_count p ae an true, room)

    list_stays : closed_to text (suc (length outer)) list_page ≡ list_page
    list_stays = stack_stays text (outer ++ list_box sort b le ln true ∷ []) (suc (length outer)) ab e.pieces e.end e.number e.kept (let q : length (outer ++ list_box sort b le ln true ∷ []) ≡ length outer + 1 = length-append outer (list_box sort b le ln true ∷ []) in omega (arith, q))

    s_indirect : goes_directly (suc (length outer)) s ≡ false
    s_indirect = ap (goes_directly (suc (length outer))) opened ∙ indirect (suc (length outer)) (outer ++ list_box sort b t.le t.ln true ∷ item_box width (length t.blocks) e.e e.n e.some ∷ e.deeper) e.lf e.opened_blocks e.opened_pieces e.opened_end e.opened_line e.opened_kept
        (let q : length (outer ++ list_box sort b t.le t.ln true ∷ item_box width (length t.blocks) e.e e.n e.some ∷ e.deeper) ≡ length outer + suc (suc (length e.deeper)) = length-append outer (list_box sort b t.le t.ln true ∷ item_box width (length t.blocks) e.e e.n e.some ∷ e.deeper) in let z : nat_le (length (outer ++ list_box sort b t.le t.ln true ∷ item_box width (length t.blocks) e.e e.n e.some ∷ e.deeper)) (suc (length outer)) ≡ false = grind (arith, q, nat_tests) in z)

    -- what is known of this line
    Next : Come text ks → List (Come text ks) → Type 0
    Next v vs = (w.outs ≡ v ∷ vs) × (is_blank (bytes_in text v.line) ≡ false) × (nat_le width (indent (come_part text ks v)) ≡ false) × (are_nested (suc g) (all_shown text ks (v ∷ vs)) ≡ true)

    begins_at : (v : Come text ks) (vs : List (Come text ks)) → Next v vs → (q : Beginning) → beginning (come_shown text ks v) ≡ q → Clear (is_paragraph s.leaf) false (come_shown text ks v) q
        → line_taken text s v.line ≡ begin text (columns_of text v.line) v.line (suc (length outer)) (place_from text v.line v.column) list_page
    begins_at v vs (is, v_ink, outside, n) q i clear =
        ap (λ z. line_taken text z v.line) opened
        ∙ comes_after text outer ks (containers_are p t.e t.n true ∙ fr.kinds) v v_ink sort b t.le t.ln width (length t.blocks) e.e e.n e.some e.deeper outside e.lf e.opened_blocks e.opened_pieces e.opened_end e.opened_line e.opened_kept (shallow t.e t.n)
        ∙ ap (begin text (columns_of text v.line) v.line (suc (length outer)) (place_from text v.line v.column)) (sym opened)
        ∙ begins_same text v.line v.known v.column v.inside q i (suc (length outer)) s list_page (is_paragraph s.leaf) false refl s_indirect refl (closes_item ∙ sym list_stays) clear

    out_counted : Counted text ks (origin + (a + suc len)) w.outs
    out_counted = subst (λ n. Counted text ks n w.outs) (let q : origin + suc a + len ≡ origin + (a + suc len) = omega arith in q) ((w.numbers (origin + suc a) counted).1)

    -- the list ends before it
    list_over : (v : Come text ks) (vs : List (Come text ks)) → Next v vs → (q : Beginning) → beginning (come_shown text ks v) ≡ q → Clear (is_paragraph s.leaf) false (come_shown text ks v) q
        → (is_short_leaf q ≡ true) ⊎ ((m2 : ItemMark) × (q ≡ ItemLine m2) × ((m2.sort == t.mark.sort) ≡ false) × (is_short_leaf (beginning (Written m2.first)) ≡ true))
        → Result (v ∷ vs) (from_there f at whole (list_with m at (us ++ (item ∷ siblings (v ∷ vs)))))
    list_over v vs (is, v_ink, outside, n) q i clear other =
        subst (λ fs. Result (v ∷ vs) fs) (sym (ap (λ js. from_there f at whole (list_with m at (us ++ (item ∷ js)))) (ap (and_siblings (λ z. items bf k (a + suc len) z)) (ap (same_sort t.mark.sort (all_shown text ks vs)) i ∙ not_sibling t.mark.sort (all_shown text ks vs) q (less other))) ∙ after_list ∙ ap (λ zs. fd ∷ blocks_from f (a + suc len) (all_shown text ks zs)) is))
        (subst (λ z. Ends text p r0 origin count (fold (comes text ks) z vs) t.list.found had last (x ∷ lsx) (fd ∷ blocks_from f (a + suc len) (all_shown text ks (v ∷ vs)))) (sym line_same)
        (ends_one text p r0 origin count (fold (comes text ks) rest_page (v ∷ vs)) t.list.found had last (all_shown text ks (v ∷ vs)) (x ∷ lsx) fd list_b (blocks_from f (a + suc len) (all_shown text ks (v ∷ vs))) plain nothing
        (and_not fd.is_open (fd.last + 1 == count) (grind (arith, fd_last, inner_low, total, many, vs_many, nat_tests))) (omega (arith, later, past_first, fd_last))
        (ap (λ zs. ends_blank (x ∷ zs)) (w.whole ∙ ap (λ zs. ls ++ all_shown text ks zs) is) ∙ ends_append (is_blank_line x) ls (come_shown text ks v) (all_shown text ks vs))
        (goal p r ks origin count fr1 (a + suc len) f (v ∷ vs) (max t.e le) (max t.n ln) fd.last (ended ab b le) e.pieces e.end e.number e.kept (also t.list.found (more list_b none)) holds_all rest_near (omega (arith, fd_last, inner_low))
        (let low : length e.pieces < origin + a + suc len = e.few in omega (arith, low)) n
        (let low : weigh (all_shown text kin w.ins) + weigh (all_shown text ks w.outs) ≤ weigh lsx = w.weighs in let same : weigh (all_shown text ks w.outs) ≡ weigh (all_shown text ks (v ∷ vs)) = ap (λ zs. weigh (all_shown text ks zs)) is in omega (arith, weight, low, same))
        (subst (λ zs. Counted text ks (origin + (a + suc len)) zs) is out_counted) (omega (arith, total, many, vs_many)))))
      where
        vs_many : length w.outs ≡ suc (length vs)
        vs_many = ap (λ (zs : List (Come text ks)). length zs) is

        less : (is_short_leaf q ≡ true) ⊎ ((m2 : ItemMark) × (q ≡ ItemLine m2) × ((m2.sort == t.mark.sort) ≡ false) × (is_short_leaf (beginning (Written m2.first)) ≡ true)) → (is_short_leaf q ≡ true) ⊎ ((m2 : ItemMark) × (q ≡ ItemLine m2) × ((m2.sort == t.mark.sort) ≡ false))
        less (inl o) = inl o
        less (inr (m2, o, z, y)) = inr (m2, o, z)

        turned_sort : (is_short_leaf q ≡ true) ⊎ ((m2 : ItemMark) × (q ≡ ItemLine m2) × ((m2.sort == t.mark.sort) ≡ false) × (is_short_leaf (beginning (Written m2.first)) ≡ true)) → (is_short_leaf q ≡ true) ⊎ ((m2 : ItemMark) × (q ≡ ItemLine m2) × ((sort == m2.sort) ≡ false) × (is_short_leaf (beginning (Written m2.first)) ≡ true))
        turned_sort (inl o) = inl o
        turned_sort (inr (m2, o, z, y)) = inr (m2, o, (let u : (t.list.sort == m2.sort) ≡ false = grind (arith, z, sort_is, nat_tests) in u), y)

        line_same : line_taken text s v.line ≡ line_taken text rest_page v.line
        line_same =
            begins_at v vs (is, v_ink, outside, n) q i clear
            ∙ ap (λ d. begin text (columns_of text v.line) v.line (suc d) (place_from text v.line v.column) list_page) outer_count
            ∙ begins_after_list text v.line v.known v.column v.inside q i p t.e t.n sort b le ln ab e.pieces e.end e.number e.kept (turned_sort other)
            ∙ ap (λ d. begin text (columns_of text v.line) v.line d (place_from text v.line v.column) rest_page) (sym (box_count p (max t.e le) (max t.n ln) true))
            ∙ sym (comes_home text (boxes p (max t.e le) (max t.n ln) true) ks (containers_are p (max t.e le) (max t.n ln) true ∙ fr.kinds) v v_ink leaf.Nothing (ended ab b le) e.pieces e.end e.number e.kept refl (shallow (max t.e le) (max t.n ln)))

    -- it begins the next item of the list
    next_item : (v : Come text ks) (vs : List (Come text ks)) → Next v vs → (m2 : ItemMark) → beginning (come_shown text ks v) ≡ ItemLine m2 → (m2.sort == t.mark.sort) ≡ true → is_nested_item (λ xs. are_nested g xs) (item_rest m2 (all_shown text ks vs)) (all_shown text ks vs) m2 ≡ true → (k2 : ℕ) → k ≡ k2
        → Result (v ∷ vs) (from_there f at whole (list_with m at (us ++ (item ∷ siblings (v ∷ vs)))))
    next_item v vs (is, v_ink, outside, n) m2 i same test zero ke = absurd (let q : length w.outs ≡ suc (length vs) = ap (λ (zs : List (Come text ks)). length zs) is in omega (arith, q, many, enough, ke))
    next_item v vs (is, v_ink, outside, n) m2 i same test (suc k2) ke =
        subst (λ fs. Result (v ∷ vs) fs) (sym (ap (λ js. from_there f at whole (list_with m at (us ++ (item ∷ js)))) more_items ∙ ap (λ js. from_there f at whole (list_with m at js)) (sym (append_assoc us (item ∷ []) (items bf (suc k2) (a + suc len) (m2, all_shown text ks vs))))))
        (ends_after text p r0 origin count (fold (comes text ks) s (v ∷ vs)) t.list.found had last (come_shown text ks v ∷ all_shown text ks vs) (x ∷ lsx) (from_there f at whole (list_with m at (all ++ items bf (suc k2) (a + suc len) (m2, all_shown text ks vs)))) (λ z. again.quiet (lines_same z)) (λ z. again.shut (lines_same z)) again)
      where
        lines_same : ends_blank (x ∷ lsx) ≡ true → ends_blank (come_shown text ks v ∷ all_shown text ks vs) ≡ true
        lines_same z = sym (ap (λ zs. ends_blank (x ∷ zs)) (w.whole ∙ ap (λ zs. ls ++ all_shown text ks zs) is) ∙ ends_append (is_blank_line x) ls (come_shown text ks v) (all_shown text ks vs)) ∙ z

        vs_many : length w.outs ≡ suc (length vs)
        vs_many = ap (λ (zs : List (Come text ks)). length zs) is

        more_items : siblings (v ∷ vs) ≡ items bf (suc k2) (a + suc len) (m2, all_shown text ks vs)
        more_items =
            ap (λ o. and_siblings (λ z. items bf k (a + suc len) z) (same_sort t.mark.sort (all_shown text ks vs) o)) i
            ∙ ap (λ o. and_siblings (λ z. items bf k (a + suc len) z) (if o then Some (m2, all_shown text ks vs) else None)) same
            ∙ ap (λ n'. items bf n' (a + suc len) (m2, all_shown text ks vs)) ke

        i2 : MarkFacts text v.line v.column m2
        i2 = item_facts text v.line v.known v.column v.inside m2 i

        content : is_short_leaf (beginning (Written (part_from text v.line i2.to))) ≡ true
        content = ap (λ q. is_short_leaf (beginning (Written q))) (sym i2.first) ∙ first_test (is_short_leaf (beginning (Written m2.first))) (are_nested g (Written m2.first ∷ map (inner_line m2.width) (item_rest m2 (all_shown text ks vs)))) (are_nested g (drop (length (item_rest m2 (all_shown text ks vs))) (all_shown text ks vs))) (ends_blank (Written m2.first ∷ item_rest m2 (all_shown text ks vs)) || not (starts_text (drop (length (item_rest m2 (all_shown text ks vs))) (all_shown text ks vs)))) test
          where
            first_test : (o o1 o2 o3 : Bool) → (o && o1 && o2 && o3) ≡ true → o ≡ true
            first_test o o1 o2 o3 z = (all_four o o1 o2 o3 z).0

        apart : Bool
        apart = nat_lt (plus ln 1) v.line.number

        number_now : v.line.number ≡ origin + (a + suc len)
        number_now = (subst (λ zs. Counted text ks (origin + (a + suc len)) zs) is out_counted).0

        apart_is : apart ≡ nat_lt (a + last_of inner + 1) (a + suc len)
        apart_is = apart_same ln v.line.number origin a (last_of inner) (suc len) line_near number_now (omega (arith, inner_low)) (omega (arith, small, total, many, vs_many))

        sort_same : (sort == m2.sort) ≡ true
        sort_same = let u : (t.list.sort == m2.sort) ≡ true = grind (arith, same, sort_is, nat_tests) in u

        t2 : Slot text p r
        t2 = record {
          list = loosen text r g2 apart;
          e = t.e;
          n = t.n;
          le = le;
          ln = ln;
          line = v.line;
          start = mark_place text v.line v.column;
          mark = m2;
          blocks = loosened (Some b) apart ab;
          pieces = e.pieces;
          is = is2;
          end = e.end;
          number = e.number;
          kept = e.kept;
          holds = holds_loose text r g2 apart ab e.pieces is2 holds_list;
        }

        comes_in : line_taken text s v.line ≡ begin text (columns_of text v.line) v.line (suc (suc (length outer))) (place_from text v.line i2.to) (slot_page text p r t2)
        comes_in =
            begins_at v vs (is, v_ink, outside, n) (ItemLine m2) i refl
            ∙ item_comes text v.line v.known v.column v.inside m2 i2 (suc (length outer)) list_page outer sort b le ln true ab e.pieces e.end e.number e.kept apart refl content
            (ap (list_started (item_start m2 i2.to) (mark_place text v.line v.column) v.line) list_stays ∙ list_goes_on (item_start m2 i2.to) (mark_place text v.line v.column) v.line outer sort b le ln true ab e.pieces e.end e.number e.kept sort_same) refl

        past2 : Past text p r origin t2 at (a + suc len) all
        past2 = record {
          last = a + last_of inner;
          near = line_near;
          top = (let q : max at (last_of (map item_block all)) ≡ a + last_of inner = omega (arith, fd_last, past_first) in q);
          first = omega (arith, past_first);
          below = omega (arith, inner_low);
          tight = ap (λ z. z && not apart) tight_is ∙ ap (λ z. is_tight all && not z) apart_is ∙ tight_apart (has_gap (map item_block all)) (list_any (λ (j : ItemFound). has_gap j.found) all) (nat_lt (a + last_of inner + 1) (a + suc len))
              ∙ ap (λ z. not (z || list_any (λ (j : ItemFound). has_gap j.found) all)) (ap (λ fs. has_gap fs || nat_lt (a + last_of inner + 1) (a + suc len)) all_blocks ∙ sym (gap_more (map item_block us) (item_block item) (a + suc len)) ∙ ap (λ fs. gap_to fs (a + suc len)) (sym all_blocks));
          told_is = sym told_all;
          none_there = none_all;
        }
          where
            tight_apart : (o o1 o2 : Bool) → (not (o || o1) && not o2) ≡ not ((o || o2) || o1)
            tight_apart true o1 o2 = refl
            tight_apart false true true = refl
            tight_apart false true false = refl
            tight_apart false false true = refl
            tight_apart false false false = refl

        again : Ends text p r0 origin count (fold (comes text ks) s (v ∷ vs)) t.list.found had last (come_shown text ks v ∷ all_shown text ks vs) (from_there f at whole (list_with m at (all ++ items bf (suc k2) (a + suc len) (m2, all_shown text ks vs))))
        again =
            subst (λ z. Ends text p r0 origin count (fold (comes text ks) z vs) t.list.found had last (come_shown text ks v ∷ all_shown text ks vs) (from_there f at whole (list_with m at (all ++ items bf (suc k2) (a + suc len) (m2, all_shown text ks vs))))) (sym comes_in)
            (loop p r0 ks origin count fr had last at t2 m (a + suc len) f k2 all v.known i2.to i2.inside vs (come_shown text ks v) whole number_is (eq_of m2.sort t.mark.sort same ∙ sort_is) i2.first (let q : spaces_of (left_from text v.line v.column) + 2 ≤ m2.width = i2.wide in omega (arith, q)) room number_now near0 later past2
            (let low : length e.pieces < origin + a + suc len = e.few in omega (arith, low)) test
            (let low : weigh (all_shown text kin w.ins) + weigh (all_shown text ks w.outs) ≤ weigh lsx = w.weighs in let more_low : weigh (all_shown text ks w.outs) ≡ suc (length (left_from text v.line v.column)) + weigh (all_shown text ks vs) = ap (λ zs. weigh (all_shown text ks zs)) is in let fewer : v.column + spaces_of (left_from text v.line v.column) < i2.to = i2.further in let less : length (left_from text v.line i2.to) ≤ length (left_from text v.line v.column) = omega (arith, fewer, length-drop i2.to (bytes_in text v.line), length-drop v.column (bytes_in text v.line)) in omega (arith, weight, low, more_low, less))
            (omega (arith, enough, many, vs_many, ke)) (subst (λ n'. Counted text ks n' vs) (let q : suc (origin + (a + suc len)) ≡ origin + suc (a + suc len) = omega arith in q) ((subst (λ zs. Counted text ks (origin + (a + suc len)) zs) is out_counted).1)) (omega (arith, total, many, vs_many))
            ((let q : a + suc len - at ≡ (a - at) + suc len = omega (arith, past_first) in ap (λ n'. drop n' whole) q) ∙ left_whole ∙ ap (all_shown text ks) is) (v.same ∙ v_ink))

    finish : (outs : List (Come text ks)) → w.outs ≡ outs → Result outs (from_there f at whole (list_with m at (us ++ (item ∷ siblings outs))))
    finish [] q = subst (λ fs. Result [] fs) (sym (after_list ∙ ap (λ zs. fd ∷ blocks_from f (a + suc len) (all_shown text ks zs)) q ∙ ap (λ fs. fd ∷ fs) (no_blocks f (a + suc len)))) (finish_last q)
    finish (v ∷ vs) q = by (beginning y) refl (nested_kind (λ xs. are_nested g xs) y (all_shown text ks vs) (beginning y) n) n
      where
        y : DeclaredLine
        y = come_shown text ks v

        n : are_nested (suc g) (all_shown text ks (v ∷ vs)) ≡ true
        n = subst (λ zs. are_nested (suc g) (all_shown text ks zs) ≡ true) q out_nested

        out : (is_blank (left_from text v.line v.column) ≡ false) × (nat_le width (indent (come_part text ks v)) ≡ false)
        out = both_false (is_blank (left_from text v.line v.column)) (nat_le width (indent (come_part text ks v))) (subst (λ zs. Outside text ks width zs) q w.ends)

        known_next : Next v vs
        known_next = (q, sym v.same ∙ out.0, out.1, n)

        by : (o : Beginning) → beginning y ≡ o → is_nested_kind o ≡ true → is_nested_line (λ xs. are_nested g xs) y (all_shown text ks vs) o ≡ true → Result (v ∷ vs) (from_there f at whole (list_with m at (us ++ (item ∷ siblings (v ∷ vs)))))
        by BlankLine i z test = absurd (true≢false (sym (blank_part (come_part text ks v) i) ∙ out.0))
        by CodeLine i z test = absurd (true≢false (sym z))
        by QuoteLine i z test = absurd (true≢false (sym z))
        by (HeadingLine h) i z test = list_over v vs known_next (HeadingLine h) i tt (inl refl)
        by (FenceLine h) i z test = absurd (true≢false (sym z))
        by (HtmlLine h) i z test = absurd (true≢false (sym z))
        by RuleLine i z test = list_over v vs known_next RuleLine i (inl refl) (inl refl)
        by (ItemLine m2) i z test = item_by (m2.sort == t.mark.sort) refl
          where
            item_by : (o : Bool) → (m2.sort == t.mark.sort) ≡ o → Result (v ∷ vs) (from_there f at whole (list_with m at (us ++ (item ∷ siblings (v ∷ vs)))))
            item_by true o = next_item v vs known_next m2 i o test k refl
            item_by false o = list_over v vs known_next (ItemLine m2) i refl (inr (m2, refl, o, (all_four (is_short_leaf (beginning (Written m2.first))) (are_nested g (Written m2.first ∷ map (inner_line m2.width) (item_rest m2 (all_shown text ks vs)))) (are_nested g (drop (length (item_rest m2 (all_shown text ks vs))) (all_shown text ks vs))) (ends_blank (Written m2.first ∷ item_rest m2 (all_shown text ks vs)) || not (starts_text (drop (length (item_rest m2 (all_shown text ks vs))) (all_shown text ks vs)))) test).0))
        by TextLine i z test = list_over v vs known_next TextLine i (e.quiet (text_blank (ap (λ zs. starts_text (all_shown text ks zs)) q ∙ ap is_text i)), refl) (inl refl)
        by LazyLine i z test = absurd (true≢false (sym z))

-- an item begins a list

last_of_none : (at : ℕ) → max at (last_of []) ≡ at
last_of_none at = let q : max at 0 ≡ at = omega arith in q

blocks_after_item : (f at : ℕ) (x : DeclaredLine) (ls : List DeclaredLine) (m : ItemMark) → beginning x ≡ ItemLine m
    → blocks_from (suc f) at (x ∷ ls) ≡ from_there f at (x ∷ ls) (list_with m at (items (λ y. blocks_from f 0 y) (suc (length ls)) at (m, ls)))
unfolding blocks_from
blocks_after_item f at x ls m e =
    ap (λ k. from_there f at (x ∷ ls) (first_block (λ y. blocks_from f 0 y) at x ls k)) e
    ∙ ap (λ n. from_there f at (x ∷ ls) (list_with m at (items (λ y. blocks_from f 0 y) n at (m, ls)))) (let q : length ls + 1 ≡ suc (length ls) = omega arith in q)

list_read : (text : List ℕ) (g : ℕ) → Loop text g → (p : Home) (r : Run) (ks : List Container) (origin count : ℕ) → Frame p r ks origin count → (at f : ℕ) (l : Line) (known : Known text l) (c : ℕ) (inside : c ≤ length (bytes_in text l)) (cs : List (Come text ks)) (e n last : ℕ) (had : Bool) (bs : List ReadBlock) (ps : List Piece) (end number kept : ℕ) (found : Blocks) → Holds text r bs ps found
    → n ≡ origin + last → last < max at 1 → length ps < origin + at → depth p ≤ c → is_blank (left_from text l c) ≡ false → l.number ≡ origin + at
    → (m : ItemMark) → beginning (Written (part_from text l c)) ≡ ItemLine m → is_nested_item (λ xs. are_nested g xs) (item_rest m (all_shown text ks cs)) (all_shown text ks cs) m ≡ true
    → weigh (Written (part_from text l c) ∷ all_shown text ks cs) ≤ suc f → Counted text ks (origin + suc at) cs → at + suc (length cs) ≡ count
    → Ends text p r origin count (fold (comes text ks) (begin text (columns_of text l) l (depth p) (place_from text l c) (home_page p e n had leaf.Nothing bs ps end number kept)) cs) found had last (Written (part_from text l c) ∷ all_shown text ks cs) (blocks_from (suc f) at (Written (part_from text l c) ∷ all_shown text ks cs))
unfolding is_paragraph
list_read text g loop p r ks origin count fr at f l known c inside cs e n last had bs ps end number kept found holds near low few deep ink now m is test weight counted total =
    subst (λ fs. Ends text p r origin count (fold (comes text ks) (begin text (columns_of text l) l (depth p) (place_from text l c) page) cs) found had last (x ∷ ls) fs) (sym (blocks_after_item f at x ls m is))
    (subst (λ s. Ends text p r origin count (fold (comes text ks) s cs) found had last (x ∷ ls) (from_there f at (x ∷ ls) (list_with m at (items (λ y. blocks_from f 0 y) (suc (length ls)) at (m, ls))))) (sym begins)
    (loop p r ks origin count fr had last at t m at f (length ls) [] known i.to i.inside cs x (x ∷ ls) refl refl i.first (let q : spaces_of (left_from text l c) + 2 ≤ m.width = i.wide in omega (arith, q)) room now near (omega (arith, low)) past few test
    (omega (arith, weight, further, high, length-drop i.to (bytes_in text l), length-drop c (bytes_in text l)))
    (let q : length ls ≡ length cs = length-map cs (come_shown text ks) in omega (arith, q)) counted total (ap (λ k. drop k (x ∷ ls)) (let q : at - at ≡ 0 = omega arith in q)) ink))
  where
    x : DeclaredLine
    x = Written (part_from text l c)

    ls : List DeclaredLine
    ls = all_shown text ks cs

    page : State
    page = home_page p e n had leaf.Nothing bs ps end number kept

    i : MarkFacts text l c m
    i = item_facts text l known c inside m is

    further : c + spaces_of (left_from text l c) < i.to
    further = i.further

    high : i.to ≤ length (bytes_in text l)
    high = i.inside

    room : depth p + 4 < 2 ^ 64
    room = let s : length (bytes_in text l) + 3 < 2 ^ 64 = (at_column text l known c inside).short in omega (arith, s, further, high, deep)

    a : Bool
    a = had && nat_lt (last + 1) at

    r1 : Run
    r1 = loose_run r (list_in p) a

    bs1 : List ReadBlock
    bs1 = loosened (list_in p) a bs

    small : origin + at + 1 < 2 ^ 64
    small = let s : origin + count + 1 < 2 ^ 64 = fr.small in omega (arith, s, total)

    start : ℕ
    start = mark_place text l c

    lb : ReadBlock
    lb = block_in p (kind.List m.number) start start (length ps) (length ps)

    og : OpenList text r1
    og = record {
      sort = m.sort;
      number = m.number;
      tight = true;
      before = bs1;
      old = ps;
      block = lb;
      found = found;
      holds = holds_loosened text r (list_in p) a bs ps found fr.listed holds;
      depth = sym fr.outer;
      kind = refl;
      loose = refl;
    }

    t : Slot text p r1
    t = record {
      list = og;
      e = e;
      n = n;
      le = l.end;
      ln = l.number;
      line = l;
      start = start;
      mark = m;
      blocks = bs1 ++ lb ∷ [];
      pieces = ps;
      is = none;
      end = end;
      number = number;
      kept = kept;
      holds = holds_none text (list_run text r1 og);
    }

    past : Past text p r1 origin t at at []
    past = record {
      last = at;
      near = now;
      top = last_of_none at;
      first = omega arith;
      below = omega arith;
      tight = refl;
      told_is = refl;
      none_there = refl;
    }

    content : is_short_leaf (beginning (Written (part_from text l i.to))) ≡ true
    content = ap (λ q. is_short_leaf (beginning (Written q))) (sym i.first) ∙ (all_four (is_short_leaf (beginning (Written m.first))) (are_nested g (Written m.first ∷ map (inner_line m.width) (item_rest m ls))) (are_nested g (drop (length (item_rest m ls)) ls)) (ends_blank (Written m.first ∷ item_rest m ls) || not (starts_text (drop (length (item_rest m ls)) ls))) test).0

    opens : list_started (item_start m i.to) start l (closed_to text (depth p) page) ≡ stack_page (boxes p e n true ++ list_box m.sort (length bs1) l.end l.number false ∷ []) leaf.Nothing (bs1 ++ lb ∷ []) ps end number kept
    opens =
        ap (list_started (item_start m i.to) start l) (home_stays text p e n had bs ps end number kept)
        ∙ list_opens (item_start m i.to) start l p e n had bs ps end number kept
        ∙ ap (λ zs. stack_page (boxes p e n true ++ list_box m.sort (length zs) l.end l.number false ∷ []) leaf.Nothing (zs ++ lb ∷ []) ps end number kept) (loose_same p n origin at last had l.number bs near now low small)

    begins : begin text (columns_of text l) l (depth p) (place_from text l c) page ≡ begin text (columns_of text l) l (suc (suc (length (boxes p e n true)))) (place_from text l i.to) (slot_page text p r1 t)
    begins =
        item_comes text l known c inside m i (depth p) page (boxes p e n true) m.sort (length bs1) l.end l.number false (bs1 ++ lb ∷ []) ps end number kept false refl content opens refl
        ∙ ap (λ zs. begin text (columns_of text l) l (suc (suc (length (boxes p e n true)))) (place_from text l i.to) (home_page (InItem (boxes p e n true) m.sort (length bs1) l.end l.number m.width (length zs)) l.end l.number false leaf.Nothing (zs ++ read_item (length (boxes p e n true)) (length bs1) start ps ∷ []) ps end number kept)) (loosened_not (Some (length bs1)) (bs1 ++ lb ∷ []))

-- any line begins

begun_step : (text : List ℕ) (g : ℕ) → Goal text g → Loop text g → Begun text (suc g)
begun_step text g goal loop p r ks origin count fr at zero l known c inside cs e n last had bs ps end number kept found holds near low few deep ink now nested weight counted total = absurd (omega (arith, weight))
begun_step text g goal loop p r ks origin count fr at (suc f) l known c inside cs e n last had bs ps end number kept found holds near low few deep ink now nested weight counted total =
    by (beginning x) refl (nested_kind (λ xs. are_nested g xs) x ls (beginning x) nested) nested
  where
    x : DeclaredLine
    x = Written (part_from text l c)

    ls : List DeclaredLine
    ls = all_shown text ks cs

    Result : Type 0
    Result = Ends text p r origin count (fold (comes text ks) (begin text (columns_of text l) l (depth p) (place_from text l c) (home_page p e n had leaf.Nothing bs ps end number kept)) cs) found had last (x ∷ ls) (blocks_from (suc f) at (x ∷ ls))

    leafed : (k : Beginning) → beginning x ≡ k → is_short_leaf k ≡ true → is_nested_line (λ xs. are_nested g xs) x ls k ≡ true → Result
    leafed k i o t = leaf_read text g goal p r ks origin count fr at f l known c inside cs e n last had bs ps end number kept found holds near low few ink now k i o t (omega (arith, weight)) counted total

    deep_for : (m : ItemMark) → beginning x ≡ ItemLine m → (is_short_leaf (beginning x) ≡ true) ⊎ (depth p ≤ c) → depth p ≤ c
    deep_for m i (inl o) = absurd (true≢false (sym o ∙ ap is_short_leaf i))
    deep_for m i (inr o) = o

    by : (k : Beginning) → beginning x ≡ k → is_nested_kind k ≡ true → is_nested_line (λ xs. are_nested g xs) x ls k ≡ true → Result
    by BlankLine i z t = absurd (true≢false (sym (blank_part (part_from text l c) i) ∙ ink))
    by CodeLine i z t = absurd (true≢false (sym z))
    by QuoteLine i z t = absurd (true≢false (sym z))
    by (HeadingLine h) i z t = leafed (HeadingLine h) i refl t
    by (FenceLine h) i z t = absurd (true≢false (sym z))
    by (HtmlLine h) i z t = absurd (true≢false (sym z))
    by RuleLine i z t = leafed RuleLine i refl t
    by (ItemLine m) i z t = list_read text g loop p r ks origin count fr at f l known c inside cs e n last had bs ps end number kept found holds near low few (deep_for m i deep) ink now m i t weight counted total
    by TextLine i z t = leafed TextLine i refl t
    by LazyLine i z t = absurd (true≢false (sym z))

goal_zero : (text : List ℕ) → Goal text 0
goal_zero text p r ks origin count fr at f cs e n last bs ps end number kept found h near low few nested weight counted total = absurd (true≢false (sym nested))

begun_zero : (text : List ℕ) → Begun text 0
begun_zero text p r ks origin count fr at f l known c inside cs e n last had bs ps end number kept found h near low few deep ink now nested weight counted total = absurd (true≢false (sym nested))

loop_zero : (text : List ℕ) → Loop text 0
loop_zero text p r ks origin count fr had last at t m a f k us known to inside cs x whole number_is sort_is first_is wide room now near0 later past few nested weight enough counted total rest ink =
    absurd (true≢false (sym ((all_four (is_short_leaf (beginning (Written t.mark.first))) false false (ends_blank (Written t.mark.first ∷ item_rest t.mark (all_shown text ks cs)) || not (starts_text (drop (length (item_rest t.mark (all_shown text ks cs))) (all_shown text ks cs)))) nested).1)))

all_read : (text : List ℕ) (g : ℕ) → Goal text g × Begun text g × Loop text g
all_read text zero = (goal_zero text, begun_zero text, loop_zero text)
all_read text (suc g) =
    let h : Goal text g × Begun text g × Loop text g = all_read text g in
    let b : Begun text (suc g) = begun_step text g (h.0) (h.2) in
    let o : Goal text (suc g) = goal_of text g (h.0) b in
    (o, b, loop_step text g o b (h.2))

pub nested_read : (text : List ℕ) (g : ℕ) → Goal text g
nested_read text g = (all_read text g).0
