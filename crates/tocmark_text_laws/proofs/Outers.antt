-- A list with one item becomes loose only when a block begins directly in the item.
use Rattle.std.proofs.Common.{◌≡◌, ◌⊎◌, inl, inr, ℕ, zero, suc, ◌+◌, ◌-◌, ◌<◌, ◌≤◌, Bool, true, false, ◌==◌, ◌||◌, if◌then◌else◌, nat_lt, nat_le, List, [], ◌∷◌, ◌++◌, length, map, take, refl, ap, sym, ◌∙◌, subst, arith, length-append, length-take}
use Rattle.std.specs.Prelude.{slice_get, slice_set, Option, Some, None, is_some}
use Rattle.std.specs.List.{AllByRecursion}
use Rattle.std.specs.Option.{option_map, option_map_or, option_and_then}
use Rattle.std.proofs.lemmas.List.{length-map, map-append, take-map}
use Rattle.tocmark_event.specs.declared.event.HeadingLevel.{HeadingLevel}
use Rattle.tocmark_read_scan.specs.Basic.{bytes_between}
use Rattle.tocmark_read_scan.specs.Repeat.{going, repeated}
use Rattle.tocmark_read_scan.specs.declared.syntax.TheConstants.{CORE}
use Rattle.tocmark_read_lines.specs.Cells.{cell_place, is_blank_at}
use Rattle.tocmark_read_lines.specs.Containers.{raised, raised_at, matched, container_in, touched_from}
use Rattle.tocmark_read_lines.specs.Html.{html_ends}
use Rattle.tocmark_read_lines.specs.Marks.{tail_of, is_rule}
use Rattle.tocmark_read_lines.specs.declared.beginnings.Tail.{Tail}
use Rattle.tocmark_read_lines.specs.declared.cell.Cell.{Cell}
use Rattle.tocmark_read_lines.specs.declared.cell.Cursor.{Cursor}
use Rattle.tocmark_read_lines.specs.declared.container.Container.{Container}
use Rattle.tocmark_read_lines.specs.declared.container.Container.TheVariants as container
use Rattle.tocmark_read_lines.specs.declared.container.ContainerStart.{ContainerStart}
use Rattle.tocmark_read_lines.specs.declared.container.ContainerStart.TheVariants as begins
use Rattle.tocmark_read_lines.specs.declared.container.ItemStart.{ItemStart}
use Rattle.tocmark_read_lines.specs.declared.container.Opened.{Opened}
use Rattle.tocmark_read_lines.specs.declared.line.Line.{Line}
use Rattle.tocmark_read_page.specs.Leaves.{is_paragraph}
use Rattle.tocmark_read_page.specs.Pages.{State, innermost, ended, finished, raised_last, leaf_finished, table_finished, shortened, defined_as, settled_as, settled, leaf_closed_as, leaf_closed, is_quote, is_list, is_definitions, quote_left, one_closed, times, closed_to, list_at, list_of, is_loose, left_noted, list_left, is_apart, loosened, had_marked, begun, opened_with, leaf_opened, piece_taken, has_text, start_of, of_kind}
use Rattle.tocmark_read_page.specs.Pieces.{code_piece, text_piece, heading_piece, keeps_line}
use Rattle.tocmark_read_page.specs.declared.leaf.Leaf.{Leaf}
use Rattle.tocmark_read_page.specs.declared.leaf.Leaf.TheVariants as leaf
use Rattle.tocmark_read_page.specs.declared.line_start.LineStart.{LineStart}
use Rattle.tocmark_read_page.specs.declared.page.Block.{Block}
use Rattle.tocmark_read_page.specs.declared.page.BlockKind.{BlockKind}
use Rattle.tocmark_read_page.specs.declared.page.BlockKind.TheVariants as kind
use Rattle.tocmark_read_page.specs.declared.piece.Piece.{Piece}
use Rattle.tocmark_read_constructs.specs.Headings.{heading_put, heading_started_in, underlined, underlined_in}
use Rattle.tocmark_read_constructs.specs.Metadata.{metadata_in}
use Rattle.tocmark_read_constructs.specs.Quotes.{quote_opened}
use Rattle.tocmark_read_blocks.specs.Blocks.{core_known, underlined_if, underline_taken_in, started_in, started_at_in, leaf_started_in, passed_in, turn_in, leaf_ended, touched, turn_taken_in, taken_at_in, cells_taken_in}
use Rattle.tocmark_read_blocks.specs.Codes.{info_of, html_ended_as, html_ended, code_taken, indented_started, fence_started, html_started}
use Rattle.tocmark_read_blocks.specs.Containers.{goes_directly, is_list_of, is_in_list, list_started, item_opened, begun_at, container_once_in, containers_opened_in}
use Rattle.tocmark_read_blocks.specs.Leaves.{metadata_or, rule_at}
use Rattle.tocmark_read_blocks.specs.Paragraphs.{in_paragraph, rule_started, text_started, text_taken}
use Rattle.tocmark_read_blocks.specs.declared.leaf.LeafStart.{LeafStart}
use Rattle.tocmark_read_blocks.specs.declared.leaf.LeafStart.TheVariants as start
use Rattle.tocmark_read_blocks.specs.declared.leaf.Turn.{Turn}
use Rattle.tocmark_read_blocks.specs.declared.leaf.Turn.TheVariants as turn
use Rattle.tocmark_text_laws.proofs.Alls.{all_both, all_take, same_numbers}
use Rattle.tocmark_text_laws.proofs.Pairs.{changed_length}
use Rattle.tocmark_text_laws.proofs.Leaves.{is_core}
use Rattle.tocmark_text_laws.proofs.Core.{turns_core}
use Rattle.tocmark_text_laws.proofs.Begun.{is_core_start, container_core}
use Rattle.tocmark_text_laws.proofs.Machine.{core_at, core_begun}
use Rattle.tocmark_text_laws.proofs.Turns.{turn_of_core}
use Rattle.tocmark_text_laws.proofs.Houses.{settled_same}
use Rattle.tocmark_text_laws.proofs.QuotedContainers.{is_inner}
use Rattle.tocmark_text_laws.proofs.QuotedPages.{begun_length}
use Rattle.tocmark_text_laws.proofs.TightWalk.{Starts, leaf_starts}

-- the open containers and their blocks: a list, its item, and others in it

abbrev pub code : Opened → Container × ℕ
code o = (o.container, o.block)

abbrev pub codes : List Opened → List (Container × ℕ)
codes os = map code os

abbrev pub Within : List (Container × ℕ) → Type 0
Within [] = Unit
Within (c ∷ cs) = (is_inner (c.0) ≡ false) × AllByRecursion (λ (d : Container × ℕ). 0 < d.1) (c ∷ cs)

abbrev pub Held : List (Container × ℕ) → Type 0
Held [] = ⊥
Held (x ∷ []) = ⊥
Held (x ∷ z ∷ cs) = ((width : ℕ) × (z.0 ≡ container.Item width)) × Within cs

held_take : (n : ℕ) (cs : List (Container × ℕ)) → 2 ≤ n → Held cs → Held (take n cs)
held_take n [] l h = absurd h
held_take n (x ∷ []) l h = absurd h
held_take zero (x ∷ z ∷ cs) l h = absurd (omega (arith, l))
held_take (suc zero) (x ∷ z ∷ cs) l h = absurd (omega (arith, l))
held_take (suc (suc n)) (x ∷ z ∷ cs) l h = (h.0, within n cs (h.1))
  where
    within : (m : ℕ) (ds : List (Container × ℕ)) → Within ds → Within (take m ds)
    within zero ds g = tt
    within (suc m) [] g = tt
    within (suc m) (d ∷ ds) g = (g.0, all_take (λ (d : Container × ℕ). 0 < d.1) (suc m) (d ∷ ds) (g.1))

held_end : (cs : List (Container × ℕ)) (c : Container × ℕ) → 0 < c.1 → (is_inner (c.0) ≡ true → 2 < length cs) → Held cs → Held (cs ++ c ∷ [])
held_end [] c low k h = absurd h
held_end (x ∷ []) c low k h = absurd h
held_end (x ∷ z ∷ []) c low k h = (h.0, (by (is_inner (c.0)) k, (low, tt)))
  where
    by : (b : Bool) → (b ≡ true → 2 < length (x ∷ z ∷ [])) → b ≡ false
    by true f = absurd (omega (arith, f refl))
    by false f = refl
held_end (x ∷ z ∷ d ∷ ds) c low k h = (h.0, (h.1.0, all_both (λ (d : Container × ℕ). 0 < d.1) (d ∷ ds) (c ∷ []) (h.1.1) (low, tt)))

held_long : (cs : List (Container × ℕ)) → Held cs → 2 ≤ length cs
held_long [] h = absurd h
held_long (x ∷ []) h = absurd h
held_long (x ∷ z ∷ cs) h = omega arith

-- the item isn't a list
item_last : (os : List Opened) (o : Opened) → Held (codes os) → innermost os ≡ Some o → (is_list o.container ≡ false) ⊎ (2 < length os)
unfolding is_list
item_last [] o h e = absurd h
item_last (x ∷ []) o h e = absurd h
item_last (x ∷ z ∷ []) o h e = let q : z ≡ o = cc in inl (ap (λ (y : Opened). is_list y.container) (sym q) ∙ ap is_list (h.0.1))
item_last (x ∷ z ∷ y ∷ ys) o h e = inr (omega arith)

item_list : (sort : ℕ) (os : List Opened) → Held (codes os) → option_map_or (λ (o : Opened). is_list_of sort o.container) (innermost os) false ≡ true → 2 < length os
item_list sort [] h e = absurd h
item_list sort (x ∷ []) h e = absurd h
item_list sort (x ∷ z ∷ []) h e = let q : true ≡ false = sym e ∙ ap (is_list_of sort) (h.0.1) in absurd cc
item_list sort (x ∷ z ∷ y ∷ ys) h e = omega arith

-- the list of what is deeper in the item isn't the first block

own_low : (os : List Opened) (n : ℕ) (p : Opened) → AllByRecursion (λ (d : Container × ℕ). 0 < d.1) (codes os) → slice_get os n ≡ Some p → 0 < p.block
own_low [] n p h e = absurd cc
own_low (o ∷ os) zero p h e = let q : o ≡ p = cc in subst (λ (x : Opened). 0 < x.block) q (h.0)
own_low (o ∷ os) (suc n) p h e = own_low os n p (h.1) e

inner_low : (x z y : Opened) (ys : List Opened) (o : Opened) → Within (codes (y ∷ ys)) → slice_get (y ∷ ys) (length (y ∷ ys) - 1) ≡ Some o → is_inner o.container ≡ true → (i : ℕ)
    → option_map (λ (l : Opened). l.block) (slice_get (x ∷ z ∷ y ∷ ys) (length (x ∷ z ∷ y ∷ ys) - 2)) ≡ Some i → 0 < i
inner_low x z y [] o h e k i f = let q : y ≡ o = cc in let w : false ≡ true = sym (h.0) ∙ ap (λ (u : Opened). is_inner u.container) q ∙ k in absurd cc
inner_low x z y (w ∷ ws) o h e k i f = by (slice_get (y ∷ w ∷ ws) (length ws)) refl (ap (λ n. option_map (λ (l : Opened). l.block) (slice_get (x ∷ z ∷ y ∷ w ∷ ws) n)) (sym place) ∙ f)
  where
    place : length (x ∷ z ∷ y ∷ w ∷ ws) - 2 ≡ suc (suc (length ws))
    place = omega arith

    by : (p : Option Opened) → slice_get (y ∷ w ∷ ws) (length ws) ≡ p → option_map (λ (l : Opened). l.block) p ≡ Some i → 0 < i
    by None g e = absurd cc
    by (Some p) g e = let q : p.block ≡ i = cc in subst (λ n. 0 < n) q (own_low (y ∷ w ∷ ws) (length ws) p (h.1) g)

deeper_list : (x z y : Opened) (ys : List Opened) (o : Opened) → Within (codes (y ∷ ys)) → slice_get (y ∷ ys) (length (y ∷ ys) - 1) ≡ Some o → (k : Container) → o.container ≡ k → (i : ℕ) → list_at k o (x ∷ z ∷ y ∷ ys) ≡ Some i → 0 < i
unfolding is_inner
deeper_list x z y ys o h e container.Quote c i f = absurd cc
deeper_list x z y ys o h e (container.List sort) c i f = let q : o.block ≡ i = cc in subst (λ n. 0 < n) q (own_low (y ∷ ys) (length (y ∷ ys) - 1) o (h.1) e)
deeper_list x z y ys o h e container.Footnote c i f = absurd cc
deeper_list x z y ys o h e container.Definitions c i f = let q : o.block ≡ i = cc in subst (λ n. 0 < n) q (own_low (y ∷ ys) (length (y ∷ ys) - 1) o (h.1) e)
deeper_list x z y ys o h e (container.Item width) c i f = inner_low x z y ys o h e (ap is_inner c) i f
deeper_list x z y ys o h e (container.Definition width) c i f = inner_low x z y ys o h e (ap is_inner c) i f

first_list : (os : List Opened) → Held (codes os) → list_of os ≡ Some 0 → length os ≡ 2
unfolding list_of
first_list [] h e = absurd h
first_list (x ∷ []) h e = absurd h
first_list (x ∷ z ∷ []) h e = refl
first_list (x ∷ z ∷ y ∷ ys) h e = absurd (by (slice_get (y ∷ ys) (length (y ∷ ys) - 1)) refl (ap (λ n. option_and_then (λ (o : Opened). list_at o.container o (x ∷ z ∷ y ∷ ys)) (slice_get (x ∷ z ∷ y ∷ ys) n)) (sym place) ∙ e))
  where
    place : length (x ∷ z ∷ y ∷ ys) - 1 ≡ suc (suc (length (y ∷ ys) - 1))
    place = omega arith

    by : (p : Option Opened) → slice_get (y ∷ ys) (length (y ∷ ys) - 1) ≡ p → option_and_then (λ (o : Opened). list_at o.container o (x ∷ z ∷ y ∷ ys)) p ≡ Some 0 → ⊥
    by None g f = absurd cc
    by (Some o) g f = let z : 0 < 0 = deeper_list x z y ys o (h.1) g o.container refl 0 f in absurd (omega (arith, z))

-- what changes neither containers nor blocks

raised_codes : (os : List Opened) (i end line : ℕ) → codes (raised_at os i end line) ≡ codes os
unfolding raised_at raised
raised_codes os i end line = same_numbers code os i (λ (o : Opened). raised o end line) (λ o. refl)

touched_codes : (count end line : ℕ) (qs : List ℕ) (os : List Opened) → codes (touched_from count end line qs os) ≡ codes os
touched_codes count end line [] os = refl
touched_codes count end line (q ∷ qs) os = by (nat_le count q) (touched_codes count end line qs (raised_at os q end line) ∙ raised_codes os q end line)
  where
    by : (b : Bool) → codes (touched_from count end line qs (raised_at os q end line)) ≡ codes os → codes (if b then os else touched_from count end line qs (raised_at os q end line)) ≡ codes os
    by true g = refl
    by false g = g

had_codes : (os : List Opened) → codes (had_marked os) ≡ codes os
unfolding had_marked
had_codes os = same_numbers code os (length os - 1) (λ (o : Opened). record o { had = true }) (λ o. refl)

codes_length : (os : List Opened) → length (codes os) ≡ length os
codes_length os = length-map os code

same_length : (xs ys : List Opened) → codes xs ≡ codes ys → length xs ≡ length ys
same_length xs ys e = sym (codes_length xs) ∙ ap length e ∙ codes_length ys

-- whether a block is loose, and how deep it is
abbrev pub mark : Block → Bool × ℕ
mark b = (b.loose, b.depth)

abbrev pub marks : List Block → List (Bool × ℕ)
marks bs = map mark bs

-- how many blocks are directly in the item
abbrev pub outers : List (Bool × ℕ) → ℕ
outers [] = 0
outers (m ∷ ms) = (if m.1 == 2 then 1 else 0) + outers ms

abbrev pub first_loose : List (Bool × ℕ) → Bool
first_loose [] = false
first_loose (m ∷ ms) = m.0

marks_length : (bs : List Block) → length (marks bs) ≡ length bs
marks_length bs = length-map bs mark

set_marks : (bs : List Block) (i : ℕ) (b y : Block) → slice_get bs i ≡ Some b → mark y ≡ mark b → marks (slice_set bs i y) ≡ marks bs
set_marks [] i b y e k = absurd cc
set_marks (z ∷ zs) zero b y e k = let q : z ≡ b = cc in ap (λ m. m ∷ marks zs) (k ∙ sym (ap mark q))
set_marks (z ∷ zs) (suc i) b y e k = ap (λ ms. mark z ∷ ms) (set_marks zs i b y e k)

-- a page on which the list and its item are open
pub record Base (s : State) : Type 0 where
  pub held : Held (codes s.opened)
  pub some : 1 < length s.blocks

base_same : (s u : State) → codes u.opened ≡ codes s.opened → marks u.blocks ≡ marks s.blocks → Base s → Base u
base_same s u o m h = record { held = subst Held (sym o) h.held; some = omega (arith, h.some, marks_length s.blocks, marks_length u.blocks, ap length m) }

-- a step that leaves both open, and all marks as they are
record Quiet (s u : State) : Type 0 where
  base : Base u
  same : marks u.blocks ≡ marks s.blocks

quiet : (s u : State) → codes u.opened ≡ codes s.opened → marks u.blocks ≡ marks s.blocks → Base s → Quiet s u
quiet s u o m h = record { base = base_same s u o m h; same = m }

quiet_on : (s u v : State) → Quiet s u → Quiet u v → Quiet s v
quiet_on s u v f g = record { base = g.base; same = g.same ∙ f.same }

-- leaves and containers end

finished_same : (s : State) → (codes (leaf_finished s).opened ≡ codes s.opened) × (marks (leaf_finished s).blocks ≡ marks s.blocks)
unfolding leaf_finished finished
finished_same s = (raised_codes s.opened (length s.opened - 1) s.end s.line, same_numbers mark s.blocks (length s.blocks - 1) (λ (b : Block). record b { end = s.end; last = length (take s.kept s.pieces) }) (λ b. refl))

finished_quiet : (s : State) → Base s → Quiet s (leaf_finished s)
finished_quiet s h = quiet s (leaf_finished s) ((finished_same s).0) ((finished_same s).1) h

settled_marks : (t : List ℕ) (s : State) → marks (settled t s).blocks ≡ marks s.blocks
unfolding settled shortened
settled_marks t s = by (slice_get s.blocks (length s.blocks - 1)) refl
  where
    boxed : (b : Block) → slice_get s.blocks (length s.blocks - 1) ≡ Some b → (k : Bool) → marks (if k then s else defined_as t s b).blocks ≡ marks s.blocks
    boxed b e true = refl
    boxed b e false = set_marks s.blocks (length s.blocks - 1) b _ e refl

    by : (o : Option Block) → slice_get s.blocks (length s.blocks - 1) ≡ o → marks (option_map_or (settled_as t s) o s).blocks ≡ marks s.blocks
    by None e = refl
    by (Some b) e = boxed b e (is_some b.task)

settled_quiet : (t : List ℕ) (s : State) → Base s → Quiet s (settled t s)
settled_quiet t s h = quiet s (settled t s) (ap codes ((settled_same t s).1)) (settled_marks t s) h

leaf_closed_same : (t : List ℕ) (s : State) → (codes (leaf_closed t s).opened ≡ codes s.opened) × (marks (leaf_closed t s).blocks ≡ marks s.blocks)
unfolding leaf_closed table_finished ended
leaf_closed_same t s = by s.leaf
  where
    words : (codes (leaf_finished (settled t s)).opened ≡ codes s.opened) × (marks (leaf_finished (settled t s)).blocks ≡ marks s.blocks)
    words = ((finished_same (settled t s)).0 ∙ ap codes ((settled_same t s).1), (finished_same (settled t s)).1 ∙ settled_marks t s)

    by : (k : Leaf) → (codes (leaf_closed_as k t s).opened ≡ codes s.opened) × (marks (leaf_closed_as k t s).blocks ≡ marks s.blocks)
    by leaf.Nothing = (refl, refl)
    by leaf.Paragraph = words
    by leaf.Indented = finished_same s
    by (leaf.Fenced f) = finished_same s
    by (leaf.Html x) = finished_same s
    by (leaf.Metadata x) = finished_same s
    by (leaf.Table x) = (raised_codes s.opened (length s.opened - 1) s.end s.line, same_numbers mark s.blocks x.block (λ (b : Block). record b { end = s.end }) (λ b. refl))

leaf_closed_quiet : (t : List ℕ) (s : State) → Base s → Quiet s (leaf_closed t s)
leaf_closed_quiet t s h = quiet s (leaf_closed t s) ((leaf_closed_same t s).0) ((leaf_closed_same t s).1) h

one_marks : (s : State) → marks (one_closed s).blocks ≡ marks s.blocks
unfolding one_closed ended
one_marks s = by (slice_get s.opened (length s.opened - 1))
  where
    closes : Opened → State
    closes o = raised_last o.end o.line (record s { opened = take (length s.opened - 1) s.opened; blocks = option_map_or (λ (b : Block). slice_set s.blocks o.block (record b { end = o.end })) (slice_get s.blocks o.block) s.blocks })

    quoted : (o : Opened) (b : Bool) → marks (if b then record (closes o) { quotes = take (length (closes o).quotes - 1) (closes o).quotes } else closes o).blocks ≡ marks s.blocks
    quoted o true = same_numbers mark s.blocks o.block (λ (b : Block). record b { end = o.end }) (λ b. refl)
    quoted o false = same_numbers mark s.blocks o.block (λ (b : Block). record b { end = o.end }) (λ b. refl)

    by : (x : Option Opened) → marks (option_map_or (λ (o : Opened). quote_left o.container (closes o)) x s).blocks ≡ marks s.blocks
    by None = refl
    by (Some o) = quoted o (is_quote o.container)

times_marks : (k : ℕ) (s : State) → marks (times one_closed k s).blocks ≡ marks s.blocks
unfolding times
times_marks zero s = refl
times_marks (suc k) s = times_marks k (one_closed s) ∙ one_marks s

pub closed_marks : (t : List ℕ) (depth : ℕ) (s : State) → marks (closed_to t depth s).blocks ≡ marks s.blocks
unfolding closed_to
closed_marks t depth s = times_marks (length (leaf_closed t s).opened - depth) (leaf_closed t s) ∙ (leaf_closed_same t s).1

-- the innermost container ends, but not the item
record Fewer (s u : State) : Type 0 where
  quiet : Quiet s u
  fewer : length u.opened + 1 ≡ length s.opened

last_some : (os : List Opened) (k : ℕ) → length os ≡ suc k → slice_get os k ≡ None → ⊥
last_some [] k l e = omega (arith, l)
last_some (o ∷ os) zero l e = absurd cc
last_some (o ∷ os) (suc k) l e = last_some os k (omega (arith, l)) e

one_fewer : (s : State) → Base s → 2 < length s.opened → Fewer s (one_closed s)
unfolding one_closed ended
one_fewer s h long = by (slice_get s.opened (length s.opened - 1)) refl
  where
    rest : List Opened
    rest = take (length s.opened - 1) s.opened

    closes : Opened → State
    closes o = raised_last o.end o.line (record s { opened = rest; blocks = option_map_or (λ (b : Block). slice_set s.blocks o.block (record b { end = o.end })) (slice_get s.blocks o.block) s.blocks })

    left : (o : Opened) → codes (closes o).opened ≡ take (length s.opened - 1) (codes s.opened)
    left o = raised_codes rest (length rest - 1) o.end o.line ∙ sym (take-map code (length s.opened - 1) s.opened)

    same : (o : Opened) → marks (closes o).blocks ≡ marks s.blocks
    same o = same_numbers mark s.blocks o.block (λ (b : Block). record b { end = o.end }) (λ b. refl)

    closed : (o : Opened) → Fewer s (closes o)
    closed o = record {
      quiet = record { base = record { held = subst Held (sym (left o)) (held_take (length s.opened - 1) (codes s.opened) (omega (arith, long)) h.held); some = omega (arith, h.some, marks_length s.blocks, marks_length (closes o).blocks, ap length (same o)) }; same = same o };
      fewer = omega (arith, long, codes_length s.opened, codes_length (closes o).opened, ap length (left o), length-take (length s.opened - 1) (codes s.opened));
    }

    quoted : (u : State) → Fewer s u → (b : Bool) → Fewer s (if b then record u { quotes = take (length u.quotes - 1) u.quotes } else u)
    quoted u g true = record { quiet = record { base = record { held = g.quiet.base.held; some = g.quiet.base.some }; same = g.quiet.same }; fewer = g.fewer }
    quoted u g false = g

    by : (x : Option Opened) → slice_get s.opened (length s.opened - 1) ≡ x → Fewer s (option_map_or (λ (o : Opened). quote_left o.container (closes o)) x s)
    by None e = absurd (last_some s.opened (length s.opened - 1) (omega (arith, long)) e)
    by (Some o) e = quoted (closes o) (closed o) (is_quote o.container)

times_quiet : (k : ℕ) (s : State) → Base s → k + 2 ≤ length s.opened → Quiet s (times one_closed k s)
unfolding times
times_quiet zero s h low = quiet s s refl refl h
times_quiet (suc k) s h low =
    let f : Fewer s (one_closed s) = one_fewer s h (omega (arith, low)) in
    quiet_on s (one_closed s) (times one_closed k (one_closed s)) f.quiet (times_quiet k (one_closed s) f.quiet.base (omega (arith, low, f.fewer)))

closed_quiet : (t : List ℕ) (depth : ℕ) (s : State) → 2 ≤ depth → Base s → Quiet s (closed_to t depth s)
unfolding closed_to
closed_quiet t depth s low h = quiet_on s u (times one_closed (length u.opened - depth) u) shut (times_quiet (length u.opened - depth) u shut.base (omega (arith, low, long)))
  where
    u : State
    u = leaf_closed t s

    shut : Quiet s u
    shut = leaf_closed_quiet t s h

    long : 2 ≤ length u.opened
    long = omega (arith, held_long (codes u.opened) shut.base.held, codes_length u.opened)

list_left_quiet : (s : State) → Base s → Quiet s (list_left s)
unfolding list_left left_noted
list_left_quiet s h = by (innermost s.opened) refl
  where
    u : State
    u = one_closed s

    noted : Quiet s u → (o : Opened) (b : Bool) → Quiet s (if b then record u { left = Some (record { list = o.block; behind = length u.blocks; loose = is_loose u.blocks (list_of u.opened) }) } else u)
    noted g o true = record { base = record { held = g.base.held; some = g.base.some }; same = g.same }
    noted g o false = g

    inner : (o : Opened) → (is_list o.container ≡ false) ⊎ (2 < length s.opened) → (b : Bool) → is_list o.container ≡ b → Quiet s (if b then left_noted o u else s)
    inner o (inl e) true k = let z : false ≡ true = sym e ∙ k in absurd cc
    inner o (inr e) true k = noted (one_fewer s h e).quiet o (is_definitions o.container)
    inner o e false k = quiet s s refl refl h

    by : (o : Option Opened) → innermost s.opened ≡ o → Quiet s (option_map_or (λ (o : Opened). if is_list o.container then left_noted o (one_closed s) else s) o s)
    by None e = quiet s s refl refl h
    by (Some o) e = inner o (item_last s.opened o h.held e) (is_list o.container) refl

-- blocks begin

-- A step that leaves both open. The list becomes loose only if a block begins directly in the item.
pub record Tracks (s u : State) : Type 0 where
  pub base : Base u
  pub more : outers (marks s.blocks) ≤ outers (marks u.blocks)
  pub loose : first_loose (marks u.blocks) ≡ true → (first_loose (marks s.blocks) ≡ true) ⊎ (outers (marks s.blocks) < outers (marks u.blocks))

tracks : (s u : State) → Quiet s u → Tracks s u
tracks s u q = record { base = q.base; more = omega (arith, ap outers q.same); loose = λ e. inl (sym (ap first_loose q.same) ∙ e) }

tracks_on : (s u v : State) → Tracks s u → Tracks u v → Tracks s v
tracks_on s u v f g = record { base = g.base; more = omega (arith, f.more, g.more); loose = λ e. each (g.loose e) }
  where
    again : (first_loose (marks s.blocks) ≡ true) ⊎ (outers (marks s.blocks) < outers (marks u.blocks)) → (first_loose (marks s.blocks) ≡ true) ⊎ (outers (marks s.blocks) < outers (marks v.blocks))
    again (inl e) = inl e
    again (inr l) = inr (omega (arith, l, g.more))

    each : (first_loose (marks u.blocks) ≡ true) ⊎ (outers (marks u.blocks) < outers (marks v.blocks)) → (first_loose (marks s.blocks) ≡ true) ⊎ (outers (marks s.blocks) < outers (marks v.blocks))
    each (inl e) = again (f.loose e)
    each (inr l) = inr (omega (arith, l, f.more))

tracks_quiet : (s u v : State) → Tracks s u → (Base u → Quiet u v) → Tracks s v
tracks_quiet s u v f g = tracks_on s u v f (tracks u v (g f.base))

quiet_tracks : (s u v : State) → Quiet s u → (Base u → Tracks u v) → Tracks s v
quiet_tracks s u v f g = tracks_on s u v (tracks s u f) (g f.base)

outers_end : (ms ns : List (Bool × ℕ)) → outers (ms ++ ns) ≡ outers ms + outers ns
outers_end [] ns = omega arith
outers_end (m ∷ ms) ns = let z : outers (ms ++ ns) ≡ outers ms + outers ns = outers_end ms ns in omega (arith, z)

-- a list that gets loose leaves depths as they are
loosened_outers : (list : Option ℕ) (apart : Bool) (bs : List Block) → outers (marks (loosened list apart bs)) ≡ outers (marks bs)
unfolding loosened
loosened_outers list false bs = refl
loosened_outers None true bs = refl
loosened_outers (Some i) true bs = by (slice_get bs i) refl
  where
    set : (cs : List Block) (j : ℕ) (b : Block) → slice_get cs j ≡ Some b → outers (marks (slice_set cs j (record b { loose = true }))) ≡ outers (marks cs)
    set [] j b e = refl
    set (c ∷ cs) zero b e = let q : c ≡ b = cc in ap (λ (x : Block). (if x.depth == 2 then 1 else 0) + outers (marks cs)) (sym q)
    set (c ∷ cs) (suc j) b e = ap (λ n. (if c.depth == 2 then 1 else 0) + n) (set cs j b e)

    by : (o : Option Block) → slice_get bs i ≡ o → outers (marks (option_map_or (λ (b : Block). slice_set bs i (record b { loose = true })) o bs)) ≡ outers (marks bs)
    by None e = refl
    by (Some b) e = set bs i b e

loosened_count : (list : Option ℕ) (apart : Bool) (bs : List Block) → length (loosened list apart bs) ≡ length bs
unfolding loosened
loosened_count list false bs = refl
loosened_count None true bs = refl
loosened_count (Some i) true bs = changed_length i (λ (b : Block). record b { loose = true }) bs

-- another list gets loose
other_loose : (i : ℕ) (apart : Bool) (bs : List Block) → first_loose (marks (loosened (Some (suc i)) apart bs)) ≡ first_loose (marks bs)
unfolding loosened
other_loose i false bs = refl
other_loose i true [] = refl
other_loose i true (b ∷ bs) = by (slice_get bs i)
  where
    by : (o : Option Block) → first_loose (marks (option_map_or (λ (x : Block). slice_set (b ∷ bs) (suc i) (record x { loose = true })) o (b ∷ bs))) ≡ b.loose
    by None = refl
    by (Some x) = refl

no_list_loose : (apart : Bool) (bs : List Block) → first_loose (marks (loosened None apart bs)) ≡ first_loose (marks bs)
unfolding loosened
no_list_loose true bs = refl
no_list_loose false bs = refl

first_front : (ms ns : List (Bool × ℕ)) → 0 < length ms → first_loose (ms ++ ns) ≡ first_loose ms
first_front [] ns h = absurd (omega (arith, h))
first_front (m ∷ ms) ns h = refl

begun_tracks : (b : BlockKind) (x n : ℕ) (s : State) → Base s → Tracks s (begun b x n s)
unfolding begun
begun_tracks b x n s h = record {
  base = record {
    held = subst Held (sym (had_codes s.opened)) h.held;
    some = omega (arith, h.some, long, length-append before (new ∷ []));
  };
  more = omega (arith, count);
  loose = λ e. by (list_of s.opened) refl (sym front ∙ e);
}
  where
    before : List Block
    before = loosened (list_of s.opened) (is_apart s.opened n) s.blocks

    new : Block
    new = record { depth = length (had_marked s.opened); kind = b; start = x; end = x; first = length s.pieces; last = length s.pieces; loose = false; list = list_of s.opened; task = None }

    long : length before ≡ length s.blocks
    long = loosened_count (list_of s.opened) (is_apart s.opened n) s.blocks

    count : outers (marks (before ++ new ∷ [])) ≡ outers (marks s.blocks) + outers (mark new ∷ [])
    count = ap outers (map-append mark before (new ∷ [])) ∙ outers_end (marks before) (mark new ∷ []) ∙ ap (λ k. k + outers (mark new ∷ [])) (loosened_outers (list_of s.opened) (is_apart s.opened n) s.blocks)

    front : first_loose (marks (before ++ new ∷ [])) ≡ first_loose (marks before)
    front = ap first_loose (map-append mark before (new ∷ [])) ∙ first_front (marks before) (mark new ∷ []) (omega (arith, h.some, long, marks_length before))

    deep : length s.opened ≡ 2 → outers (mark new ∷ []) ≡ 1
    deep e = ap (λ k. (if k == 2 then 1 else 0) + 0) (same_length (had_marked s.opened) s.opened (had_codes s.opened) ∙ e)

    by : (o : Option ℕ) → list_of s.opened ≡ o → first_loose (marks before) ≡ true → (first_loose (marks s.blocks) ≡ true) ⊎ (outers (marks s.blocks) < outers (marks (before ++ new ∷ [])))
    by None e f = inl (sym (no_list_loose (is_apart s.opened n) s.blocks) ∙ ap (λ l. first_loose (marks (loosened l (is_apart s.opened n) s.blocks))) (sym e) ∙ f)
    by (Some zero) e f = inr (omega (arith, count, deep (first_list s.opened h.held e)))
    by (Some (suc i)) e f = inl (sym (other_loose i (is_apart s.opened n) s.blocks) ∙ ap (λ l. first_loose (marks (loosened l (is_apart s.opened n) s.blocks))) (sym e) ∙ f)

opened_tracks : (c : Container) (b : BlockKind) (x : ℕ) (line : Line) (s : State) → (is_inner c ≡ true → 2 < length s.opened) → Base s → Tracks s (opened_with c b x line s)
unfolding opened_with
opened_tracks c b x line s inner h = by (is_quote c)
  where
    t : State
    t = begun b x line.number s

    g : Tracks s t
    g = begun_tracks b x line.number s h

    new : Opened
    new = record { container = c; block = length t.blocks - 1; end = line.end; line = line.number; had = false }

    u : State
    u = record t { opened = t.opened ++ new ∷ [] }

    same : length t.opened ≡ length s.opened
    same = begun_length b x line.number s

    held : Held (codes (t.opened ++ new ∷ []))
    held = subst Held (sym (map-append code t.opened (new ∷ []))) (held_end (codes t.opened) (code new) (omega (arith, g.base.some)) (λ k. omega (arith, inner k, same, codes_length t.opened)) g.base.held)

    by : (q : Bool) → Tracks s (if q then record u { quotes = u.quotes ++ (length u.opened - 1) ∷ [] } else u)
    by true = record { base = record { held = held; some = g.base.some }; more = g.more; loose = g.loose }
    by false = record { base = record { held = held; some = g.base.some }; more = g.more; loose = g.loose }

opened_longer : (c : Container) (b : BlockKind) (x : ℕ) (line : Line) (s : State) → 2 ≤ length s.opened → 2 < length (opened_with c b x line s).opened
unfolding opened_with begun
opened_longer c b x line s low = by (is_quote c)
  where
    new : Opened
    new = record { container = c; block = length (begun b x line.number s).blocks - 1; end = line.end; line = line.number; had = false }

    long : 2 < length (had_marked s.opened ++ new ∷ [])
    long = omega (arith, low, same_length (had_marked s.opened) s.opened (had_codes s.opened), length-append (had_marked s.opened) (new ∷ []))

    u : State
    u = record (begun b x line.number s) { opened = had_marked s.opened ++ new ∷ [] }

    by : (q : Bool) → 2 < length (if q then record u { quotes = u.quotes ++ (length u.opened - 1) ∷ [] } else u).opened
    by true = long
    by false = long

leaf_opened_tracks : (f : Leaf) (b : BlockKind) (x : ℕ) (line : Line) (s : State) → Base s → Tracks s (leaf_opened f b x line s)
unfolding leaf_opened
leaf_opened_tracks f b x line s h = record { base = record { held = g.base.held; some = g.base.some }; more = g.more; loose = g.loose }
  where
    v : State
    v = begun b x line.number (list_left s)

    g : Tracks s v
    g = quiet_tracks s (list_left s) v (list_left_quiet s h) (begun_tracks b x line.number (list_left s))

piece_quiet : (p : Piece) (line : Line) (keeps : Bool) (s : State) → Base s → Quiet s (piece_taken p line keeps s)
unfolding piece_taken
piece_quiet p line keeps s h = by keeps (nat_lt 0 p.spaces || nat_lt p.start p.next)
  where
    made : Bool → State → State
    made y t = if y then record t { kept = length t.pieces; end = line.end; line = line.number } else t

    by : (y x : Bool) → Quiet s (made y (if x then record s { pieces = s.pieces ++ p ∷ [] } else s))
    by true true = record { base = record { held = h.held; some = h.some }; same = refl }
    by true false = record { base = record { held = h.held; some = h.some }; same = refl }
    by false true = record { base = record { held = h.held; some = h.some }; same = refl }
    by false false = record { base = record { held = h.held; some = h.some }; same = refl }

-- leaves take a line

html_quiet : (rest : List ℕ) (s : State) → Base s → Quiet s (html_ended rest s)
unfolding html_ended
html_quiet rest s h = by s.leaf
  where
    same : Quiet s s
    same = quiet s s refl refl h

    ends : (b : Bool) → Quiet s (if b then leaf_finished s else s)
    ends true = finished_quiet s h
    ends false = same

    by : (k : Leaf) → Quiet s (html_ended_as k rest s)
    by leaf.Nothing = same
    by leaf.Paragraph = same
    by leaf.Indented = same
    by (leaf.Fenced x) = same
    by (leaf.Html k) = ends (html_ends k rest)
    by (leaf.Metadata k) = same
    by (leaf.Table x) = same

code_quiet : (t : List ℕ) (cs : List Cell) (column : ℕ) (line : Line) (s : State) → Base s → Quiet s (code_taken t cs column line s)
unfolding code_taken
code_quiet t cs column line s h = quiet_on s u (html_ended (bytes_between t (code_piece cs column line).start (code_piece cs column line).end) u) g (html_quiet (bytes_between t (code_piece cs column line).start (code_piece cs column line).end) u g.base)
  where
    u : State
    u = piece_taken (code_piece cs column line) line (keeps_line cs column s.leaf) s

    g : Quiet s u
    g = piece_quiet (code_piece cs column line) line (keeps_line cs column s.leaf) s h

begins_quiet : (x : ℕ) (s : State) → Base s → Quiet s (text_started x s)
unfolding text_started
begins_quiet x s h = by (slice_get s.blocks (length s.blocks - 1)) refl
  where
    inside : (b : Block) → slice_get s.blocks (length s.blocks - 1) ≡ Some b → (k : Bool) → Quiet s (if k then record s { blocks = slice_set s.blocks (length s.blocks - 1) (record b { start = x }) } else s)
    inside b e true = quiet s (record s { blocks = slice_set s.blocks (length s.blocks - 1) (record b { start = x }) }) refl (set_marks s.blocks (length s.blocks - 1) b (record b { start = x }) e refl) h
    inside b e false = quiet s s refl refl h

    by : (o : Option Block) → slice_get s.blocks (length s.blocks - 1) ≡ o → Quiet s (option_map_or (λ (b : Block). if nat_le (length s.pieces) b.first then record s { blocks = slice_set s.blocks (length s.blocks - 1) (record b { start = x }) } else s) o s)
    by None e = quiet s s refl refl h
    by (Some b) e = inside b e (nat_le (length s.pieces) b.first)

leaf_tracks : (t : List ℕ) (f : Leaf) (b : BlockKind) (x depth : ℕ) (line : Line) (s : State) → 2 ≤ depth → Base s → Tracks s (leaf_opened f b x line (closed_to t depth s))
leaf_tracks t f b x depth line s low h = quiet_tracks s (closed_to t depth s) (leaf_opened f b x line (closed_to t depth s)) (closed_quiet t depth s low h) (leaf_opened_tracks f b x line (closed_to t depth s))

text_tracks : (t : List ℕ) (cs : List Cell) (line : Line) (place : LineStart) (s : State) → 2 ≤ place.depth → Base s → Tracks s (text_taken t cs line place s)
unfolding text_taken
text_tracks t cs line place s low h =
    tracks_quiet s (text_started words.start u) (piece_taken words line true (text_started words.start u)) (tracks_quiet s u (text_started words.start u) (inside (is_paragraph s.leaf)) (begins_quiet words.start u)) (piece_quiet words line true (text_started words.start u))
  where
    words : Piece
    words = text_piece cs place.cursor line

    u : State
    u = in_paragraph t cs line place s

    inside : (b : Bool) → Tracks s (if b then s else leaf_opened leaf.Paragraph kind.Paragraph words.start line (closed_to t place.depth s))
    inside true = tracks s s (quiet s s refl refl h)
    inside false = leaf_tracks t leaf.Paragraph kind.Paragraph words.start place.depth line s low h

rule_tracks : (t : List ℕ) (cs : List Cell) (line : Line) (place : LineStart) (s : State) → 2 ≤ place.depth → Base s → Tracks s (rule_started t cs line place s)
unfolding rule_started
rule_tracks t cs line place s low h = tracks_quiet s u (leaf_finished u) (leaf_tracks t leaf.Nothing kind.Rule (start_of cs place line) place.depth line s low h) (finished_quiet u)
  where
    u : State
    u = leaf_opened leaf.Nothing kind.Rule (start_of cs place line) line (closed_to t place.depth s)

-- the open leaf ends with this line
ended_quiet : (line : Line) (s : State) (bs : List Block) → marks bs ≡ marks s.blocks → Base s → Quiet s (leaf_finished (record s { blocks = bs; end = line.end; line = line.number }))
ended_quiet line s bs e h = quiet_on s u (leaf_finished u) same (finished_quiet u same.base)
  where
    u : State
    u = record s { blocks = bs; end = line.end; line = line.number }

    same : Quiet s u
    same = quiet s u refl e h

underline_tracks : (t : List ℕ) (cs : List Cell) (line : Line) (tail : Tail) (place : LineStart) (level : HeadingLevel) (s : State) → 2 ≤ place.depth → Base s → Tracks s (underline_taken_in core_known t cs line tail place level s)
unfolding underline_taken_in metadata_in metadata_or underlined_in underlined rule_at
underline_tracks t cs line tail place level s low h = quiet_tracks s u _ (settled_quiet t s h) (λ g. by g (has_text u) (is_rule cs tail place.cursor.ink))
  where
    u : State
    u = settled t s

    by : Base u → (b r : Bool) → Tracks u (underlined_if core_known b (if r then start.Rule else start.Text) t cs line place level u)
    by g true r = tracks u _ (ended_quiet line u (of_kind (kind.Heading level None) u.blocks) (same_numbers mark u.blocks (length u.blocks - 1) (λ (b : Block). record b { kind = kind.Heading level None }) (λ b. refl)) g)
    by g false true = rule_tracks t cs line place u low g
    by g false false = text_tracks t cs line place u low g

started_tracks : (t : List ℕ) (cs : List Cell) (line : Line) (tail : Tail) (place : LineStart) (blank : Bool) (s : State) (b : LeafStart) → Starts blank b → 2 ≤ place.depth → Base s → Tracks s (started_in core_known b t cs line tail place s)
unfolding started_in indented_started fence_started html_started heading_started_in heading_put info_of
started_tracks t cs line tail place blank s b w low h = by b w
  where
    u : State
    u = closed_to t place.depth s

    code_in : (f : Leaf) (x : BlockKind) (n column : ℕ) → Tracks s (code_taken t cs column line (leaf_opened f x n line u))
    code_in f x n column = tracks_quiet s (leaf_opened f x n line u) (code_taken t cs column line (leaf_opened f x n line u)) (leaf_tracks t f x n place.depth line s low h) (code_quiet t cs column line (leaf_opened f x n line u))

    by : (b : LeafStart) → Starts blank b → Tracks s (started_in core_known b t cs line tail place s)
    by start.Blank w = tracks s u (closed_quiet t place.depth s low h)
    by start.Text w = text_tracks t cs line place s low h
    by (start.Indented column) w = code_in leaf.Indented kind.Indented (cell_place cs column line.end) column
    by (start.Heading x) w = tracks_quiet s v (leaf_finished v) (tracks_quiet s o v (leaf_tracks t leaf.Nothing (kind.Heading x.level None) (start_of cs place line) place.depth line s low h) (piece_quiet (heading_piece cs x line) line true o)) (finished_quiet v)
      where
        o : State
        o = leaf_opened leaf.Nothing (kind.Heading x.level None) (start_of cs place line) line u

        v : State
        v = piece_taken (heading_piece cs x line) line true o
    by (start.Fence f) w = leaf_tracks t (leaf.Fenced f) (info_of cs place.cursor f line) (start_of cs place line) place.depth line s low h
    by (start.Html x) w = code_in (leaf.Html x) kind.Html (cell_place cs place.cursor.column line.end) place.cursor.column
    by (start.Underline level) w = underline_tracks t cs line tail place level s low h
    by start.Rule w = rule_tracks t cs line place s low h
    by (start.Metadata x) w = absurd w
    by (start.Task d) w = absurd w
    by (start.QuoteKind x) w = absurd w

leaf_at_tracks : (t : List ℕ) (cs : List Cell) (line : Line) (place : LineStart) (s : State) → 2 ≤ place.depth → Base s → Tracks s (started_at_in core_known t cs line (tail_of cs) (s, place))
leaf_at_tracks t cs line place s low h = subst (Tracks s) (sym (core_begun t cs line (tail_of cs) s place))
    (started_tracks t cs line (tail_of cs) place (is_blank_at cs place.cursor) s (core_at t cs line (tail_of cs) s place) (leaf_starts cs (bytes_between t (start_of cs place line) line.end) (tail_of cs) place.cursor (is_paragraph s.leaf) (goes_directly place.depth s)) low h)

-- containers begin

-- how deep a place is after a step
abbrev Stepped : State → State × Option LineStart → Type 0
Stepped s (u, None) = Tracks s u
Stepped s (u, Some d) = Tracks s u × (2 ≤ d.depth)

base_long : (s : State) → Base s → 2 ≤ length s.opened
base_long s h = omega (arith, held_long (codes s.opened) h.held, codes_length s.opened)

quote_tracks : (t : List ℕ) (cs : List Cell) (line : Line) (place : LineStart) (s : State) → 2 ≤ place.depth → Base s → Tracks s ((quote_opened t cs line place s).0)
unfolding quote_opened is_inner
quote_tracks t cs line place s low h = quiet_tracks s u (opened_with container.Quote (kind.Quote None) (start_of cs place line) line u) both (opened_tracks container.Quote (kind.Quote None) (start_of cs place line) line u (λ k. absurd cc))
  where
    v : State
    v = closed_to t place.depth s

    u : State
    u = list_left v

    both : Quiet s u
    both = let g : Quiet s v = closed_quiet t place.depth s low h in quiet_on s v u g (list_left_quiet v g.base)

list_tracks : (i : ItemStart) (x : ℕ) (line : Line) (s : State) → Base s → Tracks s (list_started i x line s) × (2 < length (list_started i x line s).opened)
unfolding list_started is_in_list is_inner
list_tracks i x line s h = by (option_map_or (λ (o : Opened). is_list_of i.sort o.container) (innermost s.opened) false) refl
  where
    u : State
    u = opened_with (container.List i.sort) (kind.List i.number) x line (list_left s)

    opens : Tracks s u
    opens = quiet_tracks s (list_left s) u (list_left_quiet s h) (opened_tracks (container.List i.sort) (kind.List i.number) x line (list_left s) (λ k. absurd cc))

    by : (b : Bool) → option_map_or (λ (o : Opened). is_list_of i.sort o.container) (innermost s.opened) false ≡ b → Tracks s (if b then s else u) × (2 < length (if b then s else u).opened)
    by true e = (tracks s s (quiet s s refl refl h), item_list i.sort s.opened h.held e)
    by false e = (opens, opened_longer (container.List i.sort) (kind.List i.number) x line (list_left s) (base_long (list_left s) (list_left_quiet s h).base))

item_tracks : (t : List ℕ) (cs : List Cell) (line : Line) (place : LineStart) (i : ItemStart) (s : State) → 2 ≤ place.depth → Base s → Tracks s ((item_opened t cs line place i s).0)
unfolding item_opened
item_tracks t cs line place i s low h =
    tracks_on s v (opened_with (container.Item i.width) kind.Item (start_of cs place line) line v) (quiet_tracks s u v shut (λ g. (list_tracks i (start_of cs place line) line u g).0))
    (opened_tracks (container.Item i.width) kind.Item (start_of cs place line) line v (λ k. made.1) (made.0).base)
  where
    u : State
    u = closed_to t place.depth s

    shut : Quiet s u
    shut = closed_quiet t place.depth s low h

    v : State
    v = list_started i (start_of cs place line) line u

    made : Tracks u v × (2 < length v.opened)
    made = list_tracks i (start_of cs place line) line u shut.base

begun_at_tracks : (t : List ℕ) (cs : List Cell) (line : Line) (place : LineStart) (s : State) (o : Option ContainerStart) → is_core_start o ≡ true → 2 ≤ place.depth → Base s → Stepped s (begun_at t cs line place s o)
unfolding is_core_start quote_opened item_opened
begun_at_tracks t cs line place s None c low h = tracks s s (quiet s s refl refl h)
begun_at_tracks t cs line place s (Some begins.Quote) c low h = let g : Tracks s ((quote_opened t cs line place s).0) = quote_tracks t cs line place s low h in (g, base_long ((quote_opened t cs line place s).0) g.base)
begun_at_tracks t cs line place s (Some (begins.Item i)) c low h = let g : Tracks s ((item_opened t cs line place i s).0) = item_tracks t cs line place i s low h in (g, base_long ((item_opened t cs line place i s).0) g.base)
begun_at_tracks t cs line place s (Some (begins.Footnote n)) c low h = absurd cc
begun_at_tracks t cs line place s (Some (begins.Definition d)) c low h = absurd cc

once_tracks : (t : List ℕ) (cs : List Cell) (line : Line) (tail : Tail) (place : LineStart) (s : State) → 2 ≤ place.depth → Base s → Stepped s (container_once_in CORE t cs line tail place s)
unfolding container_once_in
once_tracks t cs line tail place s low h = begun_at_tracks t cs line place s (container_in CORE cs tail place.cursor (goes_directly place.depth s)) (container_core cs tail place.cursor (goes_directly place.depth s)) low h

repeat_tracks : (t : List ℕ) (cs : List Cell) (line : Line) (tail : Tail) (n : ℕ) (place : LineStart) (s : State) → 2 ≤ place.depth → Base s
    → Tracks s ((repeated (container_once_in CORE t cs line tail) n place s).0) × (2 ≤ (repeated (container_once_in CORE t cs line tail) n place s).1.depth)
unfolding repeated
repeat_tracks t cs line tail zero place s low h = (tracks s s (quiet s s refl refl h), low)
repeat_tracks t cs line tail (suc n) place s low h = by (container_once_in CORE t cs line tail place s) (once_tracks t cs line tail place s low h) (λ d u k g. repeat_tracks t cs line tail n d u k g)
  where
    more : LineStart → State → State × LineStart
    more = λ d u. repeated (container_once_in CORE t cs line tail) n d u

    by : (r : State × Option LineStart) → Stepped s r → ((d : LineStart) (u : State) → 2 ≤ d.depth → Base u → Tracks u ((more d u).0) × (2 ≤ (more d u).1.depth)) → Tracks s ((going more place r).0) × (2 ≤ (going more place r).1.depth)
    by (u, None) g again = (g, low)
    by (u, Some d) (g, k) again = let a : Tracks u ((more d u).0) × (2 ≤ (more d u).1.depth) = again d u k g.base in (tracks_on s u ((more d u).0) g (a.0), a.1)

leaf_started_tracks : (t : List ℕ) (cs : List Cell) (line : Line) (place : LineStart) (s : State) → 2 ≤ place.depth → Base s → Tracks s (leaf_started_in core_known t cs line place s)
unfolding leaf_started_in
leaf_started_tracks t cs line place s low h = by (containers_opened_in CORE t cs line (tail_of cs) place s) (repeat_tracks t cs line (tail_of cs) (length cs) place s low h)
  where
    by : (r : State × LineStart) → Tracks s (r.0) × (2 ≤ r.1.depth) → Tracks s (started_at_in core_known t cs line (tail_of cs) r)
    by (u, next) (g, k) = tracks_on s u (started_at_in core_known t cs line (tail_of cs) (u, next)) g (leaf_at_tracks t cs line next u k g.base)

turned_tracks : (t : List ℕ) (cs : List Cell) (line : Line) (place : LineStart) (s : State) (u : Turn) → turns_core u s.leaf ≡ true → 2 ≤ place.depth → Base s → Tracks s (turn_taken_in core_known u t cs line place s)
unfolding passed_in turns_core leaf_ended
turned_tracks t cs line place s turn.Closes g low h = tracks s _ (ended_quiet line s s.blocks refl h)
turned_tracks t cs line place s (turn.Takes column) g low h = tracks s _ (code_quiet t cs column line s h)
turned_tracks t cs line place s turn.Passes g low h = leaf_started_tracks t cs line place s low h
turned_tracks t cs line place s (turn.Row x) g low h = absurd cc

pub cells_track : (t : List ℕ) (cs : List Cell) (line : Line) (s : State) → is_core s.leaf ≡ true → 2 ≤ (matched cs s.opened s.quotes).0 → Base s → Tracks s (cells_taken_in core_known t cs line s)
unfolding cells_taken_in touched turn_in
cells_track t cs line s c deep h = by (matched cs s.opened s.quotes) deep
  where
    by : (found : ℕ × Cursor) → 2 ≤ found.0 → Tracks s (taken_at_in core_known t cs line (record { cursor = found.1; depth = found.0 }) (touched line (found.0) s))
    by (depth, cursor) low = quiet_tracks s u (taken_at_in core_known t cs line place u) (quiet s u (touched_codes depth line.end line.number s.quotes s.opened) refl h)
        (turned_tracks t cs line place u _ (turn_of_core t cs line place u c) low)
      where
        place : LineStart
        place = record { cursor = cursor; depth = depth }

        u : State
        u = record s { opened = touched_from depth line.end line.number s.quotes s.opened }
