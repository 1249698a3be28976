-- The nodes of blocks are in place.
use Rattle.std.proofs.Common.{◌≡◌, ℕ, zero, suc, ◌-◌, Bool, true, false, ◌&&◌, if◌then◌else◌, nat_le, List, [], ◌∷◌, ◌++◌, length, map, drop, refl, sym, ◌∙◌, true≢false}
use Rattle.std.specs.Prelude.{slice_range, Option, Some, None}
use Rattle.std.specs.List.{AllByRecursion, fold}
use Rattle.tocmark_event.specs.View as view
use Rattle.tocmark_read_scan.specs.Basic.{plus}
use Rattle.tocmark_read_scan.specs.TableCell.{cell_content}
use Rattle.tocmark_read_scan.specs.Content as content
use Rattle.tocmark_read_scan.specs.declared.syntax.TheConstants.{CORE}
use Rattle.tocmark_read_page.specs.declared.page.Block.{Block}
use Rattle.tocmark_read_page.specs.declared.page.BlockKind.{BlockKind}
use Rattle.tocmark_read_page.specs.declared.page.BlockKind.TheVariants as kind
use Rattle.tocmark_read_page.specs.declared.page.Task.{Task}
use Rattle.tocmark_read_page.specs.declared.piece.Piece.{Piece}
use Rattle.tocmark_read_blocks.specs.Blocks.{BlocksView, blocks_in, page_in}
use Rattle.tocmark_read_spans.specs.declared.definitions.Entry.{Entry}
use Rattle.tocmark_read_spans.specs.declared.role.Leaf.{Leaf}
use Rattle.tocmark_read_spans.specs.declared.role.Leaf.TheVariants as leaf
use Rattle.tocmark_read_spans.specs.declared.role.Span.{Span}
use Rattle.tocmark_read_spans.specs.declared.role.Span.TheVariants as span
use Rattle.tocmark_read_spans.specs.declared.role.Target.{Target}
use Rattle.tocmark_read_inlines.specs.Inlines as inlines
use Rattle.tocmark_read_inlines.specs.declared.write.InlineKind.{InlineKind}
use Rattle.tocmark_read_inlines.specs.declared.write.InlineKind.TheVariants as item
use Rattle.tocmark_read_inlines.specs.declared.write.Node.{Node}
use Rattle.tocmark_reader.specs.Emitted.{NodeView, Container, Given}
use Rattle.tocmark_reader.specs.Formulas.{keeps_blanks}
use Rattle.tocmark_reader.specs.Inlines.{image_of, inline_item, inline_node, leaf_of, link_of, span_tag}
use Rattle.tocmark_reader.specs.Pages.{State, bare_in, block_node, block_step_in, block_taken_in, cell_inlines_in, cell_taken_in, content_line, fence_node_in, is_unwrapped, leaf_inlines_in, lines_nodes, paragraph_taken_in, pieces_of, start_state, taken_as_in, task_nodes, with_block, with_fence_in, with_inlines, with_lines, with_lines_of, with_rule, with_task, wrapped_in}
use Rattle.tocmark_reader.specs.Reading.{collected_from, first_entry, found_under}
use Rattle.tocmark_text_laws.specs.Ranges.{IsInPlace, is_of_block, BlockEventsAreInPlace}
use Rattle.tocmark_text_laws.proofs.Alls.{all_both, all_take, all_weaker}
use Rattle.tocmark_text_laws.proofs.Placed.{Fit, Held, Shut}
use Rattle.tocmark_text_laws.proofs.InPlace.{At, In, in_place, page_shut, lines_in}

abbrev Fine : List ℕ → NodeView → Type 0
Fine t n = is_of_block n.item ≡ true → IsInPlace t (n.start, n.end)

abbrev AllFine : List ℕ → State → Type 0
AllFine t s = AllByRecursion (Fine t) s.nodes

all_drop : {A : Type 0} (Q : A → Type 0) (n : ℕ) (xs : List A) → AllByRecursion Q xs → AllByRecursion Q (drop n xs)
all_drop Q zero xs h = h
all_drop Q (suc n) [] h = tt
all_drop Q (suc n) (x ∷ xs) h = all_drop Q n xs (h.1)

pub some_pieces : (t : List ℕ) (m : ℕ) (ps : List Piece) (first last : ℕ) → AllByRecursion (Held (At t) m) ps → AllByRecursion (Held (At t) m) (pieces_of ps first last)
some_pieces t m ps first last h = by (nat_le first last && nat_le last (length ps))
  where
    by : (x : Bool) → AllByRecursion (Held (At t) m) (if x then slice_range ps first last else [])
    by true = all_take (Held (At t) m) (last - first) (drop first ps) (all_drop (Held (At t) m) first ps h)
    by false = tt

-- inlines are of no block
not_of_block : (texts : List ℕ) (targets : List Target) (k : InlineKind) → is_of_block (inline_item texts targets k) ≡ false
unfolding inline_item span_tag leaf_of link_of image_of
not_of_block texts targets item.Text = refl
not_of_block texts targets (item.Span s) = by s
  where
    by : (s : Span) → is_of_block (Container (span_tag texts targets s)) ≡ false
    by span.Emphasis = refl
    by span.Strong = refl
    by span.Strikethrough = refl
    by (span.Link place) = refl
    by (span.Image place) = refl
    by span.Subscript = refl
    by span.Superscript = refl
not_of_block texts targets (item.Leaf l) = by l
  where
    by : (l : Leaf) → is_of_block (Given (leaf_of texts l)) ≡ false
    by (leaf.Character c) = refl
    by (leaf.Code s) = refl
    by (leaf.Html s) = refl
    by leaf.SoftBreak = refl
    by leaf.HardBreak = refl
    by (leaf.Text s) = refl
    by (leaf.Footnote name) = refl
    by (leaf.InlineMath s) = refl
    by (leaf.DisplayMath s) = refl

inlines_fine : (t texts : List ℕ) (targets : List Target) (ns : List Node) → AllByRecursion (Fine t) (map (inline_node texts targets) ns)
unfolding inline_node
inlines_fine t texts targets [] = tt
inlines_fine t texts targets (n ∷ ns) = (λ e. absurd (true≢false (sym e ∙ not_of_block texts targets n.item)), inlines_fine t texts targets ns)

with_inlines_fine : (t : List ℕ) (found : inlines.State) (s : State) → AllFine t s → AllFine t (with_inlines found s)
with_inlines_fine t found s h = all_both (Fine t) s.nodes (map (inline_node found.texts found.targets) found.nodes) h (inlines_fine t found.texts found.targets found.nodes)

leaf_fine : (t : List ℕ) (find : List ℕ → Option Entry) (ps : List Piece) (depth : ℕ) (s : State) → AllFine t s → AllFine t (leaf_inlines_in CORE t find ps depth s)
unfolding leaf_inlines_in with_lines_of keeps_blanks
leaf_fine t find ps depth s h = with_inlines_fine t (inlines.read_inlines_in CORE (content.content_of t (map content_line ps)) depth find s.inlines) s h

-- nodes whose ranges are in place
fine_all : (t : List ℕ) (ns : List NodeView) → AllByRecursion (In t) ns → AllByRecursion (Fine t) ns
fine_all t ns h = all_weaker (In t) (Fine t) ns (λ n w e. w) h

task_fine : (t : List ℕ) (o : Option Task) (depth : ℕ) → AllByRecursion (Fine t) (task_nodes o depth)
unfolding task_nodes
task_fine t None depth = tt
task_fine t (Some x) depth = (λ e. absurd (true≢false (sym e)), tt)

block_fine : (t : List ℕ) (b : Block) (s : State) → IsInPlace t (b.start, b.end) → AllFine t s → AllFine t (with_block t b s)
unfolding with_block
block_fine t b s p h = all_both (Fine t) (s.nodes ++ block_node t b ∷ []) (task_nodes b.task (plus b.depth 1)) (all_both (Fine t) s.nodes (block_node t b ∷ []) h (λ e. p, tt)) (task_fine t b.task (plus b.depth 1))

bare_fine : (t : List ℕ) (find : List ℕ → Option Entry) (ps : List Piece) (b : Block) (s : State) → AllFine t s → AllFine t (bare_in CORE t find ps b s)
unfolding bare_in with_task
bare_fine t find ps b s h = leaf_fine t find ps b.depth (record s { nodes = s.nodes ++ task_nodes b.task b.depth }) (all_both (Fine t) s.nodes (task_nodes b.task b.depth) h (task_fine t b.task b.depth))

wrapped_fine : (t : List ℕ) (find : List ℕ → Option Entry) (ps : List Piece) (b : Block) (s : State) → IsInPlace t (b.start, b.end) → AllFine t s → AllFine t (wrapped_in CORE t find ps b s)
unfolding wrapped_in
wrapped_fine t find ps b s p h = leaf_fine t find ps (plus b.depth 1) (with_block t b s) (block_fine t b s p h)

lines_fine : (t : List ℕ) (html : Bool) (m : ℕ) (b : Block) (ps : List Piece) (s : State) → IsInPlace t (b.start, b.end) → AllByRecursion (Held (At t) m) ps → AllFine t s → AllFine t (with_lines t html b ps s)
unfolding with_lines
lines_fine t html m b ps s p k h = all_both (Fine t) (s.nodes ++ block_node t b ∷ []) (lines_nodes t html (plus b.depth 1) ps) (all_both (Fine t) s.nodes (block_node t b ∷ []) h (λ e. p, tt)) (fine_all t (lines_nodes t html (plus b.depth 1) ps) (lines_in t html (plus b.depth 1) m ps k))

fence_fine : (t : List ℕ) (from to m : ℕ) (b : Block) (ps : List Piece) (s : State) → IsInPlace t (b.start, b.end) → AllByRecursion (Held (At t) m) ps → AllFine t s → AllFine t (with_fence_in CORE.names t from to b ps s)
unfolding with_fence_in fence_node_in
fence_fine t from to m b ps s p k h =
    all_both (Fine t) (s.nodes ++ fence_node_in CORE.names t from to b ∷ []) (lines_nodes t false (plus b.depth 1) ps) (all_both (Fine t) s.nodes (fence_node_in CORE.names t from to b ∷ []) h (λ e. p, tt)) (fine_all t (lines_nodes t false (plus b.depth 1) ps) (lines_in t false (plus b.depth 1) m ps k))

rule_fine : (t : List ℕ) (b : Block) (s : State) → IsInPlace t (b.start, b.end) → AllFine t s → AllFine t (with_rule b s)
unfolding with_rule
rule_fine t b s p h = all_both (Fine t) s.nodes (record { depth = b.depth; item = Given view.Rule; start = b.start; end = b.end } ∷ []) h (λ e. p, tt)

cell_fine : (t : List ℕ) (find : List ℕ → Option Entry) (b : Block) (s : State) → IsInPlace t (b.start, b.end) → AllFine t s → AllFine t (cell_taken_in CORE t find b s)
unfolding cell_taken_in cell_inlines_in
cell_fine t find b s p h = with_inlines_fine t (inlines.read_cell_in CORE (cell_content t b.start b.end) (plus b.depth 1) find (with_block t b s).inlines) (with_block t b s) (block_fine t b s p h)

paragraph_fine : (t : List ℕ) (find : List ℕ → Option Entry) (ps : List Piece) (u : Bool) (b : Block) (s : State) → IsInPlace t (b.start, b.end) → AllFine t s → AllFine t (paragraph_taken_in CORE t find ps u b s)
unfolding paragraph_taken_in
paragraph_fine t find ps u b s p h = by (nat_le b.last b.first) u
  where
    by : (x y : Bool) → AllFine t (if x then s else (if y then bare_in CORE t find ps b s else wrapped_in CORE t find ps b s))
    by true y = h
    by false true = bare_fine t find ps b s h
    by false false = wrapped_fine t find ps b s p h

taken_fine : (t : List ℕ) (find : List ℕ → Option Entry) (m : ℕ) (ps : List Piece) (u : Bool) (b : Block) (s : State) (k : BlockKind) → IsInPlace t (b.start, b.end) → AllByRecursion (Held (At t) m) ps → AllFine t s → AllFine t (taken_as_in CORE k t find ps u b s)
taken_fine t find m ps u b s kind.Paragraph p q h = paragraph_fine t find ps u b s p h
taken_fine t find m ps u b s (kind.Heading level braces) p q h = wrapped_fine t find ps b s p h
taken_fine t find m ps u b s (kind.Quote k) p q h = block_fine t b s p h
taken_fine t find m ps u b s (kind.List first) p q h = block_fine t b s p h
taken_fine t find m ps u b s kind.Item p q h = block_fine t b s p h
taken_fine t find m ps u b s kind.Indented p q h = lines_fine t false m b ps s p q h
taken_fine t find m ps u b s (kind.Fenced from to) p q h = fence_fine t from to m b ps s p q h
taken_fine t find m ps u b s kind.Html p q h = lines_fine t true m b ps s p q h
taken_fine t find m ps u b s kind.Rule p q h = rule_fine t b s p h
taken_fine t find m ps u b s (kind.Metadata k) p q h = lines_fine t false m b ps s p q h
taken_fine t find m ps u b s (kind.Footnote from to) p q h = block_fine t b s p h
taken_fine t find m ps u b s (kind.Table from to) p q h = block_fine t b s p h
taken_fine t find m ps u b s kind.TableHead p q h = block_fine t b s p h
taken_fine t find m ps u b s kind.TableRow p q h = block_fine t b s p h
taken_fine t find m ps u b s kind.TableCell p q h = cell_fine t find b s p h
taken_fine t find m ps u b s kind.DefinitionList p q h = block_fine t b s p h
taken_fine t find m ps u b s kind.DefinitionListTitle p q h = wrapped_fine t find ps b s p h
taken_fine t find m ps u b s kind.DefinitionListDefinition p q h = block_fine t b s p h

step_fine : (t : List ℕ) (find : List ℕ → Option Entry) (m : ℕ) (all : List Block) (ps : List Piece) (b : Block) (s : State) → IsInPlace t (b.start, b.end) → AllByRecursion (Held (At t) m) ps → AllFine t s → AllFine t (block_step_in CORE t find all ps s b)
unfolding block_taken_in
step_fine t find m all ps b s p q h = taken_fine t find m (pieces_of ps b.first b.last) (is_unwrapped all b) b s b.kind p (some_pieces t m ps b.first b.last q) h

steps_fine : (t : List ℕ) (find : List ℕ → Option Entry) (m : ℕ) (all : List Block) (ps : List Piece) (bs : List Block) (s : State) → AllByRecursion (Fit (At t)) bs → AllByRecursion (Held (At t) m) ps → AllFine t s → AllFine t (fold (block_step_in CORE t find all ps) s bs)
steps_fine t find m all ps [] s f q h = h
steps_fine t find m all ps (b ∷ bs) s f q h = steps_fine t find m all ps bs (block_step_in CORE t find all ps s b) (f.1) q (step_fine t find m all ps b s (in_place t b.start b.end ((f.0).begins) ((f.0).stops) ((f.0).ordered)) q h)

pub events_in_place : BlockEventsAreInPlace
unfolding found_under blocks_in
events_in_place t u small = by (page_shut t u small)
  where
    found : BlocksView
    found = blocks_in CORE t

    texts : List ℕ
    texts = (collected_from CORE t found).texts

    find : List ℕ → Option Entry
    find = first_entry CORE.undefined_notes (collected_from CORE t found).keys (collected_from CORE t found).entries

    by : (m : ℕ) × Shut (At t) m (page_in CORE t) → AllFine t (fold (block_step_in CORE t find found.blocks found.pieces) (start_state texts) found.blocks)
    by (m, h) = steps_fine t find m found.blocks found.pieces found.blocks (start_state texts) (h.0) (h.2) tt
