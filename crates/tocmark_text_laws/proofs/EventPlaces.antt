-- The nodes of blocks and of inlines are in place.
use Rattle.std.proofs.Common.{◌≡◌, ℕ, ◌+◌, ◌-◌, ◌*◌, ◌^◌, ◌<◌, Bool, true, false, if◌then◌else◌, nat_le, List, [], ◌∷◌, ◌++◌, length, map, take, refl, sym, arith, true≢false}
use Rattle.std.specs.Prelude.{Option, Some, None}
use Rattle.std.specs.List.{AllByRecursion, fold}
use Rattle.std.specs.Str.{IsUtf8}
use Rattle.tocmark_event.specs.View as view
use Rattle.tocmark_read_scan.specs.Basic.{plus}
use Rattle.tocmark_read_scan.specs.declared.syntax.TheConstants.{CORE}
use Rattle.tocmark_read_page.specs.declared.page.Block.{Block}
use Rattle.tocmark_read_page.specs.declared.page.BlockKind.{BlockKind}
use Rattle.tocmark_read_page.specs.declared.page.BlockKind.TheVariants as kind
use Rattle.tocmark_read_page.specs.declared.page.Task.{Task}
use Rattle.tocmark_read_page.specs.declared.piece.Piece.{Piece}
use Rattle.tocmark_read_blocks.specs.Blocks.{BlocksView, blocks_in, page_in}
use Rattle.tocmark_read_spans.specs.declared.definitions.Entry.{Entry}
use Rattle.tocmark_read_spans.specs.declared.role.Target.{Target}
use Rattle.tocmark_read_inlines.specs.Inlines as inlines
use Rattle.tocmark_read_inlines.specs.Inlines.{read_inlines_in}
use Rattle.tocmark_read_inlines.specs.declared.write.Node.{Node}
use Rattle.tocmark_reader.specs.Emitted.{NodeView, Given}
use Rattle.tocmark_reader.specs.Formulas.{keeps_blanks}
use Rattle.tocmark_reader.specs.Inlines.{inline_node}
use Rattle.tocmark_reader.specs.Pages.{State, bare_in, block_node, block_step_in, block_taken_in, fence_node_in, is_unwrapped, leaf_inlines_in, lines_nodes, paragraph_taken_in, pieces_of, start_state, taken_as_in, task_nodes, with_block, with_fence_in, with_lines, with_lines_of, with_rule, with_task, wrapped_in}
use Rattle.tocmark_reader.specs.Reading.{collected_from, first_entry, found_under}
use Rattle.tocmark_text_laws.specs.Housed.{is_known, AreHoused}
use Rattle.tocmark_text_laws.specs.InlinePlaces.{EventsAreInPlace, ShortEventsAreInPlace}
use Rattle.tocmark_text_laws.specs.Proper.{IsCounted}
use Rattle.tocmark_text_laws.specs.Ranges.{IsInPlace}
use Rattle.tocmark_text_laws.specs.SourceOrder.{leaf_of}
use Rattle.tocmark_text_laws.proofs.Alls.{all_both}
use Rattle.tocmark_text_laws.proofs.BlockNodes.{some_pieces}
use Rattle.tocmark_text_laws.proofs.HouseWalk.{blocks_housed}
use Rattle.tocmark_text_laws.proofs.InlinePlaces.{Place, core_placed}
use Rattle.tocmark_text_laws.proofs.InPlace.{At, In, in_place, lines_in, page_shut}
use Rattle.tocmark_text_laws.proofs.Placed.{Fit, Held, Shut}
use Rattle.tocmark_text_laws.proofs.ShortTexts.{short_counted}

-- the nodes so far are in place, and no inline waits
record AllIn (t : List ℕ) (s : State) : Type 0 where
  nodes : AllByRecursion (In t) s.nodes
  none : s.inlines.nodes ≡ []

-- what is known of a block, whose lines are among these
record Known (t : List ℕ) (ps : List Piece) (b : Block) : Type 0 where
  place : IsInPlace t (b.start, b.end)
  plain : b.task ≡ None
  known : is_known b.kind ≡ true
  short : length (leaf_of t b.first b.last).bytes < 2 ^ 64 - 1

more_in : (t : List ℕ) (ms ns : List NodeView) → AllByRecursion (In t) ms → AllByRecursion (In t) ns → AllByRecursion (In t) (ms ++ ns)
more_in t ms ns h k = all_both (In t) ms ns h k

inlines_in : (t texts : List ℕ) (targets : List Target) (ns : List Node) → AllByRecursion (Place t) ns → AllByRecursion (In t) (map (inline_node texts targets) ns)
unfolding inline_node
inlines_in t texts targets [] h = tt
inlines_in t texts targets (n ∷ ns) h = (h.0, inlines_in t texts targets ns (h.1))

-- the inlines of a leaf
leaf_in : (t : List ℕ) (find : List ℕ → Option Entry) (first last depth : ℕ) (s : State) → IsUtf8 t → 4 * length t + 1 < 2 ^ 64 → length (leaf_of t first last).bytes < 2 ^ 64 - 1 → AllIn t s → AllIn t (leaf_inlines_in CORE t find (pieces_of (blocks_in CORE t).pieces first last) depth s)
unfolding leaf_inlines_in with_lines_of keeps_blanks
leaf_in t find first last depth s u small short h = record {
  nodes = more_in t s.nodes (map (inline_node found.texts found.targets) found.nodes) h.nodes (inlines_in t found.texts found.targets found.nodes (core_placed t first last depth find s.inlines u small short h.none));
  none = refl;
}
  where
    found : inlines.State
    found = read_inlines_in CORE (leaf_of t first last) depth find s.inlines

no_task : (t : List ℕ) (o : Option Task) (depth : ℕ) → o ≡ None → AllByRecursion (In t) (task_nodes o depth)
unfolding task_nodes
no_task t None depth e = tt
no_task t (Some x) depth e = absurd cc

block_in : (t : List ℕ) (ps : List Piece) (b : Block) (s : State) → Known t ps b → AllIn t s → AllIn t (with_block t b s)
unfolding with_block
block_in t ps b s k h = record { nodes = more_in t (s.nodes ++ block_node t b ∷ []) (task_nodes b.task (plus b.depth 1)) (more_in t s.nodes (block_node t b ∷ []) h.nodes (k.place, tt)) (no_task t b.task (plus b.depth 1) k.plain); none = h.none }

bare_in_place : (t : List ℕ) (find : List ℕ → Option Entry) (b : Block) (s : State) → IsUtf8 t → 4 * length t + 1 < 2 ^ 64 → Known t (blocks_in CORE t).pieces b → AllIn t s → AllIn t (bare_in CORE t find (pieces_of (blocks_in CORE t).pieces b.first b.last) b s)
unfolding bare_in with_task
bare_in_place t find b s u small k h = leaf_in t find b.first b.last b.depth (record s { nodes = s.nodes ++ task_nodes b.task b.depth }) u small k.short (record { nodes = more_in t s.nodes (task_nodes b.task b.depth) h.nodes (no_task t b.task b.depth k.plain); none = h.none })

wrapped_in_place : (t : List ℕ) (find : List ℕ → Option Entry) (b : Block) (s : State) → IsUtf8 t → 4 * length t + 1 < 2 ^ 64 → Known t (blocks_in CORE t).pieces b → AllIn t s → AllIn t (wrapped_in CORE t find (pieces_of (blocks_in CORE t).pieces b.first b.last) b s)
unfolding wrapped_in
wrapped_in_place t find b s u small k h = leaf_in t find b.first b.last (plus b.depth 1) (with_block t b s) u small k.short (block_in t (blocks_in CORE t).pieces b s k h)

paragraph_in_place : (t : List ℕ) (find : List ℕ → Option Entry) (unwrapped : Bool) (b : Block) (s : State) → IsUtf8 t → 4 * length t + 1 < 2 ^ 64 → Known t (blocks_in CORE t).pieces b → AllIn t s → AllIn t (paragraph_taken_in CORE t find (pieces_of (blocks_in CORE t).pieces b.first b.last) unwrapped b s)
unfolding paragraph_taken_in
paragraph_in_place t find unwrapped b s u small k h = by (nat_le b.last b.first) unwrapped
  where
    ps : List Piece
    ps = pieces_of (blocks_in CORE t).pieces b.first b.last

    by : (x y : Bool) → AllIn t (if x then s else (if y then bare_in CORE t find ps b s else wrapped_in CORE t find ps b s))
    by true y = h
    by false true = bare_in_place t find b s u small k h
    by false false = wrapped_in_place t find b s u small k h

code_in_place : (t : List ℕ) (html : Bool) (m : ℕ) (all : List Piece) (b : Block) (ps : List Piece) (s : State) → Known t all b → AllByRecursion (Held (At t) m) ps → AllIn t s → AllIn t (with_lines t html b ps s)
unfolding with_lines
code_in_place t html m all b ps s k q h = record { nodes = more_in t (s.nodes ++ block_node t b ∷ []) (lines_nodes t html (plus b.depth 1) ps) (more_in t s.nodes (block_node t b ∷ []) h.nodes (k.place, tt)) (lines_in t html (plus b.depth 1) m ps q); none = h.none }

fence_in_place : (t : List ℕ) (from to m : ℕ) (all : List Piece) (b : Block) (ps : List Piece) (s : State) → Known t all b → AllByRecursion (Held (At t) m) ps → AllIn t s → AllIn t (with_fence_in CORE.names t from to b ps s)
unfolding with_fence_in fence_node_in
fence_in_place t from to m all b ps s k q h = record { nodes = more_in t (s.nodes ++ fence_node_in CORE.names t from to b ∷ []) (lines_nodes t false (plus b.depth 1) ps) (more_in t s.nodes (fence_node_in CORE.names t from to b ∷ []) h.nodes (k.place, tt)) (lines_in t false (plus b.depth 1) m ps q); none = h.none }

rule_in_place : (t : List ℕ) (all : List Piece) (b : Block) (s : State) → Known t all b → AllIn t s → AllIn t (with_rule b s)
unfolding with_rule
rule_in_place t all b s k h = record { nodes = more_in t s.nodes (record { depth = b.depth; item = Given view.Rule; start = b.start; end = b.end } ∷ []) h.nodes (k.place, tt); none = h.none }

taken_in_place : (t : List ℕ) (find : List ℕ → Option Entry) (m : ℕ) (unwrapped : Bool) (b : Block) (s : State) (k : BlockKind) → is_known k ≡ true → IsUtf8 t → 4 * length t + 1 < 2 ^ 64 → Known t (blocks_in CORE t).pieces b → AllByRecursion (Held (At t) m) (pieces_of (blocks_in CORE t).pieces b.first b.last) → AllIn t s
    → AllIn t (taken_as_in CORE k t find (pieces_of (blocks_in CORE t).pieces b.first b.last) unwrapped b s)
taken_in_place t find m w b s kind.Paragraph e u small k q h = paragraph_in_place t find w b s u small k h
taken_in_place t find m w b s (kind.Heading level braces) e u small k q h = wrapped_in_place t find b s u small k h
taken_in_place t find m w b s (kind.Quote x) e u small k q h = block_in t (blocks_in CORE t).pieces b s k h
taken_in_place t find m w b s (kind.List first) e u small k q h = block_in t (blocks_in CORE t).pieces b s k h
taken_in_place t find m w b s kind.Item e u small k q h = block_in t (blocks_in CORE t).pieces b s k h
taken_in_place t find m w b s kind.Indented e u small k q h = code_in_place t false m (blocks_in CORE t).pieces b (pieces_of (blocks_in CORE t).pieces b.first b.last) s k q h
taken_in_place t find m w b s (kind.Fenced from to) e u small k q h = fence_in_place t from to m (blocks_in CORE t).pieces b (pieces_of (blocks_in CORE t).pieces b.first b.last) s k q h
taken_in_place t find m w b s kind.Html e u small k q h = code_in_place t true m (blocks_in CORE t).pieces b (pieces_of (blocks_in CORE t).pieces b.first b.last) s k q h
taken_in_place t find m w b s kind.Rule e u small k q h = rule_in_place t (blocks_in CORE t).pieces b s k h
taken_in_place t find m w b s (kind.Metadata x) e u small k q h = absurd (true≢false (sym e))
taken_in_place t find m w b s (kind.Footnote from to) e u small k q h = absurd (true≢false (sym e))
taken_in_place t find m w b s (kind.Table from to) e u small k q h = absurd (true≢false (sym e))
taken_in_place t find m w b s kind.TableHead e u small k q h = absurd (true≢false (sym e))
taken_in_place t find m w b s kind.TableRow e u small k q h = absurd (true≢false (sym e))
taken_in_place t find m w b s kind.TableCell e u small k q h = absurd (true≢false (sym e))
taken_in_place t find m w b s kind.DefinitionList e u small k q h = absurd (true≢false (sym e))
taken_in_place t find m w b s kind.DefinitionListTitle e u small k q h = absurd (true≢false (sym e))
taken_in_place t find m w b s kind.DefinitionListDefinition e u small k q h = absurd (true≢false (sym e))

step_in_place : (t : List ℕ) (find : List ℕ → Option Entry) (m : ℕ) (all : List Block) (b : Block) (s : State) → IsUtf8 t → 4 * length t + 1 < 2 ^ 64 → Known t (blocks_in CORE t).pieces b → AllByRecursion (Held (At t) m) (blocks_in CORE t).pieces → AllIn t s → AllIn t (block_step_in CORE t find all (blocks_in CORE t).pieces s b)
unfolding block_taken_in
step_in_place t find m all b s u small k q h = taken_in_place t find m (is_unwrapped all b) b s b.kind k.known u small k (some_pieces t m (blocks_in CORE t).pieces b.first b.last q) h

steps_in_place : (t : List ℕ) (find : List ℕ → Option Entry) (m : ℕ) (all bs : List Block) (s : State) → IsUtf8 t → 4 * length t + 1 < 2 ^ 64 → AllByRecursion (Known t (blocks_in CORE t).pieces) bs → AllByRecursion (Held (At t) m) (blocks_in CORE t).pieces → AllIn t s → AllIn t (fold (block_step_in CORE t find all (blocks_in CORE t).pieces) s bs)
steps_in_place t find m all [] s u small k q h = h
steps_in_place t find m all (b ∷ bs) s u small k q h = steps_in_place t find m all bs (block_step_in CORE t find all (blocks_in CORE t).pieces s b) u small (k.1) q (step_in_place t find m all b s u small (k.0) q h)

-- what is known of all blocks
all_known : (t : List ℕ) (before : List BlockKind) (bs : List Block) → AreHoused before bs → AllByRecursion (Fit (At t)) bs → AllByRecursion (IsCounted t (blocks_in CORE t).pieces) bs → AllByRecursion (Known t (blocks_in CORE t).pieces) bs
all_known t before [] h f c = tt
all_known t before (b ∷ bs) h f c = (
  record { place = in_place t b.start b.end ((f.0).begins) ((f.0).stops) ((f.0).ordered); plain = (f.0).plain; known = (h.0).known; short = omega (arith, c.0) },
  all_known t (take b.depth before ++ b.kind ∷ []) bs (h.1) (f.1) (c.1),
)

pub all_in_place : EventsAreInPlace
unfolding found_under blocks_in
all_in_place t u small counted = by (page_shut t u small)
  where
    found : BlocksView
    found = blocks_in CORE t

    texts : List ℕ
    texts = (collected_from CORE t found).texts

    find : List ℕ → Option Entry
    find = first_entry CORE.undefined_notes (collected_from CORE t found).keys (collected_from CORE t found).entries

    by : (m : ℕ) × Shut (At t) m (page_in CORE t) → AllByRecursion (In t) (fold (block_step_in CORE t find found.blocks found.pieces) (start_state texts) found.blocks).nodes
    by (m, h) = (steps_in_place t find m found.blocks found.blocks (start_state texts) u small (all_known t [] found.blocks (blocks_housed t) (h.0) counted) (h.2) (record { nodes = tt; none = refl })).nodes

pub short_in_place : ShortEventsAreInPlace
short_in_place t u short = all_in_place t u (omega arith) (short_counted t short)
