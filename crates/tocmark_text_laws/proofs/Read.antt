-- The events of a text after an empty line are its own, one place further, if its blocks are of CommonMark's kinds.
use Rattle.std.proofs.Common.{◌≡◌, ℕ, suc, ◌+◌, ◌^◌, ◌<◌, Bool, true, false, if◌then◌else◌, nat_le, List, [], ◌∷◌, ◌++◌, length, map, pred, refl, ap, sym, ◌∙◌, true≢false}
use Rattle.std.specs.Prelude.{Option, Some, None}
use Rattle.std.specs.Option.{option_map}
use Rattle.std.specs.List.{AllByRecursion, fold}
use Rattle.std.proofs.lemmas.List.{map-append}
use Rattle.tocmark_event.specs.View as view
use Rattle.tocmark_read_scan.specs.Basic.{plus, bytes_between}
use Rattle.tocmark_read_scan.specs.declared.syntax.TheConstants.{CORE}
use Rattle.tocmark_read_page.specs.declared.piece.Piece.{Piece}
use Rattle.tocmark_read_page.specs.declared.page.Block.{Block}
use Rattle.tocmark_read_page.specs.declared.page.BlockKind.{BlockKind}
use Rattle.tocmark_read_page.specs.declared.page.BlockKind.TheVariants as kind
use Rattle.tocmark_read_page.specs.declared.page.Task.{Task}
use Rattle.tocmark_read_blocks.specs.Blocks.{BlocksView, blocks_in}
use Rattle.tocmark_read_spans.specs.declared.definitions.Entry.{Entry}
use Rattle.tocmark_reader.specs.Emitted.{ItemView, NodeView, Container, Given, emitted}
use Rattle.tocmark_reader.specs.Words.{info_text_in}
use Rattle.tocmark_reader.specs.Pages.{State, pieces_of, block_tag, block_node, is_unwrapped, task_nodes, with_block, with_task, bare_in, with_lines, lines_nodes, fence_node_in, with_fence_in, with_rule, wrapped_in, paragraph_taken_in, taken_as_in, block_taken_in, block_step_in, start_state, assembled_in}
use Rattle.tocmark_reader.specs.Reading.{collected_from, first_entry, found_under, reading_of, core_reading}
use Rattle.tocmark_read_inlines.specs.Inlines as inlines
use Rattle.tocmark_read_spans.specs.Definitions as defs
use Rattle.tocmark_text_laws.specs.Further.{piece_on, kind_on, block_on, task_on, view_on}
use Rattle.tocmark_text_laws.proofs.LinesFurther.{between_on}
use Rattle.tocmark_text_laws.proofs.Events.{plain, stay, event_by, same_events, same_range, box_range, same_node}
use Rattle.tocmark_text_laws.proofs.Assembled.{Alike, leaf_inlines_say, lines_say, pieces_on, same_unwrapped}
use Rattle.tocmark_text_laws.proofs.Front.{front}

-- kinds of blocks that CommonMark has
unfoldable pub is_core_kind : BlockKind → Bool
is_core_kind (kind.Quote k) = true
is_core_kind (kind.List first) = true
is_core_kind kind.Item = true
is_core_kind kind.Paragraph = true
is_core_kind (kind.Heading level None) = true
is_core_kind (kind.Heading level (Some b)) = false
is_core_kind kind.Indented = true
is_core_kind (kind.Fenced from to) = true
is_core_kind kind.Html = true
is_core_kind kind.Rule = true
is_core_kind (kind.Metadata k) = false
is_core_kind (kind.Footnote from to) = false
is_core_kind (kind.Table from to) = false
is_core_kind kind.TableHead = false
is_core_kind kind.TableRow = false
is_core_kind kind.TableCell = false
is_core_kind kind.DefinitionList = false
is_core_kind kind.DefinitionListTitle = false
is_core_kind kind.DefinitionListDefinition = false

abbrev pub CoreKinds : List Block → Type 0
CoreKinds bs = AllByRecursion (λ (b : Block). is_core_kind b.kind ≡ true) bs

add : (t : List ℕ) (c : ℕ) (s' s : State) (xs' xs : List NodeView) → Alike t c s' s → map (plain pred (c ∷ t)) xs' ≡ map (plain stay t) xs → Alike t c (record s' { nodes = s'.nodes ++ xs' }) (record s { nodes = s.nodes ++ xs })
add t c s' s xs' xs a h = record {
  nodes = map-append (plain pred (c ∷ t)) s'.nodes xs' ∙ ap (λ ys. ys ++ map (plain pred (c ∷ t)) xs') a.nodes ∙ ap (λ ys. map (plain stay t) s.nodes ++ ys) h ∙ sym (map-append (plain stay t) s.nodes xs);
  inlines = a.inlines;
  none = a.none;
}

task_says : (t : List ℕ) (c : ℕ) (o : Option Task) (depth : ℕ) → length t + 3 < 2 ^ 64 → map (plain pred (c ∷ t)) (task_nodes (option_map task_on o) depth) ≡ map (plain stay t) (task_nodes o depth)
unfolding task_nodes
task_says t c None depth short = refl
task_says t c (Some x) depth short = ap (λ n. n ∷ []) (same_node t c depth (Given (view.TaskListMarker x.done)) (Given (view.TaskListMarker x.done)) (suc x.start) (plus (suc x.start) 3) x.start (plus x.start 3) refl (box_range t c x.start short))

same_tag : (t : List ℕ) (c : ℕ) (k : BlockKind) → is_core_kind k ≡ true → block_tag (c ∷ t) (kind_on k) ≡ block_tag t k
unfolding block_tag is_core_kind
same_tag t c (kind.Quote k) h = refl
same_tag t c (kind.List first) h = refl
same_tag t c kind.Item h = refl
same_tag t c kind.Paragraph h = refl
same_tag t c (kind.Heading level None) h = refl
same_tag t c (kind.Heading level (Some b)) h = absurd (true≢false (sym h))
same_tag t c kind.Indented h = refl
same_tag t c (kind.Fenced from to) h = rw (between_on t c from to) refl
same_tag t c kind.Html h = refl
same_tag t c kind.Rule h = refl
same_tag t c (kind.Metadata k) h = absurd (true≢false (sym h))
same_tag t c (kind.Footnote from to) h = absurd (true≢false (sym h))
same_tag t c (kind.Table from to) h = absurd (true≢false (sym h))
same_tag t c kind.TableHead h = absurd (true≢false (sym h))
same_tag t c kind.TableRow h = absurd (true≢false (sym h))
same_tag t c kind.TableCell h = absurd (true≢false (sym h))
same_tag t c kind.DefinitionList h = absurd (true≢false (sym h))
same_tag t c kind.DefinitionListTitle h = absurd (true≢false (sym h))
same_tag t c kind.DefinitionListDefinition h = absurd (true≢false (sym h))

node_says : (t : List ℕ) (c : ℕ) (b : Block) → is_core_kind b.kind ≡ true → map (plain pred (c ∷ t)) (block_node (c ∷ t) (block_on b) ∷ []) ≡ map (plain stay t) (block_node t b ∷ [])
node_says t c b h = ap (λ n. n ∷ []) (same_node t c b.depth (Container (block_tag (c ∷ t) (kind_on b.kind))) (Container (block_tag t b.kind)) (suc b.start) (suc b.end) b.start b.end (ap (λ g. Container g) (same_tag t c b.kind h)) (same_range t c b.start b.end))

with_block_says : (t : List ℕ) (c : ℕ) (b : Block) (s' s : State) → length t + 3 < 2 ^ 64 → is_core_kind b.kind ≡ true → Alike t c s' s → Alike t c (with_block (c ∷ t) (block_on b) s') (with_block t b s)
unfolding with_block
with_block_says t c b s' s short h a =
    add t c (record s' { nodes = s'.nodes ++ block_node (c ∷ t) (block_on b) ∷ [] }) (record s { nodes = s.nodes ++ block_node t b ∷ [] }) (task_nodes (option_map task_on b.task) (plus b.depth 1)) (task_nodes b.task (plus b.depth 1))
    (add t c s' s (block_node (c ∷ t) (block_on b) ∷ []) (block_node t b ∷ []) a (node_says t c b h)) (task_says t c b.task (plus b.depth 1) short)

with_task_says : (t : List ℕ) (c : ℕ) (b : Block) (s' s : State) → length t + 3 < 2 ^ 64 → Alike t c s' s → Alike t c (with_task (block_on b) s') (with_task b s)
unfolding with_task
with_task_says t c b s' s short a = add t c s' s (task_nodes (option_map task_on b.task) b.depth) (task_nodes b.task b.depth) a (task_says t c b.task b.depth short)

with_lines_says : (t : List ℕ) (c : ℕ) (html : Bool) (b : Block) (ps : List Piece) (s' s : State) → is_core_kind b.kind ≡ true → Alike t c s' s → Alike t c (with_lines (c ∷ t) html (block_on b) (map piece_on ps) s') (with_lines t html b ps s)
unfolding with_lines
with_lines_says t c html b ps s' s h a =
    add t c (record s' { nodes = s'.nodes ++ block_node (c ∷ t) (block_on b) ∷ [] }) (record s { nodes = s.nodes ++ block_node t b ∷ [] }) (lines_nodes (c ∷ t) html (plus b.depth 1) (map piece_on ps)) (lines_nodes t html (plus b.depth 1) ps)
    (add t c s' s (block_node (c ∷ t) (block_on b) ∷ []) (block_node t b ∷ []) a (node_says t c b h)) (lines_say t c html (plus b.depth 1) ps)

fence_says : (t : List ℕ) (c from to : ℕ) (b : Block) (ps : List Piece) (s' s : State) → Alike t c s' s → Alike t c (with_fence_in CORE.names (c ∷ t) (suc from) (suc to) (block_on b) (map piece_on ps) s') (with_fence_in CORE.names t from to b ps s)
unfolding with_fence_in fence_node_in
fence_says t c from to b ps s' s a =
    add t c (record s' { nodes = s'.nodes ++ fence_node_in CORE.names (c ∷ t) (suc from) (suc to) (block_on b) ∷ [] }) (record s { nodes = s.nodes ++ fence_node_in CORE.names t from to b ∷ [] }) (lines_nodes (c ∷ t) false (plus b.depth 1) (map piece_on ps)) (lines_nodes t false (plus b.depth 1) ps)
    (add t c s' s (fence_node_in CORE.names (c ∷ t) (suc from) (suc to) (block_on b) ∷ []) (fence_node_in CORE.names t from to b ∷ []) a node) (lines_say t c false (plus b.depth 1) ps)
  where
    item : List ℕ → ItemView
    item info = Container (view.CodeBlock (view.Fenced (info_text_in CORE.names info)))

    node : map (plain pred (c ∷ t)) (fence_node_in CORE.names (c ∷ t) (suc from) (suc to) (block_on b) ∷ []) ≡ map (plain stay t) (fence_node_in CORE.names t from to b ∷ [])
    node = ap (λ n. n ∷ []) (same_node t c b.depth (item (bytes_between (c ∷ t) (suc from) (suc to))) (item (bytes_between t from to)) (suc b.start) (suc b.end) b.start b.end (ap item (between_on t c from to)) (same_range t c b.start b.end))

rule_says : (t : List ℕ) (c : ℕ) (b : Block) (s' s : State) → Alike t c s' s → Alike t c (with_rule (block_on b) s') (with_rule b s)
unfolding with_rule
rule_says t c b s' s a = add t c s' s (record { depth = b.depth; item = Given view.Rule; start = suc b.start; end = suc b.end } ∷ []) (record { depth = b.depth; item = Given view.Rule; start = b.start; end = b.end } ∷ []) a (ap (λ n. n ∷ []) (same_node t c b.depth (Given view.Rule) (Given view.Rule) (suc b.start) (suc b.end) b.start b.end refl (same_range t c b.start b.end)))

wrapped_says : (t : List ℕ) (c : ℕ) (find : List ℕ → Option Entry) (ps : List Piece) (b : Block) (s' s : State) → length t + 3 < 2 ^ 64 → is_core_kind b.kind ≡ true → Alike t c s' s
    → Alike t c (wrapped_in CORE (c ∷ t) find (map piece_on ps) (block_on b) s') (wrapped_in CORE t find ps b s)
unfolding wrapped_in
wrapped_says t c find ps b s' s short h a = leaf_inlines_say t c find ps (plus b.depth 1) (with_block (c ∷ t) (block_on b) s') (with_block t b s) short (with_block_says t c b s' s short h a)

paragraph_says : (t : List ℕ) (c : ℕ) (find : List ℕ → Option Entry) (ps : List Piece) (u : Bool) (b : Block) (s' s : State) → length t + 3 < 2 ^ 64 → is_core_kind b.kind ≡ true → Alike t c s' s
    → Alike t c (paragraph_taken_in CORE (c ∷ t) find (map piece_on ps) u (block_on b) s') (paragraph_taken_in CORE t find ps u b s)
unfolding paragraph_taken_in bare_in
paragraph_says t c find ps u b s' s short h a = by (nat_le b.last b.first) u
  where
    by : (x y : Bool) → Alike t c (if x then s' else (if y then bare_in CORE (c ∷ t) find (map piece_on ps) (block_on b) s' else wrapped_in CORE (c ∷ t) find (map piece_on ps) (block_on b) s')) (if x then s else (if y then bare_in CORE t find ps b s else wrapped_in CORE t find ps b s))
    by true y = a
    by false true = leaf_inlines_say t c find ps b.depth (with_task (block_on b) s') (with_task b s) short (with_task_says t c b s' s short a)
    by false false = wrapped_says t c find ps b s' s short h a

taken_says : (t : List ℕ) (c : ℕ) (find : List ℕ → Option Entry) (ps : List Piece) (u : Bool) (b : Block) (s' s : State) (k : BlockKind) → length t + 3 < 2 ^ 64 → is_core_kind b.kind ≡ true → is_core_kind k ≡ true → Alike t c s' s
    → Alike t c (taken_as_in CORE (kind_on k) (c ∷ t) find (map piece_on ps) u (block_on b) s') (taken_as_in CORE k t find ps u b s)
unfolding is_core_kind
taken_says t c find ps u b s' s (kind.Quote k) short h e a = with_block_says t c b s' s short h a
taken_says t c find ps u b s' s (kind.List first) short h e a = with_block_says t c b s' s short h a
taken_says t c find ps u b s' s kind.Item short h e a = with_block_says t c b s' s short h a
taken_says t c find ps u b s' s kind.Paragraph short h e a = paragraph_says t c find ps u b s' s short h a
taken_says t c find ps u b s' s (kind.Heading level braces) short h e a = wrapped_says t c find ps b s' s short h a
taken_says t c find ps u b s' s kind.Indented short h e a = with_lines_says t c false b ps s' s h a
taken_says t c find ps u b s' s (kind.Fenced from to) short h e a = fence_says t c from to b ps s' s a
taken_says t c find ps u b s' s kind.Html short h e a = with_lines_says t c true b ps s' s h a
taken_says t c find ps u b s' s kind.Rule short h e a = rule_says t c b s' s a
taken_says t c find ps u b s' s (kind.Metadata k) short h e a = absurd (true≢false (sym e))
taken_says t c find ps u b s' s (kind.Footnote from to) short h e a = absurd (true≢false (sym e))
taken_says t c find ps u b s' s (kind.Table from to) short h e a = absurd (true≢false (sym e))
taken_says t c find ps u b s' s kind.TableHead short h e a = absurd (true≢false (sym e))
taken_says t c find ps u b s' s kind.TableRow short h e a = absurd (true≢false (sym e))
taken_says t c find ps u b s' s kind.TableCell short h e a = absurd (true≢false (sym e))
taken_says t c find ps u b s' s kind.DefinitionList short h e a = absurd (true≢false (sym e))
taken_says t c find ps u b s' s kind.DefinitionListTitle short h e a = absurd (true≢false (sym e))
taken_says t c find ps u b s' s kind.DefinitionListDefinition short h e a = absurd (true≢false (sym e))

step_says : (t : List ℕ) (c : ℕ) (find : List ℕ → Option Entry) (all : List Block) (ps : List Piece) (b : Block) (s' s : State) → length t + 3 < 2 ^ 64 → is_core_kind b.kind ≡ true → Alike t c s' s
    → Alike t c (block_step_in CORE (c ∷ t) find (map block_on all) (map piece_on ps) s' (block_on b)) (block_step_in CORE t find all ps s b)
unfolding block_taken_in
step_says t c find all ps b s' s short h a =
    rw (same_unwrapped all b, pieces_on ps b.first b.last) (taken_says t c find (pieces_of ps b.first b.last) (is_unwrapped all b) b s' s b.kind short h h a)

steps_say : (t : List ℕ) (c : ℕ) (find : List ℕ → Option Entry) (all : List Block) (ps : List Piece) (bs : List Block) (s' s : State) → length t + 3 < 2 ^ 64 → CoreKinds bs → Alike t c s' s
    → Alike t c (fold (block_step_in CORE (c ∷ t) find (map block_on all) (map piece_on ps)) s' (map block_on bs)) (fold (block_step_in CORE t find all ps) s bs)
steps_say t c find all ps [] s' s short h a = a
steps_say t c find all ps (b ∷ bs) s' s short h a =
    steps_say t c find all ps bs (block_step_in CORE (c ∷ t) find (map block_on all) (map piece_on ps) s' (block_on b)) (block_step_in CORE t find all ps s b) short (h.1) (step_says t c find all ps b s' s short (h.0) a)

-- the nodes of blocks, and what their inlines have beside the text
abbrev nodes_of : List ℕ → BlocksView → BlocksView → State
nodes_of t v w = assembled_in CORE t (first_entry CORE.undefined_notes (collected_from CORE t v).keys (collected_from CORE t v).entries) w.blocks w.pieces (collected_from CORE t v).texts

all_say : (t : List ℕ) → length t + 3 < 2 ^ 64 → CoreKinds (blocks_in CORE t).blocks
    → Alike t 10 (nodes_of (10 ∷ t) (view_on (blocks_in CORE t)) (view_on (blocks_in CORE t))) (nodes_of t (blocks_in CORE t) (blocks_in CORE t))
unfolding collected_from
all_say t short h = steps_say t 10 find b.blocks b.pieces b.blocks (start_state texts) (start_state texts) short h (record { nodes = refl; inlines = refl; none = refl })
  where
    b : BlocksView
    b = blocks_in CORE t

    texts : List ℕ
    texts = (collected_from CORE t b).texts

    find : List ℕ → Option Entry
    find = first_entry CORE.undefined_notes (collected_from CORE t b).keys (collected_from CORE t b).entries

pub same_reading : (t : List ℕ) → length t + 3 < 2 ^ 64 → CoreKinds (blocks_in CORE t).blocks
    → map (event_by pred) (core_reading (10 ∷ t)).events ≡ (core_reading t).events
unfolding reading_of found_under
same_reading t short h =
    ap (λ (v : BlocksView). map (event_by pred) (emitted (10 ∷ t) (nodes_of (10 ∷ t) v v).nodes)) (front t short)
    ∙ same_events (10 ∷ t) t (nodes_of (10 ∷ t) (view_on b) (view_on b)).nodes (nodes_of t b b).nodes (Alike.nodes (all_say t short h))
  where
    b : BlocksView
    b = blocks_in CORE t

pub same_unresolved : (t : List ℕ) → length t + 3 < 2 ^ 64 → CoreKinds (blocks_in CORE t).blocks → (core_reading (10 ∷ t)).unresolved ≡ (core_reading t).unresolved
unfolding reading_of found_under
same_unresolved t short h =
    ap (λ (v : BlocksView). labels (nodes_of (10 ∷ t) v v).inlines) (front t short) ∙ ap labels (Alike.inlines (all_say t short h))
  where
    labels : inlines.State → List (List ℕ)
    labels i = defs.distinct_labels i.texts i.missed

pub same_defined : (t : List ℕ) → length t + 3 < 2 ^ 64 → (core_reading (10 ∷ t)).defined ≡ (core_reading t).defined
unfolding reading_of found_under collected_from
same_defined t short = ap (λ (v : BlocksView). defs.distinct_labels (collected_from CORE t v).texts (collected_from CORE t v).labels) (front t short)
