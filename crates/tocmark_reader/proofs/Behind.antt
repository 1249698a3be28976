-- A block's nodes are the same after all others: so they may be written block by block.
use Rattle.std.proofs.Common.{◌≡◌, ℕ, Bool, true, false, ◌++◌, ◌∷◌, [], List, map, reverse, Option, refl, ap, sym, ◌∙◌}
use mathlib.Core.Path.{fun_ext}
use Rattle.std.specs.List.{fold}
use Rattle.std.specs.Option.{option_map_or}
use Rattle.std.specs.Prelude.{nat_le, not, slice_get, zero, suc, if◌then◌else◌}
use Rattle.std.proofs.lemmas.List.{reverse-reverse}
use Rattle.std.proofs.lemmas.List.Sums.{fold-append}
use Rattle.tocmark_read_scan.specs.Basic.{plus}
use Rattle.tocmark_read_scan.specs.declared.syntax.Syntax.{Syntax}
use Rattle.tocmark_read_scan.specs.declared.syntax.Names.{Names}
use Rattle.tocmark_read_scan.specs.Content as content
use Rattle.tocmark_read_scan.specs.TableCell.{cell_content}
use Rattle.tocmark_read_page.specs.declared.piece.Piece.{Piece}
use Rattle.tocmark_read_page.specs.declared.page.Block.{Block}
use Rattle.tocmark_read_page.specs.declared.page.BlockKind.{BlockKind}
use Rattle.tocmark_read_page.specs.declared.page.BlockKind.TheVariants as kind
use Rattle.tocmark_read_inlines.specs.Inlines as inlines
use Rattle.tocmark_read_spans.specs.declared.definitions.Entry.{Entry}
use Rattle.tocmark_reader.specs.Emitted.{NodeView, Writing, step}
use Rattle.tocmark_reader.specs.Inlines.{inline_node}
use Rattle.tocmark_reader.specs.Formulas.{keeps_blanks, laid_nodes}
use Rattle.tocmark_reader.specs.Pages.{State, Progress, written_behind, written_by, content_line, lines_nodes, block_node, pieces_of, with_inlines, with_laid, with_lines_of, leaf_inlines_in, task_nodes, with_block, with_task, bare_in, with_lines, fence_node_in, with_fence_in, with_rule, wrapped_in, paragraph_taken_in, taken_as_in, block_taken_in, is_unwrapped, is_unwrapped_by, loose_lists, block_step_by, block_step_in, cell_inlines_in, cell_taken_in}

abbrev pub Find : Type 0
Find = List ℕ → Option Entry

-- the nodes that a change adds are the same after all others
abbrev Adds : List ℕ → (State → State) → Type 0
Adds text change = (w : Writing) (s : State) → written_behind text w (change s) ≡ written_by text change (written_behind text w s)

abbrev progress : inlines.State → Writing → Progress
progress found w = record { writing = w; inlines = found }

adds_both : (text : List ℕ) (first next : State → State) → Adds text first → Adds text next → Adds text (λ s. next (first s))
adds_both text first next f g w s =
    g w (first s)
    ∙ ap (written_by text next) (f w s)
    ∙ sym (g (fold (step text) w s.nodes) (first (record { nodes = []; inlines = s.inlines })))

adds_one : (text : List ℕ) (b : Bool) (yes-one no-one : State → State) → Adds text yes-one → Adds text no-one → Adds text (λ s. if b then yes-one s else no-one s)
adds_one text true y n f g w s = f w s
adds_one text false y n f g w s = g w s

adds_block : (text : List ℕ) (b : Block) → Adds text (with_block text b)
unfolding with_block
adds_block text b w s =
    let more : List NodeView = task_nodes b.task (plus b.depth 1) in
    ap (progress s.inlines)
    (fold-append (step text) w (s.nodes ++ block_node text b ∷ []) more
    ∙ ap (λ x. fold (step text) x more) (fold-append (step text) w s.nodes (block_node text b ∷ [])))

adds_task : (text : List ℕ) (b : Block) → Adds text (with_task b)
unfolding with_task
adds_task text b w s = ap (progress s.inlines) (fold-append (step text) w s.nodes (task_nodes b.task b.depth))

adds_rule : (text : List ℕ) (b : Block) → Adds text (with_rule b)
unfolding with_rule
adds_rule text b w s = ap (progress s.inlines) (fold-append (step text) w s.nodes _)

adds_lines : (text : List ℕ) (html : Bool) (b : Block) (lines : List Piece) → Adds text (with_lines text html b lines)
unfolding with_lines
adds_lines text html b lines w s =
    let more : List NodeView = lines_nodes text html (plus b.depth 1) lines in
    ap (progress s.inlines)
    (fold-append (step text) w (s.nodes ++ block_node text b ∷ []) more
    ∙ ap (λ x. fold (step text) x more) (fold-append (step text) w s.nodes (block_node text b ∷ [])))

adds_fence : (names : Names) (text : List ℕ) (from to : ℕ) (b : Block) (lines : List Piece) → Adds text (with_fence_in names text from to b lines)
unfolding with_fence_in
adds_fence names text from to b lines w s =
    let more : List NodeView = lines_nodes text false (plus b.depth 1) lines in
    let fence : NodeView = fence_node_in names text from to b in
    ap (progress s.inlines)
    (fold-append (step text) w (s.nodes ++ fence ∷ []) more
    ∙ ap (λ x. fold (step text) x more) (fold-append (step text) w s.nodes (fence ∷ [])))

adds_inlines : (text : List ℕ) (found : inlines.State) (w : Writing) (s : State) → written_behind text w (with_inlines found s) ≡ written_behind text (fold (step text) w s.nodes) (with_inlines found (record { nodes = []; inlines = s.inlines }))
adds_inlines text found w s =
    ap (progress (record { nodes = []; targets = found.targets; texts = found.texts; missed = found.missed }))
    (fold-append (step text) w s.nodes (map (inline_node found.texts found.targets) found.nodes))

adds_laid : (text : List ℕ) (lines : List Piece) (found : inlines.State) (w : Writing) (s : State) → written_behind text w (with_laid text lines found s) ≡ written_behind text (fold (step text) w s.nodes) (with_laid text lines found (record { nodes = []; inlines = s.inlines }))
adds_laid text lines found w s =
    ap (progress (record { nodes = []; targets = found.targets; texts = found.texts; missed = found.missed }))
    (fold-append (step text) w s.nodes (laid_nodes text lines found.texts found.targets found.nodes))

adds_lines_of : (syntax : Syntax) (text : List ℕ) (lines : List Piece) (found : inlines.State) (w : Writing) (s : State) → written_behind text w (with_lines_of syntax text lines found s) ≡ written_behind text (fold (step text) w s.nodes) (with_lines_of syntax text lines found (record { nodes = []; inlines = s.inlines }))
unfolding with_lines_of
adds_lines_of syntax text lines found w s = by_test (keeps_blanks syntax lines)
  where
    at : Bool → State → State
    at t s = if t then with_laid text lines found s else with_inlines found s

    by_test : (t : Bool) → written_behind text w (at t s) ≡ written_behind text (fold (step text) w s.nodes) (at t (record { nodes = []; inlines = s.inlines }))
    by_test true = adds_laid text lines found w s
    by_test false = adds_inlines text found w s

adds_leaf : (syntax : Syntax) (text : List ℕ) (find : Find) (pieces : List Piece) (depth : ℕ) → Adds text (leaf_inlines_in syntax text find pieces depth)
unfolding leaf_inlines_in
adds_leaf syntax text find pieces depth w s =
    adds_lines_of syntax text pieces (inlines.read_inlines_in syntax (content.content_of text (map content_line pieces)) depth find s.inlines) w s

adds_wrapped : (syntax : Syntax) (text : List ℕ) (find : Find) (pieces : List Piece) (b : Block) → Adds text (wrapped_in syntax text find pieces b)
unfolding wrapped_in
adds_wrapped syntax text find pieces b =
    adds_both text (with_block text b) (leaf_inlines_in syntax text find pieces (plus b.depth 1)) (adds_block text b) (adds_leaf syntax text find pieces (plus b.depth 1))

-- a container with its inlines is written as the container, and then the inlines
pub wrapped_behind : (syntax : Syntax) (text : List ℕ) (find : Find) (pieces : List Piece) (b : Block) (p : Progress) → written_by text (wrapped_in syntax text find pieces b) p ≡ written_by text (leaf_inlines_in syntax text find pieces (plus b.depth 1)) (written_by text (with_block text b) p)
unfolding wrapped_in
wrapped_behind syntax text find pieces b p = adds_leaf syntax text find pieces (plus b.depth 1) p.writing (with_block text b (record { nodes = []; inlines = p.inlines }))

adds_cell_inlines : (syntax : Syntax) (text : List ℕ) (find : Find) (b : Block) → Adds text (cell_inlines_in syntax text find b)
unfolding cell_inlines_in
adds_cell_inlines syntax text find b w s =
    adds_inlines text (inlines.read_cell_in syntax (cell_content text b.start b.end) (plus b.depth 1) find s.inlines) w s

adds_cell : (syntax : Syntax) (text : List ℕ) (find : Find) (b : Block) → Adds text (cell_taken_in syntax text find b)
unfolding cell_taken_in
adds_cell syntax text find b =
    adds_both text (with_block text b) (cell_inlines_in syntax text find b) (adds_block text b) (adds_cell_inlines syntax text find b)

-- a cell is written as its container, and then its inlines
pub cell_behind : (syntax : Syntax) (text : List ℕ) (find : Find) (b : Block) (p : Progress) → written_by text (cell_taken_in syntax text find b) p ≡ written_by text (cell_inlines_in syntax text find b) (written_by text (with_block text b) p)
unfolding cell_taken_in
cell_behind syntax text find b p = adds_cell_inlines syntax text find b p.writing (with_block text b (record { nodes = []; inlines = p.inlines }))

adds_bare : (syntax : Syntax) (text : List ℕ) (find : Find) (pieces : List Piece) (b : Block) → Adds text (bare_in syntax text find pieces b)
unfolding bare_in
adds_bare syntax text find pieces b =
    adds_both text (with_task b) (leaf_inlines_in syntax text find pieces b.depth) (adds_task text b) (adds_leaf syntax text find pieces b.depth)

-- a paragraph without its container is written as its box, and then the inlines
pub bare_behind : (syntax : Syntax) (text : List ℕ) (find : Find) (pieces : List Piece) (b : Block) (p : Progress) → written_by text (bare_in syntax text find pieces b) p ≡ written_by text (leaf_inlines_in syntax text find pieces b.depth) (written_by text (with_task b) p)
unfolding bare_in
bare_behind syntax text find pieces b p = adds_leaf syntax text find pieces b.depth p.writing (with_task b (record { nodes = []; inlines = p.inlines }))

adds_paragraph : (syntax : Syntax) (text : List ℕ) (find : Find) (pieces : List Piece) (unwrapped : Bool) (b : Block) → Adds text (paragraph_taken_in syntax text find pieces unwrapped b)
unfolding paragraph_taken_in
adds_paragraph syntax text find pieces unwrapped b =
    let leaf : State → State = bare_in syntax text find pieces b in
    let whole : State → State = wrapped_in syntax text find pieces b in
    let some : Adds text (λ s. if unwrapped then leaf s else whole s) = adds_one text unwrapped leaf whole (adds_bare syntax text find pieces b) (adds_wrapped syntax text find pieces b) in
    adds_one text (nat_le b.last b.first) (λ s. s) (λ s. if unwrapped then leaf s else whole s) (λ w s. refl) some

adds_kind : (syntax : Syntax) (k : BlockKind) (text : List ℕ) (find : Find) (pieces : List Piece) (unwrapped : Bool) (b : Block) → Adds text (taken_as_in syntax k text find pieces unwrapped b)
adds_kind syntax kind.Paragraph text find pieces unwrapped b = adds_paragraph syntax text find pieces unwrapped b
adds_kind syntax (kind.Heading level braces) text find pieces unwrapped b = adds_wrapped syntax text find pieces b
adds_kind syntax (kind.Quote q) text find pieces unwrapped b = adds_block text b
adds_kind syntax (kind.List first) text find pieces unwrapped b = adds_block text b
adds_kind syntax kind.Item text find pieces unwrapped b = adds_block text b
adds_kind syntax kind.Indented text find pieces unwrapped b = adds_lines text false b pieces
adds_kind syntax (kind.Fenced from to) text find pieces unwrapped b = adds_fence syntax.names text from to b pieces
adds_kind syntax kind.Html text find pieces unwrapped b = adds_lines text true b pieces
adds_kind syntax kind.Rule text find pieces unwrapped b = adds_rule text b
adds_kind syntax (kind.Metadata k) text find pieces unwrapped b = adds_lines text false b pieces
adds_kind syntax (kind.Footnote from to) text find pieces unwrapped b = adds_block text b
adds_kind syntax (kind.Table from to) text find pieces unwrapped b = adds_block text b
adds_kind syntax kind.TableHead text find pieces unwrapped b = adds_block text b
adds_kind syntax kind.TableRow text find pieces unwrapped b = adds_block text b
adds_kind syntax kind.TableCell text find pieces unwrapped b = adds_cell syntax text find b
adds_kind syntax kind.DefinitionList text find pieces unwrapped b = adds_block text b
adds_kind syntax kind.DefinitionListTitle text find pieces unwrapped b = adds_wrapped syntax text find pieces b
adds_kind syntax kind.DefinitionListDefinition text find pieces unwrapped b = adds_block text b

-- one more block
pub adds_taken : (syntax : Syntax) (text : List ℕ) (find : Find) (all : List Piece) (unwrapped : Bool) (b : Block) → Adds text (block_taken_in syntax text find all unwrapped b)
unfolding block_taken_in
adds_taken syntax text find all unwrapped b = adds_kind syntax b.kind text find (pieces_of all b.first b.last) unwrapped b

module _ (syntax : Syntax) (text : List ℕ) (find : Find) (loose : List Bool) (pieces : List Piece) where
  -- some of all blocks
  abbrev pub some_taken : List Block → State → State
  some_taken some s = fold (block_step_by syntax text find loose pieces) s some

  adds_some : (some : List Block) → Adds text (some_taken some)
  adds_some [] w s = refl
  adds_some (b ∷ bs) w s = adds_both text (block_taken_in syntax text find pieces (is_unwrapped_by loose b) b) (some_taken bs) (adds_taken syntax text find pieces (is_unwrapped_by loose b) b) (adds_some bs) w s

  -- the first of them is written, and then the others
  pub first_behind : (b : Block) (bs : List Block) (unwrapped : Bool) (before after : Progress) → unwrapped ≡ is_unwrapped_by loose b → after ≡ written_by text (block_taken_in syntax text find pieces unwrapped b) before → written_by text (some_taken (b ∷ bs)) before ≡ written_by text (some_taken bs) after
  first_behind b bs unwrapped before after u a =
      adds_some bs before.writing (block_taken_in syntax text find pieces (is_unwrapped_by loose b) b (record { nodes = []; inlines = before.inlines }))
      ∙ ap (λ x. written_by text (some_taken bs) (written_by text (block_taken_in syntax text find pieces x b) before)) (sym u)
      ∙ ap (written_by text (some_taken bs)) (sym a)

-- the kept list says of a block what all blocks say
kept_unwrapped : (blocks : List Block) (b : Block) → is_unwrapped_by (loose_lists blocks) b ≡ is_unwrapped blocks b
unfolding is_unwrapped is_unwrapped_by
kept_unwrapped blocks b = ap (λ (f : ℕ → Bool). option_map_or f b.list false) (fun_ext (λ place. by_list blocks place))
  where
    by_list : (bs : List Block) (place : ℕ) → option_map_or not (slice_get (loose_lists bs) place) false ≡ option_map_or (λ (l : Block). not l.loose) (slice_get bs place) false
    by_list [] place = refl
    by_list (x ∷ xs) zero = refl
    by_list (x ∷ xs) (suc place) = by_list xs place

-- all blocks have the same nodes where they are kept in reverse, beside the list of the loose ones
pub all_taken : (syntax : Syntax) (text : List ℕ) (find : Find) (blocks kept : List Block) (loose : List Bool) (pieces : List Piece) (s : State) → loose ≡ loose_lists blocks → kept ≡ reverse blocks → fold (block_step_by syntax text find loose pieces) s (reverse kept) ≡ fold (block_step_in syntax text find blocks pieces) s blocks
all_taken syntax text find blocks kept loose pieces s is_loose is_kept =
    ap (λ (ls : List Bool). fold (block_step_by syntax text find ls pieces) s (reverse kept)) is_loose
    ∙ ap (λ (l : List Block). fold (block_step_by syntax text find (loose_lists blocks) pieces) s l) (ap reverse is_kept ∙ reverse-reverse blocks)
    ∙ ap (λ (step : State → Block → State). fold step s blocks) (fun_ext (λ t. fun_ext (λ b. ap (λ u. block_taken_in syntax text find pieces u b t) (kept_unwrapped blocks b))))
