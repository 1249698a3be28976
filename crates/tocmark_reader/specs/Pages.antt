-- From blocks to nodes.
use Rattle.std.specs.Prelude.{ℕ, ◌-◌, Bool, true, false, not, ◌&&◌, nat_lt, nat_le, if◌then◌else◌, List, [], ◌∷◌, ◌++◌, length, map, slice_get, slice_range, Option, Some, None}
use Rattle.std.specs.List.{fold, flat_map}
use Rattle.std.specs.Option.{option_map_or}
use Rattle.tocmark_event.specs.View as view
use Rattle.tocmark_read_scan.specs.Basic.{plus, bytes_between}
use Rattle.tocmark_read_scan.specs.declared.syntax.TheConstants.{CORE}
use Rattle.tocmark_read_scan.specs.declared.syntax.Syntax.{Syntax}
use Rattle.tocmark_read_scan.specs.declared.syntax.Names.{Names}
use Rattle.tocmark_read_constructs.specs.Tables.{alignments_of}
use Rattle.tocmark_read_scan.specs.TableCell.{cell_content}
use Rattle.tocmark_read_scan.specs.Content as content
use Rattle.tocmark_read_scan.specs.declared.content.ContentLine.{ContentLine}
use Rattle.tocmark_read_page.specs.declared.piece.Piece.{Piece}
use Rattle.tocmark_read_page.specs.declared.page.Block.{Block}
use Rattle.tocmark_read_page.specs.declared.page.Task.{Task}
use Rattle.tocmark_read_page.specs.declared.page.BlockKind.{BlockKind}
use Rattle.tocmark_read_page.specs.declared.page.BlockKind.TheVariants as kind
use Rattle.tocmark_read_inlines.specs.Inlines as inlines
use Rattle.tocmark_read_spans.specs.declared.definitions.Entry.{Entry}
use Rattle.tocmark_reader.specs.Attributes.{heading_tag}
use Rattle.tocmark_reader.specs.Emitted.{ItemView, NodeView, Container, Given, Writing, emission_view, step}
use Rattle.tocmark_reader.specs.Inlines.{inline_node}
use Rattle.tocmark_reader.specs.Formulas.{keeps_blanks, laid_nodes}
use Rattle.tocmark_reader.specs.Words.{cleaned, info_text, info_text_in, spaces_text, name_text}
use Rattle.tocmark_reader.specs.declared.block_events.Assembly.{Assembly}

-- the pieces of a range
abbrev pub pieces_of : List Piece → ℕ → ℕ → List Piece
pieces_of pieces first last = if nat_le first last && nat_le last (length pieces) then slice_range pieces first last else []

-- a piece as a line of a text
unfoldable pub content_line : Piece → ContentLine
content_line p = record { start = p.start; end = p.end; next = p.next }

-- a node
abbrev pub node : ℕ → ItemView → ℕ → ℕ → NodeView
node depth item start end = record { depth = depth; item = item; start = start; end = end }

-- the spaces that are left of a partly used tab are a text of their own
unfoldable pub space_nodes : ℕ → Piece → List NodeView
space_nodes depth p =
    if nat_lt 0 p.spaces then node depth (Given (view.Text (spaces_text p.spaces))) (p.start - 1) p.start ∷ [] else []

-- a line of HTML, or of code
unfoldable pub line_item : List ℕ → Bool → Piece → ItemView
line_item text html p =
    let words = cleaned (bytes_between text p.start p.end) (nat_lt p.end p.next) in
    if html then Given (view.Html words) else Given (view.Text words)

-- a line of code or HTML
unfoldable pub line_nodes : List ℕ → Bool → ℕ → Piece → List NodeView
line_nodes text html depth p =
    space_nodes depth p ++ (if nat_lt p.start p.next then node depth (line_item text html p) p.start p.next ∷ [] else [])

-- the nodes of lines of code or HTML
abbrev pub lines_nodes : List ℕ → Bool → ℕ → List Piece → List NodeView
lines_nodes text html depth lines = flat_map (line_nodes text html depth) lines

-- the container that a block is
unfoldable pub block_tag : List ℕ → BlockKind → view.TagView
block_tag text (kind.Quote k) = view.BlockQuote k
block_tag text (kind.List first) = view.ListOf first
block_tag text kind.Item = view.Item
block_tag text kind.Paragraph = view.Paragraph
block_tag text (kind.Heading level braces) = heading_tag text level braces
block_tag text kind.Indented = view.CodeBlock view.Indented
block_tag text (kind.Fenced from to) = view.CodeBlock (view.Fenced (info_text (bytes_between text from to)))
block_tag text kind.Html = view.HtmlBlock
block_tag text kind.Rule = view.Paragraph
block_tag text (kind.Metadata k) = view.MetadataBlock k
block_tag text (kind.Footnote from to) = view.FootnoteDefinition (name_text (bytes_between text from to))
block_tag text (kind.Table from to) = view.Table (alignments_of (bytes_between text from to))
block_tag text kind.TableHead = view.TableHead
block_tag text kind.TableRow = view.TableRow
block_tag text kind.TableCell = view.TableCell
block_tag text kind.DefinitionList = view.DefinitionList
block_tag text kind.DefinitionListTitle = view.DefinitionListTitle
block_tag text kind.DefinitionListDefinition = view.DefinitionListDefinition

-- a block directly in an item of a tight list
unfoldable pub is_unwrapped : List Block → Block → Bool
is_unwrapped blocks b =
    option_map_or (λ place. option_map_or (λ (l : Block). not l.loose) (slice_get blocks place) false) b.list false

-- for each block whether it is a loose list
abbrev pub loose_lists : List Block → List Bool
loose_lists blocks = map (λ (b : Block). b.loose) blocks

-- a block directly in an item of a tight list, where these are the loose lists
unfoldable pub is_unwrapped_by : List Bool → Block → Bool
is_unwrapped_by loose b = option_map_or (λ place. option_map_or not (slice_get loose place) false) b.list false

-- the node of a block
abbrev pub block_node : List ℕ → Block → NodeView
block_node text b = node b.depth (Container (block_tag text b.kind)) b.start b.end

-- the nodes so far, and what their inlines have beside the source
pub record State : Type 0 where
  pub nodes : List NodeView
  pub inlines : inlines.State

-- the events of the nodes so far, and what the inlines have beside the source
pub record Progress : Type 0 where
  pub writing : Writing
  pub inlines : inlines.State

-- events and inlines as plain values
abbrev pub assembly_view : Assembly → Progress
assembly_view a = record { writing = emission_view a.emission; inlines = inlines.inlines_view a.inlines }

-- the nodes are written after what is written
abbrev pub written_behind : List ℕ → Writing → State → Progress
written_behind text w s = record { writing = fold (step text) w s.nodes; inlines = s.inlines }

-- the nodes that a change puts after none are written after what is written
abbrev pub written_by : List ℕ → (State → State) → Progress → Progress
written_by text change p = written_behind text p.writing (change (record { nodes = []; inlines = p.inlines }))

-- the nodes of the inlines that were found
abbrev pub with_inlines : inlines.State → State → State
with_inlines found s = record {
  nodes = s.nodes ++ map (inline_node found.texts found.targets) found.nodes;
  inlines = record { nodes = []; targets = found.targets; texts = found.texts; missed = found.missed };
}

-- the nodes of the inlines that were found, whose formulas keep the blanks of these lines
abbrev pub with_laid : List ℕ → List Piece → inlines.State → State → State
with_laid text lines found s = record {
  nodes = s.nodes ++ laid_nodes text lines found.texts found.targets found.nodes;
  inlines = record { nodes = []; targets = found.targets; texts = found.texts; missed = found.missed };
}

-- the nodes of the inlines that were found in these lines
unfoldable pub with_lines_of : Syntax → List ℕ → List Piece → inlines.State → State → State
with_lines_of syntax text lines found s = if keeps_blanks syntax lines then with_laid text lines found s else with_inlines found s

-- the inlines of a leaf
unfoldable pub leaf_inlines_in : Syntax → List ℕ → (List ℕ → Option Entry) → List Piece → ℕ → State → State
leaf_inlines_in syntax text find pieces depth s =
    with_lines_of syntax text pieces (inlines.read_inlines_in syntax (content.content_of text (map content_line pieces)) depth find s.inlines) s

-- the box of a task, at a depth
unfoldable pub task_nodes : Option Task → ℕ → List NodeView
task_nodes None depth = []
task_nodes (Some t) depth = node depth (Given (view.TaskListMarker t.done)) t.start (plus t.start 3) ∷ []

-- one more container, with its box
unfoldable pub with_block : List ℕ → Block → State → State
with_block text b s = record s { nodes = (s.nodes ++ block_node text b ∷ []) ++ task_nodes b.task (plus b.depth 1) }

-- the box of a paragraph without its container
unfoldable pub with_task : Block → State → State
with_task b s = record s { nodes = s.nodes ++ task_nodes b.task b.depth }

-- the box and the inlines of a paragraph without its container
unfoldable pub bare_in : Syntax → List ℕ → (List ℕ → Option Entry) → List Piece → Block → State → State
bare_in syntax text find pieces b s = leaf_inlines_in syntax text find pieces b.depth (with_task b s)

-- a code or HTML block with its lines
unfoldable pub with_lines : List ℕ → Bool → Block → List Piece → State → State
with_lines text html b lines s = record s { nodes = (s.nodes ++ block_node text b ∷ []) ++ lines_nodes text html (plus b.depth 1) lines }

-- the node of a fenced code block, whose info string is between two places
unfoldable pub fence_node_in : Names → List ℕ → ℕ → ℕ → Block → NodeView
fence_node_in names text from to b =
    node b.depth (Container (view.CodeBlock (view.Fenced (info_text_in names (bytes_between text from to))))) b.start b.end

-- a fenced code block with its lines
unfoldable pub with_fence_in : Names → List ℕ → ℕ → ℕ → Block → List Piece → State → State
with_fence_in names text from to b lines s =
    record s { nodes = (s.nodes ++ fence_node_in names text from to b ∷ []) ++ lines_nodes text false (plus b.depth 1) lines }

-- one more thematic break
unfoldable pub with_rule : Block → State → State
with_rule b s = record s { nodes = s.nodes ++ node b.depth (Given view.Rule) b.start b.end ∷ [] }

-- a paragraph, a heading or a title with its inlines
unfoldable pub wrapped_in : Syntax → List ℕ → (List ℕ → Option Entry) → List Piece → Block → State → State
wrapped_in syntax text find pieces b s = leaf_inlines_in syntax text find pieces (plus b.depth 1) (with_block text b s)

-- the inlines of a cell
unfoldable pub cell_inlines_in : Syntax → List ℕ → (List ℕ → Option Entry) → Block → State → State
cell_inlines_in syntax text find b s =
    with_inlines (inlines.read_cell_in syntax (cell_content text b.start b.end) (plus b.depth 1) find s.inlines) s

-- a cell with its inlines
unfoldable pub cell_taken_in : Syntax → List ℕ → (List ℕ → Option Entry) → Block → State → State
cell_taken_in syntax text find b s = cell_inlines_in syntax text find b (with_block text b s)

-- a paragraph of definitions alone is nothing, and one in a tight list has no container
unfoldable pub paragraph_taken_in : Syntax → List ℕ → (List ℕ → Option Entry) → List Piece → Bool → Block → State → State
paragraph_taken_in syntax text find pieces unwrapped b s =
    if nat_le b.last b.first then s
    else (if unwrapped then bare_in syntax text find pieces b s else wrapped_in syntax text find pieces b s)

-- a block of this kind
abbrev pub taken_as_in : Syntax → BlockKind → List ℕ → (List ℕ → Option Entry) → List Piece → Bool → Block → State → State
taken_as_in syntax kind.Paragraph text find pieces unwrapped b s = paragraph_taken_in syntax text find pieces unwrapped b s
taken_as_in syntax (kind.Heading level braces) text find pieces unwrapped b s = wrapped_in syntax text find pieces b s
taken_as_in syntax (kind.Quote k) text find pieces unwrapped b s = with_block text b s
taken_as_in syntax (kind.List first) text find pieces unwrapped b s = with_block text b s
taken_as_in syntax kind.Item text find pieces unwrapped b s = with_block text b s
taken_as_in syntax kind.Indented text find pieces unwrapped b s = with_lines text false b pieces s
taken_as_in syntax (kind.Fenced from to) text find pieces unwrapped b s = with_fence_in syntax.names text from to b pieces s
taken_as_in syntax kind.Html text find pieces unwrapped b s = with_lines text true b pieces s
taken_as_in syntax kind.Rule text find pieces unwrapped b s = with_rule b s
taken_as_in syntax (kind.Metadata k) text find pieces unwrapped b s = with_lines text false b pieces s
taken_as_in syntax (kind.Footnote from to) text find pieces unwrapped b s = with_block text b s
taken_as_in syntax (kind.Table from to) text find pieces unwrapped b s = with_block text b s
taken_as_in syntax kind.TableHead text find pieces unwrapped b s = with_block text b s
taken_as_in syntax kind.TableRow text find pieces unwrapped b s = with_block text b s
taken_as_in syntax kind.TableCell text find pieces unwrapped b s = cell_taken_in syntax text find b s
taken_as_in syntax kind.DefinitionList text find pieces unwrapped b s = with_block text b s
taken_as_in syntax kind.DefinitionListTitle text find pieces unwrapped b s = wrapped_in syntax text find pieces b s
taken_as_in syntax kind.DefinitionListDefinition text find pieces unwrapped b s = with_block text b s

-- one more block
unfoldable pub block_taken_in : Syntax → List ℕ → (List ℕ → Option Entry) → List Piece → Bool → Block → State → State
block_taken_in syntax text find all unwrapped b s = taken_as_in syntax b.kind text find (pieces_of all b.first b.last) unwrapped b s

-- one more block, which may be in a tight list
abbrev pub block_step_in : Syntax → List ℕ → (List ℕ → Option Entry) → List Block → List Piece → State → Block → State
block_step_in syntax text find blocks pieces s b = block_taken_in syntax text find pieces (is_unwrapped blocks b) b s

-- the same, where these are the loose lists
abbrev pub block_step_by : Syntax → List ℕ → (List ℕ → Option Entry) → List Bool → List Piece → State → Block → State
block_step_by syntax text find loose pieces s b = block_taken_in syntax text find pieces (is_unwrapped_by loose b) b s

-- no nodes, and the texts of the definitions
abbrev pub start_state : List ℕ → State
start_state texts = record { nodes = []; inlines = record { nodes = []; targets = []; texts = texts; missed = [] } }

-- nothing is written, and the texts of the definitions
abbrev pub nothing_written : List ℕ → Progress
nothing_written texts = record { writing = record { events = []; stack = [] }; inlines = (start_state texts).inlines }

-- all blocks with their inlines
abbrev pub assembled_in : Syntax → List ℕ → (List ℕ → Option Entry) → List Block → List Piece → List ℕ → State
assembled_in syntax text find blocks pieces texts = fold (block_step_in syntax text find blocks pieces) (start_state texts) blocks

-- the same of CommonMark alone
abbrev pub leaf_inlines : List ℕ → (List ℕ → Option Entry) → List Piece → ℕ → State → State
leaf_inlines = leaf_inlines_in CORE

abbrev pub wrapped : List ℕ → (List ℕ → Option Entry) → List Piece → Block → State → State
wrapped = wrapped_in CORE

abbrev pub paragraph_taken : List ℕ → (List ℕ → Option Entry) → List Piece → Bool → Block → State → State
paragraph_taken = paragraph_taken_in CORE

abbrev pub block_taken : List ℕ → (List ℕ → Option Entry) → List Piece → Bool → Block → State → State
block_taken = block_taken_in CORE

abbrev pub assembled : List ℕ → (List ℕ → Option Entry) → List Block → List Piece → List ℕ → State
assembled = assembled_in CORE
