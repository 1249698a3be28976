-- The blocks of a page as its lines come in.
use Rattle.std.specs.Prelude.{ℕ, zero, suc, ◌-◌, Bool, true, false, ◌&&◌, ◌||◌, nat_lt, if◌then◌else◌, List, [], ◌∷◌, ◌++◌, length, map, take, drop, slice_get, slice_set, Option, Some, None, is_some}
use Rattle.std.specs.Option.{option_map, option_map_or, option_and_then}
use Rattle.tocmark_read_scan.specs.Basic.{plus}
use Rattle.tocmark_read_lines.specs.Cells.{cell_place}
use Rattle.tocmark_read_lines.specs.Containers.{raised_at}
use Rattle.tocmark_read_lines.specs.declared.cell.Cell.{Cell}
use Rattle.tocmark_read_lines.specs.declared.cell.Cursor.{Cursor}
use Rattle.tocmark_read_lines.specs.declared.container.Container.{Container}
use Rattle.tocmark_read_lines.specs.declared.container.Container.TheVariants as container
use Rattle.tocmark_read_lines.specs.declared.container.Opened.{Opened}
use Rattle.tocmark_read_lines.specs.declared.line.Line.{Line}
use Rattle.tocmark_read_page.specs.Definitions.{DefinitionView, definition_view, definitions_from}
use Rattle.tocmark_read_page.specs.declared.leaf.Leaf.{Leaf}
use Rattle.tocmark_read_page.specs.declared.leaf.Leaf.TheVariants as leaf
use Rattle.tocmark_read_page.specs.declared.leaf.Table.{Table}
use Rattle.tocmark_read_page.specs.declared.line_start.LineStart.{LineStart}
use Rattle.tocmark_read_page.specs.declared.page.Block.{Block}
use Rattle.tocmark_read_page.specs.declared.page.BlockKind.{BlockKind}
use Rattle.tocmark_read_page.specs.declared.page.BlocksSoFar.{BlocksSoFar}
use Rattle.tocmark_read_page.specs.declared.page.HeaderLine.{HeaderLine}
use Rattle.tocmark_read_page.specs.declared.page.HeaderLine.TheVariants.{Never}
use Rattle.tocmark_read_page.specs.declared.page.LeftList.{LeftList}
use Rattle.tocmark_read_page.specs.declared.piece.Piece.{Piece}

pub record State : Type 0 where
  pub blocks : List Block
  pub pieces : List Piece
  pub definitions : List DefinitionView
  pub opened : List Opened
  pub quotes : List ℕ
  pub leaf : Leaf
  pub end : ℕ
  pub line : ℕ
  pub kept : ℕ
  pub header : HeaderLine
  pub tried : ℕ
  pub left : Option LeftList
  pub filled : ℕ

-- a page as plain values
abbrev pub page : BlocksSoFar → State
page p = record {
  blocks = p.blocks.items;
  pieces = p.pieces.items;
  definitions = map definition_view p.definitions.items;
  opened = p.opened.items;
  quotes = p.quotes.items;
  leaf = p.leaf;
  end = p.end;
  line = p.line;
  kept = p.kept;
  header = p.header;
  tried = p.tried;
  left = p.left;
  filled = p.filled;
}

-- nothing is open and nothing was read
abbrev pub first_page : State
first_page = record { blocks = []; pieces = []; definitions = []; opened = []; quotes = []; leaf = leaf.Nothing; end = 0; line = 0; kept = 0; header = Never; tried = 0; left = None; filled = 0 }

-- the last of a list
abbrev pub innermost : List Opened → Option Opened
innermost opened = slice_get opened (length opened - 1)

-- a block has this end
unfoldable pub ended : List Block → ℕ → ℕ → List Block
ended blocks index end = option_map_or (λ (b : Block). slice_set blocks index (record b { end = end })) (slice_get blocks index) blocks

-- a leaf has this end, and pieces up to this one
unfoldable pub finished : List Block → ℕ → ℕ → ℕ → List Block
finished blocks index end last =
    option_map_or (λ (b : Block). slice_set blocks index (record b { end = end; last = last })) (slice_get blocks index) blocks

-- the innermost container reaches at least to this line
abbrev pub raised_last : ℕ → ℕ → State → State
raised_last end line s = record s { opened = raised_at s.opened (length s.opened - 1) end line }

-- the open leaf ends: pieces after those that it keeps go
unfoldable pub leaf_finished : State → State
leaf_finished s =
    let kept = take s.kept s.pieces in
    raised_last s.end s.line (record s { pieces = kept; blocks = finished s.blocks (length s.blocks - 1) s.end (length kept); leaf = leaf.Nothing })

-- the open table ends
unfoldable pub table_finished : Table → State → State
table_finished t s = raised_last s.end s.line (record s { blocks = ended s.blocks t.block s.end; leaf = leaf.Nothing })

-- a paragraph without its first lines
unfoldable pub shortened : Block → List Piece → ℕ → Block
shortened b pieces count =
    let first = plus b.first count in
    record b { first = first; start = option_map_or (λ (p : Piece). p.start) (slice_get pieces first) b.start }

-- the definitions at the front of a paragraph are taken from it
abbrev pub defined_as : List ℕ → State → Block → State
defined_as text s b =
    let found = definitions_from text (drop b.first s.pieces) s.definitions in
    record s { definitions = found.0; blocks = slice_set s.blocks (length s.blocks - 1) (shortened b s.pieces (found.1)) }

-- no definition is after a box
abbrev pub settled_as : List ℕ → State → Block → State
settled_as text s b = if is_some b.task then s else defined_as text s b

-- the definitions at the front of the open paragraph are taken
unfoldable pub settled : List ℕ → State → State
settled text s = option_map_or (settled_as text s) (slice_get s.blocks (length s.blocks - 1)) s

-- a paragraph that ends gives its definitions
abbrev pub leaf_closed_as : Leaf → List ℕ → State → State
leaf_closed_as leaf.Nothing text s = s
leaf_closed_as leaf.Paragraph text s = leaf_finished (settled text s)
leaf_closed_as leaf.Indented text s = leaf_finished s
leaf_closed_as (leaf.Fenced f) text s = leaf_finished s
leaf_closed_as (leaf.Html k) text s = leaf_finished s
leaf_closed_as (leaf.Metadata k) text s = leaf_finished s
leaf_closed_as (leaf.Table t) text s = table_finished t s

-- the open leaf ends, if there is one
unfoldable pub leaf_closed : List ℕ → State → State
leaf_closed text s = leaf_closed_as s.leaf text s

-- a container that is a quote
unfoldable pub is_quote : Container → Bool
is_quote container.Quote = true
is_quote (container.List sort) = false
is_quote (container.Item width) = false
is_quote container.Footnote = false
is_quote container.Definitions = false
is_quote (container.Definition width) = false

-- a container that is a list
unfoldable pub is_list : Container → Bool
is_list container.Quote = false
is_list (container.List sort) = true
is_list (container.Item width) = false
is_list container.Footnote = false
is_list container.Definitions = true
is_list (container.Definition width) = false

-- a container that is the definition of a footnote
unfoldable pub is_note : Container → Bool
is_note container.Quote = false
is_note (container.List sort) = false
is_note (container.Item width) = false
is_note container.Footnote = true
is_note container.Definitions = false
is_note (container.Definition width) = false

-- a container that is a list of definitions
unfoldable pub is_definitions : Container → Bool
is_definitions container.Quote = false
is_definitions (container.List sort) = false
is_definitions (container.Item width) = false
is_definitions container.Footnote = false
is_definitions container.Definitions = true
is_definitions (container.Definition width) = false

-- a quote that ended is no longer among the open ones
abbrev pub quote_left : Container → State → State
quote_left c s = if is_quote c then record s { quotes = take (length s.quotes - 1) s.quotes } else s

-- the innermost container ends, and what it is in reaches at least as far
unfoldable pub one_closed : State → State
one_closed s =
    let last = length s.opened - 1 in
    option_map_or
    (λ (o : Opened). quote_left o.container (raised_last o.end o.line (record s { opened = take last s.opened; blocks = ended s.blocks o.block o.end })))
    (slice_get s.opened last) s

-- a step, so many times
unfoldable pub times : {S : Type 0} → (S → S) → ℕ → S → S
times step zero s = s
times step (suc n) s = times step n (step s)

-- the open leaf ends, and the containers from a depth on
unfoldable pub closed_to : List ℕ → ℕ → State → State
closed_to text depth s =
    let t = leaf_closed text s in
    times one_closed (length t.opened - depth) t

-- a definition of a footnote isn't directly in another one
unfoldable pub note_left : State → State
note_left s = option_map_or (λ (o : Opened). if is_note o.container then one_closed s else s) (innermost s.opened) s

-- the list that a container is, or whose item or definition it is
abbrev pub list_at : Container → Opened → List Opened → Option ℕ
list_at container.Quote o opened = None
list_at (container.List sort) o opened = Some o.block
list_at (container.Item width) o opened = option_map (λ (l : Opened). l.block) (slice_get opened (length opened - 2))
list_at container.Footnote o opened = None
list_at container.Definitions o opened = Some o.block
list_at (container.Definition width) o opened = option_map (λ (l : Opened). l.block) (slice_get opened (length opened - 2))

-- the list that is innermost, or whose item or definition is
unfoldable pub list_of : List Opened → Option ℕ
list_of opened = option_and_then (λ (o : Opened). list_at o.container o opened) (innermost opened)

-- the list at a place is loose
abbrev pub is_loose : List Block → Option ℕ → Bool
is_loose blocks list = option_map_or (λ place. option_map_or (λ (b : Block). b.loose) (slice_get blocks place) false) list false

-- a list of definitions that was left may go on with the next block
unfoldable pub left_noted : Opened → State → State
left_noted o s =
    if is_definitions o.container
    then record s { left = Some (record { list = o.block; behind = length s.blocks; loose = is_loose s.blocks (list_of s.opened) }) }
    else s

-- nothing but items is in a list, and nothing but titles and definitions in one of definitions
unfoldable pub list_left : State → State
list_left s = option_map_or (λ (o : Opened). if is_list o.container then left_noted o (one_closed s) else s) (innermost s.opened) s

-- a block that begins in this line comes more than one line after its neighbour (CommonMark 5.3)
unfoldable pub is_apart : List Opened → ℕ → Bool
is_apart opened number = option_map_or (λ (o : Opened). o.had && nat_lt (plus o.line 1) number) (innermost opened) false

-- a block is a loose list
abbrev pub made_loose : List Block → ℕ → List Block
made_loose blocks index = option_map_or (λ (b : Block). slice_set blocks index (record b { loose = true })) (slice_get blocks index) blocks

-- a list is loose if a block in it is apart (CommonMark 5.3)
unfoldable pub loosened : Option ℕ → Bool → List Block → List Block
loosened list apart blocks = if apart then option_map_or (made_loose blocks) list blocks else blocks

-- a block is in the innermost container
unfoldable pub had_marked : List Opened → List Opened
had_marked opened = option_map_or (λ (o : Opened). slice_set opened (length opened - 1) (record o { had = true })) (innermost opened) opened

-- a block begins in the innermost container
unfoldable pub begun : BlockKind → ℕ → ℕ → State → State
begun kind start number s = record s {
  blocks = loosened (list_of s.opened) (is_apart s.opened number) s.blocks ++ record {
    depth = length (had_marked s.opened);
    kind = kind;
    start = start;
    end = start;
    first = length s.pieces;
    last = length s.pieces;
    loose = false;
    list = list_of s.opened;
    task = None;
  } ∷ [];
  opened = had_marked s.opened;
}

-- a quote that began is among the open ones
abbrev pub quote_entered : Container → State → State
quote_entered c s = if is_quote c then record s { quotes = s.quotes ++ (length s.opened - 1) ∷ [] } else s

-- a container begins in the innermost one
unfoldable pub opened_with : Container → BlockKind → ℕ → Line → State → State
opened_with c kind start line s =
    let t = begun kind start line.number s in
    quote_entered c (record t {
      opened = t.opened ++ record { container = c; block = length t.blocks - 1; end = line.end; line = line.number; had = false } ∷ [];
    })

-- a leaf begins in the innermost container
unfoldable pub leaf_opened : Leaf → BlockKind → ℕ → Line → State → State
leaf_opened l kind start line s =
    let t = begun kind start line.number (list_left s) in
    record t { leaf = l; end = line.end; line = line.number; kept = length t.pieces }

-- a line that has no byte and no space is no piece
abbrev pub piece_pushed : Piece → State → State
piece_pushed p s = if nat_lt 0 p.spaces || nat_lt p.start p.next then record s { pieces = s.pieces ++ p ∷ [] } else s

-- the open paragraph has a line after its definitions
unfoldable pub has_text : State → Bool
has_text s = option_map_or (λ (b : Block). nat_lt b.first (length s.pieces)) (slice_get s.blocks (length s.blocks - 1)) false

-- a line comes into the open leaf
unfoldable pub piece_taken : Piece → Line → Bool → State → State
piece_taken p line keeps s =
    let t = piece_pushed p s in
    if keeps then record t { kept = length t.pieces; end = line.end; line = line.number } else t

-- the place of the first byte of a line that is no space, at a place of it
abbrev pub start_of : List Cell → LineStart → Line → ℕ
start_of cells place line = cell_place cells place.cursor.ink line.end

-- all containers that are open now go on at this cursor
abbrev pub with_place : Cursor → State → State × LineStart
with_place cursor s = (s, record { cursor = cursor; depth = length s.opened })

-- a state with a place to go on at
abbrev pub some_place : State × LineStart → State × Option LineStart
some_place p = (p.0, Some (p.1))

-- the last line of the open leaf
abbrev pub last_piece : List Piece → Option Piece
last_piece pieces = slice_get pieces (length pieces - 1)

-- the last block is of this kind
abbrev pub of_kind : BlockKind → List Block → List Block
of_kind k blocks = option_map_or (λ (b : Block). slice_set blocks (length blocks - 1) (record b { kind = k })) (slice_get blocks (length blocks - 1)) blocks
