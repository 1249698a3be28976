-- The blocks of a tight list of one-line items.
use Rattle.std.proofs.Common.{◌≡◌, ℕ, suc, ◌+◌, ◌-◌, ◌^◌, ◌<◌, ◌≤◌, max, Bool, true, false, ◌==◌, if◌then◌else◌, nat_lt, nat_le, List, [], ◌∷◌, ◌++◌, length, map, slice_get, slice_set, refl, ap, sym, subst, ◌∙◌, arith, append_assoc, append-nil, length-append, Option, None, Some}
use Rattle.std.proofs.Math.Seq.{take-length}
use Rattle.std.proofs.lemmas.Bool.Decides.{nat_tests}
use Rattle.std.specs.Char.{is_ascii_alphabetic}
use Rattle.std.specs.List.{AllByRecursion, fold}
use Rattle.tocmark_read_scan.specs.Basic.{plus, byte_at, bytes_between}
use Rattle.tocmark_read_scan.specs.declared.syntax.Syntax.{Syntax}
use Rattle.tocmark_read_scan.proofs.PlainContent.{byte_behind, get_behind}
use Rattle.tocmark_read_scan.proofs.PlainPieces.{drop_behind, piece_between}
use Rattle.tocmark_read_scan.proofs.PlainTests.{turned}
use Rattle.tocmark_read_scan.proofs.Repeats.{repeated_more, repeated_stop}
use Rattle.tocmark_read_lines.specs.Cells.{cells_of, cell_byte, cell_place, first_cursor, moved}
use Rattle.tocmark_read_lines.specs.Containers.{container_at, container_in, going_on, item_goes_on, matched, passed, stopped, raised, raised_at}
use Rattle.tocmark_read_lines.specs.Lines.{line}
use Rattle.tocmark_read_lines.specs.Marks.{tail_of}
use Rattle.tocmark_read_lines.specs.Footnotes.{note_at}
use Rattle.tocmark_read_lines.specs.declared.cell.Cell.{Cell}
use Rattle.tocmark_read_lines.specs.declared.cell.Cursor.{Cursor}
use Rattle.tocmark_read_lines.specs.declared.container.Container.TheVariants as container
use Rattle.tocmark_read_lines.specs.declared.container.ContainerStart.TheVariants as begins
use Rattle.tocmark_read_lines.specs.declared.container.ItemStart.{ItemStart}
use Rattle.tocmark_read_lines.specs.declared.container.Opened.{Opened}
use Rattle.tocmark_read_lines.specs.declared.line.Line.{Line}
use Rattle.tocmark_read_page.specs.Definitions.{begins_definition, definitions_from}
use Rattle.tocmark_read_page.specs.Leaves.{is_paragraph, is_table}
use Rattle.tocmark_read_page.specs.Pages.{State, first_page, leaf_opened, leaf_closed, closed_to, times, list_left, begun, loosened, had_marked, list_of, is_apart, leaf_finished, finished, piece_taken, opened_with, is_list, is_quote, left_noted, some_place, settled, shortened, one_closed, ended}
use Rattle.tocmark_read_page.specs.Pieces.{piece_of, text_piece}
use Rattle.tocmark_read_page.specs.declared.leaf.Leaf.TheVariants as leaf
use Rattle.tocmark_read_page.specs.declared.line_start.Known.{Known}
use Rattle.tocmark_read_page.specs.declared.line_start.LineStart.{LineStart}
use Rattle.tocmark_read_page.specs.declared.page.Block.{Block}
use Rattle.tocmark_read_page.specs.declared.page.BlockKind.TheVariants as kind
use Rattle.tocmark_read_page.specs.declared.page.HeaderLine.{HeaderLine}
use Rattle.tocmark_read_page.specs.declared.page.HeaderLine.TheVariants.{Never}
use Rattle.tocmark_read_page.specs.declared.piece.Piece.{Piece}
use Rattle.tocmark_read_constructs.specs.Metadata.{known_of, metadata_in, is_front}
use Rattle.tocmark_read_constructs.specs.Quotes.{quote_kind_in, is_new_quote, is_first_line, tag_in}
use Rattle.tocmark_read_constructs.specs.Tables.{may_delimit, delimiters_taken, header_of}
use Rattle.tocmark_read_constructs.specs.Tasks.{task_in, box_at}
use Rattle.tocmark_read_blocks.specs.Blocks.{BlocksView, blocks_in, page_in, start_or, leaf_started_in, started_in, started_at_in, tabled_in, tabled_as, is_lazy, passed_in, turn_in, turn_of, touched, taken_at_in, turn_taken_in, cells_taken_in, line_taken_in}
use Rattle.tocmark_read_blocks.specs.Containers.{container_once_in, containers_opened_in, goes_directly, begun_at, item_opened, list_started, is_in_list}
use Rattle.tocmark_read_blocks.specs.Leaves.{leaf_at, leaf_turn, metadata_or, task_or, quote_kind_or, tag_or}
use Rattle.tocmark_read_blocks.specs.Paragraphs.{text_taken, text_started}
use Rattle.tocmark_read_blocks.specs.declared.leaf.LeafStart.TheVariants as start
use Rattle.tocmark_read_blocks.specs.declared.leaf.Turn.TheVariants as turn
use Rattle.tocmark_read_blocks.proofs.PlainLines.{IsWithin, cells_within, numbered}
use Rattle.tocmark_read_blocks.proofs.PlainSteps.{front}
use Rattle.tocmark_read_blocks.proofs.PlainTexts.{line_list}
use Rattle.tocmark_laws.specs.Extensions.{lined}
use Rattle.tocmark_laws.proofs.DocumentBlocks.{last_place, get_last, set_last, piece_taken_whole}
use Rattle.tocmark_laws.proofs.ExtensionBlocks.{never, here, no_definition, no_note, passes}
use Rattle.tocmark_laws.proofs.FrontMatterBlocks.{IsLineText, lines_split}
use Rattle.tocmark_laws.proofs.InkAtColumn.{StandsAt, at_column, stands_at, letter_opens_none, letter_begins_text, moved_to, place_numbered, piece_there}

-- ---- blocks and pages

abbrev pub list_block : Option ℕ → ℕ → ℕ → Block
list_block number from to = record { depth = 0; kind = kind.List number; start = from; end = to; first = 0; last = 0; loose = false; list = None; task = None }

abbrev pub item_block : ℕ → ℕ → ℕ → Block
item_block from to count = record { depth = 1; kind = kind.Item; start = from; end = to; first = count; last = count; loose = false; list = Some 0; task = None }

abbrev pub text_block : ℕ → ℕ → ℕ → ℕ → Block
text_block from to first last = record { depth = 2; kind = kind.Paragraph; start = from; end = to; first = first; last = last; loose = false; list = Some 0; task = None }

abbrev open_list : ℕ → ℕ → ℕ → Opened
open_list sort end number = record { container = container.List sort; block = 0; end = end; line = number; had = true }

abbrev open_item : ℕ → ℕ → ℕ → ℕ → Bool → Opened
open_item width block end number had = record { container = container.Item width; block = block; end = end; line = number; had = had }

-- a list whose items have ended
abbrev between : ℕ → List Block → List Piece → ℕ → ℕ → HeaderLine → State
between sort bs ps end number header = record first_page {
  blocks = bs;
  pieces = ps;
  opened = open_list sort end number ∷ [];
  end = end;
  line = number;
  kept = length ps;
  header = header;
}

-- an item without its text; the list so far reaches to one line, the page to another
abbrev empty_item : ℕ → List Block → List Piece → ℕ → ℕ → ℕ → ℕ → ℕ → ℕ → ℕ → ℕ → HeaderLine → State
empty_item sort bs ps to_end to_line width from end number last_end last_line header = record first_page {
  blocks = bs ++ item_block from from (length ps) ∷ [];
  pieces = ps;
  opened = open_list sort to_end to_line ∷ open_item width (length bs) end number false ∷ [];
  end = last_end;
  line = last_line;
  kept = length ps;
  header = header;
}

-- an item with its text
abbrev full_item : ℕ → List Block → List Piece → Piece → ℕ → ℕ → ℕ → ℕ → ℕ → ℕ → HeaderLine → State
full_item sort bs ps p to_end to_line width from end number header = record first_page {
  blocks = (bs ++ item_block from from (length ps) ∷ []) ++ text_block p.start p.start (length ps) (length ps) ∷ [];
  pieces = ps ++ p ∷ [];
  opened = open_list sort to_end to_line ∷ open_item width (length bs) end number true ∷ [];
  leaf = leaf.Paragraph;
  end = end;
  line = number;
  kept = length (ps ++ p ∷ []);
  header = header;
}

-- the blocks of an item that ended
abbrev pub ended_item : List Piece → Piece → ℕ → ℕ → List Block
ended_item ps p from end = item_block from end (length ps) ∷ text_block p.start end (length ps) (length (ps ++ p ∷ [])) ∷ []

-- ---- an item ends

module _ (text : List ℕ) (sort : ℕ) (bs : List Block) (ps : List Piece) (p : Piece) (to_end to_line width from end number : ℕ) (header : HeaderLine) where
  abbrev whole : State
  whole = full_item sort bs ps p to_end to_line width from end number header

  abbrev item_here : Block
  item_here = item_block from from (length ps)

  abbrev text_here : Block
  text_here = text_block p.start p.start (length ps) (length ps)

  abbrev text_ended : Block
  text_ended = text_block p.start end (length ps) (length (ps ++ p ∷ []))

  -- without the leaf
  abbrev leafless : State
  leafless = record first_page {
    blocks = (bs ++ item_here ∷ []) ++ text_ended ∷ [];
    pieces = ps ++ p ∷ [];
    opened = open_list sort to_end to_line ∷ open_item width (length bs) end number true ∷ [];
    end = end;
    line = number;
    kept = length (ps ++ p ∷ []);
    header = header;
  }

  settled_whole : (byte_at text p.start == 91) ≡ false → length ps < 2 ^ 64 → settled text whole ≡ whole
  unfolding settled definitions_from begins_definition shortened
  settled_whole h fits =
      let first : plus (length ps) 0 ≡ length ps = omega (arith, fits) in
      rw (get_last (bs ++ item_here ∷ []) text_here, drop_behind ps (p ∷ []), h, first, get_behind ps [] p, set_last (bs ++ item_here ∷ []) text_here text_here) refl

  leaf_ended : leaf_finished whole ≡ leafless
  unfolding leaf_finished finished raised_at raised
  leaf_ended =
      let same : max end end ≡ end = omega arith in
      let line_same : max number number ≡ number = omega arith in
      rw (take-length (ps ++ p ∷ []), get_last (bs ++ item_here ∷ []) text_here, set_last (bs ++ item_here ∷ []) text_here text_ended, same, line_same) refl

  set_item : slice_set ((bs ++ item_here ∷ []) ++ text_ended ∷ []) (length bs) (item_block from end (length ps)) ≡ bs ++ ended_item ps p from end
  set_item = ap (λ (xs : List Block). slice_set xs (length bs) (item_block from end (length ps))) (append_assoc bs (item_here ∷ []) (text_ended ∷ [])) ∙ set_at bs (text_ended ∷ []) item_here (item_block from end (length ps))
    where
      set_at : (xs ys : List Block) (x y : Block) → slice_set (xs ++ x ∷ ys) (length xs) y ≡ xs ++ y ∷ ys
      set_at [] ys x y = refl
      set_at (z ∷ xs) ys x y = ap (λ (l : List Block). z ∷ l) (set_at xs ys x y)

  get_item : slice_get ((bs ++ item_here ∷ []) ++ text_ended ∷ []) (length bs) ≡ Some item_here
  get_item = ap (λ (xs : List Block). slice_get xs (length bs)) (append_assoc bs (item_here ∷ []) (text_ended ∷ [])) ∙ get_behind bs (text_ended ∷ []) item_here

  item_left : to_end ≤ end → to_line ≤ number → one_closed leafless ≡ between sort (bs ++ ended_item ps p from end) (ps ++ p ∷ []) end number header
  unfolding one_closed ended raised_at raised is_quote
  item_left h k =
      let last : max to_end end ≡ end = omega (arith, h) in
      let last_line : max to_line number ≡ number = omega (arith, k) in
      rw (get_item, set_item, last, last_line) refl

  pub item_ends : (byte_at text p.start == 91) ≡ false → length ps < 2 ^ 64 → to_end ≤ end → to_line ≤ number → closed_to text 1 whole ≡ between sort (bs ++ ended_item ps p from end) (ps ++ p ∷ []) end number header
  unfolding closed_to leaf_closed times
  item_ends h fits e l =
      ap (λ s. times one_closed (length s.opened - 1) s) (ap leaf_finished (settled_whole h fits) ∙ leaf_ended) ∙ item_left e l

  pub both_end : (byte_at text p.start == 91) ≡ false → length ps < 2 ^ 64 → to_end ≤ end → to_line ≤ number → closed_to text 0 whole ≡ one_closed (between sort (bs ++ ended_item ps p from end) (ps ++ p ∷ []) end number header)
  unfolding closed_to leaf_closed times
  both_end h fits e l =
      ap (λ s. times one_closed (length s.opened - 0) s) (ap leaf_finished (settled_whole h fits) ∙ leaf_ended) ∙ ap one_closed (item_left e l)

-- the list ends
list_ends : (sort : ℕ) (first : Option ℕ) (from to : ℕ) (bs : List Block) (ps : List Piece) (end number : ℕ) (header : HeaderLine) → (let s : State = one_closed (between sort (list_block first from to ∷ bs) ps end number header) in let v : BlocksView = record { blocks = s.blocks; pieces = s.pieces; definitions = s.definitions } in v) ≡ record { blocks = list_block first from end ∷ bs; pieces = ps; definitions = [] }
unfolding one_closed ended raised_at is_quote
list_ends sort first from to bs ps end number header = refl

-- ---- an item begins

-- what is known of an item's mark with a line after it
pub record Begins (sort : ℕ) (first : Option ℕ) (mark : List ℕ) (b : ℕ) (bs : List ℕ) : Type 0 where
  pub body : List ℕ
  pub final : ℕ
  pub shape : mark ≡ body ++ final ∷ []
  pub short : length mark < 2 ^ 64
  pub within : AllByRecursion IsWithin (mark ++ b ∷ bs)
  pub letter : is_ascii_alphabetic b ≡ true
  pub ink : (k : ℕ) → first_cursor (numbered k (mark ++ b ∷ bs)) ≡ front
  pub note : (k : ℕ) → note_at (numbered k (mark ++ b ∷ bs)) 0 ≡ None
  pub colon : (k : ℕ) → (cell_byte (numbered k (mark ++ b ∷ bs)) 0 == 58) ≡ false
  pub item : (k : ℕ) → container_at (numbered k (mark ++ b ∷ bs)) (tail_of (numbered k (mark ++ b ∷ bs))) front false ≡ Some (begins.Item (record { sort = sort; number = first; width = length mark; next = length mark }))

-- after it the list goes on, and the item doesn't
goes_on : (cells : List Cell) (sort to_end to_line block end number width : ℕ) → first_cursor cells ≡ front → nat_le (length cells) 0 ≡ false → 0 < width → matched cells (open_list sort to_end to_line ∷ open_item width block end number true ∷ []) [] ≡ (1, front)
unfolding passed going_on item_goes_on stopped
goes_on cells sort to_end to_line block end number width ink some wide =
    let least : nat_le width 0 ≡ false = grind (arith, nat_tests) in
    simp (ink, some, least) refl

module _ (known : Known) (text : List ℕ) (sort : ℕ) (first : Option ℕ) (mark : List ℕ) (b : ℕ) (bs : List ℕ) (h : Begins sort first mark b bs) (from end next number : ℕ) where
  abbrev width : ℕ
  width = length mark

  abbrev cells : List Cell
  cells = numbered from (mark ++ b ∷ bs)

  abbrev l : Line
  l = record { number = number; start = from; end = end; next = next }

  abbrev place_behind : LineStart
  place_behind = record { cursor = at_column width; depth = 2 }

  abbrev p : Piece
  p = piece_of 0 (from + width) end next

  abbrev item_start : ItemStart
  item_start = record { sort = sort; number = first; width = width; next = width }

  wide : 0 < width
  wide = let e : width ≡ length h.body + 1 = ap length h.shape ∙ length-append h.body (h.final ∷ []) in omega (arith, e)

  there : StandsAt cells width b
  there = stands_at from mark b bs h.short

  first_place : cell_place cells 0 end ≡ from
  first_place = by_mark mark wide
    where
      by_mark : (m : List ℕ) → 0 < length m → cell_place (numbered from (m ++ b ∷ bs)) 0 end ≡ from
      by_mark [] some = absurd (omega arith)
      by_mark (x ∷ xs) some = refl

  piece_here : text_piece cells (at_column width) l ≡ p
  piece_here = subst (λ (m : List ℕ). text_piece (numbered from (m ++ b ∷ bs)) (at_column (length m)) l ≡ piece_of 0 (from + length m) end next) (sym h.shape) (piece_there from h.body h.final b bs l)

  cursor_moves : moved cells front width ≡ at_column width
  cursor_moves = moved_to cells width b there (turned is_ascii_alphabetic 32 b h.letter refl) wide

  item_found : container_in known.syntax cells (tail_of cells) front false ≡ Some (begins.Item item_start)
  unfolding container_in
  item_found = rw (no_definition known.syntax cells (h.colon from), no_note known.syntax cells (h.note from), h.item from) refl

  none_found : (within : Bool) → container_in known.syntax cells (tail_of cells) (at_column width) within ≡ None
  none_found within = letter_opens_none known.syntax cells (tail_of cells) width b within there h.letter

  -- after an item that began, nothing else begins
  second_none : (s : State) → container_once_in known.syntax text cells l (tail_of cells) place_behind s ≡ (s, None)
  unfolding container_once_in
  second_none s = ap (begun_at text cells l place_behind s) (none_found (goes_directly 2 s))

  containers_open : (s t : State) (depth : ℕ) → goes_directly depth s ≡ false → item_opened text cells l (record { cursor = front; depth = depth }) item_start s ≡ (t, place_behind) → containers_opened_in known.syntax text cells l (tail_of cells) (record { cursor = front; depth = depth }) s ≡ (t, place_behind)
  unfolding container_once_in
  containers_open s t depth away opens =
      let place : LineStart = record { cursor = front; depth = depth } in
      let two : 2 ≤ length cells = cell_count mark wide in
      let once : container_once_in known.syntax text cells l (tail_of cells) place s ≡ (t, Some place_behind) =
      ap (λ d. begun_at text cells l place s (container_in known.syntax cells (tail_of cells) front d)) away
      ∙ ap (begun_at text cells l place s) item_found
      ∙ ap some_place opens
      in
      repeated_more (container_once_in known.syntax text cells l (tail_of cells)) (length cells) place place_behind s t (omega (arith, two)) (sym once)
      ∙ repeated_stop (container_once_in known.syntax text cells l (tail_of cells)) (length cells - 1) place_behind t t (omega (arith, two)) (sym (second_none t))
    where
      numbered_length : (k : ℕ) (xs : List ℕ) → length (numbered k xs) ≡ length xs
      numbered_length k [] = refl
      numbered_length k (x ∷ xs) = ap suc (numbered_length (k + 1) xs)

      cell_count : (m : List ℕ) → 0 < length m → 2 ≤ length (numbered from (m ++ b ∷ bs))
      cell_count m some = let e : length (numbered from (m ++ b ∷ bs)) ≡ length m + suc (length bs) = numbered_length from (m ++ b ∷ bs) ∙ length-append m (b ∷ bs) in omega (arith, e, some)

  -- ---- its text begins

  module _ (blocks : List Block) (ps : List Piece) (to_end to_line last_end last_line : ℕ) (header : HeaderLine) where
    abbrev empty : State
    empty = empty_item sort blocks ps to_end to_line width from end number last_end last_line header

    abbrev item_block_here : Block
    item_block_here = item_block from from (length ps)

    abbrev text_block_here : Block
    text_block_here = text_block p.start p.start (length ps) (length ps)

    -- the text without its line
    abbrev fresh : State
    fresh = record first_page {
      blocks = (blocks ++ item_block_here ∷ []) ++ text_block_here ∷ [];
      pieces = ps;
      opened = open_list sort to_end to_line ∷ open_item width (length blocks) end number true ∷ [];
      leaf = leaf.Paragraph;
      end = end;
      line = number;
      kept = length ps;
      header = header;
    }

    text_opens : leaf_opened leaf.Paragraph kind.Paragraph p.start l (closed_to text 2 empty) ≡ fresh
    unfolding leaf_opened closed_to leaf_closed times list_left is_list begun loosened had_marked list_of is_apart left_noted
    text_opens = refl

    fresh_stays : text_started p.start fresh ≡ fresh
    unfolding text_started
    fresh_stays =
        let same : nat_le (length ps) (length ps) ≡ true = grind (arith, nat_tests) in
        rw (get_last (blocks ++ item_block_here ∷ []) text_block_here, same, set_last (blocks ++ item_block_here ∷ []) text_block_here text_block_here) refl

    text_comes : nat_lt p.start next ≡ true → text_taken text cells l place_behind empty ≡ full_item sort blocks ps p to_end to_line width from end number header
    unfolding text_taken is_paragraph
    text_comes order =
        ap (λ (x : Piece). piece_taken x l true (text_started x.start (leaf_opened leaf.Paragraph kind.Paragraph x.start l (closed_to text 2 empty)))) piece_here
        ∙ ap (λ (s : State). piece_taken p l true (text_started p.start s)) text_opens
        ∙ ap (λ (s : State). piece_taken p l true s) fresh_stays
        ∙ piece_taken_whole p l fresh order refl

    -- no extension has a say here
    no_kind : quote_kind_in known text cells l place_behind empty ≡ None
    unfolding quote_kind_in is_new_quote is_quote
    no_kind = rw (never, never) refl

    no_tag : tag_in known text cells l place_behind false empty ≡ false
    unfolding tag_in is_first_line
    no_tag = rw (never, never) refl

    no_box : (byte_at text (from + width) == 91) ≡ false → task_in known text cells l place_behind empty ≡ None
    unfolding task_in box_at
    no_box k = rw (place_numbered from mark b bs end, k) (either _)
      where
        either : (t : Bool) → if◌then◌else◌ {A = Option Bool} t None None ≡ None
        either true = refl
        either false = refl

    no_metadata : metadata_in known text cells l place_behind false empty ≡ None
    unfolding metadata_in is_front
    no_metadata = let late : (width == 0) ≡ false = (let w : 0 < width = wide in grind (arith, w, nat_tests)) in simp (late, never) refl

    text_starts : (byte_at text (from + width) == 91) ≡ false → bytes_between text (from + width) end ≡ b ∷ bs → start_or known text cells l place_behind false empty (leaf_at cells (bytes_between text (cell_place cells width end) end) (tail_of cells) (at_column width) false false) ≡ start.Text
    unfolding quote_kind_or tag_or task_or metadata_or
    text_starts k stands =
        rw (no_kind, no_tag, no_box k, no_metadata)
        (ap (λ n. leaf_at cells (bytes_between text n end) (tail_of cells) (at_column width) false false) (place_numbered from mark b bs end)
        ∙ ap (λ (xs : List ℕ). leaf_at cells xs (tail_of cells) (at_column width) false false) stands
        ∙ letter_begins_text cells (tail_of cells) width b bs false false there h.letter)

    -- the item and its text
    item_comes : (s : State) (depth : ℕ) → goes_directly depth s ≡ false → item_opened text cells l (record { cursor = front; depth = depth }) item_start s ≡ (empty, place_behind) → (byte_at text (from + width) == 91) ≡ false → bytes_between text (from + width) end ≡ b ∷ bs → nat_lt p.start next ≡ true → leaf_started_in known text cells l (record { cursor = front; depth = depth }) s ≡ full_item sort blocks ps p to_end to_line width from end number header
    unfolding leaf_started_in started_in goes_directly is_paragraph
    item_comes s depth away opens k stands order =
        ap (started_at_in known text cells l (tail_of cells)) (containers_open s empty depth away opens)
        ∙ ap (λ x. started_in known x text cells l (tail_of cells) place_behind empty) (text_starts k stands)
        ∙ text_comes order

    no_row : (s : State) (depth : ℕ) → goes_directly depth s ≡ false → delimiters_taken text cells l front (goes_directly depth s) s ≡ (s, false)
    unfolding delimiters_taken may_delimit
    no_row s depth away = rw away refl

    -- whatever is noted of tables
    passed_item : (s : State) (depth : ℕ) → goes_directly depth s ≡ false → item_opened text cells l (record { cursor = front; depth = depth }) item_start s ≡ (empty, place_behind) → (byte_at text (from + width) == 91) ≡ false → bytes_between text (from + width) end ≡ b ∷ bs → nat_lt p.start next ≡ true → (header_now : HeaderLine) × (passed_in known text cells l (record { cursor = front; depth = depth }) s ≡ full_item sort blocks ps p to_end to_line width from end number header_now)
    unfolding passed_in tabled_in
    passed_item s depth away opens k stands order = by_tables known.syntax.tables
      where
        place : LineStart
        place = record { cursor = front; depth = depth }

        full : HeaderLine → State
        full now = full_item sort blocks ps p to_end to_line width from end number now

        comes : leaf_started_in known text cells l place s ≡ full header
        comes = item_comes s depth away opens k stands order

        by_tables : (t : Bool) → (header_now : HeaderLine) × ((if t then tabled_as known text cells l place (delimiters_taken text cells l front (goes_directly depth s) s) else leaf_started_in known text cells l place s) ≡ full header_now)
        by_tables true = (header_of cells front (is_lazy place s (leaf_started_in known text cells l place s)), ap (tabled_as known text cells l place) (no_row s depth away) ∙ ap (λ (u : State). record u { header = header_of cells front (is_lazy place s (leaf_started_in known text cells l place s)) }) comes)
        by_tables false = (header, comes)

  -- ---- the item opens

  -- as the first of its list
  first_opens : item_opened text cells l here item_start first_page ≡ (empty_item sort (list_block first from from ∷ []) [] end number width from end number 0 0 Never, place_behind)
  unfolding item_opened list_started is_in_list opened_with begun loosened had_marked list_of is_apart list_left is_list is_quote left_noted closed_to leaf_closed times
  first_opens =
      let opened_at : Cursor → ℕ → State × LineStart = λ c n. (
      let s : State = opened_with (container.Item width) kind.Item n l (list_started item_start n l (closed_to text 0 first_page)) in
      (s, record { cursor = c; depth = length s.opened })
      ) in
      ap (opened_at (moved cells front width)) first_place ∙ ap (λ c. opened_at c from) cursor_moves

  -- as a further one
  next_opens : (blocks : List Block) (ps : List Piece) (q : Piece) (to_end to_line width0 from0 end0 number0 : ℕ) (header : HeaderLine) → (byte_at text q.start == 91) ≡ false → length ps < 2 ^ 64 → to_end ≤ end0 → to_line ≤ number0 → nat_lt (plus number0 1) number ≡ false
      → item_opened text cells l (record { cursor = front; depth = 1 }) item_start (full_item sort blocks ps q to_end to_line width0 from0 end0 number0 header) ≡ (empty_item sort (blocks ++ ended_item ps q from0 end0) (ps ++ q ∷ []) end0 number0 width from end number end0 number0 header, place_behind)
  unfolding item_opened list_started is_in_list opened_with begun loosened had_marked list_of is_apart is_quote
  next_opens blocks ps q to_end to_line width0 from0 end0 number0 header k fits e0 l0 near =
      let s : State = full_item sort blocks ps q to_end to_line width0 from0 end0 number0 header in
      let done : List Block = blocks ++ ended_item ps q from0 end0 in
      let same : (sort == sort) ≡ true = grind (arith, nat_tests) in
      let opened_at : Cursor → ℕ → State → State × LineStart = λ c n t. (
      let u : State = opened_with (container.Item width) kind.Item n l (list_started item_start n l t) in
      (u, record { cursor = c; depth = length u.opened })
      ) in
      ap (λ n. opened_at (moved cells front width) n (closed_to text 1 s)) first_place
      ∙ ap (λ c. opened_at c from (closed_to text 1 s)) cursor_moves
      ∙ ap (opened_at (at_column width) from) (item_ends text sort blocks ps q to_end to_line width0 from0 end0 number0 header k fits e0 l0)
      ∙ rw (same, near, last_place done (item_block from from (length (ps ++ q ∷ [])))) refl

  -- ---- the line comes

  -- where the line is in the text
  abbrev Stands : Type 0
  Stands = (bytes_between text from end ≡ mark ++ b ∷ bs) × (bytes_between text (from + width) end ≡ b ∷ bs) × ((byte_at text (from + width) == 91) ≡ false) × (from + width < next) × (from + length (mark ++ b ∷ bs) < 2 ^ 64)

  columns : Stands → cells_of [] from (bytes_between text from end) ≡ cells
  columns w = ap (cells_of [] from) (w.0) ∙ cells_within from (mark ++ b ∷ bs) h.within (w.4)

  order_of : Stands → nat_lt p.start next ≡ true
  order_of w = let q : from + width < next = w.3 in grind (arith, q, nat_tests)

  pub first_taken : Stands → (now : HeaderLine) × (line_taken_in known text first_page l ≡ full_item sort (list_block first from from ∷ []) [] p end number width from end number now)
  unfolding line_taken_in cells_taken_in touched leaf_turn is_table goes_directly is_paragraph
  first_taken w =
      let passed = passed_item (list_block first from from ∷ []) [] end number 0 0 Never first_page 0 refl first_opens (w.2) (w.1) (order_of w) in (
        passed.0,
        ap (λ c. cells_taken_in known text c l first_page) (columns w)
            ∙ ap (λ c. taken_at_in known text cells l (record { cursor = c; depth = 0 }) first_page) (h.ink from)
            ∙ ap (λ t. turn_taken_in known t text cells l here first_page) (passes known text cells l first_page refl refl refl)
            ∙ passed.1,
      )

  some_columns : nat_le (length cells) 0 ≡ false
  some_columns = by_mark mark wide
    where
      by_mark : (m : List ℕ) → 0 < length m → nat_le (length (numbered from (m ++ b ∷ bs))) 0 ≡ false
      by_mark [] some = absurd (omega arith)
      by_mark (x ∷ xs) some = grind (arith, nat_tests)

  passes_there : (blocks : List Block) (ps : List Piece) (q : Piece) (to_end to_line width0 from0 end0 number0 : ℕ) (header : HeaderLine) → turn_in known text cells l (record { cursor = front; depth = 1 }) (full_item sort blocks ps q to_end to_line width0 from0 end0 number0 header) ≡ turn.Passes
  unfolding turn_in turn_of is_table
  passes_there blocks ps q to_end to_line width0 from0 end0 number0 header = rw never refl

  pub next_taken : (blocks : List Block) (ps : List Piece) (q : Piece) (to_end to_line width0 from0 end0 number0 : ℕ) (header : HeaderLine) → Stands → (byte_at text q.start == 91) ≡ false → length ps < 2 ^ 64 → to_end ≤ end0 → to_line ≤ number0 → nat_lt (plus number0 1) number ≡ false → 0 < width0
      → (now : HeaderLine) × (line_taken_in known text (full_item sort blocks ps q to_end to_line width0 from0 end0 number0 header) l ≡ full_item sort (blocks ++ ended_item ps q from0 end0) (ps ++ q ∷ []) p end0 number0 width from end number now)
  unfolding line_taken_in cells_taken_in touched goes_directly is_paragraph
  next_taken blocks ps q to_end to_line width0 from0 end0 number0 header w k fits e0 l0 near some0 =
      let s : State = full_item sort blocks ps q to_end to_line width0 from0 end0 number0 header in
      let place : LineStart = record { cursor = front; depth = 1 } in
      let opens = next_opens blocks ps q to_end to_line width0 from0 end0 number0 header k fits e0 l0 near in
      let passed = passed_item (blocks ++ ended_item ps q from0 end0) (ps ++ q ∷ []) end0 number0 end0 number0 header s 1 refl opens (w.2) (w.1) (order_of w) in (
        passed.0,
        ap (λ c. cells_taken_in known text c l s) (columns w)
            ∙ ap (λ m. taken_at_in known text cells l (record { cursor = m.1; depth = m.0 }) (touched l (m.0) s)) (goes_on cells sort to_end to_line (length blocks) end0 number0 width0 (h.ink from) some_columns some0)
            ∙ ap (λ t. turn_taken_in known t text cells l place s) (passes_there blocks ps q to_end to_line width0 from0 end0 number0 header)
            ∙ passed.1,
      )

-- ---- all items

-- an item's number, its mark and its line
pub record ItemLine : Type 0 where
  pub number : Option ℕ
  pub mark : List ℕ
  pub letter : ℕ
  pub others : List ℕ

abbrev pub item_bytes : ItemLine → List ℕ
item_bytes i = i.mark ++ i.letter ∷ i.others

-- all of one sort
abbrev pub AreItems : ℕ → List ItemLine → Type 0
AreItems sort is = AllByRecursion (λ i. Begins sort i.number i.mark i.letter i.others) is

abbrev pub end_of : ℕ → ItemLine → ℕ
end_of from i = from + length (item_bytes i)

abbrev next_place : ℕ → List ItemLine → ℕ
next_place end [] = end
next_place end (m ∷ ms) = end + 1

abbrev pub piece_at : ℕ → ItemLine → List ItemLine → Piece
piece_at from i ms = piece_of 0 (from + length i.mark) (end_of from i) (next_place (end_of from i) ms)

abbrev pub items_blocks : ℕ → List Piece → ItemLine → List ItemLine → List Block
items_blocks from ps i [] = ended_item ps (piece_at from i []) from (end_of from i)
items_blocks from ps i (m ∷ ms) = ended_item ps (piece_at from i (m ∷ ms)) from (end_of from i) ++ items_blocks (end_of from i + 1) (ps ++ piece_at from i (m ∷ ms) ∷ []) m ms

abbrev pub items_pieces : ℕ → ItemLine → List ItemLine → List Piece
items_pieces from i [] = piece_at from i [] ∷ []
items_pieces from i (m ∷ ms) = piece_at from i (m ∷ ms) ∷ items_pieces (end_of from i + 1) m ms

-- the lines after one
abbrev lines_past : ℕ → ℕ → List ItemLine → List Line
lines_past before from [] = []
lines_past before from (m ∷ ms) = line_list before from (item_bytes m) (map item_bytes ms)

one_line_more : (before from : ℕ) (m : ItemLine) (ms : List ItemLine) → line_list before from (item_bytes m) (map item_bytes ms) ≡ line before from (end_of from m) (next_place (end_of from m) ms) ∷ lines_past (before + 1) (end_of from m + 1) ms
one_line_more before from m [] = refl
one_line_more before from m (k ∷ ks) = refl

-- what is after an item
abbrev text_past : List ItemLine → List ℕ
text_past [] = []
text_past (m ∷ ms) = 10 ∷ lined (item_bytes m) (map item_bytes ms)

joined_past : (i : ItemLine) (ms : List ItemLine) → lined (item_bytes i) (map item_bytes ms) ≡ item_bytes i ++ text_past ms
joined_past i [] = sym (append-nil (item_bytes i))
joined_past i (m ∷ ms) = refl

item_stands : (known : Known) (text pre : List ℕ) (sort from number : ℕ) (i : ItemLine) (ms : List ItemLine) (h : Begins sort i.number i.mark i.letter i.others) → text ≡ pre ++ lined (item_bytes i) (map item_bytes ms) → from ≡ length pre → length text < 2 ^ 64 → Stands known text sort i.number i.mark i.letter i.others h from (end_of from i) (next_place (end_of from i) ms) number
item_stands known text pre sort from number i ms h t at fits =
    let rest : List ℕ = text_past ms in
    let words : List ℕ = i.letter ∷ i.others in
    let whole : text ≡ pre ++ (item_bytes i ++ rest) = t ∙ ap (λ (xs : List ℕ). pre ++ xs) (joined_past i ms) in
    let parted : text ≡ (pre ++ i.mark) ++ (words ++ rest) = whole ∙ ap (λ (xs : List ℕ). pre ++ xs) (append_assoc i.mark words rest) ∙ sym (append_assoc pre i.mark (words ++ rest)) in
    let width : length (item_bytes i) ≡ length i.mark + length words = length-append i.mark words in
    let all : length text ≡ length pre + (length (item_bytes i) + length rest) = ap length whole ∙ length-append pre (item_bytes i ++ rest) ∙ ap (λ n. length pre + n) (length-append (item_bytes i) rest) in
    let behind : from + length i.mark ≡ length (pre ++ i.mark) = ap (λ n. n + length i.mark) at ∙ sym (length-append pre i.mark) in
    let byte : byte_at text (from + length i.mark) ≡ i.letter = ap (λ (xs : List ℕ). byte_at xs (from + length i.mark)) parted ∙ byte_behind (pre ++ i.mark) (i.others ++ rest) i.letter (from + length i.mark) behind in (
      piece_between text pre (item_bytes i) rest from (end_of from i) whole at (ap (λ n. n + length (item_bytes i)) at),
      piece_between text (pre ++ i.mark) words rest (from + length i.mark) (end_of from i) parted behind (omega (arith, width, behind)),
      ap (λ x. x == 91) byte ∙ turned is_ascii_alphabetic 91 i.letter h.letter refl,
      past ms (omega (arith, width)),
      omega (arith, all, at, fits),
    )
  where
    past : (ks : List ItemLine) → from + length i.mark < end_of from i → from + length i.mark < next_place (end_of from i) ks
    past [] q = q
    past (k ∷ ks) q = omega (arith, q)

abbrev view : State → BlocksView
view s = record { blocks = s.blocks; pieces = s.pieces; definitions = s.definitions }

items_read : (known : Known) (text pre : List ℕ) (sort : ℕ) (first : Option ℕ) (before from to_end to_line : ℕ) (blocks : List Block) (ps : List Piece) (i : ItemLine) (ms : List ItemLine) (header : HeaderLine) → AreItems sort (i ∷ ms) → text ≡ pre ++ lined (item_bytes i) (map item_bytes ms) → from ≡ length pre → length text < 2 ^ 64 → length ps ≤ from → to_end ≤ end_of from i → to_line ≤ plus before 1
    → view (closed_to text 0 (fold (line_taken_in known text) (full_item sort (list_block first 0 0 ∷ blocks) ps (piece_at from i ms) to_end to_line (length i.mark) from (end_of from i) (plus before 1) header) (lines_past (before + 1) (end_of from i + 1) ms)))
    ≡ record { blocks = list_block first 0 (length text) ∷ (blocks ++ items_blocks from ps i ms); pieces = ps ++ items_pieces from i ms; definitions = [] }
items_read known text pre sort first before from to_end to_line blocks ps i [] header h t at fits short e0 l0 =
    let p : Piece = piece_at from i [] in
    let stands = item_stands known text pre sort from (plus before 1) i [] (h.0) t at fits in
    let all : length text ≡ end_of from i = ap length t ∙ length-append pre (item_bytes i) ∙ ap (λ n. n + length (item_bytes i)) (sym at) in
    let few : length ps < 2 ^ 64 = omega (arith, all, fits, short) in
    ap view (both_end text sort (list_block first 0 0 ∷ blocks) ps p to_end to_line (length i.mark) from (end_of from i) (plus before 1) header (stands.2) few e0 l0)
    ∙ list_ends sort first 0 0 (blocks ++ ended_item ps p from (end_of from i)) (ps ++ p ∷ []) (end_of from i) (plus before 1) header
    ∙ ap (λ n. (let v : BlocksView = record { blocks = list_block first 0 n ∷ (blocks ++ ended_item ps p from (end_of from i)); pieces = ps ++ p ∷ []; definitions = [] } in v)) (sym all)
items_read known text pre sort first before from to_end to_line blocks ps i (m ∷ ms) header h t at fits short e0 l0 =
    let p : Piece = piece_at from i (m ∷ ms) in
    let end : ℕ = end_of from i in
    let more : List ℕ = lined (item_bytes m) (map item_bytes ms) in
    let row : List ℕ = item_bytes i in
    let stands = item_stands known text pre sort from (plus before 1) i (m ∷ ms) (h.0) t at fits in
    let all : length text ≡ from + (length row + suc (length more)) = ap length t ∙ length-append pre (row ++ 10 ∷ more) ∙ ap (λ k. length pre + k) (length-append row (10 ∷ more)) ∙ ap (λ k. k + (length row + suc (length more))) (sym at) in
    let there : text ≡ (pre ++ (row ++ 10 ∷ [])) ++ more = t ∙ ap (λ (xs : List ℕ). pre ++ xs) (sym (append_assoc row (10 ∷ []) more)) ∙ sym (append_assoc pre (row ++ 10 ∷ []) more) in
    let longer : end + 1 ≡ length (pre ++ (row ++ 10 ∷ [])) = ap (λ k. k + length row + 1) at ∙ (let q : length pre + length row + 1 ≡ length (pre ++ (row ++ 10 ∷ [])) = grind (arith, length-append) in q) in
    let next = item_stands known text (pre ++ (row ++ 10 ∷ [])) sort (end + 1) (plus (before + 1) 1) m ms (h.1.0) there longer fits in
    let few : length ps < 2 ^ 64 = omega (arith, all, fits, short) in
    let near : nat_lt (plus (plus before 1) 1) (plus (before + 1) 1) ≡ false = (let q : plus (plus before 1) 1 ≡ plus (before + 1) 1 = omega arith in grind (arith, q, nat_tests)) in
    let some : 0 < length i.mark = (let s : length i.mark ≡ length (h.0).body + 1 = ap length (h.0).shape ∙ length-append (h.0).body ((h.0).final ∷ []) in omega (arith, s)) in
    let here : List Block = ended_item ps p from end in
    let taken = next_taken known text sort m.number m.mark m.letter m.others (h.1.0) (end + 1) (end_of (end + 1) m) (next_place (end_of (end + 1) m) ms) (plus (before + 1) 1) (list_block first 0 0 ∷ blocks) ps p to_end to_line (length i.mark) from end (plus before 1) header next (stands.2) few e0 l0 near some in
    let one : length (ps ++ p ∷ []) ≡ length ps + 1 = length-append ps (p ∷ []) in
    let rest = items_read known text (pre ++ (row ++ 10 ∷ [])) sort first (before + 1) (end + 1) end (plus before 1) (blocks ++ here) (ps ++ p ∷ []) m ms (taken.0) (h.1) there longer fits (omega (arith, one, short)) (omega arith) (omega arith) in
    let start : State = full_item sort (list_block first 0 0 ∷ blocks) ps p to_end to_line (length i.mark) from end (plus before 1) header in
    ap (λ (ls : List Line). view (closed_to text 0 (fold (line_taken_in known text) start ls))) (one_line_more (before + 1) (end + 1) m ms)
    ∙ ap (λ (s : State). view (closed_to text 0 (fold (line_taken_in known text) s (lines_past (before + 1 + 1) (end_of (end + 1) m + 1) ms)))) (taken.1)
    ∙ rest
    ∙ ap (λ (bs : List Block). (let v : BlocksView = record { blocks = list_block first 0 (length text) ∷ bs; pieces = (ps ++ p ∷ []) ++ items_pieces (end + 1) m ms; definitions = [] } in v)) (append_assoc blocks here (items_blocks (end + 1) (ps ++ p ∷ []) m ms))
    ∙ ap (λ (qs : List Piece). (let v : BlocksView = record { blocks = list_block first 0 (length text) ∷ (blocks ++ (here ++ items_blocks (end + 1) (ps ++ p ∷ []) m ms)); pieces = qs; definitions = [] } in v)) (append_assoc ps (p ∷ []) (items_pieces (end + 1) m ms))

lines_text : (sort : ℕ) (is : List ItemLine) → AreItems sort is → AllByRecursion IsLineText (map item_bytes is)
lines_text sort [] h = tt
lines_text sort (i ∷ is) h = (record { some = let q : length (item_bytes i) ≡ length i.mark + suc (length i.others) = length-append i.mark (i.letter ∷ i.others) in omega (arith, q); within = (h.0).within }, lines_text sort is (h.1))

-- the blocks of a list of such items
pub list_blocks : (syntax : Syntax) (sort : ℕ) (i : ItemLine) (ms : List ItemLine) → AreItems sort (i ∷ ms) → AllByRecursion (λ b. (b == 13) ≡ false) (lined (item_bytes i) (map item_bytes ms)) → length (lined (item_bytes i) (map item_bytes ms)) < 2 ^ 64
    → blocks_in syntax (lined (item_bytes i) (map item_bytes ms)) ≡ record { blocks = list_block i.number 0 (length (lined (item_bytes i) (map item_bytes ms))) ∷ items_blocks 0 [] i ms; pieces = items_pieces 0 i ms; definitions = [] }
unfolding blocks_in page_in
list_blocks syntax sort i ms h returns fits =
    let text : List ℕ = lined (item_bytes i) (map item_bytes ms) in
    let lines : List Line = line_list 0 0 (item_bytes i) (map item_bytes ms) in
    let known : Known = known_of syntax text lines in
    let stands = item_stands known text [] sort 0 1 i ms (h.0) refl refl fits in
    let taken = first_taken known text sort i.number i.mark i.letter i.others (h.0) 0 (end_of 0 i) (next_place (end_of 0 i) ms) 1 stands in
    ap (λ ls. view (closed_to text 0 (fold (line_taken_in (known_of syntax text ls) text) first_page ls))) (lines_split text returns 0 0 (item_bytes i) (map item_bytes ms) (lines_text sort (i ∷ ms) h))
    ∙ ap (λ ls. view (closed_to text 0 (fold (line_taken_in known text) first_page ls))) (one_line_more 0 0 i ms)
    ∙ ap (λ (s : State). view (closed_to text 0 (fold (line_taken_in known text) s (lines_past 1 (end_of 0 i + 1) ms)))) (taken.1)
    ∙ items_read known text [] sort i.number 0 0 (end_of 0 i) 1 [] [] i ms (taken.0) h refl refl fits (omega arith) (omega arith) (omega arith)
