-- Blank lines where a list is open.
use Rattle.std.proofs.Common.{◌≡◌, ℕ, ◌+◌, ◌-◌, ◌^◌, ◌<◌, ◌≤◌, Bool, true, false, if◌then◌else◌, nat_le, List, [], ◌∷◌, length, refl, ap, sym, ◌∙◌, arith, Option, Some, None}
use Rattle.std.specs.Option.{option_map_or}
use Rattle.std.proofs.lemmas.Bool.Decides.{nat_tests}
use Rattle.tocmark_read_scan.specs.Basic.{plus, bytes_between}
use Rattle.tocmark_read_scan.specs.declared.syntax.TheConstants.{CORE}
use Rattle.tocmark_read_lines.specs.Cells.{cells_at, cells_of, ink_from, moved, first_cursor}
use Rattle.tocmark_read_lines.specs.Containers.{container_at, container_in, going_on, item_goes_on, is_empty, blank_depth, stopped, passed, matched_from}
use Rattle.tocmark_read_lines.specs.DefinitionLists.{definition_start}
use Rattle.tocmark_read_lines.specs.Footnotes.{note_start}
use Rattle.tocmark_read_lines.specs.Marks.{tail_of}
use Rattle.tocmark_read_lines.specs.declared.beginnings.Tail.{Tail}
use Rattle.tocmark_read_lines.specs.declared.cell.Cell.{Cell}
use Rattle.tocmark_read_lines.specs.declared.cell.Cursor.{Cursor}
use Rattle.tocmark_read_lines.specs.declared.container.Opened.{Opened}
use Rattle.tocmark_read_lines.specs.declared.line.Line.{Line}
use Rattle.tocmark_read_lines.proofs.Columns.{length_kept, plain_cells}
use Rattle.tocmark_read_page.specs.Leaves.{is_paragraph}
use Rattle.tocmark_read_page.specs.Pages.{State, closed_to}
use Rattle.tocmark_read_page.specs.declared.leaf.Leaf.{Leaf}
use Rattle.tocmark_read_page.specs.declared.leaf.Leaf.TheVariants as leaf
use Rattle.tocmark_read_page.specs.declared.page.Block.{Block as ReadBlock}
use Rattle.tocmark_read_page.specs.declared.piece.Piece.{Piece}
use Rattle.tocmark_read_constructs.specs.Metadata.{metadata_in}
use Rattle.tocmark_read_constructs.specs.Quotes.{quote_kind_in, tag_in}
use Rattle.tocmark_read_constructs.specs.Tasks.{task_in}
use Rattle.tocmark_read_blocks.specs.Blocks.{core_known, turn_taken_in, turn_of, touched, passed_in, leaf_started_in, line_taken, started_in, started_at, started}
use Rattle.tocmark_read_blocks.specs.Containers.{goes_directly}
use Rattle.tocmark_read_blocks.specs.Leaves.{leaf_turn, leaf_at, metadata_or, task_or, quote_kind_or, tag_or}
use Rattle.tocmark_read_blocks.specs.declared.leaf.LeafStart.TheVariants as start
use Rattle.tocmark_read_blocks.specs.declared.leaf.Turn.TheVariants as turn
use Rattle.tocmark_commonmark.specs.Lines.{is_blank}
use Rattle.tocmark_block_laws.specs.Quotes.{IsPlain}
use Rattle.tocmark_block_laws.proofs.TextLines.{Sound, no_tab, between_plain}
use Rattle.tocmark_block_laws.proofs.Texts.{between_length}
use Rattle.tocmark_block_laws.proofs.Fronts.{spaces_of, place_at, cursor_same, blank_same}
use Rattle.tocmark_block_laws.proofs.Pages.{here, begin, line_comes, opens_none}
use Rattle.tocmark_block_laws.proofs.ListPages.{list_box, item_box, stack_page}

-- a blank line of a text
pub record BlankRow (text : List ℕ) : Type 0 where
  pub line : Line
  pub plain : IsPlain text
  pub fits : length text + 3 < 2 ^ 64
  pub sound : Sound text line
  pub blank : is_blank (bytes_between text line.start line.end) ≡ true

abbrev pub blank_bytes : (text : List ℕ) → BlankRow text → List ℕ
blank_bytes text b = bytes_between text b.line.start b.line.end

abbrev blank_columns : (text : List ℕ) → BlankRow text → List Cell
blank_columns text b = cells_at b.line.start [] (blank_bytes text b)

abbrev blank_place : (text : List ℕ) → BlankRow text → Cursor
blank_place text b = place_at 0 (blank_bytes text b)

pub short : (text : List ℕ) (b : BlankRow text) → length (blank_bytes text b) + 3 < 2 ^ 64
short text b =
    let s : Sound text b.line = b.sound in
    let order : b.line.start ≤ b.line.end = s.order in
    let within : b.line.end ≤ length text = s.within in
    let fits : length text + 3 < 2 ^ 64 = b.fits in
    omega (arith, between_length text b.line.start b.line.end order within, within, fits)

blank_read : (text : List ℕ) (b : BlankRow text) → cells_of [] b.line.start (blank_bytes text b) ≡ blank_columns text b
blank_read text b = plain_cells b.line.start (blank_bytes text b) (no_tab (blank_bytes text b) (between_plain text b.line.start b.line.end b.plain))

blank_cursor : (text : List ℕ) (b : BlankRow text) → first_cursor (blank_columns text b) ≡ blank_place text b
blank_cursor text b = cursor_same b.line.start (blank_bytes text b) (between_plain text b.line.start b.line.end b.plain) (short text b)

-- its columns are spaces
all_spaces : (text : List ℕ) (b : BlankRow text) → length (blank_columns text b) ≤ spaces_of (blank_bytes text b)
all_spaces text b =
    let q : nat_le (length (blank_bytes text b)) (spaces_of (blank_bytes text b)) ≡ true = blank_same (blank_bytes text b) ∙ b.blank in
    let low : length (blank_bytes text b) ≤ spaces_of (blank_bytes text b) = grind (arith, q, nat_tests) in
    omega (arith, length_kept b.line.start [] (blank_bytes text b), low)

-- it begins nothing

blank_leaf : (columns : List Cell) (rest : List ℕ) (tail : Tail) (cursor : Cursor) (p w : Bool) → nat_le (length columns) cursor.ink ≡ true → leaf_at columns rest tail cursor p w ≡ start.Blank
unfolding leaf_at
blank_leaf columns rest tail cursor p w long = rw long refl

blank_opens : (columns : List Cell) (tail : Tail) (cursor : Cursor) (p : Bool) → nat_le (length columns) cursor.ink ≡ true → container_in CORE columns tail cursor p ≡ None
unfolding container_in container_at definition_start note_start
blank_opens columns tail cursor p long = rw long refl

pub blank_begins : (text : List ℕ) (columns : List Cell) (l : Line) (d : ℕ) (cursor : Cursor) (s : State) → nat_le (length columns) cursor.ink ≡ true → begin text columns l d cursor s ≡ closed_to text d s
unfolding leaf_started_in started_in metadata_in metadata_or task_in task_or quote_kind_in quote_kind_or tag_in tag_or
blank_begins text columns l d cursor s long =
    ap (started_at text columns l (tail_of columns)) (opens_none text columns l d cursor (length columns) s (λ p. blank_opens columns (tail_of columns) cursor p long))
    ∙ ap (λ k. started k text columns l (tail_of columns) (here d cursor) s) (blank_leaf columns _ (tail_of columns) cursor (is_paragraph s.leaf) (goes_directly d s) long)

-- which containers go on in it

pub record Reached (columns : List Cell) (os : List Opened) (place : Cursor) (depth : ℕ) : Type 0 where
  pub cursor : Cursor
  pub is : matched_from columns os [] 0 place os ≡ (depth, cursor)
  pub long : nat_le (length columns) cursor.ink ≡ true

-- an item with a block goes on in a blank line
full_goes : (columns : List Cell) (place : Cursor) (width b e n : ℕ) → place.column ≡ 0 → nat_le (length columns) 0 ≡ false → nat_le (length columns) place.ink ≡ true
    → (c : Cursor) × (passed columns place (item_box width b e n true) ≡ Some c) × (nat_le (length columns) c.ink ≡ true)
unfolding passed going_on item_goes_on moved
full_goes columns place width b e n first begun long = by (nat_le width (place.ink - place.column)) refl
  where
    goes : (k m : Bool) → nat_le width (place.ink - place.column) ≡ k → nat_le (length columns) place.column ≡ m → m ≡ false → passed columns place (item_box width b e n true) ≡ (if k then Some (moved columns place (plus place.column width)) else Some (moved columns place (length columns)))
    goes k m p q r = rw (q ∙ r, long, p) refl

    near : nat_le (length columns) place.column ≡ false
    near = ap (nat_le (length columns)) first ∙ begun

    by : (k : Bool) → nat_le width (place.ink - place.column) ≡ k → (c : Cursor) × (passed columns place (item_box width b e n true) ≡ Some c) × (nat_le (length columns) c.ink ≡ true)
    by true p =
        let low : nat_le (plus place.column width) place.ink ≡ true = grind (arith, p, first, nat_tests) in
        (moved columns place (plus place.column width), goes true false p near refl, ap (λ k. nat_le (length columns) (if k then place.ink else ink_from columns (plus place.column width))) low ∙ long)
    by false p = (moved columns place (length columns), goes false false p near refl, ap (λ k. nat_le (length columns) (if k then place.ink else ink_from columns (length columns))) long ∙ long)

-- one without doesn't
empty_stops : (columns : List Cell) (place : Cursor) (width b e n : ℕ) → nat_le (length columns) place.column ≡ false → nat_le (length columns) place.ink ≡ true → passed columns place (item_box width b e n false) ≡ None
unfolding passed going_on item_goes_on
empty_stops columns place width b e n near long = rw (near, long) refl

list_passes : (columns : List Cell) (place : Cursor) (sort b e n : ℕ) (had k : Bool) → nat_le (length columns) place.column ≡ k → passed columns place (list_box sort b e n had) ≡ (if k then None else Some place)
unfolding passed going_on
list_passes columns place sort b e n had k near = rw near refl

-- where the line has no byte, all go on but an empty item
stops_full : (columns : List Cell) (place : Cursor) (sort b e n width ib ie il : ℕ) (had : Bool) → nat_le (length columns) place.column ≡ true → stopped columns (list_box sort b e n had ∷ item_box width ib ie il true ∷ []) [] 0 place ≡ 2
unfolding stopped blank_depth is_empty
stops_full columns place sort b e n width ib ie il had near = rw near refl

stops_empty : (columns : List Cell) (place : Cursor) (sort b e n width ib ie il : ℕ) (had : Bool) → nat_le (length columns) place.column ≡ true → stopped columns (list_box sort b e n had ∷ item_box width ib ie il false ∷ []) [] 0 place ≡ 1
unfolding stopped blank_depth is_empty
stops_empty columns place sort b e n width ib ie il had near = rw near refl

stops_alone : (columns : List Cell) (place : Cursor) (sort b e n : ℕ) (had : Bool) → nat_le (length columns) place.column ≡ true → stopped columns (list_box sort b e n had ∷ []) [] 0 place ≡ 1
unfolding stopped blank_depth is_empty
stops_alone columns place sort b e n had near = rw near refl

stops_one : (columns : List Cell) (place : Cursor) (os : List Opened) → nat_le (length columns) place.column ≡ false → stopped columns os [] (plus 0 1) place ≡ 1
unfolding stopped
stops_one columns place os near = rw near (let q : plus 0 1 ≡ 1 = omega arith in q)

-- what goes on after the list
abbrev onward : List Cell → List Opened → Cursor → List Opened → Option Cursor → ℕ × Cursor
onward columns os place rest p = option_map_or (λ next. matched_from columns os [] (plus 0 1) next rest) p (stopped columns os [] 0 place, place)

abbrev onward_item : List Cell → List Opened → Cursor → Option Cursor → ℕ × Cursor
onward_item columns os place p = option_map_or (λ next. matched_from columns os [] (plus (plus 0 1) 1) next []) p (stopped columns os [] (plus 0 1) place, place)

blank_full : (columns : List Cell) (place : Cursor) (sort b e n width ib ie il : ℕ) (had : Bool) → place.column ≡ 0 → nat_le (length columns) place.ink ≡ true → Reached columns (list_box sort b e n had ∷ item_box width ib ie il true ∷ []) place 2
blank_full columns place sort b e n width ib ie il had first long = by (nat_le (length columns) place.column) refl
  where
    os : List Opened
    os = list_box sort b e n had ∷ item_box width ib ie il true ∷ []

    goes : (c : Cursor) × (passed columns place (item_box width ib ie il true) ≡ Some c) × (nat_le (length columns) c.ink ≡ true) → nat_le (length columns) place.column ≡ false → Reached columns os place 2
    goes (c, p, q) near = record {
      cursor = c;
      is = ap (onward columns os place (item_box width ib ie il true ∷ [])) (list_passes columns place sort b e n had false near) ∙ ap (onward_item columns os place) p ∙ ap (λ k. (k, c)) (let r : plus (plus 0 1) 1 ≡ 2 = omega arith in r);
      long = q;
    }

    by : (k : Bool) → nat_le (length columns) place.column ≡ k → Reached columns os place 2
    by true near = record {
      cursor = place;
      is = ap (onward columns os place (item_box width ib ie il true ∷ [])) (list_passes columns place sort b e n had true near) ∙ ap (λ k. (k, place)) (stops_full columns place sort b e n width ib ie il had near);
      long = long;
    }
    by false near = goes (full_goes columns place width ib ie il first (ap (nat_le (length columns)) (sym first) ∙ near) long) near

blank_empty : (columns : List Cell) (place : Cursor) (sort b e n width ib ie il : ℕ) (had : Bool) → nat_le (length columns) place.ink ≡ true → Reached columns (list_box sort b e n had ∷ item_box width ib ie il false ∷ []) place 1
blank_empty columns place sort b e n width ib ie il had long = by (nat_le (length columns) place.column) refl
  where
    os : List Opened
    os = list_box sort b e n had ∷ item_box width ib ie il false ∷ []

    by : (k : Bool) → nat_le (length columns) place.column ≡ k → Reached columns os place 1
    by true near = record {
      cursor = place;
      is = ap (onward columns os place (item_box width ib ie il false ∷ [])) (list_passes columns place sort b e n had true near) ∙ ap (λ k. (k, place)) (stops_empty columns place sort b e n width ib ie il had near);
      long = long;
    }
    by false near = record {
      cursor = place;
      is = ap (onward columns os place (item_box width ib ie il false ∷ [])) (list_passes columns place sort b e n had false near) ∙ ap (onward_item columns os place) (empty_stops columns place width ib ie il near long) ∙ ap (λ k. (k, place)) (stops_one columns place os near);
      long = long;
    }

blank_alone : (columns : List Cell) (place : Cursor) (sort b e n : ℕ) (had : Bool) → nat_le (length columns) place.ink ≡ true → Reached columns (list_box sort b e n had ∷ []) place 1
blank_alone columns place sort b e n had long = by (nat_le (length columns) place.column) refl
  where
    os : List Opened
    os = list_box sort b e n had ∷ []

    by : (k : Bool) → nat_le (length columns) place.column ≡ k → Reached columns os place 1
    by true near = record {
      cursor = place;
      is = ap (onward columns os place []) (list_passes columns place sort b e n had true near) ∙ ap (λ k. (k, place)) (stops_alone columns place sort b e n had near);
      long = long;
    }
    by false near = record {
      cursor = place;
      is = ap (onward columns os place []) (list_passes columns place sort b e n had false near) ∙ ap (λ k. (k, place)) (let r : plus 0 1 ≡ 1 = omega arith in r);
      long = long;
    }

-- a blank line ends what doesn't go on in it

blank_comes : (text : List ℕ) (b : BlankRow text) (d : ℕ) (os : List Opened) (lf : Leaf) (bs : List ReadBlock) (ps : List Piece) (end number kept : ℕ) → Reached (blank_columns text b) os (blank_place text b) d
    → ((cursor : Cursor) → (if nat_le (length os) d then leaf_turn text (blank_columns text b) b.line cursor lf else turn.Passes) ≡ turn.Passes)
    → line_taken text (stack_page os lf bs ps end number kept) b.line ≡ closed_to text d (stack_page os lf bs ps end number kept)
unfolding turn_of touched passed_in
blank_comes text b d os lf bs ps end number kept r passes =
    line_comes text (blank_columns text b) b.line d r.cursor (stack_page os lf bs ps end number kept) (blank_read text b)
    (ap (λ c. matched_from (blank_columns text b) os [] 0 c os) (blank_cursor text b) ∙ r.is)
    ∙ ap (λ t. turn_taken_in core_known t text (blank_columns text b) b.line (here d r.cursor) (stack_page os lf bs ps end number kept)) (passes r.cursor)
    ∙ blank_begins text (blank_columns text b) b.line d r.cursor (stack_page os lf bs ps end number kept) r.long

blank_ink : (text : List ℕ) (b : BlankRow text) → nat_le (length (blank_columns text b)) (0 + spaces_of (blank_bytes text b)) ≡ true
blank_ink text b = let low : length (blank_columns text b) ≤ spaces_of (blank_bytes text b) = all_spaces text b in grind (arith, low, nat_tests)

-- a leaf that lets a blank line pass
abbrev pub is_resting : Leaf → Bool
is_resting leaf.Nothing = true
is_resting leaf.Paragraph = true
is_resting lf = false

pub rests : (text : List ℕ) (columns : List Cell) (l : Line) (cursor : Cursor) (lf : Leaf) → is_resting lf ≡ true → leaf_turn text columns l cursor lf ≡ turn.Passes
unfolding leaf_turn
rests text columns l cursor leaf.Nothing e = refl
rests text columns l cursor leaf.Paragraph e = refl
rests text columns l cursor leaf.Indented e = absurd cc
rests text columns l cursor (leaf.Fenced f) e = absurd cc
rests text columns l cursor (leaf.Html k) e = absurd cc
rests text columns l cursor (leaf.Metadata k) e = absurd cc
rests text columns l cursor (leaf.Table t) e = absurd cc

pub blank_in_full : (text : List ℕ) (w : BlankRow text) (lf : Leaf) (sort b e n width ib ie il : ℕ) (had : Bool) (bs : List ReadBlock) (ps : List Piece) (end number kept : ℕ) → is_resting lf ≡ true
    → line_taken text (stack_page (list_box sort b e n had ∷ item_box width ib ie il true ∷ []) lf bs ps end number kept) w.line ≡ closed_to text 2 (stack_page (list_box sort b e n had ∷ item_box width ib ie il true ∷ []) lf bs ps end number kept)
blank_in_full text w lf sort b e n width ib ie il had bs ps end number kept rest =
    blank_comes text w 2 (list_box sort b e n had ∷ item_box width ib ie il true ∷ []) lf bs ps end number kept (blank_full (blank_columns text w) (blank_place text w) sort b e n width ib ie il had refl (blank_ink text w))
    (λ cursor. rests text (blank_columns text w) w.line cursor lf rest)

pub blank_in_empty : (text : List ℕ) (w : BlankRow text) (lf : Leaf) (sort b e n width ib ie il : ℕ) (had : Bool) (bs : List ReadBlock) (ps : List Piece) (end number kept : ℕ)
    → line_taken text (stack_page (list_box sort b e n had ∷ item_box width ib ie il false ∷ []) lf bs ps end number kept) w.line ≡ closed_to text 1 (stack_page (list_box sort b e n had ∷ item_box width ib ie il false ∷ []) lf bs ps end number kept)
blank_in_empty text w lf sort b e n width ib ie il had bs ps end number kept =
    blank_comes text w 1 (list_box sort b e n had ∷ item_box width ib ie il false ∷ []) lf bs ps end number kept (blank_empty (blank_columns text w) (blank_place text w) sort b e n width ib ie il had (blank_ink text w)) (λ cursor. refl)

pub blank_in_list : (text : List ℕ) (w : BlankRow text) (sort b e n : ℕ) (had : Bool) (bs : List ReadBlock) (ps : List Piece) (end number kept : ℕ)
    → line_taken text (stack_page (list_box sort b e n had ∷ []) leaf.Nothing bs ps end number kept) w.line ≡ closed_to text 1 (stack_page (list_box sort b e n had ∷ []) leaf.Nothing bs ps end number kept)
blank_in_list text w sort b e n had bs ps end number kept =
    blank_comes text w 1 (list_box sort b e n had ∷ []) leaf.Nothing bs ps end number kept (blank_alone (blank_columns text w) (blank_place text w) sort b e n had (blank_ink text w)) (λ cursor. rests text (blank_columns text w) w.line cursor leaf.Nothing refl)

pub blank_at_top : (text : List ℕ) (w : BlankRow text) (lf : Leaf) (bs : List ReadBlock) (ps : List Piece) (end number kept : ℕ) → is_resting lf ≡ true
    → line_taken text (stack_page [] lf bs ps end number kept) w.line ≡ closed_to text 0 (stack_page [] lf bs ps end number kept)
blank_at_top text w lf bs ps end number kept rest =
    blank_comes text w 0 [] lf bs ps end number kept (record { cursor = blank_place text w; is = refl; long = blank_ink text w }) (λ cursor. rests text (blank_columns text w) w.line cursor lf rest)
