-- A line where lists are open in each other: which containers go on in it, and what is left of it.
use Rattle.std.proofs.Common.{◌≡◌, ◌⊎◌, inl, inr, ℕ, suc, ◌+◌, ◌-◌, ◌^◌, ◌<◌, ◌≤◌, Bool, true, false, ◌||◌, if◌then◌else◌, min, nat_le, List, [], ◌∷◌, ◌++◌, length, map, drop, refl, ap, sym, subst, ◌∙◌, arith, append-nil, length-append, length-drop, true≢false, Option, Some, None}
use Rattle.std.specs.Prelude.{unwrap_or}
use Rattle.std.specs.List.{AllByRecursion}
use Rattle.std.specs.Option.{option_map_or}
use Rattle.std.proofs.lemmas.Bool.Decides.{nat_tests}
use Rattle.tocmark_read_scan.specs.Basic.{plus, bytes_between}
use Rattle.tocmark_read_lines.specs.Cells.{cells_at, cells_of, ink_from, moved, first_cursor}
use Rattle.tocmark_read_lines.specs.Containers.{going_on_as, going_on, item_goes_on, is_empty, blank_depth, quote_from, stopped, passed, matched_from}
use Rattle.tocmark_read_lines.specs.declared.cell.Cell.{Cell}
use Rattle.tocmark_read_lines.specs.declared.cell.Cursor.{Cursor}
use Rattle.tocmark_read_lines.specs.declared.container.Container.{Container}
use Rattle.tocmark_read_lines.specs.declared.container.Container.TheVariants as container
use Rattle.tocmark_read_lines.specs.declared.container.Opened.{Opened}
use Rattle.tocmark_read_lines.specs.declared.line.Line.{Line}
use Rattle.tocmark_read_lines.proofs.Columns.{length_kept, plain_cells}
use Rattle.tocmark_read_page.specs.Pages.{State, closed_to}
use Rattle.tocmark_read_page.specs.declared.leaf.Leaf.{Leaf}
use Rattle.tocmark_read_page.specs.declared.leaf.Leaf.TheVariants as leaf
use Rattle.tocmark_read_page.specs.declared.page.Block.{Block as ReadBlock}
use Rattle.tocmark_read_page.specs.declared.piece.Piece.{Piece}
use Rattle.tocmark_read_blocks.specs.Blocks.{core_known, turn_taken_in, turn_of, touched, passed_in, line_taken}
use Rattle.tocmark_read_blocks.specs.Leaves.{leaf_turn}
use Rattle.tocmark_read_blocks.specs.declared.leaf.Turn.TheVariants as turn
use Rattle.tocmark_commonmark.specs.Lines.{Line as DeclaredLine, Part, Written, is_blank, indent}
use Rattle.tocmark_block_laws.specs.Quotes.{IsPlain, ends_with_feed}
use Rattle.tocmark_block_laws.specs.Lists.{belongs, inner_line}
use Rattle.tocmark_block_laws.proofs.TextLines.{Sound, no_tab, between_plain}
use Rattle.tocmark_block_laws.proofs.Feeds.{has_feed}
use Rattle.tocmark_block_laws.proofs.Fronts.{spaces_of, part_at, place_at, cursor_same, indent_same, spaces_low, blank_same}
use Rattle.tocmark_block_laws.proofs.Codes.{Fed}
use Rattle.tocmark_block_laws.proofs.Open.{last_place, get_last, all_append}
use Rattle.tocmark_block_laws.proofs.Starts.{At}
use Rattle.tocmark_block_laws.proofs.Seen.{at_line}
use Rattle.tocmark_block_laws.proofs.Indented.{Indented, indented, item_next, columns_gone, spaces_dropped}
use Rattle.tocmark_block_laws.proofs.Pages.{here, begin, line_comes}
use Rattle.tocmark_block_laws.proofs.BlankLines.{BlankRow, is_resting, rests, short, blank_begins}
use Rattle.tocmark_block_laws.proofs.ListPages.{list_box, item_box, stack_page}
use Rattle.tocmark_block_laws.proofs.Nests.{Home, AtTop, InItem, boxes}

-- what is known of each line of a text
pub record Known (text : List ℕ) (l : Line) : Type 0 where
  pub plain : IsPlain text
  pub fits : length text + 3 < 2 ^ 64
  pub sound : Sound text l
  pub feedless : has_feed (bytes_between text l.start l.end) ≡ false
  pub fed : ends_with_feed text ≡ true → Fed text l

abbrev pub bytes_in : List ℕ → Line → List ℕ
bytes_in text l = bytes_between text l.start l.end

abbrev pub columns_of : List ℕ → Line → List Cell
columns_of text l = cells_at l.start [] (bytes_in text l)

-- what is left of a line from a column on
abbrev pub left_from : List ℕ → Line → ℕ → List ℕ
left_from text l c = drop c (bytes_in text l)

abbrev pub place_from : List ℕ → Line → ℕ → Cursor
place_from text l c = place_at c (left_from text l c)

abbrev pub part_from : List ℕ → Line → ℕ → Part
part_from text l c = part_at c (left_from text l c)

pub at_column : (text : List ℕ) (l : Line) → Known text l → (c : ℕ) → c ≤ length (bytes_in text l) → At text l c (bytes_in text l) (left_from text l c)
at_column text l k c inside = at_line text l c k.plain k.fits k.sound k.feedless k.fed inside

-- a line goes on in containers of these kinds, from one place to another
abbrev pub Steps : List Cell → Cursor → List Container → Cursor → Type 0
Steps columns from [] to = from ≡ to
Steps columns from (k ∷ ks) to = (next : Cursor) × (nat_le (length columns) from.column ≡ false) × ((had : Bool) → going_on_as k columns from had ≡ Some next) × Steps columns next ks to

pub steps_more : (columns : List Cell) (from to next : Cursor) (ks js : List Container) → Steps columns from ks to → Steps columns to js next → Steps columns from (ks ++ js) next
steps_more columns from to next [] js h k = subst (λ c. Steps columns c js next) (sym h) k
steps_more columns from to next (x ∷ ks) js (mid, left, goes, h) k = (mid, left, goes, steps_more columns mid to next ks js h k)

pub steps_in : (columns : List Cell) (from to : Cursor) (ks js : List Container) → ks ≡ js → Steps columns from ks to → Steps columns from js to
steps_in columns from to ks js e h = subst (λ xs. Steps columns from xs to) e h

-- a line that comes where containers of these kinds are open, and goes on in all of them
pub record Come (text : List ℕ) (ks : List Container) : Type 0 where
  pub line : Line
  pub known : Known text line
  pub column : ℕ
  pub inside : column ≤ length (bytes_in text line)
  pub steps : is_blank (bytes_in text line) ≡ false → Steps (columns_of text line) (place_at 0 (bytes_in text line)) ks (place_from text line column)
  pub same : is_blank (left_from text line column) ≡ is_blank (bytes_in text line)
  pub deep : is_blank (bytes_in text line) ≡ false → length ks ≤ column

-- as the declaration has it
abbrev pub come_part : (text : List ℕ) (ks : List Container) → Come text ks → Part
come_part text ks v = part_from text v.line v.column

abbrev pub come_shown : (text : List ℕ) (ks : List Container) → Come text ks → DeclaredLine
come_shown text ks v = Written (come_part text ks v)

abbrev pub is_blank_come : (text : List ℕ) (ks : List Container) → Come text ks → Bool
is_blank_come text ks v = is_blank (bytes_in text v.line)

-- something is left of a line that isn't blank
pub some_left : (text : List ℕ) (l : Line) (c : ℕ) → c ≤ length (bytes_in text l) → is_blank (left_from text l c) ≡ false → nat_le (length (columns_of text l)) c ≡ false
some_left text l c inside ink =
    let low : nat_le (length (left_from text l c)) (spaces_of (left_from text l c)) ≡ false = blank_same (left_from text l c) ∙ ink in
    grind (arith, length_kept l.start [] (bytes_in text l), length-drop c (bytes_in text l), low, inside, nat_tests)

-- which containers go on in a line that isn't blank

-- what comes after one that is passed or not
abbrev after_one : List Cell → List Opened → ℕ → Cursor → List Opened → Option Cursor → ℕ × Cursor
after_one columns full count from os p = option_map_or (λ next. matched_from columns full [] (plus count 1) next os) p (stopped columns full [] count from, from)

one_passes : (columns : List Cell) (from next : Cursor) (o : Opened) → nat_le (length columns) from.column ≡ false → going_on_as o.container columns from o.had ≡ Some next → passed columns from o ≡ Some next
unfolding passed going_on
one_passes columns from next o left goes = rw left goes

one_stops : (columns : List Cell) (from : Cursor) (o : Opened) → going_on_as o.container columns from o.had ≡ None → passed columns from o ≡ None
unfolding passed going_on
one_stops columns from o goes = rw goes (by (nat_le (length columns) from.column))
  where
    either : Bool → Option Cursor
    either k = if k then None else None

    by : (k : Bool) → either k ≡ None
    by true = refl
    by false = refl

matched_past : (columns : List Cell) (full : List Opened) (count : ℕ) (from to : Cursor) (os rest : List Opened) → Steps columns from (map (λ (o : Opened). o.container) os) to → count + length os + 1 < 2 ^ 64
    → matched_from columns full [] count from (os ++ rest) ≡ matched_from columns full [] (count + length os) to rest
matched_past columns full count from to [] rest h fits = ap (λ c. matched_from columns full [] count c rest) h ∙ ap (λ n. matched_from columns full [] n to rest) (let q : count ≡ count + 0 = omega arith in q)
matched_past columns full count from to (o ∷ os) rest (next, left, goes, h) fits =
    ap (after_one columns full count from (os ++ rest)) (one_passes columns from next o left (goes o.had))
    ∙ ap (λ n. matched_from columns full [] n next (os ++ rest)) (let q : plus count 1 ≡ count + 1 = omega (arith, fits) in q)
    ∙ matched_past columns full (count + 1) next to os rest h (omega (arith, fits))
    ∙ ap (λ n. matched_from columns full [] n to rest) (let q : count + 1 + length os ≡ count + suc (length os) = omega arith in q)

pub list_passes : (columns : List Cell) (place : Cursor) (sort b e n : ℕ) (had : Bool) → nat_le (length columns) place.column ≡ false → passed columns place (list_box sort b e n had) ≡ Some place
list_passes columns place sort b e n had left = one_passes columns place place (list_box sort b e n had) left refl

-- where a line is read

pub line_read : (text : List ℕ) (l : Line) → Known text l → cells_of [] l.start (bytes_between text l.start l.end) ≡ columns_of text l
line_read text l k = plain_cells l.start (bytes_in text l) (no_tab (bytes_in text l) (between_plain text l.start l.end k.plain))

pub line_cursor : (text : List ℕ) (l : Line) → Known text l → first_cursor (columns_of text l) ≡ place_at 0 (bytes_in text l)
line_cursor text l k = let a : At text l 0 (bytes_in text l) (left_from text l 0) = at_column text l k 0 (omega arith) in cursor_same l.start (bytes_in text l) a.whole a.short

-- it goes on in all containers that are open
pub comes_home : (text : List ℕ) (os : List Opened) (ks : List Container) → map (λ (o : Opened). o.container) os ≡ ks → (v : Come text ks) → is_blank (bytes_in text v.line) ≡ false → (lf : Leaf) (bs : List ReadBlock) (ps : List Piece) (end number kept : ℕ) → is_resting lf ≡ true → length os + 2 < 2 ^ 64
    → line_taken text (stack_page os lf bs ps end number kept) v.line ≡ begin text (columns_of text v.line) v.line (length os) (place_from text v.line v.column) (stack_page os lf bs ps end number kept)
unfolding turn_of touched passed_in
comes_home text os ks kinds v ink lf bs ps end number kept rest fits =
    line_comes text columns v.line (length os) place page (line_read text v.line v.known)
    (ap (λ c. matched_from columns os [] 0 c os) (line_cursor text v.line v.known) ∙ ap (matched_from columns os [] 0 (place_at 0 (bytes_in text v.line))) (sym (append-nil os))
    ∙ matched_past columns os 0 (place_at 0 (bytes_in text v.line)) place os [] (steps_in columns (place_at 0 (bytes_in text v.line)) place ks (map (λ (o : Opened). o.container) os) (sym kinds) (v.steps ink)) (omega (arith, fits)) ∙ ap (λ n. (n, place)) (let q : 0 + length os ≡ length os = omega arith in q))
    ∙ ap (λ k. turn_taken_in core_known (if k then leaf_turn text columns v.line place lf else turn.Passes) text columns v.line (here (length os) place) page) (let q : nat_le (length os) (length os) ≡ true = grind (arith, nat_tests) in q)
    ∙ ap (λ t. turn_taken_in core_known t text columns v.line (here (length os) place) page) (rests text columns v.line place lf rest)
  where
    columns : List Cell
    columns = columns_of text v.line

    place : Cursor
    place = place_from text v.line v.column

    page : State
    page = stack_page os lf bs ps end number kept

-- it goes on in all of them, and a list is open, too
pub comes_in_list : (text : List ℕ) (os : List Opened) (ks : List Container) → map (λ (o : Opened). o.container) os ≡ ks → (v : Come text ks) → is_blank (bytes_in text v.line) ≡ false → (sort b e n : ℕ) (had : Bool) (bs : List ReadBlock) (ps : List Piece) (end number kept : ℕ) → length os + 2 < 2 ^ 64
    → line_taken text (stack_page (os ++ list_box sort b e n had ∷ []) leaf.Nothing bs ps end number kept) v.line ≡ begin text (columns_of text v.line) v.line (suc (length os)) (place_from text v.line v.column) (stack_page (os ++ list_box sort b e n had ∷ []) leaf.Nothing bs ps end number kept)
unfolding turn_of touched passed_in leaf_turn
comes_in_list text os ks kinds v ink sort b e n had bs ps end number kept fits =
    line_comes text columns v.line (suc (length os)) place page (line_read text v.line v.known)
    (ap (λ c. matched_from columns full [] 0 c full) (line_cursor text v.line v.known)
    ∙ matched_past columns full 0 (place_at 0 (bytes_in text v.line)) place os (list ∷ []) (steps_in columns (place_at 0 (bytes_in text v.line)) place ks (map (λ (o : Opened). o.container) os) (sym kinds) (v.steps ink)) (omega (arith, fits))
    ∙ ap (after_one columns full (0 + length os) place []) (list_passes columns place sort b e n had (some_left text v.line v.column v.inside (v.same ∙ ink)))
    ∙ ap (λ m. (m, place)) (let q : plus (0 + length os) 1 ≡ suc (length os) = omega (arith, fits) in q))
    ∙ by (nat_le (length full) (suc (length os)))
  where
    columns : List Cell
    columns = columns_of text v.line

    place : Cursor
    place = place_from text v.line v.column

    list : Opened
    list = list_box sort b e n had

    full : List Opened
    full = os ++ list ∷ []

    page : State
    page = stack_page full leaf.Nothing bs ps end number kept

    by : (k : Bool) → turn_taken_in core_known (if k then turn.Passes else turn.Passes) text columns v.line (here (suc (length os)) place) page ≡ turn_taken_in core_known turn.Passes text columns v.line (here (suc (length os)) place) page
    by true = refl
    by false = refl

-- it goes on in these and in a list, and not in the item of the list
pub comes_after : (text : List ℕ) (os : List Opened) (ks : List Container) → map (λ (o : Opened). o.container) os ≡ ks → (v : Come text ks) → is_blank (bytes_in text v.line) ≡ false → (sort b le ln width ib e n : ℕ) (some : Bool) (deeper : List Opened) → nat_le width (indent (come_part text ks v)) ≡ false → (lf : Leaf) (bs : List ReadBlock) (ps : List Piece) (end number kept : ℕ) → length os + 2 < 2 ^ 64
    → line_taken text (stack_page (os ++ list_box sort b le ln true ∷ item_box width ib e n some ∷ deeper) lf bs ps end number kept) v.line
    ≡ begin text (columns_of text v.line) v.line (suc (length os)) (place_from text v.line v.column) (stack_page (os ++ list_box sort b le ln true ∷ item_box width ib e n some ∷ deeper) lf bs ps end number kept)
unfolding turn_of touched passed_in stopped
comes_after text os ks kinds v ink sort b le ln width ib e n some deeper outside lf bs ps end number kept fits =
    line_comes text columns v.line (suc (length os)) place page (line_read text v.line v.known)
    (ap (λ c. matched_from columns full [] 0 c full) (line_cursor text v.line v.known)
    ∙ matched_past columns full 0 (place_at 0 (bytes_in text v.line)) place os (list ∷ item ∷ deeper) (steps_in columns (place_at 0 (bytes_in text v.line)) place ks (map (λ (o : Opened). o.container) os) (sym kinds) (v.steps ink)) (omega (arith, fits))
    ∙ ap (after_one columns full (0 + length os) place (item ∷ deeper)) (list_passes columns place sort b le ln true left)
    ∙ ap (after_one columns full (plus (0 + length os) 1) place deeper) (one_stops columns place item stops)
    ∙ ap (λ k. ((if k then unwrap_or (quote_from [] (plus (0 + length os) 1)) (blank_depth full) else plus (0 + length os) 1), place)) left
    ∙ ap (λ m. (m, place)) (let q : plus (0 + length os) 1 ≡ suc (length os) = omega (arith, fits) in q))
    ∙ ap (λ k. turn_taken_in core_known (if k then leaf_turn text columns v.line place lf else turn.Passes) text columns v.line (here (suc (length os)) place) page) shorter
  where
    columns : List Cell
    columns = columns_of text v.line

    place : Cursor
    place = place_from text v.line v.column

    list : Opened
    list = list_box sort b le ln true

    item : Opened
    item = item_box width ib e n some

    full : List Opened
    full = os ++ list ∷ item ∷ deeper

    page : State
    page = stack_page full lf bs ps end number kept

    left : nat_le (length columns) place.column ≡ false
    left = some_left text v.line v.column v.inside (v.same ∙ ink)

    i : Indented v.line v.column (bytes_in text v.line) (left_from text v.line v.column) width
    i = indented text v.line v.column (bytes_in text v.line) (left_from text v.line v.column) (at_column text v.line v.known v.column v.inside) width

    stops : item_goes_on columns place width some ≡ None
    stops = i.goes some ∙ ap (λ k. item_next k (nat_le width (indent (come_part text ks v))) some (place_at i.to (drop i.to (bytes_in text v.line)))) (v.same ∙ ink) ∙ ap (λ k. item_next false k some (place_at i.to (drop i.to (bytes_in text v.line)))) outside

    shorter : nat_le (length full) (suc (length os)) ≡ false
    shorter = let q : length full ≡ length os + suc (suc (length deeper)) = length-append os (list ∷ item ∷ deeper) in grind (arith, q, nat_tests)

-- blank lines

-- a list, or an item with a block in it
abbrev pub Goes : Opened → Type 0
Goes o = ((sort : ℕ) × (o.container ≡ container.List sort)) ⊎ ((width : ℕ) × (o.container ≡ container.Item width) × (o.had ≡ true))

abbrev pub AllGo : List Opened → Type 0
AllGo os = AllByRecursion Goes os

-- where the item that lines come into is in such containers
abbrev pub Steady : Home → Type 0
Steady AtTop = Unit {0}
Steady (InItem outer sort b le ln width ib) = AllGo outer

pub boxes_go : (p : Home) (e n : ℕ) → Steady p → AllGo (boxes p e n true)
boxes_go AtTop e n h = tt
boxes_go (InItem outer sort b le ln width ib) e n h =
    all_append Goes (outer ++ list_box sort b le ln true ∷ []) (item_box width ib e n true ∷ []) (all_append Goes outer (list_box sort b le ln true ∷ []) h (inl (sort, refl), tt)) (inr (width, refl, refl), tt)

pub list_goes : (os : List Opened) (sort b le ln : ℕ) (had : Bool) → AllGo os → AllGo (os ++ list_box sort b le ln had ∷ [])
list_goes os sort b le ln had h = all_append Goes os (list_box sort b le ln had ∷ []) h (inl (sort, refl), tt)

-- the cursor is at or before the ink, and the ink is past the end
record Long (columns : List Cell) (place : Cursor) : Type 0 where
  order : place.column ≤ place.ink
  past : nat_le (length columns) place.ink ≡ true

item_goes : (columns : List Cell) (place : Cursor) (width : ℕ) → Long columns place → nat_le (length columns) place.column ≡ false → (c : Cursor) × (item_goes_on columns place width true ≡ Some c) × Long columns c
unfolding item_goes_on moved
item_goes columns place width h left = by (nat_le width (place.ink - place.column)) refl
  where
    order : place.column ≤ place.ink
    order = h.order

    past : nat_le (length columns) place.ink ≡ true
    past = h.past

    goes : (k : Bool) → nat_le width (place.ink - place.column) ≡ k → item_goes_on columns place width true ≡ (if k then Some (moved columns place (plus place.column width)) else Some (moved columns place (length columns)))
    goes k e = rw (past, e) refl

    by : (k : Bool) → nat_le width (place.ink - place.column) ≡ k → (c : Cursor) × (item_goes_on columns place width true ≡ Some c) × Long columns c
    by true e =
        let low : nat_le (plus place.column width) place.ink ≡ true = grind (arith, e, order, nat_tests) in
        let ink : (if nat_le (plus place.column width) place.ink then place.ink else ink_from columns (plus place.column width)) ≡ place.ink = ap (λ k. if k then place.ink else ink_from columns (plus place.column width)) low in
        (moved columns place (plus place.column width), goes true e, record { order = (let q : plus place.column width ≤ place.ink = grind (arith, low, nat_tests) in subst (λ n. plus place.column width ≤ n) (sym ink) q); past = ap (nat_le (length columns)) ink ∙ past })
    by false e =
        let ink : (if nat_le (length columns) place.ink then place.ink else ink_from columns (length columns)) ≡ place.ink = ap (λ k. if k then place.ink else ink_from columns (length columns)) past in
        (moved columns place (length columns), goes false e, record { order = (let q : length columns ≤ place.ink = grind (arith, past, nat_tests) in subst (λ n. length columns ≤ n) (sym ink) q); past = ap (nat_le (length columns)) ink ∙ past })

-- how many go on, and that nothing but spaces is left
record Ended (columns : List Cell) (full : List Opened) (d count : ℕ) (place : Cursor) (os : List Opened) : Type 0 where
  cursor : Cursor
  is : matched_from columns full [] count place os ≡ (d, cursor)
  long : nat_le (length columns) cursor.ink ≡ true

stopped_at : (columns : List Cell) (full : List Opened) (count : ℕ) (place : Cursor) (k : Bool) → nat_le (length columns) place.column ≡ k → stopped columns full [] count place ≡ (if k then blank_depth full else count)
unfolding stopped
stopped_at columns full count place k e = rw e (by k)
  where
    by : (m : Bool) → (if m then blank_depth full else count) ≡ (if m then blank_depth full else count)
    by m = refl

not_passed : (columns : List Cell) (place : Cursor) (o : Opened) → nat_le (length columns) place.column ≡ true → passed columns place o ≡ None
unfolding passed
not_passed columns place o e = rw e refl

-- a line of spaces goes on in these, and then in others
blank_past : (columns : List Cell) (full : List Opened) (d count : ℕ) (place : Cursor) (os rest : List Opened) → AllGo os → Long columns place → blank_depth full ≡ d → count + length os + 1 < 2 ^ 64
    → ((c : Cursor) → Long columns c → Ended columns full d (count + length os) c rest) → Ended columns full d count place (os ++ rest)
blank_past columns full d count place [] rest all h depth_is fits last =
    subst (λ n. Ended columns full d n place rest) (let q : count + 0 ≡ count = omega arith in q) (last place h)
blank_past columns full d count place (o ∷ os) rest all h depth_is fits last =
    by (nat_le (length columns) place.column) refl
    (λ c k. blank_past columns full d (count + 1) c os rest (all.1) k depth_is (omega (arith, fits)) (λ e j. subst (λ n. Ended columns full d n e rest) (let q : count + suc (length os) ≡ count + 1 + length os = omega arith in q) (last e j)))
  where
    Again : Type 0
    Again = (c : Cursor) → Long columns c → Ended columns full d (count + 1) c (os ++ rest)

    onward : (c : Cursor) → passed columns place o ≡ Some c → Ended columns full d (count + 1) c (os ++ rest) → Ended columns full d count place (o ∷ (os ++ rest))
    onward c e g = record {
      cursor = g.cursor;
      is = ap (after_one columns full count place (os ++ rest)) e ∙ ap (λ n. matched_from columns full [] n c (os ++ rest)) (let q : plus count 1 ≡ count + 1 = omega (arith, fits) in q) ∙ g.is;
      long = g.long;
    }

    in_item : nat_le (length columns) place.column ≡ false → (width : ℕ) → o.container ≡ container.Item width → o.had ≡ true → (c : Cursor) × (item_goes_on columns place width true ≡ Some c) × Long columns c → Again → Ended columns full d count place (o ∷ (os ++ rest))
    in_item left width is had (c, goes, k) again =
        onward c (one_passes columns place c o left (ap (λ x. going_on_as x columns place o.had) is ∙ ap (λ x. item_goes_on columns place width x) had ∙ goes)) (again c k)

    one : nat_le (length columns) place.column ≡ false → Goes o → Again → Ended columns full d count place (o ∷ (os ++ rest))
    one left (inl (sort, is)) again = onward place (one_passes columns place place o left (ap (λ x. going_on_as x columns place o.had) is)) (again place h)
    one left (inr (width, is, had)) again = in_item left width is had (item_goes columns place width h left) again

    by : (k : Bool) → nat_le (length columns) place.column ≡ k → Again → Ended columns full d count place (o ∷ (os ++ rest))
    by true e again = record {
      cursor = place;
      is = ap (after_one columns full count place (os ++ rest)) (not_passed columns place o e) ∙ ap (λ n. (n, place)) (stopped_at columns full count place true e ∙ depth_is);
      long = h.past;
    }
    by false e again = one e (all.0) again

-- a line of spaces begins long
blank_long : (text : List ℕ) (b : BlankRow text) → Long (columns_of text b.line) (place_at 0 (bytes_in text b.line))
blank_long text b =
    let xs : List ℕ = bytes_in text b.line in
    let all : nat_le (length xs) (spaces_of xs) ≡ true = blank_same xs ∙ b.blank in
    record { order = omega arith; past = (let q : nat_le (length (columns_of text b.line)) (0 + spaces_of xs) ≡ true = grind (arith, length_kept b.line.start [] xs, all, nat_tests) in q) }

blank_came : (text : List ℕ) (b : BlankRow text) (d : ℕ) (os : List Opened) (lf : Leaf) (bs : List ReadBlock) (ps : List Piece) (end number kept : ℕ) → Ended (columns_of text b.line) os d 0 (place_at 0 (bytes_in text b.line)) os
    → ((cursor : Cursor) → (if nat_le (length os) d then leaf_turn text (columns_of text b.line) b.line cursor lf else turn.Passes) ≡ turn.Passes)
    → line_taken text (stack_page os lf bs ps end number kept) b.line ≡ closed_to text d (stack_page os lf bs ps end number kept)
unfolding turn_of touched passed_in
blank_came text b d os lf bs ps end number kept r passes =
    let columns : List Cell = columns_of text b.line in
    line_comes text columns b.line d r.cursor (stack_page os lf bs ps end number kept) (plain_cells b.line.start (bytes_in text b.line) (no_tab (bytes_in text b.line) (between_plain text b.line.start b.line.end b.plain)))
    (ap (λ c. matched_from columns os [] 0 c os) (cursor_same b.line.start (bytes_in text b.line) (between_plain text b.line.start b.line.end b.plain) (short text b)) ∙ r.is)
    ∙ ap (λ t. turn_taken_in core_known t text columns b.line (here d r.cursor) (stack_page os lf bs ps end number kept)) (passes r.cursor)
    ∙ blank_begins text columns b.line d r.cursor (stack_page os lf bs ps end number kept) r.long

-- all go on in a blank line
pub blank_home : (text : List ℕ) (b : BlankRow text) (os : List Opened) (lf : Leaf) (bs : List ReadBlock) (ps : List Piece) (end number kept : ℕ) → AllGo os → blank_depth os ≡ length os → is_resting lf ≡ true → length os + 1 < 2 ^ 64
    → line_taken text (stack_page os lf bs ps end number kept) b.line ≡ closed_to text (length os) (stack_page os lf bs ps end number kept)
blank_home text b os lf bs ps end number kept all deep rest fits =
    blank_came text b (length os) os lf bs ps end number kept
    (subst (λ xs. Ended (columns_of text b.line) os (length os) 0 (place_at 0 (bytes_in text b.line)) xs) (append-nil os)
    (blank_past (columns_of text b.line) os (length os) 0 (place_at 0 (bytes_in text b.line)) os [] all (blank_long text b) deep (omega (arith, fits))
    (λ c k. record { cursor = c; is = ap (λ n. (n, c)) (let q : 0 + length os ≡ length os = omega arith in q); long = k.past })))
    (λ cursor. either cursor (nat_le (length os) (length os)))
  where
    either : (cursor : Cursor) (k : Bool) → (if k then leaf_turn text (columns_of text b.line) b.line cursor lf else turn.Passes) ≡ turn.Passes
    either cursor true = rests text (columns_of text b.line) b.line cursor lf rest
    either cursor false = refl

empty_depth : (xs : List Opened) (w i f m : ℕ) → blank_depth (xs ++ item_box w i f m false ∷ []) ≡ length xs
unfolding blank_depth is_empty
empty_depth xs w i f m = rw (get_last xs (item_box w i f m false)) (last_place xs (item_box w i f m false))

empty_stops : (columns : List Cell) (c : Cursor) (width : ℕ) → Long columns c → item_goes_on columns c width false ≡ None
unfolding item_goes_on
empty_stops columns c width k = let q : nat_le (length columns) c.ink ≡ true = k.past in rw q refl

-- an item without a block doesn't
pub blank_leaves : (text : List ℕ) (b : BlankRow text) (os : List Opened) (width ib e n : ℕ) (lf : Leaf) (bs : List ReadBlock) (ps : List Piece) (end number kept : ℕ) → AllGo os → length os + 2 < 2 ^ 64
    → line_taken text (stack_page (os ++ item_box width ib e n false ∷ []) lf bs ps end number kept) b.line ≡ closed_to text (length os) (stack_page (os ++ item_box width ib e n false ∷ []) lf bs ps end number kept)
blank_leaves text b os width ib e n lf bs ps end number kept all fits =
    blank_came text b (length os) full lf bs ps end number kept
    (blank_past columns full (length os) 0 (place_at 0 (bytes_in text b.line)) os (item ∷ []) all (blank_long text b) (empty_depth os width ib e n) (omega (arith, fits)) (λ c k. last c k (nat_le (length columns) c.column) refl))
    (λ cursor. ap (λ k. if k then leaf_turn text columns b.line cursor lf else turn.Passes) shorter)
  where
    columns : List Cell
    columns = columns_of text b.line

    item : Opened
    item = item_box width ib e n false

    full : List Opened
    full = os ++ item ∷ []

    shorter : nat_le (length full) (length os) ≡ false
    shorter = let q : length full ≡ length os + 1 = length-append os (item ∷ []) in grind (arith, q, nat_tests)

    last : (c : Cursor) → Long columns c → (k : Bool) → nat_le (length columns) c.column ≡ k → Ended columns full (length os) (0 + length os) c (item ∷ [])
    last c k true q = record {
      cursor = c;
      is = ap (after_one columns full (0 + length os) c []) (not_passed columns c item q) ∙ ap (λ m. (m, c)) (stopped_at columns full (0 + length os) c true q ∙ empty_depth os width ib e n);
      long = k.past;
    }
    last c k false q = record {
      cursor = c;
      is = ap (after_one columns full (0 + length os) c []) (one_stops columns c item (empty_stops columns c width k)) ∙ ap (λ m. (m, c)) (stopped_at columns full (0 + length os) c false q ∙ (let z : 0 + length os ≡ length os = omega arith in z));
      long = k.past;
    }

pub full_depth : (p : Home) (e n : ℕ) → blank_depth (boxes p e n true) ≡ length (boxes p e n true)
unfolding blank_depth is_empty
full_depth AtTop e n = refl
full_depth (InItem outer sort b le ln width ib) e n = rw (get_last (outer ++ list_box sort b le ln true ∷ []) (item_box width ib e n true)) refl

pub list_depth : (os : List Opened) (sort b le ln : ℕ) (had : Bool) → blank_depth (os ++ list_box sort b le ln had ∷ []) ≡ length (os ++ list_box sort b le ln had ∷ [])
unfolding blank_depth is_empty
list_depth os sort b le ln had = rw (get_last os (list_box sort b le ln had)) refl

-- a line that belongs to an item, as it is in there

pub belongs_far : (b f : Bool) → (b || f) ≡ true → b ≡ false → f ≡ true
belongs_far true f e h = absurd (true≢false h)
belongs_far false f e h = e

unfoldable pub inward : (text : List ℕ) (ks : List Container) (sort width : ℕ) → 2 ≤ width → (v : Come text ks) → belongs width (come_shown text ks v) ≡ true → Come text (ks ++ container.List sort ∷ container.Item width ∷ [])
inward text ks sort width wide v goes = record {
  line = v.line;
  known = v.known;
  column = i.to;
  inside = i.inside;
  steps = λ ink. steps_more columns (place_at 0 xs) place next ks (container.List sort ∷ container.Item width ∷ []) (v.steps ink) (place, left ink, (λ had. refl), (next, left ink, (λ had. item ink had), refl));
  same = blank_is ∙ v.same;
  deep = λ ink. deeper ink;
}
  where
    xs : List ℕ
    xs = bytes_in text v.line

    ys : List ℕ
    ys = left_from text v.line v.column

    columns : List Cell
    columns = columns_of text v.line

    place : Cursor
    place = place_from text v.line v.column

    a : At text v.line v.column xs ys
    a = at_column text v.line v.known v.column v.inside

    i : Indented v.line v.column xs ys width
    i = indented text v.line v.column xs ys a width

    next : Cursor
    next = place_from text v.line i.to

    k : ℕ
    k = min width (spaces_of ys)

    shown : part_at i.to (drop i.to xs) ≡ part_at (v.column + k) (drop k ys)
    shown = sym i.left ∙ columns_gone width v.column ys a.plain

    left_is : drop i.to xs ≡ drop k ys
    left_is = ap (λ (q : Part). q.bytes) shown

    blank_is : is_blank (drop i.to xs) ≡ is_blank ys
    blank_is =
        let fewer : spaces_of (drop k ys) ≡ spaces_of ys - k = spaces_dropped k ys a.plain (omega arith) in
        let most : spaces_of ys ≤ length ys = spaces_low ys in
        ap is_blank left_is ∙ sym (blank_same (drop k ys)) ∙ (let q : nat_le (length (drop k ys)) (spaces_of (drop k ys)) ≡ nat_le (length ys) (spaces_of ys) = grind (arith, fewer, most, length-drop k ys, nat_tests) in q) ∙ blank_same ys

    left : is_blank xs ≡ false → nat_le (length columns) place.column ≡ false
    left ink = some_left text v.line v.column v.inside (v.same ∙ ink)

    far : is_blank xs ≡ false → nat_le width (indent (part_at v.column ys)) ≡ true
    far ink = belongs_far (is_blank ys) (nat_le width (indent (part_at v.column ys))) goes (v.same ∙ ink)

    deeper : is_blank xs ≡ false → length (ks ++ container.List sort ∷ container.Item width ∷ []) ≤ i.to
    deeper ink =
        let far_enough : width ≤ spaces_of ys = (let f : nat_le width (indent (part_at v.column ys)) ≡ true = far ink in let low : width ≤ indent (part_at v.column ys) = grind (arith, f, nat_tests) in omega (arith, low, indent_same v.column ys a.plain)) in
        let to : i.to ≡ v.column + k = ap (λ (q : Part). q.column) shown in
        let low : length ks ≤ v.column = v.deep ink in
        let all : length (ks ++ container.List sort ∷ container.Item width ∷ []) ≡ length ks + 2 = length-append ks (container.List sort ∷ container.Item width ∷ []) in
        omega (arith, far_enough, to, low, all, wide)

    item : is_blank xs ≡ false → (had : Bool) → item_goes_on columns place width had ≡ Some next
    item ink had = i.goes had ∙ ap (λ b. item_next b (nat_le width (indent (part_at v.column ys))) had next) (v.same ∙ ink) ∙ ap (λ b. item_next false b had next) (far ink)

pub inward_shown : (text : List ℕ) (ks : List Container) (sort width : ℕ) (wide : 2 ≤ width) (v : Come text ks) (goes : belongs width (come_shown text ks v) ≡ true) → come_shown text (ks ++ container.List sort ∷ container.Item width ∷ []) (inward text ks sort width wide v goes) ≡ inner_line width (come_shown text ks v)
unfolding inward
inward_shown text ks sort width wide v goes = ap (λ q. Written q) (sym i.left)
  where
    i : Indented v.line v.column (bytes_in text v.line) (left_from text v.line v.column) width
    i = indented text v.line v.column (bytes_in text v.line) (left_from text v.line v.column) (at_column text v.line v.known v.column v.inside) width

-- no byte comes in there
pub inward_low : (text : List ℕ) (ks : List Container) (sort width : ℕ) (wide : 2 ≤ width) (v : Come text ks) (goes : belongs width (come_shown text ks v) ≡ true) → length (left_from text v.line (inward text ks sort width wide v goes).column) ≤ length (left_from text v.line v.column)
unfolding inward
inward_low text ks sort width wide v goes =
    let further : v.column ≤ i.to = i.further in
    omega (arith, further, length-drop i.to (bytes_in text v.line), length-drop v.column (bytes_in text v.line))
  where
    i : Indented v.line v.column (bytes_in text v.line) (left_from text v.line v.column) width
    i = indented text v.line v.column (bytes_in text v.line) (left_from text v.line v.column) (at_column text v.line v.known v.column v.inside) width

-- a blank line
abbrev pub blank_row : (text : List ℕ) (ks : List Container) (v : Come text ks) → is_blank (bytes_in text v.line) ≡ true → BlankRow text
blank_row text ks v blank = record { line = v.line; plain = v.known.plain; fits = v.known.fits; sound = v.known.sound; blank = blank }
