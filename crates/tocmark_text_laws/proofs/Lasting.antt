-- How far containers reach after a line, and that a loose list stays loose.
use Rattle.std.proofs.Common.{◌≡◌, ℕ, zero, suc, ◌-◌, ◌≤◌, Bool, true, false, ◌||◌, if◌then◌else◌, nat_lt, nat_le, List, [], ◌∷◌, ◌++◌, length, take, refl, ap, sym, ◌∙◌, subst, arith, length-append}
use Rattle.std.specs.Prelude.{slice_get, slice_set, Option, Some, None, is_some}
use Rattle.std.specs.List.{AllByRecursion}
use Rattle.std.specs.Option.{option_map_or}
use Rattle.tocmark_event.specs.declared.event.HeadingLevel.{HeadingLevel}
use Rattle.tocmark_read_scan.specs.Basic.{bytes_between}
use Rattle.tocmark_read_scan.specs.Repeat.{going, repeated}
use Rattle.tocmark_read_scan.specs.declared.syntax.TheConstants.{CORE}
use Rattle.tocmark_read_lines.specs.Cells.{cells_of, cell_place, is_blank_at}
use Rattle.tocmark_read_lines.specs.Containers.{raised, raised_at, matched, container_in, touched_from}
use Rattle.tocmark_read_lines.specs.Html.{html_ends}
use Rattle.tocmark_read_lines.specs.Marks.{tail_of, is_rule}
use Rattle.tocmark_read_lines.specs.declared.beginnings.Tail.{Tail}
use Rattle.tocmark_read_lines.specs.declared.cell.Cell.{Cell}
use Rattle.tocmark_read_lines.specs.declared.cell.Cursor.{Cursor}
use Rattle.tocmark_read_lines.specs.declared.container.Container.{Container}
use Rattle.tocmark_read_lines.specs.declared.container.Container.TheVariants as container
use Rattle.tocmark_read_lines.specs.declared.container.ContainerStart.{ContainerStart}
use Rattle.tocmark_read_lines.specs.declared.container.ContainerStart.TheVariants as begins
use Rattle.tocmark_read_lines.specs.declared.container.ItemStart.{ItemStart}
use Rattle.tocmark_read_lines.specs.declared.container.Opened.{Opened}
use Rattle.tocmark_read_lines.specs.declared.line.Line.{Line}
use Rattle.tocmark_read_page.specs.Leaves.{is_paragraph}
use Rattle.tocmark_read_page.specs.Pages.{State, innermost, ended, finished, raised_last, leaf_finished, table_finished, shortened, defined_as, settled_as, settled, leaf_closed_as, leaf_closed, is_quote, is_list, is_definitions, quote_left, one_closed, times, closed_to, list_of, is_loose, left_noted, list_left, is_apart, loosened, had_marked, begun, opened_with, leaf_opened, piece_taken, has_text, start_of, of_kind}
use Rattle.tocmark_read_page.specs.Pieces.{code_piece, text_piece, heading_piece, keeps_line}
use Rattle.tocmark_read_page.specs.declared.leaf.Leaf.{Leaf}
use Rattle.tocmark_read_page.specs.declared.leaf.Leaf.TheVariants as leaf
use Rattle.tocmark_read_page.specs.declared.line_start.LineStart.{LineStart}
use Rattle.tocmark_read_page.specs.declared.page.Block.{Block}
use Rattle.tocmark_read_page.specs.declared.page.BlockKind.{BlockKind}
use Rattle.tocmark_read_page.specs.declared.page.BlockKind.TheVariants as kind
use Rattle.tocmark_read_page.specs.declared.piece.Piece.{Piece}
use Rattle.tocmark_read_constructs.specs.Headings.{heading_put, heading_started_in, underlined, underlined_in}
use Rattle.tocmark_read_constructs.specs.Metadata.{metadata_in}
use Rattle.tocmark_read_constructs.specs.Quotes.{quote_opened}
use Rattle.tocmark_read_blocks.specs.Blocks.{core_known, underlined_if, underline_taken_in, started_in, started_at_in, leaf_started_in, passed_in, turn_in, leaf_ended, touched, turn_taken_in, taken_at_in, cells_taken_in, line_taken_in}
use Rattle.tocmark_read_blocks.specs.Codes.{info_of, html_ended_as, html_ended, code_taken, indented_started, fence_started, html_started}
use Rattle.tocmark_read_blocks.specs.Containers.{goes_directly, is_in_list, list_started, item_opened, begun_at, container_once_in, containers_opened_in}
use Rattle.tocmark_read_blocks.specs.Leaves.{metadata_or, rule_at}
use Rattle.tocmark_read_blocks.specs.Paragraphs.{in_paragraph, rule_started, text_started, text_taken}
use Rattle.tocmark_read_blocks.specs.declared.leaf.LeafStart.{LeafStart}
use Rattle.tocmark_read_blocks.specs.declared.leaf.LeafStart.TheVariants as start
use Rattle.tocmark_read_blocks.specs.declared.leaf.Turn.{Turn}
use Rattle.tocmark_read_blocks.specs.declared.leaf.Turn.TheVariants as turn
use Rattle.tocmark_text_laws.proofs.Alls.{all_got, all_changed, all_both, all_take}
use Rattle.tocmark_text_laws.proofs.Pairs.{set_length, changed_length}
use Rattle.tocmark_text_laws.proofs.Leaves.{is_core}
use Rattle.tocmark_text_laws.proofs.Core.{turns_core}
use Rattle.tocmark_text_laws.proofs.Begun.{is_core_start, container_core}
use Rattle.tocmark_text_laws.proofs.Machine.{core_at, core_begun}
use Rattle.tocmark_text_laws.proofs.Pages.{settled_line}
use Rattle.tocmark_text_laws.proofs.Turns.{turn_of_core}
use Rattle.tocmark_text_laws.proofs.Houses.{settled_same}
use Rattle.tocmark_text_laws.proofs.TightWalk.{Starts, leaf_starts}

-- containers that reach this line at most
abbrev pub Reached : ℕ → List Opened → Type 0
Reached m os = AllByRecursion (λ (o : Opened). o.line ≤ m) os

-- the first block is a loose list
abbrev pub starts_loose : List Block → Bool
starts_loose [] = false
starts_loose (b ∷ bs) = b.loose

-- A step in a line with this number, or in no line: nothing reaches further than to it, the first block stays a loose list, and no
-- block goes.
pub record Grows (n : ℕ) (s u : State) : Type 0 where
  pub reach : (m : ℕ) → n ≤ m → Reached m s.opened → s.line ≤ m → Reached m u.opened × (u.line ≤ m)
  pub loose : starts_loose s.blocks ≡ true → starts_loose u.blocks ≡ true
  pub long : length s.blocks ≤ length u.blocks

pub grows_none : (n : ℕ) (s : State) → Grows n s s
grows_none n s = record { reach = λ m k a b. (a, b); loose = λ e. e; long = omega arith }

pub grows_same : (n : ℕ) (s u : State) → u.opened ≡ s.opened → u.line ≡ s.line → (starts_loose s.blocks ≡ true → starts_loose u.blocks ≡ true) → length u.blocks ≡ length s.blocks → Grows n s u
grows_same n s u o l h e = record { reach = λ m k a b. (subst (Reached m) (sym o) a, subst (λ x. x ≤ m) (sym l) b); loose = h; long = omega (arith, e) }

pub grows_on : (n : ℕ) (s u v : State) → Grows n s u → Grows n u v → Grows n s v
grows_on n s u v f g = record { reach = λ m k a b. (let r : Reached m u.opened × (u.line ≤ m) = f.reach m k a b in g.reach m k (r.0) (r.1)); loose = λ e. g.loose (f.loose e); long = omega (arith, f.long, g.long) }

pub grows_more : (n k : ℕ) (s u : State) → n ≤ k → Grows n s u → Grows k s u
grows_more n k s u l f = record { reach = λ m j a b. f.reach m (omega (arith, l, j)) a b; loose = f.loose; long = f.long }

pub grows_any : (k : ℕ) (s u : State) → Grows 0 s u → Grows k s u
grows_any k s u f = grows_more 0 k s u (omega arith) f

-- lists of blocks and of containers change

loose_set : (bs : List Block) (i : ℕ) (b y : Block) → slice_get bs i ≡ Some b → (b.loose ≡ true → y.loose ≡ true) → starts_loose bs ≡ true → starts_loose (slice_set bs i y) ≡ true
loose_set [] i b y e k h = absurd cc
loose_set (z ∷ zs) zero b y e k h = let q : z ≡ b = cc in k (ap (λ (x : Block). x.loose) (sym q) ∙ h)
loose_set (z ∷ zs) (suc i) b y e k h = h

loose_changed : (bs : List Block) (i : ℕ) (f : Block → Block) → ((b : Block) → b.loose ≡ true → (f b).loose ≡ true) → starts_loose bs ≡ true → starts_loose (option_map_or (λ (b : Block). slice_set bs i (f b)) (slice_get bs i) bs) ≡ true
loose_changed bs i f k h = by (slice_get bs i) refl
  where
    by : (o : Option Block) → slice_get bs i ≡ o → starts_loose (option_map_or (λ (b : Block). slice_set bs i (f b)) o bs) ≡ true
    by None e = h
    by (Some b) e = loose_set bs i b (f b) e (k b) h

long_changed : (bs : List Block) (i : ℕ) (f : Block → Block) → length bs ≤ length (option_map_or (λ (b : Block). slice_set bs i (f b)) (slice_get bs i) bs)
long_changed bs i f = omega (arith, changed_length i f bs)

long_end : (xs bs cs : List Block) → length xs ≤ length bs → length xs ≤ length (bs ++ cs)
long_end xs bs cs h = omega (arith, h, length-append bs cs)

pub loose_end : (bs cs : List Block) → starts_loose bs ≡ true → starts_loose (bs ++ cs) ≡ true
loose_end [] cs h = absurd cc
loose_end (b ∷ bs) cs h = h

raised_low : (m end line : ℕ) (o : Opened) → line ≤ m → o.line ≤ m → (raised o end line).line ≤ m
unfolding raised
raised_low m end line o h k = omega (arith, h, k)

raised_reached : (m i end line : ℕ) (os : List Opened) → line ≤ m → Reached m os → Reached m (raised_at os i end line)
unfolding raised_at
raised_reached m i end line os l h = all_changed (λ (o : Opened). o.line ≤ m) os i (λ o. raised o end line) (λ o e k. raised_low m end line o l k) h

touched_reached : (m count end line : ℕ) (qs : List ℕ) (os : List Opened) → line ≤ m → Reached m os → Reached m (touched_from count end line qs os)
touched_reached m count end line [] os l h = h
touched_reached m count end line (q ∷ qs) os l h = by (nat_le count q) (touched_reached m count end line qs (raised_at os q end line) l (raised_reached m q end line os l h))
  where
    by : (b : Bool) → Reached m (touched_from count end line qs (raised_at os q end line)) → Reached m (if b then os else touched_from count end line qs (raised_at os q end line))
    by true g = h
    by false g = g

had_reached : (m : ℕ) (os : List Opened) → Reached m os → Reached m (had_marked os)
unfolding had_marked
had_reached m os h = all_changed (λ (o : Opened). o.line ≤ m) os (length os - 1) (λ o. record o { had = true }) (λ o e k. k) h

-- leaves and containers end

pub finished_grows : (s : State) → Grows 0 s (leaf_finished s)
unfolding leaf_finished finished
finished_grows s = record {
  reach = λ m k a b. (raised_reached m (length s.opened - 1) s.end s.line s.opened b a, b);
  loose = λ h. loose_changed s.blocks (length s.blocks - 1) (λ (b : Block). record b { end = s.end; last = length (take s.kept s.pieces) }) (λ b e. e) h;
  long = long_changed s.blocks (length s.blocks - 1) (λ (b : Block). record b { end = s.end; last = length (take s.kept s.pieces) });
}

settled_loose : (t : List ℕ) (s : State) → (starts_loose s.blocks ≡ true → starts_loose (settled t s).blocks ≡ true) × (length (settled t s).blocks ≡ length s.blocks)
unfolding settled shortened
settled_loose t s = by (slice_get s.blocks (length s.blocks - 1)) refl
  where
    boxed : (b : Block) → slice_get s.blocks (length s.blocks - 1) ≡ Some b → (k : Bool) → (starts_loose s.blocks ≡ true → starts_loose (if k then s else defined_as t s b).blocks ≡ true) × (length (if k then s else defined_as t s b).blocks ≡ length s.blocks)
    boxed b e true = (λ h. h, refl)
    boxed b e false = (λ h. loose_set s.blocks (length s.blocks - 1) b _ e (λ k. k) h, set_length s.blocks (length s.blocks - 1) _)

    by : (o : Option Block) → slice_get s.blocks (length s.blocks - 1) ≡ o → (starts_loose s.blocks ≡ true → starts_loose (option_map_or (settled_as t s) o s).blocks ≡ true) × (length (option_map_or (settled_as t s) o s).blocks ≡ length s.blocks)
    by None e = (λ h. h, refl)
    by (Some b) e = boxed b e (is_some b.task)

pub settled_grows : (t : List ℕ) (s : State) → Grows 0 s (settled t s)
settled_grows t s = grows_same 0 s (settled t s) ((settled_same t s).1) (settled_line t s) ((settled_loose t s).0) ((settled_loose t s).1)

leaf_closed_grows : (t : List ℕ) (s : State) → Grows 0 s (leaf_closed t s)
unfolding leaf_closed table_finished ended
leaf_closed_grows t s = by s.leaf
  where
    by : (k : Leaf) → Grows 0 s (leaf_closed_as k t s)
    by leaf.Nothing = grows_none 0 s
    by leaf.Paragraph = grows_on 0 s (settled t s) (leaf_finished (settled t s)) (settled_grows t s) (finished_grows (settled t s))
    by leaf.Indented = finished_grows s
    by (leaf.Fenced f) = finished_grows s
    by (leaf.Html x) = finished_grows s
    by (leaf.Metadata x) = finished_grows s
    by (leaf.Table x) = record {
      reach = λ m k a b. (raised_reached m (length s.opened - 1) s.end s.line s.opened b a, b);
      loose = λ h. loose_changed s.blocks x.block (λ (b : Block). record b { end = s.end }) (λ b e. e) h;
      long = long_changed s.blocks x.block (λ (b : Block). record b { end = s.end });
    }

one_grows : (s : State) → Grows 0 s (one_closed s)
unfolding one_closed ended
one_grows s = by (slice_get s.opened (length s.opened - 1)) refl
  where
    rest : List Opened
    rest = take (length s.opened - 1) s.opened

    closes : Opened → State
    closes o = raised_last o.end o.line (record s { opened = rest; blocks = option_map_or (λ (b : Block). slice_set s.blocks o.block (record b { end = o.end })) (slice_get s.blocks o.block) s.blocks })

    closed : (o : Opened) → slice_get s.opened (length s.opened - 1) ≡ Some o → Grows 0 s (closes o)
    closed o e = record {
      reach = λ m k a b. (raised_reached m (length rest - 1) o.end o.line rest (all_got (λ (o : Opened). o.line ≤ m) s.opened (length s.opened - 1) o a e) (all_take (λ (o : Opened). o.line ≤ m) (length s.opened - 1) s.opened a), b);
      loose = λ h. loose_changed s.blocks o.block (λ (b : Block). record b { end = o.end }) (λ b e. e) h;
      long = long_changed s.blocks o.block (λ (b : Block). record b { end = o.end });
    }

    quoted : (u : State) → Grows 0 s u → (b : Bool) → Grows 0 s (if b then record u { quotes = take (length u.quotes - 1) u.quotes } else u)
    quoted u g true = record { reach = g.reach; loose = g.loose; long = g.long }
    quoted u g false = g

    by : (x : Option Opened) → slice_get s.opened (length s.opened - 1) ≡ x → Grows 0 s (option_map_or (λ (o : Opened). quote_left o.container (closes o)) x s)
    by None e = grows_none 0 s
    by (Some o) e = quoted (closes o) (closed o e) (is_quote o.container)

times_grow : (n : ℕ) (s : State) → Grows 0 s (times one_closed n s)
unfolding times
times_grow zero s = grows_none 0 s
times_grow (suc n) s = grows_on 0 s (one_closed s) (times one_closed n (one_closed s)) (one_grows s) (times_grow n (one_closed s))

pub closed_grows : (t : List ℕ) (depth : ℕ) (s : State) → Grows 0 s (closed_to t depth s)
unfolding closed_to
closed_grows t depth s = grows_on 0 s (leaf_closed t s) (times one_closed (length (leaf_closed t s).opened - depth) (leaf_closed t s)) (leaf_closed_grows t s) (times_grow (length (leaf_closed t s).opened - depth) (leaf_closed t s))

pub list_left_grows : (s : State) → Grows 0 s (list_left s)
unfolding list_left left_noted
list_left_grows s = by (innermost s.opened)
  where
    u : State
    u = one_closed s

    noted : (o : Opened) (b : Bool) → Grows 0 s (if b then record u { left = Some (record { list = o.block; behind = length u.blocks; loose = is_loose u.blocks (list_of u.opened) }) } else u)
    noted o true = record { reach = (one_grows s).reach; loose = (one_grows s).loose; long = (one_grows s).long }
    noted o false = one_grows s

    inner : (o : Opened) (b : Bool) → Grows 0 s (if b then left_noted o u else s)
    inner o true = noted o (is_definitions o.container)
    inner o false = grows_none 0 s

    by : (o : Option Opened) → Grows 0 s (option_map_or (λ (o : Opened). if is_list o.container then left_noted o (one_closed s) else s) o s)
    by None = grows_none 0 s
    by (Some o) = inner o (is_list o.container)

-- blocks begin

loosened_loose : (list : Option ℕ) (apart : Bool) (bs : List Block) → starts_loose bs ≡ true → starts_loose (loosened list apart bs) ≡ true
unfolding loosened
loosened_loose list false bs h = h
loosened_loose None true bs h = h
loosened_loose (Some i) true bs h = loose_changed bs i (λ (b : Block). record b { loose = true }) (λ b e. refl) h

loosened_long : (list : Option ℕ) (apart : Bool) (bs : List Block) → length bs ≤ length (loosened list apart bs)
unfolding loosened
loosened_long list false bs = omega arith
loosened_long None true bs = omega arith
loosened_long (Some i) true bs = long_changed bs i (λ (b : Block). record b { loose = true })

begun_grows : (b : BlockKind) (x n : ℕ) (s : State) → Grows 0 s (begun b x n s)
unfolding begun
begun_grows b x n s = record {
  reach = λ m k a l. (had_reached m s.opened a, l);
  loose = λ h. loose_end (loosened (list_of s.opened) (is_apart s.opened n) s.blocks) (_ ∷ []) (loosened_loose (list_of s.opened) (is_apart s.opened n) s.blocks h);
  long = long_end s.blocks (loosened (list_of s.opened) (is_apart s.opened n) s.blocks) (_ ∷ []) (loosened_long (list_of s.opened) (is_apart s.opened n) s.blocks);
}

pub opened_grows : (c : Container) (b : BlockKind) (x : ℕ) (line : Line) (s : State) → Grows line.number s (opened_with c b x line s)
unfolding opened_with
opened_grows c b x line s = by (is_quote c)
  where
    t : State
    t = begun b x line.number s

    new : Opened
    new = record { container = c; block = length t.blocks - 1; end = line.end; line = line.number; had = false }

    u : State
    u = record t { opened = t.opened ++ new ∷ [] }

    opens : Grows line.number s u
    opens = record {
      reach = λ m k a l. (let r : Reached m t.opened × (t.line ≤ m) = (begun_grows b x line.number s).reach m (omega arith) a l in (all_both (λ (o : Opened). o.line ≤ m) t.opened (new ∷ []) (r.0) (k, tt), r.1));
      loose = (begun_grows b x line.number s).loose;
      long = (begun_grows b x line.number s).long;
    }

    by : (q : Bool) → Grows line.number s (if q then record u { quotes = u.quotes ++ (length u.opened - 1) ∷ [] } else u)
    by true = record { reach = opens.reach; loose = opens.loose; long = opens.long }
    by false = opens

pub leaf_opened_grows : (f : Leaf) (b : BlockKind) (x : ℕ) (line : Line) (s : State) → Grows line.number s (leaf_opened f b x line s)
unfolding leaf_opened
leaf_opened_grows f b x line s = record {
  reach = λ m k a l. (let r : Reached m v.opened × (v.line ≤ m) = v_grows.reach m (omega arith) a l in (r.0, k));
  loose = v_grows.loose;
  long = v_grows.long;
}
  where
    v : State
    v = begun b x line.number (list_left s)

    v_grows : Grows 0 s v
    v_grows = grows_on 0 s (list_left s) v (list_left_grows s) (begun_grows b x line.number (list_left s))

pub piece_grows : (p : Piece) (line : Line) (keeps : Bool) (s : State) → Grows line.number s (piece_taken p line keeps s)
unfolding piece_taken
piece_grows p line keeps s = by keeps (nat_lt 0 p.spaces || nat_lt p.start p.next)
  where
    made : Bool → State → State
    made y t = if y then record t { kept = length t.pieces; end = line.end; line = line.number } else t

    by : (y x : Bool) → Grows line.number s (made y (if x then record s { pieces = s.pieces ++ p ∷ [] } else s))
    by true true = record { reach = λ m k a l. (a, k); loose = λ e. e; long = omega arith }
    by true false = record { reach = λ m k a l. (a, k); loose = λ e. e; long = omega arith }
    by false true = record { reach = λ m k a l. (a, l); loose = λ e. e; long = omega arith }
    by false false = record { reach = λ m k a l. (a, l); loose = λ e. e; long = omega arith }

-- leaves take a line

html_grows : (rest : List ℕ) (s : State) → Grows 0 s (html_ended rest s)
unfolding html_ended
html_grows rest s = by s.leaf
  where
    same : Grows 0 s s
    same = grows_none 0 s

    ends : (b : Bool) → Grows 0 s (if b then leaf_finished s else s)
    ends true = finished_grows s
    ends false = same

    by : (k : Leaf) → Grows 0 s (html_ended_as k rest s)
    by leaf.Nothing = same
    by leaf.Paragraph = same
    by leaf.Indented = same
    by (leaf.Fenced x) = same
    by (leaf.Html k) = ends (html_ends k rest)
    by (leaf.Metadata k) = same
    by (leaf.Table x) = same

pub code_grows : (t : List ℕ) (cs : List Cell) (column : ℕ) (line : Line) (s : State) → Grows line.number s (code_taken t cs column line s)
unfolding code_taken
code_grows t cs column line s =
    grows_on line.number s u (html_ended (bytes_between t (code_piece cs column line).start (code_piece cs column line).end) u) (piece_grows (code_piece cs column line) line (keeps_line cs column s.leaf) s)
    (grows_any line.number u (html_ended (bytes_between t (code_piece cs column line).start (code_piece cs column line).end) u) (html_grows (bytes_between t (code_piece cs column line).start (code_piece cs column line).end) u))
  where
    u : State
    u = piece_taken (code_piece cs column line) line (keeps_line cs column s.leaf) s

pub begins_grows : (x : ℕ) (s : State) → Grows 0 s (text_started x s)
unfolding text_started
begins_grows x s = by (slice_get s.blocks (length s.blocks - 1)) refl
  where
    inside : (b : Block) → slice_get s.blocks (length s.blocks - 1) ≡ Some b → (k : Bool) → Grows 0 s (if k then record s { blocks = slice_set s.blocks (length s.blocks - 1) (record b { start = x }) } else s)
    inside b e true = record { reach = λ m k a l. (a, l); loose = λ h. loose_set s.blocks (length s.blocks - 1) b (record b { start = x }) e (λ k. k) h; long = omega (arith, set_length s.blocks (length s.blocks - 1) (record b { start = x })) }
    inside b e false = grows_none 0 s

    by : (o : Option Block) → slice_get s.blocks (length s.blocks - 1) ≡ o → Grows 0 s (option_map_or (λ (b : Block). if nat_le (length s.pieces) b.first then record s { blocks = slice_set s.blocks (length s.blocks - 1) (record b { start = x }) } else s) o s)
    by None e = grows_none 0 s
    by (Some b) e = inside b e (nat_le (length s.pieces) b.first)

-- a leaf begins after containers that end
pub leaf_grows : (t : List ℕ) (f : Leaf) (b : BlockKind) (x depth : ℕ) (line : Line) (s : State) → Grows line.number s (leaf_opened f b x line (closed_to t depth s))
leaf_grows t f b x depth line s = grows_on line.number s (closed_to t depth s) (leaf_opened f b x line (closed_to t depth s)) (grows_any line.number s (closed_to t depth s) (closed_grows t depth s)) (leaf_opened_grows f b x line (closed_to t depth s))

text_grows : (t : List ℕ) (cs : List Cell) (line : Line) (place : LineStart) (s : State) → Grows line.number s (text_taken t cs line place s)
unfolding text_taken
text_grows t cs line place s =
    grows_on line.number s (text_started words.start u) (piece_taken words line true (text_started words.start u))
    (grows_on line.number s u (text_started words.start u) (inside (is_paragraph s.leaf)) (grows_any line.number u (text_started words.start u) (begins_grows words.start u)))
    (piece_grows words line true (text_started words.start u))
  where
    words : Piece
    words = text_piece cs place.cursor line

    u : State
    u = in_paragraph t cs line place s

    inside : (b : Bool) → Grows line.number s (if b then s else leaf_opened leaf.Paragraph kind.Paragraph words.start line (closed_to t place.depth s))
    inside true = grows_none line.number s
    inside false = leaf_grows t leaf.Paragraph kind.Paragraph words.start place.depth line s

-- the open leaf ends with this line
ended_grows : (line : Line) (s : State) (bs : List Block) → (starts_loose s.blocks ≡ true → starts_loose bs ≡ true) → length s.blocks ≤ length bs → Grows line.number s (leaf_finished (record s { blocks = bs; end = line.end; line = line.number }))
ended_grows line s bs h long =
    grows_on line.number s u (leaf_finished u) (record { reach = λ m k a l. (a, k); loose = h; long = long }) (grows_any line.number u (leaf_finished u) (finished_grows u))
  where
    u : State
    u = record s { blocks = bs; end = line.end; line = line.number }

rule_grows : (t : List ℕ) (cs : List Cell) (line : Line) (place : LineStart) (s : State) → Grows line.number s (rule_started t cs line place s)
unfolding rule_started
rule_grows t cs line place s = grows_on line.number s u (leaf_finished u) (leaf_grows t leaf.Nothing kind.Rule (start_of cs place line) place.depth line s) (grows_any line.number u (leaf_finished u) (finished_grows u))
  where
    u : State
    u = leaf_opened leaf.Nothing kind.Rule (start_of cs place line) line (closed_to t place.depth s)

underline_grows : (t : List ℕ) (cs : List Cell) (line : Line) (tail : Tail) (place : LineStart) (level : HeadingLevel) (s : State) → Grows line.number s (underline_taken_in core_known t cs line tail place level s)
unfolding underline_taken_in metadata_in metadata_or underlined_in underlined rule_at
underline_grows t cs line tail place level s = grows_on line.number s u _ (grows_any line.number s u (settled_grows t s)) (by (has_text u) (is_rule cs tail place.cursor.ink))
  where
    u : State
    u = settled t s

    by : (b r : Bool) → Grows line.number u (underlined_if core_known b (if r then start.Rule else start.Text) t cs line place level u)
    by true r = ended_grows line u (of_kind (kind.Heading level None) u.blocks) (loose_changed u.blocks (length u.blocks - 1) (λ (b : Block). record b { kind = kind.Heading level None }) (λ b e. e)) (long_changed u.blocks (length u.blocks - 1) (λ (b : Block). record b { kind = kind.Heading level None }))
    by false true = rule_grows t cs line place u
    by false false = text_grows t cs line place u

started_grows : (t : List ℕ) (cs : List Cell) (line : Line) (tail : Tail) (place : LineStart) (blank : Bool) (s : State) (b : LeafStart) → Starts blank b → Grows line.number s (started_in core_known b t cs line tail place s)
unfolding started_in indented_started fence_started html_started heading_started_in heading_put info_of
started_grows t cs line tail place blank s b w = by b w
  where
    u : State
    u = closed_to t place.depth s

    code : (f : Leaf) (x : BlockKind) (n column : ℕ) → Grows line.number s (code_taken t cs column line (leaf_opened f x n line u))
    code f x n column = grows_on line.number s (leaf_opened f x n line u) (code_taken t cs column line (leaf_opened f x n line u)) (leaf_grows t f x n place.depth line s) (code_grows t cs column line (leaf_opened f x n line u))

    by : (b : LeafStart) → Starts blank b → Grows line.number s (started_in core_known b t cs line tail place s)
    by start.Blank w = grows_any line.number s u (closed_grows t place.depth s)
    by start.Text w = text_grows t cs line place s
    by (start.Indented column) w = code leaf.Indented kind.Indented (cell_place cs column line.end) column
    by (start.Heading x) w = grows_on line.number s v (leaf_finished v) (grows_on line.number s o v (leaf_grows t leaf.Nothing (kind.Heading x.level None) (start_of cs place line) place.depth line s) (piece_grows (heading_piece cs x line) line true o)) (grows_any line.number v (leaf_finished v) (finished_grows v))
      where
        o : State
        o = leaf_opened leaf.Nothing (kind.Heading x.level None) (start_of cs place line) line u

        v : State
        v = piece_taken (heading_piece cs x line) line true o
    by (start.Fence f) w = leaf_grows t (leaf.Fenced f) (info_of cs place.cursor f line) (start_of cs place line) place.depth line s
    by (start.Html x) w = code (leaf.Html x) kind.Html (cell_place cs place.cursor.column line.end) place.cursor.column
    by (start.Underline level) w = underline_grows t cs line tail place level s
    by start.Rule w = rule_grows t cs line place s
    by (start.Metadata x) w = absurd w
    by (start.Task d) w = absurd w
    by (start.QuoteKind x) w = absurd w

pub leaf_at_grows : (t : List ℕ) (cs : List Cell) (line : Line) (place : LineStart) (s : State) → Grows line.number s (started_at_in core_known t cs line (tail_of cs) (s, place))
leaf_at_grows t cs line place s = subst (Grows line.number s) (sym (core_begun t cs line (tail_of cs) s place))
    (started_grows t cs line (tail_of cs) place (is_blank_at cs place.cursor) s (core_at t cs line (tail_of cs) s place) (leaf_starts cs (bytes_between t (start_of cs place line) line.end) (tail_of cs) place.cursor (is_paragraph s.leaf) (goes_directly place.depth s)))

-- containers begin

pub list_grows : (i : ItemStart) (x : ℕ) (line : Line) (s : State) → Grows line.number s (list_started i x line s)
unfolding list_started
list_grows i x line s = by (is_in_list i.sort s)
  where
    by : (b : Bool) → Grows line.number s (if b then s else opened_with (container.List i.sort) (kind.List i.number) x line (list_left s))
    by true = grows_none line.number s
    by false = grows_on line.number s (list_left s) _ (grows_any line.number s (list_left s) (list_left_grows s)) (opened_grows (container.List i.sort) (kind.List i.number) x line (list_left s))

quote_grows : (t : List ℕ) (cs : List Cell) (line : Line) (place : LineStart) (s : State) → Grows line.number s ((quote_opened t cs line place s).0)
unfolding quote_opened
quote_grows t cs line place s =
    grows_on line.number s u (opened_with container.Quote (kind.Quote None) (start_of cs place line) line u)
    (grows_any line.number s u (grows_on 0 s (closed_to t place.depth s) u (closed_grows t place.depth s) (list_left_grows (closed_to t place.depth s))))
    (opened_grows container.Quote (kind.Quote None) (start_of cs place line) line u)
  where
    u : State
    u = list_left (closed_to t place.depth s)

item_grows : (t : List ℕ) (cs : List Cell) (line : Line) (place : LineStart) (i : ItemStart) (s : State) → Grows line.number s ((item_opened t cs line place i s).0)
unfolding item_opened
item_grows t cs line place i s =
    grows_on line.number s v (opened_with (container.Item i.width) kind.Item (start_of cs place line) line v)
    (grows_on line.number s u v (grows_any line.number s u (closed_grows t place.depth s)) (list_grows i (start_of cs place line) line u))
    (opened_grows (container.Item i.width) kind.Item (start_of cs place line) line v)
  where
    u : State
    u = closed_to t place.depth s

    v : State
    v = list_started i (start_of cs place line) line u

begun_at_grows : (t : List ℕ) (cs : List Cell) (line : Line) (place : LineStart) (s : State) (o : Option ContainerStart) → is_core_start o ≡ true → Grows line.number s ((begun_at t cs line place s o).0)
unfolding is_core_start
begun_at_grows t cs line place s None c = grows_none line.number s
begun_at_grows t cs line place s (Some begins.Quote) c = quote_grows t cs line place s
begun_at_grows t cs line place s (Some (begins.Item i)) c = item_grows t cs line place i s
begun_at_grows t cs line place s (Some (begins.Footnote n)) c = absurd cc
begun_at_grows t cs line place s (Some (begins.Definition d)) c = absurd cc

once_grows : (t : List ℕ) (cs : List Cell) (line : Line) (tail : Tail) (place : LineStart) (s : State) → Grows line.number s ((container_once_in CORE t cs line tail place s).0)
unfolding container_once_in
once_grows t cs line tail place s = begun_at_grows t cs line place s (container_in CORE cs tail place.cursor (goes_directly place.depth s)) (container_core cs tail place.cursor (goes_directly place.depth s))

pub repeat_grows : (t : List ℕ) (cs : List Cell) (line : Line) (tail : Tail) (n : ℕ) (place : LineStart) (s : State) → Grows line.number s ((repeated (container_once_in CORE t cs line tail) n place s).0)
unfolding repeated
repeat_grows t cs line tail zero place s = grows_none line.number s
repeat_grows t cs line tail (suc n) place s = by (container_once_in CORE t cs line tail place s) (once_grows t cs line tail place s) (λ d u. repeat_grows t cs line tail n d u)
  where
    more : LineStart → State → State × LineStart
    more = λ d u. repeated (container_once_in CORE t cs line tail) n d u

    by : (r : State × Option LineStart) → Grows line.number s (r.0) → ((d : LineStart) (u : State) → Grows line.number u ((more d u).0)) → Grows line.number s ((going more place r).0)
    by (u, None) g again = g
    by (u, Some d) g again = grows_on line.number s u ((more d u).0) g (again d u)

leaf_started_grows : (t : List ℕ) (cs : List Cell) (line : Line) (place : LineStart) (s : State) → Grows line.number s (leaf_started_in core_known t cs line place s)
unfolding leaf_started_in
leaf_started_grows t cs line place s = by (containers_opened_in CORE t cs line (tail_of cs) place s) (repeat_grows t cs line (tail_of cs) (length cs) place s)
  where
    by : (r : State × LineStart) → Grows line.number s (r.0) → Grows line.number s (started_at_in core_known t cs line (tail_of cs) r)
    by (u, next) g = grows_on line.number s u (started_at_in core_known t cs line (tail_of cs) (u, next)) g (leaf_at_grows t cs line next u)

turned_grows : (t : List ℕ) (cs : List Cell) (line : Line) (place : LineStart) (s : State) (u : Turn) → turns_core u s.leaf ≡ true → Grows line.number s (turn_taken_in core_known u t cs line place s)
unfolding passed_in turns_core leaf_ended
turned_grows t cs line place s turn.Closes g = ended_grows line s s.blocks (λ e. e) (omega arith)
turned_grows t cs line place s (turn.Takes column) g = code_grows t cs column line s
turned_grows t cs line place s turn.Passes g = leaf_started_grows t cs line place s
turned_grows t cs line place s (turn.Row x) g = absurd cc

touched_grows : (line : Line) (depth : ℕ) (s : State) → Grows line.number s (touched line depth s)
unfolding touched
touched_grows line depth s = record { reach = λ m k a l. (touched_reached m depth line.end line.number s.quotes s.opened k a, l); loose = λ e. e; long = omega arith }

pub line_grows : (t : List ℕ) (line : Line) (s : State) → is_core s.leaf ≡ true → Grows line.number s (line_taken_in core_known t s line)
unfolding line_taken_in cells_taken_in touched turn_in
line_grows t line s c = by (matched cells s.opened s.quotes)
  where
    cells : List Cell
    cells = cells_of [] line.start (bytes_between t line.start line.end)

    by : (found : ℕ × Cursor) → Grows line.number s (taken_at_in core_known t cells line (record { cursor = found.1; depth = found.0 }) (touched line (found.0) s))
    by (depth, cursor) = grows_on line.number s (touched line depth s) _ (touched_grows line depth s)
        (turned_grows t cells line (record { cursor = cursor; depth = depth }) (touched line depth s) _ (turn_of_core t cells line (record { cursor = cursor; depth = depth }) (touched line depth s) c))
