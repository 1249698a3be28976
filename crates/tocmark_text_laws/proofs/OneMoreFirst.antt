-- The first line of a text that begins with an item, where a list for it is open and where nothing is.
use Rattle.std.proofs.Common.{◌≡◌, inl, inr, ℕ, suc, ◌+◌, ◌-◌, ◌^◌, ◌<◌, ◌≤◌, Bool, true, false, if◌then◌else◌, nat_lt, List, [], ◌∷◌, ◌++◌, length, append-nil, refl, ap, sym, subst, ◌∙◌, arith, length-append}
use Rattle.std.specs.Prelude.{slice_set, ◌==◌, Option, Some, None}
use Rattle.std.specs.List.{AllByRecursion}
use Rattle.std.specs.Option.{option_map_or}
use Rattle.std.proofs.lemmas.Bool.Decides.{nat_tests}
use Rattle.tocmark_read_scan.specs.Basic.{plus, bytes_between}
use Rattle.tocmark_read_scan.specs.Repeat.{going, repeated}
use Rattle.tocmark_read_scan.specs.declared.syntax.TheConstants.{CORE}
use Rattle.tocmark_read_lines.specs.Cells.{cells_of, cell_place, first_cursor, moved}
use Rattle.tocmark_read_lines.specs.Containers.{container_at, container_in}
use Rattle.tocmark_read_lines.specs.Marks.{tail_of}
use Rattle.tocmark_read_lines.specs.declared.cell.Cell.{Cell}
use Rattle.tocmark_read_lines.specs.declared.cell.Cursor.{Cursor}
use Rattle.tocmark_read_lines.specs.declared.container.Container.TheVariants as container
use Rattle.tocmark_read_lines.specs.declared.container.ContainerStart.{ContainerStart}
use Rattle.tocmark_read_lines.specs.declared.container.ContainerStart.TheVariants as begins
use Rattle.tocmark_read_lines.specs.declared.container.ItemStart.{ItemStart}
use Rattle.tocmark_read_lines.specs.declared.container.Opened.{Opened}
use Rattle.tocmark_read_lines.specs.declared.line.Line.{Line}
use Rattle.tocmark_read_page.specs.Pages.{State, first_page, innermost, leaf_closed, is_quote, times, closed_to, list_left, list_of, is_apart, loosened, had_marked, begun, opened_with, with_place}
use Rattle.tocmark_read_page.specs.declared.leaf.Leaf.TheVariants as leaf
use Rattle.tocmark_read_page.specs.declared.line_start.LineStart.{LineStart}
use Rattle.tocmark_read_page.specs.declared.page.Block.{Block}
use Rattle.tocmark_read_page.specs.declared.page.BlockKind.TheVariants as kind
use Rattle.tocmark_read_blocks.specs.Blocks.{core_known, started_at_in, leaf_started_in, cells_taken_in, line_taken_in}
use Rattle.tocmark_read_blocks.specs.Containers.{goes_directly, is_list_of, is_in_list, list_started, item_opened, begun_at, container_once_in}
use Rattle.tocmark_text_laws.specs.ListEnds.{item_mark, goes_into}
use Rattle.tocmark_text_laws.specs.Quoted.{Item}
use Rattle.tocmark_text_laws.proofs.Alls.{got_end, set_end}
use Rattle.tocmark_text_laws.proofs.Houses.{lists}
use Rattle.tocmark_text_laws.proofs.Leaves.{is_core}
use Rattle.tocmark_text_laws.proofs.Pages.{is_shut}
use Rattle.tocmark_text_laws.proofs.Pairs.{pairs_length}
use Rattle.tocmark_text_laws.proofs.Fronts.{past, past_is}
use Rattle.tocmark_text_laws.proofs.Beyond.{Into, Behind}
use Rattle.tocmark_text_laws.proofs.QuotedPages.{Shape}
use Rattle.tocmark_text_laws.proofs.SequencePieces.{PieceOn}
use Rattle.tocmark_text_laws.proofs.SequencePages.{Earlier, numbered, OpenedOn, BlockOn, Onward, outer_list}
use Rattle.tocmark_text_laws.proofs.SequenceLeaves.{Shared}
use Rattle.tocmark_text_laws.proofs.SequenceTurns.{repeated_on, went_started}
use Rattle.tocmark_text_laws.proofs.SequenceRun.{past_self}
use Rattle.tocmark_text_laws.proofs.ListEndsLine.{Margin, Waits, not_directly, waiting_cells, empty_cells, shut_passes, core_container}

-- the item that begins
pub going_item : (mark : ℕ) (o : Option ContainerStart) → goes_into mark (item_mark o) ≡ true → (x : ItemStart) × (o ≡ Some (begins.Item x)) × ((mark == x.sort) ≡ true)
going_item mark None h = absurd cc
going_item mark (Some begins.Quote) h = absurd cc
going_item mark (Some (begins.Item x)) h = (x, refl, h)
going_item mark (Some (begins.Footnote n)) h = absurd cc
going_item mark (Some (begins.Definition d)) h = absurd cc

-- what is left of a line after an item began
item_step : (q : List ℕ) (cs : List Cell) (l : Line) (c : Cursor) (d n : ℕ) (s : State) (x : ItemStart) → length cs ≡ suc n → goes_directly d s ≡ false → container_in CORE cs (tail_of cs) c false ≡ Some (begins.Item x)
    → leaf_started_in core_known q cs l (record { cursor = c; depth = d }) s
    ≡ started_at_in core_known q cs l (tail_of cs) (repeated (container_once_in CORE q cs l (tail_of cs)) n ((item_opened q cs l (record { cursor = c; depth = d }) x s).1) ((item_opened q cs l (record { cursor = c; depth = d }) x s).0))
unfolding leaf_started_in repeated container_once_in
item_step q cs l c d n s x long e found =
    ap (λ m. started_at_in core_known q cs l (tail_of cs) (repeated once m p s)) long
    ∙ ap (λ b. started_at_in core_known q cs l (tail_of cs) (going rest p (begun_at q cs l p s (container_in CORE cs (tail_of cs) c b)))) e
    ∙ ap (λ o. started_at_in core_known q cs l (tail_of cs) (going rest p (begun_at q cs l p s o))) found
  where
    p : LineStart
    p = record { cursor = c; depth = d }

    once : LineStart → State → State × Option LineStart
    once = container_once_in CORE q cs l (tail_of cs)

    rest : LineStart → State → State × LineStart
    rest = λ r u. repeated once n r u

-- a page on which a list alone is open, so far before a line that an item in it makes it loose
pub record Listed (mark number : ℕ) (s : State) : Type 0 where
  pub list : Opened
  pub alone : s.opened ≡ list ∷ []
  pub sort : list.container ≡ container.List mark
  pub had : list.had ≡ true
  pub far : plus list.line 1 < number
  pub front : List Block
  pub block : Block
  pub within : List Block
  pub split : s.blocks ≡ front ++ block ∷ within
  pub place : list.block ≡ length front
  pub outer : block.depth ≡ 0
  pub deep : AllByRecursion (λ (b : Block). 1 ≤ b.depth) within
  pub quotes : s.quotes ≡ []
  pub shut : s.leaf ≡ leaf.Nothing

-- the blocks with the loose list
abbrev pub loose_blocks : {mark number : ℕ} {s : State} → Listed mark number s → List Block
loose_blocks h = h.front ++ record h.block { loose = true } ∷ h.within

abbrev item_block : ℕ → ℕ → ℕ → Block
item_block start count list = record { depth = 1; kind = kind.Item; start = start; end = start; first = count; last = count; loose = false; list = Some list; task = None }

is_far : (o : Opened) (number : ℕ) → o.had ≡ true → plus o.line 1 < number → is_apart (o ∷ []) number ≡ true
unfolding is_apart
is_far o number h far = let late : nat_lt (plus o.line 1) number ≡ true = grind (arith, far, nat_tests) in rw (h, late) refl

loosened_there : (front within : List Block) (x : Block) → loosened (Some (length front)) true (front ++ x ∷ within) ≡ front ++ record x { loose = true } ∷ within
unfolding loosened
loosened_there front within x =
    ap (λ (o : Option Block). option_map_or (λ (b : Block). slice_set (front ++ x ∷ within) (length front) (record b { loose = true })) o (front ++ x ∷ within)) (got_end front within x)
    ∙ set_end front within x (record x { loose = true })

-- an item begins in the list
begun_listed : (mark number start : ℕ) (s : State) → (h : Listed mark number s)
    → begun kind.Item start number s ≡ record s { blocks = loose_blocks h ++ item_block start (length s.pieces) (length h.front) ∷ []; opened = record h.list { had = true } ∷ [] }
unfolding begun had_marked
begun_listed mark number start s h =
    ap (λ os. whole os s.blocks) h.alone
    ∙ ap (whole (h.list ∷ [])) h.split
    ∙ ap (λ list. made list (is_apart (h.list ∷ []) number) bs) (outer_list (h.list ∷ []) h.list refl (ap lists h.sort) ∙ ap Some h.place)
    ∙ ap (λ a. made (Some (length h.front)) a bs) apart
    ∙ ap (λ xs. record s { blocks = xs ++ item_block start (length s.pieces) (length h.front) ∷ []; opened = record h.list { had = true } ∷ [] }) loose
  where
    bs : List Block
    bs = h.front ++ h.block ∷ h.within

    whole : List Opened → List Block → State
    whole os xs = record s {
      blocks = loosened (list_of os) (is_apart os number) xs ++ record {
        depth = length (had_marked os);
        kind = kind.Item;
        start = start;
        end = start;
        first = length s.pieces;
        last = length s.pieces;
        loose = false;
        list = list_of os;
        task = None;
      } ∷ [];
      opened = had_marked os;
    }

    made : Option ℕ → Bool → List Block → State
    made list a xs = record s {
      blocks = loosened list a xs ++ record {
        depth = 1;
        kind = kind.Item;
        start = start;
        end = start;
        first = length s.pieces;
        last = length s.pieces;
        loose = false;
        list = list;
        task = None;
      } ∷ [];
      opened = record h.list { had = true } ∷ [];
    }

    apart : is_apart (h.list ∷ []) number ≡ true
    apart = is_far h.list number h.had h.far

    loose : loosened (Some (length h.front)) true bs ≡ loose_blocks h
    loose = loosened_there h.front h.within h.block

abbrev item_of : ℕ → ℕ → ℕ → ℕ → Opened
item_of width block end number = record { container = container.Item width; block = block; end = end; line = number; had = false }

item_listed : (mark width start m : ℕ) (l : Line) (s : State) → (h : Listed mark m s)
    → opened_with (container.Item width) kind.Item start (numbered m l) s
    ≡ record s {
      blocks = loose_blocks h ++ item_block start (length s.pieces) (length h.front) ∷ [];
      opened = record h.list { had = true } ∷ item_of width (length (loose_blocks h ++ item_block start (length s.pieces) (length h.front) ∷ []) - 1) l.end m ∷ [];
    }
unfolding opened_with is_quote
item_listed mark width start m l s h = ap enters (begun_listed mark m start s h)
  where
    enters : State → State
    enters t = record t { opened = t.opened ++ item_of width (length t.blocks - 1) l.end m ∷ [] }

-- the same where nothing is open

abbrev list_block : ℕ → Option ℕ → Block
list_block start number = record { depth = 0; kind = kind.List number; start = start; end = start; first = 0; last = 0; loose = false; list = None; task = None }

item_alone : (mark width start : ℕ) (number : Option ℕ) (l : Line)
    → opened_with (container.Item width) kind.Item start l (opened_with (container.List mark) (kind.List number) start l first_page)
    ≡ record first_page {
      blocks = list_block start number ∷ item_block start 0 0 ∷ [];
      opened = record { container = container.List mark; block = 0; end = l.end; line = l.number; had = true } ∷ item_of width 1 l.end l.number ∷ [];
    }
unfolding opened_with begun is_quote had_marked list_of is_apart loosened
item_alone mark width start number l = refl

-- what is in front of the blocks of the other text
abbrev pub ahead : {mark number : ℕ} {s : State} → Listed mark number s → ℕ → Earlier
ahead {s = s} h lines = record { blocks = Into (loose_blocks h) (length h.front); pieces = s.pieces; definitions = s.definitions; lines = lines }

behind_self : (fs : List Block) (R : Block → Block → Type 0) (x y : Block) → R x y → Behind fs R (fs ++ x ∷ []) (y ∷ [])
behind_self [] R x y r = (r, tt)
behind_self (f ∷ fs) R x y r = (refl, behind_self fs R x y r)

-- both pages after the item began
begun_both : (v q : List ℕ) (mark width start m d : ℕ) (number : Option ℕ) (l : Line) (s : State) → (h : Listed mark m s) → m + d ≡ l.number → length s.pieces + 1 < 2 ^ 64 - 1
    → Onward v q (ahead h d) 0 (opened_with (container.Item width) kind.Item start (numbered m l) s) (opened_with (container.Item width) kind.Item start l (opened_with (container.List mark) (kind.List number) start l first_page))
unfolding is_core is_shut
begun_both v q mark width start m d number l s h later room =
    subst (λ u. Onward v q f 0 u (opened_with (container.Item width) kind.Item start l (opened_with (container.List mark) (kind.List number) start l first_page))) (sym (item_listed mark width start m l s h))
    (subst (λ u. Onward v q f 0 (record s { blocks = blocks; opened = record h.list { had = true } ∷ item_of width (length blocks - 1) l.end m ∷ [] }) u) (sym (item_alone mark width start number l)) (record {
      opened = (record { container = h.sort; block = h.place; line = inr (refl, refl); had = refl }, (record { container = refl; block = last; line = inl later; had = refl }, tt));
      inner = (omega arith, tt);
      blocks = (ap (λ (o : Option Block). option_map_or (λ (b : Block). b.loose) o false) (got_end h.front h.within (record h.block { loose = true })), behind_self (loose_blocks h) (BlockOn v q f 0) new (item_block start 0 0) (record { shape = ap shaped none; low = omega arith }));
      pieces = past_self s.pieces (PieceOn v q);
      definitions = sym (append-nil s.definitions);
      quotes = h.quotes;
      leaf = h.shut;
      core = refl;
      few = omega arith;
      room = omega (arith, room);
      lasts = (inl (omega arith), (inl (omega arith), tt));
      tied = λ o. absurd cc;
    }))
  where
    f : Earlier
    f = ahead h d

    new : Block
    new = item_block start (length s.pieces) (length h.front)

    blocks : List Block
    blocks = loose_blocks h ++ new ∷ []

    last : length blocks - 1 ≡ past (loose_blocks h) 0
    last = omega (arith, length-append (loose_blocks h) (new ∷ []), past_is (loose_blocks h) 0)

    none : length s.pieces ≡ past s.pieces 0
    none = omega (arith, past_is s.pieces 0)

    shaped : ℕ → Shape
    shaped n = record { depth = 1; sort = Item; first = n; last = n; loose = false; list = Some (length h.front); boxed = false }

-- the item that begins in a line, where the list is open

in_list : (mark number : ℕ) (x : ItemStart) (s : State) → (mark == x.sort) ≡ true → Listed mark number s → is_in_list x.sort s ≡ true
unfolding is_in_list
in_list mark number x s e h = ap (λ (os : List Opened). option_map_or (λ (o : Opened). is_list_of x.sort o.container) (innermost os) false) h.alone ∙ ap (is_list_of x.sort) h.sort ∙ e

item_there : (q : List ℕ) (cs : List Cell) (l : Line) (c : Cursor) (mark number : ℕ) (x : ItemStart) (s : State) → (mark == x.sort) ≡ true → Listed mark number (closed_to q 1 s)
    → item_opened q cs l (record { cursor = c; depth = 1 }) x s ≡ with_place (moved cs c x.next) (opened_with (container.Item x.width) kind.Item (cell_place cs c.ink l.end) l (closed_to q 1 s))
unfolding item_opened list_started
item_there q cs l c mark number x s e h =
    ap (λ b. with_place (moved cs c x.next) (opened_with (container.Item x.width) kind.Item (cell_place cs c.ink l.end) l (if b then z else opened_with (container.List x.sort) (kind.List x.number) (cell_place cs c.ink l.end) l (list_left z)))) (in_list mark number x z e h)
  where
    z : State
    z = closed_to q 1 s

item_here : (v : List ℕ) (cs : List Cell) (l : Line) (c : Cursor) (x : ItemStart)
    → item_opened v cs l (record { cursor = c; depth = 0 }) x first_page ≡ with_place (moved cs c x.next) (opened_with (container.Item x.width) kind.Item (cell_place cs c.ink l.end) l (opened_with (container.List x.sort) (kind.List x.number) (cell_place cs c.ink l.end) l first_page))
unfolding item_opened list_started is_in_list list_left closed_to leaf_closed times
item_here v cs l c x = refl

-- the first line

cells_first : (v q : List ℕ) (mark m d : ℕ) (l : Line) (cs : List Cell) (s : State) → Margin cs → Waits mark s → s.leaf ≡ leaf.Nothing → (h : Listed mark m (closed_to q 1 s)) → goes_into mark (item_mark (container_at cs (tail_of cs) (first_cursor cs) false)) ≡ true
    → Shared v q (ahead h d) 0 m l cs → length (closed_to q 1 s).pieces + 1 < 2 ^ 64 - 1 → Onward v q (ahead h d) 1 (cells_taken_in core_known q cs (numbered m l) s) (cells_taken_in core_known v cs l first_page)
cells_first v q mark m d l cs s margin waits shut h goes shared room = by (going_item mark (container_at cs (tail_of cs) c false) goes)
  where
    c : Cursor
    c = first_cursor cs

    z : State
    z = closed_to q 1 s

    l' : Line
    l' = numbered m l

    start : ℕ
    start = cell_place cs c.ink l.end

    f : Earlier
    f = ahead h d

    there : (x : ItemStart) → container_at cs (tail_of cs) c false ≡ Some (begins.Item x) → (mark == x.sort) ≡ true
        → cells_taken_in core_known q cs l' s
        ≡ started_at_in core_known q cs l' (tail_of cs) (repeated (container_once_in CORE q cs l' (tail_of cs)) margin.count ((with_place (moved cs c x.next) (opened_with (container.Item x.width) kind.Item start l' z)).1) (opened_with (container.Item x.width) kind.Item start l' z))
    there x found e =
        waiting_cells q cs l' mark s margin waits (shut_passes q cs l' (record { cursor = c; depth = 1 }) s shut)
        ∙ item_step q cs l' c 1 margin.count s x margin.long (not_directly 1 s shut) (core_container cs (tail_of cs) c false ∙ found)
        ∙ ap (λ (r : State × LineStart). started_at_in core_known q cs l' (tail_of cs) (repeated (container_once_in CORE q cs l' (tail_of cs)) margin.count (r.1) (r.0))) (item_there q cs l' c mark m x s e h)

    here : (x : ItemStart) → container_at cs (tail_of cs) c false ≡ Some (begins.Item x) → x.sort ≡ mark
        → cells_taken_in core_known v cs l first_page
        ≡ started_at_in core_known v cs l (tail_of cs) (repeated (container_once_in CORE v cs l (tail_of cs)) margin.count ((with_place (moved cs c x.next) (opened_with (container.Item x.width) kind.Item start l (opened_with (container.List mark) (kind.List x.number) start l first_page))).1) (opened_with (container.Item x.width) kind.Item start l (opened_with (container.List mark) (kind.List x.number) start l first_page)))
    here x found e =
        empty_cells v cs l first_page refl refl
        ∙ item_step v cs l c 0 margin.count first_page x margin.long (not_directly 0 first_page refl) (core_container cs (tail_of cs) c false ∙ found)
        ∙ ap (λ (r : State × LineStart). started_at_in core_known v cs l (tail_of cs) (repeated (container_once_in CORE v cs l (tail_of cs)) margin.count (r.1) (r.0)))
        (item_here v cs l c x ∙ ap (λ sort. with_place (moved cs c x.next) (opened_with (container.Item x.width) kind.Item start l (opened_with (container.List sort) (kind.List x.number) start l first_page))) e)

    both : (x : ItemStart) (u' u : State) → Onward v q f 0 u' u
        → Onward v q f 1 (started_at_in core_known q cs l' (tail_of cs) (repeated (container_once_in CORE q cs l' (tail_of cs)) margin.count (record { cursor = moved cs c x.next; depth = length u'.opened }) u'))
        (started_at_in core_known v cs l (tail_of cs) (repeated (container_once_in CORE v cs l (tail_of cs)) margin.count (record { cursor = moved cs c x.next; depth = length u.opened }) u))
    both x u' u b =
        subst (λ e. Onward v q f 1 (started_at_in core_known q cs l' (tail_of cs) (repeated (container_once_in CORE q cs l' (tail_of cs)) margin.count (record { cursor = moved cs c x.next; depth = e }) u'))
        (started_at_in core_known v cs l (tail_of cs) (repeated (container_once_in CORE v cs l (tail_of cs)) margin.count (record { cursor = moved cs c x.next; depth = length u.opened }) u))) (sym (pairs_length (OpenedOn f) u'.opened u.opened b.opened))
        (went_started v q f 0 m l cs (tail_of cs) _ _ shared (repeated_on v q f 0 m l cs (tail_of cs) margin.count (record { cursor = moved cs c x.next; depth = length u.opened }) u' u shared b))

    by : (x : ItemStart) × (container_at cs (tail_of cs) c false ≡ Some (begins.Item x)) × ((mark == x.sort) ≡ true) → Onward v q f 1 (cells_taken_in core_known q cs l' s) (cells_taken_in core_known v cs l first_page)
    by (x, found, e) =
        let same : x.sort ≡ mark = grind (arith, e, nat_tests) in
        subst (λ u. Onward v q f 1 u (cells_taken_in core_known v cs l first_page)) (sym (there x found e))
        (subst (λ u. Onward v q f 1 (started_at_in core_known q cs l' (tail_of cs) (repeated (container_once_in CORE q cs l' (tail_of cs)) margin.count (record { cursor = moved cs c x.next; depth = length (opened_with (container.Item x.width) kind.Item start l' z).opened }) (opened_with (container.Item x.width) kind.Item start l' z))) u) (sym (here x found same))
        (both x (opened_with (container.Item x.width) kind.Item start l' z) (opened_with (container.Item x.width) kind.Item start l (opened_with (container.List mark) (kind.List x.number) start l first_page)) (begun_both v q mark x.width start m d x.number l z h shared.later room)))

pub line_first : (v q : List ℕ) (mark m d : ℕ) (l : Line) (s : State) → Margin (cells_of [] l.start (bytes_between v l.start l.end)) → Waits mark s → s.leaf ≡ leaf.Nothing → (h : Listed mark m (closed_to q 1 s))
    → goes_into mark (item_mark (container_at (cells_of [] l.start (bytes_between v l.start l.end)) (tail_of (cells_of [] l.start (bytes_between v l.start l.end))) (first_cursor (cells_of [] l.start (bytes_between v l.start l.end))) false)) ≡ true
    → Shared v q (ahead h d) 0 m l (cells_of [] l.start (bytes_between v l.start l.end)) → length (closed_to q 1 s).pieces + 1 < 2 ^ 64 - 1
    → Onward v q (ahead h d) 1 (line_taken_in core_known q s (numbered m l)) (line_taken_in core_known v first_page l)
unfolding line_taken_in
line_first v q mark m d l s margin waits shut h goes shared room = rw (shared.line.window l.start l.end (omega arith) shared.line.onto) (cells_first v q mark m d l (cells_of [] l.start (bytes_between v l.start l.end)) s margin waits shut h goes shared room)
