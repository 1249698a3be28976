-- CommonMark alone makes no block of an extension.
use Rattle.std.proofs.Common.{◌≡◌, ℕ, zero, suc, ◌-◌, Bool, true, false, ◌||◌, if◌then◌else◌, nat_lt, List, [], ◌∷◌, ◌++◌, length, take, refl, ap, sym, ◌∙◌}
use Rattle.std.specs.Prelude.{slice_get, slice_set, Option, Some, None, is_some}
use Rattle.std.specs.Option.{option_map_or}
use Rattle.tocmark_read_lines.specs.declared.container.Container.{Container}
use Rattle.tocmark_read_lines.specs.declared.container.Opened.{Opened}
use Rattle.tocmark_read_lines.specs.declared.line.Line.{Line}
use Rattle.tocmark_read_page.specs.Pages.{State, innermost, ended, finished, raised_last, leaf_finished, table_finished, shortened, defined_as, settled_as, settled, leaf_closed_as, leaf_closed, is_quote, is_list, is_definitions, quote_left, one_closed, times, closed_to, list_of, is_loose, left_noted, list_left, is_apart, loosened, begun, quote_entered, opened_with, leaf_opened, piece_pushed, piece_taken, of_kind}
use Rattle.tocmark_read_page.specs.declared.leaf.Leaf.{Leaf}
use Rattle.tocmark_read_page.specs.declared.leaf.Leaf.TheVariants as leaf
use Rattle.tocmark_read_page.specs.declared.leaf.Table.{Table}
use Rattle.tocmark_read_page.specs.declared.page.Block.{Block}
use Rattle.tocmark_read_page.specs.declared.page.BlockKind.{BlockKind}
use Rattle.tocmark_read_page.specs.declared.piece.Piece.{Piece}
use Rattle.tocmark_text_laws.proofs.Read.{is_core_kind, CoreKinds}

-- a block is replaced by one of the same kind
set_kept : (bs : List Block) (i : ℕ) (x : Block) → CoreKinds bs → is_core_kind x.kind ≡ true → CoreKinds (slice_set bs i x)
set_kept [] i x h k = tt
set_kept (b ∷ bs) zero x h k = (k, h.1)
set_kept (b ∷ bs) (suc i) x h k = (h.0, set_kept bs i x (h.1) k)

got_core : (bs : List Block) (i : ℕ) (b : Block) → CoreKinds bs → slice_get bs i ≡ Some b → is_core_kind b.kind ≡ true
got_core [] i b h e = absurd cc
got_core (x ∷ xs) zero b h e = let q : x ≡ b = cc in ap (λ (y : Block). is_core_kind y.kind) (sym q) ∙ h.0
got_core (x ∷ xs) (suc i) b h e = got_core xs i b (h.1) e

-- a change of a block that keeps its kind
pub changed_core : (bs : List Block) (i : ℕ) (f : Block → Block) → ((b : Block) → is_core_kind b.kind ≡ true → is_core_kind (f b).kind ≡ true) → CoreKinds bs → CoreKinds (option_map_or (λ (b : Block). slice_set bs i (f b)) (slice_get bs i) bs)
changed_core bs i f k h = by (slice_get bs i) refl
  where
    by : (o : Option Block) → slice_get bs i ≡ o → CoreKinds (option_map_or (λ (b : Block). slice_set bs i (f b)) o bs)
    by None e = h
    by (Some b) e = set_kept bs i (f b) h (k b (got_core bs i b h e))

both_core : (xs ys : List Block) → CoreKinds xs → CoreKinds ys → CoreKinds (xs ++ ys)
both_core [] ys h k = k
both_core (x ∷ xs) ys h k = (h.0, both_core xs ys (h.1) k)

abbrev pub Kept : State → Type 0
Kept s = CoreKinds s.blocks

ended_core : (bs : List Block) (i end : ℕ) → CoreKinds bs → CoreKinds (ended bs i end)
unfolding ended
ended_core bs i end h = changed_core bs i (λ (b : Block). record b { end = end }) (λ b k. k) h

pub finished_kept : (s : State) → Kept s → Kept (leaf_finished s)
unfolding leaf_finished finished
finished_kept s h = changed_core s.blocks (length s.blocks - 1) (λ (b : Block). record b { end = s.end; last = length (take s.kept s.pieces) }) (λ b k. k) h

table_kept : (t : Table) (s : State) → Kept s → Kept (table_finished t s)
unfolding table_finished
table_kept t s h = ended_core s.blocks t.block s.end h

shortened_core : (b : Block) (ps : List Piece) (count : ℕ) → is_core_kind b.kind ≡ true → is_core_kind (shortened b ps count).kind ≡ true
unfolding shortened
shortened_core b ps count h = h

pub settled_kept : (t : List ℕ) (s : State) → Kept s → Kept (settled t s)
unfolding settled
settled_kept t s h = by (slice_get s.blocks (length s.blocks - 1)) refl
  where
    boxed : (b : Block) (k : Bool) → is_core_kind b.kind ≡ true → Kept (if k then s else defined_as t s b)
    boxed b true c = h
    boxed b false c = set_kept s.blocks (length s.blocks - 1) (shortened b s.pieces _) h (shortened_core b s.pieces _ c)

    by : (o : Option Block) → slice_get s.blocks (length s.blocks - 1) ≡ o → Kept (option_map_or (settled_as t s) o s)
    by None e = h
    by (Some b) e = boxed b (is_some b.task) (got_core s.blocks (length s.blocks - 1) b h e)

leaf_closed_kept : (t : List ℕ) (s : State) → Kept s → Kept (leaf_closed t s)
unfolding leaf_closed
leaf_closed_kept t s h = by s.leaf
  where
    by : (k : Leaf) → Kept (leaf_closed_as k t s)
    by leaf.Nothing = h
    by leaf.Paragraph = finished_kept (settled t s) (settled_kept t s h)
    by leaf.Indented = finished_kept s h
    by (leaf.Fenced f) = finished_kept s h
    by (leaf.Html k) = finished_kept s h
    by (leaf.Metadata k) = finished_kept s h
    by (leaf.Table x) = table_kept x s h

quote_left_kept : (k : Container) (s : State) → Kept s → Kept (quote_left k s)
quote_left_kept k s h = by (is_quote k)
  where
    by : (b : Bool) → Kept (if b then record s { quotes = take (length s.quotes - 1) s.quotes } else s)
    by true = h
    by false = h

one_closed_kept : (s : State) → Kept s → Kept (one_closed s)
unfolding one_closed
one_closed_kept s h = by (slice_get s.opened (length s.opened - 1))
  where
    closes : Opened → State
    closes o = raised_last o.end o.line (record s { opened = take (length s.opened - 1) s.opened; blocks = ended s.blocks o.block o.end })

    by : (f : Option Opened) → Kept (option_map_or (λ (o : Opened). quote_left o.container (closes o)) f s)
    by None = h
    by (Some o) = quote_left_kept o.container (closes o) (ended_core s.blocks o.block o.end h)

times_kept : (n : ℕ) (s : State) → Kept s → Kept (times one_closed n s)
unfolding times
times_kept zero s h = h
times_kept (suc n) s h = times_kept n (one_closed s) (one_closed_kept s h)

pub closed_kept : (t : List ℕ) (depth : ℕ) (s : State) → Kept s → Kept (closed_to t depth s)
unfolding closed_to
closed_kept t depth s h = times_kept (length (leaf_closed t s).opened - depth) (leaf_closed t s) (leaf_closed_kept t s h)

left_noted_kept : (o : Opened) (s : State) → Kept s → Kept (left_noted o s)
unfolding left_noted
left_noted_kept o s h = by (is_definitions o.container)
  where
    by : (b : Bool) → Kept (if b then record s { left = Some (record { list = o.block; behind = length s.blocks; loose = is_loose s.blocks (list_of s.opened) }) } else s)
    by true = h
    by false = h

pub list_left_kept : (s : State) → Kept s → Kept (list_left s)
unfolding list_left
list_left_kept s h = by (innermost s.opened)
  where
    inner : (o : Opened) (k : Bool) → Kept (if k then left_noted o (one_closed s) else s)
    inner o true = left_noted_kept o (one_closed s) (one_closed_kept s h)
    inner o false = h

    by : (f : Option Opened) → Kept (option_map_or (λ (o : Opened). if is_list o.container then left_noted o (one_closed s) else s) f s)
    by None = h
    by (Some o) = inner o (is_list o.container)

loosened_core : (list : Option ℕ) (apart : Bool) (bs : List Block) → CoreKinds bs → CoreKinds (loosened list apart bs)
unfolding loosened
loosened_core list false bs h = h
loosened_core None true bs h = h
loosened_core (Some i) true bs h = changed_core bs i (λ (b : Block). record b { loose = true }) (λ b k. k) h

begun_kept : (k : BlockKind) (start number : ℕ) (s : State) → is_core_kind k ≡ true → Kept s → Kept (begun k start number s)
unfolding begun
begun_kept k start number s c h = both_core (loosened (list_of s.opened) (is_apart s.opened number) s.blocks) _ (loosened_core (list_of s.opened) (is_apart s.opened number) s.blocks h) (c, tt)

quote_entered_kept : (k : Container) (s : State) → Kept s → Kept (quote_entered k s)
quote_entered_kept k s h = by (is_quote k)
  where
    by : (b : Bool) → Kept (if b then record s { quotes = s.quotes ++ (length s.opened - 1) ∷ [] } else s)
    by true = h
    by false = h

pub opened_with_kept : (k : Container) (b : BlockKind) (start : ℕ) (line : Line) (s : State) → is_core_kind b ≡ true → Kept s → Kept (opened_with k b start line s)
unfolding opened_with
opened_with_kept k b start line s c h =
    let t = begun b start line.number s in
    quote_entered_kept k (record t { opened = t.opened ++ record { container = k; block = length t.blocks - 1; end = line.end; line = line.number; had = false } ∷ [] }) (begun_kept b start line.number s c h)

pub leaf_opened_kept : (f : Leaf) (b : BlockKind) (start : ℕ) (line : Line) (s : State) → is_core_kind b ≡ true → Kept s → Kept (leaf_opened f b start line s)
unfolding leaf_opened
leaf_opened_kept f b start line s c h = begun_kept b start line.number (list_left s) c (list_left_kept s h)

pushed_kept : (p : Piece) (s : State) → Kept s → Kept (piece_pushed p s)
pushed_kept p s h = by (nat_lt 0 p.spaces || nat_lt p.start p.next)
  where
    by : (k : Bool) → Kept (if k then record s { pieces = s.pieces ++ p ∷ [] } else s)
    by true = h
    by false = h

pub piece_taken_kept : (p : Piece) (line : Line) (keeps : Bool) (s : State) → Kept s → Kept (piece_taken p line keeps s)
unfolding piece_taken
piece_taken_kept p line true s h = pushed_kept p s h
piece_taken_kept p line false s h = pushed_kept p s h

pub of_kind_core : (k : BlockKind) (bs : List Block) → is_core_kind k ≡ true → CoreKinds bs → CoreKinds (of_kind k bs)
of_kind_core k bs c h = changed_core bs (length bs - 1) (λ (b : Block). record b { kind = k }) (λ b e. c) h
