-- How pages go on whose places are one further.
use Rattle.std.proofs.Common.{◌≡◌, ℕ, zero, suc, ◌+◌, ◌-◌, ◌^◌, ◌<◌, Bool, true, false, ◌&&◌, ◌||◌, if◌then◌else◌, nat_lt, List, [], ◌∷◌, ◌++◌, length, map, take, drop, refl, ap, sym, ◌∙◌, arith}
use Rattle.std.specs.Prelude.{slice_get, slice_set, Option, Some, None, is_some}
use Rattle.std.specs.Option.{option_map, option_map_or, option_and_then}
use Rattle.std.proofs.lemmas.Bool.Decides.{nat_tests}
use Rattle.std.proofs.lemmas.List.{length-map, map-append, drop-map, take-map}
use Rattle.std.proofs.lemmas.Option.{slice_get-map}
use Rattle.tocmark_read_scan.specs.Basic.{plus}
use Rattle.tocmark_read_lines.specs.declared.container.Container.{Container}
use Rattle.tocmark_read_lines.specs.declared.container.Container.TheVariants as container
use Rattle.tocmark_read_lines.specs.declared.container.Opened.{Opened}
use Rattle.tocmark_read_lines.specs.declared.line.Line.{Line}
use Rattle.tocmark_read_page.specs.Definitions.{definitions_from}
use Rattle.tocmark_read_page.specs.Pages.{State, innermost, ended, finished, raised_last, leaf_finished, table_finished, shortened, defined_as, settled_as, settled, leaf_closed_as, leaf_closed, is_quote, is_list, is_definitions, quote_left, one_closed, times, closed_to, list_at, list_of, is_loose, left_noted, list_left, is_apart, made_loose, loosened, had_marked, begun, quote_entered, opened_with, leaf_opened, piece_pushed, has_text, piece_taken}
use Rattle.tocmark_read_page.specs.declared.leaf.Leaf.{Leaf}
use Rattle.tocmark_read_page.specs.declared.leaf.Leaf.TheVariants as leaf
use Rattle.tocmark_read_page.specs.declared.leaf.Table.{Table}
use Rattle.tocmark_read_page.specs.declared.page.Block.{Block}
use Rattle.tocmark_read_page.specs.declared.page.Task.{Task}
use Rattle.tocmark_read_page.specs.declared.page.LeftList.{LeftList}
use Rattle.tocmark_read_page.specs.declared.page.BlockKind.{BlockKind}
use Rattle.tocmark_read_page.specs.declared.piece.Piece.{Piece}
use Rattle.tocmark_text_laws.specs.Further.{line_on, opened_on, piece_on, kind_on, task_on, block_on, page_on, tied_on}
use Rattle.tocmark_text_laws.proofs.Lists.{set_map, map_or_map}
use Rattle.tocmark_text_laws.proofs.LinesFurther.{lt_on}
use Rattle.tocmark_text_laws.proofs.Containers.{raised_at_on}
use Rattle.tocmark_text_laws.proofs.Definitions.{same_definitions}

pub ended_on : (bs : List Block) (i end : ℕ) → ended (map block_on bs) i (suc end) ≡ map block_on (ended bs i end)
unfolding ended
ended_on bs i end = rw (slice_get-map block_on bs i) (by (slice_get bs i))
  where
    by : (o : Option Block) → option_map_or (λ (b : Block). slice_set (map block_on bs) i (record b { end = suc end })) (option_map block_on o) (map block_on bs) ≡ map block_on (option_map_or (λ (b : Block). slice_set bs i (record b { end = end })) o bs)
    by None = refl
    by (Some b) = set_map block_on bs i (record b { end = end })

pub finished_on : (bs : List Block) (i end last : ℕ) → finished (map block_on bs) i (suc end) last ≡ map block_on (finished bs i end last)
unfolding finished
finished_on bs i end last = rw (slice_get-map block_on bs i) (by (slice_get bs i))
  where
    by : (o : Option Block) → option_map_or (λ (b : Block). slice_set (map block_on bs) i (record b { end = suc end; last = last })) (option_map block_on o) (map block_on bs) ≡ map block_on (option_map_or (λ (b : Block). slice_set bs i (record b { end = end; last = last })) o bs)
    by None = refl
    by (Some b) = set_map block_on bs i (record b { end = end; last = last })

pub raised_last_on : (end line e l : ℕ) (s : State) → raised_last (suc end) (suc line) (page_on e l s) ≡ page_on e l (raised_last end line s)
raised_last_on end line e l s = rw (length-map s.opened opened_on, raised_at_on s.opened (length s.opened - 1) end line) refl

pub leaf_finished_on : (s : State) → leaf_finished (tied_on s) ≡ tied_on (leaf_finished s)
unfolding leaf_finished
leaf_finished_on s = rw (take-map piece_on s.kept s.pieces, length-map (take s.kept s.pieces) piece_on, length-map s.blocks block_on, finished_on s.blocks (length s.blocks - 1) s.end (length (take s.kept s.pieces)), length-map s.opened opened_on, raised_at_on s.opened (length s.opened - 1) s.end s.line) refl

pub table_finished_on : (t : Table) (s : State) → table_finished t (tied_on s) ≡ tied_on (table_finished t s)
unfolding table_finished
table_finished_on t s = rw (ended_on s.blocks t.block s.end, length-map s.opened opened_on, raised_at_on s.opened (length s.opened - 1) s.end s.line) refl

pub shortened_on : (b : Block) (ps : List Piece) (count : ℕ) → shortened (block_on b) (map piece_on ps) count ≡ block_on (shortened b ps count)
unfolding shortened
shortened_on b ps count = rw (slice_get-map piece_on ps (plus b.first count)) (by (slice_get ps (plus b.first count)))
  where
    by : (o : Option Piece) → record (block_on b) { first = plus b.first count; start = option_map_or (λ (p : Piece). p.start) (option_map piece_on o) (suc b.start) } ≡ block_on (record b { first = plus b.first count; start = option_map_or (λ (p : Piece). p.start) o b.start })
    by None = refl
    by (Some p) = refl

defined_on : (t : List ℕ) (c e l : ℕ) (s : State) (b : Block) → defined_as (c ∷ t) (page_on e l s) (block_on b) ≡ page_on e l (defined_as t s b)
defined_on t c e l s b =
    rw (drop-map piece_on b.first s.pieces, same_definitions t c (drop b.first s.pieces) s.definitions, length-map s.blocks block_on, shortened_on b s.pieces ((definitions_from t (drop b.first s.pieces) s.definitions).1), set_map block_on s.blocks (length s.blocks - 1) (shortened b s.pieces ((definitions_from t (drop b.first s.pieces) s.definitions).1))) refl

pub settled_on : (t : List ℕ) (c e l : ℕ) (s : State) → settled (c ∷ t) (page_on e l s) ≡ page_on e l (settled t s)
unfolding settled
settled_on t c e l s = rw (length-map s.blocks block_on, slice_get-map block_on s.blocks (length s.blocks - 1)) (by (slice_get s.blocks (length s.blocks - 1)))
  where
    boxed : (b : Block) (k : Bool) → is_some (block_on b).task ≡ k → is_some b.task ≡ k → settled_as (c ∷ t) (page_on e l s) (block_on b) ≡ page_on e l (settled_as t s b)
    boxed b true p q = rw (p, q) refl
    boxed b false p q = rw (p, q) (defined_on t c e l s b)

    same : (o : Option Task) → is_some (option_map task_on o) ≡ is_some o
    same None = refl
    same (Some t) = refl

    by : (o : Option Block) → option_map_or (settled_as (c ∷ t) (page_on e l s)) (option_map block_on o) (page_on e l s) ≡ page_on e l (option_map_or (settled_as t s) o s)
    by None = refl
    by (Some b) = boxed b (is_some b.task) (same b.task) refl

-- no leaf is open
unfoldable pub is_shut : Leaf → Bool
is_shut leaf.Nothing = true
is_shut leaf.Paragraph = false
is_shut leaf.Indented = false
is_shut (leaf.Fenced f) = false
is_shut (leaf.Html k) = false
is_shut (leaf.Metadata k) = false
is_shut (leaf.Table t) = false

-- an open leaf ends one further
abbrev pub Tied : ℕ → ℕ → State → Type 0
Tied e l s = is_shut s.leaf ≡ false → (e ≡ suc s.end) × (l ≡ suc s.line)

pub settled_end : (t : List ℕ) (s : State) → (settled t s).end ≡ s.end
unfolding settled
settled_end t s = by (slice_get s.blocks (length s.blocks - 1))
  where
    boxed : (k : Bool) (b : Block) → (if k then s else defined_as t s b).end ≡ s.end
    boxed true b = refl
    boxed false b = refl

    by : (o : Option Block) → (option_map_or (settled_as t s) o s).end ≡ s.end
    by None = refl
    by (Some b) = boxed (is_some b.task) b

pub settled_line : (t : List ℕ) (s : State) → (settled t s).line ≡ s.line
unfolding settled
settled_line t s = by (slice_get s.blocks (length s.blocks - 1))
  where
    boxed : (k : Bool) (b : Block) → (if k then s else defined_as t s b).line ≡ s.line
    boxed true b = refl
    boxed false b = refl

    by : (o : Option Block) → (option_map_or (settled_as t s) o s).line ≡ s.line
    by None = refl
    by (Some b) = boxed (is_some b.task) b

pub settled_tied : (t : List ℕ) (c : ℕ) (s : State) → settled (c ∷ t) (tied_on s) ≡ tied_on (settled t s)
settled_tied t c s = settled_on t c (suc s.end) (suc s.line) s ∙ ap (λ n. page_on (suc n) (suc s.line) (settled t s)) (sym (settled_end t s)) ∙ ap (λ n. page_on (suc (settled t s).end) (suc n) (settled t s)) (sym (settled_line t s))

-- the end and the line of the open leaf stay when it ends
finished_end : (s : State) → (leaf_finished s).end ≡ s.end
unfolding leaf_finished
finished_end s = refl

finished_line : (s : State) → (leaf_finished s).line ≡ s.line
unfolding leaf_finished
finished_line s = refl

tie : (e l : ℕ) (s : State) → (e ≡ suc s.end) × (l ≡ suc s.line) → page_on e l s ≡ tied_on s
tie e l s h = ap (λ n. page_on n l s) (h.0) ∙ ap (λ n. page_on (suc s.end) n s) (h.1)

pub leaf_finished_by : (e l : ℕ) (s : State) → (e ≡ suc s.end) × (l ≡ suc s.line) → leaf_finished (page_on e l s) ≡ page_on e l (leaf_finished s)
unfolding leaf_finished
leaf_finished_by e l s h = ap leaf_finished (tie e l s h) ∙ leaf_finished_on s ∙ sym (tie e l (leaf_finished s) h)

pub table_finished_by : (t : Table) (e l : ℕ) (s : State) → (e ≡ suc s.end) × (l ≡ suc s.line) → table_finished t (page_on e l s) ≡ page_on e l (table_finished t s)
unfolding table_finished
table_finished_by t e l s h = ap (table_finished t) (tie e l s h) ∙ table_finished_on t s ∙ sym (tie e l (table_finished t s) h)

paragraph_finished : (t : List ℕ) (c e l : ℕ) (s : State) → (e ≡ suc s.end) × (l ≡ suc s.line) → leaf_finished (settled (c ∷ t) (page_on e l s)) ≡ page_on e l (leaf_finished (settled t s))
paragraph_finished t c e l s h = ap leaf_finished (settled_on t c e l s) ∙ leaf_finished_by e l (settled t s) (h.0 ∙ ap suc (sym (settled_end t s)), h.1 ∙ ap suc (sym (settled_line t s)))

pub leaf_closed_on : (t : List ℕ) (c e l : ℕ) (s : State) → Tied e l s → leaf_closed (c ∷ t) (page_on e l s) ≡ page_on e l (leaf_closed t s)
unfolding leaf_closed is_shut
leaf_closed_on t c e l s h = by s.leaf h
  where
    by : (k : Leaf) → (is_shut k ≡ false → (e ≡ suc s.end) × (l ≡ suc s.line)) → leaf_closed_as k (c ∷ t) (page_on e l s) ≡ page_on e l (leaf_closed_as k t s)
    by leaf.Nothing h = refl
    by leaf.Paragraph h = paragraph_finished t c e l s (h refl)
    by leaf.Indented h = leaf_finished_by e l s (h refl)
    by (leaf.Fenced f) h = leaf_finished_by e l s (h refl)
    by (leaf.Html k) h = leaf_finished_by e l s (h refl)
    by (leaf.Metadata k) h = leaf_finished_by e l s (h refl)
    by (leaf.Table t) h = table_finished_by t e l s (h refl)

quote_left_on : (k : Container) (e l : ℕ) (s : State) → quote_left k (page_on e l s) ≡ page_on e l (quote_left k s)
quote_left_on k e l s = by (is_quote k)
  where
    by : (b : Bool) → (if b then record (page_on e l s) { quotes = take (length s.quotes - 1) s.quotes } else page_on e l s) ≡ page_on e l (if b then record s { quotes = take (length s.quotes - 1) s.quotes } else s)
    by true = refl
    by false = refl

pub one_closed_on : (e l : ℕ) (s : State) → one_closed (page_on e l s) ≡ page_on e l (one_closed s)
unfolding one_closed
one_closed_on e l s = rw (length-map s.opened opened_on, slice_get-map opened_on s.opened (length s.opened - 1)) (by (slice_get s.opened (length s.opened - 1)))
  where
    closes : State → Opened → State
    closes s o = quote_left o.container (raised_last o.end o.line (record s { opened = take (length s.opened - 1) s.opened; blocks = ended s.blocks o.block o.end }))

    inner : (o : Opened) → quote_left o.container (raised_last (suc o.end) (suc o.line) (record (page_on e l s) { opened = take (length s.opened - 1) (map opened_on s.opened); blocks = ended (map block_on s.blocks) o.block (suc o.end) }))
        ≡ page_on e l (closes s o)
    inner o =
        rw (take-map opened_on (length s.opened - 1) s.opened, ended_on s.blocks o.block o.end)
        (ap (quote_left o.container) (raised_last_on o.end o.line e l (record s { opened = take (length s.opened - 1) s.opened; blocks = ended s.blocks o.block o.end }))
        ∙ quote_left_on o.container e l (raised_last o.end o.line (record s { opened = take (length s.opened - 1) s.opened; blocks = ended s.blocks o.block o.end })))

    by : (o : Option Opened) → option_map_or (λ (o : Opened). quote_left o.container (raised_last o.end o.line (record (page_on e l s) { opened = take (length s.opened - 1) (map opened_on s.opened); blocks = ended (map block_on s.blocks) o.block o.end }))) (option_map opened_on o) (page_on e l s)
        ≡ page_on e l (option_map_or (closes s) o s)
    by None = refl
    by (Some o) = inner o

pub times_on : (n e l : ℕ) (s : State) → times one_closed n (page_on e l s) ≡ page_on e l (times one_closed n s)
unfolding times
times_on zero e l s = refl
times_on (suc n) e l s = ap (times one_closed n) (one_closed_on e l s) ∙ times_on n e l (one_closed s)

pub closed_to_on : (t : List ℕ) (c depth e l : ℕ) (s : State) → Tied e l s → closed_to (c ∷ t) depth (page_on e l s) ≡ page_on e l (closed_to t depth s)
unfolding closed_to
closed_to_on t c depth e l s h =
    ap (λ (u : State). times one_closed (length u.opened - depth) u) (leaf_closed_on t c e l s h)
    ∙ rw (length-map (leaf_closed t s).opened opened_on) (times_on (length (leaf_closed t s).opened - depth) e l (leaf_closed t s))

same_list_at : (k : Container) (o : Opened) (os : List Opened) → list_at k (opened_on o) (map opened_on os) ≡ list_at k o os
same_list_at container.Quote o os = refl
same_list_at (container.List sort) o os = refl
same_list_at (container.Item width) o os = rw (length-map os opened_on, slice_get-map opened_on os (length os - 2)) (block_of (slice_get os (length os - 2)))
  where
    block_of : (f : Option Opened) → option_map (λ (l : Opened). l.block) (option_map opened_on f) ≡ option_map (λ (l : Opened). l.block) f
    block_of None = refl
    block_of (Some f) = refl
same_list_at container.Footnote o os = refl
same_list_at container.Definitions o os = refl
same_list_at (container.Definition width) o os = rw (length-map os opened_on, slice_get-map opened_on os (length os - 2)) (block_of (slice_get os (length os - 2)))
  where
    block_of : (f : Option Opened) → option_map (λ (l : Opened). l.block) (option_map opened_on f) ≡ option_map (λ (l : Opened). l.block) f
    block_of None = refl
    block_of (Some f) = refl

pub innermost_on : (os : List Opened) → innermost (map opened_on os) ≡ option_map opened_on (innermost os)
innermost_on os = rw (length-map os opened_on) (slice_get-map opened_on os (length os - 1))

pub same_list : (os : List Opened) → list_of (map opened_on os) ≡ list_of os
unfolding list_of
same_list os = rw (length-map os opened_on, slice_get-map opened_on os (length os - 1)) (by (innermost os))
  where
    by : (f : Option Opened) → option_and_then (λ (o : Opened). list_at o.container o (map opened_on os)) (option_map opened_on f) ≡ option_and_then (λ (o : Opened). list_at o.container o os) f
    by None = refl
    by (Some o) = same_list_at o.container o os

same_loose : (bs : List Block) (list : Option ℕ) → is_loose (map block_on bs) list ≡ is_loose bs list
same_loose bs None = refl
same_loose bs (Some i) = rw (slice_get-map block_on bs i) (map_or_map block_on (λ (b : Block). b.loose) false (slice_get bs i))

left_noted_on : (o : Opened) (e l : ℕ) (s : State) → left_noted (opened_on o) (page_on e l s) ≡ page_on e l (left_noted o s)
unfolding left_noted
left_noted_on o e l s = rw (length-map s.blocks block_on, same_list s.opened, same_loose s.blocks (list_of s.opened)) (by (is_definitions o.container))
  where
    left : Option LeftList
    left = Some (record { list = o.block; behind = length s.blocks; loose = is_loose s.blocks (list_of s.opened) })

    by : (k : Bool) → (if k then record (page_on e l s) { left = left } else page_on e l s) ≡ page_on e l (if k then record s { left = left } else s)
    by true = refl
    by false = refl

pub list_left_on : (e l : ℕ) (s : State) → list_left (page_on e l s) ≡ page_on e l (list_left s)
unfolding list_left
list_left_on e l s = rw (length-map s.opened opened_on, slice_get-map opened_on s.opened (length s.opened - 1)) (by (innermost s.opened))
  where
    inner : (o : Opened) (k : Bool) → (if k then left_noted (opened_on o) (one_closed (page_on e l s)) else page_on e l s) ≡ page_on e l (if k then left_noted o (one_closed s) else s)
    inner o true = ap (left_noted (opened_on o)) (one_closed_on e l s) ∙ left_noted_on o e l (one_closed s)
    inner o false = refl

    by : (f : Option Opened) → option_map_or (λ (o : Opened). if is_list o.container then left_noted o (one_closed (page_on e l s)) else page_on e l s) (option_map opened_on f) (page_on e l s)
        ≡ page_on e l (option_map_or (λ (o : Opened). if is_list o.container then left_noted o (one_closed s) else s) f s)
    by None = refl
    by (Some o) = inner o (is_list o.container)

apart_on : (l n : ℕ) → n + 1 < 2 ^ 64 - 1 → nat_lt (plus (suc l) 1) (suc n) ≡ nat_lt (plus l 1) n
apart_on l n h = grind (arith, nat_tests)

pub same_apart : (os : List Opened) (n : ℕ) → n + 1 < 2 ^ 64 - 1 → is_apart (map opened_on os) (suc n) ≡ is_apart os n
unfolding is_apart
same_apart os n h = rw (length-map os opened_on, slice_get-map opened_on os (length os - 1)) (by (innermost os))
  where
    by : (f : Option Opened) → option_map_or (λ (o : Opened). o.had && nat_lt (plus o.line 1) (suc n)) (option_map opened_on f) false ≡ option_map_or (λ (o : Opened). o.had && nat_lt (plus o.line 1) n) f false
    by None = refl
    by (Some o) = ap (λ k. o.had && k) (apart_on o.line n h)

made_loose_on : (bs : List Block) (i : ℕ) → made_loose (map block_on bs) i ≡ map block_on (made_loose bs i)
made_loose_on bs i = rw (slice_get-map block_on bs i) (by (slice_get bs i))
  where
    by : (o : Option Block) → option_map_or (λ (b : Block). slice_set (map block_on bs) i (record b { loose = true })) (option_map block_on o) (map block_on bs) ≡ map block_on (option_map_or (λ (b : Block). slice_set bs i (record b { loose = true })) o bs)
    by None = refl
    by (Some b) = set_map block_on bs i (record b { loose = true })

pub loosened_on : (list : Option ℕ) (apart : Bool) (bs : List Block) → loosened list apart (map block_on bs) ≡ map block_on (loosened list apart bs)
unfolding loosened
loosened_on list false bs = refl
loosened_on None true bs = refl
loosened_on (Some i) true bs = made_loose_on bs i

pub had_marked_on : (os : List Opened) → had_marked (map opened_on os) ≡ map opened_on (had_marked os)
unfolding had_marked
had_marked_on os = rw (length-map os opened_on, slice_get-map opened_on os (length os - 1)) (by (innermost os))
  where
    by : (f : Option Opened) → option_map_or (λ (o : Opened). slice_set (map opened_on os) (length os - 1) (record o { had = true })) (option_map opened_on f) (map opened_on os) ≡ map opened_on (option_map_or (λ (o : Opened). slice_set os (length os - 1) (record o { had = true })) f os)
    by None = refl
    by (Some o) = set_map opened_on os (length os - 1) (record o { had = true })

pub begun_on : (k : BlockKind) (start number e l : ℕ) (s : State) → number + 1 < 2 ^ 64 - 1 → begun (kind_on k) (suc start) (suc number) (page_on e l s) ≡ page_on e l (begun k start number s)
unfolding begun
begun_on k start number e l s h =
    rw (same_list s.opened, same_apart s.opened number h, loosened_on (list_of s.opened) (is_apart s.opened number) s.blocks, had_marked_on s.opened, length-map (had_marked s.opened) opened_on, length-map s.pieces piece_on, map-append block_on (loosened (list_of s.opened) (is_apart s.opened number) s.blocks)) refl

quote_entered_on : (k : Container) (e l : ℕ) (s : State) → quote_entered k (page_on e l s) ≡ page_on e l (quote_entered k s)
quote_entered_on k e l s = rw (length-map s.opened opened_on) (by (is_quote k))
  where
    by : (b : Bool) → (if b then record (page_on e l s) { quotes = s.quotes ++ (length s.opened - 1) ∷ [] } else page_on e l s) ≡ page_on e l (if b then record s { quotes = s.quotes ++ (length s.opened - 1) ∷ [] } else s)
    by true = refl
    by false = refl

pub opened_with_on : (k : Container) (b : BlockKind) (start : ℕ) (line : Line) (e l : ℕ) (s : State) → line.number + 1 < 2 ^ 64 - 1
    → opened_with k (kind_on b) (suc start) (line_on line) (page_on e l s) ≡ page_on e l (opened_with k b start line s)
unfolding opened_with
opened_with_on k b start line e l s h =
    ap (λ (t : State). quote_entered k (record t { opened = t.opened ++ record { container = k; block = length t.blocks - 1; end = suc line.end; line = suc line.number; had = false } ∷ [] })) (begun_on b start line.number e l s h)
    ∙ inner (begun b start line.number s)
  where
    entered : State → State
    entered t = record t { opened = t.opened ++ record { container = k; block = length t.blocks - 1; end = line.end; line = line.number; had = false } ∷ [] }

    inner : (t : State) → quote_entered k (record (page_on e l t) { opened = map opened_on t.opened ++ record { container = k; block = length (map block_on t.blocks) - 1; end = suc line.end; line = suc line.number; had = false } ∷ [] }) ≡ page_on e l (quote_entered k (entered t))
    inner t = rw (length-map t.blocks block_on, ← map-append opened_on t.opened (record { container = k; block = length t.blocks - 1; end = line.end; line = line.number; had = false } ∷ [])) (quote_entered_on k e l (entered t))

pub leaf_opened_on : (f : Leaf) (b : BlockKind) (start : ℕ) (line : Line) (e l : ℕ) (s : State) → line.number + 1 < 2 ^ 64 - 1
    → leaf_opened f (kind_on b) (suc start) (line_on line) (page_on e l s) ≡ tied_on (leaf_opened f b start line s)
unfolding leaf_opened
leaf_opened_on f b start line e l s h =
    ap (λ (t : State). record t { leaf = f; end = suc line.end; line = suc line.number; kept = length t.pieces }) (ap (begun (kind_on b) (suc start) (suc line.number)) (list_left_on e l s) ∙ begun_on b start line.number e l (list_left s) h)
    ∙ rw (length-map (begun b start line.number (list_left s)).pieces piece_on) refl

pub piece_pushed_on : (p : Piece) (e l : ℕ) (s : State) → piece_pushed (piece_on p) (page_on e l s) ≡ page_on e l (piece_pushed p s)
piece_pushed_on p e l s = rw (lt_on p.start p.next, ← map-append piece_on s.pieces (p ∷ [])) (by (nat_lt 0 p.spaces || nat_lt p.start p.next))
  where
    by : (k : Bool) → (if k then record (page_on e l s) { pieces = map piece_on (s.pieces ++ p ∷ []) } else page_on e l s) ≡ page_on e l (if k then record s { pieces = s.pieces ++ p ∷ [] } else s)
    by true = refl
    by false = refl

same_pushed_end : (p : Piece) (s : State) → (piece_pushed p s).end ≡ s.end
same_pushed_end p s = by (nat_lt 0 p.spaces || nat_lt p.start p.next)
  where
    by : (k : Bool) → (if k then record s { pieces = s.pieces ++ p ∷ [] } else s).end ≡ s.end
    by true = refl
    by false = refl

same_pushed_line : (p : Piece) (s : State) → (piece_pushed p s).line ≡ s.line
same_pushed_line p s = by (nat_lt 0 p.spaces || nat_lt p.start p.next)
  where
    by : (k : Bool) → (if k then record s { pieces = s.pieces ++ p ∷ [] } else s).line ≡ s.line
    by true = refl
    by false = refl

pub piece_taken_on : (p : Piece) (line : Line) (keeps : Bool) (s : State) → piece_taken (piece_on p) (line_on line) keeps (tied_on s) ≡ tied_on (piece_taken p line keeps s)
unfolding piece_taken
piece_taken_on p line keeps s =
    ap (λ (t : State). if keeps then record t { kept = length t.pieces; end = suc line.end; line = suc line.number } else t) (piece_pushed_on p (suc s.end) (suc s.line) s)
    ∙ by keeps
  where
    u : State
    u = piece_pushed p s

    by : (k : Bool) → (if k then record (page_on (suc s.end) (suc s.line) u) { kept = length (map piece_on u.pieces); end = suc line.end; line = suc line.number } else page_on (suc s.end) (suc s.line) u)
        ≡ tied_on (if k then record u { kept = length u.pieces; end = line.end; line = line.number } else u)
    by true = rw (length-map u.pieces piece_on) refl
    by false = sym (tie_end (same_pushed_end p s) (same_pushed_line p s))
      where
        tie_end : u.end ≡ s.end → u.line ≡ s.line → tied_on u ≡ page_on (suc s.end) (suc s.line) u
        tie_end a b = ap (λ n. page_on (suc n) (suc u.line) u) a ∙ ap (λ n. page_on (suc s.end) (suc n) u) b

pub same_has_text : (e l : ℕ) (s : State) → has_text (page_on e l s) ≡ has_text s
unfolding has_text
same_has_text e l s = rw (length-map s.blocks block_on, slice_get-map block_on s.blocks (length s.blocks - 1), length-map s.pieces piece_on) (map_or_map block_on (λ (b : Block). nat_lt b.first (length s.pieces)) false (slice_get s.blocks (length s.blocks - 1)))
