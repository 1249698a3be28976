-- How the pages of a text go on in a list item and without it.
use Rattle.std.proofs.Common.{◌≡◌, ℕ, zero, suc, ◌+◌, ◌-◌, ◌<◌, ◌≤◌, Bool, true, false, ◌&&◌, ◌||◌, if◌then◌else◌, nat_lt, List, [], ◌∷◌, ◌++◌, length, map, take, drop, refl, ap, sym, ◌∙◌, subst, arith, length-append, length-take}
use Rattle.std.specs.Prelude.{slice_get, slice_set, Option, Some, None, is_some}
use Rattle.std.specs.Option.{option_map, option_map_or, option_and_then}
use Rattle.std.proofs.lemmas.List.{length-map, map-append, take-map}
use Rattle.tocmark_read_scan.specs.Basic.{plus}
use Rattle.tocmark_read_lines.specs.Containers.{raised, raised_at}
use Rattle.tocmark_read_lines.specs.declared.container.Container.{Container}
use Rattle.tocmark_read_lines.specs.declared.container.Container.TheVariants as container
use Rattle.tocmark_read_lines.specs.declared.container.ItemStart.{ItemStart}
use Rattle.tocmark_read_lines.specs.declared.container.Opened.{Opened}
use Rattle.tocmark_read_lines.specs.declared.line.Line.{Line}
use Rattle.tocmark_read_page.specs.Definitions.{definitions_from}
use Rattle.tocmark_read_page.specs.Pages.{State, innermost, ended, finished, raised_last, leaf_finished, shortened, defined_as, settled_as, settled, leaf_closed_as, leaf_closed, is_quote, is_list, is_definitions, quote_left, one_closed, times, closed_to, list_at, list_of, is_loose, left_noted, list_left, is_apart, made_loose, loosened, had_marked, begun, opened_with, leaf_opened, piece_pushed, has_text, piece_taken}
use Rattle.tocmark_read_page.specs.declared.leaf.Leaf.{Leaf}
use Rattle.tocmark_read_page.specs.declared.leaf.Leaf.TheVariants as leaf
use Rattle.tocmark_read_page.specs.declared.page.Block.{Block}
use Rattle.tocmark_read_page.specs.declared.page.BlockKind.{BlockKind}
use Rattle.tocmark_read_page.specs.declared.piece.Piece.{Piece}
use Rattle.tocmark_text_laws.specs.Items.{list_in_item}
use Rattle.tocmark_text_laws.specs.Quoted.{Sort, ListFrom, Item, sort_of}
use Rattle.tocmark_text_laws.proofs.Pairs.{Pairs, PairOf, set_length, got_some, end_some, pairs_length, pairs_take, pairs_drop, pairs_end, LastOf, Afters, afters_length, afters_got, afters_set, afters_end, afters_changed, afters_place, afters_last, afters_last_got}
use Rattle.tocmark_text_laws.proofs.QuotedContainers.{is_inner}
use Rattle.tocmark_text_laws.proofs.QuotedPieces.{PieceOn, definitions_two}
use Rattle.tocmark_text_laws.proofs.QuotedPages.{Shape, shape_of, quote_count, count_end, count_last, ended_some, finished_some, raised_count, nothing_core, one_fewer, rooted_long, had_count, had_length, begun_length}
use Rattle.tocmark_text_laws.proofs.ItemContainers.{OpenedIn, IsOuterList, IsOuterItem, Opens, opens_last, opens_take, opens_end, opens_more, raised_on, raised_outer, raised_same, two_on}
use Rattle.tocmark_text_laws.proofs.Pages.{is_shut}
use Rattle.tocmark_text_laws.proofs.Leaves.{is_core}

-- two containers deeper, after two blocks more
abbrev pub shape_on : Shape → Shape
shape_on s = record { depth = suc (suc s.depth); sort = s.sort; first = s.first; last = s.last; loose = s.loose; list = list_in_item s.depth s.list; boxed = s.boxed }

-- the list round all others, if it weren't loose
abbrev pub list_shape : Option ℕ → Shape
list_shape number = record { depth = 0; sort = ListFrom number; first = 0; last = 0; loose = false; list = None; boxed = false }

-- its item
abbrev pub item_shape : Shape
item_shape = record { depth = 1; sort = Item; first = 0; last = 0; loose = false; list = Some 0; boxed = false }

abbrev pub BlockOn : List ℕ → List ℕ → Block → Block → Type 0
BlockOn t q there here = shape_of q there ≡ shape_on (shape_of t here)

abbrev pub tightened : Shape → Shape
tightened s = record s { loose = false }

abbrev pub IsListBlock : ItemStart → List ℕ → Block → Type 0
IsListBlock item q b = tightened (shape_of q b) ≡ list_shape item.number

abbrev pub IsItemBlock : List ℕ → Block → Type 0
IsItemBlock q b = shape_of q b ≡ item_shape

-- a page of the text itself, and one of the text in an item, with so many open containers at most
pub record Inside (item : ItemStart) (t q : List ℕ) (n : ℕ) (there here : State) : Type 0 where
  pub opened : Opens item n there.opened here.opened
  pub blocks : Afters (IsListBlock item q) (IsItemBlock q) (BlockOn t q) there.blocks here.blocks
  pub pieces : Pairs (PieceOn t q) there.pieces here.pieces
  pub definitions : there.definitions ≡ here.definitions
  pub quotes : there.quotes ≡ map two_on here.quotes
  pub counted : quote_count here.opened ≡ length here.quotes
  pub leaf : there.leaf ≡ here.leaf
  pub core : is_core here.leaf ≡ true
  pub kept : there.kept ≡ here.kept
  pub tied : is_shut here.leaf ≡ false → (there.line ≡ here.line) × (0 < length here.blocks)

-- pages on which a leaf is open, or just was
pub record Firm (item : ItemStart) (t q : List ℕ) (n : ℕ) (there here : State) : Type 0 where
  pub inside : Inside item t q n there here
  pub line : there.line ≡ here.line
  pub some : 0 < length here.blocks

pub firm : (item : ItemStart) (t q : List ℕ) (n : ℕ) (there here : State) → is_shut here.leaf ≡ false → Inside item t q n there here → Firm item t q n there here
firm item t q n there here e h = record { inside = h; line = (h.tied e).0; some = (h.tied e).1 }

pub inside_more : (item : ItemStart) (t q : List ℕ) (n m : ℕ) (there here : State) → n ≤ m → Inside item t q n there here → Inside item t q m there here
inside_more item t q n m there here k h = record { opened = opens_more item n m there.opened here.opened k h.opened; blocks = h.blocks; pieces = h.pieces; definitions = h.definitions; quotes = h.quotes; counted = h.counted; leaf = h.leaf; core = h.core; kept = h.kept; tied = h.tied }

-- blocks end

pub ended_two : (item : ItemStart) (t q : List ℕ) (i end far : ℕ) (there here : List Block) → Afters (IsListBlock item q) (IsItemBlock q) (BlockOn t q) there here → Afters (IsListBlock item q) (IsItemBlock q) (BlockOn t q) (ended there (suc (suc i)) end) (ended here i far)
unfolding ended
ended_two item t q i end far there here h = afters_changed (IsListBlock item q) (IsItemBlock q) (BlockOn t q) i (λ (b : Block). record b { end = end }) (λ (b : Block). record b { end = far }) (λ x y k. k) there here h

finished_two : (item : ItemStart) (t q : List ℕ) (end far last : ℕ) (there here : List Block) → 0 < length here → Afters (IsListBlock item q) (IsItemBlock q) (BlockOn t q) there here → Afters (IsListBlock item q) (IsItemBlock q) (BlockOn t q) (finished there (length there - 1) end last) (finished here (length here - 1) far last)
unfolding finished
finished_two item t q end far last there here some h =
    afters_last (IsListBlock item q) (IsItemBlock q) (BlockOn t q) (λ (b : Block). record b { end = end; last = last }) (λ (b : Block). record b { end = far; last = last }) (λ x y k. ap (λ (s : Shape). record s { last = last }) k) there here h some

raised_opens : (item : ItemStart) (n end far line : ℕ) (there here : List Opened) → Opens item n there here → Opens item n (raised_at there (length there - 1) end line) (raised_at here (length here - 1) far line)
unfolding raised_at
raised_opens item n end far line there here h = opens_last item n (λ (o : Opened). raised o end line) (λ (o : Opened). raised o far line) (raised_outer item end line) (raised_on end far line) (raised_same far line) there here h

-- the open leaf ends
pub finished_firm : (item : ItemStart) (t q : List ℕ) (n : ℕ) (there here : State) → Firm item t q n there here → Firm item t q n (leaf_finished there) (leaf_finished here)
unfolding leaf_finished
finished_firm item t q n there here f = record {
  inside = rw (f.line, h.kept, count) (record {
    opened = raised_opens item n there.end here.end here.line there.opened here.opened h.opened;
    blocks = finished_two item t q there.end here.end (length (take here.kept here.pieces)) there.blocks here.blocks f.some h.blocks;
    pieces = pieces;
    definitions = h.definitions;
    quotes = h.quotes;
    counted = subst (λ k. k ≡ length here.quotes) (sym (raised_count here.opened (length here.opened - 1) here.end here.line)) h.counted;
    leaf = refl;
    core = nothing_core;
    kept = refl;
    tied = λ o. (refl, some);
  });
  line = f.line;
  some = some;
}
  where
    h : Inside item t q n there here
    h = f.inside

    pieces : Pairs (PieceOn t q) (take here.kept there.pieces) (take here.kept here.pieces)
    pieces = pairs_take (PieceOn t q) here.kept there.pieces here.pieces h.pieces

    count : length (take here.kept there.pieces) ≡ length (take here.kept here.pieces)
    count = pairs_length (PieceOn t q) (take here.kept there.pieces) (take here.kept here.pieces) pieces

    some : 0 < length (finished here.blocks (length here.blocks - 1) here.end (length (take here.kept here.pieces)))
    some = omega (arith, f.some, finished_some here.blocks (length here.blocks - 1) here.end (length (take here.kept here.pieces)))

-- definitions are taken from the open paragraph
defined_firm : (item : ItemStart) (t q : List ℕ) (n : ℕ) (there here : State) (x y : Block) → BlockOn t q x y → Firm item t q n there here → Firm item t q n (defined_as q there x) (defined_as t here y)
unfolding shortened
defined_firm item t q n there here x y u f = record {
  inside = rw (first, h.definitions, found, place) (record {
    opened = h.opened;
    blocks = afters_set (IsListBlock item q) (IsItemBlock q) (BlockOn t q) (length here.blocks - 1) (record x { first = plus y.first count; start = _ }) (record y { first = plus y.first count; start = _ }) (ap (λ (s : Shape). record s { first = plus y.first count }) u) there.blocks here.blocks h.blocks;
    pieces = h.pieces;
    definitions = refl;
    quotes = h.quotes;
    counted = h.counted;
    leaf = h.leaf;
    core = h.core;
    kept = h.kept;
    tied = λ o. (f.line, some);
  });
  line = f.line;
  some = some;
}
  where
    h : Inside item t q n there here
    h = f.inside

    first : x.first ≡ y.first
    first = ap (λ (s : Shape). s.first) u

    place : length there.blocks - 1 ≡ suc (suc (length here.blocks - 1))
    place = afters_place (IsListBlock item q) (IsItemBlock q) (BlockOn t q) there.blocks here.blocks h.blocks f.some

    found : definitions_from q (drop y.first there.pieces) here.definitions ≡ definitions_from t (drop y.first here.pieces) here.definitions
    found = definitions_two t q (drop y.first there.pieces) (drop y.first here.pieces) here.definitions (pairs_drop (PieceOn t q) y.first there.pieces here.pieces h.pieces)

    count : ℕ
    count = (definitions_from t (drop y.first here.pieces) here.definitions).1

    some : 0 < length (slice_set here.blocks (length here.blocks - 1) (shortened y here.pieces count))
    some = omega (arith, f.some, set_length here.blocks (length here.blocks - 1) (shortened y here.pieces count))

pub settled_firm : (item : ItemStart) (t q : List ℕ) (n : ℕ) (there here : State) → Firm item t q n there here → Firm item t q n (settled q there) (settled t here)
unfolding settled
settled_firm item t q n there here f = rw place (by (slice_get there.blocks (suc (suc (length here.blocks - 1)))) (slice_get here.blocks (length here.blocks - 1)) (afters_got (IsListBlock item q) (IsItemBlock q) (BlockOn t q) (length here.blocks - 1) there.blocks here.blocks f.inside.blocks))
  where
    place : length there.blocks - 1 ≡ suc (suc (length here.blocks - 1))
    place = afters_place (IsListBlock item q) (IsItemBlock q) (BlockOn t q) there.blocks here.blocks f.inside.blocks f.some

    boxed : (x y : Block) (k : Bool) → is_some x.task ≡ k → is_some y.task ≡ k → BlockOn t q x y → Firm item t q n (settled_as q there x) (settled_as t here y)
    boxed x y true e g u = rw (e, g) f
    boxed x y false e g u = rw (e, g) (defined_firm item t q n there here x y u f)

    by : (o p : Option Block) → PairOf (BlockOn t q) o p → Firm item t q n (option_map_or (settled_as q there) o there) (option_map_or (settled_as t here) p here)
    by None None u = f
    by None (Some y) u = absurd u
    by (Some x) None u = absurd u
    by (Some x) (Some y) u = boxed x y (is_some y.task) (ap (λ (s : Shape). s.boxed) u) refl u

pub leaf_closed_two : (item : ItemStart) (t q : List ℕ) (n : ℕ) (there here : State) → Inside item t q n there here → Inside item t q n (leaf_closed q there) (leaf_closed t here)
unfolding leaf_closed is_shut is_core
leaf_closed_two item t q n there here h = subst (λ k. Inside item t q n (leaf_closed_as k q there) (leaf_closed_as here.leaf t here)) (sym h.leaf) (by here.leaf h.tied h.core)
  where
    firmly : (there.line ≡ here.line) × (0 < length here.blocks) → Firm item t q n there here
    firmly k = record { inside = h; line = k.0; some = k.1 }

    by : (k : Leaf) → (is_shut k ≡ false → (there.line ≡ here.line) × (0 < length here.blocks)) → is_core k ≡ true → Inside item t q n (leaf_closed_as k q there) (leaf_closed_as k t here)
    by leaf.Nothing e c = h
    by leaf.Paragraph e c = (finished_firm item t q n (settled q there) (settled t here) (settled_firm item t q n there here (firmly (e refl)))).inside
    by leaf.Indented e c = (finished_firm item t q n there here (firmly (e refl))).inside
    by (leaf.Fenced x) e c = (finished_firm item t q n there here (firmly (e refl))).inside
    by (leaf.Html k) e c = (finished_firm item t q n there here (firmly (e refl))).inside
    by (leaf.Metadata k) e c = absurd cc
    by (leaf.Table x) e c = absurd cc

-- containers end

-- the innermost one ends
one_closes : (item : ItemStart) (t q : List ℕ) (n : ℕ) (there here : State) (x y : Opened) → slice_get here.opened (length here.opened - 1) ≡ Some y → OpenedIn x y → Inside item t q n there here
    → Inside item t q n (quote_left x.container (raised_last x.end x.line (record there { opened = take (suc (suc (length here.opened - 1))) there.opened; blocks = ended there.blocks x.block x.end })))
    (quote_left y.container (raised_last y.end y.line (record here { opened = take (length here.opened - 1) here.opened; blocks = ended here.blocks y.block y.end })))
one_closes item t q n there here x y last u h = rw (u.container, u.line, u.block) (by (is_quote y.container) refl)
  where
    os : List Opened
    os = take (length here.opened - 1) here.opened

    ended_here : List Block
    ended_here = ended here.blocks y.block y.end

    opens : Opens item n (take (suc (suc (length here.opened - 1))) there.opened) os
    opens = opens_take item n (length here.opened - 1) there.opened here.opened h.opened

    some : 0 < length here.blocks → 0 < length ended_here
    some k = omega (arith, k, ended_some here.blocks y.block y.end)

    raised_os : List Opened
    raised_os = raised_at os (length os - 1) y.end y.line

    total : quote_count here.opened ≡ quote_count raised_os + (if is_quote y.container then 1 else 0)
    total = count_last here.opened y last ∙ ap (λ k. k + (if is_quote y.container then 1 else 0)) (sym (raised_count os (length os - 1) y.end y.line))

    made : (quotes : List ℕ) (there_quotes : List ℕ) → there_quotes ≡ map two_on quotes → quote_count raised_os ≡ length quotes
        → Inside item t q n (record (raised_last x.end y.line (record there { opened = take (suc (suc (length here.opened - 1))) there.opened; blocks = ended there.blocks (suc (suc y.block)) x.end })) { quotes = there_quotes })
        (record (raised_last y.end y.line (record here { opened = os; blocks = ended_here })) { quotes = quotes })
    made quotes there_quotes e c = record {
      opened = raised_opens item n x.end y.end y.line (take (suc (suc (length here.opened - 1))) there.opened) os opens;
      blocks = ended_two item t q y.block x.end y.end there.blocks here.blocks h.blocks;
      pieces = h.pieces;
      definitions = h.definitions;
      quotes = e;
      counted = c;
      leaf = h.leaf;
      core = h.core;
      kept = h.kept;
      tied = λ o. ((h.tied o).0, some ((h.tied o).1));
    }

    fewer : (qs zs : List ℕ) → zs ≡ map two_on qs → take (length zs - 1) zs ≡ map two_on (take (length qs - 1) qs)
    fewer qs zs e =
        let m : length zs - 1 ≡ length qs - 1 = omega (arith, ap length e, length-map qs two_on) in
        ap (take (length zs - 1)) e ∙ ap (λ i. take i (map two_on qs)) m ∙ take-map two_on (length qs - 1) qs

    by : (k : Bool) → is_quote y.container ≡ k
        → Inside item t q n (if k then record (raised_last x.end y.line (record there { opened = take (suc (suc (length here.opened - 1))) there.opened; blocks = ended there.blocks (suc (suc y.block)) x.end })) { quotes = take (length there.quotes - 1) there.quotes } else raised_last x.end y.line (record there { opened = take (suc (suc (length here.opened - 1))) there.opened; blocks = ended there.blocks (suc (suc y.block)) x.end }))
        (if k then record (raised_last y.end y.line (record here { opened = os; blocks = ended_here })) { quotes = take (length here.quotes - 1) here.quotes } else raised_last y.end y.line (record here { opened = os; blocks = ended_here }))
    by true e =
        let sum : quote_count here.opened ≡ quote_count raised_os + 1 = total ∙ ap (λ k. quote_count raised_os + (if k then 1 else 0)) e in
        made (take (length here.quotes - 1) here.quotes) (take (length there.quotes - 1) there.quotes) (fewer here.quotes there.quotes h.quotes) (omega (arith, sum, h.counted, length-take (length here.quotes - 1) here.quotes))
    by false e =
        let sum : quote_count here.opened ≡ quote_count raised_os + 0 = total ∙ ap (λ k. quote_count raised_os + (if k then 1 else 0)) e in
        made here.quotes there.quotes h.quotes (omega (arith, sum, h.counted))

one_closed_two : (item : ItemStart) (t q : List ℕ) (n : ℕ) (there here : State) → 0 < length here.opened → Inside item t q n there here → Inside item t q n (one_closed there) (one_closed here)
unfolding one_closed
one_closed_two item t q n there here some h = rw place (by (slice_get there.opened (suc (suc (length here.opened - 1)))) (slice_get here.opened (length here.opened - 1)) refl (afters_got (IsOuterList item) (IsOuterItem item) OpenedIn (length here.opened - 1) there.opened here.opened h.opened.after))
  where
    place : length there.opened - 1 ≡ suc (suc (length here.opened - 1))
    place = afters_place (IsOuterList item) (IsOuterItem item) OpenedIn there.opened here.opened h.opened.after some

    by : (o p : Option Opened) → slice_get here.opened (length here.opened - 1) ≡ p → PairOf OpenedIn o p
        → Inside item t q n (option_map_or (λ (x : Opened). quote_left x.container (raised_last x.end x.line (record there { opened = take (suc (suc (length here.opened - 1))) there.opened; blocks = ended there.blocks x.block x.end }))) o there)
        (option_map_or (λ (y : Opened). quote_left y.container (raised_last y.end y.line (record here { opened = take (length here.opened - 1) here.opened; blocks = ended here.blocks y.block y.end }))) p here)
    by None None e u = h
    by None (Some y) e u = absurd u
    by (Some x) None e u = absurd u
    by (Some x) (Some y) e u = one_closes item t q n there here x y e u h

pub times_two : (item : ItemStart) (t q : List ℕ) (n k : ℕ) (there here : State) → k ≤ length here.opened → Inside item t q n there here → Inside item t q n (times one_closed k there) (times one_closed k here)
unfolding times
times_two item t q n zero there here low h = h
times_two item t q n (suc k) there here low h = times_two item t q n k (one_closed there) (one_closed here) (omega (arith, low, one_fewer here (omega (arith, low)))) (one_closed_two item t q n there here (omega (arith, low)) h)

pub closed_two : (item : ItemStart) (t q : List ℕ) (n depth : ℕ) (there here : State) → Inside item t q n there here → Inside item t q n (closed_to q (suc (suc depth)) there) (closed_to t depth here)
unfolding closed_to
closed_two item t q n depth there here h = rw less (times_two item t q n (length (leaf_closed t here).opened - depth) (leaf_closed q there) (leaf_closed t here) (omega arith) shut)
  where
    shut : Inside item t q n (leaf_closed q there) (leaf_closed t here)
    shut = leaf_closed_two item t q n there here h

    less : length (leaf_closed q there).opened - suc (suc depth) ≡ length (leaf_closed t here).opened - depth
    less = omega (arith, afters_length (IsOuterList item) (IsOuterItem item) OpenedIn (leaf_closed q there).opened (leaf_closed t here).opened shut.opened.after)

-- the list that a block is in

-- a list that isn't empty has a last element
last_is : (k : ℕ) (os : List Opened) → length os ≡ suc k → is_some (slice_get os k) ≡ true
last_is k [] m = absurd (omega (arith, m))
last_is zero (o ∷ os) m = refl
last_is (suc k) (o ∷ os) m = last_is k os (omega (arith, m))

list_inner : (item : ItemStart) (n : ℕ) (there here : List Opened) → 0 < length here → Opens item n there here → list_of there ≡ option_map two_on (list_of here)
unfolding list_of is_inner
list_inner item n there here some h = by (innermost there) (innermost here) refl (last_is (length here - 1) here (omega (arith, some))) (afters_last_got (IsOuterList item) (IsOuterItem item) OpenedIn there here h.after)
  where
    inner : (o : Opened) → slice_get here (length here - 1) ≡ Some o → is_inner o.container ≡ true → option_map (λ (l : Opened). l.block) (slice_get there (length there - 2)) ≡ option_map two_on (option_map (λ (l : Opened). l.block) (slice_get here (length here - 2)))
    inner o e k = rw place (each (slice_get there (suc (suc (length here - 2)))) (slice_get here (length here - 2)) (afters_got (IsOuterList item) (IsOuterItem item) OpenedIn (length here - 2) there here h.after))
      where
        place : length there - 2 ≡ suc (suc (length here - 2))
        place = omega (arith, rooted_long here o e k h.rooted, afters_length (IsOuterList item) (IsOuterItem item) OpenedIn there here h.after)

        each : (a b : Option Opened) → PairOf OpenedIn a b → option_map (λ (l : Opened). l.block) a ≡ option_map two_on (option_map (λ (l : Opened). l.block) b)
        each None None u = refl
        each None (Some y) u = absurd u
        each (Some x) None u = absurd u
        each (Some x) (Some y) u = ap Some u.block

    sorts : (k : Container) (x y : Opened) → slice_get here (length here - 1) ≡ Some y → y.container ≡ k → x.block ≡ suc (suc y.block) → list_at k x there ≡ option_map two_on (list_at k y here)
    sorts container.Quote x y e c b = refl
    sorts (container.List sort) x y e c b = ap Some b
    sorts (container.Item width) x y e c b = inner y e (ap is_inner c)
    sorts container.Footnote x y e c b = refl
    sorts container.Definitions x y e c b = ap Some b
    sorts (container.Definition width) x y e c b = inner y e (ap is_inner c)

    by : (o p : Option Opened) → slice_get here (length here - 1) ≡ p → is_some p ≡ true → LastOf (IsOuterItem item) OpenedIn o p → option_and_then (λ (x : Opened). list_at x.container x there) o ≡ option_map two_on (option_and_then (λ (y : Opened). list_at y.container y here) p)
    by o None e g u = absurd cc
    by None (Some y) e g u = absurd u
    by (Some x) (Some y) e g u = ap (λ c. list_at c x there) u.container ∙ sorts y.container x y e refl u.block

pub list_outer : (item : ItemStart) (n : ℕ) (there : List Opened) → Opens item n there [] → list_of there ≡ Some 0
unfolding list_of
list_outer item n [] h = absurd h.after
list_outer item n (x ∷ []) h = absurd (h.after.1)
list_outer item n (x ∷ z ∷ []) h = rw (h.after.1.0).held (ap Some (h.after.0).first)
list_outer item n (x ∷ z ∷ w ∷ ws) h = absurd (h.after.1.1)

list_two : (item : ItemStart) (n : ℕ) (there here : List Opened) → Opens item n there here → list_of there ≡ list_in_item (length here) (list_of here)
list_two item n there [] h = list_outer item n there h
list_two item n there (y ∷ ys) h = list_inner item n there (y ∷ ys) (omega arith) h

left_two : (item : ItemStart) (t q : List ℕ) (n : ℕ) (x y : Opened) (there here : State) → OpenedIn x y → Inside item t q n there here → Inside item t q n (left_noted x there) (left_noted y here)
unfolding left_noted
left_two item t q n x y there here u h = rw u.container (by (is_definitions y.container))
  where
    by : (k : Bool) → Inside item t q n (if k then record there { left = Some (record { list = x.block; behind = length there.blocks; loose = is_loose there.blocks (list_of there.opened) }) } else there) (if k then record here { left = Some (record { list = y.block; behind = length here.blocks; loose = is_loose here.blocks (list_of here.opened) }) } else here)
    by true = record { opened = h.opened; blocks = h.blocks; pieces = h.pieces; definitions = h.definitions; quotes = h.quotes; counted = h.counted; leaf = h.leaf; core = h.core; kept = h.kept; tied = h.tied }
    by false = h

pub list_left_two : (item : ItemStart) (t q : List ℕ) (n : ℕ) (there here : State) → Inside item t q n there here → Inside item t q n (list_left there) (list_left here)
unfolding list_left is_list
list_left_two item t q n there here h = by (innermost there.opened) (innermost here.opened) refl (afters_last_got (IsOuterList item) (IsOuterItem item) OpenedIn there.opened here.opened h.opened.after)
  where
    inner : (x y : Opened) → slice_get here.opened (length here.opened - 1) ≡ Some y → OpenedIn x y → (k : Bool) → Inside item t q n (if k then left_noted x (one_closed there) else there) (if k then left_noted y (one_closed here) else here)
    inner x y e u true = left_two item t q n x y (one_closed there) (one_closed here) u (one_closed_two item t q n there here (got_some here.opened (length here.opened - 1) y e) h)
    inner x y e u false = h

    by : (o p : Option Opened) → slice_get here.opened (length here.opened - 1) ≡ p → LastOf (IsOuterItem item) OpenedIn o p → Inside item t q n (option_map_or (λ (x : Opened). if is_list x.container then left_noted x (one_closed there) else there) o there) (option_map_or (λ (y : Opened). if is_list y.container then left_noted y (one_closed here) else here) p here)
    by None None e u = h
    by None (Some y) e u = absurd u
    by (Some x) None e u = rw u.held h
    by (Some x) (Some y) e u = subst (λ c. Inside item t q n (if is_list c then left_noted x (one_closed there) else there) (if is_list y.container then left_noted y (one_closed here) else here)) (sym u.container) (inner x y e u (is_list y.container))

-- blocks begin

apart_two : (item : ItemStart) (n number : ℕ) (there here : List Opened) → 0 < length here → Opens item n there here → is_apart there number ≡ is_apart here number
unfolding is_apart
apart_two item n number there here some h = by (innermost there) (innermost here) (last_is (length here - 1) here (omega (arith, some))) (afters_last_got (IsOuterList item) (IsOuterItem item) OpenedIn there here h.after)
  where
    apart : Opened → Bool
    apart o = o.had && nat_lt (plus o.line 1) number

    by : (o p : Option Opened) → is_some p ≡ true → LastOf (IsOuterItem item) OpenedIn o p → option_map_or apart o false ≡ option_map_or apart p false
    by o None g u = absurd cc
    by None (Some y) g u = absurd u
    by (Some x) (Some y) g u = rw (u.had, u.line) refl

made_loose_two : (item : ItemStart) (t q : List ℕ) (i : ℕ) (there here : List Block) → Afters (IsListBlock item q) (IsItemBlock q) (BlockOn t q) there here → Afters (IsListBlock item q) (IsItemBlock q) (BlockOn t q) (made_loose there (suc (suc i))) (made_loose here i)
made_loose_two item t q i there here h = afters_changed (IsListBlock item q) (IsItemBlock q) (BlockOn t q) i (λ (b : Block). record b { loose = true }) (λ (b : Block). record b { loose = true }) (λ x y k. ap (λ (s : Shape). record s { loose = true }) k) there here h

-- the list round all others is loose or not
loosened_first : (item : ItemStart) (t q : List ℕ) (list : Option ℕ) (apart : Bool) (there here : List Block) → list ≡ Some 0 → Afters (IsListBlock item q) (IsItemBlock q) (BlockOn t q) there here → Afters (IsListBlock item q) (IsItemBlock q) (BlockOn t q) (loosened list apart there) here
unfolding loosened
loosened_first item t q list apart [] here e h = absurd h
loosened_first item t q list true (b ∷ bs) here e h = rw e (h.0, h.1)
loosened_first item t q list false (b ∷ bs) here e h = h

loosened_inner : (item : ItemStart) (t q : List ℕ) (list' list : Option ℕ) (apart' apart : Bool) (there here : List Block) → list' ≡ option_map two_on list → apart' ≡ apart → Afters (IsListBlock item q) (IsItemBlock q) (BlockOn t q) there here → Afters (IsListBlock item q) (IsItemBlock q) (BlockOn t q) (loosened list' apart' there) (loosened list apart here)
unfolding loosened
loosened_inner item t q list' list apart' apart there here e f h = rw (e, f) (by list apart)
  where
    by : (l : Option ℕ) (a : Bool) → Afters (IsListBlock item q) (IsItemBlock q) (BlockOn t q) (if a then option_map_or (made_loose there) (option_map two_on l) there else there) (if a then option_map_or (made_loose here) l here else here)
    by l false = h
    by None true = h
    by (Some i) true = made_loose_two item t q i there here h

loosened_two : (item : ItemStart) (t q : List ℕ) (n number : ℕ) (os' os : List Opened) (there here : List Block) → Opens item n os' os → Afters (IsListBlock item q) (IsItemBlock q) (BlockOn t q) there here → Afters (IsListBlock item q) (IsItemBlock q) (BlockOn t q) (loosened (list_of os') (is_apart os' number) there) (loosened (list_of os) (is_apart os number) here)
unfolding loosened list_of is_apart
loosened_two item t q n number os' [] there here o h = loosened_first item t q (list_of os') (is_apart os' number) there here (list_outer item n os' o) h
loosened_two item t q n number os' (y ∷ ys) there here o h = loosened_inner item t q (list_of os') (list_of (y ∷ ys)) (is_apart os' number) (is_apart (y ∷ ys) number) there here (list_inner item n os' (y ∷ ys) (omega arith) o) (apart_two item n number os' (y ∷ ys) (omega arith) o) h

had_two : (item : ItemStart) (n : ℕ) (there here : List Opened) → Opens item n there here → Opens item n (had_marked there) (had_marked here)
unfolding had_marked
had_two item n there here h = opens_last item n (λ (o : Opened). record o { had = true }) (λ (o : Opened). record o { had = true }) (λ x k. record { held = k.held; second = k.second; had = refl }) (λ x y k. record { container = k.container; block = k.block; line = k.line; had = refl }) (λ o. refl) there here h

begun_firm : (item : ItemStart) (t q : List ℕ) (n : ℕ) (x y : BlockKind) (start far number : ℕ) (there here : State) → sort_of q x ≡ sort_of t y → Inside item t q n there here → Inside item t q n (begun x start number there) (begun y far number here) × (0 < length (begun y far number here).blocks)
unfolding begun
begun_firm item t q n x y start far number there here e h = (
  record {
    opened = had_two item n there.opened here.opened h.opened;
    blocks = afters_end (IsListBlock item q) (IsItemBlock q) (BlockOn t q) _ _ shape (loosened (list_of there.opened) (is_apart there.opened number) there.blocks) (loosened (list_of here.opened) (is_apart here.opened number) here.blocks) (loosened_two item t q n number there.opened here.opened there.blocks here.blocks h.opened h.blocks);
    pieces = h.pieces;
    definitions = h.definitions;
    quotes = h.quotes;
    counted = subst (λ k. k ≡ length here.quotes) (sym (had_count here.opened)) h.counted;
    leaf = h.leaf;
    core = h.core;
    kept = h.kept;
    tied = λ o. ((h.tied o).0, end_some (loosened (list_of here.opened) (is_apart here.opened number) here.blocks) _);
  },
  end_some (loosened (list_of here.opened) (is_apart here.opened number) here.blocks) _,
)
  where
    depth : length (had_marked there.opened) ≡ suc (suc (length (had_marked here.opened)))
    depth = afters_length (IsOuterList item) (IsOuterItem item) OpenedIn (had_marked there.opened) (had_marked here.opened) (had_two item n there.opened here.opened h.opened).after

    count : length there.pieces ≡ length here.pieces
    count = pairs_length (PieceOn t q) there.pieces here.pieces h.pieces

    made : ℕ → Sort → ℕ → Option ℕ → Shape
    made d s k l = record { depth = d; sort = s; first = k; last = k; loose = false; list = l; boxed = false }

    shape : made (length (had_marked there.opened)) (sort_of q x) (length there.pieces) (list_of there.opened) ≡ made (suc (suc (length (had_marked here.opened)))) (sort_of t y) (length here.pieces) (list_in_item (length (had_marked here.opened)) (list_of here.opened))
    shape = rw (depth, e, count, list_two item n there.opened here.opened h.opened, had_length here.opened) refl

pub opened_with_two : (item : ItemStart) (t q : List ℕ) (n : ℕ) (c : Container) (x y : BlockKind) (start far : ℕ) (l' l : Line) (there here : State) → sort_of q x ≡ sort_of t y → l'.number ≡ l.number → (is_inner c ≡ true → 0 < length here.opened) → Inside item t q n there here
    → Inside item t q (suc n) (opened_with c x start l' there) (opened_with c y far l here)
unfolding opened_with
opened_with_two item t q n c x y start far l' l there here e number inner h = rw number (by (is_quote c) refl)
  where
    u' : State
    u' = begun x start l.number there

    u : State
    u = begun y far l.number here

    b : Inside item t q n u' u
    b = (begun_firm item t q n x y start far l.number there here e h).0

    some : 0 < length u.blocks
    some = (begun_firm item t q n x y start far l.number there here e h).1

    new' : Opened
    new' = record { container = c; block = length u'.blocks - 1; end = l'.end; line = l.number; had = false }

    new : Opened
    new = record { container = c; block = length u.blocks - 1; end = l.end; line = l.number; had = false }

    many : is_inner c ≡ true → 0 < length u.opened
    many k = omega (arith, inner k, begun_length y far l.number here)

    opens : Opens item (suc n) (u'.opened ++ new' ∷ []) (u.opened ++ new ∷ [])
    opens = opens_end item n new' new (record { container = refl; block = afters_place (IsListBlock item q) (IsItemBlock q) (BlockOn t q) u'.blocks u.blocks b.blocks some; line = refl; had = refl }) u'.opened u.opened many b.opened

    made : (quotes' quotes : List ℕ) → quotes' ≡ map two_on quotes → quote_count (u.opened ++ new ∷ []) ≡ length quotes → Inside item t q (suc n) (record u' { opened = u'.opened ++ new' ∷ []; quotes = quotes' }) (record u { opened = u.opened ++ new ∷ []; quotes = quotes })
    made quotes' quotes g k = record { opened = opens; blocks = b.blocks; pieces = b.pieces; definitions = b.definitions; quotes = g; counted = k; leaf = b.leaf; core = b.core; kept = b.kept; tied = b.tied }

    place : length (u'.opened ++ new' ∷ []) - 1 ≡ suc (suc (length (u.opened ++ new ∷ []) - 1))
    place = afters_place (IsOuterList item) (IsOuterItem item) OpenedIn (u'.opened ++ new' ∷ []) (u.opened ++ new ∷ []) opens.after (end_some u.opened new)

    more : (zs qs : List ℕ) → zs ≡ map two_on qs → zs ++ (length (u'.opened ++ new' ∷ []) - 1) ∷ [] ≡ map two_on (qs ++ (length (u.opened ++ new ∷ []) - 1) ∷ [])
    more zs qs g = ap (λ (ys : List ℕ). ys ++ (length (u'.opened ++ new' ∷ []) - 1) ∷ []) g ∙ ap (λ k. map two_on qs ++ k ∷ []) place ∙ sym (map-append two_on qs ((length (u.opened ++ new ∷ []) - 1) ∷ []))

    total : quote_count (u.opened ++ new ∷ []) ≡ quote_count u.opened + (if is_quote c then 1 else 0)
    total = count_end u.opened new

    by : (k : Bool) → is_quote c ≡ k
        → Inside item t q (suc n) (if k then record (record u' { opened = u'.opened ++ new' ∷ [] }) { quotes = u'.quotes ++ (length (u'.opened ++ new' ∷ []) - 1) ∷ [] } else record u' { opened = u'.opened ++ new' ∷ [] })
        (if k then record (record u { opened = u.opened ++ new ∷ [] }) { quotes = u.quotes ++ (length (u.opened ++ new ∷ []) - 1) ∷ [] } else record u { opened = u.opened ++ new ∷ [] })
    by true g =
        let sum : quote_count (u.opened ++ new ∷ []) ≡ quote_count u.opened + 1 = total ∙ ap (λ k. quote_count u.opened + (if k then 1 else 0)) g in
        made (u'.quotes ++ (length (u'.opened ++ new' ∷ []) - 1) ∷ []) (u.quotes ++ (length (u.opened ++ new ∷ []) - 1) ∷ []) (more u'.quotes u.quotes b.quotes) (omega (arith, sum, b.counted, length-append u.quotes ((length (u.opened ++ new ∷ []) - 1) ∷ [])))
    by false g =
        let sum : quote_count (u.opened ++ new ∷ []) ≡ quote_count u.opened + 0 = total ∙ ap (λ k. quote_count u.opened + (if k then 1 else 0)) g in
        made u'.quotes u.quotes b.quotes (omega (arith, sum, b.counted))

pub leaf_opened_firm : (item : ItemStart) (t q : List ℕ) (n : ℕ) (f : Leaf) (x y : BlockKind) (start far : ℕ) (l' l : Line) (there here : State) → is_core f ≡ true → sort_of q x ≡ sort_of t y → l'.number ≡ l.number → Inside item t q n there here
    → Firm item t q n (leaf_opened f x start l' there) (leaf_opened f y far l here)
unfolding leaf_opened
leaf_opened_firm item t q n f x y start far l' l there here core e number h = rw number (record {
  inside = record {
    opened = b.opened;
    blocks = b.blocks;
    pieces = b.pieces;
    definitions = b.definitions;
    quotes = b.quotes;
    counted = b.counted;
    leaf = refl;
    core = core;
    kept = pairs_length (PieceOn t q) _ _ b.pieces;
    tied = λ o. (refl, both.1);
  };
  line = refl;
  some = both.1;
})
  where
    both : Inside item t q n (begun x start l.number (list_left there)) (begun y far l.number (list_left here)) × (0 < length (begun y far l.number (list_left here)).blocks)
    both = begun_firm item t q n x y start far l.number (list_left there) (list_left here) e (list_left_two item t q n there here h)

    b : Inside item t q n (begun x start l.number (list_left there)) (begun y far l.number (list_left here))
    b = both.0

pushed_firm : (item : ItemStart) (t q : List ℕ) (n : ℕ) (x y : Piece) (there here : State) → PieceOn t q x y → Firm item t q n there here → Firm item t q n (piece_pushed x there) (piece_pushed y here)
pushed_firm item t q n x y there here p f = subst (λ k. Firm item t q n (if k then record there { pieces = there.pieces ++ x ∷ [] } else there) (piece_pushed y here)) (sym test) (by (nat_lt 0 y.spaces || nat_lt y.start y.next))
  where
    test : (nat_lt 0 x.spaces || nat_lt x.start x.next) ≡ (nat_lt 0 y.spaces || nat_lt y.start y.next)
    test = rw (p.spaces, p.some) refl

    h : Inside item t q n there here
    h = f.inside

    by : (k : Bool) → Firm item t q n (if k then record there { pieces = there.pieces ++ x ∷ [] } else there) (if k then record here { pieces = here.pieces ++ y ∷ [] } else here)
    by true = record {
      inside = record { opened = h.opened; blocks = h.blocks; pieces = pairs_end (PieceOn t q) x y p there.pieces here.pieces h.pieces; definitions = h.definitions; quotes = h.quotes; counted = h.counted; leaf = h.leaf; core = h.core; kept = h.kept; tied = h.tied };
      line = f.line;
      some = f.some;
    }
    by false = f

pub piece_taken_firm : (item : ItemStart) (t q : List ℕ) (n : ℕ) (x y : Piece) (l' l : Line) (keeps : Bool) (there here : State) → PieceOn t q x y → l'.number ≡ l.number → Firm item t q n there here → Firm item t q n (piece_taken x l' keeps there) (piece_taken y l keeps here)
unfolding piece_taken
piece_taken_firm item t q n x y l' l keeps there here p number f = rw number (by keeps (piece_pushed x there) (piece_pushed y here) (pushed_firm item t q n x y there here p f))
  where
    by : (k : Bool) (u' u : State) → Firm item t q n u' u → Firm item t q n (if k then record u' { kept = length u'.pieces; end = l'.end; line = l.number } else u') (if k then record u { kept = length u.pieces; end = l.end; line = l.number } else u)
    by true u' u g = record {
      inside = record { opened = g.inside.opened; blocks = g.inside.blocks; pieces = g.inside.pieces; definitions = g.inside.definitions; quotes = g.inside.quotes; counted = g.inside.counted; leaf = g.inside.leaf; core = g.inside.core; kept = pairs_length (PieceOn t q) u'.pieces u.pieces g.inside.pieces; tied = λ o. (refl, g.some) };
      line = refl;
      some = g.some;
    }
    by false u' u g = g

pub has_text_two : (item : ItemStart) (t q : List ℕ) (n : ℕ) (there here : State) → Firm item t q n there here → has_text there ≡ has_text here
unfolding has_text
has_text_two item t q n there here f = rw (place, pairs_length (PieceOn t q) there.pieces here.pieces f.inside.pieces) (by (slice_get there.blocks (suc (suc (length here.blocks - 1)))) (slice_get here.blocks (length here.blocks - 1)) (afters_got (IsListBlock item q) (IsItemBlock q) (BlockOn t q) (length here.blocks - 1) there.blocks here.blocks f.inside.blocks))
  where
    place : length there.blocks - 1 ≡ suc (suc (length here.blocks - 1))
    place = afters_place (IsListBlock item q) (IsItemBlock q) (BlockOn t q) there.blocks here.blocks f.inside.blocks f.some

    by : (o p : Option Block) → PairOf (BlockOn t q) o p → option_map_or (λ (b : Block). nat_lt b.first (length here.pieces)) o false ≡ option_map_or (λ (b : Block). nat_lt b.first (length here.pieces)) p false
    by None None u = refl
    by None (Some y) u = absurd u
    by (Some x) None u = absurd u
    by (Some x) (Some y) u = ap (λ (s : Shape). nat_lt s.first (length here.pieces)) u
