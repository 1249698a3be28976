-- A page whose blocks are nested, and whose open containers are those that could go on.
use Rattle.std.proofs.Common.{◌≡◌, ℕ, zero, suc, ◌+◌, ◌-◌, ◌≤◌, ◌⊎◌, inl, inr, Bool, true, false, ◌||◌, if◌then◌else◌, nat_lt, nat_le, List, [], ◌∷◌, ◌++◌, length, map, take, refl, ap, sym, ◌∙◌, subst, arith, append_assoc, length-append, length-take, true≢false}
use Rattle.std.specs.Prelude.{min, slice_get, slice_set, Option, Some, None, is_some}
use Rattle.std.specs.Option.{option_and_then, option_map, option_map_or}
use Rattle.std.specs.List.{fold, AllByRecursion}
use Rattle.std.proofs.lemmas.List.{map-append}
use Rattle.tocmark_read_lines.specs.Containers.{raised, raised_at, touched_from}
use Rattle.tocmark_read_lines.specs.declared.container.Container.{Container}
use Rattle.tocmark_read_lines.specs.declared.container.Container.TheVariants as container
use Rattle.tocmark_read_lines.specs.declared.container.Opened.{Opened}
use Rattle.tocmark_read_lines.specs.declared.line.Line.{Line}
use Rattle.tocmark_event.specs.declared.event.HeadingLevel.{HeadingLevel}
use Rattle.tocmark_read_page.specs.Leaves.{is_paragraph}
use Rattle.tocmark_read_page.specs.Pages.{State, innermost, ended, finished, leaf_finished, table_finished, shortened, defined_as, settled_as, settled, leaf_closed_as, leaf_closed, is_quote, is_list, is_definitions, quote_left, one_closed, times, closed_to, list_at, list_of, is_loose, left_noted, list_left, is_apart, loosened, had_marked, begun, quote_entered, opened_with, leaf_opened, piece_taken, of_kind}
use Rattle.tocmark_read_page.specs.declared.leaf.Leaf.{Leaf}
use Rattle.tocmark_read_page.specs.declared.leaf.Leaf.TheVariants as leaf
use Rattle.tocmark_read_page.specs.declared.leaf.Table.{Table}
use Rattle.tocmark_read_page.specs.declared.page.Block.{Block}
use Rattle.tocmark_read_page.specs.declared.page.BlockKind.{BlockKind}
use Rattle.tocmark_read_page.specs.declared.page.BlockKind.TheVariants as kind
use Rattle.tocmark_read_page.specs.declared.piece.Piece.{Piece}
use Rattle.tocmark_text_laws.proofs.Alls.{all_set, all_got, all_changed, all_both, all_take, all_weaker, got_end, got_last, same_numbers, last_changed}
use Rattle.tocmark_standard_laws.specs.Nesting.{Sort, OfQuote, OfList, OfItem, sort_of, is_common, Outer, list_in, is_list_sort, ends_in_list, Shape, shape, HasList, IsIn, after_as, after, Nested}
use Rattle.tocmark_standard_laws.specs.Nesting as nesting

abbrev pub shapes : List Block → List Shape
shapes bs = map shape bs

-- the sort of an open container
abbrev pub container_sort : Container → Sort
container_sort container.Quote = OfQuote
container_sort (container.List sort) = OfList
container_sort (container.Item width) = OfItem
container_sort container.Footnote = OfQuote
container_sort container.Definitions = OfList
container_sort (container.Definition width) = OfItem

abbrev pub outer_of : Opened → Outer
outer_of o = record { number = o.block; sort = container_sort o.container }

abbrev pub outers : List Opened → List Outer
outers os = map outer_of os

-- the containers that could go on after blocks
abbrev pub path_after : List Outer → ℕ → List Shape → List Outer
path_after path at [] = path
path_after path at (b ∷ bs) = path_after (after path at b) (suc at) bs

nested_append : (path : List Outer) (at : ℕ) (xs : List Shape) (b : Shape) → Nested path at xs → IsIn (path_after path at xs) b → Nested path at (xs ++ b ∷ [])
nested_append path at [] b h k = (k, tt)
nested_append path at (x ∷ xs) b h k = (h.0, nested_append (after path at x) (suc at) xs b (h.1) k)

path_append : (path : List Outer) (at : ℕ) (xs : List Shape) (b : Shape) → path_after path at (xs ++ b ∷ []) ≡ after (path_after path at xs) (at + length xs) b
path_append path at [] b = ap (λ n. after path n b) (let h : at ≡ at + 0 = omega arith in h)
path_append path at (x ∷ xs) b = path_append (after path at x) (suc at) xs b ∙ ap (λ n. after (path_after (after path at x) (suc at) xs) n b) (let h : suc at + length xs ≡ at + suc (length xs) = omega arith in h)

-- the open containers are the first ones of these
abbrev pub IsFront : List Opened → List Outer → Type 0
IsFront [] path = Unit {0}
IsFront (o ∷ os) [] = ⊥
IsFront (o ∷ os) (p ∷ path) = (outer_of o ≡ p) × IsFront os path

front_take : (m : ℕ) (os : List Opened) (path : List Outer) → IsFront os path → IsFront (take m os) path
front_take zero [] path h = tt
front_take zero (o ∷ os) path h = tt
front_take (suc m) [] path h = tt
front_take (suc m) (o ∷ os) [] h = absurd h
front_take (suc m) (o ∷ os) (p ∷ path) h = (h.0, front_take m os path (h.1))

front_same : (os us : List Opened) (path : List Outer) → outers us ≡ outers os → IsFront os path → IsFront us path
front_same [] [] path e h = tt
front_same [] (u ∷ us) path e h = absurd cc
front_same (o ∷ os) [] path e h = tt
front_same (o ∷ os) (u ∷ us) [] e h = absurd h
front_same (o ∷ os) (u ∷ us) (p ∷ path) e h =
    let one : outer_of u ≡ outer_of o = cc in
    let rest : outers us ≡ outers os = cc in
    (one ∙ h.0, front_same os us path rest (h.1))

front_short : (os : List Opened) (path : List Outer) → IsFront os path → length os ≤ length path
front_short [] path h = omega arith
front_short (o ∷ os) [] h = absurd h
front_short (o ∷ os) (p ∷ path) h = let w : length os ≤ length path = front_short os path (h.1) in omega arith

front_is : (os : List Opened) (path : List Outer) → IsFront os path → take (length os) path ≡ outers os
front_is [] [] h = refl
front_is [] (p ∷ path) h = refl
front_is (o ∷ os) [] h = absurd h
front_is (o ∷ os) (p ∷ path) h = ap (λ q. q ∷ take (length os) path) (sym (h.0)) ∙ ap (λ xs. outer_of o ∷ xs) (front_is os path (h.1))

front_own : (os : List Opened) → IsFront os (outers os)
front_own [] = tt
front_own (o ∷ os) = (refl, front_own os)

same_outers : (os : List Opened) (i : ℕ) (f : Opened → Opened) → ((o : Opened) → outer_of (f o) ≡ outer_of o) → outers (option_map_or (λ (o : Opened). slice_set os i (f o)) (slice_get os i) os) ≡ outers os
same_outers os i f same = same_numbers outer_of os i f same

raised_outers : (os : List Opened) (i e l : ℕ) → outers (raised_at os i e l) ≡ outers os
unfolding raised_at raised
raised_outers os i e l = same_outers os i (λ (o : Opened). raised o e l) (λ o. refl)

touched_outers : (count e l : ℕ) (qs : List ℕ) (os : List Opened) → outers (touched_from count e l qs os) ≡ outers os
touched_outers count e l [] os = refl
touched_outers count e l (q ∷ qs) os = by (nat_le count q) (touched_outers count e l qs (raised_at os q e l) ∙ raised_outers os q e l)
  where
    by : (x : Bool) → outers (touched_from count e l qs (raised_at os q e l)) ≡ outers os → outers (if x then os else touched_from count e l qs (raised_at os q e l)) ≡ outers os
    by true h = refl
    by false h = h

had_outers : (os : List Opened) → outers (had_marked os) ≡ outers os
unfolding had_marked
had_outers os = same_outers os (length os - 1) (λ (o : Opened). record o { had = true }) (λ o. refl)

outers_length : (os us : List Opened) → outers os ≡ outers us → length os ≡ length us
outers_length [] [] e = refl
outers_length [] (u ∷ us) e = absurd cc
outers_length (o ∷ os) [] e = absurd cc
outers_length (o ∷ os) (u ∷ us) e = let rest : outers os ≡ outers us = cc in ap suc (outers_length os us rest)

-- open containers after a change of blocks that nesting doesn't see
pub front_kept : (os : List Opened) (bs cs : List Shape) → bs ≡ cs → IsFront os (path_after [] 0 bs) → IsFront os (path_after [] 0 cs)
front_kept os bs cs e h = subst (λ xs. IsFront os (path_after [] 0 xs)) e h

pub front_touched : (count e l : ℕ) (qs : List ℕ) (os : List Opened) (bs : List Shape) → IsFront os (path_after [] 0 bs) → IsFront (touched_from count e l qs os) (path_after [] 0 bs)
front_touched count e l qs os bs h = front_same os (touched_from count e l qs os) (path_after [] 0 bs) (touched_outers count e l qs os) h

-- items are directly in lists
abbrev IsListed : Bool → Sort → Type 0
IsListed was OfItem = was ≡ true
IsListed was s = Unit {0}

abbrev AreListed : Bool → List Outer → Type 0
AreListed was [] = Unit {0}
AreListed was (o ∷ os) = IsListed was o.sort × AreListed (is_list_sort o.sort) os

abbrev lists_last : Bool → List Outer → Bool
lists_last was path = fold (λ (b : Bool) (o : Outer). is_list_sort o.sort) was path

listed_take : (was : Bool) (n : ℕ) (path : List Outer) → AreListed was path → AreListed was (take n path)
listed_take was zero [] h = tt
listed_take was zero (o ∷ os) h = tt
listed_take was (suc n) [] h = tt
listed_take was (suc n) (o ∷ os) h = (h.0, listed_take (is_list_sort o.sort) n os (h.1))

listed_more : (was : Bool) (path : List Outer) (o : Outer) → AreListed was path → IsListed (lists_last was path) o.sort → AreListed was (path ++ o ∷ [])
listed_more was [] o h k = (k, tt)
listed_more was (x ∷ xs) o h k = (h.0, listed_more (is_list_sort x.sort) xs o (h.1) k)

listed_last : (was : Bool) (path : List Outer) (o : Outer) → AreListed was (path ++ o ∷ []) → IsListed (lists_last was path) o.sort
listed_last was [] o h = h.0
listed_last was (x ∷ xs) o h = listed_last (is_list_sort x.sort) xs o (h.1)

has_listed : (path : List Outer) (s : Sort) → HasList (Some s) path → IsListed (lists_last false path) s
has_listed path OfItem h = h
has_listed path OfQuote h = tt
has_listed path OfList h = tt

after_listed : (path : List Outer) (at : ℕ) (b : Shape) → AreListed false path → IsIn path b → AreListed false (after path at b)
after_listed path at b h k = by b.sort k.item
  where
    by : (o : Option Sort) → HasList o (take b.depth path) → AreListed false (after_as (take b.depth path) at o)
    by None i = listed_take false b.depth path h
    by (Some s) i = listed_more false (take b.depth path) (record { number = at; sort = s }) (listed_take false b.depth path h) (has_listed (take b.depth path) s i)

nested_listed : (path : List Outer) (at : ℕ) (bs : List Shape) → AreListed false path → Nested path at bs → AreListed false (path_after path at bs)
nested_listed path at [] h k = h
nested_listed path at (b ∷ bs) h k = nested_listed (after path at b) (suc at) bs (after_listed path at b h (k.0)) (k.1)

-- the last one of open containers
pub last_split : (os : List Opened) → (os ≡ []) ⊎ ((us : List Opened) × (o : Opened) × (os ≡ us ++ o ∷ []))
last_split [] = inl refl
last_split (o ∷ os) = by (last_split os)
  where
    by : (os ≡ []) ⊎ ((us : List Opened) × (u : Opened) × (os ≡ us ++ u ∷ [])) → (o ∷ os ≡ []) ⊎ ((us : List Opened) × (u : Opened) × (o ∷ os ≡ us ++ u ∷ []))
    by (inl e) = inr ([], o, ap (λ (xs : List Opened). o ∷ xs) e)
    by (inr (us, u, e)) = inr (o ∷ us, u, ap (λ (xs : List Opened). o ∷ xs) e)

outers_last : (us : List Opened) (o : Opened) → outers (us ++ o ∷ []) ≡ outers us ++ outer_of o ∷ []
outers_last us o = map-append outer_of us (o ∷ [])

list_last : (was : Option ℕ) (path : List Outer) (o : Outer) → fold (λ (list : Option ℕ) (x : Outer). nesting.list_at list x x.sort) was (path ++ o ∷ []) ≡ nesting.list_at (fold (λ (list : Option ℕ) (x : Outer). nesting.list_at list x x.sort) was path) o o.sort
list_last was [] o = refl
list_last was (x ∷ xs) o = list_last (nesting.list_at was x x.sort) xs o

lists_more : (was : Bool) (path : List Outer) (o : Outer) → lists_last was (path ++ o ∷ []) ≡ is_list_sort o.sort
lists_more was [] o = refl
lists_more was (x ∷ xs) o = lists_more (is_list_sort x.sort) xs o

pub ends_listed : (us : List Opened) (o : Opened) → ends_in_list (outers (us ++ o ∷ [])) ≡ is_list_sort (container_sort o.container)
ends_listed us o = ap ends_in_list (outers_last us o) ∙ lists_more false (outers us) (outer_of o)

-- the list that a block in these containers counts for

second_place : (vs : List Opened) (l o : Opened) → slice_get ((vs ++ l ∷ []) ++ o ∷ []) (length ((vs ++ l ∷ []) ++ o ∷ []) - 2) ≡ Some l
second_place vs l o =
    ap (λ n. slice_get ((vs ++ l ∷ []) ++ o ∷ []) n) place ∙ ap (λ (xs : List Opened). slice_get xs (length vs)) (append_assoc vs (l ∷ []) (o ∷ [])) ∙ got_end vs (o ∷ []) l
  where
    place : length ((vs ++ l ∷ []) ++ o ∷ []) - 2 ≡ length vs
    place = let a : length ((vs ++ l ∷ []) ++ o ∷ []) ≡ length (vs ++ l ∷ []) + 1 = length-append (vs ++ l ∷ []) (o ∷ []) in let b : length (vs ++ l ∷ []) ≡ length vs + 1 = length-append vs (l ∷ []) in omega (arith, a, b)

-- the number of the innermost container, if that is a list
outer_list : (us : List Opened) (o : Opened) → ends_in_list (outers us) ≡ true → option_map (λ (l : Opened). l.block) (slice_get (us ++ o ∷ []) (length (us ++ o ∷ []) - 2)) ≡ list_in (outers us)
outer_list us o h = by (last_split us)
  where
    with : (vs : List Opened) (l : Opened) → us ≡ vs ++ l ∷ [] → is_list_sort (container_sort l.container) ≡ true → option_map (λ (x : Opened). x.block) (slice_get (us ++ o ∷ []) (length (us ++ o ∷ []) - 2)) ≡ list_in (outers us)
    with vs l e k =
        ap (λ (xs : List Opened). option_map (λ (x : Opened). x.block) (slice_get (xs ++ o ∷ []) (length (xs ++ o ∷ []) - 2))) e
        ∙ ap (option_map (λ (x : Opened). x.block)) (second_place vs l o)
        ∙ of_sort (container_sort l.container) k
        ∙ sym (list_last None (outers vs) (outer_of l))
        ∙ ap list_in (sym (outers_last vs l))
        ∙ ap (λ (xs : List Opened). list_in (outers xs)) (sym e)
      where
        of_sort : (s : Sort) → is_list_sort s ≡ true → Some l.block ≡ nesting.list_at (list_in (outers vs)) (outer_of l) s
        of_sort OfList k = refl
        of_sort OfQuote k = absurd (true≢false (sym k))
        of_sort OfItem k = absurd (true≢false (sym k))

    by : (us ≡ []) ⊎ ((vs : List Opened) × (l : Opened) × (us ≡ vs ++ l ∷ [])) → option_map (λ (x : Opened). x.block) (slice_get (us ++ o ∷ []) (length (us ++ o ∷ []) - 2)) ≡ list_in (outers us)
    by (inl e) = absurd (true≢false (sym h ∙ ap (λ (xs : List Opened). ends_in_list (outers xs)) e))
    by (inr (vs, l, e)) = with vs l e (sym (ends_listed vs l) ∙ ap (λ (xs : List Opened). ends_in_list (outers xs)) (sym e) ∙ h)

list_same : (os : List Opened) → AreListed false (outers os) → list_of os ≡ list_in (outers os)
unfolding list_of
list_same os h = by (last_split os)
  where
    of : (us : List Opened) (o : Opened) (k : Container) → IsListed (lists_last false (outers us)) (container_sort k) → list_at k o (us ++ o ∷ []) ≡ nesting.list_at (list_in (outers us)) (outer_of o) (container_sort k)
    of us o container.Quote i = refl
    of us o (container.List sort) i = refl
    of us o (container.Item width) i = outer_list us o i
    of us o container.Footnote i = refl
    of us o container.Definitions i = refl
    of us o (container.Definition width) i = outer_list us o i

    by : (os ≡ []) ⊎ ((us : List Opened) × (o : Opened) × (os ≡ us ++ o ∷ [])) → list_of os ≡ list_in (outers os)
    by (inl e) = ap list_of e ∙ ap (λ (xs : List Opened). list_in (outers xs)) (sym e)
    by (inr (us, o, e)) =
        ap list_of e ∙ ap (option_and_then (λ (x : Opened). list_at x.container x (us ++ o ∷ []))) (got_last us o)
        ∙ of us o o.container (listed_last false (outers us) (outer_of o) (subst (AreListed false) (ap outers e ∙ outers_last us o) h))
        ∙ sym (list_last None (outers us) (outer_of o)) ∙ ap list_in (sym (outers_last us o)) ∙ ap (λ (xs : List Opened). list_in (outers xs)) (sym e)

-- the last block is a leaf of CommonMark
abbrev pub LeafLast : List Shape → Type 0
LeafLast [] = ⊥
LeafLast (b ∷ []) = (b.sort ≡ None) × (b.common ≡ true)
LeafLast (b ∷ c ∷ bs) = LeafLast (c ∷ bs)

leaf_last : (bs : List Shape) (b : Shape) → b.sort ≡ None → b.common ≡ true → LeafLast (bs ++ b ∷ [])
leaf_last [] b h k = (h, k)
leaf_last (c ∷ []) b h k = (h, k)
leaf_last (c ∷ d ∷ bs) b h k = leaf_last (d ∷ bs) b h k

record SplitLeaf (bs : List Block) : Type 0 where
  front : List Block
  last : Block
  is : bs ≡ front ++ last ∷ []
  leaf : sort_of last.kind ≡ None
  common : is_common last.kind ≡ true

split_leaf : (bs : List Block) → LeafLast (shapes bs) → SplitLeaf bs
split_leaf [] h = absurd h
split_leaf (b ∷ []) h = record { front = []; last = b; is = refl; leaf = h.0; common = h.1 }
split_leaf (b ∷ c ∷ bs) h = let r : SplitLeaf (c ∷ bs) = split_leaf (c ∷ bs) h in record { front = b ∷ r.front; last = r.last; is = ap (λ (xs : List Block). b ∷ xs) r.is; leaf = r.leaf; common = r.common }

-- the lines of a leaf end where those of the page do, or before
abbrev pub Within : ℕ → ℕ → Block → Type 0
Within kept count b = sort_of b.kind ≡ None → (b.last ≤ kept) × (b.last ≤ count)

-- a page with lines that are so
pub record Fits (P : Piece → Type 0) (s : State) : Type 0 where
  pub nest : Nested [] 0 (shapes s.blocks)
  pub open_ones : IsFront s.opened (path_after [] 0 (shapes s.blocks))
  pub words : is_paragraph s.leaf ≡ true → LeafLast (shapes s.blocks)
  pub lasts : AllByRecursion (Within s.kept (length s.pieces)) s.blocks
  pub pieces : AllByRecursion P s.pieces

-- no leaf is open
pub no_words : (s : State) → s.leaf ≡ leaf.Nothing → is_paragraph s.leaf ≡ true → LeafLast (shapes s.blocks)
unfolding is_paragraph
no_words s e h = absurd (true≢false (sym h ∙ ap is_paragraph e))

-- the same blocks as far as nesting goes, and the same open containers
alike : (P : Piece → Type 0) (s t : State) → shapes t.blocks ≡ shapes s.blocks → outers t.opened ≡ outers s.opened → (is_paragraph t.leaf ≡ true → LeafLast (shapes t.blocks)) → AllByRecursion (Within t.kept (length t.pieces)) t.blocks → AllByRecursion P t.pieces → Fits P s → Fits P t
alike P s t same os words lasts ps h = record {
  nest = subst (Nested [] 0) (sym same) h.nest;
  open_ones = subst (λ bs. IsFront t.opened (path_after [] 0 bs)) (sym same) (front_same s.opened t.opened (path_after [] 0 (shapes s.blocks)) os h.open_ones);
  words = words;
  lasts = lasts;
  pieces = ps;
}

pub same_set : (bs : List Block) (i : ℕ) (b x : Block) → slice_get bs i ≡ Some b → shape x ≡ shape b → shapes (slice_set bs i x) ≡ shapes bs
same_set [] i b x e h = refl
same_set (y ∷ ys) zero b x e h = let q : y ≡ b = cc in ap (λ (z : Shape). z ∷ shapes ys) (h ∙ ap shape (sym q))
same_set (y ∷ ys) (suc i) b x e h = ap (λ (zs : List Shape). shape y ∷ zs) (same_set ys i b x e h)

ended_same : (bs : List Block) (i end : ℕ) → shapes (ended bs i end) ≡ shapes bs
unfolding ended
ended_same bs i end = same_numbers shape bs i (λ (b : Block). record b { end = end }) (λ b. refl)

ended_within : (kept count : ℕ) (bs : List Block) (i end : ℕ) → AllByRecursion (Within kept count) bs → AllByRecursion (Within kept count) (ended bs i end)
unfolding ended
ended_within kept count bs i end h = all_changed (Within kept count) bs i (λ (b : Block). record b { end = end }) (λ b e w. w) h

finished_same : (bs : List Block) (i end last : ℕ) → shapes (finished bs i end last) ≡ shapes bs
unfolding finished
finished_same bs i end last = same_numbers shape bs i (λ (b : Block). record b { end = end; last = last }) (λ b. refl)

finished_within : (kept count : ℕ) (bs : List Block) (i end last : ℕ) → last ≤ kept → last ≤ count → AllByRecursion (Within kept count) bs → AllByRecursion (Within kept count) (finished bs i end last)
unfolding finished
finished_within kept count bs i end last l m h = all_changed (Within kept count) bs i (λ (b : Block). record b { end = end; last = last }) (λ b e w k. (l, m)) h

pub finished_fits : (P : Piece → Type 0) (s : State) → Fits P s → Fits P (leaf_finished s)
unfolding leaf_finished
finished_fits P s h = alike P s (leaf_finished s)
    (finished_same s.blocks (length s.blocks - 1) s.end (length kept))
    (raised_outers s.opened (length s.opened - 1) s.end s.line)
    (no_words (leaf_finished s) refl)
    (finished_within s.kept (length kept) s.blocks (length s.blocks - 1) s.end (length kept) (let q : length kept ≡ min s.kept (length s.pieces) = long in omega (arith, q)) (omega arith)
    (all_weaker (Within s.kept (length s.pieces)) (Within s.kept (length kept)) s.blocks (λ b w e. let a : b.last ≤ s.kept = (w e).0 in let c : b.last ≤ length s.pieces = (w e).1 in let q : length kept ≡ min s.kept (length s.pieces) = long in (a, omega (arith, q, a, c))) h.lasts))
    (all_take P s.kept s.pieces h.pieces)
    h
  where
    kept : List Piece
    kept = take s.kept s.pieces

    long : length kept ≡ min s.kept (length s.pieces)
    long = length-take s.kept s.pieces

table_fits : (P : Piece → Type 0) (t : Table) (s : State) → Fits P s → Fits P (table_finished t s)
unfolding table_finished
table_fits P t s h = alike P s (table_finished t s) (ended_same s.blocks t.block s.end) (raised_outers s.opened (length s.opened - 1) s.end s.line) (no_words (table_finished t s) refl) (ended_within s.kept (length s.pieces) s.blocks t.block s.end h.lasts) h.pieces h

shortened_shape : (b : Block) (ps : List Piece) (count : ℕ) → shape (shortened b ps count) ≡ shape b
unfolding shortened
shortened_shape b ps count = refl

shortened_within : (kept n : ℕ) (b : Block) (ps : List Piece) (count : ℕ) → Within kept n b → Within kept n (shortened b ps count)
unfolding shortened
shortened_within kept n b ps count h = h

pub settled_fits : (P : Piece → Type 0) (t : List ℕ) (s : State) → Fits P s → Fits P (settled t s)
unfolding settled
settled_fits P t s h = by (slice_get s.blocks (length s.blocks - 1)) refl
  where
    defines : (b : Block) → slice_get s.blocks (length s.blocks - 1) ≡ Some b → Fits P (defined_as t s b)
    defines b e = alike P s (defined_as t s b) same refl (λ w. subst LeafLast (sym same) (h.words w))
        (all_set (Within s.kept (length s.pieces)) s.blocks (length s.blocks - 1) (shortened b s.pieces _) h.lasts (shortened_within s.kept (length s.pieces) b s.pieces _ (all_got (Within s.kept (length s.pieces)) s.blocks (length s.blocks - 1) b h.lasts e)))
        h.pieces h
      where
        same : shapes (defined_as t s b).blocks ≡ shapes s.blocks
        same = same_set s.blocks (length s.blocks - 1) b (shortened b s.pieces _) e (shortened_shape b s.pieces _)

    boxed : (b : Block) (k : Bool) → slice_get s.blocks (length s.blocks - 1) ≡ Some b → Fits P (if k then s else defined_as t s b)
    boxed b true e = h
    boxed b false e = defines b e

    by : (o : Option Block) → slice_get s.blocks (length s.blocks - 1) ≡ o → Fits P (option_map_or (settled_as t s) o s)
    by None e = h
    by (Some b) e = boxed b (is_some b.task) e

leaf_closed_fits : (P : Piece → Type 0) (t : List ℕ) (s : State) → Fits P s → Fits P (leaf_closed t s)
unfolding leaf_closed
leaf_closed_fits P t s h = by s.leaf
  where
    by : (k : Leaf) → Fits P (leaf_closed_as k t s)
    by leaf.Nothing = h
    by leaf.Paragraph = finished_fits P (settled t s) (settled_fits P t s h)
    by leaf.Indented = finished_fits P s h
    by (leaf.Fenced f) = finished_fits P s h
    by (leaf.Html k) = finished_fits P s h
    by (leaf.Metadata k) = finished_fits P s h
    by (leaf.Table x) = table_fits P x s h

quote_left_fits : (P : Piece → Type 0) (k : Container) (s : State) → Fits P s → Fits P (quote_left k s)
quote_left_fits P k s h = by (is_quote k)
  where
    by : (b : Bool) → Fits P (if b then record s { quotes = take (length s.quotes - 1) s.quotes } else s)
    by true = record { nest = h.nest; open_ones = h.open_ones; words = h.words; lasts = h.lasts; pieces = h.pieces }
    by false = h

one_closed_fits : (P : Piece → Type 0) (s : State) → Fits P s → Fits P (one_closed s)
unfolding one_closed
one_closed_fits P s h = by (slice_get s.opened (length s.opened - 1))
  where
    rest : List Opened
    rest = take (length s.opened - 1) s.opened

    closes : Opened → State
    closes o = record s { opened = raised_at rest (length rest - 1) o.end o.line; blocks = ended s.blocks o.block o.end }

    fewer : Fits P (record s { opened = rest })
    fewer = record { nest = h.nest; open_ones = front_take (length s.opened - 1) s.opened (path_after [] 0 (shapes s.blocks)) h.open_ones; words = h.words; lasts = h.lasts; pieces = h.pieces }

    fits : (o : Opened) → Fits P (closes o)
    fits o = alike P (record s { opened = rest }) (closes o) (ended_same s.blocks o.block o.end) (raised_outers rest (length rest - 1) o.end o.line) (λ w. subst LeafLast (sym (ended_same s.blocks o.block o.end)) (h.words w)) (ended_within s.kept (length s.pieces) s.blocks o.block o.end h.lasts) h.pieces fewer

    by : (f : Option Opened) → Fits P (option_map_or (λ (o : Opened). quote_left o.container (closes o)) f s)
    by None = h
    by (Some o) = quote_left_fits P o.container (closes o) (fits o)

times_fits : (P : Piece → Type 0) (n : ℕ) (s : State) → Fits P s → Fits P (times one_closed n s)
unfolding times
times_fits P zero s h = h
times_fits P (suc n) s h = times_fits P n (one_closed s) (one_closed_fits P s h)

pub closed_fits : (P : Piece → Type 0) (t : List ℕ) (depth : ℕ) (s : State) → Fits P s → Fits P (closed_to t depth s)
unfolding closed_to
closed_fits P t depth s h = times_fits P (length (leaf_closed t s).opened - depth) (leaf_closed t s) (leaf_closed_fits P t s h)

left_noted_fits : (P : Piece → Type 0) (o : Opened) (s : State) → Fits P s → Fits P (left_noted o s)
unfolding left_noted
left_noted_fits P o s h = by (is_definitions o.container)
  where
    by : (b : Bool) → Fits P (if b then record s { left = Some (record { list = o.block; behind = length s.blocks; loose = is_loose s.blocks (list_of s.opened) }) } else s)
    by true = record { nest = h.nest; open_ones = h.open_ones; words = h.words; lasts = h.lasts; pieces = h.pieces }
    by false = h

pub list_left_fits : (P : Piece → Type 0) (s : State) → Fits P s → Fits P (list_left s)
unfolding list_left
list_left_fits P s h = by (innermost s.opened)
  where
    inner : (o : Opened) (k : Bool) → Fits P (if k then left_noted o (one_closed s) else s)
    inner o true = left_noted_fits P o (one_closed s) (one_closed_fits P s h)
    inner o false = h

    by : (f : Option Opened) → Fits P (option_map_or (λ (o : Opened). if is_list o.container then left_noted o (one_closed s) else s) f s)
    by None = h
    by (Some o) = inner o (is_list o.container)

loosened_same : (list : Option ℕ) (apart : Bool) (bs : List Block) → shapes (loosened list apart bs) ≡ shapes bs
unfolding loosened
loosened_same list false bs = refl
loosened_same None true bs = refl
loosened_same (Some i) true bs = same_numbers shape bs i (λ (b : Block). record b { loose = true }) (λ b. refl)

loosened_within : (kept count : ℕ) (list : Option ℕ) (apart : Bool) (bs : List Block) → AllByRecursion (Within kept count) bs → AllByRecursion (Within kept count) (loosened list apart bs)
unfolding loosened
loosened_within kept count list false bs h = h
loosened_within kept count None true bs h = h
loosened_within kept count (Some i) true bs h = all_changed (Within kept count) bs i (λ (b : Block). record b { loose = true }) (λ b e w. w) h

-- a block begins

abbrev fresh : BlockKind → ℕ → State → Block
fresh k start s = record { depth = length (had_marked s.opened); kind = k; start = start; end = start; first = length s.pieces; last = length s.pieces; loose = false; list = list_of s.opened; task = None }

abbrev path_of : State → List Outer
path_of s = path_after [] 0 (shapes s.blocks)

had_length : (os : List Opened) → length (had_marked os) ≡ length os
had_length os = outers_length (had_marked os) os (had_outers os)

path_listed : (P : Piece → Type 0) (s : State) → Fits P s → AreListed false (path_of s)
path_listed P s h = nested_listed [] 0 (shapes s.blocks) tt h.nest

-- the containers that are open are those round a new block
round : (P : Piece → Type 0) (s : State) → Fits P s → take (length (had_marked s.opened)) (path_of s) ≡ outers s.opened
round P s h = ap (λ n. take n (path_of s)) (had_length s.opened) ∙ front_is s.opened (path_of s) h.open_ones

fresh_in : (P : Piece → Type 0) (k : BlockKind) (start : ℕ) (s : State) → is_common k ≡ true → HasList (sort_of k) (outers s.opened) → Fits P s → IsIn (path_of s) (shape (fresh k start s))
fresh_in P k start s common item h = record {
  depth = let a : length (had_marked s.opened) ≡ length s.opened = had_length s.opened in let b : length s.opened ≤ length (path_of s) = front_short s.opened (path_of s) h.open_ones in omega (arith, a, b);
  common = common;
  list = list_same s.opened (subst (AreListed false) (front_is s.opened (path_of s) h.open_ones) (listed_take false (length s.opened) (path_of s) (path_listed P s h))) ∙ ap list_in (sym (round P s h));
  plain = refl;
  item = subst (HasList (sort_of k)) (sym (round P s h)) item;
}

-- the blocks with a new one
abbrev more : BlockKind → ℕ → ℕ → State → List Block
more k start number s = loosened (list_of s.opened) (is_apart s.opened number) s.blocks ++ fresh k start s ∷ []

more_shapes : (k : BlockKind) (start number : ℕ) (s : State) → shapes (more k start number s) ≡ shapes s.blocks ++ shape (fresh k start s) ∷ []
more_shapes k start number s =
    map-append shape (loosened (list_of s.opened) (is_apart s.opened number) s.blocks) (fresh k start s ∷ [])
    ∙ ap (λ (xs : List Shape). xs ++ shape (fresh k start s) ∷ []) (loosened_same (list_of s.opened) (is_apart s.opened number) s.blocks)

more_nested : (P : Piece → Type 0) (k : BlockKind) (start number : ℕ) (s : State) → is_common k ≡ true → HasList (sort_of k) (outers s.opened) → Fits P s → Nested [] 0 (shapes (more k start number s))
more_nested P k start number s common item h =
    subst (Nested [] 0) (sym (more_shapes k start number s)) (nested_append [] 0 (shapes s.blocks) (shape (fresh k start s)) h.nest (fresh_in P k start s common item h))

more_path : (P : Piece → Type 0) (k : BlockKind) (start number : ℕ) (s : State) → Fits P s → path_after [] 0 (shapes (more k start number s)) ≡ after_as (outers s.opened) (length s.blocks) (sort_of k)
more_path P k start number s h =
    ap (path_after [] 0) (more_shapes k start number s)
    ∙ path_append [] 0 (shapes s.blocks) (shape (fresh k start s))
    ∙ ap (λ n. after (path_of s) n (shape (fresh k start s))) (let q : length (shapes s.blocks) ≡ length s.blocks = shapes_length s.blocks in let r : 0 + length (shapes s.blocks) ≡ length s.blocks = omega (arith, q) in r)
    ∙ ap (λ (xs : List Outer). after_as xs (length s.blocks) (sort_of k)) (round P s h)
  where
    shapes_length : (bs : List Block) → length (shapes bs) ≡ length bs
    shapes_length [] = refl
    shapes_length (b ∷ bs) = ap suc (shapes_length bs)

quote_entered_fits : (P : Piece → Type 0) (k : Container) (s : State) → Fits P s → Fits P (quote_entered k s)
quote_entered_fits P k s h = by (is_quote k)
  where
    by : (b : Bool) → Fits P (if b then record s { quotes = s.quotes ++ (length s.opened - 1) ∷ [] } else s)
    by true = record { nest = h.nest; open_ones = h.open_ones; words = h.words; lasts = h.lasts; pieces = h.pieces }
    by false = h

pub opened_with_fits : (P : Piece → Type 0) (c : Container) (k : BlockKind) (start : ℕ) (line : Line) (s : State) → sort_of k ≡ Some (container_sort c) → is_common k ≡ true → HasList (sort_of k) (outers s.opened) → s.leaf ≡ leaf.Nothing → Fits P s → Fits P (opened_with c k start line s)
unfolding opened_with begun
opened_with_fits P c k start line s sorted common item shut h = quote_entered_fits P c u (record {
  nest = more_nested P k start line.number s common item h;
  open_ones = subst (IsFront us) (sym path) (front_same_own us (outers s.opened ++ record { number = length s.blocks; sort = container_sort c } ∷ []) opens);
  words = no_words u shut;
  lasts = all_both (Within s.kept (length s.pieces)) _ (fresh k start s ∷ []) (loosened_within s.kept (length s.pieces) (list_of s.opened) (is_apart s.opened line.number) s.blocks h.lasts) (none, tt);
  pieces = h.pieces;
})
  where
    new : Opened
    new = record { container = c; block = length (more k start line.number s) - 1; end = line.end; line = line.number; had = false }

    us : List Opened
    us = had_marked s.opened ++ new ∷ []

    u : State
    u = record s { blocks = more k start line.number s; opened = us }

    path : path_after [] 0 (shapes (more k start line.number s)) ≡ outers s.opened ++ record { number = length s.blocks; sort = container_sort c } ∷ []
    path = more_path P k start line.number s h ∙ ap (after_as (outers s.opened) (length s.blocks)) sorted

    size : length (more k start line.number s) - 1 ≡ length s.blocks
    size =
        let a : length (more k start line.number s) ≡ length (loosened (list_of s.opened) (is_apart s.opened line.number) s.blocks) + 1 = length-append (loosened (list_of s.opened) (is_apart s.opened line.number) s.blocks) (fresh k start s ∷ []) in
        let b : length (loosened (list_of s.opened) (is_apart s.opened line.number) s.blocks) ≡ length s.blocks = same_length (loosened (list_of s.opened) (is_apart s.opened line.number) s.blocks) s.blocks (loosened_same (list_of s.opened) (is_apart s.opened line.number) s.blocks) in
        omega (arith, a, b)
      where
        same_length : (xs ys : List Block) → shapes xs ≡ shapes ys → length xs ≡ length ys
        same_length [] [] e = refl
        same_length [] (y ∷ ys) e = absurd cc
        same_length (x ∷ xs) [] e = absurd cc
        same_length (x ∷ xs) (y ∷ ys) e = let rest : shapes xs ≡ shapes ys = cc in ap suc (same_length xs ys rest)

    opens : outers us ≡ outers s.opened ++ record { number = length s.blocks; sort = container_sort c } ∷ []
    opens = outers_last (had_marked s.opened) new ∙ ap (λ (xs : List Outer). xs ++ outer_of new ∷ []) (had_outers s.opened) ∙ ap (λ n. outers s.opened ++ record { number = n; sort = container_sort c } ∷ []) size

    front_same_own : (os : List Opened) (xs : List Outer) → outers os ≡ xs → IsFront os xs
    front_same_own os xs e = subst (IsFront os) e (front_own os)

    none : Within s.kept (length s.pieces) (fresh k start s)
    none e = absurd (let q : Some (container_sort c) ≡ None = sym sorted ∙ e in cc)

pub leaf_opened_fits : (P : Piece → Type 0) (f : Leaf) (k : BlockKind) (start : ℕ) (line : Line) (s : State) → sort_of k ≡ None → is_common k ≡ true → Fits P s → Fits P (leaf_opened f k start line s)
unfolding leaf_opened begun
leaf_opened_fits P f k start line s sorted common before = record {
  nest = more_nested P k start line.number u common (subst (λ (o : Option Sort). HasList o (outers u.opened)) (sym sorted) tt) h;
  open_ones = subst (IsFront (had_marked u.opened)) (sym (more_path P k start line.number u h ∙ ap (after_as (outers u.opened) (length u.blocks)) sorted)) (front_same u.opened (had_marked u.opened) (outers u.opened) (had_outers u.opened) (front_own u.opened));
  words = λ w. subst LeafLast (sym (more_shapes k start line.number u)) (leaf_last (shapes u.blocks) (shape (fresh k start u)) sorted common);
  lasts = all_both (Within (length u.pieces) (length u.pieces)) _ (fresh k start u ∷ [])
      (loosened_within (length u.pieces) (length u.pieces) (list_of u.opened) (is_apart u.opened line.number) u.blocks
      (all_weaker (Within u.kept (length u.pieces)) (Within (length u.pieces) (length u.pieces)) u.blocks (λ b w e. ((w e).1, (w e).1)) h.lasts))
      ((λ e. (omega arith, omega arith)), tt);
  pieces = h.pieces;
}
  where
    u : State
    u = list_left s

    h : Fits P u
    h = list_left_fits P s before

-- a line comes into the open leaf
pub piece_taken_fits : (P : Piece → Type 0) (p : Piece) (line : Line) (keeps : Bool) (s : State) → P p → Fits P s → Fits P (piece_taken p line keeps s)
unfolding piece_taken
piece_taken_fits P p line keeps s k h = by (nat_lt 0 p.spaces || nat_lt p.start p.next) keeps
  where
    longer : length (s.pieces ++ p ∷ []) ≡ length s.pieces + 1
    longer = length-append s.pieces (p ∷ [])

    with_it : AllByRecursion P (s.pieces ++ p ∷ [])
    with_it = all_both P s.pieces (p ∷ []) h.pieces (k, tt)

    further : (kept count : ℕ) → length s.pieces ≤ kept → length s.pieces ≤ count → AllByRecursion (Within kept count) s.blocks
    further kept count l m = all_weaker (Within s.kept (length s.pieces)) (Within kept count) s.blocks (λ b w e. let c : b.last ≤ length s.pieces = (w e).1 in (omega (arith, c, l), omega (arith, c, m))) h.lasts

    longer_count : AllByRecursion (Within s.kept (length (s.pieces ++ p ∷ []))) s.blocks
    longer_count = all_weaker (Within s.kept (length s.pieces)) (Within s.kept (length (s.pieces ++ p ∷ []))) s.blocks (λ b w e. let c : b.last ≤ length s.pieces = (w e).1 in ((w e).0, omega (arith, c, longer))) h.lasts

    by : (x y : Bool) → Fits P (let t = if x then record s { pieces = s.pieces ++ p ∷ [] } else s in if y then record t { kept = length t.pieces; end = line.end; line = line.number } else t)
    by true true = record { nest = h.nest; open_ones = h.open_ones; words = h.words; lasts = further (length (s.pieces ++ p ∷ [])) (length (s.pieces ++ p ∷ [])) (omega (arith, longer)) (omega (arith, longer)); pieces = with_it }
    by true false = record { nest = h.nest; open_ones = h.open_ones; words = h.words; lasts = longer_count; pieces = with_it }
    by false true = record { nest = h.nest; open_ones = h.open_ones; words = h.words; lasts = further (length s.pieces) (length s.pieces) (omega arith) (omega arith); pieces = h.pieces }
    by false false = h

all_split : {A : Type 0} (Q : A → Type 0) (xs : List A) (x : A) → AllByRecursion Q (xs ++ x ∷ []) → AllByRecursion Q xs × Q x
all_split Q [] x h = (tt, h.0)
all_split Q (y ∷ ys) x h = let r = all_split Q ys x (h.1) in ((h.0, r.0), r.1)

-- the open paragraph is a heading
pub heading_fits : (P : Piece → Type 0) (level : HeadingLevel) (end number : ℕ) (s : State) → is_paragraph s.leaf ≡ true → Fits P s → Fits P (record s { blocks = of_kind (kind.Heading level None) s.blocks; end = end; line = number })
heading_fits P level end number s w h = alike P s u same refl (λ e. subst LeafLast (sym same) (h.words e)) lasts h.pieces h
  where
    change : Block → Block
    change b = record b { kind = kind.Heading level None }

    u : State
    u = record s { blocks = of_kind (kind.Heading level None) s.blocks; end = end; line = number }

    split : SplitLeaf s.blocks
    split = split_leaf s.blocks (h.words w)

    changed : u.blocks ≡ split.front ++ change split.last ∷ []
    changed = last_changed s.blocks split.front split.last change split.is

    one : shape (change split.last) ≡ shape split.last
    one =
        ap (λ (o : Option Sort). record { depth = split.last.depth; sort = o; common = true; list = split.last.list; boxed = is_some split.last.task }) (sym split.leaf)
        ∙ ap (λ k. record { depth = split.last.depth; sort = sort_of split.last.kind; common = k; list = split.last.list; boxed = is_some split.last.task }) (sym split.common)

    same : shapes u.blocks ≡ shapes s.blocks
    same =
        ap shapes changed ∙ map-append shape split.front (change split.last ∷ []) ∙ ap (λ (x : Shape). shapes split.front ++ x ∷ []) one
        ∙ sym (map-append shape split.front (split.last ∷ [])) ∙ ap shapes (sym split.is)

    before : AllByRecursion (Within s.kept (length s.pieces)) split.front × Within s.kept (length s.pieces) split.last
    before = all_split (Within s.kept (length s.pieces)) split.front split.last (subst (AllByRecursion (Within s.kept (length s.pieces))) split.is h.lasts)

    lasts : AllByRecursion (Within s.kept (length s.pieces)) u.blocks
    lasts = subst (AllByRecursion (Within s.kept (length s.pieces))) (sym changed) (all_both (Within s.kept (length s.pieces)) split.front (change split.last ∷ []) (before.0) ((λ e. (before.1) split.leaf), tt))
