-- An item with one block is in a tight list.
use Rattle.std.proofs.Common.{◌≡◌, ◌⊎◌, inl, inr, ℕ, suc, ◌+◌, ◌-◌, ◌*◌, ◌^◌, ◌<◌, ◌≤◌, Bool, true, false, ◌==◌, ◌||◌, cond, if◌then◌else◌, nat_lt, nat_le, List, [], ◌∷◌, ◌++◌, length, map, drop, append_assoc, refl, ap, sym, subst, ◌∙◌, arith}
use Rattle.std.specs.Prelude.{take_while, replicate}
use Rattle.std.specs.List.{AllByRecursion, fold}
use Rattle.std.proofs.lemmas.Bool.Decides.{nat_tests}
use Rattle.std.proofs.lemmas.List.Sums.{take_while-cons}
use Rattle.tocmark_read_scan.specs.Basic.{plus, byte_at, bytes_between}
use Rattle.tocmark_read_scan.specs.declared.syntax.TheConstants.{CORE}
use Rattle.tocmark_read_lines.specs.Cells.{cells_of, first_cursor}
use Rattle.tocmark_read_lines.specs.Containers.{matched}
use Rattle.tocmark_read_lines.specs.Lines.{lines_of}
use Rattle.tocmark_read_lines.specs.declared.cell.Cell.{Cell}
use Rattle.tocmark_read_lines.specs.declared.cell.Cursor.{Cursor}
use Rattle.tocmark_read_lines.specs.declared.container.ItemStart.{ItemStart}
use Rattle.tocmark_read_lines.specs.declared.container.Opened.{Opened}
use Rattle.tocmark_read_lines.specs.declared.line.Line.{Line}
use Rattle.tocmark_read_page.specs.Leaves.{is_paragraph}
use Rattle.tocmark_read_page.specs.Pages.{State, first_page, closed_to, list_of, list_left, is_apart, loosened, begun}
use Rattle.tocmark_read_page.specs.declared.page.Block.{Block}
use Rattle.tocmark_read_page.specs.declared.page.BlockKind.{BlockKind}
use Rattle.tocmark_read_page.specs.declared.piece.Piece.{Piece}
use Rattle.tocmark_read_constructs.specs.Metadata.{known_of}
use Rattle.tocmark_read_blocks.specs.Blocks.{core_known, leaf_started_in, cells_taken_in, line_taken_in, page_in, blocks_in}
use Rattle.tocmark_text_laws.specs.Items.{ListMark, Bullet, Numbered, ItemMark, IsListMark, list_mark_bytes, marker_bytes, item_front, first_line, item_text, first_number, in_item, IsItem}
use Rattle.tocmark_text_laws.specs.Lines.{IsLine}
use Rattle.tocmark_text_laws.specs.Loose.{is_inky, has_ink, MarksMakeATightItemOfOneBlock}
use Rattle.tocmark_text_laws.specs.Quoted.{ListFrom, Item, Node, none, more, Told, told, Placed, trees_of, placed_in, blocks_told, read_trees}
use Rattle.tocmark_text_laws.specs.Sequence.{count_of}
use Rattle.tocmark_text_laws.proofs.Endings.{lines-end}
use Rattle.tocmark_text_laws.proofs.Pairs.{Pairs, Afters, afters_length, end_some}
use Rattle.tocmark_text_laws.proofs.Leaves.{is_core}
use Rattle.tocmark_text_laws.proofs.Houses.{Houses, shapes, Home}
use Rattle.tocmark_text_laws.proofs.HouseWalk.{lines_home}
use Rattle.tocmark_text_laws.proofs.QuotedRun.{none_open}
use Rattle.tocmark_text_laws.proofs.QuotedContainers.{is_inner, Rooted}
use Rattle.tocmark_text_laws.proofs.QuotedPages.{Shape}
use Rattle.tocmark_text_laws.proofs.QuotedPieces.{Beside, beside}
use Rattle.tocmark_text_laws.proofs.QuotedLines.{Row, LinesOn, some_line}
use Rattle.tocmark_text_laws.proofs.QuotedTurns.{first_taken}
use Rattle.tocmark_text_laws.proofs.SequenceRun.{none_of}
use Rattle.tocmark_text_laws.proofs.ListEndsClosed.{no_list}
use Rattle.tocmark_text_laws.proofs.ItemContainers.{OpenedIn, IsOuterList, IsOuterItem, MatchedIn, Indents, matched_in}
use Rattle.tocmark_text_laws.proofs.ItemPages.{BlockOn, IsListBlock, IsItemBlock, Inside, inside_more}
use Rattle.tocmark_text_laws.proofs.ItemTurns.{IsInItem, no_quotes, indents_in, line_in}
use Rattle.tocmark_text_laws.proofs.ItemMarks.{item_of, front_few}
use Rattle.tocmark_text_laws.proofs.ItemLines.{item_lines, Leads, first_words, first_leads}
use Rattle.tocmark_text_laws.proofs.ItemRun.{Fits, gaps, first_in, line_begins, begins_some, item_blocks}
use Rattle.tocmark_text_laws.proofs.Tight.{IsTight, Along}
use Rattle.tocmark_text_laws.proofs.TightWalk.{line_along}
use Rattle.tocmark_text_laws.proofs.TightItem.{ink_after}
use Rattle.tocmark_text_laws.proofs.Apart.{holds_line}
use Rattle.tocmark_text_laws.proofs.Outers.{codes, Within, Held, marks, outers, first_loose, Base, Tracks, cells_track, closed_marks}
use Rattle.tocmark_text_laws.proofs.LooseRun.{Counted, lines_counted, inky_cells}
use Rattle.tocmark_text_laws.proofs.ListEndsFirst.{first_short}

-- the page in the item

lows : (os ys : List Opened) → Pairs OpenedIn os ys → AllByRecursion (λ d. 0 < d.1) (codes os)
lows [] [] h = tt
lows [] (y ∷ ys) h = absurd h
lows (o ∷ os) [] h = absurd h
lows (o ∷ os) (y ∷ ys) h = (let z : o.block ≡ suc (suc y.block) = (h.0).block in omega (arith, z), lows os ys (h.1))

within_in : (os ys : List Opened) → Pairs OpenedIn os ys → Rooted ys → Within (codes os)
within_in [] [] h r = tt
within_in [] (y ∷ ys) h r = absurd h
within_in (o ∷ os) [] h r = absurd h
within_in (o ∷ os) (y ∷ ys) h r = (ap is_inner (h.0).container ∙ r, lows (o ∷ os) (y ∷ ys) h)

base_in : (item : ItemStart) (t q : List ℕ) (n : ℕ) (there here : State) → Inside item t q n there here → Base there
base_in item t q n there here h = record {
  held = by there.opened h.opened.after;
  some = omega (arith, afters_length (IsListBlock item q) (IsItemBlock q) (BlockOn t q) there.blocks here.blocks h.blocks);
}
  where
    by : (os : List Opened) → Afters (IsOuterList item) (IsOuterItem item) OpenedIn os here.opened → Held (codes os)
    by [] a = absurd a
    by (x ∷ []) a = absurd (a.1)
    by (x ∷ z ∷ os) a = ((item.width, (a.1.0).held), within_in os here.opened (a.1.1) h.opened.rooted)

core_there : (item : ItemStart) (t q : List ℕ) (n : ℕ) (there here : State) → Inside item t q n there here → is_core there.leaf ≡ true
core_there item t q n there here h = ap is_core h.leaf ∙ h.core

line_track : (item : ItemStart) (first t q : List ℕ) (n before m : ℕ) (l' l : Line) (there here : State) → Row (IsInItem first item.width) t q before m l' l → 0 < before → IsLine t l → 0 < item.width → n + 9 < 2 ^ 64 → Inside item t q n there here
    → Tracks there (line_taken_in core_known q there l')
unfolding line_taken_in
line_track item first t q n before m l' l there here h late one some few g = by (beside t q l' l h.line)
  where
    w : List Cell
    w = cells_of [] l'.start (bytes_between q l'.start l'.end)

    r : List Cell
    r = cells_of [] l.start (bytes_between t l.start l.end)

    shift : ℕ
    shift = length h.line.front

    deep : (both : Beside t q l' l shift w r) → Indents item.width r both.fronted.front → 2 ≤ (matched w there.opened there.quotes).0
    deep both k = let z : (matched w there.opened there.quotes).0 ≡ suc (suc ((matched r here.opened here.quotes).0)) = ap (λ (x : ℕ × Cursor). x.0) (found.0) in omega (arith, z)
      where
        found : MatchedIn shift r (matched w there.opened there.quotes) (matched r here.opened here.quotes)
        found = subst (λ (qs : List ℕ). MatchedIn shift r (matched w there.opened qs) (matched r here.opened here.quotes)) (sym g.quotes) (matched_in item n shift w r there.opened here.opened here.quotes both.fronted k some few (no_quotes item t q n there here g) g.opened)

    by : (both : Beside t q l' l shift w r) × (both.fronted.front ≡ h.line.front) → Tracks there (cells_taken_in core_known q w l' there)
    by (both, same) = cells_track q w l' there (core_there item t q n there here g) (deep both (subst (λ xs. Indents item.width r xs) (sym same) (indents_in first t q item.width before l' l shift w r h.line both late one h.kind))) (base_in item t q n there here g)

-- the list becomes loose only where a block begins directly in the item
record Came (s u : State) : Type 0 where
  more : outers (marks s.blocks) ≤ outers (marks u.blocks)
  loose : first_loose (marks u.blocks) ≡ true → (first_loose (marks s.blocks) ≡ true) ⊎ (outers (marks s.blocks) < outers (marks u.blocks))

came_on : (s u v : State) → Tracks s u → Came u v → Came s v
came_on s u v f g = record { more = omega (arith, f.more, g.more); loose = λ e. each (g.loose e) }
  where
    again : (first_loose (marks s.blocks) ≡ true) ⊎ (outers (marks s.blocks) < outers (marks u.blocks)) → (first_loose (marks s.blocks) ≡ true) ⊎ (outers (marks s.blocks) < outers (marks v.blocks))
    again (inl e) = inl e
    again (inr l) = inr (omega (arith, l, g.more))

    each : (first_loose (marks u.blocks) ≡ true) ⊎ (outers (marks u.blocks) < outers (marks v.blocks)) → (first_loose (marks s.blocks) ≡ true) ⊎ (outers (marks s.blocks) < outers (marks v.blocks))
    each (inl e) = again (f.loose e)
    each (inr l) = inr (omega (arith, l, f.more))

lines_track : (item : ItemStart) (first t q : List ℕ) (n before : ℕ) (ls' ls : List Line) (there here : State) → LinesOn (IsInItem first item.width) t q before n ls' ls → 0 < before → AllByRecursion (IsLine t) ls → 0 < item.width → 2 * n + 9 < 2 ^ 64 → Inside item t q (2 * n) there here
    → Came there (fold (line_taken_in core_known q) there ls')
lines_track item first t q n before [] ls there here h late one wide few g = record { more = omega arith; loose = λ e. inl e }
lines_track item first t q n before (l' ∷ ls') [] there here h late one wide few g = absurd h
lines_track item first t q n before (l' ∷ ls') (l ∷ ls) there here (row, rest) late one wide few g =
    came_on there there' (fold (line_taken_in core_known q) there' ls') (line_track item first t q (2 * n) before n l' l there here row late (one.0) wide few g)
    (lines_track item first t q l.next (before + 1) ls' ls there' here' rest (omega (arith, late)) (one.1) wide row.line.near
    (inside_more item t q (2 * n + 2 * (l.end - l.start)) (2 * l.next) there' here' (omega (arith, row.low, row.line.order, row.line.onto)) (line_in item first t q (2 * n) before n l' l there here row late (one.0) wide few g)))
  where
    there' : State
    there' = line_taken_in core_known q there l'

    here' : State
    here' = line_taken_in core_known t here l

-- the first line begins a block, and the list is tight after it

bullet_inky : (b : ℕ) → ((b == 45) || (b == 43) || (b == 42)) ≡ true → is_inky b ≡ true
bullet_inky b h = by (b == 45) refl (b == 43) refl (b == 42) refl h
  where
    is : (n : ℕ) → (b == n) ≡ true → is_inky n ≡ true → is_inky b ≡ true
    is n e k = let z : b ≡ n = grind (arith, e, nat_tests) in ap is_inky z ∙ k

    by : (x : Bool) → (b == 45) ≡ x → (y : Bool) → (b == 43) ≡ y → (z : Bool) → (b == 42) ≡ z → (x || y || z) ≡ true → is_inky b ≡ true
    by true e y f z g k = is 45 e refl
    by false e true f z g k = is 43 f refl
    by false e false f true g k = is 42 g refl
    by false e false f false g k = absurd cc

stop_inky : (b : ℕ) → ((b == 46) || (b == 41)) ≡ true → is_inky b ≡ true
stop_inky b h = by (b == 46) refl (b == 41) refl h
  where
    is : (n : ℕ) → (b == n) ≡ true → is_inky n ≡ true → is_inky b ≡ true
    is n e k = let z : b ≡ n = grind (arith, e, nat_tests) in ap is_inky z ∙ k

    by : (x : Bool) → (b == 46) ≡ x → (y : Bool) → (b == 41) ≡ y → (x || y) ≡ true → is_inky b ≡ true
    by true e y f k = is 46 e refl
    by false e true f k = is 41 f refl
    by false e false f k = absurd cc

inky_front : (b : ℕ) (xs : List ℕ) → is_inky b ≡ true → has_ink (b ∷ xs) ≡ true
inky_front b xs h = ap (λ k. k || has_ink xs) h

mark_inky : (k : ListMark) (rest : List ℕ) → IsListMark k → has_ink (list_mark_bytes k ++ rest) ≡ true
mark_inky (Bullet b) rest h = inky_front b rest (bullet_inky b h)
mark_inky (Numbered digits b) rest h = subst (λ xs. has_ink xs ≡ true) (sym (append_assoc digits (b ∷ []) rest)) (ink_after digits (b ∷ rest) (inky_front b rest (stop_inky b (h.3))))

front_inky : (m : ItemMark) (xs : List ℕ) → IsListMark m.mark → has_ink (item_front m ++ xs) ≡ true
front_inky m xs h =
    subst (λ ys. has_ink ys ≡ true) (sym (append_assoc (replicate m.before 32) (marker_bytes m) xs))
    (ink_after (replicate m.before 32) (marker_bytes m ++ xs) (subst (λ ys. has_ink ys ≡ true) (sym (append_assoc (list_mark_bytes m.mark) (replicate m.after 32) xs)) (mark_inky m.mark (replicate m.after 32 ++ xs) h)))

first_tight : (m : ItemMark) (t q : List ℕ) (l' l : Line) → Fits m t → Row (IsInItem (item_front m) (item_of m).width) t q 0 0 l' l → l.number ≡ plus 0 1 → Along l'.number (line_taken_in core_known q first_page l')
unfolding is_core
first_tight m t q l' l f h e = line_along q l' 0 first_page refl ink (omega arith, omega (arith, h.line.number, e)) (record { tight = tt; words = λ o. (let z : 0 ≤ 0 = omega arith in z); inner = λ o. tt })
  where
    front : IsInItem (item_front m) (item_of m).width 0 h.line.front (byte_at t l.start) → h.line.front ≡ item_front m
    front (inl (a, k)) = k
    front (inr (a, k)) = absurd (omega (arith, a))

    ink : has_ink (bytes_between q l'.start l'.end) ≡ true
    ink = ap has_ink (h.line.words ∙ ap (λ xs. xs ++ bytes_between t l.start l.end) (front h.kind)) ∙ front_inky m (bytes_between t l.start l.end) (f.kind.1)

tight_first : (bs : List Block) → AllByRecursion IsTight bs → first_loose (marks bs) ≡ false
tight_first [] h = refl
tight_first (b ∷ bs) h = h.0

begun_some : (b : BlockKind) (x n : ℕ) (s : State) → 0 < length (begun b x n s).blocks
unfolding begun
begun_some b x n s = end_some (loosened (list_of s.opened) (is_apart s.opened n) s.blocks) _

first_some : (t : List ℕ) (l : Line) → nat_le (length (cells_of [] l.start (bytes_between t l.start l.end))) (first_cursor (cells_of [] l.start (bytes_between t l.start l.end))).ink ≡ false → 0 < length (line_taken_in core_known t first_page l).blocks
unfolding line_taken_in leaf_started_in
first_some t l inky =
    subst (λ (s : State). 0 < length s.blocks) (sym (first_taken t r l (first_cursor r) refl))
    (holds_line (λ bs. 0 < length bs) (λ n s u g k. omega (arith, k, g.long)) t r l (record { cursor = first_cursor r; depth = 0 }) first_page inky
    (record { shut = refl; ripe = λ b x. begun_some b x l.number (list_left (closed_to t 0 first_page)); other = λ i e. no_list i.sort (closed_to t 0 first_page) (none_of (closed_to t 0 first_page).opened (none_open t first_page)) }))
  where
    r : List Cell
    r = cells_of [] l.start (bytes_between t l.start l.end)

first_home : Home first_page
unfolding is_paragraph
first_home = record { house = record { chain = tt; fit = tt; housed = tt }; words = λ w. absurd cc }

first_core : is_core first_page.leaf ≡ true
unfolding is_core
first_core = refl

abbrev at_two : ℕ → ℕ
at_two d = if d == 2 then 1 else 0

-- a block that is in no container of the text is directly in the item
first_outer : (item : ItemStart) (t q : List ℕ) (n : ℕ) (there here : State) → Inside item t q n there here → Home here → 0 < length here.blocks → 0 < outers (marks there.blocks)
first_outer item t q n there here h home some = by there.blocks here.blocks h.blocks (home.house).housed some
  where
    by : (xs bs : List Block) → Afters (IsListBlock item q) (IsItemBlock q) (BlockOn t q) xs bs → Houses [] (shapes bs) → 0 < length bs → 0 < outers (marks xs)
    by [] bs a k s = absurd a
    by (x ∷ []) bs a k s = absurd (a.1)
    by (x ∷ z ∷ ys) [] a k s = absurd (omega (arith, s))
    by (x ∷ z ∷ []) (b ∷ bs) a k s = absurd (a.1.1)
    by (x ∷ z ∷ y ∷ ys) (b ∷ bs) a k s =
        let low : b.depth ≤ 0 = (k.0).deep in
        let deep : y.depth ≡ suc (suc b.depth) = ap (λ (u : Shape). u.depth) (a.1.1.0) in
        let two : y.depth ≡ 2 = omega (arith, low, deep) in
        let one : at_two y.depth ≡ 1 = ap at_two two in
        omega (arith, one)

-- all lines come in
all_track : (m : ItemMark) (t q : List ℕ) (ls' ls : List Line) → Fits m t → LinesOn (IsInItem (item_front m) (item_of m).width) t q 0 0 ls' ls → Leads ls → AllByRecursion (IsLine t) ls → 0 < length ls → Counted 0 ls → length t + 1 < 2 ^ 64 - 1
    → first_loose (marks (fold (line_taken_in core_known q) first_page ls').blocks) ≡ true → 1 < outers (marks (fold (line_taken_in core_known q) first_page ls').blocks)
all_track m t q [] [] f h lead one some count small loose = absurd (omega (arith, some))
all_track m t q [] (l ∷ ls) f h lead one some count small loose = absurd h
all_track m t q (l' ∷ ls') [] f h lead one some count small loose = absurd h
all_track m t q (l' ∷ ls') (l ∷ ls) f (row, rest) lead one some count small loose = by (came.loose loose)
  where
    there : State
    there = line_taken_in core_known q first_page l'

    here : State
    here = line_taken_in core_known t first_page l

    inside : Inside (item_of m) t q (2 * l.next) there here
    inside = inside_more (item_of m) t q (2 * (l.end - l.start)) (2 * l.next) there here (omega (arith, row.line.order, row.line.onto)) (first_in m t q l' l f row (lead.0) (lead.1) (one.0))

    came : Came there (fold (line_taken_in core_known q) there ls')
    came = lines_track (item_of m) (item_front m) t q l.next 1 ls' ls there here rest (omega arith) (one.1) (let z : 0 < length (item_front m) = omega (arith, (front_few m f.kind).0) in z) row.line.near inside

    words : bytes_between t l.start l.end ≡ first_line t
    words = first_words t l (lead.0) (lead.1) row.line.long (one.0)

    outer : 0 < outers (marks there.blocks)
    outer = first_outer (item_of m) t q (2 * l.next) there here inside (lines_home t (l ∷ []) first_page first_core first_home)
        (first_some t l (inky_cells t (first_line t) l row.line.plain words ((gaps m t f.begins).1) (omega (arith, first_short t, small))))

    by : (first_loose (marks there.blocks) ≡ true) ⊎ (outers (marks there.blocks) < outers (marks (fold (line_taken_in core_known q) there ls').blocks)) → 1 < outers (marks (fold (line_taken_in core_known q) there ls').blocks)
    by (inl e) = let z : true ≡ false = sym e ∙ tight_first there.blocks (first_tight m t q l' l f row (count.0)).tight in absurd cc
    by (inr k) = omega (arith, k, outer)

-- as many blocks are in no container as trees are there, or fewer

abbrev at_depth : ℕ → List Told → ℕ
at_depth d [] = 0
at_depth d (b ∷ bs) = (if b.depth == d then 1 else 0) + at_depth d bs

abbrev one_if : Bool → ℕ
one_if k = if k then 1 else 0

abbrev zeros : List Placed → ℕ
zeros [] = 0
zeros (p ∷ ps) = (if p.depth == 0 then 1 else 0) + zeros ps

told_depths : (q : List ℕ) (ps : List Piece) (bs : List Block) → outers (marks bs) ≡ at_depth 2 (map (told q ps) bs)
told_depths q ps [] = refl
told_depths q ps (b ∷ bs) = ap (λ n. (if b.depth == 2 then 1 else 0) + n) (told_depths q ps bs)

deep_depths : (bs : List Told) → at_depth 2 (map in_item bs) ≡ at_depth 0 bs
deep_depths [] = refl
deep_depths (b ∷ bs) = ap (λ k. (if k then 1 else 0) + at_depth 2 (map in_item bs)) same ∙ ap (λ n. (if b.depth == 0 then 1 else 0) + n) (deep_depths bs)
  where
    same : (suc (suc b.depth) == 2) ≡ (b.depth == 0)
    same = grind (arith, nat_tests)

zeros_dropped : (d : ℕ) (ps : List Placed) → zeros (drop (length (take_while (λ (p : Placed). nat_lt d p.depth) ps)) ps) ≡ zeros ps
zeros_dropped d [] = refl
zeros_dropped d (p ∷ ps) = ap (λ (ws : List Placed). zeros (drop (length ws) (p ∷ ps))) (take_while-cons (λ (p : Placed). nat_lt d p.depth) p ps) ∙ by (nat_lt d p.depth) refl (zeros_dropped d ps)
  where
    by : (k : Bool) → nat_lt d p.depth ≡ k → zeros (drop (length (take_while (λ (p : Placed). nat_lt d p.depth) ps)) ps) ≡ zeros ps
        → zeros (drop (length (cond k (p ∷ take_while (λ (p : Placed). nat_lt d p.depth) ps) [])) (p ∷ ps)) ≡ zeros (p ∷ ps)
    by true e again = let z : (p.depth == 0) ≡ false = grind (arith, e, nat_tests) in let w : one_if (p.depth == 0) ≡ 0 = ap one_if z in omega (arith, again, w)
    by false e again = refl

zeros_placed : (bs : List Told) → zeros (placed_in bs) ≡ at_depth 0 bs
zeros_placed [] = refl
zeros_placed (b ∷ bs) = ap (λ n. (if b.depth == 0 then 1 else 0) + n) (zeros_dropped b.depth (placed_in bs) ∙ zeros_placed bs)

zeros_low : (ps : List Placed) → zeros ps ≤ count_of (trees_of ps)
zeros_low [] = omega arith
zeros_low (p ∷ ps) = by (p.depth == 0) (zeros_low ps)
  where
    by : (k : Bool) → zeros ps ≤ count_of (trees_of ps) → (if k then 1 else 0) + zeros ps ≤ 1 + count_of (trees_of ps)
    by true h = omega (arith, h)
    by false h = omega (arith, h)

-- whether the first block is loose
abbrev loose_told : List Told → Bool
loose_told [] = false
loose_told (b ∷ bs) = b.loose

told_first : (q : List ℕ) (ps : List Piece) (bs : List Block) → loose_told (map (told q ps) bs) ≡ first_loose (marks bs)
told_first q ps [] = refl
told_first q ps (b ∷ bs) = refl

pub one_block : MarksMakeATightItemOfOneBlock
unfolding blocks_in page_in known_of
one_block m bare t ok starts plain break fits single =
    is.trees ∙ ap (λ (x : Bool). more (Node (ListFrom (first_number m.mark)) x [] (more (Node Item false [] (read_trees t)) none)) none) (by is.loose refl)
  where
    q : List ℕ
    q = item_text m bare t

    is : IsItem m bare t
    is = item_blocks m bare t ok starts plain break fits

    last : State
    last = fold (line_taken_in core_known q) first_page (lines_of q)

    some : 0 < length t
    some = begins_some m t starts

    same : marks (closed_to q 0 last).blocks ≡ marks last.blocks
    same = closed_marks q 0 last

    few : outers (marks last.blocks) ≤ 1
    few = omega (arith, ap outers same, told_depths q (blocks_in CORE q).pieces (blocks_in CORE q).blocks, ap (at_depth 2) is.blocks, deep_depths (blocks_told t (blocks_in CORE t)), zeros_placed (blocks_told t (blocks_in CORE t)), zeros_low (placed_in (blocks_told t (blocks_in CORE t))), single)

    many : first_loose (marks last.blocks) ≡ true → 1 < outers (marks last.blocks)
    many = all_track m t q (lines_of q) (lines_of t) (record { kind = ok; begins = starts; break = break }) (item_lines m bare t ok some plain fits) (first_leads t (line_begins m t starts)) (lines-end t (omega (arith, fits))) (some_line t some) (lines_counted t 0 0 0 t) (omega (arith, fits))

    by : (x : Bool) → is.loose ≡ x → is.loose ≡ false
    by true e = absurd (omega (arith, few, many (sym (ap first_loose same) ∙ sym (told_first q (blocks_in CORE q).pieces (blocks_in CORE q).blocks) ∙ ap loose_told is.blocks ∙ e)))
    by false e = e
