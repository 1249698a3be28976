-- How the pages of two texts go on, where one has some blocks in front.
use Rattle.std.proofs.Common.{◌≡◌, ◌⊎◌, inl, inr, ℕ, zero, suc, ◌+◌, ◌-◌, ◌^◌, ◌<◌, ◌≤◌, Bool, true, false, ◌&&◌, ◌||◌, if◌then◌else◌, nat_lt, nat_le, List, [], ◌∷◌, ◌++◌, length, take, drop, refl, ap, sym, ◌∙◌, subst, arith, length-append, length-take}
use Rattle.std.specs.Prelude.{slice_get, slice_set, max, Option, Some, None, is_some}
use Rattle.std.specs.List.{AllByRecursion}
use Rattle.std.specs.Option.{option_map, option_map_or, option_and_then}
use Rattle.std.proofs.lemmas.Bool.Decides.{nat_tests}
use Rattle.std.proofs.lemmas.List.{length-drop}
use Rattle.tocmark_read_scan.specs.Basic.{plus}
use Rattle.tocmark_read_lines.specs.Containers.{raised, raised_at, touched_from}
use Rattle.tocmark_read_lines.specs.declared.container.Container.{Container}
use Rattle.tocmark_read_lines.specs.declared.container.Container.TheVariants as container
use Rattle.tocmark_read_lines.specs.declared.container.Opened.{Opened}
use Rattle.tocmark_read_lines.specs.declared.line.Line.{Line}
use Rattle.tocmark_read_page.specs.Definitions.{DefinitionView, definitions_from}
use Rattle.tocmark_read_page.specs.Pages.{State, innermost, ended, finished, raised_last, leaf_finished, shortened, defined_as, settled_as, settled, leaf_closed_as, leaf_closed, is_quote, is_list, is_definitions, quote_left, one_closed, times, closed_to, list_at, list_of, is_loose, left_noted, list_left, is_apart, made_loose, loosened, had_marked, begun, opened_with, leaf_opened, piece_pushed, has_text, piece_taken}
use Rattle.tocmark_read_page.specs.declared.leaf.Leaf.{Leaf}
use Rattle.tocmark_read_page.specs.declared.leaf.Leaf.TheVariants as leaf
use Rattle.tocmark_read_page.specs.declared.page.Block.{Block}
use Rattle.tocmark_read_page.specs.declared.page.BlockKind.{BlockKind}
use Rattle.tocmark_read_page.specs.declared.piece.Piece.{Piece}
use Rattle.tocmark_text_laws.specs.Quoted.{Sort, sort_of}
use Rattle.tocmark_text_laws.proofs.Alls.{all_set, all_got, all_changed, all_both, all_weaker}
use Rattle.tocmark_text_laws.proofs.Pairs.{Pairs, PairOf, set_length, end_some, pairs_length, pairs_got, pairs_take, pairs_end}
use Rattle.tocmark_text_laws.proofs.Fronts.{Past, past, past_is, past_length, past_end, past_drop, past_take, past_changed, same_last, last_got}
use Rattle.tocmark_text_laws.proofs.Houses.{lists}
use Rattle.tocmark_text_laws.proofs.Beyond.{Ahead, Before, Into, beyond, Beyond, beyond_place, beyond_got, beyond_set, beyond_end, beyond_last, beyond_changed, beyond_weaker, beyond_loose, IsOuter, Inner, beyond_later, inner_changed, inner_take, inner_end, outer_alone}
use Rattle.tocmark_text_laws.proofs.SequencePieces.{PieceOn, definitions_on, definitions_few}
use Rattle.tocmark_text_laws.proofs.QuotedPages.{Shape, shape_of, ended_some, finished_some, nothing_core}
use Rattle.tocmark_text_laws.proofs.Pages.{is_shut}
use Rattle.tocmark_text_laws.proofs.Leaves.{is_core}

-- what is in front of the blocks, the pieces and the definitions of a page, and by how many lines the other one is further
pub record Earlier : Type 0 where
  pub blocks : Ahead
  pub pieces : List Piece
  pub definitions : List DefinitionView
  pub lines : ℕ

abbrev pub numbered : ℕ → Line → Line
numbered m l = record { number = m; start = l.start; end = l.end; next = l.next }

-- a container in both texts, which reaches the same line if it isn't the list in front
pub record OpenedOn (f : Earlier) (there here : Opened) : Type 0 where
  pub container : there.container ≡ here.container
  pub block : there.block ≡ beyond f.blocks here.block
  pub line : (there.line + f.lines ≡ here.line) ⊎ IsOuter f.blocks here
  pub had : there.had ≡ here.had

abbrev pub shape_on : Earlier → Shape → Shape
shape_on f s = record { depth = s.depth; sort = s.sort; first = past f.pieces s.first; last = past f.pieces s.last; loose = s.loose; list = option_map (beyond f.blocks) s.list; boxed = s.boxed }

-- a block in both texts, which has its first piece at a place up to this one
pub record BlockOn (t q : List ℕ) (f : Earlier) (n : ℕ) (there here : Block) : Type 0 where
  pub shape : shape_of q there ≡ shape_on f (shape_of t here)
  pub low : here.first ≤ n

-- the lines of a block are among those that are kept, if it has some
abbrev pub Within : ℕ → ℕ → Block → Type 0
Within kept count b = (b.last ≤ b.first) ⊎ ((b.last ≤ kept) × (b.last ≤ count))

abbrev pub Lasting : State → Type 0
Lasting s = AllByRecursion (Within s.kept (length s.pieces)) s.blocks

-- pages of both texts, with so many pieces at most
pub record Onward (t q : List ℕ) (f : Earlier) (n : ℕ) (there here : State) : Type 0 where
  pub opened : Pairs (OpenedOn f) there.opened here.opened
  pub inner : Inner f.blocks here.opened
  pub blocks : Beyond f.blocks (BlockOn t q f n) there.blocks here.blocks
  pub pieces : Past f.pieces (PieceOn t q) there.pieces here.pieces
  pub definitions : there.definitions ≡ f.definitions ++ here.definitions
  pub quotes : there.quotes ≡ here.quotes
  pub leaf : there.leaf ≡ here.leaf
  pub core : is_core here.leaf ≡ true
  pub few : length here.pieces ≤ n
  pub room : length f.pieces + n + 1 < 2 ^ 64 - 1
  pub lasts : Lasting here
  pub tied : is_shut here.leaf ≡ false → (there.line + f.lines ≡ here.line) × (0 < length here.blocks) × (there.kept ≡ past f.pieces here.kept)

-- pages on which a leaf is open, or just was
pub record Firm (t q : List ℕ) (f : Earlier) (n : ℕ) (there here : State) : Type 0 where
  pub onward : Onward t q f n there here
  pub line : there.line + f.lines ≡ here.line
  pub some : 0 < length here.blocks
  pub kept : there.kept ≡ past f.pieces here.kept

pub firm : (t q : List ℕ) (f : Earlier) (n : ℕ) (there here : State) → is_shut here.leaf ≡ false → Onward t q f n there here → Firm t q f n there here
firm t q f n there here e h = record { onward = h; line = (h.tied e).0; some = (h.tied e).1; kept = (h.tied e).2 }

pub onward_more : (t q : List ℕ) (f : Earlier) (n m : ℕ) (there here : State) → n ≤ m → length f.pieces + m + 1 < 2 ^ 64 - 1 → Onward t q f n there here → Onward t q f m there here
onward_more t q f n m there here k room h = record { opened = h.opened; inner = h.inner; blocks = beyond_weaker f.blocks (BlockOn t q f n) (BlockOn t q f m) (λ x y u. record { shape = u.shape; low = omega (arith, k, u.low) }) there.blocks here.blocks h.blocks; pieces = h.pieces; definitions = h.definitions; quotes = h.quotes; leaf = h.leaf; core = h.core; few = omega (arith, k, h.few); room = room; lasts = h.lasts; tied = h.tied }

-- where the lines of blocks are

within_more : (k c j d : ℕ) (bs : List Block) → ((n : ℕ) → n ≤ k → n ≤ c → (n ≤ j) × (n ≤ d)) → AllByRecursion (Within k c) bs → AllByRecursion (Within j d) bs
within_more k c j d bs more h = all_weaker (Within k c) (Within j d) bs (λ b w. by b w) h
  where
    by : (b : Block) → Within k c b → Within j d b
    by b (inl e) = inl e
    by b (inr (a, e)) = inr (more b.last a e)

within_ended : (k c i end : ℕ) (bs : List Block) → AllByRecursion (Within k c) bs → AllByRecursion (Within k c) (ended bs i end)
unfolding ended
within_ended k c i end bs h = all_changed (Within k c) bs i (λ (b : Block). record b { end = end }) (λ y e w. w) h

within_finished : (s : State) → Lasting s → AllByRecursion (Within s.kept (length (take s.kept s.pieces))) (finished s.blocks (length s.blocks - 1) s.end (length (take s.kept s.pieces)))
unfolding finished
within_finished s h =
    all_changed (Within s.kept count) s.blocks (length s.blocks - 1) (λ (b : Block). record b { end = s.end; last = count }) (λ y e w. inr (omega (arith, length-take s.kept s.pieces), omega arith))
    (within_more s.kept (length s.pieces) s.kept count s.blocks (λ n a e. (a, omega (arith, a, e, length-take s.kept s.pieces))) h)
  where
    count : ℕ
    count = length (take s.kept s.pieces)

within_loosened : (k c : ℕ) (list : Option ℕ) (apart : Bool) (bs : List Block) → AllByRecursion (Within k c) bs → AllByRecursion (Within k c) (loosened list apart bs)
unfolding loosened
within_loosened k c list false bs h = h
within_loosened k c None true bs h = h
within_loosened k c (Some i) true bs h = all_changed (Within k c) bs i (λ (b : Block). record b { loose = true }) (λ y e w. w) h

-- blocks end

pub ended_on : (t q : List ℕ) (f : Earlier) (n i end far : ℕ) (there here : List Block) → Beyond f.blocks (BlockOn t q f n) there here → Beyond f.blocks (BlockOn t q f n) (ended there (beyond f.blocks i) end) (ended here i far)
unfolding ended
ended_on t q f n i end far there here h = beyond_changed f.blocks (BlockOn t q f n) i (λ (b : Block). record b { end = end }) (λ (b : Block). record b { end = far }) (λ x y k. record { shape = k.shape; low = k.low }) (λ x e. refl) there here h

finished_on : (t q : List ℕ) (f : Earlier) (n end far last : ℕ) (there here : List Block) → 0 < length here → Beyond f.blocks (BlockOn t q f n) there here
    → Beyond f.blocks (BlockOn t q f n) (finished there (length there - 1) end (past f.pieces last)) (finished here (length here - 1) far last)
unfolding finished
finished_on t q f n end far last there here some h =
    beyond_last f.blocks (BlockOn t q f n) (λ (b : Block). record b { end = end; last = past f.pieces last }) (λ (b : Block). record b { end = far; last = last })
    (λ x y k. record { shape = ap (λ (s : Shape). record s { last = past f.pieces last }) k.shape; low = k.low }) there here h some

max_on : (a b d c e : ℕ) → a + d ≡ c → b + d ≡ e → max a b + d ≡ max c e
max_on a b d c e h k = omega (arith, h, k)

outer_raised : (g : Ahead) (end line : ℕ) (o : Opened) → IsOuter g o → IsOuter g (raised o end line)
unfolding raised
outer_raised (Before fs) end line o h = absurd h
outer_raised (Into fs k) end line o h = h

pub raised_inner : (g : Ahead) (i end line : ℕ) (os : List Opened) → Inner g os → Inner g (raised_at os i end line)
unfolding raised_at raised
raised_inner g i end line os h = inner_changed g i (λ (o : Opened). raised o end line) (λ o. refl) os h

pub touched_inner : (g : Ahead) (count end line : ℕ) (qs : List ℕ) (os : List Opened) → Inner g os → Inner g (touched_from count end line qs os)
touched_inner g count end line [] os h = h
touched_inner g count end line (q ∷ qs) os h = by (nat_le count q) (touched_inner g count end line qs (raised_at os q end line) (raised_inner g q end line os h))
  where
    by : (k : Bool) → Inner g (touched_from count end line qs (raised_at os q end line)) → Inner g (if k then os else touched_from count end line qs (raised_at os q end line))
    by true rest = h
    by false rest = rest

raised_on : (f : Earlier) (end far line late : ℕ) → line + f.lines ≡ late → (x y : Opened) → OpenedOn f x y → OpenedOn f (raised x end line) (raised y far late)
unfolding raised
raised_on f end far line late e x y h = record { container = h.container; block = h.block; line = further h.line; had = h.had }
  where
    further : (x.line + f.lines ≡ y.line) ⊎ IsOuter f.blocks y → (max x.line line + f.lines ≡ max y.line late) ⊎ IsOuter f.blocks (raised y far late)
    further (inl k) = inl (max_on x.line line f.lines y.line late k e)
    further (inr o) = inr (outer_raised f.blocks far late y o)

pub raised_opens : (f : Earlier) (end far line late : ℕ) → line + f.lines ≡ late → (there here : List Opened) → Pairs (OpenedOn f) there here → Pairs (OpenedOn f) (raised_at there (length there - 1) end line) (raised_at here (length here - 1) far late)
unfolding raised_at
raised_opens f end far line late e there here h = same_last (OpenedOn f) (λ (o : Opened). raised o end line) (λ (o : Opened). raised o far late) (raised_on f end far line late e) there here h

pub touched_on : (f : Earlier) (count end far line late : ℕ) (qs : List ℕ) → line + f.lines ≡ late → (there here : List Opened) → Pairs (OpenedOn f) there here → Pairs (OpenedOn f) (touched_from count end line qs there) (touched_from count far late qs here)
unfolding raised_at
touched_on f count end far line late [] e there here h = h
touched_on f count end far line late (q ∷ qs) e there here h =
    by (nat_le count q) (touched_on f count end far line late qs e (raised_at there q end line) (raised_at here q far late) (past_changed [] (OpenedOn f) q (λ (o : Opened). raised o end line) (λ (o : Opened). raised o far late) (raised_on f end far line late e) there here h))
  where
    by : (k : Bool) → Pairs (OpenedOn f) (touched_from count end line qs (raised_at there q end line)) (touched_from count far late qs (raised_at here q far late))
        → Pairs (OpenedOn f) (if k then there else touched_from count end line qs (raised_at there q end line)) (if k then here else touched_from count far late qs (raised_at here q far late))
    by true rest = h
    by false rest = rest

-- the open leaf ends
pub finished_firm : (t q : List ℕ) (f : Earlier) (n : ℕ) (there here : State) → Firm t q f n there here → Firm t q f n (leaf_finished there) (leaf_finished here)
unfolding leaf_finished
finished_firm t q f n there here g = rw (g.kept, count) (record {
  onward = record {
    opened = raised_opens f there.end here.end there.line here.line g.line there.opened here.opened h.opened;
    inner = raised_inner f.blocks (length here.opened - 1) here.end here.line here.opened h.inner;
    blocks = finished_on t q f n there.end here.end (length (take here.kept here.pieces)) there.blocks here.blocks g.some h.blocks;
    pieces = pieces;
    definitions = h.definitions;
    quotes = h.quotes;
    leaf = refl;
    core = nothing_core;
    few = omega (arith, h.few, length-take here.kept here.pieces);
    room = h.room;
    lasts = within_finished here h.lasts;
    tied = λ o. (g.line, some, refl);
  };
  line = g.line;
  some = some;
  kept = refl;
})
  where
    h : Onward t q f n there here
    h = g.onward

    pieces : Past f.pieces (PieceOn t q) (take (past f.pieces here.kept) there.pieces) (take here.kept here.pieces)
    pieces = past_take f.pieces (PieceOn t q) here.kept there.pieces here.pieces h.pieces

    count : length (take (past f.pieces here.kept) there.pieces) ≡ past f.pieces (length (take here.kept here.pieces))
    count = past_length f.pieces (PieceOn t q) (take (past f.pieces here.kept) there.pieces) (take here.kept here.pieces) pieces

    some : 0 < length (finished here.blocks (length here.blocks - 1) here.end (length (take here.kept here.pieces)))
    some = omega (arith, g.some, finished_some here.blocks (length here.blocks - 1) here.end (length (take here.kept here.pieces)))

-- definitions are taken from the open paragraph
defined_firm : (t q : List ℕ) (f : Earlier) (n : ℕ) (there here : State) (x y : Block) → slice_get here.blocks (length here.blocks - 1) ≡ Some y → BlockOn t q f n x y → Firm t q f n there here → Firm t q f n (defined_as q there x) (defined_as t here y)
unfolding shortened
defined_firm t q f n there here x y last u g = rw (first, h.definitions, found, place, sum) (record {
  onward = record {
    opened = h.opened;
    inner = h.inner;
    blocks = beyond_set f.blocks (BlockOn t q f n) (record x { first = past f.pieces (plus y.first count); start = _ }) (record y { first = plus y.first count; start = _ })
        (record { shape = ap (λ (s : Shape). record s { first = past f.pieces (plus y.first count) }) u.shape; low = low }) there.blocks here.blocks h.blocks;
    pieces = h.pieces;
    definitions = refl;
    quotes = h.quotes;
    leaf = h.leaf;
    core = h.core;
    few = h.few;
    room = h.room;
    lasts = all_set (Within here.kept (length here.pieces)) here.blocks (length here.blocks - 1) (record y { first = plus y.first count; start = _ }) h.lasts (later (all_got (Within here.kept (length here.pieces)) here.blocks (length here.blocks - 1) y h.lasts last));
    tied = λ o. (g.line, some, g.kept);
  };
  line = g.line;
  some = some;
  kept = g.kept;
})
  where
    h : Onward t q f n there here
    h = g.onward

    first : x.first ≡ past f.pieces y.first
    first = ap (λ (s : Shape). s.first) u.shape

    place : length there.blocks - 1 ≡ beyond f.blocks (length here.blocks - 1)
    place = beyond_place f.blocks (BlockOn t q f n) there.blocks here.blocks h.blocks g.some

    rest : Pairs (PieceOn t q) (drop (past f.pieces y.first) there.pieces) (drop y.first here.pieces)
    rest = past_drop f.pieces (PieceOn t q) y.first there.pieces here.pieces h.pieces

    found : definitions_from q (drop (past f.pieces y.first) there.pieces) (f.definitions ++ here.definitions) ≡ (f.definitions ++ (definitions_from t (drop y.first here.pieces) here.definitions).0, (definitions_from t (drop y.first here.pieces) here.definitions).1)
    found = definitions_on t q (drop (past f.pieces y.first) there.pieces) (drop y.first here.pieces) f.definitions here.definitions rest

    count : ℕ
    count = (definitions_from t (drop y.first here.pieces) here.definitions).1

    few : count ≤ length (drop y.first here.pieces)
    few = definitions_few t q (drop (past f.pieces y.first) there.pieces) (drop y.first here.pieces) here.definitions rest

    later : Within here.kept (length here.pieces) y → Within here.kept (length here.pieces) (shortened y here.pieces count)
    later (inl e) = inl (omega (arith, e, u.low, h.room))
    later (inr e) = inr e

    low : plus y.first count ≤ n
    low = omega (arith, few, length-drop y.first here.pieces, h.few, u.low)

    sum : plus (past f.pieces y.first) count ≡ past f.pieces (plus y.first count)
    sum = omega (arith, past_is f.pieces y.first, past_is f.pieces (plus y.first count), few, length-drop y.first here.pieces, h.few, u.low, h.room)

    some : 0 < length (slice_set here.blocks (length here.blocks - 1) (shortened y here.pieces count))
    some = omega (arith, g.some, set_length here.blocks (length here.blocks - 1) (shortened y here.pieces count))

pub settled_firm : (t q : List ℕ) (f : Earlier) (n : ℕ) (there here : State) → Firm t q f n there here → Firm t q f n (settled q there) (settled t here)
unfolding settled
settled_firm t q f n there here g = rw place (by (slice_get there.blocks (beyond f.blocks (length here.blocks - 1))) (slice_get here.blocks (length here.blocks - 1)) refl (beyond_got f.blocks (BlockOn t q f n) there.blocks here.blocks g.onward.blocks))
  where
    place : length there.blocks - 1 ≡ beyond f.blocks (length here.blocks - 1)
    place = beyond_place f.blocks (BlockOn t q f n) there.blocks here.blocks g.onward.blocks g.some

    boxed : (x y : Block) (k : Bool) → is_some x.task ≡ k → is_some y.task ≡ k → slice_get here.blocks (length here.blocks - 1) ≡ Some y → BlockOn t q f n x y → Firm t q f n (settled_as q there x) (settled_as t here y)
    boxed x y true e w last u = rw (e, w) g
    boxed x y false e w last u = rw (e, w) (defined_firm t q f n there here x y last u g)

    by : (o p : Option Block) → slice_get here.blocks (length here.blocks - 1) ≡ p → PairOf (BlockOn t q f n) o p → Firm t q f n (option_map_or (settled_as q there) o there) (option_map_or (settled_as t here) p here)
    by None None e u = g
    by None (Some y) e u = absurd u
    by (Some x) None e u = absurd u
    by (Some x) (Some y) e u = boxed x y (is_some y.task) (ap (λ (s : Shape). s.boxed) u.shape) refl e u

pub leaf_closed_on : (t q : List ℕ) (f : Earlier) (n : ℕ) (there here : State) → Onward t q f n there here → Onward t q f n (leaf_closed q there) (leaf_closed t here)
unfolding leaf_closed is_shut is_core
leaf_closed_on t q f n there here h = subst (λ k. Onward t q f n (leaf_closed_as k q there) (leaf_closed_as here.leaf t here)) (sym h.leaf) (by here.leaf h.tied h.core)
  where
    Tied : Type 0
    Tied = (there.line + f.lines ≡ here.line) × (0 < length here.blocks) × (there.kept ≡ past f.pieces here.kept)

    firmly : Tied → Firm t q f n there here
    firmly k = record { onward = h; line = k.0; some = k.1; kept = k.2 }

    by : (k : Leaf) → (is_shut k ≡ false → Tied) → is_core k ≡ true → Onward t q f n (leaf_closed_as k q there) (leaf_closed_as k t here)
    by leaf.Nothing e c = h
    by leaf.Paragraph e c = (finished_firm t q f n (settled q there) (settled t here) (settled_firm t q f n there here (firmly (e refl)))).onward
    by leaf.Indented e c = (finished_firm t q f n there here (firmly (e refl))).onward
    by (leaf.Fenced x) e c = (finished_firm t q f n there here (firmly (e refl))).onward
    by (leaf.Html k) e c = (finished_firm t q f n there here (firmly (e refl))).onward
    by (leaf.Metadata k) e c = absurd cc
    by (leaf.Table x) e c = absurd cc

-- containers end

-- the innermost one ends

-- what it is in reaches as far, if there is anything
taken_opens : (f : Earlier) (end far line late n : ℕ) → (line + f.lines ≡ late) ⊎ (n ≡ 0) → (there here : List Opened) → Pairs (OpenedOn f) there here
    → Pairs (OpenedOn f) (raised_at (take n there) (length (take n there) - 1) end line) (raised_at (take n here) (length (take n here) - 1) far late)
unfolding raised_at
taken_opens f end far line late n (inl e) there here h = raised_opens f end far line late e (take n there) (take n here) (pairs_take (OpenedOn f) n there here h)
taken_opens f end far line late zero (inr e) there here h = tt
taken_opens f end far line late (suc n) (inr e) there here h = absurd (omega (arith, e))

one_closes : (t q : List ℕ) (f : Earlier) (n : ℕ) (there here : State) (x y : Opened) → slice_get here.opened (length here.opened - 1) ≡ Some y → OpenedOn f x y → Onward t q f n there here
    → Onward t q f n (quote_left x.container (raised_last x.end x.line (record there { opened = take (length here.opened - 1) there.opened; blocks = ended there.blocks x.block x.end })))
    (quote_left y.container (raised_last y.end y.line (record here { opened = take (length here.opened - 1) here.opened; blocks = ended here.blocks y.block y.end })))
one_closes t q f n there here x y last u h = rw (u.container, u.block) (by (is_quote y.container))
  where
    os' : List Opened
    os' = take (length here.opened - 1) there.opened

    os : List Opened
    os = take (length here.opened - 1) here.opened

    some : 0 < length here.blocks → 0 < length (ended here.blocks y.block y.end)
    some k = omega (arith, k, ended_some here.blocks y.block y.end)

    reaches : (x.line + f.lines ≡ y.line) ⊎ IsOuter f.blocks y → (x.line + f.lines ≡ y.line) ⊎ (length here.opened - 1 ≡ 0)
    reaches (inl e) = inl e
    reaches (inr o) = inr (outer_alone f.blocks here.opened y h.inner last o)

    made : (quotes' quotes : List ℕ) → quotes' ≡ quotes
        → Onward t q f n (record (raised_last x.end x.line (record there { opened = os'; blocks = ended there.blocks (beyond f.blocks y.block) x.end })) { quotes = quotes' })
        (record (raised_last y.end y.line (record here { opened = os; blocks = ended here.blocks y.block y.end })) { quotes = quotes })
    made quotes' quotes e = record {
      opened = taken_opens f x.end y.end x.line y.line (length here.opened - 1) (reaches u.line) there.opened here.opened h.opened;
      inner = raised_inner f.blocks (length os - 1) y.end y.line os (inner_take f.blocks (length here.opened - 1) here.opened h.inner);
      blocks = ended_on t q f n y.block x.end y.end there.blocks here.blocks h.blocks;
      pieces = h.pieces;
      definitions = h.definitions;
      quotes = e;
      leaf = h.leaf;
      core = h.core;
      few = h.few;
      room = h.room;
      lasts = within_ended here.kept (length here.pieces) y.block y.end here.blocks h.lasts;
      tied = λ o. ((h.tied o).0, some ((h.tied o).1), (h.tied o).2);
    }

    by : (k : Bool)
        → Onward t q f n (if k then record (raised_last x.end x.line (record there { opened = os'; blocks = ended there.blocks (beyond f.blocks y.block) x.end })) { quotes = take (length there.quotes - 1) there.quotes } else raised_last x.end x.line (record there { opened = os'; blocks = ended there.blocks (beyond f.blocks y.block) x.end }))
        (if k then record (raised_last y.end y.line (record here { opened = os; blocks = ended here.blocks y.block y.end })) { quotes = take (length here.quotes - 1) here.quotes } else raised_last y.end y.line (record here { opened = os; blocks = ended here.blocks y.block y.end }))
    by true = made (take (length there.quotes - 1) there.quotes) (take (length here.quotes - 1) here.quotes) (ap (λ (qs : List ℕ). take (length qs - 1) qs) h.quotes)
    by false = made there.quotes here.quotes h.quotes

one_closed_on : (t q : List ℕ) (f : Earlier) (n : ℕ) (there here : State) → Onward t q f n there here → Onward t q f n (one_closed there) (one_closed here)
unfolding one_closed
one_closed_on t q f n there here h = rw (pairs_length (OpenedOn f) there.opened here.opened h.opened) (by (slice_get there.opened (length here.opened - 1)) (slice_get here.opened (length here.opened - 1)) refl (pairs_got (OpenedOn f) (length here.opened - 1) there.opened here.opened h.opened))
  where
    by : (o p : Option Opened) → slice_get here.opened (length here.opened - 1) ≡ p → PairOf (OpenedOn f) o p
        → Onward t q f n (option_map_or (λ (x : Opened). quote_left x.container (raised_last x.end x.line (record there { opened = take (length here.opened - 1) there.opened; blocks = ended there.blocks x.block x.end }))) o there)
        (option_map_or (λ (y : Opened). quote_left y.container (raised_last y.end y.line (record here { opened = take (length here.opened - 1) here.opened; blocks = ended here.blocks y.block y.end }))) p here)
    by None None e u = h
    by None (Some y) e u = absurd u
    by (Some x) None e u = absurd u
    by (Some x) (Some y) e u = one_closes t q f n there here x y e u h

times_on : (t q : List ℕ) (f : Earlier) (n k : ℕ) (there here : State) → Onward t q f n there here → Onward t q f n (times one_closed k there) (times one_closed k here)
unfolding times
times_on t q f n zero there here h = h
times_on t q f n (suc k) there here h = times_on t q f n k (one_closed there) (one_closed here) (one_closed_on t q f n there here h)

pub closed_on : (t q : List ℕ) (f : Earlier) (n depth : ℕ) (there here : State) → Onward t q f n there here → Onward t q f n (closed_to q depth there) (closed_to t depth here)
unfolding closed_to
closed_on t q f n depth there here h = rw (pairs_length (OpenedOn f) (leaf_closed q there).opened (leaf_closed t here).opened shut.opened) (times_on t q f n (length (leaf_closed t here).opened - depth) (leaf_closed q there) (leaf_closed t here) shut)
  where
    shut : Onward t q f n (leaf_closed q there) (leaf_closed t here)
    shut = leaf_closed_on t q f n there here h

-- the list that a block is in

list_on : (f : Earlier) (there here : List Opened) → Pairs (OpenedOn f) there here → list_of there ≡ option_map (beyond f.blocks) (list_of here)
unfolding list_of
list_on f there here h = by (innermost there) (innermost here) (last_got (OpenedOn f) there here h)
  where
    inner : option_map (λ (l : Opened). l.block) (slice_get there (length there - 2)) ≡ option_map (beyond f.blocks) (option_map (λ (l : Opened). l.block) (slice_get here (length here - 2)))
    inner = rw (pairs_length (OpenedOn f) there here h) (each (slice_get there (length here - 2)) (slice_get here (length here - 2)) (pairs_got (OpenedOn f) (length here - 2) there here h))
      where
        each : (a b : Option Opened) → PairOf (OpenedOn f) a b → option_map (λ (l : Opened). l.block) a ≡ option_map (beyond f.blocks) (option_map (λ (l : Opened). l.block) b)
        each None None u = refl
        each None (Some y) u = absurd u
        each (Some x) None u = absurd u
        each (Some x) (Some y) u = ap Some u.block

    sorts : (k : Container) (x y : Opened) → x.block ≡ beyond f.blocks y.block → list_at k x there ≡ option_map (beyond f.blocks) (list_at k y here)
    sorts container.Quote x y b = refl
    sorts (container.List sort) x y b = ap Some b
    sorts (container.Item width) x y b = inner
    sorts container.Footnote x y b = refl
    sorts container.Definitions x y b = ap Some b
    sorts (container.Definition width) x y b = inner

    by : (o p : Option Opened) → PairOf (OpenedOn f) o p → option_and_then (λ (x : Opened). list_at x.container x there) o ≡ option_map (beyond f.blocks) (option_and_then (λ (y : Opened). list_at y.container y here) p)
    by None None u = refl
    by None (Some y) u = absurd u
    by (Some x) None u = absurd u
    by (Some x) (Some y) u = ap (λ c. list_at c x there) u.container ∙ sorts y.container x y u.block

left_on : (t q : List ℕ) (f : Earlier) (n : ℕ) (x y : Opened) (there here : State) → OpenedOn f x y → Onward t q f n there here → Onward t q f n (left_noted x there) (left_noted y here)
unfolding left_noted
left_on t q f n x y there here u h = rw u.container (by (is_definitions y.container))
  where
    by : (k : Bool) → Onward t q f n (if k then record there { left = Some (record { list = x.block; behind = length there.blocks; loose = is_loose there.blocks (list_of there.opened) }) } else there) (if k then record here { left = Some (record { list = y.block; behind = length here.blocks; loose = is_loose here.blocks (list_of here.opened) }) } else here)
    by true = record { opened = h.opened; inner = h.inner; blocks = h.blocks; pieces = h.pieces; definitions = h.definitions; quotes = h.quotes; leaf = h.leaf; core = h.core; few = h.few; room = h.room; lasts = h.lasts; tied = h.tied }
    by false = h

pub list_left_on : (t q : List ℕ) (f : Earlier) (n : ℕ) (there here : State) → Onward t q f n there here → Onward t q f n (list_left there) (list_left here)
unfolding list_left
list_left_on t q f n there here h = by (innermost there.opened) (innermost here.opened) (last_got (OpenedOn f) there.opened here.opened h.opened)
  where
    inner : (x y : Opened) → OpenedOn f x y → (k : Bool) → Onward t q f n (if k then left_noted x (one_closed there) else there) (if k then left_noted y (one_closed here) else here)
    inner x y u true = left_on t q f n x y (one_closed there) (one_closed here) u (one_closed_on t q f n there here h)
    inner x y u false = h

    by : (o p : Option Opened) → PairOf (OpenedOn f) o p → Onward t q f n (option_map_or (λ (x : Opened). if is_list x.container then left_noted x (one_closed there) else there) o there) (option_map_or (λ (y : Opened). if is_list y.container then left_noted y (one_closed here) else here) p here)
    by None None u = h
    by None (Some y) u = absurd u
    by (Some x) None u = absurd u
    by (Some x) (Some y) u = subst (λ c. Onward t q f n (if is_list c then left_noted x (one_closed there) else there) (if is_list y.container then left_noted y (one_closed here) else here)) (sym u.container) (inner x y u (is_list y.container))

-- blocks begin

apart_later : (a b d m n : ℕ) → a + d ≡ b → m + d ≡ n → n + 1 < 2 ^ 64 - 1 → nat_lt (plus a 1) m ≡ nat_lt (plus b 1) n
apart_later a b d m n h k few = grind (arith, h, k, few, nat_tests)

-- a block is equally far from its neighbour, or the list in front is innermost
apart_on : (f : Earlier) (m number : ℕ) (there here : List Opened) → m + f.lines ≡ number → number + 1 < 2 ^ 64 - 1 → Pairs (OpenedOn f) there here
    → (is_apart there m ≡ is_apart here number) ⊎ ((o : Opened) × (innermost here ≡ Some o) × IsOuter f.blocks o)
unfolding is_apart
apart_on f m number there here e few h = by (innermost there) (innermost here) refl (last_got (OpenedOn f) there here h)
  where
    apart : ℕ → Opened → Bool
    apart k o = o.had && nat_lt (plus o.line 1) k

    both : (x y : Opened) → x.had ≡ y.had → innermost here ≡ Some y → (x.line + f.lines ≡ y.line) ⊎ IsOuter f.blocks y → (apart m x ≡ apart number y) ⊎ ((o : Opened) × (Some y ≡ Some o) × IsOuter f.blocks o)
    both x y g l (inl k) = inl (rw (g, apart_later x.line y.line f.lines m number k e few) refl)
    both x y g l (inr o) = inr (y, refl, o)

    by : (o p : Option Opened) → innermost here ≡ p → PairOf (OpenedOn f) o p → (option_map_or (apart m) o false ≡ option_map_or (apart number) p false) ⊎ ((o : Opened) × (p ≡ Some o) × IsOuter f.blocks o)
    by None None l u = inl refl
    by None (Some y) l u = absurd u
    by (Some x) None l u = absurd u
    by (Some x) (Some y) l u = both x y u.had l u.line

made_loose_on : (t q : List ℕ) (f : Earlier) (n i : ℕ) (there here : List Block) → Beyond f.blocks (BlockOn t q f n) there here → Beyond f.blocks (BlockOn t q f n) (made_loose there (beyond f.blocks i)) (made_loose here i)
made_loose_on t q f n i there here h = beyond_changed f.blocks (BlockOn t q f n) i (λ (b : Block). record b { loose = true }) (λ (b : Block). record b { loose = true }) (λ x y k. record { shape = ap (λ (s : Shape). record s { loose = true }) k.shape; low = k.low }) (λ x e. ap (λ l. record x { loose = l }) (sym e)) there here h

loosened_on : (t q : List ℕ) (f : Earlier) (n : ℕ) (list : Option ℕ) (apart : Bool) (there here : List Block) → Beyond f.blocks (BlockOn t q f n) there here → Beyond f.blocks (BlockOn t q f n) (loosened (option_map (beyond f.blocks) list) apart there) (loosened list apart here)
unfolding loosened
loosened_on t q f n list false there here h = h
loosened_on t q f n None true there here h = h
loosened_on t q f n (Some i) true there here h = made_loose_on t q f n i there here h

outer_of : (c : Container) (o : Opened) (os : List Opened) → lists c ≡ true → list_at c o os ≡ Some o.block
outer_of container.Quote o os e = absurd cc
outer_of (container.List sort) o os e = refl
outer_of (container.Item width) o os e = absurd cc
outer_of container.Footnote o os e = absurd cc
outer_of container.Definitions o os e = absurd cc
outer_of (container.Definition width) o os e = absurd cc

pub outer_list : (os : List Opened) (o : Opened) → innermost os ≡ Some o → lists o.container ≡ true → list_of os ≡ Some o.block
unfolding list_of
outer_list os o e l = ap (option_and_then (λ (x : Opened). list_at x.container x os)) e ∙ outer_of o.container o os l

-- the list in front is loose already
outer_loosened : (g : Ahead) (R : Block → Block → Type 0) (os : List Opened) (o : Opened) → innermost os ≡ Some o → IsOuter g o → (a b : Bool) (xs ys : List Block) → Beyond g R xs ys → Beyond g R (loosened (option_map (beyond g) (list_of os)) a xs) (loosened (list_of os) b ys)
outer_loosened (Before fs) R os o e u a b xs ys h = absurd u
outer_loosened (Into fs k) R os o e u a b xs ys h =
    subst (λ list. Beyond (Into fs k) R (loosened (option_map (beyond (Into fs k)) list) a xs) (loosened list b ys)) (sym (outer_list os o e (u.1) ∙ ap Some (u.0))) (beyond_loose fs k R a b xs ys h)

begun_loosened : (t q : List ℕ) (f : Earlier) (n m number : ℕ) (there here : State) → m + f.lines ≡ number → number + 1 < 2 ^ 64 - 1 → Onward t q f n there here
    → Beyond f.blocks (BlockOn t q f n) (loosened (option_map (beyond f.blocks) (list_of here.opened)) (is_apart there.opened m) there.blocks) (loosened (list_of here.opened) (is_apart here.opened number) here.blocks)
begun_loosened t q f n m number there here later small h = by (apart_on f m number there.opened here.opened later small h.opened)
  where
    Goal : Bool → Type 0
    Goal a = Beyond f.blocks (BlockOn t q f n) (loosened (option_map (beyond f.blocks) (list_of here.opened)) a there.blocks) (loosened (list_of here.opened) (is_apart here.opened number) here.blocks)

    by : (is_apart there.opened m ≡ is_apart here.opened number) ⊎ ((o : Opened) × (innermost here.opened ≡ Some o) × IsOuter f.blocks o) → Goal (is_apart there.opened m)
    by (inl e) = subst Goal (sym e) (loosened_on t q f n (list_of here.opened) (is_apart here.opened number) there.blocks here.blocks h.blocks)
    by (inr (o, e, u)) = outer_loosened f.blocks (BlockOn t q f n) here.opened o e u (is_apart there.opened m) (is_apart here.opened number) there.blocks here.blocks h.blocks

had_inner : (g : Ahead) (os : List Opened) → Inner g os → Inner g (had_marked os)
unfolding had_marked
had_inner g os h = inner_changed g (length os - 1) (λ (o : Opened). record o { had = true }) (λ o. refl) os h

had_on : (f : Earlier) (there here : List Opened) → Pairs (OpenedOn f) there here → Pairs (OpenedOn f) (had_marked there) (had_marked here)
unfolding had_marked
had_on f there here h = same_last (OpenedOn f) (λ (o : Opened). record o { had = true }) (λ (o : Opened). record o { had = true }) (λ x y k. record { container = k.container; block = k.block; line = still x y k.line; had = refl }) there here h
  where
    outer : (g : Ahead) (y : Opened) → IsOuter g y → IsOuter g (record y { had = true })
    outer (Before fs) y u = absurd u
    outer (Into fs k) y u = u

    still : (x y : Opened) → (x.line + f.lines ≡ y.line) ⊎ IsOuter f.blocks y → (x.line + f.lines ≡ y.line) ⊎ IsOuter f.blocks (record y { had = true })
    still x y (inl e) = inl e
    still x y (inr u) = inr (outer f.blocks y u)

begun_on : (t q : List ℕ) (f : Earlier) (n : ℕ) (x y : BlockKind) (start far m number : ℕ) (there here : State) → sort_of q x ≡ sort_of t y → m + f.lines ≡ number → number + 1 < 2 ^ 64 - 1 → Onward t q f n there here
    → Onward t q f n (begun x start m there) (begun y far number here) × (0 < length (begun y far number here).blocks)
unfolding begun
begun_on t q f n x y start far m number there here e later small h = rw lists (
  record {
    opened = had_on f there.opened here.opened h.opened;
    inner = had_inner f.blocks here.opened h.inner;
    blocks = beyond_end f.blocks (BlockOn t q f n) _ _ (record { shape = shape; low = h.few }) (loosened (option_map (beyond f.blocks) (list_of here.opened)) (is_apart there.opened m) there.blocks) (loosened (list_of here.opened) (is_apart here.opened number) here.blocks) (begun_loosened t q f n m number there here later small h);
    pieces = h.pieces;
    definitions = h.definitions;
    quotes = h.quotes;
    leaf = h.leaf;
    core = h.core;
    few = h.few;
    room = h.room;
    lasts = all_both (Within here.kept (length here.pieces)) (loosened (list_of here.opened) (is_apart here.opened number) here.blocks) _ (within_loosened here.kept (length here.pieces) (list_of here.opened) (is_apart here.opened number) here.blocks h.lasts) (inl (omega arith), tt);
    tied = λ o. ((h.tied o).0, end_some (loosened (list_of here.opened) (is_apart here.opened number) here.blocks) _, (h.tied o).2);
  },
  end_some (loosened (list_of here.opened) (is_apart here.opened number) here.blocks) _,
)
  where
    lists : list_of there.opened ≡ option_map (beyond f.blocks) (list_of here.opened)
    lists = list_on f there.opened here.opened h.opened

    depth : length (had_marked there.opened) ≡ length (had_marked here.opened)
    depth = pairs_length (OpenedOn f) (had_marked there.opened) (had_marked here.opened) (had_on f there.opened here.opened h.opened)

    count : length there.pieces ≡ past f.pieces (length here.pieces)
    count = past_length f.pieces (PieceOn t q) there.pieces here.pieces h.pieces

    made : ℕ → Sort → ℕ → Option ℕ → Shape
    made d s k l = record { depth = d; sort = s; first = k; last = k; loose = false; list = l; boxed = false }

    shape : made (length (had_marked there.opened)) (sort_of q x) (length there.pieces) (option_map (beyond f.blocks) (list_of here.opened)) ≡ made (length (had_marked here.opened)) (sort_of t y) (past f.pieces (length here.pieces)) (option_map (beyond f.blocks) (list_of here.opened))
    shape = rw (depth, e, count) refl

pub opened_with_on : (t q : List ℕ) (f : Earlier) (n : ℕ) (c : Container) (x y : BlockKind) (start far m : ℕ) (l : Line) (there here : State) → sort_of q x ≡ sort_of t y → m + f.lines ≡ l.number → l.number + 1 < 2 ^ 64 - 1 → Onward t q f n there here
    → Onward t q f n (opened_with c x start (numbered m l) there) (opened_with c y far l here)
unfolding opened_with
opened_with_on t q f n c x y start far m l there here e later small h = by (is_quote c)
  where
    u' : State
    u' = begun x start m there

    u : State
    u = begun y far l.number here

    both : Onward t q f n u' u × (0 < length u.blocks)
    both = begun_on t q f n x y start far m l.number there here e later small h

    b : Onward t q f n u' u
    b = both.0

    new' : Opened
    new' = record { container = c; block = length u'.blocks - 1; end = l.end; line = m; had = false }

    new : Opened
    new = record { container = c; block = length u.blocks - 1; end = l.end; line = l.number; had = false }

    opens : Pairs (OpenedOn f) (u'.opened ++ new' ∷ []) (u.opened ++ new ∷ [])
    opens = pairs_end (OpenedOn f) new' new (record { container = refl; block = beyond_place f.blocks (BlockOn t q f n) u'.blocks u.blocks b.blocks (both.1); line = inl later; had = refl }) u'.opened u.opened b.opened

    made : (quotes' quotes : List ℕ) → quotes' ≡ quotes → Onward t q f n (record u' { opened = u'.opened ++ new' ∷ []; quotes = quotes' }) (record u { opened = u.opened ++ new ∷ []; quotes = quotes })
    made quotes' quotes g = record { opened = opens; inner = inner_end f.blocks new (beyond_later f.blocks (BlockOn t q f n) u'.blocks u.blocks b.blocks) u.opened b.inner; blocks = b.blocks; pieces = b.pieces; definitions = b.definitions; quotes = g; leaf = b.leaf; core = b.core; few = b.few; room = b.room; lasts = b.lasts; tied = b.tied }

    place : length (u'.opened ++ new' ∷ []) ≡ length (u.opened ++ new ∷ [])
    place = pairs_length (OpenedOn f) (u'.opened ++ new' ∷ []) (u.opened ++ new ∷ []) opens

    by : (k : Bool)
        → Onward t q f n (if k then record (record u' { opened = u'.opened ++ new' ∷ [] }) { quotes = u'.quotes ++ (length (u'.opened ++ new' ∷ []) - 1) ∷ [] } else record u' { opened = u'.opened ++ new' ∷ [] })
        (if k then record (record u { opened = u.opened ++ new ∷ [] }) { quotes = u.quotes ++ (length (u.opened ++ new ∷ []) - 1) ∷ [] } else record u { opened = u.opened ++ new ∷ [] })
    by true = made (u'.quotes ++ (length (u'.opened ++ new' ∷ []) - 1) ∷ []) (u.quotes ++ (length (u.opened ++ new ∷ []) - 1) ∷ []) (ap (λ (qs : List ℕ). qs ++ (length (u'.opened ++ new' ∷ []) - 1) ∷ []) b.quotes ∙ ap (λ k. u.quotes ++ (k - 1) ∷ []) place)
    by false = made u'.quotes u.quotes b.quotes

pub leaf_opened_on : (t q : List ℕ) (f : Earlier) (n : ℕ) (k : Leaf) (x y : BlockKind) (start far m : ℕ) (l : Line) (there here : State) → is_core k ≡ true → sort_of q x ≡ sort_of t y → m + f.lines ≡ l.number → l.number + 1 < 2 ^ 64 - 1 → Onward t q f n there here
    → Firm t q f n (leaf_opened k x start (numbered m l) there) (leaf_opened k y far l here)
unfolding leaf_opened
leaf_opened_on t q f n k x y start far m l there here core e later small h = record {
  onward = record {
    opened = b.opened;
    inner = b.inner;
    blocks = b.blocks;
    pieces = b.pieces;
    definitions = b.definitions;
    quotes = b.quotes;
    leaf = refl;
    core = core;
    few = b.few;
    room = b.room;
    lasts = within_more _ _ _ _ (begun y far l.number (list_left here)).blocks (λ i a e. (e, e)) b.lasts;
    tied = λ o. (later, both.1, count);
  };
  line = later;
  some = both.1;
  kept = count;
}
  where
    both : Onward t q f n (begun x start m (list_left there)) (begun y far l.number (list_left here)) × (0 < length (begun y far l.number (list_left here)).blocks)
    both = begun_on t q f n x y start far m l.number (list_left there) (list_left here) e later small (list_left_on t q f n there here h)

    b : Onward t q f n (begun x start m (list_left there)) (begun y far l.number (list_left here))
    b = both.0

    count : length (begun x start m (list_left there)).pieces ≡ past f.pieces (length (begun y far l.number (list_left here)).pieces)
    count = past_length f.pieces (PieceOn t q) _ _ b.pieces

pushed_on : (t q : List ℕ) (f : Earlier) (n : ℕ) (p : Piece) (there here : State) → PieceOn t q p p → length f.pieces + suc n + 1 < 2 ^ 64 - 1 → Firm t q f n there here → Firm t q f (suc n) (piece_pushed p there) (piece_pushed p here)
pushed_on t q f n p there here s room g = by (nat_lt 0 p.spaces || nat_lt p.start p.next)
  where
    h : Onward t q f (suc n) there here
    h = onward_more t q f n (suc n) there here (omega arith) room g.onward

    by : (k : Bool) → Firm t q f (suc n) (if k then record there { pieces = there.pieces ++ p ∷ [] } else there) (if k then record here { pieces = here.pieces ++ p ∷ [] } else here)
    by true = record {
      onward = record { opened = h.opened; inner = h.inner; blocks = h.blocks; pieces = past_end f.pieces (PieceOn t q) p p s there.pieces here.pieces h.pieces; definitions = h.definitions; quotes = h.quotes; leaf = h.leaf; core = h.core; few = omega (arith, g.onward.few, length-append here.pieces (p ∷ [])); room = room; lasts = within_more here.kept (length here.pieces) here.kept (length (here.pieces ++ p ∷ [])) here.blocks (λ i a e. (a, omega (arith, e, length-append here.pieces (p ∷ [])))) h.lasts; tied = h.tied };
      line = g.line;
      some = g.some;
      kept = g.kept;
    }
    by false = record { onward = h; line = g.line; some = g.some; kept = g.kept }

pub piece_taken_on : (t q : List ℕ) (f : Earlier) (n m : ℕ) (p : Piece) (l : Line) (keeps : Bool) (there here : State) → PieceOn t q p p → m + f.lines ≡ l.number → length f.pieces + suc n + 1 < 2 ^ 64 - 1 → Firm t q f n there here
    → Firm t q f (suc n) (piece_taken p (numbered m l) keeps there) (piece_taken p l keeps here)
unfolding piece_taken
piece_taken_on t q f n m p l keeps there here s later room g = by keeps (piece_pushed p there) (piece_pushed p here) (pushed_on t q f n p there here s room g)
  where
    by : (k : Bool) (u' u : State) → Firm t q f (suc n) u' u → Firm t q f (suc n) (if k then record u' { kept = length u'.pieces; end = l.end; line = m } else u') (if k then record u { kept = length u.pieces; end = l.end; line = l.number } else u)
    by true u' u g = record {
      onward = record { opened = g.onward.opened; inner = g.onward.inner; blocks = g.onward.blocks; pieces = g.onward.pieces; definitions = g.onward.definitions; quotes = g.onward.quotes; leaf = g.onward.leaf; core = g.onward.core; few = g.onward.few; room = g.onward.room; lasts = within_more u.kept (length u.pieces) (length u.pieces) (length u.pieces) u.blocks (λ i a e. (e, e)) g.onward.lasts; tied = λ o. (later, g.some, count) };
      line = later;
      some = g.some;
      kept = count;
    }
      where
        count : length u'.pieces ≡ past f.pieces (length u.pieces)
        count = past_length f.pieces (PieceOn t q) u'.pieces u.pieces g.onward.pieces
    by false u' u g = g

lt_past : (ps : List Piece) (i j : ℕ) → nat_lt (past ps i) (past ps j) ≡ nat_lt i j
lt_past [] i j = refl
lt_past (p ∷ ps) i j = (let z : nat_lt (suc (past ps i)) (suc (past ps j)) ≡ nat_lt (past ps i) (past ps j) = grind (arith, nat_tests) in z) ∙ lt_past ps i j

pub le_past : (ps : List Piece) (i j : ℕ) → nat_le (past ps i) (past ps j) ≡ nat_le i j
le_past [] i j = refl
le_past (p ∷ ps) i j = (let z : nat_le (suc (past ps i)) (suc (past ps j)) ≡ nat_le (past ps i) (past ps j) = grind (arith, nat_tests) in z) ∙ le_past ps i j

pub has_text_on : (t q : List ℕ) (f : Earlier) (n : ℕ) (there here : State) → Firm t q f n there here → has_text there ≡ has_text here
unfolding has_text
has_text_on t q f n there here g = rw (place, past_length f.pieces (PieceOn t q) there.pieces here.pieces g.onward.pieces) (by (slice_get there.blocks (beyond f.blocks (length here.blocks - 1))) (slice_get here.blocks (length here.blocks - 1)) (beyond_got f.blocks (BlockOn t q f n) there.blocks here.blocks g.onward.blocks))
  where
    place : length there.blocks - 1 ≡ beyond f.blocks (length here.blocks - 1)
    place = beyond_place f.blocks (BlockOn t q f n) there.blocks here.blocks g.onward.blocks g.some

    by : (o p : Option Block) → PairOf (BlockOn t q f n) o p → option_map_or (λ (b : Block). nat_lt b.first (past f.pieces (length here.pieces))) o false ≡ option_map_or (λ (b : Block). nat_lt b.first (length here.pieces)) p false
    by None None u = refl
    by None (Some y) u = absurd u
    by (Some x) None u = absurd u
    by (Some x) (Some y) u = ap (λ (s : Shape). nat_lt s.first (past f.pieces (length here.pieces))) u.shape ∙ lt_past f.pieces y.first (length here.pieces)
