-- Blocks that are in containers alone, and the containers that are open.
use Rattle.std.proofs.Common.{◌≡◌, ℕ, zero, suc, ◌-◌, ◌<◌, ◌≤◌, Bool, true, false, if◌then◌else◌, List, [], ◌∷◌, ◌++◌, length, map, take, drop, refl, ap, sym, ◌∙◌, subst, arith, true≢false}
use Rattle.std.specs.Prelude.{slice_get, slice_set, Option, Some, None, is_some}
use Rattle.std.specs.Option.{option_map, option_map_or}
use Rattle.std.specs.List.{AllByRecursion}
use Rattle.std.proofs.lemmas.List.{length-map, map-append, take-map}
use Rattle.std.proofs.lemmas.Option.{slice_get-map, slice_get_within}
use Rattle.tocmark_read_lines.specs.declared.container.Container.{Container}
use Rattle.tocmark_read_lines.specs.declared.container.Container.TheVariants as container
use Rattle.tocmark_read_lines.specs.declared.container.Opened.{Opened}
use Rattle.tocmark_read_lines.specs.declared.line.Line.{Line}
use Rattle.tocmark_read_page.specs.Definitions.{definitions_from}
use Rattle.tocmark_read_page.specs.Leaves.{is_paragraph}
use Rattle.tocmark_read_page.specs.Pages.{State, is_list as page_list, ended, finished, raised_last, leaf_finished, table_finished, shortened, defined_as, settled_as, settled, leaf_closed_as, leaf_closed, is_quote, is_definitions, quote_left, one_closed, times, closed_to, list_of, is_loose, left_noted, list_left, is_apart, loosened, had_marked, begun, opened_with, leaf_opened, of_kind}
use Rattle.tocmark_read_page.specs.declared.leaf.Leaf.{Leaf}
use Rattle.tocmark_read_page.specs.declared.leaf.Leaf.TheVariants as leaf
use Rattle.tocmark_read_page.specs.declared.page.Block.{Block}
use Rattle.tocmark_read_page.specs.declared.page.BlockKind.{BlockKind}
use Rattle.tocmark_read_page.specs.declared.page.BlockKind.TheVariants as kind
use Rattle.tocmark_text_laws.specs.Housed.{is_list, is_item, is_container, is_known, is_in_list, IsHoused, AreHoused}
use Rattle.tocmark_text_laws.proofs.Alls.{got_last, set_last, same_numbers}
use Rattle.tocmark_text_laws.proofs.Nesting.{had_length}
use Rattle.tocmark_text_laws.proofs.Sorted.{containers, raised_containers, had_containers}

-- what matters of a block
pub record Shape : Type 0 where
  pub depth : ℕ
  pub kind : BlockKind

abbrev pub shape : Block → Shape
shape b = record { depth = b.depth; kind = b.kind }

abbrev pub shapes : List Block → List Shape
shapes bs = map shape bs

-- the last block at each depth
abbrev pub spine : List BlockKind → List Shape → List BlockKind
spine ks [] = ks
spine ks (x ∷ xs) = spine (take x.depth ks ++ x.kind ∷ []) xs

abbrev pub Houses : List BlockKind → List Shape → Type 0
Houses ks [] = Unit
Houses ks (x ∷ xs) = IsHoused ks x.depth x.kind × Houses (take x.depth ks ++ x.kind ∷ []) xs

pub houses_plain : (ks : List BlockKind) (bs : List Block) → Houses ks (shapes bs) → AreHoused ks bs
houses_plain ks [] h = tt
houses_plain ks (b ∷ bs) h = (h.0, houses_plain (take b.depth ks ++ b.kind ∷ []) bs (h.1))

houses_more : (ks : List BlockKind) (xs : List Shape) (x : Shape) → IsHoused (spine ks xs) x.depth x.kind → Houses ks xs → Houses ks (xs ++ x ∷ [])
houses_more ks [] x i h = (i, tt)
houses_more ks (y ∷ ys) x i h = (h.0, houses_more (take y.depth ks ++ y.kind ∷ []) ys x i (h.1))

spine_more : (ks : List BlockKind) (xs : List Shape) (x : Shape) → spine ks (xs ++ x ∷ []) ≡ take x.depth (spine ks xs) ++ x.kind ∷ []
spine_more ks [] x = refl
spine_more ks (y ∷ ys) x = spine_more (take y.depth ks ++ y.kind ∷ []) ys x

-- a container and the block that it is
abbrev pub fits : Container → BlockKind → Bool
fits container.Quote (kind.Quote k) = true
fits (container.List sort) k = is_list k
fits (container.Item width) k = is_item k
fits c k = false

abbrev Fits : List Container → List BlockKind → Type 0
Fits [] ks = Unit
Fits (c ∷ cs) [] = ⊥
Fits (c ∷ cs) (k ∷ ks) = (fits c k ≡ true) × Fits cs ks

-- a list that is open, and an item
abbrev pub lists : Container → Bool
lists (container.List sort) = true
lists c = false

abbrev pub is_entry : Container → Bool
is_entry (container.Item width) = true
is_entry c = false

abbrev pub in_list : Bool → List Container → Bool
in_list w [] = w
in_list w (c ∷ cs) = in_list (lists c) cs

-- items are in lists, and nothing else is
abbrev pub Chain : Bool → List Container → Type 0
Chain w [] = Unit
Chain w (c ∷ cs) = (is_entry c ≡ w) × Chain (lists c) cs

chain_more : (w : Bool) (cs : List Container) (c : Container) → is_entry c ≡ in_list w cs → Chain w cs → Chain w (cs ++ c ∷ [])
chain_more w [] c e h = (e, tt)
chain_more w (d ∷ ds) c e h = (h.0, chain_more (lists d) ds c e (h.1))

chain_take : (w : Bool) (n : ℕ) (cs : List Container) → Chain w cs → Chain w (take n cs)
chain_take w zero cs h = tt
chain_take w (suc n) [] h = tt
chain_take w (suc n) (c ∷ cs) h = (h.0, chain_take (lists c) n cs (h.1))

-- what is before the last container
chain_last : (w : Bool) (n : ℕ) (cs : List Container) (c : Container) → length cs ≡ suc n → slice_get cs n ≡ Some c → Chain w cs → is_entry c ≡ in_list w (take n cs)
chain_last w n [] c l e h = absurd (omega arith)
chain_last w zero (d ∷ ds) c l e h = let q : d ≡ c = cc in ap is_entry (sym q) ∙ h.0
chain_last w (suc n) (d ∷ ds) c l e h = chain_last (lists d) n ds c (let q : suc (length ds) ≡ suc (suc n) = l in omega arith) e (h.1)

-- the last container
last_in : (w : Bool) (cs : List Container) → in_list w cs ≡ option_map_or lists (slice_get cs (length cs - 1)) w
last_in w [] = refl
last_in w (c ∷ []) = refl
last_in w (c ∷ d ∷ ds) = last_in (lists c) (d ∷ ds) ∙ again (d ∷ ds) (omega arith)
  where
    again : (es : List Container) → 0 < length es → option_map_or lists (slice_get es (length es - 1)) (lists c) ≡ option_map_or lists (slice_get (c ∷ es) (length (c ∷ es) - 1)) w
    again [] l = absurd (omega arith)
    again (x ∷ xs) l = found (x ∷ xs) (length (x ∷ xs) - 1) (omega arith) ∙ (let q : suc (length (x ∷ xs) - 1) ≡ length (c ∷ x ∷ xs) - 1 = omega arith in ap (λ n. option_map_or lists (slice_get (c ∷ x ∷ xs) n) w) q)
      where
        found : (ys : List Container) (i : ℕ) → i < length ys → option_map_or lists (slice_get ys i) (lists c) ≡ option_map_or lists (slice_get (c ∷ ys) (suc i)) w
        found [] i m = absurd (omega arith)
        found (y ∷ ys) zero m = refl
        found (y ∷ ys) (suc i) m = found ys i (omega arith)

fits_kept : (cs : List Container) (ks zs : List BlockKind) → Fits cs ks → Fits cs (take (length cs) ks ++ zs)
fits_kept [] ks zs h = tt
fits_kept (c ∷ cs) [] zs h = absurd h
fits_kept (c ∷ cs) (k ∷ ks) zs h = (h.0, fits_kept cs ks zs (h.1))

fits_more : (cs : List Container) (ks : List BlockKind) (c : Container) (k : BlockKind) → fits c k ≡ true → Fits cs ks → Fits (cs ++ c ∷ []) (take (length cs) ks ++ k ∷ [])
fits_more [] ks c k e h = (e, tt)
fits_more (d ∷ ds) [] c k e h = absurd h
fits_more (d ∷ ds) (j ∷ js) c k e h = (h.0, fits_more ds js c k e (h.1))

fits_take : (n : ℕ) (cs : List Container) (ks : List BlockKind) → Fits cs ks → Fits (take n cs) ks
fits_take zero cs ks h = tt
fits_take (suc n) [] ks h = tt
fits_take (suc n) (c ∷ cs) [] h = absurd h
fits_take (suc n) (c ∷ cs) (k ∷ ks) h = (h.0, fits_take n cs ks (h.1))

fits_short : (cs : List Container) (ks : List BlockKind) → Fits cs ks → length cs ≤ length ks
fits_short [] ks h = omega arith
fits_short (c ∷ cs) [] h = absurd h
fits_short (c ∷ cs) (k ∷ ks) h = let l : length cs ≤ length ks = fits_short cs ks (h.1) in omega arith

holds : (c : Container) (k : BlockKind) → fits c k ≡ true → (is_container k ≡ true) × (lists c ≡ is_list k)
holds container.Quote (kind.Quote k) e = (refl, refl)
holds (container.List sort) (kind.List first) e = (refl, refl)
holds (container.Item width) kind.Item e = (refl, refl)
holds c k e = absurd cc

fits_held : (cs : List Container) (ks : List BlockKind) → Fits cs ks → AllByRecursion (λ k. is_container k ≡ true) (take (length cs) ks)
fits_held [] ks h = tt
fits_held (c ∷ cs) [] h = absurd h
fits_held (c ∷ cs) (k ∷ ks) h = ((holds c k (h.0)).0, fits_held cs ks (h.1))

fits_last : (w : Bool) (cs : List Container) (ks : List BlockKind) → Fits cs ks → in_list w cs ≡ is_in_list w (take (length cs) ks)
fits_last w [] ks h = refl
fits_last w (c ∷ cs) [] h = absurd h
fits_last w (c ∷ cs) (k ∷ ks) h = fits_last (lists c) cs ks (h.1) ∙ ap (λ b. is_in_list b (take (length cs) ks)) ((holds c k (h.0)).1)

-- blocks among which these containers are open
pub record House (xs : List Shape) (cs : List Container) : Type 0 where
  pub chain : Chain false cs
  pub fit : Fits cs (spine [] xs)
  pub housed : Houses [] xs

-- a block begins in the innermost container
is_housed : (xs : List Shape) (cs : List Container) (k : BlockKind) → is_known k ≡ true → is_item k ≡ in_list false cs → House xs cs → IsHoused (spine [] xs) (length cs) k
is_housed xs cs k c e h = record { known = c; deep = fits_short cs (spine [] xs) h.fit; held = fits_held cs (spine [] xs) h.fit; listed = e ∙ fits_last false cs (spine [] xs) h.fit }

house_push : (xs : List Shape) (cs : List Container) (k : BlockKind) → is_known k ≡ true → is_item k ≡ in_list false cs → House xs cs → House (xs ++ record { depth = length cs; kind = k } ∷ []) cs
house_push xs cs k c e h = record {
  chain = h.chain;
  fit = subst (Fits cs) (sym (spine_more [] xs (record { depth = length cs; kind = k }))) (fits_kept cs (spine [] xs) (k ∷ []) h.fit);
  housed = houses_more [] xs (record { depth = length cs; kind = k }) (is_housed xs cs k c e h) h.housed;
}

house_open : (xs : List Shape) (cs : List Container) (c : Container) (k : BlockKind) → is_known k ≡ true → is_item k ≡ in_list false cs → fits c k ≡ true → is_entry c ≡ is_item k → House xs cs → House (xs ++ record { depth = length cs; kind = k } ∷ []) (cs ++ c ∷ [])
house_open xs cs c k n e f i h = record {
  chain = chain_more false cs c (i ∙ e) h.chain;
  fit = subst (Fits (cs ++ c ∷ [])) (sym (spine_more [] xs (record { depth = length cs; kind = k }))) (fits_more cs (spine [] xs) c k f h.fit);
  housed = houses_more [] xs (record { depth = length cs; kind = k }) (is_housed xs cs k n e h) h.housed;
}

house_take : (n : ℕ) (xs : List Shape) (cs : List Container) → House xs cs → House xs (take n cs)
house_take n xs cs h = record { chain = chain_take false n cs h.chain; fit = fits_take n cs (spine [] xs) h.fit; housed = h.housed }

-- the last block is a leaf in the innermost container, which is no list
pub record Last (xs : List Shape) (cs : List Container) : Type 0 where
  pub front : List Shape
  pub kind : BlockKind
  pub split : xs ≡ front ++ record { depth = length cs; kind = kind } ∷ []
  pub none : in_list false cs ≡ false
  pub house : House front cs

-- a page whose blocks are so
abbrev pub Housed : State → Type 0
Housed s = House (shapes s.blocks) (containers s.opened)

pub record Home (s : State) : Type 0 where
  pub house : Housed s
  pub words : is_paragraph s.leaf ≡ true → Last (shapes s.blocks) (containers s.opened)

pub home_shut : (s : State) → s.leaf ≡ leaf.Nothing → Housed s → Home s
unfolding is_paragraph
home_shut s e h = record { house = h; words = λ w. absurd (true≢false (sym w ∙ ap is_paragraph e)) }

-- another page with the same blocks and containers
pub same_house : (s u : State) → shapes u.blocks ≡ shapes s.blocks → containers u.opened ≡ containers s.opened → Housed s → Housed u
same_house s u p q h = subst (λ xs. House xs (containers u.opened)) (sym p) (subst (House (shapes s.blocks)) (sym q) h)

pub same_home : (s u : State) → shapes u.blocks ≡ shapes s.blocks → containers u.opened ≡ containers s.opened → is_paragraph u.leaf ≡ is_paragraph s.leaf → Home s → Home u
same_home s u p q r h = record {
  house = same_house s u p q h.house;
  words = λ w. subst (λ xs. Last xs (containers u.opened)) (sym p) (subst (Last (shapes s.blocks)) (sym q) (h.words (sym r ∙ w)));
}

pub finish_house : (s : State) → Housed s → Housed (leaf_finished s)
unfolding leaf_finished finished
finish_house s h = same_house s (leaf_finished s) (same_numbers shape s.blocks (length s.blocks - 1) (λ (b : Block). record b { end = s.end; last = length (take s.kept s.pieces) }) (λ b. refl)) (raised_containers s.opened (length s.opened - 1) s.end s.line) h

pub settled_same : (t : List ℕ) (s : State) → (shapes (settled t s).blocks ≡ shapes s.blocks) × ((settled t s).opened ≡ s.opened)
unfolding settled shortened
settled_same t s = by (slice_get s.blocks (length s.blocks - 1)) refl
  where
    boxed : (b : Block) → slice_get s.blocks (length s.blocks - 1) ≡ Some b → (k : Bool) → (shapes (if k then s else defined_as t s b).blocks ≡ shapes s.blocks) × ((if k then s else defined_as t s b).opened ≡ s.opened)
    boxed b e true = (refl, refl)
    boxed b e false = (set s.blocks (length s.blocks - 1) e, refl)
      where
        count : ℕ
        count = (definitions_from t (drop b.first s.pieces) s.definitions).1

        set : (bs : List Block) (i : ℕ) → slice_get bs i ≡ Some b → shapes (slice_set bs i (shortened b s.pieces count)) ≡ shapes bs
        set [] i q = refl
        set (x ∷ xs) zero q = let w : x ≡ b = cc in ap (λ y. y ∷ shapes xs) (sym (ap shape w))
        set (x ∷ xs) (suc i) q = ap (λ ys. shape x ∷ ys) (set xs i q)

    by : (o : Option Block) → slice_get s.blocks (length s.blocks - 1) ≡ o → (shapes (option_map_or (settled_as t s) o s).blocks ≡ shapes s.blocks) × ((option_map_or (settled_as t s) o s).opened ≡ s.opened)
    by None e = (refl, refl)
    by (Some b) e = boxed b e (is_some b.task)

leaf_closed_house : (t : List ℕ) (s : State) → Housed s → Housed (leaf_closed t s)
unfolding leaf_closed table_finished ended
leaf_closed_house t s h = by s.leaf
  where
    words : Housed (leaf_finished (settled t s))
    words = finish_house (settled t s) (same_house s (settled t s) ((settled_same t s).0) (ap containers ((settled_same t s).1)) h)

    by : (k : Leaf) → Housed (leaf_closed_as k t s)
    by leaf.Nothing = h
    by leaf.Paragraph = words
    by leaf.Indented = finish_house s h
    by (leaf.Fenced x) = finish_house s h
    by (leaf.Html k) = finish_house s h
    by (leaf.Metadata k) = finish_house s h
    by (leaf.Table x) = same_house s (table_finished x s) (same_numbers shape s.blocks x.block (λ (b : Block). record b { end = s.end }) (λ b. refl)) (raised_containers s.opened (length s.opened - 1) s.end s.line) h

-- the innermost container ends
pub one_containers : (s : State) → (shapes (one_closed s).blocks ≡ shapes s.blocks) × (containers (one_closed s).opened ≡ (if is_some (slice_get s.opened (length s.opened - 1)) then take (length s.opened - 1) (containers s.opened) else containers s.opened))
unfolding one_closed ended
one_containers s = by (slice_get s.opened (length s.opened - 1))
  where
    rest : List Opened
    rest = take (length s.opened - 1) s.opened

    quoted : (u : State) (k : Bool) → (shapes (if k then record u { quotes = take (length u.quotes - 1) u.quotes } else u).blocks ≡ shapes u.blocks) × (containers (if k then record u { quotes = take (length u.quotes - 1) u.quotes } else u).opened ≡ containers u.opened)
    quoted u true = (refl, refl)
    quoted u false = (refl, refl)

    closes : Opened → State
    closes o = raised_last o.end o.line (record s { opened = rest; blocks = option_map_or (λ (b : Block). slice_set s.blocks o.block (record b { end = o.end })) (slice_get s.blocks o.block) s.blocks })

    by : (x : Option Opened) → (shapes (option_map_or (λ (o : Opened). quote_left o.container (closes o)) x s).blocks ≡ shapes s.blocks) × (containers (option_map_or (λ (o : Opened). quote_left o.container (closes o)) x s).opened ≡ (if is_some x then take (length s.opened - 1) (containers s.opened) else containers s.opened))
    by None = (refl, refl)
    by (Some o) = (
      (quoted (closes o) (is_quote o.container)).0 ∙ same_numbers shape s.blocks o.block (λ (b : Block). record b { end = o.end }) (λ b. refl),
      (quoted (closes o) (is_quote o.container)).1 ∙ raised_containers rest (length rest - 1) o.end o.line ∙ sym (take-map (λ (x : Opened). x.container) (length s.opened - 1) s.opened),
    )

one_house : (s : State) → Housed s → Housed (one_closed s)
one_house s h = subst (λ xs. House xs (containers (one_closed s).opened)) (sym ((one_containers s).0)) (subst (House (shapes s.blocks)) (sym ((one_containers s).1)) (by (is_some (slice_get s.opened (length s.opened - 1)))))
  where
    by : (b : Bool) → House (shapes s.blocks) (if b then take (length s.opened - 1) (containers s.opened) else containers s.opened)
    by true = house_take (length s.opened - 1) (shapes s.blocks) (containers s.opened) h
    by false = h

times_house : (k : ℕ) (s : State) → Housed s → Housed (times one_closed k s)
unfolding times
times_house zero s h = h
times_house (suc k) s h = times_house k (one_closed s) (one_house s h)

pub closed_to_house : (t : List ℕ) (depth : ℕ) (s : State) → Housed s → Housed (closed_to t depth s)
unfolding closed_to
closed_to_house t depth s h = times_house (length (leaf_closed t s).opened - depth) (leaf_closed t s) (leaf_closed_house t s h)

fits_got : (cs : List Container) (ks : List BlockKind) (i : ℕ) (c : Container) → Fits cs ks → slice_get cs i ≡ Some c → page_list c ≡ lists c
unfolding page_list
fits_got [] ks i c h e = absurd cc
fits_got (d ∷ ds) [] i c h e = absurd h
fits_got (d ∷ ds) (k ∷ ks) zero c h e = let q : d ≡ c = cc in subst (λ x. page_list x ≡ lists x) q (by d (h.0))
  where
    by : (x : Container) → fits x k ≡ true → page_list x ≡ lists x
    by container.Quote f = refl
    by (container.List sort) f = refl
    by (container.Item width) f = refl
    by container.Footnote f = absurd cc
    by container.Definitions f = absurd cc
    by (container.Definition width) f = absurd cc
fits_got (d ∷ ds) (k ∷ ks) (suc i) c h e = fits_got ds ks i c (h.1) e

no_entry : (c : Container) → lists c ≡ true → is_entry c ≡ false
no_entry (container.List sort) e = refl
no_entry c e = absurd cc

-- whether the innermost container is a list
pub innermost_in : (os : List Opened) (x : Option Opened) → slice_get os (length os - 1) ≡ x → in_list false (containers os) ≡ option_map_or lists (option_map (λ (o : Opened). o.container) x) false
innermost_in os x e = last_in false (containers os) ∙ (let q : length (containers os) - 1 ≡ length os - 1 = ap (λ n. n - 1) (length-map os (λ (o : Opened). o.container)) in ap (λ i. option_map_or lists (slice_get (containers os) i) false) q) ∙ ap (λ y. option_map_or lists y false) (slice_get-map (λ (o : Opened). o.container) os (length os - 1) ∙ ap (λ y. option_map (λ (o : Opened). o.container) y) e)

-- after a list is left, the innermost container is none
pub list_left_house : (s : State) → Housed s → Housed (list_left s) × (in_list false (containers (list_left s).opened) ≡ false)
unfolding list_left left_noted
list_left_house s h = by (slice_get s.opened n) refl
  where
    n : ℕ
    n = length s.opened - 1

    cs : List Container
    cs = containers s.opened

    size : length cs ≡ length s.opened
    size = length-map s.opened (λ (o : Opened). o.container)

    got : (x : Option Opened) → slice_get s.opened n ≡ x → slice_get cs n ≡ option_map (λ (o : Opened). o.container) x
    got x e = slice_get-map (λ (o : Opened). o.container) s.opened n ∙ ap (λ y. option_map (λ (o : Opened). o.container) y) e

    last : (x : Option Opened) → slice_get s.opened n ≡ x → in_list false cs ≡ option_map_or lists (option_map (λ (o : Opened). o.container) x) false
    last x e = innermost_in s.opened x e

    closed : (o : Opened) → slice_get s.opened n ≡ Some o → lists o.container ≡ true → in_list false (containers (one_closed s).opened) ≡ false
    closed o e k =
        let l : n < length s.opened = slice_get_within s.opened n o e in
        ap (in_list false) ((one_containers s).1 ∙ ap (λ (x : Option Opened). if is_some x then take n cs else cs) e)
        ∙ sym (chain_last false n cs o.container (omega (arith, size)) (got (Some o) e) h.chain)
        ∙ no_entry o.container k

    noted : (o : Opened) (u : State) (k : Bool) → Housed u → in_list false (containers u.opened) ≡ false
        → Housed (if k then record u { left = Some (record { list = o.block; behind = length u.blocks; loose = is_loose u.blocks (list_of u.opened) }) } else u)
        × (in_list false (containers (if k then record u { left = Some (record { list = o.block; behind = length u.blocks; loose = is_loose u.blocks (list_of u.opened) }) } else u).opened) ≡ false)
    noted o u true a b = (a, b)
    noted o u false a b = (a, b)

    inside : (o : Opened) → slice_get s.opened n ≡ Some o → (k : Bool) → page_list o.container ≡ k → Housed (if k then left_noted o (one_closed s) else s) × (in_list false (containers (if k then left_noted o (one_closed s) else s).opened) ≡ false)
    inside o e true k = noted o (one_closed s) (is_definitions o.container) (one_house s h) (closed o e (sym (fits_got cs (spine [] (shapes s.blocks)) n o.container h.fit (got (Some o) e)) ∙ k))
    inside o e false k = (h, last (Some o) e ∙ sym (fits_got cs (spine [] (shapes s.blocks)) n o.container h.fit (got (Some o) e)) ∙ k)

    by : (x : Option Opened) → slice_get s.opened n ≡ x → Housed (option_map_or (λ (o : Opened). if page_list o.container then left_noted o (one_closed s) else s) x s) × (in_list false (containers (option_map_or (λ (o : Opened). if page_list o.container then left_noted o (one_closed s) else s) x s).opened) ≡ false)
    by None e = (h, last None e)
    by (Some o) e = inside o e (page_list o.container) refl

-- a block begins
loosened_shapes : (list : Option ℕ) (apart : Bool) (bs : List Block) → shapes (loosened list apart bs) ≡ shapes bs
unfolding loosened
loosened_shapes list false bs = refl
loosened_shapes None true bs = refl
loosened_shapes (Some i) true bs = same_numbers shape bs i (λ (b : Block). record b { loose = true }) (λ b. refl)

begun_shapes : (k : BlockKind) (start number : ℕ) (s : State) → shapes (begun k start number s).blocks ≡ shapes s.blocks ++ record { depth = length (containers s.opened); kind = k } ∷ []
unfolding begun
begun_shapes k start number s =
    map-append shape (loosened (list_of s.opened) (is_apart s.opened number) s.blocks) (new ∷ [])
    ∙ ap (λ xs. xs ++ shape new ∷ []) (loosened_shapes (list_of s.opened) (is_apart s.opened number) s.blocks)
    ∙ ap (λ n. shapes s.blocks ++ record { depth = n; kind = k } ∷ []) (had_length s.opened ∙ sym (length-map s.opened (λ (o : Opened). o.container)))
  where
    new : Block
    new = record { depth = length (had_marked s.opened); kind = k; start = start; end = start; first = length s.pieces; last = length s.pieces; loose = false; list = list_of s.opened; task = None }

begun_containers : (k : BlockKind) (start number : ℕ) (s : State) → containers (begun k start number s).opened ≡ containers s.opened
unfolding begun
begun_containers k start number s = had_containers s.opened

pub opened_house : (c : Container) (k : BlockKind) (start : ℕ) (line : Line) (s : State) → is_known k ≡ true → is_item k ≡ in_list false (containers s.opened) → fits c k ≡ true → is_entry c ≡ is_item k → Housed s
    → Housed (opened_with c k start line s) × (in_list false (containers (opened_with c k start line s).opened) ≡ lists c)
unfolding opened_with
opened_house c k start line s n e f i h = by (is_quote c)
  where
    t : State
    t = begun k start line.number s

    new : Opened
    new = record { container = c; block = length t.blocks - 1; end = line.end; line = line.number; had = false }

    u : State
    u = record t { opened = t.opened ++ new ∷ [] }

    holds_now : containers u.opened ≡ containers s.opened ++ c ∷ []
    holds_now = map-append (λ (o : Opened). o.container) t.opened (new ∷ []) ∙ ap (λ cs. cs ++ c ∷ []) (begun_containers k start line.number s)

    whole : Housed u
    whole = subst (λ xs. House xs (containers u.opened)) (sym (begun_shapes k start line.number s)) (subst (House (shapes s.blocks ++ record { depth = length (containers s.opened); kind = k } ∷ [])) (sym holds_now) (house_open (shapes s.blocks) (containers s.opened) c k n e f i h))

    innermost_is : in_list false (containers u.opened) ≡ lists c
    innermost_is = ap (in_list false) holds_now ∙ ends_with false (containers s.opened)
      where
        ends_with : (w : Bool) (cs : List Container) → in_list w (cs ++ c ∷ []) ≡ lists c
        ends_with w [] = refl
        ends_with w (d ∷ ds) = ends_with (lists d) ds

    by : (b : Bool) → Housed (if b then record u { quotes = u.quotes ++ (length u.opened - 1) ∷ [] } else u) × (in_list false (containers (if b then record u { quotes = u.quotes ++ (length u.opened - 1) ∷ [] } else u).opened) ≡ lists c)
    by true = (whole, innermost_is)
    by false = (whole, innermost_is)

-- a leaf begins
pub leaf_opened_home : (l : Leaf) (k : BlockKind) (start : ℕ) (line : Line) (s : State) → is_known k ≡ true → is_item k ≡ false → Housed s → Home (leaf_opened l k start line s)
unfolding leaf_opened
leaf_opened_home l k start line s n i h = record {
  house = whole;
  words = λ w. record { front = shapes u.blocks; kind = k; split = begun_shapes k start line.number u ∙ ap (λ cs. shapes u.blocks ++ record { depth = length cs; kind = k } ∷ []) (sym same); none = ap (in_list false) same ∙ (g.1); house = subst (House (shapes u.blocks)) (sym same) (g.0) };
}
  where
    u : State
    u = list_left s

    g : Housed u × (in_list false (containers u.opened) ≡ false)
    g = list_left_house s h

    t : State
    t = begun k start line.number u

    same : containers t.opened ≡ containers u.opened
    same = begun_containers k start line.number u

    whole : Housed t
    whole = subst (λ xs. House xs (containers t.opened)) (sym (begun_shapes k start line.number u)) (subst (House (shapes u.blocks ++ record { depth = length (containers u.opened); kind = k } ∷ [])) (sym same) (house_push (shapes u.blocks) (containers u.opened) k n (i ∙ sym (g.1)) (g.0)))

-- the open paragraph is a heading
pub kind_house : (k : BlockKind) (s : State) → is_known k ≡ true → is_item k ≡ false → Last (shapes s.blocks) (containers s.opened) → House (shapes (of_kind k s.blocks)) (containers s.opened)
kind_house k s n i l = by (slice_get s.blocks (length s.blocks - 1)) refl
  where
    cs : List Container
    cs = containers s.opened

    old : Shape
    old = record { depth = length cs; kind = l.kind }

    new : Shape
    new = record { depth = length cs; kind = k }

    size : length s.blocks - 1 ≡ length (l.front ++ old ∷ []) - 1
    size = ap (λ n. n - 1) (sym (length-map s.blocks shape) ∙ ap length l.split)

    changed : (bs : List Block) (xs : List Shape) → shapes bs ≡ xs ++ old ∷ [] → (b : Block) → slice_get bs (length bs - 1) ≡ Some b → shapes (slice_set bs (length bs - 1) (record b { kind = k })) ≡ xs ++ new ∷ []
    changed bs xs e b g = map_set bs (length bs - 1) (record b { kind = k }) ∙ ap (λ ys. slice_set ys (length bs - 1) (shape (record b { kind = k }))) e ∙ (let q : length bs - 1 ≡ length (xs ++ old ∷ []) - 1 = ap (λ n. n - 1) (sym (length-map bs shape) ∙ ap length e) in ap (λ j. slice_set (xs ++ old ∷ []) j (shape (record b { kind = k }))) q) ∙ set_last xs old (shape (record b { kind = k })) ∙ ap (λ d. xs ++ record { depth = d; kind = k } ∷ []) depth
      where
        map_set : (ys : List Block) (j : ℕ) (y : Block) → shapes (slice_set ys j y) ≡ slice_set (shapes ys) j (shape y)
        map_set [] j y = refl
        map_set (z ∷ zs) zero y = refl
        map_set (z ∷ zs) (suc j) y = ap (λ us. shape z ∷ us) (map_set zs j y)

        depth : b.depth ≡ length cs
        depth = some_shape (shape b) old (sym (slice_get-map shape bs (length bs - 1) ∙ ap (λ o. option_map shape o) g) ∙ ap (λ ys. slice_get ys (length bs - 1)) e ∙ (let q : length bs - 1 ≡ length (xs ++ old ∷ []) - 1 = ap (λ n. n - 1) (sym (length-map bs shape) ∙ ap length e) in ap (slice_get (xs ++ old ∷ [])) q) ∙ got_last xs old)
          where
            some_shape : (x y : Shape) → Some x ≡ Some y → x.depth ≡ y.depth
            some_shape x y q = let w : x ≡ y = cc in ap (λ (z : Shape). z.depth) w

    by : (o : Option Block) → slice_get s.blocks (length s.blocks - 1) ≡ o → House (shapes (option_map_or (λ (b : Block). slice_set s.blocks (length s.blocks - 1) (record b { kind = k })) o s.blocks)) cs
    by None e = absurd (none (sym (slice_get-map shape s.blocks (length s.blocks - 1) ∙ ap (λ o. option_map shape o) e) ∙ ap (λ ys. slice_get ys (length s.blocks - 1)) l.split ∙ ap (slice_get (l.front ++ old ∷ [])) size ∙ got_last l.front old))
      where
        none : None ≡ Some old → ⊥
        none q = absurd cc
    by (Some b) e = subst (λ xs. House xs cs) (sym (changed s.blocks l.front l.split b e)) (house_push l.front cs k n (i ∙ sym l.none) l.house)
