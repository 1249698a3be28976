-- A line that isn't blank leaves a page on which all lists are tight.
use Rattle.std.proofs.Common.{◌≡◌, ℕ, zero, suc, ◌-◌, ◌≤◌, Bool, true, false, ◌&&◌, ◌||◌, if◌then◌else◌, nat_lt, nat_le, List, [], ◌∷◌, ◌++◌, length, take, refl, ap, sym, ◌∙◌, subst, arith}
use Rattle.std.specs.Prelude.{slice_get, slice_set, Option, Some, None}
use Rattle.std.specs.List.{AllByRecursion}
use Rattle.std.specs.Option.{option_map_or}
use Rattle.std.proofs.lemmas.Bool.Decides.{nat_tests}
use Rattle.tocmark_read_scan.specs.Basic.{plus}
use Rattle.tocmark_read_lines.specs.Containers.{raised, raised_at, touched_from}
use Rattle.tocmark_read_lines.specs.declared.container.Container.{Container}
use Rattle.tocmark_read_lines.specs.declared.container.Opened.{Opened}
use Rattle.tocmark_read_lines.specs.declared.line.Line.{Line}
use Rattle.tocmark_read_page.specs.Pages.{State, innermost, ended, finished, raised_last, leaf_finished, table_finished, shortened, defined_as, settled_as, settled, leaf_closed_as, leaf_closed, is_quote, is_list, is_definitions, quote_left, one_closed, times, closed_to, list_of, is_loose, left_noted, list_left, is_apart, loosened, had_marked, begun, opened_with, leaf_opened, piece_taken}
use Rattle.tocmark_read_page.specs.declared.leaf.Leaf.{Leaf}
use Rattle.tocmark_read_page.specs.declared.leaf.Leaf.TheVariants as leaf
use Rattle.tocmark_read_page.specs.declared.page.Block.{Block}
use Rattle.tocmark_read_page.specs.declared.page.BlockKind.{BlockKind}
use Rattle.tocmark_read_page.specs.declared.piece.Piece.{Piece}
use Rattle.tocmark_text_laws.proofs.Alls.{all_set, all_got, all_changed, all_both, got_last}
use Rattle.tocmark_text_laws.proofs.Pairs.{set_length}
use Rattle.tocmark_text_laws.proofs.Pages.{is_shut, settled_line}
use Rattle.tocmark_text_laws.proofs.Core.{settled_leaf}
use Rattle.tocmark_text_laws.proofs.Houses.{settled_same}

-- all lists are tight
abbrev pub IsTight : Block → Type 0
IsTight b = b.loose ≡ false

abbrev pub Tight : State → Type 0
Tight s = AllByRecursion IsTight s.blocks

-- the innermost container, if there is one, reaches this line or a later one
abbrev pub Lined : ℕ → Option Opened → Type 0
Lined k None = Unit
Lined k (Some o) = k ≤ o.line

abbrev pub Inner : ℕ → List Opened → Type 0
Inner k os = Lined k (innermost os)

-- a page on which no leaf is open, and one on which a leaf may be open
pub record Calm (k : ℕ) (s : State) : Type 0 where
  pub tight : Tight s
  pub inner : Inner k s.opened

pub record Along (k : ℕ) (s : State) : Type 0 where
  pub tight : Tight s
  pub words : is_shut s.leaf ≡ false → k ≤ s.line
  pub inner : is_shut s.leaf ≡ true → Inner k s.opened

pub calm_along : (k : ℕ) (s : State) → s.leaf ≡ leaf.Nothing → Calm k s → Along k s
unfolding is_shut
calm_along k s e h = record { tight = h.tight; words = λ o. let z : true ≡ false = sym (ap is_shut e) ∙ o in absurd cc; inner = λ o. h.inner }

pub words_along : (k : ℕ) (s : State) → Tight s → k ≤ s.line → is_shut s.leaf ≡ false → Along k s
words_along k s h low e = record { tight = h; words = λ o. low; inner = λ o. let z : true ≡ false = sym o ∙ e in absurd cc }

lined_less : (n k : ℕ) (o : Option Opened) → n ≤ k → Lined k o → Lined n o
lined_less n k None l h = tt
lined_less n k (Some o) l h = let z : k ≤ o.line = h in omega (arith, z, l)

pub calm_less : (n k : ℕ) (s : State) → n ≤ k → Calm k s → Calm n s
calm_less n k s l h = record { tight = h.tight; inner = lined_less n k (innermost s.opened) l h.inner }

pub along_less : (n k : ℕ) (s : State) → n ≤ k → Along k s → Along n s
along_less n k s l h = record { tight = h.tight; words = λ o. (let z : k ≤ s.line = h.words o in omega (arith, z, l)); inner = λ o. lined_less n k (innermost s.opened) l (h.inner o) }

-- containers change

set_line : (k : ℕ) (os : List Opened) (i : ℕ) (x y : Opened) → slice_get os i ≡ Some x → k ≤ y.line → Lined k (slice_get (slice_set os i y) i)
set_line k [] i x y e h = absurd cc
set_line k (z ∷ zs) zero x y e h = h
set_line k (z ∷ zs) (suc i) x y e h = set_line k zs i x y e h

-- the innermost one gets this line or a later one
inner_set : (k : ℕ) (os : List Opened) (f : Opened → Opened) → ((o : Opened) → slice_get os (length os - 1) ≡ Some o → k ≤ (f o).line) → Inner k (option_map_or (λ (o : Opened). slice_set os (length os - 1) (f o)) (slice_get os (length os - 1)) os)
inner_set k os f low = by (slice_get os (length os - 1)) refl
  where
    by : (o : Option Opened) → slice_get os (length os - 1) ≡ o → Inner k (option_map_or (λ (o : Opened). slice_set os (length os - 1) (f o)) o os)
    by None e = subst (Lined k) (sym e) tt
    by (Some o) e = subst (λ n. Lined k (slice_get (slice_set os (length os - 1) (f o)) (n - 1))) (sym (set_length os (length os - 1) (f o))) (set_line k os (length os - 1) o (f o) e (low o e))

raised_far : (k end line : ℕ) (o : Opened) → k ≤ line → k ≤ (raised o end line).line
unfolding raised
raised_far k end line o h = omega (arith, h)

raised_on : (k end line : ℕ) (o : Opened) → k ≤ o.line → k ≤ (raised o end line).line
unfolding raised
raised_on k end line o h = omega (arith, h)

raised_inner : (k end line : ℕ) (os : List Opened) → k ≤ line → Inner k (raised_at os (length os - 1) end line)
unfolding raised_at
raised_inner k end line os h = inner_set k os (λ o. raised o end line) (λ o e. raised_far k end line o h)

-- any container reaches further
set_other : (k : ℕ) (os : List Opened) (q j : ℕ) (x y : Opened) → slice_get os q ≡ Some x → (k ≤ x.line → k ≤ y.line) → Lined k (slice_get os j) → Lined k (slice_get (slice_set os q y) j)
set_other k [] q j x y e l h = absurd cc
set_other k (z ∷ zs) zero zero x y e l h = let w : z ≡ x = cc in l (subst (λ (o : Opened). k ≤ o.line) w h)
set_other k (z ∷ zs) zero (suc j) x y e l h = h
set_other k (z ∷ zs) (suc q) zero x y e l h = h
set_other k (z ∷ zs) (suc q) (suc j) x y e l h = set_other k zs q j x y e l h

raised_other : (k q end line : ℕ) (os : List Opened) → Inner k os → Inner k (raised_at os q end line)
unfolding raised_at
raised_other k q end line os h = by (slice_get os q) refl
  where
    by : (o : Option Opened) → slice_get os q ≡ o → Inner k (option_map_or (λ (o : Opened). slice_set os q (raised o end line)) o os)
    by None e = h
    by (Some o) e = subst (λ n. Lined k (slice_get (slice_set os q (raised o end line)) (n - 1))) (sym (set_length os q (raised o end line))) (set_other k os q (length os - 1) o (raised o end line) e (raised_on k end line o) h)

pub touched_inner : (k count end line : ℕ) (qs : List ℕ) (os : List Opened) → Inner k os → Inner k (touched_from count end line qs os)
touched_inner k count end line [] os h = h
touched_inner k count end line (q ∷ qs) os h = by (nat_le count q) (touched_inner k count end line qs (raised_at os q end line) (raised_other k q end line os h))
  where
    by : (b : Bool) → Inner k (touched_from count end line qs (raised_at os q end line)) → Inner k (if b then os else touched_from count end line qs (raised_at os q end line))
    by true g = h
    by false g = g

had_inner : (k : ℕ) (os : List Opened) → Inner k os → Inner k (had_marked os)
unfolding had_marked
had_inner k os h = inner_set k os (λ o. record o { had = true }) (λ o e. subst (Lined k) e h)

-- the open leaf ends
pub finish_calm : (k : ℕ) (s : State) → Tight s → k ≤ s.line → Calm k (leaf_finished s)
unfolding leaf_finished finished
finish_calm k s h low = record {
  tight = all_changed IsTight s.blocks (length s.blocks - 1) (λ (b : Block). record b { end = s.end; last = length (take s.kept s.pieces) }) (λ y e q. q) h;
  inner = raised_inner k s.end s.line s.opened low;
}

pub settled_tight : (t : List ℕ) (s : State) → Tight s → Tight (settled t s)
unfolding settled shortened
settled_tight t s h = by (slice_get s.blocks (length s.blocks - 1)) refl
  where
    boxed : (b : Block) → slice_get s.blocks (length s.blocks - 1) ≡ Some b → (k : Bool) → Tight (if k then s else defined_as t s b)
    boxed b e true = h
    boxed b e false = all_set IsTight s.blocks (length s.blocks - 1) _ h (all_got IsTight s.blocks (length s.blocks - 1) b h e)

    by : (o : Option Block) → slice_get s.blocks (length s.blocks - 1) ≡ o → Tight (option_map_or (settled_as t s) o s)
    by None e = h
    by (Some b) e = boxed b e _

pub settled_along : (t : List ℕ) (k : ℕ) (s : State) → Along k s → Along k (settled t s)
settled_along t k s h = record {
  tight = settled_tight t s h.tight;
  words = λ o. subst (λ n. k ≤ n) (sym (settled_line t s)) (h.words (ap is_shut (sym (settled_leaf t s)) ∙ o));
  inner = λ o. subst (Inner k) (sym ((settled_same t s).1)) (h.inner (ap is_shut (sym (settled_leaf t s)) ∙ o));
}

leaf_closed_calm : (t : List ℕ) (k : ℕ) (s : State) → Along k s → Calm k (leaf_closed t s)
unfolding leaf_closed table_finished ended is_shut
leaf_closed_calm t k s h = by s.leaf h.words h.inner
  where
    by : (f : Leaf) → (is_shut f ≡ false → k ≤ s.line) → (is_shut f ≡ true → Inner k s.opened) → Calm k (leaf_closed_as f t s)
    by leaf.Nothing a b = record { tight = h.tight; inner = b refl }
    by leaf.Paragraph a b = finish_calm k (settled t s) (settled_tight t s h.tight) (subst (λ n. k ≤ n) (sym (settled_line t s)) (a refl))
    by leaf.Indented a b = finish_calm k s h.tight (a refl)
    by (leaf.Fenced f) a b = finish_calm k s h.tight (a refl)
    by (leaf.Html x) a b = finish_calm k s h.tight (a refl)
    by (leaf.Metadata x) a b = finish_calm k s h.tight (a refl)
    by (leaf.Table x) a b = record { tight = all_changed IsTight s.blocks x.block (λ (b : Block). record b { end = s.end }) (λ y e q. q) h.tight; inner = raised_inner k s.end s.line s.opened (a refl) }

-- containers end
one_calm : (k : ℕ) (s : State) → Calm k s → Calm k (one_closed s)
unfolding one_closed ended
one_calm k s h = by (slice_get s.opened (length s.opened - 1)) refl
  where
    rest : List Opened
    rest = take (length s.opened - 1) s.opened

    closes : Opened → State
    closes o = raised_last o.end o.line (record s { opened = rest; blocks = option_map_or (λ (b : Block). slice_set s.blocks o.block (record b { end = o.end })) (slice_get s.blocks o.block) s.blocks })

    calm : (o : Opened) → k ≤ o.line → Calm k (closes o)
    calm o low = record { tight = all_changed IsTight s.blocks o.block (λ (b : Block). record b { end = o.end }) (λ y e q. q) h.tight; inner = raised_inner k o.end o.line rest low }

    quoted : (u : State) → Calm k u → (b : Bool) → Calm k (if b then record u { quotes = take (length u.quotes - 1) u.quotes } else u)
    quoted u g true = record { tight = g.tight; inner = g.inner }
    quoted u g false = g

    by : (x : Option Opened) → slice_get s.opened (length s.opened - 1) ≡ x → Calm k (option_map_or (λ (o : Opened). quote_left o.container (closes o)) x s)
    by None e = h
    by (Some o) e = quoted (closes o) (calm o (subst (Lined k) e h.inner)) (is_quote o.container)

times_calm : (k n : ℕ) (s : State) → Calm k s → Calm k (times one_closed n s)
unfolding times
times_calm k zero s h = h
times_calm k (suc n) s h = times_calm k n (one_closed s) (one_calm k s h)

pub closed_calm : (t : List ℕ) (k depth : ℕ) (s : State) → Along k s → Calm k (closed_to t depth s)
unfolding closed_to
closed_calm t k depth s h = times_calm k (length (leaf_closed t s).opened - depth) (leaf_closed t s) (leaf_closed_calm t k s h)

pub list_left_calm : (k : ℕ) (s : State) → Calm k s → Calm k (list_left s)
unfolding list_left left_noted
list_left_calm k s h = by (innermost s.opened)
  where
    u : State
    u = one_closed s

    g : Calm k u
    g = one_calm k s h

    noted : (o : Opened) (b : Bool) → Calm k (if b then record u { left = Some (record { list = o.block; behind = length u.blocks; loose = is_loose u.blocks (list_of u.opened) }) } else u)
    noted o true = record { tight = g.tight; inner = g.inner }
    noted o false = g

    inner : (o : Opened) (b : Bool) → Calm k (if b then left_noted o u else s)
    inner o true = noted o (is_definitions o.container)
    inner o false = h

    by : (o : Option Opened) → Calm k (option_map_or (λ (o : Opened). if is_list o.container then left_noted o (one_closed s) else s) o s)
    by None = h
    by (Some o) = inner o (is_list o.container)

-- blocks begin

-- the number of the next line
abbrev pub Next : ℕ → ℕ → Type 0
Next k n = (k ≤ n) × (n ≤ plus k 1)

not_less : (m n : ℕ) → n ≤ m → nat_lt m n ≡ false
not_less m n h = grind (arith, h, nat_tests)

plus_more : (k l : ℕ) → k ≤ l → plus k 1 ≤ plus l 1
plus_more k l h = omega (arith, h)

not_apart : (k n : ℕ) (os : List Opened) → Next k n → Inner k os → is_apart os n ≡ false
unfolding is_apart
not_apart k n os near h = by (innermost os) h
  where
    neither : (a b : Bool) → b ≡ false → (a && b) ≡ false
    neither true b e = e
    neither false b e = refl

    by : (o : Option Opened) → Lined k o → option_map_or (λ (o : Opened). o.had && nat_lt (plus o.line 1) n) o false ≡ false
    by None g = refl
    by (Some o) g = neither o.had (nat_lt (plus o.line 1) n) (not_less (plus o.line 1) n (let z : plus k 1 ≤ plus o.line 1 = plus_more k o.line g in let w : n ≤ plus k 1 = near.1 in omega (arith, z, w)))

begun_calm : (k n : ℕ) (b : BlockKind) (x : ℕ) (s : State) → Next k n → Calm k s → Calm k (begun b x n s)
unfolding begun loosened
begun_calm k n b x s near h = record {
  tight = all_both IsTight (if is_apart s.opened n then option_map_or _ (list_of s.opened) s.blocks else s.blocks) (_ ∷ []) (rw (not_apart k n s.opened near h.inner) h.tight) (refl, tt);
  inner = had_inner k s.opened h.inner;
}

pub opened_calm : (k : ℕ) (c : Container) (b : BlockKind) (x : ℕ) (line : Line) (s : State) → Next k line.number → Calm k s → Calm line.number (opened_with c b x line s)
unfolding opened_with
opened_calm k c b x line s near h = by (is_quote c)
  where
    t : State
    t = begun b x line.number s

    new : Opened
    new = record { container = c; block = length t.blocks - 1; end = line.end; line = line.number; had = false }

    inner : Inner line.number (t.opened ++ new ∷ [])
    inner = subst (Lined line.number) (sym (got_last t.opened new)) (let z : line.number ≤ line.number = omega arith in z)

    u : State
    u = record t { opened = t.opened ++ new ∷ [] }

    by : (q : Bool) → Calm line.number (if q then record u { quotes = u.quotes ++ (length u.opened - 1) ∷ [] } else u)
    by true = record { tight = (begun_calm k line.number b x s near h).tight; inner = inner }
    by false = record { tight = (begun_calm k line.number b x s near h).tight; inner = inner }

-- a leaf begins in this line
pub leaf_opened_tight : (k : ℕ) (f : Leaf) (b : BlockKind) (x : ℕ) (line : Line) (s : State) → Next k line.number → Calm k s → Tight (leaf_opened f b x line s) × ((leaf_opened f b x line s).line ≡ line.number) × ((leaf_opened f b x line s).leaf ≡ f)
unfolding leaf_opened
leaf_opened_tight k f b x line s near h = ((begun_calm k line.number b x (list_left s) near (list_left_calm k s h)).tight, refl, refl)

pub piece_tight : (p : Piece) (line : Line) (s : State) → Tight s → Tight (piece_taken p line true s) × ((piece_taken p line true s).line ≡ line.number) × ((piece_taken p line true s).leaf ≡ s.leaf)
unfolding piece_taken
piece_tight p line s h = by (nat_lt 0 p.spaces || nat_lt p.start p.next)
  where
    made : State → State
    made t = record t { kept = length t.pieces; end = line.end; line = line.number }

    by : (x : Bool) → Tight (made (if x then record s { pieces = s.pieces ++ p ∷ [] } else s)) × ((made (if x then record s { pieces = s.pieces ++ p ∷ [] } else s)).line ≡ line.number) × ((made (if x then record s { pieces = s.pieces ++ p ∷ [] } else s)).leaf ≡ s.leaf)
    by true = (h, refl, refl)
    by false = (h, refl, refl)
