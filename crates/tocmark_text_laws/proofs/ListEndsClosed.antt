-- Containers end in one go or in two, and which are left.
use Rattle.std.proofs.Common.{◌≡◌, ℕ, zero, suc, ◌+◌, ◌-◌, ◌<◌, ◌≤◌, Bool, true, false, if◌then◌else◌, nat_le, List, [], ◌∷◌, length, take, refl, ap, sym, ◌∙◌, arith}
use Rattle.std.specs.Prelude.{slice_get, ◌==◌, Some, is_some}
use Rattle.std.specs.Option.{option_map_or}
use Rattle.std.proofs.lemmas.Bool.Decides.{nat_tests}
use Rattle.std.proofs.lemmas.List.{length-map}
use Rattle.tocmark_read_lines.specs.declared.container.Container.{Container}
use Rattle.tocmark_read_lines.specs.declared.container.Container.TheVariants as container
use Rattle.tocmark_read_lines.specs.declared.container.Opened.{Opened}
use Rattle.tocmark_read_page.specs.Pages.{State, innermost, leaf_finished, table_finished, settled, leaf_closed_as, leaf_closed, is_list, is_definitions, one_closed, times, closed_to, list_of, is_loose, left_noted, list_left}
use Rattle.tocmark_read_page.specs.declared.leaf.Leaf.{Leaf}
use Rattle.tocmark_read_page.specs.declared.leaf.Leaf.TheVariants as leaf
use Rattle.tocmark_read_blocks.specs.Containers.{is_list_of, is_in_list}
use Rattle.tocmark_text_laws.proofs.Shut.{closed_shut}
use Rattle.tocmark_text_laws.proofs.Sorted.{containers, raised_containers}
use Rattle.tocmark_text_laws.proofs.Houses.{settled_same, one_containers}
use Rattle.tocmark_text_laws.proofs.QuotedPages.{one_fewer}
use Rattle.tocmark_text_laws.proofs.QuotedRun.{times_fewer}

times_both : (a b c : ℕ) (s : State) → c ≡ a + b → times one_closed c s ≡ times one_closed b (times one_closed a s)
unfolding times
times_both zero b c s e = ap (λ n. times one_closed n s) (let z : c ≡ b = omega (arith, e) in z)
times_both (suc a) b zero s e = absurd (omega (arith, e))
times_both (suc a) b (suc c) s e = times_both a b c (one_closed s) (omega (arith, e))

-- where no leaf is open, containers end alone
pub shut_closed : (t : List ℕ) (d : ℕ) (s : State) → s.leaf ≡ leaf.Nothing → closed_to t d s ≡ times one_closed (length s.opened - d) s
unfolding closed_to leaf_closed
shut_closed t d s h = ap (λ (u : State). times one_closed (length u.opened - d) u) (ap (λ k. leaf_closed_as k t s) h)

pub closed_further : (t : List ℕ) (e d : ℕ) (s : State) → e ≤ d → closed_to t e (closed_to t d s) ≡ closed_to t e s
unfolding closed_to
closed_further t e d s low = shut_closed t e (closed_to t d s) (closed_shut t d s) ∙ sym (times_both (length c.opened - d) (length (closed_to t d s).opened - e) (length c.opened - e) c (omega (arith, low, fewer)))
  where
    c : State
    c = leaf_closed t s

    fewer : length (closed_to t d s).opened ≡ length c.opened - (length c.opened - d)
    fewer = times_fewer (length c.opened - d) c (omega arith)

-- which containers are left

take_less : (m n : ℕ) (cs : List Container) → m ≤ n → take m (take n cs) ≡ take m cs
take_less zero n cs h = refl
take_less (suc m) zero cs h = absurd (omega (arith, h))
take_less (suc m) (suc n) [] h = refl
take_less (suc m) (suc n) (c ∷ cs) h = ap (λ xs. c ∷ xs) (take_less m n cs (omega (arith, h)))

take_long : (n : ℕ) (cs : List Container) → length cs ≤ n → take n cs ≡ cs
take_long zero [] h = refl
take_long zero (c ∷ cs) h = absurd (omega (arith, h))
take_long (suc n) [] h = refl
take_long (suc n) (c ∷ cs) h = ap (λ xs. c ∷ xs) (take_long n cs (omega (arith, h)))

got_last : (k : ℕ) (os : List Opened) → length os ≡ suc k → is_some (slice_get os k) ≡ true
got_last k [] e = absurd (omega (arith, e))
got_last zero (o ∷ os) e = refl
got_last (suc k) (o ∷ os) e = got_last k os (omega (arith, e))

times_containers : (k : ℕ) (s : State) → k ≤ length s.opened → containers (times one_closed k s).opened ≡ take (length s.opened - k) (containers s.opened)
unfolding times
times_containers zero s low = sym (take_long (length s.opened - 0) (containers s.opened) (omega (arith, length-map s.opened (λ (o : Opened). o.container))))
times_containers (suc k) s low =
    times_containers k (one_closed s) (omega (arith, one, low))
    ∙ ap (λ n. take n (containers (one_closed s).opened)) (let z : length (one_closed s).opened - k ≡ length s.opened - suc k = omega (arith, one, low) in z)
    ∙ ap (take (length s.opened - suc k)) inner
    ∙ take_less (length s.opened - suc k) (length s.opened - 1) (containers s.opened) (omega arith)
  where
    one : length (one_closed s).opened ≡ length s.opened - 1
    one = one_fewer s (omega (arith, low))

    inner : containers (one_closed s).opened ≡ take (length s.opened - 1) (containers s.opened)
    inner = (one_containers s).1 ∙ ap (λ b. if b then take (length s.opened - 1) (containers s.opened) else containers s.opened) (got_last (length s.opened - 1) s.opened (omega (arith, low)))

leaf_closed_containers : (t : List ℕ) (s : State) → containers (leaf_closed t s).opened ≡ containers s.opened
unfolding leaf_closed leaf_finished table_finished
leaf_closed_containers t s = by s.leaf
  where
    by : (k : Leaf) → containers (leaf_closed_as k t s).opened ≡ containers s.opened
    by leaf.Nothing = refl
    by leaf.Paragraph = raised_containers (settled t s).opened (length (settled t s).opened - 1) (settled t s).end (settled t s).line ∙ ap containers ((settled_same t s).1)
    by leaf.Indented = raised_containers s.opened (length s.opened - 1) s.end s.line
    by (leaf.Fenced f) = raised_containers s.opened (length s.opened - 1) s.end s.line
    by (leaf.Html k) = raised_containers s.opened (length s.opened - 1) s.end s.line
    by (leaf.Metadata k) = raised_containers s.opened (length s.opened - 1) s.end s.line
    by (leaf.Table x) = raised_containers s.opened (length s.opened - 1) s.end s.line

pub closed_containers : (t : List ℕ) (d : ℕ) (s : State) → containers (closed_to t d s).opened ≡ take d (containers s.opened)
unfolding closed_to
closed_containers t d s = times_containers (length c.opened - d) c (omega arith) ∙ by (nat_le d (length c.opened)) refl ∙ ap (take d) (leaf_closed_containers t s)
  where
    c : State
    c = leaf_closed t s

    long : length (containers c.opened) ≡ length c.opened
    long = length-map c.opened (λ (o : Opened). o.container)

    by : (k : Bool) → nat_le d (length c.opened) ≡ k → take (length c.opened - (length c.opened - d)) (containers c.opened) ≡ take d (containers c.opened)
    by true e = let low : d ≤ length c.opened = grind (arith, e, nat_tests) in ap (λ n. take n (containers c.opened)) (let z : length c.opened - (length c.opened - d) ≡ d = omega (arith, low) in z)
    by false e =
        let high : length c.opened < d = grind (arith, e, nat_tests) in
        take_long (length c.opened - (length c.opened - d)) (containers c.opened) (omega (arith, high, long)) ∙ sym (take_long d (containers c.opened) (omega (arith, high, long)))

-- the outermost container is a list with these markers
pub record Lists (mark : ℕ) (s : State) : Type 0 where
  pub inner : List Container
  pub first : containers s.opened ≡ container.List mark ∷ inner

is_list_one : (mark : ℕ) → is_list (container.List mark) ≡ true
unfolding is_list
is_list_one mark = refl

no_definitions : (mark : ℕ) → is_definitions (container.List mark) ≡ false
unfolding is_definitions
no_definitions mark = refl

pub only_list : (t : List ℕ) (mark : ℕ) (s : State) → Lists mark s → containers (closed_to t 1 s).opened ≡ container.List mark ∷ []
only_list t mark s h = closed_containers t 1 s ∙ ap (take 1) h.first

left_one : (mark : ℕ) (v : State) (o : Opened) → v.opened ≡ o ∷ [] → o.container ≡ container.List mark → list_left v ≡ one_closed v
unfolding list_left left_noted
left_one mark v o e k =
    ap (λ (os : List Opened). option_map_or (λ (x : Opened). if is_list x.container then left_noted x u else v) (innermost os) v) e
    ∙ ap (λ b. if b then left_noted o u else v) (ap is_list k ∙ is_list_one mark)
    ∙ ap (λ b. if b then record u { left = Some (record { list = o.block; behind = length u.blocks; loose = is_loose u.blocks (list_of u.opened) }) } else u) (ap is_definitions k ∙ no_definitions mark)
  where
    u : State
    u = one_closed v

times_one : (n : ℕ) (u : State) → n ≡ 1 → times one_closed n u ≡ one_closed u
unfolding times
times_one n u e = ap (λ m. times one_closed m u) e

-- where a list is left alone, leaving it ends all containers
pub left_closed : (t : List ℕ) (mark : ℕ) (s : State) → Lists mark s → list_left (closed_to t 1 s) ≡ closed_to t 0 s
left_closed t mark s h = by u.opened refl (only_list t mark s h) ∙ sym one ∙ closed_further t 0 1 s (omega arith)
  where
    u : State
    u = closed_to t 1 s

    counted : length u.opened ≡ 1
    counted = sym (length-map u.opened (λ (o : Opened). o.container)) ∙ ap length (only_list t mark s h)

    one : closed_to t 0 u ≡ one_closed u
    one = shut_closed t 0 u (closed_shut t 1 s) ∙ times_one (length u.opened - 0) u (omega (arith, counted))

    by : (os : List Opened) → u.opened ≡ os → containers os ≡ container.List mark ∷ [] → list_left u ≡ one_closed u
    by [] e k = absurd cc
    by (o ∷ []) e k = left_one mark u o e (let z : o.container ≡ container.List mark = cc in z)
    by (o ∷ p ∷ os) e k = absurd cc

-- an item goes into the list that is left alone only if it has its marker
pub other_list : (t : List ℕ) (mark other : ℕ) (s : State) → Lists mark s → (mark == other) ≡ false → is_in_list other (closed_to t 1 s) ≡ false
unfolding is_in_list
other_list t mark other s h d = by (closed_to t 1 s).opened (only_list t mark s h)
  where
    by : (os : List Opened) → containers os ≡ container.List mark ∷ [] → option_map_or (λ (o : Opened). is_list_of other o.container) (innermost os) false ≡ false
    by [] k = absurd cc
    by (o ∷ []) k = ap (is_list_of other) (let z : o.container ≡ container.List mark = cc in z) ∙ d
    by (o ∷ p ∷ os) k = absurd cc

pub no_list : (other : ℕ) (s : State) → s.opened ≡ [] → is_in_list other s ≡ false
unfolding is_in_list
no_list other s e = ap (λ (os : List Opened). option_map_or (λ (o : Opened). is_list_of other o.container) (innermost os) false) e

pub none_left : (s : State) → s.opened ≡ [] → list_left s ≡ s
unfolding list_left
none_left s e = ap (λ (os : List Opened). option_map_or (λ (o : Opened). if is_list o.container then left_noted o (one_closed s) else s) (innermost os) s) e
