-- Members that are put one after another: what is at a key, and which objects have just these keys.
use Rattle.std.proofs.Common.{◌≡◌, ◌∙◌, ◌+◌, ◌<◌, ℕ, zero, suc, List, [], ◌∷◌, ◌++◌, Bor, Option, None, Some, Ordering, Less, Equal, Greater, bytes_eq, false, nat_cmp, true≢false, is_eq, ap, arith, get_or, length, map, refl, subst, sym, take}
use Rattle.std.specs.List.{slice_get}
use Rattle.std.proofs.lemmas.Cmp.{nat_list_cmp_total, tied_itself}
use Rattle.std.proofs.lemmas.List.{take_more}
use Rattle.std.proofs.lemmas.Map.Text.{is_eq-slice_cmp}
use Rattle.std.proofs.lemmas.Slice.Eq.{bytes_eq-Decides}
use Rattle.std.specs.Cmp.Lexicographic.{slice_cmp}
use Rattle.std.specs.Ordering.{match_ordering, ordering_reverse}
use Rattle.serde_json.specs.Data.{Data, Members, member, no_members, object, put}
use Rattle.serde_json.specs.Events.{members_len}
use Rattle.serde_json.specs.Find.{get_member}
use Rattle.serde_json.proofs.Views.{get_member-put, get_member-put_other}
use Rattle.tocmark_json.specs.Node.{members_view, put_all, view}
use Rattle.tocmark_json.proofs.Nodes.{Entry, members_view-more}

abbrev Key : Type 0
Key = List ℕ

same_text : (k : Key) → slice_cmp nat_cmp k k ≡ Equal
same_text k = tied_itself nat_list_cmp_total k

pub equal_texts : (k l : Key) → slice_cmp nat_cmp k l ≡ Equal → k ≡ l
equal_texts k l is = (bytes_eq-Decides k l).0 (sym (is_eq-slice_cmp k l) ∙ ap is_eq is)

reversed : (k l : Key) (o : Ordering) → slice_cmp nat_cmp k l ≡ o → slice_cmp nat_cmp l k ≡ ordering_reverse o
reversed k l o is = nat_list_cmp_total.antisymm l k ∙ ap ordering_reverse is

abbrev IsApart : Ordering → Type 0
IsApart Less = Unit {0}
IsApart Equal = ⊥
IsApart Greater = Unit {0}

apart : (k l : Key) (o : Ordering) → slice_cmp nat_cmp k l ≡ o → IsApart o → k ≡ l → ⊥
apart k l o is differ same = subst IsApart (sym is ∙ ap (λ x. slice_cmp nat_cmp x l) same ∙ same_text l) differ

-- ---- keys in order

abbrev pub IsBelow : Key → Members → Type 0
IsBelow k no_members = Unit {0}
IsBelow k (member l d ms) = (slice_cmp nat_cmp k l ≡ Less) × IsBelow k ms

abbrev pub AreSorted : Members → Type 0
AreSorted no_members = Unit {0}
AreSorted (member k d ms) = IsBelow k ms × AreSorted ms

below_all : (j k : Key) (ms : Members) → slice_cmp nat_cmp j k ≡ Less → IsBelow k ms → IsBelow j ms
below_all j k no_members lt h = tt
below_all j k (member l d ms) lt h = (nat_list_cmp_total.trans j k l lt h.0, below_all j k ms lt h.1)

below_put_at : (o : Ordering) (j k l : Key) (d e : Data) (ms rest : Members) → slice_cmp nat_cmp j k ≡ Less → slice_cmp nat_cmp j l ≡ Less → IsBelow j ms → IsBelow j rest
    → IsBelow j (match_ordering o (member k d (member l e ms)) (member l d ms) (member l e rest))
below_put_at Less j k l d e ms rest lt first below later = (lt, (first, below))
below_put_at Equal j k l d e ms rest lt first below later = (first, below)
below_put_at Greater j k l d e ms rest lt first below later = (first, later)

below_put : (j k : Key) (d : Data) (ms : Members) → slice_cmp nat_cmp j k ≡ Less → IsBelow j ms → IsBelow j (put k d ms)
below_put j k d no_members lt h = (lt, tt)
below_put j k d (member l e ms) lt h = below_put_at _ j k l d e ms (put k d ms) lt h.0 h.1 (below_put j k d ms lt h.1)

sorted_put_at : (o : Ordering) (k l : Key) (d e : Data) (ms : Members) → slice_cmp nat_cmp k l ≡ o → IsBelow l ms → AreSorted ms → AreSorted (put k d ms)
    → AreSorted (match_ordering o (member k d (member l e ms)) (member l d ms) (member l e (put k d ms)))
sorted_put_at Less k l d e ms is below sorted later = ((is, below_all k l ms is below), (below, sorted))
sorted_put_at Equal k l d e ms is below sorted later = (below, sorted)
sorted_put_at Greater k l d e ms is below sorted later = (below_put l k d ms (reversed k l Greater is) below, later)

pub sorted_put : (k : Key) (d : Data) (ms : Members) → AreSorted ms → AreSorted (put k d ms)
sorted_put k d no_members h = (tt, tt)
sorted_put k d (member l e ms) h = sorted_put_at _ k l d e ms refl h.0 h.1 (sorted_put k d ms h.1)

-- ---- what is at a key

none_below : (k : Key) (ms : Members) → IsBelow k ms → get_member k ms ≡ None
none_below k no_members h = refl
none_below k (member l e ms) h = rw h.0 (none_below k ms h.1)

first_at : (k : Key) (d : Data) (ms : Members) → get_member k (member k d ms) ≡ Some d
first_at k d ms = rw (same_text k)

-- after the first key
behind : (o : Ordering) (q k : Key) (d : Data) (ms ns : Members) → slice_cmp nat_cmp q k ≡ o → IsBelow k ms → IsBelow k ns
    → match_ordering o (get_member q ms) (Some d) (get_member q ms) ≡ match_ordering o (get_member q ns) (Some d) (get_member q ns) → get_member q ms ≡ get_member q ns
behind Less q k d ms ns is below other same = same
behind Greater q k d ms ns is below other same = same
behind Equal q k d ms ns is below other same =
    let k_is : q ≡ k = equal_texts q k is in
    rw k_is (none_below k ms below ∙ sym (none_below k ns other))

some_is : (d e : Data) → Some d ≡ Some e → d ≡ e
some_is d e h = cc

pub first_differs : {P : Type 0} (d : Data) → None ≡ Some d → P
first_differs d h = absurd cc

-- members in order are told apart by what is at their keys
exact_at : (o : Ordering) (k l : Key) (d e : Data) (ms ns : Members) → slice_cmp nat_cmp k l ≡ o → IsBelow k ms → IsBelow l ns
    → ((q : Key) → get_member q (member k d ms) ≡ get_member q (member l e ns)) → (((q : Key) → get_member q ms ≡ get_member q ns) → ms ≡ ns) → member k d ms ≡ member l e ns
exact_at Less k l d e ms ns is below other same rest =
    first_differs d (sym (rw is (none_below k ns (below_all k l ns is other))) ∙ sym (same k) ∙ first_at k d ms)
exact_at Greater k l d e ms ns is below other same rest =
    let lt = reversed k l Greater is in
    first_differs e (sym (rw lt (none_below l ms (below_all l k ms lt below))) ∙ same l ∙ first_at l e ns)
exact_at Equal k l d e ms ns is below other same rest =
    let key : k ≡ l = equal_texts k l is in
    let value : d ≡ e = some_is d e (sym (first_at k d ms) ∙ same k ∙ ap (λ x. get_member x (member l e ns)) key ∙ first_at l e ns) in
    let again : (q : Key) → get_member q (member k d ms) ≡ get_member q (member k d ns) = λ q. same q ∙ ap (λ x. get_member q (member x e ns)) (sym key) ∙ ap (λ x. get_member q (member k x ns)) (sym value) in
    let beyond : IsBelow k ns = subst (λ x. IsBelow x ns) (sym key) other in
    ap (λ x. member k d x) (rest (λ q. behind _ q k d ms ns refl below beyond (again q))) ∙ ap (λ x. member k x ns) value ∙ ap (λ x. member x e ns) key

pub exact : (ms ns : Members) → AreSorted ms → AreSorted ns → ((q : Key) → get_member q ms ≡ get_member q ns) → ms ≡ ns
exact no_members no_members sorted others same = refl
exact no_members (member l e ns) sorted others same = first_differs e (same l ∙ first_at l e ns)
exact (member k d ms) no_members sorted others same = first_differs d (sym (same k) ∙ first_at k d ms)
exact (member k d ms) (member l e ns) sorted others same =
    exact_at _ k l d e ms ns refl sorted.0 others.0 same (λ h. exact ms ns sorted.1 others.1 h)

-- ---- an object of a form

passes_at : (o : Ordering) (q k : Key) (d : Data) (ms : Members) → slice_cmp nat_cmp q k ≡ o → (q ≡ k → ⊥) → match_ordering o (get_member q ms) (Some d) (get_member q ms) ≡ get_member q ms
passes_at Less q k d ms is other = refl
passes_at Equal q k d ms is other = absurd (other (equal_texts q k is))
passes_at Greater q k d ms is other = refl

pub passes : (q k : Key) (d : Data) (ms : Members) → (q ≡ k → ⊥) → get_member q (member k d ms) ≡ get_member q ms
passes q k d ms other = passes_at _ q k d ms refl other

-- what is at the keys of a form is there
abbrev pub HasAll : Members → Members → Type 0
HasAll no_members ms = Unit {0}
HasAll (member k d form) ms = (get_member k ms ≡ Some d) × HasAll form ms

stands_at : (o : Ordering) (q k : Key) (d e : Data) (form ms : Members) → slice_cmp nat_cmp q k ≡ o → get_member k ms ≡ Some d
    → (get_member q form ≡ Some e → get_member q ms ≡ Some e) → match_ordering o (get_member q form) (Some d) (get_member q form) ≡ Some e → get_member q ms ≡ Some e
stands_at Less q k d e form ms is here later h = later h
stands_at Greater q k d e form ms is here later h = later h
stands_at Equal q k d e form ms is here later h = ap (λ x. get_member x ms) (equal_texts q k is) ∙ here ∙ h

stands : (q : Key) (e : Data) (form ms : Members) → HasAll form ms → get_member q form ≡ Some e → get_member q ms ≡ Some e
stands q e no_members ms all h = first_differs e h
stands q e (member k d form) ms all h = stands_at _ q k d e form ms refl all.0 (λ x. stands q e form ms all.1 x) h

agrees : (q : Key) (form ms : Members) → HasAll form ms → (get_member q form ≡ None → get_member q ms ≡ None) → (x : Option Data) → get_member q form ≡ x → get_member q ms ≡ get_member q form
agrees q form ms all only None h = only h ∙ sym h
agrees q form ms all only (Some e) h = stands q e form ms all h ∙ sym h

-- a name that a form doesn't have
abbrev pub AreOthers : Key → Members → Type 0
AreOthers q no_members = Unit {0}
AreOthers q (member k d form) = (q ≡ k → ⊥) × AreOthers q form

others_at : (o : Ordering) (q k : Key) (d : Data) (form : Members) → slice_cmp nat_cmp q k ≡ o → match_ordering o (get_member q form) (Some d) (get_member q form) ≡ None → (get_member q form ≡ None → AreOthers q form) → AreOthers q (member k d form)
others_at Less q k d form is none rest = (apart q k Less is tt, rest none)
others_at Equal q k d form is none rest = first_differs d (sym none)
others_at Greater q k d form is none rest = (apart q k Greater is tt, rest none)

others : (q : Key) (form : Members) → get_member q form ≡ None → AreOthers q form
others q no_members none = tt
others q (member k d form) none = others_at _ q k d form refl none (λ h. others q form h)

pub none_at : (q : Key) (form : Members) → AreOthers q form → get_member q form ≡ None
none_at q no_members h = refl
none_at q (member k d form) h = passes q k d form h.0 ∙ none_at q form h.1

-- a form says what is at its keys, and that nothing is at others
pub matched : (form ms : Members) → AreSorted form → AreSorted ms → HasAll form ms → ((q : Key) → AreOthers q form → get_member q ms ≡ None) → ms ≡ form
matched form ms formed sorted all only = exact ms form sorted formed (λ q. agrees q form ms all (λ h. only q (others q form h)) _ refl)

-- ---- objects that are none of a form

-- what is at a name that a form doesn't have
pub has_another : (form ms : Members) (q : Key) (d : Data) → get_member q form ≡ None → get_member q ms ≡ Some d → object ms ≡ object form → ⊥
has_another form ms q d lacks here same =
    let alike : ms ≡ form = cc in
    first_differs d (sym lacks ∙ ap (λ x. get_member q x) (sym alike) ∙ here)

-- and what isn't at one that it has
pub lacks_one : (form ms : Members) (q : Key) (d : Data) → get_member q form ≡ Some d → get_member q ms ≡ None → object ms ≡ object form → ⊥
lacks_one form ms q d has lacks same =
    let alike : ms ≡ form = cc in
    first_differs d (sym lacks ∙ ap (λ x. get_member q x) alike ∙ has)

sole_at : (o p : Ordering) (q k l : Key) (d e f : Data) → slice_cmp nat_cmp q l ≡ o → slice_cmp nat_cmp k l ≡ p → (q ≡ k → ⊥) → match_ordering o None (Some f) None ≡ Some d → match_ordering p None (Some f) None ≡ Some e → ⊥
sole_at Less p q k l d e f a b other h i = first_differs d h
sole_at Greater p q k l d e f a b other h i = first_differs d h
sole_at Equal Less q k l d e f a b other h i = first_differs e i
sole_at Equal Greater q k l d e f a b other h i = first_differs e i
sole_at Equal Equal q k l d e f a b other h i = other (equal_texts q l a ∙ sym (equal_texts k l b))

-- an object with two names has more than one member
pub sole : (ms : Members) (q k : Key) (d e : Data) → members_len ms ≡ 1 → (q ≡ k → ⊥) → get_member q ms ≡ Some d → get_member k ms ≡ Some e → ⊥
sole no_members q k d e one other h i = first_differs d h
sole (member l f no_members) q k d e one other h i = sole_at _ _ q k l d e f refl refl other h i
sole (member l f (member m g ms)) q k d e one other h i = absurd (omega (arith, one))

kept_at : (o : Ordering) (k l : Key) (e : Data) (found : Members) (d : Data) → slice_cmp nat_cmp k l ≡ o → get_member k found ≡ Some d → (f : Data) × (get_member k (put l e found) ≡ Some f)
kept_at Less k l e found d is h = (d, get_member-put_other k l e found (apart k l Less is tt) ∙ h)
kept_at Greater k l e found d is h = (d, get_member-put_other k l e found (apart k l Greater is tt) ∙ h)
kept_at Equal k l e found d is h = (e, ap (λ x. get_member x (put l e found)) (equal_texts k l is) ∙ get_member-put l e found)

-- what is at a name once is there whatever is put after it
pub kept : (k : Key) (es : List (Bor (List ℕ) × Data)) (found : Members) (d : Data) → get_member k found ≡ Some d → (e : Data) × (get_member k (put_all es found) ≡ Some e)
kept k [] found d h = (d, h)
kept k (m ∷ es) found d h = let next = kept_at _ k m.0.now m.1 found d refl h in kept k es (put m.0.now m.1 found) next.0 next.1

sorted_over : (es : List (Bor (List ℕ) × Data)) (found : Members) → AreSorted found → AreSorted (put_all es found)
sorted_over [] found h = h
sorted_over (m ∷ es) found h = sorted_over es (put m.0.now m.1 found) (sorted_put m.0.now m.1 found h)

-- what is put together is in order
pub sorted_view : (es : List Entry) → AreSorted (members_view es)
sorted_view es = sorted_over (map (λ e. (e.0, view e.1)) es) no_members tt

-- something is at the first name
pub first_found : (e : Entry) (es : List Entry) → (d : Data) × (get_member e.0.now (members_view (e ∷ es)) ≡ Some d)
first_found e es = kept e.0.now (map (λ x. (x.0, view x.1)) es) (member e.0.now (view e.1) no_members) (view e.1) (first_at e.0.now (view e.1) no_members)

-- and at that of each element
pub some_found : (es : List Entry) (i : ℕ) (e : Entry) → i < length es → e ≡ get_or es i e → (found : Members) → (d : Data) × (get_member e.0.now (put_all (map (λ x. (x.0, view x.1)) es) found) ≡ Some d)
some_found [] i e lt at found = absurd (omega (arith, lt))
some_found (x ∷ es) zero e lt at found =
    let here : get_member e.0.now (put x.0.now (view x.1) found) ≡ Some (view x.1) = ap (λ y. get_member y.0.now (put x.0.now (view x.1) found)) at ∙ get_member-put x.0.now (view x.1) found in
    kept e.0.now (map (λ y. (y.0, view y.1)) es) (put x.0.now (view x.1) found) (view x.1) here
some_found (x ∷ es) (suc i) e lt at found = some_found es i e (omega (arith, lt)) at (put x.0.now (view x.1) found)

-- one more member
pub one_here : (es : List Entry) (e : Entry) (name : Key) → e.0.now ≡ name → get_member name (members_view (es ++ e ∷ [])) ≡ Some (view e.1)
one_here es e name is =
    ap (get_member name) (members_view-more es e) ∙ ap (λ k. get_member name (put k (view e.1) (members_view es))) is ∙ get_member-put name (view e.1) (members_view es)

pub one_elsewhere : (es : List Entry) (e : Entry) (name : Key) → (name ≡ e.0.now → ⊥) → get_member name (members_view (es ++ e ∷ [])) ≡ get_member name (members_view es)
one_elsewhere es e name other =
    ap (get_member name) (members_view-more es e) ∙ get_member-put_other name e.0.now (view e.1) (members_view es) other

-- ---- one element after another

one_taken : (es : List Entry) (i : ℕ) (e : Entry) → i < length es → e ≡ get_or es i e → take (i + 1) es ≡ take i es ++ e ∷ []
one_taken es i e lt at = take_more es i e lt ∙ ap (λ x. take i es ++ x ∷ []) (sym at)

pub here_more : (es : List Entry) (i : ℕ) (e : Entry) (name : Key) → i < length es → e ≡ get_or es i e → e.0.now ≡ name → get_member name (members_view (take (i + 1) es)) ≡ Some (view e.1)
here_more es i e name lt at is = ap (λ xs. get_member name (members_view xs)) (one_taken es i e lt at) ∙ one_here (take i es) e name is

pub same_more : (es : List Entry) (i : ℕ) (e : Entry) (name : Key) → i < length es → e ≡ get_or es i e → (name ≡ e.0.now → ⊥) → get_member name (members_view (take (i + 1) es)) ≡ get_member name (members_view (take i es))
same_more es i e name lt at other = ap (λ xs. get_member name (members_view xs)) (one_taken es i e lt at) ∙ one_elsewhere (take i es) e name other

-- one more element whose name is another one
pub none_more : (es : List Entry) (i : ℕ) (e : Entry) (name : Key) → i < length es → e ≡ get_or es i e → (name ≡ e.0.now → ⊥) → get_member name (members_view (take i es)) ≡ None → get_member name (members_view (take (i + 1) es)) ≡ None
none_more es i e name lt at other none = same_more es i e name lt at other ∙ none

-- ---- what the functions of objects need

pub first_is : (es : List Entry) (e : Entry) → Some e ≡ slice_get es 0 → (d : Data) × (get_member e.0.now (members_view es) ≡ Some d)
first_is [] e is = absurd cc
first_is (x ∷ es) e is =
    let same : e ≡ x = cc in
    subst (λ (y : Entry). (d : Data) × (get_member y.0.now (members_view (x ∷ es)) ≡ Some d)) (sym same) (first_found x es)

pub one_only : (found ms : Members) (q k : Key) (d e : Data) → object found ≡ object ms → members_len ms ≡ 1 → (q ≡ k → ⊥) → get_member q found ≡ Some d → get_member k found ≡ Some e → ⊥
one_only found ms q k d e same one other h i =
    let alike : found ≡ ms = cc in
    sole found q k d e (ap members_len alike ∙ one) other h i

beyond : (k : Key) (d : Data) (form ms : Members) → IsBelow k form → HasAll form ms → HasAll form (member k d ms)
beyond k d no_members ms below all = tt
beyond k d (member l e form) ms below all = (rw (reversed k l Less below.0) all.0, beyond k d form ms below.1 all.1)

-- a form in order has what is in it
pub holds_all : (form : Members) → AreSorted form → HasAll form form
holds_all no_members h = tt
holds_all (member k d form) h = (first_at k d form, beyond k d form form h.0 (holds_all form h.1))

pub unequal : (xs ys : Key) → bytes_eq xs ys ≡ false → xs ≡ ys → ⊥
unequal xs ys e same = true≢false (sym ((bytes_eq-Decides xs ys).1 same) ∙ e)
