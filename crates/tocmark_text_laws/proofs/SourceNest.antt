-- The inlines of a CommonMark leaf nest, and in the source they are in order and nest, too.
use Rattle.std.proofs.Common.{◌≡◌, ℕ, zero, suc, ◌+◌, ◌-◌, ◌^◌, ◌<◌, ◌≤◌, Bool, true, false, cond, if◌then◌else◌, nat_lt, nat_le, List, [], ◌∷◌, ◌++◌, length, map, refl, sym, subst, arith}
use Rattle.std.specs.Prelude.{slice_get, unwrap_or, Option, Some, None}
use Rattle.std.specs.List.{AllByRecursion, fold}
use Rattle.std.proofs.lemmas.Bool.Decides.{nat_tests}
use Rattle.std.proofs.lemmas.List.Sums.{take_while-cons}
use Rattle.tocmark_read_scan.specs.Basic.{byte_at}
use Rattle.tocmark_read_scan.specs.declared.syntax.TheConstants.{CORE}
use Rattle.tocmark_read_blocks.specs.Blocks.{blocks_in}
use Rattle.tocmark_read_spans.specs.declared.definitions.Entry.{Entry}
use Rattle.tocmark_read_spans.specs.declared.role.Role.{Role}
use Rattle.tocmark_read_spans.specs.declared.role.Role.TheVariants as role
use Rattle.tocmark_read_inlines.specs.Inlines.{State as Inlines, scan_start, read_inlines_in}
use Rattle.tocmark_read_inlines.specs.Scan as scan
use Rattle.tocmark_read_inlines.specs.Scan.{scanned_in}
use Rattle.tocmark_read_inlines.specs.Write.{State, pushed, flushed_from, flushed, opened, closed, single, texted, shown, next_place, role_step, write_start, written, moved}
use Rattle.tocmark_read_inlines.specs.declared.write.InlineKind.TheVariants as item
use Rattle.tocmark_read_inlines.specs.declared.write.Node.{Node}
use Rattle.tocmark_reader.specs.Pages.{content_line, pieces_of}
use Rattle.tocmark_text_laws.specs.InlineNest.{IsWithin, inner, Nest, InlinesNest, InlinesNestInTheirLeaf}
use Rattle.tocmark_text_laws.specs.InlineOrder.{IsAfter, AreInOrder, IsInLeaf, AreLaidOut}
use Rattle.tocmark_text_laws.specs.SourceOrder.{leaf_of, InlinesAreInOrderInTheSource}
use Rattle.tocmark_text_laws.proofs.Alls.{all_both}
use Rattle.tocmark_text_laws.proofs.Contents.{places_count}
use Rattle.tocmark_text_laws.proofs.InlineNests.{Inside, EndInside, Caps, AllCaps, written_inside}
use Rattle.tocmark_text_laws.proofs.InlineOrder.{inlines_ordered}
use Rattle.tocmark_text_laws.proofs.Inner.{copies_plain}
use Rattle.tocmark_text_laws.proofs.LeafPlaces.{IsMapped}
use Rattle.tocmark_text_laws.proofs.Matches.{Marked}
use Rattle.tocmark_text_laws.proofs.Nests.{Nested}
use Rattle.tocmark_text_laws.proofs.RoleCounts.{copies, roles_count}
use Rattle.tocmark_text_laws.proofs.Scans.{Mark}
use Rattle.tocmark_text_laws.proofs.SourceOrder.{some_mapped, got_place, begins_after}
use Rattle.tocmark_text_laws.proofs.Steps.{scanned_nested, scanned_marked}
use Rattle.tocmark_text_laws.proofs.TextNodes.{shown_place}
use Rattle.tocmark_text_laws.proofs.TickEnds.{byte_past}

-- the roles of a CommonMark content
abbrev pub core_start : List ℕ → Inlines → scan.State
core_start bytes s = scan_start (length bytes) s.targets s.texts s.missed

abbrev pub core_roles : List ℕ → (List ℕ → Option Entry) → Inlines → List Role
core_roles bytes definitions s = (scanned_in CORE bytes definitions (core_start bytes s)).roles

pub core_count : (bytes : List ℕ) (definitions : List ℕ → Option Entry) (s : Inlines) → length (core_roles bytes definitions s) ≡ length bytes
unfolding scan_start
core_count bytes definitions s = roles_count (length bytes) bytes definitions (core_start bytes s) (copies (length bytes) role.Plain)

core_nested : (bytes : List ℕ) (definitions : List ℕ → Option Entry) (s : Inlines) → length bytes < 2 ^ 64 - 1 → Nested 0 0 [] (core_roles bytes definitions s)
unfolding scan_start
core_nested bytes definitions s short = scanned_nested bytes definitions (core_start bytes s) short (copies (length bytes) role.Plain) (copies_plain (length bytes)) refl refl refl refl

pub core_marked : (bytes : List ℕ) (definitions : List ℕ → Option Entry) (s : Inlines) → length bytes < 2 ^ 64 - 1 → Marked (Mark bytes) (core_roles bytes definitions s)
unfolding scan_start
core_marked bytes definitions s short = scanned_marked bytes definitions (core_start bytes s) short (copies (length bytes) role.Plain) (copies_plain (length bytes)) refl refl refl refl

core_caps : (bytes : List ℕ) (rs : List Role) → Marked (Mark bytes) rs → AllCaps (length bytes) rs
core_caps bytes rs h i x e = by x (h i x e)
  where
    by : (x : Role) → Mark bytes i x → Caps (length bytes) x
    by role.Plain m = tt
    by role.Fresh m = tt
    by role.Hidden m = tt
    by (role.Open span end) m = (m.1).within
    by (role.Close end) m = tt
    by (role.Single leaf end) m = tt

-- they nest in the leaf's text

within_all : (count : ℕ) (n : Node) (ms : List Node) → AllByRecursion (IsAfter n) ms → Inside count n ms → AllByRecursion (IsWithin n) (inner n ms)
within_all count n [] a h = tt
within_all count n (m ∷ ms) a h = subst (AllByRecursion (IsWithin n)) (sym (take_while-cons (λ (x : Node). nat_lt n.depth x.depth) m ms)) (by (nat_lt n.depth m.depth) refl (within_all count n ms (a.1)))
  where
    by : (x : Bool) → nat_lt n.depth m.depth ≡ x → (Inside count n ms → AllByRecursion (IsWithin n) (inner n ms)) → AllByRecursion (IsWithin n) (cond x (m ∷ inner n ms) [])
    by true e f = let l : n.depth < m.depth = grind (arith, nat_tests) in (record { begins = (a.0).begins; ends = (h l).0 }, f ((h l).2))
    by false e f = tt

nest_all : (count : ℕ) (ns : List Node) → AreInOrder ns → EndInside count ns → Nest ns
nest_all count [] a h = tt
nest_all count (n ∷ ns) a h = (within_all count n ns (a.0) (h.0), nest_all count ns (a.1) (h.1))

core_inside : (bytes : List ℕ) (depth : ℕ) (definitions : List ℕ → Option Entry) (s : Inlines) → depth + length bytes < 2 ^ 64 - 1 → EndInside (length bytes) (written (core_roles bytes definitions s) depth)
core_inside bytes depth definitions s few = written_inside (length bytes) depth roles (subst (λ n. depth + n < 2 ^ 64 - 1) (sym (core_count bytes definitions s)) few) (core_caps bytes roles (core_marked bytes definitions s (omega arith))) (core_nested bytes definitions s (omega arith))
  where
    roles : List Role
    roles = core_roles bytes definitions s

core_laid : (bytes : List ℕ) (depth : ℕ) (definitions : List ℕ → Option Entry) (s : Inlines) → length bytes < 2 ^ 64 - 1 → AreLaidOut (length bytes) (written (core_roles bytes definitions s) depth)
core_laid bytes depth definitions s short = let q : length (core_roles bytes definitions s) ≡ length bytes = core_count bytes definitions s in subst (λ n. AreLaidOut n (written (core_roles bytes definitions s) depth)) q (inlines_ordered (core_roles bytes definitions s) depth (omega arith))

pub nest_in_leaf : InlinesNestInTheirLeaf
nest_in_leaf bytes depth definitions s few = nest_all (length bytes) (written (core_roles bytes definitions s) depth) (core_laid bytes depth definitions s (omega arith)).ordered (core_inside bytes depth definitions s few)

-- a text ends before a byte of ASCII, or where the leaf's text ends

abbrev Stops : List ℕ → Node → Type 0
Stops bytes n = n.item ≡ item.Text → byte_at bytes n.end < 128

abbrev AllStop : List ℕ → List Node → Type 0
AllStop bytes ns = AllByRecursion (Stops bytes) ns

one_stops : (bytes : List ℕ) (ns : List Node) (n : Node) → Stops bytes n → AllStop bytes ns → AllStop bytes (ns ++ n ∷ [])
one_stops bytes ns n h k = all_both (Stops bytes) ns (n ∷ []) k (h, tt)

flushed_stops : (bytes : List ℕ) (s : State) → byte_at bytes s.place < 128 → AllStop bytes s.nodes → AllStop bytes (flushed s).nodes
unfolding flushed pushed
flushed_stops bytes s l h = by s.text
  where
    by : (o : Option ℕ) → AllStop bytes (flushed_from o s).nodes
    by None = h
    by (Some start) = one_stops bytes s.nodes (record { depth = s.depth; item = item.Text; start = start; end = s.place }) (λ e. l) h

shown_stops : (bytes : List ℕ) (r : Role) (s : State) → Mark bytes s.place r → AllStop bytes s.nodes → AllStop bytes (shown r s).nodes
unfolding shown opened closed single pushed
shown_stops bytes role.Plain s m h = by s.text
  where
    by : (o : Option ℕ) → AllStop bytes (texted s o).nodes
    by None = h
    by (Some start) = h
shown_stops bytes role.Fresh s m h = flushed_stops bytes s m h
shown_stops bytes role.Hidden s m h = flushed_stops bytes s m h
shown_stops bytes (role.Open span end) s m h = one_stops bytes (flushed s).nodes (record { depth = (flushed s).depth; item = item.Span span; start = (flushed s).place; end = end }) (λ e. absurd cc) (flushed_stops bytes s (m.0) h)
shown_stops bytes (role.Close end) s m h = flushed_stops bytes s (m.0) h
shown_stops bytes (role.Single leaf end) s m h = one_stops bytes (flushed s).nodes (record { depth = (flushed s).depth; item = item.Leaf leaf; start = (flushed s).place; end = end }) (λ e. absurd cc) (flushed_stops bytes s (m.0) h)

run_stops : (bytes : List ℕ) (p : ℕ) (rs : List Role) (s : State) → p + length rs ≡ length bytes → length bytes < 2 ^ 64 - 1 → s.place ≡ p → ((i : ℕ) (r : Role) → slice_get rs i ≡ Some r → Mark bytes (p + i) r) → AllStop bytes s.nodes → AllStop bytes (flushed (fold role_step s rs)).nodes
unfolding role_step
run_stops bytes p [] s all short here m h = flushed_stops bytes s (let q : s.place ≡ length bytes = omega arith in let w : byte_at bytes s.place ≡ 10 = byte_past bytes s.place (omega arith) in omega arith) h
run_stops bytes p (r ∷ rs) s all short here m h = by (nat_le s.resume s.place) (λ u e k. run_stops bytes (suc p) rs u (omega arith) short e (λ i x g. let q : p + suc i ≡ suc p + i = omega arith in subst (λ n. Mark bytes n x) q (m (suc i) x g)) k)
  where
    now : Mark bytes s.place r
    now = let q : p + 0 ≡ s.place = omega arith in subst (λ n. Mark bytes n r) q (m 0 r refl)

    by : (b : Bool) → ((u : State) → u.place ≡ suc p → AllStop bytes u.nodes → AllStop bytes (flushed (fold role_step u rs)).nodes) → AllStop bytes (flushed (fold role_step (next_place (if b then shown r s else s)) rs)).nodes
    by true f = f (next_place (shown r s)) (let q : (shown r s).place ≡ s.place = shown_place r s in omega arith) (shown_stops bytes r s now h)
    by false f = f (next_place s) (omega arith) h

core_stops : (bytes : List ℕ) (depth : ℕ) (definitions : List ℕ → Option Entry) (s : Inlines) → length bytes < 2 ^ 64 - 1 → AllStop bytes (written (core_roles bytes definitions s) depth)
unfolding written
core_stops bytes depth definitions s short = run_stops bytes 0 roles (write_start depth) (let q : length roles ≡ length bytes = core_count bytes definitions s in omega arith) short refl (λ i r e. let q : i ≡ 0 + i = omega arith in subst (λ n. Mark bytes n r) q (core_marked bytes definitions s short i r e)) tt
  where
    roles : List Role
    roles = core_roles bytes definitions s

-- in the source, a text ends before a later inline begins

pub got_byte : (bytes : List ℕ) (i : ℕ) → i < length bytes → slice_get bytes i ≡ Some (byte_at bytes i)
got_byte [] i l = absurd (omega arith)
got_byte (b ∷ bs) zero l = refl
got_byte (b ∷ bs) (suc i) l = got_byte bs i (omega arith)

text_apart : (t bytes : List ℕ) (places : List (ℕ × ℕ)) (n m : Node) → IsMapped t bytes places → length bytes ≡ length places → n.start < n.end → n.end ≤ m.start → m.start < length places → byte_at bytes n.end < 128 → (moved places n).end ≤ (moved places m).start
unfolding moved
text_apart t bytes places n m h same some l k ascii = by (got_place places (n.end - 1) (omega arith)) (got_place places n.end (omega arith)) (got_place places m.start k)
  where
    by : (p : ℕ × ℕ) × (slice_get places (n.end - 1) ≡ Some p) → (r : ℕ × ℕ) × (slice_get places n.end ≡ Some r) → (q : ℕ × ℕ) × (slice_get places m.start ≡ Some q) → (unwrap_or (slice_get places (n.end - 1)) (0, 0)).1 ≤ (unwrap_or (slice_get places m.start) (0, 0)).0
    by (p, e) (r, g) (q, f) =
        let a : p.1 ≤ r.0 = h.apart (n.end - 1) n.end (byte_at bytes n.end) p r (omega arith) e (got_byte bytes n.end (omega arith)) g (λ w. absurd (omega arith)) in
        let b : r.0 ≤ q.0 = (h.rises n.end m.start r q l g f).0 in
        rw (e, f) (omega (arith, a, b))

after_moved : (t bytes : List ℕ) (places : List (ℕ × ℕ)) (n : Node) (ms : List Node) → IsMapped t bytes places → length bytes ≡ length places → Stops bytes n → IsInLeaf (length places) n → AllByRecursion (IsAfter n) ms → AllByRecursion (IsInLeaf (length places)) ms → AllByRecursion (IsAfter (moved places n)) (map (moved places) ms)
unfolding moved
after_moved t bytes places n [] h same stops inside a k = tt
after_moved t bytes places n (m ∷ ms) h same stops inside a k = (
  record {
    begins = begins_after t bytes places n m h (a.0).begins (k.0).begins;
    apart = λ e. text_apart t bytes places n m h same (inside.filled e) ((a.0).apart e) (k.0).begins (stops e);
  },
  after_moved t bytes places n ms h same stops inside (a.1) (k.1),
)

order_moved : (t bytes : List ℕ) (places : List (ℕ × ℕ)) (ns : List Node) → IsMapped t bytes places → length bytes ≡ length places → AllStop bytes ns → AreInOrder ns → AllByRecursion (IsInLeaf (length places)) ns → AreInOrder (map (moved places) ns)
order_moved t bytes places [] h same stops a k = tt
order_moved t bytes places (n ∷ ns) h same stops a k = (after_moved t bytes places n ns h same (stops.0) (k.0) (a.0) (k.1), order_moved t bytes places ns h same (stops.1) (a.1) (k.1))

-- a leaf of a text
pub leaf_count : (t : List ℕ) (first last : ℕ) → length (leaf_of t first last).bytes ≡ length (leaf_of t first last).places
leaf_count t first last = places_count t (map content_line (pieces_of (blocks_in CORE t).pieces first last))

pub source_order : InlinesAreInOrderInTheSource
unfolding read_inlines_in
source_order t first last depth definitions s u small short = order_moved t bytes places (written (core_roles bytes definitions s) depth) (some_mapped t first last u small) same (core_stops bytes depth definitions s short) laid.ordered (subst (λ n. AllByRecursion (IsInLeaf n) (written (core_roles bytes definitions s) depth)) same laid.inside)
  where
    bytes : List ℕ
    bytes = (leaf_of t first last).bytes

    places : List (ℕ × ℕ)
    places = (leaf_of t first last).places

    same : length bytes ≡ length places
    same = leaf_count t first last

    laid : AreLaidOut (length bytes) (written (core_roles bytes definitions s) depth)
    laid = core_laid bytes depth definitions s short

-- in the source, an inline ends in those that it is in

ends_moved : (t bytes : List ℕ) (places : List (ℕ × ℕ)) (n m : Node) → IsMapped t bytes places → 0 < length places → m.end ≤ n.end → n.end ≤ length places → (moved places m).end ≤ (moved places n).end
unfolding moved
ends_moved t bytes places n m h some l k = by (got_place places (m.end - 1) (omega arith)) (got_place places (n.end - 1) (omega arith))
  where
    by : (p : ℕ × ℕ) × (slice_get places (m.end - 1) ≡ Some p) → (q : ℕ × ℕ) × (slice_get places (n.end - 1) ≡ Some q) → (unwrap_or (slice_get places (m.end - 1)) (0, 0)).1 ≤ (unwrap_or (slice_get places (n.end - 1)) (0, 0)).1
    by (p, e) (q, f) = rw (e, f) ((h.rises (m.end - 1) (n.end - 1) p q (omega arith) e f).1)

within_moved : (t bytes : List ℕ) (places : List (ℕ × ℕ)) (n : Node) (ms : List Node) → IsMapped t bytes places → AllByRecursion (IsAfter n) ms → AllByRecursion (IsInLeaf (length places)) ms → Inside (length places) n ms → AllByRecursion (IsWithin (moved places n)) (inner (moved places n) (map (moved places) ms))
unfolding moved
within_moved t bytes places n [] h a k i = tt
within_moved t bytes places n (m ∷ ms) h a k i = subst (AllByRecursion (IsWithin (moved places n))) (sym (take_while-cons (λ (x : Node). nat_lt n.depth x.depth) (moved places m) (map (moved places) ms))) (by (nat_lt n.depth m.depth) refl (within_moved t bytes places n ms h (a.1) (k.1)))
  where
    by : (x : Bool) → nat_lt n.depth m.depth ≡ x → (Inside (length places) n ms → AllByRecursion (IsWithin (moved places n)) (inner (moved places n) (map (moved places) ms))) → AllByRecursion (IsWithin (moved places n)) (cond x (moved places m ∷ inner (moved places n) (map (moved places) ms)) [])
    by true e f =
        let l : n.depth < m.depth = grind (arith, nat_tests) in
        let z : m.start < length places = (k.0).begins in
        (record { begins = begins_after t bytes places n m h (a.0).begins z; ends = ends_moved t bytes places n m h (omega arith) ((i l).0) ((i l).1) }, f ((i l).2))
    by false e f = tt

nest_moved : (t bytes : List ℕ) (places : List (ℕ × ℕ)) (ns : List Node) → IsMapped t bytes places → AreInOrder ns → AllByRecursion (IsInLeaf (length places)) ns → EndInside (length places) ns → Nest (map (moved places) ns)
nest_moved t bytes places [] h a k i = tt
nest_moved t bytes places (n ∷ ns) h a k i = (within_moved t bytes places n ns h (a.0) (k.1) (i.0), nest_moved t bytes places ns h (a.1) (k.1) (i.1))

pub source_nest : InlinesNest
unfolding read_inlines_in
source_nest t first last depth definitions s u small few = nest_moved t bytes places ns (some_mapped t first last u small) laid.ordered (subst (λ n. AllByRecursion (IsInLeaf n) ns) same laid.inside) (subst (λ n. EndInside n ns) same (core_inside bytes depth definitions s few))
  where
    bytes : List ℕ
    bytes = (leaf_of t first last).bytes

    places : List (ℕ × ℕ)
    places = (leaf_of t first last).places

    ns : List Node
    ns = written (core_roles bytes definitions s) depth

    same : length bytes ≡ length places
    same = leaf_count t first last

    laid : AreLaidOut (length bytes) ns
    laid = core_laid bytes depth definitions s (omega arith)
