-- The inlines of a CommonMark leaf begin and end at boundaries of characters.
use Rattle.std.proofs.Common.{◌≡◌, ℕ, suc, ◌+◌, ◌-◌, ◌*◌, ◌^◌, ◌<◌, ◌≤◌, ◌⊎◌, inl, inr, Bool, true, false, if◌then◌else◌, nat_le, List, [], ◌∷◌, ◌++◌, length, map, take, max, min, length-take, refl, ap, sym, ◌∙◌, subst, arith}
use Rattle.std.specs.Prelude.{slice_get, unwrap_or, Option, Some, None}
use Rattle.std.specs.List.{AllByRecursion, fold}
use Rattle.std.specs.Str.{IsUtf8}
use Rattle.std.proofs.lemmas.Bool.Decides.{nat_tests}
use Rattle.std.proofs.lemmas.Option.{slice_get_within}
use Rattle.tocmark_read_scan.specs.Basic.{plus, byte_at}
use Rattle.tocmark_read_scan.specs.Content.{before_white, joined, content_of}
use Rattle.tocmark_read_scan.specs.Repeat.{iterated}
use Rattle.tocmark_read_scan.specs.declared.content.ContentLine.{ContentLine}
use Rattle.tocmark_read_scan.specs.declared.syntax.TheConstants.{CORE}
use Rattle.tocmark_read_page.specs.declared.piece.Piece.{Piece}
use Rattle.tocmark_read_blocks.specs.Blocks.{blocks_in}
use Rattle.tocmark_read_spans.specs.declared.definitions.Entry.{Entry}
use Rattle.tocmark_read_spans.specs.declared.role.Role.{Role}
use Rattle.tocmark_read_spans.specs.declared.role.Role.TheVariants as role
use Rattle.tocmark_read_inlines.specs.Inlines.{State as Inlines, read_inlines_in}
use Rattle.tocmark_read_inlines.specs.Write.{State, pushed, flushed_from, flushed, opened, closed, single, texted, shown, next_place, role_step, write_start, written, moved}
use Rattle.tocmark_read_inlines.specs.declared.write.InlineKind.TheVariants as item
use Rattle.tocmark_read_inlines.specs.declared.write.Node.{Node}
use Rattle.tocmark_reader.specs.Pages.{content_line, pieces_of}
use Rattle.tocmark_text_laws.specs.InlinePlaces.{last_of, LiesIn, InlinesAreInPlace, InlinesLieInTheirLines}
use Rattle.tocmark_text_laws.specs.Ranges.{IsInPlace}
use Rattle.tocmark_text_laws.specs.SourceOrder.{leaf_of}
use Rattle.tocmark_text_laws.proofs.Alls.{all_both}
use Rattle.tocmark_text_laws.proofs.Contents.{lines_even, places_count}
use Rattle.tocmark_text_laws.proofs.InPlace.{At, in_place}
use Rattle.tocmark_text_laws.proofs.LeafPlaces.{Leads, IsMapped, Rising, last_line, leaf_between}
use Rattle.tocmark_text_laws.proofs.LinkEnds.{Ended}
use Rattle.tocmark_text_laws.proofs.Scans.{Mark}
use Rattle.tocmark_text_laws.proofs.SourceNest.{core_roles, core_count, core_marked, leaf_count, got_byte}
use Rattle.tocmark_text_laws.proofs.SourceOrder.{some_rising, some_mapped, got_place}
use Rattle.tocmark_text_laws.proofs.TextNodes.{shown_place}

-- a place at which a character begins, or the text ends
abbrev Stop : List ℕ → ℕ → Type 0
Stop bytes p = (c : ℕ) → slice_get bytes p ≡ Some c → Leads c

-- a place where something may begin
abbrev Cut : List ℕ → ℕ → Type 0
Cut bytes p = (p ≡ 0) ⊎ Stop bytes p

-- after a byte of ASCII a character begins
abbrev Follows : List ℕ → Type 0
Follows bytes = (i b c : ℕ) → slice_get bytes i ≡ Some b → b < 128 → slice_get bytes (suc i) ≡ Some c → Leads c

record Fits (bytes : List ℕ) (n : Node) : Type 0 where
  begins : Cut bytes n.start
  filled : n.start < n.end
  within : n.end ≤ length bytes
  stops : Stop bytes n.end

abbrev AllFit : List ℕ → List Node → Type 0
AllFit bytes ns = AllByRecursion (Fits bytes) ns

ascii_stop : (bytes : List ℕ) (p : ℕ) → byte_at bytes p < 128 → Stop bytes p
ascii_stop bytes p l c e k = let q : byte_at bytes p ≡ c = ap (λ o. unwrap_or o 10) e in absurd (omega arith)

after_stop : (bytes : List ℕ) (p : ℕ) → Follows bytes → byte_at bytes p < 128 → Stop bytes (suc p)
after_stop bytes p f l c e = let w : suc p < length bytes = slice_get_within bytes (suc p) c e in f p (byte_at bytes p) c (got_byte bytes p (omega arith)) l e

ended_stop : (bytes : List ℕ) (p e : ℕ) → Follows bytes → Ended bytes p e → Stop bytes e
ended_stop bytes p e f h = let l : p < e = h.after in let q : suc (e - 1) ≡ e = omega arith in subst (Stop bytes) q (after_stop bytes (e - 1) f h.closes)

-- where the open text began, or where one may begin
abbrev Ready : List ℕ → ℕ → ℕ → Option ℕ → Type 0
Ready bytes p resume None = Cut bytes (max p resume)
Ready bytes p resume (Some start) = Cut bytes start × (start < p)

record Stands (bytes : List ℕ) (p : ℕ) (s : State) : Type 0 where
  here : s.place ≡ p
  nodes : AllFit bytes s.nodes
  ready : Ready bytes p s.resume s.text

one_fits : (bytes : List ℕ) (ns : List Node) (n : Node) → Fits bytes n → AllFit bytes ns → AllFit bytes (ns ++ n ∷ [])
one_fits bytes ns n h k = all_both (Fits bytes) ns (n ∷ []) k (h, tt)

-- the open text ends
flushed_fits : (bytes : List ℕ) (p : ℕ) (s : State) → p ≤ length bytes → Stop bytes p → Stands bytes p s → AllFit bytes (flushed s).nodes × ((flushed s).text ≡ None) × ((flushed s).place ≡ p) × ((flushed s).resume ≡ s.resume)
unfolding flushed pushed
flushed_fits bytes p s l a h = by s.text refl h.ready
  where
    by : (o : Option ℕ) → s.text ≡ o → Ready bytes p s.resume o → AllFit bytes (flushed_from o s).nodes × ((flushed_from o s).text ≡ None) × ((flushed_from o s).place ≡ p) × ((flushed_from o s).resume ≡ s.resume)
    by None e r = (h.nodes, e, h.here, refl)
    by (Some start) e (c, m) = let q : p ≡ s.place = sym h.here in (one_fits bytes s.nodes (record { depth = s.depth; item = item.Text; start = start; end = s.place }) (record { begins = c; filled = omega arith; within = omega arith; stops = subst (Stop bytes) q a }) h.nodes, refl, h.here, refl)

-- a byte that is read, before the next place
shown_stands : (bytes : List ℕ) (p : ℕ) (r : Role) (s : State) → Follows bytes → p < length bytes → s.resume ≤ p → Mark bytes p r → Stands bytes p s → Stands bytes (suc p) (record (shown r s) { place = suc p })
unfolding shown opened closed single pushed
shown_stands bytes p r s f w low m h = by r m
  where
    u : State
    u = flushed s

    none_ready : (v : ℕ) → v ≤ suc p → Stop bytes (suc p) → Cut bytes (max (suc p) v)
    none_ready v l a = let q : suc p ≡ max (suc p) v = omega arith in inr (subst (Stop bytes) q a)

    quiet : byte_at bytes p < 128 → AllFit bytes u.nodes × (u.text ≡ None) × (u.place ≡ p) × (u.resume ≡ s.resume) → Stands bytes (suc p) (record u { place = suc p })
    quiet l (a, b, c, d) = record { here = refl; nodes = a; ready = subst (Ready bytes (suc p) u.resume) (sym b) (none_ready u.resume (omega (arith, d, low)) (after_stop bytes p f l)) }

    flush : byte_at bytes p < 128 → AllFit bytes u.nodes × (u.text ≡ None) × (u.place ≡ p) × (u.resume ≡ s.resume)
    flush l = flushed_fits bytes p s (omega arith) (ascii_stop bytes p l) h

    by : (r : Role) → Mark bytes p r → Stands bytes (suc p) (record (shown r s) { place = suc p })
    by role.Plain m = text s.text refl h.ready
      where
        text : (o : Option ℕ) → s.text ≡ o → Ready bytes p s.resume o → Stands bytes (suc p) (record (texted s o) { place = suc p })
        text None e c = let q : max p s.resume ≡ s.place = omega (arith, low, h.here) in record { here = refl; nodes = h.nodes; ready = (subst (Cut bytes) q c, omega (arith, h.here)) }
        text (Some start) e (c, l) = record { here = refl; nodes = h.nodes; ready = subst (Ready bytes (suc p) s.resume) (sym e) (c, omega arith) }
    by role.Fresh m = let a = flush m in let q : p ≡ u.place = sym (a.2) in record { here = refl; nodes = a.0; ready = (subst (Cut bytes) q (inr (ascii_stop bytes p m)), omega (arith, q)) }
    by role.Hidden m = quiet m (flush m)
    by (role.Open span end) (l, e) =
        let a = flush l in
        let q : u.place ≡ p = a.2 in
        let g : p < end = e.after in
        record {
          here = refl;
          nodes = one_fits bytes u.nodes (record { depth = u.depth; item = item.Span span; start = u.place; end = end }) (record { begins = inr (subst (Stop bytes) (sym q) (ascii_stop bytes p l)); filled = omega (arith, q, g); within = e.within; stops = ended_stop bytes p end f e }) (a.0);
          ready = subst (Ready bytes (suc p) u.resume) (sym (a.1)) (none_ready u.resume (omega (arith, a.3, low)) (after_stop bytes p f l));
        }
    by (role.Close end) (l, e) =
        let a = flush l in
        let g : p < end = e.after in
        let q : end ≡ max (suc p) end = omega (arith, g) in
        record { here = refl; nodes = a.0; ready = subst (Ready bytes (suc p) end) (sym (a.1)) (inr (subst (Stop bytes) q (ended_stop bytes p end f e))) }
    by (role.Single leaf end) (l, e) =
        let a = flush l in
        let z : u.place ≡ p = a.2 in
        let g : p < end = e.after in
        let q : end ≡ max (suc p) end = omega (arith, g) in
        record {
          here = refl;
          nodes = one_fits bytes u.nodes (record { depth = u.depth; item = item.Leaf leaf; start = u.place; end = end }) (record { begins = inr (subst (Stop bytes) (sym z) (ascii_stop bytes p l)); filled = omega (arith, z, g); within = e.within; stops = ended_stop bytes p end f e }) (a.0);
          ready = subst (Ready bytes (suc p) end) (sym (a.1)) (inr (subst (Stop bytes) q (ended_stop bytes p end f e)));
        }

skipped_stands : (bytes : List ℕ) (p : ℕ) (s : State) → p < s.resume → Stands bytes p s → Stands bytes (suc p) (record s { place = suc p })
skipped_stands bytes p s low h = record { here = refl; nodes = h.nodes; ready = by s.text h.ready }
  where
    by : (o : Option ℕ) → Ready bytes p s.resume o → Ready bytes (suc p) s.resume o
    by None c = let q : max p s.resume ≡ max (suc p) s.resume = omega arith in subst (Cut bytes) q c
    by (Some start) (c, l) = (c, omega arith)

run_fits : (bytes : List ℕ) (p : ℕ) (rs : List Role) (s : State) → Follows bytes → p + length rs ≡ length bytes → length bytes < 2 ^ 64 - 1 → ((i : ℕ) (r : Role) → slice_get rs i ≡ Some r → Mark bytes (p + i) r) → Stands bytes p s → AllFit bytes (flushed (fold role_step s rs)).nodes
unfolding role_step
run_fits bytes p [] s f all short m h = (flushed_fits bytes p s (omega arith) (λ c e. absurd (let w : p < length bytes = slice_get_within bytes p c e in omega arith)) h).0
run_fits bytes p (r ∷ rs) s f all short m h = by (nat_le s.resume s.place) refl (λ u k. run_fits bytes (suc p) rs u f (omega arith) short (λ i x g. let q : p + suc i ≡ suc p + i = omega arith in subst (λ n. Mark bytes n x) q (m (suc i) x g)) k)
  where
    here : s.place ≡ p
    here = h.here

    now : Mark bytes p r
    now = let q : p + 0 ≡ p = omega arith in subst (λ n. Mark bytes n r) q (m 0 r refl)

    next : suc p ≡ plus (shown r s).place 1
    next = let q : (shown r s).place ≡ s.place = shown_place r s in omega (arith, here)

    other : suc p ≡ plus s.place 1
    other = omega (arith, here)

    by : (b : Bool) → nat_le s.resume s.place ≡ b → ((u : State) → Stands bytes (suc p) u → AllFit bytes (flushed (fold role_step u rs)).nodes) → AllFit bytes (flushed (fold role_step (next_place (if b then shown r s else s)) rs)).nodes
    by true e g = let l : s.resume ≤ s.place = grind (arith, nat_tests) in g (next_place (shown r s)) (subst (λ x. Stands bytes (suc p) (record (shown r s) { place = x })) next (shown_stands bytes p r s f (omega arith) (omega (arith, here)) now h))
    by false e g = let l : s.place < s.resume = grind (arith, nat_tests) in g (next_place s) (subst (λ x. Stands bytes (suc p) (record s { place = x })) other (skipped_stands bytes p s (omega (arith, here)) h))

core_fits : (bytes : List ℕ) (depth : ℕ) (definitions : List ℕ → Option Entry) (s : Inlines) → Follows bytes → length bytes < 2 ^ 64 - 1 → AllFit bytes (written (core_roles bytes definitions s) depth)
unfolding written
core_fits bytes depth definitions s f short = run_fits bytes 0 roles (write_start depth) f (let q : length roles ≡ length bytes = core_count bytes definitions s in omega arith) short (λ i r e. let q : i ≡ 0 + i = omega arith in subst (λ n. Mark bytes n r) q (core_marked bytes definitions s short i r e)) (record { here = refl; nodes = tt; ready = inl refl })
  where
    roles : List Role
    roles = core_roles bytes definitions s

-- ranges of the source

abbrev pub Place : List ℕ → Node → Type 0
Place t n = IsInPlace t (n.start, n.end)

moved_place : (t bytes : List ℕ) (places : List (ℕ × ℕ)) (n : Node) → IsMapped t bytes places → length bytes ≡ length places → Fits bytes n → Place t (moved places n)
unfolding moved
moved_place t bytes places n h same f = by (got_place places n.start (omega arith)) (got_place places (n.end - 1) (omega arith))
  where
    some : n.start < n.end
    some = f.filled

    within : n.end ≤ length bytes
    within = f.within

    begins : (p : ℕ × ℕ) → slice_get places n.start ≡ Some p → Cut bytes n.start → At t p.0
    begins p e (inl z) = h.first p (ap (slice_get places) (sym z) ∙ e)
    begins p e (inr k) = h.begins n.start (byte_at bytes n.start) p (got_byte bytes n.start (omega (arith, some, within))) e (k (byte_at bytes n.start) (got_byte bytes n.start (omega (arith, some, within))))

    next : suc (n.end - 1) ≡ n.end
    next = omega (arith, some)

    by : (p : ℕ × ℕ) × (slice_get places n.start ≡ Some p) → (q : ℕ × ℕ) × (slice_get places (n.end - 1) ≡ Some q) → IsInPlace t ((unwrap_or (slice_get places n.start) (0, 0)).0, (unwrap_or (slice_get places (n.end - 1)) (0, 0)).1)
    by (p, e) (q, g) =
        let a : p.0 ≤ p.1 = h.ordered n.start p e in
        let b : p.1 ≤ q.1 = (h.rises n.start (n.end - 1) p q (omega (arith, some)) e g).1 in
        let c : At t q.1 = h.ends (n.end - 1) q g (λ x k. f.stops x (ap (slice_get bytes) (sym next) ∙ k)) in
        rw (e, g) (in_place t p.0 q.1 (begins p e f.begins) c (omega (arith, a, b)))

moved_places : (t bytes : List ℕ) (places : List (ℕ × ℕ)) (ns : List Node) → IsMapped t bytes places → length bytes ≡ length places → AllFit bytes ns → AllByRecursion (Place t) (map (moved places) ns)
moved_places t bytes places [] h same f = tt
moved_places t bytes places (n ∷ ns) h same f = (moved_place t bytes places n h same (f.0), moved_places t bytes places ns h same (f.1))

pub core_placed : (t : List ℕ) (first last depth : ℕ) (definitions : List ℕ → Option Entry) (s : Inlines) → IsUtf8 t → 4 * length t + 1 < 2 ^ 64 → length (leaf_of t first last).bytes < 2 ^ 64 - 1 → s.nodes ≡ [] → AllByRecursion (Place t) (read_inlines_in CORE (leaf_of t first last) depth definitions s).nodes
unfolding read_inlines_in
core_placed t first last depth definitions s u small short none = subst (λ ns. AllByRecursion (Place t) (ns ++ map (moved places) (written (core_roles bytes definitions s) depth))) (sym none) (moved_places t bytes places (written (core_roles bytes definitions s) depth) mapped (leaf_count t first last) (core_fits bytes depth definitions s mapped.ascii short))
  where
    bytes : List ℕ
    bytes = (leaf_of t first last).bytes

    places : List (ℕ × ℕ)
    places = (leaf_of t first last).places

    mapped : IsMapped t bytes places
    mapped = some_mapped t first last u small

pub inlines_placed : InlinesAreInPlace
inlines_placed t first last depth definitions s u small short = core_placed t first last depth definitions (record s { nodes = [] }) u small short refl

-- the lines of a leaf

no_bytes : (t : List ℕ) → length (content_of t []).bytes ≡ 0
unfolding content_of
no_bytes t = let z : length (take (iterated (before_white []) 0 0) []) ≡ min (iterated (before_white []) 0 0) 0 = length-take {A = ℕ} (iterated (before_white []) 0 0) [] in omega arith

last_ends : (p : Piece) (ps : List Piece) → (last_line (content_line p) (map content_line ps)).end ≡ (last_of p ps).end
unfolding content_line
last_ends p [] = refl
last_ends p (q ∷ qs) = last_ends q qs

one_lies : (t : List ℕ) (ps : List Piece) (n : Node) → IsUtf8 t → length t + 1 < 2 ^ 64 → Rising t 0 (map content_line ps) → Fits (content_of t (map content_line ps)).bytes n → LiesIn ps (moved (content_of t (map content_line ps)).places n)
unfolding moved content_line
one_lies t [] n u short r f = absurd (let z : length (content_of t []).bytes ≡ 0 = no_bytes t in let a : n.start < n.end = f.filled in let b : n.end ≤ length (content_of t []).bytes = f.within in omega arith)
one_lies t (p ∷ ps) n u short r f = by (got_place places n.start (omega (arith, some, within, same))) (got_place places (n.end - 1) (omega (arith, some, within, same)))
  where
    ls : List ContentLine
    ls = map content_line ps

    places : List (ℕ × ℕ)
    places = (content_of t (content_line p ∷ ls)).places

    some : n.start < n.end
    some = f.filled

    within : n.end ≤ length (content_of t (content_line p ∷ ls)).bytes
    within = f.within

    same : length (content_of t (content_line p ∷ ls)).bytes ≡ length places
    same = places_count t (content_line p ∷ ls)

    even : length (joined t (content_line p ∷ ls)).bytes ≡ length (joined t (content_line p ∷ ls)).places
    even = lines_even t (record { bytes = []; places = [] }) (content_line p ∷ ls) refl

    by : (x : ℕ × ℕ) × (slice_get places n.start ≡ Some x) → (y : ℕ × ℕ) × (slice_get places (n.end - 1) ≡ Some y) → (p.start ≤ (unwrap_or (slice_get places n.start) (0, 0)).0) × ((unwrap_or (slice_get places (n.end - 1)) (0, 0)).1 ≤ (last_of p ps).end)
    by (x, e) (y, g) = rw (e, g) ((leaf_between t (content_line p) ls n.start x u short r even e).0, subst (λ m. y.1 ≤ m) (last_ends p ps) ((leaf_between t (content_line p) ls (n.end - 1) y u short r even g).1))

all_lie : (t : List ℕ) (ps : List Piece) (ns : List Node) → IsUtf8 t → length t + 1 < 2 ^ 64 → Rising t 0 (map content_line ps) → AllFit (content_of t (map content_line ps)).bytes ns → AllByRecursion (LiesIn ps) (map (moved (content_of t (map content_line ps)).places) ns)
all_lie t ps [] u short r f = tt
all_lie t ps (n ∷ ns) u short r f = (one_lies t ps n u short r (f.0), all_lie t ps ns u short r (f.1))

pub inlines_lie : InlinesLieInTheirLines
unfolding read_inlines_in
inlines_lie t first last depth definitions s u small short = all_lie t (pieces_of (blocks_in CORE t).pieces first last) (written (core_roles bytes definitions s) depth) u (omega arith) (some_rising t first last u small) (core_fits bytes depth definitions s (some_mapped t first last u small).ascii short)
  where
    bytes : List ℕ
    bytes = (leaf_of t first last).bytes
