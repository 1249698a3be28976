-- What the open containers say, one container at a time, and what a changed content leaves of it.
use Rattle.std.proofs.Common.{◌≡◌, ℕ, zero, suc, ◌+◌, ◌-◌, ◌<◌, ◌==◌, ◌&&◌, ◌||◌, Bool, true, false, if◌then◌else◌, nat_le, Option, Some, None, List, [], ◌∷◌, refl, sym, ap, ◌∙◌, length, map, get_or, unwrap_or, arith}
use Rattle.std.proofs.lemmas.Bool.{eqb-true, eq-eqb, le-leb, true≢false, false≢true}
use Rattle.std.proofs.lemmas.List.{get_or-reverse, length-map}
use Rattle.std.proofs.Math.ListN.{get_or-map}
use Rattle.std.specs.Prelude.{is_some}
use Rattle.tocmark_event.specs.View.{TagView}
use Rattle.tocmark_spelling.specs.Kinds.{is_cell, is_item, is_list, is_strikethrough, is_table}
use Rattle.tocmark_spelling.specs.Marker.{opening_token}
use Rattle.tocmark_spelling.specs.Opening.{bullet_of, is_double, is_number}
use Rattle.tocmark_spelling.specs.Page.{OpeningChoice, Plain, Underlined, Fence, HtmlEnds, Listed, Defined, Headers, Width, Delimited, Named, Level, Path}
use Rattle.tocmark_spelling.specs.Places.{depth_in, is_in, is_item_start, nearest, wider, widened, with_header, with_width}
use Rattle.tocmark_spelling.specs.Stretch.{is_bullet_hyphen}
use Rattle.tocmark_spelling.specs.Words.{or_else}
use Rattle.tocmark_write_containers.specs.Nesting.{changed, changed_level, has_number, is_counted, numbered, renumbered}
use Rattle.tocmark_write_containers.proofs.Seen.{seen-length}
use Rattle.tocmark_write_containers.specs.KeptOf.{present, seen}
use Rattle.tocmark_write_containers.specs.declared.kept.Kept.{Kept}
use Rattle.tocmark_write_containers.specs.Outside.{begins_double, item_start_of, outside_nearest, outside_of, outsides, within}

-- ---- one container more

one-more : (b : Bool) (n : ℕ) → nat_le 1 ((if b then 1 else 0) + n) ≡ b || nat_le 1 n
one-more true n = le-leb 1 (1 + n) (omega arith)
one-more false n = let same : 0 + n ≡ n = omega arith in ap (nat_le 1) same

some-deep : (test : TagView → Bool) (path : Path) → is_in test path ≡ nat_le 1 (depth_in test path)
some-deep test [] = refl
some-deep test (l ∷ path) = ap (λ b. test l.tag || b) (some-deep test path) ∙ sym (one-more (test l.tag) (depth_in test path))

two-more : (b : Bool) (n : ℕ) → nat_le 2 ((if b then 1 else 0) + n) ≡ (b && nat_le 1 n) || nat_le 2 n
two-more true zero = refl
two-more true (suc n) =
    le-leb 2 (1 + suc n) (omega arith)
    ∙ sym (ap (λ b. b || nat_le 2 (suc n)) (le-leb 1 (suc n) (omega arith)))
two-more false n = let same : 0 + n ≡ n = omega arith in ap (nat_le 2) same

two-deep : (l : Level) (path : Path) → nat_le 2 (depth_in is_list (l ∷ path)) ≡ (is_list l.tag && is_in is_list path) || nat_le 2 (depth_in is_list path)
two-deep l path =
    two-more (is_list l.tag) (depth_in is_list path)
    ∙ ap (λ b. (is_list l.tag && b) || nat_le 2 (depth_in is_list path)) (sym (some-deep is_list path))

double-more : (b : Bool) (l : Level) (o : Option Level) → is_double (if b then Some l else o) ≡ (if b then begins_double l.content else is_double o)
double-more true l o = refl
double-more false l o = refl

-- what all say, by what those around the innermost one say
pub outside-step : (l : Level) (path : Path) → outside_of (l ∷ path) ≡ within l.tag l.start l.content (length path) (outside_of path)
outside-step l path =
    ap (λ b. record (outside_of (l ∷ path)) { in_two_lists = b }) (two-deep l path)
    ∙ ap (λ b. record (within l.tag l.start l.content (length path) (outside_of path)) { in_double = b }) (double-more (is_strikethrough l.tag) l (nearest is_strikethrough path))

start-more : (x b : Bool) (o : Option ℕ) (s p : ℕ) → s == p ≡ x → x && (b || is_number o p) ≡ is_number (if b || is_number o s then Some s else None) p
start-more true b o s p e = go (eqb-true s p e)
  where
    by_case : (y : Bool) → y ≡ is_number (if y then Some p else None) p
    by_case true = sym (eq-eqb p p refl)
    by_case false = refl

    go : s ≡ p → b || is_number o p ≡ is_number (if b || is_number o s then Some s else None) p
    go same = rw same (by_case (b || is_number o p))
start-more false b o s p e = by_case (b || is_number o s)
  where
    by_case : (y : Bool) → false ≡ is_number (if y then Some s else None) p
    by_case true = sym e
    by_case false = refl

-- nothing but openings is between an item's opening and a place, if it is the one that was found
pub item-start : (place : ℕ) (path : Path) → is_item_start place path ≡ is_number (item_start_of path) place
item-start place [] = refl
item-start place (l ∷ path) =
    ap (λ b. (l.start == place) && (is_item l.tag || b)) (item-start place path)
    ∙ start-more (l.start == place) (is_item l.tag) (item_start_of path) l.start place refl

-- ---- a content that is changed

-- contents of which the containers say the same
pub record Alike (c d : OpeningChoice) : Type 0 where
  pub bullet : bullet_of c ≡ bullet_of d
  pub hyphen : is_bullet_hyphen c ≡ is_bullet_hyphen d
  pub token : opening_token c ≡ opening_token d

alike-within : (t : TagView) (start n : ℕ) (c d : OpeningChoice) (path : Path) → Alike c d → within t start c n (outside_of path) ≡ within t start d n (outside_of path)
alike-within t start n c d path h =
    let o = outside_of path in
    ap (λ b. record (within t start c n o) { in_hyphen_list = b || o.in_hyphen_list }) h.hyphen
    ∙ ap (λ b. record (within t start c n o) { in_hyphen_list = is_bullet_hyphen d || o.in_hyphen_list; bullet = or_else b o.bullet }) h.bullet
    ∙ ap (λ b. record (within t start d n o) { in_double = if is_strikethrough t then begins_double (Delimited b []) else o.in_double }) h.token

-- the innermost one's content is changed
pub outside-head : (f : OpeningChoice → OpeningChoice) (l : Level) (path : Path) → Alike (f l.content) l.content → outside_of (changed_level f l ∷ path) ≡ outside_of (l ∷ path)
outside-head f l path h =
    outside-step (changed_level f l) path
    ∙ alike-within l.tag l.start (length path) (f l.content) l.content path h
    ∙ sym (outside-step l path)

-- those around it are changed
outside-tail : (l : Level) (p q : Path) → length p ≡ length q → outside_of p ≡ outside_of q → outside_of (l ∷ p) ≡ outside_of (l ∷ q)
outside-tail l p q e o =
    outside-step l p
    ∙ ap (λ n. within l.tag l.start l.content n (outside_of p)) e
    ∙ ap (within l.tag l.start l.content (length q)) o
    ∙ sym (outside-step l q)

length-changed : (n : ℕ) (f : OpeningChoice → OpeningChoice) (ls : Path) → length (changed n f ls) ≡ length ls
length-changed n f [] = refl
length-changed zero f (l ∷ ls) = refl
length-changed (suc n) f (l ∷ ls) = ap suc (length-changed n f ls)

-- how a content is changed leaves what the containers say of any
abbrev pub Keeps : (OpeningChoice → OpeningChoice) → Type 0
Keeps f = (c : OpeningChoice) → Alike (f c) c

outside-changed : (n : ℕ) (f : OpeningChoice → OpeningChoice) (ls : Path) → Keeps f → outside_of (changed n f ls) ≡ outside_of ls
outside-changed n f [] h = refl
outside-changed zero f (l ∷ ls) h = outside-head f l ls (h l.content)
outside-changed (suc n) f (l ∷ ls) h = outside-tail l (changed n f ls) ls (length-changed n f ls) (outside-changed n f ls h)

-- what all of them say is left
pub outsides-changed : (n : ℕ) (f : OpeningChoice → OpeningChoice) (ls : Path) → Keeps f → outsides (changed n f ls) ≡ outsides ls
outsides-changed n f [] h = refl
outsides-changed zero f (l ∷ ls) h = ap (λ o. o ∷ outsides ls) (outside-head f l ls (h l.content))
outsides-changed (suc n) f (l ∷ ls) h =
    ap (λ o. o ∷ outsides (changed n f ls)) (outside-changed (suc n) f (l ∷ ls) h)
    ∙ ap (λ x. outside_of (l ∷ ls) ∷ x) (outsides-changed n f ls h)

pub wider-keeps : (k : ℕ) → Keeps (wider k)
wider-keeps k Plain = record { bullet = refl; hyphen = refl; token = refl }
wider-keeps k (Underlined b) = record { bullet = refl; hyphen = refl; token = refl }
wider-keeps k (Fence f) = record { bullet = refl; hyphen = refl; token = refl }
wider-keeps k (HtmlEnds blank closed) = record { bullet = refl; hyphen = refl; token = refl }
wider-keeps k (Listed c) = record { bullet = refl; hyphen = refl; token = refl }
wider-keeps k (Defined b) = record { bullet = refl; hyphen = refl; token = refl }
wider-keeps k (Headers ns) = record { bullet = refl; hyphen = refl; token = refl }
wider-keeps k (Width n) = record { bullet = refl; hyphen = refl; token = refl }
wider-keeps k (Delimited before after) = record { bullet = refl; hyphen = refl; token = refl }
wider-keeps k (Named b) = record { bullet = refl; hyphen = refl; token = refl }

pub with-width-keeps : (k : ℕ) → Keeps (with_width k)
with-width-keeps k Plain = record { bullet = refl; hyphen = refl; token = refl }
with-width-keeps k (Underlined b) = record { bullet = refl; hyphen = refl; token = refl }
with-width-keeps k (Fence f) = record { bullet = refl; hyphen = refl; token = refl }
with-width-keeps k (HtmlEnds blank closed) = record { bullet = refl; hyphen = refl; token = refl }
with-width-keeps k (Listed c) = record { bullet = refl; hyphen = refl; token = refl }
with-width-keeps k (Defined b) = record { bullet = refl; hyphen = refl; token = refl }
with-width-keeps k (Headers ns) = record { bullet = refl; hyphen = refl; token = refl }
with-width-keeps k (Width n) = record { bullet = refl; hyphen = refl; token = refl }
with-width-keeps k (Delimited before after) = record { bullet = refl; hyphen = refl; token = refl }
with-width-keeps k (Named b) = record { bullet = refl; hyphen = refl; token = refl }

both-numbers : (c : OpeningChoice) (n : Option ℕ) → has_number c ≡ is_some n → Alike (numbered n c) c
both-numbers Plain n e = record { bullet = refl; hyphen = refl; token = refl }
both-numbers (Underlined b) n e = record { bullet = refl; hyphen = refl; token = refl }
both-numbers (Fence f) n e = record { bullet = refl; hyphen = refl; token = refl }
both-numbers (HtmlEnds blank closed) n e = record { bullet = refl; hyphen = refl; token = refl }
both-numbers (Listed c) n e = go c.number n e
  where
    go : (m n : Option ℕ) → is_some m ≡ is_some n → Alike (Listed (record c { number = n })) (Listed (record c { number = m }))
    go (Some m) (Some n) e = record { bullet = refl; hyphen = refl; token = refl }
    go None None e = record { bullet = refl; hyphen = refl; token = refl }
    go (Some m) None e = absurd (true≢false e)
    go None (Some n) e = absurd (false≢true e)
both-numbers (Defined b) n e = record { bullet = refl; hyphen = refl; token = refl }
both-numbers (Headers ns) n e = record { bullet = refl; hyphen = refl; token = refl }
both-numbers (Width k) n e = record { bullet = refl; hyphen = refl; token = refl }
both-numbers (Delimited before after) n e = record { bullet = refl; hyphen = refl; token = refl }
both-numbers (Named b) n e = record { bullet = refl; hyphen = refl; token = refl }

-- a list that goes on with another number leaves what all of them say
pub outsides-renumbered : (number : Option ℕ) (path : Path) → is_counted path ≡ is_some number → outsides (renumbered number path) ≡ outsides path
outsides-renumbered number [] e = refl
outsides-renumbered number (l ∷ path) e = ap (λ o. o ∷ outsides path) (outside-head (numbered number) l path (both-numbers l.content number e))

-- ---- the nearest one of a kind

-- the content of the nearest one changed
abbrev at_nearest : (TagView → Bool) → (OpeningChoice → OpeningChoice) → Path → Path
at_nearest test f [] = []
at_nearest test f (l ∷ path) = if test l.tag then changed_level f l ∷ path else l ∷ at_nearest test f path

at-cell : (k : ℕ) (path : Path) → at_nearest is_cell (wider k) path ≡ widened k path
at-cell k [] = refl
at-cell k (l ∷ path) = ap (λ r. if is_cell l.tag then changed_level (wider k) l ∷ path else l ∷ r) (at-cell k path)

at-table : (k : ℕ) (path : Path) → at_nearest is_table (with_width k) path ≡ with_header k path
at-table k [] = refl
at-table k (l ∷ path) = ap (λ r. if is_table l.tag then changed_level (with_width k) l ∷ path else l ∷ r) (at-table k path)

-- if there is one, its place is one of theirs
pub nearest-bound : (test : TagView → Bool) (path : Path) (i : ℕ) → outside_nearest test path ≡ Some i → i < length path
nearest-bound test [] i e = absurd (false≢true (ap is_some e))
nearest-bound test (l ∷ path) i e = by_case (test l.tag) e (nearest-bound test path i)
  where
    by_case : (b : Bool) → (if b then Some (length path) else outside_nearest test path) ≡ Some i → (outside_nearest test path ≡ Some i → i < length path) → i < length (l ∷ path)
    by_case true e h = let same : length path ≡ i = ap (λ o. unwrap_or o 0) e in omega (arith, same)
    by_case false e h = let less = h e in omega (arith, less)

nearest-changed : (test : TagView → Bool) (f : OpeningChoice → OpeningChoice) (path : Path) (i n : ℕ) → outside_nearest test path ≡ Some i → n + i + 1 ≡ length path → changed n f path ≡ at_nearest test f path
nearest-changed test f [] i n e s = absurd (omega (arith, s))
nearest-changed test f (l ∷ path) i n e s = by_case (test l.tag) n e s (λ e m. nearest-changed test f path i m e)
  where
    by_case : (b : Bool) (n : ℕ) → (if b then Some (length path) else outside_nearest test path) ≡ Some i → n + i + 1 ≡ length (l ∷ path) → (outside_nearest test path ≡ Some i → (m : ℕ) → m + i + 1 ≡ length path → changed m f path ≡ at_nearest test f path) → changed n f (l ∷ path) ≡ (if b then changed_level f l ∷ path else l ∷ at_nearest test f path)
    by_case true zero e s h = refl
    by_case true (suc n) e s h = let same : length path ≡ i = ap (λ o. unwrap_or o 0) e in absurd (omega (arith, same, s))
    by_case false zero e s h = let less = nearest-bound test path i e in absurd (omega (arith, less, s))
    by_case false (suc n) e s h = ap (λ r. l ∷ r) (h e n (omega (arith, s)))

-- if there is none, nothing is changed
nearest-none : (test : TagView → Bool) (f : OpeningChoice → OpeningChoice) (path : Path) → outside_nearest test path ≡ None → at_nearest test f path ≡ path
nearest-none test f [] e = refl
nearest-none test f (l ∷ path) e = by_case (test l.tag) e (nearest-none test f path)
  where
    by_case : (b : Bool) → (if b then Some (length path) else outside_nearest test path) ≡ None → (outside_nearest test path ≡ None → at_nearest test f path ≡ path) → (if b then changed_level f l ∷ path else l ∷ at_nearest test f path) ≡ l ∷ path
    by_case true e h = absurd (true≢false (ap is_some e))
    by_case false e h = ap (λ r. l ∷ r) (h e)

-- the nearest one is at its place
nearest-at : (test : TagView → Bool) (path : Path) (d : Level) (i n : ℕ) → outside_nearest test path ≡ Some i → n + i + 1 ≡ length path → nearest test path ≡ Some (get_or path n d)
nearest-at test [] d i n e s = absurd (omega (arith, s))
nearest-at test (l ∷ path) d i n e s = by_case (test l.tag) n e s (λ e m. nearest-at test path d i m e)
  where
    by_case : (b : Bool) (n : ℕ) → (if b then Some (length path) else outside_nearest test path) ≡ Some i → n + i + 1 ≡ length (l ∷ path) → (outside_nearest test path ≡ Some i → (m : ℕ) → m + i + 1 ≡ length path → nearest test path ≡ Some (get_or path m d)) → (if b then Some l else nearest test path) ≡ Some (get_or (l ∷ path) n d)
    by_case true zero e s h = refl
    by_case true (suc n) e s h = let same : length path ≡ i = ap (λ o. unwrap_or o 0) e in absurd (omega (arith, same, s))
    by_case false zero e s h = let less = nearest-bound test path i e in absurd (omega (arith, less, s))
    by_case false (suc n) e s h = h e n (omega (arith, s))

-- if there is none of a kind, none is the nearest
pub no-nearest : (test : TagView → Bool) (path : Path) → outside_nearest test path ≡ None → None ≡ nearest test path
no-nearest test [] e = refl
no-nearest test (l ∷ path) e = by_case (test l.tag) e (no-nearest test path)
  where
    by_case : (b : Bool) → (if b then Some (length path) else outside_nearest test path) ≡ None → (outside_nearest test path ≡ None → None ≡ nearest test path) → None ≡ (if b then Some l else nearest test path)
    by_case true e h = absurd (true≢false (ap is_some e))
    by_case false e h = h e

-- the nearest one of a kind is the container that was found
pub nearest-found : (test : TagView → Bool) (ks : List Kept) (i : ℕ) (k : Kept) → outside_nearest test (seen present ks) ≡ Some i → k ≡ get_or ks i k → Some (present k) ≡ nearest test (seen present ks)
nearest-found test ks i k e at =
    let count = seen-length present ks in
    let less : i < length ks = omega (arith, nearest-bound test (seen present ks) i e, count) in
    let n : ℕ = length ks - 1 - i in
    let levels : List Level = map present ks in
    let place : length levels - 1 - n ≡ i = omega (arith, length-map ks present, less) in
    ap (λ x. Some (present x)) at
    ∙ ap Some (sym (get_or-map present ks i k))
    ∙ ap (λ m. Some (get_or levels m (present k))) (sym place)
    ∙ ap Some (sym (get_or-reverse levels n (present k) (omega (arith, length-map ks present, less))))
    ∙ sym (nearest-at test (seen present ks) (present k) i n e (omega (arith, count, less)))

-- the nearest cell is the one that was found
pub cell-found : (k : ℕ) (path : Path) (i n : ℕ) → outside_nearest is_cell path ≡ Some i → n + i + 1 ≡ length path → changed n (wider k) path ≡ widened k path
cell-found k path i n e s = nearest-changed is_cell (wider k) path i n e s ∙ at-cell k path

pub no-cell : (k : ℕ) (path : Path) → outside_nearest is_cell path ≡ None → path ≡ widened k path
no-cell k path e = sym (nearest-none is_cell (wider k) path e) ∙ at-cell k path

-- the nearest table is the one that was found
pub table-found : (k : ℕ) (path : Path) (i n : ℕ) → outside_nearest is_table path ≡ Some i → n + i + 1 ≡ length path → changed n (with_width k) path ≡ with_header k path
table-found k path i n e s = nearest-changed is_table (with_width k) path i n e s ∙ at-table k path

pub no-table : (k : ℕ) (path : Path) → outside_nearest is_table path ≡ None → path ≡ with_header k path
no-table k path e = sym (nearest-none is_table (with_width k) path e) ∙ at-table k path
