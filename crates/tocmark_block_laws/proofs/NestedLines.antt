-- The lines of an item where lists are open in each other, and the lines after it.
use Rattle.std.proofs.Common.{◌≡◌, ℕ, suc, ◌+◌, ◌≤◌, Bool, true, false, not, cond, ◌||◌, if◌then◌else◌, nat_le, List, [], ◌∷◌, ◌++◌, length, map, refl, ap, sym, subst, ◌∙◌, arith, append_assoc, append-nil, true≢false}
use Rattle.std.specs.Prelude.{take_while, Option, Some, None}
use Rattle.std.specs.List.{AllByRecursion, fold, list_any}
use Rattle.std.proofs.lemmas.List.Sums.{take_while-cons}
use Rattle.tocmark_read_lines.specs.Cells.{first_cursor}
use Rattle.tocmark_read_lines.specs.Marks.{heading_at, fence_at, tail_of, is_rule, marker_at}
use Rattle.tocmark_read_lines.specs.declared.beginnings.Fence.{Fence}
use Rattle.tocmark_read_lines.specs.declared.beginnings.Heading.{Heading}
use Rattle.tocmark_read_lines.specs.declared.beginnings.Marker.{Marker}
use Rattle.tocmark_read_lines.specs.declared.cell.Cell.{Cell}
use Rattle.tocmark_read_lines.specs.declared.container.Container.{Container}
use Rattle.tocmark_read_lines.specs.declared.container.Container.TheVariants as container
use Rattle.tocmark_read_lines.specs.declared.html.HtmlKind.{HtmlKind}
use Rattle.tocmark_read_page.specs.Pages.{State}
use Rattle.tocmark_read_blocks.specs.Blocks.{line_taken}
use Rattle.tocmark_commonmark.specs.Lines.{Line as DeclaredLine, Part, Written, Lazy, is_blank, is_blank_line, indent, ink, line_bytes, without_columns, cells}
use Rattle.tocmark_commonmark.specs.Tree.{Found, ends_open}
use Rattle.tocmark_commonmark.specs.Beginnings.{ItemMark, Beginning, BlankLine, CodeLine, QuoteLine, HeadingLine, FenceLine, HtmlLine, RuleLine, ItemLine, TextLine, LazyLine, first_of_these, html_if, begins_with, beginning_of, beginning, interrupts, may_be_lazy}
use Rattle.tocmark_commonmark.specs.Containers.{goes_on, front, lazily, in_item_as, in_item, item_lines}
use Rattle.tocmark_block_laws.specs.Lists.{belongs, inner_line, is_text, is_nested_line}
use Rattle.tocmark_block_laws.proofs.Within.{Come, come_shown, inward, inward_shown, inward_low}

-- only a blank line begins nothing

near_ink : (part : Part) (q : Bool) (h : Option Heading) (f : Option Fence) (k : Option HtmlKind) (r : Bool) (m : Option Marker) → first_of_these part q h f k r m ≡ BlankLine → ⊥
near_ink part true h f k r m e = absurd cc
near_ink part false (Some x) f k r m e = absurd cc
near_ink part false None (Some f) k r m e = absurd cc
near_ink part false None None (Some k) r m e = absurd cc
near_ink part false None None None true m e = absurd cc
near_ink part false None None None false (Some m) e = absurd cc
near_ink part false None None None false None e = absurd cc

is_blank_part : (p : Part) (blank far : Bool) → beginning_of p blank far ≡ BlankLine → blank ≡ true
is_blank_part p true far e = refl
is_blank_part p false true e = absurd cc
is_blank_part p false false e =
    let c : List Cell = cells (ink p) in
    absurd (near_ink p (begins_with 62 (ink p)) (heading_at c 0) (fence_at c (first_cursor c)) (html_if (begins_with 60 (ink p)) (ink p)) (is_rule c (tail_of c) 0) (marker_at c 0) e)

pub blank_part : (p : Part) → beginning (Written p) ≡ BlankLine → is_blank p.bytes ≡ true
unfolding beginning
blank_part p e = is_blank_part p (is_blank p.bytes) (nat_le 4 (indent p)) e

-- a line comes into a page
abbrev pub comes : (text : List ℕ) (ks : List Container) → State → Come text ks → State
comes text ks s v = line_taken text s v.line

-- lines as the declaration has them
abbrev pub all_shown : (text : List ℕ) (ks : List Container) → List (Come text ks) → List DeclaredLine
all_shown text ks cs = map (come_shown text ks) cs

-- they are numbered from there on
abbrev pub Counted : (text : List ℕ) (ks : List Container) → ℕ → List (Come text ks) → Type 0
Counted text ks n [] = Unit {0}
Counted text ks n (v ∷ cs) = (v.line.number ≡ n) × Counted text ks (suc n) cs

-- their bytes, and one for each
abbrev pub weigh : List DeclaredLine → ℕ
weigh [] = 0
weigh (l ∷ ls) = suc (length (line_bytes l)) + weigh ls

-- each belongs to an item, and is blank in it if it is
abbrev pub Keep : ℕ → List DeclaredLine → Type 0
Keep width ls = AllByRecursion (λ l. (belongs width l ≡ true) × (is_blank_line (inner_line width l) ≡ is_blank_line l)) ls

-- the first of lines, if there is one, is outside an item
abbrev pub Outside : (text : List ℕ) (ks : List Container) → ℕ → List (Come text ks) → Type 0
Outside text ks width [] = Unit {0}
Outside text ks width (v ∷ cs) = belongs width (come_shown text ks v) ≡ false

abbrev pub item_kinds : List Container → ℕ → ℕ → List Container
item_kinds ks sort width = ks ++ container.List sort ∷ container.Item width ∷ []

-- lines that belong to an item, and those after them
pub record Parted (text : List ℕ) (ks : List Container) (sort width : ℕ) (cs : List (Come text ks)) (ls : List DeclaredLine) : Type 0 where
  pub ins : List (Come text (item_kinds ks sort width))
  pub outs : List (Come text ks)
  pub shown : all_shown text (item_kinds ks sort width) ins ≡ map (inner_line width) ls
  pub whole : all_shown text ks cs ≡ ls ++ all_shown text ks outs
  pub reads : (s : State) → fold (comes text ks) s cs ≡ fold (comes text ks) (fold (comes text (item_kinds ks sort width)) s ins) outs
  pub numbers : (n : ℕ) → Counted text ks n cs → Counted text (item_kinds ks sort width) n ins × Counted text ks (n + length ins) outs
  pub weighs : weigh (all_shown text (item_kinds ks sort width) ins) + weigh (all_shown text ks outs) ≤ weigh (all_shown text ks cs)
  pub count : length cs ≡ length ins + length outs
  pub long : length ins ≡ length ls
  pub keeps : Keep width ls
  pub ends : Outside text ks width outs

pub parted : (text : List ℕ) (ks : List Container) (sort width : ℕ) → 2 ≤ width → (cs : List (Come text ks)) → Parted text ks sort width cs (take_while (belongs width) (all_shown text ks cs))
unfolding inward
parted text ks sort width wide [] = record {
  ins = [];
  outs = [];
  shown = refl;
  whole = refl;
  reads = λ s. refl;
  numbers = λ n h. (tt, tt);
  weighs = omega arith;
  count = omega arith;
  long = refl;
  keeps = tt;
  ends = tt;
}
parted text ks sort width wide (v ∷ cs) = by (belongs width l) refl (parted text ks sort width wide cs)
  where
    l : DeclaredLine
    l = come_shown text ks v

    rest : List DeclaredLine
    rest = take_while (belongs width) (all_shown text ks cs)

    front_is : (k : Bool) → belongs width l ≡ k → take_while (belongs width) (l ∷ all_shown text ks cs) ≡ cond k (l ∷ rest) []
    front_is k e = take_while-cons (belongs width) l (all_shown text ks cs) ∙ ap (λ b. cond b (l ∷ rest) []) e

    goes : belongs width l ≡ true → Parted text ks sort width cs rest → Parted text ks sort width (v ∷ cs) (l ∷ rest)
    goes e r = record {
      ins = w ∷ r.ins;
      outs = r.outs;
      shown = ap (λ x. x ∷ all_shown text (item_kinds ks sort width) r.ins) (inward_shown text ks sort width wide v e) ∙ ap (λ xs. inner_line width l ∷ xs) r.shown;
      whole = ap (λ xs. l ∷ xs) r.whole;
      reads = λ s. r.reads (line_taken text s v.line);
      numbers = λ n h. let q = r.numbers (suc n) (h.1) in ((h.0, q.0), subst (λ m. Counted text ks m r.outs) (let m : suc n + length r.ins ≡ n + suc (length r.ins) = omega arith in m) (q.1));
      weighs = (let low : weigh (all_shown text (item_kinds ks sort width) r.ins) + weigh (all_shown text ks r.outs) ≤ weigh (all_shown text ks cs) = r.weighs in omega (arith, low, inward_low text ks sort width wide v e));
      count = (let q : length cs ≡ length r.ins + length r.outs = r.count in omega (arith, q));
      long = ap suc r.long;
      keeps = ((e, ap is_blank_line (sym (inward_shown text ks sort width wide v e)) ∙ w.same ∙ sym v.same), r.keeps);
      ends = r.ends;
    }
      where
        w : Come text (item_kinds ks sort width)
        w = inward text ks sort width wide v e

    by : (k : Bool) → belongs width l ≡ k → Parted text ks sort width cs rest → Parted text ks sort width (v ∷ cs) (take_while (belongs width) (l ∷ all_shown text ks cs))
    by true e r = subst (λ ls. Parted text ks sort width (v ∷ cs) ls) (sym (front_is true e)) (goes e r)
    by false e r = subst (λ ls. Parted text ks sort width (v ∷ cs) ls) (sym (front_is false e)) (record {
      ins = [];
      outs = v ∷ cs;
      shown = refl;
      whole = refl;
      reads = λ s. refl;
      numbers = λ n h. (tt, subst (λ m. Counted text ks m (v ∷ cs)) (let m : n ≡ n + 0 = omega arith in m) h);
      weighs = omega arith;
      count = omega arith;
      long = refl;
      keeps = tt;
      ends = e;
    })

-- the last line

pub ends_append : (was : Bool) (xs : List DeclaredLine) (y : DeclaredLine) (ys : List DeclaredLine) → fold (λ (k : Bool) (l : DeclaredLine). is_blank_line l) was (xs ++ y ∷ ys) ≡ fold (λ (k : Bool) (l : DeclaredLine). is_blank_line l) (is_blank_line y) ys
ends_append was [] y ys = refl
ends_append was (x ∷ xs) y ys = ends_append (is_blank_line x) xs y ys

pub ends_inner : (width : ℕ) (was : Bool) (ls : List DeclaredLine) → Keep width ls → fold (λ (k : Bool) (l : DeclaredLine). is_blank_line l) was (map (inner_line width) ls) ≡ fold (λ (k : Bool) (l : DeclaredLine). is_blank_line l) was ls
ends_inner width was [] h = refl
ends_inner width was (l ∷ ls) h = ap (λ k. fold (λ (b : Bool) (x : DeclaredLine). is_blank_line x) k (map (inner_line width) ls)) ((h.0).1) ∙ ends_inner width (is_blank_line l) ls (h.1)

-- the declared lines of an item

abbrev some_ink : List DeclaredLine → Bool
some_ink inside = list_any (λ l. not (is_blank_line l)) inside

some_more : (xs ys : List DeclaredLine) → some_ink xs ≡ true → some_ink (xs ++ ys) ≡ true
some_more [] ys e = absurd (true≢false (sym e))
some_more (x ∷ xs) ys e = by (not (is_blank_line x)) refl e (λ q. some_more xs ys q)
  where
    by : (k : Bool) → not (is_blank_line x) ≡ k → (k || some_ink xs) ≡ true → (some_ink xs ≡ true → some_ink (xs ++ ys) ≡ true) → some_ink (x ∷ (xs ++ ys)) ≡ true
    by true p q again = ap (λ k. k || some_ink (xs ++ ys)) p
    by false p q again = ap (λ k. k || some_ink (xs ++ ys)) p ∙ again q

goes_in : (blocks : List DeclaredLine → List Found) (width : ℕ) (inside : List DeclaredLine) (l : DeclaredLine) → belongs width l ≡ true → some_ink inside ≡ true → in_item blocks width inside l ≡ Some (inner_line width l)
goes_in blocks width inside (Lazy bytes) e h = absurd (true≢false (sym e))
goes_in blocks width inside (Written p) e h = by (is_blank p.bytes) (nat_le width (indent p)) e
  where
    by : (b f : Bool) → (b || f) ≡ true → in_item_as blocks width inside p b f ≡ Some (Written (without_columns width p))
    by true f q = ap (λ k. if k then Some (Written (without_columns width p)) else None) h
    by false true q = refl
    by false false q = absurd (true≢false (sym q))

-- the first of these lines doesn't go on in the item
abbrev pub Stops : (List DeclaredLine → List Found) → ℕ → List DeclaredLine → List DeclaredLine → Type 0
Stops blocks width inside [] = Unit {0}
Stops blocks width inside (x ∷ xs) = in_item blocks width inside x ≡ None

front_in : (blocks : List DeclaredLine → List Found) (width : ℕ) (inside ls outs : List DeclaredLine) → Keep width ls → some_ink inside ≡ true → Stops blocks width (inside ++ map (inner_line width) ls) outs
    → front (in_item blocks width) inside (ls ++ outs) ≡ inside ++ map (inner_line width) ls
front_in blocks width inside [] [] h some stop = sym (append-nil inside)
front_in blocks width inside [] (x ∷ xs) h some stop =
    ap (goes_on (λ y. front (in_item blocks width) (inside ++ y ∷ []) xs) inside) (subst (λ ys. in_item blocks width ys x ≡ None) (append-nil inside) stop) ∙ sym (append-nil inside)
front_in blocks width inside (l ∷ ls) outs h some stop =
    ap (goes_on (λ y. front (in_item blocks width) (inside ++ y ∷ []) (ls ++ outs)) inside) (goes_in blocks width inside l ((h.0).0) some)
    ∙ front_in blocks width (inside ++ inner_line width l ∷ []) ls outs (h.1) (some_more inside (inner_line width l ∷ []) some)
    (subst (λ ys. Stops blocks width ys outs) (sym joined) stop)
    ∙ joined
  where
    joined : (inside ++ inner_line width l ∷ []) ++ map (inner_line width) ls ≡ inside ++ map (inner_line width) (l ∷ ls)
    joined = append_assoc inside (inner_line width l ∷ []) (map (inner_line width) ls)

pub item_is : (blocks : List DeclaredLine → List Found) (m : ItemMark) (ls outs : List DeclaredLine) → Keep m.width ls → is_blank_line (Written m.first) ≡ false → Stops blocks m.width (Written m.first ∷ map (inner_line m.width) ls) outs
    → item_lines blocks m (ls ++ outs) ≡ Written m.first ∷ map (inner_line m.width) ls
item_is blocks m ls outs h ink stop = front_in blocks m.width (Written m.first ∷ []) ls outs h (ap (λ k. not k || false) ink) stop

-- a line outside is no part of the item if it continues no paragraph there

abbrev pub is_nested_kind : Beginning → Bool
is_nested_kind BlankLine = true
is_nested_kind (HeadingLine h) = true
is_nested_kind RuleLine = true
is_nested_kind (ItemLine m) = true
is_nested_kind TextLine = true
is_nested_kind b = false

pub nested_kind : (nested : List DeclaredLine → Bool) (l : DeclaredLine) (ls : List DeclaredLine) (k : Beginning) → is_nested_line nested l ls k ≡ true → is_nested_kind k ≡ true
nested_kind nested l ls BlankLine e = refl
nested_kind nested l ls CodeLine e = absurd (true≢false (sym e))
nested_kind nested l ls QuoteLine e = absurd (true≢false (sym e))
nested_kind nested l ls (HeadingLine h) e = refl
nested_kind nested l ls (FenceLine f) e = absurd (true≢false (sym e))
nested_kind nested l ls (HtmlLine k) e = absurd (true≢false (sym e))
nested_kind nested l ls RuleLine e = refl
nested_kind nested l ls (ItemLine m) e = refl
nested_kind nested l ls TextLine e = refl
nested_kind nested l ls LazyLine e = absurd (true≢false (sym e))

lazily_not : (blocks : List DeclaredLine → List Found) (inside : List DeclaredLine) (bytes : List ℕ) (k : Beginning) → is_nested_kind k ≡ true → (is_text k ≡ true → ends_open (length inside) (blocks inside) ≡ false) → lazily blocks inside bytes (may_be_lazy k) ≡ None
unfolding may_be_lazy interrupts
lazily_not blocks inside bytes BlankLine e h = refl
lazily_not blocks inside bytes CodeLine e h = absurd (true≢false (sym e))
lazily_not blocks inside bytes QuoteLine e h = absurd (true≢false (sym e))
lazily_not blocks inside bytes (HeadingLine x) e h = refl
lazily_not blocks inside bytes (FenceLine f) e h = absurd (true≢false (sym e))
lazily_not blocks inside bytes (HtmlLine x) e h = absurd (true≢false (sym e))
lazily_not blocks inside bytes RuleLine e h = refl
lazily_not blocks inside bytes (ItemLine m) e h = refl
lazily_not blocks inside bytes TextLine e h = ap (λ k. if k then Some (Lazy bytes) else None) (h refl)
lazily_not blocks inside bytes LazyLine e h = absurd (true≢false (sym e))

pub not_in : (blocks : List DeclaredLine → List Found) (width : ℕ) (inside : List DeclaredLine) (l : DeclaredLine) → belongs width l ≡ false → is_nested_kind (beginning l) ≡ true → (is_text (beginning l) ≡ true → ends_open (length inside) (blocks inside) ≡ false) → in_item blocks width inside l ≡ None
unfolding beginning
not_in blocks width inside (Lazy bytes) e n h = absurd (true≢false (sym n))
not_in blocks width inside (Written p) e n h = by (is_blank p.bytes) (nat_le width (indent p)) e
  where
    by : (b f : Bool) → (b || f) ≡ false → in_item_as blocks width inside p b f ≡ None
    by true f q = absurd (true≢false q)
    by false true q = absurd (true≢false q)
    by false false q = lazily_not blocks inside (ink p) (beginning (Written p)) n h
