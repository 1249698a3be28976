-- What is open after a text: after empty lines in front of it, and after an item that it makes.
use Rattle.std.proofs.Common.{◌≡◌, ℕ, zero, suc, ◌+◌, ◌^◌, ◌<◌, Bool, ◌||◌, List, [], ◌∷◌, ◌++◌, length, map, replicate, refl, ap, ◌∙◌, arith, length-append}
use Rattle.std.specs.Prelude.{Some}
use Rattle.tocmark_read_lines.specs.Lines.{lines_of}
use Rattle.tocmark_read_lines.specs.declared.container.ItemStart.{ItemStart}
use Rattle.tocmark_read_lines.specs.declared.container.Opened.{Opened}
use Rattle.tocmark_read_page.specs.Pages.{State, is_quote}
use Rattle.tocmark_text_laws.specs.Further.{opened_on}
use Rattle.tocmark_text_laws.specs.Items.{ListMark, Bullet, Numbered, ItemMark, item_text}
use Rattle.tocmark_text_laws.specs.Sequence.{after_lines, ends_before_blank}
use Rattle.tocmark_text_laws.specs.ListEnds.{list_mark, outer_mark, has_quote, ends_leaf}
use Rattle.tocmark_text_laws.specs.OneMoreItem.{last_byte, LeavesItem, ItemsLeaveTheirList}
use Rattle.tocmark_text_laws.proofs.Endings.{lines-end}
use Rattle.tocmark_text_laws.proofs.Front.{run_in_front}
use Rattle.tocmark_text_laws.proofs.Machine.{On}
use Rattle.tocmark_text_laws.proofs.Moved.{copies_length}
use Rattle.tocmark_text_laws.proofs.Pairs.{Afters, Pairs}
use Rattle.tocmark_text_laws.proofs.QuotedLines.{some_line}
use Rattle.tocmark_text_laws.proofs.Sorted.{containers}
use Rattle.tocmark_text_laws.proofs.ItemContainers.{OpenedIn, IsOuterList, IsOuterItem}
use Rattle.tocmark_text_laws.proofs.ItemMarks.{mark_sort, item_of}
use Rattle.tocmark_text_laws.proofs.ItemLines.{item_lines, first_leads}
use Rattle.tocmark_text_laws.proofs.ItemRun.{Reaches, line_begins, begins_some, run_first}

-- pages on which the same containers and the same leaf are open
pub record SameOpen (s u : State) : Type 0 where
  pub held : containers s.opened ≡ containers u.opened
  pub leaf : s.leaf ≡ u.leaf

held_on : (os : List Opened) → containers (map opened_on os) ≡ containers os
held_on [] = refl
held_on (o ∷ os) = ap (λ cs. o.container ∷ cs) (held_on os)

-- empty lines in front change nothing of that
pub open_after : (n : ℕ) (u : List ℕ) → n + length u + 3 < 2 ^ 64 → SameOpen (after_lines (replicate n 10 ++ u)) (after_lines u)
open_after zero u small = record { held = refl; leaf = refl }
open_after (suc n) u small = by (after_lines (10 ∷ rest)) (after_lines rest) (run_in_front rest (omega (arith, small, length-append (replicate n 10) u, copies_length n 10))) (open_after n u (omega (arith, small)))
  where
    rest : List ℕ
    rest = replicate n 10 ++ u

    by : (s' s : State) → On s' s → SameOpen s (after_lines u) → SameOpen s' (after_lines u)
    by s' s (e, l, p, tied) h = record {
      held = ap (λ (x : State). containers x.opened) p ∙ held_on s.opened ∙ h.held;
      leaf = ap (λ (x : State). x.leaf) p ∙ h.leaf;
    }

-- what is seen of the containers alone

pub marks_same : (xs ys : List Opened) → containers xs ≡ containers ys → outer_mark xs ≡ outer_mark ys
marks_same [] [] e = refl
marks_same [] (y ∷ ys) e = absurd cc
marks_same (x ∷ xs) [] e = absurd cc
marks_same (x ∷ xs) (y ∷ ys) e = let z : x.container ≡ y.container = cc in ap list_mark z

quotes_same : (xs ys : List Opened) → containers xs ≡ containers ys → has_quote xs ≡ has_quote ys
quotes_same [] [] e = refl
quotes_same [] (y ∷ ys) e = absurd cc
quotes_same (x ∷ xs) [] e = absurd cc
quotes_same (x ∷ xs) (y ∷ ys) e =
    let z : x.container ≡ y.container = cc in
    let w : containers xs ≡ containers ys = cc in
    ap (λ c. is_quote c || has_quote xs) z ∙ ap (λ b. is_quote y.container || b) (quotes_same xs ys w)

pub ends_same : (s u : State) → SameOpen s u → ends_leaf s ≡ ends_leaf u
ends_same s u h = ap (λ b. b || ends_before_blank s.leaf) (quotes_same s.opened u.opened h.held) ∙ ap (λ k. has_quote u.opened || ends_before_blank k) h.leaf

-- after an item

inner_quotes : (xs ys : List Opened) → Pairs OpenedIn xs ys → has_quote xs ≡ has_quote ys
inner_quotes [] [] h = refl
inner_quotes [] (y ∷ ys) h = absurd h
inner_quotes (x ∷ xs) [] h = absurd h
inner_quotes (x ∷ xs) (y ∷ ys) h = ap (λ c. is_quote c || has_quote xs) (h.0).container ∙ ap (λ b. is_quote y.container || b) (inner_quotes xs ys (h.1))

outer_is : (item : ItemStart) (xs ys : List Opened) → Afters (IsOuterList item) (IsOuterItem item) OpenedIn xs ys → (outer_mark xs ≡ Some item.sort) × (has_quote xs ≡ has_quote ys)
unfolding is_quote
outer_is item [] ys h = absurd h
outer_is item (x ∷ []) ys h = absurd (h.1)
outer_is item (x ∷ z ∷ xs) ys h = (
  ap list_mark (h.0).list,
  ap (λ c. is_quote c || (is_quote z.container || has_quote xs)) (h.0).list ∙ ap (λ c. is_quote c || has_quote xs) (h.1.0).held ∙ inner_quotes xs ys (h.1.1),
)

sort_byte : (m : ListMark) → mark_sort m ≡ last_byte m
sort_byte (Bullet b) = refl
sort_byte (Numbered digits b) = refl

leaves_by : (m : ItemMark) (bare : ℕ → Bool) (t : List ℕ) → Reaches (item_of m) t (item_text m bare t) (after_lines (item_text m bare t)) (after_lines t) → LeavesItem m bare t
leaves_by m bare t (n, h) = record {
  list = opens.0 ∙ ap Some (sort_byte m.mark);
  ends = ap (λ b. b || ends_before_blank (after_lines (item_text m bare t)).leaf) (opens.1) ∙ ap (λ k. has_quote (after_lines t).opened || ends_before_blank k) h.leaf;
}
  where
    opens : (outer_mark (after_lines (item_text m bare t)).opened ≡ Some (mark_sort m.mark)) × (has_quote (after_lines (item_text m bare t)).opened ≡ has_quote (after_lines t).opened)
    opens = outer_is (item_of m) (after_lines (item_text m bare t)).opened (after_lines t).opened h.opened.after

pub items_leave : ItemsLeaveTheirList
items_leave m bare t ok starts plain break fits =
    leaves_by m bare t
    (run_first m t (item_text m bare t) (lines_of (item_text m bare t)) (lines_of t) (record { kind = ok; begins = starts; break = break }) (item_lines m bare t ok (begins_some m t starts) plain fits) (first_leads t (line_begins m t starts)) (lines-end t (omega (arith, fits))) (some_line t (begins_some m t starts)))
