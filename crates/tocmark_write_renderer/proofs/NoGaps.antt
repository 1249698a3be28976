-- Inside a line there is no gap.
use Rattle.std.proofs.Common.{◌≡◌, ◌-◌, ◌==◌, ◌&&◌, Bool, true, false, not, Option, Some, None, refl, sym, ap, ◌∙◌, arith, replicate, if◌then◌else◌}
use Rattle.std.specs.Prelude.{is_none}
use Rattle.std.proofs.lemmas.Bool.{and_parts, eqb-true, false≢true}
use Rattle.tocmark_event.specs.View.{EventView, Start, End, Leaf, Text, Code, InlineMath, DisplayMath, Html, InlineHtml, FootnoteReference, SoftBreak, HardBreak, Rule, TaskListMarker}
use Rattle.tocmark_spelling.specs.Gap.{before_event, gap, raised_before, separated}
use Rattle.tocmark_spelling.specs.Page.{Page, Path, filled_to, laid, prefix_of, with_trail}
use Rattle.tocmark_spelling.specs.Places.{is_close}
use Rattle.tocmark_spelling.specs.declared.trail.Last.{Last}
use Rattle.tocmark_spelling.specs.declared.trail.Last.TheVariants.{Inline, Other, ItemStart, ItemEnd, ListEnd, DefinitionEnd, BlockEnd}
use Rattle.tocmark_spelling.specs.declared.trail.LastList.{LastList}
use Rattle.tocmark_write_renderer.specs.LineOf.{going_on, is_in_line, is_within, owes_nothing}

either-way : (b : Bool) (p : Page) → (if b then p else p) ≡ p
either-way true p = refl
either-way false p = refl

-- the page with a trail on which nothing is owed
abbrev quiet : Page → Option LastList → Bool → Last → Page
quiet p list raw l = with_trail (record { owed = 0; last = l; last_list = list; quote_line = None; raw_end = raw; open_html = false }) p

module _ (list : Option LastList) (raw : Bool) (path : Path) (p : Page) where
  abbrev here : Last → Page
  here l = quiet p list raw l

  abbrev there : Last → Page
  there l = quiet p None false l

  unfilled : (l : Last) → filled_to 0 path (there l) ≡ there l
  unfilled l =
      let none : 0 - p.sheet.feeds ≡ 0 = omega arith in
      ap (λ n. record (there l) { sheet = laid (prefix_of path) (replicate n 10) p.sheet }) none

  abbrev HasNoGap : EventView → Last → Type 0
  HasNoGap e l = gap e path (here l) ≡ there l

  -- the gap by what is before the event
  behind : (e : EventView) (l : Last) → before_event e path (here l) ≡ there l → separated e path (with_trail (raised_before e path (there l).trail) (there l)) ≡ there l → HasNoGap e l
  behind e l before last = ap (λ (q : Page). separated e path (with_trail (raised_before e path q.trail) q)) before ∙ last

  by-last : (e : EventView) (l : Last) → is_within l ≡ true → HasNoGap e Inline → HasNoGap e Other → HasNoGap e l
  by-last e Inline k one two = one
  by-last e Other k one two = two
  by-last e ItemStart k one two = absurd (false≢true k)
  by-last e (ItemEnd t) k one two = absurd (false≢true k)
  by-last e (ListEnd t) k one two = absurd (false≢true k)
  by-last e DefinitionEnd k one two = absurd (false≢true k)
  by-last e (BlockEnd t) k one two = absurd (false≢true k)

  in-line : (e : EventView) (l : Last) → is_in_line e ≡ true → is_within l ≡ true → HasNoGap e l
  in-line (Leaf (Text t)) l h k =
      let e : EventView = Leaf (Text t) in
      by-last e l k (behind e Inline (either-way (is_close path) (there Inline)) (unfilled Inline)) (behind e Other (either-way (is_close path) (there Other)) (unfilled Other))
  in-line (Leaf (Code t)) l h k =
      let e : EventView = Leaf (Code t) in
      by-last e l k (behind e Inline (either-way (is_close path) (there Inline)) (unfilled Inline)) (behind e Other (either-way (is_close path) (there Other)) (unfilled Other))
  in-line (Leaf (InlineHtml t)) l h k =
      let e : EventView = Leaf (InlineHtml t) in
      by-last e l k (behind e Inline (either-way (is_close path) (there Inline)) (unfilled Inline)) (behind e Other (either-way (is_close path) (there Other)) (unfilled Other))
  in-line (Leaf SoftBreak) l h k =
      let e : EventView = Leaf SoftBreak in
      by-last e l k (behind e Inline (either-way (is_close path) (there Inline)) refl) (behind e Other (either-way (is_close path) (there Other)) refl)
  in-line (Start t) l h k = absurd (false≢true h)
  in-line (End t) l h k = absurd (false≢true h)
  in-line (Leaf (InlineMath t)) l h k = absurd (false≢true h)
  in-line (Leaf (DisplayMath t)) l h k = absurd (false≢true h)
  in-line (Leaf (Html t)) l h k = absurd (false≢true h)
  in-line (Leaf (FootnoteReference t)) l h k = absurd (false≢true h)
  in-line (Leaf HardBreak) l h k = absurd (false≢true h)
  in-line (Leaf Rule) l h k = absurd (false≢true h)
  in-line (Leaf (TaskListMarker b)) l h k = absurd (false≢true h)

none-there : {X : Type 0} (o : Option X) → is_none o ≡ true → o ≡ None
none-there None h = refl
none-there (Some x) h = absurd (false≢true h)

shut : (b : Bool) → not b ≡ true → b ≡ false
shut true h = absurd (false≢true h)
shut false h = refl

-- a page on which nothing is owed, part by part
quiet-page : (p : Page) → p.trail.owed ≡ 0 → p.trail.open_html ≡ false → p.trail.quote_line ≡ None → p ≡ quiet p p.trail.last_list p.trail.raw_end p.trail.last
quiet-page p owed html line =
    ap (λ n. with_trail (record p.trail { owed = n }) p) owed
    ∙ ap (λ b. with_trail (record p.trail { owed = 0; open_html = b }) p) html
    ∙ ap (λ l. with_trail (record p.trail { owed = 0; open_html = false; quote_line = l }) p) line

pub gap-in-line : (e : EventView) (path : Path) (p : Page) → is_in_line e ≡ true → owes_nothing p.trail ≡ true → gap e path p ≡ going_on p
gap-in-line e path p h k =
    let t = p.trail in
    let first = and_parts (is_within t.last && (t.owed == 0) && not t.open_html) (is_none t.quote_line) k in
    let second = and_parts (is_within t.last && (t.owed == 0)) (not t.open_html) first.0 in
    let third = and_parts (is_within t.last) (t.owed == 0) second.0 in
    let same = quiet-page p (eqb-true t.owed 0 third.1) (shut t.open_html second.1) (none-there t.quote_line first.1) in
    ap (gap e path) same
    ∙ in-line t.last_list t.raw_end path p e t.last h third.0
    ∙ ap going_on (sym same)
