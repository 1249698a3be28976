-- An item of two texts with an empty line between them is in a loose list.
use Rattle.std.proofs.Common.{◌≡◌, ℕ, suc, ◌+◌, ◌^◌, ◌<◌, ◌≤◌, Bool, true, false, if◌then◌else◌, nat_le, List, [], ◌∷◌, length, map, refl, ap, sym, subst, ◌∙◌, arith}
use Rattle.std.specs.Prelude.{Option, Some, None}
use Rattle.std.specs.Option.{option_map}
use Rattle.tocmark_read_scan.specs.Basic.{plus, bytes_between}
use Rattle.tocmark_read_scan.specs.declared.syntax.TheConstants.{CORE}
use Rattle.tocmark_read_lines.specs.Cells.{cells_of, first_cursor}
use Rattle.tocmark_read_lines.specs.Containers.{matched, touched_from, container_in}
use Rattle.tocmark_read_lines.specs.Marks.{tail_of}
use Rattle.tocmark_read_lines.specs.declared.cell.Cell.{Cell}
use Rattle.tocmark_read_lines.specs.declared.cell.Cursor.{Cursor}
use Rattle.tocmark_read_lines.specs.declared.container.ContainerStart.{ContainerStart}
use Rattle.tocmark_read_lines.specs.declared.container.ContainerStart.TheVariants as begins
use Rattle.tocmark_read_lines.specs.declared.container.ItemStart.{ItemStart}
use Rattle.tocmark_read_lines.specs.declared.container.Opened.{Opened}
use Rattle.tocmark_read_lines.specs.declared.line.Line.{Line}
use Rattle.tocmark_read_page.specs.Pages.{State, innermost, closed_to, list_of, list_left}
use Rattle.tocmark_read_page.specs.declared.leaf.Leaf.TheVariants as leaf
use Rattle.tocmark_read_page.specs.declared.line_start.LineStart.{LineStart}
use Rattle.tocmark_read_blocks.specs.Blocks.{core_known, leaf_started_in, passed_in, turn_of, turn_in, touched, turn_taken_in, taken_at_in, cells_taken_in, line_taken_in}
use Rattle.tocmark_read_blocks.specs.Containers.{is_in_list}
use Rattle.tocmark_read_blocks.specs.Leaves.{leaf_turn}
use Rattle.tocmark_read_blocks.specs.declared.leaf.Turn.TheVariants as turn
use Rattle.tocmark_read_blocks.proofs.Steps.{blank_started}
use Rattle.tocmark_text_laws.specs.Lines.{IsLine}
use Rattle.tocmark_text_laws.proofs.Pairs.{afters_length}
use Rattle.tocmark_text_laws.proofs.QuotedCells.{Fronted, le_yes, le_shift, cursor_on, length_on}
use Rattle.tocmark_text_laws.proofs.QuotedContainers.{InLine, start_on, item_on, StartOn, container_in_two}
use Rattle.tocmark_text_laws.proofs.QuotedPieces.{Beside, beside}
use Rattle.tocmark_text_laws.proofs.QuotedLeaves.{turn_on, TurnOn}
use Rattle.tocmark_text_laws.proofs.QuotedLines.{Row}
use Rattle.tocmark_text_laws.proofs.ItemContainers.{Opens, two_on, MatchedIn, Indents, matched_in}
use Rattle.tocmark_text_laws.proofs.ItemPages.{BlockOn, IsListBlock, IsItemBlock, Inside, closed_two, list_outer, list_left_two}
use Rattle.tocmark_text_laws.proofs.ItemBegun.{in_list_two}
use Rattle.tocmark_text_laws.proofs.ItemTurns.{IsInItem, turn_of_two, no_quotes, indents_in}
use Rattle.tocmark_text_laws.proofs.Lasting.{Reached, starts_loose, Grows, grows_on, closed_grows, list_left_grows}
use Rattle.tocmark_text_laws.proofs.Apart.{Ripe, loose_begun, holds_line}

-- the item in which nothing is open
ripe_in : (item : ItemStart) (t q : List ℕ) (n top number : ℕ) (there here : State) → Inside item t q n there here → here.opened ≡ [] → Reached top there.opened → plus top 1 < number → Ripe number there
ripe_in item t q n top number there here h none low late = by there.opened refl (subst (Opens item n there.opened) none h.opened)
  where
    some : 0 < length there.blocks
    some = omega (arith, afters_length (IsListBlock item q) (IsItemBlock q) (BlockOn t q) there.blocks here.blocks h.blocks)

    far : (z : Opened) → z.line ≤ top → plus z.line 1 < number
    far z k = omega (arith, k, late)

    by : (os : List Opened) → there.opened ≡ os → Opens item n os [] → Ripe number there
    by [] e o = absurd o.after
    by (x ∷ []) e o = absurd (o.after.1)
    by (x ∷ z ∷ y ∷ ys) e o = absurd (o.after.1.1)
    by (x ∷ z ∷ []) e o = record {
      list = ap list_of e ∙ list_outer item n (x ∷ z ∷ []) o;
      item = z;
      last = ap innermost e;
      width = item.width;
      held = (o.after.1.0).held;
      had = (o.after.1.0).had;
      far = far z ((subst (Reached top) e low).1.0);
      some = some;
    }

-- a line before which no quote among the containers that go on reaches further

pub taken_two : (item : ItemStart) (t q : List ℕ) (n : ℕ) (l' l : Line) (shift : ℕ) (w r : List Cell) (there here : State) (d : ℕ) (c : Cursor) (h : Beside t q l' l shift w r) → Indents item.width r h.fronted.front → 0 < item.width → n + 9 < 2 ^ 64 → Inside item t q n there here
    → matched r here.opened here.quotes ≡ (d, c) → touched_from (suc (suc d)) l'.end l'.number (map two_on here.quotes) there.opened ≡ there.opened
    → (cells_taken_in core_known q w l' there ≡ taken_at_in core_known q w l' (record { cursor = cursor_on shift c; depth = suc (suc d) }) there) × InLine r c
unfolding cells_taken_in touched
taken_two item t q n l' l shift w r there here d c h m some few g e free = (
  ap (λ (x : ℕ × Cursor). taken_at_in core_known q w l' (record { cursor = x.1; depth = x.0 }) (record there { opened = touched_from (x.0) l'.end l'.number there.quotes there.opened })) (found.0 ∙ ap both e)
      ∙ ap (λ (os : List Opened). taken_at_in core_known q w l' (record { cursor = cursor_on shift c; depth = suc (suc d) }) (record there { opened = os })) (ap (λ (qs : List ℕ). touched_from (suc (suc d)) l'.end l'.number qs there.opened) g.quotes ∙ free),
  subst (λ (x : ℕ × Cursor). InLine r (x.1)) e (found.1),
)
  where
    both : ℕ × Cursor → ℕ × Cursor
    both x = (suc (suc (x.0)), cursor_on shift (x.1))

    found : MatchedIn shift r (matched w there.opened there.quotes) (matched r here.opened here.quotes)
    found = subst (λ (qs : List ℕ). MatchedIn shift r (matched w there.opened qs) (matched r here.opened here.quotes)) (sym g.quotes) (matched_in item n shift w r there.opened here.opened here.quotes h.fronted m some few (no_quotes item t q n there here g) g.opened)

pub passes : (q : List ℕ) (w : List Cell) (l' : Line) (place : LineStart) (s : State) → turn_of q w l' place s ≡ turn.Passes → taken_at_in core_known q w l' place s ≡ leaf_started_in core_known q w l' place s
unfolding turn_in passed_in
passes q w l' place s e = ap (λ u. turn_taken_in core_known u q w l' place s) e

-- a line that isn't blank, and begins in no container of the text

-- what is known of such a line and the page before it
pub record Resumes (t : List ℕ) (r : List Cell) (s : State) : Type 0 where
  pub depth : ℕ
  pub found : matched r s.opened s.quotes ≡ (depth, first_cursor r)
  pub free : (end line : ℕ) (os : List Opened) → touched_from (suc (suc depth)) end line (map two_on s.quotes) os ≡ os
  pub shut : s.leaf ≡ leaf.Nothing
  pub none : (list_left (closed_to t depth s)).opened ≡ []
  pub other : (i : ItemStart) → container_in CORE r (tail_of r) (first_cursor r) false ≡ Some (begins.Item i) → is_in_list i.sort (closed_to t depth s) ≡ false

shut_passes : (q : List ℕ) (w : List Cell) (l' : Line) (place : LineStart) (s : State) → s.leaf ≡ leaf.Nothing → turn_of q w l' place s ≡ turn.Passes
unfolding turn_of leaf_turn
shut_passes q w l' place s e = rw e (by (nat_le (length s.opened) place.depth))
  where
    by : (b : Bool) → (if b then turn.Passes else turn.Passes) ≡ turn.Passes
    by true = refl
    by false = refl

-- the item that begins is the one of the text itself
same_other : (item : ItemStart) (t q : List ℕ) (n shift : ℕ) (w r : List Cell) (there here : State) → Fronted shift w r → InLine r (first_cursor r) → Inside item t q n there here
    → ((i : ItemStart) → container_in CORE r (tail_of r) (first_cursor r) false ≡ Some (begins.Item i) → is_in_list i.sort here ≡ false)
    → (i : ItemStart) → container_in CORE w (tail_of w) (cursor_on shift (first_cursor r)) false ≡ Some (begins.Item i) → is_in_list i.sort there ≡ false
same_other item t q n shift w r there here f k g other i e = by (container_in CORE r (tail_of r) (first_cursor r) false) refl (sym (found.0) ∙ e)
  where
    found : StartOn shift r (first_cursor r) (container_in CORE w (tail_of w) (cursor_on shift (first_cursor r)) false) (container_in CORE r (tail_of r) (first_cursor r) false)
    found = container_in_two shift w r (first_cursor r) false f k

    by : (o : Option ContainerStart) → container_in CORE r (tail_of r) (first_cursor r) false ≡ o → option_map (start_on shift) o ≡ Some (begins.Item i) → is_in_list i.sort there ≡ false
    by None a b = absurd cc
    by (Some begins.Quote) a b = absurd cc
    by (Some (begins.Item x)) a b = let z : item_on shift x ≡ i = cc in ap (λ (y : ItemStart). is_in_list y.sort there) (sym z) ∙ in_list_two item t q n x.sort there here g ∙ other x a
    by (Some (begins.Footnote x)) a b = absurd cc
    by (Some (begins.Definition x)) a b = absurd cc

loose_cells : (item : ItemStart) (t q : List ℕ) (n top : ℕ) (l' l : Line) (shift : ℕ) (w r : List Cell) (there here : State) (h : Beside t q l' l shift w r) → Indents item.width r h.fronted.front → 0 < item.width → n + 9 < 2 ^ 64 → Inside item t q n there here
    → Resumes t r here → nat_le (length r) (first_cursor r).ink ≡ false → Reached top there.opened → there.line ≤ top → plus top 1 < l'.number → starts_loose (cells_taken_in core_known q w l' there).blocks ≡ true
loose_cells item t q n top l' l shift w r there here h m some few g s inky reached low late =
    ap (λ (s : State). starts_loose s.blocks) (taken.0 ∙ passes q w l' place there (shut_passes q w l' place there shut))
    ∙ holds_line (λ bs. starts_loose bs ≡ true) (λ n s u g. g.loose) q w l' place there left (record { shut = shut; ripe = λ b x. loose_begun b x l'.number (list_left (closed_to q (suc (suc s.depth)) there)) ripe; other = same_other item t q n shift w r (closed_to q (suc (suc s.depth)) there) (closed_to t s.depth here) h.fronted (taken.1) closed s.other })
  where
    place : LineStart
    place = record { cursor = cursor_on shift (first_cursor r); depth = suc (suc s.depth) }

    taken : (cells_taken_in core_known q w l' there ≡ taken_at_in core_known q w l' place there) × InLine r (first_cursor r)
    taken = taken_two item t q n l' l shift w r there here s.depth (first_cursor r) h m some few g s.found (s.free l'.end l'.number there.opened)

    shut : there.leaf ≡ leaf.Nothing
    shut = g.leaf ∙ s.shut

    closed : Inside item t q n (closed_to q (suc (suc s.depth)) there) (closed_to t s.depth here)
    closed = closed_two item t q n s.depth there here g

    grows : Grows 0 there (list_left (closed_to q (suc (suc s.depth)) there))
    grows = grows_on 0 there (closed_to q (suc (suc s.depth)) there) (list_left (closed_to q (suc (suc s.depth)) there)) (closed_grows q (suc (suc s.depth)) there) (list_left_grows (closed_to q (suc (suc s.depth)) there))

    ripe : Ripe l'.number (list_left (closed_to q (suc (suc s.depth)) there))
    ripe = ripe_in item t q n top l'.number _ _ (list_left_two item t q n (closed_to q (suc (suc s.depth)) there) (closed_to t s.depth here) closed) s.none ((grows.reach top (omega arith) reached low).0) late

    left : nat_le (length w) (shift + (first_cursor r).ink) ≡ false
    left = ap (λ k. nat_le k (shift + (first_cursor r).ink)) (length_on shift w r h.fronted) ∙ le_shift shift (length r) (first_cursor r).ink ∙ inky

pub loose_first : (item : ItemStart) (first t q : List ℕ) (n before m top : ℕ) (l' l : Line) (there here : State) → Row (IsInItem first item.width) t q before m l' l → 0 < before → IsLine t l → 0 < item.width → n + 9 < 2 ^ 64 → Inside item t q n there here
    → Resumes t (cells_of [] l.start (bytes_between t l.start l.end)) here → nat_le (length (cells_of [] l.start (bytes_between t l.start l.end))) (first_cursor (cells_of [] l.start (bytes_between t l.start l.end))).ink ≡ false
    → Reached top there.opened → there.line ≤ top → plus top 1 < l'.number → starts_loose (line_taken_in core_known q there l').blocks ≡ true
unfolding line_taken_in
loose_first item first t q n before m top l' l there here h late one some few g s inky reached low far = by (beside t q l' l h.line)
  where
    w : List Cell
    w = cells_of [] l'.start (bytes_between q l'.start l'.end)

    r : List Cell
    r = cells_of [] l.start (bytes_between t l.start l.end)

    shift : ℕ
    shift = length h.line.front

    by : (both : Beside t q l' l shift w r) × (both.fronted.front ≡ h.line.front) → starts_loose (cells_taken_in core_known q w l' there).blocks ≡ true
    by (both, same) = loose_cells item t q n top l' l shift w r there here both (subst (λ xs. Indents item.width r xs) (sym same) (indents_in first t q item.width before l' l shift w r h.line both late one h.kind)) some few g s inky reached low far

-- an empty line

-- what is known of such a line and the page before it: it ends what is open from a depth on
pub record Pauses (t : List ℕ) (l : Line) (s : State) : Type 0 where
  pub depth : ℕ
  pub found : matched [] s.opened s.quotes ≡ (depth, first_cursor [])
  pub free : (end line : ℕ) (os : List Opened) → touched_from (suc (suc depth)) end line (map two_on s.quotes) os ≡ os
  pub turns : turn_of t [] l (record { cursor = first_cursor []; depth = depth }) s ≡ turn.Passes

pause_cells : (item : ItemStart) (t q : List ℕ) (n : ℕ) (l' l : Line) (shift : ℕ) (w : List Cell) (there here : State) (h : Beside t q l' l shift w []) → Indents item.width [] h.fronted.front → 0 < item.width → n + 9 < 2 ^ 64 → Inside item t q n there here
    → (p : Pauses t l here) → cells_taken_in core_known q w l' there ≡ closed_to q (suc (suc p.depth)) there
pause_cells item t q n l' l shift w there here h m some few g p =
    taken.0 ∙ passes q w l' place there turned ∙ blank_started core_known q w l' place there blank
  where
    c : Cursor
    c = first_cursor []

    place : LineStart
    place = record { cursor = cursor_on shift c; depth = suc (suc p.depth) }

    taken : (cells_taken_in core_known q w l' there ≡ taken_at_in core_known q w l' place there) × InLine [] c
    taken = taken_two item t q n l' l shift w [] there here p.depth c h m some few g p.found (p.free l'.end l'.number there.opened)

    turns : TurnOn shift [] here.leaf (turn_of q w l' place there) (turn_of t [] l (record { cursor = c; depth = p.depth }) here)
    turns = turn_of_two item t q n l' l shift w [] (record { cursor = c; depth = p.depth }) there here h (taken.1) g

    turned : turn_of q w l' place there ≡ turn.Passes
    turned = turns.0 ∙ ap (turn_on shift) p.turns

    blank : nat_le (length w) (shift + c.ink) ≡ true
    blank = let z : length w ≤ shift + c.ink = omega (arith, length_on shift w [] h.fronted) in le_yes (length w) (shift + c.ink) z

pub pause_in : (item : ItemStart) (first t q : List ℕ) (n before m : ℕ) (l' l : Line) (there here : State) → Row (IsInItem first item.width) t q before m l' l → 0 < before → IsLine t l → 0 < item.width → n + 9 < 2 ^ 64 → Inside item t q n there here
    → bytes_between t l.start l.end ≡ [] → (p : Pauses t l here) → line_taken_in core_known q there l' ≡ closed_to q (suc (suc p.depth)) there
unfolding line_taken_in
pause_in item first t q n before m l' l there here h late one some few g empty p = by (beside t q l' l h.line)
  where
    w : List Cell
    w = cells_of [] l'.start (bytes_between q l'.start l'.end)

    shift : ℕ
    shift = length h.line.front

    by : (both : Beside t q l' l shift w (cells_of [] l.start (bytes_between t l.start l.end))) × (both.fronted.front ≡ h.line.front) → cells_taken_in core_known q w l' there ≡ closed_to q (suc (suc p.depth)) there
    by k = each (subst (λ bs. (both : Beside t q l' l shift w (cells_of [] l.start bs)) × (both.fronted.front ≡ h.line.front)) empty k)
      where
        each : (both : Beside t q l' l shift w []) × (both.fronted.front ≡ h.line.front) → cells_taken_in core_known q w l' there ≡ closed_to q (suc (suc p.depth)) there
        each (both, same) = pause_cells item t q n l' l shift w there here both (subst (λ xs. Indents item.width [] xs) (sym same) (indents_in first t q item.width before l' l shift w [] h.line both late one h.kind)) some few g p
