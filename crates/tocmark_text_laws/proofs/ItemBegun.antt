-- How containers begin in a list item.
use Rattle.std.proofs.Common.{◌≡◌, ℕ, zero, suc, ◌+◌, ◌*◌, ◌<◌, ◌≤◌, Bool, true, false, ◌==◌, if◌then◌else◌, nat_le, List, length, refl, ap, sym, subst, ◌∙◌, arith}
use Rattle.std.specs.Prelude.{Option, Some, None}
use Rattle.std.specs.Option.{option_map, option_map_or}
use Rattle.tocmark_read_scan.specs.Repeat.{going, repeated}
use Rattle.tocmark_read_scan.specs.declared.syntax.TheConstants.{CORE}
use Rattle.tocmark_read_lines.specs.Cells.{cell_byte, moved}
use Rattle.tocmark_read_lines.specs.Containers.{after_quote, container_in}
use Rattle.tocmark_read_lines.specs.Marks.{tail_of}
use Rattle.tocmark_read_lines.specs.declared.cell.Cell.{Cell}
use Rattle.tocmark_read_lines.specs.declared.cell.Cursor.{Cursor}
use Rattle.tocmark_read_lines.specs.declared.container.Container.TheVariants as container
use Rattle.tocmark_read_lines.specs.declared.container.ContainerStart.{ContainerStart}
use Rattle.tocmark_read_lines.specs.declared.container.ContainerStart.TheVariants as begins
use Rattle.tocmark_read_lines.specs.declared.container.ItemStart.{ItemStart}
use Rattle.tocmark_read_lines.specs.declared.container.Opened.{Opened}
use Rattle.tocmark_read_lines.specs.declared.line.Line.{Line}
use Rattle.tocmark_read_page.specs.Pages.{State, innermost, closed_to, list_left, opened_with, some_place, start_of, with_place}
use Rattle.tocmark_read_page.specs.declared.line_start.LineStart.{LineStart}
use Rattle.tocmark_read_page.specs.declared.page.BlockKind.TheVariants as kind
use Rattle.tocmark_read_constructs.specs.Quotes.{quote_opened}
use Rattle.tocmark_read_blocks.specs.Containers.{goes_directly, is_list_of, is_in_list, list_started, item_opened, begun_at, container_once_in}
use Rattle.tocmark_text_laws.proofs.Pairs.{LastOf, afters_length, afters_last_got}
use Rattle.tocmark_text_laws.proofs.QuotedCells.{le_yes, le_suc, cursor_on, length_on}
use Rattle.tocmark_text_laws.proofs.QuotedContainers.{is_inner, InLine, CursorOn, moved_on, after_on, after_further, start_on, item_on, Fine, StartOn, container_in_two}
use Rattle.tocmark_text_laws.proofs.QuotedPieces.{Beside}
use Rattle.tocmark_text_laws.proofs.QuotedBegun.{list_some, blank_stays}
use Rattle.tocmark_text_laws.proofs.ItemContainers.{OpenedIn, IsOuterList, IsOuterItem}
use Rattle.tocmark_text_laws.proofs.ItemPages.{Inside, inside_more, closed_two, list_left_two, opened_with_two}
use Rattle.tocmark_text_laws.proofs.ItemLeaves.{place_in}

-- a place in a line, and the same in the item
abbrev pub PlaceOn : ℕ → List Cell → LineStart → LineStart → Type 0
PlaceOn shift r there here = (there ≡ place_in shift here) × InLine r here.cursor

pub in_list_two : (item : ItemStart) (t q : List ℕ) (n sort : ℕ) (there here : State) → Inside item t q n there here → is_in_list sort there ≡ is_in_list sort here
unfolding is_in_list
in_list_two item t q n sort there here h = by (innermost there.opened) (innermost here.opened) (afters_last_got (IsOuterList item) (IsOuterItem item) OpenedIn there.opened here.opened h.opened.after)
  where
    by : (o p : Option Opened) → LastOf (IsOuterItem item) OpenedIn o p → option_map_or (λ (o : Opened). is_list_of sort o.container) o false ≡ option_map_or (λ (o : Opened). is_list_of sort o.container) p false
    by None None u = refl
    by None (Some y) u = absurd u
    by (Some x) None u = ap (is_list_of sort) u.held
    by (Some x) (Some y) u = ap (is_list_of sort) u.container

list_started_two : (item : ItemStart) (t q : List ℕ) (n shift : ℕ) (i : ItemStart) (start far : ℕ) (l' l : Line) (there here : State) → l'.number ≡ l.number → Inside item t q n there here → Inside item t q (suc n) (list_started (item_on shift i) start l' there) (list_started i far l here)
unfolding list_started is_inner
list_started_two item t q n shift i start far l' l there here number h = rw (in_list_two item t q n i.sort there here h) (by (is_in_list i.sort here))
  where
    by : (b : Bool) → Inside item t q (suc n) (if b then there else opened_with (container.List i.sort) (kind.List i.number) start l' (list_left there)) (if b then here else opened_with (container.List i.sort) (kind.List i.number) far l (list_left here))
    by true = inside_more item t q n (suc n) there here (omega arith) h
    by false = opened_with_two item t q n (container.List i.sort) (kind.List i.number) (kind.List i.number) start far l' l (list_left there) (list_left here) refl number (λ e. absurd cc) (list_left_two item t q n there here h)

placed : (shift : ℕ) (c' c : Cursor) (d' d : ℕ) → c' ≡ cursor_on shift c → d' ≡ suc (suc d) → record { cursor = c'; depth = d' } ≡ place_in shift (record { cursor = c; depth = d })
placed shift c' c d' d e f = ap (λ (x : Cursor). at x d') e ∙ ap (at (cursor_on shift c)) f
  where
    at : Cursor → ℕ → LineStart
    at x k = record { cursor = x; depth = k }

-- both states after a step, and that it takes a column
abbrev pub Goes : ItemStart → List ℕ → List ℕ → ℕ → ℕ → List Cell → LineStart → State × Option LineStart → State × Option LineStart → Type 0
Goes item t q n shift r p (u', None) (u, None) = Inside item t q n u' u
Goes item t q n shift r p (u', None) (u, Some d) = ⊥
Goes item t q n shift r p (u', Some d') (u, None) = ⊥
Goes item t q n shift r p (u', Some d') (u, Some d) = Inside item t q (suc (suc n)) u' u × PlaceOn shift r d' d × (p.cursor.column < d.cursor.column)

went : (item : ItemStart) (t q : List ℕ) (n shift : ℕ) (r : List Cell) (p : LineStart) (c' c : Cursor) (u' u : State) → CursorOn shift r c' c → p.cursor.column < c.column → Inside item t q (suc (suc n)) u' u → Goes item t q n shift r p (some_place (with_place c' u')) (some_place (with_place c u))
went item t q n shift r p c' c u' u k more h = (h, (placed shift c' c (length u'.opened) (length u.opened) (k.0) (afters_length (IsOuterList item) (IsOuterItem item) OpenedIn u'.opened u.opened h.opened.after), k.1), more)

quote_two : (item : ItemStart) (t q : List ℕ) (n : ℕ) (l' l : Line) (shift : ℕ) (w r : List Cell) (p : LineStart) (there here : State) → Beside t q l' l shift w r → InLine r p.cursor → (cell_byte r p.cursor.ink == 62) ≡ true → Inside item t q n there here
    → Goes item t q n shift r p (some_place (quote_opened q w l' (place_in shift p) there)) (some_place (quote_opened t r l p here))
unfolding quote_opened is_inner
quote_two item t q n l' l shift w r p there here h i e k =
    went item t q n shift r p (after_quote w (cursor_on shift p.cursor)) (after_quote r p.cursor) _ _ (after_on shift w r p.cursor h.fronted e i)
    (let z : p.cursor.ink < (after_quote r p.cursor).column = after_further r p.cursor e (omega (arith, h.fronted.fits)) in omega (arith, z, i.column))
    (inside_more item t q (suc n) (suc (suc n)) _ _ (omega arith)
    (opened_with_two item t q n container.Quote (kind.Quote None) (kind.Quote None) (start_of w (place_in shift p) l') (start_of r p l) l' l (list_left (closed_to q (suc (suc p.depth)) there)) (list_left (closed_to t p.depth here)) refl h.line.number (λ x. absurd cc)
    (list_left_two item t q n (closed_to q (suc (suc p.depth)) there) (closed_to t p.depth here) (closed_two item t q n p.depth there here k))))

item_two : (item : ItemStart) (t q : List ℕ) (n : ℕ) (l' l : Line) (shift : ℕ) (w r : List Cell) (p : LineStart) (x : ItemStart) (there here : State) → Beside t q l' l shift w r → InLine r p.cursor → p.cursor.ink < x.next → x.next ≤ length r → Inside item t q n there here
    → Goes item t q n shift r p (some_place (item_opened q w l' (place_in shift p) (item_on shift x) there)) (some_place (item_opened t r l p x here))
unfolding item_opened moved
item_two item t q n l' l shift w r p x there here h i more low k =
    went item t q n shift r p (moved w (cursor_on shift p.cursor) (shift + x.next)) (moved r p.cursor x.next) _ _ (moved_on shift w r p.cursor x.next h.fronted low i) (omega (arith, more, i.column))
    (opened_with_two item t q (suc n) (container.Item x.width) kind.Item kind.Item (start_of w (place_in shift p) l') (start_of r p l) l' l
    (list_started (item_on shift x) (start_of w (place_in shift p) l') l' (closed_to q (suc (suc p.depth)) there)) (list_started x (start_of r p l) l (closed_to t p.depth here)) refl h.line.number
    (λ e. list_some x (start_of r p l) l (closed_to t p.depth here))
    (list_started_two item t q n shift x (start_of w (place_in shift p) l') (start_of r p l) l' l (closed_to q (suc (suc p.depth)) there) (closed_to t p.depth here) h.line.number (closed_two item t q n p.depth there here k)))

begun_two : (item : ItemStart) (t q : List ℕ) (n : ℕ) (l' l : Line) (shift : ℕ) (w r : List Cell) (p : LineStart) (o : Option ContainerStart) (there here : State) → Beside t q l' l shift w r → InLine r p.cursor → Fine r p.cursor o → Inside item t q n there here
    → Goes item t q n shift r p (begun_at q w l' (place_in shift p) there (option_map (start_on shift) o)) (begun_at t r l p here o)
begun_two item t q n l' l shift w r p None there here h i e k = k
begun_two item t q n l' l shift w r p (Some begins.Quote) there here h i e k = quote_two item t q n l' l shift w r p there here h i e k
begun_two item t q n l' l shift w r p (Some (begins.Item x)) there here h i e k = item_two item t q n l' l shift w r p x there here h i (e.0) (e.1) k
begun_two item t q n l' l shift w r p (Some (begins.Footnote x)) there here h i e k = absurd e
begun_two item t q n l' l shift w r p (Some (begins.Definition x)) there here h i e k = absurd e

pub directly_two : (item : ItemStart) (t q : List ℕ) (n depth : ℕ) (there here : State) → Inside item t q n there here → goes_directly (suc (suc depth)) there ≡ goes_directly depth here
unfolding goes_directly
directly_two item t q n depth there here h = rw (h.leaf, afters_length (IsOuterList item) (IsOuterItem item) OpenedIn there.opened here.opened h.opened.after, less) refl
  where
    less : nat_le (suc (suc (length here.opened))) (suc (suc depth)) ≡ nat_le (length here.opened) depth
    less = le_suc (suc (length here.opened)) (suc depth) ∙ le_suc (length here.opened) depth

once_two : (item : ItemStart) (t q : List ℕ) (n : ℕ) (l' l : Line) (shift : ℕ) (w r : List Cell) (p : LineStart) (there here : State) → Beside t q l' l shift w r → InLine r p.cursor → Inside item t q n there here
    → Goes item t q n shift r p (container_once_in CORE q w l' (tail_of w) (place_in shift p) there) (container_once_in CORE t r l (tail_of r) p here)
unfolding container_once_in
once_two item t q n l' l shift w r p there here h i k =
    rw (directly_two item t q n p.depth there here k, found.0) (begun_two item t q n l' l shift w r p (container_in CORE r (tail_of r) p.cursor (goes_directly p.depth here)) there here h i (found.1) k)
  where
    found : StartOn shift r p.cursor (container_in CORE w (tail_of w) (cursor_on shift p.cursor) (goes_directly p.depth here)) (container_in CORE r (tail_of r) p.cursor (goes_directly p.depth here))
    found = container_in_two shift w r p.cursor (goes_directly p.depth here) h.fronted i

-- both states after all steps
abbrev pub Went : ItemStart → List ℕ → List ℕ → ℕ → ℕ → List Cell → State × LineStart → State × LineStart → Type 0
Went item t q n shift r (u', p') (u, p) = Inside item t q n u' u × PlaceOn shift r p' p

-- as many steps as columns are left are enough
pub repeated_two : (item : ItemStart) (t q : List ℕ) (n : ℕ) (l' l : Line) (shift : ℕ) (w r : List Cell) (k' k : ℕ) (p : LineStart) (there here : State) → Beside t q l' l shift w r → k ≤ k' → length r ≤ p.cursor.column + k → InLine r p.cursor → Inside item t q (n + 2 * p.cursor.column) there here
    → Went item t q (n + 2 * length r) shift r (repeated (container_once_in CORE q w l' (tail_of w)) k' (place_in shift p) there) (repeated (container_once_in CORE t r l (tail_of r)) k p here)
unfolding repeated
repeated_two item t q n l' l shift w r k' zero p there here h low enough i g = subst (λ x. Went item t q (n + 2 * length r) shift r x (here, p)) (sym (blank_stays q w l' (tail_of w) (place_in shift p) there k' blank)) (inside_more item t q (n + 2 * p.cursor.column) (n + 2 * length r) there here (omega (arith, i.column, i.ink)) g, (refl, i))
  where
    blank : nat_le (length w) (shift + p.cursor.ink) ≡ true
    blank = let z : length w ≤ shift + p.cursor.ink = omega (arith, length_on shift w r h.fronted, enough, i.column) in le_yes (length w) (shift + p.cursor.ink) z
repeated_two item t q n l' l shift w r zero (suc k) p there here h low enough i g = absurd (omega (arith, low))
repeated_two item t q n l' l shift w r (suc k') (suc k) p there here h low enough i g =
    by (container_once_in CORE q w l' (tail_of w) (place_in shift p) there) (container_once_in CORE t r l (tail_of r) p here) (once_two item t q (n + 2 * p.cursor.column) l' l shift w r p there here h i g)
    (λ d u' u more j m. repeated_two item t q n l' l shift w r k' k d u' u h (omega (arith, low)) (omega (arith, enough, more)) j (inside_more item t q (suc (suc (n + 2 * p.cursor.column))) (n + 2 * d.cursor.column) u' u (omega (arith, more)) m))
  where
    rest' : LineStart → State → State × LineStart
    rest' = λ d u. repeated (container_once_in CORE q w l' (tail_of w)) k' d u

    rest : LineStart → State → State × LineStart
    rest = λ d u. repeated (container_once_in CORE t r l (tail_of r)) k d u

    by : (a b : State × Option LineStart) → Goes item t q (n + 2 * p.cursor.column) shift r p a b
        → ((d : LineStart) (u' u : State) → p.cursor.column < d.cursor.column → InLine r d.cursor → Inside item t q (suc (suc (n + 2 * p.cursor.column))) u' u → Went item t q (n + 2 * length r) shift r (rest' (place_in shift d) u') (rest d u))
        → Went item t q (n + 2 * length r) shift r (going rest' (place_in shift p) a) (going rest p b)
    by (u', None) (u, None) m again = (inside_more item t q (n + 2 * p.cursor.column) (n + 2 * length r) u' u (omega (arith, i.column, i.ink)) m, (refl, i))
    by (u', None) (u, Some d) m again = absurd m
    by (u', Some d') (u, None) m again = absurd m
    by (u', Some d') (u, Some d) (m, place, more) again = subst (λ x. Went item t q (n + 2 * length r) shift r (rest' x u') (rest d u)) (sym (place.0)) (again d u' u more (place.1) m)
