-- How containers begin where places are one further.
use Rattle.std.proofs.Common.{◌≡◌, ℕ, zero, suc, ◌+◌, ◌-◌, ◌^◌, ◌<◌, Bool, true, false, ◌==◌, ◌||◌, if◌then◌else◌, nat_le, List, ◌∷◌, length, map, refl, ap, sym, ◌∙◌, true≢false}
use Rattle.std.specs.Prelude.{slice_get, Option, Some, None}
use Rattle.std.specs.Option.{option_map}
use Rattle.std.proofs.lemmas.List.{length-map}
use Rattle.std.proofs.lemmas.Option.{slice_get-map}
use Rattle.tocmark_read_scan.specs.Repeat.{going, repeated}
use Rattle.tocmark_read_scan.specs.declared.syntax.TheConstants.{CORE}
use Rattle.tocmark_read_lines.specs.Cells.{cell_place, moved, cell_byte, indent_of, is_blank_at}
use Rattle.tocmark_read_lines.specs.Containers.{after_quote, container_at, container_in, item_at}
use Rattle.tocmark_read_lines.specs.DefinitionLists.{definition_start}
use Rattle.tocmark_read_lines.specs.Marks.{is_rule}
use Rattle.tocmark_read_lines.specs.Footnotes.{note_start}
use Rattle.tocmark_read_lines.specs.declared.beginnings.Tail.{Tail}
use Rattle.tocmark_read_lines.specs.declared.cell.Cell.{Cell}
use Rattle.tocmark_read_lines.specs.declared.cell.Cursor.{Cursor}
use Rattle.tocmark_read_lines.specs.declared.container.Container.TheVariants as container
use Rattle.tocmark_read_lines.specs.declared.container.ContainerStart.{ContainerStart}
use Rattle.tocmark_read_lines.specs.declared.container.ContainerStart.TheVariants as begins
use Rattle.tocmark_read_lines.specs.declared.container.ItemStart.{ItemStart}
use Rattle.tocmark_read_lines.specs.declared.container.Opened.{Opened}
use Rattle.tocmark_read_lines.specs.declared.line.Line.{Line}
use Rattle.tocmark_read_page.specs.Pages.{State, closed_to, list_left, opened_with, some_place, start_of, with_place}
use Rattle.tocmark_read_page.specs.declared.leaf.Leaf.{Leaf}
use Rattle.tocmark_read_page.specs.declared.leaf.Leaf.TheVariants as leaf
use Rattle.tocmark_read_page.specs.declared.line_start.LineStart.{LineStart}
use Rattle.tocmark_read_page.specs.declared.page.BlockKind.TheVariants as kind
use Rattle.tocmark_read_constructs.specs.Quotes.{quote_opened}
use Rattle.tocmark_read_blocks.specs.Containers.{goes_directly, is_list_of, is_in_list, list_started, item_opened, begun_at, container_once_in, containers_opened_in}
use Rattle.tocmark_text_laws.specs.Further.{cell_on, line_on, opened_on, page_on}
use Rattle.tocmark_text_laws.proofs.Lists.{map_or_map}
use Rattle.tocmark_text_laws.proofs.Cells.{same_length, same_moved, place_on}
use Rattle.tocmark_text_laws.proofs.Containers.{same_after, same_container_in}
use Rattle.tocmark_text_laws.proofs.Pages.{is_shut, Tied, closed_to_on, list_left_on, opened_with_on}
use Rattle.tocmark_text_laws.proofs.Shut.{closed_shut, list_left_leaf, opened_with_leaf}

pub same_directly : (depth e l : ℕ) (s : State) → goes_directly depth (page_on e l s) ≡ goes_directly depth s
unfolding goes_directly
same_directly depth e l s = rw (length-map s.opened opened_on) refl

same_in_list : (sort e l : ℕ) (s : State) → is_in_list sort (page_on e l s) ≡ is_in_list sort s
unfolding is_in_list
same_in_list sort e l s = rw (length-map s.opened opened_on, slice_get-map opened_on s.opened (length s.opened - 1)) (map_or_map opened_on (λ (o : Opened). is_list_of sort o.container) false (slice_get s.opened (length s.opened - 1)))

list_started_on : (i : ItemStart) (start : ℕ) (line : Line) (e l : ℕ) (s : State) → line.number + 1 < 2 ^ 64 - 1 → list_started i (suc start) (line_on line) (page_on e l s) ≡ page_on e l (list_started i start line s)
unfolding list_started
list_started_on i start line e l s few = rw (same_in_list i.sort e l s) (by (is_in_list i.sort s))
  where
    by : (b : Bool) → (if b then page_on e l s else opened_with (container.List i.sort) (kind.List i.number) (suc start) (line_on line) (list_left (page_on e l s))) ≡ page_on e l (if b then s else opened_with (container.List i.sort) (kind.List i.number) start line (list_left s))
    by true = refl
    by false = ap (opened_with (container.List i.sort) (kind.List i.number) (suc start) (line_on line)) (list_left_on e l s) ∙ opened_with_on (container.List i.sort) (kind.List i.number) start line e l (list_left s) few

list_started_leaf : (i : ItemStart) (start : ℕ) (line : Line) (s : State) → (list_started i start line s).leaf ≡ s.leaf
unfolding list_started
list_started_leaf i start line s = by (is_in_list i.sort s)
  where
    by : (b : Bool) → (if b then s else opened_with (container.List i.sort) (kind.List i.number) start line (list_left s)).leaf ≡ s.leaf
    by true = refl
    by false = opened_with_leaf (container.List i.sort) (kind.List i.number) start line (list_left s) ∙ list_left_leaf s

-- a step that begins a container: where it goes on is the same
item_on : (t : List ℕ) (c : ℕ) (cs : List Cell) (line : Line) (place : LineStart) (i : ItemStart) (e l : ℕ) (s : State) → line.number + 1 < 2 ^ 64 - 1 → Tied e l s
    → item_opened (c ∷ t) (map cell_on cs) (line_on line) place i (page_on e l s) ≡ (page_on e l ((item_opened t cs line place i s).0), (item_opened t cs line place i s).1)
unfolding item_opened
item_on t c cs line place i e l s few tied =
    rw (same_moved cs place.cursor i.next, place_on cs place.cursor.ink line.end)
    (ap (λ (u : State). with_place (moved cs place.cursor i.next) (opened_with (container.Item i.width) kind.Item (suc at) (line_on line) u))
    (ap (list_started i (suc at) (line_on line)) (closed_to_on t c place.depth e l s tied) ∙ list_started_on i at line e l (closed_to t place.depth s) few)
    ∙ ap (with_place (moved cs place.cursor i.next)) (opened_with_on (container.Item i.width) kind.Item at line e l listed few)
    ∙ ap (λ n. (page_on e l whole, record { cursor = moved cs place.cursor i.next; depth = n })) (length-map whole.opened opened_on))
  where
    at : ℕ
    at = cell_place cs place.cursor.ink line.end

    listed : State
    listed = list_started i at line (closed_to t place.depth s)

    whole : State
    whole = opened_with (container.Item i.width) kind.Item at line listed

pub item_shut : (t : List ℕ) (cs : List Cell) (line : Line) (place : LineStart) (i : ItemStart) (s : State) → ((item_opened t cs line place i s).0).leaf ≡ leaf.Nothing
unfolding item_opened
item_shut t cs line place i s =
    opened_with_leaf (container.Item i.width) kind.Item (start_of cs place line) line (list_started i (start_of cs place line) line (closed_to t place.depth s))
    ∙ list_started_leaf i (start_of cs place line) line (closed_to t place.depth s) ∙ closed_shut t place.depth s

quote_on : (t : List ℕ) (c : ℕ) (cs : List Cell) (line : Line) (place : LineStart) (e l : ℕ) (s : State) → line.number + 1 < 2 ^ 64 - 1 → Tied e l s
    → quote_opened (c ∷ t) (map cell_on cs) (line_on line) place (page_on e l s) ≡ (page_on e l ((quote_opened t cs line place s).0), (quote_opened t cs line place s).1)
unfolding quote_opened
quote_on t c cs line place e l s few tied =
    rw (same_after cs place.cursor, place_on cs place.cursor.ink line.end)
    (ap (λ (u : State). with_place (after_quote cs place.cursor) (opened_with container.Quote (kind.Quote None) (suc at) (line_on line) u))
    (ap list_left (closed_to_on t c place.depth e l s tied) ∙ list_left_on e l (closed_to t place.depth s))
    ∙ ap (with_place (after_quote cs place.cursor)) (opened_with_on container.Quote (kind.Quote None) at line e l listed few)
    ∙ ap (λ n. (page_on e l whole, record { cursor = after_quote cs place.cursor; depth = n })) (length-map whole.opened opened_on))
  where
    at : ℕ
    at = cell_place cs place.cursor.ink line.end

    listed : State
    listed = list_left (closed_to t place.depth s)

    whole : State
    whole = opened_with container.Quote (kind.Quote None) at line listed

pub quote_shut : (t : List ℕ) (cs : List Cell) (line : Line) (place : LineStart) (s : State) → ((quote_opened t cs line place s).0).leaf ≡ leaf.Nothing
unfolding quote_opened
quote_shut t cs line place s =
    opened_with_leaf container.Quote (kind.Quote None) (start_of cs place line) line (list_left (closed_to t place.depth s))
    ∙ list_left_leaf (closed_to t place.depth s) ∙ closed_shut t place.depth s

-- containers that CommonMark has
unfoldable pub is_core_start : Option ContainerStart → Bool
is_core_start None = true
is_core_start (Some begins.Quote) = true
is_core_start (Some (begins.Item i)) = true
is_core_start (Some (begins.Footnote n)) = false
is_core_start (Some (begins.Definition d)) = false

pub container_core : (cs : List Cell) (tail : Tail) (cursor : Cursor) (p : Bool) → is_core_start (container_in CORE cs tail cursor p) ≡ true
unfolding is_core_start container_in container_at definition_start note_start
container_core cs tail cursor p = by (is_blank_at cs cursor || nat_le 4 (indent_of cursor)) (cell_byte cs cursor.ink == 62) (is_rule cs tail cursor.ink) (item_at cs cursor p)
  where
    by : (a b d : Bool) (o : Option ItemStart) → is_core_start (if a then None else (if b then Some begins.Quote else (if d then None else option_map (λ i. begins.Item i) o))) ≡ true
    by true b d o = refl
    by false true d o = refl
    by false false true o = refl
    by false false false None = refl
    by false false false (Some i) = refl

-- both states of a step, and that an open leaf is tied after it
abbrev pub Goes : ℕ → ℕ → State × Option LineStart → State × Option LineStart → Type 0
Goes e l r' r = (r' ≡ (page_on e l (r.0), r.1)) × Tied e l (r.0)

pub shut_tied : (e l : ℕ) (s : State) → s.leaf ≡ leaf.Nothing → Tied e l s
unfolding is_shut
shut_tied e l s h = λ o. absurd (true≢false (by s.leaf h o))
  where
    by : (k : Leaf) → k ≡ leaf.Nothing → is_shut k ≡ false → true ≡ false
    by k h o = ap is_shut (sym h) ∙ o

begun_at_on : (t : List ℕ) (c : ℕ) (cs : List Cell) (line : Line) (place : LineStart) (e l : ℕ) (s : State) (o : Option ContainerStart) → line.number + 1 < 2 ^ 64 - 1 → Tied e l s → is_core_start o ≡ true
    → Goes e l (begun_at (c ∷ t) (map cell_on cs) (line_on line) place (page_on e l s) o) (begun_at t cs line place s o)
unfolding is_core_start
begun_at_on t c cs line place e l s None few tied h = (refl, tied)
begun_at_on t c cs line place e l s (Some begins.Quote) few tied h = (ap some_place (quote_on t c cs line place e l s few tied), shut_tied e l ((quote_opened t cs line place s).0) (quote_shut t cs line place s))
begun_at_on t c cs line place e l s (Some (begins.Item i)) few tied h = (ap some_place (item_on t c cs line place i e l s few tied), shut_tied e l ((item_opened t cs line place i s).0) (item_shut t cs line place i s))
begun_at_on t c cs line place e l s (Some (begins.Footnote n)) few tied h = absurd cc
begun_at_on t c cs line place e l s (Some (begins.Definition d)) few tied h = absurd cc

pub once_on : (t : List ℕ) (c : ℕ) (cs : List Cell) (line : Line) (tail : Tail) (place : LineStart) (e l : ℕ) (s : State) → line.number + 1 < 2 ^ 64 - 1 → Tied e l s
    → Goes e l (container_once_in CORE (c ∷ t) (map cell_on cs) (line_on line) tail place (page_on e l s)) (container_once_in CORE t cs line tail place s)
unfolding container_once_in
once_on t c cs line tail place e l s few tied =
    rw (same_directly place.depth e l s, same_container_in cs tail place.cursor (goes_directly place.depth s))
    (begun_at_on t c cs line place e l s (container_in CORE cs tail place.cursor (goes_directly place.depth s)) few tied (container_core cs tail place.cursor (goes_directly place.depth s)))

abbrev pub Went : ℕ → ℕ → State × LineStart → State × LineStart → Type 0
Went e l r' r = (r' ≡ (page_on e l (r.0), r.1)) × Tied e l (r.0)

pub repeated_on : (t : List ℕ) (c : ℕ) (cs : List Cell) (line : Line) (tail : Tail) (n : ℕ) (place : LineStart) (e l : ℕ) (s : State) → line.number + 1 < 2 ^ 64 - 1 → Tied e l s
    → Went e l (repeated (container_once_in CORE (c ∷ t) (map cell_on cs) (line_on line) tail) n place (page_on e l s)) (repeated (container_once_in CORE t cs line tail) n place s)
unfolding repeated
repeated_on t c cs line tail zero place e l s few tied = (refl, tied)
repeated_on t c cs line tail (suc n) place e l s few tied =
    by (container_once_in CORE (c ∷ t) (map cell_on cs) (line_on line) tail place (page_on e l s)) (container_once_in CORE t cs line tail place s)
    (once_on t c cs line tail place e l s few tied)
    (λ next u h. repeated_on t c cs line tail n next e l u few h)
  where
    more' : LineStart → State → State × LineStart
    more' = λ d u. repeated (container_once_in CORE (c ∷ t) (map cell_on cs) (line_on line) tail) n d u

    more : LineStart → State → State × LineStart
    more = λ d u. repeated (container_once_in CORE t cs line tail) n d u

    by : (r' r : State × Option LineStart) → Goes e l r' r → ((next : LineStart) (u : State) → Tied e l u → Went e l (more' next (page_on e l u)) (more next u)) → Went e l (going more' place r') (going more place r)
    by r' (u, None) g f = rw (g.0) (refl, g.1)
    by r' (u, Some next) g f = rw (g.0) (f next u (g.1))

pub containers_on : (t : List ℕ) (c : ℕ) (cs : List Cell) (line : Line) (tail : Tail) (place : LineStart) (e l : ℕ) (s : State) → line.number + 1 < 2 ^ 64 - 1 → Tied e l s
    → Went e l (containers_opened_in CORE (c ∷ t) (map cell_on cs) (line_on line) tail place (page_on e l s)) (containers_opened_in CORE t cs line tail place s)
containers_on t c cs line tail place e l s few tied = rw (same_length cs) (repeated_on t c cs line tail (length cs) place e l s few tied)
