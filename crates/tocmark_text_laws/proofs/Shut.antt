-- Which leaf is open after a step.
use Rattle.std.proofs.Common.{◌≡◌, ℕ, zero, suc, ◌-◌, Bool, true, false, if◌then◌else◌, nat_lt, ◌||◌, List, [], ◌∷◌, ◌++◌, length, take, refl, ◌∙◌}
use Rattle.std.specs.Prelude.{slice_get, Option, Some, None}
use Rattle.std.specs.Option.{option_map_or}
use Rattle.tocmark_read_lines.specs.declared.container.Container.{Container}
use Rattle.tocmark_read_lines.specs.declared.container.Opened.{Opened}
use Rattle.tocmark_read_lines.specs.declared.line.Line.{Line}
use Rattle.tocmark_read_page.specs.Pages.{State, innermost, ended, raised_last, leaf_finished, table_finished, leaf_closed_as, leaf_closed, is_quote, is_list, is_definitions, quote_left, one_closed, times, closed_to, is_loose, list_of, left_noted, list_left, begun, quote_entered, opened_with, leaf_opened, piece_pushed, piece_taken}
use Rattle.tocmark_read_page.specs.declared.leaf.Leaf.{Leaf}
use Rattle.tocmark_read_page.specs.declared.leaf.Leaf.TheVariants as leaf
use Rattle.tocmark_read_page.specs.declared.page.BlockKind.{BlockKind}
use Rattle.tocmark_read_page.specs.declared.piece.Piece.{Piece}

pub finished_shut : (s : State) → (leaf_finished s).leaf ≡ leaf.Nothing
unfolding leaf_finished
finished_shut s = refl

pub closed_leaf_shut : (t : List ℕ) (s : State) → (leaf_closed t s).leaf ≡ leaf.Nothing
unfolding leaf_closed leaf_finished table_finished
closed_leaf_shut t s = by s.leaf refl
  where
    by : (k : Leaf) → s.leaf ≡ k → (leaf_closed_as k t s).leaf ≡ leaf.Nothing
    by leaf.Nothing h = h
    by leaf.Paragraph h = refl
    by leaf.Indented h = refl
    by (leaf.Fenced f) h = refl
    by (leaf.Html k) h = refl
    by (leaf.Metadata k) h = refl
    by (leaf.Table x) h = refl

quote_left_leaf : (k : Container) (s : State) → (quote_left k s).leaf ≡ s.leaf
quote_left_leaf k s = by (is_quote k)
  where
    by : (b : Bool) → (if b then record s { quotes = take (length s.quotes - 1) s.quotes } else s).leaf ≡ s.leaf
    by true = refl
    by false = refl

pub one_closed_leaf : (s : State) → (one_closed s).leaf ≡ s.leaf
unfolding one_closed
one_closed_leaf s = by (slice_get s.opened (length s.opened - 1))
  where
    closes : Opened → State
    closes o = raised_last o.end o.line (record s { opened = take (length s.opened - 1) s.opened; blocks = ended s.blocks o.block o.end })

    by : (f : Option Opened) → (option_map_or (λ (o : Opened). quote_left o.container (closes o)) f s).leaf ≡ s.leaf
    by None = refl
    by (Some o) = quote_left_leaf o.container (closes o)

times_leaf : (n : ℕ) (s : State) → (times one_closed n s).leaf ≡ s.leaf
unfolding times
times_leaf zero s = refl
times_leaf (suc n) s = times_leaf n (one_closed s) ∙ one_closed_leaf s

pub closed_shut : (t : List ℕ) (depth : ℕ) (s : State) → (closed_to t depth s).leaf ≡ leaf.Nothing
unfolding closed_to
closed_shut t depth s = times_leaf (length (leaf_closed t s).opened - depth) (leaf_closed t s) ∙ closed_leaf_shut t s

left_noted_leaf : (o : Opened) (s : State) → (left_noted o s).leaf ≡ s.leaf
unfolding left_noted
left_noted_leaf o s = by (is_definitions o.container)
  where
    by : (b : Bool) → (if b then record s { left = Some (record { list = o.block; behind = length s.blocks; loose = is_loose s.blocks (list_of s.opened) }) } else s).leaf ≡ s.leaf
    by true = refl
    by false = refl

pub list_left_leaf : (s : State) → (list_left s).leaf ≡ s.leaf
unfolding list_left
list_left_leaf s = by (innermost s.opened)
  where
    inner : (o : Opened) (k : Bool) → (if k then left_noted o (one_closed s) else s).leaf ≡ s.leaf
    inner o true = left_noted_leaf o (one_closed s) ∙ one_closed_leaf s
    inner o false = refl

    by : (f : Option Opened) → (option_map_or (λ (o : Opened). if is_list o.container then left_noted o (one_closed s) else s) f s).leaf ≡ s.leaf
    by None = refl
    by (Some o) = inner o (is_list o.container)

quote_entered_leaf : (k : Container) (s : State) → (quote_entered k s).leaf ≡ s.leaf
quote_entered_leaf k s = by (is_quote k)
  where
    by : (b : Bool) → (if b then record s { quotes = s.quotes ++ (length s.opened - 1) ∷ [] } else s).leaf ≡ s.leaf
    by true = refl
    by false = refl

pub opened_with_leaf : (k : Container) (b : BlockKind) (start : ℕ) (line : Line) (s : State) → (opened_with k b start line s).leaf ≡ s.leaf
unfolding opened_with begun
opened_with_leaf k b start line s = quote_entered_leaf k _

pub leaf_opened_leaf : (f : Leaf) (b : BlockKind) (start : ℕ) (line : Line) (s : State) → (leaf_opened f b start line s).leaf ≡ f
unfolding leaf_opened
leaf_opened_leaf f b start line s = refl

pushed_leaf : (p : Piece) (s : State) → (piece_pushed p s).leaf ≡ s.leaf
pushed_leaf p s = by (nat_lt 0 p.spaces || nat_lt p.start p.next)
  where
    by : (k : Bool) → (if k then record s { pieces = s.pieces ++ p ∷ [] } else s).leaf ≡ s.leaf
    by true = refl
    by false = refl

pub piece_taken_leaf : (p : Piece) (line : Line) (keeps : Bool) (s : State) → (piece_taken p line keeps s).leaf ≡ s.leaf
unfolding piece_taken
piece_taken_leaf p line true s = pushed_leaf p s
piece_taken_leaf p line false s = pushed_leaf p s
