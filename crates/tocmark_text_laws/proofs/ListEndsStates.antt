-- What is open after a text that ends with a list, an empty line, and another text or nothing.
use Rattle.std.proofs.Common.{◌≡◌, ℕ, ◌+◌, ◌*◌, ◌^◌, ◌<◌, Bool, true, false, ◌||◌, List, [], ◌∷◌, ◌++◌, length, append_assoc, append-nil, refl, ap, sym, subst, ◌∙◌, arith, length-append}
use Rattle.std.specs.Prelude.{Some}
use Rattle.std.specs.List.{fold}
use Rattle.tocmark_read_scan.specs.declared.syntax.TheConstants.{CORE}
use Rattle.tocmark_read_lines.specs.Lines.{lines_of}
use Rattle.tocmark_read_lines.specs.Cells.{cells_of}
use Rattle.tocmark_read_lines.specs.declared.container.Container.{Container}
use Rattle.tocmark_read_lines.specs.declared.container.Container.TheVariants as container
use Rattle.tocmark_read_lines.specs.declared.container.Opened.{Opened}
use Rattle.tocmark_read_page.specs.Pages.{State, first_page, closed_to}
use Rattle.tocmark_read_page.specs.declared.leaf.Leaf.TheVariants as leaf
use Rattle.tocmark_read_constructs.specs.Metadata.{known_of}
use Rattle.tocmark_read_blocks.specs.Blocks.{core_known, line_taken_in, page_in, blocks_in}
use Rattle.tocmark_text_laws.specs.Items.{first_line}
use Rattle.tocmark_text_laws.specs.Quoted.{tree_told, read_trees}
use Rattle.tocmark_text_laws.specs.Sequence.{after_lines, ends_before_blank}
use Rattle.tocmark_text_laws.specs.ListEnds.{list_mark, outer_mark, has_quote, LeavesList, ends_leaf, first_mark, goes_into}
use Rattle.tocmark_text_laws.specs.NearMargin.{begins_near_margin}
use Rattle.tocmark_text_laws.proofs.Shut.{closed_shut}
use Rattle.tocmark_text_laws.proofs.NestRun.{all_lines}
use Rattle.tocmark_text_laws.proofs.Sorted.{containers}
use Rattle.tocmark_text_laws.proofs.SequenceLines.{Feed, Splits, split_lines}
use Rattle.tocmark_text_laws.proofs.SequenceRun.{feed_end}
use Rattle.tocmark_text_laws.proofs.ListEndsLine.{Waits, shut_yields}
use Rattle.tocmark_text_laws.proofs.ListEndsRun.{Ended, Left, ended_list, left_after, quotes_after, rest_closes, waits_after}
use Rattle.tocmark_text_laws.proofs.OneMoreLeft.{SameOpen}
use Rattle.tocmark_text_laws.proofs.SequenceStates.{states_after}

-- the list ends before the second text
pub list_states : (t u : List ℕ) (mark : ℕ) → LeavesList t mark → ends_leaf (after_lines t) ≡ true → begins_near_margin u ≡ true → goes_into mark (first_mark u) ≡ false → 4 * (length t + length u) + 28 < 2 ^ 64
    → SameOpen (after_lines (t ++ 10 ∷ u)) (after_lines u)
list_states t u mark c ends ink other small =
    subst (λ x. SameOpen (after_lines x) (after_lines u)) (append_assoc t (10 ∷ []) u)
    (states_after q u feed (omega (arith, long)) few split (rest_closes q u mark page waits (λ l b n. shut_yields (q ++ u) (cells_of [] l.start (first_line u)) l page shut) ink other few split) (quotes_after q (all_lines q (omega (arith, few)))))
  where
    q : List ℕ
    q = t ++ 10 ∷ []

    long : length q ≡ length t + 1
    long = length-append t (10 ∷ [])

    few : 4 * (length q + length u) + 20 < 2 ^ 64
    few = omega (arith, small, long)

    feed : Feed q
    feed = feed_end t

    split : Splits q u (length q) (lines_of (q ++ u)) (lines_of q)
    split = split_lines q u (omega (arith, few)) feed

    page : State
    page = fold (line_taken_in core_known (q ++ u)) first_page (lines_of q)

    left : Left t u mark
    left = left_after t u mark c ends small

    before : State
    before = fold (line_taken_in core_known (q ++ u)) first_page (lines_of t)

    waits : Waits mark page
    waits = subst (Waits mark) (sym left.page) (waits_after (q ++ u) mark left.depth before left.low left.holds)

    shut : page.leaf ≡ leaf.Nothing
    shut = ap (λ (x : State). x.leaf) left.page ∙ closed_shut (q ++ u) left.depth before

-- the list stays open before nothing, and has the same blocks
pub record StaysOpen (t : List ℕ) (mark : ℕ) : Type 0 where
  pub leaves : LeavesList (t ++ 10 ∷ []) mark
  pub ends : ends_leaf (after_lines (t ++ 10 ∷ [])) ≡ true
  pub trees : read_trees (t ++ 10 ∷ []) ≡ read_trees t
  pub definitions : (blocks_in CORE (t ++ 10 ∷ [])).definitions ≡ (blocks_in CORE t).definitions

outer_is : (mark : ℕ) (inner : List Container) (os : List Opened) → containers os ≡ container.List mark ∷ inner → outer_mark os ≡ Some mark
outer_is mark inner [] e = absurd cc
outer_is mark inner (o ∷ os) e = let z : o.container ≡ container.List mark = cc in ap list_mark z

ends_nothing : (s : State) → s.leaf ≡ leaf.Nothing → ends_leaf s ≡ true
ends_nothing s e = ap (λ k. has_quote s.opened || ends_before_blank k) e ∙ by (has_quote s.opened)
  where
    by : (b : Bool) → (b || true) ≡ true
    by true = refl
    by false = refl

pub list_stays : (t : List ℕ) (mark : ℕ) → LeavesList t mark → ends_leaf (after_lines t) ≡ true → 4 * length t + 28 < 2 ^ 64 → StaysOpen t mark
unfolding blocks_in page_in known_of
list_stays t mark c ends small = record {
  leaves = record { line = (t, refl); list = subst (λ s. outer_mark s.opened ≡ Some mark) (sym after) (outer_is mark waits.lists.inner (closed_to w left.depth before).opened waits.lists.first) };
  ends = ends_nothing (after_lines q) (ap (λ (x : State). x.leaf) after ∙ closed_shut w left.depth before);
  trees = ap tree_told e.blocks;
  definitions = e.definitions;
}
  where
    q : List ℕ
    q = t ++ 10 ∷ []

    w : List ℕ
    w = q ++ []

    e : Ended t
    e = ended_list t mark c ends small

    left : Left t [] mark
    left = left_after t [] mark c ends (omega (arith, small))

    before : State
    before = fold (line_taken_in core_known w) first_page (lines_of t)

    waits : Waits mark (closed_to w left.depth before)
    waits = waits_after w mark left.depth before left.low left.holds

    after : after_lines q ≡ closed_to w left.depth before
    after = ap (λ x. fold (line_taken_in core_known x) first_page (lines_of q)) (sym (append-nil q)) ∙ left.page
