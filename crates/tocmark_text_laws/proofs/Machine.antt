-- How a line comes into a page whose places are one further.
use Rattle.std.proofs.Common.{◌≡◌, ℕ, suc, ◌+◌, ◌-◌, ◌^◌, ◌<◌, Bool, true, false, if◌then◌else◌, List, ◌∷◌, map, refl, ap, sym, ◌∙◌, subst}
use Rattle.tocmark_read_scan.specs.Basic.{bytes_between}
use Rattle.tocmark_read_lines.specs.Marks.{is_rule}
use Rattle.tocmark_read_lines.specs.declared.beginnings.Tail.{Tail}
use Rattle.tocmark_read_lines.specs.declared.cell.Cell.{Cell}
use Rattle.tocmark_read_lines.specs.declared.line.Line.{Line}
use Rattle.tocmark_event.specs.declared.event.HeadingLevel.{HeadingLevel}
use Rattle.tocmark_read_page.specs.Leaves.{is_paragraph}
use Rattle.tocmark_read_page.specs.Pages.{State, settled, closed_to, has_text, start_of}
use Rattle.tocmark_read_page.specs.declared.leaf.Leaf.TheVariants as leaf
use Rattle.tocmark_read_page.specs.declared.line_start.LineStart.{LineStart}
use Rattle.tocmark_read_constructs.specs.Metadata.{metadata_in}
use Rattle.tocmark_read_blocks.specs.Blocks.{core_known, rule_or_text, underlined_if, underline_taken_in, started_in, started_at_in, extends_starts}
use Rattle.tocmark_read_blocks.specs.Containers.{goes_directly}
use Rattle.tocmark_read_blocks.specs.Leaves.{metadata_or, rule_at, leaf_at}
use Rattle.tocmark_read_blocks.specs.declared.leaf.LeafStart.{LeafStart}
use Rattle.tocmark_read_blocks.specs.declared.leaf.LeafStart.TheVariants as start
use Rattle.tocmark_read_blocks.proofs.CoreStarts.{starts_as_core}
use Rattle.tocmark_text_laws.specs.Further.{cell_on, line_on, page_on, tied_on}
use Rattle.tocmark_text_laws.proofs.LinesFurther.{between_on}
use Rattle.tocmark_text_laws.proofs.Cells.{place_on}
use Rattle.tocmark_text_laws.proofs.Pieces.{Low}
use Rattle.tocmark_text_laws.proofs.Pages.{is_shut, Tied, settled_on, settled_end, settled_line, closed_to_on, same_has_text}
use Rattle.tocmark_text_laws.proofs.Shut.{closed_shut}
use Rattle.tocmark_text_laws.proofs.Core.{begins_core, leaf_core, settled_leaf}
use Rattle.tocmark_text_laws.proofs.Leaves.{indented_on, fence_on, html_on, text_taken_on, rule_on, heading_on, underlined_on, same_rule_at, same_leaf_at}
use Rattle.tocmark_text_laws.proofs.Begun.{same_directly, shut_tied}

-- one page is another one further
abbrev pub On : State → State → Type 0
On s' s = (e : ℕ) × (l : ℕ) × (s' ≡ page_on e l s) × Tied e l s

pub on_tied : (s' s : State) → s' ≡ tied_on s → On s' s
on_tied s' s h = (suc s.end, suc s.line, h, λ _. (refl, refl))

pub on_shut : (e l : ℕ) (s' s : State) → s' ≡ page_on e l s → s.leaf ≡ leaf.Nothing → On s' s
on_shut e l s' s h k = (e, l, h, shut_tied e l s k)

settled_ties : (t : List ℕ) (e l : ℕ) (s : State) → Tied e l s → Tied e l (settled t s)
settled_ties t e l s h = λ o.
    let w = h (ap is_shut (sym (settled_leaf t s)) ∙ o) in
    (w.0 ∙ ap suc (sym (settled_end t s)), w.1 ∙ ap suc (sym (settled_line t s)))

rule_or_text_on : (t : List ℕ) (c : ℕ) (cs : List Cell) (line : Line) (tail : Tail) (place : LineStart) (e l : ℕ) (s : State) → Low cs line.end → line.number + 1 < 2 ^ 64 - 1 → Tied e l s
    → rule_or_text (rule_at cs tail place.cursor.ink) (c ∷ t) (map cell_on cs) (line_on line) place (page_on e l s) ≡ tied_on (rule_or_text (rule_at cs tail place.cursor.ink) t cs line place s)
unfolding rule_at
rule_or_text_on t c cs line tail place e l s low few tied = by (is_rule cs tail place.cursor.ink)
  where
    by : (b : Bool) → rule_or_text (if b then start.Rule else start.Text) (c ∷ t) (map cell_on cs) (line_on line) place (page_on e l s) ≡ tied_on (rule_or_text (if b then start.Rule else start.Text) t cs line place s)
    by true = rule_on t c cs line place e l s few tied
    by false = text_taken_on t c cs line place e l s low few tied

underline_on : (t : List ℕ) (c : ℕ) (cs : List Cell) (line : Line) (tail : Tail) (place : LineStart) (level : HeadingLevel) (e l : ℕ) (s : State) → Low cs line.end → line.number + 1 < 2 ^ 64 - 1 → Tied e l s
    → underline_taken_in core_known (c ∷ t) (map cell_on cs) (line_on line) tail place level (page_on e l s) ≡ tied_on (underline_taken_in core_known t cs line tail place level s)
unfolding underline_taken_in metadata_in metadata_or
underline_on t c cs line tail place level e l s low few tied =
    rw (settled_on t c e l s, same_has_text e l (settled t s), same_rule_at cs tail place.cursor.ink) (by (has_text (settled t s)))
  where
    u : State
    u = settled t s

    by : (b : Bool) → underlined_if core_known b (rule_at cs tail place.cursor.ink) (c ∷ t) (map cell_on cs) (line_on line) place level (page_on e l u) ≡ tied_on (underlined_if core_known b (rule_at cs tail place.cursor.ink) t cs line place level u)
    by true = underlined_on t c level line e l u
    by false = rule_or_text_on t c cs line tail place e l u low few (settled_ties t e l s tied)

pub started_on : (t : List ℕ) (c : ℕ) (cs : List Cell) (line : Line) (tail : Tail) (place : LineStart) (e l : ℕ) (s : State) (b : LeafStart) → Low cs line.end → line.number + 1 < 2 ^ 64 - 1 → Tied e l s → begins_core b ≡ true
    → On (started_in core_known b (c ∷ t) (map cell_on cs) (line_on line) tail place (page_on e l s)) (started_in core_known b t cs line tail place s)
unfolding started_in begins_core
started_on t c cs line tail place e l s start.Blank low few tied h = on_shut e l _ (closed_to t place.depth s) (closed_to_on t c place.depth e l s tied) (closed_shut t place.depth s)
started_on t c cs line tail place e l s start.Text low few tied h = on_tied _ _ (text_taken_on t c cs line place e l s low few tied)
started_on t c cs line tail place e l s (start.Indented column) low few tied h = on_tied _ _ (indented_on t c cs line place column e l s low few tied)
started_on t c cs line tail place e l s (start.Heading x) low few tied h = on_tied _ _ (heading_on t c cs line place x e l s few tied)
started_on t c cs line tail place e l s (start.Fence f) low few tied h = on_tied _ _ (fence_on t c cs line place f e l s few tied)
started_on t c cs line tail place e l s (start.Html k) low few tied h = on_tied _ _ (html_on t c cs line place k e l s low few tied)
started_on t c cs line tail place e l s (start.Underline level) low few tied h = on_tied _ _ (underline_on t c cs line tail place level e l s low few tied)
started_on t c cs line tail place e l s start.Rule low few tied h = on_tied _ _ (rule_on t c cs line place e l s few tied)
started_on t c cs line tail place e l s (start.Metadata k) low few tied h = absurd cc
started_on t c cs line tail place e l s (start.Task d) low few tied h = absurd cc
started_on t c cs line tail place e l s (start.QuoteKind k) low few tied h = absurd cc

-- what the rest of a line begins, without the extensions' say
abbrev pub core_at : List ℕ → List Cell → Line → Tail → State → LineStart → LeafStart
core_at t cs line tail s place = leaf_at cs (bytes_between t (start_of cs place line) line.end) tail place.cursor (is_paragraph s.leaf) (goes_directly place.depth s)

pub core_begun : (t : List ℕ) (cs : List Cell) (line : Line) (tail : Tail) (s : State) (place : LineStart) → started_at_in core_known t cs line tail (s, place) ≡ started_in core_known (core_at t cs line tail s place) t cs line tail place s
unfolding extends_starts
core_begun t cs line tail s place = ap (λ b. started_in core_known b t cs line tail place s) (sym (starts_as_core core_known t cs line place (goes_directly place.depth s) s (core_at t cs line tail s place) refl))

same_core_at : (t : List ℕ) (c : ℕ) (cs : List Cell) (line : Line) (tail : Tail) (e l : ℕ) (s : State) (place : LineStart) → core_at (c ∷ t) (map cell_on cs) (line_on line) tail (page_on e l s) place ≡ core_at t cs line tail s place
same_core_at t c cs line tail e l s place =
    rw (place_on cs place.cursor.ink line.end, between_on t c (start_of cs place line) line.end, same_directly place.depth e l s)
    (same_leaf_at cs (bytes_between t (start_of cs place line) line.end) tail place.cursor (is_paragraph s.leaf) (goes_directly place.depth s))

pub move : {a' b' a b : State} → a' ≡ b' → a ≡ b → On b' b → On a' a
move {a' = a'} {b' = b'} {a = a} {b = b} p q h = subst (λ x. On x a) (sym p) (subst (λ y. On b' y) (sym q) h)

pub started_at_on : (t : List ℕ) (c : ℕ) (cs : List Cell) (line : Line) (tail : Tail) (e l : ℕ) (s : State) (place : LineStart) → Low cs line.end → line.number + 1 < 2 ^ 64 - 1 → Tied e l s
    → On (started_at_in core_known (c ∷ t) (map cell_on cs) (line_on line) tail (page_on e l s, place)) (started_at_in core_known t cs line tail (s, place))
started_at_on t c cs line tail e l s place low few tied =
    move (core_begun (c ∷ t) (map cell_on cs) (line_on line) tail (page_on e l s) place ∙ ap (λ b. started_in core_known b (c ∷ t) (map cell_on cs) (line_on line) tail place (page_on e l s)) (same_core_at t c cs line tail e l s place))
    (core_begun t cs line tail s place)
    (started_on t c cs line tail place e l s (core_at t cs line tail s place) low few tied (leaf_core cs (bytes_between t (start_of cs place line) line.end) tail place.cursor (is_paragraph s.leaf) (goes_directly place.depth s)))
