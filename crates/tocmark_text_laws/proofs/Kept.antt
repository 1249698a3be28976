-- A line leaves a leaf that CommonMark has.
use Rattle.std.proofs.Common.{◌≡◌, ℕ, Bool, true, false, if◌then◌else◌, List, [], length, refl, ap, ◌∙◌}
use Rattle.std.specs.Prelude.{Option, Some, None}
use Rattle.tocmark_read_scan.specs.Basic.{bytes_between}
use Rattle.tocmark_read_scan.specs.declared.syntax.TheConstants.{CORE}
use Rattle.tocmark_read_lines.specs.Cells.{cells_of}
use Rattle.tocmark_read_lines.specs.Containers.{matched, container_in}
use Rattle.tocmark_read_lines.specs.Marks.{tail_of, is_rule}
use Rattle.tocmark_read_lines.specs.declared.beginnings.Tail.{Tail}
use Rattle.tocmark_read_lines.specs.declared.cell.Cell.{Cell}
use Rattle.tocmark_read_lines.specs.declared.cell.Cursor.{Cursor}
use Rattle.tocmark_read_lines.specs.declared.container.ContainerStart.{ContainerStart}
use Rattle.tocmark_read_lines.specs.declared.container.ContainerStart.TheVariants as begins
use Rattle.tocmark_read_lines.specs.declared.line.Line.{Line}
use Rattle.tocmark_event.specs.declared.event.HeadingLevel.{HeadingLevel}
use Rattle.tocmark_read_page.specs.Leaves.{is_paragraph}
use Rattle.tocmark_read_page.specs.Pages.{State, leaf_finished, settled, closed_to, leaf_opened, has_text, start_of}
use Rattle.tocmark_read_page.specs.declared.line_start.LineStart.{LineStart}
use Rattle.tocmark_read_constructs.specs.Headings.{heading_put, heading_started_in, underlined, underlined_in}
use Rattle.tocmark_read_constructs.specs.Metadata.{metadata_in}
use Rattle.tocmark_read_constructs.specs.Quotes.{quote_opened}
use Rattle.tocmark_read_blocks.specs.Blocks.{core_known, rule_or_text, underlined_if, underline_taken_in, started_in, started_at_in, leaf_started_in, passed_in, turn_in, leaf_ended, touched, turn_taken_in, taken_at_in, cells_taken_in, line_taken_in}
use Rattle.tocmark_read_blocks.specs.Codes.{indented_started, fence_started, html_started}
use Rattle.tocmark_read_blocks.specs.Containers.{goes_directly, item_opened, begun_at, container_once_in, containers_opened_in}
use Rattle.tocmark_read_blocks.specs.Leaves.{metadata_or, rule_at}
use Rattle.tocmark_read_blocks.specs.Paragraphs.{rule_started}
use Rattle.tocmark_read_blocks.specs.declared.leaf.LeafStart.{LeafStart}
use Rattle.tocmark_read_blocks.specs.declared.leaf.LeafStart.TheVariants as start
use Rattle.tocmark_read_blocks.specs.declared.leaf.Turn.{Turn}
use Rattle.tocmark_read_blocks.specs.declared.leaf.Turn.TheVariants as turn
use Rattle.tocmark_text_laws.proofs.Shut.{closed_shut}
use Rattle.tocmark_text_laws.proofs.Leaves.{is_core}
use Rattle.tocmark_text_laws.proofs.Core.{begins_core, leaf_core, repeated_keeps, shut_core, code_core, text_core, settled_leaf, turns_core}
use Rattle.tocmark_text_laws.proofs.Begun.{is_core_start, container_core, item_shut, quote_shut}
use Rattle.tocmark_text_laws.proofs.Machine.{core_at, core_begun}
use Rattle.tocmark_text_laws.proofs.Turns.{turn_of_core}

rule_or_text_core : (t : List ℕ) (cs : List Cell) (line : Line) (tail : Tail) (place : LineStart) (s : State) → is_core s.leaf ≡ true → is_core (rule_or_text (rule_at cs tail place.cursor.ink) t cs line place s).leaf ≡ true
unfolding rule_at rule_started leaf_finished is_core
rule_or_text_core t cs line tail place s h = by (is_rule cs tail place.cursor.ink)
  where
    by : (b : Bool) → is_core (rule_or_text (if b then start.Rule else start.Text) t cs line place s).leaf ≡ true
    by true = refl
    by false = text_core t cs line place s h

underline_core : (t : List ℕ) (cs : List Cell) (line : Line) (tail : Tail) (place : LineStart) (level : HeadingLevel) (s : State) → is_core s.leaf ≡ true → is_core (underline_taken_in core_known t cs line tail place level s).leaf ≡ true
unfolding underline_taken_in metadata_in metadata_or underlined_in underlined leaf_finished is_core
underline_core t cs line tail place level s h = by (has_text (settled t s))
  where
    by : (b : Bool) → is_core (underlined_if core_known b (rule_at cs tail place.cursor.ink) t cs line place level (settled t s)).leaf ≡ true
    by true = refl
    by false = rule_or_text_core t cs line tail place (settled t s) (ap is_core (settled_leaf t s) ∙ h)

started_core : (t : List ℕ) (cs : List Cell) (line : Line) (tail : Tail) (place : LineStart) (s : State) (b : LeafStart) → is_core s.leaf ≡ true → begins_core b ≡ true → is_core (started_in core_known b t cs line tail place s).leaf ≡ true
unfolding started_in begins_core is_core leaf_opened leaf_finished indented_started fence_started html_started rule_started heading_started_in heading_put
started_core t cs line tail place s start.Blank h k = shut_core (closed_to t place.depth s) (closed_shut t place.depth s)
started_core t cs line tail place s start.Text h k = text_core t cs line place s h
started_core t cs line tail place s (start.Indented column) h k = code_core t cs column line _ refl
started_core t cs line tail place s (start.Heading x) h k = refl
started_core t cs line tail place s (start.Fence f) h k = refl
started_core t cs line tail place s (start.Html x) h k = code_core t cs place.cursor.column line _ refl
started_core t cs line tail place s (start.Underline level) h k = underline_core t cs line tail place level s h
started_core t cs line tail place s start.Rule h k = refl
started_core t cs line tail place s (start.Metadata x) h k = absurd cc
started_core t cs line tail place s (start.Task d) h k = absurd cc
started_core t cs line tail place s (start.QuoteKind x) h k = absurd cc

begun_core : (t : List ℕ) (cs : List Cell) (line : Line) (place : LineStart) (s : State) (o : Option ContainerStart) → is_core_start o ≡ true → is_core s.leaf ≡ true → is_core ((begun_at t cs line place s o).0).leaf ≡ true
unfolding is_core_start
begun_core t cs line place s None k h = h
begun_core t cs line place s (Some begins.Quote) k h = shut_core ((quote_opened t cs line place s).0) (quote_shut t cs line place s)
begun_core t cs line place s (Some (begins.Item i)) k h = shut_core ((item_opened t cs line place i s).0) (item_shut t cs line place i s)
begun_core t cs line place s (Some (begins.Footnote n)) k h = absurd cc
begun_core t cs line place s (Some (begins.Definition d)) k h = absurd cc

containers_core : (t : List ℕ) (cs : List Cell) (line : Line) (tail : Tail) (place : LineStart) (s : State) → is_core s.leaf ≡ true → is_core ((containers_opened_in CORE t cs line tail place s).0).leaf ≡ true
unfolding container_once_in
containers_core t cs line tail place s h =
    repeated_keeps (λ (u : State). is_core u.leaf ≡ true) (container_once_in CORE t cs line tail)
    (λ next u k. begun_core t cs line next u (container_in CORE cs tail next.cursor (goes_directly next.depth u)) (container_core cs tail next.cursor (goes_directly next.depth u)) k)
    (length cs) place s h

leaf_started_core : (t : List ℕ) (cs : List Cell) (line : Line) (place : LineStart) (s : State) → is_core s.leaf ≡ true → is_core (leaf_started_in core_known t cs line place s).leaf ≡ true
unfolding leaf_started_in
leaf_started_core t cs line place s h = by (containers_opened_in CORE t cs line (tail_of cs) place s) (containers_core t cs line (tail_of cs) place s h)
  where
    by : (r : State × LineStart) → is_core (r.0).leaf ≡ true → is_core (started_at_in core_known t cs line (tail_of cs) r).leaf ≡ true
    by (u, next) k = ap (λ (v : State). is_core v.leaf) (core_begun t cs line (tail_of cs) u next)
        ∙ started_core t cs line (tail_of cs) next u (core_at t cs line (tail_of cs) u next) k (leaf_core cs (bytes_between t (start_of cs next line) line.end) (tail_of cs) next.cursor (is_paragraph u.leaf) (goes_directly next.depth u))

turned_core : (t : List ℕ) (cs : List Cell) (line : Line) (place : LineStart) (s : State) (u : Turn) → is_core s.leaf ≡ true → turns_core u s.leaf ≡ true → is_core (turn_taken_in core_known u t cs line place s).leaf ≡ true
unfolding passed_in turns_core leaf_ended leaf_finished is_core
turned_core t cs line place s turn.Closes h k = refl
turned_core t cs line place s (turn.Takes column) h k = code_core t cs column line s h
turned_core t cs line place s turn.Passes h k = leaf_started_core t cs line place s h
turned_core t cs line place s (turn.Row x) h k = absurd cc

pub line_core : (t : List ℕ) (line : Line) (s : State) → is_core s.leaf ≡ true → is_core (line_taken_in core_known t s line).leaf ≡ true
unfolding line_taken_in cells_taken_in touched turn_in
line_core t line s h = by (matched cells s.opened s.quotes)
  where
    cells : List Cell
    cells = cells_of [] line.start (bytes_between t line.start line.end)

    by : (found : ℕ × Cursor) → is_core (taken_at_in core_known t cells line (record { cursor = found.1; depth = found.0 }) (touched line (found.0) s)).leaf ≡ true
    by (depth, cursor) = turned_core t cells line (record { cursor = cursor; depth = depth }) (touched line depth s) _ h (turn_of_core t cells line (record { cursor = cursor; depth = depth }) (touched line depth s) h)
