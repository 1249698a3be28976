-- CommonMark alone opens no leaf of an extension.
use Rattle.std.proofs.Common.{◌≡◌, ℕ, zero, suc, ◌-◌, Bool, true, false, not, ◌&&◌, if◌then◌else◌, nat_lt, nat_le, List, length, refl, ap, ◌∙◌}
use Rattle.std.specs.Prelude.{slice_get, slice_set, Option, Some, None, unwrap_or, min}
use Rattle.std.specs.Option.{option_map, option_map_or}
use Rattle.tocmark_event.specs.declared.event.HeadingLevel.{HeadingLevel}
use Rattle.tocmark_read_scan.specs.Basic.{plus}
use Rattle.tocmark_read_scan.specs.Repeat.{going, repeated}
use Rattle.tocmark_read_lines.specs.Cells.{indent_of, is_blank_at}
use Rattle.tocmark_read_lines.specs.Html.{html_ends}
use Rattle.tocmark_read_lines.specs.Marks.{closes_fence, fence_at, heading_at, is_rule}
use Rattle.tocmark_read_lines.specs.declared.beginnings.Fence.{Fence}
use Rattle.tocmark_read_lines.specs.declared.beginnings.Heading.{Heading}
use Rattle.tocmark_read_lines.specs.declared.beginnings.Tail.{Tail}
use Rattle.tocmark_read_lines.specs.declared.cell.Cell.{Cell}
use Rattle.tocmark_read_lines.specs.declared.cell.Cursor.{Cursor}
use Rattle.tocmark_read_lines.specs.declared.html.HtmlKind.{HtmlKind}
use Rattle.tocmark_read_lines.specs.declared.line.Line.{Line}
use Rattle.tocmark_read_page.specs.Leaves.{is_paragraph}
use Rattle.tocmark_read_page.specs.Pages.{State, leaf_finished, settled, settled_as, defined_as, closed_to, leaf_opened}
use Rattle.tocmark_read_page.specs.declared.leaf.Leaf.{Leaf}
use Rattle.tocmark_read_page.specs.declared.leaf.Leaf.TheVariants as leaf
use Rattle.tocmark_read_page.specs.declared.line_start.LineStart.{LineStart}
use Rattle.tocmark_read_page.specs.declared.page.Block.{Block}
use Rattle.tocmark_read_page.specs.declared.page.BlockKind.TheVariants as kind
use Rattle.tocmark_read_page.specs.Pieces.{text_piece}
use Rattle.tocmark_read_blocks.specs.Codes.{html_ended_as, html_ended, code_taken}
use Rattle.tocmark_read_blocks.specs.Leaves.{leaf_turn, html_at, underline_in, rule_at, mark_at, leaf_at, goes_past_blank}
use Rattle.tocmark_read_blocks.specs.Paragraphs.{text_started, in_paragraph, text_taken}
use Rattle.tocmark_read_blocks.specs.declared.leaf.LeafStart.{LeafStart}
use Rattle.tocmark_read_blocks.specs.declared.leaf.LeafStart.TheVariants as start
use Rattle.tocmark_read_blocks.specs.declared.leaf.Turn.{Turn}
use Rattle.tocmark_read_blocks.specs.declared.leaf.Turn.TheVariants as turn
use Rattle.tocmark_text_laws.proofs.Shut.{piece_taken_leaf}
use Rattle.tocmark_text_laws.proofs.Leaves.{is_core}

-- what a line begins in CommonMark
unfoldable pub begins_core : LeafStart → Bool
begins_core start.Blank = true
begins_core start.Text = true
begins_core (start.Indented column) = true
begins_core (start.Heading h) = true
begins_core (start.Fence f) = true
begins_core (start.Html k) = true
begins_core (start.Underline l) = true
begins_core start.Rule = true
begins_core (start.Metadata k) = false
begins_core (start.Task d) = false
begins_core (start.QuoteKind k) = false

rule_core : (cs : List Cell) (tail : Tail) (c : ℕ) → begins_core (rule_at cs tail c) ≡ true
unfolding begins_core rule_at
rule_core cs tail c = by (is_rule cs tail c)
  where
    by : (b : Bool) → begins_core (if b then start.Rule else start.Text) ≡ true
    by true = refl
    by false = refl

pub leaf_core : (cs : List Cell) (rest : List ℕ) (tail : Tail) (cursor : Cursor) (p d : Bool) → begins_core (leaf_at cs rest tail cursor p d) ≡ true
unfolding begins_core leaf_at mark_at
leaf_core cs rest tail cursor p d = by (is_blank_at cs cursor) (nat_lt (indent_of cursor) 4) p
  where
    rule : LeafStart
    rule = rule_at cs tail cursor.ink

    mark : (h : Option Heading) (f : Option Fence) (k : Option HtmlKind) (u : Option HeadingLevel)
        → begins_core (unwrap_or (option_map (λ h. start.Heading h) h) (unwrap_or (option_map (λ f. start.Fence f) f) (unwrap_or (option_map (λ k. start.Html k) k) (unwrap_or (option_map (λ l. start.Underline l) u) rule)))) ≡ true
    mark (Some h) f k u = refl
    mark None (Some f) k u = refl
    mark None None (Some k) u = refl
    mark None None None (Some l) = refl
    mark None None None None = rule_core cs tail cursor.ink

    by : (a b q : Bool) → begins_core (if a then start.Blank else (if b then mark_at cs rest tail cursor p d else (if q then start.Text else start.Indented (plus cursor.column 4)))) ≡ true
    by true b q = refl
    by false true q = mark (heading_at cs cursor.ink) (fence_at cs cursor) (html_at rest p) (underline_in cs cursor.ink d)
    by false false true = refl
    by false false false = refl

-- a step that keeps something, repeated, keeps it
pub repeated_keeps : {C S : Type 0} (P : S → Type 0) (once : C → S → S × Option C) → ((c : C) (s : S) → P s → P ((once c s).0)) → (n : ℕ) (c : C) (s : S) → P s → P ((repeated once n c s).0)
unfolding repeated
repeated_keeps P once f zero c s h = h
repeated_keeps {C = C} {S = S} P once f (suc n) c s h = by (once c s) (f c s h) (λ d t k. repeated_keeps P once f n d t k)
  where
    by : (r : S × Option C) → P (r.0) → ((d : C) (t : S) → P t → P ((repeated once n d t).0)) → P ((going (λ d t. repeated once n d t) c r).0)
    by (t, None) k g = k
    by (t, Some d) k g = g d t k

pub shut_core : (s : State) → s.leaf ≡ leaf.Nothing → is_core s.leaf ≡ true
unfolding is_core
shut_core s h = ap is_core h

pub ended_core : (rest : List ℕ) (s : State) → is_core s.leaf ≡ true → is_core (html_ended rest s).leaf ≡ true
unfolding html_ended is_core leaf_finished
ended_core rest s h = by s.leaf
  where
    ends : (b : Bool) → is_core (if b then leaf_finished s else s).leaf ≡ true
    ends true = refl
    ends false = h

    by : (k : Leaf) → is_core (html_ended_as k rest s).leaf ≡ true
    by leaf.Nothing = h
    by leaf.Paragraph = h
    by leaf.Indented = h
    by (leaf.Fenced f) = h
    by (leaf.Html k) = ends (html_ends k rest)
    by (leaf.Metadata k) = h
    by (leaf.Table t) = h

pub code_core : (t : List ℕ) (cs : List Cell) (column : ℕ) (line : Line) (s : State) → is_core s.leaf ≡ true → is_core (code_taken t cs column line s).leaf ≡ true
unfolding code_taken
code_core t cs column line s h = ended_core _ _ (ap is_core (piece_taken_leaf _ line _ s) ∙ h)

text_started_leaf : (start : ℕ) (s : State) → (text_started start s).leaf ≡ s.leaf
unfolding text_started
text_started_leaf start s = by (slice_get s.blocks (length s.blocks - 1))
  where
    inner : (b : Block) (k : Bool) → (if k then record s { blocks = slice_set s.blocks (length s.blocks - 1) (record b { start = start }) } else s).leaf ≡ s.leaf
    inner b true = refl
    inner b false = refl

    by : (o : Option Block) → (option_map_or (λ (b : Block). if nat_le (length s.pieces) b.first then record s { blocks = slice_set s.blocks (length s.blocks - 1) (record b { start = start }) } else s) o s).leaf ≡ s.leaf
    by None = refl
    by (Some b) = inner b (nat_le (length s.pieces) b.first)

in_paragraph_core : (t : List ℕ) (cs : List Cell) (line : Line) (place : LineStart) (s : State) → is_core s.leaf ≡ true → is_core (in_paragraph t cs line place s).leaf ≡ true
unfolding is_core leaf_opened
in_paragraph_core t cs line place s h = by (is_paragraph s.leaf)
  where
    by : (b : Bool) → is_core (if b then s else leaf_opened leaf.Paragraph kind.Paragraph (text_piece cs place.cursor line).start line (closed_to t place.depth s)).leaf ≡ true
    by true = h
    by false = refl

pub text_core : (t : List ℕ) (cs : List Cell) (line : Line) (place : LineStart) (s : State) → is_core s.leaf ≡ true → is_core (text_taken t cs line place s).leaf ≡ true
unfolding text_taken
text_core t cs line place s h = ap is_core (piece_taken_leaf _ line true _ ∙ text_started_leaf _ (in_paragraph t cs line place s)) ∙ in_paragraph_core t cs line place s h

pub settled_leaf : (t : List ℕ) (s : State) → (settled t s).leaf ≡ s.leaf
unfolding settled
settled_leaf t s = by (slice_get s.blocks (length s.blocks - 1))
  where
    boxed : (k : Bool) (b : Block) → (if k then s else defined_as t s b).leaf ≡ s.leaf
    boxed true b = refl
    boxed false b = refl

    by : (o : Option Block) → (option_map_or (settled_as t s) o s).leaf ≡ s.leaf
    by None = refl
    by (Some b) = boxed _ b

-- what an open leaf may do with a line, without extensions
unfoldable pub turns_core : Turn → Leaf → Bool
turns_core turn.Closes k = true
turns_core (turn.Takes column) leaf.Nothing = false
turns_core (turn.Takes column) leaf.Paragraph = true
turns_core (turn.Takes column) leaf.Indented = true
turns_core (turn.Takes column) (leaf.Fenced f) = true
turns_core (turn.Takes column) (leaf.Html k) = true
turns_core (turn.Takes column) (leaf.Metadata k) = true
turns_core (turn.Takes column) (leaf.Table t) = true
turns_core turn.Passes k = true
turns_core (turn.Row t) k = false

pub turn_core : (t : List ℕ) (cs : List Cell) (line : Line) (cursor : Cursor) (k : Leaf) → is_core k ≡ true → turns_core (leaf_turn t cs line cursor k) k ≡ true
unfolding is_core turns_core leaf_turn
turn_core t cs line cursor leaf.Nothing h = refl
turn_core t cs line cursor leaf.Paragraph h = refl
turn_core t cs line cursor leaf.Indented h = by (nat_le 4 (indent_of cursor)) (is_blank_at cs cursor)
  where
    by : (a b : Bool) → turns_core (if a then turn.Takes (plus cursor.column 4) else (if b then turn.Takes cursor.ink else turn.Passes)) leaf.Indented ≡ true
    by true b = refl
    by false true = refl
    by false false = refl
turn_core t cs line cursor (leaf.Fenced f) h = by (closes_fence cs cursor f)
  where
    by : (a : Bool) → turns_core (if a then turn.Closes else turn.Takes (plus cursor.column (min f.indent (indent_of cursor)))) (leaf.Fenced f) ≡ true
    by true = refl
    by false = refl
turn_core t cs line cursor (leaf.Html k) h = by (is_blank_at cs cursor && not (goes_past_blank k))
  where
    by : (a : Bool) → turns_core (if a then turn.Passes else turn.Takes cursor.column) (leaf.Html k) ≡ true
    by true = refl
    by false = refl
turn_core t cs line cursor (leaf.Metadata k) h = absurd cc
turn_core t cs line cursor (leaf.Table x) h = absurd cc
