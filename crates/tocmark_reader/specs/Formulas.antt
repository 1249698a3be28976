-- Formulas keep the blanks at the beginning of their lines, after the prefixes of the containers.
use Rattle.std.specs.Prelude.{ℕ, Bool, ◌==◌, ◌&&◌, nat_lt, if◌then◌else◌, List, [], ◌∷◌, ◌++◌, drop, fold}
use Rattle.std.specs.List.{list_any}
use Rattle.std.specs.Str.Lossy.{utf8_lossy}
use Rattle.tocmark_event.specs.View.{LeafView, InlineMath, DisplayMath}
use Rattle.tocmark_read_scan.specs.Basic.{bytes_between}
use Rattle.tocmark_read_scan.specs.declared.syntax.Syntax.{Syntax}
use Rattle.tocmark_read_page.specs.declared.piece.Piece.{Piece}
use Rattle.tocmark_read_spans.specs.declared.role.Leaf.{Leaf}
use Rattle.tocmark_read_spans.specs.declared.role.Leaf.TheVariants as leaf
use Rattle.tocmark_read_spans.specs.declared.role.Stretch.{Stretch}
use Rattle.tocmark_read_spans.specs.declared.role.Target.{Target}
use Rattle.tocmark_read_inlines.specs.declared.write.InlineKind.{InlineKind}
use Rattle.tocmark_read_inlines.specs.declared.write.InlineKind.TheVariants as item
use Rattle.tocmark_read_inlines.specs.declared.write.Node.{Node}
use Rattle.tocmark_reader.specs.Emitted.{ItemView, NodeView, Container, Source, Given}
use Rattle.tocmark_reader.specs.Inlines.{leaf_of, span_tag}

-- blanks are in front of a line
unfoldable pub is_indented : Piece → Bool
is_indented line = nat_lt line.from line.start

-- mathematics is read, and a line after the first is indented
unfoldable pub keeps_blanks : Syntax → List Piece → Bool
keeps_blanks syntax lines = syntax.math && list_any is_indented (drop 1 lines)

-- the lines that begin after a place
abbrev pub lines_behind : ℕ → List Piece → List Piece
lines_behind place [] = []
lines_behind place (l ∷ ls) = if nat_lt place l.start then l ∷ ls else lines_behind place ls

-- the blanks in front of the first of these lines
abbrev pub blanks_of : List ℕ → List Piece → List ℕ
blanks_of source [] = []
blanks_of source (l ∷ ls) = bytes_between source l.from l.start

-- one more byte of a formula, with the lines that are still to come: after a line feed the blanks of the next one
unfoldable pub laid_byte : List ℕ → List Piece × List ℕ → ℕ → List Piece × List ℕ
laid_byte source (lines, out) b =
    if b == 10 then (drop 1 lines, (out ++ b ∷ []) ++ blanks_of source lines) else (lines, out ++ b ∷ [])

-- the bytes of a formula in which these lines begin, with their blanks
abbrev pub laid_bytes : List ℕ → List Piece → List ℕ → List ℕ
laid_bytes source lines bytes = (fold (laid_byte source) (lines, []) bytes).1

-- a stretch of texts as a formula
unfoldable pub formula_text : List ℕ → List Piece → List ℕ → Stretch → List ℕ
formula_text source lines texts s = utf8_lossy (laid_bytes source lines (bytes_between texts s.start s.end))

-- the leaf that an inline without children is
unfoldable pub laid_leaf : List ℕ → List Piece → List ℕ → Leaf → LeafView
laid_leaf source lines texts (leaf.Character c) = leaf_of texts (leaf.Character c)
laid_leaf source lines texts (leaf.Code s) = leaf_of texts (leaf.Code s)
laid_leaf source lines texts (leaf.Html s) = leaf_of texts (leaf.Html s)
laid_leaf source lines texts leaf.SoftBreak = leaf_of texts leaf.SoftBreak
laid_leaf source lines texts leaf.HardBreak = leaf_of texts leaf.HardBreak
laid_leaf source lines texts (leaf.Text s) = leaf_of texts (leaf.Text s)
laid_leaf source lines texts (leaf.Footnote name) = leaf_of texts (leaf.Footnote name)
laid_leaf source lines texts (leaf.InlineMath s) = InlineMath (formula_text source lines texts s)
laid_leaf source lines texts (leaf.DisplayMath s) = DisplayMath (formula_text source lines texts s)

-- the item that an inline is
unfoldable pub laid_item : List ℕ → List Piece → List ℕ → List Target → InlineKind → ItemView
laid_item source lines texts targets item.Text = Source
laid_item source lines texts targets (item.Span s) = Container (span_tag texts targets s)
laid_item source lines texts targets (item.Leaf l) = Given (laid_leaf source lines texts l)

-- the node of an inline, after which these lines begin
unfoldable pub laid_node : List ℕ → List Piece → List ℕ → List Target → Node → NodeView
laid_node source lines texts targets n =
    record { depth = n.depth; item = laid_item source lines texts targets n.item; start = n.start; end = n.end }

-- the nodes of inlines among these lines
abbrev pub laid_nodes : List ℕ → List Piece → List ℕ → List Target → List Node → List NodeView
laid_nodes source lines texts targets [] = []
laid_nodes source lines texts targets (n ∷ ns) =
    laid_node source (lines_behind n.start lines) texts targets n ∷ laid_nodes source (lines_behind n.start lines) texts targets ns
