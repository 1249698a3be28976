-- Examples of the standard: list items, part 2.
use Rattle.std.specs.Prelude.{true, false, List, [], ◌∷◌, Some, None, codes}
use Rattle.tocmark_event.specs.declared.event.HeadingLevel.TheVariants as level
use Rattle.tocmark_event.specs.declared.event.TagEnd.TheVariants as end
use Rattle.tocmark_event.specs.View.{Paragraph, Heading, BlockQuote, CodeBlock, Fenced, ListOf, Item, Start, End, Leaf, Text, SoftBreak}
use Rattle.tocmark_commonmark.specs.StandardExamples.{EventRow, event_row}

-- List items
abbrev pub example_277 : EventRow
example_277 = event_row (codes "-  foo\n\n   bar\n")
    (Start (ListOf None) ∷ Start Item ∷ Start Paragraph ∷ Leaf (Text (codes "foo")) ∷ End end.Paragraph ∷ Start Paragraph ∷ Leaf (Text (codes "bar")) ∷ End end.Paragraph ∷ End end.Item ∷ End (end.List false) ∷ [])

-- List items
abbrev pub example_278 : EventRow
example_278 = event_row (codes "-\n  foo\n-\n  ```\n  bar\n  ```\n-\n      baz\n")
    (Start (ListOf None) ∷ Start Item ∷ Leaf (Text (codes "foo")) ∷ End end.Item ∷ Start Item ∷ Start (CodeBlock (Fenced [])) ∷ Leaf (Text (codes "bar\n")) ∷ End end.CodeBlock ∷ End end.Item ∷ Start Item ∷ Start (CodeBlock (Fenced [])) ∷ Leaf (Text (codes "baz\n")) ∷ End end.CodeBlock ∷ End end.Item ∷ End (end.List false) ∷ [])

-- List items
abbrev pub example_279 : EventRow
example_279 = event_row (codes "-   \n  foo\n")
    (Start (ListOf None) ∷ Start Item ∷ Leaf (Text (codes "foo")) ∷ End end.Item ∷ End (end.List false) ∷ [])

-- List items
abbrev pub example_280 : EventRow
example_280 = event_row (codes "-\n\n  foo\n")
    (Start (ListOf None) ∷ Start Item ∷ End end.Item ∷ End (end.List false) ∷ Start Paragraph ∷ Leaf (Text (codes "foo")) ∷ End end.Paragraph ∷ [])

-- List items
abbrev pub example_281 : EventRow
example_281 = event_row (codes "- foo\n-\n- bar\n")
    (Start (ListOf None) ∷ Start Item ∷ Leaf (Text (codes "foo")) ∷ End end.Item ∷ Start Item ∷ End end.Item ∷ Start Item ∷ Leaf (Text (codes "bar")) ∷ End end.Item ∷ End (end.List false) ∷ [])

-- List items
abbrev pub example_282 : EventRow
example_282 = event_row (codes "- foo\n-   \n- bar\n")
    (Start (ListOf None) ∷ Start Item ∷ Leaf (Text (codes "foo")) ∷ End end.Item ∷ Start Item ∷ End end.Item ∷ Start Item ∷ Leaf (Text (codes "bar")) ∷ End end.Item ∷ End (end.List false) ∷ [])

-- List items
abbrev pub example_283 : EventRow
example_283 = event_row (codes "1. foo\n2.\n3. bar\n")
    (Start (ListOf (Some 1)) ∷ Start Item ∷ Leaf (Text (codes "foo")) ∷ End end.Item ∷ Start Item ∷ End end.Item ∷ Start Item ∷ Leaf (Text (codes "bar")) ∷ End end.Item ∷ End (end.List true) ∷ [])

-- List items
abbrev pub example_284 : EventRow
example_284 = event_row (codes "*\n")
    (Start (ListOf None) ∷ Start Item ∷ End end.Item ∷ End (end.List false) ∷ [])

-- List items
abbrev pub example_285 : EventRow
example_285 = event_row (codes "foo\n*\n\nfoo\n1.\n")
    (Start Paragraph ∷ Leaf (Text (codes "foo")) ∷ Leaf SoftBreak ∷ Leaf (Text (codes "*")) ∷ End end.Paragraph ∷ Start Paragraph ∷ Leaf (Text (codes "foo")) ∷ Leaf SoftBreak ∷ Leaf (Text (codes "1.")) ∷ End end.Paragraph ∷ [])

-- List items
abbrev pub example_286 : EventRow
example_286 = event_row (codes " 1.  A paragraph\n     with two lines.\n\n         indented code\n\n     > A block quote.\n")
    (Start (ListOf (Some 1)) ∷ Start Item ∷ Start Paragraph ∷ Leaf (Text (codes "A paragraph")) ∷ Leaf SoftBreak ∷ Leaf (Text (codes "with two lines.")) ∷ End end.Paragraph ∷ Start (CodeBlock (Fenced [])) ∷ Leaf (Text (codes "indented code\n")) ∷ End end.CodeBlock ∷ Start (BlockQuote None) ∷ Start Paragraph ∷ Leaf (Text (codes "A block quote.")) ∷ End end.Paragraph ∷ End (end.BlockQuote None) ∷ End end.Item ∷ End (end.List true) ∷ [])

-- List items
abbrev pub example_287 : EventRow
example_287 = event_row (codes "  1.  A paragraph\n      with two lines.\n\n          indented code\n\n      > A block quote.\n")
    (Start (ListOf (Some 1)) ∷ Start Item ∷ Start Paragraph ∷ Leaf (Text (codes "A paragraph")) ∷ Leaf SoftBreak ∷ Leaf (Text (codes "with two lines.")) ∷ End end.Paragraph ∷ Start (CodeBlock (Fenced [])) ∷ Leaf (Text (codes "indented code\n")) ∷ End end.CodeBlock ∷ Start (BlockQuote None) ∷ Start Paragraph ∷ Leaf (Text (codes "A block quote.")) ∷ End end.Paragraph ∷ End (end.BlockQuote None) ∷ End end.Item ∷ End (end.List true) ∷ [])

-- List items
abbrev pub example_288 : EventRow
example_288 = event_row (codes "   1.  A paragraph\n       with two lines.\n\n           indented code\n\n       > A block quote.\n")
    (Start (ListOf (Some 1)) ∷ Start Item ∷ Start Paragraph ∷ Leaf (Text (codes "A paragraph")) ∷ Leaf SoftBreak ∷ Leaf (Text (codes "with two lines.")) ∷ End end.Paragraph ∷ Start (CodeBlock (Fenced [])) ∷ Leaf (Text (codes "indented code\n")) ∷ End end.CodeBlock ∷ Start (BlockQuote None) ∷ Start Paragraph ∷ Leaf (Text (codes "A block quote.")) ∷ End end.Paragraph ∷ End (end.BlockQuote None) ∷ End end.Item ∷ End (end.List true) ∷ [])

-- List items
abbrev pub example_289 : EventRow
example_289 = event_row (codes "    1.  A paragraph\n        with two lines.\n\n            indented code\n\n        > A block quote.\n")
    (Start (CodeBlock (Fenced [])) ∷ Leaf (Text (codes "1.  A paragraph\n    with two lines.\n\n        indented code\n\n    > A block quote.\n")) ∷ End end.CodeBlock ∷ [])

-- List items
abbrev pub example_290 : EventRow
example_290 = event_row (codes "  1.  A paragraph\nwith two lines.\n\n          indented code\n\n      > A block quote.\n")
    (Start (ListOf (Some 1)) ∷ Start Item ∷ Start Paragraph ∷ Leaf (Text (codes "A paragraph")) ∷ Leaf SoftBreak ∷ Leaf (Text (codes "with two lines.")) ∷ End end.Paragraph ∷ Start (CodeBlock (Fenced [])) ∷ Leaf (Text (codes "indented code\n")) ∷ End end.CodeBlock ∷ Start (BlockQuote None) ∷ Start Paragraph ∷ Leaf (Text (codes "A block quote.")) ∷ End end.Paragraph ∷ End (end.BlockQuote None) ∷ End end.Item ∷ End (end.List true) ∷ [])

-- List items
abbrev pub example_291 : EventRow
example_291 = event_row (codes "  1.  A paragraph\n    with two lines.\n")
    (Start (ListOf (Some 1)) ∷ Start Item ∷ Leaf (Text (codes "A paragraph")) ∷ Leaf SoftBreak ∷ Leaf (Text (codes "with two lines.")) ∷ End end.Item ∷ End (end.List true) ∷ [])

-- List items
abbrev pub example_292 : EventRow
example_292 = event_row (codes "> 1. > Blockquote\ncontinued here.\n")
    (Start (BlockQuote None) ∷ Start (ListOf (Some 1)) ∷ Start Item ∷ Start (BlockQuote None) ∷ Start Paragraph ∷ Leaf (Text (codes "Blockquote")) ∷ Leaf SoftBreak ∷ Leaf (Text (codes "continued here.")) ∷ End end.Paragraph ∷ End (end.BlockQuote None) ∷ End end.Item ∷ End (end.List true) ∷ End (end.BlockQuote None) ∷ [])

-- List items
abbrev pub example_293 : EventRow
example_293 = event_row (codes "> 1. > Blockquote\n> continued here.\n")
    (Start (BlockQuote None) ∷ Start (ListOf (Some 1)) ∷ Start Item ∷ Start (BlockQuote None) ∷ Start Paragraph ∷ Leaf (Text (codes "Blockquote")) ∷ Leaf SoftBreak ∷ Leaf (Text (codes "continued here.")) ∷ End end.Paragraph ∷ End (end.BlockQuote None) ∷ End end.Item ∷ End (end.List true) ∷ End (end.BlockQuote None) ∷ [])

-- List items
abbrev pub example_294 : EventRow
example_294 = event_row (codes "- foo\n  - bar\n    - baz\n      - boo\n")
    (Start (ListOf None) ∷ Start Item ∷ Leaf (Text (codes "foo")) ∷ Start (ListOf None) ∷ Start Item ∷ Leaf (Text (codes "bar")) ∷ Start (ListOf None) ∷ Start Item ∷ Leaf (Text (codes "baz")) ∷ Start (ListOf None) ∷ Start Item ∷ Leaf (Text (codes "boo")) ∷ End end.Item ∷ End (end.List false) ∷ End end.Item ∷ End (end.List false) ∷ End end.Item ∷ End (end.List false) ∷ End end.Item ∷ End (end.List false) ∷ [])

-- List items
abbrev pub example_295 : EventRow
example_295 = event_row (codes "- foo\n - bar\n  - baz\n   - boo\n")
    (Start (ListOf None) ∷ Start Item ∷ Leaf (Text (codes "foo")) ∷ End end.Item ∷ Start Item ∷ Leaf (Text (codes "bar")) ∷ End end.Item ∷ Start Item ∷ Leaf (Text (codes "baz")) ∷ End end.Item ∷ Start Item ∷ Leaf (Text (codes "boo")) ∷ End end.Item ∷ End (end.List false) ∷ [])

-- List items
abbrev pub example_296 : EventRow
example_296 = event_row (codes "10) foo\n    - bar\n")
    (Start (ListOf (Some 10)) ∷ Start Item ∷ Leaf (Text (codes "foo")) ∷ Start (ListOf None) ∷ Start Item ∷ Leaf (Text (codes "bar")) ∷ End end.Item ∷ End (end.List false) ∷ End end.Item ∷ End (end.List true) ∷ [])

-- List items
abbrev pub example_297 : EventRow
example_297 = event_row (codes "10) foo\n   - bar\n")
    (Start (ListOf (Some 10)) ∷ Start Item ∷ Leaf (Text (codes "foo")) ∷ End end.Item ∷ End (end.List true) ∷ Start (ListOf None) ∷ Start Item ∷ Leaf (Text (codes "bar")) ∷ End end.Item ∷ End (end.List false) ∷ [])

-- List items
abbrev pub example_298 : EventRow
example_298 = event_row (codes "- - foo\n")
    (Start (ListOf None) ∷ Start Item ∷ Start (ListOf None) ∷ Start Item ∷ Leaf (Text (codes "foo")) ∷ End end.Item ∷ End (end.List false) ∷ End end.Item ∷ End (end.List false) ∷ [])

-- List items
abbrev pub example_299 : EventRow
example_299 = event_row (codes "1. - 2. foo\n")
    (Start (ListOf (Some 1)) ∷ Start Item ∷ Start (ListOf None) ∷ Start Item ∷ Start (ListOf (Some 2)) ∷ Start Item ∷ Leaf (Text (codes "foo")) ∷ End end.Item ∷ End (end.List true) ∷ End end.Item ∷ End (end.List false) ∷ End end.Item ∷ End (end.List true) ∷ [])

-- List items
abbrev pub example_300 : EventRow
example_300 = event_row (codes "- # Foo\n- Bar\n  ---\n  baz\n")
    (Start (ListOf None) ∷ Start Item ∷ Start (Heading level.H1 None [] []) ∷ Leaf (Text (codes "Foo")) ∷ End (end.Heading level.H1) ∷ End end.Item ∷ Start Item ∷ Start (Heading level.H2 None [] []) ∷ Leaf (Text (codes "Bar")) ∷ End (end.Heading level.H2) ∷ Leaf (Text (codes "baz")) ∷ End end.Item ∷ End (end.List false) ∷ [])

-- all of these
abbrev pub standard_items_second : List EventRow
standard_items_second = example_277 ∷ example_278 ∷ example_279 ∷ example_280 ∷ example_281 ∷ example_282 ∷ example_283 ∷ example_284 ∷ example_285 ∷ example_286 ∷ example_287 ∷ example_288 ∷ example_289 ∷ example_290 ∷ example_291 ∷ example_292 ∷ example_293 ∷ example_294 ∷ example_295 ∷ example_296 ∷ example_297 ∷ example_298 ∷ example_299 ∷ example_300 ∷ []
