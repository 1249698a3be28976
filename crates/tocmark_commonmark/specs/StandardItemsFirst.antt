-- Examples of the standard: list items, part 1.
use Rattle.std.specs.Prelude.{true, false, List, [], ◌∷◌, Some, None, codes}
use Rattle.tocmark_event.specs.declared.event.TagEnd.TheVariants as end
use Rattle.tocmark_event.specs.View.{Paragraph, BlockQuote, CodeBlock, Fenced, ListOf, Item, Start, End, Leaf, Text, SoftBreak}
use Rattle.tocmark_commonmark.specs.StandardExamples.{EventRow, event_row}

-- List items
abbrev pub example_253 : EventRow
example_253 = event_row (codes "A paragraph\nwith two lines.\n\n    indented code\n\n> A block quote.\n")
    (Start Paragraph ∷ Leaf (Text (codes "A paragraph")) ∷ Leaf SoftBreak ∷ Leaf (Text (codes "with two lines.")) ∷ End end.Paragraph ∷ Start (CodeBlock (Fenced [])) ∷ Leaf (Text (codes "indented code\n")) ∷ End end.CodeBlock ∷ Start (BlockQuote None) ∷ Start Paragraph ∷ Leaf (Text (codes "A block quote.")) ∷ End end.Paragraph ∷ End (end.BlockQuote None) ∷ [])

-- List items
abbrev pub example_254 : EventRow
example_254 = event_row (codes "1.  A paragraph\n    with two lines.\n\n        indented code\n\n    > A block quote.\n")
    (Start (ListOf (Some 1)) ∷ Start Item ∷ Start Paragraph ∷ Leaf (Text (codes "A paragraph")) ∷ Leaf SoftBreak ∷ Leaf (Text (codes "with two lines.")) ∷ End end.Paragraph ∷ Start (CodeBlock (Fenced [])) ∷ Leaf (Text (codes "indented code\n")) ∷ End end.CodeBlock ∷ Start (BlockQuote None) ∷ Start Paragraph ∷ Leaf (Text (codes "A block quote.")) ∷ End end.Paragraph ∷ End (end.BlockQuote None) ∷ End end.Item ∷ End (end.List true) ∷ [])

-- List items
abbrev pub example_255 : EventRow
example_255 = event_row (codes "- one\n\n two\n")
    (Start (ListOf None) ∷ Start Item ∷ Leaf (Text (codes "one")) ∷ End end.Item ∷ End (end.List false) ∷ Start Paragraph ∷ Leaf (Text (codes "two")) ∷ End end.Paragraph ∷ [])

-- List items
abbrev pub example_256 : EventRow
example_256 = event_row (codes "- one\n\n  two\n")
    (Start (ListOf None) ∷ Start Item ∷ Start Paragraph ∷ Leaf (Text (codes "one")) ∷ End end.Paragraph ∷ Start Paragraph ∷ Leaf (Text (codes "two")) ∷ End end.Paragraph ∷ End end.Item ∷ End (end.List false) ∷ [])

-- List items
abbrev pub example_257 : EventRow
example_257 = event_row (codes " -    one\n\n     two\n")
    (Start (ListOf None) ∷ Start Item ∷ Leaf (Text (codes "one")) ∷ End end.Item ∷ End (end.List false) ∷ Start (CodeBlock (Fenced [])) ∷ Leaf (Text (codes " two\n")) ∷ End end.CodeBlock ∷ [])

-- List items
abbrev pub example_258 : EventRow
example_258 = event_row (codes " -    one\n\n      two\n")
    (Start (ListOf None) ∷ Start Item ∷ Start Paragraph ∷ Leaf (Text (codes "one")) ∷ End end.Paragraph ∷ Start Paragraph ∷ Leaf (Text (codes "two")) ∷ End end.Paragraph ∷ End end.Item ∷ End (end.List false) ∷ [])

-- List items
abbrev pub example_259 : EventRow
example_259 = event_row (codes "   > > 1.  one\n>>\n>>     two\n")
    (Start (BlockQuote None) ∷ Start (BlockQuote None) ∷ Start (ListOf (Some 1)) ∷ Start Item ∷ Start Paragraph ∷ Leaf (Text (codes "one")) ∷ End end.Paragraph ∷ Start Paragraph ∷ Leaf (Text (codes "two")) ∷ End end.Paragraph ∷ End end.Item ∷ End (end.List true) ∷ End (end.BlockQuote None) ∷ End (end.BlockQuote None) ∷ [])

-- List items
abbrev pub example_260 : EventRow
example_260 = event_row (codes ">>- one\n>>\n  >  > two\n")
    (Start (BlockQuote None) ∷ Start (BlockQuote None) ∷ Start (ListOf None) ∷ Start Item ∷ Leaf (Text (codes "one")) ∷ End end.Item ∷ End (end.List false) ∷ Start Paragraph ∷ Leaf (Text (codes "two")) ∷ End end.Paragraph ∷ End (end.BlockQuote None) ∷ End (end.BlockQuote None) ∷ [])

-- List items
abbrev pub example_261 : EventRow
example_261 = event_row (codes "-one\n\n2.two\n")
    (Start Paragraph ∷ Leaf (Text (codes "-one")) ∷ End end.Paragraph ∷ Start Paragraph ∷ Leaf (Text (codes "2.two")) ∷ End end.Paragraph ∷ [])

-- List items
abbrev pub example_262 : EventRow
example_262 = event_row (codes "- foo\n\n\n  bar\n")
    (Start (ListOf None) ∷ Start Item ∷ Start Paragraph ∷ Leaf (Text (codes "foo")) ∷ End end.Paragraph ∷ Start Paragraph ∷ Leaf (Text (codes "bar")) ∷ End end.Paragraph ∷ End end.Item ∷ End (end.List false) ∷ [])

-- List items
abbrev pub example_263 : EventRow
example_263 = event_row (codes "1.  foo\n\n    ```\n    bar\n    ```\n\n    baz\n\n    > bam\n")
    (Start (ListOf (Some 1)) ∷ Start Item ∷ Start Paragraph ∷ Leaf (Text (codes "foo")) ∷ End end.Paragraph ∷ Start (CodeBlock (Fenced [])) ∷ Leaf (Text (codes "bar\n")) ∷ End end.CodeBlock ∷ Start Paragraph ∷ Leaf (Text (codes "baz")) ∷ End end.Paragraph ∷ Start (BlockQuote None) ∷ Start Paragraph ∷ Leaf (Text (codes "bam")) ∷ End end.Paragraph ∷ End (end.BlockQuote None) ∷ End end.Item ∷ End (end.List true) ∷ [])

-- List items
abbrev pub example_264 : EventRow
example_264 = event_row (codes "- Foo\n\n      bar\n\n\n      baz\n")
    (Start (ListOf None) ∷ Start Item ∷ Start Paragraph ∷ Leaf (Text (codes "Foo")) ∷ End end.Paragraph ∷ Start (CodeBlock (Fenced [])) ∷ Leaf (Text (codes "bar\n\n\nbaz\n")) ∷ End end.CodeBlock ∷ End end.Item ∷ End (end.List false) ∷ [])

-- List items
abbrev pub example_265 : EventRow
example_265 = event_row (codes "123456789. ok\n")
    (Start (ListOf (Some 123456789)) ∷ Start Item ∷ Leaf (Text (codes "ok")) ∷ End end.Item ∷ End (end.List true) ∷ [])

-- List items
abbrev pub example_266 : EventRow
example_266 = event_row (codes "1234567890. not ok\n")
    (Start Paragraph ∷ Leaf (Text (codes "1234567890. not ok")) ∷ End end.Paragraph ∷ [])

-- List items
abbrev pub example_267 : EventRow
example_267 = event_row (codes "0. ok\n")
    (Start (ListOf (Some 0)) ∷ Start Item ∷ Leaf (Text (codes "ok")) ∷ End end.Item ∷ End (end.List true) ∷ [])

-- List items
abbrev pub example_268 : EventRow
example_268 = event_row (codes "003. ok\n")
    (Start (ListOf (Some 3)) ∷ Start Item ∷ Leaf (Text (codes "ok")) ∷ End end.Item ∷ End (end.List true) ∷ [])

-- List items
abbrev pub example_269 : EventRow
example_269 = event_row (codes "-1. not ok\n")
    (Start Paragraph ∷ Leaf (Text (codes "-1. not ok")) ∷ End end.Paragraph ∷ [])

-- List items
abbrev pub example_270 : EventRow
example_270 = event_row (codes "- foo\n\n      bar\n")
    (Start (ListOf None) ∷ Start Item ∷ Start Paragraph ∷ Leaf (Text (codes "foo")) ∷ End end.Paragraph ∷ Start (CodeBlock (Fenced [])) ∷ Leaf (Text (codes "bar\n")) ∷ End end.CodeBlock ∷ End end.Item ∷ End (end.List false) ∷ [])

-- List items
abbrev pub example_271 : EventRow
example_271 = event_row (codes "  10.  foo\n\n           bar\n")
    (Start (ListOf (Some 10)) ∷ Start Item ∷ Start Paragraph ∷ Leaf (Text (codes "foo")) ∷ End end.Paragraph ∷ Start (CodeBlock (Fenced [])) ∷ Leaf (Text (codes "bar\n")) ∷ End end.CodeBlock ∷ End end.Item ∷ End (end.List true) ∷ [])

-- List items
abbrev pub example_272 : EventRow
example_272 = event_row (codes "    indented code\n\nparagraph\n\n    more code\n")
    (Start (CodeBlock (Fenced [])) ∷ Leaf (Text (codes "indented code\n")) ∷ End end.CodeBlock ∷ Start Paragraph ∷ Leaf (Text (codes "paragraph")) ∷ End end.Paragraph ∷ Start (CodeBlock (Fenced [])) ∷ Leaf (Text (codes "more code\n")) ∷ End end.CodeBlock ∷ [])

-- List items
abbrev pub example_273 : EventRow
example_273 = event_row (codes "1.     indented code\n\n   paragraph\n\n       more code\n")
    (Start (ListOf (Some 1)) ∷ Start Item ∷ Start (CodeBlock (Fenced [])) ∷ Leaf (Text (codes "indented code\n")) ∷ End end.CodeBlock ∷ Start Paragraph ∷ Leaf (Text (codes "paragraph")) ∷ End end.Paragraph ∷ Start (CodeBlock (Fenced [])) ∷ Leaf (Text (codes "more code\n")) ∷ End end.CodeBlock ∷ End end.Item ∷ End (end.List true) ∷ [])

-- List items
abbrev pub example_274 : EventRow
example_274 = event_row (codes "1.      indented code\n\n   paragraph\n\n       more code\n")
    (Start (ListOf (Some 1)) ∷ Start Item ∷ Start (CodeBlock (Fenced [])) ∷ Leaf (Text (codes " indented code\n")) ∷ End end.CodeBlock ∷ Start Paragraph ∷ Leaf (Text (codes "paragraph")) ∷ End end.Paragraph ∷ Start (CodeBlock (Fenced [])) ∷ Leaf (Text (codes "more code\n")) ∷ End end.CodeBlock ∷ End end.Item ∷ End (end.List true) ∷ [])

-- List items
abbrev pub example_275 : EventRow
example_275 = event_row (codes "   foo\n\nbar\n")
    (Start Paragraph ∷ Leaf (Text (codes "foo")) ∷ End end.Paragraph ∷ Start Paragraph ∷ Leaf (Text (codes "bar")) ∷ End end.Paragraph ∷ [])

-- List items
abbrev pub example_276 : EventRow
example_276 = event_row (codes "-    foo\n\n  bar\n")
    (Start (ListOf None) ∷ Start Item ∷ Leaf (Text (codes "foo")) ∷ End end.Item ∷ End (end.List false) ∷ Start Paragraph ∷ Leaf (Text (codes "bar")) ∷ End end.Paragraph ∷ [])

-- all of these
abbrev pub standard_items_first : List EventRow
standard_items_first = example_253 ∷ example_254 ∷ example_255 ∷ example_256 ∷ example_257 ∷ example_258 ∷ example_259 ∷ example_260 ∷ example_261 ∷ example_262 ∷ example_263 ∷ example_264 ∷ example_265 ∷ example_266 ∷ example_267 ∷ example_268 ∷ example_269 ∷ example_270 ∷ example_271 ∷ example_272 ∷ example_273 ∷ example_274 ∷ example_275 ∷ example_276 ∷ []
