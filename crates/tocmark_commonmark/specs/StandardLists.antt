-- Examples of the standard: lists.
use Rattle.std.specs.Prelude.{true, false, List, [], ◌∷◌, Some, None, codes}
use Rattle.tocmark_event.specs.declared.event.TagEnd.TheVariants as end
use Rattle.tocmark_event.specs.View.{Paragraph, BlockQuote, CodeBlock, Fenced, HtmlBlock, ListOf, Item, Start, End, Leaf, Text, Html, SoftBreak}
use Rattle.tocmark_commonmark.specs.StandardExamples.{EventRow, event_row}

-- Lists
abbrev pub example_301 : EventRow
example_301 = event_row (codes "- foo\n- bar\n+ baz\n")
    (Start (ListOf None) ∷ Start Item ∷ Leaf (Text (codes "foo")) ∷ End end.Item ∷ Start Item ∷ Leaf (Text (codes "bar")) ∷ End end.Item ∷ End (end.List false) ∷ Start (ListOf None) ∷ Start Item ∷ Leaf (Text (codes "baz")) ∷ End end.Item ∷ End (end.List false) ∷ [])

-- Lists
abbrev pub example_302 : EventRow
example_302 = event_row (codes "1. foo\n2. bar\n3) baz\n")
    (Start (ListOf (Some 1)) ∷ Start Item ∷ Leaf (Text (codes "foo")) ∷ End end.Item ∷ Start Item ∷ Leaf (Text (codes "bar")) ∷ End end.Item ∷ End (end.List true) ∷ Start (ListOf (Some 3)) ∷ Start Item ∷ Leaf (Text (codes "baz")) ∷ End end.Item ∷ End (end.List true) ∷ [])

-- Lists
abbrev pub example_303 : EventRow
example_303 = event_row (codes "Foo\n- bar\n- baz\n")
    (Start Paragraph ∷ Leaf (Text (codes "Foo")) ∷ End end.Paragraph ∷ Start (ListOf None) ∷ Start Item ∷ Leaf (Text (codes "bar")) ∷ End end.Item ∷ Start Item ∷ Leaf (Text (codes "baz")) ∷ End end.Item ∷ End (end.List false) ∷ [])

-- Lists
abbrev pub example_304 : EventRow
example_304 = event_row (codes "The number of windows in my house is\n14.  The number of doors is 6.\n")
    (Start Paragraph ∷ Leaf (Text (codes "The number of windows in my house is")) ∷ Leaf SoftBreak ∷ Leaf (Text (codes "14.  The number of doors is 6.")) ∷ End end.Paragraph ∷ [])

-- Lists
abbrev pub example_305 : EventRow
example_305 = event_row (codes "The number of windows in my house is\n1.  The number of doors is 6.\n")
    (Start Paragraph ∷ Leaf (Text (codes "The number of windows in my house is")) ∷ End end.Paragraph ∷ Start (ListOf (Some 1)) ∷ Start Item ∷ Leaf (Text (codes "The number of doors is 6.")) ∷ End end.Item ∷ End (end.List true) ∷ [])

-- Lists
abbrev pub example_306 : EventRow
example_306 = event_row (codes "- foo\n\n- bar\n\n\n- baz\n")
    (Start (ListOf None) ∷ Start Item ∷ Start Paragraph ∷ Leaf (Text (codes "foo")) ∷ End end.Paragraph ∷ End end.Item ∷ Start Item ∷ Start Paragraph ∷ Leaf (Text (codes "bar")) ∷ End end.Paragraph ∷ End end.Item ∷ Start Item ∷ Start Paragraph ∷ Leaf (Text (codes "baz")) ∷ End end.Paragraph ∷ End end.Item ∷ End (end.List false) ∷ [])

-- Lists
abbrev pub example_307 : EventRow
example_307 = event_row (codes "- foo\n  - bar\n    - baz\n\n\n      bim\n")
    (Start (ListOf None) ∷ Start Item ∷ Leaf (Text (codes "foo")) ∷ Start (ListOf None) ∷ Start Item ∷ Leaf (Text (codes "bar")) ∷ Start (ListOf None) ∷ Start Item ∷ Start Paragraph ∷ Leaf (Text (codes "baz")) ∷ End end.Paragraph ∷ Start Paragraph ∷ Leaf (Text (codes "bim")) ∷ End end.Paragraph ∷ End end.Item ∷ End (end.List false) ∷ End end.Item ∷ End (end.List false) ∷ End end.Item ∷ End (end.List false) ∷ [])

-- Lists
abbrev pub example_308 : EventRow
example_308 = event_row (codes "- foo\n- bar\n\n<!-- -->\n\n- baz\n- bim\n")
    (Start (ListOf None) ∷ Start Item ∷ Leaf (Text (codes "foo")) ∷ End end.Item ∷ Start Item ∷ Leaf (Text (codes "bar")) ∷ End end.Item ∷ End (end.List false) ∷ Start HtmlBlock ∷ Leaf (Html (codes "<!-- -->\n")) ∷ End end.HtmlBlock ∷ Start (ListOf None) ∷ Start Item ∷ Leaf (Text (codes "baz")) ∷ End end.Item ∷ Start Item ∷ Leaf (Text (codes "bim")) ∷ End end.Item ∷ End (end.List false) ∷ [])

-- Lists
abbrev pub example_309 : EventRow
example_309 = event_row (codes "-   foo\n\n    notcode\n\n-   foo\n\n<!-- -->\n\n    code\n")
    (Start (ListOf None) ∷ Start Item ∷ Start Paragraph ∷ Leaf (Text (codes "foo")) ∷ End end.Paragraph ∷ Start Paragraph ∷ Leaf (Text (codes "notcode")) ∷ End end.Paragraph ∷ End end.Item ∷ Start Item ∷ Start Paragraph ∷ Leaf (Text (codes "foo")) ∷ End end.Paragraph ∷ End end.Item ∷ End (end.List false) ∷ Start HtmlBlock ∷ Leaf (Html (codes "<!-- -->\n")) ∷ End end.HtmlBlock ∷ Start (CodeBlock (Fenced [])) ∷ Leaf (Text (codes "code\n")) ∷ End end.CodeBlock ∷ [])

-- Lists
abbrev pub example_310 : EventRow
example_310 = event_row (codes "- a\n - b\n  - c\n   - d\n  - e\n - f\n- g\n")
    (Start (ListOf None) ∷ Start Item ∷ Leaf (Text (codes "a")) ∷ End end.Item ∷ Start Item ∷ Leaf (Text (codes "b")) ∷ End end.Item ∷ Start Item ∷ Leaf (Text (codes "c")) ∷ End end.Item ∷ Start Item ∷ Leaf (Text (codes "d")) ∷ End end.Item ∷ Start Item ∷ Leaf (Text (codes "e")) ∷ End end.Item ∷ Start Item ∷ Leaf (Text (codes "f")) ∷ End end.Item ∷ Start Item ∷ Leaf (Text (codes "g")) ∷ End end.Item ∷ End (end.List false) ∷ [])

-- Lists
abbrev pub example_311 : EventRow
example_311 = event_row (codes "1. a\n\n  2. b\n\n   3. c\n")
    (Start (ListOf (Some 1)) ∷ Start Item ∷ Start Paragraph ∷ Leaf (Text (codes "a")) ∷ End end.Paragraph ∷ End end.Item ∷ Start Item ∷ Start Paragraph ∷ Leaf (Text (codes "b")) ∷ End end.Paragraph ∷ End end.Item ∷ Start Item ∷ Start Paragraph ∷ Leaf (Text (codes "c")) ∷ End end.Paragraph ∷ End end.Item ∷ End (end.List true) ∷ [])

-- Lists
abbrev pub example_312 : EventRow
example_312 = event_row (codes "- a\n - b\n  - c\n   - d\n    - e\n")
    (Start (ListOf None) ∷ Start Item ∷ Leaf (Text (codes "a")) ∷ End end.Item ∷ Start Item ∷ Leaf (Text (codes "b")) ∷ End end.Item ∷ Start Item ∷ Leaf (Text (codes "c")) ∷ End end.Item ∷ Start Item ∷ Leaf (Text (codes "d")) ∷ Leaf SoftBreak ∷ Leaf (Text (codes "- e")) ∷ End end.Item ∷ End (end.List false) ∷ [])

-- Lists
abbrev pub example_313 : EventRow
example_313 = event_row (codes "1. a\n\n  2. b\n\n    3. c\n")
    (Start (ListOf (Some 1)) ∷ Start Item ∷ Start Paragraph ∷ Leaf (Text (codes "a")) ∷ End end.Paragraph ∷ End end.Item ∷ Start Item ∷ Start Paragraph ∷ Leaf (Text (codes "b")) ∷ End end.Paragraph ∷ End end.Item ∷ End (end.List true) ∷ Start (CodeBlock (Fenced [])) ∷ Leaf (Text (codes "3. c\n")) ∷ End end.CodeBlock ∷ [])

-- Lists
abbrev pub example_314 : EventRow
example_314 = event_row (codes "- a\n- b\n\n- c\n")
    (Start (ListOf None) ∷ Start Item ∷ Start Paragraph ∷ Leaf (Text (codes "a")) ∷ End end.Paragraph ∷ End end.Item ∷ Start Item ∷ Start Paragraph ∷ Leaf (Text (codes "b")) ∷ End end.Paragraph ∷ End end.Item ∷ Start Item ∷ Start Paragraph ∷ Leaf (Text (codes "c")) ∷ End end.Paragraph ∷ End end.Item ∷ End (end.List false) ∷ [])

-- Lists
abbrev pub example_315 : EventRow
example_315 = event_row (codes "* a\n*\n\n* c\n")
    (Start (ListOf None) ∷ Start Item ∷ Start Paragraph ∷ Leaf (Text (codes "a")) ∷ End end.Paragraph ∷ End end.Item ∷ Start Item ∷ End end.Item ∷ Start Item ∷ Start Paragraph ∷ Leaf (Text (codes "c")) ∷ End end.Paragraph ∷ End end.Item ∷ End (end.List false) ∷ [])

-- Lists
abbrev pub example_316 : EventRow
example_316 = event_row (codes "- a\n- b\n\n  c\n- d\n")
    (Start (ListOf None) ∷ Start Item ∷ Start Paragraph ∷ Leaf (Text (codes "a")) ∷ End end.Paragraph ∷ End end.Item ∷ Start Item ∷ Start Paragraph ∷ Leaf (Text (codes "b")) ∷ End end.Paragraph ∷ Start Paragraph ∷ Leaf (Text (codes "c")) ∷ End end.Paragraph ∷ End end.Item ∷ Start Item ∷ Start Paragraph ∷ Leaf (Text (codes "d")) ∷ End end.Paragraph ∷ End end.Item ∷ End (end.List false) ∷ [])

-- Lists
abbrev pub example_317 : EventRow
example_317 = event_row (codes "- a\n- b\n\n  [ref]: /url\n- d\n")
    (Start (ListOf None) ∷ Start Item ∷ Start Paragraph ∷ Leaf (Text (codes "a")) ∷ End end.Paragraph ∷ End end.Item ∷ Start Item ∷ Start Paragraph ∷ Leaf (Text (codes "b")) ∷ End end.Paragraph ∷ End end.Item ∷ Start Item ∷ Start Paragraph ∷ Leaf (Text (codes "d")) ∷ End end.Paragraph ∷ End end.Item ∷ End (end.List false) ∷ [])

-- Lists
abbrev pub example_318 : EventRow
example_318 = event_row (codes "- a\n- ```\n  b\n\n\n  ```\n- c\n")
    (Start (ListOf None) ∷ Start Item ∷ Leaf (Text (codes "a")) ∷ End end.Item ∷ Start Item ∷ Start (CodeBlock (Fenced [])) ∷ Leaf (Text (codes "b\n\n\n")) ∷ End end.CodeBlock ∷ End end.Item ∷ Start Item ∷ Leaf (Text (codes "c")) ∷ End end.Item ∷ End (end.List false) ∷ [])

-- Lists
abbrev pub example_319 : EventRow
example_319 = event_row (codes "- a\n  - b\n\n    c\n- d\n")
    (Start (ListOf None) ∷ Start Item ∷ Leaf (Text (codes "a")) ∷ Start (ListOf None) ∷ Start Item ∷ Start Paragraph ∷ Leaf (Text (codes "b")) ∷ End end.Paragraph ∷ Start Paragraph ∷ Leaf (Text (codes "c")) ∷ End end.Paragraph ∷ End end.Item ∷ End (end.List false) ∷ End end.Item ∷ Start Item ∷ Leaf (Text (codes "d")) ∷ End end.Item ∷ End (end.List false) ∷ [])

-- Lists
abbrev pub example_320 : EventRow
example_320 = event_row (codes "* a\n  > b\n  >\n* c\n")
    (Start (ListOf None) ∷ Start Item ∷ Leaf (Text (codes "a")) ∷ Start (BlockQuote None) ∷ Start Paragraph ∷ Leaf (Text (codes "b")) ∷ End end.Paragraph ∷ End (end.BlockQuote None) ∷ End end.Item ∷ Start Item ∷ Leaf (Text (codes "c")) ∷ End end.Item ∷ End (end.List false) ∷ [])

-- Lists
abbrev pub example_321 : EventRow
example_321 = event_row (codes "- a\n  > b\n  ```\n  c\n  ```\n- d\n")
    (Start (ListOf None) ∷ Start Item ∷ Leaf (Text (codes "a")) ∷ Start (BlockQuote None) ∷ Start Paragraph ∷ Leaf (Text (codes "b")) ∷ End end.Paragraph ∷ End (end.BlockQuote None) ∷ Start (CodeBlock (Fenced [])) ∷ Leaf (Text (codes "c\n")) ∷ End end.CodeBlock ∷ End end.Item ∷ Start Item ∷ Leaf (Text (codes "d")) ∷ End end.Item ∷ End (end.List false) ∷ [])

-- Lists
abbrev pub example_322 : EventRow
example_322 = event_row (codes "- a\n")
    (Start (ListOf None) ∷ Start Item ∷ Leaf (Text (codes "a")) ∷ End end.Item ∷ End (end.List false) ∷ [])

-- Lists
abbrev pub example_323 : EventRow
example_323 = event_row (codes "- a\n  - b\n")
    (Start (ListOf None) ∷ Start Item ∷ Leaf (Text (codes "a")) ∷ Start (ListOf None) ∷ Start Item ∷ Leaf (Text (codes "b")) ∷ End end.Item ∷ End (end.List false) ∷ End end.Item ∷ End (end.List false) ∷ [])

-- Lists
abbrev pub example_324 : EventRow
example_324 = event_row (codes "1. ```\n   foo\n   ```\n\n   bar\n")
    (Start (ListOf (Some 1)) ∷ Start Item ∷ Start (CodeBlock (Fenced [])) ∷ Leaf (Text (codes "foo\n")) ∷ End end.CodeBlock ∷ Start Paragraph ∷ Leaf (Text (codes "bar")) ∷ End end.Paragraph ∷ End end.Item ∷ End (end.List true) ∷ [])

-- Lists
abbrev pub example_325 : EventRow
example_325 = event_row (codes "* foo\n  * bar\n\n  baz\n")
    (Start (ListOf None) ∷ Start Item ∷ Start Paragraph ∷ Leaf (Text (codes "foo")) ∷ End end.Paragraph ∷ Start (ListOf None) ∷ Start Item ∷ Leaf (Text (codes "bar")) ∷ End end.Item ∷ End (end.List false) ∷ Start Paragraph ∷ Leaf (Text (codes "baz")) ∷ End end.Paragraph ∷ End end.Item ∷ End (end.List false) ∷ [])

-- Lists
abbrev pub example_326 : EventRow
example_326 = event_row (codes "- a\n  - b\n  - c\n\n- d\n  - e\n  - f\n")
    (Start (ListOf None) ∷ Start Item ∷ Start Paragraph ∷ Leaf (Text (codes "a")) ∷ End end.Paragraph ∷ Start (ListOf None) ∷ Start Item ∷ Leaf (Text (codes "b")) ∷ End end.Item ∷ Start Item ∷ Leaf (Text (codes "c")) ∷ End end.Item ∷ End (end.List false) ∷ End end.Item ∷ Start Item ∷ Start Paragraph ∷ Leaf (Text (codes "d")) ∷ End end.Paragraph ∷ Start (ListOf None) ∷ Start Item ∷ Leaf (Text (codes "e")) ∷ End end.Item ∷ Start Item ∷ Leaf (Text (codes "f")) ∷ End end.Item ∷ End (end.List false) ∷ End end.Item ∷ End (end.List false) ∷ [])

-- all of these
abbrev pub standard_lists : List EventRow
standard_lists = example_301 ∷ example_302 ∷ example_303 ∷ example_304 ∷ example_305 ∷ example_306 ∷ example_307 ∷ example_308 ∷ example_309 ∷ example_310 ∷ example_311 ∷ example_312 ∷ example_313 ∷ example_314 ∷ example_315 ∷ example_316 ∷ example_317 ∷ example_318 ∷ example_319 ∷ example_320 ∷ example_321 ∷ example_322 ∷ example_323 ∷ example_324 ∷ example_325 ∷ example_326 ∷ []
