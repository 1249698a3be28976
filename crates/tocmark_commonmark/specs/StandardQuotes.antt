-- Examples of the standard: block quotes.
use Rattle.std.specs.Prelude.{false, List, [], ◌∷◌, None, codes}
use Rattle.tocmark_event.specs.declared.event.HeadingLevel.TheVariants as level
use Rattle.tocmark_event.specs.declared.event.TagEnd.TheVariants as end
use Rattle.tocmark_event.specs.View.{Paragraph, Heading, BlockQuote, CodeBlock, Fenced, ListOf, Item, Start, End, Leaf, Text, SoftBreak, Rule}
use Rattle.tocmark_commonmark.specs.StandardExamples.{EventRow, event_row}

-- Block quotes
abbrev pub example_228 : EventRow
example_228 = event_row (codes "> # Foo\n> bar\n> baz\n")
    (Start (BlockQuote None) ∷ Start (Heading level.H1 None [] []) ∷ Leaf (Text (codes "Foo")) ∷ End (end.Heading level.H1) ∷ Start Paragraph ∷ Leaf (Text (codes "bar")) ∷ Leaf SoftBreak ∷ Leaf (Text (codes "baz")) ∷ End end.Paragraph ∷ End (end.BlockQuote None) ∷ [])

-- Block quotes
abbrev pub example_229 : EventRow
example_229 = event_row (codes "># Foo\n>bar\n> baz\n")
    (Start (BlockQuote None) ∷ Start (Heading level.H1 None [] []) ∷ Leaf (Text (codes "Foo")) ∷ End (end.Heading level.H1) ∷ Start Paragraph ∷ Leaf (Text (codes "bar")) ∷ Leaf SoftBreak ∷ Leaf (Text (codes "baz")) ∷ End end.Paragraph ∷ End (end.BlockQuote None) ∷ [])

-- Block quotes
abbrev pub example_230 : EventRow
example_230 = event_row (codes "   > # Foo\n   > bar\n > baz\n")
    (Start (BlockQuote None) ∷ Start (Heading level.H1 None [] []) ∷ Leaf (Text (codes "Foo")) ∷ End (end.Heading level.H1) ∷ Start Paragraph ∷ Leaf (Text (codes "bar")) ∷ Leaf SoftBreak ∷ Leaf (Text (codes "baz")) ∷ End end.Paragraph ∷ End (end.BlockQuote None) ∷ [])

-- Block quotes
abbrev pub example_231 : EventRow
example_231 = event_row (codes "    > # Foo\n    > bar\n    > baz\n")
    (Start (CodeBlock (Fenced [])) ∷ Leaf (Text (codes "> # Foo\n> bar\n> baz\n")) ∷ End end.CodeBlock ∷ [])

-- Block quotes
abbrev pub example_232 : EventRow
example_232 = event_row (codes "> # Foo\n> bar\nbaz\n")
    (Start (BlockQuote None) ∷ Start (Heading level.H1 None [] []) ∷ Leaf (Text (codes "Foo")) ∷ End (end.Heading level.H1) ∷ Start Paragraph ∷ Leaf (Text (codes "bar")) ∷ Leaf SoftBreak ∷ Leaf (Text (codes "baz")) ∷ End end.Paragraph ∷ End (end.BlockQuote None) ∷ [])

-- Block quotes
abbrev pub example_233 : EventRow
example_233 = event_row (codes "> bar\nbaz\n> foo\n")
    (Start (BlockQuote None) ∷ Start Paragraph ∷ Leaf (Text (codes "bar")) ∷ Leaf SoftBreak ∷ Leaf (Text (codes "baz")) ∷ Leaf SoftBreak ∷ Leaf (Text (codes "foo")) ∷ End end.Paragraph ∷ End (end.BlockQuote None) ∷ [])

-- Block quotes
abbrev pub example_234 : EventRow
example_234 = event_row (codes "> foo\n---\n")
    (Start (BlockQuote None) ∷ Start Paragraph ∷ Leaf (Text (codes "foo")) ∷ End end.Paragraph ∷ End (end.BlockQuote None) ∷ Leaf Rule ∷ [])

-- Block quotes
abbrev pub example_235 : EventRow
example_235 = event_row (codes "> - foo\n- bar\n")
    (Start (BlockQuote None) ∷ Start (ListOf None) ∷ Start Item ∷ Leaf (Text (codes "foo")) ∷ End end.Item ∷ End (end.List false) ∷ End (end.BlockQuote None) ∷ Start (ListOf None) ∷ Start Item ∷ Leaf (Text (codes "bar")) ∷ End end.Item ∷ End (end.List false) ∷ [])

-- Block quotes
abbrev pub example_236 : EventRow
example_236 = event_row (codes ">     foo\n    bar\n")
    (Start (BlockQuote None) ∷ Start (CodeBlock (Fenced [])) ∷ Leaf (Text (codes "foo\n")) ∷ End end.CodeBlock ∷ End (end.BlockQuote None) ∷ Start (CodeBlock (Fenced [])) ∷ Leaf (Text (codes "bar\n")) ∷ End end.CodeBlock ∷ [])

-- Block quotes
abbrev pub example_237 : EventRow
example_237 = event_row (codes "> ```\nfoo\n```\n")
    (Start (BlockQuote None) ∷ Start (CodeBlock (Fenced [])) ∷ End end.CodeBlock ∷ End (end.BlockQuote None) ∷ Start Paragraph ∷ Leaf (Text (codes "foo")) ∷ End end.Paragraph ∷ Start (CodeBlock (Fenced [])) ∷ End end.CodeBlock ∷ [])

-- Block quotes
abbrev pub example_238 : EventRow
example_238 = event_row (codes "> foo\n    - bar\n")
    (Start (BlockQuote None) ∷ Start Paragraph ∷ Leaf (Text (codes "foo")) ∷ Leaf SoftBreak ∷ Leaf (Text (codes "- bar")) ∷ End end.Paragraph ∷ End (end.BlockQuote None) ∷ [])

-- Block quotes
abbrev pub example_239 : EventRow
example_239 = event_row (codes ">\n")
    (Start (BlockQuote None) ∷ End (end.BlockQuote None) ∷ [])

-- Block quotes
abbrev pub example_240 : EventRow
example_240 = event_row (codes ">\n>  \n> \n")
    (Start (BlockQuote None) ∷ End (end.BlockQuote None) ∷ [])

-- Block quotes
abbrev pub example_241 : EventRow
example_241 = event_row (codes ">\n> foo\n>  \n")
    (Start (BlockQuote None) ∷ Start Paragraph ∷ Leaf (Text (codes "foo")) ∷ End end.Paragraph ∷ End (end.BlockQuote None) ∷ [])

-- Block quotes
abbrev pub example_242 : EventRow
example_242 = event_row (codes "> foo\n\n> bar\n")
    (Start (BlockQuote None) ∷ Start Paragraph ∷ Leaf (Text (codes "foo")) ∷ End end.Paragraph ∷ End (end.BlockQuote None) ∷ Start (BlockQuote None) ∷ Start Paragraph ∷ Leaf (Text (codes "bar")) ∷ End end.Paragraph ∷ End (end.BlockQuote None) ∷ [])

-- Block quotes
abbrev pub example_243 : EventRow
example_243 = event_row (codes "> foo\n> bar\n")
    (Start (BlockQuote None) ∷ Start Paragraph ∷ Leaf (Text (codes "foo")) ∷ Leaf SoftBreak ∷ Leaf (Text (codes "bar")) ∷ End end.Paragraph ∷ End (end.BlockQuote None) ∷ [])

-- Block quotes
abbrev pub example_244 : EventRow
example_244 = event_row (codes "> foo\n>\n> bar\n")
    (Start (BlockQuote None) ∷ Start Paragraph ∷ Leaf (Text (codes "foo")) ∷ End end.Paragraph ∷ Start Paragraph ∷ Leaf (Text (codes "bar")) ∷ End end.Paragraph ∷ End (end.BlockQuote None) ∷ [])

-- Block quotes
abbrev pub example_245 : EventRow
example_245 = event_row (codes "foo\n> bar\n")
    (Start Paragraph ∷ Leaf (Text (codes "foo")) ∷ End end.Paragraph ∷ Start (BlockQuote None) ∷ Start Paragraph ∷ Leaf (Text (codes "bar")) ∷ End end.Paragraph ∷ End (end.BlockQuote None) ∷ [])

-- Block quotes
abbrev pub example_246 : EventRow
example_246 = event_row (codes "> aaa\n***\n> bbb\n")
    (Start (BlockQuote None) ∷ Start Paragraph ∷ Leaf (Text (codes "aaa")) ∷ End end.Paragraph ∷ End (end.BlockQuote None) ∷ Leaf Rule ∷ Start (BlockQuote None) ∷ Start Paragraph ∷ Leaf (Text (codes "bbb")) ∷ End end.Paragraph ∷ End (end.BlockQuote None) ∷ [])

-- Block quotes
abbrev pub example_247 : EventRow
example_247 = event_row (codes "> bar\nbaz\n")
    (Start (BlockQuote None) ∷ Start Paragraph ∷ Leaf (Text (codes "bar")) ∷ Leaf SoftBreak ∷ Leaf (Text (codes "baz")) ∷ End end.Paragraph ∷ End (end.BlockQuote None) ∷ [])

-- Block quotes
abbrev pub example_248 : EventRow
example_248 = event_row (codes "> bar\n\nbaz\n")
    (Start (BlockQuote None) ∷ Start Paragraph ∷ Leaf (Text (codes "bar")) ∷ End end.Paragraph ∷ End (end.BlockQuote None) ∷ Start Paragraph ∷ Leaf (Text (codes "baz")) ∷ End end.Paragraph ∷ [])

-- Block quotes
abbrev pub example_249 : EventRow
example_249 = event_row (codes "> bar\n>\nbaz\n")
    (Start (BlockQuote None) ∷ Start Paragraph ∷ Leaf (Text (codes "bar")) ∷ End end.Paragraph ∷ End (end.BlockQuote None) ∷ Start Paragraph ∷ Leaf (Text (codes "baz")) ∷ End end.Paragraph ∷ [])

-- Block quotes
abbrev pub example_250 : EventRow
example_250 = event_row (codes "> > > foo\nbar\n")
    (Start (BlockQuote None) ∷ Start (BlockQuote None) ∷ Start (BlockQuote None) ∷ Start Paragraph ∷ Leaf (Text (codes "foo")) ∷ Leaf SoftBreak ∷ Leaf (Text (codes "bar")) ∷ End end.Paragraph ∷ End (end.BlockQuote None) ∷ End (end.BlockQuote None) ∷ End (end.BlockQuote None) ∷ [])

-- Block quotes
abbrev pub example_251 : EventRow
example_251 = event_row (codes ">>> foo\n> bar\n>>baz\n")
    (Start (BlockQuote None) ∷ Start (BlockQuote None) ∷ Start (BlockQuote None) ∷ Start Paragraph ∷ Leaf (Text (codes "foo")) ∷ Leaf SoftBreak ∷ Leaf (Text (codes "bar")) ∷ Leaf SoftBreak ∷ Leaf (Text (codes "baz")) ∷ End end.Paragraph ∷ End (end.BlockQuote None) ∷ End (end.BlockQuote None) ∷ End (end.BlockQuote None) ∷ [])

-- Block quotes
abbrev pub example_252 : EventRow
example_252 = event_row (codes ">     code\n\n>    not code\n")
    (Start (BlockQuote None) ∷ Start (CodeBlock (Fenced [])) ∷ Leaf (Text (codes "code\n")) ∷ End end.CodeBlock ∷ End (end.BlockQuote None) ∷ Start (BlockQuote None) ∷ Start Paragraph ∷ Leaf (Text (codes "not code")) ∷ End end.Paragraph ∷ End (end.BlockQuote None) ∷ [])

-- all of these
abbrev pub standard_quotes : List EventRow
standard_quotes = example_228 ∷ example_229 ∷ example_230 ∷ example_231 ∷ example_232 ∷ example_233 ∷ example_234 ∷ example_235 ∷ example_236 ∷ example_237 ∷ example_238 ∷ example_239 ∷ example_240 ∷ example_241 ∷ example_242 ∷ example_243 ∷ example_244 ∷ example_245 ∷ example_246 ∷ example_247 ∷ example_248 ∷ example_249 ∷ example_250 ∷ example_251 ∷ example_252 ∷ []
