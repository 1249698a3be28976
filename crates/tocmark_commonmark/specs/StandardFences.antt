-- Examples of the standard: fenced code blocks.
use Rattle.std.specs.Prelude.{List, [], ◌∷◌, None, codes}
use Rattle.tocmark_event.specs.declared.event.HeadingLevel.TheVariants as level
use Rattle.tocmark_event.specs.declared.event.TagEnd.TheVariants as end
use Rattle.tocmark_event.specs.View.{Paragraph, Heading, BlockQuote, CodeBlock, Fenced, Start, End, Leaf, Text, Code, SoftBreak}
use Rattle.tocmark_commonmark.specs.StandardExamples.{EventRow, event_row}

-- Fenced code blocks
abbrev pub example_119 : EventRow
example_119 = event_row (codes "```\n<\n >\n```\n")
    (Start (CodeBlock (Fenced [])) ∷ Leaf (Text (codes "<\n >\n")) ∷ End end.CodeBlock ∷ [])

-- Fenced code blocks
abbrev pub example_120 : EventRow
example_120 = event_row (codes "~~~\n<\n >\n~~~\n")
    (Start (CodeBlock (Fenced [])) ∷ Leaf (Text (codes "<\n >\n")) ∷ End end.CodeBlock ∷ [])

-- Fenced code blocks
abbrev pub example_121 : EventRow
example_121 = event_row (codes "``\nfoo\n``\n")
    (Start Paragraph ∷ Leaf (Code (codes "foo")) ∷ End end.Paragraph ∷ [])

-- Fenced code blocks
abbrev pub example_122 : EventRow
example_122 = event_row (codes "```\naaa\n~~~\n```\n")
    (Start (CodeBlock (Fenced [])) ∷ Leaf (Text (codes "aaa\n~~~\n")) ∷ End end.CodeBlock ∷ [])

-- Fenced code blocks
abbrev pub example_123 : EventRow
example_123 = event_row (codes "~~~\naaa\n```\n~~~\n")
    (Start (CodeBlock (Fenced [])) ∷ Leaf (Text (codes "aaa\n```\n")) ∷ End end.CodeBlock ∷ [])

-- Fenced code blocks
abbrev pub example_124 : EventRow
example_124 = event_row (codes "````\naaa\n```\n``````\n")
    (Start (CodeBlock (Fenced [])) ∷ Leaf (Text (codes "aaa\n```\n")) ∷ End end.CodeBlock ∷ [])

-- Fenced code blocks
abbrev pub example_125 : EventRow
example_125 = event_row (codes "~~~~\naaa\n~~~\n~~~~\n")
    (Start (CodeBlock (Fenced [])) ∷ Leaf (Text (codes "aaa\n~~~\n")) ∷ End end.CodeBlock ∷ [])

-- Fenced code blocks
abbrev pub example_126 : EventRow
example_126 = event_row (codes "```\n")
    (Start (CodeBlock (Fenced [])) ∷ End end.CodeBlock ∷ [])

-- Fenced code blocks
abbrev pub example_127 : EventRow
example_127 = event_row (codes "`````\n\n```\naaa\n")
    (Start (CodeBlock (Fenced [])) ∷ Leaf (Text (codes "\n```\naaa\n")) ∷ End end.CodeBlock ∷ [])

-- Fenced code blocks
abbrev pub example_128 : EventRow
example_128 = event_row (codes "> ```\n> aaa\n\nbbb\n")
    (Start (BlockQuote None) ∷ Start (CodeBlock (Fenced [])) ∷ Leaf (Text (codes "aaa\n")) ∷ End end.CodeBlock ∷ End (end.BlockQuote None) ∷ Start Paragraph ∷ Leaf (Text (codes "bbb")) ∷ End end.Paragraph ∷ [])

-- Fenced code blocks
abbrev pub example_129 : EventRow
example_129 = event_row (codes "```\n\n  \n```\n")
    (Start (CodeBlock (Fenced [])) ∷ Leaf (Text (codes "\n  \n")) ∷ End end.CodeBlock ∷ [])

-- Fenced code blocks
abbrev pub example_130 : EventRow
example_130 = event_row (codes "```\n```\n")
    (Start (CodeBlock (Fenced [])) ∷ End end.CodeBlock ∷ [])

-- Fenced code blocks
abbrev pub example_131 : EventRow
example_131 = event_row (codes " ```\n aaa\naaa\n```\n")
    (Start (CodeBlock (Fenced [])) ∷ Leaf (Text (codes "aaa\naaa\n")) ∷ End end.CodeBlock ∷ [])

-- Fenced code blocks
abbrev pub example_132 : EventRow
example_132 = event_row (codes "  ```\naaa\n  aaa\naaa\n  ```\n")
    (Start (CodeBlock (Fenced [])) ∷ Leaf (Text (codes "aaa\naaa\naaa\n")) ∷ End end.CodeBlock ∷ [])

-- Fenced code blocks
abbrev pub example_133 : EventRow
example_133 = event_row (codes "   ```\n   aaa\n    aaa\n  aaa\n   ```\n")
    (Start (CodeBlock (Fenced [])) ∷ Leaf (Text (codes "aaa\n aaa\naaa\n")) ∷ End end.CodeBlock ∷ [])

-- Fenced code blocks
abbrev pub example_134 : EventRow
example_134 = event_row (codes "    ```\n    aaa\n    ```\n")
    (Start (CodeBlock (Fenced [])) ∷ Leaf (Text (codes "```\naaa\n```\n")) ∷ End end.CodeBlock ∷ [])

-- Fenced code blocks
abbrev pub example_135 : EventRow
example_135 = event_row (codes "```\naaa\n  ```\n")
    (Start (CodeBlock (Fenced [])) ∷ Leaf (Text (codes "aaa\n")) ∷ End end.CodeBlock ∷ [])

-- Fenced code blocks
abbrev pub example_136 : EventRow
example_136 = event_row (codes "   ```\naaa\n  ```\n")
    (Start (CodeBlock (Fenced [])) ∷ Leaf (Text (codes "aaa\n")) ∷ End end.CodeBlock ∷ [])

-- Fenced code blocks
abbrev pub example_137 : EventRow
example_137 = event_row (codes "```\naaa\n    ```\n")
    (Start (CodeBlock (Fenced [])) ∷ Leaf (Text (codes "aaa\n    ```\n")) ∷ End end.CodeBlock ∷ [])

-- Fenced code blocks
abbrev pub example_138 : EventRow
example_138 = event_row (codes "``` ```\naaa\n")
    (Start Paragraph ∷ Leaf (Code (codes " ")) ∷ Leaf SoftBreak ∷ Leaf (Text (codes "aaa")) ∷ End end.Paragraph ∷ [])

-- Fenced code blocks
abbrev pub example_139 : EventRow
example_139 = event_row (codes "~~~~~~\naaa\n~~~ ~~\n")
    (Start (CodeBlock (Fenced [])) ∷ Leaf (Text (codes "aaa\n~~~ ~~\n")) ∷ End end.CodeBlock ∷ [])

-- Fenced code blocks
abbrev pub example_140 : EventRow
example_140 = event_row (codes "foo\n```\nbar\n```\nbaz\n")
    (Start Paragraph ∷ Leaf (Text (codes "foo")) ∷ End end.Paragraph ∷ Start (CodeBlock (Fenced [])) ∷ Leaf (Text (codes "bar\n")) ∷ End end.CodeBlock ∷ Start Paragraph ∷ Leaf (Text (codes "baz")) ∷ End end.Paragraph ∷ [])

-- Fenced code blocks
abbrev pub example_141 : EventRow
example_141 = event_row (codes "foo\n---\n~~~\nbar\n~~~\n# baz\n")
    (Start (Heading level.H2 None [] []) ∷ Leaf (Text (codes "foo")) ∷ End (end.Heading level.H2) ∷ Start (CodeBlock (Fenced [])) ∷ Leaf (Text (codes "bar\n")) ∷ End end.CodeBlock ∷ Start (Heading level.H1 None [] []) ∷ Leaf (Text (codes "baz")) ∷ End (end.Heading level.H1) ∷ [])

-- Fenced code blocks
abbrev pub example_142 : EventRow
example_142 = event_row (codes "```ruby\ndef foo(x)\n  return 3\nend\n```\n")
    (Start (CodeBlock (Fenced (codes "ruby"))) ∷ Leaf (Text (codes "def foo(x)\n  return 3\nend\n")) ∷ End end.CodeBlock ∷ [])

-- Fenced code blocks
abbrev pub example_143 : EventRow
example_143 = event_row (codes "~~~~    ruby startline=3 $%@#$\ndef foo(x)\n  return 3\nend\n~~~~~~~\n")
    (Start (CodeBlock (Fenced (codes "ruby startline=3 $%@#$"))) ∷ Leaf (Text (codes "def foo(x)\n  return 3\nend\n")) ∷ End end.CodeBlock ∷ [])

-- Fenced code blocks
abbrev pub example_144 : EventRow
example_144 = event_row (codes "````;\n````\n")
    (Start (CodeBlock (Fenced (codes ";"))) ∷ End end.CodeBlock ∷ [])

-- Fenced code blocks
abbrev pub example_145 : EventRow
example_145 = event_row (codes "``` aa ```\nfoo\n")
    (Start Paragraph ∷ Leaf (Code (codes "aa")) ∷ Leaf SoftBreak ∷ Leaf (Text (codes "foo")) ∷ End end.Paragraph ∷ [])

-- Fenced code blocks
abbrev pub example_146 : EventRow
example_146 = event_row (codes "~~~ aa ``` ~~~\nfoo\n~~~\n")
    (Start (CodeBlock (Fenced (codes "aa ``` ~~~"))) ∷ Leaf (Text (codes "foo\n")) ∷ End end.CodeBlock ∷ [])

-- Fenced code blocks
abbrev pub example_147 : EventRow
example_147 = event_row (codes "```\n``` aaa\n```\n")
    (Start (CodeBlock (Fenced [])) ∷ Leaf (Text (codes "``` aaa\n")) ∷ End end.CodeBlock ∷ [])

-- all of these
abbrev pub standard_fences : List EventRow
standard_fences = example_119 ∷ example_120 ∷ example_121 ∷ example_122 ∷ example_123 ∷ example_124 ∷ example_125 ∷ example_126 ∷ example_127 ∷ example_128 ∷ example_129 ∷ example_130 ∷ example_131 ∷ example_132 ∷ example_133 ∷ example_134 ∷ example_135 ∷ example_136 ∷ example_137 ∷ example_138 ∷ example_139 ∷ example_140 ∷ example_141 ∷ example_142 ∷ example_143 ∷ example_144 ∷ example_145 ∷ example_146 ∷ example_147 ∷ []
