-- Examples of block quotes, each with its blocks and its definitions.
use Rattle.std.specs.Prelude.{List, [], ◌∷◌, codes}
use Rattle.tocmark_event.specs.declared.event.HeadingLevel.TheVariants as level
use Rattle.tocmark_commonmark.specs.Tree.{none, more, Rule, Heading, IndentedCode, FencedCode, Paragraph, Quote}
use Rattle.tocmark_commonmark.specs.Examples.{Row, row, definition}

-- a quote
abbrev pub a_quote : Row
a_quote = row (codes "> a\n> b\n") (more (Quote (more (Paragraph (codes "a\nb")) none)) none)
    ([])

-- a quote without spaces
abbrev pub a_quote_without_spaces : Row
a_quote_without_spaces = row (codes ">a\n  >  b\n") (more (Quote (more (Paragraph (codes "a\nb")) none)) none)
    ([])

-- a lazy line
abbrev pub a_lazy_line : Row
a_lazy_line = row (codes "> a\nb\n") (more (Quote (more (Paragraph (codes "a\nb")) none)) none)
    ([])

-- no lazy line after a rule
abbrev pub no_lazy_line_behind_a_rule : Row
no_lazy_line_behind_a_rule = row (codes "> ***\nb\n") (more (Quote (more Rule none)) (more (Paragraph (codes "b")) none))
    ([])

-- no lazy line after code
abbrev pub no_lazy_line_behind_code : Row
no_lazy_line_behind_code = row (codes ">     a\n    b\n") (more (Quote (more (IndentedCode (codes "a\n")) none)) (more (IndentedCode (codes "b\n")) none))
    ([])

-- no lazy line after a fence
abbrev pub no_lazy_line_behind_a_fence : Row
no_lazy_line_behind_a_fence = row (codes "> ```\na\n") (more (Quote (more (FencedCode [] []) none)) (more (Paragraph (codes "a")) none))
    ([])

-- a lazy line is no underline
abbrev pub a_lazy_line_is_no_underline : Row
a_lazy_line_is_no_underline = row (codes "> a\n===\n") (more (Quote (more (Paragraph (codes "a\n===")) none)) none)
    ([])

-- a rule is no lazy line
abbrev pub a_rule_is_no_lazy_line : Row
a_rule_is_no_lazy_line = row (codes "> a\n---\n") (more (Quote (more (Paragraph (codes "a")) none)) (more Rule none))
    ([])

-- a blank line ends a quote
abbrev pub a_blank_line_ends_a_quote : Row
a_blank_line_ends_a_quote = row (codes "> a\n\n> b\n") (more (Quote (more (Paragraph (codes "a")) none)) (more (Quote (more (Paragraph (codes "b")) none)) none))
    ([])

-- a blank line in a quote
abbrev pub a_blank_line_in_a_quote : Row
a_blank_line_in_a_quote = row (codes "> a\n>\n> b\n") (more (Quote (more (Paragraph (codes "a")) (more (Paragraph (codes "b")) none))) none)
    ([])

-- an empty quote
abbrev pub an_empty_quote : Row
an_empty_quote = row (codes ">\n") (more (Quote none) none)
    ([])

-- a quote ends a paragraph
abbrev pub a_quote_ends_a_paragraph : Row
a_quote_ends_a_paragraph = row (codes "a\n> b\n") (more (Paragraph (codes "a")) (more (Quote (more (Paragraph (codes "b")) none)) none))
    ([])

-- quotes in a quote
abbrev pub quotes_in_a_quote : Row
quotes_in_a_quote = row (codes "> > > a\n> b\nc\n") (more (Quote (more (Quote (more (Quote (more (Paragraph (codes "a\nb\nc")) none)) none)) none)) none)
    ([])

-- a lazy line too far in
abbrev pub a_lazy_line_too_far_in : Row
a_lazy_line_too_far_in = row (codes "> a\n    - b\n") (more (Quote (more (Paragraph (codes "a\n- b")) none)) none)
    ([])

-- a heading and a lazy line
abbrev pub a_heading_and_a_lazy_line : Row
a_heading_and_a_lazy_line = row (codes "> # a\n> b\nc\n") (more (Quote (more (Heading level.H1 (codes "a")) (more (Paragraph (codes "b\nc")) none))) none)
    ([])

-- a lazy line in a quote of a quote
abbrev pub a_lazy_line_in_a_quote_of_a_quote : Row
a_lazy_line_in_a_quote_of_a_quote = row (codes "> > a\nb\n> c\n") (more (Quote (more (Quote (more (Paragraph (codes "a\nb\nc")) none)) none)) none)
    ([])

-- a definition is continued lazily
abbrev pub a_definition_is_continued_lazily : Row
a_definition_is_continued_lazily = row (codes "> [a]: b\nc\n") (more (Quote (more (Paragraph (codes "c")) none)) none)
    (definition (codes "a") (codes "b") [] ∷ [])

-- all of these
abbrev pub quotes : List Row
quotes = a_quote
    ∷ a_quote_without_spaces
    ∷ a_lazy_line
    ∷ no_lazy_line_behind_a_rule
    ∷ no_lazy_line_behind_code
    ∷ no_lazy_line_behind_a_fence
    ∷ a_lazy_line_is_no_underline
    ∷ a_rule_is_no_lazy_line
    ∷ a_blank_line_ends_a_quote
    ∷ a_blank_line_in_a_quote
    ∷ an_empty_quote
    ∷ a_quote_ends_a_paragraph
    ∷ quotes_in_a_quote
    ∷ a_lazy_line_too_far_in
    ∷ a_heading_and_a_lazy_line
    ∷ a_lazy_line_in_a_quote_of_a_quote
    ∷ a_definition_is_continued_lazily ∷ []
