-- Examples of leaf blocks, each with its blocks and its definitions.
use Rattle.std.specs.Prelude.{List, [], ◌∷◌, codes}
use Rattle.tocmark_event.specs.declared.event.HeadingLevel.TheVariants as level
use Rattle.tocmark_commonmark.specs.Tree.{none, more, Rule, Heading, IndentedCode, FencedCode, Html, Paragraph}
use Rattle.tocmark_commonmark.specs.Examples.{Row, row, definition}

-- nothing
abbrev pub nothing : Row
nothing = row [] (none)
    ([])

-- blank lines
abbrev pub blank_lines : Row
blank_lines = row (codes "\n   \n\n") (none)
    ([])

-- a paragraph
abbrev pub a_paragraph : Row
a_paragraph = row (codes "a\n") (more (Paragraph (codes "a")) none)
    ([])

-- a paragraph without a last line feed
abbrev pub a_paragraph_without_a_last_line_feed : Row
a_paragraph_without_a_last_line_feed = row (codes "a") (more (Paragraph (codes "a")) none)
    ([])

-- a paragraph of two lines
abbrev pub a_paragraph_of_two_lines : Row
a_paragraph_of_two_lines = row (codes "a\n  b  \n") (more (Paragraph (codes "a\nb")) none)
    ([])

-- two paragraphs
abbrev pub two_paragraphs : Row
two_paragraphs = row (codes "a\n\n\nb\n") (more (Paragraph (codes "a")) (more (Paragraph (codes "b")) none))
    ([])

-- a paragraph that spaces indent
abbrev pub a_paragraph_that_spaces_indent : Row
a_paragraph_that_spaces_indent = row (codes "   a\n        b\n") (more (Paragraph (codes "a\nb")) none)
    ([])

-- rules
abbrev pub rules : Row
rules = row (codes "***\n---\n___\n") (more Rule (more Rule (more Rule none)))
    ([])

-- a rule with spaces
abbrev pub a_rule_with_spaces : Row
a_rule_with_spaces = row (codes " * * *  \n") (more Rule none)
    ([])

-- too few for a rule
abbrev pub too_few_for_a_rule : Row
too_few_for_a_rule = row (codes "--\n**\n") (more (Paragraph (codes "--\n**")) none)
    ([])

-- a rule ends a paragraph
abbrev pub a_rule_ends_a_paragraph : Row
a_rule_ends_a_paragraph = row (codes "a\n***\nb\n") (more (Paragraph (codes "a")) (more Rule (more (Paragraph (codes "b")) none)))
    ([])

-- other bytes in a rule
abbrev pub other_bytes_in_a_rule : Row
other_bytes_in_a_rule = row (codes "***a\n") (more (Paragraph (codes "***a")) none)
    ([])

-- headings
abbrev pub headings : Row
headings = row (codes "# a\n###### b\n") (more (Heading level.H1 (codes "a")) (more (Heading level.H6 (codes "b")) none))
    ([])

-- seven marks
abbrev pub seven_marks : Row
seven_marks = row (codes "####### a\n") (more (Paragraph (codes "####### a")) none)
    ([])

-- no space after the marks
abbrev pub no_space_behind_the_marks : Row
no_space_behind_the_marks = row (codes "#a\n") (more (Paragraph (codes "#a")) none)
    ([])

-- closing marks
abbrev pub closing_marks : Row
closing_marks = row (codes "## a ##  \n# b#\n### c ### d\n") (more (Heading level.H2 (codes "a")) (more (Heading level.H1 (codes "b#")) (more (Heading level.H3 (codes "c ### d")) none)))
    ([])

-- empty headings
abbrev pub empty_headings : Row
empty_headings = row (codes "#\n## \n### ###\n") (more (Heading level.H1 []) (more (Heading level.H2 []) (more (Heading level.H3 []) none)))
    ([])

-- a heading ends a paragraph
abbrev pub a_heading_ends_a_paragraph : Row
a_heading_ends_a_paragraph = row (codes "a\n# b\nc\n") (more (Paragraph (codes "a")) (more (Heading level.H1 (codes "b")) (more (Paragraph (codes "c")) none)))
    ([])

-- four spaces before a mark
abbrev pub four_spaces_before_a_mark : Row
four_spaces_before_a_mark = row (codes "a\n    # b\n") (more (Paragraph (codes "a\n# b")) none)
    ([])

-- underlined by equals signs
abbrev pub underlined_by_equals_signs : Row
underlined_by_equals_signs = row (codes "a\n===\n") (more (Heading level.H1 (codes "a")) none)
    ([])

-- underlined by hyphens
abbrev pub underlined_by_hyphens : Row
underlined_by_hyphens = row (codes "a\nb\n---  \n") (more (Heading level.H2 (codes "a\nb")) none)
    ([])

-- one hyphen underlines
abbrev pub one_hyphen_underlines : Row
one_hyphen_underlines = row (codes "a\n-\n") (more (Heading level.H2 (codes "a")) none)
    ([])

-- equals signs below nothing
abbrev pub equals_signs_below_nothing : Row
equals_signs_below_nothing = row (codes "===\n") (more (Paragraph (codes "===")) none)
    ([])

-- an underline with spaces within
abbrev pub an_underline_with_spaces_within : Row
an_underline_with_spaces_within = row (codes "a\n= =\n") (more (Paragraph (codes "a\n= =")) none)
    ([])

-- a rule after an underlined heading
abbrev pub a_rule_behind_an_underlined_heading : Row
a_rule_behind_an_underlined_heading = row (codes "a\n---\n---\n") (more (Heading level.H2 (codes "a")) (more Rule none))
    ([])

-- an underline too far in
abbrev pub an_underline_too_far_in : Row
an_underline_too_far_in = row (codes "a\n    ---\n") (more (Paragraph (codes "a\n---")) none)
    ([])

-- indented code
abbrev pub indented_code : Row
indented_code = row (codes "    a\n      b\n") (more (IndentedCode (codes "a\n  b\n")) none)
    ([])

-- blank lines in indented code
abbrev pub blank_lines_in_indented_code : Row
blank_lines_in_indented_code = row (codes "\n    a\n\n      \n    b\n\n\nc\n") (more (IndentedCode (codes "a\n\n  \nb\n")) (more (Paragraph (codes "c")) none))
    ([])

-- no indented code in a paragraph
abbrev pub no_indented_code_in_a_paragraph : Row
no_indented_code_in_a_paragraph = row (codes "a\n    b\n") (more (Paragraph (codes "a\nb")) none)
    ([])

-- code and then a paragraph
abbrev pub code_and_then_a_paragraph : Row
code_and_then_a_paragraph = row (codes "    a\nb\n") (more (IndentedCode (codes "a\n")) (more (Paragraph (codes "b")) none))
    ([])

-- a fence
abbrev pub a_fence : Row
a_fence = row (codes "```\na\n```\nb\n") (more (FencedCode [] (codes "a\n")) (more (Paragraph (codes "b")) none))
    ([])

-- tildes with an info string
abbrev pub tildes_with_an_info_string : Row
tildes_with_an_info_string = row (codes "~~~~  a `b \nc\n~~~\n~~~~~\n") (more (FencedCode (codes "a `b") (codes "c\n~~~\n")) none)
    ([])

-- a backtick in an info string
abbrev pub a_backtick_in_an_info_string : Row
a_backtick_in_an_info_string = row (codes "``` a`b\n") (more (Paragraph (codes "``` a`b")) none)
    ([])

-- an open fence
abbrev pub an_open_fence : Row
an_open_fence = row (codes "```\n\n  a\n") (more (FencedCode [] (codes "\n  a\n")) none)
    ([])

-- an indented fence
abbrev pub an_indented_fence : Row
an_indented_fence = row (codes "  ```\na\n  b\n    c\n   ```\n") (more (FencedCode [] (codes "a\nb\n  c\n")) none)
    ([])

-- a closing fence too far in
abbrev pub a_closing_fence_too_far_in : Row
a_closing_fence_too_far_in = row (codes "```\na\n    ```\n") (more (FencedCode [] (codes "a\n    ```\n")) none)
    ([])

-- too few for a fence
abbrev pub too_few_for_a_fence : Row
too_few_for_a_fence = row (codes "``\na\n``\n") (more (Paragraph (codes "``\na\n``")) none)
    ([])

-- a fence ends a paragraph
abbrev pub a_fence_ends_a_paragraph : Row
a_fence_ends_a_paragraph = row (codes "a\n```\nb\n```\nc\n") (more (Paragraph (codes "a")) (more (FencedCode [] (codes "b\n")) (more (Paragraph (codes "c")) none)))
    ([])

-- an empty fence
abbrev pub an_empty_fence : Row
an_empty_fence = row (codes "```\n```\n") (more (FencedCode [] []) none)
    ([])

-- raw text
abbrev pub raw_text : Row
raw_text = row (codes "<pre>\n\na</pre> b\nc\n") (more (Html (codes "<pre>\n\na</pre> b\n")) (more (Paragraph (codes "c")) none))
    ([])

-- a comment
abbrev pub a_comment : Row
a_comment = row (codes "<!-- a\n\nb -->\nc\n") (more (Html (codes "<!-- a\n\nb -->\n")) (more (Paragraph (codes "c")) none))
    ([])

-- an instruction
abbrev pub an_instruction : Row
an_instruction = row (codes "<?a\n?>\n") (more (Html (codes "<?a\n?>\n")) none)
    ([])

-- a declaration
abbrev pub a_declaration : Row
a_declaration = row (codes "<!A\n>\nb\n") (more (Html (codes "<!A\n>\n")) (more (Paragraph (codes "b")) none))
    ([])

-- CDATA
abbrev pub cdata : Row
cdata = row (codes "<![CDATA[\n\n]]>\n") (more (Html (codes "<![CDATA[\n\n]]>\n")) none)
    ([])

-- a block tag
abbrev pub a_block_tag : Row
a_block_tag = row (codes "<div>\na\n\nb\n") (more (Html (codes "<div>\na\n")) (more (Paragraph (codes "b")) none))
    ([])

-- a block tag ends a paragraph
abbrev pub a_block_tag_ends_a_paragraph : Row
a_block_tag_ends_a_paragraph = row (codes "a\n</div>\nb\n") (more (Paragraph (codes "a")) (more (Html (codes "</div>\nb\n")) none))
    ([])

-- a tag alone
abbrev pub a_tag_alone : Row
a_tag_alone = row (codes "  <x y=\"z\">\na\n\nb\n") (more (Html (codes "  <x y=\"z\">\na\n")) (more (Paragraph (codes "b")) none))
    ([])

-- a tag alone ends no paragraph
abbrev pub a_tag_alone_ends_no_paragraph : Row
a_tag_alone_ends_no_paragraph = row (codes "a\n<x>\nb\n") (more (Paragraph (codes "a\n<x>\nb")) none)
    ([])

-- a tag that is not alone
abbrev pub a_tag_that_is_not_alone : Row
a_tag_that_is_not_alone = row (codes "<x> a\n") (more (Paragraph (codes "<x> a")) none)
    ([])

-- an open comment
abbrev pub an_open_comment : Row
an_open_comment = row (codes "<!-- a\n") (more (Html (codes "<!-- a\n")) none)
    ([])

-- a definition
abbrev pub a_definition : Row
a_definition = row (codes "[a]: b\n") (none)
    (definition (codes "a") (codes "b") [] ∷ [])

-- a definition with a title
abbrev pub a_definition_with_a_title : Row
a_definition_with_a_title = row (codes "[a]: <b c>\n  \"d\ne\"\nf\n") (more (Paragraph (codes "f")) none)
    (definition (codes "a") (codes "b c") (codes "d\ne") ∷ [])

-- two definitions and a paragraph
abbrev pub two_definitions_and_a_paragraph : Row
two_definitions_and_a_paragraph = row (codes "[a]: b\n[c]: d (e)\nf\n") (more (Paragraph (codes "f")) none)
    (definition (codes "a") (codes "b") [] ∷ definition (codes "c") (codes "d") (codes "e") ∷ [])

-- no definition within a paragraph
abbrev pub no_definition_within_a_paragraph : Row
no_definition_within_a_paragraph = row (codes "a\n[b]: c\n") (more (Paragraph (codes "a\n[b]: c")) none)
    ([])

-- a definition before an underline
abbrev pub a_definition_before_an_underline : Row
a_definition_before_an_underline = row (codes "[a]: b\n===\nc\n") (more (Paragraph (codes "===\nc")) none)
    (definition (codes "a") (codes "b") [] ∷ [])

-- a definition before an underlined heading
abbrev pub a_definition_before_an_underlined_heading : Row
a_definition_before_an_underlined_heading = row (codes "[a]: b\nc\n===\n") (more (Heading level.H1 (codes "c")) none)
    (definition (codes "a") (codes "b") [] ∷ [])

-- a definition and a heading
abbrev pub a_definition_and_a_heading : Row
a_definition_and_a_heading = row (codes "[a]: b\n# c\n") (more (Heading level.H1 (codes "c")) none)
    (definition (codes "a") (codes "b") [] ∷ [])

-- no definition without a destination
abbrev pub no_definition_without_a_destination : Row
no_definition_without_a_destination = row (codes "[a]:\n\nb\n") (more (Paragraph (codes "[a]:")) (more (Paragraph (codes "b")) none))
    ([])

-- a definition over three lines
abbrev pub a_definition_over_three_lines : Row
a_definition_over_three_lines = row (codes "[a]:\nb\n'c'\n") (none)
    (definition (codes "a") (codes "b") (codes "c") ∷ [])

-- all of these
abbrev pub leaves : List Row
leaves = nothing
    ∷ blank_lines
    ∷ a_paragraph
    ∷ a_paragraph_without_a_last_line_feed
    ∷ a_paragraph_of_two_lines
    ∷ two_paragraphs
    ∷ a_paragraph_that_spaces_indent
    ∷ rules
    ∷ a_rule_with_spaces
    ∷ too_few_for_a_rule
    ∷ a_rule_ends_a_paragraph
    ∷ other_bytes_in_a_rule
    ∷ headings
    ∷ seven_marks
    ∷ no_space_behind_the_marks
    ∷ closing_marks
    ∷ empty_headings
    ∷ a_heading_ends_a_paragraph
    ∷ four_spaces_before_a_mark
    ∷ underlined_by_equals_signs
    ∷ underlined_by_hyphens
    ∷ one_hyphen_underlines
    ∷ equals_signs_below_nothing
    ∷ an_underline_with_spaces_within
    ∷ a_rule_behind_an_underlined_heading
    ∷ an_underline_too_far_in
    ∷ indented_code
    ∷ blank_lines_in_indented_code
    ∷ no_indented_code_in_a_paragraph
    ∷ code_and_then_a_paragraph
    ∷ a_fence
    ∷ tildes_with_an_info_string
    ∷ a_backtick_in_an_info_string
    ∷ an_open_fence
    ∷ an_indented_fence
    ∷ a_closing_fence_too_far_in
    ∷ too_few_for_a_fence
    ∷ a_fence_ends_a_paragraph
    ∷ an_empty_fence
    ∷ raw_text
    ∷ a_comment
    ∷ an_instruction
    ∷ a_declaration
    ∷ cdata
    ∷ a_block_tag
    ∷ a_block_tag_ends_a_paragraph
    ∷ a_tag_alone
    ∷ a_tag_alone_ends_no_paragraph
    ∷ a_tag_that_is_not_alone
    ∷ an_open_comment
    ∷ a_definition
    ∷ a_definition_with_a_title
    ∷ two_definitions_and_a_paragraph
    ∷ no_definition_within_a_paragraph
    ∷ a_definition_before_an_underline
    ∷ a_definition_before_an_underlined_heading
    ∷ a_definition_and_a_heading
    ∷ no_definition_without_a_destination
    ∷ a_definition_over_three_lines ∷ []
