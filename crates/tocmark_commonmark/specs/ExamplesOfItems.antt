-- Examples of items, each with its blocks and its definitions.
use Rattle.std.specs.Prelude.{true, false, List, [], ◌∷◌, codes}
use Rattle.tocmark_event.specs.declared.event.HeadingLevel.TheVariants as level
use Rattle.tocmark_commonmark.specs.Tree.{none, more, Rule, Heading, IndentedCode, FencedCode, Html, Paragraph, Quote, BulletList, OrderedList, Item}
use Rattle.tocmark_commonmark.specs.Examples.{Row, row}

-- an item
abbrev pub an_item : Row
an_item = row (codes "- a\n") (more (BulletList 45 true (more (Item (more (Paragraph (codes "a")) none)) none)) none)
    ([])

-- an item of two paragraphs
abbrev pub an_item_of_two_paragraphs : Row
an_item_of_two_paragraphs = row (codes "- a\n\n  b\n") (more (BulletList 45 false (more (Item (more (Paragraph (codes "a")) (more (Paragraph (codes "b")) none))) none)) none)
    ([])

-- a paragraph after an item
abbrev pub a_paragraph_behind_an_item : Row
a_paragraph_behind_an_item = row (codes "- a\n\n b\n") (more (BulletList 45 true (more (Item (more (Paragraph (codes "a")) none)) none)) (more (Paragraph (codes "b")) none))
    ([])

-- code in an item
abbrev pub code_in_an_item : Row
code_in_an_item = row (codes "-     a\n\n      b\n") (more (BulletList 45 true (more (Item (more (IndentedCode (codes "a\n\nb\n")) none)) none)) none)
    ([])

-- a numbered item
abbrev pub a_numbered_item : Row
a_numbered_item = row (codes "12. a\n\n    b\n") (more (OrderedList 46 12 false (more (Item (more (Paragraph (codes "a")) (more (Paragraph (codes "b")) none))) none)) none)
    ([])

-- ten digits
abbrev pub ten_digits : Row
ten_digits = row (codes "1234567890. a\n") (more (Paragraph (codes "1234567890. a")) none)
    ([])

-- a lazy line of an item
abbrev pub a_lazy_line_of_an_item : Row
a_lazy_line_of_an_item = row (codes "- a\nb\n c\n") (more (BulletList 45 true (more (Item (more (Paragraph (codes "a\nb\nc")) none)) none)) none)
    ([])

-- an empty item
abbrev pub an_empty_item : Row
an_empty_item = row (codes "-\n  a\n") (more (BulletList 45 true (more (Item (more (Paragraph (codes "a")) none)) none)) none)
    ([])

-- an empty item with spaces after it
abbrev pub an_empty_item_with_spaces_behind_it : Row
an_empty_item_with_spaces_behind_it = row (codes "-   \n  a\n") (more (BulletList 45 true (more (Item (more (Paragraph (codes "a")) none)) none)) none)
    ([])

-- an empty item and a blank line
abbrev pub an_empty_item_and_a_blank_line : Row
an_empty_item_and_a_blank_line = row (codes "-\n\n  a\n") (more (BulletList 45 true (more (Item none) none)) (more (Paragraph (codes "a")) none))
    ([])

-- an empty item ends no paragraph
abbrev pub an_empty_item_ends_no_paragraph : Row
an_empty_item_ends_no_paragraph = row (codes "a\n*\nb\n") (more (Paragraph (codes "a\n*\nb")) none)
    ([])

-- a number ends no paragraph
abbrev pub a_number_ends_no_paragraph : Row
a_number_ends_no_paragraph = row (codes "a\n2. b\n") (more (Paragraph (codes "a\n2. b")) none)
    ([])

-- the number one ends a paragraph
abbrev pub the_number_one_ends_a_paragraph : Row
the_number_one_ends_a_paragraph = row (codes "a\n1) b\n") (more (Paragraph (codes "a")) (more (OrderedList 41 1 true (more (Item (more (Paragraph (codes "b")) none)) none)) none))
    ([])

-- a rule is no item
abbrev pub a_rule_is_no_item : Row
a_rule_is_no_item = row (codes "- - -\n* a\n") (more Rule (more (BulletList 42 true (more (Item (more (Paragraph (codes "a")) none)) none)) none))
    ([])

-- an indented item
abbrev pub an_indented_item : Row
an_indented_item = row (codes "  10) a\n\n      b\n") (more (OrderedList 41 10 false (more (Item (more (Paragraph (codes "a")) (more (Paragraph (codes "b")) none))) none)) none)
    ([])

-- a heading in an item
abbrev pub a_heading_in_an_item : Row
a_heading_in_an_item = row (codes "- # a\n- b\n  ---\n") (more (BulletList 45 true (more (Item (more (Heading level.H1 (codes "a")) none)) (more (Item (more (Heading level.H2 (codes "b")) none)) none))) none)
    ([])

-- a fence in an item
abbrev pub a_fence_in_an_item : Row
a_fence_in_an_item = row (codes "1. ```\n   a\n\n   ```\n   b\n") (more (OrderedList 46 1 true (more (Item (more (FencedCode [] (codes "a\n\n")) (more (Paragraph (codes "b")) none))) none)) none)
    ([])

-- a quote in an item
abbrev pub a_quote_in_an_item : Row
a_quote_in_an_item = row (codes "- > a\n  > b\nc\n") (more (BulletList 45 true (more (Item (more (Quote (more (Paragraph (codes "a\nb\nc")) none)) none)) none)) none)
    ([])

-- an item in a quote
abbrev pub an_item_in_a_quote : Row
an_item_in_a_quote = row (codes "> 1. a\n> b\n>\n>    c\n") (more (Quote (more (OrderedList 46 1 false (more (Item (more (Paragraph (codes "a\nb")) (more (Paragraph (codes "c")) none))) none)) none)) none)
    ([])

-- an item in an item
abbrev pub an_item_in_an_item : Row
an_item_in_an_item = row (codes "- - a\n- 2. b\n") (more (BulletList 45 true (more (Item (more (BulletList 45 true (more (Item (more (Paragraph (codes "a")) none)) none)) none)) (more (Item (more (OrderedList 46 2 true (more (Item (more (Paragraph (codes "b")) none)) none)) none)) none))) none)
    ([])

-- a marker is no lazy line
abbrev pub a_marker_is_no_lazy_line : Row
a_marker_is_no_lazy_line = row (codes "> a\n- b\n") (more (Quote (more (Paragraph (codes "a")) none)) (more (BulletList 45 true (more (Item (more (Paragraph (codes "b")) none)) none)) none))
    ([])

-- HTML in an item
abbrev pub html_in_an_item : Row
html_in_an_item = row (codes "- <div>\n  a\n\n  b\n") (more (BulletList 45 false (more (Item (more (Html (codes "<div>\na\n")) (more (Paragraph (codes "b")) none))) none)) none)
    ([])

-- all of these
abbrev pub items : List Row
items = an_item
    ∷ an_item_of_two_paragraphs
    ∷ a_paragraph_behind_an_item
    ∷ code_in_an_item
    ∷ a_numbered_item
    ∷ ten_digits
    ∷ a_lazy_line_of_an_item
    ∷ an_empty_item
    ∷ an_empty_item_with_spaces_behind_it
    ∷ an_empty_item_and_a_blank_line
    ∷ an_empty_item_ends_no_paragraph
    ∷ a_number_ends_no_paragraph
    ∷ the_number_one_ends_a_paragraph
    ∷ a_rule_is_no_item
    ∷ an_indented_item
    ∷ a_heading_in_an_item
    ∷ a_fence_in_an_item
    ∷ a_quote_in_an_item
    ∷ an_item_in_a_quote
    ∷ an_item_in_an_item
    ∷ a_marker_is_no_lazy_line
    ∷ html_in_an_item ∷ []
