-- Examples of lists, each with its blocks and its definitions.
use Rattle.std.specs.Prelude.{true, false, List, [], ◌∷◌, codes}
use Rattle.tocmark_event.specs.declared.event.HeadingLevel.TheVariants as level
use Rattle.tocmark_commonmark.specs.Tree.{none, more, Rule, Heading, IndentedCode, FencedCode, Paragraph, Quote, BulletList, OrderedList, Item}
use Rattle.tocmark_commonmark.specs.Examples.{Row, row, definition}

-- a tight list
abbrev pub a_tight_list : Row
a_tight_list = row (codes "- a\n- b\n- c\n") (more (BulletList 45 true (more (Item (more (Paragraph (codes "a")) none)) (more (Item (more (Paragraph (codes "b")) none)) (more (Item (more (Paragraph (codes "c")) none)) none)))) none)
    ([])

-- a loose list
abbrev pub a_loose_list : Row
a_loose_list = row (codes "- a\n\n- b\n- c\n") (more (BulletList 45 false (more (Item (more (Paragraph (codes "a")) none)) (more (Item (more (Paragraph (codes "b")) none)) (more (Item (more (Paragraph (codes "c")) none)) none)))) none)
    ([])

-- another bullet
abbrev pub another_bullet : Row
another_bullet = row (codes "- a\n+ b\n") (more (BulletList 45 true (more (Item (more (Paragraph (codes "a")) none)) none)) (more (BulletList 43 true (more (Item (more (Paragraph (codes "b")) none)) none)) none))
    ([])

-- another delimiter
abbrev pub another_delimiter : Row
another_delimiter = row (codes "3. a\n4. b\n5) c\n") (more (OrderedList 46 3 true (more (Item (more (Paragraph (codes "a")) none)) (more (Item (more (Paragraph (codes "b")) none)) none))) (more (OrderedList 41 5 true (more (Item (more (Paragraph (codes "c")) none)) none)) none))
    ([])

-- a loose list by its children
abbrev pub a_loose_list_by_its_children : Row
a_loose_list_by_its_children = row (codes "- a\n- b\n\n  c\n") (more (BulletList 45 false (more (Item (more (Paragraph (codes "a")) none)) (more (Item (more (Paragraph (codes "b")) (more (Paragraph (codes "c")) none))) none))) none)
    ([])

-- tight around a fence
abbrev pub tight_around_a_fence : Row
tight_around_a_fence = row (codes "- a\n- ```\n  b\n\n  ```\n- c\n") (more (BulletList 45 true (more (Item (more (Paragraph (codes "a")) none)) (more (Item (more (FencedCode [] (codes "b\n\n")) none)) (more (Item (more (Paragraph (codes "c")) none)) none)))) none)
    ([])

-- tight around a loose list
abbrev pub tight_around_a_loose_list : Row
tight_around_a_loose_list = row (codes "- a\n  - b\n\n    c\n- d\n") (more (BulletList 45 true (more (Item (more (Paragraph (codes "a")) (more (BulletList 45 false (more (Item (more (Paragraph (codes "b")) (more (Paragraph (codes "c")) none))) none)) none))) (more (Item (more (Paragraph (codes "d")) none)) none))) none)
    ([])

-- loose around a tight list
abbrev pub loose_around_a_tight_list : Row
loose_around_a_tight_list = row (codes "* a\n  * b\n\n  c\n") (more (BulletList 42 false (more (Item (more (Paragraph (codes "a")) (more (BulletList 42 true (more (Item (more (Paragraph (codes "b")) none)) none)) (more (Paragraph (codes "c")) none)))) none)) none)
    ([])

-- a blank line in a quote is no gap
abbrev pub a_blank_line_in_a_quote_is_no_gap : Row
a_blank_line_in_a_quote_is_no_gap = row (codes "* a\n  > b\n  >\n* c\n") (more (BulletList 42 true (more (Item (more (Paragraph (codes "a")) (more (Quote (more (Paragraph (codes "b")) none)) none))) (more (Item (more (Paragraph (codes "c")) none)) none))) none)
    ([])

-- loose by a definition
abbrev pub loose_by_a_definition : Row
loose_by_a_definition = row (codes "- a\n\n  [b]: c\n- d\n") (more (BulletList 45 false (more (Item (more (Paragraph (codes "a")) none)) (more (Item (more (Paragraph (codes "d")) none)) none))) none)
    (definition (codes "b") (codes "c") [] ∷ [])

-- tight around an underlined heading
abbrev pub tight_around_an_underlined_heading : Row
tight_around_an_underlined_heading = row (codes "- a\n  ---\n- [b]: c\n  d\n  ===\n- e\n") (more (BulletList 45 true (more (Item (more (Heading level.H2 (codes "a")) none)) (more (Item (more (Heading level.H1 (codes "d")) none)) (more (Item (more (Paragraph (codes "e")) none)) none)))) none)
    (definition (codes "b") (codes "c") [] ∷ [])

-- tight around a definition
abbrev pub tight_around_a_definition : Row
tight_around_a_definition = row (codes "- [a]: b\n  c\n- d\n") (more (BulletList 45 true (more (Item (more (Paragraph (codes "c")) none)) (more (Item (more (Paragraph (codes "d")) none)) none))) none)
    (definition (codes "a") (codes "b") [] ∷ [])

-- a blank line at the end
abbrev pub a_blank_line_at_the_end : Row
a_blank_line_at_the_end = row (codes "- a\n- b\n\nc\n") (more (BulletList 45 true (more (Item (more (Paragraph (codes "a")) none)) (more (Item (more (Paragraph (codes "b")) none)) none))) (more (Paragraph (codes "c")) none))
    ([])

-- an empty item within
abbrev pub an_empty_item_within : Row
an_empty_item_within = row (codes "- a\n-\n- c\n") (more (BulletList 45 true (more (Item (more (Paragraph (codes "a")) none)) (more (Item none) (more (Item (more (Paragraph (codes "c")) none)) none)))) none)
    ([])

-- loose by an empty item
abbrev pub loose_by_an_empty_item : Row
loose_by_an_empty_item = row (codes "- a\n-\n\n- c\n") (more (BulletList 45 false (more (Item (more (Paragraph (codes "a")) none)) (more (Item none) (more (Item (more (Paragraph (codes "c")) none)) none)))) none)
    ([])

-- lists in lists
abbrev pub lists_in_lists : Row
lists_in_lists = row (codes "- a\n - b\n  - c\n   - d\n    - e\n") (more (BulletList 45 true (more (Item (more (Paragraph (codes "a")) none)) (more (Item (more (Paragraph (codes "b")) none)) (more (Item (more (Paragraph (codes "c")) none)) (more (Item (more (Paragraph (codes "d\n- e")) none)) none))))) none)
    ([])

-- a list in a list
abbrev pub a_list_in_a_list : Row
a_list_in_a_list = row (codes "1. a\n\n  2. b\n\n    3. c\n") (more (OrderedList 46 1 false (more (Item (more (Paragraph (codes "a")) none)) (more (Item (more (Paragraph (codes "b")) none)) none))) (more (IndentedCode (codes "3. c\n")) none))
    ([])

-- deeper and back
abbrev pub deeper_and_back : Row
deeper_and_back = row (codes "- a\n  - b\n    - c\n  - d\n- e\n") (more (BulletList 45 true (more (Item (more (Paragraph (codes "a")) (more (BulletList 45 true (more (Item (more (Paragraph (codes "b")) (more (BulletList 45 true (more (Item (more (Paragraph (codes "c")) none)) none)) none))) (more (Item (more (Paragraph (codes "d")) none)) none))) none))) (more (Item (more (Paragraph (codes "e")) none)) none))) none)
    ([])

-- everything nested
abbrev pub everything_nested : Row
everything_nested = row (codes "> 1. > - a\nb\n> 2. # c\n>\n>    ---\n") (more (Quote (more (OrderedList 46 1 false (more (Item (more (Quote (more (BulletList 45 true (more (Item (more (Paragraph (codes "a\nb")) none)) none)) none)) none)) (more (Item (more (Heading level.H1 (codes "c")) (more Rule none))) none))) none)) none)
    ([])

-- a definition in an item in a quote
abbrev pub a_definition_in_an_item_in_a_quote : Row
a_definition_in_an_item_in_a_quote = row (codes "> - [a]: b\n>   \"c\"\n> - d\n") (more (Quote (more (BulletList 45 true (more (Item none) (more (Item (more (Paragraph (codes "d")) none)) none))) none)) none)
    (definition (codes "a") (codes "b") (codes "c") ∷ [])

-- all of these
abbrev pub lists : List Row
lists = a_tight_list
    ∷ a_loose_list
    ∷ another_bullet
    ∷ another_delimiter
    ∷ a_loose_list_by_its_children
    ∷ tight_around_a_fence
    ∷ tight_around_a_loose_list
    ∷ loose_around_a_tight_list
    ∷ a_blank_line_in_a_quote_is_no_gap
    ∷ loose_by_a_definition
    ∷ tight_around_an_underlined_heading
    ∷ tight_around_a_definition
    ∷ a_blank_line_at_the_end
    ∷ an_empty_item_within
    ∷ loose_by_an_empty_item
    ∷ lists_in_lists
    ∷ a_list_in_a_list
    ∷ deeper_and_back
    ∷ everything_nested
    ∷ a_definition_in_an_item_in_a_quote ∷ []
