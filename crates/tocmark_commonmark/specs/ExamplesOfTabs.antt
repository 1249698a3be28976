-- Examples of tabs and line endings, each with its blocks and its definitions.
use Rattle.std.specs.Prelude.{true, false, List, [], ◌∷◌, codes, encode_utf8_all}
use Rattle.tocmark_event.specs.declared.event.HeadingLevel.TheVariants as level
use Rattle.tocmark_commonmark.specs.Tree.{none, more, Rule, Heading, IndentedCode, FencedCode, Html, Paragraph, Quote, BulletList, OrderedList, Item}
use Rattle.tocmark_commonmark.specs.Examples.{Row, row}

-- a tab is indented code
abbrev pub a_tab_is_indented_code : Row
a_tab_is_indented_code = row (codes "\tfoo\tbaz\t\tbim\n") (more (IndentedCode (codes "foo\tbaz\t\tbim\n")) none)
    ([])

-- spaces before a tab
abbrev pub spaces_before_a_tab : Row
spaces_before_a_tab = row (codes "  \tfoo\tbaz\n") (more (IndentedCode (codes "foo\tbaz\n")) none)
    ([])

-- a tab in code
abbrev pub a_tab_in_code : Row
a_tab_in_code = row (codes "    a\ta\n") (more (IndentedCode (codes "a\ta\n")) none)
    ([])

-- a tab continues an item
abbrev pub a_tab_continues_an_item : Row
a_tab_continues_an_item = row (codes "  - foo\n\n\tbar\n") (more (BulletList 45 false (more (Item (more (Paragraph (codes "foo")) (more (Paragraph (codes "bar")) none))) none)) none)
    ([])

-- two tabs in an item
abbrev pub two_tabs_in_an_item : Row
two_tabs_in_an_item = row (codes "- foo\n\n\t\tbar\n") (more (BulletList 45 false (more (Item (more (Paragraph (codes "foo")) (more (IndentedCode (codes "  bar\n")) none))) none)) none)
    ([])

-- two tabs in a quote
abbrev pub two_tabs_in_a_quote : Row
two_tabs_in_a_quote = row (codes ">\t\tfoo\n") (more (Quote (more (IndentedCode (codes "  foo\n")) none)) none)
    ([])

-- two tabs after a marker
abbrev pub two_tabs_after_a_marker : Row
two_tabs_after_a_marker = row (codes "-\t\tfoo\n") (more (BulletList 45 true (more (Item (more (IndentedCode (codes "  foo\n")) none)) none)) none)
    ([])

-- tabs and spaces
abbrev pub tabs_and_spaces : Row
tabs_and_spaces = row (codes "    foo\n\tbar\n") (more (IndentedCode (codes "foo\nbar\n")) none)
    ([])

-- lists by tabs
abbrev pub lists_by_tabs : Row
lists_by_tabs = row (codes " - foo\n   - bar\n\t - baz\n") (more (BulletList 45 true (more (Item (more (Paragraph (codes "foo")) (more (BulletList 45 true (more (Item (more (Paragraph (codes "bar")) (more (BulletList 45 true (more (Item (more (Paragraph (codes "baz")) none)) none)) none))) none)) none))) none)) none)
    ([])

-- a tab in a heading
abbrev pub a_tab_in_a_heading : Row
a_tab_in_a_heading = row (codes "#\tFoo\t\n") (more (Heading level.H1 (codes "Foo")) none)
    ([])

-- a rule with tabs
abbrev pub a_rule_with_tabs : Row
a_rule_with_tabs = row (codes "*\t*\t*\t\n") (more Rule none)
    ([])

-- tabs around a word
abbrev pub tabs_around_a_word : Row
tabs_around_a_word = row (codes "\n \t\na\t\n\tb\t\n") (more (Paragraph (codes "a\t\nb")) none)
    ([])

-- an underline with a tab
abbrev pub an_underline_with_a_tab : Row
an_underline_with_a_tab = row (codes "a\n--\t\n") (more (Heading level.H2 (codes "a")) none)
    ([])

-- a tab after a closing fence
abbrev pub a_tab_after_a_closing_fence : Row
a_tab_after_a_closing_fence = row (codes "```\n\ta\n```\t\n") (more (FencedCode [] (codes "\ta\n")) none)
    ([])

-- a tab before code in a fence
abbrev pub a_tab_before_code_in_a_fence : Row
a_tab_before_code_in_a_fence = row (codes "  ```\n\ta\n ```\n") (more (FencedCode [] (codes "  a\n")) none)
    ([])

-- half a tab in an item
abbrev pub half_a_tab_in_an_item : Row
half_a_tab_in_an_item = row (codes "1.\ta\n\n\t\tb\n   \tc\n") (more (OrderedList 46 1 false (more (Item (more (Paragraph (codes "a")) (more (IndentedCode (codes "b\n")) (more (Paragraph (codes "c")) none)))) none)) none)
    ([])

-- half a tab in a quote in an item
abbrev pub half_a_tab_in_a_quote_in_an_item : Row
half_a_tab_in_a_quote_in_an_item = row (codes "- >\ta\n  >\n  >\t\tb\n") (more (BulletList 45 true (more (Item (more (Quote (more (Paragraph (codes "a")) (more (IndentedCode (codes "b\n")) none))) none)) none)) none)
    ([])

-- HTML after half a tab
abbrev pub html_after_half_a_tab : Row
html_after_half_a_tab = row (codes ">\t<pre>\n>\t\ta\n") (more (Quote (more (Html (codes "  <pre>\n  \ta\n")) none)) none)
    ([])

-- a tab before a lazy line
abbrev pub a_tab_before_a_lazy_line : Row
a_tab_before_a_lazy_line = row (codes "> a\n\tb\n") (more (Quote (more (Paragraph (codes "a\nb")) none)) none)
    ([])

-- a tab in a number
abbrev pub a_tab_in_a_number : Row
a_tab_in_a_number = row (codes "1)\t\ta\n") (more (OrderedList 41 1 true (more (Item (more (IndentedCode (codes " a\n")) none)) none)) none)
    ([])

-- an empty item with a tab
abbrev pub an_empty_item_with_a_tab : Row
an_empty_item_with_a_tab = row (codes "-\t\n  a\n") (more (BulletList 45 true (more (Item (more (Paragraph (codes "a")) none)) none)) none)
    ([])

-- a tab before the marks of a heading
abbrev pub a_tab_before_the_marks_of_a_heading : Row
a_tab_before_the_marks_of_a_heading = row (codes "a\n\t# b\n") (more (Paragraph (codes "a\n# b")) none)
    ([])

-- closing marks after a tab
abbrev pub closing_marks_after_a_tab : Row
closing_marks_after_a_tab = row (codes "# a\t##\t\n") (more (Heading level.H1 (codes "a")) none)
    ([])

-- a carriage return
abbrev pub a_carriage_return : Row
a_carriage_return = row (codes "a\rb\r\r# c") (more (Paragraph (codes "a\nb")) (more (Heading level.H1 (codes "c")) none))
    ([])

-- a carriage return and a line feed
abbrev pub a_carriage_return_and_a_line_feed : Row
a_carriage_return_and_a_line_feed = row (codes "# a\r\n\r\nb\r\nc\r\n") (more (Heading level.H1 (codes "a")) (more (Paragraph (codes "b\nc")) none))
    ([])

-- no character
abbrev pub no_character : Row
no_character = row (codes "a\0b\n") (more (Paragraph (encode_utf8_all (codes "a�b"))) none)
    ([])

-- all of these
abbrev pub tabs : List Row
tabs = a_tab_is_indented_code
    ∷ spaces_before_a_tab
    ∷ a_tab_in_code
    ∷ a_tab_continues_an_item
    ∷ two_tabs_in_an_item
    ∷ two_tabs_in_a_quote
    ∷ two_tabs_after_a_marker
    ∷ tabs_and_spaces
    ∷ lists_by_tabs
    ∷ a_tab_in_a_heading
    ∷ a_rule_with_tabs
    ∷ tabs_around_a_word
    ∷ an_underline_with_a_tab
    ∷ a_tab_after_a_closing_fence
    ∷ a_tab_before_code_in_a_fence
    ∷ half_a_tab_in_an_item
    ∷ half_a_tab_in_a_quote_in_an_item
    ∷ html_after_half_a_tab
    ∷ a_tab_before_a_lazy_line
    ∷ a_tab_in_a_number
    ∷ an_empty_item_with_a_tab
    ∷ a_tab_before_the_marks_of_a_heading
    ∷ closing_marks_after_a_tab
    ∷ a_carriage_return
    ∷ a_carriage_return_and_a_line_feed
    ∷ no_character ∷ []
