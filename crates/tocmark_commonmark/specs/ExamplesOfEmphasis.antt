-- Examples of emphasis.
use Rattle.std.specs.Prelude.{List, [], ◌∷◌, codes}
use Rattle.tocmark_event.specs.declared.event.LinkType.TheVariants as kind
use Rattle.tocmark_commonmark.specs.InlineTree.{none, more, Text, RawHtml, Emphasis, Strong, Link}
use Rattle.tocmark_commonmark.specs.InlineExamples.{InlineRow, inline_row}

-- emphasis
abbrev pub emphasis : InlineRow
emphasis = inline_row ([]) (codes "*a b*") (more (Emphasis (more (Text (codes "a b")) none)) none)

-- white space inside
abbrev pub white_space_inside : InlineRow
white_space_inside = inline_row ([]) (codes "a * b c*") (more (Text (codes "a * b c*")) none)

-- punctuation inside
abbrev pub punctuation_inside : InlineRow
punctuation_inside = inline_row ([]) (codes "a*\"b\"*") (more (Text (codes "a*\"b\"*")) none)

-- within a word
abbrev pub within_a_word : InlineRow
within_a_word = inline_row ([]) (codes "a*b*c 5*6*78") (more (Text (codes "a")) (more (Emphasis (more (Text (codes "b")) none)) (more (Text (codes "c 5")) (more (Emphasis (more (Text (codes "6")) none)) (more (Text (codes "78")) none)))))

-- underscores
abbrev pub underscores : InlineRow
underscores = inline_row ([]) (codes "_a b_") (more (Emphasis (more (Text (codes "a b")) none)) none)

-- underscores within a word
abbrev pub underscores_within_a_word : InlineRow
underscores_within_a_word = inline_row ([]) (codes "a_b_ 5_6_78") (more (Text (codes "a_b_ 5_6_78")) none)

-- an underscore after punctuation
abbrev pub an_underscore_after_punctuation : InlineRow
an_underscore_after_punctuation = inline_row ([]) (codes "a-_(b)_") (more (Text (codes "a-")) (more (Emphasis (more (Text (codes "(b)")) none)) none))

-- no closing before another mark
abbrev pub no_closing_before_another_mark : InlineRow
no_closing_before_another_mark = inline_row ([]) (codes "_a*") (more (Text (codes "_a*")) none)

-- white space before the end
abbrev pub white_space_before_the_end : InlineRow
white_space_before_the_end = inline_row ([]) (codes "*a b *") (more (Text (codes "*a b *")) none)

-- punctuation before a word
abbrev pub punctuation_before_a_word : InlineRow
punctuation_before_a_word = inline_row ([]) (codes "*(*a)") (more (Text (codes "*(*a)")) none)

-- nested by punctuation
abbrev pub nested_by_punctuation : InlineRow
nested_by_punctuation = inline_row ([]) (codes "*(*a*)*") (more (Emphasis (more (Text (codes "(")) (more (Emphasis (more (Text (codes "a")) none)) (more (Text (codes ")")) none)))) none)

-- an underscore before a word
abbrev pub an_underscore_before_a_word : InlineRow
an_underscore_before_a_word = inline_row ([]) (codes "_(a)_b") (more (Text (codes "_(a)_b")) none)

-- an underscore before punctuation
abbrev pub an_underscore_before_punctuation : InlineRow
an_underscore_before_punctuation = inline_row ([]) (codes "_(a)_.") (more (Emphasis (more (Text (codes "(a)")) none)) (more (Text (codes ".")) none))

-- strong emphasis
abbrev pub strong_emphasis : InlineRow
strong_emphasis = inline_row ([]) (codes "**a b**") (more (Strong (more (Text (codes "a b")) none)) none)

-- strong with white space
abbrev pub strong_with_white_space : InlineRow
strong_with_white_space = inline_row ([]) (codes "** a b**") (more (Text (codes "** a b**")) none)

-- strong within a word
abbrev pub strong_within_a_word : InlineRow
strong_within_a_word = inline_row ([]) (codes "a**b**c") (more (Text (codes "a")) (more (Strong (more (Text (codes "b")) none)) (more (Text (codes "c")) none)))

-- strong underscores
abbrev pub strong_underscores : InlineRow
strong_underscores = inline_row ([]) (codes "__a__ a__b__ a-__(b)__") (more (Strong (more (Text (codes "a")) none)) (more (Text (codes " a__b__ a-")) (more (Strong (more (Text (codes "(b)")) none)) none)))

-- nested strong
abbrev pub nested_strong : InlineRow
nested_strong = inline_row ([]) (codes "__a, __b__, c__") (more (Strong (more (Text (codes "a, ")) (more (Strong (more (Text (codes "b")) none)) (more (Text (codes ", c")) none)))) none)

-- strong in emphasis
abbrev pub strong_in_emphasis : InlineRow
strong_in_emphasis = inline_row ([]) (codes "*a **b** c*") (more (Emphasis (more (Text (codes "a ")) (more (Strong (more (Text (codes "b")) none)) (more (Text (codes " c")) none)))) none)

-- strong in emphasis in a word
abbrev pub strong_in_emphasis_in_a_word : InlineRow
strong_in_emphasis_in_a_word = inline_row ([]) (codes "*a**b**c*") (more (Emphasis (more (Text (codes "a")) (more (Strong (more (Text (codes "b")) none)) (more (Text (codes "c")) none)))) none)

-- no strong in emphasis by the rule of 3
abbrev pub no_strong_in_emphasis_by_the_rule_of_3 : InlineRow
no_strong_in_emphasis_by_the_rule_of_3 = inline_row ([]) (codes "*a**b*") (more (Emphasis (more (Text (codes "a**b")) none)) none)

-- three on each side
abbrev pub three_on_each_side : InlineRow
three_on_each_side = inline_row ([]) (codes "***a** b*") (more (Emphasis (more (Strong (more (Text (codes "a")) none)) (more (Text (codes " b")) none))) none)

-- three at the end
abbrev pub three_at_the_end : InlineRow
three_at_the_end = inline_row ([]) (codes "*a **b***") (more (Emphasis (more (Text (codes "a ")) (more (Strong (more (Text (codes "b")) none)) none))) none)

-- three in words
abbrev pub three_in_words : InlineRow
three_in_words = inline_row ([]) (codes "a***b***c") (more (Text (codes "a")) (more (Emphasis (more (Strong (more (Text (codes "b")) none)) none)) (more (Text (codes "c")) none)))

-- six and nine
abbrev pub six_and_nine : InlineRow
six_and_nine = inline_row ([]) (codes "a******b*********c") (more (Text (codes "a")) (more (Strong (more (Strong (more (Strong (more (Text (codes "b")) none)) none)) none)) (more (Text (codes "***c")) none)))

-- emphasis of emphasis
abbrev pub emphasis_of_emphasis : InlineRow
emphasis_of_emphasis = inline_row ([]) (codes "*a [b](/u) c*") (more (Emphasis (more (Text (codes "a ")) (more (Link kind.Inline (codes "/u") [] [] (more (Text (codes "b")) none)) (more (Text (codes " c")) none)))) none)

-- delimiters alone
abbrev pub delimiters_alone : InlineRow
delimiters_alone = inline_row ([]) (codes "** is not __ empty") (more (Text (codes "** is not __ empty")) none)

-- an escaped delimiter
abbrev pub an_escaped_delimiter : InlineRow
an_escaped_delimiter = inline_row ([]) (codes "a *\\**") (more (Text (codes "a ")) (more (Emphasis (more (Text (codes "*")) none)) none))

-- another delimiter within
abbrev pub another_delimiter_within : InlineRow
another_delimiter_within = inline_row ([]) (codes "a *_*") (more (Text (codes "a ")) (more (Emphasis (more (Text (codes "_")) none)) none))

-- too many at the front
abbrev pub too_many_at_the_front : InlineRow
too_many_at_the_front = inline_row ([]) (codes "**a*") (more (Text (codes "*")) (more (Emphasis (more (Text (codes "a")) none)) none))

-- too many at the end
abbrev pub too_many_at_the_end : InlineRow
too_many_at_the_end = inline_row ([]) (codes "*a**") (more (Emphasis (more (Text (codes "a")) none)) (more (Text (codes "*")) none))

-- two and three
abbrev pub two_and_three : InlineRow
two_and_three = inline_row ([]) (codes "**a***") (more (Strong (more (Text (codes "a")) none)) (more (Text (codes "*")) none))

-- four and three
abbrev pub four_and_three : InlineRow
four_and_three = inline_row ([]) (codes "****a*") (more (Text (codes "***")) (more (Emphasis (more (Text (codes "a")) none)) none))

-- five
abbrev pub five : InlineRow
five = inline_row ([]) (codes "*****a*****") (more (Emphasis (more (Strong (more (Strong (more (Text (codes "a")) none)) none)) none)) none)

-- emphasis in emphasis
abbrev pub emphasis_in_emphasis : InlineRow
emphasis_in_emphasis = inline_row ([]) (codes "*_a_*") (more (Emphasis (more (Emphasis (more (Text (codes "a")) none)) none)) none)

-- no strong in strong
abbrev pub no_strong_in_strong : InlineRow
no_strong_in_strong = inline_row ([]) (codes "****a****") (more (Strong (more (Strong (more (Text (codes "a")) none)) none)) none)

-- the nearest one
abbrev pub the_nearest_one : InlineRow
the_nearest_one = inline_row ([]) (codes "**a **b c**") (more (Text (codes "**a ")) (more (Strong (more (Text (codes "b c")) none)) none))

-- the nearest one of one
abbrev pub the_nearest_one_of_one : InlineRow
the_nearest_one_of_one = inline_row ([]) (codes "*a *b c*") (more (Text (codes "*a ")) (more (Emphasis (more (Text (codes "b c")) none)) none))

-- crossed
abbrev pub crossed : InlineRow
crossed = inline_row ([]) (codes "*a _b* c_") (more (Emphasis (more (Text (codes "a _b")) none)) (more (Text (codes " c_")) none))

-- crossed with strong
abbrev pub crossed_with_strong : InlineRow
crossed_with_strong = inline_row ([]) (codes "*a __b *c d__ e*") (more (Emphasis (more (Text (codes "a ")) (more (Strong (more (Text (codes "b *c d")) none)) (more (Text (codes " e")) none)))) none)

-- emphasis before a link
abbrev pub emphasis_before_a_link : InlineRow
emphasis_before_a_link = inline_row ([]) (codes "*[a*](b)") (more (Text (codes "*")) (more (Link kind.Inline (codes "b") [] [] (more (Text (codes "a*")) none)) none))

-- a link before emphasis
abbrev pub a_link_before_emphasis : InlineRow
a_link_before_emphasis = inline_row ([]) (codes "*a [b*](c)") (more (Text (codes "*a ")) (more (Link kind.Inline (codes "c") [] [] (more (Text (codes "b*")) none)) none))

-- HTML before emphasis
abbrev pub html_before_emphasis : InlineRow
html_before_emphasis = inline_row ([]) (codes "*<img src=\"a\" title=\"*\"/>") (more (Text (codes "*")) (more (RawHtml (codes "<img src=\"a\" title=\"*\"/>")) none))

-- an autolink before emphasis
abbrev pub an_autolink_before_emphasis : InlineRow
an_autolink_before_emphasis = inline_row ([]) (codes "**a<https://b.c/?q=**>") (more (Text (codes "**a")) (more (Link kind.Autolink (codes "https://b.c/?q=**") [] [] (more (Text (codes "https://b.c/?q=**")) none)) none))

-- three and one and two
abbrev pub three_and_one_and_two : InlineRow
three_and_one_and_two = inline_row ([]) (codes "***a* b**") (more (Strong (more (Emphasis (more (Text (codes "a")) none)) (more (Text (codes " b")) none))) none)

-- many
abbrev pub many : InlineRow
many = inline_row ([]) (codes "*a **b *c **d** e* f** g*") (more (Emphasis (more (Text (codes "a ")) (more (Strong (more (Text (codes "b ")) (more (Emphasis (more (Text (codes "c ")) (more (Strong (more (Text (codes "d")) none)) (more (Text (codes " e")) none)))) (more (Text (codes " f")) none)))) (more (Text (codes " g")) none)))) none)

-- all of these
abbrev pub emphases : List InlineRow
emphases = emphasis
    ∷ white_space_inside
    ∷ punctuation_inside
    ∷ within_a_word
    ∷ underscores
    ∷ underscores_within_a_word
    ∷ an_underscore_after_punctuation
    ∷ no_closing_before_another_mark
    ∷ white_space_before_the_end
    ∷ punctuation_before_a_word
    ∷ nested_by_punctuation
    ∷ an_underscore_before_a_word
    ∷ an_underscore_before_punctuation
    ∷ strong_emphasis
    ∷ strong_with_white_space
    ∷ strong_within_a_word
    ∷ strong_underscores
    ∷ nested_strong
    ∷ strong_in_emphasis
    ∷ strong_in_emphasis_in_a_word
    ∷ no_strong_in_emphasis_by_the_rule_of_3
    ∷ three_on_each_side
    ∷ three_at_the_end
    ∷ three_in_words
    ∷ six_and_nine
    ∷ emphasis_of_emphasis
    ∷ delimiters_alone
    ∷ an_escaped_delimiter
    ∷ another_delimiter_within
    ∷ too_many_at_the_front
    ∷ too_many_at_the_end
    ∷ two_and_three
    ∷ four_and_three
    ∷ five
    ∷ emphasis_in_emphasis
    ∷ no_strong_in_strong
    ∷ the_nearest_one
    ∷ the_nearest_one_of_one
    ∷ crossed
    ∷ crossed_with_strong
    ∷ emphasis_before_a_link
    ∷ a_link_before_emphasis
    ∷ html_before_emphasis
    ∷ an_autolink_before_emphasis
    ∷ three_and_one_and_two
    ∷ many ∷ []
