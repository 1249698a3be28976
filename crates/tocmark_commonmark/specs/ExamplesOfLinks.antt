-- Examples of links and images.
use Rattle.std.specs.Prelude.{List, [], ◌∷◌, codes, encode_utf8_all}
use Rattle.tocmark_event.specs.declared.event.LinkType.TheVariants as kind
use Rattle.tocmark_commonmark.specs.InlineTree.{none, more, Text, Code, RawHtml, SoftBreak, Emphasis, Strong, Link, Image}
use Rattle.tocmark_commonmark.specs.Examples.{definition}
use Rattle.tocmark_commonmark.specs.InlineExamples.{InlineRow, inline_row}

-- an inline link
abbrev pub an_inline_link : InlineRow
an_inline_link = inline_row ([]) (codes "[a](/uri \"title\")") (more (Link kind.Inline (codes "/uri") (codes "title") [] (more (Text (codes "a")) none)) none)

-- a link without a title
abbrev pub a_link_without_a_title : InlineRow
a_link_without_a_title = inline_row ([]) (codes "[a](/uri)") (more (Link kind.Inline (codes "/uri") [] [] (more (Text (codes "a")) none)) none)

-- a link without text
abbrev pub a_link_without_text : InlineRow
a_link_without_text = inline_row ([]) (codes "[](./b.md)") (more (Link kind.Inline (codes "./b.md") [] [] none) none)

-- an empty destination
abbrev pub an_empty_destination : InlineRow
an_empty_destination = inline_row ([]) (codes "[a]()") (more (Link kind.Inline [] [] [] (more (Text (codes "a")) none)) none)

-- empty angle brackets
abbrev pub empty_angle_brackets : InlineRow
empty_angle_brackets = inline_row ([]) (codes "[a](<>)") (more (Link kind.Inline [] [] [] (more (Text (codes "a")) none)) none)

-- a space in a destination
abbrev pub a_space_in_a_destination : InlineRow
a_space_in_a_destination = inline_row ([]) (codes "[a](/my uri)") (more (Text (codes "[a](/my uri)")) none)

-- a space in angle brackets
abbrev pub a_space_in_angle_brackets : InlineRow
a_space_in_angle_brackets = inline_row ([]) (codes "[a](</my uri>)") (more (Link kind.Inline (codes "/my uri") [] [] (more (Text (codes "a")) none)) none)

-- a line ending in a destination
abbrev pub a_line_ending_in_a_destination : InlineRow
a_line_ending_in_a_destination = inline_row ([]) (codes "[a](b\nc)") (more (Text (codes "[a](b")) (more SoftBreak (more (Text (codes "c)")) none)))

-- a parenthesis in angle brackets
abbrev pub a_parenthesis_in_angle_brackets : InlineRow
a_parenthesis_in_angle_brackets = inline_row ([]) (codes "[a](<b)c>)") (more (Link kind.Inline (codes "b)c") [] [] (more (Text (codes "a")) none)) none)

-- an escaped angle bracket
abbrev pub an_escaped_angle_bracket : InlineRow
an_escaped_angle_bracket = inline_row ([]) (codes "[a](<b\\>)") (more (Text (codes "[a](<b>)")) none)

-- escaped parentheses
abbrev pub escaped_parentheses : InlineRow
escaped_parentheses = inline_row ([]) (codes "[a](\\(b\\))") (more (Link kind.Inline (codes "(b)") [] [] (more (Text (codes "a")) none)) none)

-- balanced parentheses
abbrev pub balanced_parentheses : InlineRow
balanced_parentheses = inline_row ([]) (codes "[a](b(and(c)))") (more (Link kind.Inline (codes "b(and(c))") [] [] (more (Text (codes "a")) none)) none)

-- unbalanced parentheses
abbrev pub unbalanced_parentheses : InlineRow
unbalanced_parentheses = inline_row ([]) (codes "[a](b(and(c))") (more (Text (codes "[a](b(and(c))")) none)

-- references in a destination
abbrev pub references_in_a_destination : InlineRow
references_in_a_destination = inline_row ([]) (codes "[a](b%20b&auml;\\*)") (more (Link kind.Inline (encode_utf8_all (codes "b%20bä*")) [] [] (more (Text (codes "a")) none)) none)

-- titles
abbrev pub titles : InlineRow
titles = inline_row ([]) (codes "[a](/u \"b\") [a](/u 'b') [a](/u (b))") (more (Link kind.Inline (codes "/u") (codes "b") [] (more (Text (codes "a")) none)) (more (Text (codes " ")) (more (Link kind.Inline (codes "/u") (codes "b") [] (more (Text (codes "a")) none)) (more (Text (codes " ")) (more (Link kind.Inline (codes "/u") (codes "b") [] (more (Text (codes "a")) none)) none)))))

-- escapes in a title
abbrev pub escapes_in_a_title : InlineRow
escapes_in_a_title = inline_row ([]) (codes "[a](/u \"b \\\"&quot;\")") (more (Link kind.Inline (codes "/u") (codes "b \"\"") [] (more (Text (codes "a")) none)) none)

-- a title in quotes
abbrev pub a_title_in_quotes : InlineRow
a_title_in_quotes = inline_row ([]) (codes "[a](/u 'b \"c\" d')") (more (Link kind.Inline (codes "/u") (codes "b \"c\" d") [] (more (Text (codes "a")) none)) none)

-- no title after a no-break space
abbrev pub no_title_after_a_no_break_space : InlineRow
no_title_after_a_no_break_space = inline_row ([]) (encode_utf8_all (codes "[a](/u\u{a0}\"b\")")) (more (Link kind.Inline (encode_utf8_all (codes "/u\u{a0}\"b\"")) [] [] (more (Text (codes "a")) none)) none)

-- white space around a title
abbrev pub white_space_around_a_title : InlineRow
white_space_around_a_title = inline_row ([]) (codes "[a](   /u\n  \"b\"  )") (more (Link kind.Inline (codes "/u") (codes "b") [] (more (Text (codes "a")) none)) none)

-- no link
abbrev pub no_link : InlineRow
no_link = inline_row ([]) (codes "[a] (/u)") (more (Text (codes "[a] (/u)")) none)

-- brackets in a link
abbrev pub brackets_in_a_link : InlineRow
brackets_in_a_link = inline_row ([]) (codes "[a [b [c]]](/u)") (more (Link kind.Inline (codes "/u") [] [] (more (Text (codes "a [b [c]]")) none)) none)

-- unbalanced brackets
abbrev pub unbalanced_brackets : InlineRow
unbalanced_brackets = inline_row ([]) (codes "[a] b](/u) [a [b](/u)") (more (Text (codes "[a] b](/u) [a ")) (more (Link kind.Inline (codes "/u") [] [] (more (Text (codes "b")) none)) none))

-- an escaped bracket
abbrev pub an_escaped_bracket : InlineRow
an_escaped_bracket = inline_row ([]) (codes "[a \\[b](/u)") (more (Link kind.Inline (codes "/u") [] [] (more (Text (codes "a [b")) none)) none)

-- inlines in a link
abbrev pub inlines_in_a_link : InlineRow
inlines_in_a_link = inline_row ([]) (codes "[a *b **c** `#`*](/u)") (more (Link kind.Inline (codes "/u") [] [] (more (Text (codes "a ")) (more (Emphasis (more (Text (codes "b ")) (more (Strong (more (Text (codes "c")) none)) (more (Text (codes " ")) (more (Code (codes "#")) none))))) none))) none)

-- an image in a link
abbrev pub an_image_in_a_link : InlineRow
an_image_in_a_link = inline_row ([]) (codes "[![a](b.jpg)](/u)") (more (Link kind.Inline (codes "/u") [] [] (more (Image kind.Inline (codes "b.jpg") [] [] (more (Text (codes "a")) none)) none)) none)

-- no link in a link
abbrev pub no_link_in_a_link : InlineRow
no_link_in_a_link = inline_row ([]) (codes "[a [b](/u)](/v)") (more (Text (codes "[a ")) (more (Link kind.Inline (codes "/u") [] [] (more (Text (codes "b")) none)) (more (Text (codes "](/v)")) none)))

-- no link in emphasis in a link
abbrev pub no_link_in_emphasis_in_a_link : InlineRow
no_link_in_emphasis_in_a_link = inline_row ([]) (codes "[a *[b [c](/u)](/v)*](/w)") (more (Text (codes "[a ")) (more (Emphasis (more (Text (codes "[b ")) (more (Link kind.Inline (codes "/u") [] [] (more (Text (codes "c")) none)) (more (Text (codes "](/v)")) none)))) (more (Text (codes "](/w)")) none)))

-- links in an image
abbrev pub links_in_an_image : InlineRow
links_in_an_image = inline_row ([]) (codes "![[[a](u1)](u2)](u3)") (more (Image kind.Inline (codes "u3") [] [] (more (Text (codes "[")) (more (Link kind.Inline (codes "u1") [] [] (more (Text (codes "a")) none)) (more (Text (codes "](u2)")) none)))) none)

-- a bracket before emphasis
abbrev pub a_bracket_before_emphasis : InlineRow
a_bracket_before_emphasis = inline_row ([]) (codes "*[a*](/u)") (more (Text (codes "*")) (more (Link kind.Inline (codes "/u") [] [] (more (Text (codes "a*")) none)) none))

-- code before a bracket
abbrev pub code_before_a_bracket : InlineRow
code_before_a_bracket = inline_row ([]) (codes "[a`](/u)`") (more (Text (codes "[a")) (more (Code (codes "](/u)")) none))

-- HTML before a bracket
abbrev pub html_before_a_bracket : InlineRow
html_before_a_bracket = inline_row ([]) (codes "[a <b c=\"](d)\">") (more (Text (codes "[a ")) (more (RawHtml (codes "<b c=\"](d)\">")) none))

-- an autolink before a bracket
abbrev pub an_autolink_before_a_bracket : InlineRow
an_autolink_before_a_bracket = inline_row ([]) (codes "[a<https://b.c/?d=](e)>") (more (Text (codes "[a")) (more (Link kind.Autolink (codes "https://b.c/?d=](e)") [] [] (more (Text (codes "https://b.c/?d=](e)")) none)) none))

-- a full reference
abbrev pub a_full_reference : InlineRow
a_full_reference = inline_row (definition (codes "foo") (codes "/url") (codes "title") ∷ []) (codes "[a][FOO]") (more (Link kind.Reference (codes "/url") (codes "title") (codes "FOO") (more (Text (codes "a")) none)) none)

-- a full reference without a definition
abbrev pub a_full_reference_without_a_definition : InlineRow
a_full_reference_without_a_definition = inline_row (definition (codes "foo") (codes "/url") (codes "title") ∷ []) (codes "[foo][b]") (more (Text (codes "[foo][b]")) none)

-- a reference in brackets
abbrev pub a_reference_in_brackets : InlineRow
a_reference_in_brackets = inline_row (definition (codes "foo") (codes "/url") (codes "title") ∷ []) (codes "[a [b] c][foo]") (more (Link kind.Reference (codes "/url") (codes "title") (codes "foo") (more (Text (codes "a [b] c")) none)) none)

-- no reference in a reference
abbrev pub no_reference_in_a_reference : InlineRow
no_reference_in_a_reference = inline_row (definition (codes "foo") (codes "/url") (codes "title") ∷ []) (codes "[a [b](/u)][foo]") (more (Text (codes "[a ")) (more (Link kind.Inline (codes "/u") [] [] (more (Text (codes "b")) none)) (more (Text (codes "]")) (more (Link kind.Shortcut (codes "/url") (codes "title") (codes "foo") (more (Text (codes "foo")) none)) none))))

-- a collapsed reference
abbrev pub a_collapsed_reference : InlineRow
a_collapsed_reference = inline_row (definition (codes "foo") (codes "/url") (codes "title") ∷ []) (codes "[Foo][]") (more (Link kind.Collapsed (codes "/url") (codes "title") (codes "Foo") (more (Text (codes "Foo")) none)) none)

-- a shortcut
abbrev pub a_shortcut : InlineRow
a_shortcut = inline_row (definition (codes "foo") (codes "/url") (codes "title") ∷ []) (codes "[foo]") (more (Link kind.Shortcut (codes "/url") (codes "title") (codes "foo") (more (Text (codes "foo")) none)) none)

-- a shortcut before text
abbrev pub a_shortcut_before_text : InlineRow
a_shortcut_before_text = inline_row (definition (codes "foo") (codes "/url") (codes "title") ∷ []) (codes "[foo] (b) [foo](c d)") (more (Link kind.Shortcut (codes "/url") (codes "title") (codes "foo") (more (Text (codes "foo")) none)) (more (Text (codes " (b) ")) (more (Link kind.Shortcut (codes "/url") (codes "title") (codes "foo") (more (Text (codes "foo")) none)) (more (Text (codes "(c d)")) none))))

-- white space in a label
abbrev pub white_space_in_a_label : InlineRow
white_space_in_a_label = inline_row (definition (codes "Foo bar") (codes "/u") [] ∷ []) (codes "[a][foo\n  bar]") (more (Link kind.Reference (codes "/u") [] (codes "foo\n  bar") (more (Text (codes "a")) none)) none)

-- the first definition
abbrev pub the_first_definition : InlineRow
the_first_definition = inline_row (definition (codes "foo") (codes "/first") [] ∷ definition (codes "FOO") (codes "/second") [] ∷ []) (codes "[foo]") (more (Link kind.Shortcut (codes "/first") [] (codes "foo") (more (Text (codes "foo")) none)) none)

-- case folding
abbrev pub case_folding : InlineRow
case_folding = inline_row (definition (codes "ss") (codes "/u") [] ∷ []) (encode_utf8_all (codes "[ẞ]")) (more (Link kind.Shortcut (codes "/u") [] (encode_utf8_all (codes "ẞ")) (more (Text (encode_utf8_all (codes "ẞ"))) none)) none)

-- no space between
abbrev pub no_space_between : InlineRow
no_space_between = inline_row (definition (codes "foo") (codes "/url") (codes "title") ∷ []) (codes "[a] [foo]") (more (Text (codes "[a] ")) (more (Link kind.Shortcut (codes "/url") (codes "title") (codes "foo") (more (Text (codes "foo")) none)) none))

-- brackets in a label
abbrev pub brackets_in_a_label : InlineRow
brackets_in_a_label = inline_row (definition (codes "foo!") (codes "/u") [] ∷ definition (codes "foo") (codes "/url") (codes "title") ∷ []) (codes "[a][b[c]] [foo\\!]") (more (Text (codes "[a][b[c]] [foo!]")) none)

-- an empty label
abbrev pub an_empty_label : InlineRow
an_empty_label = inline_row (definition (codes "foo") (codes "/url") (codes "title") ∷ []) (codes "[] [ ]") (more (Text (codes "[] [ ]")) none)

-- emphasis in a shortcut
abbrev pub emphasis_in_a_shortcut : InlineRow
emphasis_in_a_shortcut = inline_row (definition (codes "*foo* bar") (codes "/u") (codes "t") ∷ []) (codes "[*foo* bar]") (more (Link kind.Shortcut (codes "/u") (codes "t") (codes "*foo* bar") (more (Emphasis (more (Text (codes "foo")) none)) (more (Text (codes " bar")) none))) none)

-- a shortcut in brackets
abbrev pub a_shortcut_in_brackets : InlineRow
a_shortcut_in_brackets = inline_row (definition (codes "*foo* bar") (codes "/u") (codes "t") ∷ []) (codes "[[*foo* bar]]") (more (Text (codes "[")) (more (Link kind.Shortcut (codes "/u") (codes "t") (codes "*foo* bar") (more (Emphasis (more (Text (codes "foo")) none)) (more (Text (codes " bar")) none))) (more (Text (codes "]")) none)))

-- an inline link before a reference
abbrev pub an_inline_link_before_a_reference : InlineRow
an_inline_link_before_a_reference = inline_row (definition (codes "foo") (codes "/url") (codes "title") ∷ []) (codes "[foo](not a link)") (more (Link kind.Shortcut (codes "/url") (codes "title") (codes "foo") (more (Text (codes "foo")) none)) (more (Text (codes "(not a link)")) none))

-- two references
abbrev pub two_references : InlineRow
two_references = inline_row (definition (codes "baz") (codes "/u") [] ∷ []) (codes "[foo][bar][baz]") (more (Text (codes "[foo]")) (more (Link kind.Reference (codes "/u") [] (codes "baz") (more (Text (codes "bar")) none)) none))

-- two of three references
abbrev pub two_of_three_references : InlineRow
two_of_three_references = inline_row (definition (codes "baz") (codes "/u1") [] ∷ definition (codes "bar") (codes "/u2") [] ∷ []) (codes "[foo][bar][baz]") (more (Link kind.Reference (codes "/u2") [] (codes "bar") (more (Text (codes "foo")) none)) (more (Link kind.Shortcut (codes "/u1") [] (codes "baz") (more (Text (codes "baz")) none)) none))

-- a shortcut of three
abbrev pub a_shortcut_of_three : InlineRow
a_shortcut_of_three = inline_row (definition (codes "baz") (codes "/u1") [] ∷ definition (codes "foo") (codes "/u2") [] ∷ []) (codes "[foo][bar][baz]") (more (Text (codes "[foo]")) (more (Link kind.Reference (codes "/u1") [] (codes "baz") (more (Text (codes "bar")) none)) none))

-- an image
abbrev pub an_image : InlineRow
an_image = inline_row ([]) (codes "![a *b*](/u \"t\")") (more (Image kind.Inline (codes "/u") (codes "t") [] (more (Text (codes "a ")) (more (Emphasis (more (Text (codes "b")) none)) none))) none)

-- an image by a reference
abbrev pub an_image_by_a_reference : InlineRow
an_image_by_a_reference = inline_row (definition (codes "foo") (codes "/url") (codes "title") ∷ []) (codes "![foo] ![a][foo] ![foo][]") (more (Image kind.Shortcut (codes "/url") (codes "title") (codes "foo") (more (Text (codes "foo")) none)) (more (Text (codes " ")) (more (Image kind.Reference (codes "/url") (codes "title") (codes "foo") (more (Text (codes "a")) none)) (more (Text (codes " ")) (more (Image kind.Collapsed (codes "/url") (codes "title") (codes "foo") (more (Text (codes "foo")) none)) none)))))

-- an escaped exclamation mark
abbrev pub an_escaped_exclamation_mark : InlineRow
an_escaped_exclamation_mark = inline_row (definition (codes "foo") (codes "/url") (codes "title") ∷ []) (codes "\\![foo]") (more (Text (codes "!")) (more (Link kind.Shortcut (codes "/url") (codes "title") (codes "foo") (more (Text (codes "foo")) none)) none))

-- an exclamation mark before an escape
abbrev pub an_exclamation_mark_before_an_escape : InlineRow
an_exclamation_mark_before_an_escape = inline_row (definition (codes "foo") (codes "/url") (codes "title") ∷ []) (codes "!\\[foo]") (more (Text (codes "![foo]")) none)

-- an image in an image
abbrev pub an_image_in_an_image : InlineRow
an_image_in_an_image = inline_row ([]) (codes "![a ![b](/u)](/v)") (more (Image kind.Inline (codes "/v") [] [] (more (Text (codes "a ")) (more (Image kind.Inline (codes "/u") [] [] (more (Text (codes "b")) none)) none))) none)

-- an exclamation mark
abbrev pub an_exclamation_mark : InlineRow
an_exclamation_mark = inline_row ([]) (codes "a! !") (more (Text (codes "a! !")) none)

-- a destination with references in a definition
abbrev pub a_destination_with_references_in_a_definition : InlineRow
a_destination_with_references_in_a_definition = inline_row (definition (codes "foo") (codes "/b&amp;\\*") (codes "t\\'&quot;") ∷ []) (codes "[foo]") (more (Link kind.Shortcut (codes "/b&*") (codes "t'\"") (codes "foo") (more (Text (codes "foo")) none)) none)

-- all of these
abbrev pub links : List InlineRow
links = an_inline_link
    ∷ a_link_without_a_title
    ∷ a_link_without_text
    ∷ an_empty_destination
    ∷ empty_angle_brackets
    ∷ a_space_in_a_destination
    ∷ a_space_in_angle_brackets
    ∷ a_line_ending_in_a_destination
    ∷ a_parenthesis_in_angle_brackets
    ∷ an_escaped_angle_bracket
    ∷ escaped_parentheses
    ∷ balanced_parentheses
    ∷ unbalanced_parentheses
    ∷ references_in_a_destination
    ∷ titles
    ∷ escapes_in_a_title
    ∷ a_title_in_quotes
    ∷ no_title_after_a_no_break_space
    ∷ white_space_around_a_title
    ∷ no_link
    ∷ brackets_in_a_link
    ∷ unbalanced_brackets
    ∷ an_escaped_bracket
    ∷ inlines_in_a_link
    ∷ an_image_in_a_link
    ∷ no_link_in_a_link
    ∷ no_link_in_emphasis_in_a_link
    ∷ links_in_an_image
    ∷ a_bracket_before_emphasis
    ∷ code_before_a_bracket
    ∷ html_before_a_bracket
    ∷ an_autolink_before_a_bracket
    ∷ a_full_reference
    ∷ a_full_reference_without_a_definition
    ∷ a_reference_in_brackets
    ∷ no_reference_in_a_reference
    ∷ a_collapsed_reference
    ∷ a_shortcut
    ∷ a_shortcut_before_text
    ∷ white_space_in_a_label
    ∷ the_first_definition
    ∷ case_folding
    ∷ no_space_between
    ∷ brackets_in_a_label
    ∷ an_empty_label
    ∷ emphasis_in_a_shortcut
    ∷ a_shortcut_in_brackets
    ∷ an_inline_link_before_a_reference
    ∷ two_references
    ∷ two_of_three_references
    ∷ a_shortcut_of_three
    ∷ an_image
    ∷ an_image_by_a_reference
    ∷ an_escaped_exclamation_mark
    ∷ an_exclamation_mark_before_an_escape
    ∷ an_image_in_an_image
    ∷ an_exclamation_mark
    ∷ a_destination_with_references_in_a_definition ∷ []
