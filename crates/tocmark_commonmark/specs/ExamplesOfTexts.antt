-- Examples of escapes, references, code spans and line breaks.
use Rattle.std.specs.Prelude.{List, [], ◌∷◌, codes, encode_utf8_all}
use Rattle.tocmark_commonmark.specs.InlineTree.{none, more, Text, Code, SoftBreak, HardBreak, Emphasis}
use Rattle.tocmark_commonmark.specs.InlineExamples.{InlineRow, inline_row}

-- a word
abbrev pub a_word : InlineRow
a_word = inline_row ([]) (codes "a b") (more (Text (codes "a b")) none)

-- nothing
abbrev pub nothing : InlineRow
nothing = inline_row ([]) [] (none)

-- escapes
abbrev pub escapes : InlineRow
escapes = inline_row ([]) (codes "\\!\\\"\\#\\$\\%\\&\\'\\(\\)\\*\\+\\,\\-\\.\\/\\:\\;\\<\\=\\>\\?\\@\\[\\\\\\]\\^\\_\\`\\{\\|\\}\\~") (more (Text (codes "!\"#$%&'()*+,-./:;<=>?@[\\]^_`{|}~")) none)

-- backslashes before other bytes
abbrev pub backslashes_before_other_bytes : InlineRow
backslashes_before_other_bytes = inline_row ([]) (codes "\\\t\\A\\a\\ \\3") (more (Text (codes "\\\t\\A\\a\\ \\3")) none)

-- escaped constructs
abbrev pub escaped_constructs : InlineRow
escaped_constructs = inline_row ([]) (codes "\\*a* \\<br/> \\[b](c) \\`d` \\![e] \\&ouml;") (more (Text (codes "*a* <br/> [b](c) `d` ![e] &ouml;")) none)

-- an escaped backslash
abbrev pub an_escaped_backslash : InlineRow
an_escaped_backslash = inline_row ([]) (codes "\\\\*a*") (more (Text (codes "\\")) (more (Emphasis (more (Text (codes "a")) none)) none))

-- a backslash at the end
abbrev pub a_backslash_at_the_end : InlineRow
a_backslash_at_the_end = inline_row ([]) (codes "a\\") (more (Text (codes "a\\")) none)

-- a backslash in code
abbrev pub a_backslash_in_code : InlineRow
a_backslash_in_code = inline_row ([]) (codes "`\\[\\``") (more (Text (codes "`[``")) none)

-- references
abbrev pub references : InlineRow
references = inline_row ([]) (codes "&nbsp; &amp; &copy; &AElig;") (more (Text (encode_utf8_all (codes "\u{a0} & © Æ"))) none)

-- numeric references
abbrev pub numeric_references : InlineRow
numeric_references = inline_row ([]) (codes "&#35; &#1234; &#992; &#0;") (more (Text (encode_utf8_all (codes "# Ӓ Ϡ �"))) none)

-- hexadecimal references
abbrev pub hexadecimal_references : InlineRow
hexadecimal_references = inline_row ([]) (codes "&#X22; &#XD06; &#xcab;") (more (Text (encode_utf8_all (codes "\" ആ ಫ"))) none)

-- no references
abbrev pub no_references : InlineRow
no_references = inline_row ([]) (codes "&nbsp &x; &#; &#x; &#87654321; &#abcdef0; &hi?;") (more (Text (codes "&nbsp &x; &#; &#x; &#87654321; &#abcdef0; &hi?;")) none)

-- no delimiter by a reference
abbrev pub no_delimiter_by_a_reference : InlineRow
no_delimiter_by_a_reference = inline_row ([]) (codes "&#42;a&#42;") (more (Text (codes "*a*")) none)

-- a reference in code
abbrev pub a_reference_in_code : InlineRow
a_reference_in_code = inline_row ([]) (codes "`f&ouml;`") (more (Code (codes "f&ouml;")) none)

-- a code span
abbrev pub a_code_span : InlineRow
a_code_span = inline_row ([]) (codes "`a`") (more (Code (codes "a")) none)

-- backticks in a code span
abbrev pub backticks_in_a_code_span : InlineRow
backticks_in_a_code_span = inline_row ([]) (codes "`` a ` b ``") (more (Code (codes "a ` b")) none)

-- stripped spaces
abbrev pub stripped_spaces : InlineRow
stripped_spaces = inline_row ([]) (codes "`  ``  `") (more (Code (codes " `` ")) none)

-- a space on one side
abbrev pub a_space_on_one_side : InlineRow
a_space_on_one_side = inline_row ([]) (codes "` a`") (more (Code (codes " a")) none)

-- spaces alone
abbrev pub spaces_alone : InlineRow
spaces_alone = inline_row ([]) (codes "` ` `  `") (more (Code (codes " ")) (more (Text (codes " ")) (more (Code (codes "  ")) none)))

-- line endings in code
abbrev pub line_endings_in_code : InlineRow
line_endings_in_code = inline_row ([]) (codes "``\na\nb  \nc\n``") (more (Code (codes "a b   c")) none)

-- inner spaces
abbrev pub inner_spaces : InlineRow
inner_spaces = inline_row ([]) (codes "`a   b \nc`") (more (Code (codes "a   b  c")) none)

-- code before emphasis
abbrev pub code_before_emphasis : InlineRow
code_before_emphasis = inline_row ([]) (codes "*a`*`") (more (Text (codes "*a")) (more (Code (codes "*")) none))

-- code before a link
abbrev pub code_before_a_link : InlineRow
code_before_a_link = inline_row ([]) (codes "[not a `link](/a`)") (more (Text (codes "[not a ")) (more (Code (codes "link](/a")) (more (Text (codes ")")) none)))

-- code before an autolink
abbrev pub code_before_an_autolink : InlineRow
code_before_an_autolink = inline_row ([]) (codes "`<https://a.`b>`") (more (Code (codes "<https://a.")) (more (Text (codes "b>`")) none))

-- no code span
abbrev pub no_code_span : InlineRow
no_code_span = inline_row ([]) (codes "```a``") (more (Text (codes "```a``")) none)

-- a lone backtick
abbrev pub a_lone_backtick : InlineRow
a_lone_backtick = inline_row ([]) (codes "`a") (more (Text (codes "`a")) none)

-- a run of another length
abbrev pub a_run_of_another_length : InlineRow
a_run_of_another_length = inline_row ([]) (codes "`a``b``") (more (Text (codes "`a")) (more (Code (codes "b")) none))

-- a code span in the end
abbrev pub a_code_span_in_the_end : InlineRow
a_code_span_in_the_end = inline_row ([]) (codes "a ``` b") (more (Text (codes "a ``` b")) none)

-- a soft break
abbrev pub a_soft_break : InlineRow
a_soft_break = inline_row ([]) (codes "a\nb") (more (Text (codes "a")) (more SoftBreak (more (Text (codes "b")) none)))

-- a hard break
abbrev pub a_hard_break : InlineRow
a_hard_break = inline_row ([]) (codes "a  \nb") (more (Text (codes "a")) (more HardBreak (more (Text (codes "b")) none)))

-- a hard break by a backslash
abbrev pub a_hard_break_by_a_backslash : InlineRow
a_hard_break_by_a_backslash = inline_row ([]) (codes "a\\\nb") (more (Text (codes "a")) (more HardBreak (more (Text (codes "b")) none)))

-- one space before a break
abbrev pub one_space_before_a_break : InlineRow
one_space_before_a_break = inline_row ([]) (codes "a \nb") (more (Text (codes "a")) (more SoftBreak (more (Text (codes "b")) none)))

-- a hard break in emphasis
abbrev pub a_hard_break_in_emphasis : InlineRow
a_hard_break_in_emphasis = inline_row ([]) (codes "*a  \nb*") (more (Emphasis (more (Text (codes "a")) (more HardBreak (more (Text (codes "b")) none)))) none)

-- no break in code
abbrev pub no_break_in_code : InlineRow
no_break_in_code = inline_row ([]) (codes "`a  \nb`") (more (Code (codes "a   b")) none)

-- spaces within
abbrev pub spaces_within : InlineRow
spaces_within = inline_row ([]) (codes "a   b") (more (Text (codes "a   b")) none)

-- more spaces before a break
abbrev pub more_spaces_before_a_break : InlineRow
more_spaces_before_a_break = inline_row ([]) (codes "a       \nb") (more (Text (codes "a")) (more HardBreak (more (Text (codes "b")) none)))

-- all of these
abbrev pub texts : List InlineRow
texts = a_word
    ∷ nothing
    ∷ escapes
    ∷ backslashes_before_other_bytes
    ∷ escaped_constructs
    ∷ an_escaped_backslash
    ∷ a_backslash_at_the_end
    ∷ a_backslash_in_code
    ∷ references
    ∷ numeric_references
    ∷ hexadecimal_references
    ∷ no_references
    ∷ no_delimiter_by_a_reference
    ∷ a_reference_in_code
    ∷ a_code_span
    ∷ backticks_in_a_code_span
    ∷ stripped_spaces
    ∷ a_space_on_one_side
    ∷ spaces_alone
    ∷ line_endings_in_code
    ∷ inner_spaces
    ∷ code_before_emphasis
    ∷ code_before_a_link
    ∷ code_before_an_autolink
    ∷ no_code_span
    ∷ a_lone_backtick
    ∷ a_run_of_another_length
    ∷ a_code_span_in_the_end
    ∷ a_soft_break
    ∷ a_hard_break
    ∷ a_hard_break_by_a_backslash
    ∷ one_space_before_a_break
    ∷ a_hard_break_in_emphasis
    ∷ no_break_in_code
    ∷ spaces_within
    ∷ more_spaces_before_a_break ∷ []
