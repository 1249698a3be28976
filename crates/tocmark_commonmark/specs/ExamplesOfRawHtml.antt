-- Examples of autolinks and raw HTML.
use Rattle.std.specs.Prelude.{List, [], ◌∷◌, codes}
use Rattle.tocmark_event.specs.declared.event.LinkType.TheVariants as kind
use Rattle.tocmark_commonmark.specs.InlineTree.{none, more, Text, RawHtml, SoftBreak, Link}
use Rattle.tocmark_commonmark.specs.InlineExamples.{InlineRow, inline_row}

-- an autolink
abbrev pub an_autolink : InlineRow
an_autolink = inline_row ([]) (codes "<http://a.b/c?d=e&f;>") (more (Link kind.Autolink (codes "http://a.b/c?d=e&f;") [] [] (more (Text (codes "http://a.b/c?d=e&f;")) none)) none)

-- schemes
abbrev pub schemes : InlineRow
schemes = inline_row ([]) (codes "<MAILTO:A@B.C> <a+b+c:d> <made-up-scheme://foo,bar> <localhost:5001/foo>") (more (Link kind.Autolink (codes "MAILTO:A@B.C") [] [] (more (Text (codes "MAILTO:A@B.C")) none)) (more (Text (codes " ")) (more (Link kind.Autolink (codes "a+b+c:d") [] [] (more (Text (codes "a+b+c:d")) none)) (more (Text (codes " ")) (more (Link kind.Autolink (codes "made-up-scheme://foo,bar") [] [] (more (Text (codes "made-up-scheme://foo,bar")) none)) (more (Text (codes " ")) (more (Link kind.Autolink (codes "localhost:5001/foo") [] [] (more (Text (codes "localhost:5001/foo")) none)) none)))))))

-- spaces in an autolink
abbrev pub spaces_in_an_autolink : InlineRow
spaces_in_an_autolink = inline_row ([]) (codes "<https://a.b/c d>") (more (Text (codes "<https://a.b/c d>")) none)

-- a backslash in an autolink
abbrev pub a_backslash_in_an_autolink : InlineRow
a_backslash_in_an_autolink = inline_row ([]) (codes "<https://a.b/\\[\\>") (more (Link kind.Autolink (codes "https://a.b/\\[\\") [] [] (more (Text (codes "https://a.b/\\[\\")) none)) none)

-- mail addresses
abbrev pub mail_addresses : InlineRow
mail_addresses = inline_row ([]) (codes "<a@b.c> <foo+special@Bar.baz-bar0.com>") (more (Link kind.Email (codes "a@b.c") [] [] (more (Text (codes "a@b.c")) none)) (more (Text (codes " ")) (more (Link kind.Email (codes "foo+special@Bar.baz-bar0.com") [] [] (more (Text (codes "foo+special@Bar.baz-bar0.com")) none)) none)))

-- no mail addresses
abbrev pub no_mail_addresses : InlineRow
no_mail_addresses = inline_row ([]) (codes "<foo\\+@bar.example.com> <a@-b.c> <@b>") (more (Text (codes "<foo+@bar.example.com> <a@-b.c> <@b>")) none)

-- no autolinks
abbrev pub no_autolinks : InlineRow
no_autolinks = inline_row ([]) (codes "<> < https://a.b > <m:abc> <foo.bar.baz> https://a.b") (more (Text (codes "<> < https://a.b > <m:abc> <foo.bar.baz> https://a.b")) none)

-- open tags
abbrev pub open_tags : InlineRow
open_tags = inline_row ([]) (codes "<a><bab><c2c> <a/><b2/>") (more (RawHtml (codes "<a>")) (more (RawHtml (codes "<bab>")) (more (RawHtml (codes "<c2c>")) (more (Text (codes " ")) (more (RawHtml (codes "<a/>")) (more (RawHtml (codes "<b2/>")) none))))))

-- attributes
abbrev pub attributes : InlineRow
attributes = inline_row ([]) (codes "<a  /><b2\ndata=\"foo\" > <a foo=\"bar\" bam = 'baz <em>\"</em>'\n_boolean zoop:33=zoop:33 />") (more (RawHtml (codes "<a  />")) (more (RawHtml (codes "<b2\ndata=\"foo\" >")) (more (Text (codes " ")) (more (RawHtml (codes "<a foo=\"bar\" bam = 'baz <em>\"</em>'\n_boolean zoop:33=zoop:33 />")) none))))

-- no tags
abbrev pub no_tags : InlineRow
no_tags = inline_row ([]) (codes "<33> <__> <a h*#ref=\"hi\"> <a href=\"hi'> < a><\nfoo><bar/ > <a href='b'c=d>") (more (Text (codes "<33> <__> <a h*#ref=\"hi\"> <a href=\"hi'> < a><")) (more SoftBreak (more (Text (codes "foo><bar/ > <a href='b'c=d>")) none)))

-- closing tags
abbrev pub closing_tags : InlineRow
closing_tags = inline_row ([]) (codes "</a></foo > </a href=\"b\">") (more (RawHtml (codes "</a>")) (more (RawHtml (codes "</foo >")) (more (Text (codes " </a href=\"b\">")) none)))

-- comments
abbrev pub comments : InlineRow
comments = inline_row ([]) (codes "a <!-- b -\nc - d --> <!--> --> <!---> --> <!-- a -- b -->") (more (Text (codes "a ")) (more (RawHtml (codes "<!-- b -\nc - d -->")) (more (Text (codes " ")) (more (RawHtml (codes "<!-->")) (more (Text (codes " --> ")) (more (RawHtml (codes "<!--->")) (more (Text (codes " --> ")) (more (RawHtml (codes "<!-- a -- b -->")) none))))))))

-- an open comment
abbrev pub an_open_comment : InlineRow
an_open_comment = inline_row ([]) (codes "a <!-- b") (more (Text (codes "a <!-- b")) none)

-- instructions
abbrev pub instructions : InlineRow
instructions = inline_row ([]) (codes "a <?php echo $a; ?> <? b") (more (Text (codes "a ")) (more (RawHtml (codes "<?php echo $a; ?>")) (more (Text (codes " <? b")) none)))

-- declarations
abbrev pub declarations : InlineRow
declarations = inline_row ([]) (codes "a <!ELEMENT br EMPTY> <!a b") (more (Text (codes "a ")) (more (RawHtml (codes "<!ELEMENT br EMPTY>")) (more (Text (codes " <!a b")) none)))

-- CDATA sections
abbrev pub cdata_sections : InlineRow
cdata_sections = inline_row ([]) (codes "a <![CDATA[>&<]]> <![CDATA[ ]]") (more (Text (codes "a ")) (more (RawHtml (codes "<![CDATA[>&<]]>")) (more (Text (codes " <![CDATA[ ]]")) none)))

-- references in a tag
abbrev pub references_in_a_tag : InlineRow
references_in_a_tag = inline_row ([]) (codes "<a href=\"&ouml;\\*\">") (more (RawHtml (codes "<a href=\"&ouml;\\*\">")) none)

-- an angle bracket
abbrev pub an_angle_bracket : InlineRow
an_angle_bracket = inline_row ([]) (codes "a < b <") (more (Text (codes "a < b <")) none)

-- all of these
abbrev pub raw_html : List InlineRow
raw_html = an_autolink
    ∷ schemes
    ∷ spaces_in_an_autolink
    ∷ a_backslash_in_an_autolink
    ∷ mail_addresses
    ∷ no_mail_addresses
    ∷ no_autolinks
    ∷ open_tags
    ∷ attributes
    ∷ no_tags
    ∷ closing_tags
    ∷ comments
    ∷ an_open_comment
    ∷ instructions
    ∷ declarations
    ∷ cdata_sections
    ∷ references_in_a_tag
    ∷ an_angle_bracket ∷ []
