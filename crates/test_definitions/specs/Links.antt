-- Links, labels and texts from the source, as they are written.
use Rattle.std.specs.Prelude.{[], ◌∷◌, List, codes, false, None}
use Rattle.tocmark_event.specs.Forest.{empty, node}
use Rattle.tocmark_event.specs.Options.{default_options}
use Rattle.tocmark_event.specs.View.{Fenced, Paragraph, CodeBlock, ListOf, Item, Link, Image, Text, Start, End, Leaf}
use Rattle.test_definitions.specs.Script.{wrote, text, text_from, setting, reading_of, Row}
use Rattle.tocmark_event.specs.declared.event.LinkType.TheVariants as link
use Rattle.tocmark_event.specs.declared.event.TagEnd.TheVariants as end

-- texts are taken from the source where that is read back
abbrev pub source_taken : Row
source_taken = record {
  setting = setting default_options 0
      ((
        0,
        (codes "a < b &amp; c"),
        reading_of
            (Start Paragraph
            ∷ Leaf (Text (codes "a < b "))
            ∷ Leaf (Text (codes "&"))
            ∷ Leaf (Text (codes " c"))
            ∷ End end.Paragraph
            ∷ [])
            []
            [],
      )
      ∷ []);
  trees = node Paragraph
      (text_from (codes "a < b ") (codes "a < b ")
      (text_from (codes "&amp;") (codes "&") (text_from (codes " c") (codes " c") empty)))
      empty;
  written = wrote ((codes "a < b &amp; c") ∷ []);
}

-- the source of a text takes in the backslash before it
abbrev pub source_with_backslash : Row
source_with_backslash = record {
  setting = setting default_options 0
      ((
        0,
        (codes "a\\*b"),
        reading_of
            (Start Paragraph ∷ Leaf (Text (codes "a")) ∷ Leaf (Text (codes "*b")) ∷ End end.Paragraph ∷ [])
            []
            [],
      )
      ∷ []);
  trees = node Paragraph (text_from (codes "a") (codes "a") (text_from (codes "\\*b") (codes "*b") empty)) empty;
  written = wrote ((codes "a\\*b") ∷ []);
}

-- an item with one paragraph gets the reserved label
abbrev pub paragraph_alone_in_item : Row
paragraph_alone_in_item = record {
  setting = setting default_options 0
      ((
        0,
        (codes "* [cmark-loose-1]: <>\n  \n  a"),
        reading_of
            (Start (ListOf None)
            ∷ Start Item
            ∷ Start Paragraph
            ∷ Leaf (Text (codes "a"))
            ∷ End end.Paragraph
            ∷ End end.Item
            ∷ End (end.List false)
            ∷ [])
            ((codes "cmark-loose-1") ∷ [])
            [],
      )
      ∷ []);
  trees = node (ListOf None) (node Item (node Paragraph (text (codes "a") empty) empty) empty) empty;
  written = wrote ((codes "* [cmark-loose-1]: <>\n  \n  a") ∷ []);
}

-- a list that waits for its label is written at the end
abbrev pub list_waits : Row
list_waits = record {
  setting = setting default_options 0
      ((
        0,
        (codes "* [cmark-loose-1]: <>\n  \n  a"),
        reading_of
            (Start (ListOf None)
            ∷ Start Item
            ∷ Start Paragraph
            ∷ Leaf (Text (codes "a"))
            ∷ End end.Paragraph
            ∷ End end.Item
            ∷ End (end.List false)
            ∷ [])
            ((codes "cmark-loose-1") ∷ [])
            [],
      )
      ∷ []);
  trees = node (ListOf None) (node Item (node Paragraph (text (codes "a") empty) empty) empty) empty;
  written = wrote ((codes "* [cmark-loose-1]: <>\n  \n  a") ∷ []);
}

-- a source that an earlier label would change is not taken
abbrev pub label_of_earlier_unit : Row
label_of_earlier_unit = record {
  setting = setting default_options 0
      ((0, (codes "\n\n[a]: /u"), reading_of [] ((codes "a") ∷ []) [])
      ∷ (
        0,
        (codes "[t][a]"),
        reading_of (Start Paragraph ∷ Leaf (Text (codes "[t][a]")) ∷ End end.Paragraph ∷ []) [] ((codes "a") ∷ []),
      )
      ∷ (
        0,
        (codes "\n\n[a]"),
        reading_of (Start Paragraph ∷ Leaf (Text (codes "[a]")) ∷ End end.Paragraph ∷ []) [] ((codes "a") ∷ []),
      )
      ∷ (
        0,
        (codes "\n\n\\[a\\]"),
        reading_of
            (Start Paragraph ∷ Leaf (Text (codes "[a")) ∷ Leaf (Text (codes "]")) ∷ End end.Paragraph ∷ [])
            []
            [],
      )
      ∷ []);
  trees = node Paragraph
      (node (Link link.Reference (codes "/u") [] (codes "a")) (text (codes "t") empty) empty)
      (node Paragraph (text_from (codes "[a]") (codes "[a]") empty) empty);
  written = wrote ((codes "[t][a]") ∷ (codes "\n\n\\[a\\]") ∷ (codes "\n\n[a]: /u") ∷ []);
}

-- definitions are before a last block of raw text
abbrev pub definitions_before_code : Row
definitions_before_code = record {
  setting = setting default_options 0
      ((0, (codes "\n\n[a]: /u"), reading_of [] ((codes "a") ∷ []) [])
      ∷ (
        0,
        (codes "[t][a]"),
        reading_of (Start Paragraph ∷ Leaf (Text (codes "[t][a]")) ∷ End end.Paragraph ∷ []) [] ((codes "a") ∷ []),
      )
      ∷ []);
  trees = node Paragraph
      (node (Link link.Reference (codes "/u") [] (codes "a")) (text (codes "t") empty) empty)
      (node (CodeBlock (Fenced [])) (text (codes "x\n") empty) empty);
  written = wrote ((codes "[t][a]") ∷ (codes "\n\n[a]: /u\n\n````\nx\n````") ∷ []);
}

-- an inline link with a title
abbrev pub inline_link : Row
inline_link = record {
  setting = setting default_options 0
      ((
        0,
        (codes "[t](<a b> \"x\\\"y\")"),
        reading_of
            (Start Paragraph
            ∷ Start (Link link.Inline (codes "a b") (codes "x\"y") [])
            ∷ Leaf (Text (codes "t"))
            ∷ End end.Link
            ∷ End end.Paragraph
            ∷ [])
            []
            [],
      )
      ∷ []);
  trees = node Paragraph
      (node (Link link.Inline (codes "a b") (codes "x\"y") []) (text (codes "t") empty) empty)
      empty;
  written = wrote ((codes "[t](<a b> \"x\\\"y\")") ∷ []);
}

-- a destination with a control character is in brackets
abbrev pub tab_in_destination : Row
tab_in_destination = record {
  setting = setting default_options 0
      ((
        0,
        (codes "[t](<a\tb>)"),
        reading_of
            (Start Paragraph
            ∷ Start (Link link.Inline (codes "a\tb") [] [])
            ∷ Leaf (Text (codes "t"))
            ∷ End end.Link
            ∷ End end.Paragraph
            ∷ [])
            []
            [],
      )
      ∷ []);
  trees = node Paragraph (node (Link link.Inline (codes "a\tb") [] []) (text (codes "t") empty) empty) empty;
  written = wrote ((codes "[t](<a\tb>)") ∷ []);
}

-- an id that spells the body
abbrev pub body_by_id : Row
body_by_id = record {
  setting = setting default_options 0
      ((
        0,
        (codes "[a](cmark-label)"),
        reading_of
            (Start Paragraph
            ∷ Start (Link link.Inline (codes "cmark-label") [] [])
            ∷ Leaf (Text (codes "a"))
            ∷ End end.Link
            ∷ End end.Paragraph
            ∷ [])
            []
            [],
      )
      ∷ (0, (codes "\n\n[a]: /u"), reading_of [] ((codes "a") ∷ []) [])
      ∷ (
        0,
        (codes "[a][]"),
        reading_of (Start Paragraph ∷ Leaf (Text (codes "[a][]")) ∷ End end.Paragraph ∷ []) [] ((codes "a") ∷ []),
      )
      ∷ []);
  trees = node Paragraph (node (Link link.Collapsed (codes "/u") [] (codes "a")) (text (codes "a") empty) empty) empty;
  written = wrote ((codes "[a][]") ∷ (codes "\n\n[a]: /u") ∷ []);
}

-- an id that does not spell the body
abbrev pub body_not_by_id : Row
body_not_by_id = record {
  setting = setting default_options 0
      ((
        0,
        (codes "[a](cmark-label)"),
        reading_of
            (Start Paragraph
            ∷ Start (Link link.Inline (codes "cmark-label") [] [])
            ∷ Leaf (Text (codes "a"))
            ∷ End end.Link
            ∷ End end.Paragraph
            ∷ [])
            []
            [],
      )
      ∷ (0, (codes "\n\n[a]: /u"), reading_of [] ((codes "a") ∷ []) [])
      ∷ (
        0,
        (codes "[b][a]"),
        reading_of (Start Paragraph ∷ Leaf (Text (codes "[b][a]")) ∷ End end.Paragraph ∷ []) [] ((codes "a") ∷ []),
      )
      ∷ []);
  trees = node Paragraph (node (Link link.Collapsed (codes "/u") [] (codes "a")) (text (codes "b") empty) empty) empty;
  written = wrote ((codes "[b][a]") ∷ (codes "\n\n[a]: /u") ∷ []);
}

-- a label in use, in another case, is not reserved
abbrev pub label_in_use : Row
label_in_use = record {
  setting = setting default_options 0
      ((0, (codes "\n\n[CMARK-LOOSE-1]: /u"), reading_of [] ((codes "CMARK-LOOSE-1") ∷ []) [])
      ∷ (
        0,
        (codes "[t][CMARK-LOOSE-1]"),
        reading_of
            (Start Paragraph ∷ Leaf (Text (codes "[t][CMARK-LOOSE-1]")) ∷ End end.Paragraph ∷ [])
            []
            ((codes "CMARK-LOOSE-1") ∷ []),
      )
      ∷ (
        0,
        (codes "\n\n* [cmark-loose-2]: <>\n  \n  a"),
        reading_of
            (Start (ListOf None)
            ∷ Start Item
            ∷ Start Paragraph
            ∷ Leaf (Text (codes "a"))
            ∷ End end.Paragraph
            ∷ End end.Item
            ∷ End (end.List false)
            ∷ [])
            ((codes "cmark-loose-2") ∷ [])
            [],
      )
      ∷ []);
  trees = node Paragraph
      (node (Link link.Reference (codes "/u") [] (codes "CMARK-LOOSE-1")) (text (codes "t") empty) empty)
      (node (ListOf None) (node Item (node Paragraph (text (codes "a") empty) empty) empty) empty);
  written = wrote
      ((codes "[t][CMARK-LOOSE-1]")
      ∷ (codes "\n\n* [cmark-loose-2]: <>\n  \n  a")
      ∷ (codes "\n\n[CMARK-LOOSE-1]: /u")
      ∷ []);
}

-- an autolink
abbrev pub autolink : Row
autolink = record {
  setting = setting default_options 0 [];
  trees = node Paragraph
      (node (Link link.Autolink (codes "http://a.b") [] []) (text (codes "http://a.b") empty) empty)
      empty;
  written = wrote ((codes "<http://a.b>") ∷ []);
}

-- an image
abbrev pub image : Row
image = record {
  setting = setting default_options 0
      ((
        0,
        (codes "![t](/i)"),
        reading_of
            (Start Paragraph
            ∷ Start (Image link.Inline (codes "/i") [] [])
            ∷ Leaf (Text (codes "t"))
            ∷ End end.Image
            ∷ End end.Paragraph
            ∷ [])
            []
            [],
      )
      ∷ []);
  trees = node Paragraph (node (Image link.Inline (codes "/i") [] []) (text (codes "t") empty) empty) empty;
  written = wrote ((codes "![t](/i)") ∷ []);
}

-- an empty id: the label is the text of the body
abbrev pub empty_id : Row
empty_id = record {
  setting = setting default_options 0
      ((
        0,
        (codes "[](cmark-label)"),
        reading_of
            (Start Paragraph
            ∷ Start (Link link.Inline (codes "cmark-label") [] [])
            ∷ End end.Link
            ∷ End end.Paragraph
            ∷ [])
            []
            [],
      )
      ∷ (0, (codes "\n\n[a]: /u"), reading_of [] ((codes "a") ∷ []) [])
      ∷ (
        0,
        (codes "[a][]"),
        reading_of (Start Paragraph ∷ Leaf (Text (codes "[a][]")) ∷ End end.Paragraph ∷ []) [] ((codes "a") ∷ []),
      )
      ∷ []);
  trees = node Paragraph (node (Link link.Collapsed (codes "/u") [] []) (text (codes "a") empty) empty) empty;
  written = wrote ((codes "[a][]") ∷ (codes "\n\n[a]: /u") ∷ []);
}

-- equal definitions are written once
abbrev pub one_definition_for_two_links : Row
one_definition_for_two_links = record {
  setting = setting default_options 0
      ((0, (codes "\n\n[a]: /u"), reading_of [] ((codes "a") ∷ []) [])
      ∷ (
        0,
        (codes "[x][a] [y][a]"),
        reading_of
            (Start Paragraph ∷ Leaf (Text (codes "[x][a] [y][a]")) ∷ End end.Paragraph ∷ [])
            []
            ((codes "a") ∷ []),
      )
      ∷ []);
  trees = node Paragraph
      (node (Link link.Reference (codes "/u") [] (codes "a"))
      (text (codes "x") empty)
      (text (codes " ") (node (Link link.Reference (codes "/u") [] (codes "a")) (text (codes "y") empty) empty)))
      empty;
  written = wrote ((codes "[x][a] [y][a]") ∷ (codes "\n\n[a]: /u") ∷ []);
}

-- definitions that differ are all written
abbrev pub two_definitions_of_a_label : Row
two_definitions_of_a_label = record {
  setting = setting default_options 0
      ((0, (codes "\n\n[a]: /u\n[a]: /v"), reading_of [] ((codes "a") ∷ []) [])
      ∷ (
        0,
        (codes "[x][a] [y][a]"),
        reading_of
            (Start Paragraph ∷ Leaf (Text (codes "[x][a] [y][a]")) ∷ End end.Paragraph ∷ [])
            []
            ((codes "a") ∷ []),
      )
      ∷ []);
  trees = node Paragraph
      (node (Link link.Reference (codes "/u") [] (codes "a"))
      (text (codes "x") empty)
      (text (codes " ") (node (Link link.Reference (codes "/v") [] (codes "a")) (text (codes "y") empty) empty)))
      empty;
  written = wrote ((codes "[x][a] [y][a]") ∷ (codes "\n\n[a]: /u\n[a]: /v") ∷ []);
}

-- an empty item in a list in a list gets the reserved label
abbrev pub empty_inner_item : Row
empty_inner_item = record {
  setting = setting default_options 0
      ((
        0,
        (codes "* a\n  * [cmark-loose-1]: <>"),
        reading_of
            (Start (ListOf None)
            ∷ Start Item
            ∷ Leaf (Text (codes "a"))
            ∷ Start (ListOf None)
            ∷ Start Item
            ∷ End end.Item
            ∷ End (end.List false)
            ∷ End end.Item
            ∷ End (end.List false)
            ∷ [])
            ((codes "cmark-loose-1") ∷ [])
            [],
      )
      ∷ []);
  trees = node (ListOf None)
      (node Item (text (codes "a") (node (ListOf None) (node Item empty empty) empty)) empty)
      empty;
  written = wrote ((codes "* a\n  * [cmark-loose-1]: <>") ∷ []);
}

-- what follows a list that waits is written with it
abbrev pub list_waits_for_all : Row
list_waits_for_all = record {
  setting = setting default_options 0
      ((
        0,
        (codes "* [cmark-loose-1]: <>\n  \n  a\n\nb"),
        reading_of
            (Start (ListOf None)
            ∷ Start Item
            ∷ Start Paragraph
            ∷ Leaf (Text (codes "a"))
            ∷ End end.Paragraph
            ∷ End end.Item
            ∷ End (end.List false)
            ∷ Start Paragraph
            ∷ Leaf (Text (codes "b"))
            ∷ End end.Paragraph
            ∷ [])
            ((codes "cmark-loose-1") ∷ [])
            [],
      )
      ∷ []);
  trees = node (ListOf None)
      (node Item (node Paragraph (text (codes "a") empty) empty) empty)
      (node Paragraph (text (codes "b") empty) empty);
  written = wrote ((codes "* [cmark-loose-1]: <>\n  \n  a\n\nb") ∷ []);
}

-- a source that is read otherwise is not taken
abbrev pub wrong_source : Row
wrong_source = record {
  setting = setting default_options 0
      ((0, (codes "a"), reading_of (Start Paragraph ∷ Leaf (Text (codes "a")) ∷ End end.Paragraph ∷ []) [] []) ∷ []);
  trees = node Paragraph (text_from (codes "a") (codes "x") empty) empty;
  written = wrote ((codes "x") ∷ []);
}

-- a character reference in the source
abbrev pub reference_in_source : Row
reference_in_source = record {
  setting = setting default_options 0
      ((0, (codes "&#38;"), reading_of (Start Paragraph ∷ Leaf (Text (codes "&")) ∷ End end.Paragraph ∷ []) [] []) ∷ []);
  trees = node Paragraph (text_from (codes "&#38;") (codes "&") empty) empty;
  written = wrote ((codes "&#38;") ∷ []);
}

-- a stretch is taken from the source as a whole or not at all
abbrev pub half_a_source : Row
half_a_source = record {
  setting = setting default_options 0
      ((
        0,
        (codes "&amp;c"),
        reading_of
            (Start Paragraph ∷ Leaf (Text (codes "&")) ∷ Leaf (Text (codes "c")) ∷ End end.Paragraph ∷ [])
            []
            [],
      )
      ∷ []);
  trees = node Paragraph (text_from (codes "&#38;") (codes "&") (text (codes "c") empty)) empty;
  written = wrote ((codes "&amp;c") ∷ []);
}

-- a backslash that is read as one is not taken
abbrev pub backslash_before_letter : Row
backslash_before_letter = record {
  setting = setting default_options 0
      ((0, (codes "\\a"), reading_of (Start Paragraph ∷ Leaf (Text (codes "\\a")) ∷ End end.Paragraph ∷ []) [] []) ∷ []);
  trees = node Paragraph (text_from (codes "\\a") (codes "a") empty) empty;
  written = wrote ((codes "a") ∷ []);
}

-- a reading with ranges gives the source again
abbrev pub round_trip_by_source : Row
round_trip_by_source = record {
  setting = setting default_options 0
      ((
        0,
        (codes "a < b &#38; c"),
        reading_of
            (Start Paragraph
            ∷ Leaf (Text (codes "a < b "))
            ∷ Leaf (Text (codes "&"))
            ∷ Leaf (Text (codes " c"))
            ∷ End end.Paragraph
            ∷ [])
            []
            [],
      )
      ∷ []);
  trees = node Paragraph
      (text_from (codes "a < b ") (codes "a < b ")
      (text_from (codes "&#38;") (codes "&") (text_from (codes " c") (codes " c") empty)))
      empty;
  written = wrote ((codes "a < b &#38; c") ∷ []);
}

-- a reading without ranges is escaped
abbrev pub round_trip_escaped : Row
round_trip_escaped = record {
  setting = setting default_options 0 [];
  trees = node Paragraph (text (codes "a < b ") (text (codes "&") (text (codes " c") empty))) empty;
  written = wrote ((codes "a \\< b &amp; c") ∷ []);
}

-- a reference that the reader does not know, from the source
abbrev pub unknown_reference_by_source : Row
unknown_reference_by_source = record {
  setting = setting default_options 0
      ((0, (codes "&copy;"), reading_of (Start Paragraph ∷ Leaf (Text (codes "&copy;")) ∷ End end.Paragraph ∷ []) [] [])
      ∷ []);
  trees = node Paragraph (text_from (codes "&copy;") (codes "&copy;") empty) empty;
  written = wrote ((codes "&copy;") ∷ []);
}

-- the same without ranges
abbrev pub unknown_reference_escaped : Row
unknown_reference_escaped = record {
  setting = setting default_options 0 [];
  trees = node Paragraph (text (codes "&copy;") empty) empty;
  written = wrote ((codes "&amp;copy;") ∷ []);
}

-- all of these
abbrev pub links : List Row
links = source_taken
    ∷ source_with_backslash
    ∷ paragraph_alone_in_item
    ∷ list_waits
    ∷ label_of_earlier_unit
    ∷ definitions_before_code
    ∷ inline_link
    ∷ tab_in_destination
    ∷ body_by_id
    ∷ body_not_by_id
    ∷ label_in_use
    ∷ autolink
    ∷ image
    ∷ empty_id
    ∷ one_definition_for_two_links
    ∷ two_definitions_of_a_label
    ∷ empty_inner_item
    ∷ list_waits_for_all
    ∷ wrong_source
    ∷ reference_in_source
    ∷ half_a_source
    ∷ backslash_before_letter
    ∷ round_trip_by_source
    ∷ round_trip_escaped
    ∷ unknown_reference_by_source
    ∷ unknown_reference_escaped
    ∷ []
