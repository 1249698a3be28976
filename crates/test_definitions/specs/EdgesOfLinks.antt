-- Links, also beside emphasis, images, labels and texts at the edges of the rules, as they are written.
use Rattle.std.specs.Prelude.{[], ◌∷◌, List, codes, false, Some, None}
use Rattle.tocmark_event.specs.Forest.{empty, node}
use Rattle.tocmark_event.specs.Options.{default_options}
use Rattle.tocmark_event.specs.View.{Paragraph, Heading, BlockQuote, ListOf, Item, Emphasis, Link, Image, Text, Code, SoftBreak, Start, End, Leaf}
use Rattle.tocmark_event.specs.declared.options.Error.TheVariants.{Unrepresentable}
use Rattle.test_definitions.specs.Script.{wrote, text, one, setting, reading_of, Row}
use Rattle.tocmark_event.specs.declared.event.HeadingLevel.TheVariants as level
use Rattle.tocmark_event.specs.declared.event.LinkType.TheVariants as link
use Rattle.tocmark_event.specs.declared.event.TagEnd.TheVariants as end

-- references: inner image closes first
abbrev pub references_inner_image_closes_first : Row
references_inner_image_closes_first = record {
  setting = setting default_options 0
      ((0, (codes "\n\n[x]: /v\n[y]: /u"), reading_of [] ((codes "x") ∷ (codes "y") ∷ []) [])
      ∷ (
        0,
        (codes "[![a][x]][y]"),
        reading_of
            (Start Paragraph ∷ Leaf (Text (codes "[![a][x]][y]")) ∷ End end.Paragraph ∷ [])
            []
            ((codes "x") ∷ (codes "y") ∷ []),
      )
      ∷ []);
  trees = node Paragraph
      (node (Link link.Reference (codes "/u") [] (codes "y"))
      (node (Image link.Reference (codes "/v") [] (codes "x")) (text (codes "a") empty) empty)
      empty)
      empty;
  written = wrote ((codes "[![a][x]][y]") ∷ (codes "\n\n[x]: /v\n[y]: /u") ∷ []);
}

-- image of type Autolink: body escaped
abbrev pub image_of_type_autolink_body_escaped : Row
image_of_type_autolink_body_escaped = record {
  setting = setting default_options 0
      ((
        0,
        (codes "![a\\*b>"),
        reading_of
            (Start Paragraph ∷ Leaf (Text (codes "![a")) ∷ Leaf (Text (codes "*b>")) ∷ End end.Paragraph ∷ [])
            []
            [],
      )
      ∷ []);
  trees = node Paragraph
      (node (Image link.Autolink (codes "http://a.b") [] []) (text (codes "a*b") empty) empty)
      empty;
  written = wrote ((codes "![a\\*b>") ∷ []);
}

-- code inside Autolink
abbrev pub code_inside_autolink : Row
code_inside_autolink = record {
  setting = setting default_options 0 [];
  trees = node Paragraph
      (node (Link link.Autolink (codes "x") [] []) (one (Code (codes "a`")) (text (codes "b*") empty)) empty)
      empty;
  written = wrote ((codes "<`` a` ``b*>") ∷ []);
}

-- empty destination with a title, inline
abbrev pub empty_destination_with_a_title_inline : Row
empty_destination_with_a_title_inline = record {
  setting = setting default_options 0
      ((
        0,
        (codes "[x]( \"t\")"),
        reading_of
            (Start Paragraph
            ∷ Start (Link link.Inline (codes "\"t\"") [] [])
            ∷ Leaf (Text (codes "x"))
            ∷ End end.Link
            ∷ End end.Paragraph
            ∷ [])
            []
            [],
      )
      ∷ []);
  trees = node Paragraph (node (Link link.Inline [] (codes "t") []) (text (codes "x") empty) empty) empty;
  written = wrote ((codes "[x]( \"t\")") ∷ []);
}

-- title ends with a backslash
abbrev pub title_ends_with_a_backslash : Row
title_ends_with_a_backslash = record {
  setting = setting default_options 0
      ((
        0,
        (codes "[x](/u \"a\\\\\")"),
        reading_of
            (Start Paragraph
            ∷ Start (Link link.Inline (codes "/u") (codes "a\\") [])
            ∷ Leaf (Text (codes "x"))
            ∷ End end.Link
            ∷ End end.Paragraph
            ∷ [])
            []
            [],
      )
      ∷ []);
  trees = node Paragraph (node (Link link.Inline (codes "/u") (codes "a\\") []) (text (codes "x") empty) empty) empty;
  written = wrote ((codes "[x](/u \"a\\\\\")") ∷ []);
}

-- heading with a break inside a link by id
abbrev pub heading_with_a_break_inside_a_link_by_id : Row
heading_with_a_break_inside_a_link_by_id = record {
  setting = setting default_options 0
      ((
        0,
        (codes "[a](cmark-label)"),
        reading_of
            (Start Paragraph
            ∷ Start (Link link.Inline (codes "cmark-label") [] [])
            ∷ Leaf (Text (codes "a"))
            ∷ End end.Link
            ∷ End end.Paragraph
            ∷ [])
            []
            [],
      )
      ∷ (0, (codes "\n\n[a]: /u"), reading_of [] ((codes "a") ∷ []) [])
      ∷ (
        0,
        (codes "[a\nb][a]\n---"),
        reading_of
            (Start (Heading level.H2 None [] [])
            ∷ Leaf (Text (codes "[a"))
            ∷ Leaf SoftBreak
            ∷ Leaf (Text (codes "b][a]"))
            ∷ End (end.Heading level.H2)
            ∷ [])
            []
            ((codes "a") ∷ []),
      )
      ∷ []);
  trees = node (Heading level.H2 None [] [])
      (node (Link link.Shortcut (codes "/u") [] (codes "a"))
      (text (codes "a") (one SoftBreak (text (codes "b") empty)))
      empty)
      empty;
  written = wrote ((codes "[a\nb][a]\n---") ∷ (codes "\n\n[a]: /u") ∷ []);
}

-- collapsed over lines in a quote: label keeps prefixes
abbrev pub collapsed_over_lines_in_a_quote_label_keeps_prefixes : Row
collapsed_over_lines_in_a_quote_label_keeps_prefixes = record {
  setting = setting default_options 0
      ((
        0,
        (codes "[](cmark-label)"),
        reading_of
            (Start Paragraph
            ∷ Start (Link link.Inline (codes "cmark-label") [] [])
            ∷ End end.Link
            ∷ End end.Paragraph
            ∷ [])
            []
            [],
      )
      ∷ (
        0,
        (codes "\n\n[a\n > b]: /u"),
        reading_of
            (Start Paragraph
            ∷ Leaf (Text (codes "[a"))
            ∷ End end.Paragraph
            ∷ Start (BlockQuote None)
            ∷ Start Paragraph
            ∷ Leaf (Text (codes "b]: /u"))
            ∷ End end.Paragraph
            ∷ End (end.BlockQuote None)
            ∷ [])
            []
            [],
      )
      ∷ (
        0,
        (codes "\n > \n > [a\n > b][]"),
        reading_of
            (Start (BlockQuote None)
            ∷ Start Paragraph
            ∷ Leaf (Text (codes "[a"))
            ∷ Leaf SoftBreak
            ∷ Leaf (Text (codes "b][]"))
            ∷ End end.Paragraph
            ∷ End (end.BlockQuote None)
            ∷ [])
            []
            ((codes "a b") ∷ []),
      )
      ∷ []);
  trees = node (BlockQuote None)
      (node Paragraph
      (node (Link link.Collapsed (codes "/u") [] []) (text (codes "a") (one SoftBreak (text (codes "b") empty))) empty)
      empty)
      empty;
  written = wrote ((codes "\n > \n > [a\n > b][]") ∷ (codes "\n\n[a\n > b]: /u") ∷ []);
}

-- label with prefixes in a list item
abbrev pub label_with_prefixes_in_a_list_item : Row
label_with_prefixes_in_a_list_item = record {
  setting = setting default_options 0
      ((
        0,
        (codes "[](cmark-label)"),
        reading_of
            (Start Paragraph
            ∷ Start (Link link.Inline (codes "cmark-label") [] [])
            ∷ End end.Link
            ∷ End end.Paragraph
            ∷ [])
            []
            [],
      )
      ∷ (0, (codes "\n\n[a\n  b]: /u"), reading_of [] ((codes "a b") ∷ []) [])
      ∷ (
        0,
        (codes "* [a\n  b]"),
        reading_of
            (Start (ListOf None)
            ∷ Start Item
            ∷ Leaf (Text (codes "[a"))
            ∷ Leaf SoftBreak
            ∷ Leaf (Text (codes "b]"))
            ∷ End end.Item
            ∷ End (end.List false)
            ∷ [])
            []
            ((codes "a b") ∷ []),
      )
      ∷ []);
  trees = node (ListOf None)
      (node Item
      (node (Link link.Shortcut (codes "/u") [] []) (text (codes "a") (one SoftBreak (text (codes "b") empty))) empty)
      empty)
      empty;
  written = wrote ((codes "* [a\n  b]") ∷ (codes "\n\n[a\n  b]: /u") ∷ []);
}

-- unknown reference kinds
abbrev pub unknown_reference_kinds : Row
unknown_reference_kinds = record {
  setting = setting default_options 0
      ((
        0,
        (codes "[t](/u)"),
        reading_of
            (Start Paragraph
            ∷ Start (Link link.Inline (codes "/u") [] [])
            ∷ Leaf (Text (codes "t"))
            ∷ End end.Link
            ∷ End end.Paragraph
            ∷ [])
            []
            [],
      )
      ∷ []);
  trees = node Paragraph
      (node (Link link.ReferenceUnknown (codes "/u") [] (codes "a")) (text (codes "t") empty) empty)
      empty;
  written = wrote ((codes "[t](/u)") ∷ []);
}

-- dot after digits of a stretch inside a line
abbrev pub dot_after_digits_of_a_stretch_inside_a_line : Row
dot_after_digits_of_a_stretch_inside_a_line = record {
  setting = setting default_options 0
      ((
        0,
        (codes "*x*1\\. a"),
        reading_of
            (Start Paragraph
            ∷ Start Emphasis
            ∷ Leaf (Text (codes "x"))
            ∷ End end.Emphasis
            ∷ Leaf (Text (codes "1"))
            ∷ Leaf (Text (codes ". a"))
            ∷ End end.Paragraph
            ∷ [])
            []
            [],
      )
      ∷ []);
  trees = node Paragraph (node Emphasis (text (codes "x") empty) (text (codes "1. a") empty)) empty;
  written = wrote ((codes "*x*1\\. a") ∷ []);
}

-- setext underline under a text first in the unit
abbrev pub setext_underline_under_a_text_first_in_the_unit : Row
setext_underline_under_a_text_first_in_the_unit = record {
  setting = setting default_options 0 [];
  trees = text (codes "===") empty;
  written = wrote ((codes "\\===") ∷ []);
}

-- colon with the definition flag
abbrev pub colon_with_the_definition_flag : Row
colon_with_the_definition_flag = record {
  setting = setting default_options 4096 [];
  trees = node Paragraph (text (codes ": a") empty) empty;
  written = wrote ((codes "\\: a") ∷ []);
}

-- exclamation before a link spelled by id
abbrev pub exclamation_before_a_link_spelled_by_id : Row
exclamation_before_a_link_spelled_by_id = record {
  setting = setting default_options 0
      ((
        0,
        (codes "[a](cmark-label)"),
        reading_of
            (Start Paragraph
            ∷ Start (Link link.Inline (codes "cmark-label") [] [])
            ∷ Leaf (Text (codes "a"))
            ∷ End end.Link
            ∷ End end.Paragraph
            ∷ [])
            []
            [],
      )
      ∷ (0, (codes "\n\n[a]: /u"), reading_of [] ((codes "a") ∷ []) [])
      ∷ (
        0,
        (codes "x\\![a]"),
        reading_of
            (Start Paragraph ∷ Leaf (Text (codes "x")) ∷ Leaf (Text (codes "![a]")) ∷ End end.Paragraph ∷ [])
            []
            ((codes "a") ∷ []),
      )
      ∷ []);
  trees = node Paragraph
      (text (codes "x!") (node (Link link.Shortcut (codes "/u") [] (codes "a")) (text (codes "a") empty) empty))
      empty;
  written = wrote ((codes "x\\![a]") ∷ (codes "\n\n[a]: /u") ∷ []);
}

-- exclamation before a unit border
abbrev pub exclamation_before_a_unit_border : Row
exclamation_before_a_unit_border = record {
  setting = setting default_options 0
      ((
        0,
        (codes "[a](cmark-label)"),
        reading_of
            (Start Paragraph
            ∷ Start (Link link.Inline (codes "cmark-label") [] [])
            ∷ Leaf (Text (codes "a"))
            ∷ End end.Link
            ∷ End end.Paragraph
            ∷ [])
            []
            [],
      )
      ∷ (0, (codes "\n\n[a]: /u"), reading_of [] ((codes "a") ∷ []) [])
      ∷ (
        0,
        (codes "[a]"),
        reading_of (Start Paragraph ∷ Leaf (Text (codes "[a]")) ∷ End end.Paragraph ∷ []) [] ((codes "a") ∷ []),
      )
      ∷ []);
  trees = text (codes "x!") (node (Link link.Shortcut (codes "/u") [] (codes "a")) (text (codes "a") empty) empty);
  written = wrote ((codes "x\\!") ∷ (codes "[a]") ∷ (codes "\n\n[a]: /u") ∷ []);
}

-- emphasis around a link by id
abbrev pub emphasis_around_a_link_by_id : Row
emphasis_around_a_link_by_id = record {
  setting = setting default_options 0
      ((
        0,
        (codes "[a](cmark-label)"),
        reading_of
            (Start Paragraph
            ∷ Start (Link link.Inline (codes "cmark-label") [] [])
            ∷ Leaf (Text (codes "a"))
            ∷ End end.Link
            ∷ End end.Paragraph
            ∷ [])
            []
            [],
      )
      ∷ (
        0,
        (codes "\n\n[a]: /u\n\n*[a]*b"),
        reading_of
            (Start Paragraph
            ∷ Leaf (Text (codes "*"))
            ∷ Start (Link link.Shortcut (codes "/u") [] (codes "a"))
            ∷ Leaf (Text (codes "a"))
            ∷ End end.Link
            ∷ Leaf (Text (codes "*b"))
            ∷ End end.Paragraph
            ∷ [])
            ((codes "a") ∷ [])
            [],
      )
      ∷ (
        0,
        (codes "\n\n[a]: /u\n\n*[a]*&#98;"),
        reading_of
            (Start Paragraph
            ∷ Start Emphasis
            ∷ Start (Link link.Shortcut (codes "/u") [] (codes "a"))
            ∷ Leaf (Text (codes "a"))
            ∷ End end.Link
            ∷ End end.Emphasis
            ∷ Leaf (Text (codes "b"))
            ∷ End end.Paragraph
            ∷ [])
            ((codes "a") ∷ [])
            [],
      )
      ∷ (0, (codes "\n\n[a]: /u"), reading_of [] ((codes "a") ∷ []) [])
      ∷ (
        0,
        (codes "*[a]*&#98;"),
        reading_of
            (Start Paragraph
            ∷ Start Emphasis
            ∷ Leaf (Text (codes "[a]"))
            ∷ End end.Emphasis
            ∷ Leaf (Text (codes "b"))
            ∷ End end.Paragraph
            ∷ [])
            []
            ((codes "a") ∷ []),
      )
      ∷ []);
  trees = node Paragraph
      (node Emphasis
      (node (Link link.Shortcut (codes "/u") [] (codes "a")) (text (codes "a") empty) empty)
      (text (codes "b") empty))
      empty;
  written = wrote ((codes "*[a]*&#98;") ∷ (codes "\n\n[a]: /u") ∷ []);
}

-- emphasis whose link body holds emphasis, by id
abbrev pub emphasis_whose_link_body_holds_emphasis_by_id : Row
emphasis_whose_link_body_holds_emphasis_by_id = record {
  setting = setting default_options 0
      ((
        0,
        (codes "[*a*](cmark-label)"),
        reading_of
            (Start Paragraph
            ∷ Start (Link link.Inline (codes "cmark-label") [] [])
            ∷ Start Emphasis
            ∷ Leaf (Text (codes "a"))
            ∷ End end.Emphasis
            ∷ End end.Link
            ∷ End end.Paragraph
            ∷ [])
            []
            [],
      )
      ∷ (
        0,
        (codes "\n\n[*a*]: /u\n\n*x[*a*]y*"),
        reading_of
            (Start Paragraph
            ∷ Start Emphasis
            ∷ Leaf (Text (codes "x"))
            ∷ Start (Link link.Shortcut (codes "/u") [] (codes "*a*"))
            ∷ Start Emphasis
            ∷ Leaf (Text (codes "a"))
            ∷ End end.Emphasis
            ∷ End end.Link
            ∷ Leaf (Text (codes "y"))
            ∷ End end.Emphasis
            ∷ End end.Paragraph
            ∷ [])
            ((codes "*a*") ∷ [])
            [],
      )
      ∷ (0, (codes "\n\n[*a*]: /u"), reading_of [] ((codes "*a*") ∷ []) [])
      ∷ (
        0,
        (codes "*x[*a*]y*"),
        reading_of
            (Start Paragraph
            ∷ Start Emphasis
            ∷ Leaf (Text (codes "x["))
            ∷ Start Emphasis
            ∷ Leaf (Text (codes "a"))
            ∷ End end.Emphasis
            ∷ Leaf (Text (codes "]y"))
            ∷ End end.Emphasis
            ∷ End end.Paragraph
            ∷ [])
            []
            ((codes "*a*") ∷ []),
      )
      ∷ []);
  trees = node Paragraph
      (node Emphasis
      (text (codes "x")
      (node
      (Link link.Shortcut (codes "/u") [] (codes "*a*"))
      (node Emphasis (text (codes "a") empty) empty)
      (text (codes "y") empty)))
      empty)
      empty;
  written = wrote ((codes "*x[*a*]y*") ∷ (codes "\n\n[*a*]: /u") ∷ []);
}

-- two delimiter units with the same label
abbrev pub two_delimiter_units_with_the_same_label : Row
two_delimiter_units_with_the_same_label = record {
  setting = setting default_options 0
      ((
        0,
        (codes "\n\n[a]: /u\n\n*[t][a]*"),
        reading_of
            (Start Paragraph
            ∷ Start Emphasis
            ∷ Start (Link link.Reference (codes "/u") [] (codes "a"))
            ∷ Leaf (Text (codes "t"))
            ∷ End end.Link
            ∷ End end.Emphasis
            ∷ End end.Paragraph
            ∷ [])
            ((codes "a") ∷ [])
            [],
      )
      ∷ (0, (codes "\n\n[a]: /u"), reading_of [] ((codes "a") ∷ []) [])
      ∷ (
        0,
        (codes "*[t][a]*"),
        reading_of
            (Start Paragraph
            ∷ Start Emphasis
            ∷ Leaf (Text (codes "[t][a]"))
            ∷ End end.Emphasis
            ∷ End end.Paragraph
            ∷ [])
            []
            ((codes "a") ∷ []),
      )
      ∷ (
        0,
        (codes "\n\n*b*\\[a\\]"),
        reading_of
            (Start Paragraph
            ∷ Start Emphasis
            ∷ Leaf (Text (codes "b"))
            ∷ End end.Emphasis
            ∷ Leaf (Text (codes "[a"))
            ∷ Leaf (Text (codes "]"))
            ∷ End end.Paragraph
            ∷ [])
            []
            [],
      )
      ∷ []);
  trees = node Paragraph
      (node Emphasis (node (Link link.Reference (codes "/u") [] (codes "a")) (text (codes "t") empty) empty) empty)
      (node Paragraph (node Emphasis (text (codes "b") empty) (text (codes "[a]") empty)) empty);
  written = wrote ((codes "*[t][a]*") ∷ (codes "\n\n*b*\\[a\\]") ∷ (codes "\n\n[a]: /u") ∷ []);
}

-- heading: break in the body of a link spelled by its id
abbrev pub heading_break_in_the_body_of_a_link_spelled_by_its_id : Row
heading_break_in_the_body_of_a_link_spelled_by_its_id = record {
  setting = setting default_options 0
      ((
        0,
        (codes "[a\nb](cmark-label)"),
        reading_of
            (Start Paragraph
            ∷ Start (Link link.Inline (codes "cmark-label") [] [])
            ∷ Leaf (Text (codes "a"))
            ∷ Leaf SoftBreak
            ∷ Leaf (Text (codes "b"))
            ∷ End end.Link
            ∷ End end.Paragraph
            ∷ [])
            []
            [],
      )
      ∷ (0, (codes "\n\n[a\nb]: /u"), reading_of [] ((codes "a b") ∷ []) [])
      ∷ (
        0,
        (codes "[a\nb]\n---"),
        reading_of
            (Start (Heading level.H2 None [] [])
            ∷ Leaf (Text (codes "[a"))
            ∷ Leaf SoftBreak
            ∷ Leaf (Text (codes "b]"))
            ∷ End (end.Heading level.H2)
            ∷ [])
            []
            ((codes "a b") ∷ []),
      )
      ∷ []);
  trees = node (Heading level.H2 None [] [])
      (node
      (Link link.Shortcut (codes "/u") [] (codes "a\nb"))
      (text (codes "a") (one SoftBreak (text (codes "b") empty)))
      empty)
      empty;
  written = wrote ((codes "[a\nb]\n---") ∷ (codes "\n\n[a\nb]: /u") ∷ []);
}

-- emphasis only in the body of a link spelled by its id
abbrev pub emphasis_only_in_the_body_of_a_link_spelled_by_its_id : Row
emphasis_only_in_the_body_of_a_link_spelled_by_its_id = record {
  setting = setting default_options 0
      ((
        0,
        (codes "[*a*](cmark-label)"),
        reading_of
            (Start Paragraph
            ∷ Start (Link link.Inline (codes "cmark-label") [] [])
            ∷ Start Emphasis
            ∷ Leaf (Text (codes "a"))
            ∷ End end.Emphasis
            ∷ End end.Link
            ∷ End end.Paragraph
            ∷ [])
            []
            [],
      )
      ∷ (
        0,
        (codes "\n\n[*a*]: /u\n\n[*a*]x "),
        reading_of
            (Start Paragraph
            ∷ Start (Link link.Shortcut (codes "/u") [] (codes "*a*"))
            ∷ Start Emphasis
            ∷ Leaf (Text (codes "a"))
            ∷ End end.Emphasis
            ∷ End end.Link
            ∷ Leaf (Text (codes "x"))
            ∷ End end.Paragraph
            ∷ [])
            ((codes "*a*") ∷ [])
            [],
      )
      ∷ []);
  trees = node Paragraph
      (node (Link link.Shortcut (codes "/u") [] (codes "*a*"))
      (node Emphasis (text (codes "a") empty) empty)
      (text (codes "x ") empty))
      empty;
  written = record { texts = []; error = Some Unrepresentable };
}

-- link without events
abbrev pub link_without_events : Row
link_without_events = record {
  setting = setting default_options 0
      ((
        0,
        (codes "[](/u)"),
        reading_of
            (Start Paragraph ∷ Start (Link link.Inline (codes "/u") [] []) ∷ End end.Link ∷ End end.Paragraph ∷ [])
            []
            [],
      )
      ∷ []);
  trees = node Paragraph (node (Link link.Inline (codes "/u") [] []) empty empty) empty;
  written = wrote ((codes "[](/u)") ∷ []);
}

-- shortcut with empty id and no body
abbrev pub shortcut_with_empty_id_and_no_body : Row
shortcut_with_empty_id_and_no_body = record {
  setting = setting default_options 0
      ((
        0,
        (codes "[](cmark-label)"),
        reading_of
            (Start Paragraph
            ∷ Start (Link link.Inline (codes "cmark-label") [] [])
            ∷ End end.Link
            ∷ End end.Paragraph
            ∷ [])
            []
            [],
      )
      ∷ (
        0,
        (codes "\n\n[]: /u"),
        reading_of (Start Paragraph ∷ Leaf (Text (codes "[]: /u")) ∷ End end.Paragraph ∷ []) [] [],
      )
      ∷ (0, (codes "[]"), reading_of (Start Paragraph ∷ Leaf (Text (codes "[]")) ∷ End end.Paragraph ∷ []) [] [])
      ∷ []);
  trees = node Paragraph (node (Link link.Shortcut (codes "/u") [] []) empty empty) empty;
  written = wrote ((codes "[]") ∷ (codes "\n\n[]: /u") ∷ []);
}

-- same definition twice in two units
abbrev pub same_definition_twice_in_two_units : Row
same_definition_twice_in_two_units = record {
  setting = setting default_options 0
      ((0, (codes "\n\n[a]: /u"), reading_of [] ((codes "a") ∷ []) [])
      ∷ (
        0,
        (codes "[t][a]"),
        reading_of (Start Paragraph ∷ Leaf (Text (codes "[t][a]")) ∷ End end.Paragraph ∷ []) [] ((codes "a") ∷ []),
      )
      ∷ (
        0,
        (codes "\n\n[t][a]"),
        reading_of (Start Paragraph ∷ Leaf (Text (codes "[t][a]")) ∷ End end.Paragraph ∷ []) [] ((codes "a") ∷ []),
      )
      ∷ []);
  trees = node Paragraph
      (node (Link link.Reference (codes "/u") [] (codes "a")) (text (codes "t") empty) empty)
      (node Paragraph (node (Link link.Reference (codes "/u") [] (codes "a")) (text (codes "t") empty) empty) empty);
  written = wrote ((codes "[t][a]") ∷ (codes "\n\n[t][a]") ∷ (codes "\n\n[a]: /u") ∷ []);
}

-- reference title and destination escaped in a definition
abbrev pub reference_title_and_destination_escaped_in_a_definition : Row
reference_title_and_destination_escaped_in_a_definition = record {
  setting = setting default_options 0
      ((0, (codes "\n\n[k]: <a b\\<> \"x\\\"y\\\\\""), reading_of [] ((codes "k") ∷ []) [])
      ∷ (
        0,
        (codes "[t][k]"),
        reading_of (Start Paragraph ∷ Leaf (Text (codes "[t][k]")) ∷ End end.Paragraph ∷ []) [] ((codes "k") ∷ []),
      )
      ∷ []);
  trees = node Paragraph
      (node (Link link.Reference (codes "a b<") (codes "x\"y\\") (codes "k")) (text (codes "t") empty) empty)
      empty;
  written = wrote ((codes "[t][k]") ∷ (codes "\n\n[k]: <a b\\<> \"x\\\"y\\\\\"") ∷ []);
}

-- autolink in an image text
abbrev pub autolink_in_an_image_text : Row
autolink_in_an_image_text = record {
  setting = setting default_options 0
      ((
        0,
        (codes "![<http://x.y>](/u)"),
        reading_of
            (Start Paragraph
            ∷ Start (Image link.Inline (codes "/u") [] [])
            ∷ Start (Link link.Autolink (codes "http://x.y") [] [])
            ∷ Leaf (Text (codes "http://x.y"))
            ∷ End end.Link
            ∷ End end.Image
            ∷ End end.Paragraph
            ∷ [])
            []
            [],
      )
      ∷ []);
  trees = node Paragraph
      (node (Image link.Inline (codes "/u") [] [])
      (node (Link link.Autolink (codes "http://x.y") [] []) (text (codes "http://x.y") empty) empty)
      empty)
      empty;
  written = wrote ((codes "![<http://x.y>](/u)") ∷ []);
}

-- all of these
abbrev pub edges_of_links : List Row
edges_of_links = references_inner_image_closes_first
    ∷ image_of_type_autolink_body_escaped
    ∷ code_inside_autolink
    ∷ empty_destination_with_a_title_inline
    ∷ title_ends_with_a_backslash
    ∷ heading_with_a_break_inside_a_link_by_id
    ∷ collapsed_over_lines_in_a_quote_label_keeps_prefixes
    ∷ label_with_prefixes_in_a_list_item
    ∷ unknown_reference_kinds
    ∷ dot_after_digits_of_a_stretch_inside_a_line
    ∷ setext_underline_under_a_text_first_in_the_unit
    ∷ colon_with_the_definition_flag
    ∷ exclamation_before_a_link_spelled_by_id
    ∷ exclamation_before_a_unit_border
    ∷ emphasis_around_a_link_by_id
    ∷ emphasis_whose_link_body_holds_emphasis_by_id
    ∷ two_delimiter_units_with_the_same_label
    ∷ heading_break_in_the_body_of_a_link_spelled_by_its_id
    ∷ emphasis_only_in_the_body_of_a_link_spelled_by_its_id
    ∷ link_without_events
    ∷ shortcut_with_empty_id_and_no_body
    ∷ same_definition_twice_in_two_units
    ∷ reference_title_and_destination_escaped_in_a_definition
    ∷ autolink_in_an_image_text
    ∷ []
