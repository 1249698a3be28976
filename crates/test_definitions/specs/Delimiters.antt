-- Emphasis and its like, as they are written.
use Rattle.std.specs.Prelude.{[], ◌∷◌, List, codes, true, Some, encode_utf8_all}
use Rattle.tocmark_event.specs.Forest.{empty, node}
use Rattle.tocmark_event.specs.Options.{default_options}
use Rattle.tocmark_event.specs.View.{Paragraph, Emphasis, Strong, Strikethrough, Superscript, Text, InlineMath, InlineHtml, Start, End, Leaf}
use Rattle.tocmark_event.specs.declared.options.Error.TheVariants.{Unrepresentable}
use Rattle.test_definitions.specs.Script.{wrote, text, one, setting, reading_of, Row}
use Rattle.tocmark_event.specs.declared.event.TagEnd.TheVariants as end

-- emphasis
abbrev pub emphasis_in_paragraph : Row
emphasis_in_paragraph = record {
  setting = setting default_options 0
      ((
        0,
        (codes "a *b*"),
        reading_of
            (Start Paragraph
            ∷ Leaf (Text (codes "a "))
            ∷ Start Emphasis
            ∷ Leaf (Text (codes "b"))
            ∷ End end.Emphasis
            ∷ End end.Paragraph
            ∷ [])
            []
            [],
      )
      ∷ []);
  trees = node Paragraph (text (codes "a ") (node Emphasis (text (codes "b") empty) empty)) empty;
  written = wrote ((codes "a *b*") ∷ []);
}

-- inside a word the asterisk is taken
abbrev pub emphasis_in_word : Row
emphasis_in_word = record {
  setting = setting
      (record default_options { emphasis_token = 95 })
      0
      ((0, (codes "a_b_c"), reading_of (Start Paragraph ∷ Leaf (Text (codes "a_b_c")) ∷ End end.Paragraph ∷ []) [] [])
      ∷ (
        0,
        (codes "a*b*c"),
        reading_of
            (Start Paragraph
            ∷ Leaf (Text (codes "a"))
            ∷ Start Emphasis
            ∷ Leaf (Text (codes "b"))
            ∷ End end.Emphasis
            ∷ Leaf (Text (codes "c"))
            ∷ End end.Paragraph
            ∷ [])
            []
            [],
      )
      ∷ []);
  trees = node Paragraph (text (codes "a") (node Emphasis (text (codes "b") empty) (text (codes "c") empty))) empty;
  written = wrote ((codes "a*b*c") ∷ []);
}

-- neighbouring emphasis takes different markers
abbrev pub neighbouring_emphasis : Row
neighbouring_emphasis = record {
  setting = setting default_options 0
      ((
        0,
        (codes "*a**b*"),
        reading_of
            (Start Paragraph ∷ Start Emphasis ∷ Leaf (Text (codes "a**b")) ∷ End end.Emphasis ∷ End end.Paragraph ∷ [])
            []
            [],
      )
      ∷ (
        0,
        (codes "*a*_b_"),
        reading_of
            (Start Paragraph
            ∷ Start Emphasis
            ∷ Leaf (Text (codes "a"))
            ∷ End end.Emphasis
            ∷ Start Emphasis
            ∷ Leaf (Text (codes "b"))
            ∷ End end.Emphasis
            ∷ End end.Paragraph
            ∷ [])
            []
            [],
      )
      ∷ []);
  trees = node Paragraph (node Emphasis (text (codes "a") empty) (node Emphasis (text (codes "b") empty) empty)) empty;
  written = wrote ((codes "*a*_b_") ∷ []);
}

-- nested emphasis takes different markers
abbrev pub nested_emphasis : Row
nested_emphasis = record {
  setting = setting default_options 0
      ((
        0,
        (codes "*_a_*"),
        reading_of
            (Start Paragraph
            ∷ Start Emphasis
            ∷ Start Emphasis
            ∷ Leaf (Text (codes "a"))
            ∷ End end.Emphasis
            ∷ End end.Emphasis
            ∷ End end.Paragraph
            ∷ [])
            []
            [],
      )
      ∷ []);
  trees = node Paragraph (node Emphasis (node Emphasis (text (codes "a") empty) empty) empty) empty;
  written = wrote ((codes "*_a_*") ∷ []);
}

-- what the reader does not know cannot be represented
abbrev pub strikethrough_unread : Row
strikethrough_unread = record {
  setting = setting default_options 0
      ((0, (codes "~~a~~"), reading_of (Start Paragraph ∷ Leaf (Text (codes "~~a~~")) ∷ End end.Paragraph ∷ []) [] []) ∷ []);
  trees = node Paragraph (node Strikethrough (text (codes "a") empty) empty) empty;
  written = record { texts = []; error = Some Unrepresentable };
}

-- options that are not accepted get the preferred spelling
abbrev pub strikethrough_unvalidated : Row
strikethrough_unvalidated = record {
  setting = setting default_options 32
      ((32, (codes "~~a~~"), reading_of (Start Paragraph ∷ Leaf (Text (codes "~~a~~")) ∷ End end.Paragraph ∷ []) [] []) ∷ []);
  trees = node Paragraph (node Strikethrough (text (codes "a") empty) empty) empty;
  written = wrote ((codes "~~a~~") ∷ []);
}

-- HTML is not read as a superscript
abbrev pub html_script_unread : Row
html_script_unread = record {
  setting = setting
      (record default_options { use_html_for_super_sub_script = true })
      0
      ((
        0,
        (codes "<sup>a</sup>"),
        reading_of
            (Start Paragraph
            ∷ Leaf (InlineHtml (codes "<sup>"))
            ∷ Leaf (Text (codes "a"))
            ∷ Leaf (InlineHtml (codes "</sup>"))
            ∷ End end.Paragraph
            ∷ [])
            []
            [],
      )
      ∷ []);
  trees = node Paragraph (node Superscript (text (codes "a") empty) empty) empty;
  written = record { texts = []; error = Some Unrepresentable };
}

-- with a token of one’s own nothing is checked
abbrev pub own_strong_token : Row
own_strong_token = record {
  setting = setting (record default_options { strong_token = codes "+" }) 0 [];
  trees = node Paragraph (node Strong (text (codes "a") empty) empty) empty;
  written = wrote ((codes "+a+") ∷ []);
}

-- emphasis that is a unit of its own
abbrev pub emphasis_alone : Row
emphasis_alone = record {
  setting = setting default_options 0
      ((
        0,
        (codes "*a*"),
        reading_of
            (Start Paragraph ∷ Start Emphasis ∷ Leaf (Text (codes "a")) ∷ End end.Emphasis ∷ End end.Paragraph ∷ [])
            []
            [],
      )
      ∷ []);
  trees = node Emphasis (text (codes "a") empty) empty;
  written = wrote ((codes "*a*") ∷ []);
}

-- after a letter past ASCII the asterisk is taken
abbrev pub emphasis_behind_letter : Row
emphasis_behind_letter = record {
  setting = setting
      (record default_options { emphasis_token = 95 })
      0
      ((
        0,
        (encode_utf8_all (codes "é_x_")),
        reading_of (Start Paragraph ∷ Leaf (Text (encode_utf8_all (codes "é_x_"))) ∷ End end.Paragraph ∷ []) [] [],
      )
      ∷ (
        0,
        (encode_utf8_all (codes "é_b_")),
        reading_of (Start Paragraph ∷ Leaf (Text (encode_utf8_all (codes "é_b_"))) ∷ End end.Paragraph ∷ []) [] [],
      )
      ∷ (
        0,
        (encode_utf8_all (codes "é*b*")),
        reading_of
            (Start Paragraph
            ∷ Leaf (Text (encode_utf8_all (codes "é")))
            ∷ Start Emphasis
            ∷ Leaf (Text (codes "b"))
            ∷ End end.Emphasis
            ∷ End end.Paragraph
            ∷ [])
            []
            [],
      )
      ∷ []);
  trees = node Paragraph (text (encode_utf8_all (codes "é")) (node Emphasis (text (codes "b") empty) empty)) empty;
  written = wrote ((encode_utf8_all (codes "é*b*")) ∷ []);
}

-- emphasis in strong emphasis
abbrev pub emphasis_in_strong : Row
emphasis_in_strong = record {
  setting = setting default_options 0
      ((
        0,
        (codes "***a***"),
        reading_of
            (Start Paragraph
            ∷ Start Emphasis
            ∷ Start Strong
            ∷ Leaf (Text (codes "a"))
            ∷ End end.Strong
            ∷ End end.Emphasis
            ∷ End end.Paragraph
            ∷ [])
            []
            [],
      )
      ∷ (
        0,
        (codes "**_a_**"),
        reading_of
            (Start Paragraph
            ∷ Start Strong
            ∷ Start Emphasis
            ∷ Leaf (Text (codes "a"))
            ∷ End end.Emphasis
            ∷ End end.Strong
            ∷ End end.Paragraph
            ∷ [])
            []
            [],
      )
      ∷ []);
  trees = node Paragraph (node Strong (node Emphasis (text (codes "a") empty) empty) empty) empty;
  written = wrote ((codes "**_a_**") ∷ []);
}

-- no spelling closes emphasis after a space
abbrev pub space_before_closing : Row
space_before_closing = record {
  setting = setting default_options 0
      ((0, (codes "*a *"), reading_of (Start Paragraph ∷ Leaf (Text (codes "*a *")) ∷ End end.Paragraph ∷ []) [] [])
      ∷ (0, (codes "_a _"), reading_of (Start Paragraph ∷ Leaf (Text (codes "_a _")) ∷ End end.Paragraph ∷ []) [] [])
      ∷ []);
  trees = node Paragraph (node Emphasis (text (codes "a ") empty) empty) empty;
  written = record { texts = []; error = Some Unrepresentable };
}

-- a reader that knows the underscore alone
abbrev pub reader_of_underscores : Row
reader_of_underscores = record {
  setting = setting default_options 0
      ((
        0,
        (codes "_a_"),
        reading_of
            (Start Paragraph ∷ Start Emphasis ∷ Leaf (Text (codes "a")) ∷ End end.Emphasis ∷ End end.Paragraph ∷ [])
            []
            [],
      )
      ∷ []);
  trees = node Paragraph (node Emphasis (text (codes "a") empty) empty) empty;
  written = wrote ((codes "_a_") ∷ []);
}

-- the first spelling that reads back is taken
abbrev pub reader_of_both : Row
reader_of_both = record {
  setting = setting default_options 0
      ((
        0,
        (codes "*a*"),
        reading_of
            (Start Paragraph ∷ Start Emphasis ∷ Leaf (Text (codes "a")) ∷ End end.Emphasis ∷ End end.Paragraph ∷ [])
            []
            [],
      )
      ∷ []);
  trees = node Paragraph (node Emphasis (text (codes "a") empty) empty) empty;
  written = wrote ((codes "*a*") ∷ []);
}

-- mathematics
abbrev pub math : Row
math = record {
  setting = setting default_options 1024
      ((1024, (codes "$x$"), reading_of (Start Paragraph ∷ Leaf (InlineMath (codes "x")) ∷ End end.Paragraph ∷ []) [] []) ∷ []);
  trees = node Paragraph (one (InlineMath (codes "x")) empty) empty;
  written = wrote ((codes "$x$") ∷ []);
}

-- a strikethrough in a strikethrough
abbrev pub double_strikethrough : Row
double_strikethrough = record {
  setting = setting default_options 8
      ((
        8,
        (codes "~~~a~~~"),
        reading_of
            (Start Paragraph
            ∷ Start Strikethrough
            ∷ Start Strikethrough
            ∷ Leaf (Text (codes "a"))
            ∷ End end.Strikethrough
            ∷ End end.Strikethrough
            ∷ End end.Paragraph
            ∷ [])
            []
            [],
      )
      ∷ []);
  trees = node Paragraph (node Strikethrough (node Strikethrough (text (codes "a") empty) empty) empty) empty;
  written = wrote ((codes "~~~a~~~") ∷ []);
}

-- all of these
abbrev pub delimiters : List Row
delimiters = emphasis_in_paragraph
    ∷ emphasis_in_word
    ∷ neighbouring_emphasis
    ∷ nested_emphasis
    ∷ strikethrough_unread
    ∷ strikethrough_unvalidated
    ∷ html_script_unread
    ∷ own_strong_token
    ∷ emphasis_alone
    ∷ emphasis_behind_letter
    ∷ emphasis_in_strong
    ∷ space_before_closing
    ∷ reader_of_underscores
    ∷ reader_of_both
    ∷ math
    ∷ double_strikethrough
    ∷ []
