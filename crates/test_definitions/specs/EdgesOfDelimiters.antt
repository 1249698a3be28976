-- Emphasis and its like at the edges of the rules, as they are written.
use Rattle.std.specs.Prelude.{[], ◌∷◌, List, codes, true, Some, encode_utf8_all}
use Rattle.tocmark_event.specs.Forest.{empty, node}
use Rattle.tocmark_event.specs.Options.{default_options}
use Rattle.tocmark_event.specs.View.{Fenced, Paragraph, CodeBlock, Emphasis, Strong, Strikethrough, Superscript, Subscript, Text, InlineHtml, SoftBreak, Start, End, Leaf}
use Rattle.tocmark_event.specs.declared.options.Error.TheVariants.{Unrepresentable}
use Rattle.test_definitions.specs.Script.{wrote, text, one, setting, reading_of, Row}
use Rattle.tocmark_event.specs.declared.event.TagEnd.TheVariants as end

-- caret after an End of Emphasis
abbrev pub caret_after_an_end_of_emphasis : Row
caret_after_an_end_of_emphasis = record {
  setting = setting default_options 0
      ((
        0,
        (codes "*a*\\^b"),
        reading_of
            (Start Paragraph
            ∷ Start Emphasis
            ∷ Leaf (Text (codes "a"))
            ∷ End end.Emphasis
            ∷ Leaf (Text (codes "^b"))
            ∷ End end.Paragraph
            ∷ [])
            []
            [],
      )
      ∷ []);
  trees = node Paragraph (node Emphasis (text (codes "a") empty) (text (codes "^b") empty)) empty;
  written = wrote ((codes "*a*\\^b") ∷ []);
}

-- caret first, alphanumeric Text of another stretch before
abbrev pub caret_first_alphanumeric_text_of_another_stretch_before : Row
caret_first_alphanumeric_text_of_another_stretch_before = record {
  setting = setting default_options 0 [];
  trees = node Paragraph (text (codes "a") (one (InlineHtml []) (text (codes "^b") empty))) empty;
  written = wrote ((codes "a\\^b") ∷ []);
}

-- empty Text between a Text and Emphasis
abbrev pub empty_text_between_a_text_and_emphasis : Row
empty_text_between_a_text_and_emphasis = record {
  setting = setting
      (record default_options { emphasis_token = 95 })
      0
      ((0, (codes "a_b_"), reading_of (Start Paragraph ∷ Leaf (Text (codes "a_b_")) ∷ End end.Paragraph ∷ []) [] [])
      ∷ (
        0,
        (codes "a*b*"),
        reading_of
            (Start Paragraph
            ∷ Leaf (Text (codes "a"))
            ∷ Start Emphasis
            ∷ Leaf (Text (codes "b"))
            ∷ End end.Emphasis
            ∷ End end.Paragraph
            ∷ [])
            []
            [],
      )
      ∷ []);
  trees = node Paragraph (text (codes "a") (text [] (node Emphasis (text (codes "b") empty) empty))) empty;
  written = wrote ((codes "a*b*") ∷ []);
}

-- two empty Texts alone in a paragraph beside Emphasis
abbrev pub two_empty_texts_alone_in_a_paragraph_beside_emphasis : Row
two_empty_texts_alone_in_a_paragraph_beside_emphasis = record {
  setting = setting default_options 0
      ((
        0,
        (codes "*b*"),
        reading_of
            (Start Paragraph ∷ Start Emphasis ∷ Leaf (Text (codes "b")) ∷ End end.Emphasis ∷ End end.Paragraph ∷ [])
            []
            [],
      )
      ∷ (
        0,
        (codes "_b_"),
        reading_of
            (Start Paragraph ∷ Start Emphasis ∷ Leaf (Text (codes "b")) ∷ End end.Emphasis ∷ End end.Paragraph ∷ [])
            []
            [],
      )
      ∷ []);
  trees = node Paragraph (text [] (text [] (node Emphasis (text (codes "b") empty) empty))) empty;
  written = record { texts = []; error = Some Unrepresentable };
}

-- one empty Text
abbrev pub one_empty_text : Row
one_empty_text = record {
  setting = setting default_options 0
      ((
        0,
        (codes "*b*"),
        reading_of
            (Start Paragraph ∷ Start Emphasis ∷ Leaf (Text (codes "b")) ∷ End end.Emphasis ∷ End end.Paragraph ∷ [])
            []
            [],
      )
      ∷ (
        0,
        (codes "_b_"),
        reading_of
            (Start Paragraph ∷ Start Emphasis ∷ Leaf (Text (codes "b")) ∷ End end.Emphasis ∷ End end.Paragraph ∷ [])
            []
            [],
      )
      ∷ []);
  trees = node Paragraph (text [] (node Emphasis (text (codes "b") empty) empty)) empty;
  written = record { texts = []; error = Some Unrepresentable };
}

-- Runs: edges at the unit border
abbrev pub runs_edges_at_the_unit_border : Row
runs_edges_at_the_unit_border = record {
  setting = setting default_options 0
      ((
        0,
        (codes "*b*"),
        reading_of
            (Start Paragraph ∷ Start Emphasis ∷ Leaf (Text (codes "b")) ∷ End end.Emphasis ∷ End end.Paragraph ∷ [])
            []
            [],
      )
      ∷ []);
  trees = node Emphasis (text (codes "b") empty) (text (codes "c") empty);
  written = wrote ((codes "*b*") ∷ (codes "c") ∷ []);
}

-- preferred underscore at the unit border
abbrev pub preferred_underscore_at_the_unit_border : Row
preferred_underscore_at_the_unit_border = record {
  setting = setting
      (record default_options { emphasis_token = 95 })
      0
      ((
        0,
        (codes "_b_"),
        reading_of
            (Start Paragraph ∷ Start Emphasis ∷ Leaf (Text (codes "b")) ∷ End end.Emphasis ∷ End end.Paragraph ∷ [])
            []
            [],
      )
      ∷ []);
  trees = node Emphasis (text (codes "b") empty) (text (codes "c") empty);
  written = wrote ((codes "_b_") ∷ (codes "c") ∷ []);
}

-- literal run inside strong
abbrev pub literal_run_inside_strong : Row
literal_run_inside_strong = record {
  setting = setting default_options 0
      ((
        0,
        (codes "**a*b*c\\***"),
        reading_of
            (Start Paragraph
            ∷ Start Strong
            ∷ Leaf (Text (codes "a"))
            ∷ Start Emphasis
            ∷ Leaf (Text (codes "b"))
            ∷ End end.Emphasis
            ∷ Leaf (Text (codes "c"))
            ∷ Leaf (Text (codes "*"))
            ∷ End end.Strong
            ∷ End end.Paragraph
            ∷ [])
            []
            [],
      )
      ∷ []);
  trees = node Paragraph
      (node Strong (text (codes "a") (node Emphasis (text (codes "b") empty) (text (codes "c*") empty))) empty)
      empty;
  written = wrote ((codes "**a*b*c\\***") ∷ []);
}

-- literal marker before an opening
abbrev pub literal_marker_before_an_opening : Row
literal_marker_before_an_opening = record {
  setting = setting default_options 0
      ((
        0,
        (codes "\\**a*b"),
        reading_of
            (Start Paragraph
            ∷ Leaf (Text (codes "*"))
            ∷ Start Emphasis
            ∷ Leaf (Text (codes "a"))
            ∷ End end.Emphasis
            ∷ Leaf (Text (codes "b"))
            ∷ End end.Paragraph
            ∷ [])
            []
            [],
      )
      ∷ []);
  trees = node Paragraph (text (codes "*") (node Emphasis (text (codes "a") empty) (text (codes "b") empty))) empty;
  written = wrote ((codes "\\**a*b") ∷ []);
}

-- emphasis over a break
abbrev pub emphasis_over_a_break : Row
emphasis_over_a_break = record {
  setting = setting default_options 0
      ((
        0,
        (codes "*a\nb*"),
        reading_of
            (Start Paragraph
            ∷ Start Emphasis
            ∷ Leaf (Text (codes "a"))
            ∷ Leaf SoftBreak
            ∷ Leaf (Text (codes "b"))
            ∷ End end.Emphasis
            ∷ End end.Paragraph
            ∷ [])
            []
            [],
      )
      ∷ []);
  trees = node Paragraph (node Emphasis (text (codes "a") (one SoftBreak (text (codes "b") empty))) empty) empty;
  written = wrote ((codes "*a\nb*") ∷ []);
}

-- strikethrough in itself and in itself
abbrev pub strikethrough_in_itself_and_in_itself : Row
strikethrough_in_itself_and_in_itself = record {
  setting = setting default_options 8
      ((
        8,
        (codes "~~~~~~a~~~~~~"),
        reading_of (Start (CodeBlock (Fenced (codes "a~~~~~~"))) ∷ End end.CodeBlock ∷ []) [] [],
      )
      ∷ (
        8,
        (codes "~~~~~a~~~~~"),
        reading_of (Start (CodeBlock (Fenced (codes "a~~~~~"))) ∷ End end.CodeBlock ∷ []) [] [],
      )
      ∷ []);
  trees = node Paragraph
      (node Strikethrough (node Strikethrough (node Strikethrough (text (codes "a") empty) empty) empty) empty)
      empty;
  written = record { texts = []; error = Some Unrepresentable };
}

-- superscript beside a word
abbrev pub superscript_beside_a_word : Row
superscript_beside_a_word = record {
  setting = setting default_options 8192
      ((8192, (codes "a^b^c"), reading_of (Start Paragraph ∷ Leaf (Text (codes "a^b^c")) ∷ End end.Paragraph ∷ []) [] [])
      ∷ (
        8192,
        (codes "a^^b^^c"),
        reading_of (Start Paragraph ∷ Leaf (Text (codes "a^^b^^c")) ∷ End end.Paragraph ∷ []) [] [],
      )
      ∷ []);
  trees = node Paragraph (text (codes "a") (node Superscript (text (codes "b") empty) (text (codes "c") empty))) empty;
  written = record { texts = []; error = Some Unrepresentable };
}

-- subscript and strikethrough
abbrev pub subscript_and_strikethrough : Row
subscript_and_strikethrough = record {
  setting = setting default_options 16392
      ((16392, (codes "~~~a~~~"), reading_of (Start (CodeBlock (Fenced (codes "a~~~"))) ∷ End end.CodeBlock ∷ []) [] []) ∷ []);
  trees = node Paragraph (node Strikethrough (node Subscript (text (codes "a") empty) empty) empty) empty;
  written = record { texts = []; error = Some Unrepresentable };
}

-- emphasis beside punctuation past ASCII
abbrev pub emphasis_beside_punctuation_past_ascii : Row
emphasis_beside_punctuation_past_ascii = record {
  setting = setting
      (record default_options { emphasis_token = 95 })
      0
      ((
        0,
        (encode_utf8_all (codes "“_x_")),
        reading_of
            (Start Paragraph
            ∷ Leaf (Text (encode_utf8_all (codes "“")))
            ∷ Start Emphasis
            ∷ Leaf (Text (codes "x"))
            ∷ End end.Emphasis
            ∷ End end.Paragraph
            ∷ [])
            []
            [],
      )
      ∷ (
        0,
        (encode_utf8_all (codes "”_x_")),
        reading_of
            (Start Paragraph
            ∷ Leaf (Text (encode_utf8_all (codes "”")))
            ∷ Start Emphasis
            ∷ Leaf (Text (codes "x"))
            ∷ End end.Emphasis
            ∷ End end.Paragraph
            ∷ [])
            []
            [],
      )
      ∷ (
        0,
        (encode_utf8_all (codes "“_a_”")),
        reading_of
            (Start Paragraph
            ∷ Leaf (Text (encode_utf8_all (codes "“")))
            ∷ Start Emphasis
            ∷ Leaf (Text (codes "a"))
            ∷ End end.Emphasis
            ∷ Leaf (Text (encode_utf8_all (codes "”")))
            ∷ End end.Paragraph
            ∷ [])
            []
            [],
      )
      ∷ []);
  trees = node Paragraph
      (text (encode_utf8_all (codes "“"))
      (node Emphasis (text (codes "a") empty) (text (encode_utf8_all (codes "”")) empty)))
      empty;
  written = wrote ((encode_utf8_all (codes "“_a_”")) ∷ []);
}

-- emphasis beside a letter past ASCII
abbrev pub emphasis_beside_a_letter_past_ascii : Row
emphasis_beside_a_letter_past_ascii = record {
  setting = setting
      (record default_options { emphasis_token = 95 })
      0
      ((
        0,
        (encode_utf8_all (codes "é_x_")),
        reading_of (Start Paragraph ∷ Leaf (Text (encode_utf8_all (codes "é_x_"))) ∷ End end.Paragraph ∷ []) [] [],
      )
      ∷ (
        0,
        (encode_utf8_all (codes "é_a_é")),
        reading_of (Start Paragraph ∷ Leaf (Text (encode_utf8_all (codes "é_a_é"))) ∷ End end.Paragraph ∷ []) [] [],
      )
      ∷ (
        0,
        (encode_utf8_all (codes "é*a*é")),
        reading_of
            (Start Paragraph
            ∷ Leaf (Text (encode_utf8_all (codes "é")))
            ∷ Start Emphasis
            ∷ Leaf (Text (codes "a"))
            ∷ End end.Emphasis
            ∷ Leaf (Text (encode_utf8_all (codes "é")))
            ∷ End end.Paragraph
            ∷ [])
            []
            [],
      )
      ∷ []);
  trees = node Paragraph
      (text (encode_utf8_all (codes "é"))
      (node Emphasis (text (codes "a") empty) (text (encode_utf8_all (codes "é")) empty)))
      empty;
  written = wrote ((encode_utf8_all (codes "é*a*é")) ∷ []);
}

-- emphasis beside a no-break space
abbrev pub emphasis_beside_a_no_break_space : Row
emphasis_beside_a_no_break_space = record {
  setting = setting
      (record default_options { emphasis_token = 95 })
      0
      ((
        0,
        (encode_utf8_all (160 ∷ 95 ∷ 120 ∷ 95 ∷ [])),
        reading_of
            (Start Paragraph
            ∷ Leaf (Text (encode_utf8_all (160 ∷ [])))
            ∷ Start Emphasis
            ∷ Leaf (Text (codes "x"))
            ∷ End end.Emphasis
            ∷ End end.Paragraph
            ∷ [])
            []
            [],
      )
      ∷ (
        0,
        (encode_utf8_all (160 ∷ 95 ∷ 97 ∷ 95 ∷ [])),
        reading_of
            (Start Paragraph
            ∷ Leaf (Text (encode_utf8_all (160 ∷ [])))
            ∷ Start Emphasis
            ∷ Leaf (Text (codes "a"))
            ∷ End end.Emphasis
            ∷ End end.Paragraph
            ∷ [])
            []
            [],
      )
      ∷ []);
  trees = node Paragraph (text (encode_utf8_all (160 ∷ [])) (node Emphasis (text (codes "a") empty) empty)) empty;
  written = wrote ((encode_utf8_all (160 ∷ 95 ∷ 97 ∷ 95 ∷ [])) ∷ []);
}

-- nested emphasis at both ends
abbrev pub nested_emphasis_at_both_ends : Row
nested_emphasis_at_both_ends = record {
  setting = setting default_options 0
      ((
        0,
        (codes "_*a*b*c*_"),
        reading_of
            (Start Paragraph
            ∷ Start Emphasis
            ∷ Start Emphasis
            ∷ Leaf (Text (codes "a"))
            ∷ End end.Emphasis
            ∷ Leaf (Text (codes "b"))
            ∷ Start Emphasis
            ∷ Leaf (Text (codes "c"))
            ∷ End end.Emphasis
            ∷ End end.Emphasis
            ∷ End end.Paragraph
            ∷ [])
            []
            [],
      )
      ∷ []);
  trees = node Paragraph
      (node Emphasis
      (node Emphasis (text (codes "a") empty) (text (codes "b") (node Emphasis (text (codes "c") empty) empty)))
      empty)
      empty;
  written = wrote ((codes "_*a*b*c*_") ∷ []);
}

-- strong in emphasis at the start
abbrev pub strong_in_emphasis_at_the_start : Row
strong_in_emphasis_at_the_start = record {
  setting = setting default_options 0
      ((
        0,
        (codes "***a**b*"),
        reading_of
            (Start Paragraph
            ∷ Start Emphasis
            ∷ Start Strong
            ∷ Leaf (Text (codes "a"))
            ∷ End end.Strong
            ∷ Leaf (Text (codes "b"))
            ∷ End end.Emphasis
            ∷ End end.Paragraph
            ∷ [])
            []
            [],
      )
      ∷ []);
  trees = node Paragraph (node Emphasis (node Strong (text (codes "a") empty) (text (codes "b") empty)) empty) empty;
  written = wrote ((codes "***a**b*") ∷ []);
}

-- strong in emphasis at the end
abbrev pub strong_in_emphasis_at_the_end : Row
strong_in_emphasis_at_the_end = record {
  setting = setting default_options 0
      ((
        0,
        (codes "*b**a***"),
        reading_of
            (Start Paragraph
            ∷ Start Emphasis
            ∷ Leaf (Text (codes "b"))
            ∷ Start Strong
            ∷ Leaf (Text (codes "a"))
            ∷ End end.Strong
            ∷ End end.Emphasis
            ∷ End end.Paragraph
            ∷ [])
            []
            [],
      )
      ∷ []);
  trees = node Paragraph (node Emphasis (text (codes "b") (node Strong (text (codes "a") empty) empty)) empty) empty;
  written = wrote ((codes "*b**a***") ∷ []);
}

-- emphasis twice nested in strong
abbrev pub emphasis_twice_nested_in_strong : Row
emphasis_twice_nested_in_strong = record {
  setting = setting default_options 0
      ((
        0,
        (codes "*****a*****"),
        reading_of
            (Start Paragraph
            ∷ Start Emphasis
            ∷ Start Strong
            ∷ Start Strong
            ∷ Leaf (Text (codes "a"))
            ∷ End end.Strong
            ∷ End end.Strong
            ∷ End end.Emphasis
            ∷ End end.Paragraph
            ∷ [])
            []
            [],
      )
      ∷ (
        0,
        (codes "**_**a**_**"),
        reading_of
            (Start Paragraph
            ∷ Start Strong
            ∷ Start Emphasis
            ∷ Start Strong
            ∷ Leaf (Text (codes "a"))
            ∷ End end.Strong
            ∷ End end.Emphasis
            ∷ End end.Strong
            ∷ End end.Paragraph
            ∷ [])
            []
            [],
      )
      ∷ []);
  trees = node Paragraph (node Strong (node Emphasis (node Strong (text (codes "a") empty) empty) empty) empty) empty;
  written = wrote ((codes "**_**a**_**") ∷ []);
}

-- adjacent strong and emphasis
abbrev pub adjacent_strong_and_emphasis : Row
adjacent_strong_and_emphasis = record {
  setting = setting default_options 0
      ((
        0,
        (codes "**a***b***c**"),
        reading_of
            (Start Paragraph
            ∷ Start Strong
            ∷ Leaf (Text (codes "a"))
            ∷ End end.Strong
            ∷ Start Emphasis
            ∷ Leaf (Text (codes "b"))
            ∷ End end.Emphasis
            ∷ Start Strong
            ∷ Leaf (Text (codes "c"))
            ∷ End end.Strong
            ∷ End end.Paragraph
            ∷ [])
            []
            [],
      )
      ∷ []);
  trees = node Paragraph
      (node Strong (text (codes "a") empty)
      (node Emphasis (text (codes "b") empty) (node Strong (text (codes "c") empty) empty)))
      empty;
  written = wrote ((codes "**a***b***c**") ∷ []);
}

-- emphasis inside a word in emphasis
abbrev pub emphasis_inside_a_word_in_emphasis : Row
emphasis_inside_a_word_in_emphasis = record {
  setting = setting default_options 0
      ((
        0,
        (codes "_a*b*c_"),
        reading_of
            (Start Paragraph
            ∷ Start Emphasis
            ∷ Leaf (Text (codes "a"))
            ∷ Start Emphasis
            ∷ Leaf (Text (codes "b"))
            ∷ End end.Emphasis
            ∷ Leaf (Text (codes "c"))
            ∷ End end.Emphasis
            ∷ End end.Paragraph
            ∷ [])
            []
            [],
      )
      ∷ []);
  trees = node Paragraph
      (node Emphasis (text (codes "a") (node Emphasis (text (codes "b") empty) (text (codes "c") empty))) empty)
      empty;
  written = wrote ((codes "_a*b*c_") ∷ []);
}

-- text ends with a backslash before emphasis
abbrev pub text_ends_with_a_backslash_before_emphasis : Row
text_ends_with_a_backslash_before_emphasis = record {
  setting = setting default_options 0
      ((
        0,
        (codes "a\\\\*b*"),
        reading_of
            (Start Paragraph
            ∷ Leaf (Text (codes "a"))
            ∷ Leaf (Text (codes "\\"))
            ∷ Start Emphasis
            ∷ Leaf (Text (codes "b"))
            ∷ End end.Emphasis
            ∷ End end.Paragraph
            ∷ [])
            []
            [],
      )
      ∷ []);
  trees = node Paragraph (text (codes "a\\") (node Emphasis (text (codes "b") empty) empty)) empty;
  written = wrote ((codes "a\\\\*b*") ∷ []);
}

-- emphasis token x
abbrev pub emphasis_token_x : Row
emphasis_token_x = record {
  setting = setting (record default_options { emphasis_token = 120 }) 0 [];
  trees = node Paragraph (text (codes "xax") (node Emphasis (text (codes "b") empty) empty)) empty;
  written = wrote ((codes "\\xa\\xxbx") ∷ []);
}

-- emphasis token plus inside plus
abbrev pub emphasis_token_plus_inside_plus : Row
emphasis_token_plus_inside_plus = record {
  setting = setting (record default_options { emphasis_token = 43 }) 0 [];
  trees = node Paragraph (node Emphasis (node Emphasis (text (codes "b") empty) empty) empty) empty;
  written = wrote ((codes "+*b*+") ∷ []);
}

-- strong token of one star
abbrev pub strong_token_of_one_star : Row
strong_token_of_one_star = record {
  setting = setting (record default_options { strong_token = codes "*" }) 0 [];
  trees = node Paragraph (node Strong (text (codes "b") (node Emphasis (text (codes "c") empty) empty)) empty) empty;
  written = wrote ((codes "*b*c**") ∷ []);
}

-- html scripts
abbrev pub html_scripts : Row
html_scripts = record {
  setting = setting (record default_options { use_html_for_super_sub_script = true; emphasis_token = 43 }) 0 [];
  trees = node Paragraph (node Superscript (text (codes "a") empty) empty) empty;
  written = wrote ((codes "<sup>a</sup>") ∷ []);
}

-- emphasis without events
abbrev pub emphasis_without_events : Row
emphasis_without_events = record {
  setting = setting default_options 0
      ((0, (codes "a**b"), reading_of (Start Paragraph ∷ Leaf (Text (codes "a**b")) ∷ End end.Paragraph ∷ []) [] [])
      ∷ (
        0,
        (codes "&#97;**&#98;"),
        reading_of
            (Start Paragraph
            ∷ Leaf (Text (codes "a"))
            ∷ Leaf (Text (codes "**"))
            ∷ Leaf (Text (codes "b"))
            ∷ End end.Paragraph
            ∷ [])
            []
            [],
      )
      ∷ (
        0,
        (codes "&#97;__&#98;"),
        reading_of
            (Start Paragraph
            ∷ Leaf (Text (codes "a"))
            ∷ Leaf (Text (codes "__"))
            ∷ Leaf (Text (codes "b"))
            ∷ End end.Paragraph
            ∷ [])
            []
            [],
      )
      ∷ (0, (codes "a__b"), reading_of (Start Paragraph ∷ Leaf (Text (codes "a__b")) ∷ End end.Paragraph ∷ []) [] [])
      ∷ []);
  trees = node Paragraph (text (codes "a") (node Emphasis empty (text (codes "b") empty))) empty;
  written = record { texts = []; error = Some Unrepresentable };
}

-- all of these
abbrev pub edges_of_delimiters : List Row
edges_of_delimiters = caret_after_an_end_of_emphasis
    ∷ caret_first_alphanumeric_text_of_another_stretch_before
    ∷ empty_text_between_a_text_and_emphasis
    ∷ two_empty_texts_alone_in_a_paragraph_beside_emphasis
    ∷ one_empty_text
    ∷ runs_edges_at_the_unit_border
    ∷ preferred_underscore_at_the_unit_border
    ∷ literal_run_inside_strong
    ∷ literal_marker_before_an_opening
    ∷ emphasis_over_a_break
    ∷ strikethrough_in_itself_and_in_itself
    ∷ superscript_beside_a_word
    ∷ subscript_and_strikethrough
    ∷ emphasis_beside_punctuation_past_ascii
    ∷ emphasis_beside_a_letter_past_ascii
    ∷ emphasis_beside_a_no_break_space
    ∷ nested_emphasis_at_both_ends
    ∷ strong_in_emphasis_at_the_start
    ∷ strong_in_emphasis_at_the_end
    ∷ emphasis_twice_nested_in_strong
    ∷ adjacent_strong_and_emphasis
    ∷ emphasis_inside_a_word_in_emphasis
    ∷ text_ends_with_a_backslash_before_emphasis
    ∷ emphasis_token_x
    ∷ emphasis_token_plus_inside_plus
    ∷ strong_token_of_one_star
    ∷ html_scripts
    ∷ emphasis_without_events
    ∷ []
