-- Rules of delimiters, as they show in single manners.
use Rattle.std.specs.Prelude.{[], ◌∷◌, codes, false, List, encode_utf8_all}
use Rattle.tocmark_event.specs.Forest.{empty, node}
use Rattle.tocmark_event.specs.View.{Paragraph, Emphasis, Strikethrough, Superscript, Subscript, Text, Start, End, Leaf}
use Rattle.tocmark_event.specs.declared.event.TagEnd.TheVariants as end
use Rattle.tocmark_spelling.specs.declared.plan.Layout.TheVariants.{Preferred, Runs, Uniform, RuleThree}
use Rattle.tocmark_spelling.specs.declared.plan.TextSpelling.TheVariants.{Escaped, Literal, Entities}
use Rattle.test_definitions.specs.Script.{text, reading_of}
use Rattle.test_definitions.specs.Manners.{Spelt}

-- a backslash before a last character as a reference
abbrev pub a_backslash_before_a_last_character_as_a_reference : Spelt
a_backslash_before_a_last_character_as_a_reference = record {
  flags = 0;
  table = [];
  manner = record {
    plan = record { layout = RuleThree; text = Entities };
    markers = record {
      emphasis = 42;
      strong =
          (codes "**");
    };
    source = false;
  };
  trees = node Paragraph (text (codes "a\\b") (node Emphasis (text (codes "c") empty) empty)) empty;
  text = (codes "a\\\\&#98;*c*");
}

-- a space beside a marker
abbrev pub a_space_beside_a_marker : Spelt
a_space_beside_a_marker = record {
  flags = 0;
  table = [];
  manner = record {
    plan = record { layout = RuleThree; text = Entities };
    markers = record {
      emphasis = 42;
      strong =
          (codes "**");
    };
    source = false;
  };
  trees = node Paragraph (text (codes "a ") (node Emphasis (text (codes "b") empty) empty)) empty;
  text = (codes "a *b*");
}

-- two texts after a closing
abbrev pub two_texts_behind_a_closing : Spelt
two_texts_behind_a_closing = record {
  flags = 0;
  table = [];
  manner = record {
    plan = record { layout = RuleThree; text = Entities };
    markers = record {
      emphasis = 42;
      strong =
          (codes "**");
    };
    source = false;
  };
  trees = node Paragraph (node Emphasis (text (codes "x") empty) (text (codes "a") (text (codes "b") empty))) empty;
  text = (codes "*x*&#97;b");
}

-- markers in a text as they are
abbrev pub markers_in_a_text_as_they_are : Spelt
markers_in_a_text_as_they_are = record {
  flags = 0;
  table = [];
  manner = record {
    plan = record { layout = Uniform; text = Literal };
    markers = record {
      emphasis = 42;
      strong =
          (codes "**");
    };
    source = false;
  };
  trees = node Paragraph (text (codes "^~*_") (node Emphasis (text (codes "b") empty) empty)) empty;
  text = (codes "^~*_*b*");
}

-- strikethrough in strikethrough by the preferred plan
abbrev pub strikethrough_in_strikethrough_by_the_preferred_plan : Spelt
strikethrough_in_strikethrough_by_the_preferred_plan = record {
  flags = 0;
  table = [];
  manner = record {
    plan = record { layout = Preferred; text = Escaped };
    markers = record {
      emphasis = 42;
      strong =
          (codes "**");
    };
    source = false;
  };
  trees = node Paragraph (node Strikethrough (text (codes "a") (node Strikethrough (text (codes "b") empty) empty))
      empty) empty;
  text = (codes "~~a~~b~~~~");
}

-- strikethrough in strikethrough by runs
abbrev pub strikethrough_in_strikethrough_by_runs : Spelt
strikethrough_in_strikethrough_by_runs = record {
  flags = 0;
  table = [];
  manner = record {
    plan = record { layout = Runs; text = Escaped };
    markers = record {
      emphasis = 42;
      strong = (codes
          "**");
    };
    source = false;
  };
  trees = node Paragraph (node Strikethrough (text (codes "a") (node Strikethrough (text (codes "b") (node
      Strikethrough (text (codes "c") empty) empty)) empty)) empty) empty;
  text = (codes "~~a~b~~c~~~~~");
}

-- strikethrough in strikethrough where a tilde is a subscript
abbrev pub strikethrough_in_strikethrough_where_a_tilde_is_a_subscript : Spelt
strikethrough_in_strikethrough_where_a_tilde_is_a_subscript = record {
  flags = 16384;
  table = [];
  manner = record {
    plan = record { layout = Runs; text = Escaped };
    markers = record {
      emphasis = 42;
      strong = (codes
          "**");
    };
    source = false;
  };
  trees = node Paragraph (node Strikethrough (text (codes "a") (node Strikethrough (text (codes "b") empty) empty))
      empty) empty;
  text = (codes "~~a~~b~~~~");
}

-- a subscript
abbrev pub a_subscript : Spelt
a_subscript = record {
  flags = 0;
  table = [];
  manner = record {
    plan = record { layout = Runs; text = Escaped };
    markers = record {
      emphasis = 42;
      strong = (codes
          "**");
    };
    source = false;
  };
  trees = node Paragraph (node Subscript (text (codes "a") empty) empty) empty;
  text = (codes "~a~");
}

-- a superscript by runs
abbrev pub a_superscript_by_runs : Spelt
a_superscript_by_runs = record {
  flags = 0;
  table = [];
  manner = record {
    plan = record { layout = Runs; text = Escaped };
    markers = record {
      emphasis = 42;
      strong = (codes
          "**");
    };
    source = false;
  };
  trees = node Paragraph (node Superscript (text (codes "a") empty) empty) empty;
  text = (codes "^a^");
}

-- Emphasis after a quotation mark past ASCII where there are extensions
abbrev pub emphasis_behind_a_quotation_mark_past_ascii_where_there_are_extensions : Spelt
emphasis_behind_a_quotation_mark_past_ascii_where_there_are_extensions = record {
  flags = 8;
  table = (
    0,
    (encode_utf8_all (codes "“_x_")),
    reading_of (Start Paragraph
        ∷ Leaf (Text (encode_utf8_all (codes "“"))) ∷ Start Emphasis ∷ Leaf (Text (codes "x")) ∷ End end.Emphasis
        ∷ End end.Paragraph ∷ []) ([]) ([]),
  ) ∷ [];
  manner = record {
    plan = record { layout = Runs; text = Escaped };
    markers = record {
      emphasis = 95;
      strong = (codes
          "**");
    };
    source = false;
  };
  trees = node Paragraph (text (encode_utf8_all (codes "“")) (node Emphasis (text (codes "b") empty) empty)) empty;
  text = (encode_utf8_all (codes "“_b_"));
}

-- all of these
abbrev pub rules_of_manners : List Spelt
rules_of_manners = a_backslash_before_a_last_character_as_a_reference ∷ a_space_beside_a_marker
    ∷ two_texts_behind_a_closing ∷ markers_in_a_text_as_they_are
    ∷ strikethrough_in_strikethrough_by_the_preferred_plan ∷ strikethrough_in_strikethrough_by_runs
    ∷ strikethrough_in_strikethrough_where_a_tilde_is_a_subscript ∷ a_subscript ∷ a_superscript_by_runs
    ∷ emphasis_behind_a_quotation_mark_past_ascii_where_there_are_extensions ∷ []
