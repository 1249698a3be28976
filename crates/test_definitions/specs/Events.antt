-- Calls with events, their ranges in a source, and what is written at each.
use Rattle.std.specs.Prelude.{[], ◌∷◌, codes, true, false, None, Some, List, encode_utf8_all}
use Rattle.tocmark_event.specs.Options.{default_options}
use Rattle.tocmark_event.specs.View.{Fenced, Paragraph, Heading, BlockQuote, CodeBlock, ListOf, Item, Emphasis, Link, Text, Code, Start, End, Leaf}
use Rattle.tocmark_event.specs.declared.options.Error.TheVariants.{UnexpectedEvent, Unrepresentable, InvalidSourceRange}
use Rattle.tocmark_event.specs.declared.event.HeadingLevel.TheVariants as level
use Rattle.tocmark_event.specs.declared.event.LinkType.TheVariants as link
use Rattle.tocmark_event.specs.declared.event.TagEnd.TheVariants as end
use Rattle.test_definitions.specs.Script.{setting, reading_of}
use Rattle.test_definitions.specs.Answers.{Calls}

-- a paragraph in two calls, and one more
abbrev pub a_paragraph_in_two_calls_and_one_more : Calls
a_paragraph_in_two_calls_and_one_more = record {
  setting = setting default_options 0 ([]);
  source = [];
  calls = ((Start Paragraph, None) ∷ (Leaf (Text (codes "a")), None) ∷ []) ∷ ((End end.Paragraph, None)
      ∷ (Start Paragraph, None) ∷ []) ∷ ((Leaf (Text (codes "b")), None) ∷ (End end.Paragraph, None) ∷ []) ∷ [];
  answers = record { handed = ([]) ∷ ((codes "a") ∷ []) ∷ ([]) ∷ ((codes "\n\nb") ∷ []) ∷ []; error = None };
}

-- no events at all
abbrev pub no_events_at_all : Calls
no_events_at_all = record {
  setting = setting default_options 0 ([]);
  source = [];
  calls = ([]) ∷ ([]) ∷ [];
  answers = record { handed = ([]) ∷ ([]) ∷ ([]) ∷ []; error = None };
}

-- texts that are units of their own
abbrev pub texts_that_are_units_of_their_own : Calls
texts_that_are_units_of_their_own = record {
  setting = setting default_options 0 ([]);
  source = [];
  calls = ((Leaf (Text (codes "1")), None) ∷ (Leaf (Text (codes ". a")), None) ∷ [])
      ∷ ((Leaf (Text (codes "b")), None) ∷ []) ∷ [];
  answers = record { handed = ((codes "1") ∷ []) ∷ ((codes ". a") ∷ []) ∷ ((codes "b") ∷ []) ∷ []; error = None };
}

-- a text from the source with the backslash before it
abbrev pub a_text_from_the_source_with_the_backslash_before_it : Calls
a_text_from_the_source_with_the_backslash_before_it = record {
  setting = setting default_options 0 ((
    0,
    (codes "\\!a"),
    reading_of (Start Paragraph ∷ Leaf (Text (codes "!a"))
        ∷ End end.Paragraph ∷ []) ([]) ([]),
  ) ∷ []);
  source = (codes "\\!a");
  calls = ((Start Paragraph, Some (0, 3)) ∷ (Leaf (Text (codes "!a")), Some (1, 3)) ∷ (End end.Paragraph, Some (0, 3))
      ∷ []) ∷ [];
  answers = record { handed = ([]) ∷ ((codes "\\!a") ∷ []) ∷ []; error = None };
}

-- a backslash that an earlier text holds
abbrev pub a_backslash_that_an_earlier_text_holds : Calls
a_backslash_that_an_earlier_text_holds = record {
  setting = setting default_options 0 ((
    0,
    (codes "a\\\\b"),
    reading_of (Start Paragraph ∷ Leaf (Text (codes "a"))
        ∷ Leaf (Text (codes "\\b")) ∷ End end.Paragraph ∷ []) ([]) ([]),
  ) ∷ []);
  source = (codes "a\\b");
  calls = ((Start Paragraph, Some (0, 3)) ∷ (Leaf (Text (codes "a\\")), Some (0, 2))
      ∷ (Leaf (Text (codes "b")), Some (2, 3)) ∷ (End end.Paragraph, Some (0, 3)) ∷ []) ∷ [];
  answers = record { handed = ([]) ∷ ((codes "a\\b") ∷ []) ∷ []; error = None };
}

-- a backslash that an earlier code span holds
abbrev pub a_backslash_that_an_earlier_code_span_holds : Calls
a_backslash_that_an_earlier_code_span_holds = record {
  setting = setting default_options 0 ((
    0,
    (codes "`a`\\!b"),
    reading_of (Start Paragraph ∷ Leaf (Code (codes "a"))
        ∷ Leaf (Text (codes "!b")) ∷ End end.Paragraph ∷ []) ([]) ([]),
  ) ∷ []);
  source = (codes "`a`\\!b");
  calls = ((Start Paragraph, Some (0, 6)) ∷ (Leaf (Code (codes "a")), Some (0, 4))
      ∷ (Leaf (Text (codes "!b")), Some (4, 6)) ∷ (End end.Paragraph, Some (0, 6)) ∷ []) ∷ [];
  answers = record { handed = ([]) ∷ ((codes "`a`!b") ∷ []) ∷ []; error = None };
}

-- a range of an event other than a text
abbrev pub a_range_of_an_event_other_than_a_text : Calls
a_range_of_an_event_other_than_a_text = record {
  setting = setting default_options 0 ((
    0,
    (codes "`a`&b"),
    reading_of (Start Paragraph ∷ Leaf (Code (codes "a"))
        ∷ Leaf (Text (codes "&b")) ∷ End end.Paragraph ∷ []) ([]) ([]),
  ) ∷ []);
  source = (codes "`a`&b");
  calls = ((Start Paragraph, Some (0, 5)) ∷ (Leaf (Code (codes "a")), Some (0, 3))
      ∷ (Leaf (Text (codes "&b")), Some (3, 5)) ∷ (End end.Paragraph, Some (0, 5)) ∷ []) ∷ [];
  answers = record { handed = ([]) ∷ ((codes "`a`&b") ∷ []) ∷ []; error = None };
}

-- a text without a range beside one with a range
abbrev pub a_text_without_a_range_beside_one_with_a_range : Calls
a_text_without_a_range_beside_one_with_a_range = record {
  setting = setting default_options 0 ([]);
  source = (codes "&#97;");
  calls = ((Start Paragraph, None) ∷ (Leaf (Text (codes "a")), Some (0, 5)) ∷ (Leaf (Text (codes "b")), None)
      ∷ (End end.Paragraph, None) ∷ []) ∷ [];
  answers = record { handed = ([]) ∷ ((codes "ab") ∷ []) ∷ []; error = None };
}

-- a text whose range another text goes on with
abbrev pub a_text_whose_range_another_text_goes_on_with : Calls
a_text_whose_range_another_text_goes_on_with = record {
  setting = setting default_options 0 ((
    0,
    (codes "&#97;b"),
    reading_of (Start Paragraph ∷ Leaf (Text (codes "a"))
        ∷ Leaf (Text (codes "b")) ∷ End end.Paragraph ∷ []) ([]) ([]),
  ) ∷ []);
  source = (codes "&#97;b");
  calls = ((Start Paragraph, None) ∷ (Leaf (Text (codes "a")), Some (0, 5)) ∷ (Leaf (Text (codes "b")), Some (5, 6))
      ∷ (End end.Paragraph, None) ∷ []) ∷ [];
  answers = record { handed = ([]) ∷ ((codes "&#97;b") ∷ []) ∷ []; error = None };
}

-- a text without a range beside one whose source is read as both
abbrev pub a_text_without_a_range_beside_one_whose_source_is_read_as_both : Calls
a_text_without_a_range_beside_one_whose_source_is_read_as_both = record {
  setting = setting default_options 0 ([]);
  source = (codes "x");
  calls = ((Start Paragraph, None) ∷ (Leaf (Text (codes "a")), Some (0, 1)) ∷ (Leaf (Text (codes "b")), None)
      ∷ (End end.Paragraph, None) ∷ []) ∷ [];
  answers = record { handed = ([]) ∷ ((codes "ab") ∷ []) ∷ []; error = None };
}

-- a range that is reversed
abbrev pub a_range_that_is_reversed : Calls
a_range_that_is_reversed = record {
  setting = setting default_options 0 ([]);
  source = (codes "ab");
  calls = ((Start Paragraph, None) ∷ (Leaf (Text (codes "a")), Some (1, 0)) ∷ (End end.Paragraph, None) ∷ []) ∷ [];
  answers = record { handed = ([]) ∷ []; error = Some InvalidSourceRange };
}

-- a range past the end of the source
abbrev pub a_range_past_the_end_of_the_source : Calls
a_range_past_the_end_of_the_source = record {
  setting = setting default_options 0 ([]);
  source = (codes "ab");
  calls = ((Start Paragraph, None) ∷ (Leaf (Text (codes "a")), Some (0, 3)) ∷ (End end.Paragraph, None) ∷ []) ∷ [];
  answers = record { handed = ([]) ∷ []; error = Some InvalidSourceRange };
}

-- a range to the end of the source
abbrev pub a_range_to_the_end_of_the_source : Calls
a_range_to_the_end_of_the_source = record {
  setting = setting default_options 0 ([]);
  source = (codes "ab");
  calls = ((Start Paragraph, None) ∷ (Leaf (Text (codes "b")), Some (1, 2)) ∷ (End end.Paragraph, Some (2, 2)) ∷ [])
      ∷ [];
  answers = record { handed = ([]) ∷ ((codes "b") ∷ []) ∷ []; error = None };
}

-- a range that begins inside a character
abbrev pub a_range_that_begins_inside_a_character : Calls
a_range_that_begins_inside_a_character = record {
  setting = setting default_options 0 ([]);
  source = (encode_utf8_all (codes "é"));
  calls = ((Start Paragraph, None) ∷ (Leaf (Text (codes "a")), Some (1, 2)) ∷ (End end.Paragraph, None) ∷ []) ∷ [];
  answers = record { handed = ([]) ∷ []; error = Some InvalidSourceRange };
}

-- a range that ends inside a character
abbrev pub a_range_that_ends_inside_a_character : Calls
a_range_that_ends_inside_a_character = record {
  setting = setting default_options 0 ([]);
  source = (encode_utf8_all (codes "é"));
  calls = ((Start Paragraph, None) ∷ (Leaf (Text (codes "a")), Some (0, 1)) ∷ (End end.Paragraph, None) ∷ []) ∷ [];
  answers = record { handed = ([]) ∷ []; error = Some InvalidSourceRange };
}

-- ranges beside characters of two, three and four bytes
abbrev pub ranges_beside_characters_of_two_three_and_four_bytes : Calls
ranges_beside_characters_of_two_three_and_four_bytes = record {
  setting = setting default_options 0 ([]);
  source = (encode_utf8_all (codes "é—😀"));
  calls = ((Start Paragraph, None) ∷ (Leaf (Text (encode_utf8_all (codes "é"))), Some (0, 2))
      ∷ (Leaf (Text (encode_utf8_all (codes "—"))), Some (2, 5))
      ∷ (Leaf (Text (encode_utf8_all (codes "😀"))), Some (5, 9)) ∷ (End end.Paragraph, None) ∷ []) ∷ [];
  answers = record { handed = ([]) ∷ ((encode_utf8_all (codes "é—😀")) ∷ []) ∷ []; error = None };
}

-- a bad range after a whole unit
abbrev pub a_bad_range_behind_a_whole_unit : Calls
a_bad_range_behind_a_whole_unit = record {
  setting = setting default_options 0 ([]);
  source = (codes "ab");
  calls = ((Start Paragraph, None) ∷ (Leaf (Text (codes "a")), None) ∷ (End end.Paragraph, None) ∷ [])
      ∷ ((Start Paragraph, Some (2, 1)) ∷ (Leaf (Text (codes "b")), None) ∷ (End end.Paragraph, None) ∷ []) ∷ [];
  answers = record { handed = ([]) ∷ ([]) ∷ []; error = Some InvalidSourceRange };
}

-- a bad range after a bad End
abbrev pub a_bad_range_behind_a_bad_end : Calls
a_bad_range_behind_a_bad_end = record {
  setting = setting default_options 0 ([]);
  source = (codes "ab");
  calls = ((Leaf (Text (codes "a")), None) ∷ (End end.Paragraph, Some (2, 1)) ∷ []) ∷ [];
  answers = record { handed = ([]) ∷ []; error = Some InvalidSourceRange };
}

-- an End of another container
abbrev pub an_end_of_another_container : Calls
an_end_of_another_container = record {
  setting = setting default_options 0 ([]);
  source = [];
  calls = ((Start Paragraph, None) ∷ (Leaf (Text (codes "a")), None) ∷ (End end.Emphasis, None) ∷ []) ∷ [];
  answers = record { handed = ([]) ∷ []; error = Some UnexpectedEvent };
}

-- an End of nothing
abbrev pub an_end_of_nothing : Calls
an_end_of_nothing = record {
  setting = setting default_options 0 ([]);
  source = [];
  calls = ((Leaf (Text (codes "a")), None) ∷ []) ∷ ((End end.Paragraph, None) ∷ []) ∷ [];
  answers = record { handed = ([]) ∷ ((codes "a") ∷ []) ∷ []; error = Some UnexpectedEvent };
}

-- an End of a heading of another level
abbrev pub an_end_of_a_heading_of_another_level : Calls
an_end_of_a_heading_of_another_level = record {
  setting = setting default_options 0 ([]);
  source = [];
  calls = ((Start (Heading level.H1 None ([]) ([])), None) ∷ (Leaf (Text (codes "a")), None)
      ∷ (End (end.Heading level.H2), None) ∷ []) ∷ [];
  answers = record { handed = ([]) ∷ []; error = Some UnexpectedEvent };
}

-- an End of a list of another kind
abbrev pub an_end_of_a_list_of_another_kind : Calls
an_end_of_a_list_of_another_kind = record {
  setting = setting default_options 0 ([]);
  source = [];
  calls = ((Start (ListOf None), None) ∷ (End (end.List true), None) ∷ []) ∷ [];
  answers = record { handed = ([]) ∷ []; error = Some UnexpectedEvent };
}

-- an End of a container further out
abbrev pub an_end_of_a_container_further_out : Calls
an_end_of_a_container_further_out = record {
  setting = setting default_options 0 ([]);
  source = [];
  calls = ((Start (BlockQuote None), None) ∷ (Start Paragraph, None) ∷ (Leaf (Text (codes "a")), None)
      ∷ (End (end.BlockQuote None), None) ∷ []) ∷ [];
  answers = record { handed = ([]) ∷ []; error = Some UnexpectedEvent };
}

-- a container that is open at the end
abbrev pub a_container_that_is_open_at_the_end : Calls
a_container_that_is_open_at_the_end = record {
  setting = setting default_options 0 ([]);
  source = [];
  calls = ((Start Paragraph, None) ∷ (Leaf (Text (codes "a")), None) ∷ (End end.Paragraph, None)
      ∷ (Start Paragraph, None) ∷ (Leaf (Text (codes "b")), None) ∷ []) ∷ [];
  answers = record { handed = ((codes "a") ∷ []) ∷ ([]) ∷ []; error = Some UnexpectedEvent };
}

-- a list that waits, and what follows it in later calls
abbrev pub a_list_that_waits_and_what_follows_it_in_later_calls : Calls
a_list_that_waits_and_what_follows_it_in_later_calls = record {
  setting = setting default_options 0 ([]);
  source = [];
  calls = ((Start Paragraph, None) ∷ (Leaf (Text (codes "a")), None) ∷ (End end.Paragraph, None)
      ∷ (Start (ListOf None), None) ∷ (Start Item, None) ∷ (Start Paragraph, None) ∷ (Leaf (Text (codes "x")), None)
      ∷ (End end.Paragraph, None) ∷ (End end.Item, None) ∷ (End (end.List false), None) ∷ [])
      ∷ ((Start Paragraph, None) ∷ []) ∷ ((Leaf (Text (codes "b")), None) ∷ (End end.Paragraph, None) ∷ []) ∷ [];
  answers = record {
    handed = ((codes "a") ∷ []) ∷ ([]) ∷ ([]) ∷ ((codes "\n\n* [cmark-loose-1]: <>\n  \n  x\n\nb")
        ∷ []) ∷ [];
    error = None;
  };
}

-- the reserved label is none that was looked up in vain
abbrev pub the_reserved_label_is_none_that_was_looked_up_in_vain : Calls
the_reserved_label_is_none_that_was_looked_up_in_vain = record {
  setting = setting default_options 0 ((
    0,
    (codes "\\[CMARK-loose-1\\]"),
    reading_of (Start Paragraph
        ∷ Leaf (Text (codes "[CMARK-loose-1]")) ∷ End end.Paragraph ∷ []) ([]) ((codes "CMARK-loose-1") ∷ []),
  ) ∷ []);
  source = [];
  calls = ((Start Paragraph, None) ∷ (Leaf (Text (codes "[")), None) ∷ (Leaf (Text (codes "CMARK-loose-1]")), None)
      ∷ (End end.Paragraph, None) ∷ (Start Paragraph, None) ∷ (Leaf (Text (codes "a")), None)
      ∷ (End end.Paragraph, None) ∷ []) ∷ ((Start (ListOf None), None) ∷ (Start Item, None) ∷ (Start Paragraph, None)
      ∷ (Leaf (Text (codes "x")), None) ∷ (End end.Paragraph, None) ∷ (End end.Item, None)
      ∷ (End (end.List false), None) ∷ []) ∷ [];
  answers = record {
    handed = ((codes "\\[CMARK-loose-1\\]") ∷ []) ∷ ((codes "\n\na") ∷ [])
        ∷ ((codes "\n\n* [cmark-loose-2]: <>\n  \n  x") ∷ []) ∷ [];
    error = None;
  };
}

-- the reserved label is no id of a link
abbrev pub the_reserved_label_is_no_id_of_a_link : Calls
the_reserved_label_is_no_id_of_a_link = record {
  setting = setting default_options 0 ([]);
  source = [];
  calls = ((Start (BlockQuote None), None) ∷ (Start Paragraph, None)
      ∷ (Start (Link link.Reference (codes "u") [] (codes "cmark-Loose-1")), None) ∷ (Leaf (Text (codes "a")), None)
      ∷ (End end.Link, None) ∷ (End end.Paragraph, None) ∷ (Start (ListOf None), None) ∷ (Start Item, None)
      ∷ (Start Paragraph, None) ∷ (Leaf (Text (codes "x")), None) ∷ (End end.Paragraph, None) ∷ (End end.Item, None)
      ∷ (End (end.List false), None) ∷ (End (end.BlockQuote None), None) ∷ []) ∷ [];
  answers = record {
    handed = ([]) ∷ ((codes
        "\n > \n > [a][cmark-Loose-1]\n > \n > * [cmark-loose-2]: <>\n >   \n >   x") ∷ (codes "\n\n[cmark-Loose-1]: u")
        ∷ []) ∷ [];
    error = None;
  };
}

-- the reserved label is none that is defined
abbrev pub the_reserved_label_is_none_that_is_defined : Calls
the_reserved_label_is_none_that_is_defined = record {
  setting = setting default_options 0 ((
    0,
    (codes "[a][cmark-loose-1]"),
    reading_of (Start Paragraph
        ∷ Leaf (Text (codes "[a][cmark-loose-1]")) ∷ End end.Paragraph ∷ []) ([]) ((codes "cmark-loose-1") ∷ []),
  )
      ∷ (
        0,
        (codes "\n\n[a][cmark-loose-2]"),
        reading_of (Start Paragraph ∷ Leaf (Text (codes "[a][cmark-loose-2]"))
            ∷ End end.Paragraph ∷ []) ([]) ((codes "cmark-loose-2") ∷ []),
      ) ∷ []);
  source = [];
  calls = ((Start Paragraph, None) ∷ (Start (Link link.Reference (codes "u") [] (codes "cmark-loose-1")), None)
      ∷ (Leaf (Text (codes "a")), None) ∷ (End end.Link, None) ∷ (End end.Paragraph, None) ∷ [])
      ∷ ((Start Paragraph, None) ∷ (Start (Link link.Reference (codes "u") [] (codes "cmark-loose-2")), None)
      ∷ (Leaf (Text (codes "a")), None) ∷ (End end.Link, None) ∷ (End end.Paragraph, None) ∷ [])
      ∷ ((Start (ListOf None), None) ∷ (Start Item, None) ∷ (Start Paragraph, None) ∷ (Leaf (Text (codes "x")), None)
      ∷ (End end.Paragraph, None) ∷ (End end.Item, None) ∷ (End (end.List false), None) ∷ []) ∷ [];
  answers = record {
    handed = ([]) ∷ ((codes "[a][cmark-loose-1]") ∷ []) ∷ ((codes "\n\n[a][cmark-loose-2]") ∷ [])
        ∷ ((codes "\n\n* [cmark-loose-3]: <>\n  \n  x") ∷ (codes "\n\n[cmark-loose-1]: u\n[cmark-loose-2]: u") ∷ [])
        ∷ [];
    error = None;
  };
}

-- a list that waits has no label before the end
abbrev pub a_list_that_waits_has_no_label_before_the_end : Calls
a_list_that_waits_has_no_label_before_the_end = record {
  setting = setting default_options 0 ([]);
  source = [];
  calls = ((Start (ListOf None), None) ∷ (Start Item, None) ∷ (Start Paragraph, None)
      ∷ (Leaf (Text (codes "x")), None) ∷ (End end.Paragraph, None) ∷ (End end.Item, None)
      ∷ (End (end.List false), None) ∷ (Start Paragraph, None) ∷ []) ∷ [];
  answers = record { handed = ([]) ∷ ([]) ∷ []; error = Some UnexpectedEvent };
}

-- metadata is read in the first unit alone
abbrev pub metadata_is_read_in_the_first_unit_alone : Calls
metadata_is_read_in_the_first_unit_alone = record {
  setting = setting default_options 384 ((
    384,
    (codes "*a*"),
    reading_of (Start Paragraph ∷ Start Emphasis
        ∷ Leaf (Text (codes "a")) ∷ End end.Emphasis ∷ End end.Paragraph ∷ []) ([]) ([]),
  )
      ∷ (
        0,
        (codes "\n\n*a*"),
        reading_of (Start Paragraph ∷ Start Emphasis ∷ Leaf (Text (codes "a"))
            ∷ End end.Emphasis ∷ End end.Paragraph ∷ []) ([]) ([]),
      ) ∷ []);
  source = [];
  calls = ((Start Paragraph, None) ∷ (Start Emphasis, None) ∷ (Leaf (Text (codes "a")), None)
      ∷ (End end.Emphasis, None) ∷ (End end.Paragraph, None) ∷ []) ∷ ((Start Paragraph, None) ∷ (Start Emphasis, None)
      ∷ (Leaf (Text (codes "a")), None) ∷ (End end.Emphasis, None) ∷ (End end.Paragraph, None) ∷ []) ∷ [];
  answers = record { handed = ([]) ∷ ((codes "*a*") ∷ []) ∷ ((codes "\n\n*a*") ∷ []) ∷ []; error = None };
}

-- the definitions of two units
abbrev pub the_definitions_of_two_units : Calls
the_definitions_of_two_units = record {
  setting = setting default_options 0 ([]);
  source = [];
  calls = ((Start Paragraph, None) ∷ (Start (Link link.Reference (codes "u") [] (codes "r")), None)
      ∷ (Leaf (Text (codes "a")), None) ∷ (End end.Link, None) ∷ (End end.Paragraph, None) ∷ [])
      ∷ ((Start Paragraph, None) ∷ (Start (Link link.Reference (codes "v") [] (codes "s")), None)
      ∷ (Leaf (Text (codes "b")), None) ∷ (End end.Link, None) ∷ (End end.Paragraph, None) ∷ []) ∷ [];
  answers = record {
    handed = ([]) ∷ ((codes "[a][r]") ∷ []) ∷ ((codes "\n\n[b][s]") ∷ (codes "\n\n[r]: u\n[s]: v")
        ∷ []) ∷ [];
    error = None;
  };
}

-- definitions before a code block at the end
abbrev pub definitions_before_a_code_block_at_the_end : Calls
definitions_before_a_code_block_at_the_end = record {
  setting = setting default_options 0 ([]);
  source = [];
  calls = ((Start Paragraph, None) ∷ (Start (Link link.Reference (codes "u") [] (codes "r")), None)
      ∷ (Leaf (Text (codes "a")), None) ∷ (End end.Link, None) ∷ (End end.Paragraph, None) ∷ [])
      ∷ ((Start (CodeBlock (Fenced [])), None) ∷ (Leaf (Text (codes "x\n")), None) ∷ (End end.CodeBlock, None) ∷ [])
      ∷ [];
  answers = record {
    handed = ([]) ∷ ((codes "[a][r]") ∷ []) ∷ ((codes "\n\n[r]: u\n\n````\nx\n````") ∷ [])
        ∷ [];
    error = None;
  };
}

-- a code block before the last unit, and definitions
abbrev pub a_code_block_before_the_last_unit_and_definitions : Calls
a_code_block_before_the_last_unit_and_definitions = record {
  setting = setting default_options 0 ([]);
  source = [];
  calls = ((Start Paragraph, None) ∷ (Start (Link link.Reference (codes "u") [] (codes "r")), None)
      ∷ (Leaf (Text (codes "a")), None) ∷ (End end.Link, None) ∷ (End end.Paragraph, None) ∷ [])
      ∷ ((Start (CodeBlock (Fenced [])), None) ∷ (Leaf (Text (codes "x\n")), None) ∷ (End end.CodeBlock, None) ∷ [])
      ∷ ((Start Paragraph, None) ∷ (Leaf (Text (codes "b")), None) ∷ (End end.Paragraph, None) ∷ []) ∷ [];
  answers = record {
    handed = ([]) ∷ ((codes "[a][r]") ∷ []) ∷ ((codes "\n\n````\nx\n````") ∷ []) ∷ ((codes "\n\nb")
        ∷ (codes "\n\n[r]: u") ∷ []) ∷ [];
    error = None;
  };
}

-- a unit that can’t be represented after another one
abbrev pub a_unit_that_can_t_be_represented_behind_another_one : Calls
a_unit_that_can_t_be_represented_behind_another_one = record {
  setting = setting default_options 0 ([]);
  source = [];
  calls = ((Start Paragraph, None) ∷ (Leaf (Text (codes "a")), None) ∷ (End end.Paragraph, None) ∷ [])
      ∷ ((Start Paragraph, None) ∷ (Start Emphasis, None) ∷ (Leaf (Text (codes "a")), None) ∷ (End end.Emphasis, None)
      ∷ (End end.Paragraph, None) ∷ []) ∷ ((Start Paragraph, None) ∷ (Leaf (Text (codes "b")), None)
      ∷ (End end.Paragraph, None) ∷ []) ∷ [];
  answers = record { handed = ([]) ∷ ((codes "a") ∷ []) ∷ ([]) ∷ []; error = Some Unrepresentable };
}

-- an item in no list after a paragraph
abbrev pub an_item_in_no_list_behind_a_paragraph : Calls
an_item_in_no_list_behind_a_paragraph = record {
  setting = setting default_options 0 ([]);
  source = [];
  calls = ((Start Paragraph, None) ∷ (Leaf (Text (codes "a")), None) ∷ (End end.Paragraph, None) ∷ [])
      ∷ ((Start Item, None) ∷ (Leaf (Text (codes "b")), None) ∷ (End end.Item, None) ∷ []) ∷ ((Start Paragraph, None)
      ∷ (Leaf (Text (codes "c")), None) ∷ (End end.Paragraph, None) ∷ []) ∷ [];
  answers = record { handed = ([]) ∷ ((codes "a") ∷ []) ∷ ([]) ∷ []; error = Some UnexpectedEvent };
}

-- a whole unit is written before a wrong End
abbrev pub a_whole_unit_is_written_before_a_wrong_end : Calls
a_whole_unit_is_written_before_a_wrong_end = record {
  setting = setting default_options 0 ([]);
  source = [];
  calls = ((Start Paragraph, None) ∷ (Leaf (Text (codes "a")), None) ∷ (End end.Paragraph, None)
      ∷ (End end.Paragraph, None) ∷ []) ∷ [];
  answers = record { handed = ((codes "a") ∷ []) ∷ []; error = Some UnexpectedEvent };
}

-- two readings of one text under two flags
abbrev pub two_readings_of_one_text_under_two_flags : Calls
two_readings_of_one_text_under_two_flags = record {
  setting = setting default_options 256 ((
    256,
    (codes "_a_"),
    reading_of (Start Paragraph ∷ Start Emphasis
        ∷ Leaf (Text (codes "a")) ∷ End end.Emphasis ∷ End end.Paragraph ∷ []) ([]) ([]),
  )
      ∷ (
        0,
        (codes "\n\n*a*"),
        reading_of (Start Paragraph ∷ Start Emphasis ∷ Leaf (Text (codes "a"))
            ∷ End end.Emphasis ∷ End end.Paragraph ∷ []) ([]) ([]),
      ) ∷ []);
  source = [];
  calls = ((Start Paragraph, None) ∷ (Start Emphasis, None) ∷ (Leaf (Text (codes "a")), None)
      ∷ (End end.Emphasis, None) ∷ (End end.Paragraph, None) ∷ []) ∷ ((Start Paragraph, None) ∷ (Start Emphasis, None)
      ∷ (Leaf (Text (codes "a")), None) ∷ (End end.Emphasis, None) ∷ (End end.Paragraph, None) ∷ []) ∷ [];
  answers = record { handed = ([]) ∷ ((codes "_a_") ∷ []) ∷ ((codes "\n\n*a*") ∷ []) ∷ []; error = None };
}

-- all of these
abbrev pub calls : List Calls
calls = a_paragraph_in_two_calls_and_one_more ∷ no_events_at_all ∷ texts_that_are_units_of_their_own
    ∷ a_text_from_the_source_with_the_backslash_before_it ∷ a_backslash_that_an_earlier_text_holds
    ∷ a_backslash_that_an_earlier_code_span_holds ∷ a_range_of_an_event_other_than_a_text
    ∷ a_text_without_a_range_beside_one_with_a_range ∷ a_text_whose_range_another_text_goes_on_with
    ∷ a_text_without_a_range_beside_one_whose_source_is_read_as_both ∷ a_range_that_is_reversed
    ∷ a_range_past_the_end_of_the_source ∷ a_range_to_the_end_of_the_source ∷ a_range_that_begins_inside_a_character
    ∷ a_range_that_ends_inside_a_character ∷ ranges_beside_characters_of_two_three_and_four_bytes
    ∷ a_bad_range_behind_a_whole_unit ∷ a_bad_range_behind_a_bad_end ∷ an_end_of_another_container ∷ an_end_of_nothing
    ∷ an_end_of_a_heading_of_another_level ∷ an_end_of_a_list_of_another_kind ∷ an_end_of_a_container_further_out
    ∷ a_container_that_is_open_at_the_end ∷ a_list_that_waits_and_what_follows_it_in_later_calls
    ∷ the_reserved_label_is_none_that_was_looked_up_in_vain ∷ the_reserved_label_is_no_id_of_a_link
    ∷ the_reserved_label_is_none_that_is_defined ∷ a_list_that_waits_has_no_label_before_the_end
    ∷ metadata_is_read_in_the_first_unit_alone ∷ the_definitions_of_two_units
    ∷ definitions_before_a_code_block_at_the_end ∷ a_code_block_before_the_last_unit_and_definitions
    ∷ a_unit_that_can_t_be_represented_behind_another_one ∷ an_item_in_no_list_behind_a_paragraph
    ∷ a_whole_unit_is_written_before_a_wrong_end ∷ two_readings_of_one_text_under_two_flags ∷ []
