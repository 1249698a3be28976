-- Letters, numbers and punctuation past ASCII, beside markers.
use Rattle.std.specs.Prelude.{[], ◌∷◌, codes, List, encode_utf8_all}
use Rattle.tocmark_event.specs.Forest.{empty, node}
use Rattle.tocmark_event.specs.Options.{default_options}
use Rattle.tocmark_event.specs.View.{Paragraph}
use Rattle.test_definitions.specs.Script.{wrote, text, setting, Row}

-- an underscore between letters past ASCII
abbrev pub an_underscore_between_letters_past_ascii : Row
an_underscore_between_letters_past_ascii = record {
  setting = setting default_options 0 ([]);
  trees = node Paragraph (text (encode_utf8_all (codes "é_é")) empty) empty;
  written = wrote ((encode_utf8_all (codes "é_é")) ∷ []);
}

-- an underscore after a number past ASCII
abbrev pub an_underscore_behind_a_number_past_ascii : Row
an_underscore_behind_a_number_past_ascii = record {
  setting = setting default_options 0 ([]);
  trees = node Paragraph (text (encode_utf8_all (codes "²_b")) empty) empty;
  written = wrote ((encode_utf8_all (codes "²_b")) ∷ []);
}

-- an underscore after punctuation past ASCII
abbrev pub an_underscore_behind_punctuation_past_ascii : Row
an_underscore_behind_punctuation_past_ascii = record {
  setting = setting default_options 0 ([]);
  trees = node Paragraph (text (encode_utf8_all (codes "«_b")) empty) empty;
  written = wrote ((encode_utf8_all (codes "«\\_b")) ∷ []);
}

-- a caret after a letter past ASCII
abbrev pub a_caret_behind_a_letter_past_ascii : Row
a_caret_behind_a_letter_past_ascii = record {
  setting = setting default_options 0 ([]);
  trees = node Paragraph (text (encode_utf8_all (codes "é^")) empty) empty;
  written = wrote ((encode_utf8_all (codes "é^")) ∷ []);
}

-- all of these
abbrev pub rules_of_letters : List Row
rules_of_letters = an_underscore_between_letters_past_ascii ∷ an_underscore_behind_a_number_past_ascii
    ∷ an_underscore_behind_punctuation_past_ascii ∷ a_caret_behind_a_letter_past_ascii ∷ []
