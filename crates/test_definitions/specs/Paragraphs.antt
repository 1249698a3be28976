-- Small paragraphs, and how all candidates spell them.
use Rattle.std.specs.Prelude.{[], ◌∷◌, ◌++◌, codes, List, encode_utf8_all}
use Rattle.tocmark_event.specs.Forest.{empty, node}
use Rattle.tocmark_event.specs.Options.{default_options}
use Rattle.tocmark_event.specs.View.{Paragraph, Emphasis, Strong, Strikethrough, Superscript, Subscript, Text, Code, InlineHtml, SoftBreak, HardBreak, Start, End, Leaf}
use Rattle.tocmark_event.specs.declared.event.TagEnd.TheVariants as end
use Rattle.test_definitions.specs.Script.{text, one, setting, reading_of}
use Rattle.test_definitions.specs.Tried.{Tried}

-- Emphasis
abbrev pub emphasis : Tried
emphasis = record {
  setting = setting default_options 0 ([]);
  trees = node Paragraph (node Emphasis (text (codes "a") empty) empty) empty;
  texts = (codes "*a*\n")
      ++ (codes "*a*\n_a_\n*a*\n_a_\n")
      ++ (codes "*a*\n*a*\n_a_\n_a_\n")
      ++ (codes "*a*\n*a*\n_a_\n_a_\n")
      ++ (codes "*a*\n*a*\n_a_\n_a_\n")
      ++ (codes "*a*\n*a*\n_a_\n_a_\n")
      ++ (codes "*a*\n*a*\n_a_\n_a_\n")
      ++ (codes "*a*\n*a*\n_a_\n_a_\n")
      ++ (codes "*a*\n*a*\n_a_\n_a_\n")
      ++ (codes "*a*\n*a*\n_a_\n_a_\n")
      ++ (codes "*a*\n*a*\n_a_\n_a_\n")
      ++ (codes "*a*\n*a*\n_a_\n_a_\n")
      ++ (codes "*a*\n*a*\n_a_\n_a_\n")
      ++ (codes "*a*\n*a*\n_a_\n_a_\n")
      ++ (codes "*a*\n*a*\n_a_\n_a_\n")
      ++ (codes "*a*\n*a*\n_a_\n_a_\n");
}

-- Strong
abbrev pub strong : Tried
strong = record {
  setting = setting default_options 0 ([]);
  trees = node Paragraph (node Strong (text (codes "a") empty) empty) empty;
  texts = (codes "**a**\n")
      ++ (codes "**a**\n**a**\n__a__\n__a__\n")
      ++ (codes "**a**\n__a__\n**a**\n__a__\n")
      ++ (codes "**a**\n__a__\n**a**\n__a__\n")
      ++ (codes "**a**\n__a__\n**a**\n__a__\n")
      ++ (codes "**a**\n__a__\n**a**\n__a__\n")
      ++ (codes "**a**\n__a__\n**a**\n__a__\n")
      ++ (codes "**a**\n__a__\n**a**\n__a__\n")
      ++ (codes "**a**\n__a__\n**a**\n__a__\n")
      ++ (codes "**a**\n__a__\n**a**\n__a__\n")
      ++ (codes "**a**\n__a__\n**a**\n__a__\n")
      ++ (codes "**a**\n__a__\n**a**\n__a__\n")
      ++ (codes "**a**\n__a__\n**a**\n__a__\n")
      ++ (codes "**a**\n__a__\n**a**\n__a__\n")
      ++ (codes "**a**\n__a__\n**a**\n__a__\n")
      ++ (codes "**a**\n__a__\n**a**\n__a__\n");
}

-- Emphasis in a word
abbrev pub emphasis_in_a_word : Tried
emphasis_in_a_word = record {
  setting = setting default_options 0 ([]);
  trees = node Paragraph (text (codes "a") (node Emphasis (text (codes "b") empty) (text (codes "c") empty))) empty;
  texts = (codes "a*b*c\n")
      ++ (codes "a*b*c\na*b*c\na*b*c\na*b*c\n")
      ++ (codes "&#97;*b*&#99;\n&#97;*b*&#99;\n&#97;_b_&#99;\n&#97;_b_&#99;\n")
      ++ (codes "&#97;*b*&#99;\n&#97;*b*&#99;\n&#97;_b_&#99;\n&#97;_b_&#99;\n")
      ++ (codes "a*b*c\na*b*c\na*b*c\na*b*c\n")
      ++ (codes "a*b*c\na*b*c\na_b_c\na_b_c\n")
      ++ (codes "a*b*c\na*b*c\na_b_c\na_b_c\n")
      ++ (codes "a*b*c\na*b*c\na_b_c\na_b_c\n")
      ++ (codes "a*b*c\na*b*c\na_b_c\na_b_c\n")
      ++ (codes "a*b*c\na*b*c\na_b_c\na_b_c\n")
      ++ (codes "a*b*c\na*b*c\na_b_c\na_b_c\n")
      ++ (codes "&#97;*b*&#99;\n&#97;*b*&#99;\n&#97;_b_&#99;\n&#97;_b_&#99;\n")
      ++ (codes "a*b*c\na*b*c\na_b_c\na_b_c\n")
      ++ (codes "a*b*c\na*b*c\na_b_c\na_b_c\n")
      ++ (codes "a*b*c\na*b*c\na_b_c\na_b_c\n")
      ++ (codes "a*b*c\na*b*c\na_b_c\na_b_c\n");
}

-- Strong in a word
abbrev pub strong_in_a_word : Tried
strong_in_a_word = record {
  setting = setting default_options 0 ([]);
  trees = node Paragraph (text (codes "a") (node Strong (text (codes "b") empty) (text (codes "c") empty))) empty;
  texts = (codes "a**b**c\n")
      ++ (codes "a**b**c\na**b**c\na**b**c\na**b**c\n")
      ++ (codes "&#97;**b**&#99;\n&#97;__b__&#99;\n&#97;**b**&#99;\n&#97;__b__&#99;\n")
      ++ (codes "&#97;**b**&#99;\n&#97;__b__&#99;\n&#97;**b**&#99;\n&#97;__b__&#99;\n")
      ++ (codes "a**b**c\na**b**c\na**b**c\na**b**c\n")
      ++ (codes "a**b**c\na__b__c\na**b**c\na__b__c\n")
      ++ (codes "a**b**c\na__b__c\na**b**c\na__b__c\n")
      ++ (codes "a**b**c\na__b__c\na**b**c\na__b__c\n")
      ++ (codes "a**b**c\na__b__c\na**b**c\na__b__c\n")
      ++ (codes "a**b**c\na__b__c\na**b**c\na__b__c\n")
      ++ (codes "a**b**c\na__b__c\na**b**c\na__b__c\n")
      ++ (codes "&#97;**b**&#99;\n&#97;__b__&#99;\n&#97;**b**&#99;\n&#97;__b__&#99;\n")
      ++ (codes "a**b**c\na__b__c\na**b**c\na__b__c\n")
      ++ (codes "a**b**c\na__b__c\na**b**c\na__b__c\n")
      ++ (codes "a**b**c\na__b__c\na**b**c\na__b__c\n")
      ++ (codes "a**b**c\na__b__c\na**b**c\na__b__c\n");
}

-- Emphasis after a letter
abbrev pub emphasis_behind_a_letter : Tried
emphasis_behind_a_letter = record {
  setting = setting default_options 0 ([]);
  trees = node Paragraph (text (codes "a") (node Emphasis (text (codes "b") empty) empty)) empty;
  texts = (codes "a*b*\n")
      ++ (codes "a*b*\na*b*\na*b*\na*b*\n")
      ++ (codes "&#97;*b*\n&#97;*b*\n&#97;_b_\n&#97;_b_\n")
      ++ (codes "&#97;*b*\n&#97;*b*\n&#97;_b_\n&#97;_b_\n")
      ++ (codes "a*b*\na*b*\na*b*\na*b*\n")
      ++ (codes "a*b*\na*b*\na_b_\na_b_\n")
      ++ (codes "a*b*\na*b*\na_b_\na_b_\n")
      ++ (codes "a*b*\na*b*\na_b_\na_b_\n")
      ++ (codes "a*b*\na*b*\na_b_\na_b_\n")
      ++ (codes "a*b*\na*b*\na_b_\na_b_\n")
      ++ (codes "a*b*\na*b*\na_b_\na_b_\n")
      ++ (codes "&#97;*b*\n&#97;*b*\n&#97;_b_\n&#97;_b_\n")
      ++ (codes "a*b*\na*b*\na_b_\na_b_\n")
      ++ (codes "a*b*\na*b*\na_b_\na_b_\n")
      ++ (codes "a*b*\na*b*\na_b_\na_b_\n")
      ++ (codes "a*b*\na*b*\na_b_\na_b_\n");
}

-- Emphasis before a letter
abbrev pub emphasis_before_a_letter : Tried
emphasis_before_a_letter = record {
  setting = setting default_options 0 ([]);
  trees = node Paragraph (node Emphasis (text (codes "a") empty) (text (codes "b") empty)) empty;
  texts = (codes "*a*b\n")
      ++ (codes "*a*b\n*a*b\n*a*b\n*a*b\n")
      ++ (codes "*a*&#98;\n*a*&#98;\n_a_&#98;\n_a_&#98;\n")
      ++ (codes "*a*&#98;\n*a*&#98;\n_a_&#98;\n_a_&#98;\n")
      ++ (codes "*a*b\n*a*b\n*a*b\n*a*b\n")
      ++ (codes "*a*b\n*a*b\n_a_b\n_a_b\n")
      ++ (codes "*a*b\n*a*b\n_a_b\n_a_b\n")
      ++ (codes "*a*b\n*a*b\n_a_b\n_a_b\n")
      ++ (codes "*a*b\n*a*b\n_a_b\n_a_b\n")
      ++ (codes "*a*b\n*a*b\n_a_b\n_a_b\n")
      ++ (codes "*a*b\n*a*b\n_a_b\n_a_b\n")
      ++ (codes "*a*&#98;\n*a*&#98;\n_a_&#98;\n_a_&#98;\n")
      ++ (codes "*a*b\n*a*b\n_a_b\n_a_b\n")
      ++ (codes "*a*b\n*a*b\n_a_b\n_a_b\n")
      ++ (codes "*a*b\n*a*b\n_a_b\n_a_b\n")
      ++ (codes "*a*b\n*a*b\n_a_b\n_a_b\n");
}

-- Emphasis beside spaces
abbrev pub emphasis_beside_spaces : Tried
emphasis_beside_spaces = record {
  setting = setting default_options 0 ([]);
  trees = node Paragraph (text (codes "a ") (node Emphasis (text (codes "b") empty) (text (codes " c") empty))) empty;
  texts = (codes "a *b* c\n")
      ++ (codes "a *b* c\na _b_ c\na *b* c\na _b_ c\n")
      ++ (codes "a *b* c\na *b* c\na _b_ c\na _b_ c\n")
      ++ (codes "a *b* c\na *b* c\na _b_ c\na _b_ c\n")
      ++ (codes "a *b* c\na *b* c\na _b_ c\na _b_ c\n")
      ++ (codes "a *b* c\na *b* c\na _b_ c\na _b_ c\n")
      ++ (codes "a *b* c\na *b* c\na _b_ c\na _b_ c\n")
      ++ (codes "a *b* c\na *b* c\na _b_ c\na _b_ c\n")
      ++ (codes "a *b* c\na *b* c\na _b_ c\na _b_ c\n")
      ++ (codes "a *b* c\na *b* c\na _b_ c\na _b_ c\n")
      ++ (codes "a *b* c\na *b* c\na _b_ c\na _b_ c\n")
      ++ (codes "a *b* c\na *b* c\na _b_ c\na _b_ c\n")
      ++ (codes "a *b* c\na *b* c\na _b_ c\na _b_ c\n")
      ++ (codes "a *b* c\na *b* c\na _b_ c\na _b_ c\n")
      ++ (codes "a *b* c\na *b* c\na _b_ c\na _b_ c\n")
      ++ (codes "a *b* c\na *b* c\na _b_ c\na _b_ c\n");
}

-- Emphasis beside punctuation
abbrev pub emphasis_beside_punctuation : Tried
emphasis_beside_punctuation = record {
  setting = setting default_options 0 ([]);
  trees = node Paragraph (text (codes "(") (node Emphasis (text (codes "a") empty) (text (codes ")") empty))) empty;
  texts = (codes "(*a*)\n")
      ++ (codes "(*a*)\n(_a_)\n(*a*)\n(_a_)\n")
      ++ (codes "&#40;*a*&#41;\n&#40;*a*&#41;\n&#40;_a_&#41;\n&#40;_a_&#41;\n")
      ++ (codes "&#40;*a*&#41;\n&#40;*a*&#41;\n&#40;_a_&#41;\n&#40;_a_&#41;\n")
      ++ (codes "(*a*)\n(*a*)\n(_a_)\n(_a_)\n")
      ++ (codes "(*a*)\n(*a*)\n(_a_)\n(_a_)\n")
      ++ (codes "(*a*)\n(*a*)\n(_a_)\n(_a_)\n")
      ++ (codes "(*a*)\n(*a*)\n(_a_)\n(_a_)\n")
      ++ (codes "(*a*)\n(*a*)\n(_a_)\n(_a_)\n")
      ++ (codes "(*a*)\n(*a*)\n(_a_)\n(_a_)\n")
      ++ (codes "(*a*)\n(*a*)\n(_a_)\n(_a_)\n")
      ++ (codes "&#40;*a*&#41;\n&#40;*a*&#41;\n&#40;_a_&#41;\n&#40;_a_&#41;\n")
      ++ (codes "(*a*)\n(*a*)\n(_a_)\n(_a_)\n")
      ++ (codes "(*a*)\n(*a*)\n(_a_)\n(_a_)\n")
      ++ (codes "(*a*)\n(*a*)\n(_a_)\n(_a_)\n")
      ++ (codes "(*a*)\n(*a*)\n(_a_)\n(_a_)\n");
}

-- Emphasis round punctuation in a word
abbrev pub emphasis_round_punctuation_in_a_word : Tried
emphasis_round_punctuation_in_a_word = record {
  setting = setting default_options 0 ([]);
  trees = node Paragraph (text (codes "a") (node Emphasis (text (codes "(b)") empty) (text (codes "c") empty))) empty;
  texts = (codes "a*(b)*c\n")
      ++ (codes "a*(b)*c\na*(b)*c\na*(b)*c\na*(b)*c\n")
      ++ (codes "&#97;*(b)*&#99;\n&#97;*(b)*&#99;\n&#97;_(b)_&#99;\n&#97;_(b)_&#99;\n")
      ++ (codes "&#97;*(b)*&#99;\n&#97;*(b)*&#99;\n&#97;_(b)_&#99;\n&#97;_(b)_&#99;\n")
      ++ (codes "a*(b)*c\na*(b)*c\na*(b)*c\na*(b)*c\n")
      ++ (codes "a*(b)*c\na*(b)*c\na_(b)_c\na_(b)_c\n")
      ++ (codes "a*(b)*c\na*(b)*c\na_(b)_c\na_(b)_c\n")
      ++ (codes "a*(b)*c\na*(b)*c\na_(b)_c\na_(b)_c\n")
      ++ (codes "a*(b)*c\na*(b)*c\na_(b)_c\na_(b)_c\n")
      ++ (codes "a*(b)*c\na*(b)*c\na_(b)_c\na_(b)_c\n")
      ++ (codes "a*(b)*c\na*(b)*c\na_(b)_c\na_(b)_c\n")
      ++ (codes "&#97;*(b)*&#99;\n&#97;*(b)*&#99;\n&#97;_(b)_&#99;\n&#97;_(b)_&#99;\n")
      ++ (codes "a*(b)*c\na*(b)*c\na_(b)_c\na_(b)_c\n")
      ++ (codes "a*(b)*c\na*(b)*c\na_(b)_c\na_(b)_c\n")
      ++ (codes "a*(b)*c\na*(b)*c\na_(b)_c\na_(b)_c\n")
      ++ (codes "a*(b)*c\na*(b)*c\na_(b)_c\na_(b)_c\n");
}

-- Emphasis round spaces
abbrev pub emphasis_round_spaces : Tried
emphasis_round_spaces = record {
  setting = setting default_options 0 ([]);
  trees = node Paragraph (node Emphasis (text (codes " a ") empty) empty) empty;
  texts = (codes "*&#32;a *\n")
      ++ (codes "*&#32;a *\n_&#32;a _\n*&#32;a *\n_&#32;a _\n")
      ++ (codes "*&#32;a *\n*&#32;a *\n_&#32;a _\n_&#32;a _\n")
      ++ (codes "*&#32;a *\n*&#32;a *\n_&#32;a _\n_&#32;a _\n")
      ++ (codes "*&#32;a *\n*&#32;a *\n_&#32;a _\n_&#32;a _\n")
      ++ (codes "*&#32;a *\n*&#32;a *\n_&#32;a _\n_&#32;a _\n")
      ++ (codes "*&#32;a *\n*&#32;a *\n_&#32;a _\n_&#32;a _\n")
      ++ (codes "*&#32;a *\n*&#32;a *\n_&#32;a _\n_&#32;a _\n")
      ++ (codes "*&#32;a *\n*&#32;a *\n_&#32;a _\n_&#32;a _\n")
      ++ (codes "*&#32;a *\n*&#32;a *\n_&#32;a _\n_&#32;a _\n")
      ++ (codes "*&#32;a *\n*&#32;a *\n_&#32;a _\n_&#32;a _\n")
      ++ (codes "*&#32;a *\n*&#32;a *\n_&#32;a _\n_&#32;a _\n")
      ++ (codes "*&#32;a *\n*&#32;a *\n_&#32;a _\n_&#32;a _\n")
      ++ (codes "*&#32;a *\n*&#32;a *\n_&#32;a _\n_&#32;a _\n")
      ++ (codes "*&#32;a *\n*&#32;a *\n_&#32;a _\n_&#32;a _\n")
      ++ (codes "*&#32;a *\n*&#32;a *\n_&#32;a _\n_&#32;a _\n");
}

-- Emphasis in Emphasis
abbrev pub emphasis_in_emphasis : Tried
emphasis_in_emphasis = record {
  setting = setting default_options 0 ([]);
  trees = node Paragraph (node Emphasis (node Emphasis (text (codes "a") empty) empty) empty) empty;
  texts = (codes "*_a_*\n")
      ++ (codes "*_a_*\n_*a*_\n*_a_*\n_*a*_\n")
      ++ (codes "*_a_*\n*_a_*\n_*a*_\n_*a*_\n")
      ++ (codes "*_a_*\n*_a_*\n_*a*_\n_*a*_\n")
      ++ (codes "*_a_*\n*_a_*\n_*a*_\n_*a*_\n")
      ++ (codes "**a**\n**a**\n__a__\n__a__\n")
      ++ (codes "**a**\n**a**\n__a__\n__a__\n")
      ++ (codes "*_a_*\n*_a_*\n_*a*_\n_*a*_\n")
      ++ (codes "*_a_*\n*_a_*\n_*a*_\n_*a*_\n")
      ++ (codes "*_a_*\n*_a_*\n_*a*_\n_*a*_\n")
      ++ (codes "*_a_*\n*_a_*\n_*a*_\n_*a*_\n")
      ++ (codes "*_a_*\n*_a_*\n_*a*_\n_*a*_\n")
      ++ (codes "*_a_*\n*_a_*\n_*a*_\n_*a*_\n")
      ++ (codes "*_a_*\n*_a_*\n_*a*_\n_*a*_\n")
      ++ (codes "*_a_*\n*_a_*\n_*a*_\n_*a*_\n")
      ++ (codes "*_a_*\n*_a_*\n_*a*_\n_*a*_\n");
}

-- Strong in Emphasis
abbrev pub strong_in_emphasis : Tried
strong_in_emphasis = record {
  setting = setting default_options 0 ([]);
  trees = node Paragraph (node Emphasis (node Strong (text (codes "a") empty) empty) empty) empty;
  texts = (codes "***a***\n")
      ++ (codes "*__a__*\n_**a**_\n*__a__*\n_**a**_\n")
      ++ (codes "***a***\n***a***\n___a___\n___a___\n")
      ++ (codes "***a***\n***a***\n___a___\n___a___\n")
      ++ (codes "*__a__*\n*__a__*\n_**a**_\n_**a**_\n")
      ++ (codes "***a***\n*__a__*\n_**a**_\n___a___\n")
      ++ (codes "***a***\n*__a__*\n_**a**_\n___a___\n")
      ++ (codes "***a***\n***a***\n___a___\n___a___\n")
      ++ (codes "***a***\n***a***\n___a___\n___a___\n")
      ++ (codes "***a***\n***a***\n___a___\n___a___\n")
      ++ (codes "***a***\n***a***\n___a___\n___a___\n")
      ++ (codes "***a***\n***a***\n___a___\n___a___\n")
      ++ (codes "***a***\n***a***\n___a___\n___a___\n")
      ++ (codes "***a***\n***a***\n___a___\n___a___\n")
      ++ (codes "***a***\n***a***\n___a___\n___a___\n")
      ++ (codes "***a***\n***a***\n___a___\n___a___\n");
}

-- Emphasis in Strong
abbrev pub emphasis_in_strong : Tried
emphasis_in_strong = record {
  setting = setting default_options 0 ([]);
  trees = node Paragraph (node Strong (node Emphasis (text (codes "a") empty) empty) empty) empty;
  texts = (codes "***a***\n")
      ++ (codes "**_a_**\n**_a_**\n__*a*__\n__*a*__\n")
      ++ (codes "**_a_**\n__*a*__\n**_a_**\n__*a*__\n")
      ++ (codes "**_a_**\n__*a*__\n**_a_**\n__*a*__\n")
      ++ (codes "**_a_**\n__*a*__\n**_a_**\n__*a*__\n")
      ++ (codes "***a***\n__*a*__\n**_a_**\n___a___\n")
      ++ (codes "***a***\n__*a*__\n**_a_**\n___a___\n")
      ++ (codes "**_a_**\n__*a*__\n**_a_**\n__*a*__\n")
      ++ (codes "**_a_**\n__*a*__\n**_a_**\n__*a*__\n")
      ++ (codes "**_a_**\n__*a*__\n**_a_**\n__*a*__\n")
      ++ (codes "**_a_**\n__*a*__\n**_a_**\n__*a*__\n")
      ++ (codes "**_a_**\n__*a*__\n**_a_**\n__*a*__\n")
      ++ (codes "**_a_**\n__*a*__\n**_a_**\n__*a*__\n")
      ++ (codes "**_a_**\n__*a*__\n**_a_**\n__*a*__\n")
      ++ (codes "**_a_**\n__*a*__\n**_a_**\n__*a*__\n")
      ++ (codes "**_a_**\n__*a*__\n**_a_**\n__*a*__\n");
}

-- Strong in Strong
abbrev pub strong_in_strong : Tried
strong_in_strong = record {
  setting = setting default_options 0 ([]);
  trees = node Paragraph (node Strong (node Strong (text (codes "a") empty) empty) empty) empty;
  texts = (codes "****a****\n")
      ++ (codes "**__a__**\n**__a__**\n__**a**__\n__**a**__\n")
      ++ (codes "****a****\n____a____\n****a****\n____a____\n")
      ++ (codes "****a****\n____a____\n****a****\n____a____\n")
      ++ (codes "**__a__**\n__**a**__\n**__a__**\n__**a**__\n")
      ++ (codes "****a****\n____a____\n****a****\n____a____\n")
      ++ (codes "****a****\n____a____\n****a****\n____a____\n")
      ++ (codes "****a****\n____a____\n****a****\n____a____\n")
      ++ (codes "****a****\n____a____\n****a****\n____a____\n")
      ++ (codes "****a****\n____a____\n****a****\n____a____\n")
      ++ (codes "****a****\n____a____\n****a****\n____a____\n")
      ++ (codes "****a****\n____a____\n****a****\n____a____\n")
      ++ (codes "****a****\n____a____\n****a****\n____a____\n")
      ++ (codes "****a****\n____a____\n****a****\n____a____\n")
      ++ (codes "****a****\n____a____\n****a****\n____a____\n")
      ++ (codes "****a****\n____a____\n****a****\n____a____\n");
}

-- Emphasis at the beginning of Emphasis
abbrev pub emphasis_at_the_beginning_of_emphasis : Tried
emphasis_at_the_beginning_of_emphasis = record {
  setting = setting default_options 0 ([]);
  trees = node Paragraph (node Emphasis (node Emphasis (text (codes "a") empty) (text (codes "b") empty)) empty)
      empty;
  texts = (codes "**a*b*\n")
      ++ (codes "**a*b*\n_*a*b_\n**a*b*\n_*a*b_\n")
      ++ (codes "**a*&#98;*\n**a*&#98;*\n__a_&#98;_\n__a_&#98;_\n")
      ++ (codes "**a*&#98;*\n**a*&#98;*\n__a_&#98;_\n__a_&#98;_\n")
      ++ (codes "**a*b*\n**a*b*\n_*a*b_\n_*a*b_\n")
      ++ (codes "**a*b*\n**a*b*\n__a_b_\n__a_b_\n")
      ++ (codes "**a*b*\n**a*b*\n__a_b_\n__a_b_\n")
      ++ (codes "**a*b*\n**a*b*\n__a_b_\n__a_b_\n")
      ++ (codes "**a*b*\n**a*b*\n__a_b_\n__a_b_\n")
      ++ (codes "**a*b*\n**a*b*\n__a_b_\n__a_b_\n")
      ++ (codes "**a*b*\n**a*b*\n__a_b_\n__a_b_\n")
      ++ (codes "**a*&#98;*\n**a*&#98;*\n__a_&#98;_\n__a_&#98;_\n")
      ++ (codes "**a*b*\n**a*b*\n__a_b_\n__a_b_\n")
      ++ (codes "**a*b*\n**a*b*\n__a_b_\n__a_b_\n")
      ++ (codes "**a*b*\n**a*b*\n__a_b_\n__a_b_\n")
      ++ (codes "**a*b*\n**a*b*\n__a_b_\n__a_b_\n");
}

-- Emphasis at the end of Emphasis
abbrev pub emphasis_at_the_end_of_emphasis : Tried
emphasis_at_the_end_of_emphasis = record {
  setting = setting default_options 0 ([]);
  trees = node Paragraph (node Emphasis (text (codes "a") (node Emphasis (text (codes "b") empty) empty)) empty)
      empty;
  texts = (codes "_a*b*_\n")
      ++ (codes "_a*b*_\n_a*b*_\n_a*b*_\n_a*b*_\n")
      ++ (codes "*&#97;_b_*\n*&#97;_b_*\n_&#97;*b*_\n_&#97;*b*_\n")
      ++ (codes "*&#97;_b_*\n*&#97;_b_*\n_&#97;*b*_\n_&#97;*b*_\n")
      ++ (codes "_a*b*_\n_a*b*_\n_a*b*_\n_a*b*_\n")
      ++ (codes "*a*b**\n*a*b**\n_a_b__\n_a_b__\n")
      ++ (codes "*a*b**\n*a*b**\n_a_b__\n_a_b__\n")
      ++ (codes "*a_b_*\n*a_b_*\n_a*b*_\n_a*b*_\n")
      ++ (codes "*a*b**\n*a*b**\n_a_b__\n_a_b__\n")
      ++ (codes "*a_b_*\n*a_b_*\n_a*b*_\n_a*b*_\n")
      ++ (codes "*a*b**\n*a*b**\n_a_b__\n_a_b__\n")
      ++ (codes "*&#97;_b_*\n*&#97;_b_*\n_&#97;*b*_\n_&#97;*b*_\n")
      ++ (codes "*a_b_*\n*a_b_*\n_a*b*_\n_a*b*_\n")
      ++ (codes "*a*b**\n*a*b**\n_a_b__\n_a_b__\n")
      ++ (codes "*a_b_*\n*a_b_*\n_a*b*_\n_a*b*_\n")
      ++ (codes "*a*b**\n*a*b**\n_a_b__\n_a_b__\n");
}

-- Emphasis inside Emphasis
abbrev pub emphasis_inside_emphasis : Tried
emphasis_inside_emphasis = record {
  setting = setting default_options 0 ([]);
  trees = node Paragraph (node Emphasis (text (codes "a") (node Emphasis (text (codes "b") empty) (text (codes "c")
      empty))) empty) empty;
  texts = (codes "_a*b*c_\n")
      ++ (codes "_a*b*c_\n_a*b*c_\n_a*b*c_\n_a*b*c_\n")
      ++ (codes "*&#97;_b_&#99;*\n*&#97;_b_&#99;*\n_&#97;*b*&#99;_\n_&#97;*b*&#99;_\n")
      ++ (codes "*&#97;_b_&#99;*\n*&#97;_b_&#99;*\n_&#97;*b*&#99;_\n_&#97;*b*&#99;_\n")
      ++ (codes "_a*b*c_\n_a*b*c_\n_a*b*c_\n_a*b*c_\n")
      ++ (codes "*a*b*c*\n*a*b*c*\n_a_b_c_\n_a_b_c_\n")
      ++ (codes "*a*b*c*\n*a*b*c*\n_a_b_c_\n_a_b_c_\n")
      ++ (codes "*a_b_c*\n*a_b_c*\n_a*b*c_\n_a*b*c_\n")
      ++ (codes "*a_b_c*\n*a_b_c*\n_a*b*c_\n_a*b*c_\n")
      ++ (codes "*a_b_c*\n*a_b_c*\n_a*b*c_\n_a*b*c_\n")
      ++ (codes "*a_b_c*\n*a_b_c*\n_a*b*c_\n_a*b*c_\n")
      ++ (codes "*&#97;_b_&#99;*\n*&#97;_b_&#99;*\n_&#97;*b*&#99;_\n_&#97;*b*&#99;_\n")
      ++ (codes "*a_b_c*\n*a_b_c*\n_a*b*c_\n_a*b*c_\n")
      ++ (codes "*a_b_c*\n*a_b_c*\n_a*b*c_\n_a*b*c_\n")
      ++ (codes "*a_b_c*\n*a_b_c*\n_a*b*c_\n_a*b*c_\n")
      ++ (codes "*a_b_c*\n*a_b_c*\n_a*b*c_\n_a*b*c_\n");
}

-- Strong at the beginning of Emphasis
abbrev pub strong_at_the_beginning_of_emphasis : Tried
strong_at_the_beginning_of_emphasis = record {
  setting = setting default_options 0 ([]);
  trees = node Paragraph (node Emphasis (node Strong (text (codes "a") empty) (text (codes "b") empty)) empty) empty;
  texts = (codes "***a**b*\n")
      ++ (codes "***a**b*\n_**a**b_\n***a**b*\n_**a**b_\n")
      ++ (codes "***a**&#98;*\n***a**&#98;*\n___a__&#98;_\n___a__&#98;_\n")
      ++ (codes "***a**&#98;*\n***a**&#98;*\n___a__&#98;_\n___a__&#98;_\n")
      ++ (codes "***a**b*\n***a**b*\n_**a**b_\n_**a**b_\n")
      ++ (codes "***a**b*\n*__a__b*\n_**a**b_\n___a__b_\n")
      ++ (codes "***a**b*\n*__a__b*\n_**a**b_\n___a__b_\n")
      ++ (codes "***a**b*\n***a**b*\n___a__b_\n___a__b_\n")
      ++ (codes "***a**b*\n***a**b*\n___a__b_\n___a__b_\n")
      ++ (codes "***a**b*\n***a**b*\n___a__b_\n___a__b_\n")
      ++ (codes "***a**b*\n***a**b*\n___a__b_\n___a__b_\n")
      ++ (codes "***a**&#98;*\n***a**&#98;*\n___a__&#98;_\n___a__&#98;_\n")
      ++ (codes "***a**b*\n***a**b*\n___a__b_\n___a__b_\n")
      ++ (codes "***a**b*\n***a**b*\n___a__b_\n___a__b_\n")
      ++ (codes "***a**b*\n***a**b*\n___a__b_\n___a__b_\n")
      ++ (codes "***a**b*\n***a**b*\n___a__b_\n___a__b_\n");
}

-- Strong at the end of Emphasis
abbrev pub strong_at_the_end_of_emphasis : Tried
strong_at_the_end_of_emphasis = record {
  setting = setting default_options 0 ([]);
  trees = node Paragraph (node Emphasis (text (codes "a") (node Strong (text (codes "b") empty) empty)) empty) empty;
  texts = (codes "*a**b***\n")
      ++ (codes "_a**b**_\n_a**b**_\n_a**b**_\n_a**b**_\n")
      ++ (codes "*&#97;**b***\n*&#97;**b***\n_&#97;__b___\n_&#97;__b___\n")
      ++ (codes "*&#97;**b***\n*&#97;**b***\n_&#97;__b___\n_&#97;__b___\n")
      ++ (codes "_a**b**_\n_a**b**_\n_a**b**_\n_a**b**_\n")
      ++ (codes "*a**b***\n*a__b__*\n_a**b**_\n_a__b___\n")
      ++ (codes "*a**b***\n*a__b__*\n_a**b**_\n_a__b___\n")
      ++ (codes "*a__b__*\n*a__b__*\n_a**b**_\n_a**b**_\n")
      ++ (codes "*a**b***\n*a**b***\n_a__b___\n_a__b___\n")
      ++ (codes "*a__b__*\n*a__b__*\n_a**b**_\n_a**b**_\n")
      ++ (codes "*a**b***\n*a**b***\n_a__b___\n_a__b___\n")
      ++ (codes "*&#97;__b__*\n*&#97;__b__*\n_&#97;**b**_\n_&#97;**b**_\n")
      ++ (codes "*a__b__*\n*a__b__*\n_a**b**_\n_a**b**_\n")
      ++ (codes "*a**b***\n*a**b***\n_a__b___\n_a__b___\n")
      ++ (codes "*a__b__*\n*a__b__*\n_a**b**_\n_a**b**_\n")
      ++ (codes "*a**b***\n*a**b***\n_a__b___\n_a__b___\n");
}

-- Strong inside Emphasis
abbrev pub strong_inside_emphasis : Tried
strong_inside_emphasis = record {
  setting = setting default_options 0 ([]);
  trees = node Paragraph (node Emphasis (text (codes "a") (node Strong (text (codes "b") empty) (text (codes "c")
      empty))) empty) empty;
  texts = (codes "*a**b**c*\n")
      ++ (codes "_a**b**c_\n_a**b**c_\n_a**b**c_\n_a**b**c_\n")
      ++ (codes "*&#97;**b**&#99;*\n*&#97;**b**&#99;*\n_&#97;__b__&#99;_\n_&#97;__b__&#99;_\n")
      ++ (codes "*&#97;**b**&#99;*\n*&#97;**b**&#99;*\n_&#97;__b__&#99;_\n_&#97;__b__&#99;_\n")
      ++ (codes "_a**b**c_\n_a**b**c_\n_a**b**c_\n_a**b**c_\n")
      ++ (codes "*a**b**c*\n*a__b__c*\n_a**b**c_\n_a__b__c_\n")
      ++ (codes "*a**b**c*\n*a__b__c*\n_a**b**c_\n_a__b__c_\n")
      ++ (codes "*a__b__c*\n*a__b__c*\n_a**b**c_\n_a**b**c_\n")
      ++ (codes "*a__b__c*\n*a__b__c*\n_a**b**c_\n_a**b**c_\n")
      ++ (codes "*a__b__c*\n*a__b__c*\n_a**b**c_\n_a**b**c_\n")
      ++ (codes "*a__b__c*\n*a__b__c*\n_a**b**c_\n_a**b**c_\n")
      ++ (codes "*&#97;__b__&#99;*\n*&#97;__b__&#99;*\n_&#97;**b**&#99;_\n_&#97;**b**&#99;_\n")
      ++ (codes "*a__b__c*\n*a__b__c*\n_a**b**c_\n_a**b**c_\n")
      ++ (codes "*a__b__c*\n*a__b__c*\n_a**b**c_\n_a**b**c_\n")
      ++ (codes "*a__b__c*\n*a__b__c*\n_a**b**c_\n_a**b**c_\n")
      ++ (codes "*a__b__c*\n*a__b__c*\n_a**b**c_\n_a**b**c_\n");
}

-- Emphasis at the beginning of Strong
abbrev pub emphasis_at_the_beginning_of_strong : Tried
emphasis_at_the_beginning_of_strong = record {
  setting = setting default_options 0 ([]);
  trees = node Paragraph (node Strong (node Emphasis (text (codes "a") empty) (text (codes "b") empty)) empty) empty;
  texts = (codes "***a*b**\n")
      ++ (codes "***a*b**\n***a*b**\n__*a*b__\n__*a*b__\n")
      ++ (codes "***a*&#98;**\n___a_&#98;__\n***a*&#98;**\n___a_&#98;__\n")
      ++ (codes "***a*&#98;**\n___a_&#98;__\n***a*&#98;**\n___a_&#98;__\n")
      ++ (codes "***a*b**\n__*a*b__\n***a*b**\n__*a*b__\n")
      ++ (codes "***a*b**\n__*a*b__\n**_a_b**\n___a_b__\n")
      ++ (codes "***a*b**\n__*a*b__\n**_a_b**\n___a_b__\n")
      ++ (codes "***a*b**\n___a_b__\n***a*b**\n___a_b__\n")
      ++ (codes "***a*b**\n___a_b__\n***a*b**\n___a_b__\n")
      ++ (codes "***a*b**\n___a_b__\n***a*b**\n___a_b__\n")
      ++ (codes "***a*b**\n___a_b__\n***a*b**\n___a_b__\n")
      ++ (codes "***a*&#98;**\n___a_&#98;__\n***a*&#98;**\n___a_&#98;__\n")
      ++ (codes "***a*b**\n___a_b__\n***a*b**\n___a_b__\n")
      ++ (codes "***a*b**\n___a_b__\n***a*b**\n___a_b__\n")
      ++ (codes "***a*b**\n___a_b__\n***a*b**\n___a_b__\n")
      ++ (codes "***a*b**\n___a_b__\n***a*b**\n___a_b__\n");
}

-- Emphasis at the end of Strong
abbrev pub emphasis_at_the_end_of_strong : Tried
emphasis_at_the_end_of_strong = record {
  setting = setting default_options 0 ([]);
  trees = node Paragraph (node Strong (text (codes "a") (node Emphasis (text (codes "b") empty) empty)) empty) empty;
  texts = (codes "**a*b***\n")
      ++ (codes "__a*b*__\n__a*b*__\n__a*b*__\n__a*b*__\n")
      ++ (codes "**&#97;*b***\n__&#97;_b___\n**&#97;*b***\n__&#97;_b___\n")
      ++ (codes "**&#97;*b***\n__&#97;_b___\n**&#97;*b***\n__&#97;_b___\n")
      ++ (codes "__a*b*__\n__a*b*__\n__a*b*__\n__a*b*__\n")
      ++ (codes "**a*b***\n__a*b*__\n**a_b_**\n__a_b___\n")
      ++ (codes "**a*b***\n__a*b*__\n**a_b_**\n__a_b___\n")
      ++ (codes "**a_b_**\n__a*b*__\n**a_b_**\n__a*b*__\n")
      ++ (codes "**a*b***\n__a_b___\n**a*b***\n__a_b___\n")
      ++ (codes "**a_b_**\n__a*b*__\n**a_b_**\n__a*b*__\n")
      ++ (codes "**a*b***\n__a_b___\n**a*b***\n__a_b___\n")
      ++ (codes "**&#97;_b_**\n__&#97;*b*__\n**&#97;_b_**\n__&#97;*b*__\n")
      ++ (codes "**a_b_**\n__a*b*__\n**a_b_**\n__a*b*__\n")
      ++ (codes "**a*b***\n__a_b___\n**a*b***\n__a_b___\n")
      ++ (codes "**a_b_**\n__a*b*__\n**a_b_**\n__a*b*__\n")
      ++ (codes "**a*b***\n__a_b___\n**a*b***\n__a_b___\n");
}

-- Emphasis inside Strong
abbrev pub emphasis_inside_strong : Tried
emphasis_inside_strong = record {
  setting = setting default_options 0 ([]);
  trees = node Paragraph (node Strong (text (codes "a") (node Emphasis (text (codes "b") empty) (text (codes "c")
      empty))) empty) empty;
  texts = (codes "**a*b*c**\n")
      ++ (codes "__a*b*c__\n__a*b*c__\n__a*b*c__\n__a*b*c__\n")
      ++ (codes "**&#97;*b*&#99;**\n__&#97;_b_&#99;__\n**&#97;*b*&#99;**\n__&#97;_b_&#99;__\n")
      ++ (codes "**&#97;*b*&#99;**\n__&#97;_b_&#99;__\n**&#97;*b*&#99;**\n__&#97;_b_&#99;__\n")
      ++ (codes "__a*b*c__\n__a*b*c__\n__a*b*c__\n__a*b*c__\n")
      ++ (codes "**a*b*c**\n__a*b*c__\n**a_b_c**\n__a_b_c__\n")
      ++ (codes "**a*b*c**\n__a*b*c__\n**a_b_c**\n__a_b_c__\n")
      ++ (codes "**a_b_c**\n__a*b*c__\n**a_b_c**\n__a*b*c__\n")
      ++ (codes "**a_b_c**\n__a*b*c__\n**a_b_c**\n__a*b*c__\n")
      ++ (codes "**a_b_c**\n__a*b*c__\n**a_b_c**\n__a*b*c__\n")
      ++ (codes "**a_b_c**\n__a*b*c__\n**a_b_c**\n__a*b*c__\n")
      ++ (codes "**&#97;_b_&#99;**\n__&#97;*b*&#99;__\n**&#97;_b_&#99;**\n__&#97;*b*&#99;__\n")
      ++ (codes "**a_b_c**\n__a*b*c__\n**a_b_c**\n__a*b*c__\n")
      ++ (codes "**a_b_c**\n__a*b*c__\n**a_b_c**\n__a*b*c__\n")
      ++ (codes "**a_b_c**\n__a*b*c__\n**a_b_c**\n__a*b*c__\n")
      ++ (codes "**a_b_c**\n__a*b*c__\n**a_b_c**\n__a*b*c__\n");
}

-- Strong at the beginning of Strong
abbrev pub strong_at_the_beginning_of_strong : Tried
strong_at_the_beginning_of_strong = record {
  setting = setting default_options 0 ([]);
  trees = node Paragraph (node Strong (node Strong (text (codes "a") empty) (text (codes "b") empty)) empty) empty;
  texts = (codes "****a**b**\n")
      ++ (codes "****a**b**\n****a**b**\n__**a**b__\n__**a**b__\n")
      ++ (codes "****a**&#98;**\n____a__&#98;__\n****a**&#98;**\n____a__&#98;__\n")
      ++ (codes "****a**&#98;**\n____a__&#98;__\n****a**&#98;**\n____a__&#98;__\n")
      ++ (codes "****a**b**\n__**a**b__\n****a**b**\n__**a**b__\n")
      ++ (codes "****a**b**\n____a__b__\n****a**b**\n____a__b__\n")
      ++ (codes "****a**b**\n____a__b__\n****a**b**\n____a__b__\n")
      ++ (codes "****a**b**\n____a__b__\n****a**b**\n____a__b__\n")
      ++ (codes "****a**b**\n____a__b__\n****a**b**\n____a__b__\n")
      ++ (codes "****a**b**\n____a__b__\n****a**b**\n____a__b__\n")
      ++ (codes "****a**b**\n____a__b__\n****a**b**\n____a__b__\n")
      ++ (codes "****a**&#98;**\n____a__&#98;__\n****a**&#98;**\n____a__&#98;__\n")
      ++ (codes "****a**b**\n____a__b__\n****a**b**\n____a__b__\n")
      ++ (codes "****a**b**\n____a__b__\n****a**b**\n____a__b__\n")
      ++ (codes "****a**b**\n____a__b__\n****a**b**\n____a__b__\n")
      ++ (codes "****a**b**\n____a__b__\n****a**b**\n____a__b__\n");
}

-- Strong at the end of Strong
abbrev pub strong_at_the_end_of_strong : Tried
strong_at_the_end_of_strong = record {
  setting = setting default_options 0 ([]);
  trees = node Paragraph (node Strong (text (codes "a") (node Strong (text (codes "b") empty) empty)) empty) empty;
  texts = (codes "**a**b****\n")
      ++ (codes "__a**b**__\n__a**b**__\n__a**b**__\n__a**b**__\n")
      ++ (codes "**&#97;__b__**\n__&#97;**b**__\n**&#97;__b__**\n__&#97;**b**__\n")
      ++ (codes "**&#97;__b__**\n__&#97;**b**__\n**&#97;__b__**\n__&#97;**b**__\n")
      ++ (codes "__a**b**__\n__a**b**__\n__a**b**__\n__a**b**__\n")
      ++ (codes "**a**b****\n__a__b____\n**a**b****\n__a__b____\n")
      ++ (codes "**a**b****\n__a__b____\n**a**b****\n__a__b____\n")
      ++ (codes "**a__b__**\n__a**b**__\n**a__b__**\n__a**b**__\n")
      ++ (codes "**a**b****\n__a__b____\n**a**b****\n__a__b____\n")
      ++ (codes "**a__b__**\n__a**b**__\n**a__b__**\n__a**b**__\n")
      ++ (codes "**a**b****\n__a__b____\n**a**b****\n__a__b____\n")
      ++ (codes "**&#97;__b__**\n__&#97;**b**__\n**&#97;__b__**\n__&#97;**b**__\n")
      ++ (codes "**a__b__**\n__a**b**__\n**a__b__**\n__a**b**__\n")
      ++ (codes "**a**b****\n__a__b____\n**a**b****\n__a__b____\n")
      ++ (codes "**a__b__**\n__a**b**__\n**a__b__**\n__a**b**__\n")
      ++ (codes "**a**b****\n__a__b____\n**a**b****\n__a__b____\n");
}

-- Emphasis after Emphasis
abbrev pub emphasis_behind_emphasis : Tried
emphasis_behind_emphasis = record {
  setting = setting default_options 0 ([]);
  trees = node Paragraph (node Emphasis (text (codes "a") empty) (node Emphasis (text (codes "b") empty) empty))
      empty;
  texts = (codes "*a**b*\n")
      ++ (codes "*a*_b_\n_a_*b*\n*a*_b_\n_a_*b*\n")
      ++ (codes "*a*_b_\n*a*_b_\n_a_*b*\n_a_*b*\n")
      ++ (codes "*a*_b_\n*a*_b_\n_a_*b*\n_a_*b*\n")
      ++ (codes "*a*_b_\n*a*_b_\n_a_*b*\n_a_*b*\n")
      ++ (codes "*a**b*\n*a**b*\n_a__b_\n_a__b_\n")
      ++ (codes "*a**b*\n*a**b*\n_a__b_\n_a__b_\n")
      ++ (codes "*a*_b_\n*a*_b_\n_a_*b*\n_a_*b*\n")
      ++ (codes "*a*_b_\n*a*_b_\n_a_*b*\n_a_*b*\n")
      ++ (codes "*a**b*\n*a**b*\n_a__b_\n_a__b_\n")
      ++ (codes "*a**b*\n*a**b*\n_a__b_\n_a__b_\n")
      ++ (codes "*a*_b_\n*a*_b_\n_a_*b*\n_a_*b*\n")
      ++ (codes "*a*_b_\n*a*_b_\n_a_*b*\n_a_*b*\n")
      ++ (codes "*a*_b_\n*a*_b_\n_a_*b*\n_a_*b*\n")
      ++ (codes "*a*_b_\n*a*_b_\n_a_*b*\n_a_*b*\n")
      ++ (codes "*a*_b_\n*a*_b_\n_a_*b*\n_a_*b*\n");
}

-- Strong after Emphasis
abbrev pub strong_behind_emphasis : Tried
strong_behind_emphasis = record {
  setting = setting default_options 0 ([]);
  trees = node Paragraph (node Emphasis (text (codes "a") empty) (node Strong (text (codes "b") empty) empty)) empty;
  texts = (codes "*a***b**\n")
      ++ (codes "*a*__b__\n_a_**b**\n*a*__b__\n_a_**b**\n")
      ++ (codes "*a***b**\n*a***b**\n_a___b__\n_a___b__\n")
      ++ (codes "*a***b**\n*a***b**\n_a___b__\n_a___b__\n")
      ++ (codes "*a*__b__\n*a*__b__\n_a_**b**\n_a_**b**\n")
      ++ (codes "*a***b**\n*a*__b__\n_a_**b**\n_a___b__\n")
      ++ (codes "*a***b**\n*a*__b__\n_a_**b**\n_a___b__\n")
      ++ (codes "*a*__b__\n*a*__b__\n_a_**b**\n_a_**b**\n")
      ++ (codes "*a*__b__\n*a*__b__\n_a_**b**\n_a_**b**\n")
      ++ (codes "*a***b**\n*a***b**\n_a___b__\n_a___b__\n")
      ++ (codes "*a***b**\n*a***b**\n_a___b__\n_a___b__\n")
      ++ (codes "*a*__b__\n*a*__b__\n_a_**b**\n_a_**b**\n")
      ++ (codes "*a*__b__\n*a*__b__\n_a_**b**\n_a_**b**\n")
      ++ (codes "*a*__b__\n*a*__b__\n_a_**b**\n_a_**b**\n")
      ++ (codes "*a*__b__\n*a*__b__\n_a_**b**\n_a_**b**\n")
      ++ (codes "*a*__b__\n*a*__b__\n_a_**b**\n_a_**b**\n");
}

-- Emphasis after Strong
abbrev pub emphasis_behind_strong : Tried
emphasis_behind_strong = record {
  setting = setting default_options 0 ([]);
  trees = node Paragraph (node Strong (text (codes "a") empty) (node Emphasis (text (codes "b") empty) empty)) empty;
  texts = (codes "**a***b*\n")
      ++ (codes "**a**_b_\n**a**_b_\n__a__*b*\n__a__*b*\n")
      ++ (codes "**a***b*\n__a___b_\n**a***b*\n__a___b_\n")
      ++ (codes "**a***b*\n__a___b_\n**a***b*\n__a___b_\n")
      ++ (codes "**a**_b_\n__a__*b*\n**a**_b_\n__a__*b*\n")
      ++ (codes "**a***b*\n__a__*b*\n**a**_b_\n__a___b_\n")
      ++ (codes "**a***b*\n__a__*b*\n**a**_b_\n__a___b_\n")
      ++ (codes "**a**_b_\n__a__*b*\n**a**_b_\n__a__*b*\n")
      ++ (codes "**a**_b_\n__a__*b*\n**a**_b_\n__a__*b*\n")
      ++ (codes "**a***b*\n__a___b_\n**a***b*\n__a___b_\n")
      ++ (codes "**a***b*\n__a___b_\n**a***b*\n__a___b_\n")
      ++ (codes "**a**_b_\n__a__*b*\n**a**_b_\n__a__*b*\n")
      ++ (codes "**a**_b_\n__a__*b*\n**a**_b_\n__a__*b*\n")
      ++ (codes "**a**_b_\n__a__*b*\n**a**_b_\n__a__*b*\n")
      ++ (codes "**a**_b_\n__a__*b*\n**a**_b_\n__a__*b*\n")
      ++ (codes "**a**_b_\n__a__*b*\n**a**_b_\n__a__*b*\n");
}

-- Strong after Strong
abbrev pub strong_behind_strong : Tried
strong_behind_strong = record {
  setting = setting default_options 0 ([]);
  trees = node Paragraph (node Strong (text (codes "a") empty) (node Strong (text (codes "b") empty) empty)) empty;
  texts = (codes "**a****b**\n")
      ++ (codes "**a**__b__\n**a**__b__\n__a__**b**\n__a__**b**\n")
      ++ (codes "**a**__b__\n__a__**b**\n**a**__b__\n__a__**b**\n")
      ++ (codes "**a**__b__\n__a__**b**\n**a**__b__\n__a__**b**\n")
      ++ (codes "**a**__b__\n__a__**b**\n**a**__b__\n__a__**b**\n")
      ++ (codes "**a****b**\n__a____b__\n**a****b**\n__a____b__\n")
      ++ (codes "**a****b**\n__a____b__\n**a****b**\n__a____b__\n")
      ++ (codes "**a**__b__\n__a__**b**\n**a**__b__\n__a__**b**\n")
      ++ (codes "**a**__b__\n__a__**b**\n**a**__b__\n__a__**b**\n")
      ++ (codes "**a****b**\n__a____b__\n**a****b**\n__a____b__\n")
      ++ (codes "**a****b**\n__a____b__\n**a****b**\n__a____b__\n")
      ++ (codes "**a**__b__\n__a__**b**\n**a**__b__\n__a__**b**\n")
      ++ (codes "**a**__b__\n__a__**b**\n**a**__b__\n__a__**b**\n")
      ++ (codes "**a**__b__\n__a__**b**\n**a**__b__\n__a__**b**\n")
      ++ (codes "**a**__b__\n__a__**b**\n**a**__b__\n__a__**b**\n")
      ++ (codes "**a**__b__\n__a__**b**\n**a**__b__\n__a__**b**\n");
}

-- three Emphases in a row
abbrev pub three_emphases_in_a_row : Tried
three_emphases_in_a_row = record {
  setting = setting default_options 0 ([]);
  trees = node Paragraph (node Emphasis (text (codes "a") empty) (node Emphasis (text (codes "b") empty) (node
      Emphasis (text (codes "c") empty) empty))) empty;
  texts = (codes "*a**b**c*\n")
      ++ (codes "*a*_b_*c*\n_a_*b*_c_\n*a*_b_*c*\n_a_*b*_c_\n")
      ++ (codes "*a*_b_*c*\n*a*_b_*c*\n_a_*b*_c_\n_a_*b*_c_\n")
      ++ (codes "*a*_b_*c*\n*a*_b_*c*\n_a_*b*_c_\n_a_*b*_c_\n")
      ++ (codes "*a*_b_*c*\n*a*_b_*c*\n_a_*b*_c_\n_a_*b*_c_\n")
      ++ (codes "*a**b**c*\n*a**b**c*\n_a__b__c_\n_a__b__c_\n")
      ++ (codes "*a**b**c*\n*a**b**c*\n_a__b__c_\n_a__b__c_\n")
      ++ (codes "*a*_b_*c*\n*a*_b_*c*\n_a_*b*_c_\n_a_*b*_c_\n")
      ++ (codes "*a*_b_*c*\n*a*_b_*c*\n_a_*b*_c_\n_a_*b*_c_\n")
      ++ (codes "*a**b**c*\n*a**b**c*\n_a__b__c_\n_a__b__c_\n")
      ++ (codes "*a**b**c*\n*a**b**c*\n_a__b__c_\n_a__b__c_\n")
      ++ (codes "*a*_b_*c*\n*a*_b_*c*\n_a_*b*_c_\n_a_*b*_c_\n")
      ++ (codes "*a*_b_*c*\n*a*_b_*c*\n_a_*b*_c_\n_a_*b*_c_\n")
      ++ (codes "*a*_b_*c*\n*a*_b_*c*\n_a_*b*_c_\n_a_*b*_c_\n")
      ++ (codes "*a*_b_*c*\n*a*_b_*c*\n_a_*b*_c_\n_a_*b*_c_\n")
      ++ (codes "*a*_b_*c*\n*a*_b_*c*\n_a_*b*_c_\n_a_*b*_c_\n");
}

-- Emphasis at both ends of Emphasis
abbrev pub emphasis_at_both_ends_of_emphasis : Tried
emphasis_at_both_ends_of_emphasis = record {
  setting = setting default_options 0 ([]);
  trees = node Paragraph (node Emphasis (node Emphasis (text (codes "a") empty) (text (codes "b") (node Emphasis (text
      (codes "c") empty) empty))) empty) empty;
  texts = (codes "_*a*b*c*_\n")
      ++ (codes "_*a*b*c*_\n_*a*b*c*_\n_*a*b*c*_\n_*a*b*c*_\n")
      ++ (codes "**a*&#98;*c**\n**a*&#98;*c**\n__a_&#98;_c__\n__a_&#98;_c__\n")
      ++ (codes "**a*&#98;*c**\n**a*&#98;*c**\n__a_&#98;_c__\n__a_&#98;_c__\n")
      ++ (codes "_*a*b*c*_\n_*a*b*c*_\n_*a*b*c*_\n_*a*b*c*_\n")
      ++ (codes "**a*b*c**\n**a*b*c**\n__a_b_c__\n__a_b_c__\n")
      ++ (codes "**a*b*c**\n**a*b*c**\n__a_b_c__\n__a_b_c__\n")
      ++ (codes "**a*b_c_*\n**a*b_c_*\n__a_b*c*_\n__a_b*c*_\n")
      ++ (codes "**a*b*c**\n**a*b*c**\n__a_b_c__\n__a_b_c__\n")
      ++ (codes "**a*b_c_*\n**a*b_c_*\n__a_b*c*_\n__a_b*c*_\n")
      ++ (codes "**a*b*c**\n**a*b*c**\n__a_b_c__\n__a_b_c__\n")
      ++ (codes "**a*&#98;_c_*\n**a*&#98;_c_*\n__a_&#98;*c*_\n__a_&#98;*c*_\n")
      ++ (codes "**a*b_c_*\n**a*b_c_*\n__a_b*c*_\n__a_b*c*_\n")
      ++ (codes "**a*b*c**\n**a*b*c**\n__a_b_c__\n__a_b_c__\n")
      ++ (codes "**a*b_c_*\n**a*b_c_*\n__a_b*c*_\n__a_b*c*_\n")
      ++ (codes "**a*b*c**\n**a*b*c**\n__a_b_c__\n__a_b_c__\n");
}

-- Strong at both ends of Emphasis
abbrev pub strong_at_both_ends_of_emphasis : Tried
strong_at_both_ends_of_emphasis = record {
  setting = setting default_options 0 ([]);
  trees = node Paragraph (node Emphasis (node Strong (text (codes "a") empty) (text (codes "b") (node Strong (text
      (codes "c") empty) empty))) empty) empty;
  texts = (codes "***a**b**c***\n")
      ++ (codes "_**a**b**c**_\n_**a**b**c**_\n_**a**b**c**_\n_**a**b**c**_\n")
      ++ (codes "***a**&#98;__c__*\n***a**&#98;__c__*\n___a__&#98;**c**_\n___a__&#98;**c**_\n")
      ++ (codes "***a**&#98;__c__*\n***a**&#98;__c__*\n___a__&#98;**c**_\n___a__&#98;**c**_\n")
      ++ (codes "_**a**b**c**_\n_**a**b**c**_\n_**a**b**c**_\n_**a**b**c**_\n")
      ++ (codes "***a**b**c***\n*__a__b__c__*\n_**a**b**c**_\n___a__b__c___\n")
      ++ (codes "***a**b**c***\n*__a__b__c__*\n_**a**b**c**_\n___a__b__c___\n")
      ++ (codes "***a**b__c__*\n***a**b__c__*\n___a__b**c**_\n___a__b**c**_\n")
      ++ (codes "***a**b**c***\n***a**b**c***\n___a__b__c___\n___a__b__c___\n")
      ++ (codes "***a**b__c__*\n***a**b__c__*\n___a__b**c**_\n___a__b**c**_\n")
      ++ (codes "***a**b**c***\n***a**b**c***\n___a__b__c___\n___a__b__c___\n")
      ++ (codes "***a**&#98;__c__*\n***a**&#98;__c__*\n___a__&#98;**c**_\n___a__&#98;**c**_\n")
      ++ (codes "***a**b__c__*\n***a**b__c__*\n___a__b**c**_\n___a__b**c**_\n")
      ++ (codes "***a**b**c***\n***a**b**c***\n___a__b__c___\n___a__b__c___\n")
      ++ (codes "***a**b__c__*\n***a**b__c__*\n___a__b**c**_\n___a__b**c**_\n")
      ++ (codes "***a**b**c***\n***a**b**c***\n___a__b__c___\n___a__b__c___\n");
}

-- Emphasis at both ends of Strong
abbrev pub emphasis_at_both_ends_of_strong : Tried
emphasis_at_both_ends_of_strong = record {
  setting = setting default_options 0 ([]);
  trees = node Paragraph (node Strong (node Emphasis (text (codes "a") empty) (text (codes "b") (node Emphasis (text
      (codes "c") empty) empty))) empty) empty;
  texts = (codes "***a*b*c***\n")
      ++ (codes "__*a*b*c*__\n__*a*b*c*__\n__*a*b*c*__\n__*a*b*c*__\n")
      ++ (codes "***a*&#98;_c_**\n___a_&#98;*c*__\n***a*&#98;_c_**\n___a_&#98;*c*__\n")
      ++ (codes "***a*&#98;_c_**\n___a_&#98;*c*__\n***a*&#98;_c_**\n___a_&#98;*c*__\n")
      ++ (codes "__*a*b*c*__\n__*a*b*c*__\n__*a*b*c*__\n__*a*b*c*__\n")
      ++ (codes "***a*b*c***\n__*a*b*c*__\n**_a_b_c_**\n___a_b_c___\n")
      ++ (codes "***a*b*c***\n__*a*b*c*__\n**_a_b_c_**\n___a_b_c___\n")
      ++ (codes "***a*b_c_**\n___a_b*c*__\n***a*b_c_**\n___a_b*c*__\n")
      ++ (codes "***a*b*c***\n___a_b_c___\n***a*b*c***\n___a_b_c___\n")
      ++ (codes "***a*b_c_**\n___a_b*c*__\n***a*b_c_**\n___a_b*c*__\n")
      ++ (codes "***a*b*c***\n___a_b_c___\n***a*b*c***\n___a_b_c___\n")
      ++ (codes "***a*&#98;_c_**\n___a_&#98;*c*__\n***a*&#98;_c_**\n___a_&#98;*c*__\n")
      ++ (codes "***a*b_c_**\n___a_b*c*__\n***a*b_c_**\n___a_b*c*__\n")
      ++ (codes "***a*b*c***\n___a_b_c___\n***a*b*c***\n___a_b_c___\n")
      ++ (codes "***a*b_c_**\n___a_b*c*__\n***a*b_c_**\n___a_b*c*__\n")
      ++ (codes "***a*b*c***\n___a_b_c___\n***a*b*c***\n___a_b_c___\n");
}

-- three Emphases in one another
abbrev pub three_emphases_in_one_another : Tried
three_emphases_in_one_another = record {
  setting = setting default_options 0 ([]);
  trees = node Paragraph (node Emphasis (node Emphasis (node Emphasis (text (codes "a") empty) empty) empty) empty)
      empty;
  texts = (codes "*_*a*_*\n")
      ++ (codes "*_*a*_*\n_*_a_*_\n*_*a*_*\n_*_a_*_\n")
      ++ (codes "*_*a*_*\n*_*a*_*\n_*_a_*_\n_*_a_*_\n")
      ++ (codes "*_*a*_*\n*_*a*_*\n_*_a_*_\n_*_a_*_\n")
      ++ (codes "*_*a*_*\n*_*a*_*\n_*_a_*_\n_*_a_*_\n")
      ++ (codes "***a***\n***a***\n___a___\n___a___\n")
      ++ (codes "***a***\n***a***\n___a___\n___a___\n")
      ++ (codes "*_*a*_*\n*_*a*_*\n_*_a_*_\n_*_a_*_\n")
      ++ (codes "*_*a*_*\n*_*a*_*\n_*_a_*_\n_*_a_*_\n")
      ++ (codes "*_*a*_*\n*_*a*_*\n_*_a_*_\n_*_a_*_\n")
      ++ (codes "*_*a*_*\n*_*a*_*\n_*_a_*_\n_*_a_*_\n")
      ++ (codes "*_*a*_*\n*_*a*_*\n_*_a_*_\n_*_a_*_\n")
      ++ (codes "*_*a*_*\n*_*a*_*\n_*_a_*_\n_*_a_*_\n")
      ++ (codes "*_*a*_*\n*_*a*_*\n_*_a_*_\n_*_a_*_\n")
      ++ (codes "*_*a*_*\n*_*a*_*\n_*_a_*_\n_*_a_*_\n")
      ++ (codes "*_*a*_*\n*_*a*_*\n_*_a_*_\n_*_a_*_\n");
}

-- Emphasis in Strong in Emphasis
abbrev pub emphasis_in_strong_in_emphasis : Tried
emphasis_in_strong_in_emphasis = record {
  setting = setting default_options 0 ([]);
  trees = node Paragraph (node Emphasis (node Strong (node Emphasis (text (codes "a") empty) empty) empty) empty)
      empty;
  texts = (codes "***_a_***\n")
      ++ (codes "*__*a*__*\n_**_a_**_\n*__*a*__*\n_**_a_**_\n")
      ++ (codes "***_a_***\n***_a_***\n___*a*___\n___*a*___\n")
      ++ (codes "***_a_***\n***_a_***\n___*a*___\n___*a*___\n")
      ++ (codes "*__*a*__*\n*__*a*__*\n_**_a_**_\n_**_a_**_\n")
      ++ (codes "****a****\n*__*a*__*\n_**_a_**_\n____a____\n")
      ++ (codes "****a****\n*__*a*__*\n_**_a_**_\n____a____\n")
      ++ (codes "***_a_***\n***_a_***\n___*a*___\n___*a*___\n")
      ++ (codes "***_a_***\n***_a_***\n___*a*___\n___*a*___\n")
      ++ (codes "***_a_***\n***_a_***\n___*a*___\n___*a*___\n")
      ++ (codes "***_a_***\n***_a_***\n___*a*___\n___*a*___\n")
      ++ (codes "***_a_***\n***_a_***\n___*a*___\n___*a*___\n")
      ++ (codes "***_a_***\n***_a_***\n___*a*___\n___*a*___\n")
      ++ (codes "***_a_***\n***_a_***\n___*a*___\n___*a*___\n")
      ++ (codes "***_a_***\n***_a_***\n___*a*___\n___*a*___\n")
      ++ (codes "***_a_***\n***_a_***\n___*a*___\n___*a*___\n");
}

-- a literal asterisk before Emphasis
abbrev pub a_literal_asterisk_before_emphasis : Tried
a_literal_asterisk_before_emphasis = record {
  setting = setting default_options 0 ([]);
  trees = node Paragraph (text (codes "*") (node Emphasis (text (codes "a") empty) empty)) empty;
  texts = (codes "\\**a*\n")
      ++ (codes "\\**a*\n\\*_a_\n\\**a*\n\\*_a_\n")
      ++ (codes "&#42;*a*\n&#42;*a*\n&#42;_a_\n&#42;_a_\n")
      ++ (codes "**a*\n**a*\n**a*\n**a*\n")
      ++ (codes "**a*\n**a*\n*_a_\n*_a_\n")
      ++ (codes "\\**a*\n\\**a*\n\\*_a_\n\\*_a_\n")
      ++ (codes "**a*\n**a*\n*_a_\n*_a_\n")
      ++ (codes "\\**a*\n\\**a*\n\\*_a_\n\\*_a_\n")
      ++ (codes "\\**a*\n\\**a*\n\\*_a_\n\\*_a_\n")
      ++ (codes "\\**a*\n\\**a*\n\\*_a_\n\\*_a_\n")
      ++ (codes "\\**a*\n\\**a*\n\\*_a_\n\\*_a_\n")
      ++ (codes "&#42;*a*\n&#42;*a*\n&#42;_a_\n&#42;_a_\n")
      ++ (codes "**a*\n**a*\n*_a_\n*_a_\n")
      ++ (codes "**a*\n**a*\n*_a_\n*_a_\n")
      ++ (codes "\\**a*\n\\**a*\n\\*_a_\n\\*_a_\n")
      ++ (codes "\\**a*\n\\**a*\n\\*_a_\n\\*_a_\n");
}

-- a literal asterisk after Emphasis
abbrev pub a_literal_asterisk_behind_emphasis : Tried
a_literal_asterisk_behind_emphasis = record {
  setting = setting default_options 0 ([]);
  trees = node Paragraph (node Emphasis (text (codes "a") empty) (text (codes "*") empty)) empty;
  texts = (codes "*a*\\*\n")
      ++ (codes "*a*\\*\n_a_\\*\n*a*\\*\n_a_\\*\n")
      ++ (codes "*a*&#42;\n*a*&#42;\n_a_&#42;\n_a_&#42;\n")
      ++ (codes "*a**\n*a**\n*a**\n*a**\n")
      ++ (codes "*a**\n*a**\n_a_*\n_a_*\n")
      ++ (codes "*a*\\*\n*a*\\*\n_a_\\*\n_a_\\*\n")
      ++ (codes "*a**\n*a**\n_a_*\n_a_*\n")
      ++ (codes "*a*\\*\n*a*\\*\n_a_\\*\n_a_\\*\n")
      ++ (codes "*a*\\*\n*a*\\*\n_a_\\*\n_a_\\*\n")
      ++ (codes "*a*\\*\n*a*\\*\n_a_\\*\n_a_\\*\n")
      ++ (codes "*a*\\*\n*a*\\*\n_a_\\*\n_a_\\*\n")
      ++ (codes "*a*&#42;\n*a*&#42;\n_a_&#42;\n_a_&#42;\n")
      ++ (codes "*a**\n*a**\n_a_*\n_a_*\n")
      ++ (codes "*a**\n*a**\n_a_*\n_a_*\n")
      ++ (codes "*a*\\*\n*a*\\*\n_a_\\*\n_a_\\*\n")
      ++ (codes "*a*\\*\n*a*\\*\n_a_\\*\n_a_\\*\n");
}

-- a literal underscore before Strong
abbrev pub a_literal_underscore_before_strong : Tried
a_literal_underscore_before_strong = record {
  setting = setting default_options 0 ([]);
  trees = node Paragraph (text (codes "_") (node Strong (text (codes "a") empty) empty)) empty;
  texts = (codes "\\_**a**\n")
      ++ (codes "\\_**a**\n\\_**a**\n\\___a__\n\\___a__\n")
      ++ (codes "&#95;**a**\n&#95;__a__\n&#95;**a**\n&#95;__a__\n")
      ++ (codes "___a__\n___a__\n___a__\n___a__\n")
      ++ (codes "_**a**\n___a__\n_**a**\n___a__\n")
      ++ (codes "\\_**a**\n\\___a__\n\\_**a**\n\\___a__\n")
      ++ (codes "_**a**\n___a__\n_**a**\n___a__\n")
      ++ (codes "\\_**a**\n\\___a__\n\\_**a**\n\\___a__\n")
      ++ (codes "\\_**a**\n\\___a__\n\\_**a**\n\\___a__\n")
      ++ (codes "\\_**a**\n\\___a__\n\\_**a**\n\\___a__\n")
      ++ (codes "\\_**a**\n\\___a__\n\\_**a**\n\\___a__\n")
      ++ (codes "&#95;**a**\n&#95;__a__\n&#95;**a**\n&#95;__a__\n")
      ++ (codes "_**a**\n___a__\n_**a**\n___a__\n")
      ++ (codes "_**a**\n___a__\n_**a**\n___a__\n")
      ++ (codes "\\_**a**\n\\___a__\n\\_**a**\n\\___a__\n")
      ++ (codes "\\_**a**\n\\___a__\n\\_**a**\n\\___a__\n");
}

-- a literal underscore after Strong
abbrev pub a_literal_underscore_behind_strong : Tried
a_literal_underscore_behind_strong = record {
  setting = setting default_options 0 ([]);
  trees = node Paragraph (node Strong (text (codes "a") empty) (text (codes "_") empty)) empty;
  texts = (codes "**a**\\_\n")
      ++ (codes "**a**\\_\n**a**\\_\n__a__\\_\n__a__\\_\n")
      ++ (codes "**a**&#95;\n__a__&#95;\n**a**&#95;\n__a__&#95;\n")
      ++ (codes "__a___\n__a___\n__a___\n__a___\n")
      ++ (codes "**a**_\n__a___\n**a**_\n__a___\n")
      ++ (codes "**a**\\_\n__a__\\_\n**a**\\_\n__a__\\_\n")
      ++ (codes "**a**_\n__a___\n**a**_\n__a___\n")
      ++ (codes "**a**\\_\n__a__\\_\n**a**\\_\n__a__\\_\n")
      ++ (codes "**a**\\_\n__a__\\_\n**a**\\_\n__a__\\_\n")
      ++ (codes "**a**\\_\n__a__\\_\n**a**\\_\n__a__\\_\n")
      ++ (codes "**a**\\_\n__a__\\_\n**a**\\_\n__a__\\_\n")
      ++ (codes "**a**&#95;\n__a__&#95;\n**a**&#95;\n__a__&#95;\n")
      ++ (codes "**a**_\n__a___\n**a**_\n__a___\n")
      ++ (codes "**a**_\n__a___\n**a**_\n__a___\n")
      ++ (codes "**a**\\_\n__a__\\_\n**a**\\_\n__a__\\_\n")
      ++ (codes "**a**\\_\n__a__\\_\n**a**\\_\n__a__\\_\n");
}

-- literal markers on both sides of Emphasis
abbrev pub literal_markers_on_both_sides_of_emphasis : Tried
literal_markers_on_both_sides_of_emphasis = record {
  setting = setting default_options 0 ([]);
  trees = node Paragraph (text (codes "*") (node Emphasis (text (codes "a") empty) (text (codes "_") empty))) empty;
  texts = (codes "\\**a*\\_\n")
      ++ (codes "\\**a*\\_\n\\*_a_\\_\n\\**a*\\_\n\\*_a_\\_\n")
      ++ (codes "&#42;*a*&#95;\n&#42;*a*&#95;\n&#42;_a_&#95;\n&#42;_a_&#95;\n")
      ++ (codes "**a*_\n**a*_\n**a*_\n**a*_\n")
      ++ (codes "**a*_\n**a*_\n*_a__\n*_a__\n")
      ++ (codes "\\**a*\\_\n\\**a*\\_\n\\*_a_\\_\n\\*_a_\\_\n")
      ++ (codes "**a*_\n**a*_\n*_a__\n*_a__\n")
      ++ (codes "\\**a*\\_\n\\**a*\\_\n\\*_a_\\_\n\\*_a_\\_\n")
      ++ (codes "\\**a*\\_\n\\**a*\\_\n\\*_a_\\_\n\\*_a_\\_\n")
      ++ (codes "\\**a*\\_\n\\**a*\\_\n\\*_a_\\_\n\\*_a_\\_\n")
      ++ (codes "\\**a*\\_\n\\**a*\\_\n\\*_a_\\_\n\\*_a_\\_\n")
      ++ (codes "&#42;*a*&#95;\n&#42;*a*&#95;\n&#42;_a_&#95;\n&#42;_a_&#95;\n")
      ++ (codes "**a*_\n**a*_\n*_a__\n*_a__\n")
      ++ (codes "**a*_\n**a*_\n*_a__\n*_a__\n")
      ++ (codes "\\**a*\\_\n\\**a*\\_\n\\*_a_\\_\n\\*_a_\\_\n")
      ++ (codes "\\**a*\\_\n\\**a*\\_\n\\*_a_\\_\n\\*_a_\\_\n");
}

-- punctuation at the end of Emphasis at the beginning of Strong
abbrev pub punctuation_at_the_end_of_emphasis_at_the_beginning_of_strong : Tried
punctuation_at_the_end_of_emphasis_at_the_beginning_of_strong = record {
  setting = setting default_options 0 ([]);
  trees = node Paragraph (node Strong (node Emphasis (text (codes "a.") empty) (text (codes "b") empty)) empty) empty;
  texts = (codes "***a.*b**\n")
      ++ (codes "***a.*b**\n***a.*b**\n__*a.*b__\n__*a.*b__\n")
      ++ (codes "***a.*&#98;**\n___a._&#98;__\n***a.*&#98;**\n___a._&#98;__\n")
      ++ (codes "***a.*&#98;**\n___a._&#98;__\n***a.*&#98;**\n___a._&#98;__\n")
      ++ (codes "***a.*b**\n__*a.*b__\n***a.*b**\n__*a.*b__\n")
      ++ (codes "***a.*b**\n__*a.*b__\n**_a._b**\n___a._b__\n")
      ++ (codes "***a.*b**\n__*a.*b__\n**_a._b**\n___a._b__\n")
      ++ (codes "***a.*b**\n___a._b__\n***a.*b**\n___a._b__\n")
      ++ (codes "***a.*b**\n___a._b__\n***a.*b**\n___a._b__\n")
      ++ (codes "***a.*b**\n___a._b__\n***a.*b**\n___a._b__\n")
      ++ (codes "***a.*b**\n___a._b__\n***a.*b**\n___a._b__\n")
      ++ (codes "***a.*&#98;**\n___a._&#98;__\n***a.*&#98;**\n___a._&#98;__\n")
      ++ (codes "***a.*b**\n___a._b__\n***a.*b**\n___a._b__\n")
      ++ (codes "***a.*b**\n___a._b__\n***a.*b**\n___a._b__\n")
      ++ (codes "***a.*b**\n___a._b__\n***a.*b**\n___a._b__\n")
      ++ (codes "***a.*b**\n___a._b__\n***a.*b**\n___a._b__\n");
}

-- punctuation at the end of Strong at the beginning of Emphasis
abbrev pub punctuation_at_the_end_of_strong_at_the_beginning_of_emphasis : Tried
punctuation_at_the_end_of_strong_at_the_beginning_of_emphasis = record {
  setting = setting default_options 0 ([]);
  trees = node Paragraph (node Emphasis (node Strong (text (codes "a.") empty) (text (codes "b") empty)) empty) empty;
  texts = (codes "***a.**b*\n")
      ++ (codes "***a.**b*\n_**a.**b_\n***a.**b*\n_**a.**b_\n")
      ++ (codes "***a.**&#98;*\n***a.**&#98;*\n___a.__&#98;_\n___a.__&#98;_\n")
      ++ (codes "***a.**&#98;*\n***a.**&#98;*\n___a.__&#98;_\n___a.__&#98;_\n")
      ++ (codes "***a.**b*\n***a.**b*\n_**a.**b_\n_**a.**b_\n")
      ++ (codes "***a.**b*\n*__a.__b*\n_**a.**b_\n___a.__b_\n")
      ++ (codes "***a.**b*\n*__a.__b*\n_**a.**b_\n___a.__b_\n")
      ++ (codes "***a.**b*\n***a.**b*\n___a.__b_\n___a.__b_\n")
      ++ (codes "***a.**b*\n***a.**b*\n___a.__b_\n___a.__b_\n")
      ++ (codes "***a.**b*\n***a.**b*\n___a.__b_\n___a.__b_\n")
      ++ (codes "***a.**b*\n***a.**b*\n___a.__b_\n___a.__b_\n")
      ++ (codes "***a.**&#98;*\n***a.**&#98;*\n___a.__&#98;_\n___a.__&#98;_\n")
      ++ (codes "***a.**b*\n***a.**b*\n___a.__b_\n___a.__b_\n")
      ++ (codes "***a.**b*\n***a.**b*\n___a.__b_\n___a.__b_\n")
      ++ (codes "***a.**b*\n***a.**b*\n___a.__b_\n___a.__b_\n")
      ++ (codes "***a.**b*\n***a.**b*\n___a.__b_\n___a.__b_\n");
}

-- a break before Emphasis
abbrev pub a_break_before_emphasis : Tried
a_break_before_emphasis = record {
  setting = setting default_options 0 ([]);
  trees = node Paragraph (text (codes "a") (one SoftBreak (node Emphasis (text (codes "b") empty) empty))) empty;
  texts = (codes "a\n*b*\n")
      ++ (codes "a\n*b*\na\n_b_\na\n*b*\na\n_b_\n")
      ++ (codes "a\n*b*\na\n*b*\na\n_b_\na\n_b_\n")
      ++ (codes "a\n*b*\na\n*b*\na\n_b_\na\n_b_\n")
      ++ (codes "a\n*b*\na\n*b*\na\n_b_\na\n_b_\n")
      ++ (codes "a\n*b*\na\n*b*\na\n_b_\na\n_b_\n")
      ++ (codes "a\n*b*\na\n*b*\na\n_b_\na\n_b_\n")
      ++ (codes "a\n*b*\na\n*b*\na\n_b_\na\n_b_\n")
      ++ (codes "a\n*b*\na\n*b*\na\n_b_\na\n_b_\n")
      ++ (codes "a\n*b*\na\n*b*\na\n_b_\na\n_b_\n")
      ++ (codes "a\n*b*\na\n*b*\na\n_b_\na\n_b_\n")
      ++ (codes "a\n*b*\na\n*b*\na\n_b_\na\n_b_\n")
      ++ (codes "a\n*b*\na\n*b*\na\n_b_\na\n_b_\n")
      ++ (codes "a\n*b*\na\n*b*\na\n_b_\na\n_b_\n")
      ++ (codes "a\n*b*\na\n*b*\na\n_b_\na\n_b_\n")
      ++ (codes "a\n*b*\na\n*b*\na\n_b_\na\n_b_\n");
}

-- Strikethrough round Emphasis
abbrev pub strikethrough_round_emphasis : Tried
strikethrough_round_emphasis = record {
  setting = setting default_options 0 ([]);
  trees = node Paragraph (node Strikethrough (node Emphasis (text (codes "a") empty) empty) empty) empty;
  texts = (codes "~~*a*~~\n")
      ++ (codes "~~*a*~~\n~~_a_~~\n~~*a*~~\n~~_a_~~\n")
      ++ (codes "~~*a*~~\n~~*a*~~\n~~_a_~~\n~~_a_~~\n")
      ++ (codes "~~*a*~~\n~~*a*~~\n~~_a_~~\n~~_a_~~\n")
      ++ (codes "~~*a*~~\n~~*a*~~\n~~_a_~~\n~~_a_~~\n")
      ++ (codes "~~*a*~~\n~~*a*~~\n~~_a_~~\n~~_a_~~\n")
      ++ (codes "~~*a*~~\n~~*a*~~\n~~_a_~~\n~~_a_~~\n")
      ++ (codes "~~*a*~~\n~~*a*~~\n~~_a_~~\n~~_a_~~\n")
      ++ (codes "~~*a*~~\n~~*a*~~\n~~_a_~~\n~~_a_~~\n")
      ++ (codes "~~*a*~~\n~~*a*~~\n~~_a_~~\n~~_a_~~\n")
      ++ (codes "~~*a*~~\n~~*a*~~\n~~_a_~~\n~~_a_~~\n")
      ++ (codes "~~*a*~~\n~~*a*~~\n~~_a_~~\n~~_a_~~\n")
      ++ (codes "~~*a*~~\n~~*a*~~\n~~_a_~~\n~~_a_~~\n")
      ++ (codes "~~*a*~~\n~~*a*~~\n~~_a_~~\n~~_a_~~\n")
      ++ (codes "~~*a*~~\n~~*a*~~\n~~_a_~~\n~~_a_~~\n")
      ++ (codes "~~*a*~~\n~~*a*~~\n~~_a_~~\n~~_a_~~\n");
}

-- a superscript and a subscript
abbrev pub a_superscript_and_a_subscript : Tried
a_superscript_and_a_subscript = record {
  setting = setting default_options 0 ([]);
  trees = node Paragraph (text (codes "a") (node Superscript (text (codes "b") empty) (node Subscript (text (codes
      "c") empty) empty))) empty;
  texts = (codes "a^b^~c~\n")
      ++ (codes "a^b^~c~\na^b^~c~\na^b^~c~\na^b^~c~\n")
      ++ (codes "a^b^~c~\na^b^~c~\na^b^~c~\na^b^~c~\n")
      ++ (codes "a^b^~c~\na^b^~c~\na^b^~c~\na^b^~c~\n")
      ++ (codes "a^b^~c~\na^b^~c~\na^b^~c~\na^b^~c~\n")
      ++ (codes "a^^b^^~c~\na^^b^^~c~\na^^b^^~c~\na^^b^^~c~\n")
      ++ (codes "a^^b^^~c~\na^^b^^~c~\na^^b^^~c~\na^^b^^~c~\n")
      ++ (codes "a^b^~c~\na^b^~c~\na^b^~c~\na^b^~c~\n")
      ++ (codes "a^b^~c~\na^b^~c~\na^b^~c~\na^b^~c~\n")
      ++ (codes "a^b^~c~\na^b^~c~\na^b^~c~\na^b^~c~\n")
      ++ (codes "a^b^~c~\na^b^~c~\na^b^~c~\na^b^~c~\n")
      ++ (codes "a^b^~c~\na^b^~c~\na^b^~c~\na^b^~c~\n")
      ++ (codes "a^b^~c~\na^b^~c~\na^b^~c~\na^b^~c~\n")
      ++ (codes "a^b^~c~\na^b^~c~\na^b^~c~\na^b^~c~\n")
      ++ (codes "a^b^~c~\na^b^~c~\na^b^~c~\na^b^~c~\n")
      ++ (codes "a^b^~c~\na^b^~c~\na^b^~c~\na^b^~c~\n");
}

-- Emphasis in Emphasis in a word
abbrev pub emphasis_in_emphasis_in_a_word : Tried
emphasis_in_emphasis_in_a_word = record {
  setting = setting default_options 0 ([]);
  trees = node Paragraph (text (codes "a") (node Emphasis (text (codes "b") (node Emphasis (text (codes "c") empty)
      empty)) (text (codes "d") empty))) empty;
  texts = (codes "a*b*c**d\n")
      ++ (codes "a*b*c**d\na*b*c**d\na*b*c**d\na*b*c**d\n")
      ++ (codes "&#97;*&#98;_c_*&#100;\n&#97;*&#98;_c_*&#100;\n&#97;_&#98;*c*_&#100;\n&#97;_&#98;*c*_&#100;\n")
      ++ (codes "&#97;*&#98;_c_*&#100;\n&#97;*&#98;_c_*&#100;\n&#97;_&#98;*c*_&#100;\n&#97;_&#98;*c*_&#100;\n")
      ++ (codes "a*b*c**d\na*b*c**d\na*b*c**d\na*b*c**d\n")
      ++ (codes "a*b*c**d\na*b*c**d\na_b_c__d\na_b_c__d\n")
      ++ (codes "a*b*c**d\na*b*c**d\na_b_c__d\na_b_c__d\n")
      ++ (codes "a*b_c_*d\na*b_c_*d\na_b*c*_d\na_b*c*_d\n")
      ++ (codes "a*b*c**d\na*b*c**d\na_b_c__d\na_b_c__d\n")
      ++ (codes "a*b_c_*d\na*b_c_*d\na_b*c*_d\na_b*c*_d\n")
      ++ (codes "a*b*c**d\na*b*c**d\na_b_c__d\na_b_c__d\n")
      ++ (codes "&#97;*&#98;_c_*&#100;\n&#97;*&#98;_c_*&#100;\n&#97;_&#98;*c*_&#100;\n&#97;_&#98;*c*_&#100;\n")
      ++ (codes "a*b_c_*d\na*b_c_*d\na_b*c*_d\na_b*c*_d\n")
      ++ (codes "a*b*c**d\na*b*c**d\na_b_c__d\na_b_c__d\n")
      ++ (codes "a*b_c_*d\na*b_c_*d\na_b*c*_d\na_b*c*_d\n")
      ++ (codes "a*b*c**d\na*b*c**d\na_b_c__d\na_b_c__d\n");
}

-- Emphasis round code
abbrev pub emphasis_round_code : Tried
emphasis_round_code = record {
  setting = setting default_options 0 ([]);
  trees = node Paragraph (node Emphasis (one (Code (codes "a")) empty) (text (codes "b") empty)) empty;
  texts = (codes "*`a`*b\n")
      ++ (codes "*`a`*b\n*`a`*b\n*`a`*b\n*`a`*b\n")
      ++ (codes "*`a`*&#98;\n*`a`*&#98;\n_`a`_&#98;\n_`a`_&#98;\n")
      ++ (codes "*`a`*&#98;\n*`a`*&#98;\n_`a`_&#98;\n_`a`_&#98;\n")
      ++ (codes "*`a`*b\n*`a`*b\n*`a`*b\n*`a`*b\n")
      ++ (codes "*`a`*b\n*`a`*b\n_`a`_b\n_`a`_b\n")
      ++ (codes "*`a`*b\n*`a`*b\n_`a`_b\n_`a`_b\n")
      ++ (codes "*`a`*b\n*`a`*b\n_`a`_b\n_`a`_b\n")
      ++ (codes "*`a`*b\n*`a`*b\n_`a`_b\n_`a`_b\n")
      ++ (codes "*`a`*b\n*`a`*b\n_`a`_b\n_`a`_b\n")
      ++ (codes "*`a`*b\n*`a`*b\n_`a`_b\n_`a`_b\n")
      ++ (codes "*`a`*&#98;\n*`a`*&#98;\n_`a`_&#98;\n_`a`_&#98;\n")
      ++ (codes "*`a`*b\n*`a`*b\n_`a`_b\n_`a`_b\n")
      ++ (codes "*`a`*b\n*`a`*b\n_`a`_b\n_`a`_b\n")
      ++ (codes "*`a`*b\n*`a`*b\n_`a`_b\n_`a`_b\n")
      ++ (codes "*`a`*b\n*`a`*b\n_`a`_b\n_`a`_b\n");
}

-- Emphasis after a letter past ASCII
abbrev pub emphasis_behind_a_letter_past_ascii : Tried
emphasis_behind_a_letter_past_ascii = record {
  setting = setting default_options 0 ([]);
  trees = node Paragraph (text (encode_utf8_all (codes "é")) (node Emphasis (text (codes "b") empty) empty)) empty;
  texts = (encode_utf8_all (codes "é*b*\n"))
      ++ (encode_utf8_all (codes "é*b*\né*b*\né*b*\né*b*\n"))
      ++ (codes "&#233;*b*\n&#233;*b*\n&#233;_b_\n&#233;_b_\n")
      ++ (codes "&#233;*b*\n&#233;*b*\n&#233;_b_\n&#233;_b_\n")
      ++ (encode_utf8_all (codes "é*b*\né*b*\né*b*\né*b*\n"))
      ++ (encode_utf8_all (codes "é*b*\né*b*\né_b_\né_b_\n"))
      ++ (encode_utf8_all (codes "é*b*\né*b*\né_b_\né_b_\n"))
      ++ (encode_utf8_all (codes "é*b*\né*b*\né_b_\né_b_\n"))
      ++ (encode_utf8_all (codes "é*b*\né*b*\né_b_\né_b_\n"))
      ++ (encode_utf8_all (codes "é*b*\né*b*\né_b_\né_b_\n"))
      ++ (encode_utf8_all (codes "é*b*\né*b*\né_b_\né_b_\n"))
      ++ (codes "&#233;*b*\n&#233;*b*\n&#233;_b_\n&#233;_b_\n")
      ++ (encode_utf8_all (codes "é*b*\né*b*\né_b_\né_b_\n"))
      ++ (encode_utf8_all (codes "é*b*\né*b*\né_b_\né_b_\n"))
      ++ (encode_utf8_all (codes "é*b*\né*b*\né_b_\né_b_\n"))
      ++ (encode_utf8_all (codes "é*b*\né*b*\né_b_\né_b_\n"));
}

-- Emphasis before a quotation mark past ASCII
abbrev pub emphasis_before_a_quotation_mark_past_ascii : Tried
emphasis_before_a_quotation_mark_past_ascii = record {
  setting = setting default_options 0 ((
    0,
    (encode_utf8_all (codes "”_x_")),
    reading_of (Start Paragraph
        ∷ Leaf (Text (encode_utf8_all (codes "”"))) ∷ Start Emphasis ∷ Leaf (Text (codes "x")) ∷ End end.Emphasis
        ∷ End end.Paragraph ∷ []) ([]) ([]),
  ) ∷ []);
  trees = node Paragraph (node Emphasis (text (codes "b") empty) (text (encode_utf8_all (codes "”")) empty)) empty;
  texts = (encode_utf8_all (codes "*b*”\n"))
      ++ (encode_utf8_all (codes "*b*”\n_b_”\n*b*”\n_b_”\n"))
      ++ (codes "*b*&#8221;\n*b*&#8221;\n_b_&#8221;\n_b_&#8221;\n")
      ++ (codes "*b*&#8221;\n*b*&#8221;\n_b_&#8221;\n_b_&#8221;\n")
      ++ (encode_utf8_all (codes "*b*”\n*b*”\n_b_”\n_b_”\n"))
      ++ (encode_utf8_all (codes "*b*”\n*b*”\n_b_”\n_b_”\n"))
      ++ (encode_utf8_all (codes "*b*”\n*b*”\n_b_”\n_b_”\n"))
      ++ (encode_utf8_all (codes "*b*”\n*b*”\n_b_”\n_b_”\n"))
      ++ (encode_utf8_all (codes "*b*”\n*b*”\n_b_”\n_b_”\n"))
      ++ (encode_utf8_all (codes "*b*”\n*b*”\n_b_”\n_b_”\n"))
      ++ (encode_utf8_all (codes "*b*”\n*b*”\n_b_”\n_b_”\n"))
      ++ (codes "*b*&#8221;\n*b*&#8221;\n_b_&#8221;\n_b_&#8221;\n")
      ++ (encode_utf8_all (codes "*b*”\n*b*”\n_b_”\n_b_”\n"))
      ++ (encode_utf8_all (codes "*b*”\n*b*”\n_b_”\n_b_”\n"))
      ++ (encode_utf8_all (codes "*b*”\n*b*”\n_b_”\n_b_”\n"))
      ++ (encode_utf8_all (codes "*b*”\n*b*”\n_b_”\n_b_”\n"));
}

-- a second Strong in Emphasis after the first
abbrev pub a_second_strong_in_emphasis_behind_the_first : Tried
a_second_strong_in_emphasis_behind_the_first = record {
  setting = setting default_options 0 ([]);
  trees = node Paragraph (node Emphasis (node Strong (text (codes "a") empty) (node Strong (text (codes "b") empty)
      empty)) empty) empty;
  texts = (codes "***a****b***\n")
      ++ (codes "***a**__b__*\n_**a**__b___\n*__a__**b***\n___a__**b**_\n")
      ++ (codes "***a**__b__*\n***a**__b__*\n___a__**b**_\n___a__**b**_\n")
      ++ (codes "***a**__b__*\n***a**__b__*\n___a__**b**_\n___a__**b**_\n")
      ++ (codes "***a**__b__*\n*__a__**b***\n_**a**__b___\n___a__**b**_\n")
      ++ (codes "***a****b***\n*__a____b__*\n_**a****b**_\n___a____b___\n")
      ++ (codes "***a****b***\n*__a____b__*\n_**a****b**_\n___a____b___\n")
      ++ (codes "***a**__b__*\n***a**__b__*\n___a__**b**_\n___a__**b**_\n")
      ++ (codes "***a**__b__*\n***a**__b__*\n___a__**b**_\n___a__**b**_\n")
      ++ (codes "***a****b***\n***a****b***\n___a____b___\n___a____b___\n")
      ++ (codes "***a****b***\n***a****b***\n___a____b___\n___a____b___\n")
      ++ (codes "***a**__b__*\n***a**__b__*\n___a__**b**_\n___a__**b**_\n")
      ++ (codes "***a**__b__*\n***a**__b__*\n___a__**b**_\n___a__**b**_\n")
      ++ (codes "***a**__b__*\n***a**__b__*\n___a__**b**_\n___a__**b**_\n")
      ++ (codes "***a**__b__*\n***a**__b__*\n___a__**b**_\n___a__**b**_\n")
      ++ (codes "***a**__b__*\n***a**__b__*\n___a__**b**_\n___a__**b**_\n");
}

-- Emphasis after Emphasis in Strong
abbrev pub emphasis_behind_emphasis_in_strong : Tried
emphasis_behind_emphasis_in_strong = record {
  setting = setting default_options 0 ([]);
  trees = node Paragraph (node Strong (node Emphasis (text (codes "a") empty) (node Emphasis (text (codes "b") empty)
      empty)) empty) empty;
  texts = (codes "***a**b***\n")
      ++ (codes "***a*_b_**\n**_a_*b***\n__*a*_b___\n___a_*b*__\n")
      ++ (codes "***a*_b_**\n___a_*b*__\n***a*_b_**\n___a_*b*__\n")
      ++ (codes "***a*_b_**\n___a_*b*__\n***a*_b_**\n___a_*b*__\n")
      ++ (codes "***a*_b_**\n__*a*_b___\n**_a_*b***\n___a_*b*__\n")
      ++ (codes "***a**b***\n__*a**b*__\n**_a__b_**\n___a__b___\n")
      ++ (codes "***a**b***\n__*a**b*__\n**_a__b_**\n___a__b___\n")
      ++ (codes "***a*_b_**\n___a_*b*__\n***a*_b_**\n___a_*b*__\n")
      ++ (codes "***a*_b_**\n___a_*b*__\n***a*_b_**\n___a_*b*__\n")
      ++ (codes "***a**b***\n___a__b___\n***a**b***\n___a__b___\n")
      ++ (codes "***a**b***\n___a__b___\n***a**b***\n___a__b___\n")
      ++ (codes "***a*_b_**\n___a_*b*__\n***a*_b_**\n___a_*b*__\n")
      ++ (codes "***a*_b_**\n___a_*b*__\n***a*_b_**\n___a_*b*__\n")
      ++ (codes "***a*_b_**\n___a_*b*__\n***a*_b_**\n___a_*b*__\n")
      ++ (codes "***a*_b_**\n___a_*b*__\n***a*_b_**\n___a_*b*__\n")
      ++ (codes "***a*_b_**\n___a_*b*__\n***a*_b_**\n___a_*b*__\n");
}

-- Emphasis after a run of three
abbrev pub emphasis_behind_a_run_of_three : Tried
emphasis_behind_a_run_of_three = record {
  setting = setting default_options 0 ([]);
  trees = node Paragraph (node Emphasis (node Strong (text (codes "a") empty) empty) (node Emphasis (text (codes "b")
      empty) empty)) empty;
  texts = (codes "***a****b*\n")
      ++ (codes "*__a__*_b_\n_**a**_*b*\n*__a__*_b_\n_**a**_*b*\n")
      ++ (codes "***a****b*\n***a****b*\n___a____b_\n___a____b_\n")
      ++ (codes "***a****b*\n***a****b*\n___a____b_\n___a____b_\n")
      ++ (codes "*__a__*_b_\n*__a__*_b_\n_**a**_*b*\n_**a**_*b*\n")
      ++ (codes "***a****b*\n*__a__**b*\n_**a**__b_\n___a____b_\n")
      ++ (codes "***a****b*\n*__a__**b*\n_**a**__b_\n___a____b_\n")
      ++ (codes "***a***_b_\n***a***_b_\n___a___*b*\n___a___*b*\n")
      ++ (codes "***a***_b_\n***a***_b_\n___a___*b*\n___a___*b*\n")
      ++ (codes "***a****b*\n***a****b*\n___a____b_\n___a____b_\n")
      ++ (codes "***a****b*\n***a****b*\n___a____b_\n___a____b_\n")
      ++ (codes "***a***_b_\n***a***_b_\n___a___*b*\n___a___*b*\n")
      ++ (codes "***a***_b_\n***a***_b_\n___a___*b*\n___a___*b*\n")
      ++ (codes "***a***_b_\n***a***_b_\n___a___*b*\n___a___*b*\n")
      ++ (codes "***a***_b_\n***a***_b_\n___a___*b*\n___a___*b*\n")
      ++ (codes "***a***_b_\n***a***_b_\n___a___*b*\n___a___*b*\n");
}

-- Strong after a run of three
abbrev pub strong_behind_a_run_of_three : Tried
strong_behind_a_run_of_three = record {
  setting = setting default_options 0 ([]);
  trees = node Paragraph (node Emphasis (node Strong (text (codes "a") empty) empty) (node Strong (text (codes "b")
      empty) empty)) empty;
  texts = (codes "***a*****b**\n")
      ++ (codes "*__a__*__b__\n_**a**_**b**\n*__a__*__b__\n_**a**_**b**\n")
      ++ (codes "***a*****b**\n***a*****b**\n___a_____b__\n___a_____b__\n")
      ++ (codes "***a*****b**\n***a*****b**\n___a_____b__\n___a_____b__\n")
      ++ (codes "*__a__*__b__\n*__a__*__b__\n_**a**_**b**\n_**a**_**b**\n")
      ++ (codes "***a*****b**\n*__a__*__b__\n_**a**_**b**\n___a_____b__\n")
      ++ (codes "***a*****b**\n*__a__*__b__\n_**a**_**b**\n___a_____b__\n")
      ++ (codes "***a***__b__\n***a***__b__\n___a___**b**\n___a___**b**\n")
      ++ (codes "***a***__b__\n***a***__b__\n___a___**b**\n___a___**b**\n")
      ++ (codes "***a*****b**\n***a*****b**\n___a_____b__\n___a_____b__\n")
      ++ (codes "***a*****b**\n***a*****b**\n___a_____b__\n___a_____b__\n")
      ++ (codes "***a***__b__\n***a***__b__\n___a___**b**\n___a___**b**\n")
      ++ (codes "***a***__b__\n***a***__b__\n___a___**b**\n___a___**b**\n")
      ++ (codes "***a***__b__\n***a***__b__\n___a___**b**\n___a___**b**\n")
      ++ (codes "***a***__b__\n***a***__b__\n___a___**b**\n___a___**b**\n")
      ++ (codes "***a***__b__\n***a***__b__\n___a___**b**\n___a___**b**\n");
}

-- a run of three in a run of three
abbrev pub a_run_of_three_in_a_run_of_three : Tried
a_run_of_three_in_a_run_of_three = record {
  setting = setting default_options 0 ([]);
  trees = node Paragraph (node Emphasis (node Strong (text (codes "a") (node Emphasis (node Strong (text (codes "b")
      empty) empty) (text (codes "c") empty))) empty) empty) empty;
  texts = (codes "_**a***b***c**_\n")
      ++ (codes "___a***b***c___\n___a***b***c___\n___a***b***c___\n___a***b***c___\n")
      ++ (codes "***&#97;___b___&#99;***\n***&#97;___b___&#99;***\n___&#97;***b***&#99;___\n___&#97;***b***&#99;___\n")
      ++ (codes "***&#97;___b___&#99;***\n***&#97;___b___&#99;***\n___&#97;***b***&#99;___\n___&#97;***b***&#99;___\n")
      ++ (codes "___a***b***c___\n___a***b***c___\n___a***b***c___\n___a***b***c___\n")
      ++ (codes "***a***b***c***\n*__a*__b__*c__*\n_**a_**b**_c**_\n___a___b___c___\n")
      ++ (codes "***a***b***c***\n*__a*__b__*c__*\n_**a_**b**_c**_\n___a___b___c___\n")
      ++ (codes "***a___b___c***\n***a___b___c***\n___a***b***c___\n___a***b***c___\n")
      ++ (codes "***a___b___c***\n***a___b___c***\n___a***b***c___\n___a***b***c___\n")
      ++ (codes "***a___b___c***\n***a___b___c***\n___a***b***c___\n___a***b***c___\n")
      ++ (codes "***a___b___c***\n***a___b___c***\n___a***b***c___\n___a***b***c___\n")
      ++ (codes "***&#97;___b___&#99;***\n***&#97;___b___&#99;***\n___&#97;***b***&#99;___\n___&#97;***b***&#99;___\n")
      ++ (codes "***a___b___c***\n***a___b___c***\n___a***b***c___\n___a***b***c___\n")
      ++ (codes "***a___b___c***\n***a___b___c***\n___a***b***c___\n___a***b***c___\n")
      ++ (codes "***a___b___c***\n***a___b___c***\n___a***b***c___\n___a***b***c___\n")
      ++ (codes "***a___b___c***\n***a___b___c***\n___a***b***c___\n___a***b***c___\n");
}

-- a break at the beginning of Emphasis at the beginning of Strong
abbrev pub a_break_at_the_beginning_of_emphasis_at_the_beginning_of_strong : Tried
a_break_at_the_beginning_of_emphasis_at_the_beginning_of_strong = record {
  setting = setting default_options 0 ([]);
  trees = node Paragraph (node Strong (node Emphasis (one SoftBreak (text (codes "a") empty)) (text (codes " b")
      empty)) empty) empty;
  texts = (codes "***\na* b**\n")
      ++ (codes "***\na* b**\n**_\na_ b**\n__*\na* b__\n___\na_ b__\n")
      ++ (codes "***\na* b**\n___\na_ b__\n***\na* b**\n___\na_ b__\n")
      ++ (codes "***\na* b**\n___\na_ b__\n***\na* b**\n___\na_ b__\n")
      ++ (codes "***\na* b**\n__*\na* b__\n**_\na_ b**\n___\na_ b__\n")
      ++ (codes "***\na* b**\n__*\na* b__\n**_\na_ b**\n___\na_ b__\n")
      ++ (codes "***\na* b**\n__*\na* b__\n**_\na_ b**\n___\na_ b__\n")
      ++ (codes "***\na* b**\n___\na_ b__\n***\na* b**\n___\na_ b__\n")
      ++ (codes "***\na* b**\n___\na_ b__\n***\na* b**\n___\na_ b__\n")
      ++ (codes "***\na* b**\n___\na_ b__\n***\na* b**\n___\na_ b__\n")
      ++ (codes "***\na* b**\n___\na_ b__\n***\na* b**\n___\na_ b__\n")
      ++ (codes "***\na* b**\n___\na_ b__\n***\na* b**\n___\na_ b__\n")
      ++ (codes "***\na* b**\n___\na_ b__\n***\na* b**\n___\na_ b__\n")
      ++ (codes "***\na* b**\n___\na_ b__\n***\na* b**\n___\na_ b__\n")
      ++ (codes "***\na* b**\n___\na_ b__\n***\na* b**\n___\na_ b__\n")
      ++ (codes "***\na* b**\n___\na_ b__\n***\na* b**\n___\na_ b__\n");
}

-- a hard break at the beginning of Emphasis at the beginning of Strong
abbrev pub a_hard_break_at_the_beginning_of_emphasis_at_the_beginning_of_strong : Tried
a_hard_break_at_the_beginning_of_emphasis_at_the_beginning_of_strong = record {
  setting = setting default_options 0 ([]);
  trees = node Paragraph (node Strong (node Emphasis (one HardBreak (text (codes "a") empty)) (text (codes " b")
      empty)) empty) empty;
  texts = (codes "***  \na* b**\n")
      ++ (codes "***  \na* b**\n**_  \na_ b**\n__*  \na* b__\n___  \na_ b__\n")
      ++ (codes "***  \na* b**\n___  \na_ b__\n***  \na* b**\n___  \na_ b__\n")
      ++ (codes "***  \na* b**\n___  \na_ b__\n***  \na* b**\n___  \na_ b__\n")
      ++ (codes "***  \na* b**\n__*  \na* b__\n**_  \na_ b**\n___  \na_ b__\n")
      ++ (codes "***  \na* b**\n__*  \na* b__\n**_  \na_ b**\n___  \na_ b__\n")
      ++ (codes "***  \na* b**\n__*  \na* b__\n**_  \na_ b**\n___  \na_ b__\n")
      ++ (codes "***  \na* b**\n___  \na_ b__\n***  \na* b**\n___  \na_ b__\n")
      ++ (codes "***  \na* b**\n___  \na_ b__\n***  \na* b**\n___  \na_ b__\n")
      ++ (codes "***  \na* b**\n___  \na_ b__\n***  \na* b**\n___  \na_ b__\n")
      ++ (codes "***  \na* b**\n___  \na_ b__\n***  \na* b**\n___  \na_ b__\n")
      ++ (codes "***  \na* b**\n___  \na_ b__\n***  \na* b**\n___  \na_ b__\n")
      ++ (codes "***  \na* b**\n___  \na_ b__\n***  \na* b**\n___  \na_ b__\n")
      ++ (codes "***  \na* b**\n___  \na_ b__\n***  \na* b**\n___  \na_ b__\n")
      ++ (codes "***  \na* b**\n___  \na_ b__\n***  \na* b**\n___  \na_ b__\n")
      ++ (codes "***  \na* b**\n___  \na_ b__\n***  \na* b**\n___  \na_ b__\n");
}

-- code at the beginning of Emphasis at the beginning of Strong
abbrev pub code_at_the_beginning_of_emphasis_at_the_beginning_of_strong : Tried
code_at_the_beginning_of_emphasis_at_the_beginning_of_strong = record {
  setting = setting default_options 0 ([]);
  trees = node Paragraph (node Strong (node Emphasis (one (Code (codes "a")) empty) (text (codes " b") empty)) empty)
      empty;
  texts = (codes "***`a`* b**\n")
      ++ (codes "**_`a`_ b**\n**_`a`_ b**\n__*`a`* b__\n__*`a`* b__\n")
      ++ (codes "***`a`* b**\n___`a`_ b__\n***`a`* b**\n___`a`_ b__\n")
      ++ (codes "***`a`* b**\n___`a`_ b__\n***`a`* b**\n___`a`_ b__\n")
      ++ (codes "**_`a`_ b**\n__*`a`* b__\n**_`a`_ b**\n__*`a`* b__\n")
      ++ (codes "***`a`* b**\n__*`a`* b__\n**_`a`_ b**\n___`a`_ b__\n")
      ++ (codes "***`a`* b**\n__*`a`* b__\n**_`a`_ b**\n___`a`_ b__\n")
      ++ (codes "***`a`* b**\n___`a`_ b__\n***`a`* b**\n___`a`_ b__\n")
      ++ (codes "***`a`* b**\n___`a`_ b__\n***`a`* b**\n___`a`_ b__\n")
      ++ (codes "***`a`* b**\n___`a`_ b__\n***`a`* b**\n___`a`_ b__\n")
      ++ (codes "***`a`* b**\n___`a`_ b__\n***`a`* b**\n___`a`_ b__\n")
      ++ (codes "***`a`* b**\n___`a`_ b__\n***`a`* b**\n___`a`_ b__\n")
      ++ (codes "***`a`* b**\n___`a`_ b__\n***`a`* b**\n___`a`_ b__\n")
      ++ (codes "***`a`* b**\n___`a`_ b__\n***`a`* b**\n___`a`_ b__\n")
      ++ (codes "***`a`* b**\n___`a`_ b__\n***`a`* b**\n___`a`_ b__\n")
      ++ (codes "***`a`* b**\n___`a`_ b__\n***`a`* b**\n___`a`_ b__\n");
}

-- Emphasis after inline HTML that ends with a letter
abbrev pub emphasis_behind_inline_html_that_ends_with_a_letter : Tried
emphasis_behind_inline_html_that_ends_with_a_letter = record {
  setting = setting default_options 0 ([]);
  trees = node Paragraph (one (InlineHtml (codes "<b>a")) (node Emphasis (text (codes "b") empty) empty)) empty;
  texts = (codes "<b>a*b*\n")
      ++ (codes "<b>a*b*\n<b>a*b*\n<b>a*b*\n<b>a*b*\n")
      ++ (codes "<b>a*b*\n<b>a*b*\n<b>a_b_\n<b>a_b_\n")
      ++ (codes "<b>a*b*\n<b>a*b*\n<b>a_b_\n<b>a_b_\n")
      ++ (codes "<b>a*b*\n<b>a*b*\n<b>a*b*\n<b>a*b*\n")
      ++ (codes "<b>a*b*\n<b>a*b*\n<b>a_b_\n<b>a_b_\n")
      ++ (codes "<b>a*b*\n<b>a*b*\n<b>a_b_\n<b>a_b_\n")
      ++ (codes "<b>a*b*\n<b>a*b*\n<b>a_b_\n<b>a_b_\n")
      ++ (codes "<b>a*b*\n<b>a*b*\n<b>a_b_\n<b>a_b_\n")
      ++ (codes "<b>a*b*\n<b>a*b*\n<b>a_b_\n<b>a_b_\n")
      ++ (codes "<b>a*b*\n<b>a*b*\n<b>a_b_\n<b>a_b_\n")
      ++ (codes "<b>a*b*\n<b>a*b*\n<b>a_b_\n<b>a_b_\n")
      ++ (codes "<b>a*b*\n<b>a*b*\n<b>a_b_\n<b>a_b_\n")
      ++ (codes "<b>a*b*\n<b>a*b*\n<b>a_b_\n<b>a_b_\n")
      ++ (codes "<b>a*b*\n<b>a*b*\n<b>a_b_\n<b>a_b_\n")
      ++ (codes "<b>a*b*\n<b>a*b*\n<b>a_b_\n<b>a_b_\n");
}

-- Emphasis with punctuation at the beginning of Emphasis before a letter
abbrev pub emphasis_with_punctuation_at_the_beginning_of_emphasis_before_a_letter : Tried
emphasis_with_punctuation_at_the_beginning_of_emphasis_before_a_letter = record {
  setting = setting default_options 0 ([]);
  trees = node Paragraph (node Emphasis (node Emphasis (text (codes "(a") empty) (text (codes "b") empty)) empty)
      empty;
  texts = (codes "_*(a*b_\n")
      ++ (codes "**(a*b*\n_*(a*b_\n**(a*b*\n_*(a*b_\n")
      ++ (codes "**(a*&#98;*\n**(a*&#98;*\n__(a_&#98;_\n__(a_&#98;_\n")
      ++ (codes "**(a*&#98;*\n**(a*&#98;*\n__(a_&#98;_\n__(a_&#98;_\n")
      ++ (codes "**(a*b*\n**(a*b*\n_*(a*b_\n_*(a*b_\n")
      ++ (codes "**(a*b*\n**(a*b*\n__(a_b_\n__(a_b_\n")
      ++ (codes "**(a*b*\n**(a*b*\n__(a_b_\n__(a_b_\n")
      ++ (codes "**(a*b*\n**(a*b*\n__(a_b_\n__(a_b_\n")
      ++ (codes "**(a*b*\n**(a*b*\n__(a_b_\n__(a_b_\n")
      ++ (codes "**(a*b*\n**(a*b*\n__(a_b_\n__(a_b_\n")
      ++ (codes "**(a*b*\n**(a*b*\n__(a_b_\n__(a_b_\n")
      ++ (codes "**(a*&#98;*\n**(a*&#98;*\n__(a_&#98;_\n__(a_&#98;_\n")
      ++ (codes "**(a*b*\n**(a*b*\n__(a_b_\n__(a_b_\n")
      ++ (codes "**(a*b*\n**(a*b*\n__(a_b_\n__(a_b_\n")
      ++ (codes "**(a*b*\n**(a*b*\n__(a_b_\n__(a_b_\n")
      ++ (codes "**(a*b*\n**(a*b*\n__(a_b_\n__(a_b_\n");
}

-- a paragraph in Emphasis at the beginning of Strong
abbrev pub a_paragraph_in_emphasis_at_the_beginning_of_strong : Tried
a_paragraph_in_emphasis_at_the_beginning_of_strong = record {
  setting = setting default_options 0 ([]);
  trees = node Paragraph (node Strong (node Emphasis (node Paragraph (text (codes "a") empty) empty) (text (codes
      " b") empty)) empty) empty;
  texts = (codes "***a*\n\n&#32;b**\n")
      ++ (codes "***a*\n\n&#32;b**\n**_a_\n\n&#32;b**\n__*a*\n\n&#32;b__\n___a_\n\n&#32;b__\n")
      ++ (codes "***a*\n\n&#32;b**\n___a_\n\n&#32;b__\n***a*\n\n&#32;b**\n___a_\n\n&#32;b__\n")
      ++ (codes "***a*\n\n&#32;b**\n___a_\n\n&#32;b__\n***a*\n\n&#32;b**\n___a_\n\n&#32;b__\n")
      ++ (codes "***a*\n\n&#32;b**\n__*a*\n\n&#32;b__\n**_a_\n\n&#32;b**\n___a_\n\n&#32;b__\n")
      ++ (codes "***a*\n\n&#32;b**\n__*a*\n\n&#32;b__\n**_a_\n\n&#32;b**\n___a_\n\n&#32;b__\n")
      ++ (codes "***a*\n\n&#32;b**\n__*a*\n\n&#32;b__\n**_a_\n\n&#32;b**\n___a_\n\n&#32;b__\n")
      ++ (codes "***a*\n\n&#32;b**\n___a_\n\n&#32;b__\n***a*\n\n&#32;b**\n___a_\n\n&#32;b__\n")
      ++ (codes "***a*\n\n&#32;b**\n___a_\n\n&#32;b__\n***a*\n\n&#32;b**\n___a_\n\n&#32;b__\n")
      ++ (codes "***a*\n\n&#32;b**\n___a_\n\n&#32;b__\n***a*\n\n&#32;b**\n___a_\n\n&#32;b__\n")
      ++ (codes "***a*\n\n&#32;b**\n___a_\n\n&#32;b__\n***a*\n\n&#32;b**\n___a_\n\n&#32;b__\n")
      ++ (codes "***a*\n\n&#32;b**\n___a_\n\n&#32;b__\n***a*\n\n&#32;b**\n___a_\n\n&#32;b__\n")
      ++ (codes "***a*\n\n&#32;b**\n___a_\n\n&#32;b__\n***a*\n\n&#32;b**\n___a_\n\n&#32;b__\n")
      ++ (codes "***a*\n\n&#32;b**\n___a_\n\n&#32;b__\n***a*\n\n&#32;b**\n___a_\n\n&#32;b__\n")
      ++ (codes "***a*\n\n&#32;b**\n___a_\n\n&#32;b__\n***a*\n\n&#32;b**\n___a_\n\n&#32;b__\n")
      ++ (codes "***a*\n\n&#32;b**\n___a_\n\n&#32;b__\n***a*\n\n&#32;b**\n___a_\n\n&#32;b__\n");
}

-- a paragraph in Emphasis at the beginning of Emphasis
abbrev pub a_paragraph_in_emphasis_at_the_beginning_of_emphasis : Tried
a_paragraph_in_emphasis_at_the_beginning_of_emphasis = record {
  setting = setting default_options 0 ([]);
  trees = node Paragraph (node Emphasis (node Emphasis (node Paragraph (text (codes "a") empty) empty) (text (codes
      "b") empty)) empty) empty;
  texts = (codes "_*a*\n\nb_\n")
      ++ (codes "**a*\n\nb*\n_*a*\n\nb_\n**a*\n\nb*\n_*a*\n\nb_\n")
      ++ (codes "**a*\n\n&#98;*\n**a*\n\n&#98;*\n__a_\n\n&#98;_\n__a_\n\n&#98;_\n")
      ++ (codes "**a*\n\n&#98;*\n**a*\n\n&#98;*\n__a_\n\n&#98;_\n__a_\n\n&#98;_\n")
      ++ (codes "**a*\n\nb*\n**a*\n\nb*\n_*a*\n\nb_\n_*a*\n\nb_\n")
      ++ (codes "**a*\n\nb*\n**a*\n\nb*\n__a_\n\nb_\n__a_\n\nb_\n")
      ++ (codes "**a*\n\nb*\n**a*\n\nb*\n__a_\n\nb_\n__a_\n\nb_\n")
      ++ (codes "**a*\n\nb*\n**a*\n\nb*\n__a_\n\nb_\n__a_\n\nb_\n")
      ++ (codes "**a*\n\nb*\n**a*\n\nb*\n__a_\n\nb_\n__a_\n\nb_\n")
      ++ (codes "**a*\n\nb*\n**a*\n\nb*\n__a_\n\nb_\n__a_\n\nb_\n")
      ++ (codes "**a*\n\nb*\n**a*\n\nb*\n__a_\n\nb_\n__a_\n\nb_\n")
      ++ (codes "**a*\n\n&#98;*\n**a*\n\n&#98;*\n__a_\n\n&#98;_\n__a_\n\n&#98;_\n")
      ++ (codes "**a*\n\nb*\n**a*\n\nb*\n__a_\n\nb_\n__a_\n\nb_\n")
      ++ (codes "**a*\n\nb*\n**a*\n\nb*\n__a_\n\nb_\n__a_\n\nb_\n")
      ++ (codes "**a*\n\nb*\n**a*\n\nb*\n__a_\n\nb_\n__a_\n\nb_\n")
      ++ (codes "**a*\n\nb*\n**a*\n\nb*\n__a_\n\nb_\n__a_\n\nb_\n");
}

-- a space at the beginning of Emphasis at the beginning of Strong
abbrev pub a_space_at_the_beginning_of_emphasis_at_the_beginning_of_strong : Tried
a_space_at_the_beginning_of_emphasis_at_the_beginning_of_strong = record {
  setting = setting default_options 0 ([]);
  trees = node Paragraph (node Strong (node Emphasis (text (codes " a") empty) (text (codes " b") empty)) empty)
      empty;
  texts = (codes "***&#32;a* b**\n")
      ++ (codes "***&#32;a* b**\n**_&#32;a_ b**\n__*&#32;a* b__\n___&#32;a_ b__\n")
      ++ (codes "***&#32;a* b**\n___&#32;a_ b__\n***&#32;a* b**\n___&#32;a_ b__\n")
      ++ (codes "***&#32;a* b**\n___&#32;a_ b__\n***&#32;a* b**\n___&#32;a_ b__\n")
      ++ (codes "***&#32;a* b**\n__*&#32;a* b__\n**_&#32;a_ b**\n___&#32;a_ b__\n")
      ++ (codes "***&#32;a* b**\n__*&#32;a* b__\n**_&#32;a_ b**\n___&#32;a_ b__\n")
      ++ (codes "***&#32;a* b**\n__*&#32;a* b__\n**_&#32;a_ b**\n___&#32;a_ b__\n")
      ++ (codes "***&#32;a* b**\n___&#32;a_ b__\n***&#32;a* b**\n___&#32;a_ b__\n")
      ++ (codes "***&#32;a* b**\n___&#32;a_ b__\n***&#32;a* b**\n___&#32;a_ b__\n")
      ++ (codes "***&#32;a* b**\n___&#32;a_ b__\n***&#32;a* b**\n___&#32;a_ b__\n")
      ++ (codes "***&#32;a* b**\n___&#32;a_ b__\n***&#32;a* b**\n___&#32;a_ b__\n")
      ++ (codes "***&#32;a* b**\n___&#32;a_ b__\n***&#32;a* b**\n___&#32;a_ b__\n")
      ++ (codes "***&#32;a* b**\n___&#32;a_ b__\n***&#32;a* b**\n___&#32;a_ b__\n")
      ++ (codes "***&#32;a* b**\n___&#32;a_ b__\n***&#32;a* b**\n___&#32;a_ b__\n")
      ++ (codes "***&#32;a* b**\n___&#32;a_ b__\n***&#32;a* b**\n___&#32;a_ b__\n")
      ++ (codes "***&#32;a* b**\n___&#32;a_ b__\n***&#32;a* b**\n___&#32;a_ b__\n");
}

-- Strong round Emphasis after Strong
abbrev pub strong_round_emphasis_behind_strong : Tried
strong_round_emphasis_behind_strong = record {
  setting = setting default_options 0 ([]);
  trees = node Paragraph (node Strong (text (codes "a") empty) (node Strong (node Emphasis (text (codes "b") empty)
      empty) empty)) empty;
  texts = (codes "**a*****b***\n")
      ++ (codes "**a**__*b*__\n**a**__*b*__\n__a__**_b_**\n__a__**_b_**\n")
      ++ (codes "**a**__*b*__\n__a__**_b_**\n**a**__*b*__\n__a__**_b_**\n")
      ++ (codes "**a**__*b*__\n__a__**_b_**\n**a**__*b*__\n__a__**_b_**\n")
      ++ (codes "**a**__*b*__\n__a__**_b_**\n**a**__*b*__\n__a__**_b_**\n")
      ++ (codes "**a*****b***\n__a____*b*__\n**a****_b_**\n__a_____b___\n")
      ++ (codes "**a*****b***\n__a____*b*__\n**a****_b_**\n__a_____b___\n")
      ++ (codes "**a**__*b*__\n__a__**_b_**\n**a**__*b*__\n__a__**_b_**\n")
      ++ (codes "**a**__*b*__\n__a__**_b_**\n**a**__*b*__\n__a__**_b_**\n")
      ++ (codes "**a****_b_**\n__a____*b*__\n**a****_b_**\n__a____*b*__\n")
      ++ (codes "**a****_b_**\n__a____*b*__\n**a****_b_**\n__a____*b*__\n")
      ++ (codes "**a**__*b*__\n__a__**_b_**\n**a**__*b*__\n__a__**_b_**\n")
      ++ (codes "**a**__*b*__\n__a__**_b_**\n**a**__*b*__\n__a__**_b_**\n")
      ++ (codes "**a**__*b*__\n__a__**_b_**\n**a**__*b*__\n__a__**_b_**\n")
      ++ (codes "**a**__*b*__\n__a__**_b_**\n**a**__*b*__\n__a__**_b_**\n")
      ++ (codes "**a**__*b*__\n__a__**_b_**\n**a**__*b*__\n__a__**_b_**\n");
}

-- punctuation at the end of Emphasis at the beginning of Emphasis
abbrev pub punctuation_at_the_end_of_emphasis_at_the_beginning_of_emphasis : Tried
punctuation_at_the_end_of_emphasis_at_the_beginning_of_emphasis = record {
  setting = setting default_options 0 ([]);
  trees = node Paragraph (node Emphasis (node Emphasis (text (codes "a.") empty) (text (codes "b") empty)) empty)
      empty;
  texts = (codes "**a.*b*\n")
      ++ (codes "**a.*b*\n_*a.*b_\n**a.*b*\n_*a.*b_\n")
      ++ (codes "**a.*&#98;*\n**a.*&#98;*\n__a._&#98;_\n__a._&#98;_\n")
      ++ (codes "**a.*&#98;*\n**a.*&#98;*\n__a._&#98;_\n__a._&#98;_\n")
      ++ (codes "**a.*b*\n**a.*b*\n_*a.*b_\n_*a.*b_\n")
      ++ (codes "**a.*b*\n**a.*b*\n__a._b_\n__a._b_\n")
      ++ (codes "**a.*b*\n**a.*b*\n__a._b_\n__a._b_\n")
      ++ (codes "**a.*b*\n**a.*b*\n__a._b_\n__a._b_\n")
      ++ (codes "**a.*b*\n**a.*b*\n__a._b_\n__a._b_\n")
      ++ (codes "**a.*b*\n**a.*b*\n__a._b_\n__a._b_\n")
      ++ (codes "**a.*b*\n**a.*b*\n__a._b_\n__a._b_\n")
      ++ (codes "**a.*&#98;*\n**a.*&#98;*\n__a._&#98;_\n__a._&#98;_\n")
      ++ (codes "**a.*b*\n**a.*b*\n__a._b_\n__a._b_\n")
      ++ (codes "**a.*b*\n**a.*b*\n__a._b_\n__a._b_\n")
      ++ (codes "*_a._b*\n*_a._b*\n_*a.*b_\n_*a.*b_\n")
      ++ (codes "*_a._b*\n*_a._b*\n_*a.*b_\n_*a.*b_\n");
}

-- Emphasis at the beginning of Strong that ends with punctuation at the beginning of Emphasis
abbrev pub emphasis_at_the_beginning_of_strong_that_ends_with_punctuation_at_the_beginning_of_emphasis : Tried
emphasis_at_the_beginning_of_strong_that_ends_with_punctuation_at_the_beginning_of_emphasis = record {
  setting = setting default_options 0 ([]);
  trees = node Paragraph (node Emphasis (node Strong (node Emphasis (text (codes "a") empty) (text (codes "b.")
      empty)) (text (codes "c") empty)) empty) empty;
  texts = (codes "****a*b.**c*\n")
      ++ (codes "****a*b.**c*\n_***a*b.**c_\n****a*b.**c*\n_***a*b.**c_\n")
      ++ (codes "****a*&#98;.**&#99;*\n****a*&#98;.**&#99;*\n____a_&#98;.__&#99;_\n____a_&#98;.__&#99;_\n")
      ++ (codes "****a*&#98;.**&#99;*\n****a*&#98;.**&#99;*\n____a_&#98;.__&#99;_\n____a_&#98;.__&#99;_\n")
      ++ (codes "****a*b.**c*\n****a*b.**c*\n_***a*b.**c_\n_***a*b.**c_\n")
      ++ (codes "****a*b.**c*\n*__*a*b.__c*\n_**_a_b.**c_\n____a_b.__c_\n")
      ++ (codes "****a*b.**c*\n*__*a*b.__c*\n_**_a_b.**c_\n____a_b.__c_\n")
      ++ (codes "****a*b.**c*\n****a*b.**c*\n____a_b.__c_\n____a_b.__c_\n")
      ++ (codes "****a*b.**c*\n****a*b.**c*\n____a_b.__c_\n____a_b.__c_\n")
      ++ (codes "****a*b.**c*\n****a*b.**c*\n____a_b.__c_\n____a_b.__c_\n")
      ++ (codes "****a*b.**c*\n****a*b.**c*\n____a_b.__c_\n____a_b.__c_\n")
      ++ (codes "****a*&#98;.**&#99;*\n****a*&#98;.**&#99;*\n____a_&#98;.__&#99;_\n____a_&#98;.__&#99;_\n")
      ++ (codes "****a*b.**c*\n****a*b.**c*\n____a_b.__c_\n____a_b.__c_\n")
      ++ (codes "****a*b.**c*\n****a*b.**c*\n____a_b.__c_\n____a_b.__c_\n")
      ++ (codes "*___a_b.__c*\n*___a_b.__c*\n_***a*b.**c_\n_***a*b.**c_\n")
      ++ (codes "*___a_b.__c*\n*___a_b.__c*\n_***a*b.**c_\n_***a*b.**c_\n");
}

-- Strong with punctuation at the end of Emphasis at the beginning of Strong
abbrev pub strong_with_punctuation_at_the_end_of_emphasis_at_the_beginning_of_strong : Tried
strong_with_punctuation_at_the_end_of_emphasis_at_the_beginning_of_strong = record {
  setting = setting default_options 0 ([]);
  trees = node Paragraph (node Strong (node Emphasis (text (codes "a") (node Strong (text (codes "b.") empty) empty))
      (text (codes "c") empty)) empty) empty;
  texts = (codes "***a**b.***c**\n")
      ++ (codes "__*a**b.***c__\n__*a**b.***c__\n__*a**b.***c__\n__*a**b.***c__\n")
      ++ (codes "***&#97;__b.__*&#99;**\n___&#97;**b.**_&#99;__\n***&#97;__b.__*&#99;**\n___&#97;**b.**_&#99;__\n")
      ++ (codes "***&#97;__b.__*&#99;**\n___&#97;**b.**_&#99;__\n***&#97;__b.__*&#99;**\n___&#97;**b.**_&#99;__\n")
      ++ (codes "__*a**b.***c__\n__*a**b.***c__\n__*a**b.***c__\n__*a**b.***c__\n")
      ++ (codes "***a**b.***c**\n__*a__b.__*c__\n**_a**b.**_c**\n___a__b.___c__\n")
      ++ (codes "***a**b.***c**\n__*a__b.__*c__\n**_a**b.**_c**\n___a__b.___c__\n")
      ++ (codes "***a__b.__*c**\n___a**b.**_c__\n***a__b.__*c**\n___a**b.**_c__\n")
      ++ (codes "***a**b.***c**\n___a__b.___c__\n***a**b.***c**\n___a__b.___c__\n")
      ++ (codes "***a__b.__*c**\n___a**b.**_c__\n***a__b.__*c**\n___a**b.**_c__\n")
      ++ (codes "***a**b.***c**\n___a__b.___c__\n***a**b.***c**\n___a__b.___c__\n")
      ++ (codes "***&#97;__b.__*&#99;**\n___&#97;**b.**_&#99;__\n***&#97;__b.__*&#99;**\n___&#97;**b.**_&#99;__\n")
      ++ (codes "***a__b.__*c**\n___a**b.**_c__\n***a__b.__*c**\n___a**b.**_c__\n")
      ++ (codes "***a**b.***c**\n___a__b.___c__\n***a**b.***c**\n___a__b.___c__\n")
      ++ (codes "***a__b.__*c**\n___a**b.**_c__\n***a__b.__*c**\n___a**b.**_c__\n")
      ++ (codes "***a**b.***c**\n___a__b.___c__\n***a**b.***c**\n___a__b.___c__\n");
}

-- a run of three after a run of three
abbrev pub a_run_of_three_behind_a_run_of_three : Tried
a_run_of_three_behind_a_run_of_three = record {
  setting = setting default_options 0 ([]);
  trees = node Paragraph (node Emphasis (node Strong (text (codes "a") empty) empty) (node Emphasis (node Strong (text
      (codes "b") empty) empty) empty)) empty;
  texts = (codes "***a******b***\n")
      ++ (codes "*__a__*_**b**_\n_**a**_*__b__*\n*__a__*_**b**_\n_**a**_*__b__*\n")
      ++ (codes "***a******b***\n***a******b***\n___a______b___\n___a______b___\n")
      ++ (codes "***a******b***\n***a******b***\n___a______b___\n___a______b___\n")
      ++ (codes "*__a__*_**b**_\n*__a__*_**b**_\n_**a**_*__b__*\n_**a**_*__b__*\n")
      ++ (codes "***a******b***\n*__a__**__b__*\n_**a**__**b**_\n___a______b___\n")
      ++ (codes "***a******b***\n*__a__**__b__*\n_**a**__**b**_\n___a______b___\n")
      ++ (codes "***a***___b___\n***a***___b___\n___a___***b***\n___a___***b***\n")
      ++ (codes "***a***___b___\n***a***___b___\n___a___***b***\n___a___***b***\n")
      ++ (codes "***a******b***\n***a******b***\n___a______b___\n___a______b___\n")
      ++ (codes "***a******b***\n***a******b***\n___a______b___\n___a______b___\n")
      ++ (codes "***a***___b___\n***a***___b___\n___a___***b***\n___a___***b***\n")
      ++ (codes "***a***___b___\n***a***___b___\n___a___***b***\n___a___***b***\n")
      ++ (codes "***a***___b___\n***a***___b___\n___a___***b***\n___a___***b***\n")
      ++ (codes "***a***___b___\n***a***___b___\n___a___***b***\n___a___***b***\n")
      ++ (codes "***a***___b___\n***a***___b___\n___a___***b***\n___a___***b***\n");
}

-- Emphasis after Strikethrough
abbrev pub emphasis_behind_strikethrough : Tried
emphasis_behind_strikethrough = record {
  setting = setting default_options 0 ([]);
  trees = node Paragraph (node Strikethrough (text (codes "a") empty) (node Emphasis (text (codes "b") empty) empty))
      empty;
  texts = (codes "~~a~~*b*\n")
      ++ (codes "~~a~~*b*\n~~a~~_b_\n~~a~~*b*\n~~a~~_b_\n")
      ++ (codes "~~a~~*b*\n~~a~~*b*\n~~a~~_b_\n~~a~~_b_\n")
      ++ (codes "~~a~~*b*\n~~a~~*b*\n~~a~~_b_\n~~a~~_b_\n")
      ++ (codes "~~a~~*b*\n~~a~~*b*\n~~a~~_b_\n~~a~~_b_\n")
      ++ (codes "~~a~~*b*\n~~a~~*b*\n~~a~~_b_\n~~a~~_b_\n")
      ++ (codes "~~a~~*b*\n~~a~~*b*\n~~a~~_b_\n~~a~~_b_\n")
      ++ (codes "~~a~~*b*\n~~a~~*b*\n~~a~~_b_\n~~a~~_b_\n")
      ++ (codes "~~a~~*b*\n~~a~~*b*\n~~a~~_b_\n~~a~~_b_\n")
      ++ (codes "~~a~~*b*\n~~a~~*b*\n~~a~~_b_\n~~a~~_b_\n")
      ++ (codes "~~a~~*b*\n~~a~~*b*\n~~a~~_b_\n~~a~~_b_\n")
      ++ (codes "~~a~~*b*\n~~a~~*b*\n~~a~~_b_\n~~a~~_b_\n")
      ++ (codes "~~a~~*b*\n~~a~~*b*\n~~a~~_b_\n~~a~~_b_\n")
      ++ (codes "~~a~~*b*\n~~a~~*b*\n~~a~~_b_\n~~a~~_b_\n")
      ++ (codes "~~a~~*b*\n~~a~~*b*\n~~a~~_b_\n~~a~~_b_\n")
      ++ (codes "~~a~~*b*\n~~a~~*b*\n~~a~~_b_\n~~a~~_b_\n");
}

-- Emphasis after Emphasis that ends with Emphasis
abbrev pub emphasis_behind_emphasis_that_ends_with_emphasis : Tried
emphasis_behind_emphasis_that_ends_with_emphasis = record {
  setting = setting default_options 0 ([]);
  trees = node Paragraph (node Emphasis (text (codes "a") (node Emphasis (text (codes "b") empty) empty)) (node
      Emphasis (text (codes "c") empty) empty)) empty;
  texts = (codes "_a*b*_*c*\n")
      ++ (codes "_a*b*_*c*\n_a*b*_*c*\n_a*b*_*c*\n_a*b*_*c*\n")
      ++ (codes "*&#97;_b_*_c_\n*&#97;_b_*_c_\n_&#97;*b*_*c*\n_&#97;*b*_*c*\n")
      ++ (codes "*&#97;_b_*_c_\n*&#97;_b_*_c_\n_&#97;*b*_*c*\n_&#97;*b*_*c*\n")
      ++ (codes "_a*b*_*c*\n_a*b*_*c*\n_a*b*_*c*\n_a*b*_*c*\n")
      ++ (codes "*a*b***c*\n*a*b***c*\n_a_b___c_\n_a_b___c_\n")
      ++ (codes "*a*b***c*\n*a*b***c*\n_a_b___c_\n_a_b___c_\n")
      ++ (codes "*a_b_*_c_\n*a_b_*_c_\n_a*b*_*c*\n_a*b*_*c*\n")
      ++ (codes "*a*b**_c_\n*a*b**_c_\n_a_b__*c*\n_a_b__*c*\n")
      ++ (codes "*a_b_**c*\n*a_b_**c*\n_a*b*__c_\n_a*b*__c_\n")
      ++ (codes "*a*b***c*\n*a*b***c*\n_a_b___c_\n_a_b___c_\n")
      ++ (codes "*&#97;_b_*_c_\n*&#97;_b_*_c_\n_&#97;*b*_*c*\n_&#97;*b*_*c*\n")
      ++ (codes "*a_b_*_c_\n*a_b_*_c_\n_a*b*_*c*\n_a*b*_*c*\n")
      ++ (codes "*a*b**_c_\n*a*b**_c_\n_a_b__*c*\n_a_b__*c*\n")
      ++ (codes "*a_b_*_c_\n*a_b_*_c_\n_a*b*_*c*\n_a*b*_*c*\n")
      ++ (codes "*a*b**_c_\n*a*b**_c_\n_a_b__*c*\n_a_b__*c*\n");
}

-- punctuation at the beginning of Emphasis at the beginning of Strong
abbrev pub punctuation_at_the_beginning_of_emphasis_at_the_beginning_of_strong : Tried
punctuation_at_the_beginning_of_emphasis_at_the_beginning_of_strong = record {
  setting = setting default_options 0 ([]);
  trees = node Paragraph (node Strong (node Emphasis (text (codes "(a)") empty) (text (codes " b") empty)) empty)
      empty;
  texts = (codes "***(a)* b**\n")
      ++ (codes "**_(a)_ b**\n**_(a)_ b**\n__*(a)* b__\n__*(a)* b__\n")
      ++ (codes "***(a)* b**\n___(a)_ b__\n***(a)* b**\n___(a)_ b__\n")
      ++ (codes "***(a)* b**\n___(a)_ b__\n***(a)* b**\n___(a)_ b__\n")
      ++ (codes "**_(a)_ b**\n__*(a)* b__\n**_(a)_ b**\n__*(a)* b__\n")
      ++ (codes "***(a)* b**\n__*(a)* b__\n**_(a)_ b**\n___(a)_ b__\n")
      ++ (codes "***(a)* b**\n__*(a)* b__\n**_(a)_ b**\n___(a)_ b__\n")
      ++ (codes "***(a)* b**\n___(a)_ b__\n***(a)* b**\n___(a)_ b__\n")
      ++ (codes "***(a)* b**\n___(a)_ b__\n***(a)* b**\n___(a)_ b__\n")
      ++ (codes "***(a)* b**\n___(a)_ b__\n***(a)* b**\n___(a)_ b__\n")
      ++ (codes "***(a)* b**\n___(a)_ b__\n***(a)* b**\n___(a)_ b__\n")
      ++ (codes "***(a)* b**\n___(a)_ b__\n***(a)* b**\n___(a)_ b__\n")
      ++ (codes "***(a)* b**\n___(a)_ b__\n***(a)* b**\n___(a)_ b__\n")
      ++ (codes "***(a)* b**\n___(a)_ b__\n***(a)* b**\n___(a)_ b__\n")
      ++ (codes "***(a)* b**\n___(a)_ b__\n***(a)* b**\n___(a)_ b__\n")
      ++ (codes "***(a)* b**\n___(a)_ b__\n***(a)* b**\n___(a)_ b__\n");
}

-- a run of three after Emphasis
abbrev pub a_run_of_three_behind_emphasis : Tried
a_run_of_three_behind_emphasis = record {
  setting = setting default_options 0 ([]);
  trees = node Paragraph (node Emphasis (text (codes "a") empty) (node Emphasis (node Strong (text (codes "b") empty)
      empty) empty)) empty;
  texts = (codes "*a****b***\n")
      ++ (codes "*a*_**b**_\n_a_*__b__*\n*a*_**b**_\n_a_*__b__*\n")
      ++ (codes "*a****b***\n*a****b***\n_a____b___\n_a____b___\n")
      ++ (codes "*a****b***\n*a****b***\n_a____b___\n_a____b___\n")
      ++ (codes "*a*_**b**_\n*a*_**b**_\n_a_*__b__*\n_a_*__b__*\n")
      ++ (codes "*a****b***\n*a**__b__*\n_a__**b**_\n_a____b___\n")
      ++ (codes "*a****b***\n*a**__b__*\n_a__**b**_\n_a____b___\n")
      ++ (codes "*a*___b___\n*a*___b___\n_a_***b***\n_a_***b***\n")
      ++ (codes "*a*___b___\n*a*___b___\n_a_***b***\n_a_***b***\n")
      ++ (codes "*a****b***\n*a****b***\n_a____b___\n_a____b___\n")
      ++ (codes "*a****b***\n*a****b***\n_a____b___\n_a____b___\n")
      ++ (codes "*a*___b___\n*a*___b___\n_a_***b***\n_a_***b***\n")
      ++ (codes "*a*___b___\n*a*___b___\n_a_***b***\n_a_***b***\n")
      ++ (codes "*a*___b___\n*a*___b___\n_a_***b***\n_a_***b***\n")
      ++ (codes "*a*___b___\n*a*___b___\n_a_***b***\n_a_***b***\n")
      ++ (codes "*a*___b___\n*a*___b___\n_a_***b***\n_a_***b***\n");
}

-- Emphasis with punctuation after a space in Emphasis before a letter
abbrev pub emphasis_with_punctuation_behind_a_space_in_emphasis_before_a_letter : Tried
emphasis_with_punctuation_behind_a_space_in_emphasis_before_a_letter = record {
  setting = setting default_options 0 ([]);
  trees = node Paragraph (node Emphasis (text (codes "a ") (node Emphasis (text (codes "(b") empty) (text (codes "c")
      empty))) empty) empty;
  texts = (codes "*a *(b*c*\n")
      ++ (codes "*a *(b*c*\n_a *(b*c_\n*a *(b*c*\n_a *(b*c_\n")
      ++ (codes "*a _(b_&#99;*\n*a _(b_&#99;*\n_a *(b*&#99;_\n_a *(b*&#99;_\n")
      ++ (codes "*a _(b_&#99;*\n*a _(b_&#99;*\n_a *(b*&#99;_\n_a *(b*&#99;_\n")
      ++ (codes "*a *(b*c*\n*a *(b*c*\n_a *(b*c_\n_a *(b*c_\n")
      ++ (codes "*a *(b*c*\n*a *(b*c*\n_a _(b_c_\n_a _(b_c_\n")
      ++ (codes "*a *(b*c*\n*a *(b*c*\n_a _(b_c_\n_a _(b_c_\n")
      ++ (codes "*a _(b_c*\n*a _(b_c*\n_a *(b*c_\n_a *(b*c_\n")
      ++ (codes "*a _(b_c*\n*a _(b_c*\n_a *(b*c_\n_a *(b*c_\n")
      ++ (codes "*a _(b_c*\n*a _(b_c*\n_a *(b*c_\n_a *(b*c_\n")
      ++ (codes "*a _(b_c*\n*a _(b_c*\n_a *(b*c_\n_a *(b*c_\n")
      ++ (codes "*a _(b_&#99;*\n*a _(b_&#99;*\n_a *(b*&#99;_\n_a *(b*&#99;_\n")
      ++ (codes "*a _(b_c*\n*a _(b_c*\n_a *(b*c_\n_a *(b*c_\n")
      ++ (codes "*a _(b_c*\n*a _(b_c*\n_a *(b*c_\n_a *(b*c_\n")
      ++ (codes "*a _(b_c*\n*a _(b_c*\n_a *(b*c_\n_a *(b*c_\n")
      ++ (codes "*a _(b_c*\n*a _(b_c*\n_a *(b*c_\n_a *(b*c_\n");
}

-- Emphasis with punctuation after punctuation in Emphasis before a letter
abbrev pub emphasis_with_punctuation_behind_punctuation_in_emphasis_before_a_letter : Tried
emphasis_with_punctuation_behind_punctuation_in_emphasis_before_a_letter = record {
  setting = setting default_options 0 ([]);
  trees = node Paragraph (node Emphasis (text (codes "(") (node Emphasis (text (codes "(b") empty) (text (codes "c")
      empty))) empty) empty;
  texts = (codes "_(*(b*c_\n")
      ++ (codes "_(*(b*c_\n_(*(b*c_\n_(*(b*c_\n_(*(b*c_\n")
      ++ (codes "*&#40;_(b_&#99;*\n*&#40;_(b_&#99;*\n_&#40;*(b*&#99;_\n_&#40;*(b*&#99;_\n")
      ++ (codes "*&#40;_(b_&#99;*\n*&#40;_(b_&#99;*\n_&#40;*(b*&#99;_\n_&#40;*(b*&#99;_\n")
      ++ (codes "_(*(b*c_\n_(*(b*c_\n_(*(b*c_\n_(*(b*c_\n")
      ++ (codes "*(*(b*c*\n*(*(b*c*\n_(_(b_c_\n_(_(b_c_\n")
      ++ (codes "*(*(b*c*\n*(*(b*c*\n_(_(b_c_\n_(_(b_c_\n")
      ++ (codes "*(_(b_c*\n*(_(b_c*\n_(*(b*c_\n_(*(b*c_\n")
      ++ (codes "*(_(b_c*\n*(_(b_c*\n_(*(b*c_\n_(*(b*c_\n")
      ++ (codes "*(_(b_c*\n*(_(b_c*\n_(*(b*c_\n_(*(b*c_\n")
      ++ (codes "*(_(b_c*\n*(_(b_c*\n_(*(b*c_\n_(*(b*c_\n")
      ++ (codes "*&#40;_(b_&#99;*\n*&#40;_(b_&#99;*\n_&#40;*(b*&#99;_\n_&#40;*(b*&#99;_\n")
      ++ (codes "*(_(b_c*\n*(_(b_c*\n_(*(b*c_\n_(*(b*c_\n")
      ++ (codes "*(_(b_c*\n*(_(b_c*\n_(*(b*c_\n_(*(b*c_\n")
      ++ (codes "*(_(b_c*\n*(_(b_c*\n_(*(b*c_\n_(*(b*c_\n")
      ++ (codes "*(_(b_c*\n*(_(b_c*\n_(*(b*c_\n_(*(b*c_\n");
}

-- Emphasis in a word in Strong in Emphasis
abbrev pub emphasis_in_a_word_in_strong_in_emphasis : Tried
emphasis_in_a_word_in_strong_in_emphasis = record {
  setting = setting default_options 0 ([]);
  trees = node Paragraph (node Emphasis (node Strong (text (codes "a") (node Emphasis (text (codes "b") empty) (text
      (codes "c") empty))) empty) empty) empty;
  texts = (codes "_**a*b*c**_\n")
      ++ (codes "___a*b*c___\n___a*b*c___\n___a*b*c___\n___a*b*c___\n")
      ++ (codes "***&#97;_b_&#99;***\n***&#97;_b_&#99;***\n___&#97;*b*&#99;___\n___&#97;*b*&#99;___\n")
      ++ (codes "***&#97;_b_&#99;***\n***&#97;_b_&#99;***\n___&#97;*b*&#99;___\n___&#97;*b*&#99;___\n")
      ++ (codes "___a*b*c___\n___a*b*c___\n___a*b*c___\n___a*b*c___\n")
      ++ (codes "***a*b*c***\n*__a*b*c__*\n_**a_b_c**_\n___a_b_c___\n")
      ++ (codes "***a*b*c***\n*__a*b*c__*\n_**a_b_c**_\n___a_b_c___\n")
      ++ (codes "***a_b_c***\n***a_b_c***\n___a*b*c___\n___a*b*c___\n")
      ++ (codes "***a_b_c***\n***a_b_c***\n___a*b*c___\n___a*b*c___\n")
      ++ (codes "***a_b_c***\n***a_b_c***\n___a*b*c___\n___a*b*c___\n")
      ++ (codes "***a_b_c***\n***a_b_c***\n___a*b*c___\n___a*b*c___\n")
      ++ (codes "***&#97;_b_&#99;***\n***&#97;_b_&#99;***\n___&#97;*b*&#99;___\n___&#97;*b*&#99;___\n")
      ++ (codes "***a_b_c***\n***a_b_c***\n___a*b*c___\n___a*b*c___\n")
      ++ (codes "***a_b_c***\n***a_b_c***\n___a*b*c___\n___a*b*c___\n")
      ++ (codes "***a_b_c***\n***a_b_c***\n___a*b*c___\n___a*b*c___\n")
      ++ (codes "***a_b_c***\n***a_b_c***\n___a*b*c___\n___a*b*c___\n");
}

-- Emphasis in a word in Emphasis in a word
abbrev pub emphasis_in_a_word_in_emphasis_in_a_word : Tried
emphasis_in_a_word_in_emphasis_in_a_word = record {
  setting = setting default_options 0 ([]);
  trees = node Paragraph (text (codes "x") (node Emphasis (text (codes "a") (node Emphasis (text (codes "b") empty)
      (text (codes "c") empty))) (text (codes "y") empty))) empty;
  texts = (codes "x*a*b*c*y\n")
      ++ (codes "x*a*b*c*y\nx*a*b*c*y\nx*a*b*c*y\nx*a*b*c*y\n")
      ++ (codes "&#120;*&#97;_b_&#99;*&#121;\n&#120;*&#97;_b_&#99;*&#121;\n&#120;_&#97;*b*&#99;_&#121;\n&#120;_&#97;*b*&#99;_&#121;\n")
      ++ (codes "&#120;*&#97;_b_&#99;*&#121;\n&#120;*&#97;_b_&#99;*&#121;\n&#120;_&#97;*b*&#99;_&#121;\n&#120;_&#97;*b*&#99;_&#121;\n")
      ++ (codes "x*a*b*c*y\nx*a*b*c*y\nx*a*b*c*y\nx*a*b*c*y\n")
      ++ (codes "x*a*b*c*y\nx*a*b*c*y\nx_a_b_c_y\nx_a_b_c_y\n")
      ++ (codes "x*a*b*c*y\nx*a*b*c*y\nx_a_b_c_y\nx_a_b_c_y\n")
      ++ (codes "x*a_b_c*y\nx*a_b_c*y\nx_a*b*c_y\nx_a*b*c_y\n")
      ++ (codes "x*a_b_c*y\nx*a_b_c*y\nx_a*b*c_y\nx_a*b*c_y\n")
      ++ (codes "x*a_b_c*y\nx*a_b_c*y\nx_a*b*c_y\nx_a*b*c_y\n")
      ++ (codes "x*a_b_c*y\nx*a_b_c*y\nx_a*b*c_y\nx_a*b*c_y\n")
      ++ (codes "&#120;*&#97;_b_&#99;*&#121;\n&#120;*&#97;_b_&#99;*&#121;\n&#120;_&#97;*b*&#99;_&#121;\n&#120;_&#97;*b*&#99;_&#121;\n")
      ++ (codes "x*a_b_c*y\nx*a_b_c*y\nx_a*b*c_y\nx_a*b*c_y\n")
      ++ (codes "x*a_b_c*y\nx*a_b_c*y\nx_a*b*c_y\nx_a*b*c_y\n")
      ++ (codes "x*a_b_c*y\nx*a_b_c*y\nx_a*b*c_y\nx_a*b*c_y\n")
      ++ (codes "x*a_b_c*y\nx*a_b_c*y\nx_a*b*c_y\nx_a*b*c_y\n");
}

-- Emphasis alone with an underscore as marker
abbrev pub emphasis_alone_with_an_underscore_as_marker : Tried
emphasis_alone_with_an_underscore_as_marker = record {
  setting = setting (record default_options { emphasis_token = 95; strong_token = (codes "__") }) 0 ([]);
  trees = node Paragraph (node Emphasis (text (codes "a") empty) empty) empty;
  texts = (codes "_a_\n")
      ++ (codes "_a_\n*a*\n_a_\n*a*\n")
      ++ (codes "*a*\n*a*\n_a_\n_a_\n")
      ++ (codes "*a*\n*a*\n_a_\n_a_\n")
      ++ (codes "*a*\n*a*\n_a_\n_a_\n")
      ++ (codes "*a*\n*a*\n_a_\n_a_\n")
      ++ (codes "*a*\n*a*\n_a_\n_a_\n")
      ++ (codes "*a*\n*a*\n_a_\n_a_\n")
      ++ (codes "*a*\n*a*\n_a_\n_a_\n")
      ++ (codes "*a*\n*a*\n_a_\n_a_\n")
      ++ (codes "*a*\n*a*\n_a_\n_a_\n")
      ++ (codes "*a*\n*a*\n_a_\n_a_\n")
      ++ (codes "*a*\n*a*\n_a_\n_a_\n")
      ++ (codes "*a*\n*a*\n_a_\n_a_\n")
      ++ (codes "*a*\n*a*\n_a_\n_a_\n")
      ++ (codes "*a*\n*a*\n_a_\n_a_\n");
}

-- Emphasis with an underscore as marker
abbrev pub emphasis_with_an_underscore_as_marker : Tried
emphasis_with_an_underscore_as_marker = record {
  setting = setting (record default_options { emphasis_token = 95; strong_token = (codes "__") }) 0 ([]);
  trees = node Paragraph (text (codes "a") (node Emphasis (text (codes "b") empty) empty)) empty;
  texts = (codes "a_b_\n")
      ++ (codes "a*b*\na*b*\na*b*\na*b*\n")
      ++ (codes "&#97;*b*\n&#97;*b*\n&#97;_b_\n&#97;_b_\n")
      ++ (codes "&#97;*b*\n&#97;*b*\n&#97;_b_\n&#97;_b_\n")
      ++ (codes "a*b*\na*b*\na*b*\na*b*\n")
      ++ (codes "a*b*\na*b*\na_b_\na_b_\n")
      ++ (codes "a*b*\na*b*\na_b_\na_b_\n")
      ++ (codes "a*b*\na*b*\na_b_\na_b_\n")
      ++ (codes "a*b*\na*b*\na_b_\na_b_\n")
      ++ (codes "a*b*\na*b*\na_b_\na_b_\n")
      ++ (codes "a*b*\na*b*\na_b_\na_b_\n")
      ++ (codes "&#97;*b*\n&#97;*b*\n&#97;_b_\n&#97;_b_\n")
      ++ (codes "a*b*\na*b*\na_b_\na_b_\n")
      ++ (codes "a*b*\na*b*\na_b_\na_b_\n")
      ++ (codes "a*b*\na*b*\na_b_\na_b_\n")
      ++ (codes "a*b*\na*b*\na_b_\na_b_\n");
}

-- the first of these
abbrev pub first_units : List Tried
first_units = emphasis ∷ strong ∷ emphasis_in_a_word ∷ strong_in_a_word ∷ emphasis_behind_a_letter
    ∷ emphasis_before_a_letter ∷ emphasis_beside_spaces ∷ emphasis_beside_punctuation
    ∷ emphasis_round_punctuation_in_a_word ∷ emphasis_round_spaces ∷ emphasis_in_emphasis ∷ strong_in_emphasis
    ∷ emphasis_in_strong ∷ strong_in_strong ∷ emphasis_at_the_beginning_of_emphasis ∷ emphasis_at_the_end_of_emphasis
    ∷ emphasis_inside_emphasis ∷ strong_at_the_beginning_of_emphasis ∷ strong_at_the_end_of_emphasis
    ∷ strong_inside_emphasis ∷ emphasis_at_the_beginning_of_strong ∷ emphasis_at_the_end_of_strong
    ∷ emphasis_inside_strong ∷ strong_at_the_beginning_of_strong ∷ strong_at_the_end_of_strong
    ∷ emphasis_behind_emphasis ∷ []

-- the next ones
abbrev pub second_units : List Tried
second_units = strong_behind_emphasis ∷ emphasis_behind_strong ∷ strong_behind_strong ∷ three_emphases_in_a_row
    ∷ emphasis_at_both_ends_of_emphasis ∷ strong_at_both_ends_of_emphasis ∷ emphasis_at_both_ends_of_strong
    ∷ three_emphases_in_one_another ∷ emphasis_in_strong_in_emphasis ∷ a_literal_asterisk_before_emphasis
    ∷ a_literal_asterisk_behind_emphasis ∷ a_literal_underscore_before_strong ∷ a_literal_underscore_behind_strong
    ∷ literal_markers_on_both_sides_of_emphasis ∷ punctuation_at_the_end_of_emphasis_at_the_beginning_of_strong
    ∷ punctuation_at_the_end_of_strong_at_the_beginning_of_emphasis ∷ a_break_before_emphasis
    ∷ strikethrough_round_emphasis ∷ a_superscript_and_a_subscript ∷ emphasis_in_emphasis_in_a_word
    ∷ emphasis_round_code ∷ emphasis_behind_a_letter_past_ascii ∷ emphasis_before_a_quotation_mark_past_ascii
    ∷ a_second_strong_in_emphasis_behind_the_first ∷ emphasis_behind_emphasis_in_strong
    ∷ emphasis_behind_a_run_of_three ∷ []

-- the last ones
abbrev pub third_units : List Tried
third_units = strong_behind_a_run_of_three ∷ a_run_of_three_in_a_run_of_three
    ∷ a_break_at_the_beginning_of_emphasis_at_the_beginning_of_strong
    ∷ a_hard_break_at_the_beginning_of_emphasis_at_the_beginning_of_strong
    ∷ code_at_the_beginning_of_emphasis_at_the_beginning_of_strong
    ∷ emphasis_behind_inline_html_that_ends_with_a_letter ∷
    emphasis_with_punctuation_at_the_beginning_of_emphasis_before_a_letter
    ∷ a_paragraph_in_emphasis_at_the_beginning_of_strong ∷ a_paragraph_in_emphasis_at_the_beginning_of_emphasis
    ∷ a_space_at_the_beginning_of_emphasis_at_the_beginning_of_strong ∷ strong_round_emphasis_behind_strong
    ∷ punctuation_at_the_end_of_emphasis_at_the_beginning_of_emphasis
    ∷ emphasis_at_the_beginning_of_strong_that_ends_with_punctuation_at_the_beginning_of_emphasis
    ∷ strong_with_punctuation_at_the_end_of_emphasis_at_the_beginning_of_strong ∷ a_run_of_three_behind_a_run_of_three
    ∷ emphasis_behind_strikethrough ∷ emphasis_behind_emphasis_that_ends_with_emphasis
    ∷ punctuation_at_the_beginning_of_emphasis_at_the_beginning_of_strong ∷ a_run_of_three_behind_emphasis
    ∷ emphasis_with_punctuation_behind_a_space_in_emphasis_before_a_letter
    ∷ emphasis_with_punctuation_behind_punctuation_in_emphasis_before_a_letter
    ∷ emphasis_in_a_word_in_strong_in_emphasis ∷ emphasis_in_a_word_in_emphasis_in_a_word
    ∷ emphasis_alone_with_an_underscore_as_marker ∷ emphasis_with_an_underscore_as_marker ∷ []
