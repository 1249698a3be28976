-- Calls in documents that have definitions of links already.
use Rattle.std.specs.Prelude.{ℕ, [], ◌∷◌, codes, None, Some, List}
use Rattle.tocmark_event.specs.Options.{default_options}
use Rattle.tocmark_event.specs.View.{Paragraph, Link, Text, Start, End, Leaf}
use Rattle.tocmark_event.specs.declared.event.LinkType.TheVariants as link
use Rattle.tocmark_event.specs.declared.event.TagEnd.TheVariants as end
use Rattle.tocmark_spelling.specs.Page.{Reference}
use Rattle.tocmark_state.specs.Ranges.{Pair, unranged}
use Rattle.test_definitions.specs.Script.{setting, reading_of}
use Rattle.test_definitions.specs.Answers.{CallsBehind}

-- a definition without a title
abbrev pub defined_as : List ℕ → List ℕ → Reference
defined_as label dest = record { label = label; destination = dest; title = [] }

-- a paragraph with one link by this label
abbrev pub link_by : List ℕ → List ℕ → List Pair
link_by label dest =
    unranged (Start Paragraph) ∷ unranged (Start (Link link.Reference dest [] label))
    ∷ unranged (Leaf (Text (codes "t"))) ∷ unranged (End end.Link) ∷ unranged (End end.Paragraph) ∷ []

-- a label that is defined, in another case, and one that isn't
abbrev pub a_label_that_is_defined_and_one_that_is_not : CallsBehind
a_label_that_is_defined_and_one_that_is_not = record {
  defined = defined_as (codes "a") (codes "/u") ∷ [];
  calls = record {
    setting = setting default_options 0 ([]);
    source = [];
    calls = link_by (codes "A") (codes "/u") ∷ link_by (codes "b") (codes "/v") ∷ [];
    answers = record {
      handed = ([]) ∷ ((codes "[t][A]") ∷ []) ∷ ((codes "\n\n[t][b]") ∷ (codes "\n\n[b]: /v") ∷ []) ∷ [];
      error = None;
    };
  };
}

-- where all labels are defined nothing is left at the end
abbrev pub where_all_labels_are_defined : CallsBehind
where_all_labels_are_defined = record {
  defined = defined_as (codes "b") (codes "/v") ∷ defined_as (codes "a") (codes "/u") ∷ [];
  calls = record {
    setting = setting default_options 0 ([]);
    source = [];
    calls = link_by (codes "a") (codes "/u") ∷ [];
    answers = record { handed = ([]) ∷ ((codes "[t][a]") ∷ []) ∷ []; error = None };
  };
}

-- a label that is defined with another destination
abbrev pub a_label_that_leads_elsewhere : CallsBehind
a_label_that_leads_elsewhere = record {
  defined = defined_as (codes "a") (codes "/u") ∷ [];
  calls = record {
    setting = setting default_options 0 ([]);
    source = [];
    calls = link_by (codes "a") (codes "/w") ∷ [];
    answers = record { handed = ([]) ∷ ((codes "[t][a]") ∷ (codes "\n\n[a]: /w") ∷ []) ∷ []; error = None };
  };
}

-- a label with other white space than the one that is defined
abbrev pub a_label_with_other_white_space : CallsBehind
a_label_with_other_white_space = record {
  defined = defined_as (codes "a  b ") (codes "/u") ∷ [];
  calls = record {
    setting = setting default_options 0 ([]);
    source = [];
    calls = link_by (codes "A b") (codes "/u") ∷ link_by (codes "ab") (codes "/u") ∷ [];
    answers = record {
      handed = ([]) ∷ ((codes "[t][A b]") ∷ []) ∷ ((codes "\n\n[t][ab]") ∷ (codes "\n\n[ab]: /u") ∷ []) ∷ [];
      error = None;
    };
  };
}

-- of two definitions of a label the first counts
abbrev pub the_first_definition_counts : CallsBehind
the_first_definition_counts = record {
  defined = defined_as (codes "a") (codes "/u") ∷ defined_as (codes "A") (codes "/w") ∷ [];
  calls = record {
    setting = setting default_options 0 ([]);
    source = [];
    calls = link_by (codes "A") (codes "/w") ∷ link_by (codes "A") (codes "/u") ∷ [];
    answers = record {
      handed = ([]) ∷ ((codes "[t][A]") ∷ []) ∷ ((codes "\n\n[t][A]") ∷ (codes "\n\n[A]: /w") ∷ []) ∷ [];
      error = None;
    };
  };
}

-- a text that would be read as a link by a label that is defined isn't taken from the source
abbrev pub a_text_that_would_be_a_link : CallsBehind
a_text_that_would_be_a_link = record {
  defined = defined_as (codes "A") (codes "/u") ∷ [];
  calls = record {
    setting = setting default_options 0 ((
      0,
      (codes "[a]"),
      reading_of (Start Paragraph ∷ Leaf (Text (codes "[a]")) ∷ End end.Paragraph ∷ []) ([]) (codes "a" ∷ []),
    ) ∷ []);
    source = (codes "[a]");
    calls = ((Start Paragraph, Some (0, 3)) ∷ (Leaf (Text (codes "[a]")), Some (0, 3)) ∷ (End end.Paragraph, Some (0, 3)) ∷ []) ∷ [];
    answers = record { handed = ([]) ∷ ((codes "\\[a\\]") ∷ []) ∷ []; error = None };
  };
}

-- all of these
abbrev pub calls_behind : List CallsBehind
calls_behind = a_label_that_is_defined_and_one_that_is_not ∷ where_all_labels_are_defined ∷ a_label_that_leads_elsewhere
    ∷ a_label_with_other_white_space ∷ the_first_definition_counts ∷ a_text_that_would_be_a_link ∷ []
