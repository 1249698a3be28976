-- Paragraphs in single manners, as they are spelled.
use Rattle.std.specs.Prelude.{◌≡◌, ℕ, List, [], ◌∷◌, codes, true, false, Option, Some, None}
use Rattle.tocmark_event.specs.Forest.{empty, node}
use Rattle.tocmark_event.specs.Options.{default_options}
use Rattle.tocmark_event.specs.View.{Paragraph, Emphasis, Strong}
use Rattle.tocmark_spelling.specs.Body.{Trees}
use Rattle.tocmark_spelling.specs.Page.{Page}
use Rattle.tocmark_spelling.specs.Plan.{Manner}
use Rattle.tocmark_spelling.specs.declared.plan.Layout.TheVariants.{Preferred, Runs, Uniform, Shared, RuleThree}
use Rattle.tocmark_spelling.specs.declared.plan.TextSpelling.TheVariants.{Escaped, Literal, Entities, LiteralEntities}
use Rattle.tocmark_choose.specs.Choice.{spelled}
use Rattle.tocmark_write_labels.specs.Document.{first_document}
use Rattle.test_definitions.specs.Script.{text, setting, Readings}

-- an example: flags, a table of readings, a manner, trees, and the text that they are spelled as
pub record Spelt : Type 0 where
  pub flags : ℕ
  pub table : Readings
  pub manner : Manner
  pub trees : Trees
  pub text : List ℕ

abbrev pub text_of : Option Page → Option (List ℕ)
text_of None = None
text_of (Some p) = Some p.sheet.text

abbrev pub IsSpelt : Spelt → Type 0
IsSpelt e = text_of (spelled (setting default_options e.flags e.table) first_document e.trees None e.manner) ≡ Some e.text

-- each is spelled as it says
unfoldable pub AreSpelt : List Spelt → Type 0
AreSpelt [] = Unit {0}
AreSpelt (e ∷ es) = IsSpelt e × AreSpelt es

-- one paragraph by the preferred plan
abbrev pub preferred_plan : Spelt
preferred_plan = record {
  flags = 0;
  table = [];
  manner = record {
    plan = record { layout = Preferred; text = Escaped };
    markers = record { emphasis = 42; strong = codes "**" };
    source = false;
  };
  trees = node Paragraph
      (text (codes "x*")
      (node Emphasis
      (node Strong (text (codes "a") empty) (text (codes "b") empty))
      (node Strong (text (codes "c") (node Emphasis (text (codes "d") empty) empty)) empty)))
      empty;
  text = (codes "x\\****a**b***c*d***");
}

-- the same by runs
abbrev pub runs_plan : Spelt
runs_plan = record {
  flags = 0;
  table = [];
  manner = record {
    plan = record { layout = Runs; text = Escaped };
    markers = record { emphasis = 42; strong = codes "**" };
    source = false;
  };
  trees = node Paragraph
      (text (codes "x*")
      (node Emphasis
      (node Strong (text (codes "a") empty) (text (codes "b") empty))
      (node Strong (text (codes "c") (node Emphasis (text (codes "d") empty) empty)) empty)))
      empty;
  text = (codes "x\\****a**b*__c*d*__");
}

-- the same by rule of three entities
abbrev pub rule_of_three_entities : Spelt
rule_of_three_entities = record {
  flags = 0;
  table = [];
  manner = record {
    plan = record { layout = RuleThree; text = Entities };
    markers = record { emphasis = 42; strong = codes "**" };
    source = false;
  };
  trees = node Paragraph
      (text (codes "x*")
      (node Emphasis
      (node Strong (text (codes "a") empty) (text (codes "b") empty))
      (node Strong (text (codes "c") (node Emphasis (text (codes "d") empty) empty)) empty)))
      empty;
  text = (codes "x&#42;***a**&#98;***&#99;_d_**");
}

-- the same by rule of three literal entities
abbrev pub rule_of_three_literal_entities : Spelt
rule_of_three_literal_entities = record {
  flags = 0;
  table = [];
  manner = record {
    plan = record { layout = RuleThree; text = LiteralEntities };
    markers = record { emphasis = 42; strong = codes "**" };
    source = false;
  };
  trees = node Paragraph
      (text (codes "x*")
      (node Emphasis
      (node Strong (text (codes "a") empty) (text (codes "b") empty))
      (node Strong (text (codes "c") (node Emphasis (text (codes "d") empty) empty)) empty)))
      empty;
  text = (codes "x****a**&#98;***&#99;_d_**");
}

-- the same by runs literal
abbrev pub runs_literal : Spelt
runs_literal = record {
  flags = 0;
  table = [];
  manner = record {
    plan = record { layout = Runs; text = Literal };
    markers = record { emphasis = 42; strong = codes "**" };
    source = false;
  };
  trees = node Paragraph
      (text (codes "x*")
      (node Emphasis
      (node Strong (text (codes "a") empty) (text (codes "b") empty))
      (node Strong (text (codes "c") (node Emphasis (text (codes "d") empty) empty)) empty)))
      empty;
  text = (codes "x****a**b*__c*d*__");
}

-- the same by uniform escaped
abbrev pub uniform_escaped : Spelt
uniform_escaped = record {
  flags = 0;
  table = [];
  manner = record {
    plan = record { layout = Uniform; text = Escaped };
    markers = record { emphasis = 42; strong = codes "**" };
    source = false;
  };
  trees = node Paragraph
      (text (codes "x*")
      (node Emphasis
      (node Strong (text (codes "a") empty) (text (codes "b") empty))
      (node Strong (text (codes "c") (node Emphasis (text (codes "d") empty) empty)) empty)))
      empty;
  text = (codes "x\\****a**b***c*d***");
}

-- the same by uniform literal
abbrev pub uniform_literal : Spelt
uniform_literal = record {
  flags = 0;
  table = [];
  manner = record {
    plan = record { layout = Uniform; text = Literal };
    markers = record { emphasis = 42; strong = codes "**" };
    source = false;
  };
  trees = node Paragraph
      (text (codes "x*")
      (node Emphasis
      (node Strong (text (codes "a") empty) (text (codes "b") empty))
      (node Strong (text (codes "c") (node Emphasis (text (codes "d") empty) empty)) empty)))
      empty;
  text = (codes "x****a**b***c*d***");
}

-- the same by shared escaped
abbrev pub shared_escaped : Spelt
shared_escaped = record {
  flags = 0;
  table = [];
  manner = record {
    plan = record { layout = (Shared false false false); text = Escaped };
    markers = record { emphasis = 42; strong = codes "**" };
    source = false;
  };
  trees = node Paragraph
      (text (codes "x*")
      (node Emphasis
      (node Strong (text (codes "a") empty) (text (codes "b") empty))
      (node Strong (text (codes "c") (node Emphasis (text (codes "d") empty) empty)) empty)))
      empty;
  text = (codes "x\\****a**b*__c*d*__");
}

-- the same by shared ends escaped
abbrev pub shared_ends_escaped : Spelt
shared_ends_escaped = record {
  flags = 0;
  table = [];
  manner = record {
    plan = record { layout = (Shared true false false); text = Escaped };
    markers = record { emphasis = 42; strong = codes "**" };
    source = false;
  };
  trees = node Paragraph
      (text (codes "x*")
      (node Emphasis
      (node Strong (text (codes "a") empty) (text (codes "b") empty))
      (node Strong (text (codes "c") (node Emphasis (text (codes "d") empty) empty)) empty)))
      empty;
  text = (codes "x\\****a**b*__c_d___");
}

-- the same by shared adjacent escaped
abbrev pub shared_adjacent_escaped : Spelt
shared_adjacent_escaped = record {
  flags = 0;
  table = [];
  manner = record {
    plan = record { layout = (Shared false true false); text = Escaped };
    markers = record { emphasis = 42; strong = codes "**" };
    source = false;
  };
  trees = node Paragraph
      (text (codes "x*")
      (node Emphasis
      (node Strong (text (codes "a") empty) (text (codes "b") empty))
      (node Strong (text (codes "c") (node Emphasis (text (codes "d") empty) empty)) empty)))
      empty;
  text = (codes "x\\****a**b***c_d_**");
}

-- the same by shared ends adjacent escaped
abbrev pub shared_ends_adjacent_escaped : Spelt
shared_ends_adjacent_escaped = record {
  flags = 0;
  table = [];
  manner = record {
    plan = record { layout = (Shared true true false); text = Escaped };
    markers = record { emphasis = 42; strong = codes "**" };
    source = false;
  };
  trees = node Paragraph
      (text (codes "x*")
      (node Emphasis
      (node Strong (text (codes "a") empty) (text (codes "b") empty))
      (node Strong (text (codes "c") (node Emphasis (text (codes "d") empty) empty)) empty)))
      empty;
  text = (codes "x\\****a**b***c*d***");
}

-- the same by shared entities
abbrev pub shared_entities : Spelt
shared_entities = record {
  flags = 0;
  table = [];
  manner = record {
    plan = record { layout = (Shared false false false); text = Entities };
    markers = record { emphasis = 42; strong = codes "**" };
    source = false;
  };
  trees = node Paragraph
      (text (codes "x*")
      (node Emphasis
      (node Strong (text (codes "a") empty) (text (codes "b") empty))
      (node Strong (text (codes "c") (node Emphasis (text (codes "d") empty) empty)) empty)))
      empty;
  text = (codes "x&#42;***a**&#98;*__&#99;*d*__");
}

-- the same by shared literal
abbrev pub shared_literal : Spelt
shared_literal = record {
  flags = 0;
  table = [];
  manner = record {
    plan = record { layout = (Shared false false false); text = Literal };
    markers = record { emphasis = 42; strong = codes "**" };
    source = false;
  };
  trees = node Paragraph
      (text (codes "x*")
      (node Emphasis
      (node Strong (text (codes "a") empty) (text (codes "b") empty))
      (node Strong (text (codes "c") (node Emphasis (text (codes "d") empty) empty)) empty)))
      empty;
  text = (codes "x****a**b*__c*d*__");
}

-- the same by shared ends literal
abbrev pub shared_ends_literal : Spelt
shared_ends_literal = record {
  flags = 0;
  table = [];
  manner = record {
    plan = record { layout = (Shared true false false); text = Literal };
    markers = record { emphasis = 42; strong = codes "**" };
    source = false;
  };
  trees = node Paragraph
      (text (codes "x*")
      (node Emphasis
      (node Strong (text (codes "a") empty) (text (codes "b") empty))
      (node Strong (text (codes "c") (node Emphasis (text (codes "d") empty) empty)) empty)))
      empty;
  text = (codes "x****a**b*__c_d___");
}

-- the same by shared split escaped
abbrev pub shared_split_escaped : Spelt
shared_split_escaped = record {
  flags = 0;
  table = [];
  manner = record {
    plan = record { layout = (Shared false false true); text = Escaped };
    markers = record { emphasis = 42; strong = codes "**" };
    source = false;
  };
  trees = node Paragraph
      (text (codes "x*")
      (node Emphasis
      (node Strong (text (codes "a") empty) (text (codes "b") empty))
      (node Strong (text (codes "c") (node Emphasis (text (codes "d") empty) empty)) empty)))
      empty;
  text = (codes "x\\****a**b*__c*d*__");
}

-- the same by shared ends split escaped
abbrev pub shared_ends_split_escaped : Spelt
shared_ends_split_escaped = record {
  flags = 0;
  table = [];
  manner = record {
    plan = record { layout = (Shared true false true); text = Escaped };
    markers = record { emphasis = 42; strong = codes "**" };
    source = false;
  };
  trees = node Paragraph
      (text (codes "x*")
      (node Emphasis
      (node Strong (text (codes "a") empty) (text (codes "b") empty))
      (node Strong (text (codes "c") (node Emphasis (text (codes "d") empty) empty)) empty)))
      empty;
  text = (codes "x\\****a**b*__c_d___");
}

-- the same by runs with underscores
abbrev pub runs_with_underscores : Spelt
runs_with_underscores = record {
  flags = 0;
  table = [];
  manner = record {
    plan = record { layout = Runs; text = Escaped };
    markers = record { emphasis = 95; strong = codes "__" };
    source = false;
  };
  trees = node Paragraph
      (text (codes "x*")
      (node Emphasis
      (node Strong (text (codes "a") empty) (text (codes "b") empty))
      (node Strong (text (codes "c") (node Emphasis (text (codes "d") empty) empty)) empty)))
      empty;
  text = (codes "x\\*_**a**b_**c*d***");
}

-- a run takes in the markers of a text beside it
abbrev pub run_takes_in_text : Spelt
run_takes_in_text = record {
  flags = 0;
  table = [];
  manner = record {
    plan = record { layout = RuleThree; text = LiteralEntities };
    markers = record { emphasis = 42; strong = codes "**" };
    source = false;
  };
  trees = node Paragraph
      (text (codes "*")
      (node Strong (text (codes "a") (node Emphasis (text (codes "b") empty) (text (codes "c") empty))) empty))
      empty;
  text = (codes "***&#97;_b_&#99;**");
}

-- without them it is shorter
abbrev pub run_alone : Spelt
run_alone = record {
  flags = 0;
  table = [];
  manner = record {
    plan = record { layout = RuleThree; text = LiteralEntities };
    markers = record { emphasis = 42; strong = codes "**" };
    source = false;
  };
  trees = node Paragraph
      (text (codes "x")
      (node Strong (text (codes "a") (node Emphasis (text (codes "b") empty) (text (codes "c") empty))) empty))
      empty;
  text = (codes "&#120;**&#97;*b*&#99;**");
}

-- emphasis in a word makes the emphasis around it prefer the underscore
abbrev pub inner_disturbs : Spelt
inner_disturbs = record {
  flags = 0;
  table = [];
  manner = record {
    plan = record { layout = Preferred; text = Escaped };
    markers = record { emphasis = 42; strong = codes "**" };
    source = false;
  };
  trees = node Paragraph
      (node Emphasis (text (codes "a") (node Emphasis (text (codes "b") empty) (text (codes "c") empty))) empty)
      empty;
  text = (codes "_a*b*c_");
}

-- the edge of an empty text is none, though another text is before it
abbrev pub empty_text_is_no_neighbour : Spelt
empty_text_is_no_neighbour = record {
  flags = 0;
  table = [];
  manner = record {
    plan = record { layout = Runs; text = Escaped };
    markers = record { emphasis = 95; strong = codes "__" };
    source = false;
  };
  trees = node Paragraph (text (codes "a") (text [] (node Emphasis (text (codes "b") empty) empty))) empty;
  text = (codes "a_b_");
}

-- all of these
abbrev pub manners : List Spelt
manners = preferred_plan
    ∷ runs_plan
    ∷ rule_of_three_entities
    ∷ rule_of_three_literal_entities
    ∷ runs_literal
    ∷ uniform_escaped
    ∷ uniform_literal
    ∷ shared_escaped
    ∷ shared_ends_escaped
    ∷ shared_adjacent_escaped
    ∷ shared_ends_adjacent_escaped
    ∷ shared_entities
    ∷ shared_literal
    ∷ shared_ends_literal
    ∷ shared_split_escaped
    ∷ shared_ends_split_escaped
    ∷ runs_with_underscores
    ∷ run_takes_in_text
    ∷ run_alone
    ∷ inner_disturbs
    ∷ empty_text_is_no_neighbour
    ∷ []
