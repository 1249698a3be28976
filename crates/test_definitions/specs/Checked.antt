-- Units under the option that checks plain blocks, as they are written.
use Rattle.std.specs.Prelude.{[], ◌∷◌, List, ℕ, Some, codes, true}
use Rattle.tocmark_event.specs.Forest.{empty, node}
use Rattle.tocmark_event.specs.Options.{default_options, OptionsView}
use Rattle.tocmark_event.specs.View.{Paragraph, Text, Start, End, Leaf}
use Rattle.tocmark_event.specs.declared.options.Error.TheVariants.{Unrepresentable}
use Rattle.tocmark_spelling.specs.Body.{Trees}
use Rattle.test_definitions.specs.Script.{wrote, text, setting, reading_of, Row}
use Rattle.tocmark_event.specs.declared.event.TagEnd.TheVariants as end

-- the default options, and plain blocks are checked
abbrev pub checking : OptionsView
checking = record default_options { check_plain_blocks = true }

-- a paragraph with this text
abbrev pub paragraph : List ℕ → Trees
paragraph t = node Paragraph (text t empty) empty

-- a reader that reads nothing back, though no delimiter is in the unit
abbrev pub read_as_nothing : Row
read_as_nothing = record {
  setting = setting checking 0 [];
  trees = paragraph (codes "a");
  written = record { texts = []; error = Some Unrepresentable };
}

-- the escaped text is read back, so it is written
abbrev pub read_back : Row
read_back = record {
  setting = setting checking 0
      ((
        0,
        (codes "a \\< b"),
        reading_of (Start Paragraph ∷ Leaf (Text (codes "a < b")) ∷ End end.Paragraph ∷ []) [] [],
      )
      ∷ []);
  trees = paragraph (codes "a < b");
  written = wrote ((codes "a \\< b") ∷ []);
}

-- under smart punctuation, which isn't accepted, a unit that isn't read back takes its preferred spelling
abbrev pub flags_not_accepted : Row
flags_not_accepted = record {
  setting = setting checking 32 [];
  trees = paragraph (codes "a");
  written = wrote ((codes "a") ∷ []);
}

-- all of these
abbrev pub checked : List Row
checked = read_as_nothing ∷ read_back ∷ flags_not_accepted ∷ []
