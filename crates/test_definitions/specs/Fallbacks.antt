-- Fallbacks, as they are written.
use Rattle.std.specs.Prelude.{[], ◌∷◌, List, codes, Some}
use Rattle.tocmark_event.specs.Forest.{empty, node}
use Rattle.tocmark_event.specs.Options.{default_options}
use Rattle.tocmark_event.specs.View.{Paragraph, Emphasis, Superscript, Text, Start, End, Leaf}
use Rattle.tocmark_event.specs.declared.options.Error.TheVariants.{Unrepresentable}
use Rattle.test_definitions.specs.Script.{wrote, text, setting, reading_of, Row}
use Rattle.tocmark_event.specs.declared.event.TagEnd.TheVariants as end

-- characters beside markers as references
abbrev pub references_at_edges : Row
references_at_edges = record {
  setting = setting default_options 0
      ((
        0,
        (codes "a*&#32;b*"),
        reading_of
            (Start Paragraph
            ∷ Leaf (Text (codes "a*"))
            ∷ Leaf (Text (codes " "))
            ∷ Leaf (Text (codes "b*"))
            ∷ End end.Paragraph
            ∷ [])
            []
            [],
      )
      ∷ (
        0,
        (codes "&#97;*&#32;b*"),
        reading_of
            (Start Paragraph
            ∷ Leaf (Text (codes "a"))
            ∷ Start Emphasis
            ∷ Leaf (Text (codes " "))
            ∷ Leaf (Text (codes "b"))
            ∷ End end.Emphasis
            ∷ End end.Paragraph
            ∷ [])
            []
            [],
      )
      ∷ []);
  trees = node Paragraph (text (codes "a") (node Emphasis (text (codes " b") empty) empty)) empty;
  written = wrote ((codes "&#97;*&#32;b*") ∷ []);
}

-- no fallback helps a space before the closing
abbrev pub no_fallback : Row
no_fallback = record {
  setting = setting default_options 0
      ((0, (codes "*a *"), reading_of (Start Paragraph ∷ Leaf (Text (codes "*a *")) ∷ End end.Paragraph ∷ []) [] [])
      ∷ (0, (codes "_a _"), reading_of (Start Paragraph ∷ Leaf (Text (codes "_a _")) ∷ End end.Paragraph ∷ []) [] [])
      ∷ []);
  trees = node Paragraph (node Emphasis (text (codes "a ") empty) empty) empty;
  written = record { texts = []; error = Some Unrepresentable };
}

-- a reader that knows the double caret alone
abbrev pub double_caret : Row
double_caret = record {
  setting = setting default_options 8192
      ((
        8192,
        (codes "^^a^^"),
        reading_of
            (Start Paragraph
            ∷ Start Superscript
            ∷ Leaf (Text (codes "a"))
            ∷ End end.Superscript
            ∷ End end.Paragraph
            ∷ [])
            []
            [],
      )
      ∷ []);
  trees = node Paragraph (node Superscript (text (codes "a") empty) empty) empty;
  written = wrote ((codes "^^a^^") ∷ []);
}

-- a reader that reads nothing
abbrev pub reader_of_nothing : Row
reader_of_nothing = record {
  setting = setting default_options 0 [];
  trees = node Paragraph (text (codes "a") (node Emphasis (text (codes " b") empty) empty)) empty;
  written = record { texts = []; error = Some Unrepresentable };
}

-- all of these
abbrev pub fallbacks : List Row
fallbacks = references_at_edges ∷ no_fallback ∷ double_caret ∷ reader_of_nothing ∷ []
