-- Tables, definition lists, footnotes and metadata, as they are written.
use Rattle.std.specs.Prelude.{[], ◌∷◌, List, codes, true, false, Some, None}
use Rattle.tocmark_event.specs.Forest.{empty, node}
use Rattle.tocmark_event.specs.Options.{default_options}
use Rattle.tocmark_event.specs.View.{Paragraph, Heading, ListOf, Item, FootnoteDefinition, DefinitionList, DefinitionListTitle, DefinitionListDefinition, Table, TableHead, TableRow, TableCell, MetadataBlock, Text, FootnoteReference, TaskListMarker, Start, End, Leaf}
use Rattle.tocmark_event.specs.declared.options.Error.TheVariants.{UnexpectedEvent}
use Rattle.test_definitions.specs.Script.{wrote, text, one, setting, reading_of, Row}
use Rattle.tocmark_event.specs.declared.event.HeadingLevel.TheVariants as level
use Rattle.tocmark_event.specs.declared.event.MetadataBlockKind.TheVariants as metadata
use Rattle.tocmark_event.specs.declared.event.Alignment.TheVariants as alignment
use Rattle.tocmark_event.specs.declared.event.TagEnd.TheVariants as end

-- a table
abbrev pub table : Row
table = record {
  setting = setting default_options 0 [];
  trees = node
      (Table (alignment.Left ∷ alignment.None ∷ []))
      (node TableHead
      (node TableCell (text (codes "ab") empty) (node TableCell (text (codes "c") empty) empty))
      (node TableRow (node TableCell (text (codes "1") empty) (node TableCell (text (codes "2") empty) empty)) empty))
      empty;
  written = wrote ((codes "|ab|c|\n|:-|-|\n|1|2|") ∷ []);
}

-- the attributes of a heading
abbrev pub heading_attributes : Row
heading_attributes = record {
  setting = setting default_options 0 [];
  trees = node
      (Heading level.H1 (Some (codes "x")) ((codes "c") ∷ []) (((codes "k"), (Some (codes "v"))) ∷ []))
      (text (codes "T") empty)
      empty;
  written = wrote ((codes "# T { #x .c k=v }") ∷ []);
}

-- dashes of aligned columns
abbrev pub aligned_columns : Row
aligned_columns = record {
  setting = setting default_options 0 [];
  trees = node
      (Table (alignment.Center ∷ alignment.Right ∷ []))
      (node TableHead (node TableCell (text (codes "x") empty) (node TableCell (text (codes "y") empty) empty)) empty)
      empty;
  written = wrote ((codes "|x|y|\n|:-:|-:|") ∷ []);
}

-- a vertical bar in a cell
abbrev pub bar_in_cell : Row
bar_in_cell = record {
  setting = setting default_options 0 [];
  trees = node (Table (alignment.None ∷ []))
      (node TableHead (node TableCell (text (codes "a|b") empty) empty) empty)
      empty;
  written = wrote ((codes "|a\\|b|\n|---|") ∷ []);
}

-- a definition list
abbrev pub definition_list : Row
definition_list = record {
  setting = setting default_options 0 [];
  trees = node DefinitionList
      (node DefinitionListTitle (text (codes "t") empty) (node DefinitionListDefinition (text (codes "d") empty) empty))
      empty;
  written = wrote ((codes "t\n: d\n") ∷ []);
}

-- a definition that begins with a paragraph
abbrev pub definition_with_paragraph : Row
definition_with_paragraph = record {
  setting = setting default_options 0 [];
  trees = node DefinitionList
      (node DefinitionListTitle (text (codes "t") empty)
      (node DefinitionListDefinition (node Paragraph (text (codes "d") empty) empty) empty))
      empty;
  written = wrote ((codes "t\n\n: d\n") ∷ []);
}

-- a footnote
abbrev pub footnote : Row
footnote = record {
  setting = setting default_options 0 ((0, (codes "[^n]: a"), reading_of [] ((codes "^n") ∷ []) []) ∷ []);
  trees = node (FootnoteDefinition (codes "n")) (node Paragraph (text (codes "a") empty) empty) empty;
  written = wrote ((codes "[^n]: a") ∷ []);
}

-- an exclamation mark before a reference to a footnote
abbrev pub mark_before_footnote_reference : Row
mark_before_footnote_reference = record {
  setting = setting default_options 0
      ((
        0,
        (codes "x\\![^n]"),
        reading_of
            (Start Paragraph ∷ Leaf (Text (codes "x")) ∷ Leaf (Text (codes "![^n]")) ∷ End end.Paragraph ∷ [])
            []
            ((codes "^n") ∷ []),
      )
      ∷ []);
  trees = node Paragraph (text (codes "x!") (one (FootnoteReference (codes "n")) empty)) empty;
  written = wrote ((codes "x\\![^n]") ∷ []);
}

-- metadata, and a paragraph after it
abbrev pub metadata_block : Row
metadata_block = record {
  setting = setting default_options 0 [];
  trees = node (MetadataBlock metadata.YamlStyle)
      (text (codes "a: 1\n") empty)
      (node Paragraph (text (codes "b") empty) empty);
  written = wrote ((codes "---\na: 1\n---\n") ∷ (codes "\nb") ∷ []);
}

-- the box of a task
abbrev pub task_list : Row
task_list = record {
  setting = setting default_options 0
      ((
        0,
        (codes "* [x] a"),
        reading_of
            (Start (ListOf None) ∷ Start Item ∷ Leaf (Text (codes "[x] a")) ∷ End end.Item ∷ End (end.List false) ∷ [])
            []
            ((codes "x") ∷ []),
      )
      ∷ []);
  trees = node (ListOf None) (node Item (one (TaskListMarker true) (text (codes "a") empty)) empty) empty;
  written = wrote ((codes "* [x] a") ∷ []);
}

-- a cell in no table is refused
abbrev pub cell_alone : Row
cell_alone = record {
  setting = setting default_options 0 [];
  trees = node TableCell empty empty;
  written = record { texts = []; error = Some UnexpectedEvent };
}

-- all of these
abbrev pub tables : List Row
tables = table
    ∷ heading_attributes
    ∷ aligned_columns
    ∷ bar_in_cell
    ∷ definition_list
    ∷ definition_with_paragraph
    ∷ footnote
    ∷ mark_before_footnote_reference
    ∷ metadata_block
    ∷ task_list
    ∷ cell_alone
    ∷ []
