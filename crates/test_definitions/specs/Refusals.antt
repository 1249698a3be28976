-- Trees for which there is no spelling.
use Rattle.std.specs.Prelude.{◌≡◌, None, List, [], ◌∷◌, codes}
use Rattle.tocmark_event.specs.Forest.{empty, node}
use Rattle.tocmark_event.specs.Options.{default_options}
use Rattle.tocmark_event.specs.View.{Heading, BlockQuote, ListOf, Item, Table, TableHead, TableRow, TableCell}
use Rattle.tocmark_event.specs.declared.event.HeadingLevel.TheVariants as level
use Rattle.tocmark_spelling.specs.Body.{Trees}
use Rattle.tocmark_choose.specs.Candidates.{preferred_manner}
use Rattle.tocmark_choose.specs.Choice.{spelled}
use Rattle.tocmark_write_labels.specs.Document.{first_document}
use Rattle.test_definitions.specs.Script.{text, setting}

-- the preferred manner has no spelling for it
abbrev pub IsRefused : Trees → Type 0
IsRefused f = spelled (setting default_options 0 []) first_document f None (preferred_manner default_options) ≡ None

-- each has no spelling
unfoldable pub AreRefused : List Trees → Type 0
AreRefused [] = Unit {0}
AreRefused (f ∷ fs) = IsRefused f × AreRefused fs

-- a heading in a quote in a heading
abbrev pub heading_in_heading : Trees
heading_in_heading =
    node (Heading level.H1 None [] []) (node (BlockQuote None) (node (Heading level.H2 None [] []) (text (codes "a") empty) empty) empty) empty

-- an item in a quote in a list
abbrev pub item_in_quote : Trees
item_in_quote = node (ListOf None) (node (BlockQuote None) (node Item (text (codes "a") empty) empty) empty) empty

-- an item in nothing
abbrev pub item_in_nothing : Trees
item_in_nothing = node Item (text (codes "a") empty) empty

-- a head in a row of a table
abbrev pub head_in_row : Trees
head_in_row = node (Table []) (node TableRow (node TableHead empty empty) empty) empty

-- a cell in no table
abbrev pub cell_in_quote : Trees
cell_in_quote = node (BlockQuote None) (node TableCell (text (codes "a") empty) empty) empty

-- all of these
abbrev pub refusals : List Trees
refusals = heading_in_heading ∷ item_in_quote ∷ item_in_nothing ∷ head_in_row ∷ cell_in_quote ∷ []
