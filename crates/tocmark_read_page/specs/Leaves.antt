-- The leaf that is open.
use Rattle.std.specs.Prelude.{Bool, true, false}
use Rattle.tocmark_read_page.specs.declared.leaf.Leaf.{Leaf}
use Rattle.tocmark_read_page.specs.declared.leaf.Leaf.TheVariants as leaf

-- the open leaf is a paragraph
unfoldable pub is_paragraph : Leaf → Bool
is_paragraph leaf.Paragraph = true
is_paragraph leaf.Nothing = false
is_paragraph leaf.Indented = false
is_paragraph (leaf.Fenced f) = false
is_paragraph (leaf.Html k) = false
is_paragraph (leaf.Metadata k) = false
is_paragraph (leaf.Table t) = false

-- a table
unfoldable pub is_table : Leaf → Bool
is_table leaf.Paragraph = false
is_table leaf.Nothing = false
is_table leaf.Indented = false
is_table (leaf.Fenced f) = false
is_table (leaf.Html k) = false
is_table (leaf.Metadata k) = false
is_table (leaf.Table t) = true
