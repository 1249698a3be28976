-- Kinds of events.
use Rattle.std.specs.Prelude.{Bool, true, false, not, ◌||◌, Option, Some, None}
use Rattle.tocmark_event.specs.View.{Indented, TagView, Paragraph, Heading, BlockQuote, CodeBlock, ListOf, Item, DefinitionList, DefinitionListTitle, Table, TableCell, TableHead, Emphasis, Strong, Strikethrough, Superscript, Subscript, Link, Image, EventView, Start, Leaf, Text, SoftBreak, HardBreak, Rule}
use Rattle.tocmark_event.specs.declared.event.TagEnd.{TagEnd}
use Rattle.tocmark_event.specs.declared.event.TagEnd.TheVariants as end

-- Emphasis, Strong, Strikethrough, Superscript, Subscript, Link and Image are inline containers, all others are blocks
abbrev pub is_inline_tag : TagView → Bool
is_inline_tag Emphasis = true
is_inline_tag Strong = true
is_inline_tag Strikethrough = true
is_inline_tag Superscript = true
is_inline_tag Subscript = true
is_inline_tag (Link k d t i) = true
is_inline_tag (Image k d t i) = true
is_inline_tag t = false

-- the end of an inline container
abbrev pub is_inline_end : TagEnd → Bool
is_inline_end end.Emphasis = true
is_inline_end end.Strong = true
is_inline_end end.Strikethrough = true
is_inline_end end.Superscript = true
is_inline_end end.Subscript = true
is_inline_end end.Link = true
is_inline_end end.Image = true
is_inline_end k = false

-- a paragraph (CommonMark, section 4.8)
abbrev pub is_paragraph : TagView → Bool
is_paragraph Paragraph = true
is_paragraph t = false

-- a heading (CommonMark, sections 4.2 and 4.3)
abbrev pub is_heading : TagView → Bool
is_heading (Heading level id classes attrs) = true
is_heading t = false

-- a quote (CommonMark, section 5.1)
abbrev pub is_quote : TagView → Bool
is_quote (BlockQuote k) = true
is_quote t = false

-- indented code (CommonMark, section 4.4)
abbrev pub is_indented_code : TagView → Bool
is_indented_code (CodeBlock Indented) = true
is_indented_code t = false

-- a list, ordered or not (CommonMark, section 5.3)
abbrev pub is_list : TagView → Bool
is_list (ListOf start) = true
is_list t = false

-- an item of a list (CommonMark, section 5.2)
abbrev pub is_item : TagView → Bool
is_item Item = true
is_item t = false

-- a definition list
abbrev pub is_definition_list : TagView → Bool
is_definition_list DefinitionList = true
is_definition_list t = false

-- a title in a definition list
abbrev pub is_definition_title : TagView → Bool
is_definition_title DefinitionListTitle = true
is_definition_title t = false

-- a table (GFM, section 4.10)
abbrev pub is_table : TagView → Bool
is_table (Table alignments) = true
is_table t = false

-- the head of a table (GFM, section 4.10)
abbrev pub is_table_head : TagView → Bool
is_table_head TableHead = true
is_table_head t = false

-- a cell of a table (GFM, section 4.10)
abbrev pub is_cell : TagView → Bool
is_cell TableCell = true
is_cell t = false

-- emphasis that isn't strong (CommonMark, section 6.2)
abbrev pub is_emphasis : TagView → Bool
is_emphasis Emphasis = true
is_emphasis t = false

-- emphasis, strong or not (CommonMark, section 6.2)
abbrev pub is_emphasis_or_strong : TagView → Bool
is_emphasis_or_strong Emphasis = true
is_emphasis_or_strong Strong = true
is_emphasis_or_strong t = false

-- strikethrough (GFM, section 6.5)
abbrev pub is_strikethrough : TagView → Bool
is_strikethrough Strikethrough = true
is_strikethrough t = false

-- an event that starts a container of this kind
abbrev pub starts : (TagView → Bool) → EventView → Bool
starts test (Start t) = test t
starts test e = false

-- a thematic break (CommonMark, section 4.1)
abbrev pub is_rule : EventView → Bool
is_rule (Leaf Rule) = true
is_rule e = false

-- a line break, soft or hard (CommonMark, sections 6.7 and 6.8)
abbrev pub is_break : EventView → Bool
is_break (Leaf SoftBreak) = true
is_break (Leaf HardBreak) = true
is_break e = false

-- a text
abbrev pub is_text : EventView → Bool
is_text (Leaf (Text t)) = true
is_text e = false

-- a block starts, or a Rule comes
abbrev pub begins_block : EventView → Bool
begins_block e = starts (λ t. not (is_inline_tag t)) e || is_rule e

-- a test of an event where there is one
abbrev pub and_is : (EventView → Bool) → Option EventView → Bool
and_is test None = false
and_is test (Some e) = test e
