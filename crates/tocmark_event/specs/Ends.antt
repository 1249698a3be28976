-- When two Ends are the same.
use Rattle.std.specs.Prelude.{ℕ, Bool, Some, None, nat_eq, true, false}
use Rattle.tocmark_event.specs.declared.event.HeadingLevel.TheVariants as level
use Rattle.tocmark_event.specs.declared.event.BlockQuoteKind.TheVariants as quote
use Rattle.tocmark_event.specs.declared.event.MetadataBlockKind.TheVariants as metadata
use Rattle.tocmark_event.specs.declared.event.TagEnd.{TagEnd}
use Rattle.tocmark_event.specs.declared.event.TagEnd.TheVariants as end

-- a number for each End
abbrev pub end_code : TagEnd → ℕ
end_code end.Paragraph = 0
end_code (end.Heading level.H1) = 1
end_code (end.Heading level.H2) = 2
end_code (end.Heading level.H3) = 3
end_code (end.Heading level.H4) = 4
end_code (end.Heading level.H5) = 5
end_code (end.Heading level.H6) = 6
end_code (end.BlockQuote None) = 7
end_code (end.BlockQuote (Some quote.Note)) = 8
end_code (end.BlockQuote (Some quote.Tip)) = 9
end_code (end.BlockQuote (Some quote.Important)) = 10
end_code (end.BlockQuote (Some quote.Warning)) = 11
end_code (end.BlockQuote (Some quote.Caution)) = 12
end_code end.CodeBlock = 13
end_code end.HtmlBlock = 14
end_code (end.List true) = 15
end_code (end.List false) = 16
end_code end.Item = 17
end_code end.FootnoteDefinition = 18
end_code end.DefinitionList = 19
end_code end.DefinitionListTitle = 20
end_code end.DefinitionListDefinition = 21
end_code end.Table = 22
end_code end.TableHead = 23
end_code end.TableRow = 24
end_code end.TableCell = 25
end_code end.Emphasis = 26
end_code end.Strong = 27
end_code end.Strikethrough = 28
end_code end.Superscript = 29
end_code end.Subscript = 30
end_code end.Link = 31
end_code end.Image = 32
end_code (end.MetadataBlock metadata.YamlStyle) = 33
end_code (end.MetadataBlock metadata.PlusesStyle) = 34

-- two Ends are of the same kind, level and style
abbrev pub same_end : TagEnd → TagEnd → Bool
same_end a b = nat_eq (end_code a) (end_code b)
