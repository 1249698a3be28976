use Rattle.std.proofs.Common.{refl}
use Rattle.tocmark_event.proofs.event.TagOf.copied.Goals as goal

pub returns-in_ok-copied_text-in-FootnoteDefinition : goal.returns-in_ok-copied_text-in-FootnoteDefinition
returns-in_ok-copied_text-in-FootnoteDefinition g c = rw (c.in-FootnoteDefinition.is, c.in_ok-copied_text-in-FootnoteDefinition.ensures) refl

pub returns-in-Paragraph : goal.returns-in-Paragraph
returns-in-Paragraph g c = rw c.in-Paragraph.is refl

pub returns-in-BlockQuote : goal.returns-in-BlockQuote
returns-in-BlockQuote g c = rw c.in-BlockQuote.is refl

pub returns-in-HtmlBlock : goal.returns-in-HtmlBlock
returns-in-HtmlBlock g c = rw c.in-HtmlBlock.is refl

pub returns-in-List : goal.returns-in-List
returns-in-List g c = rw c.in-List.is refl

pub returns-in-Item : goal.returns-in-Item
returns-in-Item g c = rw c.in-Item.is refl

pub returns-in-DefinitionList : goal.returns-in-DefinitionList
returns-in-DefinitionList g c = rw c.in-DefinitionList.is refl

pub returns-in-DefinitionListTitle : goal.returns-in-DefinitionListTitle
returns-in-DefinitionListTitle g c = rw c.in-DefinitionListTitle.is refl

pub returns-in-DefinitionListDefinition : goal.returns-in-DefinitionListDefinition
returns-in-DefinitionListDefinition g c = rw c.in-DefinitionListDefinition.is refl

pub returns-in-TableHead : goal.returns-in-TableHead
returns-in-TableHead g c = rw c.in-TableHead.is refl

pub returns-in-TableRow : goal.returns-in-TableRow
returns-in-TableRow g c = rw c.in-TableRow.is refl

pub returns-in-TableCell : goal.returns-in-TableCell
returns-in-TableCell g c = rw c.in-TableCell.is refl

pub returns-in-Emphasis : goal.returns-in-Emphasis
returns-in-Emphasis g c = rw c.in-Emphasis.is refl

pub returns-in-Strong : goal.returns-in-Strong
returns-in-Strong g c = rw c.in-Strong.is refl

pub returns-in-Strikethrough : goal.returns-in-Strikethrough
returns-in-Strikethrough g c = rw c.in-Strikethrough.is refl

pub returns-in-Superscript : goal.returns-in-Superscript
returns-in-Superscript g c = rw c.in-Superscript.is refl

pub returns-in-Subscript : goal.returns-in-Subscript
returns-in-Subscript g c = rw c.in-Subscript.is refl

pub returns-in-MetadataBlock : goal.returns-in-MetadataBlock
returns-in-MetadataBlock g c = rw c.in-MetadataBlock.is refl
