use Rattle.std.proofs.Common.{codes}
use Rattle.json.specs.Print.{escape_byte}
use Rattle.tocmark_json.proofs.Adding.{name_closed, truth_tagged_closed}
use Rattle.tocmark_json.proofs.printing.print_end.Goals as goal

pub returns-in-Paragraph : goal.returns-in-Paragraph
unfolding escape_byte
returns-in-Paragraph c = rw c.in-Paragraph.is (name_closed c.push.result c.args.out.now.items c.push.new.out.items (codes "Paragraph") c.push.ensures)

pub returns-in-CodeBlock : goal.returns-in-CodeBlock
unfolding escape_byte
returns-in-CodeBlock c = rw c.in-CodeBlock.is (name_closed c.push-in-CodeBlock.result c.args.out.now.items c.push-in-CodeBlock.new.out.items (codes "CodeBlock") c.push-in-CodeBlock.ensures)

pub returns-in-HtmlBlock : goal.returns-in-HtmlBlock
unfolding escape_byte
returns-in-HtmlBlock c = rw c.in-HtmlBlock.is (name_closed c.push-in-HtmlBlock.result c.args.out.now.items c.push-in-HtmlBlock.new.out.items (codes "HtmlBlock") c.push-in-HtmlBlock.ensures)

pub returns-in-List : goal.returns-in-List
unfolding escape_byte
returns-in-List c = rw c.in-List.is (truth_tagged_closed c.push_truth.result c.args.out.now.items c.push_truth.new.out.items (codes "List") _ c.push_truth.ensures)

pub returns-in-Item : goal.returns-in-Item
unfolding escape_byte
returns-in-Item c = rw c.in-Item.is (name_closed c.push-in-Item.result c.args.out.now.items c.push-in-Item.new.out.items (codes "Item") c.push-in-Item.ensures)

pub returns-in-FootnoteDefinition : goal.returns-in-FootnoteDefinition
unfolding escape_byte
returns-in-FootnoteDefinition c = rw c.in-FootnoteDefinition.is (name_closed c.push-in-FootnoteDefinition.result c.args.out.now.items c.push-in-FootnoteDefinition.new.out.items (codes "FootnoteDefinition") c.push-in-FootnoteDefinition.ensures)

pub returns-in-DefinitionList : goal.returns-in-DefinitionList
unfolding escape_byte
returns-in-DefinitionList c = rw c.in-DefinitionList.is (name_closed c.push-in-DefinitionList.result c.args.out.now.items c.push-in-DefinitionList.new.out.items (codes "DefinitionList") c.push-in-DefinitionList.ensures)

pub returns-in-DefinitionListTitle : goal.returns-in-DefinitionListTitle
unfolding escape_byte
returns-in-DefinitionListTitle c = rw c.in-DefinitionListTitle.is (name_closed c.push-in-DefinitionListTitle.result c.args.out.now.items c.push-in-DefinitionListTitle.new.out.items (codes "DefinitionListTitle") c.push-in-DefinitionListTitle.ensures)

pub returns-in-DefinitionListDefinition : goal.returns-in-DefinitionListDefinition
unfolding escape_byte
returns-in-DefinitionListDefinition c = rw c.in-DefinitionListDefinition.is (name_closed c.push-in-DefinitionListDefinition.result c.args.out.now.items c.push-in-DefinitionListDefinition.new.out.items (codes "DefinitionListDefinition") c.push-in-DefinitionListDefinition.ensures)

pub returns-in-Table : goal.returns-in-Table
unfolding escape_byte
returns-in-Table c = rw c.in-Table.is (name_closed c.push-in-Table.result c.args.out.now.items c.push-in-Table.new.out.items (codes "Table") c.push-in-Table.ensures)

pub returns-in-TableHead : goal.returns-in-TableHead
unfolding escape_byte
returns-in-TableHead c = rw c.in-TableHead.is (name_closed c.push-in-TableHead.result c.args.out.now.items c.push-in-TableHead.new.out.items (codes "TableHead") c.push-in-TableHead.ensures)

pub returns-in-TableRow : goal.returns-in-TableRow
unfolding escape_byte
returns-in-TableRow c = rw c.in-TableRow.is (name_closed c.push-in-TableRow.result c.args.out.now.items c.push-in-TableRow.new.out.items (codes "TableRow") c.push-in-TableRow.ensures)

pub returns-in-TableCell : goal.returns-in-TableCell
unfolding escape_byte
returns-in-TableCell c = rw c.in-TableCell.is (name_closed c.push-in-TableCell.result c.args.out.now.items c.push-in-TableCell.new.out.items (codes "TableCell") c.push-in-TableCell.ensures)

pub returns-in-Emphasis : goal.returns-in-Emphasis
unfolding escape_byte
returns-in-Emphasis c = rw c.in-Emphasis.is (name_closed c.push-in-Emphasis.result c.args.out.now.items c.push-in-Emphasis.new.out.items (codes "Emphasis") c.push-in-Emphasis.ensures)

pub returns-in-Strong : goal.returns-in-Strong
unfolding escape_byte
returns-in-Strong c = rw c.in-Strong.is (name_closed c.push-in-Strong.result c.args.out.now.items c.push-in-Strong.new.out.items (codes "Strong") c.push-in-Strong.ensures)

pub returns-in-Strikethrough : goal.returns-in-Strikethrough
unfolding escape_byte
returns-in-Strikethrough c = rw c.in-Strikethrough.is (name_closed c.push-in-Strikethrough.result c.args.out.now.items c.push-in-Strikethrough.new.out.items (codes "Strikethrough") c.push-in-Strikethrough.ensures)

pub returns-in-Superscript : goal.returns-in-Superscript
unfolding escape_byte
returns-in-Superscript c = rw c.in-Superscript.is (name_closed c.push-in-Superscript.result c.args.out.now.items c.push-in-Superscript.new.out.items (codes "Superscript") c.push-in-Superscript.ensures)

pub returns-in-Subscript : goal.returns-in-Subscript
unfolding escape_byte
returns-in-Subscript c = rw c.in-Subscript.is (name_closed c.push-in-Subscript.result c.args.out.now.items c.push-in-Subscript.new.out.items (codes "Subscript") c.push-in-Subscript.ensures)

pub returns-in-Link : goal.returns-in-Link
unfolding escape_byte
returns-in-Link c = rw c.in-Link.is (name_closed c.push-in-Link.result c.args.out.now.items c.push-in-Link.new.out.items (codes "Link") c.push-in-Link.ensures)

pub returns-in-Image : goal.returns-in-Image
unfolding escape_byte
returns-in-Image c = rw c.in-Image.is (name_closed c.push-in-Image.result c.args.out.now.items c.push-in-Image.new.out.items (codes "Image") c.push-in-Image.ensures)

pub returns-in-MetadataBlock : goal.returns-in-MetadataBlock
returns-in-MetadataBlock c = rw c.in-MetadataBlock.is c.print_metadata.ensures
