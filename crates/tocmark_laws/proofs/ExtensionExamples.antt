-- Examples: texts with a construct of an extension, and the events that the laws give them.
use Rattle.std.proofs.Common.{◌≡◌, true, false, [], ◌∷◌, codes, refl, arith, None, Some}
use Rattle.tocmark_event.specs.View.{Start, End, Leaf, BlockQuote, DefinitionList, DefinitionListDefinition, DefinitionListTitle, FootnoteDefinition, FootnoteReference, Heading, Item, ListOf, MetadataBlock, Paragraph, Strikethrough, Text, InlineMath, SoftBreak, Subscript, Superscript, TaskListMarker}
use Rattle.tocmark_event.specs.declared.event.BlockQuoteKind.TheVariants.{Tip}
use Rattle.tocmark_event.specs.declared.event.HeadingLevel.TheVariants.{H1}
use Rattle.tocmark_event.specs.declared.event.MetadataBlockKind.TheVariants.{YamlStyle, PlusesStyle}
use Rattle.tocmark_event.specs.declared.event.TagEnd.TheVariants as end
use Rattle.tocmark_read_scan.specs.declared.syntax.Syntax.{Syntax}
use Rattle.tocmark_reader.specs.PlainTexts.{IsReadAs}
use Rattle.tocmark_reader.specs.Reading.{reading_of}
use Rattle.tocmark_laws.proofs.AttributedHeadings.{attributes_read}
use Rattle.tocmark_laws.proofs.DefinitionReading.{definition_lists_read}
use Rattle.tocmark_laws.proofs.FormulaReading.{formula_read}
use Rattle.tocmark_laws.proofs.FrontMatterReading.{front_matter_read}
use Rattle.tocmark_laws.proofs.NoteReading.{footnotes_read}
use Rattle.tocmark_laws.proofs.QuoteKinds.{kinds_read}
use Rattle.tocmark_laws.proofs.ScriptReading.{script_read}
use Rattle.tocmark_laws.proofs.StrikethroughReading.{struck_read}
use Rattle.tocmark_laws.proofs.TaskItems.{task_read}
use Rattle.tocmark_laws.proofs.WordsReading.{words_read}

words : (syntax : Syntax) → IsReadAs (reading_of syntax (codes "Term\ntwo | {3}: +4")) (Start Paragraph ∷ Leaf (Text (codes "Term")) ∷ Leaf SoftBreak ∷ Leaf (Text (codes "two | {3}: +4")) ∷ End end.Paragraph ∷ [])
words syntax = words_read syntax (codes "Term") (codes "two | {3}: +4" ∷ []) refl (omega arith)

front_matter : (syntax : Syntax) → syntax.yaml_metadata ≡ true → IsReadAs (reading_of syntax (codes "---\ntitle: $x$\ntags: [a]\n---")) (Start (MetadataBlock YamlStyle) ∷ Leaf (Text (codes "title: $x$\ntags: [a]\n")) ∷ End (end.MetadataBlock YamlStyle) ∷ [])
front_matter syntax has = front_matter_read syntax YamlStyle (codes "title: $x$") (codes "tags: [a]" ∷ []) has refl (omega arith)

pluses : (syntax : Syntax) → syntax.pluses_metadata ≡ true → IsReadAs (reading_of syntax (codes "+++\ndraft = true\n+++")) (Start (MetadataBlock PlusesStyle) ∷ Leaf (Text (codes "draft = true\n")) ∷ End (end.MetadataBlock PlusesStyle) ∷ [])
pluses syntax has = front_matter_read syntax PlusesStyle (codes "draft = true") [] has refl (omega arith)

formula : (syntax : Syntax) → syntax.math ≡ true → IsReadAs (reading_of syntax (codes "$a_1 * [b] < `c`$")) (Start Paragraph ∷ Leaf (InlineMath (codes "a_1 * [b] < `c`")) ∷ End end.Paragraph ∷ [])
formula syntax math = formula_read syntax (codes "a_1 * [b] < `c`") math refl (omega arith)

struck : (syntax : Syntax) → syntax.strikethrough ≡ true → IsReadAs (reading_of syntax (codes "~~two words~~")) (Start Paragraph ∷ Start Strikethrough ∷ Leaf (Text (codes "two words")) ∷ End end.Strikethrough ∷ End end.Paragraph ∷ [])
struck syntax strike = struck_read syntax (codes "two words") strike refl (omega arith)

below : (syntax : Syntax) → syntax.subscript ≡ true → IsReadAs (reading_of syntax (codes "~two~")) (Start Paragraph ∷ Start Subscript ∷ Leaf (Text (codes "two")) ∷ End end.Subscript ∷ End end.Paragraph ∷ [])
below syntax has = script_read syntax true (codes "two") has refl (omega arith)

above : (syntax : Syntax) → syntax.superscript ≡ true → IsReadAs (reading_of syntax (codes "^two^")) (Start Paragraph ∷ Start Superscript ∷ Leaf (Text (codes "two")) ∷ End end.Superscript ∷ End end.Paragraph ∷ [])
above syntax has = script_read syntax false (codes "two") has refl (omega arith)

attributed : (syntax : Syntax) → syntax.heading_attributes ≡ true → IsReadAs (reading_of syntax (codes "# two words {#name}")) (Start (Heading H1 (Some (codes "name")) [] []) ∷ Leaf (Text (codes "two words")) ∷ End (end.Heading H1) ∷ [])
attributed syntax has = attributes_read syntax (codes "two words") (codes "name") has refl refl (omega arith)

task : (syntax : Syntax) → syntax.task_lists ≡ true → IsReadAs (reading_of syntax (codes "- [ ] two words")) (Start (ListOf None) ∷ Start Item ∷ Leaf (TaskListMarker false) ∷ Leaf (Text (codes "two words")) ∷ End end.Item ∷ End (end.List false) ∷ [])
task syntax has = task_read syntax false (codes "two words") has refl (omega arith)

footnote : (syntax : Syntax) → syntax.footnotes ≡ true → IsReadAs (reading_of syntax (codes "two words[^a-1]\n\n[^a-1]: on notes")) (Start Paragraph ∷ Leaf (Text (codes "two words")) ∷ Leaf (FootnoteReference (codes "a-1")) ∷ End end.Paragraph ∷ Start (FootnoteDefinition (codes "a-1")) ∷ Start Paragraph ∷ Leaf (Text (codes "on notes")) ∷ End end.Paragraph ∷ End end.FootnoteDefinition ∷ [])
footnote syntax has = footnotes_read syntax (codes "two words") (codes "a-1") (codes "on notes") has refl refl refl (omega arith)

definition : (syntax : Syntax) → syntax.definition_lists ≡ true → IsReadAs (reading_of syntax (codes "Term\n: two | words")) (Start DefinitionList ∷ Start DefinitionListTitle ∷ Leaf (Text (codes "Term")) ∷ End end.DefinitionListTitle ∷ Start DefinitionListDefinition ∷ Leaf (Text (codes "two | words")) ∷ End end.DefinitionListDefinition ∷ End end.DefinitionList ∷ [])
definition syntax has = definition_lists_read syntax (codes "Term") (codes "two | words") has refl refl (omega arith)

tip : (syntax : Syntax) → syntax.quote_kinds ≡ true → IsReadAs (reading_of syntax (codes "> [!TIP]\n> two words")) (Start (BlockQuote (Some Tip)) ∷ Start Paragraph ∷ Leaf (Text (codes "two words")) ∷ End end.Paragraph ∷ End (end.BlockQuote (Some Tip)) ∷ [])
tip syntax has = kinds_read syntax Tip (codes "two words") has refl (omega arith)
