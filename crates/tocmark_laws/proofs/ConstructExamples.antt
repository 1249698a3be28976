-- Examples: texts with a construct of CommonMark, and the events that the laws give them.
use Rattle.std.proofs.Common.{false, [], ◌∷◌, codes, refl, arith, true, None, Some}
use Rattle.tocmark_event.specs.View.{Start, End, Leaf, BlockQuote, Code, CodeBlock, Fenced, Item, ListOf, Paragraph, Text, SoftBreak, HardBreak}
use Rattle.tocmark_event.specs.declared.event.TagEnd.TheVariants as end
use Rattle.tocmark_read_scan.specs.declared.syntax.Syntax.{Syntax}
use Rattle.tocmark_reader.specs.PlainTexts.{IsReadAs}
use Rattle.tocmark_reader.specs.Reading.{reading_of}
use Rattle.tocmark_laws.specs.HardBreaks.{Softly, ByBackslash, BySpaces}
use Rattle.tocmark_laws.proofs.BreakReading.{breaks_read}
use Rattle.tocmark_laws.proofs.BulletReading.{bullets_read}
use Rattle.tocmark_laws.proofs.CodeReading.{code_read}
use Rattle.tocmark_laws.proofs.CodeSpanReading.{span_read}
use Rattle.tocmark_laws.proofs.OrderedReading.{ordered_read}
use Rattle.tocmark_laws.proofs.PartedReading.{parted_read}
use Rattle.tocmark_laws.proofs.QuoteReading.{quotes_read}

breaks : (syntax : Syntax) → IsReadAs (reading_of syntax (codes "two\nwords\\\non four   \nlines")) (Start Paragraph ∷ Leaf (Text (codes "two")) ∷ Leaf SoftBreak ∷ Leaf (Text (codes "words")) ∷ Leaf HardBreak ∷ Leaf (Text (codes "on four")) ∷ Leaf HardBreak ∷ Leaf (Text (codes "lines")) ∷ End end.Paragraph ∷ [])
breaks syntax = breaks_read syntax (codes "two") (record { behind = Softly; line = codes "words" } ∷ record { behind = ByBackslash; line = codes "on four" } ∷ record { behind = BySpaces 1; line = codes "lines" } ∷ []) refl (omega arith)

span : (syntax : Syntax) → IsReadAs (reading_of syntax (codes "`a *b* \\`")) (Start Paragraph ∷ Leaf (Code (codes "a *b* \\")) ∷ End end.Paragraph ∷ [])
span syntax = span_read syntax (codes "a *b* \\") refl (omega arith)

bullets : (syntax : Syntax) → IsReadAs (reading_of syntax (codes "* two words\n* a - b -")) (Start (ListOf None) ∷ Start Item ∷ Leaf (Text (codes "two words")) ∷ End end.Item ∷ Start Item ∷ Leaf (Text (codes "a - b -")) ∷ End end.Item ∷ End (end.List false) ∷ [])
bullets syntax = bullets_read syntax 42 (codes "two words") (codes "a - b -" ∷ []) refl refl (omega arith)

quote : (syntax : Syntax) → IsReadAs (reading_of syntax (codes "> two words\n> on\\\n> lines")) (Start (BlockQuote None) ∷ Start Paragraph ∷ Leaf (Text (codes "two words")) ∷ Leaf SoftBreak ∷ Leaf (Text (codes "on")) ∷ Leaf HardBreak ∷ Leaf (Text (codes "lines")) ∷ End end.Paragraph ∷ End (end.BlockQuote None) ∷ [])
quote syntax = quotes_read syntax (codes "two words") (record { behind = Softly; line = codes "on" } ∷ record { behind = ByBackslash; line = codes "lines" } ∷ []) refl (omega arith)

numbers : (syntax : Syntax) → IsReadAs (reading_of syntax (codes "120) two words\n07) a. b")) (Start (ListOf (Some 120)) ∷ Start Item ∷ Leaf (Text (codes "two words")) ∷ End end.Item ∷ Start Item ∷ Leaf (Text (codes "a. b")) ∷ End end.Item ∷ End (end.List true) ∷ [])
numbers syntax = ordered_read syntax 41 (record { digits = codes "120"; line = codes "two words" }) (record { digits = codes "07"; line = codes "a. b" } ∷ []) refl refl (omega arith)

code : (syntax : Syntax) → IsReadAs (reading_of syntax (codes "```rust\n- `a`\n\n\t``\n```")) (Start (CodeBlock (Fenced (codes "rust"))) ∷ Leaf (Text (codes "- `a`\n\n\t``\n")) ∷ End end.CodeBlock ∷ [])
code syntax = code_read syntax (record { token = 96; count = 3; info = codes "rust"; lines = codes "- `a`" ∷ [] ∷ codes "\t``" ∷ [] }) refl (omega arith)

parted : (syntax : Syntax) → IsReadAs (reading_of syntax (codes "> two words\n>\n> on lines")) (Start (BlockQuote None) ∷ Start Paragraph ∷ Leaf (Text (codes "two words")) ∷ End end.Paragraph ∷ Start Paragraph ∷ Leaf (Text (codes "on lines")) ∷ End end.Paragraph ∷ End (end.BlockQuote None) ∷ [])
parted syntax = parted_read syntax (codes "two words") (codes "on lines" ∷ []) refl (omega arith)
