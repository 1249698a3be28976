-- An example: a heading, a thematic break, a paragraph of two lines, and code of two lines, as events.
use Rattle.std.proofs.Common.{◌≡◌, None, List, [], ◌∷◌, codes, map, refl}
use Rattle.tocmark_event.specs.View.{EventView, Start, End, Leaf, Text, SoftBreak, Rule, Heading, Paragraph, CodeBlock, Fenced}
use Rattle.tocmark_event.specs.declared.event.HeadingLevel.TheVariants as level
use Rattle.tocmark_event.specs.declared.event.TagEnd.TheVariants as end
use Rattle.tocmark_state.specs.Ranges.{unranged}
use Rattle.tocmark_laws.specs.Documents.{PlainBlock, PlainHeading, PlainParagraph, PlainRule, PlainCode, IsPlainBlock, plain_document}

abbrev blocks : List PlainBlock
blocks = PlainHeading level.H2 (codes "a" ∷ []) ∷ PlainRule ∷ PlainParagraph (codes "b") (codes "c" ∷ []) ∷ PlainCode (codes "d g") (codes " e~~~" ∷ codes "\tf" ∷ []) ∷ []

abbrev events : List EventView
events =
    Start (Heading level.H2 None [] []) ∷ Leaf (Text (codes "a")) ∷ End (end.Heading level.H2)
    ∷ Leaf Rule
    ∷ Start Paragraph ∷ Leaf (Text (codes "b")) ∷ Leaf SoftBreak ∷ Leaf (Text (codes "c")) ∷ End end.Paragraph
    ∷ Start (CodeBlock (Fenced (codes "d g"))) ∷ Leaf (Text (codes " e~~~\n")) ∷ Leaf (Text (codes "\tf\n")) ∷ End end.CodeBlock
    ∷ []

example : plain_document blocks ≡ map unranged events
example = refl

code_is_plain : IsPlainBlock (PlainCode (codes "d g") (codes " e~~~" ∷ codes "\tf" ∷ []))
code_is_plain = refl
