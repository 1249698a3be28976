use Rattle.tocmark_event.specs.View.{code_view}
use Rattle.std.proofs.Common.{string_bytes}
use Rattle.tocmark_write_unit.proofs.close.close.Goals as goal

pub returns-in_ok-close_code-in-CodeBlock-clause-stands :
    goal.returns-in_ok-close_code-in-CodeBlock-clause-stands
returns-in_ok-close_code-in-CodeBlock-clause-stands c =
    rw c.in-CodeBlock.is (c.in_ok-close_code-in-CodeBlock.ensures.stands (code_view string_bytes c.in-CodeBlock.field-0))

pub returns-in-FootnoteDefinition-clause-stands : goal.returns-in-FootnoteDefinition-clause-stands
returns-in-FootnoteDefinition-clause-stands c =
    rw c.in-FootnoteDefinition.is (c.close_footnote.ensures.stands (string_bytes c.in-FootnoteDefinition.field-0))

pub returns-in-Table-clause-stands : goal.returns-in-Table-clause-stands
returns-in-Table-clause-stands c = rw c.in-Table.is (c.close_table.ensures.stands c.in-Table.field-0.items)
