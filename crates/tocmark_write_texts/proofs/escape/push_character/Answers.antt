use Rattle.std.proofs.Common.{sym, ◌∙◌, rules}
use Rattle.tocmark_write_texts.proofs.EscapeLemmas.{written_reference}
use Rattle.tocmark_write_texts.proofs.escape.push_character.Goals as goal

pub returns-in-Some : goal.returns-in-Some
returns-in-Some c =
    let is_written = written_reference _ c.args.spot c.in-Some.reference.now
    (sym c.is_literal.ensures ∙ c.if-is_literal.false)
    (sym c.is_encoded.ensures ∙ c.if-is_encoded.false)
    (sym c.in-Some.ensures) in
    rw is_written (search rules)
