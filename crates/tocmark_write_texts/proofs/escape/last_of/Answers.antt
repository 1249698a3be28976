use Rattle.std.proofs.Common.{rules, ◌∙◌, sym, ap, length}
use Rattle.std.specs.Char.{IsScalar}
use Rattle.tocmark_write_texts.specs.Bare.{last_of}
use Rattle.tocmark_write_texts.proofs.EscapeLemmas.{chars_of_empty}
use Rattle.tocmark_write_texts.proofs.Runs.{last_is}
use Rattle.tocmark_write_texts.proofs.escape.last_of.Goals as goal

pub returns-in-Some : goal.returns-in-Some
returns-in-Some c =
    let scalar : IsScalar c.in-Some.last = search rules in
    sym (last_is c.args.character c.args.text.now _ c.in-Some.last c.utf8.text scalar (sym c.chars.ensures.rest ∙ c.in-Some.ensures.steps))

pub returns-in-None : goal.returns-in-None
returns-in-None c = sym (ap (last_of c.args.character) (chars_of_empty c.args.text.now (ap length (sym c.chars.ensures.rest) ∙ c.in-None.ensures.steps.0)))
