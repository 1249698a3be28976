use Rattle.std.proofs.Common.{rules, ◌∙◌, sym, ap, length}
use Rattle.std.specs.Char.{IsScalar}
use Rattle.tocmark_write_pending.proofs.LastCharacter.{last-is, last-none}
use Rattle.tocmark_write_pending.proofs.edges.last_character.Goals as goal

pub returns-in-Some : goal.returns-in-Some
returns-in-Some c =
    let scalar : IsScalar c.in-Some.character = search rules in
    sym (last-is c.args.text.now _ c.in-Some.character c.utf8.text scalar (sym c.chars-characters.ensures.rest ∙ c.in-Some.ensures.steps))

pub returns-in-None : goal.returns-in-None
returns-in-None c = sym (last-none c.args.text.now (ap length (sym c.chars-characters.ensures.rest) ∙ c.in-None.ensures.steps.0))
