use Rattle.std.proofs.Common.{◌∙◌, sym, refl, chars, chars}
use Rattle.tocmark_write_texts.proofs.EscapeLemmas.{two_characters, ended_at, spot_from_parts}
use Rattle.tocmark_write_texts.proofs.escape.spot_from.Goals as goal

pub returns-then-is_some : goal.returns-then-is_some
returns-then-is_some c =
    let steps = c.next-next.ensures.steps in
    let two = two_characters c.args.after.now _ _ c.next-next.result c.next.result c.utf8.after c.chars-rest.ensures.rest
    (ended_at _ _ _ steps.0) steps.2 c.next.ensures.steps.2 in
    spot_from_parts c.args.before c.args.only_digits c.args.character (chars c.args.after.now) c.args.only_digits
    c.next-next.result c.next.result c.is_none-before_last.result
    (rw (sym c.if-is_some.ensures) refl) two.0 two.1 c.is_none-before_last.ensures

pub returns-else-is_some : goal.returns-else-is_some
returns-else-is_some c =
    let steps = c.next-next.ensures.steps in
    let two = two_characters c.args.after.now _ _ c.next-next.result c.next.result c.utf8.after c.chars-rest.ensures.rest
    (ended_at _ _ _ steps.0) steps.2 c.next.ensures.steps.2 in
    spot_from_parts c.args.before c.args.only_digits c.args.character (chars c.args.after.now) c.is_some.result
    c.next-next.result c.next.result c.is_none-before_last.result
    (c.if-is_some.false ∙ rw (sym c.if-is_some.ensures) refl) two.0 two.1 c.is_none-before_last.ensures
