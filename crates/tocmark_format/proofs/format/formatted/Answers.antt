use Rattle.std.proofs.Common.{IfOk, None, string_bytes, subst}
use Rattle.tocmark_judge.specs.Marks.{after_mark}
use Rattle.tocmark_format.specs.Formatted.{TellsOfPlain}
use Rattle.tocmark_format.proofs.format.formatted.Goals as goal

pub returns-clause-told : goal.returns-clause-told
returns-clause-told g c =
    subst (λ ends. IfOk c.formatted_lines.result (λ answer. TellsOfPlain (g.P.Print.prints c.args.style) None ends answer.left.items (after_mark c.args.text.now) (after_mark (string_bytes answer.text))))
    c.new.ensures
    c.formatted_lines.ensures.told
