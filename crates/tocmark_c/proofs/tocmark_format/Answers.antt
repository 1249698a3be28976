use Rattle.std.proofs.Common.{ℤ, SFits, rules, sym, subst, to_z-of_z, w64}
use Rattle.tocmark_c.specs.Answer.{IsAnswer}
use Rattle.tocmark_c.specs.Calls.{IsFormatCause, IsSameDocument}
use Rattle.tocmark_c.proofs.Answers.{answered}
use Rattle.tocmark_c.proofs.tocmark_format.Goals as goal

pub returns : goal.returns
returns c =
    let fits : SFits w64 c.answer.result = search rules in
    subst (λ (r : ℤ). IsAnswer (IsSameDocument c.args.flags c.args.style.now c.args.text.now) (IsFormatCause c.args.text.now c.args.style.now) r c.args.out.now c.answer.new.out)
    (sym (to_z-of_z fits))
    (answered (IsSameDocument c.args.flags c.args.style.now c.args.text.now) (IsFormatCause c.args.text.now c.args.style.now) c.format.result c.answer.result c.args.out.now c.answer.new.out c.format.ensures.text c.format.ensures.cause c.answer.ensures)
