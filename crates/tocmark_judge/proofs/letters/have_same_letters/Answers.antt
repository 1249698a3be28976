use Rattle.std.proofs.Common.{◌≡◌, ◌∙◌, ◌∷◌, ap, length, sym, arith}
use Rattle.tocmark_judge.specs.Letters.{letters}
use Rattle.tocmark_judge.proofs.Lettering.{both-further, differ, ends, ends-early}
use Rattle.tocmark_judge.proofs.letters.have_same_letters.Goals as goal

pub loop-letter-init : goal.loop-letter-init
loop-letter-init c =
    let one : letters c.as_bytes-first.result.now ≡ letters c.args.one.now = ap letters c.as_bytes-first.ensures.value in
    let other : letters c.as_bytes-second.result.now ≡ letters c.args.other.now = ap letters c.as_bytes-second.ensures.value in
    ((λ e. sym one ∙ e ∙ other), (λ e. one ∙ e ∙ sym other))

pub returns-in_default-next_letter : goal.returns-in_default-next_letter
returns-in_default-next_letter c =
    ends-early c.in-Some.letter (letters c.loop-letter.first.now) (letters c.loop-letter.second.now) (letters c.in-Some.rest.now) (letters c.args.one.now ≡ letters c.args.other.now) c.in-Some.ensures c.in_default-next_letter.ensures c.loop-letter.invariant

pub returns-then-found-letter : goal.returns-then-found-letter
returns-then-found-letter c =
    differ c.in-Some.letter c.in-Some-next_letter.found (letters c.loop-letter.first.now) (letters c.loop-letter.second.now) (letters c.in-Some.rest.now) (letters c.in-Some-next_letter.behind.now) (letters c.args.one.now ≡ letters c.args.other.now) c.in-Some.ensures c.in-Some-next_letter.ensures c.if-found-letter.true c.loop-letter.invariant

pub loop-letter-smaller : goal.loop-letter-smaller
loop-letter-smaller c =
    let one-less : length (letters c.loop-letter.first.now) ≡ length (c.in-Some.letter ∷ letters c.in-Some.rest.now) = ap length c.in-Some.ensures in
    omega (arith, one-less)

pub loop-letter-preserved : goal.loop-letter-preserved
loop-letter-preserved c =
    both-further c.in-Some.letter c.in-Some-next_letter.found (letters c.loop-letter.first.now) (letters c.loop-letter.second.now) (letters c.in-Some.rest.now) (letters c.in-Some-next_letter.behind.now) (letters c.args.one.now ≡ letters c.args.other.now) c.in-Some.ensures c.in-Some-next_letter.ensures c.if-found-letter.false c.loop-letter.invariant

pub returns : goal.returns
returns c =
    ends c.next_letter-2.result c.is_none.result (letters c.loop-letter.first.now) (letters c.loop-letter.second.now) (letters c.args.one.now ≡ letters c.args.other.now) c.in_default.ensures c.next_letter-2.ensures c.is_none.ensures c.loop-letter.invariant
