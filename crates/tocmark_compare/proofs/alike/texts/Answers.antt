use Rattle.std.proofs.Common.{◌∙◌, ap, sym, List, ℕ, length, arith}
use Rattle.tocmark_compare.proofs.Comparisons.{read_to, found-reads, found-differs, expected-reads, expected-differs}
use Rattle.tocmark_compare.proofs.alike.texts.Goals as goal

pub returns-in-None : goal.returns-in-None
returns-in-None c xs ys x y =
    found-differs c.args.at.begun xs ys c.args.found.now c.args.expected.now c.args.at.found c.args.at.expected x y
    (omega (arith, c.if-left-right.true, ap (λ (a : List ℕ). length a) c.bytes_from-left.ensures, ap (λ (a : List ℕ). length a) c.bytes_from-right.ensures))
    (sym (ap (read_to c.args.expected.now c.args.at.expected) c.bytes_from-left.ensures) ∙ sym c.read_on.ensures ∙ c.in-None.is)

pub returns-in-Some : goal.returns-in-Some
returns-in-Some c xs ys x y =
    found-reads c.args.at.begun xs ys c.args.found.now c.args.expected.now c.args.at.found c.args.at.expected x y c.in-Some.read
    (sym (ap (read_to c.args.expected.now c.args.at.expected) c.bytes_from-left.ensures) ∙ sym c.read_on.ensures ∙ c.in-Some.is)

pub returns-in-None-read_on : goal.returns-in-None-read_on
returns-in-None-read_on c xs ys x y =
    expected-differs c.args.at.begun xs ys c.args.found.now c.args.expected.now c.args.at.found c.args.at.expected x y
    (omega (arith, c.if-left-right.false, ap (λ (a : List ℕ). length a) c.bytes_from-left.ensures, ap (λ (a : List ℕ). length a) c.bytes_from-right.ensures))
    (sym (ap (read_to c.args.found.now c.args.at.found) c.bytes_from-right.ensures) ∙ sym c.read_on-else-left-right.ensures ∙ c.in-None-read_on.is)

pub returns-in-Some-read_on : goal.returns-in-Some-read_on
returns-in-Some-read_on c xs ys x y =
    expected-reads c.args.at.begun xs ys c.args.found.now c.args.expected.now c.args.at.found c.args.at.expected x y c.in-Some-read_on.read
    (sym (ap (read_to c.args.found.now c.args.at.found) c.bytes_from-right.ensures) ∙ sym c.read_on-else-left-right.ensures ∙ c.in-Some-read_on.is)
