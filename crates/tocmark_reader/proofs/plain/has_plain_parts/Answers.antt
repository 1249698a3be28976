use Rattle.std.proofs.Common.{List, ℕ, ap, sym, ◌∙◌}
use Rattle.tocmark_read_scan.specs.PlainParts.{are_plain_parts}
use Rattle.tocmark_reader.specs.PlainTexts.{parts_from}
use Rattle.tocmark_reader.proofs.PlainSearch.{front_passed, front_refused}
use Rattle.tocmark_reader.proofs.plain.has_plain_parts.Goals as goal

pub returns-in-None : goal.returns-in-None
returns-in-None c =
    sym (front_refused c.loop-byte.before c.in-Some.byte.now c.in-Some.behind.now (sym c.plain_front.ensures ∙ c.in-None.is))
    ∙ ap (λ (xs : List ℕ). are_plain_parts c.loop-byte.before (parts_from 0 xs)) (sym (c.in-Some.ensures.cases.0))
    ∙ c.loop-byte.invariant

pub loop-byte-preserved : goal.loop-byte-preserved
loop-byte-preserved c =
    ap (λ (xs : List ℕ). are_plain_parts c.in-Some-plain_front.last (parts_from 0 xs)) c.rest-left.ensures
    ∙ sym (front_passed c.loop-byte.before c.in-Some.byte.now c.in-Some.behind.now c.in-Some-plain_front.last c.in-Some-plain_front.length (sym c.plain_front.ensures ∙ c.in-Some-plain_front.is))
    ∙ ap (λ (xs : List ℕ). are_plain_parts c.loop-byte.before (parts_from 0 xs)) (sym (c.in-Some.ensures.cases.0))
    ∙ c.loop-byte.invariant
