use Rattle.std.proofs.Common.{◌≡◌, ◌↔◌, ◌∙◌, [], Bool, true, false, sym, subst, IfOk}
use Rattle.tocmark_differences.specs.declared.allowed.Allowed.{Allowed}
use Rattle.tocmark_c.specs.Comparing.{AreTheSameBut, allowed_of, links_addresses}
use Rattle.tocmark_c.proofs.comparing.differences.Goals as goal

pub returns-then-has_bit : goal.returns-then-has_bit
returns-then-has_bit c =
    let bare : links_addresses c.args.allowed ≡ true = sym c.has_bit.ensures ∙ c.if-has_bit.true in
    subst (λ (b : Bool). IfOk c.compared.result (λ all. (all.items ≡ []) ↔ AreTheSameBut (allowed_of c.args.allowed) b c.args.flags c.args.old.now c.args.new.now)) (sym bare)
    (subst (λ (kinds : Allowed). IfOk c.compared.result (λ all. (all.items ≡ []) ↔ AreTheSameBut kinds true c.args.flags c.args.old.now c.args.new.now)) c.allowed_of-kinds.ensures c.compared.ensures.same)

pub returns-else-has_bit : goal.returns-else-has_bit
returns-else-has_bit c =
    let bare : links_addresses c.args.allowed ≡ false = sym c.has_bit.ensures ∙ c.if-has_bit.false in
    subst (λ (b : Bool). IfOk c.compared-else-has_bit.result (λ all. (all.items ≡ []) ↔ AreTheSameBut (allowed_of c.args.allowed) b c.args.flags c.args.old.now c.args.new.now)) (sym bare)
    (subst (λ (kinds : Allowed). IfOk c.compared-else-has_bit.result (λ all. (all.items ≡ []) ↔ AreTheSameBut kinds false c.args.flags c.args.old.now c.args.new.now)) c.allowed_of-kinds.ensures c.compared-else-has_bit.ensures.same)
