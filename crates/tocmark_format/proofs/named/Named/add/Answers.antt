use Rattle.std.proofs.Common.{◌≡◌, arith, subst, sym}
use Rattle.tocmark_format.specs.Named.{AreInOrder, last_line}
use Rattle.tocmark_format.specs.declared.answer.Left.{Left}
use Rattle.tocmark_format.proofs.Naming.{last-more, ordered-more}
use Rattle.tocmark_format.proofs.named.Named.add.Goals as goal

pub returns-in_ok-push : goal.returns-in_ok-push
returns-in_ok-push c named =
    let all = c.args.self.now.all.items in
    let block : Left = record { lines = (c.args.lines.first, c.args.lines.last); reason = c.args.reason } in
    subst (λ blocks. AreInOrder 0 blocks × (c.args.lines.last ≡ last_line 0 blocks)) (sym c.in_ok-push.ensures.items)
    (ordered-more 0 all block named.0 (omega (arith, c.if-self-lines.true, named.1)) (omega (arith, c.if-lines.true)), sym (last-more 0 all block))
