use Rattle.std.proofs.Common.{map, sym, arith}
use Rattle.std.proofs.lemmas.List.{length-map}
use Rattle.tocmark_event.specs.View.{attribute_view}
use Rattle.tocmark_compare.proofs.SameKeys.{attributes-apart}
use Rattle.tocmark_compare.proofs.text.same_attributes.Goals as goal

pub returns-then-a-b : goal.returns-then-a-b
returns-then-a-b g c =
    let xs = map (attribute_view g.T.Words.bytes) c.args.a.now in
    let ys = map (attribute_view g.U.Words.bytes) c.args.b.now in
    sym (attributes-apart xs ys (λ e. omega (arith, c.if-a-b.true, e, length-map c.args.a.now (attribute_view g.T.Words.bytes), length-map c.args.b.now (attribute_view g.U.Words.bytes))))
