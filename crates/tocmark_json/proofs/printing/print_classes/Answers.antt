use Rattle.std.proofs.Common.{map, refl}
use Rattle.serde_json.specs.Data.{string}
use Rattle.tocmark_json.proofs.Adding.{begun, more_added, all_added}
use Rattle.tocmark_json.proofs.printing.print_classes.Goals as goal

pub loop-class-init : goal.loop-class-init
loop-class-init g c = begun (map string (map (g.T.Words.bytes) c.args.classes.now)) c.push.new.out.items

pub loop-class-preserved : goal.loop-class-preserved
loop-class-preserved g c =
    let l = c.loop-class in
    more_added (λ x. string ((g.T.Words.bytes) x)) (λ ys. map string (map (g.T.Words.bytes) ys)) (λ x ys. refl) refl c.args.classes.now l.class-index l.later c.push.new.out.items l.out.items c.push_comma.new.out.items c.print_text.new.out.items l.invariant c.class-item.result c.loop-class-test.true c.class-item.is c.in_ok-push_comma.ensures c.in_ok-print_text.ensures

pub returns : goal.returns
returns g c =
    let l = c.loop-class in
    all_added (λ x. string ((g.T.Words.bytes) x)) (λ ys. map string (map (g.T.Words.bytes) ys)) (λ x ys. refl) refl c.args.classes.now l.class-index l.later c.push.new.out.items l.out.items c.push-2.new.out.items l.out.items l.invariant c.push-2.result c.args.out.now.items c.loop-class-test.false c.in_ok-push.ensures c.push-2.ensures
