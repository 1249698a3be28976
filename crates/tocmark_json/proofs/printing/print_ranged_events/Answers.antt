use Rattle.std.proofs.Common.{map, refl}
use Rattle.tocmark_json.specs.Json.{pair_json, ranged_view}
use Rattle.tocmark_json.proofs.Adding.{begun, more_added, all_added}
use Rattle.tocmark_json.proofs.printing.print_ranged_events.Goals as goal

pub loop-pair-init : goal.loop-pair-init
loop-pair-init g c = begun (map pair_json (map (ranged_view g.T.Words.bytes) c.args.pairs.now)) c.push.new.out.items

pub loop-pair-preserved : goal.loop-pair-preserved
loop-pair-preserved g c =
    let l = c.loop-pair in
    more_added (λ x. pair_json ((ranged_view g.T.Words.bytes) x)) (λ ys. map pair_json (map (ranged_view g.T.Words.bytes) ys)) (λ x ys. refl) refl c.args.pairs.now l.pair-index l.later c.push.new.out.items l.out.items c.push_comma.new.out.items c.print_pair.new.out.items l.invariant c.pair-item.result c.loop-pair-test.true c.pair-item.is c.in_ok-push_comma.ensures c.in_ok-print_pair.ensures

pub returns : goal.returns
returns g c =
    let l = c.loop-pair in
    all_added (λ x. pair_json ((ranged_view g.T.Words.bytes) x)) (λ ys. map pair_json (map (ranged_view g.T.Words.bytes) ys)) (λ x ys. refl) refl c.args.pairs.now l.pair-index l.later c.push.new.out.items l.out.items c.push-2.new.out.items l.out.items l.invariant c.push-2.result c.args.out.now.items c.loop-pair-test.false c.in_ok-push.ensures c.push-2.ensures
