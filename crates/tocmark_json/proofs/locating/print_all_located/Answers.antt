use Rattle.std.proofs.Common.{map, refl}
use Rattle.tocmark_json.specs.Json.{located_json, located_view}
use Rattle.tocmark_json.proofs.Adding.{begun, more_added, all_added}
use Rattle.tocmark_json.proofs.locating.print_all_located.Goals as goal

pub loop-pair-init : goal.loop-pair-init
loop-pair-init g c = begun (map located_json (map (located_view g.T.Words.bytes c.args.positions.now.bytes.now) c.args.pairs.now)) c.push.new.out.items

pub loop-pair-preserved : goal.loop-pair-preserved
loop-pair-preserved g c =
    let l = c.loop-pair in
    more_added (λ x. located_json ((located_view g.T.Words.bytes c.args.positions.now.bytes.now) x)) (λ ys. map located_json (map (located_view g.T.Words.bytes c.args.positions.now.bytes.now) ys)) (λ x ys. refl) refl c.args.pairs.now l.pair-index l.later c.push.new.out.items l.out.items c.push_comma.new.out.items c.print_located.new.out.items l.invariant c.pair-item.result c.loop-pair-test.true c.pair-item.is c.in_ok-push_comma.ensures c.in_ok-print_located.ensures

pub returns : goal.returns
returns g c =
    let l = c.loop-pair in
    all_added (λ x. located_json ((located_view g.T.Words.bytes c.args.positions.now.bytes.now) x)) (λ ys. map located_json (map (located_view g.T.Words.bytes c.args.positions.now.bytes.now) ys)) (λ x ys. refl) refl c.args.pairs.now l.pair-index l.later c.push.new.out.items l.out.items c.push-2.new.out.items l.out.items l.invariant c.push-2.result c.args.out.now.items c.loop-pair-test.false c.in_ok-push.ensures c.push-2.ensures
