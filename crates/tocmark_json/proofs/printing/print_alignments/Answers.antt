use Rattle.std.proofs.Common.{map, refl}
use Rattle.tocmark_json.specs.Json.{alignment_json}
use Rattle.tocmark_json.proofs.Adding.{begun, all_added}
use Rattle.tocmark_json.proofs.printing.print_alignments.Goals as goal

pub loop-alignment-init : goal.loop-alignment-init
loop-alignment-init c = begun (map alignment_json c.args.alignments.now) c.push.new.out.items

pub returns : goal.returns
returns c =
    let l = c.loop-alignment in
    all_added alignment_json (λ ys. map alignment_json ys) (λ x ys. refl) refl c.args.alignments.now l.alignment-index l.later c.push.new.out.items l.out.items c.push-2.new.out.items l.out.items l.invariant c.push-2.result c.args.out.now.items c.loop-alignment-test.false c.in_ok-push.ensures c.push-2.ensures
