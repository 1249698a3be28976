use Rattle.std.proofs.Common.{◌≡◌, arith, length}
use Rattle.std.specs.HashMap.{get_by_text}
use Rattle.tocmark_links.proofs.Firsts.{first-more}
use Rattle.tocmark_links.proofs.headings.firsts_of.Goals as goal

pub loop-anchor-preserved : goal.loop-anchor-preserved
loop-anchor-preserved c = λ q.
    let l = c.loop-anchor in
    let count : c.len.result ≡ length l.names.items = omega (arith, c.len.ensures, l.names.ok) in
    first-more (get_by_text l.firsts) (get_by_text c.add_first.new.firsts) c.args.anchors.now l.anchor-index c.anchor-item.result (length l.names.items) (length c.add_name.new.names.items) q c.loop-anchor-test.true c.anchor-item.is (rw (c.as_str.ensures.value, c.place_of-place.ensures, count) at (c.in_ok-add_first.ensures q)) c.in_ok-add_name.ensures (l.invariant q)
