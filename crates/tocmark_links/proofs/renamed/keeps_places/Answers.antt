use Rattle.std.proofs.Common.{map}
use Rattle.std.proofs.lemmas.List.{length-map}
use Rattle.std.specs.HashMap.{get_by_text}
use Rattle.tocmark_links.proofs.Renaming.{all-kept, none-kept, place-kept}
use Rattle.tocmark_links.proofs.renamed.keeps_places.Goals as goal

pub loop-place-init : goal.loop-place-init
loop-place-init c = none-kept c.args.changed.now (map (λ n. n.now) c.args.old.now) (map (λ n. n.now) c.args.new.now)

pub loop-place-preserved : goal.loop-place-preserved
loop-place-preserved c =
    place-kept c.args.changed.now c.args.old.now (map (λ n. n.now) c.args.new.now) c.loop-place.place _ (get_by_text c.in_ok-old_places.old_places) (get_by_text c.in_ok-new_places.new_places) c.loop-place-test.true c.in_ok-old_places.ensures c.in_ok-new_places.ensures (c.keeps_place.ensures c.if-not-keeps_place.false) c.loop-place.invariant

pub returns : goal.returns
returns c = λ _.
    all-kept c.args.changed.now (map (λ n. n.now) c.args.old.now) (map (λ n. n.now) c.args.new.now) c.loop-place.place (rw length-map c.loop-place-test.false) c.loop-place.invariant
