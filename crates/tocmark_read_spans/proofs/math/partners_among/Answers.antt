use Rattle.std.proofs.Common.{◌≡◌, ◌+◌, ◌-◌, arith, length}
use Rattle.std.proofs.lemmas.List.{drop_all}
use Rattle.tocmark_read_spans.proofs.Partners.{at-sign, levels-turn, found-turn, levels-none, found-none}
use Rattle.tocmark_read_spans.proofs.math.partners_among.Goals as goal

pub loop-place-init : goal.loop-place-init
loop-place-init c =
    let signs = c.args.signs.now in
    let past = drop_all (length signs) signs (omega arith) in
    record {
      levels = levels-none signs _ _ c.new-levels.ensures.items past;
      found = found-none signs _ _ c.in_ok-found.ensures.items past;
    }

pub loop-place-preserved : goal.loop-place-preserved
loop-place-preserved c =
    let signs = c.args.signs.now in
    let k = c.loop-place.place - 1 in
    let q : c.loop-place.place ≡ k + 1 = omega arith in
    let at = at-sign signs k _ (omega arith) c.sign_at.ensures in
    record {
      levels = levels-turn _ signs _ _ _ k q at c.in_ok-partner.ensures.levels c.loop-place.invariant.levels;
      found = found-turn _ signs _ _ _ _ _ k q at c.in_ok-partner.ensures.partner c.loop-place.invariant.levels c.in_ok-push.ensures.items c.loop-place.invariant.found;
    }
