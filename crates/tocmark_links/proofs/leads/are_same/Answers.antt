use Rattle.std.proofs.Common.{◌≡◌, ℕ, Bool, true, false, not, List, [], refl, arith}
use Rattle.std.proofs.lemmas.Slice.Eq.{bytes_eq-Decides}
use Rattle.std.specs.Borrow.{Bor}
use Rattle.tocmark_links.proofs.Redirecting.{same-more}
use Rattle.tocmark_links.proofs.leads.are_same.Goals as goal

not-false : (b : Bool) → false ≡ not b → b ≡ true
not-false true h = refl
not-false false h = h

pub loop-i-preserved : goal.loop-i-preserved
loop-i-preserved c =
    let d : Bor (List ℕ) = record { ref_ptr = (0, 0); now = [] } in
    same-more c.args.some.now c.args.others.now c.loop-i.i d c.loop-i-test.true (omega arith) ((bytes_eq-Decides _ _).0 (not-false _ c.if-ne.ensures)) c.loop-i.invariant
