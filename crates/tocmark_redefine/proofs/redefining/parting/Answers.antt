use Rattle.std.proofs.Common.{◌≡◌, ◌∙◌, ap, sym, ℕ, Bool, true, false, not, List, [], refl, arith}
use Rattle.std.proofs.lemmas.List.{take_all}
use Rattle.std.proofs.lemmas.Slice.Eq.{bytes_eq-Decides}
use Rattle.std.specs.Borrow.{Bor}
use Rattle.tocmark_redefine.proofs.Replacing.{same_more, texts}
use Rattle.tocmark_redefine.proofs.redefining.parting.Goals as goal

not-false : (b : Bool) → false ≡ not b → b ≡ true
not-false true h = refl
not-false false h = h

pub loop-i-preserved : goal.loop-i-preserved
loop-i-preserved c =
    let d : Bor (List ℕ) = record { ref_ptr = (0, 0); now = [] } in
    same_more c.args.some.now c.args.others.now c.loop-i.i d (omega arith) (omega arith) ((bytes_eq-Decides _ _).0 (not-false _ c.if-ne.ensures)) c.loop-i.invariant

pub returns : goal.returns
returns c =
    sym (ap texts (take_all c.loop-i.i c.args.some.now (omega arith)))
    ∙ c.loop-i.invariant
    ∙ ap texts (take_all c.loop-i.i c.args.others.now (omega arith))
