use Rattle.std.proofs.Common.{◌≡◌, map, take}
use Rattle.std.specs.List.{fold}
use Rattle.tocmark_outline.specs.Outline.{Placed, placed}
use Rattle.tocmark_outline.specs.Words.{say, saying_view, silent}
use Rattle.tocmark_outline.proofs.saying.words.Given as goal

abbrev pub invariant-loop-pair : goal.invariant-loop-pair
invariant-loop-pair l =
    saying_view l.saying ≡ fold (λ s (e : Placed). say s e.0) silent (map placed (take l.pair-index l.pair-items))
