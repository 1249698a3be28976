use Rattle.std.proofs.Common.{map}
use Rattle.tocmark_links.proofs.Renaming.{KeepsFirst}
use Rattle.tocmark_links.proofs.renamed.keeps_places.Given as goal

abbrev pub invariant-loop-place : goal.invariant-loop-place
invariant-loop-place l = KeepsFirst l.changed (map (λ n. n.now) l.old) (map (λ n. n.now) l.new) l.place
