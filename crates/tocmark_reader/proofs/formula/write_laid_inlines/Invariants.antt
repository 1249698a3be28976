use Rattle.std.proofs.Common.{◌≡◌, drop}
use Rattle.std.specs.List.{fold}
use Rattle.tocmark_reader.specs.Emitted.{emission_view, step}
use Rattle.tocmark_reader.specs.Formulas.{laid_nodes}
use Rattle.tocmark_reader.proofs.formula.write_laid_inlines.Given as goal

abbrev pub invariant-loop-node : goal.invariant-loop-node
invariant-loop-node l =
    fold (step l.text) (emission_view l.out)
    (laid_nodes l.text l.left l.found.texts.items l.found.targets.items (drop l.node-index l.found.nodes.items))
    ≡ fold (step l.text) (emission_view l.fn.out)
    (laid_nodes l.text l.lines l.found.texts.items l.found.targets.items l.found.nodes.items)
