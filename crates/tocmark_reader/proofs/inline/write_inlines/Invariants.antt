use Rattle.std.proofs.Common.{◌≡◌, take, map}
use Rattle.std.specs.List.{fold}
use Rattle.tocmark_reader.specs.Emitted.{emission_view, step}
use Rattle.tocmark_reader.specs.Inlines.{inline_node}
use Rattle.tocmark_reader.proofs.inline.write_inlines.Given as goal

abbrev pub invariant-loop-node : goal.invariant-loop-node
invariant-loop-node l =
    emission_view l.out ≡ fold (step l.text) (emission_view l.fn.out) (map (inline_node l.found.texts.items l.found.targets.items) (take l.node-index l.found.nodes.items))
