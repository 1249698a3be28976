use Rattle.std.proofs.Common.{map, drop}
use Rattle.tocmark_json.specs.Json.{alignment_json}
use Rattle.tocmark_json.proofs.Adding.{Goes}
use Rattle.tocmark_json.proofs.printing.print_alignments.Given as goal

abbrev pub invariant-loop-alignment : goal.invariant-loop-alignment
invariant-loop-alignment l = Goes (map alignment_json l.alignments) (map alignment_json (drop l.alignment-index l.alignments)) l.later l.initial.out.items l.out.items
