use Rattle.std.proofs.Common.{flat_map, ◌++◌, ◌∷◌, ◌∙◌, ap, length, refl, sym}
use Rattle.std.proofs.lemmas.List.{length-map}
use Rattle.tocmark_json.specs.Marshal.{alignment_bytes}
use Rattle.tocmark_json.specs.Marshal.{four}
use Rattle.tocmark_json.proofs.Marshalled.{all_come}
use Rattle.tocmark_json.proofs.marshalling.push_alignments.Goals as goal

pub returns : goal.returns
returns c =
    let l = c.loop-alignment in
    all_come (alignment_bytes) (λ ys. flat_map alignment_bytes ys) (λ x ys. refl) refl c.args.alignments.now l.alignment-index c.push_length.new.out.items l.out.items l.out.items l.invariant c.args.out.now.items (91 ∷ four (length (c.args.alignments.now))) c.loop-alignment-test.false (c.in_ok-push_length.ensures)
