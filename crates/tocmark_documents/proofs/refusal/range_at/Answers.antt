use Rattle.std.proofs.Common.{◌∙◌, ap, length, option_and_then, refl, sym}
use Rattle.std.proofs.lemmas.Option.{slice_get_past, slice_get_read}
use Rattle.tocmark_documents.specs.Interchange.{kept}
use Rattle.tocmark_documents.proofs.Placed.{range_kept}
use Rattle.tocmark_documents.proofs.refusal.range_at.Goals as goal

pub returns-in-Some : goal.returns-in-Some
returns-in-Some c =
    let pairs = c.args.pairs.now in
    let here = c.in-Some.ensures.lookup in
    c.kept.ensures
    ∙ sym (range_kept c.args.has_source pairs c.args.event
    ∙ ap (option_and_then (λ p. kept c.args.has_source p.1)) (slice_get_read pairs (length pairs) c.args.event c.in-Some.pair.now refl here.3.0 here.1))

pub returns-in-None : goal.returns-in-None
returns-in-None c =
    let pairs = c.args.pairs.now in
    sym (range_kept c.args.has_source pairs c.args.event
    ∙ ap (option_and_then (λ p. kept c.args.has_source p.1)) (slice_get_past pairs c.args.event c.in-None.ensures.lookup.3))
