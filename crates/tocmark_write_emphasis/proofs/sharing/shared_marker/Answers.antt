use Rattle.std.proofs.Common.{◌∙◌, ap, sym}
use Rattle.std.proofs.lemmas.Result.{IfOk-weaker}
use Rattle.std.specs.Prelude.{unwrap_or}
use Rattle.tocmark_spelling.specs.Marker.{marker_by_sharing}
use Rattle.tocmark_spelling.specs.PlanOf.{setting_of}
use Rattle.tocmark_write_emphasis.specs.Facts.{tag_of}
use Rattle.tocmark_write_emphasis.proofs.sharing.shared_marker.Goals as goal

pub returns-in-None-clause-marker : goal.returns-in-None-clause-marker
returns-in-None-clause-marker g c = λ token l path p node place o flags label.
    let s = setting_of o flags (g.R.Reader.reading c.args.reader.now) label in
    let shared = marker_by_sharing s c.args.delimiters.now.layout c.args.asked (tag_of c.args.node.now.strong) l path p in
    let none = sym c.in-None.is ∙ c.literal_marker.ensures.marker l node in
    IfOk-weaker c.by_sharing.result _ _ (λ x h. h ∙ ap (λ found. unwrap_or found shared) none)
    (c.by_sharing.ensures.marker token l path p node place o flags label)
