use Rattle.std.proofs.Common.{◌∙◌, ◌<◌, ap, sym, subst, encode_utf8}
use Rattle.std.proofs.lemmas.Result.{IfOk-weaker}
use Rattle.tocmark_spelling.specs.Marker.{in_width, marker_by_runs}
use Rattle.tocmark_spelling.specs.PlanOf.{setting_of}
use Rattle.tocmark_write_emphasis.specs.Facts.{tag_of}
use Rattle.tocmark_write_emphasis.proofs.marker.in_runs.Goals as goal

pub returns : goal.returns
returns g c = λ source l path p node place low o flags label.
    let s = setting_of o flags (g.R.Reader.reading c.args.reader.now) label in
    let t = tag_of c.args.node.now.strong in
    let asked = c.asked_marker-asked.ensures in
    let ascii : c.asked_marker-asked.result < 128 = subst (λ a. a < 128) (sym asked) low.asked_is in
    let chosen = c.in_ok-marker.ensures.marker (encode_utf8 c.args.delimiters.now.emphasis) l path p node place o flags label
    ∙ ap (λ a. marker_by_runs s a l path p) asked in
    IfOk-weaker c.in_width.result _ _ (λ text h. h ∙ ap (in_width t) chosen) (c.in_width.ensures (c.in_ok-marker.ensures.low ascii))
