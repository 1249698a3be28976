use Rattle.std.proofs.Common.{◌∙◌, ap, sym, subst, encode_utf8}
use Rattle.std.proofs.lemmas.Result.{IfOk-weaker}
use Rattle.std.specs.Prelude.{unwrap_or}
use Rattle.tocmark_spelling.specs.Marker.{in_width, literal_marker, marker_by_sharing}
use Rattle.tocmark_spelling.specs.PlanOf.{setting_of}
use Rattle.tocmark_write_emphasis.specs.Facts.{tag_of, AreLow}
use Rattle.tocmark_write_emphasis.proofs.marker.in_sharing.Goals as goal

pub returns : goal.returns
returns g c = λ source l path p node place low o flags label.
    let s = setting_of o flags (g.R.Reader.reading c.args.reader.now) label in
    let d = c.args.delimiters.now in
    let t = tag_of c.args.node.now.strong in
    let asked = c.asked_marker-asked.ensures in
    let ascii = subst (λ a. AreLow a c.args.node.now c.args.place.now) (sym asked) low in
    let chosen = c.in_ok-marker.ensures.marker (encode_utf8 d.emphasis) l path p node place o flags label
    ∙ ap (λ a. unwrap_or (literal_marker d.text l) (marker_by_sharing s d.layout a t l path p)) asked in
    IfOk-weaker c.in_width.result _ _ (λ text h. h ∙ ap (in_width t) chosen) (c.in_width.ensures (c.in_ok-marker.ensures.low ascii))
