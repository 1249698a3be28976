use Rattle.std.proofs.Common.{encode_utf8}
use Rattle.tocmark_write_renderer.specs.WriterOf.{levels_of, page_of}
use Rattle.tocmark_write_emphasis.proofs.Lowness.{has-low}
use Rattle.tocmark_write_emphasis.proofs.opening.marker_here.Goals as goal

pub returns-clause-marker : goal.returns-clause-marker
returns-clause-marker g c = λ source l asked opens literals node next o flags label.
    let a = c.args in
    let d = a.task.now.manner.delimiters in
    let path = levels_of a.renderer.now in
    let p = page_of a.renderer.now in
    let place = c.in_ok-place.ensures.place l next in
    let low = has-low d a.node.now c.in_ok-place.place (encode_utf8 d.emphasis) l path p asked opens literals place in
    c.marker.ensures source l path p node place low o flags label
