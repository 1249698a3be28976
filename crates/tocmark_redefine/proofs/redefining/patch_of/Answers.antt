use Rattle.std.proofs.Common.{◌≡◌, ◌∙◌, ap, refl, length, slice_get, Some}
use Rattle.std.proofs.lemmas.Option.{slice_get-map, slice_get_read}
use Rattle.std.specs.Option.{option_map}
use Rattle.tocmark_reader.specs.Definitions.{said_view}
use Rattle.tocmark_redefine.proofs.redefining.patch_of.Goals as goal

pub returns-then-is_in : goal.returns-then-is_in
returns-then-is_in c =
    let olds = c.args.olds.now in
    let number = c.args.change.now.0 in
    let d = c.in-Some.definition.now in
    let seen = c.in-Some.ensures.lookup in
    let here : slice_get olds number ≡ Some d = slice_get_read olds (length olds) number d refl seen.3.0 seen.1 in
    let inside = c.is_in.ensures c.if-is_in.true in
    (said_view d, slice_get-map said_view olds number ∙ ap (option_map said_view) here, inside.0, inside.1, inside.2)
