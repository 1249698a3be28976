use Rattle.std.proofs.Common.{◌≡◌, ◌∙◌, ◌++◌, ◌∷◌, [], List, ap, flat_map, map, string_bytes}
use Rattle.std.proofs.lemmas.Result.{IfOk-weaker}
use mathlib.Core.List.{map-map}
use Rattle.json.specs.Print.{print}
use Rattle.json.specs.Token.{begin_array, end_array}
use Rattle.tocmark_marked.specs.Marked.{marked_definitions}
use Rattle.tocmark_reader.specs.Definitions.{SaidDefinition, said_view}
use Rattle.tocmark_outline.specs.Defining.{IsDefinitionsJson, definition_tokens, listed_view}
use Rattle.tocmark_outline.specs.declared.defining.Listed.{Listed}
use Rattle.std.proofs.Common.{Bool}
use Rattle.tocmark_outline.proofs.defining.definitions.Goals as goal

pub returns : goal.returns
returns c =
    let all : List (SaidDefinition × Bool) = map listed_view c.deref-4.result.now in
    let found : map (λ (d : SaidDefinition × Bool). d.0) all ≡ marked_definitions c.args.flags c.args.text.now =
    map-map (λ (d : SaidDefinition × Bool). d.0) listed_view c.deref-4.result.now
    ∙ ap (map (λ (l : Listed). said_view l.definition)) c.deref-4.ensures.value
    ∙ c.in_ok-all.ensures
    ∙ c.in_ok-found.ensures in
    IfOk-weaker c.listing.result
    (λ output. string_bytes output ≡ print (begin_array ∷ flat_map definition_tokens all ++ end_array ∷ []))
    (λ output. IsDefinitionsJson c.args.flags c.args.text.now (string_bytes output))
    (λ output is. (all, found, is)) c.listing.ensures
