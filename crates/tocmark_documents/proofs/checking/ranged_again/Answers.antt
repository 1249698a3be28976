use Rattle.std.proofs.Common.{◌≡◌, map, string_bytes, true}
use Rattle.std.proofs.lemmas.Result.{IfOk-weaker}
use Rattle.serde_json.specs.Data.{Data}
use Rattle.serde_json.specs.Written.{compact_text}
use Rattle.tocmark_event.specs.Text.{text_of}
use Rattle.tocmark_json.specs.Elements.{IsListOf}
use Rattle.tocmark_json.specs.Json.{pair_view, pairs_json}
use Rattle.tocmark_documents.specs.Interchange.{IsAgain}
use Rattle.tocmark_documents.proofs.Again.{ranged}
use Rattle.tocmark_documents.proofs.checking.ranged_again.Goals as goal

pub returns : goal.returns
returns c =
    let pairs = map (pair_view text_of) c.args.pairs.now in
    IfOk-weaker c.pairs_to_text.result (λ output. string_bytes output ≡ compact_text (pairs_json pairs)) (λ output. (value : Data) → IsListOf true value pairs → IsAgain value (string_bytes output)) (λ output order value is. ranged value pairs (string_bytes output) order is) c.pairs_to_text.ensures.text
