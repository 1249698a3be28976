use Rattle.std.proofs.Common.{◌≡◌, ◌∙◌, List, ap, false, map, string_bytes, sym}
use Rattle.std.proofs.lemmas.Result.{IfOk-weaker}
use Rattle.serde_json.specs.Data.{Data}
use Rattle.serde_json.specs.Written.{compact_text}
use Rattle.tocmark_event.specs.Text.{ParserEvent, text_of}
use Rattle.tocmark_event.specs.View.{event_view}
use Rattle.tocmark_json.specs.Elements.{IsListOf}
use Rattle.tocmark_json.specs.Json.{events_json, pair_view}
use Rattle.tocmark_documents.specs.Interchange.{IsAgain}
use Rattle.tocmark_documents.proofs.Again.{plain}
use Rattle.tocmark_documents.proofs.checking.plain_again.Goals as goal

pub returns : goal.returns
returns c =
    let pairs = map (pair_view text_of) c.args.pairs.items in
    let es = map (event_view text_of) c.deref.result.now in
    let are = ap (λ (l : List ParserEvent). map (event_view text_of) l) c.deref.ensures.value ∙ c.in_ok-events.ensures in
    IfOk-weaker c.events_to_text.result (λ output. string_bytes output ≡ compact_text (events_json es)) (λ output. (value : Data) → IsListOf false value pairs → IsAgain value (string_bytes output)) (λ output order value is. plain value pairs es (string_bytes output) are order is) c.events_to_text.ensures.text
