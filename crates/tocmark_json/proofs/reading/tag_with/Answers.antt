use Rattle.std.proofs.Common.{◌≡◌, List, ℕ, codes, subst, sym}
use Rattle.tocmark_json.specs.Node.{view}
use Rattle.tocmark_json.specs.Json.{optional, quote_json, tag_json, tagged}
use Rattle.tocmark_json.specs.Place.{IsNoneOf}
use Rattle.tocmark_json.proofs.Refusals.{no_quote, returned}
use Rattle.tocmark_json.proofs.reading.tag_with.Goals as goal

pub returns-in_err-quote_from-in-BlockQuote-clause-refused : goal.returns-in_err-quote_from-in-BlockQuote-clause-refused
returns-in_err-quote_from-in-BlockQuote-clause-refused g c =
    let v = view c.args.content.now in
    let named : c.args.name.now ≡ codes "BlockQuote" = c.in-BlockQuote.is in
    returned c.from_residual.result c.in_err-quote_from-in-BlockQuote.field-0.0 c.from_residual.ensures.1 (optional quote_json) tag_json v (tagged c.args.name.now v) (λ lacks. subst (λ (name : List ℕ). IsNoneOf tag_json (tagged name v)) (sym named) (no_quote v lacks)) c.in_err-quote_from-in-BlockQuote.ensures.refused
