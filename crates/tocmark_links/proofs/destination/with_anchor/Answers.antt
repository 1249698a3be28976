use Rattle.std.proofs.Common.{◌≡◌, ◌∙◌, ap, [], ◌∷◌, ◌++◌, append_assoc, string_bytes, arith}
use Rattle.percent_encoding.specs.Percent.{percent_decode}
use Rattle.tocmark_links.specs.Destinations.{anchor_of, until}
use Rattle.tocmark_links.proofs.Cutting.{after-cut, until-cut}
use Rattle.tocmark_links.proofs.destination.with_anchor.Goals as goal

joined : (c : goal.After-drop-name-2) → string_bytes c.push_str.new.self ≡ until 35 c.args.destination.now ++ (35 ∷ c.as_str.result.now)
joined c =
    c.in_ok-push_str.ensures.bytes
    ∙ ap (λ xs. xs ++ c.as_str.result.now)
    (c.in_ok-push.ensures.bytes ∙ ap (λ xs. string_bytes c.in_ok-new.new ++ xs) (c.in_ok-push.ensures.ascii (omega arith))
    ∙ ap (λ xs. xs ++ (35 ∷ [])) (c.in_ok-new.ensures.ok ∙ c.until.ensures (omega arith)))
    ∙ append_assoc (until 35 c.args.destination.now) (35 ∷ []) c.as_str.result.now

pub returns-clause-front : goal.returns-clause-front
returns-clause-front c = ap (until 35) (joined c) ∙ until-cut 35 c.args.destination.now c.as_str.result.now

pub returns-clause-anchor : goal.returns-clause-anchor
returns-clause-anchor c =
    ap (λ xs. percent_decode (anchor_of xs)) (joined c)
    ∙ ap percent_decode (after-cut 35 c.args.destination.now c.as_str.result.now)
    ∙ ap percent_decode c.as_str.ensures.value
    ∙ c.in_ok-name.ensures
