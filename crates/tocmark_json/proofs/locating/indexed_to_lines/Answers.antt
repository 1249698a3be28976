use Rattle.std.proofs.Common.{◌≡◌, ◌∙◌, ◌+◌, ◌∷◌, ◌++◌, [], ap, append-nil, append_assoc, drop, map, string_bytes, sym}
use Rattle.std.proofs.lemmas.List.{drop_all, drop_more}
use Rattle.std.proofs.lemmas.Result.{IfOk-weaker}
use Rattle.serde_json.specs.Written.{compact_text}
use Rattle.tocmark_json.specs.Json.{located_json, located_view}
use Rattle.tocmark_json.specs.Printed.{located_lines}
use Rattle.tocmark_json.proofs.Adding.{behind}
use Rattle.tocmark_json.proofs.locating.indexed_to_lines.Goals as goal

pub loop-pair-preserved : goal.loop-pair-preserved
loop-pair-preserved g c =
    let view = located_view g.T.Words.bytes c.args.positions.now.bytes.now in
    let pairs = c.args.pairs.now in
    let i = c.loop-pair.pair-index in
    let old = c.loop-pair.out.items in
    let value = compact_text (located_json (view c.pair-item.result)) in
    let rest = located_lines (map view (drop (i + 1) pairs)) in
    let here : located_lines (map view (drop i pairs)) ≡ (value ++ 10 ∷ []) ++ rest =
    ap (λ ys. located_lines (map view ys)) (drop_more pairs i c.pair-item.result c.loop-pair-test.true ∙ ap (λ y. y ∷ drop (i + 1) pairs) (sym c.pair-item.is)) in
    ap (λ b. b ++ rest) (behind old c.print_located.new.out.items c.push.new.out.items value (10 ∷ []) c.in_ok-print_located.ensures.grows c.in_ok-push.ensures)
    ∙ append_assoc old (value ++ 10 ∷ []) rest
    ∙ ap (λ z. old ++ z) (sym here)
    ∙ c.loop-pair.invariant

pub returns : goal.returns
returns g c =
    let view = located_view g.T.Words.bytes c.args.positions.now.bytes.now in
    let pairs = c.args.pairs.now in
    let bytes = c.loop-pair.out.items in
    let all = sym (append-nil bytes)
    ∙ ap (λ ys. bytes ++ located_lines (map view ys)) (sym (drop_all c.loop-pair.pair-index pairs c.loop-pair-test.false))
    ∙ c.loop-pair.invariant in
    IfOk-weaker c.text_of.result (λ text. string_bytes text ≡ bytes) (λ text. string_bytes text ≡ located_lines (map view pairs)) (λ text is. is ∙ all) c.text_of.ensures
