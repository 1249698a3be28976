use Rattle.std.proofs.Common.{◌≡◌, ◌∙◌, ◌+◌, ◌∷◌, ◌++◌, [], ap, append-nil, append_assoc, drop, map, string_bytes, sym}
use Rattle.std.proofs.lemmas.List.{drop_all, drop_more}
use Rattle.std.proofs.lemmas.Result.{IfOk-weaker}
use Rattle.serde_json.specs.Written.{compact_text}
use Rattle.tocmark_json.specs.Json.{pair_json, ranged_view}
use Rattle.tocmark_json.specs.Printed.{lines_text}
use Rattle.tocmark_json.proofs.Adding.{behind}
use Rattle.tocmark_json.proofs.printing.ranged_to_lines.Goals as goal

pub loop-pair-preserved : goal.loop-pair-preserved
loop-pair-preserved g c =
    let view = ranged_view g.T.Words.bytes in
    let pairs = c.args.pairs.now in
    let i = c.loop-pair.pair-index in
    let old = c.loop-pair.out.items in
    let value = compact_text (pair_json (view c.pair-item.result)) in
    let rest = lines_text (map view (drop (i + 1) pairs)) in
    let here : lines_text (map view (drop i pairs)) ≡ (value ++ 10 ∷ []) ++ rest =
    ap (λ ys. lines_text (map view ys)) (drop_more pairs i c.pair-item.result c.loop-pair-test.true ∙ ap (λ y. y ∷ drop (i + 1) pairs) (sym c.pair-item.is)) in
    ap (λ b. b ++ rest) (behind old c.print_pair.new.out.items c.push.new.out.items value (10 ∷ []) c.in_ok-print_pair.ensures.grows c.in_ok-push.ensures)
    ∙ append_assoc old (value ++ 10 ∷ []) rest
    ∙ ap (λ z. old ++ z) (sym here)
    ∙ c.loop-pair.invariant

pub returns : goal.returns
returns g c =
    let view = ranged_view g.T.Words.bytes in
    let pairs = c.args.pairs.now in
    let bytes = c.loop-pair.out.items in
    let all = sym (append-nil bytes)
    ∙ ap (λ ys. bytes ++ lines_text (map view ys)) (sym (drop_all c.loop-pair.pair-index pairs c.loop-pair-test.false))
    ∙ c.loop-pair.invariant in
    IfOk-weaker c.text_of.result (λ text. string_bytes text ≡ bytes) (λ text. string_bytes text ≡ lines_text (map view pairs)) (λ text is. is ∙ all) c.text_of.ensures
