use Rattle.std.proofs.Common.{◌≡◌, ap, sym, ◌∙◌}
use Rattle.tocmark_json.proofs.Nodes.{view-Array}
use Rattle.tocmark_json.specs.Node.{items_view, view}
use Rattle.serde_json.specs.Data.{array, string}
use Rattle.tocmark_json.specs.Json.{listed}
use Rattle.tocmark_event.proofs.Copying.{copied-more, copied-all}
use Rattle.tocmark_json.proofs.Lists.{listed-seen}
use Rattle.tocmark_json.proofs.Refusals.{no_list_in, returned}
use Rattle.tocmark_json.proofs.reading.classes_from.Goals as goal

pub loop-item-preserved : goal.loop-item-preserved
loop-item-preserved g c =
    copied-more (λ x. string (g.U.Words.bytes x)) view c.loop-item.classes.items c.deref-item-items.result.now c.loop-item.item-index c.loop-item.invariant c.push.new.self.items c.in_ok-text_from.field-0 c.item-item.result c.loop-item-test.true c.item-item.is c.in_ok-push.ensures.items (sym c.in_ok-text_from.ensures.read)

pub returns-clause-read : goal.returns-clause-read
returns-clause-read g c =
    ap view c.in-Array.is ∙ view-Array c.in-Array.items ∙ ap (λ vs. array (items_view vs)) (sym c.deref-item-items.ensures.value) ∙ listed-seen string g.U.Words.bytes c.deref-item-items.result.now c.loop-item.classes.items (sym (copied-all (λ x. string (g.U.Words.bytes x)) view c.loop-item.classes.items c.deref-item-items.result.now c.loop-item.item-index c.loop-item.invariant c.loop-item-test.false))

pub returns-in_err-text_from-clause-refused : goal.returns-in_err-text_from-clause-refused
returns-in_err-text_from-clause-refused g c =
    let v = view c.args.value.now in
    let vs = c.deref-item-items.result.now in
    let same : v ≡ array (items_view vs) = ap view c.in-Array.is ∙ view-Array c.in-Array.items ∙ ap (λ vs. array (items_view vs)) (sym c.deref-item-items.ensures.value) in
    returned c.from_residual.result c.in_err-text_from.field-0.0 c.from_residual.ensures.1 string (listed string) (view c.item-item.result) v (no_list_in string v vs same c.loop-item.item-index c.item-item.result c.loop-item-test.true c.item-item.is) c.in_err-text_from.ensures.refused
