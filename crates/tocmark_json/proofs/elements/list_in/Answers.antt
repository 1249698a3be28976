use Rattle.std.proofs.Common.{◌≡◌, ◌∙◌, ◌∷◌, Err, List, Some, ap, map, refl, sym}
use Rattle.json.specs.Lex.{tokens}
use Rattle.json.specs.Reads.{token_of}
use Rattle.json.specs.Token.{Token, begin_array}
use Rattle.serde_json.specs.View.{items_of}
use Rattle.tocmark_json.specs.Json.{pair_view}
use Rattle.tocmark_json.proofs.Taking.{list_found, none_found}
use Rattle.tocmark_json.proofs.Whole.{array_and_more, array_read, array_refused, fault_handed, none_behind, one_behind}
use Rattle.tocmark_json.proofs.elements.list_in.Goals as goal

pub returns-in_err-taken-clause-fault : goal.returns-in_err-taken-clause-fault
returns-in_err-taken-clause-fault g c =
    let text = c.args.text.now in
    let rest = c.begins_array.new.reader in
    let begun : tokens text ≡ begin_array ∷ rest = sym c.requires ∙ c.if-not-begins_array.ensures.yes refl in
    fault_handed c.from_residual.result text c.in_err-taken.field-0.0 c.from_residual.ensures.1 (λ is. array_refused text rest begun (c.in_err-taken.ensures.refused (ap Err is)))

pub returns-then-is_some-clause-fault : goal.returns-then-is_some-clause-fault
returns-then-is_some-clause-fault g c =
    let text = c.args.text.now in
    let rest = c.begins_array.new.reader in
    let begun : tokens text ≡ begin_array ∷ rest = sym c.requires ∙ c.if-not-begins_array.ensures.yes refl in
    let found = c.in_ok-taken.ensures.taken in
    let behind = one_behind token_of c.take_all.new.reader c.next.new.self c.next.result c.next.ensures.value (sym c.is_some.ensures ∙ c.if-is_some.true) in
    array_and_more text rest begun found.0 behind.0 c.next.new.self (found.1 ∙ ap (λ (r : List Token). Some (items_of found.0, r)) behind.1)

pub returns-in-Ok-clause-list : goal.returns-in-Ok-clause-list
returns-in-Ok-clause-list g c =
    let text = c.args.text.now in
    let rest = c.begins_array.new.reader in
    let begun : tokens text ≡ begin_array ∷ rest = sym c.requires ∙ c.if-not-begins_array.ensures.yes refl in
    let found = c.in_ok-taken.ensures.taken in
    let taken = c.in_ok-taken.taken in
    let over = none_behind token_of c.take_all.new.reader c.next.new.self c.next.result c.next.ensures.value (sym c.is_some.ensures ∙ c.if-is_some.false) in
    let is_read = array_read text rest begun found.0 (found.1 ∙ ap (λ (r : List Token). Some (items_of found.0, r)) over) in
    let same = c.in-Ok.ensures.list in
    list_found text found.0 is_read taken.has_ranges taken.fault (pair_view g.U.Words.bytes) taken.events c.in-Ok.list.events c.in-Ok.list.has_ranges same.0 same.1 same.2 found.2

pub returns-in-Err-clause-fault : goal.returns-in-Err-clause-fault
returns-in-Err-clause-fault g c =
    let text = c.args.text.now in
    let rest = c.begins_array.new.reader in
    let begun : tokens text ≡ begin_array ∷ rest = sym c.requires ∙ c.if-not-begins_array.ensures.yes refl in
    let found = c.in_ok-taken.ensures.taken in
    let taken = c.in_ok-taken.taken in
    let over = none_behind token_of c.take_all.new.reader c.next.new.self c.next.result c.next.ensures.value (sym c.is_some.ensures ∙ c.if-is_some.false) in
    let is_read = array_read text rest begun found.0 (found.1 ∙ ap (λ (r : List Token). Some (items_of found.0, r)) over) in
    none_found text found.0 is_read taken.has_ranges taken.fault (map (pair_view g.U.Words.bytes) taken.events.items) c.in-Err.error c.in-Err.ensures.fault found.2
