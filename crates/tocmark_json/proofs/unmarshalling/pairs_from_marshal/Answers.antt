use Rattle.std.proofs.Common.{◌≡◌, ◌∙◌, ◌%◌, ◌/◌, ◌≤◌, ◌<◌, [], ◌∷◌, ap, arith, length, subst, sym}
use Rattle.std.proofs.lemmas.List.{length-append}
use Rattle.tocmark_json.specs.Json.{pair_view}
use Rattle.tocmark_json.specs.Unmarshal.{IsDumpFault, placed, placed_json}
use Rattle.tocmark_json.specs.declared.fault.ReadError.{ReadError}
use Rattle.tocmark_json.proofs.Placed.{is_nil, list_dumped, not_nil, wrong_end, wrong_event}
use Rattle.tocmark_json.proofs.Unmarshalled.{values_begun, values_pushed}
use Rattle.tocmark_json.proofs.unmarshalling.pairs_from_marshal.Goals as goal

pub loop-alloc-init : goal.loop-alloc-init
loop-alloc-init g c =
    (values_begun (λ p. placed_json (pair_view g.U.Words.bytes p)) placed c.new-pairs.result.items c.list_length.new.self.rest.now c.new-pairs.ensures.items, grind (arith, c.new-pairs.ensures.items))

pub loop-alloc-preserved : goal.loop-alloc-preserved
loop-alloc-preserved g c =
    let l = c.loop-alloc in
    let less : c.len.result < c.in-Some.values / 3 = c.loop-alloc-test.true in
    let longer = ap length c.in_ok-add-in-Ok.ensures ∙ length-append l.pairs.items (c.in-Ok.pair ∷ []) in (
      values_pushed (λ p. placed_json (pair_view g.U.Words.bytes p)) placed l.pairs.items c.add.new.list.items c.in-Ok.pair c.list_length.new.self.rest.now l.dumped.rest.now c.placed.new.dumped.rest.now c.in_ok-add-in-Ok.ensures l.invariant.0 c.in-Ok.ensures.read,
      omega (arith, less, longer, c.len.ensures, l.pairs.ok),
    )

pub returns-in-Err-clause-fault : goal.returns-in-Err-clause-fault
returns-in-Err-clause-fault g c =
    let l = c.loop-alloc in
    let number = c.in-Some.values in
    let threes : number % 3 ≡ 0 = c.if-values-ne0.false in
    let less : c.len.result < number / 3 = c.loop-alloc-test.true in
    let at : c.len-in-Err.result ≡ length l.pairs.items = omega (arith, c.len-in-Err.ensures, l.pairs.ok) in
    subst (λ (e : ReadError). IsDumpFault c.args.bytes.now e) (sym c.fault_at.ensures)
    (wrong_event (pair_view g.U.Words.bytes) c.args.bytes.now c.list_length.new.self.rest.now l.dumped.rest.now number l.pairs.items c.in-Some.ensures.read threes l.invariant.0 c.len-in-Err.result at (omega (arith, less, c.len.ensures, c.len-in-Err.ensures)) c.in-Err.fault c.in-Err.ensures.refused)

pub returns-then-not-is_empty-clause-fault : goal.returns-then-not-is_empty-clause-fault
returns-then-not-is_empty-clause-fault g c =
    let l = c.loop-alloc in
    let number = c.in-Some.values in
    let threes : number % 3 ≡ 0 = c.if-values-ne0.false in
    let high : number / 3 ≤ c.len.result = c.loop-alloc-test.false in
    let count : c.len-then-not-is_empty.result ≡ length l.pairs.items = omega (arith, c.len-then-not-is_empty.ensures, l.pairs.ok) in
    wrong_end (pair_view g.U.Words.bytes) c.args.bytes.now c.list_length.new.self.rest.now l.dumped.rest.now number l.pairs.items c.in-Some.ensures.read threes l.invariant.0 c.len-then-not-is_empty.result count (omega (arith, count, l.invariant.1)) (omega (arith, high, c.len.ensures, c.len-then-not-is_empty.ensures)) (not_nil l.dumped.rest.now c.is_empty.result c.is_empty.ensures c.if-not-is_empty.true) _ _ c.fault_at-then-not-is_empty.result c.fault_at-then-not-is_empty.ensures

pub returns-clause-pairs : goal.returns-clause-pairs
returns-clause-pairs g c =
    let l = c.loop-alloc in
    let number = c.in-Some.values in
    let threes : number % 3 ≡ 0 = c.if-values-ne0.false in
    let high : number / 3 ≤ c.len.result = c.loop-alloc-test.false in
    list_dumped (pair_view g.U.Words.bytes) c.args.bytes.now c.list_length.new.self.rest.now l.dumped.rest.now number l.pairs.items c.in-Some.ensures.read threes l.invariant.0 l.invariant.1 (omega (arith, high, c.len.ensures, l.pairs.ok)) (is_nil l.dumped.rest.now c.is_empty.result c.is_empty.ensures c.if-not-is_empty.false)
