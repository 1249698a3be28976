use Rattle.std.proofs.Common.{◌≡◌, ◌∙◌, ◌-◌, ◌<◌, [], ◌∷◌, ◌++◌, None, Some, ap, arith, false, length, map, subst, sym}
use Rattle.json.specs.Json.{after_end_array, items, parse_map, value}
use Rattle.serde_json.specs.Read.{converted, of_items}
use Rattle.tocmark_json.specs.Elements.{AreElements}
use Rattle.tocmark_json.specs.Json.{pair_view}
use Rattle.tocmark_json.specs.Node.{view}
use Rattle.tocmark_json.proofs.Taking.{nothing}
use Rattle.tocmark_json.proofs.Turns.{item_read, item_refused, items_before, items_before-no_items, items_over, none_before, one_more_item}
use Rattle.tocmark_json.proofs.elements.take_all.Goals as goal

pub elements-init : goal.elements-init
elements-init g c =
    let all = converted of_items (items (value 126) (length c.args.reader.now) c.args.reader.now) in
    (length c.args.reader.now, omega arith, [], none_before all, subst (λ xs. AreElements false [] (map (pair_view g.U.Words.bytes) xs)) (sym c.new.ensures.items) (nothing false))

pub returns-in_err-node-clause-refused : goal.returns-in_err-node-clause-refused
returns-in_err-node-clause-refused g c refused =
    let l = c.elements in
    let n = l.invariant.0 in
    let ds = l.invariant.2 in
    let going : (after_end_array l.reader ≡ None) × (c.take_end_array.new.self ≡ l.reader) = grind arith in
    l.invariant.3 ∙ ap (parse_map (items_before ds)) (item_refused (value 126) n l.reader going.0 (rw (← going.1) (c.read.ensures.err (grind arith))))

pub elements-preserved : goal.elements-preserved
elements-preserved g c =
    let p = value 126 in
    let l = c.elements in
    let n = l.invariant.0 in
    let ds = l.invariant.2 in
    let going : (after_end_array l.reader ≡ None) × (c.take_end_array.new.self ≡ l.reader) = grind arith in
    let done = c.in_ok-node.ensures in
    let d = view c.in_ok-node.node in
    let r = c.read.new.reader in
    let less : length r < length l.reader = rw (← going.1) done.shorter in
    let turn = item_read p n l.reader r d (omega (arith, l.invariant.1)) going.0 (rw (← going.1) done.ok) in (
      n - 1,
      omega (arith, l.invariant.1),
      ds ++ d ∷ [],
      l.invariant.3 ∙ ap (parse_map (items_before ds)) turn ∙ one_more_item ds d _,
      c.in_ok-is_taken.ensures ds l.invariant.4,
    )

pub returns-clause-taken : goal.returns-clause-taken
returns-clause-taken g c =
    let l = c.elements in
    let n = l.invariant.0 in
    let ds = l.invariant.2 in
    let r = c.take_end_array.new.self in
    (ds, l.invariant.3 ∙ ap (parse_map (items_before ds)) (items_over (value 126) n l.reader r l.invariant.1 (grind arith)) ∙ ap (λ is. Some (is, r)) (items_before-no_items ds), l.invariant.4)
