use Rattle.std.proofs.Common.{◌∙◌, map, rules, subst, sym}
use Rattle.tocmark_json.specs.Elements.{RefusesElement}
use Rattle.tocmark_json.specs.Json.{pair_view}
use Rattle.tocmark_json.specs.Node.{view}
use Rattle.tocmark_json.specs.declared.fault.Fault.{Fault}
use Rattle.tocmark_json.proofs.Taking.{passed_over, refused_more, taken_more}
use Rattle.tocmark_json.proofs.elements.take.Goals as goal

pub returns-then-is_some : goal.returns-then-is_some
returns-then-is_some g c ds h =
    let old = c.args.taken.now in
    passed_over old.has_ranges old.fault ds (view c.args.node.now) (map (pair_view g.U.Words.bytes) old.events.items) (sym c.is_some.ensures ∙ c.if-is_some.true) h

pub returns-in_ok-push-in-Ok : goal.returns-in_ok-push-in-Ok
returns-in_ok-push-in-Ok g c ds h =
    let old = c.args.taken.now in
    let none = sym c.is_some.ensures ∙ c.if-is_some.false in
    taken_more (pair_view g.U.Words.bytes) old.events.items old.has_ranges c.are_pairs-has_ranges.result c.are_pairs-has_ranges.ensures.further old.fault none c.push.new.self.items c.in-Ok.event c.in_ok-push-in-Ok.ensures.items (view c.args.node.now) c.in-Ok.ensures.read ds h

pub returns-in-Err-Wanted : goal.returns-in-Err-Wanted
returns-in-Err-Wanted g c ds h =
    let old = c.args.taken.now in
    let none = sym c.is_some.ensures ∙ c.if-is_some.false in
    refused_more (pair_view g.U.Words.bytes) old.events.items old.has_ranges c.are_pairs-has_ranges.result c.are_pairs-has_ranges.ensures.further old.fault none c.len-index.result (search rules) c.in-Err-Wanted.key c.in-Err-Wanted.wanted (view c.args.node.now) c.are_pairs-has_ranges.ensures.first (subst (λ (f : Fault). RefusesElement c.are_pairs-has_ranges.result (view c.args.node.now) f) c.in-Err-Wanted.field-0-is c.in-Err-Wanted.ensures.refused) ds h
