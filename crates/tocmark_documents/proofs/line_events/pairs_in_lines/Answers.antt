use Rattle.std.proofs.Common.{ℕ, List, [], ◌∷◌, ◌++◌, ◌∙◌, Option, Some, None, map, ap, sym, subst, rules}
use Rattle.std.proofs.lemmas.Iterator.Splits.{YieldsList-from_lines}
use Rattle.std.proofs.lemmas.List.{map-append}
use Rattle.std.proofs.lemmas.Result.{err_from_is_err_and}
use Rattle.std.specs.Borrow.{Bor}
use Rattle.std.specs.Iterator.Adapters.{enumerate_count, enumerate_source, enumerate_steps}
use Rattle.std.specs.Str.Iter.{lines_steps}
use Rattle.tocmark_event.specs.Text.{text_of}
use Rattle.tocmark_json.specs.Json.{pair_view}
use Rattle.tocmark_state.specs.Ranges.{Pair}
use Rattle.tocmark_documents.proofs.LinesPassed.{IsPassed, next_bad, none_passed, passed_all, passed_more}
use Rattle.tocmark_documents.proofs.line_events.pairs_in_lines.Goals as goal

pub loop-number-init : goal.loop-number-init
loop-number-init c =
    let it = c.into_iter-number-iterator.result in
    subst (λ (ps : List Pair). IsPassed lines_steps c.args.text.now (enumerate_source it) (enumerate_count it) ps) (ap (map (pair_view text_of)) (sym c.new-pairs.ensures.items))
    (none_passed lines_steps c.args.text.now (enumerate_source it) (enumerate_count it) (search rules) (YieldsList-from_lines {s = enumerate_source it} c.args.text.now (search rules)))

pub loop-number-preserved : goal.loop-number-preserved
loop-number-preserved c =
    let s = c.loop-number.number-iterator in
    let t = c.next.new.self in
    let step = subst (λ (r : Option (ℕ × Bor (List ℕ))). enumerate_steps lines_steps s r t) c.in-Some.is c.next.ensures.steps in
    let so_far = c.loop-number.pairs.items in
    let pair = c.in_ok-pair.pair in
    subst (λ (ps : List Pair). IsPassed lines_steps c.args.text.now (enumerate_source t) (enumerate_count t) ps) (sym (ap (map (pair_view text_of)) c.in_ok-push.ensures.items ∙ map-append (pair_view text_of) so_far (pair ∷ [])))
    (passed_more lines_steps c.args.text.now (enumerate_source s) (enumerate_source t) (enumerate_count s) (enumerate_count t) (map (pair_view text_of) so_far) c.in-Some.line (pair_view text_of pair) c.in_ok-has_ranges.has_ranges c.in_ok-has_ranges.ensures.first c.loop-number.invariant step.0 step.2 c.in_ok-pair.ensures.pair)

pub returns-clause-pairs : goal.returns-clause-pairs
returns-clause-pairs c =
    let s = c.loop-number.number-iterator in
    let t = c.next.new.self in
    let step = subst (λ (r : Option (ℕ × Bor (List ℕ))). enumerate_steps lines_steps s r t) c.in-None.is c.next.ensures.steps in
    passed_all lines_steps c.args.text.now (enumerate_source s) (enumerate_source t) (enumerate_count s) (map (pair_view text_of) c.loop-number.pairs.items) c.loop-number.invariant step.0

pub returns-in_err-pair-clause-cause : goal.returns-in_err-pair-clause-cause
returns-in_err-pair-clause-cause c =
    let p = err_from_is_err_and c.from_residual-in_err-pair.result c.from_residual-in_err-pair.ensures.1 in
    let s = c.loop-number.number-iterator in
    let t = c.next.new.self in
    let step = subst (λ (r : Option (ℕ × Bor (List ℕ))). enumerate_steps lines_steps s r t) c.in-Some.is c.next.ensures.steps in
    rw (p.1, p.2) (next_bad lines_steps c.args.text.now (enumerate_source s) (enumerate_source t) (enumerate_count s) c.in-Some.number (map (pair_view text_of) c.loop-number.pairs.items) c.in-Some.line _ c.in_ok-has_ranges.has_ranges c.in_ok-has_ranges.ensures.first c.loop-number.invariant step.0 step.1 c.in_err-pair.ensures.cause)
