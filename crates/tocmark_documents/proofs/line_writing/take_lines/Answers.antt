use Rattle.std.proofs.Common.{ℕ, List, [], ◌∷◌, ◌++◌, Option, Some, None, sym, subst, rules, string_bytes}
use Rattle.std.proofs.lemmas.Iterator.Splits.{YieldsList-from_lines}
use Rattle.std.proofs.lemmas.List.{map-append}
use Rattle.std.proofs.lemmas.Result.{err_from_is_err_and}
use Rattle.std.specs.Borrow.{Bor}
use Rattle.std.specs.Iterator.Adapters.{enumerate_count, enumerate_source, enumerate_steps}
use Rattle.std.specs.Str.Iter.{lines_steps}
use Rattle.tocmark_event.specs.Text.{text_of}
use Rattle.tocmark_json.specs.Json.{pair_view}
use Rattle.tocmark_state.specs.Ranges.{Pair}
use Rattle.tocmark_documents.specs.Interchange.{in_source, kept}
use Rattle.tocmark_documents.specs.LineWriting.{HasTaken}
use Rattle.tocmark_documents.proofs.LinesPassed.{next_bad, none_passed, passed_all, passed_more}
use Rattle.tocmark_documents.proofs.line_writing.take_lines.Goals as goal

pub loop-number-init : goal.loop-number-init
loop-number-init c =
    let it = c.into_iter-number-iterator.result in
    ([], none_passed lines_steps c.args.text.now (enumerate_source it) (enumerate_count it) (search rules) (YieldsList-from_lines {s = enumerate_source it} c.args.text.now (search rules)), λ options flags h. h)

pub loop-number-preserved : goal.loop-number-preserved
loop-number-preserved c =
    let s = c.loop-number.number-iterator in
    let t = c.next.new.self in
    let step = subst (λ (r : Option (ℕ × Bor (List ℕ))). enumerate_steps lines_steps s r t) c.in-Some.is c.next.ensures.steps in
    let i = c.loop-number.invariant in
    let pair = pair_view text_of c.in_ok-pair.pair in (
      i.0 ++ pair ∷ [],
      passed_more lines_steps c.args.text.now (enumerate_source s) (enumerate_source t) (enumerate_count s) (enumerate_count t) i.0 c.in-Some.line pair c.in_ok-has_ranges.has_ranges c.in_ok-has_ranges.ensures.first i.1 step.0 step.2 c.in_ok-pair.ensures.pair,
      λ options flags h.
          subst (λ (ps : List Pair). HasTaken options flags c.args.source.now ps c.take_placed-taken.new.state (string_bytes c.take_placed-taken.new.output)) (sym (map-append (λ (p : Pair). (p.0, kept c.args.has_source p.1)) i.0 (pair ∷ [])))
          (c.in_ok-taken.ensures options flags (in_source c.args.has_source i.0) (i.2 options flags h)),
    )

pub returns-clause-taken : goal.returns-clause-taken
returns-clause-taken c = λ options flags h.
    let s = c.loop-number.number-iterator in
    let t = c.next.new.self in
    let step = subst (λ (r : Option (ℕ × Bor (List ℕ))). enumerate_steps lines_steps s r t) c.in-None.is c.next.ensures.steps in
    let i = c.loop-number.invariant in
    record {
      pairs = i.0;
      are_lines = passed_all lines_steps c.args.text.now (enumerate_source s) (enumerate_source t) (enumerate_count s) i.0 i.1 step.0;
      has_taken = i.2 options flags h;
    }

pub returns-in_err-pair-clause-stop : goal.returns-in_err-pair-clause-stop
returns-in_err-pair-clause-stop c =
    let p = err_from_is_err_and c.from_residual-in_err-pair.result c.from_residual-in_err-pair.ensures.1 in
    let s = c.loop-number.number-iterator in
    let t = c.next.new.self in
    let step = subst (λ (r : Option (ℕ × Bor (List ℕ))). enumerate_steps lines_steps s r t) c.in-Some.is c.next.ensures.steps in
    let i = c.loop-number.invariant in
    rw (p.1, p.2) (next_bad lines_steps c.args.text.now (enumerate_source s) (enumerate_source t) (enumerate_count s) c.in-Some.number i.0 c.in-Some.line _ c.in_ok-has_ranges.has_ranges c.in_ok-has_ranges.ensures.first i.1 step.0 step.1 c.in_err-pair.ensures.cause)
