use Rattle.std.proofs.Common.{◌∙◌, List, Option, ap, is_some, option_and_then, rules, subst, sym, ℕ}
use Rattle.std.proofs.lemmas.Iterator.Splits.{YieldsList-from_lines}
use Rattle.std.specs.Borrow.{Bor}
use Rattle.std.specs.Str.Iter.{lines_steps}
use Rattle.std.specs.Str.Lines.{lines}
use Rattle.serde_json.specs.Data.{Data}
use Rattle.serde_json.specs.Find.{as_array}
use Rattle.tocmark_documents.specs.Lines.{begin_with_array}
use Rattle.tocmark_documents.proofs.LinesPassed.{first_left}
use Rattle.tocmark_documents.proofs.line_events.are_pairs.Goals as goal

pub returns-in-Ok-clause-first : goal.returns-in-Ok-clause-first
returns-in-Ok-clause-first c =
    let all = YieldsList-from_lines {s = c.lines.result} c.args.text.now c.lines.ensures.rest in
    let step = subst (λ (o : Option (Bor (List ℕ))). lines_steps c.lines.result o c.next.new.self) c.in-Some.is c.next.ensures.steps in
    let first = first_left lines_steps c.lines.result c.next.new.self c.in-Some.line (lines c.args.text.now) all step in
    c.is_array.ensures ∙ sym (ap begin_with_array first.1 ∙ ap (λ (o : Option Data). is_some (option_and_then as_array o)) c.in-Ok.ensures.value)

pub returns-in-Err-NotJson-clause-first : goal.returns-in-Err-NotJson-clause-first
returns-in-Err-NotJson-clause-first c =
    let all = YieldsList-from_lines {s = c.lines.result} c.args.text.now c.lines.ensures.rest in
    let step = subst (λ (o : Option (Bor (List ℕ))). lines_steps c.lines.result o c.next.new.self) c.in-Some.is c.next.ensures.steps in
    let first = first_left lines_steps c.lines.result c.next.new.self c.in-Some.line (lines c.args.text.now) all step in
    sym (ap begin_with_array first.1 ∙ ap (λ (o : Option Data). is_some (option_and_then as_array o)) (c.from_str.ensures.refused (search rules)))
