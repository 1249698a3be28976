use Rattle.std.proofs.Common.{[], ◌++◌, ◌+◌, ap, append-nil, arith, rules, sym, ◌∙◌}
use Rattle.json.specs.Print.{escape}
use Rattle.json.proofs.Printed.Strings.{escape_to_stop, escape_at, escape_end}
use Rattle.json.proofs.Printed.Room.{moved}
use Rattle.tocmark_json.proofs.escaping.push_escaped.Goals as goal

pub loop-out-init : goal.loop-out-init
loop-out-init c = (ap (λ l. c.args.out.now.items ++ l) (append-nil (escape c.args.text.now)), omega arith)

pub returns-then-stop-text : goal.returns-then-stop-text
returns-then-stop-text c =
    let text = c.args.text.now in
    let stop = c.plain_end-stop.result in
    let mid = moved _ _ _ _ _ _ c.in_ok-push.ensures (escape_to_stop text c.loop-out.at stop [] c.plain_end-stop.ensures.value) c.loop-out.invariant.0 in
    sym (append-nil _) ∙ ap (λ l. c.push.new.out.items ++ l) (sym (escape_end text stop [] (search rules))) ∙ mid

pub loop-out-preserved : goal.loop-out-preserved
loop-out-preserved c =
    let text = c.args.text.now in
    let stop = c.plain_end-stop.result in
    let mid = moved _ _ _ _ _ _ c.in_ok-push.ensures (escape_to_stop text c.loop-out.at stop [] c.plain_end-stop.ensures.value) c.loop-out.invariant.0 in
    (moved _ _ _ _ _ _ c.in_ok-push_escape.ensures (escape_at text stop [] (search rules)) mid, omega arith)
