use Rattle.std.proofs.Common.{rules, ◌≡◌, ◌∙◌, ◌<◌, ap, nat_lt, true}
use Rattle.std.proofs.lemmas.Bool.{ltb-true}
use Rattle.std.proofs.lemmas.Result.{IfOk-weaker}
use Rattle.tocmark_write_blocks.specs.TokenRuns.{runs_in}
use Rattle.tocmark_write_blocks.proofs.RunLemmas.{by-bytes}
use Rattle.tocmark_write_blocks.proofs.token_runs.text_runs.Goals as goal

pub returns-then-is_ascii : goal.returns-then-is_ascii
returns-then-is_ascii c =
    let small : nat_lt c.args.token 128 ≡ true = search rules in
    let low : c.args.token < 128 = ltb-true c.args.token 128 small in
    IfOk-weaker c.byte_runs.result _ _
    (λ runs h. h ∙ ap (runs_in c.args.token) c.as_bytes.ensures.value ∙ by-bytes c.args.token c.args.text.now low c.utf8.text) c.byte_runs.ensures
