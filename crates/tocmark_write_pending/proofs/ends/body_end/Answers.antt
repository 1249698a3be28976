use Rattle.std.proofs.Common.{◌∙◌, ◌<◌, ℕ, sym, subst, drop, length, arith}
use Rattle.tocmark_write_pending.proofs.Closers.{behind-start, body-reaches}
use Rattle.tocmark_write_pending.proofs.ends.body_end.Goals as goal

pub returns-clause-start : goal.returns-clause-start
returns-clause-start c = λ es t rest are at.
    c.unwrap_or.ensures ∙ body-reaches es rest c.args.place t c.end_at.result at (c.end_at.ensures.end es are) (length c.args.ends.now) are.len

pub returns-clause-behind : goal.returns-clause-behind
returns-clause-behind c = λ es are lt.
    let P : ℕ → Type 0 = λ n. c.args.place < n in
    subst P (sym c.unwrap_or.ensures) (behind-start (drop c.args.place es) c.args.place (length c.args.ends.now) c.end_at.result (c.end_at.ensures.end es are) (omega (arith, lt, are.len)))
