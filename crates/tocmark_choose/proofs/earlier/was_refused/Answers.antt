use Rattle.std.proofs.Common.{bytes_eq, string_bytes}
use Rattle.tocmark_choose.proofs.Refused.{none-among}
use Rattle.tocmark_choose.proofs.earlier.was_refused.Goals as goal

pub returns-then-is_empty : goal.returns-then-is_empty
returns-then-is_empty c = none-among (λ t. bytes_eq c.args.text.now (string_bytes t)) c.args.refused.now.keys (c.is_empty.ensures.0 c.if-is_empty.true)
