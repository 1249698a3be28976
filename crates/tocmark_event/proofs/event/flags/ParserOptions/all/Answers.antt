use Rattle.std.proofs.Common.{ℕ, ap}
use Rattle.bitflags.specs.Sets.{known_from}
use Rattle.tocmark_event.specs.declared.event.flags.ParserOptions.{ParserOptions}
use Rattle.tocmark_event.proofs.event.flags.ParserOptions.all.Goals as goal

pub returns : goal.returns
unfolding known_from
returns c =
    let set : ℕ → ParserOptions = λ n. record { 0 = n } in
    ap set (c.all.ensures tt)
