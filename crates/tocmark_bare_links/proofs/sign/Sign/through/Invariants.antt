use Rattle.std.proofs.Common.{◌≡◌, take}
use Rattle.std.specs.List.{fold}
use Rattle.tocmark_bare_links.specs.Signs.{sign_step}
use Rattle.tocmark_bare_links.proofs.sign.Sign.through.Given as goal

abbrev pub invariant-loop-byte : goal.invariant-loop-byte
invariant-loop-byte l = l.sign ≡ fold sign_step l.fn.self (take l.byte-index l.text)
