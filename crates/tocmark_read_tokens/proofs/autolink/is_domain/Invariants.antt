use Rattle.std.proofs.Common.{◌≡◌, take}
use Rattle.std.specs.List.{fold}
use Rattle.tocmark_read_tokens.specs.Autolink.{domain_step, domain_start}
use Rattle.tocmark_read_tokens.proofs.autolink.is_domain.Given as goal

abbrev pub invariant-loop-byte : goal.invariant-loop-byte
invariant-loop-byte l = l.domain ≡ fold domain_step domain_start (take l.byte-index l.text)
