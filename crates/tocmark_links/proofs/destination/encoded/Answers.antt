use Rattle.std.proofs.Common.{refl, arith}
use Rattle.std.proofs.lemmas.List.Elements.{All-from_get_or}
use Rattle.percent_encoding.proofs.PercentLemmas.{round_trip, IsByte}
use Rattle.percent_encoding.specs.AsciiSet.{should_percent_encode}
use Rattle.tocmark_links.proofs.Cutting.{plain-text}
use Rattle.tocmark_links.proofs.destination.encoded.Goals as goal

pub returns-clause-path : goal.returns-clause-path
returns-clause-path c =
    let small = All-from_get_or IsByte c.args.path.now 0 (λ i within. omega (arith, c.type_inv.path i)) in
    rw (c.in_ok-append_to.ensures.ok, c.new-text.ensures.bytes, c.utf8_percent_encode.ensures.text) (round_trip _ c.args.path.now refl small)

pub returns-clause-plain : goal.returns-clause-plain
unfolding should_percent_encode
returns-clause-plain c =
    rw (c.in_ok-append_to.ensures.ok, c.new-text.ensures.bytes, c.utf8_percent_encode.ensures.text) (plain-text _ c.args.path.now refl refl)
