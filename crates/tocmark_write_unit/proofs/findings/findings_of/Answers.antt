use Rattle.std.proofs.Common.{◌∙◌}
use Rattle.tocmark_write_unit.proofs.findings.findings_of.Goals as goal

pub returns : goal.returns
returns g c =
    let census = c.census_of-census.ensures in
    record {
      census = census;
      facts = λ asks. c.in_ok-facts.ensures (census.bodies ∙ asks);
      raw = c.in_ok-raw.ensures;
      named = c.in_ok-named.ensures;
      emphasis = λ has. c.in_ok-emphasis.ensures (census.emphasis ∙ has);
    }
