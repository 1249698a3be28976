use Rattle.std.proofs.Common.{◌≡◌, ℕ, IfOk, List, map, string_bytes, subst}
use Rattle.tocmark_json.specs.Json.{located_view}
use Rattle.tocmark_json.specs.Printed.{located_lines}
use Rattle.tocmark_json.proofs.locating.located_to_lines.Goals as goal

pub returns : goal.returns
returns g c =
    subst (λ (t : List ℕ). IfOk c.indexed_to_lines.result (λ text. string_bytes text ≡ located_lines (map (located_view g.T.Words.bytes t) c.args.pairs.now))) c.in_ok-positions.ensures.text c.indexed_to_lines.ensures
