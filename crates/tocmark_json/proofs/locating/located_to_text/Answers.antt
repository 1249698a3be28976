use Rattle.std.proofs.Common.{◌≡◌, ℕ, IfOk, List, Some, map, string_bytes, subst}
use Rattle.serde_json.specs.Read.{read}
use Rattle.serde_json.specs.Written.{IsInOrder, compact_text}
use Rattle.tocmark_json.specs.Json.{listed, located_json, located_view}
use Rattle.tocmark_json.proofs.locating.located_to_text.Goals as goal

pub returns-clause-text : goal.returns-clause-text
returns-clause-text g c =
    subst (λ (t : List ℕ). IfOk c.indexed_to_text.result (λ text. string_bytes text ≡ compact_text (listed located_json (map (located_view g.T.Words.bytes t) c.args.pairs.now)))) c.in_ok-positions.ensures.text c.indexed_to_text.ensures.text

pub returns-clause-order : goal.returns-clause-order
returns-clause-order g c =
    subst (λ (t : List ℕ). IfOk c.indexed_to_text.result (λ text. IsInOrder (string_bytes text) (listed located_json (map (located_view g.T.Words.bytes t) c.args.pairs.now)))) c.in_ok-positions.ensures.text c.indexed_to_text.ensures.order

pub returns-clause-reads_back : goal.returns-clause-reads_back
returns-clause-reads_back g c =
    subst (λ (t : List ℕ). IfOk c.indexed_to_text.result (λ text. read (string_bytes text) ≡ Some (listed located_json (map (located_view g.T.Words.bytes t) c.args.pairs.now)))) c.in_ok-positions.ensures.text c.indexed_to_text.ensures.reads_back
