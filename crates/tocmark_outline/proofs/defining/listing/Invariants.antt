use Rattle.std.proofs.Common.{◌≡◌, ◌∷◌, [], flat_map, map, take}
use Rattle.json.specs.Token.{begin_array}
use Rattle.tocmark_outline.specs.Defining.{definition_tokens, listed_view}
use Rattle.tocmark_outline.proofs.defining.listing.Given as goal

abbrev pub invariant-loop-it : goal.invariant-loop-it
invariant-loop-it l = record {
  tokens : l.writer.tokens ≡ begin_array ∷ flat_map definition_tokens (map listed_view (take l.it-index l.all));
  before : l.writer.before ≡ [];
}
