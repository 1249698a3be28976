use Rattle.std.proofs.Common.{◌≡◌, ℕ, List, drop, map}
use Rattle.std.specs.HashMap.{get_by_text}
use Rattle.std.specs.Option.{option_map}
use Rattle.tocmark_write_renderer.specs.WriterOf.{reference_view}
use Rattle.tocmark_write_labels.specs.Defined.{definition_for}
use Rattle.tocmark_write_labels.specs.DefinitionsOf.{key_view}
use Rattle.tocmark_write_labels.proofs.defined.first_definitions.Given as goal

abbrev pub invariant-loop-place : goal.invariant-loop-place
invariant-loop-place l = (q : List ℕ) → option_map key_view (get_by_text l.firsts q) ≡ definition_for (map reference_view (drop l.place l.defined)) q
