use Rattle.std.proofs.Common.{◌∙◌, ◌-◌, arith, ap, drop, map, string_bytes}
use Rattle.std.proofs.lemmas.Map.Text.{hash_map_updates_text}
use Rattle.std.specs.HashMap.{get_by_text}
use Rattle.tocmark_write_renderer.specs.WriterOf.{reference_view}
use Rattle.tocmark_write_labels.specs.Defined.{definition_for}
use Rattle.tocmark_write_labels.proofs.DefinedLabels.{definition-before}
use Rattle.tocmark_write_labels.proofs.defined.first_definitions.Goals as goal

pub loop-place-preserved : goal.loop-place-preserved
loop-place-preserved c = λ q.
    definition-before c.args.defined.now (c.loop-place.place - 1) c.index-defined-place.result c.key_of-key.result (string_bytes c.in_ok-label.label) q (get_by_text c.loop-place.firsts q) (get_by_text c.insert.new.self q) (omega arith)
    c.index-defined-place.is c.key_of-key.ensures c.in_ok-label.ensures (hash_map_updates_text (string_bytes c.in_ok-label.label) c.loop-place.firsts c.insert.new.self _ c.in_ok-insert.ensures.updates q)
    (c.loop-place.invariant q ∙ ap (λ n. definition_for (map reference_view (drop n c.args.defined.now)) q) (omega arith))
