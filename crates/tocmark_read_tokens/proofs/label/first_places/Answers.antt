use Rattle.std.proofs.Common.{string_bytes, ◌-◌, ◌∙◌, arith}
use Rattle.std.proofs.lemmas.Map.Text.{hash_map_updates_text}
use Rattle.tocmark_read_tokens.proofs.Places.{first_place_at}
use Rattle.tocmark_read_tokens.proofs.label.first_places.Goals as goal

pub loop-place-preserved : goal.loop-place-preserved
loop-place-preserved c = λ q.
    hash_map_updates_text (string_bytes c.in_ok-key.key) c.loop-place.places c.insert.new.self _ c.in_ok-insert.ensures.updates q
    ∙ grind (arith, first_place_at c.args.keys.now (c.loop-place.place - 1) c.index-keys-place.result q (omega arith) c.index-keys-place.is, c.loop-place.invariant q, c.in_ok-key.ensures.cases)
