use Rattle.std.proofs.Common.{◌∙◌, ◌-◌, arith, ap, drop, map}
use Rattle.std.specs.HashMap.{get_by_text}
use Rattle.std.proofs.lemmas.Map.Text.{hash_map_updates_text}
use Rattle.tocmark_links.specs.Renamed.{place_from}
use Rattle.tocmark_links.proofs.Renaming.{one-before}
use Rattle.tocmark_links.proofs.renamed.places.Goals as goal

pub loop-place-preserved : goal.loop-place-preserved
loop-place-preserved c = λ q.
    one-before c.args.names.now (c.loop-place.place - 1) _ q (get_by_text c.loop-place.places q) (get_by_text c.insert.new.self q) (omega arith) (rw c.in_ok-from_str.ensures.ok at (hash_map_updates_text _ c.loop-place.places c.insert.new.self _ c.in_ok-insert.ensures.updates q)) (c.loop-place.invariant q ∙ ap (λ n. place_from n (map (λ n. n.now) (drop n c.args.names.now)) q) (omega arith))
