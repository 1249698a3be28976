use Rattle.std.proofs.Common.{◌∙◌, sym}
use Rattle.std.proofs.lemmas.Map.Text.{hash_map_updates_text}
use Rattle.tocmark_links.proofs.Numbers.{put-new, taken-again}
use Rattle.tocmark_links.proofs.anchors.take.Goals as goal

pub returns-in_ok-insert : goal.returns-in_ok-insert
returns-in_ok-insert c = λ slugs names.
    put-new slugs names c.args.name.now c.args.taken.now c.insert.new.self (rw c.in_ok-from_str.ensures.ok at (hash_map_updates_text _ c.args.taken.now c.insert.new.self _ c.in_ok-insert.ensures.updates))

pub returns-else-not-contains_key : goal.returns-else-not-contains_key
returns-else-not-contains_key c = λ slugs names.
    taken-again slugs names c.args.name.now c.args.taken.now (sym c.contains_key.ensures ∙ c.if-not-contains_key.false)
