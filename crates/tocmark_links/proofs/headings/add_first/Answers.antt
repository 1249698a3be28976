use Rattle.std.proofs.Common.{◌∙◌, sym}
use Rattle.std.proofs.lemmas.Map.Text.{hash_map_updates_text}
use Rattle.tocmark_links.proofs.Firsts.{first-kept, first-new}
use Rattle.tocmark_links.proofs.headings.add_first.Goals as goal

pub returns-in_ok-insert : goal.returns-in_ok-insert
returns-in_ok-insert c = λ q.
    first-new c.args.name.now c.args.place c.args.firsts.now c.insert.new.self (sym c.contains_key.ensures ∙ c.if-not-contains_key.true) (rw c.in_ok-from_str.ensures.ok at (hash_map_updates_text _ c.args.firsts.now c.insert.new.self _ c.in_ok-insert.ensures.updates)) q

pub returns-else-not-contains_key : goal.returns-else-not-contains_key
returns-else-not-contains_key c = λ q.
    first-kept c.args.name.now c.args.place c.args.firsts.now (sym c.contains_key.ensures ∙ c.if-not-contains_key.false) q
