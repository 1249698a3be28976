use Rattle.std.proofs.Common.{rules, ◌≡◌, ◌<◌, map, nat_lt, true}
use Rattle.std.proofs.lemmas.Bool.{ltb-true}
use Rattle.tocmark_spelling.specs.Buffered.{buffered_view}
use Rattle.tocmark_write_blocks.proofs.Silent.{silent-runs}
use Rattle.tocmark_write_blocks.proofs.raw_facts.has_no_runs.Goals as goal

pub returns-then-is_ascii : goal.returns-then-is_ascii
returns-then-is_ascii c =
    let small : nat_lt c.args.token 128 ≡ true = search rules in
    let low : c.args.token < 128 = ltb-true c.args.token 128 small in
    λ is. silent-runs c.args.token (map buffered_view c.args.events.now) low (c.are_without.ensures is)
