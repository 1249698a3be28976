use Rattle.std.proofs.Common.{rules, ◌≤◌, length}
use Rattle.tocmark_read_inlines.specs.Scan.{scan}
use Rattle.tocmark_read_inlines.proofs.Settled.{none_behind}
use Rattle.tocmark_read_inlines.proofs.scan.Scanner.settle.Goals as goal

pub returns-else-count-len : goal.returns-else-count-len
returns-else-count-len c =
    let few : length c.args.self.now.runs.items ≤ c.args.count = search rules in
    none_behind c.args.count (scan c.args.self.now) few
