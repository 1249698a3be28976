use Rattle.std.proofs.Common.{refl}
use Rattle.tocmark_json.specs.Json.{pair_view}
use Rattle.tocmark_json.specs.Node.{view}
use Rattle.tocmark_json.proofs.Placed.{no_event, no_range, nothing, placed_read, returned_part}
use Rattle.tocmark_json.proofs.unmarshalling.placed.Goals as goal

pub returns-in_default-clause-refused : goal.returns-in_default-clause-refused
returns-in_default-clause-refused g c =
    let bytes = c.args.dumped.now.rest.now in
    nothing bytes (no_range bytes c.in_default.ensures.none)

pub returns-in_err-node-clause-refused : goal.returns-in_err-node-clause-refused
returns-in_err-node-clause-refused g c =
    returned_part c.args.dumped.now.rest.now c.in-Some.range c.range.new.self.rest.now c.in-Some.ensures.read c.from_residual.result c.in_err-node.field-0.0 c.from_residual.ensures.1 c.in_err-node.ensures.refused

pub returns-in-Ok-clause-read : goal.returns-in-Ok-clause-read
returns-in-Ok-clause-read g c =
    placed_read c.args.dumped.now.rest.now c.in-Some.range c.range.new.self.rest.now c.in-Some.ensures.read (view c.in_ok-node.node) c.value.new.dumped.rest.now c.in_ok-node.ensures.read (pair_view g.U.Words.bytes (c.in-Ok.event, c.in-Some.range)) refl c.in-Ok.ensures.read

pub returns-in-Err-clause-refused : goal.returns-in-Err-clause-refused
returns-in-Err-clause-refused g c =
    no_event c.args.dumped.now.rest.now c.in-Some.range c.range.new.self.rest.now c.in-Some.ensures.read (view c.in_ok-node.node) c.value.new.dumped.rest.now c.in_ok-node.ensures.read c.in-Err.fault c.in-Err.ensures.refused
