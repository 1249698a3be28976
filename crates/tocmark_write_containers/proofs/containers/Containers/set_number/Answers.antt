use Rattle.std.proofs.Common.{◌∙◌, ap}
use Rattle.tocmark_write_containers.proofs.Notes.{left-renumbered, replaced, same-at-mark}
use Rattle.tocmark_write_containers.specs.KeptOf.{present, seen}
use Rattle.tocmark_write_containers.specs.Nesting.{Nesting, is_counted, renumbered}
use Rattle.tocmark_write_containers.proofs.containers.Containers.set_number.Goals as goal

pub invariant_of-self : goal.invariant_of-self
invariant_of-self c =
    let old = seen present c.self.inside.frames.items in
    let left = left-renumbered c.args.number (seen present c.set_number.new.frames.items) old (ap (λ (r : Nesting). is_counted r.path) c.self.view_is ∙ c.requires) c.set_number.ensures.present in
    replaced c.self.inside c.set_number.new.frames left c.set_number.ensures.original c.set_number.ensures.outside c.set_number.ensures.capacity c.self.invariant

pub returns-clause-path : goal.returns-clause-path
returns-clause-path c = c.set_number.ensures.present ∙ ap (λ (r : Nesting). renumbered c.args.number r.path) c.self.view_is

pub returns-clause-mark : goal.returns-clause-mark
returns-clause-mark c = same-at-mark c.self.inside c.set_number.new.frames c.self.inside.kept c.set_number.ensures.original ∙ ap (λ r. r.at_mark) c.self.view_is
