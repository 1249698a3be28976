use Rattle.std.proofs.Common.{◌≡◌, ◌∙◌, ◌+◌, ◌-◌, Some, ap, sym, length, arith}
use Rattle.std.proofs.lemmas.Result.{on_ok_weaker}
use Rattle.tocmark_spelling.specs.Kinds.{is_table}
use Rattle.tocmark_spelling.specs.Places.{with_header, with_width}
use Rattle.tocmark_write_containers.proofs.Notes.{left-by, replaced, same-at-mark}
use Rattle.tocmark_write_containers.proofs.Says.{table-found, nearest-bound, no-table, with-width-keeps}
use Rattle.tocmark_write_containers.proofs.Seen.{seen-length}
use Rattle.tocmark_write_containers.specs.KeptOf.{present, seen}
use Rattle.tocmark_write_containers.specs.Nesting.{Nesting}
use Rattle.tocmark_write_containers.specs.Outside.{outside_nearest, outside_of}
use Rattle.tocmark_write_containers.specs.declared.outside.Outside.{Outside}
use Rattle.tocmark_write_containers.proofs.containers.Containers.add_header.Goals as goal

pub returns-in-None-clause-path : goal.returns-in-None-clause-path
returns-in-None-clause-path c = no-table c.args.width c.args.self.now.path (sym (ap (λ (o : Outside). o.table) c.outside.ensures) ∙ c.in-None.is)

pub add_header-requires : goal.add_header-requires
add_header-requires c =
    let path = seen present c.self.inside.frames.items in
    let found : outside_nearest is_table path ≡ Some c.in-Some.place =
    sym (ap (λ (o : Outside). o.table) (c.outside.ensures ∙ ap (λ (r : Nesting). outside_of r.path) (sym c.self.view_is))) ∙ c.in-Some.is in
    omega (arith, nearest-bound is_table path c.in-Some.place found, seen-length present c.self.inside.frames.items)

pub invariant_of-self : goal.invariant_of-self
invariant_of-self c =
    let old = c.self.inside.frames.items in
    let left = left-by c.add_header.result (length old - 1 - c.in-Some.place) (with_width c.args.width) (seen present c.add_header.new.frames.items) (seen present old) (with-width-keeps c.args.width) c.add_header.ensures.present c.add_header.ensures.stays in
    replaced c.self.inside c.add_header.new.frames left c.add_header.ensures.original c.add_header.ensures.outside c.add_header.ensures.capacity c.self.invariant

pub returns-in-Some-clause-path : goal.returns-in-Some-clause-path
returns-in-Some-clause-path c =
    let path = seen present c.self.inside.frames.items in
    let n = length c.self.inside.frames.items - 1 - c.in-Some.place in
    let found : outside_nearest is_table path ≡ Some c.in-Some.place =
    sym (ap (λ (o : Outside). o.table) (c.outside.ensures ∙ ap (λ (r : Nesting). outside_of r.path) (sym c.self.view_is))) ∙ c.in-Some.is in
    let sum : n + c.in-Some.place + 1 ≡ length path = omega (arith, nearest-bound is_table path c.in-Some.place found, seen-length present c.self.inside.frames.items) in
    on_ok_weaker
    c.add_header.result
    (λ h. h ∙ table-found c.args.width path c.in-Some.place n found sum ∙ ap (λ (r : Nesting). with_header c.args.width r.path) c.self.view_is)
    c.add_header.ensures.present

pub returns-in-Some-clause-mark : goal.returns-in-Some-clause-mark
returns-in-Some-clause-mark c = same-at-mark c.self.inside c.add_header.new.frames c.self.inside.kept c.add_header.ensures.original ∙ ap (λ r. r.at_mark) c.self.view_is
