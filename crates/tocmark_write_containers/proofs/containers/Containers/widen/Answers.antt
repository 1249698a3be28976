use Rattle.std.proofs.Common.{◌≡◌, ◌∙◌, ◌+◌, ◌-◌, Some, ap, sym, length, arith}
use Rattle.std.proofs.lemmas.Result.{on_ok_weaker}
use Rattle.tocmark_spelling.specs.Kinds.{is_cell}
use Rattle.tocmark_spelling.specs.Places.{wider, widened}
use Rattle.tocmark_write_containers.proofs.Notes.{left-by, replaced, same-at-mark}
use Rattle.tocmark_write_containers.proofs.Says.{cell-found, nearest-bound, no-cell, wider-keeps}
use Rattle.tocmark_write_containers.proofs.Seen.{seen-length}
use Rattle.tocmark_write_containers.specs.KeptOf.{present, seen}
use Rattle.tocmark_write_containers.specs.Nesting.{Nesting}
use Rattle.tocmark_write_containers.specs.Outside.{outside_nearest, outside_of}
use Rattle.tocmark_write_containers.specs.declared.outside.Outside.{Outside}
use Rattle.tocmark_write_containers.proofs.containers.Containers.widen.Goals as goal

pub returns-in-None-clause-path : goal.returns-in-None-clause-path
returns-in-None-clause-path c = no-cell c.args.characters c.args.self.now.path (sym (ap (λ (o : Outside). o.cell) c.outside.ensures) ∙ c.in-None.is)

pub widen-requires : goal.widen-requires
widen-requires c =
    let path = seen present c.self.inside.frames.items in
    let found : outside_nearest is_cell path ≡ Some c.in-Some.place =
    sym (ap (λ (o : Outside). o.cell) (c.outside.ensures ∙ ap (λ (r : Nesting). outside_of r.path) (sym c.self.view_is))) ∙ c.in-Some.is in
    omega (arith, nearest-bound is_cell path c.in-Some.place found, seen-length present c.self.inside.frames.items)

pub invariant_of-self : goal.invariant_of-self
invariant_of-self c =
    let old = c.self.inside.frames.items in
    let left = left-by c.widen.result (length old - 1 - c.in-Some.place) (wider c.args.characters) (seen present c.widen.new.frames.items) (seen present old) (wider-keeps c.args.characters) c.widen.ensures.present c.widen.ensures.stays in
    replaced c.self.inside c.widen.new.frames left c.widen.ensures.original c.widen.ensures.outside c.widen.ensures.capacity c.self.invariant

pub returns-in-Some-clause-path : goal.returns-in-Some-clause-path
returns-in-Some-clause-path c =
    let path = seen present c.self.inside.frames.items in
    let n = length c.self.inside.frames.items - 1 - c.in-Some.place in
    let found : outside_nearest is_cell path ≡ Some c.in-Some.place =
    sym (ap (λ (o : Outside). o.cell) (c.outside.ensures ∙ ap (λ (r : Nesting). outside_of r.path) (sym c.self.view_is))) ∙ c.in-Some.is in
    let sum : n + c.in-Some.place + 1 ≡ length path = omega (arith, nearest-bound is_cell path c.in-Some.place found, seen-length present c.self.inside.frames.items) in
    on_ok_weaker
    c.widen.result
    (λ h. h ∙ cell-found c.args.characters path c.in-Some.place n found sum ∙ ap (λ (r : Nesting). widened c.args.characters r.path) c.self.view_is)
    c.widen.ensures.present

pub returns-in-Some-clause-mark : goal.returns-in-Some-clause-mark
returns-in-Some-clause-mark c = same-at-mark c.self.inside c.widen.new.frames c.self.inside.kept c.widen.ensures.original ∙ ap (λ r. r.at_mark) c.self.view_is
