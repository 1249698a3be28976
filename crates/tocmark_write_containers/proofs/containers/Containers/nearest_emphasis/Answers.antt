use Rattle.std.proofs.Common.{◌≡◌, ◌∙◌, Some, ap, sym, arith}
use Rattle.tocmark_spelling.specs.Kinds.{is_emphasis}
use Rattle.tocmark_spelling.specs.Places.{nearest}
use Rattle.tocmark_write_containers.proofs.Says.{nearest-bound, nearest-found, no-nearest}
use Rattle.tocmark_write_containers.proofs.Seen.{seen-length}
use Rattle.tocmark_write_containers.specs.KeptOf.{present, seen}
use Rattle.tocmark_write_containers.specs.Nesting.{Nesting}
use Rattle.tocmark_write_containers.specs.Outside.{outside_nearest, outside_of}
use Rattle.tocmark_write_containers.specs.declared.outside.Outside.{Outside}
use Rattle.tocmark_write_containers.proofs.containers.Containers.nearest_emphasis.Goals as goal

pub index-requires : goal.index-requires
index-requires c =
    let path = seen present c.self.inside.frames.items in
    let found : outside_nearest is_emphasis path ≡ Some c.in-Some.place =
    sym (ap (λ (o : Outside). o.emphasis) (c.outside.ensures ∙ ap (λ (r : Nesting). outside_of r.path) (sym c.self.view_is))) ∙ c.in-Some.is in
    omega (arith, nearest-bound is_emphasis path c.in-Some.place found, seen-length present c.self.inside.frames.items, c.self.inside.frames.ok.0)

pub returns-in-Some : goal.returns-in-Some
returns-in-Some c =
    let path = seen present c.self.inside.frames.items in
    let found : outside_nearest is_emphasis path ≡ Some c.in-Some.place =
    sym (ap (λ (o : Outside). o.emphasis) (c.outside.ensures ∙ ap (λ (r : Nesting). outside_of r.path) (sym c.self.view_is))) ∙ c.in-Some.is in
    nearest-found is_emphasis c.self.inside.frames.items c.in-Some.place c.index.result.now found c.index.ensures
    ∙ ap (λ (r : Nesting). nearest is_emphasis r.path) c.self.view_is

pub returns-in-None : goal.returns-in-None
returns-in-None c = no-nearest is_emphasis c.args.self.now.path (sym (ap (λ (o : Outside). o.emphasis) c.outside.ensures) ∙ c.in-None.is)
