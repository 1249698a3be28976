use Rattle.std.proofs.Common.{◌≡◌, ◌∙◌, ap, sym, subst, Bool, IfOk, rules, nat_lt, false}
use Rattle.tocmark_spelling.specs.Edges.{is_boundary}
use Rattle.tocmark_spelling.specs.PlanOf.{setting_of}
use Rattle.tocmark_write_emphasis.proofs.Boundaries.{boundary-past}
use Rattle.tocmark_write_emphasis.proofs.boundary.is_boundary.Goals as goal

pub returns-else-is_ascii : goal.returns-else-is_ascii
returns-else-is_ascii g c = λ o flags label.
    let s = setting_of o flags (g.R.Reader.reading c.args.reader.now) label in
    let past : nat_lt c.in-Some.character 128 ≡ false = search rules in
    let P : Bool → Type 0 = λ x. IfOk c.opens_behind.result (λ boundary. boundary ≡ x) in
    subst P (boundary-past s c.in-Some.character past ∙ ap (is_boundary s) (sym c.in-Some.is)) (c.opens_behind.ensures o flags label)
