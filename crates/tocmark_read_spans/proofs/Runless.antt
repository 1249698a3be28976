-- A text without runs keeps its roles.
use Rattle.std.proofs.Common.{◌≡◌, ◌==◌, List, [], ◌∷◌, length, refl, arith, true}
use Rattle.std.proofs.lemmas.Bool.Decides.{nat_tests}
use Rattle.tocmark_read_spans.specs.Emphasis.{emphasized}
use Rattle.tocmark_read_spans.specs.declared.role.Role.{Role}
use Rattle.tocmark_read_spans.specs.declared.run.Run.{Run}

pub no_runs : (roles : List Role) (runs : List Run) → (length runs == 0) ≡ true → roles ≡ emphasized roles runs
unfolding emphasized
no_runs roles [] h = refl
no_runs roles (r ∷ rs) h = absurd (grind (arith, nat_tests))
