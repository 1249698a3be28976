use Rattle.std.proofs.Common.{◌≡◌, Option, ap, map, subst, sym, IfOk, ℕ}
use Rattle.tocmark_spelling.specs.Buffered.{buffered_view}
use Rattle.tocmark_write_pending.specs.OpenContainers.{EndsAt}
use Rattle.tocmark_write_pending.specs.WidthColumn.{width_ended}
use Rattle.tocmark_write_pending.proofs.WidthColumn.{open-at}
use Rattle.tocmark_write_pending.proofs.widths.ended_width.Goals as goal

pub returns-in-Some : goal.returns-in-Some
returns-in-Some c = λ e at.
    let es = map buffered_view c.args.events.now in
    let P : Option ℕ → Type 0 = λ o. IfOk c.width_of_start.result (λ all. all ≡ width_ended es o) in
    subst P (sym c.in-Some.is) (c.width_of_start.ensures (open-at es e c.in-Some.start (subst (EndsAt es e) c.in-Some.is at)))

pub returns-in-None : goal.returns-in-None
returns-in-None c = λ e at. ap (width_ended (map buffered_view c.args.events.now)) (sym c.in-None.is)
