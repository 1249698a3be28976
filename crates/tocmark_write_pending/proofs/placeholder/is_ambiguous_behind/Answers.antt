use Rattle.std.proofs.Common.{◌∙◌, ◌||◌, ap, drop, false, map, refl, subst, sym}
use Rattle.tocmark_spelling.specs.Buffered.{buffered_view}
use Rattle.tocmark_write_pending.specs.EndedLists.{ends_in_first_item, ends_only_item_from}
use Rattle.tocmark_write_pending.specs.OpenContainers.{EndsAt}
use Rattle.tocmark_write_pending.proofs.EndedLists.{ambiguous-ended, ambiguous-joined}
use Rattle.tocmark_write_pending.proofs.placeholder.is_ambiguous_behind.Goals as goal

pub returns-then-was : goal.returns-then-was
returns-then-was c = λ e at.
    let es = map buffered_view c.args.events.now in
    let now = ends_in_first_item false es || ends_only_item_from (drop c.in-Some.start es) in
    c.if-was.true
    ∙ ap (λ b. b || now) (sym c.if-was.true)
    ∙ ambiguous-ended es e c.in-Some.start c.args.was now c.requires.was refl (subst (EndsAt es e) c.in-Some.is at)

pub returns-else-was : goal.returns-else-was
returns-else-was c = λ e at.
    let es = map buffered_view c.args.events.now in
    ap (λ b. b || c.ends_ambiguous_list.result) (sym c.if-was.false)
    ∙ ambiguous-ended es e c.in-Some.start c.args.was c.ends_ambiguous_list.result c.requires.was c.ends_ambiguous_list.ensures (subst (EndsAt es e) c.in-Some.is at)

pub returns-in-None : goal.returns-in-None
returns-in-None c = λ e at.
    let es = map buffered_view c.args.events.now in
    c.requires.was ∙ ambiguous-joined es e (subst (EndsAt es e) c.in-None.is at)
