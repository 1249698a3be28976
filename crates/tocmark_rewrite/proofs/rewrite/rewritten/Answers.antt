use Rattle.std.proofs.Common.{◌≡◌, ◌≢◌, ◌∙◌, ℕ, List, Option, ap, subst}
use Rattle.std.specs.Borrow.{Bor}
use Rattle.std.specs.Iterator.{Drains}
use Rattle.tocmark_event.specs.Text.{ParserEvent}
use Rattle.tocmark_event.specs.View.{EventView}
use Rattle.tocmark_compare.specs.Given.{given_events}
use Rattle.tocmark_rewrite.specs.Edited.{HasItsCause, IsWrittenFor, edited_events}
use Rattle.tocmark_rewrite.specs.declared.fault.Fault.{Fault}
use Rattle.tocmark_rewrite.specs.declared.fault.Fault.TheVariants.{OutOfMemory}
use Rattle.tocmark_rewrite.proofs.Causes.{err-from}
use Rattle.tocmark_rewrite.proofs.rewrite.rewritten.Goals as goal

pub returns-clause-edited : goal.returns-clause-edited
returns-clause-edited g c =
    let e = c.in_ok-copies.ensures in
    let same : given_events c.lent.result.now ≡ edited_events e.0 = ap given_events (c.lent.ensures ∙ c.deref.ensures.value) ∙ e.2 in (
      c.into_iter.result,
      e.0,
      c.into_iter.ensures.into_iter_gives,
      e.1,
      subst (λ (given : List EventView). IsWrittenFor (λ text. g.R.Reader.reading c.args.reader.now text c.args.flags) c.args.source.now given c.in_ok-answer.answer) same
          (record { same = c.in_ok-answer.ensures.same; labels = c.in_ok-answer.ensures.labels; trees = c.in_ok-answer.ensures.trees; unchanged = c.in_ok-answer.ensures.unchanged; kept = c.in_ok-answer.ensures.kept }),
    )

pub returns-in_err-answer-clause-refused : goal.returns-in_err-answer-clause-refused
returns-in_err-answer-clause-refused g c =
    let e = c.in_ok-copies.ensures in
    let same : given_events c.lent.result.now ≡ edited_events e.0 = ap given_events (c.lent.ensures ∙ c.deref.ensures.value) ∙ e.2 in
    err-from
    (λ (fault : Fault). fault ≢ OutOfMemory → (it : g.row.I-IntoIter.Denot) × (xs : List (Bor ParserEvent × Option (ℕ × ℕ))) × g.I.IntoIterator.into_iter_gives c.args.events it × Drains g.I.IntoIter.Iterator.next_gives it xs × HasItsCause (λ (text : List ℕ). g.R.Reader.reading c.args.reader.now text c.args.flags) c.args.source.now (edited_events xs) fault)
    c.from_residual-in_err-answer.result
    c.in_err-answer.field-0.0
    c.from_residual-in_err-answer.ensures.1
    (λ _. (
      c.into_iter.result,
      e.0,
      c.into_iter.ensures.into_iter_gives,
      e.1,
      subst (λ (given : List EventView). HasItsCause (λ text. g.R.Reader.reading c.args.reader.now text c.args.flags) c.args.source.now given c.in_err-answer.field-0.0) same c.in_err-answer.ensures.refused,
    ))
