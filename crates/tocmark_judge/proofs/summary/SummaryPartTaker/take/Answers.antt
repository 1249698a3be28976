use Rattle.std.proofs.Common.{◌≡◌, ◌∙◌, ◌++◌, List, OnOk, ap, subst, sym}
use Rattle.tocmark_event.specs.Reading.{reading_view}
use Rattle.tocmark_event.specs.View.{EventView}
use Rattle.tocmark_compare.proofs.Found.{found-given}
use Rattle.tocmark_compare.specs.Given.{found_events, given_events}
use Rattle.tocmark_judge.specs.Summaries.{SumsFirst}
use Rattle.tocmark_judge.proofs.summary.SummaryPartTaker.take.Goals as goal

pub returns : goal.returns
returns c =
    let read : given_events c.deref.result.now ≡ found_events (reading_view c.args.part.now) = ap given_events c.deref.ensures.value ∙ sym (found-given c.args.part.now) in
    subst (λ (es : List EventView). OnOk c.add.result ((before : List EventView) → SumsFirst c.args.self.now before → SumsFirst c.add.new.self (before ++ es))) read c.add.ensures
