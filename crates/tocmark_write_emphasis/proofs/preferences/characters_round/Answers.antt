use Rattle.std.proofs.Common.{◌∙◌, ◌+◌, ap, sym, subst, true, List, Option, length, map, take, drop, reverse, arith}
use Rattle.std.specs.Prelude.{is_some}
use Rattle.std.specs.Borrow.{Bor}
use Rattle.std.specs.Option.{option_copied}
use Rattle.tocmark_spelling.specs.Buffered.{buffered_view}
use Rattle.tocmark_spelling.specs.Runs.{start_width, close_width}
use Rattle.tocmark_spelling.proofs.Turns.{length-events}
use Rattle.tocmark_write_pending.specs.Ahead.{character_before, character_after}
use Rattle.tocmark_write_emphasis.specs.Marks.{AreEventsOf}
use Rattle.tocmark_write_pending.specs.Pending.{PendingView}
use Rattle.tocmark_event.specs.View.{SourcedEvent}
use Rattle.tocmark_write_emphasis.proofs.preferences.characters_round.Goals as goal

pub beside-requires : goal.beside-requires
beside-requires c = omega (arith, c.requires.place)

pub returns-in-None-clause-before : goal.returns-in-None-clause-before
returns-in-None-clause-before c =
    let es = map buffered_view c.args.events.now in
    c.beside.ensures.before ∙ ap (λ x. character_before (is_some x) (reverse (take c.args.place es))) (sym c.in-None.is)

pub returns-in-None-clause-first : goal.returns-in-None-clause-first
returns-in-None-clause-first c =
    let es = map buffered_view c.args.events.now in
    c.beside.ensures.first ∙ ap (λ x. character_after (is_some x) start_width (drop (c.args.place + 1) es)) (sym c.in-None.is)

pub returns-in-None-clause-after : goal.returns-in-None-clause-after
returns-in-None-clause-after c =
    let es = map buffered_view c.args.events.now in
    c.beside.ensures.after ∙ ap (λ x. character_after (is_some x) close_width (drop (c.args.end + 1) es)) (sym c.in-None.is)

pub beyond_runs-requires : goal.beyond_runs-requires
beyond_runs-requires c =
    let P : Option (Bor PendingView) → Type 0 = λ x. AreEventsOf (map buffered_view c.args.events.now) (option_copied x) in
    let same = subst P c.in-Some.is c.requires.by_runs in
    omega (arith, c.requires.place, ap length same, length-events c.args.events.now)

pub returns-in-Some-clause-before : goal.returns-in-Some-clause-before
returns-in-Some-clause-before c =
    let es = map buffered_view c.args.events.now in
    let P : Option (Bor PendingView) → Type 0 = λ x. AreEventsOf es (option_copied x) in
    let same = subst P c.in-Some.is c.requires.by_runs in
    c.beyond_runs.ensures.before
    ∙ ap (λ (xs : List SourcedEvent). character_before true (reverse (take c.args.place xs))) same
    ∙ ap (λ x. character_before (is_some x) (reverse (take c.args.place es))) (sym c.in-Some.is)

pub returns-in-Some-clause-first : goal.returns-in-Some-clause-first
returns-in-Some-clause-first c =
    let es = map buffered_view c.args.events.now in
    let P : Option (Bor PendingView) → Type 0 = λ x. AreEventsOf es (option_copied x) in
    let same = subst P c.in-Some.is c.requires.by_runs in
    c.beyond_runs.ensures.first
    ∙ ap (λ (xs : List SourcedEvent). character_after true start_width (drop (c.args.place + 1) xs)) same
    ∙ ap (λ x. character_after (is_some x) start_width (drop (c.args.place + 1) es)) (sym c.in-Some.is)

pub returns-in-Some-clause-after : goal.returns-in-Some-clause-after
returns-in-Some-clause-after c =
    let es = map buffered_view c.args.events.now in
    let P : Option (Bor PendingView) → Type 0 = λ x. AreEventsOf es (option_copied x) in
    let same = subst P c.in-Some.is c.requires.by_runs in
    c.beyond_runs.ensures.after
    ∙ ap (λ (xs : List SourcedEvent). character_after true close_width (drop (c.args.end + 1) xs)) same
    ∙ ap (λ x. character_after (is_some x) close_width (drop (c.args.end + 1) es)) (sym c.in-Some.is)
