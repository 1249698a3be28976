use Rattle.std.proofs.Common.{◌≡◌, ◌∙◌, ap, false, refl, string_bytes, subst, sym}
use Rattle.std.specs.List.{AllByRecursion}
use Rattle.tocmark_choose.specs.TrialOf.{asked_of, earlier_view, reads_back_in}
use Rattle.tocmark_choose.proofs.Refused.{refused-again, refused-more}
use Rattle.tocmark_choose.proofs.TrialUnits.{trial-read}
use Rattle.tocmark_choose.proofs.earlier.Earlier.find_in.Goals as goal

pub returns-then-was_refused-clause-read : goal.returns-then-was_refused-clause-read
returns-then-was_refused-clause-read g c =
    sym (refused-again (asked_of g.R.Reader.reading c.args.trial.now) (earlier_view c.args.self.now) c.args.text.now c.args.refused.now.keys c.requires.refused (sym c.was_refused.ensures ∙ c.if-was_refused.true))

pub returns-in_ok-insert-clause-read : goal.returns-in_ok-insert-clause-read
returns-in_ok-insert-clause-read g c =
    let t = c.args.trial.now in
    let q = asked_of g.R.Reader.reading t in
    let flags = c.reading_flags-flags in
    c.in_ok-found.ensures ∙ trial-read g.R.Reader.reading t c.requires.ready _ c.events-unit.ensures (earlier_view c.args.self.now) c.args.text.now flags.result (flags.ensures q.setting refl)

pub returns-in_ok-insert-clause-refused : goal.returns-in_ok-insert-clause-refused
returns-in_ok-insert-clause-refused g c =
    let t = c.args.trial.now in
    let q = asked_of g.R.Reader.reading t in
    let d = earlier_view c.args.self.now in
    let flags = c.reading_flags-flags in
    let read = trial-read g.R.Reader.reading t c.requires.ready _ c.events-unit.ensures d c.args.text.now flags.result (flags.ensures q.setting refl) in
    let again = ap (reads_back_in q d) c.in_ok-from_str.ensures.ok ∙ sym read ∙ sym c.in_ok-found.ensures ∙ c.if-not-found.true in
    subst (λ ts. AllByRecursion (λ t. reads_back_in q d (string_bytes t) ≡ false) ts) (sym c.in_ok-insert.ensures.keys) (refused-more q d c.in_ok-from_str.field-0 c.args.refused.now.keys c.requires.refused again)

pub returns-else-not-found-clause-read : goal.returns-else-not-found-clause-read
returns-else-not-found-clause-read g c =
    let t = c.args.trial.now in
    let q = asked_of g.R.Reader.reading t in
    let flags = c.reading_flags-flags in
    c.in_ok-found.ensures ∙ trial-read g.R.Reader.reading t c.requires.ready _ c.events-unit.ensures (earlier_view c.args.self.now) c.args.text.now flags.result (flags.ensures q.setting refl)
