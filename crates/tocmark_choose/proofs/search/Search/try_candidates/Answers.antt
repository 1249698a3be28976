use Rattle.std.proofs.Common.{◌≡◌, false, string_bytes, subst, sym}
use Rattle.std.specs.List.{AllByRecursion}
use Rattle.tocmark_choose.specs.TrialOf.{IsFront, asked_of, earlier_at, earlier_view, is_checked_in, options_in, reads_back_in}
use Rattle.tocmark_choose.proofs.Trials.{none-left, source-found, source-kept, then-escaped}
use Rattle.tocmark_choose.proofs.search.Search.try_candidates.Goals as goal

pub try_source-requires-clause-refused : goal.try_source-requires-clause-refused
try_source-requires-clause-refused g c =
    let q = asked_of g.R.Reader.reading c.args.self.now.trial.now in
    let d = earlier_view c.args.self.now.earlier in
    subst (AllByRecursion (λ t. reads_back_in q d (string_bytes t) ≡ false)) (sym c.new-refused.ensures.empty) tt

pub returns-in-Some-clause-tried : goal.returns-in-Some-clause-tried
returns-in-Some-clause-tried g c =
    source-found (asked_of g.R.Reader.reading c.args.self.now.trial.now) (earlier_at c.args.self.now.earlier) c.args.renderer.now c.try_source.new.renderer (options_in c.args.self.now.trial.now) c.args.self.now.trial.now.found.now.census.sourced c.args.self.now.trial.now.found.now.census.delimiters (is_checked_in c.args.self.now.trial.now) c.in_ok-known.field-0 c.in_ok-known.ensures.tried c.in-Some.known c.in-Some.is

pub try_escaped-requires-clause-front : goal.try_escaped-requires-clause-front
try_escaped-requires-clause-front g c =
    subst IsFront (sym (source-kept (asked_of g.R.Reader.reading c.args.self.now.trial.now) (earlier_at c.args.self.now.earlier) c.args.renderer.now c.try_source.new.renderer (options_in c.args.self.now.trial.now) c.args.self.now.trial.now.found.now.census.sourced c.args.self.now.trial.now.found.now.census.delimiters (is_checked_in c.args.self.now.trial.now) c.in_ok-known.field-0 c.in_ok-known.ensures.tried (none-left c.in_ok-known.field-0 c.in_default.not-Some))) c.requires.front

pub returns-clause-tried : goal.returns-clause-tried
returns-clause-tried g c =
    then-escaped (asked_of g.R.Reader.reading c.args.self.now.trial.now) (earlier_at c.args.self.now.earlier) c.args.renderer.now c.try_source.new.renderer (options_in c.args.self.now.trial.now) c.args.self.now.trial.now.found.now.census.sourced c.args.self.now.trial.now.found.now.census.delimiters (is_checked_in c.args.self.now.trial.now) c.in_ok-known.field-0 c.in_ok-known.ensures.tried (none-left c.in_ok-known.field-0 c.in_default.not-Some)
    c.try_escaped.new.renderer c.try_escaped.result c.try_escaped.ensures.tried
