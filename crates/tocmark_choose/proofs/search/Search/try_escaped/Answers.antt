use Rattle.std.proofs.Common.{◌∙◌, [], ap, subst, sym, ◌∷◌}
use Rattle.std.specs.List.{AllByRecursion}
use Rattle.std.proofs.lemmas.Bool.{false≢true}
use Rattle.tocmark_write_renderer.specs.JobOf.{manner_view}
use Rattle.tocmark_write_renderer.specs.WriterOf.{site_of}
use Rattle.tocmark_choose.specs.Candidates.{delimiter_manners, escaped_manners}
use Rattle.tocmark_choose.specs.TrialOf.{IsLow, asked_of, earlier_at, is_checked_in, options_in}
use Rattle.tocmark_choose.proofs.Trials.{none-escaped, tries-same}
use Rattle.tocmark_choose.proofs.search.Search.try_escaped.Goals as goal

pub returns-then-has_delimiters-clause-tried : goal.returns-then-has_delimiters-clause-tried
returns-then-has_delimiters-clause-tried g c =
    let t = c.args.self.now.trial.now in
    let o = options_in t in
    let old = site_of c.args.renderer.now in
    tries-same (asked_of g.R.Reader.reading t) (earlier_at c.args.self.now.earlier old) old c.try_delimiters.new.renderer (delimiter_manners o) (escaped_manners o t.found.now.census.delimiters (is_checked_in t)) c.try_delimiters.result
    (ap (λ b. escaped_manners o b (is_checked_in t)) (sym c.if-has_delimiters.true)) c.try_delimiters.ensures.tried

pub returns-then-not-is_checked-clause-tried : goal.returns-then-not-is_checked-clause-tried
returns-then-not-is_checked-clause-tried g c =
    let t = c.args.self.now.trial.now in
    let old = site_of c.args.renderer.now in
    none-escaped (asked_of g.R.Reader.reading t) (earlier_at c.args.self.now.earlier old) c.args.renderer.now (options_in t) t.found.now.census.delimiters (is_checked_in t) c.if-has_delimiters.false (sym c.is_checked-is_checked.ensures ∙ c.if-not-is_checked.true)

pub try_all-requires-clause-low : goal.try_all-requires-clause-low
try_all-requires-clause-low g c = subst (AllByRecursion IsLow) (ap (λ m. m ∷ []) (sym c.preferred_manner.ensures)) ((λ e. absurd (false≢true e)), tt)

pub returns-clause-tried : goal.returns-clause-tried
returns-clause-tried g c =
    let t = c.args.self.now.trial.now in
    let o = options_in t in
    let old = site_of c.args.renderer.now in
    let checked = sym c.is_checked-is_checked.ensures ∙ c.if-not-is_checked.false in
    tries-same (asked_of g.R.Reader.reading t) (earlier_at c.args.self.now.earlier old) old c.try_all.new.renderer (manner_view c.preferred_manner.result ∷ []) (escaped_manners o t.found.now.census.delimiters (is_checked_in t)) c.try_all.result
    (ap (λ m. m ∷ []) c.preferred_manner.ensures ∙ (λ j. escaped_manners o (sym c.if-has_delimiters.false j) (sym checked j))) c.try_all.ensures.tried
