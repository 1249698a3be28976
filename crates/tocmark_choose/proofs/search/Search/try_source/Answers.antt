use Rattle.std.proofs.Common.{ap, false, map, subst, sym, true, ◌∷◌, []}
use Rattle.std.specs.List.{AllByRecursion}
use Rattle.tocmark_write_renderer.specs.JobOf.{manner_view}
use Rattle.tocmark_write_renderer.specs.WriterOf.{site_of}
use Rattle.tocmark_choose.specs.TrialOf.{IsLow, asked_of, earlier_at, options_in}
use Rattle.tocmark_choose.proofs.LowManners.{low-source}
use Rattle.tocmark_choose.proofs.Trials.{no-source, source-tried}
use Rattle.tocmark_choose.proofs.search.Search.try_source.Goals as goal

pub returns-then-not-has_source-clause-tried : goal.returns-then-not-has_source-clause-tried
returns-then-not-has_source-clause-tried g c =
    let q = asked_of g.R.Reader.reading c.args.self.now.trial.now in
    let now = c.args.renderer.now in
    no-source q (earlier_at c.args.self.now.earlier (site_of now)) now (options_in c.args.self.now.trial.now) c.args.self.now.trial.now.found.now.census.sourced c.args.self.now.trial.now.found.now.census.delimiters c.if-not-has_source.true

pub try_all-requires-clause-low : goal.try_all-requires-clause-low
try_all-requires-clause-low g c = subst (AllByRecursion IsLow) (sym c.source_manners-manners.ensures) (low-source (options_in c.args.self.now.trial.now) c.requires.standard true)

pub returns-then-has_delimiters-clause-tried : goal.returns-then-has_delimiters-clause-tried
returns-then-has_delimiters-clause-tried g c =
    let q = asked_of g.R.Reader.reading c.args.self.now.trial.now in
    let old = site_of c.args.renderer.now in
    source-tried q (earlier_at c.args.self.now.earlier old) old c.try_all.new.renderer (options_in c.args.self.now.trial.now) c.args.self.now.trial.now.found.now.census.sourced c.args.self.now.trial.now.found.now.census.delimiters true (map manner_view c.source_manners-manners.result) c.try_all.result
    c.if-not-has_source.false c.if-has_delimiters.true c.source_manners-manners.ensures c.try_all.ensures.tried

pub try_all-requires-else-has_delimiters-clause-low : goal.try_all-requires-else-has_delimiters-clause-low
try_all-requires-else-has_delimiters-clause-low g c = subst (AllByRecursion IsLow) (ap (λ m. m ∷ []) (sym c.preferred_manner.ensures)) (low-source (options_in c.args.self.now.trial.now) c.requires.standard false)

pub returns-else-has_delimiters-clause-tried : goal.returns-else-has_delimiters-clause-tried
returns-else-has_delimiters-clause-tried g c =
    let q = asked_of g.R.Reader.reading c.args.self.now.trial.now in
    let old = site_of c.args.renderer.now in
    source-tried q (earlier_at c.args.self.now.earlier old) old c.try_all-else-has_delimiters.new.renderer (options_in c.args.self.now.trial.now) c.args.self.now.trial.now.found.now.census.sourced c.args.self.now.trial.now.found.now.census.delimiters false (manner_view c.preferred_manner.result ∷ []) c.try_all-else-has_delimiters.result
    c.if-not-has_source.false c.if-has_delimiters.false (ap (λ m. m ∷ []) c.preferred_manner.ensures) c.try_all-else-has_delimiters.ensures.tried
