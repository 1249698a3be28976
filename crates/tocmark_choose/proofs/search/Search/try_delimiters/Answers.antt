use Rattle.std.proofs.Common.{Ok, flat_map, map, subst, sym}
use Rattle.std.specs.List.{AllByRecursion}
use Rattle.tocmark_write_renderer.specs.JobOf.{manner_view}
use Rattle.tocmark_write_renderer.specs.WriterOf.{site_of}
use Rattle.tocmark_choose.specs.Candidates.{fallback_manners, fallbacks}
use Rattle.tocmark_choose.specs.TrialOf.{IsFront, IsLow, asked_of, earlier_at, options_in}
use Rattle.tocmark_choose.specs.Tries.{run_manners}
use Rattle.tocmark_choose.proofs.LowManners.{low-runs}
use Rattle.tocmark_choose.proofs.Trials.{none-left, runs-found, runs-kept, then-later, tries-same}
use Rattle.tocmark_choose.proofs.search.Search.try_delimiters.Goals as goal

pub try_all-requires-clause-low : goal.try_all-requires-clause-low
try_all-requires-clause-low g c = subst (AllByRecursion IsLow) (sym c.run_manners-manners.ensures) (low-runs (options_in c.args.self.now.trial.now) c.requires.standard)

pub returns-in-Some-clause-tried : goal.returns-in-Some-clause-tried
returns-in-Some-clause-tried g c =
    let q = asked_of g.R.Reader.reading c.args.self.now.trial.now in
    let now = c.args.renderer.now in
    let d = earlier_at c.args.self.now.earlier in
    let o = options_in c.args.self.now.trial.now in
    let tried = tries-same q (d (site_of now)) (site_of now) c.try_all.new.renderer (map manner_view c.run_manners-manners.result) (run_manners o) (Ok c.in_ok-known.field-0) c.run_manners-manners.ensures c.in_ok-known.ensures.tried in
    runs-found q d now c.try_all.new.renderer (run_manners o) (flat_map fallback_manners fallbacks) c.in_ok-known.field-0 tried c.in-Some.known c.in-Some.is

pub try_fallbacks-requires-clause-front : goal.try_fallbacks-requires-clause-front
try_fallbacks-requires-clause-front g c =
    let q = asked_of g.R.Reader.reading c.args.self.now.trial.now in
    let now = c.args.renderer.now in
    let d = earlier_at c.args.self.now.earlier in
    let o = options_in c.args.self.now.trial.now in
    let tried = tries-same q (d (site_of now)) (site_of now) c.try_all.new.renderer (map manner_view c.run_manners-manners.result) (run_manners o) (Ok c.in_ok-known.field-0) c.run_manners-manners.ensures c.in_ok-known.ensures.tried in
    subst IsFront (sym (runs-kept q d now c.try_all.new.renderer (run_manners o) (flat_map fallback_manners fallbacks) c.in_ok-known.field-0 tried (none-left c.in_ok-known.field-0 c.in_default.not-Some))) c.requires.front

pub returns-clause-tried : goal.returns-clause-tried
returns-clause-tried g c =
    let q = asked_of g.R.Reader.reading c.args.self.now.trial.now in
    let now = c.args.renderer.now in
    let d = earlier_at c.args.self.now.earlier in
    let o = options_in c.args.self.now.trial.now in
    let tried = tries-same q (d (site_of now)) (site_of now) c.try_all.new.renderer (map manner_view c.run_manners-manners.result) (run_manners o) (Ok c.in_ok-known.field-0) c.run_manners-manners.ensures c.in_ok-known.ensures.tried in
    then-later q d now c.try_all.new.renderer (run_manners o) (flat_map fallback_manners fallbacks) c.in_ok-known.field-0 tried (none-left c.in_ok-known.field-0 c.in_default.not-Some) c.try_fallbacks.new.renderer c.try_fallbacks.result c.try_fallbacks.ensures.tried
