use Rattle.std.proofs.Common.{◌∙◌, Ok, false, sym, refl, subst}
use Rattle.std.proofs.lemmas.Result.{err_from_is_err_and}
use Rattle.tocmark_event.specs.Forest.{flat}
use Rattle.tocmark_write_renderer.specs.WriterOf.{site_of}
use Rattle.tocmark_choose.specs.Alike.{AreAlike}
use Rattle.tocmark_choose.specs.declared.alike.Place.TheVariants.{Front}
use Rattle.tocmark_choose.specs.TrialOf.{asked_of, is_checked_in, left_by}
use Rattle.tocmark_choose.specs.Tries.{manners_for}
use Rattle.tocmark_choose.specs.Validates.{validates}
use Rattle.tocmark_choose.proofs.PlainUnits.{choice-alike, choice-unread}
use Rattle.tocmark_choose.proofs.Trials.{both_true, choice-unsearched, left-plain, left-stopped, left-unrepresentable, none-left, tries-bare, written-found}
use Rattle.tocmark_choose.proofs.TrialUnits.{trial-checked, trial-delimiters, trial-source, trial-written}
use Rattle.tocmark_choose.proofs.search.Search.find_candidate.Goals as goal

pub returns-then-not-has_standard_markers-clause-found : goal.returns-then-not-has_standard_markers-clause-found
returns-then-not-has_standard_markers-clause-found g c other =
    let q = asked_of g.R.Reader.reading c.args.self.now.trial.now in
    let d = left_by other c.args.self.now.earlier (site_of c.args.renderer.now) in
    record { plain = choice-unsearched q d (sym c.has_standard_markers.ensures ∙ c.if-not-has_standard_markers.true); kept = refl }

pub returns-then-not-is_checked-clause-found : goal.returns-then-not-is_checked-clause-found
returns-then-not-is_checked-clause-found g c other =
    let t = c.args.self.now.trial.now in
    let reading = g.R.Reader.reading in
    let q = asked_of reading t in
    let d = left_by other c.args.self.now.earlier (site_of c.args.renderer.now) in
    let unsourced = sym (trial-source reading t c.requires.ready) ∙ c.if-not-has_source.true in
    let unchecked = sym (trial-checked reading t c.requires.ready (is_checked_in t) refl) ∙ sym c.is_checked.ensures ∙ c.if-not-is_checked.true in
    record { plain = choice-unread q.setting d q.unit q.next (sym c.has_standard_markers.ensures ∙ c.if-not-has_standard_markers.false) unchecked unsourced; kept = refl }

pub returns-then-is_alike-clause-found : goal.returns-then-is_alike-clause-found
returns-then-is_alike-clause-found g c other =
    let t = c.args.self.now.trial.now in
    let reading = g.R.Reader.reading in
    let q = asked_of reading t in
    let d = left_by other c.args.self.now.earlier (site_of c.args.renderer.now) in
    let both = c.is_alike.ensures c.if-is_alike.true in
    let unchecked = sym (trial-checked reading t c.requires.ready (is_checked_in t) refl) ∙ both.0 in
    let alike = trial-written reading t c.requires.ready (λ f. AreAlike false Front (flat f)) (λ f is. subst (AreAlike false Front) (sym is) both.1) in
    record { plain = choice-alike q.setting d q.unit q.next (sym c.has_standard_markers.ensures ∙ c.if-not-has_standard_markers.false) unchecked alike; kept = refl }

pub returns-in_err-known-clause-found : goal.returns-in_err-known-clause-found
returns-in_err-known-clause-found g c other =
    let p = err_from_is_err_and c.from_residual.result c.from_residual.ensures.1 in
    let t = c.args.self.now.trial.now in
    let reading = g.R.Reader.reading in
    let q = asked_of reading t in
    let acc = validates q.setting.options q.setting.flags in
    let old = site_of c.args.renderer.now in
    let d = left_by other c.args.self.now.earlier old in
    rw (p.1, p.2)
    (left-stopped q d q.setting.options t.found.now.census.sourced t.found.now.census.delimiters (is_checked_in t) acc refl (trial-source reading t c.requires.ready) (trial-delimiters reading t c.requires.ready) (trial-checked reading t c.requires.ready (is_checked_in t) refl) refl
    old c.try_candidates.new.renderer c.in_err-known.field-0.0 c.in_err-known.ensures.tried)

pub returns-in-Some-clause-found : goal.returns-in-Some-clause-found
returns-in-Some-clause-found g c other =
    let t = c.args.self.now.trial.now in
    let reading = g.R.Reader.reading in
    let q = asked_of reading t in
    let acc = validates q.setting.options q.setting.flags in
    let old = site_of c.args.renderer.now in
    let d = left_by other c.args.self.now.earlier old in
    let tried = tries-bare q d old c.try_candidates.new.renderer (manners_for q.setting.options t.found.now.census.sourced t.found.now.census.delimiters (is_checked_in t)) (Ok c.in_ok-known.field-0) c.in_ok-known.ensures.tried in
    written-found q d q.setting.options t.found.now.census.sourced t.found.now.census.delimiters (is_checked_in t) acc refl (trial-source reading t c.requires.ready) (trial-delimiters reading t c.requires.ready) (trial-checked reading t c.requires.ready (is_checked_in t) refl) refl
    old c.try_candidates.new.renderer c.in_ok-known.field-0 c.in-Some.known (sym c.has_standard_markers.ensures ∙ c.if-not-has_standard_markers.false) tried c.in-Some.is

pub returns-then-is_strict-clause-found : goal.returns-then-is_strict-clause-found
returns-then-is_strict-clause-found g c other =
    let t = c.args.self.now.trial.now in
    let reading = g.R.Reader.reading in
    let q = asked_of reading t in
    let acc = validates q.setting.options q.setting.flags in
    let old = site_of c.args.renderer.now in
    let d = left_by other c.args.self.now.earlier old in
    let tried = tries-bare q d old c.try_candidates.new.renderer (manners_for q.setting.options t.found.now.census.sourced t.found.now.census.delimiters (is_checked_in t)) (Ok c.in_ok-known.field-0) c.in_ok-known.ensures.tried in
    let both = both_true (is_checked_in t) acc (sym c.is_strict.ensures ∙ c.if-is_strict.true) in
    left-unrepresentable q d q.setting.options t.found.now.census.sourced t.found.now.census.delimiters (is_checked_in t) acc refl (trial-source reading t c.requires.ready) (trial-delimiters reading t c.requires.ready) (trial-checked reading t c.requires.ready (is_checked_in t) refl) refl
    old c.try_candidates.new.renderer c.in_ok-known.field-0 (sym c.has_standard_markers.ensures ∙ c.if-not-has_standard_markers.false) tried (none-left c.in_ok-known.field-0 c.in_default.not-Some) both.0 both.1

pub returns-clause-found : goal.returns-clause-found
returns-clause-found g c other =
    let t = c.args.self.now.trial.now in
    let reading = g.R.Reader.reading in
    let q = asked_of reading t in
    let acc = validates q.setting.options q.setting.flags in
    let old = site_of c.args.renderer.now in
    let d = left_by other c.args.self.now.earlier old in
    let tried = tries-bare q d old c.try_candidates.new.renderer (manners_for q.setting.options t.found.now.census.sourced t.found.now.census.delimiters (is_checked_in t)) (Ok c.in_ok-known.field-0) c.in_ok-known.ensures.tried in
    left-plain q d q.setting.options t.found.now.census.sourced t.found.now.census.delimiters (is_checked_in t) acc refl (trial-source reading t c.requires.ready) (trial-delimiters reading t c.requires.ready) (trial-checked reading t c.requires.ready (is_checked_in t) refl) refl
    old c.try_candidates.new.renderer c.in_ok-known.field-0 (sym c.has_standard_markers.ensures ∙ c.if-not-has_standard_markers.false) tried (none-left c.in_ok-known.field-0 c.in_default.not-Some) (sym c.is_strict.ensures ∙ c.if-is_strict.false)
