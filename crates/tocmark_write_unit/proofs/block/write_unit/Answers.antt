use Rattle.std.proofs.Common.{◌≡◌, ◌∙◌, ◌+◌, ◌∷◌, rules, true, List, Ok, Err, Option, ap, arith, drop, map, refl, reverse, string_bytes, subst, sym, take}
use Rattle.std.proofs.lemmas.Result.{err_from_is_err_and}
use Rattle.std.specs.Option.{option_map}
use Rattle.tocmark_event.specs.Forest.{flat}
use Rattle.tocmark_event.specs.View.{SourcedEvent, event_view}
use Rattle.tocmark_write_emphasis.proofs.Opened.{low-step}
use Rattle.tocmark_write_emphasis.specs.Low.{OpensLow}
use Rattle.tocmark_write_renderer.specs.JobOf.{manner_view, options_in, setting_in}
use Rattle.tocmark_write_renderer.specs.WriterOf.{levels_of, site_of, Arrives, IsRefusal}
use Rattle.tocmark_spelling.proofs.Turns.{drop-event, length-events}
use Rattle.tocmark_spelling.specs.Page.{Site}
use Rattle.tocmark_spelling.specs.Buffered.{buffered_view, following_view, sourced}
use Rattle.tocmark_spelling.specs.Machine.{going, step}
use Rattle.tocmark_spelling.specs.Scans.{AreEnds}
use Rattle.tocmark_write_unit.proofs.Events.{goes-on, is-refused, run-done}
use Rattle.tocmark_write_unit.proofs.Steps.{end-moves, leaf-passes, moves-on}
use Rattle.tocmark_write_unit.proofs.Units.{unit-run}
use Rattle.tocmark_write_unit.specs.FindingsOf.{AreFindings}
use Rattle.tocmark_write_unit.specs.NeighboursOf.{is_leaf_event}
use Rattle.tocmark_write_unit.specs.Turn.{GoesOn, IsRefused}
use Rattle.tocmark_write_unit.proofs.Rest.{rest_from}
use Rattle.tocmark_write_unit.proofs.block.write_unit.Goals as goal

pub start_before-requires-clause-around : goal.start_before-requires-clause-around
start_before-requires-clause-around g c =
    let a = c.args in
    let same = sym c.events-events.ensures in
    let b = c.index-events-place.result in
    let is = ap (λ e. sourced (event_view string_bytes e) (option_map string_bytes b.source)) c.in-Start.is in
    record {
      within = c.loop-place-test.true;
      at = drop-event c.events-events.result.now c.loop-place.place b c.loop-place-test.true c.index-events-place.is
          ∙ ap (λ e. e ∷ drop (c.loop-place.place + 1) (map buffered_view c.events-events.result.now)) is;
      ends = subst (λ (es : List SourcedEvent). AreEnds es c.ends-ends.result.now) same c.ends-ends.ensures;
      pending = same;
      found = subst (λ (es : List SourcedEvent). AreFindings (g.R.Reader.reading a.task.now.reader.now) (options_in a.task.now.job) a.task.now.job.flags es a.unit.found.now) same c.requires.found;
    }

pub loop-place-init : goal.loop-place-init
loop-place-init g c =
    record {
      mark = refl;
      low = λ f is opens. opens;
      same = λ f is opens. refl;
    }

pub loop-place-preserved-in-Start : goal.loop-place-preserved-in-Start
loop-place-preserved-in-Start g c =
    let a = c.args in
    let i = c.loop-place.place in
    let s = setting_in a.task.now.job (g.R.Reader.reading a.task.now.reader.now) in
    let m = manner_view a.task.now.manner in
    let es = map buffered_view c.events-events.result.now in
    let next = following_view a.unit.next in
    let b = c.index-events-place.result in
    let e = buffered_view b in
    let here = site_of c.loop-place.renderer in
    let before = reverse (take i es) in
    let rest = drop (i + 1) es in
    let at = drop-event c.events-events.result.now i b c.loop-place-test.true c.index-events-place.is in
    let low = c.loop-place.invariant.low in
    let whole = rest_from s m next es 0 (site_of a.renderer.now) in
    let there = ap (λ x. sourced (event_view string_bytes x) (option_map string_bytes b.source)) c.in-Start.is in
    let P : SourcedEvent → Type 0 = λ x. GoesOn c.start_before.new.renderer s m next (step s m next x rest (going here before)) rest (x ∷ before) c.in_ok-passed-in-Start.passed in
    let moves = c.in_ok-passed-in-Start.ensures.moves in
    record {
      mark = c.in_ok-passed-in-Start.ensures.mark ∙ c.loop-place.invariant.mark;
      low = λ f is opens. low-step s a.task.now.manner.delimiters a.task.now.manner.source next e rest before here (site_of c.start_before.new.renderer) c.requires.asked (low f is opens) (subst P (sym there) (moves f is (low f is opens))).site_is;
      same = λ f is opens. goes-on s m next es i e at here c.start_before.new.renderer c.in_ok-passed-in-Start.passed whole (c.loop-place.invariant.same f is opens) (subst P (sym there) (moves f is (low f is opens)));
    }

pub loop-place-preserved-in-End : goal.loop-place-preserved-in-End
loop-place-preserved-in-End g c =
    let a = c.args in
    let i = c.loop-place.place in
    let s = setting_in a.task.now.job (g.R.Reader.reading a.task.now.reader.now) in
    let m = manner_view a.task.now.manner in
    let es = map buffered_view c.events-events.result.now in
    let next = following_view a.unit.next in
    let b = c.index-events-place.result in
    let e = buffered_view b in
    let here = site_of c.loop-place.renderer in
    let before = reverse (take i es) in
    let rest = drop (i + 1) es in
    let at = drop-event c.events-events.result.now i b c.loop-place-test.true c.index-events-place.is in
    let low = c.loop-place.invariant.low in
    let whole = rest_from s m next es 0 (site_of a.renderer.now) in
    let there = ap (λ x. sourced (event_view string_bytes x) (option_map string_bytes b.source)) c.in-End.is in
    let w = c.end.new.renderer in
    let P : SourcedEvent → Type 0 = λ x. GoesOn w s m next (step s m next x rest (going here before)) rest (x ∷ before) 0 in
    let k = c.in-End.field-0 in
    let goes : GoesOn w s m next (step s m next e rest (going here before)) rest (e ∷ before) 0 = subst P (sym there) (moves-on w s m next _ rest _ (end-moves {X = Unit {0}} (Ok tt) w s m next k rest before here c.in_ok-end-in-End.ensures.comes)) in
    record {
      mark = c.in_ok-end-in-End.ensures.mark ∙ c.loop-place.invariant.mark;
      low = λ f is opens. low-step s a.task.now.manner.delimiters a.task.now.manner.source next e rest before here (site_of c.end.new.renderer) c.requires.asked (low f is opens) (goes).site_is;
      same = λ f is opens. goes-on s m next es i e at here c.end.new.renderer 0 whole (c.loop-place.invariant.same f is opens) (goes);
    }

pub loop-place-preserved : goal.loop-place-preserved
loop-place-preserved g c =
    let a = c.args in
    let i = c.loop-place.place in
    let s = setting_in a.task.now.job (g.R.Reader.reading a.task.now.reader.now) in
    let m = manner_view a.task.now.manner in
    let es = map buffered_view c.events-events.result.now in
    let next = following_view a.unit.next in
    let b = c.index-events-place.result in
    let e = buffered_view b in
    let here = site_of c.loop-place.renderer in
    let before = reverse (take i es) in
    let rest = drop (i + 1) es in
    let at = drop-event c.events-events.result.now i b c.loop-place-test.true c.index-events-place.is in
    let low = c.loop-place.invariant.low in
    let whole = rest_from s m next es 0 (site_of a.renderer.now) in
    let w = c.write_leaf.new.renderer in
    let leaf : is_leaf_event e ≡ true = search rules in
    let goes = leaf-passes w s m next rest before here e leaf (λ l is. c.in_ok-write_leaf-in_default.ensures.stands l (g.R.Reader.reading a.task.now.reader.now) before rest next is c.beside_of.ensures) in
    record {
      mark = c.in_ok-write_leaf-in_default.ensures.mark ∙ c.loop-place.invariant.mark;
      low = λ f is opens. low-step s a.task.now.manner.delimiters a.task.now.manner.source next e rest before here (site_of c.write_leaf.new.renderer) c.requires.asked (low f is opens) (goes).site_is;
      same = λ f is opens. goes-on s m next es i e at here c.write_leaf.new.renderer 0 whole (c.loop-place.invariant.same f is opens) (goes);
    }

pub returns-in_err-passed-in-Start-clause-spelled : goal.returns-in_err-passed-in-Start-clause-spelled
returns-in_err-passed-in-Start-clause-spelled g c = λ f is opens.
    let a = c.args in
    let i = c.loop-place.place in
    let s = setting_in a.task.now.job (g.R.Reader.reading a.task.now.reader.now) in
    let m = manner_view a.task.now.manner in
    let es = map buffered_view c.events-events.result.now in
    let next = following_view a.unit.next in
    let b = c.index-events-place.result in
    let e = buffered_view b in
    let here = site_of c.loop-place.renderer in
    let before = reverse (take i es) in
    let rest = drop (i + 1) es in
    let at = drop-event c.events-events.result.now i b c.loop-place-test.true c.index-events-place.is in
    let front = site_of a.renderer.now in
    let forest = is ∙ sym c.events-events.ensures in
    let p = err_from_is_err_and c.from_residual.result c.from_residual.ensures.1 in
    let P : Option Site → Type 0 = IsRefusal c.in_err-passed-in-Start.field-0.0 in
    let there = ap (λ x. sourced (event_view string_bytes x) (option_map string_bytes b.source)) c.in-Start.is in
    let Q : SourcedEvent → Type 0 = λ x. IsRefused c.in_err-passed-in-Start.field-0.0 (step s m next x rest (going here before)) in
    rw (p.1, p.2) (subst P (unit-run s m next f es front forest)
    (is-refused s m next es i e at here c.in_err-passed-in-Start.field-0.0 (rest_from s m next es 0 front) (c.loop-place.invariant.same f forest opens) (subst Q (sym there) (c.in_err-passed-in-Start.ensures.moves f forest (c.loop-place.invariant.low f forest opens)))))

pub returns-in_err-end-in-End-clause-spelled : goal.returns-in_err-end-in-End-clause-spelled
returns-in_err-end-in-End-clause-spelled g c = λ f is opens.
    let a = c.args in
    let i = c.loop-place.place in
    let s = setting_in a.task.now.job (g.R.Reader.reading a.task.now.reader.now) in
    let m = manner_view a.task.now.manner in
    let es = map buffered_view c.events-events.result.now in
    let next = following_view a.unit.next in
    let b = c.index-events-place.result in
    let e = buffered_view b in
    let here = site_of c.loop-place.renderer in
    let before = reverse (take i es) in
    let rest = drop (i + 1) es in
    let at = drop-event c.events-events.result.now i b c.loop-place-test.true c.index-events-place.is in
    let front = site_of a.renderer.now in
    let forest = is ∙ sym c.events-events.ensures in
    let p = err_from_is_err_and c.from_residual-in_err-end-in-End.result c.from_residual-in_err-end-in-End.ensures.1 in
    let P : Option Site → Type 0 = IsRefusal c.in_err-end-in-End.field-0.0 in
    let there = ap (λ x. sourced (event_view string_bytes x) (option_map string_bytes b.source)) c.in-End.is in
    let Q : SourcedEvent → Type 0 = λ x. IsRefused c.in_err-end-in-End.field-0.0 (step s m next x rest (going here before)) in
    rw (p.1, p.2) (subst P (unit-run s m next f es front forest)
    (is-refused s m next es i e at here c.in_err-end-in-End.field-0.0 (rest_from s m next es 0 front) (c.loop-place.invariant.same f forest opens) (subst Q (sym there) (end-moves {X = Unit {0}} (Err c.in_err-end-in-End.field-0.0) c.end.new.renderer s m next c.in-End.field-0 rest before here c.in_err-end-in-End.ensures.comes))))

pub returns-clause-spelled : goal.returns-clause-spelled
returns-clause-spelled g c = λ f is opens.
    let a = c.args in
    let s = setting_in a.task.now.job (g.R.Reader.reading a.task.now.reader.now) in
    let m = manner_view a.task.now.manner in
    let es = map buffered_view c.events-events.result.now in
    let next = following_view a.unit.next in
    let i = c.loop-place.place in
    let here = site_of a.renderer.now in
    let forest = is ∙ sym c.events-events.ensures in
    let P : Option Site → Type 0 = Arrives c.loop-place.renderer in
    subst P (unit-run s m next f es here forest)
    (run-done s m next es i c.loop-place.renderer (reverse (take i es)) (rest_from s m next es 0 here) (omega (arith, c.loop-place-test.false, length-events c.events-events.result.now)) (c.loop-place.invariant.same f forest opens))
