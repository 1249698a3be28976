use Rattle.std.proofs.Common.{rules, ◌≡◌, ◌∙◌, ◌+◌, ◌-◌, ◌<◌, ◌≤◌, ℕ, ap, length, map, drop, get_or, arith, subst, length-set}
use Rattle.tocmark_write_blocks.specs.TokenRuns.{RunsIn, no_runs, runs_of}
use Rattle.tocmark_spelling.specs.Buffered.{buffered_view}
use Rattle.tocmark_spelling.specs.Machine.{kids_of}
use Rattle.tocmark_write_blocks.specs.declared.token_runs.TokenRuns.{TokenRuns}
use Rattle.tocmark_write_pending.proofs.FactLemmas.{place-set}
use Rattle.tocmark_write_blocks.proofs.RunLayers.{run-step, text-step, run-none, text-none, runs-past, texts-drop, longest-found, AreTexts}
use Rattle.tocmark_spelling.proofs.Turns.{drop-event, length-events}
use Rattle.tocmark_write_blocks.proofs.token_runs.token_runs.Goals as goal

pub loop-i-init : goal.loop-i-init
loop-i-init c =
    let evs = map buffered_view c.args.events.now in
    let len = length c.args.events.now in
    let count = length-events c.args.events.now in
    record {
      within = omega arith;
      len = search rules;
      texts = text-none evs len (omega (arith, count));
      layer = run-none c.args.token evs len _ _ (omega (arith, count)) c.no_runs-inner.ensures c.new-outer.ensures.items;
      found = λ j le. runs-past c.args.token c.in_ok-runs.runs.items evs len j (search rules) count le;
    }

pub loop-i-preserved : goal.loop-i-preserved
loop-i-preserved c =
    let evs = map buffered_view c.args.events.now in
    let token = c.args.token in
    let k = c.loop-i.i - 1 in
    let q : c.loop-i.i ≡ k + 1 = omega arith in
    let lt : k < length c.args.events.now = omega arith in
    let at = drop-event c.args.events.now k _ lt c.index-events-i.is in
    let value : ℕ → TokenRuns = λ j. runs_of token (kids_of (drop (j + 1) evs)) in
    let here = ap (λ (x : RunsIn). x.inner) c.loop-i.invariant.layer ∙ ap (λ i. runs_of token (kids_of (drop i evs))) q in
    let P : ℕ → Type 0 = λ i. (j : ℕ) → i ≤ j → get_or c.loop-i.runs.items j no_runs ≡ value j in
    record {
      within = omega arith;
      len = omega (arith, length-set {A = TokenRuns}, c.loop-i.invariant.len);
      texts = text-step evs _ c.loop-i.i k q at c.in_ok-inner.ensures.text c.loop-i.invariant.texts;
      layer = run-step token evs _ _ _ c.loop-i.i k q at c.loop-i.invariant.layer c.in_ok-inner.ensures.runs;
      found = place-set c.loop-i.runs.items no_runs k c.loop-i.inner value (omega (arith, c.loop-i.invariant.len)) here (subst P q c.loop-i.invariant.found);
    }

pub returns : goal.returns
returns c =
    let evs = map buffered_view c.args.events.now in
    let none : c.loop-i.i ≡ 0 = omega arith in
    let texts = subst (λ i. AreTexts (drop i evs)) none c.loop-i.invariant.texts in
    record {
      at = λ i.
          ap (λ (x : TokenRuns). x.longest) (c.loop-i.invariant.found i (omega arith))
          ∙ longest-found c.args.token (drop (i + 1) evs) (texts-drop (i + 1) evs texts);
    }
