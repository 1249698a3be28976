use Rattle.std.proofs.Common.{◌∙◌, sym, ap, subst, chars, rules}
use Rattle.std.specs.Prelude.{◌==◌}
use Rattle.std.specs.Str.Iter.{chars_rest}
use Rattle.std.proofs.lemmas.Str.{IsUtf8-past_char, chars_past_char}
use Rattle.tocmark_write_texts.proofs.EscapeLemmas.{chars_of_empty}
use Rattle.tocmark_write_blocks.specs.TokenRuns.{one_run, joined_runs, runs_in}
use Rattle.tocmark_write_blocks.proofs.RunLemmas.{IsSound, sound-none, sound-one, sound-in, sound-joined, none-left, none-right, joined-assoc}
use Rattle.tocmark_write_blocks.proofs.token_runs.char_runs.Goals as goal

pub loop-c-init : goal.loop-c-init
loop-c-init c =
    let rest = ap chars_rest c.into_iter-c-iterator.ensures.into_iter_gives ∙ c.chars-c-items.ensures.rest in
    let start = c.no_runs-runs.ensures in
    let token = c.args.token in
    record {
      is_text = search rules;
      sound = subst IsSound (sym start) sound-none;
      same =
          ap (λ x. joined_runs x (runs_in token (chars (chars_rest c.into_iter-c-iterator.result)))) start
          ∙ none-left (runs_in token (chars (chars_rest c.into_iter-c-iterator.result))) (sound-in token (chars (chars_rest c.into_iter-c-iterator.result)))
          ∙ ap (λ x. runs_in token (chars x)) rest;
    }

pub loop-c-preserved : goal.loop-c-preserved
loop-c-preserved c =
    let held = c.loop-c.invariant in
    let parts = c.in-Some.ensures.steps.0 in
    let token = c.args.token in
    let one = one_run (c.in-Some.c == token) in
    let rest = runs_in token (chars (chars_rest c.next.new.self)) in
    let new = c.in_ok-runs.ensures ∙ ap (joined_runs c.loop-c.runs) c.one_run.ensures in
    record {
      is_text = IsUtf8-past_char _ _ c.in-Some.c held.is_text parts;
      sound = subst IsSound (sym new) (sound-joined c.loop-c.runs one held.sound (sound-one (c.in-Some.c == token)));
      same =
          ap (λ x. joined_runs x rest) new
          ∙ joined-assoc c.loop-c.runs one rest (sound-one (c.in-Some.c == token))
          ∙ ap (λ cs. joined_runs c.loop-c.runs (runs_in token cs)) (sym (chars_past_char _ _ c.in-Some.c held.is_text parts))
          ∙ held.same;
    }

pub returns : goal.returns
returns c =
    let held = c.loop-c.invariant in
    let token = c.args.token in
    sym (none-right c.loop-c.runs held.sound)
    ∙ ap (λ cs. joined_runs c.loop-c.runs (runs_in token cs)) (sym (chars_of_empty _ c.in-None.ensures.steps.0.0))
    ∙ held.same
