use Rattle.std.proofs.Common.{◌∙◌, ap, length, rules, arith}
use Rattle.std.specs.Str.Iter.{chars_rest}
use Rattle.std.proofs.lemmas.Str.{IsUtf8-past_char}
use Rattle.tocmark_write_texts.proofs.SpanLemmas.{run_goes_on_in, run_ends_in, all_read, all_to_read, length-character}
use Rattle.tocmark_write_texts.proofs.text_modifications.max_consecutive_chars.Goals as goal

pub loop-c-init : goal.loop-c-init
loop-c-init c =
    let rest = ap chars_rest c.into_iter-c-iterator.ensures.into_iter_gives ∙ c.chars-c-items.ensures.rest in
    record {
      is_text = search rules;
      bounded = omega (arith, ap length rest);
      seen = omega arith;
      same = all_to_read c.args.search _ _ rest;
    }

pub loop-c-preserved-then-c-search : goal.loop-c-preserved-then-c-search
loop-c-preserved-then-c-search c =
    let held = c.loop-c.invariant in
    let parts = c.in-Some.ensures.steps.0 in
    let more = run_goes_on_in c.loop-c.longest c.loop-c.current c.args.search c.in-Some.c _ _ _ _ held.is_text parts c.if-c-search.true
    c.max-longest.ensures held.same in
    record {
      is_text = IsUtf8-past_char _ _ c.in-Some.c held.is_text parts;
      bounded = omega (arith, length-character _ _ c.in-Some.c parts, held.bounded);
      seen = more.0;
      same = more.1;
    }

pub loop-c-preserved : goal.loop-c-preserved
loop-c-preserved c =
    let held = c.loop-c.invariant in
    let parts = c.in-Some.ensures.steps.0 in
    record {
      is_text = IsUtf8-past_char _ _ c.in-Some.c held.is_text parts;
      bounded = omega (arith, length-character _ _ c.in-Some.c parts, held.bounded);
      seen = omega arith;
      same = run_ends_in c.loop-c.longest c.loop-c.current c.args.search c.in-Some.c _ _ _ held.is_text parts c.if-c-search.false held.seen held.same;
    }

pub returns : goal.returns
returns c = all_read c.loop-c.longest c.loop-c.current c.args.search _ _ c.in-None.ensures.steps.0.0 c.loop-c.invariant.seen c.loop-c.invariant.same
