use Rattle.std.proofs.Common.{◌∙◌, ap, ◌++◌, chars, string_bytes, rules}
use Rattle.std.specs.Str.Iter.{chars_rest}
use Rattle.std.proofs.lemmas.Str.{IsUtf8-past_char}
use Rattle.tocmark_judge.specs.Same.{ends_white, folded_text}
use Rattle.tocmark_judge.proofs.Folding.{folded-none, folded-step, white-none, white-step}
use Rattle.tocmark_judge.proofs.summary.push_folded.Goals as goal

pub loop-character-init : goal.loop-character-init
loop-character-init c =
    let rest = ap chars_rest c.into_iter-character-iterator.ensures.into_iter_gives ∙ c.chars-character-items.ensures.rest in
    record {
      is_text = search rules;
      same = ap (λ bs. string_bytes c.args.folded.now ++ folded_text c.args.is_behind_white bs) rest;
      white = ap (λ bs. ends_white c.args.is_behind_white (chars bs)) rest;
    }

pub loop-character-preserved : goal.loop-character-preserved
loop-character-preserved c =
    let held = c.loop-character.invariant in
    let parts = c.in-Some.ensures.steps.0 in
    record {
      is_text = IsUtf8-past_char _ _ c.in-Some.character held.is_text parts;
      same = folded-step _ _ _ _ _ c.loop-character.white _ c.in-Some.character c.in_ok-push_character.ensures c.is_white-white.ensures held.is_text parts held.same;
      white = white-step _ _ c.loop-character.white _ _ c.in-Some.character c.is_white-white.ensures held.is_text parts held.white;
    }

pub returns : goal.returns
returns c = record {
  text = folded-none _ _ _ c.loop-character.white c.in-None.ensures.steps.0.0 c.loop-character.invariant.same;
  white = white-none _ c.loop-character.white _ c.in-None.ensures.steps.0.0 c.loop-character.invariant.white;
}
