use Rattle.std.proofs.Common.{◌∙◌, ap, refl, rules}
use Rattle.std.specs.Str.Iter.{chars_rest}
use Rattle.std.proofs.lemmas.Str.{IsUtf8-past_char}
use Rattle.tocmark_write_labels.proofs.CollapsedLabels.{collapsed-more, collapsed-none}
use Rattle.tocmark_write_labels.proofs.matched.collapsed.Goals as goal

pub loop-c-init : goal.loop-c-init
loop-c-init c =
    let rest = ap chars_rest c.into_iter-c-iterator.ensures.into_iter_gives ∙ c.chars-c-items.ensures.rest in
    record {
      is_text = search rules;
      same = rw (c.in_ok-text.ensures.bytes, rest) refl;
    }

pub loop-c-preserved : goal.loop-c-preserved
loop-c-preserved c =
    let held = c.loop-c.invariant in
    let parts = c.in-Some.ensures.steps.0 in
    record {
      is_text = IsUtf8-past_char _ _ c.in-Some.c held.is_text parts;
      same = collapsed-more _ _ _ _ _ c.loop-c.is_after_blank _ c.in-Some.c c.in_ok-push_collapsed.ensures c.is_blank-is_after_blank.ensures held.is_text parts held.same;
    }

pub returns : goal.returns
returns c = collapsed-none _ _ _ c.loop-c.is_after_blank c.in-None.ensures.steps.0.0 c.loop-c.invariant.same
