use Rattle.std.proofs.Common.{◌∙◌, ap, sym, is_some}
use Rattle.std.specs.HashMap.{get_by_text}
use Rattle.tocmark_links.specs.Anchors.{numbered}
use Rattle.tocmark_links.proofs.Numbers.{one-more}
use Rattle.tocmark_links.proofs.anchors.first_free.Goals as goal

pub returns-then-not-contains_key : goal.returns-then-not-contains_key
returns-then-not-contains_key c = record {
  has_number = c.in_ok-name.ensures;
  is_free = ap (λ name. is_some (get_by_text c.args.taken.now name)) (sym c.as_str.ensures.value) ∙ sym c.contains_key.ensures ∙ c.if-not-contains_key.true;
  is_first = c.loop-number.invariant;
}

pub loop-number-preserved : goal.loop-number-preserved
loop-number-preserved c =
    one-more (λ n. is_some (get_by_text c.args.taken.now (numbered c.args.slugs c.args.base.now n))) c.args.from c.loop-number.number c.loop-number.invariant
    (
    ap (λ name. is_some (get_by_text c.args.taken.now name)) (sym (c.as_str.ensures.value ∙ c.in_ok-name.ensures))
    ∙ sym c.contains_key.ensures
    ∙ c.if-not-contains_key.false
    )
