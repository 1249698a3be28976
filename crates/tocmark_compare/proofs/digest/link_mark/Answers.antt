use Rattle.std.proofs.Common.{ℕ, ◌∙◌, ap, ◌+◌, ◌-◌, ◌^◌, min, subst, sym}
use Rattle.tocmark_event.specs.View.{Link}
use Rattle.tocmark_compare.specs.Digest.{IsLinkMark}
use Rattle.tocmark_compare.proofs.Marks.{link-marked}
use Rattle.tocmark_compare.proofs.digest.link_mark.Goals as goal

pub returns : goal.returns
returns c =
    subst (λ (m : ℕ). IsLinkMark m (λ d t i. Link c.args.link d t i))
    (sym (c.saturating_add.ensures ∙ ap (λ n. min (n + 86) (2 ^ 8 - 1)) c.link_number.ensures)) (link-marked c.args.link)
