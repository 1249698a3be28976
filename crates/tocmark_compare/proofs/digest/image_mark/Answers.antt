use Rattle.std.proofs.Common.{ℕ, ◌∙◌, ap, ◌+◌, ◌-◌, ◌^◌, min, subst, sym}
use Rattle.tocmark_event.specs.View.{Image}
use Rattle.tocmark_compare.specs.Digest.{IsLinkMark}
use Rattle.tocmark_compare.proofs.Marks.{image-marked}
use Rattle.tocmark_compare.proofs.digest.image_mark.Goals as goal

pub returns : goal.returns
returns c =
    subst (λ (m : ℕ). IsLinkMark m (λ d t i. Image c.args.link d t i))
    (sym (c.saturating_add.ensures ∙ ap (λ n. min (n + 97) (2 ^ 8 - 1)) c.link_number.ensures)) (image-marked c.args.link)
