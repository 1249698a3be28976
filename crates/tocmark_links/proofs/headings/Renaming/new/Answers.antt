use Rattle.std.proofs.Common.{◌∙◌, ap}
use Rattle.tocmark_links.specs.Headings.{first_from}
use Rattle.tocmark_links.proofs.headings.Renaming.new.Goals as goal

pub returns : goal.returns
returns c = record {
  is_file = c.in_ok-from_str.ensures.ok;
  finds_old = λ q. c.in_ok-before.ensures q ∙ ap (λ xs. first_from 0 xs q) c.deref.ensures.value;
  finds_new = λ q. c.in_ok-after.ensures q ∙ ap (λ xs. first_from 0 xs q) c.deref-2.ensures.value;
}
