-- A container between one token and the same again.
use Rattle.std.proofs.Common.{◌≡◌, ℕ, List, ap, sym, ◌∙◌}
use Rattle.tocmark_event.specs.View.{TagView}
use Rattle.tocmark_spelling.specs.Opening.{open_delimited}
use Rattle.tocmark_spelling.specs.Page.{Path, Page}

pub same-delimited : (t : TagView) (token before after : List ℕ) (path : Path) (p : Page) → before ≡ token → after ≡ before → open_delimited t token token path p ≡ open_delimited t before after path p
same-delimited t token before after path p e f =
    ap (λ x. open_delimited t x x path p) (sym e) ∙ ap (λ y. open_delimited t before y path p) (sym f)
