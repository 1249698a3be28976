use Rattle.std.proofs.Common.{subst, sym}
use Rattle.std.specs.Str.{IsCharBoundary}
use Rattle.tocmark_write_texts.specs.Escape.{place_of}
use Rattle.tocmark_write_texts.proofs.Runs.{size_boundary}
use Rattle.tocmark_write_texts.proofs.escape.cut_bare.Goals as goal

pub split_at-requires : goal.split_at-requires
split_at-requires c =
    subst (IsCharBoundary c.args.text.now) (sym c.bare_size.ensures) (size_boundary (place_of c.args.place.now) c.args.only_digits c.args.text.now c.utf8.text)
