use Rattle.tocmark_commonmark.proofs.StandardImagesFirst.{standard-images-first-right}
use Rattle.tocmark_commonmark.proofs.standard.standard_images_first_are_right.Goals as goal

pub returns : goal.returns
returns c = standard-images-first-right
