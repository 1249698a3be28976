use Rattle.tocmark_commonmark.proofs.StandardImagesSecond.{standard-images-second-right}
use Rattle.tocmark_commonmark.proofs.standard.standard_images_second_are_right.Goals as goal

pub returns : goal.returns
returns c = standard-images-second-right
