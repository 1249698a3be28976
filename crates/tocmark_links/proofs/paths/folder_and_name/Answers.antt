use Rattle.tocmark_links.proofs.Cutting.{folder-none, folder-some}
use Rattle.tocmark_links.proofs.paths.folder_and_name.Goals as goal

pub returns-in-None : goal.returns-in-None
returns-in-None c = folder-none c.args.path.now c.in-None.ensures.cases

pub returns-in-Some : goal.returns-in-Some
returns-in-Some c =
    folder-some c.args.path.now c.in-Some.parts.0.now c.in-Some.parts.1.now c.in-Some.ensures.cases
