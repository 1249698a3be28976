use Rattle.std.proofs.Common.{ℕ, List}
use Rattle.std.specs.List.{concat}
use Rattle.tocmark_state.specs.WorkView.{rendering}
use Rattle.tocmark_state.specs.Walk.{nothing_yet, script}
use Rattle.tocmark_laws.proofs.Appended.{appended}
use Rattle.tocmark_laws.proofs.CodeBlocks.{is_fenced}
use Rattle.tocmark_laws.specs.CodeBlocks.{code_events, code_text}
use Rattle.tocmark_laws.proofs.blocks.a_code_block_is_appended.Goals as goal

pub returns : goal.returns
returns g c contents options reading flags source info ts w v p off keeps made =
    let is = is_fenced options reading flags info ts off source in
    let fence : List ℕ = is.0 in
    (fence, is.1, appended contents keeps w v (script (rendering options reading) source (nothing_yet flags) (code_events info ts)) (code_text fence info (concat ts)) is.2 made.1)
