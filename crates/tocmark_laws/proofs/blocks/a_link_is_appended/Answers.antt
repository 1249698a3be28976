use Rattle.tocmark_state.specs.WorkView.{rendering}
use Rattle.tocmark_state.specs.Walk.{nothing_yet, script}
use Rattle.tocmark_laws.proofs.Appended.{appended}
use Rattle.tocmark_laws.proofs.Links.{handed}
use Rattle.tocmark_laws.specs.Links.{link_events, link_text}
use Rattle.tocmark_laws.proofs.blocks.a_link_is_appended.Goals as goal

pub returns : goal.returns
returns g c contents options reading flags source dest title id text w v p off keeps made =
    appended contents keeps w v (script (rendering options reading) source (nothing_yet flags) (link_events dest title id text)) (link_text options flags dest title text)
    (handed options reading flags dest title id text off source) made.1
