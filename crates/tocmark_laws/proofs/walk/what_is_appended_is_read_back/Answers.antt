use Rattle.std.proofs.Common.{ℕ, List}
use Rattle.std.specs.List.{concat}
use Rattle.tocmark_laws.specs.Paragraphs.{paragraph_of}
use Rattle.tocmark_state.specs.WorkView.{rendering}
use Rattle.tocmark_state.specs.Walk.{nothing_yet, script}
use Rattle.tocmark_laws.proofs.Handed.{kept_in_parts}
use Rattle.tocmark_laws.proofs.walk.what_is_appended_is_read_back.Goals as goal

pub returns : goal.returns
returns g c contents options reading flags source text w v p keeps off star utf8 clean made =
    let texts : List (List ℕ) = (script (rendering options reading) source (nothing_yet flags) (paragraph_of text)).texts in
    record {
      more = concat texts;
      behind = kept_in_parts contents keeps texts w v made.1;
      read = (c.a_paragraph_is_read_back.ensures options reading flags source text off star utf8 clean).read;
    }
