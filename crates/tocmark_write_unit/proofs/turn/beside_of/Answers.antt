use Rattle.std.proofs.Common.{◌+◌, ◌∙◌, ap, map}
use Rattle.tocmark_spelling.proofs.Turns.{events-drop}
use Rattle.tocmark_spelling.specs.Buffered.{buffered_view}
use Rattle.tocmark_spelling.specs.Kinds.{and_is, is_text}
use Rattle.tocmark_spelling.specs.Page.{front}
use Rattle.tocmark_write_unit.proofs.turn.beside_of.Goals as goal

pub returns : goal.returns
returns c =
    let n = c.args.around in
    record {
      previous_is = c.previous_of.ensures;
      text_is = c.goes_on.ensures ∙ ap (λ x. and_is is_text (front x)) (ap (map buffered_view) c.rest_of.ensures ∙ events-drop n.unit.now (n.place + 1));
      next_is = c.following.ensures;
    }
