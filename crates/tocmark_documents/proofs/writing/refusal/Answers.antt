use Rattle.std.proofs.Common.{◌-◌, ◌≤◌, map, subst, sym, ℕ}
use Rattle.tocmark_event.specs.Text.{text_of}
use Rattle.tocmark_json.specs.Json.{pair_view}
use Rattle.tocmark_documents.specs.Interchange.{in_source}
use Rattle.tocmark_documents.proofs.Placed.{length_kept, place_known}
use Rattle.tocmark_documents.proofs.writing.refusal.Goals as goal

pub returns : goal.returns
returns c =
    let pairs = in_source c.args.has_source (map (pair_view text_of) c.args.pairs.now) in
    place_known c.args.source.now pairs c.in_ok-event.event c.place_at.result
    (subst (λ (n : ℕ). c.in_ok-event.event ≤ n - 1) (sym (length_kept c.args.has_source c.args.pairs.now)) c.in_ok-event.ensures)
    c.place_at.ensures.event c.place_at.ensures.lines
