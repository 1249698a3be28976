use Rattle.std.proofs.Common.{◌≡◌, ◌∙◌, ap, ap₂, sym, true, map, bytes_eq}
use Rattle.std.specs.Cmp.Lexicographic.{same_text}
use Rattle.tocmark_event.specs.Merged.{merged}
use Rattle.tocmark_event.specs.Text.{text_of}
use Rattle.tocmark_event.specs.View.{event_view}
use Rattle.tocmark_compare.proofs.SameIsEqual.{same-equal}
use Rattle.tocmark_compare.specs.Digest.{Texts, said}
use Rattle.tocmark_compare.proofs.digest.Digest.is_same.Goals as goal

pub returns-then-eq : goal.returns-then-eq
returns-then-eq c = λ t.
    let alike : bytes_eq c.as_slice.result.now c.as_slice-2.result.now ≡ true = sym c.eq.ensures ∙ c.if-eq.true in
    let bytes : c.args.self.now.bytes.items ≡ c.args.other.now.bytes.items =
    sym c.as_slice.ensures.value ∙ same_text c.as_slice.result.now c.as_slice-2.result.now (sym alike) ∙ c.as_slice-2.ensures.value in
    let events : map (event_view text_of) c.deref.result.now ≡ map (event_view text_of) c.deref-then-eq.result.now =
    same-equal (map (event_view text_of) c.deref.result.now) (map (event_view text_of) c.deref-then-eq.result.now) (sym c.same_events.ensures ∙ t) in
    let others : map (event_view text_of) c.args.self.now.others.items ≡ map (event_view text_of) c.args.other.now.others.items =
    ap (map (event_view text_of)) (sym c.deref.ensures.value) ∙ events ∙ ap (map (event_view text_of)) c.deref-then-eq.ensures.value in
    ap₂ (λ xs os. merged (said Texts xs os)) bytes others
