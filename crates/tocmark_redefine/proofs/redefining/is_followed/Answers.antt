use Rattle.std.proofs.Common.{◌≡◌, ◌∙◌, ap, sym, map, arith, string_bytes, List, ℕ, IsTrue}
use Rattle.std.proofs.lemmas.List.{with_items_is}
use Rattle.std.proofs.lemmas.Result.{IfOk-weaker}
use Rattle.tocmark_event.specs.Merged.{merged}
use Rattle.tocmark_compare.specs.Given.{found_events, given_events}
use Rattle.tocmark_compare.proofs.Found.{found-given}
use Rattle.tocmark_reader.specs.Definitions.{said_view}
use Rattle.tocmark_redefine.specs.Followed.{IsFollowed, definitions_under, events_under, followed, followed_in}
use Rattle.tocmark_redefine.proofs.Followings.{all_followed}
use Rattle.tocmark_redefine.proofs.redefining.is_followed.Goals as goal

pub returns : goal.returns
returns c =
    let flags = c.args.flags in
    let text : List ℕ = string_bytes c.args.redefined.now.text in
    let found : given_events c.deref-3.result.now ≡ events_under flags text =
    ap given_events c.deref-3.ensures.value
    ∙ sym (found-given c.in_ok-found.found)
    ∙ ap found_events c.in_ok-found.ensures.reading
    ∙ ap (events_under flags) c.as_str.ensures.value in
    let wanted : given_events c.deref-4.result.now ≡ followed_in flags c.args.source.now text (events_under flags c.args.source.now) =
    ap given_events (c.deref-4.ensures.value ∙ with_items_is c.in_ok-wanted.wanted.events c.follow.new.events (omega arith))
    ∙ all_followed followed (map said_view c.deref.result.now) (definitions_under flags c.args.source.now) (map said_view c.deref-2.result.now) (definitions_under flags text) (given_events c.follow.new.events) (given_events c.deref_mut.result.now) (events_under flags c.args.source.now)
    c.in_ok-follow.ensures
    (ap given_events c.deref_mut.ensures.value ∙ sym (found-given c.in_ok-wanted.wanted) ∙ ap found_events c.in_ok-wanted.ensures.reading)
    (ap (map said_view) c.deref.ensures.value ∙ c.requires.olds)
    (ap (map said_view) c.deref-2.ensures.value ∙ c.requires.news) in
    IfOk-weaker c.are_same.result (λ same. (IsTrue same → merged (given_events c.deref-3.result.now) ≡ merged (given_events c.deref-4.result.now)) × (merged (given_events c.deref-3.result.now) ≡ merged (given_events c.deref-4.result.now) → IsTrue same)) (λ same. IsTrue same → IsFollowed flags c.args.source.now text)
    (λ same h is. sym (ap merged found) ∙ h.0 is ∙ ap merged wanted) c.are_same.ensures
