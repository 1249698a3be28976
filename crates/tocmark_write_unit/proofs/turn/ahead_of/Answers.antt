use Rattle.std.proofs.Common.{◌≡◌, ◌+◌, ◌∙◌, ap, sym, subst, refl, slice_index_or}
use Rattle.tocmark_write_pending.proofs.FactLemmas.{foreseen}
use Rattle.tocmark_write_pending.specs.Ahead.{behind_body}
use Rattle.tocmark_write_pending.specs.BodyFacts.{IsForeseen, no_facts}
use Rattle.tocmark_write_pending.specs.declared.body_facts.BodyFacts.{BodyFacts}
use Rattle.tocmark_write_emphasis.proofs.Nodes.{behind-end}
use Rattle.tocmark_event.specs.View.{Start}
use Rattle.tocmark_write_blocks.specs.declared.ahead.Ahead.{Ahead}
use Rattle.tocmark_write_blocks.specs.Raw.{IsRaw, no_raw}
use Rattle.tocmark_write_blocks.specs.declared.raw_facts.RawFacts.{RawFacts}
use Rattle.tocmark_spelling.specs.Machine.{around, kids_of}
use Rattle.tocmark_spelling.specs.Page.{front}
use Rattle.tocmark_spelling.specs.Scans.{span}
use Rattle.tocmark_spelling.specs.Words.{or_else}
use Rattle.tocmark_write_blocks.specs.Kinds.{opens}
use Rattle.tocmark_write_unit.proofs.Found.{some-at}
use Rattle.tocmark_write_unit.proofs.Told.{body-told, text-told}
use Rattle.tocmark_write_unit.specs.CensusOf.{asks_body}
use Rattle.tocmark_write_unit.specs.NeighboursOf.{before_in, look_in, next_in, rest_in, unit_in}
use Rattle.tocmark_write_unit.proofs.turn.ahead_of.Goals as goal

pub returns : goal.returns
returns c = λ reading o flags s m t is.
    let n = c.args.around in
    let i = n.place in
    let rest = rest_in n in
    let kids = kids_of rest in
    let a = around (before_in n) (behind_body rest) (next_in n) in
    let end_is : c.body_end.result ≡ i + 1 + span 0 rest = c.body_end.ensures.start (unit_in n) t rest is.ends is.at in
    let P : BodyFacts → Type 0 = IsForeseen (look_in s m t n) in
    let Q : RawFacts → Type 0 = IsRaw o (Start t) kids in
    let facts_at = c.facts_at.ensures ∙ ap (λ x. slice_index_or x i no_facts) c.deref-2.ensures.value in
    let raw_is = c.raw_at-raw.ensures ∙ ap (λ x. slice_index_or x i no_raw) c.deref.ensures.value in
    let told : Ahead = record { body = c.facts_at.result; next = c.following.result; longest = c.raw_at-raw.result.longest; blank = c.raw_at-raw.result.blank; closed = c.raw_at-raw.result.closed } in
    record {
      body = body-told t (look_in s m t n) c.facts_at.result
          (λ asks.
          let facts = is.found.facts (some-at (opens asks_body) (unit_in n) i (Start t) rest is.at asks) in
          subst P (sym (facts_at ∙ facts.at i)) (foreseen s m t kids a));
      next = sym (c.following.ensures ∙ ap (λ x. or_else (front x) (next_in n)) (behind-end (unit_in n) rest i c.body_end.result t is.at end_is));
      text = text-told s m o kids a c.raw_at-raw.result told refl refl refl t (subst Q (sym raw_is) (is.found.raw.at i (Start t) rest is.at));
    }
