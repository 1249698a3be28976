-- A list that is refused as unexpected has an event that is, or a container that isn't ended; one that can't be represented
-- has a unit that can't.
use Rattle.std.proofs.Common.{◌≡◌, ℕ, Bool, true, false, List, [], ◌∷◌, Option, Some, None, Result, Ok, Err, refl, sym, ap, ◌∙◌, ◌++◌}
use Rattle.std.proofs.lemmas.Bool.{false≢true}
use Rattle.std.specs.Prelude.{not, ◌&&◌}
use Rattle.tocmark_event.specs.Forest.{IsBalanced, IsReading}
use Rattle.tocmark_event.specs.View.{EventView, SourcedEvent}
use Rattle.tocmark_event.specs.declared.event.TagEnd.{TagEnd}
use Rattle.tocmark_event.specs.declared.options.Error.TheVariants.{UnexpectedEvent, Unrepresentable}
use Rattle.tocmark_event.specs.declared.options.Error.{Error}
use Rattle.tocmark_event.specs.Options.{OptionsView}
use Rattle.tocmark_event.specs.Reading.{ReadingView}
use Rattle.tocmark_event.specs.declared.event.flags.ParserOptions.{ParserOptions}
use Rattle.tocmark_laws.specs.Causes.{Cause, BadRange, RefusedUnit, WrongEnd, EndCause, OpenContainer, RefusedLastUnit, IsRefusedIn}
use Rattle.tocmark_laws.specs.Causes as refused
use Rattle.tocmark_state.specs.Ranges.{Pair}
use Rattle.tocmark_state.specs.Walk.{Done, Kept, Rendering, Standing, ended, ended_at, go_on, is_due, is_whole, script, walk}
use Rattle.tocmark_state.specs.WorkView.{kept_behind, rendering_behind}
use Rattle.tocmark_laws.proofs.Causes.{script_cause}
use Rattle.tocmark_write_pending.proofs.Balanced.{reading-balanced}
use Rattle.tocmark_laws.proofs.Reading.{walk_nested}
use Rattle.tocmark_laws.proofs.Unexpected.{rendering-misplaced, rendering-unrepresentable}
use Rattle.tocmark_spelling.specs.Page.{Reference}
use Rattle.tocmark_write_labels.specs.Defined.{behind}
use Rattle.tocmark_write_labels.specs.Document.{DocumentView}
use Rattle.tocmark_laws.specs.UnrepresentableLists.{HasUnrepresentableEnd, HasUnrepresentableUnit, IsUnrepresentableIn, IsUnrepresentableUnit}
use Rattle.tocmark_laws.specs.UnrepresentableLists as unrepresentable
use Rattle.tocmark_laws.specs.Unexpected.{setting_at, IsMisplacedUnit, IsUnexpected, InUnit, ItsEnd, IsUnexpectedEnd, IsOpen, InLastUnit, IsUnexpectedIn, AtPair, AtEnd}

-- a unit is due only where no container is open
none-open : (deferred : Bool) (os : List TagEnd) (es : List SourcedEvent) → (not deferred && is_whole os es) ≡ true → os ≡ []
none-open deferred [] es h = refl
none-open true (o ∷ os) es h = absurd (false≢true h)
none-open false (o ∷ os) es h = absurd (false≢true h)

cons-nil : (o : TagEnd) (os : List TagEnd) → o ∷ os ≡ [] → ⊥
cons-nil o os n = cc

-- a script that goes on to its end
end-outcome : (how : Rendering) (source : List ℕ) (s at : Standing) (p : List Pair) → (walk how source s p).outcome ≡ Ok at → (script how source s p).outcome ≡ (ended how at).outcome
end-outcome how source s at p h = ap (λ o. (go_on (walk how source s p).texts o (λ t. ended how t)).outcome) h

-- an open container is unexpected at the end
open-end : (how : Rendering) (at : Standing) (o : TagEnd) (os : List TagEnd) → at.open_tags ≡ o ∷ os → (ended how at).outcome ≡ Err UnexpectedEvent
unfolding ended
open-end how at o os h = ap (λ tags. (ended_at how tags at).outcome) h

other-error : (r : Result Done Error) → r ≡ Err UnexpectedEvent → r ≡ Err Unrepresentable → ⊥
other-error r h k = absurd (cc)

-- a unit that is refused has a misplaced event
abbrev Misplaces : Rendering → OptionsView → (List ℕ → ParserOptions → ReadingView) → Type 0
Misplaces how options reading = (kept : Kept) (unit : List SourcedEvent) (next : Option EventView) → IsBalanced unit → how.choice kept unit next ≡ Err UnexpectedEvent → IsMisplacedUnit (setting_at options reading kept) unit

-- or it can't be represented after the document that is made of the one there
abbrev Represents : Rendering → (DocumentView → DocumentView) → OptionsView → (List ℕ → ParserOptions → ReadingView) → Type 0
Represents how seen options reading = (kept : Kept) (unit : List SourcedEvent) (next : Option EventView) → IsBalanced unit → how.choice kept unit next ≡ Err Unrepresentable → IsUnrepresentableUnit (setting_at options reading kept) (seen kept.document) unit next

module _ (how : Rendering) (options : OptionsView) (reading : List ℕ → ParserOptions → ReadingView) (source : List ℕ) (from : Standing) (begun : IsReading from.pending from.open_tags) where
  abbrev Stands : List Pair → Standing → Type 0
  Stands p at = (walk how source from p).outcome ≡ Ok at

  -- what is pending is the events of a forest where no container is open
  balanced : (p : List Pair) (at : Standing) → Stands p at → at.open_tags ≡ [] → IsBalanced at.pending
  balanced p at stands o = let nested = walk_nested how source from at p begun stands in reading-balanced at.pending (rw o at nested)

  due-balanced : (p : List Pair) (at : Standing) → Stands p at → is_due at ≡ true → IsBalanced at.pending
  due-balanced p at stands due = balanced p at stands (none-open at.is_deferred at.open_tags at.pending due)

  pair-cause : Misplaces how options reading → (p : List Pair) (at : Standing) (pair : Pair) → Stands p at → Cause how source at pair UnexpectedEvent → IsUnexpected (setting_at options reading at.document) at pair
  pair-cause misplaced p at pair stands (BadRange bad) = absurd (let is = bad.error_is in cc)
  pair-cause misplaced p at pair stands (RefusedUnit unit) =
      InUnit (misplaced at.document at.pending (Some pair.0) (due-balanced p at stands unit.due) unit.refused)
  pair-cause misplaced p at pair stands (WrongEnd wrong) = ItsEnd wrong

  end-cause : Misplaces how options reading → (p : List Pair) (at : Standing) → Stands p at → EndCause how at UnexpectedEvent → IsUnexpectedEnd (setting_at options reading at.document) at
  end-cause misplaced p at stands (OpenContainer o) = IsOpen o.opened
  end-cause misplaced p at stands (RefusedLastUnit unit) = by_tags at.open_tags refl
    where
      by_tags : (os : List TagEnd) → at.open_tags ≡ os → IsUnexpectedEnd (setting_at options reading at.document) at
      by_tags [] e = InLastUnit (misplaced at.document at.pending None (balanced p at stands e) unit.refused)
      by_tags (o ∷ os) e = IsOpen (λ n. cons-nil o os (sym e ∙ n))

  pub unexpected-cause : Misplaces how options reading → (p : List Pair) → (script how source from p).outcome ≡ Err UnexpectedEvent → IsUnexpectedIn how options reading source from p
  unexpected-cause misplaced p h = by_place (script_cause how source from p UnexpectedEvent h)
    where
      by_place : IsRefusedIn how source from p UnexpectedEvent → IsUnexpectedIn how options reading source from p
      by_place (refused.AtPair r) = AtPair (record { before = r.before; pair = r.pair; after = r.after; is = r.is; at = r.at; stands = r.stands; cause = pair-cause misplaced r.before r.at r.pair r.stands r.cause })
      by_place (refused.AtEnd r) = AtEnd (record { at = r.at; stands = r.stands; cause = end-cause misplaced p r.at r.stands r.cause })

  -- at a pair, a unit can't be represented
  pair-unit : (seen : DocumentView → DocumentView) → Represents how seen options reading → (before : List Pair) (pair : Pair) (after p : List Pair) (at : Standing) → p ≡ before ++ pair ∷ after → Stands before at → Cause how source at pair Unrepresentable
      → HasUnrepresentableUnit how seen options reading source from p
  pair-unit seen represents before pair after p at is stands (BadRange bad) = absurd (let is = bad.error_is in cc)
  pair-unit seen represents before pair after p at is stands (WrongEnd wrong) = absurd (let is = wrong.error_is in cc)
  pair-unit seen represents before pair after p at is stands (RefusedUnit unit) = record {
    before = before;
    pair = pair;
    after = after;
    is = is;
    at = at;
    stands = stands;
    due = unit.due;
    writable = unit.writable;
    cause = represents at.document at.pending (Some pair.0) (due-balanced before at stands unit.due) unit.refused;
  }

  -- at the end, the last unit can't be represented
  end-unit : (seen : DocumentView → DocumentView) → Represents how seen options reading → (p : List Pair) (at : Standing) → Stands p at → (script how source from p).outcome ≡ Err Unrepresentable → EndCause how at Unrepresentable
      → HasUnrepresentableEnd how seen options reading source from p
  end-unit seen represents p at stands h (OpenContainer o) = absurd (let is = o.error_is in cc)
  end-unit seen represents p at stands h (RefusedLastUnit unit) = by_tags at.open_tags refl
    where
      by_tags : (os : List TagEnd) → at.open_tags ≡ os → HasUnrepresentableEnd how seen options reading source from p
      by_tags [] e = record { at = at; stands = stands; closed = e; cause = represents at.document at.pending None (balanced p at stands e) unit.refused }
      by_tags (o ∷ os) e = absurd (other-error (ended how at).outcome (open-end how at o os e) (sym (end-outcome how source from at p stands) ∙ h))

  pub unrepresentable-cause : (seen : DocumentView → DocumentView) → Represents how seen options reading → (p : List Pair) → (script how source from p).outcome ≡ Err Unrepresentable → IsUnrepresentableIn how seen options reading source from p
  unrepresentable-cause seen represents p h = by_place (script_cause how source from p Unrepresentable h)
    where
      by_place : IsRefusedIn how source from p Unrepresentable → IsUnrepresentableIn how seen options reading source from p
      by_place (refused.AtPair r) = unrepresentable.AtPair (pair-unit seen represents r.before r.pair r.after p r.at r.is r.stands r.cause)
      by_place (refused.AtEnd r) = unrepresentable.AtEnd (end-unit seen represents p r.at r.stands h r.cause)

-- where a document has these definitions already, units are refused for the same causes
pub told-misplaces : (defined : List Reference) (options : OptionsView) (reading : List ℕ → ParserOptions → ReadingView) → Misplaces (rendering_behind defined options reading) options reading
told-misplaces defined options reading kept unit next balanced h = rendering-misplaced options reading (kept_behind defined kept) unit next balanced h

pub told-represents : (defined : List Reference) (options : OptionsView) (reading : List ℕ → ParserOptions → ReadingView) → Represents (rendering_behind defined options reading) (behind defined) options reading
told-represents defined options reading kept unit next balanced h = rendering-unrepresentable options reading (kept_behind defined kept) unit next balanced h
