-- What one more event makes of those that wait.
use Rattle.std.proofs.Common.{◌≡◌, ℕ, ◌<◌, ◌≤◌, map, Bool, true, false, if◌then◌else◌, Option, Some, None, Result, Ok, Err, List, [], ◌∷◌, ◌++◌, refl, sym, ap, ◌∙◌, subst, drop, length, reverse, arith}
use Rattle.std.proofs.lemmas.List.{drop_all, length-map, length-reverse, map-append, reverse-append}
use Rattle.std.proofs.Math.ListN.{set}
use Rattle.std.proofs.Math.Seq.{get_or-append_seam}
use Rattle.std.specs.Prelude.{is_ok, slice_index_or}
use Rattle.std.proofs.lemmas.Bool.{false≢true, true≢false}
use Rattle.tocmark_event.specs.Ends.{same_end}
use Rattle.tocmark_event.specs.View.{EventView, Start, End, Leaf, SourcedEvent, unsourced}
use Rattle.tocmark_event.specs.declared.event.TagEnd.{TagEnd}
use Rattle.tocmark_event.specs.declared.options.Error.{Error}
use Rattle.tocmark_event.specs.declared.options.Error.TheVariants as error
use Rattle.tocmark_spelling.specs.Buffered.{buffered_view, sourced}
use Rattle.tocmark_spelling.specs.declared.buffered.BufferedEvent.{BufferedEvent}
use Rattle.tocmark_spelling.specs.Scans.{end_at}
use Rattle.tocmark_write_pending.specs.OpenContainers.{AreOpenFrom, EndsAt, ended_by, ends_with, opened}
use Rattle.tocmark_write_pending.specs.Pending.{PendingView, behind, closed, nested, one_more}
use Rattle.tocmark_write_pending.specs.DelimiterColumn.{AreNumbered, numbers_of, widths_of}
use Rattle.tocmark_write_pending.specs.PendingOf.{AreDelimiters, AreIndexed, ends_awaited, places_of}
use Rattle.tocmark_write_pending.specs.RunColumn.{HoldRuns, begins_in_run, run_view}
use Rattle.tocmark_write_pending.specs.declared.runs.Run.{Run}
use Rattle.tocmark_write_pending.specs.Waiting.{has_ambiguous_list}
use Rattle.tocmark_write_pending.specs.WidthColumn.{width_at, width_ended}
use Rattle.tocmark_write_pending.specs.declared.delimiters.Delimiter.{Delimiter}
use Rattle.tocmark_write_pending.specs.declared.nesting.OpenContainer.{OpenContainer}
use Rattle.tocmark_write_pending.proofs.Balanced.{reading-more, reading-nothing}
use Rattle.tocmark_write_pending.proofs.DelimiterColumn.{beyond-before}
use Rattle.tocmark_write_pending.proofs.EndColumn.{ends-more}
use Rattle.tocmark_write_pending.proofs.OpenContainers.{never, opens-more, place-inside, some-same}
use Rattle.tocmark_write_pending.proofs.RunColumn.{runs-none}
use Rattle.tocmark_write_pending.proofs.WidthColumn.{widths-more}

pub unsourced-sourced : (e : EventView) (source : Option (List ℕ)) → unsourced (sourced e source) ≡ e
unsourced-sourced (Start t) source = refl
unsourced-sourced (End k) source = refl
unsourced-sourced (Leaf l) source = refl

abbrev closed_on : Bool → List TagEnd → Result (List TagEnd) Error
closed_on b os = if b then Ok os else Err error.UnexpectedEvent

closed-on-wrong : (b : Bool) (os : List TagEnd) → is_ok (closed_on b os) ≡ false → closed_on b os ≡ Err error.UnexpectedEvent
closed-on-wrong true os h = absurd (true≢false h)
closed-on-wrong false os h = refl

closed-wrong : (os : List TagEnd) (k : TagEnd) → is_ok (closed os k) ≡ false → closed os k ≡ Err error.UnexpectedEvent
closed-wrong [] k h = refl
closed-wrong (o ∷ os) k h = closed-on-wrong (same_end k o) os h

nested-wrong : (os : List TagEnd) (e : EventView) → is_ok (nested os e) ≡ false → nested os e ≡ Err error.UnexpectedEvent
nested-wrong os (Start t) h = absurd (true≢false h)
nested-wrong os (End k) h = closed-wrong os k h
nested-wrong os (Leaf l) h = absurd (true≢false h)

module _ (p : PendingView) (e : EventView) (source : Option (List ℕ)) where
  -- an event that can't come is refused
  pub event-refused : is_ok (nested p.open_tags e) ≡ false → one_more p (sourced e source) ≡ Err error.UnexpectedEvent
  event-refused h =
      ap (behind p (sourced e source)) (ap (nested p.open_tags) (unsourced-sourced e source) ∙ nested-wrong p.open_tags e h)

  -- an event that can come is after the others
  pub event-joined : (os : List TagEnd) → nested p.open_tags e ≡ Ok os → one_more p (sourced e source) ≡ Ok (record { events = p.events ++ sourced e source ∷ []; open_tags = os })
  event-joined os h = ap (behind p (sourced e source)) (ap (nested p.open_tags) (unsourced-sourced e source) ∙ h)

-- the item after others is found at their count
pub put-there : {A : Type 0} (xs all : List A) (b d : A) (n : ℕ) → all ≡ xs ++ b ∷ [] → n ≡ length xs → d ≡ slice_index_or all n d → d ≡ b
put-there xs all b d n is at h =
    h
    ∙ ap (λ l. slice_index_or l n d) is
    ∙ ap (λ i. slice_index_or (xs ++ b ∷ []) i d) at
    ∙ get_or-append_seam xs b [] d

-- one event more that waits
pub events-more : (es now : List BufferedEvent) (b : BufferedEvent) (e : SourcedEvent) → now ≡ es ++ b ∷ [] → buffered_view b ≡ e → map buffered_view now ≡ map buffered_view es ++ e ∷ []
events-more es now b e h is =
    ap (map buffered_view) h ∙ map-append buffered_view es (b ∷ []) ∙ ap (λ x. map buffered_view es ++ x ∷ []) is

-- ---- what is kept beside the events

-- nothing is kept of no event
pub index-nothing : AreIndexed [] [] [] [] false
index-nothing = record { nested = reading-nothing; places_open = tt; ends_known = record { len = refl; at = λ i. ap (end_at i) (sym (drop_all i [] (omega arith))) }; ambiguity = refl }

delimiters-nothing : AreDelimiters [] [] []
delimiters-nothing = record {
  runs_held = runs-none;
  numbered = record { len = omega arith; at = λ i h. absurd (true≢false (sym h ∙ ap begins_in_run (drop_all i [] (omega arith)))); beyond = λ i le. ap begins_in_run (drop_all i [] (omega arith)) };
  widths = record { at = λ i. ap width_at (sym (drop_all i [] (omega arith))) };
}

pub all-nothing : AreIndexed [] [] [] [] false × AreDelimiters [] [] []
all-nothing = (index-nothing, delimiters-nothing)

-- as many Ends are awaited, and as many places kept, as containers are open
pub awaited-count : (cs : List OpenContainer) → length (ends_awaited cs) ≡ length cs
awaited-count cs = length-reverse (map (λ (c : OpenContainer). c.end) cs) ∙ length-map cs (λ (c : OpenContainer). c.end)

pub same-count : (cs : List OpenContainer) → length (ends_awaited cs) ≡ length (places_of cs)
same-count cs =
    awaited-count cs
    ∙ sym (length-map cs (λ (c : OpenContainer). c.place))
    ∙ sym (length-reverse (map (λ (c : OpenContainer). c.place) cs))

-- an event that can come ends the innermost container, if it is an End
pub ended-at : (es : List SourcedEvent) (os : List TagEnd) (is : List ℕ) (e : SourcedEvent) → length os ≡ length is → AreOpenFrom es 0 is → is_ok (nested os (unsourced e)) ≡ true → EndsAt es e (ended_by (unsourced e) is)
ended-at es os is (Start t) n a h = tt
ended-at es [] [] (End k) n a h = absurd (false≢true h)
ended-at es (o ∷ os) [] (End k) n a h = absurd (omega (arith, n))
ended-at es os (p ∷ is) (End k) n a h = a.0
ended-at es os is (Leaf l) n a h = tt

-- what is kept with one event more
event-indexed : (es : List SourcedEvent) (os now : List TagEnd) (is : List ℕ) (ends : List (Option ℕ)) (was b : Bool) (e : SourcedEvent) (o : Option ℕ) → AreIndexed es os is ends was → length os ≡ length is → o ≡ ended_by (unsourced e) is
    → nested os (unsourced e) ≡ Ok now → ((e : SourcedEvent) → EndsAt es e o → b ≡ has_ambiguous_list false (es ++ e ∷ []))
    → AreIndexed (es ++ e ∷ []) now (opened (unsourced e) (length es) is) (ends_with o ends) b
event-indexed es os now is ends was b e o held same by n a =
    let at : EndsAt es e o = subst (EndsAt es e) (sym by) (ended-at es os is e same held.places_open (ap is_ok n)) in
    record {
      nested = reading-more es e os now held.nested n;
      places_open = opens-more es is e held.places_open;
      ends_known = ends-more es e o ends held.ends_known at;
      ambiguity = a e at;
    }

sourced-indexed : (es : List SourcedEvent) (os now : List TagEnd) (is : List ℕ) (ends : List (Option ℕ)) (was b : Bool) (e : EventView) (source : Option (List ℕ)) (o : Option ℕ) → AreIndexed es os is ends was → length os ≡ length is → o ≡ ended_by e is
    → nested os e ≡ Ok now → ((e : SourcedEvent) → EndsAt es e o → b ≡ has_ambiguous_list false (es ++ e ∷ []))
    → AreIndexed (es ++ sourced e source ∷ []) now (opened e (length es) is) (ends_with o ends) b
sourced-indexed es os now is ends was b (Start t) source o held same by n a = event-indexed es os now is ends was b (Start t) o held same by n a
sourced-indexed es os now is ends was b (End k) source o held same by n a = event-indexed es os now is ends was b (End k) o held same by n a
sourced-indexed es os now is ends was b (Leaf l) source o held same by n a = event-indexed es os now is ends was b (Leaf (record { leaf = l; source = source })) o held same by n a

-- the same of the lists that are kept now
pub index-joined : (es all : List SourcedEvent) (os now : List TagEnd) (is places : List ℕ) (ends column : List (Option ℕ)) (was b : Bool) (e : EventView) (source : Option (List ℕ)) (o : Option ℕ) → AreIndexed es os is ends was → length os ≡ length is
    → o ≡ ended_by e is → all ≡ es ++ sourced e source ∷ [] → nested os e ≡ Ok now → places ≡ opened e (length es) is → column ≡ ends_with o ends
    → ((e : SourcedEvent) → EndsAt es e o → b ≡ has_ambiguous_list false (es ++ e ∷ []))
    → AreIndexed all now places column b
index-joined es all os now is places ends column was b e source o held same by more n opens closes a =
    subst (λ (xs : List SourcedEvent). AreIndexed xs now places column b) (sym more)
    (subst (λ (ps : List ℕ). AreIndexed (es ++ sourced e source ∷ []) now ps column b) (sym opens)
    (subst (λ (cs : List (Option ℕ)). AreIndexed (es ++ sourced e source ∷ []) now (opened e (length es) is) cs b) (sym closes)
    (sourced-indexed es os now is ends was b e source o held same by n a)))

-- where a container ends there is an event
pub ended-inside : (es : List SourcedEvent) (os : List TagEnd) (is : List ℕ) (ends : List (Option ℕ)) (was : Bool) (e : EventView) (o : Option ℕ) (p : ℕ) → AreIndexed es os is ends was → o ≡ ended_by e is → o ≡ Some p → p < length ends
ended-inside es os is ends was (Start t) o p held by h = absurd (never p (sym by ∙ h))
ended-inside es os [] ends was (End k) o p held by h = absurd (never p (sym by ∙ h))
ended-inside es os (q ∷ is) ends was (End k) o p held by h =
    let same : q ≡ p = some-same q p (sym by ∙ h) in
    let inside = place-inside es q 0 held.places_open.0 in
    omega (arith, same, inside, held.ends_known.len)
ended-inside es os is ends was (Leaf l) o p held by h = absurd (never p (sym by ∙ h))

-- one event more among the delimiters
pub delimiters-joined : (events all : List BufferedEvent) (b : BufferedEvent) (os now : List TagEnd) (is : List ℕ) (e : EventView) (source : Option (List ℕ)) (o : Option ℕ) (runs joined : List Run) (ds mid new : List Delimiter) (w : ℕ)
    → AreOpenFrom (map buffered_view events) 0 is → AreDelimiters (map buffered_view events) runs ds → length os ≡ length is → o ≡ ended_by e is → nested os e ≡ Ok now
    → all ≡ events ++ b ∷ [] → buffered_view b ≡ sourced e source
    → HoldRuns (buffered_view b ∷ reverse (map buffered_view events)) (reverse (map run_view joined))
    → AreNumbered (map buffered_view events ++ buffered_view b ∷ []) (numbers_of mid)
    → ((i : ℕ) → slice_index_or (widths_of mid) i 0 ≡ slice_index_or (widths_of ds) i 0)
    → ((e : SourcedEvent) → EndsAt (map buffered_view events) e o → w ≡ width_ended (map buffered_view events) o)
    → numbers_of new ≡ numbers_of mid → (o ≡ None → new ≡ mid) → ((p : ℕ) → o ≡ Some p → widths_of new ≡ set (widths_of mid) p w)
    → AreDelimiters (map buffered_view all) joined new
delimiters-joined events all b os now is e source o runs joined ds mid new w opens held same by n more copy runs_held numbered widths width numbers none some =
    subst (λ (es : List SourcedEvent). AreDelimiters es joined new) (sym grown)
    (record {
      runs_held = subst (λ (es : List SourcedEvent). HoldRuns es (reverse (map run_view joined))) (sym (reverse-append es (x ∷ []))) runs_held;
      numbered = subst (AreNumbered (es ++ x ∷ [])) (sym numbers) numbered;
      widths = widths-more es (widths_of ds) (widths_of mid) held.widths widths beyond x o (widths_of new) w at (width x at) (λ h. ap widths_of (none h)) some;
    })
  where
    es : List SourcedEvent
    es = map buffered_view events

    x : SourcedEvent
    x = buffered_view b

    grown : map buffered_view all ≡ es ++ x ∷ []
    grown = ap (map buffered_view) more ∙ map-append buffered_view events (b ∷ [])

    event : unsourced x ≡ e
    event = ap unsourced copy ∙ unsourced-sourced e source

    at : EndsAt es x o
    at = subst (EndsAt es x) (sym (by ∙ ap (λ y. ended_by y is) (sym event))) (ended-at es os is x same opens (ap is_ok (ap (nested os) event ∙ n)))

    beyond : (i : ℕ) → length (widths_of mid) ≤ i → begins_in_run (drop i es) ≡ false
    beyond i le = beyond-before es x (numbers_of mid) numbered i (omega (arith, le, length-map mid (λ (d : Delimiter). d.run), length-map mid (λ (d : Delimiter). d.width)))
