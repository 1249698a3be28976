-- What a state holds, as plain values.
use Rattle.std.specs.Prelude.{◌≡◌, ℕ, ◌++◌, List, length, map, Result, Ok}
use Rattle.std.specs.List.{sum_by}
use Rattle.std.specs.Result.{IfOk}
use Rattle.tocmark_event.specs.Options.{owned_options_view}
use Rattle.tocmark_event.specs.Reading.{ReadingView}
use Rattle.tocmark_event.specs.declared.event.flags.ParserOptions.{ParserOptions}
use Rattle.tocmark_event.specs.declared.options.Error.{Error}
use Rattle.tocmark_spelling.specs.Page.{Reference}
use Rattle.tocmark_write_renderer.specs.WriterOf.{reference_view}
use Rattle.tocmark_state.specs.declared.work.Progress.{Progress}
use Rattle.tocmark_state.specs.declared.state.State.{State}
use Rattle.tocmark_state.specs.declared.state.Status.{Status}
use Rattle.tocmark_state.specs.declared.state.Status.TheVariants.{Active, Finished, Failed}
use Rattle.tocmark_state.specs.Ranges.{Pair}
use Rattle.tocmark_state.specs.Walk.{done, Rendering, Standing, Walk, walk, nothing_yet, script}
use Rattle.tocmark_state.specs.Writes.{Makes}
use Rattle.tocmark_state.specs.WorkView.{Counts, flags_of, rendering_behind, standing_of}

-- where the events that a state took are
abbrev pub place_of : {R : Type 0} → State R → Standing
place_of s = standing_of s.work

-- whether a state takes events
abbrev pub status_of : {R : Type 0} → State R → Status
status_of s = s.status

-- the reader of a state
abbrev pub reader_of : {R : Type 0} → State R → R
reader_of s = s.reader

-- the flags that a state was made for
abbrev pub state_flags : {R : Type 0} → State R → ParserOptions
state_flags s = flags_of s.work

-- the definitions of links that a state's document has already
abbrev pub defined_of : {R : Type 0} → State R → List Reference
defined_of s = map reference_view s.defined.items

-- two states take the same further events, under the same options and after the same definitions
pub record SameStanding {R : Type 0} (s t : State R) : Type 0 where
  pub status : status_of t ≡ status_of s
  pub options : owned_options_view t.options ≡ owned_options_view s.options
  pub defined : defined_of t ≡ defined_of s
  pub standing : place_of t ≡ place_of s

-- how a state writes units
abbrev pub rendering_of : {R : Type 0} → (R → List ℕ → ParserOptions → ReadingView) → State R → Rendering
rendering_of reading s = rendering_behind (defined_of s) (owned_options_view s.options) (reading s.reader)

-- what further pairs over the source come to
abbrev pub walk_from : {R : Type 0} → (R → List ℕ → ParserOptions → ReadingView) → State R → List ℕ → List Pair → Walk Standing
walk_from reading s source p = walk (rendering_of reading s) source (place_of s) p

-- the state takes events
abbrev pub IsActive : {R : Type 0} → State R → Type 0
IsActive s = status_of s ≡ Active

-- a state that is active, and is where the list of pairs over the source is
pub record Stands {R : Type 0} (reading : R → List ℕ → ParserOptions → ReadingView) (flags : ParserOptions) (source : List ℕ) (s : State R) (p : List Pair) : Type 0 where
  pub active : IsActive s
  pub standing : (walk (rendering_of reading s) source (nothing_yet flags) p).outcome ≡ Ok (place_of s)

-- a call was refused
abbrev pub IsFailed : {R : Type 0} → State R → Type 0
IsFailed s = status_of s ≡ Failed

-- the events have ended
abbrev pub IsFinished : {R : Type 0} → State R → Type 0
IsFinished s = status_of s ≡ Finished

-- A call that took the pairs q after p handed what the walk of both adds to that of p, and is there or answers its end.
pub record Adds {W : Type 0} (gives refuses : W → List ℕ → W → Type 0) (w v : W) (how : Rendering) (flags : ParserOptions) (source : List ℕ) (r : Result Progress Error) (place : Standing) (p q : List Pair) : Type 0 where
  pub more : List (List ℕ)
  pub added : (walk how source (nothing_yet flags) (p ++ q)).texts ≡ (walk how source (nothing_yet flags) p).texts ++ more
  pub made : Makes gives refuses w v r place (record { texts = more; outcome = (walk how source (nothing_yet flags) (p ++ q)).outcome })
  pub counts : IfOk r (λ n. Counts n (length q) (sum_by length more))

-- A call that ended the list p handed what its script adds to its walk, and answers its end.
pub record Ends {W : Type 0} (gives refuses : W → List ℕ → W → Type 0) (w v : W) (how : Rendering) (flags : ParserOptions) (source : List ℕ) (r : Result Progress Error) (p : List Pair) : Type 0 where
  pub more : List (List ℕ)
  pub added : (script how source (nothing_yet flags) p).texts ≡ (walk how source (nothing_yet flags) p).texts ++ more
  pub made : Makes gives refuses w v r done (record { texts = more; outcome = (script how source (nothing_yet flags) p).outcome })
  pub counts : IfOk r (λ n. Counts n 0 (sum_by length more))
