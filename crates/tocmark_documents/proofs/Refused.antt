-- A call that is refused may have taken a front of its pairs; what that comes to, all of them come to.
use Rattle.std.proofs.Common.{◌≡◌, ℕ, List, [], ◌∷◌, ◌++◌, map, ap, sym, ◌∙◌, subst, refl, inl, inr, Ok, Err, Result, Option}
use Rattle.std.specs.Borrow.{Bor}
use Rattle.std.specs.Iterator.{Yields, YieldsFirstBy}
use Rattle.std.specs.List.{FoldsTo}
use Rattle.tocmark_event.specs.Text.{ParserEvent}
use Rattle.tocmark_event.specs.declared.event.flags.ParserOptions.{ParserOptions}
use Rattle.tocmark_event.specs.declared.options.Error.{Error}
use Rattle.tocmark_event.specs.declared.options.Error.TheVariants as error
use Rattle.tocmark_reader.specs.Reading.{reading_of}
use Rattle.tocmark_reader.specs.Flags.{unit_syntax_of}
use Rattle.tocmark_read_scan.specs.declared.syntax.Names.TheVariants.{All}
use Rattle.tocmark_event.specs.Options.{OptionsView}
use Rattle.tocmark_event.specs.Reading.{lent_pair}
use Rattle.tocmark_state.specs.Ranges.{Pair, Range}
use Rattle.tocmark_state.specs.WorkView.{rendering, ranged_pairs}
use Rattle.tocmark_state.specs.Walk.{Rendering, Standing, Walk, done, go_on, step, walk, ended, nothing_yet, script}
use Rattle.tocmark_state.specs.Writes.{RefusesAt}
use Rattle.tocmark.specs.Writing.{WritesRanged}
use Rattle.tocmark_documents.specs.Interchange.{IsRefusal, places_left, writing}
use Rattle.tocmark_documents.specs.declared.pairs.EventPairs.{EventPairs}
use Rattle.tocmark_documents.proofs.Taken.{pairs_taken}

same_error : {A : Type 0} (x y : Error) (r : Result A Error) → r ≡ Err x → r ≡ Err y → x ≡ y
same_error x y r h k = cc

-- what is refused before it goes on stays refused
stops : {A S : Type 0} (ts : List (List ℕ)) (o : Result A Error) (f : A → Walk S) (e : Error) → o ≡ Err e → (go_on ts o f).outcome ≡ Err e
stops ts (Ok a) f e h = absurd (cc)
stops ts (Err x) f e h = ap (λ y. Err y) (same_error x e (Err x) refl h)

-- what is refused after it went on stays so, if what follows does
stays : {A S : Type 0} (ts : List (List ℕ)) (o : Result A Error) (f g : A → Walk S) (e : Error) → (go_on ts o f).outcome ≡ Err e → ((a : A) → (f a).outcome ≡ Err e → (g a).outcome ≡ Err e) → (go_on ts o g).outcome ≡ Err e
stays ts (Ok a) f g e h next = next a h
stays ts (Err x) f g e h next = h

module _ (how : Rendering) (source : List ℕ) (e : Error) where
  -- a walk that is refused is refused with more pairs, too
  more_walked : (s : Standing) (p q : List Pair) → (walk how source s p).outcome ≡ Err e → (walk how source s (p ++ q)).outcome ≡ Err e
  more_walked s [] q h = absurd (cc)
  more_walked s (x ∷ xs) q h =
      stays (step how source x s).texts (step how source x s).outcome (λ (t : Standing). walk how source t xs) (λ (t : Standing). walk how source t (xs ++ q)) e h (λ t k. more_walked t xs q k)

  -- the script of more pairs
  more_refused : (s : Standing) (p q : List Pair) → (walk how source s p).outcome ≡ Err e → (script how source s (p ++ q)).outcome ≡ Err e
  more_refused s p q h =
      stops (walk how source s (p ++ q)).texts (walk how source s (p ++ q)).outcome (λ (t : Standing). ended how t) e (more_walked s p q h)

-- how a call writes its pairs
abbrev pub asked : OptionsView → Rendering
asked options = rendering options (λ t f. reading_of (unit_syntax_of All f) t)

-- what was given, and then what is left, is all
yielded : (xs : List (Bor ParserEvent × Option Range)) (s t : EventPairs) → Yields (YieldsFirstBy lent_pair places_left) s xs t → places_left s ≡ map lent_pair xs ++ places_left t
yielded [] s t h = ap places_left h
yielded (x ∷ xs) s t (j, first, others) = first ∙ ap (λ (ys : List Pair). lent_pair x ∷ ys) (yielded xs j t others)

module _ (options : OptionsView) (source : List ℕ) (flags : ParserOptions) where
  -- all pairs of a call whose walk of a front was refused
  all_refused : (front rest pairs : List Pair) (e : Error) → pairs ≡ front ++ rest → (walk (asked options) source (nothing_yet flags) front).outcome ≡ Err e → (writing options flags source pairs).outcome ≡ Err e
  all_refused front rest pairs e is refused =
      subst (λ (p : List Pair). (script (asked options) source (nothing_yet flags) p).outcome ≡ Err e) (sym is) (more_refused (asked options) source e (nothing_yet flags) front rest refused)

  -- a refusal by its error
  by_error : {W S : Type 0} (gives refuses : W → List ℕ → W → Type 0) (w v : W) (pairs : List Pair) (made : Walk S) (e : Error) → RefusesAt gives refuses w v e made → (made.outcome ≡ Err e → (writing options flags source pairs).outcome ≡ Err e) → IsRefusal (writing options flags source pairs) e
  by_error gives refuses w v pairs made (error.FormatFailed f) h all = tt
  by_error gives refuses w v pairs made error.OutOfMemory h all = tt
  by_error gives refuses w v pairs made error.UnexpectedEvent h all = all h.0
  by_error gives refuses w v pairs made error.Unrepresentable h all = all h.0
  by_error gives refuses w v pairs made error.InvalidSourceRange h all = all h.0
  by_error gives refuses w v pairs made error.Finished h all = all h.0
  by_error gives refuses w v pairs made error.Failed h all = all h.0

  -- a call is refused as all its pairs are
  pub refused : {W : Type 0} (gives refuses : W → List ℕ → W → Type 0) (w v : W) (given : EventPairs) (e : Error) → WritesRanged {A = Unit {0}} (λ list it. it ≡ list) (YieldsFirstBy lent_pair places_left) given source gives refuses w v (Err e) (asked options) flags → IsRefusal (writing options flags source (places_left given)) e
  refused gives refuses w v given e (inl (it, xs, same, drains, made)) =
      by_error gives refuses w v (places_left given) (script (asked options) source (nothing_yet flags) (ranged_pairs xs)) e made
      (subst (λ (p : List Pair). (script (asked options) source (nothing_yet flags) p).outcome ≡ Err e) (pairs_taken xs it drains ∙ ap places_left same))
  refused gives refuses w v given e (inr (it, xs, same, (t, gave, last), fails)) =
      by_error gives refuses w v (places_left given) (walk (asked options) source (nothing_yet flags) (ranged_pairs xs)) e fails
      (all_refused (ranged_pairs xs) (places_left t) (places_left given) e (sym (ap places_left same) ∙ yielded xs it t gave))

  -- a call that succeeded has taken all pairs
  pub made_of : {W : Type 0} (gives refuses : W → List ℕ → W → Type 0) (w v : W) (given : EventPairs) → WritesRanged {A = Unit {0}} (λ list it. it ≡ list) (YieldsFirstBy lent_pair places_left) given source gives refuses w v (Ok tt) (asked options) flags → (q : List Pair) × (q ≡ places_left given) × ((script (asked options) source (nothing_yet flags) q).outcome ≡ Ok done) × FoldsTo gives w (script (asked options) source (nothing_yet flags) q).texts v
  made_of gives refuses w v given (inl (it, xs, same, drains, made)) = (ranged_pairs xs, pairs_taken xs it drains ∙ ap places_left same, made.0, made.1)
  made_of gives refuses w v given (inr m) = absurd m.4
