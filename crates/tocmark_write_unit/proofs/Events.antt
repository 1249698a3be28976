-- A unit's events in turn.
use Rattle.std.proofs.Common.{◌≡◌, ℕ, ◌+◌, ◌-◌, ◌<◌, ◌≤◌, Bool, List, ◌∷◌, ◌++◌, Option, Some, refl, sym, ap, ◌∙◌, subst, map, drop, take, reverse, length, get_or, arith}
use Rattle.std.proofs.Math.Seq.{take-add}
use Rattle.std.proofs.lemmas.List.{drop-drop, drop_all, reverse-append}
use Rattle.tocmark_write_pending.proofs.Ahead.{all-seen, place-before}
use Rattle.tocmark_write_emphasis.proofs.Nodes as nodes
use Rattle.tocmark_event.specs.Forest.{flat}
use Rattle.tocmark_event.specs.Options.{OptionsView}
use Rattle.tocmark_event.specs.View.{EventView, SourcedEvent, Start, End, Leaf, unsourced}
use Rattle.tocmark_event.specs.declared.event.flags.ParserOptions.{ParserOptions}
use Rattle.tocmark_event.specs.declared.options.Error.{Error}
use Rattle.tocmark_event.specs.declared.options.Error.TheVariants as error
use Rattle.tocmark_write_inlines.specs.Named.{AreNamed, is_named}
use Rattle.tocmark_write_renderer.specs.JobOf.{Reading}
use Rattle.tocmark_write_renderer.specs.WriterOf.{Rendering, site_of, Arrives, IsRefusal}
use Rattle.tocmark_spelling.proofs.Follows.{run-refused}
use Rattle.tocmark_spelling.specs.Body.{Trees}
use Rattle.tocmark_spelling.specs.Buffered.{sourced, event_of, buffered_view}
use Rattle.tocmark_spelling.specs.Machine.{Machine, going, step, run, answer_of}
use Rattle.tocmark_spelling.specs.Page.{Site, front}
use Rattle.tocmark_spelling.specs.Plan.{Setting, Manner}
use Rattle.tocmark_spelling.specs.PlanOf.{setting_of}
use Rattle.tocmark_spelling.specs.declared.buffered.BufferedEvent.{BufferedEvent}
use Rattle.tocmark_write_unit.specs.NeighboursOf.{AreById}
use Rattle.tocmark_write_unit.specs.Turn.{GoesOn, IsRefused}

unsourced-sourced : (e : EventView) (s : Option (List ℕ)) → unsourced (sourced e s) ≡ e
unsourced-sourced (Start t) s = refl
unsourced-sourced (End k) s = refl
unsourced-sourced (Leaf l) s = refl

-- the event before a place
pub front-before : (es : List BufferedEvent) (i : ℕ) (b : BufferedEvent) → 0 < i → i - 1 < length es → b ≡ get_or es (i - 1) b → Some (event_of b) ≡ front (reverse (take i (map buffered_view es)))
front-before es i b p lt e = ap Some (sym (unsourced-sourced (event_of b) _)) ∙ nodes.front-before es i b p lt e

-- what a reader was asked of a forest's events is so of their trees
pub by-id-found : (m : Manner) (o : OptionsView) (flags : ParserOptions) (label : Option (List ℕ)) (reading : Reading) (next : Option EventView) (f : Trees) (es : List SourcedEvent) (found : List Bool) → flat f ≡ es → AreNamed reading flags es found → AreById (setting_of o flags reading label) es found
by-id-found m o flags label reading next f es found is h =
    let s = setting_of o flags reading label in
    record {
      at = λ i t rest e.
          h.at o label i
          ∙ ap (is_named s) e
          ∙ sym ((all-seen s m next f i t rest (ap (drop i) is ∙ e)).named);
    }

-- a place at which this event is
module _ (s : Setting) (m : Manner) (next : Option EventView) (es : List SourcedEvent) (i : ℕ) (e : SourcedEvent) (at : drop i es ≡ e ∷ drop (i + 1) es) (here : Site) where
  abbrev from_here : Machine → Option Site
  from_here x = answer_of (run s m next (drop i es) x)

  abbrev stepped : Machine
  stepped = step s m next e (drop (i + 1) es) (going here (reverse (take i es)))

  run-at : from_here (going here (reverse (take i es))) ≡ answer_of (run s m next (drop (i + 1) es) stepped)
  run-at = ap (λ rest. answer_of (run s m next rest (going here (reverse (take i es))))) at

  -- it was written, and further ones passed with it
  pub goes-on : (w : Rendering) (n : ℕ) (whole : Option Site) → from_here (going here (reverse (take i es))) ≡ whole → GoesOn w s m next stepped (drop (i + 1) es) (e ∷ reverse (take i es)) n → answer_of (run s m next (drop (i + (1 + n)) es) (going (site_of w) (reverse (take (i + (1 + n)) es)))) ≡ whole
  goes-on w n whole h goes =
      let rest = drop (i + 1) es in
      let same : i + 1 + n ≡ i + (1 + n) = omega arith in
      let left : drop (i + (1 + n)) es ≡ drop n rest = ap (λ k. drop k es) (sym same) ∙ sym (drop-drop n (i + 1) es) in
      let behind : reverse (take (i + (1 + n)) es) ≡ reverse (take n rest) ++ e ∷ reverse (take i es) =
      ap (λ k. reverse (take k es)) (sym same)
      ∙ ap reverse (take-add (i + 1) n es)
      ∙ reverse-append (take (i + 1) es) (take n rest)
      ∙ ap (λ x. reverse (take n rest) ++ x) (place-before es rest i e at) in
      ap (λ x. answer_of (run s m next x (going (site_of w) (reverse (take (i + (1 + n)) es))))) left
      ∙ ap (λ x. answer_of (run s m next (drop n rest) (going (site_of w) x))) behind
      ∙ sym goes.run_is
      ∙ sym run-at
      ∙ h

  -- it was refused
  pub is-refused : (err : Error) (whole : Option Site) → from_here (going here (reverse (take i es))) ≡ whole → IsRefused err stepped → IsRefusal err whole
  is-refused error.OutOfMemory whole h r = tt
  is-refused error.UnexpectedEvent whole h r =
      sym h ∙ run-at
      ∙ ap (λ x. answer_of (run s m next (drop (i + 1) es) x)) r
      ∙ ap answer_of (run-refused s m next (drop (i + 1) es))
  is-refused (error.FormatFailed f) whole h r = absurd r
  is-refused error.Unrepresentable whole h r = absurd r
  is-refused error.InvalidSourceRange whole h r = absurd r
  is-refused error.Finished whole h r = absurd r
  is-refused error.Failed whole h r = absurd r

-- no event is left
pub run-done : (s : Setting) (m : Manner) (next : Option EventView) (es : List SourcedEvent) (i : ℕ) (w : Rendering) (before : List SourcedEvent) (whole : Option Site) → length es ≤ i → answer_of (run s m next (drop i es) (going (site_of w) before)) ≡ whole → Arrives w whole
run-done s m next es i w before whole past h =
    let end = ap (λ rest. answer_of (run s m next rest (going (site_of w) before))) (drop_all i es past) in
    subst (Arrives w) (sym end ∙ h) (record { path_is = refl; page_is = refl })
