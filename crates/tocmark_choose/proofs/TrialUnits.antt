-- What one trial of a unit comes to, and that its unit is that of the definitions.
use Rattle.std.proofs.Common.{◌≡◌, ◌∙◌, sym, ap, refl, subst, ℕ, Bool, true, false, Option, Some, None, Result, Ok, Err, List, [], ◌∷◌, ◌++◌, arith, codes, length, map, unwrap_or}
use Rattle.std.specs.Prelude.{◌==◌, ◌&&◌, ◌||◌, is_err, is_none, is_some, not}
use Rattle.std.proofs.lemmas.Bool.{false≢true, true≢false}
use Rattle.std.proofs.lemmas.Bool.Decides.{nat_tests}
use Rattle.tocmark_event.specs.Forest.{flat}
use Rattle.tocmark_event.specs.Merged.{merged}
use Rattle.tocmark_event.specs.Reading.{ReadingView}
use Rattle.tocmark_event.specs.View.{SourcedEvent, unsourced}
use Rattle.tocmark_event.specs.declared.event.flags.ParserOptions.{ParserOptions}
use Rattle.tocmark_event.specs.declared.options.Error.{Error}
use Rattle.tocmark_event.specs.declared.options.Error.TheVariants as error
use Rattle.tocmark_spelling.specs.Body.{Trees}
use Rattle.tocmark_spelling.specs.Page.{Page, Site}
use Rattle.tocmark_spelling.specs.Plan.{Manner}
use Rattle.tocmark_spelling.specs.Spelling.{spelling}
use Rattle.tocmark_write_emphasis.specs.Low.{AsksLow}
use Rattle.tocmark_write_renderer.specs.JobOf.{manner_view}
use Rattle.tocmark_write_renderer.specs.WriterOf as renderer
use Rattle.tocmark_write_renderer.specs.WriterOf.{Arrives, Comes, IsRefusal, Rendering, blank, site_of}
use Rattle.tocmark_write_renderer.specs.declared.job.Manner as declared
use Rattle.tocmark_spelling.proofs.Refusals.{none-misplaced}
use Rattle.tocmark_compare.specs.InParagraph.{in_paragraph}
use Rattle.tocmark_choose.specs.Candidates.{has_source, is_checked, is_delimiter_block, preferred_manner}
use Rattle.tocmark_choose.specs.Choice.{Chosen, accepted_if, choice, first_that_reads_back, if_read_back, page_in, page_of, page_read_back, preferred, spelled}
use Rattle.tocmark_write_labels.specs.Document.{DocumentView}
use Rattle.tocmark_write_pending.specs.Placeholder.{whole}
use Rattle.tocmark_choose.specs.ReadsBack.{flags_at, found_in, is_taken, reads_back, whole_text}
use Rattle.tocmark_choose.specs.TrialOf.{Came, ComesOrBack, FindsChoice, IsLow, IsPlain, IsReady, IsWritten, Refuses, WentBack, Writes, asked_of, events_in, options_in, or_no_trees, read_of, reads_back_in, spelled_at}
use Rattle.tocmark_choose.specs.Tries.{Asked, Found, Lost, Stopped, StopsTrial, first, misplaced}
use Rattle.tocmark_write_pending.specs.Units.{trees_of}
use Rattle.tocmark_choose.specs.declared.trial.Trial.{Trial}
use Rattle.tocmark_write_pending.proofs.Balanced.{flat-of-trees}
use Rattle.tocmark_choose.proofs.UnitEvents.{delimiters-flat, event-flat, source-flat}
use Rattle.tocmark_choose.proofs.Trials.{none-test}

flat-or-none : (es : List SourcedEvent) (o : Option Trees) → trees_of es ≡ o → is_some o ≡ true → flat (or_no_trees o) ≡ es
flat-or-none es None e h = absurd (false≢true h)
flat-or-none es (Some f) e h = flat-of-trees es f e

-- ---- the unit

module _ {R : Type 0} (reading : R → List ℕ → ParserOptions → ReadingView) (t : Trial R) (ready : IsReady reading t) where
  abbrev trees : Trees
  trees = or_no_trees (trees_of (events_in t))

  trial-flat : flat trees ≡ events_in t
  trial-flat = flat-or-none (events_in t) (trees_of (events_in t)) refl ready.balanced

  -- what the renderer says of every forest with these events, it says of the unit's
  pub trial-written : (P : Trees → Type 0) → ((f : Trees) → flat f ≡ events_in t → P f) → P trees
  trial-written P h = h trees trial-flat

  -- what the census says of the unit's events is so of the unit
  pub trial-source : t.found.now.census.sourced ≡ has_source trees
  trial-source = ready.found.census.sourced ∙ sym (source-flat (events_in t) trees trial-flat)

  pub trial-delimiters : t.found.now.census.delimiters ≡ is_delimiter_block trees
  trial-delimiters = ready.found.census.delimiters ∙ sym (delimiters-flat (events_in t) trees trial-flat)

  pub trial-checked : (b : Bool) → b ≡ (t.found.now.census.delimiters || ((options_in t).check_plain_blocks && not (length (events_in t) == 0))) → b ≡ is_checked (options_in t) trees
  trial-checked b e =
      e ∙ (λ j. trial-delimiters j || ((options_in t).check_plain_blocks && sym (event-flat (events_in t) trees trial-flat) j))

  -- what is found of a list of just these events is found of the unit
  module _ (es : List SourcedEvent) (same : es ≡ events_in t) where
    these-flat : flat trees ≡ es
    these-flat = trial-flat ∙ sym same

    module _ (d : DocumentView) where
      abbrev q : Asked
      q = asked_of reading t

      -- a reader that finds the unit, and leaves no label open that is taken, reads it back
      pub trial-read : (text : List ℕ) (x : ParserOptions) → x ≡ flags_at q.setting d → found_in (is_taken q.setting d) (in_paragraph (merged (map unsourced es))) (q.setting.reading text x) ≡ reads_back_in q d text
      trial-read text x ex =
          ap (λ v. found_in (is_taken q.setting d) (in_paragraph (merged (map unsourced es))) (q.setting.reading text v)) ex
          ∙ ap (λ xs. found_in (is_taken q.setting d) (in_paragraph (merged (map unsourced xs))) (q.setting.reading text (flags_at q.setting d))) (sym these-flat)

-- where a manner asks for ASCII as plain values, its delimiters do
pub low-asked : (m : declared.Manner) → IsLow (manner_view m) → AsksLow m.delimiters
low-asked m h e = record { emphasis = (h e).0; strong = (h e).1 }

-- ---- what is read of a text and the definitions before it

-- without definitions it is the text
pub whole-alone : (defs text : List ℕ) → (length defs == 0) ≡ true → text ≡ whole_text defs text
whole-alone [] text h = refl
whole-alone (b ∷ defs) text h = absurd (grind (arith, nat_tests))

-- else the text is after them and a blank line
pub whole-behind : (defs text all : List ℕ) → (length defs == 0) ≡ false → all ≡ defs ++ codes "\n\n" ++ text → all ≡ whole_text defs text
whole-behind [] text all h a = absurd (true≢false h)
whole-behind (b ∷ defs) text all h a = a

-- ---- one trial

some-same : {A : Type 0} (a b : A) → Some a ≡ Some b → a ≡ b
some-same a b e = ap (λ o. unwrap_or o a) e

-- where a renderer is that went back to its mark
pub back-same : (old here : Site) (mark : Option Site) → mark ≡ Some old → Some here ≡ mark → here ≡ old
back-same old here mark e h = some-same here old (h ∙ e)

-- a renderer that arrived came to the page
arrived : (o : Option Site) (w : Rendering) → Arrives w o → page_of o ≡ Some (renderer.page_of w)
arrived None w h = absurd h
arrived (Some here) w h = ap Some (sym h.page_is)

-- what a renderer wrote after its mark, and that it went back where that was refused
module _ {X : Type 0} (old : Site) (mid : Rendering) (answer : Option Site) (marked : mid.at_mark ≡ Some old) where
  pub written-there : (r : Result X Error) → is_err r ≡ false → Comes r mid answer → ComesOrBack r old mid answer
  written-there (Ok x) e h = record { arrives = h; marked = marked }
  written-there (Err x) e h = absurd (true≢false e)

  pub written-back : (new : Rendering) (r : Result X Error) → is_err r ≡ true → Some (site_of new) ≡ mid.at_mark → Comes r mid answer → ComesOrBack r old new answer
  written-back new (Ok x) e back h = absurd (false≢true e)
  written-back new (Err x) e back h = record { refused = h; kept = back-same old (site_of new) mid.at_mark marked back }

module _ (q : Asked) (d : DocumentView) (m : Manner) where
  abbrev site : Option Site
  site = spelling q.setting m q.unit (whole q.next) [] (page_in d)

  misplaced-site : misplaced q ≡ is_none site
  misplaced-site = none-test site (misplaced q) (none-misplaced q.setting m q.unit (whole q.next) (page_in d))

  placed-at : (o : Option Site) (w : Rendering) → site ≡ o → Arrives w o → misplaced q ≡ false
  placed-at None w e h = absurd h
  placed-at (Some here) w e h = misplaced-site ∙ ap is_none e

  -- the page is refused where a node of the unit is misplaced
  stops-at : (e : Error) → IsRefusal e site → StopsTrial q e
  stops-at error.OutOfMemory r = tt
  stops-at error.UnexpectedEvent r = misplaced-site ∙ ap is_none r
  stops-at e r = absurd r

  first-of : (o : Option Page) → (elim o as (λ _. Option Page) [ Some p ↦ Some p | None ↦ None ]) ≡ o
  first-of None = refl
  first-of (Some p) = refl

  first-one : (p : Page) (b : Bool) → page_of site ≡ Some p → reads_back_in q d (read_of p) ≡ b → first q d (m ∷ []) ≡ if_read_back b p
  unfolding first_that_reads_back spelled reads_back
  first-one p b e r =
      first-of (page_read_back q.setting d q.unit (page_of site))
      ∙ ap (page_read_back q.setting d q.unit) e
      ∙ ap (λ b. if_read_back b p) r

  module _ (old : Site) (front : old ≡ blank d.feeds d.trail) where
    at-front : spelled_at q old m ≡ site
    at-front = ap (λ x. spelled_at q x m) front

    -- the unit is refused
    pub one-stopped : (new : Rendering) (e : Error) → WentBack old new e (spelled_at q old m) → Stopped q old new e
    one-stopped new e h = record { stops = stops-at e (subst (IsRefusal e) at-front h.refused); kept = h.kept }

    module _ (mid : Rendering) (came : Came old mid (spelled_at q old m)) where
      arrives-there : Arrives mid site
      arrives-there = subst (Arrives mid) at-front came.arrives

      -- the unit is read back
      pub one-found : reads_back_in q d (read_of (renderer.page_of mid)) ≡ true → Found q d old mid (m ∷ [])
      one-found r = record {
        is_first = first-one (renderer.page_of mid) true (arrived site mid arrives-there) r;
        marked = came.marked;
        placed = placed-at site mid refl arrives-there;
      }

      -- it isn't
      pub one-lost : (new : Rendering) → Some (site_of new) ≡ mid.at_mark → reads_back_in q d (read_of (renderer.page_of mid)) ≡ false → Lost q d old new (m ∷ [])
      one-lost new back r = record {
        none = first-one (renderer.page_of mid) false (arrived site mid arrives-there) r;
        kept = back-same old (site_of new) mid.at_mark came.marked back;
        placed = placed-at site mid refl arrives-there;
      }

-- ---- the preferred spelling

module _ (q : Asked) (d : DocumentView) where
  abbrev plain : Chosen
  plain = preferred q.setting d q.unit q.next

  abbrev plainly : Manner
  plainly = preferred_manner q.setting.options

  refuses-page : (e : Error) (o : Option Site) → IsRefusal e o → Refuses e (accepted_if q.setting d (page_of o))
  refuses-page error.OutOfMemory o r = tt
  refuses-page error.UnexpectedEvent o r = ap (λ o. accepted_if q.setting d (page_of o)) r
  refuses-page e o r = absurd r

  -- what was written of a unit in the preferred spelling is that spelling, or refused so
  pub preferred-written : {X : Type 0} (old : Site) (new : Rendering) (r : Result X Error) → old ≡ blank d.feeds d.trail → ComesOrBack r old new (spelled_at q old plainly) → Writes r q.setting d old new plain
  unfolding spelled
  preferred-written old new (Ok x) front h = record {
    written = ap (accepted_if q.setting d) (arrived (site q d plainly) new (subst (Arrives new) (at-front q d plainly old front) h.arrives));
    marked = h.marked;
  }
  preferred-written old new (Err e) front h = record {
    refused = refuses-page e (site q d plainly) (subst (IsRefusal e) (at-front q d plainly old front) h.refused);
    kept = h.kept;
  }

  -- what a search found of a unit is what is chosen
  pub found-there : {X : Type 0} (old : Site) (new : Rendering) (o : Option X) (x : X) → o ≡ Some x → FindsChoice q d old new (Ok o) → IsWritten q.setting d old new (choice q.setting d q.unit q.next)
  found-there old new o x e h = subst (λ o. FindsChoice q d old new (Ok o)) e h

  -- where it found nothing, the preferred spelling is left
  pub left-there : {X : Type 0} (old : Site) (new : Rendering) (o : Option X) → o ≡ None → FindsChoice q d old new (Ok o) → IsPlain q d old new
  left-there old new o e h = subst (λ o. FindsChoice q d old new (Ok o)) e h

  -- a unit that is left to the preferred spelling was written in it
  pub plainly-written : {X : Type 0} (old : Site) (mid new : Rendering) (m : Manner) (r : Result X Error) → old ≡ blank d.feeds d.trail → IsPlain q d old mid → m ≡ plainly → ComesOrBack r (site_of mid) new (spelled_at q (site_of mid) m) → Writes r q.setting d old new (choice q.setting d q.unit q.next)
  plainly-written old mid new m r front left is h =
      let there : ComesOrBack r (site_of mid) new (spelled_at q (site_of mid) plainly) = subst (λ m. ComesOrBack r (site_of mid) new (spelled_at q (site_of mid) m)) is h in
      let here : ComesOrBack r old new (spelled_at q old plainly) = subst (λ x. ComesOrBack r x new (spelled_at q x plainly)) left.kept there in
      subst (Writes r q.setting d old new) (sym left.plain) (preferred-written old new r front here)
