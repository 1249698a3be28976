-- The search answers the first spelling that reads back, and nothing where none does.
use Rattle.std.proofs.Common.{◌≡◌, ◌≤◌, ◌∙◌, Bool, true, false, ◌&&◌, ◌||◌, if◌then◌else◌, Option, Some, None, Err, List, [], ◌∷◌, ◌++◌, length, refl, sym, ap, subst, arith}
use Rattle.std.specs.List.{AllByRecursion}
use Rattle.std.proofs.lemmas.Bool.{true≢false}
use Rattle.tocmark_event.specs.View.{EventView}
use Rattle.tocmark_event.specs.Options.{OptionsView}
use Rattle.tocmark_event.specs.declared.options.Error.TheVariants.{Unrepresentable}
use Rattle.tocmark_spelling.specs.Body.{Trees}
use Rattle.tocmark_spelling.specs.Page.{Page}
use Rattle.tocmark_spelling.specs.Plan.{Setting, Manner}
use Rattle.tocmark_spelling.specs.Spelling.{is_misplaced}
use Rattle.tocmark_write_labels.specs.Document.{DocumentView}
use Rattle.tocmark_choose.specs.Candidates.{candidates, escaped_manners, has_event, has_source, is_checked, is_delimiter_block, source_manners}
use Rattle.tocmark_choose.specs.Choice.{Chosen, by_markers, choice, definitions_of, first_or, first_that_reads_back, has_standard_markers, if_read_back, page_read_back, preferred, spelled, unless_misplaced}
use Rattle.tocmark_choose.specs.FirstReadBack.{First, IsChosenAmong, IsFirstReadBack, NoneReadsBack, Nothing, ReadsBackIn}
use Rattle.tocmark_choose.specs.ReadsBack.{reads_back}
use Rattle.tocmark_choose.specs.Validates.{validates}

-- one of a list of which each has a property
one-of : {A : Type 0} (P : A → Type 0) (before : List A) (x : A) (after : List A) → AllByRecursion P (before ++ x ∷ after) → P x
one-of P [] x after h = h.0
one-of P (y ∷ before) x after h = one-of P before x after h.1

module _ (s : Setting) (d : DocumentView) (f : Trees) (next : Option EventView) where
  abbrev first_page : List Manner → Option Page
  first_page ms = first_that_reads_back s d f next ms

  -- what an answer of the search says of the manners
  abbrev Says : List Manner → Option Page → Type 0
  Says ms None = NoneReadsBack s d f next ms
  Says ms (Some p) = IsFirstReadBack s d f next ms p

  later : (m : Manner) (ms : List Manner) → (ReadsBackIn s d f next m → ⊥) → (o : Option Page) → Says ms o → Says (m ∷ ms) o
  later m ms fails None h = (fails, h)
  later m ms fails (Some p) h = record {
    before = m ∷ h.before;
    manner = h.manner;
    after = h.after;
    is = ap (λ xs. m ∷ xs) h.is;
    none_before = (fails, h.none_before);
    reads_back = h.reads_back;
  }

  -- one page is no other
  same-page : (p p' : Page) (o : Option Page) → o ≡ Some p → o ≡ Some p' → p ≡ p'
  same-page p p' o h k = cc

  no-page : (p : Page) (o : Option Page) → o ≡ None → o ≡ Some p → ⊥
  no-page p o h k = absurd (cc)

  not-read : (m : Manner) (p : Page) → spelled s d f next m ≡ Some p → reads_back s d f (definitions_of p) p.sheet.text ≡ false → ReadsBackIn s d f next m → ⊥
  not-read m p e h (p', r) =
      let same : p' ≡ p = same-page p' p (spelled s d f next m) r.is_spelled e in
      let back : reads_back s d f (definitions_of p) p.sheet.text ≡ true = subst (λ x. reads_back s d f (definitions_of x) x.sheet.text ≡ true) same r.is_read_back in
      true≢false (sym back ∙ h)

  abbrev or_later : Option Page → List Manner → Option Page
  or_later o ms = elim o as (λ _. Option Page) [ Some p ↦ Some p | None ↦ first_page ms ]

  says : (ms : List Manner) → Says ms (first_page ms)
  unfolding first_that_reads_back
  says [] = tt
  says (m ∷ ms) = by_spelling (spelled s d f next m) refl (says ms)
    where
      by_reading : (p : Page) (b : Bool) → spelled s d f next m ≡ Some p → reads_back s d f (definitions_of p) p.sheet.text ≡ b → Says ms (first_page ms) → Says (m ∷ ms) (or_later (if_read_back b p) ms)
      by_reading p true e h rest = record { before = []; manner = m; after = ms; is = refl; none_before = tt; reads_back = record { is_spelled = e; is_read_back = h } }
      by_reading p false e h rest = later m ms (not-read m p e h) (first_page ms) rest

      by_spelling : (o : Option Page) → spelled s d f next m ≡ o → Says ms (first_page ms) → Says (m ∷ ms) (or_later (page_read_back s d f o) ms)
      by_spelling None e rest = later m ms (λ r. no-page r.0 (spelled s d f next m) e r.1.is_spelled) (first_page ms) rest
      by_spelling (Some p) e rest = by_reading p (reads_back s d f (definitions_of p) p.sheet.text) e refl rest

  -- where the search finds nothing, none reads back
  pub none-reads-back : (ms : List Manner) → first_page ms ≡ None → NoneReadsBack s d f next ms
  none-reads-back ms h = subst (Says ms) h (says ms)

  -- the search finds nothing where none reads back
  pub none-found : (ms : List Manner) → NoneReadsBack s d f next ms → first_page ms ≡ None
  none-found ms h = by (first_page ms) refl
    where
      by : (o : Option Page) → first_page ms ≡ o → first_page ms ≡ None
      by None e = e
      by (Some p) e =
          let r : IsFirstReadBack s d f next ms p = subst (Says ms) e (says ms) in
          absurd (one-of (λ m. ReadsBackIn s d f next m → ⊥) r.before r.manner r.after (subst (NoneReadsBack s d f next) r.is h) (p, r.reads_back))

  -- what is searched
  choice-is : is_misplaced s [] f ≡ false → has_standard_markers s.options ≡ true → choice s d f next ≡ first_or s d f next (first_page (candidates s.options f))
  unfolding choice
  choice-is placed standard = ap (λ b. unless_misplaced b s d f next) placed ∙ ap (λ b. by_markers b s d f next) standard

  abbrev without : Bool → Chosen
  without b = elim b as (λ _. Chosen) [ true ↦ Err Unrepresentable | false ↦ preferred s d f next ]

  -- a unit that is checked is the first candidate that reads back, or can't be represented
  pub checked-chosen : has_standard_markers s.options ≡ true → validates s.options s.flags ≡ true → is_checked s.options f ≡ true → is_misplaced s [] f ≡ false
      → IsChosenAmong s d f next (candidates s.options f) (choice s d f next)
  checked-chosen standard accepts checked placed = by (first_page (candidates s.options f)) refl
    where
      by : (o : Option Page) → first_page (candidates s.options f) ≡ o → IsChosenAmong s d f next (candidates s.options f) (choice s d f next)
      by (Some p) e =
          First p (subst (Says (candidates s.options f)) e (says (candidates s.options f))) (choice-is placed standard ∙ ap (first_or s d f next) e)
      by None e =
          Nothing (none-reads-back (candidates s.options f) e)
          (choice-is placed standard ∙ ap (first_or s d f next) e ∙ ap without (λ j. checked j && accepts j))

  -- one with delimiters is checked
  pub delimiters-checked : is_delimiter_block f ≡ true → is_checked s.options f ≡ true
  delimiters-checked h = ap (λ b. b || (s.options.check_plain_blocks && has_event f)) h

-- no unit has more than 63 candidates
pub at-most-all : (o : OptionsView) (f : Trees) → length (candidates o f) ≤ 63
unfolding candidates
at-most-all o f = by (has_source f) (is_delimiter_block f) (is_checked o f)
  where
    by : (src del chk : Bool) → length ((if src then source_manners o del else []) ++ escaped_manners o del chk) ≤ 63
    by true true chk = omega arith
    by false true chk = omega arith
    by true false true = omega arith
    by true false false = omega arith
    by false false true = omega arith
    by false false false = omega arith
