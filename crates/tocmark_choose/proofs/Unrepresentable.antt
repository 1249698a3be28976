-- A unit can't be represented just where it is checked and none of its candidates reads back.
use Rattle.std.proofs.Common.{◌≡◌, ◌≤◌, Bool, true, false, ◌&&◌, if◌then◌else◌, Option, Some, None, Err, [], ◌++◌, length, refl, sym, subst, arith}
use Rattle.tocmark_event.specs.View.{EventView}
use Rattle.tocmark_event.specs.Options.{OptionsView}
use Rattle.tocmark_event.specs.declared.options.Error.TheVariants.{Unrepresentable}
use Rattle.tocmark_spelling.specs.Body.{Trees}
use Rattle.tocmark_spelling.specs.Page.{Page}
use Rattle.tocmark_spelling.specs.Plan.{Setting}
use Rattle.tocmark_spelling.specs.Spelling.{is_misplaced}
use Rattle.tocmark_write_labels.specs.Document.{DocumentView}
use Rattle.tocmark_choose.specs.Candidates.{candidates, escaped_manners, has_source, is_checked, is_delimiter_block, preferred_manner, source_manners}
use Rattle.tocmark_choose.specs.Choice.{Chosen, accepted_if, by_markers, choice, first_or, first_that_reads_back, has_standard_markers, preferred, spelled, unless_misplaced}
use Rattle.tocmark_choose.specs.Tries.{Asked}
use Rattle.tocmark_choose.specs.Unrepresentable.{IsUnrepresentable}
use Rattle.tocmark_choose.specs.Validates.{validates}
use Rattle.tocmark_choose.proofs.FirstReadBack.{none-found, none-reads-back}
use Rattle.tocmark_choose.proofs.Trials.{both_true, choice-unrepresentable}

module _ (s : Setting) (d : DocumentView) (f : Trees) (next : Option EventView) where
  abbrev q : Asked
  q = record { setting = s; unit = f; next = next }

  never-accepted : (o : Option Page) → accepted_if s d o ≡ Err Unrepresentable → ⊥
  never-accepted (Some p) h = cc
  never-accepted None h = cc

  by-test : (b : Bool) → elim b as (λ _. Chosen) [ true ↦ Err Unrepresentable | false ↦ preferred s d f next ] ≡ Err Unrepresentable → b ≡ true
  by-test true h = refl
  by-test false h = absurd (never-accepted (spelled s d f next (preferred_manner s.options)) h)

  by-first : (o : Option Page) → first_or s d f next o ≡ Err Unrepresentable → (o ≡ None) × ((is_checked s.options f && validates s.options s.flags) ≡ true)
  by-first None h = (refl, by-test (is_checked s.options f && validates s.options s.flags) h)
  by-first (Some p) h = absurd (cc)

  by-markers : (b : Bool) → has_standard_markers s.options ≡ b → is_misplaced s [] f ≡ false → by_markers b s d f next ≡ Err Unrepresentable → IsUnrepresentable s d f next
  by-markers true m p h =
      let x = by-first (first_that_reads_back s d f next (candidates s.options f)) h in
      let both = both_true (is_checked s.options f) (validates s.options s.flags) x.1 in
      record { placed = p; standard = m; checked = both.0; accepted = both.1; none = none-reads-back s d f next (candidates s.options f) x.0 }
  by-markers false m p h = absurd (never-accepted (spelled s d f next (preferred_manner s.options)) h)

  by-misplaced : (b : Bool) → is_misplaced s [] f ≡ b → unless_misplaced b s d f next ≡ Err Unrepresentable → IsUnrepresentable s d f next
  by-misplaced true e h = absurd (cc)
  by-misplaced false e h = by-markers (has_standard_markers s.options) refl e h

  -- where it can't, that is why
  pub unrepresentable-causes : choice s d f next ≡ Err Unrepresentable → IsUnrepresentable s d f next
  unfolding choice
  unrepresentable-causes h = by-misplaced (is_misplaced s [] f) refl h

  -- and where that is so, it can't
  pub unrepresentable-exact : IsUnrepresentable s d f next → choice s d f next ≡ Err Unrepresentable
  unrepresentable-exact h = choice-unrepresentable q d h.standard (none-found s d f next (candidates s.options f) h.none) h.placed (λ j. h.checked j && h.accepted j)

-- a unit without delimiters has at most two candidates
pub at-most-two : (o : OptionsView) (f : Trees) → is_delimiter_block f ≡ false → length (candidates o f) ≤ 2
unfolding candidates
at-most-two o f plain =
    subst (λ del. length ((if has_source f then source_manners o del else []) ++ escaped_manners o del (is_checked o f)) ≤ 2) (sym plain) (by (has_source f) (is_checked o f))
  where
    by : (src chk : Bool) → length ((if src then source_manners o false else []) ++ escaped_manners o false chk) ≤ 2
    by true true = omega arith
    by true false = omega arith
    by false true = omega arith
    by false false = omega arith
