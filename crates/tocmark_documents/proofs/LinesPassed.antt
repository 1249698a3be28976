-- Lines of events that were passed, and those that are left.
use Rattle.std.proofs.Common.{◌≡◌, ℕ, List, [], ◌∷◌, ◌++◌, ◌+◌, Bool, IfErr, Option, Some, None, Result, Ok, Err, refl, ap, sym, ◌∙◌, append_assoc, append-nil, length, length-append, subst}
use Rattle.std.specs.Borrow.{Bor}
use Rattle.std.specs.Str.Lines.{lines}
use Rattle.std.proofs.lemmas.Iterator.{YieldsList}
use Rattle.tocmark_event.specs.Options.{OptionsView}
use Rattle.tocmark_event.specs.declared.event.flags.ParserOptions.{ParserOptions}
use Rattle.tocmark_state.specs.Ranges.{Pair}
use Rattle.tocmark_documents.specs.Interchange.{IsPairsCause, in_source}
use Rattle.tocmark_documents.specs.Lines.{AreLinesOf, IsBadLine, IsFirstBadLine, IsLineOf, IsLinesCause, IsNoLine, have_ranges}
use Rattle.tocmark_documents.specs.declared.fault.WriteError.{WriteError}
use Rattle.tocmark_documents.specs.declared.fault.WriteError.TheVariants as write_error

-- the lines before a place are those of these events, and an iterator over them is there
pub record IsPassed {S : Type 0} (steps : S → Option (Bor (List ℕ)) → S → Type 0) (input : List ℕ) (s : S) (count : ℕ) (pairs : List Pair) : Type 0 where
  pub before : List (List ℕ)
  pub left : List (List ℕ)
  pub split : lines input ≡ before ++ left
  pub yields : YieldsList steps (λ (x : Bor (List ℕ)). x.now) s left
  pub counted : count ≡ length before
  pub are_lines : AreLinesOf (have_ranges input) before pairs

-- no line is passed
pub none_passed : {S : Type 0} (steps : S → Option (Bor (List ℕ)) → S → Type 0) (input : List ℕ) (s : S) (count : ℕ) → count ≡ 0 → YieldsList steps (λ (x : Bor (List ℕ)). x.now) s (lines input) → IsPassed steps input s count []
none_passed steps input s count none yields = record { before = []; left = lines input; split = refl; yields = yields; counted = none; are_lines = tt }

pub first_left : {S : Type 0} (steps : S → Option (Bor (List ℕ)) → S → Type 0) (s t : S) (x : Bor (List ℕ)) (left : List (List ℕ)) → YieldsList steps (λ (y : Bor (List ℕ)). y.now) s left → steps s (Some x) t → (more : List (List ℕ)) × (left ≡ x.now ∷ more) × YieldsList steps (λ (y : Bor (List ℕ)). y.now) t more
first_left steps s t x [] yields step = absurd (yields.runs x t step)
first_left steps s t x (l ∷ ls) yields step =
    (ls, ap (λ (a : List ℕ). a ∷ ls) (sym (yields.runs.1 x t step).0), record { runs = (yields.runs.1 x t step).1 })

none_left : {S : Type 0} (steps : S → Option (Bor (List ℕ)) → S → Type 0) (s t : S) (left : List (List ℕ)) → YieldsList steps (λ (y : Bor (List ℕ)). y.now) s left → steps s None t → left ≡ []
none_left steps s t [] yields step = refl
none_left steps s t (l ∷ ls) yields step = absurd (yields.runs.0 t step)

one_more : (has_ranges : Bool) (ls : List (List ℕ)) (ps : List Pair) (l : List ℕ) (p : Pair) → AreLinesOf has_ranges ls ps → IsLineOf has_ranges l p → AreLinesOf has_ranges (ls ++ l ∷ []) (ps ++ p ∷ [])
one_more has_ranges [] [] l p all one = (one, tt)
one_more has_ranges [] (q ∷ qs) l p all one = absurd all
one_more has_ranges (k ∷ ks) [] l p all one = absurd all
one_more has_ranges (k ∷ ks) (q ∷ qs) l p all one = (all.0, one_more has_ranges ks qs l p all.1 one)

counts_more : (n m k : ℕ) → n ≡ k → m ≡ n + 1 → m ≡ k + 1
counts_more n m k h i = i ∙ ap (λ (j : ℕ). j + 1) h

-- one more line is that of an event
pub passed_more : {S : Type 0} (steps : S → Option (Bor (List ℕ)) → S → Type 0) (input : List ℕ) (s t : S) (n m : ℕ) (pairs : List Pair) (x : Bor (List ℕ)) (pair : Pair) (has_ranges : Bool) → has_ranges ≡ have_ranges input → IsPassed steps input s n pairs → steps s (Some x) t → m ≡ n + 1 → IsLineOf has_ranges x.now pair → IsPassed steps input t m (pairs ++ pair ∷ [])
passed_more steps input s t n m pairs x pair has_ranges decided h step more line =
    let next = first_left steps s t x h.left h.yields step in
    record {
      before = h.before ++ x.now ∷ [];
      left = next.0;
      split = h.split ∙ ap (λ (l : List (List ℕ)). h.before ++ l) next.1 ∙ sym (append_assoc h.before (x.now ∷ []) next.0);
      yields = next.2;
      counted = counts_more n m (length h.before) h.counted more ∙ sym (length-append h.before (x.now ∷ []));
      are_lines = one_more (have_ranges input) h.before pairs x.now pair h.are_lines (subst (λ (b : Bool). IsLineOf b x.now pair) decided line);
    }

-- all lines are passed
pub passed_all : {S : Type 0} (steps : S → Option (Bor (List ℕ)) → S → Type 0) (input : List ℕ) (s t : S) (n : ℕ) (pairs : List Pair) → IsPassed steps input s n pairs → steps s None t → AreLinesOf (have_ranges input) (lines input) pairs
passed_all steps input s t n pairs h step =
    subst (λ (l : List (List ℕ)). AreLinesOf (have_ranges input) l pairs) (sym (h.split ∙ ap (λ (l : List (List ℕ)). h.before ++ l) (none_left steps s t h.left h.yields step) ∙ append-nil h.before)) h.are_lines

first_bad : {S : Type 0} (steps : S → Option (Bor (List ℕ)) → S → Type 0) (input : List ℕ) (s t : S) (n : ℕ) (pairs : List Pair) (x : Bor (List ℕ)) (e : WriteError) → IsPassed steps input s n pairs → steps s (Some x) t → IsNoLine (have_ranges input) x.now n e → IsFirstBadLine input e
first_bad steps input s t n pairs x e h step bad =
    let next = first_left steps s t x h.left h.yields step in
    record {
      before = h.before;
      line = x.now;
      after = next.0;
      pairs = pairs;
      split = h.split ∙ ap (λ (l : List (List ℕ)). h.before ++ l) next.1;
      are_lines = h.are_lines;
      is_bad = subst (λ (k : ℕ). IsNoLine (have_ranges input) x.now k e) h.counted bad;
    }

by_error : (input : List ℕ) (e : WriteError) → IsFirstBadLine input e → IsBadLine input e
by_error input (write_error.NotJson e) h = h
by_error input (write_error.NotEvents e) h = h
by_error input (write_error.Refused p e) h = h
by_error input write_error.OutOfMemory h = tt

-- the next line is that of no event
pub next_bad : {S : Type 0} (steps : S → Option (Bor (List ℕ)) → S → Type 0) (input : List ℕ) (s t : S) (n m : ℕ) (pairs : List Pair) (x : Bor (List ℕ)) (e : WriteError) (has_ranges : Bool) → has_ranges ≡ have_ranges input → IsPassed steps input s n pairs → steps s (Some x) t → m ≡ n → IsNoLine has_ranges x.now m e → IsBadLine input e
next_bad steps input s t n m pairs x e has_ranges decided h step same bad =
    by_error input e (first_bad steps input s t n pairs x e h step (subst (λ (k : ℕ). IsNoLine (have_ranges input) x.now k e) same (subst (λ (b : Bool). IsNoLine b x.now m e) decided bad)))

-- the events of the lines are not written, and so the lines are not
pub not_written : {T : Type 0} (options : OptionsView) (flags : ParserOptions) (has_source : Bool) (source input : List ℕ) (pairs : List Pair) (r : Result T WriteError) → AreLinesOf (have_ranges input) (lines input) pairs → IfErr r (IsPairsCause options flags source (in_source has_source pairs)) → IfErr r (IsLinesCause options flags has_source source input)
not_written options flags has_source source input pairs (Ok x) are h = tt
not_written options flags has_source source input pairs (Err (write_error.NotJson e)) are h = absurd h
not_written options flags has_source source input pairs (Err (write_error.NotEvents e)) are h = absurd h
not_written options flags has_source source input pairs (Err (write_error.Refused p e)) are h = (pairs, are, h)
not_written options flags has_source source input pairs (Err write_error.OutOfMemory) are h = tt
