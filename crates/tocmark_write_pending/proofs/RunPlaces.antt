-- What the column of runs says at each place.
use Rattle.std.proofs.Common.{◌≡◌, ℕ, suc, ◌+◌, ◌<◌, ◌≤◌, true, false, Some, None, List, [], ◌∷◌, ◌++◌, refl, sym, ap, ◌∙◌, subst, map, length, reverse, take, drop, get_or, arith, append-nil, append_assoc, length-append, ⊎_elim}
use Rattle.std.proofs.Math.ListN.{get_or-append}
use Rattle.std.proofs.Math.Seq.{drop-cons, get_or-append_seam}
use Rattle.std.proofs.lemmas.Bool.{cases_lt, false≢true, or_cases, or_parts}
use Rattle.std.proofs.lemmas.Bool.Decides.{nat_tests}
use Rattle.std.proofs.lemmas.List.{length-reverse, reverse-append, reverse-reverse, take-append-drop, take_more}
use Rattle.std.proofs.lemmas.Option.{slice_get-get_or, slice_get-map, slice_get_past}
use Rattle.std.specs.Prelude.{◌==◌, option_map, slice_get}
use Rattle.tocmark_event.specs.View.{SourcedEvent, Start, End, Leaf}
use Rattle.tocmark_spelling.specs.Runs.{Run, close_width, end_width, run_at, start_width, tag_width}
use Rattle.tocmark_write_pending.proofs.Ahead.{place-within}
use Rattle.tocmark_write_pending.specs.DelimiterColumn.{AreNumbered}
use Rattle.tocmark_write_pending.specs.RunColumn.{Counted, Starts, Ends, AreRuns, HoldRuns, IsRunAt, begins_in_run, is_counted, run_here, run_numbered, run_view, runs_begun, width_of}
use Rattle.tocmark_write_pending.specs.declared.runs.Run as declared
use Rattle.tocmark_write_pending.proofs.RunColumn.{in-of, inner-numbered, last-numbered, pick-false, pick-true}

reverse-cons : (e : SourcedEvent) (es after : List SourcedEvent) → reverse (e ∷ es) ++ after ≡ reverse es ++ e ∷ after
reverse-cons e es after = ap (λ x. x ++ after) (reverse-append (e ∷ []) es) ∙ append_assoc (reverse es) (e ∷ []) after

-- some of the last events aside
run-behind : (runs : List Run) (zs : List SourcedEvent) (e : SourcedEvent) (back after : List SourcedEvent) → AreRuns runs (zs ++ e ∷ back) after → IsRunAt runs e back (reverse zs ++ after)
run-behind runs [] e back after a = a.0
run-behind runs (z ∷ zs) e back after a =
    subst (λ (xs : List SourcedEvent). IsRunAt runs e back xs) (sym (reverse-cons z zs after)) (run-behind runs zs e back (z ∷ after) a.1)

turned : (fs : List SourcedEvent) (e : SourcedEvent) (bs : List SourcedEvent) → reverse (fs ++ e ∷ bs) ≡ reverse bs ++ e ∷ reverse fs
turned fs e bs =
    reverse-append fs (e ∷ bs)
    ∙ ap (λ xs. xs ++ reverse fs) (reverse-append (e ∷ []) bs)
    ∙ append_assoc (reverse bs) (e ∷ []) (reverse fs)

-- at a place among the events in their order
run-placed : (runs : List Run) (fs : List SourcedEvent) (e : SourcedEvent) (bs : List SourcedEvent) → AreRuns runs (reverse (fs ++ e ∷ bs)) [] → IsRunAt runs e (reverse fs) bs
run-placed runs fs e bs a =
    subst (λ (xs : List SourcedEvent). IsRunAt runs e (reverse fs) xs) (append-nil (reverse (reverse bs)) ∙ reverse-reverse bs)
    (run-behind runs (reverse bs) e (reverse fs) [] (subst (λ (es : List SourcedEvent). AreRuns runs es []) (turned fs e bs) a))

-- the events up to a place, the last one first
pub up-to : (es : List SourcedEvent) (i : ℕ) (e : SourcedEvent) (rest : List SourcedEvent) → drop i es ≡ e ∷ rest → reverse (take (suc i) es) ≡ e ∷ reverse (take i es)
up-to es i e rest at =
    let lt = place-within es rest i e at in
    let more : take (suc i) es ≡ take i es ++ get_or es i e ∷ [] = (let n : suc i ≡ i + 1 = omega arith in ap (λ n. take n es) n) ∙ take_more es i e lt in
    let this : get_or es i e ≡ e = ap (λ (xs : List SourcedEvent). get_or xs 0 e) (sym (drop-cons es i e lt) ∙ at) in
    ap reverse (more ∙ ap (λ (x : SourcedEvent). take i es ++ x ∷ []) this) ∙ reverse-append (take i es) (e ∷ [])

module _ (es : List SourcedEvent) (runs : List Run) (ns : List ℕ) (i : ℕ) (held : HoldRuns (reverse es) runs) (numbered : AreNumbered es ns) where
  -- the delimiter at a place is in the run with its number
  run-there : (c : Counted) (e : SourcedEvent) (rest : List SourcedEvent) → drop i es ≡ e ∷ rest → is_counted c e ≡ true → run_numbered (get_or ns i 0) runs ≡ Some (run_at (width_of c) (width_of c e) (reverse (take i es)) rest)
  run-there c e rest at k =
      let events : take i es ++ e ∷ rest ≡ es = ap (λ (xs : List SourcedEvent). take i es ++ xs) (sym at) ∙ take-append-drop i es in
      let is : IsRunAt runs e (reverse (take i es)) rest = run-placed runs (take i es) e rest (subst (λ (xs : List SourcedEvent). AreRuns runs (reverse xs) []) (sym events) held.are) in
      ap (λ n. run_numbered n runs) (numbered.at i (ap begins_in_run at ∙ in-of c e k) ∙ ap runs_begun (up-to es i e rest at))
      ∙ is.run c k

  -- so its run is found by the number
  pub here-some : begins_in_run (drop i es) ≡ true → run_numbered (get_or ns i 0) runs ≡ run_here (reverse (take i es)) (drop i es)
  here-some h = by (drop i es) refl h
    where
      by : (xs : List SourcedEvent) → drop i es ≡ xs → begins_in_run xs ≡ true → run_numbered (get_or ns i 0) runs ≡ run_here (reverse (take i es)) xs
      by [] at k = absurd (false≢true k)
      by (Start t ∷ rest) at k =
          let counted : is_counted Starts (Start t) ≡ true = ⊎_elim (λ (a : is_counted Starts (Start t) ≡ true). a) (λ (b : false ≡ true). absurd (false≢true b)) (or_cases (is_counted Starts (Start t)) false k) in
          run-there Starts (Start t) rest at counted
          ∙ sym (pick-true (is_counted Starts (Start t)) (Some (run_at start_width (tag_width t) (reverse (take i es)) rest)) None counted)
      by (End x ∷ rest) at k =
          let counted : is_counted Ends (End x) ≡ true = ⊎_elim (λ (a : false ≡ true). absurd (false≢true a)) (λ (b : is_counted Ends (End x) ≡ true). b) (or_cases false (is_counted Ends (End x)) k) in
          run-there Ends (End x) rest at counted
          ∙ sym (pick-true (is_counted Ends (End x)) (Some (run_at close_width (end_width x) (reverse (take i es)) rest)) None counted)
      by (Leaf l ∷ rest) at k = absurd (false≢true k)

-- another event is in none
pub here-none : (back es : List SourcedEvent) → begins_in_run es ≡ false → None ≡ run_here back es
here-none back [] h = refl
here-none back (Start t ∷ rest) h = sym (pick-false (is_counted Starts (Start t)) (Some (run_at start_width (tag_width t) back rest)) None (or_parts (is_counted Starts (Start t)) false h).0)
here-none back (End x ∷ rest) h = sym (pick-false (is_counted Ends (End x)) (Some (run_at close_width (end_width x) back rest)) None (or_parts false (is_counted Ends (End x)) h).1)
here-none back (Leaf l ∷ rest) h = refl

-- ---- the runs in their order

numbered-none : (rs : List Run) (n : ℕ) → length rs < n → run_numbered n rs ≡ None
numbered-none [] n lt = refl
numbered-none (r ∷ rs) n lt =
    let less : suc (length rs) < n = lt in
    pick-false (n == suc (length rs)) (Some r) (run_numbered n rs) (grind (arith, nat_tests)) ∙ numbered-none rs n (omega (arith, less))

pub numbered-zero : (rs : List Run) → None ≡ run_numbered 0 rs
numbered-zero [] = refl
numbered-zero (r ∷ rs) = numbered-zero rs ∙ sym (pick-false (0 == suc (length rs)) (Some r) (run_numbered 0 rs) (grind (arith, nat_tests)))

numbered-is : (rs : List Run) (k : ℕ) → slice_get (reverse rs) k ≡ run_numbered (suc k) rs
numbered-is [] k = slice_get_past [] k (omega arith)
numbered-is (r ∷ rs) k =
    let turned : reverse (r ∷ rs) ≡ reverse rs ++ r ∷ [] = reverse-append (r ∷ []) rs in
    let len : length (reverse rs ++ r ∷ []) ≡ length rs + 1 = omega (arith, length-append (reverse rs) (r ∷ []), length-reverse rs) in
    ap (λ (xs : List Run). slice_get xs k) turned
    ∙ ⊎_elim
    (λ (lt : k < length rs).
    slice_get-get_or (reverse rs ++ r ∷ []) k r (omega (arith, len))
    ∙ ap Some (get_or-append (reverse rs) (r ∷ []) r k (omega (arith, length-reverse rs)))
    ∙ sym (slice_get-get_or (reverse rs) k r (omega (arith, length-reverse rs)))
    ∙ numbered-is rs k
    ∙ sym (inner-numbered (suc k) r rs (omega arith)))
    (λ (le : length rs ≤ k).
    ⊎_elim
    (λ (lt : length rs < k). slice_get_past (reverse rs ++ r ∷ []) k (omega (arith, len)) ∙ sym (numbered-none (r ∷ rs) (suc k) (omega arith)))
    (λ (ge : k ≤ length rs).
    let same : length (reverse rs) ≡ k = omega (arith, length-reverse rs) in
    slice_get-get_or (reverse rs ++ r ∷ []) k r (omega (arith, len))
    ∙ ap Some (ap (λ n. get_or (reverse rs ++ r ∷ []) n r) (sym same) ∙ get_or-append_seam (reverse rs) r [] r)
    ∙ sym (last-numbered (suc k) r rs (omega arith)))
    (cases_lt (length rs) k))
    (cases_lt k (length rs))

-- the run with a number is the one at the place before
pub numbered-at : (rs : List declared.Run) (n k : ℕ) → n ≡ k + 1 → option_map run_view (slice_get rs k) ≡ run_numbered n (reverse (map run_view rs))
numbered-at rs n k e =
    let more : suc k ≡ n = omega (arith, e) in
    sym (slice_get-map run_view rs k)
    ∙ ap (λ (xs : List Run). slice_get xs k) (sym (reverse-reverse (map run_view rs)))
    ∙ numbered-is (reverse (map run_view rs)) k
    ∙ ap (λ m. run_numbered m (reverse (map run_view rs))) more
