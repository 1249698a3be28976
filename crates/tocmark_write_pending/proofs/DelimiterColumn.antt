-- One event more: what is kept of each event up to the last delimiter.
use Rattle.std.proofs.Common.{◌≡◌, ℕ, zero, suc, ◌+◌, ◌-◌, ◌<◌, ◌≤◌, true, false, List, [], ◌∷◌, ◌++◌, refl, sym, ap, ◌∙◌, subst, length, map, reverse, take, drop, get_or, arith, ⊎_elim, length-append}
use Rattle.std.specs.Prelude.{replicate}
use Rattle.std.proofs.Math.ListN.{get_or-append, get_or-replicate, length-replicate, set}
use Rattle.std.proofs.lemmas.Bool.{cases_lt, false≢true, true≢false}
use Rattle.std.proofs.lemmas.List.{drop_all, get_or-append_right, get_or_past, length-drop, length-map, map-append, map-set, reverse-append, reverse-reverse, take-append-le, take_all}
use Rattle.tocmark_event.specs.View.{SourcedEvent}
use Rattle.tocmark_write_pending.specs.DelimiterColumn.{AreNumbered, noted, numbers_of, widths_of}
use Rattle.tocmark_write_pending.specs.RunColumn.{begins_in_run, ends_run, in_run, runs_begun}
use Rattle.tocmark_write_pending.specs.declared.delimiters.Delimiter.{Delimiter}
use Rattle.tocmark_write_pending.proofs.OpenContainers.{drop-last, drop-more}

-- ---- a list that is filled up

module _ {A : Type 0} (f : Delimiter → A) (none : A) (ds : List Delimiter) (d : Delimiter) (n : ℕ) where
  map-filled : map f (ds ++ replicate n d) ≡ map f ds ++ replicate n (f d)
  map-filled = map-append f ds (replicate n d) ∙ ap (λ xs. map f ds ++ xs) (each n)
    where
      each : (n : ℕ) → map f (replicate n d) ≡ replicate n (f d)
      each zero = refl
      each (suc n) = ap (λ xs. f d ∷ xs) (each n)

  -- before that nothing changes
  filled-before : (i : ℕ) → i < length ds → get_or (map f (ds ++ replicate n d)) i none ≡ get_or (map f ds) i none
  filled-before i lt = ap (λ xs. get_or xs i none) map-filled ∙ get_or-append (map f ds) (replicate n (f d)) none i (omega (arith, lt, length-map ds f))

  -- what is new is this
  filled-here : (i : ℕ) → length ds ≤ i → i < length ds + n → get_or (map f (ds ++ replicate n d)) i none ≡ f d
  filled-here i le lt =
      ap (λ xs. get_or xs i none) map-filled
      ∙ get_or-append_right (map f ds) (replicate n (f d)) (length (map f ds)) i none refl (omega (arith, le, length-map ds f))
      ∙ get_or-replicate n (i - length (map f ds)) (f d) none (omega (arith, le, lt, length-map ds f))

  filled-length : length (map f (ds ++ replicate n d)) ≡ length ds + n
  filled-length = length-map (ds ++ replicate n d) f ∙ length-append ds (replicate n d) ∙ ap (λ m. length ds + m) (length-replicate n d)

-- where what is new says nothing, nothing changes
pub filled-none : {A : Type 0} (f : Delimiter → A) (ds : List Delimiter) (d : Delimiter) (n i : ℕ) → get_or (map f (ds ++ replicate n d)) i (f d) ≡ get_or (map f ds) i (f d)
filled-none f ds d n i =
    ⊎_elim
    (λ (lt : i < length ds). filled-before f (f d) ds d n i lt)
    (λ (le : length ds ≤ i).
    ⊎_elim
    (λ (lt : i < length ds + n). filled-here f (f d) ds d n i le lt)
    (λ (ge : length ds + n ≤ i). get_or_past (map f (ds ++ replicate n d)) i (f d) (omega (arith, ge, filled-length f (f d) ds d n)))
    (cases_lt i (length ds + n))
    ∙ sym (get_or_past (map f ds) i (f d) (omega (arith, le, length-map ds f))))
    (cases_lt i (length ds))

-- the widths stay as they are
pub widths-noted : (place number : ℕ) (ds new : List Delimiter) → new ≡ noted place number ds → (i : ℕ) → get_or (widths_of new) i 0 ≡ get_or (widths_of ds) i 0
widths-noted place number ds new is i =
    ap (λ (xs : List Delimiter). get_or (widths_of xs) i 0) is ∙ filled-none (λ (d : Delimiter). d.width) ds (record { run = number; width = 0 }) (suc place - length ds) i

-- ---- the events with one more

begins-more : (es : List SourcedEvent) (x : SourcedEvent) (i : ℕ) → i < length es → begins_in_run (drop i (es ++ x ∷ [])) ≡ begins_in_run (drop i es)
begins-more es x i lt = by (drop i es) refl
  where
    by : (ys : List SourcedEvent) → drop i es ≡ ys → begins_in_run (drop i (es ++ x ∷ [])) ≡ begins_in_run (drop i es)
    by [] e = absurd (omega (arith, lt, length-drop i es, ap length e))
    by (y ∷ ys) e = ap begins_in_run (drop-more es i y ys (x ∷ []) e) ∙ ap begins_in_run (sym e)

begins-past : (es : List SourcedEvent) (i : ℕ) → length es ≤ i → begins_in_run (drop i es) ≡ false
begins-past es i le = ap begins_in_run (drop_all i es le)

up-more : (es : List SourcedEvent) (x : SourcedEvent) (i : ℕ) → i < length es → reverse (take (suc i) (es ++ x ∷ [])) ≡ reverse (take (suc i) es)
up-more es x i lt = ap (λ (xs : List SourcedEvent). reverse xs) (take-append-le (suc i) es (x ∷ []) (omega (arith, lt)))

up-last : (es : List SourcedEvent) (x : SourcedEvent) → reverse (take (suc (length es)) (es ++ x ∷ [])) ≡ x ∷ reverse es
up-last es x = ap (λ (xs : List SourcedEvent). reverse xs) (take_all (suc (length es)) (es ++ x ∷ []) (omega (arith, length-append es (x ∷ [])))) ∙ reverse-append es (x ∷ [])

-- after the last of these numbers no delimiter was either
pub beyond-before : (es : List SourcedEvent) (x : SourcedEvent) (ns : List ℕ) → AreNumbered (es ++ x ∷ []) ns → (i : ℕ) → length ns ≤ i → begins_in_run (drop i es) ≡ false
beyond-before es x ns held i le =
    ⊎_elim (λ (lt : i < length es). sym (begins-more es x i lt) ∙ held.beyond i le) (λ (ge : length es ≤ i). begins-past es i ge) (cases_lt i (length es))

module _ (es : List SourcedEvent) (x : SourcedEvent) (ns : List ℕ) (held : AreNumbered es ns) where
  -- an event in no run
  pub numbered-quiet : in_run x ≡ false → AreNumbered (es ++ x ∷ []) ns
  numbered-quiet out = record {
    len = omega (arith, held.len, length-append es (x ∷ []));
    at = at;
    beyond = beyond;
  }
    where
      last : (i : ℕ) → length es ≤ i → begins_in_run (drop i (es ++ x ∷ [])) ≡ false
      last i le =
          ⊎_elim
          (λ (lt : length es < i). begins-past (es ++ x ∷ []) i (omega (arith, lt, length-append es (x ∷ []))))
          (λ (ge : i ≤ length es).
          let same : length es ≡ i = omega arith in
          subst (λ n. begins_in_run (drop n (es ++ x ∷ [])) ≡ false) same (ap begins_in_run (drop-last es x) ∙ out))
          (cases_lt (length es) i)

      at : (i : ℕ) → begins_in_run (drop i (es ++ x ∷ [])) ≡ true → get_or ns i 0 ≡ runs_begun (reverse (take (suc i) (es ++ x ∷ [])))
      at i h =
          ⊎_elim
          (λ (lt : i < length es). held.at i (sym (begins-more es x i lt) ∙ h) ∙ ap runs_begun (sym (up-more es x i lt)))
          (λ (le : length es ≤ i). absurd (false≢true (sym (last i le) ∙ h)))
          (cases_lt i (length es))

      beyond : (i : ℕ) → length ns ≤ i → begins_in_run (drop i (es ++ x ∷ [])) ≡ false
      beyond i le =
          ⊎_elim
          (λ (lt : i < length es). begins-more es x i lt ∙ held.beyond i le)
          (λ (ge : length es ≤ i). last i ge)
          (cases_lt i (length es))

-- where nothing is kept of any event, they don't end with a run
pub none-runs : (es : List SourcedEvent) (ns : List ℕ) → AreNumbered es ns → length ns ≡ 0 → false ≡ ends_run (reverse es)
none-runs es ns held none = by (reverse es) refl
  where
    by : (back : List SourcedEvent) → reverse es ≡ back → false ≡ ends_run back
    by [] r = refl
    by (x ∷ back) r =
        let same : es ≡ reverse back ++ x ∷ [] = sym (reverse-reverse es) ∙ ap (λ (xs : List SourcedEvent). reverse xs) r ∙ reverse-append (x ∷ []) back in
        let n : ℕ = length (reverse back) in
        let at : drop n es ≡ x ∷ [] = ap (drop n) same ∙ drop-last (reverse back) x in
        sym (held.beyond n (omega (arith, none))) ∙ ap begins_in_run at

-- a delimiter
pub numbered-more : (es : List SourcedEvent) (x : SourcedEvent) (place number : ℕ) (ds new : List Delimiter) → AreNumbered es (numbers_of ds) → place ≡ length es → number ≡ runs_begun (x ∷ reverse es) → new ≡ noted place number ds
    → AreNumbered (es ++ x ∷ []) (numbers_of new)
numbered-more es x place number ds new held p k is =
    subst (λ (xs : List Delimiter). AreNumbered (es ++ x ∷ []) (numbers_of xs)) (sym is)
    (record {
      len = omega (arith, len, length-append es (x ∷ []));
      at = at;
      beyond = λ i le. begins-past (es ++ x ∷ []) i (omega (arith, le, len, length-append es (x ∷ [])));
    })
  where
    f : Delimiter → ℕ
    f d = d.run

    more : ℕ
    more = suc place - length ds

    d : Delimiter
    d = record { run = number; width = 0 }

    within : length ds ≤ length es
    within = omega (arith, held.len, length-map ds (λ (d : Delimiter). d.run))

    len : length (numbers_of (noted place number ds)) ≡ suc (length es)
    len = filled-length (λ (d : Delimiter). d.run) 0 ds (record { run = number; width = 0 }) (suc place - length ds) ∙ omega (arith, within, p)

    before : (i : ℕ) → i < length es → begins_in_run (drop i es) ≡ true → i < length ds
    before i lt h =
        ⊎_elim
        (λ (less : i < length ds). less)
        (λ (le : length ds ≤ i). absurd (true≢false (sym h ∙ held.beyond i (omega (arith, le, length-map ds (λ (d : Delimiter). d.run))))))
        (cases_lt i (length ds))

    at : (i : ℕ) → begins_in_run (drop i (es ++ x ∷ [])) ≡ true → get_or (numbers_of (noted place number ds)) i 0 ≡ runs_begun (reverse (take (suc i) (es ++ x ∷ [])))
    at i h =
        ⊎_elim
        (λ (lt : i < length es).
        let begins : begins_in_run (drop i es) ≡ true = sym (begins-more es x i lt) ∙ h in
        filled-before (λ (d : Delimiter). d.run) 0 ds (record { run = number; width = 0 }) (suc place - length ds) i (before i lt begins)
        ∙ held.at i begins
        ∙ ap runs_begun (sym (up-more es x i lt)))
        (λ (le : length es ≤ i).
        ⊎_elim
        (λ (lt : length es < i). absurd (true≢false (sym h ∙ begins-past (es ++ x ∷ []) i (omega (arith, lt, length-append es (x ∷ []))))))
        (λ (ge : i ≤ length es).
        let same : length es ≡ i = omega arith in
        filled-here (λ (d : Delimiter). d.run) 0 ds (record { run = number; width = 0 }) (suc place - length ds) i (omega (arith, within, le)) (omega (arith, within, p, ge))
        ∙ k
        ∙ ap runs_begun (sym (up-last es x) ∙ ap (λ n. reverse (take (suc n) (es ++ x ∷ []))) same))
        (cases_lt (length es) i))
        (cases_lt i (length es))

-- ---- one width is set

pub numbers-set : (ds : List Delimiter) (i w : ℕ) (d : Delimiter) → d ≡ get_or ds i d → numbers_of (set ds i (record { run = d.run; width = w })) ≡ numbers_of ds
numbers-set ds i w d is =
    map-set (λ (x : Delimiter). x.run) ds i (record { run = d.run; width = w }) ∙ kept ds i d is
  where
    kept : (ds : List Delimiter) (i : ℕ) (d : Delimiter) → d ≡ get_or ds i d → set (numbers_of ds) i d.run ≡ numbers_of ds
    kept [] i d is = refl
    kept (x ∷ ds) zero d is = ap (λ (y : Delimiter). y.run ∷ numbers_of ds) is
    kept (x ∷ ds) (suc i) d is = ap (λ ns. x.run ∷ ns) (kept ds i d is)

pub widths-set : (ds : List Delimiter) (i p number w : ℕ) → i ≡ p → widths_of (set ds i (record { run = number; width = w })) ≡ set (widths_of ds) p w
widths-set ds i p number w is = map-set (λ (x : Delimiter). x.width) ds i (record { run = number; width = w }) ∙ ap (λ n. set (widths_of ds) n w) is
