-- The counts of calls add up.
use Rattle.std.proofs.Common.{◌≡◌, ℕ, ◌+◌, ◌<◌, ◌^◌, List, [], ◌∷◌, ◌++◌, Result, Ok, Err, refl, ap, sym, ◌∙◌, subst, append_assoc, append-nil, length, arith}
use Rattle.std.proofs.lemmas.List.{length-append}
use Rattle.std.proofs.lemmas.List.Sums.{sum_by-append, sum_by-cons}
use Rattle.std.proofs.Math.Nat.{min-eq_left}
use Rattle.std.specs.List.{sum_by}
use Rattle.tocmark_event.specs.declared.event.flags.ParserOptions.{ParserOptions}
use Rattle.tocmark_event.specs.declared.options.Error.{Error}
use Rattle.tocmark_state.specs.declared.work.Progress.{Progress}
use Rattle.tocmark_laws.specs.Calls.{AddUpTo, AreCalls, GoesOn, all_pairs, pairs_of_first}
use Rattle.tocmark_state.specs.Ranges.{Pair}
use Rattle.tocmark_state.specs.WorkView.{at_most}
use Rattle.tocmark_state.specs.StateView.{Adds, Ends}
use Rattle.tocmark_state.specs.Walk.{Rendering, Standing, nothing_yet, script, walk}

abbrev events_of : List Progress → ℕ
events_of ns = sum_by (λ n. n.events_consumed) ns

abbrev bytes_of : List Progress → ℕ
bytes_of ns = sum_by (λ n. n.bytes_written) ns

-- a number that fits is no less for the greatest one
fits : (n : ℕ) → n < 2 ^ 64 → at_most n ≡ n
fits n h = min-eq_left (omega (arith, h))

-- one more count, in front of those that add up to the rest
added : (a b whole : ℕ) (c : ℕ) → c ≡ at_most a → whole ≡ a + b → whole < 2 ^ 64 → c + b ≡ whole
added a b whole c is all below = rw (is, fits a (omega (arith, all, below))) (sym all)

module _ {W : Type 0} (gives refuses : W → List ℕ → W → Type 0) (how : Rendering) (flags : ParserOptions) (source : List ℕ) where
  -- how many bytes the texts of a walk have
  abbrev walked : List Pair → ℕ
  walked p = sum_by length (walk how source (nothing_yet flags) p).texts

  abbrev scripted : List Pair → ℕ
  scripted p = sum_by length (script how source (nothing_yet flags) p).texts

  -- counts that add up to what the longer list has over the shorter one
  record AddOver (short long : ℕ) (from to : ℕ) (ns : List Progress) : Type 0 where
    pub events : ℕ
    pub bytes : ℕ
    pub events_are : long ≡ short + events
    pub bytes_are : to ≡ from + bytes
    pub events_sum : events < 2 ^ 64 → events_of ns ≡ events
    pub bytes_sum : bytes < 2 ^ 64 → bytes_of ns ≡ bytes

  none_over : (n m : ℕ) → AddOver n n m m []
  none_over n m = record { events = 0; bytes = 0; events_are = omega arith; bytes_are = omega arith; events_sum = λ h. refl; bytes_sum = λ h. refl }

  -- the counts of one call more, in front
  one_over : (p q : List Pair) (long to : ℕ) (n : Progress) (place : Standing) (u v : W) (ns : List Progress) → Adds gives refuses u v how flags source (Ok n) place p q → AddOver (length (p ++ q)) long (walked (p ++ q)) to ns → AddOver (length p) long (walked p) to (n ∷ ns)
  one_over p q long to n place u v ns a o =
      let bytes = sum_by length a.more in
      let texts : walked (p ++ q) ≡ walked p + bytes =
      ap (λ (ts : List (List ℕ)). sum_by length ts) a.added ∙ sum_by-append length (walk how source (nothing_yet flags) p).texts a.more in
      record {
        events = length q + o.events;
        bytes = bytes + o.bytes;
        events_are = omega (arith, o.events_are, length-append p q);
        bytes_are = omega (arith, o.bytes_are, texts);
        events_sum = λ h.
            sum_by-cons (λ (m : Progress). m.events_consumed) n ns
            ∙ ap (λ (x : ℕ). n.events_consumed + x) (o.events_sum (omega (arith, h)))
            ∙ added (length q) o.events (length q + o.events) n.events_consumed a.counts.events_consumed refl h;
        bytes_sum = λ h.
            sum_by-cons (λ (m : Progress). m.bytes_written) n ns
            ∙ ap (λ (x : ℕ). n.bytes_written + x) (o.bytes_sum (omega (arith, h)))
            ∙ added bytes o.bytes (bytes + o.bytes) n.bytes_written a.counts.bytes_written refl h;
      }

  -- `finish` at the end
  end_over : (p : List Pair) (n : Progress) (u v : W) → Ends gives refuses u v how flags source (Ok n) p → AddOver (length p) (length p) (walked p) (scripted p) (n ∷ [])
  end_over p n u v b =
      let bytes = sum_by length b.more in
      let texts : scripted p ≡ walked p + bytes =
      ap (λ (ts : List (List ℕ)). sum_by length ts) b.added ∙ sum_by-append length (walk how source (nothing_yet flags) p).texts b.more in
      record {
        events = 0;
        bytes = bytes;
        events_are = omega arith;
        bytes_are = texts;
        events_sum = λ h. rw (b.counts.events_consumed, fits 0 h) refl;
        bytes_sum = λ h. rw (b.counts.bytes_written, fits bytes h) (omega arith);
      }

  -- calls and `finish` after the pairs p
  all_over : (qs : List (List Pair)) (p : List Pair) (w v : W) (counts : List Progress) (last : Progress) → AreCalls gives refuses how flags source p qs w v counts (Ok last) → AddOver (length p) (length (p ++ all_pairs qs)) (walked p) (scripted (p ++ all_pairs qs)) (counts ++ last ∷ [])
  all_over [] p w v counts last (none, b) =
      subst (λ (ns : List Progress). AddOver (length p) (length (p ++ [])) (walked p) (scripted (p ++ [])) (ns ++ last ∷ [])) (sym none)
      (subst (λ (ps : List Pair). AddOver (length p) (length ps) (walked p) (scripted ps) (last ∷ [])) (sym (append-nil p)) (end_over p last w v b))
  all_over (q ∷ qs) p w v counts last (c, g) = go (λ u ns. all_over qs (p ++ q) u v ns last) c.answer c.place c.u c.added g
    where
      go : ((u : W) (ns : List Progress) → AreCalls gives refuses how flags source (p ++ q) qs u v ns (Ok last) → AddOver (length (p ++ q)) (length ((p ++ q) ++ all_pairs qs)) (walked (p ++ q)) (scripted ((p ++ q) ++ all_pairs qs)) (ns ++ last ∷ []))
          → (answer : Result Progress Error) (place : Standing) (u : W) → Adds gives refuses w u how flags source answer place p q → GoesOn answer u v counts (Ok last) (λ ns. AreCalls gives refuses how flags source (p ++ q) qs u v ns (Ok last))
          → AddOver (length p) (length (p ++ (q ++ all_pairs qs))) (walked p) (scripted (p ++ (q ++ all_pairs qs))) (counts ++ last ∷ [])
      go again (Ok n) place u a (ns, is, g) =
          subst (λ (xs : List Progress). AddOver (length p) (length (p ++ (q ++ all_pairs qs))) (walked p) (scripted (p ++ (q ++ all_pairs qs))) (xs ++ last ∷ [])) (sym is)
          (subst (λ (ps : List Pair). AddOver (length p) (length ps) (walked p) (scripted ps) (n ∷ (ns ++ last ∷ []))) (append_assoc p q (all_pairs qs))
          (one_over p q (length ((p ++ q) ++ all_pairs qs)) (scripted ((p ++ q) ++ all_pairs qs)) n place w u (ns ++ last ∷ []) a (again u ns g)))
      go again (Err e) place u a (none, same, is) = cc

  -- the calls that succeeded, after the pairs p
  first_over : (qs : List (List Pair)) (p : List Pair) (w v : W) (counts : List Progress) (r : Result Progress Error) → AreCalls gives refuses how flags source p qs w v counts r → AddOver (length p) (length (p ++ pairs_of_first (length counts) qs)) (walked p) (walked (p ++ pairs_of_first (length counts) qs)) counts
  first_over [] p w v counts r (none, b) = rw none (nothing_over p)
    where
      nothing_over : (p : List Pair) → AddOver (length p) (length (p ++ [])) (walked p) (walked (p ++ [])) []
      nothing_over p = subst (λ (ps : List Pair). AddOver (length p) (length ps) (walked p) (walked ps) []) (sym (append-nil p)) (none_over (length p) (walked p))
  first_over (q ∷ qs) p w v counts r (c, g) = go (λ u ns. first_over qs (p ++ q) u v ns r) c.answer c.place c.u c.added g
    where
      nothing_over : AddOver (length p) (length (p ++ [])) (walked p) (walked (p ++ [])) []
      nothing_over = subst (λ (ps : List Pair). AddOver (length p) (length ps) (walked p) (walked ps) []) (sym (append-nil p)) (none_over (length p) (walked p))

      go : ((u : W) (ns : List Progress) → AreCalls gives refuses how flags source (p ++ q) qs u v ns r → AddOver (length (p ++ q)) (length ((p ++ q) ++ pairs_of_first (length ns) qs)) (walked (p ++ q)) (walked ((p ++ q) ++ pairs_of_first (length ns) qs)) ns)
          → (answer : Result Progress Error) (place : Standing) (u : W) → Adds gives refuses w u how flags source answer place p q → GoesOn answer u v counts r (λ ns. AreCalls gives refuses how flags source (p ++ q) qs u v ns r)
          → AddOver (length p) (length (p ++ pairs_of_first (length counts) (q ∷ qs))) (walked p) (walked (p ++ pairs_of_first (length counts) (q ∷ qs))) counts
      go again (Ok n) place u a (ns, is, g) =
          let rest = pairs_of_first (length ns) qs in
          subst (λ (xs : List Progress). AddOver (length p) (length (p ++ pairs_of_first (length xs) (q ∷ qs))) (walked p) (walked (p ++ pairs_of_first (length xs) (q ∷ qs))) xs) (sym is)
          (subst (λ (ps : List Pair). AddOver (length p) (length ps) (walked p) (walked ps) (n ∷ ns)) (append_assoc p q rest)
          (one_over p q (length ((p ++ q) ++ rest)) (walked ((p ++ q) ++ rest)) n place w u ns a (again u ns g)))
      go again (Err e) place u a (none, same, is) =
          subst (λ (xs : List Progress). AddOver (length p) (length (p ++ pairs_of_first (length xs) (q ∷ qs))) (walked p) (walked (p ++ pairs_of_first (length xs) (q ∷ qs))) xs) (sym none) nothing_over

  -- counts over nothing add up to the whole
  summed : (long to : ℕ) (ns : List Progress) → AddOver 0 long 0 to ns → AddUpTo long to ns
  summed long to ns o = record {
    events_consumed = λ h. o.events_sum (omega (arith, h, o.events_are)) ∙ omega (arith, o.events_are);
    bytes_written = λ h. o.bytes_sum (omega (arith, h, o.bytes_are)) ∙ omega (arith, o.bytes_are);
  }

  pub list_sums : (calls : List (List Pair)) (w v : W) (counts : List Progress) (last : Progress) → AreCalls gives refuses how flags source [] calls w v counts (Ok last) → AddUpTo (length (all_pairs calls)) (scripted (all_pairs calls)) (counts ++ last ∷ [])
  list_sums calls w v counts last h = summed (length (all_pairs calls)) (scripted (all_pairs calls)) (counts ++ last ∷ []) (all_over calls [] w v counts last h)

  pub calls_sum : (calls : List (List Pair)) (w v : W) (counts : List Progress) (r : Result Progress Error) → AreCalls gives refuses how flags source [] calls w v counts r → AddUpTo (length (pairs_of_first (length counts) calls)) (walked (pairs_of_first (length counts) calls)) counts
  calls_sum calls w v counts r h = summed (length (pairs_of_first (length counts) calls)) (walked (pairs_of_first (length counts) calls)) counts (first_over calls [] w v counts r h)
