-- Atoms on both sides of a place, with the roles that say them and the reader's runs; and the search for an opening run.
use Rattle.std.proofs.Common.{◌≡◌, ℕ, ◌+◌, ◌^◌, ◌<◌, ◌≤◌, Bool, true, false, ◌&&◌, ◌||◌, not, ◌==◌, ◌%◌, if◌then◌else◌, ◌⊎◌, inl, inr, List, [], ◌∷◌, ◌++◌, length, replicate, reverse, refl, ap, sym, subst, ◌∙◌, arith, append_assoc, length-append, true≢false}
use Rattle.std.proofs.lemmas.List.{length-replicate, reverse-append}
use Rattle.std.specs.Prelude.{Option, Some, None}
use Rattle.tocmark_read_spans.specs.Emphasis as reader
use Rattle.tocmark_read_spans.specs.declared.role.Role.{Role}
use Rattle.tocmark_read_spans.specs.declared.role.Role.TheVariants as role
use Rattle.tocmark_read_spans.specs.declared.run.Run.{Run}
use Rattle.tocmark_commonmark.specs.Emphasis.{Match, can_match, match_or, nearest}
use Rattle.tocmark_commonmark.specs.InlineTree.{Inline, Atom, Whole, Delimiters, Opening, as_inline, inlines_of}
use Rattle.tocmark_inline_laws.proofs.Atoms.{IsRun, Shows}
use Rattle.tocmark_inline_laws.proofs.Flow.{Beside}
use Rattle.tocmark_inline_laws.proofs.Sim.{runs_of, weight}
use Rattle.tocmark_inline_laws.proofs.SpanRoles.{ShowsAll, more_show, filled_shows}
use Rattle.tocmark_inline_laws.proofs.Stack.{is_star, fits_so, Missed, all_map}

-- a run at a place
abbrev pub placed : ℕ → Run → Run
placed p d = record d { place = p }

-- a stack with a run, if it may open
abbrev pub with_opener : List Run → Run → List Run
with_opener under d = if d.opens then under ++ d ∷ [] else under

-- runs with one in front, if it may open or close
abbrev pub with_kept : Run → List Run → List Run
with_kept d others = if d.opens || d.closes then d ∷ others else others

-- one inline, and what is before it
abbrev HeldInline : Beside → ℕ → List Role → Inline → (List Role → Type 0) → Type 0
HeldInline e base front i Before = (before : List Role) × (seg : List Role) × (front ≡ before ++ seg) × Shows e (base + length before) seg i × Before before

-- roles up to a place say these atoms, the last one first, and the stack has the runs among them that may open
abbrev pub Held : Beside → ℕ → List Role → List Atom → List Run → Type 0
Held e base front [] stack = (front ≡ []) × (stack ≡ [])
Held e base front (Whole i ∷ done) stack = HeldInline e base front i (λ before. Held e base before done stack)
Held e base front (Opening b ∷ done) stack = HeldInline e base front (as_inline (Opening b)) (λ before. Held e base before done stack)
Held e base front (Delimiters d ∷ done) stack =
    (before : List Role) × (under : List Run) × (front ≡ before ++ replicate d.count role.Plain) × (stack ≡ with_opener under (placed (base + length before) d)) × IsRun e (base + length before) d × Held e base before done under

-- one inline, and what is after it
abbrev LeadInline : Beside → ℕ → List Role → Inline → (ℕ → List Role → Type 0) → Type 0
LeadInline e p back i After = (seg : List Role) × (later : List Role) × (back ≡ seg ++ later) × Shows e p seg i × After (p + length seg) later

-- roles from a place on say these atoms, and these are the runs among them that may open or close
abbrev pub Lead : Beside → ℕ → List Role → List Atom → List Run → Type 0
Lead e p back [] runs = (back ≡ []) × (runs ≡ [])
Lead e p back (Whole i ∷ rest) runs = LeadInline e p back i (λ q later. Lead e q later rest runs)
Lead e p back (Opening b ∷ rest) runs = LeadInline e p back (as_inline (Opening b)) (λ q later. Lead e q later rest runs)
Lead e p back (Delimiters d ∷ rest) runs =
    (later : List Role) × (others : List Run) × (back ≡ replicate d.count role.Plain ++ later) × (runs ≡ with_kept (placed p d) others) × IsRun e p d × Lead e (p + d.count) later rest others

pub run_shows : (e : Beside) (p : ℕ) (d : Run) → IsRun e p d → Shows e p (replicate d.count role.Plain) (as_inline (Delimiters d))
run_shows e p d h = filled_shows e p d.byte d.count h.filled

-- one atom more between
between_more : (e : Beside) (base : ℕ) (before seg front mid : List Role) (a : Atom) (between : List Atom) → front ≡ before ++ seg → Shows e (base + length before) seg (as_inline a) → ShowsAll e (base + length front) mid (inlines_of between) → ShowsAll e (base + length before) (seg ++ mid) (inlines_of (a ∷ between))
between_more e base before seg front mid a between cut h k =
    more_show e (base + length before) seg mid (as_inline a) (inlines_of between) h
    (subst (λ q. ShowsAll e q mid (inlines_of between)) (let l : length front ≡ length before + length seg = ap length cut ∙ length-append before seg in let q : base + length front ≡ base + length before + length seg = omega arith in q) k)

turned_over : (a : Atom) (atoms done : List Atom) → reverse atoms ++ (a ∷ done) ≡ reverse (a ∷ atoms) ++ done
turned_over a atoms done = sym (append_assoc (reverse atoms) (a ∷ []) done) ∙ ap (λ xs. xs ++ done) (sym (reverse-append (a ∷ []) atoms))

-- what is before a place is said, and what is after it
held_step : (e : Beside) (base : ℕ) (before seg front mid : List Role) (a : Atom) (between done : List Atom) → front ≡ before ++ seg → ShowsAll e base (before ++ (seg ++ mid)) (inlines_of (reverse done ++ (a ∷ between))) → ShowsAll e base (front ++ mid) (inlines_of (reverse (a ∷ done) ++ between))
held_step e base before seg front mid a between done cut h =
    subst (λ (rs : List Role). ShowsAll e base rs (inlines_of (reverse (a ∷ done) ++ between))) (sym (append_assoc before seg mid) ∙ ap (λ rs. rs ++ mid) (sym cut))
    (subst (λ (xs : List Atom). ShowsAll e base (before ++ (seg ++ mid)) (inlines_of xs)) (turned_over a done between) h)

pub held_shows : (e : Beside) (base : ℕ) (front : List Role) (done : List Atom) (stack : List Run) → Held e base front done stack → (mid : List Role) (between : List Atom) → ShowsAll e (base + length front) mid (inlines_of between) → ShowsAll e base (front ++ mid) (inlines_of (reverse done ++ between))
held_shows e base front [] stack h mid between k =
    subst (λ (rs : List Role). ShowsAll e base (rs ++ mid) (inlines_of between)) (sym (h.0))
    (subst (λ q. ShowsAll e q mid (inlines_of between)) (let l : length front ≡ 0 = ap length (h.0) in let q : base + length front ≡ base = omega arith in q) k)
held_shows e base front (Whole i ∷ done) stack h mid between k =
    held_step e base (h.0) (h.1) front mid (Whole i) between done (h.2)
    (held_shows e base (h.0) done stack (h.4) (h.1 ++ mid) (Whole i ∷ between) (between_more e base (h.0) (h.1) front mid (Whole i) between (h.2) (h.3) k))
held_shows e base front (Opening b ∷ done) stack h mid between k =
    held_step e base (h.0) (h.1) front mid (Opening b) between done (h.2)
    (held_shows e base (h.0) done stack (h.4) (h.1 ++ mid) (Opening b ∷ between) (between_more e base (h.0) (h.1) front mid (Opening b) between (h.2) (h.3) k))
held_shows e base front (Delimiters d ∷ done) stack h mid between k =
    held_step e base (h.0) (replicate d.count role.Plain) front mid (Delimiters d) between done (h.2)
    (held_shows e base (h.0) done (h.1) (h.5) (replicate d.count role.Plain ++ mid) (Delimiters d ∷ between)
    (between_more e base (h.0) (replicate d.count role.Plain) front mid (Delimiters d) between (h.2) (run_shows e (base + length (h.0)) d (h.4)) k))

-- an opening run is found in both: what is before it, and what is after it
pub record Caught (e : Beside) (base : ℕ) (c : Run) (roles : List Role) (stack : List Run) (result : Option Match) (all : ℕ) : Type 0 where
  pub opening : Run
  pub before : List Atom
  pub between : List Atom
  pub under : List Run
  pub upper : List Run
  pub prior : List Role
  pub mid : List Role
  pub found : result ≡ Some (record { before = before; opening = opening; between = between })
  pub roles_are : roles ≡ prior ++ (replicate opening.count role.Plain ++ mid)
  pub stack_is : stack ≡ under ++ placed (base + length prior) opening ∷ upper
  pub opens : opening.opens ≡ true
  pub matches : can_match opening c ≡ true
  pub fits : reader.fits (placed (base + length prior) opening) c ≡ true
  pub missed : Missed c (base + length prior) upper
  pub run : IsRun e (base + length prior) opening
  pub shows : ShowsAll e (base + length prior + opening.count) mid (inlines_of between)
  pub held : Held e base prior before under
  pub light : opening.length + weight (runs_of before) ≤ all

-- or none is
abbrev pub Search : Beside → ℕ → Run → List Role → List Run → Option Match → ℕ → Type 0
Search e base c roles stack result all = Caught e base c roles stack result all ⊎ ((result ≡ None) × Missed c base stack)

missed_above : (c : Run) (p q : ℕ) (runs : List Run) → p ≤ q → Missed c q runs → Missed c p runs
missed_above c p q runs l h = all_map (λ o. (q ≤ o.place) × (reader.fits o c ≡ false) × (can_match o c ≡ false)) (λ o. (p ≤ o.place) × (reader.fits o c ≡ false) × (can_match o c ≡ false)) runs (λ o k. let m : q ≤ o.place = k.0 in (omega arith, (k.1), (k.2))) h

-- the search goes on before an inline
search_on : (e : Beside) (base : ℕ) (c : Run) (before seg front mid : List Role) (stack : List Run) (result : Option Match) (all : ℕ) → front ≡ before ++ seg → Search e base c (before ++ (seg ++ mid)) stack result all → Search e base c (front ++ mid) stack result all
search_on e base c before seg front mid stack result all cut h = subst (λ (rs : List Role). Search e base c rs stack result all) (sym (append_assoc before seg mid) ∙ ap (λ rs. rs ++ mid) (sym cut)) h

prior_length : (base : ℕ) (front before seg : List Role) → front ≡ before ++ seg → base + length before ≤ base + length front
prior_length base front before seg cut = let l : length front ≡ length before + length seg = ap length cut ∙ length-append before seg in omega arith

-- also with more runs of another one
wider : (e : Beside) (base : ℕ) (c : Run) (roles : List Role) (stack : List Run) (result : Option Match) (all more : ℕ) → all ≤ more → Search e base c roles stack result all → Search e base c roles stack result more
wider e base c roles stack result all more l h = elim h [
  | inl k ↦ inl (record {
    opening = k.opening;
    before = k.before;
    between = k.between;
    under = k.under;
    upper = k.upper;
    prior = k.prior;
    mid = k.mid;
    found = k.found;
    roles_are = k.roles_are;
    stack_is = k.stack_is;
    opens = k.opens;
    matches = k.matches;
    fits = k.fits;
    missed = k.missed;
    run = k.run;
    shows = k.shows;
    held = k.held;
    light = (let m : k.opening.length + weight (runs_of k.before) ≤ all = k.light in omega arith);
  })
  | inr k ↦ inr k
]

pub searched : (e : Beside) (base : ℕ) (c : Run) → is_star c.byte ≡ true → (front : List Role) (done : List Atom) (stack : List Run) → Held e base front done stack → weight (runs_of done) + c.length < 2 ^ 64 → (mid : List Role) (between : List Atom) (upper : List Run) → ShowsAll e (base + length front) mid (inlines_of between) → Missed c (base + length front) upper → Search e base c (front ++ mid) (stack ++ upper) (nearest c between done) (weight (runs_of done))
searched e base c star front [] stack h light mid between upper shows missed =
    inr (refl, missed_above c base (base + length front) (stack ++ upper) (omega arith) (subst (λ (rs : List Run). Missed c (base + length front) (rs ++ upper)) (sym (h.1)) missed))
searched e base c star front (Whole i ∷ done) stack h light mid between upper shows missed =
    search_on e base c (h.0) (h.1) front mid (stack ++ upper) (nearest c (Whole i ∷ between) done) (weight (runs_of done)) (h.2)
    (searched e base c star (h.0) done stack (h.4) light (h.1 ++ mid) (Whole i ∷ between) upper (between_more e base (h.0) (h.1) front mid (Whole i) between (h.2) (h.3) shows)
    (missed_above c (base + length (h.0)) (base + length front) upper (prior_length base front (h.0) (h.1) (h.2)) missed))
searched e base c star front (Opening b ∷ done) stack h light mid between upper shows missed =
    search_on e base c (h.0) (h.1) front mid (stack ++ upper) (nearest c (Opening b ∷ between) done) (weight (runs_of done)) (h.2)
    (searched e base c star (h.0) done stack (h.4) light (h.1 ++ mid) (Opening b ∷ between) upper (between_more e base (h.0) (h.1) front mid (Opening b) between (h.2) (h.3) shows)
    (missed_above c (base + length (h.0)) (base + length front) upper (prior_length base front (h.0) (h.1) (h.2)) missed))
searched e base c star front (Delimiters d ∷ done) stack h light mid between upper shows missed = by (searched e base c star (h.0) done (h.1) (h.5)) (can_match d c) refl
  where
    before : List Role
    before = h.0

    under : List Run
    under = h.1

    seg : List Role
    seg = replicate d.count role.Plain

    p : ℕ
    p = base + length before

    here : Run
    here = placed p d

    long : length front ≡ length before + d.count
    long = ap length (h.2) ∙ length-append before seg ∙ ap (λ n. length before + n) (length-replicate d.count role.Plain)

    below : Missed c p upper
    below = missed_above c p (base + length front) upper (prior_length base front before seg (h.2)) missed

    opens_if : (x y z : Bool) → (x && y && z) ≡ true → x ≡ true
    opens_if true y z k = refl
    opens_if false y z k = absurd (true≢false (sym k))

    Before : Type 0
    Before = weight (runs_of done) + c.length < 2 ^ 64 → (mid : List Role) (between : List Atom) (upper : List Run) → ShowsAll e (base + length (h.0)) mid (inlines_of between) → Missed c (base + length (h.0)) upper → Search e base c (h.0 ++ mid) (h.1 ++ upper) (nearest c between done) (weight (runs_of done))

    by : Before → (z : Bool) → can_match d c ≡ z → Search e base c (front ++ mid) (stack ++ upper) (match_or (λ b. nearest c b done) (Delimiters d) done between (if z then Some d else None)) (d.length + weight (runs_of done))
    by again true e1 = inl (record {
      opening = d;
      before = done;
      between = between;
      under = under;
      upper = upper;
      prior = before;
      mid = mid;
      found = refl;
      roles_are = ap (λ rs. rs ++ mid) (h.2) ∙ append_assoc before seg mid;
      stack_is = ap (λ rs. rs ++ upper) (h.3 ∙ ap (λ (z : Bool). if z then under ++ here ∷ [] else under) opens) ∙ append_assoc under (here ∷ []) upper;
      opens = opens;
      matches = e1;
      fits = fits_so here c opens star (omega arith) ∙ e1;
      missed = below;
      run = h.4;
      shows = subst (λ q. ShowsAll e q mid (inlines_of between)) (let q : base + length front ≡ base + length before + d.count = omega (arith, long) in q) shows;
      held = h.5;
      light = omega arith;
    })
      where
        opens : d.opens ≡ true
        opens = opens_if d.opens (d.byte == c.byte) (not ((d.closes || c.opens) && ((d.length + c.length) % 3 == 0) && not ((d.length % 3 == 0) && (c.length % 3 == 0)))) e1
    by again false e1 = search_on e base c before seg front mid (stack ++ upper) (nearest c (Delimiters d ∷ between) done) (d.length + weight (runs_of done)) (h.2)
        (wider e base c (before ++ (seg ++ mid)) (stack ++ upper) (nearest c (Delimiters d ∷ between) done) (weight (runs_of done)) (d.length + weight (runs_of done)) (omega arith)
        (subst (λ (rs : List Run). Search e base c (before ++ (seg ++ mid)) (rs ++ upper) (nearest c (Delimiters d ∷ between) done) (weight (runs_of done))) (sym (h.3)) (of d.opens refl)))
      where
        all_between : ShowsAll e p (seg ++ mid) (inlines_of (Delimiters d ∷ between))
        all_between = between_more e base before seg front mid (Delimiters d) between (h.2) (run_shows e p d (h.4)) shows

        of : (x : Bool) → d.opens ≡ x → Search e base c (before ++ (seg ++ mid)) ((if x then under ++ here ∷ [] else under) ++ upper) (nearest c (Delimiters d ∷ between) done) (weight (runs_of done))
        of true o =
            subst (λ (rs : List Run). Search e base c (before ++ (seg ++ mid)) rs (nearest c (Delimiters d ∷ between) done) (weight (runs_of done))) (sym (append_assoc under (here ∷ []) upper))
            (again (omega arith) (seg ++ mid) (Delimiters d ∷ between) (here ∷ upper) all_between
            ((omega arith, (fits_so here c o star (omega arith) ∙ e1), e1), below))
        of false o = again (omega arith) (seg ++ mid) (Delimiters d ∷ between) upper all_between below
