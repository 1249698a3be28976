-- A search over candidates that goes on where an earlier one found nothing.
use Rattle.std.proofs.Common.{◌≡◌, ◌∙◌, sym, ap, refl, subst, ℕ, ◌+◌, ◌<◌, ◌≤◌, Bool, true, false, ◌&&◌, Option, Some, None, Result, Ok, Err, List, [], ◌∷◌, ◌++◌, length, map, flat_map, drop, get_or, arith}
use Rattle.std.proofs.lemmas.List.{drop_more, drop_all, length-map}
use Rattle.tocmark_event.specs.declared.options.Error.{Error}
use Rattle.tocmark_spelling.specs.Page.{Page}
use Rattle.tocmark_spelling.specs.Plan.{Setting, Manner, Plan}
use Rattle.tocmark_spelling.specs.declared.plan.Layout.{Layout}
use Rattle.tocmark_spelling.specs.declared.plan.TextSpelling.{TextSpelling}
use Rattle.std.specs.Prelude.{is_none, ◌↔◌, if◌then◌else◌}
use Rattle.std.proofs.lemmas.Bool.{false≢true, true≢false}
use Rattle.tocmark_event.specs.Options.{OptionsView}
use Rattle.tocmark_event.specs.declared.options.Error.TheVariants as error
use Rattle.tocmark_spelling.specs.Body.{Trees}
use Rattle.tocmark_spelling.specs.Page.{Site}
use Rattle.tocmark_spelling.specs.Spelling.{spelling}
use Rattle.tocmark_spelling.proofs.Refusals.{none-misplaced}
use Rattle.tocmark_choose.specs.Candidates.{candidates, escaped_manners, fallback_manners, fallbacks, has_source, is_checked, is_delimiter_block, preferred_manner, source_manners}
use Rattle.tocmark_write_renderer.specs.WriterOf as renderer
use Rattle.tocmark_write_renderer.specs.WriterOf.{Rendering, site_of}
use Rattle.tocmark_choose.specs.Choice.{Chosen, choice, preferred, accepted, accepted_if, page_of, page_in, by_markers, unless_misplaced, first_or, has_standard_markers, first_that_reads_back, page_read_back, spelled}
use Rattle.tocmark_write_pending.specs.Placeholder.{whole}
use Rattle.tocmark_choose.specs.ReadsBack.{reads_back}
use Rattle.tocmark_choose.specs.Validates.{validates}
use Rattle.tocmark_write_labels.specs.Document.{DocumentView, first_document}
use Rattle.tocmark_choose.specs.TrialOf.{IsLeft, IsPlain, IsWritten, Refuses}
use Rattle.tocmark_choose.specs.Tries.{if_source, manners_for, plan_view, Asked, Found, Lost, PlacedIfTried, Stopped, StopsTrial, Tries, first, misplaced}

-- two truths, each by itself
pub both_true : (a b : Bool) → (a && b) ≡ true → (a ≡ true) × (b ≡ true)
both_true true b h = (refl, h)
both_true false b h = absurd (false≢true h)

-- what was found, or else this
abbrev pub found_or_else : Option Page → Option Page → Option Page
found_or_else (Some p) o = Some p
found_or_else None o = o

or-assoc : (a b c : Option Page) → found_or_else a (found_or_else b c) ≡ found_or_else (found_or_else a b) c
or-assoc None b c = refl
or-assoc (Some p) b c = refl

module _ (q : Asked) (d : DocumentView) where
  abbrev pub read : Manner → Option Page
  read m = page_read_back q.setting d q.unit (spelled q.setting d q.unit q.next m)

  -- one candidate and then the rest
  pub first-step : (m : Manner) (ms : List Manner) → first q d (m ∷ ms) ≡ found_or_else (read m) (first q d ms)
  unfolding first_that_reads_back
  first-step m ms = by (read m)
    where
      by : (o : Option Page) → (elim o as (λ _. Option Page) [ Some p ↦ Some p | None ↦ first q d ms ]) ≡ found_or_else o (first q d ms)
      by None = refl
      by (Some p) = refl

  pub first-none : first q d [] ≡ None
  unfolding first_that_reads_back
  first-none = refl

  -- one list of candidates and then another one
  pub first-more : (a b : List Manner) → first q d (a ++ b) ≡ found_or_else (first q d a) (first q d b)
  first-more [] b = ap (λ o. found_or_else o (first q d b)) (sym first-none)
  first-more (m ∷ a) b =
      first-step m (a ++ b) ∙ ap (found_or_else (read m)) (first-more a b) ∙ or-assoc (read m) (first q d a) (first q d b) ∙ ap (λ o. found_or_else o (first q d b)) (sym (first-step m a))

-- a search asks neither for the definitions that a document has nor for its literal labels
module _ (q : Asked) (d : DocumentView) where
  -- a document that leaves nothing else to a unit than this one
  abbrev bare : DocumentView
  bare = record first_document { trail = d.trail; feeds = d.feeds; known = d.known; flushed = d.flushed }

  bare-read : (o : Option Page) → page_read_back q.setting bare q.unit o ≡ page_read_back q.setting d q.unit o
  unfolding reads_back
  bare-read None = refl
  bare-read (Some p) = refl

  bare-spelled : (m : Manner) → spelled q.setting bare q.unit q.next m ≡ spelled q.setting d q.unit q.next m
  unfolding spelled
  bare-spelled m = refl

  bare-first : (ms : List Manner) → first q bare ms ≡ first q d ms
  bare-first [] = first-none q bare ∙ sym (first-none q d)
  bare-first (m ∷ ms) =
      first-step q bare m ms
      ∙ ap (λ o. found_or_else o (first q bare ms)) (ap (page_read_back q.setting bare q.unit) (bare-spelled m) ∙ bare-read (spelled q.setting d q.unit q.next m))
      ∙ ap (found_or_else (read q d m)) (bare-first ms)
      ∙ sym (first-step q d m ms)

  pub tries-bare : {X : Type 0} (old : Site) (new : Rendering) (ms : List Manner) (r : Result (Option X) Error) → Tries q bare old new ms r → Tries q d old new ms r
  tries-bare old new ms (Ok (Some x)) h = record { is_first = sym (bare-first ms) ∙ h.is_first; marked = h.marked; placed = h.placed }
  tries-bare old new ms (Ok None) h = record { none = sym (bare-first ms) ∙ h.none; kept = h.kept; placed = h.placed }
  tries-bare old new ms (Err e) h = h

-- of all these candidates, those before the rest came to nothing, and the renderer is where it began
pub record GoesOn (q : Asked) (d : DocumentView) (old : Site) (now : Rendering) (all rest : List Manner) : Type 0 where
  pub kept : site_of now ≡ old
  pub same : first q d all ≡ first q d rest
  pub placed : PlacedIfTried q rest → PlacedIfTried q all

placed-more : (q : Asked) (a b : List Manner) → PlacedIfTried q a → PlacedIfTried q b → PlacedIfTried q (a ++ b)
placed-more q [] b x y = y
placed-more q (m ∷ a) b x y = x

-- found among the first ones
found-before : (q : Asked) (d : DocumentView) (old : Site) (new : Rendering) (a b : List Manner) → Found q d old new a → Found q d old new (a ++ b)
found-before q d old new a b h = record {
  is_first = first-more q d a b ∙ ap (λ o. found_or_else o (first q d b)) h.is_first;
  marked = h.marked;
  placed = h.placed;
}

-- all of them came to nothing
pub lost-all : (q : Asked) (d : DocumentView) (old : Site) (now : Rendering) (all rest : List Manner) → GoesOn q d old now all rest → rest ≡ [] → Lost q d old now all
lost-all q d old now all rest h e = record {
  none = h.same ∙ ap (first q d) e ∙ first-none q d;
  kept = h.kept;
  placed = h.placed (subst (PlacedIfTried q) (sym e) tt);
}

-- candidates from a place on
views-at : {C : Type 0} (f : C → Manner) (xs : List C) (i : ℕ) (d : C) → i < length xs → map f (drop i xs) ≡ (f (get_or xs i d) ∷ []) ++ map f (drop (i + 1) xs)
views-at f xs i d lt = ap (map f) (drop_more xs i d lt)

pub views-end : {C : Type 0} (f : C → Manner) (xs : List C) (i : ℕ) → length xs ≤ i → map f (drop i xs) ≡ []
views-end f xs i past = ap (map f) (drop_all i xs past)

-- a trial from where a renderer is again is one from where it began
from-there : {X : Type 0} (q : Asked) (d : Site → DocumentView) (old here : Site) (new : Rendering) (ms : List Manner) (r : Result (Option X) Error) → here ≡ old → Tries q (d here) here new ms r → Tries q (d old) old new ms r
from-there q d old here new ms r e h = subst (λ x. Tries q (d x) x new ms r) e h

-- an answer that is nothing else
pub none-left : {X : Type 0} (o : Option X) → ((x : X) → o ≡ Some x → ⊥) → o ≡ None
none-left None h = refl
none-left (Some x) h = absurd (h x refl)

-- the next candidates were tried
module _ {X : Type 0} (q : Asked) (d : Site → DocumentView) (old : Site) (mid new : Rendering) (all head rest : List Manner) (before : GoesOn q (d old) old mid all (head ++ rest))
    (o : Option X) (tried : Tries q (d (site_of mid)) (site_of mid) new head (Ok o)) where
  from-old : Tries q (d old) old new head (Ok o)
  from-old = from-there q d old (site_of mid) new head (Ok o) before.kept tried

  -- one of them reads back
  pub next-found : (x : X) → o ≡ Some x → Found q (d old) old new all
  next-found x e =
      let more : Found q (d old) old new (head ++ rest) = found-before q (d old) old new head rest (subst (λ o. Tries q (d old) old new head (Ok o)) e from-old) in
      record { is_first = before.same ∙ more.is_first; marked = more.marked; placed = more.placed }

  -- none of them does
  pub next-lost : o ≡ None → GoesOn q (d old) old new all rest
  next-lost e =
      let lost : Lost q (d old) old new head = subst (λ o. Tries q (d old) old new head (Ok o)) e from-old in
      record {
        kept = lost.kept;
        same = before.same ∙ first-more q (d old) head rest ∙ ap (λ o. found_or_else o (first q (d old) rest)) lost.none;
        placed = λ p. before.placed (placed-more q head rest lost.placed p);
      }

goes-on-at : (q : Asked) (d : DocumentView) (old : Site) (now : Rendering) (all a b : List Manner) → a ≡ b → GoesOn q d old now all a → GoesOn q d old now all b
goes-on-at q d old now all a b e h = subst (GoesOn q d old now all) e h

-- what trying the rest comes to is what trying all comes to
pub rest-tried : {X : Type 0} (q : Asked) (d : Site → DocumentView) (old : Site) (mid new : Rendering) (all rest : List Manner) (r : Result (Option X) Error) → GoesOn q (d old) old mid all rest → Tries q (d (site_of mid)) (site_of mid) new rest r → Tries q (d old) old new all r
rest-tried q d old mid new all rest r before tried = by r (from-there q d old (site_of mid) new rest r before.kept tried)
  where
    by : {X : Type 0} (r : Result (Option X) Error) → Tries q (d old) old new rest r → Tries q (d old) old new all r
    by (Ok (Some x)) h = record { is_first = before.same ∙ h.is_first; marked = h.marked; placed = h.placed }
    by (Ok None) h = record { none = before.same ∙ h.none; kept = h.kept; placed = before.placed h.placed }
    by (Err e) h = h

-- the next candidate, of a list that is tried from a place on, was tried
module _ {C X : Type 0} (f : C → Manner) (cs : List C) (i : ℕ) (c : C) (q : Asked) (d : Site → DocumentView) (old : Site) (mid new : Rendering)
    (lt : i < length cs) (before : GoesOn q (d old) old mid (map f cs) (map f (drop i cs))) (o : Option X) where
  abbrev next : Manner
  next = f (get_or cs i c)

  abbrev rest : List Manner
  rest = map f (drop (i + 1) cs)

  at-next : GoesOn q (d old) old mid (map f cs) ((next ∷ []) ++ rest)
  at-next = goes-on-at q (d old) old mid (map f cs) (map f (drop i cs)) ((next ∷ []) ++ rest) (views-at f cs i c lt) before

  -- it reads back
  pub one-found : (x : X) → o ≡ Some x → Tries q (d (site_of mid)) (site_of mid) new (next ∷ []) (Ok o) → Found q (d old) old new (map f cs)
  one-found x e tried = next-found q d old mid new (map f cs) (next ∷ []) rest at-next o tried x e

  -- it doesn't
  pub one-lost : o ≡ None → Tries q (d (site_of mid)) (site_of mid) new (next ∷ []) (Ok o) → GoesOn q (d old) old new (map f cs) rest
  one-lost e tried = next-lost q d old mid new (map f cs) (next ∷ []) rest at-next o tried e

-- the next candidates, some for each element of a list that is gone through, were tried
module _ {C X : Type 0} (f : C → List Manner) (cs : List C) (i : ℕ) (c : C) (q : Asked) (d : Site → DocumentView) (old : Site) (mid new : Rendering) (all head : List Manner)
    (lt : i < length cs) (is : head ≡ f (get_or cs i c)) (before : GoesOn q (d old) old mid all (flat_map f (drop i cs))) (o : Option X) where
  abbrev later : List Manner
  later = flat_map f (drop (i + 1) cs)

  at-some : GoesOn q (d old) old mid all (head ++ later)
  at-some =
      goes-on-at q (d old) old mid all (flat_map f (drop i cs)) (head ++ later)
      (ap (flat_map f) (drop_more cs i c lt) ∙ ap (λ ms. ms ++ later) (sym is))
      before

  -- one of them reads back
  pub some-found : (x : X) → o ≡ Some x → Tries q (d (site_of mid)) (site_of mid) new head (Ok o) → Found q (d old) old new all
  some-found x e tried = next-found q d old mid new all head later at-some o tried x e

  -- none of them does
  pub some-lost : o ≡ None → Tries q (d (site_of mid)) (site_of mid) new head (Ok o) → GoesOn q (d old) old new all later
  some-lost e tried = next-lost q d old mid new all head later at-some o tried e

-- an error stopped a trial from where a renderer is again
pub stopped-there : (q : Asked) (old here : Site) (new : Rendering) (e : Error) → here ≡ old → Stopped q here new e → Stopped q old new e
stopped-there q old here new e is h = subst (λ x. Stopped q x new e) is h

pub tries-same : {X : Type 0} (q : Asked) (d : DocumentView) (old : Site) (new : Rendering) (a b : List Manner) (r : Result (Option X) Error) → a ≡ b → Tries q d old new a r → Tries q d old new b r
tries-same q d old new a b r e h = subst (λ ms. Tries q d old new ms r) e h

-- no candidate was tried yet
pub goes-on-all : (q : Asked) (d : DocumentView) (now : Rendering) (ms : List Manner) → GoesOn q d (site_of now) now ms ms
goes-on-all q d now ms = record { kept = refl; same = refl; placed = λ p. p }

-- a fallback, as the code names it, with each pair of markers
abbrev pub fallback_at : Layout × TextSpelling → List Manner
fallback_at plan = fallback_manners (plan_view plan)

flat-map : (plans : List (Layout × TextSpelling)) → flat_map fallback_at plans ≡ flat_map fallback_manners (map plan_view plans)
flat-map [] = refl
flat-map (p ∷ plans) = ap (λ ms. fallback_at p ++ ms) (flat-map plans)

-- no fallback was tried yet
pub fallbacks-begin : (q : Asked) (d : DocumentView) (now : Rendering) (plans : List (Layout × TextSpelling)) → map plan_view plans ≡ fallbacks → GoesOn q d (site_of now) now (flat_map fallback_manners fallbacks) (flat_map fallback_at plans)
fallbacks-begin q d now plans e =
    goes-on-at q d (site_of now) now (flat_map fallback_manners fallbacks) (flat_map fallback_manners fallbacks) (flat_map fallback_at plans)
    (ap (flat_map fallback_manners) (sym e) ∙ sym (flat-map plans))
    (goes-on-all q d now (flat_map fallback_manners fallbacks))

module _ (plans : List (Layout × TextSpelling)) (i : ℕ) (are : map plan_view plans ≡ fallbacks) where
  fourteen : length plans ≡ 14
  fourteen = sym (length-map plans plan_view) ∙ ap (λ (ps : List Plan). length ps) are

  -- some weren't
  pub fallbacks-left : i < 14 → i < length plans
  fallbacks-left lt = omega (arith, lt, fourteen)

  -- all were
  pub fallbacks-end : 14 ≤ i → flat_map fallback_at (drop i plans) ≡ []
  fallbacks-end past = ap (flat_map fallback_at) (drop_all i plans (omega (arith, past, fourteen)))

-- nothing is tried of a unit without a source
pub no-source : (q : Asked) (d : DocumentView) (now : Rendering) (o : OptionsView) (src del : Bool) → src ≡ false → Lost q d (site_of now) now (if_source src o del)
no-source q d now o src del e =
    lost-all q d (site_of now) now (if_source src o del) (if_source src o del) (goes-on-all q d now (if_source src o del)) (ap (λ b. if_source b o del) e)

pub source-tried : {X : Type 0} (q : Asked) (d : DocumentView) (old : Site) (new : Rendering) (o : OptionsView) (src del x : Bool) (ms : List Manner) (r : Result (Option X) Error) → src ≡ true → del ≡ x → ms ≡ source_manners o x → Tries q d old new ms r → Tries q d old new (if_source src o del) r
source-tried q d old new o src del x ms r s e is h =
    tries-same q d old new ms (if_source src o del) r (is ∙ ap (source_manners o) (sym e) ∙ ap (λ b. if_source b o del) (sym s)) h

-- nothing else is tried of a unit that isn't checked
pub none-escaped : (q : Asked) (d : DocumentView) (now : Rendering) (o : OptionsView) (del chk : Bool) → del ≡ false → chk ≡ false → Lost q d (site_of now) now (escaped_manners o del chk)
none-escaped q d now o del chk e h =
    lost-all q d (site_of now) now (escaped_manners o del chk) (escaped_manners o del chk) (goes-on-all q d now (escaped_manners o del chk)) (λ j. escaped_manners o (e j) (h j))

-- the candidates from the source were tried, and then those with escaped texts
module _ {X : Type 0} (q : Asked) (d : Site → DocumentView) (now mid : Rendering) (o : OptionsView) (src del chk : Bool) (answer : Option X) (tried : Tries q (d (site_of now)) (site_of now) mid (if_source src o del) (Ok answer)) where
  abbrev whole_list : List Manner
  whole_list = manners_for o src del chk

  abbrev rest_list : List Manner
  rest_list = escaped_manners o del chk

  begin : GoesOn q (d (site_of now)) (site_of now) now whole_list (if_source src o del ++ rest_list)
  begin = goes-on-all q (d (site_of now)) now whole_list

  pub source-found : (x : X) → answer ≡ Some x → Found q (d (site_of now)) (site_of now) mid whole_list
  source-found x e = next-found q d (site_of now) now mid whole_list (if_source src o del) rest_list begin answer tried x e

  module _ (e : answer ≡ None) where
    source-lost : GoesOn q (d (site_of now)) (site_of now) mid whole_list rest_list
    source-lost = next-lost q d (site_of now) now mid whole_list (if_source src o del) rest_list begin answer tried e

    pub source-kept : site_of mid ≡ site_of now
    source-kept = source-lost.kept

    pub then-escaped : {Y : Type 0} (new : Rendering) (r : Result (Option Y) Error) → Tries q (d (site_of mid)) (site_of mid) new rest_list r → Tries q (d (site_of now)) (site_of now) new whole_list r
    then-escaped new r t = rest-tried q d (site_of now) mid new whole_list rest_list r source-lost t

-- the manners by runs were tried, and then the fallbacks
module _ {X : Type 0} (q : Asked) (d : Site → DocumentView) (now mid : Rendering) (runs later : List Manner) (answer : Option X) (tried : Tries q (d (site_of now)) (site_of now) mid runs (Ok answer)) where
  pub runs-found : (x : X) → answer ≡ Some x → Found q (d (site_of now)) (site_of now) mid (runs ++ later)
  runs-found x e = next-found q d (site_of now) now mid (runs ++ later) runs later (goes-on-all q (d (site_of now)) now (runs ++ later)) answer tried x e

  module _ (e : answer ≡ None) where
    runs-lost : GoesOn q (d (site_of now)) (site_of now) mid (runs ++ later) later
    runs-lost = next-lost q d (site_of now) now mid (runs ++ later) runs later (goes-on-all q (d (site_of now)) now (runs ++ later)) answer tried e

    pub runs-kept : site_of mid ≡ site_of now
    runs-kept = runs-lost.kept

    pub then-later : {Y : Type 0} (new : Rendering) (r : Result (Option Y) Error) → Tries q (d (site_of mid)) (site_of mid) new later r → Tries q (d (site_of now)) (site_of now) new (runs ++ later) r
    then-later new r t = rest-tried q d (site_of now) mid new (runs ++ later) later r runs-lost t

-- ---- what the search comes to is the choice

pub none-test : (o : Option Site) (b : Bool) → (o ≡ None) ↔ (b ≡ true) → b ≡ is_none o
none-test None true h = refl
none-test None false h = h.0 refl
none-test (Some here) true h = ap is_none (sym (h.1 refl))
none-test (Some here) false h = refl

refused-none : (s : Setting) (d : DocumentView) (o : Option Site) → is_none o ≡ true → accepted_if s d (page_of o) ≡ Err error.UnexpectedEvent
refused-none s d None h = refl
refused-none s d (Some here) h = absurd (true≢false (sym h))

module _ (q : Asked) (d : DocumentView) where
  abbrev pub chosen : Chosen
  chosen = choice q.setting d q.unit q.next

  abbrev pub plain : Chosen
  plain = preferred q.setting d q.unit q.next

  -- a unit with a misplaced node
  pub choice-misplaced : misplaced q ≡ true → chosen ≡ Err error.UnexpectedEvent
  unfolding choice
  choice-misplaced e = ap (λ b. unless_misplaced b q.setting d q.unit q.next) e

  preferred-misplaced : misplaced q ≡ true → plain ≡ Err error.UnexpectedEvent
  unfolding spelled
  preferred-misplaced e =
      let here = spelling q.setting (preferred_manner q.setting.options) q.unit (whole q.next) [] (page_in d) in
      refused-none q.setting d here (sym (none-test here (misplaced q) (none-misplaced q.setting (preferred_manner q.setting.options) q.unit (whole q.next) (page_in d))) ∙ e)

  choice-placed : (b : Bool) → misplaced q ≡ false → has_standard_markers q.setting.options ≡ b → chosen ≡ by_markers b q.setting d q.unit q.next
  unfolding choice
  choice-placed b e m = ap (λ b. unless_misplaced b q.setting d q.unit q.next) e ∙ ap (λ b. by_markers b q.setting d q.unit q.next) m

  pub by-place : (b : Bool) → misplaced q ≡ b → (b ≡ false → chosen ≡ plain) → chosen ≡ plain
  by-place true e h = choice-misplaced e ∙ sym (preferred-misplaced e)
  by-place false e h = h refl

  -- with other markers than Markdown's
  pub choice-unsearched : has_standard_markers q.setting.options ≡ false → chosen ≡ plain
  choice-unsearched m = by-place (misplaced q) refl (λ e. choice-placed false e m)

  module _ (m : has_standard_markers q.setting.options ≡ true) where
    pub searched-first : (o : Option Page) → misplaced q ≡ false → first q d (candidates q.setting.options q.unit) ≡ o → chosen ≡ first_or q.setting d q.unit q.next o
    searched-first o e h = choice-placed true e m ∙ ap (first_or q.setting d q.unit q.next) h

    -- a spelling reads back
    pub choice-found : (old : Site) (new : Rendering) → Found q d old new (candidates q.setting.options q.unit) → chosen ≡ accepted q.setting d (renderer.page_of new)
    choice-found old new h = searched-first (Some (renderer.page_of new)) h.placed h.is_first

    module _ (h : first q d (candidates q.setting.options q.unit) ≡ None) where
      -- none does, and the unit takes the preferred spelling
      pub choice-lost : (is_checked q.setting.options q.unit && validates q.setting.options q.setting.flags) ≡ false → chosen ≡ plain
      choice-lost n = by-place (misplaced q) refl (λ e. searched-first None e h ∙ ap (λ b. elim b as (λ _. Chosen) [ true ↦ Err error.Unrepresentable | false ↦ plain ]) n)

      -- none does, and the unit can't be represented
      pub choice-unrepresentable : misplaced q ≡ false → (is_checked q.setting.options q.unit && validates q.setting.options q.setting.flags) ≡ true → chosen ≡ Err error.Unrepresentable
      choice-unrepresentable e n = searched-first None e h ∙ ap (λ b. elim b as (λ _. Chosen) [ true ↦ Err error.Unrepresentable | false ↦ plain ]) n

  -- what stops a trial is what is chosen
  pub stop-refuses : (e : Error) → StopsTrial q e → Refuses e chosen
  stop-refuses error.OutOfMemory h = tt
  stop-refuses error.UnexpectedEvent h = choice-misplaced h
  stop-refuses e h = absurd h

-- a unit that is checked is tried
pub placed-checked : (q : Asked) (o : OptionsView) (src del chk : Bool) → chk ≡ true → PlacedIfTried q ((if src then source_manners o del else []) ++ escaped_manners o del chk) → misplaced q ≡ false
placed-checked q o true del chk e h = h
placed-checked q o false true chk e h = h
placed-checked q o false false true e h = h
placed-checked q o false false false e h = absurd (false≢true e)

pub candidates-are : (o p : OptionsView) (f : Trees) (src del chk : Bool) → p ≡ o → src ≡ has_source f → del ≡ is_delimiter_block f → chk ≡ is_checked p f → (if src then source_manners o del else []) ++ escaped_manners o del chk ≡ candidates p f
unfolding candidates
candidates-are o p f src del chk e a b c = λ j. (if a j then source_manners (sym e j) (b j) else []) ++ escaped_manners (sym e j) (b j) (c j)

module _ (q : Asked) (d : DocumentView) (o : OptionsView) (src del chk acc : Bool) (is_options : q.setting.options ≡ o) (is_src : src ≡ has_source q.unit) (is_del : del ≡ is_delimiter_block q.unit) (is_chk : chk ≡ is_checked q.setting.options q.unit)
    (is_acc : acc ≡ validates q.setting.options q.setting.flags) where
  abbrev tried_list : List Manner
  tried_list = (if src then source_manners o del else []) ++ escaped_manners o del chk

  lists : tried_list ≡ candidates q.setting.options q.unit
  lists = candidates-are o q.setting.options q.unit src del chk is_options is_src is_del is_chk

  standard : (b : Bool) → has_standard_markers o ≡ b → has_standard_markers q.setting.options ≡ b
  standard b e = ap has_standard_markers is_options ∙ e

  -- an error stopped the search
  pub left-stopped : (old : Site) (new : Rendering) (e : Error) → Stopped q old new e → IsLeft old new e (choice q.setting d q.unit q.next)
  left-stopped old new e h = record { refused = stop-refuses q d e h.stops; kept = h.kept }

  -- a spelling was found
  pub written-found : {X : Type 0} (old : Site) (new : Rendering) (answer : Option X) (x : X) → has_standard_markers o ≡ true → Tries q d old new tried_list (Ok answer) → answer ≡ Some x → IsWritten q.setting d old new (choice q.setting d q.unit q.next)
  written-found old new answer x m t e =
      let found : Found q d old new (candidates q.setting.options q.unit) = subst (Found q d old new) lists (subst (λ o. Tries q d old new tried_list (Ok o)) e t) in
      record { written = choice-found q d (standard true m) old new found; marked = found.marked }

  module _ {X : Type 0} (old : Site) (mid : Rendering) (answer : Option X) (m : has_standard_markers o ≡ true) (t : Tries q d old mid tried_list (Ok answer)) (e : answer ≡ None) where
    lost : Lost q d old mid tried_list
    lost = subst (λ o. Tries q d old mid tried_list (Ok o)) e t

    all-lost : first q d (candidates q.setting.options q.unit) ≡ None
    all-lost = subst (λ ms. first q d ms ≡ None) lists lost.none

    checked : (chk && acc) ≡ (is_checked q.setting.options q.unit && validates q.setting.options q.setting.flags)
    checked = λ j. is_chk j && is_acc j

    -- no spelling was found, and the unit can't be represented
    pub left-unrepresentable : chk ≡ true → acc ≡ true → IsLeft old mid error.Unrepresentable (choice q.setting d q.unit q.next)
    left-unrepresentable td ta = record {
      refused =
          choice-unrepresentable q d (standard true m) all-lost (placed-checked q o src del chk td lost.placed)
          (sym checked ∙ (λ j. td j && ta j));
      kept = lost.kept;
    }

    -- no spelling was found, and the unit is left to the preferred one
    pub left-plain : (chk && acc) ≡ false → IsPlain q d old mid
    left-plain n = record { plain = choice-lost q d (standard true m) all-lost (sym checked ∙ n); kept = lost.kept }
