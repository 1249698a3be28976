-- The first pass and the declaration, side by side, at a place where a token begins.
use Rattle.std.proofs.Common.{◌≡◌, ℕ, suc, ◌+◌, ◌-◌, ◌^◌, ◌<◌, ◌≤◌, Bool, true, false, ◌==◌, ◌||◌, nat_le, if◌then◌else◌, List, [], ◌∷◌, ◌++◌, length, drop, replicate, refl, ap, sym, subst, ◌∙◌, arith, append_assoc, length-append}
use Rattle.std.proofs.lemmas.Bool.Decides.{nat_tests}
use Rattle.std.specs.Prelude.{Option, Some, None, slice_get}
use Rattle.std.specs.List.{fold}
use Rattle.tocmark_read_scan.specs.Basic.{plus, byte_at, bytes_between}
use Rattle.tocmark_read_inlines.specs.Scan.{State, Known, before_space, next_place, with_place}
use Rattle.tocmark_read_spans.specs.declared.definitions.Entry.{Entry}
use Rattle.tocmark_read_spans.specs.declared.role.Role.{Role}
use Rattle.tocmark_read_spans.specs.declared.role.Role.TheVariants as role
use Rattle.tocmark_read_spans.specs.declared.role.Target.{Target}
use Rattle.tocmark_read_spans.specs.declared.run.Run.{Run}
use Rattle.tocmark_read_spans.specs.declared.link.Bracket.{Bracket}
use Rattle.tocmark_commonmark.specs.InlineTree.{Inline, Bracket as AtomBracket, Atom, Whole, Delimiters, Opening}
use Rattle.tocmark_commonmark.specs.Tokens.{Token, token}
use Rattle.tocmark_inline_laws.proofs.Flow.{Beside}
use Rattle.tocmark_inline_laws.proofs.Stretches.{cut_length, first_cut, none}
use Rattle.tocmark_inline_laws.proofs.Atoms.{with_more, bracket_width, Stands, Trail, trail_more}
use Rattle.tocmark_inline_laws.proofs.Passes.{step, passed_by}
use Rattle.tocmark_inline_laws.proofs.Phases.{bracket_from, Passes, passes_on}

-- what is beside a content in a state
abbrev pub beside : List ℕ → State → Beside
beside bytes s = record { bytes = bytes; texts = s.texts; targets = s.targets }

-- a space or a line feed
abbrev pub is_gap : ℕ → Bool
is_gap c = (c == 32) || (c == 10)

-- no space is before a place at which a space or a line feed is
abbrev pub Clean : List ℕ → ℕ → Type 0
Clean bytes p = (c : ℕ) → slice_get bytes p ≡ Some c → is_gap c ≡ true → before_space bytes p ≡ None

-- the delimiter runs so far, the last one first
abbrev pub runs_after : List Run → Atom → List Run
runs_after runs (Whole i) = runs
runs_after runs (Delimiters r) = r ∷ runs
runs_after runs (Opening b) = runs

-- the delimiter runs among atoms
abbrev pub runs_of : List Atom → List Run
runs_of [] = []
runs_of (a ∷ done) = runs_after (runs_of done) a

-- how long runs are
abbrev pub weight : List Run → ℕ
weight [] = 0
weight (r ∷ rs) = r.length + weight rs

-- the runs that the reader keeps: those that can open or close
abbrev pub runs_with : List Run → Run → List Run
runs_with runs r = if r.opens || r.closes then runs ++ r ∷ [] else runs

abbrev pub kept_after : List Run → Atom → List Run
kept_after runs (Whole i) = runs
kept_after runs (Delimiters r) = runs_with runs r
kept_after runs (Opening b) = runs

abbrev pub kept_of : List Atom → List Run
kept_of [] = []
kept_of (a ∷ done) = kept_after (kept_of done) a

-- an opening bracket as the reader has it, after so many runs
abbrev pub bracket_of : AtomBracket → Bool → ℕ → Bracket
bracket_of b nested runs = record { start = b.inner - bracket_width b.is_image; inner = b.inner; runs = runs; image = b.is_image; nested = nested }

-- the opening brackets among atoms are these of the reader, so many of which begin no link; one with another in it has no label of
-- its own, because a bracket that isn't escaped is before the place
abbrev pub Opens : List ℕ → ℕ → ℕ → List Atom → List Bracket → Type 0
Opens bytes inactive p [] bs = bs ≡ []
Opens bytes inactive p (Whole i ∷ done) bs = Opens bytes inactive p done bs
Opens bytes inactive p (Delimiters r ∷ done) bs = Opens bytes inactive p done bs
Opens bytes inactive p (Opening b ∷ done) bs =
    (under : List Bracket) × (nested : Bool) × (bs ≡ under ++ bracket_of b nested (length (kept_of done)) ∷ [])
    × (b.is_active ≡ nat_le inactive (length under)) × (nested ≡ true → bracket_from bytes false b.inner < p) × Passes bytes b.inner p
    × Opens bytes inactive p done under

-- also further on
pub opens_further : (bytes : List ℕ) (inactive p end : ℕ) (done : List Atom) (bs : List Bracket) → p ≤ end → Passes bytes p end → Opens bytes inactive p done bs → Opens bytes inactive end done bs
opens_further bytes inactive p end [] bs l k h = h
opens_further bytes inactive p end (Whole i ∷ done) bs l k h = opens_further bytes inactive p end done bs l k h
opens_further bytes inactive p end (Delimiters r ∷ done) bs l k h = opens_further bytes inactive p end done bs l k h
opens_further bytes inactive p end (Opening b ∷ done) bs l k h =
    ((h.0), (h.1), (h.2), (h.3), (λ e. let m : bracket_from bytes false b.inner < p = h.4 e in omega arith), passes_on bytes b.inner p end l (h.5) k, opens_further bytes inactive p end done (h.0) l k (h.6))

-- at a place the roles so far say the atoms so far
pub record Sim (bytes : List ℕ) (p : ℕ) (s : State) (done : List Atom) : Type 0 where
  pub front : List Role
  pub place : s.place ≡ p
  pub resume : s.resume ≤ p
  pub roles : s.roles ≡ front ++ replicate (length bytes - p) role.Plain
  pub long : length front ≡ p
  pub trail : Trail (beside bytes s) front done
  pub light : weight (runs_of done) ≤ p
  pub runs : s.runs ≡ kept_of done
  pub opens : Opens bytes s.inactive p done s.brackets
  pub few : s.inactive ≤ length s.brackets
  pub clean : Clean bytes p

-- texts are added
abbrev pub Grown : List ℕ → State → Type 0
Grown texts s = (further : List ℕ) × (s.texts ≡ texts ++ further)

-- a state from which the pass goes on after a token
pub record Goes (bytes : List ℕ) (ahead : Known) (defs : List ℕ → Option Entry) (p : ℕ) (s : State) (done : List Atom) (t : Token) : Type 0 where
  pub after : State
  pub same : fold (step bytes ahead defs) s (drop p bytes) ≡ fold (step bytes ahead defs) after (drop t.end bytes)
  pub further : p < t.end
  pub within : t.end ≤ length bytes
  pub sim : Sim bytes t.end after (t.atom ∷ done)
  pub grown : Grown s.texts after

-- what a token made of a state: these roles, texts and targets more
pub record TookAtom (bytes : List ℕ) (p end : ℕ) (s t : State) (front seg : List Role) (x : Atom) : Type 0 where
  pub texts : List ℕ
  pub targets : List Target
  pub roles : t.roles ≡ front ++ (seg ++ replicate (length bytes - end) role.Plain)
  pub long : p + length seg ≡ end
  pub more_texts : t.texts ≡ s.texts ++ texts
  pub more_targets : t.targets ≡ s.targets ++ targets
  pub stands : Stands (with_more (beside bytes s) texts targets) p seg x
  pub resume : t.resume ≤ end
  pub runs : t.runs ≡ kept_after s.runs x

-- an inline
abbrev pub Took : List ℕ → ℕ → ℕ → State → State → List Role → List Role → Inline → Type 0
Took bytes p end s t front seg i = TookAtom bytes p end s t front seg (Whole i)

-- the state after a token
pub took_atom : (bytes : List ℕ) (p end : ℕ) (s t : State) (done : List Atom) (seg : List Role) (x : Atom) (a : Sim bytes p s done) → TookAtom bytes p end s t a.front seg x → weight (runs_of (x ∷ done)) ≤ end → Clean bytes end → Opens bytes t.inactive end (x ∷ done) t.brackets → t.inactive ≤ length t.brackets → Sim bytes end (with_place end t) (x ∷ done)
took_atom bytes p end s t done seg x a k light clean opens few = record {
  front = a.front ++ seg;
  place = refl;
  resume = k.resume;
  roles = k.roles ∙ sym (append_assoc a.front seg (replicate (length bytes - end) role.Plain));
  long = length-append a.front seg ∙ ap (λ n. n + length seg) a.long ∙ k.long;
  trail = (a.front, seg, refl, here, before);
  light = light;
  runs = k.runs ∙ ap (λ rs. kept_after rs x) a.runs;
  opens = opens;
  few = few;
  clean = clean;
}
  where
    same : with_more (beside bytes s) k.texts k.targets ≡ beside bytes t
    same = ap (λ (ts : List ℕ). record (with_more (beside bytes s) k.texts k.targets) { texts = ts }) (sym k.more_texts) ∙ ap (λ (gs : List Target). record (beside bytes t) { targets = gs }) (sym k.more_targets)

    here : Stands (beside bytes t) (length a.front) seg x
    here = subst (λ q. Stands (beside bytes t) q seg x) (sym a.long) (subst (λ (e : Beside). Stands e p seg x) same k.stands)

    before : Trail (beside bytes t) a.front done
    before = subst (λ (e : Beside). Trail e a.front done) same (trail_more (beside bytes s) k.texts k.targets a.front done a.trail)

-- the brackets are the same
pub same_opens : (bytes : List ℕ) (p end : ℕ) (s t : State) (done : List Atom) → Sim bytes p s done → p ≤ end → Passes bytes p end → t.brackets ≡ s.brackets → t.inactive ≡ s.inactive → Opens bytes t.inactive end done t.brackets
same_opens bytes p end s t done a l k brackets inactive =
    subst (λ n. Opens bytes n end done t.brackets) (sym inactive) (subst (λ (bs : List Bracket). Opens bytes s.inactive end done bs) (sym brackets) (opens_further bytes s.inactive p end done s.brackets l k a.opens))

pub same_few : (bytes : List ℕ) (p : ℕ) (s t : State) (done : List Atom) → Sim bytes p s done → t.brackets ≡ s.brackets → t.inactive ≡ s.inactive → t.inactive ≤ length t.brackets
same_few bytes p s t done a brackets inactive = subst (λ n. n ≤ length t.brackets) (sym inactive) (subst (λ (bs : List Bracket). s.inactive ≤ length bs) (sym brackets) a.few)

-- an inline
pub took_sim : (bytes : List ℕ) (p end : ℕ) (s t : State) (done : List Atom) (seg : List Role) (i : Inline) (a : Sim bytes p s done) → Took bytes p end s t a.front seg i → Clean bytes end → Passes bytes p end → t.brackets ≡ s.brackets → t.inactive ≡ s.inactive → Sim bytes end (with_place end t) (Whole i ∷ done)
took_sim bytes p end s t done seg i a k clean passes brackets inactive =
    took_atom bytes p end s t done seg (Whole i) a k
    (let l : p + length seg ≡ end = k.long in let m : weight (runs_of done) ≤ p = a.light in omega arith) clean
    (same_opens bytes p end s t done a (let l : p + length seg ≡ end = k.long in omega arith) passes brackets inactive)
    (same_few bytes p s t done a brackets inactive)

-- a token of which the first byte is read, and the others are passed by
pub goes_past : (bytes : List ℕ) (ahead : Known) (defs : List ℕ → Option Entry) (p end b : ℕ) (s t : State) → p < end → end ≤ length bytes → length bytes + 1 < 2 ^ 64 → byte_at bytes p ≡ b → step bytes ahead defs s b ≡ next_place t → t.place ≡ p → end ≤ suc p + (t.resume - suc p) → fold (step bytes ahead defs) s (drop p bytes) ≡ fold (step bytes ahead defs) (with_place end t) (drop end bytes)
goes_past bytes ahead defs p end b s t more in_it fits is looked at far =
    ap (fold (step bytes ahead defs) s) (first_cut bytes p end more in_it)
    ∙ ap (λ (u : State). fold (step bytes ahead defs) u (xs ++ drop end bytes)) (ap (step bytes ahead defs s) is ∙ looked ∙ ap (λ q. with_place q t) next)
    ∙ by_resume (nat_le end t.resume) refl
  where
    xs : List ℕ
    xs = bytes_between bytes (suc p) end

    next : plus t.place 1 ≡ suc p
    next = omega (arith, at)

    len : length xs ≡ end - suc p
    len = cut_length bytes (suc p) end (omega arith) in_it

    by_resume : (z : Bool) → nat_le end t.resume ≡ z → fold (step bytes ahead defs) (with_place (suc p) t) (xs ++ drop end bytes) ≡ fold (step bytes ahead defs) (with_place end t) (drop end bytes)
    by_resume true e = passed_by bytes ahead defs xs (drop end bytes) (with_place (suc p) t) (let h : end ≤ t.resume = grind (arith, nat_tests) in omega (arith, len)) (omega (arith, len)) ∙ ap (λ q. fold (step bytes ahead defs) (with_place q t) (drop end bytes)) (let h : suc p + length xs ≡ end = omega (arith, len) in h)
    by_resume false e =
        let one : end ≡ suc p = (let h : t.resume < end = grind (arith, nat_tests) in omega arith) in
        ap (λ ys. fold (step bytes ahead defs) (with_place (suc p) t) (ys ++ drop end bytes)) (none xs (let h : length xs ≡ 0 = omega (arith, len, one) in h)) ∙ ap (λ q. fold (step bytes ahead defs) (with_place q t) (drop end bytes)) (sym one)

pub goes_atom : (bytes : List ℕ) (ahead : Known) (defs : List ℕ → Option Entry) (p end b : ℕ) (s t : State) (done : List Atom) (seg : List Role) (x : Atom) (a : Sim bytes p s done) → TookAtom bytes p end s t a.front seg x → weight (runs_of (x ∷ done)) ≤ end → Clean bytes end → Opens bytes t.inactive end (x ∷ done) t.brackets → t.inactive ≤ length t.brackets → p < end → end ≤ length bytes → length bytes + 1 < 2 ^ 64 → byte_at bytes p ≡ b → step bytes ahead defs s b ≡ next_place t → t.place ≡ p → end ≤ suc p + (t.resume - suc p) → Goes bytes ahead defs p s done (record { atom = x; end = end })
goes_atom bytes ahead defs p end b s t done seg x a k light clean opens few more in_it fits is looked at far = record {
  after = with_place end t;
  same = goes_past bytes ahead defs p end b s t more in_it fits is looked at far;
  further = more;
  within = in_it;
  sim = took_atom bytes p end s t done seg x a k light clean opens few;
  grown = (k.texts, k.more_texts);
}

-- an inline
pub goes_by : (bytes : List ℕ) (ahead : Known) (defs : List ℕ → Option Entry) (p end b : ℕ) (s t : State) (done : List Atom) (seg : List Role) (i : Inline) (a : Sim bytes p s done) → Took bytes p end s t a.front seg i → Clean bytes end → Passes bytes p end → t.brackets ≡ s.brackets → t.inactive ≡ s.inactive → p < end → end ≤ length bytes → length bytes + 1 < 2 ^ 64 → byte_at bytes p ≡ b → step bytes ahead defs s b ≡ next_place t → t.place ≡ p → end ≤ suc p + (t.resume - suc p) → Goes bytes ahead defs p s done (token i end)
goes_by bytes ahead defs p end b s t done seg i a k clean passes brackets inactive more in_it fits is looked at far =
    goes_atom bytes ahead defs p end b s t done seg (Whole i) a k (let m : weight (runs_of done) ≤ p = a.light in omega arith) clean
    (same_opens bytes p end s t done a (omega arith) passes brackets inactive) (same_few bytes p s t done a brackets inactive)
    more in_it fits is looked at far
