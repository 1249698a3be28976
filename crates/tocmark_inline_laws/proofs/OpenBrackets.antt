-- Opening brackets: the nearest one before a closing bracket, and what the reader keeps of them.
use Rattle.std.proofs.Common.{◌≡◌, ℕ, suc, ◌+◌, ◌-◌, ◌^◌, ◌<◌, ◌≤◌, min, Bool, true, false, ◌==◌, ◌||◌, nat_le, if◌then◌else◌, ◌⊎◌, inl, inr, List, [], ◌∷◌, ◌++◌, length, map, replicate, reverse, refl, ap, sym, subst, ◌∙◌, arith, append_assoc, append-nil, length-append, true≢false}
use Rattle.std.proofs.lemmas.Bool.Decides.{nat_tests}
use Rattle.std.proofs.lemmas.List.{length-replicate, replicate-append-replicate}
use Rattle.std.specs.Prelude.{Option, Some, None, slice_get, slice_set, ⊤}
use Rattle.tocmark_read_scan.specs.Basic.{plus, byte_at}
use Rattle.tocmark_read_inlines.specs.Scan.{State, Known, is_mark, marked_last, marked, opened, looked, looked_all, next_place}
use Rattle.tocmark_read_spans.specs.declared.definitions.Entry.{Entry}
use Rattle.tocmark_read_spans.specs.declared.link.Bracket.{Bracket}
use Rattle.tocmark_read_spans.specs.declared.role.Role.{Role}
use Rattle.tocmark_read_spans.specs.declared.role.Role.TheVariants as role
use Rattle.tocmark_read_spans.specs.declared.run.Run.{Run}
use Rattle.tocmark_commonmark.specs.InlineTree.{Text, Bracket as AtomBracket, Atom, Whole, Delimiters, Opening, as_inline, bracket_text}
use Rattle.tocmark_commonmark.specs.Inlines.{Enclosed, enclosed, inactive}
use Rattle.tocmark_commonmark.specs.Tokens.{opening}
use Rattle.tocmark_inline_laws.specs.Said.{letters}
use Rattle.tocmark_inline_laws.proofs.Atoms.{bracket_width, flow_at, Shows, Trail}
use Rattle.tocmark_inline_laws.proofs.Flow.{Beside, flow_step}
use Rattle.tocmark_inline_laws.proofs.Passes.{step_look}
use Rattle.tocmark_inline_laws.proofs.Phases.{bracket_from, Passes, bracket_here, before_bracket}
use Rattle.tocmark_inline_laws.proofs.Places.{set_here, clean_after}
use Rattle.tocmark_inline_laws.proofs.Settling.{turned_over}
use Rattle.tocmark_inline_laws.proofs.Sim.{runs_of, weight, kept_of, runs_with, bracket_of, Opens, opens_further, Sim, Goes, goes_atom}
use Rattle.tocmark_inline_laws.proofs.Stack.{get_here}

-- no atom is an opening bracket
abbrev pub NoneOpens : List Atom → Type 0
NoneOpens [] = ⊤
NoneOpens (Whole i ∷ done) = NoneOpens done
NoneOpens (Delimiters r ∷ done) = NoneOpens done
NoneOpens (Opening b ∷ done) = ⊥

-- an opening bracket is found: what is between, and what is before it
pub record Enclosing (inside done : List Atom) (found : Option Enclosed) : Type 0 where
  pub part : List Atom
  pub before : List Atom
  pub bracket : AtomBracket
  pub is : found ≡ Some (record { before = before; bracket = bracket; inside = reverse part ++ inside })
  pub cut : done ≡ part ++ Opening bracket ∷ before
  pub plain : NoneOpens part

abbrev pub Enclosings : List Atom → List Atom → Type 0
Enclosings inside done = Enclosing inside done (enclosed inside done) ⊎ ((enclosed inside done ≡ None) × NoneOpens done)

enclosing_more : (a : Atom) (inside done : List Atom) (found : Option Enclosed) → (k : Enclosing (a ∷ inside) done found) → NoneOpens (a ∷ k.part) → Enclosing inside (a ∷ done) found
enclosing_more a inside done found k plain = record {
  part = a ∷ k.part;
  before = k.before;
  bracket = k.bracket;
  is = k.is ∙ ap (λ (xs : List Atom). Some (record { before = k.before; bracket = k.bracket; inside = xs })) (turned_over a k.part inside);
  cut = ap (λ xs. a ∷ xs) k.cut;
  plain = plain;
}

pub enclosing : (inside done : List Atom) → Enclosings inside done
enclosing inside [] = inr (refl, tt)
enclosing inside (Whole i ∷ done) = by (enclosing (Whole i ∷ inside) done)
  where
    by : Enclosings (Whole i ∷ inside) done → Enclosings inside (Whole i ∷ done)
    by (inl k) = inl (enclosing_more (Whole i) inside done (enclosed (Whole i ∷ inside) done) k k.plain)
    by (inr k) = inr k
enclosing inside (Delimiters r ∷ done) = by (enclosing (Delimiters r ∷ inside) done)
  where
    by : Enclosings (Delimiters r ∷ inside) done → Enclosings inside (Delimiters r ∷ done)
    by (inl k) = inl (enclosing_more (Delimiters r) inside done (enclosed (Delimiters r ∷ inside) done) k k.plain)
    by (inr k) = inr k
enclosing inside (Opening b ∷ done) = inl (record { part = []; before = done; bracket = b; is = refl; cut = refl; plain = tt })

-- then the reader has none open
pub none_open : (bytes : List ℕ) (n p : ℕ) (done : List Atom) (bs : List Bracket) → NoneOpens done → Opens bytes n p done bs → bs ≡ []
none_open bytes n p [] bs h k = k
none_open bytes n p (Whole i ∷ done) bs h k = none_open bytes n p done bs h k
none_open bytes n p (Delimiters r ∷ done) bs h k = none_open bytes n p done bs h k
none_open bytes n p (Opening b ∷ done) bs h k = absurd h

-- other atoms have no brackets
pub opens_before : (bytes : List ℕ) (n p : ℕ) (part rest : List Atom) (bs : List Bracket) → NoneOpens part → Opens bytes n p (part ++ rest) bs → Opens bytes n p rest bs
opens_before bytes n p [] rest bs h k = k
opens_before bytes n p (Whole i ∷ part) rest bs h k = opens_before bytes n p part rest bs h k
opens_before bytes n p (Delimiters r ∷ part) rest bs h k = opens_before bytes n p part rest bs h k
opens_before bytes n p (Opening b ∷ part) rest bs h k = absurd h

pub opens_after : (bytes : List ℕ) (n p : ℕ) (part rest : List Atom) (bs : List Bracket) → NoneOpens part → Opens bytes n p rest bs → Opens bytes n p (part ++ rest) bs
opens_after bytes n p [] rest bs h k = k
opens_after bytes n p (Whole i ∷ part) rest bs h k = opens_after bytes n p part rest bs h k
opens_after bytes n p (Delimiters r ∷ part) rest bs h k = opens_after bytes n p part rest bs h k
opens_after bytes n p (Opening b ∷ part) rest bs h k = absurd h

-- runs of atoms that come after others
pub kept_parts : (part rest : List Atom) → kept_of (part ++ rest) ≡ kept_of rest ++ kept_of part
kept_parts [] rest = sym (append-nil (kept_of rest))
kept_parts (Whole i ∷ part) rest = kept_parts part rest
kept_parts (Opening b ∷ part) rest = kept_parts part rest
kept_parts (Delimiters r ∷ part) rest = ap (λ rs. runs_with rs r) (kept_parts part rest) ∙ by (r.opens || r.closes)
  where
    by : (z : Bool) → (if z then (kept_of rest ++ kept_of part) ++ r ∷ [] else kept_of rest ++ kept_of part) ≡ kept_of rest ++ (if z then kept_of part ++ r ∷ [] else kept_of part)
    by true = append_assoc (kept_of rest) (kept_of part) (r ∷ [])
    by false = refl

pub weight_parts : (part rest : List Atom) → weight (runs_of (part ++ rest)) ≡ weight (runs_of part) + weight (runs_of rest)
weight_parts [] rest = omega arith
weight_parts (Whole i ∷ part) rest = weight_parts part rest
weight_parts (Opening b ∷ part) rest = weight_parts part rest
weight_parts (Delimiters r ∷ part) rest = ap (λ n. r.length + n) (weight_parts part rest) ∙ (let k : r.length + (weight (runs_of part) + weight (runs_of rest)) ≡ (r.length + weight (runs_of part)) + weight (runs_of rest) = omega arith in k)

-- an opening bracket that becomes text
pub trail_text : (e : Beside) (front : List Role) (part before : List Atom) (b : AtomBracket) → Trail e front (part ++ Opening b ∷ before) → Trail e front (part ++ Whole (as_inline (Opening b)) ∷ before)
trail_text e front [] before b h = ((h.0), (h.1), (h.2), (h.3.2), (h.4))
trail_text e front (a ∷ part) before b h = ((h.0), (h.1), (h.2), (h.3), trail_text e (h.0) part before b (h.4))

-- opening brackets that begin no link any more
pub kept_inactive : (done : List Atom) → kept_of (map inactive done) ≡ kept_of done
kept_inactive [] = refl
kept_inactive (Whole i ∷ done) = kept_inactive done
kept_inactive (Opening b ∷ done) = kept_inactive done
kept_inactive (Delimiters r ∷ done) = ap (λ rs. runs_with rs r) (kept_inactive done)

pub runs_inactive : (done : List Atom) → runs_of (map inactive done) ≡ runs_of done
runs_inactive [] = refl
runs_inactive (Whole i ∷ done) = runs_inactive done
runs_inactive (Opening b ∷ done) = runs_inactive done
runs_inactive (Delimiters r ∷ done) = ap (λ rs. r ∷ rs) (runs_inactive done)

pub trail_inactive : (e : Beside) (front : List Role) (done : List Atom) → Trail e front done → Trail e front (map inactive done)
trail_inactive e front [] h = h
trail_inactive e front (Whole i ∷ done) h = ((h.0), (h.1), (h.2), (h.3), trail_inactive e (h.0) done (h.4))
trail_inactive e front (Opening b ∷ done) h = ((h.0), (h.1), (h.2), (h.3), trail_inactive e (h.0) done (h.4))
trail_inactive e front (Delimiters r ∷ done) h = ((h.0), (h.1), (h.2), (h.3), trail_inactive e (h.0) done (h.4))

length_one : (under : List Bracket) (x : Bracket) (bs : List Bracket) → bs ≡ under ++ x ∷ [] → length bs ≡ suc (length under)
length_one under x bs cut = ap length cut ∙ length-append under (x ∷ []) ∙ (let k : length under + 1 ≡ suc (length under) = omega arith in k)

pub opens_inactive : (bytes : List ℕ) (n m p : ℕ) (done : List Atom) (bs : List Bracket) → length bs ≤ m → Opens bytes n p done bs → Opens bytes m p (map inactive done) bs
opens_inactive bytes n m p [] bs l h = h
opens_inactive bytes n m p (Whole i ∷ done) bs l h = opens_inactive bytes n m p done bs l h
opens_inactive bytes n m p (Delimiters r ∷ done) bs l h = opens_inactive bytes n m p done bs l h
opens_inactive bytes n m p (Opening b ∷ done) bs l h =
    let k : length bs ≡ suc (length (h.0)) = length_one (h.0) (bracket_of b (h.1) (length (kept_of done))) bs (h.2) in
    let no : nat_le m (length (h.0)) ≡ false = grind (arith, nat_tests) in
    ((h.0), (h.1), h.2 ∙ ap (λ (rs : List Run). h.0 ++ bracket_of b (h.1) (length rs) ∷ []) (sym (kept_inactive done)), sym no, (h.4), (h.5), opens_inactive bytes n m p done (h.0) (omega arith) (h.6))

-- as many of them begin no link, as far as there are so many
pub opens_fewer : (bytes : List ℕ) (n m p : ℕ) (done : List Atom) (bs : List Bracket) → ((i : ℕ) → i < length bs → nat_le n i ≡ nat_le m i) → Opens bytes n p done bs → Opens bytes m p done bs
opens_fewer bytes n m p [] bs f h = h
opens_fewer bytes n m p (Whole i ∷ done) bs f h = opens_fewer bytes n m p done bs f h
opens_fewer bytes n m p (Delimiters r ∷ done) bs f h = opens_fewer bytes n m p done bs f h
opens_fewer bytes n m p (Opening b ∷ done) bs f h =
    let k : length bs ≡ suc (length (h.0)) = length_one (h.0) (bracket_of b (h.1) (length (kept_of done))) bs (h.2) in
    ((h.0), (h.1), (h.2), h.3 ∙ f (length (h.0)) (omega arith), (h.4), (h.5), opens_fewer bytes n m p done (h.0) (λ i l. f i (omega arith)) (h.6))

pub min_same : (n h i : ℕ) → i < h → nat_le n i ≡ nat_le (min n h) i
min_same n h i l = by (nat_le n i) refl
  where
    by : (z : Bool) → nat_le n i ≡ z → z ≡ nat_le (min n h) i
    by true e = let a : n ≤ i = grind (arith, nat_tests, e) in let b : nat_le (min n h) i ≡ true = (let c : min n h ≤ i = omega arith in grind (arith, nat_tests)) in sym b
    by false e = let a : i < n = grind (arith, nat_tests, e) in let b : nat_le (min n h) i ≡ false = (let c : i < min n h = omega arith in grind (arith, nat_tests)) in sym b

-- the innermost bracket has another in it
record Marked (bytes : List ℕ) (p : ℕ) (done : List Atom) (s : State) : Type 0 where
  brackets : List Bracket
  same : marked s ≡ record s { brackets = brackets }
  opens : Opens bytes s.inactive p done brackets
  long : length brackets ≡ length s.brackets

marked_so : (s : State) → marked s ≡ marked_last s (slice_get s.brackets (length s.brackets - 1))
unfolding marked
marked_so s = refl

marked_opens : (bytes : List ℕ) (p end : ℕ) (done : List Atom) (s : State) → p ≤ end → bracket_from bytes false p < end → Opens bytes s.inactive p done s.brackets → Marked bytes end done s
marked_opens bytes p end [] s l m h = record { brackets = s.brackets; same = marked_so s ∙ ap (λ (bs : List Bracket). marked_last s (slice_get bs (length bs - 1))) h; opens = h; long = refl }
marked_opens bytes p end (Whole i ∷ done) s l m h = let k : Marked bytes end done s = marked_opens bytes p end done s l m h in record { brackets = k.brackets; same = k.same; opens = k.opens; long = k.long }
marked_opens bytes p end (Delimiters r ∷ done) s l m h = let k : Marked bytes end done s = marked_opens bytes p end done s l m h in record { brackets = k.brackets; same = k.same; opens = k.opens; long = k.long }
marked_opens bytes p end (Opening b ∷ done) s l m h = record {
  brackets = h.0 ++ y ∷ [];
  same =
      marked_so s
      ∙ ap (λ (bs : List Bracket). marked_last s (slice_get bs (length bs - 1))) (h.2)
      ∙ ap (λ n. marked_last s (slice_get (h.0 ++ x ∷ []) n)) last
      ∙ ap (marked_last s) (get_here (h.0) [] x)
      ∙ ap (λ (bs : List Bracket). record s { brackets = slice_set bs (length bs - 1) y }) (h.2)
      ∙ ap (λ n. record s { brackets = slice_set (h.0 ++ x ∷ []) n y }) last
      ∙ ap (λ (bs : List Bracket). record s { brackets = bs }) (set_here (h.0) [] x y (length (h.0)) refl);
  opens = ((h.0), true, refl, (h.3), (λ e. inner (h.5)), inl (inner (h.5)), opens_further bytes s.inactive p end done (h.0) l (inl m) (h.6));
  long = length-append (h.0) (y ∷ []) ∙ sym (length-append (h.0) (x ∷ [])) ∙ sym (ap length (h.2));
}
  where
    x : Bracket
    x = bracket_of b (h.1) (length (kept_of done))

    y : Bracket
    y = bracket_of b true (length (kept_of done))

    last : length (h.0 ++ x ∷ []) - 1 ≡ length (h.0)
    last = let k : length (h.0 ++ x ∷ []) ≡ length (h.0) + 1 = length-append (h.0) (x ∷ []) in omega (arith, k)

    inner : Passes bytes b.inner p → bracket_from bytes false b.inner < end
    inner (inl k) = omega arith
    inner (inr k) = subst (λ n. n < end) (sym k) m

-- its bytes say its text
texts_show : (e : Beside) (z : Bool) (p : ℕ) → ((i : ℕ) → i < bracket_width z → byte_at e.bytes (p + i) ≡ byte_at (bracket_text z) i) → Shows e p (replicate (bracket_width z) role.Plain) (Text (bracket_text z))
unfolding flow_step
texts_show e false p h ts gs depth out =
    ap (λ c. flow_at depth (suc p) (out ++ letters depth (c ∷ []))) (ap (λ q. byte_at e.bytes q) (let q : p ≡ p + 0 = omega arith in q) ∙ h 0 (omega arith))
    ∙ ap (λ q. flow_at depth q (out ++ letters depth (91 ∷ []))) (let q : suc p ≡ p + 1 = omega arith in q)
texts_show e true p h ts gs depth out =
    ap (λ c. flow_at depth (suc (suc p)) ((out ++ letters depth (c ∷ [])) ++ letters depth (byte_at e.bytes (suc p) ∷ []))) (ap (λ q. byte_at e.bytes q) (let q : p ≡ p + 0 = omega arith in q) ∙ h 0 (omega arith))
    ∙ ap (λ c. flow_at depth (suc (suc p)) ((out ++ letters depth (33 ∷ [])) ++ letters depth (c ∷ []))) (ap (λ q. byte_at e.bytes q) (let q : suc p ≡ p + 1 = omega arith in q) ∙ h 1 (omega arith))
    ∙ ap (λ ps. flow_at depth (suc (suc p)) ps) (append_assoc out (letters depth (33 ∷ [])) (letters depth (91 ∷ [])))
    ∙ ap (λ q. flow_at depth q (out ++ letters depth (33 ∷ 91 ∷ []))) (let q : suc (suc p) ≡ p + 2 = omega arith in q)

-- 6.3, 6.4: an opening bracket
opened_so : (image : Bool) (width : ℕ) (s : State) → opened image width s ≡ record (marked s) {
  brackets = (marked s).brackets ++ record { start = (marked s).place; inner = plus (marked s).place width; runs = length (marked s).runs; image = image; nested = false } ∷ [];
  resume = plus (marked s).place width;
}
unfolding opened
opened_so image width s = refl

pub bracket_goes : (bytes : List ℕ) (ahead : Known) (defs : List ℕ → Option Entry) (z : Bool) (p b : ℕ) (s : State) (done : List Atom) → Sim bytes p s done → p + bracket_width z ≤ length bytes → length bytes + 2 < 2 ^ 64 → byte_at bytes p ≡ b → is_mark b ≡ true → looked_all bytes ahead defs b s ≡ opened z (bracket_width z) s → ((i : ℕ) → i < bracket_width z → byte_at bytes (p + i) ≡ byte_at (bracket_text z) i) → Goes bytes ahead defs p s done (opening z (p + bracket_width z))
bracket_goes bytes ahead defs z p b s done a in_it fits is mark looked here =
    goes_atom bytes ahead defs p end b s t done (replicate width role.Plain) (Opening bracket) a
    (record {
      texts = [];
      targets = [];
      roles = a.roles ∙ ap (λ rs. a.front ++ rs) split;
      long = ap (λ n. p + n) (length-replicate width role.Plain);
      more_texts = sym (append-nil s.texts);
      more_targets = sym (append-nil s.targets);
      stands = (refl, refl, bracket_shows);
      resume = omega arith;
      runs = refl;
    })
    (let w : weight (runs_of done) ≤ p = a.light in omega arith)
    (clean_after bytes last end (omega (arith, some)) (ap (λ c. c == 32) bracket_is))
    ((k.brackets), false, new_is, active, (λ e. absurd (true≢false (sym e))), inr refl, k.opens)
    (let f : s.inactive ≤ length s.brackets = a.few in let l : length t.brackets ≡ length k.brackets + 1 = length-append k.brackets (new ∷ []) in let m : length k.brackets ≡ length s.brackets = k.long in omega arith)
    (omega (arith, some)) in_it (omega arith) is
    (step_look bytes ahead defs s b mark (let q : s.resume ≤ p = a.resume in let r : s.place ≡ p = a.place in omega arith)
    ∙ ap next_place (looked ∙ opened_so z width s ∙ ap (λ (u : State). record u { brackets = u.brackets ++ record { start = u.place; inner = plus u.place width; runs = length u.runs; image = z; nested = false } ∷ []; resume = plus u.place width }) k.same
    ∙ ap (λ (q : ℕ). record s { brackets = k.brackets ++ record { start = q; inner = plus q width; runs = length s.runs; image = z; nested = false } ∷ []; resume = plus q width }) a.place
    ∙ ap (λ (q : ℕ). record s { brackets = k.brackets ++ record { start = p; inner = q; runs = length s.runs; image = z; nested = false } ∷ []; resume = q }) (let q : plus p width ≡ end = omega arith in q)))
    a.place (omega arith)
  where
    width : ℕ
    width = bracket_width z

    end : ℕ
    end = p + width

    last : ℕ
    last = end - 1

    bracket : AtomBracket
    bracket = record { is_image = z; inner = end; is_active = true }

    some : (0 < width) × (width ≤ 2)
    some = by z
      where
        by : (z : Bool) → (0 < bracket_width z) × (bracket_width z ≤ 2)
        by true = (omega arith, omega arith)
        by false = (omega arith, omega arith)

    bracket_is : byte_at bytes last ≡ 91
    bracket_is = by z here
      where
        by : (z : Bool) → ((i : ℕ) → i < bracket_width z → byte_at bytes (p + i) ≡ byte_at (bracket_text z) i) → byte_at bytes (p + bracket_width z - 1) ≡ 91
        by true h = ap (λ q. byte_at bytes q) (let q : p + 2 - 1 ≡ p + 1 = omega arith in q) ∙ h 1 (omega arith)
        by false h = ap (λ q. byte_at bytes q) (let q : p + 1 - 1 ≡ p + 0 = omega arith in q) ∙ h 0 (omega arith)

    stops : bracket_from bytes false p < end
    stops = by z here in_it
      where
        by : (z : Bool) → ((i : ℕ) → i < bracket_width z → byte_at bytes (p + i) ≡ byte_at (bracket_text z) i) → p + bracket_width z ≤ length bytes → bracket_from bytes false p < p + bracket_width z
        by true h l = subst (λ n. n < p + 2) (sym (before_bracket bytes p (omega arith) (omega arith) (ap (λ q. byte_at bytes q) (let q : p ≡ p + 0 = omega arith in q) ∙ h 0 (omega arith)) (h 1 (omega arith)))) (omega arith)
        by false h l = subst (λ n. n < p + 1) (sym (bracket_here bytes p (omega arith) (omega arith) (ap (λ q. byte_at bytes q) (let q : p ≡ p + 0 = omega arith in q) ∙ h 0 (omega arith)))) (omega arith)

    k : Marked bytes end done s
    k = marked_opens bytes p end done s (omega arith) stops a.opens

    new : Bracket
    new = record { start = p; inner = end; runs = length s.runs; image = z; nested = false }

    t : State
    t = record s { brackets = k.brackets ++ new ∷ []; resume = end }

    new_is : k.brackets ++ new ∷ [] ≡ k.brackets ++ bracket_of bracket false (length (kept_of done)) ∷ []
    new_is =
        ap (λ (q : ℕ). k.brackets ++ record { start = q; inner = end; runs = length s.runs; image = z; nested = false } ∷ []) (let q : p ≡ end - bracket_width z = omega arith in q)
        ∙ ap (λ (rs : List Run). k.brackets ++ bracket_of bracket false (length rs) ∷ []) a.runs

    active : true ≡ nat_le s.inactive (length k.brackets)
    active = let f : s.inactive ≤ length s.brackets = a.few in let m : length k.brackets ≡ length s.brackets = k.long in let q : nat_le s.inactive (length k.brackets) ≡ true = (let g : s.inactive ≤ length k.brackets = omega arith in grind (arith, nat_tests)) in sym q

    split : replicate (length bytes - p) role.Plain ≡ replicate width role.Plain ++ replicate (length bytes - end) role.Plain
    split = ap (λ n. replicate n role.Plain) (let q : length bytes - p ≡ width + (length bytes - end) = omega arith in q) ∙ sym (replicate-append-replicate width (length bytes - end) role.Plain)

    bracket_shows : Shows (record { bytes = bytes; texts = s.texts ++ []; targets = s.targets ++ [] }) p (replicate width role.Plain) (Text (bracket_text z))
    bracket_shows = texts_show (record { bytes = bytes; texts = s.texts ++ []; targets = s.targets ++ [] }) z p here
