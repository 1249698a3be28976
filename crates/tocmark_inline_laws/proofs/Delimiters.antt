-- Delimiter runs of a content.
use Rattle.std.proofs.Common.{◌≡◌, ℕ, suc, ◌+◌, ◌-◌, ◌^◌, ◌<◌, ◌≤◌, Bool, true, false, ◌==◌, ◌||◌, if◌then◌else◌, List, [], ◌∷◌, ◌++◌, length, drop, replicate, refl, ap, sym, ◌∙◌, arith, append-nil, true≢false}
use Rattle.std.proofs.lemmas.Bool.Decides.{nat_tests}
use Rattle.std.proofs.lemmas.List.{length-replicate, replicate-append-replicate}
use Rattle.std.specs.Prelude.{Option, slice_get}
use Rattle.tocmark_read_scan.specs.Basic.{plus, byte_at}
use Rattle.tocmark_read_scan.specs.Class.{run_end}
use Rattle.tocmark_read_scan.specs.declared.class.Class.TheVariants.{Only}
use Rattle.tocmark_read_scan.proofs.PlainTests.{eq_of, turned}
use Rattle.tocmark_read_inlines.specs.Scan.{State, Known, is_mark, run_kept, run_taken, looked, looked_mark, looked_all, next_place}
use Rattle.tocmark_read_spans.specs.Run.{run_between, run_at}
use Rattle.tocmark_read_spans.specs.declared.definitions.Entry.{Entry}
use Rattle.tocmark_read_spans.specs.declared.role.Role.TheVariants as role
use Rattle.tocmark_read_spans.specs.declared.run.Run.{Run}
use Rattle.tocmark_commonmark.specs.InlineTree.{Atom, Delimiters}
use Rattle.tocmark_inline_laws.proofs.Breaks.{only_end}
use Rattle.tocmark_inline_laws.proofs.Passes.{step_look}
use Rattle.tocmark_inline_laws.proofs.Phases.{passes_by}
use Rattle.tocmark_inline_laws.proofs.Places.{clean_after}
use Rattle.tocmark_inline_laws.proofs.Plains.{past_within, byte_is, Front, front_of}
use Rattle.tocmark_inline_laws.proofs.Stack.{is_star}
use Rattle.tocmark_inline_laws.proofs.Sim.{runs_of, weight, runs_with, Sim, Goes, same_opens, same_few, goes_atom}
use Rattle.tocmark_inline_laws.proofs.Stretches.{first_left}

star_looked : (bytes : List ℕ) (ahead : Known) (defs : List ℕ → Option Entry) (s : State) → looked_all bytes ahead defs 42 s ≡ run_taken bytes 42 s
unfolding looked_all looked looked_mark
star_looked bytes ahead defs s = refl

underscore_looked : (bytes : List ℕ) (ahead : Known) (defs : List ℕ → Option Entry) (s : State) → looked_all bytes ahead defs 95 s ≡ run_taken bytes 95 s
unfolding looked_all looked looked_mark
underscore_looked bytes ahead defs s = refl

star_marks : is_mark 42 ≡ true
unfolding is_mark
star_marks = refl

underscore_marks : is_mark 95 ≡ true
unfolding is_mark
underscore_marks = refl

taken_so : (bytes : List ℕ) (b : ℕ) (s : State) → run_taken bytes b s ≡ record s { runs = runs_with s.runs (run_at bytes s.place b); resume = plus s.place (run_at bytes s.place b).count }
unfolding run_taken run_kept
taken_so bytes b s = by (run_at bytes s.place b) ((run_at bytes s.place b).opens || (run_at bytes s.place b).closes)
  where
    by : (r : Run) (z : Bool) → (if z then record s { runs = s.runs ++ r ∷ []; resume = plus s.place r.count } else record s { resume = plus s.place r.count }) ≡ record s { runs = if z then s.runs ++ r ∷ [] else s.runs; resume = plus s.place r.count }
    by r true = refl
    by r false = refl

run_count : (bytes : List ℕ) (p b : ℕ) → (run_at bytes p b).count ≡ run_end bytes p (Only b) - p
unfolding run_at run_between
run_count bytes p b = refl

run_length : (bytes : List ℕ) (p b : ℕ) → (run_at bytes p b).length ≡ run_end bytes p (Only b) - p
unfolding run_at run_between
run_length bytes p b = refl

run_byte : (bytes : List ℕ) (p b : ℕ) → (run_at bytes p b).byte ≡ b
unfolding run_at run_between
run_byte bytes p b = refl

run_place : (bytes : List ℕ) (p b : ℕ) → (run_at bytes p b).place ≡ p
unfolding run_at run_between
run_place bytes p b = refl

-- 6.2: a run
run_goes : (bytes : List ℕ) (ahead : Known) (defs : List ℕ → Option Entry) (p b : ℕ) (s : State) (done : List Atom) → Sim bytes p s done → p < length bytes → length bytes + 1 < 2 ^ 64 → byte_at bytes p ≡ b → is_mark b ≡ true → (b == 32) ≡ false → is_star b ≡ true → looked_all bytes ahead defs b s ≡ run_taken bytes b s → Goes bytes ahead defs p s done (record { atom = Delimiters (run_at bytes p b); end = run_end bytes p (Only b) })
run_goes bytes ahead defs p b s done a in_it fits is mark space star looked =
    goes_atom bytes ahead defs p end b s t done (replicate (length f.text) role.Plain) (Delimiters (run_at bytes p b)) a
    (record {
      texts = [];
      targets = [];
      roles = a.roles ∙ ap (λ rs. a.front ++ rs) split;
      long = ap (λ n. p + n) (length-replicate (length f.text) role.Plain) ∙ sym end_is;
      more_texts = sym (append-nil s.texts);
      more_targets = sym (append-nil s.targets);
      stands = (
        ap (λ n. replicate n role.Plain) (sym count),
        run_place bytes p b,
        record {
          some = omega (arith, count, some);
          star = ap is_star (run_byte bytes p b) ∙ star;
          filled = λ i h. eq_of (byte_at bytes (p + i)) b (byte_is (λ c. (c == b) ≡ true) bytes f.text f.rest p i f.whole f.each (let l : i < (run_at bytes p b).count = h in omega (arith, count))) ∙ sym (run_byte bytes p b);
        },
      );
      resume = omega (arith, far);
      runs = refl;
    })
    (let l : (run_at bytes p b).length ≡ end - p = run_length bytes p b in let w : weight (runs_of done) ≤ p = a.light in omega (arith, end_is))
    (clean_after bytes (p + (length f.text - 1)) end (omega (arith, end_is, some)) (ap (λ c. c == 32) last_byte ∙ space))
    (same_opens bytes p end s t done a (omega (arith, end_is)) (passes_by bytes p end (p + (length f.text - 1)) fits (omega (arith, end_is, some)) (omega arith) (omega (arith, m, some)) (ap (λ c. c == 92) last_byte ∙ turned is_star 92 b star refl)) refl refl)
    (same_few bytes p s t done a refl refl)
    (omega (arith, end_is, some)) (omega (arith, end_is, m)) fits is
    (step_look bytes ahead defs s b mark (let q : s.resume ≤ p = a.resume in let r : s.place ≡ p = a.place in omega arith) ∙ ap next_place (looked ∙ taken_so bytes b s ∙ ap (λ q. record s { runs = runs_with s.runs (run_at bytes q b); resume = plus q (run_at bytes q b).count }) a.place))
    a.place (omega (arith, far))
  where
    end : ℕ
    end = run_end bytes p (Only b)

    f : Front (λ c. c == b) (drop p bytes)
    f = front_of (λ c. c == b) (drop p bytes)

    t : State
    t = record s { runs = runs_with s.runs (run_at bytes p b); resume = plus p (run_at bytes p b).count }

    m : p + length f.text + length f.rest ≡ length bytes
    m = past_within bytes f.text f.rest p (omega arith) f.whole

    end_is : end ≡ p + length f.text
    end_is = only_end bytes p b f.text f.taken (omega (arith, m))

    some : 0 < length f.text
    some = by f.text f.whole
      where
        self : (b == b) ≡ true
        self = grind (arith, nat_tests)

        by : (xs : List ℕ) → drop p bytes ≡ xs ++ f.rest → 0 < length xs
        by [] e = absurd (true≢false (sym self ∙ f.ends b (ap (λ ys. slice_get ys 0) (sym e ∙ first_left bytes p in_it ∙ ap (λ c. c ∷ drop (suc p) bytes) is))))
        by (x ∷ xs) e = omega arith

    count : (run_at bytes p b).count ≡ length f.text
    count = run_count bytes p b ∙ (let k : end - p ≡ length f.text = omega (arith, end_is) in k)

    far : plus p (run_at bytes p b).count ≡ end
    far = ap (λ n. plus p n) count ∙ (let k : plus p (length f.text) ≡ end = omega (arith, end_is, m) in k)

    last_byte : byte_at bytes (p + (length f.text - 1)) ≡ b
    last_byte = eq_of (byte_at bytes (p + (length f.text - 1))) b (byte_is (λ c. (c == b) ≡ true) bytes f.text f.rest p (length f.text - 1) f.whole f.each (omega (arith, some)))

    split : replicate (length bytes - p) role.Plain ≡ replicate (length f.text) role.Plain ++ replicate (length bytes - end) role.Plain
    split = ap (λ n. replicate n role.Plain) (let k : length bytes - p ≡ length f.text + (length bytes - end) = omega (arith, end_is, m) in k) ∙ sym (replicate-append-replicate (length f.text) (length bytes - end) role.Plain)

pub star_goes : (bytes : List ℕ) (ahead : Known) (defs : List ℕ → Option Entry) (p : ℕ) (s : State) (done : List Atom) → Sim bytes p s done → p < length bytes → length bytes + 1 < 2 ^ 64 → byte_at bytes p ≡ 42 → Goes bytes ahead defs p s done (record { atom = Delimiters (run_at bytes p 42); end = run_end bytes p (Only 42) })
star_goes bytes ahead defs p s done a in_it fits is = run_goes bytes ahead defs p 42 s done a in_it fits is star_marks refl refl (star_looked bytes ahead defs s)

pub underscore_goes : (bytes : List ℕ) (ahead : Known) (defs : List ℕ → Option Entry) (p : ℕ) (s : State) (done : List Atom) → Sim bytes p s done → p < length bytes → length bytes + 1 < 2 ^ 64 → byte_at bytes p ≡ 95 → Goes bytes ahead defs p s done (record { atom = Delimiters (run_at bytes p 95); end = run_end bytes p (Only 95) })
underscore_goes bytes ahead defs p s done a in_it fits is = run_goes bytes ahead defs p 95 s done a in_it fits is underscore_marks refl refl (underscore_looked bytes ahead defs s)
