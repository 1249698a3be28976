-- Spaces and line endings of a content.
use Rattle.std.proofs.Common.{◌≡◌, ℕ, zero, suc, ◌+◌, ◌-◌, ◌^◌, ◌<◌, ◌≤◌, Bool, true, false, ◌==◌, ◌&&◌, ◌||◌, nat_lt, nat_le, if◌then◌else◌, List, [], ◌∷◌, ◌++◌, length, drop, replicate, refl, ap, sym, subst, ◌∙◌, arith, append-nil, true≢false}
use Rattle.std.proofs.lemmas.Bool.Decides.{nat_tests}
use Rattle.std.proofs.lemmas.List.{length-replicate}
use Rattle.std.specs.Prelude.{Option, Some, None, slice_get, slice_set, take_while, unwrap_or}
use Rattle.std.specs.List.{fold, AllByRecursion}
use Rattle.tocmark_read_scan.specs.Basic.{plus, byte_at, bytes_between}
use Rattle.tocmark_read_scan.specs.Class.{is_in, run_end}
use Rattle.tocmark_read_scan.specs.Repeat.{iterated}
use Rattle.tocmark_read_scan.specs.declared.class.Class.TheVariants.{Only}
use Rattle.tocmark_read_scan.proofs.PlainPlaces.{byte_dropped}
use Rattle.tocmark_read_scan.proofs.PlainTests.{eq_of, both_true}
use Rattle.tocmark_read_inlines.specs.Scan.{State, Known, is_mark, before_space, line_ended, looked, looked_mark, looked_all, next_place, with_place}
use Rattle.tocmark_read_spans.specs.declared.definitions.Entry.{Entry}
use Rattle.tocmark_read_spans.specs.declared.role.Leaf.TheVariants as leaf
use Rattle.tocmark_read_spans.specs.declared.role.Role.{Role}
use Rattle.tocmark_read_spans.specs.declared.role.Role.TheVariants as role
use Rattle.tocmark_commonmark.specs.InlineTree.{Text, SoftBreak, HardBreak, Atom}
use Rattle.tocmark_commonmark.specs.Tokens.{token, ends_line, line_break, spaces}
use Rattle.tocmark_inline_laws.proofs.Stretches.{first_left, got, not_got}
use Rattle.tocmark_inline_laws.proofs.Atoms.{Shows, leaf_shows, hidden_shows}
use Rattle.tocmark_inline_laws.proofs.Passes.{step, step_look, passed_over}
use Rattle.tocmark_inline_laws.proofs.Sim.{beside, Clean, Sim, Goes, took_sim}
use Rattle.tocmark_inline_laws.proofs.Plains.{drop_past, drop_more, past_within, between_text, Front, front_of}
use Rattle.tocmark_inline_laws.proofs.Phases.{passes_by}
use Rattle.tocmark_inline_laws.proofs.Places.{set_here, set_next, plain_split, clean_after, gone_back}
use Rattle.tocmark_inline_laws.proofs.Tokens.{added, all_of, text_goes}

-- a line feed, by where its spaces begin
abbrev ended_at : ℕ → ℕ → State → State
ended_at first q s =
    if nat_le 2 (q - first) then record s { roles = slice_set s.roles first (role.Single leaf.HardBreak (plus q 1)) }
    else record s { roles = slice_set (slice_set s.roles first role.Hidden) q (role.Single leaf.SoftBreak (plus q 1)) }

feed_looked : (bytes : List ℕ) (ahead : Known) (defs : List ℕ → Option Entry) (s : State) → looked_all bytes ahead defs 10 s ≡ ended_at (iterated (before_space bytes) (length bytes) s.place) s.place s
unfolding looked_all looked looked_mark line_ended
feed_looked bytes ahead defs s = refl

feed_marks : is_mark 10 ≡ true
unfolding is_mark
feed_marks = refl

space_here : is_mark 32 ≡ false
unfolding is_mark
space_here = refl

space_plain : (c : ℕ) → (c == 32) ≡ true → is_mark c ≡ false
space_plain c h = ap is_mark (eq_of c 32 h) ∙ space_here

-- the roles of spaces and the line feed after them
abbrev break_roles : ℕ → List ℕ → List Role
break_roles end [] = role.Single leaf.SoftBreak end ∷ []
break_roles end (c ∷ []) = role.Hidden ∷ role.Single leaf.SoftBreak end ∷ []
break_roles end (c ∷ d ∷ more) = role.Single leaf.HardBreak end ∷ replicate (suc (suc (length more))) role.Plain

break_long : (end : ℕ) (xs : List ℕ) → length (break_roles end xs) ≡ suc (length xs)
break_long end [] = refl
break_long end (c ∷ []) = refl
break_long end (c ∷ d ∷ more) = ap suc (length-replicate (suc (suc (length more))) role.Plain)

-- they say a break
break_shows : (bytes : List ℕ) (s : State) (p : ℕ) (xs : List ℕ) → Shows (beside bytes s) p (break_roles (suc (p + length xs)) xs) (line_break (length xs))
break_shows bytes s p [] = leaf_shows (beside bytes s) p (suc (p + 0)) leaf.SoftBreak [] (omega arith) SoftBreak (λ ts d. refl)
break_shows bytes s p (c ∷ []) = hidden_shows (beside bytes s) p (role.Single leaf.SoftBreak (suc (p + 1)) ∷ []) SoftBreak (leaf_shows (beside bytes s) (suc p) (suc (p + 1)) leaf.SoftBreak [] (omega arith) SoftBreak (λ ts d. refl))
break_shows bytes s p (c ∷ d ∷ more) =
    subst (λ i. Shows (beside bytes s) p (break_roles (suc (p + suc (suc (length more)))) (c ∷ d ∷ more)) i) (sym hard)
    (leaf_shows (beside bytes s) p (suc (p + suc (suc (length more)))) leaf.HardBreak (replicate (suc (suc (length more))) role.Plain)
    (let k : length (replicate (suc (suc (length more))) role.Plain) ≡ suc (suc (length more)) = length-replicate (suc (suc (length more))) role.Plain in omega arith) HardBreak (λ ts d. refl))
  where
    hard : line_break (suc (suc (length more))) ≡ HardBreak
    hard = let k : nat_le 2 (suc (suc (length more))) ≡ true = grind (arith, nat_tests) in ap (λ (z : Bool). if z then HardBreak else SoftBreak) k

-- they are set
break_set : (fs : List Role) (s : State) (p n : ℕ) (xs : List ℕ) → length fs ≡ p → p + suc (length xs) ≤ n → n + 1 < 2 ^ 64 → s.roles ≡ fs ++ replicate (n - p) role.Plain → (ended_at p (p + length xs) s).roles ≡ fs ++ (break_roles (suc (p + length xs)) xs ++ replicate (n - (p + suc (length xs))) role.Plain)
break_set fs s p n [] l h m e =
    subst (λ (z : Bool). (if z then record s { roles = slice_set s.roles p (role.Single leaf.HardBreak (plus (p + 0) 1)) } else record s { roles = slice_set (slice_set s.roles p role.Hidden) (p + 0) (role.Single leaf.SoftBreak (plus (p + 0) 1)) }).roles ≡ fs ++ (role.Single leaf.SoftBreak (suc (p + 0)) ∷ rest)) (sym no)
    (ap (λ k. slice_set (slice_set s.roles p role.Hidden) (p + 0) (role.Single leaf.SoftBreak k)) (let k : plus (p + 0) 1 ≡ suc (p + 0) = omega arith in k)
    ∙ ap (λ rs. slice_set (slice_set rs p role.Hidden) (p + 0) (role.Single leaf.SoftBreak (suc (p + 0)))) (e ∙ ap (λ rs. fs ++ rs) (plain_split n p 0 h))
    ∙ ap (λ rs. slice_set rs (p + 0) (role.Single leaf.SoftBreak (suc (p + 0)))) (set_here fs rest role.Plain role.Hidden p (sym l))
    ∙ set_here fs rest role.Hidden (role.Single leaf.SoftBreak (suc (p + 0))) (p + 0) (let k : length fs ≡ p = l in omega arith))
  where
    rest : List Role
    rest = replicate (n - (p + 1)) role.Plain

    no : nat_le 2 (p + 0 - p) ≡ false
    no = let k : p + 0 - p ≡ 0 = omega arith in ap (λ w. nat_le 2 w) k
break_set fs s p n (c ∷ []) l h m e =
    subst (λ (z : Bool). (if z then record s { roles = slice_set s.roles p (role.Single leaf.HardBreak (plus (p + 1) 1)) } else record s { roles = slice_set (slice_set s.roles p role.Hidden) (p + 1) (role.Single leaf.SoftBreak (plus (p + 1) 1)) }).roles ≡ fs ++ (role.Hidden ∷ role.Single leaf.SoftBreak (suc (p + 1)) ∷ rest)) (sym no)
    (ap (λ k. slice_set (slice_set s.roles p role.Hidden) (p + 1) (role.Single leaf.SoftBreak k)) (let k : plus (p + 1) 1 ≡ suc (p + 1) = omega arith in k)
    ∙ ap (λ rs. slice_set (slice_set rs p role.Hidden) (p + 1) (role.Single leaf.SoftBreak (suc (p + 1)))) (e ∙ ap (λ rs. fs ++ rs) (plain_split n p 1 h))
    ∙ ap (λ rs. slice_set rs (p + 1) (role.Single leaf.SoftBreak (suc (p + 1)))) (set_here fs (role.Plain ∷ rest) role.Plain role.Hidden p (sym l))
    ∙ set_next fs rest role.Hidden role.Plain (role.Single leaf.SoftBreak (suc (p + 1))) (p + 1) (let k : length fs ≡ p = l in omega arith))
  where
    rest : List Role
    rest = replicate (n - (p + 2)) role.Plain

    no : nat_le 2 (p + 1 - p) ≡ false
    no = let k : p + 1 - p ≡ 1 = omega arith in ap (λ w. nat_le 2 w) k
break_set fs s p n (c ∷ d ∷ more) l h m e =
    subst (λ (z : Bool). (if z then record s { roles = slice_set s.roles p (role.Single leaf.HardBreak (plus q 1)) } else record s { roles = slice_set (slice_set s.roles p role.Hidden) q (role.Single leaf.SoftBreak (plus q 1)) }).roles ≡ fs ++ (role.Single leaf.HardBreak (suc q) ∷ (replicate (suc (suc (length more))) role.Plain ++ rest))) (sym yes)
    (ap (λ k. slice_set s.roles p (role.Single leaf.HardBreak k)) (let k : plus q 1 ≡ suc q = omega arith in k)
    ∙ ap (λ rs. slice_set rs p (role.Single leaf.HardBreak (suc q))) (e ∙ ap (λ rs. fs ++ rs) (plain_split n p (suc (suc (length more))) h))
    ∙ set_here fs (replicate (suc (suc (length more))) role.Plain ++ rest) role.Plain (role.Single leaf.HardBreak (suc q)) p (sym l))
  where
    q : ℕ
    q = p + suc (suc (length more))

    rest : List Role
    rest = replicate (n - (p + suc (suc (suc (length more))))) role.Plain

    yes : nat_le 2 (q - p) ≡ true
    yes = let k : p + suc (suc (length more)) - p ≡ suc (suc (length more)) = omega arith in ap (λ w. nat_le 2 w) k ∙ (let z : nat_le 2 (suc (suc (length more))) ≡ true = grind (arith, nat_tests) in z)

-- 6.7 and 6.8: a line feed after spaces
pub break_goes : (bytes : List ℕ) (ahead : Known) (defs : List ℕ → Option Entry) (p : ℕ) (s : State) (done : List Atom) (xs rest : List ℕ) → Sim bytes p s done → p ≤ length bytes → length bytes + 1 < 2 ^ 64 → drop p bytes ≡ xs ++ 10 ∷ rest → AllByRecursion (λ c. (c == 32) ≡ true) xs → before_space bytes p ≡ None → Goes bytes ahead defs p s done (token (line_break (length xs)) (p + length xs + 1))
break_goes bytes ahead defs p s done xs rest a in_it fits e h clear = record {
  after = with_place (q + 1) t;
  same =
      ap (fold (step bytes ahead defs) s) e
      ∙ passed_over bytes ahead defs xs (10 ∷ rest) s (all_of (λ c. (c == 32) ≡ true) (λ c. is_mark c ≡ false) space_plain xs h) (let z : s.place ≡ p = a.place in omega (arith, m))
      ∙ ap (λ z. fold (step bytes ahead defs) (with_place (z + length xs) s) (10 ∷ rest)) a.place
      ∙ ap (λ (u : State). fold (step bytes ahead defs) u rest)
      (step_look bytes ahead defs (with_place q s) 10 feed_marks (let z : s.resume ≤ p = a.resume in omega arith)
      ∙ ap next_place (feed_looked bytes ahead defs (with_place q s) ∙ ap (λ z. ended_at z q (with_place q s)) back))
      ∙ ap (λ (z : ℕ). fold (step bytes ahead defs) (with_place z t) rest) (t_next ∙ one)
      ∙ ap (fold (step bytes ahead defs) (with_place (q + 1) t)) (sym left);
  further = omega arith;
  within = omega (arith, m);
  sim = took_sim bytes p (q + 1) s t done (break_roles (suc q) xs) (line_break (length xs)) a
      (added bytes p (q + 1) s t a.front (break_roles (suc q) xs) (line_break (length xs))
      (break_set a.front (with_place q s) p (length bytes) xs a.long (omega (arith, m)) fits a.roles
      ∙ ap (λ n. a.front ++ (break_roles (suc q) xs ++ replicate (length bytes - n) role.Plain)) (let k : p + suc (length xs) ≡ q + 1 = omega arith in k))
      (ap (λ n. p + n) (break_long (suc q) xs) ∙ (let k : p + suc (length xs) ≡ q + 1 = omega arith in k))
      (t_texts) (t_targets)
      (break_shows bytes s p xs)
      (subst (λ r. r ≤ q + 1) (sym t_resume) (let z : s.resume ≤ p = a.resume in omega arith))
      t_runs)
      (clean_after bytes q (q + 1) (omega arith) (ap (λ c. c == 32) feed))
      (passes_by bytes p (q + 1) q fits (omega arith) (omega arith) (omega (arith, m)) (ap (λ c. c == 92) feed))
      t_brackets t_inactive;
  grown = ([], t_texts ∙ sym (append-nil s.texts));
}
  where
    q : ℕ
    q = p + length xs

    t : State
    t = ended_at p q (with_place q s)

    m : p + length xs + suc (length rest) ≡ length bytes
    m = past_within bytes xs (10 ∷ rest) p in_it e

    there : drop q bytes ≡ 10 ∷ rest
    there = drop_past bytes xs (10 ∷ rest) p e

    feed : byte_at bytes q ≡ 10
    feed = byte_dropped bytes q 10 rest there

    left : drop (q + 1) bytes ≡ rest
    left = ap (λ n. drop n bytes) (let k : q + 1 ≡ suc q = omega arith in k) ∙ drop_more bytes q 10 rest there

    one : plus q 1 ≡ q + 1
    one = omega (arith, m)

    back : iterated (before_space bytes) (length bytes) q ≡ p
    back = gone_back bytes xs (10 ∷ rest) p e h clear (length xs) (length bytes) (omega (arith, m)) (omega arith)

    keep : {A : Type 0} (f : State → A) → ((z : State) (rs : List Role) → f (record z { roles = rs }) ≡ f z) → f t ≡ f (with_place q s)
    keep f same = by (nat_le 2 (q - p))
      where
        by : (z : Bool) → f (if z then record (with_place q s) { roles = slice_set s.roles p (role.Single leaf.HardBreak (plus q 1)) } else record (with_place q s) { roles = slice_set (slice_set s.roles p role.Hidden) q (role.Single leaf.SoftBreak (plus q 1)) }) ≡ f (with_place q s)
        by true = same (with_place q s) (slice_set s.roles p (role.Single leaf.HardBreak (plus q 1)))
        by false = same (with_place q s) (slice_set (slice_set s.roles p role.Hidden) q (role.Single leaf.SoftBreak (plus q 1)))

    t_next : plus t.place 1 ≡ plus q 1
    t_next = ap (λ n. plus n 1) (keep (λ (z : State). z.place) (λ z rs. refl))

    t_texts : t.texts ≡ s.texts
    t_texts = keep (λ (z : State). z.texts) (λ z rs. refl)

    t_targets : t.targets ≡ s.targets
    t_targets = keep (λ (z : State). z.targets) (λ z rs. refl)

    t_resume : t.resume ≡ s.resume
    t_resume = keep (λ (z : State). z.resume) (λ z rs. refl)

    t_runs : t.runs ≡ s.runs
    t_runs = keep (λ (z : State). z.runs) (λ z rs. refl)

    t_inactive : t.inactive ≡ s.inactive
    t_inactive = keep (λ (z : State). z.inactive) (λ z rs. refl)

    t_brackets : t.brackets ≡ s.brackets
    t_brackets = keep (λ (z : State). z.brackets) (λ z rs. refl)

pub feed_goes : (bytes : List ℕ) (ahead : Known) (defs : List ℕ → Option Entry) (p : ℕ) (s : State) (done : List Atom) → Sim bytes p s done → p < length bytes → length bytes + 1 < 2 ^ 64 → byte_at bytes p ≡ 10 → Goes bytes ahead defs p s done (token SoftBreak (p + 1))
feed_goes bytes ahead defs p s done a in_it fits is =
    subst (λ n. Goes bytes ahead defs p s done (token SoftBreak (n + 1))) (let k : p + 0 ≡ p = omega arith in k)
    (break_goes bytes ahead defs p s done [] (drop (suc p) bytes) a (omega arith) fits (first_left bytes p in_it ∙ ap (λ c. c ∷ drop (suc p) bytes) is) tt
    (a.clean 10 (got bytes p in_it ∙ ap (λ c. Some c) is) refl))

pub got_front : (bytes : List ℕ) (q : ℕ) → slice_get (drop q bytes) 0 ≡ slice_get bytes q
got_front [] zero = refl
got_front [] (suc q) = refl
got_front (x ∷ xs) zero = refl
got_front (x ∷ xs) (suc q) = got_front xs q

-- a line feed that is there ends a line
ended : (bytes : List ℕ) (q c : ℕ) → slice_get bytes q ≡ Some c → c ≡ 10 → ends_line bytes q ≡ true
ended bytes q c h ten = by (nat_lt q (length bytes)) refl
  where
    by : (z : Bool) → nat_lt q (length bytes) ≡ z → (z && (byte_at bytes q == 10)) ≡ true
    by true e = ap (λ (o : Option ℕ). unwrap_or o 10 == 10) h ∙ ap (λ b. b == 10) ten
    by false e = absurd (let k : slice_get bytes q ≡ None = not_got bytes q (let l : length bytes ≤ q = grind (arith, nat_tests, e) in l) in let m : slice_get bytes q ≡ Some c = h in cc)

-- a run of one byte
pub only_end : (bytes : List ℕ) (p b : ℕ) (xs : List ℕ) → take_while (λ c. c == b) (drop p bytes) ≡ xs → p + length xs < 2 ^ 64 → run_end bytes p (Only b) ≡ p + length xs
unfolding run_end is_in
only_end bytes p b xs h fits = ap (λ ys. plus p (length ys)) h ∙ (let k : plus p (length xs) ≡ p + length xs = omega arith in k)

pub spaces_goes : (bytes : List ℕ) (ahead : Known) (defs : List ℕ → Option Entry) (p : ℕ) (s : State) (done : List Atom) → Sim bytes p s done → p < length bytes → length bytes + 1 < 2 ^ 64 → byte_at bytes p ≡ 32 → Goes bytes ahead defs p s done (spaces bytes p (run_end bytes p (Only 32)))
spaces_goes bytes ahead defs p s done a in_it fits is =
    subst (λ n. Goes bytes ahead defs p s done (spaces bytes p n)) (sym (only_end bytes p 32 f.text f.taken (omega (arith, m))))
    (some f.text f.whole f.each)
  where
    f : Front (λ c. c == 32) (drop p bytes)
    f = front_of (λ c. c == 32) (drop p bytes)

    m : p + length f.text + length f.rest ≡ length bytes
    m = past_within bytes f.text f.rest p (omega arith) f.whole

    first : drop p bytes ≡ 32 ∷ drop (suc p) bytes
    first = first_left bytes p in_it ∙ ap (λ c. c ∷ drop (suc p) bytes) is

    clear : before_space bytes p ≡ None
    clear = a.clean 32 (got bytes p in_it ∙ ap (λ c. Some c) is) refl

    at_end : (xs : List ℕ) → drop p bytes ≡ xs ++ f.rest → drop (p + length xs) bytes ≡ f.rest
    at_end xs e = drop_past bytes xs f.rest p e

    some : (xs : List ℕ) → drop p bytes ≡ xs ++ f.rest → AllByRecursion (λ c. (c == 32) ≡ true) xs → Goes bytes ahead defs p s done (spaces bytes p (p + length xs))
    some [] e h = absurd (true≢false (f.ends 32 (ap (λ ys. slice_get ys 0) (sym e ∙ first))))
    some (x ∷ xs) e h = by (ends_line bytes q) refl
      where
        q : ℕ
        q = p + suc (length xs)

        k : p + suc (length xs) + length f.rest ≡ length bytes
        k = past_within bytes (x ∷ xs) f.rest p (omega arith) e

        by : (z : Bool) → ends_line bytes q ≡ z → Goes bytes ahead defs p s done (if z then token (line_break (q - p)) (q + 1) else token (Text (bytes_between bytes p q)) q)
        by true z =
            subst (λ n. Goes bytes ahead defs p s done (token (line_break n) (q + 1))) (let w : suc (length xs) ≡ p + suc (length xs) - p = omega arith in w)
            (break_goes bytes ahead defs p s done (x ∷ xs) (drop (suc q) bytes) a (omega arith) fits
            (e ∙ ap (λ ys. x ∷ (xs ++ ys)) (sym (at_end (x ∷ xs) e) ∙ first_left bytes q inner ∙ ap (λ c. c ∷ drop (suc q) bytes) (eq_of (byte_at bytes q) 10 (ends.1))))
            h clear)
          where
            ends : (nat_lt q (length bytes) ≡ true) × ((byte_at bytes q == 10) ≡ true)
            ends = both_true (nat_lt q (length bytes)) (byte_at bytes q == 10) z

            inner : q < length bytes
            inner = let w : nat_lt q (length bytes) ≡ true = ends.0 in grind (arith, nat_tests)
        by false z =
            subst (λ ys. Goes bytes ahead defs p s done (token (Text ys) q)) (sym (between_text bytes (x ∷ xs) f.rest p (omega arith) e))
            (text_goes bytes ahead defs p x s done xs f.rest a (omega arith) fits e
            (all_of (λ c. (c == 32) ≡ true) (λ c. is_mark c ≡ false) space_plain (x ∷ xs) h)
            clean)
          where
            clean : Clean bytes q
            clean c got_c gap = absurd (neither (c == 32) (c == 10) refl refl gap)
              where
                there : slice_get f.rest 0 ≡ Some c
                there = ap (λ ys. slice_get ys 0) (sym (at_end (x ∷ xs) e)) ∙ got_front bytes q ∙ got_c

                feed_here : c ≡ 10 → ends_line bytes q ≡ true
                feed_here ten = ended bytes q c got_c ten

                neither : (v w : Bool) → (c == 32) ≡ v → (c == 10) ≡ w → (v || w) ≡ true → ⊥
                neither true w v_is w_is g = true≢false (sym v_is ∙ f.ends c there)
                neither false true v_is w_is g = true≢false (sym (feed_here (eq_of c 10 w_is)) ∙ z)
                neither false false v_is w_is g = true≢false (sym g)
