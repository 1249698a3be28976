-- What the reader makes of delimiter runs is the emphasis that is declared.
use Rattle.std.proofs.Common.{◌≡◌, ℕ, zero, suc, ◌+◌, ◌-◌, ◌^◌, ◌<◌, ◌≤◌, Bool, true, false, ◌==◌, ◌&&◌, ◌||◌, nat_lt, nat_le, if◌then◌else◌, inl, inr, List, [], ◌∷◌, ◌++◌, length, take, replicate, reverse, refl, ap, sym, subst, ◌∙◌, arith, append_assoc, append-nil, length-append, true≢false}
use Rattle.std.proofs.lemmas.Bool.Decides.{nat_tests}
use Rattle.std.proofs.lemmas.List.{length-replicate, replicate-append-replicate}
use Rattle.std.proofs.Math.Seq.{take-append_seam}
use Rattle.std.specs.Prelude.{Option, Some, None, slice_get, slice_set}
use Rattle.std.specs.List.{fold, AllByRecursion}
use Rattle.tocmark_read_scan.specs.Basic.{plus, byte_at}
use Rattle.tocmark_read_scan.specs.Repeat.{going, repeated}
use Rattle.tocmark_read_scan.proofs.PlainTests.{turned}
use Rattle.tocmark_read_spans.specs.Emphasis as reader
use Rattle.tocmark_read_spans.specs.declared.role.Role.{Role}
use Rattle.tocmark_read_spans.specs.declared.role.Role.TheVariants as role
use Rattle.tocmark_read_spans.specs.declared.role.Span.{Span}
use Rattle.tocmark_read_spans.specs.declared.role.Span.TheVariants as span
use Rattle.tocmark_read_spans.specs.declared.run.Run.{Run}
use Rattle.tocmark_commonmark.specs.Emphasis.{Match, can_match, nearest, run_left, emphasized_with, matched, closed_or, emphasis, steps}
use Rattle.tocmark_commonmark.specs.InlineTree.{Inline, Bracket, Atom, Whole, Delimiters, Opening, inlines_of}
use Rattle.tocmark_inline_laws.proofs.Atoms.{IsRun, Shows}
use Rattle.tocmark_inline_laws.proofs.Flow.{Beside}
use Rattle.tocmark_inline_laws.proofs.Sim.{runs_of, weight}
use Rattle.tocmark_inline_laws.proofs.SpanRoles.{ShowsAll, none_show, width_by, span_by, emphasis_by, opening_roles, closing_roles, span_shows, match_roles}
use Rattle.tocmark_inline_laws.proofs.Stack.{is_star, all_first, all_second, all_both, all_map, bottom, bottom_low, Bars, bars_set, get_here, Missed, none_found, found_top}
use Rattle.tocmark_inline_laws.proofs.Places.{set_here}
use Rattle.tocmark_inline_laws.proofs.Held.{placed, with_opener, with_kept, Held, Lead, held_shows, Caught, Search, searched}

-- the declaration and the reader at a place between atoms; what is before these roles stays, and so does what is after them
pub record Meets (e : Beside) (ahead tail : List Role) (total : ℕ) (done rest : List Atom) (u : reader.State) (runs : List Run) : Type 0 where
  pub front : List Role
  pub back : List Role
  pub roles : u.roles ≡ ahead ++ (front ++ (back ++ tail))
  pub long : length front + length back ≡ total
  pub held : Held e (length ahead) front done u.stack
  pub lead : Lead e (length ahead + length front) back rest runs
  pub bars : Bars u.bottoms u.stack
  pub low : (j : ℕ) → bottom u.bottoms j ≤ length ahead + length front
  pub light : weight (runs_of done) + weight (runs_of rest) < 2 ^ 64

-- the same at a delimiter run, of which nothing may be left
record Facing (e : Beside) (ahead tail : List Role) (total : ℕ) (done : List Atom) (d : Run) (rest : List Atom) (u : reader.State) (others : List Run) (p : ℕ) : Type 0 where
  front : List Role
  later : List Role
  place : length ahead + length front ≡ p
  roles : u.roles ≡ ahead ++ (front ++ ((replicate d.count role.Plain ++ later) ++ tail))
  long : length front + (d.count + length later) ≡ total
  star : is_star d.byte ≡ true
  filled : (i : ℕ) → i < d.count → byte_at e.bytes (p + i) ≡ d.byte
  held : Held e (length ahead) front done u.stack
  lead : Lead e (p + d.count) later rest others
  bars : Bars u.bottoms u.stack
  low : (j : ℕ) → bottom u.bottoms j ≤ p
  light : weight (runs_of done) + (d.length + weight (runs_of rest)) < 2 ^ 64

-- the roles say these atoms
pub record Settles (e : Beside) (ahead tail : List Role) (total : ℕ) (atoms : List Atom) (roles : List Role) : Type 0 where
  pub front : List Role
  pub are : roles ≡ ahead ++ (front ++ tail)
  pub long : length front ≡ total
  pub shows : ShowsAll e (length ahead) front (inlines_of (reverse atoms))

-- a run fits the same at another place
fits_placed : (o c : Run) (p : ℕ) → reader.fits o (placed p c) ≡ reader.fits o c
unfolding reader.fits reader.emphasis_fits
fits_placed o c p = refl

missed_placed : (c : Run) (p q : ℕ) (runs : List Run) → Missed c q runs → Missed (placed p c) q runs
missed_placed c p q runs h = all_map (λ o. (q ≤ o.place) × (reader.fits o c ≡ false) × (can_match o c ≡ false)) (λ o. (q ≤ o.place) × (reader.fits o (placed p c) ≡ false) × (can_match o (placed p c) ≡ false)) runs (λ o k. ((k.0), (fits_placed o c p ∙ k.1), (k.2))) h

-- all atoms are said
ends : (e : Beside) (ahead tail : List Role) (total : ℕ) (done : List Atom) (u : reader.State) (runs : List Run) → Meets e ahead tail total done [] u runs → Settles e ahead tail total done (fold reader.run_step u runs).roles
ends e ahead tail total done u runs m = record {
  front = m.front;
  are = ap (λ (rs : List Run). (fold reader.run_step u rs).roles) (m.lead.1) ∙ m.roles ∙ ap (λ rs. ahead ++ (m.front ++ (rs ++ tail))) (m.lead.0);
  long = (let l : length m.back ≡ 0 = ap length (m.lead.0) in let k : length m.front + length m.back ≡ total = m.long in omega arith);
  shows =
      subst (λ (rs : List Role). ShowsAll e (length ahead) rs (inlines_of (reverse done))) (append-nil m.front)
      (subst (λ (xs : List Atom). ShowsAll e (length ahead) (m.front ++ []) (inlines_of xs)) (append-nil (reverse done))
      (held_shows e (length ahead) m.front done u.stack m.held [] [] (none_show e (length ahead + length m.front))));
}

regroup : (a b c d : List Role) → a ++ ((b ++ c) ++ d) ≡ (a ++ b) ++ (c ++ d)
regroup a b c d = ap (λ rs. a ++ rs) (append_assoc b c d) ∙ sym (append_assoc a b (c ++ d))

-- an inline is passed
whole_passed : (e : Beside) (ahead tail : List Role) (total : ℕ) (done rest : List Atom) (u : reader.State) (runs : List Run) (a : Atom) (m : Meets e ahead tail total done (a ∷ rest) u runs) (seg later : List Role) → m.back ≡ seg ++ later → Lead e (length ahead + length m.front + length seg) later rest runs → Held e (length ahead) (m.front ++ seg) (a ∷ done) u.stack → weight (runs_of (a ∷ done)) ≤ weight (runs_of done) → weight (runs_of rest) ≤ weight (runs_of (a ∷ rest)) → Meets e ahead tail total (a ∷ done) rest u runs
whole_passed e ahead tail total done rest u runs a m seg later cut lead held light lighter = record {
  front = m.front ++ seg;
  back = later;
  roles = m.roles ∙ ap (λ rs. ahead ++ (m.front ++ (rs ++ tail))) cut ∙ ap (λ rs. ahead ++ rs) (regroup m.front seg later tail);
  long = omega (arith, k, l, n);
  held = held;
  lead = subst (λ q. Lead e q later rest runs) (let q : length ahead + length m.front + length seg ≡ length ahead + length (m.front ++ seg) = omega (arith, l) in q) lead;
  bars = m.bars;
  low = λ j. (let b : bottom u.bottoms j ≤ length ahead + length m.front = m.low j in omega (arith, l));
  light = (let w : weight (runs_of done) + weight (runs_of (a ∷ rest)) < 2 ^ 64 = m.light in omega arith);
}
  where
    k : length m.front + length m.back ≡ total
    k = m.long

    l : length (m.front ++ seg) ≡ length m.front + length seg
    l = length-append m.front seg

    n : length m.back ≡ length seg + length later
    n = ap length cut ∙ length-append seg later

-- a run goes on the stack, if it may open
stacked_is : (v : reader.State) (r : Run) → 0 < r.count → reader.stacked (v, r) ≡ record v { stack = with_opener v.stack r }
stacked_is v r some = by r.opens (nat_lt 0 r.count) (let k : nat_lt 0 r.count ≡ true = grind (arith, nat_tests) in k)
  where
    by : (x y : Bool) → y ≡ true → (if x && y then record v { stack = v.stack ++ r ∷ [] } else v) ≡ record v { stack = if x then v.stack ++ r ∷ [] else v.stack }
    by true true k = refl
    by true false k = absurd (true≢false (sym k))
    by false y k = refl

-- unless nothing is left of it
stacked_none : (v : reader.State) (r : Run) → r.count ≡ 0 → reader.stacked (v, r) ≡ v
stacked_none v r none = by r.opens (nat_lt 0 r.count) (let k : nat_lt 0 r.count ≡ false = grind (arith, nat_tests) in k)
  where
    by : (x y : Bool) → y ≡ false → (if x && y then record v { stack = v.stack ++ r ∷ [] } else v) ≡ v
    by true true k = absurd (true≢false k)
    by true false k = refl
    by false y k = refl

bars_more : (bs : List ℕ) (stack : List Run) (r : Run) → Bars bs stack → ((j : ℕ) → bottom bs j ≤ r.place) → Bars bs (with_opener stack r)
bars_more bs stack r h low c star = by r.opens
  where
    by : (x : Bool) → AllByRecursion (λ o. can_match o c ≡ true → bottom bs (reader.class_of c) ≤ o.place) (if x then stack ++ r ∷ [] else stack)
    by true = all_both (λ o. can_match o c ≡ true → bottom bs (reader.class_of c) ≤ o.place) stack (r ∷ []) (h c star) ((λ k. low (reader.class_of c)), tt)
    by false = h c star

-- a run that is matched no more is passed
run_passed : (e : Beside) (ahead tail : List Role) (total : ℕ) (done : List Atom) (d : Run) (rest : List Atom) (u : reader.State) (others : List Run) (p : ℕ) (bs : List ℕ) → 0 < d.count → Facing e ahead tail total done d rest u others p → Bars bs u.stack → ((j : ℕ) → bottom bs j ≤ p) → Meets e ahead tail total (Delimiters d ∷ done) rest (record u { stack = with_opener u.stack (placed p d); bottoms = bs }) others
run_passed e ahead tail total done d rest u others p bs some m bars low = record {
  front = m.front ++ replicate d.count role.Plain;
  back = m.later;
  roles = m.roles ∙ ap (λ rs. ahead ++ rs) (regroup m.front (replicate d.count role.Plain) m.later tail);
  long = omega (arith, k, l);
  held = (m.front, u.stack, refl, ap (λ q. with_opener u.stack (placed q d)) (sym m.place), record { some = some; star = m.star; filled = λ i h. ap (λ q. byte_at e.bytes (q + i)) m.place ∙ m.filled i h }, m.held);
  lead = subst (λ q. Lead e q m.later rest others) (let q : p + d.count ≡ length ahead + length (m.front ++ replicate d.count role.Plain) = omega (arith, l, at) in q) m.lead;
  bars = bars_more bs u.stack (placed p d) bars low;
  low = λ j. (let b : bottom bs j ≤ p = low j in omega (arith, l, at));
  light = (let w : weight (runs_of done) + (d.length + weight (runs_of rest)) < 2 ^ 64 = m.light in omega arith);
}
  where
    at : length ahead + length m.front ≡ p
    at = m.place

    k : length m.front + (d.count + length m.later) ≡ total
    k = m.long

    l : length (m.front ++ replicate d.count role.Plain) ≡ length m.front + d.count
    l = length-append m.front (replicate d.count role.Plain) ∙ ap (λ n. length m.front + n) (length-replicate d.count role.Plain)

-- the stack is no longer than what is before the place
stack_short : (e : Beside) (base : ℕ) (front : List Role) (done : List Atom) (stack : List Run) → Held e base front done stack → length stack ≤ length front
stack_short e base front [] stack h = let k : length stack ≡ 0 = ap length (h.1) in omega arith
stack_short e base front (Whole i ∷ done) stack h = let k : length stack ≤ length (h.0) = stack_short e base (h.0) done stack (h.4) in let l : length front ≡ length (h.0) + length (h.1) = ap length (h.2) ∙ length-append (h.0) (h.1) in omega arith
stack_short e base front (Opening b ∷ done) stack h = let k : length stack ≤ length (h.0) = stack_short e base (h.0) done stack (h.4) in let l : length front ≡ length (h.0) + length (h.1) = ap length (h.2) ∙ length-append (h.0) (h.1) in omega arith
stack_short e base front (Delimiters d ∷ done) stack h =
    let k : length (h.1) ≤ length (h.0) = stack_short e base (h.0) done (h.1) (h.5) in
    let l : length front ≡ length (h.0) + d.count = ap length (h.2) ∙ length-append (h.0) (replicate d.count role.Plain) ∙ ap (λ n. length (h.0) + n) (length-replicate d.count role.Plain) in
    let s : 0 < d.count = h.4.some in
    let m : length stack ≤ suc (length (h.1)) = subst (λ (rs : List Run). length rs ≤ suc (length (h.1))) (sym (h.3)) (one_more (h.1) (placed (base + length (h.0)) d) d.opens) in
    omega arith
  where
    one_more : (rs : List Run) (r : Run) (x : Bool) → length (if x then rs ++ r ∷ [] else rs) ≤ suc (length rs)
    one_more rs r true = let k : length (rs ++ r ∷ []) ≡ length rs + 1 = length-append rs (r ∷ []) in omega (arith, k)
    one_more rs r false = omega arith

-- the stack up to an opening run that has delimiters left
shortened_left : (under upper : List Run) (o : Run) (n left : ℕ) → o.count - n ≡ suc left → length under + 1 < 2 ^ 64 → reader.shortened (length under) o n (under ++ o ∷ upper) ≡ under ++ reader.with_count (suc left) o ∷ []
shortened_left under upper o n left is fits =
    ap (λ m. if m == 0 then take (length under) (under ++ o ∷ upper) else slice_set (take (plus (length under) 1) (under ++ o ∷ upper)) (length under) (reader.with_count m o)) is
    ∙ ap (λ (z : Bool). if z then take (length under) (under ++ o ∷ upper) else slice_set (take (plus (length under) 1) (under ++ o ∷ upper)) (length under) (reader.with_count (suc left) o)) (let not_so : (suc left == 0) ≡ false = grind (arith, nat_tests) in not_so)
    ∙ ap (λ rs. slice_set rs (length under) (reader.with_count (suc left) o)) cut
    ∙ set_here under [] o (reader.with_count (suc left) o) (length under) refl
  where
    cut : take (plus (length under) 1) (under ++ o ∷ upper) ≡ under ++ o ∷ []
    cut =
        ap (λ n. take n (under ++ o ∷ upper)) (let l : length (under ++ o ∷ []) ≡ length under + 1 = length-append under (o ∷ []) in let k : plus (length under) 1 ≡ length (under ++ o ∷ []) = omega (arith, l) in k)
        ∙ ap (take (length (under ++ o ∷ []))) (sym (append_assoc under (o ∷ []) upper))
        ∙ take-append_seam (under ++ o ∷ []) upper

-- or none
shortened_none : (under upper : List Run) (o : Run) (n : ℕ) → o.count - n ≡ 0 → reader.shortened (length under) o n (under ++ o ∷ upper) ≡ under
shortened_none under upper o n is =
    ap (λ m. if m == 0 then take (length under) (under ++ o ∷ upper) else slice_set (take (plus (length under) 1) (under ++ o ∷ upper)) (length under) (reader.with_count m o)) is
    ∙ take-append_seam under (o ∷ upper)

-- what a match is
span_is : (z : Bool) (c : Run) → is_star c.byte ≡ true → reader.span_of (width_by z) c ≡ span_by z
unfolding reader.span_of reader.is_tilde_or_caret
span_is z c star =
    ap (λ (y : Bool). if y || (c.byte == 94) then reader.extended_span c else (if width_by z == 2 then span.Strong else span.Emphasis)) (turned is_star 126 c.byte star refl)
    ∙ ap (λ (y : Bool). if y then reader.extended_span c else (if width_by z == 2 then span.Strong else span.Emphasis)) (turned is_star 94 c.byte star refl)
    ∙ by z
  where
    by : (z : Bool) → (if width_by z == 2 then span.Strong else span.Emphasis) ≡ span_by z
    by true = refl
    by false = refl

-- a match of so many delimiters
abbrev match_roles_of : ℕ → Span → Run → Run → List Role → List Role
match_roles_of n s o c roles =
    slice_set (slice_set (slice_set (slice_set roles (plus o.place o.count - 1) role.Hidden) (plus o.place o.count - n) (role.Open s (plus c.place n))) c.place role.Hidden) (plus c.place n - 1) (role.Close (plus c.place n))

abbrev after_match : ℕ → Span → ℕ → Run → Run → reader.State → reader.State
after_match n s k o c u = record u { roles = match_roles_of n s o c u.roles; stack = reader.shortened k o n u.stack }

abbrev left_of : ℕ → Run → Run
left_of n c = record c { place = plus c.place n; count = c.count - n }

once_matches : (u : reader.State) (c o : Run) (under upper : List Run) (z : Bool) → (nat_le 2 o.count && nat_le 2 c.count) ≡ z → is_star c.byte ≡ true → 0 < c.count → u.stack ≡ under ++ o ∷ upper → reader.found u.stack c (bottom u.bottoms (reader.class_of c)) (length u.stack) ≡ Some (length under) → reader.once c u ≡ (after_match (width_by z) (span_by z) (length under) o c u, Some (left_of (width_by z) c))
unfolding reader.once reader.matched reader.width_of
once_matches u c o under upper z wide star some stack found =
    ap (λ (y : Bool). if y then (u, None) else reader.once_at (reader.found u.stack c (bottom u.bottoms (reader.class_of c)) (length u.stack)) c u) (let not_so : (c.count == 0) ≡ false = grind (arith, nat_tests) in not_so)
    ∙ ap (λ (x : Option ℕ). reader.once_at x c u) found
    ∙ ap (λ (x : Option Run). reader.once_on x (length under) c u) (ap (λ (rs : List Run). slice_get rs (length under)) stack ∙ get_here under upper o)
    ∙ ap (λ (y : Bool). (after_match (width_by y) (reader.span_of (width_by y) c) (length under) o c u, Some (left_of (width_by y) c))) wide
    ∙ ap (λ (x : Span). (after_match (width_by z) x (length under) o c u, Some (left_of (width_by z) c))) (span_is z c star)

once_fails : (u : reader.State) (c : Run) → 0 < c.count → reader.found u.stack c (bottom u.bottoms (reader.class_of c)) (length u.stack) ≡ None → reader.once c u ≡ (reader.barred c u, None)
unfolding reader.once
once_fails u c some found =
    ap (λ (y : Bool). if y then (u, None) else reader.once_at (reader.found u.stack c (bottom u.bottoms (reader.class_of c)) (length u.stack)) c u) (let not_so : (c.count == 0) ≡ false = grind (arith, nat_tests) in not_so)
    ∙ ap (λ (x : Option ℕ). reader.once_at x c u) found

once_done : (u : reader.State) (c : Run) → c.count ≡ 0 → reader.once c u ≡ (u, None)
unfolding reader.once
once_done u c none = ap (λ (y : Bool). if y then (u, None) else reader.once_at (reader.found u.stack c (bottom u.bottoms (reader.class_of c)) (length u.stack)) c u) (let so : (c.count == 0) ≡ true = grind (arith, nat_tests) in so)

repeated_done : (n : ℕ) (u : reader.State) (c : Run) → c.count ≡ 0 → repeated reader.once n c u ≡ (u, c)
unfolding repeated
repeated_done zero u c none = refl
repeated_done (suc n) u c none = ap (λ (q : reader.State × Option Run). going (λ d t. repeated reader.once n d t) c q) (once_done u c none)

repeated_more : (n : ℕ) (u : reader.State) (c : Run) (q : reader.State × Option Run) → reader.once c u ≡ q → repeated reader.once (suc n) c u ≡ going (λ d t. repeated reader.once n d t) c q
unfolding repeated
repeated_more n u c q is = ap (λ (q : reader.State × Option Run). going (λ d t. repeated reader.once n d t) c q) is

-- the parts of the roles before a match
parted : (ahead prior first n mid second later tail : List Role) → ahead ++ ((prior ++ ((first ++ n) ++ mid)) ++ (((n ++ second) ++ later) ++ tail)) ≡ (ahead ++ (prior ++ first)) ++ (n ++ (mid ++ (n ++ (second ++ (later ++ tail)))))
parted ahead prior first n mid second later tail = simp append_assoc refl

-- and after it
joined : (ahead prior first o mid c second later tail : List Role) → (ahead ++ (prior ++ first)) ++ (o ++ (mid ++ (c ++ (second ++ (later ++ tail))))) ≡ ahead ++ (((prior ++ first) ++ (o ++ (mid ++ c))) ++ ((second ++ later) ++ tail))
joined ahead prior first o mid c second later tail = simp append_assoc refl

plain_parts : (n k : ℕ) → n ≤ k → replicate k role.Plain ≡ replicate (k - n) role.Plain ++ replicate n role.Plain
plain_parts n k h = ap (λ m. replicate m role.Plain) (let e : k ≡ (k - n) + n = omega arith in e) ∙ sym (replicate-append-replicate (k - n) n role.Plain)

plain_other_parts : (n k : ℕ) → n ≤ k → replicate k role.Plain ≡ replicate n role.Plain ++ replicate (k - n) role.Plain
plain_other_parts n k h = ap (λ m. replicate m role.Plain) (let e : k ≡ n + (k - n) = omega arith in e) ∙ sym (replicate-append-replicate n (k - n) role.Plain)

ends_length : (z : Bool) (end : ℕ) → (length (opening_roles z end) ≡ width_by z) × (length (closing_roles z end) ≡ width_by z)
ends_length true end = (refl, refl)
ends_length false end = (refl, refl)

wide_enough : (z : Bool) (a b : ℕ) → (nat_le 2 a && nat_le 2 b) ≡ z → 0 < a → 0 < b → (width_by z ≤ a) × (width_by z ≤ b)
wide_enough z a b h m n = by (nat_le 2 a) (nat_le 2 b) z refl refl h
  where
    by : (x y z : Bool) → nat_le 2 a ≡ x → nat_le 2 b ≡ y → (x && y) ≡ z → (width_by z ≤ a) × (width_by z ≤ b)
    by true true true p q k = (grind (arith, nat_tests), grind (arith, nat_tests))
    by true true false p q k = absurd (true≢false k)
    by true false true p q k = absurd (true≢false (sym k))
    by true false false p q k = (omega arith, omega arith)
    by false y true p q k = absurd (true≢false (sym k))
    by false y false p q k = (omega arith, omega arith)

some_width : (z : Bool) → 0 < width_by z
some_width true = omega arith
some_width false = omega arith

-- what is held after a match
match_held : (e : Beside) (base n : ℕ) (prior seg : List Role) (o : Run) (before : List Atom) (under upper : List Run) (i : Inline) → o.opens ≡ true → IsRun e (base + length prior) o → Held e base prior before under → length under + 1 < 2 ^ 64 → Shows e (base + length (prior ++ replicate (o.count - n) role.Plain)) seg i → Held e base ((prior ++ replicate (o.count - n) role.Plain) ++ seg) (Whole i ∷ run_left n o ++ before) (reader.shortened (length under) (placed (base + length prior) o) n (under ++ placed (base + length prior) o ∷ upper))
match_held e base n prior seg o before under upper i opens run held fits shows = by (nat_lt n o.count) refl
  where
    x : Run
    x = placed (base + length prior) o

    by : (y : Bool) → nat_lt n o.count ≡ y → Held e base ((prior ++ replicate (o.count - n) role.Plain) ++ seg) (Whole i ∷ (if y then Delimiters (record o { count = o.count - n }) ∷ [] else []) ++ before) (reader.shortened (length under) x n (under ++ x ∷ upper))
    by true k =
        let l : n < o.count = grind (arith, nat_tests, k) in
        let is : o.count - n ≡ suc (o.count - n - 1) = omega arith in (
          prior ++ replicate (o.count - n) role.Plain,
          seg,
          refl,
          shows,
          (
            prior,
            under,
            refl,
            shortened_left under upper x n (o.count - n - 1) is fits ∙ ap (λ m. under ++ reader.with_count m x ∷ []) (sym is) ∙ sym (ap (λ (y : Bool). if y then under ++ reader.with_count (o.count - n) x ∷ [] else under) opens),
            record { some = omega arith; star = run.star; filled = λ j h. run.filled j (let m : j < o.count - n = h in omega arith) },
            held,
          ),
        )
    by false k =
        let l : o.count ≤ n = grind (arith, nat_tests, k) in
        let is : o.count - n ≡ 0 = omega arith in (
          prior ++ replicate (o.count - n) role.Plain,
          seg,
          refl,
          shows,
          subst (λ (rs : List Role). Held e base rs before (reader.shortened (length under) x n (under ++ x ∷ upper))) (sym (ap (λ m. prior ++ replicate m role.Plain) is ∙ append-nil prior))
              (subst (λ (rs : List Run). Held e base prior before rs) (sym (shortened_none under upper x n is)) held),
        )

match_bars : (bs : List ℕ) (n : ℕ) (o : Run) (under upper : List Run) → length under + 1 < 2 ^ 64 → Bars bs (under ++ o ∷ upper) → Bars bs (reader.shortened (length under) o n (under ++ o ∷ upper))
match_bars bs n o under upper fits h c star = by (o.count - n) refl (h c star)
  where
    by : (m : ℕ) → o.count - n ≡ m → AllByRecursion (λ x. can_match x c ≡ true → bottom bs (reader.class_of c) ≤ x.place) (under ++ o ∷ upper) → AllByRecursion (λ x. can_match x c ≡ true → bottom bs (reader.class_of c) ≤ x.place) (reader.shortened (length under) o n (under ++ o ∷ upper))
    by zero is k = subst (λ (rs : List Run). AllByRecursion (λ x. can_match x c ≡ true → bottom bs (reader.class_of c) ≤ x.place) rs) (sym (shortened_none under upper o n is)) (all_first (λ x. can_match x c ≡ true → bottom bs (reader.class_of c) ≤ x.place) under (o ∷ upper) k)
    by (suc left) is k =
        subst (λ (rs : List Run). AllByRecursion (λ x. can_match x c ≡ true → bottom bs (reader.class_of c) ≤ x.place) rs) (sym (shortened_left under upper o n left is fits))
        (all_both (λ x. can_match x c ≡ true → bottom bs (reader.class_of c) ≤ x.place) under (reader.with_count (suc left) o ∷ []) (all_first (λ x. can_match x c ≡ true → bottom bs (reader.class_of c) ≤ x.place) under (o ∷ upper) k)
        ((all_second (λ x. can_match x c ≡ true → bottom bs (reader.class_of c) ≤ x.place) under (o ∷ upper) k).0, tt))

left_light : (n : ℕ) (o : Run) (before : List Atom) → weight (runs_of (run_left n o ++ before)) ≤ o.length + weight (runs_of before)
left_light n o before = by (nat_lt n o.count)
  where
    by : (y : Bool) → weight (runs_of ((if y then Delimiters (record o { count = o.count - n }) ∷ [] else []) ++ before)) ≤ o.length + weight (runs_of before)
    by true = omega arith
    by false = omega arith

-- a match
facing_matched : (e : Beside) (ahead tail : List Role) (total : ℕ) (done : List Atom) (d : Run) (rest : List Atom) (u : reader.State) (others : List Run) (p : ℕ) (m : Facing e ahead tail total done d rest u others p) (k : Caught e (length ahead) d (m.front ++ []) (u.stack ++ []) (nearest d [] done) (weight (runs_of done))) (z : Bool) → (nat_le 2 k.opening.count && nat_le 2 d.count) ≡ z → 0 < d.count → length ahead + total + 1 < 2 ^ 64 → Facing e ahead tail total (Whole (emphasis_by z (inlines_of k.between)) ∷ run_left (width_by z) k.opening ++ k.before) (record d { count = d.count - width_by z }) rest (after_match (width_by z) (span_by z) (length k.under) (placed (length ahead + length k.prior) k.opening) (placed p d) u) others (p + width_by z)
facing_matched e ahead tail total done d rest u others p m k z wide some room = record {
  front = (k.prior ++ first) ++ seg;
  later = m.later;
  place = omega (arith, at, long_front, long_new, enough);
  roles =
      ap (match_roles_of n (span_by z) o c) (m.roles ∙ ap (λ rs. ahead ++ (rs ++ ((replicate d.count role.Plain ++ m.later) ++ tail))) cut ∙ ap (λ rs. ahead ++ ((k.prior ++ (rs ++ k.mid)) ++ ((replicate d.count role.Plain ++ m.later) ++ tail))) (plain_parts n k.opening.count (enough.0)) ∙ ap (λ rs. ahead ++ ((k.prior ++ ((first ++ replicate n role.Plain) ++ k.mid)) ++ ((rs ++ m.later) ++ tail))) (plain_other_parts n d.count (enough.1)) ∙ parted ahead k.prior first (replicate n role.Plain) k.mid second m.later tail)
      ∙ match_roles z (ahead ++ (k.prior ++ first)) k.mid (second ++ (m.later ++ tail)) end (plus o.place o.count - 1) (plus o.place o.count - n) c.place (plus c.place n - 1)
      (omega (arith, at, long_front, long_before, enough, whole)) (omega (arith, at, long_front, long_before, enough, whole, wider)) (omega (arith, at, long_front, long_before, enough, whole)) (omega (arith, at, long_front, long_before, enough, whole, wider))
      ∙ joined ahead k.prior first (opening_roles z end) k.mid (closing_roles z end) second m.later tail;
  long = omega (arith, at, long_front, long_new, enough, whole);
  star = m.star;
  filled = λ i h. ap (λ q. byte_at e.bytes q) (let q : p + n + i ≡ p + (n + i) = omega arith in q) ∙ m.filled (n + i) (let l : i < d.count - n = h in omega (arith, enough));
  held = subst (λ (rs : List Run). Held e (length ahead) ((k.prior ++ first) ++ seg) (Whole (emphasis_by z (inlines_of k.between)) ∷ run_left n k.opening ++ k.before) (reader.shortened (length k.under) o n rs)) (sym stack)
      (match_held e (length ahead) n k.prior seg k.opening k.before k.under k.upper (emphasis_by z (inlines_of k.between)) k.opens k.run k.held short shows);
  lead = subst (λ q. Lead e q m.later rest others) (let q : p + d.count ≡ p + n + (d.count - n) = omega (arith, enough) in q) m.lead;
  bars = subst (λ (rs : List Run). Bars u.bottoms (reader.shortened (length k.under) o n rs)) (sym stack) (match_bars u.bottoms n o k.under k.upper short (subst (Bars u.bottoms) stack m.bars));
  low = λ j. (let b : bottom u.bottoms j ≤ p = m.low j in omega arith);
  light = (let w : weight (runs_of done) + (d.length + weight (runs_of rest)) < 2 ^ 64 = m.light in let v : k.opening.length + weight (runs_of k.before) ≤ weight (runs_of done) = k.light in let x : weight (runs_of (run_left n k.opening ++ k.before)) ≤ k.opening.length + weight (runs_of k.before) = left_light n k.opening k.before in omega (arith, w, v, x));
}
  where
    n : ℕ
    n = width_by z

    end : ℕ
    end = plus p n

    o : Run
    o = placed (length ahead + length k.prior) k.opening

    c : Run
    c = placed p d

    first : List Role
    first = replicate (k.opening.count - n) role.Plain

    second : List Role
    second = replicate (d.count - n) role.Plain

    seg : List Role
    seg = opening_roles z end ++ (k.mid ++ closing_roles z end)

    enough : (n ≤ k.opening.count) × (n ≤ d.count)
    enough = wide_enough z k.opening.count d.count wide k.run.some some

    wider : 0 < n
    wider = some_width z

    at : length ahead + length m.front ≡ p
    at = m.place

    whole : length m.front + (d.count + length m.later) ≡ total
    whole = m.long

    cut : m.front ≡ k.prior ++ (replicate k.opening.count role.Plain ++ k.mid)
    cut = sym (append-nil m.front) ∙ k.roles_are

    stack : u.stack ≡ k.under ++ o ∷ k.upper
    stack = sym (append-nil u.stack) ∙ k.stack_is

    long_front : length m.front ≡ length k.prior + (k.opening.count + length k.mid)
    long_front = ap length cut ∙ length-append k.prior (replicate k.opening.count role.Plain ++ k.mid) ∙ ap (λ i. length k.prior + i) (length-append (replicate k.opening.count role.Plain) k.mid ∙ ap (λ i. i + length k.mid) (length-replicate k.opening.count role.Plain))

    long_first : length (k.prior ++ first) ≡ length k.prior + (k.opening.count - n)
    long_first = length-append k.prior first ∙ ap (λ i. length k.prior + i) (length-replicate (k.opening.count - n) role.Plain)

    long_before : length (ahead ++ (k.prior ++ first)) ≡ length ahead + (length k.prior + (k.opening.count - n))
    long_before = length-append ahead (k.prior ++ first) ∙ ap (λ i. length ahead + i) long_first

    long_seg : length seg ≡ n + (length k.mid + n)
    long_seg = length-append (opening_roles z end) (k.mid ++ closing_roles z end) ∙ ap (λ i. i + length (k.mid ++ closing_roles z end)) ((ends_length z end).0) ∙ ap (λ i. n + i) (length-append k.mid (closing_roles z end) ∙ ap (λ i. length k.mid + i) ((ends_length z end).1))

    long_new : length ((k.prior ++ first) ++ seg) ≡ length k.prior + (k.opening.count - n) + (n + (length k.mid + n))
    long_new = length-append (k.prior ++ first) seg ∙ ap (λ i. i + length seg) long_first ∙ ap (λ i. length k.prior + (k.opening.count - n) + i) long_seg

    short : length k.under + 1 < 2 ^ 64
    short =
        let l : length u.stack ≤ length m.front = stack_short e (length ahead) m.front done u.stack m.held in
        let i : length u.stack ≡ length k.under + suc (length k.upper) = ap length stack ∙ length-append k.under (o ∷ k.upper) in
        omega (arith, whole)

    shows : Shows e (length ahead + length (k.prior ++ first)) seg (emphasis_by z (inlines_of k.between))
    shows = span_shows e (length ahead + length (k.prior ++ first)) z k.mid (inlines_of k.between) end (omega (arith, at, long_front, long_first, enough, whole))
        (subst (λ q. ShowsAll e q k.mid (inlines_of k.between)) (let q : length ahead + length k.prior + k.opening.count ≡ length ahead + length (k.prior ++ first) + n = omega (arith, long_first, enough) in q) k.shows)

-- nothing is left of a run
facing_none : (e : Beside) (ahead tail : List Role) (total : ℕ) (done : List Atom) (d : Run) (rest : List Atom) (u : reader.State) (others : List Run) (p : ℕ) → Facing e ahead tail total done d rest u others p → d.count ≡ 0 → Meets e ahead tail total done rest u others
facing_none e ahead tail total done d rest u others p m none = record {
  front = m.front;
  back = m.later;
  roles = m.roles ∙ ap (λ n. ahead ++ (m.front ++ ((replicate n role.Plain ++ m.later) ++ tail))) none;
  long = (let k : length m.front + (d.count + length m.later) ≡ total = m.long in omega arith);
  held = m.held;
  lead = subst (λ q. Lead e q m.later rest others) (let at : length ahead + length m.front ≡ p = m.place in let q : p + d.count ≡ length ahead + length m.front = omega arith in q) m.lead;
  bars = m.bars;
  low = λ j. (let at : length ahead + length m.front ≡ p = m.place in let b : bottom u.bottoms j ≤ p = m.low j in omega arith);
  light = (let w : weight (runs_of done) + (d.length + weight (runs_of rest)) < 2 ^ 64 = m.light in omega arith);
}

-- a run is next
faced : (e : Beside) (ahead tail : List Role) (total : ℕ) (done : List Atom) (d : Run) (rest : List Atom) (u : reader.State) (runs : List Run) (m : Meets e ahead tail total done (Delimiters d ∷ rest) u runs) → Facing e ahead tail total done d rest u (m.lead.1) (length ahead + length m.front)
faced e ahead tail total done d rest u runs m = record {
  front = m.front;
  later = m.lead.0;
  place = refl;
  roles = m.roles ∙ ap (λ rs. ahead ++ (m.front ++ (rs ++ tail))) (m.lead.2);
  long = (let k : length m.front + length m.back ≡ total = m.long in let l : length m.back ≡ d.count + length (m.lead.0) = ap length (m.lead.2) ∙ length-append (replicate d.count role.Plain) (m.lead.0) ∙ ap (λ n. n + length (m.lead.0)) (length-replicate d.count role.Plain) in omega arith);
  star = m.lead.4.star;
  filled = m.lead.4.filled;
  held = m.held;
  lead = m.lead.5;
  bars = m.bars;
  low = m.low;
  light = m.light;
}

-- how many steps are left
abbrev pub size : List Atom → ℕ
size [] = 0
size (a ∷ rest) = steps a + size rest

-- the steps of the declaration
emphasis_end : (fuel : ℕ) (done : List Atom) → emphasis (suc fuel) done [] ≡ done
unfolding emphasis
emphasis_end fuel done = refl

emphasis_whole : (fuel : ℕ) (done rest : List Atom) (i : Inline) → emphasis (suc fuel) done (Whole i ∷ rest) ≡ emphasis fuel (Whole i ∷ done) rest
unfolding emphasis
emphasis_whole fuel done rest i = refl

emphasis_opening : (fuel : ℕ) (done rest : List Atom) (b : Bracket) → emphasis (suc fuel) done (Opening b ∷ rest) ≡ emphasis fuel (Opening b ∷ done) rest
unfolding emphasis
emphasis_opening fuel done rest b = refl

emphasis_run : (fuel : ℕ) (done rest : List Atom) (d : Run) → d.closes ≡ false → emphasis (suc fuel) done (Delimiters d ∷ rest) ≡ emphasis fuel (Delimiters d ∷ done) rest
unfolding emphasis
emphasis_run fuel done rest d not_so = ap (λ (z : Bool). closed_or (λ x y. emphasis fuel x y) done (Delimiters d) rest (if z then Some d else None)) not_so

emphasis_closes : (fuel : ℕ) (done rest : List Atom) (d : Run) (found : Option Match) → d.closes ≡ true → nearest d [] done ≡ found → emphasis (suc fuel) done (Delimiters d ∷ rest) ≡ matched (λ x y. emphasis fuel x y) done rest d found
unfolding emphasis
emphasis_closes fuel done rest d found so is =
    ap (λ (z : Bool). closed_or (λ x y. emphasis fuel x y) done (Delimiters d) rest (if z then Some d else None)) so
    ∙ ap (λ (x : Option Match). matched (λ x y. emphasis fuel x y) done rest d x) is

emphasis_match : (fuel : ℕ) (done rest : List Atom) (d : Run) (before between : List Atom) (o : Run) (z : Bool) → d.closes ≡ true → nearest d [] done ≡ Some (record { before = before; opening = o; between = between }) → (nat_le 2 o.count && nat_le 2 d.count) ≡ z → emphasis (suc fuel) done (Delimiters d ∷ rest) ≡ emphasis fuel (Whole (emphasis_by z (inlines_of between)) ∷ run_left (width_by z) o ++ before) (run_left (width_by z) d ++ rest)
emphasis_match fuel done rest d before between o z so is wide =
    emphasis_closes fuel done rest d (Some (record { before = before; opening = o; between = between })) so is
    ∙ ap (λ (y : Bool). emphasized_with (λ x y. emphasis fuel x y) rest d (record { before = before; opening = o; between = between }) (width_by y)) wide
    ∙ by z
  where
    by : (z : Bool) → emphasized_with (λ x y. emphasis fuel x y) rest d (record { before = before; opening = o; between = between }) (width_by z) ≡ emphasis fuel (Whole (emphasis_by z (inlines_of between)) ∷ run_left (width_by z) o ++ before) (run_left (width_by z) d ++ rest)
    by true = refl
    by false = refl

-- the steps of the reader
kept_closes : (u : reader.State) (r : Run) (others : List Run) → r.closes ≡ true → fold reader.run_step u (with_kept r others) ≡ fold reader.run_step (reader.stacked (repeated reader.once r.count r u)) others
unfolding reader.run_step
kept_closes u r others so = by r.opens r.closes so
  where
    by : (x y : Bool) → y ≡ true → fold reader.run_step u (if x || y then r ∷ others else others) ≡ fold reader.run_step (reader.stacked (repeated reader.once r.count r u)) others
    by true true k = ap (λ (z : Bool). fold reader.run_step (reader.stacked (if z then repeated reader.once r.count r u else (u, r))) others) so
    by false true k = ap (λ (z : Bool). fold reader.run_step (reader.stacked (if z then repeated reader.once r.count r u else (u, r))) others) so
    by x false k = absurd (true≢false (sym k))

kept_passes : (u : reader.State) (r : Run) (others : List Run) → r.closes ≡ false → 0 < r.count → fold reader.run_step u (with_kept r others) ≡ fold reader.run_step (record u { stack = with_opener u.stack r }) others
unfolding reader.run_step
kept_passes u r others not_so some = by r.opens r.closes refl not_so
  where
    by : (x y : Bool) → r.opens ≡ x → y ≡ false → fold reader.run_step u (if x || y then r ∷ others else others) ≡ fold reader.run_step (record u { stack = with_opener u.stack r }) others
    by true false e k =
        ap (λ (z : Bool). fold reader.run_step (reader.stacked (if z then repeated reader.once r.count r u else (u, r))) others) not_so
        ∙ ap (λ (v : reader.State). fold reader.run_step v others) (stacked_is u r some)
    by false false e k = sym (ap (λ (x : Bool). fold reader.run_step (record u { stack = if x then u.stack ++ r ∷ [] else u.stack }) others) e)
    by x true e k = absurd (true≢false k)

-- what is to be shown of all atoms, and of a closing run of which something is left
abbrev AllSettle : Beside → List Role → List Role → ℕ → ℕ → Type 0
AllSettle e ahead tail total fuel =
    (done rest : List Atom) (u : reader.State) (runs : List Run) → Meets e ahead tail total done rest u runs → size rest < fuel
    → Settles e ahead tail total (emphasis fuel done rest) (fold reader.run_step u runs).roles

abbrev EachCloses : Beside → List Role → List Role → ℕ → ℕ → Type 0
EachCloses e ahead tail total fuel =
    (done : List Atom) (d : Run) (rest : List Atom) (u : reader.State) (others : List Run) (p k : ℕ) → Facing e ahead tail total done d rest u others p
    → 0 < d.count → d.closes ≡ true → d.count ≤ k → d.count + 1 + size rest < fuel
    → Settles e ahead tail total (emphasis fuel done (Delimiters d ∷ rest)) (fold reader.run_step (reader.stacked (repeated reader.once k (placed p d) u)) others).roles

record Both (e : Beside) (ahead tail : List Role) (total fuel : ℕ) : Type 0 where
  all : AllSettle e ahead tail total fuel
  each : EachCloses e ahead tail total fuel

-- a closing run that matches none
closes_none : (e : Beside) (ahead tail : List Role) (total fuel : ℕ) → AllSettle e ahead tail total fuel → (done : List Atom) (d : Run) (rest : List Atom) (u : reader.State) (others : List Run) (p k : ℕ) → Facing e ahead tail total done d rest u others p → 0 < d.count → d.closes ≡ true → size rest < fuel → nearest d [] done ≡ None → Missed d (length ahead) u.stack → Settles e ahead tail total (emphasis (suc fuel) done (Delimiters d ∷ rest)) (fold reader.run_step (reader.stacked (repeated reader.once (suc k) (placed p d) u)) others).roles
closes_none e ahead tail total fuel all done d rest u others p k m some closes small none missed =
    subst (λ (xs : List Atom). Settles e ahead tail total xs (fold reader.run_step (reader.stacked (repeated reader.once (suc k) c u)) others).roles) (sym (emphasis_closes fuel done rest d None closes none))
    (subst (λ (v : reader.State). Settles e ahead tail total (emphasis fuel (Delimiters d ∷ done) rest) (fold reader.run_step v others).roles) (sym same)
    (all (Delimiters d ∷ done) rest (record u { stack = with_opener u.stack c; bottoms = bs }) others (run_passed e ahead tail total done d rest u others p bs some m bars low) small))
  where
    c : Run
    c = placed p d

    bs : List ℕ
    bs = slice_set u.bottoms (reader.class_of c) p

    found : reader.found u.stack c (bottom u.bottoms (reader.class_of c)) (length u.stack) ≡ None
    found = none_found c (length ahead) (bottom u.bottoms (reader.class_of c)) u.stack (missed_placed d p (length ahead) u.stack missed) (length u.stack) (omega arith)

    same : reader.stacked (repeated reader.once (suc k) c u) ≡ record u { stack = with_opener u.stack c; bottoms = bs }
    same = ap reader.stacked (repeated_more k u c (reader.barred c u, None) (once_fails u c some found)) ∙ stacked_is (reader.barred c u) c some

    bars : Bars bs u.stack
    bars = bars_set u.bottoms u.stack c p m.star (all_map (λ o. (length ahead ≤ o.place) × (reader.fits o d ≡ false) × (can_match o d ≡ false)) (λ o. can_match o c ≡ false) u.stack (λ o h. h.2) missed) m.bars

    low : (j : ℕ) → bottom bs j ≤ p
    low = bottom_low u.bottoms p p (reader.class_of c) m.low (omega arith)

-- a closing run that matches one
closes_one : (e : Beside) (ahead tail : List Role) (total fuel : ℕ) → length ahead + total + 1 < 2 ^ 64 → Both e ahead tail total fuel → (done : List Atom) (d : Run) (rest : List Atom) (u : reader.State) (others : List Run) (p k : ℕ) (m : Facing e ahead tail total done d rest u others p) → 0 < d.count → d.closes ≡ true → d.count ≤ suc k → d.count + 1 + size rest < suc fuel → Caught e (length ahead) d (m.front ++ []) (u.stack ++ []) (nearest d [] done) (weight (runs_of done)) → Settles e ahead tail total (emphasis (suc fuel) done (Delimiters d ∷ rest)) (fold reader.run_step (reader.stacked (repeated reader.once (suc k) (placed p d) u)) others).roles
closes_one e ahead tail total fuel room ih done d rest u others p k m some closes times small h =
    subst (λ (xs : List Atom). Settles e ahead tail total xs (fold reader.run_step (reader.stacked (repeated reader.once (suc k) c u)) others).roles) (sym (emphasis_match fuel done rest d h.before h.between h.opening z closes h.found refl))
    (subst (λ (q : reader.State × Run). Settles e ahead tail total (emphasis fuel atoms (run_left n d ++ rest)) (fold reader.run_step (reader.stacked q) others).roles) (sym same)
    (by (nat_lt n d.count) refl))
  where
    z : Bool
    z = nat_le 2 h.opening.count && nat_le 2 d.count

    n : ℕ
    n = width_by z

    c : Run
    c = placed p d

    o : Run
    o = placed (length ahead + length h.prior) h.opening

    next : Run
    next = record d { count = d.count - n }

    atoms : List Atom
    atoms = Whole (emphasis_by z (inlines_of h.between)) ∷ run_left n h.opening ++ h.before

    after : reader.State
    after = after_match n (span_by z) (length h.under) o c u

    enough : (n ≤ h.opening.count) × (n ≤ d.count)
    enough = wide_enough z h.opening.count d.count refl h.run.some some

    wider : 0 < n
    wider = some_width z

    facing : Facing e ahead tail total atoms next rest after others (p + n)
    facing = facing_matched e ahead tail total done d rest u others p m h z refl some room

    stack : u.stack ≡ h.under ++ o ∷ h.upper
    stack = sym (append-nil u.stack) ∙ h.stack_is

    low : bottom u.bottoms (reader.class_of c) ≤ o.place
    low = (all_second (λ x. can_match x c ≡ true → bottom u.bottoms (reader.class_of c) ≤ x.place) h.under (o ∷ h.upper) (subst (λ (rs : List Run). AllByRecursion (λ x. can_match x c ≡ true → bottom u.bottoms (reader.class_of c) ≤ x.place) rs) stack (m.bars c m.star))).0 h.matches

    found : reader.found u.stack c (bottom u.bottoms (reader.class_of c)) (length u.stack) ≡ Some (length h.under)
    found =
        ap (λ (rs : List Run). reader.found rs c (bottom u.bottoms (reader.class_of c)) (length rs)) stack
        ∙ found_top c (bottom u.bottoms (reader.class_of c)) h.under h.upper o (fits_placed o d p ∙ h.fits) low (missed_placed d p o.place h.upper h.missed)

    fits : p + n + 1 < 2 ^ 64
    fits =
        let at : length ahead + length m.front ≡ p = m.place in
        let l : length m.front + (d.count + length m.later) ≡ total = m.long in
        omega (arith, enough)

    left_is : left_of n c ≡ placed (p + n) next
    left_is = ap (λ (q : ℕ). record next { place = q }) (let q : plus p n ≡ p + n = omega (arith, fits) in q)

    same : repeated reader.once (suc k) c u ≡ repeated reader.once k (placed (p + n) next) after
    same = repeated_more k u c (after, Some (left_of n c)) (once_matches u c o h.under h.upper z refl m.star some stack found) ∙ ap (λ (r : Run). repeated reader.once k r after) left_is

    by : (y : Bool) → nat_lt n d.count ≡ y → Settles e ahead tail total (emphasis fuel atoms ((if y then Delimiters next ∷ [] else []) ++ rest)) (fold reader.run_step (reader.stacked (repeated reader.once k (placed (p + n) next) after)) others).roles
    by true q =
        let l : n < d.count = grind (arith, nat_tests, q) in
        ih.each atoms next rest after others (p + n) k facing (omega arith) closes (omega (arith, wider)) (omega (arith, wider))
    by false q =
        let l : d.count ≤ n = grind (arith, nat_tests, q) in
        let none : d.count - n ≡ 0 = omega arith in
        subst (λ (v : reader.State). Settles e ahead tail total (emphasis fuel atoms rest) (fold reader.run_step v others).roles) (sym (ap reader.stacked (repeated_done k after (placed (p + n) next) none) ∙ stacked_none after (placed (p + n) next) none))
        (ih.all atoms rest after others (facing_none e ahead tail total atoms next rest after others (p + n) facing none) (omega arith))

each_closes : (e : Beside) (ahead tail : List Role) (total fuel : ℕ) → length ahead + total + 1 < 2 ^ 64 → Both e ahead tail total fuel → EachCloses e ahead tail total (suc fuel)
each_closes e ahead tail total fuel room ih done d rest u others p zero m some closes times small = absurd (omega arith)
each_closes e ahead tail total fuel room ih done d rest u others p (suc k) m some closes times small = by (searched e (length ahead) d m.star m.front done u.stack m.held light [] [] [] (none_show e (length ahead + length m.front)) tt)
  where
    light : weight (runs_of done) + d.length < 2 ^ 64
    light = let w : weight (runs_of done) + (d.length + weight (runs_of rest)) < 2 ^ 64 = m.light in omega arith

    by : Search e (length ahead) d (m.front ++ []) (u.stack ++ []) (nearest d [] done) (weight (runs_of done)) → Settles e ahead tail total (emphasis (suc fuel) done (Delimiters d ∷ rest)) (fold reader.run_step (reader.stacked (repeated reader.once (suc k) (placed p d) u)) others).roles
    by (inl h) = closes_one e ahead tail total fuel room ih done d rest u others p k m some closes times small h
    by (inr h) = closes_none e ahead tail total fuel ih.all done d rest u others p k m some closes (omega arith) (h.0) (subst (Missed d (length ahead)) (append-nil u.stack) (h.1))

all_settle : (e : Beside) (ahead tail : List Role) (total fuel : ℕ) → AllSettle e ahead tail total fuel → EachCloses e ahead tail total (suc fuel) → AllSettle e ahead tail total (suc fuel)
all_settle e ahead tail total fuel all each done [] u runs m small =
    subst (λ (xs : List Atom). Settles e ahead tail total xs (fold reader.run_step u runs).roles) (sym (emphasis_end fuel done)) (ends e ahead tail total done u runs m)
all_settle e ahead tail total fuel all each done (Whole i ∷ rest) u runs m small =
    subst (λ (xs : List Atom). Settles e ahead tail total xs (fold reader.run_step u runs).roles) (sym (emphasis_whole fuel done rest i))
    (all (Whole i ∷ done) rest u runs
    (whole_passed e ahead tail total done rest u runs (Whole i) m (m.lead.0) (m.lead.1) (m.lead.2) (m.lead.4) (m.front, (m.lead.0), refl, (m.lead.3), m.held) (omega arith) (omega arith))
    (omega arith))
all_settle e ahead tail total fuel all each done (Opening b ∷ rest) u runs m small =
    subst (λ (xs : List Atom). Settles e ahead tail total xs (fold reader.run_step u runs).roles) (sym (emphasis_opening fuel done rest b))
    (all (Opening b ∷ done) rest u runs
    (whole_passed e ahead tail total done rest u runs (Opening b) m (m.lead.0) (m.lead.1) (m.lead.2) (m.lead.4) (m.front, (m.lead.0), refl, (m.lead.3), m.held) (omega arith) (omega arith))
    (omega arith))
all_settle e ahead tail total fuel all each done (Delimiters d ∷ rest) u runs m small = by d.closes refl
  where
    p : ℕ
    p = length ahead + length m.front

    others : List Run
    others = m.lead.1

    facing : Facing e ahead tail total done d rest u others p
    facing = faced e ahead tail total done d rest u runs m

    some : 0 < d.count
    some = m.lead.4.some

    by : (y : Bool) → d.closes ≡ y → Settles e ahead tail total (emphasis (suc fuel) done (Delimiters d ∷ rest)) (fold reader.run_step u runs).roles
    by true so =
        subst (λ (v : reader.State). Settles e ahead tail total (emphasis (suc fuel) done (Delimiters d ∷ rest)) v.roles) (sym (ap (fold reader.run_step u) (m.lead.3) ∙ kept_closes u (placed p d) others so))
        (each done d rest u others p d.count facing some so (omega arith) (omega arith))
    by false not_so =
        subst (λ (xs : List Atom). Settles e ahead tail total xs (fold reader.run_step u runs).roles) (sym (emphasis_run fuel done rest d not_so))
        (subst (λ (v : reader.State). Settles e ahead tail total (emphasis fuel (Delimiters d ∷ done) rest) v.roles) (sym (ap (fold reader.run_step u) (m.lead.3) ∙ kept_passes u (placed p d) others not_so some))
        (all (Delimiters d ∷ done) rest (record u { stack = with_opener u.stack (placed p d); bottoms = u.bottoms }) others (run_passed e ahead tail total done d rest u others p u.bottoms some facing m.bars m.low) (omega arith)))

both : (e : Beside) (ahead tail : List Role) (total : ℕ) → length ahead + total + 1 < 2 ^ 64 → (fuel : ℕ) → Both e ahead tail total fuel
both e ahead tail total room zero = record {
  all = λ done rest u runs m small. absurd (omega arith);
  each = λ done d rest u others p k m some closes times small. absurd (omega arith);
}
both e ahead tail total room (suc fuel) = of (both e ahead tail total room fuel)
  where
    of : Both e ahead tail total fuel → Both e ahead tail total (suc fuel)
    of ih = record { all = all_settle e ahead tail total fuel ih.all (each_closes e ahead tail total fuel room ih); each = each_closes e ahead tail total fuel room ih }

-- all runs
pub all_matched : (e : Beside) (ahead tail : List Role) (total fuel : ℕ) → length ahead + total + 1 < 2 ^ 64 → (done rest : List Atom) (u : reader.State) (runs : List Run) → Meets e ahead tail total done rest u runs → size rest < fuel → Settles e ahead tail total (emphasis fuel done rest) (fold reader.run_step u runs).roles
all_matched e ahead tail total fuel room = (both e ahead tail total room fuel).all
