-- The pass over the marks of a text alone, where they are in order, comes to the same as the one over all bytes.
use Rattle.std.proofs.Common.{◌≡◌, ℕ, zero, suc, ◌+◌, ◌-◌, ◌^◌, ◌<◌, ◌≤◌, max, Bool, true, false, ◌&&◌, if◌then◌else◌, nat_lt, nat_le, List, [], ◌∷◌, ◌++◌, length, replicate, slice_set, Option, Some, None, refl, ap, sym, ◌∙◌, arith, append_assoc, length-append}
use native.Mathlib.Numerals.{unary_clauses}
use Rattle.std.proofs.lemmas.Bool.Decides.{nat_tests}
use Rattle.std.proofs.lemmas.Bool.{false≢true}
use Rattle.std.proofs.lemmas.List.{length-replicate}
use Rattle.std.specs.List.{fold}
use Rattle.std.proofs.lemmas.List.Sums.{fold-append}
use Rattle.tocmark_read_scan.specs.Basic.{plus}
use Rattle.tocmark_read_spans.specs.Role.{roles_of, with_mark}
use Rattle.tocmark_read_inlines.specs.Write.{State, pushed, flushed_from, flushed, opened, closed, single, gone_on, texted, shown, next_place, role_step, begun_at, passed, mark_step, is_between, ascend}
use Rattle.tocmark_read_spans.specs.declared.role.MarkedByte.{MarkedByte}
use Rattle.tocmark_read_spans.specs.declared.role.Role.{Role}
use Rattle.tocmark_read_spans.specs.declared.role.Role.TheVariants.{Plain, Fresh, Hidden, Open, Close, Single}
use Rattle.tocmark_read_spans.specs.declared.role.Roles.{Roles}
use Rattle.tocmark_read_inlines.proofs.PlainPasses.{set_behind}

-- a plain byte begins a text or goes on with one
texted_is : (s : State) (o : Option ℕ) → s.text ≡ o → texted s o ≡ record s { text = begun_at s.place o }
texted_is s None e = refl
texted_is s (Some start) e = ap (λ (o : Option ℕ). record s { text = o }) e

begun_twice : (p q : ℕ) (o : Option ℕ) → begun_at p (begun_at q o) ≡ begun_at q o
begun_twice p q None = refl
begun_twice p q (Some start) = refl

either : {A : Type 0} (t : Bool) (x y : A) → x ≡ y → (if t then x else y) ≡ y
either true x y e = e
either false x y e = refl

yes_le : (a b : ℕ) → a ≤ b → nat_le a b ≡ true
yes_le a b h = grind (arith, nat_tests)

no_le : (a b : ℕ) → b < a → nat_le a b ≡ false
no_le a b h = grind (arith, nat_tests)

yes_lt : (a b : ℕ) → a < b → nat_lt a b ≡ true
yes_lt a b h = grind (arith, nat_tests)

no_lt : (a b : ℕ) → b ≤ a → nat_lt a b ≡ false
no_lt a b h = grind (arith, nat_tests)

-- a role doesn't move the pass
flushed_place : (s : State) (o : Option ℕ) → (flushed_from o s).place ≡ s.place
unfolding pushed
flushed_place s None = refl
flushed_place s (Some start) = refl

texted_place : (s : State) (o : Option ℕ) → (texted s o).place ≡ s.place
texted_place s None = refl
texted_place s (Some start) = refl

shown_place : (r : Role) (s : State) → (shown r s).place ≡ s.place
unfolding shown flushed opened closed single pushed
shown_place Plain s = texted_place s s.text
shown_place Fresh s = flushed_place s s.text
shown_place Hidden s = flushed_place s s.text
shown_place (Open span end) s = flushed_place s s.text
shown_place (Close end) s = flushed_place s s.text
shown_place (Single leaf end) s = flushed_place s s.text

placed : (s : State) (r : Role) → (role_step s r).place ≡ plus s.place 1
unfolding role_step
placed s r = by_resume (nat_le s.resume s.place)
  where
    by_resume : (t : Bool) → (next_place (if t then shown r s else s)).place ≡ plus s.place 1
    by_resume true = ap (λ p. plus p 1) (shown_place r s)
    by_resume false = refl

passed_place : (end : ℕ) (s : State) → (passed end s).place ≡ end
unfolding passed
passed_place end s = refl

mark_place : (u : State) (k : MarkedByte) → (mark_step u k).place ≡ plus k.place 1
unfolding mark_step
mark_place u k = placed (passed k.place u) k.role ∙ ap (λ i. plus i 1) (passed_place k.place u)

-- one plain byte, and then more up to a place
plain_more : (s : State) (end : ℕ) → s.place < end → end < 2 ^ 64 → passed end (role_step s Plain) ≡ passed end s
unfolding passed role_step shown
plain_more s end h fits = by_resume (nat_le s.resume s.place) refl
  where
    next : plus s.place 1 ≡ s.place + 1
    next = omega arith

    by_resume : (t : Bool) → nat_le s.resume s.place ≡ t → passed end (next_place (if t then shown Plain s else s)) ≡ passed end s
    by_resume true e =
        let at : s.resume ≤ s.place = grind (arith, nat_tests) in
        let front : max s.resume s.place ≡ s.place = omega arith in
        let some : nat_lt s.place end ≡ true = yes_lt s.place end h in
        let text : Option ℕ = begun_at s.place s.text in
        let went : gone_on s ≡ record s { text = text } = texted_is s s.text refl in
        ap (λ (u : State). passed end (next_place u)) went
        ∙ ap (λ (o : Option ℕ). (record s { text = o; place = end })) (either (nat_lt (max s.resume (plus s.place 1)) end) (begun_at (max s.resume (plus s.place 1)) text) text (begun_twice (max s.resume (plus s.place 1)) s.place s.text))
        ∙ rw (front, some) refl
    by_resume false e =
        let above : s.place < s.resume = grind (arith, nat_tests) in
        let same : max s.resume (plus s.place 1) ≡ max s.resume s.place = omega (arith, next) in
        ap (λ p. (record s { text = if nat_lt p end then begun_at p s.text else s.text; place = end })) same

-- a pass to the place where it is changes nothing
pub passed_here : (s : State) (end : ℕ) → s.place ≡ end → s ≡ passed end s
unfolding passed
passed_here s end at =
    let none : nat_lt (max s.resume s.place) end ≡ false = no_lt (max s.resume s.place) end (omega (arith, at)) in
    ap (λ i. record s { place = i }) at ∙ rw none refl

-- the text that is open after plain bytes from one place to another
abbrev text_from : ℕ → ℕ → Option ℕ → Option ℕ
text_from from end o = if nat_lt from end then begun_at from o else o

text_on : (resume place k n : ℕ) (o : Option ℕ) → place ≤ k → k ≤ n → text_from (max resume k) n (text_from (max resume place) k o) ≡ text_from (max resume place) n o
text_on resume place k n o low high = by_gap (nat_lt (max resume place) k) refl
  where
    by_gap : (t : Bool) → nat_lt (max resume place) k ≡ t → text_from (max resume k) n (if t then begun_at (max resume place) o else o) ≡ text_from (max resume place) n o
    by_gap true e =
        let near : max resume place < k = grind (arith, nat_tests) in
        let far : nat_lt (max resume place) n ≡ true = yes_lt (max resume place) n (omega (arith, near, high)) in
        either (nat_lt (max resume k) n) (begun_at (max resume k) (begun_at (max resume place) o)) (begun_at (max resume place) o) (begun_twice (max resume k) (max resume place) o)
        ∙ rw far refl
    by_gap false e =
        let at : k ≤ max resume place = grind (arith, nat_tests) in
        let same : max resume k ≡ max resume place = omega (arith, at, low) in
        ap (λ f. text_from f n o) same

-- a pass to a place and on is one pass
passed_on : (s : State) (k n : ℕ) → s.place ≤ k → k ≤ n → passed n (passed k s) ≡ passed n s
unfolding passed
passed_on s k n low high = ap (λ (o : Option ℕ). record s { text = o; place = n }) (text_on s.resume s.place k n s.text low high)

-- a plain byte that is passed later on
pub plain_next : (s : State) (k : ℕ) → s.place ≤ k → k + 1 < 2 ^ 64 → passed (k + 1) s ≡ role_step (passed k s) Plain
plain_next s k low fits =
    let here : (passed k s).place ≡ k = passed_place k s in
    let one : plus k 1 ≡ k + 1 = omega (arith, fits) in
    let there : (role_step (passed k s) Plain).place ≡ k + 1 = placed (passed k s) Plain ∙ ap (λ p. plus p 1) here ∙ one in
    sym (passed_here (role_step (passed k s) Plain) (k + 1) there
    ∙ plain_more (passed k s) (k + 1) (omega (arith, here)) fits
    ∙ passed_on s k (k + 1) low (omega arith))

-- a byte that has a mark
pub mark_taken : (t s : State) (k : ℕ) (q r : Role) → q ≡ r → k + 1 < 2 ^ 64 → t ≡ mark_step s (record { place = k; role = q }) → passed (k + 1) t ≡ role_step (passed k s) r
unfolding mark_step
mark_taken t s k q r e fits h =
    let one : plus k 1 ≡ k + 1 = omega (arith, fits) in
    let there : (role_step (passed k s) q).place ≡ k + 1 = placed (passed k s) q ∙ ap (λ p. plus p 1) (passed_place k s) ∙ one in
    ap (passed (k + 1)) h
    ∙ sym (passed_here (role_step (passed k s) q) (k + 1) there)
    ∙ ap (role_step (passed k s)) e

pub mark_reached : (t s : State) (k : ℕ) (q : Role) → k + 1 < 2 ^ 64 → t ≡ mark_step s (record { place = k; role = q }) → t.place ≤ k + 1
mark_reached t s k q fits h =
    let one : plus k 1 ≡ k + 1 = omega (arith, fits) in
    let there : t.place ≡ k + 1 = ap (λ (u : State). u.place) h ∙ mark_place s (record { place = k; role = q }) ∙ one in
    omega (arith, there)

-- plain bytes up to a place
pub plain_fold : (n : ℕ) (s : State) → s.place + n < 2 ^ 64 → fold role_step s (replicate n Plain) ≡ passed (s.place + n) s
unfolding passed role_step shown
plain_fold zero s fits =
    let none : nat_lt (max s.resume s.place) (s.place + 0) ≡ false = no_lt (max s.resume s.place) (s.place + 0) (omega arith) in
    let same : s.place ≡ s.place + 0 = omega arith in
    ap (λ p. record s { place = p }) same ∙ rw none refl
plain_fold (suc n) s fits =
    let stepped : (role_step s Plain).place ≡ s.place + 1 = placed s Plain ∙ (let q : plus s.place 1 ≡ s.place + 1 = omega arith in q) in
    let end : (role_step s Plain).place + n ≡ s.place + suc n = omega (arith, stepped) in
    plain_fold n (role_step s Plain) (omega (arith, stepped, fits))
    ∙ ap (λ p. passed p (role_step s Plain)) end
    ∙ plain_more s (s.place + suc n) (omega arith) fits

-- plain bytes, one byte that gets a role, and plain bytes
cut_plain : (j k : ℕ) → replicate (suc j + k) Plain ≡ replicate k Plain ++ Plain ∷ replicate j Plain
cut_plain j zero = simp unary_clauses refl
cut_plain j (suc k) = simp unary_clauses (ap (λ (l : List Role). Plain ∷ l) (cut_plain j k))

marked_plain : (rs : List Role) (from end : ℕ) (m : MarkedByte) → length rs ≡ from → from ≤ m.place → m.place < end → with_mark (rs ++ replicate (end - from) Plain) m ≡ (rs ++ (replicate (m.place - from) Plain ++ m.role ∷ [])) ++ replicate (end - (m.place + 1)) Plain
marked_plain rs from end m n h k =
    let wide : ℕ = m.place - from in
    let left : ℕ = end - (m.place + 1) in
    let all : end - from ≡ suc left + wide = omega arith in
    let front : List Role = rs ++ replicate wide Plain in
    let long : m.place ≡ length front = let w : length (replicate wide Plain) ≡ wide = length-replicate wide Plain in let a : length front ≡ length rs + length (replicate wide Plain) = length-append rs (replicate wide Plain) in omega (arith, w, a, n, h) in
    ap (λ i. slice_set (rs ++ replicate i Plain) m.place m.role) all
    ∙ ap (λ (l : List Role). slice_set (rs ++ l) m.place m.role) (cut_plain left wide)
    ∙ ap (λ (l : List Role). slice_set l m.place m.role) (sym (append_assoc rs (replicate wide Plain) (Plain ∷ replicate left Plain)))
    ∙ set_behind front (replicate left Plain) Plain m.role m.place long
    ∙ rw (append_assoc rs (replicate wide Plain) (m.role ∷ replicate left Plain), append_assoc rs (replicate wide Plain ++ m.role ∷ []) (replicate left Plain), append_assoc (replicate wide Plain) (m.role ∷ []) (replicate left Plain)) refl

both : (a b : Bool) → (a && b) ≡ true → (a ≡ true) × (b ≡ true)
both true b h = (refl, h)
both false b h = absurd (false≢true h)

-- what is known of a mark in order
record IsNext (m : MarkedByte) (from end : ℕ) : Type 0 where
  from_on : from ≤ m.place
  before : m.place < end

next_from : (m : MarkedByte) (from end : ℕ) → is_between m from end ≡ true → IsNext m from end
unfolding is_between
next_from m from end h =
    let p = both (nat_le from m.place) (nat_lt m.place end) h in
    let low : nat_le from m.place ≡ true = p.0 in
    let high : nat_lt m.place end ≡ true = p.1 in
    record { from_on = at_most from m.place low; before = below m.place end high }
  where
    at_most : (a b : ℕ) → nat_le a b ≡ true → a ≤ b
    at_most a b e = grind (arith, nat_tests)

    below : (a b : ℕ) → nat_lt a b ≡ true → a < b
    below a b e = grind (arith, nat_tests)

-- the step to a mark is that over the plain bytes before it and its own
marked_step : (s t : State) (rs : List Role) (from : ℕ) (m : MarkedByte) → fold role_step s rs ≡ t → t.place ≡ from → from ≤ m.place → m.place < 2 ^ 64 → fold role_step s (rs ++ (replicate (m.place - from) Plain ++ m.role ∷ [])) ≡ mark_step t m
unfolding mark_step
marked_step s t rs from m e at h fits =
    let wide : ℕ = m.place - from in
    let there : t.place + wide ≡ m.place = omega (arith, at, h) in
    fold-append role_step s rs (replicate wide Plain ++ m.role ∷ [])
    ∙ ap (λ (u : State). fold role_step u (replicate wide Plain ++ m.role ∷ [])) e
    ∙ fold-append role_step t (replicate wide Plain) (m.role ∷ [])
    ∙ ap (λ (u : State). role_step u m.role) (plain_fold wide t (omega (arith, there, fits)) ∙ ap (λ p. passed p t) there)

-- marks in order, over a text of which so much is read
marks_fold : (marks : List MarkedByte) (from end : ℕ) (rs : List Role) (s t : State) → ascend from end marks ≡ true → end < 2 ^ 64 → from ≤ end → length rs ≡ from → fold role_step s rs ≡ t → t.place ≡ from → fold role_step s (fold with_mark (rs ++ replicate (end - from) Plain) marks) ≡ passed end (fold mark_step t marks)
marks_fold [] from end rs s t h fits within n e at =
    let there : t.place + (end - from) ≡ end = omega (arith, at, within) in
    fold-append role_step s rs (replicate (end - from) Plain)
    ∙ ap (λ (u : State). fold role_step u (replicate (end - from) Plain)) e
    ∙ plain_fold (end - from) t (omega (arith, there, fits))
    ∙ ap (λ p. passed p t) there
marks_fold (m ∷ ms) from end rs s t h fits within n e at =
    let p = both (is_between m from end) (ascend (plus m.place 1) end ms) h in
    let next = next_from m from end (p.0) in
    let low : from ≤ m.place = next.from_on in
    let high : m.place < end = next.before in
    let one : plus m.place 1 ≡ m.place + 1 = omega (arith, high, fits) in
    let wide : ℕ = m.place - from in
    let front : List Role = rs ++ (replicate wide Plain ++ m.role ∷ []) in
    let more : ascend (m.place + 1) end ms ≡ true = ap (λ i. ascend i end ms) (sym one) ∙ p.1 in
    let long : length front ≡ m.place + 1 = lengths rs wide m.role m.place (omega (arith, n, low)) in
    let moved : (mark_step t m).place ≡ m.place + 1 = mark_place t m ∙ one in
    ap (λ (l : List Role). fold role_step s (fold with_mark l ms)) (marked_plain rs from end m n low high)
    ∙ marks_fold ms (m.place + 1) end front s (mark_step t m) more fits (omega (arith, high)) long (marked_step s t rs from m e at low (omega (arith, high, fits))) moved
  where
    lengths : (xs : List Role) (k : ℕ) (r : Role) (p : ℕ) → length xs + k ≡ p → length (xs ++ (replicate k Plain ++ r ∷ [])) ≡ p + 1
    lengths xs k r p q =
        let a : length (xs ++ (replicate k Plain ++ r ∷ [])) ≡ length xs + length (replicate k Plain ++ r ∷ []) = length-append xs (replicate k Plain ++ r ∷ []) in
        let b : length (replicate k Plain ++ r ∷ []) ≡ length (replicate k Plain) + 1 = length-append (replicate k Plain) (r ∷ []) in
        let c : length (replicate k Plain) ≡ k = length-replicate k Plain in
        omega (arith, a, b, c, q)

-- the pass over marks in order
pub in_order : (r : Roles) (s : State) → s.place ≡ 0 → ascend 0 r.length r.marks.items ≡ true → r.length < 2 ^ 64 → passed r.length (fold mark_step s r.marks.items) ≡ fold role_step s (roles_of r)
in_order r s front h fits =
    let all : r.length - 0 ≡ r.length = omega arith in
    sym (ap (λ i. fold role_step s (fold with_mark (replicate i Plain) r.marks.items)) (sym all)
    ∙ marks_fold r.marks.items 0 r.length [] s s h fits (omega arith) refl refl front)
