-- The first pass over a text of bytes that mean themselves, escapes, references and line feeds.
use Rattle.std.proofs.Common.{◌≡◌, ℕ, zero, suc, ◌+◌, ◌-◌, ◌^◌, ◌<◌, ◌≤◌, Bool, true, false, cond, ◌==◌, ◌&&◌, nat_le, List, [], ◌∷◌, ◌++◌, length, map, replicate, slice_set, Option, Some, None, refl, ap, sym, subst, ◌∙◌, arith, append_assoc, append-nil, length-append}
use Rattle.std.proofs.lemmas.Bool.Decides.{nat_tests}
use Rattle.std.specs.List.{fold}
use Rattle.std.proofs.lemmas.List.Sums.{fold-append}
use Rattle.tocmark_read_scan.specs.Basic.{plus}
use Rattle.tocmark_read_scan.specs.Repeat.{iterated}
use Rattle.tocmark_read_tokens.specs.Reference.{is_escape, reference_at}
use Rattle.tocmark_read_scan.proofs.Repeats.{iterated_stop}
use Rattle.tocmark_read_inlines.specs.Scan as s
use Rattle.tocmark_read_spans.specs.declared.definitions.Entry.{Entry}
use Rattle.tocmark_read_spans.specs.declared.role.Role.{Role}
use Rattle.tocmark_read_spans.specs.declared.role.Role.TheVariants.{Plain, Hidden, Fresh, Single}
use Rattle.tocmark_read_spans.specs.declared.role.Leaf.TheVariants.{Character, SoftBreak}
use Rattle.tocmark_read_scan.specs.PlainParts.{Part, Bare, Escaped, Referred, Feed, spelled_part, spelled}

-- what the bytes of a part are
abbrev pub roles_one : ℕ → Part → List Role
roles_one p (Bare b) = Plain ∷ []
roles_one p (Escaped b) = Hidden ∷ Fresh ∷ []
roles_one p (Referred c bs) = Single (Character c) (p + 1 + length bs) ∷ replicate (length bs) Plain
roles_one p Feed = Single SoftBreak (p + 1) ∷ []

abbrev pub roles : ℕ → List Part → List Role
roles p [] = []
roles p (a ∷ parts) = roles_one p a ++ roles (p + length (spelled_part a)) parts

-- what makes a part be read parts it is meant, at its place in a text
abbrev pub IsReadAt : List ℕ → s.Known → (List ℕ → Option Entry) → ℕ → Part → Type 0
IsReadAt bytes ahead defs p (Bare b) = (t : s.State) → t.place ≡ p → t.resume ≤ p → (r : ℕ) × (r ≤ p + 1) × (s.looked bytes ahead defs b t ≡ record t { resume = r })
IsReadAt bytes ahead defs p (Escaped b) = is_escape bytes p ≡ true
IsReadAt bytes ahead defs p (Referred c bs) = reference_at bytes p ≡ Some (record { character = c; next = p + 1 + length bs })
IsReadAt bytes ahead defs p Feed = (s.before_space bytes p ≡ None) × (0 < length bytes)

abbrev pub AreRead : List ℕ → s.Known → (List ℕ → Option Entry) → ℕ → List Part → Type 0
AreRead bytes ahead defs p [] = Unit {0}
AreRead bytes ahead defs p (a ∷ parts) = IsReadAt bytes ahead defs p a × AreRead bytes ahead defs (p + length (spelled_part a)) parts

pub set_behind : {A : Type 0} (xs ys : List A) (y z : A) (n : ℕ) → n ≡ length xs → slice_set (xs ++ y ∷ ys) n z ≡ xs ++ z ∷ ys
set_behind xs ys y z n e = ap (λ k. slice_set (xs ++ y ∷ ys) k z) e ∙ here xs ys y z
  where
    here : {A : Type 0} (xs ys : List A) (y z : A) → slice_set (xs ++ y ∷ ys) (length xs) z ≡ xs ++ z ∷ ys
    here [] ys y z = refl
    here (x ∷ xs) ys y z = ap (λ l. x ∷ l) (here xs ys y z)

-- a byte at which the pass is taken up again
step_at : (bytes : List ℕ) (ahead : s.Known) (defs : List ℕ → Option Entry) (b : ℕ) (t : s.State) → s.is_mark b ≡ true → t.resume ≤ t.place → s.scan_step bytes ahead defs t b ≡ s.next_place (s.looked bytes ahead defs b t)
unfolding s.scan_step_in s.is_mark_in s.looked_in s.is_tilde_in s.is_caret_in s.is_dollar_in s.is_note_end_in
step_at bytes ahead defs b t mark h =
    let yes : nat_le t.resume t.place ≡ true = grind (arith, nat_tests) in
    rw (mark, yes) refl

-- a byte that is no mark is passed over
step_over : (bytes : List ℕ) (ahead : s.Known) (defs : List ℕ → Option Entry) (b : ℕ) (t : s.State) → s.is_mark b ≡ false → s.scan_step bytes ahead defs t b ≡ s.next_place t
unfolding s.scan_step_in s.is_mark_in s.looked_in s.is_tilde_in s.is_caret_in s.is_dollar_in s.is_note_end_in
step_over bytes ahead defs b t mark = rw mark refl

-- a backslash, an ampersand and a line feed are marks
backslash_marks : s.is_mark 92 ≡ true
unfolding s.is_mark
backslash_marks = refl

ampersand_marks : s.is_mark 38 ≡ true
unfolding s.is_mark
ampersand_marks = refl

feed_marks : s.is_mark 10 ≡ true
unfolding s.is_mark
feed_marks = refl

never : (b : Bool) → b && false ≡ false
never true = refl
never false = refl

-- bytes that are part of what was read already
skipped : (bytes : List ℕ) (ahead : s.Known) (defs : List ℕ → Option Entry) (xs : List ℕ) (t : s.State) → t.place + length xs ≤ t.resume → t.place + length xs < 2 ^ 64 → fold (s.scan_step bytes ahead defs) t xs ≡ record t { place = t.place + length xs }
unfolding s.scan_step_in s.is_mark_in s.looked_in s.is_tilde_in s.is_caret_in s.is_dollar_in s.is_note_end_in
skipped bytes ahead defs [] t h fits = ap (λ p. record t { place = p }) (let q : t.place ≡ t.place + 0 = omega arith in q)
skipped bytes ahead defs (x ∷ xs) t h fits =
    let no : nat_le t.resume t.place ≡ false = grind (arith, nat_tests) in
    let same : plus t.place 1 + length xs ≡ t.place + suc (length xs) = omega arith in
    let one : s.scan_step bytes ahead defs t x ≡ s.next_place t = rw (no, never (s.is_mark x)) refl in
    ap (λ (u : s.State). fold (s.scan_step bytes ahead defs) u xs) one
    ∙ skipped bytes ahead defs xs (s.next_place t) (omega arith) (omega arith)
    ∙ ap (λ p. record t { place = p }) same

looked_escape : (bytes : List ℕ) (ahead : s.Known) (defs : List ℕ → Option Entry) (t : s.State) → is_escape bytes t.place ≡ true → s.looked bytes ahead defs 92 t ≡ record t { roles = slice_set (slice_set t.roles t.place Hidden) (plus t.place 1) Fresh; resume = plus t.place 2 }
unfolding s.looked s.looked_mark s.escaped
looked_escape bytes ahead defs t h = rw h refl

looked_reference : (bytes : List ℕ) (ahead : s.Known) (defs : List ℕ → Option Entry) (t : s.State) (c next : ℕ) → reference_at bytes t.place ≡ Some (record { character = c; next = next }) → s.looked bytes ahead defs 38 t ≡ record t { roles = slice_set t.roles t.place (Single (Character c) next); resume = next }
unfolding s.looked s.looked_mark s.referred s.put_leaf
looked_reference bytes ahead defs t c next h = rw h refl

looked_feed : (bytes : List ℕ) (ahead : s.Known) (defs : List ℕ → Option Entry) (t : s.State) → s.before_space bytes t.place ≡ None → 0 < length bytes → s.looked bytes ahead defs 10 t ≡ record t { roles = slice_set (slice_set t.roles t.place Hidden) t.place (Single SoftBreak (plus t.place 1)) }
unfolding s.looked s.looked_mark s.line_ended
looked_feed bytes ahead defs t h some =
    let here : iterated (s.before_space bytes) (length bytes) t.place ≡ t.place = iterated_stop (s.before_space bytes) (length bytes) t.place some (sym h) in
    let none : nat_le 2 (t.place - t.place) ≡ false = let z : t.place - t.place ≡ 0 = omega arith in rw z refl in
    rw (here, none) refl

-- the pass over one part: its bytes have their roles
abbrev pub Passes : List ℕ → s.Known → (List ℕ → Option Entry) → s.State → List ℕ → List Role → Type 0
Passes bytes ahead defs t xs rs = (r : ℕ) × (r ≤ t.place + length xs) × (fold (s.scan_step bytes ahead defs) t xs ≡ record t { roles = rs; place = t.place + length xs; resume = r })

pass_bare : (bytes : List ℕ) (ahead : s.Known) (defs : List ℕ → Option Entry) (t : s.State) (b : ℕ) (left : List Role) (rs : List Role) → IsReadAt bytes ahead defs t.place (Bare b) → t.resume ≤ t.place → t.place + 1 < 2 ^ 64 → t.roles ≡ rs ++ Plain ∷ left → Passes bytes ahead defs t (b ∷ []) (rs ++ Plain ∷ left)
pass_bare bytes ahead defs t b left rs h before fits e = go (s.is_mark b) refl
  where
    next : plus t.place 1 ≡ t.place + 1
    next = omega arith

    go : (mark : Bool) → s.is_mark b ≡ mark → Passes bytes ahead defs t (b ∷ []) (rs ++ Plain ∷ left)
    go true mark =
        let found = h t refl before in
        (found.0, found.1, step_at bytes ahead defs b t mark before ∙ ap (λ (u : s.State). s.next_place u) (found.2) ∙ ap (λ p. record t { place = p; resume = found.0 }) next ∙ ap (λ (x : List Role). record t { roles = x; place = t.place + 1; resume = found.0 }) e)
    go false mark =
        (t.resume, omega arith, step_over bytes ahead defs b t mark ∙ ap (λ p. record t { place = p }) next ∙ ap (λ (x : List Role). record t { roles = x; place = t.place + 1 }) e)

pass_escaped : (bytes : List ℕ) (ahead : s.Known) (defs : List ℕ → Option Entry) (t : s.State) (b : ℕ) (left : List Role) (rs : List Role) → IsReadAt bytes ahead defs t.place (Escaped b) → t.resume ≤ t.place → t.place + 2 < 2 ^ 64 → length rs ≡ t.place → t.roles ≡ rs ++ Plain ∷ Plain ∷ left → Passes bytes ahead defs t (92 ∷ b ∷ []) (rs ++ Hidden ∷ Fresh ∷ left)
pass_escaped bytes ahead defs t b left rs h before fits n e =
    let next : plus t.place 1 ≡ t.place + 1 = omega arith in
    let last : plus t.place 2 ≡ t.place + 2 = omega arith in
    let two : t.place + 1 + 1 ≡ t.place + 2 = omega arith in
    let longer : t.place + 1 ≡ length (rs ++ Hidden ∷ []) = grind (arith, length-append) in
    let set : slice_set (slice_set t.roles t.place Hidden) (plus t.place 1) Fresh ≡ rs ++ Hidden ∷ Fresh ∷ left =
    ap (λ (x : List Role). slice_set (slice_set x t.place Hidden) (plus t.place 1) Fresh) e
    ∙ ap (λ (x : List Role). slice_set x (plus t.place 1) Fresh) (set_behind rs (Plain ∷ left) Plain Hidden t.place (sym n) ∙ sym (append_assoc rs (Hidden ∷ []) (Plain ∷ left)))
    ∙ ap (λ k. slice_set ((rs ++ Hidden ∷ []) ++ Plain ∷ left) k Fresh) next
    ∙ set_behind (rs ++ Hidden ∷ []) left Plain Fresh (t.place + 1) longer
    ∙ append_assoc rs (Hidden ∷ []) (Fresh ∷ left)
    in
    let u : s.State = record t { roles = rs ++ Hidden ∷ Fresh ∷ left; resume = t.place + 2 } in
    let one : s.scan_step bytes ahead defs t 92 ≡ record u { place = t.place + 1 } =
    step_at bytes ahead defs 92 t backslash_marks before
    ∙ ap (λ (v : s.State). s.next_place v) (looked_escape bytes ahead defs t h)
    ∙ ap (λ (x : List Role). record t { roles = x; resume = plus t.place 2; place = plus t.place 1 }) set
    ∙ ap (λ p. record u { resume = p; place = plus t.place 1 }) last
    ∙ ap (λ p. record u { place = p }) next
    in
    (t.place + 2, omega arith, ap (λ (v : s.State). fold (s.scan_step bytes ahead defs) v (b ∷ [])) one ∙ skipped bytes ahead defs (b ∷ []) (record u { place = t.place + 1 }) (omega arith) (omega arith) ∙ ap (λ p. record u { place = p }) two)

pass_reference : (bytes : List ℕ) (ahead : s.Known) (defs : List ℕ → Option Entry) (t : s.State) (c : ℕ) (xs : List ℕ) (left : List Role) (rs : List Role) → IsReadAt bytes ahead defs t.place (Referred c xs) → t.resume ≤ t.place → t.place + 1 + length xs < 2 ^ 64 → length rs ≡ t.place → t.roles ≡ rs ++ Plain ∷ left → Passes bytes ahead defs t (38 ∷ xs) (rs ++ Single (Character c) (t.place + 1 + length xs) ∷ left)
pass_reference bytes ahead defs t c xs left rs h before fits n e =
    let next : plus t.place 1 ≡ t.place + 1 = omega arith in
    let end : ℕ = t.place + 1 + length xs in
    let same : end ≡ t.place + suc (length xs) = omega arith in
    let u : s.State = record t { roles = rs ++ Single (Character c) end ∷ left; resume = end } in
    let one : s.scan_step bytes ahead defs t 38 ≡ record u { place = t.place + 1 } =
    step_at bytes ahead defs 38 t ampersand_marks before
    ∙ ap (λ (v : s.State). s.next_place v) (looked_reference bytes ahead defs t c end h)
    ∙ ap (λ (x : List Role). record t { roles = x; resume = end; place = plus t.place 1 }) (ap (λ (x : List Role). slice_set x t.place (Single (Character c) end)) e ∙ set_behind rs left Plain (Single (Character c) end) t.place (sym n))
    ∙ ap (λ p. record u { place = p }) next
    in
    (end, omega arith, ap (λ (v : s.State). fold (s.scan_step bytes ahead defs) v xs) one ∙ skipped bytes ahead defs xs (record u { place = t.place + 1 }) (omega arith) (omega arith) ∙ ap (λ p. record u { place = p }) same)

pass_feed : (bytes : List ℕ) (ahead : s.Known) (defs : List ℕ → Option Entry) (t : s.State) (left : List Role) (rs : List Role) → IsReadAt bytes ahead defs t.place Feed → t.resume ≤ t.place → t.place + 1 < 2 ^ 64 → length rs ≡ t.place → t.roles ≡ rs ++ Plain ∷ left → Passes bytes ahead defs t (10 ∷ []) (rs ++ Single SoftBreak (t.place + 1) ∷ left)
pass_feed bytes ahead defs t left rs h before fits n e =
    let next : plus t.place 1 ≡ t.place + 1 = omega arith in
    let set : slice_set (slice_set t.roles t.place Hidden) t.place (Single SoftBreak (plus t.place 1)) ≡ rs ++ Single SoftBreak (t.place + 1) ∷ left =
    ap (λ (x : List Role). slice_set (slice_set x t.place Hidden) t.place (Single SoftBreak (plus t.place 1))) e
    ∙ ap (λ (x : List Role). slice_set x t.place (Single SoftBreak (plus t.place 1))) (set_behind rs left Plain Hidden t.place (sym n))
    ∙ set_behind rs left Hidden (Single SoftBreak (plus t.place 1)) t.place (sym n)
    ∙ ap (λ p. rs ++ Single SoftBreak p ∷ left) next
    in
    (t.resume, omega arith, step_at bytes ahead defs 10 t feed_marks before ∙ ap (λ (u : s.State). s.next_place u) (looked_feed bytes ahead defs t (h.0) (h.1)) ∙ ap (λ (x : List Role). record t { roles = x; place = plus t.place 1 }) set ∙ ap (λ p. record t { roles = rs ++ Single SoftBreak (t.place + 1) ∷ left; place = p }) next)

pass_one : (bytes : List ℕ) (ahead : s.Known) (defs : List ℕ → Option Entry) (t : s.State) (a : Part) (left : List Role) (rs : List Role) → IsReadAt bytes ahead defs t.place a → t.resume ≤ t.place → t.place + length (spelled_part a) < 2 ^ 64 → length rs ≡ t.place → t.roles ≡ rs ++ (replicate (length (spelled_part a)) Plain ++ left) → Passes bytes ahead defs t (spelled_part a) (rs ++ (roles_one t.place a ++ left))
pass_one bytes ahead defs t (Bare b) left rs h before fits n e = pass_bare bytes ahead defs t b left rs h before fits e
pass_one bytes ahead defs t (Escaped b) left rs h before fits n e = pass_escaped bytes ahead defs t b left rs h before fits n e
pass_one bytes ahead defs t (Referred c xs) left rs h before fits n e = pass_reference bytes ahead defs t c xs (replicate (length xs) Plain ++ left) rs h before (omega arith) n e
pass_one bytes ahead defs t Feed left rs h before fits n e = pass_feed bytes ahead defs t left rs h before fits n e

length_plain : (n : ℕ) → length (replicate n Plain) ≡ n
length_plain zero = refl
length_plain (suc n) = ap suc (length_plain n)

length_roles : (p : ℕ) (a : Part) → length (roles_one p a) ≡ length (spelled_part a)
length_roles p (Bare b) = refl
length_roles p (Escaped b) = refl
length_roles p (Referred c xs) = ap suc (length_plain (length xs))
length_roles p Feed = refl

plain_append : (xs ys : List ℕ) → replicate (length (xs ++ ys)) Plain ≡ replicate (length xs) Plain ++ replicate (length ys) Plain
plain_append [] ys = refl
plain_append (x ∷ xs) ys = ap (λ (l : List Role). Plain ∷ l) (plain_append xs ys)

-- the first pass over parts that are read as they are meant
pub scan_parts : (bytes : List ℕ) (ahead : s.Known) (defs : List ℕ → Option Entry) (parts : List Part) (t : s.State) (rs : List Role) → AreRead bytes ahead defs t.place parts → t.resume ≤ t.place → t.place + length (spelled parts) < 2 ^ 64 → length rs ≡ t.place → t.roles ≡ rs ++ replicate (length (spelled parts)) Plain → (r : ℕ) × (fold (s.scan_step bytes ahead defs) t (spelled parts) ≡ record t { roles = rs ++ roles t.place parts; place = t.place + length (spelled parts); resume = r })
scan_parts bytes ahead defs [] t rs h before fits n e =
    let same : t.place ≡ t.place + 0 = omega arith in
    (t.resume, ap (λ p. record t { place = p }) same ∙ ap (λ (x : List Role). record t { roles = x; place = t.place + 0 }) e)
scan_parts bytes ahead defs (a ∷ parts) t rs h before fits n e =
    let width : length (spelled_part a ++ spelled parts) ≡ length (spelled_part a) + length (spelled parts) = length-append (spelled_part a) (spelled parts) in
    let left : List Role = replicate (length (spelled parts)) Plain in
    let one = pass_one bytes ahead defs t a left rs (h.0) before (omega (arith, width, fits)) n (e ∙ ap (λ (x : List Role). rs ++ x) (plain_append (spelled_part a) (spelled parts))) in
    let place : ℕ = t.place + length (spelled_part a) in
    let u : s.State = record t { roles = rs ++ (roles_one t.place a ++ left); place = place; resume = one.0 } in
    let longer : length (rs ++ roles_one t.place a) ≡ place = length-append rs (roles_one t.place a) ∙ ap (λ k. length rs + k) (length_roles t.place a) ∙ ap (λ k. k + length (spelled_part a)) n in
    let more = scan_parts bytes ahead defs parts u (rs ++ roles_one t.place a) (h.1) (one.1) (let q : place + length (spelled parts) < 2 ^ 64 = omega (arith, width, fits) in q) longer (sym (append_assoc rs (roles_one t.place a) left)) in
    let end : place + length (spelled parts) ≡ t.place + length (spelled_part a ++ spelled parts) = omega (arith, width) in (
      more.0,
      fold-append (s.scan_step bytes ahead defs) t (spelled_part a) (spelled parts)
          ∙ ap (λ (v : s.State). fold (s.scan_step bytes ahead defs) v (spelled parts)) (one.2)
          ∙ more.1
          ∙ ap (λ (x : List Role). record u { roles = x; place = place + length (spelled parts); resume = more.0 }) (append_assoc rs (roles_one t.place a) (roles place parts))
          ∙ ap (λ k. record u { roles = rs ++ (roles_one t.place a ++ roles place parts); place = k; resume = more.0 }) end,
    )
