-- The first pass over plain parts where all names of character references are known: `&amp;` is kept as a text.
use Rattle.std.proofs.Common.{◌≡◌, ◌⊎◌, inl, inr, ℕ, zero, suc, ◌+◌, ◌-◌, ◌^◌, ◌<◌, ◌≤◌, Bool, true, false, ◌==◌, ◌&&◌, nat_le, List, [], ◌∷◌, ◌++◌, length, map, drop, replicate, slice_set, Option, Some, None, refl, ap, sym, subst, ◌∙◌, arith, append_assoc, append-nil, length-append}
use Rattle.std.proofs.lemmas.Bool.Decides.{nat_tests}
use Rattle.std.proofs.lemmas.List.Sums.{fold-append, take_while-cons}
use Rattle.std.specs.Prelude.{take_while}
use Rattle.std.specs.List.{fold}
use Rattle.tocmark_read_scan.specs.Basic.{plus, byte_at}
use Rattle.tocmark_read_scan.specs.Class.{is_in, run_end}
use Rattle.tocmark_read_scan.specs.Content as content
use Rattle.tocmark_read_scan.specs.PlainParts.{Part, Bare, Escaped, Referred, Feed, spelled, last_byte}
use Rattle.tocmark_read_scan.specs.Repeat.{iterated}
use Rattle.tocmark_read_scan.specs.declared.class.Class.TheVariants.{TagName}
use Rattle.tocmark_read_scan.proofs.PlainPlaces.{drop_at, byte_front}
use Rattle.tocmark_read_scan.proofs.Repeats.{iterated_stop}
use Rattle.tocmark_read_tokens.specs.Name.{Named, name_at, name_end, named}
use Rattle.tocmark_read_tokens.specs.Reference.{is_escape, reference_at}
use Rattle.tocmark_read_spans.specs.Emphasis.{emphasized}
use Rattle.tocmark_read_spans.specs.declared.definitions.Entry.{Entry}
use Rattle.tocmark_read_spans.specs.declared.role.Leaf.{Leaf}
use Rattle.tocmark_read_spans.specs.declared.role.Leaf.TheVariants.{Character, SoftBreak, Text}
use Rattle.tocmark_read_spans.specs.declared.role.Role.{Role}
use Rattle.tocmark_read_spans.specs.declared.role.Role.TheVariants.{Plain, Hidden, Fresh, Single}
use Rattle.tocmark_read_inlines.specs.Inlines as inlines
use Rattle.tocmark_read_inlines.specs.Inlines.{scan_start}
use Rattle.tocmark_read_inlines.specs.Scan as s
use Rattle.tocmark_read_inlines.specs.Write as w
use Rattle.tocmark_read_inlines.proofs.PlainNeighbours.{ArePlainParts, IsPlainByte, plain_parts_are_read}
use Rattle.tocmark_read_inlines.proofs.PlainPasses.{IsReadAt, AreRead, set_behind}
use Rattle.tocmark_inline_laws.specs.Said.{commonmark}
use Rattle.tocmark_read_back_laws.proofs.Tokens.{amp_name}

-- what a reference to a character is kept as, after these texts: an ampersand is known by its name
abbrev pub kept_leaf : Bool → List ℕ → ℕ → Leaf
kept_leaf true texts c = Text (record { start = length texts; end = length (texts ++ 38 ∷ []) })
kept_leaf false texts c = Character c

-- the text that is kept of it
abbrev pub kept_text : Bool → List ℕ
kept_text true = 38 ∷ []
kept_text false = []

-- the texts that are kept of parts
abbrev pub kept_texts : List Part → List ℕ
kept_texts [] = []
kept_texts (Bare b ∷ parts) = kept_texts parts
kept_texts (Escaped b ∷ parts) = kept_texts parts
kept_texts (Referred c bs ∷ parts) = kept_text (c == 38) ++ kept_texts parts
kept_texts (Feed ∷ parts) = kept_texts parts

-- what the bytes of parts are, after these texts
abbrev pub named_roles : List ℕ → ℕ → List Part → List Role
named_roles texts p [] = []
named_roles texts p (Bare b ∷ parts) = Plain ∷ named_roles texts (p + 1) parts
named_roles texts p (Escaped b ∷ parts) = Hidden ∷ Fresh ∷ named_roles texts (p + 2) parts
named_roles texts p (Referred c bs ∷ parts) =
    Single (kept_leaf (c == 38) texts c) (p + 1 + length bs) ∷ (replicate (length bs) Plain ++ named_roles (texts ++ kept_text (c == 38)) (p + suc (length bs)) parts)
named_roles texts p (Feed ∷ parts) = Single SoftBreak (p + 1) ∷ named_roles texts (p + 1) parts

-- the pass at another place, with these roles and texts
abbrev at : s.State → List Role → ℕ → ℕ → List ℕ → s.State
at t roles place resume texts = record t { roles = roles; place = place; resume = resume; texts = texts }

-- one byte further
abbrev step : List ℕ → s.Known → (List ℕ → Option Entry) → s.State → ℕ → s.State
step bytes ahead defs = s.scan_step_in commonmark bytes ahead defs

-- a byte at which the pass is taken up again
step_at : (bytes : List ℕ) (ahead : s.Known) (defs : List ℕ → Option Entry) (b : ℕ) (t : s.State) → s.is_mark b ≡ true → t.resume ≤ t.place → step bytes ahead defs t b ≡ s.next_place (s.looked_all bytes ahead defs b t)
unfolding s.scan_step_in s.is_mark_in s.looked_in s.is_tilde_in s.is_caret_in s.is_dollar_in s.is_note_end_in
step_at bytes ahead defs b t mark h =
    let yes : nat_le t.resume t.place ≡ true = grind (arith, nat_tests) in
    rw (mark, yes) refl

-- a byte that is no mark is passed over
step_over : (bytes : List ℕ) (ahead : s.Known) (defs : List ℕ → Option Entry) (b : ℕ) (t : s.State) → s.is_mark b ≡ false → step bytes ahead defs t b ≡ s.next_place t
unfolding s.scan_step_in s.is_mark_in s.looked_in s.is_tilde_in s.is_caret_in s.is_dollar_in s.is_note_end_in
step_over bytes ahead defs b t mark = rw mark refl

-- the names change nothing but ampersands and closing brackets
looked_other : (bytes : List ℕ) (ahead : s.Known) (defs : List ℕ → Option Entry) (b : ℕ) (t : s.State) → (b == 38) ≡ false → (b == 93) ≡ false → s.looked_all bytes ahead defs b t ≡ s.looked bytes ahead defs b t
unfolding s.looked_all
looked_other bytes ahead defs b t amp close = rw (amp, close) refl

never : (b : Bool) → b && false ≡ false
never true = refl
never false = refl

-- bytes that are part of what was read already
skipped : (bytes : List ℕ) (ahead : s.Known) (defs : List ℕ → Option Entry) (xs : List ℕ) (t : s.State) → t.place + length xs ≤ t.resume → t.place + length xs < 2 ^ 64 → fold (step bytes ahead defs) t xs ≡ record t { place = t.place + length xs }
unfolding s.scan_step_in s.is_mark_in s.looked_in s.is_tilde_in s.is_caret_in s.is_dollar_in s.is_note_end_in
skipped bytes ahead defs [] t h fits = ap (λ p. record t { place = p }) (let q : t.place ≡ t.place + 0 = omega arith in q)
skipped bytes ahead defs (x ∷ xs) t h fits =
    let no : nat_le t.resume t.place ≡ false = grind (arith, nat_tests) in
    let same : plus t.place 1 + length xs ≡ t.place + suc (length xs) = omega arith in
    let one : step bytes ahead defs t x ≡ s.next_place t = rw (no, never (s.is_mark x)) refl in
    ap (λ (u : s.State). fold (step bytes ahead defs) u xs) one
    ∙ skipped bytes ahead defs xs (s.next_place t) (omega arith) (omega arith)
    ∙ ap (λ p. record t { place = p }) same

-- marks

backslash_marks : s.is_mark 92 ≡ true
unfolding s.is_mark
backslash_marks = refl

ampersand_marks : s.is_mark 38 ≡ true
unfolding s.is_mark
ampersand_marks = refl

feed_marks : s.is_mark 10 ≡ true
unfolding s.is_mark
feed_marks = refl

looked_escape : (bytes : List ℕ) (ahead : s.Known) (defs : List ℕ → Option Entry) (t : s.State) → is_escape bytes t.place ≡ true → s.looked_all bytes ahead defs 92 t ≡ record t { roles = slice_set (slice_set t.roles t.place Hidden) (plus t.place 1) Fresh; resume = plus t.place 2 }
unfolding s.looked_all s.looked s.looked_mark s.escaped
looked_escape bytes ahead defs t h = rw h refl

looked_feed : (bytes : List ℕ) (ahead : s.Known) (defs : List ℕ → Option Entry) (t : s.State) → s.before_space bytes t.place ≡ None → 0 < length bytes → s.looked_all bytes ahead defs 10 t ≡ record t { roles = slice_set (slice_set t.roles t.place Hidden) t.place (Single SoftBreak (plus t.place 1)) }
unfolding s.looked_all s.looked s.looked_mark s.line_ended
looked_feed bytes ahead defs t h some =
    let here : iterated (s.before_space bytes) (length bytes) t.place ≡ t.place = iterated_stop (s.before_space bytes) (length bytes) t.place some (sym h) in
    let none : nat_le 2 (t.place - t.place) ≡ false = let z : t.place - t.place ≡ 0 = omega arith in rw z refl in
    rw (here, none) refl

-- an ampersand by its name, and a space by its number
abbrev IsKnown : List ℕ → ℕ → ℕ → ℕ → Type 0
IsKnown bytes p c end = ((c ≡ 38) × (named bytes p ≡ Some (record { characters = 38 ∷ []; next = end }))) ⊎ (((c == 38) ≡ false) × (named bytes p ≡ None) × (reference_at bytes p ≡ Some (record { character = c; next = end })))

looked_named : (bytes : List ℕ) (ahead : s.Known) (defs : List ℕ → Option Entry) (t : s.State) (end : ℕ) → named bytes t.place ≡ Some (record { characters = 38 ∷ []; next = end }) → s.looked_all bytes ahead defs 38 t ≡ at t (slice_set t.roles t.place (Single (kept_leaf true t.texts 38) end)) t.place end (t.texts ++ 38 ∷ [])
unfolding s.looked_all s.named_taken s.name_put s.kept s.put_leaf
looked_named bytes ahead defs t end h = rw h refl

looked_numbered : (bytes : List ℕ) (ahead : s.Known) (defs : List ℕ → Option Entry) (t : s.State) (c end : ℕ) → named bytes t.place ≡ None → reference_at bytes t.place ≡ Some (record { character = c; next = end }) → s.looked_all bytes ahead defs 38 t ≡ record t { roles = slice_set t.roles t.place (Single (Character c) end); resume = end }
unfolding s.looked_all s.named_taken s.referred s.put_leaf
looked_numbered bytes ahead defs t c end h k = rw (h, k) refl

looked_known : (bytes : List ℕ) (ahead : s.Known) (defs : List ℕ → Option Entry) (t : s.State) (c end : ℕ) → IsKnown bytes t.place c end → s.looked_all bytes ahead defs 38 t ≡ at t (slice_set t.roles t.place (Single (kept_leaf (c == 38) t.texts c) end)) t.place end (t.texts ++ kept_text (c == 38))
looked_known bytes ahead defs t c end (inl h) =
    looked_named bytes ahead defs t end (h.1)
    ∙ ap (λ x. at t (slice_set t.roles t.place (Single (kept_leaf (x == 38) t.texts x) end)) t.place end (t.texts ++ kept_text (x == 38))) (sym (h.0))
looked_known bytes ahead defs t c end (inr h) =
    looked_numbered bytes ahead defs t c end (h.1) (h.2)
    ∙ ap (λ (x : List ℕ). at t (slice_set t.roles t.place (Single (Character c) end)) t.place end x) (sym (append-nil t.texts))
    ∙ ap (λ x. at t (slice_set t.roles t.place (Single (kept_leaf x t.texts c) end)) t.place end (t.texts ++ kept_text x)) (sym (h.0))

-- the pass over some bytes: they have these roles, and these texts are kept
record Passes (bytes : List ℕ) (ahead : s.Known) (defs : List ℕ → Option Entry) (t : s.State) (xs : List ℕ) (rs : List Role) (all : List ℕ) : Type 0 where
  next : ℕ
  before : next ≤ t.place + length xs
  is : fold (step bytes ahead defs) t xs ≡ at t rs (t.place + length xs) next all

pass_bare : (bytes : List ℕ) (ahead : s.Known) (defs : List ℕ → Option Entry) (t : s.State) (b : ℕ) (left : List Role) (rs : List Role) → IsReadAt bytes ahead defs t.place (Bare b) → (b == 38) ≡ false → (b == 93) ≡ false → t.resume ≤ t.place → t.place + 1 < 2 ^ 64 → t.roles ≡ rs ++ Plain ∷ left → Passes bytes ahead defs t (b ∷ []) (rs ++ Plain ∷ left) t.texts
pass_bare bytes ahead defs t b left rs h amp close before fits e = go (s.is_mark b) refl
  where
    next : plus t.place 1 ≡ t.place + 1
    next = omega arith

    go : (mark : Bool) → s.is_mark b ≡ mark → Passes bytes ahead defs t (b ∷ []) (rs ++ Plain ∷ left) t.texts
    go true mark =
        let found = h t refl before in record {
          next = found.0;
          before = found.1;
          is =
              step_at bytes ahead defs b t mark before
              ∙ ap (λ (u : s.State). s.next_place u) (looked_other bytes ahead defs b t amp close ∙ found.2)
              ∙ ap (λ p. record t { place = p; resume = found.0 }) next
              ∙ ap (λ (x : List Role). record t { roles = x; place = t.place + 1; resume = found.0 }) e;
        }
    go false mark = record {
      next = t.resume;
      before = omega arith;
      is = step_over bytes ahead defs b t mark ∙ ap (λ p. record t { place = p }) next ∙ ap (λ (x : List Role). record t { roles = x; place = t.place + 1 }) e;
    }

pass_escaped : (bytes : List ℕ) (ahead : s.Known) (defs : List ℕ → Option Entry) (t : s.State) (b : ℕ) (left : List Role) (rs : List Role) → is_escape bytes t.place ≡ true → t.resume ≤ t.place → t.place + 2 < 2 ^ 64 → length rs ≡ t.place → t.roles ≡ rs ++ Plain ∷ Plain ∷ left → Passes bytes ahead defs t (92 ∷ b ∷ []) (rs ++ Hidden ∷ Fresh ∷ left) t.texts
pass_escaped bytes ahead defs t b left rs h before fits n e =
    let next : plus t.place 1 ≡ t.place + 1 = omega arith in
    let last : plus t.place 2 ≡ t.place + 2 = omega arith in
    let two : t.place + 1 + 1 ≡ t.place + 2 = omega arith in
    let longer : t.place + 1 ≡ length (rs ++ Hidden ∷ []) = grind (arith, length-append) in
    let set : slice_set (slice_set t.roles t.place Hidden) (plus t.place 1) Fresh ≡ rs ++ Hidden ∷ Fresh ∷ left =
    ap (λ (x : List Role). slice_set (slice_set x t.place Hidden) (plus t.place 1) Fresh) e
    ∙ ap (λ (x : List Role). slice_set x (plus t.place 1) Fresh) (set_behind rs (Plain ∷ left) Plain Hidden t.place (sym n) ∙ sym (append_assoc rs (Hidden ∷ []) (Plain ∷ left)))
    ∙ ap (λ k. slice_set ((rs ++ Hidden ∷ []) ++ Plain ∷ left) k Fresh) next
    ∙ set_behind (rs ++ Hidden ∷ []) left Plain Fresh (t.place + 1) longer
    ∙ append_assoc rs (Hidden ∷ []) (Fresh ∷ left)
    in
    let u : s.State = record t { roles = rs ++ Hidden ∷ Fresh ∷ left; resume = t.place + 2 } in
    let one : step bytes ahead defs t 92 ≡ record u { place = t.place + 1 } =
    step_at bytes ahead defs 92 t backslash_marks before
    ∙ ap (λ (v : s.State). s.next_place v) (looked_escape bytes ahead defs t h)
    ∙ ap (λ (x : List Role). record t { roles = x; resume = plus t.place 2; place = plus t.place 1 }) set
    ∙ ap (λ p. record u { resume = p; place = plus t.place 1 }) last
    ∙ ap (λ p. record u { place = p }) next
    in record {
      next = t.place + 2;
      before = omega arith;
      is =
          ap (λ (v : s.State). fold (step bytes ahead defs) v (b ∷ [])) one
          ∙ skipped bytes ahead defs (b ∷ []) (record u { place = t.place + 1 }) (omega arith) (omega arith)
          ∙ ap (λ p. record u { place = p }) two;
    }

pass_referred : (bytes : List ℕ) (ahead : s.Known) (defs : List ℕ → Option Entry) (t : s.State) (c : ℕ) (xs : List ℕ) (left : List Role) (rs : List Role) → IsKnown bytes t.place c (t.place + 1 + length xs) → t.resume ≤ t.place → t.place + 1 + length xs < 2 ^ 64 → length rs ≡ t.place → t.roles ≡ rs ++ Plain ∷ left
    → Passes bytes ahead defs t (38 ∷ xs) (rs ++ Single (kept_leaf (c == 38) t.texts c) (t.place + 1 + length xs) ∷ left) (t.texts ++ kept_text (c == 38))
pass_referred bytes ahead defs t c xs left rs h before fits n e =
    let next : plus t.place 1 ≡ t.place + 1 = omega arith in
    let end : ℕ = t.place + 1 + length xs in
    let same : end ≡ t.place + suc (length xs) = omega arith in
    let one_leaf : Leaf = kept_leaf (c == 38) t.texts c in
    let all : List ℕ = t.texts ++ kept_text (c == 38) in
    let made : List Role = rs ++ Single one_leaf end ∷ left in
    let one : step bytes ahead defs t 38 ≡ at t made (t.place + 1) end all =
    step_at bytes ahead defs 38 t ampersand_marks before
    ∙ ap (λ (v : s.State). s.next_place v) (looked_known bytes ahead defs t c end h)
    ∙ ap (λ (x : List Role). at t x (plus t.place 1) end all) (ap (λ (x : List Role). slice_set x t.place (Single one_leaf end)) e ∙ set_behind rs left Plain (Single one_leaf end) t.place (sym n))
    ∙ ap (λ p. at t made p end all) next
    in record {
      next = end;
      before = omega arith;
      is =
          ap (λ (v : s.State). fold (step bytes ahead defs) v xs) one
          ∙ skipped bytes ahead defs xs (at t made (t.place + 1) end all) (omega arith) (omega arith)
          ∙ ap (λ p. at t made p end all) same;
    }

pass_feed : (bytes : List ℕ) (ahead : s.Known) (defs : List ℕ → Option Entry) (t : s.State) (left : List Role) (rs : List Role) → IsReadAt bytes ahead defs t.place Feed → t.resume ≤ t.place → t.place + 1 < 2 ^ 64 → length rs ≡ t.place → t.roles ≡ rs ++ Plain ∷ left → Passes bytes ahead defs t (10 ∷ []) (rs ++ Single SoftBreak (t.place + 1) ∷ left) t.texts
pass_feed bytes ahead defs t left rs h before fits n e =
    let next : plus t.place 1 ≡ t.place + 1 = omega arith in
    let set : slice_set (slice_set t.roles t.place Hidden) t.place (Single SoftBreak (plus t.place 1)) ≡ rs ++ Single SoftBreak (t.place + 1) ∷ left =
    ap (λ (x : List Role). slice_set (slice_set x t.place Hidden) t.place (Single SoftBreak (plus t.place 1))) e
    ∙ ap (λ (x : List Role). slice_set x t.place (Single SoftBreak (plus t.place 1))) (set_behind rs left Plain Hidden t.place (sym n))
    ∙ set_behind rs left Hidden (Single SoftBreak (plus t.place 1)) t.place (sym n)
    ∙ ap (λ p. rs ++ Single SoftBreak p ∷ left) next
    in record {
      next = t.resume;
      before = omega arith;
      is =
          step_at bytes ahead defs 10 t feed_marks before
          ∙ ap (λ (u : s.State). s.next_place u) (looked_feed bytes ahead defs t (h.0) (h.1))
          ∙ ap (λ (x : List Role). record t { roles = x; place = plus t.place 1 }) set
          ∙ ap (λ p. record t { roles = rs ++ Single SoftBreak (t.place + 1) ∷ left; place = p }) next;
    }

-- bytes that mean themselves are no ampersands and no closing brackets

no_ampersand : (before b behind : ℕ) → IsPlainByte before b behind → (b == 38) ≡ false
no_ampersand before b behind (inl h) = h.ampersand
no_ampersand before b behind (inr (inl h)) = ap (λ c. c == 38) (h.0)
no_ampersand before b behind (inr (inr (inl h))) = ap (λ c. c == 38) (h.0)
no_ampersand before b behind (inr (inr (inr h))) = ap (λ c. c == 38) (h.0)

no_closing : (before b behind : ℕ) → IsPlainByte before b behind → (b == 93) ≡ false
no_closing before b behind (inl h) = h.closing
no_closing before b behind (inr (inl h)) = ap (λ c. c == 93) (h.0)
no_closing before b behind (inr (inr (inl h))) = ap (λ c. c == 93) (h.0)
no_closing before b behind (inr (inr (inr h))) = ap (λ c. c == 93) (h.0)

-- references

hash_ends : is_in TagName 35 ≡ false
unfolding is_in
hash_ends = refl

hash_unnamed : (bytes rest : List ℕ) (p : ℕ) → drop (p + 1) bytes ≡ 35 ∷ rest → p + 1 < 2 ^ 64 → named bytes p ≡ None
unfolding named name_at name_end run_end
hash_unnamed bytes rest p e fits =
    let one : plus p 1 ≡ p + 1 = omega arith in
    let none : take_while (is_in TagName) (35 ∷ rest) ≡ [] = take_while-cons (is_in TagName) 35 rest ∙ rw hash_ends refl in
    let end : plus (p + 1) 0 ≡ p + 1 = omega arith in
    rw (one, e, none, end, byte_front bytes (p + 1) (35 ∷ rest) e, never (byte_at bytes p == 38)) refl

abbrev IsReference : ℕ → List ℕ → Type 0
IsReference c bs = ((c ≡ 38) × (bs ≡ 97 ∷ 109 ∷ 112 ∷ 59 ∷ [])) ⊎ ((c ≡ 32) × (bs ≡ 35 ∷ 51 ∷ 50 ∷ 59 ∷ []))

known_here : (bytes pre rest bs : List ℕ) (p c : ℕ) → bytes ≡ pre ++ 38 ∷ (bs ++ rest) → p ≡ length pre → p + 5 < 2 ^ 64 → reference_at bytes p ≡ Some (record { character = c; next = p + 1 + length bs }) → IsReference c bs → IsKnown bytes p c (p + 1 + length bs)
known_here bytes pre rest bs p c e at fits read (inl h) =
    let width : length bs ≡ 4 = ap length (h.1) in
    let end : p + 5 ≡ p + 1 + length bs = omega (arith, width) in
    inl (h.0, amp_name bytes pre rest p (e ∙ ap (λ (xs : List ℕ). pre ++ 38 ∷ (xs ++ rest)) (h.1)) at fits ∙ ap (let f : ℕ → Option Named = λ n. Some (record { characters = 38 ∷ []; next = n }) in f) end)
known_here bytes pre rest bs p c e at fits read (inr h) =
    let there : bytes ≡ (pre ++ 38 ∷ []) ++ 35 ∷ 51 ∷ 50 ∷ 59 ∷ rest = e ∙ ap (λ (xs : List ℕ). pre ++ 38 ∷ (xs ++ rest)) (h.1) ∙ sym (append_assoc pre (38 ∷ []) (35 ∷ 51 ∷ 50 ∷ 59 ∷ rest)) in
    let next : p + 1 ≡ length (pre ++ 38 ∷ []) = ap (λ n. n + 1) at ∙ sym (length-append pre (38 ∷ [])) in
    inr (ap (λ x. x == 38) (h.0), hash_unnamed bytes (51 ∷ 50 ∷ 59 ∷ rest) p (drop_at bytes (pre ++ 38 ∷ []) _ (p + 1) there next) (omega (arith, fits)), read)

reference_width : (c : ℕ) (bs : List ℕ) → IsReference c bs → length bs ≡ 4
reference_width c bs (inl h) = ap length (h.1)
reference_width c bs (inr h) = ap length (h.1)

-- one part

length_plain : (n : ℕ) → length (replicate n Plain) ≡ n
length_plain zero = refl
length_plain (suc n) = ap suc (length_plain n)

plain_append : (xs ys : List ℕ) → replicate (length (xs ++ ys)) Plain ≡ replicate (length xs) Plain ++ replicate (length ys) Plain
plain_append [] ys = refl
plain_append (x ∷ xs) ys = ap (λ (l : List Role). Plain ∷ l) (plain_append xs ys)

-- what is scanned of parts
record Scanned (bytes : List ℕ) (ahead : s.Known) (defs : List ℕ → Option Entry) (t : s.State) (xs : List ℕ) (rs : List Role) (all : List ℕ) : Type 0 where
  next : ℕ
  is : fold (step bytes ahead defs) t xs ≡ at t rs (t.place + length xs) next all

-- a part, and then others
then_more : (bytes : List ℕ) (ahead : s.Known) (defs : List ℕ → Option Entry) (t : s.State) (xs ys all more : List ℕ) (made rs whole : List Role) (p : Passes bytes ahead defs t xs made all) → Scanned bytes ahead defs (at t made (t.place + length xs) p.next all) ys rs more → rs ≡ whole → Scanned bytes ahead defs t (xs ++ ys) whole more
then_more bytes ahead defs t xs ys all more made rs whole p q e = record {
  next = q.next;
  is =
      fold-append (step bytes ahead defs) t xs ys
      ∙ ap (λ (u : s.State). fold (step bytes ahead defs) u ys) p.is
      ∙ q.is
      ∙ ap (λ (x : List Role). at t x (t.place + length xs + length ys) q.next more) e
      ∙ ap (λ n. at t whole n q.next more) (let width : length (xs ++ ys) ≡ length xs + length ys = length-append xs ys in let sum : t.place + length xs + length ys ≡ t.place + length (xs ++ ys) = omega (arith, width) in sum);
}

-- where a part ends
place_after : (pre xs : List ℕ) (p : ℕ) → p ≡ length pre → p + length xs ≡ length (pre ++ xs)
place_after pre xs p at = ap (λ n. n + length xs) at ∙ sym (length-append pre xs)

room : (bytes pre xs rest : List ℕ) (p : ℕ) → bytes ≡ pre ++ (xs ++ rest) → p ≡ length pre → length bytes + 2 < 2 ^ 64 → p + length xs + 2 < 2 ^ 64
room bytes pre xs rest p e at fits =
    let all : length bytes ≡ length pre + length (xs ++ rest) = ap length e ∙ length-append pre (xs ++ rest) in
    let both : length (xs ++ rest) ≡ length xs + length rest = length-append xs rest in
    omega (arith, all, both, at, fits)

longer : (rs qs : List Role) (n p : ℕ) → length rs ≡ p → length qs ≡ n → length (rs ++ qs) ≡ p + n
longer rs qs n p e f = let all : length (rs ++ qs) ≡ length rs + length qs = length-append rs qs in omega (arith, all, e, f)

-- the pass over parts
scan_named : (bytes pre : List ℕ) (ahead : s.Known) (defs : List ℕ → Option Entry) (before : ℕ) (parts : List Part) (t : s.State) (rs : List Role) → bytes ≡ pre ++ spelled parts → t.place ≡ length pre → length bytes + 2 < 2 ^ 64 → AreRead bytes ahead defs t.place parts → ArePlainParts before parts → t.resume ≤ t.place → length rs ≡ t.place → t.roles ≡ rs ++ replicate (length (spelled parts)) Plain
    → Scanned bytes ahead defs t (spelled parts) (rs ++ named_roles t.texts t.place parts) (t.texts ++ kept_texts parts)
scan_named bytes pre ahead defs before [] t rs e there fits h plain free n roles = record {
  next = t.resume;
  is =
      ap (λ p. record t { place = p }) (let q : t.place ≡ t.place + 0 = omega arith in q)
      ∙ ap (λ (x : List Role). record t { roles = x; place = t.place + 0 }) roles
      ∙ ap (λ (x : List ℕ). at t (rs ++ []) (t.place + 0) t.resume x) (sym (append-nil t.texts));
}
scan_named bytes pre ahead defs before (Bare b ∷ parts) t rs e there fits h plain free n roles =
    let left : List Role = replicate (length (spelled parts)) Plain in
    let more : List Role = named_roles t.texts (t.place + 1) parts in
    let small : t.place + 1 + 2 < 2 ^ 64 = room bytes pre (b ∷ []) (spelled parts) t.place e there fits in
    let one : Passes bytes ahead defs t (b ∷ []) (rs ++ Plain ∷ left) t.texts = pass_bare bytes ahead defs t b left rs (h.0) (no_ampersand before b (byte_at (spelled parts) 0) (plain.0)) (no_closing before b (byte_at (spelled parts) 0) (plain.0)) free (omega (arith, small)) roles in
    let rest : Scanned bytes ahead defs (at t (rs ++ Plain ∷ left) (t.place + 1) one.next t.texts) (spelled parts) ((rs ++ Plain ∷ []) ++ more) (t.texts ++ kept_texts parts) =
    scan_named bytes (pre ++ b ∷ []) ahead defs b parts (at t (rs ++ Plain ∷ left) (t.place + 1) one.next t.texts) (rs ++ Plain ∷ []) (e ∙ sym (append_assoc pre (b ∷ []) (spelled parts))) (place_after pre (b ∷ []) t.place there) fits (h.1) (plain.1) one.before (longer rs (Plain ∷ []) 1 t.place n refl) (sym (append_assoc rs (Plain ∷ []) left))
    in
    then_more bytes ahead defs t (b ∷ []) (spelled parts) t.texts (t.texts ++ kept_texts parts) (rs ++ Plain ∷ left) ((rs ++ Plain ∷ []) ++ more) (rs ++ Plain ∷ more) one rest (append_assoc rs (Plain ∷ []) more)
scan_named bytes pre ahead defs before (Escaped b ∷ parts) t rs e there fits h plain free n roles =
    let left : List Role = replicate (length (spelled parts)) Plain in
    let more : List Role = named_roles t.texts (t.place + 2) parts in
    let small : t.place + 2 + 2 < 2 ^ 64 = room bytes pre (92 ∷ b ∷ []) (spelled parts) t.place e there fits in
    let made : List Role = rs ++ Hidden ∷ Fresh ∷ left in
    let front : List Role = rs ++ Hidden ∷ Fresh ∷ [] in
    let one : Passes bytes ahead defs t (92 ∷ b ∷ []) made t.texts = pass_escaped bytes ahead defs t b left rs (h.0) free (omega (arith, small)) n roles in
    let rest : Scanned bytes ahead defs (at t made (t.place + 2) one.next t.texts) (spelled parts) (front ++ more) (t.texts ++ kept_texts parts) =
    scan_named bytes (pre ++ 92 ∷ b ∷ []) ahead defs b parts (at t made (t.place + 2) one.next t.texts) front (e ∙ sym (append_assoc pre (92 ∷ b ∷ []) (spelled parts))) (place_after pre (92 ∷ b ∷ []) t.place there) fits (h.1) (plain.1) one.before (longer rs (Hidden ∷ Fresh ∷ []) 2 t.place n refl) (sym (append_assoc rs (Hidden ∷ Fresh ∷ []) left))
    in
    then_more bytes ahead defs t (92 ∷ b ∷ []) (spelled parts) t.texts (t.texts ++ kept_texts parts) made (front ++ more) (rs ++ Hidden ∷ Fresh ∷ more) one rest (append_assoc rs (Hidden ∷ Fresh ∷ []) more)
scan_named bytes pre ahead defs before (Referred c bs ∷ parts) t rs e there fits h plain free n roles =
    let left : List Role = replicate (length (spelled parts)) Plain in
    let width : length bs ≡ 4 = reference_width c bs (plain.0) in
    let small : t.place + suc (length bs) + 2 < 2 ^ 64 = room bytes pre (38 ∷ bs) (spelled parts) t.place e there fits in
    let kept : List ℕ = t.texts ++ kept_text (c == 38) in
    let whole : List ℕ = t.texts ++ (kept_text (c == 38) ++ kept_texts parts) in
    let place : ℕ = t.place + suc (length bs) in
    let leaf : Role = Single (kept_leaf (c == 38) t.texts c) (t.place + 1 + length bs) in
    let skips : List Role = replicate (length bs) Plain in
    let made : List Role = rs ++ leaf ∷ (skips ++ left) in
    let front : List Role = rs ++ leaf ∷ skips in
    let more : List Role = named_roles kept place parts in
    let before_all : t.roles ≡ rs ++ Plain ∷ (skips ++ left) = roles ∙ ap (λ (x : List Role). rs ++ x) (plain_append (38 ∷ bs) (spelled parts)) in
    let known : IsKnown bytes t.place c (t.place + 1 + length bs) = known_here bytes pre (spelled parts) bs t.place c e there (omega (arith, small, width)) (h.0) (plain.0) in
    let one : Passes bytes ahead defs t (38 ∷ bs) made kept = pass_referred bytes ahead defs t c bs (skips ++ left) rs known free (omega (arith, small)) n before_all in
    let rest : Scanned bytes ahead defs (at t made place one.next kept) (spelled parts) (front ++ more) (kept ++ kept_texts parts) =
    scan_named bytes (pre ++ 38 ∷ bs) ahead defs (last_byte 38 bs) parts (at t made place one.next kept) front (e ∙ sym (append_assoc pre (38 ∷ bs) (spelled parts))) (place_after pre (38 ∷ bs) t.place there) fits (h.1) (plain.1) one.before (longer rs (leaf ∷ skips) (suc (length bs)) t.place n (ap suc (length_plain (length bs)))) (sym (append_assoc rs (leaf ∷ skips) left))
    in
    subst (λ (x : List ℕ). Scanned bytes ahead defs t ((38 ∷ bs) ++ spelled parts) (rs ++ leaf ∷ (skips ++ more)) x) (append_assoc t.texts (kept_text (c == 38)) (kept_texts parts))
    (then_more bytes ahead defs t (38 ∷ bs) (spelled parts) kept (kept ++ kept_texts parts) made (front ++ more) (rs ++ leaf ∷ (skips ++ more)) one rest (append_assoc rs (leaf ∷ skips) more))
scan_named bytes pre ahead defs before (Feed ∷ parts) t rs e there fits h plain free n roles =
    let left : List Role = replicate (length (spelled parts)) Plain in
    let more : List Role = named_roles t.texts (t.place + 1) parts in
    let leaf : Role = Single SoftBreak (t.place + 1) in
    let small : t.place + 1 + 2 < 2 ^ 64 = room bytes pre (10 ∷ []) (spelled parts) t.place e there fits in
    let one : Passes bytes ahead defs t (10 ∷ []) (rs ++ leaf ∷ left) t.texts = pass_feed bytes ahead defs t left rs (h.0) free (omega (arith, small)) n roles in
    let rest : Scanned bytes ahead defs (at t (rs ++ leaf ∷ left) (t.place + 1) one.next t.texts) (spelled parts) ((rs ++ leaf ∷ []) ++ more) (t.texts ++ kept_texts parts) =
    scan_named bytes (pre ++ 10 ∷ []) ahead defs 10 parts (at t (rs ++ leaf ∷ left) (t.place + 1) one.next t.texts) (rs ++ leaf ∷ []) (e ∙ sym (append_assoc pre (10 ∷ []) (spelled parts))) (place_after pre (10 ∷ []) t.place there) fits (h.1) (plain.1) one.before (longer rs (leaf ∷ []) 1 t.place n refl) (sym (append_assoc rs (leaf ∷ []) left))
    in
    then_more bytes ahead defs t (10 ∷ []) (spelled parts) t.texts (t.texts ++ kept_texts parts) (rs ++ leaf ∷ left) ((rs ++ leaf ∷ []) ++ more) (rs ++ leaf ∷ more) one rest (append_assoc rs (leaf ∷ []) more)

-- the inlines of such a leaf, whose bytes have these ranges: no target and no missed label is added
pub named_inlines : (parts : List Part) (places : List (ℕ × ℕ)) (depth : ℕ) (defs : List ℕ → Option Entry) (t : inlines.State) → ArePlainParts 10 parts → length (spelled parts) + 2 < 2 ^ 64
    → inlines.read_inlines_in commonmark (record { bytes = spelled parts; places = places }) depth defs t ≡ record t { nodes = t.nodes ++ map (w.moved places) (w.written (named_roles t.texts 0 parts) depth); texts = t.texts ++ kept_texts parts }
unfolding inlines.read_inlines_in s.scanned_in s.settled scan_start emphasized
named_inlines parts places depth defs t plain fits =
    let bytes : List ℕ = spelled parts in
    let leaf : content.State = record { bytes = bytes; places = places } in
    let ahead : s.Known = s.ahead_in commonmark bytes in
    let start : s.State = scan_start (length bytes) t.targets t.texts t.missed in
    let read : AreRead bytes ahead defs 0 parts = plain_parts_are_read bytes [] ahead defs 0 10 parts refl refl (omega (arith, fits)) refl plain in
    let all : Scanned bytes ahead defs start bytes (named_roles t.texts 0 parts) (t.texts ++ kept_texts parts) = scan_named bytes [] ahead defs 10 parts start [] refl refl fits read plain (omega arith) refl refl in
    ap (λ (after : s.State). inlines.inlines_from leaf depth (s.settled 0 after) t) all.is
