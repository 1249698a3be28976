-- What the reader makes of a destination or a title is what is declared.
use Rattle.std.proofs.Common.{◌≡◌, ℕ, zero, suc, ◌+◌, ◌-◌, ◌^◌, ◌<◌, ◌≤◌, Bool, true, false, ◌==◌, ◌&&◌, nat_lt, nat_le, if◌then◌else◌, List, [], ◌∷◌, ◌++◌, length, drop, codes, refl, ap, sym, ◌∙◌, arith, append_assoc, append-nil, true≢false}
use Rattle.std.proofs.lemmas.Bool.Decides.{nat_tests}
use Rattle.std.proofs.Math.Seq.{drop-length}
use Rattle.std.specs.Prelude.{Option, Some, None, encode_utf8, slice_get}
use Rattle.std.specs.Char.{is_ascii_punctuation}
use Rattle.std.specs.List.{fold}
use Rattle.tocmark_read_scan.specs.Basic.{plus, byte_at, bytes_between, starts_at}
use Rattle.tocmark_read_scan.specs.declared.syntax.Names.TheVariants.{All}
use Rattle.tocmark_read_scan.proofs.PlainPlaces.{byte_dropped}
use Rattle.tocmark_read_scan.proofs.PlainTests.{both_true, differs}
use Rattle.tocmark_read_inlines.specs.Scan.{is_mark}
use Rattle.tocmark_read_tokens.specs.CharacterNames.{characters_of}
use Rattle.tocmark_read_tokens.specs.Name as name
use Rattle.tocmark_read_tokens.specs.Name.{Named, name_end, name_at}
use Rattle.tocmark_read_tokens.specs.Reference as number
use Rattle.tocmark_read_tokens.specs.Reference.{State, is_escape, numeric, reference_at, resolved_or, named_or, unescape_at, unescape_at_in, unescape_step_in, stepped, unescape_start, unescaped_in}
use Rattle.tocmark_read_tokens.specs.declared.reference.Reference.{Reference}
use Rattle.tocmark_commonmark.specs.Tokens.{Kind, kind_of, numbered, reference_if, reference, literal, escaped, literal_at, literals_at, literals, resolved}
use Rattle.tocmark_inline_laws.proofs.Ampersands.{Here, starts_here, none_of_four, none_named, unnamed, numeric_is, named_is, Ended, ends_well}
use Rattle.tocmark_inline_laws.proofs.ByKind.{Each, by_kind}
use Rattle.tocmark_inline_laws.proofs.Places.{past_end}
use Rattle.tocmark_inline_laws.proofs.Stretches.{cut_length, first_cut, got, not_got}

not_starts : (bytes : List ℕ) (p w : ℕ) (ws : List ℕ) → (byte_at bytes p == w) ≡ false → starts_at bytes p (w ∷ ws) ≡ false
not_starts bytes p w ws h = by (starts_at bytes p (w ∷ ws)) refl
  where
    self : (w == w) ≡ true
    self = grind (arith, nat_tests)

    by : (z : Bool) → starts_at bytes p (w ∷ ws) ≡ z → z ≡ false
    by true e =
        let k : Here bytes p (w ∷ ws) = starts_here bytes p (w ∷ ws) e in
        absurd (true≢false (sym self ∙ ap (λ b. b == w) (sym (byte_dropped bytes p w (ws ++ k.rest) k.here)) ∙ h))
    by false e = refl

no_name : (bytes : List ℕ) (p : ℕ) → (byte_at bytes p == 38) ≡ false → name.named bytes p ≡ None
unfolding name.named name_at
no_name bytes p h = ap (λ (z : Bool). name.named_to (plus (name_end bytes p) 1) (if z && (byte_at bytes (name_end bytes p) == 59) then characters_of (bytes_between bytes (plus p 1) (name_end bytes p)) else None)) h

no_reference : (bytes : List ℕ) (p : ℕ) → (byte_at bytes p == 38) ≡ false → reference_at bytes p ≡ None
unfolding reference_at number.named
no_reference bytes p h =
    let a : starts_at bytes p (codes "&#") ≡ false = not_starts bytes p 38 (codes "#") h in
    let b : starts_at bytes p (codes "&amp;") ≡ false = not_starts bytes p 38 (codes "amp;") h in
    let c : starts_at bytes p (codes "&lt;") ≡ false = not_starts bytes p 38 (codes "lt;") h in
    let d : starts_at bytes p (codes "&gt;") ≡ false = not_starts bytes p 38 (codes "gt;") h in
    let e : starts_at bytes p (codes "&quot;") ≡ false = not_starts bytes p 38 (codes "quot;") h in
    rw (a, b, c, d, e) refl

-- what the reader makes of what is at a place
record Takes (bytes : List ℕ) (p b : ℕ) (u : State) (n : Named) : Type 0 where
  after : State
  same : unescape_at_in All bytes b u ≡ after
  out : after.out ≡ u.out ++ n.characters
  place : after.place ≡ p
  further : p < n.next
  within : n.next ≤ length bytes
  far : n.next ≤ suc p + (after.resume - suc p)
  low : after.resume ≤ n.next

looked_so : (bytes : List ℕ) (p b : ℕ) (u : State) → u.place ≡ p → unescape_at_in All bytes b u ≡ named_or bytes b u (name.named bytes p)
unfolding unescape_at_in
looked_so bytes p b u at = ap (λ q. named_or bytes b u (name.named bytes q)) at

unescaped_so : (bytes : List ℕ) (p b : ℕ) (u : State) → u.place ≡ p → unescape_at bytes b u ≡ (if is_escape bytes p then record u { out = u.out ++ byte_at bytes (plus p 1) ∷ []; resume = plus p 2 } else resolved_or b u (reference_at bytes p))
unfolding unescape_at
unescaped_so bytes p b u at = ap (λ q. if is_escape bytes q then record u { out = u.out ++ byte_at bytes (plus q 1) ∷ []; resume = plus q 2 } else resolved_or b u (reference_at bytes q)) at

no_escape : (bytes : List ℕ) (p : ℕ) → (byte_at bytes p == 92) ≡ false → is_escape bytes p ≡ false
unfolding is_escape
no_escape bytes p h = ap (λ (z : Bool). z && is_ascii_punctuation (byte_at bytes (plus p 1))) h

resolved_is : (r : Reference) (u : State) → number.resolved r u ≡ record u { out = u.out ++ encode_utf8 r.character; resume = r.next }
unfolding number.resolved
resolved_is r u = refl

-- a byte as it is
byte_takes : (bytes : List ℕ) (p b : ℕ) (u : State) → u.place ≡ p → u.resume ≤ p → p < length bytes → unescape_at_in All bytes b u ≡ record u { out = u.out ++ b ∷ [] } → Takes bytes p b u (literal b p None)
byte_takes bytes p b u at rest inner same = record { after = record u { out = u.out ++ b ∷ [] }; same = same; out = refl; place = at; further = omega arith; within = omega arith; far = omega arith; low = omega arith }

plain_takes : (bytes : List ℕ) (p b : ℕ) (u : State) → u.place ≡ p → u.resume ≤ p → p < length bytes → byte_at bytes p ≡ b → (b == 92) ≡ false → (b == 38) ≡ false → Takes bytes p b u (literal b p None)
plain_takes bytes p b u at rest inner is slash ampersand =
    byte_takes bytes p b u at rest inner
    (looked_so bytes p b u at ∙ ap (named_or bytes b u) (no_name bytes p (ap (λ c. c == 38) is ∙ ampersand)) ∙ unescaped_so bytes p b u at
    ∙ ap (λ (z : Bool). if z then record u { out = u.out ++ byte_at bytes (plus p 1) ∷ []; resume = plus p 2 } else resolved_or b u (reference_at bytes p)) (no_escape bytes p (ap (λ c. c == 92) is ∙ slash))
    ∙ ap (resolved_or b u) (no_reference bytes p (ap (λ c. c == 38) is ∙ ampersand)))

punctuated : (bytes : List ℕ) (p : ℕ) → is_escape bytes p ≡ true → is_ascii_punctuation (byte_at bytes (plus p 1)) ≡ true
unfolding is_escape
punctuated bytes p h = (both_true (byte_at bytes p == 92) (is_ascii_punctuation (byte_at bytes (plus p 1))) h).1

no_punctuation : is_ascii_punctuation 10 ≡ false
no_punctuation = refl

slash_takes : (bytes : List ℕ) (p : ℕ) (u : State) → u.place ≡ p → u.resume ≤ p → p < length bytes → length bytes + 2 < 2 ^ 64 → byte_at bytes p ≡ 92 → Takes bytes p 92 u (literal 92 p (escaped bytes p))
slash_takes bytes p u at rest inner fits is = by (is_escape bytes p) refl
  where
    no : (byte_at bytes p == 38) ≡ false
    no = ap (λ c. c == 38) is

    one : plus p 1 ≡ p + 1
    one = omega arith

    looked : (z : Bool) → is_escape bytes p ≡ z → unescape_at_in All bytes 92 u ≡ (if z then record u { out = u.out ++ byte_at bytes (plus p 1) ∷ []; resume = plus p 2 } else resolved_or 92 u (reference_at bytes p))
    looked z e = looked_so bytes p 92 u at ∙ ap (named_or bytes 92 u) (no_name bytes p no) ∙ unescaped_so bytes p 92 u at ∙ ap (λ (z : Bool). if z then record u { out = u.out ++ byte_at bytes (plus p 1) ∷ []; resume = plus p 2 } else resolved_or 92 u (reference_at bytes p)) e

    more : is_escape bytes p ≡ true → p + 1 < length bytes
    more e = near (nat_lt (plus p 1) (length bytes)) refl
      where
        near : (z : Bool) → nat_lt (plus p 1) (length bytes) ≡ z → p + 1 < length bytes
        near true f = let l : plus p 1 < length bytes = grind (arith, nat_tests, f) in omega arith
        near false f = absurd (true≢false (sym (punctuated bytes p e) ∙ ap is_ascii_punctuation (past_end bytes (plus p 1) (let k : length bytes ≤ plus p 1 = grind (arith, nat_tests, f) in k)) ∙ no_punctuation))

    by : (z : Bool) → is_escape bytes p ≡ z → Takes bytes p 92 u (literal 92 p (if z then Some (record { characters = byte_at bytes (p + 1) ∷ []; next = p + 2 }) else None))
    by true e = record {
      after = record u { out = u.out ++ byte_at bytes (plus p 1) ∷ []; resume = plus p 2 };
      same = looked true e;
      out = ap (λ q. u.out ++ byte_at bytes q ∷ []) one;
      place = at;
      further = omega arith;
      within = (let l : p + 1 < length bytes = more e in omega arith);
      far = omega arith;
      low = omega arith;
    }
    by false e = byte_takes bytes p 92 u at rest inner (looked false e ∙ ap (resolved_or 92 u) (no_reference bytes p no))

reference_so : (bytes : List ℕ) (p : ℕ) (z : Bool) → starts_at bytes p (codes "&#") ≡ z → reference_at bytes p ≡ (if z then numeric bytes p else number.named bytes p)
unfolding reference_at
reference_so bytes p z e = ap (λ (x : Bool). if x then numeric bytes p else number.named bytes p) e

ampersand_takes : (bytes : List ℕ) (p : ℕ) (u : State) → u.place ≡ p → u.resume ≤ p → p < length bytes → length bytes + 2 < 2 ^ 64 → byte_at bytes p ≡ 38 → Takes bytes p 38 u (literal 38 p (reference bytes p))
ampersand_takes bytes p u at rest inner fits is = by (starts_at bytes p (codes "&#")) refl
  where
    looked : (o : Option Named) → name.named bytes p ≡ o → unescape_at_in All bytes 38 u ≡ named_or bytes 38 u o
    looked o e = looked_so bytes p 38 u at ∙ ap (named_or bytes 38 u) e

    unnamed_so : unescape_at bytes 38 u ≡ resolved_or 38 u (reference_at bytes p)
    unnamed_so = unescaped_so bytes p 38 u at ∙ ap (λ (z : Bool). if z then record u { out = u.out ++ byte_at bytes (plus p 1) ∷ []; resume = plus p 2 } else resolved_or 38 u (reference_at bytes p)) (no_escape bytes p (ap (λ c. c == 92) is))

    numbers : (o : Option Reference) → numeric bytes p ≡ o → starts_at bytes p (codes "&#") ≡ true → Takes bytes p 38 u (literal 38 p (numbered o))
    numbers None e z = byte_takes bytes p 38 u at rest inner (looked None (none_named bytes p (omega arith) (omega arith) z) ∙ unnamed_so ∙ ap (resolved_or 38 u) (reference_so bytes p true z ∙ e))
    numbers (Some r) e z = record {
      after = record u { out = u.out ++ encode_utf8 r.character; resume = r.next };
      same = looked None (none_named bytes p (omega arith) (omega arith) z) ∙ unnamed_so ∙ ap (resolved_or 38 u) (reference_so bytes p true z ∙ e) ∙ resolved_is r u;
      out = refl;
      place = at;
      further = w.further;
      within = w.within;
      far = (let l : p < r.next = w.further in omega arith);
      low = omega arith;
    }
      where
        w : Ended bytes p r.next
        w = ends_well bytes p r.next fits (numeric_is bytes p r inner fits e)

    names : (o : Option Named) → name.named bytes p ≡ o → starts_at bytes p (codes "&#") ≡ false → Takes bytes p 38 u (literal 38 p o)
    names None e z = byte_takes bytes p 38 u at rest inner (looked None e ∙ unnamed_so ∙ ap (resolved_or 38 u) (reference_so bytes p false z ∙ none_of_four bytes p (omega arith) (omega arith) (unnamed bytes p e)))
    names (Some n) e z = record {
      after = record u { out = u.out ++ n.characters; resume = n.next };
      same = looked (Some n) e;
      out = refl;
      place = at;
      further = w.further;
      within = w.within;
      far = (let l : p < n.next = w.further in omega arith);
      low = omega arith;
    }
      where
        w : Ended bytes p n.next
        w = ends_well bytes p n.next fits (named_is bytes p n inner fits e)

    by : (z : Bool) → starts_at bytes p (codes "&#") ≡ z → Takes bytes p 38 u (literal 38 p (reference_if z bytes p))
    by true z = numbers (numeric bytes p) refl z
    by false z = names (name.named bytes p) refl z

mark_slash : is_mark 92 ≡ true
unfolding is_mark
mark_slash = refl

mark_ampersand : is_mark 38 ≡ true
unfolding is_mark
mark_ampersand = refl

abbrev Claim : List ℕ → ℕ → State → ℕ → Kind → Type 0
Claim bytes p u b k = byte_at bytes p ≡ b → Takes bytes p b u (literal_at bytes p b k)

takes : (bytes : List ℕ) (p : ℕ) (u : State) → u.place ≡ p → u.resume ≤ p → p < length bytes → length bytes + 2 < 2 ^ 64 → Takes bytes p (byte_at bytes p) u (literal_at bytes p (byte_at bytes p) (kind_of (byte_at bytes p)))
takes bytes p u at rest inner fits = by_kind (Claim bytes p u) each (byte_at bytes p) refl
  where
    each : Each (Claim bytes p u)
    each = record {
      backslash = λ e. slash_takes bytes p u at rest inner fits e;
      ampersand = λ e. ampersand_takes bytes p u at rest inner fits e;
      backtick = λ e. plain_takes bytes p 96 u at rest inner e refl refl;
      star = λ e. plain_takes bytes p 42 u at rest inner e refl refl;
      underscore = λ e. plain_takes bytes p 95 u at rest inner e refl refl;
      opening = λ e. plain_takes bytes p 91 u at rest inner e refl refl;
      exclamation = λ e. plain_takes bytes p 33 u at rest inner e refl refl;
      closing = λ e. plain_takes bytes p 93 u at rest inner e refl refl;
      angle = λ e. plain_takes bytes p 60 u at rest inner e refl refl;
      space = λ e. plain_takes bytes p 32 u at rest inner e refl refl;
      feed = λ e. plain_takes bytes p 10 u at rest inner e refl refl;
      other = λ b plain e. plain_takes bytes p b u at rest inner e (differs is_mark b 92 mark_slash plain.mark) (differs is_mark b 38 mark_ampersand plain.mark);
    }

-- bytes of what is read already
passed : (bytes xs rest : List ℕ) (u : State) → u.place + length xs ≤ u.resume → u.place + length xs < 2 ^ 64 → fold (unescape_step_in All bytes) u (xs ++ rest) ≡ fold (unescape_step_in All bytes) (record u { place = u.place + length xs }) rest
unfolding unescape_step_in
passed bytes [] rest u h fits = ap (λ (p : ℕ). fold (unescape_step_in All bytes) (record u { place = p }) rest) (let q : u.place ≡ u.place + 0 = omega arith in q)
passed bytes (x ∷ xs) rest u h fits =
    ap (λ (z : Bool). fold (unescape_step_in All bytes) (stepped (if z then unescape_at_in All bytes x u else u)) (xs ++ rest)) (let no : nat_le u.resume u.place ≡ false = grind (arith, nat_tests) in no)
    ∙ passed bytes xs rest (stepped u) (let q : plus u.place 1 + length xs ≡ u.place + suc (length xs) = omega arith in omega arith) (let q : plus u.place 1 + length xs ≡ u.place + suc (length xs) = omega arith in omega arith)
    ∙ ap (λ (p : ℕ). fold (unescape_step_in All bytes) (record u { place = p }) rest) (let q : plus u.place 1 + length xs ≡ u.place + suc (length xs) = omega arith in q)

read_first : (bytes rest : List ℕ) (b : ℕ) (u : State) → u.resume ≤ u.place → fold (unescape_step_in All bytes) u (b ∷ rest) ≡ fold (unescape_step_in All bytes) (stepped (unescape_at_in All bytes b u)) rest
unfolding unescape_step_in
read_first bytes rest b u h = ap (λ (z : Bool). fold (unescape_step_in All bytes) (stepped (if z then unescape_at_in All bytes b u else u)) rest) (let does : nat_le u.resume u.place ≡ true = grind (arith, nat_tests) in does)

all_read : (bytes : List ℕ) → length bytes + 2 < 2 ^ 64 → (fuel p : ℕ) (u : State) → u.place ≡ p → u.resume ≤ p → p ≤ length bytes → length bytes ≤ p + fuel → (fold (unescape_step_in All bytes) u (drop p bytes)).out ≡ u.out ++ literals fuel bytes p
all_read bytes fits zero p u at rest l m =
    ap (λ q. (fold (unescape_step_in All bytes) u (drop q bytes)).out) (let k : p ≡ length bytes = omega arith in k)
    ∙ ap (λ xs. (fold (unescape_step_in All bytes) u xs).out) (drop-length bytes)
    ∙ sym (append-nil u.out)
all_read bytes fits (suc fuel) p u at rest l m = by (all_read bytes fits fuel) (nat_lt p (length bytes)) refl
  where
    by : ((q : ℕ) (v : State) → v.place ≡ q → v.resume ≤ q → q ≤ length bytes → length bytes ≤ q + fuel → (fold (unescape_step_in All bytes) v (drop q bytes)).out ≡ v.out ++ literals fuel bytes q) → (z : Bool) → nat_lt p (length bytes) ≡ z → (fold (unescape_step_in All bytes) u (drop p bytes)).out ≡ u.out ++ literals_at (λ q. literals fuel bytes q) bytes p (slice_get bytes p)
    by later false e =
        let past : length bytes ≤ p = grind (arith, nat_tests, e) in
        ap (λ q. (fold (unescape_step_in All bytes) u (drop q bytes)).out) (let k : p ≡ length bytes = omega arith in k)
        ∙ ap (λ xs. (fold (unescape_step_in All bytes) u xs).out) (drop-length bytes)
        ∙ sym (append-nil u.out)
        ∙ ap (λ (o : Option ℕ). u.out ++ literals_at (λ q. literals fuel bytes q) bytes p o) (sym (not_got bytes p past))
    by later true e = goes (takes bytes p u at rest inner fits)
      where
        inner : p < length bytes
        inner = grind (arith, nat_tests, e)

        n : Named
        n = literal_at bytes p (byte_at bytes p) (kind_of (byte_at bytes p))

        goes : Takes bytes p (byte_at bytes p) u n → (fold (unescape_step_in All bytes) u (drop p bytes)).out ≡ u.out ++ literals_at (λ q. literals fuel bytes q) bytes p (slice_get bytes p)
        goes t =
            ap (λ xs. (fold (unescape_step_in All bytes) u xs).out) (first_cut bytes p n.next t.further t.within)
            ∙ ap (λ (v : State). v.out) (read_first bytes (xs ++ drop n.next bytes) (byte_at bytes p) u (omega arith))
            ∙ ap (λ (v : State). (fold (unescape_step_in All bytes) (stepped v) (xs ++ drop n.next bytes)).out) t.same
            ∙ ap (λ (q : ℕ). (fold (unescape_step_in All bytes) (record t.after { place = q }) (xs ++ drop n.next bytes)).out) (ap (λ q. plus q 1) t.place ∙ (let k : plus p 1 ≡ suc p = omega arith in k))
            ∙ ap (λ (v : State). v.out) skipped
            ∙ later n.next (record t.after { place = n.next }) refl t.low t.within (let f : p < n.next = t.further in omega arith)
            ∙ ap (λ ys. ys ++ literals fuel bytes n.next) t.out
            ∙ append_assoc u.out n.characters (literals fuel bytes n.next)
            ∙ ap (λ (o : Option ℕ). u.out ++ literals_at (λ q. literals fuel bytes q) bytes p o) (sym (got bytes p inner))
          where
            xs : List ℕ
            xs = bytes_between bytes (suc p) n.next

            far : p < n.next
            far = t.further

            in_it : n.next ≤ length bytes
            in_it = t.within

            reached : n.next ≤ suc p + (t.after.resume - suc p)
            reached = t.far

            len : length xs ≡ n.next - suc p
            len = cut_length bytes (suc p) n.next (omega arith) t.within

            skipped : fold (unescape_step_in All bytes) (record t.after { place = suc p }) (xs ++ drop n.next bytes) ≡ fold (unescape_step_in All bytes) (record t.after { place = n.next }) (drop n.next bytes)
            skipped = near xs len
              where
                near : (ys : List ℕ) → length ys ≡ n.next - suc p → fold (unescape_step_in All bytes) (record t.after { place = suc p }) (ys ++ drop n.next bytes) ≡ fold (unescape_step_in All bytes) (record t.after { place = n.next }) (drop n.next bytes)
                near [] k = ap (λ (q : ℕ). fold (unescape_step_in All bytes) (record t.after { place = q }) (drop n.next bytes)) (let m : suc p ≡ n.next = omega arith in m)
                near (y ∷ ys) k =
                    passed bytes (y ∷ ys) (drop n.next bytes) (record t.after { place = suc p }) (omega arith) (omega arith)
                    ∙ ap (λ (q : ℕ). fold (unescape_step_in All bytes) (record t.after { place = q }) (drop n.next bytes)) (let m : suc p + suc (length ys) ≡ n.next = omega arith in m)

pub resolved_so : (bytes : List ℕ) → length bytes + 2 < 2 ^ 64 → unescaped_in All bytes ≡ resolved bytes
unfolding unescaped_in resolved
resolved_so bytes fits = ap (λ xs. (fold (unescape_step_in All bytes) unescape_start xs).out) (sym (drop_none bytes)) ∙ all_read bytes fits (length bytes) 0 unescape_start refl (omega arith) (omega arith) (omega arith)
  where
    drop_none : (xs : List ℕ) → drop 0 xs ≡ xs
    drop_none [] = refl
    drop_none (x ∷ xs) = refl
