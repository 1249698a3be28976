-- The lines of a text have no line ending in them, and each ends as the standard says.
use Rattle.std.proofs.Common.{◌≡◌, ℕ, suc, ◌+◌, ◌-◌, ◌^◌, ◌<◌, inl, inr, Bool, true, false, not, ◌==◌, ◌&&◌, ◌||◌, if◌then◌else◌, nat_lt, nat_le, List, [], ◌∷◌, ◌++◌, length, refl, ap, sym, ◌∙◌, subst, arith, append_assoc, length-append, true≢false}
use Rattle.std.specs.Prelude.{slice_get, unwrap_or, Some}
use Rattle.std.specs.List.{AllByRecursion}
use Rattle.std.specs.Option.{option_map_or}
use Rattle.std.proofs.lemmas.Bool.Decides.{nat_tests}
use Rattle.std.proofs.lemmas.Option.{slice_get_past}
use Rattle.tocmark_read_scan.proofs.PlainPieces.{piece_between}
use Rattle.tocmark_read_scan.specs.Basic.{plus, byte_at, bytes_between}
use Rattle.tocmark_read_lines.specs.Lines.{ends_here, line_stop, line, last_line, lines_from}
use Rattle.tocmark_read_lines.specs.declared.line.Line.{Line}
use Rattle.tocmark_text_laws.specs.Lines.{IsInner, IsEnded, IsLine, LinesEndOnce}

-- a line ends at a line feed, at the last byte if that is a carriage return, and at a carriage return without a line feed after it
feed_ends : (t : List ℕ) (b at : ℕ) → (b == 10) ≡ true → ends_here t b at ≡ true
unfolding ends_here
feed_ends t b at h = rw h refl

other_goes : (t : List ℕ) (b at : ℕ) → (b == 10) ≡ false → (b == 13) ≡ false → ends_here t b at ≡ false
unfolding ends_here
other_goes t b at h k = rw (h, k) refl

return_goes : (t : List ℕ) (b at : ℕ) → (b == 10) ≡ false → (b == 13) ≡ true → (byte_at t (plus at 1) == 10) ≡ true → nat_le (length t) (plus at 1) ≡ false → ends_here t b at ≡ false
unfolding ends_here
return_goes t b at h k m n = rw (h, k, m, n) refl

return_ends : (t : List ℕ) (b at : ℕ) → (b == 10) ≡ false → (b == 13) ≡ true → (byte_at t (plus at 1) == 10) ≡ false → ends_here t b at ≡ true
unfolding ends_here
return_ends t b at h k m = rw (h, k, m) refl

or_true : (x : Bool) → x || true ≡ true
or_true true = refl
or_true false = refl

last_ends : (t : List ℕ) (b at : ℕ) → (b == 10) ≡ false → (b == 13) ≡ true → nat_le (length t) (plus at 1) ≡ true → ends_here t b at ≡ true
unfolding ends_here
last_ends t b at h k n = rw (h, k, n) (or_true (not (byte_at t (plus at 1) == 10)))

no_feed_stop : (t : List ℕ) (start b at : ℕ) → (b == 10) ≡ false → line_stop t start b at ≡ at
unfolding line_stop
no_feed_stop t start b at h = rw h refl

feed_stop : (t : List ℕ) (start b at : ℕ) → (b == 10) ≡ true → (nat_lt start at && (byte_at t (at - 1) == 13)) ≡ false → line_stop t start b at ≡ at
unfolding line_stop
feed_stop t start b at h q = rw (h, q) refl

both_stop : (t : List ℕ) (start b at : ℕ) → (b == 10) ≡ true → nat_lt start (at + 1) ≡ true → (byte_at t (at + 1 - 1) == 13) ≡ true → line_stop t start b (at + 1) ≡ at + 1 - 1
unfolding line_stop
both_stop t start b at h l m = rw (h, l, m) refl

one_inner : (held : List ℕ) (b : ℕ) → AllByRecursion IsInner held → IsInner b → AllByRecursion IsInner (held ++ b ∷ [])
one_inner [] b h k = (k, tt)
one_inner (x ∷ xs) b h k = (h.0, one_inner xs b (h.1) k)

got : (front rest : List ℕ) (b : ℕ) → slice_get (front ++ b ∷ rest) (length front) ≡ Some b
got [] rest b = refl
got (x ∷ front) rest b = got front rest b

got_at : (t front rest : List ℕ) (b at : ℕ) → t ≡ front ++ b ∷ rest → at ≡ length front → slice_get t at ≡ Some b
got_at t front rest b at e a = ap (λ u. slice_get u at) e ∙ ap (slice_get (front ++ b ∷ rest)) a ∙ got front rest b

byte_there : (t front rest : List ℕ) (b at : ℕ) → t ≡ front ++ b ∷ rest → at ≡ length front → byte_at t at ≡ b
byte_there t front rest b at e a = ap (λ o. unwrap_or o 10) (got_at t front rest b at e a)

-- a line with these bytes
made : (t held : List ℕ) (l : Line) → bytes_between t l.start l.end ≡ held → AllByRecursion IsInner held → IsEnded t l → IsLine t l
made t held l e h k = record { content = subst (AllByRecursion IsInner) (sym e) h; ending = k }

closes : (t : List ℕ) (before start at stop b : ℕ) (bs : List ℕ) → ends_here t b at ≡ true → line_stop t start b at ≡ stop → IsLine t (line before start stop (at + 1))
    → AllByRecursion (IsLine t) (lines_from t (before + 1) (at + 1) (at + 1) bs) → AllByRecursion (IsLine t) (lines_from t before start at (b ∷ bs))
closes t before start at stop b bs e p one more = by (ends_here t b at) (line_stop t start b at) e p
  where
    by : (k : Bool) (n : ℕ) → k ≡ true → n ≡ stop → AllByRecursion (IsLine t) (if k then line before start n (at + 1) ∷ lines_from t (before + 1) (at + 1) (at + 1) bs else lines_from t before start (at + 1) bs)
    by true n h q = (subst (λ m. IsLine t (line before start m (at + 1))) (sym q) one, more)
    by false n h q = absurd (true≢false (sym h))

goes : (t : List ℕ) (before start at b : ℕ) (bs : List ℕ) → ends_here t b at ≡ false
    → AllByRecursion (IsLine t) (lines_from t before start (at + 1) bs) → AllByRecursion (IsLine t) (lines_from t before start at (b ∷ bs))
goes t before start at b bs e more = by (ends_here t b at) e
  where
    by : (k : Bool) → k ≡ false → AllByRecursion (IsLine t) (if k then line before start (line_stop t start b at) (at + 1) ∷ lines_from t (before + 1) (at + 1) (at + 1) bs else lines_from t before start (at + 1) bs)
    by true h = absurd (true≢false h)
    by false h = more

-- where a line is that has come to a place
record Stands (t pre held rest : List ℕ) (start at : ℕ) : Type 0 where
  whole : t ≡ pre ++ (held ++ rest)
  begins : start ≡ length pre
  comes : at ≡ length pre + length held
  inner : AllByRecursion IsInner held
  quiet : (nat_lt start at && (byte_at t (at - 1) == 13)) ≡ false

front_of : (t pre held rest : List ℕ) (start at : ℕ) → Stands t pre held rest start at → t ≡ (pre ++ held) ++ rest
front_of t pre held rest start at s = s.whole ∙ sym (append_assoc pre held rest)

there : (t pre held rest : List ℕ) (start at : ℕ) → Stands t pre held rest start at → at ≡ length (pre ++ held)
there t pre held rest start at s = s.comes ∙ sym (length-append pre held)

content : (t pre held rest : List ℕ) (start at : ℕ) → Stands t pre held rest start at → bytes_between t start at ≡ held
content t pre held rest start at s = piece_between t pre held rest start at s.whole s.begins s.comes

size : (t pre held rest : List ℕ) (start at : ℕ) → Stands t pre held rest start at → length t ≡ at + length rest
size t pre held rest start at s =
    let w : length t ≡ length (pre ++ held) + length rest = ap length (front_of t pre held rest start at s) ∙ length-append (pre ++ held) rest in
    let a : at ≡ length (pre ++ held) = there t pre held rest start at s in
    omega arith

-- these bytes are at the place
behind : (t pre held xs rest : List ℕ) (start at : ℕ) → Stands t pre held (xs ++ rest) start at → (end : ℕ) → end ≡ at + length xs → bytes_between t at end ≡ xs
behind t pre held xs rest start at s end h =
    let a : at ≡ length (pre ++ held) = there t pre held (xs ++ rest) start at s in
    piece_between t (pre ++ held) xs rest at end (front_of t pre held (xs ++ rest) start at s) a (h ∙ ap (λ n. n + length xs) a)

-- a line begins after some bytes
again : (t front xs rest : List ℕ) (at next : ℕ) → t ≡ front ++ (xs ++ rest) → at ≡ length front → next ≡ at + length xs → Stands t (front ++ xs) [] rest next next
again t front xs rest at next e a h = record {
  whole = e ∙ sym (append_assoc front xs rest);
  begins = let l : length (front ++ xs) ≡ length front + length xs = length-append front xs in omega arith;
  comes = let l : length (front ++ xs) ≡ length front + length xs = length-append front xs in omega arith;
  inner = tt;
  quiet = let q : nat_lt next next ≡ false = grind (arith, nat_tests) in rw q refl;
}

-- a line goes on after a byte of it
further : (t pre held bs : List ℕ) (b start at : ℕ) → Stands t pre held (b ∷ bs) start at → IsInner b → Stands t pre (held ++ b ∷ []) bs start (at + 1)
further t pre held bs b start at s k = record {
  whole = s.whole ∙ ap (λ x. pre ++ x) (sym (append_assoc held (b ∷ []) bs));
  begins = s.begins;
  comes = let l : length (held ++ b ∷ []) ≡ length held + 1 = length-append held (b ∷ []) in let c : at ≡ length pre + length held = s.comes in omega arith;
  inner = one_inner held b s.inner k;
  quiet = let p : at + 1 - 1 ≡ at = omega arith in
      let q : (byte_at t (at + 1 - 1) == 13) ≡ false = ap (λ n. byte_at t n == 13) p ∙ ap (λ c. c == 13) (byte_there t (pre ++ held) bs b at (front_of t pre held (b ∷ bs) start at s) (there t pre held (b ∷ bs) start at s)) ∙ k.1 in
      rw q (never (nat_lt start (at + 1)));
}
  where
    never : (x : Bool) → x && false ≡ false
    never true = refl
    never false = refl

same : (b c : ℕ) → (b == c) ≡ true → b ≡ c
same b c h = grind (arith, nat_tests)

-- a byte that is no carriage return
common : (t pre held bs : List ℕ) (b before start at : ℕ) → Stands t pre held (b ∷ bs) start at
    → AllByRecursion (IsLine t) (lines_from t (before + 1) (at + 1) (at + 1) bs)
    → (IsInner b → AllByRecursion (IsLine t) (lines_from t before start (at + 1) bs))
    → ((b == 10) ≡ false → (b == 13) ≡ true → AllByRecursion (IsLine t) (lines_from t before start at (b ∷ bs)))
    → AllByRecursion (IsLine t) (lines_from t before start at (b ∷ bs))
common t pre held bs b before start at s next more return = by (b == 10) (b == 13) refl refl
  where
    by : (x y : Bool) → (b == 10) ≡ x → (b == 13) ≡ y → AllByRecursion (IsLine t) (lines_from t before start at (b ∷ bs))
    by true y h k = closes t before start at at b bs (feed_ends t b at h) (feed_stop t start b at h s.quiet)
        (made t held (line before start at (at + 1)) (content t pre held (b ∷ bs) start at s) s.inner (inl (behind t pre held (b ∷ []) bs start at s (at + 1) refl ∙ ap (λ n. n ∷ []) (same b 10 h)))) next
    by false true h k = return h k
    by false false h k = goes t before start at b bs (other_goes t b at h k) (more (h, k))

-- a carriage return at the end of the text
at_end : (t pre held : List ℕ) (b before start at : ℕ) → length t + 1 < 2 ^ 64 → Stands t pre held (b ∷ []) start at → (b == 10) ≡ false → (b == 13) ≡ true
    → AllByRecursion (IsLine t) (lines_from t (before + 1) (at + 1) (at + 1) []) → AllByRecursion (IsLine t) (lines_from t before start at (b ∷ []))
at_end t pre held b before start at short s h k next =
    closes t before start at at b [] (last_ends t b at h k past) (no_feed_stop t start b at h)
    (made t held (line before start at (at + 1)) (content t pre held (b ∷ []) start at s) s.inner
    (inr (inr (inl (behind t pre held (b ∷ []) [] start at s (at + 1) refl ∙ ap (λ n. n ∷ []) (same b 13 k), ap (λ o. option_map_or (λ c. c == 10) o false) (slice_get_past t (at + 1) (let w : length t ≡ at + 1 = size t pre held (b ∷ []) start at s in omega arith))))))) next
  where
    past : nat_le (length t) (plus at 1) ≡ true
    past =
        let w : length t ≡ at + 1 = size t pre held (b ∷ []) start at s in
        let p : plus at 1 ≡ at + 1 = omega arith in
        let q : nat_le (length t) (at + 1) ≡ true = grind (arith, nat_tests) in
        ap (nat_le (length t)) p ∙ q

-- a carriage return before another byte
before_byte : (t pre held cs : List ℕ) (b c before start at : ℕ) → length t + 1 < 2 ^ 64 → Stands t pre held (b ∷ c ∷ cs) start at → (b == 10) ≡ false → (b == 13) ≡ true
    → AllByRecursion (IsLine t) (lines_from t (before + 1) (at + 1) (at + 1) (c ∷ cs)) → AllByRecursion (IsLine t) (lines_from t (before + 1) (at + 1 + 1) (at + 1 + 1) cs)
    → AllByRecursion (IsLine t) (lines_from t before start at (b ∷ c ∷ cs))
before_byte t pre held cs b c before start at short s h k next after = by (c == 10) refl
  where
    wide : length t ≡ at + suc (suc (length cs))
    wide = size t pre held (b ∷ c ∷ cs) start at s

    two : plus at 1 ≡ at + 1
    two = let w : length t ≡ at + suc (suc (length cs)) = wide in omega arith

    split : t ≡ ((pre ++ held) ++ b ∷ []) ++ c ∷ cs
    split = front_of t pre held (b ∷ c ∷ cs) start at s ∙ sym (append_assoc (pre ++ held) (b ∷ []) (c ∷ cs))

    place : at + 1 ≡ length ((pre ++ held) ++ b ∷ [])
    place = let l : length ((pre ++ held) ++ b ∷ []) ≡ length (pre ++ held) + 1 = length-append (pre ++ held) (b ∷ []) in let a : at ≡ length (pre ++ held) = there t pre held (b ∷ c ∷ cs) start at s in omega arith

    second : slice_get t (at + 1) ≡ Some c
    second = got_at t ((pre ++ held) ++ b ∷ []) cs c (at + 1) split place

    byte : byte_at t (plus at 1) ≡ c
    byte = ap (byte_at t) two ∙ ap (λ o. unwrap_or o 10) second

    first : (byte_at t (at + 1 - 1) == 13) ≡ true
    first = let p : at + 1 - 1 ≡ at = omega arith in ap (λ n. byte_at t n == 13) p ∙ ap (λ n. n == 13) (byte_there t (pre ++ held) (c ∷ cs) b at (front_of t pre held (b ∷ c ∷ cs) start at s) (there t pre held (b ∷ c ∷ cs) start at s)) ∙ k

    fits : nat_le (length t) (plus at 1) ≡ false
    fits =
        let w : length t ≡ at + suc (suc (length cs)) = wide in
        let q : nat_le (length t) (at + 1) ≡ false = grind (arith, nat_tests) in
        ap (nat_le (length t)) two ∙ q

    order : nat_lt start (at + 1) ≡ true
    order = let x : start ≡ length pre = s.begins in let y : at ≡ length pre + length held = s.comes in grind (arith, nat_tests)

    by : (x : Bool) → (c == 10) ≡ x → AllByRecursion (IsLine t) (lines_from t before start at (b ∷ c ∷ cs))
    by true e =
        goes t before start at b (c ∷ cs) (return_goes t b at h k (ap (λ n. n == 10) byte ∙ e) fits)
        (closes t before start (at + 1) at c cs (feed_ends t c (at + 1) e) (both_stop t start c at e order first ∙ (let p : at + 1 - 1 ≡ at = omega arith in p))
        (made t held (line before start at (at + 1 + 1)) (content t pre held (b ∷ c ∷ cs) start at s) s.inner
        (inr (inl (behind t pre held (b ∷ c ∷ []) cs start at s (at + 1 + 1) (omega arith) ∙ ap (λ n. n ∷ c ∷ []) (same b 13 k) ∙ ap (λ n. 13 ∷ n ∷ []) (same c 10 e))))) after)
    by false e =
        closes t before start at at b (c ∷ cs) (return_ends t b at h k (ap (λ n. n == 10) byte ∙ e)) (no_feed_stop t start b at h)
        (made t held (line before start at (at + 1)) (content t pre held (b ∷ c ∷ cs) start at s) s.inner
        (inr (inr (inl (behind t pre held (b ∷ []) (c ∷ cs) start at s (at + 1) refl ∙ ap (λ n. n ∷ []) (same b 13 k), ap (λ o. option_map_or (λ n. n == 10) o false) second ∙ e))))) next

-- what is left at the end
left_ended : (t pre held : List ℕ) (before start at : ℕ) → Stands t pre held [] start at → AllByRecursion (IsLine t) (last_line before start at)
left_ended t pre held before start at s = by (nat_lt start at)
  where
    by : (k : Bool) → AllByRecursion (IsLine t) (if k then line before start at at ∷ [] else [])
    by true = (made t held (line before start at at) (content t pre held [] start at s) s.inner (inr (inr (inr (behind t pre held [] [] start at s at (omega arith), (let w : length t ≡ at + 0 = size t pre held [] start at s in omega arith))))), tt)
    by false = tt

ended : (t pre held rest : List ℕ) (before start at : ℕ) → length t + 1 < 2 ^ 64 → Stands t pre held rest start at → AllByRecursion (IsLine t) (lines_from t before start at rest)
ended t pre held [] before start at short s = left_ended t pre held before start at s
ended t pre held (b ∷ []) before start at short s =
    common t pre held [] b before start at s
    (ended t ((pre ++ held) ++ b ∷ []) [] [] (before + 1) (at + 1) (at + 1) short (again t (pre ++ held) (b ∷ []) [] at (at + 1) (front_of t pre held (b ∷ []) start at s) (there t pre held (b ∷ []) start at s) refl))
    (λ k. ended t pre (held ++ b ∷ []) [] before start (at + 1) short (further t pre held [] b start at s k))
    (λ h k. at_end t pre held b before start at short s h k (ended t ((pre ++ held) ++ b ∷ []) [] [] (before + 1) (at + 1) (at + 1) short (again t (pre ++ held) (b ∷ []) [] at (at + 1) (front_of t pre held (b ∷ []) start at s) (there t pre held (b ∷ []) start at s) refl)))
ended t pre held (b ∷ c ∷ cs) before start at short s =
    common t pre held (c ∷ cs) b before start at s
    (ended t ((pre ++ held) ++ b ∷ []) [] (c ∷ cs) (before + 1) (at + 1) (at + 1) short (again t (pre ++ held) (b ∷ []) (c ∷ cs) at (at + 1) (front_of t pre held (b ∷ c ∷ cs) start at s) (there t pre held (b ∷ c ∷ cs) start at s) refl))
    (λ k. ended t pre (held ++ b ∷ []) (c ∷ cs) before start (at + 1) short (further t pre held (c ∷ cs) b start at s k))
    (λ h k. before_byte t pre held cs b c before start at short s h k
    (ended t ((pre ++ held) ++ b ∷ []) [] (c ∷ cs) (before + 1) (at + 1) (at + 1) short (again t (pre ++ held) (b ∷ []) (c ∷ cs) at (at + 1) (front_of t pre held (b ∷ c ∷ cs) start at s) (there t pre held (b ∷ c ∷ cs) start at s) refl))
    (ended t ((pre ++ held) ++ b ∷ c ∷ []) [] cs (before + 1) (at + 1 + 1) (at + 1 + 1) short (again t (pre ++ held) (b ∷ c ∷ []) cs at (at + 1 + 1) (front_of t pre held (b ∷ c ∷ cs) start at s) (there t pre held (b ∷ c ∷ cs) start at s) (omega arith))))

pub lines-end : LinesEndOnce
lines-end text short = ended text [] [] text 0 0 0 short (record { whole = refl; begins = refl; comes = refl; inner = tt; quiet = quiet })
  where
    quiet : (nat_lt 0 0 && (byte_at text (0 - 1) == 13)) ≡ false
    quiet = let q : nat_lt 0 0 ≡ false = grind (arith, nat_tests) in rw q refl
