-- The first place at which a byte is: how many bytes are before it, and whether there is one.
use Rattle.std.proofs.Common.{◌≡◌, ℕ, zero, suc, ◌+◌, Bool, true, false, ◌==◌, List, [], ◌∷◌, length, Option, None, Some, unwrap_or, refl, ap, sym, ◌∙◌, arith, true≢false}
use Rattle.std.specs.List.{list_any, prefix_len}
use Rattle.std.specs.Option.{is_some}
use Rattle.memchr.specs.Find.{IsFirstByte, is_byte}
use Rattle.tocmark_read_scan.specs.Class.{is_in, run_length}
use Rattle.tocmark_read_scan.specs.declared.class.Class.TheVariants.{Except}

-- the same after a byte that is another one
none_later : (one b : ℕ) (bs : List ℕ) → IsFirstByte (is_byte one) (b ∷ bs) None → IsFirstByte (is_byte one) bs None
none_later one b bs h = λ k low high p. h (suc k) (omega arith) (omega (arith, high)) p

some_later : (one b k : ℕ) (bs : List ℕ) → IsFirstByte (is_byte one) (b ∷ bs) (Some (suc k)) → IsFirstByte (is_byte one) bs (Some k)
some_later one b k bs h =
    let high = h.0.high in
    (record { low = omega arith; high = omega (arith, high); before = λ j low below p. h.0.before (suc j) (omega arith) (omega (arith, below)) p }, h.1)

pub bytes_before : (one : ℕ) (bytes : List ℕ) (r : Option ℕ) → IsFirstByte (is_byte one) bytes r → unwrap_or r (length bytes) ≡ run_length (Except one) bytes
unfolding is_in
bytes_before one [] None h = refl
bytes_before one [] (Some k) h = let high = h.0.high in absurd (omega (arith, high))
bytes_before one (b ∷ bs) r h = by_test (bytes_before one bs) (b == one) refl r h
  where
    one_more : 1 + prefix_len (is_in (Except one)) bs ≡ suc (prefix_len (is_in (Except one)) bs)
    one_more = omega arith

    by_test : ((r : Option ℕ) → IsFirstByte (is_byte one) bs r → unwrap_or r (length bs) ≡ run_length (Except one) bs) → (t : Bool) → (b == one) ≡ t → (r : Option ℕ) → IsFirstByte (is_byte one) (b ∷ bs) r → unwrap_or r (length (b ∷ bs)) ≡ run_length (Except one) (b ∷ bs)
    by_test later true e None h = absurd (h 0 (omega arith) (omega arith) e)
    by_test later true e (Some zero) h = rw e refl
    by_test later true e (Some (suc k)) h = absurd (h.0.before 0 (omega arith) (omega arith) e)
    by_test later false e None h = rw (e, one_more) (ap suc (later None (none_later one b bs h)))
    by_test later false e (Some zero) h = absurd (true≢false (sym (h.1) ∙ e))
    by_test later false e (Some (suc k)) h = rw (e, one_more) (ap suc (later (Some k) (some_later one b k bs h)))

pub is_there : (one : ℕ) (bytes : List ℕ) (r : Option ℕ) → IsFirstByte (is_byte one) bytes r → is_some r ≡ list_any (λ b. b == one) bytes
is_there one [] None h = refl
is_there one [] (Some k) h = let high = h.0.high in absurd (omega (arith, high))
is_there one (b ∷ bs) r h = by_test (is_there one bs) (b == one) refl r h
  where
    by_test : ((r : Option ℕ) → IsFirstByte (is_byte one) bs r → is_some r ≡ list_any (λ b. b == one) bs) → (t : Bool) → (b == one) ≡ t → (r : Option ℕ) → IsFirstByte (is_byte one) (b ∷ bs) r → is_some r ≡ list_any (λ b. b == one) (b ∷ bs)
    by_test later true e None h = absurd (h 0 (omega arith) (omega arith) e)
    by_test later true e (Some k) h = rw e refl
    by_test later false e None h = rw e (later None (none_later one b bs h))
    by_test later false e (Some zero) h = absurd (true≢false (sym (h.1) ∙ e))
    by_test later false e (Some (suc k)) h = rw e (later (Some k) (some_later one b k bs h))
