-- What names of character references stand for is UTF-8, and is something.
use Rattle.std.proofs.Common.{◌≡◌, ℕ, suc, ◌+◌, ◌-◌, ◌<◌, ◌≤◌, Bool, true, false, cond, not, ◌==◌, ◌&&◌, if◌then◌else◌, nat_lt, nat_le, List, [], ◌∷◌, length, take, drop, refl, ap, sym, ◌∙◌, subst, arith, length-take, length-drop, true≢false, ◌⊎◌, inl, inr}
use Rattle.std.specs.Prelude.{min, take_while, Some, None}
use Rattle.std.specs.Str.{IsUtf8, IsCharBoundary, chars, is_utf8}
use Rattle.std.proofs.lemmas.Bool.Decides.{nat_tests}
use Rattle.std.proofs.lemmas.List.Sums.{take_while-cons}
use Rattle.std.proofs.lemmas.Str.{IsUtf8-from_is_utf8, IsUtf8-between, IsCharBoundary-end}
use Rattle.tocmark_read_scan.specs.Basic.{plus, byte_at, bytes_between, starts_at}
use Rattle.tocmark_read_scan.specs.Class.{is_in, run_length, run_end}
use Rattle.tocmark_read_scan.specs.Repeat.{iterated}
use Rattle.tocmark_read_scan.specs.declared.class.Class.{Class}
use Rattle.tocmark_read_scan.specs.declared.class.Class.TheVariants.{Except}
use Rattle.tocmark_read_tokens.specs.CharacterNames.{is_entry, next_line, entry_characters, characters_in, is_name, characters_of}
use Rattle.tocmark_read_tokens.specs.Entries.{entries_of}
use Rattle.tocmark_read_tokens.specs.declared.entries.TheConstants.{CAPITAL_A, CAPITAL_B, CAPITAL_C, CAPITAL_D, CAPITAL_E, CAPITAL_F, CAPITAL_G, CAPITAL_H, CAPITAL_I, CAPITAL_J, CAPITAL_K, CAPITAL_L, CAPITAL_M, CAPITAL_N, CAPITAL_O, CAPITAL_P, CAPITAL_Q, CAPITAL_R, CAPITAL_S, CAPITAL_T, CAPITAL_U, CAPITAL_V, CAPITAL_W, CAPITAL_X, CAPITAL_Y, CAPITAL_Z, SMALL_A, SMALL_B, SMALL_C, SMALL_D, SMALL_E, SMALL_F, SMALL_G, SMALL_H, SMALL_I, SMALL_J, SMALL_K, SMALL_L, SMALL_M, SMALL_N, SMALL_O, SMALL_P, SMALL_Q, SMALL_R, SMALL_S, SMALL_T, SMALL_U, SMALL_V, SMALL_W, SMALL_X, SMALL_Y, SMALL_Z}
use Rattle.tocmark_inline_laws.proofs.Places.{past_end}
use Rattle.tocmark_standard_laws.proofs.Cuts.{byte_drop, before_low, after_low}

-- a table of names: UTF-8, not long, and with a line feed at its end
abbrev is_table : List ℕ → Bool
is_table t = is_utf8 t && nat_lt (length t) 4096 && (byte_at t (length t - 1) == 10)

capital_a : is_table CAPITAL_A.now ≡ true
unfolding is_utf8 chars lib.Utf8.encode
capital_a = refl

capital_b : is_table CAPITAL_B.now ≡ true
unfolding is_utf8 chars lib.Utf8.encode
capital_b = refl

capital_c : is_table CAPITAL_C.now ≡ true
unfolding is_utf8 chars lib.Utf8.encode
capital_c = refl

capital_d : is_table CAPITAL_D.now ≡ true
unfolding is_utf8 chars lib.Utf8.encode
capital_d = refl

capital_e : is_table CAPITAL_E.now ≡ true
unfolding is_utf8 chars lib.Utf8.encode
capital_e = refl

capital_f : is_table CAPITAL_F.now ≡ true
unfolding is_utf8 chars lib.Utf8.encode
capital_f = refl

capital_g : is_table CAPITAL_G.now ≡ true
unfolding is_utf8 chars lib.Utf8.encode
capital_g = refl

capital_h : is_table CAPITAL_H.now ≡ true
unfolding is_utf8 chars lib.Utf8.encode
capital_h = refl

capital_i : is_table CAPITAL_I.now ≡ true
unfolding is_utf8 chars lib.Utf8.encode
capital_i = refl

capital_j : is_table CAPITAL_J.now ≡ true
unfolding is_utf8 chars lib.Utf8.encode
capital_j = refl

capital_k : is_table CAPITAL_K.now ≡ true
unfolding is_utf8 chars lib.Utf8.encode
capital_k = refl

capital_l : is_table CAPITAL_L.now ≡ true
unfolding is_utf8 chars lib.Utf8.encode
capital_l = refl

capital_m : is_table CAPITAL_M.now ≡ true
unfolding is_utf8 chars lib.Utf8.encode
capital_m = refl

capital_n : is_table CAPITAL_N.now ≡ true
unfolding is_utf8 chars lib.Utf8.encode
capital_n = refl

capital_o : is_table CAPITAL_O.now ≡ true
unfolding is_utf8 chars lib.Utf8.encode
capital_o = refl

capital_p : is_table CAPITAL_P.now ≡ true
unfolding is_utf8 chars lib.Utf8.encode
capital_p = refl

capital_q : is_table CAPITAL_Q.now ≡ true
unfolding is_utf8 chars lib.Utf8.encode
capital_q = refl

capital_r : is_table CAPITAL_R.now ≡ true
unfolding is_utf8 chars lib.Utf8.encode
capital_r = refl

capital_s : is_table CAPITAL_S.now ≡ true
unfolding is_utf8 chars lib.Utf8.encode
capital_s = refl

capital_t : is_table CAPITAL_T.now ≡ true
unfolding is_utf8 chars lib.Utf8.encode
capital_t = refl

capital_u : is_table CAPITAL_U.now ≡ true
unfolding is_utf8 chars lib.Utf8.encode
capital_u = refl

capital_v : is_table CAPITAL_V.now ≡ true
unfolding is_utf8 chars lib.Utf8.encode
capital_v = refl

capital_w : is_table CAPITAL_W.now ≡ true
unfolding is_utf8 chars lib.Utf8.encode
capital_w = refl

capital_x : is_table CAPITAL_X.now ≡ true
unfolding is_utf8 chars lib.Utf8.encode
capital_x = refl

capital_y : is_table CAPITAL_Y.now ≡ true
unfolding is_utf8 chars lib.Utf8.encode
capital_y = refl

capital_z : is_table CAPITAL_Z.now ≡ true
unfolding is_utf8 chars lib.Utf8.encode
capital_z = refl

small_a : is_table SMALL_A.now ≡ true
unfolding is_utf8 chars lib.Utf8.encode
small_a = refl

small_b : is_table SMALL_B.now ≡ true
unfolding is_utf8 chars lib.Utf8.encode
small_b = refl

small_c : is_table SMALL_C.now ≡ true
unfolding is_utf8 chars lib.Utf8.encode
small_c = refl

small_d : is_table SMALL_D.now ≡ true
unfolding is_utf8 chars lib.Utf8.encode
small_d = refl

small_e : is_table SMALL_E.now ≡ true
unfolding is_utf8 chars lib.Utf8.encode
small_e = refl

small_f : is_table SMALL_F.now ≡ true
unfolding is_utf8 chars lib.Utf8.encode
small_f = refl

small_g : is_table SMALL_G.now ≡ true
unfolding is_utf8 chars lib.Utf8.encode
small_g = refl

small_h : is_table SMALL_H.now ≡ true
unfolding is_utf8 chars lib.Utf8.encode
small_h = refl

small_i : is_table SMALL_I.now ≡ true
unfolding is_utf8 chars lib.Utf8.encode
small_i = refl

small_j : is_table SMALL_J.now ≡ true
unfolding is_utf8 chars lib.Utf8.encode
small_j = refl

small_k : is_table SMALL_K.now ≡ true
unfolding is_utf8 chars lib.Utf8.encode
small_k = refl

small_l : is_table SMALL_L.now ≡ true
unfolding is_utf8 chars lib.Utf8.encode
small_l = refl

small_m : is_table SMALL_M.now ≡ true
unfolding is_utf8 chars lib.Utf8.encode
small_m = refl

small_n : is_table SMALL_N.now ≡ true
unfolding is_utf8 chars lib.Utf8.encode
small_n = refl

small_o : is_table SMALL_O.now ≡ true
unfolding is_utf8 chars lib.Utf8.encode
small_o = refl

small_p : is_table SMALL_P.now ≡ true
unfolding is_utf8 chars lib.Utf8.encode
small_p = refl

small_q : is_table SMALL_Q.now ≡ true
unfolding is_utf8 chars lib.Utf8.encode
small_q = refl

small_r : is_table SMALL_R.now ≡ true
unfolding is_utf8 chars lib.Utf8.encode
small_r = refl

small_s : is_table SMALL_S.now ≡ true
unfolding is_utf8 chars lib.Utf8.encode
small_s = refl

small_t : is_table SMALL_T.now ≡ true
unfolding is_utf8 chars lib.Utf8.encode
small_t = refl

small_u : is_table SMALL_U.now ≡ true
unfolding is_utf8 chars lib.Utf8.encode
small_u = refl

small_v : is_table SMALL_V.now ≡ true
unfolding is_utf8 chars lib.Utf8.encode
small_v = refl

small_w : is_table SMALL_W.now ≡ true
unfolding is_utf8 chars lib.Utf8.encode
small_w = refl

small_x : is_table SMALL_X.now ≡ true
unfolding is_utf8 chars lib.Utf8.encode
small_x = refl

small_y : is_table SMALL_Y.now ≡ true
unfolding is_utf8 chars lib.Utf8.encode
small_y = refl

small_z : is_table SMALL_Z.now ≡ true
unfolding is_utf8 chars lib.Utf8.encode
small_z = refl

-- so is the text for each letter, or it is empty
abbrev Table : List ℕ → Type 0
Table t = (t ≡ []) ⊎ (is_table t ≡ true)

tables : (b : ℕ) → Table (entries_of b)
unfolding entries_of
tables b =
    pick (b == 65) CAPITAL_A.now _ capital_a (
    pick (b == 66) CAPITAL_B.now _ capital_b (
    pick (b == 67) CAPITAL_C.now _ capital_c (
    pick (b == 68) CAPITAL_D.now _ capital_d (
    pick (b == 69) CAPITAL_E.now _ capital_e (
    pick (b == 70) CAPITAL_F.now _ capital_f (
    pick (b == 71) CAPITAL_G.now _ capital_g (
    pick (b == 72) CAPITAL_H.now _ capital_h (
    pick (b == 73) CAPITAL_I.now _ capital_i (
    pick (b == 74) CAPITAL_J.now _ capital_j (
    pick (b == 75) CAPITAL_K.now _ capital_k (
    pick (b == 76) CAPITAL_L.now _ capital_l (
    pick (b == 77) CAPITAL_M.now _ capital_m (
    pick (b == 78) CAPITAL_N.now _ capital_n (
    pick (b == 79) CAPITAL_O.now _ capital_o (
    pick (b == 80) CAPITAL_P.now _ capital_p (
    pick (b == 81) CAPITAL_Q.now _ capital_q (
    pick (b == 82) CAPITAL_R.now _ capital_r (
    pick (b == 83) CAPITAL_S.now _ capital_s (
    pick (b == 84) CAPITAL_T.now _ capital_t (
    pick (b == 85) CAPITAL_U.now _ capital_u (
    pick (b == 86) CAPITAL_V.now _ capital_v (
    pick (b == 87) CAPITAL_W.now _ capital_w (
    pick (b == 88) CAPITAL_X.now _ capital_x (
    pick (b == 89) CAPITAL_Y.now _ capital_y (
    pick (b == 90) CAPITAL_Z.now _ capital_z (
    pick (b == 97) SMALL_A.now _ small_a (
    pick (b == 98) SMALL_B.now _ small_b (
    pick (b == 99) SMALL_C.now _ small_c (
    pick (b == 100) SMALL_D.now _ small_d (
    pick (b == 101) SMALL_E.now _ small_e (
    pick (b == 102) SMALL_F.now _ small_f (
    pick (b == 103) SMALL_G.now _ small_g (
    pick (b == 104) SMALL_H.now _ small_h (
    pick (b == 105) SMALL_I.now _ small_i (
    pick (b == 106) SMALL_J.now _ small_j (
    pick (b == 107) SMALL_K.now _ small_k (
    pick (b == 108) SMALL_L.now _ small_l (
    pick (b == 109) SMALL_M.now _ small_m (
    pick (b == 110) SMALL_N.now _ small_n (
    pick (b == 111) SMALL_O.now _ small_o (
    pick (b == 112) SMALL_P.now _ small_p (
    pick (b == 113) SMALL_Q.now _ small_q (
    pick (b == 114) SMALL_R.now _ small_r (
    pick (b == 115) SMALL_S.now _ small_s (
    pick (b == 116) SMALL_T.now _ small_t (
    pick (b == 117) SMALL_U.now _ small_u (
    pick (b == 118) SMALL_V.now _ small_v (
    pick (b == 119) SMALL_W.now _ small_w (
    pick (b == 120) SMALL_X.now _ small_x (
    pick (b == 121) SMALL_Y.now _ small_y (
    pick (b == 122) SMALL_Z.now _ small_z (
    inl refl))))))))))))))))))))))))))))))))))))))))))))))))))))
  where
    pick : (k : Bool) (x y : List ℕ) → is_table x ≡ true → Table y → Table (if k then x else y)
    pick true x y h r = inr h
    pick false x y h r = r

-- where the members of a set at the front of a list end, the list ends or has another byte
run_short : (c : Class) (bs : List ℕ) → run_length c bs ≤ length bs
run_short c [] = omega arith
run_short c (b ∷ bs) = subst (λ (ys : List ℕ). length ys ≤ length (b ∷ bs)) (sym (take_while-cons (is_in c) b bs)) (by (is_in c b) (run_short c bs))
  where
    by : (k : Bool) → run_length c bs ≤ length bs → length (cond k (b ∷ take_while (is_in c) bs) []) ≤ length (b ∷ bs)
    by true m = omega arith
    by false m = omega arith

run_stops : (c : Class) (bs : List ℕ) → run_length c bs < length bs → is_in c (byte_at bs (run_length c bs)) ≡ false
run_stops c [] l = absurd (omega arith)
run_stops c (b ∷ bs) l = by (is_in c b) refl (take_while-cons (is_in c) b bs) (run_stops c bs)
  where
    by : (k : Bool) → is_in c b ≡ k → take_while (is_in c) (b ∷ bs) ≡ cond k (b ∷ take_while (is_in c) bs) [] → (run_length c bs < length bs → is_in c (byte_at bs (run_length c bs)) ≡ false) → is_in c (byte_at (b ∷ bs) (run_length c (b ∷ bs))) ≡ false
    by true e f next = ap (λ (ys : List ℕ). is_in c (byte_at (b ∷ bs) (length ys))) f ∙ next (let q : run_length c (b ∷ bs) ≡ suc (run_length c bs) = ap (λ (ys : List ℕ). length ys) f in omega (arith, q, l))
    by false e f next = ap (λ (ys : List ℕ). is_in c (byte_at (b ∷ bs) (length ys))) f ∙ e

-- what is between a byte of ASCII and the end of its line is made of characters
feeds : (b : ℕ) → is_in (Except 10) b ≡ false → b ≡ 10
unfolding is_in
feeds b h = by (b == 10) refl h
  where
    by : (k : Bool) → (b == 10) ≡ k → not k ≡ false → b ≡ 10
    by true e f = grind (arith, nat_tests, e)
    by false e f = absurd (true≢false f)

inner_byte : (t : List ℕ) (i : ℕ) → byte_at t i ≡ 59 → i < length t
inner_byte t i h = by (nat_lt i (length t)) refl
  where
    by : (k : Bool) → nat_lt i (length t) ≡ k → i < length t
    by true e = grind (arith, nat_tests, e)
    by false e = let l : length t ≤ i = grind (arith, nat_tests, e) in absurd (let q : 59 ≡ 10 = sym h ∙ past_end t i l in omega (arith, q))

entry_text : (t : List ℕ) (q : ℕ) → is_table t ≡ true → byte_at t q ≡ 59 → IsUtf8 (entry_characters t (plus q 1)) × (0 < length (entry_characters t (plus q 1)))
unfolding entry_characters run_end
entry_text t q h semi = by (is_utf8 t) (nat_lt (length t) 4096) (byte_at t (length t - 1) == 10) refl refl refl h
  where
    by : (x y z : Bool) → is_utf8 t ≡ x → nat_lt (length t) 4096 ≡ y → (byte_at t (length t - 1) == 10) ≡ z → (x && y && z) ≡ true → IsUtf8 (bytes_between t (plus q 1) (plus (plus (plus q 1) 1) (run_length (Except 10) (drop (plus (plus q 1) 1) t)))) × (0 < length (bytes_between t (plus q 1) (plus (plus (plus q 1) 1) (run_length (Except 10) (drop (plus (plus q 1) 1) t)))))
    by true true true e f g k = subst (λ n. IsUtf8 (bytes_between t n (plus (plus n 1) (run_length (Except 10) (drop (plus n 1) t)))) × (0 < length (bytes_between t n (plus (plus n 1) (run_length (Except 10) (drop (plus n 1) t)))))) (sym first)
        (subst (λ n. IsUtf8 (bytes_between t (suc q) (plus n (run_length (Except 10) (drop n t)))) × (0 < length (bytes_between t (suc q) (plus n (run_length (Except 10) (drop n t)))))) (sym second)
        (subst (λ n. IsUtf8 (bytes_between t (suc q) n) × (0 < length (bytes_between t (suc q) n))) (sym third)
        (subst (λ (bs : List ℕ). IsUtf8 bs × (0 < length bs)) (sym cut) (IsUtf8-between t (suc q) end utf8 (omega arith) (after_low t q utf8 inner (omega (arith, semi))) stops, omega (arith, long, size, further, few, left)))))
      where
        utf8 : IsUtf8 t
        utf8 = IsUtf8-from_is_utf8 t e

        short : length t < 4096
        short = grind (arith, nat_tests, f)

        inner : q < length t
        inner = inner_byte t q semi

        last : byte_at t (length t - 1) ≡ 10
        last = grind (arith, nat_tests, g)

        further : suc q < length t
        further = near (nat_lt (suc q) (length t)) refl
          where
            near : (b : Bool) → nat_lt (suc q) (length t) ≡ b → suc q < length t
            near true w = grind (arith, nat_tests, w)
            near false w = let l : length t ≤ suc q = grind (arith, nat_tests, w) in let s : length t - 1 ≡ q = omega (arith, l, inner) in absurd (let z : 59 ≡ 10 = sym semi ∙ ap (byte_at t) (sym s) ∙ last in omega (arith, z))

        first : plus q 1 ≡ suc q
        first = omega (arith, short, inner)

        second : plus (suc q) 1 ≡ suc (suc q)
        second = omega (arith, short, inner)

        run : ℕ
        run = run_length (Except 10) (drop (suc (suc q)) t)

        left : length (drop (suc (suc q)) t) ≡ length t - suc (suc q)
        left = length-drop (suc (suc q)) t

        few : run ≤ length (drop (suc (suc q)) t)
        few = run_short (Except 10) (drop (suc (suc q)) t)

        end : ℕ
        end = suc (suc q) + run

        within : end ≤ length t
        within = omega (arith, few, left, further)

        third : plus (suc (suc q)) run ≡ end
        third = omega (arith, few, left, further, short)

        stops : IsCharBoundary t end
        stops = near (nat_lt end (length t)) refl
          where
            near : (b : Bool) → nat_lt end (length t) ≡ b → IsCharBoundary t end
            near true w = let l : end < length t = grind (arith, nat_tests, w) in before_low t end l (let z : byte_at t end ≡ 10 = sym (byte_drop (suc (suc q)) t run) ∙ feeds (byte_at (drop (suc (suc q)) t) run) (run_stops (Except 10) (drop (suc (suc q)) t) (omega (arith, l, left))) in omega (arith, z))
            near false w = let l : length t ≤ end = grind (arith, nat_tests, w) in let z : length t ≡ end = omega (arith, l, within) in subst (IsCharBoundary t) z (IsCharBoundary-end t)

        cut : bytes_between t (suc q) end ≡ take (end - suc q) (drop (suc q) t)
        cut = let x : nat_le (suc q) end ≡ true = grind (arith, nat_tests) in let y : nat_le end (length t) ≡ true = grind (arith, nat_tests, within) in rw (x, y) refl

        long : length (take (end - suc q) (drop (suc q) t)) ≡ min (end - suc q) (length (drop (suc q) t))
        long = length-take (end - suc q) (drop (suc q) t)

        size : length (drop (suc q) t) ≡ length t - suc q
        size = length-drop (suc q) t
    by true true false e f g k = absurd (true≢false (sym k))
    by true false z e f g k = absurd (true≢false (sym k))
    by false y z e f g k = absurd (true≢false (sym k))

some_same : (x y : List ℕ) → Some x ≡ Some y → x ≡ y
some_same x y e = let k : Some x ≡ Some y = e in cc

none_same : (x : List ℕ) → None ≡ Some x → ⊥
none_same x e = let k : None ≡ Some x = e in cc

entries_text : (t name cs : List ℕ) → Table t → characters_in t name ≡ Some cs → IsUtf8 cs × (0 < length cs)
unfolding characters_in is_entry
entries_text t name cs h e = by (starts_at t place name) (byte_at t (plus place (length name)) == 59) refl e
  where
    place : ℕ
    place = iterated (next_line t name) (length t) 0

    q : ℕ
    q = plus place (length name)

    full : byte_at t (plus place (length name)) ≡ 59 → Table t → IsUtf8 (entry_characters t (plus (plus place (length name)) 1)) × (0 < length (entry_characters t (plus (plus place (length name)) 1)))
    full semi (inl z) = absurd (let l : plus place (length name) < length t = inner_byte t (plus place (length name)) semi in let n : length t ≡ 0 = ap length z in omega (arith, l, n))
    full semi (inr z) = entry_text t (plus place (length name)) z semi

    by : (x y : Bool) → (byte_at t (plus place (length name)) == 59) ≡ y → (if x && y then Some (entry_characters t (plus (plus place (length name)) 1)) else None) ≡ Some cs → IsUtf8 cs × (0 < length cs)
    by true true f k = subst (λ (bs : List ℕ). IsUtf8 bs × (0 < length bs)) (some_same (entry_characters t (plus (plus place (length name)) 1)) cs k) (full (grind (arith, nat_tests, f)) h)
    by true false f k = absurd (none_same cs k)
    by false y f k = absurd (none_same cs k)

-- what a name stands for
pub named_text : (name cs : List ℕ) → characters_of name ≡ Some cs → IsUtf8 cs × (0 < length cs)
unfolding characters_of
named_text name cs e = by (is_name name) e
  where
    by : (x : Bool) → (if x then characters_in (entries_of (byte_at name 0)) name else None) ≡ Some cs → IsUtf8 cs × (0 < length cs)
    by true k = entries_text (entries_of (byte_at name 0)) name cs (tables (byte_at name 0)) k
    by false k = absurd (none_same cs k)
