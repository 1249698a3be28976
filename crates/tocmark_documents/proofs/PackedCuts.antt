-- Where the packed form of one value ends, and where none begins.
use Rattle.std.proofs.Common.{◌≡◌, ◌∙◌, ◌<◌, ◌≤◌, ◌+◌, ◌*◌, ◌/◌, ◌%◌, ℕ, zero, suc, List, [], ◌∷◌, ◌++◌, None, Some, ap, append-nil, append_assoc, arith, get_or, length, map, refl, subst, sym, string_bytes, take}
use Rattle.std.proofs.lemmas.List.{length-append, length-map, take-append-le, take_all}
use Rattle.std.proofs.lemmas.List.Concat.{flat_map-append}
use Rattle.std.proofs.lemmas.Nat.{div-add-mod', div-mul-add, mod-mul-add}
use Rattle.std.proofs.lemmas.Str.{IsUtf8-string_bytes}
use Rattle.std.specs.Int.{from_le_bytes, w64}
use Rattle.std.specs.List.{flat_map}
use Rattle.std.specs.Str.{IsUtf8}
use Rattle.tocmark_documents.specs.Packed.{digits_and_rest, packed_byte, packed_list, packed_number, packed_option, packed_text}
use Rattle.tocmark_documents.specs.Unpacked.{BeginsNone, own_text}

-- ---- numbers

digits_cut : (k a b : ℕ) (r s : List ℕ) → digits_and_rest k a ++ r ≡ digits_and_rest k b ++ s → (a ≡ b) × (r ≡ s)
digits_cut zero a b r s h =
    let step : a ∷ r ≡ b ∷ s = h in
    let same : a ≡ b = cc in
    let rest : r ≡ s = cc in
    (same, rest)
digits_cut (suc k) a b r s h =
    let step : a % 256 ∷ (digits_and_rest k (a / 256) ++ r) ≡ b % 256 ∷ (digits_and_rest k (b / 256) ++ s) = h in
    let low : a % 256 ≡ b % 256 = cc in
    let rest : digits_and_rest k (a / 256) ++ r ≡ digits_and_rest k (b / 256) ++ s = cc in
    let later = digits_cut k (a / 256) (b / 256) r s rest in
    let same : a ≡ b = sym (div-add-mod' a 256) ∙ (ap (λ q. q * 256 + a % 256) later.0 ∙ (ap (λ m. b / 256 * 256 + m) low ∙ div-add-mod' b 256)) in
    (same, later.1)

pub number_cut : (a b : ℕ) (r s : List ℕ) → packed_number a ++ r ≡ packed_number b ++ s → (a ≡ b) × (r ≡ s)
unfolding packed_number
number_cut a b r s h = digits_cut 7 a b r s h

pub number_length : (n : ℕ) → length (packed_number n) ≡ 8
unfolding packed_number
number_length n = omega arith

digits_step : (k n b m : ℕ) → b < 256 → n ≡ m * 256 + b → digits_and_rest (suc k) n ≡ b ∷ digits_and_rest k m
digits_step k n b m below is =
    ap (λ x. x % 256 ∷ digits_and_rest k (x / 256)) is
    ∙ (ap (λ x. x ∷ digits_and_rest k ((m * 256 + b) / 256)) (mod-mul-add m 256 b below)
    ∙ ap (λ x. b ∷ digits_and_rest k x) (div-mul-add m 256 b below))

eight : (a b c d e f g h n : ℕ) → a < 256 → b < 256 → c < 256 → d < 256 → e < 256 → f < 256 → g < 256 → n ≡ from_le_bytes w64 (a ∷ b ∷ c ∷ d ∷ e ∷ f ∷ g ∷ h ∷ []) → a ∷ b ∷ c ∷ d ∷ e ∷ f ∷ g ∷ h ∷ [] ≡ digits_and_rest 7 n
eight a b c d e f g h n la lb lc ld le lf lg is =
    let m6 = h * 256 + g in
    let m5 = m6 * 256 + f in
    let m4 = m5 * 256 + e in
    let m3 = m4 * 256 + d in
    let m2 = m3 * 256 + c in
    let m1 = m2 * 256 + b in
    let whole : n ≡ m1 * 256 + a = is ∙ omega arith in
    sym (digits_step 6 n a m1 la whole
    ∙ ap (λ x. a ∷ x) (digits_step 5 m1 b m2 lb refl
    ∙ ap (λ x. b ∷ x) (digits_step 4 m2 c m3 lc refl
    ∙ ap (λ x. c ∷ x) (digits_step 3 m3 d m4 ld refl
    ∙ ap (λ x. d ∷ x) (digits_step 2 m4 e m5 le refl
    ∙ ap (λ x. e ∷ x) (digits_step 1 m5 f m6 lf refl
    ∙ ap (λ x. f ∷ x) (digits_step 0 m6 g h lg refl)))))))

pub number_read : (bs : List ℕ) (n : ℕ) → length bs ≡ 8 → ((i : ℕ) → get_or bs i 0 < 256) → n ≡ from_le_bytes w64 bs → bs ≡ packed_number n
unfolding packed_number
number_read (a ∷ b ∷ c ∷ d ∷ e ∷ f ∷ g ∷ h ∷ []) n size below is =
    eight a b c d e f g h n (below 0) (below 1) (below 2) (below 3) (below 4) (below 5) (below 6) is
number_read bs n size below is = absurd (omega arith)

pub number_short : (old : List ℕ) → length old < 8 → BeginsNone packed_number old
number_short old lt n rest h =
    let size : length old ≡ length (packed_number n) + length rest = ap length h ∙ length-append (packed_number n) rest in
    let eight = number_length n in
    omega arith

-- ---- texts

pub text_read : (old mid front new : List ℕ) (n : ℕ) → old ≡ packed_number n ++ mid → mid ≡ front ++ new → length front ≡ n → old ≡ packed_text front ++ new
unfolding packed_text
text_read old mid front new n is split size =
    is ∙ (ap (λ x. packed_number n ++ x) split ∙ (sym (append_assoc (packed_number n) front new) ∙ ap (λ x. packed_number x ++ front ++ new) (sym size)))

text_cut : (n : ℕ) (s mid rest : List ℕ) → packed_number n ++ mid ≡ packed_text s ++ rest → (n ≡ length s) × (mid ≡ s ++ rest)
unfolding packed_text
text_cut n s mid rest h = number_cut n (length s) mid (s ++ rest) (h ∙ append_assoc (packed_number (length s)) s rest)

pub text_short : (old mid : List ℕ) (n : ℕ) → old ≡ packed_number n ++ mid → length mid < n → BeginsNone own_text old
text_short old mid n is lt s rest h =
    let p = text_cut n (string_bytes s) mid rest (sym is ∙ h) in
    let size : length mid ≡ length (string_bytes s) + length rest = ap length p.1 ∙ length-append (string_bytes s) rest in
    omega arith

pub text_broken : (old mid front : List ℕ) (n : ℕ) → old ≡ packed_number n ++ mid → front ≡ take n mid → (IsUtf8 front → ⊥) → BeginsNone own_text old
text_broken old mid front n is split broken s rest h =
    let text = string_bytes s in
    let p = text_cut n text mid rest (sym is ∙ h) in
    let whole : take n mid ≡ text = ap (take n) p.1 ∙ (take-append-le n text rest (omega arith) ∙ take_all n text (omega arith)) in
    broken (subst IsUtf8 (sym (split ∙ whole)) (IsUtf8-string_bytes s))

pub text_lacks : (old : List ℕ) → BeginsNone packed_number old → BeginsNone own_text old
unfolding packed_text
text_lacks old lacks s rest h = lacks (length (string_bytes s)) (string_bytes s ++ rest) (h ∙ append_assoc (packed_number (length (string_bytes s))) (string_bytes s) rest)

-- ---- what is after a value doesn't depend on how it was read

abbrev pub Cuts : {X A : Type 0} → (X → List ℕ) → (A → List ℕ) → Type 0
Cuts {X} {A} f g = (x : X) (a : A) (r s : List ℕ) → f x ++ r ≡ g a ++ s → r ≡ s

same_size : (x y r s : List ℕ) → length x ≡ length y → x ++ r ≡ y ++ s → r ≡ s
same_size [] [] r s size h = h
same_size [] (b ∷ y) r s size h = absurd (omega arith)
same_size (a ∷ x) [] r s size h = absurd (omega arith)
same_size (a ∷ x) (b ∷ y) r s size h =
    let step : a ∷ (x ++ r) ≡ b ∷ (y ++ s) = h in
    let rest : x ++ r ≡ y ++ s = cc in
    same_size x y r s (omega arith) rest

pub text_cuts : Cuts packed_text own_text
unfolding packed_text
text_cuts x a r s h =
    let y = string_bytes a in
    let p = number_cut (length x) (length y) (x ++ r) (y ++ s) (sym (append_assoc (packed_number (length x)) x r) ∙ (h ∙ append_assoc (packed_number (length y)) y s)) in
    same_size x y r s p.0 p.1

pub byte_cuts : {X A : Type 0} (f : X → ℕ) (g : A → ℕ) → Cuts (packed_byte f) (packed_byte g)
byte_cuts f g x a r s h =
    let step : f x ∷ r ≡ g a ∷ s = h in
    let rest : r ≡ s = cc in
    rest

pub option_cuts : {X A : Type 0} (f : X → List ℕ) (g : A → List ℕ) → Cuts f g → Cuts (packed_option f) (packed_option g)
option_cuts f g cut None None r s h =
    let step : 0 ∷ r ≡ 0 ∷ s = h in
    let rest : r ≡ s = cc in
    rest
option_cuts f g cut None (Some a) r s h =
    let step : 0 ∷ r ≡ 1 ∷ (g a ++ s) = h in
    absurd cc
option_cuts f g cut (Some x) None r s h =
    let step : 1 ∷ (f x ++ r) ≡ 0 ∷ s = h in
    absurd cc
option_cuts f g cut (Some x) (Some a) r s h =
    let step : 1 ∷ (f x ++ r) ≡ 1 ∷ (g a ++ s) = h in
    let rest : f x ++ r ≡ g a ++ s = cc in
    cut x a r s rest

-- ---- lists

-- so many elements of a list that should have n of them are read
abbrev pub HasRead : {X : Type 0} → (X → List ℕ) → ℕ → List X → ℕ → List ℕ → List ℕ → Type 0
HasRead f n xs len old mid = (old ≡ packed_number n ++ (flat_map f xs ++ mid)) × (length xs ≡ len) × (len ≤ n)

module _ {X A : Type 0} (f : X → List ℕ) (g : A → List ℕ) (cut : Cuts f g) where
  flat_cuts : (xs : List X) (ys : List A) (r s : List ℕ) → length xs ≡ length ys → flat_map f xs ++ r ≡ flat_map g ys ++ s → r ≡ s
  flat_cuts [] [] r s size h = h
  flat_cuts [] (y ∷ ys) r s size h = absurd (omega arith)
  flat_cuts (x ∷ xs) [] r s size h = absurd (omega arith)
  flat_cuts (x ∷ xs) (y ∷ ys) r s size h =
      flat_cuts xs ys r s (omega arith) (cut x y (flat_map f xs ++ r) (flat_map g ys ++ s) (sym (append_assoc (f x) (flat_map f xs) r) ∙ (h ∙ append_assoc (g y) (flat_map g ys) s)))

  pub list_cuts : Cuts (packed_list f) (packed_list g)
  unfolding packed_list
  list_cuts xs ys r s h =
      let p = number_cut (length xs) (length ys) (flat_map f xs ++ r) (flat_map g ys ++ s) (sym (append_assoc (packed_number (length xs)) (flat_map f xs) r) ∙ (h ∙ append_assoc (packed_number (length ys)) (flat_map g ys) s)) in
      flat_cuts xs ys r s p.0 p.1

  flat_lacks : (xs : List X) (ys : List A) (mid s : List ℕ) → length xs < length ys → flat_map f xs ++ mid ≡ flat_map g ys ++ s → BeginsNone g mid → ⊥
  flat_lacks xs [] mid s lt h lacks = omega arith
  flat_lacks [] (y ∷ ys) mid s lt h lacks = lacks y (flat_map g ys ++ s) (h ∙ append_assoc (g y) (flat_map g ys) s)
  flat_lacks (x ∷ xs) (y ∷ ys) mid s lt h lacks =
      flat_lacks xs ys mid s (omega arith) (cut x y (flat_map f xs ++ mid) (flat_map g ys ++ s) (sym (append_assoc (f x) (flat_map f xs) mid) ∙ (h ∙ append_assoc (g y) (flat_map g ys) s))) lacks

  -- an element that is missing
  pub list_lacks : (n : ℕ) (xs : List X) (len : ℕ) (old mid : List ℕ) → HasRead f n xs len old mid → len < n → BeginsNone g mid → BeginsNone (packed_list g) old
  unfolding packed_list
  list_lacks n xs len old mid has lt lacks ys e h =
      let is : old ≡ packed_number n ++ (flat_map f xs ++ mid) = has.0 in
      let before : length xs ≡ len = has.1 in
      let p = number_cut n (length ys) (flat_map f xs ++ mid) (flat_map g ys ++ e) (sym is ∙ (h ∙ append_assoc (packed_number (length ys)) (flat_map g ys) e)) in
      flat_lacks xs ys mid e (omega arith) p.1 lacks

pub list_none : {A : Type 0} (g : A → List ℕ) (old : List ℕ) → BeginsNone packed_number old → BeginsNone (packed_list g) old
unfolding packed_list
list_none g old lacks ys e h = lacks (length ys) (flat_map g ys ++ e) (h ∙ append_assoc (packed_number (length ys)) (flat_map g ys) e)

pub list_begun : {X : Type 0} (f : X → List ℕ) (n : ℕ) (xs : List X) (len : ℕ) (old mid : List ℕ) → old ≡ packed_number n ++ mid → xs ≡ [] → len ≡ 0 → HasRead f n xs len old mid
list_begun f n xs len old mid is none size =
    let empty : length xs ≡ 0 = ap length none in
    let read : old ≡ packed_number n ++ (flat_map f xs ++ mid) = is ∙ ap (λ z. packed_number n ++ (flat_map f z ++ mid)) (sym none) in
    let same : length xs ≡ len = omega arith in
    let few : len ≤ n = omega arith in
    (read, same, few)

-- one more element
pub list_more : {X : Type 0} (f : X → List ℕ) (n : ℕ) (xs : List X) (len : ℕ) (old mid : List ℕ) → HasRead f n xs len old mid → len < n → (x : X) (new : List ℕ) → mid ≡ f x ++ new → (more : List X) → more ≡ xs ++ x ∷ [] → (size : ℕ) → size ≡ len + 1 → HasRead f n more size old new
list_more f n xs len old mid has lt x new read more pushed size longer =
    let joined : flat_map f more ≡ flat_map f xs ++ f x = ap (flat_map f) pushed ∙ (flat_map-append f xs (x ∷ []) ∙ ap (λ z. flat_map f xs ++ z) (append-nil (f x))) in
    let whole : flat_map f xs ++ mid ≡ flat_map f more ++ new = ap (λ z. flat_map f xs ++ z) read ∙ (sym (append_assoc (flat_map f xs) (f x) new) ∙ ap (λ z. z ++ new) (sym joined)) in
    let grown : length more ≡ length xs + 1 = ap length pushed ∙ length-append xs (x ∷ []) in
    let before : length xs ≡ len = has.1 in
    let same : length more ≡ size = omega arith in
    let few : size ≤ n = omega arith in
    (has.0 ∙ ap (λ z. packed_number n ++ z) whole, same, few)

-- past the last one
pub list_read : {X : Type 0} (f : X → List ℕ) (n : ℕ) (xs : List X) (len : ℕ) (old new : List ℕ) → HasRead f n xs len old new → n ≤ len → old ≡ packed_list f xs ++ new
unfolding packed_list
list_read f n xs len old new has past =
    let before : length xs ≡ len = has.1 in
    let few : len ≤ n = has.2 in
    let all : n ≡ length xs = omega arith in
    has.0 ∙ (sym (append_assoc (packed_number n) (flat_map f xs) new) ∙ ap (λ z. packed_number z ++ flat_map f xs ++ new) all)

flat_viewed : {X V : Type 0} (f : V → List ℕ) (view : X → V) (xs : List X) → flat_map (λ x. f (view x)) xs ≡ flat_map f (map view xs)
flat_viewed f view [] = refl
flat_viewed f view (x ∷ xs) = ap (λ z. f (view x) ++ z) (flat_viewed f view xs)

-- the elements as plain values
pub list_viewed : {X V : Type 0} (f : V → List ℕ) (view : X → V) (xs : List X) → packed_list (λ x. f (view x)) xs ≡ packed_list f (map view xs)
unfolding packed_list
list_viewed f view xs = ap (λ z. packed_number z ++ flat_map (λ x. f (view x)) xs) (sym (length-map xs view)) ∙ ap (λ z. packed_number (length (map view xs)) ++ z) (flat_viewed f view xs)

-- ---- one value after another

abbrev pub both : {A B : Type 0} → (A → List ℕ) → (B → List ℕ) → A × B → List ℕ
both g h p = g p.0 ++ h p.1

pub none_first : {A B : Type 0} (g : A → List ℕ) (h : B → List ℕ) (old : List ℕ) → BeginsNone g old → BeginsNone (both g h) old
none_first g h old lacks p e is = lacks p.0 (h p.1 ++ e) (is ∙ append_assoc (g p.0) (h p.1) e)

pub none_behind : {X A B : Type 0} (f : X → List ℕ) (g : A → List ℕ) (h : B → List ℕ) → Cuts f g → (x : X) (old mid : List ℕ) → old ≡ f x ++ mid → BeginsNone h mid → BeginsNone (both g h) old
none_behind f g h cut x old mid read lacks p e is =
    lacks p.1 e (cut x p.0 mid (h p.1 ++ e) (sym read ∙ (is ∙ append_assoc (g p.0) (h p.1) e)))

pub none_alike : {A : Type 0} (f g : A → List ℕ) (old : List ℕ) → ((a : A) → f a ≡ g a) → BeginsNone f old → BeginsNone g old
none_alike f g old same lacks a e is = lacks a e (is ∙ ap (λ z. z ++ e) (sym (same a)))
