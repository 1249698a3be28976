-- Where paths and destinations are cut.
use Rattle.std.proofs.Common.{◌≡◌, ◌≢◌, refl, sym, ◌∙◌, ap, subst, ℕ, suc, ◌<◌, ◌≤◌, ◌+◌, ◌-◌, ◌==◌, Bool, true, false, ◌||◌, List, [], ◌∷◌, ◌++◌, length, take, drop, All, true≢false, get_or, arith, Option, None, Some, unwrap_or, bytes_eq, if◌then◌else◌, inl, inr}
use Rattle.std.specs.Borrow.{Bor}
use Rattle.std.specs.Option.{option_and_then, option_copied, MatchOption}
use Rattle.std.specs.Str.{NoCharPasses}
use Rattle.std.specs.Str.Pattern.{FindsTextPrefix, FindsTextSuffix, RFindsChar, SplitsAroundMatch, StripsPrefix, StripsSuffix}
use Rattle.std.proofs.lemmas.List.{take-append-drop, length-take-le, drop_more, drop_all, take_rest}
use Rattle.std.proofs.lemmas.Str.{encode_ascii, NoCharPasses-byte}
use Rattle.std.proofs.lemmas.List.Elements.{All-head, All-tail}
use Rattle.std.proofs.lemmas.Bool.Decides.{eqb_tells}
use Rattle.std.proofs.lemmas.Slice.Eq.{bytes_eq-Decides}
use Rattle.percent_encoding.proofs.PercentLemmas.{All-percent_encode, IsEscapeByte}
use Rattle.percent_encoding.specs.AsciiSet.{should_percent_encode}
use Rattle.percent_encoding.specs.Percent.{percent_encode}
use Rattle.percent_encoding.specs.declared.ascii_set.AsciiSet.{AsciiSet}
use Rattle.tocmark_links.specs.Destinations.{ends_scheme, is_mark, is_scheme_byte, IsPlain, IsRest, path_of, rest_after, until}
use Rattle.tocmark_links.specs.Paths.{before, before_slash, below, folder_of, is_tail}
use Rattle.tocmark_links.proofs.Parts.{Lacks, lacks}

-- ---- folders

same-byte : (a : ℕ) → (a == a) ≡ true
same-byte a = elim (eqb_tells a a) [
  | inl t ↦ t.0
  | inr f ↦ absurd (f.1 refl)
]

pub below-found : (folder rest : List ℕ) → below folder (folder ++ rest) ≡ (if is_tail rest then Some rest else None)
below-found [] rest = refl
below-found (a ∷ folder) rest =
    ap (λ b. if b then below folder (folder ++ rest) else None) (same-byte a) ∙ below-found folder rest

pub below-lacks : (folder path : List ℕ) → ((rest : List ℕ) → path ≢ folder ++ rest) → below folder path ≡ None
below-lacks [] path h = absurd (h path refl)
below-lacks (a ∷ folder) [] h = refl
below-lacks (a ∷ folder) (b ∷ path) h = elim (eqb_tells a b) [
  | inl t ↦
      ap (λ s. if s then below folder path else None) t.0
      ∙ below-lacks folder path (λ rest e. h rest (ap (λ xs. b ∷ xs) e ∙ ap (λ x. x ∷ (folder ++ rest)) (sym t.1)))
  | inr f ↦ ap (λ s. if s then below folder path else None) f.0
]

pub below-text : (folder path : List ℕ) (r : Option (Bor (List ℕ))) → MatchOption r (FindsTextPrefix folder path None) (λ x. StripsPrefix (FindsTextPrefix folder) path x.now) → below folder path ≡ option_and_then (λ x. if is_tail x.now then Some x.now else None) r
below-text folder path None h = below-lacks folder path h
below-text folder path (Some x) h =
    ap (below folder) (h.1.1 ∙ ap (λ rest. folder ++ rest) (sym h.2)) ∙ below-found folder x.now

-- ---- endings

drop-front : (front rest : List ℕ) → drop (length front) (front ++ rest) ≡ rest
drop-front [] rest = refl
drop-front (b ∷ front) rest = drop-front front rest

ends-with : (path ending : List ℕ) (k : ℕ) → k ≤ length path → path ≡ take k path ++ ending → drop k path ≡ ending
ends-with path ending k within e =
    let fits : length (take k path) ≡ k = length-take-le k path within in
    ap (drop k) e ∙ ap (λ n. drop n (take k path ++ ending)) (sym fits) ∙ drop-front (take k path) ending

pub before-text : (path ending : List ℕ) (r : Option (Bor (List ℕ))) → MatchOption r (FindsTextSuffix ending path None) (λ x. StripsSuffix (FindsTextSuffix ending) path x.now) → option_copied r ≡ before path ending
before-text path ending None h = by (bytes_eq (drop k path) ending) refl
  where
    k : ℕ
    k = length path - length ending

    by : (s : Bool) → bytes_eq (drop k path) ending ≡ s → None ≡ (if s then Some (take k path) else None)
    by false e = refl
    by true e =
        absurd (h (take k path) (sym (take-append-drop k path) ∙ ap (λ xs. take k path ++ xs) ((bytes_eq-Decides (drop k path) ending).0 e)))
before-text path ending (Some x) h =
    let k : ℕ = length path - length ending in
    let same : length path - h.0 ≡ k = ap (λ n. length path - n) h.1.0 in
    let whole : path ≡ take k path ++ ending = h.1.1 ∙ ap (λ n. take n path ++ ending) same in
    let is : bytes_eq (drop k path) ending ≡ true =
    (bytes_eq-Decides (drop k path) ending).1 (ends-with path ending k (omega arith) whole) in
    ap Some (h.2 ∙ ap (λ n. take n path) same) ∙ sym (ap (λ s. if s then Some (take k path) else None) is)

-- ---- the last slash

no-slash : (path : List ℕ) → Lacks path → before_slash path ≡ None
no-slash [] h = refl
no-slash (b ∷ path) h = rw (no-slash path h.1, h.0) refl

last-slash : (front name : List ℕ) → Lacks name → before_slash (front ++ (47 ∷ name)) ≡ Some front
last-slash [] name h = rw (no-slash name h) refl
last-slash (b ∷ front) name h = rw (last-slash front name h) refl

lacks-slash : (bytes : List ℕ) → NoCharPasses (λ d. d == 47) bytes → Lacks bytes
lacks-slash bytes h =
    lacks bytes
    (λ i within q. true≢false (sym (ap (λ b. b == 47) q) ∙ NoCharPasses-byte (λ d. d == 47) bytes i h within (omega (arith, q))))

pub folder-none : (path : List ℕ) → RFindsChar 47 path None → [] ≡ folder_of path
folder-none path h = sym (ap (λ o. unwrap_or o []) (no-slash path (lacks-slash path h)))

pub folder-some : (path front name : List ℕ) → SplitsAroundMatch (RFindsChar 47) path front name → front ≡ folder_of path
folder-some path front name h =
    let after : drop h.0 path ≡ 47 ∷ drop h.1 path = h.2.1.split ∙ ap (λ l. l ++ drop h.1 path) (encode_ascii 47 (omega arith)) in
    let whole : path ≡ front ++ (47 ∷ name) =
    sym (take-append-drop h.0 path) ∙ ap (λ xs. take h.0 path ++ xs) after ∙ ap (λ xs. xs ++ (47 ∷ drop h.1 path)) (sym h.3) ∙ ap (λ xs. front ++ (47 ∷ xs)) (sym h.4) in
    let free : Lacks name = lacks-slash name (subst (NoCharPasses (λ d. d == 47)) (sym h.4) h.2.0) in
    sym (ap (λ o. unwrap_or o []) (ap before_slash whole ∙ last-slash front name free))

-- ---- the name of a scheme

pub scheme-here : (bytes : List ℕ) (i d : ℕ) → i < length bytes → ends_scheme (drop i bytes) ≡ ends_scheme bytes → is_scheme_byte (get_or bytes i d) ≡ false → (get_or bytes i d == 58) ≡ ends_scheme bytes
scheme-here bytes i d within h e =
    sym
    (
    ap ends_scheme (drop_more bytes i d within)
    ∙ ap (λ s. if s then ends_scheme (drop (i + 1) bytes) else get_or bytes i d == 58) e
    )
    ∙ h

pub scheme-more : (bytes : List ℕ) (i d : ℕ) → i < length bytes → ends_scheme (drop i bytes) ≡ ends_scheme bytes → is_scheme_byte (get_or bytes i d) ≡ true → ends_scheme (drop (i + 1) bytes) ≡ ends_scheme bytes
scheme-more bytes i d within h e =
    sym
    (
    ap ends_scheme (drop_more bytes i d within)
    ∙ ap (λ s. if s then ends_scheme (drop (i + 1) bytes) else get_or bytes i d == 58) e
    )
    ∙ h

pub scheme-end : (bytes : List ℕ) (i : ℕ) → length bytes ≤ i → ends_scheme (drop i bytes) ≡ ends_scheme bytes → false ≡ ends_scheme bytes
scheme-end bytes i past h = sym (ap ends_scheme (drop_all i bytes past)) ∙ h

-- ---- what is before a mark

pub until-stops : (mark : ℕ) (front rest : List ℕ) → ((i : ℕ) → i < length front → get_or front i 0 ≢ mark) → until mark (front ++ (mark ∷ rest)) ≡ front
until-stops mark [] rest h = ap (λ b. if b then [] else mark ∷ until mark rest) (same-byte mark)
until-stops mark (b ∷ front) rest h = elim (eqb_tells b mark) [
  | inl t ↦ absurd (h 0 (omega arith) t.1)
  | inr f ↦
      ap (λ s. if s then [] else b ∷ until mark (front ++ (mark ∷ rest))) f.0
      ∙ ap (λ xs. b ∷ xs) (until-stops mark front rest (λ i within. h (suc i) (omega (arith, within))))
]

pub until-all : (mark : ℕ) (bytes : List ℕ) → ((i : ℕ) → i < length bytes → get_or bytes i 0 ≢ mark) → until mark bytes ≡ bytes
until-all mark [] h = refl
until-all mark (b ∷ bytes) h = elim (eqb_tells b mark) [
  | inl t ↦ absurd (h 0 (omega arith) t.1)
  | inr f ↦
      ap (λ s. if s then [] else b ∷ until mark bytes) f.0
      ∙ ap (λ xs. b ∷ xs) (until-all mark bytes (λ i within. h (suc i) (omega (arith, within))))
]

-- a front, the byte that ends it, and a rest: the front is found again, and so is the rest
pub until-cut : (mark : ℕ) (bytes rest : List ℕ) → until mark (until mark bytes ++ (mark ∷ rest)) ≡ until mark bytes
until-cut mark [] rest = ap (λ s. if s then [] else mark ∷ until mark rest) (same-byte mark)
until-cut mark (b ∷ bytes) rest = by (b == mark) refl (until-cut mark bytes rest)
  where
    by : (m : Bool) → (b == mark) ≡ m → until mark (until mark bytes ++ (mark ∷ rest)) ≡ until mark bytes → until mark ((if m then [] else b ∷ until mark bytes) ++ (mark ∷ rest)) ≡ (if m then [] else b ∷ until mark bytes)
    by true e ih = ap (λ s. if s then [] else mark ∷ until mark rest) (same-byte mark)
    by false e ih =
        ap (λ s. if s then [] else b ∷ until mark (until mark bytes ++ (mark ∷ rest))) e ∙ ap (λ xs. b ∷ xs) ih

pub after-cut : (mark : ℕ) (bytes rest : List ℕ) → rest_after mark (until mark bytes ++ (mark ∷ rest)) ≡ rest
after-cut mark [] rest = ap (λ s. if s then rest else rest_after mark rest) (same-byte mark)
after-cut mark (b ∷ bytes) rest = by (b == mark) refl (after-cut mark bytes rest)
  where
    by : (m : Bool) → (b == mark) ≡ m → rest_after mark (until mark bytes ++ (mark ∷ rest)) ≡ rest → rest_after mark ((if m then [] else b ∷ until mark bytes) ++ (mark ∷ rest)) ≡ rest
    by true e ih = ap (λ s. if s then rest else rest_after mark rest) (same-byte mark)
    by false e ih =
        ap (λ s. if s then until mark bytes ++ (mark ∷ rest) else rest_after mark (until mark bytes ++ (mark ∷ rest))) e ∙ ih

rest-is : (bytes : List ℕ) → IsRest (drop (length (path_of bytes)) bytes)
rest-is [] = tt
rest-is (b ∷ bytes) = by (b == 35) (b == 63) refl refl (rest-is bytes)
  where
    front : Bool → List ℕ
    front n = if n then [] else b ∷ until 63 (until 35 bytes)

    by : (m n : Bool) → (b == 35) ≡ m → (b == 63) ≡ n → IsRest (drop (length (path_of bytes)) bytes) → IsRest (drop (length (until 63 (if m then [] else b ∷ until 35 bytes))) (b ∷ bytes))
    by true n e f ih = ap (λ s. s || (b == 63)) e
    by false true e f ih = subst (λ s. IsRest (drop (length (front s)) (b ∷ bytes))) (sym f) (ap (λ s. s || (b == 63)) e ∙ f)
    by false false e f ih = subst (λ s. IsRest (drop (length (front s)) (b ∷ bytes))) (sym f) ih

pub rest-from : (bytes rest : List ℕ) (i : ℕ) → i ≡ length (path_of bytes) → rest ≡ take (length bytes - i) (drop i bytes) → IsRest rest
rest-from bytes rest i e r =
    subst IsRest (ap (λ n. drop n bytes) (sym e) ∙ sym (r ∙ take_rest bytes i)) (rest-is bytes)

pub path-back : (path rest : List ℕ) → All IsPlain path → IsRest rest → path_of (path ++ rest) ≡ path
path-back [] [] h r = refl
path-back [] (b ∷ rest) h r = by (b == 35) (b == 63) refl refl
  where
    by : (m n : Bool) → (b == 35) ≡ m → (b == 63) ≡ n → until 63 (if m then [] else b ∷ until 35 rest) ≡ []
    by true n e f = refl
    by false true e f = ap (λ s. if s then [] else b ∷ until 63 (until 35 rest)) f
    by false false e f = absurd (true≢false (sym r ∙ ap (λ s. s || (b == 63)) e ∙ f))
path-back (b ∷ path) rest h r =
    by (b == 35) (b == 63) refl refl (All-head IsPlain b path h) (path-back path rest (All-tail IsPlain b path h) r)
  where
    by : (m n : Bool) → (b == 35) ≡ m → (b == 63) ≡ n → is_mark b ≡ false → path_of (path ++ rest) ≡ path → until 63 (if m then [] else b ∷ until 35 (path ++ rest)) ≡ b ∷ path
    by true n e f plain ih = absurd (true≢false (sym (ap (λ s. s || (b == 63)) e) ∙ plain))
    by false true e f plain ih = absurd (true≢false (sym (ap (λ s. s || (b == 63)) e ∙ f) ∙ plain))
    by false false e f plain ih = ap (λ s. if s then [] else b ∷ until 63 (until 35 (path ++ rest))) f ∙ ap (λ xs. b ∷ xs) ih

-- ---- marks

module _ (set : AsciiSet) where
  plain-kept : should_percent_encode set 35 ≡ true → should_percent_encode set 63 ≡ true → (b : ℕ) → should_percent_encode set b ≡ false → IsPlain b
  plain-kept h q b kept = by (b == 35) (b == 63) refl refl
    where
      by : (m n : Bool) → (b == 35) ≡ m → (b == 63) ≡ n → (m || n) ≡ false
      by true n e f = absurd (grind (arith, h, kept, e))
      by false true e f = absurd (grind (arith, q, kept, f))
      by false false e f = refl

  plain-escape : (b : ℕ) → IsEscapeByte b → IsPlain b
  plain-escape b h = grind (arith, h)

  pub plain-text : (bytes : List ℕ) → should_percent_encode set 35 ≡ true → should_percent_encode set 63 ≡ true → All IsPlain (percent_encode set bytes)
  plain-text bytes h q = All-percent_encode IsPlain set bytes (plain-kept h q) plain-escape
