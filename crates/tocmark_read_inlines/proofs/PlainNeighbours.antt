-- When a part is read as it is meant, by the byte before it and the byte after it.
use Rattle.std.proofs.Common.{◌≡◌, ℕ, zero, suc, ◌+◌, ◌-◌, ◌^◌, ◌<◌, Bool, true, false, ◌==◌, ◌&&◌, if◌then◌else◌, nat_lt, List, [], ◌∷◌, ◌++◌, length, drop, codes, Option, Some, None, refl, ap, sym, subst, ◌∙◌, arith, append_assoc, length-append, ◌⊎◌, inl, inr, true≢false}
use Rattle.std.proofs.lemmas.Bool.Decides.{nat_tests}
use Rattle.std.specs.Char.{is_ascii_alphanumeric, is_ascii_punctuation}
use Rattle.tocmark_read_scan.specs.Basic.{plus, byte_at, starts_at}
use Rattle.tocmark_read_tokens.specs.Reference.{is_escape}
use Rattle.tocmark_read_tokens.specs.declared.reference.Reference.{Reference}
use Rattle.tocmark_read_scan.specs.Side.{side_before}
use Rattle.tocmark_read_scan.specs.declared.side.Side.TheVariants.{Other}
use Rattle.tocmark_read_scan.proofs.PlainSides.{side_at_letter, side_before_letter}
use Rattle.tocmark_read_scan.proofs.PlainPlaces.{drop_at, byte_front}
use Rattle.tocmark_read_tokens.proofs.PlainReferences.{amp_reference, space_reference}
use Rattle.tocmark_read_inlines.specs.Scan as s
use Rattle.tocmark_read_spans.specs.declared.definitions.Entry.{Entry}
use Rattle.tocmark_read_inlines.proofs.PlainInlines.{IsInert}
use Rattle.tocmark_read_inlines.proofs.PlainPasses.{IsReadAt, AreRead}
use Rattle.tocmark_read_inlines.proofs.PlainParts.{inert_is_read, exclamation_is_read, backslash_is_read, underscore_is_read}
use Rattle.tocmark_read_scan.specs.PlainParts.{Part, Bare, Escaped, Referred, Feed, spelled_part, spelled, last_byte}

-- a byte that means itself between the bytes before and after it; a line feed stands for none
abbrev pub IsPlainByte : ℕ → ℕ → ℕ → Type 0
IsPlainByte before b behind =
    IsInert b
    ⊎ ((b ≡ 33) × ((behind == 91) ≡ false))
    ⊎ ((b ≡ 92) × (is_ascii_punctuation behind ≡ false) × ((behind == 10) ≡ false))
    ⊎ ((b ≡ 95) × (is_ascii_alphanumeric before ≡ true) × (is_ascii_alphanumeric behind ≡ true))

-- a part that is read as it is meant between these bytes
abbrev pub IsPlainPart : ℕ → Part → ℕ → Type 0
IsPlainPart before (Bare b) behind = IsPlainByte before b behind
IsPlainPart before (Escaped b) behind = is_ascii_punctuation b ≡ true
IsPlainPart before (Referred c bs) behind = ((c ≡ 38) × (bs ≡ 97 ∷ 109 ∷ 112 ∷ 59 ∷ [])) ⊎ ((c ≡ 32) × (bs ≡ 35 ∷ 51 ∷ 50 ∷ 59 ∷ []))
IsPlainPart before Feed behind = (before == 32) ≡ false

-- parts that are read as they are meant, after a byte
abbrev pub ArePlainParts : ℕ → List Part → Type 0
ArePlainParts before [] = Unit {0}
ArePlainParts before (a ∷ parts) = IsPlainPart before a (byte_at (spelled parts) 0) × ArePlainParts (last_byte before (spelled_part a)) parts

-- the byte before a place
abbrev pub before_at : List ℕ → ℕ → ℕ
before_at bytes p = if p == 0 then 10 else byte_at bytes (p - 1)

before_next : (bytes : List ℕ) (p : ℕ) → before_at bytes (suc p) ≡ byte_at bytes (suc p - 1)
before_next bytes p = let some : (suc p == 0) ≡ false = grind (arith, nat_tests) in rw some refl

alphanumeric_small : (c : ℕ) → is_ascii_alphanumeric c ≡ true → c < 123
alphanumeric_small c h = grind (arith, h, nat_tests)

alphanumeric_other : (c : ℕ) → is_ascii_alphanumeric c ≡ true → (c == 95) ≡ false
alphanumeric_other c h = grind (arith, h, nat_tests)

no_image : (bytes rest : List ℕ) (p : ℕ) → drop p bytes ≡ 33 ∷ rest → (byte_at rest 0 == 91) ≡ false → starts_at bytes p (codes "![") ≡ false
unfolding starts_at
no_image bytes [] p e h = rw e refl
no_image bytes (x ∷ xs) p e h = let turned : (91 == x) ≡ false = grind (arith, h, nat_tests) in rw (e, turned) refl

no_break : (bytes rest : List ℕ) (p : ℕ) → drop p bytes ≡ 92 ∷ rest → (byte_at rest 0 == 10) ≡ false → starts_at bytes p (codes "\\\n") ≡ false
unfolding starts_at
no_break bytes [] p e h = rw e refl
no_break bytes (x ∷ xs) p e h = let turned : (10 == x) ≡ false = grind (arith, h, nat_tests) in rw (e, turned) refl

no_escape : (bytes rest : List ℕ) (p : ℕ) → drop p bytes ≡ 92 ∷ rest → drop (p + 1) bytes ≡ rest → p + 1 < 2 ^ 64 → is_ascii_punctuation (byte_at rest 0) ≡ false → is_escape bytes p ≡ false
unfolding is_escape
no_escape bytes rest p e k fits h =
    let next : plus p 1 ≡ p + 1 = omega arith in
    rw (byte_front bytes p (92 ∷ rest) e, next, byte_front bytes (p + 1) rest k, h) refl

an_escape : (bytes rest : List ℕ) (p b : ℕ) → drop p bytes ≡ 92 ∷ b ∷ rest → drop (p + 1) bytes ≡ b ∷ rest → p + 1 < 2 ^ 64 → is_ascii_punctuation b ≡ true → is_escape bytes p ≡ true
unfolding is_escape
an_escape bytes rest p b e k fits h =
    let next : plus p 1 ≡ p + 1 = omega arith in
    rw (byte_front bytes p (92 ∷ b ∷ rest) e, next, byte_front bytes (p + 1) (b ∷ rest) k, h) refl

-- a letter before a place
letter_before : (bytes : List ℕ) (p : ℕ) → is_ascii_alphanumeric (before_at bytes p) ≡ true → side_before bytes p ≡ Other
letter_before bytes zero h = absurd (true≢false (sym h))
letter_before bytes (suc p) h =
    let letter : is_ascii_alphanumeric (byte_at bytes (suc p - 1)) ≡ true = subst (λ b. is_ascii_alphanumeric b ≡ true) (before_next bytes p) h in
    side_before_letter bytes (suc p) (byte_at bytes (suc p - 1)) (omega arith) refl (alphanumeric_small (byte_at bytes (suc p - 1)) letter) letter

no_space : (bytes : List ℕ) (p : ℕ) → (before_at bytes p == 32) ≡ false → s.before_space bytes p ≡ None
unfolding s.before_space
no_space bytes zero h = refl
no_space bytes (suc p) h = let k : (byte_at bytes (suc p - 1) == 32) ≡ false = subst (λ b. (b == 32) ≡ false) (before_next bytes p) h in rw k (by_some (nat_lt 0 (suc p)))
  where
    by_some : (c : Bool) → (if c && false then Some (suc p - 1) else None) ≡ None
    by_some true = refl
    by_some false = refl

-- a place in a text of parts: what is after it
record IsAt (bytes : List ℕ) (p : ℕ) (xs rest : List ℕ) : Type 0 where
  here : drop p bytes ≡ xs ++ rest
  next : drop (p + 1) bytes ≡ drop 1 (xs ++ rest)
  fits : p + length xs < 2 ^ 64

underscore_plain : (bytes rest : List ℕ) (ahead : s.Known) (defs : List ℕ → Option Entry) (p : ℕ) → IsAt bytes p (95 ∷ []) rest → is_ascii_alphanumeric (before_at bytes p) ≡ true → is_ascii_alphanumeric (byte_at rest 0) ≡ true → IsReadAt bytes ahead defs p (Bare 95)
underscore_plain bytes [] ahead defs p at h k = absurd (true≢false (sym k))
underscore_plain bytes (c ∷ cs) ahead defs p at h k =
    underscore_is_read bytes cs ahead defs p c at.here (alphanumeric_other c k) at.fits (letter_before bytes p h) (side_at_letter bytes (p + 1) c (byte_front bytes (p + 1) (c ∷ cs) at.next) (alphanumeric_small c k) k)

-- such a byte is read as itself
plain_byte_is_read : (bytes rest : List ℕ) (ahead : s.Known) (defs : List ℕ → Option Entry) (p b : ℕ) → IsAt bytes p (b ∷ []) rest → IsPlainByte (before_at bytes p) b (byte_at rest 0) → IsReadAt bytes ahead defs p (Bare b)
plain_byte_is_read bytes rest ahead defs p b at (inl h) = inert_is_read bytes ahead defs p b h
plain_byte_is_read bytes rest ahead defs p b at (inr (inl h)) =
    subst (λ c. IsReadAt bytes ahead defs p (Bare c)) (sym (h.0)) (exclamation_is_read bytes ahead defs p (no_image bytes rest p (at.here ∙ ap (λ c. c ∷ rest) (h.0)) (h.1)))
plain_byte_is_read bytes rest ahead defs p b at (inr (inr (inl h))) =
    let here : drop p bytes ≡ 92 ∷ rest = at.here ∙ ap (λ c. c ∷ rest) (h.0) in
    subst (λ c. IsReadAt bytes ahead defs p (Bare c)) (sym (h.0)) (backslash_is_read bytes ahead defs p (no_escape bytes rest p here at.next at.fits (h.1)) (no_break bytes rest p here (h.2)))
plain_byte_is_read bytes rest ahead defs p b at (inr (inr (inr h))) =
    subst (λ c. IsReadAt bytes ahead defs p (Bare c)) (sym (h.0)) (underscore_plain bytes rest ahead defs p (record { here = at.here ∙ ap (λ c. c ∷ rest) (h.0); next = at.next; fits = at.fits }) (h.1) (h.2))

-- what is after bytes at a place
behind : (bytes pre xs rest : List ℕ) (p : ℕ) → bytes ≡ pre ++ (xs ++ rest) → p ≡ length pre → drop (p + length xs) bytes ≡ rest
behind bytes pre xs rest p e at =
    drop_at bytes (pre ++ xs) rest (p + length xs) (e ∙ sym (append_assoc pre xs rest)) (ap (λ n. n + length xs) at ∙ sym (length-append pre xs))

-- the last byte of bytes is before what is after them
last_before : (bytes pre xs rest : List ℕ) (p x : ℕ) → bytes ≡ pre ++ ((x ∷ xs) ++ rest) → p ≡ length pre → before_at bytes (p + length (x ∷ xs)) ≡ last_byte x xs
last_before bytes pre [] rest p x e at =
    let some : (p + 1 == 0) ≡ false = grind (arith, nat_tests) in
    let same : p + 1 - 1 ≡ p = omega arith in
    rw (some, same) (byte_front bytes p (x ∷ rest) (drop_at bytes pre (x ∷ rest) p e at))
last_before bytes pre (y ∷ ys) rest p x e at =
    let same : p + length (x ∷ y ∷ ys) ≡ p + 1 + length (y ∷ ys) = omega arith in
    ap (before_at bytes) same
    ∙ last_before bytes (pre ++ x ∷ []) ys rest (p + 1) y (e ∙ sym (append_assoc pre (x ∷ []) ((y ∷ ys) ++ rest))) (ap (λ n. n + 1) at ∙ (let q : length pre + 1 ≡ length (pre ++ x ∷ []) = grind (arith, length-append) in q))

-- one such part is read as it is meant
plain_part_is_read : (bytes pre rest : List ℕ) (ahead : s.Known) (defs : List ℕ → Option Entry) (p : ℕ) (a : Part) → bytes ≡ pre ++ (spelled_part a ++ rest) → p ≡ length pre → p + length (spelled_part a) < 2 ^ 64 → IsPlainPart (before_at bytes p) a (byte_at rest 0) → IsReadAt bytes ahead defs p a
plain_part_is_read bytes pre rest ahead defs p (Bare b) e at fits h =
    plain_byte_is_read bytes rest ahead defs p b (record { here = drop_at bytes pre (b ∷ rest) p e at; next = behind bytes pre (b ∷ []) rest p e at; fits = fits }) h
plain_part_is_read bytes pre rest ahead defs p (Escaped b) e at fits h =
    an_escape bytes rest p b (drop_at bytes pre (92 ∷ b ∷ rest) p e at) (behind bytes pre (92 ∷ []) (b ∷ rest) p e at) (omega arith) h
plain_part_is_read bytes pre rest ahead defs p (Referred c bs) e at fits (inl h) =
    let here : bytes ≡ pre ++ 38 ∷ 97 ∷ 109 ∷ 112 ∷ 59 ∷ rest = e ∙ ap (λ xs. pre ++ (38 ∷ (xs ++ rest))) (h.1) in
    let width : length bs ≡ 4 = ap length (h.1) in
    amp_reference bytes rest p (drop_at bytes pre _ p here at) (omega arith)
    ∙ ap (let f : ℕ → ℕ → Option Reference = λ x n. Some (record { character = x; next = p + 1 + n }) in λ x. f x 4) (sym (h.0))
    ∙ ap (let f : ℕ → ℕ → Option Reference = λ x n. Some (record { character = x; next = p + 1 + n }) in f c) (sym width)
plain_part_is_read bytes pre rest ahead defs p (Referred c bs) e at fits (inr h) =
    let here : bytes ≡ pre ++ 38 ∷ 35 ∷ 51 ∷ 50 ∷ 59 ∷ rest = e ∙ ap (λ xs. pre ++ (38 ∷ (xs ++ rest))) (h.1) in
    let width : length bs ≡ 4 = ap length (h.1) in
    space_reference bytes pre rest p here at (omega arith)
    ∙ ap (let f : ℕ → ℕ → Option Reference = λ x n. Some (record { character = x; next = p + 1 + n }) in λ x. f x 4) (sym (h.0))
    ∙ ap (let f : ℕ → ℕ → Option Reference = λ x n. Some (record { character = x; next = p + 1 + n }) in f c) (sym width)
plain_part_is_read bytes pre rest ahead defs p Feed e at fits h =
    let all : length bytes ≡ length pre + suc (length rest) = ap length e ∙ length-append pre (10 ∷ rest) in
    (no_space bytes p h, omega arith)

-- the byte before what is after a part
part_before : (bytes pre rest : List ℕ) (p before : ℕ) (a : Part) → bytes ≡ pre ++ (spelled_part a ++ rest) → p ≡ length pre → before_at bytes (p + length (spelled_part a)) ≡ last_byte before (spelled_part a)
part_before bytes pre rest p before (Bare b) e at = last_before bytes pre [] rest p b e at
part_before bytes pre rest p before (Escaped b) e at = last_before bytes pre (b ∷ []) rest p 92 e at
part_before bytes pre rest p before (Referred c bs) e at = last_before bytes pre bs rest p 38 e at
part_before bytes pre rest p before Feed e at = last_before bytes pre [] rest p 10 e at

-- such parts are read as they are meant
pub plain_parts_are_read : (bytes pre : List ℕ) (ahead : s.Known) (defs : List ℕ → Option Entry) (p before : ℕ) (parts : List Part) → bytes ≡ pre ++ spelled parts → p ≡ length pre → length bytes < 2 ^ 64 → before_at bytes p ≡ before → ArePlainParts before parts → AreRead bytes ahead defs p parts
plain_parts_are_read bytes pre ahead defs p before [] e at fits k h = tt
plain_parts_are_read bytes pre ahead defs p before (a ∷ parts) e at fits k h =
    let rest : List ℕ = spelled parts in
    let all : length bytes ≡ length pre + (length (spelled_part a) + length rest) = ap length e ∙ length-append pre (spelled_part a ++ rest) ∙ ap (λ n. length pre + n) (length-append (spelled_part a) rest) in
    let there : bytes ≡ (pre ++ spelled_part a) ++ rest = e ∙ sym (append_assoc pre (spelled_part a) rest) in
    let end : p + length (spelled_part a) ≡ length (pre ++ spelled_part a) = ap (λ n. n + length (spelled_part a)) at ∙ sym (length-append pre (spelled_part a)) in (
      plain_part_is_read bytes pre rest ahead defs p a e at (let q : p + length (spelled_part a) < 2 ^ 64 = omega (arith, all, fits) in q) (subst (λ b. IsPlainPart b a (byte_at rest 0)) (sym k) (h.0)),
      plain_parts_are_read bytes (pre ++ spelled_part a) ahead defs (p + length (spelled_part a)) (last_byte before (spelled_part a)) parts there end fits (part_before bytes pre rest p before a e at) (h.1),
    )
