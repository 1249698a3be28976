-- Texts: bytes that are said one by one.
use Rattle.std.proofs.Common.{◌≡◌, ℕ, zero, suc, ◌+◌, ◌-◌, ◌<◌, ◌≤◌, Bool, true, false, cond, List, [], ◌∷◌, ◌++◌, length, take, drop, replicate, refl, ap, sym, subst, ◌∙◌, arith, append_assoc, append-nil, length-append}
use Rattle.std.proofs.lemmas.List.{length-replicate}
use Rattle.std.proofs.lemmas.List.Sums.{take_while-cons}
use Rattle.std.proofs.Math.Seq.{take-append_seam}
use Rattle.std.specs.Prelude.{Some, None, slice_get, take_while}
use Rattle.std.specs.List.{fold, AllByRecursion}
use Rattle.tocmark_read_scan.specs.Basic.{byte_at, bytes_between}
use Rattle.tocmark_read_scan.proofs.PlainPlaces.{byte_dropped}
use Rattle.tocmark_read_spans.specs.declared.role.Role.TheVariants as role
use Rattle.tocmark_commonmark.specs.InlineTree.{Text}
use Rattle.tocmark_inline_laws.specs.Said.{Piece, letters}
use Rattle.tocmark_inline_laws.proofs.Stretches.{between_within, drop_length}
use Rattle.tocmark_inline_laws.proofs.Flow.{Beside, flow_step}
use Rattle.tocmark_inline_laws.proofs.Atoms.{with_more, flow_at, Shows}

empty_full : (b : ℕ) (ys : List ℕ) → [] ≡ b ∷ ys → ⊥
empty_full b ys h = let k : [] ≡ b ∷ ys = h in cc

-- what is left behind the first byte
pub drop_more : (bytes : List ℕ) (p b : ℕ) (ys : List ℕ) → drop p bytes ≡ b ∷ ys → drop (suc p) bytes ≡ ys
drop_more [] zero b ys h = absurd (empty_full b ys h)
drop_more [] (suc p) b ys h = absurd (empty_full b ys h)
drop_more (x ∷ xs) zero b ys h = let k : x ∷ xs ≡ b ∷ ys = h in let q : xs ≡ ys = cc in q
drop_more (x ∷ xs) (suc p) b ys h = drop_more xs p b ys h

-- what is left behind a text
pub drop_past : (bytes xs rest : List ℕ) (p : ℕ) → drop p bytes ≡ xs ++ rest → drop (p + length xs) bytes ≡ rest
drop_past bytes [] rest p h = ap (λ n. drop n bytes) (let e : p + 0 ≡ p = omega arith in e) ∙ h
drop_past bytes (x ∷ xs) rest p h = ap (λ n. drop n bytes) (let e : p + suc (length xs) ≡ suc p + length xs = omega arith in e) ∙ drop_past bytes xs rest (suc p) (drop_more bytes p x (xs ++ rest) h)

-- a text ends within the content
pub past_within : (bytes xs rest : List ℕ) (p : ℕ) → p ≤ length bytes → drop p bytes ≡ xs ++ rest → p + length xs + length rest ≡ length bytes
past_within bytes xs rest p h e =
    let l : length (drop p bytes) + p ≡ length bytes = drop_length bytes p h in
    let m : length (drop p bytes) ≡ length xs + length rest = ap length e ∙ length-append xs rest in
    omega arith

pub between_text : (bytes xs rest : List ℕ) (p : ℕ) → p ≤ length bytes → drop p bytes ≡ xs ++ rest → bytes_between bytes p (p + length xs) ≡ xs
between_text bytes xs rest p h e =
    let m : p + length xs + length rest ≡ length bytes = past_within bytes xs rest p h e in
    between_within bytes p (p + length xs) (omega arith) (omega arith)
    ∙ ap (λ n. take n (drop p bytes)) (let k : (p + length xs) - p ≡ length xs = omega arith in k)
    ∙ ap (λ ys. take (length xs) ys) e
    ∙ take-append_seam xs rest

-- what holds of each byte of a text holds of the content's byte
pub byte_is : (Q : ℕ → Type 0) (bytes xs rest : List ℕ) (p j : ℕ) → drop p bytes ≡ xs ++ rest → AllByRecursion Q xs → j < length xs → Q (byte_at bytes (p + j))
byte_is Q bytes [] rest p j e h l = absurd (omega arith)
byte_is Q bytes (x ∷ xs) rest p zero e h l = subst Q (sym (ap (λ m. byte_at bytes m) (let k : p + 0 ≡ p = omega arith in k) ∙ byte_dropped bytes p x (xs ++ rest) e)) (h.0)
byte_is Q bytes (x ∷ xs) rest p (suc j) e h l = subst (λ m. Q (byte_at bytes m)) (let k : suc p + j ≡ p + suc j = omega arith in k) (byte_is Q bytes xs rest (suc p) j (drop_more bytes p x (xs ++ rest) e) (h.1) (omega arith))

-- plain bytes, one by one
pub plains_flow : (e : Beside) (xs rest : List ℕ) (p depth : ℕ) (out : List Piece) → drop p e.bytes ≡ xs ++ rest → fold (flow_step e) (flow_at depth p out) (replicate (length xs) role.Plain) ≡ flow_at depth (p + length xs) (out ++ letters depth xs)
unfolding flow_step
plains_flow e [] rest p depth out h = ap (λ q. flow_at depth q out) (let k : p ≡ p + 0 = omega arith in k) ∙ ap (λ ps. flow_at depth (p + 0) ps) (sym (append-nil out))
plains_flow e (x ∷ xs) rest p depth out h =
    ap (λ c. fold (flow_step e) (flow_at depth (suc p) (out ++ letters depth (c ∷ []))) (replicate (length xs) role.Plain)) (byte_dropped e.bytes p x (xs ++ rest) h)
    ∙ plains_flow e xs rest (suc p) depth (out ++ letters depth (x ∷ [])) (drop_more e.bytes p x (xs ++ rest) h)
    ∙ ap (λ ps. flow_at depth (suc p + length xs) ps) (append_assoc out (letters depth (x ∷ [])) (letters depth xs))
    ∙ ap (λ q. flow_at depth q (out ++ letters depth (x ∷ xs))) (let k : suc p + length xs ≡ p + suc (length xs) = omega arith in k)

-- plain bytes say their text
pub plains_show : (e : Beside) (xs rest : List ℕ) (p : ℕ) → drop p e.bytes ≡ xs ++ rest → Shows e p (replicate (length xs) role.Plain) (Text xs)
plains_show e xs rest p h ts gs depth out =
    plains_flow (with_more e ts gs) xs rest p depth out h
    ∙ ap (λ n. flow_at depth (p + n) (out ++ letters depth xs)) (sym (length-replicate (length xs) role.Plain))

-- the longest front of which each byte passes a test
pub record Front (g : ℕ → Bool) (xs : List ℕ) : Type 0 where
  pub text : List ℕ
  pub rest : List ℕ
  pub whole : xs ≡ text ++ rest
  pub taken : take_while g xs ≡ text
  pub each : AllByRecursion (λ c. g c ≡ true) text
  pub ends : (c : ℕ) → slice_get rest 0 ≡ Some c → g c ≡ false

none_some : (c : ℕ) → None ≡ Some c → ⊥
none_some c h = let k : None ≡ Some c = h in cc

pub front_of : (g : ℕ → Bool) (xs : List ℕ) → Front g xs
front_of g [] = record { text = []; rest = []; whole = refl; taken = refl; each = tt; ends = λ c h. absurd (none_some c h) }
front_of g (x ∷ xs) = by (g x) refl (front_of g xs)
  where
    by : (z : Bool) → g x ≡ z → Front g xs → Front g (x ∷ xs)
    by true e f = record {
      text = x ∷ f.text;
      rest = f.rest;
      whole = ap (λ ys. x ∷ ys) f.whole;
      taken = take_while-cons g x xs ∙ ap (λ z. cond z (x ∷ take_while g xs) []) e ∙ ap (λ ys. x ∷ ys) f.taken;
      each = (e, f.each);
      ends = f.ends;
    }
    by false e f = record {
      text = [];
      rest = x ∷ xs;
      whole = refl;
      taken = take_while-cons g x xs ∙ ap (λ z. cond z (x ∷ take_while g xs) []) e;
      each = tt;
      ends = λ c h. ap g (let k : Some x ≡ Some c = h in let q : c ≡ x = cc in q) ∙ e;
    }
