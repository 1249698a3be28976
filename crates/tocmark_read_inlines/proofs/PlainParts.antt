-- Which bytes mean themselves where they are.
use Rattle.std.proofs.Common.{◌≡◌, ℕ, ◌+◌, ◌-◌, ◌^◌, ◌<◌, false, ◌==◌, List, ◌∷◌, length, drop, codes, Option, refl, ap, ◌∙◌, arith}
use Rattle.tocmark_read_scan.specs.Basic.{plus, starts_at}
use Rattle.tocmark_read_scan.specs.Class.{run_end, is_in}
use Rattle.tocmark_read_tokens.specs.Reference.{is_escape}
use Rattle.tocmark_read_scan.specs.Side.{side_at, side_before}
use Rattle.tocmark_read_scan.specs.declared.class.Class.TheVariants.{Only}
use Rattle.tocmark_read_scan.specs.declared.side.Side.TheVariants.{Other}
use Rattle.tocmark_read_inlines.specs.Scan as s
use Rattle.tocmark_read_spans.specs.Run.{run_at, run_between, acts, flanks, is_space, is_punctuation}
use Rattle.tocmark_read_spans.specs.declared.definitions.Entry.{Entry}
use Rattle.tocmark_read_spans.specs.declared.run.Run.{Run}
use Rattle.tocmark_read_inlines.proofs.PlainInlines.{IsInert, looked_inert}
use Rattle.tocmark_read_inlines.proofs.PlainPasses.{IsReadAt}
use Rattle.tocmark_read_scan.specs.PlainParts.{Bare}

pub inert_is_read : (bytes : List ℕ) (ahead : s.Known) (defs : List ℕ → Option Entry) (p b : ℕ) → IsInert b → IsReadAt bytes ahead defs p (Bare b)
inert_is_read bytes ahead defs p b h = λ t e before. (t.resume, omega arith, looked_inert bytes ahead defs b t h)

-- an exclamation mark with no bracket after it
pub exclamation_is_read : (bytes : List ℕ) (ahead : s.Known) (defs : List ℕ → Option Entry) (p : ℕ) → starts_at bytes p (codes "![") ≡ false → IsReadAt bytes ahead defs p (Bare 33)
unfolding s.looked s.imaged
exclamation_is_read bytes ahead defs p h = λ t e before. (t.resume, omega arith, rw (e, h) refl)

-- a backslash with neither punctuation nor a line feed after it
pub backslash_is_read : (bytes : List ℕ) (ahead : s.Known) (defs : List ℕ → Option Entry) (p : ℕ) → is_escape bytes p ≡ false → starts_at bytes p (codes "\\\n") ≡ false → IsReadAt bytes ahead defs p (Bare 92)
unfolding s.looked s.looked_mark s.escaped
backslash_is_read bytes ahead defs p h k = λ t e before. (t.resume, omega arith, rw (e, h, k) refl)

one_underscore : (bytes rest : List ℕ) (p c : ℕ) → drop p bytes ≡ 95 ∷ c ∷ rest → (c == 95) ≡ false → p + 1 < 2 ^ 64 → run_end bytes p (Only 95) ≡ p + 1
unfolding run_end is_in
one_underscore bytes rest p c e h fits = let next : plus p 1 ≡ p + 1 = omega arith in rw (e, h, next) refl

inert_run : (bytes : List ℕ) (p : ℕ) → run_end bytes p (Only 95) ≡ p + 1 → side_before bytes p ≡ Other → side_at bytes (p + 1) ≡ Other → run_at bytes p 95 ≡ record { place = p; count = p + 1 - p; length = p + 1 - p; byte = 95; opens = false; closes = false; subscript = false }
unfolding run_at run_between acts flanks is_space is_punctuation
inert_run bytes p e before after = rw (e, before, after) refl

-- an underscore between letters or digits
pub underscore_is_read : (bytes rest : List ℕ) (ahead : s.Known) (defs : List ℕ → Option Entry) (p c : ℕ) → drop p bytes ≡ 95 ∷ c ∷ rest → (c == 95) ≡ false → p + 1 < 2 ^ 64 → side_before bytes p ≡ Other → side_at bytes (p + 1) ≡ Other → IsReadAt bytes ahead defs p (Bare 95)
unfolding s.looked s.looked_mark s.run_taken s.run_kept
underscore_is_read bytes rest ahead defs p c e h fits before after = λ t at resume.
    let run : run_at bytes t.place 95 ≡ record { place = p; count = p + 1 - p; length = p + 1 - p; byte = 95; opens = false; closes = false; subscript = false } =
    ap (λ k. run_at bytes k 95) at ∙ inert_run bytes p (one_underscore bytes rest p c e h fits) before after
    in
    (plus t.place (p + 1 - p), omega arith, ap (λ (r : Run). s.with_run r (record t { resume = plus t.place r.count })) run)
