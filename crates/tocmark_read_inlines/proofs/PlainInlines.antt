-- A byte that means nothing to the first pass over a leaf is passed over.
use Rattle.std.proofs.Common.{◌≡◌, ℕ, false, ◌==◌, List, Option, refl}
use native.Mathlib.Numerals.{unary_clauses}
use Rattle.tocmark_read_inlines.specs.Scan as s
use Rattle.tocmark_read_spans.specs.declared.definitions.Entry.{Entry}

-- a byte that means nothing to the first pass
pub record IsInert (b : ℕ) : Type 0 where
  pub bracket : (b == 91) ≡ false
  pub exclamation : (b == 33) ≡ false
  pub closing : (b == 93) ≡ false
  pub less : (b == 60) ≡ false
  pub backslash : (b == 92) ≡ false
  pub ampersand : (b == 38) ≡ false
  pub feed : (b == 10) ≡ false
  pub backtick : (b == 96) ≡ false
  pub star : (b == 42) ≡ false
  pub underscore : (b == 95) ≡ false

pub looked_inert : (bytes : List ℕ) (ahead : s.Known) (defs : List ℕ → Option Entry) (b : ℕ) (t : s.State) → IsInert b → s.looked bytes ahead defs b t ≡ t
unfolding s.looked s.looked_mark
looked_inert bytes ahead defs b t h = rw (h.bracket, h.exclamation, h.closing, h.less, h.backslash, h.ampersand, h.feed, h.backtick, h.star, h.underscore) refl
