-- A text that came before is refused again, since a reading is a function of its text.
use Rattle.std.proofs.Common.{◌≡◌, ◌∙◌, ap, refl, arith, ℕ, Bool, true, false, if◌then◌else◌, length, List, [], ◌∷◌, ◌++◌, bytes_eq, string_bytes, String, ⊎_elim}
use Rattle.std.specs.Global.{Global}
use Rattle.std.specs.List.{AllByRecursion, list_any}
use Rattle.std.specs.Prelude.{string_eq}
use Rattle.std.proofs.lemmas.Bool.{false≢true, or_cases}
use Rattle.std.proofs.lemmas.Slice.Eq.{bytes_eq-Decides}
use Rattle.indexmap.specs.IndexSet.{insert_key}
use Rattle.tocmark_write_labels.specs.Document.{DocumentView}
use Rattle.tocmark_choose.specs.TrialOf.{reads_back_in}
use Rattle.tocmark_choose.specs.Tries.{Asked}

-- no text is one of none
pub none-among : (test : String Global → Bool) (ts : List (String Global)) → length ts ≡ 0 → false ≡ list_any test ts
none-among test [] e = refl
none-among test (t ∷ ts) e = absurd (omega (arith, e))

module _ (q : Asked) (d : DocumentView) where
  abbrev IsRefused : String Global → Type 0
  IsRefused t = reads_back_in q d (string_bytes t) ≡ false

  abbrev is_text : List ℕ → String Global → Bool
  is_text text t = bytes_eq text (string_bytes t)

  -- one of those that were refused
  pub refused-again : (text : List ℕ) (ts : List (String Global)) → AllByRecursion IsRefused ts → list_any (is_text text) ts ≡ true → reads_back_in q d text ≡ false
  refused-again text [] h e = absurd (false≢true e)
  refused-again text (t ∷ ts) h e =
      ⊎_elim (λ same. ap (reads_back_in q d) ((bytes_eq-Decides text (string_bytes t)).0 same) ∙ h.0) (λ later. refused-again text ts h.1 later) (or_cases (is_text text t) (list_any (is_text text) ts) e)

  refused-last : (x : String Global) (ts : List (String Global)) → AllByRecursion IsRefused ts → IsRefused x → AllByRecursion IsRefused (ts ++ x ∷ [])
  refused-last x [] h r = (r, tt)
  refused-last x (t ∷ ts) h r = (h.0, refused-last x ts h.1 r)

  -- one more
  pub refused-more : (x : String Global) (ts : List (String Global)) → AllByRecursion IsRefused ts → IsRefused x → AllByRecursion IsRefused (insert_key string_eq ts x)
  refused-more x ts h r = by (list_any (string_eq x) ts)
    where
      by : (b : Bool) → AllByRecursion IsRefused (if b then ts else ts ++ x ∷ [])
      by true = h
      by false = refused-last x ts h r
