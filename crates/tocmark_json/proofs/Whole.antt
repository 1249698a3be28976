-- A text that is an array, or begins as none.
use Rattle.std.proofs.Common.{◌≡◌, ◌∙◌, ℕ, List, [], ◌∷◌, true, false, is_some, IfErr, IsErrAnd, MatchOption, Result, Ok, Err, Option, None, Some, option_map, ap, arith, length, refl, subst, sym}
use Rattle.json.specs.Json as json
use Rattle.json.specs.Json.{Parse, items, members, parse_map, value, value_with}
use Rattle.json.specs.Lex.{tokens}
use Rattle.json.specs.Token.{Token}
use Rattle.json.proofs.Grammar.{value_is, value-begin_array}
use Rattle.serde_json.specs.Data.{Data, Members, Num, array, no_members, number, object}
use Rattle.serde_json.specs.Find.{as_array}
use Rattle.serde_json.specs.Read.{converted, number_of, of_items, of_json, of_members, read}
use Rattle.serde_json.specs.View.{items_of}
use Rattle.tocmark_json.specs.Elements.{IsReadFault}
use Rattle.tocmark_json.specs.Place.{read_error_of}
use Rattle.tocmark_json.specs.declared.fault.ReadError.{ReadError}
use Rattle.tocmark_json.specs.declared.fault.TextError.{TextError}
use Rattle.tocmark_json.specs.declared.fault.TextError.TheVariants as text_error
use Rattle.tocmark_json.proofs.Turns.{converted-array, whole, whole_and_more, whole_read, whole_refused}

module _ (text : List ℕ) (ts : List Token) (begun : tokens text ≡ Token.begin_array ∷ ts) where
  opened : converted of_json (value 127 (tokens text)) ≡ parse_map array (converted of_items (items (value 126) (length ts) ts))
  opened =
      ap (λ l. converted of_json (value 127 l)) begun
      ∙ ap (converted of_json) (value-begin_array 127 ts (omega arith))
      ∙ converted-array (items (value 126) (length ts) ts)

  pub array_read : (ds : List Data) → converted of_items (items (value 126) (length ts) ts) ≡ Some (items_of ds, []) → read text ≡ Some (array (items_of ds))
  array_read ds e = whole_read (value 127 (tokens text)) (array (items_of ds)) (opened ∙ ap (parse_map array) e)

  pub array_refused : converted of_items (items (value 126) (length ts) ts) ≡ None → read text ≡ None
  array_refused e = whole_refused (value 127 (tokens text)) (opened ∙ ap (parse_map array) e)

  pub array_and_more : (ds : List Data) (t : Token) (r : List Token) → converted of_items (items (value 126) (length ts) ts) ≡ Some (items_of ds, t ∷ r) → read text ≡ None
  array_and_more ds t r e = whole_and_more (value 127 (tokens text)) (array (items_of ds)) t r (opened ∙ ap (parse_map array) e)

-- ---- no array

last : (j : json.Json) (r : List Token) (d : Data) → whole (Some (j, r)) ≡ Some d → of_json j ≡ Some d
last j [] d h = h
last j (t ∷ r) d h = absurd cc

no_array_number : (x : Option Num) (d : Data) → option_map number x ≡ Some d → as_array d ≡ None
no_array_number None d h = absurd cc
no_array_number (Some n) d h = let same : number n ≡ d = cc in subst (λ (e : Data). as_array e ≡ None) same refl

no_array_object : (x : Option Members) (d : Data) → option_map object x ≡ Some d → as_array d ≡ None
no_array_object None d h = absurd cc
no_array_object (Some ms) d h = let same : object ms ≡ d = cc in subst (λ (e : Data). as_array e ≡ None) same refl

whole_object : (o : Option (json.Members × List Token)) (d : Data) → whole (parse_map json.object o) ≡ Some d → as_array d ≡ None
whole_object None d h = absurd cc
whole_object (Some (ms, r)) d h = no_array_object (of_members ms no_members) d (last (json.object ms) r d h)

at : (e d : Data) → Some e ≡ Some d → as_array e ≡ None → as_array d ≡ None
at e d h none = let same : e ≡ d = cc in subst (λ (x : Data). as_array x ≡ None) same none

no_array_from : (a : Parse json.Items) (o : Parse json.Members) (t : Token) (ts : List Token) (d : Data) → (t ≡ Token.begin_array → ⊥) → whole (value_with a o (t ∷ ts)) ≡ Some d → as_array d ≡ None
no_array_from a o Token.begin_object ts d lacks h = whole_object (o ts) d h
no_array_from a o Token.end_object ts d lacks h = absurd cc
no_array_from a o Token.begin_array ts d lacks h = absurd (lacks refl)
no_array_from a o Token.end_array ts d lacks h = absurd cc
no_array_from a o (Token.key s) ts d lacks h = absurd cc
no_array_from a o (Token.string s) ts d lacks h = at _ d (last (json.string s) ts d h) refl
no_array_from a o (Token.number s) ts d lacks h = no_array_number (number_of s) d (last (json.number s) ts d h)
no_array_from a o (Token.boolean b) ts d lacks h = at _ d (last (json.boolean b) ts d h) refl
no_array_from a o Token.null ts d lacks h = at _ d (last json.null ts d h) refl
no_array_from a o Token.bad ts d lacks h = absurd cc

no_array_in : (n : ℕ) (ts : List Token) (d : Data) → ((rest : List Token) → ts ≡ Token.begin_array ∷ rest → ⊥) → whole (value n ts) ≡ Some d → as_array d ≡ None
no_array_in n [] d lacks h = let none : whole (value n []) ≡ None = ap whole (value_is n []) in absurd cc
no_array_in n (t ∷ ts) d lacks h =
    no_array_from _ _ t ts d (λ is. lacks ts (ap (λ x. x ∷ ts) is)) (subst (λ (o : Option (json.Json × List Token)). whole o ≡ Some d) (value_is n (t ∷ ts)) h)

-- a text that begins as no array is none
pub no_array : (text : List ℕ) (d : Data) → ((rest : List Token) → tokens text ≡ Token.begin_array ∷ rest → ⊥) → read text ≡ Some d → as_array d ≡ None
no_array text d lacks h = no_array_in 127 (tokens text) d lacks h

-- ---- what a reader leaves

module _ {X : Type 0} (token_of : X → Token) (old new : List Token) where
  pub one_behind : (o : Option X) → MatchOption o ((old ≡ []) × (new ≡ [])) (λ x. old ≡ token_of x ∷ new) → is_some o ≡ true → (t : Token) × (old ≡ t ∷ new)
  one_behind None h some = absurd cc
  one_behind (Some x) h some = (token_of x, h)

  pub none_behind : (o : Option X) → MatchOption o ((old ≡ []) × (new ≡ [])) (λ x. old ≡ token_of x ∷ new) → is_some o ≡ false → old ≡ []
  none_behind None h none = h.0
  none_behind (Some x) h none = absurd cc

-- ---- faults that are handed on

fault_is : (text : List ℕ) (e : TextError) → (e ≡ text_error.NotJson → read text ≡ None) → IsReadFault text (read_error_of e)
fault_is text text_error.NotJson h = h refl
fault_is text text_error.OutOfMemory h = tt

pub fault_handed : {T : Type 0} (r : Result T ReadError) (text : List ℕ) (e : TextError) → IsErrAnd r (λ y. y ≡ read_error_of e) → (e ≡ text_error.NotJson → read text ≡ None) → IfErr r (IsReadFault text)
fault_handed (Ok x) text e is h = absurd is
fault_handed (Err y) text e is h = subst (λ (f : ReadError). IsReadFault text f) (sym is) (fault_is text e h)
