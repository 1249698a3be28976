-- The elements of a list, one after the other.
use Rattle.std.proofs.Common.{◌≡◌, ◌∙◌, ◌<◌, ℕ, Bool, Bor, true, false, is_some, List, [], ◌∷◌, ◌++◌, Option, None, Some, ap, arith, length, map, refl, subst, sym, Global, Vec}
use Rattle.std.proofs.lemmas.List.{append_assoc, length-map, map-append}
use Rattle.serde_json.specs.Data.{Data, Items, array, item, no_items}
use Rattle.serde_json.specs.Find.{as_array}
use Rattle.serde_json.specs.Read.{read}
use Rattle.serde_json.specs.View.{items_of}
use Rattle.tocmark_event.specs.View as view
use Rattle.tocmark_event.specs.View.{EventView, LeafView}
use Rattle.tocmark_json.specs.Elements.{AreElements, AreTaken, IsElement, IsListIn, IsListOf, IsNoList, IsNoListOf, Pair, RefusesElement, alone, begins_with_array}
use Rattle.tocmark_json.specs.Json.{event_json, located_json}
use Rattle.tocmark_json.specs.Place.{StandsIn}
use Rattle.tocmark_json.specs.declared.fault.Fault.TheVariants as fault
use Rattle.tocmark_json.specs.declared.fault.JsonError.{JsonError}
use Rattle.tocmark_json.specs.declared.fault.JsonError.TheVariants as error
use Rattle.tocmark_json.specs.declared.positions.Details.{Details}

abbrev Located : Type 0
Located = Pair × Option Details

abbrev is_in : Located → Pair
is_in l = l.0

-- no elements are those of no events
pub nothing : (b : Bool) → AreElements b [] []
nothing true = ([], refl, refl)
nothing false = ([], refl, refl)

-- one more element
one_more : (b : Bool) (ds : List Data) (ps : List Pair) (d : Data) (p : Pair) → AreElements b ds ps → IsElement b d p → AreElements b (ds ++ d ∷ []) (ps ++ p ∷ [])
one_more true ds ps d p (ls, are, seen) (span, is) = (
  ls ++ (p, span) ∷ [],
  map-append located_json ls ((p, span) ∷ []) ∙ ap (λ xs. xs ++ located_json (p, span) ∷ []) are ∙ ap (λ x. ds ++ x ∷ []) (sym is),
  map-append is_in ls ((p, span) ∷ []) ∙ ap (λ xs. xs ++ p ∷ []) seen,
)
one_more false ds ps d p (es, are, seen) (is, none) = (
  es ++ p.0 ∷ [],
  map-append event_json es (p.0 ∷ []) ∙ ap (λ xs. xs ++ event_json p.0 ∷ []) are ∙ ap (λ x. ds ++ x ∷ []) (sym is),
  map-append alone es (p.0 ∷ []) ∙ ap (λ xs. xs ++ alone p.0 ∷ []) seen ∙ ap (λ (r : Option (ℕ × ℕ)). ps ++ (p.0, r) ∷ []) (sym none),
)

-- before the first element the elements may be of either form
reformed : {A : Type 0} (f : A → Pair) (xs : List A) (a b : Bool) (ds : List Data) → (0 < length xs → b ≡ a) → AreElements a ds (map f xs) → AreElements b ds (map f xs)
reformed f [] true b ds same ([], are, seen) = subst (λ (l : List Data). AreElements b l []) are (nothing b)
reformed f [] true b ds same (l ∷ ls, are, seen) = absurd cc
reformed f [] false b ds same ([], are, seen) = subst (λ (l : List Data). AreElements b l []) are (nothing b)
reformed f [] false b ds same (e ∷ es, are, seen) = absurd cc
reformed f (x ∷ xs) a b ds same h = subst (λ (c : Bool). AreElements c ds (map f (x ∷ xs))) (sym (same (omega arith))) h

-- ---- the first element decides

-- the JSON of an event is no array
no_array_leaf : (l : LeafView) → is_some (as_array (event_json (view.Leaf l))) ≡ false
no_array_leaf (view.Text s) = refl
no_array_leaf (view.Code s) = refl
no_array_leaf (view.InlineMath s) = refl
no_array_leaf (view.DisplayMath s) = refl
no_array_leaf (view.Html s) = refl
no_array_leaf (view.InlineHtml s) = refl
no_array_leaf (view.FootnoteReference s) = refl
no_array_leaf view.SoftBreak = refl
no_array_leaf view.HardBreak = refl
no_array_leaf view.Rule = refl
no_array_leaf (view.TaskListMarker b) = refl

pub no_array : (e : EventView) → is_some (as_array (event_json e)) ≡ false
no_array (view.Start t) = refl
no_array (view.End k) = refl
no_array (view.Leaf l) = no_array_leaf l

-- so the first of some elements tells of which form they are
tells : (b : Bool) (d : Data) (ds : List Data) (ps : List Pair) → AreElements b (d ∷ ds) ps → is_some (as_array d) ≡ b
tells true d ds ps ([], are, seen) = absurd cc
tells true d ds ps (l ∷ ls, are, seen) = let first : located_json l ≡ d = cc in subst (λ (x : Data). is_some (as_array x) ≡ true) first refl
tells false d ds ps ([], are, seen) = absurd cc
tells false d ds ps (e ∷ es, are, seen) = let first : event_json e ≡ d = cc in subst (λ (x : Data). is_some (as_array x) ≡ false) first (no_array e)

-- and an element after them changes nothing of that
decided : (b : Bool) (ds : List Data) (ps : List Pair) (d : Data) → (ds ≡ [] → b ≡ is_some (as_array d)) → AreElements b ds ps → begins_with_array (array (items_of (ds ++ d ∷ []))) ≡ b
decided b [] ps d first h = sym (first refl)
decided b (x ∷ ds) ps d first h = tells b x ds ps h

-- there are no events before the first element
none_before : {A : Type 0} (f : A → Pair) (xs : List A) (b : Bool) (ds : List Data) → ds ≡ [] → AreElements b ds (map f xs) → xs ≡ []
none_before f [] b ds none h = refl
none_before f (x ∷ xs) true ds none ([], are, seen) = absurd cc
none_before f (x ∷ xs) true ds none (l ∷ ls, are, seen) = absurd cc
none_before f (x ∷ xs) false ds none ([], are, seen) = absurd cc
none_before f (x ∷ xs) false ds none (e ∷ es, are, seen) = absurd cc

-- ---- an element that is refused

-- an element of another form after those that have it
other : (b : Bool) (ds : List Data) (ps : List Pair) (d : Data) (n : ℕ) (key wanted : Bor (List ℕ)) → n ≡ length ps → AreElements b ds ps → RefusesElement b d (fault.Wanted key wanted) → IsNoListOf b (array (items_of (ds ++ d ∷ []))) (error.Event n key wanted)
other true ds ps d n key wanted count (ls, are, seen) lacks =
    (ls, d, [], ap (λ xs. array (items_of (xs ++ d ∷ []))) (sym are), count ∙ ap length (sym seen) ∙ length-map ls is_in, lacks)
other false ds ps d n key wanted count (es, are, seen) lacks =
    (es, d, [], ap (λ xs. array (items_of (xs ++ d ∷ []))) (sym are), count ∙ ap length (sym seen) ∙ length-map es alone, lacks)

-- the values that items hold
abbrev held : Items → List Data
held no_items = []
held (item d ds) = d ∷ held ds

held_again : (ds : List Data) → held (items_of ds) ≡ ds
held_again [] = refl
held_again (d ∷ ds) = ap (λ xs. d ∷ xs) (held_again ds)

same_held : (ds es : List Data) → array (items_of ds) ≡ array (items_of es) → ds ≡ es
same_held ds es is =
    let same : items_of ds ≡ items_of es = cc in
    sym (held_again ds) ∙ ap held same ∙ held_again es

-- one more element after such a one
still_stands : {A : Type 0} (json : A → Data) (ds : List Data) (d : Data) (e : JsonError) → StandsIn json (array (items_of ds)) e → StandsIn json (array (items_of (ds ++ d ∷ []))) e
still_stands json ds d error.NotAnArray h = absurd cc
still_stands json ds d (error.Event at key wanted) (before, there, after, is, count, lacks) =
    let same : ds ≡ map json before ++ there ∷ after = same_held ds (map json before ++ there ∷ after) is in (
      before,
      there,
      after ++ d ∷ [],
      ap (λ xs. array (items_of xs)) (ap (λ xs. xs ++ d ∷ []) same ∙ append_assoc (map json before) (there ∷ after) (d ∷ [])),
      count,
      lacks,
    )

still : (b : Bool) (ds : List Data) (d : Data) (e : JsonError) → IsNoListOf b (array (items_of ds)) e → IsNoListOf b (array (items_of (ds ++ d ∷ []))) e
still true ds d e h = still_stands located_json ds d e h
still false ds d e h = still_stands event_json ds d e h

-- no element of no elements is refused
none_refused : {A : Type 0} (json : A → Data) (e : JsonError) → StandsIn json (array no_items) e → ⊥
none_refused json error.NotAnArray h = absurd cc
none_refused json (error.Event at key wanted) ([], there, after, is, count, lacks) = absurd cc
none_refused json (error.Event at key wanted) (a ∷ before, there, after, is, count, lacks) = absurd cc

still_none : (ds : List Data) (d : Data) (e : JsonError) → IsNoList (array (items_of ds)) e → IsNoList (array (items_of (ds ++ d ∷ []))) e
still_none [] d e h = absurd (none_refused event_json e h)
still_none (x ∷ ds) d e h = still (is_some (as_array x)) (x ∷ ds) d e h

-- after a fault each element is passed over
pub passed_over : (b : Bool) (o : Option JsonError) (ds : List Data) (d : Data) (ps : List Pair) → is_some o ≡ true → AreTaken b o ds ps → AreTaken b o (ds ++ d ∷ []) ps
passed_over b None ds d ps some h = absurd cc
passed_over b (Some e) ds d ps some h = still_none ds d e h

module _ {A : Type 0} (f : A → Pair) (xs : List A) (a b : Bool) (same : 0 < length xs → b ≡ a) where
  -- an element that is an event
  pub taken_more : (o : Option JsonError) → is_some o ≡ false → (ys : List A) (x : A) → ys ≡ xs ++ x ∷ [] → (d : Data) → IsElement b d (f x) → (ds : List Data) → AreTaken a o ds (map f xs) → AreTaken b o (ds ++ d ∷ []) (map f ys)
  taken_more None none ys x pushed d is ds h =
      subst (λ (l : List Pair). AreElements b (ds ++ d ∷ []) l) (sym (ap (map f) pushed ∙ map-append f xs (x ∷ []))) (one_more b ds (map f xs) d (f x) (reformed f xs a b ds same h) is)
  taken_more (Some e) none ys x pushed d is ds h = absurd cc

  -- an element that is none
  pub refused_more : (o : Option JsonError) → is_some o ≡ false → (n : ℕ) → n ≡ length xs → (key wanted : Bor (List ℕ)) (d : Data) → (xs ≡ [] → b ≡ is_some (as_array d)) → RefusesElement b d (fault.Wanted key wanted) → (ds : List Data) → AreTaken a o ds (map f xs)
      → AreTaken b (Some (error.Event n key wanted)) (ds ++ d ∷ []) (map f xs)
  refused_more None none n count key wanted d first lacks ds h =
      let alike : AreElements b ds (map f xs) = reformed f xs a b ds same h in
      let form : begins_with_array (array (items_of (ds ++ d ∷ []))) ≡ b = decided b ds (map f xs) d (λ empty. first (none_before f xs b ds empty alike)) alike in
      subst (λ (c : Bool). IsNoListOf c (array (items_of (ds ++ d ∷ []))) (error.Event n key wanted)) (sym form) (other b ds (map f xs) d n key wanted (count ∙ sym (length-map xs f)) alike lacks)
  refused_more (Some e) none n count key wanted d first lacks ds h = absurd cc

-- at the end of the array
listed : (b : Bool) (ds : List Data) (ps : List Pair) → AreElements b ds ps → IsListOf b (array (items_of ds)) ps
listed true ds ps (ls, are, seen) = (ls, ap (λ xs. array (items_of xs)) (sym are), seen)
listed false ds ps (es, are, seen) = (es, ap (λ xs. array (items_of xs)) (sym are), sym seen)

-- a value that is no array
pub no_list : (value : Data) → as_array value ≡ None → IsNoList value error.NotAnArray
no_list value none = of_form (begins_with_array value) where
  of_form : (b : Bool) → IsNoListOf b value error.NotAnArray
  of_form true = none
  of_form false = none

module _ (text : List ℕ) (ds : List Data) (is_read : read text ≡ Some (array (items_of ds))) (b : Bool) (o : Option JsonError) where
  -- without a fault the text is the list of these events
  pub list_found : {A : Type 0} (f : A → Pair) (xs ys : Vec A Global) (c : Bool) → o ≡ None → ys ≡ xs → c ≡ b → AreTaken b o ds (map f xs.items) → IsListIn c text (map f ys.items)
  list_found {A = A} f xs ys c none same alike h =
      let all : AreElements b ds (map f xs.items) = subst (λ (x : Option JsonError). AreTaken b x ds (map f xs.items)) none h in
      let here : IsListIn b text (map f xs.items) = record { value = array (items_of ds); is_read = is_read; is_list = listed b ds (map f xs.items) all } in
      subst (λ (d : Bool). IsListIn d text (map f ys.items)) (sym alike) (subst (λ (v : Vec A Global). IsListIn b text (map f v.items)) (sym same) here)

  -- with one it is none
  pub none_found : (ps : List Pair) (e : JsonError) → o ≡ Some e → AreTaken b o ds ps → (value : Data) × (read text ≡ Some value) × IsNoList value e
  none_found ps e is h = (array (items_of ds), is_read, subst (λ (x : Option JsonError). AreTaken b x ds ps) is h)
