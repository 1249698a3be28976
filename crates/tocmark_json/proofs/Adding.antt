-- How the texts of values are put together.
use Rattle.std.proofs.Common.{◌≡◌, ℕ, suc, max, ◌+◌, ◌^◌, ◌<◌, ◌≤◌, List, [], ◌∷◌, ◌++◌, length, get_or, drop, map, Bool, true, false, Result, Option, Some, option_and_then, option_map, ap, ap₂, arith, subst, sym, refl, ◌∙◌, append_assoc, append-nil, decimal}
use Rattle.std.specs.Prelude.{OnOk}
use Rattle.std.proofs.lemmas.List.{drop_more, drop_all, get_or_default}
use Rattle.std.proofs.lemmas.Result.{on_ok_weaker}
use Rattle.json.specs.Token.{Token}
use Rattle.json.specs.Json as json
use Rattle.json.specs.Lex.{tokens}
use Rattle.json.specs.Print.{escape, quoted}
use Rattle.json.specs.Tree as tree
use Rattle.json.specs.Tree.{json_tokens, ItemsHaveNumbers}
use Rattle.json.proofs.Printed.Decimals.{IsNumber-decimal}
use Rattle.json.proofs.Printed.Tokens.{tokens-print}
use Rattle.json.proofs.Printed.Trees.{ArePrintable-json_tokens, value-json_tokens}
use Rattle.serde_json.specs.Data.{Data, null, boolean, number, unsigned, string, array, object, Items, item, no_items, Members, member, no_members, put, depth, items_depth, members_depth}
use Rattle.serde_json.specs.Read.{of_items, of_json, max_depth, read}
use Rattle.serde_json.specs.View.{items_of}
use Rattle.serde_json.specs.Written.{outline, items_outline, members_outline, blank_items, comma_if, compact_text, items_text, members_text, unless_float, IsInOrder}
use Rattle.serde_json.proofs.Numbers.{number_of-decimal}
use Rattle.serde_json.proofs.Texts.{print-outline, unless_float-number_of}
use Rattle.tocmark_event.specs.declared.event.Alignment.{Alignment}
use Rattle.tocmark_json.specs.Json.{alignment_json, both, size_json, tagged}
use Rattle.tocmark_json.specs.Printed.{Grows, IsSound, Brings, Adds, Closes, Follows}

-- ---- values that read as themselves

pub null_sound : IsSound null
null_sound = record { whole = refl; reads = refl; numbers = tt }

pub boolean_sound : (b : Bool) → IsSound (boolean b)
boolean_sound b = record { whole = refl; reads = refl; numbers = tt }

pub string_sound : (s : List ℕ) → IsSound (string s)
string_sound s = record { whole = refl; reads = refl; numbers = tt }

pub size_sound : (n : ℕ) → n < 2 ^ 64 → IsSound (size_json n)
size_sound n fits =
    let same : unless_float (decimal n) ≡ decimal n = unless_float-number_of (decimal n) (unsigned n) (number_of-decimal n fits) in
    record { whole = ap json.number same; reads = ap (option_map number) (number_of-decimal n fits); numbers = IsNumber-decimal n fits }

pub tagged_sound : (name : List ℕ) (d : Data) → IsSound d → IsSound (tagged name d)
tagged_sound name d h =
    record {
      whole = ap (λ j. json.object (json.member name j json.no_members)) h.whole;
      reads = ap (λ (o : Option Data). option_map object (option_and_then (λ x. Some (put name x no_members)) o)) h.reads;
      numbers = (h.numbers, tt);
    }

pub both_sound : (x y : Data) → IsSound x → IsSound y → IsSound (both x y)
both_sound x y first second =
    record {
      whole = ap₂ (λ i j. json.array (json.item i (json.item j json.no_items))) first.whole second.whole;
      reads = ap₂ (λ (o p : Option Data). option_map array (option_and_then (λ d. option_map (item d) (option_and_then (λ e. option_map (item e) (Some no_items)) p)) o)) first.reads second.reads;
      numbers = (first.numbers, (second.numbers, tt));
    }

-- two members, whose keys are in their order
pub two_sound : (k l : List ℕ) (x y : Data) → ((v w : Data) → put l w (member k v no_members) ≡ member k v (member l w no_members)) → IsSound x → IsSound y → IsSound (object (member k x (member l y no_members)))
two_sound k l x y ordered first second =
    record {
      whole = ap₂ (λ i j. json.object (json.member k i (json.member l j json.no_members))) first.whole second.whole;
      reads =
          ap₂ (λ (o p : Option Data). option_map object (option_and_then (λ v. option_and_then (λ w. Some (put l w (member k v no_members))) p) o)) first.reads second.reads
          ∙ ap (λ ms. Some (object ms)) (ordered x y);
      numbers = (first.numbers, (second.numbers, tt));
    }

-- four members, whose keys are in their order
pub four_sound : (k l m n : List ℕ) (x y z u : Data) → ((o p q v : Data) → put n v (put m q (put l p (member k o no_members))) ≡ member k o (member l p (member m q (member n v no_members)))) → IsSound x → IsSound y → IsSound z → IsSound u
    → IsSound (object (member k x (member l y (member m z (member n u no_members)))))
four_sound k l m n x y z u ordered first second third fourth =
    record {
      whole = λ i. json.object (json.member k (first.whole i) (json.member l (second.whole i) (json.member m (third.whole i) (json.member n (fourth.whole i) json.no_members))));
      reads =
          (λ i. option_map object (option_and_then (λ o. option_and_then (λ p. option_and_then (λ q. option_and_then (λ v. Some (put n v (put m q (put l p (member k o no_members))))) (fourth.reads i)) (third.reads i)) (second.reads i)) (first.reads i)))
          ∙ ap (λ ms. Some (object ms)) (ordered x y z u);
      numbers = (first.numbers, (second.numbers, (third.numbers, (fourth.numbers, tt))));
    }

-- six members, whose keys are in their order
pub six_sound : (k l m n i j : List ℕ) (x y z u s t : Data) → ((o p q v x5 y6 : Data) → put j y6 (put i x5 (put n v (put m q (put l p (member k o no_members))))) ≡ member k o (member l p (member m q (member n v (member i x5 (member j y6 no_members)))))) → IsSound x → IsSound y → IsSound z → IsSound u → IsSound s → IsSound t
    → IsSound (object (member k x (member l y (member m z (member n u (member i s (member j t no_members)))))))
six_sound k l m n i j x y z u s t ordered first second third fourth fifth sixth =
    record {
      whole = λ here. json.object (json.member k (first.whole here) (json.member l (second.whole here) (json.member m (third.whole here) (json.member n (fourth.whole here) (json.member i (fifth.whole here) (json.member j (sixth.whole here) json.no_members))))));
      reads =
          (λ here. option_map object (option_and_then (λ o. option_and_then (λ p. option_and_then (λ q. option_and_then (λ v. option_and_then (λ x5. option_and_then (λ y6. Some (put j y6 (put i x5 (put n v (put m q (put l p (member k o no_members))))))) (sixth.reads here)) (fifth.reads here)) (fourth.reads here)) (third.reads here)) (second.reads here)) (first.reads here)))
          ∙ ap (λ ms. Some (object ms)) (ordered x y z u s t);
      numbers = (first.numbers, (second.numbers, (third.numbers, (fourth.numbers, (fifth.numbers, (sixth.numbers, tt))))));
    }

-- eight members, whose keys are in their order
pub eight_sound : (k l m n i j g h : List ℕ) (x y z u s t p q : Data) → ((o1 o2 o3 o4 o5 o6 o7 o8 : Data) → put h o8 (put g o7 (put j o6 (put i o5 (put n o4 (put m o3 (put l o2 (member k o1 no_members))))))) ≡ member k o1 (member l o2 (member m o3 (member n o4 (member i o5 (member j o6 (member g o7 (member h o8 no_members)))))))) → IsSound x → IsSound y → IsSound z → IsSound u → IsSound s → IsSound t → IsSound p → IsSound q
    → IsSound (object (member k x (member l y (member m z (member n u (member i s (member j t (member g p (member h q no_members)))))))))
eight_sound k l m n i j g h x y z u s t p q ordered first second third fourth fifth sixth seventh eighth =
    record {
      whole = λ here. json.object (json.member k (first.whole here) (json.member l (second.whole here) (json.member m (third.whole here) (json.member n (fourth.whole here) (json.member i (fifth.whole here) (json.member j (sixth.whole here) (json.member g (seventh.whole here) (json.member h (eighth.whole here) json.no_members))))))));
      reads =
          (λ here. option_map object (option_and_then (λ o1. option_and_then (λ o2. option_and_then (λ o3. option_and_then (λ o4. option_and_then (λ o5. option_and_then (λ o6. option_and_then (λ o7. option_and_then (λ o8. Some (put h o8 (put g o7 (put j o6 (put i o5 (put n o4 (put m o3 (put l o2 (member k o1 no_members))))))))) (eighth.reads here)) (seventh.reads here)) (sixth.reads here)) (fifth.reads here)) (fourth.reads here)) (third.reads here)) (second.reads here)) (first.reads here)))
          ∙ ap (λ ms. Some (object ms)) (ordered x y z u s t p q);
      numbers = (first.numbers, (second.numbers, (third.numbers, (fourth.numbers, (fifth.numbers, (sixth.numbers, (seventh.numbers, (eighth.numbers, tt))))))));
    }

-- ---- one after the other

pub behind : (a b c p q : List ℕ) → Grows p a b → Grows q b c → Grows (p ++ q) a c
behind a b c p q h more = more ∙ ap (λ l. l ++ q) h ∙ append_assoc a p q

module _ {E : Type 0} (r : Result (Unit {0}) E) (a w : List ℕ) where
  -- the bytes of a value that reads as itself
  pub brought : (bytes : List ℕ) (d : Data) → IsSound d → OnOk r (Grows bytes a w) → OnOk r (Brings bytes d a w)
  brought bytes d sound h = on_ok_weaker r (λ fact. record { grows = fact; sound = sound }) h

  -- the same bytes, spelled in another way
  pub brought_as : (bytes others : List ℕ) (d : Data) → others ≡ bytes → IsSound d → OnOk r (Grows others a w) → OnOk r (Brings bytes d a w)
  brought_as bytes others d same sound h = on_ok_weaker r (λ fact. record { grows = fact ∙ ap (λ l. a ++ l) same; sound = sound }) h

  pub size_added : (n : ℕ) → n < 2 ^ 64 → OnOk r (Grows (decimal n) a w) → OnOk r (Adds (size_json n) a w)
  size_added n fits h = brought (decimal n) (size_json n) (size_sound n fits) h

  pub string_added : (s : List ℕ) → OnOk r (Grows (34 ∷ (escape s ++ 34 ∷ [])) a w) → OnOk r (Adds (string s) a w)
  string_added s h = brought (quoted s) (string s) (string_sound s) h

module _ {E : Type 0} (r : Result (Unit {0}) E) (a b w : List ℕ) where
  -- the name of a variant, what it holds, and the end of its object
  pub tagged_added : (name : List ℕ) (d : Data) → Grows (123 ∷ (quoted name ++ 58 ∷ [])) a b → OnOk r (Closes d b w) → OnOk r (Adds (tagged name d) a w)
  tagged_added name d opens content =
      on_ok_weaker r (λ (fact : Closes d b w). record {
        grows = behind a b w (123 ∷ (quoted name ++ 58 ∷ [])) (compact_text d ++ 125 ∷ []) opens fact.grows ∙ ap (λ l. a ++ 123 ∷ l) (append_assoc (quoted name) (58 ∷ []) (compact_text d ++ 125 ∷ []));
        sound = tagged_sound name d fact.sound;
      }) content

module _ {E : Type 0} (r : Result (Unit {0}) E) (a b c w : List ℕ) where
  -- the same, with the end of the object around it
  pub tagged_closed : (name : List ℕ) (d : Data) → Grows (123 ∷ (quoted name ++ 58 ∷ [])) a b → Adds d b c → OnOk r (Grows (125 ∷ 125 ∷ []) c w) → OnOk r (Closes (tagged name d) a w)
  tagged_closed name d opens content closes =
      let same : (123 ∷ (quoted name ++ 58 ∷ [])) ++ (compact_text d ++ 125 ∷ 125 ∷ []) ≡ compact_text (tagged name d) ++ 125 ∷ [] = simp append_assoc in
      on_ok_weaker r (λ (end : Grows (125 ∷ 125 ∷ []) c w). record {
        grows = behind a b w (123 ∷ (quoted name ++ 58 ∷ [])) (compact_text d ++ 125 ∷ 125 ∷ []) opens (behind b c w (compact_text d) (125 ∷ 125 ∷ []) content.grows end) ∙ ap (λ l. a ++ l) same;
        sound = tagged_sound name d content.sound;
      }) closes

  -- two values in an array
  pub both_added : (x y : Data) → Grows (91 ∷ []) a b → Adds x b c → OnOk r (Follows y c w) → OnOk r (Adds (both x y) a w)
  both_added x y opens first second =
      on_ok_weaker r (λ (fact : Follows y c w). record {
        grows = behind a b w (91 ∷ []) (compact_text x ++ 44 ∷ (compact_text y ++ 93 ∷ [])) opens (behind b c w (compact_text x) (44 ∷ (compact_text y ++ 93 ∷ [])) first.grows fact.grows);
        sound = both_sound x y first.sound fact.sound;
      }) second

  -- an attribute: its name, and its value
  pub attribute_added : (s : List ℕ) (d : Data) → Grows (91 ∷ 34 ∷ (escape s ++ 34 ∷ 44 ∷ [])) a b → Adds d b c → OnOk r (Grows (93 ∷ []) c w) → OnOk r (Adds (both (string s) d) a w)
  attribute_added s d name value closes =
      let same : (91 ∷ 34 ∷ (escape s ++ 34 ∷ 44 ∷ [])) ++ (compact_text d ++ 93 ∷ []) ≡ compact_text (both (string s) d) = simp append_assoc in
      on_ok_weaker r (λ (end : Grows (93 ∷ []) c w). record {
        grows = behind a b w (91 ∷ 34 ∷ (escape s ++ 34 ∷ 44 ∷ [])) (compact_text d ++ 93 ∷ []) name (behind b c w (compact_text d) (93 ∷ []) value.grows end) ∙ ap (λ l. a ++ l) same;
        sound = both_sound (string s) d (string_sound s) value.sound;
      }) closes

module _ {E : Type 0} (r : Result (Unit {0}) E) (a w : List ℕ) where
  -- the name of a tag that holds nothing
  pub name_closed : (name : List ℕ) → OnOk r (Grows (quoted name ++ 125 ∷ []) a w) → OnOk r (Closes (string name) a w)
  name_closed name h = brought r a w (quoted name ++ 125 ∷ []) (string name) (string_sound name) h

  -- a variant that holds a text
  pub text_tagged : (name s : List ℕ) → OnOk r (Grows ((123 ∷ (quoted name ++ 58 ∷ 34 ∷ [])) ++ (escape s ++ 34 ∷ 125 ∷ [])) a w) → OnOk r (Adds (tagged name (string s)) a w)
  text_tagged name s h =
      let same : (123 ∷ (quoted name ++ 58 ∷ 34 ∷ [])) ++ (escape s ++ 34 ∷ 125 ∷ []) ≡ compact_text (tagged name (string s)) = simp append_assoc in
      brought_as r a w (compact_text (tagged name (string s))) ((123 ∷ (quoted name ++ 58 ∷ 34 ∷ [])) ++ (escape s ++ 34 ∷ 125 ∷ [])) (tagged name (string s)) same (tagged_sound name (string s) (string_sound s)) h

  pub text_tagged_closed : (name s : List ℕ) → OnOk r (Grows ((123 ∷ (quoted name ++ 58 ∷ 34 ∷ [])) ++ (escape s ++ 34 ∷ 125 ∷ 125 ∷ [])) a w) → OnOk r (Closes (tagged name (string s)) a w)
  text_tagged_closed name s h =
      let same : (123 ∷ (quoted name ++ 58 ∷ 34 ∷ [])) ++ (escape s ++ 34 ∷ 125 ∷ 125 ∷ []) ≡ compact_text (tagged name (string s)) ++ 125 ∷ [] = simp append_assoc in
      brought_as r a w (compact_text (tagged name (string s)) ++ 125 ∷ []) ((123 ∷ (quoted name ++ 58 ∷ 34 ∷ [])) ++ (escape s ++ 34 ∷ 125 ∷ 125 ∷ [])) (tagged name (string s)) same (tagged_sound name (string s) (string_sound s)) h

  -- a variant that holds a truth value
  pub truth_tagged : (name : List ℕ) (b : Bool) → OnOk r (Grows ((123 ∷ (quoted name ++ 58 ∷ [])) ++ (compact_text (boolean b) ++ 125 ∷ [])) a w) → OnOk r (Adds (tagged name (boolean b)) a w)
  truth_tagged name b h =
      let same : (123 ∷ (quoted name ++ 58 ∷ [])) ++ (compact_text (boolean b) ++ 125 ∷ []) ≡ compact_text (tagged name (boolean b)) = simp append_assoc in
      brought_as r a w (compact_text (tagged name (boolean b))) ((123 ∷ (quoted name ++ 58 ∷ [])) ++ (compact_text (boolean b) ++ 125 ∷ [])) (tagged name (boolean b)) same (tagged_sound name (boolean b) (boolean_sound b)) h

  pub truth_tagged_closed : (name : List ℕ) (b : Bool) → OnOk r (Grows ((123 ∷ (quoted name ++ 58 ∷ [])) ++ (compact_text (boolean b) ++ 125 ∷ 125 ∷ [])) a w) → OnOk r (Closes (tagged name (boolean b)) a w)
  truth_tagged_closed name b h =
      let same : (123 ∷ (quoted name ++ 58 ∷ [])) ++ (compact_text (boolean b) ++ 125 ∷ 125 ∷ []) ≡ compact_text (tagged name (boolean b)) ++ 125 ∷ [] = simp append_assoc in
      brought_as r a w (compact_text (tagged name (boolean b)) ++ 125 ∷ []) ((123 ∷ (quoted name ++ 58 ∷ [])) ++ (compact_text (boolean b) ++ 125 ∷ 125 ∷ [])) (tagged name (boolean b)) same (tagged_sound name (boolean b) (boolean_sound b)) h

  pub truth_tagged_twice : (name inner : List ℕ) (b : Bool) → OnOk r (Grows ((123 ∷ (quoted name ++ 58 ∷ 123 ∷ (quoted inner ++ 58 ∷ []))) ++ (compact_text (boolean b) ++ 125 ∷ 125 ∷ [])) a w) → OnOk r (Adds (tagged name (tagged inner (boolean b))) a w)
  truth_tagged_twice name inner b h =
      let same : (123 ∷ (quoted name ++ 58 ∷ 123 ∷ (quoted inner ++ 58 ∷ []))) ++ (compact_text (boolean b) ++ 125 ∷ 125 ∷ []) ≡ compact_text (tagged name (tagged inner (boolean b))) = simp append_assoc in
      brought_as r a w (compact_text (tagged name (tagged inner (boolean b)))) ((123 ∷ (quoted name ++ 58 ∷ 123 ∷ (quoted inner ++ 58 ∷ []))) ++ (compact_text (boolean b) ++ 125 ∷ 125 ∷ [])) (tagged name (tagged inner (boolean b))) same (tagged_sound name (tagged inner (boolean b)) (tagged_sound inner (boolean b) (boolean_sound b))) h

  pub text_tagged_twice : (name inner s : List ℕ) → OnOk r (Grows ((123 ∷ (quoted name ++ 58 ∷ 123 ∷ (quoted inner ++ 58 ∷ 34 ∷ []))) ++ (escape s ++ 34 ∷ 125 ∷ 125 ∷ 125 ∷ [])) a w) → OnOk r (Closes (tagged name (tagged inner (string s))) a w)
  text_tagged_twice name inner s h =
      let d = tagged inner (string s) in
      let same : (123 ∷ (quoted name ++ 58 ∷ 123 ∷ (quoted inner ++ 58 ∷ 34 ∷ []))) ++ (escape s ++ 34 ∷ 125 ∷ 125 ∷ 125 ∷ []) ≡ compact_text (tagged name (tagged inner (string s))) ++ 125 ∷ [] = simp append_assoc in
      brought_as r a w (compact_text (tagged name d) ++ 125 ∷ []) ((123 ∷ (quoted name ++ 58 ∷ 123 ∷ (quoted inner ++ 58 ∷ 34 ∷ []))) ++ (escape s ++ 34 ∷ 125 ∷ 125 ∷ 125 ∷ [])) (tagged name d) same (tagged_sound name d (tagged_sound inner (string s) (string_sound s))) h

-- ---- the members of an object

-- a key with its value, and further members with what is after the object
pub member_grows : (l : List ℕ) (y : Data) (ms : Members) (z a b c : List ℕ) → Grows ((44 ∷ (quoted l ++ 58 ∷ [])) ++ compact_text y) a b → Grows (members_text true ms ++ z) b c → Grows (members_text true (member l y ms) ++ z) a c
member_grows l y ms z a b c first rest =
    let same : ((44 ∷ (quoted l ++ 58 ∷ [])) ++ compact_text y) ++ (members_text true ms ++ z) ≡ members_text true (member l y ms) ++ z = simp append_assoc in
    behind a b c ((44 ∷ (quoted l ++ 58 ∷ [])) ++ compact_text y) (members_text true ms ++ z) first rest ∙ ap (λ t. a ++ t) same

-- the last member, which is a text, and the object's end
pub text_member_grows : (l s a b : List ℕ) → Grows ((44 ∷ (quoted l ++ 58 ∷ 34 ∷ [])) ++ (escape s ++ 34 ∷ 125 ∷ [])) a b → Grows (members_text true (member l (string s) no_members) ++ []) a b
text_member_grows l s a b h =
    let same : (44 ∷ (quoted l ++ 58 ∷ 34 ∷ [])) ++ (escape s ++ 34 ∷ 125 ∷ []) ≡ members_text true (member l (string s) no_members) = simp append_assoc in
    h ∙ ap (λ t. a ++ t) (same ∙ sym (append-nil (members_text true (member l (string s) no_members))))

-- the first member of an object
pub object_grows : (k : List ℕ) (x : Data) (ms : Members) (a b c : List ℕ) → Grows ((123 ∷ (quoted k ++ 58 ∷ [])) ++ compact_text x) a b → Grows (members_text true ms ++ []) b c → Grows (compact_text (object (member k x ms))) a c
object_grows k x ms a b c first rest =
    let same : ((123 ∷ (quoted k ++ 58 ∷ [])) ++ compact_text x) ++ members_text true ms ≡ compact_text (object (member k x ms)) = simp append_assoc in
    behind a b c ((123 ∷ (quoted k ++ 58 ∷ [])) ++ compact_text x) (members_text true ms) first (rest ∙ ap (λ t. b ++ t) (append-nil (members_text true ms))) ∙ ap (λ t. a ++ t) same

-- the same of an object that is the second of two values in an array
pub object_follows : (k : List ℕ) (x : Data) (ms : Members) (a b c : List ℕ) → Grows ((44 ∷ 123 ∷ (quoted k ++ 58 ∷ [])) ++ compact_text x) a b → Grows (members_text true ms ++ 93 ∷ []) b c → Grows (44 ∷ (compact_text (object (member k x ms)) ++ 93 ∷ [])) a c
object_follows k x ms a b c first rest =
    let same : ((44 ∷ 123 ∷ (quoted k ++ 58 ∷ [])) ++ compact_text x) ++ (members_text true ms ++ 93 ∷ []) ≡ 44 ∷ (compact_text (object (member k x ms)) ++ 93 ∷ []) = simp append_assoc in
    behind a b c ((44 ∷ 123 ∷ (quoted k ++ 58 ∷ [])) ++ compact_text x) (members_text true ms ++ 93 ∷ []) first rest ∙ ap (λ t. a ++ t) same

-- ---- the items of an array

abbrev AreWhole : List Data → Type 0
AreWhole ds = blank_items (items_outline (items_of ds)) ≡ items_outline (items_of ds)

abbrev AreRead : List Data → Type 0
AreRead ds = of_items (items_outline (items_of ds)) ≡ Some (items_of ds)

abbrev AreNumbers : List Data → Type 0
AreNumbers ds = ItemsHaveNumbers (items_outline (items_of ds))

-- of the items ds some are in, and these are to come; `later` says whether a comma is before the next one
pub record Goes (ds rest : List Data) (later : Bool) (start now : List ℕ) : Type 0 where
  pub text : now ++ items_text later (items_of rest) ≡ start ++ items_text false (items_of ds)
  pub whole : AreWhole rest → AreWhole ds
  pub reads : AreRead rest → AreRead ds
  pub numbers : AreNumbers rest → AreNumbers ds

pub begun : (ds : List Data) (start : List ℕ) → Goes ds ds false start start
begun ds start = record { text = refl; whole = λ h. h; reads = λ h. h; numbers = λ h. h }

goes_on : (ds rest : List Data) (d : Data) (later : Bool) (start a b c : List ℕ) → Goes ds (d ∷ rest) later start a → Grows (comma_if later) a b → Adds d b c → Goes ds rest true start c
goes_on ds rest d later start a b c g comma h =
    let more = items_text true (items_of rest) in
    record {
      text = ap (λ l. l ++ more) (behind a b c (comma_if later) (compact_text d) comma h.grows) ∙ append_assoc a (comma_if later ++ compact_text d) more ∙ ap (λ l. a ++ l) (append_assoc (comma_if later) (compact_text d) more) ∙ g.text;
      whole = λ rests. g.whole (ap₂ json.item h.sound.whole rests);
      reads = λ rests. g.reads (ap₂ (λ (o : Option Data) (p : Option Items). option_and_then (λ x. option_map (item x) p) o) h.sound.reads rests);
      numbers = λ rests. g.numbers (h.sound.numbers, rests);
    }

module _ {A : Type 0} (data_of : A → Data) (made : List A → List Data) (one : (x : A) (ys : List A) → made (x ∷ ys) ≡ data_of x ∷ made ys) (none : made [] ≡ []) (xs : List A) (i : ℕ) (later : Bool) (start a b c : List ℕ) (g : Goes (made xs) (made (drop i xs)) later start a) where
  -- one more item
  pub more_added : (x : A) → i < length xs → x ≡ get_or xs i x → Grows (comma_if later) a b → Adds (data_of x) b c → Goes (made xs) (made (drop (i + 1) xs)) true start c
  more_added x lt at comma h =
      let rest = drop (i + 1) xs in
      let here : made (drop i xs) ≡ data_of x ∷ made rest = ap made (drop_more xs i x lt ∙ ap (λ y. y ∷ rest) (sym at)) ∙ one x rest in
      goes_on (made xs) (made rest) (data_of x) later start a b c (subst (λ ds. Goes (made xs) ds later start a) here g) comma h

  -- past the last one, with the brackets on either side
  pub all_added : {E : Type 0} (r : Result (Unit {0}) E) (before : List ℕ) → length xs ≤ i → Grows (91 ∷ []) before start → OnOk r (Grows (93 ∷ []) a b) → OnOk r (Adds (array (items_of (made xs))) before b)
  all_added r before past opens closes =
      let end : Goes (made xs) [] later start a = subst (λ ds. Goes (made xs) ds later start a) (ap made (drop_all i xs past) ∙ none) g in
      on_ok_weaker r (λ (last : Grows (93 ∷ []) a b). record {
        grows = last ∙ end.text ∙ ap (λ l. l ++ items_text false (items_of (made xs))) opens ∙ append_assoc before (91 ∷ []) (items_text false (items_of (made xs)));
        sound = record { whole = ap json.array (end.whole refl); reads = ap (option_map array) (end.reads refl); numbers = end.numbers tt };
      }) closes

-- one more item of a list that is read by copying
module _ (xs : List Alignment) (i : ℕ) (later : Bool) (start a b c : List ℕ) (d : Alignment) (g : Goes (map alignment_json xs) (map alignment_json (drop i xs)) later start a) (lt : i < length xs) (comma : Grows (comma_if later) a b) where
  pub copied_added_as : (x : Alignment) → x ≡ get_or xs i d → Adds (alignment_json x) b c → Goes (map alignment_json xs) (map alignment_json (drop (i + 1) xs)) true start c
  copied_added_as x at h = more_added alignment_json (λ ys. map alignment_json ys) (λ y ys. refl) refl xs i later start a b c g x lt (at ∙ get_or_default xs i d x lt) comma h

  pub copied_added : Adds (alignment_json (get_or xs i d)) b c → Goes (map alignment_json xs) (map alignment_json (drop (i + 1) xs)) true start c
  copied_added h = copied_added_as (get_or xs i d) refl h

-- ---- the whole text of a value

pub text_added : (d : Data) (a b text : List ℕ) → a ≡ [] → Adds d a b → text ≡ b → text ≡ compact_text d
text_added d a b text none h is = is ∙ h.grows ∙ ap (λ l. l ++ compact_text d) none

tokens_added : (d : Data) (text : List ℕ) → IsSound d → text ≡ compact_text d → tokens text ≡ json_tokens (outline d)
tokens_added d text h is = ap tokens (is ∙ sym (print-outline d)) ∙ tokens-print (json_tokens (outline d)) (ArePrintable-json_tokens (outline d) h.numbers)

pub value_order : (d : Data) (text : List ℕ) → IsSound d → text ≡ compact_text d → IsInOrder text d
value_order d text h is = (outline d, tokens_added d text h is, h.whole)

-- the outline of a value nests as deep as the value
mutual
  outline-depth : (d : Data) → tree.depth (outline d) ≡ depth d
  outline-depth null = refl
  outline-depth (boolean b) = refl
  outline-depth (number n) = refl
  outline-depth (string s) = refl
  outline-depth (array ds) = ap suc (items-depth ds)
  outline-depth (object ms) = ap suc (members-depth ms)

  items-depth : (ds : Items) → tree.items_depth (items_outline ds) ≡ items_depth ds
  items-depth no_items = refl
  items-depth (item d ds) = ap₂ max (outline-depth d) (items-depth ds)

  members-depth : (ms : Members) → tree.members_depth (members_outline ms) ≡ members_depth ms
  members-depth no_members = refl
  members-depth (member k d ms) = ap₂ max (outline-depth d) (members-depth ms)

same_le : (m n top : ℕ) → m ≡ n → n ≤ top → m ≤ top
same_le m n top same h = omega arith

-- the value of all tokens
abbrev whole : Option (json.Json × List Token) → Option Data
whole o = option_and_then of_json (option_and_then (λ p. json.if_last p.0 p.1) o)

-- it reads as the value, if that is no deeper than is read
pub value_read : (d : Data) (text : List ℕ) → IsSound d → text ≡ compact_text d → depth d ≤ max_depth → read text ≡ Some d
value_read d text h is shallow =
    let all = tokens_added d text h is in
    let deep : tree.depth (outline d) ≤ max_depth = same_le (tree.depth (outline d)) (depth d) max_depth (outline-depth d) shallow in
    ap whole (ap (json.value max_depth) (all ∙ sym (append-nil (json_tokens (outline d)))) ∙ value-json_tokens (outline d) max_depth [] deep) ∙ h.reads
