-- What is no part of a value is no whole either.
use Rattle.std.proofs.Common.{◌≡◌, ◌∙◌, ◌<◌, ℕ, zero, suc, Bool, List, [], ◌∷◌, IfErr, IfNone, IsErrAnd, Option, None, Some, Result, Ok, Err, ap, arith, codes, get_or, length, map, subst, sym}
use Rattle.serde_json.specs.Data.{Data, null, string, array, item, object, member, no_members}
use Rattle.serde_json.specs.View.{items_of}
use Rattle.tocmark_json.specs.Node.{items_view, view}
use Rattle.tocmark_json.specs.declared.node.Node.{Node}
use Rattle.tocmark_event.specs.View.{TagView}
use Rattle.tocmark_event.specs.declared.event.HeadingLevel.{HeadingLevel}
use Rattle.tocmark_event.specs.declared.event.LinkType.TheVariants as link
use Rattle.tocmark_json.specs.Json.{full_place_json, heading_json, link_type_json, listed, optional, place_json, quote_json, size_json, spanned_or_targeted, tag_json, tagged, target_json, target_place_json}
use Rattle.tocmark_json.specs.Place.{IsNoneOf, Refuses}
use Rattle.tocmark_json.specs.declared.fault.Fault.{Fault}
use Rattle.tocmark_json.specs.declared.fault.Fault.TheVariants as fault
use Rattle.tocmark_json.proofs.Inverse.{attribute_of, content, level_of, link_type_of, list_of, option_of, quote_of, tag-back, tag_of, text_of}

-- whatever the fault is
pub refused : {A : Type 0} (json : A → Data) (value : Data) → IsNoneOf json value → (e : Fault) → Refuses json value e
refused json value lacks (fault.Wanted key wanted) = lacks
refused json value lacks fault.OutOfMemory = tt

-- the fault of a part is one of the whole
pub lifted : {A B : Type 0} (part : A → Data) (whole : B → Data) (v w : Data) → (IsNoneOf part v → IsNoneOf whole w) → (e : Fault) → Refuses part v e → Refuses whole w e
lifted part whole v w step (fault.Wanted key wanted) h = step h
lifted part whole v w step fault.OutOfMemory h = tt

-- the same where it is handed on
pub handed_on : {T A B : Type 0} (r : Result T Fault) (part : A → Data) (whole : B → Data) (v w : Data) → (IsNoneOf part v → IsNoneOf whole w) → IfErr r (Refuses part v) → IfErr r (Refuses whole w)
handed_on (Ok x) part whole v w step h = tt
handed_on (Err e) part whole v w step h = lifted part whole v w step e h

-- the same where a `?` returns it
pub returned : {T A B : Type 0} (r : Result T Fault) (e : Fault) → IsErrAnd r (λ y. y ≡ e) → (part : A → Data) (whole : B → Data) (v w : Data) → (IsNoneOf part v → IsNoneOf whole w) → Refuses part v e → IfErr r (Refuses whole w)
returned (Ok x) e is part whole v w step h = absurd is
returned (Err y) e is part whole v w step h = subst (λ (f : Fault). Refuses whole w f) (sym is) (lifted part whole v w step e h)

pub none_given : {T : Type 0} (o : Option T) (P : Type 0) → P → IfNone o P
none_given None P p = p
none_given (Some x) P p = tt

-- ---- arrays

no-item : {A : Type 0} (json : A → Data) (vs : List Node) (i : ℕ) (there : Node) → i < length vs → there ≡ get_or vs i there → (xs : List A) → items_view vs ≡ items_of (map json xs) → IsNoneOf json (view there) → ⊥
no-item json [] i there lt at xs is lacks = absurd (omega arith)
no-item json (v ∷ vs) i there lt at [] is lacks = absurd cc
no-item json (v ∷ vs) zero there lt at (x ∷ xs) is lacks =
    let step : item (view v) (items_view vs) ≡ item (json x) (items_of (map json xs)) = is in
    let first : view v ≡ json x = cc in
    lacks x (ap view at ∙ first)
no-item json (v ∷ vs) (suc i) there lt at (x ∷ xs) is lacks =
    let step : item (view v) (items_view vs) ≡ item (json x) (items_of (map json xs)) = is in
    let rest : items_view vs ≡ items_of (map json xs) = cc in
    no-item json vs i there (omega arith) at xs rest lacks

-- a list with an item of another form is no list of the form
pub no_list : {A : Type 0} (json : A → Data) (vs : List Node) (i : ℕ) (there : Node) → i < length vs → there ≡ get_or vs i there → IsNoneOf json (view there) → IsNoneOf (listed json) (array (items_view vs))
no_list json vs i there lt at lacks xs is =
    let inner : items_view vs ≡ items_of (map json xs) = cc in
    no-item json vs i there lt at xs inner lacks

pub no_list_in : {A : Type 0} (json : A → Data) (v : Data) (vs : List Node) → v ≡ array (items_view vs) → (i : ℕ) (there : Node) → i < length vs → there ≡ get_or vs i there → IsNoneOf json (view there) → IsNoneOf (listed json) v
no_list_in json v vs is i there lt at lacks xs h = no_list json vs i there lt at lacks xs (sym is ∙ h)

-- ---- cases

-- a place is null, or an object with two, six or eight members
pub no_place : (v : Data) → (v ≡ null → ⊥) → ((a b : Data) → v ≡ object (member (codes "end") a (member (codes "start") b no_members)) → ⊥) → IsNoneOf target_place_json v → IsNoneOf full_place_json v → IsNoneOf place_json v
no_place v not_null two eight six (None, d) h = not_null h
no_place v not_null two eight six (Some r, None) h = two (size_json r.1) (size_json r.0) h
no_place v not_null two eight six (Some r, Some d) h = by d.destination h
  where
    by : (o : Option (ℕ × ℕ)) → v ≡ spanned_or_targeted r d.span o → ⊥
    by None is = six (r, d.span) is
    by (Some place) is = eight (r, (d.span, place)) is

-- a type of link is a string, or that of a wiki link
pub no_link_type : (v : Data) → IsNoneOf string v → IsNoneOf (λ (b : Bool). link_type_json (link.WikiLink b)) v → IsNoneOf link_type_json v
no_link_type v text wiki link.Inline h = text (codes "Inline") h
no_link_type v text wiki link.Reference h = text (codes "Reference") h
no_link_type v text wiki link.ReferenceUnknown h = text (codes "ReferenceUnknown") h
no_link_type v text wiki link.Collapsed h = text (codes "Collapsed") h
no_link_type v text wiki link.CollapsedUnknown h = text (codes "CollapsedUnknown") h
no_link_type v text wiki link.Shortcut h = text (codes "Shortcut") h
no_link_type v text wiki link.ShortcutUnknown h = text (codes "ShortcutUnknown") h
no_link_type v text wiki link.Autolink h = text (codes "Autolink") h
no_link_type v text wiki link.Email h = text (codes "Email") h
no_link_type v text wiki (link.WikiLink b) h = wiki b h

-- ---- objects with one member

-- a value that is that of something is that of what it is the value of
exact : {A : Type 0} (json : A → Data) (back : Data → A) → ((a : A) → back (json a) ≡ a) → (d : Data) (a : A) → d ≡ json a → d ≡ json (back d)
exact json back is d a h = h ∙ sym (ap json (is a)) ∙ sym (ap (λ x. json (back x)) h)

module _ (v : Data) where
  tag_at : (name : List ℕ) (t : TagView) → tagged name v ≡ tag_json t → v ≡ content 0 (tag_json (tag_of (tagged name v)))
  tag_at name t h = ap (content 0) (exact tag_json tag_of tag-back (tagged name v) t h)

  pub no_heading : ((l : HeadingLevel) (id : Option (List ℕ)) (classes : List (List ℕ)) (attrs : List (List ℕ × Option (List ℕ))) → v ≡ heading_json l id classes attrs → ⊥) → IsNoneOf tag_json (tagged (codes "Heading") v)
  no_heading lacks t h = lacks (level_of (content 3 v)) (option_of text_of (content 2 v)) (list_of text_of (content 1 v)) (list_of attribute_of (content 0 v)) (tag_at (codes "Heading") t h)

  pub no_quote : IsNoneOf (optional quote_json) v → IsNoneOf tag_json (tagged (codes "BlockQuote") v)
  no_quote lacks t h = lacks (option_of quote_of v) (tag_at (codes "BlockQuote") t h)

  pub no_link : IsNoneOf target_json v → IsNoneOf tag_json (tagged (codes "Link") v)
  no_link lacks t h = lacks (link_type_of (content 2 v), text_of (content 0 v), text_of (content 3 v), text_of (content 1 v)) (tag_at (codes "Link") t h)

  pub no_image : IsNoneOf target_json v → IsNoneOf tag_json (tagged (codes "Image") v)
  no_image lacks t h = lacks (link_type_of (content 2 v), text_of (content 0 v), text_of (content 3 v), text_of (content 1 v)) (tag_at (codes "Image") t h)
