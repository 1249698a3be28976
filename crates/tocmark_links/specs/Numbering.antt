-- What is known while headings are numbered: the names that are taken, each with the last number that was tried after it.
use Rattle.std.specs.Prelude.{ℕ, ◌<◌, ◌≤◌, true, false, List, ◌∷◌, Some, None, ◌≡◌, String, string_bytes}
use Rattle.std.specs.HashMap.{HashMap, get_by_text}
use Rattle.std.specs.Option.{is_some}
use Rattle.tocmark_links.specs.Anchors.{numbered, is_taken, IsFirstFree, HasItsName, names_after}
use Rattle.tocmark_links.specs.Slug.{slug_of}
use Rattle.tocmark_links.specs.declared.anchors.Anchor.{Anchor}
use Rattle.tocmark_links.specs.declared.slug.Slugs.{Slugs}

module _ {Y S : Type 0} where
  -- a map has just these names, and each number up to the one that it has after a name is taken there
  pub record Counts (slugs : Slugs) (names : List (List ℕ)) (taken : HashMap (String Y) ℕ S) : Type 0 where
    pub same : (name : List ℕ) → is_some (get_by_text taken name) ≡ is_taken names name
    pub tried : (name : List ℕ) (last n : ℕ) → get_by_text taken name ≡ Some last → n ≤ last → is_taken names (numbered slugs name n) ≡ true

  -- the first number from one on with which an anchor isn't in a map
  pub record IsFirstFrom (slugs : Slugs) (taken : HashMap (String Y) ℕ S) (base : List ℕ) (from number : ℕ) (name : List ℕ) : Type 0 where
    pub has_number : name ≡ numbered slugs base number
    pub is_free : is_some (get_by_text taken name) ≡ false
    pub is_first : (n : ℕ) → from ≤ n → n < number → is_some (get_by_text taken (numbered slugs base n)) ≡ true

  -- the next heading gets this name
  abbrev pub IsNext : Slugs → List ℕ → HashMap (String Y) ℕ S → HashMap (String Y) ℕ S → List ℕ → Type 0
  IsNext slugs words old new name = (names : List (List ℕ)) → Counts slugs names old
      → IsFirstFree slugs names (slug_of slugs words) name × Counts slugs (name ∷ names) new

  -- the next anchor has its name
  abbrev pub IsGivenBy : Slugs → HashMap (String Y) ℕ S → HashMap (String Y) ℕ S → Anchor → Type 0
  IsGivenBy slugs old new a = (names : List (List ℕ)) → Counts slugs names old
      → HasItsName slugs names a.kind (string_bytes a.words) (string_bytes a.name)
      × Counts slugs (names_after names a.kind (string_bytes a.name)) new
