-- The anchors of a page: how those of its headings are numbered.
use Rattle.std.specs.Prelude.{ℕ, ◌<◌, ◌==◌, Bool, true, false, List, [], ◌∷◌, ◌++◌, Option, ◌≡◌, decimal, string_bytes, if◌then◌else◌}
use Rattle.std.specs.List.{list_any}
use Rattle.std.specs.Str.{bytes_eq}
use Rattle.tocmark_links.specs.Slug.{slug_of}
use Rattle.tocmark_links.specs.declared.anchors.Anchor.{Anchor}
use Rattle.tocmark_links.specs.declared.anchors.AnchorKind.{AnchorKind}
use Rattle.tocmark_links.specs.declared.anchors.AnchorKind.TheVariants.{Heading, Named, Html}
use Rattle.tocmark_links.specs.declared.slug.Slugs.{Slugs}
use Rattle.tocmark_links.specs.declared.slug.Slugs.TheVariants.{GitHub, MdBook, Python}

-- what is between an anchor and its number
abbrev pub joint : Slugs → ℕ
joint GitHub = 45
joint MdBook = 45
joint Python = 95

-- an anchor with a number after it; with 0 itself
abbrev pub numbered : Slugs → List ℕ → ℕ → List ℕ
numbered slugs base number = if number == 0 then base else base ++ (joint slugs ∷ decimal number)

-- the names that are taken before the first heading: Python-Markdown gives no heading an empty one
abbrev pub reserved : Slugs → List (List ℕ)
reserved GitHub = []
reserved MdBook = []
reserved Python = [] ∷ []

-- whether a name is one of those that are taken
abbrev pub is_taken : List (List ℕ) → List ℕ → Bool
is_taken names name = list_any (bytes_eq name) names

-- the first of `a`, `a-1`, `a-2` and so on that isn't taken
pub record IsFirstFree (slugs : Slugs) (names : List (List ℕ)) (base name : List ℕ) : Type 0 where
  pub number : ℕ
  pub has_number : name ≡ numbered slugs base number
  pub is_free : is_taken names name ≡ false
  pub is_first : (n : ℕ) → n < number → is_taken names (numbered slugs base n) ≡ true

-- a heading that doesn't name its anchor has its slug, numbered
abbrev pub HasItsName : Slugs → List (List ℕ) → AnchorKind → List ℕ → List ℕ → Type 0
HasItsName slugs names Heading words name = IsFirstFree slugs names (slug_of slugs words) name
HasItsName slugs names Named words name = Unit {0}
HasItsName slugs names Html words name = Unit {0}

-- the names that are taken after an anchor: HTML takes none
abbrev pub names_after : List (List ℕ) → AnchorKind → List ℕ → List (List ℕ)
names_after names Heading name = name ∷ names
names_after names Named name = name ∷ names
names_after names Html name = names

-- each heading has its name, by the names of the headings before it
abbrev pub AreNumbered : Slugs → List (List ℕ) → List Anchor → Type 0
AreNumbered slugs names [] = Unit {0}
AreNumbered slugs names (a ∷ rest) =
    HasItsName slugs names a.kind (string_bytes a.words) (string_bytes a.name)
    × AreNumbered slugs (names_after names a.kind (string_bytes a.name)) rest

-- the name that an anchor has without being numbered
abbrev pub own_name : AnchorKind → List ℕ → List ℕ
own_name Heading name = []
own_name Named name = name
own_name Html name = name

-- an anchor without the name that it gets by numbering
abbrev pub unnumbered : Anchor → AnchorKind × List ℕ × List ℕ × ℕ × Option (ℕ × ℕ) × ℕ
unnumbered a = (a.kind, own_name a.kind (string_bytes a.name), string_bytes a.words, a.level, a.place, a.line)
