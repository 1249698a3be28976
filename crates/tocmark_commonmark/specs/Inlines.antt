-- The inlines of a leaf's content (CommonMark 0.31.2, chapter 6), from left to right, without places in the source.
use Rattle.std.specs.Prelude.{ℕ, zero, suc, ◌+◌, Bool, true, false, List, [], ◌∷◌, ◌++◌, length, map, reverse, slice_get, Option, Some, None}
use Rattle.tocmark_commonmark.specs.InlineTree.{Inline, Inlines, Text, Link, Image, Bracket, Atom, Whole, Opening, as_inline}
use Rattle.tocmark_commonmark.specs.Emphasis.{emphasized}
use Rattle.tocmark_commonmark.specs.Tokens.{Kind, CloseBracket, kind_of, Token, token_at}
use Rattle.tocmark_commonmark.specs.Links.{Destination, Target, target}

-- An opening bracket with what is before it, the last one first, and what is between it and a closing bracket.
pub record Enclosed : Type 0 where
  pub before : List Atom
  pub bracket : Bracket
  pub inside : List Atom

-- this atom is the opening bracket, or the search goes on before it
abbrev pub enclosed_or : (List Atom → Option Enclosed) → List Atom → List Atom → Atom → Option Enclosed
enclosed_or next before inside (Opening b) = Some (record { before = before; bracket = b; inside = inside })
enclosed_or next before inside a = next (a ∷ inside)

-- 6.3: the nearest opening bracket before a closing bracket
abbrev pub enclosed : List Atom → List Atom → Option Enclosed
enclosed inside [] = None
enclosed inside (a ∷ before) = enclosed_or (λ i. enclosed i before) before inside a

-- an opening bracket begins no link any more
abbrev pub inactive : Atom → Atom
inactive (Opening b) = Opening (record b { is_active = false })
inactive a = a

-- 6.3: links can't contain other links, so the brackets before a link begin none; images can
abbrev pub before_link : Bool → List Atom → List Atom
before_link true before = before
before_link false before = map inactive before

-- 6.3, 6.4: a link or an image
abbrev pub linked : Bool → Target → Inlines → Inline
linked true t inside = Image t.link_type t.destination t.title t.label inside
linked false t inside = Link t.link_type t.destination t.title t.label inside

-- brackets that are no link are text
abbrev pub link_or : (ℕ → List Atom → List Atom) → ℕ → Enclosed → Option Target → List Atom
link_or next place e None =
    next (place + 1) (Whole (Text (93 ∷ [])) ∷ reverse e.inside ++ Whole (as_inline (Opening e.bracket)) ∷ e.before)
link_or next place e (Some t) =
    next t.end (Whole (linked e.bracket.is_image t (emphasized e.inside)) ∷ before_link e.bracket.is_image e.before)

-- 6.3: a closing bracket takes the nearest opening one, with what follows
abbrev pub bracket_closed : (ℕ → List Atom → List Atom) → List ℕ → List Destination → ℕ → List Atom → Option Enclosed → List Atom
bracket_closed next bytes labels place done None = next (place + 1) (Whole (Text (93 ∷ [])) ∷ done)
bracket_closed next bytes labels place done (Some e) = link_or next place e (target bytes labels e.bracket place)

-- one more token
abbrev pub and_token : (ℕ → List Atom → List Atom) → List Atom → Token → List Atom
and_token next done t = next t.end (t.atom ∷ done)

-- a closing bracket, or a token
abbrev pub scanned_at : (ℕ → List Atom → List Atom) → List ℕ → List Destination → ℕ → List Atom → ℕ → Kind → List Atom
scanned_at next bytes labels place done b CloseBracket = bracket_closed next bytes labels place done (enclosed [] done)
scanned_at next bytes labels place done b k = and_token next done (token_at bytes place b k)

-- the end, or a byte
abbrev pub scanned_if : (ℕ → List Atom → List Atom) → List ℕ → List Destination → ℕ → List Atom → Option ℕ → List Atom
scanned_if next bytes labels place done None = done
scanned_if next bytes labels place done (Some b) = scanned_at next bytes labels place done b (kind_of b)

-- the atoms from a place on, after those that are done, the last one first; fuel counts down, because each step takes a byte
unfoldable pub scanned : ℕ → List ℕ → List Destination → ℕ → List Atom → List Atom
scanned zero bytes labels place done = done
scanned (suc fuel) bytes labels place done =
    scanned_if (λ p d. scanned fuel bytes labels p d) bytes labels place done (slice_get bytes place)

-- The inlines of a content.
unfoldable pub inlines : List Destination → List ℕ → Inlines
inlines labels bytes = emphasized (reverse (scanned (length bytes + 1) bytes labels 0 []))
