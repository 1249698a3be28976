-- Emphasis and strong emphasis (CommonMark 0.31.2, 6.2). Which runs can open and close is the reader's definition, because it
-- states what left-flanking and right-flanking are, and rules 1 to 8.
use Rattle.std.specs.Prelude.{ℕ, zero, suc, ◌+◌, ◌-◌, ◌%◌, Bool, not, ◌==◌, ◌&&◌, ◌||◌, nat_lt, nat_le, if◌then◌else◌, List, [], ◌∷◌, ◌++◌, reverse, Option, Some, None}
use Rattle.std.specs.List.{fold}
use Rattle.tocmark_read_spans.specs.declared.run.Run.{Run}
use Rattle.tocmark_commonmark.specs.InlineTree.{Inline, Inlines, Emphasis, Strong, Atom, Whole, Delimiters, inlines_of}

-- rules 9 and 10: the delimiters are the same; if one of the two can both open and close, the sum of the lengths must not be a
-- multiple of 3, unless both lengths are
abbrev pub can_match : Run → Run → Bool
can_match o c =
    o.opens && (o.byte == c.byte)
    && not ((o.closes || c.opens) && ((o.length + c.length) % 3 == 0) && not ((o.length % 3 == 0) && (c.length % 3 == 0)))

-- An opening run with what is before it, the last one first, and what is between it and a closing run.
pub record Match : Type 0 where
  pub before : List Atom
  pub opening : Run
  pub between : List Atom

-- the run that an atom is, if a closing run can match it
abbrev pub opener : Run → Atom → Option Run
opener c (Delimiters o) = if can_match o c then Some o else None
opener c a = None

-- this atom is the opening run, or the search goes on before it
abbrev pub match_or : (List Atom → Option Match) → Atom → List Atom → List Atom → Option Run → Option Match
match_or next a before between None = next (a ∷ between)
match_or next a before between (Some o) = Some (record { before = before; opening = o; between = between })

-- rules 14 to 16: the nearest opening run before a closing run that it can match; the atoms before it are last first
abbrev pub nearest : Run → List Atom → List Atom → Option Match
nearest c between [] = None
nearest c between (a ∷ before) = match_or (λ b. nearest c b before) a before between (opener c a)

-- rule 13: strong emphasis, if both runs have two delimiters
abbrev pub width : Run → Run → ℕ
width o c = if nat_le 2 o.count && nat_le 2 c.count then 2 else 1

-- strong emphasis takes two delimiters, emphasis one
abbrev pub emphasis_of : ℕ → Inlines → Inline
emphasis_of n inside = if n == 2 then Strong inside else Emphasis inside

-- what is left of a run without so many delimiters
abbrev pub run_left : ℕ → Run → List Atom
run_left n r = if nat_lt n r.count then Delimiters (record r { count = r.count - n }) ∷ [] else []

-- a closing run and its opening run become emphasis of what is between; what is left of the closing run is next
abbrev pub emphasized_with : (List Atom → List Atom → List Atom) → List Atom → Run → Match → ℕ → List Atom
emphasized_with next rest c m n =
    next (Whole (emphasis_of n (inlines_of m.between)) ∷ run_left n m.opening ++ m.before) (run_left n c ++ rest)

-- a closing run that matches none goes on as it is
abbrev pub matched : (List Atom → List Atom → List Atom) → List Atom → List Atom → Run → Option Match → List Atom
matched next done rest c None = next (Delimiters c ∷ done) rest
matched next done rest c (Some m) = emphasized_with next rest c m (width m.opening c)

-- the run that an atom is, if it can close
abbrev pub closer : Atom → Option Run
closer (Delimiters r) = if r.closes then Some r else None
closer a = None

-- an atom that can't close goes on as it is
abbrev pub closed_or : (List Atom → List Atom → List Atom) → List Atom → Atom → List Atom → Option Run → List Atom
closed_or next done a rest None = next (a ∷ done) rest
closed_or next done a rest (Some c) = matched next done rest c (nearest c [] done)

-- Each closing run, from left to right, takes the nearest opening run that it can match. What is done is last first. Fuel
-- counts down: each step takes an atom or a delimiter.
unfoldable pub emphasis : ℕ → List Atom → List Atom → List Atom
emphasis zero done rest = done
emphasis (suc fuel) done [] = done
emphasis (suc fuel) done (a ∷ rest) = closed_or (λ d r. emphasis fuel d r) done a rest (closer a)

-- an atom is one step, and so is each delimiter
abbrev pub steps : Atom → ℕ
steps (Delimiters r) = r.count + 1
steps a = 1

-- the inlines of atoms
abbrev pub emphasized : List Atom → Inlines
emphasized atoms = inlines_of (reverse (emphasis (fold (λ (n : ℕ) (a : Atom). n + steps a) 1 atoms) [] atoms))
