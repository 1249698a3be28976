-- How link labels match (CommonMark 6.3), and which definition counts (4.7).
use Rattle.std.specs.Prelude.{ℕ, Bool, true, false, not, ◌+◌, ◌==◌, ◌&&◌, if◌then◌else◌, List, [], ◌∷◌, ◌++◌, length, fold, chars, bytes_eq, encode_utf8_all, Option, Some, None}
use Rattle.std.specs.Str.Lossy.{utf8_lossy}
use Rattle.caseless.specs.Caseless.{default_case_fold}
use Rattle.tocmark_read_scan.specs.Basic.{plus}
use Rattle.tocmark_read_scan.specs.Class.{is_in}
use Rattle.tocmark_read_scan.specs.declared.class.Class.TheVariants.{White}
use Rattle.tocmark_read_tokens.specs.declared.label.Collapsing.{Collapsing}

-- what is collapsed so far, and whether white space came last
pub record State : Type 0 where
  pub out : List ℕ
  pub blank : Bool

-- the machine as its list and its mark
abbrev pub collapsing : Collapsing → State
collapsing c = record { out = c.out.items; blank = c.blank }

-- white space came last, and not at the front
abbrev pub is_blank_due : State → Bool
is_blank_due s = s.blank && not (length s.out == 0)

-- what is collapsed, with the space that is due
abbrev pub with_blank : State → List ℕ
with_blank s = if is_blank_due s then s.out ++ 32 ∷ [] else s.out

-- one byte further: white space is written as one space before the next byte, and not at the front
unfoldable pub collapse_step : State → ℕ → State
collapse_step s b =
    if is_in White b then record s { blank = true }
    else record { out = with_blank s ++ b ∷ []; blank = false }

-- nothing is collapsed yet
abbrev pub collapse_start : State
collapse_start = record { out = []; blank = false }

-- the label with one space for each stretch of white space, and none at its ends
unfoldable pub collapsed : List ℕ → List ℕ
collapsed label = (fold collapse_step collapse_start label).out

-- what matching labels have in common
unfoldable pub key_of : List ℕ → List ℕ
key_of label = encode_utf8_all (default_case_fold (chars (utf8_lossy (collapsed label))))

-- the first place of a key in a list whose places are counted from n
abbrev pub first_place : ℕ → List (List ℕ) → List ℕ → Option ℕ
first_place n [] q = None
first_place n (k ∷ ks) q = if bytes_eq k q then Some n else first_place (n + 1) ks q

-- the first place of a key is this one
abbrev pub is_at : ℕ → Option ℕ → Bool
is_at place None = false
is_at place (Some first) = first == place

-- a place, or none
abbrev pub place_if : Bool → ℕ → List ℕ
place_if b place = if b then place ∷ [] else []

-- the places, counted from n, at which a key of the list stands for the first time
abbrev pub distinct_from : ℕ → List (List ℕ) → List (List ℕ) → List ℕ
distinct_from n all [] = []
distinct_from n all (k ∷ ks) = place_if (is_at n (first_place 0 all k)) n ++ distinct_from (plus n 1) all ks
